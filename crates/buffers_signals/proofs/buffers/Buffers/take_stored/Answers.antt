use Rattle.std.proofs.Common.{◌≡◌, ℕ, ◌∷◌, List, length, length-set, Option, None, arith, ap, sym, ◌∙◌}
use Rattle.std.specs.Prelude.{slice_index_or, is_some}
use Rattle.std.proofs.lemmas.Option.{same_Some, slice_get_within}
use Rattle.kernel_base.specs.declared.answer.Answer.TheVariants.{Got}
use Rattle.kernel_base.specs.declared.request.Alternative.{Alternative}
use Rattle.world_model.specs.declared.world.StoredValue.{StoredValue}
use Rattle.world_model.specs.Lists.{number_for}
use Rattle.world_model.proofs.ChangedLists.{read_is}
use Rattle.value_queues.specs.Queues.{values_in, stored_but, first_rank}
use Rattle.value_queues.proofs.Counted.{first_within}
use Rattle.buffers_signals.specs.Buffers.{SeenBuffers}
use Rattle.buffers_signals.specs.Ranks.{is_unbuffered}
use Rattle.buffers_signals.specs.Steps.{values}
use Rattle.buffers_signals.proofs.Choosing.{refills_like}
use Rattle.buffers_signals.proofs.Distinct.{distinct_fewer, taken_fewer, only_taken}
use Rattle.buffers_signals.proofs.buffers.Buffers.take_stored.Goals as goal

head_same : (x y : StoredValue) (xs ys : List StoredValue) → x ∷ xs ≡ y ∷ ys → x ≡ y
head_same x y xs ys is = cc

abbrev nothing : Alternative
nothing = record { thing = 0; number = 0 }

pub take_first-value-requires : goal.take_first-value-requires
take_first-value-requires c =
    let front = c.requires.front in
    let listed : slice_index_or c.args.buffers.now c.args.place nothing ≡ c.requires.front.listed = read_is c.args.buffers.now c.args.place nothing front.listed front.at in
    let first = ap (λ (v : SeenBuffers). values_in v.stored (slice_index_or c.args.buffers.now c.args.place nothing).thing) c.self.view_is ∙ ap (λ (a : Alternative). values_in c.args.self.now.stored a.thing) listed ∙ front.first in
    ap (λ (vs : List StoredValue). is_some (first_rank vs)) first

pub refill-refill-requires-clause-buffered : goal.refill-refill-requires-clause-buffered
refill-refill-requires-clause-buffered c =
    let front = c.requires.front in
    let listed : slice_index_or c.args.buffers.now c.args.place nothing ≡ c.requires.front.listed = read_is c.args.buffers.now c.args.place nothing front.listed front.at in
    ap (λ (xs : List (Option ℕ)). is_unbuffered xs (slice_index_or c.args.buffers.now c.args.place nothing).thing) (c.as_slice.ensures ∙ ap (λ (v : SeenBuffers). v.lengths) c.self.view_is)
    ∙ ap (λ (a : Alternative). is_unbuffered c.args.self.now.lengths a.thing) listed ∙ front.length

pub refill-refill-requires-clause-there : goal.refill-refill-requires-clause-there
refill-refill-requires-clause-there c =
    let taken = c.take_first-value.ensures.taken in
    let stored = c.self.inside.stored.values in
    let low = first_within stored (slice_index_or c.args.buffers.now c.args.place nothing).thing c.take_first-value.result taken.rest taken.was in
    omega (arith, low, ap length taken.new_is, length-set stored (slice_index_or c.args.buffers.now c.args.place nothing).thing taken.rest)

pub returns-clause-got : goal.returns-clause-got
returns-clause-got c =
    let front = c.requires.front in
    let now = c.args.self.now in
    let inside = c.self.inside in
    let buffer = (slice_index_or c.args.buffers.now c.args.place nothing).thing in
    let result = c.take_first-value.result in
    let taken = c.take_first-value.ensures.taken in
    let listed : slice_index_or c.args.buffers.now c.args.place nothing ≡ c.requires.front.listed = read_is c.args.buffers.now c.args.place nothing front.listed front.at in
    let first = ap (λ (v : SeenBuffers). values_in v.stored (slice_index_or c.args.buffers.now c.args.place nothing).thing) c.self.view_is ∙ ap (λ (a : Alternative). values_in c.args.self.now.stored a.thing) listed ∙ front.first in
    let value : c.take_first-value.result ≡ c.requires.front.value = head_same result front.value taken.rest front.rest (sym taken.was ∙ first) in
    let number : c.unwrap-alternative.result ≡ c.requires.front.choice.alternative = same_Some c.unwrap-alternative.result c.requires.front.choice.alternative
    (sym c.unwrap-alternative.ensures ∙ c.number_for.ensures ∙ ap (λ (a : Alternative). number_for c.args.buffers.now a.thing) listed ∙ front.choice.listed) in
    let stored : c.take_first-value.new.self.values ≡ stored_but c.requires.front.value.send c.args.self.now.stored =
    only_taken inside.stored.values c.take_first-value.new.self.values inside.senders.senders inside.last buffer result c.self.invariant.well.distinct taken
    ∙ ap (λ (v : StoredValue). stored_but v.send c.self.inside.stored.values) value ∙ ap (λ (v : SeenBuffers). stored_but c.requires.front.value.send v.stored) c.self.view_is in
    let lengths = ap (λ (xs : List (Option ℕ)). slice_index_or xs (slice_index_or c.args.buffers.now c.args.place nothing).thing None) (c.as_slice.ensures ∙ ap (λ (v : SeenBuffers). v.lengths) c.self.view_is)
    ∙ ap (λ (a : Alternative). slice_index_or c.args.self.now.lengths a.thing None) listed in
    record {
      taken = record { buffer = front.listed.thing; value = front.value };
      choice = front.choice;
      is = c.answer_with.ensures ∙ ap (λ (k : ℕ). Got k result.send result.scalars result.sender) number ∙ ap (λ (v : StoredValue). Got front.choice.alternative v.send v.scalars v.sender) value;
      refills = refills_like _ (slice_index_or now.lengths front.listed.thing None) c.take_first-value.new.self.values (stored_but front.value.send now.stored) inside.senders.senders now.senders _ buffer front.listed.thing front.value.sender c.refill-refill.result lengths stored (ap (λ (v : SeenBuffers). v.senders) c.self.view_is) (ap (λ (a : Alternative). a.thing) listed) (c.refill-refill.ensures.refills front.value.sender);
      receivers = ap (λ (v : SeenBuffers). v.receivers) c.self.view_is;
    }

pub refill-refill-requires-clause-place : goal.refill-refill-requires-clause-place
refill-refill-requires-clause-place c =
    let low = slice_get_within c.args.buffers.now c.args.place c.requires.front.listed c.requires.front.at in
    let there = c.requires.there c.args.place nothing low in
    let lengths = ap (λ (v : SeenBuffers). length v.lengths) c.self.view_is in
    omega (arith, there, lengths, c.self.invariant.sending)

pub invariant_of-self : goal.invariant_of-self
invariant_of-self c =
    let inv = c.self.invariant.well in
    let inside = c.self.inside in
    let buffer = (slice_index_or c.args.buffers.now c.args.place nothing).thing in
    let taken = c.take_first-value.ensures.taken in
    record {
      well = record {
        senders_once = c.refill-refill.ensures.once;
        receivers_once = inv.receivers_once;
        each = c.refill-refill.ensures.each ∙ ap length taken.new_is ∙ length-set inside.stored.values buffer taken.rest ∙ inv.each;
        distinct = distinct_fewer (values inside.stored.values inside.senders.senders) (values c.refill-refill.new.stored.values c.refill-refill.new.senders.senders) inside.last
            (λ send. let same = c.refill-refill.ensures.times send in let fewer = taken_fewer c.self.inside.stored.values c.take_first-value.new.self.values c.self.inside.senders.senders (slice_index_or c.args.buffers.now c.args.place nothing).thing c.take_first-value.result taken send in omega (arith, same, fewer)) inv.distinct;
      };
      sending = c.refill-refill.ensures.places ∙ c.self.invariant.sending;
      receiving = c.self.invariant.receiving;
    }
