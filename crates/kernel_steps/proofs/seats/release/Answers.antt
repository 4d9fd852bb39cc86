use Rattle.std.proofs.Common.{ℕ, get_or, rules, refl, ap, sym, ◌∙◌, ◌≡◌, ◌<◌, length, length-set, subst}
use Rattle.std.specs.Prelude.{slice_get, slice_set, Some, None, List}
use Rattle.std.specs.declared.option.Option.{Option}
use Rattle.kernel_base.specs.declared.answer.Answer.{Answer}
use Rattle.world_model.specs.World.{freed}
use Rattle.world_model.proofs.ChangedLists.{written_elsewhere}
use Rattle.region_kernel.specs.Regions.{Changes, SeenRegions, queue_but, queue_of}
use Rattle.kernel_steps.specs.declared.seats.Copies.{Copies}
use Rattle.kernel_steps.specs.declared.seats.Going.{Going}
use Rattle.kernel_steps.specs.Seated.{twice, Settles}
use Rattle.std.proofs.lemmas.Option.{get_or_from_slice_get}
use Rattle.kernel_steps.proofs.Placed.{some_instance}
use Rattle.kernel_steps.proofs.Idle.{queued_is}
use Rattle.kernel_steps.proofs.Steps.{in_table, in_fetched, in_chosen, frees, frees_to}
use Rattle.kernel_steps.proofs.seats.release.Goals as goal

-- the copies that were taken out of their slot
slot_copies : (chosen : List (Option Copies)) (who : ℕ) (old taken : Option Copies) (copies : Copies) (answer : Answer) → slice_get chosen who ≡ Some (Some (twice answer)) → old ≡ get_or chosen who old → taken ≡ old → taken ≡ Some copies → copies ≡ twice answer
slot_copies chosen who old taken copies answer at is t some = let e : Some copies ≡ Some (twice answer) = sym some ∙ t ∙ is ∙ get_or_from_slice_get chosen who (Some (twice answer)) old at in cc

slot_taken : (chosen : List (Option Copies)) (who : ℕ) (old taken : Option Copies) (answer : Answer) → slice_get chosen who ≡ Some (Some (twice answer)) → old ≡ get_or chosen who old → taken ≡ old → taken ≡ None → ⊥
slot_taken chosen who old taken answer at is t none = let e : None ≡ Some (twice answer) = sym none ∙ t ∙ is ∙ get_or_from_slice_get chosen who (Some (twice answer)) old at in let f : ⊥ = cc in f

pub returns-in_err-who-clause-settles : goal.returns-in_err-who-clause-settles
returns-in_err-who-clause-settles c = λ w who h owns.
    let s = c.args.seats.now in
    let none : c.from_residual.result ≡ None = search rules in
    subst (λ (r : Option Going). Settles (freed w who c.args.region) s (record s { regions = c.free.new.self }) r) (sym none)
    (frees w s _ who c.args.region owns (sym c.in_err-who.ensures.answer) (record { processes = refl; phases = refl; backs = refl; chosen = refl; fetch_each = refl }) refl c.in_err-who.ensures.occupants c.in_err-who.ensures.locks c.in_err-who.ensures.queues h)

pub index_mut-requires : goal.index_mut-requires
index_mut-requires c =
    let r = c.requires.seated in
    let q = queued_is r.0 c.args.seats.now c.args.region c.in_ok-who.who (sym c.in_ok-who.ensures.answer) r.2.placed in
    let low : c.in_ok-who.who < length c.args.seats.now.chosen.items = in_chosen r.0 c.args.seats.now c.in_ok-who.who _ r.2.placed q.chosen in
    search rules

pub returns-in_err-copies-clause-settles : goal.returns-in_err-copies-clause-settles
returns-in_err-copies-clause-settles c = λ w who h owns. absurd (
    let q = queued_is w c.args.seats.now c.args.region c.in_ok-who.who (sym c.in_ok-who.ensures.answer) h.placed in
    let at = h.placed.answers c.in_ok-who.who q.answer _ q.chosen in
    slot_taken c.args.seats.now.chosen.items c.in_ok-who.who c.index_mut.result.now c.replace.result q.answer at c.index_mut.ensures.value c.replace.ensures.value c.in_err-copies.was)

pub go-requires-clause-first : goal.go-requires-clause-first
go-requires-clause-first c =
    let r = c.requires.seated in
    let q = queued_is r.0 c.args.seats.now c.args.region c.in_ok-who.who (sym c.in_ok-who.ensures.answer) r.2.placed in
    some_instance r.0 c.args.seats.now c.in_ok-who.who _ r.2.placed q.chosen (λ e. let f : ⊥ = cc in f)

pub go-requires-clause-made : goal.go-requires-clause-made
go-requires-clause-made c =
    let r = c.requires.seated in
    let q = queued_is r.0 c.args.seats.now c.args.region c.in_ok-who.who (sym c.in_ok-who.ensures.answer) r.2.placed in
    in_table r.0 c.args.seats.now c.in_ok-who.who _ r.2.placed q.chosen

pub go-requires-clause-fetch : goal.go-requires-clause-fetch
go-requires-clause-fetch c =
    let r = c.requires.seated in
    let q = queued_is r.0 c.args.seats.now c.args.region c.in_ok-who.who (sym c.in_ok-who.ensures.answer) r.2.placed in
    in_fetched r.0 c.args.seats.now c.in_ok-who.who _ r.2.placed q.chosen

pub returns-clause-settles : goal.returns-clause-settles
returns-clause-settles c = λ w who h owns.
    let q = queued_is w c.args.seats.now c.args.region c.in_ok-who.who (sym c.in_ok-who.ensures.answer) h.placed in
    let s = c.args.seats.now in
    let at = h.placed.answers c.in_ok-who.who q.answer _ q.chosen in
    let same = slot_copies s.chosen.items c.in_ok-who.who c.index_mut.result.now c.replace.result c.in_ok-copies.copies q.answer at c.index_mut.ensures.value c.replace.ensures.value c.in_ok-copies.was in
    frees_to w s c.go.new.seats who c.args.region c.in_ok-who.who q.answer c.go.result owns q.chosen c.go.ensures.who (c.go.ensures.answer ∙ ap (λ (x : Copies). x.noted) same)
    (record {
      processes = c.go.ensures.processes;
      phases = c.go.ensures.phases;
      backs = ap (λ v. v.items) c.go.ensures.backs;
      chosen = λ n apart. ap (λ v. slice_get v.items n) c.go.ensures.chosen ∙ written_elsewhere s.chosen.items c.in_ok-who.who n _ apart;
      answer_each = ap (λ v. length v.items) c.go.ensures.chosen ∙ length-set s.chosen.items c.in_ok-who.who _;
      unfetched = c.go.ensures.unfetched ∙ ap (λ (x : Copies). slice_set s.unfetched.items c.in_ok-who.who (Some x.handed)) same;
    })
    (ap (λ (x : SeenRegions). x.occupants) c.go.ensures.regions ∙ c.in_ok-who.ensures.occupants)
    (ap (λ (x : SeenRegions). x.locks) c.go.ensures.regions ∙ c.in_ok-who.ensures.locks)
    (subst (λ (qs : List (List ℕ)). Changes c.args.region (queue_but (queue_of s.regions.queues c.args.region) (Some c.in_ok-who.who)) s.regions.queues qs) (sym (ap (λ (x : SeenRegions). x.queues) c.go.ensures.regions)) c.in_ok-who.ensures.queues)
    h
