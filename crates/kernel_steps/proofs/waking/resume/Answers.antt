use Rattle.std.proofs.Common.{refl, ap, sym, subst, ◌∙◌, ◌≡◌, ◌<◌, ◌++◌, ◌∷◌, [], List, length, slice_get, arith, rules}
use Rattle.std.specs.Prelude.{Some, None}
use Rattle.kernel_base.specs.declared.answer.Answer.{Answer}
use Rattle.kernel_base.specs.declared.answer.Answer.TheVariants.{Chose, Woken}
use Rattle.kernel_base.specs.declared.event.Event.{Event}
use Rattle.kernel_base.specs.declared.event.Event.TheVariants.{Did}
use Rattle.kernel_base.specs.declared.request.Request.{Request}
use Rattle.kernel_base.specs.declared.request.Request.TheVariants.{Delay, Continue}
use Rattle.world_model.specs.declared.world.Phase.TheVariants.{Chosen}
use Rattle.world_model.specs.World.{with_phase}
use Rattle.kernel_steps.specs.declared.seats.Copies.{Copies}
use Rattle.kernel_steps.specs.Seated.{Settles, twice}
use Rattle.wait_queues.specs.declared.waiters.Waiter.{Waiter}
use Rattle.event_queues.specs.Delayed.{listed_in}
use Rattle.kernel_steps.specs.declared.state.State.{State}
use Rattle.kernel_steps.specs.Kept.{world_in}
use Rattle.kernel_steps.specs.Serving.{goes_of}
use Rattle.kernel_steps.proofs.Delays.{woken, nobody_sleeps}
use Rattle.kernel_steps.proofs.Plain.{plain_serves}
use Rattle.kernel_steps.proofs.Sleeping.{resume_serves}
use Rattle.kernel_steps.proofs.waking.resume.Goals as goal

pub wake-requires : goal.wake-requires
wake-requires c =
    let k = c.requires.kept in
    let low : c.args.event < length c.args.s.now.facts.events = c.requires.may.fits in
    let lengths : length c.args.s.now.queues.events.lengths ≡ length c.args.s.now.facts.events = ap length k.rests.sleeps.lengths in
    omega (arith, low, lengths)

pub choose-going-requires-clause-seated : goal.choose-going-requires-clause-seated
choose-going-requires-clause-seated c =
    let s = c.args.s.now in
    let k = c.requires.kept in
    let t = woken s.facts (world_in s) s.queues.events c.wake.new.self c.args.event c.in-Some.woken c.in-Some.ensures.some k.rests.sleeps in
    (world_in s, Delay t.events t.priority, t.send, t.back, k.seated, t.is)

pub returns-in-Some : goal.returns-in-Some
returns-in-Some c =
    let s = c.args.s.now in
    let k = c.requires.kept in
    let noted : c.woken_by.result.noted ≡ Woken c.in-Some.woken.number c.args.who = ap (λ (x : Copies). x.noted) c.woken_by.ensures in
    let both : c.woken_by.result ≡ twice c.woken_by.result.noted = c.woken_by.ensures ∙ ap twice (sym noted) in
    resume_serves s _ c.args.who c.args.ticks c.args.event c.in-Some.woken c.args.ready c.choose-going.result c.requires (search rules) (search rules) (search rules) c.each_waits.ensures.tied c.each_waits.ensures.order c.in-Some.ensures.some
    (record { facts = refl; widest = refl; ready = refl; buffers = refl; signals = refl; sends = refl; store = refl; read = refl; taken = refl; argued = refl })
    c.in-Some.ensures.lengths
    (c.goes.ensures.events ∙ ap (λ (l : List Event). l ++ goes_of c.choose-going.result) (c.did.ensures.events ∙ ap (λ (q : Request). s.journal.events ++ Did c.args.who c.args.ticks q (Chose (Some c.in-Some.woken.thing)) None ∷ []) c.requires.is))
    c.goes.ensures.in_range
    (λ t. subst (λ (a : Answer). Settles (with_phase (world_in s) c.in-Some.woken.thing (Chosen a t.back)) s.seats c.choose-going.new.seats c.choose-going.result) noted (c.choose-going.ensures.settles (world_in s) (Delay t.events t.priority) t.send t.back k.seated t.is both))

pub returns : goal.returns
returns c =
    let s = c.args.s.now in
    let w = world_in s in
    let k = c.requires.kept in
    let s' : State = record s { journal = c.did-in-None.new.journal; queues = record s.queues { events = c.wake.new.self } } in
    let none = c.in-None.ensures.none in
    plain_serves s s' c.args.who c.args.ticks (Continue c.args.event) (Chose None) c.args.ready c.requires (record { who = search rules; ticks = search rules; answer = tt }) (refl, nobody_sleeps s.facts w s.queues.events c.args.event none.0 k.rests.sleeps) (omega arith)
    (record { processes = refl; phases = refl; occupants = refl; held = refl; facts = refl; widest = refl; ready = refl; seats = refl; taken = refl; events = c.did-in-None.ensures.events ∙ ap (λ (q : Request). s.journal.events ++ Did c.args.who c.args.ticks q (Chose None) None ∷ []) c.requires.is; plain = refl })
    (record {
      sleeps = record {
        lengths = c.in-None.ensures.lengths ∙ k.rests.sleeps.lengths;
        each = ap (λ (l : List (List Waiter)). length l) none.2 ∙ k.rests.sleeps.each;
        delayed = λ q. ap (λ l. listed_in l q) none.1 ∙ k.rests.sleeps.delayed q;
        counts = λ event ws there. k.rests.sleeps.counts event ws (ap (λ (l : List (List Waiter)). slice_get l event) (sym none.2) ∙ there);
      };
      trades = k.rests.trades;
      hears = k.rests.hears;
      sends = k.rests.sends;
      last = k.rests.last;
      store = k.rests.store;
      locations = k.rests.locations;
      input = k.rests.input;
      read = k.rests.read;
      argues = k.rests.argues;
    })
