use Rattle.std.proofs.Common.{ℕ, List, ◌∙◌, sym, ap, subst, arith, length, length-set}
use Rattle.std.specs.Prelude.{◌↔◌, IsTrue}
use Rattle.worker_pool.specs.LogPlaces.{ArePassed, HaveEvents}
use Rattle.worker_pool.proofs.Following.{through, follow_on, each_passes, denied, passed_all}
use Rattle.worker_pool.proofs.log_events.have_events.Goals as goal

pub returns-then-not-takes : goal.returns-then-not-takes
returns-then-not-takes c = (
  λ is. absurd (let f : ⊥ = cc in f),
  λ h. absurd (denied c.args.logs.now c.args.journal.now c.loop-event.event-index c.event-item.result c.loop-event.nexts.items (omega arith) c.event-item.is c.loop-event.invariant.follow c.loop-event.invariant.each c.if-not-takes.ensures.no h),
)

pub loop-event-preserved : goal.loop-event-preserved
loop-event-preserved c =
    let p = c.if-not-takes.ensures.yes in
    record {
      count = ap length p.passed ∙ (length-set c.loop-event.nexts.items p.place _ ∙ c.loop-event.invariant.count);
      follow = follow_on c.args.logs.now c.args.journal.now c.loop-event.event-index c.event-item.result c.loop-event.nexts.items c.takes.new.nexts.items c.requires.once (omega arith) c.event-item.is c.loop-event.invariant.count p c.loop-event.invariant.follow;
      each = c.loop-event.invariant.each ∙ each_passes c.args.logs.now c.args.journal.now c.loop-event.event-index c.event-item.result c.loop-event.nexts.items c.takes.new.nexts.items c.requires.once (omega arith) c.event-item.is p;
    }

pub returns : goal.returns
returns c = through (IsTrue c.are_passed.result) (ArePassed c.args.logs.now c.deref.result.now) (HaveEvents c.args.journal.now c.args.logs.now) c.are_passed.ensures
    (subst (λ (xs : List ℕ). ArePassed c.args.logs.now xs ↔ HaveEvents c.args.journal.now c.args.logs.now) (sym c.deref.ensures.value)
    (passed_all c.args.logs.now c.args.journal.now c.loop-event.event-index c.loop-event.nexts.items (omega arith) c.loop-event.invariant.follow c.loop-event.invariant.each))
