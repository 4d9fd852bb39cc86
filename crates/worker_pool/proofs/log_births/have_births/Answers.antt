use Rattle.std.proofs.Common.{Bool, false, List, ◌∙◌, sym, ap, subst, arith, length}
use Rattle.std.proofs.lemmas.List.{length-replicate}
use Rattle.std.specs.Prelude.{◌↔◌, IsTrue}
use Rattle.worker_pool.specs.LogPlaces.{AreStarted, HaveBirths}
use Rattle.worker_pool.proofs.Following.{through}
use Rattle.worker_pool.proofs.Starting.{begin_first, begin_on, rejected, started_all}
use Rattle.worker_pool.proofs.log_births.have_births.Goals as goal

pub loop-event-init : goal.loop-event-init
loop-event-init c =
    let none = c.in_ok-started.ensures.items_if_clones_equal (λ y is. is) in
    record {
      count = ap length none ∙ length-replicate (length c.args.logs.now) false;
      begin = begin_first c.args.logs.now c.args.journal.now c.in_ok-started.started.items none;
    }

pub returns-then-not-admits : goal.returns-then-not-admits
returns-then-not-admits c = (
  λ is. absurd (let f : ⊥ = cc in f),
  λ h. absurd (rejected c.args.logs.now c.args.journal.now c.loop-event.event-index c.event-item.result c.loop-event.started.items (omega arith) c.event-item.is c.if-not-admits.ensures.no c.loop-event.invariant.begin h),
)

pub loop-event-preserved : goal.loop-event-preserved
loop-event-preserved c = record {
  count = c.admits.ensures.count ∙ c.loop-event.invariant.count;
  begin = begin_on c.args.logs.now c.args.journal.now c.loop-event.event-index c.event-item.result c.loop-event.started.items c.admits.new.started.items (omega arith) c.event-item.is c.if-not-admits.ensures.yes c.loop-event.invariant.begin;
}

pub returns : goal.returns
returns c = through (IsTrue c.are_started.result) (AreStarted c.args.logs.now c.deref.result.now) (HaveBirths c.args.journal.now c.args.logs.now) c.are_started.ensures
    (subst (λ (xs : List Bool). AreStarted c.args.logs.now xs ↔ HaveBirths c.args.journal.now c.args.logs.now) (sym c.deref.ensures.value)
    (started_all c.args.logs.now c.args.journal.now c.loop-event.event-index c.loop-event.started.items (omega arith) c.loop-event.invariant.begin))
