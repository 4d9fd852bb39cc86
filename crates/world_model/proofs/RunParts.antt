-- Parts of a run.
use Rattle.std.proofs.Common.{List, [], ◌∷◌, ◌++◌}
use Rattle.kernel_base.specs.declared.facts.Facts.{Facts}
use Rattle.kernel_base.specs.declared.event.Event.{Event}
use Rattle.world_model.specs.declared.world.World.{World}
use Rattle.world_model.specs.World.{opening, after, after_all}
use Rattle.world_model.specs.Allowed.{IsAllowed, IsRunFrom, IsRun}
use Rattle.world_model.specs.Laws.{PrefixLaw}

pub front_runs : (facts : Facts) (w : World) (front rest : List Event) → IsRunFrom facts w (front ++ rest) → IsRunFrom facts w front
front_runs facts w [] rest run = tt
front_runs facts w (event ∷ front) rest run = (run.0, front_runs facts (after facts w event) front rest run.1)

pub rest_runs : (facts : Facts) (w : World) (front rest : List Event) → IsRunFrom facts w (front ++ rest) → IsRunFrom facts (after_all facts w front) rest
rest_runs facts w [] rest run = run
rest_runs facts w (event ∷ front) rest run = rest_runs facts (after facts w event) front rest run.1

pub one_more : (facts : Facts) (w : World) (front : List Event) (event : Event) → IsRunFrom facts w front → IsAllowed facts (after_all facts w front) event → IsRunFrom facts w (front ++ event ∷ [])
one_more facts w [] event run may = (may, tt)
one_more facts w (e ∷ front) event run may = (run.0, one_more facts (after facts w e) front event run.1 may)

pub next_allowed : (facts : Facts) (before : List Event) (event : Event) (behind : List Event) → IsRun facts (before ++ event ∷ behind) → IsAllowed facts (after_all facts (opening facts) before) event
next_allowed facts before event behind run = (rest_runs facts (opening facts) before (event ∷ behind) run).0

pub prefix_law : PrefixLaw
prefix_law = record {
  prefix = λ facts before behind run. front_runs facts (opening facts) before behind run;
  next = next_allowed;
  more = λ facts before event run may. one_more facts (opening facts) before event run may;
}
