use Rattle.std.proofs.Common.{◌≡◌, ◌+◌, List, None, take, get_or, sym, ap, ◌∙◌, subst}
use Rattle.std.specs.Prelude.{is_some}
use Rattle.kernel_base.specs.declared.request.Alternative.{Alternative}
use Rattle.world_model.specs.Lists.{number_for}
use Rattle.wait_queues.specs.Waiting.{SeenWaiters}
use Rattle.wait_queues.specs.Steps.{JoinsSeen}
use Rattle.wait_queues.proofs.Stepping.{join_again, join_next, may_join, none_of}
use Rattle.wait_queues.proofs.queues.join_each.Goals.{then-is_none, else-is_none}
use Rattle.wait_queues.proofs.queues.join_each.Goals as goal

pub join_at-requires : goal.join_at-requires
join_at-requires c =
    let d : Alternative = record { thing = 0; number = 0 } in
    let none : number_for (take c.loop-listed.listed c.args.places.now) (get_or c.args.places.now c.loop-listed.listed (record { thing = 0; number = 0 })).thing ≡ None = sym c.number_for.ensures ∙ none_of c.number_for.result c.if-is_none.ensures in
    may_join c.args.who c.args.priority c.args.places.now c.loop-listed.listed d c.args.queues.now.items c.loop-listed.queues.items c.requires.room c.requires.nowhere none c.loop-listed.invariant

pub loop-listed-preserved : goal.loop-listed-preserved
loop-listed-preserved c =
    let d : Alternative = record { thing = 0; number = 0 } in
    let things = c.args.places.now in
    let i = c.loop-listed.listed in
    let old = c.args.queues.now.items in
    let mid = c.loop-listed.queues.items in
    elim c.if-is_none.branch [
      | then-is_none w ↦ (let none : number_for (take c.loop-listed.listed c.args.places.now) (get_or c.args.places.now c.loop-listed.listed (record { thing = 0; number = 0 })).thing ≡ None = sym c.number_for.ensures ∙ none_of c.number_for.result w.if-is_none.ensures in
          subst (λ (l : List SeenWaiters). JoinsSeen c.args.who c.args.priority (take (c.loop-listed.listed + 1) c.args.places.now) c.args.queues.now.items l) (sym (ap (λ v. v.items) w.queues-is))
          (join_next c.args.who c.args.priority things i d old mid w.join_at.new.queues.items c.loop-listed-test.true none w.join_at.ensures c.loop-listed.invariant))
      | else-is_none w ↦ subst (λ (l : List SeenWaiters). JoinsSeen c.args.who c.args.priority (take (c.loop-listed.listed + 1) c.args.places.now) c.args.queues.now.items l) (sym (ap (λ v. v.items) w.queues-is))
          (join_again c.args.who c.args.priority things i d old mid c.loop-listed-test.true (ap is_some (sym c.number_for.ensures) ∙ w.if-is_none.ensures) c.loop-listed.invariant)
    ]
