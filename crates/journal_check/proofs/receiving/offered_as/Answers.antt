use Rattle.std.proofs.Common.{◌≡◌, Some, None, List, length, refl, sym, ap, ◌∙◌}
use Rattle.std.specs.Prelude.{slice_get}
use Rattle.std.proofs.lemmas.Bool.{ltb-true, ltb-false}
use Rattle.std.proofs.lemmas.Option.{slice_get_read}
use Rattle.world_model.specs.declared.world.Phase.{Phase}
use Rattle.world_model.specs.Waiting.{phase_of}
use Rattle.world_check.proofs.Waiters.{nothing_behind}
use Rattle.journal_check.specs.Receiving.{value_of}
use Rattle.journal_check.proofs.Buffers.{offered_at, offers_at, not_offered}
use Rattle.journal_check.proofs.receiving.offered_as.Goals as goal

pub returns-in-Some : goal.returns-in-Some
returns-in-Some c =
    let phases : List Phase = c.as_slice.result.now in
    let at : phase_of c.args.world.now c.args.by ≡ Some c.in-Some.phase.now =
    ap (λ (xs : List Phase). slice_get xs c.args.by) (sym c.as_slice.ensures)
    ∙ slice_get_read phases (length phases) c.args.by c.in-Some.phase.now refl (ltb-true c.args.by (length phases) (sym c.in-Some.ensures.lookup.0)) c.in-Some.ensures.lookup.1 in
    λ priority. (
      λ is. offered_at c.args.world.now c.in-Some.phase.now c.args.buffer (value_of c.args.send c.args.scalars.now c.args.by priority) at ((c.priority_of.ensures c.args.by priority).0 is),
      λ offered. (c.priority_of.ensures c.args.by priority).1 (offers_at c.args.world.now c.in-Some.phase.now c.args.buffer (value_of c.args.send c.args.scalars.now c.args.by priority) at offered),
    )

pub returns-in-None : goal.returns-in-None
returns-in-None c =
    let phases : List Phase = c.as_slice.result.now in
    let none : phase_of c.args.world.now c.args.by ≡ None =
    ap (λ (xs : List Phase). slice_get xs c.args.by) (sym c.as_slice.ensures) ∙ nothing_behind phases c.args.by (ltb-false c.args.by (length phases) (sym c.in-None.ensures.lookup.0)) in
    λ priority.
    (λ is. absurd (let f : ⊥ = cc in f), λ offered. absurd (not_offered c.args.world.now c.args.buffer (value_of c.args.send c.args.scalars.now c.args.by priority) none offered))
