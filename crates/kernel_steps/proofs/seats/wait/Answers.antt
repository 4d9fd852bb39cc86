use Rattle.std.proofs.Common.{ℕ, refl, ap, sym, ◌∙◌, ◌≡◌}
use Rattle.std.specs.Prelude.{slice_set, Some, None}
use Rattle.std.specs.declared.option.Option.{Option}
use Rattle.kernel_base.specs.declared.request.Request.TheVariants.{Get}
use Rattle.world_model.specs.declared.world.Phase.TheVariants.{Waiting}
use Rattle.world_model.specs.Lists.{last_of}
use Rattle.world_model.specs.World as worlds
use Rattle.world_model.specs.World.{with_phase}
use Rattle.kernel_steps.proofs.Steps.{to_waiting, waits_bare, waits_freed}
use Rattle.kernel_steps.proofs.seats.wait.Goals as goal

pub release-requires-clause-seated : goal.release-requires-clause-seated
release-requires-clause-seated c =
    let r = c.requires.seated in
    let is : Some c.in-Some.region ≡ last_of (worlds.held_by r.0 c.args.who) = sym c.in-Some.is ∙ c.last_held-back.ensures ∙ ap last_of (r.1.placed.held c.args.who) in (
      with_phase r.0 c.args.who (Waiting Get None (Some c.in-Some.region)),
      c.args.who,
      to_waiting r.0 c.args.seats.now _ c.args.who Get None (Some c.in-Some.region) r.2 r.3 is
          (record { processes = c.set_phase.ensures.processes; phases = c.set_phase.ensures.phases; regions = refl; backs = ap (λ (b : Option ℕ). slice_set c.args.seats.now.backs.items c.args.who b) c.in-Some.is; chosen = refl; unfetched = refl }) r.1,
      r.3 c.in-Some.region (sym is),
    )

pub returns-in-Some-clause-settles : goal.returns-in-Some-clause-settles
returns-in-Some-clause-settles c = λ w request send h active owns.
    let is : Some c.in-Some.region ≡ last_of (worlds.held_by w c.args.who) = sym c.in-Some.is ∙ c.last_held-back.ensures ∙ ap last_of (h.placed.held c.args.who) in
    waits_freed w c.args.seats.now _ c.release.new.seats c.args.who c.in-Some.region request send c.release.result (sym is) refl
    (c.release.ensures.settles (with_phase w c.args.who (Waiting request send (Some c.in-Some.region))) c.args.who
    (to_waiting w c.args.seats.now _ c.args.who request send (Some c.in-Some.region) active owns is
    (record { processes = c.set_phase.ensures.processes; phases = c.set_phase.ensures.phases; regions = refl; backs = ap (λ (b : Option ℕ). slice_set c.args.seats.now.backs.items c.args.who b) c.in-Some.is; chosen = refl; unfetched = refl }) h)
    (owns c.in-Some.region (sym is)))

pub returns-in-None-clause-settles : goal.returns-in-None-clause-settles
returns-in-None-clause-settles c = λ w request send h active owns.
    let is : None ≡ last_of (worlds.held_by w c.args.who) = sym c.in-None.is ∙ c.last_held-back.ensures ∙ ap last_of (h.placed.held c.args.who) in
    waits_bare w c.args.seats.now _ c.args.who request send active owns (sym is)
    (record { processes = c.set_phase.ensures.processes; phases = c.set_phase.ensures.phases; regions = refl; backs = ap (λ (b : Option ℕ). slice_set c.args.seats.now.backs.items c.args.who b) c.in-None.is; chosen = refl; unfetched = refl }) h
