use Rattle.std.proofs.Common.{ℕ, length, refl, ap, sym, ◌∙◌, subst, ◌+◌, List, arith, rules, Option, None}
use Rattle.std.specs.Prelude.{slice_index_or}
use Rattle.kernel_steps.specs.Kept.{world_in}
use Rattle.kernel_steps.proofs.Freeing.{own_found, other_found, FreesUpTo, to_ended, frees_first, frees_other, frees_own, frees_all}
use Rattle.kernel_steps.proofs.regions.end.Goals as goal
use Rattle.kernel_steps.proofs.regions.end.Goals.{then-eq, else-eq}
use Rattle.kernel_steps.specs.declared.state.State.{State}

pub loop-region-init : goal.loop-region-init
loop-region-init c =
    let s = c.args.s.now in
    let k = c.requires.kept in
    frees_first s _ c.did.new.journal c.args.who c.args.ticks c.args.how c.args.ready c.requires (search rules) (search rules)
    (to_ended (world_in s) s.seats _ c.args.who c.args.how c.requires.may.goes.active c.set_phase.ensures.processes c.set_phase.ensures.phases refl refl refl refl k.seated) refl refl
    c.did.ensures.events c.did.ensures.spare

pub occupant-occupant-requires : goal.occupant-occupant-requires
occupant-occupant-requires c =
    let h = c.loop-region.invariant in
    let l = ap length h.seated.placed.occupants ∙ h.each in
    omega (arith, l, c.loop-region-test.true)

pub release-going-requires-clause-spare : goal.release-going-requires-clause-spare
release-going-requires-clause-spare c = omega (arith, c.loop-region.invariant.regions_room, c.loop-region-test.true)

pub release-going-requires-clause-seated : goal.release-going-requires-clause-seated
release-going-requires-clause-seated c =
    let h = c.loop-region.invariant in
    let region = c.loop-region.region in
    (h.v, c.args.who, h.seated, own_found h.v.occupants region c.args.who c.occupant-occupant.result (c.occupant-occupant.ensures ∙ ap (λ (os : List (Option ℕ)). slice_index_or os region None) h.seated.placed.occupants) (sym c.eq.ensures ∙ c.if-eq.true))

pub goes-requires : goal.goes-requires
goes-requires c = omega (arith, c.loop-region.invariant.journal_room, c.loop-region-test.true)

pub loop-region-preserved : goal.loop-region-preserved
loop-region-preserved c =
    let h = c.loop-region.invariant in
    let region = c.loop-region.region in
    let who = c.args.who in
    let found = c.occupant-occupant.ensures ∙ ap (λ (os : List (Option ℕ)). slice_index_or os region None) h.seated.placed.occupants in
    elim c.if-eq.branch [
      | then-eq w ↦ (let own = own_found h.v.occupants region who c.occupant-occupant.result found (sym c.eq.ensures ∙ w.if-eq.true) in
          subst (λ (s : State). FreesUpTo c.args.s.now s who c.args.ticks c.args.how (region + 1)) (sym w.s-is)
          (frees_own c.args.s.now c.loop-region.s w.release-going.new.seats w.goes.new.journal who c.args.ticks c.args.how region w.release-going.result h own
          (w.release-going.ensures.settles h.v who h.seated own) w.goes.ensures.events w.goes.ensures.in_range w.goes.ensures.spare w.release-going.ensures.spare))
      | else-eq w ↦ (let other = other_found h.v.occupants region who c.occupant-occupant.result found (sym c.eq.ensures ∙ w.if-eq.false) in
          subst (λ (s : State). FreesUpTo c.args.s.now s who c.args.ticks c.args.how (region + 1)) (sym w.s-is)
          (frees_other c.args.s.now c.loop-region.s who c.args.ticks c.args.how region h other))
    ]

pub returns : goal.returns
returns c = frees_all c.args.s.now c.loop-region.s c.args.who c.args.ticks c.args.how c.loop-region.region c.args.ready c.loop-region.invariant (omega (arith, c.loop-region-test.false)) c.requires
