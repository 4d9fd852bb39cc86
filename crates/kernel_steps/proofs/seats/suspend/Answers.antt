use Rattle.std.proofs.Common.{refl, ap, ◌∙◌}
use Rattle.std.specs.Prelude.{slice_set, Some}
use Rattle.std.specs.Option.{option_and_then}
use Rattle.kernel_steps.specs.Seated.{queued_in, waits_for}
use Rattle.kernel_steps.specs.declared.seats.Copies.{Copies}
use Rattle.kernel_steps.proofs.Steps.{suspended}
use Rattle.kernel_steps.proofs.seats.suspend.Goals as goal

pub wait-requires-clause-nowhere : goal.wait-requires-clause-nowhere
wait-requires-clause-nowhere c = λ region.
    let r = c.requires.seated in
    (r.3.placed.queues region).each c.args.who ∙ ap (option_and_then (queued_in region c.args.who)) r.4 ∙ ap (waits_for region) r.5

pub returns-clause-seated : goal.returns-clause-seated
returns-clause-seated c = λ w phase other h at tells occupied some e.
    suspended w c.args.seats.now _ c.args.who c.args.region other phase c.args.copies.noted at tells occupied some
    (record {
      processes = c.set_phase.ensures.processes;
      phases = c.set_phase.ensures.phases;
      occupants = c.wait.ensures.occupants;
      locks = c.wait.ensures.locks;
      queues = c.wait.ensures.queues;
      backs = refl;
      chosen = ap (λ (x : Copies). slice_set c.args.seats.now.chosen.items c.args.who (Some x)) e;
      unfetched = refl;
    }) h
