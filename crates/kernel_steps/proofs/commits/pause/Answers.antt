use Rattle.std.proofs.Common.{◌≡◌, None, refl, rules}
use Rattle.world_model.specs.Over.{over_of}
use Rattle.kernel_steps.specs.declared.state.State.{State}
use Rattle.kernel_steps.specs.View.{view_of, MayGoOn}
use Rattle.kernel_steps.proofs.Pausing.{pause_keeps, pause_grows}
use Rattle.kernel_steps.proofs.commits.pause.Goals as goal

pub returns-clause-kept : goal.returns-clause-kept
returns-clause-kept c =
    let s = c.args.s.now in
    let t : State = record s { journal = c.append.new.self } in
    let may : MayGoOn (view_of s) c.args.who = search rules in
    pause_keeps s t c.args.who c.args.ticks c.requires.kept may.active c.number_in_range.ensures c.number_in_range-2.ensures c.requires.ticks c.append.ensures.events

pub returns-clause-pauses : goal.returns-clause-pauses
returns-clause-pauses c =
    let s = c.args.s.now in
    let t : State = record s { journal = c.append.new.self } in
    let may : MayGoOn (view_of s) c.args.who = search rules in
    let over : over_of s.facts s.journal.events ≡ None = search rules in
    (over, may, refl, pause_grows s t c.args.who c.args.ticks c.requires.kept may.active c.number_in_range.ensures c.number_in_range-2.ensures c.requires.ticks c.append.ensures.events)
