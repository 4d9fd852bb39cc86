use Rattle.std.proofs.Common.{◌≤◌, arith}
use Rattle.std.specs.Prelude.{Some}
use Rattle.kernel_steps.specs.declared.state.State.{State}
use Rattle.kernel_core.proofs.Roomier.{kept_roomier, same_wider, same_unready}
use Rattle.kernel_core.proofs.rooms.room.Goals as goal

pub returns-in_err-reserve-clause-kept : goal.returns-in_err-reserve-clause-kept
returns-in_err-reserve-clause-kept c = kept_roomier c.args.s.now c.reserve.new.s (same_unready c.args.s.now c.reserve.new.s c.reserve.ensures.same) c.requires.kept

pub returns-in_err-ready-clause-kept : goal.returns-in_err-ready-clause-kept
returns-in_err-ready-clause-kept c = kept_roomier c.args.s.now c.reserve.new.s (same_unready c.args.s.now c.reserve.new.s c.reserve.ensures.same) c.requires.kept

pub returns-clause-kept : goal.returns-clause-kept
returns-clause-kept c =
    let s = c.args.s.now in
    let t : State = c.reserve.new.s in
    let up : t.widest ≤ c.max-widest.result = let e = c.max-widest.ensures in omega (arith, e) in
    kept_roomier s _ (same_wider s t c.max-widest.result (Some c.in_ok-ready.ready) up (same_unready s t c.reserve.ensures.same)) c.requires.kept
