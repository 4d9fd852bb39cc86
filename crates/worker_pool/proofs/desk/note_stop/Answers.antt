use Rattle.std.proofs.Common.{subst, sym, ap, length}
use Rattle.worker_pool.proofs.Bursts.{IsNoting, tells_of}
use Rattle.worker_pool.proofs.desk.note_stop.Goals.{in-Now, in-Later, in-Over, in-Stranger}
use Rattle.worker_pool.proofs.desk.note_stop.Goals as goal

pub returns-clause-outcome : goal.returns-clause-outcome
returns-clause-outcome c =
    elim c.match-branch-2.branch [
      | in-Now w ↦ rw w.result-is (tells_of c.args.kernel.now c.commit_stop.new.kernel c.args.who c.args.stop c.in_ok-commit_stop.field-0 (length c.events-place.result.now) w.event_at.result (ap length c.events-place.ensures) c.in_ok-commit_stop.ensures.notes (subst IsNoting (sym w.in-Now.is) tt) w.event_at.ensures)
      | in-Later w ↦ rw w.result-is (tells_of c.args.kernel.now c.commit_stop.new.kernel c.args.who c.args.stop c.in_ok-commit_stop.field-0 (length c.events-place.result.now) w.event_at-in-Later.result (ap length c.events-place.ensures) c.in_ok-commit_stop.ensures.notes (subst IsNoting (sym w.in-Later.is) tt) w.event_at-in-Later.ensures)
      | in-Over w ↦ rw w.result-is tt
      | in-Stranger w ↦ rw w.result-is tt
    ]
