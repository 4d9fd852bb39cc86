use Rattle.std.proofs.Common.{◌≡◌, true, rules}
use Rattle.machine_steps.specs.Answering.{takes_answer}
use Rattle.machine_steps.specs.Views.{state_of}
use Rattle.serial_run.proofs.Coming.{takes_waits}
use Rattle.serial_run.proofs.Fetching.{fetched_answer}
use Rattle.serial_run.proofs.runner.Runner.fetch.Goals as goal

pub returns-else-not-can_answer-clause-stands : goal.returns-else-not-can_answer-clause-stands
returns-else-not-can_answer-clause-stands c =
    let can : takes_answer (state_of c.args.self.now.machine).mode c.in-Some.answer ≡ true = search rules in
    λ code stands. fetched_answer code c.args.kernel.now c.fetch.new.self c.args.self.now c.in-Some.answer c.answer.new.self c.in-Some.ensures
    (takes_waits (state_of c.args.self.now.machine).mode c.in-Some.answer can) c.answer.ensures.going (c.answer.ensures.leads code) (c.answer.ensures.runs code stands.runs) stands
