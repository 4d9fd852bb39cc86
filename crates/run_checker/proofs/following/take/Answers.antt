use Rattle.std.proofs.Common.{◌≡◌, true, refl, sym, ap, ◌∙◌, Option}
use Rattle.machine_steps.specs.declared.process.Process.{Process}
use Rattle.machine_steps.specs.Answering.{takes_answer}
use Rattle.machine_steps.specs.Views.{state_of}
use Rattle.run_checker.specs.Slots.{takes_in}
use Rattle.run_checker.proofs.Bursts.{takes_on}
use Rattle.run_checker.proofs.following.take.Goals as goal

pub returns-in_ok-copy : goal.returns-in_ok-copy
returns-in_ok-copy c code =
    let takes : takes_answer (state_of c.in-Some.machine).mode c.args.answer.now ≡ true =
    sym (ap (λ (o : Option Process). takes_in o c.args.answer.now) c.in-Some.is) ∙ (sym c.can_take.ensures ∙ c.if-not-can_take.false) in
    takes_on code c.args.answer.now c.in_ok-copy.field-0 c.args.ends c.args.slot.now _ c.in-Some.machine c.answer.new.self c.in-Some.is refl c.in_ok-copy.ensures c.if-ends.false takes
    (c.answer.ensures.leads code) (c.answer.ensures.runs code) c.answer.ensures.going
