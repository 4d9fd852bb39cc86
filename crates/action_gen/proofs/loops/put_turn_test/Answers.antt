use Rattle.std.proofs.Common.{ℕ, sym, ap, ◌∙◌, rules, w64}
use mir.Val.{SFits}
use Rattle.std.proofs.lemmas.Int.{to_z-of_z}
use Rattle.std.proofs.lemmas.Result.{on_ok_weaker}
use Rattle.code_scheme.specs.StatementSite.{taking}
use Rattle.action_gen.specs.declared.around.Around.{Around}
use Rattle.action_gen.specs.Counting.{steps_of}
use Rattle.action_gen.specs.Putting.{standing_of}
use Rattle.action_gen.proofs.Controls.{members_turn, steps_turn}
use Rattle.action_gen.proofs.loops.put_turn_test.Goals as goal

pub returns-in_ok-taking-in-Members-clause-puts : goal.returns-in_ok-taking-in-Members-clause-puts
returns-in_ok-taking-in-Members-clause-puts c =
    let row = sym c.first_of_local-counter.ensures in
    let fits : SFits w64 c.in-Members.low = search rules in
    let members = simp to_z-of_z at c.in_ok-put_members_test-in-Members.ensures.puts in
    let taken = ap (λ (a : Around). standing_of a) c.in_ok-taking-in-Members.ensures in
    on_ok_weaker c.put_some_while.result
    (λ q. members_turn (standing_of c.args.around.now) (standing_of c.in_ok-taking-in-Members.field-0) c.args.control.now c.in-Members.counter c.first_of_local-counter.result c.in-Members.set c.in-Members.low c.in-Members.condition
    c.args.behind c.in-Members.is row taken members q)
    c.put_some_while.ensures.puts

pub returns-in_ok-taking-in-Steps-clause-puts : goal.returns-in_ok-taking-in-Steps-clause-puts
returns-in_ok-taking-in-Steps-clause-puts c =
    let row = sym c.first_of_local-counter-in-Steps.ensures in
    let taken = ap (λ (a : Around). standing_of a) c.in_ok-taking-in-Steps.ensures ∙ ap (λ (n : ℕ). taking (standing_of c.args.around.now) n) c.steps_kept.ensures in
    on_ok_weaker c.put_some_while-in-Steps.result
    (λ q. steps_turn (standing_of c.args.around.now) (standing_of c.in_ok-taking-in-Steps.field-0) c.args.control.now c.in-Steps.counter c.first_of_local-counter-in-Steps.result c.in-Steps.start c.in-Steps.step c.in-Steps.end c.in-Steps.down c.in-Steps.condition
    (steps_of c.in_ok-new-in-Steps.field-0) c.args.behind c.in-Steps.is row c.in_ok-new-in-Steps.ensures taken c.in_ok-put_next-in-Steps.ensures.puts q)
    c.put_some_while-in-Steps.ensures.puts
