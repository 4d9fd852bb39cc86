use Rattle.std.proofs.Common.{◌≡◌, ℕ, ◌+◌, ◌≤◌, ◌∙◌, arith, rules}
use Rattle.code_scheme.specs.StatementGoing.{leave_size}
use Rattle.stmt_gen.proofs.Capping.{leave_over}
use Rattle.stmt_gen.proofs.joining.next_place.Goals as goal

pub returns : goal.returns
returns c n rest e f =
    let few : c.args.behind ≤ 4294967295 = search (rules, arith) in
    let left : c.saturating_sub.result ≡ leave_size c.args.goes_on rest + rest = omega (arith, e, f, few, c.place_behind-end.ensures, c.saturating_sub.ensures) in
    let jump : c.leaving_size.result ≡ leave_size c.args.goes_on rest =
    c.leaving_size.ensures (leave_size c.args.goes_on rest + rest) (omega (arith, left, f, few)) ∙ leave_over c.args.goes_on rest in
    omega (arith, e, f, few, jump, c.place_behind-end.ensures, c.saturating_add.ensures)
