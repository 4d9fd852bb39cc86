use Rattle.std.proofs.Common.{◌≡◌, ℕ, [], List, length, ◌∙◌, refl, sym, ap, arith}
use Rattle.std.proofs.lemmas.Result.{on_ok_weaker}
use Rattle.checked_program.specs.declared.statement.Statement.{Statement}
use Rattle.program_trees.specs.StatementTree.{statements_of, handler_tree, handler_of}
use Rattle.code_scheme.specs.StatementSite.{Standing}
use Rattle.code_scheme.specs.StatementGoing.{go_on}
use Rattle.code_scheme.specs.BodyCode.{behind_lowest, standing_in}
use Rattle.action_gen.specs.Putting.{site_tree}
use Rattle.code_gen.proofs.Appended.{guarded_told}
use Rattle.code_gen.proofs.bodies.put_handled.Goals as goal

pub returns-in-Some : goal.returns-in-Some
returns-in-Some c =
    let from : c.in_ok-from.from ≡ length c.args.draft.now.code.instrs = omega (arith, c.in_ok-from.ensures 0 refl) in
    let standing = ap (λ (f : ℕ). record { site = site_tree c.args.site; free = f; exits = [] }) (c.in_ok-free.ensures _ c.first_free.ensures) in
    let statements = c.behind_lowest.ensures ∙ ap (λ (ss : List Statement). behind_lowest (statements_of ss)) c.as_slice-statements.ensures in
    let handler = ap handler_tree c.deref.ensures ∙ sym (ap handler_of c.in-Some.is) in
    let comes = c.go_on.ensures ∙ ap (λ (ss : List Statement). go_on (statements_of ss)) c.as_slice-statements.ensures in
    record {
      puts = on_ok_weaker c.put_handler.result (λ q. guarded_told (site_tree c.args.site) _ (statements_of c.behind_lowest.result.now) (handler_tree c.deref.result.now) c.go_on.result c.in_ok-from.from _
          standing statements handler comes from c.in_ok-put_items.ensures.puts.puts q.puts) c.put_handler.ensures.puts;
    }
