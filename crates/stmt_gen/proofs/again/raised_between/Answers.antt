use Rattle.std.proofs.Common.{◌≡◌, ℕ, ◌-◌, min, List, length, take, drop, ap, sym, ◌∙◌}
use Rattle.std.proofs.lemmas.Result.{IfOk-weaker}
use Rattle.code_types.specs.declared.instr.Instr.{Instr}
use Rattle.program_trees.specs.ProgramTree.{checked_tree}
use Rattle.code_scheme.specs.BodyItems.{raised_in}
use Rattle.stmt_gen.specs.Marking.{marked_in}
use Rattle.stmt_gen.specs.Modulions.{instrs_between}
use Rattle.stmt_gen.proofs.Marks.{raised_told, between_is}
use Rattle.stmt_gen.proofs.again.raised_between.Goals as goal

pub returns : goal.returns
returns c =
    let until : c.min-until.result ≡ min c.args.until (length c.args.draft.now.code.instrs) = c.min-until.ensures ∙ ap (λ (is : List Instr). min c.args.until (length is)) c.as_slice-instrs.ensures in
    let between = between_is c.args.draft.now.code.instrs c.args.from c.args.until c.min-from.result c.min-until.result until c.min-from.ensures in
    IfOk-weaker c.marked.result (λ numbers. numbers ≡ marked_in c.deref.result.now)
    (λ raised. raised ≡ raised_in (checked_tree c.args.program.now) (instrs_between c.args.from c.args.until c.args.draft.now))
    (λ xs e. e ∙ ap marked_in c.deref.ensures.value ∙ raised_told c.args.program.now (take (c.min-until.result - c.min-from.result) (drop c.min-from.result c.as_slice-instrs.result.now)) c.in_ok-count_of_exceptions.field-0 c.in_ok-found.found.items c.mark_all_raised.new.marks.items
    c.in_ok-count_of_exceptions.ensures c.in_ok-found.ensures c.mark_all_raised.ensures
    ∙ ap (λ (is : List Instr). raised_in (checked_tree c.args.program.now) (take (c.min-until.result - c.min-from.result) (drop c.min-from.result is))) c.as_slice-instrs.ensures
    ∙ ap (λ (is : List Instr). raised_in (checked_tree c.args.program.now) is) (sym between)) c.marked.ensures
