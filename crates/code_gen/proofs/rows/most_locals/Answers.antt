use Rattle.std.proofs.Common.{◌∙◌, sym, ap, max}
use Rattle.code_gen.proofs.Heights.{locals_turn, locals_done}
use Rattle.code_gen.proofs.rows.most_locals.Goals as goal

pub loop-instr-preserved : goal.loop-instr-preserved
loop-instr-preserved c =
    let most = c.max-most.ensures ∙ ap (max c.loop-instr.most) (c.in_ok-named.ensures _ c.locals_named.ensures) in
    sym (locals_turn c.loop-instr.most c.max-most.result c.args.instrs.now c.loop-instr.instr-index _ c.loop-instr-test.true most) ∙ c.loop-instr.invariant

pub returns : goal.returns
returns c = sym (locals_done c.loop-instr.most c.args.instrs.now c.loop-instr.instr-index c.loop-instr-test.false) ∙ c.loop-instr.invariant
