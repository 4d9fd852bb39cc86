use Rattle.std.proofs.Common.{◌∙◌, sym}
use Rattle.program_trees.specs.ProgramTree.{checked_tree}
use Rattle.code_scheme.specs.BodyCode.{heads_of}
use Rattle.code_gen.proofs.Heights.{heights_turn, heights_done}
use Rattle.code_gen.proofs.rows.greatest_height.Goals as goal

pub loop-instr-preserved : goal.loop-instr-preserved
loop-instr-preserved c =
    sym (heights_turn (heads_of (checked_tree c.args.program.now)) c.loop-instr.height c.loop-instr.greatest c.in_ok-height.height c.max-greatest.result c.args.instrs.now c.loop-instr.instr-index _
    c.loop-instr-test.true c.in_ok-height.ensures c.max-greatest.ensures) ∙ c.loop-instr.invariant

pub returns : goal.returns
returns c =
    sym (heights_done (heads_of (checked_tree c.args.program.now)) c.loop-instr.height c.loop-instr.greatest c.args.instrs.now c.loop-instr.instr-index c.loop-instr-test.false)
    ∙ c.loop-instr.invariant
