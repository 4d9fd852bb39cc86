use Rattle.std.proofs.Common.{map, refl}
use Rattle.program_trees.specs.ProgramTree.{checked_tree, body_row_tree}
use Rattle.code_gen.proofs.Appended.{bodies_at, bodies_end}
use Rattle.code_gen.proofs.bodies.put_all.Goals as goal

pub loop-body-init : goal.loop-body-init
loop-body-init c = record { instrs = refl; handlers = refl; bodies = refl }

pub loop-body-preserved : goal.loop-body-preserved
loop-body-preserved c =
    bodies_at (checked_tree c.args.program.now) (map body_row_tree c.args.bodies.now) c.args.bodies.now c.loop-body.body-index c.body-item.result
    c.loop-body-test.true c.body-item.is c.loop-body.invariant c.in_ok-put_body.ensures.puts

pub returns : goal.returns
returns c =
    record { puts = bodies_end (checked_tree c.args.program.now) (map body_row_tree c.args.bodies.now) c.args.bodies.now c.loop-body.body-index c.loop-body-test.false c.loop-body.invariant }
