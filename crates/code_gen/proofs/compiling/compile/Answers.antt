use Rattle.program_trees.specs.ProgramTree.{checked_tree}
use Rattle.code_gen.proofs.Appended.{code_told}
use Rattle.code_gen.proofs.Lawful.{things_of, agrees_of, talks_of, stands_of}
use Rattle.code_gen.proofs.compiling.compile.Goals as goal

pub returns-in-Ok-clause-things : goal.returns-in-Ok-clause-things
returns-in-Ok-clause-things c =
    things_of (checked_tree c.args.program.now) c.put_bodies.new.draft.code (code_told (checked_tree c.args.program.now) c.new-draft.result.code c.put_bodies.new.draft.code c.new-draft.ensures c.in-Ok.ensures.puts)

pub returns-in-Ok-clause-agrees : goal.returns-in-Ok-clause-agrees
returns-in-Ok-clause-agrees c =
    agrees_of c.args.program.now c.put_bodies.new.draft.code (code_told (checked_tree c.args.program.now) c.new-draft.result.code c.put_bodies.new.draft.code c.new-draft.ensures c.in-Ok.ensures.puts)

pub returns-in-Ok-clause-talks : goal.returns-in-Ok-clause-talks
returns-in-Ok-clause-talks c =
    talks_of c.args.program.now c.put_bodies.new.draft.code (code_told (checked_tree c.args.program.now) c.new-draft.result.code c.put_bodies.new.draft.code c.new-draft.ensures c.in-Ok.ensures.puts)

pub returns-in-Ok-clause-stands : goal.returns-in-Ok-clause-stands
returns-in-Ok-clause-stands c =
    stands_of c.args.program.now c.put_bodies.new.draft.code (code_told (checked_tree c.args.program.now) c.new-draft.result.code c.put_bodies.new.draft.code c.new-draft.ensures c.in-Ok.ensures.puts)
