use Rattle.std.proofs.Common.{◌≡◌, drop}
use Rattle.code_scheme.specs.BodyCode.{most_locals}
use Rattle.code_gen.proofs.rows.most_locals.Given as goal

abbrev pub invariant-loop-instr : goal.invariant-loop-instr
invariant-loop-instr l = most_locals l.most (drop l.instr-index l.instrs) ≡ most_locals l.initial.most l.instrs
