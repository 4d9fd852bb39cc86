use Rattle.std.proofs.Common.{◌≡◌, ◌++◌, drop}
use Rattle.list_texts.specs.Code.{instruction_lines}
use Rattle.list_texts.proofs.code_lines.push_instructions.Given as goal

-- the lines so far go on with those of the instructions that are left
abbrev pub invariant-loop-address : goal.invariant-loop-address
invariant-loop-address l = l.text.items ++ instruction_lines l.address (drop l.address l.instrs) ≡ l.fn.text.items ++ instruction_lines 0 l.instrs
