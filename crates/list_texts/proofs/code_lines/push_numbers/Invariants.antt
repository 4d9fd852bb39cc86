use Rattle.std.proofs.Common.{◌≡◌, ◌++◌, take}
use Rattle.list_texts.specs.Code.{numbers_text}
use Rattle.list_texts.proofs.code_lines.push_numbers.Given as goal

abbrev pub invariant-loop-number : goal.invariant-loop-number
invariant-loop-number l = l.text.items ≡ l.fn.text.items ++ numbers_text (take l.number-index l.numbers)
