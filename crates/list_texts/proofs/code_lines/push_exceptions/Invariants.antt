use Rattle.std.proofs.Common.{◌≡◌, ◌++◌, take}
use Rattle.list_texts.specs.Code.{exceptions_text}
use Rattle.list_texts.proofs.code_lines.push_exceptions.Given as goal

abbrev pub invariant-loop-name : goal.invariant-loop-name
invariant-loop-name l = l.text.items ≡ l.fn.text.items ++ exceptions_text (take l.name-index l.names)
