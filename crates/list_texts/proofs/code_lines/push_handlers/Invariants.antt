use Rattle.std.proofs.Common.{◌≡◌, ◌++◌, take}
use Rattle.list_texts.specs.Code.{handler_lines}
use Rattle.list_texts.proofs.code_lines.push_handlers.Given as goal

abbrev pub invariant-loop-handler : goal.invariant-loop-handler
invariant-loop-handler l = l.text.items ≡ l.fn.text.items ++ handler_lines (take l.handler-index l.handlers)
