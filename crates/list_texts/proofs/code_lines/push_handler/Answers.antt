use Rattle.list_texts.specs.Code.{range_text, exceptions_text, end_text}
use Rattle.list_texts.proofs.Lines.{three-made}
use Rattle.list_texts.proofs.code_lines.push_handler.Goals as goal

-- the range, the exceptions and the end
pub returns : goal.returns
returns c =
    let h = c.args.handler.now in
    let exceptions = rw c.as_slice.ensures at c.in_ok-push_exceptions.ensures in
    three-made c.args.text.now.items (range_text h) (exceptions_text h.names) (end_text h.otherwise) _ _ _ c.in_ok-push_range.ensures exceptions c.in_ok-push_end.ensures
