use Rattle.std.proofs.Common.{◌∙◌, sym, ap}
use Rattle.rules_model.specs.Marks.{is_word}
use Rattle.expr_parser.proofs.Marked.{word_tested}
use Rattle.expr_parser.proofs.reader.is_word.Goals as goal

pub returns-in-Word : goal.returns-in-Word
returns-in-Word c = word_tested c.eq.result c.in-Word.own c.args.word c.eq.ensures ∙ ap (is_word c.args.word) (sym c.in-Word.is)
