use Rattle.std.specs.Prelude.{codes}
use Rattle.list_texts.specs.Layouts.{count_text}
use Rattle.list_texts.proofs.Lines.{three-made}
use Rattle.list_texts.proofs.layout_lines.push_head.Goals as goal

-- the word, the name and the count
pub returns : goal.returns
returns c = three-made c.args.text.now.items (codes "location ") c.args.name.now (count_text c.args.words) _ _ _ c.in_ok-push_word.ensures c.in_ok-extend_from_slice.ensures.items c.in_ok-push_count.ensures
