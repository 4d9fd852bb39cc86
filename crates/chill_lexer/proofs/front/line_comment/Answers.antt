use Rattle.std.proofs.Common.{◌≡◌, ap, ◌∙◌, ℕ, Some, drop, arith}
use Rattle.std.specs.List.{prefix_len}
use Rattle.std.proofs.lemmas.List.{take_rest}
use Rattle.rules_model.specs.TokensShapes.{between, is_in_line}
use Rattle.chill_lexer.proofs.FrontLemmas.{piece_line, line_within, line_place}
use Rattle.chill_lexer.proofs.front.line_comment.Goals as goal

length_is : (c : goal.After-line_length-length) → c.line_length-length.result ≡ prefix_len is_in_line (drop 2 c.args.text.now)
length_is c = c.line_length-length.ensures ∙ ap (prefix_len is_in_line) (take_rest c.args.text.now 2)

pub overflow_add-length : goal.overflow_add-length
overflow_add-length c = let h = line_within c.args.text.now c.requires.starts in let e = length_is c in omega arith

pub right-requires : goal.right-requires
right-requires c = let h = line_within c.args.text.now c.requires.starts in let e = length_is c in omega arith

pub returns : goal.returns
returns c =
    let e : c.line_length-length.result ≡ prefix_len is_in_line (drop 2 c.args.text.now) =
    c.line_length-length.ensures ∙ ap (prefix_len is_in_line) (take_rest c.args.text.now 2) in (
      piece_line c.args.text.now c.requires.starts ∙ ap (λ (k : ℕ). Some (between, k)) (omega arith),
      c.right.ensures ∙ line_place c.args.at c.args.text.now c.line_length-length.result c.requires.starts e,
    )
