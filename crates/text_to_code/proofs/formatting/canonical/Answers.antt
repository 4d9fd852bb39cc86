use Rattle.std.proofs.Common.{List, ap, ◌∙◌}
use Rattle.chill_tree.specs.declared.token.Token.{Token}
use Rattle.chill_tree.specs.ItemTree.{program_tree}
use Rattle.tree_print.specs.Canonical.{canonical_text, token_kinds}
use Rattle.text_to_code.proofs.Readings.{program_text_of}
use Rattle.text_to_code.proofs.formatting.canonical.Goals as goal

-- the tokens that were written are those of the tree
pub returns-clause-canonical : goal.returns-clause-canonical
returns-clause-canonical c =
    let tree = program_tree c.in_ok-_tree._tree in
    let has = c.in_ok-_tree.ensures.tree in
    record {
      tree = tree;
      has = has;
      written = c.in_ok-print.ensures ∙ ap (λ (toks : List Token). canonical_text (token_kinds toks)) c.as_slice-2.ensures ∙ program_text_of c.args.text.now c.in_ok-tokens.tokens tree c.in_ok-tokens.ensures.tokens has;
    }
