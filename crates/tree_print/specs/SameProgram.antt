-- A canonical text is the same program as the text that it was written from.
use Rattle.std.specs.Prelude.{◌≡◌, ◌↔◌, ℕ, List}
use Rattle.chill_tree.specs.ItemTree.{ProgramTree}
use Rattle.rules_model.specs.Diagnoses.{IsShort, HasTree}
use Rattle.rules_model.specs.TreeTokens.{tokens_of_tree}
use Rattle.tree_print.specs.Canonical.{canonical_text}
use Rattle.tree_print.specs.SameTree.{IsSameTree}

-- the text of a tree, which no places enter
abbrev pub program_text : ProgramTree → List ℕ
program_text x = canonical_text (tokens_of_tree x)

-- the text has a tree: this one but for places
pub record HasSameTree (text : List ℕ) (x : ProgramTree) : Type 0 where
  pub tree : ProgramTree
  pub has : HasTree text tree
  pub same : IsSameTree x tree

-- what is written of a text with a tree has the same tree but for places, unless it is too long
abbrev pub SameProgramLaw : Type 0
SameProgramLaw = (text : List ℕ) (x : ProgramTree) → HasTree text x → IsShort (program_text x) → HasSameTree (program_text x) x

-- two texts have the same tree but for places exactly where their canonical texts are the same
abbrev pub SameTextLaw : Type 0
SameTextLaw = (text other : List ℕ) (x y : ProgramTree) → HasTree text x → HasTree other y → IsSameTree x y ↔ (program_text x ≡ program_text y)
