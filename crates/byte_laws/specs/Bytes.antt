-- What a text of bytes writes: its characters and its text literals are bytes.
use Rattle.std.specs.Prelude.{ℕ, ◌≤◌, List}
use Rattle.chill_tree.specs.ExprTree.{ExprTree, ExprNodes, RangeTree, RangeNodes, whole, character, text, this_instance, paren, receive, start, tuple, uniform, name, apply, field, prefixed, binary, no_exprs, more_exprs, alone, between, no_ranges, more_ranges}
use Rattle.chill_tree.specs.ItemTree.{ProgramTree}
use Rattle.rules_model.specs.Diagnoses.{HasTree}
use Rattle.checks_model.specs.Sites.{Site, sites}
use Rattle.written_laws.specs.Written.{Each, exprs_at}

abbrev pub IsByte : ℕ → Type 0
IsByte b = b ≤ 255

abbrev mutual
  -- the characters and the text literals in an expression are bytes
  pub HasBytes : ExprTree → Type 0
  HasBytes (whole at n) = Unit {0}
  HasBytes (character at n) = IsByte n
  HasBytes (text at bytes) = Each IsByte bytes
  HasBytes (this_instance at) = Unit {0}
  HasBytes (paren at e) = HasBytes e
  HasBytes (receive at n) = Unit {0}
  HasBytes (start at n es) = HaveBytes es
  HasBytes (tuple at m b rs) = RangesHaveBytes rs
  HasBytes (uniform at m b e) = HasBytes e
  HasBytes (name n) = Unit {0}
  HasBytes (apply at e es) = HasBytes e × HaveBytes es
  HasBytes (field at e n) = HasBytes e
  HasBytes (prefixed at o e) = HasBytes e
  HasBytes (binary at l o p r) = HasBytes l × HasBytes r

  pub HaveBytes : ExprNodes → Type 0
  HaveBytes no_exprs = Unit {0}
  HaveBytes (more_exprs e es) = HasBytes e × HaveBytes es

  pub RangeHasBytes : RangeTree → Type 0
  RangeHasBytes (alone e) = HasBytes e
  RangeHasBytes (between l h) = HasBytes l × HasBytes h

  pub RangesHaveBytes : RangeNodes → Type 0
  RangesHaveBytes no_ranges = Unit {0}
  RangesHaveBytes (more_ranges r rs) = RangeHasBytes r × RangesHaveBytes rs

-- those in the expressions at a node are
abbrev pub HasByteExprs : Site → Type 0
HasByteExprs s = Each HasBytes (exprs_at s)

-- Each node of a text of bytes has bytes.
abbrev pub BytesLaw : Type 0
BytesLaw = (text : List ℕ) (t : ProgramTree) → Each IsByte text → HasTree text t → Each HasByteExprs (sites t)
