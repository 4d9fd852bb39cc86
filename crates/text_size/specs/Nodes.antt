-- How many nodes expressions have: each literal, THIS and tuple, each operator, each RECEIVE and START that stands as a value,
-- each name that begins a location or value, and each part in brackets or behind a point. Parentheses alone are none.
use Rattle.std.specs.Prelude.{ℕ, ◌+◌, min, List, Option, Some, None}
use Rattle.chill_tree.specs.ExprTree.{ExprTree, ExprNodes, RangeTree, RangeNodes, whole, character, text, this_instance, paren, receive, start, tuple, uniform, name, apply, field, prefixed, binary, no_exprs, more_exprs, alone, between, no_ranges, more_ranges, expr_nodes, range_nodes}

-- a number, or 4,294,967,295 where it is greater
abbrev pub capped : ℕ → ℕ
capped n = min n 4294967295

abbrev mutual
  pub nodes : ExprTree → ℕ
  nodes (whole at n) = 1
  nodes (character at n) = 1
  nodes (text at n) = 1
  nodes (this_instance at) = 1
  nodes (paren at e) = nodes e
  nodes (receive at n) = 1
  nodes (start at n es) = 1 + nodes_in_each es
  nodes (tuple at m b rs) = 1 + nodes_in_ranges rs
  nodes (uniform at m b e) = 1 + nodes e
  nodes (name n) = 1
  nodes (apply at e es) = 1 + nodes e + nodes_in_each es
  nodes (field at e n) = 1 + nodes e
  nodes (prefixed at o e) = 1 + nodes e
  nodes (binary at l o p r) = 1 + nodes l + nodes r

  pub nodes_in_each : ExprNodes → ℕ
  nodes_in_each no_exprs = 0
  nodes_in_each (more_exprs e es) = nodes e + nodes_in_each es

  pub nodes_in_range : RangeTree → ℕ
  nodes_in_range (alone e) = nodes e
  nodes_in_range (between l h) = nodes l + nodes h

  pub nodes_in_ranges : RangeNodes → ℕ
  nodes_in_ranges no_ranges = 0
  nodes_in_ranges (more_ranges r rs) = nodes_in_range r + nodes_in_ranges rs

-- those of an expression that may be written
abbrev pub nodes_in_some : Option ExprTree → ℕ
nodes_in_some None = 0
nodes_in_some (Some e) = nodes e

-- those of a list of expressions
abbrev pub nodes_in_all : List ExprTree → ℕ
nodes_in_all es = nodes_in_each (expr_nodes es)

-- those of a list of labels or of the parts of a tuple
abbrev pub nodes_in_labels : List RangeTree → ℕ
nodes_in_labels rs = nodes_in_ranges (range_nodes rs)
