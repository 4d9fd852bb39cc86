-- What is told of the names from which expressions and modes receive, in the order of the text. A walk takes what is told of one
-- name and gives what is told of all of them, one behind the other.
use Rattle.std.specs.Prelude.{List, [], ◌++◌, Option, Some, None}
use Rattle.chill_tree.specs.declared.tree.name.Name.{Name}
use Rattle.chill_tree.specs.ExprTree.{ExprTree, ExprNodes, RangeTree, RangeNodes, whole, character, text, this_instance, paren, receive, start, tuple, uniform, name, apply, field, prefixed, binary, no_exprs, more_exprs, alone, between, no_ranges, more_ranges, expr_nodes, range_nodes}
use Rattle.chill_tree.specs.ModeTree.{ModeTree, base_mode, read_mode, event_mode, buffer_mode, BaseTree, discrete, powerset, chars, structure, array, FieldNodes, no_fields, more_fields, DiscreteTree, named, bounded, set_of, IndexTree, index_named, index_bounded, PlaceTree, SpreadTree, by_packing, by_step}

module _ {A : Type 0} (at_source : Name → List A) where
  abbrev mutual
    -- an expression
    pub over_expr : ExprTree → List A
    over_expr (whole at n) = []
    over_expr (character at n) = []
    over_expr (text at n) = []
    over_expr (this_instance at) = []
    over_expr (name n) = []
    over_expr (paren at e) = over_expr e
    over_expr (receive at n) = at_source n
    over_expr (start at n es) = over_each es
    over_expr (tuple at m b rs) = over_ranges rs
    over_expr (uniform at m b e) = over_expr e
    over_expr (apply at e es) = over_expr e ++ over_each es
    over_expr (field at e n) = over_expr e
    over_expr (prefixed at o e) = over_expr e
    over_expr (binary at l o p r) = over_expr l ++ over_expr r

    pub over_each : ExprNodes → List A
    over_each no_exprs = []
    over_each (more_exprs e es) = over_expr e ++ over_each es

    pub over_range : RangeTree → List A
    over_range (alone e) = over_expr e
    over_range (between l h) = over_expr l ++ over_expr h

    pub over_ranges : RangeNodes → List A
    over_ranges no_ranges = []
    over_ranges (more_ranges r rs) = over_range r ++ over_ranges rs

  abbrev pub over_some : Option ExprTree → List A
  over_some None = []
  over_some (Some e) = over_expr e

  abbrev pub over_all : List ExprTree → List A
  over_all es = over_each (expr_nodes es)

  abbrev pub over_some_all : Option (List ExprTree) → List A
  over_some_all None = []
  over_some_all (Some es) = over_all es

  abbrev pub over_labels : List RangeTree → List A
  over_labels rs = over_ranges (range_nodes rs)

  -- ---- modes

  abbrev pub over_discrete : DiscreteTree → List A
  over_discrete (named n) = []
  over_discrete (bounded n l h) = over_expr l ++ over_expr h
  over_discrete (set_of at ns) = []

  abbrev pub over_index : IndexTree → List A
  over_index (index_named n) = []
  over_index (index_bounded l h) = over_expr l ++ over_expr h

  abbrev pub over_place : PlaceTree → List A
  over_place p = over_expr p.word ++ (over_expr p.start ++ over_expr p.bound)

  abbrev pub over_some_place : Option PlaceTree → List A
  over_some_place None = []
  over_some_place (Some p) = over_place p

  abbrev pub over_spread : Option SpreadTree → List A
  over_spread None = []
  over_spread (Some (by_packing p)) = []
  over_spread (Some (by_step s)) = over_place s.place ++ over_expr s.distance

  abbrev mutual
    pub over_base : BaseTree → List A
    over_base (discrete d) = over_discrete d
    over_base (powerset at d) = over_discrete d
    over_base (chars at e) = over_expr e
    over_base (structure at fs p) = over_fields fs
    over_base (array at i b s) = over_index i ++ (over_base b ++ over_spread s)

    pub over_fields : FieldNodes → List A
    over_fields no_fields = []
    over_fields (more_fields ns b p fs) = (over_base b ++ over_some_place p) ++ over_fields fs

  abbrev pub over_mode : ModeTree → List A
  over_mode (base_mode b) = over_base b
  over_mode (read_mode at b) = over_base b
  over_mode (event_mode at l) = over_some l
  over_mode (buffer_mode at l b) = over_some l ++ over_base b

  abbrev pub over_some_mode : Option ModeTree → List A
  over_some_mode None = []
  over_some_mode (Some m) = over_mode m
