-- How many nodes the expressions in a mode have: its bounds, lengths and places.
use Rattle.std.specs.Prelude.{ℕ, ◌+◌, List, [], ◌∷◌, Option, Some, None}
use Rattle.chill_tree.specs.ModeTree.{DiscreteTree, named, bounded, set_of, IndexTree, index_named, index_bounded, PlaceTree, SpreadTree, by_packing, by_step, BaseTree, discrete, powerset, chars, structure, array, FieldTree, FieldNodes, no_fields, more_fields, ModeTree, base_mode, read_mode, event_mode, buffer_mode}
use Rattle.text_size.specs.Nodes.{nodes, nodes_in_some}

abbrev pub nodes_in_discrete : DiscreteTree → ℕ
nodes_in_discrete (named n) = 0
nodes_in_discrete (bounded n l h) = nodes l + nodes h
nodes_in_discrete (set_of at ns) = 0

abbrev pub nodes_in_index : IndexTree → ℕ
nodes_in_index (index_named n) = 0
nodes_in_index (index_bounded l h) = nodes l + nodes h

abbrev pub nodes_in_place : PlaceTree → ℕ
nodes_in_place p = nodes p.word + nodes p.start + nodes p.bound

abbrev pub nodes_in_some_place : Option PlaceTree → ℕ
nodes_in_some_place None = 0
nodes_in_some_place (Some p) = nodes_in_place p

abbrev pub nodes_in_spread : Option SpreadTree → ℕ
nodes_in_spread None = 0
nodes_in_spread (Some (by_packing p)) = 0
nodes_in_spread (Some (by_step s)) = nodes_in_place s.place + nodes s.distance

abbrev mutual
  pub nodes_in_base : BaseTree → ℕ
  nodes_in_base (discrete d) = nodes_in_discrete d
  nodes_in_base (powerset at d) = nodes_in_discrete d
  nodes_in_base (chars at e) = nodes e
  nodes_in_base (structure at fs p) = nodes_in_fields fs
  nodes_in_base (array at i b s) = nodes_in_index i + nodes_in_spread s + nodes_in_base b

  pub nodes_in_fields : FieldNodes → ℕ
  nodes_in_fields no_fields = 0
  nodes_in_fields (more_fields ns b p fs) = nodes_in_base b + nodes_in_some_place p + nodes_in_fields fs

abbrev pub nodes_in_field : FieldTree → ℕ
nodes_in_field f = nodes_in_base f.base + nodes_in_some_place f.place

abbrev pub nodes_in_mode : ModeTree → ℕ
nodes_in_mode (base_mode b) = nodes_in_base b
nodes_in_mode (read_mode at b) = nodes_in_base b
nodes_in_mode (event_mode at l) = nodes_in_some l
nodes_in_mode (buffer_mode at l b) = nodes_in_some l + nodes_in_base b

abbrev pub nodes_in_some_mode : Option ModeTree → ℕ
nodes_in_some_mode None = 0
nodes_in_some_mode (Some m) = nodes_in_mode m

abbrev pub nodes_in_modes : List ModeTree → ℕ
nodes_in_modes [] = 0
nodes_in_modes (m ∷ ms) = nodes_in_mode m + nodes_in_modes ms
