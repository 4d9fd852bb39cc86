-- The names in modes: those that are used, and the elements that SETs define.
use Rattle.std.specs.Prelude.{List, [], ◌++◌, map, Option, Some, None}
use Rattle.chill_tree.specs.ModeTree.{DiscreteTree, named, bounded, set_of, IndexTree, index_named, index_bounded, PlaceTree, SpreadTree, by_packing, by_step, BaseTree, FieldNodes, discrete, powerset, chars, structure, array, no_fields, more_fields, ModeTree, base_mode, read_mode, event_mode, buffer_mode}
use Rattle.names_model.specs.declared.kind.Need.TheVariants as needs
use Rattle.names_model.specs.declared.part.Mention.{Mention}
use Rattle.names_model.specs.Identifiers.{identifier}
use Rattle.names_model.specs.declared.part.Mention.TheVariants.{Element}
use Rattle.names_model.specs.ExprMentions.{used, mentions_of, mentions_of_some}

abbrev pub mentions_of_discrete : DiscreteTree → List Mention
mentions_of_discrete (named n) = used needs.Mode n
mentions_of_discrete (bounded n l h) = used needs.Mode n ++ mentions_of l ++ mentions_of h
mentions_of_discrete (set_of at ns) = map (λ n. Element (identifier n)) ns

abbrev pub mentions_of_index : IndexTree → List Mention
mentions_of_index (index_named n) = used needs.Mode n
mentions_of_index (index_bounded l h) = mentions_of l ++ mentions_of h

abbrev pub mentions_of_place : PlaceTree → List Mention
mentions_of_place p = mentions_of p.word ++ mentions_of p.start ++ mentions_of p.bound

abbrev pub mentions_of_some_place : Option PlaceTree → List Mention
mentions_of_some_place None = []
mentions_of_some_place (Some p) = mentions_of_place p

abbrev pub mentions_of_spread : Option SpreadTree → List Mention
mentions_of_spread None = []
mentions_of_spread (Some (by_packing p)) = []
mentions_of_spread (Some (by_step s)) = mentions_of_place s.place ++ mentions_of s.distance

abbrev mutual
  pub mentions_of_base : BaseTree → List Mention
  mentions_of_base (discrete d) = mentions_of_discrete d
  mentions_of_base (powerset at d) = mentions_of_discrete d
  mentions_of_base (chars at e) = mentions_of e
  mentions_of_base (structure at fs p) = mentions_of_fields fs
  mentions_of_base (array at i b s) = mentions_of_index i ++ mentions_of_base b ++ mentions_of_spread s

  -- the names of fields aren't subject to visibility
  pub mentions_of_fields : FieldNodes → List Mention
  mentions_of_fields no_fields = []
  mentions_of_fields (more_fields ns b p fs) = (mentions_of_base b ++ mentions_of_some_place p) ++ mentions_of_fields fs

abbrev pub mentions_of_mode : ModeTree → List Mention
mentions_of_mode (base_mode b) = mentions_of_base b
mentions_of_mode (read_mode at b) = mentions_of_base b
mentions_of_mode (event_mode at l) = mentions_of_some l
mentions_of_mode (buffer_mode at l b) = mentions_of_some l ++ mentions_of_base b

abbrev pub mentions_of_some_mode : Option ModeTree → List Mention
mentions_of_some_mode None = []
mentions_of_some_mode (Some m) = mentions_of_mode m
