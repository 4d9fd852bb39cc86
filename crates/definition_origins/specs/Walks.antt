-- Origins in the order in which they are found, beside what `checks_model` says of them.
use Rattle.std.specs.Prelude.{Bool, List, [], ◌∷◌, ◌++◌, flat_map, Option, Some, None}
use Rattle.chill_tree.specs.declared.tree.name.Name.{Name}
use Rattle.chill_tree.specs.ModeTree as written
use Rattle.chill_tree.specs.LocalTree.{ModeDefinitionTree}
use Rattle.chill_tree.specs.StatementTree.{BracketedTree, if_then, case_of, do_loop, begin_end, delay_case, receive_case}
use Rattle.checks_model.specs.Ground.{Origin}
use Rattle.checks_model.specs.Origins.{set_in_discrete, elements, counters_in, origins_in_each, origins_in_branches, origins_in_cases, origins_in_named, origins_in_receives, origins_in_otherwise, origins_in_parts}

abbrev mutual
  -- the elements of the SETs in a mode of values; an owner is that of a SET that is the whole mode
  pub elements_in_base : Option (Name × Bool) → written.BaseTree → List Origin
  elements_in_base owner (written.discrete d) = flat_map (elements owner) (set_in_discrete d)
  elements_in_base owner (written.powerset at d) = flat_map (elements None) (set_in_discrete d)
  elements_in_base owner (written.chars at e) = []
  elements_in_base owner (written.structure at fs p) = elements_in_fields fs
  elements_in_base owner (written.array at i b s) = elements_in_base None b

  pub elements_in_fields : written.FieldNodes → List Origin
  elements_in_fields written.no_fields = []
  elements_in_fields (written.more_fields ns b p fs) = elements_in_base None b ++ elements_in_fields fs

abbrev pub elements_of_owned : Option (Name × Bool) → written.ModeTree → List Origin
elements_of_owned owner (written.base_mode b) = elements_in_base owner b
elements_of_owned owner (written.read_mode at b) = elements_in_base owner b
elements_of_owned owner (written.event_mode at l) = []
elements_of_owned owner (written.buffer_mode at l b) = elements_in_base None b

abbrev pub owner_by : Bool → ModeDefinitionTree → Option (Name × Bool)
owner_by novel d = Some (d.name, novel)

-- what an action that holds others has but in its ELSE
abbrev pub held_origins : BracketedTree → List Origin
held_origins (if_then at c ss bs o) = origins_in_each ss ++ origins_in_branches bs
held_origins (case_of at e as' o) = origins_in_cases as'
held_origins (do_loop at c ss) = counters_in c ++ origins_in_each ss
held_origins (begin_end at ps) = origins_in_parts ps
held_origins (delay_case at set p as') = origins_in_named as'
held_origins (receive_case at set as' o) = origins_in_receives as'

abbrev pub else_origins : BracketedTree → List Origin
else_origins (if_then at c ss bs o) = origins_in_otherwise o
else_origins (case_of at e as' o) = origins_in_otherwise o
else_origins (do_loop at c ss) = []
else_origins (begin_end at ps) = []
else_origins (delay_case at set p as') = []
else_origins (receive_case at set as' o) = origins_in_otherwise o
