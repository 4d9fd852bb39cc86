-- Modulions: what the outermost process does at their places, the sizes of their texts, and what they use of the others.
use Rattle.std.specs.Prelude.{ℕ, suc, ◌+◌, nat_le, nat_lt, Bool, true, false, ◌&&◌, not, if◌then◌else◌, List, [], ◌∷◌, ◌++◌, flat_map, length, Option, Some, None, is_some, option_map, option_and_then}
use Rattle.std.specs.List.{filter, list_any}
use Rattle.chill_tree.specs.declared.tree.name.Name.{Name}
use Rattle.chill_tree.specs.declared.tree.item.ModulionKind.{ModulionKind}
use Rattle.chill_tree.specs.LocalTree.{locations}
use Rattle.chill_tree.specs.StatementTree.{HandlerTree, handler_node}
use Rattle.chill_tree.specs.ItemTree.{ItemTree, ItemNodes, seize, grant, local_item, signals, procedure, process, modulion, action, no_items, more_items, items_in, ModulionTree, ProgramTree, modulion_item}
use Rattle.checked_program.specs.declared.program.ModulionRow.{ModulionRow}
use Rattle.names_model.specs.declared.identifier.Identifier.{Identifier}
use Rattle.names_model.specs.declared.part.Clause.{Clause}
use Rattle.names_model.specs.Parts as reach
use Rattle.names_model.specs.ItemParts.{is_region, item_parts}
use Rattle.names_model.specs.Dependence.{uses_in}
use Rattle.names_model.specs.Entries.{once_behind}
use Rattle.names_model.specs.Sizes.{sizes_of}
use Rattle.text_size.specs.Sizes.{modulion_size}
use Rattle.checks_model.specs.Ground.{number_at}
use Rattle.checks_model.specs.Sites.{items_of}
use Rattle.program_trees.specs.StatementTree as done
use Rattle.elaboration_model.specs.Parts.{made_of}
use Rattle.elaboration_model.specs.Numbering.{Source, thing_defined, region_number}
use Rattle.elaboration_model.specs.Statements.{in_body, statement, handled, declarations, before}

-- ---- what modulions do

abbrev pub has_value : ItemTree → Bool
has_value (local_item (locations at ds)) = list_any (λ d. is_some d.initial) ds
has_value _ = false

-- a region whose declarations have no value does nothing
abbrev pub region_action : Bool → ℕ → done.StatementNodes → done.ActionTree
region_action true region ss = done.region_at region ss
region_action false region ss = done.do_nothing

abbrev pub modulion_action : Source → Name → ModulionKind → ItemNodes → done.StatementNodes → Option done.ActionTree
modulion_action s n kind items ss =
    if is_region kind then option_map (λ k. region_action (list_any has_value (items_in items)) k ss) (option_and_then region_number (thing_defined s n))
    else Some (done.module_at ss)

abbrev mutual
  -- what an item does, before what follows it
  pub item_before : Source → ItemTree → Option done.StatementNodes → Option done.StatementNodes
  item_before s (local_item l) rest = made_of before (declarations s l) rest
  item_before s (action x) rest = made_of done.more_statements (statement s (in_body None) x) rest
  item_before s (modulion n kind items h closing) rest =
      made_of done.more_statements (made_of (done.statement false) (option_and_then (modulion_action s n kind items) (items_done s items)) (handled s (in_body None) (handler_node h))) rest
  item_before s (seize at passed) rest = rest
  item_before s (grant at passed) rest = rest
  item_before s (signals at ss) rest = rest
  item_before s (procedure p) rest = rest
  item_before s (process p) rest = rest

  pub items_done : Source → ItemNodes → Option done.StatementNodes
  items_done s no_items = Some done.no_statements
  items_done s (more_items i is) = item_before s i (items_done s is)

-- what the modulions of a program do
abbrev pub modulions_done : Source → List ItemTree → Option done.StatementNodes
modulions_done s [] = Some done.no_statements
modulions_done s (i ∷ is) = item_before s i (modulions_done s is)

-- ---- the rows of modulions

-- the names used in parts and in what stands in them
abbrev pub used_in_clause : Clause → List Identifier
used_in_clause c = uses_in c.text

abbrev mutual
  pub used_in : reach.PartTree → List Identifier
  used_in (reach.define c) = used_in_clause c
  used_in (reach.mention m) = uses_in (m ∷ [])
  used_in (reach.seize n) = []
  used_in (reach.seize_all at) = []
  used_in (reach.grant n) = []
  used_in (reach.grant_all at) = []
  used_in (reach.stray n) = []
  used_in (reach.modulion n region size ps) = used_in_each ps
  used_in (reach.routine n kind params result size ps) = (flat_map used_in_clause params ++ uses_in result) ++ used_in_each ps
  used_in (reach.block size ps) = used_in_each ps

  pub used_in_each : reach.PartNodes → List Identifier
  used_in_each reach.no_parts = []
  used_in_each (reach.more_parts p ps) = used_in p ++ used_in_each ps

abbrev pub number_list : Option ℕ → List ℕ
number_list None = []
number_list (Some d) = d ∷ []

abbrev pub numbers_used : Source → List reach.PartTree → List ℕ
numbers_used s ps = flat_map (λ n. number_list (number_at s.known.uses n.at)) (flat_map used_in ps)

-- a definition of the text that isn't one of so many from a number on
abbrev pub is_outside : Source → ℕ → ℕ → ℕ → Bool
is_outside s first count d = nat_lt d (length s.rows) && not (nat_le first d && nat_lt d (first + count))

abbrev pub outside_from : Source → ItemTree → Option ℕ → List ℕ
outside_from s i None = []
outside_from s i (Some first) = once_behind [] (filter (is_outside s first (sizes_of (reach.part_nodes (item_parts i)))) (numbers_used s (item_parts i)))

-- the definitions outside a modulion that it uses, in the order of their first uses in it
abbrev pub uses_outside : Source → Name → ItemTree → List ℕ
uses_outside s n i = outside_from s i (number_at s.known.defined n.at)

abbrev pub modulion_row : Source → ModulionTree → Option ℕ → ModulionRow
modulion_row s m around = record { name = m.name.text; around = around; size = modulion_size m; uses = uses_outside s m.name (modulion_item m) }

abbrev pub as_modulion : Name → ModulionKind → ItemNodes → Option HandlerTree → Option Name → ModulionTree
as_modulion n kind items h closing = record { name = n; kind = kind; items = items_in items; handler = h; closing = closing }

abbrev mutual
  -- how many modulions an item is and holds
  pub count_of : ItemTree → ℕ
  count_of (modulion n kind items h closing) = suc (counts_of items)
  count_of _ = 0

  pub counts_of : ItemNodes → ℕ
  counts_of no_items = 0
  counts_of (more_items i is) = count_of i + counts_of is

abbrev mutual
  -- the rows of the modulions in an item that has a modulion around it, the first of which has a number
  pub rows_of_item : Source → Option ℕ → ℕ → ItemTree → List ModulionRow
  rows_of_item s around k (modulion n kind items h closing) = modulion_row s (as_modulion n kind items h closing) around ∷ rows_of_items s (Some k) (suc k) items
  rows_of_item s around k _ = []

  pub rows_of_items : Source → Option ℕ → ℕ → ItemNodes → List ModulionRow
  rows_of_items s around k no_items = []
  rows_of_items s around k (more_items i is) = rows_of_item s around k i ++ rows_of_items s around (k + count_of i) is

abbrev pub modulion_rows_from : Source → ℕ → List ItemTree → List ModulionRow
modulion_rows_from s k [] = []
modulion_rows_from s k (i ∷ is) = rows_of_item s None k i ++ modulion_rows_from s (k + count_of i) is

abbrev pub modulion_rows : Source → ProgramTree → List ModulionRow
modulion_rows s t = modulion_rows_from s 0 (items_of t)
