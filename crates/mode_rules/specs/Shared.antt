-- L7 by the places of the locations that processes share.
use Rattle.std.specs.Prelude.{◌+◌, nat_lt, ℕ, if◌then◌else◌, List, [], ◌∷◌, ◌++◌, map, flat_map, option_and_then, slice_get}
use Rattle.chill_base.specs.declared.pos.Pos.{Pos}
use Rattle.chill_tree.specs.declared.tree.name.Name.{Name}
use Rattle.chill_tree.specs.LocalTree.{DeclarationTree, LocalTree, synonyms, syn_modes, new_modes, locations}
use Rattle.chill_tree.specs.ItemTree.{ModulionTree, ItemTree, ItemNodes, seize, grant, local_item, signals, procedure, process, modulion, action, no_items, more_items, modulion_item}
use Rattle.diagnostics.specs.declared.diagnostic.Diagnostic.{Diagnostic}
use Rattle.diagnostics.specs.declared.rule.Rule.TheVariants as rules
use Rattle.checks_model.specs.Ground.{Ground, number_at, mode_of_entry}
use Rattle.checks_model.specs.Told.{tell_at}
use Rattle.checks_model.specs.Limits.{scalars_in_mode}

abbrev pub scalars_at : Ground → Pos → ℕ
scalars_at g at = scalars_in_mode (mode_of_entry (option_and_then (slice_get g.entries) (number_at g.defined at)))

abbrev pub told_places : Ground → ℕ → List Pos → List Diagnostic
told_places g before [] = []
told_places g before (at ∷ ats) = if nat_lt 65536 (before + scalars_at g at) then tell_at rules.L7 at ∷ [] else told_places g (before + scalars_at g at) ats

abbrev pub places_of : List Name → List Pos
places_of ns = map (λ n. n.at) ns

abbrev pub declared_places : List DeclarationTree → List Pos
declared_places ds = flat_map (λ d. places_of d.names) ds

abbrev pub local_places : LocalTree → List Pos
local_places (locations at ds) = declared_places ds
local_places (synonyms at ss) = []
local_places (syn_modes at ds) = []
local_places (new_modes at ds) = []

abbrev mutual
  pub shared_places : ItemTree → List Pos
  shared_places (local_item l) = local_places l
  shared_places (modulion n kind items h closing) = each_shared items
  shared_places (seize at passed) = []
  shared_places (grant at passed) = []
  shared_places (signals at ss) = []
  shared_places (procedure p) = []
  shared_places (process p) = []
  shared_places (action s) = []

  pub each_shared : ItemNodes → List Pos
  each_shared no_items = []
  each_shared (more_items i is) = shared_places i ++ each_shared is

abbrev pub all_shared : List ModulionTree → List Pos
all_shared ms = flat_map (λ m. shared_places (modulion_item m)) ms
