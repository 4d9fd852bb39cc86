-- The law of where the names of a text lead: a name in a body to no local of another one, and to what a region keeps only inside it.
use Rattle.std.specs.Prelude.{◌≡◌, ◌⊎◌, ℕ, true, false, List, [], ◌∷◌, Option, Some, None, slice_get}
use Rattle.chill_tree.specs.declared.tree.name.Name.{Name}
use Rattle.chill_tree.specs.SimpleTree.{SimpleTree, start_of, delay, continue_event, send}
use Rattle.chill_tree.specs.StatementTree.{handler_node}
use Rattle.chill_tree.specs.ItemTree.{ProcedureTree, ItemTree, ItemNodes, seize, grant, local_item, signals, procedure, process, modulion, action, no_items, more_items, ProgramTree}
use Rattle.names_model.specs.declared.names.Resolved.{Resolved}
use Rattle.checks_model.specs.Ground.{Ground, a_procedure, a_modulion, number_at}
use Rattle.checks_model.specs.Phases.{processes_told_at}
use Rattle.checks_model.specs.Table.{ground_with}
use Rattle.checks_model.specs.Diagnoses.{HasNames}
use Rattle.checks_model.specs.Sites.{Site, in_procedure, in_no_procedure, at_declaration, at_simple, at_control, at_event, at_source, at_received, counter_in, names_received, sites_of_local, sites_of, sites_of_handler, sites_of_body, items_of, sites}
use Rattle.table_laws.specs.Names.{names_in}
use Rattle.written_laws.specs.Written.{Each, exprs_at}
use Rattle.elaboration_model.specs.Numbering.{Source, Row, is_location, body_around, body_of, thing_of}
use Rattle.elaboration_model.specs.Elaborated.{region_in, region_around, is_critical, source_of}

-- what a region lets out: what is no location, and of procedures those that it grants
abbrev pub IsPassed : Source → Row → Type 0
IsPassed s r = (is_location r.origin ≡ false) × ((p : ProcedureTree) → r.origin ≡ a_procedure p → is_critical s.rows r p.name ≡ true)

-- a definition may be named in a body and a region
pub record IsOpenTo (s : Source) (body : ℕ) (region : Option ℕ) (r : Row) : Type 0 where
  pub own : (b : ℕ) → body_around s.rows r.inside ≡ Some b → b ≡ body
  pub kept : (k : ℕ) → region_around s.rows r.inside ≡ Some k → (region ≡ Some k) ⊎ IsPassed s r

-- what stands at a name's place in a list of numbers
abbrev pub Leads : Source → ℕ → Option ℕ → List Resolved → Name → Type 0
Leads s body region us n = (d : ℕ) (r : Row) → number_at us n.at ≡ Some d → slice_get s.rows d ≡ Some r → IsOpenTo s body region r

abbrev pub IsUseReached : Source → ℕ → Option ℕ → Name → Type 0
IsUseReached s body region n = Leads s body region s.known.uses n

abbrev pub IsDefinitionReached : Source → ℕ → Option ℕ → Name → Type 0
IsDefinitionReached s body region n = Leads s body region s.known.defined n

-- ---- the names at a node

-- those that an action uses besides those in its expressions
abbrev pub names_of_action : SimpleTree → List Name
names_of_action (start_of at n es) = n ∷ []
names_of_action (delay at n p) = n ∷ []
names_of_action (continue_event at n) = n ∷ []
names_of_action (send at n es to p) = n ∷ []
names_of_action a = []

abbrev pub other_names : Site → List Name
other_names (at_simple a x) = names_of_action x
other_names (at_event earlier n) = n ∷ []
other_names (at_source earlier n) = n ∷ []
other_names (at_received n names) = n ∷ []
other_names n = []

abbrev pub defined_names : Site → List Name
defined_names (at_declaration shared d) = d.names
defined_names (at_control c) = counter_in c
defined_names (at_received n names) = names_received names
defined_names n = []

-- all names at a node of a body, which stands in a region or in none
pub record IsSiteReached (s : Source) (body : ℕ) (region : Option ℕ) (n : Site) : Type 0 where
  pub exprs : Each (λ e. Each (IsUseReached s body region) (names_in e)) (exprs_at n)
  pub others : Each (IsUseReached s body region) (other_names n)
  pub defined : Each (IsDefinitionReached s body region) (defined_names n)

-- ---- the law

-- a routine of a number
pub record RoutineAt (s : Source) (n : Name) (d : ℕ) (r : Row) : Type 0 where
  pub number : number_at s.known.defined n.at ≡ Some d
  pub row : slice_get s.rows d ≡ Some r

abbrev mutual
  -- The names in an item that stands in a region or in none. The nodes of items themselves are those of the outermost body.
  pub IsItemReached : Source → Option ℕ → ItemTree → Type 0
  IsItemReached s region (local_item l) = Each (IsSiteReached s 0 region) (sites_of_local true l)
  IsItemReached s region (action x) = Each (IsSiteReached s 0 region) (sites_of in_no_procedure x)
  IsItemReached s region (procedure p) = (d : ℕ) (r : Row) → RoutineAt s p.name d r → (region ≡ region_around s.rows r.inside) × Each (IsSiteReached s (body_of s.rows d) region) (sites_of_body (in_procedure p) p.body p.handler)
  IsItemReached s region (process p) = (d : ℕ) (r : Row) → RoutineAt s p.name d r → Each (IsSiteReached s (body_of s.rows d) None) (sites_of_body in_no_procedure p.body p.handler)
  IsItemReached s region (modulion n kind items h closing) =
      (inner : Option ℕ) × (((d : ℕ) → number_at s.known.defined n.at ≡ Some d → inner ≡ region_in (thing_of s.rows d)) × (AreItemsReached s inner items × Each (IsSiteReached s 0 inner) (sites_of_handler in_no_procedure (handler_node h))))
  IsItemReached s region (seize at passed) = Unit {0}
  IsItemReached s region (grant at passed) = Unit {0}
  IsItemReached s region (signals at ss) = Unit {0}

  pub AreItemsReached : Source → Option ℕ → ItemNodes → Type 0
  AreItemsReached s region no_items = Unit {0}
  AreItemsReached s region (more_items i is) = IsItemReached s region i × AreItemsReached s region is

abbrev mutual
  -- modulions stand under the numbers of their names
  pub ModulionsKnown : Ground → ItemTree → Type 0
  ModulionsKnown g (modulion n kind items h closing) = ((d : ℕ) → number_at g.defined n.at ≡ Some d → slice_get g.origins d ≡ Some (a_modulion kind items)) × EachModulionKnown g items
  ModulionsKnown g (local_item l) = Unit {0}
  ModulionsKnown g (action x) = Unit {0}
  ModulionsKnown g (procedure p) = Unit {0}
  ModulionsKnown g (process p) = Unit {0}
  ModulionsKnown g (seize at passed) = Unit {0}
  ModulionsKnown g (grant at passed) = Unit {0}
  ModulionsKnown g (signals at ss) = Unit {0}

  pub EachModulionKnown : Ground → ItemNodes → Type 0
  EachModulionKnown g no_items = Unit {0}
  EachModulionKnown g (more_items i is) = ModulionsKnown g i × EachModulionKnown g is

-- In a text that breaks no rule on names and on processes.
abbrev pub ReachedLaw : Type 0
ReachedLaw = (text : List ℕ) (t : ProgramTree) (g : Ground) → HasNames text t → g ≡ ground_with t g.entries → Each (λ n. processes_told_at g n ≡ []) (sites t) → Each (ModulionsKnown g) (items_of t) → Each (IsItemReached (source_of g t) None) (items_of t)
