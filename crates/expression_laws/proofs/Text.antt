-- The program of a text is there, by its nodes, its names and its definitions.
use Rattle.std.proofs.Common.{◌≡◌, ℕ, zero, suc, Bool, true, List, [], ◌∷◌, ◌++◌, Option, Some, None, Contains, inl, inr, refl, sym, ap, ◌∙◌, subst, true≢false}
use Rattle.std.specs.Prelude.{IsSome, map, flat_map, slice_get}
use Rattle.chill_tree.specs.declared.tree.name.Name.{Name}
use Rattle.chill_tree.specs.declared.tree.item.ModulionKind.{ModulionKind}
use Rattle.chill_tree.specs.ItemTree.{ItemTree, ItemNodes, seize, grant, local_item, signals, procedure, process, modulion, action, no_items, more_items, ProcedureTree, ProgramTree}
use Rattle.names_model.specs.declared.definition.Definition.{Definition}
use Rattle.names_model.specs.Definitions.{text_definitions}
use Rattle.names_model.specs.Resolving.{level_of}
use Rattle.names_laws.proofs.Members.{here_in, later_in, none_in, in_cases}
use Rattle.checks_model.specs.Ground.{Ground, Origin, Entry, a_procedure, a_process, a_signal}
use Rattle.checks_model.specs.Origins.{origins_of}
use Rattle.checks_model.specs.Table.{IsStatementGroundOf}
use Rattle.checks_model.specs.Sites.{Site, at_item, in_procedure, in_no_procedure, sites_of_body, sites_of_item, items_of, sites}
use Rattle.written_laws.specs.Written.{Each}
use Rattle.elaborated_laws.proofs.Told.{no_some, same_some}
use Rattle.elaboration_model.specs.Numbering.{Source, Row, rows}
use Rattle.elaboration_model.specs.Exceptions.{some_names, exception_number, own_exceptions}
use Rattle.elaboration_model.specs.Parts.{made_each}
use Rattle.elaboration_model.specs.Elaborated.{listed_by, source_of}
use Rattle.expression_laws.specs.Statements.{IsNodeClean}
use Rattle.expression_laws.specs.Program.{ItemStands, ItemsStand, IsItemClean, IsBodyClean, OriginStands, IsRowClean}
use Rattle.expression_laws.specs.Exits.{ItemExits, EachItemExits}
use Rattle.expression_laws.specs.Nodes.{NodesOf}
use Rattle.expression_laws.specs.Text.{RegionsStand, EachRegionStands, ModesStand, IsTextClean, TextElaboratedLaw}
use Rattle.expression_laws.proofs.Actions.{each_first, each_later}
use Rattle.expression_laws.proofs.Statements.{each_made}
use Rattle.expression_laws.proofs.Program.{program_there}
use Rattle.expression_laws.proofs.Exceptions.{exceptions_there}
use Rattle.expression_laws.proofs.Exits.{exits_there}
use Rattle.expression_laws.proofs.Nodes.{nodes_there}

-- ---- members

pub of_member : {A : Type 0} (P : A → Type 0) (xs : List A) (x : A) → Each P xs → Contains xs x → P x
of_member P [] x all c = absurd (none_in x c)
of_member P (y ∷ xs) x all c = elim (in_cases y xs x c) [
  | inl is ↦ subst P is all.0
  | inr there ↦ of_member P xs x all.1 there
]

of_members : {A : Type 0} (P : A → Type 0) (all xs : List A) → Each P all → Each (λ x. Contains all x) xs → Each P xs
of_members P all [] holds within = tt
of_members P all (x ∷ xs) holds within = (of_member P all x holds within.0, of_members P all xs holds within.1)

pub each_one : {A : Type 0} (P : A → Type 0) (xs : List A) → ((x : A) → Contains xs x → P x) → Each P xs
each_one P [] each = tt
each_one P (x ∷ xs) each = (each x (here_in x xs x refl), each_one P xs (λ y c. each y (later_in x xs y c)))

-- ---- rows

origin_of_row : (ds : List Definition) (os : List Origin) (es : List Entry) (k : ℕ) (r : Row) → slice_get (rows ds os es) k ≡ Some r → slice_get os k ≡ Some r.origin
origin_of_row [] os es k r at = no_some r at
origin_of_row (d ∷ ds) [] es k r at = no_some r at
origin_of_row (d ∷ ds) (o ∷ os) [] k r at = no_some r at
origin_of_row (d ∷ ds) (o ∷ os) (e ∷ es) zero r at = ap (λ (x : Row). Some x.origin) (same_some (record { name = d.name.spelling; inside = d.inside; origin = o; mode = e.mode }) r at)
origin_of_row (d ∷ ds) (o ∷ os) (e ∷ es) (suc k) r at = origin_of_row ds os es k r at

-- the exceptions of a procedure
listed_there : (t : ProgramTree) (s : Source) (kind : ModulionKind) (all : ItemNodes) (p : ProcedureTree) → s.own_exceptions ≡ own_exceptions t → Contains (sites t) (at_item kind all (procedure p)) → IsSome (listed_by s p.exceptions)
listed_there t s kind all p own at = by p.exceptions (λ n c. subst (λ xs. IsSome (exception_number xs n)) (sym own) (exceptions_there t (at_item kind all (procedure p)) n at c))
  where
    by : (ns : Option (List Name)) → ((n : Name) → Contains (some_names ns) n → IsSome (exception_number s.own_exceptions n)) → IsSome (listed_by s ns)
    by None each = refl
    by (Some ns) each = each_made (exception_number s.own_exceptions) ns (each_one (λ n. IsSome (exception_number s.own_exceptions n)) ns each)

origin_stands : (t : ProgramTree) (s : Source) (d : ℕ) (o : Origin) → s.own_exceptions ≡ own_exceptions t → Each (IsNodeClean s) (sites t) → ModesStand s d o → NodesOf (λ n. Contains (sites t) n) o → OriginStands s d o
origin_stands t s d (a_signal own) exceptions nodes modes at = modes
origin_stands t s d (a_process p) exceptions nodes modes at = record { exits = at.0.0; handler_exits = at.0.1; nodes = of_members (IsNodeClean s) (sites t) (sites_of_body in_no_procedure p.body p.handler) nodes at.1 }
origin_stands t s d (a_procedure p) exceptions nodes modes at =
    let item = at.0 in (
      listed_there t s item.0 item.1.0 p exceptions item.1.1,
      (modes, record { exits = at.1.0.0; handler_exits = at.1.0.1; nodes = of_members (IsNodeClean s) (sites t) (sites_of_body (in_procedure p) p.body p.handler) nodes at.1.1 }),
    )
origin_stands t s d o exceptions nodes modes at = tt

-- ---- items

mutual
  item_stands : (s : Source) (i : ItemTree) → RegionsStand s i → ItemExits i → ItemStands s i
  item_stands s (modulion n kind items h closing) regions exits = (regions.0, (items_stand s items regions.1 exits.0, exits.1))
  item_stands s (action x) regions exits = exits
  item_stands s (seize at passed) regions exits = tt
  item_stands s (grant at passed) regions exits = tt
  item_stands s (local_item l) regions exits = tt
  item_stands s (signals at ss) regions exits = tt
  item_stands s (procedure p) regions exits = tt
  item_stands s (process p) regions exits = tt

  items_stand : (s : Source) (is : ItemNodes) → EachRegionStands s is → EachItemExits is → ItemsStand s is
  items_stand s no_items regions exits = tt
  items_stand s (more_items i is) regions exits = (item_stands s i regions.0 exits.0, items_stand s is regions.1 exits.1)

items_clean : (s : Source) (is : List ItemTree) → Each (RegionsStand s) is → Each ItemExits is → Each (IsNodeClean s) (flat_map sites_of_item is) → Each (IsItemClean s) is
items_clean s [] regions exits nodes = tt
items_clean s (i ∷ is) regions exits nodes = (
  record { stands = item_stands s i regions.0 exits.0; nodes = each_first (IsNodeClean s) (sites_of_item i) (flat_map sites_of_item is) nodes },
  items_clean s is regions.1 exits.1 (each_later (IsNodeClean s) (sites_of_item i) (flat_map sites_of_item is) nodes),
)

pub text_elaborated : TextElaboratedLaw
text_elaborated text t g has ground clean =
    let s = source_of g t in
    let exits = exits_there text t has in
    let origins_are : g.origins ≡ origins_of t = ap (λ (x : Ground). x.origins) ground.names in
    program_there s t clean.names
    (λ d r at.
    let own = clean.definitions d r at in
    let origin_at = sym (ap (λ os. slice_get os d) origins_are) ∙ origin_of_row (text_definitions (level_of t)) g.origins g.entries d r at in
    record { mode = own.mode; stands = origin_stands t s d r.origin refl clean.nodes own.modes (nodes_there t exits d r.origin origin_at) })
    (items_clean s (items_of t) clean.regions exits clean.nodes.1.1)
