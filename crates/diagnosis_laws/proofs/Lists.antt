-- The lists of the phases of a tree: one is told, and some.
use Rattle.std.proofs.Common.{◌≡◌, ℕ, List, [], ◌∷◌, length, refl, sym, ap, ◌∙◌}
use Rattle.chill_tree.specs.ItemTree.{ProgramTree}
use Rattle.diagnostics.specs.declared.diagnostic.Diagnostic.{Diagnostic}
use Rattle.names_model.specs.Resolving.{broken_names, level_of}
use Rattle.rules_model.specs.Diagnoses.{HasTree}
use Rattle.checks_model.specs.Ground.{Ground}
use Rattle.checks_model.specs.Table.{IsGroundOf, IsStatementGroundOf}
use Rattle.checks_model.specs.Phases.{broken_modes, broken_statements, broken_processes}
use Rattle.checks_model.specs.Diagnoses.{HasNames, HasModes, BreaksNoRule, BreaksRules, on_names, on_modes, on_statements, on_processes}
use Rattle.order_laws.specs.Counted.{counted}
use Rattle.order_laws.proofs.Counted.{counted_law}
use Rattle.order_laws.proofs.GroundThere.{ground_there}
use Rattle.order_laws.proofs.TextCounters.{one_ground}
use Rattle.diagnosis_laws.specs.Lists.{IsListOf, broken, sound, OneListLaw, SomeListLaw}
use Rattle.diagnosis_laws.proofs.Grounds.{one_statement_ground}

-- the first of two lists that has any
abbrev first_of : List Diagnostic → List Diagnostic → List Diagnostic
first_of [] later = later
first_of (d ∷ ds) later = d ∷ ds

some_first : (own later : List Diagnostic) (d : Diagnostic) (ds : List Diagnostic) → own ≡ d ∷ ds → d ∷ ds ≡ first_of own later
some_first own later d ds is = sym (ap (λ l. first_of l later) is)

no_first : (own later : List Diagnostic) → own ≡ [] → first_of own later ≡ later
no_first own later none = ap (λ l. first_of l later) none

none_some : (list : List Diagnostic) (d : Diagnostic) (ds : List Diagnostic) → list ≡ [] → list ≡ d ∷ ds → ⊥
none_some list d ds none some = cc

-- by the grounds of its text, the list of a tree that breaks no rule on names
abbrev told_by : ProgramTree → Ground → Ground → List Diagnostic
told_by t g h = first_of (broken_modes g t) (first_of (broken_statements h t) (broken_processes h t))

module _ (text : List ℕ) (t : ProgramTree) (g h : Ground) (has : HasNames text t) (is_g : IsGroundOf t g) (is_h : IsStatementGroundOf t h) where
  modes_so : (f : Ground) → IsGroundOf t f → broken_modes g t ≡ broken_modes f t
  modes_so f is_f = ap (λ (x : Ground). broken_modes x t) (one_ground text t g f has is_g is_f)

  statements_so : (f : Ground) → IsStatementGroundOf t f → broken_statements h t ≡ broken_statements f t
  statements_so f is_f = ap (λ (x : Ground). broken_statements x t) (one_statement_ground text t h f has is_h is_f)

  processes_so : (f : Ground) → IsStatementGroundOf t f → broken_processes h t ≡ broken_processes f t
  processes_so f is_f = ap (λ (x : Ground). broken_processes x t) (one_statement_ground text t h f has is_h is_f)

  behind_modes : (f : Ground) → HasModes text t f → told_by t g h ≡ first_of (broken_statements h t) (broken_processes h t)
  behind_modes f modes = no_first (broken_modes g t) (first_of (broken_statements h t) (broken_processes h t)) (modes_so f modes.is_ground ∙ modes.modes)

  behind_statements : (f : Ground) → IsStatementGroundOf t f → broken_statements f t ≡ [] → first_of (broken_statements h t) (broken_processes h t) ≡ broken_processes h t
  behind_statements f is_f none = no_first (broken_statements h t) (broken_processes h t) (statements_so f is_f ∙ none)

  broken_so : (told : List Diagnostic) → BreaksRules text t told → told ≡ told_by t g h
  broken_so _ (on_names {d = d} {ds = ds} tree is) = absurd (none_some (broken_names (level_of t)) d ds has.names is)
  broken_so _ (on_modes {d = d} {ds = ds} {g = f} names is_f is) =
      some_first (broken_modes g t) (first_of (broken_statements h t) (broken_processes h t)) d ds (modes_so f is_f ∙ is)
  broken_so _ (on_statements {d = d} {ds = ds} {g = f} {h = k} modes is_k is) =
      some_first (broken_statements h t) (broken_processes h t) d ds (statements_so k is_k ∙ is) ∙ sym (behind_modes f modes)
  broken_so _ (on_processes {g = f} {h = k} modes is_k none is) =
      sym is ∙ sym (processes_so k is_k) ∙ sym (behind_statements k is_k none) ∙ sym (behind_modes f modes)

  list_so : (told : List Diagnostic) → IsListOf text t told → told ≡ told_by t g h
  list_so told (broken breaks) = broken_so told breaks
  list_so _ (sound {g = k} none) =
      sym (processes_so k none.is_ground ∙ none.processes) ∙ sym (behind_statements k none.is_ground none.statements) ∙ sym (behind_modes none.plain_ground none.has_modes)

-- of a tree that breaks rules on names just these are told
names_so : (text : List ℕ) (t : ProgramTree) (first : Diagnostic) (others told : List Diagnostic) → broken_names (level_of t) ≡ first ∷ others → IsListOf text t told → told ≡ broken_names (level_of t)
names_so text t first others _ is (broken (on_names tree list)) = sym list
names_so text t first others _ is (broken (on_modes names is_f list)) = absurd (none_some (broken_names (level_of t)) first others names.names is)
names_so text t first others _ is (broken (on_statements modes is_k list)) = absurd (none_some (broken_names (level_of t)) first others modes.has_names.names is)
names_so text t first others _ is (broken (on_processes modes is_k none list)) = absurd (none_some (broken_names (level_of t)) first others modes.has_names.names is)
names_so text t first others _ is (sound none) = absurd (none_some (broken_names (level_of t)) first others none.has_modes.has_names.names is)

pub tree_of_list : (text : List ℕ) (t : ProgramTree) (told : List Diagnostic) → IsListOf text t told → HasTree text t
tree_of_list text t _ (broken (on_names tree list)) = tree
tree_of_list text t _ (broken (on_modes names is_f list)) = names.has_tree
tree_of_list text t _ (broken (on_statements modes is_k list)) = modes.has_names.has_tree
tree_of_list text t _ (broken (on_processes modes is_k none list)) = modes.has_names.has_tree
tree_of_list text t _ (sound none) = none.has_modes.has_names.has_tree

one_by_grounds : (text : List ℕ) (t : ProgramTree) (told other : List Diagnostic) (has : HasNames text t) → (g : Ground) × IsGroundOf t g → IsListOf text t told → IsListOf text t other → told ≡ other
one_by_grounds text t told other has (g, is_g) one two =
    let h = counted g 0 (length g.origins) in
    let is_h = counted_law text t g has is_g in
    list_so text t g h has is_g is_h told one ∙ sym (list_so text t g h has is_g is_h other two)

one_by_names : (text : List ℕ) (t : ProgramTree) (told other names : List Diagnostic) → broken_names (level_of t) ≡ names → IsListOf text t told → IsListOf text t other → told ≡ other
one_by_names text t told other [] none one two =
    let has : HasNames text t = record { has_tree = tree_of_list text t told one; names = none } in
    one_by_grounds text t told other has (ground_there text t has) one two
one_by_names text t told other (d ∷ ds) is one two = names_so text t d ds told is one ∙ sym (names_so text t d ds other is two)

pub one_list : OneListLaw
one_list text t told other one two = one_by_names text t told other (broken_names (level_of t)) refl one two

-- ---- some list is told

abbrev SomeList : List ℕ → ProgramTree → Type 0
SomeList text t = (told : List Diagnostic) × IsListOf text t told

some_by_processes : (text : List ℕ) (t : ProgramTree) (g h : Ground) (list : List Diagnostic) → HasModes text t g → IsStatementGroundOf t h → broken_statements h t ≡ [] → broken_processes h t ≡ list → SomeList text t
some_by_processes text t g h [] modes is_h statements processes =
    let none : BreaksNoRule text t h = record { plain_ground = g; has_modes = modes; is_ground = is_h; statements = statements; processes = processes } in ([], sound none)
some_by_processes text t g h (d ∷ ds) modes is_h statements processes = (d ∷ ds, broken (on_processes modes is_h statements processes))

some_by_statements : (text : List ℕ) (t : ProgramTree) (g h : Ground) (list : List Diagnostic) → HasModes text t g → IsStatementGroundOf t h → broken_statements h t ≡ list → SomeList text t
some_by_statements text t g h [] modes is_h none = some_by_processes text t g h (broken_processes h t) modes is_h none refl
some_by_statements text t g h (d ∷ ds) modes is_h is = (d ∷ ds, broken (on_statements modes is_h is))

some_by_modes : (text : List ℕ) (t : ProgramTree) (g : Ground) (list : List Diagnostic) → HasNames text t → IsGroundOf t g → broken_modes g t ≡ list → SomeList text t
some_by_modes text t g [] has is_g none =
    let h = counted g 0 (length g.origins) in
    some_by_statements text t g h (broken_statements h t) (record { has_names = has; is_ground = is_g; modes = none }) (counted_law text t g has is_g) refl
some_by_modes text t g (d ∷ ds) has is_g is = (d ∷ ds, broken (on_modes has is_g is))

some_by_ground : (text : List ℕ) (t : ProgramTree) → HasNames text t → (g : Ground) × IsGroundOf t g → SomeList text t
some_by_ground text t has (g, is_g) = some_by_modes text t g (broken_modes g t) has is_g refl

some_by_names : (text : List ℕ) (t : ProgramTree) (list : List Diagnostic) → HasTree text t → broken_names (level_of t) ≡ list → SomeList text t
some_by_names text t [] tree none = let has : HasNames text t = record { has_tree = tree; names = none } in some_by_ground text t has (ground_there text t has)
some_by_names text t (d ∷ ds) tree is = (d ∷ ds, broken (on_names tree is))

pub some_list : SomeListLaw
some_list text t tree = some_by_names text t (broken_names (level_of t)) tree refl
