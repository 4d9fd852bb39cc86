-- The ground of an evaluation in which the mode of a counter is put.
use Rattle.std.proofs.Common.{◌≡◌, ◌≢◌, ℕ, zero, suc, Bool, true, false, List, [], ◌∷◌, Option, Some, None, Result, Ok, Err, map, length, set, length-set, refl, sym, ap, ◌∙◌, subst, true≢false, add-one, ◌+◌}
use Rattle.std.specs.Prelude.{slice_get, option_map, OnOk}
use Rattle.std.proofs.lemmas.List.{length-map, map-set}
use Rattle.chill_base.specs.declared.memory.Memory.{Memory}
use Rattle.chill_tree.specs.SimpleTree.{ControlTree}
use Rattle.modes.specs.ModeTree.{ModeTree}
use Rattle.checks_model.specs.Ground as model
use Rattle.checks_model.specs.Ground.{Ground, Origin, a_synonym, a_mode, an_element, a_location, a_parameter, a_counter, a_received, a_procedure, a_process, a_signal, a_modulion, a_predefined}
use Rattle.checks_model.specs.Constants.{is_constant_origin, value_of_name}
use Rattle.checks_model.specs.ActionRules.{counter_mode}
use Rattle.checks_model.specs.Table.{of_mode_alone, IsGroundOf, IsStatementGroundOf}
use Rattle.checks_model.specs.Diagnoses.{HasNames}
use Rattle.chill_tree.specs.ItemTree.{ProgramTree}
use Rattle.checks_model.specs.Classes.{class_of_origin}
use Rattle.names_laws.specs.Rising.{Rise, use_places}
use Rattle.names_model.specs.declared.names.Names.{Names}
use Rattle.names_model.specs.declared.names.Resolved.{Resolved}
use Rattle.std.specs.Borrow.{Bor}
use Rattle.table_laws.specs.OneTable.{with_entries}
use Rattle.constant_operators.specs.Grounds.{ground_of, entry_tree, class_defined, value_defined, IsKeptAt, is_measured_origin, HasLaidMode, HasGround}
use Rattle.constant_operators.specs.Plain.{IsPlain}
use Rattle.constant_operators.specs.declared.evaluation.Entry.{Entry}
use Rattle.constant_operators.specs.declared.evaluation.Evaluation.{Evaluation}
use Rattle.constant_operators.proofs.Grounds.{origins-there, entries-there}
use Rattle.definition_origins.specs.declared.origin.Origin as found
use Rattle.definition_origins.specs.OriginTrees.{origin_tree, origin_trees}
use Rattle.order_laws.specs.Counted.{entries_counted, counted_at, counted}
use Rattle.order_laws.specs.Texts.{is_counter}
use Rattle.order_laws.proofs.Counted.{counted_law}
use Rattle.expr_rules.specs.Counted.{IsSet, IsCounted}

-- ---- lists

other_kept : {A : Type 0} (xs : List A) (k d : ℕ) (x : A) → k ≢ d → slice_get (set xs k x) d ≡ slice_get xs d
other_kept [] k d x apart = refl
other_kept (y ∷ xs) zero zero x apart = absurd (apart refl)
other_kept (y ∷ xs) zero (suc d) x apart = refl
other_kept (y ∷ xs) (suc k) zero x apart = refl
other_kept (y ∷ xs) (suc k) (suc d) x apart = other_kept xs k d x (λ same. apart (ap suc same))

-- ---- the ground

abbrev ground : List Resolved → List Resolved → List Origin → List model.Entry → Ground
ground us ds os es = record { uses = us; defined = ds; origins = os; entries = es }

same_ground : (us vs ds cs : List Resolved) (os ps : List Origin) (es fs : List model.Entry) → us ≡ vs → ds ≡ cs → os ≡ ps → es ≡ fs → ground us ds os es ≡ ground vs cs ps fs
same_ground us vs ds cs os ps es fs u d o e = ap (λ us. ground us ds os es) u ∙ ap (λ ds. ground vs ds os es) d ∙ ap (λ os. ground vs cs os es) o ∙ ap (ground vs cs ps) e

abbrev Kept : Option Origin → Option model.Entry → Option Entry → Type 0
Kept o t x = IsKeptAt (class_of_origin t o) (value_of_name t o) x

moved_kept : (o p : Option Origin) (t u : Option model.Entry) (x y : Option Entry) → o ≡ p → t ≡ u → x ≡ y → Kept o t x → Kept p u y
moved_kept o p t u x y so st sx h = subst (λ x. Kept p u x) sx (subst (λ t. Kept p t x) st (subst (λ o. Kept o t x) so h))

module _ (e f : Evaluation) (k : ℕ) (x : Entry) (is : IsSet e k x f) where
  set_ground : ground_of f ≡ with_entries (ground_of e) (set (ground_of e).entries k (entry_tree x))
  unfolding ground_of
  set_ground =
      same_ground f.names.now.uses e.names.now.uses f.defined e.defined (origin_trees f.origins) (origin_trees e.origins) (map entry_tree f.entries.items) (set (map entry_tree e.entries.items) k (entry_tree x))
      (ap (λ (n : Bor Names). n.now.uses) is.names) is.defined (ap origin_trees is.origins) (ap (map entry_tree) is.entries ∙ map-set entry_tree e.entries.items k x)

  origins_same : (d : ℕ) → slice_get (ground_of e).origins d ≡ slice_get (ground_of f).origins d
  origins_same d = origins-there e d ∙ ap (λ (os : List found.Origin). option_map origin_tree (slice_get os d)) (sym is.origins) ∙ sym (origins-there f d)

  items_same : (d : ℕ) → k ≢ d → slice_get e.entries.items d ≡ slice_get f.entries.items d
  items_same d apart = sym (ap (λ (es : List Entry). slice_get es d) is.entries ∙ other_kept e.entries.items k d x apart)

  entries_same : (d : ℕ) → k ≢ d → slice_get (ground_of e).entries d ≡ slice_get (ground_of f).entries d
  entries_same d apart = entries-there e d ∙ ap (option_map entry_tree) (items_same d apart) ∙ sym (entries-there f d)

  -- nothing is asked of a counter
  apart_from : (test : Option Origin → Bool) (c : ControlTree) → slice_get (ground_of e).origins k ≡ Some (a_counter c) → test (Some (a_counter c)) ≡ false → (d : ℕ) → test (slice_get (ground_of f).origins d) ≡ true → k ≢ d
  apart_from test c at none d asked same = true≢false (sym asked ∙ ap test (sym (origins_same d) ∙ ap (slice_get (ground_of e).origins) (sym same) ∙ at) ∙ none)

  set_kept : (c : ControlTree) → slice_get (ground_of e).origins k ≡ Some (a_counter c) → HasGround e → HasGround f
  set_kept c at has = record {
    uses = subst (λ (n : Bor Names). Rise (use_places n.now.uses)) (sym is.names) has.uses;
    defined = subst (λ (ds : List Resolved). Rise (use_places ds)) (sym is.defined) has.defined;
    entries = ap length is.entries ∙ length-set e.entries.items k x ∙ has.entries ∙ ap length (sym is.origins);
    plain = subst IsPlain (sym is.plain) has.plain;
    constants = λ d asked.
        let apart = apart_from is_constant_origin c at refl d asked in
        moved_kept (slice_get (ground_of e).origins d) (slice_get (ground_of f).origins d) (slice_get (ground_of e).entries d) (slice_get (ground_of f).entries d) (slice_get e.entries.items d) (slice_get f.entries.items d)
        (origins_same d) (entries_same d apart) (items_same d apart) (has.constants d (ap is_constant_origin (origins_same d) ∙ asked));
    modes = λ d asked.
        let apart = apart_from is_measured_origin c at refl d asked in
        subst HasLaidMode (entries_same d apart) (has.modes d (ap is_measured_origin (origins_same d) ∙ asked));
  }

  pub counter_put : (c : ControlTree) → slice_get (ground_of e).origins k ≡ Some (a_counter c) → entry_tree x ≡ of_mode_alone (counter_mode (ground_of e) c) → HasGround e → IsCounted e f (counted_at (ground_of e) k)
  counter_put c at tree has = record {
    names = is.names;
    origins = is.origins;
    ground = set_ground ∙ ap (λ (t : model.Entry). with_entries (ground_of e) (set (ground_of e).entries k t)) tree ∙ ap (λ (o : Option Origin). with_entries (ground_of e) (entries_counted (ground_of e) k o)) (sym at);
    kept = set_kept c at has;
  }

-- a definition that is no counter changes nothing
pub other_left : (e : Evaluation) (k : ℕ) (o : Option Origin) → slice_get (ground_of e).origins k ≡ o → is_counter o ≡ false → HasGround e → IsCounted e e (counted_at (ground_of e) k)
other_left e k o at apart has = record {
  names = refl;
  origins = refl;
  ground = by_origin o apart ∙ ap (λ (o : Option Origin). with_entries (ground_of e) (entries_counted (ground_of e) k o)) (sym at);
  kept = has;
}
  where
    by_origin : (o : Option Origin) → is_counter o ≡ false → ground_of e ≡ with_entries (ground_of e) (entries_counted (ground_of e) k o)
    by_origin None apart = refl
    by_origin (Some (a_counter c)) apart = absurd (true≢false apart)
    by_origin (Some (a_synonym s)) apart = refl
    by_origin (Some (a_mode novel m)) apart = refl
    by_origin (Some (an_element ns part owner)) apart = refl
    by_origin (Some (a_location d)) apart = refl
    by_origin (Some (a_parameter m)) apart = refl
    by_origin (Some (a_received n count part)) apart = refl
    by_origin (Some (a_procedure p)) apart = refl
    by_origin (Some (a_process p)) apart = refl
    by_origin (Some (a_signal s)) apart = refl
    by_origin (Some (a_modulion kind items)) apart = refl
    by_origin (Some (a_predefined p)) apart = refl

pub ruleset counting = (counter_put, other_left)

-- ---- one after the other

pub counted_more : (g h : Ground) (k n m : ℕ) → m ≡ suc n → h ≡ counted_at g k → counted h (k + 1) n ≡ counted g k m
counted_more g h k n m long is = ap (λ (x : Ground). counted x (k + 1) n) is ∙ ap (λ j. counted (counted_at g k) j n) (add-one k) ∙ ap (counted g k) (sym long)

pub counted_all : (g : Ground) (k n : ℕ) → n ≡ 0 → counted g k n ≡ g
counted_all g k n none = ap (counted g k) none

origins_many : (e : Evaluation) → length (ground_of e).origins ≡ length e.origins
unfolding ground_of
origins_many e = length-map e.origins origin_tree

-- all of them make the ground of a text the one that knows counters
pub all_counted : (text : List ℕ) (t : ProgramTree) (e f : Evaluation) → HasNames text t → IsGroundOf t (ground_of e) → IsCounted e f (counted (ground_of e) 0 (length e.origins)) → IsStatementGroundOf t (ground_of f)
all_counted text t e f has own done = subst (IsStatementGroundOf t) (sym (done.ground ∙ ap (counted (ground_of e) 0) (sym (origins_many e)))) (counted_law text t (ground_of e) has own)

-- where the modes were there to put
pub all_counted_ok : (r : Result (Unit {0}) Memory) (text : List ℕ) (t : ProgramTree) (e f : Evaluation) → HasNames text t → IsGroundOf t (ground_of e) → OnOk r (IsCounted e f (counted (ground_of e) 0 (length e.origins))) → OnOk r (IsStatementGroundOf t (ground_of f))
all_counted_ok (Ok done) text t e f has own counts = all_counted text t e f has own counts
all_counted_ok (Err memory) text t e f has own counts = tt
