-- Entries by their parts, and what makes them safe.
use Rattle.std.proofs.Common.{◌≡◌, ℕ, true, false, true≢false, List, [], ◌∷◌, Option, Some, None, map, refl, sym, ap, ◌∙◌, subst}
use Rattle.std.specs.Prelude.{Bool, option_map, IsTrue, ℤ}
use Rattle.chill_tree.specs.ModeTree as written
use Rattle.chill_tree.specs.LocalTree.{SynonymTree, DeclarationTree}
use Rattle.chill_tree.specs.ItemTree.{ProcedureTree, SignalTree}
use Rattle.chill_tree.specs.declared.tree.name.Name.{Name}
use Rattle.modes.specs.ModeTree.{ModeTree, ClassTree, class_tree, mode_tree}
use Rattle.checks_model.specs.ValueTrees.{ValueTree, scalars_in}
use Rattle.checks_model.specs.Ground as model
use Rattle.checks_model.specs.Ground.{Ground, Origin, a_synonym, a_mode, a_location, a_parameter, a_procedure, a_received, a_signal, a_counter, a_process, a_modulion, message_parts}
use Rattle.checks_model.specs.Constants.{is_constant_origin, value_of_name}
use Rattle.checks_model.specs.Classes.{class_of_origin}
use Rattle.checks_model.specs.WrittenModes.{mode_of, some_mode_of}
use Rattle.checks_model.specs.Table.{of_mode_alone, received_mode, parts_of_signal, entry_by}
use Rattle.constant_values.specs.Fits.{fit_together}
use Rattle.constant_operators.specs.declared.evaluation.Entry.{Entry}
use Rattle.constant_operators.specs.declared.evaluation.Evaluation.{Evaluation}
use Rattle.constant_operators.specs.Grounds.{entry_tree, unknown_entry, ground_of, HasGround, IsKept, is_measured_origin, HasLaidMode}
use Rattle.constant_operators.specs.Values.{value_known}
use Rattle.constant_operators.proofs.ReadValues.{values_read}
use Rattle.laid_laws.specs.Few.{AreFew, HasFewScalars}
use Rattle.laid_laws.proofs.FoundModes.{all_laid, none_large}
use Rattle.definition_table.specs.Entries.{IsSafe, IsEntryOf, IsModeAlone, IsSameBut, IsOfValue}

abbrev pub entry_with : Option ModeTree → Option ClassTree → Option ValueTree → List (Option ModeTree) → model.Entry
entry_with m c v ps = record { mode = m; class = c; value = v; parts = ps }

pub tree_by : (x : Entry) (m : Option ModeTree) (c : Option ClassTree) (v : Option ValueTree) (ps : List (Option ModeTree))
    → (entry_tree x).mode ≡ m → option_map class_tree x.class ≡ c → (entry_tree x).value ≡ v → (entry_tree x).parts ≡ ps → entry_tree x ≡ entry_with m c v ps
tree_by x m c v ps same_m same_c same_v same_ps =
    ap (λ k. entry_with k (entry_tree x).class (entry_tree x).value (entry_tree x).parts) same_m
    ∙ ap (λ k. entry_with m k (entry_tree x).value (entry_tree x).parts) same_c
    ∙ ap (λ k. entry_with m c k (entry_tree x).parts) same_v
    ∙ ap (λ k. entry_with m c v k) same_ps

pub value_read : (c : Option ClassTree) (v : Option ValueTree) → IsTrue (fit_together c v) → value_known c (option_map scalars_in v) ≡ v
value_read None None fits = refl
value_read (Some c) None fits = refl
value_read None (Some v) fits = absurd (true≢false (sym fits))
value_read (Some c) (Some v) fits = ap Some (values_read c v fits)

pub value_there : (x : Entry) (c : Option ClassTree) (v : Option ValueTree) → option_map class_tree x.class ≡ c → x.value ≡ option_map scalars_in v → IsTrue (fit_together c v) → (entry_tree x).value ≡ v
value_there x c v class value fits = ap (λ k. value_known k x.value) class ∙ ap (λ k. value_known c k) value ∙ value_read c v fits

no_parts : (x : Entry) → x.parts ≡ [] → (entry_tree x).parts ≡ []
no_parts x none = ap (map (option_map (λ m. mode_tree m.value))) none

pub value_tree : (x : Entry) (m : Option ModeTree) (c : Option ClassTree) (v : Option ValueTree) → IsOfValue m c v x → entry_tree x ≡ entry_with m c v []
value_tree x m c v is = tree_by x m c v [] is.mode is.class (value_there x c v is.class is.value is.fits) (no_parts x is.parts)

-- ---- safe entries

pub neither_safe : (o : Origin) (x : Entry) → is_constant_origin (Some o) ≡ false → is_measured_origin (Some o) ≡ false → IsSafe o x
neither_safe o x varying unmeasured = record {
  constant = λ is. absurd (true≢false (sym is ∙ varying));
  laid = λ is. absurd (true≢false (sym is ∙ unmeasured));
  few = λ is. absurd (true≢false (sym is ∙ unmeasured));
}

pub kept_by : (x : Entry) (c : Option ClassTree) (v : Option ValueTree) (d : Option ClassTree) (w : Option ValueTree) → c ≡ d → v ≡ w → option_map class_tree x.class ≡ d → x.value ≡ option_map scalars_in w → IsTrue (fit_together d w) → IsKept c v x
kept_by x c v d w same_c same_v class value fits = record {
  class = class ∙ sym same_c;
  value = value ∙ ap (option_map scalars_in) (sym same_v);
  fits = subst (λ k. IsTrue (fit_together k v)) (sym same_c) (subst (λ k. IsTrue (fit_together d k)) (sym same_v) fits);
}

pub synonym_safe : (s : SynonymTree) (x : Entry) (m : Option ModeTree) (c : Option ClassTree) (v : Option ValueTree) → IsOfValue m c v x → IsSafe (a_synonym s) x
synonym_safe s x m c v is = record {
  constant = λ yes. kept_by x (entry_tree x).class (entry_tree x).value c v is.class (value_there x c v is.class is.value is.fits) is.class is.value is.fits;
  laid = λ yes. absurd (true≢false (sym yes));
  few = λ yes. absurd (true≢false (sym yes));
}

-- ---- where the mode alone is known

pub alone_found : (g : Ground) (o : Origin) (m : Option ModeTree) (x : Entry) → entry_by g o ≡ of_mode_alone m → is_constant_origin (Some o) ≡ false → is_measured_origin (Some o) ≡ false → IsModeAlone m x → IsEntryOf g o x
alone_found g o m x same varying unmeasured is = record { known = is.tree ∙ sym same; safe = neither_safe o x varying unmeasured }

pub measured_found : (e : Evaluation) (o : Origin) (whole : Bool) (w : written.ModeTree) (x : Entry) → HasGround e → AreFew (ground_of e)
    → entry_by (ground_of e) o ≡ of_mode_alone (mode_of (ground_of e) whole w) → is_constant_origin (Some o) ≡ false → IsModeAlone (mode_of (ground_of e) whole w) x → IsEntryOf (ground_of e) o x
measured_found e o whole w x keeps are_few same varying is = record {
  known = is.tree ∙ sym same;
  safe = record {
    constant = λ yes. absurd (true≢false (sym yes ∙ varying));
    laid = λ yes. λ m at. all_laid e keeps whole w m (sym (ap (λ t. t.mode) is.tree) ∙ at);
    few = λ yes. λ m at. none_large e are_few whole w m (sym (ap (λ t. t.mode) is.tree) ∙ at);
  };
}

-- ---- definitions of one clause

abbrev pub HasNoParts : Origin → Type 0
HasNoParts o = (g : Ground) → (entry_by g o).parts ≡ []

pub same_found : (g : Ground) (o : Origin) (y x : Entry) → HasNoParts o → IsEntryOf g o y → IsSameBut y x → IsEntryOf g o x
same_found g o y x none is same =
    let tree : entry_tree x ≡ entry_tree y =
    tree_by x (entry_tree y).mode (entry_tree y).class (entry_tree y).value (entry_tree y).parts same.mode same.class
    (ap (λ k. value_known k x.value) same.class ∙ ap (λ k. value_known (entry_tree y).class k) same.value)
    (no_parts x same.parts ∙ sym (ap (λ t. t.parts) is.known ∙ none g)) in
    record {
      known = tree ∙ is.known;
      safe = record {
        constant = λ yes.
            let kept = is.safe.constant yes in
            kept_by x (class_of_origin (Some (entry_tree x)) (Some o)) (value_of_name (Some (entry_tree x)) (Some o)) (class_of_origin (Some (entry_tree y)) (Some o)) (value_of_name (Some (entry_tree y)) (Some o))
            (ap (λ t. class_of_origin (Some t) (Some o)) tree) (ap (λ t. value_of_name (Some t) (Some o)) tree) (same.class ∙ kept.class) (same.value ∙ kept.value) kept.fits;
        laid = λ yes. subst (λ t. HasLaidMode (Some t)) (sym tree) (is.safe.laid yes);
        few = λ yes. subst (λ t. HasFewScalars (Some t)) (sym tree) (is.safe.few yes);
      };
    }

-- ---- one by one

pub mode_found : (e : Evaluation) (novel : Bool) (w : written.ModeTree) (x : Entry) → HasGround e → AreFew (ground_of e) → IsModeAlone (mode_of (ground_of e) true w) x → IsEntryOf (ground_of e) (a_mode novel w) x
mode_found e novel w x keeps few is = measured_found e (a_mode novel w) true w x keeps few refl refl is

pub location_found : (e : Evaluation) (d : DeclarationTree) (x : Entry) → HasGround e → AreFew (ground_of e) → IsModeAlone (mode_of (ground_of e) true d.mode) x → IsEntryOf (ground_of e) (a_location d) x
location_found e d x keeps few is = measured_found e (a_location d) true d.mode x keeps few refl refl is

pub parameter_found : (e : Evaluation) (w : written.ModeTree) (x : Entry) → HasGround e → AreFew (ground_of e) → IsModeAlone (mode_of (ground_of e) false w) x → IsEntryOf (ground_of e) (a_parameter w) x
parameter_found e w x keeps few is = measured_found e (a_parameter w) false w x keeps few refl refl is

pub procedure_found : (g : Ground) (p : ProcedureTree) (x : Entry) → IsModeAlone (some_mode_of g p.returns) x → IsEntryOf g (a_procedure p) x
procedure_found g p x is = alone_found g (a_procedure p) (some_mode_of g p.returns) x refl refl refl is

pub received_found : (g : Ground) (n : Name) (count part : ℕ) (m : Option ModeTree) (x : Entry) → m ≡ received_mode (message_parts g n) count part → IsModeAlone m x → IsEntryOf g (a_received n count part) x
received_found g n count part m x same is = alone_found g (a_received n count part) m x (ap of_mode_alone (sym same)) refl refl is

pub signal_found : (g : Ground) (s : SignalTree) (x : Entry) → x.mode ≡ None → x.class ≡ None → x.value ≡ None → map (option_map (λ m. mode_tree m.value)) x.parts ≡ parts_of_signal g s.parts → IsEntryOf g (a_signal s) x
signal_found g s x mode class value parts = record {
  known = tree_by x None None None (parts_of_signal g s.parts) (ap (option_map (λ m. mode_tree m.value)) mode) (ap (option_map class_tree) class) (ap (λ k. value_known k x.value) (ap (option_map class_tree) class)) parts;
  safe = neither_safe (a_signal s) x refl refl;
}
