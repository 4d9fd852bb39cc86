-- What UPPER, LOWER and SIZE measure has a mode that a location may have, in which no place is impossible.
use Rattle.std.proofs.Common.{◌≡◌, ◌≤◌, ℕ, arith, ◌&&◌, Bool, true, false, List, [], ◌∷◌, ◌++◌, Option, Some, None, refl, sym, ap, ◌∙◌, subst, true≢false}
use Rattle.std.specs.Prelude.{if◌then◌else◌}
use Rattle.std.specs.Str.{bytes_eq}
use Rattle.chill_tree.specs.declared.tree.name.Name.{Name}
use Rattle.chill_tree.specs.ExprTree.{ExprTree, ExprNodes, name, apply, field, no_exprs, more_exprs}
use Rattle.modes.specs.declared.mode.Bounds.{Bounds}
use Rattle.modes.specs.ModeTree.{ModeTree, char, named, range, read, FieldNodes, no_fields, more_fields}
use Rattle.modes.specs.Form.{FormTree, form_of, of_chars, of_array, of_structure}
use Rattle.modes.specs.ModeTree.{int, boolean, instance, set_of, powerset, chars, array, structure, event, buffer}
use Rattle.modes.specs.Bounds.{bounds_of, values_of}
use Rattle.modes.specs.Language.{parts_fit, lie_in}
use Rattle.checks_model.specs.Ground.{Ground, Origin, Entry, of_mode, a_synonym, a_mode, an_element, a_location, a_parameter, a_counter, a_received, a_procedure, a_process, a_signal, a_modulion, a_predefined, origin_of, entry_of, mode_of_entry, mode_of_name, named_mode, number_at}
use Rattle.checks_model.specs.Operations.{field_in, field_of_form, element_of_form}
use Rattle.checks_model.specs.Classes.{Measured, a_mode_of, misfit, other, measured, measured_first, measured_name, located, located_name, measured_part, measured_part_of}
use Rattle.elaborated_laws.specs.Known.{IsDeclarable}
use Rattle.elaborated_laws.specs.Classes.{HasModes}
use Rattle.elaborated_laws.proofs.Told.{no_some, same_some, both_left, both_right}
use Rattle.elaborated_laws.proofs.Modes.{language_declarable}
use Rattle.elaborated_laws.proofs.Classes.{FormIs, FieldsAre, form_is}
use Rattle.constant_laws.specs.Places.{is_possible_spread, is_possible_at, are_possible, fields_are_possible}
use Rattle.table_laws.specs.Names.{names_in, names_in_each}
use Rattle.constant_laws.specs.Constants.{IsNameFit, AreNamesFit}
use Rattle.constant_laws.proofs.Routines.{IsMeasuredWell, MeasuresWell}

-- ---- parts

abbrev FormPossible : FormTree → Type 0
FormPossible (of_array i e how) = are_possible e ≡ true
FormPossible (of_structure fs p) = fields_are_possible fs ≡ true
FormPossible f = Unit {0}

form_possible : (m : ModeTree) → are_possible m ≡ true → FormPossible (form_of m)
form_possible (array i e how) possible = both_right (is_possible_spread (values_of i) e how) (are_possible e) possible
form_possible (structure fs p) possible = possible
form_possible (range p l h) possible = form_possible p possible
form_possible (read m) possible = form_possible m possible
form_possible (named d n m) possible = form_possible m possible
form_possible m possible = tt

-- what is so of the parts of a form
abbrev PartsWell : FormTree → Type 0
PartsWell f = FormIs f × FormPossible f

parts_well : (m : ModeTree) → IsMeasuredWell m → PartsWell (form_of m)
parts_well m well = (form_is m well.declarable, form_possible m well.possible)

char_well : IsMeasuredWell char
char_well = record { declarable = record { parts = refl; size = (let e : 1 ≤ 4096 = omega arith in e) }; possible = refl }

element_well : (f : FormTree) (m : ModeTree) → PartsWell f → element_of_form f ≡ Some m → IsMeasuredWell m
element_well (of_array i e how) m well is = subst IsMeasuredWell (same_some e m is) (record { declarable = language_declarable e well.0.1; possible = well.1 })
element_well (of_chars n) m well is = subst IsMeasuredWell (same_some char m is) char_well
element_well f m well is = no_some m is

field_named_well : (n : List ℕ) (fs : FieldNodes) (m : ModeTree) → FieldsAre fs → fields_are_possible fs ≡ true → field_in n fs ≡ Some m → IsMeasuredWell m
field_named_well n no_fields m fits possible is = no_some m is
field_named_well n (more_fields spelled own at fs) m fits possible is =
    let rest = both_right (is_possible_at own at) (are_possible own && fields_are_possible fs) possible in
    by (bytes_eq spelled n) is (record { declarable = language_declarable own fits.0; possible = both_left (are_possible own) (fields_are_possible fs) rest }) (λ later. field_named_well n fs m fits.1 (both_right (are_possible own) (fields_are_possible fs) rest) later)
  where
    by : (b : Bool) → (if b then Some own else field_in n fs) ≡ Some m → IsMeasuredWell own → (field_in n fs ≡ Some m → IsMeasuredWell m) → IsMeasuredWell m
    by true is first later = subst IsMeasuredWell (same_some own m is) first
    by false is first later = later is

field_well : (n : List ℕ) (f : FormTree) (m : ModeTree) → PartsWell f → field_of_form n f ≡ Some m → IsMeasuredWell m
field_well n (of_structure fs p) m well is = field_named_well n fs m well.0 well.1 is
field_well n f m well is = no_some m is

-- what a part is measured as
abbrev found : Option ModeTree → Measured
found None = misfit
found (Some p) = a_mode_of (Some p)

found_is : (part : FormTree → Option ModeTree) (m : ModeTree) (o : Option ModeTree) → part (form_of m) ≡ o → measured_part_of part (Some m) ≡ found o
found_is part m None at = rw at refl
found_is part m (Some k) at = rw at refl

found_well : (o : Option ModeTree) → ((m : ModeTree) → o ≡ Some m → IsMeasuredWell m) → MeasuresWell (found o)
found_well None well = tt
found_well (Some m) well = well m refl

measured_well : (part : FormTree → Option ModeTree) (m : ModeTree) → ((k : ModeTree) → part (form_of m) ≡ Some k → IsMeasuredWell k) → MeasuresWell (measured_part_of part (Some m))
measured_well part m well = subst MeasuresWell (sym (found_is part m (part (form_of m)) refl)) (found_well (part (form_of m)) well)

part_measures : (part : FormTree → Option ModeTree) (x : Measured) → ((f : FormTree) (m : ModeTree) → PartsWell f → part f ≡ Some m → IsMeasuredWell m) → MeasuresWell x → MeasuresWell (measured_part part x)
part_measures part (a_mode_of (Some m)) each well = measured_well part m (λ k is. each (form_of m) k (parts_well m well) is)
part_measures part (a_mode_of None) each well = tt
part_measures part misfit each well = tt
part_measures part other each well = tt

-- ---- names

predefined_mode : (e : Option Entry) (k : Option ℕ) (m : ModeTree) → named_mode e k (Some (a_predefined (of_mode m))) ≡ Some m
predefined_mode e None m = refl
predefined_mode e (Some d) m = refl

abbrev mode_measured : Measured → Option ModeTree
mode_measured (a_mode_of m) = m
mode_measured x = None

entry_measured : (e : Option Entry) (o : Option Origin) (m : ModeTree) → located_name e o ≡ a_mode_of (Some m) → mode_of_entry e ≡ Some m
entry_measured e (Some (a_location d)) m is = ap mode_measured is
entry_measured e (Some (a_parameter w)) m is = ap mode_measured is
entry_measured e o m is = no_some m (ap mode_measured is)

located_well : (x : Measured) (e : Option Entry) (o : Option Origin) → located_name e o ≡ x → ((m : ModeTree) → mode_of_entry e ≡ Some m → IsDeclarable m) → ((m : ModeTree) → located_name e o ≡ a_mode_of (Some m) → are_possible m ≡ true) → MeasuresWell x
located_well (a_mode_of (Some m)) e o is fits possible = record { declarable = fits m (entry_measured e o m is); possible = possible m is }
located_well (a_mode_of None) e o is fits possible = tt
located_well misfit e o is fits possible = tt
located_well other e o is fits possible = tt

pub fit_first : (g : Ground) (ns ks : List Name) → AreNamesFit g (ns ++ ks) → AreNamesFit g ns
fit_first g [] ks fit = tt
fit_first g (n ∷ ns) ks fit = (fit.0, fit_first g ns ks fit.1)

pub fit_later : (g : Ground) (ns ks : List Name) → AreNamesFit g (ns ++ ks) → AreNamesFit g ks
fit_later g [] ks fit = fit
fit_later g (n ∷ ns) ks fit = fit_later g ns ks fit.1

module _ (g : Ground) where
  name_located : (n : Name) → IsNameFit g n → MeasuresWell (located_name (entry_of g n) (origin_of g n))
  name_located n fit = located_well (located_name (entry_of g n) (origin_of g n)) (entry_of g n) (origin_of g n) refl fit.modes.mode fit.located

  own_well : (n : Name) (o : Option ModeTree) → IsNameFit g n → mode_of_name g n ≡ o → MeasuresWell (a_mode_of o)
  own_well n (Some m) fit is = record { declarable = fit.modes.own m is; possible = fit.own m is }
  own_well n None fit is = tt

  predefined_well : (n : Name) (m : ModeTree) → IsNameFit g n → origin_of g n ≡ Some (a_predefined (of_mode m)) → IsMeasuredWell m
  predefined_well n m fit is =
      let named_is : mode_of_name g n ≡ Some m = ap (named_mode (entry_of g n) (number_at g.uses n.at)) is ∙ predefined_mode (entry_of g n) (number_at g.uses n.at) m in
      record { declarable = fit.modes.own m named_is; possible = fit.own m named_is }

  name_measured : (n : Name) (o : Option Origin) → IsNameFit g n → origin_of g n ≡ o → MeasuresWell (located_name (entry_of g n) o) → MeasuresWell (measured_name (mode_of_name g n) (entry_of g n) o)
  name_measured n (Some (a_mode novel w)) fit is well = own_well n (mode_of_name g n) fit refl
  name_measured n (Some (a_predefined (of_mode m))) fit is well = predefined_well n m fit is
  name_measured n o fit is well = well

  located_measures : (e : ExprTree) → AreNamesFit g (names_in e) → MeasuresWell (located g e)
  located_measures (name n) fit = name_located n fit.0
  located_measures (apply at e es) fit = part_measures element_of_form (located g e) element_well (located_measures e (fit_first g (names_in e) (names_in_each es) fit))
  located_measures (field at e n) fit = part_measures (field_of_form n.text) (located g e) (field_well n.text) (located_measures e fit)
  located_measures e fit = tt

  measures : (e : ExprTree) → AreNamesFit g (names_in e) → MeasuresWell (measured g e)
  measures (name n) fit = name_measured n (origin_of g n) fit.0 refl (name_located n fit.0)
  measures e fit = located_measures e fit

  pub first_measures : (es : ExprNodes) → AreNamesFit g (names_in_each es) → MeasuresWell (measured_first g es)
  first_measures no_exprs fit = tt
  first_measures (more_exprs e es) fit = measures e (fit_first g (names_in e) (names_in_each es) fit)
