-- What is known of a definition depends on the ground only by the names in it.
use Rattle.std.proofs.Common.{◌≡◌, ℕ, suc, Bool, true, false, List, [], ◌∷◌, Option, Some, None, refl, ap, ◌∙◌}
use Rattle.std.specs.Prelude.{option_map, option_and_then, ◌||◌, is_some, not, map, flat_map, length, pos}
use Rattle.checks_model.specs.ValueTrees.{number}
use Rattle.chill_tree.specs.declared.tree.name.Name.{Name}
use Rattle.chill_tree.specs.ExprTree.{ExprTree, RangeTree, RangeNodes, whole, character, text, this_instance, paren, receive, start, tuple, uniform, name, apply, field, prefixed, binary, alone, between, no_ranges, more_ranges, place_of}
use Rattle.chill_tree.specs.ModeTree as written
use Rattle.chill_tree.specs.LocalTree.{SynonymTree}
use Rattle.modes.specs.ModeTree.{ModeTree, value, derived, set_of}
use Rattle.modes.specs.Form.{FormTree, form_of}
use Rattle.diagnostics.specs.declared.rule.Rule.TheVariants as rules
use Rattle.checks_model.specs.Told.{tell_at, is_none_told, told_if, then_told, holds_of}
use Rattle.checks_model.specs.Ground.{Ground, message_of, a_synonym, a_mode, an_element, a_location, a_parameter, a_counter, a_received, a_procedure, a_process, a_signal, a_modulion, a_predefined, number_at}
use Rattle.checks_model.specs.Classes.{class_of, shape_fits, uniform_fits, mode_of_part}
use Rattle.diagnostics.specs.declared.diagnostic.Diagnostic.{Diagnostic}
use Rattle.checks_model.specs.Constants.{has_form, have_form, range_has_form}
use Rattle.checks_model.specs.ConstantRules.{told_as, standing_with, class_misfits, value_misfits, misfits_as, some_misfits, one_misfits, told_of_value, told_of_synonym_value}
use Rattle.checks_model.specs.WrittenModes.{unless_told, mode_of, some_mode_of}
use Rattle.checks_model.specs.Table.{under_name, of_mode_alone, of_constant, told_of_synonym, value_within, synonym_entry, received_mode, named_set, set_mode, parts_of_signal}
use Rattle.table_laws.specs.Names.{names_in, names_in_range, names_in_ranges, names_in_mode, names_in_some_mode, names_in_modes}
use Rattle.table_laws.specs.Frames.{SameKnownEach, EntryFrame}
use Rattle.table_laws.proofs.KnownFrames.{first_known, later_known, of_two, of_three, form_frame, formed_class, and_first, and_second}
use Rattle.table_laws.proofs.ConstantFrames.{constant_frame, told_constant_frame, class_misfits_frame, value_misfits_frame, then_guarded, none_formed, none_told_first}
use Rattle.table_laws.proofs.ModeFrames.{mode_frame}

-- ---- M12

own_misfits_frame : (g h : Ground) (b : Bool) (m : Option ModeTree) (e : ExprTree) → SameKnownEach g h (names_in e) → has_form g b e ≡ true → (class_misfits g m e || value_misfits g m e) ≡ (class_misfits h m e || value_misfits h m e)
own_misfits_frame g h b m e same form = of_two (λ a b. a || b) (class_misfits_frame g h b m e same form) (value_misfits_frame g h b m e same form)

mutual
  -- of what has the form of a constant
  misfits_frame : (g h : Ground) (r : Bool) (m : Option ModeTree) (e : ExprTree) → SameKnownEach g h (names_in e) → has_form g r e ≡ true → misfits_as g m e ≡ misfits_as h m e
  misfits_frame g h r m (whole at n) same form = own_misfits_frame g h r m (whole at n) same form
  misfits_frame g h r m (character at n) same form = own_misfits_frame g h r m (character at n) same form
  misfits_frame g h r m (text at n) same form = own_misfits_frame g h r m (text at n) same form
  misfits_frame g h r m (this_instance at) same form = own_misfits_frame g h r m (this_instance at) same form
  misfits_frame g h r m (receive at n) same form = own_misfits_frame g h r m (receive at n) same form
  misfits_frame g h r m (start at n es) same form = own_misfits_frame g h r m (start at n es) same form
  misfits_frame g h r m (name n) same form = own_misfits_frame g h r m (name n) same form
  misfits_frame g h r m (apply at e es) same form = own_misfits_frame g h r m (apply at e es) same form
  misfits_frame g h r m (field at e n) same form = own_misfits_frame g h r m (field at e n) same form
  misfits_frame g h r m (prefixed at o e) same form = own_misfits_frame g h r m (prefixed at o e) same form
  misfits_frame g h r m (binary at l o p k) same form = own_misfits_frame g h r m (binary at l o p k) same form
  misfits_frame g h r m (tuple at (Some n) b rs) same form = own_misfits_frame g h r m (tuple at (Some n) b rs) same form
  misfits_frame g h r m (uniform at (Some n) b e) same form = own_misfits_frame g h r m (uniform at (Some n) b e) same form
  misfits_frame g h r m (paren at e) same form = misfits_frame g h r m e same form
  misfits_frame g h r m (tuple at None b rs) same form =
      ap (λ b. holds_of (λ m. not (shape_fits rs (form_of m))) m || b) (some_misfits_frame g h (shape_fits rs) 0 m rs same (and_second (r || false) (have_form g rs) form))
  misfits_frame g h r m (uniform at None b e) same form =
      ap (λ b. holds_of (λ m. not (uniform_fits (form_of m))) m || b) (misfits_frame g h true (mode_of_part uniform_fits 0 m) e same (and_second (r || false) (has_form g true e) form))

  some_misfits_frame : (g h : Ground) (fits : FormTree → Bool) (k : ℕ) (m : Option ModeTree) (rs : RangeNodes) → SameKnownEach g h (names_in_ranges rs) → have_form g rs ≡ true → some_misfits g fits k m rs ≡ some_misfits h fits k m rs
  some_misfits_frame g h fits k m no_ranges same form = refl
  some_misfits_frame g h fits k m (more_ranges r rs) same form =
      of_two (λ a b. a || b) (one_misfits_frame g h (mode_of_part fits k m) r (first_known g h (names_in_range r) (names_in_ranges rs) same) (and_first (range_has_form g r) (have_form g rs) form))
      (some_misfits_frame g h fits (suc k) m rs (later_known g h (names_in_range r) (names_in_ranges rs) same) (and_second (range_has_form g r) (have_form g rs) form))

  one_misfits_frame : (g h : Ground) (m : Option ModeTree) (r : RangeTree) → SameKnownEach g h (names_in_range r) → range_has_form g r ≡ true → one_misfits g m r ≡ one_misfits h m r
  one_misfits_frame g h m (alone e) same form = misfits_frame g h true m e same form
  one_misfits_frame g h m (between l k) same form =
      of_two (λ a b. a || b) (misfits_frame g h true m l (first_known g h (names_in l) (names_in k) same) (and_first (has_form g true l) (has_form g true k) form))
      (misfits_frame g h true m k (later_known g h (names_in l) (names_in k) same) (and_second (has_form g true l) (has_form g true k) form))

-- ---- synonyms

some_mode_frame : (g h : Ground) (m : Option written.ModeTree) → g.defined ≡ h.defined → SameKnownEach g h (names_in_some_mode m) → some_mode_of g m ≡ some_mode_of h m
some_mode_frame g h None defined same = refl
some_mode_frame g h (Some m) defined same = mode_frame g h false m defined same

told_value_frame : (g h : Ground) (has_mode : Bool) (m : Option ModeTree) (e : ExprTree) → SameKnownEach g h (names_in e) → told_of_value g has_mode m e ≡ told_of_value h has_mode m e
told_value_frame g h has_mode m e same =
    of_two (λ t f. then_told t (told_if (not f) (tell_at rules.M1 (place_of e)))) (told_constant_frame g h (standing_with has_mode) m e same) (form_frame g h has_mode e same)

told_synonym_value_frame : (g h : Ground) (has_mode : Bool) (m : Option ModeTree) (e : ExprTree) → SameKnownEach g h (names_in e) → told_of_synonym_value g has_mode m e ≡ told_of_synonym_value h has_mode m e
told_synonym_value_frame g h has_mode m e same =
    then_guarded (told_of_value g has_mode m e) (told_value_frame g h has_mode m e same)
    (λ none. ap (λ b. told_if b (tell_at rules.M12 (place_of e))) (misfits_frame g h has_mode m e same (none_formed (told_as g (standing_with has_mode) m e) (has_form g has_mode e) (tell_at rules.M1 (place_of e)) none)))

pub told_synonym_frame : (g h : Ground) (s : SynonymTree) → g.defined ≡ h.defined → SameKnownEach g h (names_in_some_mode s.mode) → SameKnownEach g h (names_in s.value) → told_of_synonym g s ≡ told_of_synonym h s
told_synonym_frame g h s defined in_mode in_value =
    ap (λ m. told_of_synonym_value g (is_some s.mode) m s.value) (some_mode_frame g h s.mode defined in_mode)
    ∙ told_synonym_value_frame g h (is_some s.mode) (some_mode_of h s.mode) s.value in_value

within_frame : (g h : Ground) (m : Option ModeTree) (e : ExprTree) → SameKnownEach g h (names_in e) → value_within g m e ≡ value_within h m e
within_frame g h None e same = refl
within_frame g h (Some m) e same = constant_frame g h (Some m) e same

-- what is there only where nothing is told
unless_guarded : {A : Type 0} (t : List Diagnostic) {u : List Diagnostic} {x y : Option A} → t ≡ u → (is_none_told t ≡ true → x ≡ y) → unless_told t x ≡ unless_told u y
unless_guarded t {u} {x} {y} first same = by t same ∙ ap (λ t. unless_told t y) first
  where
    by : (t : List Diagnostic) → (is_none_told t ≡ true → x ≡ y) → unless_told t x ≡ unless_told t y
    by [] same = same refl
    by (d ∷ ds) same = refl

-- by the mode that is written
synonym_frame : (g h : Ground) (s : SynonymTree) (m : Option written.ModeTree) → g.defined ≡ h.defined → told_of_synonym g s ≡ told_of_synonym h s
    → SameKnownEach g h (names_in_some_mode m) → SameKnownEach g h (names_in s.value) → synonym_entry g s m ≡ synonym_entry h s m
synonym_frame g h s None defined told in_mode in_value =
    of_two of_constant (unless_guarded (told_of_synonym g s) told class) (of_two unless_told told (constant_frame g h None s.value in_value))
  where
    class : is_none_told (told_of_synonym g s) ≡ true → class_of g s.value ≡ class_of h s.value
    class none =
        formed_class g h None (is_some s.mode) s.value in_value
        (none_formed (told_as g (standing_with (is_some s.mode)) (some_mode_of g s.mode) s.value) (has_form g (is_some s.mode) s.value) (tell_at rules.M1 (place_of s.value))
        (none_told_first (told_of_value g (is_some s.mode) (some_mode_of g s.mode) s.value) (told_if (misfits_as g (some_mode_of g s.mode) s.value) (tell_at rules.M12 (place_of s.value))) none))
synonym_frame g h s (Some m) defined told in_mode in_value =
    let mode = mode_frame g h false m defined in_mode in
    of_three (λ t m v. record { mode = m; class = option_map value m; value = unless_told t v; parts = [] }) told mode
    (ap (λ m. value_within g m s.value) mode ∙ within_frame g h (mode_of h false m) s.value in_value)

-- ---- elements and signals

named_set_frame : (g h : Ground) (owner : Option (Name × Bool)) (m : ModeTree) → g.defined ≡ h.defined → named_set g owner m ≡ named_set h owner m
named_set_frame g h None m defined = refl
named_set_frame g h (Some o) m defined = ap (λ ds. under_name (number_at ds o.0.at) o.1 m) defined

set_frame : (g h : Ground) (ns : List Name) (owner : Option (Name × Bool)) → g.defined ≡ h.defined → set_mode g ns owner ≡ set_mode h ns owner
set_frame g h [] owner defined = refl
set_frame g h (n ∷ ns) owner defined = ap (option_and_then (λ first. named_set g owner (set_of first (length (n ∷ ns))))) (ap (λ ds. number_at ds n.at) defined) ∙ by_number (number_at h.defined n.at)
  where
    by_number : (d : Option ℕ) → option_and_then (λ first. named_set g owner (set_of first (length (n ∷ ns)))) d ≡ option_and_then (λ first. named_set h owner (set_of first (length (n ∷ ns)))) d
    by_number None = refl
    by_number (Some first) = named_set_frame g h owner (set_of first (length (n ∷ ns))) defined

parts_frame : (g h : Ground) (ms : List written.ModeTree) → g.defined ≡ h.defined → SameKnownEach g h (flat_map names_in_mode ms) → map (mode_of g false) ms ≡ map (mode_of h false) ms
parts_frame g h [] defined same = refl
parts_frame g h (m ∷ ms) defined same =
    of_two (λ a b. a ∷ b) (mode_frame g h false m defined (first_known g h (names_in_mode m) (flat_map names_in_mode ms) same)) (parts_frame g h ms defined (later_known g h (names_in_mode m) (flat_map names_in_mode ms) same))

signal_frame : (g h : Ground) (ms : Option (List written.ModeTree)) → g.defined ≡ h.defined → SameKnownEach g h (names_in_modes ms) → parts_of_signal g ms ≡ parts_of_signal h ms
signal_frame g h None defined same = refl
signal_frame g h (Some ms) defined same = parts_frame g h ms defined same

-- ---- entries

pub entry_frame : EntryFrame
entry_frame g h (a_synonym s) defined same =
    let in_mode = first_known g h (names_in_some_mode s.mode) (names_in s.value) same in
    let in_value = later_known g h (names_in_some_mode s.mode) (names_in s.value) same in
    synonym_frame g h s s.mode defined (told_synonym_frame g h s defined in_mode in_value) in_mode in_value
entry_frame g h (a_mode novel m) defined same = ap of_mode_alone (mode_frame g h true m defined same)
entry_frame g h (an_element names part owner) defined same = ap (λ m. of_constant (option_map derived m) (Some (number (pos part)))) (set_frame g h names owner defined)
entry_frame g h (a_location d) defined same = ap of_mode_alone (mode_frame g h true d.mode defined same)
entry_frame g h (a_parameter m) defined same = ap of_mode_alone (mode_frame g h false m defined same)
entry_frame g h (a_counter c) defined same = refl
entry_frame g h (a_received n count part) defined same = ap (λ ms. of_mode_alone (received_mode ms count part)) (of_two message_of same.entry same.origin)
entry_frame g h (a_procedure p) defined same = ap of_mode_alone (some_mode_frame g h p.returns defined same)
entry_frame g h (a_process p) defined same = refl
entry_frame g h (a_signal s) defined same = ap (λ ps. record { mode = None; class = None; value = None; parts = ps }) (signal_frame g h s.parts defined same)
entry_frame g h (a_modulion kind items) defined same = refl
entry_frame g h (a_predefined p) defined same = refl
