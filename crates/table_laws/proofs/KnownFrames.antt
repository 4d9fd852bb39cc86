-- What constants and modes look up depends on the ground only by the names in them, and of these only by what is known of
-- synonyms and elements, of modes, and of what can be measured.
use Rattle.std.proofs.Common.{◌≡◌, ℕ, Bool, true, false, List, [], ◌∷◌, ◌++◌, Option, Some, None, true≢false, subst, ◌⊎◌, inl, inr, refl, sym, ap, ◌∙◌}
use Rattle.std.specs.Prelude.{option_and_then, if◌then◌else◌, ◌&&◌, ◌||◌, is_some}
use Rattle.chill_tree.specs.declared.tree.name.Name.{Name}
use Rattle.chill_tree.specs.declared.tree.expr.Prefix.{Prefix}
use Rattle.chill_tree.specs.declared.tree.expr.Prefix.TheVariants as prefixes
use Rattle.chill_tree.specs.ExprTree.{ExprTree, ExprNodes, RangeTree, RangeNodes, whole, character, text, this_instance, paren, receive, start, tuple, uniform, name, apply, field, prefixed, binary, no_exprs, more_exprs, alone, between, no_ranges, more_ranges}
use Rattle.modes.specs.ModeTree.{ModeTree, ClassTree}
use Rattle.checks_model.specs.Told.{holds_of}
use Rattle.checks_model.specs.Ground.{Ground, Origin, Entry, Predefined, of_mode, truth, no_instance, num, succ, pred, abs, card, min, max, upper, lower, size, put_int, put_text, put_nl, get_int, a_synonym, a_mode, an_element, a_location, a_parameter, a_counter, a_received, a_procedure, a_process, a_signal, a_modulion, a_predefined, origin_of, entry_of, number_at, mode_of_name, named_mode}
use Rattle.checks_model.specs.Operations.{class_of_binary, class_of_unary, class_of_routine, field_of_form, element_of_form, is_measuring}
use Rattle.checks_model.specs.Classes.{class_as, class_of, class_of_first, class_behind, class_of_call, class_of_measured, result_class, class_of_origin, both_classes, Callee, calls, routine, no_callee, callee_of, callee_by, Measured, measured, measured_name, measured_first, measured_part, located, located_name, tuple_mode, value_if, shape_fits, uniform_fits}
use Rattle.checks_model.specs.Constants.{has_form, have_form, range_has_form, are_arguments, is_constant_origin, is_measured, is_value_routine, value_routine, value_of_name, applied, value_of_measured, value_of_call, literal_in, negated, value_before, constant_as, value_of_first}
use Rattle.checks_model.specs.ValueTrees.{ValueTree}
use Rattle.checks_model.specs.OperatorValues.{value_of_binary, value_of_unary, value_of_routine}
use Rattle.table_laws.specs.Names.{names_in, names_in_each, names_in_range, names_in_ranges, some_name}
use Rattle.table_laws.specs.Frames.{SameAt, SameAtEach, SameKnown, SameKnownEach, is_read, FormFrame}

pub first_known : (g h : Ground) (ms ns : List Name) → SameKnownEach g h (ms ++ ns) → SameKnownEach g h ms
first_known g h [] ns same = tt
first_known g h (m ∷ ms) ns same = (same.0, first_known g h ms ns same.1)

pub later_known : (g h : Ground) (ms ns : List Name) → SameKnownEach g h (ms ++ ns) → SameKnownEach g h ns
later_known g h [] ns same = same
later_known g h (m ∷ ms) ns same = later_known g h ms ns same.1

pub known_name : (g h : Ground) (n : Name) → SameAt g h n → SameKnown g h n
known_name g h n same = record { number = same.number; origin = same.origin; entry = λ is. same.entry }

pub known_each : (g h : Ground) (ns : List Name) → SameAtEach g h ns → SameKnownEach g h ns
known_each g h [] same = tt
known_each g h (n ∷ ns) same = (known_name g h n same.0, known_each g h ns same.1)

-- ---- the same function of the same

pub of_two : {A B C : Type 0} (f : A → B → C) {a b : A} {c d : B} → a ≡ b → c ≡ d → f a c ≡ f b d
of_two f {a} {b} {c} {d} p q = ap (λ x. f x c) p ∙ ap (f b) q

pub of_three : {A B C D : Type 0} (f : A → B → C → D) {a b : A} {c d : B} {k l : C} → a ≡ b → c ≡ d → k ≡ l → f a c k ≡ f b d l
of_three f {a} {b} {c} {d} {k} {l} p q r = ap (λ x. f x c k) p ∙ of_two (f b) q r

pub of_four : {A B C D E : Type 0} (f : A → B → C → D → E) {a b : A} {c d : B} {k l : C} {m n : D} → a ≡ b → c ≡ d → k ≡ l → m ≡ n → f a c k m ≡ f b d l n
of_four f {a} {b} {c} {d} {k} {l} {m} {n} p q r s = ap (λ x. f x c k m) p ∙ of_three (f b) q r s

-- ---- names

named_known : (o : Option Origin) (e k : Option Entry) (d : Option ℕ) → (is_read o ≡ true → e ≡ k) → named_mode e d o ≡ named_mode k d o
named_known None e k None same = refl
named_known None e k (Some at) same = refl
named_known (Some (a_synonym s)) e k None same = refl
named_known (Some (a_synonym s)) e k (Some at) same = refl
named_known (Some (a_mode novel m)) e k None same = ap (λ x. named_mode x None (Some (a_mode novel m))) (same refl)
named_known (Some (a_mode novel m)) e k (Some at) same = ap (λ x. named_mode x (Some at) (Some (a_mode novel m))) (same refl)
named_known (Some (an_element names part owner)) e k None same = refl
named_known (Some (an_element names part owner)) e k (Some at) same = refl
named_known (Some (a_location d)) e k None same = refl
named_known (Some (a_location d)) e k (Some at) same = refl
named_known (Some (a_parameter m)) e k None same = refl
named_known (Some (a_parameter m)) e k (Some at) same = refl
named_known (Some (a_counter c)) e k None same = refl
named_known (Some (a_counter c)) e k (Some at) same = refl
named_known (Some (a_received s count part)) e k None same = refl
named_known (Some (a_received s count part)) e k (Some at) same = refl
named_known (Some (a_procedure p)) e k None same = refl
named_known (Some (a_procedure p)) e k (Some at) same = refl
named_known (Some (a_process p)) e k None same = refl
named_known (Some (a_process p)) e k (Some at) same = refl
named_known (Some (a_signal s)) e k None same = refl
named_known (Some (a_signal s)) e k (Some at) same = refl
named_known (Some (a_modulion kind items)) e k None same = refl
named_known (Some (a_modulion kind items)) e k (Some at) same = refl
named_known (Some (a_predefined (of_mode m))) e k None same = refl
named_known (Some (a_predefined (of_mode m))) e k (Some at) same = refl
named_known (Some (a_predefined (truth b))) e k None same = refl
named_known (Some (a_predefined (truth b))) e k (Some at) same = refl
named_known (Some (a_predefined no_instance)) e k None same = refl
named_known (Some (a_predefined no_instance)) e k (Some at) same = refl
named_known (Some (a_predefined num)) e k None same = refl
named_known (Some (a_predefined num)) e k (Some at) same = refl
named_known (Some (a_predefined succ)) e k None same = refl
named_known (Some (a_predefined succ)) e k (Some at) same = refl
named_known (Some (a_predefined pred)) e k None same = refl
named_known (Some (a_predefined pred)) e k (Some at) same = refl
named_known (Some (a_predefined abs)) e k None same = refl
named_known (Some (a_predefined abs)) e k (Some at) same = refl
named_known (Some (a_predefined card)) e k None same = refl
named_known (Some (a_predefined card)) e k (Some at) same = refl
named_known (Some (a_predefined min)) e k None same = refl
named_known (Some (a_predefined min)) e k (Some at) same = refl
named_known (Some (a_predefined max)) e k None same = refl
named_known (Some (a_predefined max)) e k (Some at) same = refl
named_known (Some (a_predefined upper)) e k None same = refl
named_known (Some (a_predefined upper)) e k (Some at) same = refl
named_known (Some (a_predefined lower)) e k None same = refl
named_known (Some (a_predefined lower)) e k (Some at) same = refl
named_known (Some (a_predefined size)) e k None same = refl
named_known (Some (a_predefined size)) e k (Some at) same = refl
named_known (Some (a_predefined put_int)) e k None same = refl
named_known (Some (a_predefined put_int)) e k (Some at) same = refl
named_known (Some (a_predefined put_text)) e k None same = refl
named_known (Some (a_predefined put_text)) e k (Some at) same = refl
named_known (Some (a_predefined put_nl)) e k None same = refl
named_known (Some (a_predefined put_nl)) e k (Some at) same = refl
named_known (Some (a_predefined get_int)) e k None same = refl
named_known (Some (a_predefined get_int)) e k (Some at) same = refl

located_known : (o : Option Origin) (e k : Option Entry) → (is_read o ≡ true → e ≡ k) → located_name e o ≡ located_name k o
located_known None e k same = refl
located_known (Some (a_synonym s)) e k same = refl
located_known (Some (a_mode novel m)) e k same = refl
located_known (Some (an_element names part owner)) e k same = refl
located_known (Some (a_location d)) e k same = ap (λ x. located_name x (Some (a_location d))) (same refl)
located_known (Some (a_parameter m)) e k same = ap (λ x. located_name x (Some (a_parameter m))) (same refl)
located_known (Some (a_counter c)) e k same = refl
located_known (Some (a_received s count part)) e k same = refl
located_known (Some (a_procedure p)) e k same = refl
located_known (Some (a_process p)) e k same = refl
located_known (Some (a_signal s)) e k same = refl
located_known (Some (a_modulion kind items)) e k same = refl
located_known (Some (a_predefined p)) e k same = refl

measured_known : (o : Option Origin) (e k : Option Entry) (own : Option ModeTree) → (is_read o ≡ true → e ≡ k) → measured_name own e o ≡ measured_name own k o
measured_known None e k own same = refl
measured_known (Some (a_synonym s)) e k own same = refl
measured_known (Some (a_mode novel m)) e k own same = refl
measured_known (Some (an_element names part owner)) e k own same = refl
measured_known (Some (a_location d)) e k own same = ap (λ x. measured_name own x (Some (a_location d))) (same refl)
measured_known (Some (a_parameter m)) e k own same = ap (λ x. measured_name own x (Some (a_parameter m))) (same refl)
measured_known (Some (a_counter c)) e k own same = refl
measured_known (Some (a_received s count part)) e k own same = refl
measured_known (Some (a_procedure p)) e k own same = refl
measured_known (Some (a_process p)) e k own same = refl
measured_known (Some (a_signal s)) e k own same = refl
measured_known (Some (a_modulion kind items)) e k own same = refl
measured_known (Some (a_predefined (of_mode m))) e k own same = refl
measured_known (Some (a_predefined (truth b))) e k own same = refl
measured_known (Some (a_predefined no_instance)) e k own same = refl
measured_known (Some (a_predefined num)) e k own same = refl
measured_known (Some (a_predefined succ)) e k own same = refl
measured_known (Some (a_predefined pred)) e k own same = refl
measured_known (Some (a_predefined abs)) e k own same = refl
measured_known (Some (a_predefined card)) e k own same = refl
measured_known (Some (a_predefined min)) e k own same = refl
measured_known (Some (a_predefined max)) e k own same = refl
measured_known (Some (a_predefined upper)) e k own same = refl
measured_known (Some (a_predefined lower)) e k own same = refl
measured_known (Some (a_predefined size)) e k own same = refl
measured_known (Some (a_predefined put_int)) e k own same = refl
measured_known (Some (a_predefined put_text)) e k own same = refl
measured_known (Some (a_predefined put_nl)) e k own same = refl
measured_known (Some (a_predefined get_int)) e k own same = refl

pub value_known : (o : Option Origin) (e k : Option Entry) → (is_read o ≡ true → e ≡ k) → value_of_name e o ≡ value_of_name k o
value_known None e k same = refl
value_known (Some (a_synonym s)) e k same = ap (λ x. value_of_name x (Some (a_synonym s))) (same refl)
value_known (Some (a_mode novel m)) e k same = refl
value_known (Some (an_element names part owner)) e k same = refl
value_known (Some (a_location d)) e k same = refl
value_known (Some (a_parameter m)) e k same = refl
value_known (Some (a_counter c)) e k same = refl
value_known (Some (a_received s count part)) e k same = refl
value_known (Some (a_procedure p)) e k same = refl
value_known (Some (a_process p)) e k same = refl
value_known (Some (a_signal s)) e k same = refl
value_known (Some (a_modulion kind items)) e k same = refl
value_known (Some (a_predefined (of_mode m))) e k same = refl
value_known (Some (a_predefined (truth b))) e k same = refl
value_known (Some (a_predefined no_instance)) e k same = refl
value_known (Some (a_predefined num)) e k same = refl
value_known (Some (a_predefined succ)) e k same = refl
value_known (Some (a_predefined pred)) e k same = refl
value_known (Some (a_predefined abs)) e k same = refl
value_known (Some (a_predefined card)) e k same = refl
value_known (Some (a_predefined min)) e k same = refl
value_known (Some (a_predefined max)) e k same = refl
value_known (Some (a_predefined upper)) e k same = refl
value_known (Some (a_predefined lower)) e k same = refl
value_known (Some (a_predefined size)) e k same = refl
value_known (Some (a_predefined put_int)) e k same = refl
value_known (Some (a_predefined put_text)) e k same = refl
value_known (Some (a_predefined put_nl)) e k same = refl
value_known (Some (a_predefined get_int)) e k same = refl

class_known : (o : Option Origin) (e k : Option Entry) → is_constant_origin o ≡ true → (is_read o ≡ true → e ≡ k) → class_of_origin e o ≡ class_of_origin k o
class_known None e k is same = refl
class_known (Some (a_synonym s)) e k is same = ap (λ x. class_of_origin x (Some (a_synonym s))) (same refl)
class_known (Some (a_mode novel m)) e k is same = refl
class_known (Some (an_element names part owner)) e k is same = ap (λ x. class_of_origin x (Some (an_element names part owner))) (same refl)
class_known (Some (a_location d)) e k is same = absurd (true≢false (sym is))
class_known (Some (a_parameter m)) e k is same = absurd (true≢false (sym is))
class_known (Some (a_counter c)) e k is same = absurd (true≢false (sym is))
class_known (Some (a_received s count part)) e k is same = absurd (true≢false (sym is))
class_known (Some (a_procedure p)) e k is same = refl
class_known (Some (a_process p)) e k is same = refl
class_known (Some (a_signal s)) e k is same = refl
class_known (Some (a_modulion kind items)) e k is same = refl
class_known (Some (a_predefined (of_mode m))) e k is same = refl
class_known (Some (a_predefined (truth b))) e k is same = refl
class_known (Some (a_predefined no_instance)) e k is same = refl
class_known (Some (a_predefined num)) e k is same = refl
class_known (Some (a_predefined succ)) e k is same = refl
class_known (Some (a_predefined pred)) e k is same = refl
class_known (Some (a_predefined abs)) e k is same = refl
class_known (Some (a_predefined card)) e k is same = refl
class_known (Some (a_predefined min)) e k is same = refl
class_known (Some (a_predefined max)) e k is same = refl
class_known (Some (a_predefined upper)) e k is same = refl
class_known (Some (a_predefined lower)) e k is same = refl
class_known (Some (a_predefined size)) e k is same = refl
class_known (Some (a_predefined put_int)) e k is same = refl
class_known (Some (a_predefined put_text)) e k is same = refl
class_known (Some (a_predefined put_nl)) e k is same = refl
class_known (Some (a_predefined get_int)) e k is same = refl

pub mode_of_name_known : (g h : Ground) (n : Name) → SameKnown g h n → mode_of_name g n ≡ mode_of_name h n
mode_of_name_known g h n same = named_known (origin_of g n) (entry_of g n) (entry_of h n) (number_at g.uses n.at) same.entry ∙ of_two (named_mode (entry_of h n)) same.number same.origin

pub tuple_mode_frame : (g h : Ground) (m : Option Name) (r : Option ModeTree) → SameKnownEach g h (some_name m) → tuple_mode g m r ≡ tuple_mode h m r
tuple_mode_frame g h None r same = refl
tuple_mode_frame g h (Some n) r same = mode_of_name_known g h n same.0

pub callee_frame : (g h : Ground) (e : ExprTree) → SameKnownEach g h (names_in e) → callee_of g e ≡ callee_of h e
callee_frame g h (whole at n) same = refl
callee_frame g h (character at n) same = refl
callee_frame g h (text at n) same = refl
callee_frame g h (this_instance at) same = refl
callee_frame g h (paren at e) same = refl
callee_frame g h (receive at n) same = refl
callee_frame g h (start at n es) same = refl
callee_frame g h (tuple at m b rs) same = refl
callee_frame g h (uniform at m b e) same = refl
callee_frame g h (name n) same = ap (callee_by n) same.0.origin
callee_frame g h (apply at e es) same = refl
callee_frame g h (field at e n) same = refl
callee_frame g h (prefixed at o e) same = refl
callee_frame g h (binary at l o p r) same = refl

-- ---- what is measured

pub located_frame : (g h : Ground) (e : ExprTree) → SameKnownEach g h (names_in e) → located g e ≡ located h e
located_frame g h (whole at n) same = refl
located_frame g h (character at n) same = refl
located_frame g h (text at n) same = refl
located_frame g h (this_instance at) same = refl
located_frame g h (paren at e) same = refl
located_frame g h (receive at n) same = refl
located_frame g h (start at n es) same = refl
located_frame g h (tuple at m b rs) same = refl
located_frame g h (uniform at m b e) same = refl
located_frame g h (name n) same = located_known (origin_of g n) (entry_of g n) (entry_of h n) same.0.entry ∙ ap (located_name (entry_of h n)) same.0.origin
located_frame g h (apply at e es) same = ap (measured_part element_of_form) (located_frame g h e (first_known g h (names_in e) (names_in_each es) same))
located_frame g h (field at e n) same = ap (measured_part (field_of_form n.text)) (located_frame g h e same)
located_frame g h (prefixed at o e) same = refl
located_frame g h (binary at l o p r) same = refl

pub measured_frame : (g h : Ground) (e : ExprTree) → SameKnownEach g h (names_in e) → measured g e ≡ measured h e
measured_frame g h (whole at n) same = refl
measured_frame g h (character at n) same = refl
measured_frame g h (text at n) same = refl
measured_frame g h (this_instance at) same = refl
measured_frame g h (paren at e) same = refl
measured_frame g h (receive at n) same = refl
measured_frame g h (start at n es) same = refl
measured_frame g h (tuple at m b rs) same = refl
measured_frame g h (uniform at m b e) same = refl
measured_frame g h (name n) same = measured_known (origin_of g n) (entry_of g n) (entry_of h n) (mode_of_name g n) same.0.entry ∙ of_two (λ own o. measured_name own (entry_of h n) o) (mode_of_name_known g h n same.0) same.0.origin
measured_frame g h (apply at e es) same = located_frame g h (apply at e es) same
measured_frame g h (field at e n) same = located_frame g h (field at e n) same
measured_frame g h (prefixed at o e) same = refl
measured_frame g h (binary at l o p r) same = refl

pub measured_first_frame : (g h : Ground) (es : ExprNodes) → SameKnownEach g h (names_in_each es) → measured_first g es ≡ measured_first h es
measured_first_frame g h no_exprs same = refl
measured_first_frame g h (more_exprs e es) same = measured_frame g h e (first_known g h (names_in e) (names_in_each es) same)

-- ---- the form of a constant

routine_form : (g h : Ground) (p : Option Predefined) (es : ExprNodes) → ((measures : Bool) → are_arguments g measures es ≡ are_arguments h measures es)
    → holds_of (λ p. are_arguments g (is_measuring p) es) p ≡ holds_of (λ p. are_arguments h (is_measuring p) es) p
routine_form g h None es same = refl
routine_form g h (Some p) es same = same (is_measuring p)

mutual
  pub form_frame : FormFrame
  form_frame g h r (whole at n) same = refl
  form_frame g h r (character at n) same = refl
  form_frame g h r (text at n) same = refl
  form_frame g h r (this_instance at) same = refl
  form_frame g h r (paren at e) same = form_frame g h r e same
  form_frame g h r (receive at n) same = refl
  form_frame g h r (start at n es) same = refl
  form_frame g h r (tuple at m b rs) same = ap (λ b. (r || is_some m) && b) (ranges_form_frame g h rs (later_known g h (some_name m) (names_in_ranges rs) same))
  form_frame g h r (uniform at m b e) same = ap (λ b. (r || is_some m) && b) (form_frame g h true e (later_known g h (some_name m) (names_in e) same))
  form_frame g h r (name n) same = ap is_constant_origin same.0.origin
  form_frame g h r (apply at e es) same =
      ap (λ c. holds_of (λ p. are_arguments g (is_measuring p) es) (value_routine c)) (callee_frame g h e (first_known g h (names_in e) (names_in_each es) same))
      ∙ routine_form g h (value_routine (callee_of h e)) es (λ measures. arguments_frame g h measures es (later_known g h (names_in e) (names_in_each es) same))
  form_frame g h r (field at e n) same = refl
  form_frame g h r (prefixed at o e) same = form_frame g h false e same
  form_frame g h r (binary at l o p k) same =
      of_two (λ a b. a && b) (form_frame g h false l (first_known g h (names_in l) (names_in k) same)) (form_frame g h false k (later_known g h (names_in l) (names_in k) same))

  pub arguments_frame : (g h : Ground) (measures : Bool) (es : ExprNodes) → SameKnownEach g h (names_in_each es) → are_arguments g measures es ≡ are_arguments h measures es
  arguments_frame g h measures no_exprs same = refl
  arguments_frame g h measures (more_exprs e es) same =
      let first = first_known g h (names_in e) (names_in_each es) same in
      of_three (λ a b c. ((measures && is_measured a) || b) && c) (measured_frame g h e first) (form_frame g h false e first) (arguments_frame g h measures es (later_known g h (names_in e) (names_in_each es) same))

  pub ranges_form_frame : (g h : Ground) (rs : RangeNodes) → SameKnownEach g h (names_in_ranges rs) → have_form g rs ≡ have_form h rs
  ranges_form_frame g h no_ranges same = refl
  ranges_form_frame g h (more_ranges r rs) same =
      of_two (λ a b. a && b) (range_form_frame g h r (first_known g h (names_in_range r) (names_in_ranges rs) same)) (ranges_form_frame g h rs (later_known g h (names_in_range r) (names_in_ranges rs) same))

  range_form_frame : (g h : Ground) (r : RangeTree) → SameKnownEach g h (names_in_range r) → range_has_form g r ≡ range_has_form h r
  range_form_frame g h (alone e) same = form_frame g h true e same
  range_form_frame g h (between l k) same =
      of_two (λ a b. a && b) (form_frame g h true l (first_known g h (names_in l) (names_in k) same)) (form_frame g h true k (later_known g h (names_in l) (names_in k) same))

-- ---- the class of what has the form of a constant

pub and_first : (a b : Bool) → (a && b) ≡ true → a ≡ true
and_first true b is = refl
and_first false b is = is

pub and_second : (a b : Bool) → (a && b) ≡ true → b ≡ true
and_second true b is = is
and_second false b is = absurd (true≢false (sym is))

-- what brackets behind a routine that gives a value of its arguments give
call_known : (p : Predefined) {m n : Measured} {c k : Option ClassTree} → is_value_routine p ≡ true → m ≡ n → (is_measuring p ≡ false → c ≡ k) → class_of_call p m c ≡ class_of_call p n k
call_known (of_mode m) is measures arg = absurd (true≢false (sym is))
call_known (truth b) is measures arg = absurd (true≢false (sym is))
call_known no_instance is measures arg = absurd (true≢false (sym is))
call_known num is measures arg = ap (option_and_then (class_of_routine num)) (arg refl)
call_known succ is measures arg = ap (option_and_then (class_of_routine succ)) (arg refl)
call_known pred is measures arg = ap (option_and_then (class_of_routine pred)) (arg refl)
call_known abs is measures arg = ap (option_and_then (class_of_routine abs)) (arg refl)
call_known card is measures arg = ap (option_and_then (class_of_routine card)) (arg refl)
call_known min is measures arg = ap (option_and_then (class_of_routine min)) (arg refl)
call_known max is measures arg = ap (option_and_then (class_of_routine max)) (arg refl)
call_known upper is measures arg = ap (class_of_measured upper) measures
call_known lower is measures arg = ap (class_of_measured lower) measures
call_known size is measures arg = ap (class_of_measured size) measures
call_known put_int is measures arg = absurd (true≢false (sym is))
call_known put_text is measures arg = absurd (true≢false (sym is))
call_known put_nl is measures arg = absurd (true≢false (sym is))
call_known get_int is measures arg = absurd (true≢false (sym is))

-- a callee that is asked as a constant
abbrev IsAsked : Callee → (Predefined → Type 0) → Type 0
IsAsked (calls n) P = ⊥
IsAsked (routine p) P = (is_value_routine p ≡ true) × P p
IsAsked no_callee P = ⊥

behind_known : (c : Callee) (r s b d x y : Option ClassTree) {m n : Measured} → m ≡ n → IsAsked c (λ p. is_measuring p ≡ false → x ≡ y) → class_behind c r b m x ≡ class_behind c s d n y
behind_known (calls n) r s b d x y measures asked = absurd asked
behind_known (routine p) r s b d x y measures asked = call_known p asked.0 measures asked.1
behind_known no_callee r s b d x y measures asked = absurd asked

arguments_asked : (g : Ground) (c : Callee) (es : ExprNodes) → holds_of (λ p. are_arguments g (is_measuring p) es) (value_routine c) ≡ true → IsAsked c (λ p. are_arguments g (is_measuring p) es ≡ true)
arguments_asked g (calls n) es is = absurd (true≢false (sym is))
arguments_asked g no_callee es is = absurd (true≢false (sym is))
arguments_asked g (routine p) es is = by (is_value_routine p) refl is
  where
    by : (b : Bool) → is_value_routine p ≡ b → holds_of (λ p. are_arguments g (is_measuring p) es) (if b then Some p else None) ≡ true → (is_value_routine p ≡ true) × (are_arguments g (is_measuring p) es ≡ true)
    by true value args = (value, args)
    by false value args = absurd (true≢false (sym args))

asked_of : {P Q : Predefined → Type 0} (c : Callee) → IsAsked c P → ((p : Predefined) → P p → Q p) → IsAsked c Q
asked_of (calls n) asked f = absurd asked
asked_of (routine p) asked f = (asked.0, f p asked.1)
asked_of no_callee asked f = absurd asked

mutual
  pub formed_class : (g h : Ground) (r : Option ModeTree) (b : Bool) (e : ExprTree) → SameKnownEach g h (names_in e) → has_form g b e ≡ true → class_as g r e ≡ class_as h r e
  formed_class g h r b (whole at n) same is = refl
  formed_class g h r b (character at n) same is = refl
  formed_class g h r b (text at n) same is = refl
  formed_class g h r b (this_instance at) same is = refl
  formed_class g h r b (paren at e) same is = formed_class g h r b e same is
  formed_class g h r b (receive at n) same is = absurd (true≢false (sym is))
  formed_class g h r b (start at n es) same is = refl
  formed_class g h r b (tuple at m k rs) same is = ap (option_and_then (value_if (shape_fits rs))) (tuple_mode_frame g h m r (first_known g h (some_name m) (names_in_ranges rs) same))
  formed_class g h r b (uniform at m k e) same is = ap (option_and_then (value_if uniform_fits)) (tuple_mode_frame g h m r (first_known g h (some_name m) (names_in e) same))
  formed_class g h r b (name n) same is = class_known (origin_of g n) (entry_of g n) (entry_of h n) is same.0.entry ∙ ap (class_of_origin (entry_of h n)) same.0.origin
  formed_class g h r b (apply at e es) same is =
      let base = first_known g h (names_in e) (names_in_each es) same in
      let args = later_known g h (names_in e) (names_in_each es) same in
      behind_known (callee_of g e) (result_class g e) (result_class h e) (class_as g None e) (class_as h None e) (class_of_first g es) (class_of_first h es) (measured_first_frame g h es args)
      (asked_of (callee_of g e) (arguments_asked g (callee_of g e) es is) (λ p formed measures. first_formed g h es args (subst (λ m. are_arguments g m es ≡ true) measures formed)))
      ∙ ap (λ c. class_behind c (result_class h e) (class_as h None e) (measured_first h es) (class_of_first h es)) (callee_frame g h e base)
  formed_class g h r b (field at e n) same is = absurd (true≢false (sym is))
  formed_class g h r b (prefixed at o e) same is = ap (option_and_then (class_of_unary o)) (formed_class g h None false e same is)
  formed_class g h r b (binary at l o p k) same is =
      of_two (both_classes (class_of_binary o))
      (formed_class g h None false l (first_known g h (names_in l) (names_in k) same) (and_first (has_form g false l) (has_form g false k) is))
      (formed_class g h None false k (later_known g h (names_in l) (names_in k) same) (and_second (has_form g false l) (has_form g false k) is))

  pub first_formed : (g h : Ground) (es : ExprNodes) → SameKnownEach g h (names_in_each es) → are_arguments g false es ≡ true → class_of_first g es ≡ class_of_first h es
  first_formed g h no_exprs same is = refl
  first_formed g h (more_exprs e es) same is = formed_class g h None false e (first_known g h (names_in e) (names_in_each es) same) (and_first (has_form g false e) (are_arguments g false es) is)

-- ---- the class of what has a value

constant_origin : (o : Option Origin) (e : Option Entry) → is_some (value_of_name e o) ≡ true → is_constant_origin o ≡ true
constant_origin None e is = is
constant_origin (Some (a_synonym s)) e is = refl
constant_origin (Some (a_mode novel m)) e is = is
constant_origin (Some (an_element names part owner)) e is = refl
constant_origin (Some (a_location d)) e is = is
constant_origin (Some (a_parameter m)) e is = is
constant_origin (Some (a_counter c)) e is = is
constant_origin (Some (a_received s count part)) e is = is
constant_origin (Some (a_procedure p)) e is = is
constant_origin (Some (a_process p)) e is = is
constant_origin (Some (a_signal s)) e is = is
constant_origin (Some (a_modulion kind items)) e is = is
constant_origin (Some (a_predefined (of_mode m))) e is = is
constant_origin (Some (a_predefined (truth b))) e is = refl
constant_origin (Some (a_predefined no_instance)) e is = refl
constant_origin (Some (a_predefined num)) e is = is
constant_origin (Some (a_predefined succ)) e is = is
constant_origin (Some (a_predefined pred)) e is = is
constant_origin (Some (a_predefined abs)) e is = is
constant_origin (Some (a_predefined card)) e is = is
constant_origin (Some (a_predefined min)) e is = is
constant_origin (Some (a_predefined max)) e is = is
constant_origin (Some (a_predefined upper)) e is = is
constant_origin (Some (a_predefined lower)) e is = is
constant_origin (Some (a_predefined size)) e is = is
constant_origin (Some (a_predefined put_int)) e is = is
constant_origin (Some (a_predefined put_text)) e is = is
constant_origin (Some (a_predefined put_nl)) e is = is
constant_origin (Some (a_predefined get_int)) e is = is

applied_valued : {A B C : Type 0} (f : A → B → Option C) (a : Option A) (b : Option B) → is_some (applied f a b) ≡ true → is_some b ≡ true
applied_valued f (Some a) (Some b) is = refl
applied_valued f (Some a) None is = is
applied_valued f None (Some b) is = refl
applied_valued f None None is = is

then_valued : {A B : Type 0} (f : A → Option B) (a : Option A) → is_some (option_and_then f a) ≡ true → is_some a ≡ true
then_valued f (Some a) is = refl
then_valued f None is = is

left_valued : {A B C D : Type 0} (f : A → B → D → Option C) (v : Option D) (a : Option A) (b : Option B) → is_some (applied (λ a b. option_and_then (f a b) v) a b) ≡ true → is_some v ≡ true
left_valued f v (Some a) (Some b) is = then_valued (f a b) v is
left_valued f v (Some a) None is = absurd (true≢false (sym is))
left_valued f v None b is = absurd (true≢false (sym is))

-- a literal's class needs nothing
literal_or_not : (e : ExprTree) → (literal_in e ≡ None) ⊎ ((g h : Ground) (r : Option ModeTree) → class_as g r e ≡ class_as h r e)
literal_or_not (whole at n) = inr (λ g h r. refl)
literal_or_not (character at n) = inl refl
literal_or_not (text at n) = inl refl
literal_or_not (this_instance at) = inl refl
literal_or_not (paren at e) = inl refl
literal_or_not (receive at n) = inl refl
literal_or_not (start at n es) = inl refl
literal_or_not (tuple at m b rs) = inl refl
literal_or_not (uniform at m b e) = inl refl
literal_or_not (name n) = inl refl
literal_or_not (apply at e es) = inl refl
literal_or_not (field at e n) = inl refl
literal_or_not (prefixed at o e) = inl refl
literal_or_not (binary at l o p k) = inl refl

before_valued : (o : Prefix) (e : ExprTree) (v : Option ValueTree) → literal_in e ≡ None → is_some (value_before o e v) ≡ true → is_some v ≡ true
before_valued prefixes.Minus e v no_literal is = then_valued (value_of_unary prefixes.Minus) v (subst (λ l. is_some (negated l v) ≡ true) no_literal is)
before_valued prefixes.Not e v no_literal is = then_valued (value_of_unary prefixes.Not) v is

call_asked : (c : Callee) (m : Measured) (k : Option ClassTree) (v : Option ValueTree) → is_some (value_of_call (value_routine c) m k v) ≡ true → IsAsked c (λ p. is_measuring p ≡ false → is_some v ≡ true)
call_asked (calls n) m k v is = absurd (true≢false (sym is))
call_asked no_callee m k v is = absurd (true≢false (sym is))
call_asked (routine p) m k v is = by (is_value_routine p) refl is
  where
    of_value : (b : Bool) → b ≡ false → is_some (if b then value_of_measured p m else applied (value_of_routine p) k v) ≡ true → is_some v ≡ true
    of_value true no_measure is = absurd (true≢false no_measure)
    of_value false no_measure is = applied_valued (value_of_routine p) k v is

    by : (b : Bool) → is_value_routine p ≡ b → is_some (value_of_call (if b then Some p else None) m k v) ≡ true → (is_value_routine p ≡ true) × (is_measuring p ≡ false → is_some v ≡ true)
    by true value is = (value, λ no_measure. of_value (is_measuring p) no_measure is)
    by false value is = absurd (true≢false (sym is))

mutual
  pub valued_class : (g h : Ground) (r q : Option ModeTree) (e : ExprTree) → SameKnownEach g h (names_in e) → is_some (constant_as g q e) ≡ true → class_as g r e ≡ class_as h r e
  valued_class g h r q (whole at n) same is = refl
  valued_class g h r q (character at n) same is = refl
  valued_class g h r q (text at n) same is = refl
  valued_class g h r q (this_instance at) same is = refl
  valued_class g h r q (paren at e) same is = valued_class g h r q e same is
  valued_class g h r q (receive at n) same is = absurd (true≢false (sym is))
  valued_class g h r q (start at n es) same is = refl
  valued_class g h r q (tuple at m k rs) same is = ap (option_and_then (value_if (shape_fits rs))) (tuple_mode_frame g h m r (first_known g h (some_name m) (names_in_ranges rs) same))
  valued_class g h r q (uniform at m k e) same is = ap (option_and_then (value_if uniform_fits)) (tuple_mode_frame g h m r (first_known g h (some_name m) (names_in e) same))
  valued_class g h r q (name n) same is =
      class_known (origin_of g n) (entry_of g n) (entry_of h n) (constant_origin (origin_of g n) (entry_of g n) is) same.0.entry ∙ ap (class_of_origin (entry_of h n)) same.0.origin
  valued_class g h r q (apply at e es) same is =
      let args = later_known g h (names_in e) (names_in_each es) same in
      behind_known (callee_of g e) (result_class g e) (result_class h e) (class_as g None e) (class_as h None e) (class_of_first g es) (class_of_first h es) (measured_first_frame g h es args)
      (asked_of (callee_of g e) (call_asked (callee_of g e) (measured_first g es) (class_of_first g es) (value_of_first g es) is) (λ p valued measures. first_valued g h es args (valued measures)))
      ∙ ap (λ c. class_behind c (result_class h e) (class_as h None e) (measured_first h es) (class_of_first h es)) (callee_frame g h e (first_known g h (names_in e) (names_in_each es) same))
  valued_class g h r q (field at e n) same is = absurd (true≢false (sym is))
  valued_class g h r q (prefixed at o e) same is = elim (literal_or_not e) [
    | inl no_literal ↦ ap (option_and_then (class_of_unary o)) (valued_class g h None None e same (before_valued o e (constant_as g None e) no_literal is))
    | inr literal ↦ ap (option_and_then (class_of_unary o)) (literal g h None)
  ]
  valued_class g h r q (binary at l o p k) same is =
      of_two (both_classes (class_of_binary o))
      (valued_class g h None None l (first_known g h (names_in l) (names_in k) same) (left_valued (λ c w v. value_of_binary o c v w) (constant_as g None l) (class_of g k) (constant_as g None k) is))
      (valued_class g h None None k (later_known g h (names_in l) (names_in k) same) (applied_valued (λ c w. option_and_then (λ v. value_of_binary o c v w) (constant_as g None l)) (class_of g k) (constant_as g None k) is))

  pub first_valued : (g h : Ground) (es : ExprNodes) → SameKnownEach g h (names_in_each es) → is_some (value_of_first g es) ≡ true → class_of_first g es ≡ class_of_first h es
  first_valued g h no_exprs same is = refl
  first_valued g h (more_exprs e es) same is = valued_class g h None None e (first_known g h (names_in e) (names_in_each es) same) is
