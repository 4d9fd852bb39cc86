-- The value of a constant in which nothing is told is one of its class's mode.
use Rattle.std.proofs.Common.{◌≡◌, ℕ, suc, ◌==◌, ◌&&◌, ◌||◌, Bool, true, false, List, [], ◌∷◌, ◌++◌, Option, Some, None, ℤ, pos, length, refl, sym, ap, ◌∙◌, subst, arith, true≢false}
use Rattle.std.proofs.lemmas.Int.{ints}
use Rattle.std.specs.Prelude.{IsSome, is_some, map, option_map, option_and_then, not, if◌then◌else◌}
use Rattle.chill_base.specs.declared.pos.Pos.{Pos}
use Rattle.chill_tree.specs.declared.tree.name.Name.{Name}
use Rattle.chill_tree.specs.ExprTree.{ExprTree, ExprNodes, RangeTree, RangeNodes, whole, character, text, this_instance, paren, receive, start, tuple, uniform, name, apply, field, prefixed, binary, no_exprs, more_exprs, alone, between, no_ranges, more_ranges, place_of}
use Rattle.chill_tree.specs.declared.tree.expr.Operator.{Operator}
use Rattle.chill_tree.specs.declared.tree.expr.Prefix.TheVariants as prefixes
use Rattle.diagnostics.specs.declared.diagnostic.Diagnostic.{Diagnostic}
use Rattle.diagnostics.specs.declared.rule.Rule.TheVariants as rules
use Rattle.modes.specs.declared.mode.Bounds.{Bounds}
use Rattle.modes.specs.ModeTree.{ModeTree, ClassTree, value, derived, null, nothing, int, char, chars}
use Rattle.modes.specs.Form.{FormTree, form_of}
use Rattle.modes.specs.Bounds.{bounds_of}
use Rattle.modes.specs.Similar.{like_int, like_char, like_chars, shape_of}
use Rattle.checks_model.specs.Alike.{goes_with}
use Rattle.checks_model.specs.Told.{tell_at, told_if, then_told, holds_of, holds_of_both}
use Rattle.checks_model.specs.ValueTrees.{ValueTree, number, members, parts, value_nodes}
use Rattle.checks_model.specs.Ground.{Ground, Predefined, num, succ, pred, abs, card, min, max, upper, lower, size}
use Rattle.checks_model.specs.Operations.{class_of_binary, class_of_unary, class_of_routine, is_measuring}
use Rattle.checks_model.specs.OperatorValues.{in_int, value_of_binary, value_of_routine}
use Rattle.checks_model.specs.Classes.{class_as, class_of, class_of_first, class_behind, class_of_call, both_classes, result_class, Callee, calls, routine, no_callee, callee_of, Measured, measured_first, tuple_mode, shape_fits, uniform_fits, count_ranges, are_alone, part_mode, mode_of_part}
use Rattle.checks_model.specs.Constants.{has_form, have_form, range_has_form, are_arguments, is_measured, value_routine, constant_as, constant_of, value_of_first, values_of_ranges, value_of_range, both_ends, behind, applied, value_before, value_of_call, tuple_value, uniform_value}
use Rattle.checks_model.specs.ConstantRules.{Standing, by_itself, in_a_tuple, in_a_synonym, is_by_itself, is_in_synonym, is_outside, told_as, told_in_each, told_in_ranges, told_in_range, told_tuple, told_uniform, told_misfit, told_parts, told_part, told_part_range, ranges_misfit, range_misfits, class_misfits, value_misfits, is_judged, standing_of_parts, told_if_constant, when_routine, told_call, told_binary, told_before, told_unary, misfits_as, some_misfits, one_misfits}
use Rattle.table_laws.specs.Names.{names_in, names_in_each, names_in_range, names_in_ranges, some_name}
use Rattle.elaborated_laws.specs.Known.{IsDeclarable, AreKnown}
use Rattle.elaborated_laws.specs.Classes.{HasDeclarable, HasModes, HaveModes, HasShortTexts, HaveShortTexts, RangeHasShortTexts, RangesHaveShortTexts}
use Rattle.elaborated_laws.proofs.Told.{none_first, none_later, none_inside, none_then, not_broken, not_true, both_left, both_right, neither_left, neither_right, no_some, same_some, there_mapped, there_chained}
use Rattle.elaborated_laws.proofs.Constants.{class_there, at_call}
use Rattle.elaborated_laws.proofs.Classes.{class_mode, form_is, no_receiver}
use Rattle.written_laws.specs.Written.{Each}
use Rattle.there_laws.specs.Constants.{IsReceived, FitsSynonym}
use Rattle.there_laws.proofs.Forms.{part_fits}
use Rattle.there_laws.proofs.Modes.{value_in}
use Rattle.constant_laws.specs.Values.{IsBetween, IsOfShape, AreOfShape, IsOfMode, shape_in, FitsClass}
use Rattle.constant_laws.specs.Constants.{IsByte, HasBytes, HaveBytes, RangeHasBytes, RangesHaveBytes, IsNameFit, AreNamesFit, ConstantFitsLaw}
use Rattle.constant_laws.proofs.Shapes.{value_goes}
use Rattle.constant_laws.proofs.Operators.{in_int_fits, int_fits, binary_fits, minus_fits, not_fits}
use Rattle.constant_laws.proofs.Routines.{MeasuresWell, routine_fits, measured_fits}
use Rattle.constant_laws.proofs.Measures.{fit_first, fit_later, first_measures}
use Rattle.constant_laws.proofs.Tuples.{AreFrom, TupleIs, tuple_is, tuple_fits, uniform_value_fits, PartsStand, parts_stand, told_parts_fit, tuple_judged, uniform_judged}

-- ---- literals

literal_class : (m : ModeTree) (c : ClassTree) (x : ValueTree) → Some (derived m) ≡ Some c → IsOfMode m x → FitsClass c x
literal_class m c x is of = subst (λ d. FitsClass d x) (same_some (derived m) c is) of

byte_between : (n : ℕ) → IsByte n → IsBetween (bounds_of char) (pos n)
byte_between n few = (grind (arith, ints), grind (arith, ints, few))

bytes_are : (bytes : List ℕ) → Each IsByte bytes → AreOfShape (length bytes) (bounds_of char) like_char (value_nodes (map (λ b. number (pos b)) bytes))
bytes_are [] few = refl
bytes_are (b ∷ bs) few = (length bs, (refl, (byte_between b few.0, bytes_are bs few.1)))

-- ---- names

have_all : (g : Ground) (ns : List Name) → AreNamesFit g ns → HaveModes g ns
have_all g [] fit = tt
have_all g (n ∷ ns) fit = (fit.0.modes, have_all g ns fit.1)

known_all : (g : Ground) (ns : List Name) → AreNamesFit g ns → AreKnown g ns
known_all g [] fit = tt
known_all g (n ∷ ns) fit = (fit.0.known, known_all g ns fit.1)

-- ---- a part of a tuple

some_class : (g : Ground) (s : Standing) (receives : Bool) (m : Option ModeTree) (e : ExprTree) (v : ValueTree) → AreNamesFit g (names_in e) → told_as g s m e ≡ [] → has_form g receives e ≡ true → constant_as g m e ≡ Some v → (c : ClassTree) × (class_as g m e ≡ Some c)
some_class g s receives m e v fit none form made = value_in (class_as g m e) (class_there g s receives m e (known_all g (names_in e) fit) none form (ap is_some made))

-- its class goes with its mode, and its value doesn't lie outside
goes_by : (g : Ground) (m : ModeTree) (e : ExprTree) (c : ClassTree) (v : ValueTree) → class_as g (Some m) e ≡ Some c → constant_as g (Some m) e ≡ Some v → class_misfits g (Some m) e ≡ false → value_misfits g (Some m) e ≡ false → FitsClass c v → IsOfMode m v
goes_by g m e c v class made first later fits =
    let goes = not_true (goes_with c m) (ap (λ k. holds_of_both (λ c m. not (goes_with c m)) k (Some m)) (sym class) ∙ first) in
    let both = ap (λ k. holds_of_both goes_with k (Some m) && holds_of_both (λ v m. is_outside (bounds_of m) v) (constant_as g (Some m) e) (Some m)) (sym class) ∙ later in
    let outside = ap (λ k. holds_of_both (λ v m. is_outside (bounds_of m) v) k (Some m)) (sym made) ∙ second (goes_with c m) (holds_of_both (λ v m. is_outside (bounds_of m) v) (constant_as g (Some m) e) (Some m)) goes both in
    value_goes c m v goes outside fits
  where
    second : (a b : Bool) → a ≡ true → (a && b) ≡ false → b ≡ false
    second true b first none = none
    second false b first none = absurd (true≢false (sym first))

-- of an unnamed tuple M12 asks its form and its parts
pub received_fits : (g : Ground) (m : ModeTree) (e : ExprTree) (c : ClassTree) (v : ValueTree) → class_as g (Some m) e ≡ Some c → constant_as g (Some m) e ≡ Some v → misfits_as g (Some m) e ≡ false → FitsClass c v → IsOfMode m v
received_fits g m (paren at e) c v class made fits of = received_fits g m e c v class made fits of
received_fits g m (tuple at None b rs) c v class made fits of = let t = tuple_is (shape_fits rs) (Some m) c class in subst (λ k. IsOfMode k v) (sym (same_some m t.mode t.is)) (subst (λ d. FitsClass d v) (sym t.class) of)
received_fits g m (uniform at None b e) c v class made fits of = let t = tuple_is uniform_fits (Some m) c class in subst (λ k. IsOfMode k v) (sym (same_some m t.mode t.is)) (subst (λ d. FitsClass d v) (sym t.class) of)
received_fits g m e c v class made fits of = goes_by g m e c v class made (neither_left (class_misfits g (Some m) e) (value_misfits g (Some m) e) fits) (neither_right (class_misfits g (Some m) e) (value_misfits g (Some m) e) fits) of

-- what is known of a part where M10 and M11 judge, and where M12 does
record PartFits (g : Ground) (s : Standing) (m : Option ModeTree) (e : ExprTree) : Type 0 where
  judged : is_in_synonym s ≡ false → (class_misfits g m e ≡ false) × (value_misfits g m e ≡ false)
  unjudged : FitsSynonym g s m e

part_of_mode : (g : Ground) (s : Standing) (m : ModeTree) (e : ExprTree) (c : ClassTree) (v : ValueTree) → PartFits g s (Some m) e → class_as g (Some m) e ≡ Some c → constant_as g (Some m) e ≡ Some v → FitsClass c v → IsOfMode m v
part_of_mode g s m e c v fits class made of = by (is_in_synonym s) refl
  where
    by : (b : Bool) → is_in_synonym s ≡ b → IsOfMode m v
    by true is = received_fits g m e c v class made (fits.unjudged is) of
    by false is = let both = fits.judged is in goes_by g m e c v class made both.0 both.1 of

-- ---- brackets

-- the only argument of a routine that takes its value
abbrev ArgumentFits : Ground → ExprNodes → Type 0
ArgumentFits g es = (c : ClassTree) (v : ValueTree) → class_of_first g es ≡ Some c → value_of_first g es ≡ Some v → FitsClass c v

abbrev ArgumentDeclared : Ground → ExprNodes → Type 0
ArgumentDeclared g es = (c : ClassTree) → class_of_first g es ≡ Some c → HasDeclarable c

taking : (p : Predefined) (k : Option ClassTree) (v : Option ValueTree) (c : ClassTree) (x : ValueTree) → ((d : ClassTree) → k ≡ Some d → HasDeclarable d) → ((d : ClassTree) (y : ValueTree) → k ≡ Some d → v ≡ Some y → FitsClass d y)
    → option_and_then (class_of_routine p) k ≡ Some c → applied (value_of_routine p) k v ≡ Some x → FitsClass c x
taking p (Some k) (Some v) c x declared fits is made = routine_fits p k c v x (declared k refl) is (fits k v refl refl) made
taking p None v c x declared fits is made = no_some c is
taking p (Some k) None c x declared fits is made = no_some x made

module _ (g : Ground) (es : ExprNodes) (c : ClassTree) (x : ValueTree) (declared : ArgumentDeclared g es) (well : MeasuresWell (measured_first g es)) where
  taken : (p : Predefined) → (are_arguments g false es ≡ true → ArgumentFits g es) → are_arguments g false es ≡ true → option_and_then (class_of_routine p) (class_of_first g es) ≡ Some c → applied (value_of_routine p) (class_of_first g es) (value_of_first g es) ≡ Some x → FitsClass c x
  taken p fits form is made = taking p (class_of_first g es) (value_of_first g es) c x declared (fits form) is made

  called_fits : (p : Predefined) → (are_arguments g false es ≡ true → ArgumentFits g es) → holds_of (λ p. are_arguments g (is_measuring p) es) (value_routine (routine p)) ≡ true → class_of_call p (measured_first g es) (class_of_first g es) ≡ Some c
      → value_of_call (value_routine (routine p)) (measured_first g es) (class_of_first g es) (value_of_first g es) ≡ Some x → FitsClass c x
  called_fits num fits form is made = taken num fits form is made
  called_fits succ fits form is made = taken succ fits form is made
  called_fits pred fits form is made = taken pred fits form is made
  called_fits abs fits form is made = taken abs fits form is made
  called_fits card fits form is made = taken card fits form is made
  called_fits min fits form is made = taken min fits form is made
  called_fits max fits form is made = taken max fits form is made
  called_fits upper fits form is made = measured_fits upper (measured_first g es) c x well is made
  called_fits lower fits form is made = measured_fits lower (measured_first g es) c x well is made
  called_fits size fits form is made = measured_fits size (measured_first g es) c x well is made
  called_fits p fits form is made = no_some x made

  behind_fits : (k : Callee) (result base : Option ClassTree) → (are_arguments g false es ≡ true → ArgumentFits g es) → holds_of (λ p. are_arguments g (is_measuring p) es) (value_routine k) ≡ true → class_behind k result base (measured_first g es) (class_of_first g es) ≡ Some c
      → value_of_call (value_routine k) (measured_first g es) (class_of_first g es) (value_of_first g es) ≡ Some x → FitsClass c x
  behind_fits (calls n) result base fits form is made = no_some x made
  behind_fits (routine p) result base fits form is made = called_fits p fits form is made
  behind_fits no_callee result base fits form is made = no_some x made

operands_fit : (o : Operator) (l r : Option ClassTree) (v w : Option ValueTree) (c : ClassTree) (x : ValueTree) → ((k : ClassTree) (y : ValueTree) → l ≡ Some k → v ≡ Some y → FitsClass k y) → ((k : ClassTree) (y : ValueTree) → r ≡ Some k → w ≡ Some y → FitsClass k y)
    → both_classes (class_of_binary o) l r ≡ Some c → applied (λ c w. option_and_then (λ v. value_of_binary o c v w) v) r w ≡ Some x → FitsClass c x
operands_fit o (Some l) (Some r) (Some v) (Some w) c x left right is result = binary_fits o l r c v w x is (left l v refl refl) (right r w refl refl) result
operands_fit o None r v w c x left right is result = no_some c is
operands_fit o (Some l) None v w c x left right is result = no_some c is
operands_fit o (Some l) (Some r) None (Some w) c x left right is result = no_some x result
operands_fit o (Some l) (Some r) v None c x left right is result = no_some x result

-- ---- what is told of parts

-- each part of some fits
abbrev RangePart : Ground → Standing → Option ModeTree → RangeTree → Type 0
RangePart g s m (alone e) = PartFits g s m e
RangePart g s m (between l h) = PartFits g s m l × PartFits g s m h

abbrev AllParts : Ground → Standing → (FormTree → Bool) → ℕ → Option ModeTree → RangeNodes → Type 0
AllParts g s fits k m no_ranges = Unit {0}
AllParts g s fits k m (more_ranges r rs) = RangePart g s (mode_of_part fits k m) r × AllParts g s fits (suc k) m rs

one_part : (g : Ground) (s : Standing) (m : Option ModeTree) (r : RangeTree) → (is_in_synonym s ≡ false → (range_misfits g m r ≡ false) × (told_part_range g m r ≡ [])) → (is_in_synonym s ≡ true → one_misfits g m r ≡ false) → RangePart g s m r
one_part g s m (alone e) judged unjudged = record { judged = λ is. let both = judged is in (both.0, not_broken (value_misfits g m e) (tell_at rules.M11 (place_of e)) both.1); unjudged = unjudged }
one_part g s m (between l h) judged unjudged = (
  record {
    judged = λ is. let both = judged is in (neither_left (class_misfits g m l) (class_misfits g m h) both.0, not_broken (value_misfits g m l) (tell_at rules.M11 (place_of l)) (none_first (told_part g m l) (told_part g m h) both.1));
    unjudged = λ is. neither_left (misfits_as g m l) (misfits_as g m h) (unjudged is);
  },
  record {
    judged = λ is. let both = judged is in (neither_right (class_misfits g m l) (class_misfits g m h) both.0, not_broken (value_misfits g m h) (tell_at rules.M11 (place_of h)) (none_later (told_part g m l) (told_part g m h) both.1));
    unjudged = λ is. neither_right (misfits_as g m l) (misfits_as g m h) (unjudged is);
  },
)

all_parts : (g : Ground) (s : Standing) (fits : FormTree → Bool) (k : ℕ) (m : Option ModeTree) (rs : RangeNodes) → (is_in_synonym s ≡ false → (ranges_misfit g fits k m rs ≡ false) × (told_parts g fits k m rs ≡ [])) → (is_in_synonym s ≡ true → some_misfits g fits k m rs ≡ false) → AllParts g s fits k m rs
all_parts g s fits k m no_ranges judged unjudged = tt
all_parts g s fits k m (more_ranges r rs) judged unjudged = (
  one_part g s (mode_of_part fits k m) r
      (λ is. let both = judged is in (neither_left (range_misfits g (mode_of_part fits k m) r) (ranges_misfit g fits (suc k) m rs) both.0, none_first (told_part_range g (mode_of_part fits k m) r) (told_parts g fits (suc k) m rs) both.1))
      (λ is. neither_left (one_misfits g (mode_of_part fits k m) r) (some_misfits g fits (suc k) m rs) (unjudged is)),
  all_parts g s fits (suc k) m rs
      (λ is. let both = judged is in (neither_right (range_misfits g (mode_of_part fits k m) r) (ranges_misfit g fits (suc k) m rs) both.0, none_later (told_part_range g (mode_of_part fits k m) r) (told_parts g fits (suc k) m rs) both.1))
      (λ is. neither_right (one_misfits g (mode_of_part fits k m) r) (some_misfits g fits (suc k) m rs) (unjudged is)),
)

-- ---- lists of ranges

record BehindIs {A : Type 0} (a : Option A) (b : Option (List A)) (ys : List A) : Type 0 where
  first : A
  later : List A
  of_first : a ≡ Some first
  of_later : b ≡ Some later
  are : ys ≡ first ∷ later

behind_is : {A : Type 0} (a : Option A) (b : Option (List A)) (ys : List A) → behind a b ≡ Some ys → BehindIs a b ys
behind_is (Some a) (Some b) ys is = record { first = a; later = b; of_first = refl; of_later = refl; are = sym (same_some (a ∷ b) ys is) }
behind_is None b ys is = no_some ys is
behind_is (Some a) None ys is = no_some ys is

first_end : (l h : Option ValueTree) (r : ValueTree × ValueTree) → both_ends l h ≡ Some r → l ≡ Some r.0
first_end (Some l) (Some h) r is = ap (λ (x : ValueTree × ValueTree). Some x.0) (same_some (l, h) r is)
first_end None h r is = no_some r is
first_end (Some l) None r is = no_some r is

-- a part of a tuple's mode is received
part_here : (fits : FormTree → Bool) (k : ℕ) (own m : ModeTree) → fits (form_of own) ≡ true → part_mode k (form_of own) ≡ Some m → mode_of_part fits k (Some own) ≡ Some m
part_here fits k own m form is = ap (λ b. if b then part_mode k (form_of own) else None) form ∙ is

by_itself_received : IsReceived by_itself None
by_itself_received = record { there = λ apart. absurd (true≢false apart); fits = λ k is. no_some k is }

never : (g : Ground) (e : ExprTree) → FitsSynonym g by_itself None e
never g e is = absurd (true≢false (sym is))

in_place : (g : Ground) (s : Standing) (e : ExprTree) → is_by_itself s ≡ false → has_form g true e ≡ true → has_form g (not (is_by_itself s)) e ≡ true
in_place g s e apart form = ap (λ b. has_form g (not b) e) apart ∙ form

-- a part's mode is one that a location may have
part_declared : (fits : FormTree → Bool) (j : ℕ) (own m : ModeTree) → IsDeclarable own → fits (form_of own) ≡ true → mode_of_part fits j (Some own) ≡ Some m → IsDeclarable m
part_declared fits j own m declared form is = part_fits (form_of own) j m (form_is own declared) (sym (ap (λ b. if b then part_mode j (form_of own) else None) form) ∙ is)

some_part_declared : (fits : FormTree → Bool) (j : ℕ) (k : Option ModeTree) (own m : ModeTree) → k ≡ Some own → IsDeclarable own → fits (form_of own) ≡ true → mode_of_part fits j k ≡ Some m → IsDeclarable m
some_part_declared fits j k own m has declared form is = part_declared fits j own m declared form (sym (ap (mode_of_part fits j) has) ∙ is)

mode_declared : (g : Ground) (s : Standing) (n : Option Name) (m : Option ModeTree) (own : ModeTree) → AreNamesFit g (some_name n) → IsReceived s m → tuple_mode g n m ≡ Some own → IsDeclarable own
mode_declared g s (Some n) m own fit received is = fit.0.modes.own own is
mode_declared g s None m own fit received is = received.fits own is

-- a part whose value is one of its class's mode is one of the part's
part_by : (g : Ground) (s : Standing) (part : Option ModeTree) (m : ModeTree) (e : ExprTree) (v : ValueTree) → AreNamesFit g (names_in e) → part ≡ Some m → IsDeclarable m → PartFits g s part e → told_as g s part e ≡ [] → has_form g true e ≡ true → constant_as g part e ≡ Some v
    → ((c : ClassTree) → IsReceived s part → class_as g part e ≡ Some c → FitsClass c v) → IsOfMode m v
part_by g s None m e v fit is declared fits none form made of = no_some m is
part_by g s (Some k) m e v fit is declared fits none form made of =
    let class = some_class g s true (Some k) e v fit none form made in
    let received : IsReceived s (Some k) = record { there = λ apart. refl; fits = λ j same. subst IsDeclarable (sym (same_some k m is) ∙ same_some k j same) declared } in
    subst (λ j. IsOfMode j v) (same_some k m is) (part_of_mode g s k e class.0 v fits class.1 made (of class.0 received class.1))

first_declared : (g : Ground) (es : ExprNodes) (c : ClassTree) → AreNamesFit g (names_in_each es) → HaveShortTexts es → class_of_first g es ≡ Some c → HasDeclarable c
first_declared g no_exprs c fit short is = no_some c is
first_declared g (more_exprs e es) c fit short is = class_mode g None e c (have_all g (names_in e) (fit_first g (names_in e) (names_in_each es) fit)) short.0 no_receiver is

-- ---- the law

module _ (g : Ground) where
  mutual
    expr_fits : (s : Standing) (m : Option ModeTree) (e : ExprTree) (c : ClassTree) (v : ValueTree) → AreNamesFit g (names_in e) → HasShortTexts e → HasBytes e → IsReceived s m → FitsSynonym g s m e → told_as g s m e ≡ [] → has_form g (not (is_by_itself s)) e ≡ true → class_as g m e ≡ Some c → constant_as g m e ≡ Some v → FitsClass c v
    expr_fits s m (whole at n) c v fit short few received judged none form is made = let i = in_int_fits (pos n) v made in literal_class int c v is (int_fits (derived int) v refl refl i)
    expr_fits s m (character at n) c v fit short few received judged none form is made = literal_class char c v is (subst (IsOfMode char) (same_some (number (pos n)) v made) (byte_between n few))
    expr_fits s m (text at bytes) c v fit short few received judged none form is made = literal_class (chars (length bytes)) c v is (subst (IsOfMode (chars (length bytes))) (same_some (parts (value_nodes (map (λ b. number (pos b)) bytes))) v made) (bytes_are bytes few))
    expr_fits s m (this_instance at) c v fit short few received judged none form is made = no_some v made
    expr_fits s m (paren at e) c v fit short few received judged none form is made = expr_fits s m e c v fit short few received judged none form is made
    expr_fits s m (receive at n) c v fit short few received judged none form is made = no_some v made
    expr_fits s m (start at n es) c v fit short few received judged none form is made = no_some v made
    expr_fits s m (tuple at n b rs) c v fit short few received judged none form is made =
        let k = tuple_mode g n m in
        let t = tuple_is (shape_fits rs) k c is in
        let head = both_left (not (is_by_itself s) || is_some n) (have_form g rs) form in
        let parts_form = both_right (not (is_by_itself s) || is_some n) (have_form g rs) form in
        let p = parts_stand (λ x. told_in_ranges g x (shape_fits rs) 0 k rs) (told_tuple g k rs b) s n (have_form g rs) parts_form head none in
        let misfits = ranges_misfit g (shape_fits rs) 0 k rs in
        let own_told = told_misfit (shape_fits rs) k misfits b in
        let judged_parts : is_in_synonym p.standing ≡ false → (misfits ≡ false) × (told_parts g (shape_fits rs) 0 k rs ≡ [])
        = λ apart. (told_parts_fit (shape_fits rs) t.mode misfits b (subst (λ x. told_misfit (shape_fits rs) x misfits b ≡ []) t.is (none_first own_told (told_parts g (shape_fits rs) 0 k rs) (p.judged apart))), none_later own_told (told_parts g (shape_fits rs) 0 k rs) (p.judged apart)) in
        let unjudged_parts : is_in_synonym p.standing ≡ true → some_misfits g (shape_fits rs) 0 k rs ≡ false
        = λ at_it. neither_right (holds_of (λ m. not (shape_fits rs (form_of m))) k) (some_misfits g (shape_fits rs) 0 k rs) (tuple_judged g n m at b rs (p.unjudged at_it).0 (judged (p.unjudged at_it).1)) in
        let own = mode_declared g s n m t.mode (fit_first g (some_name n) (names_in_ranges rs) fit) received t.is in
        let inner = fit_later g (some_name n) (names_in_ranges rs) fit in
        tuple_fits rs k (values_of_ranges g (shape_fits rs) 0 k rs) c v t
        (λ ranges made_of.
        let each = ranges_fit p.standing (shape_fits rs) 0 k t.mode rs ranges inner short few t.is own t.form p.apart (all_parts g p.standing (shape_fits rs) 0 k rs judged_parts unjudged_parts) p.clean parts_form made_of in
        (each.0, λ x same. subst (λ y. AreFrom (λ j. part_mode j (form_of y)) 0 ranges) (same_some t.mode x (sym t.is ∙ same)) each.1)) made
    expr_fits s m (uniform at n b e) c v fit short few received judged none form is made =
        let k = tuple_mode g n m in
        let part = mode_of_part uniform_fits 0 k in
        let t = tuple_is uniform_fits k c is in
        let head = both_left (not (is_by_itself s) || is_some n) (has_form g true e) form in
        let part_form = both_right (not (is_by_itself s) || is_some n) (has_form g true e) form in
        let p = parts_stand (λ x. told_as g x part e) (told_uniform g k e b) s n (has_form g true e) part_form head none in
        let misfits = class_misfits g part e in
        let own_told = told_misfit uniform_fits k misfits b in
        let judged_part : is_in_synonym p.standing ≡ false → (misfits ≡ false) × (value_misfits g part e ≡ false)
        = λ apart. (told_parts_fit uniform_fits t.mode misfits b (subst (λ x. told_misfit uniform_fits x misfits b ≡ []) t.is (none_first own_told (told_part g part e) (p.judged apart))), not_broken (value_misfits g part e) (tell_at rules.M11 (place_of e)) (none_later own_told (told_part g part e) (p.judged apart))) in
        let unjudged_part : is_in_synonym p.standing ≡ true → misfits_as g part e ≡ false
        = λ at_it. neither_right (holds_of (λ m. not (uniform_fits (form_of m))) k) (misfits_as g part e) (uniform_judged g n m at b e (p.unjudged at_it).0 (judged (p.unjudged at_it).1)) in
        let own = mode_declared g s n m t.mode (fit_first g (some_name n) (names_in e) fit) received t.is in
        let inner = fit_later g (some_name n) (names_in e) fit in
        uniform_value_fits k (constant_as g part e) c v t
        (λ y pm made_of is_part. part_by g p.standing part pm e y inner is_part (some_part_declared uniform_fits 0 k t.mode pm t.is own t.form is_part) (record { judged = judged_part; unjudged = unjudged_part }) p.clean part_form made_of
        (λ d received_part class. expr_fits p.standing part e d y inner short few received_part unjudged_part p.clean (in_place g p.standing e p.apart part_form) class made_of)) made
    expr_fits s m (name n) c v fit short few received judged none form is made = fit.0.value c v is made
    expr_fits s m (apply at e es) c v fit short few received judged none form is made =
        let at_it = when_routine (value_routine (callee_of g e)) (λ p. at_call g (place_of e) p es) in
        let inside = none_later (told_as g by_itself None e) (then_told (told_in_each g es) at_it) none in
        let later = fit_later g (names_in e) (names_in_each es) fit in
        behind_fits g es c v (λ d first. first_declared g es d later short.1 first) (first_measures g es later) (callee_of g e) (result_class g e) (class_of g e) (λ arguments. first_fits es later short.1 few.1 (none_inside (told_in_each g es) at_it inside) arguments) form is made
    expr_fits s m (field at e n) c v fit short few received judged none form is made = no_some v made
    expr_fits s m (prefixed at prefixes.Minus e) c v fit short few received judged none form is made =
        let there = there_chained (class_of_unary prefixes.Minus) (class_of g e) c is in
        minus_fits e there.0 c (constant_of g e) v there.2 made
    expr_fits s m (prefixed at prefixes.Not e) c v fit short few received judged none form is made =
        let there = there_chained (class_of_unary prefixes.Not) (class_of g e) c is in
        let clean = none_inside (told_as g by_itself None e) (told_if_constant (has_form g false e) (told_unary g at prefixes.Not e)) none in
        not_fits e there.0 c (constant_of g e) v there.2 (λ y own. expr_fits by_itself None e there.0 y fit short few by_itself_received (never g e) clean form there.1 own) made
    expr_fits s m (binary at l o p r) c v fit short few received judged none form is made =
        let inside = told_as g by_itself None l ++ told_as g by_itself None r in
        let at_it = told_if_constant (has_form g false l && has_form g false r) (told_binary g p o l r) in
        let clean = none_inside inside at_it none in
        operands_fit o (class_of g l) (class_of g r) (constant_of g l) (constant_of g r) c v
        (λ k y class own. expr_fits by_itself None l k y (fit_first g (names_in l) (names_in r) fit) short.0 few.0 by_itself_received (never g l) (none_first (told_as g by_itself None l) (told_as g by_itself None r) clean) (both_left (has_form g false l) (has_form g false r) form) class own)
        (λ k y class own. expr_fits by_itself None r k y (fit_later g (names_in l) (names_in r) fit) short.1 few.1 by_itself_received (never g r) (none_later (told_as g by_itself None l) (told_as g by_itself None r) clean) (both_right (has_form g false l) (has_form g false r) form) class own) is made

    first_fits : (es : ExprNodes) → AreNamesFit g (names_in_each es) → HaveShortTexts es → HaveBytes es → told_in_each g es ≡ [] → are_arguments g false es ≡ true → ArgumentFits g es
    first_fits no_exprs fit short few none form c v is made = no_some c is
    first_fits (more_exprs e es) fit short few none form c v is made = expr_fits by_itself None e c v (fit_first g (names_in e) (names_in_each es) fit) short.0 few.0 by_itself_received (never g e) (none_first (told_as g by_itself None e) (told_in_each g es) none) (both_left (has_form g false e) (are_arguments g false es) form) is made

    ranges_fit : (s : Standing) (fits : FormTree → Bool) (k : ℕ) (m : Option ModeTree) (own : ModeTree) (rs : RangeNodes) (ranges : List (ValueTree × ValueTree)) → AreNamesFit g (names_in_ranges rs) → RangesHaveShortTexts rs → RangesHaveBytes rs → m ≡ Some own → IsDeclarable own → fits (form_of own) ≡ true → is_by_itself s ≡ false
        → AllParts g s fits k m rs → told_in_ranges g s fits k m rs ≡ [] → have_form g rs ≡ true → values_of_ranges g fits k m rs ≡ Some ranges → (length ranges ≡ count_ranges rs) × AreFrom (λ j. part_mode j (form_of own)) k ranges
    ranges_fit s fits k m own no_ranges ranges fit short few is declared shape apart all none form made = subst (λ ys. (length ys ≡ 0) × AreFrom (λ j. part_mode j (form_of own)) k ys) (same_some [] ranges made) (refl, tt)
    ranges_fit s fits k m own (more_ranges r rs) ranges fit short few is declared shape apart all none form made =
        let part = mode_of_part fits k m in
        let b = behind_is (value_of_range g part r) (values_of_ranges g fits (suc k) m rs) ranges made in
        let rest = ranges_fit s fits (suc k) m own rs b.later (fit_later g (names_in_range r) (names_in_ranges rs) fit) short.1 few.1 is declared shape apart all.1 (none_later (told_in_range g s part r) (told_in_ranges g s fits (suc k) m rs) none) (both_right (range_has_form g r) (have_form g rs) form) b.of_later in
        let here : (x : ModeTree) → part_mode k (form_of own) ≡ Some x → IsOfMode x b.first.0
        = λ x has.
        let at_part : part ≡ Some x = ap (mode_of_part fits k) is ∙ part_here fits k own x shape has in
        range_fit s part x r b.first (fit_first g (names_in_range r) (names_in_ranges rs) fit) short.0 few.0 at_part (some_part_declared fits k m own x is declared shape at_part) apart all.0 (none_first (told_in_range g s part r) (told_in_ranges g s fits (suc k) m rs) none) (both_left (range_has_form g r) (have_form g rs) form) b.of_first in
        subst (λ ys. (length ys ≡ suc (count_ranges rs)) × AreFrom (λ j. part_mode j (form_of own)) k ys) (sym b.are) (ap suc rest.0, (here, rest.1))

    range_fit : (s : Standing) (part : Option ModeTree) (m : ModeTree) (r : RangeTree) (ends : ValueTree × ValueTree) → AreNamesFit g (names_in_range r) → RangeHasShortTexts r → RangeHasBytes r → part ≡ Some m → IsDeclarable m → is_by_itself s ≡ false
        → RangePart g s part r → told_in_range g s part r ≡ [] → range_has_form g r ≡ true → value_of_range g part r ≡ Some ends → IsOfMode m ends.0
    range_fit s part m (alone e) ends fit short few is declared apart fits none form made =
        let first = first_end (constant_as g part e) (constant_as g part e) ends made in
        part_by g s part m e ends.0 fit is declared fits none form first (λ d received_part class. expr_fits s part e d ends.0 fit short few received_part fits.unjudged none (in_place g s e apart form) class first)
    range_fit s part m (between l h) ends fit short few is declared apart fits none form made =
        let first = first_end (constant_as g part l) (constant_as g part h) ends made in
        let clean = none_first (told_as g s part l) (told_as g s part h) none in
        let own = both_left (has_form g true l) (has_form g true h) form in
        part_by g s part m l ends.0 (fit_first g (names_in l) (names_in h) fit) is declared fits.0 clean own first (λ d received_part class. expr_fits s part l d ends.0 (fit_first g (names_in l) (names_in h) fit) short.0 few.0 received_part fits.0.unjudged clean (in_place g s l apart own) class first)

pub constant_fits : ConstantFitsLaw
constant_fits g s m e c v fit short few received judged none form is made = expr_fits g s m e c v fit short few received judged none form is made
