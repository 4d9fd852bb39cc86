-- What is found of a tuple without a mode's name that goes to a mode, by what is found of its parts.
use Rattle.std.proofs.Common.{◌≡◌, ℕ, suc, Bool, true, false, List, [], ◌∷◌, ◌++◌, Option, Some, None, ℤ, refl, ap, sym, ◌∙◌}
use Rattle.std.specs.Prelude.{◌&&◌, ◌||◌, not, if◌then◌else◌}
use Rattle.std.proofs.lemmas.Bool.{false≢true}
use Rattle.chill_base.specs.declared.pos.Pos.{Pos}
use Rattle.chill_tree.specs.ExprTree.{ExprTree, RangeTree, RangeNodes, tuple, uniform, alone, between, no_ranges, more_ranges}
use Rattle.diagnostics.specs.declared.diagnostic.Diagnostic.{Diagnostic}
use Rattle.diagnostics.specs.declared.rule.Rule.TheVariants as rules
use Rattle.modes.specs.ModeTree.{ModeTree, value}
use Rattle.modes.specs.Form.{FormTree, form_of}
use Rattle.modes.proofs.SimilarLemmas.{both}
use Rattle.checks_model.specs.Told.{tell_at, told_if, then_told, is_none_told}
use Rattle.checks_model.specs.Ground.{Ground}
use Rattle.checks_model.specs.Operations.{when}
use Rattle.checks_model.specs.Classes.{class_as, mode_of_part, shape_fits, uniform_fits, value_if}
use Rattle.checks_model.specs.Constants.{constant_as, has_form, have_form}
use Rattle.checks_model.specs.ConstantRules.{in_a_tuple, in_a_synonym, told_as, told_in_ranges, told_misfit, told_tuple, told_uniform, told_parts, told_if_constant, misfits_as, some_misfits, ranges_misfit, standing_of_parts, is_judged}
use Rattle.member_laws.proofs.Bits.{union_members}
use Rattle.constant_rules.specs.declared.parts.Blame.{Blame}
use Rattle.constant_rules.specs.declared.parts.Blame.TheVariants as blames
use Rattle.constant_rules.specs.declared.parts.Part.{Part}
use Rattle.constant_rules.specs.declared.parts.Span.{Span}
use Rattle.constant_rules.specs.declared.parts.Tupled.{Tupled}
use Rattle.constant_rules.specs.declared.parts.Tupled.TheVariants as tupled
use Rattle.constant_rules.specs.Parts.{all_pass, passes, last_passes, clean_part, going_part, inside_part, told_of_spans, flat_of_spans, few_in, told_where, is_whole, where_clean, IsTupledOf, Judges}
use Rattle.constant_rules.specs.Tuples.{IsLast, IsSpan, AreSpans, IsCleanPart, IsPart, IsTupled, FindsSpans, FindsTupled, standing_of, told_in_part}
use Rattle.constant_rules.proofs.Finding.{none_both, none_then, in_turn}
use Rattle.constant_rules.proofs.SpanLists.{spans_told, none_in_ranges, class_goes, classes_go, value_lies, values_lie, all_fits, ranges_fit, clean_told, clean_spans, spans_outside, none_of_one, twice_not}
use Rattle.constant_rules.proofs.Members.{IsHeld}
use Rattle.constant_rules.proofs.TupleValues.{IsTupleValue, spans_made}

-- ---- what is told of a tuple of constants, by what is told in its parts and what is told else

abbrev pub own_told : Blame → List Diagnostic → List Diagnostic
own_told blames.Each own = own
own_told blames.Whole own = []

pub parts_told : (g : Ground) (blame : Blame) (m : ModeTree) (at b : Pos) (rs : RangeNodes) → have_form g rs ≡ true
    → told_in_part g blame (Some m) (tuple at None b rs) ≡ then_told (told_in_ranges g (standing_of blame) (shape_fits rs) 0 (Some m) rs) (own_told blame (told_tuple g (Some m) rs b))
parts_told g blames.Each m at b rs form =
    ap (λ (f : Bool). then_told (told_in_ranges g (standing_of_parts in_a_tuple None f) (shape_fits rs) 0 (Some m) rs) (told_if_constant (is_judged in_a_tuple None f) (told_tuple g (Some m) rs b))) form
parts_told g blames.Whole m at b rs form =
    ap (λ (f : Bool). then_told (told_in_ranges g (standing_of_parts in_a_synonym None f) (shape_fits rs) 0 (Some m) rs) (told_if_constant (is_judged in_a_synonym None f) (told_tuple g (Some m) rs b))) form

pub value_told : (g : Ground) (blame : Blame) (m : ModeTree) (at b : Pos) (e : ExprTree) → has_form g true e ≡ true
    → told_in_part g blame (Some m) (uniform at None b e) ≡ then_told (told_in_part g blame (mode_of_part uniform_fits 0 (Some m)) e) (own_told blame (told_uniform g (Some m) e b))
value_told g blames.Each m at b e form =
    ap (λ (f : Bool). then_told (told_as g (standing_of_parts in_a_tuple None f) (mode_of_part uniform_fits 0 (Some m)) e) (told_if_constant (is_judged in_a_tuple None f) (told_uniform g (Some m) e b))) form
value_told g blames.Whole m at b e form =
    ap (λ (f : Bool). then_told (told_as g (standing_of_parts in_a_synonym None f) (mode_of_part uniform_fits 0 (Some m)) e) (told_if_constant (is_judged in_a_synonym None f) (told_uniform g (Some m) e b))) form

-- ---- a tuple that is judged, in general

where_same : (blame : Blame) (clean c : Bool) (xs ys : List Diagnostic) → clean ≡ c → (c ≡ true → told_where blame xs ≡ own_told blame ys) → where_clean clean (told_where blame xs) ≡ (if c then own_told blame ys else [])
where_same blame clean c xs ys e same = ap (λ (b : Bool). where_clean b (told_where blame xs)) e ∙ by_clean c same
  where
    by_clean : (c : Bool) → (c ≡ true → told_where blame xs ≡ own_told blame ys) → where_clean c (told_where blame xs) ≡ (if c then own_told blame ys else [])
    by_clean true same = same refl
    by_clean false same = refl

-- what is told behind what is told in the parts
pub judged_told : (blame : Blame) (inside own xs told : List Diagnostic) (clean fits few : Bool) (v : Option (List ℤ)) (t : Tupled) (old : List Diagnostic) {mid new : List Diagnostic}
    → told ≡ then_told inside (own_told blame own) → mid ≡ old ++ inside → clean ≡ is_none_told inside → (is_none_told inside ≡ true → told_where blame xs ≡ own_told blame own) → Judges blame clean fits few xs v mid new t → new ≡ old ++ told
judged_told blame inside own xs told clean fits few v t old is so_far none same h =
    in_turn inside (where_clean clean (told_where blame xs)) old so_far h.told
    ∙ ap (λ (ys : List Diagnostic). old ++ (inside ++ ys)) (where_same blame clean (is_none_told inside) xs own none same)
    ∙ ap (λ (ys : List Diagnostic). old ++ ys) (sym is)

and_so : (a b c : Bool) → (a ≡ true → b ≡ c) → (a && b) ≡ (a && c)
and_so true b c same = same refl
and_so false b c same = refl

or_true : (b : Bool) → (b || true) ≡ true
or_true true = refl
or_true false = refl

or_false : (b : Bool) → (b || false) ≡ b
or_false true = refl
or_false false = refl

-- whether nothing is told
pub judged_none : (blame : Blame) (inside own told : List Diagnostic) (clean fits : Bool) → told ≡ then_told inside (own_told blame own) → clean ≡ is_none_told inside → (blame ≡ blames.Each → is_none_told inside ≡ true → is_none_told own ≡ fits)
    → is_none_told told ≡ (clean && (fits || is_whole blame))
judged_none blames.Each inside own told clean fits is none own_none =
    ap is_none_told is ∙ none_then inside own ∙ and_so (is_none_told inside) (is_none_told own) fits (own_none refl) ∙ (λ i. sym none i && sym (or_false fits) i)
judged_none blames.Whole inside own told clean fits is none own_none =
    ap is_none_told is ∙ none_then inside [] ∙ (λ i. sym none i && sym (or_true fits) i)

-- what comes of a tuple, where its class and its value are known where it fits
pub judged_tupled : (g : Ground) (blame : Blame) (m : ModeTree) (x : ExprTree) (clean fits few : Bool) (v : Option (List ℤ)) (t : Tupled) → is_none_told (told_in_part g blame (Some m) x) ≡ (clean && (fits || is_whole blame))
    → (clean ≡ true → fits ≡ true → few ≡ true → (class_as g (Some m) x ≡ Some (value m)) × IsTupleValue m v (constant_as g (Some m) x)) → (blame ≡ blames.Whole → clean ≡ true → misfits_as g (Some m) x ≡ not fits) → IsTupledOf blame clean fits few v t → IsTupled g blame m x t
judged_tupled g blame m x clean fits few v (tupled.Fits w) none made misfits h =
    let own = made h.0 h.1 h.2 in
    record {
      clean = none ∙ (λ i. h.0 i && (h.1 i || is_whole blame));
      class = own.0;
      value = h.3 ∙ own.1.scalars;
      within = own.1.within;
      judged = λ whole. misfits whole h.0 ∙ ap not h.1;
    }
judged_tupled g blames.Each m x clean fits few v tupled.Misfit none made misfits h = absurd (false≢true h.2)
judged_tupled g blames.Whole m x clean fits few v tupled.Misfit none made misfits h =
    (none ∙ (λ i. h.0 i && or_true fits i), refl, misfits refl h.0 ∙ ap not h.1)
judged_tupled g blame m x clean fits few v tupled.Told none made misfits h = none ∙ h

-- ---- a tuple of parts that has the form of its mode

passes_both : (f h : Part → Bool) (s : Span) → (passes f s && passes h s) ≡ passes (λ p. f p && h p) s
passes_both f h s = by_parts (f s.first) (h s.first) s.last
  where
    four : (a b c d : Bool) → ((a && c) && (b && d)) ≡ ((a && b) && (c && d))
    four true true c d = refl
    four true false true d = refl
    four true false false d = refl
    four false b c d = refl

    by_parts : (a b : Bool) (o : Option Part) → ((a && last_passes f o) && (b && last_passes h o)) ≡ ((a && b) && last_passes (λ p. f p && h p) o)
    by_parts a b None = four a b true true
    by_parts a b (Some p) = four a b (f p) (h p)

all_both : (f h : Part → Bool) (ss : List Span) → (all_pass f ss && all_pass h ss) ≡ all_pass (λ p. f p && h p) ss
all_both f h [] = refl
all_both f h (s ∷ ss) = four (passes f s) (passes h s) (all_pass f ss) (all_pass h ss) ∙ (λ i. passes_both f h s i && all_both f h ss i)
  where
    four : (a b c d : Bool) → ((a && c) && (b && d)) ≡ ((a && b) && (c && d))
    four true true c d = refl
    four true false true d = refl
    four true false false d = refl
    four false b c d = refl

-- parts that fit hold their values
held_last : (g : Ground) (blame : Blame) (m : Option ModeTree) (x : ExprTree) (o : Option Part) → last_passes (λ p. going_part p && inside_part p) o ≡ true → IsLast (IsCleanPart g blame) m x o → IsLast (IsHeld g) m x o
held_last g blame m x None fit h = absurd h
held_last g blame m x (Some p) fit h = record { value = h.value fit; within = h.within fit }

held_span : (g : Ground) (blame : Blame) (m : Option ModeTree) (r : RangeTree) (s : Span) → passes (λ p. going_part p && inside_part p) s ≡ true → IsSpan (IsCleanPart g blame) m r s → IsSpan (IsHeld g) m r s
held_span g blame m (alone e) s fit h = let t = both (going_part s.first && inside_part s.first) (last_passes (λ p. going_part p && inside_part p) s.last) fit in (record { value = h.0.value t.0; within = h.0.within t.0 }, h.1)
held_span g blame m (between l u) s fit h = let t = both (going_part s.first && inside_part s.first) (last_passes (λ p. going_part p && inside_part p) s.last) fit in (record { value = h.0.value t.0; within = h.0.within t.0 }, held_last g blame m u s.last t.1 h.1)

held_spans : (g : Ground) (blame : Blame) (fits : FormTree → Bool) (k : ℕ) (m : Option ModeTree) (rs : RangeNodes) (ss : List Span) → all_pass (λ p. going_part p && inside_part p) ss ≡ true → AreSpans (IsCleanPart g blame) fits k m rs ss → AreSpans (IsHeld g) fits k m rs ss
held_spans g blame fits k m no_ranges [] fit h = tt
held_spans g blame fits k m no_ranges (s ∷ ss) fit h = absurd h
held_spans g blame fits k m (more_ranges r rs) [] fit h = absurd h
held_spans g blame fits k m (more_ranges r rs) (s ∷ ss) fit h = let t = both (passes (λ p. going_part p && inside_part p) s) (all_pass (λ p. going_part p && inside_part p) ss) fit in
    (held_span g blame (mode_of_part fits k m) r s t.0 h.0, held_spans g blame fits (suc k) m rs ss t.1 h.1)

pub misfit_none : (fits : FormTree → Bool) (m : ModeTree) (misfits : Bool) (at : Pos) → fits (form_of m) ≡ true → told_misfit fits (Some m) misfits at ≡ told_if misfits (tell_at rules.M10 at)
misfit_none fits m misfits at fit = ap (λ (b : Bool). told_if (not b || misfits) (tell_at rules.M10 at)) fit

pub class_here : (fits : FormTree → Bool) (m : ModeTree) → fits (form_of m) ≡ true → value_if fits m ≡ Some (value m)
class_here fits m fit = ap (λ (b : Bool). when b (value m)) fit

going_told : (g : Ground) (fits : FormTree → Bool) (k : ℕ) (m : Option ModeTree) (rs : RangeNodes) (ss : List Span) → AreSpans (IsCleanPart g blames.Each) fits k m rs ss → all_pass going_part ss ≡ not (ranges_misfit g fits k m rs)
going_told g fits k m rs ss h = spans_told {P = IsCleanPart g blames.Each} going_part (class_goes g) (λ m x part p. p.judged.0) fits k m rs ss h ∙ sym (classes_go g fits k m rs)

inside_told : (g : Ground) (fits : FormTree → Bool) (k : ℕ) (m : Option ModeTree) (rs : RangeNodes) (ss : List Span) → AreSpans (IsCleanPart g blames.Each) fits k m rs ss → all_pass inside_part ss ≡ is_none_told (told_parts g fits k m rs)
inside_told g fits k m rs ss h = spans_told {P = IsCleanPart g blames.Each} inside_part (value_lies g) (λ m x part p. p.judged.1) fits k m rs ss h ∙ sym (values_lie g fits k m rs)

fitting_told : (g : Ground) (fits : FormTree → Bool) (k : ℕ) (m : Option ModeTree) (rs : RangeNodes) (ss : List Span) → AreSpans (IsCleanPart g blames.Whole) fits k m rs ss → all_pass (λ p. going_part p && inside_part p) ss ≡ not (some_misfits g fits k m rs)
fitting_told g fits k m rs ss h = spans_told {P = IsCleanPart g blames.Whole} (λ p. going_part p && inside_part p) (all_fits g) (λ m x part p. p.judged) fits k m rs ss h ∙ sym (ranges_fit g fits k m rs)

tuple_same : (g : Ground) (m : ModeTree) (rs : RangeNodes) (b : Pos) (ss : List Span) → shape_fits rs (form_of m) ≡ true → AreSpans (IsCleanPart g blames.Each) (shape_fits rs) 0 (Some m) rs ss → told_of_spans b ss ≡ told_tuple g (Some m) rs b
tuple_same g m rs b ss fit h =
    (λ i. told_if ((ap not (going_told g (shape_fits rs) 0 (Some m) rs ss h) ∙ twice_not (ranges_misfit g (shape_fits rs) 0 (Some m) rs)) i) (tell_at rules.M10 b) ++ spans_outside g (shape_fits rs) 0 (Some m) rs ss h i)
    ∙ ap (λ (xs : List Diagnostic). xs ++ told_parts g (shape_fits rs) 0 (Some m) rs) (sym (misfit_none (shape_fits rs) m (ranges_misfit g (shape_fits rs) 0 (Some m) rs) b fit))

tuple_none : (g : Ground) (m : ModeTree) (rs : RangeNodes) (b : Pos) (ss : List Span) → shape_fits rs (form_of m) ≡ true → AreSpans (IsCleanPart g blames.Each) (shape_fits rs) 0 (Some m) rs ss → is_none_told (told_tuple g (Some m) rs b) ≡ (all_pass going_part ss && all_pass inside_part ss)
tuple_none g m rs b ss fit h =
    none_both (told_misfit (shape_fits rs) (Some m) (ranges_misfit g (shape_fits rs) 0 (Some m) rs) b) (told_parts g (shape_fits rs) 0 (Some m) rs)
    ∙ (λ i. (ap is_none_told (misfit_none (shape_fits rs) m (ranges_misfit g (shape_fits rs) 0 (Some m) rs) b fit) ∙ none_of_one (ranges_misfit g (shape_fits rs) 0 (Some m) rs) (tell_at rules.M10 b) ∙ sym (going_told g (shape_fits rs) 0 (Some m) rs ss h)) i
    && sym (inside_told g (shape_fits rs) 0 (Some m) rs ss h) i)

not_true : (b : Bool) → (not true || b) ≡ b
not_true b = refl

pub tuple_found : (g : Ground) (blame : Blame) (m : ModeTree) (at b : Pos) (rs : RangeNodes) (ss : List Span) (old : List Diagnostic) {mid new : List Diagnostic} {t : Tupled} → have_form g rs ≡ true → shape_fits rs (form_of m) ≡ true → FindsSpans g blame m rs old mid ss
    → Judges blame (all_pass clean_part ss) (all_pass going_part ss && all_pass inside_part ss) (few_in (form_of m)) (told_of_spans b ss) (flat_of_spans (form_of m) ss) mid new t → FindsTupled g blame m (tuple at None b rs) old new t
tuple_found g blame m at b rs ss old {mid} {new} {t} form fit f h =
    let inside = told_in_ranges g (standing_of blame) (shape_fits rs) 0 (Some m) rs in
    let clean = clean_told g blame (shape_fits rs) 0 (Some m) rs ss f.known in
    let told = parts_told g blame m at b rs form in
    record {
      told = judged_told blame inside (told_tuple g (Some m) rs b) (told_of_spans b ss) (told_in_part g blame (Some m) (tuple at None b rs)) (all_pass clean_part ss) (all_pass going_part ss && all_pass inside_part ss) (few_in (form_of m)) (flat_of_spans (form_of m) ss) t old
          told f.told clean (λ none. same blame f.known none) h;
      tupled = judged_tupled g blame m (tuple at None b rs) (all_pass clean_part ss) (all_pass going_part ss && all_pass inside_part ss) (few_in (form_of m)) (flat_of_spans (form_of m) ss) t
          (judged_none blame inside (told_tuple g (Some m) rs b) (told_in_part g blame (Some m) (tuple at None b rs)) (all_pass clean_part ss) (all_pass going_part ss && all_pass inside_part ss) told clean (λ each none. none_told blame f.known each none))
          (λ is fits few. (class_here (shape_fits rs) m fit, spans_made union_members g m rs ss fit few (held_spans g blame (shape_fits rs) 0 (Some m) rs ss (sym (all_both going_part inside_part ss) ∙ fits) (cleaned blame f.known (sym clean ∙ is)))))
          (λ whole is. misfits blame whole f.known (sym clean ∙ is))
          h.tupled;
    }
  where
    cleaned : (blame : Blame) → AreSpans (IsPart g blame) (shape_fits rs) 0 (Some m) rs ss → is_none_told (told_in_ranges g (standing_of blame) (shape_fits rs) 0 (Some m) rs) ≡ true → AreSpans (IsCleanPart g blame) (shape_fits rs) 0 (Some m) rs ss
    cleaned blame h none = clean_spans g blame (shape_fits rs) 0 (Some m) rs ss (sym (none_in_ranges g blame (shape_fits rs) 0 (Some m) rs) ∙ none) h

    same : (blame : Blame) → AreSpans (IsPart g blame) (shape_fits rs) 0 (Some m) rs ss → is_none_told (told_in_ranges g (standing_of blame) (shape_fits rs) 0 (Some m) rs) ≡ true → told_where blame (told_of_spans b ss) ≡ own_told blame (told_tuple g (Some m) rs b)
    same blames.Each h none = tuple_same g m rs b ss fit (cleaned blames.Each h none)
    same blames.Whole h none = refl

    none_told : (blame : Blame) → AreSpans (IsPart g blame) (shape_fits rs) 0 (Some m) rs ss → blame ≡ blames.Each → is_none_told (told_in_ranges g (standing_of blame) (shape_fits rs) 0 (Some m) rs) ≡ true → is_none_told (told_tuple g (Some m) rs b) ≡ (all_pass going_part ss && all_pass inside_part ss)
    none_told blames.Each h each none = tuple_none g m rs b ss fit (cleaned blames.Each h none)
    none_told blames.Whole h each none = absurd (cc)

    misfits : (blame : Blame) → blame ≡ blames.Whole → AreSpans (IsPart g blame) (shape_fits rs) 0 (Some m) rs ss → is_none_told (told_in_ranges g (standing_of blame) (shape_fits rs) 0 (Some m) rs) ≡ true → misfits_as g (Some m) (tuple at None b rs) ≡ not (all_pass going_part ss && all_pass inside_part ss)
    misfits blames.Each whole h none = absurd (cc)
    misfits blames.Whole whole h none =
        ap (λ (b : Bool). not b || some_misfits g (shape_fits rs) 0 (Some m) rs) fit ∙ sym (twice_not (some_misfits g (shape_fits rs) 0 (Some m) rs))
        ∙ ap not (sym (fitting_told g (shape_fits rs) 0 (Some m) rs ss (cleaned blames.Whole h none)) ∙ sym (all_both going_part inside_part ss))
