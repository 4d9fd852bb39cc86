-- What is so of all parts of a tuple, by what is so of each.
use Rattle.std.proofs.Common.{◌≡◌, ℕ, suc, Bool, true, false, List, [], ◌∷◌, ◌++◌, Option, Some, None, refl, ap, sym, ◌∙◌}
use Rattle.std.specs.Prelude.{◌&&◌, ◌||◌, not}
use Rattle.std.proofs.lemmas.List.{append-nil}
use Rattle.chill_tree.specs.ExprTree.{ExprTree, RangeTree, RangeNodes, alone, between, no_ranges, more_ranges, place_of}
use Rattle.diagnostics.specs.declared.diagnostic.Diagnostic.{Diagnostic}
use Rattle.diagnostics.specs.declared.rule.Rule.TheVariants as rules
use Rattle.modes.specs.ModeTree.{ModeTree}
use Rattle.modes.specs.Form.{FormTree}
use Rattle.modes.proofs.SimilarLemmas.{both}
use Rattle.checks_model.specs.Told.{tell_at, told_if, is_none_told}
use Rattle.checks_model.specs.Ground.{Ground}
use Rattle.checks_model.specs.Classes.{mode_of_part}
use Rattle.checks_model.specs.ConstantRules.{told_in_range, told_in_ranges, class_misfits, value_misfits, misfits_as, told_part, told_part_range, told_parts, range_misfits, ranges_misfit, one_misfits, some_misfits}
use Rattle.constant_rules.specs.declared.parts.Blame.{Blame}
use Rattle.constant_rules.specs.declared.parts.Blame.TheVariants as blames
use Rattle.constant_rules.specs.declared.parts.Part.{Part}
use Rattle.constant_rules.specs.declared.parts.Span.{Span}
use Rattle.constant_rules.specs.Parts.{last_passes, passes, all_pass, clean_part, outside_part, outside_last, outside_span, outside_of}
use Rattle.constant_rules.specs.Tuples.{OfPart, IsLast, IsSpan, AreSpans, IsCleanPart, IsPart, standing_of, told_in_part}
use Rattle.constant_rules.proofs.Finding.{none_both}

-- ---- tests of all parts

abbrev OfTree : Type 0
OfTree = Option ModeTree → ExprTree → Bool

abbrev pub range_passes : OfTree → Option ModeTree → RangeTree → Bool
range_passes own m (alone e) = own m e
range_passes own m (between l h) = own m l && own m h

abbrev pub ranges_pass : OfTree → (FormTree → Bool) → ℕ → Option ModeTree → RangeNodes → Bool
ranges_pass own fits k m no_ranges = true
ranges_pass own fits k m (more_ranges r rs) = range_passes own (mode_of_part fits k m) r && ranges_pass own fits (suc k) m rs

-- a test of what is known of parts is one of the expressions
abbrev Tells : OfPart → (Part → Bool) → OfTree → Type 0
Tells P test own = (m : Option ModeTree) (x : ExprTree) (part : Part) → P m x part → test part ≡ own m x

and_true : (b : Bool) → (b && true) ≡ b
and_true true = refl
and_true false = refl

last_told : {P : OfPart} (test : Part → Bool) (own : OfTree) → Tells P test own → (m : Option ModeTree) (x : ExprTree) (o : Option Part) → IsLast P m x o → last_passes test o ≡ own m x
last_told test own tells m x None h = absurd h
last_told test own tells m x (Some part) h = tells m x part h

span_told : {P : OfPart} (test : Part → Bool) (own : OfTree) → Tells P test own → (m : Option ModeTree) (r : RangeTree) (s : Span) → IsSpan P m r s → passes test s ≡ range_passes own m r
span_told test own tells m (alone e) s h = ap (λ (o : Option Part). test s.first && last_passes test o) h.1 ∙ and_true (test s.first) ∙ tells m e s.first h.0
span_told test own tells m (between l u) s h = λ i. tells m l s.first h.0 i && last_told test own tells m u s.last h.1 i

pub spans_told : {P : OfPart} (test : Part → Bool) (own : OfTree) → Tells P test own → (fits : FormTree → Bool) (k : ℕ) (m : Option ModeTree) (rs : RangeNodes) (ss : List Span) → AreSpans P fits k m rs ss → all_pass test ss ≡ ranges_pass own fits k m rs
spans_told test own tells fits k m no_ranges [] h = refl
spans_told test own tells fits k m no_ranges (s ∷ ss) h = absurd h
spans_told test own tells fits k m (more_ranges r rs) [] h = absurd h
spans_told test own tells fits k m (more_ranges r rs) (s ∷ ss) h =
    λ i. span_told test own tells (mode_of_part fits k m) r s h.0 i && spans_told test own tells fits (suc k) m rs ss h.1 i

-- ---- the tests of the rules

neither : (a b : Bool) → not (a || b) ≡ (not a && not b)
neither true b = refl
neither false b = refl

abbrev pub none_in : Ground → Blame → OfTree
none_in g blame m x = is_none_told (told_in_part g blame m x)

none_in_range : (g : Ground) (blame : Blame) (m : Option ModeTree) (r : RangeTree) → is_none_told (told_in_range g (standing_of blame) m r) ≡ range_passes (none_in g blame) m r
none_in_range g blame m (alone e) = refl
none_in_range g blame m (between l h) = none_both (told_in_part g blame m l) (told_in_part g blame m h)

pub none_in_ranges : (g : Ground) (blame : Blame) (fits : FormTree → Bool) (k : ℕ) (m : Option ModeTree) (rs : RangeNodes) → is_none_told (told_in_ranges g (standing_of blame) fits k m rs) ≡ ranges_pass (none_in g blame) fits k m rs
none_in_ranges g blame fits k m no_ranges = refl
none_in_ranges g blame fits k m (more_ranges r rs) =
    none_both (told_in_range g (standing_of blame) (mode_of_part fits k m) r) (told_in_ranges g (standing_of blame) fits (suc k) m rs)
    ∙ (λ i. none_in_range g blame (mode_of_part fits k m) r i && none_in_ranges g blame fits (suc k) m rs i)

abbrev pub class_goes : Ground → OfTree
class_goes g m x = not (class_misfits g m x)

class_of_range : (g : Ground) (m : Option ModeTree) (r : RangeTree) → not (range_misfits g m r) ≡ range_passes (class_goes g) m r
class_of_range g m (alone e) = refl
class_of_range g m (between l h) = neither (class_misfits g m l) (class_misfits g m h)

pub classes_go : (g : Ground) (fits : FormTree → Bool) (k : ℕ) (m : Option ModeTree) (rs : RangeNodes) → not (ranges_misfit g fits k m rs) ≡ ranges_pass (class_goes g) fits k m rs
classes_go g fits k m no_ranges = refl
classes_go g fits k m (more_ranges r rs) = neither (range_misfits g (mode_of_part fits k m) r) (ranges_misfit g fits (suc k) m rs)
    ∙ (λ i. class_of_range g (mode_of_part fits k m) r i && classes_go g fits (suc k) m rs i)

abbrev pub value_lies : Ground → OfTree
value_lies g m x = not (value_misfits g m x)

pub none_of_one : (b : Bool) (d : Diagnostic) → is_none_told (told_if b d) ≡ not b
none_of_one true d = refl
none_of_one false d = refl

value_of_range : (g : Ground) (m : Option ModeTree) (r : RangeTree) → is_none_told (told_part_range g m r) ≡ range_passes (value_lies g) m r
value_of_range g m (alone e) = none_of_one (value_misfits g m e) (tell_at rules.M11 (place_of e))
value_of_range g m (between l h) = none_both (told_part g m l) (told_part g m h)
    ∙ (λ i. none_of_one (value_misfits g m l) (tell_at rules.M11 (place_of l)) i && none_of_one (value_misfits g m h) (tell_at rules.M11 (place_of h)) i)

pub values_lie : (g : Ground) (fits : FormTree → Bool) (k : ℕ) (m : Option ModeTree) (rs : RangeNodes) → is_none_told (told_parts g fits k m rs) ≡ ranges_pass (value_lies g) fits k m rs
values_lie g fits k m no_ranges = refl
values_lie g fits k m (more_ranges r rs) = none_both (told_part_range g (mode_of_part fits k m) r) (told_parts g fits (suc k) m rs)
    ∙ (λ i. value_of_range g (mode_of_part fits k m) r i && values_lie g fits (suc k) m rs i)

abbrev pub all_fits : Ground → OfTree
all_fits g m x = not (misfits_as g m x)

range_fits : (g : Ground) (m : Option ModeTree) (r : RangeTree) → not (one_misfits g m r) ≡ range_passes (all_fits g) m r
range_fits g m (alone e) = refl
range_fits g m (between l h) = neither (misfits_as g m l) (misfits_as g m h)

pub ranges_fit : (g : Ground) (fits : FormTree → Bool) (k : ℕ) (m : Option ModeTree) (rs : RangeNodes) → not (some_misfits g fits k m rs) ≡ ranges_pass (all_fits g) fits k m rs
ranges_fit g fits k m no_ranges = refl
ranges_fit g fits k m (more_ranges r rs) = neither (one_misfits g (mode_of_part fits k m) r) (some_misfits g fits (suc k) m rs)
    ∙ (λ i. range_fits g (mode_of_part fits k m) r i && ranges_fit g fits (suc k) m rs i)

-- ---- parts in which nothing is told

pub clean_told : (g : Ground) (blame : Blame) (fits : FormTree → Bool) (k : ℕ) (m : Option ModeTree) (rs : RangeNodes) (ss : List Span) → AreSpans (IsPart g blame) fits k m rs ss
    → all_pass clean_part ss ≡ is_none_told (told_in_ranges g (standing_of blame) fits k m rs)
clean_told g blame fits k m rs ss h = spans_told {P = IsPart g blame} clean_part (none_in g blame) (λ m x part p. p.is_clean) fits k m rs ss h ∙ sym (none_in_ranges g blame fits k m rs)

clean_last : (g : Ground) (blame : Blame) (m : Option ModeTree) (x : ExprTree) (o : Option Part) → none_in g blame m x ≡ true → IsLast (IsPart g blame) m x o → IsLast (IsCleanPart g blame) m x o
clean_last g blame m x None none h = absurd h
clean_last g blame m x (Some part) none h = h.clean none

clean_span : (g : Ground) (blame : Blame) (m : Option ModeTree) (r : RangeTree) (s : Span) → range_passes (none_in g blame) m r ≡ true → IsSpan (IsPart g blame) m r s → IsSpan (IsCleanPart g blame) m r s
clean_span g blame m (alone e) s none h = (h.0.clean none, h.1)
clean_span g blame m (between l u) s none h = let t = both (none_in g blame m l) (none_in g blame m u) none in (h.0.clean t.0, clean_last g blame m u s.last t.1 h.1)

pub clean_spans : (g : Ground) (blame : Blame) (fits : FormTree → Bool) (k : ℕ) (m : Option ModeTree) (rs : RangeNodes) (ss : List Span) → ranges_pass (none_in g blame) fits k m rs ≡ true → AreSpans (IsPart g blame) fits k m rs ss → AreSpans (IsCleanPart g blame) fits k m rs ss
clean_spans g blame fits k m no_ranges [] none h = tt
clean_spans g blame fits k m no_ranges (s ∷ ss) none h = absurd h
clean_spans g blame fits k m (more_ranges r rs) [] none h = absurd h
clean_spans g blame fits k m (more_ranges r rs) (s ∷ ss) none h =
    let t = both (range_passes (none_in g blame) (mode_of_part fits k m) r) (ranges_pass (none_in g blame) fits (suc k) m rs) none in
    (clean_span g blame (mode_of_part fits k m) r s t.0 h.0, clean_spans g blame fits (suc k) m rs ss t.1 h.1)

-- ---- what is told of parts

pub twice_not : (b : Bool) → not (not b) ≡ b
twice_not true = refl
twice_not false = refl

part_outside : (g : Ground) (m : Option ModeTree) (x : ExprTree) (part : Part) → IsCleanPart g blames.Each m x part → outside_part part ≡ told_part g m x
part_outside g m x part h = λ i. told_if ((ap not h.judged.1 ∙ twice_not (value_misfits g m x)) i) (tell_at rules.M11 (h.at i))

last_outside : (g : Ground) (m : Option ModeTree) (x : ExprTree) (o : Option Part) → IsLast (IsCleanPart g blames.Each) m x o → outside_last o ≡ told_part g m x
last_outside g m x None h = absurd h
last_outside g m x (Some part) h = part_outside g m x part h

span_outside : (g : Ground) (m : Option ModeTree) (r : RangeTree) (s : Span) → IsSpan (IsCleanPart g blames.Each) m r s → outside_span s ≡ told_part_range g m r
span_outside g m (alone e) s h = ap (λ (o : Option Part). outside_part s.first ++ outside_last o) h.1 ∙ append-nil (outside_part s.first) ∙ part_outside g m e s.first h.0
span_outside g m (between l u) s h = λ i. part_outside g m l s.first h.0 i ++ last_outside g m u s.last h.1 i

pub spans_outside : (g : Ground) (fits : FormTree → Bool) (k : ℕ) (m : Option ModeTree) (rs : RangeNodes) (ss : List Span) → AreSpans (IsCleanPart g blames.Each) fits k m rs ss → outside_of ss ≡ told_parts g fits k m rs
spans_outside g fits k m no_ranges [] h = refl
spans_outside g fits k m no_ranges (s ∷ ss) h = absurd h
spans_outside g fits k m (more_ranges r rs) [] h = absurd h
spans_outside g fits k m (more_ranges r rs) (s ∷ ss) h = λ i. span_outside g (mode_of_part fits k m) r s h.0 i ++ spans_outside g fits (suc k) m rs ss h.1 i
