-- What is found of the parts of a tuple, one after the other.
use Rattle.std.proofs.Common.{◌≡◌, ℕ, zero, suc, ◌+◌, ◌<◌, ◌≤◌, true, false, List, [], ◌∷◌, ◌++◌, Option, Some, None, refl, ap, sym, subst, ◌∙◌, length, get_or, drop, append_assoc, arith}
use Rattle.std.specs.Prelude.{◌==◌}
use Rattle.std.proofs.lemmas.List.{append-nil, at_drop_more, at_drop_all}
use Rattle.std.proofs.lemmas.Bool.{false≢true}
use Rattle.chill_base.specs.declared.pos.Pos.{Pos}
use Rattle.chill_tree.specs.declared.tree.expr.ValueRange.{ValueRange}
use Rattle.chill_tree.specs.ExprTree.{ExprTree, RangeNodes, paren, alone, between, no_ranges, more_ranges, range_tree, range_trees, range_nodes}
use Rattle.chill_tree.proofs.ExprViews.{expr_built}
use Rattle.diagnostics.specs.declared.diagnostic.Diagnostic.{Diagnostic}
use Rattle.modes.specs.ModeTree.{ModeTree, FieldNodes, no_fields, more_fields}
use Rattle.modes.specs.Form.{FormTree, form_of, of_int, of_boolean, of_char, of_instance, of_set, of_powerset, of_chars, of_array, of_structure, of_meeting}
use Rattle.modes.proofs.SimilarLemmas.{both}
use Rattle.checks_model.specs.Told.{is_none_told}
use Rattle.checks_model.specs.Ground.{Ground}
use Rattle.checks_model.specs.Classes.{are_alone, count_ranges, count_fields, field_mode_at, part_mode, mode_of_part, shape_fits}
use Rattle.checks_model.specs.Constants.{have_form, range_has_form}
use Rattle.checks_model.specs.ConstantRules.{told_in_range, told_in_ranges}
use Rattle.constant_operators.specs.declared.known.Known.{Known}
use Rattle.constant_operators.specs.Known.{Holds, IsTold}
use Rattle.constant_rules.specs.declared.parts.Blame.{Blame}
use Rattle.constant_rules.specs.declared.parts.Part.{Part}
use Rattle.constant_rules.specs.declared.parts.Span.{Span}
use Rattle.constant_rules.specs.Found.{IsFound}
use Rattle.constant_rules.specs.Tuples.{IsPart, IsSpan, AreSpans, FindsPart, FindsSpan, FindsSpans, PassesSpans, standing_of, told_in_part}
use Rattle.constant_rules.proofs.Finding.{in_turn, told_found}
use Rattle.constant_rules.proofs.TupleValues.{mode_here}
use Rattle.constant_rules.proofs.PartValues.{same_count}
use Rattle.constant_rules.proofs.Views.{range_out, ranges_counted}
use Rattle.constant_rules.proofs.PartFound.{paren_part, tuple_part}

-- ---- of a mode that isn't known

pub unknown_so : (t : List Diagnostic) (k : Known) → is_none_told t ≡ true → Holds None None k → IsFound true t None None k
unknown_so t k none h = record { is_constant = h.is_constant; is_clean = h.is_clean ∙ sym none; known = λ _ _. record { class = h.class; value = h.value; fits = refl } }

pub unknown_told : (t : List Diagnostic) (k : Known) → is_none_told t ≡ false → IsTold true k → IsFound true t None None k
unknown_told t k none h = told_found h.is_constant h.is_clean none

-- ---- one part

pub paren_found : (g : Ground) (blame : Blame) (m : Option ModeTree) (at : Pos) (e : ExprTree) (old new : List Diagnostic) (part placed : Part) → placed ≡ record part { at = at } → FindsPart g blame m e old new part → FindsPart g blame m (paren at e) old new placed
paren_found g blame m at e old new part placed is h = record { told = h.told; known = paren_part g blame m at e part placed is h.known }

pub ruleset part_views = (expr_built, paren_found, tuple_part)

-- ---- one range

pub alone_span : (g : Ground) (blame : Blame) (m : Option ModeTree) (e : ExprTree) (old new : List Diagnostic) (part : Part) → FindsPart g blame m e old new part → FindsSpan g blame m (alone e) old new (record { first = part; last = None })
alone_span g blame m e old new part h = record { told = h.told; known = (h.known, refl) }

pub between_span : (g : Ground) (blame : Blame) (m : Option ModeTree) (l u : ExprTree) (old mid new : List Diagnostic) (first last : Part) → FindsPart g blame m l old mid first → FindsPart g blame m u mid new last → FindsSpan g blame m (between l u) old new (record { first = first; last = Some last })
between_span g blame m l u old mid new first last h k = record { told = in_turn (told_in_part g blame m l) (told_in_part g blame m u) old h.told k.told; known = (h.known, k.known) }

pub ruleset span_views = (range_out, alone_span, between_span)

-- ---- all ranges

abbrev nodes : List ValueRange → RangeNodes
nodes rs = range_nodes (range_trees rs)

pub spans_first : (g : Ground) (blame : Blame) (m : ModeTree) (all : RangeNodes) (old : List Diagnostic) → PassesSpans g blame m 0 all all old old []
spans_first g blame m all old = record { told = refl; known = λ ss h. h }

-- the first of some ranges
pub range_form : (g : Ground) (rs : List ValueRange) (i : ℕ) (x : ValueRange) → i < length rs → x ≡ get_or rs i x → have_form g (nodes rs) ≡ true → range_has_form g (range_tree x) ≡ true
range_form g [] i x less is h = absurd (omega (arith, less))
range_form g (r ∷ rs) zero x less is h = ap (λ (y : ValueRange). range_has_form g (range_tree y)) is ∙ (both (range_has_form g (range_tree r)) (have_form g (nodes rs)) h).0
range_form g (r ∷ rs) (suc i) x less is h = range_form g rs i x (omega (arith, less)) is (both (range_has_form g (range_tree r)) (have_form g (nodes rs)) h).1

mode_there : (rs : RangeNodes) (m : ModeTree) (i : ℕ) (own : ModeTree) → shape_fits rs (form_of m) ≡ true → Some own ≡ part_mode i (form_of m) → mode_of_part (shape_fits rs) i (Some m) ≡ Some own
mode_there rs m i own fit is = mode_here rs m (form_of m) refl fit i ∙ sym is

pub spans_turn : (g : Ground) (blame : Blame) (m own : ModeTree) (rs : List ValueRange) (i : ℕ) (x : ValueRange) (old mid new : List Diagnostic) (spans : List Span) (s : Span) → i < length rs → x ≡ get_or rs i x → shape_fits (nodes rs) (form_of m) ≡ true → Some own ≡ part_mode i (form_of m)
    → PassesSpans g blame m i (nodes (drop i rs)) (nodes rs) old mid spans → FindsSpan g blame (Some own) (range_tree x) mid new s → PassesSpans g blame m (i + 1) (nodes (drop (i + 1) rs)) (nodes rs) old new (spans ++ s ∷ [])
spans_turn g blame m own rs i x old mid new spans s less is fit there h f =
    let here = mode_there (nodes rs) m i own fit there in
    let next : suc i ≡ i + 1 = omega arith in
    let rest = nodes (drop (i + 1) rs) in
    let step : nodes (drop i rs) ≡ more_ranges (range_tree x) rest = at_drop_more nodes rs i x less ∙ ap (λ (y : ValueRange). more_ranges (range_tree y) rest) (sym is) in
    let told_one : told_in_range g (standing_of blame) (mode_of_part (shape_fits (nodes rs)) i (Some m)) (range_tree x) ≡ told_in_range g (standing_of blame) (Some own) (range_tree x) = ap (λ (o : Option ModeTree). told_in_range g (standing_of blame) o (range_tree x)) here in
    record {
      told = (λ j. f.told j ++ told_in_ranges g (standing_of blame) (shape_fits (nodes rs)) (sym next j) (Some m) rest)
          ∙ append_assoc mid (told_in_range g (standing_of blame) (Some own) (range_tree x)) (told_in_ranges g (standing_of blame) (shape_fits (nodes rs)) (suc i) (Some m) rest)
          ∙ ap (λ (xs : List Diagnostic). mid ++ (xs ++ told_in_ranges g (standing_of blame) (shape_fits (nodes rs)) (suc i) (Some m) rest)) (sym told_one)
          ∙ ap (λ (r : RangeNodes). mid ++ told_in_ranges g (standing_of blame) (shape_fits (nodes rs)) i (Some m) r) (sym step)
          ∙ h.told;
      known = λ ss k. subst (λ (all : List Span). AreSpans (IsPart g blame) (shape_fits (nodes rs)) 0 (Some m) (nodes rs) all) (sym (append_assoc spans (s ∷ []) ss))
          (h.known (s ∷ ss) (subst (λ (r : RangeNodes). AreSpans (IsPart g blame) (shape_fits (nodes rs)) i (Some m) r (s ∷ ss)) (sym step)
          (subst (λ (o : Option ModeTree). IsSpan (IsPart g blame) o (range_tree x) s) (sym here) f.known, subst (λ (n : ℕ). AreSpans (IsPart g blame) (shape_fits (nodes rs)) n (Some m) rest ss) (sym next) k)));
    }

pub spans_done : (g : Ground) (blame : Blame) (m : ModeTree) (rs : List ValueRange) (i : ℕ) (old new : List Diagnostic) (spans : List Span) → length rs ≤ i → PassesSpans g blame m i (nodes (drop i rs)) (nodes rs) old new spans → FindsSpans g blame m (nodes rs) old new spans
spans_done g blame m rs i old new spans le h =
    let none : nodes (drop i rs) ≡ no_ranges = at_drop_all nodes rs i le in
    record {
      told = sym (append-nil new) ∙ ap (λ (r : RangeNodes). new ++ told_in_ranges g (standing_of blame) (shape_fits (nodes rs)) i (Some m) r) (sym none) ∙ h.told;
      known = subst (λ (all : List Span). AreSpans (IsPart g blame) (shape_fits (nodes rs)) 0 (Some m) (nodes rs) all) (append-nil spans) (h.known [] (subst (λ (r : RangeNodes). AreSpans (IsPart g blame) (shape_fits (nodes rs)) i (Some m) r []) (sym none) tt));
    }

-- ---- each part has its mode

field_there : (fs : FieldNodes) (k : ℕ) → k < count_fields fs → field_mode_at k fs ≡ None → ⊥
field_there no_fields k less e = absurd (omega (arith, less))
field_there (more_fields n m at fs) zero less e = cc
field_there (more_fields n m at fs) (suc k) less e = field_there fs k (omega (arith, less)) e

part_there : (f : FormTree) (rs : List ValueRange) (k : ℕ) → shape_fits (nodes rs) f ≡ true → k < length rs → part_mode k f ≡ None → ⊥
part_there (of_powerset m) rs k fit less e = cc
part_there (of_array i x how) rs k fit less e = cc
part_there (of_structure fs p) rs k fit less e =
    let t = both (are_alone (nodes rs)) (count_ranges (nodes rs) == count_fields fs) fit in
    let many = same_count (count_ranges (nodes rs)) (count_fields fs) t.1 in
    let count = ranges_counted rs in
    field_there fs k (omega (arith, less, many, count)) e
part_there of_int rs k fit less e = false≢true fit
part_there of_boolean rs k fit less e = false≢true fit
part_there of_char rs k fit less e = false≢true fit
part_there of_instance rs k fit less e = false≢true fit
part_there (of_set d n) rs k fit less e = false≢true fit
part_there (of_chars n) rs k fit less e = false≢true fit
part_there of_meeting rs k fit less e = false≢true fit

pub no_part : (m : ModeTree) (rs : List ValueRange) (k : ℕ) → shape_fits (nodes rs) (form_of m) ≡ true → k < length rs → None ≡ part_mode k (form_of m) → ⊥
no_part m rs k fit less e = part_there (form_of m) rs k fit less (sym e)

pub ruleset spans_views = (spans_first, range_form, spans_turn, spans_done, no_part)
