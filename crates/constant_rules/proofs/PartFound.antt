-- What is found of a part of a tuple, and of the tuples that stand by themselves or as the value of a synonym.
use Rattle.std.proofs.Common.{◌≡◌, ℕ, suc, Bool, true, false, List, [], ◌∷◌, ◌++◌, Option, Some, None, ℤ, refl, ap, sym, subst, ◌∙◌}
use Rattle.std.specs.Prelude.{◌&&◌, ◌||◌, not, option_map, if◌then◌else◌}
use Rattle.std.proofs.lemmas.List.{append-nil}
use Rattle.std.proofs.lemmas.Bool.{false≢true}
use Rattle.std.proofs.lemmas.Option.{same_Some}
use Rattle.chill_base.specs.declared.pos.Pos.{Pos}
use Rattle.chill_tree.specs.declared.tree.name.Name.{Name}
use Rattle.chill_tree.specs.ExprTree.{ExprTree, RangeNodes, whole, character, text, this_instance, paren, receive, start, tuple, uniform, name, apply, field, prefixed, binary, no_ranges, more_ranges, place_of}
use Rattle.diagnostics.specs.declared.diagnostic.Diagnostic.{Diagnostic}
use Rattle.diagnostics.specs.declared.rule.Rule.TheVariants as rules
use Rattle.modes.specs.ModeTree.{ModeTree, ClassTree, SpreadTree, value}
use Rattle.modes.specs.Form.{FormTree, form_of, of_int, of_boolean, of_char, of_instance, of_set, of_powerset, of_chars, of_array, of_structure, of_meeting}
use Rattle.modes.specs.Bounds.{values_of}
use Rattle.checks_model.specs.TestLaws.{GoesWithTestLaw}
use Rattle.checks_model.specs.ValueTrees.{ValueTree, scalars_in}
use Rattle.checks_model.specs.Told.{tell_at, told_if, then_told, is_none_told}
use Rattle.checks_model.specs.Ground.{Ground, mode_of_name}
use Rattle.checks_model.specs.Classes.{class_as, class_of, mode_of_part, part_mode, shape_fits, uniform_fits}
use Rattle.checks_model.specs.Constants.{constant_as, constant_of, has_form, have_form, uniform_value}
use Rattle.checks_model.specs.ConstantRules.{Standing, by_itself, in_a_tuple, in_a_synonym, told_as, told_in_ranges, told_in_range, told_misfit, told_tuple, told_uniform, told_part, told_parts, told_part_range, told_if_constant, told_of_constants, class_misfits, value_misfits, misfits_as, some_misfits, ranges_misfit, standing_of_parts, is_judged}
use Rattle.constant_values.specs.Fits.{fit_together}
use Rattle.constant_operators.specs.declared.known.Known.{Known}
use Rattle.constant_operators.specs.Known.{IsKnown, Holds}
use Rattle.constant_rules.specs.declared.parts.Blame.{Blame}
use Rattle.constant_rules.specs.declared.parts.Blame.TheVariants as blames
use Rattle.constant_rules.specs.declared.parts.Part.{Part}
use Rattle.constant_rules.specs.declared.parts.Tupled.{Tupled}
use Rattle.constant_rules.specs.declared.parts.Tupled.TheVariants as tupled
use Rattle.constant_rules.specs.Found.{IsFound}
use Rattle.constant_rules.specs.Walks.{FindsExpr, told_in_all, is_own}
use Rattle.constant_rules.specs.Parts.{array_parts, times, outside_part, misfit_told, told_where, Judges, IsOfTuple, IsReceived, IsTuplePart}
use Rattle.constant_rules.specs.Tuples.{IsWithin, IsJudged, IsCleanPart, IsPart, IsFitting, IsTupled, FindsTupled, FindsPart, standing_of, told_in_part}
use Rattle.constant_rules.proofs.Finding.{none_both, told_found, found_so}
use Rattle.constant_rules.proofs.Standings.{part_none, range_none, all_without, without_mode, unnamed_alone, uniform_alone}
use Rattle.constant_rules.proofs.SpanLists.{none_of_one, twice_not}
use Rattle.constant_rules.proofs.PartValues.{received_within}
use Rattle.constant_rules.proofs.TupleValues.{IsTupleValue, uniform_made}
use Rattle.constant_rules.proofs.TuplesFound.{own_told, parts_told, value_told, judged_told, judged_none, judged_tupled, misfit_none, class_here}

-- ---- a tuple that hasn't the form of its mode

no_mode : (fits : FormTree → Bool) (k : ℕ) (m : ModeTree) → fits (form_of m) ≡ false → mode_of_part fits k (Some m) ≡ None
no_mode fits k m misfit = ap (λ (b : Bool). if b then part_mode k (form_of m) else None) misfit

told_no_mode : (g : Ground) (s : Standing) (fits : FormTree → Bool) (k : ℕ) (m : ModeTree) (rs : RangeNodes) → fits (form_of m) ≡ false → told_in_ranges g s fits k (Some m) rs ≡ told_in_ranges g s fits k None rs
told_no_mode g s fits k m no_ranges misfit = refl
told_no_mode g s fits k m (more_ranges r rs) misfit = λ i. told_in_range g s (no_mode fits k m misfit i) r ++ told_no_mode g s fits (suc k) m rs misfit i

parts_no_mode : (g : Ground) (fits : FormTree → Bool) (k : ℕ) (m : ModeTree) (rs : RangeNodes) → fits (form_of m) ≡ false → told_parts g fits k (Some m) rs ≡ []
parts_no_mode g fits k m no_ranges misfit = refl
parts_no_mode g fits k m (more_ranges r rs) misfit = (λ i. told_part_range g (no_mode fits k m misfit i) r ++ parts_no_mode g fits (suc k) m rs misfit i) ∙ append-nil (told_part_range g None r) ∙ range_none g r

part_no_mode : (g : Ground) (fits : FormTree → Bool) (k : ℕ) (m : ModeTree) (e : ExprTree) → fits (form_of m) ≡ false → told_part g (mode_of_part fits k (Some m)) e ≡ []
part_no_mode g fits k m e misfit = ap (λ (o : Option ModeTree). told_part g o e) (no_mode fits k m misfit) ∙ part_none g e

misfit_here : (fits : FormTree → Bool) (m : ModeTree) (misfits : Bool) (at : Pos) → fits (form_of m) ≡ false → told_misfit fits (Some m) misfits at ≡ tell_at rules.M10 at ∷ []
misfit_here fits m misfits at misfit = ap (λ (b : Bool). told_if (not b || misfits) (tell_at rules.M10 at)) misfit

where_own : (blame : Blame) (xs ys : List Diagnostic) → xs ≡ ys → told_where blame xs ≡ own_told blame ys
where_own blames.Each xs ys e = e
where_own blames.Whole xs ys e = refl

pub tuple_misfit : (g : Ground) (blame : Blame) (m : ModeTree) (at b : Pos) (rs : RangeNodes) (clean : Bool) (old : List Diagnostic) {mid new : List Diagnostic} {t : Tupled} → have_form g rs ≡ true → shape_fits rs (form_of m) ≡ false → mid ≡ old ++ told_in_all g rs → clean ≡ is_none_told (told_in_all g rs)
    → Judges blame clean false true (tell_at rules.M10 b ∷ []) None mid new t → FindsTupled g blame m (tuple at None b rs) old new t
tuple_misfit g blame m at b rs clean old {mid} {new} {t} form misfit so_far is h =
    let inside = told_in_ranges g (standing_of blame) (shape_fits rs) 0 (Some m) rs in
    let same : inside ≡ told_in_all g rs = told_no_mode g (standing_of blame) (shape_fits rs) 0 m rs misfit ∙ all_without g (standing_of blame) (shape_fits rs) 0 rs in
    let own : tell_at rules.M10 b ∷ [] ≡ told_tuple g (Some m) rs b = sym ((λ i. misfit_here (shape_fits rs) m (ranges_misfit g (shape_fits rs) 0 (Some m) rs) b misfit i ++ parts_no_mode g (shape_fits rs) 0 m rs misfit i)) in
    let told = parts_told g blame m at b rs form in
    let clean_so : clean ≡ is_none_told inside = is ∙ ap is_none_told (sym same) in
    record {
      told = judged_told blame inside (told_tuple g (Some m) rs b) (tell_at rules.M10 b ∷ []) (told_in_part g blame (Some m) (tuple at None b rs)) clean false true None t old told
          (so_far ∙ ap (λ (xs : List Diagnostic). old ++ xs) (sym same)) clean_so (λ none. where_own blame (tell_at rules.M10 b ∷ []) (told_tuple g (Some m) rs b) own) h;
      tupled = judged_tupled g blame m (tuple at None b rs) clean false true None t
          (judged_none blame inside (told_tuple g (Some m) rs b) (told_in_part g blame (Some m) (tuple at None b rs)) clean false told clean_so (λ each none. ap is_none_told (sym own)))
          (λ is fits few. absurd (false≢true fits))
          (λ all is. ap (λ (b : Bool). not b || some_misfits g (shape_fits rs) 0 (Some m) rs) misfit)
          h.tupled;
    }

-- ---- a tuple of one value for all elements

pub uniform_misfit : (g : Ground) (blame : Blame) (m : ModeTree) (at b : Pos) (e : ExprTree) (clean : Bool) (old : List Diagnostic) {mid new : List Diagnostic} {t : Tupled} → has_form g true e ≡ true → uniform_fits (form_of m) ≡ false → mid ≡ old ++ told_of_constants g e → clean ≡ is_none_told (told_of_constants g e)
    → Judges blame clean false true (tell_at rules.M10 b ∷ []) None mid new t → FindsTupled g blame m (uniform at None b e) old new t
uniform_misfit g blame m at b e clean old {mid} {new} {t} form misfit so_far is h =
    let inside = told_in_part g blame (mode_of_part uniform_fits 0 (Some m)) e in
    let same : inside ≡ told_of_constants g e = ap (λ (o : Option ModeTree). told_in_part g blame o e) (no_mode uniform_fits 0 m misfit) ∙ without_mode g (standing_of blame) e in
    let own : tell_at rules.M10 b ∷ [] ≡ told_uniform g (Some m) e b = sym ((λ i. misfit_here uniform_fits m (class_misfits g (mode_of_part uniform_fits 0 (Some m)) e) b misfit i ++ part_no_mode g uniform_fits 0 m e misfit i)) in
    let told = value_told g blame m at b e form in
    let clean_so : clean ≡ is_none_told inside = is ∙ ap is_none_told (sym same) in
    record {
      told = judged_told blame inside (told_uniform g (Some m) e b) (tell_at rules.M10 b ∷ []) (told_in_part g blame (Some m) (uniform at None b e)) clean false true None t old told
          (so_far ∙ ap (λ (xs : List Diagnostic). old ++ xs) (sym same)) clean_so (λ none. where_own blame (tell_at rules.M10 b ∷ []) (told_uniform g (Some m) e b) own) h;
      tupled = judged_tupled g blame m (uniform at None b e) clean false true None t
          (judged_none blame inside (told_uniform g (Some m) e b) (told_in_part g blame (Some m) (uniform at None b e)) clean false told clean_so (λ each none. ap is_none_told (sym own)))
          (λ is fits few. absurd (false≢true fits))
          (λ all is. ap (λ (b : Bool). not b || misfits_as g (mode_of_part uniform_fits 0 (Some m)) e) misfit)
          h.tupled;
    }

-- the mode of the elements of an array
element_here : (m i x : ModeTree) (how : SpreadTree) → form_of m ≡ of_array i x how → mode_of_part uniform_fits 0 (Some m) ≡ Some x
element_here m i x how e = ap (λ (f : FormTree). if uniform_fits f then part_mode 0 f else None) e

uniform_here : (m i x : ModeTree) (how : SpreadTree) → form_of m ≡ of_array i x how → uniform_fits (form_of m) ≡ true
uniform_here m i x how e = ap uniform_fits e

part_judged : (g : Ground) (x : ExprTree) (o : Option ModeTree) (part : Part) (b : Pos) → IsCleanPart g blames.Each o x part → misfit_told b part.goes ++ outside_part part ≡ told_if (class_misfits g o x) (tell_at rules.M10 b) ++ told_part g o x
part_judged g x o part b h =
    λ i. told_if ((ap not h.judged.0 ∙ twice_not (class_misfits g o x)) i) (tell_at rules.M10 b) ++ told_if ((ap not h.judged.1 ∙ twice_not (value_misfits g o x)) i) (tell_at rules.M11 (h.at i))

part_none_told : (g : Ground) (x : ExprTree) (o : Option ModeTree) (part : Part) (b : Pos) → IsCleanPart g blames.Each o x part → is_none_told (told_if (class_misfits g o x) (tell_at rules.M10 b) ++ told_part g o x) ≡ (part.goes && part.lies_inside)
part_none_told g x o part b h =
    none_both (told_if (class_misfits g o x) (tell_at rules.M10 b)) (told_part g o x)
    ∙ (λ i. (none_of_one (class_misfits g o x) (tell_at rules.M10 b) ∙ sym h.judged.0) i && (none_of_one (value_misfits g o x) (tell_at rules.M11 (place_of x)) ∙ sym h.judged.1) i)

pub uniform_found : (g : Ground) (blame : Blame) (m i x : ModeTree) (how : SpreadTree) (at b : Pos) (e : ExprTree) (part : Part) (count : ℕ) (old : List Diagnostic) {mid new : List Diagnostic} {t : Tupled} → has_form g true e ≡ true → form_of m ≡ of_array i x how → count ≡ values_of i → FindsPart g blame (Some x) e old mid part
    → Judges blame part.known.is_clean (part.goes && part.lies_inside) true (misfit_told b part.goes ++ outside_part part) (option_map (times count) part.known.value) mid new t → FindsTupled g blame m (uniform at None b e) old new t
uniform_found g blame m i x how at b e part count old {mid} {new} {t} form is_array many f h =
    let here = element_here m i x how is_array in
    let fit = uniform_here m i x how is_array in
    let inside = told_in_part g blame (mode_of_part uniform_fits 0 (Some m)) e in
    let same : told_in_part g blame (Some x) e ≡ inside = ap (λ (o : Option ModeTree). told_in_part g blame o e) (sym here) in
    let clean : part.known.is_clean ≡ is_none_told inside = f.known.is_clean ∙ ap is_none_told same in
    let told = value_told g blame m at b e form in
    record {
      told = judged_told blame inside (told_uniform g (Some m) e b) (misfit_told b part.goes ++ outside_part part) (told_in_part g blame (Some m) (uniform at None b e)) part.known.is_clean (part.goes && part.lies_inside) true (option_map (times count) part.known.value) t old told
          (f.told ∙ ap (λ (xs : List Diagnostic). old ++ xs) same) clean (λ none. own blame f.known (ap is_none_told same ∙ none)) h;
      tupled = judged_tupled g blame m (uniform at None b e) part.known.is_clean (part.goes && part.lies_inside) true (option_map (times count) part.known.value) t
          (judged_none blame inside (told_uniform g (Some m) e b) (told_in_part g blame (Some m) (uniform at None b e)) part.known.is_clean (part.goes && part.lies_inside) told clean (λ each none. none_own blame f.known each (ap is_none_told same ∙ none)))
          (λ is fits few. (class_here uniform_fits m fit, made (f.known.clean (sym f.known.is_clean ∙ is)) fits))
          (λ all is. misfits blame all f.known (sym f.known.is_clean ∙ is))
          h.tupled;
    }
  where
    uniform_own : told_uniform g (Some m) e b ≡ told_if (class_misfits g (Some x) e) (tell_at rules.M10 b) ++ told_part g (Some x) e
    uniform_own = λ j. misfit_none uniform_fits m (class_misfits g (element_here m i x how is_array j) e) b (uniform_here m i x how is_array) j ++ told_part g (element_here m i x how is_array j) e

    own : (blame : Blame) → IsPart g blame (Some x) e part → is_none_told (told_in_part g blame (Some x) e) ≡ true → told_where blame (misfit_told b part.goes ++ outside_part part) ≡ own_told blame (told_uniform g (Some m) e b)
    own blames.Each h none = part_judged g e (Some x) part b (h.clean none) ∙ sym uniform_own
    own blames.Whole h none = refl

    none_own : (blame : Blame) → IsPart g blame (Some x) e part → blame ≡ blames.Each → is_none_told (told_in_part g blame (Some x) e) ≡ true → is_none_told (told_uniform g (Some m) e b) ≡ (part.goes && part.lies_inside)
    none_own blames.Each h each none = ap is_none_told uniform_own ∙ part_none_told g e (Some x) part b (h.clean none)
    none_own blames.Whole h each none = absurd (cc)

    made : IsCleanPart g blame (Some x) e part → (part.goes && part.lies_inside) ≡ true → IsTupleValue m (option_map (times count) part.known.value) (constant_as g (Some m) (uniform at None b e))
    made h fits =
        let v = constant_as g (Some x) e in
        let raw = uniform_made m i x (of_array i x how) is_array (λ j. refl) (λ n. refl) (λ v. refl) v (h.within fits) in
        let flat : option_map (times (values_of i)) (option_map scalars_in v) ≡ option_map (times count) part.known.value = (λ j. option_map (times (sym many j)) (sym (h.value fits) j)) in
        let shown : uniform_value (Some m) v ≡ constant_as g (Some m) (uniform at None b e) = ap (λ (o : Option ModeTree). uniform_value (Some m) (constant_as g o e)) (sym (element_here m i x how is_array)) in
        record {
          scalars = sym flat ∙ raw.scalars ∙ ap (λ (w : Option ValueTree). option_map scalars_in w) shown;
          within = subst (λ (w : Option ValueTree). IsWithin (Some m) w) shown raw.within;
        }

    misfits : (blame : Blame) → blame ≡ blames.Whole → IsPart g blame (Some x) e part → is_none_told (told_in_part g blame (Some x) e) ≡ true → misfits_as g (Some m) (uniform at None b e) ≡ not (part.goes && part.lies_inside)
    misfits blames.Each all h none = absurd (cc)
    misfits blames.Whole all h none =
        (λ j. not (uniform_here m i x how is_array j) || misfits_as g (element_here m i x how is_array j) e) ∙ sym (twice_not (misfits_as g (Some x) e)) ∙ ap not (sym (h.clean none).judged)

-- ---- a tuple with the name of its mode

-- what is known of a tuple by what comes of it
tuple_known : (g : Ground) (m : ModeTree) (x : ExprTree) (c : Option ClassTree) (v : Option ValueTree) (inside : List Diagnostic) (t : Tupled) (k : Known) → inside ≡ told_in_part g blames.Each (Some m) x → c ≡ class_as g (Some m) x → v ≡ constant_as g (Some m) x
    → IsTupled g blames.Each m x t → IsOfTuple m t k → IsFound true inside c v k
tuple_known g m x c v inside (tupled.Fits w) k told class own h n = record {
  is_constant = n.is_constant;
  is_clean = n.is_clean ∙ sym (ap is_none_told told ∙ h.clean);
  known = λ _ _. record {
    class = n.class ∙ sym h.class ∙ sym class;
    value = n.value ∙ h.value ∙ ap (λ (v : Option ValueTree). option_map scalars_in v) (sym own);
    fits = (λ i. fit_together ((class ∙ h.class) i) (own i)) ∙ h.within.fits;
  };
}
tuple_known g m x c v inside tupled.Misfit k told class own h n = absurd (let other = h.1 in cc)
tuple_known g m x c v inside tupled.Told k told class own h n = told_found n.is_constant n.is_clean (ap is_none_told told ∙ h)

-- a tuple with a mode's name is asked as one without it that goes to that mode
named_told : (g : Ground) (at : Pos) (n : Name) (b : Pos) (rs : RangeNodes) (o : Option ModeTree) → have_form g rs ≡ true → mode_of_name g n ≡ o → told_of_constants g (tuple at (Some n) b rs) ≡ told_as g in_a_tuple o (tuple at None b rs)
named_told g at n b rs o form is =
    ap (λ (f : Bool). then_told (told_in_ranges g (standing_of_parts by_itself (Some n) f) (shape_fits rs) 0 (mode_of_name g n) rs) (told_if_constant (is_judged by_itself (Some n) f) (told_tuple g (mode_of_name g n) rs b))) form
    ∙ ap (λ (o : Option ModeTree). then_told (told_in_ranges g in_a_tuple (shape_fits rs) 0 o rs) (told_tuple g o rs b)) is
    ∙ sym (ap (λ (f : Bool). then_told (told_in_ranges g (standing_of_parts in_a_tuple None f) (shape_fits rs) 0 o rs) (told_if_constant (is_judged in_a_tuple None f) (told_tuple g o rs b))) form)

named_value_told : (g : Ground) (at : Pos) (n : Name) (b : Pos) (e : ExprTree) (o : Option ModeTree) → has_form g true e ≡ true → mode_of_name g n ≡ o → told_of_constants g (uniform at (Some n) b e) ≡ told_as g in_a_tuple o (uniform at None b e)
named_value_told g at n b e o form is =
    ap (λ (f : Bool). then_told (told_as g (standing_of_parts by_itself (Some n) f) (mode_of_part uniform_fits 0 (mode_of_name g n)) e) (told_if_constant (is_judged by_itself (Some n) f) (told_uniform g (mode_of_name g n) e b))) form
    ∙ ap (λ (o : Option ModeTree). then_told (told_as g in_a_tuple (mode_of_part uniform_fits 0 o) e) (told_uniform g o e b)) is
    ∙ sym (ap (λ (f : Bool). then_told (told_as g (standing_of_parts in_a_tuple None f) (mode_of_part uniform_fits 0 o) e) (told_if_constant (is_judged in_a_tuple None f) (told_uniform g o e b))) form)

pub named_found : (g : Ground) (at : Pos) (n : Name) (b : Pos) (rs : RangeNodes) (m : ModeTree) (old : List Diagnostic) {new : List Diagnostic} {t : Tupled} {k : Known} → have_form g rs ≡ true → mode_of_name g n ≡ Some m → FindsTupled g blames.Each m (tuple at None b rs) old new t → IsOfTuple m t k
    → FindsExpr g (tuple at (Some n) b rs) old new k
named_found g at n b rs m old {new} {t} {k} form is h own =
    let told = named_told g at n b rs (Some m) form is in
    let found = tuple_known g m (tuple at None b rs) (class_of g (tuple at (Some n) b rs)) (constant_of g (tuple at (Some n) b rs)) (told_of_constants g (tuple at (Some n) b rs)) t k told
    (ap (λ (o : Option ModeTree). class_as g o (tuple at None b rs)) is) (ap (λ (o : Option ModeTree). constant_as g o (tuple at None b rs)) is) h.tupled own in
    record { told = h.told ∙ ap (λ (xs : List Diagnostic). old ++ xs) (sym told); found = subst (λ (f : Bool). IsFound f (told_of_constants g (tuple at (Some n) b rs)) (class_of g (tuple at (Some n) b rs)) (constant_of g (tuple at (Some n) b rs)) k) (sym form) found }

pub named_value_found : (g : Ground) (at : Pos) (n : Name) (b : Pos) (e : ExprTree) (m : ModeTree) (old : List Diagnostic) {new : List Diagnostic} {t : Tupled} {k : Known} → has_form g true e ≡ true → mode_of_name g n ≡ Some m → FindsTupled g blames.Each m (uniform at None b e) old new t → IsOfTuple m t k
    → FindsExpr g (uniform at (Some n) b e) old new k
named_value_found g at n b e m old {new} {t} {k} form is h own =
    let told = named_value_told g at n b e (Some m) form is in
    let found = tuple_known g m (uniform at None b e) (class_of g (uniform at (Some n) b e)) (constant_of g (uniform at (Some n) b e)) (told_of_constants g (uniform at (Some n) b e)) t k told
    (ap (λ (o : Option ModeTree). class_as g o (uniform at None b e)) is) (ap (λ (o : Option ModeTree). constant_as g o (uniform at None b e)) is) h.tupled own in
    record { told = h.told ∙ ap (λ (xs : List Diagnostic). old ++ xs) (sym told); found = subst (λ (f : Bool). IsFound f (told_of_constants g (uniform at (Some n) b e)) (class_of g (uniform at (Some n) b e)) (constant_of g (uniform at (Some n) b e)) k) (sym form) found }

-- of a mode that isn't known nothing is asked
pub unknown_found : (g : Ground) (at : Pos) (n : Name) (b : Pos) (rs : RangeNodes) (clean : Bool) (old : List Diagnostic) {new : List Diagnostic} {k : Known} → have_form g rs ≡ true → mode_of_name g n ≡ None → new ≡ old ++ told_in_all g rs → clean ≡ is_none_told (told_in_all g rs)
    → ((t : List Diagnostic) → clean ≡ is_none_told t → IsFound true t None None k) → FindsExpr g (tuple at (Some n) b rs) old new k
unknown_found g at n b rs clean old form is told none h =
    let same = named_told g at n b rs None form is ∙ without_mode g in_a_tuple (tuple at None b rs) ∙ unnamed_alone g at b rs in
    found_so form same (λ _. (ap (λ (o : Option ModeTree). class_as g o (tuple at None b rs)) is, ap (λ (o : Option ModeTree). constant_as g o (tuple at None b rs)) is)) (record { told = told; found = h (told_in_all g rs) none })

pub unknown_value_found : (g : Ground) (at : Pos) (n : Name) (b : Pos) (e : ExprTree) (clean : Bool) (old : List Diagnostic) {new : List Diagnostic} {k : Known} → has_form g true e ≡ true → mode_of_name g n ≡ None → new ≡ old ++ told_of_constants g e → clean ≡ is_none_told (told_of_constants g e)
    → ((t : List Diagnostic) → clean ≡ is_none_told t → IsFound true t None None k) → FindsExpr g (uniform at (Some n) b e) old new k
unknown_value_found g at n b e clean old form is told none h =
    let same = named_value_told g at n b e None form is ∙ without_mode g in_a_tuple (uniform at None b e) ∙ uniform_alone g at b e in
    found_so form same (λ _. (ap (λ (o : Option ModeTree). class_as g o (uniform at None b e)) is, ap (λ (o : Option ModeTree). constant_as g o (uniform at None b e)) is)) (record { told = told; found = h (told_of_constants g e) none })

-- ---- parts

-- the same in parentheses
pub paren_part : (g : Ground) (blame : Blame) (m : Option ModeTree) (at : Pos) (e : ExprTree) (part placed : Part) → placed ≡ record part { at = at } → IsPart g blame m e part → IsPart g blame m (paren at e) placed
paren_part g blame m at e part placed is h = subst (IsPart g blame m (paren at e)) (sym is) (by_blame blame h)
  where
    by_blame : (blame : Blame) → IsPart g blame m e part → IsPart g blame m (paren at e) (record part { at = at })
    by_blame blames.Each h = record { is_clean = h.is_clean; clean = λ none. (let own = h.clean none in record { at = refl; judged = own.judged; value = own.value; within = own.within }) }
    by_blame blames.Whole h = record { is_clean = h.is_clean; clean = λ none. (let own = h.clean none in record { at = refl; judged = own.judged; value = own.value; within = own.within }) }

pub own_told_so : (g : Ground) (s : Standing) (m : Option ModeTree) (x : ExprTree) → is_own x ≡ true → told_as g s m x ≡ told_of_constants g x
own_told_so g s m (paren at e) own = absurd (false≢true own)
own_told_so g s m (tuple at None b rs) own = absurd (false≢true own)
own_told_so g s m (uniform at None b e) own = absurd (false≢true own)
own_told_so g by_itself m (tuple at (Some n) b rs) own = refl
own_told_so g in_a_tuple m (tuple at (Some n) b rs) own = refl
own_told_so g in_a_synonym m (tuple at (Some n) b rs) own = refl
own_told_so g by_itself m (uniform at (Some n) b e) own = refl
own_told_so g in_a_tuple m (uniform at (Some n) b e) own = refl
own_told_so g in_a_synonym m (uniform at (Some n) b e) own = refl
own_told_so g s m (whole at n) own = refl
own_told_so g s m (character at n) own = refl
own_told_so g s m (text at n) own = refl
own_told_so g s m (this_instance at) own = refl
own_told_so g s m (receive at n) own = refl
own_told_so g s m (start at n es) own = refl
own_told_so g s m (name n) own = refl
own_told_so g s m (apply at e es) own = refl
own_told_so g s m (field at e n) own = refl
own_told_so g s m (prefixed at o e) own = refl
own_told_so g s m (binary at l o p r) own = refl

pub own_class : (g : Ground) (m : Option ModeTree) (x : ExprTree) → is_own x ≡ true → class_as g m x ≡ class_of g x
own_class g m (paren at e) own = absurd (false≢true own)
own_class g m (tuple at None b rs) own = absurd (false≢true own)
own_class g m (uniform at None b e) own = absurd (false≢true own)
own_class g m (tuple at (Some n) b rs) own = refl
own_class g m (uniform at (Some n) b e) own = refl
own_class g m (whole at n) own = refl
own_class g m (character at n) own = refl
own_class g m (text at n) own = refl
own_class g m (this_instance at) own = refl
own_class g m (receive at n) own = refl
own_class g m (start at n es) own = refl
own_class g m (name n) own = refl
own_class g m (apply at e es) own = refl
own_class g m (field at e n) own = refl
own_class g m (prefixed at o e) own = refl
own_class g m (binary at l o p r) own = refl

pub own_value : (g : Ground) (m : Option ModeTree) (x : ExprTree) → is_own x ≡ true → constant_as g m x ≡ constant_of g x
own_value g m (paren at e) own = absurd (false≢true own)
own_value g m (tuple at None b rs) own = absurd (false≢true own)
own_value g m (uniform at None b e) own = absurd (false≢true own)
own_value g m (tuple at (Some n) b rs) own = refl
own_value g m (uniform at (Some n) b e) own = refl
own_value g m (whole at n) own = refl
own_value g m (character at n) own = refl
own_value g m (text at n) own = refl
own_value g m (this_instance at) own = refl
own_value g m (receive at n) own = refl
own_value g m (start at n es) own = refl
own_value g m (name n) own = refl
own_value g m (apply at e es) own = refl
own_value g m (field at e n) own = refl
own_value g m (prefixed at o e) own = refl
own_value g m (binary at l o p r) own = refl

pub own_misfits : (g : Ground) (m : Option ModeTree) (x : ExprTree) → is_own x ≡ true → misfits_as g m x ≡ (class_misfits g m x || value_misfits g m x)
own_misfits g m (paren at e) own = absurd (false≢true own)
own_misfits g m (tuple at None b rs) own = absurd (false≢true own)
own_misfits g m (uniform at None b e) own = absurd (false≢true own)
own_misfits g m (tuple at (Some n) b rs) own = refl
own_misfits g m (uniform at (Some n) b e) own = refl
own_misfits g m (whole at n) own = refl
own_misfits g m (character at n) own = refl
own_misfits g m (text at n) own = refl
own_misfits g m (this_instance at) own = refl
own_misfits g m (receive at n) own = refl
own_misfits g m (start at n es) own = refl
own_misfits g m (name n) own = refl
own_misfits g m (apply at e es) own = refl
own_misfits g m (field at e n) own = refl
own_misfits g m (prefixed at o e) own = refl
own_misfits g m (binary at l o p r) own = refl

pub own_form : (g : Ground) (x : ExprTree) → is_own x ≡ true → has_form g true x ≡ has_form g false x
own_form g (paren at e) own = absurd (false≢true own)
own_form g (tuple at None b rs) own = absurd (false≢true own)
own_form g (uniform at None b e) own = absurd (false≢true own)
own_form g (tuple at (Some n) b rs) own = refl
own_form g (uniform at (Some n) b e) own = refl
own_form g (whole at n) own = refl
own_form g (character at n) own = refl
own_form g (text at n) own = refl
own_form g (this_instance at) own = refl
own_form g (receive at n) own = refl
own_form g (start at n es) own = refl
own_form g (name n) own = refl
own_form g (apply at e es) own = refl
own_form g (field at e n) own = refl
own_form g (prefixed at o e) own = refl
own_form g (binary at l o p r) own = refl

neither : (a b : Bool) → (not a && not b) ≡ not (a || b)
neither true b = refl
neither false b = refl

pub judged_so : (g : Ground) (blame : Blame) (m : Option ModeTree) (x : ExprTree) (part : Part) → misfits_as g m x ≡ (class_misfits g m x || value_misfits g m x) → part.goes ≡ not (class_misfits g m x) → part.lies_inside ≡ not (value_misfits g m x) → IsJudged g blame m x part
judged_so g blames.Each m x part same goes lies = (goes, lies)
judged_so g blames.Whole m x part same goes lies = (λ i. goes i && lies i) ∙ neither (class_misfits g m x) (value_misfits g m x) ∙ ap not (sym same)

both_not : (a b : Bool) → (not a && not b) ≡ true → (a ≡ false) × (b ≡ false)
both_not true b e = absurd (false≢true e)
both_not false true e = absurd (false≢true e)
both_not false false e = (refl, refl)

-- a part of which the class and the value are known
pub known_part : (law : GoesWithTestLaw) (g : Ground) (blame : Blame) (m : ModeTree) (x : ExprTree) (k : Known) (part : Part) → (part.goes ≡ not (class_misfits g (Some m) x) → part.lies_inside ≡ not (value_misfits g (Some m) x) → IsJudged g blame (Some m) x part)
    → IsReceived m (place_of x) k part → IsKnown (class_as g (Some m) x) (constant_as g (Some m) x) k → IsCleanPart g blame (Some m) x part
known_part law g blame m x k part judged h known =
    let goes = h.goes (class_as g (Some m) x) (constant_as g (Some m) x) known in
    let lies = h.lies_inside (class_as g (Some m) x) (constant_as g (Some m) x) known in
    record {
      at = h.place;
      judged = judged goes lies;
      value = λ fits. ap (λ (k : Known). k.value) h.known ∙ known.value;
      within = λ fits. (let t = both_not (class_misfits g (Some m) x) (value_misfits g (Some m) x) ((λ i. sym goes i && sym lies i) ∙ fits) in received_within law (class_as g (Some m) x) (constant_as g (Some m) x) m known.fits t.0 t.1);
    }

pub own_part : (law : GoesWithTestLaw) (g : Ground) (blame : Blame) (m : ModeTree) (x : ExprTree) (old : List Diagnostic) {new : List Diagnostic} {k : Known} {part : Part} → is_own x ≡ true → has_form g true x ≡ true → FindsExpr g x old new k → IsReceived m (place_of x) k part → FindsPart g blame (Some m) x old new part
own_part law g blame m x old {new} {k} {part} own form h received =
    let told = own_told_so g (standing_of blame) (Some m) x own in
    record {
      told = h.told ∙ ap (λ (xs : List Diagnostic). old ++ xs) (sym told);
      known = record {
        is_clean = ap (λ (k : Known). k.is_clean) received.known ∙ h.found.is_clean ∙ ap is_none_told (sym told);
        clean = λ none. (let known = h.found.known (sym (own_form g x own) ∙ form) (sym (ap is_none_told told) ∙ none) in
            known_part law g blame m x k part (judged_so g blame (Some m) x part (own_misfits g (Some m) x own)) received
            (subst (λ (c : Option ClassTree). IsKnown c (constant_as g (Some m) x) k) (sym (own_class g (Some m) x own)) (subst (λ (v : Option ValueTree). IsKnown (class_of g x) v k) (sym (own_value g (Some m) x own)) known)));
      };
    }

-- ---- a part that is a tuple without a mode's name

fitting_known : (g : Ground) (blame : Blame) (m : ModeTree) (x : ExprTree) (w : Option (List ℤ)) (k : Known) → IsFitting g blame m x w → Holds (Some (value m)) w k → IsKnown (class_as g (Some m) x) (constant_as g (Some m) x) k
fitting_known g blame m x w k h n = record {
  class = n.class ∙ sym h.class;
  value = n.value ∙ h.value;
  fits = ap (λ (c : Option ClassTree). fit_together c (constant_as g (Some m) x)) h.class ∙ h.within.fits;
}

told_part_found : (g : Ground) (blame : Blame) (m : ModeTree) (x : ExprTree) (part : Part) → part.known.is_clean ≡ false → is_none_told (told_in_part g blame (Some m) x) ≡ false → IsPart g blame (Some m) x part
told_part_found g blame m x part clean none = record { is_clean = clean ∙ sym none; clean = λ e. absurd (false≢true (sym none ∙ e)) }

tuple_part_known : (law : GoesWithTestLaw) (g : Ground) (blame : Blame) (m : ModeTree) (x : ExprTree) (t : Tupled) (part : Part) → IsTupled g blame m x t → IsTuplePart blame m (place_of x) t part → IsPart g blame (Some m) x part
tuple_part_known law g blames.Each m x (tupled.Fits w) part h p = record {
  is_clean = p.0.is_clean ∙ sym h.clean;
  clean = λ none. known_part law g blames.Each m x part.known part (λ goes lies. (goes, lies)) p.1 (fitting_known g blames.Each m x w part.known h p.0);
}
tuple_part_known law g blames.Each m x tupled.Misfit part h p = absurd (let other = h.1 in cc)
tuple_part_known law g blames.Each m x tupled.Told part h p = told_part_found g blames.Each m x part p.0.is_clean h
tuple_part_known law g blames.Whole m x (tupled.Fits w) part h p = record {
  is_clean = p.0.is_clean ∙ sym h.clean;
  clean = λ none. record {
    at = p.1;
    judged = (λ i. p.2 i && p.3 i) ∙ ap not (sym (h.judged refl));
    value = λ fits. p.0.value ∙ h.value;
    within = λ fits. h.within;
  };
}
tuple_part_known law g blames.Whole m x tupled.Misfit part h p = record {
  is_clean = p.0.is_clean ∙ sym h.0;
  clean = λ none. record {
    at = p.1;
    judged = (λ i. p.2 i && p.3 i) ∙ ap not (sym h.2);
    value = λ fits. absurd (false≢true ((λ i. sym p.2 i && sym p.3 i) ∙ fits));
    within = λ fits. absurd (false≢true ((λ i. sym p.2 i && sym p.3 i) ∙ fits));
  };
}
tuple_part_known law g blames.Whole m x tupled.Told part h p = told_part_found g blames.Whole m x part p.0.is_clean h

pub tuple_part : (law : GoesWithTestLaw) (g : Ground) (blame : Blame) (m : ModeTree) (x : ExprTree) {old new : List Diagnostic} {t : Tupled} {part : Part} → FindsTupled g blame m x old new t → IsTuplePart blame m (place_of x) t part → FindsPart g blame (Some m) x old new part
tuple_part law g blame m x {t = t} {part = part} h p = record { told = h.told; known = tuple_part_known law g blame m x t part h.tupled p }

-- ---- arrays

pub array_none : (m : ModeTree) → array_parts (form_of m) ≡ None → uniform_fits (form_of m) ≡ false
array_none m e = by_form (form_of m) e
  where
    by_form : (f : FormTree) → array_parts f ≡ None → uniform_fits f ≡ false
    by_form of_int e = refl
    by_form of_boolean e = refl
    by_form of_char e = refl
    by_form of_instance e = refl
    by_form (of_set d n) e = refl
    by_form (of_powerset m) e = refl
    by_form (of_chars n) e = refl
    by_form (of_array i x how) e = absurd (cc)
    by_form (of_structure fs p) e = refl
    by_form of_meeting e = refl

array_form : (f : FormTree) (i x : ModeTree) → array_parts f ≡ Some (i, x) → (how : SpreadTree) × (f ≡ of_array i x how)
array_form of_int i x e = absurd (cc)
array_form of_boolean i x e = absurd (cc)
array_form of_char i x e = absurd (cc)
array_form of_instance i x e = absurd (cc)
array_form (of_set d n) i x e = absurd (cc)
array_form (of_powerset m) i x e = absurd (cc)
array_form (of_chars n) i x e = absurd (cc)
array_form (of_array j y how) i x e = (how, let same = same_Some (j, y) (i, x) e in λ k. of_array (same k).0 (same k).1 how)
array_form (of_structure fs p) i x e = absurd (cc)
array_form of_meeting i x e = absurd (cc)

pub array_found : (g : Ground) (blame : Blame) (m i x : ModeTree) (at b : Pos) (e : ExprTree) (part : Part) (old : List Diagnostic) {mid new : List Diagnostic} {t : Tupled} → has_form g true e ≡ true → array_parts (form_of m) ≡ Some (i, x) → FindsPart g blame (Some x) e old mid part
    → Judges blame part.known.is_clean (part.goes && part.lies_inside) true (misfit_told b part.goes ++ outside_part part) (option_map (times (values_of i)) part.known.value) mid new t → FindsTupled g blame m (uniform at None b e) old new t
array_found g blame m i x at b e part old form is f h = let own = array_form (form_of m) i x is in uniform_found g blame m i x own.0 at b e part (values_of i) old form own.1 refl f h
