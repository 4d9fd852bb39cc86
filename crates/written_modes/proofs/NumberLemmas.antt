-- The number of a constant whose class goes with a discrete mode.
use Rattle.std.proofs.Common.{◌≡◌, ◌≤◌, ℕ, refl, ap, sym, ◌∙◌, arith}
use Rattle.std.proofs.lemmas.Bool.{leb-true, le-leb}
use Rattle.std.specs.Prelude.{Bool, true, false, ◌&&◌, ◌||◌, not, Option, Some, None, is_some, option_map, option_and_then, slice_get, ℤ, pos, negsuc, int_le, nat_le, if◌then◌else◌}
use Rattle.std.proofs.lemmas.Option.{same_Some}
use Rattle.chill_tree.specs.ExprTree.{ExprTree, place_of}
use Rattle.modes.specs.declared.mode.Bounds.{Bounds}
use Rattle.diagnostics.specs.declared.rule.Rule.TheVariants as rules
use Rattle.modes.specs.ModeTree.{ModeTree, ClassTree, class_tree, int, boolean, char, instance, set_of, range, powerset, chars, array, structure, event, buffer, read, named}
use Rattle.modes.specs.Form.{form_of}
use Rattle.modes.specs.Bounds.{bounds_of, bounds_in, natural_of}
use Rattle.modes.specs.Similar.{shape_of}
use Rattle.checks_model.specs.TestLaws.{GoesWithTestLaw}
use Rattle.checks_model.specs.Alike.{is_discrete, goes_with}
use Rattle.checks_model.specs.Ground.{Ground}
use Rattle.checks_model.specs.Classes.{class_of}
use Rattle.checks_model.specs.Constants.{constant_of}
use Rattle.checks_model.specs.Told.{holds_of, is_none_told, told_if, tell_at}
use Rattle.checks_model.specs.ValueTrees.{ValueTree, number, members, parts, scalars_in}
use Rattle.checks_model.specs.ConstantRules.{is_outside, told_needed}
use Rattle.checks_model.specs.WrittenModes.{number_in, needed_number, unless_told, from_to, length_of}
use Rattle.constant_values.proofs.ShapeValues.{goes_shape}
use Rattle.constant_values.proofs.OperandValues.{fits_as, discrete_shape, IsOneNumber, number_of}
use Rattle.constant_operators.specs.declared.known.Known.{Known}
use Rattle.constant_operators.specs.Known.{IsKnown, IsKnownConstant}
use Rattle.written_modes.specs.Wholes.{first_in, natural_in, value_misfits, misfits_between, bound_there}
use Rattle.written_modes.specs.Places.{number_if, number_seen, no_int}
use Rattle.written_modes.proofs.Gates.{kept-clean, kept-then_clean}
use Rattle.written_modes.proofs.GateLemmas.{first_kept, rule_kept, none_kept}

-- ---- a discrete mode has bounds

bounded-in : (b : Option Bounds) (l h : ℤ) → is_some b ≡ true → is_some (bounds_in b l h) ≡ true
bounded-in None l h e = absurd (cc)
bounded-in (Some b) l h e = refl

pub bounded : (m : ModeTree) → is_discrete (form_of m) ≡ true → is_some (bounds_of m) ≡ true
bounded int d = refl
bounded boolean d = refl
bounded char d = refl
bounded instance d = absurd (cc)
bounded (set_of a b) d = refl
bounded (range p l h) d = bounded-in (bounds_of p) l h (bounded p d)
bounded (powerset m) d = absurd (cc)
bounded (chars n) d = absurd (cc)
bounded (array i f how) d = absurd (cc)
bounded (structure fs p) d = absurd (cc)
bounded (event l) d = absurd (cc)
bounded (buffer l f) d = absurd (cc)
bounded (read m) d = bounded m d
bounded (named a n m) d = bounded m d

-- ---- a value of a discrete mode is a number

not-false : (b : Bool) → not b ≡ false → b ≡ true
not-false true h = refl
not-false false h = sym h

one-first : (v : ValueTree) → IsOneNumber v → slice_get (scalars_in v) 0 ≡ number_in v
one-first v one = ap (λ (x : ValueTree). slice_get (scalars_in x) 0) one.is ∙ sym (ap number_in one.is)

-- the first scalar is the number
pub first-number : GoesWithTestLaw → (c : Option ClassTree) (v : Option ValueTree) (k : Known) (m : ModeTree) → is_discrete (form_of m) ≡ true → IsKnown c v k → holds_of (λ c. not (goes_with c m)) c ≡ false → first_in k.value ≡ option_and_then number_in v
first-number law c None k m d h n = ap first_in h.value
first-number law None (Some w) k m d h n = absurd (let fits = h.fits in cc)
first-number law (Some c) (Some w) k m d h n =
    let takes = discrete_shape m (bounded m d) in
    let one = number_of (shape_of m) w takes (fits_as c (Some (shape_of m)) w (goes_shape c m ((law c m).0 (not-false (goes_with c m) n))) h.fits) in
    ap first_in h.value ∙ one-first w one

-- ---- outside

outside-none : (b : Option Bounds) (v : Option ValueTree) → option_and_then number_in v ≡ None → holds_of (is_outside b) v ≡ false
outside-none None None h = refl
outside-none None (Some v) h = refl
outside-none (Some b) None h = refl
outside-none (Some b) (Some (number z)) h = absurd (cc)
outside-none (Some b) (Some (members bs)) h = refl
outside-none (Some b) (Some (parts vs)) h = refl

outside-some : (low high z : ℤ) (v : Option ValueTree) → option_and_then number_in v ≡ Some z → holds_of (is_outside (Some (record { low = low; high = high }))) v ≡ not (int_le low z && int_le z high)
outside-some low high z None h = absurd (cc)
outside-some low high z (Some (number y)) h = ap (λ n. not (int_le low n && int_le n high)) (same_Some y z h)
outside-some low high z (Some (members bs)) h = absurd (cc)
outside-some low high z (Some (parts vs)) h = absurd (cc)

pub misfits-first : (c : Option ClassTree) (v : Option ValueTree) (m : ModeTree) (low high : ℤ) → holds_of (λ c. not (goes_with c m)) c ≡ true → true ≡ misfits_between c v m low high
misfits-first c v m low high h = sym (ap (λ b. b || holds_of (is_outside (Some (record { low = low; high = high }))) v) h)

pub misfits-none : GoesWithTestLaw → (c : Option ClassTree) (v : Option ValueTree) (k : Known) (m : ModeTree) (low high : ℤ) → is_discrete (form_of m) ≡ true → IsKnown c v k → holds_of (λ c. not (goes_with c m)) c ≡ false → first_in k.value ≡ None → false ≡ misfits_between c v m low high
misfits-none law c v k m low high d h n e =
    sym (ap (λ b. b || holds_of (is_outside (Some (record { low = low; high = high }))) v) n ∙ outside-none (Some (record { low = low; high = high })) v (sym (first-number law c v k m d h n) ∙ e))

pub misfits-some : GoesWithTestLaw → (c : Option ClassTree) (v : Option ValueTree) (k : Known) (m : ModeTree) (low high z : ℤ) → is_discrete (form_of m) ≡ true → IsKnown c v k → holds_of (λ c. not (goes_with c m)) c ≡ false → first_in k.value ≡ Some z → not (int_le low z && int_le z high) ≡ misfits_between c v m low high
misfits-some law c v k m low high z d h n e =
    sym (ap (λ b. b || holds_of (is_outside (Some (record { low = low; high = high }))) v) n ∙ outside-some low high z v (sym (first-number law c v k m d h n) ∙ e))

-- ---- M3 of what goes with the mode

pub outside-misfits : (c : Option ClassTree) (v : Option ValueTree) (k : Known) (m : ModeTree) → IsKnown c v k → holds_of (λ c. not (goes_with c m)) c ≡ false → holds_of (is_outside (bounds_of m)) v ≡ value_misfits c v m
outside-misfits None None k m h n = refl
outside-misfits None (Some w) k m h n = absurd (let fits = h.fits in cc)
outside-misfits (Some c) v k m h n = either (goes_with c m) (holds_of (is_outside (bounds_of m)) v) n
  where
    either : (p q : Bool) → not p ≡ false → q ≡ (not p || (p && q))
    either true q h = refl
    either false q h = absurd (cc)

pub first-misfits : (c : Option ClassTree) (v : Option ValueTree) (m : ModeTree) → holds_of (λ c. not (goes_with c m)) c ≡ true → true ≡ value_misfits c v m
first-misfits c v m h = sym (ap (λ b. b || (holds_of (λ c. goes_with c m) c && holds_of (is_outside (bounds_of m)) v)) h)

-- ---- needed numbers

and-false : (a b : Bool) → b ≡ false → (a && b) ≡ false
and-false true b h = h
and-false false b h = refl

or-left : (a b : Bool) → (a || b) ≡ false → a ≡ false
or-left true b h = h
or-left false b h = refl

-- the same of the class that is known
pub goes-known : (c : Option ClassTree) (v : Option ValueTree) (k : Known) (m : ModeTree) (b : Bool) → IsKnown c v k → holds_of (λ c. not (goes_with c m)) (option_map class_tree k.class) ≡ b → holds_of (λ c. not (goes_with c m)) c ≡ b
goes-known c v k m b h f = ap (holds_of (λ c. not (goes_with c m))) (sym h.class) ∙ f

pub number-there : GoesWithTestLaw → (g : Ground) (e : ExprTree) (k : Known) → is_none_told (told_needed g e) ≡ true → IsKnownConstant (class_of g e) (constant_of g e) k → holds_of (λ c. not (goes_with c int)) (option_map class_tree k.class) ≡ false → number_if (first_in k.value) ≡ number_seen g e
number-there law g e k n h f =
    let x = goes-known (class_of g e) (constant_of g e) k int false h.known f in
    ap number_if (first-number law (class_of g e) (constant_of g e) k int refl h.known x ∙ sym (kept-clean (told_needed g e) (option_and_then number_in (constant_of g e)) n))
    ∙ ap (λ b. if b then no_int else number_if (needed_number g e)) (sym (and-false (is_none_told (told_needed g e)) (holds_of (λ c. not (goes_with c int)) (class_of g e)) x))

-- a bound where nothing is told in it
pub bound-there : GoesWithTestLaw → (g : Ground) (e : ExprTree) (p : ModeTree) (k : Known) → is_discrete (form_of p) ≡ true → is_none_told (told_needed g e) ≡ true → IsKnownConstant (class_of g e) (constant_of g e) k
    → unless_told (told_if (value_misfits (class_of g e) (constant_of g e) p) (tell_at rules.M3 (place_of e))) (first_in k.value) ≡ bound_there g (Some p) e
bound-there law g e p k d n h = by_test (value_misfits (class_of g e) (constant_of g e) p) refl
  where
    by_test : (b : Bool) → value_misfits (class_of g e) (constant_of g e) p ≡ b → unless_told (told_if (value_misfits (class_of g e) (constant_of g e) p) (tell_at rules.M3 (place_of e))) (first_in k.value) ≡ bound_there g (Some p) e
    by_test true f =
        ap (λ b. unless_told (told_if b (tell_at rules.M3 (place_of e))) (first_in k.value)) f
        ∙ rule_kept (told_needed g e) (value_misfits (class_of g e) (constant_of g e) p) (tell_at rules.M3 (place_of e)) (needed_number g e) f
    by_test false f =
        ap (λ b. unless_told (told_if b (tell_at rules.M3 (place_of e))) (first_in k.value)) f
        ∙ first-number law (class_of g e) (constant_of g e) k p d h.known (or-left (holds_of (λ c. not (goes_with c p)) (class_of g e)) (holds_of (λ c. goes_with c p) (class_of g e) && holds_of (is_outside (bounds_of p)) (constant_of g e)) f)
        ∙ sym (kept-clean (told_needed g e) (option_and_then number_in (constant_of g e)) n)
        ∙ none_kept (told_needed g e) (value_misfits (class_of g e) (constant_of g e) p) (tell_at rules.M3 (place_of e)) (needed_number g e) n f

-- there is none where something is told in it
pub bound-broken : (g : Ground) (e : ExprTree) (p : Option ModeTree) → is_none_told (told_needed g e) ≡ false → None ≡ bound_there g p e
bound-broken g e None h = refl
bound-broken g e (Some p) h = first_kept (told_needed g e) (told_if (value_misfits (class_of g e) (constant_of g e) p) (tell_at rules.M3 (place_of e))) (needed_number g e) h

-- a number within limits is held as it is
within-held : (low high : ℕ) (z : ℤ) → high ≤ 4294967295 → not (int_le (pos low) z && int_le z (pos high)) ≡ false → natural_in z ≡ Some (natural_of z)
within-held low high (pos n) le h = ap (λ b. if b then Some n else None) (le-leb n 4294967295 (omega (arith, le, leb-true n high (right-true (nat_le low n) (nat_le n high) h))))
  where
    right-true : (a b : Bool) → not (a && b) ≡ false → b ≡ true
    right-true true true h = refl
    right-true true false h = sym h
    right-true false b h = absurd (cc)
within-held low high (negsuc n) le h = absurd (cc)

length-kept : (low high : ℕ) (v : Option ValueTree) → high ≤ 4294967295 → holds_of (is_outside (from_to low high)) v ≡ false → option_and_then natural_in (option_and_then number_in v) ≡ option_map natural_of (option_and_then number_in v)
length-kept low high None le h = refl
length-kept low high (Some (number z)) le h = within-held low high z le h
length-kept low high (Some (members bs)) le h = refl
length-kept low high (Some (parts vs)) le h = refl

or-right : (a b : Bool) → (a || b) ≡ false → b ≡ false
or-right true b h = absurd (cc)
or-right false b h = h

-- a length that goes with INT and is within its limits
pub length-there : GoesWithTestLaw → (g : Ground) (e : ExprTree) (low high : ℕ) (k : Known) → is_none_told (told_needed g e) ≡ true → IsKnownConstant (class_of g e) (constant_of g e) k → misfits_between (class_of g e) (constant_of g e) int (pos low) (pos high) ≡ false → high ≤ 4294967295 → option_and_then natural_in (first_in k.value) ≡ length_of g low high e
length-there law g e low high k n h f le =
    ap (option_and_then natural_in) (first-number law (class_of g e) (constant_of g e) k int refl h.known (or-left (holds_of (λ c. not (goes_with c int)) (class_of g e)) (holds_of (is_outside (from_to low high)) (constant_of g e)) f))
    ∙ length-kept low high (constant_of g e) le (or-right (holds_of (λ c. not (goes_with c int)) (class_of g e)) (holds_of (is_outside (from_to low high)) (constant_of g e)) f)
    ∙ sym (kept-then_clean (told_needed g e) (told_if (misfits_between (class_of g e) (constant_of g e) int (pos low) (pos high)) (tell_at rules.M6 (place_of e))) (option_map natural_of (needed_number g e)) n
    ∙ ap (λ b. unless_told (told_if b (tell_at rules.M6 (place_of e))) (option_map natural_of (needed_number g e))) f
    ∙ ap (option_map natural_of) (kept-clean (told_needed g e) (option_and_then number_in (constant_of g e)) n))
