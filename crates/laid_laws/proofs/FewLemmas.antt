-- The modes that a text writes have no more scalars than a mode may have.
use Rattle.std.proofs.Common.{◌≡◌, ℕ, Bool, true, false, List, [], ◌∷◌, ◌++◌, length, Option, Some, None, refl, ap, sym, ◌∙◌, subst, arith, ◌≤◌}
use Rattle.std.proofs.lemmas.Bool.{leb-true, ltb-false, le-ltb}
use Rattle.std.specs.Prelude.{◌&&◌, ◌||◌, ◌+◌, ◌/◌, not, nat_lt, nat_le, max, slice_get, option_map, option_and_then, ℤ, pos, negsuc, int_le}
use Rattle.std.proofs.lemmas.Option.{same_Some}
use Rattle.chill_tree.specs.declared.tree.name.Name.{Name}
use Rattle.chill_tree.specs.ModeTree as written
use Rattle.chill_tree.specs.ExprTree.{ExprTree, place_of}
use Rattle.chill_base.specs.declared.pos.Pos.{Pos}
use Rattle.diagnostics.specs.declared.diagnostic.Diagnostic.{Diagnostic}
use Rattle.modes.specs.ModeTree.{ModeTree, int, boolean, char, instance, set_of, range, powerset, chars, array, structure, event, buffer, read, named}
use Rattle.modes.specs.Form.{form_of}
use Rattle.modes.specs.Bounds.{values_of, natural_of}
use Rattle.checks_model.specs.Alike.{is_discrete, goes_with}
use Rattle.checks_model.specs.Ground.{Ground, number_at, mode_of_name}
use Rattle.checks_model.specs.Told.{told_if, is_none_told, holds_of, tell_at}
use Rattle.checks_model.specs.ValueTrees.{ValueTree, number, members, parts}
use Rattle.checks_model.specs.ConstantRules.{is_outside, told_needed}
use Rattle.checks_model.specs.Constants.{constant_of}
use Rattle.checks_model.specs.Classes.{class_of}
use Rattle.checks_model.specs.WrittenModes.{is_large, told_large, unless_told, set_named, range_from, mode_of_discrete, told_name, told_not_discrete, told_of_discrete, told_of_powerset, is_large_powerset, first_place_of, told_length, length_of, needed_number, number_in, from_to, mode_of_base, told_at_array, array_from, told_spread, spread_there, mode_of_index, told_at_structure, told_fields, have_places, structure_from, fields_there, if_whole, mode_of, some_length_of, buffer_from}
use Rattle.diagnostics.specs.declared.rule.Rule.TheVariants as rules
use Rattle.laid_laws.specs.Few.{HasFewScalars, AreFew}
use Rattle.laid_laws.proofs.Gates.{kept_some, then_none, append_none, if_none, or_none}
use Rattle.laid_laws.proofs.NamedModes.{is_plain, HasPlainModes, Keeps, KeepsMeasured, IsKeptByNames, name_kept}

-- ---- modes that are found

few-names : IsKeptByNames (λ m. is_large m ≡ false)
few-names = record { plain = plain; under = λ d novel m h. h }
  where
    plain : (m : ModeTree) → is_plain m ≡ true → is_large m ≡ false
    plain int h = refl
    plain boolean h = refl
    plain char h = refl
    plain instance h = refl
    plain (set_of d n) h = refl
    plain (range p l u) h = refl
    plain (powerset m) h = absurd (cc)
    plain (chars n) h = absurd (cc)
    plain (array i e how) h = absurd (cc)
    plain (structure fs p) h = absurd (cc)
    plain (event l) h = refl
    plain (buffer l e) h = refl
    plain (read m) h = absurd (cc)
    plain (named d n m) h = absurd (cc)

kept-few : (g : Ground) → AreFew g → KeepsMeasured (λ m. is_large m ≡ false) g
kept-few g h d is = by_entry (slice_get g.entries d) (h d is)
  where
    by_entry : (x : Option _) → HasFewScalars x → Keeps (λ m. is_large m ≡ false) x
    by_entry None h = tt
    by_entry (Some e) h = h

set-few : (o : Option ℕ) (k : ℕ) (m : ModeTree) → option_map (λ first. set_of first k) o ≡ Some m → is_large m ≡ false
set-few None k m h = absurd (cc)
set-few (Some d) k m h = ap is_large (sym (same_Some (set_of d k) m h))

named-few : (g : Ground) (ns : List Name) (m : ModeTree) → set_named g ns ≡ Some m → is_large m ≡ false
named-few g [] m h = absurd (cc)
named-few g (n ∷ ns) m h = set-few (number_at g.defined n.at) (length (n ∷ ns)) m h

range-few : (p : Option ModeTree) (l h : Option ℤ) (m : ModeTree) → range_from p l h ≡ Some m → is_large m ≡ false
range-few None l h m is = absurd (cc)
range-few (Some p) None h m is = absurd (cc)
range-few (Some p) (Some l) None m is = absurd (cc)
range-few (Some p) (Some l) (Some h) m is = ap is_large (sym (same_Some (range p l h) m is))

discrete-few : (g : Ground) → HasPlainModes g → AreFew g → (whole : Bool) (d : written.DiscreteTree) (m : ModeTree) → mode_of_discrete g whole d ≡ Some m → is_large m ≡ false
discrete-few g plain few whole (written.named n) m h =
    name_kept (λ m. is_large m ≡ false) few-names g plain (kept-few g few) n m (kept_some (told_name g whole n) (mode_of_name g n) m h).1
discrete-few g plain few whole (written.bounded n l u) m h =
    range-few _ _ _ m (kept_some _ _ m h).1
discrete-few g plain few whole (written.set_of at ns) m h = named-few g ns m h

few-members : (v : ℕ) → v ≤ 32 → (v + 31) / 32 ≤ 1
few-members v h = omega (arith, h)

not-large : (v : ℕ) → nat_lt 32 v ≡ false → nat_lt 4096 ((v + 31) / 32) ≡ false
not-large v h = le-ltb 4096 ((v + 31) / 32) (omega (arith, few-members v (ltb-false 32 v h)))

powerset-few : (o : Option ModeTree) (first : Pos) (d : Diagnostic) (m : ModeTree) → is_none_told (told_not_discrete o first) ≡ true → is_none_told (told_if (holds_of is_large_powerset o) d) ≡ true → option_map powerset o ≡ Some m → is_large m ≡ false
powerset-few None first d m k l h = absurd (cc)
powerset-few (Some x) first d m k l h =
    ap is_large (sym (same_Some (powerset x) m h))
    ∙ not-large (values_of x) (both-false (is_discrete (form_of x)) (nat_lt 32 (values_of x)) (if_none _ _ k) (if_none _ _ l))
  where
    both-false : (a b : Bool) → not a ≡ false → (a && b) ≡ false → b ≡ false
    both-false true b h k = k
    both-false false b h k = absurd (cc)

-- a length is within its limits

within : (z : ℤ) (high : ℕ) → not (int_le (pos 0) z && int_le z (pos high)) ≡ false → natural_of z ≤ high
within (pos n) high h = leb-true n high (right-true (int_le (pos 0) (pos n)) (nat_le n high) h)
  where
    right-true : (a b : Bool) → not (a && b) ≡ false → b ≡ true
    right-true true true h = refl
    right-true true false h = sym h
    right-true false b h = absurd (cc)
within (negsuc n) high h = absurd (cc)

some-length : (v : Option ValueTree) (high n : ℕ) → holds_of (is_outside (from_to 0 high)) v ≡ false → option_map natural_of (option_and_then number_in v) ≡ Some n → n ≤ high
some-length None high n h is = absurd (cc)
some-length (Some (number z)) high n h is = subst (λ k. k ≤ high) (same_Some (natural_of z) n is) (within z high h)
some-length (Some (members bs)) high n h is = absurd (cc)
some-length (Some (parts vs)) high n h is = absurd (cc)

inner-some : (ts : List Diagnostic) (x : Option ℤ) (n : ℕ) → option_map natural_of (unless_told ts x) ≡ Some n → option_map natural_of x ≡ Some n
inner-some [] x n h = h
inner-some (t ∷ ts) x n h = absurd (cc)

length-few : (g : Ground) (high : ℕ) (e : ExprTree) (n : ℕ) → length_of g 0 high e ≡ Some n → n ≤ high
length-few g high e n h =
    let s = kept_some (told_length g 0 high e) (option_map natural_of (needed_number g e)) n h in
    let t = then_none (told_needed g e) (told_if (holds_of (λ c. not (goes_with c int)) (class_of g e) || holds_of (is_outside (from_to 0 high)) (constant_of g e)) (tell_at rules.M6 (place_of e))) s.0 in
    let o = or_none (holds_of (λ c. not (goes_with c int)) (class_of g e)) (holds_of (is_outside (from_to 0 high)) (constant_of g e)) (if_none _ _ t.1) in
    some-length (constant_of g e) high n o.1 (inner-some (told_needed g e) (option_and_then number_in (constant_of g e)) n s.1)

chars-few : (o : Option ℕ) (m : ModeTree) → ((n : ℕ) → o ≡ Some n → n ≤ 256) → option_map chars o ≡ Some m → is_large m ≡ false
chars-few None m k h = absurd (cc)
chars-few (Some n) m k h = ap is_large (sym (same_Some (chars n) m h)) ∙ le-ltb 4096 (max 1 n) (omega (arith, k n refl))

-- L5 isn't told of what is there
told-few : (o : Option ModeTree) (at : Pos) (m : ModeTree) → is_none_told (told_large o at) ≡ true → o ≡ Some m → is_large m ≡ false
told-few o at m k h = ap (holds_of is_large) (sym h) ∙ if_none (holds_of is_large o) (tell_at rules.L5 at) k

pub base_few : (g : Ground) → HasPlainModes g → AreFew g → (whole : Bool) (b : written.BaseTree) (m : ModeTree) → mode_of_base g whole b ≡ Some m → is_large m ≡ false
base_few g plain few whole (written.discrete d) m h = discrete-few g plain few whole d m h
base_few g plain few whole (written.powerset at d) m h =
    let o = mode_of_discrete g false d in
    let s = kept_some (told_of_powerset g at d) (option_map powerset o) m h in
    let t = append_none (told_of_discrete g false d) (told_not_discrete o (first_place_of d) ++ told_if (holds_of is_large_powerset o) (tell_at rules.M5 at)) s.0 in
    let u = append_none (told_not_discrete o (first_place_of d)) (told_if (holds_of is_large_powerset o) (tell_at rules.M5 at)) t.1 in
    powerset-few o (first_place_of d) (tell_at rules.M5 at) m u.0 u.1 s.1
base_few g plain few whole (written.chars at e) m h = chars-few (length_of g 0 256 e) m (length-few g 256 e) h
base_few g plain few whole (written.structure at fs p) m h =
    let all = fields_there g fs in
    let s = kept_some (told_at_structure g at p all) (structure_from p all) m h in
    told-few (structure_from p all) at m (then_none (told_fields g (have_places all) [] all) (told_large (structure_from p all) at) s.0).1 s.1
base_few g plain few whole (written.array at i b w) m h =
    let o = array_from (mode_of_index g i) (mode_of_base g false b) (spread_there g w) in
    let s = kept_some (told_at_array g at (mode_of_index g i) (mode_of_base g false b) w) o m h in
    told-few o at m (then_none (told_spread g at (mode_of_index g i) (mode_of_base g false b) w) (told_large o at) s.0).1 s.1

read-few : (o : Option ModeTree) (m : ModeTree) → ((x : ModeTree) → o ≡ Some x → is_large x ≡ false) → option_map read o ≡ Some m → is_large m ≡ false
read-few None m k h = absurd (cc)
read-few (Some x) m k h = ap is_large (sym (same_Some (read x) m h)) ∙ k x refl

event-few : (whole : Bool) (o : Option (Option ℕ)) (m : ModeTree) → if_whole whole (option_map event o) ≡ Some m → is_large m ≡ false
event-few false o m h = absurd (cc)
event-few true None m h = absurd (cc)
event-few true (Some l) m h = ap is_large (sym (same_Some (event l) m h))

buffer-few : (whole : Bool) (l : Option (Option ℕ)) (e : Option ModeTree) (m : ModeTree) → if_whole whole (buffer_from l e) ≡ Some m → is_large m ≡ false
buffer-few false l e m h = absurd (cc)
buffer-few true None e m h = absurd (cc)
buffer-few true (Some l) None m h = absurd (cc)
buffer-few true (Some l) (Some e) m h = ap is_large (sym (same_Some (buffer l e) m h))

-- no mode that a text writes has more scalars than a mode may have, where none that it names has
pub mode_few : (g : Ground) → HasPlainModes g → AreFew g → (whole : Bool) (w : written.ModeTree) (m : ModeTree) → mode_of g whole w ≡ Some m → is_large m ≡ false
mode_few g plain few whole (written.base_mode b) m h = base_few g plain few whole b m h
mode_few g plain few whole (written.read_mode at b) m h = read-few (mode_of_base g false b) m (base_few g plain few false b) h
mode_few g plain few whole (written.event_mode at l) m h = event-few whole (some_length_of g 1 1000 l) m h
mode_few g plain few whole (written.buffer_mode at l b) m h = buffer-few whole (some_length_of g 0 1000 l) (mode_of_base g false b) m h
