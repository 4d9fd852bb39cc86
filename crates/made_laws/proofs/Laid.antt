-- The modes that a text writes have places for their scalars: no place is impossible, and no two fields share a bit.
use Rattle.std.proofs.Common.{◌≡◌, ℕ, suc, Bool, true, false, List, [], ◌∷◌, ◌++◌, length, map, Option, Some, None, refl, ap, sym, ◌∙◌, subst, append_assoc, arith}
use Rattle.std.specs.Prelude.{◌&&◌, ◌||◌, not, is_ok, is_some, if◌then◌else◌, IsTrue, option_map, option_and_then, ℤ}
use Rattle.std.proofs.Math.Seq.{get_or-append_seam}
use Rattle.std.proofs.lemmas.Option.{same_Some}
use Rattle.chill_tree.specs.declared.tree.name.Name.{Name}
use Rattle.chill_tree.specs.ModeTree as written
use Rattle.diagnostics.specs.declared.diagnostic.Diagnostic.{Diagnostic}
use Rattle.diagnostics.specs.declared.rule.Rule.TheVariants as rules
use Rattle.modes.specs.ModeTree.{ModeTree, set_of, range, powerset, chars, array, structure, event, buffer, read, FieldNodes, no_fields, more_fields, PlaceTree, SpreadTree, words, packed, step}
use Rattle.modes.specs.Bounds.{values_of}
use Rattle.layout_map.specs.Place.{is_possible, is_possible_step, shares}
use Rattle.layout_map.specs.Numbered.{some_placed, all_placed, are_mixed, is_misplaced}
use Rattle.layout_map.specs.Overlap.{share, sharing_from, found, second_from, placed_overlap, ats_of}
use Rattle.layout_map.specs.Spots.{is_placed}
use Rattle.names_model.specs.NameRules.{tell}
use Rattle.checks_model.specs.Ground.{Ground, number_at, mode_of_name}
use Rattle.checks_model.specs.Told.{told_if, is_none_told, holds_of_both}
use Rattle.checks_model.specs.WrittenModes as model
use Rattle.checks_model.specs.WrittenModes.{told_large, set_named, range_from, told_range, needed_number, mode_of_discrete, told_name, discrete_name, told_discrete_name, told_of_powerset, length_of, mode_of_base, told_at_array, array_from, told_spread, spread_there, step_misfits, holds_of_three, is_impossible_spread, mode_of_index, told_at_structure, told_fields, told_field, told_overlap, shares_with, is_twice, have_places, has_place, held_place, field_from, fields_from, structure_from, fields_there, fields_named, FieldThere, is_packed, place_there, place_has_no_int, if_whole, mode_of, some_length_of, buffer_from}
use Rattle.constant_operators.specs.Laid.{step_is_laid, are_apart, is_laid, fields_are_laid}
use Rattle.table_laws.specs.Names.{names_in_discrete, names_in_index, names_in_some_place, names_in_spread, names_in_base, names_in_fields, names_in_mode}
use Rattle.written_laws.specs.Written.{Each}
use Rattle.expression_laws.proofs.Actions.{each_first, each_later}
use Rattle.made_laws.proofs.Gates.{kept_some, then_none, if_none, or_none, append_none}

and-true : (a b : Bool) → IsTrue a → IsTrue b → IsTrue (a && b)
and-true true b h k = k
and-true false b h k = h

-- ---- names, ranges and sets

-- the mode that a name stands for has places
abbrev pub IsNameLaid : Ground → Name → Type 0
IsNameLaid g n = (m : ModeTree) → mode_of_name g n ≡ Some m → IsTrue (is_laid m)

abbrev pub AreNamesLaid : Ground → List Name → Type 0
AreNamesLaid g ns = Each (IsNameLaid g) ns

set-laid : (o : Option ℕ) (k : ℕ) (m : ModeTree) → option_map (λ first. set_of first k) o ≡ Some m → IsTrue (is_laid m)
set-laid None k m h = absurd (cc)
set-laid (Some d) k m h = ap is_laid (sym (same_Some (set_of d k) m h))

named-laid : (g : Ground) (ns : List Name) (m : ModeTree) → set_named g ns ≡ Some m → IsTrue (is_laid m)
named-laid g [] m h = absurd (cc)
named-laid g (n ∷ ns) m h = set-laid (number_at g.defined n.at) (length (n ∷ ns)) m h

range-laid : (p : Option ModeTree) (l h : Option ℤ) (m : ModeTree) → ((x : ModeTree) → p ≡ Some x → IsTrue (is_laid x)) → range_from p l h ≡ Some m → IsTrue (is_laid m)
range-laid None l h m k is = absurd (cc)
range-laid (Some p) None h m k is = absurd (cc)
range-laid (Some p) (Some l) None m k is = absurd (cc)
range-laid (Some p) (Some l) (Some h) m k is = ap is_laid (sym (same_Some (range p l h) m is)) ∙ k p refl

discrete-laid : (g : Ground) (whole : Bool) (d : written.DiscreteTree) (m : ModeTree) → AreNamesLaid g (names_in_discrete d) → mode_of_discrete g whole d ≡ Some m → IsTrue (is_laid m)
discrete-laid g whole (written.named n) m laid h = laid.0 m (kept_some (told_name g whole n) (mode_of_name g n) m h).1
discrete-laid g whole (written.bounded n l u) m laid h =
    range-laid (discrete_name g n) (needed_number g l) (needed_number g u) m
    (λ x is. laid.0 x (kept_some (told_discrete_name g n) (mode_of_name g n) x is).1)
    (kept_some (told_range g (discrete_name g n) l u) (range_from (discrete_name g n) (needed_number g l) (needed_number g u)) m h).1
discrete-laid g whole (written.set_of at ns) m laid h = named-laid g ns m h

powerset-laid : (o : Option ModeTree) (m : ModeTree) → option_map powerset o ≡ Some m → IsTrue (is_laid m)
powerset-laid None m h = absurd (cc)
powerset-laid (Some x) m h = ap is_laid (sym (same_Some (powerset x) m h))

chars-laid : (o : Option ℕ) (m : ModeTree) → option_map chars o ≡ Some m → IsTrue (is_laid m)
chars-laid None m h = absurd (cc)
chars-laid (Some n) m h = ap is_laid (sym (same_Some (chars n) m h))

-- ---- arrays

not-not : (b : Bool) → not b ≡ false → IsTrue b
not-not true h = refl
not-not false h = sym h

step-laid : (i e : ModeTree) (how : SpreadTree) → is_impossible_spread i e how ≡ false → IsTrue (step_is_laid (values_of i) e how)
step-laid i e words h = refl
step-laid i e packed h = refl
step-laid i e (step p d) h = not-not (is_possible_step (values_of i) e p d) h

array-laid : (i e : Option ModeTree) (how : Option SpreadTree) (m : ModeTree) → holds_of_three is_impossible_spread i e how ≡ false → ((x : ModeTree) → e ≡ Some x → IsTrue (is_laid x)) → array_from i e how ≡ Some m → IsTrue (is_laid m)
array-laid None e how m h k is = absurd (cc)
array-laid (Some i) None how m h k is = absurd (cc)
array-laid (Some i) (Some e) None m h k is = absurd (cc)
array-laid (Some i) (Some e) (Some how) m h k is =
    ap is_laid (sym (same_Some (array i e how) m is)) ∙ and-true (step_is_laid (values_of i) e how) (is_laid e) (step-laid i e how h) (k e refl)

-- ---- fields that share no bit

-- none of the places shares a bit with this one
abbrev NoneShares : Option PlaceTree → List (Option PlaceTree) → Type 0
NoneShares a [] = Unit {0}
NoneShares a (e ∷ es) = (share e a ≡ false) × NoneShares a es

-- none of the later places shares a bit with an earlier one
abbrev ShareNone : List (Option PlaceTree) → List (Option PlaceTree) → Type 0
ShareNone earlier [] = Unit {0}
ShareNone earlier (a ∷ later) = NoneShares a earlier × ShareNone (earlier ++ a ∷ []) later

behind : {A : Type 0} (pre : List A) (e : A) (rest : List A) → pre ++ e ∷ rest ≡ (pre ++ e ∷ []) ++ rest
behind pre e rest = sym (append_assoc pre (e ∷ []) rest)

longer : {A : Type 0} (pre : List A) (e : A) → length (pre ++ e ∷ []) ≡ suc (length pre)
longer [] e = omega arith
longer (x ∷ xs) e = let k : length (xs ++ e ∷ []) ≡ suc (length xs) = longer xs e in omega (arith, k)

none-sharing : (a : Option PlaceTree) (pre es rest : List (Option PlaceTree)) → NoneShares a es → sharing_from (length es) (length pre) a (pre ++ (es ++ rest)) ≡ None
none-sharing a pre [] rest h = refl
none-sharing a pre (e ∷ es) rest h =
    ap (λ x. if share x a then Some (length pre) else sharing_from (length es) (suc (length pre)) a (pre ++ e ∷ (es ++ rest))) (get_or-append_seam pre e (es ++ rest) None)
    ∙ ap (λ b. if b then Some (length pre) else sharing_from (length es) (suc (length pre)) a (pre ++ e ∷ (es ++ rest))) h.0
    ∙ ap (λ n. sharing_from (length es) n a (pre ++ e ∷ (es ++ rest))) (sym (longer pre e))
    ∙ ap (λ xs. sharing_from (length es) (length (pre ++ e ∷ [])) a xs) (behind pre e (es ++ rest))
    ∙ none-sharing a (pre ++ e ∷ []) es rest h.1

none-second : (earlier later : List (Option PlaceTree)) (number : ℕ) → ShareNone earlier later → IsTrue (is_ok (second_from (length later) (length earlier) number (earlier ++ later)))
none-second earlier [] number h = refl
none-second earlier (a ∷ later) number h =
    ap (λ o. is_ok (found number (length earlier) o (second_from (length later) (suc (length earlier)) number (earlier ++ a ∷ later))))
    (ap (λ x. sharing_from (length earlier) 0 x (earlier ++ a ∷ later)) (get_or-append_seam earlier a later None) ∙ none-sharing a [] earlier (a ∷ later) h.0)
    ∙ ap (λ n. is_ok (second_from (length later) n number (earlier ++ a ∷ later))) (sym (longer earlier a))
    ∙ ap (λ xs. is_ok (second_from (length later) (length (earlier ++ a ∷ [])) number xs)) (behind earlier a later)
    ∙ none-second (earlier ++ a ∷ []) later number h.1

either-apart : (b c : Bool) → IsTrue c → IsTrue (if b then c else true)
either-apart true c h = h
either-apart false c h = refl

-- ---- fields as the rules see them

-- one that has no place written has none, and its mode has places
abbrev AreSeen : List FieldThere → Type 0
AreSeen [] = Unit {0}
AreSeen (f ∷ fs) = ((f.written ≡ None → f.place ≡ None) × ((m : ModeTree) → f.mode ≡ Some m → IsTrue (is_laid m))) × AreSeen fs

abbrev places : List FieldThere → List (Option PlaceTree)
places fs = map (λ f. f.place) fs

shares-same : (e f : Option PlaceTree) → holds_of_both shares e f ≡ share e f
shares-same None f = refl
shares-same (Some p) None = refl
shares-same (Some p) (Some q) = refl

overlap-none : (earlier : List FieldThere) (f : FieldThere) → is_none_told (told_overlap earlier f) ≡ true → NoneShares f.place (places earlier)
overlap-none [] f h = tt
overlap-none (e ∷ es) f h = by_test (shares_with f e) refl h (overlap-none es f)
  where
    d : Diagnostic
    d = record { at = f.name.at; rule = rules.M13; first = e.name.text; second = f.name.text }

    by_test : (b : Bool) → shares_with f e ≡ b → is_none_told (if b then d ∷ [] else told_overlap es f) ≡ true → (is_none_told (told_overlap es f) ≡ true → NoneShares f.place (places es)) → NoneShares f.place (places (e ∷ es))
    by_test true k h more = absurd (cc)
    by_test false k h more = (sym (shares-same e.place f.place) ∙ k, more h)

map-behind : {A B : Type 0} (f : A → B) (xs : List A) (x : A) → map f (xs ++ x ∷ []) ≡ map f xs ++ f x ∷ []
map-behind f [] x = refl
map-behind f (y ∷ ys) x = ap (λ zs. f y ∷ zs) (map-behind f ys x)

fields-apart : (g : Ground) (all : Bool) (earlier fs : List FieldThere) → is_none_told (told_fields g all earlier fs) ≡ true → ShareNone (places earlier) (places fs)
fields-apart g all earlier [] h = tt
fields-apart g all earlier (f ∷ fs) h =
    let s = append_none (told_field g all earlier f) (told_fields g all (earlier ++ f ∷ []) fs) h in
    let t = append_none (told_if (is_twice earlier f) (tell f.name.at rules.M7 f.name.text) ++ told_overlap earlier f) (told_if (model.is_misplaced g all f) (tell f.name.at rules.M14 f.name.text)) s.0 in
    let u = append_none (told_if (is_twice earlier f) (tell f.name.at rules.M7 f.name.text)) (told_overlap earlier f) t.0 in
    (overlap-none earlier f u.1, subst (λ es. ShareNone es (places fs)) (map-behind (λ f. f.place) earlier f) (fields-apart g all (earlier ++ f ∷ []) fs s.1))

-- ---- fields whose places are possible

abbrev seen : Name → Option ModeTree → Option written.PlaceTree → Option PlaceTree → FieldThere
seen n m w p = record { name = n; mode = m; written = w; place = p }

at-placed : (n : Name) (m : Option ModeTree) (w : Option written.PlaceTree) (p at : Option PlaceTree) → held_place (seen n m w p) ≡ Some at → is_some at ≡ is_some w
at-placed n m None p at h = ap is_some (sym (same_Some None at h))
at-placed n m (Some x) None at h = absurd (cc)
at-placed n m (Some x) (Some q) at h = ap is_some (sym (same_Some (Some q) at h))

at-held : (n : Name) (m : Option ModeTree) (w : Option written.PlaceTree) (p at : Option PlaceTree) → (w ≡ None → p ≡ None) → held_place (seen n m w p) ≡ Some at → at ≡ p
at-held n m None p at k h = sym (same_Some None at h) ∙ sym (k refl)
at-held n m (Some x) None at k h = absurd (cc)
at-held n m (Some x) (Some q) at k h = sym (same_Some (Some q) at h)

not-false : (b : Bool) → not b ≡ false → b ≡ true
not-false true h = refl
not-false false h = sym h

neither : (a b : Bool) → a ≡ false → b ≡ false → not (a || b) ≡ true
neither true b h k = sym h
neither false b h k = ap not k

one-laid : (g : Ground) (all mixed : Bool) (n : Name) (o : Option ModeTree) (w : Option written.PlaceTree) (p : Option PlaceTree) (m : ModeTree) (at : Option PlaceTree) → (all ≡ true → mixed ≡ false) → model.is_misplaced g all (seen n o w p) ≡ false → o ≡ Some m → held_place (seen n o w p) ≡ Some at → IsTrue (not (is_misplaced m at mixed))
one-laid g all mixed n o None p m at k h is held = ap (λ x. not (is_misplaced m x mixed)) (sym (same_Some None at held))
one-laid g all mixed n o (Some x) None m at k h is held = absurd (cc)
one-laid g all mixed n o (Some x) (Some q) m at k h is held =
    let s = or_none (not all) (place_has_no_int g (Some x) || holds_of_both (λ m p. not (is_possible m p)) o (Some q)) h in
    let t = or_none (place_has_no_int g (Some x)) (holds_of_both (λ m p. not (is_possible m p)) o (Some q)) s.1 in
    ap (λ y. not (is_misplaced m y mixed)) (sym (same_Some (Some q) at held))
    ∙ neither mixed (not (is_possible m q)) (k (not-false all s.0)) (ap (λ y. holds_of_both (λ m p. not (is_possible m p)) y (Some q)) (sym is) ∙ t.1)

-- the field that is made, and those behind it
record Made (n : List ℕ) (o : Option ModeTree) (h : Option (Option PlaceTree)) (r : Option FieldNodes) (nodes : FieldNodes) : Type 0 where
  mode : ModeTree
  at : Option PlaceTree
  rest : FieldNodes
  mode_is : o ≡ Some mode
  at_is : h ≡ Some at
  rest_is : r ≡ Some rest
  nodes_are : more_fields n mode at rest ≡ nodes

made : (n : List ℕ) (o : Option ModeTree) (h : Option (Option PlaceTree)) (r : Option FieldNodes) (nodes : FieldNodes) → field_from n o h r ≡ Some nodes → Made n o h r nodes
made n (Some m) (Some at) (Some fs) nodes is = record { mode = m; at = at; rest = fs; mode_is = refl; at_is = refl; rest_is = refl; nodes_are = same_Some (more_fields n m at fs) nodes is }
made n None h r nodes is = absurd (cc)
made n (Some m) None r nodes is = absurd (cc)
made n (Some m) (Some at) None nodes is = absurd (cc)

are-placed : (fs : List FieldThere) (nodes : FieldNodes) → fields_from fs ≡ Some nodes → all_placed nodes ≡ have_places fs
are-placed [] nodes h = ap all_placed (sym (same_Some no_fields nodes h))
are-placed (f ∷ fs) nodes h =
    let x = made f.name.text f.mode (held_place f) (fields_from fs) nodes h in
    ap all_placed (sym x.nodes_are)
    ∙ ap (λ b. b && all_placed x.rest) (at-placed f.name f.mode f.written f.place x.at x.at_is)
    ∙ ap (λ b. has_place f && b) (are-placed fs x.rest x.rest_is)

mixed-none : (fs : List FieldThere) (nodes : FieldNodes) → fields_from fs ≡ Some nodes → have_places fs ≡ true → are_mixed nodes ≡ false
mixed-none fs nodes h all = ap (λ b. some_placed nodes && not b) (are-placed fs nodes h ∙ all) ∙ and-false (some_placed nodes)
  where
    and-false : (b : Bool) → (b && false) ≡ false
    and-false true = refl
    and-false false = refl

places-held : (fs : List FieldThere) (nodes : FieldNodes) → AreSeen fs → fields_from fs ≡ Some nodes → ats_of nodes ≡ places fs
places-held [] nodes s h = ap ats_of (sym (same_Some no_fields nodes h))
places-held (f ∷ fs) nodes s h =
    let x = made f.name.text f.mode (held_place f) (fields_from fs) nodes h in
    ap ats_of (sym x.nodes_are)
    ∙ ap (λ a. a ∷ ats_of x.rest) (at-held f.name f.mode f.written f.place x.at s.0.0 x.at_is)
    ∙ ap (λ later. f.place ∷ later) (places-held fs x.rest s.1 x.rest_is)

fields-laid : (g : Ground) (all mixed : Bool) (earlier fs : List FieldThere) (nodes : FieldNodes) → (all ≡ true → mixed ≡ false) → is_none_told (told_fields g all earlier fs) ≡ true → AreSeen fs → fields_from fs ≡ Some nodes → IsTrue (fields_are_laid nodes mixed)
fields-laid g all mixed earlier [] nodes k h s is = ap (λ ns. fields_are_laid ns mixed) (sym (same_Some no_fields nodes is))
fields-laid g all mixed earlier (f ∷ fs) nodes k h s is =
    let x = made f.name.text f.mode (held_place f) (fields_from fs) nodes is in
    let t = append_none (told_field g all earlier f) (told_fields g all (earlier ++ f ∷ []) fs) h in
    let v = append_none (told_if (is_twice earlier f) (tell f.name.at rules.M7 f.name.text) ++ told_overlap earlier f) (told_if (model.is_misplaced g all f) (tell f.name.at rules.M14 f.name.text)) t.0 in
    ap (λ ns. fields_are_laid ns mixed) (sym x.nodes_are)
    ∙ and-true (not (is_misplaced x.mode x.at mixed)) (is_laid x.mode && fields_are_laid x.rest mixed)
    (one-laid g all mixed f.name f.mode f.written f.place x.mode x.at k (if_none (model.is_misplaced g all f) (tell f.name.at rules.M14 f.name.text) v.1) x.mode_is x.at_is)
    (and-true (is_laid x.mode) (fields_are_laid x.rest mixed) (s.0.1 x.mode x.mode_is) (fields-laid g all mixed (earlier ++ f ∷ []) fs x.rest k t.1 s.1 x.rest_is))

nodes-laid : (g : Ground) (fs : List FieldThere) (nodes : FieldNodes) → is_none_told (told_fields g (have_places fs) [] fs) ≡ true → AreSeen fs → fields_from fs ≡ Some nodes → IsTrue (are_apart nodes && fields_are_laid nodes (are_mixed nodes))
nodes-laid g fs nodes h s is =
    and-true (are_apart nodes) (fields_are_laid nodes (are_mixed nodes))
    (either-apart (is_placed nodes) (is_ok (placed_overlap (ats_of nodes) 0))
    (ap (λ later. is_ok (placed_overlap later 0)) (places-held fs nodes s is) ∙ none-second [] (places fs) 0 (fields-apart g (have_places fs) [] fs h)))
    (fields-laid g (have_places fs) (are_mixed nodes) [] fs nodes (mixed-none fs nodes is) h s is)

structure-laid : (g : Ground) (fs : List FieldThere) (dense : Bool) (m : ModeTree) → is_none_told (told_fields g (have_places fs) [] fs) ≡ true → AreSeen fs → (o : Option FieldNodes) → fields_from fs ≡ o → option_map (λ ns. structure ns dense) o ≡ Some m → IsTrue (is_laid m)
structure-laid g fs dense m h s None at is = absurd (cc)
structure-laid g fs dense m h s (Some nodes) at is = ap is_laid (sym (same_Some (structure nodes dense) m is)) ∙ nodes-laid g fs nodes h s at

-- ---- modes

named-seen : (g : Ground) (m : Option ModeTree) (w : Option written.PlaceTree) → ((x : ModeTree) → m ≡ Some x → IsTrue (is_laid x)) → (ns : List Name) (fs : List FieldThere) → AreSeen fs → AreSeen (fields_named g m w ns ++ fs)
named-seen g m w h [] fs k = k
named-seen g m w h (n ∷ ns) fs k = ((λ e. ap (option_and_then (place_there g)) e, h), named-seen g m w h ns fs k)

mutual
  pub base_laid : (g : Ground) (whole : Bool) (b : written.BaseTree) (m : ModeTree) → AreNamesLaid g (names_in_base b) → mode_of_base g whole b ≡ Some m → IsTrue (is_laid m)
  base_laid g whole (written.discrete d) m laid h = discrete-laid g whole d m laid h
  base_laid g whole (written.powerset at d) m laid h =
      powerset-laid (mode_of_discrete g false d) m (kept_some (told_of_powerset g at d) (option_map powerset (mode_of_discrete g false d)) m h).1
  base_laid g whole (written.chars at e) m laid h = chars-laid (length_of g 0 256 e) m h
  base_laid g whole (written.structure at fs p) m laid h =
      let all = fields_there g fs in
      let s = kept_some (told_at_structure g at p all) (structure_from p all) m h in
      structure-laid g all (is_packed p) m (then_none (told_fields g (have_places all) [] all) (told_large (structure_from p all) at) s.0).0 (seen-laid g fs laid) (fields_from all) refl s.1
  base_laid g whole (written.array at i b w) m laid h =
      let e = mode_of_base g false b in
      let o = array_from (mode_of_index g i) e (spread_there g w) in
      let s = kept_some (told_at_array g at (mode_of_index g i) e w) o m h in
      let t = then_none (told_spread g at (mode_of_index g i) e w) (told_large o at) s.0 in
      let u = or_none (step_misfits g w) (holds_of_three is_impossible_spread (mode_of_index g i) e (spread_there g w)) (if_none _ _ t.0) in
      let front = each_first (IsNameLaid g) (names_in_index i ++ names_in_base b) (names_in_spread w) laid in
      let inner = each_later (IsNameLaid g) (names_in_index i) (names_in_base b) front in
      array-laid (mode_of_index g i) e (spread_there g w) m u.1 (λ x is. base_laid g false b x inner is) s.1

  seen-laid : (g : Ground) (fs : written.FieldNodes) → AreNamesLaid g (names_in_fields fs) → AreSeen (fields_there g fs)
  seen-laid g written.no_fields laid = tt
  seen-laid g (written.more_fields ns b w fs) laid =
      let front = each_first (IsNameLaid g) (names_in_base b ++ names_in_some_place w) (names_in_fields fs) laid in
      let inner = each_first (IsNameLaid g) (names_in_base b) (names_in_some_place w) front in
      named-seen g (mode_of_base g false b) w (λ x is. base_laid g false b x inner is) ns (fields_there g fs) (seen-laid g fs (each_later (IsNameLaid g) (names_in_base b ++ names_in_some_place w) (names_in_fields fs) laid))

read-laid : (o : Option ModeTree) (m : ModeTree) → ((x : ModeTree) → o ≡ Some x → IsTrue (is_laid x)) → option_map read o ≡ Some m → IsTrue (is_laid m)
read-laid None m k h = absurd (cc)
read-laid (Some x) m k h = ap is_laid (sym (same_Some (read x) m h)) ∙ k x refl

event-laid : (whole : Bool) (o : Option (Option ℕ)) (m : ModeTree) → if_whole whole (option_map event o) ≡ Some m → IsTrue (is_laid m)
event-laid false o m h = absurd (cc)
event-laid true None m h = absurd (cc)
event-laid true (Some l) m h = ap is_laid (sym (same_Some (event l) m h))

buffer-laid : (whole : Bool) (l : Option (Option ℕ)) (e : Option ModeTree) (m : ModeTree) → if_whole whole (buffer_from l e) ≡ Some m → IsTrue (is_laid m)
buffer-laid false l e m h = absurd (cc)
buffer-laid true None e m h = absurd (cc)
buffer-laid true (Some l) None m h = absurd (cc)
buffer-laid true (Some l) (Some e) m h = ap is_laid (sym (same_Some (buffer l e) m h))

-- each mode that a text writes has places for its scalars, where those that it names have
pub mode_laid : (g : Ground) (whole : Bool) (w : written.ModeTree) (m : ModeTree) → AreNamesLaid g (names_in_mode w) → mode_of g whole w ≡ Some m → IsTrue (is_laid m)
mode_laid g whole (written.base_mode b) m laid h = base_laid g whole b m laid h
mode_laid g whole (written.read_mode at b) m laid h = read-laid (mode_of_base g false b) m (λ x is. base_laid g false b x laid is) h
mode_laid g whole (written.event_mode at l) m laid h = event-laid whole (some_length_of g 1 1000 l) m h
mode_laid g whole (written.buffer_mode at l b) m laid h = buffer-laid whole (some_length_of g 0 1000 l) (mode_of_base g false b) m h
