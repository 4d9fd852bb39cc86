-- The modes that are made have no part with more scalars than a mode may have.
use Rattle.std.proofs.Common.{◌≡◌, ℕ, suc, Bool, true, false, List, [], ◌∷◌, ◌++◌, length, map, Option, Some, None, refl, ap, sym, ◌∙◌, arith}
use Rattle.std.proofs.lemmas.Bool.{eqb-true}
use Rattle.std.specs.Prelude.{◌&&◌, ◌+◌, ◌*◌, not, nat_lt}
use Rattle.std.proofs.lemmas.Option.{same_Some}
use Rattle.chill_tree.specs.declared.tree.name.Name.{Name}
use Rattle.chill_tree.specs.ModeTree as written
use Rattle.modes.specs.ModeTree.{ModeTree, int, boolean, char, instance, set_of, range, powerset, chars, array, structure, event, buffer, read, named, FieldTree, field_nodes, FieldNodes, no_fields, more_fields, PlaceTree, SpreadTree}
use Rattle.modes.specs.Scalars.{leaves_of, scalars_in_fields}
use Rattle.modes.specs.Bounds.{values_of}
use Rattle.checks_model.specs.Classes.{count_fields}
use Rattle.checks_model.specs.Ground.{Ground}
use Rattle.checks_model.specs.WrittenModes.{is_large, array_from, mode_of, mode_of_base, fields_there, fields_named, FieldThere}
use Rattle.constant_operators.specs.Grounds.{ground_of, HasGround}
use Rattle.constant_operators.specs.declared.evaluation.Evaluation.{Evaluation}
use Rattle.laid_laws.specs.Few.{AreFew}
use Rattle.laid_laws.specs.Laws.{AreAllLaid, IsNoneLarge}
use Rattle.written_modes.specs.Wholes.{IsLaidThere, IsFewThere}
use Rattle.written_modes.specs.Parts.{fields_have_few, has_few_parts, has_one_part}
use Rattle.written_modes.specs.Fields.{FieldSeen, field_seen, tree_of_field, tree_from, tree_behind, trees_of_fields}
use Rattle.written_modes.specs.Places.{held_by}

-- ---- modes of one part

not-true : (b : Bool) → not b ≡ true → b ≡ false
not-true true h = sym h
not-true false h = refl

and-left : (a b : Bool) → (a && b) ≡ true → a ≡ true
and-left true b h = refl
and-left false b h = h

one-more : (k n : ℕ) → k ≡ 1 → k * n ≡ n
one-more k n h = ap (λ j. j * n) h ∙ omega arith

one-field : (fs : FieldNodes) → count_fields fs ≡ 0 → scalars_in_fields 1 fs ≡ 0
one-field no_fields h = refl
one-field (more_fields name m at fs) h = absurd (omega (arith, h))

structure-few : (fs : FieldNodes) (p : Bool) → count_fields fs ≡ 1 → fields_have_few fs ≡ true → is_large (structure fs p) ≡ false
structure-few no_fields p h k = refl
structure-few (more_fields name m at fs) p h k =
    let rest : scalars_in_fields 1 fs ≡ 0 = one-field fs (omega (arith, h)) in
    let same : leaves_of m + scalars_in_fields 1 fs ≡ leaves_of m = omega (arith, rest) in
    ap (nat_lt 4096) same ∙ not-true (is_large m) (and-left (not (is_large m)) (fields_have_few fs) k)

few-part : (m : ModeTree) → has_one_part m ≡ true → has_few_parts m ≡ true → is_large m ≡ false
few-part (array i e how) o k = ap (nat_lt 4096) (one-more (values_of i) (leaves_of e) (eqb-true (values_of i) 1 o)) ∙ not-true (is_large e) k
few-part (structure fs p) o k = structure-few fs p (eqb-true (count_fields fs) 1 o) k
few-part int o k = refl
few-part boolean o k = refl
few-part char o k = refl
few-part instance o k = refl
few-part (set_of d n) o k = refl
few-part (range p l h) o k = refl
few-part (powerset m) o k = absurd (cc)
few-part (chars n) o k = absurd (cc)
few-part (event l) o k = refl
few-part (buffer l e) o k = refl
few-part (read m) o k = absurd (cc)
few-part (named d n m) o k = absurd (cc)

-- a mode of one part has as many scalars as that
pub one_part_few : (m : ModeTree) → has_one_part m ≡ true → has_few_parts m ≡ true → false ≡ is_large m
one_part_few m o k = sym (few-part m o k)

pub fields_counted : (fs : List FieldTree) → count_fields (field_nodes fs) ≡ length fs
fields_counted [] = refl
fields_counted (f ∷ fs) = ap suc (fields_counted fs) ∙ omega arith

-- ---- fields

-- the modes of fields have few scalars
abbrev FieldsFew : List FieldThere → Type 0
FieldsFew [] = Unit {0}
FieldsFew (f ∷ fs) = ((m : ModeTree) → f.mode ≡ Some m → is_large m ≡ false) × FieldsFew fs

named-fields : (g : Ground) (m : Option ModeTree) (w : Option written.PlaceTree) → ((x : ModeTree) → m ≡ Some x → is_large x ≡ false) → (ns : List Name) (fs : List FieldThere) → FieldsFew fs → FieldsFew (fields_named g m w ns ++ fs)
named-fields g m w h [] fs k = k
named-fields g m w h (n ∷ ns) fs k = (h, named-fields g m w h ns fs k)

-- the modes of values that a text writes have few
abbrev pub BasesFew : Ground → Type 0
BasesFew g = (b : written.BaseTree) (m : ModeTree) → mode_of_base g false b ≡ Some m → is_large m ≡ false

pub bases_few : IsNoneLarge → (e : Evaluation) → AreFew (ground_of e) → BasesFew (ground_of e)
bases_few law e few b m h = law e few false (written.base_mode b) m h

fields-few : (g : Ground) → BasesFew g → (fs : written.FieldNodes) → FieldsFew (fields_there g fs)
fields-few g few written.no_fields = tt
fields-few g few (written.more_fields ns b w fs) = named-fields g (mode_of_base g false b) w (few b) ns (fields_there g fs) (fields-few g few fs)

-- ---- fields as the code sees them

tree-from : (n : List ℕ) (m : Option ModeTree) (at : Option (Option PlaceTree)) (t : FieldTree) → tree_from n m at ≡ Some t → m ≡ Some t.mode
tree-from n None at t h = absurd (cc)
tree-from n (Some m) None t h = absurd (cc)
tree-from n (Some m) (Some at) t h = ap (λ t. Some t.mode) (same_Some (record { name = n; mode = m; at = at }) t h)

few-behind : (t : Option FieldTree) (r : Option (List FieldTree)) (ts : List FieldTree) → ((x : FieldTree) → t ≡ Some x → is_large x.mode ≡ false) → ((xs : List FieldTree) → r ≡ Some xs → fields_have_few (field_nodes xs) ≡ true) → tree_behind t r ≡ Some ts → fields_have_few (field_nodes ts) ≡ true
few-behind None r ts h k is = absurd (cc)
few-behind (Some t) None ts h k is = absurd (cc)
few-behind (Some t) (Some rest) ts h k is =
    ap (λ ts. fields_have_few (field_nodes ts)) (sym (same_Some (t ∷ rest) ts is))
    ∙ ap (λ b. not b && fields_have_few (field_nodes rest)) (h t refl) ∙ k rest refl

trees-few : (g : Ground) (fs : List FieldThere) → FieldsFew fs → (ts : List FieldTree) → trees_of_fields (map (field_seen g) fs) ≡ Some ts → fields_have_few (field_nodes ts) ≡ true
trees-few g [] k ts h = ap (λ ts. fields_have_few (field_nodes ts)) (sym (same_Some [] ts h))
trees-few g (f ∷ fs) k ts h =
    few-behind (tree_of_field (field_seen g f)) (trees_of_fields (map (field_seen g) fs)) ts
    (λ x is. k.0 x.mode (tree-from f.name.text f.mode (held_by (field_seen g f).place) x is)) (trees-few g fs k.1) h

-- the fields of a structure that is made have few scalars each
pub fields_seen_few : (g : Ground) → BasesFew g → (ws : written.FieldNodes) (seen : List FieldSeen) (ts : List FieldTree) → seen ≡ map (field_seen g) (fields_there g ws) → trees_of_fields seen ≡ Some ts → fields_have_few (field_nodes ts) ≡ true
fields_seen_few g few ws seen ts e h = trees-few g (fields_there g ws) (fields-few g few ws) ts (ap trees_of_fields (sym e) ∙ h)

-- an array of such elements has few in its part
pub element_few : (x e : Option ModeTree) (h : Option SpreadTree) (m : ModeTree) → ((y : ModeTree) → e ≡ Some y → is_large y ≡ false) → array_from x e h ≡ Some m → has_few_parts m ≡ true
element_few None e h m few is = absurd (cc)
element_few (Some x) None h m few is = absurd (cc)
element_few (Some x) (Some e) None m few is = absurd (cc)
element_few (Some x) (Some e) (Some h) m few is = ap has_few_parts (sym (same_Some (array x e h) m is)) ∙ ap not (few e refl)

-- ---- what a text writes

pub laid_there : AreAllLaid → (e : Evaluation) → HasGround e → (whole : Bool) (w : written.ModeTree) (o : Option ModeTree) → o ≡ mode_of (ground_of e) whole w → IsLaidThere o
laid_there law e h whole w o is = λ m at. law e h whole w m (sym is ∙ at)

pub few_there : IsNoneLarge → (e : Evaluation) → AreFew (ground_of e) → (whole : Bool) (w : written.ModeTree) (o : Option ModeTree) → o ≡ mode_of (ground_of e) whole w → IsFewThere o
few_there law e h whole w o is = λ m at. law e h whole w m (sym is ∙ at)
