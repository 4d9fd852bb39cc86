-- The rules on the fields of a structure ask only what is known of them.
use Rattle.std.proofs.Common.{◌≡◌, ◌<◌, ◌+◌, ℕ, List, [], ◌∷◌, ◌++◌, map, length, take, drop, get_or, refl, ap, sym, ◌∙◌, append_assoc}
use Rattle.std.proofs.lemmas.List.{take_more, drop_more}
use Rattle.written_modes.proofs.Gates.{none-append}
use Rattle.std.specs.Prelude.{Bool, true, false, ◌&&◌, ◌||◌, if◌then◌else◌, Option, Some, None, is_some, option_map}
use Rattle.std.specs.Str.{bytes_eq}
use Rattle.chill_tree.specs.declared.tree.name.Name.{Name}
use Rattle.chill_tree.specs.declared.tree.mode.Packing.{Packing}
use Rattle.chill_tree.specs.ModeTree as written
use Rattle.chill_tree.specs.declared.tree.mode.Field.{Field}
use Rattle.modes.specs.ModeTree.{ModeTree, FieldTree, PlaceTree, structure, field_nodes}
use Rattle.diagnostics.specs.declared.diagnostic.Diagnostic.{Diagnostic}
use Rattle.diagnostics.specs.declared.rule.Rule.TheVariants as rules
use Rattle.names_model.specs.NameRules.{tell}
use Rattle.definition_origins.specs.Told.{tell_both}
use Rattle.checks_model.specs.Ground.{Ground}
use Rattle.checks_model.specs.Told.{told_if, is_none_told}
use Rattle.checks_model.specs.WrittenModes.{FieldThere, is_twice, told_overlap, is_misplaced, shares_with, told_field, told_fields, have_places, has_place, held_place, field_from, fields_from, structure_from, is_packed, fields_there, fields_named, mode_of_base, told_of_base, told_in_fields, told_in_some_place}
use Rattle.written_modes.specs.declared.fields.PlacedField.{PlacedField}
use Rattle.written_modes.specs.Fields.{FieldSeen, field_view, field_seen, seen_as, place_of_field, has_name, all_placed, told_sharing, told_one, told_all, tree_from, tree_behind, trees_of_fields}
use Rattle.written_modes.specs.Places.{held_by, place_seen}

pub map-behind : {A B : Type 0} (f : A → B) (xs : List A) (x : A) → map f (xs ++ x ∷ []) ≡ map f xs ++ f x ∷ []
map-behind f [] x = refl
map-behind f (y ∷ ys) x = ap (λ zs. f y ∷ zs) (map-behind f ys x)

names-seen : (g : Ground) (earlier : List FieldThere) (f : FieldThere) → is_twice earlier f ≡ has_name (map (field_seen g) earlier) f.name.text
names-seen g [] f = refl
names-seen g (e ∷ es) f = ap (λ b. bytes_eq e.name.text f.name.text || b) (names-seen g es f)

sharing-seen : (g : Ground) (earlier : List FieldThere) (f : FieldThere) → told_overlap earlier f ≡ told_sharing (map (field_seen g) earlier) (field_seen g f)
sharing-seen g [] f = refl
sharing-seen g (e ∷ es) f = ap (λ rest. if shares_with f e then tell_both f.name.at rules.M13 e.name.text f.name.text ∷ [] else rest) (sharing-seen g es f)

one-seen : (g : Ground) (all : Bool) (earlier : List FieldThere) (f : FieldThere) → told_field g all earlier f ≡ told_one all (map (field_seen g) earlier) (field_seen g f)
one-seen g all earlier f =
    ap (λ b. told_if b (tell f.name.at rules.M7 f.name.text) ++ told_overlap earlier f ++ told_if (is_misplaced g all f) (tell f.name.at rules.M14 f.name.text)) (names-seen g earlier f)
    ∙ ap (λ ts. told_if (has_name (map (field_seen g) earlier) f.name.text) (tell f.name.at rules.M7 f.name.text) ++ ts ++ told_if (is_misplaced g all f) (tell f.name.at rules.M14 f.name.text)) (sharing-seen g earlier f)

pub fields-seen : (g : Ground) (all : Bool) (earlier fs : List FieldThere) → told_fields g all earlier fs ≡ told_all all (map (field_seen g) earlier) (map (field_seen g) fs)
fields-seen g all earlier [] = refl
fields-seen g all earlier (f ∷ fs) =
    ap (λ ts. ts ++ told_fields g all (earlier ++ f ∷ []) fs) (one-seen g all earlier f)
    ∙ ap (λ ts. told_one all (map (field_seen g) earlier) (field_seen g f) ++ ts)
    (fields-seen g all (earlier ++ f ∷ []) fs ∙ ap (λ es. told_all all es (map (field_seen g) fs)) (map-behind (field_seen g) earlier f))

pub placed-seen : (g : Ground) (fs : List FieldThere) → have_places fs ≡ all_placed (map (field_seen g) fs)
placed-seen g [] = refl
placed-seen g (f ∷ fs) = ap (λ b. has_place f && b) (placed-seen g fs)

held-made : (n : Name) (m : Option ModeTree) (w : Option written.PlaceTree) (p : Option PlaceTree) → held_place (record { name = n; mode = m; written = w; place = p }) ≡ (if is_some w then option_map Some p else Some None)
held-made n m None p = refl
held-made n m (Some w) p = refl

nodes-made : (n : List ℕ) (m : Option ModeTree) (h : Option (Option PlaceTree)) (ts : Option (List FieldTree)) → field_from n m h (option_map field_nodes ts) ≡ option_map field_nodes (tree_behind (tree_from n m h) ts)
nodes-made n None h ts = refl
nodes-made n (Some m) None ts = refl
nodes-made n (Some m) (Some h) None = refl
nodes-made n (Some m) (Some h) (Some ts) = refl

nodes-seen : (g : Ground) (fs : List FieldThere) → fields_from fs ≡ option_map field_nodes (trees_of_fields (map (field_seen g) fs))
nodes-seen g [] = refl
nodes-seen g (f ∷ fs) =
    ap (λ ns. field_from f.name.text f.mode (held_place f) ns) (nodes-seen g fs)
    ∙ ap (λ h. field_from f.name.text f.mode h (option_map field_nodes (trees_of_fields (map (field_seen g) fs)))) (held-made f.name f.mode f.written f.place)
    ∙ nodes-made f.name.text f.mode (held_by (place_of_field g f)) (trees_of_fields (map (field_seen g) fs))

pub structure-seen : (g : Ground) (p : Option Packing) (fs : List FieldThere) → structure_from p fs ≡ option_map (λ ns. structure ns (is_packed p)) (option_map field_nodes (trees_of_fields (map (field_seen g) fs)))
structure-seen g p fs = ap (option_map (λ ns. structure ns (is_packed p))) (nodes-seen g fs)

-- ---- a structure as the code sees it

pub all-seen : (g : Ground) (fs : List FieldThere) (seen : List FieldSeen) → seen ≡ map (field_seen g) fs → told_all (all_placed seen) [] seen ≡ told_fields g (have_places fs) [] fs
all-seen g fs seen e =
    ap (λ s. told_all (all_placed s) [] s) e
    ∙ ap (λ b. told_all b [] (map (field_seen g) fs)) (sym (placed-seen g fs))
    ∙ sym (fields-seen g (have_places fs) [] fs)

pub from-seen : (g : Ground) (p : Option Packing) (fs : List FieldThere) (seen : List FieldSeen) → seen ≡ map (field_seen g) fs → option_map (λ ns. structure ns (is_packed p)) (option_map field_nodes (trees_of_fields seen)) ≡ structure_from p fs
from-seen g p fs seen e = ap (λ s. option_map (λ ns. structure ns (is_packed p)) (option_map field_nodes (trees_of_fields s))) e ∙ sym (structure-seen g p fs)

-- ---- one field after the other

taken : (fs : List PlacedField) (n : ℕ) (f : PlacedField) → n < length fs → f ≡ get_or fs n f → map field_view (take (n + 1) fs) ≡ map field_view (take n fs) ++ field_view f ∷ []
taken fs n f less is =
    ap (map field_view) (take_more fs n f less ∙ ap (λ x. take n fs ++ x ∷ []) (sym is)) ∙ map-behind field_view (take n fs) f

dropped : (fs : List PlacedField) (n : ℕ) (f : PlacedField) → n < length fs → f ≡ get_or fs n f → map field_view (drop n fs) ≡ field_view f ∷ map field_view (drop (n + 1) fs)
dropped fs n f less is = ap (map field_view) (drop_more fs n f less ∙ ap (λ x. x ∷ drop (n + 1) fs) (sym is))

-- what is told of the rest is what is told of the next field, and of the rest behind it
pub tell_step : (all : Bool) (fs : List PlacedField) (n : ℕ) (f : PlacedField) → n < length fs → f ≡ get_or fs n f
    → told_all all (map field_view (take n fs)) (map field_view (drop n fs)) ≡ told_one all (map field_view (take n fs)) (field_view f) ++ told_all all (map field_view (take (n + 1) fs)) (map field_view (drop (n + 1) fs))
tell_step all fs n f less is =
    ap (told_all all (map field_view (take n fs))) (dropped fs n f less is)
    ∙ ap (λ e. told_one all (map field_view (take n fs)) (field_view f) ++ told_all all e (map field_view (drop (n + 1) fs))) (sym (taken fs n f less is))

name-behind : (es : List FieldSeen) (f : FieldSeen) (q : List ℕ) → has_name (es ++ f ∷ []) q ≡ (has_name es q || bytes_eq f.name.text q)
name-behind [] f q = or-false (bytes_eq f.name.text q)
  where
    or-false : (b : Bool) → (b || false) ≡ b
    or-false true = refl
    or-false false = refl
name-behind (e ∷ es) f q = ap (λ b. bytes_eq e.name.text q || b) (name-behind es f q) ∙ or-assoc (bytes_eq e.name.text q) (has_name es q) (bytes_eq f.name.text q)
  where
    or-assoc : (a b c : Bool) → (a || (b || c)) ≡ ((a || b) || c)
    or-assoc true b c = refl
    or-assoc false b c = refl

-- the names so far, and the next
pub names_step : (fs : List PlacedField) (n : ℕ) (f : PlacedField) (q : List ℕ) (old new : Bool) → n < length fs → f ≡ get_or fs n f → old ≡ has_name (map field_view (take n fs)) q → new ≡ (old || bytes_eq (field_view f).name.text q) → new ≡ has_name (map field_view (take (n + 1) fs)) q
names_step fs n f q old new less is o e =
    e ∙ ap (λ b. b || bytes_eq (field_view f).name.text q) o
    ∙ sym (name-behind (map field_view (take n fs)) (field_view f) q)
    ∙ ap (λ es. has_name es q) (sym (taken fs n f less is))

-- what is told so far, the next and the rest
pub told_step_on : {A : Type 0} (so new one rest left whole : List A) → so ++ left ≡ whole → left ≡ one ++ rest → new ≡ so ++ one → new ++ rest ≡ whole
told_step_on so new one rest left whole w l n = ap (λ t. t ++ rest) n ∙ append_assoc so one rest ∙ ap (λ t. so ++ t) (sym l) ∙ w

and-assoc : (a b c : Bool) → ((a && b) && c) ≡ (a && (b && c))
and-assoc true b c = refl
and-assoc false b c = refl

pub clean_step_on : (clean here now whole : Bool) (one rest left : List Diagnostic) → (clean && is_none_told left) ≡ whole → left ≡ one ++ rest → here ≡ is_none_told one → now ≡ (clean && here) → (now && is_none_told rest) ≡ whole
clean_step_on clean here now whole one rest left w l h n =
    ap (λ b. b && is_none_told rest) (n ∙ ap (λ b. clean && b) h)
    ∙ and-assoc clean (is_none_told one) (is_none_told rest)
    ∙ ap (λ b. clean && b) (sym (none-append one rest) ∙ ap is_none_told (sym l))
    ∙ w

pub ruleset told_views = (map-behind, none-append, append_assoc)

-- ---- one clause after the other

pub map-both : {A B : Type 0} (f : A → B) (xs ys : List A) → map f (xs ++ ys) ≡ map f xs ++ map f ys
map-both f [] ys = refl
map-both f (x ∷ xs) ys = ap (λ zs. f x ∷ zs) (map-both f xs ys)

pub named-seen : (g : Ground) (m : Option ModeTree) (p : Option written.PlaceTree) (ns : List Name) → map (field_seen g) (fields_named g m p ns) ≡ map (seen_as m (place_seen g p)) ns
named-seen g m p [] = refl
named-seen g m p (n ∷ ns) = ap (λ fs. seen_as m (place_seen g p) n ∷ fs) (named-seen g m p ns)

-- the fields of the rest are those of the next clause, and of the rest behind it
pub placed_step : (g : Ground) (fs : List Field) (n : ℕ) (f : Field) → n < length fs → f ≡ get_or fs n f
    → map (field_seen g) (fields_there g (written.field_nodes (written.field_trees (drop n fs)))) ≡ map (field_seen g) (fields_named g (mode_of_base g false (written.field_tree f).base) (written.field_tree f).place (written.field_tree f).names) ++ map (field_seen g) (fields_there g (written.field_nodes (written.field_trees (drop (n + 1) fs))))
placed_step g fs n f less is =
    ap (λ r. map (field_seen g) (fields_there g (written.field_nodes (written.field_trees r)))) (drop_more fs n f less ∙ ap (λ x. x ∷ drop (n + 1) fs) (sym is))
    ∙ map-both (field_seen g) (fields_named g (mode_of_base g false (written.field_tree f).base) (written.field_tree f).place (written.field_tree f).names) (fields_there g (written.field_nodes (written.field_trees (drop (n + 1) fs))))

pub inside_step : (g : Ground) (fs : List Field) (n : ℕ) (f : Field) → n < length fs → f ≡ get_or fs n f
    → told_in_fields g (written.field_nodes (written.field_trees (drop n fs))) ≡ (told_of_base g false (written.field_tree f).base ++ told_in_some_place g (written.field_tree f).place) ++ told_in_fields g (written.field_nodes (written.field_trees (drop (n + 1) fs)))
inside_step g fs n f less is = ap (λ r. told_in_fields g (written.field_nodes (written.field_trees r))) (drop_more fs n f less ∙ ap (λ x. x ∷ drop (n + 1) fs) (sym is))
