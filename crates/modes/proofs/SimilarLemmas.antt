-- What the shapes of two modes say of their forms.
use Rattle.std.proofs.Common.{◌≡◌, ℕ, suc, ◌+◌, ◌-◌, List, [], ◌∷◌, length, drop, get_or, Bool, true, false, ◌&&◌, Option, Some, None, refl, arith, rules, sym, subst, ◌∙◌, ap}
use Rattle.std.specs.Prelude.{◌↔◌, IsTrue, IfSome, MatchOption, slice_get}
use Rattle.std.proofs.lemmas.List.{length-map, drop_more, drop_all}
use Rattle.std.proofs.lemmas.Option.{slice_get-get_or, slice_get_read}
use Rattle.modes.specs.ModeTree.{ModeTree, int, boolean, char, instance, set_of, range, powerset, chars, array, structure, event, buffer, read, named, FieldNodes, no_fields, more_fields, PlaceTree, SpreadTree, FieldTree, field_nodes, field_tree, field_trees}
use Rattle.modes.specs.declared.mode.Field.{Field}
use Rattle.modes.specs.Form.{FormTree, of_int, of_boolean, of_char, of_instance, of_set, of_powerset, of_chars, of_array, of_structure, of_meeting, form_of}
use Rattle.modes.specs.Bounds.{bounds_of}
use Rattle.modes.specs.Roots.{novelty_of, read_is}
use Rattle.modes.specs.Similar.{Shape, like_int, like_boolean, like_char, like_instance, like_set, like_powerset, like_chars, like_array, like_structure, like_none, part, no_more, next_field, shape_of, shape_of_fields, has_values, Similar, Equivalent, SimilarField, SimilarFields, IsDownTo, AreDownTo, FieldIsDownTo}
use Rattle.modes.proofs.ModeViews.{mode_built}

-- the shape of a form
abbrev pub shape_in : FormTree → Shape
shape_in of_int = like_int
shape_in of_boolean = like_boolean
shape_in of_char = like_char
shape_in of_instance = like_instance
shape_in (of_set d n) = like_set d n
shape_in (of_powerset m) = like_powerset (part (novelty_of m) (read_is m) (bounds_of m) (shape_of m))
shape_in (of_chars n) = like_chars n
shape_in (of_array i e how) = like_array (shape_of i) (bounds_of i) (part (novelty_of e) (read_is e) (bounds_of e) (shape_of e)) how
shape_in (of_structure fs p) = like_structure (shape_of_fields fs) p
shape_in of_meeting = like_none

-- a mode has the shape of its form
pub shape-form : (m : ModeTree) → shape_of m ≡ shape_in (form_of m)
shape-form int = refl
shape-form boolean = refl
shape-form char = refl
shape-form instance = refl
shape-form (set_of d n) = refl
shape-form (range p l h) = shape-form p
shape-form (powerset m) = refl
shape-form (chars n) = refl
shape-form (array i e how) = refl
shape-form (structure fs p) = refl
shape-form (event l) = refl
shape-form (buffer l e) = refl
shape-form (read m) = shape-form m
shape-form (named d n m) = shape-form m

-- both parts of a conjunction hold
pub both : (a b : Bool) → IsTrue (a && b) → IsTrue a × IsTrue b
both true b h = (search rules, h)
both false b h = (h, cc)

-- and what holds of both parts holds of it
pub of_both : (a b : Bool) → IsTrue a → IsTrue b → IsTrue (a && b)
of_both true b h k = k
of_both false b h k = h

step_in : (f g : FieldTree) (fs gs : FieldNodes) → SimilarFields (more_fields f.name f.mode f.at fs) (more_fields g.name g.mode g.at gs) → SimilarField f g × SimilarFields fs gs
step_in f g fs gs s =
    let e : next_field f.name f.at (part (novelty_of f.mode) (read_is f.mode) (bounds_of f.mode) (shape_of f.mode)) (shape_of_fields fs) ≡ next_field g.name g.at (part (novelty_of g.mode) (read_is g.mode) (bounds_of g.mode) (shape_of g.mode)) (shape_of_fields gs) = s.shape in
    let v : IsTrue (has_values (shape_of f.mode)) × IsTrue (has_values (shape_of_fields fs)) = both _ _ s.values in
    (record { name = cc; at = cc; modes = record { v_equivalent = record { similar = record { shape = cc; values = v.0 }; novelty = cc }; read = cc; bounds = cc } }, record { shape = cc; values = v.1 })

step_out : (f g : FieldTree) (fs gs : FieldNodes) → SimilarField f g × SimilarFields fs gs → SimilarFields (more_fields f.name f.mode f.at fs) (more_fields g.name g.mode g.at gs)
step_out f g fs gs p =
    let name : f.name ≡ g.name = p.0.name in
    let at : f.at ≡ g.at = p.0.at in
    let novelty : novelty_of f.mode ≡ novelty_of g.mode = p.0.modes.v_equivalent.novelty in
    let is_read : read_is f.mode ≡ read_is g.mode = p.0.modes.read in
    let bounds : bounds_of f.mode ≡ bounds_of g.mode = p.0.modes.bounds in
    let shape : shape_of f.mode ≡ shape_of g.mode = p.0.modes.v_equivalent.similar.shape in
    let rest : shape_of_fields fs ≡ shape_of_fields gs = p.1.shape in
    record { shape = cc; values = of_both _ _ p.0.modes.v_equivalent.similar.values p.1.values }

-- structures of fields that are the same one by one
pub fields-step : (f g : FieldTree) (fs gs : FieldNodes) → SimilarFields (more_fields f.name f.mode f.at fs) (more_fields g.name g.mode g.at gs) ↔ (SimilarField f g × SimilarFields fs gs)
fields-step f g fs gs = (step_in f g fs gs, step_out f g fs gs)

-- as many fields on both sides
shape-count : (xs ys : List FieldTree) → shape_of_fields (field_nodes xs) ≡ shape_of_fields (field_nodes ys) → length xs ≡ length ys
shape-count [] [] e = refl
shape-count [] (y ∷ ys) e = cc
shape-count (x ∷ xs) [] e = cc
shape-count (x ∷ xs) (y ∷ ys) e =
    let tails : shape_of_fields (field_nodes xs) ≡ shape_of_fields (field_nodes ys) = cc in ap suc (shape-count xs ys tails)

pub other_count : (xs ys : List Field) → SimilarFields (field_nodes (field_trees xs)) (field_nodes (field_trees ys)) → length xs ≡ length ys
other_count xs ys s = sym (length-map xs field_tree) ∙ shape-count (field_trees xs) (field_trees ys) s.shape ∙ length-map ys field_tree

-- no fields are similar to none
pub no_others : (fs : List Field) → SimilarFields no_fields (field_nodes (field_trees fs)) ↔ (length fs ≡ 0)
no_others [] = (λ s. refl, λ h. record { shape = refl; values = search rules })
no_others (f ∷ fs) = (λ s. let e : no_more ≡ next_field _ _ _ _ = s.shape in cc, λ h. absurd (omega (arith, h)))

-- where there is no last field there is none
pub no_last : (xs : List Field) → None ≡ slice_get xs (length xs - 1) → xs ≡ []
no_last [] e = refl
no_last (x ∷ xs) e =
    let there : slice_get (x ∷ xs) (length (x ∷ xs) - 1) ≡ Some (get_or (x ∷ xs) (length (x ∷ xs) - 1) x) = slice_get-get_or (x ∷ xs) (length (x ∷ xs) - 1) x (omega arith) in
    let no : ⊥ = cc in
    absurd no

-- one field is similar to one other exactly where the two lists of them are
pub last-step : (f g : FieldTree) → SimilarFields (more_fields f.name f.mode f.at no_fields) (more_fields g.name g.mode g.at no_fields) ↔ SimilarField f g
last-step f g = (λ s. (step_in f g no_fields no_fields s).0, λ s. step_out f g no_fields no_fields (s, record { shape = refl; values = search rules }))

one_left : (xs : List Field) (n : ℕ) (f : Field) → n + 1 ≡ length xs → f ≡ get_or xs n f → drop n xs ≡ f ∷ []
one_left xs n f e at =
    let more : drop n xs ≡ get_or xs n f ∷ drop (n + 1) xs = drop_more xs n f (omega (arith, e)) in
    let none : drop (n + 1) xs ≡ [] = drop_all (n + 1) xs (omega (arith, e)) in
    cc

down : (P Q : Type 0) (m : ModeTree) (beside : Option ModeTree) → (P ↔ Q) → MatchOption beside (Q → ⊥) (λ k. Q ↔ Similar m k) → MatchOption beside (P → ⊥) (λ k. P ↔ Similar m k)
down P Q m None e apart = λ p. apart (e.0 p)
down P Q m (Some k) e h = (λ p. h.0 (e.0 p), λ s. e.1 (h.1 s))

-- fields of which all but the last were compared
pub last_down : (xs ys : List Field) (i n : ℕ) (f g : Field) (beside : Option ModeTree) → i ≡ n → n + 1 ≡ length xs → length xs ≡ length ys → f ≡ get_or xs n f → g ≡ get_or ys n g →
    (SimilarFields (field_nodes (field_trees xs)) (field_nodes (field_trees ys)) ↔ SimilarFields (field_nodes (field_trees (drop i xs))) (field_nodes (field_trees (drop i ys)))) →
    FieldIsDownTo (field_tree f) (field_tree g) beside →
    IfSome (slice_get xs (length xs - 1)) (λ last. AreDownTo (field_nodes (field_trees xs)) (field_nodes (field_trees ys)) (field_tree last).mode beside)
last_down xs ys i n f g beside same e count at at_other all h =
    let here : drop i xs ≡ f ∷ [] = subst (λ (k : ℕ). drop k xs ≡ f ∷ []) (sym same) (one_left xs n f e at) in
    let there : drop i ys ≡ g ∷ [] = subst (λ (k : ℕ). drop k ys ≡ g ∷ []) (sym same) (one_left ys n g (omega (arith, e, count)) at_other) in
    let one : SimilarFields (field_nodes (field_trees (f ∷ []))) (field_nodes (field_trees (g ∷ []))) ↔ SimilarField (field_tree f) (field_tree g) = last-step (field_tree f) (field_tree g) in
    let left : SimilarFields (field_nodes (field_trees (drop i xs))) (field_nodes (field_trees (g ∷ []))) ↔ SimilarField (field_tree f) (field_tree g) =
    subst (λ (l : List Field). SimilarFields (field_nodes (field_trees l)) (field_nodes (field_trees (g ∷ []))) ↔ SimilarField (field_tree f) (field_tree g)) (sym here) one in
    let rest : SimilarFields (field_nodes (field_trees (drop i xs))) (field_nodes (field_trees (drop i ys))) ↔ SimilarField (field_tree f) (field_tree g) =
    subst (λ (l : List Field). SimilarFields (field_nodes (field_trees (drop i xs))) (field_nodes (field_trees l)) ↔ SimilarField (field_tree f) (field_tree g)) (sym there) left in
    let whole : SimilarFields (field_nodes (field_trees xs)) (field_nodes (field_trees ys)) ↔ SimilarField (field_tree f) (field_tree g) =
    (λ s. rest.0 (all.0 s), λ s. all.1 (rest.1 s)) in
    let place : n ≡ length xs - 1 = omega (arith, e) in
    let found : slice_get xs (length xs - 1) ≡ Some f = slice_get_read xs (length xs) (length xs - 1) f refl (omega (arith, e)) (subst (λ (k : ℕ). f ≡ get_or xs k f) place at) in
    subst (λ (o : Option Field). IfSome o (λ last. AreDownTo (field_nodes (field_trees xs)) (field_nodes (field_trees ys)) (field_tree last).mode beside)) (sym found)
    (down _ _ (field_tree f).mode beside whole h)

pub ruleset similar_steps = (mode_built, shape-form)

pub ruleset field_steps = (fields-step, last-step, other_count)
