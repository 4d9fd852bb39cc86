-- What is well kept keeps its ground.
use Rattle.std.proofs.Common.{◌≡◌, ◌<◌, ℕ, zero, suc, true, false, true≢false, List, [], ◌∷◌, Option, Some, None, map, length, refl, sym, ap, ◌∙◌, subst, arith}
use Rattle.std.specs.Prelude.{option_map, slice_get}
use Rattle.checks_model.specs.Ground as model
use Rattle.checks_model.specs.Ground.{Ground, Origin}
use Rattle.checks_model.specs.Constants.{is_constant_origin, value_of_name}
use Rattle.checks_model.specs.Classes.{class_of_origin}
use Rattle.definition_origins.specs.OriginTrees.{origin_tree, origin_trees}
use Rattle.constant_operators.specs.declared.evaluation.Entry.{Entry}
use Rattle.constant_operators.specs.declared.evaluation.Evaluation.{Evaluation}
use Rattle.constant_operators.specs.Grounds.{ground_of, entry_tree, class_defined, value_defined, IsKeptAt, HasGround, HasLaidMode, is_measured_origin}
use Rattle.constant_operators.proofs.Grounds.{entries-there}
use Rattle.laid_laws.specs.Few.{AreFew, HasFewScalars}
use Rattle.definition_table.specs.Entries.{IsSafe, AreSafe}
use Rattle.definition_table.specs.Filling.{IsWell}

got_below : {A : Type 0} (xs : List A) (d : ℕ) (x : A) → slice_get xs d ≡ Some x → d < length xs
got_below [] d x is = cc
got_below (y ∷ xs) zero x is = omega arith
got_below (y ∷ xs) (suc d) x is = let less = got_below xs d x is in omega (arith, less)

got_there : {A : Type 0} (xs : List A) (d : ℕ) → d < length xs → (x : A) × (slice_get xs d ≡ Some x)
got_there [] d less = absurd (omega (arith, less))
got_there (x ∷ xs) zero less = (x, refl)
got_there (x ∷ xs) (suc d) less = got_there xs d (omega (arith, less))

length_map : {A B : Type 0} (f : A → B) (xs : List A) → length (map f xs) ≡ length xs
length_map f [] = refl
length_map f (x ∷ xs) = ap suc (length_map f xs)

-- the entry of a definition
pub there : (e : Evaluation) (d : ℕ) (o : Origin) → IsWell e → slice_get (origin_trees e.origins) d ≡ Some o → (x : Entry) × ((slice_get e.entries.items d ≡ Some x) × IsSafe o x)
there e d o well at =
    let less = got_below (origin_trees e.origins) d o at in
    let long = length_map origin_tree e.origins in
    let count = well.entries in
    let x = got_there e.entries.items d (omega (arith, less, long, count)) in
    (x.0, (x.1, well.safe d o x.0 at x.1))

pub tree_there : (e : Evaluation) (d : ℕ) (x : Entry) → slice_get e.entries.items d ≡ Some x → slice_get (ground_of e).entries d ≡ Some (entry_tree x)
tree_there e d x at = entries-there e d ∙ ap (option_map entry_tree) at

origins_same : (e : Evaluation) (d : ℕ) → slice_get (ground_of e).origins d ≡ slice_get (origin_trees e.origins) d
unfolding ground_of
origins_same e d = refl

constant_kept : (e : Evaluation) → IsWell e → (d : ℕ) (o : Option Origin) → slice_get (ground_of e).origins d ≡ o → is_constant_origin o ≡ true → IsKeptAt (class_defined (ground_of e) d) (value_defined (ground_of e) d) (slice_get e.entries.items d)
constant_kept e well d None at is = absurd (true≢false (sym is))
constant_kept e well d (Some o) at is =
    let x = there e d o well (sym (origins_same e d) ∙ at) in
    let tree = tree_there e d x.0 x.1.0 in
    let class : class_of_origin (Some (entry_tree x.0)) (Some o) ≡ class_defined (ground_of e) d = ap (λ k. class_of_origin k (Some o)) (sym tree) ∙ ap (λ k. class_of_origin (slice_get (ground_of e).entries d) k) (sym at) in
    let value : value_of_name (Some (entry_tree x.0)) (Some o) ≡ value_defined (ground_of e) d = ap (λ k. value_of_name k (Some o)) (sym tree) ∙ ap (λ k. value_of_name (slice_get (ground_of e).entries d) k) (sym at) in
    subst (λ k. IsKeptAt (class_defined (ground_of e) d) (value_defined (ground_of e) d) k) (sym x.1.0)
    (subst (λ c. IsKeptAt c (value_defined (ground_of e) d) (Some x.0)) class
    (subst (λ v. IsKeptAt (class_of_origin (Some (entry_tree x.0)) (Some o)) v (Some x.0)) value (x.1.1.constant is)))

mode_kept : (e : Evaluation) → IsWell e → (d : ℕ) (o : Option Origin) → slice_get (ground_of e).origins d ≡ o → is_measured_origin o ≡ true → HasLaidMode (slice_get (ground_of e).entries d) × HasFewScalars (slice_get (ground_of e).entries d)
mode_kept e well d None at is = absurd (true≢false (sym is))
mode_kept e well d (Some o) at is =
    let x = there e d o well (sym (origins_same e d) ∙ at) in
    let tree = tree_there e d x.0 x.1.0 in
    (subst (λ k. HasLaidMode k) (sym tree) (x.1.1.laid is), subst (λ k. HasFewScalars k) (sym tree) (x.1.1.few is))

pub keeps_ground : (e : Evaluation) → IsWell e → HasGround e
keeps_ground e well = record {
  uses = well.uses;
  defined = well.defined;
  entries = well.entries;
  plain = well.plain;
  constants = λ d is. constant_kept e well d (slice_get (ground_of e).origins d) refl is;
  modes = λ d is. (mode_kept e well d (slice_get (ground_of e).origins d) refl is).0;
}

pub are_few : (e : Evaluation) → IsWell e → AreFew (ground_of e)
are_few e well = λ d is. (mode_kept e well d (slice_get (ground_of e).origins d) refl is).1
