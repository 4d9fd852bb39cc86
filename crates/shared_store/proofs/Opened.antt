-- The words of the locations of sound facts.
use Rattle.std.proofs.Common.{◌≡◌, ℕ, ◌+◌, ◌<◌, ◌≤◌, ℤ, zero, suc, List, [], ◌∷◌, ◌++◌, length, length-append, map, get_or, ◌⊎◌, inl, inr, Option, refl, sym, ap, ◌∙◌, subst, arith, Some, None, slice_get}
use Rattle.std.specs.Option.{option_map}
use Rattle.std.proofs.lemmas.List.{length-map}
use Rattle.std.proofs.lemmas.Option.{get_or_from_slice_get, slice_get-map, slice_get-get_or, slice_get_past, slice_get_within, same_Some}
use Rattle.chill_base.specs.declared.layout.Bits.{Bits}
use Rattle.kernel_base.specs.declared.facts.Facts.{Facts}
use Rattle.kernel_base.specs.declared.value.Value.{Value}
use Rattle.kernel_base.specs.Facts.{IsLaidOut, IsSound}
use Rattle.kernel_base.specs.Value.{scalars_of}
use Rattle.packed_words.specs.Packed.{AreLaid, HasOwnBits, SeenPacked}
use Rattle.shared_store.specs.Places.{layout_in, numbers_in}

-- the first locations have these layouts and scalars
pub record ArePacked (layouts : List (List Bits)) (store : List (List ℤ)) (count : ℕ) (locations : List SeenPacked) : Type 0 where
  pub each : length locations ≡ count
  pub layout : (k : ℕ) (p : SeenPacked) → slice_get locations k ≡ Some p → slice_get layouts k ≡ Some p.layout
  pub scalars : (k : ℕ) (p : SeenPacked) → slice_get locations k ≡ Some p → slice_get store k ≡ Some p.scalars

-- lists of one length that agree where the first has an item
pub same_lists : {X : Type 0} (xs ys : List X) → length xs ≡ length ys → ((k : ℕ) (x : X) → slice_get xs k ≡ Some x → slice_get ys k ≡ Some x) → xs ≡ ys
same_lists [] [] e each = refl
same_lists [] (y ∷ ys) e each = absurd (omega (arith, e))
same_lists (x ∷ xs) [] e each = absurd (omega (arith, e))
same_lists {X} (x ∷ xs) (y ∷ ys) e each =
    ap (λ (z : X). z ∷ xs) (sym (same_Some y x (each 0 x refl))) ∙ ap (λ (zs : List X). y ∷ zs) (same_lists xs ys (omega (arith, e)) (λ k z at. each (suc k) z at))

mapped : {X Y : Type 0} (f : X → Y) (xs : List X) (ys : List Y) → length xs ≡ length ys → ((k : ℕ) (x : X) → slice_get xs k ≡ Some x → slice_get ys k ≡ Some (f x)) → map f xs ≡ ys
mapped f [] [] e each = refl
mapped f [] (y ∷ ys) e each = absurd (omega (arith, e))
mapped f (x ∷ xs) [] e each = absurd (omega (arith, e))
mapped {X} {Y} f (x ∷ xs) (y ∷ ys) e each =
    ap (λ (z : Y). z ∷ map f xs) (sym (same_Some y (f x) (each 0 x refl))) ∙ ap (λ (zs : List Y). y ∷ zs) (mapped f xs ys (omega (arith, e)) (λ k z at. each (suc k) z at))

pub packed_layouts : (layouts : List (List Bits)) (store : List (List ℤ)) (count : ℕ) (locations : List SeenPacked) → length layouts ≡ count → ArePacked layouts store count locations → map layout_in locations ≡ layouts
packed_layouts layouts store count locations long h = mapped layout_in locations layouts (h.each ∙ sym long) h.layout

pub packed_scalars : (layouts : List (List Bits)) (store : List (List ℤ)) (count : ℕ) (locations : List SeenPacked) → length store ≡ count → ArePacked layouts store count locations → map numbers_in locations ≡ store
packed_scalars layouts store count locations long h = mapped numbers_in locations store (h.each ∙ sym long) h.scalars

-- one more at the end stands behind all others
last_is : {X : Type 0} (xs : List X) (x y : X) (k : ℕ) → slice_get (xs ++ x ∷ []) k ≡ Some y → ((slice_get xs k ≡ Some y) ⊎ ((k ≡ length xs) × (x ≡ y)))
last_is [] x y zero at = inr (refl, same_Some x y at)
last_is [] x y (suc k) at = absurd (let f : ⊥ = cc in f)
last_is (z ∷ zs) x y zero at = inl at
last_is (z ∷ zs) x y (suc k) at = elim (last_is zs x y k at) [ inl h ↦ inl h | inr h ↦ inr (ap suc h.0, h.1) ]

pub packed_more : (layouts : List (List Bits)) (store : List (List ℤ)) (count : ℕ) (locations : List SeenPacked) (p : SeenPacked) → ArePacked layouts store count locations → slice_get layouts count ≡ Some p.layout → slice_get store count ≡ Some p.scalars → ArePacked layouts store (count + 1) (locations ++ p ∷ [])
packed_more layouts store count locations p h layout scalars = record {
  each = let e = length-append locations (p ∷ []) in let f = h.each in omega (arith, e, f);
  layout = λ k q at. elim (last_is locations p q k at) [
    | inl there ↦ h.layout k q there
    | inr end ↦ ap (slice_get layouts) (end.0 ∙ h.each) ∙ layout ∙ ap (λ (x : SeenPacked). Some x.layout) end.1
  ];
  scalars = λ k q at. elim (last_is locations p q k at) [
    | inl there ↦ h.scalars k q there
    | inr end ↦ ap (slice_get store) (end.0 ∙ h.each) ∙ scalars ∙ ap (λ (x : SeenPacked). Some x.scalars) end.1
  ];
}

-- a location of sound facts is laid out
laid_by : (facts : Facts) (store : List (List ℤ)) (location : ℕ) (layout : List Bits) (scalars : List ℤ) (value : Option Value) → slice_get facts.store location ≡ value → store ≡ map scalars_of facts.store → IsSound facts
    → slice_get facts.layouts location ≡ Some layout → slice_get store location ≡ Some scalars → HasOwnBits layout × AreLaid layout scalars
laid_by facts store location layout scalars None there is sound at laid =
    absurd (let e : None ≡ Some scalars = sym (slice_get-map scalars_of facts.store location ∙ ap (option_map scalars_of) there) ∙ sym (ap (λ (s : List (List ℤ)). slice_get s location) is) ∙ laid in let f : ⊥ = cc in f)
laid_by facts store location layout scalars (Some value) there is sound at laid =
    let h = sound.laid_out location value layout there at in
    let same : scalars_of value ≡ scalars = same_Some (scalars_of value) scalars (sym (slice_get-map scalars_of facts.store location ∙ ap (option_map scalars_of) there) ∙ sym (ap (λ (s : List (List ℤ)). slice_get s location) is) ∙ laid) in
    (record { in_words = h.in_words; apart = h.apart }, subst (AreLaid layout) same (record { count = h.count; within = h.within }))

pub laid_in : (facts : Facts) (store : List (List ℤ)) (location : ℕ) (layout : List Bits) (scalars : List ℤ) → store ≡ map scalars_of facts.store → IsSound facts
    → slice_get facts.layouts location ≡ Some layout → slice_get store location ≡ Some scalars → HasOwnBits layout × AreLaid layout scalars
laid_in facts store location layout scalars is sound at laid = laid_by facts store location layout scalars (slice_get facts.store location) refl is sound at laid

-- what is seen of the item at a place
pub seen_at : {X Y : Type 0} (f : X → Y) (xs : List X) (k : ℕ) (x : X) (d : Y) → k < length xs → x ≡ get_or xs k x → get_or (map f xs) k d ≡ f x
seen_at {X} {Y} f xs k x d low is = get_or_from_slice_get (map f xs) k (f x) d (slice_get-map f xs k ∙ ap (option_map f) (slice_get-get_or xs k x low ∙ ap (λ (y : X). Some y) (sym is)))
