-- The members of powersets, offset by offset.
use Rattle.std.proofs.Common.{◌≡◌, ℕ, zero, suc, ◌+◌, true, false, Bool, List, [], ◌∷◌, length, Option, Some, None, refl, ap, sym, ◌∙◌, arith}
use Rattle.std.specs.Prelude.{◌&&◌, ◌||◌, not, if◌then◌else◌, option_map}
use Rattle.checks_model.specs.ValueTrees.{included, same_members}
use Rattle.checks_model.specs.OperatorValues.{member_at, count_true, least_of, later_or, greatest_of}
use Rattle.constant_values.specs.Sets.{count_below, or_last, least_below, greatest_below, included_below}

-- an offset is a member in both
abbrev pub Tells : (ℕ → Bool) → List Bool → Type 0
Tells f bs = (k : ℕ) → f k ≡ member_at k bs

abbrev rest : (ℕ → Bool) → ℕ → Bool
rest f k = f (suc k)

abbrev weight : Bool → ℕ
weight b = if b then 1 else 0

-- ---- one offset further

count_shift : (f : ℕ → Bool) (n : ℕ) → count_below f (suc n) ≡ weight (f 0) + count_below (rest f) n
count_shift f zero = omega arith
count_shift f (suc n) = let before = count_shift f n in omega (arith, before)

least_step : (c b : Bool) (n : ℕ) (m : Option ℕ) → or_last (suc n) (if c then Some 0 else option_map suc m) b ≡ (if c then Some 0 else option_map suc (or_last n m b))
least_step true b n m = refl
least_step false b n (Some k) = refl
least_step false true n None = refl
least_step false false n None = refl

least_shift : (f : ℕ → Bool) (n : ℕ) → least_below f (suc n) ≡ (if f 0 then Some 0 else option_map suc (least_below (rest f) n))
least_shift f zero = refl
least_shift f (suc n) = ap (λ (o : Option ℕ). or_last (suc n) o (f (suc n))) (least_shift f n) ∙ least_step (f 0) (f (suc n)) n (least_below (rest f) n)

greatest_step : (b : Bool) (n : ℕ) (o p : Option ℕ) (c : Bool) → p ≡ later_or o c → (if b then Some (suc n) else p) ≡ later_or (if b then Some n else o) c
greatest_step true n o p c e = refl
greatest_step false n o p c e = e

greatest_shift : (f : ℕ → Bool) (n : ℕ) → greatest_below f (suc n) ≡ later_or (greatest_below (rest f) n) (f 0)
greatest_shift f zero = refl
greatest_shift f (suc n) = greatest_step (f (suc n)) n (greatest_below (rest f) n) (greatest_below f (suc n)) (f 0) (greatest_shift f n)

and_assoc : (a b c : Bool) → ((a && b) && c) ≡ (a && (b && c))
and_assoc true b c = refl
and_assoc false b c = refl

and_true : (a : Bool) → (true && a) ≡ (a && true)
and_true true = refl
and_true false = refl

included_shift : (f g : ℕ → Bool) (n : ℕ) → included_below f g (suc n) ≡ ((not (f 0) || g 0) && included_below (rest f) (rest g) n)
included_shift f g zero = and_true (not (f 0) || g 0)
included_shift f g (suc n) =
    ap (λ (b : Bool). b && (not (f (suc n)) || g (suc n))) (included_shift f g n)
    ∙ and_assoc (not (f 0) || g 0) (included_below (rest f) (rest g) n) (not (f (suc n)) || g (suc n))

-- ---- all members

pub count_members : (f : ℕ → Bool) (bs : List Bool) → Tells f bs → count_below f (length bs) ≡ count_true bs
count_members f [] told = refl
count_members f (b ∷ bs) told =
    count_shift f (length bs) ∙ ap (λ (x : Bool). weight x + count_below (rest f) (length bs)) (told 0)
    ∙ ap (λ (n : ℕ). weight b + n) (count_members (rest f) bs (λ k. told (suc k)))

least_member : (b : Bool) (bs : List Bool) → (if b then Some 0 else option_map suc (least_of bs)) ≡ least_of (b ∷ bs)
least_member true bs = refl
least_member false bs = refl

pub least_members : (f : ℕ → Bool) (bs : List Bool) → Tells f bs → least_below f (length bs) ≡ least_of bs
least_members f [] told = refl
least_members f (b ∷ bs) told =
    least_shift f (length bs) ∙ ap (λ (x : Bool). if x then Some 0 else option_map suc (least_below (rest f) (length bs))) (told 0)
    ∙ ap (λ (o : Option ℕ). if b then Some 0 else option_map suc o) (least_members (rest f) bs (λ k. told (suc k))) ∙ least_member b bs

pub greatest_members : (f : ℕ → Bool) (bs : List Bool) → Tells f bs → greatest_below f (length bs) ≡ greatest_of bs
greatest_members f [] told = refl
greatest_members f (b ∷ bs) told =
    greatest_shift f (length bs) ∙ ap (λ (x : Bool). later_or (greatest_below (rest f) (length bs)) x) (told 0)
    ∙ ap (λ (o : Option ℕ). later_or o b) (greatest_members (rest f) bs (λ k. told (suc k)))

pub included_members : (f g : ℕ → Bool) (as' bs : List Bool) → Tells f as' → Tells g bs → length as' ≡ length bs → included_below f g (length as') ≡ included as' bs
included_members f g [] bs told other long = refl
included_members f g (a ∷ as') [] told other long = absurd (omega (arith, long))
included_members f g (a ∷ as') (b ∷ bs) told other long =
    included_shift f g (length as') ∙ ap (λ (x : Bool). (not x || g 0) && included_below (rest f) (rest g) (length as')) (told 0)
    ∙ ap (λ (x : Bool). (not a || x) && included_below (rest f) (rest g) (length as')) (other 0)
    ∙ ap (λ (x : Bool). (not a || b) && x) (included_members (rest f) (rest g) as' bs (λ k. told (suc k)) (λ k. other (suc k)) (omega (arith, long)))

same_one : (a b x y : Bool) → (((not a || b) && x) && ((not b || a) && y)) ≡ (if a then b && (x && y) else not b && (x && y))
same_one true true x y = refl
same_one true false x y = refl
same_one false true true y = refl
same_one false true false y = refl
same_one false false x y = refl

same_step : (a b : Bool) (as' bs : List Bool) → (if a then b && same_members as' bs else not b && same_members as' bs) ≡ same_members (a ∷ as') (b ∷ bs)
same_step true b as' bs = refl
same_step false b as' bs = refl

pub same_both : (as' bs : List Bool) → length as' ≡ length bs → (included as' bs && included bs as') ≡ same_members as' bs
same_both [] [] long = refl
same_both [] (b ∷ bs) long = absurd (omega (arith, long))
same_both (a ∷ as') [] long = absurd (omega (arith, long))
same_both (a ∷ as') (b ∷ bs) long =
    same_one a b (included as' bs) (included bs as')
    ∙ ap (λ (x : Bool). if a then b && x else not b && x) (same_both as' bs (omega (arith, long))) ∙ same_step a b as' bs

and_turned : (a b : Bool) → (a && b) ≡ (b && a)
and_turned true true = refl
and_turned true false = refl
and_turned false true = refl
and_turned false false = refl

pub same_turned : (as' bs : List Bool) → length as' ≡ length bs → same_members bs as' ≡ same_members as' bs
same_turned as' bs long = sym (same_both bs as' (sym long)) ∙ and_turned (included bs as') (included as' bs) ∙ same_both as' bs long
