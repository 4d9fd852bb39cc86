-- Lists of bits that lie between two cursors and have no bit in common, and how they are put together.
use Rattle.std.proofs.Common.{◌≡◌, ℕ, zero, suc, ◌+◌, ◌-◌, ◌*◌, ◌/◌, ◌%◌, ◌<◌, ◌≤◌, min, Bool, true, false, ◌&&◌, List, [], ◌∷◌, ◌++◌, refl, arith}
use Rattle.std.specs.Prelude.{nat_le, All, AllPairs, if◌then◌else◌}
use Rattle.std.proofs.lemmas.List.Elements.{All-cons}
use Rattle.std.proofs.lemmas.List.Kept.{AllPairs-cons}
use Rattle.chill_base.specs.declared.layout.Bits.{Bits}
use Rattle.layout_map.specs.declared.scalar.Scalar.{Scalar}
use Rattle.layout_map.specs.Words.{IsInWord}
use Rattle.layout_map.specs.Apart.{ShareNoBit}
use Rattle.layout_map.specs.Spots.{Laid, follow, times, held, up, after, bits_at, one, numbers, closed}

abbrev pub lo : Bits → ℕ
lo b = 32 * b.word + b.start

abbrev pub hi : Bits → ℕ
hi b = 32 * b.word + b.end

-- bits of a word that lie between two cursors
pub record IsBetween (from to : ℕ) (b : Bits) : Type 0 where
  pub word : IsInWord b
  pub low : from ≤ lo b
  pub high : hi b < to

abbrev pub Within : ℕ → ℕ → List Bits → Type 0
Within from to [] = Unit {0}
Within from to (b ∷ bs) = IsBetween from to b × Within from to bs

abbrev pub NoneWith : Bits → List Bits → Type 0
NoneWith a [] = Unit {0}
NoneWith a (b ∷ bs) = ShareNoBit a b × NoneWith a bs

abbrev pub Apart : List Bits → Type 0
Apart [] = Unit {0}
Apart (b ∷ bs) = NoneWith b bs × Apart bs

-- the first bit of a word, from a cursor on
abbrev pub top : ℕ → ℕ
top c = (c + 31) / 32 * 32

-- What was laid from a cursor on lies behind it, its parts apart; each of so many scalars took at most 4,096 words.
pub record IsRun (c scalars : ℕ) (x : Laid) : Type 0 where
  pub grows : c ≤ x.1
  pub bounded : x.1 ≤ top c + 131072 * scalars
  pub within : Within c x.1 x.0
  pub apart : Apart x.0

pub apart-behind : (a b : Bits) → hi a < lo b → ShareNoBit a b
apart-behind a b h word bit p q =
    let u : word ≡ a.word = p.in_word in
    let v : word ≡ b.word = q.in_word in
    let s : bit ≤ a.end = p.high in
    let t : b.start ≤ bit = q.low in
    omega arith

pub within-wider : (from to from' to' : ℕ) (bs : List Bits) → from' ≤ from → to ≤ to' → Within from to bs → Within from' to' bs
within-wider from to from' to' [] p q w = tt
within-wider from to from' to' (b ∷ bs) p q w =
    (record { word = w.0.word; low = (let l : from ≤ lo b = w.0.low in omega arith); high = (let h : hi b < to = w.0.high in omega arith) }, within-wider from to from' to' bs p q w.1)

pub within-append : (from to : ℕ) (xs ys : List Bits) → Within from to xs → Within from to ys → Within from to (xs ++ ys)
within-append from to [] ys v w = w
within-append from to (x ∷ xs) ys v w = (v.0, within-append from to xs ys v.1 w)

pub none-behind : (a : Bits) (from to : ℕ) (bs : List Bits) → hi a < from → Within from to bs → NoneWith a bs
none-behind a from to [] h w = tt
none-behind a from to (b ∷ bs) h w =
    (apart-behind a b (let l : from ≤ lo b = w.0.low in omega arith), none-behind a from to bs h w.1)

none-append : (a : Bits) (xs ys : List Bits) → NoneWith a xs → NoneWith a ys → NoneWith a (xs ++ ys)
none-append a [] ys v w = w
none-append a (x ∷ xs) ys v w = (v.0, none-append a xs ys v.1 w)

apart-append : (a b c : ℕ) (xs ys : List Bits) → Within a b xs → Within b c ys → Apart xs → Apart ys → Apart (xs ++ ys)
apart-append a b c [] ys v w p q = q
apart-append a b c (x ∷ xs) ys v w p q =
    (none-append x xs ys p.0 (none-behind x b c ys v.0.high w), apart-append a b c xs ys v.1 w p.1 q)

-- runs one behind the other
pub run-follow : (c l l' : ℕ) (x : Laid) (f : ℕ → Laid) → IsRun c l x → IsRun x.1 l' (f x.1) → IsRun c (l + l') (follow x f)
run-follow c l l' x f r s =
    let g : c ≤ x.1 = r.grows in
    let h : x.1 ≤ (f x.1).1 = s.grows in
    let b : x.1 ≤ top c + 131072 * l = r.bounded in
    let d : (f x.1).1 ≤ top x.1 + 131072 * l' = s.bounded in
    record {
      grows = omega arith;
      bounded = omega arith;
      within = within-append c (f x.1).1 x.0 (f x.1).0 (within-wider c x.1 c (f x.1).1 x.0 (omega arith) h r.within) (within-wider x.1 (f x.1).1 c (f x.1).1 (f x.1).0 g (omega arith) s.within);
      apart = apart-append c x.1 (f x.1).1 x.0 (f x.1).0 r.within s.within r.apart s.apart;
    }

pub run-nothing : (c l : ℕ) → IsRun c l ([], c)
run-nothing c l = record { grows = omega arith; bounded = omega arith; within = tt; apart = tt }

pub run-more : (c l l' : ℕ) (x : Laid) → l ≤ l' → IsRun c l x → IsRun c l' x
run-more c l l' x h r =
    let b : x.1 ≤ top c + 131072 * l = r.bounded in
    record { grows = r.grows; bounded = omega arith; within = r.within; apart = r.apart }

run-as : (c l l' : ℕ) (x : Laid) → l ≡ l' → IsRun c l x → IsRun c l' x
run-as c l l' x e r = run-more c l l' x (omega arith) r

-- as many runs as there are turns
pub run-times : (n l c : ℕ) (f : ℕ → Laid) → ((d : ℕ) → top d + 131072 * l ≤ 137438953440 → IsRun d l (f d)) → top c + 131072 * (n * l) ≤ 137438953440 → IsRun c (n * l) (times n f c)
run-times zero l c f each room = run-nothing c (0 * l)
run-times (suc n) l c f each room =
    let e : suc n * l ≡ l + n * l = omega arith in
    let first : IsRun c l (f c) = each c (omega arith) in
    let b : (f c).1 ≤ top c + 131072 * l = first.bounded in
    run-as c (l + n * l) (suc n * l) (follow (f c) (times n f)) (omega arith) (run-follow c l (n * l) (f c) (times n f) first (run-times n l (f c).1 f each (omega arith)))

-- one scalar
spot : (s : Scalar) (b next c : ℕ) → 1 ≤ s.width → c ≤ b → b % 32 + s.width ≤ 32 → b + s.width ≤ next → next ≤ top c + 131072 → IsRun c 1 (bits_at s b ∷ [], next)
spot s b next c w p q r t =
    let e : min (b % 32 + s.width - 1) 4294967295 ≡ b % 32 + s.width - 1 = omega arith in
    record {
      grows = omega arith;
      bounded = omega arith;
      within = (record { word = record { ordered = omega arith; within = omega arith }; low = omega arith; high = omega arith }, tt);
      apart = (tt, tt);
    }

one_by : (s : Scalar) (dense fits : Bool) (c : ℕ) → nat_le (c % 32 + s.width) 32 ≡ fits → 1 ≤ s.width → s.width ≤ 32 → top c + 131072 ≤ 137438953440 → IsRun c 1 (bits_at s (if dense && fits then c else up c) ∷ [], after s.width dense (if dense && fits then c else up c))
one_by s false fits c e p q room = spot s (up c) (held (up c + 32)) c p (omega arith) (omega arith) (omega arith) (omega arith)
one_by s true true c e p q room =
    let f : c % 32 + s.width ≤ 32 = grind (arith, e) in spot s c (held (c + s.width)) c p (omega arith) f (omega arith) (omega arith)
one_by s true false c e p q room = spot s (up c) (held (up c + s.width)) c p (omega arith) (omega arith) (omega arith) (omega arith)

pub run-one : (s : Scalar) (dense : Bool) (c : ℕ) → 1 ≤ s.width → s.width ≤ 32 → top c + 131072 ≤ 137438953440 → IsRun c 1 (one s dense c)
run-one s dense c p q room = one_by s dense (nat_le (c % 32 + s.width) 32) c refl p q room

-- the numbers of a powerset
pub run-numbers : (n members : ℕ) (dense : Bool) (c : ℕ) → 32 * n ≤ members + 31 → top c + 131072 * n ≤ 137438953440 → IsRun c n (numbers n members dense c)
run-numbers zero members dense c h room = run-nothing c 0
run-numbers (suc n) members dense c h room =
    let number : Scalar = record { width = min 32 members; signed = false } in
    let first : IsRun c 1 (one number dense c) = run-one number dense c (omega arith) (omega arith) (omega arith) in
    let b : (one number dense c).1 ≤ top c + 131072 * 1 = first.bounded in
    run-as c (1 + n) (suc n) (follow (one number dense c) (numbers n (members - 32) dense)) (omega arith)
    (run-follow c 1 n (one number dense c) (numbers n (members - 32) dense) first (run-numbers n (members - 32) dense (one number dense c).1 (omega arith) (omega arith)))

-- a part begins at a new word, and so does what follows it
pub run-closed : (c l : ℕ) (x : Laid) → top c + 131072 * l ≤ 137438953440 → IsRun (up c) l x → IsRun c l (closed x)
run-closed c l x room r =
    let g : up c ≤ x.1 = r.grows in
    let b : x.1 ≤ top (up c) + 131072 * l = r.bounded in
    record {
      grows = omega arith;
      bounded = omega arith;
      within = within-wider (up c) x.1 c (up x.1) x.0 (omega arith) (omega arith) r.within;
      apart = r.apart;
    }

pub run-wider : (c l : ℕ) (x : Laid) → top c + 131072 * l ≤ 137438953440 → IsRun (up c) l x → IsRun c l x
run-wider c l x room r =
    let g : up c ≤ x.1 = r.grows in
    let b : x.1 ≤ top (up c) + 131072 * l = r.bounded in
    record { grows = omega arith; bounded = omega arith; within = within-wider (up c) x.1 c x.1 x.0 (omega arith) (omega arith) r.within; apart = r.apart }

-- ---- as the laws say it

none-all : (a : Bits) (bs : List Bits) → NoneWith a bs → All (ShareNoBit a) bs
none-all a [] n = λ k d h. absurd (omega arith)
none-all a (b ∷ bs) n = All-cons (ShareNoBit a) b bs n.0 (none-all a bs n.1)

pub apart-pairs : (bs : List Bits) → Apart bs → AllPairs ShareNoBit bs
apart-pairs [] p = λ i j d h k. absurd (omega arith)
apart-pairs (b ∷ bs) p = AllPairs-cons ShareNoBit b bs (none-all b bs p.0) (apart-pairs bs p.1)

pub within-words : (from to : ℕ) (bs : List Bits) → Within from to bs → All IsInWord bs
within-words from to [] w = λ k d h. absurd (omega arith)
within-words from to (b ∷ bs) w = All-cons IsInWord b bs w.0.word (within-words from to bs w.1)
