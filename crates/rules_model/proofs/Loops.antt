-- Loops that read piece after piece.
use Rattle.std.proofs.Common.{◌≡◌, ℕ, zero, suc, ◌+◌, ◌-◌, ◌<◌, ◌≤◌, false, List, [], ◌∷◌, ◌++◌, length, Some, None, Result, Ok, refl, ap, ◌∙◌, arith, length-append}
use Rattle.chill_base.specs.declared.pos.Pos.{Pos}
use Rattle.chill_tree.specs.declared.token.Sign.TheVariants as signs
use Rattle.rules_model.specs.Marks.{Toks, sign, begins}
use Rattle.rules_model.specs.Reading.{Fault, Read, Piece, ◌>>=◌, roomy, sign_at, repeat, push, many_at, another_at, listed_at}

pub repeat_none : {S P : Type 0} (piece : Toks → Piece P) (grow : S → P → S) (j : ℕ) (s : S) (toks : Toks) → piece toks ≡ Ok None → repeat piece grow j s toks ≡ Ok (s, toks)
unfolding repeat
repeat_none piece grow zero s toks h = refl
repeat_none piece grow (suc j) s toks h = rw h refl

pub repeat_some : {S P : Type 0} (piece : Toks → Piece P) (grow : S → P → S) (j : ℕ) (s : S) (toks : Toks) (p : P) (rest : Toks) → piece toks ≡ Ok (Some (p, rest)) → repeat piece grow (suc j) s toks ≡ repeat piece grow j (grow s p) rest
unfolding repeat
repeat_some piece grow j s toks p rest h = rw h refl

-- ---- one, and one more behind each comma

-- the list so far is the state of the loop
abbrev pub Listing : {X : Type 0} → (Toks → Read X) → List X → Toks → Toks → Type 0
Listing read xs toks rest = (i j : ℕ) → suc i ≡ j + length xs → (read toks >>= λ x. repeat (another_at read) push i (x.0 ∷ []) x.1) ≡ repeat (another_at read) push j xs rest

comma_item : {X : Type 0} (read : Toks → Read X) (p : Pos) (x : X) (m rest : Toks) → read m ≡ Ok (x, rest) → another_at read (sign p signs.Comma ∷ m) ≡ Ok (Some (x, rest))
unfolding another_at sign_at
comma_item read p x m rest h = rw h refl

no_item : {X : Type 0} (read : Toks → Read X) (toks : Toks) → begins signs.Comma toks ≡ false → another_at read toks ≡ Ok None
unfolding another_at
no_item read toks h = rw h refl

pub listing_one : {X : Type 0} (read : Toks → Read X) (x : X) (toks rest : Toks) → read toks ≡ Ok (x, rest) → Listing read (x ∷ []) toks rest
listing_one read x toks rest h i j k = let e : i ≡ j = omega arith in rw (h, e) refl

pub listing_and : {X : Type 0} (read : Toks → Read X) (xs : List X) (x : X) (p : Pos) (toks m rest : Toks) → Listing read xs toks (sign p signs.Comma ∷ m) → read m ≡ Ok (x, rest) → Listing read (xs ++ x ∷ []) toks rest
listing_and read xs x p toks m rest l h i j k =
    l i (suc j) (omega (arith, length-append xs (x ∷ []))) ∙ repeat_some (another_at read) push j xs (sign p signs.Comma ∷ m) x rest (comma_item read p x m rest h)

left : (a b : ℕ) → b ≤ a → 0 < b → suc a ≡ (suc a - b) + b
left a b le lt = omega arith

pub listing_all : {X : Type 0} (read : Toks → Read X) (xs : List X) (toks rest : Toks) → Listing read xs toks rest → begins signs.Comma rest ≡ false → length xs ≤ length toks → 0 < length xs → listed_at read toks ≡ Ok (xs, rest)
unfolding listed_at
listing_all read xs toks rest l b le lt =
    l (length toks) (suc (length toks) - length xs) (left (length toks) (length xs) le lt) ∙ repeat_none (another_at read) push (suc (length toks) - length xs) xs rest (no_item read rest b)

-- ---- piece after piece

abbrev pub Gathering : {X : Type 0} → (Toks → Piece X) → List X → Toks → Toks → Type 0
Gathering piece xs toks rest = (i j : ℕ) → i ≡ j + length xs → repeat piece push i [] toks ≡ repeat piece push j xs rest

pub gathering_none : {X : Type 0} (piece : Toks → Piece X) (toks : Toks) → Gathering piece [] toks toks
gathering_none piece toks i j k = let e : i ≡ j = omega arith in ap (λ n. repeat piece push n [] toks) e

pub gathering_then : {X : Type 0} (piece : Toks → Piece X) (xs : List X) (x : X) (toks m rest : Toks) → Gathering piece xs toks m → piece m ≡ Ok (Some (x, rest)) → Gathering piece (xs ++ x ∷ []) toks rest
gathering_then piece xs x toks m rest g h i j k =
    g i (suc j) (omega (arith, length-append xs (x ∷ []))) ∙ repeat_some piece push j xs m x rest h

remaining : (a b : ℕ) → b ≤ a → a ≡ a - b + b
remaining a b le = omega arith

pub gathering_all : {X : Type 0} (piece : Toks → Piece X) (xs : List X) (toks rest : Toks) → Gathering piece xs toks rest → piece rest ≡ Ok None → length xs ≤ length toks → many_at piece toks ≡ Ok (xs, rest)
gathering_all piece xs toks rest g h le =
    g (length toks) (length toks - length xs) (remaining (length toks) (length xs) le) ∙ repeat_none piece push (length toks - length xs) xs rest h

-- ---- a level of nesting that is left

pub room_left : {B : Type 0} (n : ℕ) (p : Pos) (r x : Result B Fault) → 0 < n → r ≡ x → roomy n p r ≡ x
room_left zero p r x lt h = absurd (omega (arith, lt))
room_left (suc n) p r x lt h = h
