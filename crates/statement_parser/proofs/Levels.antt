-- Levels of nesting that are left, and what they leave inside.
use Rattle.std.proofs.Common.{◌≡◌, ℕ, suc, List, [], ◌∷◌, Result, Err, refl}
use Rattle.std.specs.Prelude.{map}
use Rattle.chill_base.specs.declared.pos.Pos.{Pos}
use Rattle.rules_model.specs.Marks.{Toks, front}
use Rattle.rules_model.specs.Reading.{Fault, Deep, Absent, many_at}
use Rattle.rules_model.specs.StatementReading.{kept, action_at, body_part_at, inside_at, actions_at, body_at}

-- what opened where no level is left
pub actions_deep : (n : ℕ) (p : Pos) (toks : Toks) → n ≡ 0 → actions_at n p toks ≡ Err (Deep p)
unfolding inside_at
actions_deep n p toks h = rw h refl

pub body_deep : (n : ℕ) (p : Pos) (toks : Toks) → n ≡ 0 → body_at n p toks ≡ Err (Deep p)
unfolding inside_at
body_deep n p toks h = rw h refl

-- what opened where a level is left
pub actions_inside : (n m : ℕ) (p : Pos) (toks : Toks) → n ≡ suc m → actions_at n p toks ≡ many_at (action_at m (actions_at m) (body_at m)) toks
unfolding inside_at
actions_inside n m p toks h = rw h refl

pub body_inside : (n m : ℕ) (p : Pos) (toks : Toks) → n ≡ suc m → body_at n p toks ≡ many_at (body_part_at m (actions_at m) (body_at m)) toks
unfolding inside_at
body_inside n m p toks h = rw h refl

pub ruleset insides = (actions_deep, body_deep, actions_inside, body_inside)

-- a list that isn't empty, seen item by item
pub kept_none : {X Y B : Type 0} (f : X → Y) (xs : List X) (toks : Toks) (r : Result B Fault) → xs ≡ [] → kept (map f xs) toks r ≡ Err (Absent (front toks))
kept_none f xs toks r h = rw h refl

pub kept_some : {X Y B : Type 0} (f : X → Y) (xs : List X) (toks : Toks) (r : Result B Fault) → ¬ (xs ≡ []) → kept (map f xs) toks r ≡ r
kept_some f [] toks r h = absurd (h refl)
kept_some f (x ∷ xs) toks r h = refl

pub ruleset kept_maps = (kept_none, kept_some)
