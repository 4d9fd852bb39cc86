-- Turns of the loops that lay scalars.
use Rattle.std.proofs.Common.{◌≡◌, ℕ, zero, suc, ◌+◌, ◌-◌, ◌*◌, ◌/◌, ◌<◌, ◌≤◌, min, max, Bool, false, List, [], ◌∷◌, ◌++◌, Option, Some, None, refl, ap, arith, append-nil, append_assoc}
use Rattle.modes.specs.ModeTree.{FieldNodes, no_fields, more_fields}
use Rattle.modes.specs.Scalars.{numbers_of}
use Rattle.modes.proofs.ModeViews.{mode_built}
use Rattle.layout_map.specs.Spots.{Laid, follow, times, one, numbers, placed_end}

-- with a turn left, the next one is made
pub turn : (n k : ℕ) (f : ℕ → Laid) (c : ℕ) → k < n → times (n - k) f c ≡ follow (f c) (times (n - (k + 1)) f)
turn n k f c h =
    let e : n - k ≡ suc (n - (k + 1)) = omega arith in ap (λ (x : ℕ). times x f c) e

-- with members left, the next number is laid
pub number_turn : (m : ℕ) (dense : Bool) (c : ℕ) → 0 < m → numbers (numbers_of m) m dense c ≡ follow (one (record { width = min 32 m; signed = false }) dense c) (numbers (numbers_of (m - 32)) (m - 32) dense)
number_turn m dense c h =
    let e : numbers_of m ≡ suc (numbers_of (m - 32)) = omega arith in ap (λ (x : ℕ). numbers x m dense c) e

-- fields with places end at the cursor or behind it
pub placed_grows : (fs : FieldNodes) (c : ℕ) → c ≤ placed_end fs c
placed_grows no_fields c = omega arith
placed_grows (more_fields name m at fs) c = omega (arith, placed_grows fs c)

pub ruleset number_steps = (number_turn, append-nil, append_assoc)

pub ruleset turn_steps = (turn, append-nil, append_assoc)

pub ruleset placed_steps = (placed_grows, append-nil, append_assoc)

pub ruleset field_steps = (append-nil, append_assoc)

pub ruleset lay_steps = (mode_built, turn, append-nil, append_assoc)
