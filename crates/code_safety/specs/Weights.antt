-- How far a process can go without a tick: between two ticks code only goes forward.
use Rattle.std.specs.Prelude.{ℕ, ◌+◌, ◌-◌, ◌*◌, ◌<◌, ◌≤◌, List, [], ◌∷◌, length}
use Rattle.code_types.specs.declared.code.Code.{Code}
use Rattle.code_types.specs.Agreement.{Agrees}
use Rattle.code_types.specs.State.{Frame, State, Mode, Running, Called, Asking, Raising, Ended}
use Rattle.code_types.specs.Steps.{Move, Goes, Makes, Asks, Awaits, Stays, move}
use Rattle.code_safety.specs.Standing.{StandsWell}

-- the places that are left to the frames, each three times
abbrev pub frames_weight : Code → List Frame → ℕ
frames_weight code [] = 0
frames_weight code (f ∷ below) = 3 * (length code.instrs - f.place) + frames_weight code below

-- A process that runs may yet raise, and one that raises may ask to end; a call whose tick is made has a whole frame to come.
abbrev pub mode_weight : Code → Mode → ℕ
mode_weight code Running = 2
mode_weight code (Raising exception) = 1
mode_weight code (Asking request slots) = 0
mode_weight code Ended = 0
mode_weight code Called = 3 * length code.instrs + 3

-- The weight of a process.
abbrev pub weight : Code → State → ℕ
weight code s = mode_weight code s.mode + frames_weight code s.frames

-- the most that a process of at most 250 frames weighs
abbrev pub most_weight : Code → ℕ
most_weight code = 750 * length code.instrs + 3

-- without a tick or an answer the weight falls
abbrev pub Falls : Code → State → Move → Type 0
Falls code s (Goes next) = weight code next < weight code s
Falls code s (Makes next) = Unit {0}
Falls code s (Asks request next) = weight code next < weight code s
Falls code s (Awaits request slots) = Unit {0}
Falls code s Stays = Unit {0}

-- Whatever stands well falls in weight by each move that is no tick.
abbrev pub FallLaw : Type 0
FallLaw = (code : Code) (agrees : Agrees code) (s : State)
    → StandsWell code agrees.heights s
    → Falls code s (move code s)

-- Whatever stands well weighs no more than the most: so between two ticks it makes no more moves than that.
abbrev pub WeightLaw : Type 0
WeightLaw = (code : Code) (agrees : Agrees code) (s : State)
    → StandsWell code agrees.heights s
    → weight code s ≤ most_weight code
