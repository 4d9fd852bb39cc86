-- What priorities and locations to be set are asked against, and the rules on them.
use Rattle.std.specs.Prelude.{◌≡◌, Bool, false, ◌||◌, ◌&&◌, not, List, [], ◌∷◌, Option, Some, None, ℤ, pos, int_le}
use Rattle.modes.specs.ModeTree.{ClassTree, int}
use Rattle.checks_model.specs.Alike.{goes_with}
use Rattle.checks_model.specs.ValueTrees.{ValueTree}
use Rattle.checks_model.specs.Ground.{Ground}
use Rattle.checks_model.specs.Told.{holds_of}
use Rattle.checks_model.specs.ConstantRules.{told_needed}
use Rattle.checks_model.specs.ProcessRules.{is_priority}
use Rattle.wait_exprs.specs.Waits.{WaitTree, set_of, priority_of}

-- a priority of which the phase of modes and constants tells nothing
abbrev pub IsNeeded : Ground → WaitTree → Type 0
IsNeeded g (set_of e) = Unit {0}
IsNeeded g (priority_of e) = told_needed g e ≡ []

abbrev pub AreNeeded : Ground → List WaitTree → Type 0
AreNeeded g [] = Unit {0}
AreNeeded g (w ∷ ws) = IsNeeded g w × AreNeeded g ws

-- P6: the class isn't one of INT, or the value is outside the limits
abbrev pub misfits_as_priority : Option ClassTree → Option ValueTree → Bool
misfits_as_priority c v = holds_of (λ c. not (goes_with c int)) c || holds_of (λ v. not (is_priority v)) v

abbrev pub is_outside_limits : Option ℤ → Bool
is_outside_limits None = false
is_outside_limits (Some n) = not (int_le (pos 0) n && int_le n (pos 1000000))
