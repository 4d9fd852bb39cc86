-- Where a mode stands, the mode that is there, and what is known of the numbers in it.
use Rattle.std.specs.Prelude.{Bool, true, false, ◌&&◌, ◌||◌, not, Option, Some, None, option_map, option_and_then, IsTrue, slice_get, List, ◌++◌, ◌≡◌, ℕ, nat_le, if◌then◌else◌, ℤ, pos, negsuc}
use Rattle.std.specs.declared.alloc.Global.{Global}
use Rattle.std.specs.declared.rc.Rc.{Rc}
use Rattle.modes.specs.declared.mode.Mode.{Mode}
use Rattle.modes.specs.ModeTree.{ModeTree, mode_tree, ClassTree}
use Rattle.modes.specs.Bounds.{bounds_of}
use Rattle.modes.specs.Form.{form_of}
use Rattle.chill_tree.specs.ExprTree.{ExprTree}
use Rattle.checks_model.specs.Alike.{is_discrete, goes_with}
use Rattle.checks_model.specs.ValueTrees.{ValueTree}
use Rattle.checks_model.specs.Told.{holds_of, tell_at, told_if}
use Rattle.checks_model.specs.ConstantRules.{is_outside}
use Rattle.checks_model.specs.Ground.{Ground}
use Rattle.checks_model.specs.WrittenModes.{unless_told, told_bound, needed_number, is_large, told_not_discrete, is_large_powerset}
use Rattle.chill_base.specs.declared.pos.Pos.{Pos}
use Rattle.diagnostics.specs.declared.diagnostic.Diagnostic.{Diagnostic}
use Rattle.diagnostics.specs.declared.rule.Rule.TheVariants as rules
use Rattle.constant_operators.specs.Laid.{is_laid}
use Rattle.written_modes.specs.declared.written.Standing.{Standing}
use Rattle.written_modes.specs.declared.written.Standing.TheVariants as standings

-- it is the whole mode of a DCL, SYNMODE or NEWMODE
abbrev pub is_whole : Standing → Bool
is_whole standings.Whole = true
is_whole standings.Part = false

-- the mode that is there
abbrev pub tree_there : Option (Rc Mode Global) → Option ModeTree
tree_there m = option_map (λ m. mode_tree m.value) m

-- where it is there, it has places for its scalars
abbrev pub IsLaidThere : Option ModeTree → Type 0
IsLaidThere o = (m : ModeTree) → o ≡ Some m → IsTrue (is_laid m)

-- where it is there, it has no more scalars than a mode may have
abbrev pub IsFewThere : Option ModeTree → Type 0
IsFewThere o = (m : ModeTree) → o ≡ Some m → is_large m ≡ false

-- a mode is discrete where it is there
abbrev pub is_some_discrete : Option ModeTree → Bool
is_some_discrete None = true
is_some_discrete (Some m) = is_discrete (form_of m)

-- the first scalar of a value
abbrev pub first_in : Option (List ℤ) → Option ℤ
first_in flat = option_and_then (λ flat. slice_get flat 0) flat

-- a number as it is held, where it isn't too small or too large
abbrev pub natural_in : ℤ → Option ℕ
natural_in (pos n) = if nat_le n 4294967295 then Some n else None
natural_in (negsuc n) = None

-- a bound of a parent: none where something is told of it or where the parent isn't there
abbrev pub bound_there : Ground → Option ModeTree → ExprTree → Option ℤ
bound_there g None e = None
bound_there g (Some p) e = unless_told (told_bound g (Some p) e) (needed_number g e)

-- what has a class and a value doesn't go with a mode, or lies outside it
abbrev pub value_misfits : Option ClassTree → Option ValueTree → ModeTree → Bool
value_misfits c v m = holds_of (λ c. not (goes_with c m)) c || (holds_of (λ c. goes_with c m) c && holds_of (is_outside (bounds_of m)) v)

-- the same of a mode and two numbers
abbrev pub misfits_between : Option ClassTree → Option ValueTree → ModeTree → ℤ → ℤ → Bool
misfits_between c v m low high = holds_of (λ c. not (goes_with c m)) c || holds_of (is_outside (Some (record { low = low; high = high }))) v

-- what is told of a powerset of a member mode that may be there
abbrev pub told_of_members : Option ModeTree → Pos → Pos → List Diagnostic
told_of_members m first at = told_not_discrete m first ++ told_if (holds_of is_large_powerset m) (tell_at rules.M5 at)
