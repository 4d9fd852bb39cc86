-- What the class of an expression needs of the names in it; and the law that it is there where this is known and nothing is
-- told.
use Rattle.std.specs.Prelude.{◌≡◌, Bool, true, false, [], Option, Some, None, IsSome}
use Rattle.chill_tree.specs.declared.tree.name.Name.{Name}
use Rattle.chill_tree.specs.ExprTree.{ExprTree, ExprNodes, whole, character, text, this_instance, paren, receive, start, tuple, uniform, name, apply, field, prefixed, binary, no_exprs, more_exprs}
use Rattle.chill_tree.specs.LocalTree.{DeclarationTree}
use Rattle.modes.specs.ModeTree.{ClassTree}
use Rattle.checks_model.specs.Ground.{Ground, origin_of, mode_of_name, buffer_element, a_location, entry_of, mode_of_entry}
use Rattle.checks_model.specs.ProcessRules.{for_messages, told_misfit}
use Rattle.checks_model.specs.Operations.{is_measuring}
use Rattle.checks_model.specs.Classes.{class_as, class_of_name, Callee, calls, routine, no_callee, callee_of, result_class, Measured, a_mode_of, misfit, other, measured_first}
use Rattle.checks_model.specs.ValueRules.{Receiver, of_mode, received_mode, returns_none, told_in}

-- the mode before a tuple is known, where one is named
abbrev pub HasMode : Ground → Option Name → Type 0
HasMode g None = Unit {0}
HasMode g (Some n) = IsSome (mode_of_name g n)

-- the mode of what UPPER, LOWER or SIZE measures is known; of what is none of those, what its class needs
abbrev pub MeasuredKnown : Measured → Type 0 → Type 0
MeasuredKnown (a_mode_of m) argument = IsSome m
MeasuredKnown misfit argument = Unit {0}
MeasuredKnown other argument = argument

-- a routine that measures needs that, and any other needs its argument
abbrev pub RoutineKnown : Bool → Measured → Type 0 → Type 0
RoutineKnown true m argument = MeasuredKnown m argument
RoutineKnown false m argument = argument

-- brackets need the class of the result of a procedure that returns one, what a routine needs, and else what stands before them
abbrev pub BracketsKnown : Ground → Callee → Option ClassTree → Type 0 → Type 0 → Measured → Type 0
BracketsKnown g (calls n) result base argument m = returns_none (origin_of g n) ≡ false → IsSome result
BracketsKnown g (routine p) result base argument m = RoutineKnown (is_measuring p) m argument
BracketsKnown g no_callee result base argument m = base

abbrev mutual
  -- all is known that the class of an expression needs: a name that stands for a value has its class, a RECEIVE is from a buffer
  -- of known mode
  pub IsKnown : Ground → ExprTree → Type 0
  IsKnown g (whole at n) = Unit {0}
  IsKnown g (character at n) = Unit {0}
  IsKnown g (text at n) = Unit {0}
  IsKnown g (this_instance at) = Unit {0}
  IsKnown g (paren at e) = IsKnown g e
  IsKnown g (receive at n) = IsSome (buffer_element g n)
  IsKnown g (start at n es) = Unit {0}
  IsKnown g (tuple at m b rs) = HasMode g m
  IsKnown g (uniform at m b e) = HasMode g m
  IsKnown g (name n) = IsSome (class_of_name g n)
  IsKnown g (apply at e es) = BracketsKnown g (callee_of g e) (result_class g e) (IsKnown g e) (FirstKnown g es) (measured_first g es)
  IsKnown g (field at e n) = IsKnown g e
  IsKnown g (prefixed at o e) = IsKnown g e
  IsKnown g (binary at l o p r) = IsKnown g l × IsKnown g r

  pub FirstKnown : Ground → ExprNodes → Type 0
  FirstKnown g no_exprs = Unit {0}
  FirstKnown g (more_exprs e es) = IsKnown g e

-- a place whose mode isn't known, for a reason that is told elsewhere
abbrev pub is_unknown_place : Receiver → Bool
is_unknown_place (of_mode None) = true
is_unknown_place _ = false

abbrev pub CleanLaw : Type 0
CleanLaw = (g : Ground) (r : Receiver) (e : ExprTree) → IsKnown g e → is_unknown_place r ≡ false → told_in g r e ≡ [] → IsSome (class_as g (received_mode r) e)

-- a RECEIVE from a location of known mode has its class, where P3 isn't told of it
abbrev pub ReceiveLaw : Type 0
ReceiveLaw = (g : Ground) (n : Name) (d : DeclarationTree) → origin_of g n ≡ Some (a_location d) → IsSome (mode_of_entry (entry_of g n)) → told_misfit g for_messages n ≡ [] → IsSome (buffer_element g n)
