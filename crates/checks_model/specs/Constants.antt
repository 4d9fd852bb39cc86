-- Constants: which expressions have the form of one, and their values as trees. None is where the language gives no value,
-- or where something that is used has none. They ask of no rule: a rule asks for a value only where nothing is told inside.
use Rattle.std.specs.Prelude.{ℕ, zero, suc, Bool, true, false, ◌&&◌, ◌||◌, if◌then◌else◌, List, [], ◌∷◌, map, replicate, Option, Some, None, is_some, option_and_then, ℤ, pos, ◌+ℤ◌, neg_ℤ, int_le}
use Rattle.std.specs.List.{list_any}
use Rattle.chill_tree.specs.declared.tree.expr.Prefix.{Prefix}
use Rattle.chill_tree.specs.declared.tree.expr.Prefix.TheVariants as prefixes
use Rattle.chill_tree.specs.ExprTree.{ExprTree, ExprNodes, RangeTree, RangeNodes, whole, character, text, this_instance, paren, receive, start, tuple, uniform, name, apply, field, prefixed, binary, no_exprs, more_exprs, alone, between, no_ranges, more_ranges}
use Rattle.modes.specs.declared.mode.Bounds.{Bounds}
use Rattle.modes.specs.ModeTree.{ModeTree, ClassTree}
use Rattle.modes.specs.Form.{FormTree, form_of, of_powerset, of_array}
use Rattle.modes.specs.Bounds.{bounds_of, values_of}
use Rattle.checks_model.specs.ValueTrees.{ValueTree, number, members, parts, value_nodes}
use Rattle.checks_model.specs.Ground.{Ground, Origin, Entry, Predefined, truth, no_instance, num, succ, pred, abs, card, min, max, a_synonym, an_element, a_predefined, origin_of, entry_of}
use Rattle.checks_model.specs.Operations.{is_measuring}
use Rattle.checks_model.specs.Classes.{class_of, Callee, routine, callee_of, Measured, a_mode_of, misfit, other, measured, measured_first, class_of_first, tuple_mode, shape_fits, uniform_fits, mode_of_part}
use Rattle.checks_model.specs.Told.{holds_of}
use Rattle.checks_model.specs.OperatorValues.{in_int, truth_value, value_of_binary, value_of_unary, value_of_routine, value_of_measure}

-- ---- which expressions have the form of a constant

abbrev pub is_constant_origin : Option Origin → Bool
is_constant_origin (Some (a_synonym s)) = true
is_constant_origin (Some (an_element names part owner)) = true
is_constant_origin (Some (a_predefined (truth b))) = true
is_constant_origin (Some (a_predefined no_instance)) = true
is_constant_origin _ = false

abbrev pub is_value_routine : Predefined → Bool
is_value_routine num = true
is_value_routine succ = true
is_value_routine pred = true
is_value_routine abs = true
is_value_routine card = true
is_value_routine min = true
is_value_routine max = true
is_value_routine p = is_measuring p

abbrev pub is_measured : Measured → Bool
is_measured other = false
is_measured _ = true

-- the routine that is called, where it gives a value of its arguments alone
abbrev pub value_routine : Callee → Option Predefined
value_routine (routine p) = if is_value_routine p then Some p else None
value_routine _ = None

abbrev mutual
  -- A tuple without a mode's name has the form where a tuple of that form holds it, or where a written mode receives it as a
  -- synonym's whole value: `receives` says so.
  pub has_form : Ground → Bool → ExprTree → Bool
  has_form g receives (whole at n) = true
  has_form g receives (character at n) = true
  has_form g receives (text at n) = true
  has_form g receives (this_instance at) = false
  has_form g receives (receive at n) = false
  has_form g receives (start at n es) = false
  has_form g receives (field at e n) = false
  has_form g receives (paren at e) = has_form g receives e
  has_form g receives (tuple at m b rs) = (receives || is_some m) && have_form g rs
  has_form g receives (uniform at m b e) = (receives || is_some m) && has_form g true e
  has_form g receives (name n) = is_constant_origin (origin_of g n)
  has_form g receives (apply at e es) = holds_of (λ p. are_arguments g (is_measuring p) es) (value_routine (callee_of g e))
  has_form g receives (prefixed at o e) = has_form g false e
  has_form g receives (binary at l o p r) = has_form g false l && has_form g false r

  pub have_form : Ground → RangeNodes → Bool
  have_form g no_ranges = true
  have_form g (more_ranges r rs) = range_has_form g r && have_form g rs

  pub range_has_form : Ground → RangeTree → Bool
  range_has_form g (alone e) = has_form g true e
  range_has_form g (between l h) = has_form g true l && has_form g true h

  -- arguments of a routine, which measures them or takes their values
  pub are_arguments : Ground → Bool → ExprNodes → Bool
  are_arguments g measures no_exprs = true
  are_arguments g measures (more_exprs e es) = ((measures && is_measured (measured g e)) || has_form g false e) && are_arguments g measures es

-- ---- values of tuples

-- the value of a part that stands alone is both ends of a range
abbrev pub both_ends : {A : Type 0} → Option A → Option A → Option (A × A)
both_ends (Some l) (Some h) = Some (l, h)
both_ends _ _ = None

abbrev pub behind : {A : Type 0} → Option A → Option (List A) → Option (List A)
behind (Some x) (Some xs) = Some (x ∷ xs)
behind _ _ = None

abbrev pub lies_between : ℤ → ValueTree × ValueTree → Bool
lies_between n (number l, number h) = int_le l n && int_le n h
lies_between n _ = false

-- of so many numbers from one on, whether one of the ranges holds each
abbrev pub members_from : List (ValueTree × ValueTree) → ℕ → ℤ → List Bool
members_from ranges zero n = []
members_from ranges (suc count) n = list_any (lies_between n) ranges ∷ members_from ranges count (n +ℤ pos 1)

abbrev pub set_of_ranges : List (ValueTree × ValueTree) → ℕ → Option Bounds → Option ValueTree
set_of_ranges ranges count None = None
set_of_ranges ranges count (Some b) = Some (members (members_from ranges count b.low))

-- by the form of the mode: a powerset of what the ranges hold, or the parts in order
abbrev pub value_of_parts : FormTree → List (ValueTree × ValueTree) → Option ValueTree
value_of_parts (of_powerset m) ranges = set_of_ranges ranges (values_of m) (bounds_of m)
value_of_parts _ ranges = Some (parts (value_nodes (map (λ r. r.0) ranges)))

abbrev pub tuple_value : (FormTree → Bool) → Option ModeTree → Option (List (ValueTree × ValueTree)) → Option ValueTree
tuple_value fits (Some m) (Some ranges) = if fits (form_of m) then value_of_parts (form_of m) ranges else None
tuple_value fits _ _ = None

-- one value for each index
abbrev pub uniform_of : FormTree → ValueTree → Option ValueTree
uniform_of (of_array i e how) v = Some (parts (value_nodes (replicate (values_of i) v)))
uniform_of _ v = None

abbrev pub uniform_value : Option ModeTree → Option ValueTree → Option ValueTree
uniform_value (Some m) (Some v) = uniform_of (form_of m) v
uniform_value _ _ = None

-- ---- the value of an expression of constant form

abbrev pub applied : {A B C : Type 0} → (A → B → Option C) → Option A → Option B → Option C
applied f (Some a) (Some b) = f a b
applied f _ _ = None

abbrev pub value_of_measured : Predefined → Measured → Option ValueTree
value_of_measured p (a_mode_of m) = option_and_then (value_of_measure p) m
value_of_measured p misfit = None
value_of_measured p other = None

abbrev pub value_of_call : Option Predefined → Measured → Option ClassTree → Option ValueTree → Option ValueTree
value_of_call None m c v = None
value_of_call (Some p) m c v = if is_measuring p then value_of_measured p m else applied (value_of_routine p) c v

abbrev pub value_of_name : Option Entry → Option Origin → Option ValueTree
value_of_name e (Some (a_synonym s)) = option_and_then (λ e. e.value) e
value_of_name e (Some (an_element names part owner)) = Some (number (pos part))
value_of_name e (Some (a_predefined (truth b))) = Some (truth_value b)
value_of_name e (Some (a_predefined no_instance)) = Some (number (pos 0))
value_of_name e _ = None

abbrev pub literal_in : ExprTree → Option ℕ
literal_in (whole at n) = Some n
literal_in _ = None

abbrev pub negated : Option ℕ → Option ValueTree → Option ValueTree
negated (Some n) v = in_int (neg_ℤ (pos n))
negated None v = option_and_then (value_of_unary prefixes.Minus) v

-- a minus directly before a literal makes one number with it
abbrev pub value_before : Prefix → ExprTree → Option ValueTree → Option ValueTree
value_before prefixes.Minus e v = negated (literal_in e) v
value_before prefixes.Not e v = option_and_then (value_of_unary prefixes.Not) v

abbrev mutual
  -- the value of an expression that goes to a place of a mode, where that has one
  pub constant_as : Ground → Option ModeTree → ExprTree → Option ValueTree
  constant_as g receiving (whole at n) = in_int (pos n)
  constant_as g receiving (character at n) = Some (number (pos n))
  constant_as g receiving (text at bytes) = Some (parts (value_nodes (map (λ b. number (pos b)) bytes)))
  constant_as g receiving (paren at e) = constant_as g receiving e
  constant_as g receiving (name n) = value_of_name (entry_of g n) (origin_of g n)
  constant_as g receiving (apply at e es) = value_of_call (value_routine (callee_of g e)) (measured_first g es) (class_of_first g es) (value_of_first g es)
  constant_as g receiving (prefixed at o e) = value_before o e (constant_as g None e)
  constant_as g receiving (binary at l o p r) = applied (λ c w. option_and_then (λ v. value_of_binary o c v w) (constant_as g None l)) (class_of g r) (constant_as g None r)
  constant_as g receiving (tuple at m b rs) = tuple_value (shape_fits rs) (tuple_mode g m receiving) (values_of_ranges g (shape_fits rs) 0 (tuple_mode g m receiving) rs)
  constant_as g receiving (uniform at m b e) = uniform_value (tuple_mode g m receiving) (constant_as g (mode_of_part uniform_fits 0 (tuple_mode g m receiving)) e)
  constant_as g receiving (this_instance at) = None
  constant_as g receiving (receive at n) = None
  constant_as g receiving (start at n es) = None
  constant_as g receiving (field at e n) = None

  pub value_of_first : Ground → ExprNodes → Option ValueTree
  value_of_first g no_exprs = None
  value_of_first g (more_exprs e es) = constant_as g None e

  pub values_of_ranges : Ground → (FormTree → Bool) → ℕ → Option ModeTree → RangeNodes → Option (List (ValueTree × ValueTree))
  values_of_ranges g fits k m no_ranges = Some []
  values_of_ranges g fits k m (more_ranges r rs) = behind (value_of_range g (mode_of_part fits k m) r) (values_of_ranges g fits (suc k) m rs)

  pub value_of_range : Ground → Option ModeTree → RangeTree → Option (ValueTree × ValueTree)
  value_of_range g m (alone e) = both_ends (constant_as g m e) (constant_as g m e)
  value_of_range g m (between l h) = both_ends (constant_as g m l) (constant_as g m h)

-- the value of an expression that stands by itself
abbrev pub constant_of : Ground → ExprTree → Option ValueTree
constant_of g e = constant_as g None e
