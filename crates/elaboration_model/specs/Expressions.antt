-- Expressions and locations as they are elaborated. Each largest expression of constant form is one constant; every other node is
-- an operation on its parts. None is where something that it needs isn't there, which no text that breaks no rule has.
use Rattle.std.specs.Prelude.{ℕ, suc, ◌+◌, Bool, true, false, if◌then◌else◌, List, [], ◌∷◌, ◌++◌, map, flat_map, Option, Some, None, option_map, option_and_then, pos, ◌-ℤ◌}
use Rattle.std.specs.Str.{bytes_eq}
use Rattle.chill_tree.specs.declared.tree.name.Name.{Name}
use Rattle.chill_tree.specs.declared.tree.item.Passing.{Passing}
use Rattle.chill_tree.specs.declared.tree.item.Passing.TheVariants as passings
use Rattle.chill_tree.specs.declared.tree.expr.Operator.{Operator}
use Rattle.chill_tree.specs.declared.tree.expr.Operator.TheVariants as ops
use Rattle.chill_tree.specs.declared.tree.expr.Prefix.{Prefix}
use Rattle.chill_tree.specs.declared.tree.expr.Prefix.TheVariants as prefixes
use Rattle.chill_tree.specs.ExprTree.{ExprTree, ExprNodes, RangeTree, RangeNodes, whole, character, text, this_instance, paren, receive, start, tuple, uniform, name, apply, field, prefixed, binary, no_exprs, more_exprs, alone, between, no_ranges, more_ranges}
use Rattle.chill_tree.specs.ItemTree.{ParamTree, FormalTree}
use Rattle.modes.specs.declared.mode.Bounds.{Bounds}
use Rattle.modes.specs.ModeTree.{ModeTree, ClassTree, value, derived, null, nothing, FieldNodes, no_fields, more_fields}
use Rattle.modes.specs.Form.{FormTree, form_of, of_powerset, of_array, of_structure, of_chars}
use Rattle.modes.specs.Bounds.{bounds_of, values_of}
use Rattle.modes.specs.Scalars.{scalars_of}
use Rattle.checked_program.specs.declared.expr.Base.{Base}
use Rattle.checked_program.specs.declared.expr.Base.TheVariants as bases
use Rattle.checked_program.specs.declared.expr.Binary.{Binary}
use Rattle.checked_program.specs.declared.expr.Binary.TheVariants as binaries
use Rattle.checked_program.specs.declared.expr.Prefix.TheVariants as signs
use Rattle.checked_program.specs.declared.expr.Prefix as sign
use Rattle.checked_program.specs.declared.expr.Routine.{Routine}
use Rattle.checked_program.specs.declared.expr.Routine.TheVariants as routines
use Rattle.program_trees.specs.ExprTree as made
use Rattle.checks_model.specs.Alike.{mode_in}
use Rattle.checks_model.specs.ValueTrees.{ValueTree, scalars_in}
use Rattle.checks_model.specs.Ground.{Origin, Predefined, num, succ, pred, abs, card, min, max, get_int, a_procedure, a_process, origin_of, entry_defined, mode_of_entry}
use Rattle.checks_model.specs.Operations.{form_in, field_of_form, element_of_form}
use Rattle.checks_model.specs.Classes.{class_as, class_of, Callee, calls, routine, no_callee, callee_of, tuple_mode, shape_fits, uniform_fits, mode_of_part}
use Rattle.checks_model.specs.Constants.{has_form, constant_as}
use Rattle.checks_model.specs.ConstantRules.{told_of_constants}
use Rattle.checks_model.specs.WrittenModes.{unless_told}
use Rattle.elaboration_model.specs.Parts.{made_of, made_of_three, made_if}
use Rattle.elaboration_model.specs.Numbering.{Source, Thing, a_shared, a_local, thing_used, buffer_used, body_used}

-- ---- how many scalars a value of a class has: NULL has one

abbrev pub count_in : ClassTree → ℕ
count_in (value m) = scalars_of m
count_in (derived m) = scalars_of m
count_in null = 1
count_in nothing = 0

-- ---- operators and routines by the classes of their operands

abbrev pub between_sets : Operator → Option Binary
between_sets ops.Or = Some binaries.Union
between_sets ops.And = Some binaries.Intersection
between_sets ops.Xor = Some binaries.SymmetricDifference
between_sets ops.Minus = Some binaries.Difference
between_sets ops.LessOrEqual = Some binaries.Included
between_sets ops.Less = Some binaries.ProperlyIncluded
between_sets ops.GreaterOrEqual = Some binaries.Includes
between_sets ops.Greater = Some binaries.ProperlyIncludes
between_sets _ = None

abbrev pub between_numbers : Operator → Option Binary
between_numbers ops.Or = Some binaries.Or
between_numbers ops.Xor = Some binaries.Xor
between_numbers ops.OrIf = Some binaries.OrIf
between_numbers ops.And = Some binaries.And
between_numbers ops.AndIf = Some binaries.AndIf
between_numbers ops.Less = Some binaries.Less
between_numbers ops.LessOrEqual = Some binaries.LessOrEqual
between_numbers ops.Greater = Some binaries.Greater
between_numbers ops.GreaterOrEqual = Some binaries.GreaterOrEqual
between_numbers ops.Plus = Some binaries.Add
between_numbers ops.Minus = Some binaries.Subtract
between_numbers ops.Times = Some binaries.Multiply
between_numbers ops.Divide = Some binaries.Divide
between_numbers ops.Mod = Some binaries.Modulo
between_numbers ops.Rem = Some binaries.Remainder
between_numbers _ = None

-- the bounds of the members of a powerset
abbrev pub member_bounds : Option FormTree → Option Bounds
member_bounds (Some (of_powerset m)) = bounds_of m
member_bounds _ = None

abbrev pub by_form : Operator → Option FormTree → Option Binary
by_form op (Some (of_powerset m)) = between_sets op
by_form op _ = between_numbers op

-- the operator between operands of these classes
abbrev pub operator_between : Operator → ClassTree → ClassTree → Option Binary
operator_between ops.Equal l r = Some binaries.Equal
operator_between ops.NotEqual l r = Some binaries.NotEqual
operator_between ops.In l r = option_map binaries.Member (member_bounds (form_in r))
operator_between op l r = by_form op (form_in l)

abbrev pub negation_by : Option FormTree → sign.Prefix
negation_by (Some (of_powerset m)) = signs.Complement (values_of m)
negation_by _ = signs.Not

abbrev pub operator_before : Prefix → ClassTree → sign.Prefix
operator_before prefixes.Minus c = signs.Minus
operator_before prefixes.Not c = negation_by (form_in c)

abbrev pub class_bounds : ClassTree → Option Bounds
class_bounds c = option_and_then bounds_of (mode_in c)

-- the routine of an argument of a class
abbrev pub routine_on : Predefined → ClassTree → Option Routine
routine_on num c = Some routines.Number
routine_on abs c = Some routines.Absolute
routine_on card c = Some routines.Cardinality
routine_on succ c = option_map (λ b. routines.Successor b.high) (class_bounds c)
routine_on pred c = option_map (λ b. routines.Predecessor b.low) (class_bounds c)
routine_on min c = option_map (λ b. routines.Least b.low) (member_bounds (form_in c))
routine_on max c = option_map (λ b. routines.Greatest b.low) (member_bounds (form_in c))
routine_on _ c = None

-- ---- expressions by their operations

abbrev pub constant_expr : Option ClassTree → Option ValueTree → Option made.ExprTree
constant_expr c v = made_of (λ c v. made.expr (count_in c) (made.root_bounds c) (made.constant (scalars_in v))) c v

-- an expression that goes to a place of a mode: one of constant form is a constant, which is there only where nothing is told in
-- it, and any other is found by its operation
abbrev pub folded : Source → Option ModeTree → ExprTree → Option made.OperationTree → Option made.ExprTree
folded s m e operation =
    if has_form s.known false e then unless_told (told_of_constants s.known e) (constant_expr (class_as s.known m e) (constant_as s.known m e))
    else made_of (λ c o. made.expr (count_in c) (made.root_bounds c) o) (class_as s.known m e) operation

-- a value that something of a mode takes: where the mode is discrete it is tested by its bounds
abbrev pub received_as : Option ModeTree → Option made.ExprTree → Option made.ReceivedTree
received_as m e = made_of (λ m e. made.received e (bounds_of m)) m e

-- ---- names with parts

-- what the parts of a name are of
pub data Root : Type 0 where
  at_base : Base → Root
  of_value : made.ExprTree → Root

-- a name with parts, and the mode of the whole
pub record Path : Type 0 where
  pub root : Root
  pub parts : List made.PartTree
  pub mode : ModeTree

abbrev pub base_of : Thing → Option Base
base_of (a_shared k) = Some (bases.Shared k)
base_of (a_local b k) = Some (bases.Local k)
base_of _ = None

abbrev pub path_at : Option Base → Option ModeTree → Option Path
path_at base m = made_of (λ b m. record { root = at_base b; parts = []; mode = m }) base m

abbrev pub path_of_value : Option made.ExprTree → Option ClassTree → Option Path
path_of_value e c = made_of (λ e m. record { root = of_value e; parts = []; mode = m }) e (option_and_then mode_in c)

abbrev pub with_part : made.PartTree → ModeTree → Path → Path
with_part p m path = record { root = path.root; parts = path.parts ++ p ∷ []; mode = m }

-- the first scalar of the field of that name
abbrev pub first_in : List ℕ → FieldNodes → ℕ
first_in n no_fields = 0
first_in n (more_fields own m at fs) = if bytes_eq own n then 0 else scalars_of m + first_in n fs

abbrev pub first_of_field : List ℕ → FormTree → ℕ
first_of_field n (of_structure fs p) = first_in n fs
first_of_field n _ = 0

abbrev pub field_path : List ℕ → Path → Option Path
field_path n path = option_map (λ m. with_part (made.one_field (first_of_field n (form_of path.mode)) (scalars_of m)) m path) (field_of_form n (form_of path.mode))

-- the bounds of the indices of an array, or of a text, whose first character has the index 0
abbrev pub index_bounds : FormTree → Option Bounds
index_bounds (of_array i e how) = bounds_of i
index_bounds (of_chars n) = Some (record { low = pos 0; high = pos n -ℤ pos 1 })
index_bounds _ = None

abbrev pub element_path : made.ExprTree → Path → Option Path
element_path index path = made_of (λ b m. with_part (made.one_element index b (scalars_of m)) m path) (index_bounds (form_of path.mode)) (element_of_form (form_of path.mode))

abbrev pub contents_at : Root → List made.PartTree → ℕ → made.OperationTree
contents_at (at_base b) ps n = made.contents (made.location b (made.part_nodes ps) n)
contents_at (of_value e) ps n = made.part_of e (made.part_nodes ps)

-- the contents of a location, or a part of another value
abbrev pub operation_at : Path → made.OperationTree
operation_at path = contents_at path.root path.parts (scalars_of path.mode)

-- a location with its mode
abbrev pub Target : Type 0
Target = made.LocationTree × ModeTree

abbrev pub target_at : Root → List made.PartTree → ModeTree → Option Target
target_at (at_base b) ps m = Some (made.location b (made.part_nodes ps) (scalars_of m), m)
target_at (of_value e) ps m = None

abbrev pub target_of : Path → Option Target
target_of path = target_at path.root path.parts path.mode

-- ---- what arguments go to

-- the way that a parameter passes its value, and its mode
abbrev pub Formal : Type 0
Formal = Passing × Option ModeTree

abbrev pub passing_of : Option Passing → Passing
passing_of None = passings.In
passing_of (Some p) = p

abbrev pub mode_defined : Source → Name → Option ModeTree
mode_defined s n = mode_of_entry (entry_defined s.known n)

abbrev pub formals_of_param : Source → ParamTree → List Formal
formals_of_param s p = map (λ n. (passing_of p.passing, mode_defined s n)) p.names

abbrev pub formals_by : Source → Option Origin → List Formal
formals_by s (Some (a_procedure p)) = flat_map (formals_of_param s) p.params
formals_by s _ = []

abbrev pub modes_of_formal : Source → FormalTree → List (Option ModeTree)
modes_of_formal s p = map (mode_defined s) p.names

abbrev pub modes_by : Source → Option Origin → List (Option ModeTree)
modes_by s (Some (a_process p)) = flat_map (modes_of_formal s) p.formals
modes_by s _ = []

-- the mode that an index has to go with
abbrev pub index_mode_of : Option ClassTree → Option ModeTree
index_mode_of c = option_and_then by_index (option_and_then form_in c)
  where
    by_index : FormTree → Option ModeTree
    by_index (of_array i e how) = Some i
    by_index _ = None

abbrev pub argument_for : Formal → Option made.ReceivedTree → Option Target → Option made.ArgumentTree
argument_for (passings.In, m) r t = option_map made.taken r
argument_for (passings.Out, m) r t = option_map (λ t. made.given t.0 (bounds_of t.1)) t
argument_for (passings.InOut, m) r t = made_of (λ m t. made.both t.0 (bounds_of m) (bounds_of t.1)) m t

abbrev pub head_formal : List Formal → Option Formal
head_formal [] = None
head_formal (f ∷ fs) = Some f

abbrev pub rest_of : {A : Type 0} → List A → List A
rest_of [] = []
rest_of (x ∷ xs) = xs

abbrev pub formal_mode : List Formal → Option ModeTree
formal_mode [] = None
formal_mode (f ∷ fs) = f.1

abbrev pub head_mode : List (Option ModeTree) → Option ModeTree
head_mode [] = None
head_mode (m ∷ ms) = m

abbrev pub with_argument : Option made.ArgumentTree → Option made.ArgumentNodes → Option made.ArgumentNodes
with_argument a as' = made_of made.with_argument a as'

abbrev pub with_received : Option made.ReceivedTree → Option made.ReceivedNodes → Option made.ReceivedNodes
with_received r rs = made_of made.more_received r rs

-- as many arguments as there are places
abbrev pub if_all : {A B : Type 0} → List A → B → Option B
if_all [] x = Some x
if_all (y ∷ ys) x = None

-- ---- tuples by the form of their mode

abbrev pub tuple_operation : FormTree → Option made.RangeNodes → Option made.ReceivedNodes → Option made.OperationTree
tuple_operation (of_powerset m) ranges parts = made_of made.powerset (bounds_of m) ranges
tuple_operation (of_array i e how) ranges parts = option_map made.parts parts
tuple_operation (of_structure fs p) ranges parts = option_map made.parts parts
tuple_operation _ ranges parts = None

abbrev pub uniform_operation : FormTree → made.ReceivedTree → Option made.OperationTree
uniform_operation (of_array i e how) r = Some (made.uniform (values_of i) r)
uniform_operation _ r = None

-- ---- calls by what is called

abbrev pub call_operation : Source → Name → Option made.ArgumentNodes → Option made.OperationTree
call_operation s n as' = made_of (λ b as'. made.call (made.called b as')) (body_used s n) as'

abbrev pub routine_operation : Predefined → Option ClassTree → Option made.ExprTree → Option made.OperationTree
routine_operation get_int c e = Some made.get_int
routine_operation p c e = made_of made.routine (option_and_then (routine_on p) c) e

-- what a name with brackets is: a call, a routine's result, or a part of what stands before them
abbrev pub applied_operation : Source → Callee → Option made.ArgumentNodes → Option ClassTree → Option made.ExprTree → Option Path → Option made.OperationTree
applied_operation s (calls n) as' c e path = call_operation s n as'
applied_operation s (routine p) as' c e path = routine_operation p c e
applied_operation s no_callee as' c e path = option_map operation_at path

abbrev pub applied_path : Callee → Option made.ExprTree → Option ClassTree → Option Path → Option Path
applied_path (calls n) v c path = path_of_value v c
applied_path (routine p) v c path = path_of_value v c
applied_path no_callee v c path = path

abbrev pub class_first : Source → ExprNodes → Option ClassTree
class_first s no_exprs = None
class_first s (more_exprs e es) = class_of s.known e

-- the mode that the first thing in brackets goes to: that of an index
abbrev pub mode_in_brackets : Source → Callee → ExprTree → Option ModeTree
mode_in_brackets s no_callee e = index_mode_of (class_of s.known e)
mode_in_brackets s _ e = None

abbrev pub formals_called : Source → Callee → List Formal
formals_called s (calls n) = formals_by s (origin_of s.known n)
formals_called s _ = []

-- a name alone: a location, or the value of a constant
abbrev pub location_named : Source → Name → Option Path
location_named s n = path_at (option_and_then base_of (thing_used s n)) (option_and_then mode_in (class_of s.known (name n)))

abbrev pub path_of_name : Source → Name → Option Path
path_of_name s n = if has_form s.known false (name n) then path_of_value (folded s None (name n) None) (class_of s.known (name n)) else location_named s n

abbrev mutual
  -- an expression that goes to a place of a mode, where that has one
  pub expr_as : Source → Option ModeTree → ExprTree → Option made.ExprTree
  expr_as s m (whole at n) = folded s m (whole at n) None
  expr_as s m (character at n) = folded s m (character at n) None
  expr_as s m (text at bytes) = folded s m (text at bytes) None
  expr_as s m (this_instance at) = folded s m (this_instance at) (Some made.own_instance)
  expr_as s m (paren at e) = expr_as s m e
  expr_as s m (receive at n) = folded s m (receive at n) (option_map made.receive (buffer_used s n))
  expr_as s m (start at n es) = folded s m (start at n es) (made_of (λ b rs. made.start (made.started b rs)) (body_used s n) (received_each s (modes_by s (origin_of s.known n)) es))
  expr_as s m (tuple at n b rs) =
      folded s m (tuple at n b rs)
      (option_and_then (λ own. tuple_operation (form_of own) (ranges_as s own rs) (parts_as s (shape_fits rs) 0 (Some own) rs)) (tuple_mode s.known n m))
  expr_as s m (uniform at n b e) =
      folded s m (uniform at n b e)
      (made_if (λ own r. uniform_operation (form_of own) r) (tuple_mode s.known n m)
      (received_as (mode_of_part uniform_fits 0 (tuple_mode s.known n m)) (expr_as s (mode_of_part uniform_fits 0 (tuple_mode s.known n m)) e)))
  expr_as s m (name n) = folded s m (name n) (option_map operation_at (location_named s n))
  expr_as s m (apply at e es) =
      folded s m (apply at e es)
      (applied_operation s (callee_of s.known e) (arguments s (formals_called s (callee_of s.known e)) es) (class_first s es) (only_one s (mode_in_brackets s (callee_of s.known e) e) es)
      (made_if element_path (only_one s (mode_in_brackets s (callee_of s.known e) e) es) (path s e)))
  expr_as s m (field at e n) = folded s m (field at e n) (option_map operation_at (option_and_then (field_path n.text) (path s e)))
  expr_as s m (prefixed at o e) = folded s m (prefixed at o e) (made_of (λ c e. made.prefixed (operator_before o c) e) (class_of s.known e) (expr_as s None e))
  expr_as s m (binary at l o p r) =
      folded s m (binary at l o p r)
      (made_of_three made.binary (made_if (operator_between o) (class_of s.known l) (class_of s.known r)) (expr_as s None l) (expr_as s None r))

  -- a name with its parts
  pub path : Source → ExprTree → Option Path
  path s (name n) = path_of_name s n
  path s (field at e n) = option_and_then (field_path n.text) (path s e)
  path s (apply at e es) =
      applied_path (callee_of s.known e)
      (folded s None (apply at e es)
      (applied_operation s (callee_of s.known e) (arguments s (formals_called s (callee_of s.known e)) es) (class_first s es) (only_one s None es) None))
      (class_of s.known (apply at e es))
      (made_if element_path (only_one s (mode_in_brackets s (callee_of s.known e) e) es) (path s e))
  path s _ = None

  -- what a parameter takes, or the location that it gives back to
  pub arguments : Source → List Formal → ExprNodes → Option made.ArgumentNodes
  arguments s fs no_exprs = if_all fs made.no_arguments
  arguments s fs (more_exprs e es) =
      with_argument (option_and_then (λ f. argument_for f (received_as f.1 (expr_as s f.1 e)) (option_and_then target_of (path s e))) (head_formal fs)) (arguments s (rest_of fs) es)

  -- values that go to places of modes
  pub received_each : Source → List (Option ModeTree) → ExprNodes → Option made.ReceivedNodes
  received_each s ms no_exprs = if_all ms made.no_received
  received_each s ms (more_exprs e es) = with_received (received_as (head_mode ms) (expr_as s (head_mode ms) e)) (received_each s (rest_of ms) es)

  -- the only expression in brackets
  pub only_one : Source → Option ModeTree → ExprNodes → Option made.ExprTree
  only_one s m no_exprs = None
  only_one s m (more_exprs e no_exprs) = expr_as s m e
  only_one s m (more_exprs e (more_exprs f fs)) = None

  -- the members of a powerset of a mode
  pub ranges_as : Source → ModeTree → RangeNodes → Option made.RangeNodes
  ranges_as s own no_ranges = Some made.no_ranges
  ranges_as s own (more_ranges r rs) = made_of made.with_range (range_as s (mode_of_part (λ f. true) 0 (Some own)) r) (ranges_as s own rs)

  pub range_as : Source → Option ModeTree → RangeTree → Option made.RangeTree
  range_as s m (alone e) = option_map made.alone (expr_as s m e)
  range_as s m (between l h) = made_of made.between (expr_as s m l) (expr_as s m h)

  -- the parts of an array or a structure
  pub parts_as : Source → (FormTree → Bool) → ℕ → Option ModeTree → RangeNodes → Option made.ReceivedNodes
  parts_as s fits k m no_ranges = Some made.no_received
  parts_as s fits k m (more_ranges r rs) = with_received (part_as s (mode_of_part fits k m) r) (parts_as s fits (suc k) m rs)

  pub part_as : Source → Option ModeTree → RangeTree → Option made.ReceivedTree
  part_as s m (alone e) = received_as m (expr_as s m e)
  part_as s m (between l h) = None

-- the location that something is assigned to, with its mode
abbrev pub target : Source → ExprTree → Option Target
target s e = option_and_then target_of (path s e)

-- an expression that nothing receives
abbrev pub expr_alone : Source → ExprTree → Option made.ExprTree
expr_alone s e = expr_as s None e

-- a value that goes to a place of a mode
abbrev pub received_by : Source → Option ModeTree → ExprTree → Option made.ReceivedTree
received_by s m e = received_as m (expr_as s m e)
