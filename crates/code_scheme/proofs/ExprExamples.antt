-- The code of short expressions, worked out by hand from the tables of `docs/MACHINE.md`.
use Rattle.std.specs.Prelude.{◌≡◌, refl, ℕ, false, List, [], ◌∷◌, ℤ, pos, Some, None}
use Rattle.code_types.specs.declared.instr.Instr.{Instr}
use Rattle.code_types.specs.declared.instr.Instr.TheVariants as i
use Rattle.modes.specs.declared.mode.Bounds.{Bounds}
use Rattle.modes.specs.ModeTree.{ModeTree, int, boolean}
use Rattle.modes.specs.Bounds.{bounds_of}
use Rattle.checked_program.specs.declared.expr.Base.TheVariants.{Shared, Local}
use Rattle.checked_program.specs.declared.expr.Binary.TheVariants.{Add, AndIf, OrIf, NotEqual, Greater, Member}
use Rattle.checked_program.specs.declared.expr.Prefix.TheVariants.{Not}
use Rattle.checked_program.specs.declared.expr.Routine.TheVariants.{Least}
use Rattle.checked_program.specs.declared.program.Passing.TheVariants.{Out, InOut}
use Rattle.checked_program.specs.declared.program.Sort.TheVariants.{Procedure}
use Rattle.program_trees.specs.ExprTree.{ExprTree, expr, OperationTree, constant, contents, part_of, receive, call, powerset, uniform, routine, prefixed, binary, received, no_parts, field, element, no_ranges, one_member, members, LocationTree, location, called, no_arguments, out_argument, inout_argument}
use Rattle.program_trees.specs.StatementTree.{no_statements, no_handler}
use Rattle.program_trees.specs.ProgramTree.{LocalRowTree, BodyRowTree, CheckedTree}
use Rattle.code_scheme.specs.Pieces.{Layout}
use Rattle.code_scheme.specs.ExprCode.{expr_code, condition_code}

-- ---- the body: x and y are INT, b and c are BOOL, v is an array of 3 pairs

abbrev row : ModeTree → ℕ → ℕ → LocalRowTree
row m first count = record { name = []; mode = m; first = first; count = count }

-- a procedure with an INOUT and an OUT parameter of INT
abbrev callee : BodyRowTree
callee = record {
  definition = None;
  name = [];
  sort = Procedure;
  region = None;
  critical = false;
  parameters = record { passing = InOut } ∷ record { passing = Out } ∷ [];
  result = None;
  listed = [];
  locals = row int 0 1 ∷ row int 1 1 ∷ [];
  statements = no_statements;
  handler = no_handler;
}

abbrev program : CheckedTree
program = record {
  locations = [];
  bodies = callee ∷ callee ∷ [];
  regions = 0;
  events = [];
  buffers = [];
  signals = [];
  exceptions = [];
  reads_input = false;
  size = 0;
  definitions = [];
  modulions = [];
}

abbrev here : Layout
here = record { program = program; rows = row int 0 1 ∷ row int 1 1 ∷ row boolean 2 1 ∷ row boolean 3 1 ∷ row int 4 6 ∷ [] }

abbrev of_int : OperationTree → ExprTree
of_int o = expr 1 (bounds_of int) o

abbrev of_truth : OperationTree → ExprTree
of_truth o = expr 1 (bounds_of boolean) o

abbrev number : ℤ → ExprTree
number z = of_int (constant (z ∷ []))

abbrev local : ℕ → LocationTree
local k = location (Local k) no_parts 1

abbrev x : ExprTree
x = of_int (contents (local 0))

abbrev b : ExprTree
b = of_truth (contents (local 2))

abbrev c : ExprTree
c = of_truth (contents (local 3))

abbrev between : ℤ → ℤ → Bounds
between l h = record { low = l; high = h }

-- the second number of the pair of v at an index
abbrev second_at : ExprTree → LocationTree
second_at e = location (Local 4) (element e (between (pos 1) (pos 3)) 2 (field 1 1 no_parts)) 1

abbrev code : ExprTree → ℕ → List Instr
code e at = expr_code here 10 e at

-- ---- values

sum : code (of_int (binary Add x (number (pos 1)))) 0 ≡ i.Local 0 1 ∷ i.Push (pos 1) ∷ i.Add ∷ []
sum = refl

text : code (expr 4 None (constant (pos 97 ∷ pos 97 ∷ pos 97 ∷ pos 98 ∷ []))) 0 ≡ i.Push (pos 97) ∷ i.Copy 1 ∷ i.Copy 1 ∷ i.Push (pos 98) ∷ []
text = refl

part_of_a_local : code (of_int (contents (second_at x))) 0 ≡ i.Local 0 1 ∷ i.Index (pos 1) (pos 3) 2 ∷ i.LocalAt 5 1 ∷ []
part_of_a_local = refl

two_indices :
    code (of_int (contents (location (Shared 7) (element x (between (pos 1) (pos 3)) 4 (field 2 2 (element (number (pos 0)) (between (pos 0) (pos 1)) 1 no_parts))) 1))) 0
    ≡ i.Local 0 1 ∷ i.Index (pos 1) (pos 3) 4 ∷ i.Push (pos 0) ∷ i.Index (pos 0) (pos 1) 1 ∷ i.Add ∷ i.Read 7 2 1 ∷ []
two_indices = refl

-- ANDIF from place 5 on: the second operand is at place 9, and place 10 is behind both
and_if : code (of_truth (binary AndIf b c)) 5 ≡ i.Local 2 1 ∷ i.Copy 1 ∷ i.Unless 10 ∷ i.Pop 1 ∷ i.Local 3 1 ∷ []
and_if = refl

or_if : code (of_truth (binary OrIf b c)) 5 ≡ i.Local 2 1 ∷ i.Copy 1 ∷ i.Unless 9 ∷ i.Jump 11 ∷ i.Pop 1 ∷ i.Local 3 1 ∷ []
or_if = refl

greater : code (of_truth (binary Greater x (number (pos 3)))) 0 ≡ i.Local 0 1 ∷ i.Push (pos 3) ∷ i.Copy 2 ∷ i.Part 1 2 4 ∷ i.Less 1 ∷ []
greater = refl

-- a value of INT may lie outside the members
is_in :
    code (of_truth (binary (Member (between (pos 1) (pos 8))) x (expr 1 None (constant (pos 5 ∷ []))))) 0
    ≡ i.Local 0 1 ∷ i.Copy 1 ∷ i.Push (pos 1) ∷ i.Less 1 ∷ i.Copy 2 ∷ i.Pop 1 ∷ i.Push (pos 9) ∷ i.Less 1 ∷ i.Not ∷ i.Or ∷ i.Unless 13 ∷ i.Pop 1 ∷ i.Push (pos 33)
    ∷ i.Push (pos 1) ∷ i.Sub ∷ i.Push (pos 5) ∷ i.Has ∷ []
is_in = refl

-- the number 3 lies in the members, the least of which is 0
is_in_without_test :
    code (of_truth (binary (Member (between (pos 0) (pos 8))) (number (pos 3)) (expr 1 None (constant (pos 5 ∷ []))))) 0 ≡ i.Push (pos 3) ∷ i.Push (pos 5) ∷ i.Has ∷ []
is_in_without_test = refl

least : code (of_int (routine (Least (pos 1)) (expr 1 None (constant (pos 5 ∷ []))))) 0 ≡ i.Push (pos 5) ∷ i.Least ∷ i.Push (pos 1) ∷ i.Add ∷ []
least = refl

powerset_of_members :
    code (expr 1 None (powerset (between (pos 1) (pos 8)) (one_member x (members (number (pos 3)) (number (pos 5)) no_ranges)))) 0
    ≡ i.Push (pos 0) ∷ i.Local 0 1 ∷ i.Index (pos 1) (pos 8) 1 ∷ i.Copy 1 ∷ i.Span ∷ i.BitOr
    ∷ i.Push (pos 3) ∷ i.Index (pos 1) (pos 8) 1 ∷ i.Push (pos 5) ∷ i.Index (pos 1) (pos 8) 1 ∷ i.Span ∷ i.BitOr ∷ []
powerset_of_members = refl

-- five elements of two scalars
all_alike :
    code (expr 10 None (uniform 5 (received (expr 2 None (constant (pos 1 ∷ pos 2 ∷ []))) None))) 0
    ≡ i.Push (pos 1) ∷ i.Push (pos 2) ∷ i.Copy 2 ∷ i.Copy 4 ∷ i.Copy 2 ∷ []
all_alike = refl

part_of_a_value :
    code (of_int (part_of (expr 6 None (constant (pos 1 ∷ pos 2 ∷ pos 3 ∷ pos 4 ∷ pos 5 ∷ pos 6 ∷ []))) (element x (between (pos 1) (pos 3)) 2 (field 1 1 no_parts)))) 0
    ≡ i.Push (pos 1) ∷ i.Push (pos 2) ∷ i.Push (pos 3) ∷ i.Push (pos 4) ∷ i.Push (pos 5) ∷ i.Push (pos 6) ∷ i.Local 0 1 ∷ i.Index (pos 1) (pos 3) 2 ∷ i.Push (pos 1) ∷ i.Add ∷ i.PartAt 1 6 ∷ []
part_of_a_value = refl

received_from_a_buffer : code (expr 2 None (receive 3)) 0 ≡ i.Thing 3 ∷ i.Push (pos 10) ∷ i.Push (pos 2) ∷ i.Take 1 false ∷ i.Pop 2 ∷ i.Local 10 2 ∷ []
received_from_a_buffer = refl

-- The INOUT argument has its place in scratch local 10, and 11 is behind it. It is of INT (0 : 9), and what an OUT parameter of INT
-- has needs no test.
a_call :
    code (expr 0 None (call (called 1 (inout_argument (second_at x) None (Some (between (pos 0) (pos 9))) (out_argument (local 1) (bounds_of int) no_arguments))))) 0
    ≡ i.Local 0 1 ∷ i.Index (pos 1) (pos 3) 2 ∷ i.SetLocal 10 1 ∷ i.Local 10 1 ∷ i.LocalAt 5 1
    ∷ i.Push (pos 0)
    ∷ i.Call 1
    ∷ i.Check (pos 0) (pos 9) ∷ i.SetLocal 11 1 ∷ i.Local 10 1 ∷ i.Local 11 1 ∷ i.SetLocalAt 5 1
    ∷ i.SetLocal 1 1 ∷ []
a_call = refl

-- ---- conditions

-- control goes to place 40 where the condition is FALSE, and on to place 28 where it is TRUE
or_if_unless :
    condition_code here 10 (of_truth (binary OrIf b (of_truth (binary NotEqual x (number (pos 3)))))) false 40 20
    ≡ i.Local 2 1 ∷ i.Unless 23 ∷ i.Jump 28 ∷ i.Local 0 1 ∷ i.Push (pos 3) ∷ i.Same 1 ∷ i.Unless 28 ∷ i.Jump 40 ∷ []
or_if_unless = refl

not_and_if :
    condition_code here 10 (of_truth (prefixed Not (of_truth (binary AndIf b c)))) false 40 20 ≡ i.Local 2 1 ∷ i.Unless 25 ∷ i.Local 3 1 ∷ i.Unless 25 ∷ i.Jump 40 ∷ []
not_and_if = refl
