-- Words for small programs, and what a process of one does.
use Rattle.std.specs.Prelude.{◌≡◌, ℕ, zero, suc, List, [], ◌∷◌, ◌++◌, ℤ, pos, negsuc, Bool, true, false, Option, Some, None}
use Rattle.kernel_base.specs.declared.ends.Exc.{Exc}
use Rattle.kernel_base.specs.declared.ends.How.TheVariants.{Normal, Raised}
use Rattle.kernel_base.specs.declared.request.Request.{Request}
use Rattle.kernel_base.specs.declared.request.Request.TheVariants.{Put, End}
use Rattle.kernel_base.specs.declared.answer.Answer.{Answer}
use Rattle.kernel_base.specs.declared.answer.Answer.TheVariants.{Done}
use Rattle.modes.specs.declared.mode.Bounds.{Bounds}
use Rattle.modes.specs.ModeTree.{ModeTree, int}
use Rattle.checked_program.specs.declared.expr.Base.TheVariants.{Local, Shared}
use Rattle.checked_program.specs.declared.expr.Binary.{Binary}
use Rattle.checked_program.specs.declared.expr.Routine.{Routine}
use Rattle.checked_program.specs.declared.program.Sort.{Sort}
use Rattle.checked_program.specs.declared.program.Sort.TheVariants.{Outermost, Process, Procedure}
use Rattle.checked_program.specs.declared.program.Parameter.{Parameter}
use Rattle.world_model.specs.Session.{Item, Tick, Ask}
use Rattle.program_trees.specs.ExprTree.{ExprTree, expr, constant, contents, routine, binary, ReceivedTree, received, LocationTree, location, no_parts}
use Rattle.program_trees.specs.StatementTree.{StatementTree, statement, ActionTree, declare, assign, put_int, module_at, StatementNodes, statement_nodes, NumbersTree, handler, HandlerNode, no_handler, handled_nodes, no_handled, no_otherwise, otherwise}
use Rattle.program_trees.specs.ProgramTree.{LocationRowTree, LocalRowTree, BodyRowTree, CheckedTree}
use Rattle.scalar_operators.specs.Numbers.{decimal_text}
use Rattle.source_meaning.specs.Talk.{talk}

-- ---- expressions and statements of INT

abbrev pub number : ℤ → ExprTree
number z = expr 1 None (constant (z ∷ []))

abbrev pub own : ℕ → LocationTree
own i = location (Local i) no_parts 1

abbrev pub shared : ℕ → LocationTree
shared l = location (Shared l) no_parts 1

abbrev pub value_in : LocationTree → ExprTree
value_in l = expr 1 None (contents l)

abbrev pub op : Binary → ExprTree → ExprTree → ExprTree
op o a b = expr 1 None (binary o a b)

abbrev pub of : Routine → ExprTree → ExprTree
of r e = expr 1 None (routine r e)

abbrev pub int_bounds : Bounds
int_bounds = record { low = negsuc 2147483647; high = pos 2147483647 }

abbrev pub taken : ExprTree → ReceivedTree
taken e = received e (Some int_bounds)

abbrev pub plain : ActionTree → StatementTree
plain a = statement false a no_handler

abbrev pub labelled : ActionTree → StatementTree
labelled a = statement true a no_handler

abbrev pub put : ExprTree → StatementTree
put e = plain (put_int e)

abbrev pub set : LocationTree → ExprTree → ActionTree
set l e = assign l (taken e)

-- a declaration of a local of INT with a value
abbrev pub dcl : ℕ → ExprTree → StatementTree
dcl i e = plain (declare (Local i ∷ []) (taken e))

-- a value within bounds, and a declaration of a local with one
abbrev pub within : ℤ → ℤ → ExprTree → ReceivedTree
within low high e = received e (Some (record { low = low; high = high }))

abbrev pub dcl_in : ℤ → ℤ → ℕ → ExprTree → StatementTree
dcl_in low high i e = plain (declare (Local i ∷ []) (within low high e))

-- a declaration of a local of a composite mode, or of INSTANCE
abbrev pub dcl_any : ℕ → ExprTree → StatementTree
dcl_any i e = plain (declare (Local i ∷ []) (received e None))

-- ON (X): S END, ON ELSE S END
abbrev pub on : ℕ → List StatementTree → HandlerNode
on x ss = handler (handled_nodes (record { numbers = x ∷ []; actions = statement_nodes ss } ∷ [])) no_otherwise

abbrev pub on_else : List StatementTree → HandlerNode
on_else ss = handler no_handled (otherwise (statement_nodes ss))

-- ---- programs

abbrev pub local_row : ModeTree → ℕ → ℕ → LocalRowTree
local_row m first count = record { name = []; mode = m; first = first; count = count }

abbrev pub ints_from : ℕ → ℕ → List LocalRowTree
ints_from first zero = []
ints_from first (suc n) = local_row int first 1 ∷ ints_from (suc first) n

-- so many locals of INT
abbrev pub ints : ℕ → List LocalRowTree
ints = ints_from 0

abbrev pub body : Sort → List Parameter → Option ModeTree → List ℕ → List LocalRowTree → List StatementTree → BodyRowTree
body sort ps result listed rows ss = record {
  definition = None;
  name = [];
  sort = sort;
  region = None;
  critical = false;
  parameters = ps;
  result = result;
  listed = listed;
  locals = rows;
  statements = statement_nodes ss;
  handler = no_handler;
}

-- the body with a handler, and as a critical procedure of region 0
abbrev pub with_handler : HandlerNode → BodyRowTree → BodyRowTree
with_handler h b = record b { handler = h }

abbrev pub granted : BodyRowTree → BodyRowTree
granted b = record b { region = Some 0; critical = true }

-- The outermost process: one module with these statements. Where they declare locals, a BEGIN and an END stand round them in
-- the text, which are left out here, since a block adds nothing to what it holds.
abbrev pub main : List LocalRowTree → List StatementTree → BodyRowTree
main rows ss = body Outermost [] None [] rows (plain (module_at (statement_nodes ss)) ∷ [])

abbrev pub location_row : ModeTree → Option ℕ → LocationRowTree
location_row m region = record { definition = 0; name = []; mode = m; region = region }

-- a program with one region
abbrev pub program : List BodyRowTree → List LocationRowTree → CheckedTree
program bodies locations = record {
  locations = locations;
  bodies = bodies;
  regions = 1;
  events = [];
  buffers = [];
  signals = [];
  exceptions = [];
  reads_input = false;
  size = 0;
  definitions = [];
  modulions = [];
}

-- a program of one module without shared locations
abbrev pub alone : List LocalRowTree → List StatementTree → CheckedTree
alone rows ss = program (main rows ss ∷ []) []

-- ---- what a process does

-- it makes a tick, or asks a request and gets an answer
pub data Deed : Type 0 where
  ticks : Deed
  asks : Request → Answer → Deed

abbrev pub trace_of : List Deed → List Item
trace_of [] = []
trace_of (ticks ∷ deeds) = Tick ∷ trace_of deeds
trace_of (asks request answer ∷ deeds) = Ask request ∷ trace_of deeds

abbrev pub answers_in : List Deed → List Answer
answers_in [] = []
answers_in (ticks ∷ deeds) = answers_in deeds
answers_in (asks request answer ∷ deeds) = answer ∷ answers_in deeds

abbrev pub count_of_ticks : List Deed → ℕ
count_of_ticks [] = 0
count_of_ticks (ticks ∷ deeds) = suc (count_of_ticks deeds)
count_of_ticks (asks request answer ∷ deeds) = count_of_ticks deeds

-- it puts bytes, or the digits of a number; it ends normally, or with an exception
abbrev pub puts : List ℕ → Deed
puts bytes = asks (Put bytes) Done

abbrev pub says : ℤ → Deed
says z = puts (decimal_text z)

abbrev pub ends : List Deed
ends = asks (End Normal) Done ∷ []

abbrev pub raises : Exc → List Deed
raises x = asks (End (Raised x)) Done ∷ []

-- with these answers instance 1 does exactly this, and no more
abbrev pub Does : CheckedTree → List Deed → Type 0
Does p deeds = (talk p 1 0 [] (answers_in deeds) (suc (count_of_ticks deeds))).trace ≡ trace_of deeds
