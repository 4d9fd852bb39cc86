-- What two short programs become, by hand.
use Rattle.std.proofs.Common.{◌≡◌, refl}
use Rattle.std.specs.Prelude.{ℕ, true, false, List, [], ◌∷◌, Some, None, codes}
use Rattle.chill_tree.specs.declared.tree.expr.Operator.TheVariants as ops
use Rattle.chill_tree.specs.declared.tree.item.Passing.TheVariants as passings
use Rattle.chill_tree.specs.declared.tree.item.ModulionKind.TheVariants as modulions
use Rattle.chill_tree.specs.declared.tree.item.Passed.TheVariants.{Names}
use Rattle.chill_tree.specs.ExprTree.{whole, name, apply, binary, expr_nodes}
use Rattle.chill_tree.specs.ModeTree as w
use Rattle.chill_tree.specs.LocalTree.{locations}
use Rattle.chill_tree.specs.SimpleTree.{assign, call_of, return_with, cause}
use Rattle.chill_tree.specs.StatementTree.{simple, bracketed, if_then, statement_nodes, branch_nodes, no_otherwise, handler_node, action_part}
use Rattle.chill_tree.specs.ItemTree.{ProgramTree, seize, grant, local_item, procedure, action}
use Rattle.std.specs.Prelude.{ℤ, pos, negsuc}
use Rattle.modes.specs.declared.mode.Bounds.{Bounds}
use Rattle.modes.specs.ModeTree.{int, boolean, range}
use Rattle.checked_program.specs.declared.expr.Base.TheVariants as bases
use Rattle.checked_program.specs.declared.expr.Binary.TheVariants as binaries
use Rattle.checked_program.specs.declared.program.Sort.TheVariants as sorts
use Rattle.checked_program.specs.declared.program.Passing.TheVariants as ways
use Rattle.checked_program.specs.declared.program.Inside.TheVariants as insides
use Rattle.program_trees.specs.ExprTree as made
use Rattle.program_trees.specs.StatementTree as done
use Rattle.program_trees.specs.ProgramTree.{CheckedTree, BodyRowTree}
use Rattle.elaboration_model.specs.Elaborated.{elaborated}
use Rattle.checks_examples.proofs.Programs.{at, n, init, decl, param, proc, modul, program, counted_ground_of}

abbrev bounds : ℤ → ℤ → Bounds
bounds l h = record { low = l; high = h }

abbrev all_of_int : Bounds
all_of_int = bounds (negsuc 2147483647) (pos 2147483647)

abbrev shared : ℕ → made.LocationTree
shared k = made.location (bases.Shared k) made.no_parts 1

abbrev number : ℕ → made.ExprTree
number k = made.expr 1 (Some all_of_int) (made.constant (pos k ∷ []))

abbrev contents : ℕ → made.ExprTree
contents k = made.expr 1 (Some all_of_int) (made.contents (shared k))

abbrev plain : done.ActionTree → done.StatementTree
plain a = done.statement false a done.no_handler

abbrev actions : List done.ActionTree → done.StatementNodes
actions [] = done.no_statements
actions (a ∷ as') = done.more_statements (plain a) (actions as')

abbrev outermost : done.StatementNodes → BodyRowTree
outermost ss = record {
  definition = None;
  name = codes "OUTER";
  sort = sorts.Outermost;
  region = None;
  critical = false;
  parameters = [];
  result = None;
  listed = [];
  locals = [];
  statements = ss;
  handler = done.no_handler;
}

-- ---- a shared location, an operator and a constant
--   m: MODULE DCL x INT (0:7) := 3; x := x + 1; PUT_INT(x); END m;
abbrev sum : ProgramTree
sum = program ((modul (n 1 1 (codes "m")) modulions.Module ((local_item (locations (at 1 11) ((decl ((n 1 15 (codes "x")) ∷ []) (w.base_mode (w.discrete (w.bounded (n 1 17 (codes "INT")) (whole (at 1 22) 0) (whole (at 1 24) 7)))) (Some (init (at 1 27) false (whole (at 1 30) 3)))) ∷ []))) ∷ (action (simple (at 1 33) (assign (at 1 33) (name (n 1 33 (codes "x"))) (binary (at 1 38) (name (n 1 38 (codes "x"))) ops.Plus (at 1 40) (whole (at 1 42) 1))) (handler_node None))) ∷ (action (simple (at 1 45) (call_of (at 1 45) false (n 1 45 (codes "PUT_INT")) ((name (n 1 53 (codes "x"))) ∷ [])) (handler_node None))) ∷ []) None (Some (n 1 61 (codes "m")))) ∷ [])

abbrev sum_elaborated : CheckedTree
sum_elaborated = record {
  locations = record { definition = 1; name = codes "x"; mode = range int (pos 0) (pos 7); region = None } ∷ [];
  bodies = outermost (actions (done.module_at (actions (
      done.declare (bases.Shared 0 ∷ []) (made.received (number 3) (Some (bounds (pos 0) (pos 7))))
      ∷ done.assign (shared 0) (made.received (made.expr 1 (Some all_of_int) (made.binary binaries.Add (contents 0) (number 1))) (Some (bounds (pos 0) (pos 7))))
      ∷ done.put_int (contents 0) ∷ [])) ∷ [])) ∷ [];
  regions = 0;
  events = [];
  buffers = [];
  signals = [];
  exceptions = [];
  reads_input = false;
  size = 64;
  definitions = record { name = codes "m"; inside = insides.Outermost } ∷ record { name = codes "x"; inside = insides.Modulion 0 } ∷ [];
  modulions = record { name = codes "m"; around = None; size = 48; uses = [] } ∷ [];
}

sum-becomes : elaborated (counted_ground_of sum) sum ≡ Some sum_elaborated
sum-becomes = refl

-- ---- a critical procedure with a parameter that is passed out, a result and an exception of its own
--   r: REGION GRANT f; DCL v INT; f: PROC (a INT OUT) RETURNS (BOOL) EXCEPTIONS (no); a := v; RETURN v = 3; END f; END r;
--   m: MODULE SEIZE f; DCL k INT; IF f(k) THEN CAUSE no; FI; END m;
abbrev critical : ProgramTree
critical = program ((modul (n 1 1 (codes "r")) modulions.Region ((grant (at 1 11) (Names ((n 1 17 (codes "f")) ∷ []))) ∷ (local_item (locations (at 1 20) ((decl ((n 1 24 (codes "v")) ∷ []) (w.base_mode (w.discrete (w.named (n 1 26 (codes "INT"))))) None) ∷ []))) ∷ (procedure (proc (n 1 31 (codes "f")) ((param ((n 1 40 (codes "a")) ∷ []) (w.base_mode (w.discrete (w.named (n 1 42 (codes "INT"))))) (Some passings.Out)) ∷ []) (Some (w.base_mode (w.discrete (w.named (n 1 60 (codes "BOOL")))))) (Some ((n 1 78 (codes "no")) ∷ [])) ((action_part (simple (at 1 83) (assign (at 1 83) (name (n 1 83 (codes "a"))) (name (n 1 88 (codes "v")))) (handler_node None))) ∷ (action_part (simple (at 1 91) (return_with (at 1 91) (Some (binary (at 1 98) (name (n 1 98 (codes "v"))) ops.Equal (at 1 100) (whole (at 1 102) 3)))) (handler_node None))) ∷ []) None (Some (n 1 109 (codes "f"))))) ∷ []) None (Some (n 1 116 (codes "r")))) ∷ (modul (n 2 1 (codes "m")) modulions.Module ((seize (at 2 11) (Names ((n 2 17 (codes "f")) ∷ []))) ∷ (local_item (locations (at 2 20) ((decl ((n 2 24 (codes "k")) ∷ []) (w.base_mode (w.discrete (w.named (n 2 26 (codes "INT"))))) None) ∷ []))) ∷ (action (bracketed (at 2 31) None (if_then (at 2 31) (apply (at 2 34) (name (n 2 34 (codes "f"))) (expr_nodes ((name (n 2 36 (codes "k"))) ∷ []))) (statement_nodes ((simple (at 2 44) (cause (at 2 44) (n 2 50 (codes "no"))) (handler_node None)) ∷ [])) (branch_nodes []) no_otherwise) (handler_node None) None)) ∷ []) None (Some (n 2 62 (codes "m")))) ∷ [])

abbrev procedure_body : BodyRowTree
procedure_body = record {
  definition = Some 2;
  name = codes "f";
  sort = sorts.Procedure;
  region = Some 0;
  critical = true;
  parameters = record { passing = ways.Out } ∷ [];
  result = Some boolean;
  listed = 7 ∷ [];
  locals = record { name = codes "a"; mode = int; first = 0; count = 1 } ∷ [];
  statements = actions (
      done.assign (made.location (bases.Local 0) made.no_parts 1) (made.received (contents 0) (Some all_of_int))
      ∷ done.return_with (Some (made.received (made.expr 1 (Some (bounds (pos 0) (pos 1))) (made.binary binaries.Equal (contents 0) (number 3))) (Some (bounds (pos 0) (pos 1))))) ∷ []);
  handler = done.no_handler;
}

abbrev critical_elaborated : CheckedTree
critical_elaborated = record {
  locations = record { definition = 1; name = codes "v"; mode = int; region = Some 0 } ∷ record { definition = 5; name = codes "k"; mode = int; region = None } ∷ [];
  bodies = outermost (actions (done.do_nothing ∷ done.module_at (actions (
      done.do_nothing
      ∷ done.if_then (done.more_choices (made.expr 1 (Some (bounds (pos 0) (pos 1))) (made.call (made.called 1 (made.out_argument (shared 1) (Some all_of_int) made.no_arguments)))) (actions (done.cause 7 ∷ [])) done.no_choices) done.no_statements
      ∷ [])) ∷ [])) ∷ procedure_body ∷ [];
  regions = 1;
  events = [];
  buffers = [];
  signals = [];
  exceptions = codes "no" ∷ [];
  reads_input = false;
  size = 96;
  definitions =
      record { name = codes "r"; inside = insides.Outermost } ∷ record { name = codes "v"; inside = insides.Modulion 0 } ∷ record { name = codes "f"; inside = insides.Modulion 0 }
      ∷ record { name = codes "a"; inside = insides.Body 1 } ∷ record { name = codes "m"; inside = insides.Outermost } ∷ record { name = codes "k"; inside = insides.Modulion 1 } ∷ [];
  modulions = record { name = codes "r"; around = None; size = 52; uses = [] } ∷ record { name = codes "m"; around = None; size = 28; uses = 2 ∷ [] } ∷ [];
}

critical-becomes : elaborated (counted_ground_of critical) critical ≡ Some critical_elaborated
critical-becomes = refl
