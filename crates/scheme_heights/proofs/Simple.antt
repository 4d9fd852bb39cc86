-- The code of actions that hold no statements.
use Rattle.std.proofs.Common.{◌+◌, ℕ, List, ℤ, refl, arith, Option}
use Rattle.std.specs.Prelude.{slice_index_or}
use Rattle.modes.specs.declared.mode.Bounds.{Bounds}
use Rattle.code_types.specs.declared.instr.Instr.TheVariants as i
use Rattle.checked_program.specs.declared.expr.Base.{Base}
use Rattle.checked_program.specs.declared.expr.Binary.{Binary}
use Rattle.checked_program.specs.declared.expr.Routine.{Routine}
use Rattle.program_trees.specs.ExprTree.{ExprTree, ReceivedTree, LocationTree, StartTree, CallTree, count_of}
use Rattle.program_trees.specs.StatementTree.{SentTree, do_nothing, declare, set_lowest, module_at, region_at, assign, update, perform, drop_routine, evaluate, put_int, put_text, put_line, exit_from, return_with, set_result, assert_that, cause, stop, start_of, delay, continue_at, send, StatementNodes}
use Rattle.code_scheme.specs.StatementSite.{layout}
use Rattle.code_scheme.specs.BodyCode.{heads_of}
use Rattle.scheme_heights.proofs.Parts.{sized, end, cons}
use Rattle.scheme_heights.proofs.PlainActions.{declare_stretch, lowest_given_stretch, assign_stretch, update_stretch, perform_stretch, taken_stretch, routine_dropped_stretch, start_of_stretch, delay_stretch, send_stretch, result_stretch}
use Rattle.scheme_heights.proofs.Blocks.{plain_block, last_block, exit_block}
use Rattle.scheme_heights.proofs.WayOut.{return_block}
use Rattle.scheme_heights.proofs.Choosing.{assert_block, exit_behind, exit_in}
use Rattle.scheme_heights.proofs.Holding.{ActionHolds}

pub nothing_holds : ActionHolds do_nothing
nothing_holds = record {
  holds =
      λ w body at bound stands low fits.
      plain_block w.exits (sized 0 refl (end refl));
}

pub declare_holds : (names : List Base) (r : ReceivedTree) → ActionHolds (declare names r)
declare_holds names r = record {
  holds =
      λ w body at bound stands low fits.
      plain_block w.exits (declare_stretch w body at 0 names r fits);
}

pub lowest_holds : (locals : List ℕ) (xs : List ℤ) → ActionHolds (set_lowest locals xs)
lowest_holds locals xs = record {
  holds =
      λ w body at bound stands low fits.
      plain_block w.exits (lowest_given_stretch (heads_of w.site.program) body at 0 (layout w.site) locals xs fits);
}

pub module_holds : (ss : StatementNodes) → ActionHolds (module_at ss)
module_holds ss = record {
  holds =
      λ w body at bound stands low fits.
      absurd fits;
}

pub region_holds : (r : ℕ) (ss : StatementNodes) → ActionHolds (region_at r ss)
region_holds r ss = record {
  holds =
      λ w body at bound stands low fits.
      absurd fits;
}

pub assign_holds : (l : LocationTree) (r : ReceivedTree) → ActionHolds (assign l r)
assign_holds l r = record {
  holds =
      λ w body at bound stands low fits.
      plain_block w.exits (assign_stretch w body at 0 l r fits.0 fits.1 fits.2);
}

pub update_holds : (l : LocationTree) (o : Binary) (e : ExprTree) (bounds : Option Bounds) → ActionHolds (update l o e bounds)
update_holds l o e bounds = record {
  holds =
      λ w body at bound stands low fits.
      plain_block w.exits (update_stretch w body at 0 l o e bounds fits.0 fits.1 fits.2 fits.3);
}

pub perform_holds : (c : CallTree) → ActionHolds (perform c)
perform_holds c = record {
  holds =
      λ w body at bound stands low fits.
      plain_block w.exits (perform_stretch w body at 0 c fits);
}

pub routine_holds : (r : Routine) (e : ExprTree) → ActionHolds (drop_routine r e)
routine_holds r e = record {
  holds =
      λ w body at bound stands low fits.
      plain_block w.exits (routine_dropped_stretch w body at 0 r e fits);
}

pub evaluate_holds : (e : ExprTree) → ActionHolds (evaluate e)
evaluate_holds e = record {
  holds =
      λ w body at bound stands low fits.
      plain_block w.exits (taken_stretch w body at 0 e (i.Pop (count_of e)) fits (λ p. sized 1 refl (cons (omega arith) tt tt refl refl (end (omega arith)))));
}

pub put_int_holds : (e : ExprTree) → ActionHolds (put_int e)
put_int_holds e = record {
  holds =
      λ w body at bound stands low fits.
      let one' = fits.1 in
      plain_block w.exits (taken_stretch w body at 0 e i.PutInt fits.0 (λ p. sized 1 refl (cons (omega (arith, one')) tt tt refl refl (end (omega (arith, one'))))));
}

pub put_text_holds : (e : ExprTree) → ActionHolds (put_text e)
put_text_holds e = record {
  holds =
      λ w body at bound stands low fits.
      plain_block w.exits (taken_stretch w body at 0 e (i.PutText (count_of e)) fits (λ p. sized 1 refl (cons (omega arith) tt tt refl refl (end (omega arith)))));
}

pub put_line_holds : ActionHolds put_line
put_line_holds = record {
  holds =
      λ w body at bound stands low fits.
      plain_block w.exits (sized 1 refl (cons (omega arith) tt tt refl refl (end (omega arith))));
}

pub exit_holds : (k : ℕ) → ActionHolds (exit_from k)
exit_holds k = record {
  holds =
      λ w body at bound stands low fits.
      let late = exit_behind bound w.exits k stands.exits fits in
      exit_block (heads_of w.site.program) body w.exits at (at + 1) (slice_index_or w.exits k 0) (omega (arith, late, low)) (exit_in w.exits k fits);
}

pub return_holds : (r : Option ReceivedTree) → ActionHolds (return_with r)
return_holds r = record {
  holds =
      λ w body at bound stands low fits.
      return_block w body at _ r stands.is_body fits;
}

pub result_holds : (r : ReceivedTree) → ActionHolds (set_result r)
result_holds r = record {
  holds =
      λ w body at bound stands low fits.
      plain_block w.exits (result_stretch w body at 0 r fits);
}

pub assert_holds : (e : ExprTree) → ActionHolds (assert_that e)
assert_holds e = record {
  holds =
      λ w body at bound stands low fits.
      assert_block w body at e fits;
}

pub cause_holds : (x : ℕ) → ActionHolds (cause x)
cause_holds x = record {
  holds =
      λ w body at bound stands low fits.
      last_block (heads_of w.site.program) body w.exits at (at + 1) (i.Raise x) refl tt tt refl refl (omega arith);
}

pub stop_holds : ActionHolds stop
stop_holds = record {
  holds =
      λ w body at bound stands low fits.
      last_block (heads_of w.site.program) body w.exits at (at + 1) i.Stop refl tt tt refl refl (omega arith);
}

pub start_holds : (t : StartTree) → ActionHolds (start_of t)
start_holds t = record {
  holds =
      λ w body at bound stands low fits.
      plain_block w.exits (start_of_stretch w body at 0 t fits);
}

pub delay_request_holds : (e priority : ℕ) → ActionHolds (delay e priority)
delay_request_holds e priority = record {
  holds =
      λ w body at bound stands low fits.
      plain_block w.exits (delay_stretch (heads_of w.site.program) body at 0 e priority);
}

pub continue_holds : (e : ℕ) → ActionHolds (continue_at e)
continue_holds e = record {
  holds =
      λ w body at bound stands low fits.
      plain_block w.exits (sized 1 refl (cons (omega arith) tt tt refl refl (end (omega arith))));
}

pub send_holds : (sent : SentTree) (priority : ℕ) → ActionHolds (send sent priority)
send_holds sent priority = record {
  holds =
      λ w body at bound stands low fits.
      plain_block w.exits (send_stretch w body at 0 sent priority fits);
}
