-- Loops that keep nothing for their next test.
use Rattle.std.proofs.Common.{◌≡◌, ℕ, zero, suc, ◌+◌, true, List, [], ℤ, Option, refl, sym, arith}
use Rattle.world_model.specs.Session.{Session}
use Rattle.program_trees.specs.ExprTree.{ExprTree}
use Rattle.program_trees.specs.StatementTree.{ControlTree, while_true, for_ever}
use Rattle.source_meaning.specs.Store.{Store}
use Rattle.source_meaning.specs.Flow.{Meaning}
use Rattle.source_meaning.specs.ExprMeaning.{Setting}
use Rattle.source_meaning.specs.StatementMeaning.{no_state, turns, where_holds, loop_mean}
use Rattle.code_scheme.specs.StatementSite.{Standing}
use Rattle.code_scheme.specs.StatementLoops.{some_while_size, before_turns_size, control_size, locals_kept}
use Rattle.follow_laws.specs.Follows.{Around, here, Holds, Does}
use Rattle.follow_laws.specs.Parts.{LoopPlaces, LoopFollows}
use Rattle.code_laws.specs.BodyBounds.{BodiesWithin}
use Rattle.code_laws.specs.StatementBounds.{Along, OpenCallsWithin, some_value_within, turns_within, loop_within}
use Rattle.code_laws.specs.Statements.{calls_from}
use Rattle.code_laws.specs.Loops.{condition_of, LoopStands}
use Rattle.follow_laws.proofs.Running.{after}
use Rattle.follow_laws.proofs.Instructions.{renamed}
use Rattle.follow_laws.proofs.LoopRuns.{turns_run}
use Rattle.code_laws.proofs.Values.{both_true}
use Rattle.code_laws.proofs.CallPieces.{keep_none}
use Rattle.code_laws.proofs.LoopPieces.{TurnKeeps, turn_keeps, where_runs}

-- nothing is kept
abbrev nothing_kept : Unit {0} → List ℤ
nothing_kept z = []

-- along the tests of such a loop
abbrev tests_of : Setting → OpenCallsWithin → Option ExprTree → Unit {0} → Along
tests_of v calls condition z store s = some_value_within v calls condition store s

plain_runs : (w : Around) (v : Setting) (st : Standing) (inside : BodiesWithin) (control : ControlTree) (l : LoopPlaces) (body : Meaning (Unit {0})) (along : Along) (n at : ℕ) (locals : List ℤ) (store : Store) (s : Session)
    → before_turns_size control ≡ 0 → control_size control ≡ some_while_size (condition_of control) → locals_kept control ≡ 0
    → LoopStands w v st inside control l at body along
    → turns_within (where_holds v (condition_of control)) (tests_of v (calls_from inside w) (condition_of control)) body along n no_state store s ≡ true
    → Holds w store locals
    → Does w (here w at [] locals s) l.from l.until l.rows l.behind (turns n (where_holds v (condition_of control)) body no_state store s)
plain_runs w v st inside control l body along zero at locals store s none size kept loop within h = record { by = tt }
plain_runs w v st inside control l body along (suc n) at locals store s none size kept loop within h =
    turns_run w l nothing_kept at_test at_turn test body follows n (here w at [] locals s) no_state store s
    (λ c1 store1 s1 leads. follows.leads n no_state c1 store store1 s s1 within leads)
    (after (renamed w at l.again [] [] locals s again_is refl)
    (follows.tests n no_state store s locals within (keep_none w store locals h)))
  where
    test : Unit {0} → Meaning (Option (Unit {0}))
    test = where_holds v (condition_of control)

    tests : Unit {0} → Along
    tests = tests_of v (calls_from inside w) (condition_of control)

    at_test : ℕ → Unit {0} → Store → Session → Type 0
    at_test m c store1 s1 = turns_within test tests body along m c store1 s1 ≡ true

    at_turn : ℕ → Unit {0} → Store → Session → Type 0
    at_turn m c store1 s1 = TurnKeeps test tests body along m c store1 s1

    again_is : at ≡ l.again
    again_is = omega (arith, loop.again, none)

    place_is : l.again + some_while_size (condition_of control) ≡ l.turn
    place_is = omega (arith, loop.again, none, loop.turn, size)

    follows : LoopFollows w l nothing_kept at_test at_turn test body
    follows = record {
      tests = λ m c store1 s1 locals1 holds h1.
          where_runs w v (calls_from inside w) l nothing_kept (condition_of control) l.again c store1 s1 locals1 (loop.condition [] (sym kept) l.again place_is) (both_true _ _ holds).0 h1;
      leads = λ m c c1 store1 store2 s1 s2 holds leads. turn_keeps test tests body along m c c1 store1 store2 s1 s2 holds leads;
      turns = λ m c store1 s1 locals1 holds h1. loop.actions [] (sym kept) store1 s1 locals1 holds.now h1;
      keeps = λ m c store1 store2 s1 s2 s3 holds is ticks. holds.later store2 s2 s3 is ticks;
      back = loop.back;
    }

pub while_runs : (w : Around) (v : Setting) (st : Standing) (inside : BodiesWithin) (e : ExprTree) (l : LoopPlaces) (body : Meaning (Unit {0})) (along : Along) (n at : ℕ) (locals : List ℤ) (store : Store) (s : Session)
    → LoopStands w v st inside (while_true e) l at body along
    → loop_within v (calls_from inside w) n (while_true e) body along store s ≡ true
    → Holds w store locals
    → Does w (here w at [] locals s) l.from l.until l.rows l.behind (loop_mean v n (while_true e) body store s)
while_runs w v st inside e l body along n at locals store s loop within h = plain_runs w v st inside (while_true e) l body along n at locals store s refl (omega arith) refl loop within h

pub ever_runs : (w : Around) (v : Setting) (st : Standing) (inside : BodiesWithin) (l : LoopPlaces) (body : Meaning (Unit {0})) (along : Along) (n at : ℕ) (locals : List ℤ) (store : Store) (s : Session)
    → LoopStands w v st inside for_ever l at body along
    → loop_within v (calls_from inside w) n for_ever body along store s ≡ true
    → Holds w store locals
    → Does w (here w at [] locals s) l.from l.until l.rows l.behind (loop_mean v n for_ever body store s)
ever_runs w v st inside l body along n at locals store s loop within h = plain_runs w v st inside for_ever l body along n at locals store s refl (omega arith) refl loop within h
