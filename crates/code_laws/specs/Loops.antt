-- The law of loops: the instructions of a DO follow its meaning, where those of its condition and of its actions follow theirs.
use Rattle.std.specs.Prelude.{◌≡◌, ℕ, ◌+◌, ◌≤◌, true, List, [], ℤ, length, Option, Some, None, slice_get, if◌then◌else◌}
use Rattle.world_model.specs.Session.{Session}
use Rattle.code_types.specs.declared.instr.Instr.TheVariants as i
use Rattle.program_trees.specs.ExprTree.{ExprTree}
use Rattle.program_trees.specs.StatementTree.{ControlTree, while_true, for_ever, for_members, for_steps}
use Rattle.source_meaning.specs.Store.{Store, local_value}
use Rattle.source_meaning.specs.Flow.{Goes, Meaning}
use Rattle.source_meaning.specs.Operators.{is_true}
use Rattle.source_meaning.specs.ExprMeaning.{Setting, expr_mean}
use Rattle.source_meaning.specs.StatementMeaning.{loop_mean}
use Rattle.source_meaning.specs.BodyMeaning.{Bodies}
use Rattle.code_scheme.specs.StatementSite.{Standing, layout}
use Rattle.code_scheme.specs.StatementLoops.{control_code, control_size, before_turns_size, some_while_size, locals_kept}
use Rattle.follow_laws.specs.Follows.{HasAt, Around, keeping, here, Holds, HoldsWith, no_stack, IsLong, Follows, Does}
use Rattle.follow_laws.specs.Parts.{LoopPlaces, TakeNothing}
use Rattle.code_laws.specs.BodyBounds.{BodiesWithin}
use Rattle.code_laws.specs.StatementBounds.{Along, OpenCallsWithin, value_within, loop_within}
use Rattle.code_laws.specs.StatementsInRange.{FitsControl}
use Rattle.code_laws.specs.Expressions.{NamesIn}
use Rattle.code_laws.specs.Statements.{StandsAs, calls_from}

-- the condition of a control, where it is written
abbrev pub condition_of : ControlTree → Option ExprTree
condition_of (while_true e) = Some e
condition_of for_ever = None
condition_of (for_members counter e low condition) = condition
condition_of (for_steps counter e step f down condition) = condition

-- the place of its instructions, which are the last ones of the control
abbrev pub condition_place : LoopPlaces → ControlTree → ℕ → Type 0
condition_place l control from = from + some_while_size (condition_of control) ≡ l.turn

-- where a condition leads that is TRUE or FALSE
abbrev pub leads_to : LoopPlaces → List ℤ → ℕ
leads_to l xs = if is_true xs then l.turn else l.behind

-- the instructions of a condition, where one is written, follow it from a place on
abbrev pub ConditionGoes : Around → Setting → OpenCallsWithin → LoopPlaces → ℕ → Option ExprTree → Type 0
ConditionGoes w v c l from None = from ≡ l.turn
ConditionGoes w v c l from (Some e) = (store : Store) (s : Session) (locals : List ℤ) → value_within v c e store s ≡ true → Holds w store locals
    → Follows w (here w from [] locals s) l.from l.until l.rows (leads_to l) no_stack (HoldsWith w (IsLong 1)) (expr_mean v e store s)

-- a part leaves a local as it is
abbrev pub Leaves : {A : Type 0} → ℕ → Meaning A → Type 0
Leaves {A} k part = (v : A) (store store1 : Store) (s s1 : Session) → part store s ≡ Goes v store1 s1 → local_value store1 k ≡ local_value store k

abbrev pub SomeLeaves : Setting → ℕ → Option ExprTree → Type 0
SomeLeaves v k None = Unit {0}
SomeLeaves v k (Some e) = Leaves k (expr_mean v e)

-- the counter of a loop that counts is set by the loop alone
abbrev pub CounterStays : Setting → ControlTree → Meaning (Unit {0}) → Type 0
CounterStays v (for_steps counter e step f down condition) body = SomeLeaves v counter condition × Leaves counter body
CounterStays v control body = Unit {0}

-- A loop stands at a place: its control, behind which its actions stand, and back to the test where they go on.
pub record LoopStands (w : Around) (v : Setting) (st : Standing) (inside : BodiesWithin) (control : ControlTree) (l : LoopPlaces) (at : ℕ) (body : Meaning (Unit {0})) (along : Along) : Type 0 where
  pub has : HasAt w.code.instrs at (control_code st control l.behind at)
  pub again : at + before_turns_size control ≡ l.again
  pub turn : at + control_size control ≡ l.turn
  pub from : l.from ≤ at
  pub until : l.turn ≤ l.until
  pub untaken : TakeNothing l.rows at l.turn
  -- within what the control keeps, its condition and the actions follow
  pub condition : (ks : List ℤ) → length ks ≡ locals_kept control → (place : ℕ) → condition_place l control place → ConditionGoes (keeping w ks) v (calls_from inside w) l place (condition_of control)
  pub actions : (ks : List ℤ) → length ks ≡ locals_kept control → (store : Store) (s : Session) (locals : List ℤ) → along store s ≡ true → Holds (keeping w ks) store locals
      → Does (keeping w ks) (here w l.turn [] locals s) l.from l.until l.rows l.back (body store s)
  pub back : (store store1 : Store) (s s1 : Session) → body store s ≡ Goes tt store1 s1 → slice_get w.code.instrs l.back ≡ Some (i.Again l.again)
  pub counter : CounterStays v control body

-- The instructions of a loop follow its meaning.
abbrev pub LoopLaw : Type 0
LoopLaw = (w : Around) (v : Setting) (st : Standing) (bodies : Bodies) (inside : BodiesWithin) (control : ControlTree) (l : LoopPlaces) (body : Meaning (Unit {0})) (along : Along) (n at : ℕ) (locals : List ℤ) (store : Store) (s : Session)
    → StandsAs w v st bodies inside → NamesIn w l.from l.until → FitsControl (layout st.site) control
    → LoopStands w v st inside control l at body along
    → loop_within v (calls_from inside w) n control body along store s ≡ true
    → Holds w store locals
    → Does w (here w at [] locals s) l.from l.until l.rows l.behind (loop_mean v n control body store s)
