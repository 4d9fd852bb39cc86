-- The law of typed expressions: where nothing is told in one, what it is elaborated to is of its class's mode.
use Rattle.std.specs.Prelude.{◌≡◌, ℕ, suc, true, List, [], ◌∷◌, Option, Some, None, option_and_then, slice_get}
use Rattle.chill_tree.specs.declared.tree.name.Name.{Name}
use Rattle.chill_tree.specs.ExprTree.{ExprTree}
use Rattle.chill_tree.specs.ItemTree.{ProcedureTree, ProcessTree}
use Rattle.modes.specs.ModeTree.{ModeTree, ClassTree, value, derived, null, nothing, instance}
use Rattle.checked_program.specs.declared.expr.Base.{Base}
use Rattle.checked_program.specs.declared.program.Sort.{Sort}
use Rattle.checked_program.specs.declared.program.Sort.TheVariants as sorts
use Rattle.checked_program.specs.declared.program.Passing.TheVariants as ways
use Rattle.program_trees.specs.ExprTree as made
use Rattle.program_trees.specs.ProgramTree.{BodyRowTree}
use Rattle.checks_model.specs.Ground.{a_procedure, a_process, origin_of, entry_of, mode_of_entry, buffer_element}
use Rattle.checks_model.specs.Classes.{class_as}
use Rattle.checks_model.specs.ValueRules.{Receiver, received_mode}
use Rattle.table_laws.specs.Names.{names_in}
use Rattle.elaboration_model.specs.Numbering.{Source, thing_used, buffer_used, body_used}
use Rattle.elaboration_model.specs.Elaborated.{way_of}
use Rattle.elaboration_model.specs.Expressions.{Formal, base_of, formals_by, modes_by, expr_as}
use Rattle.expression_laws.specs.Names.{is_of_values, AllNamesKnown}
use Rattle.expression_laws.specs.Expressions.{IsClean}
use Rattle.constant_laws.specs.Constants.{HasBytes, IsNameFit}
use Rattle.source_meaning.specs.TypedValues.{Context, BaseHas, BufferHas, HasMode, IsParameter, AreAllParameters, IsCalledFrom}

-- the mode of a class's values; NULL is an instance
abbrev pub mode_for : ClassTree → Option ModeTree
mode_for (value m) = Some m
mode_for (derived m) = Some m
mode_for null = Some instance
mode_for nothing = None

-- what is elaborated is of a class's mode
pub record TypedAs (ctx : Context) (x : made.ExprTree) (c : ClassTree) : Type 0 where
  pub mode : ModeTree
  pub of : mode_for c ≡ Some mode
  pub has : HasMode ctx x mode

-- ---- what is called and started

-- the parameters from one on have these modes, and pass their values so
abbrev pub AreParameters : BodyRowTree → ℕ → List Formal → Type 0
AreParameters b k [] = AreAllParameters b k
AreParameters b k (f ∷ fs) = ((m : ModeTree) → f.1 ≡ Some m → IsParameter b.locals b.parameters k (record { passing = way_of f.0 }) m) × AreParameters b (suc k) fs

-- those of a process pass values in
abbrev pub AreTaken : BodyRowTree → ℕ → List (Option ModeTree) → Type 0
AreTaken b k [] = AreAllParameters b k
AreTaken b k (m ∷ ms) = ((own : ModeTree) → m ≡ Some own → IsParameter b.locals b.parameters k (record { passing = ways.In }) own) × AreTaken b (suc k) ms

pub record IsCalledRow (ctx : Context) (b : ℕ) (result : Option ModeTree) (fs : List Formal) : Type 0 where
  pub row : BodyRowTree
  pub is : slice_get ctx.program.bodies b ≡ Some row
  pub sort : row.sort ≡ sorts.Procedure
  pub result_is : row.result ≡ result
  pub reached : IsCalledFrom row ctx.region
  pub parameters : AreParameters row 0 fs

pub record IsStartedRow (ctx : Context) (b : ℕ) (ms : List (Option ModeTree)) : Type 0 where
  pub row : BodyRowTree
  pub is : slice_get ctx.program.bodies b ≡ Some row
  pub sort : row.sort ≡ sorts.Process
  pub parameters : AreTaken row 0 ms

-- ---- names

-- What a name stands for in a program: a location or a local of its mode, a buffer of its element, a procedure that is reached, a process.
pub record IsNameTyped (s : Source) (ctx : Context) (n : Name) : Type 0 where
  pub fit : IsNameFit s.known n
  pub base : (m : ModeTree) (b : Base) → mode_of_entry (entry_of s.known n) ≡ Some m → option_and_then base_of (thing_used s n) ≡ Some b → BaseHas ctx b m
  pub buffer : (m : ModeTree) (b : ℕ) → buffer_element s.known n ≡ Some m → buffer_used s n ≡ Some b → BufferHas ctx b m
  pub called : (p : ProcedureTree) (b : ℕ) → origin_of s.known n ≡ Some (a_procedure p) → body_used s n ≡ Some b → IsCalledRow ctx b (mode_of_entry (entry_of s.known n)) (formals_by s (Some (a_procedure p)))
  pub started : (p : ProcessTree) (b : ℕ) → origin_of s.known n ≡ Some (a_process p) → body_used s n ≡ Some b → IsStartedRow ctx b (modes_by s (Some (a_process p)))

abbrev pub AreNamesTyped : Source → Context → List Name → Type 0
AreNamesTyped s ctx [] = Unit {0}
AreNamesTyped s ctx (n ∷ ns) = IsNameTyped s ctx n × AreNamesTyped s ctx ns

-- ---- the law

abbrev pub ExprTypedLaw : Type 0
ExprTypedLaw = (s : Source) (ctx : Context) (r : Receiver) (e : ExprTree) (c : ClassTree) (x : made.ExprTree)
    → AllNamesKnown s → AreNamesTyped s ctx (names_in e) → HasBytes e → IsClean s.known r e → class_as s.known (received_mode r) e ≡ Some c → is_of_values c ≡ true → expr_as s (received_mode r) e ≡ Some x → TypedAs ctx x c
