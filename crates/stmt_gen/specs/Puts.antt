-- What each function appends to a draft: the scheme's code of statements that hold others, from the present place on.
use Rattle.std.specs.Prelude.{◌≡◌, ℕ, suc, ◌+◌, ◌-◌, Bool, true, false, List, Option, length}
use Rattle.checked_program.specs.declared.expr.Expr.{Expr}
use Rattle.checked_program.specs.declared.statement.Action.{Action}
use Rattle.checked_program.specs.declared.statement.CaseAlternative.{CaseAlternative}
use Rattle.checked_program.specs.declared.statement.Choice.{Choice}
use Rattle.checked_program.specs.declared.statement.HandlerAlternative.{HandlerAlternative}
use Rattle.checked_program.specs.declared.statement.ReceiveAlternative.{ReceiveAlternative}
use Rattle.checked_program.specs.declared.statement.Statement.{Statement}
use Rattle.program_trees.specs.ExprTree.{expr_tree}
use Rattle.program_trees.specs.StatementTree.{action_tree, statements_of, set_tree}
use Rattle.code_scheme.specs.Pieces.{capped}
use Rattle.code_scheme.specs.ExprSizes.{expr_size, condition_size}
use Rattle.code_scheme.specs.StatementGoing.{leave_size, leave_code, joined}
use Rattle.code_scheme.specs.StatementWaits.{receive_wait_size, has_else}
use Rattle.code_scheme.specs.StatementSize.{statements_size, handled_size, otherwise_size, action_size, cases_size, receives_size}
use Rattle.expr_gen.specs.declared.building.Draft.{Draft}
use Rattle.expr_gen.specs.declared.frames.Site.{Site}
use Rattle.expr_gen.specs.Puts.{PutsSome}
use Rattle.stmt_gen.specs.declared.joining.Joined.{Joined}
use Rattle.stmt_gen.specs.Joining.{size_before}
use Rattle.action_gen.specs.Putting.{site_tree, chooses}
use Rattle.action_gen.specs.Trees.{choice_tree, cases_of, receives_of, handled_of, else_of}
use Rattle.action_gen.specs.Puts.{SomeLocation}

abbrev pub SomeStatements : Type 0
SomeStatements = Option (List Statement)

-- ---- parts of which one is done

-- a part more, of so many instructions
abbrev pub IsJoined : Joined → ℕ → Bool → Joined → Type 0
IsJoined before size goes after =
    (n rest : ℕ) → size ≡ capped n → capped (size_before after rest) ≡ capped (size_before before (joined n goes rest))

-- parts that have so many instructions by how many stand behind them
abbrev pub Joins : Joined → (ℕ → ℕ) → Type 0
Joins parts size = (rest : ℕ) → capped (size_before parts rest) ≡ capped (size rest)

-- parts with nothing behind them
abbrev pub JoinsAll : Joined → ℕ → Type 0
JoinsAll parts size = capped (size_before parts 0) ≡ capped size

-- the place behind a part and its jump, where all parts end at one
abbrev pub IsNextPlace : ℕ → Bool → ℕ → Draft → ℕ → Type 0
IsNextPlace size goes behind draft next =
    (n rest : ℕ) → size ≡ capped n → behind ≡ length draft.code.instrs + (n + (leave_size goes rest + rest))
    → next ≡ length draft.code.instrs + (n + leave_size goes rest)

abbrev pub PutsLeaving : Bool → ℕ → Draft → Draft → Type 0
PutsLeaving goes behind old new =
    (rest : ℕ) → behind ≡ length old.code.instrs + (leave_size goes rest + rest)
    → PutsSome (leave_code goes rest behind) (leave_size goes rest) old new

-- ---- sizes

-- ELSE, or so many instructions where none is written
abbrev pub IsElseSize : Site → SomeStatements → ℕ → ℕ → Type 0
IsElseSize site o none size = (n : ℕ) → none ≡ capped n → size ≡ capped (otherwise_size (site_tree site) (else_of o) n)

-- alternatives of a handler, a CASE and a RECEIVE CASE, with so many instructions behind the alternatives
abbrev pub IsHandledSize : Site → List HandlerAlternative → ℕ → ℕ → Type 0
IsHandledSize site as' last size = (n : ℕ) → last ≡ capped n → size ≡ capped (handled_size (site_tree site) (handled_of as') n)

abbrev pub IsCaseSize : Site → Expr → List CaseAlternative → ℕ → ℕ → Type 0
IsCaseSize site e as' last size =
    (n : ℕ) → last ≡ capped n → size ≡ capped (expr_size (expr_tree e) + suc (cases_size (site_tree site) (cases_of as') n))

abbrev pub IsReceiveSize : Site → SomeLocation → Bool → List ReceiveAlternative → ℕ → ℕ → Type 0
IsReceiveSize site set has_else as' last size =
    (n : ℕ) → last ≡ capped n
    → size ≡ capped (receive_wait_size (set_tree set) (receives_of as') has_else + receives_size (site_tree site) (receives_of as') n)

-- actions that a Boolean chooses, and its jump
abbrev pub chosen_size : Site → List Statement → ℕ
chosen_size site ss = suc (statements_size (site_tree site) (statements_of ss))

-- a condition and its actions
abbrev pub choice_size : Site → Choice → ℕ
choice_size site c = condition_size (choice_tree c).condition false + statements_size (site_tree site) (choice_tree c).actions

-- of an action that chooses among alternatives
abbrev pub IsChoosingSize : Site → Action → ℕ → Type 0
IsChoosingSize site a size = chooses (action_tree a) ≡ true → size ≡ capped (action_size (site_tree site) (action_tree a))
