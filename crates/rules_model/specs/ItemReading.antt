-- Reading items, modulions and programs from the front.
use Rattle.std.specs.Prelude.{ℕ, zero, suc, ◌&&◌, Bool, List, [], ◌∷◌, Option, Some, None, Result, Ok, Err, if◌then◌else◌}
use Rattle.chill_base.specs.declared.pos.Pos.{Pos}
use Rattle.chill_tree.specs.declared.token.Word.{Word}
use Rattle.chill_tree.specs.declared.token.Word.TheVariants as words
use Rattle.chill_tree.specs.declared.token.Sign.TheVariants as signs
use Rattle.chill_tree.specs.declared.tree.name.Name.{Name}
use Rattle.chill_tree.specs.declared.tree.item.ModulionKind.{ModulionKind}
use Rattle.chill_tree.specs.declared.tree.item.ModulionKind.TheVariants as modulions
use Rattle.chill_tree.specs.declared.tree.item.Passed.{Passed}
use Rattle.chill_tree.specs.declared.tree.item.Passed.TheVariants as passes
use Rattle.chill_tree.specs.declared.tree.item.Passing.{Passing}
use Rattle.chill_tree.specs.declared.tree.item.Passing.TheVariants as ways
use Rattle.chill_tree.specs.ModeTree.{ModeTree}
use Rattle.chill_tree.specs.StatementTree.{HandlerTree, BodyTree}
use Rattle.chill_tree.specs.ItemTree.{SignalTree, ParamTree, ProcedureTree, FormalTree, ProcessTree, ItemTree, seize, grant, local_item, signals, procedure, process, action, ModulionTree, modulion_item, ProgramTree}
use Rattle.rules_model.specs.Marks.{Toks, begins, begins_with, begins_name, behind}
use Rattle.rules_model.specs.Nesting.{less}
use Rattle.rules_model.specs.Reading.{Fault, Deep, Absent, Read, Piece, ◌>>=◌, sign_at, word_at, name_at, many_at, listed_at}
use Rattle.rules_model.specs.ModeReading.{mode_at, local_at}
use Rattle.rules_model.specs.SimpleReading.{clause_at}
use Rattle.rules_model.specs.StatementReading.{begins_label, begins_local, begins_statement, kept, handler_at, closing_at, statement_at, actions_at, body_at}

-- In what follows n is the number of levels of nesting that are left behind an opening token.

unfoldable pub passed_at : Toks → Read Passed
passed_at toks = if begins_with words.All toks then (word_at words.All toks >>= λ w. Ok (passes.All w.0, w.1)) else (listed_at name_at toks >>= λ ns. Ok (passes.Names ns.0, ns.1))

unfoldable pub signal_parts_at : ℕ → Toks → Read (Option (List ModeTree))
signal_parts_at n toks =
    if begins signs.Equal toks then (sign_at signs.Equal toks >>= λ e. sign_at signs.Open e.1 >>= λ p. listed_at (mode_at (less n)) p.1 >>= λ ms. sign_at signs.Close ms.1 >>= λ c. Ok (Some ms.0, c.1)) else Ok (None, toks)

unfoldable pub signal_at : ℕ → Toks → Read SignalTree
signal_at n toks = name_at toks >>= λ x. signal_parts_at n x.1 >>= λ ms. clause_at words.To name_at ms.1 >>= λ t. Ok (record { name = x.0; parts = ms.0; process = t.0 }, t.1)

unfoldable pub passing_at : Toks → Read (Option Passing)
passing_at toks =
    if begins_with words.In toks then (word_at words.In toks >>= λ w. Ok (Some ways.In, w.1))
    else if begins_with words.Out toks then (word_at words.Out toks >>= λ w. Ok (Some ways.Out, w.1))
    else if begins_with words.InOut toks then (word_at words.InOut toks >>= λ w. Ok (Some ways.InOut, w.1))
    else Ok (None, toks)

unfoldable pub param_at : ℕ → Toks → Read ParamTree
param_at n toks = listed_at name_at toks >>= λ ns. mode_at n ns.1 >>= λ m. passing_at m.1 >>= λ w. Ok (record { names = ns.0; mode = m.0; passing = w.0 }, w.1)

unfoldable pub formal_at : ℕ → Toks → Read FormalTree
formal_at n toks = listed_at name_at toks >>= λ ns. mode_at n ns.1 >>= λ m. Ok (record { names = ns.0; mode = m.0 }, m.1)

-- a list up to its closing bracket
unfoldable pub within_at : {X : Type 0} → (Toks → Read X) → Toks → Read (List X)
within_at read toks =
    if begins signs.Close toks then (sign_at signs.Close toks >>= λ c. Ok ([], c.1)) else (listed_at read toks >>= λ xs. sign_at signs.Close xs.1 >>= λ c. Ok (xs.0, c.1))

unfoldable pub result_at : ℕ → Toks → Read ModeTree
result_at n toks = sign_at signs.Open toks >>= λ p. mode_at (less n) p.1 >>= λ m. sign_at signs.Close m.1 >>= λ c. Ok (m.0, c.1)

unfoldable pub exceptions_at : Toks → Read (List Name)
exceptions_at toks = sign_at signs.Open toks >>= λ p. listed_at name_at p.1 >>= λ ns. sign_at signs.Close ns.1 >>= λ c. Ok (ns.0, c.1)

-- a body, its handler and the name at its end, in what opened at the place with n levels left
abbrev pub Block : Type 0
Block = List BodyTree × Option HandlerTree × Option Name

unfoldable pub block_at : ℕ → Name → Pos → Toks → Read Block
block_at n x p toks =
    body_at n p toks >>= λ b. word_at words.End b.1 >>= λ e. handler_at (actions_at n) e.1 >>= λ h. closing_at (Some x) h.1 >>= λ c. sign_at signs.Semicolon c.1 >>= λ s. Ok ((b.0, h.0, c.0), s.1)

-- the head of a procedure behind its opening bracket, and its block
unfoldable pub procedure_rest_at : ℕ → Name → Pos → Toks → Read ProcedureTree
procedure_rest_at n x p toks =
    within_at (param_at (less (less n))) toks >>= λ ps. clause_at words.Returns (result_at (less n)) ps.1 >>= λ o. clause_at words.Exceptions exceptions_at o.1 >>= λ es. sign_at signs.Semicolon es.1 >>= λ s. block_at n x p s.1 >>= λ b. Ok (record { name = x; params = ps.0; returns = o.0; exceptions = es.0; body = b.0.0; handler = b.0.1; closing = b.0.2 }, b.1)

unfoldable pub procedure_at : ℕ → Toks → Read ProcedureTree
procedure_at n toks = name_at toks >>= λ x. sign_at signs.Colon x.1 >>= λ c. word_at words.Proc c.1 >>= λ w. sign_at signs.Open w.1 >>= λ o. procedure_rest_at n x.0 w.0 o.1

unfoldable pub process_rest_at : ℕ → Name → Pos → Toks → Read ProcessTree
process_rest_at n x p toks =
    within_at (formal_at (less (less n))) toks >>= λ ps. sign_at signs.Semicolon ps.1 >>= λ s. block_at n x p s.1 >>= λ b. Ok (record { name = x; formals = ps.0; body = b.0.0; handler = b.0.1; closing = b.0.2 }, b.1)

unfoldable pub process_at : ℕ → Toks → Read ProcessTree
process_at n toks = name_at toks >>= λ x. sign_at signs.Colon x.1 >>= λ c. word_at words.Process c.1 >>= λ w. sign_at signs.Open w.1 >>= λ o. process_rest_at n x.0 w.0 o.1

unfoldable pub kind_at : Toks → Read (Pos × ModulionKind)
kind_at toks =
    if begins_with words.Module toks then (word_at words.Module toks >>= λ w. Ok ((w.0, modulions.Module), w.1)) else (word_at words.Region toks >>= λ w. Ok ((w.0, modulions.Region), w.1))

-- reads the items in what opened at the place
abbrev pub Items : Type 0
Items = Pos → Toks → Read (List ItemTree)

unfoldable pub modulion_at : ℕ → Items → Toks → Read ModulionTree
modulion_at n items toks =
    name_at toks >>= λ x. sign_at signs.Colon x.1 >>= λ c. kind_at c.1 >>= λ k. items k.0.0 k.1 >>= λ is. word_at words.End is.1 >>= λ e. handler_at (actions_at n) e.1 >>= λ h. closing_at (Some x.0) h.1 >>= λ l. sign_at signs.Semicolon l.1 >>= λ s. Ok (record { name = x.0; kind = k.0.1; items = is.0; handler = h.0; closing = l.0 }, s.1)

-- whether a name, a colon and the word stand at the front
abbrev pub begins_block : Word → Toks → Bool
begins_block w toks = begins_label toks && begins_with w (behind (behind toks))

unfoldable pub block_item_at : ℕ → Items → Toks → Piece ItemTree
block_item_at n items toks =
    if begins_block words.Proc toks then (procedure_at n toks >>= λ x. Ok (Some (procedure x.0, x.1)))
    else if begins_block words.Process toks then (process_at n toks >>= λ x. Ok (Some (process x.0, x.1)))
    else if begins_block words.Module toks then (modulion_at n items toks >>= λ x. Ok (Some (modulion_item x.0, x.1)))
    else if begins_block words.Region toks then (modulion_at n items toks >>= λ x. Ok (Some (modulion_item x.0, x.1)))
    else if begins_statement toks then (statement_at n (actions_at n) (body_at n) toks >>= λ x. Ok (Some (action x.0, x.1)))
    else Ok None

-- an item, if one begins here
unfoldable pub item_at : ℕ → Items → Toks → Piece ItemTree
item_at n items toks =
    if begins_with words.Seize toks then (word_at words.Seize toks >>= λ w. passed_at w.1 >>= λ p. sign_at signs.Semicolon p.1 >>= λ s. Ok (Some (seize w.0 p.0, s.1)))
    else if begins_with words.Grant toks then (word_at words.Grant toks >>= λ w. passed_at w.1 >>= λ p. sign_at signs.Semicolon p.1 >>= λ s. Ok (Some (grant w.0 p.0, s.1)))
    else if begins_with words.Signal toks then (word_at words.Signal toks >>= λ w. listed_at (signal_at n) w.1 >>= λ xs. sign_at signs.Semicolon xs.1 >>= λ s. Ok (Some (signals w.0 xs.0, s.1)))
    else if begins_local toks then (local_at n toks >>= λ l. Ok (Some (local_item l.0, l.1)))
    else block_item_at n items toks

unfoldable pub items_at : ℕ → Items
items_at zero p toks = Err (Deep p)
items_at (suc n) p toks = many_at (item_at n (items_at n)) toks

-- a modulion, if one begins here
unfoldable pub modulion_piece_at : ℕ → Toks → Piece ModulionTree
modulion_piece_at n toks = if begins_name toks then (modulion_at n (items_at n) toks >>= λ x. Ok (Some x)) else Ok None

abbrev pub nothing_left : Toks → ProgramTree → Result ProgramTree Fault
nothing_left [] x = Ok x
nothing_left (t ∷ rest) x = Err (Absent (Some t.at))

-- a program and nothing behind it, where n + 1 levels are left
unfoldable pub program_at : ℕ → Toks → Result ProgramTree Fault
program_at n toks = many_at (modulion_piece_at n) toks >>= λ xs. kept xs.0 xs.1 (nothing_left xs.1 (record { modulions = xs.0 }))
