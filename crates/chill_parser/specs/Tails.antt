-- The last parts of what is read, each from where a function of its own takes over.
use Rattle.std.specs.Prelude.{ℕ, List, Option, Some, Ok}
use Rattle.chill_base.specs.declared.pos.Pos.{Pos}
use Rattle.chill_tree.specs.declared.token.Word.TheVariants as words
use Rattle.chill_tree.specs.declared.token.Sign.TheVariants as signs
use Rattle.chill_tree.specs.declared.tree.name.Name.{Name}
use Rattle.chill_tree.specs.declared.tree.item.ModulionKind.{ModulionKind}
use Rattle.chill_tree.specs.ModeTree.{ModeTree}
use Rattle.chill_tree.specs.StatementTree.{BodyTree}
use Rattle.chill_tree.specs.ItemTree.{ParamTree, ProcedureTree, ItemTree, seize, grant, local_item, signals, procedure, process, action, ModulionTree, modulion_item}
use Rattle.rules_model.specs.Marks.{Toks}
use Rattle.rules_model.specs.Reading.{Read, Piece, ◌>>=◌, sign_at, word_at, listed_at}
use Rattle.rules_model.specs.ModeReading.{local_at}
use Rattle.rules_model.specs.StatementReading.{handler_at, closing_at, statement_at, actions_at, body_at}
use Rattle.rules_model.specs.ItemReading.{passed_at, signal_at, Block, block_at, procedure_at, process_at, Items, modulion_at}

-- what stands behind the END of a block whose body is known
abbrev pub block_end_at : ℕ → Name → List BodyTree → Toks → Read Block
block_end_at n x b toks = handler_at (actions_at n) toks >>= λ h. closing_at (Some x) h.1 >>= λ c. sign_at signs.Semicolon c.1 >>= λ s. Ok ((b, h.0, c.0), s.1)

-- the block of a procedure whose head is known
abbrev pub procedure_block_at : ℕ → Name → Pos → List ParamTree → Option ModeTree → Option (List Name) → Toks → Read ProcedureTree
procedure_block_at n x p ps o es toks = sign_at signs.Semicolon toks >>= λ s. block_at n x p s.1 >>= λ b. Ok (record { name = x; params = ps; returns = o; exceptions = es; body = b.0.0; handler = b.0.1; closing = b.0.2 }, b.1)

-- what stands behind the END of a modulion whose items are known
abbrev pub modulion_end_at : ℕ → Name → ModulionKind → List ItemTree → Toks → Read ModulionTree
modulion_end_at n x k is toks = handler_at (actions_at n) toks >>= λ h. closing_at (Some x) h.1 >>= λ l. sign_at signs.Semicolon l.1 >>= λ s. Ok (record { name = x; kind = k; items = is; handler = h.0; closing = l.0 }, s.1)

-- an item whose first word is known, and which holds no other item
abbrev pub seize_at : Toks → Piece ItemTree
seize_at toks = word_at words.Seize toks >>= λ w. passed_at w.1 >>= λ p. sign_at signs.Semicolon p.1 >>= λ s. Ok (Some (seize w.0 p.0, s.1))

abbrev pub grant_at : Toks → Piece ItemTree
grant_at toks = word_at words.Grant toks >>= λ w. passed_at w.1 >>= λ p. sign_at signs.Semicolon p.1 >>= λ s. Ok (Some (grant w.0 p.0, s.1))

abbrev pub signals_at : ℕ → Toks → Piece ItemTree
signals_at n toks = word_at words.Signal toks >>= λ w. listed_at (signal_at n) w.1 >>= λ xs. sign_at signs.Semicolon xs.1 >>= λ s. Ok (Some (signals w.0 xs.0, s.1))

abbrev pub local_item_at : ℕ → Toks → Piece ItemTree
local_item_at n toks = local_at n toks >>= λ l. Ok (Some (local_item l.0, l.1))

abbrev pub procedure_item_at : ℕ → Toks → Piece ItemTree
procedure_item_at n toks = procedure_at n toks >>= λ x. Ok (Some (procedure x.0, x.1))

abbrev pub process_item_at : ℕ → Toks → Piece ItemTree
process_item_at n toks = process_at n toks >>= λ x. Ok (Some (process x.0, x.1))

abbrev pub action_item_at : ℕ → Toks → Piece ItemTree
action_item_at n toks = statement_at n (actions_at n) (body_at n) toks >>= λ x. Ok (Some (action x.0, x.1))

-- a modulion among the items, where items reads those in it
abbrev pub modulion_item_at : ℕ → Items → Toks → Piece ItemTree
modulion_item_at n items toks = modulion_at n items toks >>= λ x. Ok (Some (modulion_item x.0, x.1))
