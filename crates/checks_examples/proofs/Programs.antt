-- Programs as they are written in examples, and what is told of them.
use Rattle.std.specs.Prelude.{ℕ, zero, suc, Bool, List, [], map, Option}
use Rattle.chill_base.specs.declared.pos.Pos.{Pos}
use Rattle.chill_tree.specs.declared.tree.name.Name.{Name}
use Rattle.chill_tree.specs.declared.tree.mode.PlaceForm.{PlaceForm}
use Rattle.chill_tree.specs.declared.tree.item.ModulionKind.{ModulionKind}
use Rattle.chill_tree.specs.declared.tree.item.Passing.{Passing}
use Rattle.chill_tree.specs.ExprTree.{ExprTree, RangeTree}
use Rattle.chill_tree.specs.ModeTree as w
use Rattle.chill_tree.specs.LocalTree.{SynonymTree, ModeDefinitionTree, InitialTree, DeclarationTree}
use Rattle.chill_tree.specs.StatementTree.{StatementTree, ElsIfTree, CaseTree, NamedTree, ReceiveTree, HandlerTree, BodyTree}
use Rattle.chill_tree.specs.ItemTree.{SignalTree, ParamTree, ProcedureTree, FormalTree, ProcessTree, ItemTree, ModulionTree, ProgramTree}
use Rattle.diagnostics.specs.declared.rule.Rule.{Rule}
use Rattle.diagnostics.specs.declared.diagnostic.Diagnostic.{Diagnostic}
use Rattle.checks_model.specs.Ground.{Ground, Entry, Origin}
use Rattle.checks_model.specs.Table.{ground_with, no_entry, entry_by, entry_with_counters}

abbrev pub at : ℕ → ℕ → Pos
at line column = record { line = line; column = column }

abbrev pub n : ℕ → ℕ → List ℕ → Name
n line column text = record { at = at line column; text = text }

abbrev pub syn : List Name → Option w.ModeTree → ExprTree → SynonymTree
syn names mode value = record { names = names; mode = mode; value = value }

abbrev pub modedef : Name → w.ModeTree → ModeDefinitionTree
modedef name mode = record { name = name; mode = mode }

abbrev pub init : Pos → Bool → ExprTree → InitialTree
init at word value = record { at = at; init = word; value = value }

abbrev pub decl : List Name → w.ModeTree → Option InitialTree → DeclarationTree
decl names mode initial = record { names = names; mode = mode; initial = initial }

abbrev pub place : Pos → ExprTree → ExprTree → PlaceForm → ExprTree → w.PlaceTree
place at word start form bound = record { at = at; word = word; start = start; form = form; bound = bound }

abbrev pub step_of : Pos → w.PlaceTree → ExprTree → w.StepTree
step_of at place distance = record { at = at; place = place; distance = distance }

abbrev pub fields : List Name → w.BaseTree → Option w.PlaceTree → w.FieldTree
fields names base place = record { names = names; base = base; place = place }

abbrev pub branch : Pos → ExprTree → List StatementTree → ElsIfTree
branch at condition actions = record { at = at; condition = condition; actions = actions }

abbrev pub choice : Pos → List RangeTree → List StatementTree → CaseTree
choice at labels actions = record { at = at; labels = labels; actions = actions }

abbrev pub alt : Pos → List Name → List StatementTree → NamedTree
alt at names actions = record { at = at; names = names; actions = actions }

abbrev pub recv : Pos → Name → Option (List Name) → List StatementTree → ReceiveTree
recv at source received actions = record { at = at; source = source; received = received; actions = actions }

abbrev pub hand : Pos → List NamedTree → Option (List StatementTree) → HandlerTree
hand at alternatives otherwise = record { at = at; alternatives = alternatives; otherwise_part = otherwise }

abbrev pub sig : Name → Option (List w.ModeTree) → Option Name → SignalTree
sig name parts process = record { name = name; parts = parts; process = process }

abbrev pub param : List Name → w.ModeTree → Option Passing → ParamTree
param names mode passing = record { names = names; mode = mode; passing = passing }

abbrev pub formal : List Name → w.ModeTree → FormalTree
formal names mode = record { names = names; mode = mode }

abbrev pub proc : Name → List ParamTree → Option w.ModeTree → Option (List Name) → List BodyTree → Option HandlerTree → Option Name → ProcedureTree
proc name params returns exceptions body handler closing = record { name = name; params = params; returns = returns; exceptions = exceptions; body = body; handler = handler; closing = closing }

abbrev pub proce : Name → List FormalTree → List BodyTree → Option HandlerTree → Option Name → ProcessTree
proce name formals body handler closing = record { name = name; formals = formals; body = body; handler = handler; closing = closing }

abbrev pub modul : Name → ModulionKind → List ItemTree → Option HandlerTree → Option Name → ModulionTree
modul name kind items handler closing = record { name = name; kind = kind; items = items; handler = handler; closing = closing }

abbrev pub program : List ModulionTree → ProgramTree
program ms = record { modulions = ms }

-- ---- the table of a program: its equation, so many times from nothing

abbrev pub with_entries : Ground → List Entry → Ground
with_entries g es = record { uses = g.uses; defined = g.defined; origins = g.origins; entries = es }

abbrev pub after : ℕ → (Ground → Origin → Entry) → Ground → Ground
after zero entry g = g
after (suc k) entry g = after k entry (with_entries g (map (entry g) g.origins))

abbrev pub bare_ground : ProgramTree → Ground
bare_ground t = with_entries (ground_with t []) (map (λ o. no_entry) (ground_with t []).origins)

abbrev pub ground_of : ProgramTree → Ground
ground_of t = after 4 entry_by (bare_ground t)

abbrev pub counted_ground_of : ProgramTree → Ground
counted_ground_of t = after 5 entry_with_counters (bare_ground t)

-- ---- what is told, as it is written in examples

abbrev pub told : Rule → ℕ → ℕ → Diagnostic
told rule line column = record { at = at line column; rule = rule; first = []; second = [] }

abbrev pub told_of : Rule → ℕ → ℕ → List ℕ → Diagnostic
told_of rule line column first = record { at = at line column; rule = rule; first = first; second = [] }

abbrev pub told_both : Rule → ℕ → ℕ → List ℕ → List ℕ → Diagnostic
told_both rule line column first second = record { at = at line column; rule = rule; first = first; second = second }
