-- Modulions and what stands in them, as they are written, without where they lie in memory.
use Rattle.std.specs.Prelude.{List, [], ◌∷◌, map, Option, option_map}
use Rattle.std.specs.declared.alloc.Global.{Global}
use Rattle.std.specs.declared.boxed.Box.{Box}
use Rattle.chill_base.specs.declared.pos.Pos.{Pos}
use Rattle.chill_tree.specs.declared.tree.name.Name.{Name}
use Rattle.chill_tree.specs.declared.tree.item.ModulionKind.{ModulionKind}
use Rattle.chill_tree.specs.declared.tree.item.Passed.{Passed}
use Rattle.chill_tree.specs.declared.tree.item.Passing.{Passing}
use Rattle.chill_tree.specs.declared.tree.item.Signal.{Signal}
use Rattle.chill_tree.specs.declared.tree.item.Param.{Param}
use Rattle.chill_tree.specs.declared.tree.item.Formal.{Formal}
use Rattle.chill_tree.specs.declared.tree.item.Procedure.{Procedure}
use Rattle.chill_tree.specs.declared.tree.item.Process.{Process}
use Rattle.chill_tree.specs.declared.tree.item.Tree.{Tree}
use Rattle.chill_tree.specs.declared.tree.item.Item.{Item, Item-F, fold-Item}
use Rattle.chill_tree.specs.declared.tree.item.Item.TheOpen as opens
use Rattle.chill_tree.specs.declared.tree.item.Modulion.{Modulion, Modulion-F, fold-Modulion}
use Rattle.chill_tree.specs.ModeTree.{ModeTree, mode_tree}
use Rattle.chill_tree.specs.LocalTree.{LocalTree, local_tree}
use Rattle.chill_tree.specs.StatementTree.{StatementTree, statement_tree, HandlerTree, boxed_handler, BodyTree, body_trees}

-- a signal
pub record SignalTree : Type 0 where
  pub name : Name
  pub parts : Option (List ModeTree)
  pub process : Option Name

-- parameters of a procedure that have one mode
pub record ParamTree : Type 0 where
  pub names : List Name
  pub mode : ModeTree
  pub passing : Option Passing

-- a procedure
pub record ProcedureTree : Type 0 where
  pub name : Name
  pub params : List ParamTree
  pub returns : Option ModeTree
  pub exceptions : Option (List Name)
  pub body : List BodyTree
  pub handler : Option HandlerTree
  pub closing : Option Name

-- parameters of a process that have one mode
pub record FormalTree : Type 0 where
  pub names : List Name
  pub mode : ModeTree

-- a process
pub record ProcessTree : Type 0 where
  pub name : Name
  pub formals : List FormalTree
  pub body : List BodyTree
  pub handler : Option HandlerTree
  pub closing : Option Name

mutual
  -- what stands in a modulion
  pub data ItemTree : Type 0 where
    seize : Pos → Passed → ItemTree
    grant : Pos → Passed → ItemTree
    local_item : LocalTree → ItemTree
    signals : Pos → List SignalTree → ItemTree
    procedure : ProcedureTree → ItemTree
    process : ProcessTree → ItemTree
    modulion : Name → ModulionKind → ItemNodes → Option HandlerTree → Option Name → ItemTree
    action : StatementTree → ItemTree

  pub data ItemNodes : Type 0 where
    no_items : ItemNodes
    more_items : ItemTree → ItemNodes → ItemNodes

-- a module or a region
pub record ModulionTree : Type 0 where
  pub name : Name
  pub kind : ModulionKind
  pub items : List ItemTree
  pub handler : Option HandlerTree
  pub closing : Option Name

-- a program
pub record ProgramTree : Type 0 where
  pub modulions : List ModulionTree

-- items as a modulion holds them
abbrev pub item_nodes : List ItemTree → ItemNodes
item_nodes [] = no_items
item_nodes (i ∷ is) = more_items i (item_nodes is)

-- the items that a modulion holds
abbrev pub items_in : ItemNodes → List ItemTree
items_in no_items = []
items_in (more_items i is) = i ∷ items_in is

-- a modulion as an item
abbrev pub modulion_item : ModulionTree → ItemTree
modulion_item m = modulion m.name m.kind (item_nodes m.items) m.handler m.closing

-- ---- the trees of values

abbrev pub signal_tree : Signal → SignalTree
signal_tree s = record { name = s.name; parts = option_map (map mode_tree) s.parts; process = s.process }

abbrev pub param_tree : Param → ParamTree
param_tree p = record { names = p.names; mode = mode_tree p.mode; passing = p.passing }

abbrev pub formal_tree : Formal → FormalTree
formal_tree p = record { names = p.names; mode = mode_tree p.mode }

abbrev pub procedure_tree : Procedure → ProcedureTree
procedure_tree p = record { name = p.name; params = map param_tree p.params; returns = option_map mode_tree p.returns; exceptions = p.exceptions; body = body_trees p.body; handler = option_map boxed_handler p.handler; closing = p.closing }

abbrev pub boxed_procedure : Box Procedure Global → ProcedureTree
boxed_procedure b = procedure_tree b.value

abbrev pub process_tree : Process → ProcessTree
process_tree p = record { name = p.name; formals = map formal_tree p.formals; body = body_trees p.body; handler = option_map boxed_handler p.handler; closing = p.closing }

abbrev pub boxed_process : Box Process Global → ProcessTree
boxed_process b = process_tree b.value

abbrev pub item_layer : Item-F ItemTree ModulionTree → ItemTree
item_layer (opens.Seize at p) = seize at p
item_layer (opens.Grant at p) = grant at p
item_layer (opens.Local l) = local_item (local_tree l)
item_layer (opens.Signals at ss) = signals at (map signal_tree ss)
item_layer (opens.Procedure p) = procedure (boxed_procedure p)
item_layer (opens.Process p) = process (boxed_process p)
item_layer (opens.Modulion m) = modulion_item m.value
item_layer (opens.Statement s) = action (statement_tree s)

abbrev pub modulion_layer : Modulion-F ItemTree ModulionTree → ModulionTree
modulion_layer m = record { name = m.name; kind = m.kind; items = m.items; handler = option_map boxed_handler m.handler; closing = m.closing }

-- the tree of an item
unfoldable pub item_tree : Item → ItemTree
item_tree = fold-Item ItemTree ModulionTree item_layer modulion_layer

-- the tree of a modulion
unfoldable pub modulion_tree : Modulion → ModulionTree
modulion_tree = fold-Modulion ItemTree ModulionTree item_layer modulion_layer

abbrev pub boxed_modulion : Box Modulion Global → ModulionTree
boxed_modulion b = modulion_tree b.value

abbrev pub item_trees : List Item → List ItemTree
item_trees is = map item_tree is

-- the tree of a program
abbrev pub program_tree : Tree → ProgramTree
program_tree t = record { modulions = map modulion_tree t.modulions }
