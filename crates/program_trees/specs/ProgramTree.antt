-- A checked program without where it lies in memory: its modes, statements and handlers are trees, and its other rows are
-- what they are.
use Rattle.std.specs.Prelude.{ℕ, Bool, List, map, Option, option_map}
use Rattle.std.specs.declared.alloc.Global.{Global}
use Rattle.std.specs.declared.rc.Rc.{Rc}
use Rattle.modes.specs.declared.mode.Mode.{Mode}
use Rattle.modes.specs.ModeTree.{ModeTree, mode_tree}
use Rattle.checked_program.specs.declared.program.Checked.{Checked}
use Rattle.checked_program.specs.declared.program.LocationRow.{LocationRow}
use Rattle.checked_program.specs.declared.program.EventRow.{EventRow}
use Rattle.checked_program.specs.declared.program.BufferRow.{BufferRow}
use Rattle.checked_program.specs.declared.program.SignalRow.{SignalRow}
use Rattle.checked_program.specs.declared.program.Body.{Body}
use Rattle.checked_program.specs.declared.program.Sort.{Sort}
use Rattle.checked_program.specs.declared.program.Parameter.{Parameter}
use Rattle.checked_program.specs.declared.program.LocalRow.{LocalRow}
use Rattle.checked_program.specs.declared.program.Definition.{Definition}
use Rattle.checked_program.specs.declared.program.ModulionRow.{ModulionRow}
use Rattle.program_trees.specs.StatementTree.{StatementNodes, HandlerNode, statements_of, handler_of}

-- a shared location, and the region that it stands in
pub record LocationRowTree : Type 0 where
  pub definition : ℕ
  pub name : List ℕ
  pub mode : ModeTree
  pub region : Option ℕ

-- a buffer, with its length where one is written, and the mode of its values
pub record BufferRowTree : Type 0 where
  pub definition : ℕ
  pub name : List ℕ
  pub length : Option ℕ
  pub element : ModeTree

-- a signal, the modes of its parts, and the body of the process that it is for
pub record SignalRowTree : Type 0 where
  pub definition : ℕ
  pub name : List ℕ
  pub parts : List ModeTree
  pub process : Option ℕ

-- a local of a body: its first scalar among those of the body's locals, and how many it has
pub record LocalRowTree : Type 0 where
  pub name : List ℕ
  pub mode : ModeTree
  pub first : ℕ
  pub count : ℕ

-- the outermost process, a process or a procedure
pub record BodyRowTree : Type 0 where
  pub definition : Option ℕ
  pub name : List ℕ
  pub sort : Sort
  pub region : Option ℕ
  pub critical : Bool
  pub parameters : List Parameter
  pub result : Option ModeTree
  pub listed : List ℕ
  pub locals : List LocalRowTree
  pub statements : StatementNodes
  pub handler : HandlerNode

-- a program that breaks no rule
pub record CheckedTree : Type 0 where
  pub locations : List LocationRowTree
  pub bodies : List BodyRowTree
  pub regions : ℕ
  pub events : List EventRow
  pub buffers : List BufferRowTree
  pub signals : List SignalRowTree
  pub exceptions : List (List ℕ)
  pub reads_input : Bool
  pub size : ℕ
  pub definitions : List Definition
  pub modulions : List ModulionRow

-- ---- the trees of values

-- the tree of a mode that is shared
abbrev pub shared_mode : Rc Mode Global → ModeTree
shared_mode m = mode_tree m.value

abbrev pub location_row_tree : LocationRow → LocationRowTree
location_row_tree row = record { definition = row.definition; name = row.name; mode = shared_mode row.mode; region = row.region }

abbrev pub buffer_row_tree : BufferRow → BufferRowTree
buffer_row_tree row = record { definition = row.definition; name = row.name; length = row.length; element = shared_mode row.element }

abbrev pub signal_row_tree : SignalRow → SignalRowTree
signal_row_tree row = record { definition = row.definition; name = row.name; parts = map shared_mode row.parts; process = row.process }

abbrev pub local_row_tree : LocalRow → LocalRowTree
local_row_tree row = record { name = row.name; mode = shared_mode row.mode; first = row.first; count = row.count }

abbrev pub body_row_tree : Body → BodyRowTree
body_row_tree body = record {
  definition = body.definition;
  name = body.name;
  sort = body.sort;
  region = body.region;
  critical = body.critical;
  parameters = body.parameters;
  result = option_map shared_mode body.result;
  listed = body.listed;
  locals = map local_row_tree body.locals;
  statements = statements_of body.statements;
  handler = handler_of body.handler;
}

-- the tree of a program
abbrev pub checked_tree : Checked → CheckedTree
checked_tree p = record {
  locations = map location_row_tree p.locations;
  bodies = map body_row_tree p.bodies;
  regions = p.regions;
  events = p.events;
  buffers = map buffer_row_tree p.buffers;
  signals = map signal_row_tree p.signals;
  exceptions = p.exceptions;
  reads_input = p.reads_input;
  size = p.size;
  definitions = p.definitions;
  modulions = p.modulions;
}
