-- What the rules are asked against: what each name stands for, what each definition is defined by, and what is known of it.
use Rattle.std.specs.Prelude.{ℕ, Bool, List, [], ◌∷◌, ◌&&◌, ◌==◌, if◌then◌else◌, Option, Some, None, slice_get, option_map, option_and_then}
use Rattle.chill_base.specs.declared.pos.Pos.{Pos}
use Rattle.chill_tree.specs.declared.tree.name.Name.{Name}
use Rattle.chill_tree.specs.ModeTree as written
use Rattle.chill_tree.specs.LocalTree.{SynonymTree, DeclarationTree}
use Rattle.chill_tree.specs.SimpleTree.{ControlTree}
use Rattle.chill_tree.specs.declared.tree.item.ModulionKind.{ModulionKind}
use Rattle.chill_tree.specs.ItemTree.{ProcedureTree, ProcessTree, SignalTree, ItemNodes}
use Rattle.modes.specs.ModeTree.{ModeTree, ClassTree, named, buffer, read}
use Rattle.names_model.specs.declared.names.Resolved.{Resolved}
use Rattle.checks_model.specs.ValueTrees.{ValueTree}

-- what a predefined name stands for
pub data Predefined : Type 0 where
  of_mode : ModeTree → Predefined
  truth : Bool → Predefined
  no_instance : Predefined
  num : Predefined
  succ : Predefined
  pred : Predefined
  abs : Predefined
  card : Predefined
  min : Predefined
  max : Predefined
  upper : Predefined
  lower : Predefined
  size : Predefined
  put_int : Predefined
  put_text : Predefined
  put_nl : Predefined
  get_int : Predefined

-- what a definition is defined by
pub data Origin : Type 0 where
  a_synonym : SynonymTree → Origin
  -- whether it is a NEWMODE
  a_mode : Bool → written.ModeTree → Origin
  -- the elements of its SET, which of them this is, and the name of the mode that the SET is the whole of, READ aside, with
  -- whether that is a NEWMODE
  an_element : List Name → ℕ → Option (Name × Bool) → Origin
  a_location : DeclarationTree → Origin
  a_parameter : written.ModeTree → Origin
  a_counter : ControlTree → Origin
  -- the name of what it is received from, how many names are received, and which this is
  a_received : Name → ℕ → ℕ → Origin
  a_procedure : ProcedureTree → Origin
  a_process : ProcessTree → Origin
  a_signal : SignalTree → Origin
  a_modulion : ModulionKind → ItemNodes → Origin
  a_predefined : Predefined → Origin

-- What is known of a definition. Each is none where there is none, or where something that it needs is broken.
-- A counter's mode is asked of the phase of statements, since its bounds are values of statements.
pub record Entry : Type 0 where
  -- of a mode, location, parameter, counter or received name, of a synonym's names, or of what a procedure returns
  pub mode : Option ModeTree
  -- of a synonym or an element
  pub class : Option ClassTree
  pub value : Option ValueTree
  -- of a signal's parts
  pub parts : List (Option ModeTree)

pub record Ground : Type 0 where
  -- what each used name stands for, and the number of each defined name, by their places
  pub uses : List Resolved
  pub defined : List Resolved
  -- by the numbers of definitions
  pub origins : List Origin
  pub entries : List Entry

abbrev pub same_place : Pos → Pos → Bool
same_place p q = (p.line == q.line) && (p.column == q.column)

-- the number that stands with a place
abbrev pub number_at : List Resolved → Pos → Option ℕ
number_at [] at = None
number_at (u ∷ us) at = if same_place u.at at then Some u.to else number_at us at

abbrev pub origin_at : Ground → Pos → Option Origin
origin_at g at = option_and_then (slice_get g.origins) (number_at g.uses at)

-- what the name used there is defined by
abbrev pub origin_of : Ground → Name → Option Origin
origin_of g n = origin_at g n.at

-- what is known of what the name used there stands for
abbrev pub entry_of : Ground → Name → Option Entry
entry_of g n = option_and_then (slice_get g.entries) (number_at g.uses n.at)

-- what is known of what a name defines
abbrev pub entry_defined : Ground → Name → Option Entry
entry_defined g n = option_and_then (slice_get g.entries) (number_at g.defined n.at)

abbrev pub mode_of_entry : Option Entry → Option ModeTree
mode_of_entry e = option_and_then (λ e. e.mode) e

abbrev pub class_of_entry : Option Entry → Option ClassTree
class_of_entry e = option_and_then (λ e. e.class) e

-- ---- names

-- by what is known of the definition, its number, and what it is defined by
abbrev pub named_mode : Option Entry → Option ℕ → Option Origin → Option ModeTree
named_mode e (Some d) (Some (a_mode novel m)) = option_map (named d novel) (mode_of_entry e)
named_mode e d (Some (a_predefined (of_mode m))) = Some m
named_mode e _ _ = None

-- the mode that the name of a mode stands for, under that name
abbrev pub mode_of_name : Ground → Name → Option ModeTree
mode_of_name g n = named_mode (entry_of g n) (number_at g.uses n.at) (origin_of g n)

-- the mode of a buffer's values, names looked through
abbrev pub element_of : ModeTree → Option ModeTree
element_of (buffer l e) = Some e
element_of (read m) = element_of m
element_of (named d n m) = element_of m
element_of _ = None

abbrev pub buffer_element : Ground → Name → Option ModeTree
buffer_element g n = option_and_then element_of (mode_of_entry (entry_of g n))

abbrev pub message_of : Option Entry → Option Origin → Option (List (Option ModeTree))
message_of e (Some (a_signal s)) = option_map (λ e. e.parts) e
message_of e _ = option_map (λ m. Some m ∷ []) (option_and_then element_of (mode_of_entry e))

-- the modes of the parts of a message that is sent to a buffer or by a signal; none where the name is neither
abbrev pub message_parts : Ground → Name → Option (List (Option ModeTree))
message_parts g n = message_of (entry_of g n) (origin_of g n)
