-- The law of what names are in the elaborated program: where each row of a text stands as a text has it, locations, parameters, counters and
-- received names are kept, and events, buffers, signals and bodies have their numbers.
use Rattle.std.specs.Prelude.{◌≡◌, ℕ, Bool, true, false, ◌||◌, ◌&&◌, not, List, Option, Some, None, IsSome, is_some, option_and_then, slice_get}
use Rattle.chill_tree.specs.declared.tree.name.Name.{Name}
use Rattle.modes.specs.ModeTree.{ModeTree}
use Rattle.modes.specs.Form.{form_of}
use Rattle.checks_model.specs.Alike.{is_meeting}
use Rattle.checks_model.specs.Ground.{Origin, a_counter, a_received, a_procedure, a_predefined, origin_of, entry_of, mode_of_entry, message_parts}
use Rattle.checks_model.specs.ProcessRules.{meets_event, meets_buffer, meeting_of, is_event_or_buffer}
use Rattle.elaboration_model.specs.Numbering.{Source, Row, is_direct, is_location, may_be_local, has_body, is_signal, thing_used, event_number, buffer_number, body_in, Thing, a_message}
use Rattle.elaborated_laws.specs.Known.{IsKnownName}
use Rattle.elaborated_laws.specs.Classes.{HasModes}
use Rattle.there_laws.specs.Table.{IsNameThere}
use Rattle.elaboration_model.specs.Expressions.{base_of, formals_by, modes_by}
use Rattle.expression_laws.specs.Names.{ArePlaces, AreFormals, IsNameKnown}

-- Procedures, processes and signals stand directly in modulions; parameters, counters and received names don't; and a location that doesn't is
-- no event and no buffer.
pub record IsRowPlaced (r : Row) : Type 0 where
  pub direct : (has_body r.origin || is_signal r.origin) ≡ true → is_direct r.inside ≡ true
  pub inner : (may_be_local r.origin && not (is_location r.origin)) ≡ true → is_direct r.inside ≡ false
  pub values : is_location r.origin ≡ true → is_direct r.inside ≡ false → (m : ModeTree) → r.mode ≡ Some m → is_event_or_buffer (meeting_of m) ≡ false

-- the row of a definition of the text
pub record RowAt (s : Source) (d : ℕ) (o : Origin) : Type 0 where
  pub row : Row
  pub is : slice_get s.rows d ≡ Some row
  pub origin : row.origin ≡ o
  pub mode : mode_of_entry (slice_get s.known.entries d) ≡ row.mode
  pub placed : IsRowPlaced row

abbrev pub is_of_text : Origin → Bool
is_of_text (a_predefined p) = false
is_of_text o = true

abbrev pub AllRowsPlaced : Source → Type 0
AllRowsPlaced s = (d : ℕ) (o : Origin) → slice_get s.known.origins d ≡ Some o → is_of_text o ≡ true → RowAt s d o

-- what is tested of what a name stands for
abbrev pub origin_is : (Origin → Bool) → Option Origin → Bool
origin_is test None = false
origin_is test (Some o) = test o

abbrev pub message_number : Thing → Option ℕ
message_number (a_message k) = Some k
message_number _ = None

-- what a name is in the elaborated program
pub record IsThingKnown (s : Source) (n : Name) : Type 0 where
  pub base : origin_is may_be_local (origin_of s.known n) ≡ true → (m : ModeTree) → mode_of_entry (entry_of s.known n) ≡ Some m → not (is_meeting (form_of m)) ≡ true → IsSome (option_and_then base_of (thing_used s n))
  pub event : origin_is is_location (origin_of s.known n) ≡ true → (m : ModeTree) → mode_of_entry (entry_of s.known n) ≡ Some m → meeting_of m ≡ meets_event → IsSome (option_and_then event_number (thing_used s n))
  pub buffer : origin_is is_location (origin_of s.known n) ≡ true → (m : ModeTree) → mode_of_entry (entry_of s.known n) ≡ Some m → meeting_of m ≡ meets_buffer → IsSome (option_and_then buffer_number (thing_used s n))
  pub signal : origin_is is_signal (origin_of s.known n) ≡ true → IsSome (option_and_then message_number (thing_used s n))
  pub body : origin_is has_body (origin_of s.known n) ≡ true → IsSome (option_and_then body_in (thing_used s n))

abbrev pub ThingsLaw : Type 0
ThingsLaw = (s : Source) (n : Name) → AllRowsPlaced s → IsThingKnown s n

-- ---- what the ground tells of names

abbrev pub is_counted : Origin → Bool
is_counted (a_counter c) = true
is_counted (a_received n count part) = true
is_counted _ = false

abbrev pub returns_mode : Origin → Bool
returns_mode (a_procedure p) = is_some p.returns
returns_mode _ = false

-- What the ground tells of a name: what constants and modes need; that its modes are such as a location may have; that counters, received
-- names and what procedures return have modes; and that the parts of signals and the parameters of what is called or started have such modes.
pub record IsGroundKnown (s : Source) (n : Name) : Type 0 where
  pub there : IsNameThere s.known n
  pub known : IsKnownName s.known n
  pub modes : HasModes s.known n
  pub counted : origin_is is_counted (origin_of s.known n) ≡ true → IsSome (mode_of_entry (entry_of s.known n))
  pub result : origin_is returns_mode (origin_of s.known n) ≡ true → IsSome (mode_of_entry (entry_of s.known n))
  pub parts : origin_is is_signal (origin_of s.known n) ≡ true → (ms : List (Option ModeTree)) × ((message_parts s.known n ≡ Some ms) × ArePlaces ms)
  pub formals : AreFormals (formals_by s (origin_of s.known n))
  pub places : ArePlaces (modes_by s (origin_of s.known n))

-- So all is known of a name that elaborated expressions need, where its row stands as a text has it.
abbrev pub NamesKnownLaw : Type 0
NamesKnownLaw = (s : Source) (n : Name) → AllRowsPlaced s → IsGroundKnown s n → IsNameKnown s n
