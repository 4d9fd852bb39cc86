-- The laws of the rows of an elaborated program: the number of a definition leads to the row that is made of it; and what the program
-- says of the text's size and of its input.
use Rattle.std.specs.Prelude.{◌≡◌, ◌<◌, ◌↔◌, ℕ, Bool, true, List, Option, Some, slice_get}
use Rattle.std.specs.List.{Contains}
use Rattle.chill_tree.specs.ItemTree.{ProgramTree}
use Rattle.text_size.specs.Sizes.{program_size}
use Rattle.names_model.specs.declared.names.Resolved.{Resolved}
use Rattle.program_trees.specs.ProgramTree.{CheckedTree, LocalRowTree}
use Rattle.checks_model.specs.Ground.{Ground, a_predefined, get_int}
use Rattle.elaboration_model.specs.Numbering.{Source, Row, Thing, a_shared, a_local, an_event, a_buffer, a_message, a_region, a_body, no_thing, thing_of}
use Rattle.elaboration_model.specs.Elaborated.{location_row, event_row, buffer_row, signal_row, local_row, locals_of, body_as, elaborated_by, elaborated}

-- an entry of a list is made, as it is said, of the row of a definition
abbrev pub IsMadeOf : {A : Type 0} → (ℕ → Row → Option A) → List Row → ℕ → List A → ℕ → Type 0
IsMadeOf {A} f rs d xs k = (row : Row) × (made : A) × (slice_get rs d ≡ Some row) × (slice_get xs k ≡ Some made) × (f d row ≡ Some made)

-- a local of a body, whichever its first scalar is
abbrev pub IsLocalOf : Source → ℕ → List LocalRowTree → ℕ → Type 0
IsLocalOf s d locals k = (first : ℕ) × IsMadeOf (λ d r. local_row r first r.mode) s.rows d locals k

-- what the number of a definition leads to in an elaborated program
abbrev pub LeadsTo : Source → CheckedTree → ℕ → Thing → Type 0
LeadsTo s p d (a_shared k) = IsMadeOf (location_row s.rows) s.rows d p.locations k
LeadsTo s p d (an_event k) = IsMadeOf event_row s.rows d p.events k
LeadsTo s p d (a_buffer k) = IsMadeOf buffer_row s.rows d p.buffers k
LeadsTo s p d (a_message k) = IsMadeOf (signal_row s) s.rows d p.signals k
LeadsTo s p d (a_region k) = k < p.regions
LeadsTo s p d (a_body b) = IsMadeOf (λ d r. body_as s d r r.origin) s.rows d p.bodies b
LeadsTo s p d (a_local b k) = (locals : List LocalRowTree) → locals_of s b ≡ Some locals → IsLocalOf s d locals k
LeadsTo s p d no_thing = Unit {0}

-- each definition leads to its row
abbrev pub RowsLaw : Type 0
RowsLaw = (s : Source) (t : ProgramTree) (p : CheckedTree) (d : ℕ) → elaborated_by s t ≡ Some p → LeadsTo s p d (thing_of s.rows d)

-- the size is that of the text
abbrev pub TextSizeLaw : Type 0
TextSizeLaw = (g : Ground) (t : ProgramTree) (p : CheckedTree) → elaborated g t ≡ Some p → p.size ≡ program_size t

-- input is read exactly where some name stands for GET_INT
pub record UsesInput (g : Ground) : Type 0 where
  pub used : Resolved
  pub is_use : Contains g.uses used
  pub is_get_int : slice_get g.origins used.to ≡ Some (a_predefined get_int)

abbrev pub ReadsInputLaw : Type 0
ReadsInputLaw = (g : Ground) (t : ProgramTree) (p : CheckedTree) → elaborated g t ≡ Some p → (p.reads_input ≡ true) ↔ UsesInput g
