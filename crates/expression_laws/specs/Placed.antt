-- The law of where definitions stand: each row of a text stands as a text has it.
use Rattle.std.specs.Prelude.{◌≡◌, ℕ, true, false, List, [], Some, slice_get}
use Rattle.chill_tree.specs.ItemTree.{ProgramTree}
use Rattle.modes.specs.ModeTree.{ModeTree}
use Rattle.checks_model.specs.ProcessRules.{is_event_or_buffer, meeting_of}
use Rattle.checks_model.specs.Ground.{Ground}
use Rattle.checks_model.specs.Diagnoses.{HasNames}
use Rattle.checks_model.specs.Phases.{processes_told_at}
use Rattle.checks_model.specs.Sites.{sites}
use Rattle.checks_model.specs.Table.{IsStatementGroundOf}
use Rattle.written_laws.specs.Written.{Each}
use Rattle.elaboration_model.specs.Numbering.{Source, Row, is_direct, is_location}
use Rattle.elaboration_model.specs.Elaborated.{source_of}
use Rattle.expression_laws.specs.Things.{AllRowsPlaced}

-- no event and no buffer is declared in a body
abbrev pub MeetsOutside : Source → Type 0
MeetsOutside s = (d : ℕ) (r : Row) → slice_get s.rows d ≡ Some r → is_location r.origin ≡ true → is_direct r.inside ≡ false → (m : ModeTree) → r.mode ≡ Some m → is_event_or_buffer (meeting_of m) ≡ false

-- In a text in which no event and no buffer is declared in a body each row stands as a text has it.
abbrev pub RowsPlacedLaw : Type 0
RowsPlacedLaw = (t : ProgramTree) (g : Ground) → IsStatementGroundOf t g → MeetsOutside (source_of g t) → AllRowsPlaced (source_of g t)

-- Where nothing is told of processes no event and no buffer is declared in a body.
abbrev pub MeetsOutsideLaw : Type 0
MeetsOutsideLaw = (text : List ℕ) (t : ProgramTree) (g : Ground) → HasNames text t → IsStatementGroundOf t g → Each (λ n. processes_told_at g n ≡ []) (sites t) → MeetsOutside (source_of g t)
