-- The places that the modes of shared locations have are possible, and share no bit.
use Rattle.std.proofs.Common.{◌≡◌, ℕ, true, ◌&&◌, List, Some, sym, ap, ◌∙◌, subst, true≢false}
use Rattle.std.specs.Prelude.{All, slice_get}
use Rattle.chill_tree.specs.ItemTree.{ProgramTree}
use Rattle.modes.specs.ModeTree.{ModeTree}
use Rattle.layout_map.specs.Spots.{spots_of}
use Rattle.layout_map.specs.Outcome.{outcome_of, spots}
use Rattle.names_model.specs.Definitions.{text_definitions}
use Rattle.names_model.specs.Resolving.{level_of}
use Rattle.program_trees.specs.ProgramTree.{LocationRowTree, CheckedTree}
use Rattle.checks_model.specs.Ground.{Ground, Origin, a_location, mode_of_entry}
use Rattle.checks_model.specs.Told.{holds_of}
use Rattle.checks_model.specs.ProcessRules.{meets_nothing, meeting_of}
use Rattle.checks_model.specs.Diagnoses.{BreaksNoRule}
use Rattle.constant_operators.proofs.Laying.{laid_outcome}
use Rattle.elaborated_laws.proofs.Told.{both_left, there_mapped}
use Rattle.elaboration_model.specs.Numbering.{Row, is_location, is_direct, is_shared, same_meeting}
use Rattle.elaboration_model.specs.Elaborated.{region_around, location_row, source_of, elaborated}
use Rattle.expression_laws.proofs.Outside.{row_parts}
use Rattle.program_laws.proofs.Defined.{own_mode}
use Rattle.head_laws.proofs.Rows.{all_of_each, each_row}
use Rattle.head_laws.proofs.Heads.{five_parts}
use Rattle.made_laws.specs.Made.{LayoutsInTextLaw}
use Rattle.made_laws.proofs.LaidNames.{written_laid}

module _ (text : List ℕ) (t : ProgramTree) (h : Ground) (has : BreaksNoRule text t h) where
  abbrev own_rows : List Row
  own_rows = (source_of h t).rows

  abbrev IsLaidOut : LocationRowTree → Type 0
  IsLaidOut row = outcome_of row.mode ≡ spots (spots_of row.mode)

  location_laid : (d : ℕ) (o : Origin) (m : ModeTree) → slice_get h.origins d ≡ Some o → is_location o ≡ true → mode_of_entry (slice_get h.entries d) ≡ Some m → outcome_of m ≡ spots (spots_of m)
  location_laid d (a_location l) m at location is = laid_outcome m (written_laid text t h has true l.mode m (own_mode text t h has d (a_location l) m at is))
  location_laid d o m at location is = absurd (true≢false (sym location))

  row_laid : (d : ℕ) (r : Row) (x : LocationRowTree) → slice_get own_rows d ≡ Some r → is_shared meets_nothing r ≡ true → location_row own_rows d r ≡ Some x → IsLaidOut x
  row_laid d r x at shared is =
      let parts = row_parts (text_definitions (level_of t)) h.origins h.entries d r at in
      let own = there_mapped (λ m. record { definition = d; name = r.name; mode = m; region = region_around own_rows r.inside }) r.mode x is in
      let direct = both_left (is_location r.origin && is_direct r.inside) (holds_of (λ m. same_meeting meets_nothing (meeting_of m)) r.mode) shared in
      let mode : mode_of_entry (slice_get h.entries d) ≡ Some own.0 = ap mode_of_entry parts.has ∙ (sym parts.mode ∙ own.1) in
      subst IsLaidOut own.2 (location_laid d r.origin own.0 parts.origin (both_left (is_location r.origin) (is_direct r.inside) direct) mode)

  rows_laid : (p : CheckedTree) → elaborated h t ≡ Some p → All IsLaidOut p.locations
  rows_laid p made =
      let parts = five_parts (source_of h t) t p made in
      all_of_each IsLaidOut p.locations (each_row IsLaidOut (location_row own_rows) (is_shared meets_nothing) own_rows p.locations parts.locations row_laid)

pub layouts_made : LayoutsInTextLaw
layouts_made text t g p has made = rows_laid text t g has p made
