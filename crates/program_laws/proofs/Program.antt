-- A text that breaks no rule has an elaborated program.
use Rattle.std.proofs.Common.{◌≡◌, ℕ, true, List, Option, Some, None, true≢false, refl, sym, ap, ◌∙◌, subst}
use Rattle.std.specs.Prelude.{IsSome, slice_get, option_and_then}
use Rattle.chill_tree.specs.declared.tree.name.Name.{Name}
use Rattle.chill_tree.specs.ItemTree.{ProgramTree}
use Rattle.names_model.specs.Definitions.{text_definitions}
use Rattle.names_model.specs.Resolving.{level_of}
use Rattle.checks_model.specs.Ground.{Ground, Origin, Entry, a_location, a_parameter, a_counter, a_received, a_procedure, a_process, a_signal, origin_of, mode_of_entry}
use Rattle.checks_model.specs.Table.{entry_with_counters}
use Rattle.checks_model.specs.Diagnoses.{BreaksNoRule}
use Rattle.there_laws.proofs.Names.{signals_known}
use Rattle.there_laws.proofs.Received.{received_there}
use Rattle.elaboration_model.specs.Numbering.{Row, may_be_local, has_body, body_used}
use Rattle.elaboration_model.specs.Parts.{made_each, made_of_some}
use Rattle.elaboration_model.specs.Elaborated.{source_of}
use Rattle.expression_laws.specs.Names.{stands_for_process}
use Rattle.expression_laws.specs.Text.{ModesStand, IsDefinitionKnown}
use Rattle.expression_laws.specs.Things.{origin_is}
use Rattle.expression_laws.proofs.Operators.{map_there}
use Rattle.expression_laws.proofs.Outside.{row_parts}
use Rattle.expression_laws.proofs.Statements.{each_made}
use Rattle.expression_laws.proofs.Text.{text_elaborated}
use Rattle.expression_laws.proofs.Things.{things_known}
use Rattle.program_laws.specs.Text.{ElaboratedThereLaw}
use Rattle.program_laws.proofs.Counters.{counters_there}
use Rattle.program_laws.proofs.Defined.{defined_in, origin_so, signal_so, entry_at, location_place, param_place, result_place, defined_place}
use Rattle.program_laws.proofs.Grounds.{all_placed, all_names_known}
use Rattle.program_laws.proofs.Nodes.{all_regions, all_clean}

same_process : (o : Option Origin) → stands_for_process o ≡ true → origin_is has_body o ≡ true
same_process (Some (a_process p)) stands = refl
same_process o stands = absurd (true≢false (sym stands))

module _ (text : List ℕ) (t : ProgramTree) (h : Ground) (has : BreaksNoRule text t h) where
  -- what may be a local has a mode
  local_mode : (d : ℕ) (o : Origin) → slice_get h.origins d ≡ Some o → may_be_local o ≡ true → IsSome (mode_of_entry (slice_get h.entries d))
  local_mode d (a_location l) at local = (location_place text t h has d l at).there
  local_mode d (a_parameter w) at local = (param_place text t h has d w at).there
  local_mode d (a_counter c) at local = counters_there text t h has d c at
  local_mode d (a_received n count part) at local = received_there text t h has d n count part at
  local_mode d o at local = absurd (true≢false (sym local))

  receiver_known : (p : Option Name) → ((n : Name) → p ≡ Some n → stands_for_process (origin_of h n) ≡ true) → IsSome (made_of_some (body_used (source_of h t)) p)
  receiver_known None stands = refl
  receiver_known (Some n) stands = map_there Some (body_used (source_of h t) n) ((things_known (source_of h t) n (all_placed text t h has)).body (same_process (origin_of h n) (stands n refl)))

  modes_stand : (d : ℕ) (o : Origin) → slice_get h.origins d ≡ Some o → ModesStand (source_of h t) d o
  modes_stand d (a_signal s) at =
      let own = entry_with_counters h (a_signal s) in
      let entry = entry_at text t h has d (a_signal s) at in (
        subst (λ e. IsSome (option_and_then (λ (x : Entry). made_each (λ m. m) x.parts) e)) (sym entry) (each_made (λ m. m) own.parts (signals_known text t has.plain_ground h has.has_modes has.is_ground d s own at entry)),
        receiver_known s.process (λ n is. signal_so text t h has d s at n is),
      )
  modes_stand d (a_procedure p) at = λ returns.
      let k = defined_in text t h has p.name (a_procedure p) (origin_so text t h has d (a_procedure p) at).0 in
      defined_place text t h has p.name (a_procedure p) k (result_place text t h has k.number p k.origin returns)
  modes_stand d o at = tt

  definition_known : (d : ℕ) (r : Row) → slice_get (source_of h t).rows d ≡ Some r → IsDefinitionKnown (source_of h t) d r
  definition_known d r at =
      let parts = row_parts (text_definitions (level_of t)) h.origins h.entries d r at in
      record {
        mode = λ local. subst (λ m. IsSome m) (ap mode_of_entry parts.has ∙ sym parts.mode) (local_mode d r.origin parts.origin local);
        modes = modes_stand d r.origin parts.origin;
      }

pub elaborated_there : ElaboratedThereLaw
elaborated_there text t g has =
    text_elaborated text t g has.has_modes.has_names has.is_ground
    (record { names = all_names_known text t g has; nodes = all_clean text t g has; definitions = definition_known text t g has; regions = all_regions text t g has })
