-- A priority of which the phase of modes and constants tells nothing is one in the ground that knows counters, too: a constant
-- looks up no counter.
use Rattle.std.proofs.Common.{◌≡◌, ℕ, true, false, List, [], ◌∷◌, Option, Some, None, true≢false, refl, sym, ap, ◌∙◌}
use Rattle.std.specs.Prelude.{not, slice_get, option_and_then}
use Rattle.diagnostics.specs.declared.rule.Rule.TheVariants as rules
use Rattle.chill_tree.specs.declared.tree.name.Name.{Name}
use Rattle.chill_tree.specs.ExprTree.{ExprTree, place_of}
use Rattle.chill_tree.specs.ItemTree.{ProgramTree}
use Rattle.checks_model.specs.Ground.{Ground, Origin, a_synonym, a_mode, an_element, a_location, a_parameter, number_at, origin_of, entry_of}
use Rattle.checks_model.specs.Told.{tell_at, told_if, then_told}
use Rattle.checks_model.specs.Constants.{has_form}
use Rattle.checks_model.specs.ConstantRules.{by_itself, told_of_constants, told_needed}
use Rattle.checks_model.specs.Table.{IsGroundOf, IsStatementGroundOf}
use Rattle.checks_model.specs.Phases.{told_of_modes}
use Rattle.checks_model.specs.Diagnoses.{HasNames, HasModes}
use Rattle.table_laws.specs.Names.{names_in}
use Rattle.table_laws.specs.Frames.{is_read, SameKnown, SameKnownEach}
use Rattle.table_laws.specs.OneTable.{SameText}
use Rattle.table_laws.proofs.KnownFrames.{form_frame}
use Rattle.table_laws.proofs.ConstantFrames.{told_constant_frame}
use Rattle.written_laws.proofs.WrittenSo.{none_listed}
use Rattle.order_laws.specs.Texts.{is_counter}
use Rattle.order_laws.proofs.Counters.{number_same, origin_same}
use Rattle.order_laws.proofs.TextCounters.{grounds_alike, but_counters}
use Rattle.wait_exprs.specs.Waits.{WaitTree, set_of, priority_of, waits_of}
use Rattle.process_checks.specs.Waiting.{IsNeeded, AreNeeded}
use Rattle.process_checks.proofs.Priorities.{all_needed}

read_plain : (o : Option Origin) → is_read o ≡ true → is_counter o ≡ false
read_plain (Some (a_synonym s)) read = refl
read_plain (Some (a_mode novel m)) read = refl
read_plain (Some (an_element ns i owner)) read = refl
read_plain (Some (a_location d)) read = refl
read_plain (Some (a_parameter m)) read = refl
read_plain o read = absurd (true≢false (sym read))

module _ (text : List ℕ) (t : ProgramTree) (g h : Ground) (has : HasNames text t) (is_g : IsGroundOf t g) (is_h : IsStatementGroundOf t h) where
  alike : SameText g h
  alike = grounds_alike t g h is_g.names is_h.names

  entry_named : (n : Name) → is_counter (origin_of g n) ≡ false → entry_of g n ≡ entry_of h n
  entry_named n apart = by (number_at g.uses n.at) apart ∙ ap (option_and_then (slice_get h.entries)) (number_same g h n alike)
    where
      by : (k : Option ℕ) → is_counter (option_and_then (slice_get g.origins) k) ≡ false → option_and_then (slice_get g.entries) k ≡ option_and_then (slice_get h.entries) k
      by None apart = refl
      by (Some d) apart = but_counters text t g h has is_g is_h d apart

  same_known : (n : Name) → SameKnown g h n
  same_known n = record { number = number_same g h n alike; origin = origin_same g h n alike; entry = λ read. entry_named n (read_plain (origin_of g n) read) }

  all_same : (ns : List Name) → SameKnownEach g h ns
  all_same [] = tt
  all_same (n ∷ ns) = (same_known n, all_same ns)

  needed_same : (e : ExprTree) → told_needed g e ≡ told_needed h e
  needed_same e =
      ap (λ ds. then_told ds (told_if (not (has_form g false e)) (tell_at rules.M1 (place_of e)))) (told_constant_frame g h by_itself None e (all_same (names_in e)))
      ∙ ap (λ b. then_told (told_of_constants h e) (told_if (not b) (tell_at rules.M1 (place_of e)))) (form_frame g h false e (all_same (names_in e)))

  needed_later : (w : WaitTree) → IsNeeded g w → IsNeeded h w
  needed_later (set_of e) n = tt
  needed_later (priority_of e) n = sym (needed_same e) ∙ n

  each_later : (ws : List WaitTree) → AreNeeded g ws → AreNeeded h ws
  each_later [] ns = tt
  each_later (w ∷ ws) ns = (needed_later w ns.0, each_later ws ns.1)

pub all_needed_later : (text : List ℕ) (t : ProgramTree) (g h : Ground) → HasModes text t g → IsStatementGroundOf t h → AreNeeded h (waits_of t)
all_needed_later text t g h has is_h = each_later text t g h has.has_names has.is_ground is_h (waits_of t) (all_needed g t (none_listed (told_of_modes g t) has.modes))
