-- No event changes how many regions there are.
use Rattle.std.proofs.Common.{◌≡◌, ℕ, List, ℤ, length, length-set, refl, ap, ◌∙◌, inl, inr, Option, Some, None}
use Rattle.std.specs.Prelude.{◌==◌}
use Rattle.std.proofs.lemmas.Bool.{cases_Bool}
use Rattle.std.proofs.lemmas.List.{length-map}
use Rattle.kernel_base.specs.declared.facts.Facts.{Facts}
use Rattle.kernel_base.specs.declared.request.Request.{Request}
use Rattle.kernel_base.specs.declared.request.Request.TheVariants.{Enter, Leave, Start, End}
use Rattle.kernel_base.specs.declared.answer.Answer.{Answer}
use Rattle.kernel_base.specs.declared.answer.Answer.TheVariants.{Instance}
use Rattle.kernel_base.specs.declared.event.Event.{Event}
use Rattle.kernel_base.specs.declared.event.Event.TheVariants.{Did, Waits, Goes, Runs}
use Rattle.world_model.specs.declared.world.World.{World}
use Rattle.world_model.specs.Lists.{last_of}
use Rattle.world_model.specs.Waiting.{phase_of}
use Rattle.world_model.specs.World.{occupant, held_by, entered, left, freed_last, locked_back, back_in, other_occupant, with_drawn, drawn, after_start, after_request, after_waits, after}
use Rattle.world_model.proofs.Locking.{quiet_keeps}

entered_len : (w : World) (who region : ℕ) (o : Option ℕ) → length (entered w who region o).occupants ≡ length w.occupants
entered_len w who region None = length-set w.occupants region (Some who)
entered_len w who region (Some other) = refl

left_len : (w : World) (who region : ℕ) (o : Option ℕ) → length (left w who region o).occupants ≡ length w.occupants
left_len w who region None = refl
left_len w who region (Some other) = elim (cases_Bool (other == who)) [
  | inl same ↦ rw same (length-set w.occupants region None)
  | inr apart ↦ rw apart refl
]

start_len : (w : World) (process : ℕ) (scalars : List ℤ) (answer : Answer) → length (after_start w process scalars answer).occupants ≡ length w.occupants
start_len w process scalars (Instance i) = refl
start_len w process scalars answer = refl

freed_len : (w : World) (who : ℕ) (back : Option ℕ) → length (freed_last w who back).occupants ≡ length w.occupants
freed_len w who None = refl
freed_len w who (Some region) = length-set w.occupants region None

drawn_len : (w : World) (d : Option ℕ) → length (with_drawn w d).occupants ≡ length w.occupants
drawn_len w None = refl
drawn_len w (Some send) = refl

back_len : (w : World) (who : ℕ) (back : Option ℕ) → length (locked_back w who back).occupants ≡ length w.occupants
back_len w who None = refl
back_len w who (Some region) = length-set w.occupants region (Some who)

did_len : (facts : Facts) (w : World) (who : ℕ) (request : Request) (answer : Answer) (refill : Option ℕ) → length (after_request facts w who request answer refill).occupants ≡ length w.occupants
did_len facts w who (Enter region) answer refill = entered_len w who region (occupant w region)
did_len facts w who (Leave region) answer refill = left_len w who region (occupant w region)
did_len facts w who (Start process scalars) answer refill = start_len w process scalars answer
did_len facts w who (End how) answer refill = length-map w.occupants (other_occupant who)
did_len facts w who request answer refill = ap length (quiet_keeps facts w who request answer refill tt).0

waits_len : (w : World) (who : ℕ) (request : Request) → length (after_waits w who request).occupants ≡ length w.occupants
waits_len w who (Enter region) = refl
waits_len w who request = freed_len (with_drawn w (drawn w request)) who (last_of (held_by w who)) ∙ drawn_len w (drawn w request)

pub regions_stay : (facts : Facts) (w : World) (event : Event) → length (after facts w event).occupants ≡ length w.occupants
regions_stay facts w (Did who ticks request answer refill) = did_len facts w who request answer refill
regions_stay facts w (Waits who ticks request) = waits_len w who request
regions_stay facts w (Goes who answer) = back_len w who (back_in (phase_of w who))
regions_stay facts w (Runs who ticks) = refl
