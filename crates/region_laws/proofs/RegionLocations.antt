-- A region's locations are read and written by its occupant alone.
use Rattle.std.proofs.Common.{◌≡◌, ℕ, List, [], ◌∷◌, refl, sym, ap, ◌∙◌, subst, append-nil, Option, Some, None}
use Rattle.kernel_base.specs.declared.facts.Facts.{Facts}
use Rattle.kernel_base.specs.declared.request.Request.{Request}
use Rattle.kernel_base.specs.declared.request.Request.TheVariants.{Enter, Leave, End}
use Rattle.kernel_base.specs.declared.event.Event.{Event}
use Rattle.kernel_base.specs.declared.event.Event.TheVariants.{Did, Waits, Goes, Runs}
use Rattle.world_model.specs.Waiting.{IsActive}
use Rattle.world_model.specs.World.{world_of, opening, held_by}
use Rattle.world_model.specs.Allowed.{IsRun}
use Rattle.world_model.specs.Session.{Item, Tick, Ask}
use Rattle.world_model.specs.Journal.{line_of}
use Rattle.world_model.proofs.RunParts.{front_runs, next_allowed}
use Rattle.world_model.proofs.HeldIsOccupied.{journal_holds}
use Rattle.program_trees.specs.ProgramTree.{CheckedTree}
use Rattle.source_meaning.specs.OpenRegions.{open_by, open_behind, region_asked, IsOpenThere, AsksInside}
use Rattle.source_meaning.specs.Talk.{talk}
use Rattle.run_laws.proofs.Regions.{stands_at, asked, regions_on}
use Rattle.run_laws.proofs.Holding.{active_held, journal_stands}
use Rattle.run_laws.proofs.OpenRegions.{asks_in}
use Rattle.run_laws.proofs.HeldRegions.{line_asks}
use Rattle.region_laws.specs.Laws.{AsksInsideLaw, TextRegionsLaw, IsOccupiedBy, RegionLocationsLaw}
use Rattle.region_laws.proofs.Traces.{EntersShut, AsksWell}
use Rattle.region_laws.proofs.Bodies.{asks_well}
use Rattle.region_laws.proofs.Following.{IsBorn, active_born, line_suits, event_suits, all_born, front_born}

asks_inside : (p : CheckedTree) (now : List ℕ) (items : List Item) → AsksWell p now items → AsksInside p now items
asks_inside p now [] well = tt
asks_inside p now (Tick ∷ items) well = asks_inside p now items well
asks_inside p now (Ask request ∷ items) well = (well.0.inside, asks_inside p (open_by request now) items well.1)

pub asks_inside_law : AsksInsideLaw
asks_inside_law p instance process body arguments answers n typed is starts = asks_inside p [] (talk p instance process arguments answers n).trace (asks_well p instance process body arguments answers n typed is starts)

-- a region that is entered isn't open, so it is held once
told_by : (request : Request) (now : List ℕ) → EntersShut request now → open_by request now ≡ asked now request
told_by (Enter r) now shut = rw shut refl
told_by (Leave r) now shut = refl
told_by (End how) now shut = refl
told_by request now shut = refl

told_behind : (p : CheckedTree) (now : List ℕ) (items : List Item) → AsksWell p now items → open_behind now items ≡ regions_on (asks_in items) now
told_behind p now [] well = refl
told_behind p now (Tick ∷ items) well = told_behind p now items well
told_behind p now (Ask request ∷ items) well = told_behind p (open_by request now) items well.1 ∙ ap (regions_on (asks_in items)) (told_by request now well.0.enters)

-- an active process whose line suits its regions holds those that are open behind it
held_open : (p : CheckedTree) (facts : Facts) (events : List Event) (who : ℕ) → IsRun facts events → IsActive (world_of facts events) who → AsksWell p [] (line_of who events) → held_by (world_of facts events) who ≡ open_behind [] (line_of who events)
held_open p facts events who run active well =
    let held = active_held (world_of facts events) who _ _ _ active (journal_stands facts events who run) in
    held.0 ∙ (ap (λ (rs : List Request). regions_on rs []) (sym (line_asks who events)) ∙ sym (told_behind p [] (line_of who events) well))

pub text_regions_law : TextRegionsLaw
text_regions_law p facts events instance typed run active =
    let born = active_born p facts events [] instance typed run.run (all_born p facts events typed run) active in
    let here : IsBorn p events instance = subst (λ (l : List Event). IsBorn p l instance) (append-nil events) born in
    held_open p facts events instance run.run active (line_suits p facts events instance typed run here)

occupied : (p : CheckedTree) (facts : Facts) (before : List Event) (who : ℕ) (o : Option ℕ) → IsRun facts before → held_by (world_of facts before) who ≡ open_behind [] (line_of who before) → IsOpenThere o (open_behind [] (line_of who before)) → IsOccupiedBy (world_of facts before) who o
occupied p facts before who None run held is = tt
occupied p facts before who (Some r) run held is =
    (journal_holds facts before run).occupied who r (stands_at (held_by (world_of facts before) who) r (subst (λ (l : List ℕ). IsOpenThere (Some r) l) (sym held) is))

pub region_locations_law : RegionLocationsLaw
region_locations_law p facts before (Did who ticks request answer refill) behind typed run =
    let event : Event = Did who ticks request answer refill in
    let front = front_runs facts (opening facts) before (event ∷ behind) run.run in
    let active = (next_allowed facts before event behind run.run).possible.0.active in
    let suits = event_suits p facts before who ticks request answer refill behind typed (front_born p facts before (event ∷ behind) typed run) run in
    occupied p facts before who (region_asked p request) front (held_open p facts before who front active suits.front) suits.asks.inside
region_locations_law p facts before (Waits who ticks request) behind typed run = tt
region_locations_law p facts before (Goes who answer) behind typed run = tt
region_locations_law p facts before (Runs who ticks) behind typed run = tt
