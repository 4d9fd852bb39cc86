-- An active process holds the regions that its state has open.
use Rattle.std.proofs.Common.{◌≡◌, ℕ, zero, suc, Bool, true, false, List, [], ◌∷◌, ◌++◌, length, refl, ap, ◌∙◌, subst}
use Rattle.std.specs.Prelude.{if◌then◌else◌, ◌==◌}
use Rattle.kernel_base.specs.declared.request.Request.{Request}
use Rattle.kernel_base.specs.declared.event.Event.{Event}
use Rattle.kernel_base.specs.declared.event.Event.TheVariants.{Did, Waits, Goes, Runs}
use Rattle.world_model.specs.Session.{Item, Ask}
use Rattle.world_model.specs.Journal.{ticks_of, items_by, line_of, requests_by, requests_of, answers_of}
use Rattle.world_model.specs.World.{world_of}
use Rattle.run_laws.specs.Laws.{HeldRegionsLaw}
use Rattle.run_laws.proofs.Regions.{regions_on}
use Rattle.run_laws.proofs.Holding.{active_held, journal_stands}
use Rattle.run_laws.proofs.OpenRegions.{asks_in, asks_in-append, StateAgrees, reached_agrees, settled_regions}

ticks_ask : (count : ℕ) → asks_in (ticks_of count) ≡ []
ticks_ask zero = refl
ticks_ask (suc count) = ticks_ask count

item_asks : (ticks : ℕ) (request : Request) → asks_in (ticks_of ticks ++ Ask request ∷ []) ≡ request ∷ []
item_asks ticks request = asks_in-append (ticks_of ticks) (Ask request ∷ []) ∙ ap (λ (rs : List Request). rs ++ request ∷ []) (ticks_ask ticks)

asks_if : (b : Bool) (items : List Item) (requests : List Request) → asks_in items ≡ requests → asks_in (if b then items else []) ≡ (if b then requests else [])
asks_if true items requests is = is
asks_if false items requests is = refl

no_asks_if : (b : Bool) (items : List Item) → asks_in items ≡ [] → asks_in (if b then items else []) ≡ []
no_asks_if true items none = none
no_asks_if false items none = refl

event_asks : (i : ℕ) (event : Event) → asks_in (items_by i event) ≡ requests_by i event
event_asks i (Did who ticks request answer refill) = asks_if (who == i) (ticks_of ticks ++ Ask request ∷ []) (request ∷ []) (item_asks ticks request)
event_asks i (Waits who ticks request) = asks_if (who == i) (ticks_of ticks ++ Ask request ∷ []) (request ∷ []) (item_asks ticks request)
event_asks i (Goes who answer) = refl
event_asks i (Runs who ticks) = no_asks_if (who == i) (ticks_of ticks) (ticks_ask ticks)

-- the requests of an instance are those of its line
pub line_asks : (i : ℕ) (events : List Event) → asks_in (line_of i events) ≡ requests_of i events
line_asks i [] = refl
line_asks i (event ∷ events) =
    asks_in-append (items_by i event) (line_of i events)
    ∙ (ap (λ (rs : List Request). rs ++ asks_in (line_of i events)) (event_asks i event) ∙ ap (λ (rs : List Request). requests_by i event ++ rs) (line_asks i events))

pub held_regions_law : HeldRegionsLaw
held_regions_law code facts events instance state run stands active =
    let journal = active_held (world_of facts events) instance _ _ _ active (journal_stands facts events instance run) in
    let reached = reached_agrees code instance stands.birth.process stands.birth.arguments (answers_of instance events) (line_of instance events) state stands.reached in
    let same : StateAgrees state (regions_on (requests_of instance events) []) (length (requests_of instance events)) (length (answers_of instance events)) =
    subst (λ (rs : List Request). StateAgrees state (regions_on rs []) (length rs) (length (answers_of instance events))) (line_asks instance events) reached in
    journal.0 ∙ settled_regions state _ _ _ journal.1 same
