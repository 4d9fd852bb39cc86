use Rattle.std.proofs.Common.{ℕ, rules, refl, ap, sym, ◌∙◌, ◌≡◌, ◌<◌, length}
use Rattle.std.specs.Prelude.{is_some, true, false, slice_get, slice_set, Some, None, List}
use Rattle.std.specs.declared.option.Option.{Option}
use Rattle.world_model.specs.declared.world.Phase.TheVariants.{Waiting}
use Rattle.region_kernel.specs.Regions.{SeenRegions, occupant_of, occupants_locked, locks_locked}
use Rattle.kernel_steps.specs.declared.seats.Copies.{Copies}
use Rattle.kernel_steps.proofs.Placed.{some_instance}
use Rattle.kernel_steps.proofs.Steps.{occupied_by, free_where, none_where, in_table, in_fetched, chosen_goes_back}
use Rattle.kernel_steps.proofs.seats.choose_back.Goals as goal

pub suspend-requires-clause-seated : goal.suspend-requires-clause-seated
suspend-requires-clause-seated c =
    let r = c.requires.seated in
    let there : is_some c.occupant.result ≡ true = search rules in
    let found = occupied_by c.args.seats.now.regions.occupants c.args.region c.occupant.result c.occupant.ensures there in
    let some = some_instance r.0 c.args.seats.now c.args.who (Waiting r.1 r.2 (Some c.args.region)) r.3.placed r.4 (λ e. let f : ⊥ = cc in f) in
    (r.0, Waiting r.1 r.2 (Some c.args.region), found.0, r.3, r.4, refl, ap (λ (l : List (Option ℕ)). slice_get l c.args.region) (sym r.3.placed.occupants) ∙ found.1, some)

pub returns-then-is_some-clause-settles : goal.returns-then-is_some-clause-settles
returns-then-is_some-clause-settles c = λ w request send h at e.
    let there : is_some c.occupant.result ≡ true = search rules in
    let found = occupied_by c.args.seats.now.regions.occupants c.args.region c.occupant.result c.occupant.ensures there in
    let some = some_instance w c.args.seats.now c.args.who (Waiting request send (Some c.args.region)) h.placed at (λ e. let f : ⊥ = cc in f) in
    c.suspend.ensures.seated w (Waiting request send (Some c.args.region)) found.0 h at refl (ap (λ (l : List (Option ℕ)). slice_get l c.args.region) (sym h.placed.occupants) ∙ found.1) some e

pub go-requires-clause-made : goal.go-requires-clause-made
go-requires-clause-made c = let r = c.requires.seated in in_table r.0 c.args.seats.now c.args.who _ r.3.placed r.4

pub go-requires-clause-fetch : goal.go-requires-clause-fetch
go-requires-clause-fetch c = let r = c.requires.seated in in_fetched r.0 c.args.seats.now c.args.who _ r.3.placed r.4

pub returns-clause-settles : goal.returns-clause-settles
returns-clause-settles c = λ w request send h at e.
    let s = c.args.seats.now in
    let no : is_some c.occupant.result ≡ false = search rules in
    let low : c.args.region < length s.regions.occupants = rw h.placed.occupants (h.placed.there c.args.who request send c.args.region at) in
    let free = free_where s.regions.occupants c.args.region c.occupant.result low c.occupant.ensures no in
    let none : occupant_of s.regions c.args.region ≡ None = none_where s.regions.occupants c.args.region c.occupant.result c.occupant.ensures no in
    let handed : c.args.copies.handed ≡ c.args.copies.noted = ap (λ (x : Copies). x.handed) e in
    chosen_goes_back w s c.go.new.seats c.args.who c.args.region request send c.args.copies.noted c.go.result at (ap (λ (l : List (Option ℕ)). slice_get l c.args.region) (sym h.placed.occupants) ∙ free) c.go.ensures.who c.go.ensures.answer
    (record {
      processes = c.go.ensures.processes;
      phases = c.go.ensures.phases;
      backs = ap (λ v. v.items) c.go.ensures.backs;
      chosen = λ q apart. ap (λ v. slice_get v.items q) c.go.ensures.chosen;
      answer_each = ap (λ v. length v.items) c.go.ensures.chosen;
      unfetched = c.go.ensures.unfetched ∙ ap (λ a. slice_set s.unfetched.items c.args.who (Some a)) handed;
    })
    (ap (λ (x : SeenRegions). x.occupants) c.go.ensures.regions ∙ c.lock-locked.ensures.occupants ∙ ap (occupants_locked s.regions.occupants c.args.region c.args.who) none)
    (ap (λ (x : SeenRegions). x.locks) c.go.ensures.regions ∙ c.lock-locked.ensures.locks ∙ ap (locks_locked s.regions.locks c.args.region c.args.who) none)
    (ap (λ (x : SeenRegions). x.queues) c.go.ensures.regions ∙ c.lock-locked.ensures.queues)
    h
