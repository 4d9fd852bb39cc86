use Rattle.std.proofs.Common.{ℕ, ap, sym, ◌∙◌, ◌≡◌, length, subst}
use Rattle.std.specs.Prelude.{slice_get, slice_set, Some}
use Rattle.std.specs.declared.option.Option.{Option}
use Rattle.world_model.specs.declared.world.Phase.TheVariants.{Waiting, Chosen}
use Rattle.world_model.specs.World.{with_phase}
use Rattle.kernel_steps.specs.declared.seats.Copies.{Copies}
use Rattle.kernel_steps.specs.Seated.{Settles, GoesOn}
use Rattle.kernel_steps.proofs.Steps.{in_table, in_fetched, back_read, chosen_goes}
use Rattle.kernel_steps.proofs.seats.choose.Goals as goal

pub choose_back-requires-clause-seated : goal.choose_back-requires-clause-seated
choose_back-requires-clause-seated c =
    let r = c.requires.seated in
    let same = back_read r.0 c.args.seats.now c.args.who r.1 r.2 r.3 c.index.result.now r.4.placed r.5 c.index.ensures ∙ c.in-Some.is in
    (r.0, r.1, r.2, r.4, r.5 ∙ ap (λ (b : Option ℕ). Some (Waiting r.1 r.2 b)) same)

pub go-requires-clause-made : goal.go-requires-clause-made
go-requires-clause-made c = let r = c.requires.seated in in_table r.0 c.args.seats.now c.args.who _ r.4.placed r.5

pub go-requires-clause-fetch : goal.go-requires-clause-fetch
go-requires-clause-fetch c = let r = c.requires.seated in in_fetched r.0 c.args.seats.now c.args.who _ r.4.placed r.5

pub returns-in-Some-clause-settles : goal.returns-in-Some-clause-settles
returns-in-Some-clause-settles c = λ w request send back h at e.
    let same = back_read w c.args.seats.now c.args.who request send back c.index.result.now h.placed at c.index.ensures ∙ c.in-Some.is in
    subst (λ (b : Option ℕ). Settles (with_phase w c.args.who (Chosen c.args.copies.noted b)) c.args.seats.now c.choose_back.new.seats c.choose_back.result) (sym same)
    (c.choose_back.ensures.settles w request send h (at ∙ ap (λ (b : Option ℕ). Some (Waiting request send b)) same) e)

pub returns-in-None-clause-settles : goal.returns-in-None-clause-settles
returns-in-None-clause-settles c = λ w request send back h at e.
    let same = back_read w c.args.seats.now c.args.who request send back c.index.result.now h.placed at c.index.ensures ∙ c.in-None.is in
    let handed : c.args.copies.handed ≡ c.args.copies.noted = ap (λ (x : Copies). x.handed) e in
    subst (λ (b : Option ℕ). GoesOn (with_phase w c.args.who (Chosen c.args.copies.noted b)) c.args.seats.now c.go.new.seats c.go.result) (sym same)
    (chosen_goes w c.args.seats.now c.go.new.seats c.args.who request send c.args.copies.noted c.go.result (at ∙ ap (λ (b : Option ℕ). Some (Waiting request send b)) same) c.go.ensures.who c.go.ensures.answer
    (record {
      processes = c.go.ensures.processes;
      phases = c.go.ensures.phases;
      backs = ap (λ v. v.items) c.go.ensures.backs;
      chosen = λ q apart. ap (λ v. slice_get v.items q) c.go.ensures.chosen;
      answer_each = ap (λ v. length v.items) c.go.ensures.chosen;
      unfetched = c.go.ensures.unfetched ∙ ap (λ a. slice_set c.args.seats.now.unfetched.items c.args.who (Some a)) handed;
    }) c.go.ensures.regions h)
