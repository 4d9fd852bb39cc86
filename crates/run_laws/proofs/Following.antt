-- An instance whose line is reached follows the code, and where each does so the journal is a run of the code.
use Rattle.std.proofs.Common.{◌≡◌, ◌<◌, ◌≤◌, ℕ, zero, suc, sym, ap, ◌∙◌, subst, inl, inr, List, length, Option, Some, None, slice_get, arith}
use Rattle.std.proofs.lemmas.Bool.{cases_lt}
use Rattle.std.proofs.lemmas.Option.{slice_get_past}
use Rattle.kernel_base.specs.declared.event.Event.{Event}
use Rattle.world_model.specs.declared.world.World.{World}
use Rattle.world_model.specs.World.{world_of}
use Rattle.code_types.specs.declared.code.Code.{Code}
use Rattle.kernel_base.specs.declared.answer.Answer.{Answer}
use Rattle.world_model.specs.Journal.{line_of, answers_of, Birth, born_of}
use Rattle.code_types.specs.Talk.{CodeTalk}
use Rattle.code_types.specs.Runs.{FollowsCode, ticks_in}
use Rattle.run_laws.specs.Laws.{birth_in, birth_at, Births, CodeRunLaw, FollowsLaw, HasReached, HasTalks}
use Rattle.run_laws.proofs.Retiming.{reached_law}
use Rattle.run_laws.proofs.Births.{births_law}

pub follows_law : FollowsLaw
follows_law code events who birth given behind state has is reaches =
    let n : ℕ = suc (ticks_in (line_of who events)) in
    let talk = has who birth.process birth.arguments (answers_of who events) n in
    record {
      trace = talk.0;
      talks = talk.1;
      begins = reached_law code who birth.process birth.arguments given behind n (line_of who events) talk.0 state reaches (subst (λ (answers : List Answer). CodeTalk code who birth.process birth.arguments answers n talk.0) is talk.1) (omega arith);
    }

-- who was born was made
made : (w : World) (events : List Event) (b : Births w events) (who : ℕ) (birth : Birth) → born_of who events ≡ Some birth → (1 ≤ who) × (who < length w.phases)
made w events b zero birth born = absurd (let none : None ≡ Some birth = sym b.nobody ∙ born in let f : ⊥ = cc in f)
made w events b (suc zero) birth born = let some = b.some in (omega arith, omega (arith, some))
made w events b (suc (suc i)) birth born = elim (cases_lt (suc (suc i)) (length w.phases)) [
  | inl low ↦ (omega arith, low)
  | inr past ↦ (
      let p = b.processes in
      let at : slice_get w.processes (suc (suc i)) ≡ None = slice_get_past w.processes (suc (suc i)) (omega (arith, p, past)) in
      let none : birth_at w (suc (suc i)) ≡ None = ap (λ (o : Option ℕ). birth_in o (slice_get w.arguments (suc (suc i)))) at in
      let both : None ≡ Some birth = sym none ∙ (sym (b.births (suc (suc i)) (omega arith)) ∙ born) in
      absurd (let f : ⊥ = cc in f))
]

follows_reached : (code : Code) (events : List Event) (who : ℕ) (birth : Birth) → HasTalks code → born_of who events ≡ Some birth → HasReached code events who → FollowsCode code events who birth
follows_reached code events who birth has born h =
    let both : Some h.birth ≡ Some birth = sym h.born ∙ born in
    let is : h.birth ≡ birth = cc in
    subst (λ (x : Birth). FollowsCode code events who x) is (follows_law code events who h.birth h.given h.behind h.state has h.answers h.reached)

pub code_run_law : CodeRunLaw
code_run_law code facts events has run each = record {
  run = run;
  follows = λ who birth born.
      let in_world = made (world_of facts events) events (births_law facts events run) who birth born in
      follows_reached code events who birth has born (each who in_world.0 in_world.1);
}
