-- When a run is over, by the counts of those that are live and active.
use Rattle.std.proofs.Common.{◌≡◌, ◌≢◌, ℕ, suc, ◌+◌, ◌≤◌, ◌<◌, true, false, not, List, [], ◌∷◌, map, refl, ap, ◌∙◌, inl, inr, arith, Option, Some, None, slice_get}
use Rattle.std.specs.Prelude.{slice_index_or, is_none, nat_le}
use Rattle.std.specs.List.{count_by, list_all}
use Rattle.std.proofs.lemmas.Bool.{cases_Bool}
use Rattle.kernel_base.specs.declared.ends.Over.TheVariants.{AllEnded, Still}
use Rattle.kernel_base.specs.declared.answer.Answer.{Answer}
use Rattle.world_model.specs.declared.world.Phase.{Phase}
use Rattle.world_model.specs.declared.world.Phase.TheVariants.{Active, Waiting, Chosen, Ended}
use Rattle.world_model.specs.declared.world.World.{World}
use Rattle.world_model.specs.Over.{is_ended, may_lock_back, is_stuck, end_in, over_of}
use Rattle.world_model.specs.World.{world_of}
use Rattle.std.proofs.lemmas.Bool.Decides.{nat_tests}
use Rattle.kernel_base.specs.declared.facts.Facts.{Facts}
use Rattle.kernel_base.specs.declared.event.Event.{Event}
use Rattle.kernel_base.specs.Units.{units_of_all}
use Rattle.journal_book.specs.Book.{units_up_to}
use Rattle.world_model.specs.Allowed.{IsFree, MayLockBack}
use Rattle.world_model.proofs.ChangedLists.{stands_there}
use Rattle.world_model.specs.Waiting as waits
use Rattle.instance_table.specs.Phase.{is_live_in, is_active_in}
use Rattle.kernel_steps.specs.Seated.{kind_of, IsIdle}
use Rattle.kernel_steps.proofs.Queued.{one_if, count_cons}

live_not_ended : (phase : Phase) → is_live_in (kind_of phase) ≡ not (is_ended phase)
live_not_ended Active = refl
live_not_ended (Waiting request send back) = refl
live_not_ended (Chosen answer back) = refl
live_not_ended (Ended how) = refl

live_same : (phase : Phase) → is_live_in (kind_of phase) ≡ waits.is_live_in phase
live_same Active = refl
live_same (Waiting request send back) = refl
live_same (Chosen answer back) = refl
live_same (Ended how) = refl

-- as many are live in the table as in the world
pub live_as_many : (phases : List Phase) → count_by is_live_in (map kind_of phases) ≡ count_by waits.is_live_in phases
live_as_many [] = refl
live_as_many (phase ∷ phases) = let h = count_cons is_live_in (kind_of phase) (map kind_of phases) in let g = count_cons waits.is_live_in phase phases in let one : one_if (is_live_in (kind_of phase)) ≡ one_if (waits.is_live_in phase) = ap one_if (live_same phase) in let rest = live_as_many phases in omega (arith, h, g, one, rest)

-- nobody is live where everybody has ended
pub ended_all : (phases : List Phase) → count_by is_live_in (map kind_of phases) ≡ 0 → list_all is_ended phases ≡ true
ended_all [] none = refl
ended_all (phase ∷ phases) none = elim (cases_Bool (is_ended phase)) [
  | inl is ↦ (let rest : count_by is_live_in (map kind_of phases) ≡ 0 = let h = count_cons is_live_in (kind_of phase) (map kind_of phases) in omega (arith, h, none) in rw (is, ended_all phases rest) refl)
  | inr is ↦ absurd (let one : one_if (is_live_in (kind_of phase)) ≡ 1 = ap one_if (live_not_ended phase ∙ ap not is) in let h = count_cons is_live_in (kind_of phase) (map kind_of phases) in omega (arith, h, one, none))
]

pub ended_not_all : (phases : List Phase) → count_by is_live_in (map kind_of phases) ≢ 0 → list_all is_ended phases ≡ false
ended_not_all [] some = absurd (some refl)
ended_not_all (phase ∷ phases) some = elim (cases_Bool (is_ended phase)) [
  | inl is ↦ (let none : one_if (is_live_in (kind_of phase)) ≡ 0 = ap one_if (live_not_ended phase ∙ ap not is) in
      let rest : count_by is_live_in (map kind_of phases) ≢ 0 = λ e. some (let h = count_cons is_live_in (kind_of phase) (map kind_of phases) in omega (arith, h, none, e)) in
      rw (is, ended_not_all phases rest) refl)
  | inr is ↦ rw is refl
]

free_by : (w : World) (region : ℕ) (found : Option ℕ) → slice_index_or w.occupants region (Some 0) ≡ found → is_none found ≡ true → IsFree w region
free_by w region None is may = stands_there w.occupants region (Some 0) None is (λ e. let f : ⊥ = cc in f)
free_by w region (Some other) is may = absurd (let f : ⊥ = cc in f)

-- where nobody is active, and nobody who was chosen may go on, all are stuck
lock_free : (w : World) (back : Option ℕ) → may_lock_back w back ≡ true → MayLockBack w back
lock_free w None may = tt
lock_free w (Some region) may = free_by w region (slice_index_or w.occupants region (Some 0)) refl may

chosen_stuck : (w : World) (who : ℕ) (answer : Answer) (back : Option ℕ) → IsIdle w → slice_get w.phases who ≡ Some (Chosen answer back) → is_stuck w (Chosen answer back) ≡ true
chosen_stuck w who answer back idle at = elim (cases_Bool (may_lock_back w back)) [
  | inl may ↦ absurd (idle who answer (record { back = back; chosen = at; free = lock_free w back may }))
  | inr may ↦ rw may refl
]

stuck_here : (w : World) (phase : Phase) (n : ℕ) → slice_get w.phases n ≡ Some phase → IsIdle w → one_if (is_active_in (kind_of phase)) ≡ 0 → is_stuck w phase ≡ true
stuck_here w Active n at idle none = absurd (omega (arith, none))
stuck_here w (Waiting request send back) n at idle none = refl
stuck_here w (Chosen answer back) n at idle none = chosen_stuck w n answer back idle at
stuck_here w (Ended how) n at idle none = refl

stuck_from : (w : World) (phases : List Phase) (n : ℕ) → ((k : ℕ) (phase : Phase) → slice_get phases k ≡ Some phase → slice_get w.phases (n + k) ≡ Some phase) → IsIdle w → count_by is_active_in (map kind_of phases) ≡ 0 → list_all (is_stuck w) phases ≡ true
stuck_from w [] n at idle none = refl
stuck_from w (phase ∷ phases) n at idle none =
    let h = count_cons is_active_in (kind_of phase) (map kind_of phases) in
    let rest : count_by is_active_in (map kind_of phases) ≡ 0 = omega (arith, h, none) in
    let here : is_stuck w phase ≡ true = stuck_here w phase n (let e : slice_get w.phases (n + 0) ≡ Some phase = at 0 phase refl in ap (slice_get w.phases) (let a : n ≡ n + 0 = omega arith in a) ∙ e) idle (let a : one_if (is_active_in (kind_of phase)) ≡ 0 = omega (arith, h, none) in a) in
    let behind = stuck_from w phases (n + 1) (λ k p is. ap (slice_get w.phases) (let a : n + 1 + k ≡ n + suc k = omega arith in a) ∙ at (suc k) p is) idle rest in
    rw (here, behind) refl

pub stuck_all : (w : World) → IsIdle w → count_by is_active_in (map kind_of w.phases) ≡ 0 → list_all (is_stuck w) w.phases ≡ true
stuck_all w idle none = stuck_from w w.phases 0 (λ k phase at. ap (slice_get w.phases) (let a : 0 + k ≡ k = omega arith in a) ∙ at) idle none

not_all_by : (w : World) (phase : Phase) (phases : List Phase) → count_by is_active_in (map kind_of (phase ∷ phases)) ≢ 0 → (count_by is_active_in (map kind_of phases) ≢ 0 → list_all (is_stuck w) phases ≡ false) → list_all (is_stuck w) (phase ∷ phases) ≡ false
not_all_by w Active phases some rest = refl
not_all_by w (Waiting request send back) phases some rest = rest (λ e. some (let h = count_cons is_active_in (kind_of (Waiting request send back)) (map kind_of phases) in let none : one_if (is_active_in (kind_of (Waiting request send back))) ≡ 0 = refl in omega (arith, h, none, e)))
not_all_by w (Chosen answer back) phases some rest =
    let behind = rest (λ e. some (let h = count_cons is_active_in (kind_of (Chosen answer back)) (map kind_of phases) in let none : one_if (is_active_in (kind_of (Chosen answer back))) ≡ 0 = refl in omega (arith, h, none, e))) in
    elim (cases_Bool (is_stuck w (Chosen answer back))) [ inl is ↦ rw (is, behind) refl | inr is ↦ rw is refl ]
not_all_by w (Ended how) phases some rest = rest (λ e. some (let h = count_cons is_active_in (kind_of (Ended how)) (map kind_of phases) in let none : one_if (is_active_in (kind_of (Ended how))) ≡ 0 = refl in omega (arith, h, none, e)))

pub stuck_not_all : (w : World) (phases : List Phase) → count_by is_active_in (map kind_of phases) ≢ 0 → list_all (is_stuck w) phases ≡ false
stuck_not_all w [] some = absurd (some refl)
stuck_not_all w (phase ∷ phases) some = not_all_by w phase phases some (stuck_not_all w phases)

-- how a run is over in a world in which nobody may go on, by the two counts
pub over_ended : (w : World) → count_by is_live_in (map kind_of w.phases) ≡ 0 → end_in w ≡ Some AllEnded
over_ended w none = rw (ended_all w.phases none) refl

pub over_still : (w : World) → IsIdle w → count_by is_live_in (map kind_of w.phases) ≢ 0 → count_by is_active_in (map kind_of w.phases) ≡ 0 → end_in w ≡ Some Still
over_still w idle some none = rw (ended_not_all w.phases some, stuck_all w idle none) refl

pub over_not : (w : World) → count_by is_live_in (map kind_of w.phases) ≢ 0 → count_by is_active_in (map kind_of w.phases) ≢ 0 → end_in w ≡ None
over_not w some active = rw (ended_not_all w.phases some, stuck_not_all w w.phases active) refl

-- where the units are below the budget, the end is that of the world
pub not_spent : (facts : Facts) (events : List Event) (units : ℕ) → units ≡ units_up_to events → units < facts.units → facts.units ≤ 10000000 → over_of facts events ≡ end_in (world_of facts events)
not_spent facts events units is below few =
    let low : units_of_all events < facts.units = omega (arith, is, below, few) in
    let test : nat_le facts.units (units_of_all events) ≡ false = grind (arith, nat_tests) in
    rw test refl
