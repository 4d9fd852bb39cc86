-- Queues that have room, one after another.
use Rattle.std.proofs.Common.{◌≡◌, ℕ, zero, suc, ◌+◌, ◌<◌, ◌≤◌, List, [], replicate, sym, ◌∙◌, subst, inl, inr, arith, Some, slice_get, slice_set}
use Rattle.std.proofs.lemmas.Bool.{cases_eq}
use Rattle.std.proofs.lemmas.Option.{same_Some}
use Rattle.world_model.proofs.ChangedLists.{written_or_old, written_here, written_elsewhere}
use Rattle.wait_queues.specs.declared.waiters.Waiter.{Waiter}
use Rattle.wait_queues.specs.Waiting.{AreOrdered, HaveRoom, SeenWaiters}

-- one queue is changed
pub fit_set : (room : ℕ) (queues : List SeenWaiters) (place : ℕ) (new : SeenWaiters) → room ≤ new.room → HaveRoom room queues → HaveRoom room (slice_set queues place new)
fit_set room queues place new fit h k q at = elim (written_or_old queues place k new q at) [
  | inl here ↦ (let e : q ≡ new = here.1 in rw e fit)
  | inr old ↦ h k q old
]

-- one more queue has the room
pub fit_more : (n : ℕ) (queues : List SeenWaiters) (place : ℕ) (old new : SeenWaiters) → slice_get queues place ≡ Some old → n ≤ new.room → ((k : ℕ) (q : SeenWaiters) → k < place → slice_get queues k ≡ Some q → n ≤ q.room)
    → (k : ℕ) (q : SeenWaiters) → k < place + 1 → slice_get (slice_set queues place new) k ≡ Some q → n ≤ q.room
fit_more n queues place old new there fit before k q low at = elim (cases_eq k place) [
  | inl same ↦ (let e : new ≡ q = same_Some new q (sym (written_here queues place new old there) ∙ subst (λ (j : ℕ). slice_get (slice_set queues place new) j ≡ Some q) same at) in rw (← e) fit)
  | inr apart ↦ before k q (omega (arith, low, apart)) (sym (written_elsewhere queues place k new apart) ∙ at)
]

-- empty queues are in order
pub empty_at : (n k : ℕ) (ws : List Waiter) → slice_get (replicate n []) k ≡ Some ws → ws ≡ []
empty_at zero k ws at = absurd (let f : ⊥ = cc in f)
empty_at (suc n) zero ws at = let e : Some [] ≡ Some ws = at in sym (same_Some [] ws e)
empty_at (suc n) (suc k) ws at = empty_at n k ws at

pub empty_ordered : (n : ℕ) → AreOrdered (replicate n [])
empty_ordered n place ws at = rw (empty_at n place ws at) (tt, tt)
