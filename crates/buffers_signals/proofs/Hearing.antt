-- Who of those that wait for a signal may receive it.
use Rattle.std.proofs.Common.{◌≡◌, ℕ, suc, List, [], ◌∷◌, Bool, true, false, refl, sym, ap, ◌∙◌, Some, None, Option, slice_get}
use Rattle.std.specs.Prelude.{if◌then◌else◌, ◌==◌, ◌&&◌}
use Rattle.std.specs.List.{find}
use Rattle.std.specs.Option.{option_map, option_map_or}
use Rattle.std.proofs.lemmas.Bool.{eqb-true}
use Rattle.kernel_lists.specs.Once.{AreOnce, entry_of}
use Rattle.kernel_lists.proofs.Entries.{entry_at}
use Rattle.wait_queues.specs.Waiting.{waiter_of}
use Rattle.buffers_signals.specs.declared.messages.Receiver.{Receiver}
use Rattle.buffers_signals.specs.Lists.{lists, receiver_of}
use Rattle.buffers_signals.specs.Arrivals.{process_in, receivers_at}
use Rattle.buffers_signals.specs.Signals.{is_receiver, may_receive, takes_any, waits_itself}
use Rattle.buffers_signals.proofs.Firsts.{found_there}

-- tests that agree find the same
find_by : {X : Type 0} (x : X) (rest more : Option X) (t s : Bool) → t ≡ s → rest ≡ more → (if t then Some x else rest) ≡ (if s then Some x else more)
find_by {X} x rest more t s same e = ap (λ (b : Bool). if b then Some x else rest) same ∙ ap (λ (o : Option X). if s then Some x else o) e

find_same : {X : Type 0} (p q : X → Bool) (xs : List X) → ((k : ℕ) (x : X) → slice_get xs k ≡ Some x → p x ≡ q x) → find p xs ≡ find q xs
find_same p q [] same = refl
find_same p q (x ∷ xs) same = find_by x (find p xs) (find q xs) (p x) (q x) (same 0 x refl) (find_same p q xs (λ k y at. same (suc k) y at))

own_process : (rs : List Receiver) (k : ℕ) (r : Receiver) → AreOnce receiver_of rs → slice_get rs k ≡ Some r → process_in rs r.who ≡ r.process
own_process rs k r once at = ap (λ (o : Option Receiver). option_map_or (λ x. x.process) o 0) (entry_at receiver_of rs k r once at)

-- who passes first in the queue of the signal came first of all that may receive it
pub first_of_all : (wanted : List (Option ℕ)) (signal : ℕ) (rs : List Receiver) → AreOnce receiver_of rs
    → option_map waiter_of (find (takes_any wanted signal rs) (receivers_at signal rs)) ≡ option_map receiver_of (find (is_receiver wanted signal None) rs)
first_of_all wanted signal rs once =
    found_there signal (λ who. may_receive wanted signal None who (process_in rs who)) rs
    ∙ ap (option_map receiver_of) (find_same (λ r. may_receive wanted signal None r.who (process_in rs r.who) && lists signal r) (is_receiver wanted signal None) rs
    (λ k r at. ap (λ (p : ℕ). may_receive wanted signal None r.who p && lists signal r) (own_process rs k r once at)))

-- nobody else is addressed
passes_by : {X : Type 0} (x : X) (rest : Option X) (t : Bool) → (if t then Some x else rest) ≡ None → (t ≡ false) × (rest ≡ None)
passes_by x rest true e = cc
passes_by x rest false e = (refl, e)

none_both : (signal to : ℕ) (rs : List Receiver) → entry_of receiver_of rs to ≡ None → find (λ r. (r.who == to) && lists signal r) rs ≡ None
none_both signal to [] none = refl
none_both signal to (r ∷ rs) none =
    let here = passes_by r (entry_of receiver_of rs to) (r.who == to) none in
    rw here.0 (none_both signal to rs here.1)

addressed_by : (signal to : ℕ) (r : Receiver) (rs : List Receiver) (t l : Bool) → (r.who == to) ≡ t → lists signal r ≡ l → entry_of receiver_of rs r.who ≡ None → waits_itself rs signal to ≡ find (λ r. (r.who == to) && lists signal r) rs
    → waits_itself (r ∷ rs) signal to ≡ find (λ r. (r.who == to) && lists signal r) (r ∷ rs)
addressed_by signal to r rs true true is listed none rest = rw (is, listed) refl
addressed_by signal to r rs true false is listed none rest =
    let own : r.who ≡ to = eqb-true r.who to is in
    rw (is, listed) (sym (none_both signal to rs (ap (entry_of receiver_of rs) (sym own) ∙ none)))
addressed_by signal to r rs false l is listed none rest = rw is rest

pub addressed : (signal to : ℕ) (rs : List Receiver) → AreOnce receiver_of rs → waits_itself rs signal to ≡ find (λ r. (r.who == to) && lists signal r) rs
addressed signal to [] once = refl
addressed signal to (r ∷ rs) once = addressed_by signal to r rs (r.who == to) (lists signal r) refl refl once.0 (addressed signal to rs once.1)
