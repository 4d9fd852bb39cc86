-- The queues of the regions.
use Rattle.std.proofs.Common.{◌≡◌, ◌⊎◌, ℕ, zero, suc, true, false, eq-eqb, ◌+◌, ◌<◌, ◌≤◌, List, [], ◌∷◌, ◌++◌, length, map, replicate, Option, refl, sym, ap, ◌∙◌, subst, inl, inr, arith, Some, None, slice_get, slice_set, length-set}
use Rattle.std.specs.Prelude.{◌==◌, vec_len, vec_capacity}
use Rattle.std.specs.List.{remove}
use Rattle.std.proofs.lemmas.Bool.{cases_Bool, cases_eq, eqb-true}
use Rattle.std.proofs.lemmas.List.{length-map, length-replicate, map-set}
use Rattle.std.proofs.lemmas.Option.{same_Some, slice_get_within}
use Rattle.world_model.proofs.ChangedLists.{written_or_old, written_here, written_elsewhere, pushed_or_old}
use Rattle.kernel_lists.specs.Once.{AreOnce, entry_of, others}
use Rattle.kernel_lists.proofs.Entries.{entry_gone, entry_kept, once_push, once_remove, once_others}
use Rattle.region_kernel.specs.Regions.{AreAlone, AreFit, AreQueued, Changes, Queue, WaitsNowhere, itself, items_of, queue_but, queue_of}

abbrev pub IsFit : ℕ → Queue → Type 0
IsFit room q = vec_len q + room ≤ vec_capacity q

-- one queue is changed
pub fit_set : (room : ℕ) (queues : List Queue) (region : ℕ) (new : Queue) → IsFit room new → AreFit room queues → AreFit room (slice_set queues region new)
fit_set room queues region new fit h k q at = elim (written_or_old queues region k new q at) [
  | inl here ↦ (let e : q ≡ new = here.1 in rw e fit)
  | inr old ↦ h k q old
]

-- one more queue has the room
pub fit_more : (n : ℕ) (queues : List Queue) (region : ℕ) (old new : Queue) → slice_get queues region ≡ Some old → IsFit n new → ((k : ℕ) (q : Queue) → k < region → slice_get queues k ≡ Some q → IsFit n q)
    → (k : ℕ) (q : Queue) → k < region + 1 → slice_get (slice_set queues region new) k ≡ Some q → IsFit n q
fit_more n queues region old new there fit before k q low at = elim (cases_eq k region) [
  | inl same ↦ (let e : new ≡ q = same_Some new q (sym (written_here queues region new old there) ∙ subst (λ (j : ℕ). slice_get (slice_set queues region new) j ≡ Some q) same at) in rw (← e) fit)
  | inr apart ↦ before k q (omega (arith, low, apart)) (sym (written_elsewhere queues region k new apart) ∙ at)
]

-- one more queue
pub fit_push : (room : ℕ) (queues : List Queue) (new : Queue) → IsFit room new → AreFit room queues → AreFit room (queues ++ new ∷ [])
fit_push room queues new fit h k q at = elim (pushed_or_old queues k new q at) [
  | inl last ↦ (let e : q ≡ new = last.1 in rw e fit)
  | inr old ↦ h k q old
]

-- empty queues
empty_at : (n k : ℕ) (queue : List ℕ) → slice_get (replicate n []) k ≡ Some queue → queue ≡ []
empty_at zero k queue at = absurd (let f : ⊥ = cc in f)
empty_at (suc n) zero queue at = let e : Some [] ≡ Some queue = at in sym (same_Some [] queue e)
empty_at (suc n) (suc k) queue at = empty_at n k queue at

empty_queue : (n region : ℕ) → queue_of (replicate n []) region ≡ []
empty_queue zero region = refl
empty_queue (suc n) zero = refl
empty_queue (suc n) (suc region) = empty_queue n region

nobody_there : (n region who : ℕ) → entry_of itself (queue_of (replicate n []) region) who ≡ Some who → ⊥
nobody_there n region who is = let none : entry_of itself (queue_of (replicate n []) region) who ≡ None = ap (λ (q : List ℕ). entry_of itself q who) (empty_queue n region) in let f : ⊥ = cc in f

pub all_empty : (n : ℕ) → AreQueued (replicate n None) (replicate n [])
all_empty n = record { each = length-replicate n [] ∙ sym (length-replicate n None); once = λ region queue at. rw (empty_at n region queue at) tt; alone = λ region other who is other_is. absurd (nobody_there n region who is) }

-- one queue is changed, and the occupants stay as many
pub queued_set : (occupants occupants' : List (Option ℕ)) (queues : List (List ℕ)) (region : ℕ) (new : List ℕ) → length occupants' ≡ length occupants → AreOnce itself new → AreAlone (slice_set queues region new) → AreQueued occupants queues → AreQueued occupants' (slice_set queues region new)
queued_set occupants occupants' queues region new same once alone h = record {
  each = length-set queues region new ∙ h.each ∙ sym same;
  once = λ k queue at. elim (written_or_old queues region k new queue at) [
    | inl here ↦ (let e : queue ≡ new = here.1 in rw e once)
    | inr old ↦ h.once k queue old
  ];
  alone = alone;
}

queue_none : (queues : List (List ℕ)) (region : ℕ) → slice_get queues region ≡ None → queue_of queues region ≡ []
queue_none [] region is = refl
queue_none (q ∷ queues) zero is = absurd (let f : ⊥ = cc in f)
queue_none (q ∷ queues) (suc region) is = queue_none queues region is

pub queue_some : (queues : List (List ℕ)) (region : ℕ) (queue : List ℕ) → slice_get queues region ≡ Some queue → queue_of queues region ≡ queue
queue_some [] region queue is = absurd (let f : ⊥ = cc in f)
queue_some (q ∷ queues) zero queue is = same_Some q queue is
queue_some (q ∷ queues) (suc region) queue is = queue_some queues region queue is

once_by : (found : Option (List ℕ)) (queues : List (List ℕ)) (region : ℕ) → slice_get queues region ≡ found → ((queue : List ℕ) → slice_get queues region ≡ Some queue → AreOnce itself queue) → AreOnce itself (queue_of queues region)
once_by None queues region is once = rw (queue_none queues region is) tt
once_by (Some queue) queues region is once = rw (queue_some queues region queue is) (once queue is)

pub once_at : (occupants : List (Option ℕ)) (queues : List (List ℕ)) (region : ℕ) → AreQueued occupants queues → AreOnce itself (queue_of queues region)
once_at occupants queues region h = once_by (slice_get queues region) queues region refl (h.once region)

read_here : (queues : List (List ℕ)) (region : ℕ) (new : List ℕ) → region < length queues → queue_of (slice_set queues region new) region ≡ new
read_here [] region new low = absurd (omega arith)
read_here (q ∷ queues) zero new low = refl
read_here (q ∷ queues) (suc region) new low = read_here queues region new (omega arith)

read_elsewhere : (queues : List (List ℕ)) (region r : ℕ) (new : List ℕ) → (r ≡ region → ⊥) → queue_of (slice_set queues region new) r ≡ queue_of queues r
read_elsewhere [] region r new apart = refl
read_elsewhere (q ∷ queues) zero zero new apart = absurd (apart refl)
read_elsewhere (q ∷ queues) zero (suc r) new apart = refl
read_elsewhere (q ∷ queues) (suc region) zero new apart = refl
read_elsewhere (q ∷ queues) (suc region) (suc r) new apart = read_elsewhere queues region r new (λ e. apart (ap suc e))

pub changes : (queues : List (List ℕ)) (region : ℕ) (new : List ℕ) → region < length queues → Changes region new queues (slice_set queues region new)
changes queues region new low = record { each = length-set queues region new; here = read_here queues region new low; elsewhere = λ r apart. read_elsewhere queues region r new apart }

not_same : (region r : ℕ) → (region == r) ≡ false → r ≡ region → ⊥
not_same region r apart same = let t : (region == r) ≡ true = eq-eqb region r (sym same) in let f : ⊥ = cc in f

-- one that stands in a queue with one more at the end stood there, or is that one
pushed_entry : (queue : List ℕ) (who p : ℕ) → entry_of itself (queue ++ who ∷ []) p ≡ Some p → (entry_of itself queue p ≡ Some p) ⊎ (p ≡ who)
pushed_entry [] who p is = elim (cases_Bool (who == p)) [
  | inl here ↦ inr (sym (eqb-true who p here))
  | inr apart ↦ absurd (let none : None ≡ Some p = rw apart at is in let f : ⊥ = cc in f)
]
pushed_entry (x ∷ queue) who p is = elim (cases_Bool (x == p)) [
  | inl here ↦ inl (rw here (rw here at is))
  | inr apart ↦ elim (pushed_entry queue who p (rw apart at is)) [
    | inl old ↦ inl (rw apart old)
    | inr new ↦ inr new
  ]
]

joined_before : (queues queues' : List (List ℕ)) (region who r p : ℕ) → Changes region (queue_of queues region ++ who ∷ []) queues queues' → entry_of itself (queue_of queues' r) p ≡ Some p → (entry_of itself (queue_of queues r) p ≡ Some p) ⊎ ((r ≡ region) × (p ≡ who))
joined_before queues queues' region who r p c is = elim (cases_Bool (region == r)) [
  | inl here ↦ (let own : region ≡ r = eqb-true region r here in
      let now : queue_of queues' r ≡ queue_of queues r ++ who ∷ [] = subst (λ (n : ℕ). queue_of queues' n ≡ queue_of queues n ++ who ∷ []) own c.here in
      elim (pushed_entry (queue_of queues r) who p (ap (λ (q : List ℕ). entry_of itself q p) (sym now) ∙ is)) [
        | inl old ↦ inl old
        | inr new ↦ inr (sym own, new)
      ])
  | inr apart ↦ inl (ap (λ (q : List ℕ). entry_of itself q p) (sym (c.elsewhere r (not_same region r apart))) ∙ is)
]

not_there : (queues : List (List ℕ)) (who r p : ℕ) → WaitsNowhere queues who → entry_of itself (queue_of queues r) p ≡ Some p → p ≡ who → ⊥
not_there queues who r p nowhere is same = let none : entry_of itself (queue_of queues r) p ≡ None = ap (entry_of itself (queue_of queues r)) same ∙ nowhere r in let f : ⊥ = cc in f

pub alone_with : (queues queues' : List (List ℕ)) (region who : ℕ) → Changes region (queue_of queues region ++ who ∷ []) queues queues' → WaitsNowhere queues who → AreAlone queues → AreAlone queues'
alone_with queues queues' region who c nowhere h r other p is is' = elim (joined_before queues queues' region who r p c is) [
  | inl old ↦ elim (joined_before queues queues' region who other p c is') [
    | inl old' ↦ h r other p old old'
    | inr new' ↦ absurd (not_there queues who r p nowhere old new'.1)
  ]
  | inr new ↦ elim (joined_before queues queues' region who other p c is') [
    | inl old' ↦ absurd (not_there queues who other p nowhere old' new.1)
    | inr new' ↦ new.0 ∙ sym new'.0
  ]
]

left_before : (queue : List ℕ) (who p : ℕ) → entry_of itself (others itself queue who) p ≡ Some p → entry_of itself queue p ≡ Some p
left_before queue who p is = elim (cases_Bool (who == p)) [
  | inl here ↦ absurd (let own : who ≡ p = eqb-true who p here in let none : entry_of itself (others itself queue who) p ≡ None = ap (entry_of itself (others itself queue who)) (sym own) ∙ entry_gone itself queue who in let f : ⊥ = cc in f)
  | inr apart ↦ sym (entry_kept itself queue who p apart) ∙ is
]

but_before : (queue : List ℕ) (next : Option ℕ) (p : ℕ) → entry_of itself (queue_but queue next) p ≡ Some p → entry_of itself queue p ≡ Some p
but_before queue None p is = is
but_before queue (Some who) p is = left_before queue who p is

stood_before : (queues queues' : List (List ℕ)) (region r p : ℕ) (next : Option ℕ) → Changes region (queue_but (queue_of queues region) next) queues queues' → entry_of itself (queue_of queues' r) p ≡ Some p → entry_of itself (queue_of queues r) p ≡ Some p
stood_before queues queues' region r p next c is = elim (cases_Bool (region == r)) [
  | inl here ↦ (let own : region ≡ r = eqb-true region r here in
      let now : queue_of queues' r ≡ queue_but (queue_of queues r) next = subst (λ (n : ℕ). queue_of queues' n ≡ queue_but (queue_of queues n) next) own c.here in
      but_before (queue_of queues r) next p (ap (λ (q : List ℕ). entry_of itself q p) (sym now) ∙ is))
  | inr apart ↦ ap (λ (q : List ℕ). entry_of itself q p) (sym (c.elsewhere r (not_same region r apart))) ∙ is
]

pub alone_but : (queues queues' : List (List ℕ)) (region : ℕ) (next : Option ℕ) → Changes region (queue_but (queue_of queues region) next) queues queues' → AreAlone queues → AreAlone queues'
alone_but queues queues' region next c h r other p is is' = h r other p (stood_before queues queues' region r p next c is) (stood_before queues queues' region other p next c is')

-- the first is taken out
pub first_out : (queue : List ℕ) (who : ℕ) → AreOnce itself queue → slice_get queue 0 ≡ Some who → remove queue 0 ≡ queue_but queue (Some who)
first_out queue who once at = once_remove itself queue 0 who once at

pub once_but : (queue : List ℕ) (who : ℕ) → AreOnce itself queue → AreOnce itself (queue_but queue (Some who))
once_but queue who once = once_others itself queue who once

pub once_with : (queue : List ℕ) (who : ℕ) → AreOnce itself queue → entry_of itself queue who ≡ None → AreOnce itself (queue ++ who ∷ [])
once_with queue who once none = once_push itself queue who once none

-- one queue, as a vector, is another from now on
pub queue_at : (queues : List Queue) (region : ℕ) (old : Queue) → slice_get queues region ≡ Some old → queue_of (map items_of queues) region ≡ old.items
queue_at [] region old at = absurd (let f : ⊥ = cc in f)
queue_at (q ∷ queues) zero old at = ap items_of (same_Some q old at)
queue_at (q ∷ queues) (suc region) old at = queue_at queues region old at

in_queues : (queues : List Queue) (region : ℕ) (old : Queue) → slice_get queues region ≡ Some old → region < length (map items_of queues)
in_queues queues region old at = let low = slice_get_within queues region old at in let each = length-map queues items_of in omega (arith, low, each)

pub changed : (queues : List Queue) (region : ℕ) (old new : Queue) (queue : List ℕ) → slice_get queues region ≡ Some old → new.items ≡ queue → Changes region queue (map items_of queues) (map items_of (slice_set queues region new))
changed queues region old new queue at is = subst (λ (qs : List (List ℕ)). Changes region queue (map items_of queues) qs) (sym (map-set items_of queues region new ∙ ap (λ (q : List ℕ). slice_set (map items_of queues) region q) is)) (changes (map items_of queues) region queue (in_queues queues region old at))

set_queued : (occupants occupants' : List (Option ℕ)) (queues : List Queue) (region : ℕ) (new : Queue) → length occupants' ≡ length occupants → AreOnce itself new.items → AreAlone (map items_of (slice_set queues region new)) → AreQueued occupants (map items_of queues) → AreQueued occupants' (map items_of (slice_set queues region new))
set_queued occupants occupants' queues region new same once alone h =
    let e : map items_of (slice_set queues region new) ≡ slice_set (map items_of queues) region new.items = map-set items_of queues region new in
    subst (λ (qs : List (List ℕ)). AreQueued occupants' qs) (sym e) (queued_set occupants occupants' (map items_of queues) region new.items same once (subst (λ (qs : List (List ℕ)). AreAlone qs) e alone) h)

pub queued_with : (occupants : List (Option ℕ)) (queues : List Queue) (region who : ℕ) (old new : Queue) → slice_get queues region ≡ Some old → new.items ≡ old.items ++ who ∷ [] → WaitsNowhere (map items_of queues) who → AreQueued occupants (map items_of queues) → AreQueued occupants (map items_of (slice_set queues region new))
queued_with occupants queues region who old new at is nowhere h =
    let stood : queue_of (map items_of queues) region ≡ old.items = queue_at queues region old at in
    let now : new.items ≡ queue_of (map items_of queues) region ++ who ∷ [] = is ∙ ap (λ (q : List ℕ). q ++ who ∷ []) (sym stood) in
    let once : AreOnce itself new.items = rw now (once_with (queue_of (map items_of queues) region) who (once_at occupants (map items_of queues) region h) (nowhere region)) in
    set_queued occupants occupants queues region new refl once (alone_with (map items_of queues) (map items_of (slice_set queues region new)) region who (changed queues region old new (queue_of (map items_of queues) region ++ who ∷ []) at now) nowhere h.alone) h

pub queued_but : (occupants occupants' : List (Option ℕ)) (queues : List Queue) (region : ℕ) (next : Option ℕ) (old new : Queue) → length occupants' ≡ length occupants → slice_get queues region ≡ Some old → new.items ≡ queue_but old.items next → AreOnce itself new.items
    → AreQueued occupants (map items_of queues) → AreQueued occupants' (map items_of (slice_set queues region new))
queued_but occupants occupants' queues region next old new same at is once h =
    let stood : queue_of (map items_of queues) region ≡ old.items = queue_at queues region old at in
    let now : new.items ≡ queue_but (queue_of (map items_of queues) region) next = is ∙ ap (λ (q : List ℕ). queue_but q next) (sym stood) in
    set_queued occupants occupants' queues region new same once (alone_but (map items_of queues) (map items_of (slice_set queues region new)) region next (changed queues region old new (queue_but (queue_of (map items_of queues) region) next) at now) h.alone) h

pub once_in : (occupants : List (Option ℕ)) (queues : List Queue) (region : ℕ) (old : Queue) → slice_get queues region ≡ Some old → AreQueued occupants (map items_of queues) → AreOnce itself old.items
once_in occupants queues region old at h = subst (λ (q : List ℕ). AreOnce itself q) (queue_at queues region old at) (once_at occupants (map items_of queues) region h)
