-- The records under the keys stay as they are, but for the one that is made or whose phase is set.
use Rattle.std.proofs.Common.{◌≡◌, ◌≢◌, ℕ, zero, suc, ◌+◌, ◌-◌, ◌<◌, ◌≤◌, ◌^◌, Bool, true, false, List, [], ◌∷◌, ◌++◌, length, map, get_or, slice_set, slice_get, refl, ap, sym, ◌∙◌, arith, subst, Option, Some, None}
use Rattle.std.specs.Prelude.{count_by}
use Rattle.std.proofs.lemmas.List.{map-set, length-set}
use Rattle.std.proofs.Math.Seq.{map-set_same}
use Rattle.std.proofs.lemmas.Option.{same_Some}
use Rattle.std.proofs.lemmas.List.Sums.{sum_by-set, count_by-le-length, sum_by-append}
use lib.ListN.{length-map}
use Rattle.instance_table.specs.declared.phase.Phase.{Phase}
use Rattle.instance_table.specs.declared.records.Record.{Record}
use Rattle.instance_table.specs.Table.{made_at}
use Rattle.instance_table.specs.Kept.{Slots, under, records_of, process_of, phase_of, processes_of, phases_of, IsNumbered, AreNumbered, one_if}

-- every other key keeps what it had
abbrev pub Others : Slots → Slots → ℕ → Type 0
Others s t key = (other : ℕ) → other ≢ key → under t other ≡ under s other

-- the key of the instance at this place
abbrev pub IsKey : List ℕ → ℕ → ℕ → Type 0
IsKey keys i key = (i < length keys) × (key ≡ get_or keys i key)

pub numbered_at : (s : Slots) (n : ℕ) (keys : List ℕ) (i key : ℕ) → AreNumbered n (records_of s keys) → IsKey keys i key → IsNumbered (under s key) (n + i)
numbered_at s n [] i key a is = absurd (omega arith)
numbered_at s n (k ∷ ks) zero key a is = record { kept = a.0.kept; found = ap (under s) is.1 ∙ a.0.found; number = a.0.number ∙ omega arith }
numbered_at s n (k ∷ ks) (suc i) key a is =
    let r = numbered_at s (n + 1) ks i key a.1 (omega arith, is.1) in
    record { kept = r.kept; found = r.found; number = r.number ∙ omega arith }

-- what is read of a record
pub read_at : {A : Type 0} (f : Option Record → A) (s : Slots) (keys : List ℕ) (i key : ℕ) → IsKey keys i key → slice_get (map f (records_of s keys)) i ≡ Some (f (under s key))
read_at f s [] i key is = absurd (omega arith)
read_at f s (k ∷ ks) zero key is = ap (λ (j : ℕ). Some (f (under s j))) (sym is.1)
read_at f s (k ∷ ks) (suc i) key is = read_at f s ks i key (omega arith, is.1)

pub index_at : {A : Type 0} (f : Option Record → A) (s : Slots) (keys : List ℕ) (i key : ℕ) (d : A) → IsKey keys i key → get_or (map f (records_of s keys)) i d ≡ f (under s key)
index_at f s [] i key d is = absurd (omega arith)
index_at f s (k ∷ ks) zero key d is = ap (λ (j : ℕ). f (under s j)) (sym is.1)
index_at f s (k ∷ ks) (suc i) key d is = index_at f s ks i key d (omega arith, is.1)

-- the list with an item before those of the instances
pub made_is : {A : Type 0} (first : A) (xs : List A) (n : ℕ) → 0 < n → made_at (first ∷ xs) n ≡ slice_get xs (n - 1)
made_is first xs zero p = absurd (omega arith)
made_is first xs (suc n) p = let e : suc n - 1 ≡ n = omega arith in rw e refl

pub set_is : {A : Type 0} (first y : A) (xs : List A) (n : ℕ) → 0 < n → slice_set (first ∷ xs) n y ≡ first ∷ slice_set xs (n - 1) y
set_is first y xs zero p = absurd (omega arith)
set_is first y xs (suc n) p = let e : suc n - 1 ≡ n = omega arith in rw e refl

pub numbered_append : (n : ℕ) (xs : List (Option Record)) (slot : Option Record) → AreNumbered n xs → IsNumbered slot (n + length xs) → AreNumbered n (xs ++ slot ∷ [])
numbered_append n [] slot a e = (record { kept = e.kept; found = e.found; number = e.number ∙ omega arith }, tt)
numbered_append n (x ∷ xs) slot a e = (a.0, numbered_append (n + 1) xs slot a.1 (record { kept = e.kept; found = e.found; number = e.number ∙ omega arith }))

numbered_set : (n : ℕ) (xs : List (Option Record)) (i : ℕ) (slot : Option Record) → AreNumbered n xs → IsNumbered slot (n + i) → AreNumbered n (slice_set xs i slot)
numbered_set n [] i slot a e = tt
numbered_set n (x ∷ xs) zero slot a e = (record { kept = e.kept; found = e.found; number = e.number ∙ omega arith }, a.1)
numbered_set n (x ∷ xs) (suc i) slot a e = (a.0, numbered_set (n + 1) xs i slot a.1 (record { kept = e.kept; found = e.found; number = e.number ∙ omega arith }))

module _ (s t : Slots) (key : ℕ) (o : Others s t key) where
  -- the key was vacant
  pub same_records : (n : ℕ) (keys : List ℕ) → under s key ≡ None → AreNumbered n (records_of s keys) → records_of t keys ≡ records_of s keys
  same_records n [] vacant a = refl
  same_records n (k ∷ ks) vacant a =
      let apart : k ≢ key = λ q. let e : under s k ≡ under s key = ap (under s) q in cc (a.0.found) in
      cc (o k apart, same_records (n + 1) ks vacant a.1)

  -- the key has a record with a lower number
  apart_records : (n : ℕ) (keys : List ℕ) (r : Record) → under s key ≡ Some r → r.number < n → AreNumbered n (records_of s keys) → records_of t keys ≡ records_of s keys
  apart_records n [] r e low a = refl
  apart_records n (k ∷ ks) r e low a =
      let apart : k ≢ key = λ q. let f : under s k ≡ under s key = ap (under s) q in
      let g : a.0.kept ≡ r = cc (a.0.found) in let h : a.0.kept.number ≡ r.number = ap (λ (x : Record). x.number) g in
      let m : a.0.kept.number ≡ n = a.0.number in omega arith in
      cc (o k apart, apart_records (n + 1) ks r e (omega arith) a.1)

  -- the record under the key of one instance is another
  pub set_records : (n : ℕ) (keys : List ℕ) (i : ℕ) (r : Record) (slot : Option Record) → IsKey keys i key → under s key ≡ Some r → under t key ≡ slot → AreNumbered n (records_of s keys)
      → records_of t keys ≡ slice_set (records_of s keys) i slot
  set_records n [] i r slot is e f a = absurd (omega arith)
  set_records n (k ∷ ks) zero r slot is e f a =
      let h : a.0.kept ≡ r = cc (a.0.found, ap (under s) is.1) in
      let m : r.number ≡ n = sym (ap (λ (x : Record). x.number) h) ∙ a.0.number in
      let there : under t k ≡ slot = sym (ap (under t) is.1) ∙ f in
      cc (there, apart_records (n + 1) ks r e (omega arith) a.1)
  set_records n (k ∷ ks) (suc i) r slot is e f a =
      let there = numbered_at s (n + 1) ks i key a.1 (omega arith, is.1) in
      let h : there.kept ≡ r = cc (there.found) in
      let hn : there.kept.number ≡ r.number = ap (λ (x : Record). x.number) h in
      let apart : k ≢ key = λ q. let u : under s k ≡ under s key = ap (under s) q in
      let g : a.0.kept ≡ r = cc (a.0.found) in let gn : a.0.kept.number ≡ r.number = ap (λ (x : Record). x.number) g in
      omega (arith, a.0.number, there.number) in
      cc (o k apart, set_records (n + 1) ks i r slot (omega arith, is.1) e f a.1)

pub record_there : (s : Slots) (keys : List ℕ) (i key : ℕ) → IsKey keys i key → get_or (records_of s keys) i None ≡ under s key
record_there s [] i key is = absurd (omega arith)
record_there s (k ∷ ks) zero key is = ap (under s) (sym is.1)
record_there s (k ∷ ks) (suc i) key is = record_there s ks i key (omega arith, is.1)

pub length_records : (s : Slots) (keys : List ℕ) → length (records_of s keys) ≡ length keys
length_records s keys = length-map keys (under s)

pub length_phases : (s : Slots) (keys : List ℕ) → length (phases_of s keys) ≡ length keys
length_phases s keys = length-map (records_of s keys) phase_of ∙ length_records s keys

-- a count where one more is counted
pub count_push : {A : Type 0} (p : A → Bool) (xs : List A) (x : A) → p x ≡ true → count_by p (xs ++ x ∷ []) ≡ count_by p xs + 1
count_push p xs x holds = sum_by-append (λ y. one_if (p y)) xs (x ∷ []) ∙ rw holds refl

-- a count where one is set
pub count_set : {A : Type 0} (p : A → Bool) (xs : List A) (i : ℕ) (y before : A) → i < length xs → get_or xs i before ≡ before → count_by p (slice_set xs i y) + one_if (p before) ≡ count_by p xs + one_if (p y)
count_set {A = A} p xs i y before low is = ap (λ (x : A). count_by p (slice_set xs i y) + one_if (p x)) (sym is) ∙ sum_by-set (λ x. one_if (p x)) xs i y before low

-- what stands in a list is counted in it
pub counted_low : {A : Type 0} (p : A → Bool) (xs : List A) (i : ℕ) (none before : A) → i < length xs → get_or xs i before ≡ before → p none ≡ false → one_if (p before) ≤ count_by p xs
counted_low p xs i none before low is fails =
    let set = count_set p xs i none before low is in
    let zero' : one_if (p none) ≡ 0 = rw fails refl in
    omega (arith, set, zero')

pub counted_high : {A : Type 0} (p : A → Bool) (xs : List A) (i : ℕ) (y before : A) → i < length xs → get_or xs i before ≡ before → length xs < 2 ^ 32 → count_by p xs + one_if (p y) < 2 ^ 32 + one_if (p before)
counted_high p xs i y before low is few =
    let set = count_set p xs i y before low is in
    omega (arith, set, count_by-le-length p (slice_set xs i y), length-set xs i y)

-- where the phase of one instance is set
pub before_there : (s : Slots) (keys : List ℕ) (i key : ℕ) (r : Record) → IsKey keys i key → under s key ≡ Some r → (i < length (phases_of s keys)) × (get_or (phases_of s keys) i r.phase ≡ r.phase)
before_there s keys i key r is found = (omega (arith, is.0, length_phases s keys), index_at phase_of s keys i key r.phase is ∙ ap phase_of found)

pub record PhaseSet (s t : Slots) (keys : List ℕ) (i : ℕ) (phase : Phase) : Type 0 where
  pub numbered : AreNumbered 1 (records_of t keys)
  pub phases : phases_of t keys ≡ slice_set (phases_of s keys) i phase
  pub processes : processes_of t keys ≡ processes_of s keys

pub phase_set : (s t : Slots) (keys : List ℕ) (i key : ℕ) (r : Record) (phase : Phase) → AreNumbered 1 (records_of s keys) → IsKey keys i key → under s key ≡ Some r → Others s t key → under t key ≡ Some (record r { phase = phase })
    → PhaseSet s t keys i phase
phase_set s t keys i key r phase a is found o changed =
    let slot : Option Record = Some (record r { phase = phase }) in
    let recs = set_records s t key o 1 keys i r slot is found changed a in
    let there = numbered_at s 1 keys i key a is in
    let same : there.kept ≡ r = same_Some there.kept r (sym there.found ∙ found) in
    let number : r.number ≡ 1 + i = sym (ap (λ (x : Record). x.number) same) ∙ there.number in
    let process : process_of slot ≡ process_of (get_or (records_of s keys) i None) = sym (ap process_of (record_there s keys i key is ∙ found)) in
    record {
      numbered = subst (AreNumbered 1) (sym recs) (numbered_set 1 (records_of s keys) i slot a (record { kept = record r { phase = phase }; found = refl; number = number }));
      phases = ap (map phase_of) recs ∙ map-set phase_of (records_of s keys) i slot;
      processes = ap (map process_of) recs ∙ map-set_same process_of (records_of s keys) i slot None process;
    }

-- a count after that
pub count_after : (p : Phase → Bool) (xs ys : List Phase) (i before after flag flag' : ℕ) (y old : Phase) → ys ≡ slice_set xs i y → i < length xs → get_or xs i old ≡ old
    → before ≡ count_by p xs → flag ≡ one_if (p old) → flag' ≡ one_if (p y) → after + flag ≡ before + flag' → after ≡ count_by p ys
count_after p xs ys i before after flag flag' y old set low is count e f sum =
    let changed = count_set p xs i y old low is in
    let same = ap (count_by p) set in
    omega (arith, changed, same, count, e, f, sum)
