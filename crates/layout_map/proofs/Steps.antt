-- The elements of an array with STEP lie apart.
use Rattle.std.proofs.Common.{◌≡◌, ℕ, zero, suc, ◌+◌, ◌-◌, ◌*◌, ◌/◌, ◌%◌, ◌<◌, ◌≤◌, min, Bool, ◌&&◌, sym, ap, subst, arith}
use Rattle.std.specs.Prelude.{nat_le, nat_lt, IsTrue}
use Rattle.std.proofs.lemmas.Bool.Decides.{nat_tests}
use Rattle.chill_base.specs.declared.layout.Bits.{Bits}
use Rattle.modes.specs.ModeTree.{ModeTree, PlaceTree}
use Rattle.modes.proofs.SimilarLemmas.{both}
use Rattle.layout_map.specs.Place.{is_in_word, is_possible, is_possible_step, steps_fit}
use Rattle.layout_map.specs.Spots.{times, held, up, step_one, step_end, place_bit, steps_laid, closed}
use Rattle.layout_map.proofs.Runs.{hi, IsBetween, Within, Apart, top, IsRun, none-behind, within-wider}

pub le-from : (a b : ℕ) → IsTrue (nat_le a b) → a ≤ b
le-from a b h = grind (arith, nat_tests)

lt-from : (a b : ℕ) → IsTrue (nat_lt a b) → a < b
lt-from a b h = grind (arith, nat_tests)

-- a place in one of the first 4,096 words
pub record IsPlace (p : PlaceTree) : Type 0 where
  pub ordered : p.start ≤ p.end
  pub within : p.end ≤ 31
  pub word : p.word ≤ 4095

pub place-from : (m : ModeTree) (p : PlaceTree) → IsTrue (is_possible m p) → IsPlace p
place-from m p h =
    let w : IsTrue (is_in_word p) = (both _ _ h).0 in
    record { ordered = le-from _ _ (both _ _ w).0; within = le-from _ _ (both _ _ (both _ _ w).1).0; word = le-from _ _ (both _ _ (both _ _ w).1).1 }

-- what the elements from one on are, whose bit is q behind word k
record IsLine (n length q d e k : ℕ) (signed : Bool) : Type 0 where
  within : Within (32 * k + q) (top (32 * k + e)) (times n (step_one length signed d) (32 * k + q)).0
  apart : Apart (times n (step_one length signed d) (32 * k + q)).0

-- the next element begins behind the one before
one_more : (n length q d e k : ℕ) (signed : Bool) → length < d → d ≤ 262144 → q / 32 ≤ 4095 → q % 32 + length ≤ 31 → 32 * k + 1000000 ≤ 137438953440 → q + 1 ≤ e → IsLine n length (q + d) d e k signed → IsLine (suc n) length q d e k signed
one_more n length q d e k signed a b y x room own r =
    let h : held (32 * k + q + d) ≡ 32 * k + (q + d) = omega arith in
    let P : ℕ → Type 0 = λ c. Within (32 * k + (q + d)) (top (32 * k + e)) (times n (step_one length signed d) c).0 in
    let Q : ℕ → Type 0 = λ c. Apart (times n (step_one length signed d) c).0 in
    let w : Within (32 * k + (q + d)) (top (32 * k + e)) (times n (step_one length signed d) (held (32 * k + q + d))).0 = subst P (sym h) r.within in
    let v : Apart (times n (step_one length signed d) (held (32 * k + q + d))).0 = subst Q (sym h) r.apart in
    let s : Bits = record { word = (32 * k + q) / 32; start = (32 * k + q) % 32; end = min ((32 * k + q) % 32 + length) 4294967295; signed = signed } in
    let t : hi s < 32 * k + (q + d) = omega arith in
    let between : IsBetween (32 * k + q) (top (32 * k + e)) s = record { word = record { ordered = omega arith; within = omega arith }; low = omega arith; high = omega arith } in
    record {
      within = (between, within-wider (32 * k + (q + d)) (top (32 * k + e)) (32 * k + q) (top (32 * k + e)) _ (omega arith) (omega arith) w);
      apart = (none-behind s (32 * k + (q + d)) (top (32 * k + e)) _ t w, v);
    }

less : (n d : ℕ) → (suc n - 1) * d ≡ n * d
less n d = ap (λ (x : ℕ). x * d) (let e : suc n - 1 ≡ n = omega arith in e)

after_one : (n q d e : ℕ) → q + (suc n - 1) * d + 1 ≤ e → 0 < n → q + d + (n - 1) * d + 1 ≤ e
after_one zero q d e h p = absurd (omega arith)
after_one (suc n) q d e h p = omega (arith, h, less n d, less (suc n) d)

-- the end of the last element is no less than that of the others
line : (n length q d e k : ℕ) (signed : Bool) → length < d → d ≤ 262144 → 32 * k + 1000000 ≤ 137438953440 → IsTrue (steps_fit n length d q) → (0 < n → q + (n - 1) * d + 1 ≤ e) → IsLine n length q d e k signed
line zero length q d e k signed a b room f last = record { within = tt; apart = tt }
line (suc n) length q d e k signed a b room f last =
    let here : IsTrue (nat_le (q % 32 + length) 31 && nat_le (q / 32) 4095) = (both _ _ f).0 in
    let x : q % 32 + length ≤ 31 = le-from _ _ (both _ _ here).0 in
    let y : q / 32 ≤ 4095 = le-from _ _ (both _ _ here).1 in
    let end : q + (suc n - 1) * d + 1 ≤ e = last (omega arith) in
    let own : q + 1 ≤ e = omega (arith, end) in
    one_more n length q d e k signed a b y x room own (line n length (q + d) d e k signed a b room (both _ _ f).1 (after_one n q d e end))

-- the last element lies in one of the first 4,096 words
last-word : (n length q d : ℕ) → IsTrue (steps_fit (suc n) length d q) → q + n * d ≤ 131071
last-word zero length q d f =
    let y : q / 32 ≤ 4095 = le-from _ _ (both _ _ (both _ _ f).0).1 in omega (arith, y)
last-word (suc n) length q d f =
    let r : q + d + n * d ≤ 131071 = last-word n length (q + d) d (both _ _ f).1 in omega (arith, r)

stepped : (n d k : ℕ) (signed : Bool) (p : PlaceTree) → IsPlace p → 32 * p.word + p.start + n * d ≤ 131071 → 32 * k + 1000000 ≤ 137438953440 → IsLine (suc n) (p.end - p.start) (32 * p.word + p.start) d (32 * p.word + p.start + n * d + 1) k signed → IsRun (32 * k) 1 (closed (steps_laid p d (suc n) signed (32 * k)))
stepped n d k signed p place last room r =
    let o : p.word ≤ 4095 = place.word in
    let first : place_bit p (32 * k) ≡ 32 * k + (32 * p.word + p.start) = omega arith in
    let end : step_end (suc n) d (place_bit p (32 * k)) ≡ 32 * k + (32 * p.word + p.start + n * d + 1) = omega (arith, first, less n d) in
    let e : ℕ = 32 * p.word + p.start + n * d + 1 in
    let P : ℕ → Type 0 = λ c. Within (32 * k + (32 * p.word + p.start)) (top (32 * k + (32 * p.word + p.start + n * d + 1))) (times (suc n) (step_one (p.end - p.start) signed d) c).0 in
    let Q : ℕ → Type 0 = λ c. Apart (times (suc n) (step_one (p.end - p.start) signed d) c).0 in
    let w : Within (32 * k + (32 * p.word + p.start)) (top (32 * k + (32 * p.word + p.start + n * d + 1))) (times (suc n) (step_one (p.end - p.start) signed d) (place_bit p (32 * k))).0 = subst P (sym first) r.within in
    let v : Apart (times (suc n) (step_one (p.end - p.start) signed d) (place_bit p (32 * k))).0 = subst Q (sym first) r.apart in
    let t : up (step_end (suc n) d (place_bit p (32 * k))) ≡ top (32 * k + (32 * p.word + p.start + n * d + 1)) = omega (arith, end) in
    record {
      grows = omega (arith, t);
      bounded = omega (arith, t);
      within = within-wider (32 * k + (32 * p.word + p.start)) (top (32 * k + (32 * p.word + p.start + n * d + 1))) (32 * k) (up (step_end (suc n) d (place_bit p (32 * k)))) ((times (suc n) (step_one (p.end - p.start) signed d) (place_bit p (32 * k))).0) (omega arith) (omega (arith, t)) w;
      apart = v;
    }

-- an array with STEP, from the first bit of a word on
pub run-steps : (n d k : ℕ) (m : ModeTree) (p : PlaceTree) (signed : Bool) → 1 ≤ n → 32 * k + 1000000 ≤ 137438953440 → IsTrue (is_possible_step n m p d) → IsRun (32 * k) 1 (closed (steps_laid p d n signed (32 * k)))
run-steps zero d k m p signed least room h = absurd (omega arith)
run-steps (suc n) d k m p signed least room h =
    let one : IsTrue (is_possible m p) × IsTrue (nat_lt (p.end - p.start) d && (nat_le d 262144 && steps_fit (suc n) (p.end - p.start) d (32 * p.word + p.start))) = both (is_possible m p) (nat_lt (p.end - p.start) d && (nat_le d 262144 && steps_fit (suc n) (p.end - p.start) d (32 * p.word + p.start))) h in
    let two : IsTrue (nat_lt (p.end - p.start) d) × IsTrue (nat_le d 262144 && steps_fit (suc n) (p.end - p.start) d (32 * p.word + p.start)) = both (nat_lt (p.end - p.start) d) (nat_le d 262144 && steps_fit (suc n) (p.end - p.start) d (32 * p.word + p.start)) one.1 in
    let three : IsTrue (nat_le d 262144) × IsTrue (steps_fit (suc n) (p.end - p.start) d (32 * p.word + p.start)) = both (nat_le d 262144) (steps_fit (suc n) (p.end - p.start) d (32 * p.word + p.start)) two.1 in
    let place : IsPlace p = place-from m p one.0 in
    let a : p.end - p.start < d = lt-from (p.end - p.start) d two.0 in
    let b : d ≤ 262144 = le-from d 262144 three.0 in
    let f : IsTrue (steps_fit (suc n) (p.end - p.start) d (32 * p.word + p.start)) = three.1 in
    let last : 32 * p.word + p.start + n * d ≤ 131071 = last-word n (p.end - p.start) (32 * p.word + p.start) d f in
    stepped n d k signed p place last room
    (line (suc n) (p.end - p.start) (32 * p.word + p.start) d (32 * p.word + p.start + n * d + 1) k signed a b room f (λ z. omega (arith, less n d)))
