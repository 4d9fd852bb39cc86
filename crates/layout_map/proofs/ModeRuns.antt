-- The spots of a mode that a text can give lie apart, each in its word.
use Rattle.std.proofs.Common.{◌≡◌, ℕ, zero, suc, ◌+◌, ◌*◌, ◌/◌, ◌≤◌, max, Bool, true, false, List, Option, Some, None, Ok, Err, refl, sym, subst, arith}
use Rattle.std.specs.Prelude.{IsTrue, All, AllPairs, if◌then◌else◌}
use Rattle.std.specs.declared.result.Result.{Result}
use Rattle.chill_base.specs.declared.layout.Bits.{Bits}
use Rattle.modes.specs.ModeTree.{ModeTree, int, boolean, char, instance, set_of, range, powerset, chars, array, structure, event, buffer, read, named, FieldNodes, no_fields, more_fields, SpreadTree, words, packed, step}
use Rattle.modes.specs.Bounds.{values_of}
use Rattle.modes.specs.Scalars.{leaves_of, scalars_in_fields, numbers_of}
use Rattle.modes.specs.Language.{parts_fit, fields_fit, IsOfLanguage}
use Rattle.modes.proofs.SimilarLemmas.{both}
use Rattle.layout_map.specs.declared.scalar.Scalar.{Scalar}
use Rattle.layout_map.specs.declared.overlap.Shared.{Shared}
use Rattle.layout_map.specs.Scalar.{scalar_of, is_signed}
use Rattle.layout_map.specs.Place.{is_possible_step}
use Rattle.layout_map.specs.Numbered.{next_number, is_misplaced, are_mixed, array_impossible, first_impossible, fields_impossible}
use Rattle.layout_map.specs.Overlap.{ats_of, placed_overlap, number_within, first_overlap, fields_overlap}
use Rattle.layout_map.specs.Spots.{Laid, times, up, one_of, one, character, steps_laid, elements, is_placed, placed_spots, placed_end, closed, laid, laid_fields, spots_of}
use Rattle.layout_map.specs.Outcome.{spots, unless_shared, unless_impossible, outcome_of}
use Rattle.layout_map.specs.Words.{IsInWord}
use Rattle.layout_map.specs.Apart.{ShareNoBit}
use Rattle.layout_map.proofs.Runs.{top, IsRun, run-follow, run-nothing, run-more, run-times, run-one, run-numbers, run-closed, run-wider, apart-pairs, within-words}
use Rattle.layout_map.proofs.Narrow.{IsNarrow, scalar-narrow, leaf-least, values-from}
use Rattle.layout_map.proofs.Steps.{run-steps}
use Rattle.layout_map.proofs.Placed.{then-ok, unless-ok, fields-placed, overlap-none, run-placed}

run-scalar : (s : Option Scalar) (dense : Bool) (c : ℕ) → IsNarrow s → top c + 131072 ≤ 137438953440 → IsRun c 1 (one_of s dense c)
run-scalar None dense c n room = run-nothing c 1
run-scalar (Some s) dense c n room = run-one s dense c n.0 n.1 room

run-text : (n c : ℕ) (dense : Bool) → top c + 131072 * max 1 n ≤ 137438953440 → IsRun c (max 1 n) (times n (one character dense) c)
run-text n c dense room =
    run-more c (n * 1) (max 1 n) (times n (one character dense) c) (omega arith)
    (run-times n 1 c (one character dense) (λ d r. run-one character dense d (omega arith) (omega arith) (omega arith)) (omega arith))

-- a base is the first bit of a word
at-word : (c l : ℕ) (f : ℕ → Laid) → top c + 131072 * l + 1000000 ≤ 137438953440 → ((k : ℕ) → 32 * k + 1000000 ≤ 137438953440 → IsRun (32 * k) 1 (f (32 * k))) → IsRun (up c) 1 (f (up c))
at-word c l f room each =
    let e : up c ≡ 32 * ((c + 31) / 32) = omega arith in
    let P : ℕ → Type 0 = λ b. IsRun b 1 (f b) in
    subst P (sym e) (each ((c + 31) / 32) (omega arith))

-- runs of elements, each with a word or so to spare
run-turns : (n l c : ℕ) (f : ℕ → Laid) → 1 ≤ l → ((d : ℕ) → top d + 131072 * l + 1000000 ≤ 137438953440 → IsRun d l (f d)) → top c + 131072 * (n * l) + 1000000 ≤ 137438953440 → IsRun c (n * l) (times n f c)
run-turns zero l c f p each room = run-nothing c (0 * l)
run-turns (suc n) l c f p each room =
    let first : IsRun c l (f c) = each c (omega arith) in
    let b : (f c).1 ≤ top c + 131072 * l = first.bounded in
    run-more c (l + n * l) (suc n * l) (times (suc n) f c) (omega arith) (run-follow c l (n * l) (f c) (times n f) first (run-turns n l (f c).1 f p each (omega arith)))

step-possible : (t : Bool) (number k : ℕ) → (if t then Ok (next_number number) else Err number) ≡ Ok k → t ≡ true
step-possible true number k e = refl
step-possible false number k e = absurd (cc)

-- an array of elements that are laid by f
run-array : (how : SpreadTree) (v l c number k : ℕ) (e : ModeTree) (f : Bool → ℕ → Laid) → 1 ≤ v → 1 ≤ l → array_impossible v e how number ≡ Ok k → ((t : Bool) (d : ℕ) → top d + 131072 * l + 1000000 ≤ 137438953440 → IsRun d l (f t d)) → top c + 131072 * (v * l) + 1000000 ≤ 137438953440 → 1 ≤ v * l → IsRun c (v * l) (closed (elements how v (scalar_of e) f (up c)))
run-array words v l c number k e f p q ok each room least =
    run-closed c (v * l) (times v (f false) (up c)) (omega arith) (run-turns v l (up c) (f false) q (each false) (omega arith))
run-array packed v l c number k e f p q ok each room least =
    run-closed c (v * l) (times v (f true) (up c)) (omega arith) (run-turns v l (up c) (f true) q (each true) (omega arith))
run-array (step place d) v l c number k e f p q ok each room least =
    let possible : is_possible_step v e place d ≡ true = step-possible (is_possible_step v e place d) number k ok in
    run-wider c (v * l) (closed (steps_laid place d v (is_signed (scalar_of e)) (up c))) (omega arith)
    (run-more (up c) 1 (v * l) (closed (steps_laid place d v (is_signed (scalar_of e)) (up c))) least
    (at-word c (v * l) (λ b. closed (steps_laid place d v (is_signed (scalar_of e)) b)) room (λ j r. run-steps v d j e place (is_signed (scalar_of e)) p r possible)))

-- a structure: its fields have places, or are laid one behind the other
run-structure : (placed : Bool) (fs : FieldNodes) (p : Bool) (l c number other k j : ℕ) → 1 ≤ l → fields_impossible fs (are_mixed fs) number ≡ Ok k → (if placed then placed_overlap (ats_of fs) other else fields_overlap fs other) ≡ Ok j → (fields_overlap fs other ≡ Ok j → IsRun (up c) l (laid_fields fs p (up c))) → top c + 131072 * l + 1000000 ≤ 137438953440 → IsRun c l (closed (if placed then (placed_spots fs (up c), placed_end fs (up c)) else laid_fields fs p (up c)))
run-structure true fs p l c number other k j least ok none each room =
    run-closed c l (placed_spots fs (up c), placed_end fs (up c)) (omega arith)
    (run-more (up c) 1 l (placed_spots fs (up c), placed_end fs (up c)) least
    (at-word c l (λ b. (placed_spots fs b, placed_end fs b)) room (λ i r. run-placed fs i (fields-placed fs (are_mixed fs) number k ok) (overlap-none (ats_of fs) other j none) r)))
run-structure false fs p l c number other k j least ok none each room = run-closed c l (laid_fields fs p (up c)) (omega arith) (each none)

mutual
  run-mode : (m : ModeTree) (dense : Bool) (c number other k j : ℕ) → IsTrue (parts_fit m) → first_impossible m number ≡ Ok k → first_overlap m other ≡ Ok j → top c + 131072 * leaves_of m + 1000000 ≤ 137438953440 → IsRun c (leaves_of m) (laid m dense c)
  run-mode int dense c number other k j f ok none room = run-scalar (scalar_of int) dense c (scalar-narrow int f) (omega arith)
  run-mode boolean dense c number other k j f ok none room = run-scalar (scalar_of boolean) dense c (scalar-narrow boolean f) (omega arith)
  run-mode char dense c number other k j f ok none room = run-scalar (scalar_of char) dense c (scalar-narrow char f) (omega arith)
  run-mode instance dense c number other k j f ok none room = run-scalar (scalar_of instance) dense c (scalar-narrow instance f) (omega arith)
  run-mode (set_of d n) dense c number other k j f ok none room = run-scalar (scalar_of (set_of d n)) dense c (scalar-narrow (set_of d n) f) (omega arith)
  run-mode (range p l h) dense c number other k j f ok none room = run-scalar (scalar_of (range p l h)) dense c (scalar-narrow (range p l h) f) (omega arith)
  run-mode (powerset m) dense c number other k j f ok none room = run-numbers (numbers_of (values_of m)) (values_of m) dense c (omega arith) (omega arith)
  run-mode (chars n) dense c number other k j f ok none room = run-text n c dense (omega arith)
  run-mode (array i e how) dense c number other k j f ok none room =
      let fit : IsTrue (parts_fit e) = (both _ _ (both _ _ f).1).1 in
      let v : (1 ≤ values_of i) × (values_of i ≤ 4096) = values-from i (both _ _ (both _ _ f).1).0 in
      let s = then-ok (array_impossible (values_of i) e how number) (first_impossible e) k ok in
      run-array how (values_of i) (leaves_of e) c number s.0 e (laid e) v.0 (leaf-least e fit) s.1
      (λ t d r. run-mode e t d s.0 (number_within how other) k j fit s.2 none r) room (leaf-least (array i e how) f)
  run-mode (structure fs p) dense c number other k j f ok none room =
      run-structure (is_placed fs) fs p (scalars_in_fields 1 fs) c number other k j (leaf-least (structure fs p) f) ok none
      (λ o. run-fields fs p (up c) (are_mixed fs) number other k j (both _ _ f).1 ok o (omega arith)) room
  run-mode (event l) dense c number other k j f ok none room = run-nothing c 0
  run-mode (buffer l e) dense c number other k j f ok none room = run-nothing c 0
  run-mode (read m) dense c number other k j f ok none room = run-mode m dense c number other k j f ok none room
  run-mode (named d n m) dense c number other k j f ok none room = run-mode m dense c number other k j f ok none room

  run-fields : (fs : FieldNodes) (dense : Bool) (c : ℕ) (mixed : Bool) (number other k j : ℕ) → IsTrue (fields_fit fs) → fields_impossible fs mixed number ≡ Ok k → fields_overlap fs other ≡ Ok j → top c + 131072 * scalars_in_fields 1 fs + 1000000 ≤ 137438953440 → IsRun c (scalars_in_fields 1 fs) (laid_fields fs dense c)
  run-fields no_fields dense c mixed number other k j f ok none room = run-nothing c 0
  run-fields (more_fields name m at fs) dense c mixed number other k j f ok none room =
      let s = then-ok (if is_misplaced m at mixed then Err number else first_impossible m (next_number number)) (fields_impossible fs mixed) k ok in
      let t = unless-ok (is_misplaced m at mixed) number (first_impossible m (next_number number)) s.0 s.1 in
      let u = then-ok (first_overlap m (next_number other)) (fields_overlap fs) j none in
      let first : IsRun c (leaves_of m) (laid m dense c) = run-mode m dense c (next_number number) (next_number other) s.0 u.0 (both _ _ f).0 t.1 u.1 (omega arith) in
      let b : (laid m dense c).1 ≤ top c + 131072 * leaves_of m = first.bounded in
      run-follow c (leaves_of m) (scalars_in_fields 1 fs) (laid m dense c) (laid_fields fs dense) first
      (run-fields fs dense (laid m dense c).1 mixed s.0 u.0 k j (both _ _ f).1 s.2 u.2 (omega arith))

-- ---- as the laws say it

same-spots : (xs ys : List Bits) → spots xs ≡ spots ys → xs ≡ ys
same-spots xs ys e = cc

shared-by : (r : Result ℕ Shared) (m : ModeTree) (bs : List Bits) → unless_shared r m ≡ spots bs → (j : ℕ) × (r ≡ Ok j) × (spots_of m ≡ bs)
shared-by (Ok j) m bs e = (j, refl, same-spots (spots_of m) bs e)
shared-by (Err s) m bs e = absurd (cc)

impossible-by : (r : Result ℕ ℕ) (m : ModeTree) (bs : List Bits) → unless_impossible r m ≡ spots bs → (k : ℕ) × (r ≡ Ok k) × (unless_shared (first_overlap m 0) m ≡ spots bs)
impossible-by (Ok k) m bs e = (k, refl, e)
impossible-by (Err n) m bs e = absurd (cc)

run-spots : (m : ModeTree) (bs : List Bits) → IsOfLanguage m → outcome_of m ≡ spots bs → (AllPairs ShareNoBit bs) × (All IsInWord bs)
run-spots m bs h e =
    let s = impossible-by (first_impossible m 0) m bs e in
    let t = shared-by (first_overlap m 0) m bs s.2 in
    let size : leaves_of m ≤ 4096 = h.size in
    let run : IsRun 0 (leaves_of m) (laid m false 0) = run-mode m false 0 0 0 s.0 t.0 h.parts s.1 t.1 (omega arith) in
    let P : List Bits → Type 0 = λ xs. AllPairs ShareNoBit xs × All IsInWord xs in
    subst P t.2 (apart-pairs (spots_of m) run.apart, within-words 0 (laid m false 0).1 (spots_of m) run.within)

-- no two spots share a bit
pub spots_apart : (m : ModeTree) (bs : List Bits) → IsOfLanguage m → outcome_of m ≡ spots bs → AllPairs ShareNoBit bs
spots_apart m bs h e = (run-spots m bs h e).0

-- each lies in its word
pub spots_in_words : (m : ModeTree) (bs : List Bits) → IsOfLanguage m → outcome_of m ≡ spots bs → All IsInWord bs
spots_in_words m bs h e = (run-spots m bs h e).1

pub ruleset spot_laws = (spots_in_words)
