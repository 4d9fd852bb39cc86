-- What is received goes into locals that follow each other.
use Rattle.std.proofs.Common.{◌≡◌, ℕ, ◌+◌, ◌≤◌, List, [], ◌∷◌, ◌++◌, ℤ, pos, length, take, drop, replicate, Option, Some, None, slice_get, refl, sym, ap, ◌∙◌, subst, arith, append_assoc, append-nil, length-append, length-take-le, length-drop, drop-drop}
use Rattle.std.proofs.lemmas.List.{length-replicate, take-append-drop}
use Rattle.world_model.specs.Lists.{with_scalars}
use Rattle.program_trees.specs.ProgramTree.{LocalRowTree}
use Rattle.source_meaning.specs.Store.{Store, with_local, count_in}
use Rattle.source_meaning.specs.StatementMeaning.{spread_over, counts_over}
use Rattle.code_scheme.specs.Pieces.{Layout, first_in}
use Rattle.code_scheme.specs.StatementWaits.{first_received, scalars_received, scalars_of_row}
use Rattle.follow_laws.specs.Follows.{Around, Holds}
use Rattle.follow_laws.proofs.Stores.{set_right, length-with_scalars}
use Rattle.follow_laws.proofs.Holding.{IsSet, whole_set}
use Rattle.code_laws.specs.StatementsInRange.{FollowFrom, FollowEachOther}

-- ---- parts of lists

set_nothing : (l : List ℤ) (f : ℕ) → with_scalars l f [] ≡ l
set_nothing l f =
    ap (λ (j : ℕ). (take f l ++ []) ++ drop j l) (let e : f + 0 ≡ f = omega arith in e)
    ∙ (ap (λ (k : List ℤ). k ++ drop f l) (append-nil (take f l)) ∙ take-append-drop f l)

-- two parts behind each other are set
set_twice : (l a b : List ℤ) (f : ℕ) → f + length a ≤ length l → with_scalars (with_scalars l f a) (f + length a) b ≡ with_scalars l f (a ++ b)
set_twice l a b f room =
    let front : List ℤ = take f l ++ a in
    let back : List ℤ = drop (f + length a) l in
    let begins : length front + 0 ≡ f + length a = omega (arith, length-append (take f l) a, length-take-le f l (let low : f ≤ length l = omega arith in low)) in
    let far : f + length a + (0 + length b) ≡ f + length (a ++ b) = omega (arith, length-append a b) in
    set_right front back b 0 (f + length a) begins
    ∙ (ap (λ (k : List ℤ). front ++ (b ++ k)) (drop-drop (0 + length b) (f + length a) l ∙ ap (λ (j : ℕ). drop j l) far)
    ∙ (append_assoc (take f l) a (b ++ drop (f + length (a ++ b)) l)
    ∙ (ap (λ (k : List ℤ). take f l ++ k) (sym (append_assoc a b (drop (f + length (a ++ b)) l)))
    ∙ sym (append_assoc (take f l) (a ++ b) (drop (f + length (a ++ b)) l)))))

-- ---- locals that follow each other

no_scalars : (xs : List ℤ) → length xs ≡ 0 → xs ≡ []
no_scalars [] e = refl
no_scalars (x ∷ xs) e = absurd (let no : ⊥ = omega arith in no)

from_set : (w : Around) (lay : Layout) (ks : List ℕ) (first : ℕ) (xs : List ℤ) (store : Store) (locals : List ℤ)
    → lay.rows ≡ w.rows → FollowFrom lay first ks → first ≤ length locals → length xs ≡ counts_over lay.rows ks → Holds w store locals
    → IsSet w (spread_over lay.rows ks xs store) locals first xs
from_set w lay [] first xs store locals rows fits room long h =
    let none : xs ≡ [] = no_scalars xs long in
    record { inside = omega arith; holds = subst (λ (l : List ℤ). Holds w store l) (sym (ap (λ (zs : List ℤ). with_scalars locals first zs) none ∙ set_nothing locals first)) h }
from_set w lay (k ∷ ks) first xs store locals rows fits room long h =
    let row : LocalRowTree = fits.0 in
    let c : ℕ = count_in (slice_get lay.rows k) in
    let c_is : c ≡ row.count = ap count_in fits.1 in
    let a : List ℤ = take c xs in
    let b : List ℤ = drop c xs in
    let long_a : length a ≡ c = length-take-le c xs (omega arith) in
    let long_b : length b ≡ counts_over lay.rows ks = omega (arith, length-drop c xs) in
    let is : slice_get w.rows k ≡ Some row = ap (λ (rs : List LocalRowTree). slice_get rs k) (sym rows) ∙ fits.1 in
    let one : IsSet w (with_local store k a) locals first a = whole_set w store locals k first row a h is (long_a ∙ c_is) (sym fits.2) in
    let set1 : List ℤ = with_scalars locals first a in
    let same_long : length set1 ≡ length locals = length-with_scalars locals a first one.inside in
    let behind : row.first + row.count ≡ first + length a = omega (arith, fits.2, long_a, c_is) in
    let rest : IsSet w (spread_over lay.rows ks b (with_local store k a)) set1 (row.first + row.count) b =
    from_set w lay ks (row.first + row.count) b (with_local store k a) set1 rows fits.3 (omega (arith, one.inside, same_long, behind)) long_b one.holds in
    let whole : with_scalars set1 (row.first + row.count) b ≡ with_scalars locals first xs =
    ap (λ (j : ℕ). with_scalars set1 j b) behind ∙ (set_twice locals a b first one.inside ∙ ap (λ (zs : List ℤ). with_scalars locals first zs) (take-append-drop c xs)) in
    record {
      inside = omega (arith, rest.inside, same_long, behind, long_a, long_b);
      holds = subst (λ (l : List ℤ). Holds w (spread_over lay.rows ks b (with_local store k a)) l) whole rest.holds;
    }

counts_same : (rows : List LocalRowTree) (ks : List ℕ) → scalars_received rows ks ≡ counts_over rows ks
counts_same rows [] = refl
counts_same rows (k ∷ ks) = by_row (slice_get rows k) ∙ ap (λ (n : ℕ). count_in (slice_get rows k) + n) (counts_same rows ks)
  where
    by_row : (o : Option LocalRowTree) → scalars_of_row o + scalars_received rows ks ≡ count_in o + scalars_received rows ks
    by_row None = refl
    by_row (Some row) = refl

-- the locals of an alternative get what is received
pub received_set : (w : Around) (lay : Layout) (ks : List ℕ) (xs : List ℤ) (store : Store) (locals : List ℤ)
    → lay.rows ≡ w.rows → FollowEachOther lay ks → length xs ≡ counts_over lay.rows ks → Holds w store locals
    → IsSet w (spread_over lay.rows ks xs store) locals (first_received lay.rows ks) xs
received_set w lay [] xs store locals rows fits long h = from_set w lay [] 0 xs store locals rows tt (omega arith) long h
received_set w lay (k ∷ ks) xs store locals rows fits long h =
    let row : LocalRowTree = fits.0 in
    let first_is : first_in (slice_get lay.rows k) ≡ row.first = ap first_in fits.1 in
    let zeros : List ℤ = replicate row.count (pos 0) in
    let is : slice_get w.rows k ≡ Some row = ap (λ (rs : List LocalRowTree). slice_get rs k) (sym rows) ∙ fits.1 in
    let room : IsSet w (with_local store k zeros) locals row.first zeros = whole_set w store locals k row.first row zeros h is (length-replicate row.count (pos 0)) refl in
    subst (λ (j : ℕ). IsSet w (spread_over lay.rows (k ∷ ks) xs store) locals j xs) (sym first_is)
    (from_set w lay (k ∷ ks) row.first xs store locals rows (row, fits.1, refl, fits.2) (omega (arith, room.inside)) long h)

-- they lie in the frame
pub received_inside : (w : Around) (lay : Layout) (ks : List ℕ) (store : Store) (locals : List ℤ) → lay.rows ≡ w.rows → FollowEachOther lay ks → Holds w store locals → first_received lay.rows ks + scalars_received lay.rows ks ≤ length locals
received_inside w lay ks store locals rows fits h =
    let n : ℕ = counts_over lay.rows ks in
    let zeros : List ℤ = replicate n (pos 0) in
    let long : length zeros ≡ n = length-replicate n (pos 0) in
    let set : IsSet w (spread_over lay.rows ks zeros store) locals (first_received lay.rows ks) zeros = received_set w lay ks zeros store locals rows fits long h in
    omega (arith, set.inside, long, counts_same lay.rows ks)

pub received_counts : (rows : List LocalRowTree) (ks : List ℕ) → scalars_received rows ks ≡ counts_over rows ks
received_counts rows ks = counts_same rows ks
