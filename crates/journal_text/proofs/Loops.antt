-- Reading fields one behind the other, as loops do.
use Rattle.std.proofs.Common.{◌≡◌, ℕ, suc, ◌-◌, ◌+◌, ◌≤◌, ◌<◌, List, [], ◌∷◌, ◌++◌, Some, None, refl, sym, ap, ◌∙◌, append_assoc, arith}
use Rattle.std.proofs.lemmas.List.{append-nil}
use Rattle.journal_text.specs.declared.unread.Unread.{Unread}
use Rattle.journal_text.specs.declared.unread.Unread.TheVariants as faults
use Rattle.journal_text.specs.Reading.{Front, ◌>>=◌, Fails, many_at}

-- what was read before, and what is still read
abbrev pub with_front : {A : Type 0} → List A → Front (List A) → Front (List A)
with_front front read = read >>= λ x. Some (front ++ x.0, x.1)

regroup : {A : Type 0} (front : List A) (x : A) (read : Front (List A)) → with_front front (read >>= λ y. Some (x ∷ y.0, y.1)) ≡ with_front (front ++ x ∷ []) read
regroup {A} front x (Some y) = ap (λ (ys : List A). Some (ys, y.1)) (simp append_assoc)
regroup front x None = refl

pub goes_on : {A : Type 0} (read : List ℕ → Front A) (front : List A) (count i : ℕ) (bytes : List ℕ) (x : A) (after : List ℕ) (total : Front (List A)) → i < count → read bytes ≡ Some (x, after)
    → with_front front (many_at read (count - i) bytes) ≡ total → with_front (front ++ x ∷ []) (many_at read (count - (i + 1)) after) ≡ total
unfolding many_at
goes_on read front count i bytes x after total lt h so_far =
    let k : count - i ≡ suc (count - (i + 1)) = omega arith in
    let one : with_front front (many_at read (count - i) bytes) ≡ with_front (front ++ x ∷ []) (many_at read (count - (i + 1)) after) = rw (k, h) (regroup front x (many_at read (count - (i + 1)) after)) in
    sym one ∙ so_far

pub ends : {A : Type 0} (read : List ℕ → Front A) (e : Unread) (front : List A) (count i : ℕ) (bytes : List ℕ) (total : Front (List A)) → i < count → Fails e (read bytes)
    → with_front front (many_at read (count - i) bytes) ≡ total → Fails e total
unfolding many_at
ends read faults.Memory front count i bytes total lt h so_far = tt
ends read faults.NoEvent front count i bytes total lt h so_far =
    let k : count - i ≡ suc (count - (i + 1)) = omega arith in
    let one : with_front front (many_at read (count - i) bytes) ≡ None = rw (k, h) refl in
    sym so_far ∙ one

pub is_done : {A : Type 0} (read : List ℕ → Front A) (front : List A) (count i : ℕ) (bytes : List ℕ) (total : Front (List A)) → count ≤ i → with_front front (many_at read (count - i) bytes) ≡ total → total ≡ Some (front, bytes)
unfolding many_at
is_done {A} read front count i bytes total le so_far =
    let k : count - i ≡ 0 = omega arith in
    let one : with_front front (many_at read (count - i) bytes) ≡ Some (front, bytes) = rw k (ap (λ (xs : List A). Some (xs, bytes)) (append-nil front)) in
    sym so_far ∙ one
