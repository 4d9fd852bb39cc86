-- A text in a set of texts.
use Rattle.std.proofs.Common.{◌≡◌, ℕ, List, [], ◌∷◌, refl, ap, sym, subst, ◌∙◌, MatchBool}
use Rattle.std.specs.Prelude.{Bool, true, false, not, ◌||◌}
use Rattle.std.specs.List.{list_any}
use Rattle.std.specs.List.Sorted.{IsPermutation}
use Rattle.std.specs.Str.{bytes_eq}
use Rattle.std.specs.HashSet.{HashSet}
use Rattle.std.specs.declared.alloc.Global.{Global}
use Rattle.std.specs.declared.vec.Vec.{Vec}
use Rattle.std.proofs.lemmas.Cmp.{nat_list_eq_equiv}
use Rattle.std.proofs.lemmas.List.Sorted.{list_any-IsPermutation}
use Rattle.written_modes.specs.Fields.{has_text, HasAdded}

same-texts : (p q : List ℕ) → bytes_eq p q ≡ true → (ks : List (Vec ℕ Global)) → list_any (λ k. bytes_eq q k.items) ks ≡ list_any (λ k. bytes_eq p k.items) ks
same-texts p q h [] = refl
same-texts p q h (k ∷ ks) =
    ap (λ b. b || list_any (λ k. bytes_eq q k.items) ks) (sym (nat_list_eq_equiv.congr p q k.items h))
    ∙ ap (λ b. bytes_eq p k.items || b) (same-texts p q h ks)

-- by whether the two are the same text
kept : {S : Type 0} (s : HashSet (Vec ℕ Global) S) (n q : List ℕ) → has_text s n ≡ true → (b : Bool) → bytes_eq n q ≡ b → has_text s q ≡ (has_text s q || b)
kept s n q h true e = let t : has_text s q ≡ true = same-texts n q e s.keys ∙ h in t ∙ sym (ap (λ b. b || true) t)
kept s n q h false e = or-false (has_text s q)
  where
    or-false : (b : Bool) → b ≡ (b || false)
    or-false true = refl
    or-false false = refl

-- a text that is there is added by leaving the set as it is
pub text_there : {S : Type 0} (s : HashSet (Vec ℕ Global) S) (n : List ℕ) → has_text s n ≡ true → HasAdded n s s
text_there s n h = λ q. kept s n q h (bytes_eq n q) refl ∙ refl

or-swapped : (a b : Bool) → (a || b) ≡ (b || a)
or-swapped true true = refl
or-swapped true false = refl
or-swapped false true = refl
or-swapped false false = refl

pub text_added : {S : Type 0} (old new : HashSet (Vec ℕ Global) S) (k : Vec ℕ Global) → IsPermutation (k ∷ old.keys) new.keys → HasAdded k.items old new
text_added old new k h = λ q.
    sym (list_any-IsPermutation (λ x. bytes_eq q x.items) (k ∷ old.keys) new.keys h)
    ∙ or-swapped (bytes_eq q k.items) (has_text old q)
    ∙ ap (λ b. has_text old q || b) (nat_list_eq_equiv.symm q k.items)

not-not : (a b : Bool) → a ≡ not b → not a ≡ b
not-not true true h = sym h
not-not true false h = refl
not-not false true h = refl
not-not false false h = sym h

-- a text is put in the set, unless it is there
pub text_put : {S : Type 0} (old new : HashSet (Vec ℕ Global) S) (k : Vec ℕ Global) (n : List ℕ) (added : Bool) → k.items ≡ n → added ≡ not (has_text old k.items) → MatchBool added (IsPermutation (k ∷ old.keys) new.keys) (new.keys ≡ old.keys) → HasAdded n old new
text_put old new k n true items a h = subst (λ n. HasAdded n old new) items (text_added old new k h)
text_put old new k n false items a h = subst (λ n. HasAdded n old new) items (λ q. ap (λ ks. list_any (λ x. bytes_eq q x.items) ks) h ∙ text_there old k.items (sym (not-not false (has_text old k.items) a)) q)

pub text_found : {S : Type 0} (old : HashSet (Vec ℕ Global) S) (k : Vec ℕ Global) (n : List ℕ) (added : Bool) → k.items ≡ n → added ≡ not (has_text old k.items) → not added ≡ has_text old n
text_found old k n added items a = not-not added (has_text old k.items) a ∙ ap (λ n. has_text old n) items
