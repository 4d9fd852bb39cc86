-- A text in a set of texts.
use Rattle.std.proofs.Common.{◌≡◌, ◌++◌, ℕ, List, [], ◌∷◌, refl, ap, sym, ◌∙◌}
use Rattle.std.specs.Prelude.{Bool, true, false, ◌||◌}
use Rattle.std.specs.List.{list_any}
use Rattle.std.specs.List.Sorted.{IsPermutation}
use Rattle.std.specs.Str.{bytes_eq}
use Rattle.std.specs.HashSet.{HashSet}
use Rattle.std.specs.declared.alloc.Global.{Global}
use Rattle.std.specs.declared.vec.Vec.{Vec}
use Rattle.chill_tree.specs.declared.tree.name.Name.{Name}
use Rattle.checks_model.specs.ActionRules.{one_spelling}
use Rattle.std.proofs.lemmas.Cmp.{nat_list_eq_equiv}
use Rattle.std.proofs.lemmas.List.Sorted.{list_any-IsPermutation}
use Rattle.statement_rules.specs.Spelled.{has_text, is_spelled, Spells, HasAdded}

same-texts : (p q : List ℕ) → bytes_eq p q ≡ true → (ks : List (Vec ℕ Global)) → list_any (λ k. bytes_eq q k.items) ks ≡ list_any (λ k. bytes_eq p k.items) ks
same-texts p q h [] = refl
same-texts p q h (k ∷ ks) =
    ap (λ b. b || list_any (λ k. bytes_eq q k.items) ks) (sym (nat_list_eq_equiv.congr p q k.items h))
    ∙ ap (λ b. bytes_eq p k.items || b) (same-texts p q h ks)

-- by whether the two are the same text
kept : {S : Type 0} (s : HashSet (Vec ℕ Global) S) (n q : List ℕ) → has_text s n ≡ true → (b : Bool) → bytes_eq n q ≡ b → has_text s q ≡ (has_text s q || b)
kept s n q h true e = let t : has_text s q ≡ true = same-texts n q e s.keys ∙ h in t ∙ sym (ap (λ b. b || true) t)
kept s n q h false e = or-false (has_text s q)
  where
    or-false : (b : Bool) → b ≡ (b || false)
    or-false true = refl
    or-false false = refl

-- a text that is there is added by leaving the set as it is
pub text_there : {S : Type 0} (s : HashSet (Vec ℕ Global) S) (n : List ℕ) → has_text s n ≡ true → HasAdded n s s
text_there s n h = λ q. kept s n q h (bytes_eq n q) refl ∙ refl

or-swapped : (a b : Bool) → (a || b) ≡ (b || a)
or-swapped true true = refl
or-swapped true false = refl
or-swapped false true = refl
or-swapped false false = refl

pub text_added : {S : Type 0} (old new : HashSet (Vec ℕ Global) S) (k : Vec ℕ Global) → IsPermutation (k ∷ old.keys) new.keys → HasAdded k.items old new
text_added old new k h = λ q.
    sym (list_any-IsPermutation (λ x. bytes_eq q x.items) (k ∷ old.keys) new.keys h)
    ∙ or-swapped (bytes_eq q k.items) (has_text old q)
    ∙ ap (λ b. has_text old q || b) (nat_list_eq_equiv.symm q k.items)

-- ---- the spellings of some names

spelled-more : (names : List Name) (n : Name) (q : List ℕ) → is_spelled (names ++ n ∷ []) q ≡ (is_spelled names q || bytes_eq (one_spelling n.text) q)
spelled-more [] n q = or-swapped (bytes_eq (one_spelling n.text) q) false
spelled-more (m ∷ names) n q = ap (λ b. bytes_eq (one_spelling m.text) q || b) (spelled-more names n q) ∙ or-assoc (bytes_eq (one_spelling m.text) q) (is_spelled names q) (bytes_eq (one_spelling n.text) q)
  where
    or-assoc : (a b c : Bool) → (a || (b || c)) ≡ ((a || b) || c)
    or-assoc true b c = refl
    or-assoc false b c = refl

-- a set with the spelling of one more name
pub spells_more : {S : Type 0} (old new : HashSet (Vec ℕ Global) S) (names : List Name) (n : Name) → Spells old names → HasAdded (one_spelling n.text) old new → Spells new (names ++ n ∷ [])
spells_more old new names n h added = λ q. added q ∙ ap (λ b. b || bytes_eq (one_spelling n.text) q) (h q) ∙ sym (spelled-more names n q)

pub ruleset texts = (spells_more)
