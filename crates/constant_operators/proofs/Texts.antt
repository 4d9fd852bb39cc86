-- What is known of texts, and of what definitions keep.
use Rattle.std.proofs.Common.{◌≡◌, ℕ, suc, Bool, true, List, [], ◌∷◌, map, length, Option, Some, None, ℤ, pos, refl, ap, sym, ◌∙◌, subst, arith}
use Rattle.std.specs.Prelude.{◌==◌, ◌&&◌, IsTrue, option_map}
use Rattle.std.proofs.lemmas.Option.{same_Some}
use Rattle.std.proofs.lemmas.Bool.Decides.{nat_tests}
use Rattle.modes.specs.ModeTree.{ModeTree, ClassTree, class_tree, derived, chars}
use Rattle.checks_model.specs.ValueTrees.{ValueTree, ValueNodes, number, value_nodes, scalars_in_each}
use Rattle.constant_values.specs.Fits.{count_values, fit_each}
use Rattle.constant_operators.specs.Grounds.{IsKept, IsKeptAt}
use Rattle.constant_operators.specs.Known.{Holds, IsKnown, IsKnownConstant, IsOfEntry, text_value}
use Rattle.constant_operators.specs.declared.evaluation.Entry.{Entry}
use Rattle.constant_operators.specs.declared.known.Known.{Known}

-- the parts of a text
abbrev characters : List ℕ → ValueNodes
characters bytes = value_nodes (map (λ b. number (pos b)) bytes)

text_scalars : (bytes : List ℕ) → scalars_in_each (characters bytes) ≡ map pos bytes
text_scalars [] = refl
text_scalars (b ∷ bs) = ap (λ (l : List ℤ). pos b ∷ l) (text_scalars bs)

text_count : (bytes : List ℕ) → count_values (characters bytes) ≡ length bytes
text_count [] = refl
text_count (b ∷ bs) = ap suc (text_count bs)

text_fits : (n k : ℕ) (bytes : List ℕ) → IsTrue (fit_each (Some (chars n)) k (characters bytes))
text_fits n k [] = refl
text_fits n k (b ∷ bs) = text_fits n (suc k) bs

same_counts : (a b : ℕ) → a ≡ b → IsTrue (a == b)
same_counts a b e = grind (arith, nat_tests)

both_hold : (a b : Bool) → IsTrue a → IsTrue b → IsTrue (a && b)
both_hold a b p q = ap (λ (x : Bool). x && b) p ∙ q

pub text_known : (bytes : List ℕ) (k : Known) → Holds (Some (derived (chars (length bytes)))) (Some (map pos bytes)) k → IsKnownConstant (Some (derived (chars (length bytes)))) (Some (text_value bytes)) k
text_known bytes k h = record {
  known = record {
    class = h.class;
    value = h.value ∙ ap Some (sym (text_scalars bytes));
    fits = both_hold (count_values (characters bytes) == length bytes) (fit_each (Some (chars (length bytes))) 0 (characters bytes))
        (same_counts (count_values (characters bytes)) (length bytes) (text_count bytes)) (text_fits (length bytes) 0 bytes);
  };
  is_constant = h.is_constant;
  is_clean = h.is_clean;
}

-- ---- definitions

one_known : (c : Option ClassTree) (v : Option ValueTree) (e : Entry) (k : Known) → IsKept c v e → IsOfEntry e k → IsKnownConstant c v k
one_known c v e k kept h = record {
  known = record { class = h.class ∙ kept.class; value = h.value ∙ kept.value; fits = kept.fits };
  is_constant = h.is_constant;
  is_clean = h.is_clean;
}

pub kept_known : (c : Option ClassTree) (v : Option ValueTree) (x : Option Entry) (e : Entry) (k : Known) → IsKeptAt c v x → x ≡ Some e → IsOfEntry e k → IsKnownConstant c v k
kept_known c v x e k kept is h = one_known c v e k (subst (IsKeptAt c v) is kept) h

pub kept_none : (c : Option ClassTree) (v : Option ValueTree) (x : Option Entry) → IsKeptAt c v x → x ≡ None → ⊥
kept_none c v x kept is = subst (IsKeptAt c v) is kept
