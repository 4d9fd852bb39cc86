use Rattle.std.proofs.Common.{◌≡◌, ◌∙◌, sym, ap, rules, ◌++◌, ◌∷◌, [], List, ◌+◌, ◌-◌, ℤ, ℕ, pos, drop, get_or, length, ◌<◌, to_z, of_z, w64, append_assoc, arith}
use Rattle.std.specs.Prelude.{min}
use Rattle.scalar_operators.specs.Powersets.{complement_in}
use Rattle.scalar_operators.specs.Members.{complement_of}
use Rattle.constant_values.proofs.SetWords.{complement_more}
use Rattle.constant_values.proofs.sets.complement.Goals as goal

-- one number more
one_more : (size count i next : ℕ) (set items found new : List ℤ) (word : ℤ) → items ≡ set → complement_of size set ≡ found ++ complement_of count (drop i set) → i < length items
    → word ≡ complement_in (min count 32) (get_or items i (pos 0)) → new ≡ found ++ word ∷ [] → next ≡ count - 32 → complement_of size set ≡ new ++ complement_of next (drop (i + 1) set)
one_more size count i next set items found new word same inv here w n m =
    let there : i < length set = omega (arith, ap (λ (l : List ℤ). length l) same, here) in
    let own : word ≡ complement_in (min count 32) (get_or set i (pos 0)) = w ∙ ap (λ (l : List ℤ). complement_in (min count 32) (get_or l i (pos 0))) same in
    inv ∙ ap (λ (l : List ℤ). found ++ l) (complement_more count i set (pos 0) there ∙ ap (λ (x : ℤ). x ∷ complement_of (count - 32) (drop (i + 1) set)) (sym own)
    ∙ ap (λ (k : ℕ). word ∷ complement_of k (drop (i + 1) set)) (sym m))
    ∙ sym (ap (λ (l : List ℤ). l ++ complement_of next (drop (i + 1) set)) n ∙ append_assoc found (word ∷ []) _)

pub loop-own-preserved : goal.loop-own-preserved
loop-own-preserved c =
    let own : to_z w64 (of_z w64 (get_or c.as_slice-own-items.result.now c.loop-own.own-index (pos 0))) ≡ get_or c.as_slice-own-items.result.now c.loop-own.own-index (pos 0) = search rules in
    let word : to_z w64 (of_z w64 c.missing.result) ≡ c.missing.result = search rules in
    one_more c.args.size c.loop-own.left c.loop-own.own-index c.saturating_sub-left.result c.args.set.now c.as_slice-own-items.result.now c.loop-own.found c.push.new.self c.missing.result c.as_slice-own-items.ensures
    c.loop-own.invariant c.loop-own-test.true (c.missing.ensures ∙ ap (λ (x : ℤ). complement_in (min c.loop-own.left 32) x) own) (c.in_ok-push.ensures.ok ∙ ap (λ (x : ℤ). c.loop-own.found ++ x ∷ []) word) c.saturating_sub-left.ensures
