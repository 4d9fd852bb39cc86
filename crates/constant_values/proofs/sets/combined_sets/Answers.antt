use Rattle.std.proofs.Common.{◌≡◌, ◌∙◌, sym, ap, rules, ◌++◌, ◌∷◌, [], List, ◌+◌, ◌≤◌, ℤ, ℕ, pos, drop, get_or, length, ◌<◌, to_z, of_z, w64, append_assoc, append-nil, arith}
use Rattle.scalar_operators.specs.Members.{by_pairs}
use Rattle.constant_values.specs.Sets.{word_operator}
use Rattle.constant_values.proofs.SetWords.{pairs_more, pairs_end}
use Rattle.constant_values.proofs.sets.combined_sets.Goals as goal

all_done : (f : ℤ → ℤ → ℤ) (i : ℕ) (xs ys items found : List ℤ) → by_pairs f xs ys ≡ found ++ by_pairs f (drop i xs) (drop i ys) → items ≡ ys → length items ≤ i → found ≡ by_pairs f xs ys
all_done f i xs ys items found inv same beyond =
    let past : length ys ≤ i = omega (arith, ap (λ (l : List ℤ). length l) same, beyond) in
    sym (inv ∙ ap (λ (l : List ℤ). found ++ l) (pairs_end f i xs ys past) ∙ append-nil found)

one_more : (f : ℤ → ℤ → ℤ) (i : ℕ) (xs ys mine theirs found new : List ℤ) (word : ℤ) → by_pairs f xs ys ≡ found ++ by_pairs f (drop i xs) (drop i ys) → mine ≡ xs → theirs ≡ ys → i < length mine → i < length theirs
    → word ≡ f (get_or mine i (pos 0)) (get_or theirs i (pos 0)) → new ≡ found ++ word ∷ [] → by_pairs f xs ys ≡ new ++ by_pairs f (drop (i + 1) xs) (drop (i + 1) ys)
one_more f i xs ys mine theirs found new word inv m t here there w n =
    let one : i < length xs = omega (arith, ap (λ (l : List ℤ). length l) m, here) in
    let other : i < length ys = omega (arith, ap (λ (l : List ℤ). length l) t, there) in
    let own : word ≡ f (get_or xs i (pos 0)) (get_or ys i (pos 0)) = w ∙ ap (λ (l : List ℤ). f (get_or l i (pos 0)) (get_or theirs i (pos 0))) m ∙ ap (λ (l : List ℤ). f (get_or xs i (pos 0)) (get_or l i (pos 0))) t in
    inv ∙ ap (λ (l : List ℤ). found ++ l) (pairs_more f i xs ys (pos 0) one other ∙ ap (λ (x : ℤ). x ∷ by_pairs f (drop (i + 1) xs) (drop (i + 1) ys)) (sym own))
    ∙ sym (ap (λ (l : List ℤ). l ++ by_pairs f (drop (i + 1) xs) (drop (i + 1) ys)) n ∙ append_assoc found (word ∷ []) _)

pub returns-then-place-theirs : goal.returns-then-place-theirs
returns-then-place-theirs c =
    all_done (word_operator c.args.operator) c.loop-place.place c.args.left.now c.args.right.now c.as_slice-theirs.result.now c.loop-place.found c.loop-place.invariant c.as_slice-theirs.ensures c.if-place-theirs.true

pub loop-place-preserved : goal.loop-place-preserved
loop-place-preserved c =
    let mine : to_z w64 (of_z w64 (get_or c.as_slice-one-items.result.now c.loop-place.place (pos 0))) ≡ get_or c.as_slice-one-items.result.now c.loop-place.place (pos 0) = search rules in
    let theirs : to_z w64 (of_z w64 (get_or c.as_slice-theirs.result.now c.loop-place.place (pos 0))) ≡ get_or c.as_slice-theirs.result.now c.loop-place.place (pos 0) = search rules in
    let word : to_z w64 (of_z w64 c.word.result) ≡ c.word.result = search rules in
    one_more (word_operator c.args.operator) c.loop-place.place c.args.left.now c.args.right.now c.as_slice-one-items.result.now c.as_slice-theirs.result.now c.loop-place.found c.push.new.self c.word.result
    c.loop-place.invariant c.as_slice-one-items.ensures c.as_slice-theirs.ensures c.loop-place-test.true c.if-place-theirs.false
    (c.word.ensures ∙ ap (λ (x : ℤ). word_operator c.args.operator x (to_z w64 (of_z w64 (get_or c.as_slice-theirs.result.now c.loop-place.place (pos 0))))) mine
    ∙ ap (λ (x : ℤ). word_operator c.args.operator (get_or c.as_slice-one-items.result.now c.loop-place.place (pos 0)) x) theirs) (c.in_ok-push.ensures.ok ∙ ap (λ (x : ℤ). c.loop-place.found ++ x ∷ []) word)
