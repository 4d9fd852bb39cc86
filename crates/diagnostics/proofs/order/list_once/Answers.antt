use Rattle.std.specs.Cmp.{Equal-is}
use Rattle.std.specs.Ordering.{eq_by_cmp, is_lt}
use Rattle.std.proofs.Common.{refl, rules}
use Rattle.std.proofs.lemmas.Cmp.{eq_by_cmp_equiv}
use Rattle.std.proofs.lemmas.Fn.{always_returns_same, dedup_same}
use Rattle.std.proofs.lemmas.List.Kept.{Contains-dedup, Contains-from_dedup, IsStrictlySortedBy-dedup}
use Rattle.std.proofs.lemmas.List.Sorted.{Contains-permutation, IsPermutation-sym, ranks_by}
use Rattle.diagnostics.specs.Order.{diagnostic_cmp}
use Rattle.diagnostics.proofs.Apart.{diagnostic_total, told_apart}
use Rattle.diagnostics.proofs.Ordered.{listed_is, in_from_contains, contains_from_in}
use Rattle.diagnostics.proofs.order.list_once.Goals as goal

-- sorted, and without repeats, the list has the members that it had
pub returns : goal.returns
returns c =
    let o = diagnostic_total in
    let sorted = c.sort_unstable_by.ensures.sorted (λ x y. is_lt (diagnostic_cmp x y)) (ranks_by o (λ x. x)) (always_returns_same _ _ _ (λ a r f k. search rules)) in
    let is = dedup_same _ (eq_by_cmp diagnostic_cmp) _ (λ x y b f x' y' k. search rules) _ _ c.dedup_by.ensures.filtered in
    let moved = c.sort_unstable_by.ensures.permutation in
    listed_is o told_apart _ _
    (rw is (IsStrictlySortedBy-dedup o (λ a b. refl) _ sorted))
    (record {
      there = λ x h. rw is (in_from_contains _ x (Contains-dedup (eq_by_cmp_equiv o) (λ a b e. told_apart a b ((Equal-is (diagnostic_cmp a b)).0 e)) _ x (Contains-permutation _ _ x moved (contains_from_in _ x h))));
      back = λ x h. in_from_contains _ x (Contains-permutation _ _ x (IsPermutation-sym _ _ moved) (Contains-from_dedup _ _ x (contains_from_in _ x (rw is at h))));
    })
