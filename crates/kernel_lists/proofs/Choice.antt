-- The best of those so far, with one more.
use Rattle.std.proofs.Common.{◌≡◌, ℕ, ◌+◌, ◌<◌, ◌≤◌, List, length, get_or, Bool, true, false, IfSome, IfNone, below_more, arith, refl, sym, ap, ◌∙◌, slice_get, Option, Some, None}
use Rattle.std.specs.Prelude.{IsFalse, if◌then◌else◌}
use Rattle.std.proofs.lemmas.Bool.Decides.{nat_tests}
use Rattle.std.proofs.lemmas.Option.{slice_get-get_or, slice_get_within, same_Some}
use Rattle.kernel_lists.specs.declared.best.Rank.{Rank}
use Rattle.kernel_lists.specs.declared.best.Best.{Best}
use Rattle.kernel_lists.specs.Best.{precedes_in, better_of, IsBest, NoneRanked, IsBestBelow, BestBelow}

-- whatever doesn't go before the second is behind what does
over : (a b r : Rank) → precedes_in a b ≡ true → precedes_in r b ≡ false → precedes_in a r ≡ true
over a b r p q = grind (arith, nat_tests)

behind : (a r : Rank) → precedes_in a r ≡ true → precedes_in r a ≡ false
behind a r p = grind (arith, nat_tests)

not_itself : (a : Rank) → precedes_in a a ≡ false
not_itself a = grind (arith, nat_tests)

module _ {X : Type 0} (rank : X → Option Rank) (xs : List X) where
  -- nothing to choose at this place
  skip : (i : ℕ) (x : X) (found : Option Best) → slice_get xs i ≡ Some x → rank x ≡ None → BestBelow rank xs i found → BestBelow rank xs (i + 1) found
  skip i x None at none h = below_more (λ k. (other : X) → slice_get xs k ≡ Some other → rank other ≡ None) i h (λ other e. ap rank (same_Some other x (sym e ∙ at)) ∙ none)
  skip i x (Some best) at none h = record {
    below = omega (arith, h.below);
    item = h.item;
    at = h.at;
    ranked = h.ranked;
    highest = below_more (λ k. (other : X) (r : Rank) → slice_get xs k ≡ Some other → rank other ≡ Some r → IsFalse (precedes_in r best.rank)) i h.highest
        (λ other r e ranked. let clash : None ≡ Some r = sym none ∙ ap rank (same_Some x other (sym at ∙ e)) ∙ ranked in cc);
    first = h.first;
  }

  -- the first to choose
  begins : (i : ℕ) (x : X) (r : Rank) → slice_get xs i ≡ Some x → rank x ≡ Some r → BestBelow rank xs i None → IsBestBelow rank xs (i + 1) (record { place = i; rank = r })
  begins i x r at ranked h = record {
    below = omega arith;
    item = x;
    at = at;
    ranked = ranked;
    highest = below_more (λ k. (other : X) (s : Rank) → slice_get xs k ≡ Some other → rank other ≡ Some s → IsFalse (precedes_in s r)) i
        (λ k low other s e ranked'. let clash : None ≡ Some s = sym (h k low other e) ∙ ranked' in cc)
        (λ other s e ranked'. let same : r ≡ s = same_Some r s (sym ranked ∙ ap rank (same_Some x other (sym at ∙ e)) ∙ ranked') in rw (← same) (not_itself r));
    first = λ k low other s e ranked'. let clash : None ≡ Some s = sym (h k low other e) ∙ ranked' in cc;
  }

  -- a better one
  takes : (i : ℕ) (x : X) (r : Rank) (best : Best) → slice_get xs i ≡ Some x → rank x ≡ Some r → precedes_in r best.rank ≡ true → IsBestBelow rank xs i best → IsBestBelow rank xs (i + 1) (record { place = i; rank = r })
  takes i x r best at ranked above h = record {
    below = omega arith;
    item = x;
    at = at;
    ranked = ranked;
    highest = below_more (λ k. (other : X) (s : Rank) → slice_get xs k ≡ Some other → rank other ≡ Some s → IsFalse (precedes_in s r)) i
        (λ k low other s e ranked'. behind r s (over r best.rank s above (h.highest k low other s e ranked')))
        (λ other s e ranked'. let same : r ≡ s = same_Some r s (sym ranked ∙ ap rank (same_Some x other (sym at ∙ e)) ∙ ranked') in rw (← same) (not_itself r));
    first = λ k low other s e ranked'. over r best.rank s above (h.highest k low other s e ranked');
  }

  -- one that isn't better
  stays : (i : ℕ) (x : X) (r : Rank) (best : Best) → slice_get xs i ≡ Some x → rank x ≡ Some r → precedes_in r best.rank ≡ false → IsBestBelow rank xs i best → IsBestBelow rank xs (i + 1) best
  stays i x r best at ranked low h = record {
    below = omega (arith, h.below);
    item = h.item;
    at = h.at;
    ranked = h.ranked;
    highest = below_more (λ k. (other : X) (s : Rank) → slice_get xs k ≡ Some other → rank other ≡ Some s → IsFalse (precedes_in s best.rank)) i h.highest
        (λ other s e ranked'. let same : r ≡ s = same_Some r s (sym ranked ∙ ap rank (same_Some x other (sym at ∙ e)) ∙ ranked') in rw (← same) low);
    first = h.first;
  }

  compared : (i : ℕ) (x : X) (r : Rank) (best : Best) (t : Bool) → slice_get xs i ≡ Some x → rank x ≡ Some r → precedes_in r best.rank ≡ t → IsBestBelow rank xs i best
      → BestBelow rank xs (i + 1) (if t then Some (record { place = i; rank = r }) else Some best)
  compared i x r best true at ranked is h = takes i x r best at ranked is h
  compared i x r best false at ranked is h = stays i x r best at ranked is h

  better_by : (i : ℕ) (x : X) (found : Option Best) (r : Option Rank) → slice_get xs i ≡ Some x → rank x ≡ r → BestBelow rank xs i found → BestBelow rank xs (i + 1) (better_of found i r)
  better_by i x found None at is h = skip i x found at is h
  better_by i x None (Some r) at is h = begins i x r at is h
  better_by i x (Some best) (Some r) at is h = compared i x r best (precedes_in r best.rank) at is refl h

  -- the step of a loop that looks for the best
  pub one_more : (i : ℕ) (x : X) (found : Option Best) → i < length xs → x ≡ get_or xs i x → BestBelow rank xs i found → BestBelow rank xs (i + 1) (better_of found i (rank x))
  one_more i x found low is h = better_by i x found (rank x) (slice_get-get_or xs i x low ∙ ap (λ (y : X). Some y) (sym is)) refl h

  -- its end
  pub best_of_all : (n : ℕ) (found : Option Best) → length xs ≤ n → BestBelow rank xs n found → IfSome found (IsBest rank xs)
  best_of_all n None long h = tt
  best_of_all n (Some best) long h = record {
    item = h.item;
    at = h.at;
    ranked = h.ranked;
    highest = λ k other r e ranked. h.highest k (omega (arith, slice_get_within xs k other e)) other r e ranked;
    first = λ k other r low e ranked. h.first k low other r e ranked;
  }

  pub none_of_all : (n : ℕ) (found : Option Best) → length xs ≤ n → BestBelow rank xs n found → IfNone found (NoneRanked rank xs)
  none_of_all n None long h = λ k other e. h k (omega (arith, slice_get_within xs k other e)) other e
  none_of_all n (Some best) long h = tt
