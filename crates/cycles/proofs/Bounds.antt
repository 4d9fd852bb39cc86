-- Numbers at most others.
use Rattle.std.proofs.Common.{◌≡◌, ℕ, ◌+◌, ◌<◌, ◌≤◌, List, arith, subst, length, take, get_or}
use Rattle.std.specs.List.{All}
use Rattle.std.proofs.lemmas.List.{take_all}
use Rattle.std.proofs.lemmas.List.Elements.{All-more, All-contains}
use Rattle.cycles.specs.declared.group.Group.{Group}
use Rattle.cycles.specs.Stars.{LieBelow}

-- one more number, at most a greater one
pub more_low : (xs : List ℕ) (g h i : ℕ) → i < length xs → All (λ n. n ≤ g) (take i xs) → g ≤ h → get_or xs i 0 ≤ h → All (λ n. n ≤ h) (take (i + 1) xs)
more_low xs g h i lt all rises low = All-more (λ n. n ≤ h) xs i 0 lt (λ k d l. let a = all k d l in omega (arith, a, rises)) low

pub all_low : (xs : List ℕ) (g i : ℕ) → length xs ≤ i → All (λ n. n ≤ g) (take i xs) → All (λ n. n ≤ g) xs
all_low xs g i end all = subst (All (λ n. n ≤ g)) (take_all i xs end) all

-- all nodes of a group are at most a number
pub record IsLow (last : ℕ) (g : Group) : Type 0 where
  pub from : All (λ v. v ≤ last) g.from
  pub to : All (λ v. v ≤ last) g.to

rises : (last more : ℕ) → last ≤ more → (g : Group) → IsLow last g → IsLow more g
rises last more h g low = record {
  from = λ k d l. let a = low.from k d l in omega (arith, a, h);
  to = λ k d l. let a = low.to k d l in omega (arith, a, h);
}

pub one_more_low : (gs : List Group) (last more i : ℕ) (g : Group) → i < length gs → g ≡ get_or gs i g → All (IsLow last) (take i gs) → last ≤ more → IsLow more g → All (IsLow more) (take (i + 1) gs)
one_more_low gs last more i g lt is all h low = All-more (IsLow more) gs i g lt (λ k d l. rises last more h _ (all k d l)) (subst (IsLow more) is low)

pub lie_below : (gs : List Group) (last i : ℕ) → length gs ≤ i → All (IsLow last) (take i gs) → LieBelow (last + 1) gs
lie_below gs last i end all =
    let every = subst (All (IsLow last)) (take_all i gs end) all in
    record {
      from = λ g v c d. let low = All-contains (λ x. x ≤ last) g.from v (All-contains (IsLow last) gs g every c).from d in omega (arith, low);
      to = λ g v c d. let low = All-contains (λ x. x ≤ last) g.to v (All-contains (IsLow last) gs g every c).to d in omega (arith, low);
    }
