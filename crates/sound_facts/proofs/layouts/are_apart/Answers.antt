use Rattle.std.proofs.Common.{◌≡◌, ◌+◌, ◌-◌, ℕ, length, take, drop, subst, arith}
use Rattle.std.specs.Prelude.{AllPairs}
use Rattle.kernel_base.specs.Facts.{ShareNoBit}
use Rattle.sound_facts.proofs.PowersetLemmas.{refuted, granted}
use Rattle.sound_facts.proofs.PlaceLemmas.{apart_more, apart_here, rest_is}
use Rattle.sound_facts.proofs.layouts.are_apart.Goals as goal

pub places-preserved : goal.places-preserved
places-preserved c =
    let layout = c.args.layout.now in
    let left : ℕ = c.places.left - 1 in
    let same : c.places.left ≡ left + 1 = omega arith in
    let behind : AllPairs ShareNoBit (drop (left + 1) layout) = subst (λ (n : ℕ). AllPairs ShareNoBit (drop n layout)) same c.places.invariant.apart in
    record {
      low = omega arith;
      apart = apart_more layout (take (length layout - (left + 1)) (drop (left + 1) layout)) left (omega arith) (rest_is layout (left + 1)) (c.is_apart.ensures.0 c.if-not-is_apart.false) behind;
    }

pub returns-then-not-is_apart : goal.returns-then-not-is_apart
returns-then-not-is_apart c = refuted (λ apart.
    let layout = c.args.layout.now in
    let left : ℕ = c.places.left - 1 in
    let yes = c.is_apart.ensures.1 (apart_here layout (take (length layout - (left + 1)) (drop (left + 1) layout)) left (omega arith) (rest_is layout (left + 1)) apart) in
    let no = c.if-not-is_apart.true in cc)

pub returns : goal.returns
returns c =
    let none : c.places.left ≡ 0 = omega arith in
    granted (subst (λ (n : ℕ). AllPairs ShareNoBit (drop n c.args.layout.now)) none c.places.invariant.apart)
