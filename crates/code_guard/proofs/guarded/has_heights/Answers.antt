use Rattle.std.proofs.Common.{◌≡◌, ℕ, List, length, subst, sym}
use Rattle.code_guard.specs.Heights.{AreOnly, AllHoldOperands}
use Rattle.code_guard.proofs.FoundHeights.{heights_from, rest_of}
use Rattle.code_guard.proofs.guarded.has_heights.Goals as goal

pub returns-in-Some : goal.returns-in-Some
returns-in-Some c =
    let found = rw c.in-Some.is at c.in_ok-heights.ensures in
    let same : c.deref.result.now ≡ c.in-Some.heights.items = c.deref.ensures.value in
    let only : AreOnly c.args.code.now (length c.args.owners.now) c.deref.result.now = subst (λ (h : List ℕ). AreOnly c.args.code.now (length c.args.owners.now) h) (sym same) found.0 in
    let all : AllHoldOperands c.args.code.now c.args.owners.now (length c.args.owners.now) c.deref.result.now = subst (λ (h : List ℕ). AllHoldOperands c.args.code.now c.args.owners.now (length c.args.owners.now) h) (sym same) found.1 in (
      (λ it. (c.deref.result.now, heights_from c.args.code.now c.args.owners.now c.deref.result.now c.requires.rise c.requires.owned only all (c.meet_rest.ensures.0 it))),
      (λ has. c.meet_rest.ensures.1 (rest_of c.args.code.now c.args.owners.now c.deref.result.now c.requires.owned only has)),
    )
