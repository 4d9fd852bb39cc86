use Rattle.code_guard.specs.Heights.{AreOnly, AllHoldOperands}
use Rattle.std.proofs.Common.{arith, subst, ℕ, ◌≡◌, ◌<◌, length}
use Rattle.std.proofs.lemmas.Option.{slice_get-get_or, slice_get_within}
use Rattle.code_guard.proofs.FoundHeights.{found_more, none_here, on_inside, jump_requires, row_at}
use Rattle.code_guard.proofs.heights.heights_from.Goals as goal

pub holds_operands-requires : goal.holds_operands-requires
holds_operands-requires c =
    let inside : c.loop-place.place < length c.args.owners.now = omega arith in
    let o = c.requires.owned.owns c.loop-place.place _ (slice_get-get_or c.args.owners.now c.loop-place.place 0 inside) in
    slice_get_within c.args.code.now.bodies _ o.row o.is_body

pub returns-then-not-holds_operands : goal.returns-then-not-holds_operands
returns-then-not-holds_operands c =
    let inside : c.loop-place.place < length c.args.owners.now = omega arith in
    let e = slice_get-get_or c.args.owners.now c.loop-place.place 0 inside in
    none_here c.args.code.now c.args.owners.now c.loop-place.known c.loop-place.place _ c.height_at-height.result c.at-instr.result.now c.requires.owned e c.at-instr.ensures c.loop-place.invariant.is_known c.height_at-height.ensures (λ h. let t = c.if-not-holds_operands.ensures.holds.1 h in let never : ⊥ = cc in never)

pub tell-requires-clause-on : goal.tell-requires-clause-on
tell-requires-clause-on c = λ h.
    let inside : c.loop-place.place < length c.args.owners.now = omega arith in
    let e = slice_get-get_or c.args.owners.now c.loop-place.place 0 inside in
    let count = c.loop-place.invariant.is_known.count in
    let k = on_inside c.args.code.now _ c.loop-place.place c.at-instr.result.now (c.requires.owned.owns c.loop-place.place _ e) (row_at c.args.code.now c.args.owners.now c.loop-place.place _ c.at-instr.result.now c.requires.owned c.requires.fit e c.at-instr.ensures) c.requires.rise h in
    omega arith

pub tell-requires-clause-jump : goal.tell-requires-clause-jump
tell-requires-clause-jump c =
    let inside : c.loop-place.place < length c.args.owners.now = omega arith in
    let e = slice_get-get_or c.args.owners.now c.loop-place.place 0 inside in
    jump_requires c.args.code.now _ c.loop-place.place _ c.at-instr.result.now (c.requires.owned.owns c.loop-place.place _ e) (row_at c.args.code.now c.args.owners.now c.loop-place.place _ c.at-instr.result.now c.requires.owned c.requires.fit e c.at-instr.ensures) c.requires.rise c.loop-place.invariant.is_known.count

pub loop-place-preserved : goal.loop-place-preserved
loop-place-preserved c =
    let inside : c.loop-place.place < length c.args.owners.now = omega arith in
    let e = slice_get-get_or c.args.owners.now c.loop-place.place 0 inside in
    rw (c.tell.ensures, c.height_behind-behind.ensures, c.in_ok-push.ensures.items) (found_more c.args.code.now c.args.owners.now c.loop-place.known c.loop-place.heights.items c.loop-place.place _ c.height_at-height.result c.at-instr.result.now c.requires.rise c.requires.owned c.requires.fit e c.at-instr.ensures c.loop-place.invariant c.height_at-height.ensures (c.holds_operands.ensures.holds.0 c.if-not-holds_operands.false))

pub returns : goal.returns
returns c =
    let n : c.loop-place.place ≡ length c.args.owners.now = omega arith in (
      subst (λ (k : ℕ). AreOnly c.args.code.now k c.loop-place.heights.items) n c.loop-place.invariant.only,
      subst (λ (k : ℕ). AllHoldOperands c.args.code.now c.args.owners.now k c.loop-place.heights.items) n c.loop-place.invariant.operands,
    )
