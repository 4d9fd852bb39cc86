use Rattle.std.proofs.Common.{◌≡◌, length, ap, arith}
use Rattle.chill_top.proofs.InputLemmas.{input_whole, input_front}
use Rattle.chill_top.proofs.input.read_input.Goals as goal

-- it was read as far as it goes
pub returns-clause-input : goal.returns-clause-input
returns-clause-input g c = input_front _ _ c.pieces.input.items (omega arith) c.pieces.invariant.taken

-- the input ended
pub returns-then-not-branch-clause-input : goal.returns-then-not-branch-clause-input
returns-then-not-branch-clause-input g c =
    let ended = rw c.if-not-branch.true at c.in_ok-take_piece.ensures.end in
    let kept : c.take_piece.new.input.items ≡ c.pieces.input.items = rw c.if-not-branch.true at c.in_ok-take_piece.ensures.kept in
    input_whole _ c.take_piece.new.input.items (omega (arith, ap length kept, c.pieces.invariant.fits)) (ended _ c.pieces.invariant.taken)
