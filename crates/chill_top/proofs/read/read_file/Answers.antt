use Rattle.std.proofs.Common.{arith}
use Rattle.chill_top.proofs.Pieces.{reading-whole, reading-front}
use Rattle.chill_top.proofs.read.read_file.Goals as goal

-- it was read as far as it goes
pub returns-clause-text : goal.returns-clause-text
returns-clause-text g c = rw (← c.pieces.invariant.same c.args.name.now) (reading-front _ c.args.most c.pieces.text.items c.requires.some (omega arith) c.pieces.invariant.front)

-- the file ended
pub returns-then-not-branch-clause-text : goal.returns-then-not-branch-clause-text
returns-then-not-branch-clause-text g c =
    let ended = rw c.if-not-branch.true at c.in_ok-read_piece.ensures.end in
    rw (← c.pieces.invariant.same c.args.name.now) (reading-whole _ c.args.most c.read_piece.new.text.items ended)
