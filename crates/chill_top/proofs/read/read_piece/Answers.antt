use Rattle.std.proofs.Common.{rules, arith}
use Rattle.chill_top.proofs.Pieces.{IsFront-next, ended}
use Rattle.chill_top.proofs.read.read_piece.Goals as goal

-- the piece stands behind what was read
pub returns-clause-front : goal.returns-clause-front
returns-clause-front g c =
    IsFront-next _ _ c.args.text.now.items _ c.read.new.into _ _ (c.in_ok-count.ensures.same c.args.name.now) (search rules) c.requires.front c.in_ok-count.ensures.gives c.in_ok-count.ensures.bound.0 c.in_ok-extend_from_slice.ensures.items

-- the file ended
pub returns-then-count-eq0-clause-end : goal.returns-then-count-eq0-clause-end
returns-then-count-eq0-clause-end g c =
    ended (g.L.Library.contents c.args.library.now c.args.name.now) c.args.text.now.items c.read.new.into _ c.in_ok-count.count (search rules) c.requires.front c.in_ok-count.ensures.gives (omega arith) (omega arith)
