use Rattle.std.proofs.Common.{◌≡◌, refl, ap, sym, arith, ◌+◌, take, drop}
use Rattle.std.proofs.lemmas.Grind.{common_steps}
use Rattle.code_types.specs.Operands.{topmost}
use Rattle.machine_frames.proofs.TopmostParts.{topmost_of_topmost, part_within}
use Rattle.machine_frames.proofs.moving.part_at.Goals as goal

pub returns-then-k-count-clause-does : goal.returns-then-k-count-clause-does
returns-then-k-count-clause-does c =
    let s = c.args.top.now.stack.items in
    let one = topmost_of_topmost c.args.of s c.one-x.result c.requires.operands c.one-x.ensures in
    let within = part_within c.in-Some.k c.args.count c.args.of (topmost (1 + c.args.of) s) (omega arith) in
    λ st. rw one (grind (arith, common_steps))
