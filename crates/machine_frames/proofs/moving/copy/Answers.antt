use Rattle.std.proofs.Common.{◌≡◌, refl, ap, sym, arith}
use Rattle.std.proofs.lemmas.Grind.{common_steps}
use Rattle.machine_frames.proofs.TopmostParts.{topmost_again}
use Rattle.machine_frames.proofs.moving.copy.Goals as goal

pub returns-clause-does : goal.returns-clause-does
returns-clause-does c = let again = topmost_again c.args.n c.args.top.now.stack.items in λ s. grind (arith, common_steps)
