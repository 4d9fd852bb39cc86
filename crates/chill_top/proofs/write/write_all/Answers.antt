use Rattle.std.proofs.Common.{◌∙◌}
use Rattle.chill_top.proofs.Pieces.{Appends-rest}
use Rattle.chill_top.proofs.write.write_all.Goals as goal

pub puts-preserved : goal.puts-preserved
puts-preserved g c = record {
  front = Appends-rest _ _ _ c.args.text.now c.puts.done c.in_ok-done.field-0 c.puts.invariant.front c.in_ok-done.ensures.takes.2;
  stays = c.in_ok-done.ensures.cause.stays ∙ c.puts.invariant.stays;
}
