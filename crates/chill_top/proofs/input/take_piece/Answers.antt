use Rattle.chill_top.proofs.InputLemmas.{taken_next}
use Rattle.chill_top.proofs.input.take_piece.Goals as goal

pub returns-clause-taken : goal.returns-clause-taken
returns-clause-taken g c = λ told taken. taken_next told _ _ c.args.input.now.items _ c.take.new.into _ taken c.in_ok-count.ensures.hands c.in_ok-extend_from_slice.ensures.items
