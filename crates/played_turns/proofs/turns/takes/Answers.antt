use Rattle.played_turns.proofs.turns.takes.Goals as goal

pub returns : goal.returns
returns c = c.answer.ensures.runs c.args.guarded.now c.requires
