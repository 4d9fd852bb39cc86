use Rattle.std.proofs.Common.{◌-◌, length, drop}
use Rattle.expr_gen.specs.Putting.{Appends, Keeps}
use Rattle.action_gen.specs.Puts.{given_back}
use Rattle.action_gen.proofs.ways_out.put_parameters.Given as goal

abbrev pub invariant-loop-turn : goal.invariant-loop-turn
invariant-loop-turn l = record {
  made : Appends (given_back (drop (l.count - l._turn) l.parameters) (drop (l.count - l._turn) l.locals)) (length (given_back (drop (l.count - l._turn) l.parameters) (drop (l.count - l._turn) l.locals)))
      l.initial.draft.code l.draft.code;
  keeps : Keeps l.initial.draft.code l.draft.code;
}
