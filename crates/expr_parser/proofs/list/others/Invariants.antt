use Rattle.std.proofs.Common.{◌≡◌, ◌-◌, map}
use Rattle.rules_model.specs.Reading.{repeat, push, another_at}
use Rattle.expr_parser.proofs.list.others.Given as goal

-- what is still read from here is what was read from the start
abbrev pub invariant-loop : goal.invariant-loop
invariant-loop g l =
    repeat (another_at (g.L.Listed.reads l.listed)) push (l.limit - l.counter) (map g.L.Listed.tree l.items) l.rest ≡ repeat (another_at (g.L.Listed.reads l.listed)) push l.limit (map g.L.Listed.tree l.fn.first) l.tokens
