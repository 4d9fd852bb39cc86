use Rattle.std.proofs.Common.{◌≡◌, ◌-◌, []}
use Rattle.std.specs.Prelude.{map}
use Rattle.chill_tree.specs.ItemTree.{modulion_tree}
use Rattle.rules_model.specs.Reading.{repeat, push}
use Rattle.rules_model.specs.ItemReading.{modulion_piece_at}
use Rattle.chill_parser.proofs.program.each_modulion.Given as goal

-- what is still read from here is what was read from the start
abbrev pub invariant-loop : goal.invariant-loop
invariant-loop l =
    repeat (modulion_piece_at l.inner) push (l.limit - l.counter) (map modulion_tree l.modulions) l.rest ≡ repeat (modulion_piece_at l.inner) push l.limit [] l.tokens
