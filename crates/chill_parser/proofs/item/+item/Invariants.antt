use Rattle.std.proofs.Common.{◌≡◌, ◌-◌, ◌+◌, ◌*◌, []}
use Rattle.chill_tree.specs.ItemTree.{item_trees}
use Rattle.rules_model.specs.Reading.{repeat, push}
use Rattle.rules_model.specs.ItemReading.{item_at, items_at}
use Rattle.chill_parser.proofs.item.+item.Given as goal

abbrev pub decreases-each_item : goal.decreases-each_item
decreases-each_item l = 6 * l.inner + 5

abbrev pub decreases-read_item : goal.decreases-read_item
decreases-read_item l = 6 * l.inner + 4

abbrev pub decreases-block_item : goal.decreases-block_item
decreases-block_item l = 6 * l.inner + 3

abbrev pub decreases-modulion : goal.decreases-modulion
decreases-modulion l = 6 * l.inner + 2

abbrev pub decreases-read_modulion : goal.decreases-read_modulion
decreases-read_modulion l = 6 * l.inner + 1

abbrev pub decreases-read_items : goal.decreases-read_items
decreases-read_items l = 6 * l.room

-- what is still read from here is what was read from the start
abbrev pub invariant-each_item-loop : goal.invariant-each_item-loop
invariant-each_item-loop l =
    repeat (item_at l.inner (items_at l.inner)) push (l.limit - l.counter) (item_trees l.items) l.rest ≡ repeat (item_at l.inner (items_at l.inner)) push l.limit [] l.tokens
