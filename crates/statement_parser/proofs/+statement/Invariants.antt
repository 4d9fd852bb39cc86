use Rattle.std.proofs.Common.{◌≡◌, ◌-◌, ◌+◌, ◌*◌, [], length}
use Rattle.std.specs.Prelude.{map}
use Rattle.chill_tree.specs.StatementTree.{statement_tree, branch_tree, case_tree, named_tree, receive_tree, body_tree}
use Rattle.rules_model.specs.Nesting.{less}
use Rattle.rules_model.specs.Reading.{repeat, push}
use Rattle.rules_model.specs.StatementReading.{branch_at, case_at, alternative_at, receipt_at, action_at, body_part_at, actions_at, body_at}
use Rattle.statement_parser.proofs.+statement.Given as goal

abbrev pub decreases-statement::read_actions : goal.decreases-statement::read_actions
decreases-statement::read_actions l = 20 * l.room + 1

abbrev pub decreases-statement::read_body : goal.decreases-statement::read_body
decreases-statement::read_body l = 20 * l.room + 1

abbrev pub decreases-alternative::read_otherwise : goal.decreases-alternative::read_otherwise
decreases-alternative::read_otherwise l = 20 * l.inner + 2

abbrev pub decreases-alternative::branch : goal.decreases-alternative::branch
decreases-alternative::branch l = 20 * l.inner + 2

abbrev pub decreases-alternative::case : goal.decreases-alternative::case
decreases-alternative::case l = 20 * l.inner + 2

abbrev pub decreases-alternative::alternative : goal.decreases-alternative::alternative
decreases-alternative::alternative l = 20 * l.inner + 2

abbrev pub decreases-alternative::receipt : goal.decreases-alternative::receipt
decreases-alternative::receipt l = 20 * l.inner + 2

abbrev pub decreases-alternative::read_branches : goal.decreases-alternative::read_branches
decreases-alternative::read_branches l = 20 * l.inner + 3

abbrev pub decreases-alternative::read_cases : goal.decreases-alternative::read_cases
decreases-alternative::read_cases l = 20 * l.inner + 3

abbrev pub decreases-alternative::read_alternatives : goal.decreases-alternative::read_alternatives
decreases-alternative::read_alternatives l = 20 * l.inner + 3

abbrev pub decreases-alternative::read_receipts : goal.decreases-alternative::read_receipts
decreases-alternative::read_receipts l = 20 * l.inner + 3

abbrev pub decreases-bracketed::if_end : goal.decreases-bracketed::if_end
decreases-bracketed::if_end l = 20 * l.inner + 4

abbrev pub decreases-bracketed::case_end : goal.decreases-bracketed::case_end
decreases-bracketed::case_end l = 20 * l.inner + 4

abbrev pub decreases-bracketed::delay_end : goal.decreases-bracketed::delay_end
decreases-bracketed::delay_end l = 20 * l.inner + 4

abbrev pub decreases-bracketed::receive_end : goal.decreases-bracketed::receive_end
decreases-bracketed::receive_end l = 20 * l.inner + 4

abbrev pub decreases-handler::read_handler : goal.decreases-handler::read_handler
decreases-handler::read_handler l = 20 * l.inner + 4

abbrev pub decreases-bracketed::if_then : goal.decreases-bracketed::if_then
decreases-bracketed::if_then l = 20 * l.inner + 5

abbrev pub decreases-bracketed::case_of : goal.decreases-bracketed::case_of
decreases-bracketed::case_of l = 20 * l.inner + 5

abbrev pub decreases-bracketed::do_loop : goal.decreases-bracketed::do_loop
decreases-bracketed::do_loop l = 20 * l.inner + 5

abbrev pub decreases-bracketed::begin_end : goal.decreases-bracketed::begin_end
decreases-bracketed::begin_end l = 20 * l.inner + 5

abbrev pub decreases-bracketed::delay_case : goal.decreases-bracketed::delay_case
decreases-bracketed::delay_case l = 20 * l.inner + 5

abbrev pub decreases-bracketed::receive_case : goal.decreases-bracketed::receive_case
decreases-bracketed::receive_case l = 20 * l.inner + 5

abbrev pub decreases-bracketed::read_bracketed : goal.decreases-bracketed::read_bracketed
decreases-bracketed::read_bracketed l = 20 * l.inner + 6

abbrev pub decreases-statement::holding : goal.decreases-statement::holding
decreases-statement::holding l = 20 * l.inner + 7

abbrev pub decreases-statement::labelled : goal.decreases-statement::labelled
decreases-statement::labelled l = 20 * l.inner + 8

abbrev pub decreases-statement::unlabelled : goal.decreases-statement::unlabelled
decreases-statement::unlabelled l = 20 * l.inner + 8

abbrev pub decreases-statement::read_statement : goal.decreases-statement::read_statement
decreases-statement::read_statement l = 20 * l.inner + 9

abbrev pub decreases-statement::action : goal.decreases-statement::action
decreases-statement::action l = 20 * l.inner + 10

abbrev pub decreases-statement::body_part : goal.decreases-statement::body_part
decreases-statement::body_part l = 20 * l.inner + 10

abbrev pub decreases-statement::statements : goal.decreases-statement::statements
decreases-statement::statements l = 20 * l.inner + 11

abbrev pub decreases-statement::body_parts : goal.decreases-statement::body_parts
decreases-statement::body_parts l = 20 * l.inner + 11

-- what is still read from here is what was read from the start
abbrev pub invariant-alternative::read_branches-loop : goal.invariant-alternative::read_branches-loop
invariant-alternative::read_branches-loop l =
    repeat (branch_at (less l.inner) (actions_at l.inner) l.opened) push (length l.tokens - l.counter) (map branch_tree l.items) l.rest ≡ repeat (branch_at (less l.inner) (actions_at l.inner) l.opened) push (length l.tokens) [] l.tokens

abbrev pub invariant-alternative::read_cases-loop : goal.invariant-alternative::read_cases-loop
invariant-alternative::read_cases-loop l =
    repeat (case_at (less l.inner) (actions_at l.inner) l.opened) push (length l.tokens - l.counter) (map case_tree l.items) l.rest ≡ repeat (case_at (less l.inner) (actions_at l.inner) l.opened) push (length l.tokens) [] l.tokens

abbrev pub invariant-alternative::read_alternatives-loop : goal.invariant-alternative::read_alternatives-loop
invariant-alternative::read_alternatives-loop l =
    repeat (alternative_at (actions_at l.inner) l.opened) push (length l.tokens - l.counter) (map named_tree l.items) l.rest ≡ repeat (alternative_at (actions_at l.inner) l.opened) push (length l.tokens) [] l.tokens

abbrev pub invariant-alternative::read_receipts-loop : goal.invariant-alternative::read_receipts-loop
invariant-alternative::read_receipts-loop l =
    repeat (receipt_at (actions_at l.inner) l.opened) push (length l.tokens - l.counter) (map receive_tree l.items) l.rest ≡ repeat (receipt_at (actions_at l.inner) l.opened) push (length l.tokens) [] l.tokens

abbrev pub invariant-statement::statements-loop : goal.invariant-statement::statements-loop
invariant-statement::statements-loop l =
    repeat (action_at l.inner (actions_at l.inner) (body_at l.inner)) push (length l.tokens - l.counter) (map statement_tree l.items) l.rest ≡ repeat (action_at l.inner (actions_at l.inner) (body_at l.inner)) push (length l.tokens) [] l.tokens

abbrev pub invariant-statement::body_parts-loop : goal.invariant-statement::body_parts-loop
invariant-statement::body_parts-loop l =
    repeat (body_part_at l.inner (actions_at l.inner) (body_at l.inner)) push (length l.tokens - l.counter) (map body_tree l.items) l.rest ≡ repeat (body_part_at l.inner (actions_at l.inner) (body_at l.inner)) push (length l.tokens) [] l.tokens
