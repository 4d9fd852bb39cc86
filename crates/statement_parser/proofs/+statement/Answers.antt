use Rattle.std.proofs.Common.{◌≡◌, ◌<◌, length, arith}
use Rattle.std.specs.Prelude.{map}
use Rattle.std.proofs.lemmas.List.{map_push}
use Rattle.chill_tree.specs.StatementTree.{statement_tree, branch_tree, case_tree, named_tree, receive_tree, body_tree}
use Rattle.rules_model.specs.Nesting.{less}
use Rattle.rules_model.specs.Reading.{push}
use Rattle.rules_model.specs.StatementReading.{branch_at, case_at, alternative_at, receipt_at, action_at, body_part_at, actions_at, body_at}
use Rattle.expr_parser.proofs.Repeats.{goes_on_by}
use Rattle.statement_parser.proofs.+statement.Goals as goal

pub alternative::read_branches-loop-preserved : goal.alternative::read_branches-loop-preserved
alternative::read_branches-loop-preserved t c =
    goes_on_by (branch_at (less c.args.inner) (actions_at c.args.inner) c.args.opened) push (length c.args.tokens.now) _ (λ x. (branch_tree x.0, x.1.now)) c.loop.counter (map branch_tree c.loop.items) (map branch_tree c.push.new.self) c.loop.rest.now c.in_ok-item.field-0 (c.in-Some.item, c.in-Some.after) (let lt : c.loop.counter < length c.args.tokens.now = omega arith in lt) c.in_ok-item.ensures c.in-Some.is (let e : map branch_tree c.push.new.self ≡ push (map branch_tree c.loop.items) (branch_tree c.in-Some.item) = rw c.in_ok-push.ensures.ok (map_push branch_tree c.loop.items c.in-Some.item) in e) c.loop.invariant

pub alternative::read_cases-loop-preserved : goal.alternative::read_cases-loop-preserved
alternative::read_cases-loop-preserved t c =
    goes_on_by (case_at (less c.args.inner) (actions_at c.args.inner) c.args.opened) push (length c.args.tokens.now) _ (λ x. (case_tree x.0, x.1.now)) c.loop.counter (map case_tree c.loop.items) (map case_tree c.push.new.self) c.loop.rest.now c.in_ok-item.field-0 (c.in-Some.item, c.in-Some.after) (let lt : c.loop.counter < length c.args.tokens.now = omega arith in lt) c.in_ok-item.ensures c.in-Some.is (let e : map case_tree c.push.new.self ≡ push (map case_tree c.loop.items) (case_tree c.in-Some.item) = rw c.in_ok-push.ensures.ok (map_push case_tree c.loop.items c.in-Some.item) in e) c.loop.invariant

pub alternative::read_alternatives-loop-preserved : goal.alternative::read_alternatives-loop-preserved
alternative::read_alternatives-loop-preserved t c =
    goes_on_by (alternative_at (actions_at c.args.inner) c.args.opened) push (length c.args.tokens.now) _ (λ x. (named_tree x.0, x.1.now)) c.loop.counter (map named_tree c.loop.items) (map named_tree c.push.new.self) c.loop.rest.now c.in_ok-item.field-0 (c.in-Some.item, c.in-Some.after) (let lt : c.loop.counter < length c.args.tokens.now = omega arith in lt) c.in_ok-item.ensures c.in-Some.is (let e : map named_tree c.push.new.self ≡ push (map named_tree c.loop.items) (named_tree c.in-Some.item) = rw c.in_ok-push.ensures.ok (map_push named_tree c.loop.items c.in-Some.item) in e) c.loop.invariant

pub alternative::read_receipts-loop-preserved : goal.alternative::read_receipts-loop-preserved
alternative::read_receipts-loop-preserved t c =
    goes_on_by (receipt_at (actions_at c.args.inner) c.args.opened) push (length c.args.tokens.now) _ (λ x. (receive_tree x.0, x.1.now)) c.loop.counter (map receive_tree c.loop.items) (map receive_tree c.push.new.self) c.loop.rest.now c.in_ok-item.field-0 (c.in-Some.item, c.in-Some.after) (let lt : c.loop.counter < length c.args.tokens.now = omega arith in lt) c.in_ok-item.ensures c.in-Some.is (let e : map receive_tree c.push.new.self ≡ push (map receive_tree c.loop.items) (receive_tree c.in-Some.item) = rw c.in_ok-push.ensures.ok (map_push receive_tree c.loop.items c.in-Some.item) in e) c.loop.invariant

pub statement::statements-loop-preserved : goal.statement::statements-loop-preserved
statement::statements-loop-preserved t c =
    goes_on_by (action_at c.args.inner (actions_at c.args.inner) (body_at c.args.inner)) push (length c.args.tokens.now) _ (λ x. (statement_tree x.0, x.1.now)) c.loop.counter (map statement_tree c.loop.items) (map statement_tree c.push.new.self) c.loop.rest.now c.in_ok-item.field-0 (c.in-Some.item, c.in-Some.after) (let lt : c.loop.counter < length c.args.tokens.now = omega arith in lt) c.in_ok-item.ensures c.in-Some.is (let e : map statement_tree c.push.new.self ≡ push (map statement_tree c.loop.items) (statement_tree c.in-Some.item) = rw c.in_ok-push.ensures.ok (map_push statement_tree c.loop.items c.in-Some.item) in e) c.loop.invariant

pub statement::body_parts-loop-preserved : goal.statement::body_parts-loop-preserved
statement::body_parts-loop-preserved t c =
    goes_on_by (body_part_at c.args.inner (actions_at c.args.inner) (body_at c.args.inner)) push (length c.args.tokens.now) _ (λ x. (body_tree x.0, x.1.now)) c.loop.counter (map body_tree c.loop.items) (map body_tree c.push.new.self) c.loop.rest.now c.in_ok-item.field-0 (c.in-Some.item, c.in-Some.after) (let lt : c.loop.counter < length c.args.tokens.now = omega arith in lt) c.in_ok-item.ensures c.in-Some.is (let e : map body_tree c.push.new.self ≡ push (map body_tree c.loop.items) (body_tree c.in-Some.item) = rw c.in_ok-push.ensures.ok (map_push body_tree c.loop.items c.in-Some.item) in e) c.loop.invariant
