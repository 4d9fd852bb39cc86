use Rattle.std.proofs.Common.{ℕ, map, ◌+◌, OnOk, ap, sym, subst, ◌∙◌, rules, w64}
use mir.Val.{SFits}
use Rattle.std.proofs.lemmas.Int.{to_z-of_z}
use Rattle.std.proofs.lemmas.Result.{on_ok_weaker}
use Rattle.checked_program.specs.declared.expr.Expr.{Expr}
use Rattle.checked_program.specs.declared.expr.Location.{Location}
use Rattle.program_trees.specs.ExprTree.{expr_tree, location_tree, received_of}
use Rattle.program_trees.specs.ProgramTree.{local_row_tree}
use Rattle.code_scheme.specs.Pieces.{capped, bounds_of_value, contents_code}
use Rattle.code_scheme.specs.ExprSizes.{expr_size}
use Rattle.code_scheme.specs.ExprCode.{members_code, counts_of}
use Rattle.expr_gen.specs.Putting.{Appends, layout_of}
use Rattle.expr_gen.specs.Trees.{ranges_of}
use Rattle.expr_gen.proofs.Appending.{and_then, kept_on}
use Rattle.expr_gen.proofs.Made.{moved, indices_turn, indices_done, received_turn, received_done, members_turn, members_done, arguments_turn, arguments_done, places_turn, places_done}
use Rattle.expr_gen.proofs.Told.{constant_told, this_told, get_told, contents_told, part_told, receive_told, start_expr_told, call_expr_told, powerset_told, parts_told, uniform_told, uniform_count, routine_told, prefixed_told, binary_told, received_told, place_indexed, place_zero, place_none, start_told, alone_told, between_told, in_told, out_told, inout_told, call_told, field_told, element_told}
use Rattle.expr_gen.proofs.values.+value.Goals as goal

pub put_indices-loop-part-preserved : goal.put_indices-loop-part-preserved
put_indices-loop-part-preserved t c = record {
  left = indices_turn _ _ c.loop-part.is_first c.is_still_first-is_first.result c.args.parts.now c.loop-part.part-index c.part-item.result c.loop-part-test.true c.part-item.is c.is_still_first-is_first.ensures c.loop-part.invariant.left c.in_ok-put_index.ensures.puts;
  keeps = kept_on c.loop-part.invariant.keeps c.in_ok-put_index.ensures.keeps;
}

pub put_indices-returns-clause-puts : goal.put_indices-returns-clause-puts
put_indices-returns-clause-puts t c = indices_done _ _ c.loop-part.is_first c.args.parts.now c.loop-part.part-index c.loop-part-test.false c.loop-part.invariant.left

pub put_all_received-loop-received-preserved : goal.put_all_received-loop-received-preserved
put_all_received-loop-received-preserved t c = record {
  left = received_turn _ _ c.args.all.now c.loop-received.received-index c.received-item.result c.loop-received-test.true c.received-item.is c.loop-received.invariant.left c.in_ok-put_received.ensures.puts;
  keeps = kept_on c.loop-received.invariant.keeps c.in_ok-put_received.ensures.keeps;
}

pub put_all_received-returns-clause-puts : goal.put_all_received-returns-clause-puts
put_all_received-returns-clause-puts t c = received_done _ _ c.args.all.now c.loop-received.received-index c.loop-received-test.false c.loop-received.invariant.left

pub put_powerset-loop-range-preserved : goal.put_powerset-loop-range-preserved
put_powerset-loop-range-preserved t c = record {
  left = members_turn _ _ c.args.bounds c.args.members.now c.loop-range.range-index c.range-item.result c.loop-range-test.true c.range-item.is c.loop-range.invariant.left c.in_ok-put_range.ensures.puts;
  keeps = kept_on c.loop-range.invariant.keeps c.in_ok-put_range.ensures.keeps;
}

pub put_powerset-returns-clause-puts : goal.put_powerset-returns-clause-puts
put_powerset-returns-clause-puts t c = let rest = members_done _ _ c.args.bounds c.args.members.now c.loop-range.range-index c.loop-range-test.false c.loop-range.invariant.left in
    and_then c.in_ok-put.ensures.puts (moved (λ at. members_code (layout_of c.args.site.now.program.now c.args.site.now.body.now) c.args.free c.args.bounds (ranges_of c.args.members.now) at) c.in_ok-put.ensures.puts.length rest)

pub put_arguments-loop-argument-preserved : goal.put_arguments-loop-argument-preserved
put_arguments-loop-argument-preserved t c =
    let kept = c.in_ok-kept.ensures ∙ ap (λ (j : ℕ). c.loop-argument.kept + j) c.places_kept.ensures in
    record {
      left = arguments_turn _ _ c.loop-argument.parameter c.loop-argument.kept c.in_ok-parameter.parameter c.in_ok-kept.kept c.args.arguments.now c.loop-argument.argument-index c.argument-item.result
          c.loop-argument-test.true c.argument-item.is c.in_ok-parameter.ensures kept c.loop-argument.invariant.left c.in_ok-put_argument.ensures.puts;
      places = places_turn c.args.arguments.now c.loop-argument.argument-index c.argument-item.result c.loop-argument.kept c.in_ok-kept.kept _ c.loop-argument-test.true c.argument-item.is kept c.loop-argument.invariant.places;
      keeps = kept_on c.loop-argument.invariant.keeps c.in_ok-put_argument.ensures.keeps;
    }

pub put_arguments-returns-clause-puts : goal.put_arguments-returns-clause-puts
put_arguments-returns-clause-puts t c = arguments_done _ _ c.loop-argument.parameter c.loop-argument.kept c.args.arguments.now c.loop-argument.argument-index c.loop-argument-test.false c.loop-argument.invariant.left

pub put_arguments-returns-clause-kept : goal.put_arguments-returns-clause-kept
put_arguments-returns-clause-kept t c = places_done c.args.arguments.now c.loop-argument.argument-index c.loop-argument.kept _ c.loop-argument-test.false c.loop-argument.invariant.places

pub put_argument-returns-in-In-clause-puts : goal.put_argument-returns-in-In-clause-puts
put_argument-returns-in-In-clause-puts t c = on_ok_weaker c.put_received.result (λ q. in_told _ (map local_row_tree c.args.taker.locals.now) c.args.taker.parameter _ _ c.args.given.now c.in-In.received c.in-In.is q) c.put_received.ensures.puts

pub put_argument-returns-in_ok-keep_place-in-Out-clause-puts : goal.put_argument-returns-in_ok-keep_place-in-Out-clause-puts
put_argument-returns-in_ok-keep_place-in-Out-clause-puts t c = on_ok_weaker c.put_lowest.result (λ q. out_told _ (map local_row_tree c.args.taker.locals.now) c.args.taker.parameter _ c.args.given.now c.in-Out.target c.in-Out.bounds c.in-Out.is c.in_ok-put_place-in-Out.ensures.puts c.in_ok-keep_place-in-Out.ensures.puts q) c.put_lowest.ensures.puts

pub put_argument-returns-in_ok-put_contents-in-InOut-clause-puts : goal.put_argument-returns-in_ok-put_contents-in-InOut-clause-puts
put_argument-returns-in_ok-put_contents-in-InOut-clause-puts t c = on_ok_weaker c.put_check.result (λ q. inout_told _ (map local_row_tree c.args.taker.locals.now) c.args.taker.parameter _ c.args.given.now c.in-InOut.target c.in-InOut.taken c.in-InOut.bounds c.tested_in.result c.in-InOut.is c.tested_in.ensures c.in_ok-put_place-in-InOut.ensures.puts c.in_ok-keep_place-in-InOut.ensures.puts c.in_ok-put_kept-in-InOut.ensures.puts c.in_ok-put_contents-in-InOut.ensures.puts q) c.put_check.ensures.puts

pub put_call-returns-clause-puts : goal.put_call-returns-clause-puts
put_call-returns-clause-puts t c = on_ok_weaker c.put_copies_out.result (λ q. call_told _ _ c.args.call.now c.as_slice-arguments.result.now (map local_row_tree c.locals_of-locals.result.now) c.in_ok-kept.kept c.as_slice-arguments.ensures (sym c.locals_of-locals.ensures) c.in_ok-kept.ensures.kept c.in_ok-kept.ensures.puts c.in_ok-put.ensures.puts q) c.put_copies_out.ensures.puts

pub put_expr-returns-in-Constant-clause-puts : goal.put_expr-returns-in-Constant-clause-puts
put_expr-returns-in-Constant-clause-puts t c = on_ok_weaker c.put_scalars.result (λ q. constant_told _ _ _ c.args.expr.now c.in-Constant.scalars c.as_slice.result.now c.in-Constant.is c.as_slice.ensures q) c.put_scalars.ensures.puts

pub put_expr-returns-in-This-clause-puts : goal.put_expr-returns-in-This-clause-puts
put_expr-returns-in-This-clause-puts t c = on_ok_weaker c.put.result (λ q. this_told _ _ _ c.args.expr.now c.in-This.is q) c.put.ensures.puts

pub put_expr-returns-in_ok-put_place-in-Contents-clause-puts : goal.put_expr-returns-in_ok-put_place-in-Contents-clause-puts
put_expr-returns-in_ok-put_place-in-Contents-clause-puts t c =
    let contents = subst (λ (l : Location). OnOk c.put_contents.result (Appends (contents_code (layout_of c.args.site.now.program.now c.args.site.now.body.now) (location_tree l)) 1 c.put_place.new.draft.code c.put_contents.new.draft.code)) (c.deref-in-Contents.ensures ∙ sym c.deref.ensures) c.put_contents.ensures.puts in
    on_ok_weaker c.put_contents.result (λ q. contents_told _ _ c.args.expr.now c.in-Contents.location c.deref.result.now c.in-Contents.is c.deref.ensures c.in_ok-put_place-in-Contents.ensures.puts q) contents

pub put_expr-returns-in_ok-put_indices-in-PartOf-clause-puts : goal.put_expr-returns-in_ok-put_indices-in-PartOf-clause-puts
put_expr-returns-in_ok-put_indices-in-PartOf-clause-puts t c = on_ok_weaker c.put_cut.result (λ q. part_told _ _ c.args.expr.now c.in-PartOf.of c.deref-in-PartOf.result.now c.deref-in-PartOf-2.result.now c.in-PartOf.parts c.as_slice-in-PartOf.result.now c.as_slice-in-PartOf-2.result.now c.in-PartOf.is c.deref-in-PartOf.ensures c.deref-in-PartOf-2.ensures c.as_slice-in-PartOf.ensures c.as_slice-in-PartOf-2.ensures c.in_ok-put_expr-in-PartOf.ensures.puts c.in_ok-put_indices-in-PartOf.ensures.puts q) c.put_cut.ensures.puts

pub put_expr-returns-in-Receive-clause-puts : goal.put_expr-returns-in-Receive-clause-puts
put_expr-returns-in-Receive-clause-puts t c = on_ok_weaker c.put_receive.result (λ q. receive_told _ _ _ c.args.expr.now c.in-Receive.buffer c.in-Receive.is q) c.put_receive.ensures.puts

pub put_expr-returns-in-Start-clause-puts : goal.put_expr-returns-in-Start-clause-puts
put_expr-returns-in-Start-clause-puts t c = on_ok_weaker c.put_start.result (λ q. start_expr_told _ _ _ c.args.expr.now c.in-Start.start c.deref-in-Start.result.now c.in-Start.is c.deref-in-Start.ensures q) c.put_start.ensures.puts

pub put_expr-returns-in-Call-clause-puts : goal.put_expr-returns-in-Call-clause-puts
put_expr-returns-in-Call-clause-puts t c = on_ok_weaker c.put_call.result (λ q. call_expr_told _ _ _ c.args.expr.now c.in-Call.call c.deref-in-Call.result.now c.in-Call.is c.deref-in-Call.ensures q) c.put_call.ensures.puts

pub put_expr-returns-in-Powerset-clause-puts : goal.put_expr-returns-in-Powerset-clause-puts
put_expr-returns-in-Powerset-clause-puts t c = on_ok_weaker c.put_powerset.result (λ q. powerset_told _ _ _ c.args.expr.now c.in-Powerset.bounds c.in-Powerset.members c.as_slice-in-Powerset.result.now c.in-Powerset.is c.as_slice-in-Powerset.ensures q) c.put_powerset.ensures.puts

pub put_expr-returns-in-Parts-clause-puts : goal.put_expr-returns-in-Parts-clause-puts
put_expr-returns-in-Parts-clause-puts t c = on_ok_weaker c.put_all_received.result (λ q. parts_told _ _ _ c.args.expr.now c.in-Parts.parts c.as_slice-in-Parts.result.now c.in-Parts.is c.as_slice-in-Parts.ensures q) c.put_all_received.ensures.puts

pub put_expr-returns-in_ok-put_received-in-Uniform-clause-puts : goal.put_expr-returns-in_ok-put_received-in-Uniform-clause-puts
put_expr-returns-in_ok-put_received-in-Uniform-clause-puts t c = on_ok_weaker c.put_copies.result (λ q. uniform_told _ _ c.args.expr.now c.in-Uniform.elements _ c.in-Uniform.value c.in-Uniform.is (uniform_count c.in-Uniform.value c.deref-in-Uniform.result.now c.deref-in-Uniform.ensures) c.in_ok-put_received-in-Uniform.ensures.puts q) c.put_copies.ensures.puts

pub put_expr-returns-in_ok-put_expr-in-Routine-clause-puts : goal.put_expr-returns-in_ok-put_expr-in-Routine-clause-puts
put_expr-returns-in_ok-put_expr-in-Routine-clause-puts t c = on_ok_weaker c.put_routine.result (λ q. routine_told _ _ c.args.expr.now c.in-Routine.routine c.in-Routine.argument c.deref-in-Routine.result.now c.in-Routine.is c.deref-in-Routine.ensures c.in_ok-put_expr-in-Routine.ensures.puts q) c.put_routine.ensures.puts

pub put_expr-returns-in-GetInt-clause-puts : goal.put_expr-returns-in-GetInt-clause-puts
put_expr-returns-in-GetInt-clause-puts t c = on_ok_weaker c.put-in-GetInt.result (λ q. get_told _ _ _ c.args.expr.now c.in-GetInt.is q) c.put-in-GetInt.ensures.puts

pub put_expr-returns-in_ok-put_expr-in-Prefixed-clause-puts : goal.put_expr-returns-in_ok-put_expr-in-Prefixed-clause-puts
put_expr-returns-in_ok-put_expr-in-Prefixed-clause-puts t c = on_ok_weaker c.put_prefix.result (λ q. prefixed_told _ _ c.args.expr.now c.in-Prefixed.operator c.in-Prefixed.operand c.deref-in-Prefixed.result.now c.in-Prefixed.is c.deref-in-Prefixed.ensures c.in_ok-put_expr-in-Prefixed.ensures.puts q) c.put_prefix.ensures.puts

pub put_expr-returns-in_ok-put_expr-in-Binary-2-clause-puts : goal.put_expr-returns-in_ok-put_expr-in-Binary-2-clause-puts
put_expr-returns-in_ok-put_expr-in-Binary-2-clause-puts t c =
    let own = c.bounds_of_value.ensures ∙ ap (λ (e : Expr). bounds_of_value (expr_tree e)) c.deref-in-Binary-2.ensures in
    let size = c.expr_size.ensures ∙ ap (λ (e : Expr). capped (expr_size (expr_tree e))) c.deref-in-Binary-3.ensures in
    let between = c.in_ok-put_between-in-Binary.ensures.puts (expr_size (expr_tree c.in-Binary.right.value)) size in
    on_ok_weaker c.put_behind.result (λ q. binary_told _ _ c.args.expr.now c.in-Binary.operator c.in-Binary.left c.in-Binary.right c.deref-in-Binary.result.now c.deref-in-Binary-4.result.now c.deref-in-Binary-5.result.now c.bounds_of_value.result
    c.in-Binary.is c.deref-in-Binary.ensures c.deref-in-Binary-4.ensures c.deref-in-Binary-5.ensures own c.in_ok-put_expr-in-Binary.ensures.puts between c.in_ok-put_expr-in-Binary-2.ensures.puts q) c.put_behind.ensures.puts

pub put_index-returns-in-Field-clause-puts : goal.put_index-returns-in-Field-clause-puts
put_index-returns-in-Field-clause-puts t c = field_told _ _ _ c.args.is_first c.args.part.now c.in-Field.first c.in-Field.count c.in-Field.is

pub put_index-returns-in_ok-put-in-Element-clause-puts : goal.put_index-returns-in_ok-put-in-Element-clause-puts
put_index-returns-in_ok-put-in-Element-clause-puts t c =
    let low : SFits w64 c.in-Element.bounds.low = search rules in
    let high : SFits w64 c.in-Element.bounds.high = search rules in
    let index = simp to_z-of_z at c.in_ok-put-in-Element.ensures.puts in
    on_ok_weaker c.put_sum.result (λ q. element_told _ _ c.args.is_first c.args.part.now c.in-Element.index c.in-Element.bounds c.in-Element.count c.deref.result.now c.in-Element.is c.deref.ensures c.in_ok-put_expr-in-Element.ensures.puts index q) c.put_sum.ensures.puts

pub put_place-returns-then-has_index-clause-puts : goal.put_place-returns-then-has_index-clause-puts
put_place-returns-then-has_index-clause-puts t c = on_ok_weaker c.put_indices.result (λ q. place_indexed _ _ c.args.location.now c.as_slice-parts.result.now c.as_slice-parts.ensures (sym c.has_index.ensures ∙ c.if-has_index.true) q) c.put_indices.ensures.puts

pub put_place-returns-then-has_offset-clause-puts : goal.put_place-returns-then-has_offset-clause-puts
put_place-returns-then-has_offset-clause-puts t c = on_ok_weaker c.put.result (λ q. place_zero _ _ c.args.location.now c.as_slice-parts.result.now c.as_slice-parts.ensures (sym c.has_index.ensures ∙ c.if-has_index.false) (sym c.has_offset.ensures ∙ c.if-has_offset.true) q) c.put.ensures.puts

pub put_place-returns-else-has_offset-clause-puts : goal.put_place-returns-else-has_offset-clause-puts
put_place-returns-else-has_offset-clause-puts t c = place_none _ _ c.args.location.now c.as_slice-parts.result.now c.as_slice-parts.ensures (sym c.has_index.ensures ∙ c.if-has_index.false) (sym c.has_offset.ensures ∙ c.if-has_offset.false)

pub put_range-returns-in_ok-put-in-Some-clause-puts : goal.put_range-returns-in_ok-put-in-Some-clause-puts
put_range-returns-in_ok-put-in-Some-clause-puts t c =
    let low : SFits w64 c.args.bounds.low = search rules in
    let high : SFits w64 c.args.bounds.high = search rules in
    let offset = simp to_z-of_z at c.in_ok-put.ensures.puts in
    let last = simp to_z-of_z at c.in_ok-put-in-Some.ensures.puts in
    on_ok_weaker c.put_span.result (λ q. between_told _ _ c.args.bounds c.args.range.now c.deref.result.now c.deref-in-Some.result.now c.in-Some.last c.in-Some.is c.deref.ensures c.deref-in-Some.ensures c.in_ok-put_expr.ensures.puts offset c.in_ok-put_expr-in-Some.ensures.puts last q) c.put_span.ensures.puts

pub put_range-returns-in_ok-put-in-None-clause-puts : goal.put_range-returns-in_ok-put-in-None-clause-puts
put_range-returns-in_ok-put-in-None-clause-puts t c =
    let low : SFits w64 c.args.bounds.low = search rules in
    let high : SFits w64 c.args.bounds.high = search rules in
    let offset = simp to_z-of_z at c.in_ok-put.ensures.puts in
    on_ok_weaker c.put_span-in-None.result (λ q. alone_told _ _ c.args.bounds c.args.range.now c.deref.result.now c.in-None.is c.deref.ensures c.in_ok-put_expr.ensures.puts offset c.in_ok-put-in-None.ensures.puts q) c.put_span-in-None.ensures.puts

pub put_received-returns-clause-puts : goal.put_received-returns-clause-puts
put_received-returns-clause-puts t c = on_ok_weaker c.put_check.result (λ q. received_told _ _ c.args.received.now c.deref.result.now c.tested.result c.deref.ensures c.tested.ensures c.in_ok-put_expr.ensures.puts q) c.put_check.ensures.puts

pub put_start-returns-clause-puts : goal.put_start-returns-clause-puts
put_start-returns-clause-puts t c = on_ok_weaker c.put.result (λ q. start_told _ _ c.args.start.now c.as_slice-arguments.result.now c.in_ok-count.count c.as_slice-arguments.ensures (c.in_ok-count.ensures (counts_of (received_of c.as_slice-arguments.result.now)) c.scalars_of.ensures) c.in_ok-put_all_received.ensures.puts q) c.put.ensures.puts
