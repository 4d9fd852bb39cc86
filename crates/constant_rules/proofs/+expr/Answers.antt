use Rattle.std.proofs.Common.{◌≡◌, ◌+◌, ◌<◌, true, false, Bool, List, [], ◌∷◌, ◌++◌, Some, None, length, drop, ap, sym, subst, ◌∙◌, rules, arith}
use Rattle.std.specs.Prelude.{◌&&◌, if◌then◌else◌}
use Rattle.chill_base.specs.declared.pos.Pos.{Pos}
use Rattle.chill_tree.specs.declared.tree.expr.Expr.{Expr}
use Rattle.chill_tree.specs.declared.tree.expr.ValueRange.{out-ValueRange}
use Rattle.chill_tree.specs.ExprTree.{character, text, this_instance, receive, name, apply, place_of, expr_tree, boxed_expr, expr_nodes, expr_trees, range_nodes, range_trees}
use Rattle.chill_tree.proofs.ExprViews.{tree-character, tree-text, tree-this_instance, tree-receive, tree-name, tree-apply, tree-binary, tree-tuple, tree-uniform}
use Rattle.modes.specs.ModeTree.{mode_tree}
use Rattle.modes.specs.Form.{form_of}
use Rattle.class_operators.specs.Predefined.{predefined_tree}
use Rattle.checks_model.specs.Ground.{mode_of_name}
use Rattle.checks_model.specs.Classes.{class_of, count_exprs, part_mode, shape_fits}
use Rattle.checks_model.specs.Constants.{constant_of, has_form, have_form, is_value_routine}
use Rattle.checks_model.specs.Operations.{is_measuring}
use Rattle.checks_model.specs.ConstantRules.{told_of_constants, told_in_each}
use Rattle.constant_operators.specs.Grounds.{ground_of, predefined_named}
use Rattle.constant_rules.specs.Walks.{FindsExpr, FindsRoutine, minus_literal}
use Rattle.constant_rules.specs.Found.{Varies}
use Rattle.constant_rules.specs.Parts.{array_parts}
use Rattle.constant_rules.proofs.OfExprs.{prefixed_found}
use Rattle.constant_rules.proofs.OfNodes.{counted, wrong_number, value_found, measure_found}
use Rattle.constant_rules.proofs.OfKinds.{of_character, of_text, of_this, of_receive, of_name, of_applied, of_routine}
use Rattle.constant_rules.proofs.OfTrees.{at_tree, binary_so, tuple_named, tuple_varies, value_named, value_varies, ends_between, span_between, range_between, parts_part, value_part, tuple_of_spans, array_of_part, part_of_own, spans_so}
use Rattle.constant_rules.proofs.Views.{one_item}
use Rattle.constant_operators.specs.Known.{IsVarying}
use Rattle.constant_rules.proofs.SpanFound.{spans_done, spans_turn, range_form}
use Rattle.constant_rules.proofs.PartFound.{named_found, unknown_found, named_value_found, unknown_value_found, tuple_misfit, uniform_misfit, array_none}
use Rattle.constant_rules.proofs.+expr.Goals as goal

-- ---- calls

pub calls::routine-returns-then-is_measuring : goal.calls::routine-returns-then-is_measuring
calls::routine-returns-then-is_measuring t c = λ ground.
    let g = ground_of c.args.ground.now in
    let x = expr_tree c.index-args-0.result in
    let p = predefined_tree c.args.own in
    let is : is_value_routine p ≡ true = search rules in
    let measures : is_measuring p ≡ true = search rules in
    let one = one_item c.args.args.now c.index-args-0.result (omega arith) (omega arith) c.index-args-0.is in
    let found = c.in_ok-found.ensures ground in
    subst (λ es. FindsRoutine g c.args.at p es c.args.told.now c.measuring_routine.new.told c.in_ok-measured.measured) (sym one)
    (measure_found g c.args.at p x c.args.told.now is measures found.told (c.in_ok-measured.ensures ground measures (has_form g false x) (told_of_constants g x) (class_of g x) (constant_of g x) found.found))

pub calls::routine-returns-then-args-ne1 : goal.calls::routine-returns-then-args-ne1
calls::routine-returns-then-args-ne1 t c = λ ground.
    let g = ground_of c.args.ground.now in
    let p = predefined_tree c.args.own in
    let es = expr_nodes (expr_trees c.args.args.now) in
    let is : is_value_routine p ≡ true = search rules in
    let number = counted c.args.args.now in
    let many : count_exprs es ≡ 1 → ⊥ = λ one. omega (arith, number, one) in
    let varies = c.in_ok-parts.ensures ground in
    wrong_number g c.args.at p es c.are_arguments-is_constant.result c.args.told.now is many varies.told (c.are_arguments-is_constant.ensures ground) (λ d v. c.in_ok-wrong.ensures (told_in_each g es) d v varies.found.is_clean)

pub calls::routine-returns : goal.calls::routine-returns
calls::routine-returns t c = λ ground.
    let g = ground_of c.args.ground.now in
    let x = expr_tree c.index-args-0.result in
    let p = predefined_tree c.args.own in
    let is : is_value_routine p ≡ true = search rules in
    let values : is_measuring p ≡ false = search rules in
    let one = one_item c.args.args.now c.index-args-0.result (omega arith) (omega arith) c.index-args-0.is in
    let found = c.in_ok-found.ensures ground in
    subst (λ es. FindsRoutine g c.args.at p es c.args.told.now c.value_routine.new.told c.in_ok-valued.valued) (sym one)
    (value_found g c.args.at p x c.args.told.now is values found.told (c.in_ok-valued.ensures ground is (has_form g false x) (told_of_constants g x) (class_of g x) (constant_of g x) found.found))

pub constants::applied-returns-in_ok-known-in-Some : goal.constants::applied-returns-in_ok-known-in-Some
constants::applied-returns-in_ok-known-in-Some t c = λ ground is.
    let g = ground_of c.args.ground.now in
    let e = boxed_expr c.in-Apply.of in
    let es = expr_nodes (expr_trees c.in-Apply.args) in
    let p = predefined_tree c.in-Some.own in
    let tree : expr_tree c.args.expr.now ≡ apply c.in-Apply.at e es = ap expr_tree c.in-Apply.is ∙ tree-apply c.in-Apply.at c.in-Apply.of c.in-Apply.args in
    let called : predefined_named g e ≡ Some p = search rules in
    let place : c.at.result ≡ place_of e = search rules in
    let slice : c.as_slice.result.now ≡ c.in-Apply.args = search rules in
    at_tree g (expr_tree c.args.expr.now) (apply c.in-Apply.at e es) c.args.told.now c.routine.new.told c.in_ok-known-in-Some.known tree
    (of_routine g c.in-Apply.at e es p c.args.told.now c.routine.new.told c.in_ok-known-in-Some.known called
    (subst (λ (q : Pos). FindsRoutine g q p es c.args.told.now c.routine.new.told c.in_ok-known-in-Some.known) place
    (subst (λ (xs : List Expr). FindsRoutine g c.at.result p (expr_nodes (expr_trees xs)) c.args.told.now c.routine.new.told c.in_ok-known-in-Some.known) slice (c.in_ok-known-in-Some.ensures ground))))

pub constants::applied-returns-in_ok-parts-in-None : goal.constants::applied-returns-in_ok-parts-in-None
constants::applied-returns-in_ok-parts-in-None t c = λ ground is.
    let g = ground_of c.args.ground.now in
    let e = boxed_expr c.in-Apply.of in
    let es = expr_nodes (expr_trees c.in-Apply.args) in
    let tree : expr_tree c.args.expr.now ≡ apply c.in-Apply.at e es = ap expr_tree c.in-Apply.is ∙ tree-apply c.in-Apply.at c.in-Apply.of c.in-Apply.args in
    let none : predefined_named g e ≡ None = search rules in
    let base : c.deref-in-None.result.now ≡ c.in-Apply.of.value = search rules in
    let slice : c.as_slice-in-None.result.now ≡ c.in-Apply.args = search rules in
    at_tree g (expr_tree c.args.expr.now) (apply c.in-Apply.at e es) c.args.told.now c.varying_parts.new.told c.varying.result tree
    (of_applied g c.in-Apply.at e es c.args.told.now c.known.new.told c.varying_parts.new.told c.in_ok-base-in-None.base c.in_ok-parts-in-None.parts c.varying.result none
    (subst (λ (x : Expr). FindsExpr g (expr_tree x) c.args.told.now c.known.new.told c.in_ok-base-in-None.base) base (c.in_ok-base-in-None.ensures ground))
    (subst (λ (xs : List Expr). Varies (told_in_each g (expr_nodes (expr_trees xs))) c.known.new.told c.varying_parts.new.told c.in_ok-parts-in-None.parts) slice (c.in_ok-parts-in-None.ensures ground))
    (search rules))

-- ---- expressions

pub constants::known-returns-in_ok-character-in-Char : goal.constants::known-returns-in_ok-character-in-Char
constants::known-returns-in_ok-character-in-Char t c = λ ground.
    at_tree (ground_of c.args.ground.now) (expr_tree c.args.expr.now) (character c.in-Char.at c.in-Char.value) c.args.told.now c.args.told.now c.in_ok-character-in-Char.character
    (ap expr_tree c.in-Char.is ∙ tree-character c.in-Char.at c.in-Char.value)
    (of_character (ground_of c.args.ground.now) c.in-Char.at c.in-Char.value c.args.told.now c.in_ok-character-in-Char.character (c.in_ok-character-in-Char.ensures ground.plain))

pub constants::known-returns-in_ok-text-in-Text : goal.constants::known-returns-in_ok-text-in-Text
constants::known-returns-in_ok-text-in-Text t c = λ ground.
    at_tree (ground_of c.args.ground.now) (expr_tree c.args.expr.now) (text c.in-Text.at c.in-Text.value) c.args.told.now c.args.told.now c.in_ok-text-in-Text.text
    (ap expr_tree c.in-Text.is ∙ tree-text c.in-Text.at c.in-Text.value)
    (of_text (ground_of c.args.ground.now) c.in-Text.at c.in-Text.value c.args.told.now c.in_ok-text-in-Text.text c.in_ok-text-in-Text.ensures)

pub constants::known-returns-in-This : goal.constants::known-returns-in-This
constants::known-returns-in-This t c = λ ground.
    at_tree (ground_of c.args.ground.now) (expr_tree c.args.expr.now) (this_instance c.in-This.at) c.args.told.now c.args.told.now c.varying.result
    (ap expr_tree c.in-This.is ∙ tree-this_instance c.in-This.at)
    (of_this (ground_of c.args.ground.now) c.in-This.at c.args.told.now c.varying.result (search rules))

pub constants::known-returns-in_ok-constant-in-Name : goal.constants::known-returns-in_ok-constant-in-Name
constants::known-returns-in_ok-constant-in-Name t c = λ ground.
    at_tree (ground_of c.args.ground.now) (expr_tree c.args.expr.now) (name c.in-Name.name) c.args.told.now c.args.told.now c.in_ok-constant-in-Name.constant
    (ap expr_tree c.in-Name.is ∙ tree-name c.in-Name.name)
    (of_name (ground_of c.args.ground.now) c.in-Name.name c.args.told.now c.in_ok-constant-in-Name.constant (c.in_ok-constant-in-Name.ensures ground))

pub tuples::parts_value-returns-then-not-shape_fits : goal.tuples::parts_value-returns-then-not-shape_fits
tuples::parts_value-returns-then-not-shape_fits t c = λ ground at form.
    let rs = range_nodes (range_trees c.args.parts.now) in
    let m = mode_tree c.args.mode.now.value in
    let misfit : shape_fits rs (form_of m) ≡ false = search rules in
    let varies = c.in_ok-parts.ensures ground in
    tuple_misfit (ground_of c.args.ground.now) c.args.place.blame m at c.args.place.bracket rs c.in_ok-parts.parts.is_clean c.args.told.now form misfit varies.told varies.found.is_clean c.in_ok-misfit.ensures

pub constants::known-returns-in-Receive : goal.constants::known-returns-in-Receive
constants::known-returns-in-Receive t c = λ ground.
    at_tree (ground_of c.args.ground.now) (expr_tree c.args.expr.now) (receive c.in-Receive.at c.in-Receive.buffer) c.args.told.now c.args.told.now c.varying-in-Receive.result
    (ap expr_tree c.in-Receive.is ∙ tree-receive c.in-Receive.at c.in-Receive.buffer)
    (of_receive (ground_of c.args.ground.now) c.in-Receive.at c.in-Receive.buffer c.args.told.now c.varying-in-Receive.result (search rules))

pub constants::known-returns-in_ok-both-in-Binary : goal.constants::known-returns-in_ok-both-in-Binary
constants::known-returns-in_ok-both-in-Binary t c = λ ground.
    let g = ground_of c.args.ground.now in
    let b = c.in-Binary in
    let left : c.deref-in-Binary.result.now ≡ b.left.value = search rules in
    let right : c.deref-in-Binary-2.result.now ≡ b.right.value = search rules in
    binary_so g (expr_tree c.args.expr.now) b.at b.left.value b.operator b.sign b.right.value c.deref-in-Binary.result.now c.deref-in-Binary-2.result.now c.args.told.now c.known-in-Binary.new.told c.known-in-Binary-2.new.told c.binary.new.told c.in_ok-one-in-Binary.one c.in_ok-other-in-Binary.other c.in_ok-both-in-Binary.both
    (ap expr_tree b.is ∙ tree-binary b.at b.left b.operator b.sign b.right) left right (c.in_ok-one-in-Binary.ensures ground) (c.in_ok-other-in-Binary.ensures ground) (c.in_ok-both-in-Binary.ensures ground)

pub constants::known-returns-in_ok-tuple-in-Some : goal.constants::known-returns-in_ok-tuple-in-Some
constants::known-returns-in_ok-tuple-in-Some t c = λ ground.
    let g = ground_of c.args.ground.now in
    let e = c.in-Tuple in
    let n = c.in-Some.name.now in
    let slice : c.as_slice-in-Some.result.now ≡ e.parts = search rules in
    let named : (if have_form g (range_nodes (range_trees e.parts)) then e.mode else None) ≡ Some n = search rules in
    tuple_named g (expr_tree c.args.expr.now) e.at e.mode n e.bracket e.parts c.as_slice-in-Some.result.now c.args.told.now c.named_parts.new.told c.in_ok-tuple-in-Some.tuple
    (ap expr_tree e.is ∙ tree-tuple e.at e.mode e.bracket e.parts) slice named (c.in_ok-tuple-in-Some.ensures ground)

pub constants::known-returns-in_ok-ranges-in-None : goal.constants::known-returns-in_ok-ranges-in-None
constants::known-returns-in_ok-ranges-in-None t c = λ ground.
    let g = ground_of c.args.ground.now in
    let e = c.in-Tuple in
    let slice : c.as_slice-in-None.result.now ≡ e.parts = search rules in
    let none : (if have_form g (range_nodes (range_trees e.parts)) then e.mode else None) ≡ None = search rules in
    tuple_varies g (expr_tree c.args.expr.now) e.at e.mode e.bracket e.parts c.as_slice-in-None.result.now c.args.told.now c.varying_ranges.new.told c.in_ok-ranges-in-None.ranges
    (ap expr_tree e.is ∙ tree-tuple e.at e.mode e.bracket e.parts) slice none (c.in_ok-ranges-in-None.ensures ground)

pub constants::known-returns-in_ok-all-in-Some-name_if : goal.constants::known-returns-in_ok-all-in-Some-name_if
constants::known-returns-in_ok-all-in-Some-name_if t c = λ ground.
    let g = ground_of c.args.ground.now in
    let e = c.in-Uniform in
    let n = c.in-Some-name_if.name.now in
    let own : c.deref-in-Some-name_if.result.now ≡ e.value.value = search rules in
    let named : (if has_form g true (expr_tree e.value.value) then e.mode else None) ≡ Some n = search rules in
    value_named g (expr_tree c.args.expr.now) e.at e.mode n e.bracket e.value.value c.deref-in-Some-name_if.result.now c.args.told.now c.named_uniform.new.told c.in_ok-all-in-Some-name_if.all
    (ap expr_tree e.is ∙ tree-uniform e.at e.mode e.bracket e.value) own named (c.in_ok-all-in-Some-name_if.ensures ground)

pub constants::known-returns-in_ok-one-in-None-name_if : goal.constants::known-returns-in_ok-one-in-None-name_if
constants::known-returns-in_ok-one-in-None-name_if t c = λ ground.
    let g = ground_of c.args.ground.now in
    let e = c.in-Uniform in
    let own : c.deref-in-None-name_if.result.now ≡ e.value.value = search rules in
    let none : (if has_form g true (expr_tree e.value.value) then e.mode else None) ≡ None = search rules in
    value_varies g (expr_tree c.args.expr.now) e.at e.mode e.bracket e.value.value c.deref-in-None-name_if.result.now c.args.told.now c.varying_part.new.told c.in_ok-one-in-None-name_if.one
    (ap expr_tree e.is ∙ tree-uniform e.at e.mode e.bracket e.value) own none (c.in_ok-one-in-None-name_if.ensures ground)

pub constants::prefixed-returns : goal.constants::prefixed-returns
constants::prefixed-returns t c = λ ground.
    let g = ground_of c.args.ground.now in
    let e = expr_tree c.args.operand.now in
    let none : minus_literal c.args.operator e ≡ None = search rules in
    prefixed_found g c.args.at c.args.operator e none (c.in_ok-found.ensures ground) (λ h. c.in_ok-own.ensures ground (has_form g false e) (told_of_constants g e) (class_of g e) (constant_of g e) h)

pub constants::varying_ends-returns : goal.constants::varying_ends-returns
constants::varying_ends-returns t c = λ ground.
    let g = ground_of c.args.ground.now in
    let r = c.args.part.now in
    let e = (out-ValueRange r).first.value in
    let first : c.deref.result.now ≡ e = search rules in
    let last : c.deref-in-Some.result.now ≡ c.in-Some.last.value = search rules in
    let two : (out-ValueRange r).last ≡ Some c.in-Some.last = search rules in
    let v : IsVarying None (c.in_ok-first.first.is_clean && c.in_ok-last-in-Some.last.is_clean) c.varying-in-Some.result = subst (λ (b : Bool). IsVarying None b c.varying-in-Some.result) c.both.ensures c.varying-in-Some.ensures in
    ends_between g r e c.in-Some.last.value c.deref.result.now c.deref-in-Some.result.now c.args.told.now c.known.new.told c.known-in-Some.new.told c.in_ok-first.first c.in_ok-last-in-Some.last c.varying-in-Some.result
    (range_between r c.in-Some.last two) first last (c.in_ok-first.ensures ground) (c.in_ok-last-in-Some.ensures ground) v

-- ---- tuples

pub tuples::parts_value-returns : goal.tuples::parts_value-returns
tuples::parts_value-returns t c = λ ground at form.
    let rs = range_nodes (range_trees c.args.parts.now) in
    let m = mode_tree c.args.mode.now.value in
    let fits : shape_fits rs (form_of m) ≡ true = search rules in
    let slice : c.as_slice.result.now ≡ c.in_ok-spans.spans.items = search rules in
    let mode : mode_tree c.deref-2.result.now ≡ m = search rules in
    tuple_of_spans (ground_of c.args.ground.now) c.args.place.blame m (mode_tree c.deref-2.result.now) at c.args.place.bracket rs c.in_ok-spans.spans.items c.as_slice.result.now c.args.told.now c.known_spans.new.told c.tupled_of_spans.new.told c.in_ok-tupled.tupled form fits mode slice (c.in_ok-spans.ensures ground form fits) c.in_ok-tupled.ensures

pub tuples::uniform_value-returns : goal.tuples::uniform_value-returns
tuples::uniform_value-returns t c = λ ground at form.
    let g = ground_of c.args.ground.now in
    let e = expr_tree c.args.value.now in
    let m = mode_tree c.args.mode.now.value in
    let i = mode_tree c.in-Some.array.index.now.value in
    let x = mode_tree c.in-Some.array.element.now.value in
    let is : array_parts (form_of m) ≡ Some (i, x) = search rules in
    let index : mode_tree c.deref-2.result.now ≡ i = search rules in
    array_of_part g c.args.place.blame m i x (mode_tree c.deref-2.result.now) at c.args.place.bracket e c.in_ok-part.part c.args.told.now c.known_part.new.told c.tupled_uniform.new.told c.in_ok-tupled.tupled form is index (c.in_ok-part.ensures ground form) c.in_ok-tupled.ensures

pub tuples::uniform_value-returns-in_default : goal.tuples::uniform_value-returns-in_default
tuples::uniform_value-returns-in_default t c = λ ground at form.
    let g = ground_of c.args.ground.now in
    let e = expr_tree c.args.value.now in
    let m = mode_tree c.args.mode.now.value in
    let none : array_parts (form_of m) ≡ None = search rules in
    let varies = c.in_ok-varying.ensures ground in
    uniform_misfit g c.args.place.blame m at c.args.place.bracket e c.in_ok-varying.varying.is_clean c.args.told.now form (array_none m none) varies.told varies.found.is_clean c.in_ok-misfit.ensures

pub tuples::own_part-returns : goal.tuples::own_part-returns
tuples::own_part-returns t c = λ ground own form.
    let g = ground_of c.args.ground.now in
    let x = expr_tree c.args.expr.now in
    let place : c.at.result ≡ place_of x = search rules in
    let m = mode_tree c.args.mode.now.value in
    let mode : mode_tree c.deref.result.now ≡ m = search rules in
    part_of_own c.tests_law.ensures.goes_with g c.args.blame m (mode_tree c.deref.result.now) x c.at.result c.args.told.now c.known.new.told c.in_ok-known.known c.part_of.result own form mode place (c.in_ok-known.ensures ground) c.part_of.ensures

pub tuples::known_span-returns-in_ok-last-in-Some : goal.tuples::known_span-returns-in_ok-last-in-Some
tuples::known_span-returns-in_ok-last-in-Some t c = λ ground form.
    let g = ground_of c.args.ground.now in
    let r = c.args.range.now in
    let e = (out-ValueRange r).first.value in
    let first : c.deref.result.now ≡ e = search rules in
    let last : c.deref-in-Some.result.now ≡ c.in-Some.last.value = search rules in
    let two : (out-ValueRange r).last ≡ Some c.in-Some.last = search rules in
    span_between g c.args.blame (Some (mode_tree c.args.mode.now.value)) r e c.in-Some.last.value c.deref.result.now c.deref-in-Some.result.now c.args.told.now c.known_part.new.told c.known_part-in-Some.new.told c.in_ok-first.first c.in_ok-last-in-Some.last
    (range_between r c.in-Some.last two) first last form (c.in_ok-first.ensures ground) (c.in_ok-last-in-Some.ensures ground)

pub tuples::known_spans-returns : goal.tuples::known_spans-returns
tuples::known_spans-returns t c = λ ground form fits.
    spans_done (ground_of c.args.ground.now) c.args.blame (mode_tree c.args.mode.now.value) c.args.parts.now c.loop-place.place c.args.told.now c.loop-place.told c.loop-place.spans.items (omega arith) (c.loop-place.invariant ground form fits)

pub tuples::known_spans-loop-place-preserved : goal.tuples::known_spans-loop-place-preserved
tuples::known_spans-loop-place-preserved t c = λ ground form fits.
    let g = ground_of c.args.ground.now in
    let m = mode_tree c.args.mode.now.value in
    let own = mode_tree c.in-Some.own.now.value in
    let rs = c.args.parts.now in
    let i = c.loop-place.place in
    let less : i < length rs = omega arith in
    let there : Some own ≡ part_mode i (form_of m) = search rules in
    let form_so = range_form g rs i c.index-parts-place.result less c.index-parts-place.is form in
    spans_so g c.args.blame m (i + 1) (range_nodes (range_trees (drop (i + 1) rs))) (range_nodes (range_trees rs)) c.args.told.now c.known_span.new.told (c.loop-place.spans.items ++ c.in_ok-known_span.field-0 ∷ []) c.push.new.self.items c.in_ok-push.ensures.items
    (spans_turn g c.args.blame m own rs i c.index-parts-place.result c.args.told.now c.loop-place.told c.known_span.new.told c.loop-place.spans.items c.in_ok-known_span.field-0 less c.index-parts-place.is fits there (c.loop-place.invariant ground form fits) (c.in_ok-known_span.ensures ground form_so))

pub tuples::known_part-returns-in_ok-tuple-in-None : goal.tuples::known_part-returns-in_ok-tuple-in-None
tuples::known_part-returns-in_ok-tuple-in-None t c = λ ground form.
    let g = ground_of c.args.ground.now in
    let a = c.in-Tuple in
    let none : a.name ≡ None = search rules in
    let slice : c.as_slice.result.now ≡ a.parts = search rules in
    parts_part c.tests_law.ensures.goes_with g c.args.blame (mode_tree c.args.mode.now.value) (expr_tree c.args.expr.now) a.at a.name a.bracket a.parts c.as_slice.result.now c.args.told.now c.parts_value.new.told c.in_ok-tupled-in-None.tupled c.in_ok-tuple-in-None.tuple
    (ap expr_tree a.is ∙ tree-tuple a.at a.name a.bracket a.parts) none slice form (c.in_ok-tupled-in-None.ensures ground) c.in_ok-tuple-in-None.ensures

pub tuples::known_part-returns-in_ok-uniform-in-None-name : goal.tuples::known_part-returns-in_ok-uniform-in-None-name
tuples::known_part-returns-in_ok-uniform-in-None-name t c = λ ground form.
    let g = ground_of c.args.ground.now in
    let a = c.in-Uniform in
    let none : a.name ≡ None = search rules in
    let own : c.deref-in-None-name.result.now ≡ a.value.value = search rules in
    value_part c.tests_law.ensures.goes_with g c.args.blame (mode_tree c.args.mode.now.value) (expr_tree c.args.expr.now) a.at a.name a.bracket a.value.value c.deref-in-None-name.result.now c.args.told.now c.uniform_value.new.told c.in_ok-all-in-None-name.all c.in_ok-uniform-in-None-name.uniform
    (ap expr_tree a.is ∙ tree-uniform a.at a.name a.bracket a.value) none own form (c.in_ok-all-in-None-name.ensures ground) c.in_ok-uniform-in-None-name.ensures

pub tuples::named_parts-returns : goal.tuples::named_parts-returns
tuples::named_parts-returns t c = λ ground at form.
    let g = ground_of c.args.ground.now in
    let rs = range_nodes (range_trees c.args.parts.now) in
    let m = mode_tree c.in-Some.mode.value in
    let is : mode_of_name g c.args.name.now ≡ Some m = search rules in
    named_found g at c.args.name.now c.args.bracket rs m c.args.told.now form is (c.in_ok-tupled.ensures ground at form) c.in_ok-known.ensures

pub tuples::named_parts-returns-in_default : goal.tuples::named_parts-returns-in_default
tuples::named_parts-returns-in_default t c = λ ground at form.
    let g = ground_of c.args.ground.now in
    let rs = range_nodes (range_trees c.args.parts.now) in
    let none : mode_of_name g c.args.name.now ≡ None = search rules in
    let varies = c.in_ok-varying.ensures ground in
    unknown_found g at c.args.name.now c.args.bracket rs c.in_ok-varying.varying.is_clean c.args.told.now form none varies.told varies.found.is_clean c.constant_of_unknown.ensures

pub tuples::named_uniform-returns : goal.tuples::named_uniform-returns
tuples::named_uniform-returns t c = λ ground at form.
    let g = ground_of c.args.ground.now in
    let e = expr_tree c.args.value.now in
    let m = mode_tree c.in-Some.mode.value in
    let is : mode_of_name g c.args.name.now ≡ Some m = search rules in
    named_value_found g at c.args.name.now c.args.bracket e m c.args.told.now form is (c.in_ok-tupled.ensures ground at form) c.in_ok-known.ensures

pub tuples::named_uniform-returns-in_default : goal.tuples::named_uniform-returns-in_default
tuples::named_uniform-returns-in_default t c = λ ground at form.
    let g = ground_of c.args.ground.now in
    let e = expr_tree c.args.value.now in
    let none : mode_of_name g c.args.name.now ≡ None = search rules in
    let varies = c.in_ok-varying.ensures ground in
    unknown_value_found g at c.args.name.now c.args.bracket e c.in_ok-varying.varying.is_clean c.args.told.now form none varies.told varies.found.is_clean c.constant_of_unknown.ensures
