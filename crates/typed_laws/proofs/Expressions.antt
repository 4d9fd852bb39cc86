-- Expressions, arguments and locations in which nothing is told are of the modes of their classes, as they are elaborated.
use Rattle.std.proofs.Common.{◌≡◌, ℕ, suc, Bool, true, false, ◌&&◌, List, [], ◌∷◌, ◌++◌, length, Option, Some, None, refl, sym, ap, ◌∙◌, subst, arith, true≢false}
use Rattle.std.specs.Prelude.{IsSome, not, if◌then◌else◌, option_map, option_and_then, map}
use Rattle.chill_base.specs.declared.pos.Pos.{Pos}
use Rattle.chill_tree.specs.declared.tree.name.Name.{Name}
use Rattle.chill_tree.specs.ExprTree.{ExprTree, ExprNodes, RangeTree, RangeNodes, whole, character, text, this_instance, paren, receive, start, tuple, uniform, name, apply, field, prefixed, binary, no_exprs, more_exprs, alone, between, no_ranges, more_ranges, place_of}
use Rattle.modes.specs.ModeTree.{ModeTree, ClassTree, value, derived, instance}
use Rattle.modes.specs.Form.{FormTree, form_of, of_powerset}
use Rattle.diagnostics.specs.declared.rule.Rule.TheVariants as rules
use Rattle.program_trees.specs.ExprTree as made
use Rattle.program_trees.specs.ProgramTree.{BodyRowTree}
use Rattle.checks_model.specs.Alike.{is_powerset, is_meeting, mode_in}
use Rattle.checks_model.specs.Ground.{Ground, origin_of, entry_of, buffer_element}
use Rattle.checks_model.specs.Operations.{class_of_binary, class_of_unary, operands_misfit, operand_misfits, is_measuring, field_of_form}
use Rattle.checks_model.specs.Classes.{class_as, class_of, callee_of, no_callee, tuple_mode, value_if, shape_fits, uniform_fits, are_alone, part_mode, mode_of_part, count_exprs, count_ranges}
use Rattle.checks_model.specs.Constants.{has_form, have_form, is_constant_origin, are_arguments, value_routine}
use Rattle.checks_model.specs.ConstantRules.{by_itself, told_as, told_of_constants, told_in_each, told_in_ranges, told_in_range, told_binary, told_if_constant, standing_of_parts, is_judged, told_tuple, told_uniform, when_routine, told_call}
use Rattle.checks_model.specs.Told.{tell_at, told_if, then_told, holds_of, holds_of_both}
use Rattle.checks_model.specs.ActionRules.{measures}
use Rattle.checks_model.specs.ValueRules.{Receiver, nothing_asked, of_mode, passed_back, received_mode, shape_misfits, own_told, value_told, told_in, told_in_args, told_in_parts, told_in_range as told_in_part, told_number, receivers_of, each_receiver}
use Rattle.table_laws.specs.Names.{names_in, names_in_each, names_in_range, names_in_ranges, some_name}
use Rattle.written_laws.specs.Written.{is_name_with_parts}
use Rattle.elaborated_laws.proofs.Told.{none_first, none_later, none_inside, none_then, no_some, same_some, there_mapped, there_chained}
use Rattle.elaborated_laws.proofs.Classes.{no_receiver}
use Rattle.there_laws.proofs.Forms.{PartsThere, shape_there}
use Rattle.there_laws.proofs.Modes.{value_in}
use Rattle.constant_laws.specs.Constants.{HasBytes, HaveBytes, RangeHasBytes, RangesHaveBytes}
use Rattle.elaboration_model.specs.Numbering.{Source, buffer_used, body_used}
use Rattle.elaboration_model.specs.Parts.{made_of, made_of_three, made_if}
use Rattle.elaboration_model.specs.Expressions.{Formal, Path, Target, field_path, expr_as, path, arguments, received_each, only_one, ranges_as, range_as, parts_as, part_as, class_first, mode_in_brackets, formals_called, applied_operation, operation_at, element_path, folded, path_of_value, location_named, modes_by, operator_before, operator_between, received_as, argument_for, target_of, tuple_operation, uniform_operation}
use Rattle.expression_laws.specs.Names.{is_of_values, IsPlace, ArePlaces, AreFormals, EachStands, IsWellNamed, AreWellNamed, IsRangeWellNamed, AreRangesWellNamed, AllNamesKnown}
use Rattle.expression_laws.specs.Expressions.{IsClean}
use Rattle.expression_laws.proofs.Operators.{operands_valued, operand_valued}
use Rattle.expression_laws.proofs.Known.{process_of}
use Rattle.expression_laws.proofs.Parts.{told_any, class_declarable, TupleOf, tuple_of, part_of, element_part}
use Rattle.expression_laws.proofs.Applied.{receiver_for, ArgumentsClean, arguments_clean, process_receivers, part_in}
use Rattle.expression_laws.proofs.Places.{name_mode, location_shown}
use Rattle.expression_laws.proofs.Expressions.{own_inside, signed_inside, mode_valued, operands_of, parts_alone, member_part, PartsClean, BracketsClean}
use Rattle.source_meaning.specs.TypedValues.{Context, HasMode, OperationHas, BinaryHas, PrefixHas, RangesHave, AllTaken, ArgumentsFit}
use Rattle.typed_laws.specs.Typed.{mode_for, TypedAs, AreParameters, AreTaken, AreNamesTyped, ExprTypedLaw}
use Rattle.typed_laws.proofs.Modes.{mode_for_in, declared_mode}
use Rattle.typed_laws.proofs.Operators.{Operands, binary_has, prefix_has}
use Rattle.typed_laws.proofs.Made.{made_parts, if_parts, three_parts, typed_first, typed_later, FoldedBy, TakenEach, taken_row, GoesTo, ValueTyped, folded_typed, goes_typed, taken_typed}
use Rattle.typed_laws.proofs.Paths.{PathTyped, value_path_typed, location_typed}
use Rattle.typed_laws.proofs.Tuples.{PartsTaken, tuple_typed, uniform_typed, tuple_class, of_class}
use Rattle.typed_laws.proofs.Behind.{OnlyTyped, ArgumentsTyped}
use Rattle.typed_laws.proofs.Bracketed.{PathsTyped, path_mode, path_folded, back_typed, argument_typed, field_built, BracketsTyped, applied_built, applied_path_typed}

-- ---- ranges

abbrev RangeHas : Context → made.RangeTree → ModeTree → Type 0
RangeHas ctx (made.alone e) m = GoesTo ctx e m
RangeHas ctx (made.between e f) m = GoesTo ctx e m × GoesTo ctx f m

with_one_range : (ctx : Context) (y : made.RangeTree) (ys : made.RangeNodes) (m : ModeTree) → RangeHas ctx y m → RangesHave ctx ys m → RangesHave ctx (made.with_range y ys) m
with_one_range ctx (made.alone e) ys m has rest = (has, rest)
with_one_range ctx (made.between e f) ys m has rest = (has.0, has.1, rest)

-- a powerset has one part for all
member_there : (f : FormTree) → is_powerset f ≡ true → IsSome (part_mode 0 f)
member_there (of_powerset m) is = refl
member_there f is = absurd (true≢false (sym is))

-- ---- brackets

-- a name with parts, of which all is known but what it is elaborated to
abbrev PathBuilt : Source → Context → ExprTree → Type 0
PathBuilt s ctx e = (c : ClassTree) (k : ModeTree) (p : Path) → IsClean s.known nothing_asked e → is_name_with_parts e ≡ true → class_of s.known e ≡ Some c → mode_in c ≡ Some k → not (is_meeting (form_of k)) ≡ true → path s e ≡ Some p → PathTyped ctx p

with_mode : (s : Source) (ctx : Context) (e : ExprTree) → AllNamesKnown s → PathBuilt s ctx e → PathsTyped s ctx e
with_mode s ctx e known typed c k p clean named class has valued built = (typed c k p clean named class has valued built, path_mode s e c k p known clean named class has valued built)

brackets_of : (s : Source) (ctx : Context) (at : Pos) (e : ExprTree) (es : ExprNodes) → AreNamesTyped s ctx (names_in e) → IsWellNamed s.known (apply at e es) → told_of_constants s.known (apply at e es) ≡ []
    → PathsTyped s ctx e → (AreWellNamed s.known false es → told_in_each s.known es ≡ [] → OnlyTyped s ctx es) → (AreWellNamed s.known false es → told_in_each s.known es ≡ [] → ArgumentsTyped s ctx es) → BracketsTyped s ctx e es
brackets_of s ctx at e es names named constants base_at only_at each_at =
    let g = s.known in
    let own : IsWellNamed g e = record { short = named.short.0; paths = named.paths.1.0; tuples = named.tuples.0; stands = named.stands.0 } in
    let each : measures (callee_of g e) ≡ false → AreWellNamed g false es = λ apart. record { short = named.short.1; paths = named.paths.1.1; tuples = named.tuples.1; stands = subst (λ b. EachStands g b es) apart named.stands.1 } in
    let at_it = when_routine (value_routine (callee_of g e)) (λ p. told_if_constant (are_arguments g (is_measuring p) es) (told_call g (place_of e) p es)) in
    let before = told_as g by_itself None e in
    let first = none_first before (then_told (told_in_each g es) at_it) constants in
    let later = none_inside (told_in_each g es) at_it (none_later before (then_told (told_in_each g es) at_it) constants) in
    record {
      own = own;
      names = names;
      base = λ d k b is has valued told built. base_at d k b (record { named = own; receives = no_receiver; constants = first; told = told }) named.paths.0 is has valued built;
      named = each;
      only = λ apart. only_at (each apart) later;
      each = λ apart. each_at (each apart) later;
    }

-- ---- names

name_typed : (s : Source) (ctx : Context) (known : AllNamesKnown s) (n : Name) (c : ClassTree) (k : ModeTree) (p : Path) → AreNamesTyped s ctx (n ∷ []) → IsClean s.known nothing_asked (name n) → class_of s.known (name n) ≡ Some c → mode_in c ≡ Some k → is_of_values c ≡ true → path s (name n) ≡ Some p → PathTyped ctx p
name_typed s ctx known n c k p names clean class has valued built = by (is_constant_origin (origin_of s.known n)) refl built
  where
    by : (b : Bool) → is_constant_origin (origin_of s.known n) ≡ b → (if b then path_of_value (folded s None (name n) None) (class_of s.known (name n)) else location_named s n) ≡ Some p → PathTyped ctx p
    by true form built = value_path_typed ctx (folded s None (name n) None) (class_of s.known (name n)) c p (λ x is. folded_typed s ctx known nothing_asked (name n) c None x names tt clean class valued (λ form op at. no_some op at) is) class built
    by false form built = location_typed s ctx n p names.0 form built

-- ---- the laws

mutual
  pub expr_typed : (s : Source) (ctx : Context) (known : AllNamesKnown s) (r : Receiver) (e : ExprTree) (c : ClassTree) (x : made.ExprTree) → AreNamesTyped s ctx (names_in e) → HasBytes e → IsClean s.known r e → class_as s.known (received_mode r) e ≡ Some c → is_of_values c ≡ true → expr_as s (received_mode r) e ≡ Some x → TypedAs ctx x c
  expr_typed s ctx known r (whole at n) c x names bytes clean class valued built = folded_typed s ctx known r (whole at n) c None x names bytes clean class valued (λ form op is. no_some op is) built
  expr_typed s ctx known r (character at n) c x names bytes clean class valued built = folded_typed s ctx known r (character at n) c None x names bytes clean class valued (λ form op is. no_some op is) built
  expr_typed s ctx known r (text at n) c x names bytes clean class valued built = folded_typed s ctx known r (text at n) c None x names bytes clean class valued (λ form op is. no_some op is) built
  expr_typed s ctx known r (this_instance at) c x names bytes clean class valued built =
      folded_typed s ctx known r (this_instance at) c (Some made.own_instance) x names bytes clean class valued
      (λ form op is m of fits. subst (λ q. OperationHas ctx q m) (same_some made.own_instance op is) (same_some m instance (sym of ∙ ap mode_for (sym (same_some (derived instance) c class))))) built
  expr_typed s ctx known r (paren at e) c x names bytes clean class valued built =
      let named = clean.named in
      let inner : IsClean s.known r e = record { named = record { short = named.short; paths = named.paths; tuples = named.tuples; stands = named.stands }; receives = clean.receives; constants = clean.constants; told = clean.told } in
      expr_typed s ctx known r e c x names bytes inner class valued built
  expr_typed s ctx known r (receive at n) c x names bytes clean class valued built =
      folded_typed s ctx known r (receive at n) c (option_map made.receive (buffer_used s n)) x names bytes clean class valued
      (λ form op is m of fits.
      let b = there_mapped made.receive (buffer_used s n) op is in
      let k = there_mapped value (buffer_element s.known n) c class in
      subst (λ q. OperationHas ctx q m) b.2 (names.0.buffer m b.0 (k.1 ∙ (ap mode_for k.2 ∙ of)) b.1)) built
  expr_typed s ctx known r (start at n es) c x names bytes clean class valued built =
      let g = s.known in
      let ms = modes_by s (origin_of g n) in
      let args = told_in_args g (each_receiver (receivers_of g n) (count_exprs es)) es in
      let number = told_number n.at (count_exprs es) (length (receivers_of g n)) in
      let named = clean.named in
      let own : AreWellNamed g false es = record { short = named.short; paths = named.paths; tuples = named.tuples; stands = named.stands.1 } in
      let fit = arguments_clean g of_mode ms (receivers_of g n) es n.at (process_receivers s n named.stands.0) (none_inside args number clean.told) (none_then args number clean.told) in
      let o = made_of (λ b rs. made.start (made.started b rs)) (body_used s n) (received_each s ms es) in
      folded_typed s ctx known r (start at n es) c o x names bytes clean class valued
      (λ form op is m of fits.
      let parts = made_parts (λ b rs. made.start (made.started b rs)) (body_used s n) (received_each s ms es) op is in
      let p = process_of (origin_of g n) named.stands.0 in
      let row = names.0.started p.0 parts.first p.1 parts.of_first in
      let taken = taken_row ctx parts.second ms row.row 0 (received_typed s ctx known ms es parts.second names.1 bytes (known n).places own clean.constants fit parts.of_second) (subst (λ q. AreTaken row.row 0 (modes_by s q)) (sym p.1) row.parameters) in
      subst (λ q. OperationHas ctx q m) parts.whole (same_some m instance (sym of ∙ ap mode_for (sym (same_some (derived instance) c class))), (row.row, row.is, row.sort, taken))) built
  expr_typed s ctx known r (tuple at n b rs) c x names bytes clean class valued built =
      let g = s.known in
      let m = tuple_mode g n (received_mode r) in
      let t = tuple_of m (shape_fits rs) c (class_declarable s (received_mode r) (tuple at n b rs) c known clean.named clean.receives class) class in
      let operation : ModeTree → Option made.OperationTree = λ own. tuple_operation (form_of own) (ranges_as s own rs) (parts_as s (shape_fits rs) 0 (Some own) rs) in
      let misfit = told_if (shape_misfits (shape_fits rs) n r m) (tell_at rules.S11 b) in
      let inside = subst (λ k. told_in_parts g (shape_fits rs) 0 k rs ≡ []) t.is (none_inside (told_in_parts g (shape_fits rs) 0 m rs) misfit clean.told) in
      let named = clean.named in
      let parts : PartsClean g (shape_fits rs) t.own 0 rs = record { holds = t.form; declarable = t.declarable; named = record { short = named.short; paths = named.paths; tuples = named.tuples.1; stands = named.stands }; told = inside } in
      let standing = standing_of_parts by_itself n (have_form g rs) in
      let judged = told_if_constant (is_judged by_itself n (have_form g rs)) (told_tuple g (tuple_mode g n None) rs b) in
      let constants : has_form g false (tuple at n b rs) ≡ false → told_in_ranges g by_itself (shape_fits rs) 0 (tuple_mode g n None) rs ≡ [] = λ form. subst (λ k. told_in_ranges g k (shape_fits rs) 0 (tuple_mode g n None) rs ≡ []) (parts_alone g n (have_form g rs) form) (none_inside (told_in_ranges g standing (shape_fits rs) 0 (tuple_mode g n None) rs) judged clean.constants) in
      let within = typed_later s ctx (some_name n) (names_in_ranges rs) names in
      folded_typed s ctx known r (tuple at n b rs) c (option_and_then operation m) x names bytes clean class valued
      (λ form op is. of_class ctx t.own c op (tuple_class (shape_fits rs) t.own c t.form (subst (λ k. option_and_then (value_if (shape_fits rs)) k ≡ Some c) t.is class))
      (tuple_typed ctx t.own rs (ranges_as s t.own rs) (parts_as s (shape_fits rs) 0 (Some t.own) rs) op t.form
      (λ set e part xs at. members_typed s ctx known (shape_fits rs) t.own 0 0 (tuple_mode g n None) rs e xs within bytes set parts (constants form) part at)
      (λ alone_is xs at. parts_typed s ctx known (shape_fits rs) t.own 0 0 (tuple_mode g n None) rs xs within bytes (shape_there (form_of t.own) rs t.form) alone_is parts (constants form) at)
      (subst (λ k. option_and_then operation k ≡ Some op) t.is is))) built
  expr_typed s ctx known r (uniform at n b e) c x names bytes clean class valued built =
      let g = s.known in
      let m = tuple_mode g n (received_mode r) in
      let t = tuple_of m uniform_fits c (class_declarable s (received_mode r) (uniform at n b e) c known clean.named clean.receives class) class in
      let part = mode_of_part uniform_fits 0 m in
      let inside = value_told g (of_mode part) e (told_in g (of_mode part) e) in
      let misfit = told_if (shape_misfits uniform_fits n r m) (tell_at rules.S11 b) in
      let named = clean.named in
      let own : IsWellNamed g e = record { short = named.short; paths = named.paths; tuples = named.tuples.1; stands = named.stands } in
      let is_place : IsPlace part = subst (λ k. IsPlace (mode_of_part uniform_fits 0 k)) (sym t.is) (part_of uniform_fits 0 t.own t.form t.declarable (element_part (form_of t.own) t.form)) in
      let within = mode_of_part uniform_fits 0 (tuple_mode g n None) in
      let standing = standing_of_parts by_itself n (has_form g true e) in
      let judged = told_if_constant (is_judged by_itself n (has_form g true e)) (told_uniform g (tuple_mode g n None) e b) in
      let constants : has_form g false (uniform at n b e) ≡ false → told_of_constants g e ≡ [] = λ form. told_any g None within e ∙ subst (λ k. told_as g k within e ≡ []) (parts_alone g n (has_form g true e) form) (none_inside (told_as g standing within e) judged clean.constants) in
      let operation : ModeTree → made.ReceivedTree → Option made.OperationTree = λ own r. uniform_operation (form_of own) r in
      let inner = typed_later s ctx (some_name n) (names_in e) names in
      folded_typed s ctx known r (uniform at n b e) c (made_if operation m (received_as part (expr_as s part e))) x names bytes clean class valued
      (λ form op is.
      let parts = if_parts operation m (received_as part (expr_as s part e)) op is in
      let of_value : ValueTyped s ctx part e = λ d y is good told at. expr_typed s ctx known (of_mode part) e d y inner bytes (record { named = own; receives = is_place.fits; constants = constants form; told = told }) is good at in
      of_class ctx t.own c op (tuple_class uniform_fits t.own c t.form (subst (λ k. option_and_then (value_if uniform_fits) k ≡ Some c) t.is class))
      (uniform_typed ctx t.own parts.second op t.form
      (λ q at. taken_typed s ctx known part e parts.second own (none_inside inside misfit clean.told) of_value parts.of_second q (ap (mode_of_part uniform_fits 0) t.is ∙ at))
      (subst (λ k. uniform_operation (form_of k) parts.second ≡ Some op) (same_some parts.first t.own (sym parts.of_first ∙ t.is)) parts.whole))) built
  expr_typed s ctx known r (name n) c x names bytes clean class valued built =
      folded_typed s ctx known r (name n) c (option_map operation_at (location_named s n)) x names bytes clean class valued
      (λ form op is.
      let k = name_mode (entry_of s.known n) (origin_of s.known n) c form class valued in
      let there = there_mapped operation_at (location_named s n) op is in
      let shown = location_shown s n c k.0 known form class valued k.1 in
      path_folded ctx c there.0 op k.0 (location_typed s ctx n there.0 names.0 form there.1) (ap (λ (y : Path). y.mode) (same_some there.0 shown.at (sym there.1 ∙ shown.is)) ∙ shown.mode) (mode_for_in c k.0 k.1) there.2) built
  expr_typed s ctx known r (apply at e es) c x names bytes clean class valued built =
      let k = callee_of s.known e in
      let o = applied_operation s k (arguments s (formals_called s k) es) (class_first s es) (only_one s (mode_in_brackets s k e) es) (made_if element_path (only_one s (mode_in_brackets s k e) es) (path s e)) in
      let first = typed_first s ctx (names_in e) (names_in_each es) names in
      let later = typed_later s ctx (names_in e) (names_in_each es) names in
      let parts = brackets_of s ctx at e es first clean.named clean.constants (with_mode s ctx e known (path_typed s ctx known e first bytes.0)) (λ well none. only_typed s ctx known es later bytes.1 well none) (λ well none fs xs formals fit at row j are. arguments_typed s ctx known fs es xs later bytes.1 formals well none fit at row j are) in
      folded_typed s ctx known r (apply at e es) c o x names bytes clean class valued (λ form op is. applied_built s ctx known e es c parts k op (record { is = refl; form = form; class = class; valued = valued; told = clean.told }) is) built
  expr_typed s ctx known r (field at e n) c x names bytes clean class valued built =
      let named = clean.named in
      let p = part_in (field_of_form n.text) (class_of s.known e) c refl class valued in
      let base : IsClean s.known nothing_asked e = record { named = record { short = named.short; paths = named.paths.1; tuples = named.tuples; stands = named.stands }; receives = no_receiver; constants = clean.constants; told = clean.told } in
      folded_typed s ctx known r (field at e n) c (option_map operation_at (option_and_then (field_path n.text) (path s e))) x names bytes clean class valued
      (λ form op is.
      let there = there_mapped operation_at (option_and_then (field_path n.text) (path s e)) op is in
      let q = field_built s ctx e n c there.0 p (λ b at. with_mode s ctx e known (path_typed s ctx known e names bytes) p.whole p.mode b base named.paths.0 p.is p.in_whole p.valued at) there.1 in
      path_folded ctx c there.0 op p.own q.0 q.1 (ap mode_for p.class) there.2) built
  expr_typed s ctx known r (prefixed at o e) c x names bytes clean class valued built =
      let g = s.known in
      let there = there_chained (class_of_unary o) (class_of g e) c class in
      let inside = own_told g nothing_asked e (told_in g nothing_asked e) in
      let misfit = told_if (holds_of (operand_misfits o) (class_of g e)) (tell_at rules.S1 at) in
      let named = clean.named in
      let own : IsWellNamed g e = record { short = named.short; paths = named.paths; tuples = named.tuples; stands = named.stands } in
      let operation : ClassTree → made.ExprTree → made.OperationTree = λ c e. made.prefixed (operator_before o c) e in
      folded_typed s ctx known r (prefixed at o e) c (made_of operation (class_of g e) (expr_as s None e)) x names bytes clean class valued
      (λ form op is m of fits.
      let parts = made_parts operation (class_of g e) (expr_as s None e) op is in
      let t = expr_typed s ctx known nothing_asked e there.0 parts.second names bytes (record { named = own; receives = no_receiver; constants = signed_inside g at o e form clean.constants; told = own_inside g e (none_inside inside misfit clean.told) }) there.1 (operand_valued o there.0 c there.2) parts.of_second in
      let whole = ap (λ k. operation k parts.second) (same_some there.0 parts.first (sym there.1 ∙ parts.of_first)) ∙ parts.whole in
      subst (λ q. OperationHas ctx q m) whole (t.mode, t.has, prefix_has o there.0 c t.mode m t.of of there.2)) built
  expr_typed s ctx known r (binary at l o p k) c x names bytes clean class valued built =
      let g = s.known in
      let of = operands_of (class_of_binary o) (class_of g l) (class_of g k) c class in
      let good = operands_valued o of.left of.right c of.result in
      let left = own_told g nothing_asked l (told_in g nothing_asked l) in
      let right = own_told g nothing_asked k (told_in g nothing_asked k) in
      let inside = none_inside (left ++ right) (told_if (holds_of_both (operands_misfit o) (class_of g l) (class_of g k)) (tell_at rules.S1 p)) clean.told in
      let constants = none_inside (told_as g by_itself None l ++ told_as g by_itself None k) (told_if_constant (has_form g false l && has_form g false k) (told_binary g p o l k)) clean.constants in
      let named = clean.named in
      let first : IsWellNamed g l = record { short = named.short.0; paths = named.paths.0; tuples = named.tuples.0; stands = named.stands.0 } in
      let second : IsWellNamed g k = record { short = named.short.1; paths = named.paths.1; tuples = named.tuples.1; stands = named.stands.1 } in
      let operator = made_if (operator_between o) (class_of g l) (class_of g k) in
      folded_typed s ctx known r (binary at l o p k) c (made_of_three made.binary operator (expr_as s None l) (expr_as s None k)) x names bytes clean class valued
      (λ form op is m result fits.
      let parts = three_parts made.binary operator (expr_as s None l) (expr_as s None k) op is in
      let which = if_parts (operator_between o) (class_of g l) (class_of g k) parts.first parts.of_first in
      let a = expr_typed s ctx known nothing_asked l of.left parts.second (typed_first s ctx (names_in l) (names_in k) names) bytes.0 (record { named = first; receives = no_receiver; constants = none_first (told_as g by_itself None l) (told_as g by_itself None k) constants; told = own_inside g l (none_first left right inside) }) of.is_left good.0 parts.of_second in
      let b = expr_typed s ctx known nothing_asked k of.right parts.third (typed_later s ctx (names_in l) (names_in k) names) bytes.1 (record { named = second; receives = no_receiver; constants = none_later (told_as g by_itself None l) (told_as g by_itself None k) constants; told = own_inside g k (none_later left right inside) }) of.is_right good.1 parts.of_third in
      let between_them = subst (λ q. operator_between o q of.right ≡ Some parts.first) (same_some which.first of.left (sym which.of_first ∙ of.is_left)) (subst (λ q. operator_between o which.first q ≡ Some parts.first) (same_some which.second of.right (sym which.of_second ∙ of.is_right)) which.whole) in
      let declarable = declared_mode of.left a.mode (class_declarable s None l of.left known first no_receiver of.is_left) a.of in
      let operands : Operands of.left of.right c a.mode b.mode m = record { left = a.of; right = b.of; result = result; declarable = declarable } in
      subst (λ q. OperationHas ctx q m) parts.whole (a.mode, b.mode, a.has, b.has, binary_has o of.left of.right c a.mode b.mode m parts.first operands of.result between_them)) built

  path_typed : (s : Source) (ctx : Context) (known : AllNamesKnown s) (e : ExprTree) → AreNamesTyped s ctx (names_in e) → HasBytes e → PathBuilt s ctx e
  path_typed s ctx known (name n) names bytes c k p clean named class has valued built = name_typed s ctx known n c k p names clean class has (mode_valued c k has valued) built
  path_typed s ctx known (field at e n) names bytes c k q clean named class has valued built =
      let well = clean.named in
      let p = part_in (field_of_form n.text) (class_of s.known e) c refl class (mode_valued c k has valued) in
      let base : IsClean s.known nothing_asked e = record { named = record { short = well.short; paths = well.paths.1; tuples = well.tuples; stands = well.stands }; receives = no_receiver; constants = clean.constants; told = clean.told } in
      (field_built s ctx e n c q p (λ b at. with_mode s ctx e known (path_typed s ctx known e names bytes) p.whole p.mode b base well.paths.0 p.is p.in_whole p.valued at) built).0
  path_typed s ctx known (apply at e es) names bytes c k q clean named class has valued built =
      let f = callee_of s.known e in
      let first = typed_first s ctx (names_in e) (names_in_each es) names in
      let later = typed_later s ctx (names_in e) (names_in_each es) names in
      let parts = brackets_of s ctx at e es first clean.named clean.constants (with_mode s ctx e known (path_typed s ctx known e first bytes.0)) (λ well none. only_typed s ctx known es later bytes.1 well none) (λ well none fs xs formals fit at row j are. arguments_typed s ctx known fs es xs later bytes.1 formals well none fit at row j are) in
      applied_path_typed s ctx at e es c k f q known parts names bytes clean class has (mode_valued c k has valued)
      (λ form. record { is = refl; form = form; class = class; valued = mode_valued c k has valued; told = clean.told })
      (λ is. ap (λ x. holds_of (λ p. are_arguments s.known (is_measuring p) es) (value_routine x)) is) built
  path_typed s ctx known e names bytes c k q clean named class has valued built = absurd (true≢false (sym named))

  pub only_typed : (s : Source) (ctx : Context) (known : AllNamesKnown s) (es : ExprNodes) → AreNamesTyped s ctx (names_in_each es) → HaveBytes es → AreWellNamed s.known false es → told_in_each s.known es ≡ [] → OnlyTyped s ctx es
  only_typed s ctx known no_exprs names bytes named constants = tt
  only_typed s ctx known (more_exprs e no_exprs) names bytes named constants =
      λ r c x receives inside class valued built. expr_typed s ctx known r e c x (typed_first s ctx (names_in e) [] names) bytes.0 (record { named = record { short = named.short.0; paths = named.paths.0; tuples = named.tuples.0; stands = named.stands.0 }; receives = receives; constants = none_first (told_as s.known by_itself None e) [] constants; told = inside }) class valued built
  only_typed s ctx known (more_exprs e (more_exprs f fs)) names bytes named constants = tt

  pub received_typed : (s : Source) (ctx : Context) (known : AllNamesKnown s) (ms : List (Option ModeTree)) (es : ExprNodes) (xs : made.ReceivedNodes) → AreNamesTyped s ctx (names_in_each es) → HaveBytes es → ArePlaces ms → AreWellNamed s.known false es → told_in_each s.known es ≡ [] → ArgumentsClean s.known of_mode ms es
      → received_each s ms es ≡ Some xs → TakenEach ctx xs ms
  received_typed s ctx known [] no_exprs xs names bytes places named constants clean built = subst (λ q. TakenEach ctx q []) (same_some made.no_received xs built) refl
  received_typed s ctx known (m ∷ ms) no_exprs xs names bytes places named constants clean built = no_some xs built
  received_typed s ctx known [] (more_exprs e es) xs names bytes places named constants clean built = (let count = clean.count in absurd (omega (arith, count)))
  received_typed s ctx known (m ∷ ms) (more_exprs e es) xs names bytes places named constants clean built =
      let g = s.known in
      let first = value_told g (of_mode m) e (told_in g (of_mode m) e) in
      let later = told_in_args g (map of_mode ms) es in
      let own : IsWellNamed g e = record { short = named.short.0; paths = named.paths.0; tuples = named.tuples.0; stands = named.stands.0 } in
      let others : AreWellNamed g false es = record { short = named.short.1; paths = named.paths.1; tuples = named.tuples.1; stands = named.stands.1 } in
      let is_clean = none_first (told_as g by_itself None e) (told_in_each g es) constants in
      let of_value : ValueTyped s ctx m e = λ d y is good told at. expr_typed s ctx known (of_mode m) e d y (typed_first s ctx (names_in e) (names_in_each es) names) bytes.0 (record { named = own; receives = places.0.fits; constants = is_clean; told = told }) is good at in
      let count = clean.count in
      let parts = made_parts made.more_received (received_as m (expr_as s m e)) (received_each s ms es) xs built in
      let q = value_in m places.0.there in
      let rest = received_typed s ctx known ms es parts.second (typed_later s ctx (names_in e) (names_in_each es) names) bytes.1 places.1 others (none_later (told_as g by_itself None e) (told_in_each g es) constants) (record { count = omega (arith, count); told = none_later first later clean.told }) parts.of_second in
      subst (λ y. TakenEach ctx y (m ∷ ms)) parts.whole (q.0, ms, ap (λ y. y ∷ ms) q.1, taken_typed s ctx known m e parts.first own (none_first first later clean.told) of_value parts.of_first q.0 q.1, rest)

  pub arguments_typed : (s : Source) (ctx : Context) (known : AllNamesKnown s) (fs : List Formal) (es : ExprNodes) (xs : made.ArgumentNodes) → AreNamesTyped s ctx (names_in_each es) → HaveBytes es → AreFormals fs → AreWellNamed s.known false es → told_in_each s.known es ≡ [] → ArgumentsClean s.known receiver_for fs es
      → arguments s fs es ≡ Some xs → (row : BodyRowTree) (k : ℕ) → AreParameters row k fs → ArgumentsFit ctx xs row k
  arguments_typed s ctx known [] no_exprs xs names bytes formals named constants clean built row k are = subst (λ q. ArgumentsFit ctx q row k) (same_some made.no_arguments xs built) are
  arguments_typed s ctx known (f ∷ fs) no_exprs xs names bytes formals named constants clean built row k are = no_some xs built
  arguments_typed s ctx known [] (more_exprs e es) xs names bytes formals named constants clean built row k are = (let count = clean.count in absurd (omega (arith, count)))
  arguments_typed s ctx known (f ∷ fs) (more_exprs e es) xs names bytes formals named constants clean built row k are =
      let g = s.known in
      let m = f.1 in
      let first = value_told g (receiver_for f) e (told_in g (receiver_for f) e) in
      let later = told_in_args g (map receiver_for fs) es in
      let own : IsWellNamed g e = record { short = named.short.0; paths = named.paths.0; tuples = named.tuples.0; stands = named.stands.0 } in
      let others : AreWellNamed g false es = record { short = named.short.1; paths = named.paths.1; tuples = named.tuples.1; stands = named.stands.1 } in
      let is_clean = none_first (told_as g by_itself None e) (told_in_each g es) constants in
      let own_names = typed_first s ctx (names_in e) (names_in_each es) names in
      let of_value : ValueTyped s ctx m e = λ d y is good told at. expr_typed s ctx known (of_mode m) e d y own_names bytes.0 (record { named = own; receives = formals.0.fits; constants = is_clean; told = told }) is good at in
      let target_is = option_and_then target_of (path s e) in
      let count = clean.count in
      let parts = made_parts made.with_argument (argument_for f (received_as m (expr_as s m e)) target_is) (arguments s fs es) xs built in
      let rest = arguments_typed s ctx known fs es parts.second (typed_later s ctx (names_in e) (names_in_each es) names) bytes.1 formals.1 others (none_later (told_as g by_itself None e) (told_in_each g es) constants) (record { count = omega (arith, count); told = none_later first later clean.told }) parts.of_second row (suc k) are.1 in
      subst (λ y. ArgumentsFit ctx y row k) parts.whole
      (argument_typed s ctx e f.0 m parts.first parts.second row k formals.0 are.0
      (λ none r at q is. taken_typed s ctx known m e r own none of_value at q is)
      (λ none t at q is. back_typed s ctx e m t own is_clean (with_mode s ctx e known (path_typed s ctx known e own_names bytes.0)) none at q is)
      (none_first first later clean.told) parts.of_first rest)

  -- the parts of an array or a structure
  parts_typed : (s : Source) (ctx : Context) (known : AllNamesKnown s) (fits : FormTree → Bool) (own : ModeTree) (k j : ℕ) (m : Option ModeTree) (rs : RangeNodes) (xs : made.ReceivedNodes) → AreNamesTyped s ctx (names_in_ranges rs) → RangesHaveBytes rs → PartsThere (form_of own) k rs → are_alone rs ≡ true → PartsClean s.known fits own k rs
      → told_in_ranges s.known by_itself fits j m rs ≡ [] → parts_as s fits k (Some own) rs ≡ Some xs → PartsTaken ctx fits own k (count_ranges rs) xs
  parts_typed s ctx known fits own k j m no_ranges xs names bytes there alone_is clean constants built = subst (λ q. PartsTaken ctx fits own k 0 q) (same_some made.no_received xs built) refl
  parts_typed s ctx known fits own k j m (more_ranges (between l h) rs) xs names bytes there alone_is clean constants built = absurd (true≢false (sym alone_is))
  parts_typed s ctx known fits own k j m (more_ranges (alone e) rs) xs names bytes there alone_is clean constants built =
      let g = s.known in
      let part = mode_of_part fits k (Some own) in
      let is_place = part_of fits k own clean.holds clean.declarable there.0 in
      let first = value_told g (of_mode part) e (told_in g (of_mode part) e) in
      let later = told_in_parts g fits (suc k) (Some own) rs in
      let named = clean.named in
      let own_named : IsWellNamed g e = record { short = named.short.0; paths = named.paths.0; tuples = named.tuples.0; stands = named.stands.0 } in
      let others : AreRangesWellNamed g rs = record { short = named.short.1; paths = named.paths.1; tuples = named.tuples.1; stands = named.stands.1 } in
      let within = mode_of_part fits j m in
      let is_clean = told_any g None within e ∙ none_first (told_as g by_itself within e) (told_in_ranges g by_itself fits (suc j) m rs) constants in
      let of_value : ValueTyped s ctx part e = λ d y is good told at. expr_typed s ctx known (of_mode part) e d y (typed_first s ctx (names_in e) (names_in_ranges rs) names) bytes.0 (record { named = own_named; receives = is_place.fits; constants = is_clean; told = told }) is good at in
      let parts = made_parts made.more_received (received_as part (expr_as s part e)) (parts_as s fits (suc k) (Some own) rs) xs built in
      let rest = parts_typed s ctx known fits own (suc k) (suc j) m rs parts.second (typed_later s ctx (names_in e) (names_in_ranges rs) names) bytes.1 there.1 alone_is (record { holds = clean.holds; declarable = clean.declarable; named = others; told = none_later first later clean.told })
      (none_later (told_as g by_itself within e) (told_in_ranges g by_itself fits (suc j) m rs) constants) parts.of_second
      in
      subst (λ q. PartsTaken ctx fits own k (suc (count_ranges rs)) q) parts.whole (count_ranges rs, (refl, ((λ q is. taken_typed s ctx known part e parts.first own_named (none_first first later clean.told) of_value parts.of_first q is), rest)))

  -- the members of a powerset
  members_typed : (s : Source) (ctx : Context) (known : AllNamesKnown s) (fits : FormTree → Bool) (own : ModeTree) (k j : ℕ) (m : Option ModeTree) (rs : RangeNodes) (q : ModeTree) (xs : made.RangeNodes) → AreNamesTyped s ctx (names_in_ranges rs) → RangesHaveBytes rs → is_powerset (form_of own) ≡ true → PartsClean s.known fits own k rs
      → told_in_ranges s.known by_itself fits j m rs ≡ [] → mode_of_part (λ f. true) 0 (Some own) ≡ Some q → ranges_as s own rs ≡ Some xs → RangesHave ctx xs q
  members_typed s ctx known fits own k j m no_ranges q xs names bytes is clean constants part_is built = subst (λ y. RangesHave ctx y q) (same_some made.no_ranges xs built) tt
  members_typed s ctx known fits own k j m (more_ranges r rs) q xs names bytes is clean constants part_is built =
      let g = s.known in
      let part = mode_of_part (λ f. true) 0 (Some own) in
      let is_place = part_of (λ f. true) 0 own refl clean.declarable (member_there (form_of own) is) in
      let first = told_in_part g (mode_of_part fits k (Some own)) r in
      let later = told_in_parts g fits (suc k) (Some own) rs in
      let named = clean.named in
      let own_named : IsRangeWellNamed g r = record { short = named.short.0; paths = named.paths.0; tuples = named.tuples.0; stands = named.stands.0 } in
      let others : AreRangesWellNamed g rs = record { short = named.short.1; paths = named.paths.1; tuples = named.tuples.1; stands = named.stands.1 } in
      let inner = told_in_range g by_itself (mode_of_part fits j m) r in
      let behind = told_in_ranges g by_itself fits (suc j) m rs in
      let parts = made_parts made.with_range (range_as s part r) (ranges_as s own rs) xs built in
      let has = range_typed s ctx known part (mode_of_part fits j m) r q parts.first (typed_first s ctx (names_in_range r) (names_in_ranges rs) names) bytes.0 is_place own_named (subst (λ x. told_in_part g x r ≡ []) (member_part fits k own clean.holds is) (none_first first later clean.told)) (none_first inner behind constants) part_is parts.of_first in
      let rest = members_typed s ctx known fits own (suc k) (suc j) m rs q parts.second (typed_later s ctx (names_in_range r) (names_in_ranges rs) names) bytes.1 is (record { holds = clean.holds; declarable = clean.declarable; named = others; told = none_later first later clean.told }) (none_later inner behind constants) part_is parts.of_second in
      subst (λ y. RangesHave ctx y q) parts.whole (with_one_range ctx parts.first parts.second q has rest)

  range_typed : (s : Source) (ctx : Context) (known : AllNamesKnown s) (m within : Option ModeTree) (r : RangeTree) (q : ModeTree) (y : made.RangeTree) → AreNamesTyped s ctx (names_in_range r) → RangeHasBytes r → IsPlace m → IsRangeWellNamed s.known r → told_in_part s.known m r ≡ [] → told_in_range s.known by_itself within r ≡ []
      → m ≡ Some q → range_as s m r ≡ Some y → RangeHas ctx y q
  range_typed s ctx known m within (alone e) q y names bytes is_place named told constants is built =
      let own : IsWellNamed s.known e = record { short = named.short; paths = named.paths; tuples = named.tuples; stands = named.stands } in
      let there = there_mapped made.alone (expr_as s m e) y built in
      let of_value : ValueTyped s ctx m e = λ d z class good inside at. expr_typed s ctx known (of_mode m) e d z names bytes (record { named = own; receives = is_place.fits; constants = told_any s.known None within e ∙ constants; told = inside }) class good at in
      subst (λ z. RangeHas ctx z q) there.2 (goes_typed s ctx known m e there.0 own told of_value there.1 q is)
  range_typed s ctx known m within (between l h) q y names bytes is_place named told constants is built =
      let g = s.known in
      let low : IsWellNamed g l = record { short = named.short.0; paths = named.paths.0; tuples = named.tuples.0; stands = named.stands.0 } in
      let high : IsWellNamed g h = record { short = named.short.1; paths = named.paths.1; tuples = named.tuples.1; stands = named.stands.1 } in
      let first = value_told g (of_mode m) l (told_in g (of_mode m) l) in
      let later = value_told g (of_mode m) h (told_in g (of_mode m) h) in
      let low_clean = told_any g None within l ∙ none_first (told_as g by_itself within l) (told_as g by_itself within h) constants in
      let high_clean = told_any g None within h ∙ none_later (told_as g by_itself within l) (told_as g by_itself within h) constants in
      let parts = made_parts made.between (expr_as s m l) (expr_as s m h) y built in
      let of_low : ValueTyped s ctx m l = λ d z class good inside at. expr_typed s ctx known (of_mode m) l d z (typed_first s ctx (names_in l) (names_in h) names) bytes.0 (record { named = low; receives = is_place.fits; constants = low_clean; told = inside }) class good at in
      let of_high : ValueTyped s ctx m h = λ d z class good inside at. expr_typed s ctx known (of_mode m) h d z (typed_later s ctx (names_in l) (names_in h) names) bytes.1 (record { named = high; receives = is_place.fits; constants = high_clean; told = inside }) class good at in
      subst (λ z. RangeHas ctx z q) parts.whole (goes_typed s ctx known m l parts.first low (none_first first later told) of_low parts.of_first q is, goes_typed s ctx known m h parts.second high (none_later first later told) of_high parts.of_second q is)

pub expr_typed_law : ExprTypedLaw
expr_typed_law s ctx r e c x known names bytes clean class valued built = expr_typed s ctx known r e c x names bytes clean class valued built

pub path_typed_law : (s : Source) (ctx : Context) (e : ExprTree) → AllNamesKnown s → AreNamesTyped s ctx (names_in e) → HasBytes e → PathsTyped s ctx e
path_typed_law s ctx e known names bytes = with_mode s ctx e known (path_typed s ctx known e names bytes)
