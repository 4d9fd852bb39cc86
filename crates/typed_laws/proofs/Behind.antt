-- What brackets are: calls, routines and elements are of the modes of their classes.
use Rattle.std.proofs.Common.{◌≡◌, ℕ, suc, ◌==◌, ◌&&◌, Bool, true, false, List, [], ◌∷◌, ◌++◌, length, Option, Some, None, refl, sym, ap, ◌∙◌, subst, eqb-true, true≢false}
use Rattle.std.specs.Prelude.{is_some, not, if◌then◌else◌, option_map, option_and_then, replicate}
use Rattle.chill_base.specs.declared.pos.Pos.{Pos}
use Rattle.chill_tree.specs.declared.tree.name.Name.{Name}
use Rattle.chill_tree.specs.ExprTree.{ExprTree, ExprNodes, no_exprs, more_exprs, name, apply, place_of}
use Rattle.modes.specs.ModeTree.{ModeTree, ClassTree, value, int}
use Rattle.modes.specs.Form.{FormTree, form_of, of_array, of_chars}
use Rattle.diagnostics.specs.declared.diagnostic.Diagnostic.{Diagnostic}
use Rattle.diagnostics.specs.declared.rule.Rule.TheVariants as rules
use Rattle.program_trees.specs.ExprTree as made
use Rattle.program_trees.specs.ProgramTree.{BodyRowTree}
use Rattle.checked_program.specs.declared.expr.Routine.{Routine}
use Rattle.checks_model.specs.Ground.{Ground, Predefined, num, succ, pred, abs, card, min, max, get_int, a_procedure, origin_of, entry_of, mode_of_entry}
use Rattle.checks_model.specs.Alike.{mode_in}
use Rattle.checks_model.specs.Operations.{is_measuring, class_of_routine, element_of_form, index_of_form}
use Rattle.checks_model.specs.Classes.{class_as, class_of, class_of_first, class_of_call, class_behind, measured_first, result_class, Callee, calls, routine, no_callee, callee_of, count_exprs}
use Rattle.checks_model.specs.Told.{tell_at, told_if, then_told}
use Rattle.checks_model.specs.ValueRules.{Receiver, nothing_asked, of_mode, received_mode, told_in, told_in_args, told_inside_each, told_behind, told_number, value_told, returns_none, receivers_of, each_receiver, receivers_behind, index_receiver, index_mode, clean_class}
use Rattle.table_laws.specs.Names.{names_in, names_in_each}
use Rattle.elaborated_laws.specs.Known.{IsDeclarable}
use Rattle.elaborated_laws.specs.Classes.{HasDeclarable}
use Rattle.elaborated_laws.proofs.Told.{none_first, none_later, none_inside, none_then, not_broken, not_true, not_second, no_some, same_some, there_mapped, there_chained}
use Rattle.elaborated_laws.proofs.Classes.{no_receiver, form_is}
use Rattle.there_laws.proofs.Forms.{has_bounds}
use Rattle.elaboration_model.specs.Numbering.{Source, body_used}
use Rattle.elaboration_model.specs.Parts.{made_of, made_if}
use Rattle.elaboration_model.specs.Expressions.{Formal, Path, formals_by, expr_as, path, arguments, only_one, class_first, routine_on, call_operation, routine_operation, element_path, index_mode_of}
use Rattle.expression_laws.specs.Names.{is_of_values, stands_for_procedure, IsPlace, AreFormals, AreWellNamed, AllNamesKnown}
use Rattle.expression_laws.specs.Expressions.{IsReceiverKnown}
use Rattle.expression_laws.proofs.Operators.{routine_there}
use Rattle.expression_laws.proofs.Parts.{is_there, value_goes}
use Rattle.expression_laws.proofs.Known.{procedure_of, callee_called}
use Rattle.expression_laws.proofs.Applied.{told_inside, first_named, first_declarable, same_first, RoutineClean, routine_clean, receiver_for, ArgumentsClean, arguments_clean, procedure_receivers, PartIn, index_mode_for, before_index, number_alone, IndexFor, index_for}
use Rattle.source_meaning.specs.TypedValues.{Context, HasMode, OperationHas, ArgumentsFit, IsTypedCall}
use Rattle.typed_laws.specs.Typed.{mode_for, TypedAs, AreParameters, IsNameTyped, AreNamesTyped, IsCalledRow}
use Rattle.typed_laws.proofs.Modes.{declared_mode}
use Rattle.typed_laws.proofs.Operators.{routine_has}
use Rattle.typed_laws.proofs.Made.{made_parts, if_parts, FoldedBy, GoesTo, ValueTyped, goes_typed}
use Rattle.typed_laws.proofs.Paths.{PathTyped, element_typed, element_mode}

-- the only expression in brackets, whatever receives it
abbrev pub OnlyTyped : Source → Context → ExprNodes → Type 0
OnlyTyped s ctx no_exprs = Unit {0}
OnlyTyped s ctx (more_exprs e no_exprs) = (r : Receiver) (c : ClassTree) (x : made.ExprTree) → IsReceiverKnown r → told_in s.known r e ≡ [] → class_as s.known (received_mode r) e ≡ Some c → is_of_values c ≡ true → expr_as s (received_mode r) e ≡ Some x → TypedAs ctx x c
OnlyTyped s ctx (more_exprs e (more_exprs f fs)) = Unit {0}

-- arguments, whatever they go to
abbrev pub ArgumentsTyped : Source → Context → ExprNodes → Type 0
ArgumentsTyped s ctx es = (fs : List Formal) (as' : made.ArgumentNodes) → AreFormals fs → ArgumentsClean s.known receiver_for fs es → arguments s fs es ≡ Some as' → (row : BodyRowTree) (k : ℕ) → AreParameters row k fs → ArgumentsFit ctx as' row k

module _ (s : Source) (ctx : Context) (known : AllNamesKnown s) where
  -- ---- routines

  pub operand_typed : (es : ExprNodes) (d : ClassTree) (x : made.ExprTree) → OnlyTyped s ctx es → class_of_first s.known es ≡ Some d → is_of_values d ≡ true → told_in_args s.known (replicate (count_exprs es) nothing_asked) es ≡ [] → only_one s None es ≡ Some x → TypedAs ctx x d
  operand_typed no_exprs d x only is valued none built = no_some d is
  operand_typed (more_exprs e no_exprs) d x only is valued none built =
      only nothing_asked d x no_receiver (told_inside s.known nothing_asked e (none_first (value_told s.known nothing_asked e (told_in s.known nothing_asked e)) [] none)) is valued built
  operand_typed (more_exprs e (more_exprs f fs)) d x only is valued none built = no_some x built

  by_argument : (p : Predefined) (es : ExprNodes) (c : ClassTree) (o : made.OperationTree) → AreWellNamed s.known false es → OnlyTyped s ctx es → option_and_then (class_of_routine p) (class_of_first s.known es) ≡ Some c → told_in_args s.known (replicate (count_exprs es) nothing_asked) es ≡ []
      → made_of made.routine (option_and_then (routine_on p) (class_first s es)) (only_one s None es) ≡ Some o → FoldedBy ctx c o
  by_argument p es c o named only is none built m of fits =
      let there = there_chained (class_of_routine p) (class_of_first s.known es) c is in
      let declared = first_declarable s es there.0 known named there.1 in
      let made_by = made_parts made.routine (option_and_then (routine_on p) (class_first s es)) (only_one s None es) o built in
      let on = sym (ap (option_and_then (routine_on p)) (same_first s es ∙ there.1)) ∙ made_by.of_first in
      let t = operand_typed es there.0 made_by.second only there.1 (routine_there p there.0 c declared there.2).valued none made_by.of_second in
      subst (λ q. OperationHas ctx q m) made_by.whole (t.mode, t.has, routine_has p there.0 c t.mode m made_by.first (declared_mode there.0 t.mode declared t.of) t.of of there.2 on)

  not_made : {A : Type 0} (p : Predefined) (c : Option ClassTree) (x : Option made.ExprTree) (o : made.OperationTree) → ((d : ClassTree) → routine_on p d ≡ None) → made_of made.routine (option_and_then (routine_on p) c) x ≡ Some o → A
  not_made p c x o none built =
      let made_by = made_parts made.routine (option_and_then (routine_on p) c) x o built in
      let on = there_chained (routine_on p) c made_by.first made_by.of_first in
      no_some made_by.first (sym (none on.0) ∙ on.2)

  routine_made : (p : Predefined) (es : ExprNodes) (c : ClassTree) (o : made.OperationTree) → (is_measuring p ≡ false → AreWellNamed s.known false es × OnlyTyped s ctx es) → RoutineClean s.known p es
      → class_of_call p (measured_first s.known es) (class_of_first s.known es) ≡ Some c → routine_operation p (class_first s es) (only_one s None es) ≡ Some o → FoldedBy ctx c o
  routine_made get_int es c o parts clean is built = λ m of fits. subst (λ q. OperationHas ctx q m) (same_some made.get_int o built) (same_some m int (sym of ∙ ap mode_for (sym (same_some (value int) c is))))
  routine_made num es c o parts clean is built = by_argument num es c o (parts refl).0 (parts refl).1 is clean.arguments built
  routine_made succ es c o parts clean is built = by_argument succ es c o (parts refl).0 (parts refl).1 is clean.arguments built
  routine_made pred es c o parts clean is built = by_argument pred es c o (parts refl).0 (parts refl).1 is clean.arguments built
  routine_made abs es c o parts clean is built = by_argument abs es c o (parts refl).0 (parts refl).1 is clean.arguments built
  routine_made card es c o parts clean is built = by_argument card es c o (parts refl).0 (parts refl).1 is clean.arguments built
  routine_made min es c o parts clean is built = by_argument min es c o (parts refl).0 (parts refl).1 is clean.arguments built
  routine_made max es c o parts clean is built = by_argument max es c o (parts refl).0 (parts refl).1 is clean.arguments built
  routine_made p es c o parts clean is built = not_made p (class_first s es) (only_one s None es) o (λ d. refl) built

  pub routine_typed : (p : Predefined) (at : Pos) (base : Option ClassTree) (inside : List Diagnostic) (es : ExprNodes) (c : ClassTree) (o : made.OperationTree) → (is_measuring p ≡ false → AreWellNamed s.known false es × OnlyTyped s ctx es)
      → class_of_call p (measured_first s.known es) (class_of_first s.known es) ≡ Some c → told_behind s.known (routine p) at base inside (told_in_args s.known (replicate (count_exprs es) nothing_asked) es) (told_inside_each s.known es) es ≡ []
      → routine_operation p (class_first s es) (only_one s None es) ≡ Some o → FoldedBy ctx c o
  routine_typed p at base inside es c o parts is none built = routine_made p es c o parts (routine_clean s.known p at base inside es none) is built

  -- ---- calls

  result_is : (e : Option ModeTree) (c : ClassTree) (m : ModeTree) → option_map value e ≡ Some c → mode_for c ≡ Some m → e ≡ Some m
  result_is e c m is of = let there = there_mapped value e c is in there.1 ∙ (ap mode_for there.2 ∙ of)

  pub call_typed : (n : Name) (at : Pos) (base : Option ClassTree) (inside measured : List Diagnostic) (es : ExprNodes) (c : ClassTree) (o : made.OperationTree) → IsNameTyped s ctx n → stands_for_procedure (origin_of s.known n) ≡ true → ArgumentsTyped s ctx es
      → told_behind s.known (calls n) at base inside (told_in_args s.known (each_receiver (receivers_of s.known n) (count_exprs es)) es) measured es ≡ [] → option_map value (mode_of_entry (entry_of s.known n)) ≡ Some c
      → call_operation s n (arguments s (formals_by s (origin_of s.known n)) es) ≡ Some o → FoldedBy ctx c o
  call_typed n at base inside measured es c o typed stands each none class built m of fits =
      let g = s.known in
      let args = told_in_args g (each_receiver (receivers_of g n) (count_exprs es)) es in
      let numbers = told_number at (count_exprs es) (length (receivers_of g n)) in
      let without = told_if (returns_none (origin_of g n)) (tell_at rules.S10 at) in
      let fs = formals_by s (origin_of g n) in
      let clean = arguments_clean g receiver_for fs (receivers_of g n) es at (procedure_receivers s n stands) (none_inside args (numbers ++ without) none) (none_first numbers without (none_then args (numbers ++ without) none)) in
      let made_by = made_parts (λ b as'. made.call (made.called b as')) (body_used s n) (arguments s fs es) o built in
      let p = procedure_of (origin_of g n) stands in
      let row = typed.called p.0 made_by.first p.1 made_by.of_first in
      let fit = each fs made_by.second (known n).formals clean made_by.of_second row.row 0 (subst (λ q. AreParameters row.row 0 (formals_by s q)) (sym p.1) row.parameters) in
      subst (λ q. OperationHas ctx q m) made_by.whole (row.row, row.is, row.sort, row.result_is ∙ result_is (mode_of_entry (entry_of g n)) c m class of, row.reached, fit)

  -- ---- elements

  index_alone : (f : FormTree) (k i : ModeTree) (e : ExprTree) (c : ClassTree) (x : made.ExprTree) → element_of_form f ≡ Some k → index_of_form f ≡ Some i → class_as s.known (Some i) e ≡ Some c → expr_as s (index_mode_for f) e ≡ Some x → expr_as s (Some i) e ≡ Some x
  index_alone (of_array j y how) k i e c x is index class built = subst (λ q. expr_as s (Some q) e ≡ Some x) (same_some j i index) built
  index_alone (of_chars n) k i e c x is index class built =
      let same = same_some int i index in
      subst (λ q. expr_as s (Some q) e ≡ Some x) same (number_alone s e c (subst (λ q. class_as s.known (Some q) e ≡ Some c) (sym same) class) ∙ built)
  index_alone f k i e c x is index class built = no_some k is

  -- the index goes to the index mode
  index_goes : (f : FormTree) (k : ModeTree) (i : IndexFor f) (es : ExprNodes) (x : made.ExprTree) → AreWellNamed s.known false es → OnlyTyped s ctx es → element_of_form f ≡ Some k → told_in_args s.known (of_mode (Some i.mode) ∷ []) es ≡ [] → only_one s (index_mode_for f) es ≡ Some x → GoesTo ctx x i.mode
  index_goes f k i no_exprs x named only is none built = no_some x built
  index_goes f k i (more_exprs e no_exprs) x named only is none built =
      let m = i.mode in
      let own = first_named s.known e no_exprs named in
      let told = none_first (value_told s.known (of_mode (Some m)) e (told_in s.known (of_mode (Some m)) e)) [] none in
      let v = value_goes s m e known own told in
      let same = index_alone f k m e v.class x is i.is v.is built in
      goes_typed s ctx known (Some m) e x own told (λ c y class valued inside at. only (of_mode (Some m)) c y (λ j same. subst IsDeclarable (same_some m j same) i.declarable) inside class valued at) same m refl
  index_goes f k i (more_exprs e (more_exprs y ys)) x named only is none built = no_some x built

  pub brackets_typed : (at : Pos) (e : ExprTree) (es : ExprNodes) (c : ClassTree) (q : Path) (measured : List Diagnostic) → AreWellNamed s.known false es → OnlyTyped s ctx es → (p : PartIn element_of_form (class_of s.known e) c) → ((b : Path) → path s e ≡ Some b → PathTyped ctx b × (b.mode ≡ p.mode)) → IsDeclarable p.mode
      → told_behind s.known no_callee at (class_of s.known e) (told_in s.known nothing_asked e) (told_in_args s.known (index_receiver (clean_class (told_in s.known nothing_asked e) (class_of s.known e)) (count_exprs es) ∷ []) es) measured es ≡ []
      → made_if element_path (only_one s (index_mode_of (class_of s.known e)) es) (path s e) ≡ Some q → PathTyped ctx q × (q.mode ≡ p.own)
  brackets_typed at e es c q measured named only p base declarable none built =
      let g = s.known in
      let f = form_of p.mode in
      let i = index_for f p.own p.has (form_is p.mode declarable) (has_bounds p.mode declarable) in
      let inside = told_in g nothing_asked e in
      let before = class_of g e in
      let count = count_exprs es in
      let args = told_in_args g (index_receiver (clean_class inside before) count ∷ []) es in
      let wrong = is_some (index_mode before) && not (count == 1) in
      let number = told_if wrong (tell_at rules.S5 at) in
      let clean = none_inside (inside ++ args) number none in
      let mode_is : index_mode before ≡ Some i.mode = ap index_mode p.is ∙ (ap (option_and_then index_of_form) p.form ∙ i.is) in
      let one = not_true (count == 1) (not_second (is_some (index_mode before)) (not (count == 1)) (is_there (index_mode before) i.mode mode_is) (not_broken wrong (tell_at rules.S5 at) (none_then (inside ++ args) number none))) in
      let receiver_is : index_receiver (clean_class inside before) count ≡ of_mode (Some i.mode) =
      ap (λ l. index_receiver (clean_class l before) count) (none_first inside args clean) ∙ (ap (λ b. of_mode (if b then index_mode before else None)) one ∙ ap of_mode mode_is)
      in
      let made_by = if_parts element_path (only_one s (index_mode_of before) es) (path s e) q built in
      let goes = index_goes f p.own i es made_by.first named only p.has (subst (λ r. told_in_args g (r ∷ []) es ≡ []) receiver_is (none_later inside args clean)) (subst (λ m. only_one s m es ≡ Some made_by.first) (before_index before p.whole f p.is p.form) made_by.of_first) in
      let b = base made_by.second made_by.of_second in
      (element_typed ctx made_by.first made_by.second q i.mode b.0 (ap (λ x. index_of_form (form_of x)) b.1 ∙ i.is) goes made_by.whole, element_mode made_by.first made_by.second q p.own (ap (λ x. element_of_form (form_of x)) b.1 ∙ p.has) made_by.whole)
