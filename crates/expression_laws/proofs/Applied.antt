-- What brackets are: a call, a routine and an element are there, where their parts are.
use Rattle.std.proofs.Common.{◌≡◌, ℕ, suc, ◌==◌, Bool, true, false, ◌&&◌, ◌||◌, List, [], ◌∷◌, ◌++◌, length, Option, Some, None, refl, sym, ap, ◌∙◌, subst, arith, true≢false}
use Rattle.std.proofs.lemmas.Bool.{eqb-true, eq-eqb}
use Rattle.std.specs.Prelude.{IsSome, is_some, not, if◌then◌else◌, option_map, option_and_then, map, flat_map, replicate}
use Rattle.chill_base.specs.declared.pos.Pos.{Pos}
use Rattle.chill_tree.specs.declared.tree.name.Name.{Name}
use Rattle.chill_tree.specs.declared.tree.item.Passing.{Passing}
use Rattle.chill_tree.specs.declared.tree.item.Passing.TheVariants as passings
use Rattle.chill_tree.specs.ExprTree.{ExprTree, ExprNodes, RangeNodes, whole, character, text, this_instance, paren, receive, start, tuple, uniform, name, apply, field, prefixed, binary, no_exprs, more_exprs, place_of}
use Rattle.chill_tree.specs.ItemTree.{ParamTree, ProcedureTree, FormalTree, ProcessTree}
use Rattle.modes.specs.ModeTree.{ModeTree, ClassTree, value, derived, null, nothing, int, boolean, char, instance, set_of, range, powerset, chars, array, structure, event, buffer, read, named}
use Rattle.modes.specs.Scalars.{scalars_of}
use Rattle.modes.specs.declared.mode.Bounds.{Bounds}
use Rattle.modes.specs.Form.{FormTree, form_of, of_int, of_powerset, of_chars, of_array, of_structure, of_meeting}
use Rattle.diagnostics.specs.declared.diagnostic.Diagnostic.{Diagnostic}
use Rattle.diagnostics.specs.declared.rule.Rule.TheVariants as rules
use Rattle.program_trees.specs.ExprTree as made
use Rattle.checks_model.specs.Alike.{is_meeting, mode_in}
use Rattle.checks_model.specs.Ground.{Ground, Origin, Predefined, of_mode as of_its_mode, truth, no_instance, num, succ, pred, abs, card, min, max, upper, lower, size, put_int, put_text, put_nl, get_int, a_procedure, a_process, origin_of, entry_defined, mode_of_entry}
use Rattle.checks_model.specs.Operations.{form_in, part_class, part_of_class, element_of_form, field_of_form, index_of_form, is_measuring, gives_no_value, arguments_of, class_of_routine, when}
use Rattle.checks_model.specs.Classes.{class_as, class_of, class_of_first, class_of_call, class_of_measured, Callee, calls, routine, no_callee, callee_of, Measured, a_mode_of, misfit, other, measured, measured_first, tuple_mode, value_if, shape_fits, uniform_fits, count_exprs}
use Rattle.checks_model.specs.Constants.{has_form, are_arguments, is_measured, value_routine}
use Rattle.checks_model.specs.Told.{tell_at, told_if, then_told, holds_of}
use Rattle.checks_model.specs.ValueRules.{Receiver, nothing_asked, of_mode, passed_back, received_mode, is_too_large, told_received, own_told, value_told, told_in, told_in_args, told_inside_each, told_behind, told_number, bare, call_misfits, receivers_of, receivers_by, receivers_of_param, receivers_of_formal, each_receiver, passed, index_receiver, index_mode, clean_class, returns_none}
use Rattle.elaborated_laws.specs.Known.{IsDeclarable}
use Rattle.elaborated_laws.specs.Classes.{HasDeclarable}
use Rattle.elaborated_laws.proofs.Told.{none_first, none_later, none_inside, none_then, not_broken, not_true, not_second, no_some, same_some, there_mapped, there_chained}
use Rattle.elaborated_laws.proofs.Modes.{language_declarable}
use Rattle.elaborated_laws.proofs.Classes.{FormIs, form_is, of_int_language, no_receiver}
use Rattle.there_laws.proofs.Forms.{HasBounds, has_bounds}
use Rattle.there_laws.proofs.Modes.{value_in}
use Rattle.elaboration_model.specs.Numbering.{Source, body_used}
use Rattle.elaboration_model.specs.Parts.{made_of, made_if}
use Rattle.elaboration_model.specs.Expressions.{Formal, Path, formals_by, formals_of_param, modes_by, modes_of_formal, mode_defined, passing_of, expr_as, arguments, only_one, class_first, routine_on, call_operation, routine_operation, element_path, with_part, index_bounds, index_mode_of, path}
use Rattle.expression_laws.specs.Names.{stands_for_procedure, stands_for_process, is_of_values, IsPlace, AreFormals, IsWellNamed, AreWellNamed, AllNamesKnown}
use Rattle.expression_laws.specs.Expressions.{IsReceiverKnown}
use Rattle.expression_laws.proofs.Values.{part_valued, form_there, declarable_in}
use Rattle.expression_laws.proofs.Operators.{map_there, routine_there, bounds_there}
use Rattle.expression_laws.proofs.Known.{procedure_of, process_of}
use Rattle.expression_laws.proofs.Parts.{made_there, if_made, is_there, class_declarable, value_by}

pub told_inside : (g : Ground) (r : Receiver) (e : ExprTree) → value_told g r e (told_in g r e) ≡ [] → told_in g r e ≡ []
told_inside g r e none =
    none_inside (told_in g r e) (told_if (holds_of is_too_large (class_as g (received_mode r) e)) (tell_at rules.L6 (place_of (bare e)))) (none_inside (own_told g r e (told_in g r e)) (told_received g r e) none)

-- ---- the only expression in brackets

-- it is there, whatever receives it
abbrev pub OnlyThere : Source → ExprNodes → Type 0
OnlyThere s no_exprs = Unit {0}
OnlyThere s (more_exprs e no_exprs) = (r : Receiver) (c : ClassTree) → IsReceiverKnown r → told_in s.known r e ≡ [] → class_as s.known (received_mode r) e ≡ Some c → is_of_values c ≡ true → IsSome (expr_as s (received_mode r) e)
OnlyThere s (more_exprs e (more_exprs f fs)) = Unit {0}

pub first_named : (g : Ground) (e : ExprTree) (es : ExprNodes) → AreWellNamed g false (more_exprs e es) → IsWellNamed g e
first_named g e es well = record { short = well.short.0; paths = well.paths.0; tuples = well.tuples.0; stands = well.stands.0 }

pub first_declarable : (s : Source) (es : ExprNodes) (d : ClassTree) → AllNamesKnown s → AreWellNamed s.known false es → class_of_first s.known es ≡ Some d → HasDeclarable d
first_declarable s no_exprs d known well is = no_some d is
first_declarable s (more_exprs e es) d known well is = class_declarable s None e d known (first_named s.known e es well) no_receiver is

pub same_first : (s : Source) (es : ExprNodes) → class_first s es ≡ class_of_first s.known es
same_first s no_exprs = refl
same_first s (more_exprs e es) = refl

pub operand_there : (s : Source) (es : ExprNodes) (d : ClassTree) → OnlyThere s es → count_exprs es ≡ 1 → class_of_first s.known es ≡ Some d → is_of_values d ≡ true → told_in_args s.known (replicate (count_exprs es) nothing_asked) es ≡ [] → IsSome (only_one s None es)
operand_there s no_exprs d only count is valued none = no_some d is
operand_there s (more_exprs e no_exprs) d only count is valued none = only nothing_asked d no_receiver (told_inside s.known nothing_asked e (none_first (value_told s.known nothing_asked e (told_in s.known nothing_asked e)) [] none)) is valued
operand_there s (more_exprs e (more_exprs f fs)) d only count is valued none = absurd (omega (arith, count))

-- ---- routines

-- what is told of a routine: nothing in its arguments, and their number is right
pub record RoutineClean (g : Ground) (p : Predefined) (es : ExprNodes) : Type 0 where
  pub arguments : (if is_measuring p then told_inside_each g es else told_in_args g (replicate (count_exprs es) nothing_asked) es) ≡ []
  pub count : count_exprs es ≡ arguments_of p

pub routine_clean : (g : Ground) (p : Predefined) (at : Pos) (base : Option ClassTree) (inside : List Diagnostic) (es : ExprNodes)
    → told_behind g (routine p) at base inside (told_in_args g (replicate (count_exprs es) nothing_asked) es) (told_inside_each g es) es ≡ [] → RoutineClean g p es
routine_clean g p at base inside es none =
    let in_args = if is_measuring p then told_inside_each g es else told_in_args g (replicate (count_exprs es) nothing_asked) es in
    let without = told_if (gives_no_value p) (tell_at rules.S10 at) in
    let numbers = told_number at (count_exprs es) (arguments_of p) in
    let misfit = told_if (call_misfits g p es) (tell_at rules.S1 at) in
    let at_it = none_then in_args (without ++ then_told numbers misfit) none in
    let wrong = none_inside numbers misfit (none_later without (then_told numbers misfit) at_it) in
    record {
      arguments = none_inside in_args (without ++ then_told numbers misfit) none;
      count = eqb-true (count_exprs es) (arguments_of p) (not_true (count_exprs es == arguments_of p) (not_broken (not (count_exprs es == arguments_of p)) (tell_at rules.S5 at) wrong));
    }

measured_is : (p : Predefined) (m : Measured) (c : ClassTree) → class_of_measured p m ≡ Some c → is_measured m ≡ true
measured_is p (a_mode_of m) c is = refl
measured_is p misfit c is = refl
measured_is p other c is = no_some c is

measured_form : (g : Ground) (es : ExprNodes) → count_exprs es ≡ 1 → is_measured (measured_first g es) ≡ true → are_arguments g true es ≡ true
measured_form g no_exprs count is = refl
measured_form g (more_exprs e no_exprs) count is = ap (λ b. ((true && b) || has_form g false e) && true) is
measured_form g (more_exprs e (more_exprs f fs)) count is = absurd (omega (arith, count))

-- what is measured is a constant
no_measure : {A : Type 0} (g : Ground) (p : Predefined) (es : ExprNodes) (c : ClassTree) → count_exprs es ≡ 1 → are_arguments g true es ≡ false → class_of_measured p (measured_first g es) ≡ Some c → A
no_measure g p es c count form is = absurd (true≢false (sym (measured_form g es count (measured_is p (measured_first g es) c is)) ∙ form))

-- what is there of a routine's arguments
pub record RoutineParts (s : Source) (es : ExprNodes) : Type 0 where
  pub known : AllNamesKnown s
  pub named : AreWellNamed s.known false es
  pub only : OnlyThere s es

by_argument : (s : Source) (p : Predefined) (es : ExprNodes) (c : ClassTree) → RoutineParts s es → option_and_then (class_of_routine p) (class_of_first s.known es) ≡ Some c → count_exprs es ≡ 1
    → told_in_args s.known (replicate (count_exprs es) nothing_asked) es ≡ [] → IsSome (made_of made.routine (option_and_then (routine_on p) (class_first s es)) (only_one s None es))
by_argument s p es c parts is count none =
    let there = there_chained (class_of_routine p) (class_of_first s.known es) c is in
    let fits = routine_there p there.0 c (first_declarable s es there.0 parts.known parts.named there.1) there.2 in
    made_there made.routine (option_and_then (routine_on p) (class_first s es)) (only_one s None es)
    (subst (λ x. IsSome (option_and_then (routine_on p) x)) (sym (same_first s es ∙ there.1)) fits.made)
    (operand_there s es there.0 parts.only count there.1 fits.valued none)

routine_made : (s : Source) (p : Predefined) (es : ExprNodes) (c : ClassTree) → (is_measuring p ≡ false → RoutineParts s es) → RoutineClean s.known p es
    → holds_of (λ p. are_arguments s.known (is_measuring p) es) (value_routine (routine p)) ≡ false → class_of_call p (measured_first s.known es) (class_of_first s.known es) ≡ Some c → IsSome (routine_operation p (class_first s es) (only_one s None es))
routine_made s get_int es c parts clean form is = refl
routine_made s upper es c parts clean form is = no_measure s.known upper es c clean.count form is
routine_made s lower es c parts clean form is = no_measure s.known lower es c clean.count form is
routine_made s size es c parts clean form is = no_measure s.known size es c clean.count form is
routine_made s put_nl es c parts clean form is = no_some c (there_chained (class_of_routine put_nl) (class_of_first s.known es) c is).2
routine_made s put_int es c parts clean form is = by_argument s put_int es c (parts refl) is clean.count clean.arguments
routine_made s put_text es c parts clean form is = by_argument s put_text es c (parts refl) is clean.count clean.arguments
routine_made s num es c parts clean form is = by_argument s num es c (parts refl) is clean.count clean.arguments
routine_made s succ es c parts clean form is = by_argument s succ es c (parts refl) is clean.count clean.arguments
routine_made s pred es c parts clean form is = by_argument s pred es c (parts refl) is clean.count clean.arguments
routine_made s abs es c parts clean form is = by_argument s abs es c (parts refl) is clean.count clean.arguments
routine_made s card es c parts clean form is = by_argument s card es c (parts refl) is clean.count clean.arguments
routine_made s min es c parts clean form is = by_argument s min es c (parts refl) is clean.count clean.arguments
routine_made s max es c parts clean form is = by_argument s max es c (parts refl) is clean.count clean.arguments
routine_made s (of_its_mode m) es c parts clean form is = by_argument s (of_its_mode m) es c (parts refl) is clean.count clean.arguments
routine_made s (truth b) es c parts clean form is = by_argument s (truth b) es c (parts refl) is clean.count clean.arguments
routine_made s no_instance es c parts clean form is = by_argument s no_instance es c (parts refl) is clean.count clean.arguments

pub routine_shown : (s : Source) (p : Predefined) (at : Pos) (base : Option ClassTree) (inside : List Diagnostic) (es : ExprNodes) (c : ClassTree) → (is_measuring p ≡ false → RoutineParts s es)
    → holds_of (λ p. are_arguments s.known (is_measuring p) es) (value_routine (routine p)) ≡ false → class_of_call p (measured_first s.known es) (class_of_first s.known es) ≡ Some c
    → told_behind s.known (routine p) at base inside (told_in_args s.known (replicate (count_exprs es) nothing_asked) es) (told_inside_each s.known es) es ≡ [] → IsSome (routine_operation p (class_first s es) (only_one s None es))
routine_shown s p at base inside es c parts form is none = routine_made s p es c parts (routine_clean s.known p at base inside es none) form is

-- ---- what arguments go to

abbrev pub receiver_for : Formal → Receiver
receiver_for (passings.In, m) = of_mode m
receiver_for (passings.Out, m) = passed_back m
receiver_for (passings.InOut, m) = passed_back m

passed_as : (p : Option Passing) (m : Option ModeTree) → passed p m ≡ receiver_for (passing_of p, m)
passed_as None m = refl
passed_as (Some passings.In) m = refl
passed_as (Some passings.Out) m = refl
passed_as (Some passings.InOut) m = refl

map_both : {A B : Type 0} (f : A → B) (xs ys : List A) → map f (xs ++ ys) ≡ map f xs ++ map f ys
map_both f [] ys = refl
map_both f (x ∷ xs) ys = ap (λ l. f x ∷ l) (map_both f xs ys)

param_receivers : (s : Source) (p : Option Passing) (ns : List Name) → map (λ n. passed p (mode_of_entry (entry_defined s.known n))) ns ≡ map receiver_for (map (λ n. (passing_of p, mode_defined s n)) ns)
param_receivers s p [] = refl
param_receivers s p (n ∷ ns) =
    ap (λ r. r ∷ map (λ n. passed p (mode_of_entry (entry_defined s.known n))) ns) (passed_as p (mode_defined s n)) ∙ ap (λ l. receiver_for (passing_of p, mode_defined s n) ∷ l) (param_receivers s p ns)

params_receivers : (s : Source) (ps : List ParamTree) → flat_map (receivers_of_param s.known) ps ≡ map receiver_for (flat_map (formals_of_param s) ps)
params_receivers s [] = refl
params_receivers s (p ∷ ps) =
    ap (λ l. l ++ flat_map (receivers_of_param s.known) ps) (param_receivers s p.passing p.names)
    ∙ (ap (λ l. map receiver_for (formals_of_param s p) ++ l) (params_receivers s ps) ∙ sym (map_both receiver_for (formals_of_param s p) (flat_map (formals_of_param s) ps)))

formal_receivers : (s : Source) (ns : List Name) → map (λ n. of_mode (mode_of_entry (entry_defined s.known n))) ns ≡ map of_mode (map (mode_defined s) ns)
formal_receivers s [] = refl
formal_receivers s (n ∷ ns) = ap (λ l. of_mode (mode_defined s n) ∷ l) (formal_receivers s ns)

formals_receivers : (s : Source) (ps : List FormalTree) → flat_map (receivers_of_formal s.known) ps ≡ map of_mode (flat_map (modes_of_formal s) ps)
formals_receivers s [] = refl
formals_receivers s (p ∷ ps) =
    ap (λ l. l ++ flat_map (receivers_of_formal s.known) ps) (formal_receivers s p.names)
    ∙ (ap (λ l. map of_mode (modes_of_formal s p) ++ l) (formals_receivers s ps) ∙ sym (map_both of_mode (modes_of_formal s p) (flat_map (modes_of_formal s) ps)))

-- each argument has its own receiver, where their number is right
each_all : (rs : List Receiver) (count : ℕ) → count ≡ length rs → each_receiver rs count ≡ rs
each_all rs count same = ap (λ b. if b then rs else replicate count (of_mode None)) (eq-eqb (length rs) count (sym same))

map_length : {A B : Type 0} (f : A → B) (xs : List A) → length (map f xs) ≡ length xs
map_length f [] = refl
map_length f (x ∷ xs) = ap suc (map_length f xs)

-- what is told in arguments, which go to these, with their number
pub record ArgumentsClean {A : Type 0} (g : Ground) (f : A → Receiver) (xs : List A) (es : ExprNodes) : Type 0 where
  pub count : count_exprs es ≡ length xs
  pub told : told_in_args g (map f xs) es ≡ []

pub arguments_clean : {A : Type 0} (g : Ground) (f : A → Receiver) (xs : List A) (rs : List Receiver) (es : ExprNodes) (at : Pos) → rs ≡ map f xs → told_in_args g (each_receiver rs (count_exprs es)) es ≡ [] → told_number at (count_exprs es) (length rs) ≡ [] → ArgumentsClean g f xs es
arguments_clean g f xs rs es at are none number =
    let same = eqb-true (count_exprs es) (length rs) (not_true (count_exprs es == length rs) (not_broken (not (count_exprs es == length rs)) (tell_at rules.S5 at) number)) in
    record {
      count = same ∙ (ap length are ∙ map_length f xs);
      told = subst (λ l. told_in_args g l es ≡ []) (each_all rs (count_exprs es) same ∙ are) none;
    }

pub procedure_receivers : (s : Source) (n : Name) → stands_for_procedure (origin_of s.known n) ≡ true → receivers_of s.known n ≡ map receiver_for (formals_by s (origin_of s.known n))
procedure_receivers s n stands = let p = procedure_of (origin_of s.known n) stands in subst (λ o. receivers_by s.known o ≡ map receiver_for (formals_by s o)) (sym p.1) (params_receivers s p.0.params)

pub process_receivers : (s : Source) (n : Name) → stands_for_process (origin_of s.known n) ≡ true → receivers_of s.known n ≡ map of_mode (modes_by s (origin_of s.known n))
process_receivers s n stands = let p = process_of (origin_of s.known n) stands in subst (λ o. receivers_by s.known o ≡ map of_mode (modes_by s o)) (sym p.1) (formals_receivers s p.0.formals)

-- ---- calls

abbrev pub ArgumentsThere : Source → ExprNodes → Type 0
ArgumentsThere s es = (fs : List Formal) → AreFormals fs → ArgumentsClean s.known receiver_for fs es → IsSome (arguments s fs es)

pub call_shown : (s : Source) (n : Name) (at : Pos) (base : Option ClassTree) (inside measured : List Diagnostic) (es : ExprNodes) → AllNamesKnown s → stands_for_procedure (origin_of s.known n) ≡ true → ArgumentsThere s es
    → told_behind s.known (calls n) at base inside (told_in_args s.known (each_receiver (receivers_of s.known n) (count_exprs es)) es) measured es ≡ [] → IsSome (call_operation s n (arguments s (formals_by s (origin_of s.known n)) es))
call_shown s n at base inside measured es known stands each none =
    let g = s.known in
    let args = told_in_args g (each_receiver (receivers_of g n) (count_exprs es)) es in
    let numbers = told_number at (count_exprs es) (length (receivers_of g n)) in
    let without = told_if (returns_none (origin_of g n)) (tell_at rules.S10 at) in
    let fs = formals_by s (origin_of g n) in
    let clean = arguments_clean g receiver_for fs (receivers_of g n) es at (procedure_receivers s n stands) (none_inside args (numbers ++ without) none) (none_first numbers without (none_then args (numbers ++ without) none)) in
    made_there (λ b as'. made.call (made.called b as')) (body_used s n) (arguments s fs es) ((known n).called stands) (each fs (known n).formals clean)

-- ---- parts

-- a part of a class: of which mode the whole is, and the part
pub record PartIn (part : FormTree → Option ModeTree) (base : Option ClassTree) (c : ClassTree) : Type 0 where
  pub whole : ClassTree
  pub is : base ≡ Some whole
  pub mode : ModeTree
  pub in_whole : mode_in whole ≡ Some mode
  pub form : form_in whole ≡ Some (form_of mode)
  pub valued : not (is_meeting (form_of mode)) ≡ true
  pub own : ModeTree
  pub has : part (form_of mode) ≡ Some own
  pub class : c ≡ value own

apart_by : (part : FormTree → Option ModeTree) (f : FormTree) (k : ModeTree) → part of_meeting ≡ None → part f ≡ Some k → not (is_meeting f) ≡ true
apart_by part of_meeting k apart is = no_some k (sym apart ∙ is)
apart_by part f k apart is = refl

pub part_in : (part : FormTree → Option ModeTree) (base : Option ClassTree) (c : ClassTree) → part of_meeting ≡ None → option_map (part_of_class part) base ≡ Some c → is_of_values c ≡ true → PartIn part base c
part_in part base c apart is valued =
    let there = there_mapped (part_of_class part) base c is in
    let made = option_and_then part (form_in there.0) in
    let own = part_valued made (subst (λ k. is_of_values k ≡ true) (sym there.2) valued) in
    let by = there_chained part (form_in there.0) own.0 own.1.0 in
    let m = form_there there.0 by.0 by.1 in
    let has = ap part m.1.1 ∙ by.2 in
    record {
      whole = there.0;
      is = there.1;
      mode = m.0;
      in_whole = m.1.0;
      form = by.1 ∙ ap Some (sym m.1.1);
      valued = apart_by part (form_of m.0) own.0 apart has;
      own = own.0;
      has = has;
      class = sym there.2 ∙ ap part_class own.1.0;
    }

-- a name with parts is there, and is of a mode
pub record PathThere (p : Option Path) (m : ModeTree) : Type 0 where
  pub at : Path
  pub is : p ≡ Some at
  pub mode : at.mode ≡ m

-- ---- elements

abbrev pub index_mode_for : FormTree → Option ModeTree
index_mode_for (of_array i e how) = Some i
index_mode_for _ = None

value_index : (m : ModeTree) → index_mode_of (Some (value m)) ≡ index_mode_for (form_of m)
value_index int = refl
value_index boolean = refl
value_index char = refl
value_index instance = refl
value_index (set_of d n) = refl
value_index (range p l h) = value_index p
value_index (powerset m) = refl
value_index (chars n) = refl
value_index (array i e how) = refl
value_index (structure fs p) = refl
value_index (event l) = refl
value_index (buffer l e) = refl
value_index (read m) = value_index m
value_index (named d n m) = value_index m

derived_index : (m : ModeTree) → index_mode_of (Some (derived m)) ≡ index_mode_for (form_of m)
derived_index int = refl
derived_index boolean = refl
derived_index char = refl
derived_index instance = refl
derived_index (set_of d n) = refl
derived_index (range p l h) = derived_index p
derived_index (powerset m) = refl
derived_index (chars n) = refl
derived_index (array i e how) = refl
derived_index (structure fs p) = refl
derived_index (event l) = refl
derived_index (buffer l e) = refl
derived_index (read m) = derived_index m
derived_index (named d n m) = derived_index m

class_index : (c : ClassTree) (f : FormTree) → form_in c ≡ Some f → index_mode_of (Some c) ≡ index_mode_for f
class_index (value m) f is = value_index m ∙ ap index_mode_for (same_some (form_of m) f is)
class_index (derived m) f is = derived_index m ∙ ap index_mode_for (same_some (form_of m) f is)
class_index null f is = no_some f is
class_index nothing f is = no_some f is

pub before_index : (before : Option ClassTree) (c : ClassTree) (f : FormTree) → before ≡ Some c → form_in c ≡ Some f → index_mode_of before ≡ index_mode_for f
before_index before c f is form = ap index_mode_of is ∙ class_index c f form

-- a tuple without a name is no number
not_number : {A : Type 0} (fits : FormTree → Bool) (c : ClassTree) → fits of_int ≡ false → when (fits of_int) (value int) ≡ Some c → A
not_number fits c apart is = no_some c (sym (ap (λ (b : Bool). when b (value int)) apart) ∙ is)

-- what goes to INT is elaborated as what goes nowhere
pub number_alone : (s : Source) (e : ExprTree) (c : ClassTree) → class_as s.known (Some int) e ≡ Some c → expr_as s (Some int) e ≡ expr_as s None e
number_alone s (paren at e) c is = number_alone s e c is
number_alone s (tuple at None b rs) c is = not_number (shape_fits rs) c refl is
number_alone s (uniform at None b e) c is = not_number uniform_fits c refl is
number_alone s e c is = refl

-- the index of an element
pub record IndexFor (f : FormTree) : Type 0 where
  pub mode : ModeTree
  pub is : index_of_form f ≡ Some mode
  pub declarable : IsDeclarable mode
  pub bounds : IsSome (index_bounds f)

pub index_for : (f : FormTree) (k : ModeTree) → element_of_form f ≡ Some k → FormIs f → HasBounds f → IndexFor f
index_for (of_array i e how) k is fits bounds = record { mode = i; is = refl; declarable = language_declarable i fits.0; bounds = bounds }
index_for (of_chars n) k is fits bounds = record { mode = int; is = refl; declarable = of_int_language; bounds = refl }
index_for f k is fits bounds = no_some k is

index_alone : (s : Source) (f : FormTree) (k m : ModeTree) (e : ExprTree) (c : ClassTree) → element_of_form f ≡ Some k → index_of_form f ≡ Some m → class_as s.known (Some m) e ≡ Some c → IsSome (expr_as s (Some m) e) → IsSome (expr_as s (index_mode_for f) e)
index_alone s (of_array i x how) k m e c is index class there = subst (λ j. IsSome (expr_as s (Some j) e)) (sym (same_some i m index)) there
index_alone s (of_chars n) k m e c is index class there =
    let same = same_some int m index in
    subst IsSome (number_alone s e c (subst (λ j. class_as s.known (Some j) e ≡ Some c) (sym same) class)) (subst (λ j. IsSome (expr_as s (Some j) e)) (sym same) there)
index_alone s f k m e c is index class there = no_some k is

-- the index is there
index_there : (s : Source) (f : FormTree) (k : ModeTree) (i : IndexFor f) (es : ExprNodes) → RoutineParts s es → element_of_form f ≡ Some k → count_exprs es ≡ 1 → told_in_args s.known (of_mode (Some i.mode) ∷ []) es ≡ [] → IsSome (only_one s (index_mode_for f) es)
index_there s f k i no_exprs parts is count none = absurd (omega (arith, count))
index_there s f k i (more_exprs e no_exprs) parts is count none =
    let m = i.mode in
    let place : IsPlace (Some m) = record { there = refl; fits = λ j same. subst IsDeclarable (same_some m j same) i.declarable } in
    value_by s (Some m) e parts.known place (first_named s.known e no_exprs parts.named) (none_first (value_told s.known (of_mode (Some m)) e (told_in s.known (of_mode (Some m)) e)) [] none)
    (λ c class valued inside. index_alone s f k m e c is i.is class (parts.only (of_mode (Some m)) c place.fits inside class valued))
index_there s f k i (more_exprs e (more_exprs x xs)) parts is count none = absurd (omega (arith, count))

element_at : (i : made.ExprTree) (p : Path) (f : FormTree) (own : ModeTree) → form_of p.mode ≡ f → IsSome (index_bounds f) → element_of_form f ≡ Some own → PathThere (element_path i p) own
element_at i p f own same bounds has =
    let b = value_in (index_bounds f) bounds in
    let made_with : Bounds → ModeTree → Path = λ b m. with_part (made.one_element i b (scalars_of m)) m p in
    record {
      at = with_part (made.one_element i b.0 (scalars_of own)) own p;
      is = ap (λ x. made_of made_with x (element_of_form (form_of p.mode))) (ap index_bounds same ∙ b.1) ∙ ap (λ x. made_of made_with (Some b.0) x) (ap element_of_form same ∙ has);
      mode = refl;
    }

-- an element is there, where what stands before the brackets is
pub element_shown : (s : Source) (at : Pos) (e : ExprTree) (es : ExprNodes) (c : ClassTree) (measured : List Diagnostic) → RoutineParts s es → (p : PartIn element_of_form (class_of s.known e) c) → PathThere (path s e) p.mode → IsDeclarable p.mode
    → told_behind s.known no_callee at (class_of s.known e) (told_in s.known nothing_asked e) (told_in_args s.known (index_receiver (clean_class (told_in s.known nothing_asked e) (class_of s.known e)) (count_exprs es) ∷ []) es) measured es ≡ []
    → PathThere (made_if element_path (only_one s (index_mode_of (class_of s.known e)) es) (path s e)) p.own
element_shown s at e es c measured parts p base declarable none =
    let g = s.known in
    let f = form_of p.mode in
    let i = index_for f p.own p.has (form_is p.mode declarable) (has_bounds p.mode declarable) in
    let inside = told_in g nothing_asked e in
    let before = class_of g e in
    let count = count_exprs es in
    let args = told_in_args g (index_receiver (clean_class inside before) count ∷ []) es in
    let wrong = is_some (index_mode before) && not (count == 1) in
    let number = told_if wrong (tell_at rules.S5 at) in
    let clean = none_inside (inside ++ args) number none in
    let mode_is : index_mode before ≡ Some i.mode = ap index_mode p.is ∙ (ap (option_and_then index_of_form) p.form ∙ i.is) in
    let one = not_true (count == 1) (not_second (is_some (index_mode before)) (not (count == 1)) (is_there (index_mode before) i.mode mode_is) (not_broken wrong (tell_at rules.S5 at) (none_then (inside ++ args) number none))) in
    let receiver_is : index_receiver (clean_class inside before) count ≡ of_mode (Some i.mode) =
    ap (λ l. index_receiver (clean_class l before) count) (none_first inside args clean) ∙ (ap (λ b. of_mode (if b then index_mode before else None)) one ∙ ap of_mode mode_is)
    in
    let index = index_there s f p.own i es parts p.has (eqb-true count 1 one) (subst (λ r. told_in_args g (r ∷ []) es ≡ []) receiver_is (none_later inside args clean)) in
    let brackets_is = before_index before p.whole f p.is p.form in
    let x = value_in (only_one s (index_mode_of before) es) (subst (λ m. IsSome (only_one s m es)) (sym brackets_is) index) in
    let made = element_at x.0 base.at f p.own (ap form_of base.mode) i.bounds p.has in
    record { at = made.at; is = ap (λ y. made_if element_path y (path s e)) x.1 ∙ (ap (λ y. made_if element_path (Some x.0) y) base.is ∙ made.is); mode = made.mode }
