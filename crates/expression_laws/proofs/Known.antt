-- All is known that the class of an expression needs, where it is known of each name, and names stand for what they have to.
use Rattle.std.proofs.Common.{◌≡◌, Bool, true, false, ◌||◌, List, [], ◌∷◌, Option, Some, None, refl, sym, ap, ◌∙◌, subst, true≢false}
use Rattle.std.specs.Prelude.{IsSome, option_map, if◌then◌else◌}
use Rattle.chill_tree.specs.declared.tree.name.Name.{Name}
use Rattle.chill_tree.specs.ExprTree.{ExprTree, ExprNodes, whole, character, text, this_instance, paren, receive, start, tuple, uniform, name, apply, field, prefixed, binary, no_exprs, more_exprs}
use Rattle.chill_tree.specs.LocalTree.{DeclarationTree}
use Rattle.chill_tree.specs.ItemTree.{ProcedureTree, ProcessTree}
use Rattle.modes.specs.ModeTree.{ModeTree, ClassTree, value}
use Rattle.checks_model.specs.Ground.{Ground, Origin, Entry, Predefined, of_mode, a_mode, a_location, a_parameter, a_procedure, a_process, a_predefined, origin_of, entry_of, mode_of_entry, mode_of_name}
use Rattle.checks_model.specs.Operations.{is_measuring, is_routine}
use Rattle.checks_model.specs.Classes.{Callee, calls, routine, no_callee, callee_by, callee_of, result_class, Measured, a_mode_of, misfit, other, measured, measured_first, measured_name, located_name}
use Rattle.checks_model.specs.ActionRules.{measures}
use Rattle.checks_model.specs.ValueRules.{returns_none}
use Rattle.class_laws.specs.Known.{HasMode, MeasuredKnown, RoutineKnown, BracketsKnown, FirstKnown, IsKnown}
use Rattle.class_laws.proofs.Receiving.{receive_there}
use Rattle.table_laws.specs.Names.{names_in}
use Rattle.there_laws.specs.Constants.{IsMeasurable}
use Rattle.there_laws.specs.Table.{stands_for_mode, IsSomeModeName, TuplesNamed, EachTuplesNamed}
use Rattle.there_laws.proofs.Needs.{AreThere, expr_needs}
use Rattle.elaboration_model.specs.Numbering.{Source}
use Rattle.expression_laws.specs.Names.{stands_for_value, stands_for_location, stands_for_procedure, stands_for_process, MayStand, Stands, EachStands, AllNamesKnown}
use Rattle.expression_laws.proofs.Operators.{map_there}

pub all_there : (s : Source) → AllNamesKnown s → (ns : List Name) → AreThere s.known ns
all_there s known [] = tt
all_there s known (n ∷ ns) = ((known n).there, all_there s known ns)

-- ---- what names stand for

pub location_of : (o : Option Origin) → stands_for_location o ≡ true → (d : DeclarationTree) × (o ≡ Some (a_location d))
location_of (Some (a_location d)) is = (d, refl)
location_of o is = absurd (true≢false (sym is))

pub procedure_of : (o : Option Origin) → stands_for_procedure o ≡ true → (p : ProcedureTree) × (o ≡ Some (a_procedure p))
procedure_of (Some (a_procedure p)) is = (p, refl)
procedure_of o is = absurd (true≢false (sym is))

pub process_of : (o : Option Origin) → stands_for_process o ≡ true → (p : ProcessTree) × (o ≡ Some (a_process p))
process_of (Some (a_process p)) is = (p, refl)
process_of o is = absurd (true≢false (sym is))

-- ---- what is called

abbrev is_call : Callee → Bool
is_call (calls n) = true
is_call _ = false

abbrev called_or : Name → Callee → Name
called_or n (calls m) = m
called_or n _ = n

not_call : {A : Type 0} (k : Callee) (m : Name) → is_call k ≡ false → k ≡ calls m → A
not_call k m apart is = absurd (true≢false (sym (ap is_call is) ∙ apart))

pub called_by : (n m : Name) (o : Option Origin) → callee_by n o ≡ calls m → (n ≡ m) × (stands_for_procedure o ≡ true)
called_by n m (Some (a_procedure p)) is = (ap (called_or n) is, refl)
called_by n m (Some (a_predefined p)) is = by (is_routine p) is
  where
    by : (b : Bool) → (if b then routine p else no_callee) ≡ calls m → (n ≡ m) × (stands_for_procedure (Some (a_predefined p)) ≡ true)
    by true is = not_call (routine p) m refl is
    by false is = not_call no_callee m refl is
called_by n m o is = not_call no_callee m refl is

-- what is called is named, and stands for a procedure
pub record IsCalled (g : Ground) (e : ExprTree) (n : Name) : Type 0 where
  pub is_name : e ≡ name n
  pub procedure : stands_for_procedure (origin_of g n) ≡ true

pub callee_called : (g : Ground) (e : ExprTree) (n : Name) → callee_of g e ≡ calls n → IsCalled g e n
callee_called g (name k) n is =
    let by = called_by k n (origin_of g k) is in
    record { is_name = ap name by.0; procedure = subst (λ x. stands_for_procedure (origin_of g x) ≡ true) by.0 by.1 }
callee_called g e n is = not_call no_callee n refl is

-- ---- what is measured

pub measured_from : {A : Type 0} (m : Measured) → IsMeasurable m → A → MeasuredKnown m A
measured_from (a_mode_of m) there argument = there
measured_from misfit there argument = tt
measured_from other there argument = argument

pub name_measured : {A : Type 0} (own : Option ModeTree) (e : Option Entry) (o : Option Origin) → (stands_for_mode o ≡ true → IsSome own) → IsMeasurable (located_name e o) → (stands_for_value o ≡ true → A)
    → (stands_for_value o || stands_for_mode o) ≡ true → MeasuredKnown (measured_name own e o) A
name_measured own e (Some (a_mode novel m)) mode there class stands = mode refl
name_measured own e (Some (a_predefined (of_mode m))) mode there class stands = refl
name_measured own e (Some (a_location d)) mode there class stands = there
name_measured own e (Some (a_parameter m)) mode there class stands = there
name_measured own e o mode there class stands = class stands

-- ---- expressions

has_mode : (s : Source) → AllNamesKnown s → (n : Option Name) → IsSomeModeName s.known n → HasMode s.known n
has_mode s known None named = tt
has_mode s known (Some n) named = (known n).there.mode named

received_known : (s : Source) → AllNamesKnown s → (n : Name) → Stands s.known (receive n.at n) → IsKnown s.known (receive n.at n)
received_known s known n stands =
    let d = location_of (origin_of s.known n) stands.0 in
    receive_there s.known n d.0 d.1 (subst (λ o. IsMeasurable (located_name (entry_of s.known n) o)) d.1 (known n).there.located) stands.1

brackets_known : (s : Source) → AllNamesKnown s → (e : ExprTree) (es : ExprNodes) (k : Callee) → callee_of s.known e ≡ k → IsKnown s.known e → ((b : Bool) → EachStands s.known b es → RoutineKnown b (measured_first s.known es) (FirstKnown s.known es))
    → EachStands s.known (measures (callee_of s.known e)) es → BracketsKnown s.known k (result_class s.known e) (IsKnown s.known e) (FirstKnown s.known es) (measured_first s.known es)
brackets_known s known e es (calls n) is base first stands =
    let called = callee_called s.known e n is in
    λ returns. subst (λ x. IsSome (result_class s.known x)) (sym called.is_name) (map_there value (mode_of_entry (entry_of s.known n)) ((known n).result returns called.procedure))
brackets_known s known e es (routine p) is base first stands = first (is_measuring p) (subst (λ k. EachStands s.known (measures k) es) is stands)
brackets_known s known e es no_callee is base first stands = base

mutual
  pub known_there : (s : Source) → AllNamesKnown s → (e : ExprTree) → TuplesNamed s.known e → Stands s.known e → IsKnown s.known e
  known_there s known (whole at n) tuples stands = tt
  known_there s known (character at n) tuples stands = tt
  known_there s known (text at n) tuples stands = tt
  known_there s known (this_instance at) tuples stands = tt
  known_there s known (paren at e) tuples stands = known_there s known e tuples stands
  known_there s known (receive at n) tuples stands = received_known s known n stands
  known_there s known (start at n es) tuples stands = tt
  known_there s known (tuple at n b rs) tuples stands = has_mode s known n tuples.0
  known_there s known (uniform at n b e) tuples stands = has_mode s known n tuples.0
  known_there s known (name n) tuples stands = (known n).class stands
  known_there s known (apply at e es) tuples stands =
      let measurable = (expr_needs s.known (apply at e es) (all_there s known (names_in (apply at e es))) tuples).0.0 in
      brackets_known s known e es (callee_of s.known e) refl (known_there s known e tuples.0 stands.0) (first_known s known es tuples.1 measurable) stands.1
  known_there s known (field at e n) tuples stands = known_there s known e tuples stands
  known_there s known (prefixed at o e) tuples stands = known_there s known e tuples stands
  known_there s known (binary at l o p r) tuples stands = (known_there s known l tuples.0 stands.0, known_there s known r tuples.1 stands.1)

  first_known : (s : Source) → AllNamesKnown s → (es : ExprNodes) → EachTuplesNamed s.known es → IsMeasurable (measured_first s.known es) → (b : Bool) → EachStands s.known b es → RoutineKnown b (measured_first s.known es) (FirstKnown s.known es)
  first_known s known no_exprs tuples there true stands = tt
  first_known s known no_exprs tuples there false stands = tt
  first_known s known (more_exprs e es) tuples there false stands = known_there s known e tuples.0 stands.0
  first_known s known (more_exprs (name n) es) tuples there true stands =
      name_measured (mode_of_name s.known n) (entry_of s.known n) (origin_of s.known n) (known n).there.mode (known n).there.located (known n).class stands.0
  first_known s known (more_exprs e es) tuples there true stands = measured_from (measured s.known e) there (known_there s known e tuples.0 stands.0)
