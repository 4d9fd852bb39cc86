-- What is made of parts that are there; constants; tuples by the forms of their modes; values that go to a place.
use Rattle.std.proofs.Common.{◌≡◌, ℕ, suc, ◌==◌, Bool, true, false, ◌&&◌, List, [], ◌∷◌, ◌++◌, Option, Some, None, refl, sym, ap, ◌∙◌, subst, true≢false}
use Rattle.std.specs.Prelude.{IsSome, is_some, not, if◌then◌else◌, option_map, option_and_then}
use Rattle.chill_tree.specs.declared.tree.name.Name.{Name}
use Rattle.chill_tree.specs.ExprTree.{ExprTree, ExprNodes, RangeTree, RangeNodes, whole, character, text, this_instance, paren, receive, start, tuple, uniform, name, apply, field, prefixed, binary, no_exprs, more_exprs, alone, between, no_ranges, more_ranges, place_of}
use Rattle.modes.specs.ModeTree.{ModeTree, ClassTree, value}
use Rattle.modes.specs.Form.{FormTree, form_of, of_powerset, of_array, of_structure}
use Rattle.modes.specs.Bounds.{bounds_of, values_of}
use Rattle.diagnostics.specs.declared.diagnostic.Diagnostic.{Diagnostic}
use Rattle.diagnostics.specs.declared.rule.Rule.TheVariants as rules
use Rattle.program_trees.specs.ExprTree as made
use Rattle.checks_model.specs.Alike.{is_powerset, goes_with}
use Rattle.checks_model.specs.ValueTrees.{ValueTree, scalars_in}
use Rattle.checks_model.specs.Ground.{Ground, Origin, Entry, Predefined, truth, no_instance, a_synonym, an_element, a_predefined, origin_of, entry_of}
use Rattle.checks_model.specs.Operations.{when}
use Rattle.checks_model.specs.Classes.{class_as, tuple_mode, value_if, shape_fits, uniform_fits, are_alone, count_ranges, count_fields, part_mode, mode_of_part}
use Rattle.checks_model.specs.Constants.{has_form, have_form, constant_as, value_of_name}
use Rattle.checks_model.specs.ConstantRules.{by_itself, told_as, told_of_constants, told_in_ranges, told_in_range}
use Rattle.checks_model.specs.Told.{tell_at, told_if, then_told, holds_of, holds_of_both}
use Rattle.checks_model.specs.ValueRules.{Receiver, of_mode, received_mode, does_not_go, is_too_large, told_received, own_told, value_told, told_in, bare}
use Rattle.checks_model.specs.WrittenModes.{unless_told}
use Rattle.class_laws.specs.Known.{is_unknown_place}
use Rattle.class_laws.proofs.Clean.{clean_there}
use Rattle.table_laws.specs.Names.{names_in}
use Rattle.elaborated_laws.specs.Known.{IsDeclarable, IsKnownName}
use Rattle.elaborated_laws.specs.Classes.{HasDeclarable, HasModes, HaveModes}
use Rattle.elaborated_laws.proofs.Told.{none_first, none_later, none_inside, none_then, not_broken, not_true, both_left, no_some, same_some, there_chained}
use Rattle.elaborated_laws.proofs.Classes.{class_mode, form_is}
use Rattle.there_laws.specs.Constants.{IsReceived}
use Rattle.there_laws.proofs.Constants.{AllKnown, constant_there}
use Rattle.there_laws.proofs.Forms.{HasBounds, has_bounds, part_fits}
use Rattle.there_laws.proofs.Modes.{value_in}
use Rattle.there_laws.proofs.Needs.{expr_needs}
use Rattle.elaboration_model.specs.Parts.{made_of, made_of_three, made_if}
use Rattle.elaboration_model.specs.Numbering.{Source}
use Rattle.elaboration_model.specs.Expressions.{expr_as, constant_expr, count_in, folded, received_as, tuple_operation, uniform_operation}
use Rattle.expression_laws.specs.Names.{stands_for_value, is_of_values, IsPlace, IsWellNamed, AllNamesKnown}
use Rattle.expression_laws.specs.Expressions.{IsClean}
use Rattle.expression_laws.proofs.Values.{goes_valued}
use Rattle.expression_laws.proofs.Operators.{map_there}
use Rattle.expression_laws.proofs.Known.{all_there, known_there}

-- ---- what is made of parts

pub made_there : {A B C : Type 0} (f : A → B → C) (a : Option A) (b : Option B) → IsSome a → IsSome b → IsSome (made_of f a b)
made_there f (Some a) (Some b) first second = refl
made_there f None b first second = absurd (true≢false (sym first))
made_there f (Some a) None first second = absurd (true≢false (sym second))

pub three_there : {A B C D : Type 0} (f : A → B → C → D) (a : Option A) (b : Option B) (c : Option C) → IsSome a → IsSome b → IsSome c → IsSome (made_of_three f a b c)
three_there f (Some a) (Some b) (Some c) first second third = refl
three_there f None b c first second third = absurd (true≢false (sym first))
three_there f (Some a) None c first second third = absurd (true≢false (sym second))
three_there f (Some a) (Some b) None first second third = absurd (true≢false (sym third))

pub if_made : {A B C : Type 0} (f : A → B → Option C) (a : Option A) (b : Option B) (x : A) (y : B) → a ≡ Some x → b ≡ Some y → IsSome (f x y) → IsSome (made_if f a b)
if_made f a b x y first second there = subst (λ k. IsSome (made_if f k b)) (sym first) (subst (λ k. IsSome (made_if f (Some x) k)) (sym second) there)

pub is_there : {A : Type 0} (x : Option A) (y : A) → x ≡ Some y → IsSome x
is_there x y is = ap is_some is

pub place_there : (m : Option ModeTree) (e : Option made.ExprTree) → IsSome m → IsSome e → IsSome (received_as m e)
place_there m e first second = made_there (λ m e. made.received e (bounds_of m)) m e first second

-- ---- expressions of constant form

constant_made : (c : Option ClassTree) (v : Option ValueTree) → IsSome c → IsSome v → IsSome (constant_expr c v)
constant_made c v first second = made_there (λ c v. made.expr (count_in c) (made.root_bounds c) (made.constant (scalars_in v))) c v first second

-- what is there where nothing is told is there
pub untold_there : {A : Type 0} (told : List Diagnostic) (x : Option A) → told ≡ [] → IsSome x → IsSome (unless_told told x)
untold_there told x none there = subst (λ l. IsSome (unless_told l x)) (sym none) there

pub folded_there : (s : Source) (m : Option ModeTree) (e : ExprTree) (o : Option made.OperationTree) → told_of_constants s.known e ≡ [] → IsSome (class_as s.known m e) → (has_form s.known false e ≡ true → IsSome (constant_as s.known m e))
    → (has_form s.known false e ≡ false → IsSome o) → IsSome (folded s m e o)
folded_there s m e o none class constant operation = by (has_form s.known false e) constant operation
  where
    by : (b : Bool) → (b ≡ true → IsSome (constant_as s.known m e)) → (b ≡ false → IsSome o)
        → IsSome (if b then unless_told (told_of_constants s.known e) (constant_expr (class_as s.known m e) (constant_as s.known m e)) else made_of (λ c o. made.expr (count_in c) (made.root_bounds c) o) (class_as s.known m e) o)
    by true constant operation = untold_there (told_of_constants s.known e) (constant_expr (class_as s.known m e) (constant_as s.known m e)) none (constant_made (class_as s.known m e) (constant_as s.known m e) class (constant refl))
    by false constant operation = made_there (λ c o. made.expr (count_in c) (made.root_bounds c) o) (class_as s.known m e) o class (operation refl)

-- what is told of constants in an expression that stands by itself is told whatever receives it
mutual
  pub told_any : (g : Ground) (m k : Option ModeTree) (e : ExprTree) → told_as g by_itself m e ≡ told_as g by_itself k e
  told_any g m k (paren at e) = told_any g m k e
  told_any g m k (tuple at None b rs) = ap (λ l. then_told l []) (ranges_any g (shape_fits rs) 0 0 m k rs)
  told_any g m k (uniform at None b e) = ap (λ l. then_told l []) (told_any g (mode_of_part uniform_fits 0 m) (mode_of_part uniform_fits 0 k) e)
  told_any g m k e = refl

  ranges_any : (g : Ground) (fits : FormTree → Bool) (i j : ℕ) (m k : Option ModeTree) (rs : RangeNodes) → told_in_ranges g by_itself fits i m rs ≡ told_in_ranges g by_itself fits j k rs
  ranges_any g fits i j m k no_ranges = refl
  ranges_any g fits i j m k (more_ranges r rs) =
      ap (λ l. l ++ told_in_ranges g by_itself fits (suc i) m rs) (range_any g (mode_of_part fits i m) (mode_of_part fits j k) r)
      ∙ ap (λ l. told_in_range g by_itself (mode_of_part fits j k) r ++ l) (ranges_any g fits (suc i) (suc j) m k rs)

  range_any : (g : Ground) (m k : Option ModeTree) (r : RangeTree) → told_in_range g by_itself m r ≡ told_in_range g by_itself k r
  range_any g m k (alone e) = told_any g m k e
  range_any g m k (between l h) = ap (λ t. t ++ told_as g by_itself m h) (told_any g m k l) ∙ ap (λ t. told_as g by_itself k l ++ t) (told_any g m k h)

value_stands : (e : Option Entry) (o : Option Origin) → IsSome (value_of_name e o) → stands_for_value o ≡ true
value_stands e (Some (a_synonym s)) there = refl
value_stands e (Some (an_element names part owner)) there = refl
value_stands e (Some (a_predefined (truth b))) there = refl
value_stands e (Some (a_predefined no_instance)) there = refl
value_stands e o there = absurd (true≢false (sym there))

pub all_known : (s : Source) → AllNamesKnown s → AllKnown s.known
all_known s known n = record { class = λ there. (known n).class (value_stands (entry_of s.known n) (origin_of s.known n) there); mode = (known n).modes.own }

constant_part : (s : Source) (r : Receiver) (e : ExprTree) → AllNamesKnown s → IsClean s.known r e → has_form s.known false e ≡ true → IsSome (constant_as s.known (received_mode r) e)
constant_part s r e known clean form =
    let received : IsReceived by_itself (received_mode r) = record { there = λ apart. absurd (true≢false apart); fits = clean.receives } in
    constant_there s.known by_itself (received_mode r) e (all_known s known) (expr_needs s.known e (all_there s known (names_in e)) clean.named.tuples).0 received (λ is. absurd (true≢false (sym is)))
    (told_any s.known (received_mode r) None e ∙ clean.constants) form

-- an expression is a constant or an operation
pub shown : (s : Source) (r : Receiver) (e : ExprTree) (c : ClassTree) (o : Option made.OperationTree) → AllNamesKnown s → IsClean s.known r e → class_as s.known (received_mode r) e ≡ Some c → (has_form s.known false e ≡ false → IsSome o) → IsSome (folded s (received_mode r) e o)
shown s r e c o known clean class operation = folded_there s (received_mode r) e o clean.constants (is_there (class_as s.known (received_mode r) e) c class) (constant_part s r e known clean) operation

-- ---- modes of classes

all_modes : (s : Source) → AllNamesKnown s → (ns : List Name) → HaveModes s.known ns
all_modes s known [] = tt
all_modes s known (n ∷ ns) = ((known n).modes, all_modes s known ns)

pub class_declarable : (s : Source) (m : Option ModeTree) (e : ExprTree) (c : ClassTree) → AllNamesKnown s → IsWellNamed s.known e → ((k : ModeTree) → m ≡ Some k → IsDeclarable k) → class_as s.known m e ≡ Some c → HasDeclarable c
class_declarable s m e c known named fits is = class_mode s.known m e c (all_modes s known (names_in e)) named.short fits is

-- ---- values that go to a place

known_place : (m : Option ModeTree) → IsSome m → is_unknown_place (of_mode m) ≡ false
known_place (Some m) there = refl
known_place None there = absurd (true≢false (sym there))

goes_there : (c : Option ClassTree) (k : ClassTree) (m : ModeTree) → c ≡ Some k → holds_of_both does_not_go c (Some m) ≡ false → goes_with k m ≡ true
goes_there c k m is fits = not_true (goes_with k m) (ap (λ x. holds_of_both does_not_go x (Some m)) (sym is) ∙ fits)

-- a value that goes to a place: its class goes with the mode
pub record ValueGoes (s : Source) (m : ModeTree) (e : ExprTree) : Type 0 where
  pub class : ClassTree
  pub is : class_as s.known (Some m) e ≡ Some class
  pub goes : goes_with class m ≡ true
  pub told : told_in s.known (of_mode (Some m)) e ≡ []

pub value_goes : (s : Source) (m : ModeTree) (e : ExprTree) → AllNamesKnown s → IsWellNamed s.known e → value_told s.known (of_mode (Some m)) e (told_in s.known (of_mode (Some m)) e) ≡ [] → ValueGoes s m e
value_goes s m e known named none =
    let g = s.known in
    let inside = told_in g (of_mode (Some m)) e in
    let large = told_if (holds_of is_too_large (class_as g (Some m) e)) (tell_at rules.L6 (place_of (bare e))) in
    let received = told_received g (of_mode (Some m)) e in
    let clean = none_inside inside large (none_inside (own_told g (of_mode (Some m)) e inside) received none) in
    let misfits = holds_of_both does_not_go (class_as g (Some m) e) (Some m) in
    let fits = not_broken misfits (tell_at rules.S2 (place_of e)) (none_then (own_told g (of_mode (Some m)) e inside) received none) in
    let c = value_in (class_as g (Some m) e) (clean_there g (of_mode (Some m)) e (known_there s known e named.tuples named.stands) refl clean) in
    record { class = c.0; is = c.1; goes = goes_there (class_as g (Some m) e) c.0 m c.1 fits; told = clean }

-- a value that goes to a place is there, where it is as an expression
pub value_by : {A : Type 0} (s : Source) (m : Option ModeTree) (e : ExprTree) → AllNamesKnown s → IsPlace m → IsWellNamed s.known e → value_told s.known (of_mode m) e (told_in s.known (of_mode m) e) ≡ []
    → ((c : ClassTree) → class_as s.known m e ≡ Some c → is_of_values c ≡ true → told_in s.known (of_mode m) e ≡ [] → A) → A
value_by s None e known place named none made = absurd (true≢false (sym place.there))
value_by s (Some m) e known place named none made = let v = value_goes s m e known named none in made v.class v.is (goes_valued v.class m v.goes) v.told

-- ---- tuples

-- the mode of a tuple, whose form it has
pub record TupleOf (m : Option ModeTree) (fits : FormTree → Bool) : Type 0 where
  pub own : ModeTree
  pub is : m ≡ Some own
  pub form : fits (form_of own) ≡ true
  pub declarable : IsDeclarable own

form_holds : (b : Bool) (x : ModeTree) (c : ClassTree) → when b (value x) ≡ Some c → HasDeclarable c → (b ≡ true) × IsDeclarable x
form_holds true x c is fits = (refl, subst HasDeclarable (sym (same_some (value x) c is)) fits)
form_holds false x c is fits = no_some c is

pub tuple_of : (m : Option ModeTree) (fits : FormTree → Bool) (c : ClassTree) → HasDeclarable c → option_and_then (value_if fits) m ≡ Some c → TupleOf m fits
tuple_of m fits c declarable is =
    let there = there_chained (value_if fits) m c is in
    let holds = form_holds (fits (form_of there.0)) there.0 c there.2 declarable in
    record { own = there.0; is = there.1; form = holds.0; declarable = holds.1 }

pub tuple_made : (f : FormTree) (rs : RangeNodes) (ranges : Option made.RangeNodes) (parts : Option made.ReceivedNodes) → HasBounds f → shape_fits rs f ≡ true → (is_powerset f ≡ true → IsSome ranges) → (are_alone rs ≡ true → IsSome parts) → IsSome (tuple_operation f ranges parts)
tuple_made (of_powerset m) rs ranges parts bounds fits members each = made_there made.powerset (bounds_of m) ranges bounds (members refl)
tuple_made (of_array i e how) rs ranges parts bounds fits members each = map_there made.parts parts (each (both_left (are_alone rs) (count_ranges rs == values_of i) fits))
tuple_made (of_structure fs p) rs ranges parts bounds fits members each = map_there made.parts parts (each (both_left (are_alone rs) (count_ranges rs == count_fields fs) fits))
tuple_made f rs ranges parts bounds fits members each = absurd (true≢false (sym fits))

pub uniform_made : (f : FormTree) (r : made.ReceivedTree) → uniform_fits f ≡ true → IsSome (uniform_operation f r)
uniform_made (of_array i e how) r fits = refl
uniform_made f r fits = absurd (true≢false (sym fits))

-- the part of a tuple that has the form of its mode
pub part_of : (fits : FormTree → Bool) (k : ℕ) (own : ModeTree) → fits (form_of own) ≡ true → IsDeclarable own → IsSome (part_mode k (form_of own)) → IsPlace (mode_of_part fits k (Some own))
part_of fits k own holds declarable there = record {
  there = subst (λ b. IsSome (if b then part_mode k (form_of own) else None)) (sym holds) there;
  fits = λ m is. part_fits (form_of own) k m (form_is own declarable) (subst (λ b. (if b then part_mode k (form_of own) else None) ≡ Some m) holds is);
}

-- an array has one part for all
pub element_part : (f : FormTree) → uniform_fits f ≡ true → IsSome (part_mode 0 f)
element_part (of_array i e how) fits = refl
element_part f fits = absurd (true≢false (sym fits))
