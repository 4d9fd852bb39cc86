-- Tuples by the forms of their modes: their parts are taken by the modes of parts.
use Rattle.std.proofs.Common.{◌≡◌, ℕ, zero, suc, ◌+◌, ◌<◌, ◌≤◌, ◌==◌, ◌&&◌, Bool, true, false, Option, Some, None, inl, inr, refl, sym, ap, ◌∙◌, subst, arith, eqb-true, true≢false}
use Rattle.std.specs.Prelude.{if◌then◌else◌, option_map}
use Rattle.chill_tree.specs.ExprTree.{RangeNodes}
use Rattle.modes.specs.declared.mode.Bounds.{Bounds}
use Rattle.modes.specs.ModeTree.{ModeTree, ClassTree, value, FieldNodes, no_fields, more_fields}
use Rattle.modes.specs.Form.{FormTree, form_of, of_powerset, of_array, of_structure}
use Rattle.modes.specs.Bounds.{bounds_of, values_of}
use Rattle.program_trees.specs.ExprTree as made
use Rattle.checks_model.specs.Alike.{is_powerset}
use Rattle.checks_model.specs.Operations.{when}
use Rattle.checks_model.specs.Classes.{shape_fits, uniform_fits, value_if, count_ranges, count_fields, are_alone, field_mode_at, part_mode, mode_of_part}
use Rattle.elaborated_laws.proofs.Told.{both_left, both_right, no_some, same_some, there_mapped}
use Rattle.elaboration_model.specs.Parts.{made_of}
use Rattle.elaboration_model.specs.Expressions.{tuple_operation, uniform_operation}
use Rattle.source_meaning.specs.TypedValues.{Context, OperationHas, IsArray, IsStructure, IsFirstField, IsTakenBy, ElementsHave, FieldsHave, RangesHave}
use Rattle.typed_laws.specs.Typed.{mode_for}
use Rattle.typed_laws.proofs.Made.{made_parts, FoldedBy}

-- so many parts, from one on, each taken by the mode of that part
abbrev pub PartsTaken : Context → (FormTree → Bool) → ModeTree → ℕ → ℕ → made.ReceivedNodes → Type 0
PartsTaken ctx fits own k n made.no_received = n ≡ 0
PartsTaken ctx fits own k n (made.more_received r rs) = (j : ℕ) × ((n ≡ suc j) × (((m : ModeTree) → mode_of_part fits k (Some own) ≡ Some m → IsTakenBy ctx r m) × PartsTaken ctx fits own (suc k) j rs))

part_is : (fits : FormTree → Bool) (k : ℕ) (own m : ModeTree) (f : FormTree) → form_of own ≡ f → fits (form_of own) ≡ true → part_mode k f ≡ Some m → mode_of_part fits k (Some own) ≡ Some m
part_is fits k own m f form holds is = ap (λ b. if b then part_mode k (form_of own) else None) holds ∙ (ap (part_mode k) form ∙ is)

-- ---- arrays

elements_have : (ctx : Context) (fits : FormTree → Bool) (own i e : ModeTree) (f : FormTree) (k n : ℕ) (rs : made.ReceivedNodes) → form_of own ≡ f → fits (form_of own) ≡ true → ((j : ℕ) → part_mode j f ≡ Some e) → PartsTaken ctx fits own k n rs → ElementsHave ctx rs n e
elements_have ctx fits own i e f k n made.no_received form holds each taken = taken
elements_have ctx fits own i e f k n (made.more_received r rs) form holds each taken =
    (taken.0, taken.1.0, taken.1.1.0 e (part_is fits k own e f form holds (each k)), elements_have ctx fits own i e f (suc k) taken.0 rs form holds each taken.1.1.1)

-- ---- structures

-- the fields from one on
abbrev rest_fields : ℕ → FieldNodes → FieldNodes
rest_fields zero fs = fs
rest_fields (suc k) no_fields = no_fields
rest_fields (suc k) (more_fields name m at fs) = rest_fields k fs

no_rest : (k : ℕ) (fs : FieldNodes) → count_fields fs ≤ k → rest_fields k fs ≡ no_fields
no_rest zero no_fields few = refl
no_rest zero (more_fields name m at fs) few = absurd (omega (arith, few))
no_rest (suc k) no_fields few = refl
no_rest (suc k) (more_fields name m at fs) few = no_rest k fs (omega (arith, few))

record FirstRest (k : ℕ) (fs : FieldNodes) : Type 0 where
  mode : ModeTree
  is : field_mode_at k fs ≡ Some mode
  first : IsFirstField (rest_fields k fs) mode (rest_fields (suc k) fs)

first_rest : (k : ℕ) (fs : FieldNodes) → k < count_fields fs → FirstRest k fs
first_rest k no_fields few = absurd (omega (arith, few))
first_rest zero (more_fields name m at fs) few = record { mode = m; is = refl; first = (refl, refl) }
first_rest (suc k) (more_fields name m at fs) few = let inner = first_rest k fs (omega (arith, few)) in record { mode = inner.mode; is = inner.is; first = inner.first }

fields_have : (ctx : Context) (fits : FormTree → Bool) (own : ModeTree) (fs : FieldNodes) (p : Bool) (k n : ℕ) (rs : made.ReceivedNodes) → form_of own ≡ of_structure fs p → fits (form_of own) ≡ true → k + n ≡ count_fields fs → PartsTaken ctx fits own k n rs → FieldsHave ctx rs (rest_fields k fs)
fields_have ctx fits own fs p k n made.no_received form holds count taken = no_rest k fs (omega (arith, count, taken))
fields_have ctx fits own fs p k n (made.more_received r rs) form holds count taken =
    let more = taken.1.0 in
    let first = first_rest k fs (omega (arith, count, more)) in
    (first.mode, rest_fields (suc k) fs, first.first, taken.1.1.0 first.mode (part_is fits k own first.mode (of_structure fs p) form holds first.is), fields_have ctx fits own fs p (suc k) taken.0 rs form holds (omega (arith, count, more)) taken.1.1.1)

-- ---- tuples

pub tuple_typed : (ctx : Context) (own : ModeTree) (rs : RangeNodes) (ranges : Option made.RangeNodes) (parts : Option made.ReceivedNodes) (o : made.OperationTree) → shape_fits rs (form_of own) ≡ true
    → (is_powerset (form_of own) ≡ true → (e : ModeTree) → mode_of_part (λ f. true) 0 (Some own) ≡ Some e → (xs : made.RangeNodes) → ranges ≡ Some xs → RangesHave ctx xs e)
    → (are_alone rs ≡ true → (xs : made.ReceivedNodes) → parts ≡ Some xs → PartsTaken ctx (shape_fits rs) own 0 (count_ranges rs) xs) → tuple_operation (form_of own) ranges parts ≡ Some o → OperationHas ctx o own
tuple_typed ctx own rs ranges parts o fits members each built = by (form_of own) refl fits built
  where
    by : (f : FormTree) → form_of own ≡ f → shape_fits rs f ≡ true → tuple_operation f ranges parts ≡ Some o → OperationHas ctx o own
    by (of_powerset e) form holds built =
        let made_by = made_parts made.powerset (bounds_of e) ranges o built in
        let has = members (ap is_powerset form) e (part_is (λ f. true) 0 own e (of_powerset e) form refl refl) made_by.second made_by.of_second in
        subst (λ q. OperationHas ctx q own) made_by.whole (e, form, made_by.of_first, has)
    by (of_array i e how) form holds built =
        let xs = there_mapped made.parts parts o built in
        let taken = each (both_left (are_alone rs) (count_ranges rs == values_of i) holds) xs.0 xs.1 in
        let count = eqb-true (count_ranges rs) (values_of i) (both_right (are_alone rs) (count_ranges rs == values_of i) holds) in
        let has = elements_have ctx (shape_fits rs) own i e (of_array i e how) 0 (count_ranges rs) xs.0 form fits (λ j. refl) taken in
        subst (λ q. OperationHas ctx q own) xs.2 (inl (i, e, subst (λ f. IsArray f i e) (sym form) (refl, refl), subst (λ n. ElementsHave ctx xs.0 n e) count has))
    by (of_structure fs p) form holds built =
        let xs = there_mapped made.parts parts o built in
        let taken = each (both_left (are_alone rs) (count_ranges rs == count_fields fs) holds) xs.0 xs.1 in
        let count = eqb-true (count_ranges rs) (count_fields fs) (both_right (are_alone rs) (count_ranges rs == count_fields fs) holds) in
        subst (λ q. OperationHas ctx q own) xs.2 (inr (fs, subst (λ f. IsStructure f fs) (sym form) refl, fields_have ctx (shape_fits rs) own fs p 0 (count_ranges rs) xs.0 form fits (omega (arith, count)) taken))
    by f form holds built = no_some o built

pub uniform_typed : (ctx : Context) (own : ModeTree) (r : made.ReceivedTree) (o : made.OperationTree) → uniform_fits (form_of own) ≡ true → ((e : ModeTree) → mode_of_part uniform_fits 0 (Some own) ≡ Some e → IsTakenBy ctx r e) → uniform_operation (form_of own) r ≡ Some o → OperationHas ctx o own
uniform_typed ctx own r o fits taken built = by (form_of own) refl built
  where
    by : (f : FormTree) → form_of own ≡ f → uniform_operation f r ≡ Some o → OperationHas ctx o own
    by (of_array i e how) form built =
        subst (λ q. OperationHas ctx q own) (same_some (made.uniform (values_of i) r) o built) (i, e, subst (λ f. IsArray f i e) (sym form) (refl, refl), refl, taken e (part_is uniform_fits 0 own e (of_array i e how) form fits refl))
    by f form built = no_some o built

-- the class of a tuple is the value of its mode
pub tuple_class : (fits : FormTree → Bool) (own : ModeTree) (c : ClassTree) → fits (form_of own) ≡ true → value_if fits own ≡ Some c → value own ≡ c
tuple_class fits own c holds is = same_some (value own) c (sym (ap (λ (b : Bool). when b (value own)) holds) ∙ is)

-- what is of a mode is of the class's
pub of_class : (ctx : Context) (own : ModeTree) (c : ClassTree) (o : made.OperationTree) → value own ≡ c → OperationHas ctx o own → FoldedBy ctx c o
of_class ctx own c o class has m of fits = subst (λ q. OperationHas ctx o q) (same_some own m (ap mode_for class ∙ of)) has
