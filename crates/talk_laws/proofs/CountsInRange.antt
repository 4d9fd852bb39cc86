-- The numbers of scalars in expressions fit each other, where these are typed and their numbers are in range.
use Rattle.std.proofs.Common.{◌≡◌, ℕ, suc, ◌+◌, ◌≤◌, Bool, true, false, List, ◌∷◌, length, Option, Some, None, inl, inr, sym, ap, ◌∙◌, subst, arith}
use Rattle.std.specs.Prelude.{take, slice_get}
use Rattle.modes.specs.declared.mode.Bounds.{Bounds}
use Rattle.modes.specs.ModeTree.{ModeTree, FieldNodes}
use Rattle.modes.specs.Bounds.{values_of}
use Rattle.checked_program.specs.declared.expr.Binary.{Binary}
use Rattle.checked_program.specs.declared.expr.Binary.TheVariants.{Member}
use Rattle.checked_program.specs.declared.program.Parameter.{Parameter}
use Rattle.checked_program.specs.declared.program.Passing.TheVariants.{In, Out, InOut}
use Rattle.program_trees.specs.ExprTree.{ExprTree, expr, OperationTree, constant, own_instance, contents, part_of, receive, start, call, powerset, parts, uniform, routine, get_int, prefixed, binary, ReceivedTree, received, ReceivedNodes, no_received, more_received, PartNodes, no_parts, field, element, RangeNodes, no_ranges, one_member, members, LocationTree, location, StartTree, started, CallTree, called, ArgumentNodes, no_arguments, in_argument, out_argument, inout_argument, count_of, location_count}
use Rattle.program_trees.specs.ProgramTree.{LocalRowTree, BodyRowTree, CheckedTree}
use Rattle.source_meaning.specs.TypedValues.{Context, HasMode, OperationHas, IsTakenBy, ElementsHave, FieldsHave, AllHave, PartsLead, RangesHave, LocationHas, IsTypedStart, AllTaken, IsTypedCall, ArgumentsFit as AreTypedArguments}
use Rattle.code_scheme.specs.Pieces.{Layout, has_index, first_of_parts, lowest_in_row}
use Rattle.code_scheme.specs.StatementSite.{scalars_in, back_scalars}
use Rattle.code_laws.specs.InRange.{BoundsFit, OperandsFit, FitsExpr, FitsOperation, FitsReceived, FitsAll, FitsParts, FitsRanges, FitsLocation, FitsStart, FitsCall, FitsArguments}
use Rattle.code_laws.specs.StatementsInRange.{FitsProgram}
use Rattle.code_laws.proofs.Sizes.{AreFrom, first_from, others_from}
use Rattle.scheme_heights.specs.Counts.{TakesCounts, TestsOne, LiesIn, argument_scalars, copied_scalars, CountsFit, OperationFits, ReceivedFits, AllFit, PartsFit, PlaceFits, RangesFit, StartFits, CallFits, ArgumentsFit}
use Rattle.scheme_heights.proofs.Located.{item_below}

-- where an expression stands, in a program in range, by its scalars and by its modes
pub record StandsTyped (lay : Layout) (c : Context) : Type 0 where
  pub in_range : FitsProgram lay.program
  pub same : c.program ≡ lay.program

-- ---- operators, tests and parts

pub takes_counts : (o : Binary) (m n : ℕ) → OperandsFit o m n → TakesCounts o m n
takes_counts (Member b) m n fits = (fits.1, fits.2)
takes_counts o m n fits = fits

tests_one : (b : Option Bounds) (n : ℕ) → BoundsFit b n → TestsOne b n
tests_one None n fits = tt
tests_one (Some b) n fits = fits

lies_further : (index : Bool) (first next count n of : ℕ) → first + count ≤ of → LiesIn index next n count → LiesIn index (first + next) n of
lies_further true first next count n of low lies = tt
lies_further false first next count n of low lies = omega (arith, low, lies)

parts_lie : (lay : Layout) (ps : PartNodes) (of n : ℕ) → FitsParts lay of ps n → LiesIn (has_index ps) (first_of_parts ps) n of
parts_lie lay no_parts of n fits = omega (arith, fits)
parts_lie lay (field first count ps) of n fits =
    let low = fits.0 in
    lies_further (has_index ps) first (first_of_parts ps) count n of low (parts_lie lay ps count n fits.1)
parts_lie lay (element e b count ps) of n fits = tt

-- ---- values that are taken

-- each value is taken by some mode
abbrev pub AreTaken : Context → ReceivedNodes → Type 0
AreTaken c no_received = Unit {0}
AreTaken c (more_received r rs) = ((m : ModeTree) × IsTakenBy c r m) × AreTaken c rs

element_values_taken : (c : Context) (rs : ReceivedNodes) (n : ℕ) (m : ModeTree) → ElementsHave c rs n m → AreTaken c rs
element_values_taken c no_received n m typed = tt
element_values_taken c (more_received r rs) n m typed = ((m, typed.2), element_values_taken c rs typed.0 m typed.3)

field_values_taken : (c : Context) (rs : ReceivedNodes) (fs : FieldNodes) → FieldsHave c rs fs → AreTaken c rs
field_values_taken c no_received fs typed = tt
field_values_taken c (more_received r rs) fs typed = ((typed.0, typed.3), field_values_taken c rs typed.1 typed.4)

pub values_taken : (c : Context) (rs : ReceivedNodes) (ms : List ModeTree) → AllHave c rs ms → AreTaken c rs
values_taken c no_received ms typed = tt
values_taken c (more_received r rs) ms typed = ((typed.0, typed.3), values_taken c rs typed.1 typed.4)

arguments_taken : (c : Context) (rs : ReceivedNodes) (b : BodyRowTree) (k : ℕ) → AllTaken c rs b k → AreTaken c rs
arguments_taken c no_received b k typed = tt
arguments_taken c (more_received r rs) b k typed = ((typed.0, typed.2), arguments_taken c rs b (suc k) typed.3)

parts_taken : (c : Context) (rs : ReceivedNodes) (m : ModeTree) → OperationHas c (parts rs) m → AreTaken c rs
parts_taken c rs m (inl typed) = element_values_taken c rs (values_of typed.0) typed.1 typed.3
parts_taken c rs m (inr typed) = field_values_taken c rs typed.0 typed.2

-- ---- arguments

arguments_counted : (lay : Layout) (as' : ArgumentNodes) (ps : List Parameter) (rows : List LocalRowTree) → FitsArguments lay as' ps rows → scalars_in (take (length ps) rows) ≡ argument_scalars as'
arguments_counted lay no_arguments ps rows fits = ap (λ (qs : List Parameter). scalars_in (take (length qs) rows)) fits
arguments_counted lay (in_argument r as') ps rows fits =
    let a = ap (λ (qs : List Parameter). scalars_in (take (length qs) rows)) fits.3 in
    let b = ap (λ (ls : List LocalRowTree). scalars_in (take (suc (length fits.1)) ls)) fits.4 in
    let n = fits.6 in
    let rest = arguments_counted lay as' fits.1 fits.2 fits.7 in
    omega (arith, a, b, n, rest)
arguments_counted lay (out_argument l bounds as') ps rows fits =
    let a = ap (λ (qs : List Parameter). scalars_in (take (length qs) rows)) fits.3 in
    let b = ap (λ (ls : List LocalRowTree). scalars_in (take (suc (length fits.1)) ls)) fits.4 in
    let n = fits.6.0 in
    let rest = arguments_counted lay as' fits.1 fits.2 fits.7 in
    omega (arith, a, b, n, rest)
arguments_counted lay (inout_argument l taken bounds as') ps rows fits =
    let a = ap (λ (qs : List Parameter). scalars_in (take (length qs) rows)) fits.3 in
    let b = ap (λ (ls : List LocalRowTree). scalars_in (take (suc (length fits.1)) ls)) fits.4 in
    let n = fits.6 in
    let rest = arguments_counted lay as' fits.1 fits.2 fits.7 in
    omega (arith, a, b, n, rest)

copies_counted : (lay : Layout) (as' : ArgumentNodes) (ps : List Parameter) (rows : List LocalRowTree) → FitsArguments lay as' ps rows → back_scalars ps rows ≡ copied_scalars as'
copies_counted lay no_arguments ps rows fits = ap (λ (qs : List Parameter). back_scalars qs rows) fits
copies_counted lay (in_argument r as') ps rows fits =
    let a = ap (λ (qs : List Parameter). back_scalars qs rows) fits.3 in
    let b = ap (λ (ls : List LocalRowTree). back_scalars (record { passing = In } ∷ fits.1) ls) fits.4 in
    let rest = copies_counted lay as' fits.1 fits.2 fits.7 in
    omega (arith, a, b, rest)
copies_counted lay (out_argument l bounds as') ps rows fits =
    let a = ap (λ (qs : List Parameter). back_scalars qs rows) fits.3 in
    let b = ap (λ (ls : List LocalRowTree). back_scalars (record { passing = Out } ∷ fits.1) ls) fits.4 in
    let n = fits.6.0 in
    let rest = copies_counted lay as' fits.1 fits.2 fits.7 in
    omega (arith, a, b, n, rest)
copies_counted lay (inout_argument l taken bounds as') ps rows fits =
    let a = ap (λ (qs : List Parameter). back_scalars qs rows) fits.3 in
    let b = ap (λ (ls : List LocalRowTree). back_scalars (record { passing = InOut } ∷ fits.1) ls) fits.4 in
    let n = fits.6 in
    let rest = copies_counted lay as' fits.1 fits.2 fits.7 in
    omega (arith, a, b, n, rest)

-- ---- expressions

mutual
  pub expr_counts : (lay : Layout) (c : Context) (e : ExprTree) (m : ModeTree) → StandsTyped lay c → HasMode c e m → FitsExpr lay e → CountsFit lay.program e
  expr_counts lay c (expr n own o) m st typed fits = operation_counts lay c n o m st typed.3 fits

  operation_counts : (lay : Layout) (c : Context) (n : ℕ) (o : OperationTree) (m : ModeTree) → StandsTyped lay c → OperationHas c o m → FitsOperation lay n o → OperationFits lay.program n o
  operation_counts lay c n (constant xs) m st typed fits = (fits.0, let low = fits.1 in omega (arith, low))
  operation_counts lay c n own_instance m st typed fits = fits
  operation_counts lay c n (contents l) m st typed fits = (place_counts lay c l m st typed fits.0, fits.1)
  operation_counts lay c n (part_of e ps) m st typed fits = (
    expr_counts lay c e typed.0 st typed.1 fits.0,
    parts_counts lay c ps typed.0 m (count_of e) n st typed.2 fits.1,
    parts_lie lay ps (count_of e) n fits.1,
  )
  operation_counts lay c n (receive b) m st typed fits = tt
  operation_counts lay c n (start t) m st typed fits = (start_counts lay c t st typed.1 fits.0, fits.1)
  operation_counts lay c n (call t) m st typed fits = call_counts lay c n t (Some m) st typed fits
  operation_counts lay c n (powerset b rs) m st typed fits = (ranges_counts lay c b rs typed.0 st typed.3 fits.0, fits.2)
  operation_counts lay c n (parts rs) m st typed fits = (all_counts lay c rs st (parts_taken c rs m typed) fits.0, fits.1)
  operation_counts lay c n (uniform k r) m st typed fits = (received_counts lay c r typed.1 st typed.4 fits.0, fits.1, let low = fits.2 in omega (arith, low), fits.3)
  operation_counts lay c n (routine r e) m st typed fits = (expr_counts lay c e typed.0 st typed.1 fits.0, fits.1, fits.2)
  operation_counts lay c n get_int m st typed fits = fits
  operation_counts lay c n (prefixed o e) m st typed fits = (expr_counts lay c e typed.0 st typed.1 fits.0, fits.1, fits.2)
  operation_counts lay c n (binary o a b) m st typed fits = (
    expr_counts lay c a typed.0 st typed.2 fits.0,
    expr_counts lay c b typed.1 st typed.3 fits.1,
    takes_counts o (count_of a) (count_of b) fits.2,
    fits.3,
  )

  pub received_counts : (lay : Layout) (c : Context) (r : ReceivedTree) (m : ModeTree) → StandsTyped lay c → IsTakenBy c r m → FitsReceived lay r → ReceivedFits lay.program r
  received_counts lay c (received e bounds) m st typed fits = (expr_counts lay c e typed.0.0 st typed.0.1 fits.0, tests_one bounds (count_of e) fits.1)

  pub all_counts : (lay : Layout) (c : Context) (rs : ReceivedNodes) → StandsTyped lay c → AreTaken c rs → FitsAll lay rs → AllFit lay.program rs
  all_counts lay c no_received st typed fits = tt
  all_counts lay c (more_received r rs) st typed fits = (received_counts lay c r typed.0.0 st typed.0.1 fits.0, all_counts lay c rs st typed.1 fits.1)

  parts_counts : (lay : Layout) (c : Context) (ps : PartNodes) (from m : ModeTree) (of n : ℕ) → StandsTyped lay c → PartsLead c ps from m → FitsParts lay of ps n → PartsFit lay.program ps
  parts_counts lay c no_parts from m of n st typed fits = tt
  parts_counts lay c (field first count ps) from m of n st typed fits = parts_counts lay c ps typed.1 m count n st typed.5 fits.1
  parts_counts lay c (element e b count ps) from m of n st typed fits = (expr_counts lay c e typed.3.0 st typed.3.1 fits.0, fits.1, parts_counts lay c ps typed.1 m count n st typed.5 fits.3)

  pub place_counts : (lay : Layout) (c : Context) (l : LocationTree) (m : ModeTree) → StandsTyped lay c → LocationHas c l m → FitsLocation lay l → PlaceFits lay.program l
  place_counts lay c (location b ps n) m st typed fits = parts_counts lay c ps typed.0 m fits.0 n st typed.2 fits.3

  ranges_counts : (lay : Layout) (c : Context) (b : Bounds) (rs : RangeNodes) (m : ModeTree) → StandsTyped lay c → RangesHave c rs m → FitsRanges lay b rs → RangesFit lay.program rs
  ranges_counts lay c b no_ranges m st typed fits = tt
  ranges_counts lay c b (one_member e rs) m st typed fits = (expr_counts lay c e typed.0.0 st typed.0.1 fits.0, fits.1, ranges_counts lay c b rs m st typed.1 fits.2)
  ranges_counts lay c b (members e f rs) m st typed fits = (
    expr_counts lay c e typed.0.0 st typed.0.1 fits.0,
    fits.1,
    expr_counts lay c f typed.1.0 st typed.1.1 fits.2,
    fits.3,
    ranges_counts lay c b rs m st typed.2 fits.4,
  )

  -- the body of a process that is started is there by what is typed
  pub start_counts : (lay : Layout) (c : Context) (t : StartTree) → StandsTyped lay c → IsTypedStart c t → FitsStart lay t → StartFits lay.program t
  start_counts lay c (started k rs) st typed fits = (
    item_below lay.program.bodies k typed.0 (subst (λ (p : CheckedTree). slice_get p.bodies k ≡ Some typed.0) st.same typed.1),
    all_counts lay c rs st (arguments_taken c rs typed.0 0 typed.3) fits,
  )

  pub call_counts : (lay : Layout) (c : Context) (n : ℕ) (t : CallTree) (result : Option ModeTree) → StandsTyped lay c → IsTypedCall c t result → FitsCall lay t n → CallFits lay.program n t
  call_counts lay c n (called k as') result st typed fits =
      let own = (st.in_range.bodies k fits.0 fits.1).result in
      let given = fits.3 in
      let back = copies_counted lay as' fits.0.parameters fits.0.locals fits.4 in (
        fits.0,
        fits.1,
        arguments_counts lay c fits.0.locals 0 as' fits.0.parameters fits.0.locals typed.0 0 st (λ i. ap (slice_get fits.0.locals) (let e : 0 + i ≡ i = omega arith in e)) typed.5 fits.4,
        arguments_counted lay as' fits.0.parameters fits.0.locals fits.4,
        omega (arith, own, given, back),
      )

  arguments_counts : (lay : Layout) (c : Context) (all : List LocalRowTree) (k : ℕ) (as' : ArgumentNodes) (ps : List Parameter) (rows : List LocalRowTree) (b : BodyRowTree) (j : ℕ) → StandsTyped lay c → AreFrom all k rows → AreTypedArguments c as' b j → FitsArguments lay as' ps rows → ArgumentsFit lay.program all k as'
  arguments_counts lay c all k no_arguments ps rows b j st from typed fits = tt
  arguments_counts lay c all k (in_argument r as') ps rows b j st from typed fits = (
    received_counts lay c r typed.0 st typed.2 fits.5,
    arguments_counts lay c all (k + 1) as' fits.1 fits.2 b (suc j) st (others_from all rows fits.2 k fits.0 from fits.4) typed.3 fits.7,
  )
  arguments_counts lay c all k (out_argument l bounds as') ps rows b j st from typed fits = (
    place_counts lay c l typed.2.0 st typed.2.1 fits.5.0,
    ap (λ (o : Option LocalRowTree). length (lowest_in_row o)) (first_from all rows fits.2 k fits.0 from fits.4) ∙ (fits.6.1 ∙ sym fits.6.0),
    tests_one bounds (location_count l) fits.5.1,
    arguments_counts lay c all (k + 1) as' fits.1 fits.2 b (suc j) st (others_from all rows fits.2 k fits.0 from fits.4) typed.3 fits.7,
  )
  arguments_counts lay c all k (inout_argument l taken bounds as') ps rows b j st from typed fits = (
    place_counts lay c l typed.3.0 st typed.3.1 fits.5.0,
    tests_one taken (location_count l) fits.5.1,
    tests_one bounds (location_count l) fits.5.2,
    arguments_counts lay c all (k + 1) as' fits.1 fits.2 b (suc j) st (others_from all rows fits.2 k fits.0 from fits.4) typed.4 fits.7,
  )
