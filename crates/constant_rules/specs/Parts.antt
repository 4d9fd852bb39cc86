-- What comes of a tuple, by what is known of its parts.
use Rattle.std.specs.Prelude.{◌≡◌, ℕ, zero, suc, Bool, true, false, ◌&&◌, ◌||◌, not, if◌then◌else◌, List, [], ◌∷◌, ◌++◌, length, slice_get, Option, Some, None, option_and_then, is_some, ℤ, ◌-ℤ◌}
use Rattle.std.specs.List.{list_all}
use Rattle.std.specs.Int.{w64, saturate_signed}
use Rattle.chill_base.specs.declared.pos.Pos.{Pos}
use Rattle.diagnostics.specs.declared.diagnostic.Diagnostic.{Diagnostic}
use Rattle.diagnostics.specs.declared.rule.Rule.TheVariants as rules
use Rattle.modes.specs.declared.mode.Bounds.{Bounds}
use Rattle.modes.specs.ModeTree.{ModeTree, ClassTree, value}
use Rattle.modes.specs.Form.{FormTree, of_array, of_powerset}
use Rattle.modes.specs.Bounds.{bounds_of, count_within}
use Rattle.modes.specs.Scalars.{numbers_of}
use Rattle.scalar_operators.specs.Members.{no_members, union_of, span_in}
use Rattle.checks_model.specs.Alike.{goes_with}
use Rattle.checks_model.specs.ValueTrees.{ValueTree}
use Rattle.checks_model.specs.Told.{tell_at, told_if, holds_of_both}
use Rattle.checks_model.specs.ConstantRules.{is_outside}
use Rattle.constant_values.specs.Fits.{few_members}
use Rattle.constant_operators.specs.declared.known.Known.{Known}
use Rattle.constant_operators.specs.Known.{Holds, IsTold, IsKnown}
use Rattle.constant_rules.specs.declared.parts.Blame.{Blame}
use Rattle.constant_rules.specs.declared.parts.Blame.TheVariants as blames
use Rattle.constant_rules.specs.declared.parts.Part.{Part}
use Rattle.constant_rules.specs.declared.parts.Span.{Span}
use Rattle.constant_rules.specs.declared.parts.Tupled.{Tupled}
use Rattle.constant_rules.specs.declared.parts.Tupled.TheVariants as tupled

-- ---- scalars that are added

-- the scalars of parts behind each other, where there are both
abbrev pub joined : Option (List ℤ) → Option (List ℤ) → Option (List ℤ)
joined (Some xs) (Some ys) = Some (xs ++ ys)
joined _ _ = None

abbrev pub first_number : Option (List ℤ) → Option ℤ
first_number flat = option_and_then (λ flat. slice_get flat 0) flat

-- how far a number lies from the lowest
abbrev pub offset_from : ℤ → ℤ → ℤ
offset_from low n = saturate_signed w64 (n -ℤ low)

-- a powerset of numbers between bounds, with those from one to another
abbrev pub widened : Option Bounds → Option ℤ → Option ℤ → Option (List ℤ) → Option (List ℤ)
widened (Some b) (Some l) (Some h) (Some flat) = Some (union_of flat (span_in (length flat) (offset_from b.low l) (offset_from b.low h)))
widened _ _ _ _ = None

-- the powerset of none of the numbers between bounds
abbrev pub none_of : Option Bounds → Option (List ℤ)
none_of b = if is_some b then Some (no_members (numbers_of (count_within b))) else None

-- the same scalars so many times
abbrev pub times : ℕ → List ℤ → List ℤ
times zero flat = []
times (suc n) flat = flat ++ times n flat

-- the modes of the index and of the elements of an array
abbrev pub array_parts : FormTree → Option (ModeTree × ModeTree)
array_parts (of_array i e how) = Some (i, e)
array_parts _ = None

-- ---- parts

-- what is asked of both ends of a range
abbrev pub last_passes : (Part → Bool) → Option Part → Bool
last_passes test None = true
last_passes test (Some p) = test p

abbrev pub passes : (Part → Bool) → Span → Bool
passes test s = test s.first && last_passes test s.last

abbrev pub all_pass : (Part → Bool) → List Span → Bool
all_pass test ss = list_all (passes test) ss

abbrev pub clean_part : Part → Bool
clean_part p = p.known.is_clean

abbrev pub going_part : Part → Bool
going_part p = p.goes

abbrev pub inside_part : Part → Bool
inside_part p = p.lies_inside

-- the class and the value of a part are known, which goes to a mode
abbrev pub class_goes_not : Option ClassTree → Option ModeTree → Bool
class_goes_not c m = holds_of_both (λ c m. not (goes_with c m)) c m

abbrev pub value_lies_outside : Option ClassTree → Option ValueTree → Option ModeTree → Bool
value_lies_outside c v m = holds_of_both goes_with c m && holds_of_both (λ v m. is_outside (bounds_of m) v) v m

-- ---- what is told of parts in which nothing is told

abbrev pub outside_part : Part → List Diagnostic
outside_part p = told_if (not p.lies_inside) (tell_at rules.M11 p.at)

abbrev pub outside_last : Option Part → List Diagnostic
outside_last None = []
outside_last (Some p) = outside_part p

abbrev pub outside_span : Span → List Diagnostic
outside_span s = outside_part s.first ++ outside_last s.last

abbrev pub outside_of : List Span → List Diagnostic
outside_of [] = []
outside_of (s ∷ ss) = outside_span s ++ outside_of ss

abbrev pub misfit_told : Pos → Bool → List Diagnostic
misfit_told at fits = told_if (not fits) (tell_at rules.M10 at)

abbrev pub told_of_spans : Pos → List Span → List Diagnostic
told_of_spans at ss = misfit_told at (all_pass going_part ss) ++ outside_of ss

-- ---- values of tuples

abbrev pub firsts : List Span → Option (List ℤ)
firsts [] = Some []
firsts (s ∷ ss) = joined s.first.known.value (firsts ss)

abbrev pub last_or : Part → Option Part → Part
last_or first None = first
last_or first (Some p) = p

abbrev pub span_widened : Option Bounds → Span → Option (List ℤ) → Option (List ℤ)
span_widened b s flat = widened b (first_number s.first.known.value) (first_number (last_or s.first s.last).known.value) flat

abbrev pub all_widened : Option Bounds → List Span → Option (List ℤ) → Option (List ℤ)
all_widened b [] flat = flat
all_widened b (s ∷ ss) flat = all_widened b ss (span_widened b s flat)

-- by the form of the mode
abbrev pub flat_of_spans : FormTree → List Span → Option (List ℤ)
flat_of_spans (of_powerset m) ss = all_widened (bounds_of m) ss (none_of (bounds_of m))
flat_of_spans _ ss = firsts ss

-- ---- what comes of a tuple

-- of a synonym's value nothing is told but one rule of the whole
abbrev pub told_where : Blame → List Diagnostic → List Diagnostic
told_where blames.Each own = own
told_where blames.Whole own = []

abbrev pub is_whole : Blame → Bool
is_whole blames.Each = false
is_whole blames.Whole = true

-- a powerset of a mode has no more members than INT has values
abbrev pub few_in : FormTree → Bool
few_in (of_powerset m) = few_members (count_within (bounds_of m))
few_in _ = true

-- in whose parts nothing is told or something, which fits or doesn't, of a mode with few members
abbrev pub IsTupledOf : Blame → Bool → Bool → Bool → Option (List ℤ) → Tupled → Type 0
IsTupledOf blame clean fits few v (tupled.Fits w) = (clean ≡ true) × (fits ≡ true) × (few ≡ true) × (w ≡ v)
IsTupledOf blame clean fits few v tupled.Misfit = (clean ≡ true) × (fits ≡ false) × (is_whole blame ≡ true)
IsTupledOf blame clean fits few v tupled.Told = (clean && (fits || is_whole blame)) ≡ false

abbrev pub where_clean : Bool → List Diagnostic → List Diagnostic
where_clean clean own = if clean then own else []

pub record Judges (blame : Blame) (clean fits few : Bool) (own : List Diagnostic) (v : Option (List ℤ)) (old new : List Diagnostic) (t : Tupled) : Type 0 where
  pub told : new ≡ old ++ where_clean clean (told_where blame own)
  pub tupled : IsTupledOf blame clean fits few v t

-- what is known of a tuple of a mode
abbrev pub IsOfTuple : ModeTree → Tupled → Known → Type 0
IsOfTuple m (tupled.Fits v) k = Holds (Some (value m)) v k
IsOfTuple m tupled.Misfit k = Holds None None k
IsOfTuple m tupled.Told k = IsTold true k

-- a part that goes to a mode, by what is known of it
pub record IsReceived (m : ModeTree) (at : Pos) (k : Known) (part : Part) : Type 0 where
  pub place : part.at ≡ at
  pub known : part.known ≡ k
  pub goes : (c : Option ClassTree) (v : Option ValueTree) → IsKnown c v k → part.goes ≡ not (class_goes_not c (Some m))
  pub lies_inside : (c : Option ClassTree) (v : Option ValueTree) → IsKnown c v k → part.lies_inside ≡ not (value_lies_outside c v (Some m))

abbrev pub is_misfit : Tupled → Bool
is_misfit tupled.Misfit = true
is_misfit _ = false

-- a part that is a tuple without a mode's name; of one in the value of a synonym it is asked that it fits, and no more
abbrev pub IsTuplePart : Blame → ModeTree → Pos → Tupled → Part → Type 0
IsTuplePart blames.Each m at t part = IsOfTuple m t part.known × IsReceived m at part.known part
IsTuplePart blames.Whole m at t part = IsOfTuple m t part.known × (part.at ≡ at) × (part.goes ≡ not (is_misfit t)) × (part.lies_inside ≡ true)
