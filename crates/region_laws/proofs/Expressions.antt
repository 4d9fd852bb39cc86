-- What expressions and locations ask suits the regions that are open.
use Rattle.std.proofs.Common.{◌≡◌, ℕ, suc, ◌+◌, Bool, true, false, List, [], ◌∷◌, ℤ, refl, sym, subst, inl, inr, Option, Some, None, slice_get}
use Rattle.std.specs.Prelude.{nat_abs, if◌then◌else◌}
use Rattle.kernel_base.specs.declared.request.Request.{Request}
use Rattle.kernel_base.specs.declared.request.Request.TheVariants.{Read, Write, ReceiveBuffer, Start, Get}
use Rattle.modes.specs.declared.mode.Bounds.{Bounds}
use Rattle.modes.specs.ModeTree.{ModeTree, FieldNodes}
use Rattle.checked_program.specs.declared.expr.Base.{Base}
use Rattle.checked_program.specs.declared.expr.Base.TheVariants.{Shared, Local}
use Rattle.checked_program.specs.declared.expr.Binary.{Binary}
use Rattle.scalar_operators.specs.Numbers.{is_between}
use Rattle.program_trees.specs.ExprTree.{ExprTree, expr, OperationTree, constant, own_instance, contents, part_of, receive, start, call, powerset, parts, uniform, routine, get_int, prefixed, binary, ReceivedTree, received, ReceivedNodes, no_received, more_received, PartNodes, no_parts, field, element, RangeNodes, no_ranges, one_member, members, LocationTree, location, StartTree, started, CallTree, called, ArgumentNodes, no_arguments, in_argument, out_argument, inout_argument}
use Rattle.program_trees.specs.ProgramTree.{LocationRowTree, BodyRowTree, CheckedTree}
use Rattle.source_meaning.specs.Store.{Address, in_local, in_shared, address_of, Taken}
use Rattle.source_meaning.specs.Flow.{Flow, Goes, Meaning, asked, done}
use Rattle.source_meaning.specs.Operators.{sole_number, Computed, Yields, Throws, offset_within, binary_value, takes_second, prefix_value, routine_value, with_span, empty_within}
use Rattle.source_meaning.specs.ExprMeaning.{Calls, Setting, as_computed, or_rangefail, tested, asked_value, read_at, assign_at, CopyOut, Passed, takens, copied_out, all_copied_out, call_with, binary_with, expr_mean, operation_mean, received_mean, all_received_mean, offset_mean, location_mean, members_mean, start_mean, call_mean, arguments_mean, place_mean}
use Rattle.source_meaning.specs.OpenRegions.{open_by, region_of_row, region_asked, IsOpenThere}
use Rattle.source_meaning.specs.TypedValues.{Context, IsReached, BaseHas, IsCalledFrom, IsReachedFrom, HasMode, OperationHas, IsTakenBy, ElementsHave, FieldsHave, AllHave, PartsLead, RangesHave, LocationHas, IsTypedStart, AllTaken, IsTypedCall, ArgumentsFit}
use Rattle.region_laws.proofs.Traces.{EntersShut, StartsProcess, IsAskedWell, FlowIn, Keeps, Any, then_keeps, asked_keeps}

-- a request that neither enters nor leaves, nor reads or writes, nor starts
abbrev pub IsPlain : CheckedTree → Request → Type 0
IsPlain p request = ((now : List ℕ) → open_by request now ≡ now) × ((now : List ℕ) → IsAskedWell p now request)

-- a part with a value of no use
abbrev pub Suits : {A : Type 0} → CheckedTree → List ℕ → Meaning A → Type 0
Suits p now part = Keeps p now Any part

pub goes_on : {A : Type 0} (p : CheckedTree) (now : List ℕ) (v : A) → Suits p now (Goes v)
goes_on p now v store s stands = (tt, stands)

-- a body that may be called where these regions are open
abbrev pub IsReachable : BodyRowTree → List ℕ → Type 0
IsReachable b now = b.critical ≡ false → IsOpenThere b.region now

abbrev pub CallsSuit : CheckedTree → (List ℕ → Calls) → Type 0
CallsSuit p calls = (now : List ℕ) (k : ℕ) (b : BodyRowTree) (ts : List Taken) → slice_get p.bodies k ≡ Some b → IsReachable b now → Suits p now (calls now k ts)

-- where a part stands is what its context says
pub record StandsAs (c : Context) (w : Setting) : Type 0 where
  pub region : IsOpenThere c.region w.open_now
  pub calls : CallsSuit c.program w.calls

-- a location of a region lies in one that is open
abbrev pub LiesInside : CheckedTree → List ℕ → Address → Type 0
LiesInside p now (in_local i first) = Unit {0}
LiesInside p now (in_shared l first) = IsOpenThere (region_of_row (slice_get p.locations l)) now

abbrev pub CopiesInside : CheckedTree → List ℕ → Option CopyOut → Type 0
CopiesInside p now None = Unit {0}
CopiesInside p now (Some place) = LiesInside p now place.address

abbrev pub AllInside : CheckedTree → List ℕ → List Passed → Type 0
AllInside p now [] = Unit {0}
AllInside p now (a ∷ as') = CopiesInside p now a.copy_out × AllInside p now as'

abbrev PlaceInside : CheckedTree → List ℕ → CopyOut → Type 0
PlaceInside p now place = LiesInside p now place.address

reached_inside : (o around : Option ℕ) (now : List ℕ) → IsReached o around → IsOpenThere around now → IsOpenThere o now
reached_inside None around now is open' = tt
reached_inside (Some r) around now is open' = subst (λ (a : Option ℕ). IsOpenThere a now) is open'

pub base_inside : (c : Context) (w : Setting) (b : Base) (m : ModeTree) (k : ℕ) → StandsAs c w → BaseHas c b m → LiesInside c.program w.open_now (address_of b k)
base_inside c w (Local i) m k stands has = tt
base_inside c w (Shared l) m k stands has =
    subst (λ (o : Option LocationRowTree). IsOpenThere (region_of_row o) w.open_now) (sym has.1) (reached_inside has.0.region c.region w.open_now has.3 stands.region)

called_inside : (b : BodyRowTree) (around : Option ℕ) (now : List ℕ) → IsCalledFrom b around → IsOpenThere around now → IsReachable b now
called_inside b around now is open' shut = reached_inside b.region around now (subst (λ (k : Bool). IsReachedFrom k b.region around) shut is) open'

-- ---- parts that ask no location

pub computed_suits : (p : CheckedTree) (now : List ℕ) (v : Computed) → Suits p now (as_computed v)
computed_suits p now (Yields xs) store s stands = (tt, stands)
computed_suits p now (Throws x) store s stands = stands

pub rangefail_suits : {A : Type 0} (p : CheckedTree) (now : List ℕ) (v : Option A) → Suits p now (or_rangefail v)
rangefail_suits p now (Some v) store s stands = (tt, stands)
rangefail_suits p now None store s stands = stands

if_tested : {A : Type 0} (p : CheckedTree) (now : List ℕ) (b : Bool) (f g : Flow A) → FlowIn p now Any f → FlowIn p now Any g → FlowIn p now Any (if b then f else g)
if_tested p now true f g x y = x
if_tested p now false f g x y = y

pub tested_suits : (p : CheckedTree) (now : List ℕ) (o : Option Bounds) (xs : List ℤ) → Suits p now (tested o xs)
tested_suits p now None xs store s stands = (tt, stands)
tested_suits p now (Some b) xs store s stands = if_tested p now (is_between b.low b.high (sole_number xs)) _ _ (tt, stands) stands

-- ---- requests for values

pub asks_suit : (p : CheckedTree) (now : List ℕ) (request : Request) (counts : List ℕ) → open_by request now ≡ now → IsAskedWell p now request → Suits p now (asked request counts)
asks_suit p now request counts same asks store s stands = subst (λ (l : List ℕ). FlowIn p l Any (asked request counts store s)) same (asked_keeps p now request counts store s asks stands)

pub value_suits : (p : CheckedTree) (now : List ℕ) (request : Request) (counts : List ℕ) → open_by request now ≡ now → IsAskedWell p now request → Suits p now (asked_value request counts)
value_suits p now request counts same asks store s stands =
    then_keeps p now Any Any (asked request counts store s) _ (asks_suit p now request counts same asks store s stands) (λ answer _ store' s' stands'. (tt, stands'))

pub done_suits : (p : CheckedTree) (now : List ℕ) (request : Request) → open_by request now ≡ now → IsAskedWell p now request → Suits p now (done request)
done_suits p now request same asks store s stands =
    then_keeps p now Any Any (asked request [] store s) _ (asks_suit p now request [] same asks store s stands) (λ answer _ store' s' stands'. (tt, stands'))

-- a request that has to do with no region and starts nothing
pub of_none : (p : CheckedTree) (now : List ℕ) (request : Request) → IsOpenThere (region_asked p request) now → EntersShut request now → StartsProcess p request → IsAskedWell p now request
of_none p now request inside enters starts = record { inside = inside; enters = enters; starts = starts }

pub read_suits : (p : CheckedTree) (now : List ℕ) (count : ℕ) (address : Address) → LiesInside p now address → Suits p now (read_at count address)
read_suits p now count (in_local i first) lies store s stands = (tt, stands)
read_suits p now count (in_shared l first) lies store s stands =
    value_suits p now (Read (record { location = l; first = first; count = count })) [] refl (record { inside = lies; enters = tt; starts = tt }) store s stands

pub assign_suits : (p : CheckedTree) (now : List ℕ) (count : ℕ) (address : Address) (xs : List ℤ) → LiesInside p now address → Suits p now (assign_at count address xs)
assign_suits p now count (in_local i first) xs lies store s stands = (tt, stands)
assign_suits p now count (in_shared l first) xs lies store s stands =
    done_suits p now (Write (record { location = l; first = first; count = count }) xs) refl (record { inside = lies; enters = tt; starts = tt }) store s stands

-- ---- calls

copied_suits : (p : CheckedTree) (now : List ℕ) (o : Option CopyOut) (xs : List ℤ) → CopiesInside p now o → Suits p now (copied_out o xs)
copied_suits p now None xs lies store s stands = (tt, stands)
copied_suits p now (Some place) xs lies store s stands =
    then_keeps p now Any Any (tested place.bounds xs store s) _ (tested_suits p now place.bounds xs store s stands) (λ ys _. assign_suits p now place.count place.address ys lies)

all_copied_suit : (p : CheckedTree) (now : List ℕ) (ps : List Passed) (values : List (List ℤ)) → AllInside p now ps → Suits p now (all_copied_out ps values)
all_copied_suit p now [] values lie store s stands = (tt, stands)
all_copied_suit p now (a ∷ as') [] lie store s stands = (tt, stands)
all_copied_suit p now (a ∷ as') (xs ∷ values) lie store s stands =
    then_keeps p now Any Any (copied_out a.copy_out xs store s) _ (copied_suits p now a.copy_out xs lie.0 store s stands) (λ _ _. all_copied_suit p now as' values lie.1)

call_suits : (c : Context) (w : Setting) (k : ℕ) (b : BodyRowTree) (ps : List Passed) → StandsAs c w → slice_get c.program.bodies k ≡ Some b → IsReachable b w.open_now → AllInside c.program w.open_now ps → Suits c.program w.open_now (call_with w k ps)
call_suits c w k b ps there is reachable lie store s stands =
    then_keeps c.program w.open_now Any Any (w.calls w.open_now k (takens ps) store s) _ (there.calls w.open_now k b (takens ps) is reachable store s stands)
    (λ final _ store1 s1 stands1. then_keeps c.program w.open_now Any Any (all_copied_out ps final.locals store1 s1) _ (all_copied_suit c.program w.open_now ps final.locals lie store1 s1 stands1) (λ _ _ store' s' stands'. (tt, stands')))

if_second : (p : CheckedTree) (now : List ℕ) (b : Bool) (f g : Flow (List ℤ)) → FlowIn p now Any f → FlowIn p now Any g → FlowIn p now Any (if b then f else g)
if_second p now true f g x y = x
if_second p now false f g x y = y

pub binary_suits : (p : CheckedTree) (now : List ℕ) (o : Binary) (xs : List ℤ) (second : Meaning (List ℤ)) → Suits p now second → Suits p now (binary_with o xs second)
binary_suits p now o xs second is store s stands =
    if_second p now (takes_second o xs) _ _ (then_keeps p now Any Any (second store s) _ (is store s stands) (λ ys _. computed_suits p now (binary_value o xs ys))) (tt, stands)

-- ---- expressions

mutual
  pub expr_suits : (c : Context) (w : Setting) (e : ExprTree) (m : ModeTree) → StandsAs c w → HasMode c e m → Suits c.program w.open_now (expr_mean w e)
  expr_suits c w (expr n own o) m there has store s stands = operation_suits c w n o m there has.3 store s stands

  operation_suits : (c : Context) (w : Setting) (n : ℕ) (o : OperationTree) (m : ModeTree) → StandsAs c w → OperationHas c o m → Suits c.program w.open_now (operation_mean w n o)
  operation_suits c w n (constant xs) m there has store s stands = (tt, stands)
  operation_suits c w n own_instance m there has store s stands = (tt, stands)
  operation_suits c w n (contents l) m there has store s stands =
      then_keeps c.program w.open_now (LiesInside c.program w.open_now) Any (location_mean w l store s) _ (location_lies c w l m there has store s stands) (λ address lies. read_suits c.program w.open_now n address lies)
  operation_suits c w n (part_of e ps) m there has store s stands =
      then_keeps c.program w.open_now Any Any (expr_mean w e store s) _ (expr_suits c w e has.0 there has.1 store s stands) (λ xs _ store1 s1 stands1.
      then_keeps c.program w.open_now Any Any (offset_mean w ps 0 store1 s1) _ (offset_suits c w ps has.0 m 0 there has.2 store1 s1 stands1) (λ k _ store' s' stands'. (tt, stands')))
  operation_suits c w n (receive b) m there has store s stands =
      value_suits c.program w.open_now (ReceiveBuffer (record { thing = b; number = 0 } ∷ []) false) (n ∷ []) refl (record { inside = tt; enters = tt; starts = tt }) store s stands
  operation_suits c w n (start t) m there has store s stands = start_suits c w t there has.1 store s stands
  operation_suits c w n (call t) m there has store s stands = call_tree_suits c w t (Some m) there has store s stands
  operation_suits c w n (powerset b rs) m there has store s stands = members_suit c w b rs has.0 (empty_within b) there has.3 store s stands
  operation_suits c w n (parts rs) m there (inl has) store s stands = elements_suit c w rs _ has.1 there has.3 store s stands
  operation_suits c w n (parts rs) m there (inr has) store s stands = fields_suit c w rs has.0 there has.2 store s stands
  operation_suits c w n (uniform k r) m there has store s stands =
      then_keeps c.program w.open_now Any Any (received_mean w r store s) _ (received_suits c w r has.1 there has.4 store s stands) (λ xs _ store' s' stands'. (tt, stands'))
  operation_suits c w n (routine r e) m there has store s stands =
      then_keeps c.program w.open_now Any Any (expr_mean w e store s) _ (expr_suits c w e has.0 there has.1 store s stands) (λ xs _. computed_suits c.program w.open_now (routine_value r xs))
  operation_suits c w n get_int m there has store s stands = value_suits c.program w.open_now Get [] refl (record { inside = tt; enters = tt; starts = tt }) store s stands
  operation_suits c w n (prefixed o e) m there has store s stands =
      then_keeps c.program w.open_now Any Any (expr_mean w e store s) _ (expr_suits c w e has.0 there has.1 store s stands) (λ xs _. computed_suits c.program w.open_now (prefix_value o xs))
  operation_suits c w n (binary o e f) m there has store s stands =
      then_keeps c.program w.open_now Any Any (expr_mean w e store s) _ (expr_suits c w e has.0 there has.2 store s stands) (λ xs _. binary_suits c.program w.open_now o xs (expr_mean w f) (expr_suits c w f has.1 there has.3))

  pub received_suits : (c : Context) (w : Setting) (r : ReceivedTree) (m : ModeTree) → StandsAs c w → IsTakenBy c r m → Suits c.program w.open_now (received_mean w r)
  received_suits c w (received e b) m there has store s stands =
      then_keeps c.program w.open_now Any Any (expr_mean w e store s) _ (expr_suits c w e has.0.0 there has.0.1 store s stands) (λ xs _. tested_suits c.program w.open_now b xs)

  elements_suit : (c : Context) (w : Setting) (rs : ReceivedNodes) (n : ℕ) (m : ModeTree) → StandsAs c w → ElementsHave c rs n m → Suits c.program w.open_now (all_received_mean w rs)
  elements_suit c w no_received n m there has store s stands = (tt, stands)
  elements_suit c w (more_received r rs) n m there has store s stands =
      then_keeps c.program w.open_now Any Any (received_mean w r store s) _ (received_suits c w r m there has.2 store s stands) (λ xs _ store1 s1 stands1.
      then_keeps c.program w.open_now Any Any (all_received_mean w rs store1 s1) _ (elements_suit c w rs has.0 m there has.3 store1 s1 stands1) (λ ys _ store' s' stands'. (tt, stands')))

  fields_suit : (c : Context) (w : Setting) (rs : ReceivedNodes) (fs : FieldNodes) → StandsAs c w → FieldsHave c rs fs → Suits c.program w.open_now (all_received_mean w rs)
  fields_suit c w no_received fs there has store s stands = (tt, stands)
  fields_suit c w (more_received r rs) fs there has store s stands =
      then_keeps c.program w.open_now Any Any (received_mean w r store s) _ (received_suits c w r has.0 there has.3 store s stands) (λ xs _ store1 s1 stands1.
      then_keeps c.program w.open_now Any Any (all_received_mean w rs store1 s1) _ (fields_suit c w rs has.1 there has.4 store1 s1 stands1) (λ ys _ store' s' stands'. (tt, stands')))

  pub all_suit : (c : Context) (w : Setting) (rs : ReceivedNodes) (ms : List ModeTree) → StandsAs c w → AllHave c rs ms → Suits c.program w.open_now (all_received_mean w rs)
  all_suit c w no_received ms there has store s stands = (tt, stands)
  all_suit c w (more_received r rs) ms there has store s stands =
      then_keeps c.program w.open_now Any Any (received_mean w r store s) _ (received_suits c w r has.0 there has.3 store s stands) (λ xs _ store1 s1 stands1.
      then_keeps c.program w.open_now Any Any (all_received_mean w rs store1 s1) _ (all_suit c w rs has.1 there has.4 store1 s1 stands1) (λ ys _ store' s' stands'. (tt, stands')))

  offset_suits : (c : Context) (w : Setting) (ps : PartNodes) (of m : ModeTree) (k : ℕ) → StandsAs c w → PartsLead c ps of m → Suits c.program w.open_now (offset_mean w ps k)
  offset_suits c w no_parts of m k there leads store s stands = (tt, stands)
  offset_suits c w (field first count ps) of m k there leads store s stands = offset_suits c w ps leads.1 m (k + first) there leads.5 store s stands
  offset_suits c w (element e b count ps) of m k there leads store s stands =
      then_keeps c.program w.open_now Any Any (expr_mean w e store s) _ (expr_suits c w e leads.3.0 there leads.3.1 store s stands) (λ xs _ store1 s1 stands1.
      then_keeps c.program w.open_now Any Any (or_rangefail (offset_within b count (sole_number xs)) store1 s1) _ (rangefail_suits c.program w.open_now (offset_within b count (sole_number xs)) store1 s1 stands1) (λ z _. offset_suits c w ps leads.1 m (k + nat_abs z) there leads.5))

  pub location_lies : (c : Context) (w : Setting) (l : LocationTree) (m : ModeTree) → StandsAs c w → LocationHas c l m → Keeps c.program w.open_now (LiesInside c.program w.open_now) (location_mean w l)
  location_lies c w (location b ps n) m there has store s stands =
      then_keeps c.program w.open_now Any (LiesInside c.program w.open_now) (offset_mean w ps 0 store s) _ (offset_suits c w ps has.0 m 0 there has.2 store s stands) (λ k _ store1 s1 stands1. (base_inside c w b has.0 k there has.1, stands1))

  members_suit : (c : Context) (w : Setting) (b : Bounds) (rs : RangeNodes) (m : ModeTree) (set : List ℤ) → StandsAs c w → RangesHave c rs m → Suits c.program w.open_now (members_mean w b rs set)
  members_suit c w b no_ranges m set there has store s stands = (tt, stands)
  members_suit c w b (one_member e rs) m set there has store s stands =
      then_keeps c.program w.open_now Any Any (expr_mean w e store s) _ (expr_suits c w e has.0.0 there has.0.1 store s stands) (λ xs _ store1 s1 stands1.
      then_keeps c.program w.open_now Any Any (or_rangefail (offset_within b 1 (sole_number xs)) store1 s1) _ (rangefail_suits c.program w.open_now (offset_within b 1 (sole_number xs)) store1 s1 stands1) (λ k _. members_suit c w b rs m (with_span b k k set) there has.1))
  members_suit c w b (members e f rs) m set there has store s stands =
      then_keeps c.program w.open_now Any Any (expr_mean w e store s) _ (expr_suits c w e has.0.0 there has.0.1 store s stands) (λ xs _ store1 s1 stands1.
      then_keeps c.program w.open_now Any Any (or_rangefail (offset_within b 1 (sole_number xs)) store1 s1) _ (rangefail_suits c.program w.open_now (offset_within b 1 (sole_number xs)) store1 s1 stands1) (λ j _ store2 s2 stands2.
      then_keeps c.program w.open_now Any Any (expr_mean w f store2 s2) _ (expr_suits c w f has.1.0 there has.1.1 store2 s2 stands2) (λ ys _ store3 s3 stands3.
      then_keeps c.program w.open_now Any Any (or_rangefail (offset_within b 1 (sole_number ys)) store3 s3) _ (rangefail_suits c.program w.open_now (offset_within b 1 (sole_number ys)) store3 s3 stands3) (λ k _. members_suit c w b rs m (with_span b j k set) there has.2))))

  pub start_suits : (c : Context) (w : Setting) (t : StartTree) → StandsAs c w → IsTypedStart c t → Suits c.program w.open_now (start_mean w t)
  start_suits c w (started k rs) there has store s stands =
      then_keeps c.program w.open_now Any Any (all_received_mean w rs store s) _ (taken_suit c w rs has.0 0 there has.3 store s stands) (λ xs _.
      value_suits c.program w.open_now (Start k xs) [] refl (record { inside = tt; enters = tt; starts = (has.0, has.1, has.2) }))

  taken_suit : (c : Context) (w : Setting) (rs : ReceivedNodes) (b : BodyRowTree) (k : ℕ) → StandsAs c w → AllTaken c rs b k → Suits c.program w.open_now (all_received_mean w rs)
  taken_suit c w no_received b k there has store s stands = (tt, stands)
  taken_suit c w (more_received r rs) b k there has store s stands =
      then_keeps c.program w.open_now Any Any (received_mean w r store s) _ (received_suits c w r has.0 there has.2 store s stands) (λ xs _ store1 s1 stands1.
      then_keeps c.program w.open_now Any Any (all_received_mean w rs store1 s1) _ (taken_suit c w rs b (suc k) there has.3 store1 s1 stands1) (λ ys _ store' s' stands'. (tt, stands')))

  pub call_tree_suits : (c : Context) (w : Setting) (t : CallTree) (result : Option ModeTree) → StandsAs c w → IsTypedCall c t result → Suits c.program w.open_now (call_mean w t)
  call_tree_suits c w (called k as') result there has store s stands =
      then_keeps c.program w.open_now (AllInside c.program w.open_now) Any (arguments_mean w as' store s) _ (arguments_lie c w as' has.0 0 there has.5 store s stands)
      (λ ps lie. call_suits c w k has.0 ps there has.1 (called_inside has.0 c.region w.open_now has.4 there.region) lie)

  arguments_lie : (c : Context) (w : Setting) (as' : ArgumentNodes) (b : BodyRowTree) (k : ℕ) → StandsAs c w → ArgumentsFit c as' b k → Keeps c.program w.open_now (AllInside c.program w.open_now) (arguments_mean w as')
  arguments_lie c w no_arguments b k there has store s stands = (tt, stands)
  arguments_lie c w (in_argument r as') b k there has store s stands =
      then_keeps c.program w.open_now Any (AllInside c.program w.open_now) (received_mean w r store s) _ (received_suits c w r has.0 there has.2 store s stands) (λ xs _ store1 s1 stands1.
      then_keeps c.program w.open_now (AllInside c.program w.open_now) (AllInside c.program w.open_now) (arguments_mean w as' store1 s1) _ (arguments_lie c w as' b (suc k) there has.3 store1 s1 stands1) (λ ps lie store2 s2 stands2. ((tt, lie), stands2)))
  arguments_lie c w (out_argument l bounds as') b k there has store s stands =
      then_keeps c.program w.open_now (PlaceInside c.program w.open_now) (AllInside c.program w.open_now) (place_mean w l bounds store s) _ (place_lies c w l bounds has.2.0 there has.2.1 store s stands) (λ place lies store1 s1 stands1.
      then_keeps c.program w.open_now (AllInside c.program w.open_now) (AllInside c.program w.open_now) (arguments_mean w as' store1 s1) _ (arguments_lie c w as' b (suc k) there has.3 store1 s1 stands1) (λ ps lie store2 s2 stands2. ((lies, lie), stands2)))
  arguments_lie c w (inout_argument l taken bounds as') b k there has store s stands =
      then_keeps c.program w.open_now (PlaceInside c.program w.open_now) (AllInside c.program w.open_now) (place_mean w l bounds store s) _ (place_lies c w l bounds has.3.0 there has.3.1 store s stands) (λ place lies store1 s1 stands1.
      then_keeps c.program w.open_now Any (AllInside c.program w.open_now) (read_at place.count place.address store1 s1) _ (read_suits c.program w.open_now place.count place.address lies store1 s1 stands1) (λ xs _ store2 s2 stands2.
      then_keeps c.program w.open_now Any (AllInside c.program w.open_now) (tested taken xs store2 s2) _ (tested_suits c.program w.open_now taken xs store2 s2 stands2) (λ ys _ store3 s3 stands3.
      then_keeps c.program w.open_now (AllInside c.program w.open_now) (AllInside c.program w.open_now) (arguments_mean w as' store3 s3) _ (arguments_lie c w as' b (suc k) there has.4 store3 s3 stands3) (λ ps lie store4 s4 stands4. ((lies, lie), stands4)))))

  place_lies : (c : Context) (w : Setting) (l : LocationTree) (bounds : Option Bounds) (m : ModeTree) → StandsAs c w → LocationHas c l m → Keeps c.program w.open_now (PlaceInside c.program w.open_now) (place_mean w l bounds)
  place_lies c w (location b ps n) bounds m there has store s stands =
      then_keeps c.program w.open_now Any (PlaceInside c.program w.open_now) (offset_mean w ps 0 store s) _ (offset_suits c w ps has.0 m 0 there has.2 store s stands) (λ k _ store1 s1 stands1. (base_inside c w b has.0 k there has.1, stands1))
