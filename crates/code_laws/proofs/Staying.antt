-- Locals that are left as they are: pieces and expressions.
use Rattle.std.proofs.Common.{◌≡◌, ℕ, zero, suc, ◌+◌, if◌then◌else◌, Bool, true, false, not, ◌==◌, nat_lt, List, [], ◌∷◌, ℤ, nat_abs, Option, Some, None, slice_get, slice_set, slice_index_or, eq-eqb, refl, sym, ap, ◌∙◌, subst}
use Rattle.kernel_base.specs.declared.ends.Exc.TheVariants.{Rangefail, Spacefail}
use Rattle.kernel_base.specs.declared.ends.How.{How}
use Rattle.kernel_base.specs.declared.ends.How.TheVariants.{Raised as RaisedHow}
use Rattle.kernel_base.specs.declared.request.Request.{Request}
use Rattle.kernel_base.specs.declared.request.Request.TheVariants.{End}
use Rattle.kernel_base.specs.declared.answer.Answer.TheVariants.{Value, Done, Woken, Got, Otherwise, Instance, Fail, Chose, Handed, Stored}
use Rattle.world_model.specs.Session.{Session, Ticked, GoesOn, Last, tick}
use Rattle.modes.specs.declared.mode.Bounds.{Bounds}
use Rattle.scalar_operators.specs.Numbers.{is_between}
use Rattle.checked_program.specs.declared.expr.Base.{Base}
use Rattle.checked_program.specs.declared.expr.Base.TheVariants.{Shared, Local}
use Rattle.checked_program.specs.declared.expr.Binary.{Binary}
use Rattle.code_types.specs.Actions.{most_frames}
use Rattle.program_trees.specs.ExprTree.{ExprTree, expr, OperationTree, constant, own_instance, contents, part_of, receive, start, call, powerset, parts, uniform, routine, get_int, prefixed, binary, ReceivedTree, received, ReceivedNodes, no_received, more_received, PartNodes, no_parts, field, element, RangeNodes, no_ranges, one_member, members, LocationTree, location, StartTree, started, CallTree, called, ArgumentNodes, no_arguments, in_argument, out_argument, inout_argument}
use Rattle.program_trees.specs.ProgramTree.{BodyRowTree, CheckedTree}
use Rattle.source_meaning.specs.Store.{Store, OpenCall, Taken, Address, in_local, in_shared, address_of, local_value}
use Rattle.source_meaning.specs.Flow.{Flow, Goes, Raised, Exits, Returned, Stops, Gone, Bound, Meaning, then_do, Reply, Given, Halts, reply, asked_in, asked, done, finished, finish, after_tick}
use Rattle.source_meaning.specs.Operators.{Computed, Yields, Throws, sole_number, offset_within, takes_second, binary_value, prefix_value, routine_value, empty_within, with_span}
use Rattle.source_meaning.specs.ExprMeaning.{Setting, as_computed, or_rangefail, tested, read_at, assign_at, asked_value, CopyOut, Passed, copied_out, all_copied_out, binary_with, expr_mean, operation_mean, received_mean, all_received_mean, offset_mean, location_mean, members_mean, start_mean, call_mean, arguments_mean, place_mean}
use Rattle.source_meaning.specs.BodyMeaning.{Ending, Through, Out, Halted, Ended, Unknown, Bodies, at_call, calls_in, listed_by}
use Rattle.code_types.specs.Places.{names_exception}
use Rattle.code_laws.specs.Counters.{is_other, expr_leaves, operation_leaves, received_leaves, all_leave, parts_leave, place_leaves, target_leaves, ranges_leave, start_leaves, call_leaves, arguments_leave}
use Rattle.code_laws.proofs.Values.{both_true}

-- ---- what is left, with a fact on the value

abbrev pub StaysBy : {A : Type 0} → ℕ → Store → (A → Type 0) → Flow A → Type 0
StaysBy i store P (Goes v store1 s) = (local_value store1 i ≡ local_value store i) × P v
StaysBy i store P (Raised x store1 s) = local_value store1 i ≡ local_value store i
StaysBy i store P (Exits k store1 s) = local_value store1 i ≡ local_value store i
StaysBy i store P (Returned store1 s) = local_value store1 i ≡ local_value store i
StaysBy i store P (Stops t inner store1) = Unit {0}
StaysBy i store P (Gone t) = Unit {0}
StaysBy i store P Bound = Unit {0}

pub record Stays {A : Type 0} (i : ℕ) (store : Store) (P : A → Type 0) (o : Flow A) : Type 0 where
  pub by : StaysBy i store P o

abbrev pub Any : {A : Type 0} → A → Type 0
Any v = Unit {0}

stays_from : {A : Type 0} (i : ℕ) (store store1 : Store) (P : A → Type 0) (o : Flow A) → local_value store1 i ≡ local_value store i → StaysBy i store1 P o → StaysBy i store P o
stays_from i store store1 P (Goes v store2 s) e h = (h.0 ∙ e, h.1)
stays_from i store store1 P (Raised x store2 s) e h = h ∙ e
stays_from i store store1 P (Exits k store2 s) e h = h ∙ e
stays_from i store store1 P (Returned store2 s) e h = h ∙ e
stays_from i store store1 P (Stops t inner store2) e h = tt
stays_from i store store1 P (Gone t) e h = tt
stays_from i store store1 P Bound e h = tt

stays_on : {A B : Type 0} (i : ℕ) (store : Store) (P : A → Type 0) (P' : B → Type 0) (o : Flow A) (next : A → Meaning B) → StaysBy i store P o → ((v : A) (store1 : Store) (s1 : Session) → P v → Stays i store1 P' (next v store1 s1)) → StaysBy i store P' (then_do o next)
stays_on i store P P' (Goes v store1 s) next h f = stays_from i store store1 P' (next v store1 s) h.0 (f v store1 s h.1).by
stays_on i store P P' (Raised x store1 s) next h f = h
stays_on i store P P' (Exits k store1 s) next h f = h
stays_on i store P P' (Returned store1 s) next h f = h
stays_on i store P P' (Stops t inner store1) next h f = tt
stays_on i store P P' (Gone t) next h f = tt
stays_on i store P P' Bound next h f = tt

pub stays_then : {A B : Type 0} {i : ℕ} {store : Store} {P : A → Type 0} {P' : B → Type 0} {o : Flow A} {next : A → Meaning B} → Stays i store P o → ((v : A) (store1 : Store) (s1 : Session) → P v → Stays i store1 P' (next v store1 s1)) → Stays i store P' (then_do o next)
stays_then {A} {B} {i} {store} {P} {P'} {o} {next} h f = record { by = stays_on i store P P' o next h.by f }

-- from a store on that has the same value
pub moved_on : {A : Type 0} (i : ℕ) (store store1 : Store) (P : A → Type 0) (o : Flow A) → local_value store1 i ≡ local_value store i → Stays i store1 P o → Stays i store P o
moved_on i store store1 P o e h = record { by = stays_from i store store1 P o e h.by }

-- one of two
pub chosen_stays : {A : Type 0} (i : ℕ) (store : Store) (P : A → Type 0) (t : Bool) (o p : Flow A) → Stays i store P o → Stays i store P p → Stays i store P (if t then o else p)
chosen_stays i store P true o p f g = f
chosen_stays i store P false o p f g = g

-- ---- locals that are set

pub other_read : (locals : List (List ℤ)) (k i : ℕ) (xs : List ℤ) → (k ≡ i → ⊥) → slice_index_or (slice_set locals k xs) i [] ≡ slice_index_or locals i []
other_read [] k i xs other = refl
other_read (l ∷ locals) zero zero xs other = absurd (other refl)
other_read (l ∷ locals) zero (suc i) xs other = refl
other_read (l ∷ locals) (suc k) zero xs other = refl
other_read (l ∷ locals) (suc k) (suc i) xs other = other_read locals k i xs (λ e. other (ap suc e))

not_same : (k i : ℕ) → not (k == i) ≡ true → k ≡ i → ⊥
not_same k i e same = let yes_same : (k == i) ≡ true = eq-eqb k i same in let no : ⊥ = cc in no

pub others_differ : (k i : ℕ) → not (k == i) ≡ true → k ≡ i → ⊥
others_differ = not_same

-- an address in another local, or a shared one
abbrev pub OtherAt : ℕ → Address → Type 0
OtherAt i (in_local k first) = k ≡ i → ⊥
OtherAt i (in_shared l first) = Unit {0}

pub other_base : (i : ℕ) (b : Base) (first : ℕ) → is_other i b ≡ true → OtherAt i (address_of b first)
other_base i (Shared l) first e = tt
other_base i (Local k) first e = not_same k i e

-- ---- pieces

asked_stays_in : (i : ℕ) (store : Store) (r : Reply) → Stays i store Any (asked_in r store)
asked_stays_in i store (Given (Fail x) s) = record { by = refl }
asked_stays_in i store (Given (Value xs) s) = record { by = (refl, tt) }
asked_stays_in i store (Given Done s) = record { by = (refl, tt) }
asked_stays_in i store (Given (Woken k by) s) = record { by = (refl, tt) }
asked_stays_in i store (Given (Got k n xs by) s) = record { by = (refl, tt) }
asked_stays_in i store (Given Otherwise s) = record { by = (refl, tt) }
asked_stays_in i store (Given (Instance q) s) = record { by = (refl, tt) }
asked_stays_in i store (Given (Chose c) s) = record { by = (refl, tt) }
asked_stays_in i store (Given (Handed q) s) = record { by = (refl, tt) }
asked_stays_in i store (Given Stored s) = record { by = (refl, tt) }
asked_stays_in i store (Halts t) = record { by = tt }

pub asked_stays : (i : ℕ) (request : Request) (counts : List ℕ) (store : Store) (s : Session) → Stays i store Any (asked request counts store s)
asked_stays i request counts store s = asked_stays_in i store (reply request counts s)

pub done_stays : (i : ℕ) (request : Request) (store : Store) (s : Session) → Stays i store Any (done request store s)
done_stays i request store s = stays_then (asked_stays i request [] store s) (λ a store1 s1 z. record { by = (refl, tt) })

pub asked_value_stays : (i : ℕ) (request : Request) (counts : List ℕ) (store : Store) (s : Session) → Stays i store Any (asked_value request counts store s)
asked_value_stays i request counts store s = stays_then (asked_stays i request counts store s) (λ a store1 s1 z. record { by = (refl, tt) })

pub computed_stays : (i : ℕ) (c : Computed) (store : Store) (s : Session) → Stays i store Any (as_computed c store s)
computed_stays i (Yields xs) store s = record { by = (refl, tt) }
computed_stays i (Throws x) store s = record { by = refl }

pub rangefail_stays : {A : Type 0} (i : ℕ) (o : Option A) (store : Store) (s : Session) → Stays i store Any (or_rangefail o store s)
rangefail_stays i (Some v) store s = record { by = (refl, tt) }
rangefail_stays i None store s = record { by = refl }

pub tested_stays : (i : ℕ) (b : Option Bounds) (xs : List ℤ) (store : Store) (s : Session) → Stays i store Any (tested b xs store s)
tested_stays i None xs store s = record { by = (refl, tt) }
tested_stays i (Some b) xs store s = by_test (is_between b.low b.high (sole_number xs))
  where
    by_test : (t : Bool) → Stays i store Any (if t then Goes xs store s else Raised Rangefail store s)
    by_test true = record { by = (refl, tt) }
    by_test false = record { by = refl }

pub read_stays : (i n : ℕ) (a : Address) (store : Store) (s : Session) → Stays i store Any (read_at n a store s)
read_stays i n (in_local k first) store s = record { by = (refl, tt) }
read_stays i n (in_shared l first) store s = asked_value_stays i _ [] store s

pub assign_stays : (i n : ℕ) (a : Address) (xs : List ℤ) (store : Store) (s : Session) → OtherAt i a → Stays i store Any (assign_at n a xs store s)
assign_stays i n (in_local k first) xs store s other = record { by = (other_read store.locals k i _ other, tt) }
assign_stays i n (in_shared l first) xs store s other = done_stays i _ store s

pub ticks_stay : {A : Type 0} (i : ℕ) (t : Ticked) (store : Store) (P : A → Type 0) (next : Session → Flow A) → ((s : Session) → Stays i store P (next s)) → Stays i store P (after_tick t store next)
ticks_stay i (GoesOn s) store P next f = f s
ticks_stay i (Last t) store P next f = record { by = tt }

pub finish_stays : (A : Type 0) (i : ℕ) (how : How) (inner : List OpenCall) (store : Store) (s : Session) (P : A → Type 0) → Stays i store P (finish {A = A} how inner store s)
finish_stays A i how inner store s P = by_reply (reply (End how) [] s)
  where
    by_reply : (r : Reply) → Stays i store P (finished {A = A} r inner store)
    by_reply (Given a s1) = record { by = tt }
    by_reply (Halts t) = record { by = tt }

-- ---- calls

-- calls leave the caller's store
abbrev pub CallsStay : ℕ → Setting → Type 0
CallsStay i v = (open_now : List ℕ) (b : ℕ) (ts : List Taken) (store : Store) (s : Session) → Stays i store Any (v.calls open_now b ts store s)

at_call_stays : (i b : ℕ) (o : Option BodyRowTree) (store : Store) (e : Ending) → Stays i store Any (at_call b o store e)
at_call_stays i b o store (Through inner s) = record { by = (refl, tt) }
at_call_stays i b o store (Out x inner s) =
    chosen_stays i store Any (names_exception (listed_by o) x) (Raised x store s) (finish (RaisedHow x) (record { body = b; store = inner } ∷ []) store s)
    (record { by = refl }) (finish_stays Store i (RaisedHow x) (record { body = b; store = inner } ∷ []) store s Any)
at_call_stays i b o store (Halted t calls inner) = record { by = tt }
at_call_stays i b o store (Ended t) = record { by = tt }
at_call_stays i b o store Unknown = record { by = tt }

pub calls_stay : (p : CheckedTree) (bodies : Bodies) (frames i : ℕ) (v : Setting) → v.calls ≡ calls_in p bodies frames → CallsStay i v
calls_stay p bodies frames i v is open_now b ts store s =
    subst (λ calls. Stays i store Any (calls open_now b ts store s)) (sym is)
    (chosen_stays i store Any (nat_lt frames most_frames) (after_tick (tick s) store (λ s1. at_call b (slice_get p.bodies b) store (bodies b (frames + 1) open_now ts s1))) (Raised Spacefail store s)
    (ticks_stay i (tick s) store Any (λ s1. at_call b (slice_get p.bodies b) store (bodies b (frames + 1) open_now ts s1)) (λ s1. at_call_stays i b (slice_get p.bodies b) store (bodies b (frames + 1) open_now ts s1)))
    (record { by = refl }))

-- the places that are copied out to lie elsewhere
abbrev pub OtherCopy : ℕ → Option CopyOut → Type 0
OtherCopy i None = Unit {0}
OtherCopy i (Some c) = OtherAt i c.address

abbrev pub OtherCopies : ℕ → List Passed → Type 0
OtherCopies i [] = Unit {0}
OtherCopies i (q ∷ qs) = OtherCopy i q.copy_out × OtherCopies i qs

copied_stays : (i : ℕ) (c : Option CopyOut) (xs : List ℤ) (store : Store) (s : Session) → OtherCopy i c → Stays i store Any (copied_out c xs store s)
copied_stays i None xs store s other = record { by = (refl, tt) }
copied_stays i (Some c) xs store s other = stays_then (tested_stays i c.bounds xs store s) (λ ys store1 s1 z. assign_stays i c.count c.address ys store1 s1 other)

copies_stay : (i : ℕ) (qs : List Passed) (values : List (List ℤ)) (store : Store) (s : Session) → OtherCopies i qs → Stays i store Any (all_copied_out qs values store s)
copies_stay i [] values store s others = record { by = (refl, tt) }
copies_stay i (q ∷ qs) [] store s others = record { by = (refl, tt) }
copies_stay i (q ∷ qs) (xs ∷ values) store s others = stays_then (copied_stays i q.copy_out xs store s others.0) (λ z store1 s1 y. copies_stay i qs values store1 s1 others.1)

-- the second operand, where it is evaluated
pub second_stays : (i : ℕ) (o : Binary) (xs : List ℤ) (second : Meaning (List ℤ)) (store : Store) (s : Session) → Stays i store Any (second store s) → Stays i store Any (binary_with o xs second store s)
second_stays i o xs second store s h =
    chosen_stays i store Any (takes_second o xs) (then_do (second store s) (λ ys. as_computed (binary_value o xs ys))) (Goes xs store s)
    (stays_then h (λ ys store1 s1 z. computed_stays i (binary_value o xs ys) store1 s1)) (record { by = (refl, tt) })

-- ---- expressions

mutual
  pub expr_stays : (i : ℕ) (v : Setting) (c : CallsStay i v) (e : ExprTree) (store : Store) (s : Session) → expr_leaves i e ≡ true → Stays i store Any (expr_mean v e store s)
  expr_stays i v c (expr n own o) store s leaves = operation_stays i v c n o store s leaves

  operation_stays : (i : ℕ) (v : Setting) (c : CallsStay i v) (n : ℕ) (o : OperationTree) (store : Store) (s : Session) → operation_leaves i o ≡ true → Stays i store Any (operation_mean v n o store s)
  operation_stays i v c n (constant xs) store s leaves = record { by = (refl, tt) }
  operation_stays i v c n own_instance store s leaves = record { by = (refl, tt) }
  operation_stays i v c n (contents l) store s leaves = stays_then (place_found i v c l store s leaves) (λ a store1 s1 z. read_stays i n a store1 s1)
  operation_stays i v c n (part_of e ps) store s leaves =
      stays_then (expr_stays i v c e store s (both_true _ _ leaves).0) (λ xs store1 s1 z.
      stays_then (offset_stays i v c ps 0 store1 s1 (both_true _ _ leaves).1) (λ k store2 s2 y. record { by = (refl, tt) }))
  operation_stays i v c n (receive b) store s leaves = asked_value_stays i _ (n ∷ []) store s
  operation_stays i v c n (start t) store s leaves = start_stays i v c t store s leaves
  operation_stays i v c n (call t) store s leaves = call_stays i v c t store s leaves
  operation_stays i v c n (powerset b rs) store s leaves = members_stay i v c b rs (empty_within b) store s leaves
  operation_stays i v c n (parts rs) store s leaves = all_stay i v c rs store s leaves
  operation_stays i v c n (uniform m r) store s leaves = stays_then (received_stays i v c r store s leaves) (λ xs store1 s1 z. record { by = (refl, tt) })
  operation_stays i v c n (routine r e) store s leaves = stays_then (expr_stays i v c e store s leaves) (λ xs store1 s1 z. computed_stays i (routine_value r xs) store1 s1)
  operation_stays i v c n get_int store s leaves = asked_value_stays i _ [] store s
  operation_stays i v c n (prefixed o e) store s leaves = stays_then (expr_stays i v c e store s leaves) (λ xs store1 s1 z. computed_stays i (prefix_value o xs) store1 s1)
  operation_stays i v c n (binary o a b) store s leaves =
      stays_then (expr_stays i v c a store s (both_true _ _ leaves).0) (λ xs store1 s1 z. second_stays i o xs (expr_mean v b) store1 s1 (expr_stays i v c b store1 s1 (both_true _ _ leaves).1))

  pub received_stays : (i : ℕ) (v : Setting) (c : CallsStay i v) (r : ReceivedTree) (store : Store) (s : Session) → received_leaves i r ≡ true → Stays i store Any (received_mean v r store s)
  received_stays i v c (received e b) store s leaves = stays_then (expr_stays i v c e store s leaves) (λ xs store1 s1 z. tested_stays i b xs store1 s1)

  pub all_stay : (i : ℕ) (v : Setting) (c : CallsStay i v) (rs : ReceivedNodes) (store : Store) (s : Session) → all_leave i rs ≡ true → Stays i store Any (all_received_mean v rs store s)
  all_stay i v c no_received store s leaves = record { by = (refl, tt) }
  all_stay i v c (more_received r rs) store s leaves =
      stays_then (received_stays i v c r store s (both_true _ _ leaves).0) (λ xs store1 s1 z.
      stays_then (all_stay i v c rs store1 s1 (both_true _ _ leaves).1) (λ ys store2 s2 y. record { by = (refl, tt) }))

  offset_stays : (i : ℕ) (v : Setting) (c : CallsStay i v) (ps : PartNodes) (k : ℕ) (store : Store) (s : Session) → parts_leave i ps ≡ true → Stays i store Any (offset_mean v ps k store s)
  offset_stays i v c no_parts k store s leaves = record { by = (refl, tt) }
  offset_stays i v c (field first count ps) k store s leaves = offset_stays i v c ps (k + first) store s leaves
  offset_stays i v c (element e b count ps) k store s leaves =
      stays_then (expr_stays i v c e store s (both_true _ _ leaves).0) (λ xs store1 s1 z.
      stays_then (rangefail_stays i (offset_within b count (sole_number xs)) store1 s1) (λ j store2 s2 y. offset_stays i v c ps (k + nat_abs j) store2 s2 (both_true _ _ leaves).1))

  -- a location is found
  place_found : (i : ℕ) (v : Setting) (c : CallsStay i v) (l : LocationTree) (store : Store) (s : Session) → place_leaves i l ≡ true → Stays i store Any (location_mean v l store s)
  place_found i v c (location b ps n) store s leaves = stays_then (offset_stays i v c ps 0 store s leaves) (λ k store1 s1 z. record { by = (refl, tt) })

  -- a target is found
  pub target_found : (i : ℕ) (v : Setting) (c : CallsStay i v) (l : LocationTree) (store : Store) (s : Session) → target_leaves i l ≡ true → Stays i store (OtherAt i) (location_mean v l store s)
  target_found i v c (location b ps n) store s leaves =
      stays_then (offset_stays i v c ps 0 store s (both_true _ _ leaves).1) (λ k store1 s1 z. record { by = (refl, other_base i b k (both_true _ _ leaves).0) })

  members_stay : (i : ℕ) (v : Setting) (c : CallsStay i v) (b : Bounds) (rs : RangeNodes) (set : List ℤ) (store : Store) (s : Session) → ranges_leave i rs ≡ true → Stays i store Any (members_mean v b rs set store s)
  members_stay i v c b no_ranges set store s leaves = record { by = (refl, tt) }
  members_stay i v c b (one_member e rs) set store s leaves =
      stays_then (expr_stays i v c e store s (both_true _ _ leaves).0) (λ xs store1 s1 z.
      stays_then (rangefail_stays i (offset_within b 1 (sole_number xs)) store1 s1) (λ k store2 s2 y. members_stay i v c b rs (with_span b k k set) store2 s2 (both_true _ _ leaves).1))
  members_stay i v c b (members e f rs) set store s leaves =
      stays_then (expr_stays i v c e store s (both_true _ _ leaves).0) (λ xs store1 s1 z.
      stays_then (rangefail_stays i (offset_within b 1 (sole_number xs)) store1 s1) (λ j store2 s2 y.
      stays_then (expr_stays i v c f store2 s2 (both_true _ _ (both_true _ _ leaves).1).0) (λ ys store3 s3 x.
      stays_then (rangefail_stays i (offset_within b 1 (sole_number ys)) store3 s3) (λ k store4 s4 u. members_stay i v c b rs (with_span b j k set) store4 s4 (both_true _ _ (both_true _ _ leaves).1).1))))

  pub start_stays : (i : ℕ) (v : Setting) (c : CallsStay i v) (t : StartTree) (store : Store) (s : Session) → start_leaves i t ≡ true → Stays i store Any (start_mean v t store s)
  start_stays i v c (started p rs) store s leaves = stays_then (all_stay i v c rs store s leaves) (λ xs store1 s1 z. asked_value_stays i _ [] store1 s1)

  pub call_stays : (i : ℕ) (v : Setting) (c : CallsStay i v) (t : CallTree) (store : Store) (s : Session) → call_leaves i t ≡ true → Stays i store Any (call_mean v t store s)
  call_stays i v c (called b as') store s leaves =
      stays_then (arguments_stay i v c as' store s leaves) (λ qs store1 s1 others.
      stays_then (c v.open_now b _ store1 s1) (λ final store2 s2 z.
      stays_then (copies_stay i qs final.locals store2 s2 others) (λ y store3 s3 x. record { by = (refl, tt) })))

  arguments_stay : (i : ℕ) (v : Setting) (c : CallsStay i v) (as' : ArgumentNodes) (store : Store) (s : Session) → arguments_leave i as' ≡ true → Stays i store (OtherCopies i) (arguments_mean v as' store s)
  arguments_stay i v c no_arguments store s leaves = record { by = (refl, tt) }
  arguments_stay i v c (in_argument r as') store s leaves =
      stays_then (received_stays i v c r store s (both_true _ _ leaves).0) (λ xs store1 s1 z.
      stays_then (arguments_stay i v c as' store1 s1 (both_true _ _ leaves).1) (λ qs store2 s2 others. record { by = (refl, (tt, others)) }))
  arguments_stay i v c (out_argument l b as') store s leaves =
      stays_then (copy_found i v c l b store s (both_true _ _ leaves).0) (λ place store1 s1 other.
      stays_then (arguments_stay i v c as' store1 s1 (both_true _ _ leaves).1) (λ qs store2 s2 others. record { by = (refl, (other, others)) }))
  arguments_stay i v c (inout_argument l t b as') store s leaves =
      stays_then (copy_found i v c l b store s (both_true _ _ leaves).0) (λ place store1 s1 other.
      stays_then (read_stays i place.count place.address store1 s1) (λ xs store2 s2 z.
      stays_then (tested_stays i t xs store2 s2) (λ ys store3 s3 y.
      stays_then (arguments_stay i v c as' store3 s3 (both_true _ _ leaves).1) (λ qs store4 s4 others. record { by = (refl, (other, others)) }))))

  copy_found : (i : ℕ) (v : Setting) (c : CallsStay i v) (l : LocationTree) (bounds : Option Bounds) (store : Store) (s : Session) → target_leaves i l ≡ true → Stays i store (λ (place : CopyOut). OtherAt i place.address) (place_mean v l bounds store s)
  copy_found i v c (location b ps n) bounds store s leaves =
      stays_then (offset_stays i v c ps 0 store s (both_true _ _ leaves).1) (λ k store1 s1 z. record { by = (refl, other_base i b k (both_true _ _ leaves).0) })
