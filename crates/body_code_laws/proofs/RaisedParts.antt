-- Which exceptions instructions raise: parts one behind the other, and expressions, which raise none.
use Rattle.std.proofs.Common.{◌≡◌, ◌<◌, ◌≤◌, arith, ◌+◌, ◌-◌, min, nat_lt, ℕ, zero, suc, Bool, true, false, List, [], ◌∷◌, ◌++◌, ℤ, pos, length, refl, Option, Some, None, slice_get}
use Rattle.std.specs.Prelude.{if◌then◌else◌, ◌&&◌}
use Rattle.modes.specs.declared.mode.Bounds.{Bounds}
use Rattle.checked_program.specs.declared.expr.Base.{Base}
use Rattle.checked_program.specs.declared.expr.Base.TheVariants.{Shared, Local}
use Rattle.checked_program.specs.declared.expr.Binary.{Binary}
use Rattle.checked_program.specs.declared.expr.Binary.TheVariants.{Member}
use Rattle.checked_program.specs.declared.expr.Prefix.{Prefix}
use Rattle.checked_program.specs.declared.expr.Prefix.TheVariants.{Minus, Not, Complement}
use Rattle.checked_program.specs.declared.expr.Routine.{Routine}
use Rattle.checked_program.specs.declared.expr.Routine.TheVariants.{Least, Greatest}
use Rattle.code_types.specs.declared.instr.Instr.{Instr}
use Rattle.code_types.specs.declared.instr.Instr.TheVariants as i
use Rattle.program_trees.specs.ExprTree.{ExprTree, expr, OperationTree, constant, own_instance, contents, part_of, receive, start, call, powerset, parts, uniform, routine, get_int, prefixed, binary, ReceivedTree, received, ReceivedNodes, no_received, more_received, PartNodes, no_parts, field, element, RangeNodes, no_ranges, one_member, members, LocationTree, location, StartTree, started, CallTree, called, ArgumentNodes, no_arguments, in_argument, out_argument, inout_argument, count_of, received_count}
use Rattle.program_trees.specs.ProgramTree.{LocalRowTree}
use Rattle.code_scheme.specs.Pieces.{Layout, pushes, copies_from, copies_code, run_code, are_same, scalars_from, scalars_code, check_code, tested, tested_in, tested_out, tested_back, bounds_of_value, member_code, offset_code, member_or_none, bounds_to_test, between_code, between_size, behind_code, prefix_code, routine_code, branch_code, has_index, first_of_parts, first_at, needs_offset, contents_code, store_code, where_offset, has_offset, again_code, keep_code, kept_code, under_code, copy_out_code, copies_out, offsets_kept, kept_behind, lowest_as, rows_of}
use Rattle.code_scheme.specs.ExprSizes.{expr_size, place_size, received_size, sum_size}
use Rattle.code_scheme.specs.ExprCode.{counts_of, receive_code, sum_code, cut_code, member_offset, expr_code, operation_code, place_code, indices_code, received_code, received_codes, members_code, start_code, call_code, arguments_code}
use Rattle.code_scheme.specs.BodyItems.{language_exceptions}

-- ---- one behind the other

-- the number of an exception that is raised is less than this one
abbrev pub IsRaisedBelow : ℕ → Instr → Type 0
IsRaisedBelow bound (i.Raise e) = e < bound
IsRaisedBelow bound instr = Unit {0}

-- so it is of each of these instructions
abbrev pub AllRaisedBelow : ℕ → List Instr → Type 0
AllRaisedBelow bound [] = Unit {0}
AllRaisedBelow bound (instr ∷ is) = IsRaisedBelow bound instr × AllRaisedBelow bound is

pub record RaisesBelow (bound : ℕ) (is : List Instr) : Type 0 where
  pub all : AllRaisedBelow bound is

-- exceptions of the language alone
abbrev pub RaisesOwn : List Instr → Type 0
RaisesOwn is = RaisesBelow language_exceptions is

all_joined : (bound : ℕ) (a b : List Instr) → AllRaisedBelow bound a → AllRaisedBelow bound b → AllRaisedBelow bound (a ++ b)
all_joined bound [] b first second = second
all_joined bound (instr ∷ a) b first second = (first.0, all_joined bound a b first.1 second)

pub none_raises : {bound : ℕ} → RaisesBelow bound []
none_raises = record { all = tt }

pub both_raises : {bound : ℕ} (a b : List Instr) → RaisesBelow bound a → RaisesBelow bound b → RaisesBelow bound (a ++ b)
both_raises {bound} a b first second = record { all = all_joined bound a b first.all second.all }

-- an instruction that raises an exception itself
abbrev pub is_raise : Instr → Bool
is_raise (i.Raise e) = true
is_raise instr = false

abbrev pub none_raise : List Instr → Bool
none_raise [] = true
none_raise (instr ∷ is) = if is_raise instr then false else none_raise is

not_raising : (bound : ℕ) (instr : Instr) → is_raise instr ≡ false → IsRaisedBelow bound instr
not_raising bound (i.Raise e) is = absurd (let f : ⊥ = cc in f)
not_raising bound instr is = tt

plain_either : (bound : ℕ) (instr : Instr) (is : List Instr) (b : Bool) → is_raise instr ≡ b → (if b then false else none_raise is) ≡ true → (none_raise is ≡ true → AllRaisedBelow bound is) → AllRaisedBelow bound (instr ∷ is)
plain_either bound instr is true raising still rest = absurd (let f : ⊥ = cc in f)
plain_either bound instr is false raising still rest = (not_raising bound instr raising, rest still)

plain_all : (bound : ℕ) (is : List Instr) → none_raise is ≡ true → AllRaisedBelow bound is
plain_all bound [] still = tt
plain_all bound (instr ∷ is) still = plain_either bound instr is (is_raise instr) refl still (λ others. plain_all bound is others)

pub plain_raises : {bound : ℕ} (is : List Instr) → none_raise is ≡ true → RaisesBelow bound is
plain_raises {bound} is still = record { all = plain_all bound is still }

pub one_raises : {bound : ℕ} (instr : Instr) (is : List Instr) → is_raise instr ≡ false → RaisesBelow bound is → RaisesBelow bound (instr ∷ is)
one_raises {bound} instr is still known = record { all = (not_raising bound instr still, known.all) }

pub this_raises : {bound : ℕ} (e : ℕ) → e < bound → RaisesBelow bound (i.Raise e ∷ [])
this_raises {bound} e below = record { all = (below, tt) }

pub if_raises : {bound : ℕ} (b : Bool) (x y : List Instr) → RaisesBelow bound x → RaisesBelow bound y → RaisesBelow bound (if b then x else y)
if_raises true x y first second = first
if_raises false x y first second = second

-- a greater number is one too
instr_wider : (few many : ℕ) (instr : Instr) → few ≤ many → IsRaisedBelow few instr → IsRaisedBelow many instr
instr_wider few many (i.Raise e) more below = let f : e < many = omega arith in f
instr_wider few many instr more below = tt

all_wider : (few many : ℕ) (is : List Instr) → few ≤ many → AllRaisedBelow few is → AllRaisedBelow many is
all_wider few many [] more known = tt
all_wider few many (instr ∷ is) more known = (instr_wider few many instr more known.0, all_wider few many is more known.1)

pub wider : {few many : ℕ} (is : List Instr) → few ≤ many → RaisesBelow few is → RaisesBelow many is
wider {few} {many} is more known = record { all = all_wider few many is more known.all }

-- ---- pieces

pub pushes_raises : (xs : List ℤ) → RaisesOwn (pushes xs)
pushes_raises [] = none_raises
pushes_raises (x ∷ xs) = one_raises (i.Push x) (pushes xs) refl (pushes_raises xs)

copies_raises : (k there elements n : ℕ) → RaisesOwn (copies_from k there elements n)
copies_raises zero there elements n = none_raises
copies_raises (suc k) there elements n = if_raises (nat_lt there elements) _ [] (one_raises _ _ refl (copies_raises k (there + min there (elements - there)) elements n)) none_raises

run_raises : (x : ℤ) (n : ℕ) → RaisesOwn (run_code x n)
run_raises x zero = none_raises
run_raises x (suc n) = one_raises (i.Push x) (copies_code (suc n) 1) refl (copies_raises 32 1 (suc n) 1)

scalars_from_raises : (x : ℤ) (n : ℕ) (ys : List ℤ) → RaisesOwn (scalars_from x n ys)
scalars_from_raises x n [] = run_raises x n
scalars_from_raises x n (y ∷ ys) = if_raises (nat_lt 0 n && are_same x y) _ _ (scalars_from_raises x (suc n) ys) (both_raises (run_code x n) (scalars_from y 1 ys) (run_raises x n) (scalars_from_raises y 1 ys))

pub scalars_raises : (xs : List ℤ) → RaisesOwn (scalars_code xs)
scalars_raises xs = scalars_from_raises (pos 0) 0 xs

pub check_raises : (o : Option Bounds) → RaisesOwn (check_code o)
check_raises None = none_raises
check_raises (Some b) = plain_raises (check_code (Some b)) refl

pub member_raises : (low : ℤ) → RaisesOwn (member_code low)
member_raises low = if_raises (are_same low (pos 0)) [] _ none_raises (plain_raises (i.Push low ∷ i.Add ∷ []) refl)

offset_raises : (low : ℤ) → RaisesOwn (offset_code low)
offset_raises low = if_raises (are_same low (pos 0)) [] _ none_raises (plain_raises (i.Push low ∷ i.Sub ∷ []) refl)

member_or_none_raises : (o : Option Bounds) (at : ℕ) → RaisesOwn (member_or_none o at)
member_or_none_raises None at = none_raises
member_or_none_raises (Some b) at = plain_raises (member_or_none (Some b) at) refl

pub between_raises : (o : Binary) (own : Option Bounds) (at second : ℕ) → RaisesOwn (between_code o own at second)
between_raises (Member b) own at second = both_raises (member_or_none (bounds_to_test (Some b) own) at) (offset_code b.low) (member_or_none_raises (bounds_to_test (Some b) own) at) (offset_raises b.low)
between_raises o own at second = plain_raises (between_code o own at second) refl

pub behind_raises : (o : Binary) (n : ℕ) → RaisesOwn (behind_code o n)
behind_raises (Member b) n = plain_raises (behind_code (Member b) n) refl
behind_raises o n = plain_raises (behind_code o n) refl

prefix_raises : (o : Prefix) → RaisesOwn (prefix_code o)
prefix_raises Minus = plain_raises (prefix_code Minus) refl
prefix_raises Not = plain_raises (prefix_code Not) refl
prefix_raises (Complement m) = plain_raises (prefix_code (Complement m)) refl

pub routine_raises : (r : Routine) → RaisesOwn (routine_code r)
routine_raises (Least low) = one_raises i.Least (member_code low) refl (member_raises low)
routine_raises (Greatest low) = one_raises i.Most (member_code low) refl (member_raises low)
routine_raises r = plain_raises (routine_code r) refl

pub branch_raises : (when : Bool) (target at : ℕ) → RaisesOwn (branch_code when target at)
branch_raises false target at = plain_raises (branch_code false target at) refl
branch_raises true target at = plain_raises (branch_code true target at) refl

pub contents_raises : (lay : Layout) (l : LocationTree) → RaisesOwn (contents_code lay l)
contents_raises lay (location (Shared k) ps n) = plain_raises (contents_code lay (location (Shared k) ps n)) refl
contents_raises lay (location (Local k) ps n) = if_raises (has_index ps) _ _ (plain_raises (i.LocalAt (first_at lay k ps) n ∷ []) refl) (plain_raises (i.Local (first_at lay k ps) n ∷ []) refl)

pub store_raises : (lay : Layout) (l : LocationTree) → RaisesOwn (store_code lay l)
store_raises lay (location (Shared k) ps n) = plain_raises (store_code lay (location (Shared k) ps n)) refl
store_raises lay (location (Local k) ps n) = if_raises (has_index ps) _ _ (plain_raises (i.SetLocalAt (first_at lay k ps) n ∷ []) refl) (plain_raises (i.SetLocal (first_at lay k ps) n ∷ []) refl)

offset_if : (l : LocationTree) (is : List Instr) → RaisesOwn is → RaisesOwn (where_offset l is)
offset_if l is known = if_raises (has_offset l) is [] known none_raises

pub again_raises : (l : LocationTree) → RaisesOwn (again_code l)
again_raises l = offset_if l (i.Copy 1 ∷ []) (plain_raises (i.Copy 1 ∷ []) refl)

pub keep_raises : (l : LocationTree) (kept : ℕ) → RaisesOwn (keep_code l kept)
keep_raises l kept = offset_if l (i.SetLocal kept 1 ∷ []) (plain_raises (i.SetLocal kept 1 ∷ []) refl)

pub kept_raises : (l : LocationTree) (kept : ℕ) → RaisesOwn (kept_code l kept)
kept_raises l kept = offset_if l (i.Local kept 1 ∷ []) (plain_raises (i.Local kept 1 ∷ []) refl)

copy_out_raises : (lay : Layout) (l : LocationTree) (o : Option Bounds) (kept free : ℕ) → RaisesOwn (copy_out_code lay l o kept free)
copy_out_raises lay (location b ps n) o kept free =
    both_raises (check_code o) _ (check_raises o) (both_raises (under_code (location b ps n) kept free) (store_code lay (location b ps n)) (offset_if (location b ps n) _ (plain_raises (i.SetLocal free n ∷ i.Local kept 1 ∷ i.Local free n ∷ []) refl)) (store_raises lay (location b ps n)))

copies_out_raises : (lay : Layout) (as' : ArgumentNodes) (kept free : ℕ) → RaisesOwn (copies_out lay as' kept free)
copies_out_raises lay no_arguments kept free = none_raises
copies_out_raises lay (in_argument r as') kept free = copies_out_raises lay as' kept free
copies_out_raises lay (out_argument l b as') kept free = both_raises _ _ (copy_out_raises lay l (tested_out b) kept free) (copies_out_raises lay as' (kept + offsets_kept l) free)
copies_out_raises lay (inout_argument l t b as') kept free = both_raises _ _ (copy_out_raises lay l (tested_back t b) kept free) (copies_out_raises lay as' (kept + offsets_kept l) free)

sum_raises : (is_first : Bool) → RaisesOwn (sum_code is_first)
sum_raises true = none_raises
sum_raises false = plain_raises (i.Add ∷ []) refl

cut_raises : (ps : PartNodes) (n of : ℕ) → RaisesOwn (cut_code ps n of)
cut_raises ps n of = if_raises (has_index ps) _ _ (both_raises (member_code (pos (first_of_parts ps))) (i.PartAt n of ∷ []) (member_raises (pos (first_of_parts ps))) (plain_raises (i.PartAt n of ∷ []) refl)) (plain_raises (i.Part (first_of_parts ps) n of ∷ []) refl)

-- ---- expressions

place_raises_if : (lay : Layout) (free : ℕ) (b : Base) (ps : PartNodes) (n at : ℕ) → RaisesOwn (indices_code lay free true ps at) → RaisesOwn (place_code lay free (location b ps n) at)
place_raises_if lay free b ps n at known = if_raises (has_index ps) _ _ known (if_raises (needs_offset b ps) _ [] (plain_raises (i.Push (pos 0) ∷ []) refl) none_raises)

mutual
  pub expr_raises : (lay : Layout) (free : ℕ) (e : ExprTree) (at : ℕ) → RaisesOwn (expr_code lay free e at)
  expr_raises lay free (expr n own o) at = operation_raises lay free n o at

  pub operation_raises : (lay : Layout) (free n : ℕ) (o : OperationTree) (at : ℕ) → RaisesOwn (operation_code lay free n o at)
  operation_raises lay free n (constant xs) at = scalars_raises xs
  operation_raises lay free n own_instance at = plain_raises (i.This ∷ []) refl
  operation_raises lay free n (contents l) at = both_raises _ _ (place_raises lay free l at) (contents_raises lay l)
  operation_raises lay free n (part_of e ps) at = both_raises _ _ (expr_raises lay free e at) (both_raises _ _ (indices_raises lay free true ps (at + expr_size e)) (cut_raises ps n (count_of e)))
  operation_raises lay free n (receive b) at = plain_raises (receive_code b n free) refl
  operation_raises lay free n (start t) at = start_raises lay free t at
  operation_raises lay free n (call c) at = call_raises lay free c at
  operation_raises lay free n (powerset b rs) at = one_raises (i.Push (pos 0)) _ refl (members_raises lay free b rs (at + 1))
  operation_raises lay free n (parts rs) at = all_raises lay free rs at
  operation_raises lay free n (uniform m r) at = both_raises _ _ (received_raises lay free r at) (copies_raises 32 1 m (received_count r))
  operation_raises lay free n (routine r e) at = both_raises _ _ (expr_raises lay free e at) (routine_raises r)
  operation_raises lay free n get_int at = plain_raises (i.GetInt ∷ []) refl
  operation_raises lay free n (prefixed o e) at = both_raises _ _ (expr_raises lay free e at) (prefix_raises o)
  operation_raises lay free n (binary o a b) at =
      both_raises _ _ (expr_raises lay free a at) (both_raises _ _ (between_raises o (bounds_of_value a) (at + expr_size a) (expr_size b)) (both_raises _ _ (expr_raises lay free b (at + expr_size a + between_size o (bounds_of_value a))) (behind_raises o (count_of a))))

  pub place_raises : (lay : Layout) (free : ℕ) (l : LocationTree) (at : ℕ) → RaisesOwn (place_code lay free l at)
  place_raises lay free (location b ps n) at = place_raises_if lay free b ps n at (indices_raises lay free true ps at)

  indices_raises : (lay : Layout) (free : ℕ) (is_first : Bool) (ps : PartNodes) (at : ℕ) → RaisesOwn (indices_code lay free is_first ps at)
  indices_raises lay free is_first no_parts at = none_raises
  indices_raises lay free is_first (field first count ps) at = indices_raises lay free is_first ps at
  indices_raises lay free is_first (element e b count ps) at =
      both_raises _ _ (expr_raises lay free e at) (one_raises (i.Index b.low b.high count) _ refl (both_raises _ _ (sum_raises is_first) (indices_raises lay free false ps (at + expr_size e + (1 + sum_size is_first)))))

  pub received_raises : (lay : Layout) (free : ℕ) (r : ReceivedTree) (at : ℕ) → RaisesOwn (received_code lay free r at)
  received_raises lay free (received e b) at = both_raises _ _ (expr_raises lay free e at) (check_raises (tested (received e b)))

  pub all_raises : (lay : Layout) (free : ℕ) (rs : ReceivedNodes) (at : ℕ) → RaisesOwn (received_codes lay free rs at)
  all_raises lay free no_received at = none_raises
  all_raises lay free (more_received r rs) at = both_raises _ _ (received_raises lay free r at) (all_raises lay free rs (at + received_size r))

  members_raises : (lay : Layout) (free : ℕ) (b : Bounds) (rs : RangeNodes) (at : ℕ) → RaisesOwn (members_code lay free b rs at)
  members_raises lay free b no_ranges at = none_raises
  members_raises lay free b (one_member e rs) at =
      both_raises _ _ (expr_raises lay free e at) (one_raises (member_offset b) _ refl (one_raises (i.Copy 1) _ refl (one_raises i.Span _ refl (one_raises i.BitOr _ refl (members_raises lay free b rs (at + expr_size e + 4))))))
  members_raises lay free b (members e f rs) at =
      both_raises _ _ (expr_raises lay free e at) (one_raises (member_offset b) _ refl (both_raises _ _ (expr_raises lay free f (at + expr_size e + 1)) (one_raises (member_offset b) _ refl (one_raises i.Span _ refl (one_raises i.BitOr _ refl (members_raises lay free b rs (at + expr_size e + 1 + expr_size f + 3)))))))

  pub start_raises : (lay : Layout) (free : ℕ) (t : StartTree) (at : ℕ) → RaisesOwn (start_code lay free t at)
  start_raises lay free (started p rs) at = both_raises _ _ (all_raises lay free rs at) (plain_raises (i.Start p (counts_of rs) ∷ []) refl)

  pub call_raises : (lay : Layout) (free : ℕ) (t : CallTree) (at : ℕ) → RaisesOwn (call_code lay free t at)
  call_raises lay free (called b as') at =
      both_raises _ _ (arguments_raises lay (rows_of (slice_get lay.program.bodies b)) 0 free as' at) (one_raises (i.Call b) _ refl (copies_out_raises lay as' free (kept_behind as' free)))

  arguments_raises : (lay : Layout) (rows : List LocalRowTree) (k kept : ℕ) (as' : ArgumentNodes) (at : ℕ) → RaisesOwn (arguments_code lay rows k kept as' at)
  arguments_raises lay rows k kept no_arguments at = none_raises
  arguments_raises lay rows k kept (in_argument r as') at = both_raises _ _ (received_raises lay kept r at) (arguments_raises lay rows (k + 1) kept as' (at + received_size r))
  arguments_raises lay rows k kept (out_argument (location b ps n) bounds as') at =
      both_raises _ _ (both_raises _ _ (place_raises_if lay kept b ps n at (indices_raises lay kept true ps at)) (both_raises _ _ (keep_raises (location b ps n) kept) (pushes_raises (lowest_as n (slice_get rows k)))))
      (arguments_raises lay rows (k + 1) (kept + offsets_kept (location b ps n)) as' (at + (place_size (location b ps n) + (offsets_kept (location b ps n) + n))))
  arguments_raises lay rows k kept (inout_argument l taken bounds as') at =
      both_raises _ _ (both_raises _ _ (place_raises lay kept l at) (both_raises _ _ (keep_raises l kept) (both_raises _ _ (kept_raises l kept) (both_raises _ _ (contents_raises lay l) (check_raises (tested_in taken bounds))))))
      (arguments_raises lay rows (k + 1) (kept + offsets_kept l) as' (at + (place_size l + (offsets_kept l + (offsets_kept l + (1 + length (check_code (tested_in taken bounds))))))))
