-- What a wait is for is pushed by Thing: instructions that don't wait, and parts one behind the other.
use Rattle.std.proofs.Common.{◌≡◌, ◌+◌, ◌-◌, min, nat_lt, ℕ, zero, suc, Bool, true, false, List, [], ◌∷◌, ◌++◌, ℤ, pos, length, refl, Option, Some, None, slice_get}
use Rattle.std.specs.Prelude.{if◌then◌else◌, ◌&&◌}
use Rattle.modes.specs.declared.mode.Bounds.{Bounds}
use Rattle.checked_program.specs.declared.expr.Base.{Base}
use Rattle.checked_program.specs.declared.expr.Base.TheVariants.{Shared, Local}
use Rattle.checked_program.specs.declared.expr.Binary.{Binary}
use Rattle.checked_program.specs.declared.expr.Binary.TheVariants.{Member}
use Rattle.checked_program.specs.declared.expr.Prefix.{Prefix}
use Rattle.checked_program.specs.declared.expr.Prefix.TheVariants.{Minus, Not, Complement}
use Rattle.checked_program.specs.declared.expr.Routine.{Routine}
use Rattle.checked_program.specs.declared.expr.Routine.TheVariants.{Least, Greatest}
use Rattle.code_types.specs.declared.instr.Instr.{Instr}
use Rattle.code_types.specs.declared.instr.Instr.TheVariants as i
use Rattle.program_trees.specs.ExprTree.{ExprTree, expr, OperationTree, constant, own_instance, contents, part_of, receive, start, call, powerset, parts, uniform, routine, get_int, prefixed, binary, ReceivedTree, received, ReceivedNodes, no_received, more_received, PartNodes, no_parts, field, element, RangeNodes, no_ranges, one_member, members, LocationTree, location, StartTree, started, CallTree, called, ArgumentNodes, no_arguments, in_argument, out_argument, inout_argument, count_of, received_count}
use Rattle.program_trees.specs.ProgramTree.{LocalRowTree}
use Rattle.code_scheme.specs.Pieces.{Layout, pushes, copies_from, copies_code, run_code, are_same, scalars_from, scalars_code, check_code, tested, tested_in, tested_out, tested_back, bounds_of_value, member_code, offset_code, member_or_none, bounds_to_test, between_code, between_size, behind_code, prefix_code, routine_code, branch_code, has_index, first_of_parts, first_at, needs_offset, contents_code, store_code, where_offset, has_offset, again_code, keep_code, kept_code, under_code, copy_out_code, copies_out, offsets_kept, kept_behind, lowest_as, rows_of}
use Rattle.code_scheme.specs.ExprSizes.{expr_size, place_size, received_size, sum_size}
use Rattle.code_scheme.specs.ExprCode.{counts_of, sum_code, cut_code, member_offset, expr_code, operation_code, place_code, indices_code, received_code, received_codes, members_code, start_code, call_code, arguments_code}
use Rattle.scheme_heights.specs.Things.{ArePairs, AreTriples, IsGiven, AreGiven}

-- ---- one behind the other

pairs_more : (n : ℕ) (before older : List Instr) → ArePairs n before → ArePairs n (before ++ older)
pairs_more zero before older known = tt
pairs_more (suc n) [] older known = absurd known
pairs_more (suc n) (x ∷ []) older known = absurd known
pairs_more (suc n) (x ∷ y ∷ before) older known = (known.0, known.1, pairs_more n before older known.2)

triples_more : (n : ℕ) (before older : List Instr) → AreTriples n before → AreTriples n (before ++ older)
triples_more zero before older known = tt
triples_more (suc n) [] older known = absurd known
triples_more (suc n) (x ∷ []) older known = absurd known
triples_more (suc n) (x ∷ y ∷ []) older known = absurd known
triples_more (suc n) (x ∷ y ∷ z ∷ before) older known = (known.0, known.1, known.2, triples_more n before older known.3)

given_instr : (before older : List Instr) (instr : Instr) → IsGiven before instr → IsGiven (before ++ older) instr
given_instr before older (i.Delay n priority) known = pairs_more n before older known
given_instr before older (i.Take n otherwise) known = triples_more n before older known
given_instr before older (i.Hear n otherwise) known = triples_more n before older known
given_instr before older instr known = tt

pub given_more : (before older is : List Instr) → AreGiven before is → AreGiven (before ++ older) is
given_more before older [] known = tt
given_more before older (instr ∷ is) known = (given_instr before older instr known.0, given_more (instr ∷ before) older is known.1)

pub given_join : (before a b : List Instr) → AreGiven before a → AreGiven [] b → AreGiven before (a ++ b)
given_join before [] b first second = given_more [] before b second
given_join before (instr ∷ a) b first second = (first.0, given_join (instr ∷ before) a b first.1 second)

-- instructions that give what they wait for
pub record Given (is : List Instr) : Type 0 where
  pub all : AreGiven [] is

pub none_given : Given []
none_given = record { all = tt }

pub both_given : (a b : List Instr) → Given a → Given b → Given (a ++ b)
both_given a b first second = record { all = given_join [] a b first.all second.all }

-- an instruction that doesn't wait
abbrev pub waits : Instr → Bool
waits (i.Delay n priority) = true
waits (i.Take n otherwise) = true
waits (i.Hear n otherwise) = true
waits instr = false

abbrev pub none_wait : List Instr → Bool
none_wait [] = true
none_wait (instr ∷ is) = if waits instr then false else none_wait is

not_waiting : (before : List Instr) (instr : Instr) → waits instr ≡ false → IsGiven before instr
not_waiting before (i.Delay n priority) is = absurd (let f : ⊥ = cc in f)
not_waiting before (i.Take n otherwise) is = absurd (let f : ⊥ = cc in f)
not_waiting before (i.Hear n otherwise) is = absurd (let f : ⊥ = cc in f)
not_waiting before instr is = tt

plain_either : (before : List Instr) (instr : Instr) (is : List Instr) (b : Bool) → waits instr ≡ b → (if b then false else none_wait is) ≡ true → (none_wait is ≡ true → AreGiven (instr ∷ before) is) → AreGiven before (instr ∷ is)
plain_either before instr is true waiting still rest = absurd (let f : ⊥ = cc in f)
plain_either before instr is false waiting still rest = (not_waiting before instr waiting, rest still)

plain_behind : (before is : List Instr) → none_wait is ≡ true → AreGiven before is
plain_behind before [] still = tt
plain_behind before (instr ∷ is) still = plain_either before instr is (waits instr) refl still (λ others. plain_behind (instr ∷ before) is others)

pub plain_given : (is : List Instr) → none_wait is ≡ true → Given is
plain_given is still = record { all = plain_behind [] is still }

pub one_given : (instr : Instr) (is : List Instr) → waits instr ≡ false → Given is → Given (instr ∷ is)
one_given instr is still known = both_given (instr ∷ []) is (record { all = (not_waiting [] instr still, tt) }) known

pub if_given : (b : Bool) (x y : List Instr) → Given x → Given y → Given (if b then x else y)
if_given true x y first second = first
if_given false x y first second = second

-- ---- pieces

pub pushes_given : (xs : List ℤ) → Given (pushes xs)
pushes_given [] = none_given
pushes_given (x ∷ xs) = one_given (i.Push x) (pushes xs) refl (pushes_given xs)

copies_given : (k there elements n : ℕ) → Given (copies_from k there elements n)
copies_given zero there elements n = none_given
copies_given (suc k) there elements n = if_given (nat_lt there elements) _ [] (one_given _ _ refl (copies_given k (there + min there (elements - there)) elements n)) none_given

run_given : (x : ℤ) (n : ℕ) → Given (run_code x n)
run_given x zero = none_given
run_given x (suc n) = one_given (i.Push x) (copies_code (suc n) 1) refl (copies_given 32 1 (suc n) 1)

scalars_from_given : (x : ℤ) (n : ℕ) (ys : List ℤ) → Given (scalars_from x n ys)
scalars_from_given x n [] = run_given x n
scalars_from_given x n (y ∷ ys) = if_given (nat_lt 0 n && are_same x y) _ _ (scalars_from_given x (suc n) ys) (both_given (run_code x n) (scalars_from y 1 ys) (run_given x n) (scalars_from_given y 1 ys))

pub scalars_given : (xs : List ℤ) → Given (scalars_code xs)
scalars_given xs = scalars_from_given (pos 0) 0 xs

pub check_given : (o : Option Bounds) → Given (check_code o)
check_given None = none_given
check_given (Some b) = plain_given (check_code (Some b)) refl

pub member_given : (low : ℤ) → Given (member_code low)
member_given low = if_given (are_same low (pos 0)) [] _ none_given (plain_given (i.Push low ∷ i.Add ∷ []) refl)

offset_given : (low : ℤ) → Given (offset_code low)
offset_given low = if_given (are_same low (pos 0)) [] _ none_given (plain_given (i.Push low ∷ i.Sub ∷ []) refl)

member_or_none_given : (o : Option Bounds) (at : ℕ) → Given (member_or_none o at)
member_or_none_given None at = none_given
member_or_none_given (Some b) at = plain_given (member_or_none (Some b) at) refl

pub between_given : (o : Binary) (own : Option Bounds) (at second : ℕ) → Given (between_code o own at second)
between_given (Member b) own at second = both_given (member_or_none (bounds_to_test (Some b) own) at) (offset_code b.low) (member_or_none_given (bounds_to_test (Some b) own) at) (offset_given b.low)
between_given o own at second = plain_given (between_code o own at second) refl

pub behind_given : (o : Binary) (n : ℕ) → Given (behind_code o n)
behind_given (Member b) n = plain_given (behind_code (Member b) n) refl
behind_given o n = plain_given (behind_code o n) refl

prefix_given : (o : Prefix) → Given (prefix_code o)
prefix_given Minus = plain_given (prefix_code Minus) refl
prefix_given Not = plain_given (prefix_code Not) refl
prefix_given (Complement m) = plain_given (prefix_code (Complement m)) refl

pub routine_given : (r : Routine) → Given (routine_code r)
routine_given (Least low) = one_given i.Least (member_code low) refl (member_given low)
routine_given (Greatest low) = one_given i.Most (member_code low) refl (member_given low)
routine_given r = plain_given (routine_code r) refl

pub branch_given : (when : Bool) (target at : ℕ) → Given (branch_code when target at)
branch_given false target at = plain_given (branch_code false target at) refl
branch_given true target at = plain_given (branch_code true target at) refl

pub contents_given : (lay : Layout) (l : LocationTree) → Given (contents_code lay l)
contents_given lay (location (Shared k) ps n) = plain_given (contents_code lay (location (Shared k) ps n)) refl
contents_given lay (location (Local k) ps n) = if_given (has_index ps) _ _ (plain_given (i.LocalAt (first_at lay k ps) n ∷ []) refl) (plain_given (i.Local (first_at lay k ps) n ∷ []) refl)

pub store_given : (lay : Layout) (l : LocationTree) → Given (store_code lay l)
store_given lay (location (Shared k) ps n) = plain_given (store_code lay (location (Shared k) ps n)) refl
store_given lay (location (Local k) ps n) = if_given (has_index ps) _ _ (plain_given (i.SetLocalAt (first_at lay k ps) n ∷ []) refl) (plain_given (i.SetLocal (first_at lay k ps) n ∷ []) refl)

offset_if : (l : LocationTree) (is : List Instr) → Given is → Given (where_offset l is)
offset_if l is known = if_given (has_offset l) is [] known none_given

pub again_given : (l : LocationTree) → Given (again_code l)
again_given l = offset_if l (i.Copy 1 ∷ []) (plain_given (i.Copy 1 ∷ []) refl)

pub keep_given : (l : LocationTree) (kept : ℕ) → Given (keep_code l kept)
keep_given l kept = offset_if l (i.SetLocal kept 1 ∷ []) (plain_given (i.SetLocal kept 1 ∷ []) refl)

pub kept_given : (l : LocationTree) (kept : ℕ) → Given (kept_code l kept)
kept_given l kept = offset_if l (i.Local kept 1 ∷ []) (plain_given (i.Local kept 1 ∷ []) refl)

copy_out_given : (lay : Layout) (l : LocationTree) (o : Option Bounds) (kept free : ℕ) → Given (copy_out_code lay l o kept free)
copy_out_given lay (location b ps n) o kept free =
    both_given (check_code o) _ (check_given o) (both_given (under_code (location b ps n) kept free) (store_code lay (location b ps n)) (offset_if (location b ps n) _ (plain_given (i.SetLocal free n ∷ i.Local kept 1 ∷ i.Local free n ∷ []) refl)) (store_given lay (location b ps n)))

copies_out_given : (lay : Layout) (as' : ArgumentNodes) (kept free : ℕ) → Given (copies_out lay as' kept free)
copies_out_given lay no_arguments kept free = none_given
copies_out_given lay (in_argument r as') kept free = copies_out_given lay as' kept free
copies_out_given lay (out_argument l b as') kept free = both_given _ _ (copy_out_given lay l (tested_out b) kept free) (copies_out_given lay as' (kept + offsets_kept l) free)
copies_out_given lay (inout_argument l t b as') kept free = both_given _ _ (copy_out_given lay l (tested_back t b) kept free) (copies_out_given lay as' (kept + offsets_kept l) free)

sum_given : (is_first : Bool) → Given (sum_code is_first)
sum_given true = none_given
sum_given false = plain_given (i.Add ∷ []) refl

cut_given : (ps : PartNodes) (n of : ℕ) → Given (cut_code ps n of)
cut_given ps n of = if_given (has_index ps) _ _ (both_given (member_code (pos (first_of_parts ps))) (i.PartAt n of ∷ []) (member_given (pos (first_of_parts ps))) (plain_given (i.PartAt n of ∷ []) refl)) (plain_given (i.Part (first_of_parts ps) n of ∷ []) refl)

-- ---- expressions

place_given_if : (lay : Layout) (free : ℕ) (b : Base) (ps : PartNodes) (n at : ℕ) → Given (indices_code lay free true ps at) → Given (place_code lay free (location b ps n) at)
place_given_if lay free b ps n at known = if_given (has_index ps) _ _ known (if_given (needs_offset b ps) _ [] (plain_given (i.Push (pos 0) ∷ []) refl) none_given)

mutual
  pub expr_given : (lay : Layout) (free : ℕ) (e : ExprTree) (at : ℕ) → Given (expr_code lay free e at)
  expr_given lay free (expr n own o) at = operation_given lay free n o at

  pub operation_given : (lay : Layout) (free n : ℕ) (o : OperationTree) (at : ℕ) → Given (operation_code lay free n o at)
  operation_given lay free n (constant xs) at = scalars_given xs
  operation_given lay free n own_instance at = plain_given (i.This ∷ []) refl
  operation_given lay free n (contents l) at = both_given _ _ (place_given lay free l at) (contents_given lay l)
  operation_given lay free n (part_of e ps) at = both_given _ _ (expr_given lay free e at) (both_given _ _ (indices_given lay free true ps (at + expr_size e)) (cut_given ps n (count_of e)))
  operation_given lay free n (receive b) at = record { all = (tt, (tt, (tt, ((refl, refl, refl, tt), (tt, (tt, tt)))))) }
  operation_given lay free n (start t) at = start_given lay free t at
  operation_given lay free n (call c) at = call_given lay free c at
  operation_given lay free n (powerset b rs) at = one_given (i.Push (pos 0)) _ refl (members_given lay free b rs (at + 1))
  operation_given lay free n (parts rs) at = all_given lay free rs at
  operation_given lay free n (uniform m r) at = both_given _ _ (received_given lay free r at) (copies_given 32 1 m (received_count r))
  operation_given lay free n (routine r e) at = both_given _ _ (expr_given lay free e at) (routine_given r)
  operation_given lay free n get_int at = plain_given (i.GetInt ∷ []) refl
  operation_given lay free n (prefixed o e) at = both_given _ _ (expr_given lay free e at) (prefix_given o)
  operation_given lay free n (binary o a b) at =
      both_given _ _ (expr_given lay free a at) (both_given _ _ (between_given o (bounds_of_value a) (at + expr_size a) (expr_size b)) (both_given _ _ (expr_given lay free b (at + expr_size a + between_size o (bounds_of_value a))) (behind_given o (count_of a))))

  pub place_given : (lay : Layout) (free : ℕ) (l : LocationTree) (at : ℕ) → Given (place_code lay free l at)
  place_given lay free (location b ps n) at = place_given_if lay free b ps n at (indices_given lay free true ps at)

  indices_given : (lay : Layout) (free : ℕ) (is_first : Bool) (ps : PartNodes) (at : ℕ) → Given (indices_code lay free is_first ps at)
  indices_given lay free is_first no_parts at = none_given
  indices_given lay free is_first (field first count ps) at = indices_given lay free is_first ps at
  indices_given lay free is_first (element e b count ps) at =
      both_given _ _ (expr_given lay free e at) (one_given (i.Index b.low b.high count) _ refl (both_given _ _ (sum_given is_first) (indices_given lay free false ps (at + expr_size e + (1 + sum_size is_first)))))

  pub received_given : (lay : Layout) (free : ℕ) (r : ReceivedTree) (at : ℕ) → Given (received_code lay free r at)
  received_given lay free (received e b) at = both_given _ _ (expr_given lay free e at) (check_given (tested (received e b)))

  pub all_given : (lay : Layout) (free : ℕ) (rs : ReceivedNodes) (at : ℕ) → Given (received_codes lay free rs at)
  all_given lay free no_received at = none_given
  all_given lay free (more_received r rs) at = both_given _ _ (received_given lay free r at) (all_given lay free rs (at + received_size r))

  members_given : (lay : Layout) (free : ℕ) (b : Bounds) (rs : RangeNodes) (at : ℕ) → Given (members_code lay free b rs at)
  members_given lay free b no_ranges at = none_given
  members_given lay free b (one_member e rs) at =
      both_given _ _ (expr_given lay free e at) (one_given (member_offset b) _ refl (one_given (i.Copy 1) _ refl (one_given i.Span _ refl (one_given i.BitOr _ refl (members_given lay free b rs (at + expr_size e + 4))))))
  members_given lay free b (members e f rs) at =
      both_given _ _ (expr_given lay free e at) (one_given (member_offset b) _ refl (both_given _ _ (expr_given lay free f (at + expr_size e + 1)) (one_given (member_offset b) _ refl (one_given i.Span _ refl (one_given i.BitOr _ refl (members_given lay free b rs (at + expr_size e + 1 + expr_size f + 3)))))))

  pub start_given : (lay : Layout) (free : ℕ) (t : StartTree) (at : ℕ) → Given (start_code lay free t at)
  start_given lay free (started p rs) at = both_given _ _ (all_given lay free rs at) (plain_given (i.Start p (counts_of rs) ∷ []) refl)

  pub call_given : (lay : Layout) (free : ℕ) (t : CallTree) (at : ℕ) → Given (call_code lay free t at)
  call_given lay free (called b as') at =
      both_given _ _ (arguments_given lay (rows_of (slice_get lay.program.bodies b)) 0 free as' at) (one_given (i.Call b) _ refl (copies_out_given lay as' free (kept_behind as' free)))

  arguments_given : (lay : Layout) (rows : List LocalRowTree) (k kept : ℕ) (as' : ArgumentNodes) (at : ℕ) → Given (arguments_code lay rows k kept as' at)
  arguments_given lay rows k kept no_arguments at = none_given
  arguments_given lay rows k kept (in_argument r as') at = both_given _ _ (received_given lay kept r at) (arguments_given lay rows (k + 1) kept as' (at + received_size r))
  arguments_given lay rows k kept (out_argument (location b ps n) bounds as') at =
      both_given _ _ (both_given _ _ (place_given_if lay kept b ps n at (indices_given lay kept true ps at)) (both_given _ _ (keep_given (location b ps n) kept) (pushes_given (lowest_as n (slice_get rows k)))))
      (arguments_given lay rows (k + 1) (kept + offsets_kept (location b ps n)) as' (at + (place_size (location b ps n) + (offsets_kept (location b ps n) + n))))
  arguments_given lay rows k kept (inout_argument l taken bounds as') at =
      both_given _ _ (both_given _ _ (place_given lay kept l at) (both_given _ _ (keep_given l kept) (both_given _ _ (kept_given l kept) (both_given _ _ (contents_given lay l) (check_given (tested_in taken bounds))))))
      (arguments_given lay rows (k + 1) (kept + offsets_kept l) as' (at + (place_size l + (offsets_kept l + (offsets_kept l + (1 + length (check_code (tested_in taken bounds))))))))
