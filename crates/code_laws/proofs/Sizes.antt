-- The code of each expression has as many instructions as its size says.
use Rattle.std.proofs.Common.{◌≡◌, ℕ, zero, suc, ◌+◌, ◌-◌, ◌*◌, min, nat_lt, if◌then◌else◌, Bool, true, false, List, [], ◌∷◌, ◌++◌, ℤ, pos, length, Option, Some, None, slice_get, refl, sym, ap, ◌∙◌, arith, length-append}
use Rattle.modes.specs.declared.mode.Bounds.{Bounds}
use Rattle.checked_program.specs.declared.program.Parameter.{Parameter}
use Rattle.checked_program.specs.declared.expr.Base.TheVariants.{Shared, Local}
use Rattle.checked_program.specs.declared.expr.Binary.{Binary}
use Rattle.checked_program.specs.declared.expr.Binary.TheVariants.{AndIf, OrIf, Member}
use Rattle.checked_program.specs.declared.expr.Prefix.{Prefix}
use Rattle.checked_program.specs.declared.expr.Prefix.TheVariants.{Minus, Not, Complement}
use Rattle.program_trees.specs.ExprTree.{ExprTree, expr, OperationTree, constant, own_instance, contents, part_of, receive, start, call, powerset, parts, uniform, routine, get_int, prefixed, binary, ReceivedTree, received, ReceivedNodes, no_received, more_received, PartNodes, no_parts, field, element, RangeNodes, no_ranges, one_member, members, LocationTree, location, StartTree, started, CallTree, called, ArgumentNodes, no_arguments, in_argument, out_argument, inout_argument, count_of, received_count}
use Rattle.program_trees.specs.ProgramTree.{LocalRowTree, BodyRowTree}
use Rattle.code_types.specs.declared.instr.Instr.{Instr}
use Rattle.code_types.specs.declared.instr.Instr.TheVariants as i
use Rattle.code_scheme.specs.Pieces.{Layout, pushes, copies_from, copies_code, check_code, bounds_to_test, tested, tested_in, tested_out, tested_back, bounds_of_value, member_code, offset_code, member_or_none, between_code, between_size, behind_code, behind_size, prefix_code, routine_code, has_index, first_of_parts, needs_offset, has_offset, contents_code, store_code, where_offset, offsets_kept, keep_code, kept_code, under_code, copy_out_code, copies_out, kept_behind, lowest_in_row, lowest_as, rows_of}
use Rattle.code_scheme.proofs.Lemmas.{fitted_length}
use Rattle.code_scheme.specs.ExprSizes.{sum_size, copy_out_size, copies_out_size, expr_size, operation_size, place_size, indices_size, received_size, received_sizes, members_size, start_size, call_size, arguments_size}
use Rattle.code_scheme.specs.ExprCode.{counts_of, member_offset, sum_code, cut_code, expr_code, operation_code, place_code, indices_code, received_code, received_codes, members_code, start_code, call_code, arguments_code}
use Rattle.code_laws.specs.InRange.{FitsExpr, FitsOperation, FitsReceived, FitsAll, FitsParts, FitsRanges, FitsLocation, FitsStart, FitsCall, FitsArguments}

-- ---- what holds no expression

pub pushes_length : (xs : List ℤ) → length (pushes xs) ≡ length xs
pushes_length [] = refl
pushes_length (x ∷ xs) = ap suc (pushes_length xs)

by_test : (b : Bool) (xs ys : List Instr) (m n : ℕ) → length xs ≡ m → length ys ≡ n → length (if b then xs else ys) ≡ (if b then m else n)
by_test true xs ys m n e f = e
by_test false xs ys m n e f = f

same_by_test : (b : Bool) (xs ys : List Instr) → length xs ≡ length ys → length (if b then xs else []) ≡ length (if b then ys else [])
same_by_test true xs ys e = e
same_by_test false xs ys e = refl

pub copies_from_length : (k there elements m n : ℕ) → length (copies_from k there elements m) ≡ length (copies_from k there elements n)
copies_from_length zero there elements m n = refl
copies_from_length (suc k) there elements m n =
    same_by_test (nat_lt there elements) (i.Copy (min there (elements - there) * m) ∷ copies_from k (there + min there (elements - there)) elements m) (i.Copy (min there (elements - there) * n) ∷ copies_from k (there + min there (elements - there)) elements n)
    (ap suc (copies_from_length k (there + min there (elements - there)) elements m n))

none_length : (o : Option Bounds) (at : ℕ) → length (member_or_none o at) ≡ length (member_or_none o 0)
none_length None at = refl
none_length (Some b) at = refl

pub between_length : (o : Binary) (own : Option Bounds) (at second : ℕ) → length (between_code o own at second) ≡ between_size o own
between_length AndIf own at second = refl
between_length OrIf own at second = refl
between_length (Member b) own at second =
    let t : Option Bounds = bounds_to_test (Some b) own in
    omega (arith, length-append (member_or_none t at) (offset_code b.low), length-append (member_or_none t 0) (offset_code b.low), none_length t at)
between_length o own at second = refl

pub behind_length : (o : Binary) (n : ℕ) → length (behind_code o n) ≡ behind_size o
behind_length AndIf n = refl
behind_length o n = refl

prefix_length : (o : Prefix) → length (prefix_code o) ≡ 1
prefix_length Minus = refl
prefix_length Not = refl
prefix_length (Complement m) = refl

pub contents_length : (lay : Layout) (l : LocationTree) → length (contents_code lay l) ≡ 1
contents_length lay (location (Shared k) ps n) = refl
contents_length lay (location (Local k) ps n) = by_test_one (has_index ps) _ _ refl refl
  where
    by_test_one : (b : Bool) (xs ys : List Instr) → length xs ≡ 1 → length ys ≡ 1 → length (if b then xs else ys) ≡ 1
    by_test_one true xs ys e f = e
    by_test_one false xs ys e f = f

pub store_length : (lay : Layout) (l : LocationTree) → length (store_code lay l) ≡ 1
store_length lay (location (Shared k) ps n) = refl
store_length lay (location (Local k) ps n) = one_or_other (has_index ps) _ _ refl refl
  where
    one_or_other : (b : Bool) (xs ys : List Instr) → length xs ≡ 1 → length ys ≡ 1 → length (if b then xs else ys) ≡ 1
    one_or_other true xs ys e f = e
    one_or_other false xs ys e f = f

pub where_length : (l : LocationTree) (is : List Instr) (n : ℕ) → length is ≡ n → length (where_offset l is) ≡ (if has_offset l then n else 0)
where_length l is n e = by_test (has_offset l) is [] n 0 e refl

cut_length : (ps : PartNodes) (n of : ℕ) (is : List Instr) (k : ℕ) → (has_index ps ≡ false → is ≡ []) → length is ≡ k → length (is ++ cut_code ps n of) ≡ (if has_index ps then k + length (member_code (pos (first_of_parts ps))) else 0) + 1
cut_length ps n of is k none e = by_index (has_index ps) none
  where
    by_index : (b : Bool) → (b ≡ false → is ≡ []) → length (is ++ (if b then member_code (pos (first_of_parts ps)) ++ i.PartAt n of ∷ [] else i.Part (first_of_parts ps) n of ∷ [])) ≡ (if b then k + length (member_code (pos (first_of_parts ps))) else 0) + 1
    by_index true without = omega (arith, length-append is (member_code (pos (first_of_parts ps)) ++ i.PartAt n of ∷ []), length-append (member_code (pos (first_of_parts ps))) (i.PartAt n of ∷ []))
    by_index false without = omega (arith, length-append is (i.Part (first_of_parts ps) n of ∷ []), ap (λ (l : List Instr). length l) (without refl))

pub no_indices : (lay : Layout) (free : ℕ) (is_first : Bool) (ps : PartNodes) (at : ℕ) → has_index ps ≡ false → indices_code lay free is_first ps at ≡ []
no_indices lay free is_first no_parts at e = refl
no_indices lay free is_first (field first count ps) at e = no_indices lay free is_first ps at e
no_indices lay free is_first (element x b count ps) at e = absurd (let no : ⊥ = cc in no)

sum_length : (is_first : Bool) → length (sum_code is_first) ≡ sum_size is_first
sum_length true = refl
sum_length false = refl

pub copy_out_length : (lay : Layout) (l : LocationTree) (bounds : Option Bounds) (kept free : ℕ) → length (copy_out_code lay l bounds kept free) ≡ copy_out_size l bounds
copy_out_length lay l bounds kept free =
    omega (arith, length-append (check_code bounds) (under_code l kept free ++ store_code lay l), length-append (under_code l kept free) (store_code lay l), store_length lay l, where_length l (i.SetLocal free (location_count_of l) ∷ i.Local kept 1 ∷ i.Local free (location_count_of l) ∷ []) 3 refl)
  where
    location_count_of : LocationTree → ℕ
    location_count_of (location b ps n) = n

pub copies_out_length : (lay : Layout) (as' : ArgumentNodes) (kept free : ℕ) → length (copies_out lay as' kept free) ≡ copies_out_size as'
copies_out_length lay no_arguments kept free = refl
copies_out_length lay (in_argument r as') kept free = copies_out_length lay as' kept free
copies_out_length lay (out_argument l bounds as') kept free =
    let t : Option Bounds = tested_out bounds in
    omega (arith, length-append (copy_out_code lay l t kept free) (copies_out lay as' (kept + offsets_kept l) free), copy_out_length lay l t kept free, copies_out_length lay as' (kept + offsets_kept l) free)
copies_out_length lay (inout_argument l taken bounds as') kept free =
    let t : Option Bounds = tested_back taken bounds in
    omega (arith, length-append (copy_out_code lay l t kept free) (copies_out lay as' (kept + offsets_kept l) free), copy_out_length lay l t kept free, copies_out_length lay as' (kept + offsets_kept l) free)

-- some rows are those of a list from a number on
abbrev pub AreFrom : List LocalRowTree → ℕ → List LocalRowTree → Type 0
AreFrom all k rows = (j : ℕ) → slice_get all (k + j) ≡ slice_get rows j

pub first_from : (all rows others : List LocalRowTree) (k : ℕ) (row : LocalRowTree) → AreFrom all k rows → rows ≡ row ∷ others → slice_get all k ≡ Some row
first_from all rows others k row from is = ap (λ (j : ℕ). slice_get all j) (let e : k ≡ k + 0 = omega arith in e) ∙ (from 0 ∙ ap (λ (rs : List LocalRowTree). slice_get rs 0) is)

pub others_from : (all rows others : List LocalRowTree) (k : ℕ) (row : LocalRowTree) → AreFrom all k rows → rows ≡ row ∷ others → AreFrom all (k + 1) others
others_from all rows others k row from is j = ap (λ (j : ℕ). slice_get all j) (let e : k + 1 + j ≡ k + suc j = omega arith in e) ∙ (from (suc j) ∙ ap (λ (rs : List LocalRowTree). slice_get rs (suc j)) is)

pub all_from : (o : Option BodyRowTree) (body : BodyRowTree) → o ≡ Some body → AreFrom (rows_of o) 0 body.locals
all_from o body is j = ap (λ (q : Option BodyRowTree). slice_get (rows_of q) (0 + j)) is ∙ ap (λ (i : ℕ). slice_get body.locals i) (let e : 0 + j ≡ j = omega arith in e)

-- ---- expressions

pub place_by : (b c : Bool) (is : List Instr) (n : ℕ) → length is ≡ n → length (if b then is else if c then i.Push (pos 0) ∷ [] else []) ≡ (if b then n else if c then 1 else 0)
place_by true c is n e = e
place_by false true is n e = refl
place_by false false is n e = refl

kept_by : (b : Bool) (is : List Instr) → length is ≡ 1 → length (if b then is else []) ≡ (if b then 1 else 0)
kept_by true is e = e
kept_by false is e = refl

mutual
  pub expr_length : (lay : Layout) (free : ℕ) (e : ExprTree) (at : ℕ) → FitsExpr lay e → length (expr_code lay free e at) ≡ expr_size e
  expr_length lay free (expr n own o) at fits = operation_length lay free n o at fits

  pub operation_length : (lay : Layout) (free n : ℕ) (o : OperationTree) (at : ℕ) → FitsOperation lay n o → length (operation_code lay free n o at) ≡ operation_size o
  operation_length lay free n (constant xs) at fits = refl
  operation_length lay free n own_instance at fits = refl
  operation_length lay free n (contents l) at fits = omega (arith, length-append (place_code lay free l at) (contents_code lay l), place_length lay free l at fits.0, contents_length lay l)
  operation_length lay free n (part_of e ps) at fits =
      let is : List Instr = indices_code lay free true ps (at + expr_size e) in
      omega (arith, length-append (expr_code lay free e at) (is ++ cut_code ps n (count_of e)), expr_length lay free e at fits.0, cut_length ps n (count_of e) is (indices_size true ps) (λ e2. no_indices lay free true ps (at + expr_size e) e2) (indices_length lay free true ps (count_of e) n (at + expr_size e) fits.1))
  operation_length lay free n (receive b) at fits = refl
  operation_length lay free n (start t) at fits = start_length lay free t at fits.0
  operation_length lay free n (call c) at fits = call_length lay free c n at fits
  operation_length lay free n (powerset b rs) at fits = let rest = members_length lay free b rs (at + 1) fits.0 in omega arith
  operation_length lay free n (parts rs) at fits = all_length lay free rs at fits.0
  operation_length lay free n (uniform m r) at fits = omega (arith, length-append (received_code lay free r at) (copies_code m (received_count r)), received_length lay free r at fits.0, copies_from_length 32 1 m (received_count r) 0)
  operation_length lay free n (routine r e) at fits = omega (arith, length-append (expr_code lay free e at) (routine_code r), expr_length lay free e at fits.0)
  operation_length lay free n get_int at fits = refl
  operation_length lay free n (prefixed o e) at fits = omega (arith, length-append (expr_code lay free e at) (prefix_code o), expr_length lay free e at fits.0, prefix_length o)
  operation_length lay free n (binary o a b) at fits =
      let own : Option Bounds = bounds_of_value a in
      let p : ℕ = at + expr_size a + between_size o own in
      let between : List Instr = between_code o own (at + expr_size a) (expr_size b) in
      omega (arith, length-append (expr_code lay free a at) (between ++ (expr_code lay free b p ++ behind_code o (count_of a))), length-append between (expr_code lay free b p ++ behind_code o (count_of a)), length-append (expr_code lay free b p) (behind_code o (count_of a)), expr_length lay free a at fits.0, expr_length lay free b p fits.1, between_length o own (at + expr_size a) (expr_size b), behind_length o (count_of a))

  pub received_length : (lay : Layout) (free : ℕ) (r : ReceivedTree) (at : ℕ) → FitsReceived lay r → length (received_code lay free r at) ≡ received_size r
  received_length lay free (received e b) at fits = omega (arith, length-append (expr_code lay free e at) (check_code (tested (received e b))), expr_length lay free e at fits.0)

  pub all_length : (lay : Layout) (free : ℕ) (rs : ReceivedNodes) (at : ℕ) → FitsAll lay rs → length (received_codes lay free rs at) ≡ received_sizes rs
  all_length lay free no_received at fits = refl
  all_length lay free (more_received r rs) at fits = omega (arith, length-append (received_code lay free r at) (received_codes lay free rs (at + received_size r)), received_length lay free r at fits.0, all_length lay free rs (at + received_size r) fits.1)

  pub place_length : (lay : Layout) (free : ℕ) (l : LocationTree) (at : ℕ) → FitsLocation lay l → length (place_code lay free l at) ≡ place_size l
  place_length lay free (location b ps n) at fits = place_by (has_index ps) (needs_offset b ps) (indices_code lay free true ps at) (indices_size true ps) (indices_length lay free true ps fits.0 n at fits.3)

  pub indices_length : (lay : Layout) (free : ℕ) (is_first : Bool) (ps : PartNodes) (of n at : ℕ) → FitsParts lay of ps n → length (indices_code lay free is_first ps at) ≡ indices_size is_first ps
  indices_length lay free is_first no_parts of n at fits = refl
  indices_length lay free is_first (field first count ps) of n at fits = indices_length lay free is_first ps count n at fits.1
  indices_length lay free is_first (element e b count ps) of n at fits =
      let p : ℕ = at + expr_size e + (1 + sum_size is_first) in
      omega (arith, length-append (expr_code lay free e at) (i.Index b.low b.high count ∷ (sum_code is_first ++ indices_code lay free false ps p)), length-append (sum_code is_first) (indices_code lay free false ps p), sum_length is_first, expr_length lay free e at fits.0, indices_length lay free false ps count n p fits.3)

  pub members_length : (lay : Layout) (free : ℕ) (b : Bounds) (rs : RangeNodes) (at : ℕ) → FitsRanges lay b rs → length (members_code lay free b rs at) ≡ members_size rs
  members_length lay free b no_ranges at fits = refl
  members_length lay free b (one_member e rs) at fits =
      let rest : List Instr = members_code lay free b rs (at + expr_size e + 4) in
      omega (arith, length-append (expr_code lay free e at) (member_offset b ∷ i.Copy 1 ∷ i.Span ∷ i.BitOr ∷ rest), expr_length lay free e at fits.0, members_length lay free b rs (at + expr_size e + 4) fits.2)
  members_length lay free b (members e f rs) at fits =
      let rest : List Instr = members_code lay free b rs (at + expr_size e + 1 + expr_size f + 3) in
      let second : List Instr = expr_code lay free f (at + expr_size e + 1) in
      omega (arith, length-append (expr_code lay free e at) (member_offset b ∷ (second ++ (member_offset b ∷ i.Span ∷ i.BitOr ∷ rest))), length-append second (member_offset b ∷ i.Span ∷ i.BitOr ∷ rest), expr_length lay free e at fits.0, expr_length lay free f (at + expr_size e + 1) fits.2, members_length lay free b rs (at + expr_size e + 1 + expr_size f + 3) fits.4)

  pub start_length : (lay : Layout) (free : ℕ) (t : StartTree) (at : ℕ) → FitsStart lay t → length (start_code lay free t at) ≡ start_size t
  start_length lay free (started p rs) at fits = omega (arith, length-append (received_codes lay free rs at) (i.Start p (counts_of rs) ∷ []), all_length lay free rs at fits)

  pub call_length : (lay : Layout) (free : ℕ) (c : CallTree) (n at : ℕ) → FitsCall lay c n → length (call_code lay free c at) ≡ call_size c
  call_length lay free (called b as') n at fits =
      let all : List LocalRowTree = rows_of (slice_get lay.program.bodies b) in
      let first : List Instr = arguments_code lay all 0 free as' at in
      let rest : List Instr = copies_out lay as' free (kept_behind as' free) in
      omega (arith, length-append first (i.Call b ∷ rest), copies_out_length lay as' free (kept_behind as' free), arguments_length lay as' all fits.0.locals 0 free fits.0.parameters at (all_from (slice_get lay.program.bodies b) fits.0 fits.1) fits.4)

  pub arguments_length : (lay : Layout) (as' : ArgumentNodes) (all rows : List LocalRowTree) (k kept : ℕ) (ps : List Parameter) (at : ℕ) → AreFrom all k rows → FitsArguments lay as' ps rows → length (arguments_code lay all k kept as' at) ≡ arguments_size as'
  arguments_length lay no_arguments all rows k kept ps at from fits = refl
  arguments_length lay (in_argument r as') all rows k kept ps at from fits =
      omega (arith, length-append (received_code lay kept r at) (arguments_code lay all (k + 1) kept as' (at + received_size r)), received_length lay kept r at fits.5, arguments_length lay as' all fits.2 (k + 1) kept fits.1 (at + received_size r) (others_from all rows fits.2 k fits.0 from fits.4) fits.7)
  arguments_length lay (out_argument (location b qs n) bounds as') all rows k kept ps at from fits =
      let l : LocationTree = location b qs n in
      let row : LocalRowTree = fits.0 in
      let p : ℕ = at + (place_size l + (offsets_kept l + n)) in
      let rest : List Instr = arguments_code lay all (k + 1) (kept + offsets_kept l) as' p in
      let values : List Instr = pushes (lowest_as n (slice_get all k)) in
      let long : length values ≡ n = pushes_length (lowest_as n (slice_get all k)) ∙ fitted_length n (lowest_in_row (slice_get all k)) in
      omega (arith, length-append (place_code lay kept l at ++ (keep_code l kept ++ values)) rest, length-append (place_code lay kept l at) (keep_code l kept ++ values), length-append (keep_code l kept) values, long, place_by (has_index qs) (needs_offset b qs) (indices_code lay kept true qs at) (indices_size true qs) (indices_length lay kept true qs fits.5.0.0 n at fits.5.0.3), kept_by (has_offset l) (i.SetLocal kept 1 ∷ []) refl, arguments_length lay as' all fits.2 (k + 1) (kept + offsets_kept l) fits.1 p (others_from all rows fits.2 k row from fits.4) fits.7)
  arguments_length lay (inout_argument l taken bounds as') all rows k kept ps at from fits =
      let row : LocalRowTree = fits.0 in
      let check : List Instr = check_code (tested_in taken bounds) in
      let p : ℕ = at + (place_size l + (offsets_kept l + (offsets_kept l + (1 + length check)))) in
      let rest : List Instr = arguments_code lay all (k + 1) (kept + offsets_kept l) as' p in
      omega (arith, length-append (place_code lay kept l at ++ (keep_code l kept ++ (kept_code l kept ++ (contents_code lay l ++ check)))) rest, length-append (place_code lay kept l at) (keep_code l kept ++ (kept_code l kept ++ (contents_code lay l ++ check))), length-append (keep_code l kept) (kept_code l kept ++ (contents_code lay l ++ check)), length-append (kept_code l kept) (contents_code lay l ++ check), length-append (contents_code lay l) check, contents_length lay l, place_length lay kept l at fits.5.0, kept_by (has_offset l) (i.SetLocal kept 1 ∷ []) refl, kept_by (has_offset l) (i.Local kept 1 ∷ []) refl, arguments_length lay as' all fits.2 (k + 1) (kept + offsets_kept l) fits.1 p (others_from all rows fits.2 k row from fits.4) fits.7)
