-- What each function appends to a draft: the scheme's code of a part, from the present place on.
use Rattle.std.specs.Prelude.{◌≡◌, ℕ, ◌+◌, Bool, true, List, [], ◌∷◌, ℤ, pos, Option, length, map, slice_get, if◌then◌else◌}
use Rattle.code_types.specs.declared.instr.Instr.{Instr}
use Rattle.code_types.specs.declared.instr.Instr.TheVariants as i
use Rattle.modes.specs.declared.mode.Bounds.{Bounds}
use Rattle.checked_program.specs.declared.expr.Argument.{Argument}
use Rattle.checked_program.specs.declared.expr.Base.TheVariants.{Local}
use Rattle.checked_program.specs.declared.expr.Binary.{Binary}
use Rattle.checked_program.specs.declared.expr.Binary.TheVariants.{Member}
use Rattle.checked_program.specs.declared.expr.Call.{Call}
use Rattle.checked_program.specs.declared.expr.Expr.{Expr}
use Rattle.checked_program.specs.declared.expr.Location.{Location}
use Rattle.checked_program.specs.declared.expr.Part.{Part}
use Rattle.checked_program.specs.declared.expr.Range.{Range}
use Rattle.checked_program.specs.declared.expr.Received.{Received}
use Rattle.checked_program.specs.declared.expr.Start.{Start}
use Rattle.checked_program.specs.declared.program.Body.{Body}
use Rattle.checked_program.specs.declared.program.LocalRow.{LocalRow}
use Rattle.program_trees.specs.ExprTree.{expr_tree, part_tree, received_tree, received_of, range_tree, argument_tree, location_tree, start_tree, call_tree}
use Rattle.program_trees.specs.ProgramTree.{body_row_tree, local_row_tree}
use Rattle.code_scheme.specs.Pieces.{Layout, capped, pushes, fitted, lowest_as, between_code, between_size, behind_code, behind_size, member_or_none, branch_code, branch_size, run_ended, again_code, has_index, first_of_parts, member_code, first_in, contents_at, contents_code, store_at, store_code, under_code, offsets_kept, keep_code, kept_code, copies_out}
use Rattle.code_scheme.specs.ExprSizes.{expr_size, place_size, indices_size, received_size, received_sizes, members_size, start_size, call_size, arguments_size, copies_out_size, condition_size}
use Rattle.code_scheme.specs.ExprCode.{expr_code, place_code, indices_code, received_code, received_codes, members_code, start_code, call_code, arguments_code, cut_code, condition_code, first_target}
use Rattle.expr_gen.specs.declared.building.Draft.{Draft}
use Rattle.expr_gen.specs.declared.conditions.Branch.{Branch}
use Rattle.expr_gen.specs.declared.conditions.Operands.{Operands}
use Rattle.expr_gen.specs.declared.frames.Site.{Site}
use Rattle.expr_gen.specs.declared.values.Taker.{Taker}
use Rattle.expr_gen.specs.Putting.{Appends, layout_of}
use Rattle.expr_gen.specs.Copies.{copied, turn_code, turn_size}
use Rattle.expr_gen.specs.Trees.{parts_of, ranges_of, arguments_of, index_code, index_size, range_code, range_size, argument_code, argument_size, copy_out, copying_size, plain_condition, plain_size, compared_code, compared_size}

-- all these instructions
abbrev pub PutsAll : List Instr → Draft → Draft → Type 0
PutsAll made old new = Appends made (length made) old.code new.code

-- these instructions, so many
abbrev pub PutsSome : List Instr → ℕ → Draft → Draft → Type 0
PutsSome made size old new = Appends made size old.code new.code

-- what a part has from the present place on, so many instructions
abbrev pub PutsAt : (ℕ → List Instr) → ℕ → Draft → Draft → Type 0
PutsAt made size old new = Appends (made (length old.code.instrs)) size old.code new.code

-- where the parts of a body stand
abbrev pub lay_of : Site → Layout
lay_of site = layout_of site.program.now site.body.now

-- ---- values

abbrev pub PutsExpr : Site → ℕ → Expr → Draft → Draft → Type 0
PutsExpr site free e old new = PutsAt (expr_code (lay_of site) free (expr_tree e)) (expr_size (expr_tree e)) old new

-- the part of so many scalars of a value of so many scalars
abbrev pub cut_size : List Part → ℕ
cut_size ps = (if has_index (parts_of ps) then length (member_code (pos (first_of_parts (parts_of ps)))) else 0) + 1

abbrev pub PutsCut : List Part → ℕ → ℕ → Draft → Draft → Type 0
PutsCut ps of count old new = PutsSome (cut_code (parts_of ps) count of) (cut_size ps) old new

abbrev pub PutsIndices : Site → ℕ → List Part → Draft → Draft → Type 0
PutsIndices site free ps old new = PutsAt (indices_code (lay_of site) free true (parts_of ps)) (indices_size true (parts_of ps)) old new

abbrev pub PutsIndex : Site → ℕ → Bool → Part → Draft → Draft → Type 0
PutsIndex site free is_first p old new = PutsAt (index_code (lay_of site) free is_first (part_tree p)) (index_size is_first (part_tree p)) old new

abbrev pub PutsPlace : Site → ℕ → Location → Draft → Draft → Type 0
PutsPlace site free l old new = PutsAt (place_code (lay_of site) free (location_tree l)) (place_size (location_tree l)) old new

abbrev pub PutsReceived : Site → ℕ → Received → Draft → Draft → Type 0
PutsReceived site free r old new = PutsAt (received_code (lay_of site) free (received_tree r)) (received_size (received_tree r)) old new

abbrev pub PutsAllReceived : Site → ℕ → List Received → Draft → Draft → Type 0
PutsAllReceived site free rs old new = PutsAt (received_codes (lay_of site) free (received_of rs)) (received_sizes (received_of rs)) old new

abbrev pub PutsStart : Site → ℕ → Start → Draft → Draft → Type 0
PutsStart site free s old new = PutsAt (start_code (lay_of site) free (start_tree s)) (start_size (start_tree s)) old new

abbrev pub PutsPowerset : Site → ℕ → Bounds → List Range → Draft → Draft → Type 0
PutsPowerset site free b rs old new =
    PutsAt (λ at. i.Push (pos 0) ∷ members_code (lay_of site) free b (ranges_of rs) (at + 1)) (1 + members_size (ranges_of rs)) old new

abbrev pub PutsRange : Site → ℕ → Bounds → Range → Draft → Draft → Type 0
PutsRange site free b r old new = PutsAt (range_code (lay_of site) free b (range_tree r)) (range_size (range_tree r)) old new

abbrev pub PutsCall : Site → ℕ → Call → Draft → Draft → Type 0
PutsCall site free c old new = PutsAt (call_code (lay_of site) free (call_tree c)) (call_size (call_tree c)) old new

-- the arguments of a call of a procedure with these locals
abbrev pub Gives : Site → ℕ → List LocalRow → List Argument → Draft → Draft → Type 0
Gives site free locals as' old new =
    PutsAt (arguments_code (lay_of site) (map local_row_tree locals) 0 free (arguments_of as')) (arguments_size (arguments_of as')) old new

-- an argument, for its parameter
abbrev pub PutsFor : Site → ℕ → Taker → Argument → Draft → Draft → Type 0
PutsFor site free taker a old new =
    PutsAt (argument_code (lay_of site) (map local_row_tree taker.locals.now) taker.parameter free (argument_tree a)) (argument_size (argument_tree a)) old new

-- ---- operators

-- what stands between two operands, where the second one has so many instructions
abbrev pub PutsBetween : Binary → Option Bounds → ℕ → Draft → Draft → Type 0
PutsBetween operator own second old new =
    (n : ℕ) → second ≡ capped n → PutsAt (λ at. between_code operator own at n) (between_size operator own) old new

abbrev pub PutsOffset : Bounds → Option Bounds → Draft → Draft → Type 0
PutsOffset bounds own old new = PutsAt (λ at. between_code (Member bounds) own at 0) (between_size (Member bounds) own) old new

abbrev pub PutsMember : Option Bounds → Draft → Draft → Type 0
PutsMember bounds old new = PutsAt (member_or_none bounds) (length (member_or_none bounds 0)) old new

-- the parts of such a test: below the least member, not above the greatest, and another number for one that is either
abbrev pub PutsIsBelow : ℤ → Draft → Draft → Type 0
PutsIsBelow low old new = PutsSome (i.Copy 1 ∷ i.Push low ∷ i.Less 1 ∷ []) 3 old new

abbrev pub PutsNoneAbove : ℤ → Draft → Draft → Type 0
PutsNoneAbove above old new = PutsSome (i.Copy 2 ∷ i.Pop 1 ∷ i.Push above ∷ i.Less 1 ∷ i.Not ∷ []) 5 old new

abbrev pub PutsUnlessInside : ℕ → ℤ → Draft → Draft → Type 0
PutsUnlessInside inside none old new = PutsSome (i.Or ∷ i.Unless inside ∷ i.Pop 1 ∷ i.Push none ∷ []) 4 old new

-- whether two powersets differ
abbrev pub PutsDiffer : Draft → Draft → Type 0
PutsDiffer old new = PutsSome (i.Copy 3 ∷ i.Part 2 3 6 ∷ i.Same 1 ∷ i.Not ∷ []) 4 old new

-- the powerset on top with the members between two offsets besides
abbrev pub PutsSpan : Draft → Draft → Type 0
PutsSpan old new = PutsSome (i.Span ∷ i.BitOr ∷ []) 2 old new

abbrev pub PutsBehind : Binary → ℕ → Draft → Draft → Type 0
PutsBehind operator count old new = PutsSome (behind_code operator count) (behind_size operator) old new

abbrev pub PutsCopies : ℕ → ℕ → Draft → Draft → Type 0
PutsCopies elements count old new = PutsSome (copied elements count) (length (copied elements 0)) old new

-- one turn of copies
abbrev pub PutsTurn : ℕ → ℕ → ℕ → Draft → Draft → Type 0
PutsTurn there elements count old new = PutsSome (turn_code there elements count) (turn_size there elements) old new

-- a buffer, and the scratch locals that get its value
abbrev pub source_code : ℕ → ℕ → ℕ → List Instr
source_code buffer first count = i.Thing buffer ∷ i.Push (pos first) ∷ i.Push (pos count) ∷ []

-- so many scalars, each pushed by itself
abbrev pub PutsFitted : ℕ → List ℤ → Draft → Draft → Type 0
PutsFitted count xs old new = PutsSome (pushes (fitted count xs)) count old new

-- a run of a scalar that another one ends
abbrev pub PutsEnded : ℤ → ℕ → ℤ → Draft → Draft → Type 0
PutsEnded x n y old new = PutsAll (run_ended x n y) old new

-- ---- locations

abbrev pub PutsAgain : Location → Draft → Draft → Type 0
PutsAgain l old new = PutsAll (again_code (location_tree l)) old new

abbrev pub PutsRead : ℕ → List Part → ℕ → Draft → Draft → Type 0
PutsRead number ps count old new = PutsSome (i.Read number (first_of_parts (parts_of ps)) count ∷ []) 1 old new

abbrev pub PutsWrite : ℕ → List Part → ℕ → Draft → Draft → Type 0
PutsWrite number ps count old new = PutsSome (i.Write number (first_of_parts (parts_of ps)) count ∷ []) 1 old new

abbrev pub PutsContents : Site → Location → Draft → Draft → Type 0
PutsContents site l old new = PutsSome (contents_code (lay_of site) (location_tree l)) 1 old new

abbrev pub PutsLocal : Site → ℕ → List Part → ℕ → Draft → Draft → Type 0
PutsLocal site number ps count old new = PutsSome (contents_at (lay_of site) (Local number) (parts_of ps) count) 1 old new

abbrev pub PutsStore : Site → Location → Draft → Draft → Type 0
PutsStore site l old new = PutsSome (store_code (lay_of site) (location_tree l)) 1 old new

abbrev pub PutsSetLocal : Site → ℕ → List Part → ℕ → Draft → Draft → Type 0
PutsSetLocal site number ps count old new = PutsSome (store_at (lay_of site) (Local number) (parts_of ps) count) 1 old new

-- ---- what is kept over a call, and copied out behind it

abbrev pub PutsKeep : Location → ℕ → Draft → Draft → Type 0
PutsKeep l kept old new = PutsSome (keep_code (location_tree l) kept) (offsets_kept (location_tree l)) old new

abbrev pub PutsKept : Location → ℕ → Draft → Draft → Type 0
PutsKept l kept old new = PutsSome (kept_code (location_tree l) kept) (offsets_kept (location_tree l)) old new

abbrev pub PutsUnder : Location → ℕ → ℕ → Draft → Draft → Type 0
PutsUnder l kept free old new = PutsSome (under_code (location_tree l) kept free) (length (under_code (location_tree l) 0 0)) old new

-- the lowest value of a parameter, as so many scalars
abbrev pub PutsLowest : List LocalRow → ℕ → ℕ → Draft → Draft → Type 0
PutsLowest locals parameter count old new = PutsSome (pushes (lowest_as count (slice_get (map local_row_tree locals) parameter))) count old new

abbrev pub PutsBack : Site → List Argument → ℕ → ℕ → Draft → Draft → Type 0
PutsBack site as' kept free old new =
    PutsSome (copies_out (lay_of site) (arguments_of as') kept free) (copies_out_size (arguments_of as')) old new

abbrev pub PutsOneBack : Site → Argument → ℕ → ℕ → Draft → Draft → Type 0
PutsOneBack site a kept free old new = PutsSome (copy_out (lay_of site) (argument_tree a) kept free) (copying_size (argument_tree a)) old new

-- ---- conditions: jumps by what they are

abbrev pub PutsJump : Site → ℕ → Expr → Branch → Draft → Draft → Type 0
PutsJump site free e branch old new =
    PutsAt (condition_code (lay_of site) free (expr_tree e) branch.when branch.target) (condition_size (expr_tree e) branch.when) old new

-- a condition that is an expression like others
abbrev pub PutsPlain : Site → ℕ → Expr → Branch → Draft → Draft → Type 0
PutsPlain site free e branch old new =
    PutsAt (plain_condition (lay_of site) free (expr_tree e) branch.when branch.target) (plain_size (expr_tree e) branch.when) old new

abbrev pub operands_size : Operands → Bool → ℕ
operands_size operands when = compared_size operands.operator (expr_tree operands.left.now) (expr_tree operands.right.now) when

-- a condition by another operator than ANDIF and ORIF
abbrev pub PutsTest : Site → ℕ → Operands → Branch → Draft → Draft → Type 0
PutsTest site free operands branch old new =
    PutsAt (compared_code (lay_of site) free operands.operator (expr_tree operands.left.now) (expr_tree operands.right.now) branch.when branch.target)
    (operands_size operands branch.when) old new

abbrev pub PutsBranch : Branch → Draft → Draft → Type 0
PutsBranch branch old new = PutsAt (branch_code branch.when branch.target) (branch_size branch.when) old new

-- where control goes by the first of two conditions, of which this value decides the whole
abbrev pub first_branch : Expr → Expr → Bool → Branch → Draft → Branch
first_branch left right value branch draft = record {
  when = value;
  target = first_target value branch.when branch.target (length draft.code.instrs + (condition_size (expr_tree left) value + condition_size (expr_tree right) branch.when));
}

-- ---- numbers

-- the place so many instructions behind the present one
abbrev pub IsBehind : Draft → ℕ → ℕ → Type 0
IsBehind draft count target = (k : ℕ) → count ≡ capped k → target ≡ length draft.code.instrs + k

-- the first scalar of a part of a local
abbrev pub first_scalar : Body → ℕ → List Part → ℕ
first_scalar body number ps = first_in (slice_get (body_row_tree body).locals number) + first_of_parts (parts_of ps)

-- what stands before the instruction that takes out a part of a value
abbrev pub before_cut : List Part → ℕ
before_cut ps = if has_index (parts_of ps) then indices_size true (parts_of ps) + length (member_code (pos (first_of_parts (parts_of ps)))) else 0

-- a call, with what its arguments have before and behind it
abbrev pub call_parts : List Argument → ℕ
call_parts as' = 1 + (arguments_size (arguments_of as') + copies_out_size (arguments_of as'))
