-- The code of actions that hold no statements, and how long it is.
use Rattle.std.specs.Prelude.{ℕ, suc, ◌+◌, nat_lt, Bool, true, false, List, [], ◌∷◌, ◌++◌, ℤ, pos, length, Option, Some, None, slice_get, slice_index_or, if◌then◌else◌}
use Rattle.modes.specs.declared.mode.Bounds.{Bounds}
use Rattle.code_types.specs.declared.instr.Instr.{Instr}
use Rattle.code_types.specs.declared.instr.Instr.TheVariants as i
use Rattle.checked_program.specs.declared.expr.Base.{Base}
use Rattle.checked_program.specs.declared.expr.Base.TheVariants.{Shared, Local}
use Rattle.checked_program.specs.declared.expr.Binary.{Binary}
use Rattle.checked_program.specs.declared.expr.Routine.{Routine}
use Rattle.checked_program.specs.declared.program.Parameter.{Parameter}
use Rattle.checked_program.specs.declared.program.Sort.{Sort}
use Rattle.checked_program.specs.declared.program.Sort.TheVariants.{Outermost, Process, Procedure}
use Rattle.program_trees.specs.ExprTree.{ExprTree, ReceivedTree, LocationTree, StartTree, CallTree, called, received_count, location_count}
use Rattle.program_trees.specs.StatementTree.{SentTree, to_buffer, signal}
use Rattle.program_trees.specs.ProgramTree.{BodyRowTree, LocalRowTree}
use Rattle.code_scheme.specs.Pieces.{Layout, first_in, contents_code, store_code, again_code, offsets_kept, check_code, between_code, between_size, behind_code, behind_size, routine_code, scalars_code, bounds_to_test, bounds_of_operator}
use Rattle.code_scheme.specs.ExprSizes.{expr_size, received_size, received_sizes, place_size, call_size, condition_size}
use Rattle.code_scheme.specs.ExprCode.{expr_code, received_code, received_codes, counts_of, place_code, start_code, call_code, condition_code}
use Rattle.code_scheme.specs.StatementSite.{Site, layout, Standing, declared_scalars, result_scalars, is_given_back}

-- ---- declarations

-- the place of a name, where it is a shared location
abbrev pub offset_of_name : Base → List Instr
offset_of_name (Shared l) = i.Push (pos 0) ∷ []
offset_of_name (Local k) = []

-- so many scalars on top are assigned to a name, whose place stands below them
abbrev pub name_code : Layout → Base → ℕ → List Instr
name_code lay (Shared l) n = i.Write l 0 n ∷ []
name_code lay (Local k) n = i.SetLocal (first_in (slice_get lay.rows k)) n ∷ []

-- each name is assigned the value that is kept in scratch locals
abbrev pub names_code : Layout → ℕ → ℕ → List Base → List Instr
names_code lay free n [] = []
names_code lay free n (b ∷ bs) = offset_of_name b ++ (i.Local free n ∷ (name_code lay b n ++ names_code lay free n bs))

-- the value is kept, and assigned to each name
abbrev pub keeping_code : Standing → List Base → ReceivedTree → ℕ → List Instr
keeping_code w bs r at =
    received_code (layout w.site) w.free r at ++ (i.SetLocal w.free (received_count r) ∷ names_code (layout w.site) w.free (received_count r) bs)

-- one name is assigned the value like a target
abbrev pub declare_code : Standing → List Base → ReceivedTree → ℕ → List Instr
declare_code w [] r at = keeping_code w [] r at
declare_code w (b ∷ []) r at =
    offset_of_name b ++ (received_code (layout w.site) w.free r (at + length (offset_of_name b)) ++ name_code (layout w.site) b (received_count r))
declare_code w (b ∷ c ∷ bs) r at = keeping_code w (b ∷ c ∷ bs) r at

abbrev pub name_size : Base → ℕ
name_size (Shared l) = 2
name_size (Local k) = 1

abbrev pub names_size : List Base → ℕ
names_size [] = 0
names_size (b ∷ bs) = suc (name_size b) + names_size bs

abbrev pub keeping_size : List Base → ReceivedTree → ℕ
keeping_size bs r = received_size r + suc (names_size bs)

abbrev pub declare_size : List Base → ReceivedTree → ℕ
declare_size [] r = keeping_size [] r
declare_size (b ∷ []) r = received_size r + name_size b
declare_size (b ∷ c ∷ bs) r = keeping_size (b ∷ c ∷ bs) r

-- locals that get the lowest value of their mode
abbrev pub set_lowest_code : Layout → List ℕ → List ℤ → List Instr
set_lowest_code lay [] xs = []
set_lowest_code lay (k ∷ ks) xs = scalars_code xs ++ (i.SetLocal (first_in (slice_get lay.rows k)) (length xs) ∷ set_lowest_code lay ks xs)

abbrev pub set_lowest_size : List ℕ → List ℤ → ℕ
set_lowest_size [] xs = 0
set_lowest_size (k ∷ ks) xs = suc (length (scalars_code xs)) + set_lowest_size ks xs

-- ---- assignments

abbrev pub assign_code : Standing → LocationTree → ReceivedTree → ℕ → List Instr
assign_code w l r at =
    place_code (layout w.site) w.free l at ++ (received_code (layout w.site) w.free r (at + place_size l) ++ store_code (layout w.site) l)

abbrev pub assign_size : LocationTree → ReceivedTree → ℕ
assign_size l r = place_size l + (received_size r + 1)

-- what stands before the value of an assignment with an operator: the place is found once, and the contents are read
abbrev pub read_code : Standing → LocationTree → ℕ → List Instr
read_code w l at = place_code (layout w.site) w.free l at ++ (again_code l ++ contents_code (layout w.site) l)

abbrev pub read_size : LocationTree → ℕ
read_size l = place_size l + (offsets_kept l + 1)

-- the test of the new value
abbrev pub update_test : Binary → Option Bounds → List Instr
update_test o bounds = check_code (bounds_to_test bounds (bounds_of_operator o))

abbrev pub update_code : Standing → LocationTree → Binary → ExprTree → Option Bounds → ℕ → List Instr
update_code w l o e bounds at =
    read_code w l at ++
    (between_code o bounds (at + read_size l) (expr_size e) ++
    (expr_code (layout w.site) w.free e (at + (read_size l + between_size o bounds)) ++
    (behind_code o (location_count l) ++ (update_test o bounds ++ store_code (layout w.site) l))))

abbrev pub update_size : LocationTree → Binary → ExprTree → Option Bounds → ℕ
update_size l o e bounds =
    read_size l + (between_size o bounds + (expr_size e + (behind_size o + (length (update_test o bounds) + 1))))

-- ---- RESULT, RETURN, and the way out of a body

-- the region that a call of the body enters
abbrev pub region_entered : Bool → Option ℕ → Option ℕ
region_entered true r = r
region_entered false r = None

abbrev pub entered_by : BodyRowTree → Option ℕ
entered_by b = region_entered b.critical b.region

abbrev pub leave_region : Option ℕ → List Instr
leave_region None = []
leave_region (Some r) = i.Leave r ∷ []

-- the result, where it has scalars
abbrev pub result_code : BodyRowTree → List Instr
result_code b = if nat_lt 0 (result_scalars b) then i.Local (declared_scalars b) (result_scalars b) ∷ [] else []

-- the OUT and INOUT parameters, the last one lowest
abbrev pub parameters_code : List Parameter → List LocalRowTree → List Instr
parameters_code [] rows = []
parameters_code (p ∷ ps) [] = []
parameters_code (p ∷ ps) (row ∷ rows) = parameters_code ps rows ++ (if is_given_back p.passing then i.Local row.first row.count ∷ [] else [])

-- the end of a call
abbrev pub end_of_call : BodyRowTree → List Instr
end_of_call b = leave_region (entered_by b) ++ (result_code b ++ (parameters_code b.parameters b.locals ++ i.Return ∷ []))

-- a process ends, or a call gives back its result and its parameters
abbrev pub way_out_of : Sort → BodyRowTree → List Instr
way_out_of Outermost b = i.Finish ∷ []
way_out_of Process b = i.Finish ∷ []
way_out_of Procedure b = end_of_call b

abbrev pub way_out_code : BodyRowTree → List Instr
way_out_code b = way_out_of b.sort b

abbrev pub set_result_code : Standing → ReceivedTree → ℕ → List Instr
set_result_code w r at =
    received_code (layout w.site) w.free r at ++ i.SetLocal (declared_scalars w.site.body) (result_scalars w.site.body) ∷ []

abbrev pub set_result_size : ReceivedTree → ℕ
set_result_size r = received_size r + 1

abbrev pub return_code : Standing → Option ReceivedTree → ℕ → List Instr
return_code w None at = way_out_code w.site.body
return_code w (Some r) at = set_result_code w r at ++ way_out_code w.site.body

abbrev pub return_size : Site → Option ReceivedTree → ℕ
return_size site None = length (way_out_code site.body)
return_size site (Some r) = set_result_size r + length (way_out_code site.body)

-- ---- calls and values that are dropped

-- how many scalars the result of a called body has
abbrev pub dropped_by : Option BodyRowTree → ℕ
dropped_by None = 0
dropped_by (Some b) = result_scalars b

abbrev pub dropped_scalars : Site → CallTree → ℕ
dropped_scalars site (called b as') = dropped_by (slice_get site.program.bodies b)

-- a result of so many scalars is dropped
abbrev pub drop_code : ℕ → List Instr
drop_code n = if nat_lt 0 n then i.Pop n ∷ [] else []

abbrev pub perform_code : Standing → CallTree → ℕ → List Instr
perform_code w c at = call_code (layout w.site) w.free c at ++ drop_code (dropped_scalars w.site c)

abbrev pub perform_size : Site → CallTree → ℕ
perform_size site c = call_size c + length (drop_code (dropped_scalars site c))

abbrev pub drop_routine_code : Standing → Routine → ExprTree → ℕ → List Instr
drop_routine_code w r e at = expr_code (layout w.site) w.free e at ++ (routine_code r ++ i.Pop 1 ∷ [])

abbrev pub drop_routine_size : Routine → ExprTree → ℕ
drop_routine_size r e = expr_size e + (length (routine_code r) + 1)

-- a value, and an instruction that takes it
abbrev pub taken_by : Standing → ExprTree → Instr → ℕ → List Instr
taken_by w e instr at = expr_code (layout w.site) w.free e at ++ instr ∷ []

abbrev pub start_of_code : Standing → StartTree → ℕ → List Instr
start_of_code w t at = start_code (layout w.site) w.free t at ++ i.Pop 1 ∷ []

-- ---- EXIT and ASSERT

-- to the place behind the labelled statement that is so many outwards
abbrev pub exit_code : Standing → ℕ → List Instr
exit_code w k = i.Jump (slice_index_or w.exits k 0) ∷ []

-- ASSERTFAIL, where the condition doesn't lead behind it
abbrev pub assert_code : Standing → ExprTree → ℕ → List Instr
assert_code w e at = condition_code (layout w.site) w.free e true (at + (condition_size e true + 1)) at ++ i.Raise 3 ∷ []

abbrev pub assert_size : ExprTree → ℕ
assert_size e = condition_size e true + 1

-- ---- requests without an answer that the text names

abbrev pub delay_code : ℕ → ℕ → List Instr
delay_code e priority = i.Thing e ∷ i.Push (pos 0) ∷ i.Delay 1 priority ∷ i.Pop 2 ∷ []

-- the receiver of a signal, where one is written
abbrev pub receiver_code : Standing → Option ExprTree → ℕ → List Instr
receiver_code w None at = []
receiver_code w (Some e) at = expr_code (layout w.site) w.free e at

abbrev pub receiver_size : Option ExprTree → ℕ
receiver_size None = 0
receiver_size (Some e) = expr_size e

abbrev pub has_receiver : Option ExprTree → Bool
has_receiver None = false
has_receiver (Some e) = true

abbrev pub send_code : Standing → SentTree → ℕ → ℕ → List Instr
send_code w (to_buffer b r) priority at = received_code (layout w.site) w.free r at ++ i.Send b (received_count r) priority ∷ []
send_code w (signal n rs to) priority at =
    received_codes (layout w.site) w.free rs at ++
    (receiver_code w to (at + received_sizes rs) ++ i.Signal n (counts_of rs) (has_receiver to) priority ∷ [])

abbrev pub send_size : SentTree → ℕ
send_size (to_buffer b r) = received_size r + 1
send_size (signal n rs to) = received_sizes rs + (receiver_size to + 1)
