-- The elaborated program of a tree and its ground: names are replaced by numbers, and classes by what they ask of values. None is
-- where something isn't there, which no text that breaks no rule has.
use Rattle.std.specs.Prelude.{ℕ, suc, ◌+◌, Bool, true, false, ◌&&◌, if◌then◌else◌, List, [], ◌∷◌, map, flat_map, length, Option, Some, None, is_some, option_map, option_and_then, codes}
use Rattle.std.specs.List.{filter, list_any}
use Rattle.std.specs.Str.{bytes_eq}
use Rattle.chill_tree.specs.declared.tree.name.Name.{Name}
use Rattle.chill_tree.specs.declared.tree.item.Passing.{Passing}
use Rattle.chill_tree.specs.declared.tree.item.Passing.TheVariants as passings
use Rattle.chill_tree.specs.declared.tree.item.Passed.{Passed}
use Rattle.chill_tree.specs.declared.tree.item.Passed.TheVariants.{Names, All}
use Rattle.chill_tree.specs.StatementTree.{BodyTree, HandlerTree, body_nodes, handler_node}
use Rattle.chill_tree.specs.ItemTree.{ItemTree, grant, ProcedureTree, ProcessTree, ParamTree, ProgramTree, items_in}
use Rattle.modes.specs.ModeTree.{ModeTree, event, buffer, read, named}
use Rattle.modes.specs.Scalars.{scalars_of}
use Rattle.names_model.specs.declared.definition.Inside.{Inside}
use Rattle.names_model.specs.declared.definition.Inside.TheVariants as insides
use Rattle.names_model.specs.Definitions.{text_definitions}
use Rattle.names_model.specs.Resolving.{level_of}
use Rattle.text_size.specs.Sizes.{program_size}
use Rattle.checked_program.specs.declared.program.EventRow.{EventRow}
use Rattle.checked_program.specs.declared.program.Parameter.{Parameter}
use Rattle.checked_program.specs.declared.program.Passing as ways
use Rattle.checked_program.specs.declared.program.Passing.TheVariants as way
use Rattle.checked_program.specs.declared.program.Sort.TheVariants as sorts
use Rattle.checked_program.specs.declared.program.Definition as numbered
use Rattle.checked_program.specs.declared.program.Inside as places
use Rattle.checked_program.specs.declared.program.Inside.TheVariants as place
use Rattle.program_trees.specs.StatementTree as done
use Rattle.program_trees.specs.ProgramTree.{CheckedTree, LocationRowTree, BufferRowTree, SignalRowTree, LocalRowTree, BodyRowTree}
use Rattle.checks_model.specs.Ground.{Ground, Origin, get_int, a_procedure, a_process, a_signal, a_modulion, a_predefined}
use Rattle.checks_model.specs.Told.{holds_of}
use Rattle.checks_model.specs.ProcessRules.{meets_event, meets_buffer, meets_nothing}
use Rattle.checks_model.specs.Limits.{scalars_in_mode}
use Rattle.checks_model.specs.Sites.{items_of}
use Rattle.elaboration_model.specs.Parts.{made_of, made_of_three, made_each, made_of_some}
use Rattle.elaboration_model.specs.Numbering.{Source, Row, rows, is_shared, is_signal, is_modulion, is_region_origin, is_local_of, has_body, thing_of, Thing, a_region, a_body, body_used, count_before}
use Rattle.elaboration_model.specs.Exceptions.{own_exceptions, exception_number}
use Rattle.elaboration_model.specs.Expressions.{mode_defined, passing_of}
use Rattle.elaboration_model.specs.Statements.{in_body, body, handled}
use Rattle.elaboration_model.specs.Modulions.{modulions_done, modulion_rows}
use Rattle.std.specs.Prelude.{slice_get}

-- ---- lists of rows

-- the rows that pass a test, each made with its number
abbrev pub rows_made : {A : Type 0} → (ℕ → Row → Option A) → (Row → Bool) → ℕ → List Row → Option (List A)
rows_made f test d [] = Some []
rows_made f test d (r ∷ rs) = if test r then made_of (λ x xs. x ∷ xs) (f d r) (rows_made f test (suc d) rs) else rows_made f test (suc d) rs

abbrev pub region_in : Thing → Option ℕ
region_in (a_region k) = Some k
region_in _ = None

-- the region that something stands directly in
abbrev pub region_around : List Row → Inside → Option ℕ
region_around rs (insides.Modulion d) = region_in (thing_of rs d)
region_around rs _ = None

abbrev pub location_row : List Row → ℕ → Row → Option LocationRowTree
location_row rs d r = option_map (λ m. record { definition = d; name = r.name; mode = m; region = region_around rs r.inside }) r.mode

-- the length of an event, names and READ looked through; none where none is written
abbrev pub event_length : ModeTree → Option ℕ
event_length (event l) = l
event_length (read m) = event_length m
event_length (named d n m) = event_length m
event_length _ = None

abbrev pub event_row : ℕ → Row → Option EventRow
event_row d r = option_map (λ m. record { definition = d; name = r.name; length = event_length m }) r.mode

abbrev pub buffer_as : ℕ → Row → ModeTree → Option BufferRowTree
buffer_as d r (buffer l e) = Some (record { definition = d; name = r.name; length = l; element = e })
buffer_as d r (read m) = buffer_as d r m
buffer_as d r (named k n m) = buffer_as d r m
buffer_as d r _ = None

abbrev pub buffer_row : ℕ → Row → Option BufferRowTree
buffer_row d r = option_and_then (buffer_as d r) r.mode

-- the modes of a signal's parts, and the body of the process that it is for
abbrev pub parts_known : Ground → ℕ → Option (List ModeTree)
parts_known g d = option_and_then (λ e. made_each (λ m. m) e.parts) (slice_get g.entries d)

abbrev pub signal_as : Source → ℕ → Row → Origin → Option SignalRowTree
signal_as s d r (a_signal own) =
    made_of (λ ms to. record { definition = d; name = r.name; parts = ms; process = to }) (parts_known s.known d) (made_of_some (body_used s) own.process)
signal_as s d r _ = None

abbrev pub signal_row : Source → ℕ → Row → Option SignalRowTree
signal_row s d r = signal_as s d r r.origin

-- ---- bodies

-- a local, the first scalar of which is behind those of the locals before it
abbrev pub local_row : Row → ℕ → Option ModeTree → Option LocalRowTree
local_row r first m = option_map (λ m. record { name = r.name; mode = m; first = first; count = scalars_of m }) m

abbrev pub local_rows : (Row → Bool) → ℕ → List Row → Option (List LocalRowTree)
local_rows test first [] = Some []
local_rows test first (r ∷ rs) =
    if test r then made_of (λ l ls. l ∷ ls) (local_row r first r.mode) (local_rows test (first + scalars_in_mode r.mode) rs) else local_rows test first rs

abbrev pub locals_of : Source → ℕ → Option (List LocalRowTree)
locals_of s b = local_rows (is_local_of s.rows b) 0 s.rows

abbrev pub way_of : Passing → ways.Passing
way_of passings.In = way.In
way_of passings.Out = way.Out
way_of passings.InOut = way.InOut

abbrev pub parameters_of : ParamTree → List Parameter
parameters_of p = map (λ n. record { passing = way_of (passing_of p.passing) }) p.names

abbrev pub passed_in : List Name → List Parameter
passed_in ns = map (λ n. record { passing = way.In }) ns

-- the names of a modulion's items that it grants
abbrev pub is_granted_by : Name → Passed → Bool
is_granted_by n (All at) = true
is_granted_by n (Names ns) = list_any (λ m. bytes_eq m.text n.text) ns

abbrev pub grants : Name → ItemTree → Bool
grants n (grant at passed) = is_granted_by n passed
grants n _ = false

abbrev pub grants_in : Name → Origin → Bool
grants_in n (a_modulion kind items) = list_any (grants n) (items_in items)
grants_in n _ = false

abbrev pub modulion_around : List Row → Inside → Option Row
modulion_around rs (insides.Modulion d) = slice_get rs d
modulion_around rs _ = None

-- a procedure of a region is critical where the region grants it
abbrev pub is_critical : List Row → Row → Name → Bool
is_critical rs r n = is_some (region_around rs r.inside) && holds_of (λ m. grants_in n m.origin) (modulion_around rs r.inside)

abbrev pub listed_by : Source → Option (List Name) → Option (List ℕ)
listed_by s None = Some []
listed_by s (Some ns) = made_each (exception_number s.own_exceptions) ns

-- the result of a procedure: it is there, too, where it has none
abbrev pub result_of : Source → ProcedureTree → Option (Option ModeTree)
result_of s p = if is_some p.returns then option_map Some (mode_defined s p.name) else Some None

abbrev pub inside_of : Source → Option ModeTree → List BodyTree → Option HandlerTree → Option (done.StatementNodes × done.HandlerNode)
inside_of s result ps h = made_of (λ ss hs. (ss, hs)) (body s (in_body result) (body_nodes ps)) (handled s (in_body result) (handler_node h))

abbrev pub outermost_body : List LocalRowTree → done.StatementNodes → BodyRowTree
outermost_body locals ss = record {
  definition = None;
  name = codes "OUTER";
  sort = sorts.Outermost;
  region = None;
  critical = false;
  parameters = [];
  result = None;
  listed = [];
  locals = locals;
  statements = ss;
  handler = done.no_handler;
}

abbrev pub process_body : ℕ → Row → ProcessTree → List LocalRowTree → done.StatementNodes × done.HandlerNode → BodyRowTree
process_body d r p locals inside = record {
  definition = Some d;
  name = r.name;
  sort = sorts.Process;
  region = None;
  critical = false;
  parameters = flat_map (λ f. passed_in f.names) p.formals;
  result = None;
  listed = [];
  locals = locals;
  statements = inside.0;
  handler = inside.1;
}

abbrev pub procedure_body : Source → ℕ → Row → ProcedureTree → Option ModeTree → List ℕ → List LocalRowTree → done.StatementNodes × done.HandlerNode → BodyRowTree
procedure_body s d r p result listed locals inside = record {
  definition = Some d;
  name = r.name;
  sort = sorts.Procedure;
  region = region_around s.rows r.inside;
  critical = is_critical s.rows r p.name;
  parameters = flat_map parameters_of p.params;
  result = result;
  listed = listed;
  locals = locals;
  statements = inside.0;
  handler = inside.1;
}

abbrev pub procedure_made : Source → ℕ → Row → ProcedureTree → Option ModeTree → Option BodyRowTree
procedure_made s d r p result =
    made_of_three (procedure_body s d r p result) (listed_by s p.exceptions) (locals_of s (suc (count_before (λ r. has_body r.origin) d s.rows))) (inside_of s result p.body p.handler)

abbrev pub body_as : Source → ℕ → Row → Origin → Option BodyRowTree
body_as s d r (a_process p) = made_of (process_body d r p) (locals_of s (suc (count_before (λ r. has_body r.origin) d s.rows))) (inside_of s None p.body p.handler)
body_as s d r (a_procedure p) = option_and_then (procedure_made s d r p) (result_of s p)
body_as s d r _ = None

abbrev pub outermost : Source → ProgramTree → Option BodyRowTree
outermost s t = made_of outermost_body (locals_of s 0) (modulions_done s (items_of t))

-- the outermost process, then processes and procedures in the order of the text
abbrev pub bodies_of : Source → ProgramTree → Option (List BodyRowTree)
bodies_of s t = made_of (λ b bs. b ∷ bs) (outermost s t) (rows_made (λ d r. body_as s d r r.origin) (λ r. has_body r.origin) 0 s.rows)

-- ---- definitions

abbrev pub place_in : List Row → ℕ → Thing → places.Inside
place_in rs d (a_body b) = place.Body b
place_in rs d _ = place.Modulion (count_before (λ r. is_modulion r.origin) d rs)

-- the innermost modulion or body that a definition stands in, by their numbers
abbrev pub place_of : List Row → Inside → places.Inside
place_of rs insides.Outermost = place.Outermost
place_of rs (insides.Modulion d) = place_in rs d (thing_of rs d)
place_of rs (insides.Body d) = place_in rs d (thing_of rs d)
place_of rs (insides.Block d) = place_in rs d (thing_of rs d)

abbrev pub definition_row : List Row → Row → numbered.Definition
definition_row rs r = record { name = r.name; inside = place_of rs r.inside }

-- ---- the program

abbrev pub is_get_int : Origin → Bool
is_get_int (a_predefined get_int) = true
is_get_int _ = false

-- some name stands for GET_INT
abbrev pub reads_input : Ground → Bool
reads_input g = list_any (λ u. holds_of is_get_int (slice_get g.origins u.to)) g.uses

abbrev pub source_of : Ground → ProgramTree → Source
source_of g t = record { known = g; rows = rows (text_definitions (level_of t)) g.origins g.entries; own_exceptions = own_exceptions t }

-- the program of its locations, events, buffers, signals and bodies
abbrev pub program_of : Source → ProgramTree → List LocationRowTree → List EventRow → List BufferRowTree → List SignalRowTree → List BodyRowTree → CheckedTree
program_of s t ls es bs ss bodies = record {
  locations = ls;
  bodies = bodies;
  regions = length (filter (λ r. is_region_origin r.origin) s.rows);
  events = es;
  buffers = bs;
  signals = ss;
  exceptions = s.own_exceptions;
  reads_input = reads_input s.known;
  size = program_size t;
  definitions = map (definition_row s.rows) s.rows;
  modulions = modulion_rows s t;
}

abbrev pub made_of_five : {A B C D E F : Type 0} → (A → B → C → D → E → F) → Option A → Option B → Option C → Option D → Option E → Option F
made_of_five f (Some a) (Some b) (Some c) (Some d) (Some e) = Some (f a b c d e)
made_of_five f _ _ _ _ _ = None

abbrev pub elaborated_by : Source → ProgramTree → Option CheckedTree
elaborated_by s t =
    made_of_five (program_of s t)
    (rows_made (location_row s.rows) (is_shared meets_nothing) 0 s.rows)
    (rows_made event_row (is_shared meets_event) 0 s.rows)
    (rows_made buffer_row (is_shared meets_buffer) 0 s.rows)
    (rows_made (signal_row s) (λ r. is_signal r.origin) 0 s.rows)
    (bodies_of s t)

-- the elaborated program of a tree with the ground of its statements
abbrev pub elaborated : Ground → ProgramTree → Option CheckedTree
elaborated g t = elaborated_by (source_of g t) t
