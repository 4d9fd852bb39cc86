-- Modulions, bodies and the program are there, where nothing is told at their nodes.
use Rattle.std.proofs.Common.{◌≡◌, ℕ, zero, suc, ◌+◌, ◌==◌, Bool, true, false, ◌&&◌, List, [], ◌∷◌, ◌++◌, Option, Some, None, refl, sym, ap, ◌∙◌, subst, arith, true≢false}
use Rattle.std.specs.Prelude.{IsSome, is_some, if◌then◌else◌, option_map, option_and_then, slice_get}
use Rattle.std.specs.List.{list_any}
use Rattle.chill_tree.specs.declared.tree.name.Name.{Name}
use Rattle.chill_tree.specs.declared.tree.item.ModulionKind.{ModulionKind}
use Rattle.chill_tree.specs.StatementTree.{BodyTree, HandlerTree, body_nodes, handler_node}
use Rattle.chill_tree.specs.ItemTree.{ProcedureTree, ProcessTree, SignalTree, ItemTree, ItemNodes, seize, grant, local_item, signals, procedure, process, modulion, action, no_items, more_items, ProgramTree, items_in}
use Rattle.modes.specs.ModeTree.{ModeTree, int, boolean, char, instance, set_of, range, powerset, chars, array, structure, event, buffer, read, named}
use Rattle.modes.specs.Scalars.{scalars_of}
use Rattle.names_model.specs.ItemParts.{is_region}
use Rattle.program_trees.specs.StatementTree as done
use Rattle.program_trees.specs.ProgramTree.{LocalRowTree, LocationRowTree, BodyRowTree, BufferRowTree}
use Rattle.checked_program.specs.declared.program.EventRow.{EventRow}
use Rattle.checks_model.specs.Ground.{Origin, a_procedure, a_process, a_signal}
use Rattle.checks_model.specs.Told.{holds_of}
use Rattle.checks_model.specs.ProcessRules.{Meeting, meets_event, meets_buffer, meets_nothing, meeting_of}
use Rattle.checks_model.specs.ActionRules.{Returning, no_procedure, no_value, a_value}
use Rattle.checks_model.specs.Limits.{scalars_in_mode}
use Rattle.checks_model.specs.Phases.{returning_of}
use Rattle.checks_model.specs.Sites as sites
use Rattle.checks_model.specs.Sites.{Site, at_item, in_procedure, in_no_procedure, sites_of_local, sites_of_parts, sites_of_handler, sites_of_body, sites_of_item, sites_of_items, items_of}
use Rattle.written_laws.specs.Written.{Each}
use Rattle.elaborated_laws.proofs.Told.{both_left, both_right, no_some}
use Rattle.there_laws.proofs.Modes.{value_in}
use Rattle.elaboration_model.specs.Parts.{made_of, made_of_three, made_of_some}
use Rattle.elaboration_model.specs.Numbering.{Source, Row, is_direct, is_location, may_be_local, has_body, is_signal, is_shared, is_local_of, same_meeting, thing_defined, region_number, body_used, body_around, count_before}
use Rattle.elaboration_model.specs.Expressions.{mode_defined}
use Rattle.elaboration_model.specs.Statements.{Around, in_body, statement, body, handled, declarations, before}
use Rattle.elaboration_model.specs.Modulions.{has_value, region_action, modulion_action, item_before, items_done, modulions_done}
use Rattle.elaboration_model.specs.Elaborated.{rows_made, region_around, location_row, event_length, event_row, buffer_as, buffer_row, parts_known, signal_as, signal_row, local_row, local_rows, locals_of, listed_by, result_of, inside_of, process_body, procedure_body, procedure_made, body_as, outermost_body, outermost, bodies_of, made_of_five, program_of, elaborated_by}
use Rattle.expression_laws.specs.Names.{IsPlace, AllNamesKnown}
use Rattle.expression_laws.specs.Statements.{IsNodeClean, IsAround, ExitsStand, HandlerExits, BodyExits}
use Rattle.expression_laws.specs.Program.{ItemStands, ItemsStand, IsItemClean, IsBodyClean, OriginStands, IsRowClean, AllRowsClean, ProgramThereLaw}
use Rattle.expression_laws.proofs.Operators.{map_there}
use Rattle.expression_laws.proofs.Parts.{made_there, three_there}
use Rattle.expression_laws.proofs.Actions.{each_first, each_later}
use Rattle.expression_laws.proofs.Statements.{declarations_there, statement_there, handler_there, body_there}

-- ---- what stands around

abbrev is_a_value : Returning → Bool
is_a_value (a_value m) = true
is_a_value _ = false

abbrev value_or : Option ModeTree → Returning → Option ModeTree
value_or m (a_value k) = k
value_or m _ = m

not_value : {A : Type 0} (r : Returning) (m : Option ModeTree) → is_a_value r ≡ false → r ≡ a_value m → A
not_value r m apart is = absurd (true≢false (sym (ap is_a_value is) ∙ apart))

outside : (s : Source) → IsAround s (in_body None) in_no_procedure
outside s = record { result = λ m is. not_value no_procedure m refl is; place = λ m is. not_value no_procedure m refl is }

-- the result of a procedure, where it has one
record ResultOf (s : Source) (p : ProcedureTree) : Type 0 where
  result : Option ModeTree
  is : result_of s p ≡ Some result
  around : IsAround s (in_body result) (in_procedure p)

result_there : (s : Source) (p : ProcedureTree) → (is_some p.returns ≡ true → IsPlace (mode_defined s p.name)) → ResultOf s p
result_there s p place_is = by (is_some p.returns) refl
  where
    by : (b : Bool) → is_some p.returns ≡ b → ResultOf s p
    by true returns =
        let m = value_in (mode_defined s p.name) (place_is returns).there in
        let gives : returning_of s.known (in_procedure p) ≡ a_value (mode_defined s p.name) = ap (λ b. if b then a_value (mode_defined s p.name) else no_value) returns in
        record {
          result = Some m.0;
          is = ap (λ b. if b then option_map Some (mode_defined s p.name) else Some None) returns ∙ ap (option_map Some) m.1;
          around = record {
            result = λ k is. sym m.1 ∙ ap (value_or (mode_defined s p.name)) (sym gives ∙ is);
            place = λ k is. subst IsPlace (ap (value_or (mode_defined s p.name)) (sym gives ∙ is)) (place_is returns);
          };
        }
    by false returns =
        let gives : returning_of s.known (in_procedure p) ≡ no_value = ap (λ b. if b then a_value (mode_defined s p.name) else no_value) returns in
        record {
          result = None;
          is = ap (λ b. if b then option_map Some (mode_defined s p.name) else Some None) returns;
          around = record { result = λ k is. not_value no_value k refl (sym gives ∙ is); place = λ k is. not_value no_value k refl (sym gives ∙ is) };
        }

-- ---- modulions

modulion_made : (s : Source) (n : Name) (kind : ModulionKind) (items : ItemNodes) (ss : Option done.StatementNodes) → (is_region kind ≡ true → IsSome (option_and_then region_number (thing_defined s n))) → IsSome ss → IsSome (option_and_then (modulion_action s n kind items) ss)
modulion_made s n kind items None region there = absurd (true≢false (sym there))
modulion_made s n kind items (Some ss) region there = by (is_region kind) refl
  where
    by : (b : Bool) → is_region kind ≡ b → IsSome (if b then option_map (λ k. region_action (list_any has_value (items_in items)) k ss) (option_and_then region_number (thing_defined s n)) else Some (done.module_at ss))
    by true is = map_there (λ k. region_action (list_any has_value (items_in items)) k ss) (option_and_then region_number (thing_defined s n)) (region is)
    by false is = refl

mutual
  item_there : (s : Source) (i : ItemTree) (rest : Option done.StatementNodes) → AllNamesKnown s → ItemStands s i → Each (IsNodeClean s) (sites_of_item i) → IsSome rest → IsSome (item_before s i rest)
  item_there s (local_item l) rest known stands all there = made_there before (declarations s l) rest (declarations_there s true l known all) there
  item_there s (action x) rest known stands all there = made_there done.more_statements (statement s (in_body None) x) rest (statement_there s (in_body None) in_no_procedure x known (outside s) stands all) there
  item_there s (modulion n kind items h closing) rest known stands all there =
      let first = sites_of_items kind items items in
      let later = sites_of_handler in_no_procedure (handler_node h) in
      let inner = option_and_then (modulion_action s n kind items) (items_done s items) in
      made_there done.more_statements (made_of (done.statement false) inner (handled s (in_body None) (handler_node h))) rest
      (made_there (done.statement false) inner (handled s (in_body None) (handler_node h))
      (modulion_made s n kind items (items_done s items) stands.0 (items_there s kind items items known stands.1.0 (each_first (IsNodeClean s) first later all)))
      (handler_there s (in_body None) in_no_procedure (handler_node h) known (outside s) stands.1.1 (each_later (IsNodeClean s) first later all)))
      there
  item_there s (seize at passed) rest known stands all there = there
  item_there s (grant at passed) rest known stands all there = there
  item_there s (signals at ss) rest known stands all there = there
  item_there s (procedure p) rest known stands all there = there
  item_there s (process p) rest known stands all there = there

  items_there : (s : Source) (kind : ModulionKind) (whole is : ItemNodes) → AllNamesKnown s → ItemsStand s is → Each (IsNodeClean s) (sites_of_items kind whole is) → IsSome (items_done s is)
  items_there s kind whole no_items known stands all = refl
  items_there s kind whole (more_items i is) known stands all =
      let first = sites_of_item i in
      let later = sites_of_items kind whole is in
      item_there s i (items_done s is) known stands.0 (each_first (IsNodeClean s) first later all.1) (items_there s kind whole is known stands.1 (each_later (IsNodeClean s) first later all.1))

modulions_there : (s : Source) (is : List ItemTree) → AllNamesKnown s → Each (IsItemClean s) is → IsSome (modulions_done s is)
modulions_there s [] known all = refl
modulions_there s (i ∷ is) known all = let own = all.0 in item_there s i (modulions_done s is) known own.stands own.nodes (modulions_there s is known all.1)

-- ---- rows

zero_before : (k : ℕ) → k ≡ 0 + k
zero_before k = omega arith

zero_behind : (d : ℕ) → d + 0 ≡ d
zero_behind d = omega arith

next_behind : (d k : ℕ) → d + suc k ≡ suc d + k
next_behind d k = omega arith

each_row : {A : Type 0} (f : ℕ → Row → Option A) (test : Row → Bool) (d : ℕ) (rs : List Row) → ((k : ℕ) (r : Row) → slice_get rs k ≡ Some r → test r ≡ true → IsSome (f (d + k) r)) → IsSome (rows_made f test d rs)
each_row f test d [] there = refl
each_row f test d (r ∷ rs) there = by (test r) refl (each_row f test (suc d) rs (λ k x at holds. subst (λ j. IsSome (f j x)) (next_behind d k) (there (suc k) x at holds)))
  where
    by : (b : Bool) → test r ≡ b → IsSome (rows_made f test (suc d) rs) → IsSome (if b then made_of (λ x xs. x ∷ xs) (f d r) (rows_made f test (suc d) rs) else rows_made f test (suc d) rs)
    by true holds others = made_there (λ x xs. x ∷ xs) (f d r) (rows_made f test (suc d) rs) (subst (λ j. IsSome (f j r)) (zero_behind d) (there zero r refl holds)) others
    by false holds others = others

rows_there : {A : Type 0} (f : ℕ → Row → Option A) (test : Row → Bool) (rs : List Row) → ((k : ℕ) (r : Row) → slice_get rs k ≡ Some r → test r ≡ true → IsSome (f k r)) → IsSome (rows_made f test 0 rs)
rows_there f test rs there = each_row f test 0 rs (λ k r at holds. subst (λ j. IsSome (f j r)) (zero_before k) (there k r at holds))

abbrev local_of : Row → ℕ → ModeTree → LocalRowTree
local_of r first m = record { name = r.name; mode = m; first = first; count = scalars_of m }

local_made : (test : Row → Bool) (first : ℕ) (r : Row) (rs : List Row) (b : Bool) → (b ≡ true → IsSome r.mode) → IsSome (local_rows test (first + scalars_in_mode r.mode) rs) → IsSome (local_rows test first rs)
    → IsSome (if b then made_of (λ l ls. l ∷ ls) (local_row r first r.mode) (local_rows test (first + scalars_in_mode r.mode) rs) else local_rows test first rs)
local_made test first r rs true own taken left = made_there (λ l ls. l ∷ ls) (local_row r first r.mode) (local_rows test (first + scalars_in_mode r.mode) rs) (map_there (local_of r first) r.mode (own refl)) taken
local_made test first r rs false own taken left = left

each_local : (test : Row → Bool) (first : ℕ) (rs : List Row) → ((k : ℕ) (r : Row) → slice_get rs k ≡ Some r → test r ≡ true → IsSome r.mode) → IsSome (local_rows test first rs)
each_local test first [] there = refl
each_local test first (r ∷ rs) there =
    local_made test first r rs (test r) (λ holds. there zero r refl holds) (each_local test (first + scalars_in_mode r.mode) rs (λ k x at holds. there (suc k) x at holds)) (each_local test first rs (λ k x at holds. there (suc k) x at holds))

locals_there : (s : Source) (b : ℕ) → AllRowsClean s → IsSome (locals_of s b)
locals_there s b clean_is = each_local (is_local_of s.rows b) 0 s.rows (λ k r at holds. (clean_is k r at).mode (both_left (may_be_local r.origin) (holds_of (λ c. c == b) (body_around s.rows r.inside)) holds))

abbrev location_of : List Row → ℕ → Row → ModeTree → LocationRowTree
location_of rs d r m = record { definition = d; name = r.name; mode = m; region = region_around rs r.inside }

abbrev event_of : ℕ → Row → ModeTree → EventRow
event_of d r m = record { definition = d; name = r.name; length = event_length m }

-- where processes meet there is a mode
shared_mode : (how : Meeting) (m : Option ModeTree) → holds_of (λ m. same_meeting how (meeting_of m)) m ≡ true → (k : ModeTree) × ((m ≡ Some k) × (same_meeting how (meeting_of k) ≡ true))
shared_mode how (Some k) holds = (k, (refl, holds))
shared_mode how None holds = absurd (true≢false (sym holds))

meets : (how : Meeting) (r : Row) → is_shared how r ≡ true → (k : ModeTree) × ((r.mode ≡ Some k) × (same_meeting how (meeting_of k) ≡ true))
meets how r holds = shared_mode how r.mode (both_right (is_location r.origin && is_direct r.inside) (holds_of (λ m. same_meeting how (meeting_of m)) r.mode) holds)

buffer_made : (d : ℕ) (r : Row) (m : ModeTree) → same_meeting meets_buffer (meeting_of m) ≡ true → IsSome (buffer_as d r m)
buffer_made d r (buffer l e) meet = refl
buffer_made d r (read m) meet = buffer_made d r m meet
buffer_made d r (named k n m) meet = buffer_made d r m meet
buffer_made d r m meet = absurd (true≢false (sym meet))

buffer_there : (d : ℕ) (r : Row) → is_shared meets_buffer r ≡ true → IsSome (buffer_row d r)
buffer_there d r holds = let m = meets meets_buffer r holds in subst (λ k. IsSome (option_and_then (buffer_as d r) k)) (sym m.1.0) (buffer_made d r m.0 m.1.1)

location_there : (rs : List Row) (d : ℕ) (r : Row) → is_shared meets_nothing r ≡ true → IsSome (location_row rs d r)
location_there rs d r holds = let m = meets meets_nothing r holds in ap (λ k. is_some (option_map (location_of rs d r) k)) m.1.0

event_there : (d : ℕ) (r : Row) → is_shared meets_event r ≡ true → IsSome (event_row d r)
event_there d r holds = let m = meets meets_event r holds in ap (λ k. is_some (option_map (event_of d r) k)) m.1.0

signal_there : (s : Source) (d : ℕ) (r : Row) (o : Origin) → OriginStands s d o → is_signal o ≡ true → IsSome (signal_as s d r o)
signal_there s d r (a_signal own) stands is = made_there (λ (ms : List ModeTree) (to : Option ℕ). record { definition = d; name = r.name; parts = ms; process = to }) (parts_known s.known d) (made_of_some (body_used s) own.process) stands.0 stands.1
signal_there s d r o stands is = absurd (true≢false (sym is))

-- ---- bodies

inside_there : (s : Source) (result : Option ModeTree) (around : sites.Around) (ps : List BodyTree) (h : Option HandlerTree) → AllNamesKnown s → IsAround s (in_body result) around → IsBodyClean s around ps h → IsSome (inside_of s result ps h)
inside_there s result around ps h known is clean_is =
    let first = sites_of_parts around (body_nodes ps) in
    let later = sites_of_handler around (handler_node h) in
    made_there (λ ss hs. (ss, hs)) (body s (in_body result) (body_nodes ps)) (handled s (in_body result) (handler_node h))
    (body_there s (in_body result) around (body_nodes ps) known is clean_is.exits (each_first (IsNodeClean s) first later clean_is.nodes))
    (handler_there s (in_body result) around (handler_node h) known is clean_is.handler_exits (each_later (IsNodeClean s) first later clean_is.nodes))

bodied : (s : Source) (d : ℕ) (r : Row) (o : Origin) → AllNamesKnown s → AllRowsClean s → OriginStands s d o → has_body o ≡ true → IsSome (body_as s d r o)
bodied s d r (a_process p) known all stands is =
    let b = suc (count_before (λ r. has_body r.origin) d s.rows) in
    made_there (process_body d r p) (locals_of s b) (inside_of s None p.body p.handler) (locals_there s b all) (inside_there s None in_no_procedure p.body p.handler known (outside s) stands)
bodied s d r (a_procedure p) known all stands is =
    let b = suc (count_before (λ r. has_body r.origin) d s.rows) in
    let result = result_there s p stands.1.0 in
    subst (λ x. IsSome (option_and_then (procedure_made s d r p) x)) (sym result.is)
    (three_there (procedure_body s d r p result.result) (listed_by s p.exceptions) (locals_of s b) (inside_of s result.result p.body p.handler) stands.0 (locals_there s b all)
    (inside_there s result.result (in_procedure p) p.body p.handler known result.around stands.1.1))
bodied s d r o known all stands is = absurd (true≢false (sym is))

five_there : {A B C D E F : Type 0} (f : A → B → C → D → E → F) (a : Option A) (b : Option B) (c : Option C) (d : Option D) (e : Option E) → IsSome a → IsSome b → IsSome c → IsSome d → IsSome e → IsSome (made_of_five f a b c d e)
five_there f (Some a) (Some b) (Some c) (Some d) (Some e) first second third fourth fifth = refl
five_there f None b c d e first second third fourth fifth = absurd (true≢false (sym first))
five_there f (Some a) None c d e first second third fourth fifth = absurd (true≢false (sym second))
five_there f (Some a) (Some b) None d e first second third fourth fifth = absurd (true≢false (sym third))
five_there f (Some a) (Some b) (Some c) None e first second third fourth fifth = absurd (true≢false (sym fourth))
five_there f (Some a) (Some b) (Some c) (Some d) None first second third fourth fifth = absurd (true≢false (sym fifth))

pub program_there : ProgramThereLaw
program_there s t known all items =
    let rs = s.rows in
    let bodies = rows_made (λ d r. body_as s d r r.origin) (λ r. has_body r.origin) 0 rs in
    let outer = made_there outermost_body (locals_of s 0) (modulions_done s (items_of t)) (locals_there s 0 all) (modulions_there s (items_of t) known items) in
    five_there (program_of s t) (rows_made (location_row rs) (is_shared meets_nothing) 0 rs) (rows_made event_row (is_shared meets_event) 0 rs) (rows_made buffer_row (is_shared meets_buffer) 0 rs) (rows_made (signal_row s) (λ r. is_signal r.origin) 0 rs) (bodies_of s t)
    (rows_there (location_row rs) (is_shared meets_nothing) rs (λ k r at holds. location_there rs k r holds))
    (rows_there event_row (is_shared meets_event) rs (λ k r at holds. event_there k r holds))
    (rows_there buffer_row (is_shared meets_buffer) rs (λ k r at holds. buffer_there k r holds))
    (rows_there (signal_row s) (λ r. is_signal r.origin) rs (λ k r at holds. signal_there s k r r.origin (all k r at).stands holds))
    (made_there (λ b bs. b ∷ bs) (outermost s t) bodies outer (rows_there (λ d r. body_as s d r r.origin) (λ r. has_body r.origin) rs (λ k r at holds. bodied s k r r.origin known all (all k r at).stands holds)))
