-- The number of a definition leads to the row that is made of it.
use Rattle.std.proofs.lemmas.Bool.{cases_lt}
use Rattle.std.proofs.Common.{◌≡◌, ◌<◌, ◌+◌, ℕ, zero, suc, Bool, true, false, List, [], ◌∷◌, Option, Some, None, length, take, true≢false, arith, refl, sym, ap, ◌∙◌, subst, inl, inr, Contains}
use Rattle.std.specs.Prelude.{◌↔◌, ◌||◌, is_some, slice_get, cond, if◌then◌else◌}
use Rattle.std.specs.List.{filter, list_any}
use Rattle.names_laws.proofs.Members.{none_in, here_in, later_in, in_cases}
use Rattle.chill_tree.specs.ItemTree.{ProgramTree}
use Rattle.names_model.specs.declared.definition.Inside.{Inside}
use Rattle.names_model.specs.declared.names.Resolved.{Resolved}
use Rattle.modes.specs.ModeTree.{ModeTree}
use Rattle.checked_program.specs.declared.program.EventRow.{EventRow}
use Rattle.program_trees.specs.ProgramTree.{CheckedTree, LocationRowTree, BufferRowTree, SignalRowTree, LocalRowTree, BodyRowTree}
use Rattle.checks_model.specs.Told.{holds_of}
use Rattle.checks_model.specs.Limits.{scalars_in_mode}
use Rattle.checks_model.specs.ProcessRules.{meets_event, meets_buffer, meets_nothing}
use Rattle.checks_model.specs.Ground.{Ground, Origin, Predefined, of_mode, truth, no_instance, num, succ, pred, abs, card, min, max, upper, lower, size, put_int, put_text, put_nl, get_int, a_synonym, a_mode, an_element, a_location, a_parameter, a_counter, a_received, a_procedure, a_process, a_signal, a_modulion, a_predefined}
use Rattle.elaboration_model.specs.Parts.{made_of}
use Rattle.elaboration_model.specs.Numbering.{Source, Row, Thing, a_shared, a_local, an_event, a_buffer, a_message, a_region, a_body, no_thing, is_shared, is_signal, is_region_origin, is_local_of, has_body, count_before, body_number, body_around, thing_directly, local_in, thing_by, thing_of}
use Rattle.elaboration_model.specs.Elaborated.{rows_made, location_row, event_row, buffer_row, signal_row, local_row, local_rows, locals_of, body_as, outermost, bodies_of, is_get_int, reads_input, source_of, program_of, made_of_five, elaborated_by}
use Rattle.elaborated_laws.specs.Rows.{IsMadeOf, IsLocalOf, LeadsTo, RowsLaw, TextSizeLaw, UsesInput, ReadsInputLaw}
use Rattle.elaborated_laws.proofs.Told.{no_some, same_some}

-- ---- rows that are made

record ListParts {A : Type 0} (x : Option A) (xs : Option (List A)) (ys : List A) : Type 0 where
  first : A
  rest : List A
  of_first : x ≡ Some first
  of_rest : xs ≡ Some rest
  whole : first ∷ rest ≡ ys

list_parts : {A : Type 0} (x : Option A) (xs : Option (List A)) (ys : List A) → made_of (λ y ys. y ∷ ys) x xs ≡ Some ys → ListParts x xs ys
list_parts (Some x) (Some xs) ys is = record { first = x; rest = xs; of_first = refl; of_rest = refl; whole = same_some (x ∷ xs) ys is }
list_parts (Some x) None ys is = no_some ys is
list_parts None (Some xs) ys is = no_some ys is
list_parts None None ys is = no_some ys is

-- an entry at the number of the rows before it that pass
abbrev EntryAt : {A : Type 0} → (ℕ → Row → Option A) → List A → ℕ → ℕ → Row → Type 0
EntryAt {A} f xs place e r = (x : A) × (slice_get xs place ≡ Some x) × (f e r ≡ Some x)

passed : (test : Row → Bool) (k : ℕ) (q : Row) (rs : List Row) (b : Bool) → test q ≡ b → count_before test (suc k) (q ∷ rs) ≡ (if b then suc (count_before test k rs) else count_before test k rs)
passed test k q rs true is = ap (λ b. length (cond b (q ∷ filter test (take k rs)) (filter test (take k rs)))) is
passed test k q rs false is = ap (λ b. length (cond b (q ∷ filter test (take k rs)) (filter test (take k rs)))) is

step_at : {A : Type 0} (f : ℕ → Row → Option A) (test : Row → Bool) (d : ℕ) (q : Row) (rs : List Row) (xs : List A) (k e : ℕ) (r : Row) (b : Bool)
    → test q ≡ b → rows_made f test d (q ∷ rs) ≡ Some xs → ((ys : List A) → rows_made f test (suc d) rs ≡ Some ys → EntryAt f ys (count_before test k rs) e r) → EntryAt f xs (count_before test (suc k) (q ∷ rs)) e r
step_at f test d q rs xs k e r true is made later =
    let ps = list_parts (f d q) (rows_made f test (suc d) rs) xs (ap (λ b. if b then made_of (λ y ys. y ∷ ys) (f d q) (rows_made f test (suc d) rs) else rows_made f test (suc d) rs) (sym is) ∙ made) in
    let there = later ps.rest ps.of_rest in
    (there.0, ap (slice_get xs) (passed test k q rs true is) ∙ ap (λ l. slice_get l (suc (count_before test k rs))) (sym ps.whole) ∙ there.1, there.2)
step_at f test d q rs xs k e r false is made later =
    let there = later xs (ap (λ b. if b then made_of (λ y ys. y ∷ ys) (f d q) (rows_made f test (suc d) rs) else rows_made f test (suc d) rs) (sym is) ∙ made) in
    (there.0, ap (slice_get xs) (passed test k q rs false is) ∙ there.1, there.2)

made_at : {A : Type 0} (f : ℕ → Row → Option A) (test : Row → Bool) (d : ℕ) (rs : List Row) (xs : List A) (k e : ℕ) (r : Row)
    → rows_made f test d rs ≡ Some xs → slice_get rs k ≡ Some r → test r ≡ true → e ≡ d + k → EntryAt f xs (count_before test k rs) e r
made_at f test d [] xs k e r made at passes same = no_some r at
made_at f test d (q ∷ rs) xs zero e r made at passes same =
    let is = same_some q r at in
    let first : test q ≡ true = ap test is ∙ passes in
    let here : e ≡ d = omega (arith, same) in
    let ps = list_parts (f d q) (rows_made f test (suc d) rs) xs (ap (λ b. if b then made_of (λ y ys. y ∷ ys) (f d q) (rows_made f test (suc d) rs) else rows_made f test (suc d) rs) (sym first) ∙ made) in
    (ps.first, ap (λ l. slice_get l 0) (sym ps.whole), ap (λ n. f n r) here ∙ ap (f d) (sym is) ∙ ps.of_first)
made_at f test d (q ∷ rs) xs (suc k) e r made at passes same =
    step_at f test d q rs xs k e r (test q) refl made (λ ys rest. made_at f test (suc d) rs ys k e r rest at passes (let next : e ≡ suc d + k = omega (arith, same) in next))

abbrev LocalAt : List LocalRowTree → ℕ → Row → Type 0
LocalAt ls place r = (first : ℕ) × (x : LocalRowTree) × (slice_get ls place ≡ Some x) × (local_row r first r.mode ≡ Some x)

abbrev rest_behind : (Row → Bool) → ℕ → Row → List Row → Option (List LocalRowTree)
rest_behind test first q rs = local_rows test (first + scalars_in_mode q.mode) rs

step_local : (test : Row → Bool) (first : ℕ) (q : Row) (rs : List Row) (ls : List LocalRowTree) (k : ℕ) (r : Row) (b : Bool)
    → test q ≡ b → local_rows test first (q ∷ rs) ≡ Some ls → ((from : ℕ) (ys : List LocalRowTree) → local_rows test from rs ≡ Some ys → LocalAt ys (count_before test k rs) r) → LocalAt ls (count_before test (suc k) (q ∷ rs)) r
step_local test first q rs ls k r true is made later =
    let ps = list_parts (local_row q first q.mode) (rest_behind test first q rs) ls (ap (λ b. if b then made_of (λ y ys. y ∷ ys) (local_row q first q.mode) (rest_behind test first q rs) else local_rows test first rs) (sym is) ∙ made) in
    let there = later (first + scalars_in_mode q.mode) ps.rest ps.of_rest in
    (there.0, there.1, ap (slice_get ls) (passed test k q rs true is) ∙ ap (λ l. slice_get l (suc (count_before test k rs))) (sym ps.whole) ∙ there.2, there.3)
step_local test first q rs ls k r false is made later =
    let there = later first ls (ap (λ b. if b then made_of (λ y ys. y ∷ ys) (local_row q first q.mode) (rest_behind test first q rs) else local_rows test first rs) (sym is) ∙ made) in
    (there.0, there.1, ap (slice_get ls) (passed test k q rs false is) ∙ there.2, there.3)

local_at : (test : Row → Bool) (first : ℕ) (rs : List Row) (ls : List LocalRowTree) (k : ℕ) (r : Row)
    → local_rows test first rs ≡ Some ls → slice_get rs k ≡ Some r → test r ≡ true → LocalAt ls (count_before test k rs) r
local_at test first [] ls k r made at passes = no_some r at
local_at test first (q ∷ rs) ls zero r made at passes =
    let is = same_some q r at in
    let here : test q ≡ true = ap test is ∙ passes in
    let ps = list_parts (local_row q first q.mode) (rest_behind test first q rs) ls (ap (λ b. if b then made_of (λ y ys. y ∷ ys) (local_row q first q.mode) (rest_behind test first q rs) else local_rows test first rs) (sym here) ∙ made) in
    (first, ps.first, ap (λ l. slice_get l 0) (sym ps.whole), ap (λ (r : Row). local_row r first r.mode) (sym is) ∙ ps.of_first)
local_at test first (q ∷ rs) ls (suc k) r made at passes = step_local test first q rs ls k r (test q) refl made (λ from ys rest. local_at test from rs ys k r rest at passes)

-- fewer of the rows before one that passes than of all
step_fewer : (test : Row → Bool) (q : Row) (rs : List Row) (k : ℕ) (b : Bool) → test q ≡ b → count_before test k rs < length (filter test rs) → count_before test (suc k) (q ∷ rs) < length (filter test (q ∷ rs))
step_fewer test q rs k true is less =
    let all : length (filter test (q ∷ rs)) ≡ suc (length (filter test rs)) = ap (λ b. length (cond b (q ∷ filter test rs) (filter test rs))) is in
    let before : count_before test (suc k) (q ∷ rs) ≡ suc (count_before test k rs) = passed test k q rs true is in
    omega (arith, all, before, less)
step_fewer test q rs k false is less =
    let all : length (filter test (q ∷ rs)) ≡ length (filter test rs) = ap (λ b. length (cond b (q ∷ filter test rs) (filter test rs))) is in
    let before : count_before test (suc k) (q ∷ rs) ≡ count_before test k rs = passed test k q rs false is in
    omega (arith, all, before, less)

fewer_before : (test : Row → Bool) (rs : List Row) (k : ℕ) (r : Row) → slice_get rs k ≡ Some r → test r ≡ true → count_before test k rs < length (filter test rs)
fewer_before test [] k r at passes = no_some r at
fewer_before test (q ∷ rs) zero r at passes =
    let is : length (filter test (q ∷ rs)) ≡ suc (length (filter test rs)) = ap (λ b. length (cond b (q ∷ filter test rs) (filter test rs))) (ap test (same_some q r at) ∙ passes) in
    omega (arith, is)
fewer_before test (q ∷ rs) (suc k) r at passes = step_fewer test q rs k (test q) refl (fewer_before test rs k r at passes)

-- ---- the parts of a program

record ProgramParts (s : Source) (t : ProgramTree) (p : CheckedTree) (ls : Option (List LocationRowTree)) (es : Option (List EventRow)) (bs : Option (List BufferRowTree)) (ss : Option (List SignalRowTree)) (bodies : Option (List BodyRowTree)) : Type 0 where
  locations : ls ≡ Some p.locations
  events : es ≡ Some p.events
  buffers : bs ≡ Some p.buffers
  signals : ss ≡ Some p.signals
  of_bodies : bodies ≡ Some p.bodies
  whole : program_of s t p.locations p.events p.buffers p.signals p.bodies ≡ p

program_parts : (s : Source) (t : ProgramTree) (p : CheckedTree) (ls : Option (List LocationRowTree)) (es : Option (List EventRow)) (bs : Option (List BufferRowTree)) (ss : Option (List SignalRowTree)) (bodies : Option (List BodyRowTree))
    → made_of_five (program_of s t) ls es bs ss bodies ≡ Some p → ProgramParts s t p ls es bs ss bodies
program_parts s t p (Some ls) (Some es) (Some bs) (Some ss) (Some bodies) is =
    let same = same_some (program_of s t ls es bs ss bodies) p is in
    subst (λ (p : CheckedTree). ProgramParts s t p (Some ls) (Some es) (Some bs) (Some ss) (Some bodies)) same
    (record { locations = refl; events = refl; buffers = refl; signals = refl; of_bodies = refl; whole = refl })
program_parts s t p None None None None None is = no_some p is
program_parts s t p None None None None (Some bodies) is = no_some p is
program_parts s t p None None None (Some ss) None is = no_some p is
program_parts s t p None None None (Some ss) (Some bodies) is = no_some p is
program_parts s t p None None (Some bs) None None is = no_some p is
program_parts s t p None None (Some bs) None (Some bodies) is = no_some p is
program_parts s t p None None (Some bs) (Some ss) None is = no_some p is
program_parts s t p None None (Some bs) (Some ss) (Some bodies) is = no_some p is
program_parts s t p None (Some es) None None None is = no_some p is
program_parts s t p None (Some es) None None (Some bodies) is = no_some p is
program_parts s t p None (Some es) None (Some ss) None is = no_some p is
program_parts s t p None (Some es) None (Some ss) (Some bodies) is = no_some p is
program_parts s t p None (Some es) (Some bs) None None is = no_some p is
program_parts s t p None (Some es) (Some bs) None (Some bodies) is = no_some p is
program_parts s t p None (Some es) (Some bs) (Some ss) None is = no_some p is
program_parts s t p None (Some es) (Some bs) (Some ss) (Some bodies) is = no_some p is
program_parts s t p (Some ls) None None None None is = no_some p is
program_parts s t p (Some ls) None None None (Some bodies) is = no_some p is
program_parts s t p (Some ls) None None (Some ss) None is = no_some p is
program_parts s t p (Some ls) None None (Some ss) (Some bodies) is = no_some p is
program_parts s t p (Some ls) None (Some bs) None None is = no_some p is
program_parts s t p (Some ls) None (Some bs) None (Some bodies) is = no_some p is
program_parts s t p (Some ls) None (Some bs) (Some ss) None is = no_some p is
program_parts s t p (Some ls) None (Some bs) (Some ss) (Some bodies) is = no_some p is
program_parts s t p (Some ls) (Some es) None None None is = no_some p is
program_parts s t p (Some ls) (Some es) None None (Some bodies) is = no_some p is
program_parts s t p (Some ls) (Some es) None (Some ss) None is = no_some p is
program_parts s t p (Some ls) (Some es) None (Some ss) (Some bodies) is = no_some p is
program_parts s t p (Some ls) (Some es) (Some bs) None None is = no_some p is
program_parts s t p (Some ls) (Some es) (Some bs) None (Some bodies) is = no_some p is
program_parts s t p (Some ls) (Some es) (Some bs) (Some ss) None is = no_some p is

parts_of : (s : Source) (t : ProgramTree) (p : CheckedTree) → elaborated_by s t ≡ Some p
    → ProgramParts s t p (rows_made (location_row s.rows) (is_shared meets_nothing) 0 s.rows) (rows_made event_row (is_shared meets_event) 0 s.rows) (rows_made buffer_row (is_shared meets_buffer) 0 s.rows)
    (rows_made (signal_row s) (λ r. is_signal r.origin) 0 s.rows) (bodies_of s t)
parts_of s t p is =
    program_parts s t p (rows_made (location_row s.rows) (is_shared meets_nothing) 0 s.rows) (rows_made event_row (is_shared meets_event) 0 s.rows) (rows_made buffer_row (is_shared meets_buffer) 0 s.rows)
    (rows_made (signal_row s) (λ r. is_signal r.origin) 0 s.rows) (bodies_of s t) is

-- ---- where a definition leads

by_if : (s : Source) (p : CheckedTree) (d : ℕ) (c : Bool) (x y : Thing) → (c ≡ true → LeadsTo s p d x) → LeadsTo s p d y → LeadsTo s p d (if c then x else y)
by_if s p d true x y first later = first refl
by_if s p d false x y first later = later

made_of_row : {A : Type 0} (f : ℕ → Row → Option A) (test : Row → Bool) (rs : List Row) (xs : List A) (d : ℕ) (r : Row) → rows_made f test 0 rs ≡ Some xs → slice_get rs d ≡ Some r → test r ≡ true → IsMadeOf f rs d xs (count_before test d rs)
made_of_row f test rs xs d r made at passes =
    let there = made_at f test 0 rs xs d d r made at passes (omega arith) in
    (r, there.0, at, there.1, there.2)

body_leads : (s : Source) (t : ProgramTree) (p : CheckedTree) (d : ℕ) (r : Row) → bodies_of s t ≡ Some p.bodies → slice_get s.rows d ≡ Some r → has_body r.origin ≡ true → LeadsTo s p d (a_body (body_number s.rows d))
body_leads s t p d r bodies at passes =
    let ps = list_parts (outermost s t) (rows_made (λ d r. body_as s d r r.origin) (λ r. has_body r.origin) 0 s.rows) p.bodies bodies in
    let there = made_of_row (λ d r. body_as s d r r.origin) (λ r. has_body r.origin) s.rows ps.rest d r ps.of_rest at passes in
    (there.0, there.1, there.2, ap (λ l. slice_get l (body_number s.rows d)) (sym ps.whole) ∙ there.3, there.4)

directly : (s : Source) (t : ProgramTree) (p : CheckedTree) (d : ℕ) (r : Row) → elaborated_by s t ≡ Some p → slice_get s.rows d ≡ Some r → LeadsTo s p d (thing_directly s.rows d r)
directly s t p d r is at =
    let ps = parts_of s t p is in
    let rs = s.rows in
    let in_body = if has_body r.origin then a_body (body_number rs d) else no_thing in
    let in_region = if is_region_origin r.origin then a_region (count_before (λ r. is_region_origin r.origin) d rs) else in_body in
    let in_message = if is_signal r.origin then a_message (count_before (λ r. is_signal r.origin) d rs) else in_region in
    let in_buffer = if is_shared meets_buffer r then a_buffer (count_before (is_shared meets_buffer) d rs) else in_message in
    let in_event = if is_shared meets_event r then an_event (count_before (is_shared meets_event) d rs) else in_buffer in
    by_if s p d (is_shared meets_nothing r) (a_shared (count_before (is_shared meets_nothing) d rs)) in_event (λ holds. made_of_row (location_row rs) (is_shared meets_nothing) rs p.locations d r ps.locations at holds)
    (by_if s p d (is_shared meets_event r) (an_event (count_before (is_shared meets_event) d rs)) in_buffer (λ holds. made_of_row event_row (is_shared meets_event) rs p.events d r ps.events at holds)
    (by_if s p d (is_shared meets_buffer r) (a_buffer (count_before (is_shared meets_buffer) d rs)) in_message (λ holds. made_of_row buffer_row (is_shared meets_buffer) rs p.buffers d r ps.buffers at holds)
    (by_if s p d (is_signal r.origin) (a_message (count_before (λ r. is_signal r.origin) d rs)) in_region (λ holds. made_of_row (signal_row s) (λ r. is_signal r.origin) rs p.signals d r ps.signals at holds)
    (by_if s p d (is_region_origin r.origin) (a_region (count_before (λ r. is_region_origin r.origin) d rs)) in_body (λ holds. subst (λ (p : CheckedTree). count_before (λ r. is_region_origin r.origin) d rs < p.regions) ps.whole (fewer_before (λ r. is_region_origin r.origin) rs d r at holds))
    (by_if s p d (has_body r.origin) (a_body (body_number rs d)) no_thing (λ holds. body_leads s t p d r ps.of_bodies at holds) tt)))))

local_leads : (s : Source) (p : CheckedTree) (d b : ℕ) (r : Row) → slice_get s.rows d ≡ Some r → is_local_of s.rows b r ≡ true → LeadsTo s p d (a_local b (count_before (is_local_of s.rows b) d s.rows))
local_leads s p d b r at holds locals is =
    let there = local_at (is_local_of s.rows b) 0 s.rows locals d r is at holds in
    (there.0, (r, there.1, at, there.2, there.3))

in_some : (s : Source) (t : ProgramTree) (p : CheckedTree) (d : ℕ) (r : Row) (b : Option ℕ) → elaborated_by s t ≡ Some p → slice_get s.rows d ≡ Some r → LeadsTo s p d (local_in s.rows d r b)
in_some s t p d r None is at = directly s t p d r is at
in_some s t p d r (Some b) is at = by_if s p d (is_local_of s.rows b r) (a_local b (count_before (is_local_of s.rows b) d s.rows)) no_thing (local_leads s p d b r at) tt

by_row : (s : Source) (t : ProgramTree) (p : CheckedTree) (d : ℕ) (r : Option Row) → elaborated_by s t ≡ Some p → slice_get s.rows d ≡ r → LeadsTo s p d (thing_by s.rows d r)
by_row s t p d None is at = tt
by_row s t p d (Some r) is at = in_some s t p d r (body_around s.rows r.inside) is at

pub leads : RowsLaw
leads s t p d is = by_row s t p d (slice_get s.rows d) is refl

-- ---- size and input

pub text_size_is : TextSizeLaw
text_size_is g t p is = ap (λ (p : CheckedTree). p.size) (sym (parts_of (source_of g t) t p is).whole)

get_int_is : (o : Option Origin) → holds_of is_get_int o ≡ true → o ≡ Some (a_predefined get_int)
get_int_is None holds = absurd (true≢false (sym holds))
get_int_is (Some (a_predefined get_int)) holds = refl
get_int_is (Some (a_predefined num)) holds = absurd (true≢false (sym holds))
get_int_is (Some (a_predefined succ)) holds = absurd (true≢false (sym holds))
get_int_is (Some (a_predefined pred)) holds = absurd (true≢false (sym holds))
get_int_is (Some (a_predefined abs)) holds = absurd (true≢false (sym holds))
get_int_is (Some (a_predefined card)) holds = absurd (true≢false (sym holds))
get_int_is (Some (a_predefined min)) holds = absurd (true≢false (sym holds))
get_int_is (Some (a_predefined max)) holds = absurd (true≢false (sym holds))
get_int_is (Some (a_predefined upper)) holds = absurd (true≢false (sym holds))
get_int_is (Some (a_predefined lower)) holds = absurd (true≢false (sym holds))
get_int_is (Some (a_predefined size)) holds = absurd (true≢false (sym holds))
get_int_is (Some (a_predefined put_int)) holds = absurd (true≢false (sym holds))
get_int_is (Some (a_predefined put_text)) holds = absurd (true≢false (sym holds))
get_int_is (Some (a_predefined put_nl)) holds = absurd (true≢false (sym holds))
get_int_is (Some (a_predefined no_instance)) holds = absurd (true≢false (sym holds))
get_int_is (Some (a_predefined (of_mode m))) holds = absurd (true≢false (sym holds))
get_int_is (Some (a_predefined (truth b))) holds = absurd (true≢false (sym holds))
get_int_is (Some (a_synonym s)) holds = absurd (true≢false (sym holds))
get_int_is (Some (a_mode novel w)) holds = absurd (true≢false (sym holds))
get_int_is (Some (an_element names part owner)) holds = absurd (true≢false (sym holds))
get_int_is (Some (a_location l)) holds = absurd (true≢false (sym holds))
get_int_is (Some (a_parameter w)) holds = absurd (true≢false (sym holds))
get_int_is (Some (a_counter c)) holds = absurd (true≢false (sym holds))
get_int_is (Some (a_received n count part)) holds = absurd (true≢false (sym holds))
get_int_is (Some (a_procedure p)) holds = absurd (true≢false (sym holds))
get_int_is (Some (a_process p)) holds = absurd (true≢false (sym holds))
get_int_is (Some (a_signal s)) holds = absurd (true≢false (sym holds))
get_int_is (Some (a_modulion kind items)) holds = absurd (true≢false (sym holds))

record Passes (test : Resolved → Bool) (us : List Resolved) : Type 0 where
  used : Resolved
  among : Contains us used
  passes : test used ≡ true

step_passes : (test : Resolved → Bool) (u : Resolved) (us : List Resolved) (b : Bool) → test u ≡ b → (list_any test us ≡ true → Passes test us) → (b || list_any test us) ≡ true → Passes test (u ∷ us)
step_passes test u us true is later holds = record { used = u; among = here_in u us u refl; passes = is }
step_passes test u us false is later holds = let rest = later holds in record { used = rest.used; among = later_in u us rest.used rest.among; passes = rest.passes }

any_passes : (test : Resolved → Bool) (us : List Resolved) → list_any test us ≡ true → Passes test us
any_passes test [] holds = absurd (true≢false (sym holds))
any_passes test (u ∷ us) holds = step_passes test u us (test u) refl (λ rest. any_passes test us rest) holds

or_first : (a b : Bool) → a ≡ true → (a || b) ≡ true
or_first true b is = refl
or_first false b is = absurd (true≢false (sym is))

or_later : (a b : Bool) → b ≡ true → (a || b) ≡ true
or_later true b is = refl
or_later false b is = is

passes_any : (test : Resolved → Bool) (us : List Resolved) (v : Resolved) → Contains us v → test v ≡ true → list_any test us ≡ true
passes_any test [] v among passes = absurd (none_in v among)
passes_any test (u ∷ us) v among passes = elim (in_cases u us v among) [
  | inl is ↦ or_first (test u) (list_any test us) (ap test is ∙ passes)
  | inr there ↦ or_later (test u) (list_any test us) (passes_any test us v there passes)
]

reads_is : (g : Ground) → (reads_input g ≡ true) ↔ UsesInput g
reads_is g = (
  λ reads. let found = any_passes (λ u. holds_of is_get_int (slice_get g.origins u.to)) g.uses reads in record { used = found.used; is_use = found.among; is_get_int = get_int_is (slice_get g.origins found.used.to) found.passes },
  λ uses. passes_any (λ u. holds_of is_get_int (slice_get g.origins u.to)) g.uses uses.used uses.is_use (ap (holds_of is_get_int) uses.is_get_int),
)

pub reads_input_is : ReadsInputLaw
reads_input_is g t p is =
    let same : reads_input g ≡ p.reads_input = ap (λ (p : CheckedTree). p.reads_input) (parts_of (source_of g t) t p is).whole in
    let both = reads_is g in
    (λ reads. both.0 (same ∙ reads), λ uses. sym same ∙ both.1 uses)
