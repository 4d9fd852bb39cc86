-- What names are in the elaborated program, by where their definitions stand.
use Rattle.std.proofs.Common.{◌≡◌, ℕ, suc, ◌==◌, Bool, true, false, ◌&&◌, ◌||◌, List, [], ◌∷◌, Option, Some, None, refl, sym, ap, ◌∙◌, subst, true≢false}
use Rattle.std.proofs.lemmas.Bool.{eq-eqb}
use Rattle.std.specs.Prelude.{IsSome, is_some, not, if◌then◌else◌, option_map, option_and_then, slice_get}
use Rattle.chill_tree.specs.declared.tree.name.Name.{Name}
use Rattle.modes.specs.ModeTree.{ModeTree, int, boolean, char, instance, set_of, range, powerset, chars, array, structure, event, buffer, read, named}
use Rattle.modes.specs.Form.{form_of}
use Rattle.names_model.specs.declared.definition.Inside.{Inside}
use Rattle.names_model.specs.declared.definition.Inside.TheVariants as insides
use Rattle.checks_model.specs.Alike.{is_meeting}
use Rattle.checks_model.specs.Ground.{Origin, a_location, a_parameter, a_counter, a_received, a_procedure, a_process, a_signal, a_modulion, a_predefined, number_at, origin_of, entry_of, mode_of_entry}
use Rattle.checks_model.specs.Told.{holds_of}
use Rattle.checks_model.specs.ProcessRules.{Meeting, meets_event, meets_buffer, meets_signal, meets_nothing, meeting_of, is_event_or_buffer}
use Rattle.elaborated_laws.proofs.Told.{no_some, same_some, of_both, not_true}
use Rattle.elaboration_model.specs.Numbering.{Source, Row, is_direct, is_location, may_be_local, has_body, is_signal, is_region_origin, is_shared, same_meeting, count_before, body_number, body_of, body_around, is_local_of, Thing, a_shared, a_local, an_event, a_buffer, a_message, a_region, a_body, no_thing, thing_directly, local_in, thing_by, thing_of, thing_used, event_number, buffer_number, body_in}
use Rattle.elaboration_model.specs.Expressions.{base_of}
use Rattle.expression_laws.specs.Things.{IsRowPlaced, RowAt, is_of_text, AllRowsPlaced, origin_is, message_number, IsThingKnown, ThingsLaw}

-- ---- meetings by forms

meets_none : (m : ModeTree) → not (is_meeting (form_of m)) ≡ true → meeting_of m ≡ meets_nothing
meets_none int valued = refl
meets_none boolean valued = refl
meets_none char valued = refl
meets_none instance valued = refl
meets_none (set_of d n) valued = refl
meets_none (range p l h) valued = refl
meets_none (powerset m) valued = refl
meets_none (chars n) valued = refl
meets_none (array i e how) valued = refl
meets_none (structure fs p) valued = refl
meets_none (event l) valued = absurd (true≢false (sym valued))
meets_none (buffer l e) valued = absurd (true≢false (sym valued))
meets_none (read m) valued = meets_none m valued
meets_none (named d n m) valued = meets_none m valued

-- ---- where a row stands

-- directly in a modulion or not
directly : (rs : List Row) (i : Inside) → is_direct i ≡ true → body_around rs i ≡ None
directly rs insides.Outermost is = refl
directly rs (insides.Modulion d) is = refl
directly rs (insides.Body d) is = absurd (true≢false (sym is))
directly rs (insides.Block d) is = absurd (true≢false (sym is))

pub in_body : (rs : List Row) (i : Inside) → is_direct i ≡ false → (b : ℕ) × (body_around rs i ≡ Some b)
in_body rs insides.Outermost is = absurd (true≢false is)
in_body rs (insides.Modulion d) is = absurd (true≢false is)
in_body rs (insides.Body d) is = (body_of rs d, refl)
in_body rs (insides.Block d) is = (body_of rs d, refl)

direct_thing : (rs : List Row) (d : ℕ) (r : Row) → is_direct r.inside ≡ true → local_in rs d r (body_around rs r.inside) ≡ thing_directly rs d r
direct_thing rs d r is = ap (local_in rs d r) (directly rs r.inside is)

local_thing : (rs : List Row) (d : ℕ) (r : Row) → may_be_local r.origin ≡ true → is_direct r.inside ≡ false → IsSome (base_of (local_in rs d r (body_around rs r.inside)))
local_thing rs d r local is =
    let b = in_body rs r.inside is in
    let own = of_both (may_be_local r.origin) (holds_of (λ c. c == b.0) (body_around rs r.inside)) local (ap (holds_of (λ c. c == b.0)) b.1 ∙ eq-eqb b.0 b.0 refl) in
    ap (λ x. is_some (base_of (local_in rs d r x))) b.1 ∙ ap (λ x. is_some (base_of (if x then a_local b.0 (count_before (is_local_of rs b.0) d rs) else no_thing))) own

-- ---- shared locations

is_shared_so : (how : Meeting) (r : Row) (m : ModeTree) (meets : Bool) → is_location r.origin ≡ true → is_direct r.inside ≡ true → r.mode ≡ Some m → same_meeting how (meeting_of m) ≡ meets → is_shared how r ≡ meets
is_shared_so how r m meets location direct mode is =
    ap (λ b. (b && is_direct r.inside) && holds_of (λ m. same_meeting how (meeting_of m)) r.mode) location
    ∙ (ap (λ b. (true && b) && holds_of (λ m. same_meeting how (meeting_of m)) r.mode) direct ∙ (ap (holds_of (λ m. same_meeting how (meeting_of m))) mode ∙ is))

abbrev pub rest_of : List Row → ℕ → Row → Thing
rest_of rs d r =
    if is_signal r.origin then a_message (count_before (λ r. is_signal r.origin) d rs)
    else (if is_region_origin r.origin then a_region (count_before (λ r. is_region_origin r.origin) d rs)
    else (if has_body r.origin then a_body (body_number rs d) else no_thing))

-- the first that holds
abbrev thing_by_tests : List Row → ℕ → Row → Bool → Bool → Bool → Thing
thing_by_tests rs d r nothing_met event_met buffer_met =
    if nothing_met then a_shared (count_before (is_shared meets_nothing) d rs)
    else (if event_met then an_event (count_before (is_shared meets_event) d rs)
    else (if buffer_met then a_buffer (count_before (is_shared meets_buffer) d rs) else rest_of rs d r))

shared_thing : (rs : List Row) (d : ℕ) (r : Row) (m : ModeTree) (how : Meeting) → is_location r.origin ≡ true → is_direct r.inside ≡ true → r.mode ≡ Some m → meeting_of m ≡ how
    → local_in rs d r (body_around rs r.inside) ≡ thing_by_tests rs d r (same_meeting meets_nothing how) (same_meeting meets_event how) (same_meeting meets_buffer how)
shared_thing rs d r m how location direct mode is =
    direct_thing rs d r direct
    ∙ (ap (λ b. thing_by_tests rs d r b (is_shared meets_event r) (is_shared meets_buffer r)) (is_shared_so meets_nothing r m (same_meeting meets_nothing how) location direct mode (ap (same_meeting meets_nothing) is))
    ∙ (ap (λ b. thing_by_tests rs d r (same_meeting meets_nothing how) b (is_shared meets_buffer r)) (is_shared_so meets_event r m (same_meeting meets_event how) location direct mode (ap (same_meeting meets_event) is))
    ∙ ap (λ b. thing_by_tests rs d r (same_meeting meets_nothing how) (same_meeting meets_event how) b) (is_shared_so meets_buffer r m (same_meeting meets_buffer how) location direct mode (ap (same_meeting meets_buffer) is))))

-- what isn't a location isn't shared
pub apart_thing : (rs : List Row) (d : ℕ) (r : Row) → is_location r.origin ≡ false → is_direct r.inside ≡ true → local_in rs d r (body_around rs r.inside) ≡ rest_of rs d r
apart_thing rs d r location direct =
    let none : (how : Meeting) → is_shared how r ≡ false = λ how. ap (λ b. (b && is_direct r.inside) && holds_of (λ m. same_meeting how (meeting_of m)) r.mode) location in
    direct_thing rs d r direct
    ∙ (ap (λ b. thing_by_tests rs d r b (is_shared meets_event r) (is_shared meets_buffer r)) (none meets_nothing)
    ∙ (ap (λ b. thing_by_tests rs d r false b (is_shared meets_buffer r)) (none meets_event) ∙ ap (λ b. thing_by_tests rs d r false false b) (none meets_buffer)))

-- ---- a row

-- what a row is in the elaborated program
record RowThing (rs : List Row) (d : ℕ) (r : Row) : Type 0 where
  base : may_be_local r.origin ≡ true → (m : ModeTree) → r.mode ≡ Some m → not (is_meeting (form_of m)) ≡ true → IsSome (base_of (local_in rs d r (body_around rs r.inside)))
  event : is_location r.origin ≡ true → (m : ModeTree) → r.mode ≡ Some m → meeting_of m ≡ meets_event → IsSome (event_number (local_in rs d r (body_around rs r.inside)))
  buffer : is_location r.origin ≡ true → (m : ModeTree) → r.mode ≡ Some m → meeting_of m ≡ meets_buffer → IsSome (buffer_number (local_in rs d r (body_around rs r.inside)))
  signal : is_signal r.origin ≡ true → IsSome (message_number (local_in rs d r (body_around rs r.inside)))
  body : has_body r.origin ≡ true → IsSome (body_in (local_in rs d r (body_around rs r.inside)))

-- what stands in a body meets at nothing
never_inner : {A : Type 0} (r : Row) (m : ModeTree) (how : Meeting) → IsRowPlaced r → is_location r.origin ≡ true → is_event_or_buffer how ≡ true → is_direct r.inside ≡ false → r.mode ≡ Some m → meeting_of m ≡ how → A
never_inner r m how placed location meets inner mode is = absurd (true≢false (sym meets ∙ (ap is_event_or_buffer (sym is) ∙ placed.values location inner m mode)))

signal_origin : (o : Origin) → is_signal o ≡ true → (is_location o ≡ false) × ((has_body o || is_signal o) ≡ true)
signal_origin (a_signal s) is = (refl, refl)
signal_origin o is = absurd (true≢false (sym is))

body_origin : (o : Origin) → has_body o ≡ true → (is_location o ≡ false) × (((has_body o || is_signal o) ≡ true) × ((is_signal o ≡ false) × (is_region_origin o ≡ false)))
body_origin (a_procedure p) is = (refl, (refl, (refl, refl)))
body_origin (a_process p) is = (refl, (refl, (refl, refl)))
body_origin o is = absurd (true≢false (sym is))

row_thing : (rs : List Row) (d : ℕ) (r : Row) → IsRowPlaced r → RowThing rs d r
row_thing rs d r placed = record {
  base = λ local m mode valued. by_base local m mode valued (is_direct r.inside) refl;
  event = λ location m mode is. by_event location m mode is (is_direct r.inside) refl;
  buffer = λ location m mode is. by_buffer location m mode is (is_direct r.inside) refl;
  signal = λ is. (let o = signal_origin r.origin is in
      ap (λ x. is_some (message_number x)) (apart_thing rs d r o.0 (placed.direct o.1)) ∙ ap (λ b. is_some (message_number (if b then a_message (count_before (λ r. is_signal r.origin) d rs) else (if is_region_origin r.origin then a_region (count_before (λ r. is_region_origin r.origin) d rs) else (if has_body r.origin then a_body (body_number rs d) else no_thing))))) is);
  body = λ is. (let o = body_origin r.origin is in
      ap (λ x. is_some (body_in x)) (apart_thing rs d r o.0 (placed.direct o.1.0))
      ∙ (ap (λ b. is_some (body_in (if b then a_message (count_before (λ r. is_signal r.origin) d rs) else (if is_region_origin r.origin then a_region (count_before (λ r. is_region_origin r.origin) d rs) else (if has_body r.origin then a_body (body_number rs d) else no_thing))))) o.1.1.0
      ∙ (ap (λ b. is_some (body_in (if b then a_region (count_before (λ r. is_region_origin r.origin) d rs) else (if has_body r.origin then a_body (body_number rs d) else no_thing)))) o.1.1.1
      ∙ ap (λ b. is_some (body_in (if b then a_body (body_number rs d) else no_thing))) is)));
}
  where
    by_location : (b : Bool) → is_location r.origin ≡ b → may_be_local r.origin ≡ true → is_direct r.inside ≡ true → is_location r.origin ≡ true
    by_location true is local direct = is
    by_location false is local direct = absurd (true≢false (sym direct ∙ placed.inner (of_both (may_be_local r.origin) (not (is_location r.origin)) local (ap not is))))

    by_base : may_be_local r.origin ≡ true → (m : ModeTree) → r.mode ≡ Some m → not (is_meeting (form_of m)) ≡ true → (b : Bool) → is_direct r.inside ≡ b → IsSome (base_of (local_in rs d r (body_around rs r.inside)))
    by_base local m mode valued true direct = ap (λ x. is_some (base_of x)) (shared_thing rs d r m meets_nothing (by_location (is_location r.origin) refl local direct) direct mode (meets_none m valued))
    by_base local m mode valued false inner = local_thing rs d r local inner

    by_event : is_location r.origin ≡ true → (m : ModeTree) → r.mode ≡ Some m → meeting_of m ≡ meets_event → (b : Bool) → is_direct r.inside ≡ b → IsSome (event_number (local_in rs d r (body_around rs r.inside)))
    by_event location m mode is true direct = ap (λ x. is_some (event_number x)) (shared_thing rs d r m meets_event location direct mode is)
    by_event location m mode is false inner = never_inner r m meets_event placed location refl inner mode is

    by_buffer : is_location r.origin ≡ true → (m : ModeTree) → r.mode ≡ Some m → meeting_of m ≡ meets_buffer → (b : Bool) → is_direct r.inside ≡ b → IsSome (buffer_number (local_in rs d r (body_around rs r.inside)))
    by_buffer location m mode is true direct = ap (λ x. is_some (buffer_number x)) (shared_thing rs d r m meets_buffer location direct mode is)
    by_buffer location m mode is false inner = never_inner r m meets_buffer placed location refl inner mode is

-- ---- names

text_origin : (test : Origin → Bool) (o : Option Origin) → ((x : Origin) → test x ≡ true → is_of_text x ≡ true) → origin_is test o ≡ true → (x : Origin) × ((o ≡ Some x) × ((test x ≡ true) × (is_of_text x ≡ true)))
text_origin test (Some o) texts is = (o, (refl, (is, texts o is)))
text_origin test None texts is = absurd (true≢false (sym is))

-- what the row of a name's definition is
record NameRow (s : Source) (n : Name) (test : Origin → Bool) : Type 0 where
  number : ℕ
  at : number_at s.known.uses n.at ≡ Some number
  row : Row
  is : slice_get s.rows number ≡ Some row
  passes : test row.origin ≡ true
  mode : mode_of_entry (slice_get s.known.entries number) ≡ row.mode
  placed : IsRowPlaced row

name_row : (s : Source) (n : Name) (test : Origin → Bool) → AllRowsPlaced s → ((x : Origin) → test x ≡ true → is_of_text x ≡ true) → origin_is test (origin_of s.known n) ≡ true → NameRow s n test
name_row s n test all texts is = by (number_at s.known.uses n.at) refl is
  where
    by : (k : Option ℕ) → number_at s.known.uses n.at ≡ k → origin_is test (option_and_then (slice_get s.known.origins) k) ≡ true → NameRow s n test
    by None at is = absurd (true≢false (sym is))
    by (Some d) at is =
        let o = text_origin test (slice_get s.known.origins d) texts is in
        let r = all d o.0 o.1.0 o.1.1.1 in
        record { number = d; at = at; row = r.row; is = r.is; passes = subst (λ x. test x ≡ true) (sym r.origin) o.1.1.0; mode = r.mode; placed = r.placed }

named_thing : {A : Type 0} (s : Source) (n : Name) (test : Origin → Bool) (f : Thing → Option A) (k : NameRow s n test) → IsSome (f (local_in s.rows k.number k.row (body_around s.rows k.row.inside))) → IsSome (option_and_then f (thing_used s n))
named_thing s n test f k there =
    ap (λ x. is_some (option_and_then f (option_map (thing_of s.rows) x))) k.at ∙ (ap (λ x. is_some (f (thing_by s.rows k.number x))) k.is ∙ there)

named_mode : (s : Source) (n : Name) (test : Origin → Bool) (k : NameRow s n test) (m : ModeTree) → mode_of_entry (entry_of s.known n) ≡ Some m → k.row.mode ≡ Some m
named_mode s n test k m is = sym k.mode ∙ (sym (ap (λ x. mode_of_entry (option_and_then (slice_get s.known.entries) x)) k.at) ∙ is)

local_text : (x : Origin) → may_be_local x ≡ true → is_of_text x ≡ true
local_text (a_predefined p) is = is
local_text x is = refl

location_text : (x : Origin) → is_location x ≡ true → is_of_text x ≡ true
location_text (a_predefined p) is = is
location_text x is = refl

signal_text : (x : Origin) → is_signal x ≡ true → is_of_text x ≡ true
signal_text (a_predefined p) is = is
signal_text x is = refl

body_text : (x : Origin) → has_body x ≡ true → is_of_text x ≡ true
body_text (a_predefined p) is = is
body_text x is = refl

pub things_known : ThingsLaw
things_known s n all = record {
  base = λ is m mode valued. (let k = name_row s n may_be_local all local_text is in let t = row_thing s.rows k.number k.row k.placed in named_thing s n may_be_local base_of k (t.base k.passes m (named_mode s n may_be_local k m mode) valued));
  event = λ is m mode meets. (let k = name_row s n is_location all location_text is in let t = row_thing s.rows k.number k.row k.placed in named_thing s n is_location event_number k (t.event k.passes m (named_mode s n is_location k m mode) meets));
  buffer = λ is m mode meets. (let k = name_row s n is_location all location_text is in let t = row_thing s.rows k.number k.row k.placed in named_thing s n is_location buffer_number k (t.buffer k.passes m (named_mode s n is_location k m mode) meets));
  signal = λ is. (let k = name_row s n is_signal all signal_text is in let t = row_thing s.rows k.number k.row k.placed in named_thing s n is_signal message_number k (t.signal k.passes));
  body = λ is. (let k = name_row s n has_body all body_text is in let t = row_thing s.rows k.number k.row k.placed in named_thing s n has_body body_in k (t.body k.passes));
}
