-- What each definition is in the elaborated program: its number in the list that it stands in. Each list is in the order of
-- the text.
use Rattle.std.specs.Prelude.{ℕ, suc, ◌==◌, Bool, true, false, ◌&&◌, if◌then◌else◌, List, [], ◌∷◌, length, take, Option, Some, None, option_map, option_and_then, slice_get}
use Rattle.std.specs.List.{filter}
use Rattle.chill_tree.specs.declared.tree.name.Name.{Name}
use Rattle.names_model.specs.declared.definition.Definition.{Definition}
use Rattle.names_model.specs.declared.definition.Inside.{Inside}
use Rattle.names_model.specs.declared.definition.Inside.TheVariants as insides
use Rattle.names_model.specs.ItemParts.{is_region}
use Rattle.modes.specs.ModeTree.{ModeTree}
use Rattle.checks_model.specs.Ground.{Ground, Origin, Entry, a_location, a_parameter, a_counter, a_received, a_procedure, a_process, a_signal, a_modulion, number_at}
use Rattle.checks_model.specs.Told.{holds_of}
use Rattle.checks_model.specs.ProcessRules.{Meeting, meets_event, meets_buffer, meets_nothing, meeting_of}

-- a definition of the text: its name, where it stands, what it is defined by, and its mode
pub record Row : Type 0 where
  pub name : List ℕ
  pub inside : Inside
  pub origin : Origin
  pub mode : Option ModeTree

abbrev pub rows : List Definition → List Origin → List Entry → List Row
rows (d ∷ ds) (o ∷ os) (e ∷ es) = record { name = d.name.spelling; inside = d.inside; origin = o; mode = e.mode } ∷ rows ds os es
rows _ _ _ = []

-- what an elaborated program is made of: what is known of its names, the definitions of its text, and the spellings of the
-- exceptions that are its own, by their numbers
pub record Source : Type 0 where
  pub known : Ground
  pub rows : List Row
  pub own_exceptions : List (List ℕ)

-- ---- which list a definition stands in

-- not in a body or a block
abbrev pub is_direct : Inside → Bool
is_direct insides.Outermost = true
is_direct (insides.Modulion d) = true
is_direct (insides.Body d) = false
is_direct (insides.Block d) = false

abbrev pub is_location : Origin → Bool
is_location (a_location d) = true
is_location _ = false

abbrev pub is_parameter : Origin → Bool
is_parameter (a_parameter m) = true
is_parameter _ = false

-- what is a local where it stands in a body or a block
abbrev pub may_be_local : Origin → Bool
may_be_local (a_location d) = true
may_be_local (a_parameter m) = true
may_be_local (a_counter c) = true
may_be_local (a_received n count part) = true
may_be_local _ = false

abbrev pub has_body : Origin → Bool
has_body (a_procedure p) = true
has_body (a_process p) = true
has_body _ = false

abbrev pub is_signal : Origin → Bool
is_signal (a_signal s) = true
is_signal _ = false

abbrev pub is_modulion : Origin → Bool
is_modulion (a_modulion kind items) = true
is_modulion _ = false

abbrev pub is_region_origin : Origin → Bool
is_region_origin (a_modulion kind items) = is_region kind
is_region_origin _ = false

abbrev pub same_meeting : Meeting → Meeting → Bool
same_meeting meets_event meets_event = true
same_meeting meets_buffer meets_buffer = true
same_meeting meets_nothing meets_nothing = true
same_meeting _ _ = false

-- a location of a modulion at which processes meet so
abbrev pub is_shared : Meeting → Row → Bool
is_shared how r = (is_location r.origin && is_direct r.inside) && holds_of (λ m. same_meeting how (meeting_of m)) r.mode

-- ---- numbers

-- how many of the definitions before that of a number are such
abbrev pub count_before : (Row → Bool) → ℕ → List Row → ℕ
count_before test d rs = length (filter test (take d rs))

-- the outermost process has the number 0
abbrev pub body_number : List Row → ℕ → ℕ
body_number rs d = suc (count_before (λ r. has_body r.origin) d rs)

-- the body that a procedure or process has; the blocks of modulions are in the outermost one
abbrev pub body_by : List Row → ℕ → Option Row → ℕ
body_by rs d r = if holds_of (λ r. has_body r.origin) r then body_number rs d else 0

abbrev pub body_of : List Row → ℕ → ℕ
body_of rs d = body_by rs d (slice_get rs d)

-- the body in which something stands that isn't directly in a modulion
abbrev pub body_around : List Row → Inside → Option ℕ
body_around rs insides.Outermost = None
body_around rs (insides.Modulion d) = None
body_around rs (insides.Body d) = Some (body_of rs d)
body_around rs (insides.Block d) = Some (body_of rs d)

abbrev pub is_local_of : List Row → ℕ → Row → Bool
is_local_of rs b r = may_be_local r.origin && holds_of (λ c. c == b) (body_around rs r.inside)

pub data Thing : Type 0 where
  a_shared : ℕ → Thing
  -- the body, and the number among its locals
  a_local : ℕ → ℕ → Thing
  an_event : ℕ → Thing
  a_buffer : ℕ → Thing
  a_message : ℕ → Thing
  a_region : ℕ → Thing
  a_body : ℕ → Thing
  no_thing : Thing

abbrev pub thing_directly : List Row → ℕ → Row → Thing
thing_directly rs d r =
    if is_shared meets_nothing r then a_shared (count_before (is_shared meets_nothing) d rs)
    else (if is_shared meets_event r then an_event (count_before (is_shared meets_event) d rs)
    else (if is_shared meets_buffer r then a_buffer (count_before (is_shared meets_buffer) d rs)
    else (if is_signal r.origin then a_message (count_before (λ r. is_signal r.origin) d rs)
    else (if is_region_origin r.origin then a_region (count_before (λ r. is_region_origin r.origin) d rs)
    else (if has_body r.origin then a_body (body_number rs d) else no_thing)))))

abbrev pub local_in : List Row → ℕ → Row → Option ℕ → Thing
local_in rs d r None = thing_directly rs d r
local_in rs d r (Some b) = if is_local_of rs b r then a_local b (count_before (is_local_of rs b) d rs) else no_thing

abbrev pub thing_by : List Row → ℕ → Option Row → Thing
thing_by rs d None = no_thing
thing_by rs d (Some r) = local_in rs d r (body_around rs r.inside)

-- what the definition of a number is
abbrev pub thing_of : List Row → ℕ → Thing
thing_of rs d = thing_by rs d (slice_get rs d)

-- what the name used there, or defined there, is
abbrev pub thing_used : Source → Name → Option Thing
thing_used s n = option_map (thing_of s.rows) (number_at s.known.uses n.at)

abbrev pub thing_defined : Source → Name → Option Thing
thing_defined s n = option_map (thing_of s.rows) (number_at s.known.defined n.at)

abbrev pub event_number : Thing → Option ℕ
event_number (an_event k) = Some k
event_number _ = None

abbrev pub buffer_number : Thing → Option ℕ
buffer_number (a_buffer k) = Some k
buffer_number _ = None

abbrev pub source_number : Thing → Option ℕ
source_number (a_buffer k) = Some k
source_number (a_message k) = Some k
source_number _ = None

abbrev pub local_number : Thing → Option ℕ
local_number (a_local b k) = Some k
local_number _ = None

abbrev pub body_in : Thing → Option ℕ
body_in (a_body b) = Some b
body_in _ = None

abbrev pub region_number : Thing → Option ℕ
region_number (a_region k) = Some k
region_number _ = None

abbrev pub event_used : Source → Name → Option ℕ
event_used s n = option_and_then event_number (thing_used s n)

abbrev pub buffer_used : Source → Name → Option ℕ
buffer_used s n = option_and_then buffer_number (thing_used s n)

abbrev pub body_used : Source → Name → Option ℕ
body_used s n = option_and_then body_in (thing_used s n)

abbrev pub local_defined : Source → Name → Option ℕ
local_defined s n = option_and_then local_number (thing_defined s n)
