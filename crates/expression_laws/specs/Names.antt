-- What the elaboration of an expression needs of the names in it: what each has to stand for, and what is known of it.
use Rattle.std.specs.Prelude.{◌≡◌, ℕ, ◌==◌, Bool, true, false, ◌||◌, not, List, [], ◌∷◌, length, Option, Some, None, IsSome, option_and_then}
use Rattle.chill_tree.specs.declared.tree.name.Name.{Name}
use Rattle.chill_tree.specs.ExprTree.{ExprTree, ExprNodes, RangeTree, RangeNodes, whole, character, text, this_instance, paren, receive, start, tuple, uniform, name, apply, field, prefixed, binary, no_exprs, more_exprs, alone, between, no_ranges, more_ranges}
use Rattle.modes.specs.ModeTree.{ModeTree, ClassTree, value, derived, null, nothing}
use Rattle.modes.specs.Form.{form_of}
use Rattle.checks_model.specs.Alike.{is_meeting}
use Rattle.checks_model.specs.Ground.{Ground, Origin, Predefined, of_mode, a_synonym, an_element, a_location, a_parameter, a_counter, a_received, a_procedure, a_process, a_signal, a_predefined, origin_of, entry_of, mode_of_entry, buffer_element, message_parts}
use Rattle.checks_model.specs.Operations.{is_routine}
use Rattle.checks_model.specs.Classes.{class_of_name, callee_of}
use Rattle.checks_model.specs.Constants.{is_constant_origin}
use Rattle.checks_model.specs.ActionRules.{measures}
use Rattle.checks_model.specs.ProcessRules.{for_events, for_messages, told_misfit}
use Rattle.checks_model.specs.ValueRules.{returns_none}
use Rattle.elaborated_laws.specs.Known.{IsDeclarable}
use Rattle.elaborated_laws.specs.Classes.{HasModes, HasShortTexts, HaveShortTexts, RangeHasShortTexts, RangesHaveShortTexts}
use Rattle.written_laws.specs.Written.{HasNamed, HaveNamed, RangeHasNamed, RangesHaveNamed}
use Rattle.there_laws.specs.Table.{stands_for_mode, TuplesNamed, EachTuplesNamed, RangeTuplesNamed, RangesTuplesNamed, IsNameThere}
use Rattle.elaboration_model.specs.Numbering.{Source, Thing, a_buffer, a_message, thing_used, event_used, buffer_used, body_used}
use Rattle.elaboration_model.specs.Expressions.{Formal, base_of, formals_by, modes_by}

-- ---- what names stand for

abbrev pub is_predefined_value : Predefined → Bool
is_predefined_value (of_mode m) = false
is_predefined_value _ = true

-- what may begin a value or a location
abbrev pub stands_for_value : Option Origin → Bool
stands_for_value (Some (a_synonym s)) = true
stands_for_value (Some (an_element names part owner)) = true
stands_for_value (Some (a_location d)) = true
stands_for_value (Some (a_parameter m)) = true
stands_for_value (Some (a_counter c)) = true
stands_for_value (Some (a_received n count part)) = true
stands_for_value (Some (a_procedure p)) = true
stands_for_value (Some (a_predefined p)) = is_predefined_value p
stands_for_value _ = false

abbrev pub stands_for_location : Option Origin → Bool
stands_for_location (Some (a_location d)) = true
stands_for_location _ = false

abbrev pub stands_for_process : Option Origin → Bool
stands_for_process (Some (a_process p)) = true
stands_for_process _ = false

abbrev pub stands_for_procedure : Option Origin → Bool
stands_for_procedure (Some (a_procedure p)) = true
stands_for_procedure _ = false

-- what may be sent to, and received from
abbrev pub stands_for_message : Option Origin → Bool
stands_for_message (Some (a_location d)) = true
stands_for_message (Some (a_signal s)) = true
stands_for_message _ = false

-- what may be called as an action
abbrev pub stands_for_call : Option Origin → Bool
stands_for_call (Some (a_procedure p)) = true
stands_for_call (Some (a_predefined p)) = is_routine p
stands_for_call _ = false

-- a name alone may be a mode where it is measured
abbrev pub MayStand : Ground → Bool → ExprTree → Type 0 → Type 0
MayStand g true (name n) otherwise = (stands_for_value (origin_of g n) || stands_for_mode (origin_of g n)) ≡ true
MayStand g measured e otherwise = otherwise

abbrev mutual
  -- The names in an expression stand for what they have to, and more is so of those from which it receives; those before tuples are spoken of
  -- apart.
  pub StandsBy : (Name → Type 0) → Ground → ExprTree → Type 0
  StandsBy P g (whole at n) = Unit {0}
  StandsBy P g (character at n) = Unit {0}
  StandsBy P g (text at n) = Unit {0}
  StandsBy P g (this_instance at) = Unit {0}
  StandsBy P g (paren at e) = StandsBy P g e
  StandsBy P g (receive at n) = (stands_for_location (origin_of g n) ≡ true) × P n
  StandsBy P g (start at n es) = (stands_for_process (origin_of g n) ≡ true) × EachStandsBy P g false es
  StandsBy P g (tuple at n b rs) = RangesStandBy P g rs
  StandsBy P g (uniform at n b e) = StandsBy P g e
  StandsBy P g (name n) = stands_for_value (origin_of g n) ≡ true
  StandsBy P g (apply at e es) = StandsBy P g e × EachStandsBy P g (measures (callee_of g e)) es
  StandsBy P g (field at e n) = StandsBy P g e
  StandsBy P g (prefixed at o e) = StandsBy P g e
  StandsBy P g (binary at l o p r) = StandsBy P g l × StandsBy P g r

  -- arguments, which may be measured
  pub EachStandsBy : (Name → Type 0) → Ground → Bool → ExprNodes → Type 0
  EachStandsBy P g measured no_exprs = Unit {0}
  EachStandsBy P g measured (more_exprs e es) = MayStand g measured e (StandsBy P g e) × EachStandsBy P g measured es

  pub RangeStandsBy : (Name → Type 0) → Ground → RangeTree → Type 0
  RangeStandsBy P g (alone e) = StandsBy P g e
  RangeStandsBy P g (between l h) = StandsBy P g l × StandsBy P g h

  pub RangesStandBy : (Name → Type 0) → Ground → RangeNodes → Type 0
  RangesStandBy P g no_ranges = Unit {0}
  RangesStandBy P g (more_ranges r rs) = RangeStandsBy P g r × RangesStandBy P g rs

-- P3 isn't told of a name from which something is received
abbrev pub IsMet : Ground → Name → Type 0
IsMet g n = told_misfit g for_messages n ≡ []

abbrev pub Stands : Ground → ExprTree → Type 0
Stands g e = StandsBy (IsMet g) g e

abbrev pub EachStands : Ground → Bool → ExprNodes → Type 0
EachStands g measured es = EachStandsBy (IsMet g) g measured es

abbrev pub RangeStands : Ground → RangeTree → Type 0
RangeStands g r = RangeStandsBy (IsMet g) g r

abbrev pub RangesStand : Ground → RangeNodes → Type 0
RangesStand g rs = RangesStandBy (IsMet g) g rs

-- an expression as a text has it that breaks no rule on names, and P3 not in it
pub record IsWellNamed (g : Ground) (e : ExprTree) : Type 0 where
  pub short : HasShortTexts e
  pub paths : HasNamed e
  pub tuples : TuplesNamed g e
  pub stands : Stands g e

-- so are expressions, which may be measured
pub record AreWellNamed (g : Ground) (measured : Bool) (es : ExprNodes) : Type 0 where
  pub short : HaveShortTexts es
  pub paths : HaveNamed es
  pub tuples : EachTuplesNamed g es
  pub stands : EachStands g measured es

pub record IsRangeWellNamed (g : Ground) (r : RangeTree) : Type 0 where
  pub short : RangeHasShortTexts r
  pub paths : RangeHasNamed r
  pub tuples : RangeTuplesNamed g r
  pub stands : RangeStands g r

pub record AreRangesWellNamed (g : Ground) (rs : RangeNodes) : Type 0 where
  pub short : RangesHaveShortTexts rs
  pub paths : RangesHaveNamed rs
  pub tuples : RangesTuplesNamed g rs
  pub stands : RangesStand g rs

-- ---- what is known of names

-- an event or a buffer is no value, and a name that is called has none
abbrev pub is_of_values : ClassTree → Bool
is_of_values (value m) = not (is_meeting (form_of m))
is_of_values (derived m) = not (is_meeting (form_of m))
is_of_values null = true
is_of_values nothing = false

-- a place has a mode, and this is one that a location may have
pub record IsPlace (m : Option ModeTree) : Type 0 where
  pub there : IsSome m
  pub fits : (k : ModeTree) → m ≡ Some k → IsDeclarable k

abbrev pub ArePlaces : List (Option ModeTree) → Type 0
ArePlaces [] = Unit {0}
ArePlaces (m ∷ ms) = IsPlace m × ArePlaces ms

abbrev pub AreFormals : List Formal → Type 0
AreFormals [] = Unit {0}
AreFormals (f ∷ fs) = IsPlace f.1 × AreFormals fs

-- a buffer takes one part, and a signal its own
abbrev pub takes_parts : Thing → ℕ → Bool
takes_parts (a_buffer k) count = count == 1
takes_parts (a_message k) count = true
takes_parts _ count = false

-- what a message is sent to, and the modes of its parts
pub record MessageKnown (s : Source) (n : Name) : Type 0 where
  pub thing : Thing
  pub used : thing_used s n ≡ Some thing
  pub parts : List (Option ModeTree)
  pub are : message_parts s.known n ≡ Some parts
  pub places : ArePlaces parts
  pub takes : takes_parts thing (length parts) ≡ true

-- What is known of a name: what constants and modes need, and that its modes are such as a location may have; the class of a value; where
-- a location, a parameter, a counter and a received name are kept; the numbers of buffers, events and signals; and of what is called or started its number,
-- its result and the modes of its parameters.
pub record IsNameKnown (s : Source) (n : Name) : Type 0 where
  pub there : IsNameThere s.known n
  pub modes : HasModes s.known n
  pub class : stands_for_value (origin_of s.known n) ≡ true → IsSome (class_of_name s.known n)
  pub base : is_constant_origin (origin_of s.known n) ≡ false → (c : ClassTree) → class_of_name s.known n ≡ Some c → is_of_values c ≡ true → IsSome (option_and_then base_of (thing_used s n))
  pub buffer : stands_for_location (origin_of s.known n) ≡ true → IsSome (buffer_element s.known n) → IsSome (buffer_used s n)
  pub event : stands_for_location (origin_of s.known n) ≡ true → told_misfit s.known for_events n ≡ [] → IsSome (event_used s n)
  pub message : stands_for_message (origin_of s.known n) ≡ true → told_misfit s.known for_messages n ≡ [] → MessageKnown s n
  pub result : returns_none (origin_of s.known n) ≡ false → stands_for_procedure (origin_of s.known n) ≡ true → IsSome (mode_of_entry (entry_of s.known n))
  pub called : stands_for_procedure (origin_of s.known n) ≡ true → IsSome (body_used s n)
  pub started : stands_for_process (origin_of s.known n) ≡ true → IsSome (body_used s n)
  pub formals : AreFormals (formals_by s (origin_of s.known n))
  pub places : ArePlaces (modes_by s (origin_of s.known n))

abbrev pub AllNamesKnown : Source → Type 0
AllNamesKnown s = (n : Name) → IsNameKnown s n
