-- All is known of a name that elaborated expressions need, by what the ground tells of it and by where its row stands.
use Rattle.std.proofs.Common.{◌≡◌, ℕ, suc, ◌==◌, Bool, true, false, ◌&&◌, ◌||◌, List, [], ◌∷◌, length, Option, Some, None, ◌⊎◌, inl, inr, refl, sym, ap, ◌∙◌, subst, true≢false}
use Rattle.std.specs.Prelude.{IsSome, is_some, not, option_map, option_and_then}
use Rattle.chill_tree.specs.declared.tree.name.Name.{Name}
use Rattle.modes.specs.ModeTree.{ModeTree, ClassTree, value, nothing, int, boolean, char, instance, set_of, range, powerset, chars, array, structure, event, buffer, read, named}
use Rattle.modes.specs.Form.{form_of}
use Rattle.diagnostics.specs.declared.rule.Rule.TheVariants as rules
use Rattle.names_model.specs.NameRules.{tell}
use Rattle.checks_model.specs.Alike.{is_meeting}
use Rattle.checks_model.specs.Ground.{Ground, Origin, Entry, Predefined, of_mode, truth, no_instance, a_synonym, an_element, a_location, a_parameter, a_counter, a_received, a_procedure, a_process, a_signal, a_predefined, origin_of, entry_of, mode_of_entry, element_of, message_of, message_parts}
use Rattle.checks_model.specs.Operations.{is_routine, when}
use Rattle.checks_model.specs.Classes.{class_of_name, class_of_origin, located_name}
use Rattle.checks_model.specs.Constants.{is_constant_origin, value_of_name}
use Rattle.checks_model.specs.Told.{told_if, holds_of}
use Rattle.checks_model.specs.ProcessRules.{Meeting, meets_event, meets_buffer, meets_signal, meets_nothing, meeting_of, met_by, met_at, Purpose, for_events, for_messages, fits, told_misfit}
use Rattle.checks_model.specs.ValueRules.{returns_none}
use Rattle.elaborated_laws.specs.Known.{IsDeclarable}
use Rattle.elaborated_laws.proofs.Told.{not_broken, not_true, no_some, same_some, there_mapped, there_chained}
use Rattle.elaborated_laws.proofs.Classes.{element_is}
use Rattle.there_laws.specs.Constants.{IsMeasurable}
use Rattle.there_laws.proofs.Modes.{value_in}
use Rattle.elaboration_model.specs.Numbering.{Source, Thing, a_buffer, a_message, is_location, may_be_local, has_body, is_signal, thing_used, event_number, buffer_number}
use Rattle.elaboration_model.specs.Expressions.{base_of}
use Rattle.expression_laws.specs.Names.{stands_for_value, stands_for_location, stands_for_message, stands_for_procedure, stands_for_process, is_of_values, takes_parts, IsPlace, ArePlaces, MessageKnown, IsNameKnown}
use Rattle.expression_laws.specs.Things.{AllRowsPlaced, origin_is, is_counted, returns_mode, message_number, IsThingKnown, IsGroundKnown, NamesKnownLaw}
use Rattle.expression_laws.proofs.Operators.{map_there}
use Rattle.expression_laws.proofs.Parts.{is_there}
use Rattle.expression_laws.proofs.Places.{nothing_valued}
use Rattle.expression_laws.proofs.Things.{things_known}

-- ---- classes

pub name_class : (e : Option Entry) (o : Option Origin) → (is_constant_origin o ≡ true → IsSome (class_of_origin e o)) → IsMeasurable (located_name e o) → (origin_is is_counted o ≡ true → IsSome (mode_of_entry e)) → stands_for_value o ≡ true → IsSome (class_of_origin e o)
name_class e (Some (a_synonym s)) constant located counted stands = constant refl
name_class e (Some (an_element names part owner)) constant located counted stands = constant refl
name_class e (Some (a_location d)) constant located counted stands = map_there value (mode_of_entry e) located
name_class e (Some (a_parameter m)) constant located counted stands = map_there value (mode_of_entry e) located
name_class e (Some (a_counter c)) constant located counted stands = map_there value (mode_of_entry e) (counted refl)
name_class e (Some (a_received n count part)) constant located counted stands = map_there value (mode_of_entry e) (counted refl)
name_class e (Some (a_procedure p)) constant located counted stands = refl
name_class e (Some (a_predefined (of_mode m))) constant located counted stands = absurd (true≢false (sym stands))
name_class e (Some (a_predefined p)) constant located counted stands = refl
name_class e o constant located counted stands = absurd (true≢false (sym stands))

-- ---- places

by_mode : (m : Option ModeTree) (c : ClassTree) → option_map value m ≡ Some c → is_of_values c ≡ true → (k : ModeTree) × ((m ≡ Some k) × (not (is_meeting (form_of k)) ≡ true))
by_mode m c is valued = let there = there_mapped value m c is in (there.0, (there.1, subst (λ k. is_of_values k ≡ true) (sym there.2) valued))

-- the mode of the class of a name that is no constant is the name's own
own_mode : (e : Option Entry) (o : Option Origin) (c : ClassTree) → is_constant_origin o ≡ false → class_of_origin e o ≡ Some c → is_of_values c ≡ true → (origin_is may_be_local o ≡ true) × ((m : ModeTree) × ((mode_of_entry e ≡ Some m) × (not (is_meeting (form_of m)) ≡ true)))
own_mode e (Some (a_location d)) c form is valued = (refl, by_mode (mode_of_entry e) c is valued)
own_mode e (Some (a_parameter w)) c form is valued = (refl, by_mode (mode_of_entry e) c is valued)
own_mode e (Some (a_counter l)) c form is valued = (refl, by_mode (mode_of_entry e) c is valued)
own_mode e (Some (a_received n count part)) c form is valued = (refl, by_mode (mode_of_entry e) c is valued)
own_mode e (Some (a_procedure p)) c form is valued = nothing_valued true c is valued
own_mode e (Some (a_synonym s)) c form is valued = absurd (true≢false form)
own_mode e (Some (an_element names part owner)) c form is valued = absurd (true≢false form)
own_mode e (Some (a_predefined (truth b))) c form is valued = absurd (true≢false form)
own_mode e (Some (a_predefined no_instance)) c form is valued = absurd (true≢false form)
own_mode e (Some (a_predefined p)) c form is valued = nothing_valued (is_routine p) c is valued
own_mode e o c form is valued = no_some c is

-- ---- events, buffers and signals

same_location : (o : Option Origin) → stands_for_location o ≡ true → origin_is is_location o ≡ true
same_location (Some (a_location d)) stands = refl
same_location o stands = absurd (true≢false (sym stands))

same_body : (o : Option Origin) → stands_for_procedure o ≡ true → origin_is has_body o ≡ true
same_body (Some (a_procedure p)) stands = refl
same_body o stands = absurd (true≢false (sym stands))

same_process : (o : Option Origin) → stands_for_process o ≡ true → origin_is has_body o ≡ true
same_process (Some (a_process p)) stands = refl
same_process o stands = absurd (true≢false (sym stands))

-- what P3 says of a location of a mode
record LocationMeets (s : Source) (n : Name) (p : Purpose) : Type 0 where
  mode : ModeTree
  is : mode_of_entry (entry_of s.known n) ≡ Some mode
  fit : fits p (meeting_of mode) ≡ true

location_meets : (s : Source) (n : Name) (p : Purpose) → stands_for_location (origin_of s.known n) ≡ true → IsMeasurable (located_name (entry_of s.known n) (origin_of s.known n)) → told_misfit s.known p n ≡ [] → LocationMeets s n p
location_meets s n p stands located none = by (origin_of s.known n) stands located (not_broken (holds_of (λ m. not (fits p m)) (met_at s.known n)) (tell n.at rules.P3 n.text) none)
  where
    by : (o : Option Origin) → stands_for_location o ≡ true → IsMeasurable (located_name (entry_of s.known n) o) → holds_of (λ m. not (fits p m)) (met_by (entry_of s.known n) o) ≡ false → LocationMeets s n p
    by (Some (a_location d)) stands located fits_not =
        let m = value_in (mode_of_entry (entry_of s.known n)) located in
        record { mode = m.0; is = m.1; fit = not_true (fits p (meeting_of m.0)) (ap (λ x. holds_of (λ m. not (fits p m)) (option_map meeting_of x)) (sym m.1) ∙ fits_not) }
    by o stands located fits_not = absurd (true≢false (sym stands))

event_meets : (m : Meeting) → fits for_events m ≡ true → m ≡ meets_event
event_meets meets_event fit = refl
event_meets m fit = absurd (true≢false (sym fit))

-- a mode at which messages meet is a buffer's
buffer_meets : (m : ModeTree) → fits for_messages (meeting_of m) ≡ true → (meeting_of m ≡ meets_buffer) × IsSome (element_of m)
buffer_meets (buffer l e) fit = (refl, refl)
buffer_meets (read m) fit = buffer_meets m fit
buffer_meets (named d n m) fit = buffer_meets m fit
buffer_meets m fit = absurd (true≢false (sym fit))

element_meets : (m k : ModeTree) → element_of m ≡ Some k → meeting_of m ≡ meets_buffer
element_meets (buffer l e) k is = refl
element_meets (read m) k is = element_meets m k is
element_meets (named d n m) k is = element_meets m k is
element_meets m k is = no_some k is

-- a thing with a number of its own
number_of_thing : (f : Thing → Option ℕ) (t : Option Thing) → IsSome (option_and_then f t) → (x : Thing) × ((t ≡ Some x) × IsSome (f x))
number_of_thing f (Some x) there = (x, (refl, there))
number_of_thing f None there = absurd (true≢false (sym there))

buffer_takes : (t : Thing) → IsSome (buffer_number t) → takes_parts t 1 ≡ true
buffer_takes (a_buffer k) there = refl
buffer_takes t there = absurd (true≢false (sym there))

signal_takes : (t : Thing) (count : ℕ) → IsSome (message_number t) → takes_parts t count ≡ true
signal_takes (a_message k) count there = refl
signal_takes t count there = absurd (true≢false (sym there))

message_sorts : (o : Option Origin) → stands_for_message o ≡ true → (stands_for_location o ≡ true) ⊎ (origin_is is_signal o ≡ true)
message_sorts (Some (a_location d)) stands = inl refl
message_sorts (Some (a_signal s)) stands = inr refl
message_sorts o stands = absurd (true≢false (sym stands))

location_parts : (e : Option Entry) (o : Option Origin) (m k : ModeTree) → stands_for_location o ≡ true → mode_of_entry e ≡ Some m → element_of m ≡ Some k → message_of e o ≡ Some (Some k ∷ [])
location_parts e (Some (a_location d)) m k stands mode element = ap (λ x. option_map (λ m. Some m ∷ []) (option_and_then element_of x)) mode ∙ ap (option_map (λ m. Some m ∷ [])) element
location_parts e o m k stands mode element = absurd (true≢false (sym stands))

buffer_message : (s : Source) (n : Name) → IsGroundKnown s n → IsThingKnown s n → stands_for_location (origin_of s.known n) ≡ true → told_misfit s.known for_messages n ≡ [] → MessageKnown s n
buffer_message s n ground things stands none =
    let at = location_meets s n for_messages stands ground.there.located none in
    let meet = buffer_meets at.mode at.fit in
    let k = value_in (element_of at.mode) meet.1 in
    let t = number_of_thing buffer_number (thing_used s n) (things.buffer (same_location (origin_of s.known n) stands) at.mode at.is meet.0) in
    let place_is : IsPlace (Some k.0) = record { there = refl; fits = λ j same. subst IsDeclarable (same_some k.0 j same) (element_is at.mode k.0 (ground.modes.mode at.mode at.is) k.1) } in
    record {
      thing = t.0;
      used = t.1.0;
      parts = Some k.0 ∷ [];
      are = location_parts (entry_of s.known n) (origin_of s.known n) at.mode k.0 stands at.is k.1;
      places = (place_is, tt);
      takes = buffer_takes t.0 t.1.1;
    }

signal_message : (s : Source) (n : Name) → IsGroundKnown s n → IsThingKnown s n → origin_is is_signal (origin_of s.known n) ≡ true → MessageKnown s n
signal_message s n ground things stands =
    let ms = ground.parts stands in
    let t = number_of_thing message_number (thing_used s n) (things.signal stands) in
    record { thing = t.0; used = t.1.0; parts = ms.0; are = ms.1.0; places = ms.1.1; takes = signal_takes t.0 (length ms.0) t.1.1 }

-- ---- the law

returned : (o : Option Origin) → returns_none o ≡ false → stands_for_procedure o ≡ true → origin_is returns_mode o ≡ true
returned (Some (a_procedure p)) gives stands = not_true (is_some p.returns) gives
returned o gives stands = absurd (true≢false (sym stands))

element_there : (e : Option Entry) → IsSome (option_and_then element_of (mode_of_entry e)) → (m : ModeTree) × ((mode_of_entry e ≡ Some m) × (meeting_of m ≡ meets_buffer))
element_there e there =
    let k = value_in (option_and_then element_of (mode_of_entry e)) there in
    let m = there_chained element_of (mode_of_entry e) k.0 k.1 in
    (m.0, (m.1, element_meets m.0 k.0 m.2))

pub names_known : NamesKnownLaw
names_known s n all ground =
    let g = s.known in
    let e = entry_of g n in
    let o = origin_of g n in
    let things = things_known s n all in
    record {
      there = ground.there;
      modes = ground.modes;
      class = name_class e o (λ form. ground.known.class (ground.there.value form)) ground.there.located ground.counted;
      base = λ form c is valued. (let own = own_mode e o c form is valued in things.base own.0 own.1.0 own.1.1.0 own.1.1.1);
      buffer = λ stands there. (let m = element_there e there in things.buffer (same_location o stands) m.0 m.1.0 m.1.1);
      event = λ stands none. (let at = location_meets s n for_events stands ground.there.located none in things.event (same_location o stands) at.mode at.is (event_meets (meeting_of at.mode) at.fit));
      message = λ stands none. elim (message_sorts o stands) [
        | inl location ↦ buffer_message s n ground things location none
        | inr signal ↦ signal_message s n ground things signal
      ];
      result = λ gives stands. ground.result (returned o gives stands);
      called = λ stands. things.body (same_body o stands);
      started = λ stands. things.body (same_process o stands);
      formals = ground.formals;
      places = ground.places;
    }
