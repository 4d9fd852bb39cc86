-- The modes of what is kept in bodies, and of what is sent, are of the language.
use Rattle.std.proofs.Common.{◌≡◌, ℕ, zero, suc, ◌==◌, Bool, true, false, ◌&&◌, List, [], ◌∷◌, length, Option, Some, None, true≢false, refl, sym, ap, ◌∙◌, subst}
use Rattle.std.specs.Prelude.{All, map, slice_get, option_map, option_and_then, if◌then◌else◌}
use Rattle.std.proofs.lemmas.List.Elements.{All-nil, All-cons}
use Rattle.diagnostics.specs.declared.diagnostic.Diagnostic.{Diagnostic}
use Rattle.chill_tree.specs.declared.tree.name.Name.{Name}
use Rattle.chill_tree.specs.ExprTree.{ExprTree}
use Rattle.chill_tree.specs.ModeTree as written
use Rattle.chill_tree.specs.SimpleTree.{ControlTree, while_holds, for_ever, for_members, for_steps}
use Rattle.chill_tree.specs.ItemTree.{SignalTree, ProcedureTree, ProgramTree}
use Rattle.modes.specs.ModeTree.{ModeTree, ClassTree, value, derived, null, nothing, int, boolean, char, instance, set_of, range, powerset, chars, array, structure, event, buffer, read, named}
use Rattle.modes.specs.Form.{FormTree, form_of, of_powerset, of_int, of_boolean, of_char, of_set}
use Rattle.modes.specs.Roots.{root_of}
use Rattle.modes.specs.Language.{IsOfLanguage}
use Rattle.checks_model.specs.Alike.{mode_in, are_compatible, class_is, is_discrete, is_meeting}
use Rattle.checks_model.specs.Ground.{Ground, Entry, Origin, a_location, a_parameter, a_counter, a_received, a_procedure, a_signal, origin_of, entry_of, number_at, entry_defined, mode_of_entry, element_of, message_of, message_parts}
use Rattle.checks_model.specs.Operations.{form_in, their_class}
use Rattle.checks_model.specs.Classes.{class_of}
use Rattle.checks_model.specs.ProcessRules.{Meeting, meets_nothing, meeting_of, is_event_or_buffer}
use Rattle.checks_model.specs.WrittenModes.{mode_of, some_mode_of}
use Rattle.checks_model.specs.ValueRules.{nothing_asked, told_in, clean_class}
use Rattle.checks_model.specs.ActionRules.{clean, counter_of_both, member_in, counter_mode}
use Rattle.checks_model.specs.Phases.{some_expr, exprs_of_control}
use Rattle.checks_model.specs.Table.{received_mode, parts_of_signal, entry_with_counters}
use Rattle.checks_model.specs.Diagnoses.{BreaksNoRule}
use Rattle.table_laws.specs.Names.{names_in}
use Rattle.elaborated_laws.specs.Known.{IsDeclarable}
use Rattle.elaborated_laws.specs.Classes.{HasDeclarable, HaveModes}
use Rattle.elaborated_laws.specs.Entries.{IsSomeWritten, AllWritten, AreSomeWritten}
use Rattle.elaborated_laws.proofs.Told.{no_some, same_some, both_left, both_right, there_mapped, there_chained}
use Rattle.elaborated_laws.proofs.Modes.{language_declarable, declarable_language}
use Rattle.elaborated_laws.proofs.Classes.{form_is, FormIs, read_of, root_declarable, class_mode, no_receiver}
use Rattle.written_laws.specs.Written.{Each}
use Rattle.there_laws.proofs.CounterModes.{names_modes}
use Rattle.there_laws.proofs.Shapes.{root_form}
use Rattle.elaboration_model.specs.Parts.{made_each}
use Rattle.elaboration_model.specs.Numbering.{same_meeting, is_location, may_be_local}
use Rattle.expression_laws.specs.Names.{IsWellNamed}
use Rattle.expression_laws.proofs.Operators.{if_there}
use Rattle.expression_laws.proofs.Actions.{each_later}
use Rattle.program_laws.proofs.Counters.{loop_well}
use Rattle.program_laws.proofs.Defined.{defined_in, origin_so, entry_at, own_mode, written_so, part_language, location_place}
use Rattle.head_laws.proofs.Rows.{made_parts}

-- ---- forms

-- a mode that a location may have, at which nothing meets, is of the language
pub none_meets : (m : ModeTree) → IsDeclarable m → is_event_or_buffer (meeting_of m) ≡ false → IsOfLanguage m
none_meets int fits none = fits
none_meets boolean fits none = fits
none_meets char fits none = fits
none_meets instance fits none = fits
none_meets (set_of d n) fits none = fits
none_meets (range p l h) fits none = fits
none_meets (powerset m) fits none = fits
none_meets (chars n) fits none = fits
none_meets (array i e how) fits none = fits
none_meets (structure fs p) fits none = fits
none_meets (event l) fits none = absurd (true≢false none)
none_meets (buffer l e) fits none = absurd (true≢false none)
none_meets (read m) fits none = fits
none_meets (named d n m) fits none = let inner = none_meets m fits none in record { parts = inner.parts; size = inner.size }

pub nothing_meets : (m : ModeTree) → same_meeting meets_nothing (meeting_of m) ≡ true → is_event_or_buffer (meeting_of m) ≡ false
nothing_meets m none = by (meeting_of m) none
  where
    by : (how : Meeting) → same_meeting meets_nothing how ≡ true → is_event_or_buffer how ≡ false
    by meets_nothing none = refl
    by how none = absurd (true≢false (sym none))

element_language : (m k : ModeTree) → IsDeclarable m → element_of m ≡ Some k → IsOfLanguage k
element_language (buffer l e) k fits is = subst IsOfLanguage (same_some e k is) fits
element_language (read m) k fits is = element_language m k (language_declarable m (read_of m fits)) is
element_language (named d n m) k fits is = element_language m k fits is
element_language m k fits is = no_some k is

discrete_values : (f : FormTree) → is_discrete f ≡ true → is_meeting f ≡ false
discrete_values of_int is = refl
discrete_values of_boolean is = refl
discrete_values of_char is = refl
discrete_values (of_set d n) is = refl
discrete_values f is = absurd (true≢false (sym is))

-- ---- messages

-- a part, where it is there, is of the language
abbrev pub IsPartFit : Option ModeTree → Type 0
IsPartFit m = (k : ModeTree) → m ≡ Some k → IsOfLanguage k

part_at : (ms : List (Option ModeTree)) (part : ℕ) (m : ModeTree) → Each IsPartFit ms → option_and_then (λ m. m) (slice_get ms part) ≡ Some m → IsOfLanguage m
part_at [] part m each is = no_some m is
part_at (x ∷ ms) zero m each is = each.0 m is
part_at (x ∷ ms) (suc part) m each is = part_at ms part m each.1 is

received_language : (ms : Option (List (Option ModeTree))) (count part : ℕ) (m : ModeTree) → ((xs : List (Option ModeTree)) → ms ≡ Some xs → Each IsPartFit xs) → received_mode ms count part ≡ Some m → IsOfLanguage m
received_language None count part m each is = no_some m is
received_language (Some xs) count part m each is = by (length xs == count) is
  where
    by : (b : Bool) → (if b then option_and_then (λ m. m) (slice_get xs part) else None) ≡ Some m → IsOfLanguage m
    by true is = part_at xs part m (each xs refl) is
    by false is = no_some m is

one_part : (x : Option ModeTree) (xs : List (Option ModeTree)) → ((k : ModeTree) → x ≡ Some k → IsOfLanguage k) → option_map (λ m. Some m ∷ []) x ≡ Some xs → Each IsPartFit xs
one_part x xs fits is =
    let there = there_mapped (λ m. Some m ∷ []) x xs is in
    subst (λ ys. Each IsPartFit ys) there.2 ((λ k same. subst IsOfLanguage (same_some there.0 k same) (fits there.0 there.1)), tt)

messages_language : (e : Option Entry) (o : Option Origin) (xs : List (Option ModeTree)) → ((m : ModeTree) → mode_of_entry e ≡ Some m → IsDeclarable m)
    → ((s : SignalTree) (x : Entry) → o ≡ Some (a_signal s) → e ≡ Some x → Each IsPartFit x.parts) → message_of e o ≡ Some xs → Each IsPartFit xs
messages_language e (Some (a_signal s)) xs modes parts is = let there = there_mapped (λ (x : Entry). x.parts) e xs is in subst (λ ys. Each IsPartFit ys) there.2 (parts s there.0 refl there.1)
messages_language e o xs modes parts is =
    one_part (option_and_then element_of (mode_of_entry e)) xs (λ k same. let there = there_chained element_of (mode_of_entry e) k same in element_language there.0 k (modes there.0 there.1) there.2) is

-- ---- counters

clean_some : (inside : List Diagnostic) (x : Option ClassTree) (c : ClassTree) → clean_class inside x ≡ Some c → x ≡ Some c
clean_some [] x c is = is
clean_some (d ∷ ds) x c is = no_some c is

member_language : (f : FormTree) (m : ModeTree) → FormIs f → member_in f ≡ Some m → IsOfLanguage m
member_language (of_powerset own) m fits is = subst IsOfLanguage (same_some own m is) fits
member_language f m fits is = no_some m is

members_language : (x : Option ClassTree) (m : ModeTree) → ((c : ClassTree) → x ≡ Some c → HasDeclarable c) → option_and_then member_in (option_and_then form_in x) ≡ Some m → IsOfLanguage m
members_language None m fits is = no_some m is
members_language (Some (value k)) m fits is = member_language (form_of k) m (form_is k (fits (value k) refl)) is
members_language (Some (derived k)) m fits is = member_language (form_of k) m (form_is k (fits (derived k) refl)) is
members_language (Some null) m fits is = no_some m is
members_language (Some nothing) m fits is = no_some m is

root_language : (a m : ModeTree) → IsDeclarable a → is_discrete (form_of a) ≡ true → Some (root_of a) ≡ Some m → IsOfLanguage m
root_language a m fits discrete is = subst IsOfLanguage (same_some (root_of a) m is) (declarable_language (root_of a) (root_declarable a fits) (ap is_meeting (root_form a) ∙ discrete_values (form_of a) discrete))

their_language : (l r : ClassTree) (m : ModeTree) → HasDeclarable l → HasDeclarable r → class_is is_discrete l ≡ true → class_is is_discrete r ≡ true → option_and_then mode_in (their_class l r) ≡ Some m → IsOfLanguage m
their_language (value a) r m first later one two is = root_language a m first one is
their_language (derived a) (value b) m first later one two is = root_language b m later two is
their_language (derived a) (derived b) m first later one two is = root_language a m first one is
their_language (derived a) null m first later one two is = absurd (true≢false (sym two))
their_language (derived a) nothing m first later one two is = absurd (true≢false (sym two))
their_language null r m first later one two is = absurd (true≢false (sym one))
their_language nothing r m first later one two is = absurd (true≢false (sym one))

chosen : (b : Bool) (x : Option ModeTree) (m : ModeTree) → (if b then x else None) ≡ Some m → x ≡ Some m
chosen true x m is = is
chosen false x m is = no_some m is

steps_language : (x y : Option ClassTree) (m : ModeTree) → ((c : ClassTree) → x ≡ Some c → HasDeclarable c) → ((c : ClassTree) → y ≡ Some c → HasDeclarable c) → counter_of_both x y ≡ Some m → IsOfLanguage m
steps_language (Some l) (Some r) m first later is =
    let discrete = class_is is_discrete l && class_is is_discrete r in
    let test = if_there (discrete && are_compatible l r) (option_and_then mode_in (their_class l r)) m is in
    let both = both_left discrete (are_compatible l r) test in
    their_language l r m (first l refl) (later r refl) (both_left (class_is is_discrete l) (class_is is_discrete r) both) (both_right (class_is is_discrete l) (class_is is_discrete r) both)
    (chosen (discrete && are_compatible l r) (option_and_then mode_in (their_class l r)) m is)
steps_language None y m first later is = no_some m is
steps_language (Some l) None m first later is = no_some m is

-- ---- by what defines something

module _ (text : List ℕ) (t : ProgramTree) (h : Ground) (has : BreaksNoRule text t h) where
  have_all : (ns : List Name) → HaveModes h ns
  have_all [] = tt
  have_all (n ∷ ns) = (names_modes text t has.plain_ground h has.has_modes has.is_ground n, have_all ns)

  class_fits : (e : ExprTree) → IsWellNamed h e → (c : ClassTree) → clean h e ≡ Some c → HasDeclarable c
  class_fits e well c there = class_mode h None e c (have_all (names_in e)) well.short no_receiver (clean_some (told_in h nothing_asked e) (class_of h e) c there)

  control_language : (c : ControlTree) (m : ModeTree) → Each (IsWellNamed h) (exprs_of_control c) → counter_mode h c ≡ Some m → IsOfLanguage m
  control_language (while_holds at c) m well is = no_some m is
  control_language (for_ever at) m well is = no_some m is
  control_language (for_members at n s c) m well is = members_language (clean h s) m (class_fits s well.0) is
  control_language (for_steps at n s b down e c) m well is =
      let last = each_later (IsWellNamed h) (s ∷ some_expr b) (e ∷ some_expr c) well in
      steps_language (clean h s) (clean h e) m (class_fits s well.0) (class_fits e last.0) is

  each_part : (ws : List written.ModeTree) → AllWritten ws → Each IsPartFit (map (mode_of h false) ws)
  each_part [] shape = tt
  each_part (w ∷ ws) shape = ((λ k is. part_language text t h has w k shape.0 is), each_part ws shape.1)

  pub signal_parts : (e : ℕ) (s : SignalTree) → slice_get h.origins e ≡ Some (a_signal s) → Each IsPartFit (parts_of_signal h s.parts)
  signal_parts e s at = by s.parts (written_so text t h has e (a_signal s) at)
    where
      by : (ws : Option (List written.ModeTree)) → AreSomeWritten ws → Each IsPartFit (parts_of_signal h ws)
      by None shape = tt
      by (Some ws) shape = each_part ws shape

  message_language : (n : Name) (xs : List (Option ModeTree)) → message_parts h n ≡ Some xs → Each IsPartFit xs
  message_language n xs is = messages_language (entry_of h n) (origin_of h n) xs (names_modes text t has.plain_ground h has.has_modes has.is_ground n).mode (λ s x origin entry. by (number_at h.uses n.at) s x origin entry) is
    where
      by : (k : Option ℕ) (s : SignalTree) (x : Entry) → option_and_then (slice_get h.origins) k ≡ Some (a_signal s) → option_and_then (slice_get h.entries) k ≡ Some x → Each IsPartFit x.parts
      by None s x origin entry = no_some (a_signal s) origin
      by (Some e) s x origin entry = subst (λ (y : Entry). Each IsPartFit y.parts) (same_some (entry_with_counters h (a_signal s)) x (sym (entry_at text t h has e (a_signal s) origin) ∙ entry)) (signal_parts e s origin)

  -- what is kept in a body has a mode of the language
  pub local_language : (d : ℕ) (o : Origin) (m : ModeTree) → slice_get h.origins d ≡ Some o → may_be_local o ≡ true → mode_of_entry (slice_get h.entries d) ≡ Some m → (is_location o ≡ true → is_event_or_buffer (meeting_of m) ≡ false) → IsOfLanguage m
  local_language d (a_location l) m at local mode apart = none_meets m ((location_place text t h has d l at).fits m mode) (apart refl)
  local_language d (a_parameter w) m at local mode apart = part_language text t h has w m (written_so text t h has d (a_parameter w) at) (own_mode text t h has d (a_parameter w) m at mode)
  local_language d (a_counter c) m at local mode apart = control_language c m (loop_well text t h has d c at) (own_mode text t h has d (a_counter c) m at mode)
  local_language d (a_received n count part) m at local mode apart = received_language (message_parts h n) count part m (message_language n) (own_mode text t h has d (a_received n count part) m at mode)
  local_language d o m at local mode apart = absurd (true≢false (sym local))

  some_language : (w : Option written.ModeTree) (m : ModeTree) → IsSomeWritten w → some_mode_of h w ≡ Some m → IsOfLanguage m
  some_language None m shape is = no_some m is
  some_language (Some w) m shape is = part_language text t h has w m shape is

  -- and so has the result of a procedure
  pub result_language : (d : ℕ) (p : ProcedureTree) (m : ModeTree) → slice_get h.origins d ≡ Some (a_procedure p) → mode_of_entry (entry_defined h p.name) ≡ Some m → IsOfLanguage m
  result_language d p m at is =
      let k = defined_in text t h has p.name (a_procedure p) (origin_so text t h has d (a_procedure p) at).0 in
      some_language p.returns m (written_so text t h has k.number (a_procedure p) k.origin)
      (own_mode text t h has k.number (a_procedure p) m k.origin (ap (λ x. mode_of_entry (option_and_then (slice_get h.entries) x)) (sym k.at) ∙ is))

-- parts that are all there
pub parts_language : (xs : List (Option ModeTree)) (ms : List ModeTree) → Each IsPartFit xs → made_each (λ m. m) xs ≡ Some ms → All IsOfLanguage ms
parts_language [] ms each is = subst (λ ys. All IsOfLanguage ys) (same_some [] ms is) (All-nil IsOfLanguage)
parts_language (x ∷ xs) ms each is =
    let m = made_parts (λ y ys. y ∷ ys) x (made_each (λ m. m) xs) ms is in
    subst (λ ys. All IsOfLanguage ys) m.whole (All-cons IsOfLanguage m.first m.later (each.0 m.first m.of_first) (parts_language xs m.later each.1 m.of_later))
