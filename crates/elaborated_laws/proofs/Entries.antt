-- The modes of a table are modes that a location may have.
use Rattle.std.proofs.Common.{◌≡◌, ◌<◌, ◌≤◌, ℕ, zero, suc, Bool, true, false, ◌==◌, List, [], ◌∷◌, ◌++◌, Option, Some, None, length, true≢false, le-leb, arith, refl, sym, ap, ◌∙◌, ◌⊎◌, inl, inr, subst, Contains}
use Rattle.std.specs.Prelude.{IsSome, IfSome, is_some, map, slice_get, option_map, option_and_then, if◌then◌else◌, nat_le}
use Rattle.std.proofs.lemmas.Bool.{cases_lt}
use Rattle.std.proofs.lemmas.Option.{slice_get-map, slice_get_past}
use Rattle.names_laws.proofs.Members.{none_in, here_in, in_cases}
use Rattle.chill_tree.specs.declared.tree.name.Name.{Name}
use Rattle.chill_tree.specs.ModeTree as written
use Rattle.chill_tree.specs.LocalTree.{SynonymTree}
use Rattle.modes.specs.ModeTree.{ModeTree, ClassTree, value, derived, null, boolean, named, set_of}
use Rattle.modes.specs.Language.{IsOfLanguage, is_from_to}
use Rattle.diagnostics.specs.declared.diagnostic.Diagnostic.{Diagnostic}
use Rattle.checks_model.specs.Ground.{Ground, Origin, Entry, Predefined, of_mode, truth, no_instance, num, succ, pred, abs, card, min, max, upper, lower, size, put_int, put_text, put_nl, get_int, a_synonym, a_mode, an_element, a_location, a_parameter, a_counter, a_received, a_procedure, a_process, a_signal, a_modulion, a_predefined, number_at, origin_of, entry_of, mode_of_entry, class_of_entry, element_of, message_of, message_parts}
use Rattle.checks_model.specs.Classes.{class_of}
use Rattle.checks_model.specs.WrittenModes.{mode_of, some_mode_of, unless_told}
use Rattle.checks_model.specs.Table.{entry_by, under_name, named_set, set_mode, received_mode, parts_of_signal, told_of_synonym, synonym_entry, predefined_entry}
use Rattle.table_laws.specs.Names.{names_in, names_in_mode, names_in_some_mode, names_needed}
use Rattle.table_laws.specs.Frames.{is_read}
use Rattle.table_laws.specs.OneTable.{IsEvaluated, AllDone, NeedsDone, NeedsEarlier, IsOrder}
use Rattle.elaborated_laws.specs.Known.{IsDeclarable, IsKnownName, AreKnown}
use Rattle.elaborated_laws.specs.Modes.{IsWritten}
use Rattle.elaborated_laws.specs.Table.{IsDefinedSo, AreDefined}
use Rattle.elaborated_laws.specs.Classes.{HasDeclarable, HasModes, HaveModes}
use Rattle.elaborated_laws.specs.Entries.{IsSomeWritten, AllWritten, AreSomeWritten, IsWrittenSo, AllWrittenSo, TableModesLaw}
use Rattle.elaborated_laws.proofs.Told.{of_both, no_some, same_some, there_mapped, there_chained, unless_there}
use Rattle.elaborated_laws.proofs.Modes.{language_declarable, mode_fits}
use Rattle.elaborated_laws.proofs.Classes.{EntryIs, boolean_fits, element_is, no_receiver, have_later, class_mode}
use Rattle.elaborated_laws.proofs.Table.{table_known}

-- all names are known
abbrev AllNames : Ground → Type 0
AllNames g = (n : Name) → IsKnownName g n

each_known : (g : Ground) (ns : List Name) → AllNames g → AreKnown g ns
each_known g [] known = tt
each_known g (n ∷ ns) known = (known n, each_known g ns known)

written_fits : (g : Ground) (w : written.ModeTree) (m : ModeTree) → AllNames g → IsWritten w → mode_of g false w ≡ Some m → IsDeclarable m
written_fits g w m known is_written is = language_declarable m (mode_fits g false w m (each_known g (names_in_mode w) known) is_written is)

some_fits : (g : Ground) (w : Option written.ModeTree) (m : ModeTree) → AllNames g → IsSomeWritten w → some_mode_of g w ≡ Some m → IsDeclarable m
some_fits g None m known is_written is = no_some m is
some_fits g (Some w) m known is_written is = written_fits g w m known is_written is

-- ---- messages

-- the modes of the parts of a message, where they are known
abbrev PartsAre : List (Option ModeTree) → Type 0
PartsAre [] = Unit {0}
PartsAre (o ∷ os) = ((m : ModeTree) → o ≡ Some m → IsDeclarable m) × PartsAre os

part_at : (os : List (Option ModeTree)) (k : ℕ) (m : ModeTree) → PartsAre os → option_and_then (λ m. m) (slice_get os k) ≡ Some m → IsDeclarable m
part_at [] k m fits is = no_some m is
part_at (o ∷ os) zero m fits is = fits.0 m is
part_at (o ∷ os) (suc k) m fits is = part_at os k m fits.1 is

of_received : (ms : Option (List (Option ModeTree))) (count part : ℕ) (m : ModeTree) → ((os : List (Option ModeTree)) → ms ≡ Some os → PartsAre os) → received_mode ms count part ≡ Some m → IsDeclarable m
of_received None count part m fits is = no_some m is
of_received (Some os) count part m fits is = by_test (length os == count) is
  where
    by_test : (b : Bool) → (if b then option_and_then (λ m. m) (slice_get os part) else None) ≡ Some m → IsDeclarable m
    by_test true is = part_at os part m (fits os refl) is
    by_test false is = no_some m is

signal_parts : (g : Ground) (ws : List written.ModeTree) → AllNames g → AllWritten ws → PartsAre (map (mode_of g false) ws)
signal_parts g [] known is_written = tt
signal_parts g (w ∷ ws) known is_written = ((λ m is. written_fits g w m known is_written.0 is), signal_parts g ws known is_written.1)

some_parts : (g : Ground) (ws : Option (List written.ModeTree)) → AllNames g → AreSomeWritten ws → PartsAre (parts_of_signal g ws)
some_parts g None known is_written = tt
some_parts g (Some ws) known is_written = signal_parts g ws known is_written

-- what an entry of a definition has
record EntryHas (e : Option Entry) (o : Option Origin) : Type 0 where
  mode : EntryIs e
  parts : (x : Entry) → e ≡ Some x → PartsAre x.parts

of_element : (e : Option Entry) (os : List (Option ModeTree)) → EntryIs e → option_map (λ m. Some m ∷ []) (option_and_then element_of (mode_of_entry e)) ≡ Some os → PartsAre os
of_element e os fits is =
    let there = there_mapped (λ m. Some m ∷ []) (option_and_then element_of (mode_of_entry e)) os is in
    let inner = there_chained element_of (mode_of_entry e) there.0 there.1 in
    subst PartsAre there.2 ((λ m same. subst IsDeclarable (same_some there.0 m same) (element_is inner.0 there.0 (fits inner.0 inner.1) inner.2)), tt)

of_parts : (e : Option Entry) (os : List (Option ModeTree)) → ((x : Entry) → e ≡ Some x → PartsAre x.parts) → option_map (λ e. e.parts) e ≡ Some os → PartsAre os
of_parts e os fits is = let there = there_mapped (λ (e : Entry). e.parts) e os is in subst PartsAre there.2 (fits there.0 there.1)

of_message : (e : Option Entry) (o : Option Origin) (os : List (Option ModeTree)) → EntryHas e o → message_of e o ≡ Some os → PartsAre os
of_message e None os fits is = of_element e os fits.mode is
of_message e (Some (a_synonym s)) os fits is = of_element e os fits.mode is
of_message e (Some (a_mode novel w)) os fits is = of_element e os fits.mode is
of_message e (Some (an_element names part owner)) os fits is = of_element e os fits.mode is
of_message e (Some (a_location l)) os fits is = of_element e os fits.mode is
of_message e (Some (a_parameter w)) os fits is = of_element e os fits.mode is
of_message e (Some (a_counter c)) os fits is = of_element e os fits.mode is
of_message e (Some (a_received n count part)) os fits is = of_element e os fits.mode is
of_message e (Some (a_procedure p)) os fits is = of_element e os fits.mode is
of_message e (Some (a_process p)) os fits is = of_element e os fits.mode is
of_message e (Some (a_modulion kind items)) os fits is = of_element e os fits.mode is
of_message e (Some (a_predefined p)) os fits is = of_element e os fits.mode is
of_message e (Some (a_signal s)) os fits is = of_parts e os fits.parts is

-- ---- modes, by what defines something

no_entry_has : (o : Option Origin) → EntryHas None o
no_entry_has o = record { mode = λ m is. no_some m is; parts = λ x is. no_some x is }

synonym_mode : (g : Ground) (s : SynonymTree) (w : Option written.ModeTree) (m : ModeTree) → AllNames g → IsSomeWritten w → (synonym_entry g s w).mode ≡ Some m → IsDeclarable m
synonym_mode g s None m known is_written is = no_some m is
synonym_mode g s (Some w) m known is_written is = written_fits g w m known is_written is

synonym_parts : (g : Ground) (s : SynonymTree) (w : Option written.ModeTree) → PartsAre (synonym_entry g s w).parts
synonym_parts g s None = tt
synonym_parts g s (Some w) = tt

-- an entry that has a mode alone
of_mode_has : (x : Entry) (o : Option Origin) → ((m : ModeTree) → x.mode ≡ Some m → IsDeclarable m) → PartsAre x.parts → EntryHas (Some x) o
of_mode_has x o mode parts = record { mode = mode; parts = λ y same. subst (λ (y : Entry). PartsAre y.parts) (same_some x y same) parts }

predefined_has : (g : Ground) (p : Predefined) → IsDefinedSo g (a_predefined p) → EntryHas (Some (predefined_entry p)) (Some (a_predefined p))
predefined_has g (of_mode m) defined = of_mode_has (predefined_entry (of_mode m)) (Some (a_predefined (of_mode m))) (λ k is. subst IsDeclarable (same_some m k is) (language_declarable m defined)) tt
predefined_has g (truth b) defined = of_mode_has (predefined_entry (truth b)) (Some (a_predefined (truth b))) (λ k is. no_some k is) tt
predefined_has g no_instance defined = of_mode_has (predefined_entry no_instance) (Some (a_predefined no_instance)) (λ k is. no_some k is) tt
predefined_has g num defined = of_mode_has (predefined_entry num) (Some (a_predefined num)) (λ k is. no_some k is) tt
predefined_has g succ defined = of_mode_has (predefined_entry succ) (Some (a_predefined succ)) (λ k is. no_some k is) tt
predefined_has g pred defined = of_mode_has (predefined_entry pred) (Some (a_predefined pred)) (λ k is. no_some k is) tt
predefined_has g abs defined = of_mode_has (predefined_entry abs) (Some (a_predefined abs)) (λ k is. no_some k is) tt
predefined_has g card defined = of_mode_has (predefined_entry card) (Some (a_predefined card)) (λ k is. no_some k is) tt
predefined_has g min defined = of_mode_has (predefined_entry min) (Some (a_predefined min)) (λ k is. no_some k is) tt
predefined_has g max defined = of_mode_has (predefined_entry max) (Some (a_predefined max)) (λ k is. no_some k is) tt
predefined_has g upper defined = of_mode_has (predefined_entry upper) (Some (a_predefined upper)) (λ k is. no_some k is) tt
predefined_has g lower defined = of_mode_has (predefined_entry lower) (Some (a_predefined lower)) (λ k is. no_some k is) tt
predefined_has g size defined = of_mode_has (predefined_entry size) (Some (a_predefined size)) (λ k is. no_some k is) tt
predefined_has g put_int defined = of_mode_has (predefined_entry put_int) (Some (a_predefined put_int)) (λ k is. no_some k is) tt
predefined_has g put_text defined = of_mode_has (predefined_entry put_text) (Some (a_predefined put_text)) (λ k is. no_some k is) tt
predefined_has g put_nl defined = of_mode_has (predefined_entry put_nl) (Some (a_predefined put_nl)) (λ k is. no_some k is) tt
predefined_has g get_int defined = of_mode_has (predefined_entry get_int) (Some (a_predefined get_int)) (λ k is. no_some k is) tt

abbrev AllHave : Ground → List ℕ → Type 0
AllHave g done = (d : ℕ) → Contains done d → EntryHas (slice_get g.entries d) (slice_get g.origins d)

named_has : (g : Ground) (k : Option ℕ) → ((d : ℕ) → k ≡ Some d → EntryHas (slice_get g.entries d) (slice_get g.origins d)) → EntryHas (option_and_then (slice_get g.entries) k) (option_and_then (slice_get g.origins) k)
named_has g None has = no_entry_has None
named_has g (Some d) has = has d refl

entry_has : (g : Ground) (done : List ℕ) (o : Option Origin) → AllNames g → AllHave g done → ((x : Origin) → o ≡ Some x → IsDefinedSo g x) → ((x : Origin) → o ≡ Some x → IsWrittenSo x) → NeedsDone g done o → EntryHas (option_map (entry_by g) o) o
entry_has g done None known has so is_written needs = no_entry_has None
entry_has g done (Some (a_synonym s)) known has so is_written needs =
    of_mode_has (synonym_entry g s s.mode) (Some (a_synonym s)) (λ m is. synonym_mode g s s.mode m known (is_written (a_synonym s) refl).0 is) (synonym_parts g s s.mode)
entry_has g done (Some (a_mode novel w)) known has so is_written needs =
    of_mode_has (entry_by g (a_mode novel w)) (Some (a_mode novel w)) (λ m is. mode_fits g true w m (each_known g (names_in_mode w) known) (so (a_mode novel w) refl) is) tt
entry_has g done (Some (a_location l)) known has so is_written needs =
    of_mode_has (entry_by g (a_location l)) (Some (a_location l)) (λ m is. mode_fits g true l.mode m (each_known g (names_in_mode l.mode) known) (is_written (a_location l) refl) is) tt
entry_has g done (Some (a_parameter w)) known has so is_written needs =
    of_mode_has (entry_by g (a_parameter w)) (Some (a_parameter w)) (λ m is. written_fits g w m known (is_written (a_parameter w) refl) is) tt
entry_has g done (Some (a_received n count part)) known has so is_written needs =
    let source = named_has g (number_at g.uses n.at) (λ d at. has d (subst (λ k. IfSome k (Contains done)) at needs)) in
    of_mode_has (entry_by g (a_received n count part)) (Some (a_received n count part))
    (λ m is. of_received (message_parts g n) count part m (λ os same. of_message (entry_of g n) (origin_of g n) os (record { mode = source.mode; parts = source.parts }) same) is) tt
entry_has g done (Some (a_procedure p)) known has so is_written needs =
    of_mode_has (entry_by g (a_procedure p)) (Some (a_procedure p)) (λ m is. some_fits g p.returns m known (is_written (a_procedure p) refl) is) tt
entry_has g done (Some (a_signal s)) known has so is_written needs =
    of_mode_has (entry_by g (a_signal s)) (Some (a_signal s)) (λ m is. no_some m is) (some_parts g s.parts known (is_written (a_signal s) refl))
entry_has g done (Some (a_predefined p)) known has so is_written needs = predefined_has g p (so (a_predefined p) refl)
entry_has g done (Some (an_element names part owner)) known has so is_written needs = of_mode_has (entry_by g (an_element names part owner)) (Some (an_element names part owner)) (λ m is. no_some m is) tt
entry_has g done (Some (a_counter l)) known has so is_written needs = of_mode_has (entry_by g (a_counter l)) (Some (a_counter l)) (λ m is. no_some m is) tt
entry_has g done (Some (a_process p)) known has so is_written needs = of_mode_has (entry_by g (a_process p)) (Some (a_process p)) (λ m is. no_some m is) tt
entry_has g done (Some (a_modulion kind items)) known has so is_written needs = of_mode_has (entry_by g (a_modulion kind items)) (Some (a_modulion kind items)) (λ m is. no_some m is) tt

evaluated_at : (g : Ground) (d : ℕ) → IsEvaluated g → slice_get g.entries d ≡ option_map (entry_by g) (slice_get g.origins d)
evaluated_at g d evaluated = ap (λ es. slice_get es d) evaluated ∙ slice_get-map (entry_by g) g.origins d

number_has : (g : Ground) (done : List ℕ) (d : ℕ) → IsEvaluated g → AllNames g → AllHave g done → AreDefined g → AllWrittenSo g → NeedsDone g done (slice_get g.origins d) → EntryHas (slice_get g.entries d) (slice_get g.origins d)
number_has g done d evaluated known has defined is_written needs =
    subst (λ e. EntryHas e (slice_get g.origins d)) (sym (evaluated_at g d evaluated)) (entry_has g done (slice_get g.origins d) known has (defined d) (is_written d) needs)

one_more : (g : Ground) (done : List ℕ) (d : ℕ) → EntryHas (slice_get g.entries d) (slice_get g.origins d) → AllHave g done → AllHave g (d ∷ done)
one_more g done d at_d has e among = elim (in_cases d done e among) [
  | inl is ↦ subst (λ k. EntryHas (slice_get g.entries k) (slice_get g.origins k)) is at_d
  | inr there ↦ has e there
]

all_have : (g : Ground) (done order : List ℕ) → IsEvaluated g → AllNames g → AllHave g done → AreDefined g → AllWrittenSo g → NeedsEarlier g done order → (d : ℕ) → Contains order d → EntryHas (slice_get g.entries d) (slice_get g.origins d)
all_have g done [] evaluated known has defined is_written earlier d c = absurd (none_in d c)
all_have g done (e ∷ order) evaluated known has defined is_written earlier d c =
    let at_e = number_has g done e evaluated known has defined is_written earlier.0 in
    elim (in_cases e order d c) [
      | inl is ↦ subst (λ k. EntryHas (slice_get g.entries k) (slice_get g.origins k)) is at_e
      | inr there ↦ all_have g (e ∷ done) order evaluated known (one_more g done e at_e has) defined is_written earlier.1 d there
    ]

any_has : (g : Ground) (order : List ℕ) (d : ℕ) → IsEvaluated g → IsOrder g order → AllNames g → AreDefined g → AllWrittenSo g → EntryHas (slice_get g.entries d) (slice_get g.origins d)
any_has g order d evaluated is_order known defined is_written = elim (cases_lt d (length g.origins)) [
  | inl less ↦ all_have g [] order evaluated known (λ d c. absurd (none_in d c)) defined is_written is_order.earlier d (is_order.all d less)
  | inr past ↦ number_has g [] d evaluated known (λ d c. absurd (none_in d c)) defined is_written (subst (NeedsDone g []) (sym (slice_get_past g.origins d past)) tt)
]

-- ---- classes

-- the class of an entry is declarable
abbrev ClassIs : Option Entry → Type 0
ClassIs e = (c : ClassTree) → class_of_entry e ≡ Some c → HasDeclarable c

set_is : (g : Ground) (d count : ℕ) (owner : Option (Name × Bool)) (m : ModeTree) → is_from_to 1 4096 count ≡ true → named_set g owner (set_of d count) ≡ Some m → IsDeclarable m
set_is g d count None m few is = subst IsDeclarable (same_some (set_of d count) m is) (record { parts = few; size = (let e : 1 ≤ 4096 = omega arith in e) })
set_is g d count (Some o) m few is =
    let there = there_mapped (λ k. named k o.1 (set_of d count)) (number_at g.defined o.0.at) m is in
    subst IsDeclarable there.2 (record { parts = few; size = (let e : 1 ≤ 4096 = omega arith in e) })

element_class : (g : Ground) (names : List Name) (owner : Option (Name × Bool)) (m : ModeTree) → length names ≤ 4096 → set_mode g names owner ≡ Some m → IsDeclarable m
element_class g [] owner m few is = no_some m is
element_class g (n ∷ ns) owner m few is =
    let there = there_chained (λ first. named_set g owner (set_of first (length (n ∷ ns)))) (number_at g.defined n.at) m is in
    set_is g there.0 (length (n ∷ ns)) owner m (of_both (nat_le 1 (length (n ∷ ns))) (nat_le (length (n ∷ ns)) 4096) (le-leb 1 (length (n ∷ ns)) (omega arith)) (le-leb (length (n ∷ ns)) 4096 few)) there.2

synonym_class : (g : Ground) (s : SynonymTree) (w : Option written.ModeTree) (c : ClassTree) → AllNames g → HaveModes g (names_in s.value) → IsWrittenSo (a_synonym s) → IsSomeWritten w → (synonym_entry g s w).class ≡ Some c → HasDeclarable c
synonym_class g s None c known modes is_written has_mode is = class_mode g None s.value c modes is_written.1 no_receiver (unless_there (told_of_synonym g s) (class_of g s.value) c is)
synonym_class g s (Some w) c known modes is_written has_mode is =
    let there = there_mapped value (mode_of g false w) c is in
    subst HasDeclarable there.2 (written_fits g w there.0 known has_mode there.1)

predefined_class : (p : Predefined) → ClassIs (Some (predefined_entry p))
predefined_class (truth b) c is = subst HasDeclarable (same_some (derived boolean) c is) boolean_fits
predefined_class no_instance c is = subst HasDeclarable (same_some null c is) tt
predefined_class (of_mode m) c is = no_some c is
predefined_class num c is = no_some c is
predefined_class succ c is = no_some c is
predefined_class pred c is = no_some c is
predefined_class abs c is = no_some c is
predefined_class card c is = no_some c is
predefined_class min c is = no_some c is
predefined_class max c is = no_some c is
predefined_class upper c is = no_some c is
predefined_class lower c is = no_some c is
predefined_class size c is = no_some c is
predefined_class put_int c is = no_some c is
predefined_class put_text c is = no_some c is
predefined_class put_nl c is = no_some c is
predefined_class get_int c is = no_some c is

abbrev AllClasses : Ground → List ℕ → Type 0
AllClasses g done = (d : ℕ) → Contains done d → ClassIs (slice_get g.entries d)

-- what isn't looked up by constants has a class where it is predefined alone
unread_class : (g : Ground) (o : Option Origin) → is_read o ≡ false → ClassIs (option_map (entry_by g) o)
unread_class g None is c there = no_some c there
unread_class g (Some (a_predefined p)) is c there = predefined_class p c there
unread_class g (Some (a_counter l)) is c there = no_some c there
unread_class g (Some (a_process p)) is c there = no_some c there
unread_class g (Some (a_modulion kind items)) is c there = no_some c there
unread_class g (Some (a_received n count part)) is c there = no_some c there
unread_class g (Some (a_procedure p)) is c there = no_some c there
unread_class g (Some (a_signal s)) is c there = no_some c there
unread_class g (Some (a_synonym s)) is c there = absurd (true≢false is)
unread_class g (Some (a_mode novel w)) is c there = absurd (true≢false is)
unread_class g (Some (an_element names part owner)) is c there = absurd (true≢false is)
unread_class g (Some (a_location l)) is c there = absurd (true≢false is)
unread_class g (Some (a_parameter w)) is c there = absurd (true≢false is)

-- the class of what a name stands for, by its number
read_class : (g : Ground) (done : List ℕ) (d : ℕ) (b : Bool) → is_read (slice_get g.origins d) ≡ b → IsEvaluated g → AllClasses g done → (is_read (slice_get g.origins d) ≡ true → Contains done d) → ClassIs (slice_get g.entries d)
read_class g done d true is evaluated classes there = classes d (there is)
read_class g done d false is evaluated classes there = subst ClassIs (sym (evaluated_at g d evaluated)) (unread_class g (slice_get g.origins d) is)

number_read : (g : Ground) (done : List ℕ) (k : Option ℕ) → IsEvaluated g → AllClasses g done → (is_read (option_and_then (slice_get g.origins) k) ≡ true → IfSome k (Contains done)) → ClassIs (option_and_then (slice_get g.entries) k)
number_read g done None evaluated classes there c is = no_some c is
number_read g done (Some d) evaluated classes there c is = read_class g done d (is_read (slice_get g.origins d)) refl evaluated classes there c is

name_class : (g : Ground) (done : List ℕ) (n : Name) → IsEvaluated g → AllClasses g done → (is_read (origin_of g n) ≡ true → IfSome (number_at g.uses n.at) (Contains done)) → ClassIs (entry_of g n)
name_class g done n evaluated classes there = number_read g done (number_at g.uses n.at) evaluated classes there

-- the modes of what is known of all definitions
abbrev AllModes : Ground → Type 0
AllModes g = (d : ℕ) → EntryIs (slice_get g.entries d)

name_mode : (g : Ground) (n : Name) → AllModes g → EntryIs (entry_of g n)
name_mode g n modes = by_number (number_at g.uses n.at)
  where
    by_number : (k : Option ℕ) → EntryIs (option_and_then (slice_get g.entries) k)
    by_number None m is = no_some m is
    by_number (Some d) m is = modes d m is

names_have : (g : Ground) (done : List ℕ) (ns : List Name) → IsEvaluated g → AllNames g → AllModes g → AllClasses g done → AllDone g done ns → HaveModes g ns
names_have g done [] evaluated known modes classes all = tt
names_have g done (n ∷ ns) evaluated known modes classes all =
    (record { mode = name_mode g n modes; class = name_class g done n evaluated classes all.0; own = (known n).mode }, names_have g done ns evaluated known modes classes all.1)

class_by : (g : Ground) (done : List ℕ) (o : Option Origin) → IsEvaluated g → AllNames g → AllModes g → AllClasses g done → ((x : Origin) → o ≡ Some x → IsWrittenSo x) → NeedsDone g done o → ClassIs (option_map (entry_by g) o)
class_by g done None evaluated known modes classes is_written needs c is = no_some c is
class_by g done (Some (a_synonym s)) evaluated known modes classes is_written needs c is =
    let so = is_written (a_synonym s) refl in
    synonym_class g s s.mode c known (have_later g (names_in_some_mode s.mode) (names_in s.value) (names_have g done (names_needed (a_synonym s)) evaluated known modes classes needs)) so so.0 is
class_by g done (Some (an_element names part owner)) evaluated known modes classes is_written needs c is =
    let there = there_mapped derived (set_mode g names owner) c is in
    subst HasDeclarable there.2 (element_class g names owner there.0 (is_written (an_element names part owner) refl) there.1)
class_by g done (Some (a_predefined p)) evaluated known modes classes is_written needs c is = predefined_class p c is
class_by g done (Some (a_counter l)) evaluated known modes classes is_written needs c is = no_some c is
class_by g done (Some (a_process p)) evaluated known modes classes is_written needs c is = no_some c is
class_by g done (Some (a_modulion kind items)) evaluated known modes classes is_written needs c is = no_some c is
class_by g done (Some (a_mode novel w)) evaluated known modes classes is_written needs c is = no_some c is
class_by g done (Some (a_location l)) evaluated known modes classes is_written needs c is = no_some c is
class_by g done (Some (a_parameter w)) evaluated known modes classes is_written needs c is = no_some c is
class_by g done (Some (a_received n count part)) evaluated known modes classes is_written needs c is = no_some c is
class_by g done (Some (a_procedure p)) evaluated known modes classes is_written needs c is = no_some c is
class_by g done (Some (a_signal s)) evaluated known modes classes is_written needs c is = no_some c is

number_class : (g : Ground) (done : List ℕ) (d : ℕ) → IsEvaluated g → AllNames g → AllModes g → AllClasses g done → AllWrittenSo g → NeedsDone g done (slice_get g.origins d) → ClassIs (slice_get g.entries d)
number_class g done d evaluated known modes classes is_written needs = subst ClassIs (sym (evaluated_at g d evaluated)) (class_by g done (slice_get g.origins d) evaluated known modes classes (is_written d) needs)

more_classes : (g : Ground) (done : List ℕ) (d : ℕ) → ClassIs (slice_get g.entries d) → AllClasses g done → AllClasses g (d ∷ done)
more_classes g done d at_d classes e among = elim (in_cases d done e among) [
  | inl is ↦ subst (λ k. ClassIs (slice_get g.entries k)) is at_d
  | inr there ↦ classes e there
]

all_classes : (g : Ground) (done order : List ℕ) → IsEvaluated g → AllNames g → AllModes g → AllClasses g done → AllWrittenSo g → NeedsEarlier g done order → (d : ℕ) → Contains order d → ClassIs (slice_get g.entries d)
all_classes g done [] evaluated known modes classes is_written earlier d c = absurd (none_in d c)
all_classes g done (e ∷ order) evaluated known modes classes is_written earlier d c =
    let at_e = number_class g done e evaluated known modes classes is_written earlier.0 in
    elim (in_cases e order d c) [
      | inl is ↦ subst (λ k. ClassIs (slice_get g.entries k)) is at_e
      | inr there ↦ all_classes g (e ∷ done) order evaluated known modes (more_classes g done e at_e classes) is_written earlier.1 d there
    ]

any_class : (g : Ground) (order : List ℕ) (d : ℕ) → IsEvaluated g → IsOrder g order → AllNames g → AllModes g → AllWrittenSo g → ClassIs (slice_get g.entries d)
any_class g order d evaluated is_order known modes is_written = elim (cases_lt d (length g.origins)) [
  | inl less ↦ all_classes g [] order evaluated known modes (λ d c. absurd (none_in d c)) is_written is_order.earlier d (is_order.all d less)
  | inr past ↦ number_class g [] d evaluated known modes (λ d c. absurd (none_in d c)) is_written (subst (NeedsDone g []) (sym (slice_get_past g.origins d past)) tt)
]

-- ---- the law

name_has : (g : Ground) (n : Name) → AllNames g → AllModes g → ((d : ℕ) → ClassIs (slice_get g.entries d)) → HasModes g n
name_has g n known modes classes = record { mode = name_mode g n modes; class = by_number (number_at g.uses n.at); own = (known n).mode }
  where
    by_number : (k : Option ℕ) → ClassIs (option_and_then (slice_get g.entries) k)
    by_number None c is = no_some c is
    by_number (Some d) c is = classes d c is

pub table_modes : TableModesLaw
table_modes g order evaluated is_order defined is_written n = name_has g n known modes (λ d. any_class g order d evaluated is_order known modes is_written)
  where
    known : AllNames g
    known n = table_known g order evaluated is_order defined n

    modes : AllModes g
    modes d = (any_has g order d evaluated is_order known defined is_written).mode
