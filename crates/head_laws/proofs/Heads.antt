-- The heads and rows of the elaborated program of a text that breaks no rule.
use Rattle.std.proofs.Common.{◌≡◌, ◌<◌, ◌≤◌, ◌+◌, length, arith, ℕ, zero, suc, ◌==◌, Bool, true, false, ◌&&◌, List, [], ◌∷◌, Option, Some, None, true≢false, refl, sym, ap, ◌∙◌, subst}
use Rattle.std.specs.Prelude.{is_some, All, IfSome, flat_map, slice_get, option_map, option_and_then, if◌then◌else◌}
use Rattle.std.proofs.lemmas.List.Elements.{All-nil, All-cons, All-append}
use Rattle.chill_tree.specs.declared.tree.name.Name.{Name}
use Rattle.chill_tree.specs.ItemTree.{ProcedureTree, ProcessTree, FormalTree, SignalTree, ProgramTree}
use Rattle.modes.specs.ModeTree.{ModeTree, buffer, read, named}
use Rattle.modes.specs.Language.{IsOfLanguage}
use Rattle.names_model.specs.declared.definition.Inside.{Inside}
use Rattle.names_model.specs.declared.definition.Inside.TheVariants as insides
use Rattle.names_model.specs.Definitions.{text_definitions}
use Rattle.names_model.specs.Resolving.{level_of}
use Rattle.checked_program.specs.declared.program.Parameter.{Parameter}
use Rattle.checked_program.specs.declared.program.Passing.TheVariants as way
use Rattle.checked_program.specs.declared.program.Sort.TheVariants as sorts
use Rattle.program_trees.specs.ProgramTree.{CheckedTree, LocationRowTree, BufferRowTree, SignalRowTree, LocalRowTree, BodyRowTree}
use Rattle.checks_model.specs.Ground.{Ground, Entry, Origin, a_location, a_procedure, a_process, a_signal, origin_of, number_at, mode_of_entry}
use Rattle.checks_model.specs.Told.{holds_of}
use Rattle.checks_model.specs.ProcessRules.{meets_event, meets_buffer, meets_nothing, meeting_of}
use Rattle.checks_model.specs.Table.{parts_of_signal}
use Rattle.checks_model.specs.Diagnoses.{BreaksNoRule}
use Rattle.elaborated_laws.specs.Known.{IsDeclarable}
use Rattle.elaborated_laws.specs.Rows.{LeadsTo}
use Rattle.elaborated_laws.proofs.Told.{no_some, same_some, both_left, both_right, there_mapped, there_chained}
use Rattle.elaborated_laws.proofs.Modes.{language_declarable}
use Rattle.elaborated_laws.proofs.Classes.{read_of}
use Rattle.elaborated_laws.proofs.Rows.{leads}
use Rattle.written_laws.specs.Written.{Each}
use Rattle.written_laws.proofs.WrittenSo.{each_there}
use Rattle.elaboration_model.specs.Parts.{made_each, made_of_some}
use Rattle.elaboration_model.specs.Numbering.{Source, Row, is_direct, is_location, may_be_local, has_body, is_signal, is_shared, same_meeting, is_local_of, body_around, count_before, Thing, a_shared, a_local, an_event, a_buffer, a_message, a_region, a_body, no_thing, thing_of, body_in, body_used}
use Rattle.elaboration_model.specs.Expressions.{mode_defined}
use Rattle.elaboration_model.specs.Elaborated.{rows_made, region_in, region_around, location_row, event_row, buffer_as, buffer_row, parts_known, signal_as, signal_row, locals_of, passed_in, result_of, listed_by, inside_of, outermost_body, process_body, procedure_body, procedure_made, body_as, outermost, bodies_of, source_of, program_of, made_of_five, elaborated_by, elaborated}
use Rattle.elaboration_model.specs.Modulions.{modulions_done}
use Rattle.checks_model.specs.Sites.{items_of}
use Rattle.source_meaning.specs.Typed.{StandsAlone, RegionIsThere, AreLaidFrom, IsForProcess}
use Rattle.expression_laws.specs.Names.{stands_for_process}
use Rattle.expression_laws.proofs.Known.{process_of}
use Rattle.expression_laws.proofs.Outside.{row_parts, meets_outside}
use Rattle.program_laws.proofs.Counters.{processes_clean}
use Rattle.program_laws.proofs.Defined.{entry_at, location_place, signal_so}
use Rattle.head_laws.specs.Heads.{HasTypedHead, HasTypedHeads, HeadsLaw}
use Rattle.head_laws.proofs.Rows.{MadeOf, made_parts, three_parts, all_of_each, each_row, laid_from}
use Rattle.head_laws.proofs.Parameters.{procedure_parameters, process_parameters}
use Rattle.head_laws.proofs.Modes.{none_meets, nothing_meets, signal_parts, local_language, result_language, parts_language}

-- ---- the parts of a program

pub record FiveParts (s : Source) (t : ProgramTree) (p : CheckedTree) : Type 0 where
  pub locations : rows_made (location_row s.rows) (is_shared meets_nothing) 0 s.rows ≡ Some p.locations
  pub events : rows_made event_row (is_shared meets_event) 0 s.rows ≡ Some p.events
  pub buffers : rows_made buffer_row (is_shared meets_buffer) 0 s.rows ≡ Some p.buffers
  pub signals : rows_made (signal_row s) (λ r. is_signal r.origin) 0 s.rows ≡ Some p.signals
  pub of_bodies : bodies_of s t ≡ Some p.bodies

record FiveThere {A B C D E F : Type 0} (f : A → B → C → D → E → F) (a : Option A) (b : Option B) (c : Option C) (d : Option D) (e : Option E) (y : F) : Type 0 where
  one : A
  two : B
  three : C
  four : D
  five : E
  of_one : a ≡ Some one
  of_two : b ≡ Some two
  of_three : c ≡ Some three
  of_four : d ≡ Some four
  of_five : e ≡ Some five
  whole : f one two three four five ≡ y

five_there : {A B C D E F : Type 0} (f : A → B → C → D → E → F) (a : Option A) (b : Option B) (c : Option C) (d : Option D) (e : Option E) (y : F) → made_of_five f a b c d e ≡ Some y → FiveThere f a b c d e y
five_there f (Some a) (Some b) (Some c) (Some d) (Some e) y is = record { one = a; two = b; three = c; four = d; five = e; of_one = refl; of_two = refl; of_three = refl; of_four = refl; of_five = refl; whole = same_some (f a b c d e) y is }
five_there f None b c d e y is = no_some y is
five_there f (Some a) None c d e y is = no_some y is
five_there f (Some a) (Some b) None d e y is = no_some y is
five_there f (Some a) (Some b) (Some c) None e y is = no_some y is
five_there f (Some a) (Some b) (Some c) (Some d) None y is = no_some y is

pub five_parts : (s : Source) (t : ProgramTree) (p : CheckedTree) → elaborated_by s t ≡ Some p → FiveParts s t p
five_parts s t p is =
    let m = five_there (program_of s t) (rows_made (location_row s.rows) (is_shared meets_nothing) 0 s.rows) (rows_made event_row (is_shared meets_event) 0 s.rows) (rows_made buffer_row (is_shared meets_buffer) 0 s.rows)
    (rows_made (signal_row s) (λ r. is_signal r.origin) 0 s.rows) (bodies_of s t) p is in
    record {
      locations = m.of_one ∙ ap (λ (q : CheckedTree). Some q.locations) m.whole;
      events = m.of_two ∙ ap (λ (q : CheckedTree). Some q.events) m.whole;
      buffers = m.of_three ∙ ap (λ (q : CheckedTree). Some q.buffers) m.whole;
      signals = m.of_four ∙ ap (λ (q : CheckedTree). Some q.signals) m.whole;
      of_bodies = m.of_five ∙ ap (λ (q : CheckedTree). Some q.bodies) m.whole;
    }

-- ---- regions

region_below : (s : Source) (p : CheckedTree) (d : ℕ) (th : Thing) → LeadsTo s p d th → IfSome (region_in th) (λ r. r < p.regions)
region_below s p d (a_region k) leads_to = leads_to
region_below s p d (a_shared k) leads_to = tt
region_below s p d (a_local b k) leads_to = tt
region_below s p d (an_event k) leads_to = tt
region_below s p d (a_buffer k) leads_to = tt
region_below s p d (a_message k) leads_to = tt
region_below s p d (a_body b) leads_to = tt
region_below s p d no_thing leads_to = tt

around_below : (s : Source) (t : ProgramTree) (p : CheckedTree) (i : Inside) → elaborated_by s t ≡ Some p → IfSome (region_around s.rows i) (λ r. r < p.regions)
around_below s t p insides.Outermost is = tt
around_below s t p (insides.Modulion d) is = region_below s p d (thing_of s.rows d) (leads s t p d is)
around_below s t p (insides.Body d) is = tt
around_below s t p (insides.Block d) is = tt

region_there : (x : Option ℕ) (b : Bool) (n : ℕ) → IfSome x (λ r. r < n) → RegionIsThere (is_some x && b) x n
region_there None b n below = refl
region_there (Some r) b n below = below

-- ---- bodies by what they are made of

all_in : (ns : List Name) → All (λ (q : Parameter). q.passing ≡ way.In) (passed_in ns)
all_in [] = All-nil (λ (q : Parameter). q.passing ≡ way.In)
all_in (n ∷ ns) = All-cons (λ (q : Parameter). q.passing ≡ way.In) (record { passing = way.In }) (passed_in ns) refl (all_in ns)

each_in : (fs : List FormalTree) → All (λ (q : Parameter). q.passing ≡ way.In) (flat_map (λ (f : FormalTree). passed_in f.names) fs)
each_in [] = All-nil (λ (q : Parameter). q.passing ≡ way.In)
each_in (f ∷ fs) = All-append (λ (q : Parameter). q.passing ≡ way.In) (passed_in f.names) (flat_map (λ (f : FormalTree). passed_in f.names) fs) (all_in f.names) (each_in fs)

buffer_language : (d : ℕ) (r : Row) (m : ModeTree) (x : BufferRowTree) → IsDeclarable m → buffer_as d r m ≡ Some x → IsOfLanguage x.element
buffer_language d r (buffer l e) x fits is = subst (λ (y : BufferRowTree). IsOfLanguage y.element) (same_some (record { definition = d; name = r.name; length = l; element = e }) x is) fits
buffer_language d r (read m) x fits is = buffer_language d r m x (language_declarable m (read_of m fits)) is
buffer_language d r (named k n m) x fits is = buffer_language d r m x fits is
buffer_language d r m x fits is = no_some x is

process_sort : (s : Source) (d : ℕ) (r : Row) (p : ProcessTree) (b : BodyRowTree) → body_as s d r (a_process p) ≡ Some b → b.sort ≡ sorts.Process
process_sort s d r p b is =
    let m = made_parts (process_body d r p) (locals_of s (suc (count_before (λ r. has_body r.origin) d s.rows))) (inside_of s None p.body p.handler) b is in
    ap (λ (x : BodyRowTree). x.sort) (sym m.whole)

not_direct : (rs : List Row) (b : ℕ) (i : Inside) → holds_of (λ c. c == b) (body_around rs i) ≡ true → is_direct i ≡ false
not_direct rs b insides.Outermost holds = absurd (true≢false (sym holds))
not_direct rs b (insides.Modulion d) holds = absurd (true≢false (sym holds))
not_direct rs b (insides.Body d) holds = refl
not_direct rs b (insides.Block d) holds = refl

pub below : {A : Type 0} (xs : List A) (k : ℕ) (x : A) → slice_get xs k ≡ Some x → k + 1 ≤ length xs
below [] k x at = no_some x at
below (y ∷ xs) zero x at = omega arith
below (y ∷ xs) (suc k) x at = let inner = below xs k x at in omega (arith, inner)

some_mapped : {A : Type 0} (x : Option A) (y : Option A) → option_map Some x ≡ Some y → (a : A) × ((x ≡ Some a) × (y ≡ Some a))
some_mapped x y is = let there = there_mapped Some x y is in (there.0, (there.1, sym there.2))

module _ (text : List ℕ) (t : ProgramTree) (h : Ground) (has : BreaksNoRule text t h) (p : CheckedTree) (made : elaborated h t ≡ Some p) where
  abbrev own_rows : List Row
  own_rows = (source_of h t).rows

  origin_at : (d : ℕ) (r : Row) → slice_get own_rows d ≡ Some r → slice_get h.origins d ≡ Some r.origin
  origin_at d r at = let parts = row_parts (text_definitions (level_of t)) h.origins h.entries d r at in parts.origin

  mode_at : (d : ℕ) (r : Row) → slice_get own_rows d ≡ Some r → mode_of_entry (slice_get h.entries d) ≡ r.mode
  mode_at d r at = let parts = row_parts (text_definitions (level_of t)) h.origins h.entries d r at in ap mode_of_entry parts.has ∙ sym parts.mode

  location_fits : (d : ℕ) (r : Row) (m : ModeTree) → slice_get own_rows d ≡ Some r → is_location r.origin ≡ true → r.mode ≡ Some m → IsDeclarable m
  location_fits d r m at location mode = by r.origin (origin_at d r at) location
    where
      by : (o : Origin) → slice_get h.origins d ≡ Some o → is_location o ≡ true → IsDeclarable m
      by (a_location l) is location = (location_place text t h has d l is).fits m (mode_at d r at ∙ mode)
      by o is location = absurd (true≢false (sym location))

  in_text : (d : ℕ) (r : Row) → slice_get own_rows d ≡ Some r → d + 1 ≤ length (text_definitions (level_of t))
  in_text d r at = let parts = row_parts (text_definitions (level_of t)) h.origins h.entries d r at in below (text_definitions (level_of t)) d parts.definition parts.is

  -- ---- shared locations

  location_is : (d : ℕ) (r : Row) (x : LocationRowTree) → slice_get own_rows d ≡ Some r → is_shared meets_nothing r ≡ true → location_row own_rows d r ≡ Some x → IsOfLanguage x.mode × IfSome x.region (λ k. k < p.regions)
  location_is d r x at shared is =
      let own = there_mapped (λ m. record { definition = d; name = r.name; mode = m; region = region_around own_rows r.inside }) r.mode x is in
      let direct = both_left (is_location r.origin && is_direct r.inside) (holds_of (λ m. same_meeting meets_nothing (meeting_of m)) r.mode) shared in
      let meets = both_right (is_location r.origin && is_direct r.inside) (holds_of (λ m. same_meeting meets_nothing (meeting_of m)) r.mode) shared in
      let none = nothing_meets own.0 (sym (ap (holds_of (λ m. same_meeting meets_nothing (meeting_of m))) own.1) ∙ meets) in
      let fits = location_fits d r own.0 at (both_left (is_location r.origin) (is_direct r.inside) direct) own.1 in
      subst (λ (y : LocationRowTree). IsOfLanguage y.mode × IfSome y.region (λ k. k < p.regions)) own.2 (none_meets own.0 fits none, around_below (source_of h t) t p r.inside made)

  -- ---- buffers and signals

  buffer_is : (d : ℕ) (r : Row) (x : BufferRowTree) → slice_get own_rows d ≡ Some r → is_shared meets_buffer r ≡ true → buffer_row d r ≡ Some x → IsOfLanguage x.element
  buffer_is d r x at shared is =
      let own = there_chained (buffer_as d r) r.mode x is in
      let direct = both_left (is_location r.origin && is_direct r.inside) (holds_of (λ m. same_meeting meets_buffer (meeting_of m)) r.mode) shared in
      buffer_language d r own.0 x (location_fits d r own.0 at (both_left (is_location r.origin) (is_direct r.inside) direct) own.1) own.2

  -- the number of the body of a process that is named
  for_process : (n : Name) (b : ℕ) → stands_for_process (origin_of h n) ≡ true → body_used (source_of h t) n ≡ Some b → IsForProcess p b
  for_process n b stands used = by_number (number_at h.uses n.at) refl stands used
    where
      by_thing : (e : ℕ) (q : ProcessTree) (th : Thing) → slice_get h.origins e ≡ Some (a_process q) → LeadsTo (source_of h t) p e th → body_in th ≡ Some b → IsForProcess p b
      by_thing e q (a_body k) at (row, body, row_at, body_at, is) same =
          let origin : row.origin ≡ a_process q = same_some row.origin (a_process q) (sym (origin_at e row row_at) ∙ at) in
          (body, ap (slice_get p.bodies) (sym (same_some k b same)) ∙ body_at, process_sort (source_of h t) e row q body (ap (body_as (source_of h t) e row) (sym origin) ∙ is))
      by_thing e q th at leads_to same = no_some b same

      by_number : (k : Option ℕ) → number_at h.uses n.at ≡ k → stands_for_process (option_and_then (slice_get h.origins) k) ≡ true → option_and_then body_in (option_map (thing_of own_rows) k) ≡ Some b → IsForProcess p b
      by_number None number stands used = absurd (true≢false (sym stands))
      by_number (Some e) number stands used =
          let q = process_of (slice_get h.origins e) stands in
          by_thing e q.0 (thing_of own_rows e) q.1 (leads (source_of h t) t p e made) used

  receiver_is : (d : ℕ) (s : SignalTree) (to : Option ℕ) → slice_get h.origins d ≡ Some (a_signal s) → made_of_some (body_used (source_of h t)) s.process ≡ Some to → IfSome to (IsForProcess p)
  receiver_is d s to at is = by s.process refl is
    where
      by : (n : Option Name) → s.process ≡ n → made_of_some (body_used (source_of h t)) n ≡ Some to → IfSome to (IsForProcess p)
      by None same is = subst (λ x. IfSome x (IsForProcess p)) (same_some None to is) tt
      by (Some n) same is =
          let b = some_mapped (body_used (source_of h t) n) to is in
          subst (λ x. IfSome x (IsForProcess p)) (sym b.1.1) (for_process n b.0 (signal_so text t h has d s at n same) b.1.0)

  signal_is : (d : ℕ) (r : Row) (x : SignalRowTree) → slice_get own_rows d ≡ Some r → is_signal r.origin ≡ true → signal_row (source_of h t) d r ≡ Some x → All IsOfLanguage x.parts × IfSome x.process (IsForProcess p)
  signal_is d r x at signal is = by r.origin (origin_at d r at) signal is
    where
      by : (o : Origin) → slice_get h.origins d ≡ Some o → is_signal o ≡ true → signal_as (source_of h t) d r o ≡ Some x → All IsOfLanguage x.parts × IfSome x.process (IsForProcess p)
      by (a_signal s) own signal is =
          let m = made_parts (λ ms to. record { definition = d; name = r.name; parts = ms; process = to }) (parts_known h d) (made_of_some (body_used (source_of h t)) s.process) x is in
          let entry = entry_at text t h has d (a_signal s) own in
          let there : made_each (λ m. m) (parts_of_signal h s.parts) ≡ Some m.first = sym (ap (option_and_then (λ (e : Entry). made_each (λ m. m) e.parts)) entry) ∙ m.of_first in
          subst (λ (y : SignalRowTree). All IsOfLanguage y.parts × IfSome y.process (IsForProcess p)) m.whole (parts_language (parts_of_signal h s.parts) m.first (signal_parts text t h has d s own) there, receiver_is d s m.later own m.of_later)
      by o own signal is = absurd (true≢false (sym signal))

  -- ---- bodies

  locals_are : (b : ℕ) (ls : List LocalRowTree) → locals_of (source_of h t) b ≡ Some ls → AreLaidFrom 0 ls
  locals_are b ls is = laid_from (is_local_of own_rows b) 0 own_rows ls is each
    where
      each : (k : ℕ) (r : Row) (m : ModeTree) → slice_get own_rows k ≡ Some r → is_local_of own_rows b r ≡ true → r.mode ≡ Some m → IsOfLanguage m
      each k r m at passes mode =
          let local = both_left (may_be_local r.origin) (holds_of (λ c. c == b) (body_around own_rows r.inside)) passes in
          let inner = not_direct own_rows b r.inside (both_right (may_be_local r.origin) (holds_of (λ c. c == b) (body_around own_rows r.inside)) passes) in
          local_language text t h has k r.origin m (origin_at k r at) local (mode_at k r at ∙ mode)
          (λ location. meets_outside text t h has.has_modes.has_names has.is_ground (processes_clean text t h has) k r at location inner m mode)

  result_is : (d : ℕ) (q : ProcedureTree) (result : Option ModeTree) → slice_get h.origins d ≡ Some (a_procedure q) → result_of (source_of h t) q ≡ Some result → IfSome result IsOfLanguage
  result_is d q result at is = by (is_some q.returns) is
    where
      by : (b : Bool) → (if b then option_map Some (mode_defined (source_of h t) q.name) else Some None) ≡ Some result → IfSome result IsOfLanguage
      by true is =
          let m = some_mapped (mode_defined (source_of h t) q.name) result is in
          subst (λ x. IfSome x IsOfLanguage) (sym m.1.1) (result_language text t h has d q m.0 at m.1.0)
      by false is = subst (λ x. IfSome x IsOfLanguage) (same_some None result is) tt

  alone : (b : BodyRowTree) → b.region ≡ None → b.critical ≡ false → StandsAlone b
  alone b region critical = (region, critical)

  body_is : (d n : ℕ) (r : Row) (b : BodyRowTree) → slice_get own_rows d ≡ Some r → has_body r.origin ≡ true → body_as (source_of h t) d r r.origin ≡ Some b → HasTypedHead p (suc n) b
  body_is d n r b at holds_row is = by r.origin (origin_at d r at) holds_row is
    where
      by : (o : Origin) → slice_get h.origins d ≡ Some o → has_body o ≡ true → body_as (source_of h t) d r o ≡ Some b → HasTypedHead p (suc n) b
      by (a_process q) own holds is =
          let number = suc (count_before (λ r. has_body r.origin) d own_rows) in
          let m = made_parts (process_body d r q) (locals_of (source_of h t) number) (inside_of (source_of h t) None q.body q.handler) b is in
          subst (λ y. HasTypedHead p (suc n) y) m.whole
          (record {
            head = ((n, refl), record { alone = (refl, refl); result = refl; listed = refl; passed = each_in q.formals });
            result = tt;
            locals = locals_are number m.first m.of_first;
            parameters = process_parameters text t h has d r at holds_row q m.first own (in_text d r at) m.of_first;
          })
      by (a_procedure q) own holds is =
          let number = suc (count_before (λ r. has_body r.origin) d own_rows) in
          let result = there_chained (procedure_made (source_of h t) d r q) (result_of (source_of h t) q) b is in
          let m = three_parts (procedure_body (source_of h t) d r q result.0) (listed_by (source_of h t) q.exceptions) (locals_of (source_of h t) number) (inside_of (source_of h t) result.0 q.body q.handler) b result.2 in
          subst (λ y. HasTypedHead p (suc n) y) m.whole
          (record {
            head = ((n, refl), region_there (region_around own_rows r.inside) _ p.regions (around_below (source_of h t) t p r.inside made));
            result = result_is d q result.0 own result.1;
            locals = locals_are number m.middle m.of_middle;
            parameters = procedure_parameters text t h has d r at holds_row q m.middle own (in_text d r at) m.of_middle;
          })
      by o own holds is = absurd (true≢false (sym holds))

  outermost_is : (b : BodyRowTree) → outermost (source_of h t) t ≡ Some b → HasTypedHead p 0 b × (b.sort ≡ sorts.Outermost)
  outermost_is b is =
      let m = made_parts outermost_body (locals_of (source_of h t) 0) (modulions_done (source_of h t) (items_of t)) b is in
      subst (λ (y : BodyRowTree). HasTypedHead p 0 y × (y.sort ≡ sorts.Outermost)) m.whole (
        record {
          head = (refl, record { alone = (refl, refl); result = refl; listed = refl; passed = All-nil (λ (q : Parameter). q.passing ≡ way.In) }, refl);
          result = tt;
          locals = locals_are 0 m.first m.of_first;
          parameters = omega arith;
        },
        refl,
      )

  parts : FiveParts (source_of h t) t p
  parts = five_parts (source_of h t) t p made

  all_bodies : MadeOf (λ b bs. b ∷ bs) (outermost (source_of h t) t) (rows_made (λ d r. body_as (source_of h t) d r r.origin) (λ r. has_body r.origin) 0 own_rows) p.bodies
  all_bodies = made_parts (λ b bs. b ∷ bs) (outermost (source_of h t) t) (rows_made (λ d r. body_as (source_of h t) d r r.origin) (λ r. has_body r.origin) 0 own_rows) p.bodies parts.of_bodies

  -- whichever number a body has
  abbrev IsMadeSo : BodyRowTree → Type 0
  IsMadeSo b = (n : ℕ) → HasTypedHead p (suc n) b

  later_bodies : Each IsMadeSo all_bodies.later
  later_bodies = each_row IsMadeSo (λ d r. body_as (source_of h t) d r r.origin) (λ r. has_body r.origin) own_rows all_bodies.later all_bodies.of_later (λ d r b at holds is n. body_is d n r b at holds is)

  by_number : (k : ℕ) (b : BodyRowTree) → slice_get (all_bodies.first ∷ all_bodies.later) k ≡ Some b → HasTypedHead p k b
  by_number zero b at = subst (λ y. HasTypedHead p 0 y) (same_some all_bodies.first b at) (outermost_is all_bodies.first all_bodies.of_first).0
  by_number (suc n) b at = each_there IsMadeSo all_bodies.later n b later_bodies at n

  typed_heads : HasTypedHeads p
  typed_heads = record {
    outermost = (all_bodies.first, ap (λ bs. slice_get bs 0) (sym all_bodies.whole), (outermost_is all_bodies.first all_bodies.of_first).1);
    bodies = λ k b at. by_number k b (ap (λ bs. slice_get bs k) all_bodies.whole ∙ at);
    locations = all_of_each (λ (row : LocationRowTree). IsOfLanguage row.mode × IfSome row.region (λ r. r < p.regions)) p.locations
        (each_row (λ (row : LocationRowTree). IsOfLanguage row.mode × IfSome row.region (λ r. r < p.regions)) (location_row own_rows) (is_shared meets_nothing) own_rows p.locations parts.locations location_is);
    buffers = all_of_each (λ (row : BufferRowTree). IsOfLanguage row.element) p.buffers (each_row (λ (row : BufferRowTree). IsOfLanguage row.element) buffer_row (is_shared meets_buffer) own_rows p.buffers parts.buffers buffer_is);
    signals = all_of_each (λ (row : SignalRowTree). All IsOfLanguage row.parts × IfSome row.process (IsForProcess p)) p.signals
        (each_row (λ (row : SignalRowTree). All IsOfLanguage row.parts × IfSome row.process (IsForProcess p)) (signal_row (source_of h t)) (λ r. is_signal r.origin) own_rows p.signals parts.signals signal_is);
  }

pub heads_are : HeadsLaw
heads_are text t g p has made = typed_heads text t g has p made
