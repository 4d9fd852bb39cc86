-- What a name of a body stands for in the elaborated program: a row of its mode, a procedure that is reached, a process.
use Rattle.std.proofs.Common.{◌≡◌, ℕ, suc, ◌+◌, Bool, true, false, ◌&&◌, List, [], ◌∷◌, ◌++◌, Option, Some, None, ◌⊎◌, inl, inr, refl, sym, ap, ◌∙◌, subst, true≢false, arith}
use Rattle.std.specs.Prelude.{is_some, map, flat_map, slice_get, option_map, option_and_then, if◌then◌else◌}
use Rattle.std.proofs.lemmas.List.{map-append}
use Rattle.chill_tree.specs.declared.tree.name.Name.{Name}
use Rattle.chill_tree.specs.ModeTree as written
use Rattle.chill_tree.specs.ItemTree.{ProcedureTree, ProcessTree, ParamTree, FormalTree, ProgramTree}
use Rattle.modes.specs.ModeTree.{ModeTree}
use Rattle.modes.specs.Scalars.{scalars_of}
use Rattle.names_model.specs.Definitions.{text_definitions}
use Rattle.names_model.specs.Resolving.{level_of}
use Rattle.checked_program.specs.declared.expr.Base.{Base}
use Rattle.checked_program.specs.declared.expr.Base.TheVariants as bases
use Rattle.checked_program.specs.declared.program.Parameter.{Parameter}
use Rattle.checked_program.specs.declared.program.Passing.TheVariants as ways
use Rattle.program_trees.specs.ProgramTree.{CheckedTree, LocationRowTree, LocalRowTree, BodyRowTree}
use Rattle.ground_laws.specs.Defining.{Defines}
use Rattle.checks_model.specs.Ground.{Ground, Origin, a_procedure, a_process, number_at, origin_of, entry_of, mode_of_entry}
use Rattle.checks_model.specs.ProcessRules.{meets_event, meets_buffer, meets_nothing}
use Rattle.checks_model.specs.WrittenModes.{some_mode_of}
use Rattle.checks_model.specs.Diagnoses.{BreaksNoRule}
use Rattle.expression_laws.proofs.Outside.{row_parts}
use Rattle.elaborated_laws.specs.Rows.{LeadsTo}
use Rattle.elaborated_laws.proofs.Rows.{leads}
use Rattle.elaborated_laws.proofs.Told.{no_some, same_some, there_mapped, there_chained, both_left}
use Rattle.elaboration_model.specs.Numbering.{Source, Row, is_direct, is_location, is_signal, is_region_origin, has_body, is_shared, is_local_of, body_around, body_number, count_before, Thing, a_local, a_shared, an_event, a_buffer, a_message, a_region, a_body, no_thing, thing_directly, local_in, thing_by, thing_of, thing_used, body_in, body_used}
use Rattle.elaboration_model.specs.Elaborated.{source_of, region_around, locals_of, is_critical, way_of, parameters_of, passed_in, result_of, listed_by, inside_of, process_body, procedure_body, procedure_made, body_as, elaborated}
use Rattle.elaboration_model.specs.Expressions.{Formal, base_of, passing_of, mode_defined, formals_of_param, formals_by, modes_of_formal, modes_by}
use Rattle.head_laws.specs.Parameters.{BeginWith}
use Rattle.head_laws.proofs.Formals.{formals_are, started_are}
use Rattle.head_laws.proofs.Rows.{made_parts, three_parts}
use Rattle.program_laws.proofs.Defined.{entry_at}
use Rattle.reached_laws.specs.Reached.{IsOpenTo, IsUseReached}
use Rattle.reached_laws.proofs.Places.{row_is}
use Rattle.reached_laws.proofs.Items.{number_is, defines_is}
use Rattle.source_meaning.specs.TypedValues.{Context, IsReached, BaseHas, IsReachedFrom}
use Rattle.lead_laws.specs.Leads.{IsWithin, IsNameWithin, IsInBody, NameLeads}
use Rattle.lead_laws.proofs.Leads.{name_leads_law}
use Rattle.constant_laws.specs.Constants.{IsNameFit}
use Rattle.typed_laws.specs.Typed.{AreParameters, AreTaken, IsCalledRow, IsStartedRow, IsNameTyped}

-- ---- parameters

-- the lists of a body from a number on
abbrev From : {A : Type 0} → List A → ℕ → List A → Type 0
From {A} xs k ys = (j e : ℕ) → e ≡ k + j → slice_get xs e ≡ slice_get ys j

from_next : {A : Type 0} (xs : List A) (k : ℕ) (y : A) (ys : List A) → From xs k (y ∷ ys) → From xs (suc k) ys
from_next xs k y ys all j e same = all (suc j) e (omega (arith, same))

abbrev passed_as : Formal → Parameter
passed_as f = record { passing = way_of f.0 }

are_parameters : (b : BodyRowTree) (k : ℕ) (fs : List Formal) (ls : List LocalRowTree) → From b.locals k ls → From b.parameters k (map passed_as fs) → BeginWith ls (map (λ (f : Formal). f.1) fs) → AreParameters b k fs
are_parameters b k [] ls locals parameters begins = parameters 0 k (omega arith)
are_parameters b k (f ∷ fs) [] locals parameters begins = absurd begins
are_parameters b k (f ∷ fs) (l ∷ ls) locals parameters begins = (
  (λ m is. (parameters 0 k (omega arith), (l, locals 0 k (omega arith), same_some l.mode m (sym begins.0 ∙ is)))),
  are_parameters b (suc k) fs ls (from_next b.locals k l ls locals) (from_next b.parameters k (passed_as f) (map passed_as fs) parameters) begins.1,
)

abbrev taken_in : Option ModeTree → Parameter
taken_in m = record { passing = ways.In }

are_taken : (b : BodyRowTree) (k : ℕ) (ms : List (Option ModeTree)) (ls : List LocalRowTree) → From b.locals k ls → From b.parameters k (map taken_in ms) → BeginWith ls ms → AreTaken b k ms
are_taken b k [] ls locals parameters begins = parameters 0 k (omega arith)
are_taken b k (m ∷ ms) [] locals parameters begins = absurd begins
are_taken b k (m ∷ ms) (l ∷ ls) locals parameters begins = (
  (λ own is. (parameters 0 k (omega arith), (l, locals 0 k (omega arith), same_some l.mode own (sym begins.0 ∙ is)))),
  are_taken b (suc k) ms ls (from_next b.locals k l ls locals) (from_next b.parameters k (taken_in m) (map taken_in ms) parameters) begins.1,
)

whole_from : {A : Type 0} (xs : List A) → From xs 0 xs
whole_from xs j e same = ap (slice_get xs) (let back : e ≡ j = omega (arith, same) in back)

names_passed : (s : Source) (p : ParamTree) (ns : List Name) → map (λ n. record { passing = way_of (passing_of p.passing) }) ns ≡ map passed_as (map (λ n. (passing_of p.passing, mode_defined s n)) ns)
names_passed s p [] = refl
names_passed s p (n ∷ ns) = ap (λ ps. record { passing = way_of (passing_of p.passing) } ∷ ps) (names_passed s p ns)

params_passed : (s : Source) (ps : List ParamTree) → flat_map parameters_of ps ≡ map passed_as (flat_map (formals_of_param s) ps)
params_passed s [] = refl
params_passed s (p ∷ ps) =
    ap (λ xs. xs ++ flat_map parameters_of ps) (names_passed s p p.names)
    ∙ (ap (λ xs. map passed_as (formals_of_param s p) ++ xs) (params_passed s ps) ∙ sym (map-append passed_as (formals_of_param s p) (flat_map (formals_of_param s) ps)))

names_taken : (s : Source) (ns : List Name) → passed_in ns ≡ map taken_in (map (mode_defined s) ns)
names_taken s [] = refl
names_taken s (n ∷ ns) = ap (λ ps. record { passing = ways.In } ∷ ps) (names_taken s ns)

formals_taken : (s : Source) (fs : List FormalTree) → flat_map (λ (f : FormalTree). passed_in f.names) fs ≡ map taken_in (flat_map (modes_of_formal s) fs)
formals_taken s [] = refl
formals_taken s (f ∷ fs) =
    ap (λ xs. xs ++ flat_map (λ (f : FormalTree). passed_in f.names) fs) (names_taken s f.names)
    ∙ (ap (λ xs. map taken_in (modes_of_formal s f) ++ xs) (formals_taken s fs) ∙ sym (map-append taken_in (modes_of_formal s f) (flat_map (modes_of_formal s) fs)))

-- ---- things

abbrev pub with_origin : Row → Origin → Row
with_origin r o = record { name = r.name; inside = r.inside; origin = o; mode = r.mode }

body_by_thing : (x : Thing) (b : ℕ) → body_in x ≡ Some b → x ≡ a_body b
body_by_thing (a_body c) b is = ap a_body (same_some c b is)
body_by_thing x b is = no_some b is

abbrev number_of_body : Thing → ℕ
number_of_body (a_body c) = c
number_of_body x = 0

abbrev is_body : Thing → Bool
is_body (a_body c) = true
is_body x = false

-- a routine has the number of its body
routine_thing : (rs : List Row) (d b : ℕ) (r : Row) (o : Origin) → r.origin ≡ o → ((i : Row) → thing_directly rs d (with_origin i o) ≡ a_body (body_number rs d)) → slice_get rs d ≡ Some r → thing_of rs d ≡ a_body b → body_number rs d ≡ b
routine_thing rs d b r o origin direct at is = by (body_around rs r.inside) (sym (ap (thing_by rs d) at) ∙ is)
  where
    local : (c : ℕ) (l : Bool) → (if l then a_local c (count_before (is_local_of rs c) d rs) else no_thing) ≡ a_body b → body_number rs d ≡ b
    local c true is = absurd (true≢false (sym (ap is_body is)))
    local c false is = absurd (true≢false (sym (ap is_body is)))

    by : (c : Option ℕ) → local_in rs d r c ≡ a_body b → body_number rs d ≡ b
    by None is = ap number_of_body (sym (ap (λ k. thing_directly rs d (with_origin r k)) origin ∙ direct r) ∙ is)
    by (Some c) is = local c (is_local_of rs c r) is

reached_from : (critical : Bool) (region around : Option ℕ) → ((k : ℕ) → region ≡ Some k → (around ≡ Some k) ⊎ (critical ≡ true)) → IsReachedFrom critical region around
reached_from true region around kept = tt
reached_from false None around kept = tt
reached_from false (Some k) around kept = elim (kept k refl) [ inl is ↦ is | inr wrong ↦ absurd (true≢false (sym wrong)) ]

module _ (text : List ℕ) (t : ProgramTree) (h : Ground) (p : CheckedTree) (has : BreaksNoRule text t h) (made : elaborated h t ≡ Some p) (body : ℕ) (ctx : Context) (is_in : IsInBody (source_of h t) p ctx body) where
  abbrev s : Source
  s = source_of h t

  -- the definition of a number may be named here
  abbrev pub OpenAt : ℕ → Type 0
  OpenAt d = (r : Row) → slice_get s.rows d ≡ Some r → IsOpenTo s body ctx.region r

  reached_if : (region : Option ℕ) → ((k : ℕ) → region ≡ Some k → ctx.region ≡ Some k) → IsReached region ctx.region
  reached_if None kept = tt
  reached_if (Some k) kept = kept k refl

  within_directly : (d : ℕ) (r : Row) → slice_get s.rows d ≡ Some r → OpenAt d → IsWithin s ctx body d (thing_directly s.rows d r)
  within_directly d r at free = by (is_shared meets_nothing r) refl
    where
      located : is_shared meets_nothing r ≡ true → is_location r.origin ≡ true
      located is = both_left (is_location r.origin) (is_direct r.inside) (both_left (is_location r.origin && is_direct r.inside) _ is)

      kept_in : is_shared meets_nothing r ≡ true → (q : Row) → slice_get s.rows d ≡ Some q → IsReached (region_around s.rows q.inside) ctx.region
      kept_in is q there =
          let same = same_some r q (sym at ∙ there) in
          reached_if (region_around s.rows q.inside)
          (λ k region. elim ((free q there).kept k region) [ inl own ↦ own | inr passed ↦ absurd (true≢false (sym (located is) ∙ (ap (λ (x : Row). is_location x.origin) same ∙ passed.0))) ])

      rest : (a b c e f : Bool) (i j k l m : ℕ) → IsWithin s ctx body d (if a then an_event i else (if b then a_buffer j else (if c then a_message k else (if e then a_region l else (if f then a_body m else no_thing)))))
      rest true b c e f i j k l m = tt
      rest false true c e f i j k l m = tt
      rest false false true e f i j k l m = tt
      rest false false false true f i j k l m = tt
      rest false false false false true i j k l m = tt
      rest false false false false false i j k l m = tt

      by : (b : Bool) → is_shared meets_nothing r ≡ b → IsWithin s ctx body d (if b then a_shared (count_before (is_shared meets_nothing) d s.rows)
          else (if is_shared meets_event r then an_event (count_before (is_shared meets_event) d s.rows)
          else (if is_shared meets_buffer r then a_buffer (count_before (is_shared meets_buffer) d s.rows)
          else (if is_signal r.origin then a_message (count_before (λ r. is_signal r.origin) d s.rows)
          else (if is_region_origin r.origin then a_region (count_before (λ r. is_region_origin r.origin) d s.rows) else (if has_body r.origin then a_body (body_number s.rows d) else no_thing))))))
      by true is = kept_in is
      by false is = rest (is_shared meets_event r) (is_shared meets_buffer r) (is_signal r.origin) (is_region_origin r.origin) (has_body r.origin) _ _ _ _ _

  pub within_at : (d : ℕ) → OpenAt d → IsWithin s ctx body d (thing_of s.rows d)
  within_at d free = by (slice_get s.rows d) refl
    where
      local : (r : Row) (b : ℕ) (l : Bool) → body_around s.rows r.inside ≡ Some b → slice_get s.rows d ≡ Some r → IsWithin s ctx body d (if l then a_local b (count_before (is_local_of s.rows b) d s.rows) else no_thing)
      local r b true around at = (free r at).own b around
      local r b false around at = tt

      inner : (r : Row) (c : Option ℕ) → body_around s.rows r.inside ≡ c → slice_get s.rows d ≡ Some r → IsWithin s ctx body d (local_in s.rows d r c)
      inner r None around at = within_directly d r at free
      inner r (Some b) around at = local r b (is_local_of s.rows b r) around at

      by : (o : Option Row) → slice_get s.rows d ≡ o → IsWithin s ctx body d (thing_by s.rows d o)
      by None at = tt
      by (Some r) at = inner r (body_around s.rows r.inside) refl at

  row_mode : (d : ℕ) (r : Row) (m : ModeTree) → slice_get s.rows d ≡ Some r → mode_of_entry (slice_get h.entries d) ≡ Some m → r.mode ≡ Some m
  row_mode d r m at mode = let parts = row_parts (text_definitions (level_of t)) h.origins h.entries d r at in parts.mode ∙ (sym (ap mode_of_entry parts.has) ∙ mode)

  -- what a definition leads to has its mode
  pub base_at : (d : ℕ) (m : ModeTree) (b : Base) → OpenAt d → mode_of_entry (slice_get h.entries d) ≡ Some m → base_of (thing_of s.rows d) ≡ Some b → BaseHas ctx b m
  base_at d m b free mode is = by (thing_of s.rows d) (leads s t p d made) (within_at d free) is
    where
      by : (thing : Thing) → LeadsTo s p d thing → IsWithin s ctx body d thing → base_of thing ≡ Some b → BaseHas ctx b m
      by (a_shared k) lead inside base =
          let row = there_mapped (λ m. record { definition = d; name = lead.0.name; mode = m; region = region_around s.rows lead.0.inside }) lead.0.mode lead.1 lead.4 in
          let same = same_some row.0 m (sym row.1 ∙ row_mode d lead.0 m lead.2 mode) in
          subst (λ x. BaseHas ctx x m) (same_some (bases.Shared k) b base)
          (lead.1, ap (λ (q : CheckedTree). slice_get q.locations k) is_in.program ∙ lead.3, sym (ap (λ (q : LocationRowTree). q.mode) row.2) ∙ same, subst (λ z. IsReached z ctx.region) (ap (λ (q : LocationRowTree). q.region) row.2) (inside lead.0 lead.2))
      by (a_local c k) lead inside base =
          let own = lead ctx.rows (ap (locals_of s) inside ∙ is_in.locals) in
          let made_of_row = own.1 in
          let row = there_mapped (λ m. record { name = made_of_row.0.name; mode = m; first = own.0; count = scalars_of m }) made_of_row.0.mode made_of_row.1 made_of_row.4 in
          let same = same_some row.0 m (sym row.1 ∙ row_mode d made_of_row.0 m made_of_row.2 mode) in
          subst (λ x. BaseHas ctx x m) (same_some (bases.Local k) b base) (made_of_row.1, made_of_row.3, sym (ap (λ (q : LocalRowTree). q.mode) row.2) ∙ same)
      by (an_event k) lead inside base = no_some b base
      by (a_buffer k) lead inside base = no_some b base
      by (a_message k) lead inside base = no_some b base
      by (a_region k) lead inside base = no_some b base
      by (a_body k) lead inside base = no_some b base
      by no_thing lead inside base = no_some b base

  -- ---- used names

  pub name_within : (n : Name) → IsUseReached s body ctx.region n → IsNameWithin s ctx body n
  name_within n used d number = within_at d (λ r at. used d r number at)

  pub name_leads : (n : Name) → IsUseReached s body ctx.region n → NameLeads s ctx n
  name_leads n used = name_leads_law h t p ctx body n made is_in (name_within n used)

  -- the definition of a name that leads to a body
  record BodyUsed (n : Name) (b : ℕ) : Type 0 where
    number : ℕ
    is : number_at h.uses n.at ≡ Some number
    thing : thing_of s.rows number ≡ a_body b
    row : Row
    at : slice_get s.rows number ≡ Some row
    made_row : BodyRowTree
    there : slice_get ctx.program.bodies b ≡ Some made_row
    in_program : slice_get p.bodies b ≡ Some made_row
    made_as : body_as s number row row.origin ≡ Some made_row

  body_is : (n : Name) (b : ℕ) → body_used s n ≡ Some b → BodyUsed n b
  body_is n b is =
      let there = there_chained body_in (thing_used s n) b is in
      let number = there_mapped (thing_of s.rows) (number_at h.uses n.at) there.0 there.1 in
      let thing = number.2 ∙ body_by_thing there.0 b there.2 in
      let lead = subst (λ x. LeadsTo s p number.0 x) thing (leads s t p number.0 made) in
      record { number = number.0; is = number.1; thing = thing; row = lead.0; at = lead.2; made_row = lead.1; there = ap (λ (q : CheckedTree). slice_get q.bodies b) is_in.program ∙ lead.3; in_program = lead.3; made_as = lead.4 }

  origin_at_number : (n : Name) (d : ℕ) (o : Origin) → number_at h.uses n.at ≡ Some d → origin_of h n ≡ Some o → slice_get h.origins d ≡ Some o
  origin_at_number n d o number origin = sym (ap (option_and_then (slice_get h.origins)) number) ∙ origin

  row_origin : (d : ℕ) (r : Row) (o : Origin) → slice_get s.rows d ≡ Some r → slice_get h.origins d ≡ Some o → r.origin ≡ o
  row_origin d r o at origin = let own = row_is (text_definitions (level_of t)) h.origins h.entries d r at in same_some r.origin o (sym own.origin ∙ origin)

  -- a routine's own name leads to its number
  procedure_number : (d : ℕ) (r : Row) (q : ProcedureTree) → slice_get s.rows d ≡ Some r → slice_get h.origins d ≡ Some (a_procedure q) → number_at h.defined q.name.at ≡ Some d
  procedure_number d r q at origin =
      let own = row_is (text_definitions (level_of t)) h.origins h.entries d r at in
      let defines = subst (λ o. Defines o own.definition) (row_origin d r (a_procedure q) at origin) (defines_is text t h has.has_modes.has_names has.is_ground.names d r own.definition at own.is) in
      number_is text t h has.has_modes.has_names has.is_ground.names q.name d own.definition own.is defines.1

  result_same : (n : Name) (d : ℕ) (r : Row) (q : ProcedureTree) (result : Option ModeTree) → number_at h.uses n.at ≡ Some d → slice_get s.rows d ≡ Some r → slice_get h.origins d ≡ Some (a_procedure q) → result_of s q ≡ Some result → result ≡ mode_of_entry (entry_of h n)
  result_same n d r q result number at origin is = by q.returns refl is
    where
      entry : mode_of_entry (entry_of h n) ≡ mode_of_entry (slice_get h.entries d)
      entry = ap (λ x. mode_of_entry (option_and_then (slice_get h.entries) x)) number

      own : mode_defined s q.name ≡ mode_of_entry (slice_get h.entries d)
      own = ap (λ x. mode_of_entry (option_and_then (slice_get h.entries) x)) (procedure_number d r q at origin)

      by : (w : Option written.ModeTree) → q.returns ≡ w → (if is_some w then option_map Some (mode_defined s q.name) else Some None) ≡ Some result → result ≡ mode_of_entry (entry_of h n)
      by None returns made = sym (same_some None result made) ∙ (sym (ap (some_mode_of h) returns) ∙ (sym (ap mode_of_entry (entry_at text t h has d (a_procedure q) origin)) ∙ sym entry))
      by (Some w) returns made = let m = there_mapped Some (mode_defined s q.name) result made in sym m.2 ∙ (sym m.1 ∙ (own ∙ sym entry))

  called_typed : (n : Name) → IsUseReached s body ctx.region n → (q : ProcedureTree) (b : ℕ) → origin_of h n ≡ Some (a_procedure q) → body_used s n ≡ Some b → IsCalledRow ctx b (mode_of_entry (entry_of h n)) (formals_by s (Some (a_procedure q)))
  called_typed n used q b origin is =
      let u = body_is n b is in
      let at_number = origin_at_number n u.number (a_procedure q) u.is origin in
      let own = row_origin u.number u.row (a_procedure q) u.at at_number in
      let made_as = ap (body_as s u.number u.row) (sym own) ∙ u.made_as in
      let result = there_chained (procedure_made s u.number u.row q) (result_of s q) u.made_row made_as in
      let m = three_parts (procedure_body s u.number u.row q result.0) (listed_by s q.exceptions) (locals_of s (suc (count_before (λ r. has_body r.origin) u.number s.rows))) (inside_of s result.0 q.body q.handler) u.made_row result.2 in
      let same_number = routine_thing s.rows u.number b u.row (a_procedure q) own (λ i. refl) u.at u.thing in
      let begins = formals_are text t h p u.number q u.made_row has made at_number (ap (slice_get p.bodies) same_number ∙ u.in_program) in
      let free = used u.number u.row u.is u.at in
      let parameters : u.made_row.parameters ≡ map passed_as (flat_map (formals_of_param s) q.params) = sym (ap (λ (x : BodyRowTree). x.parameters) m.whole) ∙ params_passed s q.params in
      record {
        row = u.made_row;
        is = u.there;
        sort = sym (ap (λ (x : BodyRowTree). x.sort) m.whole);
        result_is = sym (ap (λ (x : BodyRowTree). x.result) m.whole) ∙ result_same n u.number u.row q result.0 u.is u.at at_number result.1;
        reached = subst (λ (x : BodyRowTree). IsReachedFrom x.critical x.region ctx.region) m.whole
            (reached_from (is_critical s.rows u.row q.name) (region_around s.rows u.row.inside) ctx.region (λ k region. elim (free.kept k region) [ inl here ↦ inl here | inr passed ↦ inr (passed.1 q own) ]));
        parameters = are_parameters u.made_row 0 (flat_map (formals_of_param s) q.params) u.made_row.locals (whole_from u.made_row.locals) (subst (λ ps. From u.made_row.parameters 0 ps) parameters (whole_from u.made_row.parameters)) begins;
      }

  started_typed : (n : Name) (q : ProcessTree) (b : ℕ) → origin_of h n ≡ Some (a_process q) → body_used s n ≡ Some b → IsStartedRow ctx b (modes_by s (Some (a_process q)))
  started_typed n q b origin is =
      let u = body_is n b is in
      let at_number = origin_at_number n u.number (a_process q) u.is origin in
      let own = row_origin u.number u.row (a_process q) u.at at_number in
      let made_as = ap (body_as s u.number u.row) (sym own) ∙ u.made_as in
      let m = made_parts (process_body u.number u.row q) (locals_of s (suc (count_before (λ r. has_body r.origin) u.number s.rows))) (inside_of s None q.body q.handler) u.made_row made_as in
      let same_number = routine_thing s.rows u.number b u.row (a_process q) own (λ i. refl) u.at u.thing in
      let begins = started_are text t h p u.number q u.made_row has made at_number (ap (slice_get p.bodies) same_number ∙ u.in_program) in
      let parameters : u.made_row.parameters ≡ map taken_in (flat_map (modes_of_formal s) q.formals) = sym (ap (λ (x : BodyRowTree). x.parameters) m.whole) ∙ formals_taken s q.formals in
      record {
        row = u.made_row;
        is = u.there;
        sort = sym (ap (λ (x : BodyRowTree). x.sort) m.whole);
        parameters = are_taken u.made_row 0 (flat_map (modes_of_formal s) q.formals) u.made_row.locals (whole_from u.made_row.locals) (subst (λ ps. From u.made_row.parameters 0 ps) parameters (whole_from u.made_row.parameters)) begins;
      }

  pub name_typed : (n : Name) → IsNameFit h n → IsUseReached s body ctx.region n → IsNameTyped s ctx n
  name_typed n fit used =
      let leads_to = name_leads n used in
      record { fit = fit; base = leads_to.base; buffer = leads_to.buffer; called = called_typed n used; started = started_typed n }
