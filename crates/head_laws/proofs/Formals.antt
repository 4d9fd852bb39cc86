-- The first locals of a body are its parameters, in order.
use Rattle.std.proofs.Common.{◌≡◌, ◌<◌, ◌≤◌, ℕ, zero, suc, ◌+◌, ◌==◌, Bool, true, false, ◌&&◌, ◌||◌, List, [], ◌∷◌, ◌++◌, Option, Some, None, length, take, arith, refl, sym, ap, ◌∙◌, subst, append_assoc}
use Rattle.std.proofs.lemmas.Bool.{eqb-true}
use Rattle.std.specs.Prelude.{cond, map, flat_map, replicate, slice_get, option_and_then, if◌then◌else◌}
use Rattle.std.proofs.lemmas.List.{length-map, map-append}
use Rattle.std.specs.List.{filter}
use Rattle.chill_tree.specs.declared.tree.name.Name.{Name}
use Rattle.chill_tree.specs.ModeTree as written
use Rattle.chill_tree.specs.ItemTree.{ParamTree, FormalTree, ProcedureTree, ProcessTree, ProgramTree}
use Rattle.modes.specs.ModeTree.{ModeTree}
use Rattle.modes.specs.Scalars.{scalars_of}
use Rattle.names_model.specs.declared.kind.Kind.{Kind}
use Rattle.names_model.specs.declared.kind.Kind.TheVariants as kinds
use Rattle.names_model.specs.declared.definition.Inside.{Inside}
use Rattle.names_model.specs.declared.definition.Inside.TheVariants.{Outermost, Modulion, Body, Block}
use Rattle.names_model.specs.declared.definition.Definition.{Definition}
use Rattle.names_model.specs.Identifiers.{identifier, identifiers}
use Rattle.names_model.specs.Sizes.{elements_in}
use Rattle.names_model.specs.Definitions.{elements_defined, elements_with, params_defined, text_definitions, numbers_on, defined}
use Rattle.names_model.specs.ModeMentions.{mentions_of_mode}
use Rattle.names_model.specs.StatementParts.{clause}
use Rattle.names_model.specs.Resolving.{level_of}
use Rattle.checks_model.specs.Ground.{Ground, Origin, an_element, a_parameter, a_procedure, a_process, mode_of_entry}
use Rattle.checks_model.specs.WrittenModes.{mode_of}
use Rattle.checks_model.specs.Origins.{sets_in, elements, elements_of, text_origins}
use Rattle.checks_model.specs.Table.{entry_with_counters}
use Rattle.checks_model.specs.Told.{holds_of}
use Rattle.checks_model.specs.Limits.{scalars_in_mode}
use Rattle.checks_model.specs.Diagnoses.{BreaksNoRule}
use Rattle.written_laws.specs.Written.{Each}
use Rattle.written_laws.proofs.Shown.{each_any, each_map, each_flat}
use Rattle.written_laws.proofs.Rows.{mode_elements_count}
use Rattle.program_trees.specs.ProgramTree.{LocalRowTree, BodyRowTree, CheckedTree}
use Rattle.elaborated_laws.specs.Rows.{LeadsTo, IsMadeOf}
use Rattle.elaborated_laws.proofs.Rows.{leads}
use Rattle.elaborated_laws.proofs.Told.{no_some, same_some, there_mapped, there_chained}
use Rattle.elaboration_model.specs.Parts.{made_of}
use Rattle.elaboration_model.specs.Numbering.{Row, rows, may_be_local, has_body, is_direct, is_location, is_signal, is_region_origin, count_before, body_number, body_of, body_around, is_local_of, a_message, a_region, a_body, no_thing, local_in, thing_by, thing_of}
use Rattle.elaboration_model.specs.Expressions.{Formal, passing_of, mode_defined, formals_of_param, formals_by, modes_of_formal, modes_by}
use Rattle.elaboration_model.specs.Elaborated.{local_row, local_rows, locals_of, result_of, listed_by, inside_of, process_body, procedure_body, procedure_made, body_as, source_of, elaborated}
use Rattle.expression_laws.specs.Things.{is_of_text}
use Rattle.expression_laws.proofs.Outside.{row_parts}
use Rattle.expression_laws.proofs.Things.{apart_thing}
use Rattle.program_laws.proofs.DefinitionNames.{two_lists}
use Rattle.program_laws.proofs.Rows.{IsDefinedAs, AreDefinedAs, ParamSo, FormalSo, ParamOrigins, Begins, HeadOk, HeadsOk}
use Rattle.program_laws.proofs.Defined.{names_list, defined_in, origin_so, entry_at}
use Rattle.program_laws.proofs.Grounds.{all_placed}
use Rattle.head_laws.specs.Parameters.{BeginWith, FormalsLaw, StartedLaw}
use Rattle.head_laws.proofs.Rows.{made_parts, three_parts}
use Rattle.head_laws.proofs.Parameters.{heads_past, passes}
use Rattle.head_laws.proofs.Heads.{below}
use Rattle.head_laws.proofs.Under.{Under, text_under}

-- ---- rows that pass, and others

-- the modes of parameters
abbrev pub modes_of_params : {A : Type 0} → Ground → (A → List Name) → (A → written.ModeTree) → List A → List (Option ModeTree)
modes_of_params h names mode xs = flat_map (λ x. map (λ n. mode_of h false (mode x)) (names x)) xs

module _ (h : Ground) (test : Row → Bool) where
  abbrev own : List Definition → List Origin → List Row
  own ds os = rows ds os (map (entry_with_counters h) os)

  abbrev row_is : Definition → Origin → Row
  row_is d o = record { name = d.name.spelling; inside = d.inside; origin = o; mode = (entry_with_counters h o).mode }

  -- what is left out changes nothing
  left_out : (first : ℕ) (q : Row) (rs : List Row) (ls : List LocalRowTree) → test q ≡ false → local_rows test first (q ∷ rs) ≡ Some ls → local_rows test first rs ≡ Some ls
  left_out first q rs ls is made = sym (ap (λ b. if b then made_of (λ l ls. l ∷ ls) (local_row q first q.mode) (local_rows test (first + scalars_in_mode q.mode) rs) else local_rows test first rs) is) ∙ made

  abbrev NotLocal : Origin → Type 0
  NotLocal o = (d : Definition) → test (row_is d o) ≡ false

  skipped : (first : ℕ) (ds later : List Definition) (os rest : List Origin) (ls : List LocalRowTree) → length os ≡ length ds → Each NotLocal os → local_rows test first (own (ds ++ later) (os ++ rest)) ≡ Some ls → local_rows test first (own later rest) ≡ Some ls
  skipped first [] later [] rest ls same none made = made
  skipped first (d ∷ ds) later [] rest ls same none made = absurd (omega (arith, same))
  skipped first [] later (o ∷ os) rest ls same none made = absurd (omega (arith, same))
  skipped first (d ∷ ds) later (o ∷ os) rest ls same none made =
      skipped first ds later os rest ls (let less : length os ≡ length ds = omega (arith, same) in less) none.1 (left_out first (row_is d o) (own (ds ++ later) (os ++ rest)) ls (none.0 d) made)

  module _ (number : ℕ) (passes : (r : Row) (w : written.ModeTree) → r.inside ≡ Body number → r.origin ≡ a_parameter w → test r ≡ true) (apart : (names : List Name) (part : ℕ) (owner : Option (Name × Bool)) → NotLocal (an_element names part owner)) where
    named : (kind : Kind) (count : ℕ) (w : written.ModeTree) (ns : List Name) (first : ℕ) (later : List Definition) (rest : List Origin) (ms : List (Option ModeTree)) (ls : List LocalRowTree)
        → ((from : ℕ) (ks : List LocalRowTree) → local_rows test from (own later rest) ≡ Some ks → BeginWith ks ms)
        → local_rows test first (own (map (λ n. record { name = n; kind = kind; inside = Body number; elements = count }) (identifiers ns) ++ later) (replicate (length ns) (a_parameter w) ++ rest)) ≡ Some ls
        → BeginWith ls (map (λ n. mode_of h false w) ns ++ ms)
    named kind count w [] first later rest ms ls behind made = behind first ls made
    named kind count w (n ∷ ns) first later rest ms ls behind made =
        let d : Definition = record { name = identifier n; kind = kind; inside = Body number; elements = count } in
        let r = row_is d (a_parameter w) in
        let rs = own (map (λ n. record { name = n; kind = kind; inside = Body number; elements = count }) (identifiers ns) ++ later) (replicate (length ns) (a_parameter w) ++ rest) in
        let taken = sym (ap (λ b. if b then made_of (λ l ls. l ∷ ls) (local_row r first r.mode) (local_rows test (first + scalars_in_mode r.mode) rs) else local_rows test first rs) (passes r w refl refl)) ∙ made in
        let m = made_parts (λ l ls. l ∷ ls) (local_row r first r.mode) (local_rows test (first + scalars_in_mode r.mode) rs) ls taken in
        let mode = there_mapped (λ x. record { name = r.name; mode = x; first = first; count = scalars_of x }) r.mode m.first m.of_first in
        subst (λ ks. BeginWith ks (map (λ n. mode_of h false w) (n ∷ ns) ++ ms)) m.whole
        (mode.1 ∙ ap (λ (l : LocalRowTree). Some l.mode) mode.2, named kind count w ns (first + scalars_in_mode r.mode) later rest ms m.later behind m.of_later)

    elements_apart : (owner : Option (Name × Bool)) (sets : List (List Name)) → Each NotLocal (flat_map (elements owner) sets)
    elements_apart owner sets =
        each_flat (λ ns. Unit {0}) NotLocal (elements owner)
        (λ ns fits. each_map (λ k. Unit {0}) NotLocal (λ part. an_element ns part owner) (λ k fits. apart ns k owner) (numbers_on 0 (length ns)) (each_any (λ k. Unit {0}) (λ k. tt) (numbers_on 0 (length ns)))) sets
        (each_any (λ ns. Unit {0}) (λ ns. tt) sets)

    headed : {A : Type 0} (names : A → List Name) (mode : A → written.ModeTree) (around : Inside) (xs : List A) (first : ℕ) (later : List Definition) (rest : List Origin) (ls : List LocalRowTree)
        → local_rows test first (own (params_defined around (Body number) (map (λ x. clause kinds.Parameter (names x) (mentions_of_mode (mode x))) xs) ++ later) (ParamOrigins names mode xs ++ rest)) ≡ Some ls → BeginWith ls (modes_of_params h names mode xs)
    headed names mode around [] first later rest ls made = tt
    headed names mode around (x ∷ xs) first later rest ls made =
        let w = mode x in
        let ns = names x in
        let params = replicate (length ns) (a_parameter w) in
        let inside = elements_of None w in
        let us = ParamOrigins names mode xs in
        let named_elements = elements_in (mentions_of_mode w) in
        let own_defined = map (λ n. record { name = n; kind = kinds.Parameter; inside = Body number; elements = elements_with kinds.Parameter named_elements }) (identifiers ns) in
        let in_defined = elements_defined around named_elements in
        let ds = params_defined around (Body number) (map (λ x. clause kinds.Parameter (names x) (mentions_of_mode (mode x))) xs) in
        let origins : ((params ++ inside) ++ us) ++ rest ≡ params ++ (inside ++ (us ++ rest)) = append_assoc (params ++ inside) us rest ∙ append_assoc params inside (us ++ rest) in
        let definitions : ((own_defined ++ in_defined) ++ ds) ++ later ≡ own_defined ++ (in_defined ++ (ds ++ later)) = append_assoc (own_defined ++ in_defined) ds later ∙ append_assoc own_defined in_defined (ds ++ later) in
        let same : length inside ≡ length in_defined = mode_elements_count None w ∙ sym (length-map named_elements (defined around kinds.Element)) in
        named kinds.Parameter (elements_with kinds.Parameter named_elements) w ns first (in_defined ++ (ds ++ later)) (inside ++ (us ++ rest)) (modes_of_params h names mode xs) ls
        (λ from ks is. headed names mode around xs from later rest ks (skipped from in_defined (ds ++ later) inside (us ++ rest) ks same (elements_apart None (sets_in w)) is))
        (subst (λ os. local_rows test first (own (own_defined ++ (in_defined ++ (ds ++ later))) os) ≡ Some ls) origins
        (subst (λ zs. local_rows test first (own zs (((params ++ inside) ++ us) ++ rest)) ≡ Some ls) definitions made))

    begun : {A : Type 0} (names : A → List Name) (mode : A → written.ModeTree) (xs : List A) (first : ℕ) (ds : List Definition) (os : List Origin) (ls : List LocalRowTree) → Begins names mode number xs os ds
        → local_rows test first (own ds os) ≡ Some ls → BeginWith ls (modes_of_params h names mode xs)
    begun names mode xs first ds os ls (rest, later, around, origins, definitions) made =
        let head = params_defined around (Body number) (map (λ x. clause kinds.Parameter (names x) (mentions_of_mode (mode x))) xs) in
        headed names mode around xs first later rest ls (subst (λ us. local_rows test first (own (head ++ later) us) ≡ Some ls) origins (subst (λ zs. local_rows test first (own zs os) ≡ Some ls) definitions made))

  -- ---- from the first row to those behind a routine

  record From (number : ℕ) (o : Origin) (ls : List LocalRowTree) : Type 0 where
    origins : List Origin
    definitions : List Definition
    head : HeadOk number o origins definitions
    made : local_rows test 0 (own definitions origins) ≡ Some ls

  from_row : (from k : ℕ) (o : Origin) (ds : List Definition) (os : List Origin) (ls : List LocalRowTree) → HeadsOk from os ds → slice_get os k ≡ Some o → k + 1 ≤ length ds
      → ((j : ℕ) (r : Row) → slice_get (own ds os) j ≡ Some r → j ≤ k → test r ≡ false) → local_rows test 0 (own ds os) ≡ Some ls → From (from + k) o ls
  from_row from k o ds [] ls heads at long none made = no_some o at
  from_row from k o [] (x ∷ os) ls heads at long none made = absurd (omega (arith, long))
  from_row from zero o (d ∷ ds) (x ∷ os) ls heads at long none made = record {
    origins = os;
    definitions = ds;
    head = subst (λ n. HeadOk n o os ds) (let same : from ≡ from + 0 = omega arith in same) (subst (λ y. HeadOk from y os ds) (same_some x o at) heads.0);
    made = left_out 0 (row_is d x) (own ds os) ls (none zero (row_is d x) refl (omega arith)) made;
  }
  from_row from (suc k) o (d ∷ ds) (x ∷ os) ls heads at long none made =
      let inner = from_row (suc from) k o ds os ls heads.1 at (omega (arith, long)) (λ j r is less. none (suc j) r is (omega (arith, less))) (left_out 0 (row_is d x) (own ds os) ls (none zero (row_is d x) refl (omega arith)) made) in
      record {
        origins = inner.origins;
        definitions = inner.definitions;
        head = subst (λ n. HeadOk n o inner.origins inner.definitions) (let same : suc from + k ≡ from + suc k = omega arith in same) inner.head;
        made = inner.made;
      }

-- ---- numbers of bodies

passed : (test : Row → Bool) (k : ℕ) (q : Row) (rs : List Row) (b : Bool) → test q ≡ b → count_before test (suc k) (q ∷ rs) ≡ (if b then suc (count_before test k rs) else count_before test k rs)
passed test k q rs true is = ap (λ b. length (cond b (q ∷ filter test (take k rs)) (filter test (take k rs)))) is
passed test k q rs false is = ap (λ b. length (cond b (q ∷ filter test (take k rs)) (filter test (take k rs)))) is

one_more : (test : Row → Bool) (x d : ℕ) (q : Row) (rs : List Row) (b : Bool) → test q ≡ b → count_before test x rs < count_before test d rs → count_before test (suc x) (q ∷ rs) < count_before test (suc d) (q ∷ rs)
one_more test x d q rs true is few = let one = passed test x q rs true is in let other = passed test d q rs true is in omega (arith, one, other, few)
one_more test x d q rs false is few = let one = passed test x q rs false is in let other = passed test d q rs false is in omega (arith, one, other, few)

-- more rows pass before a later row, where an earlier one does
fewer_before : (test : Row → Bool) (x d : ℕ) (rs : List Row) (r : Row) → slice_get rs x ≡ Some r → test r ≡ true → x < d → count_before test x rs < count_before test d rs
fewer_before test x zero rs r at passes less = absurd (omega (arith, less))
fewer_before test x (suc d) [] r at passes less = no_some r at
fewer_before test zero (suc d) (q ∷ rs) r at passes less = let more = passed test d q rs true (ap test (same_some q r at) ∙ passes) in omega (arith, more)
fewer_before test (suc x) (suc d) (q ∷ rs) r at passes less = one_more test x d q rs (test q) refl (fewer_before test x d rs r at passes (omega (arith, less)))

-- what stands before a routine isn't in its body
earlier_body : (rs : List Row) (x d : ℕ) → x < d → (body_of rs x == suc (count_before (λ r. has_body r.origin) d rs)) ≡ false
earlier_body rs x d less = by (slice_get rs x) refl
  where
    differs : (m n : ℕ) → m < n → (m == n) ≡ false
    differs m n less = by_test (m == n) refl
      where
        by_test : (b : Bool) → (m == n) ≡ b → b ≡ false
        by_test true is = let same = eqb-true m n is in absurd (omega (arith, same, less))
        by_test false is = refl

    number : ℕ
    number = suc (count_before (λ r. has_body r.origin) d rs)

    by_holds : (r : Row) (b : Bool) → slice_get rs x ≡ Some r → has_body r.origin ≡ b → ((if b then body_number rs x else 0) == suc (count_before (λ r. has_body r.origin) d rs)) ≡ false
    by_holds r true at is = let few = fewer_before (λ r. has_body r.origin) x d rs r at is less in differs (body_number rs x) (suc (count_before (λ r. has_body r.origin) d rs)) (omega (arith, few))
    by_holds r false at is = differs 0 (suc (count_before (λ r. has_body r.origin) d rs)) (omega arith)

    by : (o : Option Row) → slice_get rs x ≡ o → (body_of rs x == suc (count_before (λ r. has_body r.origin) d rs)) ≡ false
    by None at = ap (λ y. (if holds_of (λ r. has_body r.origin) y then body_number rs x else 0) == suc (count_before (λ r. has_body r.origin) d rs)) at ∙ differs 0 (suc (count_before (λ r. has_body r.origin) d rs)) (omega arith)
    by (Some r) at = ap (λ y. (if holds_of (λ r. has_body r.origin) y then body_number rs x else 0) == suc (count_before (λ r. has_body r.origin) d rs)) at ∙ by_holds r (has_body r.origin) at refl

-- ---- the laws

never : (a : Bool) → (a && false) ≡ false
never true = refl
never false = refl

not_both : (a b : Bool) → b ≡ false → (a && b) ≡ false
not_both a b is = ap (λ x. a && x) is ∙ never a

-- a row that stands before a routine, or is its own, is no local of it
not_inside : (rs : List Row) (d j : ℕ) (i : Inside) → Under j i → j ≤ d → holds_of (λ c. c == suc (count_before (λ r. has_body r.origin) d rs)) (body_around rs i) ≡ false
not_inside rs d j Outermost under less = refl
not_inside rs d j (Modulion x) under less = refl
not_inside rs d j (Body x) under less = earlier_body rs x d (omega (arith, under, less))
not_inside rs d j (Block x) under less = earlier_body rs x d (omega (arith, under, less))

body_thing : (rs : List Row) (d : ℕ) (r : Row) → has_body r.origin ≡ true → is_location r.origin ≡ false → is_signal r.origin ≡ false → is_region_origin r.origin ≡ false → is_direct r.inside ≡ true → local_in rs d r (body_around rs r.inside) ≡ a_body (body_number rs d)
body_thing rs d r body location signal region direct =
    apart_thing rs d r location direct
    ∙ (ap (λ b. if b then a_message (count_before (λ r. is_signal r.origin) d rs) else (if is_region_origin r.origin then a_region (count_before (λ r. is_region_origin r.origin) d rs) else (if has_body r.origin then a_body (body_number rs d) else no_thing))) signal
    ∙ (ap (λ b. if b then a_region (count_before (λ r. is_region_origin r.origin) d rs) else (if has_body r.origin then a_body (body_number rs d) else no_thing)) region ∙ ap (λ b. if b then a_body (body_number rs d) else no_thing) body))

-- what a routine is
abbrev is_routine : Origin → Type 0
is_routine o = (has_body o ≡ true) × ((is_location o ≡ false) × ((is_signal o ≡ false) × ((is_region_origin o ≡ false) × (is_of_text o ≡ true))))

module _ (text : List ℕ) (t : ProgramTree) (h : Ground) (has : BreaksNoRule text t h) (p : CheckedTree) (made : elaborated h t ≡ Some p) where
  abbrev all_rows : List Row
  all_rows = (source_of h t).rows

  abbrev number_of : ℕ → ℕ
  number_of d = suc (count_before (λ r. has_body r.origin) d all_rows)

  rows_are : all_rows ≡ own h (λ r. true) (text_definitions (level_of t)) h.origins
  rows_are = ap (rows (text_definitions (level_of t)) h.origins) has.is_ground.entries

  none_before : (d j : ℕ) (r : Row) → slice_get (own h (λ r. true) (text_definitions (level_of t)) h.origins) j ≡ Some r → j ≤ d → is_local_of all_rows (number_of d) r ≡ false
  none_before d j r at less =
      let parts = row_parts (text_definitions (level_of t)) h.origins h.entries j r (ap (λ rs. slice_get rs j) rows_are ∙ at) in
      let under = subst (λ i. Under j i) (sym parts.inside) (text_under t j parts.definition parts.is) in
      not_both (may_be_local r.origin) (holds_of (λ c. c == number_of d) (body_around all_rows r.inside)) (not_inside all_rows d j r.inside under less)

  -- the locals of a routine begin with its parameters
  record RoutineAt (d : ℕ) (o : Origin) (b : BodyRowTree) : Type 0 where
    row : Row
    at : slice_get all_rows d ≡ Some row
    origin : row.origin ≡ o
    is : body_as (source_of h t) d row o ≡ Some b

  routine_at : (d : ℕ) (o : Origin) (b : BodyRowTree) → is_routine o → slice_get h.origins d ≡ Some o → slice_get p.bodies (body_number all_rows d) ≡ Some b → RoutineAt d o b
  routine_at d o b of at body_at =
      let r = all_placed text t h has d o at of.1.1.1.1 in
      let direct = r.placed.direct (ap (λ x. has_body x || is_signal x) r.origin ∙ ap (λ x. x || is_signal o) of.0) in
      let thing : thing_of all_rows d ≡ a_body (body_number all_rows d) =
      ap (thing_by all_rows d) r.is ∙ body_thing all_rows d r.row (ap has_body r.origin ∙ of.0) (ap is_location r.origin ∙ of.1.0) (ap is_signal r.origin ∙ of.1.1.0) (ap is_region_origin r.origin ∙ of.1.1.1.0) direct in
      let there : IsMadeOf (λ d r. body_as (source_of h t) d r r.origin) all_rows d p.bodies (body_number all_rows d) = subst (λ th. LeadsTo (source_of h t) p d th) thing (leads (source_of h t) t p d made) in
      let same = same_some there.0 r.row (sym there.2 ∙ r.is) in
      let whole = same_some there.1 b (sym there.3 ∙ body_at) in
      record {
        row = r.row;
        at = r.is;
        origin = r.origin;
        is = sym (ap (λ (x : Row). body_as (source_of h t) d x x.origin) same ∙ ap (body_as (source_of h t) d r.row) r.origin) ∙ (there.4 ∙ ap Some whole);
      }

  begins_with : {A : Type 0} (names : A → List Name) (mode : A → written.ModeTree) (xs : List A) (d : ℕ) (o : Origin) (r : Row) (ls : List LocalRowTree) → slice_get all_rows d ≡ Some r → has_body r.origin ≡ true → slice_get h.origins d ≡ Some o
      → ((os : List Origin) (ds : List Definition) → HeadOk d o os ds → Begins names mode d xs os ds) → locals_of (source_of h t) (number_of d) ≡ Some ls → BeginWith ls (modes_of_params h names mode xs)
  begins_with names mode xs d o r ls at holds own_at head_is is =
      let test = is_local_of all_rows (number_of d) in
      let ds = text_definitions (level_of t) in
      let parts = row_parts ds h.origins h.entries d r at in
      let f = from_row h test 0 d o ds h.origins ls (heads_past text t h has) own_at (below ds d parts.definition parts.is) (none_before d) (sym (ap (local_rows test 0) rows_are) ∙ is) in
      begun h test d (passes text t h has d r at holds) (λ ns part owner x. refl) names mode xs 0 f.definitions f.origins ls
      (head_is f.origins f.definitions (subst (λ n. HeadOk n o f.origins f.definitions) (let same : 0 + d ≡ d = omega arith in same) f.head)) f.made

  -- ---- the modes of parameters, by names

  mode_by : (n : Name) (w : written.ModeTree) → IsDefinedAs (text_origins t) (names_list text t h has) n (a_parameter w) → mode_defined (source_of h t) n ≡ mode_of h false w
  mode_by n w at =
      let k = defined_in text t h has n (a_parameter w) at in
      ap (λ x. mode_of_entry (option_and_then (slice_get h.entries) x)) k.at ∙ ap mode_of_entry (entry_at text t h has k.number (a_parameter w) k.origin)

  names_modes : (w : written.ModeTree) (ns : List Name) → AreDefinedAs (text_origins t) (names_list text t h has) (a_parameter w) ns → map (mode_defined (source_of h t)) ns ≡ map (λ n. mode_of h false w) ns
  names_modes w [] all = refl
  names_modes w (n ∷ ns) all = ap (λ m. m ∷ map (mode_defined (source_of h t)) ns) (mode_by n w all.0) ∙ ap (λ ms. mode_of h false w ∷ ms) (names_modes w ns all.1)

  later_modes : (q : ParamTree) (ns : List Name) → map (λ (f : Formal). f.1) (map (λ n. (passing_of q.passing, mode_defined (source_of h t) n)) ns) ≡ map (mode_defined (source_of h t)) ns
  later_modes q [] = refl
  later_modes q (n ∷ ns) = ap (λ ms. mode_defined (source_of h t) n ∷ ms) (later_modes q ns)

  formals_same : (qs : List ParamTree) → Each (ParamSo (text_origins t) (names_list text t h has)) qs → map (λ (f : Formal). f.1) (flat_map (formals_of_param (source_of h t)) qs) ≡ modes_of_params h (λ (q : ParamTree). q.names) (λ q. q.mode) qs
  formals_same [] all = refl
  formals_same (q ∷ qs) all =
      map-append (λ (f : Formal). f.1) (formals_of_param (source_of h t) q) (flat_map (formals_of_param (source_of h t)) qs) ∙ two_lists (later_modes q q.names ∙ names_modes q.mode q.names all.0) (formals_same qs all.1)

  started_same : (qs : List FormalTree) → Each (FormalSo (text_origins t) (names_list text t h has)) qs → flat_map (modes_of_formal (source_of h t)) qs ≡ modes_of_params h (λ (q : FormalTree). q.names) (λ q. q.mode) qs
  started_same [] all = refl
  started_same (q ∷ qs) all = two_lists (names_modes q.mode q.names all.0) (started_same qs all.1)

  procedure_begins : (d : ℕ) (q : ProcedureTree) (b : BodyRowTree) → slice_get h.origins d ≡ Some (a_procedure q) → slice_get p.bodies (body_number all_rows d) ≡ Some b → BeginWith b.locals (map (λ (f : Formal). f.1) (formals_by (source_of h t) (Some (a_procedure q))))
  procedure_begins d q b at body_at =
      let r = routine_at d (a_procedure q) b (refl, (refl, (refl, (refl, refl)))) at body_at in
      let result = there_chained (procedure_made (source_of h t) d r.row q) (result_of (source_of h t) q) b r.is in
      let m = three_parts (procedure_body (source_of h t) d r.row q result.0) (listed_by (source_of h t) q.exceptions) (locals_of (source_of h t) (number_of d)) (inside_of (source_of h t) result.0 q.body q.handler) b result.2 in
      subst (λ (x : BodyRowTree). BeginWith x.locals (map (λ (f : Formal). f.1) (formals_by (source_of h t) (Some (a_procedure q))))) m.whole
      (subst (λ ms. BeginWith m.middle ms) (sym (formals_same q.params (origin_so text t h has d (a_procedure q) at).1))
      (begins_with (λ (x : ParamTree). x.names) (λ x. x.mode) q.params d (a_procedure q) r.row m.middle r.at (ap has_body r.origin) at (λ os ds is. is) m.of_middle))

  process_begins : (d : ℕ) (q : ProcessTree) (b : BodyRowTree) → slice_get h.origins d ≡ Some (a_process q) → slice_get p.bodies (body_number all_rows d) ≡ Some b → BeginWith b.locals (modes_by (source_of h t) (Some (a_process q)))
  process_begins d q b at body_at =
      let r = routine_at d (a_process q) b (refl, (refl, (refl, (refl, refl)))) at body_at in
      let m = made_parts (process_body d r.row q) (locals_of (source_of h t) (number_of d)) (inside_of (source_of h t) None q.body q.handler) b r.is in
      subst (λ (x : BodyRowTree). BeginWith x.locals (modes_by (source_of h t) (Some (a_process q)))) m.whole
      (subst (λ ms. BeginWith m.first ms) (sym (started_same q.formals (origin_so text t h has d (a_process q) at)))
      (begins_with (λ (x : FormalTree). x.names) (λ x. x.mode) q.formals d (a_process q) r.row m.first r.at (ap has_body r.origin) at (λ os ds is. is) m.of_first))

pub formals_are : FormalsLaw
formals_are text t g p d q b has made at body_at = procedure_begins text t g has p made d q b at body_at

pub started_are : StartedLaw
started_are text t g p d q b has made at body_at = process_begins text t g has p made d q b at body_at
