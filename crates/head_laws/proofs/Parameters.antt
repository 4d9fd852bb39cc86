-- A body has no fewer locals than parameters.
use Rattle.std.proofs.Common.{◌≡◌, ◌≤◌, ℕ, zero, suc, ◌+◌, ◌==◌, Bool, true, false, ◌&&◌, List, [], ◌∷◌, ◌++◌, Some, None, length, length-append, arith, refl, sym, ap, ◌∙◌, subst, append_assoc, append-nil}
use Rattle.std.proofs.lemmas.Bool.{eq-eqb}
use Rattle.std.proofs.lemmas.List.{length-map}
use Rattle.std.specs.Prelude.{cond, map, flat_map, replicate, slice_get, if◌then◌else◌}
use Rattle.std.specs.List.{filter}
use Rattle.chill_tree.specs.declared.tree.name.Name.{Name}
use Rattle.chill_tree.specs.ModeTree as written
use Rattle.chill_tree.specs.ItemTree.{ParamTree, FormalTree, ProcedureTree, ProcessTree, ProgramTree}
use Rattle.names_model.specs.declared.kind.Kind.{Kind}
use Rattle.names_model.specs.declared.kind.Kind.TheVariants as kinds
use Rattle.names_model.specs.declared.definition.Inside.{Inside}
use Rattle.names_model.specs.declared.definition.Inside.TheVariants.{Body}
use Rattle.names_model.specs.declared.definition.Definition.{Definition}
use Rattle.names_model.specs.Identifiers.{identifiers}
use Rattle.names_model.specs.Sizes.{elements_in}
use Rattle.names_model.specs.Definitions.{elements_defined, elements_with, params_defined, text_definitions, predefined, with_predefined, defined}
use Rattle.names_model.specs.ModeMentions.{mentions_of_mode}
use Rattle.names_model.specs.StatementParts.{clause}
use Rattle.names_model.specs.Resolving.{level_of}
use Rattle.ground_laws.proofs.Defining.{origins_define}
use Rattle.checks_model.specs.Ground.{Ground, Origin, Entry, a_parameter, a_procedure, a_process}
use Rattle.checks_model.specs.Origins.{elements_of, text_origins, predefined_origins, origins_of}
use Rattle.checks_model.specs.Table.{entry_with_counters}
use Rattle.checks_model.specs.Told.{holds_of}
use Rattle.checks_model.specs.Limits.{scalars_in_mode}
use Rattle.checks_model.specs.Diagnoses.{BreaksNoRule}
use Rattle.written_laws.proofs.Rows.{same_length, mode_elements_count}
use Rattle.program_trees.specs.ProgramTree.{LocalRowTree}
use Rattle.elaborated_laws.proofs.Told.{no_some, same_some}
use Rattle.elaboration_model.specs.Parts.{made_of}
use Rattle.elaboration_model.specs.Numbering.{Row, rows, may_be_local, has_body, count_before, body_number, body_of, body_around, is_local_of}
use Rattle.elaboration_model.specs.Elaborated.{local_row, local_rows, locals_of, passed_in, parameters_of, source_of}
use Rattle.program_laws.proofs.Rows.{ParamOrigins, Begins, HeadOk, HeadsOk, heads_both}
use Rattle.program_laws.proofs.Defined.{heads_so}
use Rattle.head_laws.proofs.Rows.{made_parts}

-- ---- locals are as many as the rows that pass

counted_by : (test : Row → Bool) (first : ℕ) (q : Row) (rs : List Row) (ls : List LocalRowTree) (b : Bool) → test q ≡ b
    → (if b then made_of (λ l ls. l ∷ ls) (local_row q first q.mode) (local_rows test (first + scalars_in_mode q.mode) rs) else local_rows test first rs) ≡ Some ls
    → ((from : ℕ) (ys : List LocalRowTree) → local_rows test from rs ≡ Some ys → length ys ≡ length (filter test rs)) → length ls ≡ length (filter test (q ∷ rs))
counted_by test first q rs ls true is made rest =
    let m = made_parts (λ l ls. l ∷ ls) (local_row q first q.mode) (local_rows test (first + scalars_in_mode q.mode) rs) ls made in
    let inner = rest (first + scalars_in_mode q.mode) m.later m.of_later in
    sym (ap length m.whole) ∙ (ap suc inner ∙ sym (ap (λ b. length (cond b (q ∷ filter test rs) (filter test rs))) is))
counted_by test first q rs ls false is made rest = rest first ls made ∙ sym (ap (λ b. length (cond b (q ∷ filter test rs) (filter test rs))) is)

counted : (test : Row → Bool) (first : ℕ) (rs : List Row) (ls : List LocalRowTree) → local_rows test first rs ≡ Some ls → length ls ≡ length (filter test rs)
counted test first [] ls made = ap length (sym (same_some [] ls made))
counted test first (q ∷ rs) ls made = counted_by test first q rs ls (test q) refl made (λ from ys is. counted test from rs ys is)

more_pass : (test : Row → Bool) (q : Row) (rs : List Row) → length (filter test rs) ≤ length (filter test (q ∷ rs))
more_pass test q rs = by (test q) refl
  where
    by : (b : Bool) → test q ≡ b → length (filter test rs) ≤ length (filter test (q ∷ rs))
    by true is = let long : length (filter test (q ∷ rs)) ≡ suc (length (filter test rs)) = ap (λ b. length (cond b (q ∷ filter test rs) (filter test rs))) is in omega (arith, long)
    by false is = let long : length (filter test (q ∷ rs)) ≡ length (filter test rs) = ap (λ b. length (cond b (q ∷ filter test rs) (filter test rs))) is in omega (arith, long)

one_passes : (test : Row → Bool) (q : Row) (rs : List Row) → test q ≡ true → length (filter test (q ∷ rs)) ≡ suc (length (filter test rs))
one_passes test q rs is = ap (λ b. length (cond b (q ∷ filter test rs) (filter test rs))) is

-- ---- rows behind some definitions

-- some rows are left behind, and so many pass before them
record Left (test : Row → Bool) (ds later : List Definition) (os rest : List Origin) (es : List Entry) (many : ℕ) : Type 0 where
  entries : List Entry
  enough : length rest ≤ length entries
  fewer : many + length (filter test (rows later rest entries)) ≤ length (filter test (rows ds os es))

skipped : (test : Row → Bool) (ds later : List Definition) (os rest : List Origin) (es : List Entry) → length os ≡ length ds → length (os ++ rest) ≤ length es → Left test (ds ++ later) later (os ++ rest) rest es 0
skipped test [] later [] rest es same enough = record { entries = es; enough = enough; fewer = omega arith }
skipped test (d ∷ ds) later [] rest es same enough = absurd (omega (arith, same))
skipped test [] later (o ∷ os) rest es same enough = absurd (omega (arith, same))
skipped test (d ∷ ds) later (o ∷ os) rest [] same enough = absurd (omega (arith, enough))
skipped test (d ∷ ds) later (o ∷ os) rest (e ∷ es) same enough =
    let l = skipped test ds later os rest es (let less : length os ≡ length ds = omega (arith, same) in less) (let less : length (os ++ rest) ≤ length es = omega (arith, enough) in less) in
    let more = more_pass test (record { name = d.name.spelling; inside = d.inside; origin = o; mode = e.mode }) (rows (ds ++ later) (os ++ rest) es) in
    let inner = l.fewer in
    record { entries = l.entries; enough = l.enough; fewer = omega (arith, more, inner) }

module _ (test : Row → Bool) (number : ℕ) (passes : (r : Row) (w : written.ModeTree) → r.inside ≡ Body number → r.origin ≡ a_parameter w → test r ≡ true) where
  named : (kind : Kind) (count : ℕ) (w : written.ModeTree) (ns : List Name) (later : List Definition) (rest : List Origin) (es : List Entry) → length (replicate (length ns) (a_parameter w) ++ rest) ≤ length es
      → Left test (map (λ n. record { name = n; kind = kind; inside = Body number; elements = count }) (identifiers ns) ++ later) later (replicate (length ns) (a_parameter w) ++ rest) rest es (length ns)
  named kind count w [] later rest es enough = record { entries = es; enough = enough; fewer = omega arith }
  named kind count w (n ∷ ns) later rest [] enough = absurd (omega (arith, enough))
  named kind count w (n ∷ ns) later rest (e ∷ es) enough =
      let l = named kind count w ns later rest es (let less : length (replicate (length ns) (a_parameter w) ++ rest) ≤ length es = omega (arith, enough) in less) in
      let r : Row = record { name = n.text; inside = Body number; origin = a_parameter w; mode = e.mode } in
      let one = one_passes test r (rows (map (λ n. record { name = n; kind = kind; inside = Body number; elements = count }) (identifiers ns) ++ later) (replicate (length ns) (a_parameter w) ++ rest) es) (passes r w refl refl) in
      let inner = l.fewer in
      record { entries = l.entries; enough = l.enough; fewer = omega (arith, one, inner) }

  heads : {A : Type 0} (names : A → List Name) (mode : A → written.ModeTree) (around : Inside) (xs : List A) (later : List Definition) (rest : List Origin) (es : List Entry) → length (ParamOrigins names mode xs ++ rest) ≤ length es
      → length (flat_map names xs) ≤ length (filter test (rows (params_defined around (Body number) (map (λ x. clause kinds.Parameter (names x) (mentions_of_mode (mode x))) xs) ++ later) (ParamOrigins names mode xs ++ rest) es))
  heads names mode around [] later rest es enough = omega arith
  heads names mode around (x ∷ xs) later rest es enough =
      let w = mode x in
      let ns = names x in
      let own = replicate (length ns) (a_parameter w) in
      let inside = elements_of None w in
      let us = ParamOrigins names mode xs in
      let elements = elements_in (mentions_of_mode w) in
      let own_defined = map (λ n. record { name = n; kind = kinds.Parameter; inside = Body number; elements = elements_with kinds.Parameter elements }) (identifiers ns) in
      let in_defined = elements_defined around elements in
      let ds = params_defined around (Body number) (map (λ x. clause kinds.Parameter (names x) (mentions_of_mode (mode x))) xs) in
      let origins : ((own ++ inside) ++ us) ++ rest ≡ own ++ (inside ++ (us ++ rest)) = append_assoc (own ++ inside) us rest ∙ append_assoc own inside (us ++ rest) in
      let definitions : ((own_defined ++ in_defined) ++ ds) ++ later ≡ own_defined ++ (in_defined ++ (ds ++ later)) = append_assoc (own_defined ++ in_defined) ds later ∙ append_assoc own_defined in_defined (ds ++ later) in
      let long : length (own ++ (inside ++ (us ++ rest))) ≤ length es = subst (λ os. length os ≤ length es) origins enough in
      let first = named kinds.Parameter (elements_with kinds.Parameter elements) w ns (in_defined ++ (ds ++ later)) (inside ++ (us ++ rest)) es long in
      let same : length inside ≡ length in_defined = mode_elements_count None w ∙ sym (length-map elements (defined around kinds.Element)) in
      let second = skipped test in_defined (ds ++ later) inside (us ++ rest) first.entries same first.enough in
      let third = heads names mode around xs later rest second.entries second.enough in
      let one = first.fewer in
      let two = second.fewer in
      let both = length-append ns (flat_map names xs) in
      let whole : length (flat_map names (x ∷ xs)) ≤ length (filter test (rows (own_defined ++ (in_defined ++ (ds ++ later))) (own ++ (inside ++ (us ++ rest))) es)) = omega (arith, third, one, two, both) in
      subst (λ os. length (flat_map names (x ∷ xs)) ≤ length (filter test (rows (((own_defined ++ in_defined) ++ ds) ++ later) os es))) (sym origins)
      (subst (λ zs. length (flat_map names (x ∷ xs)) ≤ length (filter test (rows zs (own ++ (inside ++ (us ++ rest))) es))) (sym definitions) whole)

  begun : {A : Type 0} (names : A → List Name) (mode : A → written.ModeTree) (xs : List A) (os : List Origin) (ds : List Definition) (es : List Entry) → Begins names mode number xs os ds → length os ≤ length es
      → length (flat_map names xs) ≤ length (filter test (rows ds os es))
  begun names mode xs os ds es (rest, later, around, origins, definitions) enough =
      let head = params_defined around (Body number) (map (λ x. clause kinds.Parameter (names x) (mentions_of_mode (mode x))) xs) in
      subst (λ zs. length (flat_map names xs) ≤ length (filter test (rows zs os es))) (sym definitions)
      (subst (λ us. length (flat_map names xs) ≤ length (filter test (rows (head ++ later) us es))) (sym origins)
      (heads names mode around xs later rest es (subst (λ us. length us ≤ length es) origins enough)))

-- ---- behind a routine of a number

record Behind (test : Row → Bool) (number : ℕ) (o : Origin) (ds : List Definition) (os : List Origin) (es : List Entry) : Type 0 where
  origins : List Origin
  definitions : List Definition
  entries : List Entry
  head : HeadOk number o origins definitions
  enough : length origins ≤ length entries
  fewer : length (filter test (rows definitions origins entries)) ≤ length (filter test (rows ds os es))

behind : (test : Row → Bool) (from k : ℕ) (o : Origin) (ds : List Definition) (os : List Origin) (es : List Entry) → HeadsOk from os ds → slice_get os k ≡ Some o → k + 1 ≤ length ds → length os ≤ length es → Behind test (from + k) o ds os es
behind test from k o ds [] es heads_are at long enough = no_some o at
behind test from k o [] (x ∷ os) es heads_are at long enough = absurd (omega (arith, long))
behind test from k o (d ∷ ds) (x ∷ os) [] heads_are at long enough = absurd (omega (arith, enough))
behind test from zero o (d ∷ ds) (x ∷ os) (e ∷ es) heads_are at long enough =
    record {
      origins = os;
      definitions = ds;
      entries = es;
      head = subst (λ n. HeadOk n o os ds) (let same : from ≡ from + 0 = omega arith in same) (subst (λ y. HeadOk from y os ds) (same_some x o at) heads_are.0);
      enough = omega (arith, enough);
      fewer = more_pass test (record { name = d.name.spelling; inside = d.inside; origin = x; mode = e.mode }) (rows ds os es);
    }
behind test from (suc k) o (d ∷ ds) (x ∷ os) (e ∷ es) heads_are at long enough =
    let inner = behind test (suc from) k o ds os es heads_are.1 at (omega (arith, long)) (omega (arith, enough)) in
    let more = more_pass test (record { name = d.name.spelling; inside = d.inside; origin = x; mode = e.mode }) (rows ds os es) in
    let few = inner.fewer in
    record {
      origins = inner.origins;
      definitions = inner.definitions;
      entries = inner.entries;
      head = subst (λ n. HeadOk n o inner.origins inner.definitions) (let same : suc from + k ≡ from + suc k = omega arith in same) inner.head;
      enough = inner.enough;
      fewer = omega (arith, more, few);
    }

-- ---- parameters

params_many : (ps : List ParamTree) → length (flat_map parameters_of ps) ≡ length (flat_map (λ (q : ParamTree). q.names) ps)
params_many [] = refl
params_many (p ∷ ps) =
    let one = length-append (parameters_of p) (flat_map parameters_of ps) in
    let other = length-append p.names (flat_map (λ (q : ParamTree). q.names) ps) in
    let own : length (parameters_of p) ≡ length p.names = length-map p.names (λ n. _) in
    let rest = params_many ps in
    omega (arith, one, other, own, rest)

formals_many : (fs : List FormalTree) → length (flat_map (λ (f : FormalTree). passed_in f.names) fs) ≡ length (flat_map (λ (f : FormalTree). f.names) fs)
formals_many [] = refl
formals_many (f ∷ fs) =
    let one = length-append (passed_in f.names) (flat_map (λ (f : FormalTree). passed_in f.names) fs) in
    let other = length-append f.names (flat_map (λ (f : FormalTree). f.names) fs) in
    let own : length (passed_in f.names) ≡ length f.names = length-map f.names (λ n. _) in
    let rest = formals_many fs in
    omega (arith, one, other, own, rest)

module _ (text : List ℕ) (t : ProgramTree) (h : Ground) (has : BreaksNoRule text t h) where
  abbrev own_rows : List Row
  own_rows = (source_of h t).rows

  pub heads_past : HeadsOk 0 h.origins (text_definitions (level_of t))
  heads_past =
      let ds = text_definitions (level_of t) in
      let long : length (text_origins t) ≡ length ds = text_long in
      subst (λ os. HeadsOk 0 os ds) (sym (ap (λ (x : Ground). x.origins) has.is_ground.names))
      (subst (λ zs. HeadsOk 0 (origins_of t) zs) (append-nil ds) (heads_both 0 (text_origins t) predefined_origins ds [] long (heads_so text t h has) (nothing_behind (0 + length (text_origins t)) predefined_origins)))
    where
      nothing_behind : (from : ℕ) (os : List Origin) → HeadsOk from os []
      nothing_behind from [] = tt
      nothing_behind from (o ∷ os) = tt

      text_long : length (text_origins t) ≡ length (text_definitions (level_of t))
      text_long =
          let whole = same_length (origins_of t) (with_predefined (text_definitions (level_of t))) (origins_define t) in
          let first = length-append (text_origins t) predefined_origins in
          let later = length-append (text_definitions (level_of t)) predefined in
          let language : length predefined_origins ≡ length predefined = refl in
          omega (arith, whole, first, later, language)

  entries_long : length h.origins ≤ length h.entries
  entries_long = let same = ap length has.is_ground.entries ∙ length-map h.origins (entry_with_counters h) in omega (arith, same)

  -- how many rows are locals of the body of a routine
  module _ (d : ℕ) (r : Row) (at : slice_get own_rows d ≡ Some r) (holds : has_body r.origin ≡ true) where
    abbrev own_test : Row → Bool
    own_test = is_local_of own_rows (suc (count_before (λ r. has_body r.origin) d own_rows))

    body_is : body_of own_rows d ≡ suc (count_before (λ r. has_body r.origin) d own_rows)
    body_is = ap (λ x. if holds_of (λ r. has_body r.origin) x then body_number own_rows d else 0) at ∙ ap (λ b. if b then body_number own_rows d else 0) holds

    pub passes : (q : Row) (w : written.ModeTree) → q.inside ≡ Body d → q.origin ≡ a_parameter w → own_test q ≡ true
    passes q w inside origin =
        let number = suc (count_before (λ r. has_body r.origin) d own_rows) in
        ap (λ o. may_be_local o && holds_of (λ c. c == number) (body_around own_rows q.inside)) origin ∙ (ap (λ i. holds_of (λ c. c == number) (body_around own_rows i)) inside ∙ (ap (λ c. c == number) body_is ∙ eq-eqb number number refl))

    locals_many : (ls : List LocalRowTree) → locals_of (source_of h t) (suc (count_before (λ r. has_body r.origin) d own_rows)) ≡ Some ls → length ls ≡ length (filter own_test own_rows)
    locals_many ls is = counted own_test 0 own_rows ls is

    routine_behind : (o : Origin) → slice_get h.origins d ≡ Some o → d + 1 ≤ length (text_definitions (level_of t)) → Behind own_test (0 + d) o (text_definitions (level_of t)) h.origins h.entries
    routine_behind o own long = behind own_test 0 d o (text_definitions (level_of t)) h.origins h.entries heads_past own long entries_long

    pub procedure_parameters : (p : ProcedureTree) (ls : List LocalRowTree) → slice_get h.origins d ≡ Some (a_procedure p) → d + 1 ≤ length (text_definitions (level_of t))
        → locals_of (source_of h t) (suc (count_before (λ r. has_body r.origin) d own_rows)) ≡ Some ls → length (flat_map parameters_of p.params) ≤ length ls
    procedure_parameters p ls own long is =
        let b = routine_behind (a_procedure p) own long in
        let head = subst (λ n. HeadOk n (a_procedure p) b.origins b.definitions) (let same : 0 + d ≡ d = omega arith in same) b.head in
        let least = begun own_test d passes (λ (q : ParamTree). q.names) (λ q. q.mode) p.params b.origins b.definitions b.entries head b.enough in
        let few = b.fewer in
        let many = locals_many ls is in
        let params = params_many p.params in
        omega (arith, least, few, many, params)

    pub process_parameters : (p : ProcessTree) (ls : List LocalRowTree) → slice_get h.origins d ≡ Some (a_process p) → d + 1 ≤ length (text_definitions (level_of t))
        → locals_of (source_of h t) (suc (count_before (λ r. has_body r.origin) d own_rows)) ≡ Some ls → length (flat_map (λ (f : FormalTree). passed_in f.names) p.formals) ≤ length ls
    process_parameters p ls own long is =
        let b = routine_behind (a_process p) own long in
        let head = subst (λ n. HeadOk n (a_process p) b.origins b.definitions) (let same : 0 + d ≡ d = omega arith in same) b.head in
        let least = begun own_test d passes (λ (q : FormalTree). q.names) (λ q. q.mode) p.formals b.origins b.definitions b.entries head b.enough in
        let few = b.fewer in
        let many = locals_many ls is in
        let params = formals_many p.formals in
        omega (arith, least, few, many, params)
