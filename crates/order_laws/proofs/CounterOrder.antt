-- A counter that is named in the values around another counter's loop stands before that counter.
use Rattle.std.proofs.Common.{◌≡◌, ◌<◌, ◌≤◌, ℕ, zero, suc, ◌+◌, List, [], ◌∷◌, ◌++◌, Option, Some, None, length, refl, sym, ap, ◌∙◌, subst, arith, Contains, append_assoc}
use Rattle.std.specs.Prelude.{map, replicate, slice_get, slice_index_or, option_map}
use Rattle.std.proofs.lemmas.List.{length-map, map-append}
use Rattle.chill_tree.specs.declared.tree.name.Name.{Name}
use Rattle.chill_tree.specs.SimpleTree.{ControlTree}
use Rattle.chill_tree.specs.ItemTree.{ProgramTree}
use Rattle.names_model.specs.declared.identifier.Identifier.{Identifier}
use Rattle.names_model.specs.declared.definition.Definition.{Definition}
use Rattle.names_model.specs.declared.definition.Inside.{Inside}
use Rattle.names_model.specs.declared.definition.Inside.TheVariants.{Outermost, Modulion, Body}
use Rattle.names_model.specs.declared.kind.Kind.TheVariants as kinds
use Rattle.names_model.specs.declared.part.Clause.{Clause}
use Rattle.names_model.specs.Identifiers.{identifier}
use Rattle.names_model.specs.Parts.{PartTree, PartNodes, define, mention, seize, seize_all, grant, grant_all, stray, modulion, routine, block, no_parts, more_parts}
use Rattle.names_model.specs.Sizes.{elements_in, head_size, size_of}
use Rattle.names_model.specs.Definitions.{with_predefined, predefined, within, defined, elements_defined, names_defined, params_defined, definitions_of, definitions_in}
use Rattle.names_model.specs.Seeing.{Reach, outermost, sees}
use Rattle.names_model.specs.Resolving.{level_of}
use Rattle.names_laws.specs.Visible.{Sees}
use Rattle.names_laws.proofs.Members.{here_in}
use Rattle.names_laws.proofs.Seen.{seeing}
use Rattle.ground_laws.specs.Rows.{used_in}
use Rattle.ground_laws.proofs.Rows.{each_use}
use Rattle.ground_laws.proofs.Defining.{origins_define}
use Rattle.checks_model.specs.Ground.{Ground, Entry, Origin, a_counter, number_at}
use Rattle.checks_model.specs.Origins.{text_origins, origins_of}
use Rattle.checks_model.specs.Table.{ground_with}
use Rattle.checks_model.specs.Diagnoses.{HasNames}
use Rattle.table_laws.specs.Names.{names_bounding}
use Rattle.elaborated_laws.proofs.Told.{same_some}
use Rattle.written_laws.proofs.Defining.{program_sized}
use Rattle.written_laws.proofs.Rows.{row_of, rows_in, AreSized}
use Rattle.written_laws.proofs.Defining.{program_rows}
use Rattle.written_laws.proofs.Mentioned.{is_resolved, definitions_of as text_definitions_of}
use Rattle.order_laws.specs.Texts.{CountersRiseLaw}
use Rattle.order_laws.proofs.Depths.{depths_of_params, depths_in, Stand, LanguageOutside}
use Rattle.order_laws.proofs.Depths as depths
use Rattle.order_laws.proofs.Nodes as rows
use Rattle.order_laws.proofs.Before.{mark_of, marks_of, marks_in, AreParams, AreOpen, IsTidy, AreTidy, SeesBefore, EachBefore, outermost_before, parts_before}
use Rattle.order_laws.proofs.Before as marks
use Rattle.order_laws.proofs.Tidy.{program_neat}
use Rattle.order_laws.proofs.CounterDepths.{UsedIn, bounding_used, loop_at}
use Rattle.order_laws.proofs.Selves.{text, every, level, in_text, default_past, stands_from, got_below, same_counts, definition_there}

-- ---- marks are those of the kinds of definitions

abbrev mark : Definition → ℕ
mark d = mark_of d.kind

map_const : {A B : Type 0} (g : A → B) (h : B → ℕ) (k : ℕ) (xs : List A) → ((x : A) → h (g x) ≡ k) → map h (map g xs) ≡ replicate (length xs) k
map_const g h k [] each = refl
map_const g h k (x ∷ xs) each = ap (λ y. y ∷ map h (map g xs)) (each x) ∙ ap (λ ys. k ∷ ys) (map_const g h k xs each)

two_lists : (xs ys us vs : List ℕ) → xs ≡ us → ys ≡ vs → xs ++ ys ≡ us ++ vs
two_lists xs ys us vs one other = ap (λ zs. zs ++ ys) one ∙ ap (λ zs. us ++ zs) other

elements_marks : (inside : Inside) (ns : List Identifier) → map mark (elements_defined inside ns) ≡ replicate (length ns) 0
elements_marks inside ns = map_const (defined inside kinds.Element) mark 0 ns (λ n. refl)

clause_marks : (inside around : Inside) (c : Clause) → map mark (names_defined inside c ++ elements_defined around (elements_in c.text)) ≡ replicate (length c.names) (mark_of c.kind) ++ replicate (length (elements_in c.text)) 0
clause_marks inside around c =
    map-append mark (names_defined inside c) (elements_defined around (elements_in c.text))
    ∙ two_lists _ _ _ _ (map_const _ mark (mark_of c.kind) c.names (λ n. refl)) (elements_marks around (elements_in c.text))

params_marks : (around body : Inside) (cs : List Clause) → AreParams cs → map mark (params_defined around body cs) ≡ depths_of_params 0 cs
params_marks around body [] are = refl
params_marks around body (c ∷ cs) are =
    map-append mark (names_defined body c ++ elements_defined around (elements_in c.text)) (params_defined around body cs)
    ∙ two_lists _ _ _ _ (clause_marks body around c ∙ ap (λ k. replicate (length c.names) (mark_of k) ++ replicate (length (elements_in c.text)) 0) are.0) (params_marks around body cs are.1)

mutual
  part_marks : (inside : Inside) (from : ℕ) (p : PartTree) → IsTidy p → map mark (definitions_of inside from p) ≡ marks_of p
  part_marks inside from (define c) tidy = clause_marks inside inside c
  part_marks inside from (modulion n region size ps) tidy = ap (λ xs. 0 ∷ xs) (parts_marks (Modulion from) (suc from) ps tidy.1)
  part_marks inside from (routine n kind params result size ps) tidy =
      let in_params = params_defined inside (Body from) params in
      let in_result = elements_defined inside (elements_in result) in
      let in_body = definitions_in (Body from) (from + head_size params result) ps in
      map-append mark (defined inside kind n ∷ in_params ++ in_result) in_body
      ∙ two_lists _ _ _ _ (two_lists (mark_of kind ∷ []) (map mark (in_params ++ in_result)) (0 ∷ []) (depths_of_params 0 params ++ replicate (length (elements_in result)) 0) (ap (λ k. k ∷ []) tidy.0.0)
      (map-append mark in_params in_result ∙ two_lists _ _ _ _ (params_marks inside (Body from) params tidy.0.1) (elements_marks inside (elements_in result))))
      (parts_marks (Body from) (from + head_size params result) ps tidy.1.1)
  part_marks inside from (block size ps) tidy = parts_marks (within inside) from ps tidy.1
  part_marks inside from (mention m) tidy = refl
  part_marks inside from (seize n) tidy = refl
  part_marks inside from (seize_all at) tidy = refl
  part_marks inside from (grant n) tidy = refl
  part_marks inside from (grant_all at) tidy = refl
  part_marks inside from (stray n) tidy = refl

  parts_marks : (inside : Inside) (from : ℕ) (ps : PartNodes) → AreTidy ps → map mark (definitions_in inside from ps) ≡ marks_in ps
  parts_marks inside from no_parts tidy = refl
  parts_marks inside from (more_parts p ps) tidy =
      map-append mark (definitions_of inside from p) (definitions_in inside (from + size_of p) ps) ∙ two_lists _ _ _ _ (part_marks inside from p tidy.0) (parts_marks inside (from + size_of p) ps tidy.1)

-- ---- lists by their elements

got_low : {A : Type 0} (xs ys : List A) (k : ℕ) → k < length xs → slice_get (xs ++ ys) k ≡ slice_get xs k
got_low [] ys k less = absurd (omega arith)
got_low (x ∷ xs) ys zero less = refl
got_low (x ∷ xs) ys (suc k) less = got_low xs ys k (omega arith)

no_element : {A B : Type 0} (x : A) → None ≡ Some x → B
no_element x is = cc

marked_at : (xs : List Definition) (k : ℕ) (x : Definition) → slice_get xs k ≡ Some x → slice_index_or (map mark xs) k 0 ≡ mark x
marked_at [] k x is = no_element x is
marked_at (y ∷ xs) zero x is = ap mark (same_some y x is)
marked_at (y ∷ xs) (suc k) x is = marked_at xs k x is

-- ---- a text

module _ (txt : List ℕ) (t : ProgramTree) (es : List Entry) (has : HasNames txt t) where
  f : ℕ → ℕ
  f d = slice_index_or (marks_in (level_of t)) d 0

  neat : AreOpen (level_of t) × AreTidy (level_of t)
  neat = let own = program_neat t in (own.plain, own.tidy)

  marks_stand : Stand f 0 (marks_in (level_of t))
  unfolding f
  marks_stand = stands_from f 0 (marks_in (level_of t)) (λ k. let same : 0 + k ≡ k = omega arith in ap (λ d. slice_index_or (marks_in (level_of t)) d 0) same)

  as_many : length (text txt t es has) ≡ length (marks_in (level_of t))
  as_many =
      let same = same_counts txt t es has in
      let deep = depths.parts_length 0 (level_of t) (program_sized t) in
      let long = marks.parts_length (level_of t) (program_sized t) in
      omega (arith, same, deep, long)

  outside : LanguageOutside f (text txt t es has)
  unfolding f
  outside d is = let same = as_many in let behind = is.behind in let none = default_past (marks_in (level_of t)) d (omega (arith, same, behind)) in omega (arith, none)

  each_before : EachBefore f (text txt t es has) (every txt t es has)
  each_before = parts_before f (text txt t es has) outside (outermost (level_of t)) 0 (level_of t) (program_sized t) neat.1 marks_stand (outermost_before f (text txt t es has) (level_of t) (program_sized t) neat.0 neat.1 marks_stand outside)

  -- a counter is marked
  counter_marked : (d : ℕ) (c : ControlTree) → slice_get (origins_of t) d ≡ Some (a_counter c) → 1 ≤ f d
  unfolding f
  counter_marked d c at =
      let own = in_text txt t es has d (a_counter c) at (λ none. none) in
      let low = got_below (text_origins t) d (a_counter c) own in
      let listed : length (map row_of (text_origins t)) ≡ length (rows_in (level_of t)) = ap length (program_rows t) in
      let mapped : length (map row_of (text_origins t)) ≡ length (text_origins t) = length-map (text_origins t) row_of in
      let of_rows = rows.parts_length (level_of t) (program_sized t) in
      let of_marks = marks.parts_length (level_of t) (program_sized t) in
      let same = as_many in
      let here : d < length (text txt t es has) = omega (arith, low, listed, mapped, of_rows, of_marks, same) in
      let there = definition_there (origins_of t) (with_predefined (text txt t es has)) d (a_counter c) (origins_define t) at in
      let got : slice_get (text txt t es has) d ≡ Some there.0 = sym (got_low (text txt t es has) predefined d here) ∙ there.1.0 in
      let marked : slice_index_or (marks_in (level_of t)) d 0 ≡ 1 = ap (λ xs. slice_index_or xs d 0) (sym (parts_marks Outermost 0 (level_of t) neat.1)) ∙ marked_at (text txt t es has) d there.0 got ∙ ap mark_of there.1.1.0 in
      omega (arith, marked)

  named_before : (d e : ℕ) (c k : ControlTree) (n : Name) → slice_get (origins_of t) d ≡ Some (a_counter c) → Contains (names_bounding c) n → number_at (ground_with t es).uses n.at ≡ Some e → slice_get (origins_of t) e ≡ Some (a_counter k) → e < d
  named_before d e c k n at i number counter =
      let u = bounding_used c n i in
      let of = loop_at txt t es has d c at u.at u.among in
      let used : Contains (used_in of.at.part) (identifier n) = subst (λ p. Contains (used_in p) (identifier n)) (sym of.is_mention) u.used in
      let row = each_use has.has_tree.tokens t of.at (identifier n) (is_resolved txt t has) (record { is_node = of.is_node; is_used = used }) in
      let same : row.number ≡ e = same_some row.number e (sym row.has_row ∙ number) in
      let seen : Contains (sees (text txt t es has) of.at.reach n.text) e = subst (λ xs. Contains xs e) (sym row.is_seen) (here_in row.number [] e same) in
      let less = each_before of.at of.is_node u.at of.is_mention e ((seeing (text txt t es has) of.at.reach n.text e).0 seen).0 (counter_marked e k counter) in
      let is = of.number in
      omega (arith, less, is)

before_in : (txt : List ℕ) (t : ProgramTree) (es : List Entry) (has : HasNames txt t) (g : Ground) → ground_with t es ≡ g
    → (d e : ℕ) (c k : ControlTree) (n : Name) → slice_get g.origins d ≡ Some (a_counter c) → Contains (names_bounding c) n → number_at g.uses n.at ≡ Some e → slice_get g.origins e ≡ Some (a_counter k) → e < d
before_in txt t es has g is = subst (λ (h : Ground). (d e : ℕ) (c k : ControlTree) (n : Name) → slice_get h.origins d ≡ Some (a_counter c) → Contains (names_bounding c) n → number_at h.uses n.at ≡ Some e → slice_get h.origins e ≡ Some (a_counter k) → e < d) is (named_before txt t es has)

pub counters_rise : CountersRiseLaw
counters_rise txt t g has is = before_in txt t g.entries has g (sym is)
