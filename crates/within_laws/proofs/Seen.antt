-- In a text that breaks no rule on names each name in its parts stands for no local of another body than its part stands in.
use Rattle.std.proofs.Common.{◌≡◌, ℕ, zero, suc, ◌+◌, Bool, true, false, List, [], ◌∷◌, ◌++◌, Option, Some, None, inl, inr, refl, sym, ap, ◌∙◌, subst, arith, true≢false, Contains}
use Rattle.std.specs.Prelude.{◌&&◌, if◌then◌else◌, map, slice_get}
use Rattle.std.proofs.lemmas.List.Elements.{Contains-append_left, Contains-append_right}
use Rattle.chill_tree.specs.ItemTree.{ProgramTree}
use Rattle.names_model.specs.declared.identifier.Identifier.{Identifier}
use Rattle.names_model.specs.declared.definition.Definition.{Definition}
use Rattle.names_model.specs.declared.definition.Inside.{Inside}
use Rattle.names_model.specs.declared.definition.Inside.TheVariants.{Outermost, Modulion, Body, Block}
use Rattle.names_model.specs.declared.kind.Kind.{Kind}
use Rattle.names_model.specs.declared.kind.Kind.TheVariants as kinds
use Rattle.names_model.specs.declared.names.Resolved.{Resolved}
use Rattle.names_model.specs.declared.part.Clause.{Clause}
use Rattle.names_model.specs.Parts.{PartTree, PartNodes, define, mention, seize, seize_all, grant, grant_all, stray, modulion, routine, block, no_parts, more_parts}
use Rattle.names_model.specs.Sizes.{clause_size, elements_in, head_size, size_of}
use Rattle.names_model.specs.Definitions.{within, defined, elements_with, definitions_of, definitions_in, text_definitions, predefined, with_predefined, params_defined}
use Rattle.names_model.specs.Seeing.{Reach, outermost, in_modulion, in_block, sees}
use Rattle.names_model.specs.NameRules.{Node, node, nodes, nodes_inside, body_reach}
use Rattle.names_model.specs.Resolving.{level_of}
use Rattle.names_laws.specs.Rising.{Rise, use_places, definition_places}
use Rattle.names_laws.proofs.Members.{none_in, here_in, later_in, in_cases}
use Rattle.names_laws.proofs.RisingTokens.{rising_tokens}
use Rattle.names_laws.proofs.RisingDefinitions.{rising_definitions}
use Rattle.names_laws.proofs.Seen.{seeing}
use Rattle.ground_laws.specs.Defining.{Defines}
use Rattle.ground_laws.specs.Rows.{used_in, uses_of}
use Rattle.ground_laws.proofs.Rows.{each_use, row_found}
use Rattle.checks_model.specs.Ground.{Ground, Origin, Entry, a_procedure, a_process, number_at}
use Rattle.checks_model.specs.Origins.{origins_of}
use Rattle.checks_model.specs.Table.{numbered, ground_with}
use Rattle.checks_model.specs.Diagnoses.{HasNames}
use Rattle.elaborated_laws.proofs.Told.{no_some, same_some, both_left, both_right}
use Rattle.written_laws.specs.Written.{Each}
use Rattle.written_laws.proofs.Rows.{IsSized, AreSized}
use Rattle.written_laws.proofs.Defining.{program_sized}
use Rattle.written_laws.proofs.Mentioned.{is_resolved}
use Rattle.ground_laws.proofs.Defining.{origins_define}
use Rattle.order_laws.proofs.Numbered.{EachAt}
use Rattle.order_laws.proofs.Selves.{definition_there, got_append, got_below}
use Rattle.elaboration_model.specs.Numbering.{Source, Row, rows, a_shared, a_local, an_event, a_buffer, a_message, a_region, a_body, no_thing, has_body, is_shared, is_signal, is_region_origin, is_local_of, count_before, body_number, body_by, body_of, body_around, thing_directly, local_in, thing_by, thing_of}
use Rattle.checks_model.specs.ProcessRules.{meets_event, meets_buffer, meets_nothing}
use Rattle.elaboration_model.specs.Elaborated.{source_of}
use Rattle.within_laws.specs.Within.{IsOfBody}
use Rattle.within_laws.proofs.Parts.{IsFlat, AreFlat, Used, Defined, ParamsSo, PartSo, PartsSo}
use Rattle.within_laws.proofs.Owners.{owner, IsOwn, own_self, IsThere, Lie, lie_first, lie_rest, lie_body, clause_lie, params_lie, head_lie, SeesOwn, LanguageOutside, outermost_own, modulion_own, routine_own, inner_own}

-- ---- lists

each_member : {A : Type 0} (P : A → Type 0) (xs : List A) → ((x : A) → Contains xs x → P x) → Each P xs
each_member P [] so = tt
each_member P (x ∷ xs) so = (so x (here_in x xs x refl), each_member P xs (λ y c. so y (later_in x xs y c)))

member_each : {A : Type 0} (P : A → Type 0) (xs : List A) (x : A) → Each P xs → Contains xs x → P x
member_each P [] x each c = absurd (none_in x c)
member_each P (y ∷ xs) x each c = elim (in_cases y xs x c) [
  | inl same ↦ subst P same each.0
  | inr there ↦ member_each P xs x each.1 there
]

at_each : {A : Type 0} (P : ℕ → A → Type 0) (from : ℕ) (xs : List A) → ((k : ℕ) (x : A) → slice_get xs k ≡ Some x → P (from + k) x) → EachAt P from xs
at_each P from [] so = tt
at_each P from (x ∷ xs) so = (
  subst (λ n. P n x) (let same : from + 0 ≡ from = omega arith in same) (so 0 x refl),
  at_each P (suc from) xs (λ k y at. subst (λ n. P n y) (let same : from + suc k ≡ suc from + k = omega arith in same) (so (suc k) y at)),
)

at_wider : {A : Type 0} (P Q : ℕ → A → Type 0) → ((d : ℕ) (x : A) → P d x → Q d x) → (from : ℕ) (xs : List A) → EachAt P from xs → EachAt Q from xs
at_wider P Q step from [] each = tt
at_wider P Q step from (x ∷ xs) each = (step from x each.0, at_wider P Q step (suc from) xs each.1)

among_both : {A : Type 0} (xs ys : List A) (k : ℕ) (x : A) → slice_get xs k ≡ Some x → slice_get (xs ++ ys) k ≡ Some x
among_both [] ys k x at = no_some x at
among_both (z ∷ xs) ys zero x at = at
among_both (z ∷ xs) ys (suc k) x at = among_both xs ys k x at

-- ---- definitions by their places

numbered_places : (k : ℕ) (ds : List Definition) → use_places (numbered k ds) ≡ definition_places ds
numbered_places k [] = refl
numbered_places k (d ∷ ds) = ap (λ ps. d.name.at ∷ ps) (numbered_places (suc k) ds)

abbrev row_to : Definition → ℕ → Resolved
row_to d k = record { at = d.name.at; to = k }

in_numbered : (from k : ℕ) (ds : List Definition) (d : Definition) → slice_get ds k ≡ Some d → Contains (numbered from ds) (row_to d (from + k))
in_numbered from k [] d at = no_some d at
in_numbered from zero (e ∷ ds) d at = here_in (row_to e from) (numbered (suc from) ds) (row_to d (from + zero)) (ap (λ x. row_to x from) (same_some e d at) ∙ ap (row_to d) (let same : from ≡ from + zero = omega arith in same))
in_numbered from (suc k) (e ∷ ds) d at =
    later_in (row_to e from) (numbered (suc from) ds) (row_to d (from + suc k))
    (subst (λ j. Contains (numbered (suc from) ds) (row_to d j)) (let same : suc from + k ≡ from + suc k = omega arith in same) (in_numbered (suc from) k ds d at))

-- ---- rows

record RowParts (ds : List Definition) (os : List Origin) (k : ℕ) (r : Row) : Type 0 where
  definition : Definition
  is : slice_get ds k ≡ Some definition
  origin : slice_get os k ≡ Some r.origin
  inside : definition.inside ≡ r.inside

row_parts : (ds : List Definition) (os : List Origin) (es : List Entry) (k : ℕ) (r : Row) → slice_get (rows ds os es) k ≡ Some r → RowParts ds os k r
row_parts [] os es k r at = no_some r at
row_parts (d ∷ ds) [] es k r at = no_some r at
row_parts (d ∷ ds) (o ∷ os) [] k r at = no_some r at
row_parts (d ∷ ds) (o ∷ os) (e ∷ es) zero r at =
    let same = same_some (record { name = d.name.spelling; inside = d.inside; origin = o; mode = e.mode }) r at in
    record { definition = d; is = refl; origin = ap (λ (x : Row). Some x.origin) same; inside = ap (λ (x : Row). x.inside) same }
row_parts (d ∷ ds) (o ∷ os) (e ∷ es) (suc k) r at =
    let inner = row_parts ds os es k r at in
    record { definition = inner.definition; is = inner.is; origin = inner.origin; inside = inner.inside }

-- ---- what the language defines

stands_outermost : Inside → Bool
stands_outermost Outermost = true
stands_outermost _ = false

all_outermost : List Definition → Bool
all_outermost [] = true
all_outermost (x ∷ xs) = stands_outermost x.inside && all_outermost xs

outermost_inside : (i : Inside) → stands_outermost i ≡ true → IsOwn None i
unfolding stands_outermost
outermost_inside Outermost is = tt
outermost_inside (Modulion d) is = tt
outermost_inside (Body d) is = absurd (true≢false (sym is))
outermost_inside (Block d) is = absurd (true≢false (sym is))

each_outermost : (xs : List Definition) → all_outermost xs ≡ true → Each (λ x. IsOwn None x.inside) xs
unfolding all_outermost
each_outermost [] is = tt
each_outermost (x ∷ xs) is = (outermost_inside x.inside (both_left (stands_outermost x.inside) (all_outermost xs) is), each_outermost xs (both_right (stands_outermost x.inside) (all_outermost xs) is))

language_each : Each (λ x. IsOwn None x.inside) predefined
unfolding all_outermost stands_outermost
language_each = each_outermost predefined refl

language_outside : (text : List Definition) → LanguageOutside text
language_outside text d is x at = elim (got_append text predefined d x at) [
  | inl first ↦ (let below = got_below text d x first in let behind = is.behind in absurd (omega (arith, below, behind)))
  | inr there ↦ member_each (λ y. IsOwn None y.inside) predefined x language_each there
]

-- ---- owners

owner_within : (i : Inside) (e : ℕ) → owner i ≡ Some e → owner (within i) ≡ Some e
owner_within Outermost e is = is
owner_within (Modulion d) e is = no_some e is
owner_within (Body d) e is = is
owner_within (Block d) e is = is

owner_twice : (i : Inside) → owner (within (within i)) ≡ owner (within i)
owner_twice Outermost = refl
owner_twice (Modulion d) = refl
owner_twice (Body d) = refl
owner_twice (Block d) = refl

-- ---- the text

module _ (txt : List ℕ) (t : ProgramTree) (g : Ground) (has : HasNames txt t) (ground : g ≡ ground_with t g.entries) where
  abbrev text : List Definition
  text = text_definitions (level_of t)

  abbrev every : List Node
  every = nodes (outermost (level_of t)) 0 (level_of t)

  abbrev s : Source
  s = source_of g t

  number_defined : (d : ℕ) (x : Definition) → slice_get text d ≡ Some x → number_at g.defined x.name.at ≡ Some d
  number_defined d x at =
      let tokens = has.has_tree in
      let rise = rising_definitions tokens.tokens t (rising_tokens txt tokens.tokens tokens.are) tokens.tree_of in
      ap (λ (y : Ground). number_at y.defined x.name.at) ground
      ∙ row_found (numbered 0 text) (row_to x d) (subst Rise (sym (numbered_places 0 text)) rise) (subst (λ j. Contains (numbered 0 text) (row_to x j)) (let same : 0 + d ≡ d = omega arith in same) (in_numbered 0 d text x at))

  -- the body that something stands in has this number
  abbrev Agrees : ℕ → Inside → Type 0
  Agrees b i = (e : ℕ) → owner (within i) ≡ Some e → body_of s.rows e ≡ b

  direct_of : (b d : ℕ) (r : Row) → IsOfBody b (thing_directly s.rows d r)
  direct_of b d r = by (is_shared meets_nothing r) (is_shared meets_event r) (is_shared meets_buffer r) (is_signal r.origin) (is_region_origin r.origin) (has_body r.origin)
    where
      by : (k l m n o p : Bool)
          → IsOfBody b (if k then a_shared (count_before (is_shared meets_nothing) d s.rows)
          else (if l then an_event (count_before (is_shared meets_event) d s.rows)
          else (if m then a_buffer (count_before (is_shared meets_buffer) d s.rows)
          else (if n then a_message (count_before (λ r. is_signal r.origin) d s.rows) else (if o then a_region (count_before (λ r. is_region_origin r.origin) d s.rows) else (if p then a_body (body_number s.rows d) else no_thing))))))
      by true l m n o p = tt
      by false true m n o p = tt
      by false false true n o p = tt
      by false false false true o p = tt
      by false false false false true p = tt
      by false false false false false true = tt
      by false false false false false false = tt

  local_of : (b c d : ℕ) (r : Row) (is : Bool) → c ≡ b → IsOfBody b (if is then a_local c (count_before (is_local_of s.rows c) d s.rows) else no_thing)
  local_of b c d r true same = same
  local_of b c d r false same = tt

  inside_of : (b d : ℕ) (r : Row) (o : Option ℕ) (j : Inside) → ((e : ℕ) → o ≡ Some e → body_of s.rows e ≡ b) → IsOwn o j → IsOfBody b (local_in s.rows d r (body_around s.rows j))
  inside_of b d r o Outermost agrees is = direct_of b d r
  inside_of b d r o (Modulion e) agrees is = direct_of b d r
  inside_of b d r o (Body e) agrees is = local_of b (body_of s.rows e) d r (is_local_of s.rows (body_of s.rows e) r) (agrees e is)
  inside_of b d r o (Block e) agrees is = local_of b (body_of s.rows e) d r (is_local_of s.rows (body_of s.rows e) r) (agrees e is)

  -- what stands in a modulion or in a body is no local of another
  thing_own : (b d : ℕ) (o : Option ℕ) → ((e : ℕ) → o ≡ Some e → body_of s.rows e ≡ b) → ((x : Definition) → slice_get text d ≡ Some x → IsOwn o x.inside) → IsOfBody b (thing_of s.rows d)
  thing_own b d o agrees is = by (slice_get s.rows d) refl
    where
      by : (r : Option Row) → slice_get s.rows d ≡ r → IsOfBody b (thing_by s.rows d r)
      by None at = tt
      by (Some r) at = let parts = row_parts text g.origins g.entries d r at in inside_of b d r o r.inside agrees (subst (IsOwn o) parts.inside (is parts.definition parts.is))

  own_agrees : (b : ℕ) (i : Inside) → Agrees b i → (e : ℕ) → owner i ≡ Some e → body_of s.rows e ≡ b
  own_agrees b i agrees e is = agrees e (owner_within i e is)

  name_used : (k : Node) (i : Inside) (b : ℕ) → Contains every k → SeesOwn text k.reach (owner i) → Agrees b i → Each (Used s b) (used_in k.part)
  name_used k i b among own agrees = each_member (Used s b) (used_in k.part) by
    where
      by : (n : Identifier) → Contains (used_in k.part) n → Used s b n
      by n c d at =
          let row = each_use has.has_tree.tokens t k n (is_resolved txt t has) (record { is_node = among; is_used = c }) in
          let at_uses : number_at (uses_of t) n.at ≡ Some d = sym (ap (λ (y : Ground). number_at y.uses n.at) ground) ∙ at in
          let same : row.number ≡ d = same_some row.number d (sym row.has_row ∙ at_uses) in
          let seen : Contains (sees text k.reach n.spelling) d = subst (λ xs. Contains xs d) (sym row.is_seen) (here_in row.number [] d same) in
          thing_own b d (owner i) (own_agrees b i agrees) (λ x there. own d ((seeing text k.reach n.spelling d).0 seen).0 x (among_both text predefined d x there))

  defined_own : (b : ℕ) (i : Inside) (d : ℕ) (x : Definition) → Agrees b i → slice_get text d ≡ Some x → x.inside ≡ i → Defined s b d x.name
  defined_own b i d x agrees at stands = (number_defined d x at, thing_own b d (owner i) (own_agrees b i agrees) (λ y there. subst (λ z. IsOwn (owner i) z.inside) (same_some x y (sym at ∙ there)) (subst (IsOwn (owner i)) (sym stands) (own_self i))))

  names_own : (b : ℕ) (i : Inside) (kind : Kind) (count from : ℕ) (ns : List Identifier) → Agrees b i → Lie text from (map (λ (n : Identifier). record { name = n; kind = kind; inside = i; elements = count }) ns) → EachAt (Defined s b) from ns
  names_own b i kind count from [] agrees lie = tt
  names_own b i kind count from (n ∷ ns) agrees lie = (defined_own b i from (record { name = n; kind = kind; inside = i; elements = count }) agrees lie.0 refl, names_own b i kind count (suc from) ns agrees lie.1)

  lie_all : (from : ℕ) (ds : List Definition) → Lie text from ds → Lie (with_predefined text) from ds
  lie_all from ds lie = at_wider (IsThere text) (IsThere (with_predefined text)) (λ d x at. among_both text predefined d x at) from ds lie

  no_routine : (o : Origin) (x : Definition) → Defines o x → x.kind ≡ kinds.Modulion → has_body o ≡ false
  no_routine (a_procedure p) x defines is = let wrong : kinds.Procedure ≡ kinds.Modulion = sym defines.0 ∙ is in absurd (let f : ⊥ = cc in f)
  no_routine (a_process p) x defines is = let wrong : kinds.Process ≡ kinds.Modulion = sym defines.0 ∙ is in absurd (let f : ⊥ = cc in f)
  no_routine o x defines is = refl

  -- what is done at the places of modulions is of the outermost body
  modulion_body : (d : ℕ) (x : Definition) → slice_get text d ≡ Some x → x.kind ≡ kinds.Modulion → body_of s.rows d ≡ 0
  modulion_body d x at is = by (slice_get s.rows d) refl
    where
      by_test : (b : Bool) (n : ℕ) → b ≡ false → (if b then n else 0) ≡ 0
      by_test true n none = absurd (true≢false none)
      by_test false n none = refl

      by : (r : Option Row) → slice_get s.rows d ≡ r → body_by s.rows d r ≡ 0
      by None there = refl
      by (Some r) there =
          let parts = row_parts text g.origins g.entries d r there in
          let origin : slice_get (origins_of t) d ≡ Some r.origin = sym (ap (λ (y : Ground). slice_get y.origins d) ground) ∙ parts.origin in
          let made = definition_there (origins_of t) (with_predefined text) d r.origin (origins_define t) origin in
          let same = same_some made.0 x (sym made.1.0 ∙ among_both text predefined d x at) in
          by_test (has_body r.origin) (body_number s.rows d) (no_routine r.origin x (subst (Defines r.origin) same made.1.1) is)

  agrees_one : (b e : ℕ) → body_of s.rows e ≡ b → (d : ℕ) → Some e ≡ Some d → body_of s.rows d ≡ b
  agrees_one b e is d same = subst (λ n. body_of s.rows n ≡ b) (same_some e d same) is

  agrees_within : (b : ℕ) (i : Inside) → Agrees b i → Agrees b (within i)
  agrees_within b i agrees e is = agrees e (sym (owner_twice i) ∙ is)

  -- the parameters of a routine stand in its body
  params_seen : (i : Inside) (number from : ℕ) (cs : List Clause) → Agrees (body_of s.rows number) (Body number) → Lie text from (params_defined i (Body number) cs) → ParamsSo s (body_of s.rows number) from cs
  params_seen i number from [] agrees lie = tt
  params_seen i number from (c ∷ cs) agrees lie =
      let two = params_lie text i (Body number) from c cs lie in (
        names_own (body_of s.rows number) (Body number) c.kind (elements_with c.kind (elements_in c.text)) from c.names agrees (clause_lie text (Body number) i from c two.0).0,
        params_seen i number (from + clause_size c) cs agrees two.1,
      )

  abbrev Direct : Bool → Inside → Type 0
  Direct true i = owner i ≡ None
  Direct false i = Unit {0}

  mutual
    part_seen : (direct : Bool) (i : Inside) (b from : ℕ) (r : Reach) (p : PartTree) → IsSized p → IsFlat direct p → Direct direct i → Lie text from (definitions_of i from p) → SeesOwn text r (owner i) → Agrees b i → ((k : Node) → Contains (node r from p ∷ nodes_inside r from p) k → Contains every k)
        → PartSo s b from p
    part_seen direct i b from r (define c) sized flat at lie own agrees among = (
      name_used (node r from (define c)) i b (among (node r from (define c)) (here_in (node r from (define c)) [] (node r from (define c)) refl)) own agrees,
      names_own b i c.kind (elements_with c.kind (elements_in c.text)) from c.names agrees (clause_lie text i i from c lie).0,
    )
    part_seen direct i b from r (mention m) sized flat at lie own agrees among =
        name_used (node r from (mention m)) i b (among (node r from (mention m)) (here_in (node r from (mention m)) [] (node r from (mention m)) refl)) own agrees
    part_seen true i b from r (modulion n region size ps) sized flat at lie own agrees among =
        let inner = in_modulion r (suc from) ps in
        let k = node r from (modulion n region size ps) in
        let body = modulion_body from (defined i kinds.Modulion n) lie.0 refl in
        parts_seen true (Modulion from) 0 (suc from) inner ps sized.1 flat refl lie.1 (modulion_own text r from (suc from) ps sized.1 (lie_all (suc from) (definitions_in (Modulion from) (suc from) ps) lie.1) (language_outside text) (subst (SeesOwn text r) at own))
        (λ e is. agrees_one 0 from body e is) (λ q c. among q (later_in k (nodes inner (suc from) ps) q c))
    part_seen false i b from r (modulion n region size ps) sized flat at lie own agrees among = absurd flat
    part_seen true i b from r (routine n kind params result size ps) sized flat at lie own agrees among =
        let to = from + head_size params result in
        let inner = body_reach r from params result ps in
        let k = node r from (routine n kind params result size ps) in (
          number_defined from (defined i kind n) lie.0,
          params_seen i from (suc from) params (λ e is. agrees_one (body_of s.rows from) from refl e is) (head_lie text i from n kind params result size ps lie).0,
          parts_seen false (Body from) (body_of s.rows from) to inner ps sized.1 flat tt (lie_body text i from n kind params result size ps lie)
              (routine_own text r i from n kind params result size ps sized.1 (lie_all from (definitions_of i from (routine n kind params result size ps)) lie) (subst (SeesOwn text r) at own)) (λ e is. agrees_one (body_of s.rows from) from refl e is)
              (λ q c. among q (later_in k (nodes inner to ps) q c)),
        )
    part_seen false i b from r (routine n kind params result size ps) sized flat at lie own agrees among = absurd flat
    part_seen direct i b from r (block size ps) sized flat at lie own agrees among =
        let inner = in_block r [] from ps in
        let k = node r from (block size ps) in
        parts_seen false (within i) b from inner ps sized.1 flat tt lie (inner_own text r i from ps sized.1 (lie_all from (definitions_in (within i) from ps) lie) own) (agrees_within b i agrees) (λ q c. among q (later_in k (nodes inner from ps) q c))
    part_seen direct i b from r (seize n) sized flat at lie own agrees among = tt
    part_seen direct i b from r (seize_all pos) sized flat at lie own agrees among = tt
    part_seen direct i b from r (grant n) sized flat at lie own agrees among = tt
    part_seen direct i b from r (grant_all pos) sized flat at lie own agrees among = tt
    part_seen direct i b from r (stray n) sized flat at lie own agrees among = tt

    parts_seen : (direct : Bool) (i : Inside) (b from : ℕ) (r : Reach) (ps : PartNodes) → AreSized ps → AreFlat direct ps → Direct direct i → Lie text from (definitions_in i from ps) → SeesOwn text r (owner i) → Agrees b i → ((k : Node) → Contains (nodes r from ps) k → Contains every k) → PartsSo s b from ps
    parts_seen direct i b from r no_parts sized flat at lie own agrees among = tt
    parts_seen direct i b from r (more_parts p ps) sized flat at lie own agrees among =
        let k = node r from p in
        let inside = nodes_inside r from p in
        let rest = nodes r (from + size_of p) ps in (
          part_seen direct i b from r p sized.0 flat.0 at (lie_first text i from p ps lie) own agrees (λ q c. among q (Contains-append_left (k ∷ inside) rest q c)),
          parts_seen direct i b (from + size_of p) r ps sized.1 flat.1 at (lie_rest text i from p ps sized.0 lie) own agrees (λ q c. among q (Contains-append_right (k ∷ inside) rest q c)),
        )

  lies : Lie text 0 text
  lies = at_each (IsThere text) 0 text (λ k x at. subst (λ d. slice_get text d ≡ Some x) (let same : k ≡ 0 + k = omega arith in same) at)

  pub level_seen : AreFlat true (level_of t) → PartsSo s 0 0 (level_of t)
  level_seen flat =
      parts_seen true Outermost 0 0 (outermost (level_of t)) (level_of t) (program_sized t) flat refl lies (outermost_own text (level_of t) (program_sized t) (lie_all 0 text lies) (language_outside text)) (λ e is. no_some e is) (λ k c. c)

  pub number_of : (d : ℕ) (x : Definition) → slice_get text d ≡ Some x → number_at g.defined x.name.at ≡ Some d
  number_of d x at = number_defined d x at
