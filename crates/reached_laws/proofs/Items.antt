-- The walk over the items of a program: its names lead to what may be named there.
use Rattle.std.proofs.Common.{◌≡◌, ℕ, zero, suc, ◌+◌, Bool, true, false, List, [], ◌∷◌, ◌++◌, Option, Some, None, length, length-append, inl, refl, sym, ap, ◌∙◌, subst, true≢false, arith}
use Rattle.std.specs.Prelude.{map, flat_map, slice_get}
use Rattle.std.proofs.lemmas.List.{length-map}
use Rattle.chill_tree.specs.declared.tree.name.Name.{Name}
use Rattle.chill_tree.specs.declared.tree.item.ModulionKind.{ModulionKind}
use Rattle.chill_tree.specs.declared.tree.item.ModulionKind.TheVariants as modulions
use Rattle.chill_tree.specs.declared.tree.item.Passed.TheVariants.{Names, All}
use Rattle.chill_tree.specs.StatementTree.{HandlerTree, BodyTree, HandlerNode, handler_node}
use Rattle.chill_tree.specs.ItemTree.{SignalTree, ParamTree, FormalTree, ProcedureTree, ProcessTree, ItemTree, ItemNodes, local_item, signals, procedure, process, action, no_items, more_items, ModulionTree, modulion_item, ProgramTree}
use Rattle.chill_tree.specs.ItemTree.{seize as seize_item, grant as grant_item, modulion as modulion_of}
use Rattle.names_model.specs.declared.identifier.Identifier.{Identifier}
use Rattle.names_model.specs.declared.kind.Kind.{Kind}
use Rattle.names_model.specs.declared.kind.Kind.TheVariants as kinds
use Rattle.names_model.specs.declared.definition.Inside.{Inside}
use Rattle.names_model.specs.declared.definition.Inside.TheVariants.{Outermost, Modulion, Body}
use Rattle.names_model.specs.declared.definition.Definition.{Definition}
use Rattle.names_model.specs.declared.part.Clause.{Clause}
use Rattle.names_model.specs.declared.part.Mention.{Mention}
use Rattle.names_model.specs.Identifiers.{identifier}
use Rattle.names_model.specs.Parts.{PartTree, routine, modulion, part_nodes}
use Rattle.names_model.specs.Sizes.{elements_in, head_size, sizes_of}
use Rattle.names_model.specs.Definitions.{text_definitions, with_predefined, predefined, defined, elements_defined, params_defined, definitions_in}
use Rattle.names_model.specs.Entries.{param_names}
use Rattle.names_model.specs.Seeing.{Reach, outermost, in_modulion}
use Rattle.names_model.specs.NameRules.{body_reach}
use Rattle.names_model.specs.ModeMentions.{mentions_of_some_mode}
use Rattle.names_model.specs.StatementParts.{handler_parts}
use Rattle.names_model.specs.ItemParts.{is_region, seized, granted, receiver_parts, signal_parts, param_clause, formal_clause, whole_body, item_parts, each_item}
use Rattle.names_model.specs.Resolving.{level_of}
use Rattle.names_laws.specs.Visible.{Up}
use Rattle.ground_laws.specs.Defining.{Defines, AllDefine}
use Rattle.ground_laws.proofs.Defining.{origins_define}
use Rattle.checks_model.specs.Ground.{Ground, Origin, a_modulion, number_at}
use Rattle.checks_model.specs.Origins.{origins_of}
use Rattle.checks_model.specs.Phases.{processes_told_at}
use Rattle.checks_model.specs.ProcessRules.{told_item}
use Rattle.checks_model.specs.Table.{numbered, ground_with}
use Rattle.checks_model.specs.Diagnoses.{HasNames}
use Rattle.checks_model.specs.Sites.{Site, Around, in_procedure, in_no_procedure, at_item, sites_of_local, sites_of, sites_of_handler, sites_of_body, sites_of_item, sites_of_items, items_of, sites}
use Rattle.elaborated_laws.proofs.Told.{no_some, same_some}
use Rattle.table_laws.specs.Names.{names_in}
use Rattle.written_laws.specs.Written.{Each, exprs_at}
use Rattle.written_laws.proofs.Shown.{each_append}
use Rattle.written_laws.proofs.Rows.{AreSized}
use Rattle.written_laws.proofs.Defining.{program_sized}
use Rattle.elaboration_model.specs.Numbering.{Source, Row, body_of, thing_of}
use Rattle.elaboration_model.specs.Elaborated.{region_in, region_around, source_of}
use Rattle.reached_laws.specs.Reached.{other_names, defined_names, IsUseReached, IsDefinitionReached, IsSiteReached, IsItemReached, AreItemsReached, ModulionsKnown, EachModulionKnown, ReachedLaw}
use Rattle.reached_laws.proofs.Standing.{GoesAlong, ArePlain, plain_both, params_long, Stand, stand_left, stand_right, stand_next, stand_both, heads_inside}
use Rattle.reached_laws.proofs.Elements.{IsFit, AreFit, fit_both, plain_fit, GoElements, parts_go}
use Rattle.reached_laws.proofs.Reaches.{Fact, IsGood, block_good, modulion_good, outermost_good, plain_ups}
use Rattle.reached_laws.proofs.Uses.{AreSeen, program_seen}
use Rattle.reached_laws.proofs.Walked as walk
use Rattle.reached_laws.proofs.Walked.{seen_both}
use Rattle.reached_laws.proofs.Bodies.{local_walked, statement_walked, handler_walked, whole_walked}
use Rattle.reached_laws.proofs.Owned.{sized_first, sized_later, Modulions, modulions_both, NoModulion, no_modulions, GrantsNothing, plain_modulions, plain_grants}
use Rattle.reached_laws.proofs.Grants.{IsQuiet, AreQuiet, AreClean}
use Rattle.reached_laws.proofs.Places.{defined_at, row_is, IsModulionRow, outermost_body, module_alone, Open, open_more, open_directly, open_outermost, fits_body, fits_modulion}
use Rattle.reached_laws.proofs.Given.{RegionKnown, region_ups, stands_directly, region_gives, GivesOut, ups_out, module_gives}

each_first : {A : Type 0} (P : A → Type 0) (xs ys : List A) → Each P (xs ++ ys) → Each P xs
each_first P [] ys all = tt
each_first P (x ∷ xs) ys all = (all.0, each_first P xs ys all.1)

each_later : {A : Type 0} (P : A → Type 0) (xs ys : List A) → Each P (xs ++ ys) → Each P ys
each_later P [] ys all = all
each_later P (x ∷ xs) ys all = each_later P xs ys all.1

each_into : {A : Type 0} (P Q : A → Type 0) → ((x : A) → P x → Q x) → (xs : List A) → Each P xs → Each Q xs
each_into P Q so [] all = tt
each_into P Q so (x ∷ xs) all = (so x all.0, each_into P Q so xs all.1)

defines_at : (os : List Origin) (ds : List Definition) (k : ℕ) (o : Origin) (d : Definition) → AllDefine os ds → slice_get os k ≡ Some o → slice_get ds k ≡ Some d → Defines o d
defines_at [] ds k o d all origin at = no_some o origin
defines_at (x ∷ os) [] k o d all origin at = no_some d at
defines_at (x ∷ os) (y ∷ ds) zero o d all origin at = subst (λ z. Defines z d) (same_some x o origin) (subst (λ z. Defines x z) (same_some y d at) all.0)
defines_at (x ∷ os) (y ∷ ds) (suc k) o d all origin at = defines_at os ds k o d all.1 origin at

in_front : (ds es : List Definition) (d : ℕ) (x : Definition) → slice_get ds d ≡ Some x → slice_get (ds ++ es) d ≡ Some x
in_front [] es d x at = no_some x at
in_front (y ∷ ds) es zero x at = at
in_front (y ∷ ds) es (suc d) x at = in_front ds es d x at

-- ---- the parts of items

module _ (t : ProgramTree) where
  abbrev Nothing : Fact (text_definitions (level_of t))
  Nothing = λ d x. Unit {0}

  handler_plain : (h : HandlerNode) → ArePlain (part_nodes (handler_parts [] h))
  handler_plain h = (handler_walked t Nothing h in_no_procedure []).plain

  receiver_plain : (n : Option Name) → ArePlain (part_nodes (receiver_parts n))
  receiver_plain None = tt
  receiver_plain (Some n) = (tt, tt)

  signals_plain : (ss : List SignalTree) → ArePlain (part_nodes (flat_map signal_parts ss))
  signals_plain [] = tt
  signals_plain (s ∷ ss) = plain_both (signal_parts s) (flat_map signal_parts ss) (inl refl, receiver_plain s.process) (signals_plain ss)

  seize_quiet : (ns : List Name) → Each GrantsNothing (seized (Names ns))
  seize_quiet [] = tt
  seize_quiet (n ∷ ns) = (tt, seize_quiet ns)

  item_quiet : (i : ItemTree) → IsQuiet i
  item_quiet (local_item l) quiet = plain_grants _ (local_walked t Nothing true l).plain
  item_quiet (action s) quiet = plain_grants _ (statement_walked t Nothing s in_no_procedure []).plain
  item_quiet (signals at ss) quiet = plain_grants _ (signals_plain ss)
  item_quiet (procedure p) quiet = (tt, tt)
  item_quiet (process p) quiet = (tt, tt)
  item_quiet (modulion_of n kind items h closing) quiet = (tt, tt)
  item_quiet (seize_item at (Names ns)) quiet = seize_quiet ns
  item_quiet (seize_item at (All p)) quiet = (tt, tt)
  item_quiet (grant_item at passed) quiet = absurd (true≢false quiet)

  items_quiet : (is : ItemNodes) → AreQuiet is
  items_quiet no_items = tt
  items_quiet (more_items i is) = (item_quiet i, items_quiet is)

  params_along : (ps : List ParamTree) → Each GoesAlong (map param_clause ps)
  params_along [] = tt
  params_along (p ∷ ps) = (inl refl, params_along ps)

  formals_along : (ps : List FormalTree) → Each GoesAlong (map formal_clause ps)
  formals_along [] = tt
  formals_along (p ∷ ps) = (inl refl, formals_along ps)

  names_fit : (f : Name → PartTree) → ((n : Name) → IsFit (f n)) → (ns : List Name) → AreFit (part_nodes (map f ns))
  names_fit f so [] = tt
  names_fit f so (n ∷ ns) = (so n, names_fit f so ns)

  mutual
    item_fit : (i : ItemTree) → AreFit (part_nodes (item_parts i))
    item_fit (local_item l) = plain_fit _ (local_walked t Nothing true l).plain
    item_fit (action s) = plain_fit _ (statement_walked t Nothing s in_no_procedure []).plain
    item_fit (signals at ss) = plain_fit _ (signals_plain ss)
    item_fit (procedure p) = ((params_along p.params, plain_fit _ (whole_walked t Nothing (in_procedure p) p.body p.handler).plain), tt)
    item_fit (process p) = ((formals_along p.formals, plain_fit _ (whole_walked t Nothing in_no_procedure p.body p.handler).plain), tt)
    item_fit (modulion_of n kind items h closing) = (fit_both (each_item items) (handler_parts [] (handler_node h)) (items_fit items) (plain_fit _ (handler_plain (handler_node h))), tt)
    item_fit (seize_item at (Names ns)) = names_fit _ (λ n. tt) ns
    item_fit (seize_item at (All p)) = (tt, tt)
    item_fit (grant_item at (Names ns)) = names_fit _ (λ n. tt) ns
    item_fit (grant_item at (All p)) = (tt, tt)

    items_fit : (is : ItemNodes) → AreFit (part_nodes (each_item is))
    items_fit no_items = tt
    items_fit (more_items i is) = fit_both (item_parts i) (each_item is) (item_fit i) (items_fit is)

  program_fit : (ms : List ModulionTree) → AreFit (part_nodes (flat_map (λ m. item_parts (modulion_item m)) ms))
  program_fit [] = tt
  program_fit (m ∷ ms) = fit_both (item_parts (modulion_item m)) (flat_map (λ m. item_parts (modulion_item m)) ms) (item_fit (modulion_item m)) (program_fit ms)

  seize_alone : (ns : List Name) → Each NoModulion (seized (Names ns))
  seize_alone [] = tt
  seize_alone (n ∷ ns) = (tt, seize_alone ns)

  grant_alone : (ns : List Name) → Each NoModulion (granted (Names ns))
  grant_alone [] = tt
  grant_alone (n ∷ ns) = (tt, grant_alone ns)

  -- an item that is no modulion
  abbrev is_modulion_item : ItemTree → Bool
  is_modulion_item (modulion_of n kind items h closing) = true
  is_modulion_item i = false

  item_alone : (i : ItemTree) → is_modulion_item i ≡ false → Each NoModulion (item_parts i)
  item_alone (local_item l) other = plain_modulions _ (local_walked t Nothing true l).plain
  item_alone (action s) other = plain_modulions _ (statement_walked t Nothing s in_no_procedure []).plain
  item_alone (signals at ss) other = plain_modulions _ (signals_plain ss)
  item_alone (procedure p) other = (tt, tt)
  item_alone (process p) other = (tt, tt)
  item_alone (modulion_of n kind items h closing) other = absurd (true≢false other)
  item_alone (seize_item at (Names ns)) other = seize_alone ns
  item_alone (seize_item at (All p)) other = (tt, tt)
  item_alone (grant_item at (Names ns)) other = grant_alone ns
  item_alone (grant_item at (All p)) other = (tt, tt)

  not_in_region : (every : ItemNodes) (i : ItemTree) → told_item modulions.Region every i ≡ [] → is_modulion_item i ≡ false
  not_in_region every (modulion_of n kind items h closing) clean = let none : ⊥ = cc in absurd none
  not_in_region every i clean = refl

  region_alone : (every is : ItemNodes) → AreClean every is → Each NoModulion (each_item is)
  region_alone every no_items clean = tt
  region_alone every (more_items i is) clean = each_append NoModulion (item_parts i) (each_item is) (item_alone i (not_in_region every i clean.0)) (region_alone every is clean.1)

-- ---- the walk

module _ (bytes : List ℕ) (t : ProgramTree) (g : Ground) (has : HasNames bytes t) (is_ground : g ≡ ground_with t g.entries) where
  abbrev text : List Definition
  text = text_definitions (level_of t)

  abbrev s : Source
  s = source_of g t

  abbrev Untold : Site → Type 0
  Untold n = processes_told_at g n ≡ []

  pub inside_is : (d : ℕ) (r : Row) (x : Definition) → slice_get s.rows d ≡ Some r → slice_get text d ≡ Some x → r.inside ≡ x.inside
  inside_is d r x row at = let own = row_is text g.origins g.entries d r row in own.inside ∙ ap (λ (y : Definition). y.inside) (same_some own.definition x (sym own.is ∙ at))

  pub defines_is : (d : ℕ) (r : Row) (x : Definition) → slice_get s.rows d ≡ Some r → slice_get text d ≡ Some x → Defines r.origin x
  defines_is d r x row at =
      let own = row_is text g.origins g.entries d r row in
      defines_at (origins_of t) (with_predefined text) d r.origin x (origins_define t) (sym (ap (λ (y : Ground). slice_get y.origins d) is_ground) ∙ own.origin) (in_front text predefined d x at)

  elements : GoElements text
  elements = parts_go Outermost 0 (level_of t) (program_fit t t.modulions)

  -- what a name defines stands under this number
  pub number_is : (n : Name) (k : ℕ) (x : Definition) → slice_get text k ≡ Some x → x.name ≡ identifier n → number_at g.defined n.at ≡ Some k
  number_is n k x at named =
      ap (λ (y : Ground). number_at y.defined n.at) is_ground ∙ (sym (ap (λ (i : Identifier). number_at (numbered 0 text) i.at) named) ∙ defined_at bytes t k x has at)

  abbrev OpenTo : ℕ → Option ℕ → Fact text
  OpenTo body region = Open s text inside_is body region

  site_within : (body : ℕ) (region : Option ℕ) (n : Site) → walk.SiteSo t (OpenTo body region) n → IsSiteReached s body region n
  site_within body region n so = record {
    exprs = each_into (λ e. Each (walk.UsedSo t (OpenTo body region)) (names_in e)) (λ e. Each (IsUseReached s body region) (names_in e)) (λ e all. each_into (walk.UsedSo t (OpenTo body region)) (IsUseReached s body region) used (names_in e) all) (exprs_at n) so.exprs;
    others = each_into (walk.UsedSo t (OpenTo body region)) (IsUseReached s body region) used (other_names n) so.others;
    defined = each_into (walk.DefinedSo t (OpenTo body region)) (IsDefinitionReached s body region) defines_it (defined_names n) so.defined;
  }
    where
      used : (m : Name) → walk.UsedSo t (OpenTo body region) m → IsUseReached s body region m
      used m own d r number row =
          let x = row_is text g.origins g.entries d r row in
          own d x.definition (sym (ap (λ (y : Ground). number_at y.uses m.at) is_ground) ∙ number) x.is r row

      defines_it : (m : Name) → walk.DefinedSo t (OpenTo body region) m → IsDefinitionReached s body region m
      defines_it m own d r number row =
          let same = same_some own.number d (sym (number_is m own.number own.definition own.is own.named) ∙ number) in
          own.so r (ap (slice_get s.rows) same ∙ row)

  sites_within : (body : ℕ) (region : Option ℕ) (ns : List Site) → Each (walk.SiteSo t (OpenTo body region)) ns → Each (IsSiteReached s body region) ns
  sites_within body region ns all = each_into (walk.SiteSo t (OpenTo body region)) (IsSiteReached s body region) (site_within body region) ns all

  -- ---- what modulions give

  modulion_row : (n : Name) (kind : ModulionKind) (items : ItemNodes) (around : Inside) (from : ℕ) (rest : List Definition) → ((d : ℕ) → number_at g.defined n.at ≡ Some d → slice_get g.origins d ≡ Some (a_modulion kind items)) → Stand text from (defined around kinds.Modulion (identifier n) ∷ rest) → IsModulionRow s.rows from kind items
  modulion_row n kind items around from rest known stands r row =
      let x = defined around kinds.Modulion (identifier n) in
      let own = row_is text g.origins g.entries from r row in
      same_some r.origin (a_modulion kind items) (sym own.origin ∙ known from (number_is n from x (stands 0 from x refl (omega arith)) refl))

  clean_of : (every is : ItemNodes) → Each Untold (sites_of_items modulions.Region every is) → AreClean every is
  clean_of every no_items all = tt
  clean_of every (more_items i is) all = (all.0, clean_of every is (each_later Untold (at_item modulions.Region every i ∷ sites_of_item i) (sites_of_items modulions.Region every is) all))

  region_known : (from : ℕ) (items : ItemNodes) (h : HandlerNode) → IsModulionRow s.rows from modulions.Region items → Each Untold (sites_of_items modulions.Region items items) → AreSized (part_nodes (each_item items ++ handler_parts [] h))
      → Stand text (suc from) (definitions_in (Modulion from) (suc from) (part_nodes (each_item items ++ handler_parts [] h))) → RegionKnown s t inside_is defines_is elements from items h
  region_known from items h row untold sized stands = (let clean = clean_of items items untold in record { row = row; clean = clean; quiet = items_quiet t items; plain = handler_plain t h; alone = region_alone t items items clean; sized = sized; stands = stands })

  abbrev Gives : ℕ → List PartTree → Type 0
  Gives from ps = Modulions (GivesOut s t inside_is defines_is elements) from (part_nodes ps)

  inner_stands : (around : Inside) (from size : ℕ) (n : Name) (region : Bool) (ps : List PartTree) → Stand text from (definitions_in around from (part_nodes (modulion (identifier n) region size (part_nodes ps) ∷ []))) → Stand text (suc from) (definitions_in (Modulion from) (suc from) (part_nodes ps))
  inner_stands around from size n region ps stands =
      let ds = definitions_in (Modulion from) (suc from) (part_nodes ps) in
      stand_left text (suc from) ds [] (stand_next text from (defined around kinds.Modulion (identifier n)) (ds ++ []) stands)

  abbrev inner_parts : ItemNodes → Option HandlerTree → List PartTree
  inner_parts items h = each_item items ++ handler_parts [] (handler_node h)

  modulion_gives : (n : Name) (kind : ModulionKind) (items : ItemNodes) (h : Option HandlerTree) (closing : Option Name) (around : Inside) (from : ℕ) → ModulionsKnown g (modulion_of n kind items h closing) → Each Untold (sites_of_item (modulion_of n kind items h closing)) → AreSized (part_nodes (inner_parts items h))
      → Stand text from (definitions_in around from (part_nodes (item_parts (modulion_of n kind items h closing)))) → (Stand text (suc from) (definitions_in (Modulion from) (suc from) (part_nodes (each_item items))) → Gives (suc from) (each_item items)) → GivesOut s t inside_is defines_is elements from (is_region kind) (part_nodes (inner_parts items h))
  modulion_gives n modulions.Module items h closing around from known untold sized stands gives =
      let parts = handler_parts [] (handler_node h) in
      let inner = inner_stands around from (sizes_of (part_nodes (inner_parts items h))) n false (inner_parts items h) stands in
      let row = modulion_row n modulions.Module items around from (definitions_in (Modulion from) (suc from) (part_nodes (inner_parts items h)) ++ []) known.0 stands in
      let split = stand_both text (Modulion from) (suc from) (each_item items) parts (sized_first (each_item items) parts sized) inner in
      module_gives s t inside_is defines_is elements from items (part_nodes (inner_parts items h)) row sized inner
      (modulions_both (GivesOut s t inside_is defines_is elements) (suc from) (each_item items) parts (gives split.0) (no_modulions (GivesOut s t inside_is defines_is elements) (suc from + sizes_of (part_nodes (each_item items))) parts (plain_modulions _ (handler_plain t (handler_node h)))))
  modulion_gives n modulions.Region items h closing around from known untold sized stands gives =
      let inner = inner_stands around from (sizes_of (part_nodes (inner_parts items h))) n true (inner_parts items h) stands in
      let row = modulion_row n modulions.Region items around from (definitions_in (Modulion from) (suc from) (part_nodes (inner_parts items h)) ++ []) known.0 stands in
      region_gives s t inside_is defines_is elements from items (handler_node h) (region_known from items (handler_node h) row (each_first Untold (sites_of_items modulions.Region items items) (sites_of_handler in_no_procedure (handler_node h)) untold) sized inner)

  mutual
    item_gives : (i : ItemTree) (around : Inside) (from : ℕ) → ModulionsKnown g i → Each Untold (sites_of_item i) → AreSized (part_nodes (item_parts i)) → Stand text from (definitions_in around from (part_nodes (item_parts i))) → Gives from (item_parts i)
    item_gives (modulion_of n kind items h closing) around from known untold sized stands = (
      modulion_gives n kind items h closing around from known untold sized.0.1 stands
          (λ inner. items_gives items kind items (Modulion from) (suc from) known.1 (each_first Untold (sites_of_items kind items items) (sites_of_handler in_no_procedure (handler_node h)) untold) (sized_first (each_item items) (handler_parts [] (handler_node h)) sized.0.1) inner),
      tt,
    )
    item_gives (local_item l) around from known untold sized stands = no_modulions (GivesOut s t inside_is defines_is elements) from _ (item_alone t (local_item l) refl)
    item_gives (action x) around from known untold sized stands = no_modulions (GivesOut s t inside_is defines_is elements) from _ (item_alone t (action x) refl)
    item_gives (signals at ss) around from known untold sized stands = no_modulions (GivesOut s t inside_is defines_is elements) from _ (item_alone t (signals at ss) refl)
    item_gives (procedure p) around from known untold sized stands = tt
    item_gives (process p) around from known untold sized stands = tt
    item_gives (seize_item at w) around from known untold sized stands = no_modulions (GivesOut s t inside_is defines_is elements) from _ (item_alone t (seize_item at w) refl)
    item_gives (grant_item at w) around from known untold sized stands = no_modulions (GivesOut s t inside_is defines_is elements) from _ (item_alone t (grant_item at w) refl)

    items_gives : (is : ItemNodes) (kind : ModulionKind) (every : ItemNodes) (around : Inside) (from : ℕ) → EachModulionKnown g is → Each Untold (sites_of_items kind every is) → AreSized (part_nodes (each_item is)) → Stand text from (definitions_in around from (part_nodes (each_item is))) → Gives from (each_item is)
    items_gives no_items kind every around from known untold sized stands = tt
    items_gives (more_items i is) kind every around from known untold sized stands =
        let front = sized_first (item_parts i) (each_item is) sized in
        let split = stand_both text around from (item_parts i) (each_item is) front stands in
        modulions_both (GivesOut s t inside_is defines_is elements) from (item_parts i) (each_item is)
        (item_gives i around from known.0 (each_first Untold (sites_of_item i) (sites_of_items kind every is) untold.1) front split.0)
        (items_gives is kind every around (from + sizes_of (part_nodes (item_parts i))) known.1 (each_later Untold (at_item kind every i ∷ sites_of_item i) (sites_of_items kind every is) untold) (sized_later (item_parts i) (each_item is) sized) split.1)

  -- ---- bodies

  -- a routine: its parts at a number, in a reach that sees what may be named in its region
  record RoutinePlaced (around : Inside) (r : Reach) (from : ℕ) (region : Option ℕ) (n : Name) (kind : Kind) (params : List Clause) (result : List Mention) (ps : List PartTree) : Type 0 where
    sized : AreSized (part_nodes ps)
    stands : Stand text from (definitions_in around from (part_nodes (routine (identifier n) kind params result (sizes_of (part_nodes ps)) (part_nodes ps) ∷ [])))
    seen : AreSeen t (body_reach r from params result (part_nodes ps)) (from + head_size params result) ps
    good : (body : ℕ) → IsGood text (OpenTo body region) r

  routine_sites : (around : Inside) (r : Reach) (from : ℕ) (region : Option ℕ) (n : Name) (kind : Kind) (params : List Clause) (result : List Mention) (a : Around) (ps : List BodyTree) (h : Option HandlerTree) → RoutinePlaced around r from region n kind params result (whole_body ps h)
      → Each (IsSiteReached s (body_of s.rows from) region) (sites_of_body a ps h)
  routine_sites around r from region n kind params result a ps h placed =
      let body = body_of s.rows from in
      let parts = whole_body ps h in
      let next = from + head_size params result in
      let head = params_defined around (Body from) params in
      let es = elements_defined around (elements_in result) in
      let ds = definitions_in (Body from) next (part_nodes parts) in
      let own = defined around kind (identifier n) in
      let stands = stand_next text from own ((head ++ es) ++ ds) (stand_left text from (own ∷ (head ++ es) ++ ds) [] placed.stands) in
      let one = params_long around (Body from) params in
      let other : length es ≡ length (elements_in result) = length-map (elements_in result) (defined around kinds.Element) in
      let both = length-append head es in
      let inner = stand_right text (suc from) next (head ++ es) ds (omega (arith, one, other, both)) stands in
      let front = stand_left text (suc from) head es (stand_left text (suc from) (head ++ es) ds stands) in
      let walked = whole_walked t (OpenTo body region) a ps h in
      let fits = fits_body s text inside_is from region in
      sites_within body region (sites_of_body a ps h)
      (walked.names (Body from) (body_reach r from params result (part_nodes parts)) next (record {
        fits = fits;
        good = block_good text (OpenTo body region) r (param_names (suc from) params) next (part_nodes parts) (λ d x at c. fits d x at (inl (heads_inside text around (Body from) (suc from) params d x front c at)))
            (plain_ups text (OpenTo body region) (Body from) next (part_nodes parts) placed.sized walked.plain fits inner) (placed.good body);
        stands = inner;
        seen = placed.seen;
      }))

  routine_number : (around : Inside) (from : ℕ) (n : Name) (kind : Kind) (rest : List Definition) (d : ℕ) → Stand text from (defined around kind (identifier n) ∷ rest) → number_at g.defined n.at ≡ Some d → from ≡ d
  routine_number around from n kind rest d stands number = let x = defined around kind (identifier n) in same_some from d (sym (number_is n from x (stands 0 from x refl (omega arith)) refl) ∙ number)

  routine_place : (around : Inside) (from : ℕ) (n : Name) (kind : Kind) (rest : List Definition) (d : ℕ) (r : Row) → Stand text from (defined around kind (identifier n) ∷ rest) → from ≡ d → slice_get s.rows d ≡ Some r → r.inside ≡ around
  routine_place around from n kind rest d r stands same row = let x = defined around kind (identifier n) in inside_is d r x row (stands 0 d x refl (omega (arith, same)))

  -- ---- items

  -- an item that stands directly in a modulion of a number
  record ItemPlaced (kind : ModulionKind) (every : ItemNodes) (m : ℕ) (r : Reach) (from : ℕ) (i : ItemTree) : Type 0 where
    row : IsModulionRow s.rows m kind every
    clean : told_item kind every i ≡ []
    known : ModulionsKnown g i
    untold : Each Untold (sites_of_item i)
    sized : AreSized (part_nodes (item_parts i))
    stands : Stand text from (definitions_in (Modulion m) from (part_nodes (item_parts i)))
    seen : AreSeen t r from (item_parts i)
    good : (body : ℕ) → IsGood text (OpenTo body (region_around s.rows (Modulion m))) r

  in_module : (kind : ModulionKind) (every : ItemNodes) (m : ℕ) (b : Bool) → IsModulionRow s.rows m kind every → is_region kind ≡ false → region_around s.rows (Modulion m) ≡ None
  in_module modulions.Module every m b row other = module_alone s.rows m every row
  in_module modulions.Region every m b row other = absurd (true≢false other)

  process_module : (kind : ModulionKind) (every : ItemNodes) (p : ProcessTree) → told_item kind every (process p) ≡ [] → is_region kind ≡ false
  process_module modulions.Module every p clean = refl
  process_module modulions.Region every p clean = let none : ⊥ = cc in absurd none

  modulion_module : (kind : ModulionKind) (every : ItemNodes) (n : Name) (own : ModulionKind) (items : ItemNodes) (h : Option HandlerTree) (closing : Option Name) → told_item kind every (modulion_of n own items h closing) ≡ [] → is_region kind ≡ false
  modulion_module modulions.Module every n own items h closing clean = refl
  modulion_module modulions.Region every n own items h closing clean = let none : ⊥ = cc in absurd none

  procedure_within : (kind : ModulionKind) (every : ItemNodes) (m : ℕ) (r : Reach) (from : ℕ) (p : ProcedureTree) → ItemPlaced kind every m r from (procedure p) → IsItemReached s (region_around s.rows (Modulion m)) (procedure p)
  procedure_within kind every m r from p placed d row at =
      let params = map param_clause p.params in
      let result = mentions_of_some_mode p.returns in
      let same = routine_number (Modulion m) from p.name kinds.Procedure _ d placed.stands at.number in
      let place = routine_place (Modulion m) from p.name kinds.Procedure _ d row placed.stands same at.row in
      let region = region_around s.rows (Modulion m) in (
        ap (region_around s.rows) (sym place),
        subst (λ k. Each (IsSiteReached s (body_of s.rows k) region) (sites_of_body (in_procedure p) p.body p.handler)) same
            (routine_sites (Modulion m) r from region p.name kinds.Procedure params result (in_procedure p) p.body p.handler (record { sized = placed.sized.0.1; stands = placed.stands; seen = placed.seen.0; good = placed.good })),
      )

  process_within : (kind : ModulionKind) (every : ItemNodes) (m : ℕ) (r : Reach) (from : ℕ) (p : ProcessTree) → ItemPlaced kind every m r from (process p) → IsItemReached s (region_around s.rows (Modulion m)) (process p)
  process_within kind every m r from p placed d row at =
      let params = map formal_clause p.formals in
      let same = routine_number (Modulion m) from p.name kinds.Process _ d placed.stands at.number in
      let alone = in_module kind every m true placed.row (process_module kind every p placed.clean) in
      subst (λ k. Each (IsSiteReached s (body_of s.rows k) None) (sites_of_body in_no_procedure p.body p.handler)) same
      (routine_sites (Modulion m) r from None p.name kinds.Process params [] in_no_procedure p.body p.handler (record { sized = placed.sized.0.1; stands = placed.stands; seen = placed.seen.0; good = λ body. subst (λ q. IsGood text (OpenTo body q) r) alone (placed.good body) }))

  -- a modulion in a reach that sees what may be named outside all regions
  record ModulionPlaced (around : Inside) (r : Reach) (from : ℕ) (n : Name) (kind : ModulionKind) (items : ItemNodes) (h : Option HandlerTree) (closing : Option Name) : Type 0 where
    known : ModulionsKnown g (modulion_of n kind items h closing)
    untold : Each Untold (sites_of_item (modulion_of n kind items h closing))
    sized : AreSized (part_nodes (item_parts (modulion_of n kind items h closing)))
    stands : Stand text from (definitions_in around from (part_nodes (item_parts (modulion_of n kind items h closing))))
    seen : AreSeen t r from (item_parts (modulion_of n kind items h closing))
    good : (body : ℕ) → IsGood text (OpenTo body None) r

  -- what stands in it may be named in it
  inner_ups : (n : Name) (kind : ModulionKind) (items : ItemNodes) (h : Option HandlerTree) (closing : Option Name) (around : Inside) (r : Reach) (from : ℕ) → ModulionPlaced around r from n kind items h closing → (body : ℕ) (d : ℕ) (x : Definition) → slice_get text d ≡ Some x
      → Up (with_predefined text) (suc from) (part_nodes (inner_parts items h)) d → OpenTo body (region_around s.rows (Modulion from)) d x
  inner_ups n modulions.Module items h closing around r from placed body d x at u =
      let parts = handler_parts [] (handler_node h) in
      let sized = placed.sized.0.1 in
      let untold = each_first Untold (sites_of_items modulions.Module items items) (sites_of_handler in_no_procedure (handler_node h)) placed.untold in
      let inner = inner_stands around from (sizes_of (part_nodes (inner_parts items h))) n false (inner_parts items h) placed.stands in
      let row = modulion_row n modulions.Module items around from (definitions_in (Modulion from) (suc from) (part_nodes (inner_parts items h)) ++ []) placed.known.0 placed.stands in
      let alone = module_alone s.rows from items row in
      let split = stand_both text (Modulion from) (suc from) (each_item items) parts (sized_first (each_item items) parts sized) inner in
      let gives = modulions_both (GivesOut s t inside_is defines_is elements) (suc from) (each_item items) parts
      (items_gives items modulions.Module items (Modulion from) (suc from) placed.known.1 untold (sized_first (each_item items) parts sized) split.0)
      (no_modulions (GivesOut s t inside_is defines_is elements) (suc from + sizes_of (part_nodes (each_item items))) parts (plain_modulions _ (handler_plain t (handler_node h)))) in
      open_more s text inside_is body (region_around s.rows (Modulion from)) d x
      (ups_out s t inside_is defines_is elements (Modulion from) (suc from) (part_nodes (inner_parts items h)) (λ e b y there is. subst (λ q. OpenTo b q e y) alone (open_directly s text inside_is from b e y there is)) sized inner gives d u x body at)
  inner_ups n modulions.Region items h closing around r from placed body d x at u =
      let inner = inner_stands around from (sizes_of (part_nodes (inner_parts items h))) n true (inner_parts items h) placed.stands in
      let row = modulion_row n modulions.Region items around from (definitions_in (Modulion from) (suc from) (part_nodes (inner_parts items h)) ++ []) placed.known.0 placed.stands in
      let known = region_known from items (handler_node h) row (each_first Untold (sites_of_items modulions.Region items items) (sites_of_handler in_no_procedure (handler_node h)) placed.untold) placed.sized.0.1 inner in
      open_directly s text inside_is from body d x at (stands_directly s t inside_is defines_is elements from items (handler_node h) known d x at (region_ups s t inside_is defines_is elements from items (handler_node h) known d u))

  inner_good : (n : Name) (kind : ModulionKind) (items : ItemNodes) (h : Option HandlerTree) (closing : Option Name) (around : Inside) (r : Reach) (from : ℕ) → ModulionPlaced around r from n kind items h closing → (body : ℕ) → IsGood text (OpenTo body (region_around s.rows (Modulion from))) (in_modulion r (suc from) (part_nodes (inner_parts items h)))
  inner_good n kind items h closing around r from placed body =
      let region = region_around s.rows (Modulion from) in
      modulion_good text (OpenTo body region) r (suc from) (part_nodes (inner_parts items h)) (inner_ups n kind items h closing around r from placed body)
      (λ d x at seen. open_more s text inside_is body region d x (placed.good body d x at seen))

  modulion_by : (n : Name) (kind : ModulionKind) (items : ItemNodes) (h : Option HandlerTree) (closing : Option Name) (around : Inside) (r : Reach) (from : ℕ) (region : Option ℕ) → ModulionPlaced around r from n kind items h closing
      → (IsModulionRow s.rows from kind items → Stand text (suc from) (definitions_in (Modulion from) (suc from) (part_nodes (each_item items))) → AreSeen t (in_modulion r (suc from) (part_nodes (inner_parts items h))) (suc from) (each_item items)
      → ((body : ℕ) → IsGood text (OpenTo body (region_around s.rows (Modulion from))) (in_modulion r (suc from) (part_nodes (inner_parts items h)))) → AreItemsReached s (region_around s.rows (Modulion from)) items) → IsItemReached s region (modulion_of n kind items h closing)
  modulion_by n kind items h closing around r from region placed inside =
      let parts = handler_parts [] (handler_node h) in
      let ps = inner_parts items h in
      let k = in_modulion r (suc from) (part_nodes ps) in
      let next = suc from + sizes_of (part_nodes (each_item items)) in
      let front = sized_first (each_item items) parts placed.sized.0.1 in
      let row = modulion_row n kind items around from (definitions_in (Modulion from) (suc from) (part_nodes ps) ++ []) placed.known.0 placed.stands in
      let split = stand_both text (Modulion from) (suc from) (each_item items) parts front (inner_stands around from (sizes_of (part_nodes ps)) n (is_region kind) ps placed.stands) in
      let seen = seen_both t k (suc from) (each_item items) parts placed.seen.0 in
      let good = inner_good n kind items h closing around r from placed in
      let inner = region_around s.rows (Modulion from) in
      let outer = outermost_body s.rows from kind items row in
      let walked = handler_walked t (OpenTo 0 inner) (handler_node h) in_no_procedure [] in (
        inner,
        (
          (λ d number. ap (λ e. region_in (thing_of s.rows e)) (routine_number around from n kinds.Modulion (definitions_in (Modulion from) (suc from) (part_nodes ps) ++ []) d placed.stands number)),
          (inside row split.0 seen.0 good, sites_within 0 inner (sites_of_handler in_no_procedure (handler_node h)) (walked.names (Modulion from) k next (record { fits = fits_modulion s text inside_is from outer; good = good 0; stands = split.1; seen = seen.1 }))),
        ),
      )

  mutual
    item_within : (i : ItemTree) (kind : ModulionKind) (every : ItemNodes) (m : ℕ) (r : Reach) (from : ℕ) → ItemPlaced kind every m r from i → IsItemReached s (region_around s.rows (Modulion m)) i
    item_within (local_item l) kind every m r from placed =
        let region = region_around s.rows (Modulion m) in
        let walked = local_walked t (OpenTo 0 region) true l in
        sites_within 0 region (sites_of_local true l) (walked.names (Modulion m) r from (record { fits = fits_modulion s text inside_is m (outermost_body s.rows m kind every placed.row); good = placed.good 0; stands = placed.stands; seen = placed.seen }))
    item_within (action x) kind every m r from placed =
        let region = region_around s.rows (Modulion m) in
        let walked = statement_walked t (OpenTo 0 region) x in_no_procedure [] in
        sites_within 0 region (sites_of in_no_procedure x) (walked.names (Modulion m) r from (record { fits = fits_modulion s text inside_is m (outermost_body s.rows m kind every placed.row); good = placed.good 0; stands = placed.stands; seen = placed.seen }))
    item_within (procedure p) kind every m r from placed = procedure_within kind every m r from p placed
    item_within (process p) kind every m r from placed = process_within kind every m r from p placed
    item_within (modulion_of n own items h closing) kind every m r from placed =
        let alone = in_module kind every m true placed.row (modulion_module kind every n own items h closing placed.clean) in
        let untold = each_first Untold (sites_of_items own items items) (sites_of_handler in_no_procedure (handler_node h)) placed.untold in
        let front = sized_first (each_item items) (handler_parts [] (handler_node h)) placed.sized.0.1 in
        modulion_by n own items h closing (Modulion m) r from (region_around s.rows (Modulion m)) (record {
          known = placed.known;
          untold = placed.untold;
          sized = placed.sized;
          stands = placed.stands;
          seen = placed.seen;
          good = λ body. subst (λ q. IsGood text (OpenTo body q) r) alone (placed.good body);
        }) (λ row stands seen good. items_within items own items from (in_modulion r (suc from) (part_nodes (inner_parts items h))) (suc from) row placed.known.1 untold front stands seen good)
    item_within (signals at ss) kind every m r from placed = tt
    item_within (seize_item at w) kind every m r from placed = tt
    item_within (grant_item at w) kind every m r from placed = tt

    items_within : (is : ItemNodes) (kind : ModulionKind) (every : ItemNodes) (m : ℕ) (r : Reach) (from : ℕ) → IsModulionRow s.rows m kind every → EachModulionKnown g is → Each Untold (sites_of_items kind every is) → AreSized (part_nodes (each_item is)) → Stand text from (definitions_in (Modulion m) from (part_nodes (each_item is)))
        → AreSeen t r from (each_item is) → ((body : ℕ) → IsGood text (OpenTo body (region_around s.rows (Modulion m))) r) → AreItemsReached s (region_around s.rows (Modulion m)) is
    items_within no_items kind every m r from row known untold sized stands seen good = tt
    items_within (more_items i is) kind every m r from row known untold sized stands seen good =
        let front = sized_first (item_parts i) (each_item is) sized in
        let split = stand_both text (Modulion m) from (item_parts i) (each_item is) front stands in
        let both = seen_both t r from (item_parts i) (each_item is) seen in (
          item_within i kind every m r from (record { row = row; clean = untold.0; known = known.0; untold = each_first Untold (sites_of_item i) (sites_of_items kind every is) untold.1; sized = front; stands = split.0; seen = both.0; good = good }),
          items_within is kind every m r (from + sizes_of (part_nodes (item_parts i))) row known.1 (each_later Untold (at_item kind every i ∷ sites_of_item i) (sites_of_items kind every is) untold) (sized_later (item_parts i) (each_item is) sized) split.1 both.1 good,
        )

  modulion_within : (n : Name) (kind : ModulionKind) (items : ItemNodes) (h : Option HandlerTree) (closing : Option Name) (around : Inside) (r : Reach) (from : ℕ) (region : Option ℕ) → ModulionPlaced around r from n kind items h closing → IsItemReached s region (modulion_of n kind items h closing)
  modulion_within n kind items h closing around r from region placed =
      let untold = each_first Untold (sites_of_items kind items items) (sites_of_handler in_no_procedure (handler_node h)) placed.untold in
      let front = sized_first (each_item items) (handler_parts [] (handler_node h)) placed.sized.0.1 in
      modulion_by n kind items h closing around r from region placed
      (λ row stands seen good. items_within items kind items from (in_modulion r (suc from) (part_nodes (inner_parts items h))) (suc from) row placed.known.1 untold front stands seen good)

  -- ---- the program

  abbrev parts_of : List ModulionTree → List PartTree
  parts_of ms = flat_map (λ m. item_parts (modulion_item m)) ms

  modulions_give : (ms : List ModulionTree) (from : ℕ) → Each (ModulionsKnown g) (map modulion_item ms) → Each Untold (flat_map sites_of_item (map modulion_item ms)) → AreSized (part_nodes (parts_of ms)) → Stand text from (definitions_in Outermost from (part_nodes (parts_of ms))) → Gives from (parts_of ms)
  modulions_give [] from known untold sized stands = tt
  modulions_give (m ∷ ms) from known untold sized stands =
      let own = item_parts (modulion_item m) in
      let rest = flat_map sites_of_item (map modulion_item ms) in
      let front = sized_first own (parts_of ms) sized in
      let split = stand_both text Outermost from own (parts_of ms) front stands in
      modulions_both (GivesOut s t inside_is defines_is elements) from own (parts_of ms) (item_gives (modulion_item m) Outermost from known.0 (each_first Untold (sites_of_item (modulion_item m)) rest untold) front split.0)
      (modulions_give ms (from + sizes_of (part_nodes own)) known.1 (each_later Untold (sites_of_item (modulion_item m)) rest untold) (sized_later own (parts_of ms) sized) split.1)

  modulions_within : (ms : List ModulionTree) (r : Reach) (from : ℕ) → Each (ModulionsKnown g) (map modulion_item ms) → Each Untold (flat_map sites_of_item (map modulion_item ms)) → AreSized (part_nodes (parts_of ms)) → Stand text from (definitions_in Outermost from (part_nodes (parts_of ms))) → AreSeen t r from (parts_of ms)
      → ((body : ℕ) → IsGood text (OpenTo body None) r) → Each (IsItemReached s None) (map modulion_item ms)
  modulions_within [] r from known untold sized stands seen good = tt
  modulions_within (m ∷ ms) r from known untold sized stands seen good =
      let own = item_parts (modulion_item m) in
      let rest = flat_map sites_of_item (map modulion_item ms) in
      let front = sized_first own (parts_of ms) sized in
      let split = stand_both text Outermost from own (parts_of ms) front stands in
      let both = seen_both t r from own (parts_of ms) seen in (
        modulion_within m.name m.kind _ m.handler m.closing Outermost r from None (record { known = known.0; untold = each_first Untold (sites_of_item (modulion_item m)) rest untold; sized = front; stands = split.0; seen = both.0; good = good }),
        modulions_within ms r (from + sizes_of (part_nodes own)) known.1 (each_later Untold (sites_of_item (modulion_item m)) rest untold) (sized_later own (parts_of ms) sized) split.1 both.1 good,
      )

  all_within : Each Untold (sites t) → Each (ModulionsKnown g) (items_of t) → Each (IsItemReached s None) (items_of t)
  all_within untold known =
      let sized = program_sized t in
      let stands : Stand text 0 (definitions_in Outermost 0 (level_of t)) = λ k e x at same. (ap (slice_get text) (let back : e ≡ k = omega (arith, same) in back) ∙ at) in
      let gives = modulions_give t.modulions 0 known untold.1.1 sized stands in
      let good : (body : ℕ) → IsGood text (OpenTo body None) (outermost (level_of t)) = λ body.
      outermost_good text (OpenTo body None) (level_of t)
      (λ d x at u. ups_out s t inside_is defines_is elements Outermost 0 (level_of t) (λ e b y there is. open_outermost s text inside_is b e y there is) sized stands gives d u x body at) in
      modulions_within t.modulions (outermost (level_of t)) 0 known untold.1.1 sized stands (program_seen bytes t has) good

pub reached : ReachedLaw
reached bytes t g has is untold known = all_within bytes t g has is untold known
