-- What modulions give may be named outside all regions.
use Rattle.std.proofs.Common.{◌≡◌, ℕ, zero, suc, ◌-◌, Bool, true, false, ◌&&◌, List, [], ◌∷◌, ◌++◌, Option, Some, None, inl, inr, refl, sym, ap, ◌∙◌, subst, true≢false, arith, Contains, IsTrue}
use Rattle.std.specs.Prelude.{is_some, slice_get}
use Rattle.std.specs.List.{list_any}
use Rattle.std.proofs.lemmas.List.Elements.{Contains-append_cases}
use Rattle.chill_base.specs.declared.pos.Pos.{Pos}
use Rattle.chill_tree.specs.declared.tree.name.Name.{Name}
use Rattle.chill_tree.specs.declared.tree.item.ModulionKind.TheVariants as modulions
use Rattle.chill_tree.specs.StatementTree.{HandlerNode}
use Rattle.chill_tree.specs.ItemTree.{ProcedureTree, ItemNodes, items_in, ProgramTree}
use Rattle.names_model.specs.declared.identifier.Identifier.{Identifier}
use Rattle.names_model.specs.declared.kind.Kind.TheVariants as kinds
use Rattle.names_model.specs.declared.definition.Inside.{Inside}
use Rattle.names_model.specs.declared.definition.Inside.TheVariants.{Modulion}
use Rattle.names_model.specs.declared.definition.Definition.{Definition}
use Rattle.names_model.specs.Identifiers.{identifier}
use Rattle.names_model.specs.Kinds as kind_tests
use Rattle.names_model.specs.Parts.{PartTree, PartNodes, grant, grant_all, parts_in, part_nodes}
use Rattle.names_model.specs.Definitions.{numbers_on, text_definitions, with_predefined, predefined, definitions_in, spelling_at, spelling_of, elements_at, elements_of, is_kind_at, is_of, kind_of}
use Rattle.names_model.specs.Entries.{own_numbers}
use Rattle.names_model.specs.ItemParts.{each_item}
use Rattle.names_model.specs.StatementParts.{handler_parts}
use Rattle.names_model.specs.Resolving.{level_of}
use Rattle.names_laws.specs.Visible.{Up}
use Rattle.names_laws.proofs.Seen.{numbers_in}
use Rattle.ground_laws.specs.Defining.{Defines}
use Rattle.checks_model.specs.Ground.{Origin, a_location, a_procedure}
use Rattle.checks_model.specs.Told.{holds_of}
use Rattle.checks_model.specs.ProcessRules.{declares}
use Rattle.elaborated_laws.proofs.Told.{no_some, not_broken}
use Rattle.written_laws.specs.Written.{Each}
use Rattle.written_laws.proofs.Shown.{each_append}
use Rattle.written_laws.proofs.Rows.{AreSized}
use Rattle.elaboration_model.specs.Numbering.{Source, Row, is_location, no_thing, thing_by, thing_of}
use Rattle.elaboration_model.specs.Elaborated.{region_in, region_around, modulion_around, grants, grants_in, is_critical}
use Rattle.reached_laws.specs.Reached.{IsPassed}
use Rattle.reached_laws.proofs.Upward.{up_between}
use Rattle.reached_laws.proofs.Standing.{ArePlain, Stand, owns_inside, there, parts_long}
use Rattle.reached_laws.proofs.Elements.{GoElements, goes_element}
use Rattle.reached_laws.proofs.Reaches.{AreGiven, ups_good, all_given}
use Rattle.reached_laws.proofs.Owned.{parts_back, Modulions, modulion_so, NoModulion, no_modulions, GrantsNothing, plain_modulions, plain_grants, nothing_granted, no_all_granted, owns_named, DefinesSo}
use Rattle.reached_laws.proofs.Grants.{AreQuiet, items_grant, items_grant_all, AreClean, items_granted_name, Declared, no_element, items_declared}
use Rattle.reached_laws.proofs.Places.{IsModulionRow, module_alone, Open, open_directly, open_passed}

module _ (s : Source) (t : ProgramTree)
    (inside : (d : ℕ) (r : Row) (x : Definition) → slice_get s.rows d ≡ Some r → slice_get (text_definitions (level_of t)) d ≡ Some x → r.inside ≡ x.inside)
    (defines : (d : ℕ) (r : Row) (x : Definition) → slice_get s.rows d ≡ Some r → slice_get (text_definitions (level_of t)) d ≡ Some x → Defines r.origin x) (elements : GoElements (text_definitions (level_of t))) where
  abbrev text : List Definition
  text = text_definitions (level_of t)

  abbrev all : List Definition
  all = with_predefined text

  -- it may be named in any body, and outside all regions
  abbrev pub IsOut : ℕ → Type 0
  IsOut d = (x : Definition) (body : ℕ) → slice_get text d ≡ Some x → Open s text inside body None d x

  -- ---- kinds

  location_kind : (o : Origin) (x : Definition) → Defines o x → is_location o ≡ true → kind_tests.is_location x.kind ≡ true
  location_kind (a_location l) x is located = ap kind_tests.is_location is.0
  location_kind o x is located = absurd (true≢false (sym located))

  in_all : (ds es : List Definition) (d : ℕ) (x : Definition) → slice_get ds d ≡ Some x → slice_get (ds ++ es) d ≡ Some x
  in_all [] es d x at = no_some x at
  in_all (y ∷ ds) es zero x at = at
  in_all (y ∷ ds) es (suc d) x at = in_all ds es d x at

  at_all : (d : ℕ) (x : Definition) → slice_get text d ≡ Some x → slice_get all d ≡ Some x
  at_all d x at = in_all text predefined d x at

  not_either : (b : Bool) → (b ≡ true → ⊥) → b ≡ false
  not_either true none = absurd (none refl)
  not_either false none = refl

  -- ---- regions

  -- a region of a number with its items: what it defines directly stands in it
  -- a procedure that a region grants is critical
  granted_critical : (m : ℕ) (items : ItemNodes) (r : Row) (k : ℕ) (n : Name) → IsModulionRow s.rows m modulions.Region items → r.inside ≡ Modulion m → region_around s.rows r.inside ≡ Some k → list_any (grants n) (items_in items) ≡ true → is_critical s.rows r n ≡ true
  granted_critical m items r k n row place region given = by (slice_get s.rows m) refl
    where
      region_is : is_some (region_around s.rows r.inside) ≡ true
      region_is = ap is_some region

      left : (b : Bool) → b ≡ true → (is_some (region_around s.rows r.inside) && b) ≡ true
      left b is = ap (λ a. a && b) region_is ∙ is

      none_in_region : (o : Option Row) → slice_get s.rows m ≡ o → o ≡ None → ⊥
      none_in_region o at none = no_some k (sym (ap region_in (thing_none (at ∙ none))) ∙ (sym (ap (region_around s.rows) place) ∙ region))
        where
          thing_none : slice_get s.rows m ≡ None → thing_of s.rows m ≡ no_thing
          thing_none none = ap (λ x. thing_by s.rows m x) none

      by : (o : Option Row) → slice_get s.rows m ≡ o → is_critical s.rows r n ≡ true
      by None at = absurd (none_in_region None at refl)
      by (Some q) at =
          left (holds_of (λ (x : Row). grants_in n x.origin) (modulion_around s.rows r.inside))
          (ap (λ i. holds_of (λ (x : Row). grants_in n x.origin) (modulion_around s.rows i)) place ∙ (ap (holds_of (λ (x : Row). grants_in n x.origin)) at ∙ (ap (grants_in n) (row q at) ∙ given)))

  -- ---- a region

  pub record RegionKnown (m : ℕ) (items : ItemNodes) (h : HandlerNode) : Type 0 where
    pub row : IsModulionRow s.rows m modulions.Region items
    pub clean : AreClean items items
    pub quiet : AreQuiet items
    pub plain : ArePlain (part_nodes (handler_parts [] h))
    pub alone : Each NoModulion (each_item items)
    pub sized : AreSized (part_nodes (each_item items ++ handler_parts [] h))
    pub stands : Stand text (suc m) (definitions_in (Modulion m) (suc m) (part_nodes (each_item items ++ handler_parts [] h)))

  module _ (m : ℕ) (items : ItemNodes) (h : HandlerNode) (known : RegionKnown m items h) where
    abbrev inner : List PartTree
    inner = each_item items ++ handler_parts [] h

    abbrev Directly : ℕ → Type 0
    Directly d = Contains (own_numbers (suc m) (part_nodes inner)) d

    -- a region has what it defines directly alone
    pub region_ups : (d : ℕ) → Up all (suc m) (part_nodes inner) d → Directly d
    region_ups d u =
        ups_good text Directly (suc m) (part_nodes inner) (λ e c. c)
        (λ number region parts has. absurd (modulion_so (λ a b c. ⊥) has (no_modulions (λ a b c. ⊥) (suc m) inner (each_append NoModulion (each_item items) (handler_parts [] h) known.alone (plain_modulions (handler_parts [] h) known.plain))))) d u

    pub stands_directly : (d : ℕ) (x : Definition) → slice_get text d ≡ Some x → Directly d → x.inside ≡ Modulion m
    stands_directly d x at c = owns_inside text (Modulion m) (suc m) (part_nodes inner) d x known.sized known.stands c at

    granted_in : (p : PartTree) → ((ps : List PartTree) → Each GrantsNothing ps → ¬ (Contains ps p)) → Contains (parts_in (part_nodes inner)) p → Contains (each_item items) p
    granted_in p nothing c = elim (Contains-append_cases (each_item items) (handler_parts [] h) p (subst (λ ps. Contains ps p) (parts_back inner) c)) [
      | inl here ↦ here
      | inr there ↦ absurd (nothing (handler_parts [] h) (plain_grants (handler_parts [] h) known.plain) there)
    ]

    -- what is granted by name is no location
    not_located : (d : ℕ) (x : Definition) (n : Identifier) → slice_get text d ≡ Some x → Directly d → Contains (each_item items) (grant n) → x.name.spelling ≡ n.spelling → kind_tests.is_location x.kind ≡ false
    not_located d x n at c there same =
        let g = items_granted_name items items n known.clean known.quiet there in
        let C : Type 0 = list_any (declares g.name) (items_in items) ≡ true in
        let so = items_declared text g.name C items items known.clean (λ is. is) in
        let rest : Each (DefinesSo text (Declared text g.name C) (no_element text g.name C)) (handler_parts [] h) = handler_declares g.name C h in
        let whole = each_append (DefinesSo text (Declared text g.name C) (no_element text g.name C)) (each_item items) (handler_parts [] h) so rest in
        let own = owns_named text (Declared text g.name C) (no_element text g.name C) (Modulion m) (suc m) inner d x whole known.sized known.stands c at in
        not_either (kind_tests.is_location x.kind) (λ located. true≢false (sym (own located (same ∙ sym g.same)) ∙ not_broken (list_any (declares g.name) (items_in items)) _ g.told))
      where
        handler_declares : (k : Name) (C : Type 0) (h : HandlerNode) → Each (DefinesSo text (Declared text k C) (no_element text k C)) (handler_parts [] h)
        handler_declares k C HandlerNode.no_handler = tt
        handler_declares k C (HandlerNode.handler at as' o) = (tt, tt)

    passed_by : (d : ℕ) (x : Definition) (r : Row) (k : ℕ) → slice_get s.rows d ≡ Some r → slice_get text d ≡ Some x → r.inside ≡ Modulion m → region_around s.rows r.inside ≡ Some k → kind_tests.is_location x.kind ≡ false → ((p : ProcedureTree) → r.origin ≡ a_procedure p → list_any (grants p.name) (items_in items) ≡ true) → IsPassed s r
    passed_by d x r k row at place region other given = (
      not_either (is_location r.origin) (λ located. true≢false (sym (location_kind r.origin x (defines d r x row at) located) ∙ other)),
      λ p is. granted_critical m items r k p.name known.row place region (given p is),
    )

    procedure_name : (d : ℕ) (x : Definition) (r : Row) (p : ProcedureTree) → slice_get s.rows d ≡ Some r → slice_get text d ≡ Some x → r.origin ≡ a_procedure p → (x.kind ≡ kinds.Procedure) × (x.name ≡ identifier p.name)
    procedure_name d x r p row at is = subst (λ o. Defines o x) is (defines d r x row at)

    by_name_out : (d : ℕ) (n : Identifier) → Contains (parts_in (part_nodes inner)) (grant n) → spelling_at all d ≡ n.spelling → Directly d → IsOut d
    by_name_out d n there spelled c x body at =
        let item = granted_in (grant n) (λ ps none. nothing_granted ps n none) there in
        let same : x.name.spelling ≡ n.spelling = sym (ap spelling_of (at_all d x at)) ∙ spelled in
        open_passed s text inside m body d x at (stands_directly d x at c)
        (λ r row k region place. passed_by d x r k row at place region (not_located d x n at c item same)
        (λ p is. items_grant items n p.name (sym (ap (λ (i : Identifier). i.spelling) (procedure_name d x r p row at is).1) ∙ same) known.quiet item))

    with_all_out : (d : ℕ) (p : Pos) → Contains (parts_in (part_nodes inner)) (grant_all p) → Directly d → ¬ (IsTrue true × IsTrue (is_kind_at kind_tests.is_location all d)) → IsOut d
    with_all_out d p there c none x body at =
        let item = granted_in (grant_all p) (λ ps nothing. no_all_granted ps p nothing) there in
        let kind_is : is_kind_at kind_tests.is_location all d ≡ kind_tests.is_location x.kind = ap (λ y. is_of kind_tests.is_location (kind_of y)) (at_all d x at) in
        open_passed s text inside m body d x at (stands_directly d x at c)
        (λ r row k region place. passed_by d x r k row at place region (not_either (kind_tests.is_location x.kind) (λ located. none (refl, kind_is ∙ located))) (λ q is. items_grant_all items p q.name known.quiet item))

    along_out : (d mode : ℕ) → Up all (suc m) (part_nodes inner) mode → Contains (elements_at all mode) d → Directly d → IsOut d
    along_out d mode um element c x body at =
        open_passed s text inside m body d x at (stands_directly d x at c)
        (λ r row k region place. passed_by d x r k row at place region (ap kind_tests.is_location is_element) (λ p is. absurd (not_procedure (sym is_element ∙ (procedure_name d x r p row at is).0))))
      where
        not_procedure : kinds.Element ≡ kinds.Procedure → ⊥
        not_procedure is = true≢false (sym (ap kind_tests.is_called is))

        is_element : x.kind ≡ kinds.Element
        is_element =
            let is = up_between all um known.sized in
            let low = is.above in
            let high = is.below in
            let long = parts_long (Modulion m) (suc m) (part_nodes inner) known.sized in
            let y = there text (suc m) (definitions_in (Modulion m) (suc m) (part_nodes inner)) mode known.stands (record { above = low; below = omega (arith, high, long) }) in
            let count_is : elements_at all mode ≡ numbers_on (suc mode) y.0.elements = ap (λ o. numbers_on (suc mode) (elements_of o)) (at_all mode y.0 y.1) in
            let near = numbers_in y.0.elements (suc mode) d (subst (λ ns. Contains ns d) count_is element) in
            let first = near.0 in
            let last = near.1 in
            goes_element text mode d y.0 x (d - suc mode) elements y.1 (omega (arith, first, last)) (omega (arith, first)) at

    pub region_gives : AreGiven text IsOut m true (part_nodes inner)
    region_gives = record {
      by_name_alone = λ d n there e u. by_name_out d n there e (region_ups d u);
      going_along = λ d mode um element u. along_out d mode um element (region_ups d u);
      with_all = λ d p there c none. with_all_out d p there c none;
    }

  -- ---- modulions

  -- what a modulion gives may be named outside all regions
  abbrev pub GivesOut : ℕ → Bool → PartNodes → Type 0
  GivesOut number region inner = AreGiven text IsOut number region inner

  -- so may all that parts have from themselves, where what they define directly may
  pub ups_out : (i : Inside) (from : ℕ) (ps : PartNodes) → ((d body : ℕ) (x : Definition) → slice_get text d ≡ Some x → x.inside ≡ i → Open s text inside body None d x) → AreSized ps → Stand text from (definitions_in i from ps) → Modulions GivesOut from ps → (d : ℕ) → Up all from ps d → IsOut d
  ups_out i from ps directly sized stands gives d u =
      ups_good text IsOut from ps (λ e c x body at. directly e body x at (owns_inside text i from ps e x sized stands c at)) (λ number region inner has. modulion_so GivesOut has gives) d u

  pub module_gives : (m : ℕ) (items : ItemNodes) (inner : PartNodes) → IsModulionRow s.rows m modulions.Module items → AreSized inner → Stand text (suc m) (definitions_in (Modulion m) (suc m) inner) → Modulions GivesOut (suc m) inner → AreGiven text IsOut m false inner
  module_gives m items inner row sized stands gives =
      let alone = module_alone s.rows m items row in
      all_given text IsOut m false inner (ups_out (Modulion m) (suc m) inner (λ d body x at is. subst (λ r. Open s text inside body r d x) alone (open_directly s text inside m body d x at is)) sized stands gives)
