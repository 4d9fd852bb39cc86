-- Where P8 is told of nothing no event and no buffer is declared in a body.
use Rattle.std.proofs.Common.{◌≡◌, ℕ, zero, suc, ◌+◌, Bool, true, false, List, [], ◌∷◌, ◌++◌, Option, Some, None, Contains, refl, sym, ap, ◌∙◌, subst, arith, true≢false}
use Rattle.std.specs.Prelude.{not, map, flat_map, slice_get, option_and_then}
use Rattle.chill_tree.specs.declared.tree.name.Name.{Name}
use Rattle.chill_tree.specs.ItemTree.{ProgramTree}
use Rattle.modes.specs.ModeTree.{ModeTree}
use Rattle.diagnostics.specs.declared.diagnostic.Diagnostic.{Diagnostic}
use Rattle.diagnostics.specs.declared.rule.Rule.TheVariants as rules
use Rattle.names_model.specs.NameRules.{tell}
use Rattle.names_model.specs.declared.identifier.Identifier.{Identifier}
use Rattle.names_model.specs.declared.definition.Definition.{Definition}
use Rattle.names_model.specs.declared.names.Resolved.{Resolved}
use Rattle.names_model.specs.Identifiers.{identifier}
use Rattle.names_model.specs.Kinds as kind_tests
use Rattle.names_model.specs.Definitions.{text_definitions, predefined, with_predefined}
use Rattle.names_model.specs.Resolving.{level_of}
use Rattle.names_laws.specs.Rising.{Rise, use_places, definition_places}
use Rattle.names_laws.proofs.Members.{here_in, later_in}
use Rattle.names_laws.proofs.RisingTokens.{rising_tokens}
use Rattle.names_laws.proofs.RisingDefinitions.{rising_definitions}
use Rattle.ground_laws.specs.Defining.{Defines, AllDefine}
use Rattle.ground_laws.proofs.Rows.{row_found}
use Rattle.ground_laws.proofs.Defining.{origins_define}
use Rattle.checks_model.specs.Ground.{Ground, Origin, Entry, a_location, number_at, entry_defined, mode_of_entry}
use Rattle.checks_model.specs.Origins.{origins_of}
use Rattle.checks_model.specs.Table.{numbered, ground_with, IsStatementGroundOf}
use Rattle.checks_model.specs.Told.{told_if, holds_of}
use Rattle.checks_model.specs.Diagnoses.{HasNames}
use Rattle.checks_model.specs.ProcessRules.{meeting_of, is_event_or_buffer, told_local}
use Rattle.checks_model.specs.Phases.{exprs_of_mode, initial_expr, told_met, told_some_met, processes_told_at}
use Rattle.checks_model.specs.Sites.{Site, at_declaration, sites}
use Rattle.written_laws.specs.Written.{Each}
use Rattle.elaborated_laws.proofs.Told.{none_first, none_later, not_broken, no_some, same_some}
use Rattle.elaboration_model.specs.Numbering.{Row, rows, is_direct, is_location}
use Rattle.elaboration_model.specs.Elaborated.{source_of}
use Rattle.expression_laws.specs.Placed.{MeetsOutside, MeetsOutsideLaw}
use Rattle.expression_laws.proofs.TextRows.{row_of, definition_there}
use Rattle.expression_laws.proofs.Declared.{DeclaredSo, IsLocalSo, text_so}

-- ---- definitions by their places

numbered_places : (k : ℕ) (ds : List Definition) → use_places (numbered k ds) ≡ definition_places ds
numbered_places k [] = refl
numbered_places k (d ∷ ds) = ap (λ ps. d.name.at ∷ ps) (numbered_places (suc k) ds)

abbrev row_to : Definition → ℕ → Resolved
row_to d k = record { at = d.name.at; to = k }

in_numbered : (from k : ℕ) (ds : List Definition) (d : Definition) → slice_get ds k ≡ Some d → Contains (numbered from ds) (row_to d (from + k))
in_numbered from k [] d at = no_some d at
in_numbered from zero (e ∷ ds) d at = here_in (row_to e from) (numbered (suc from) ds) (row_to d (from + zero)) (ap (λ x. row_to x from) (same_some e d at) ∙ ap (row_to d) (let same : from ≡ from + zero = omega arith in same))
in_numbered from (suc k) (e ∷ ds) d at =
    later_in (row_to e from) (numbered (suc from) ds) (row_to d (from + suc k))
    (subst (λ j. Contains (numbered (suc from) ds) (row_to d j)) (let same : suc from + k ≡ from + suc k = omega arith in same) (in_numbered (suc from) k ds d at))

-- the number of a definition stands with its place
pub defined_at : (bytes : List ℕ) (t : ProgramTree) (k : ℕ) (d : Definition) → HasNames bytes t → slice_get (text_definitions (level_of t)) k ≡ Some d → number_at (numbered 0 (text_definitions (level_of t))) d.name.at ≡ Some k
defined_at bytes t k d has at =
    let ds = text_definitions (level_of t) in
    let tokens = has.has_tree in
    let rise = rising_definitions tokens.tokens t (rising_tokens bytes tokens.tokens tokens.are) tokens.tree_of in
    row_found (numbered 0 ds) (row_to d k) (subst Rise (sym (numbered_places 0 ds)) rise) (subst (λ j. Contains (numbered 0 ds) (row_to d j)) (let same : 0 + k ≡ k = omega arith in same) (in_numbered 0 k ds d at))

-- ---- rows

-- what a row is made of
pub record RowParts (ds : List Definition) (os : List Origin) (es : List Entry) (k : ℕ) (r : Row) : Type 0 where
  pub definition : Definition
  pub is : slice_get ds k ≡ Some definition
  pub origin : slice_get os k ≡ Some r.origin
  pub entry : Entry
  pub has : slice_get es k ≡ Some entry
  pub inside : r.inside ≡ definition.inside
  pub mode : r.mode ≡ entry.mode

pub row_parts : (ds : List Definition) (os : List Origin) (es : List Entry) (k : ℕ) (r : Row) → slice_get (rows ds os es) k ≡ Some r → RowParts ds os es k r
row_parts [] os es k r at = no_some r at
row_parts (d ∷ ds) [] es k r at = no_some r at
row_parts (d ∷ ds) (o ∷ os) [] k r at = no_some r at
row_parts (d ∷ ds) (o ∷ os) (e ∷ es) zero r at =
    let same = same_some (row_of d o e) r at in
    record { definition = d; is = refl; origin = ap (λ (x : Row). Some x.origin) same; entry = e; has = refl; inside = sym (ap (λ (x : Row). x.inside) same); mode = sym (ap (λ (x : Row). x.mode) same) }
row_parts (d ∷ ds) (o ∷ os) (e ∷ es) (suc k) r at =
    let inner = row_parts ds os es k r at in
    record { definition = inner.definition; is = inner.is; origin = inner.origin; entry = inner.entry; has = inner.has; inside = inner.inside; mode = inner.mode }

pub among_both : (ds es : List Definition) (k : ℕ) (d : Definition) → slice_get ds k ≡ Some d → slice_get (ds ++ es) k ≡ Some d
among_both [] es k d at = no_some d at
among_both (x ∷ ds) es zero d at = at
among_both (x ∷ ds) es (suc k) d at = among_both ds es k d at

location_kind : (o : Origin) (d : Definition) → is_location o ≡ true → Defines o d → kind_tests.is_location d.kind ≡ true
location_kind (a_location l) d is defines = ap kind_tests.is_location defines.0
location_kind o d is defines = absurd (true≢false (sym is))

each_at : (P : Definition → Type 0) (ds : List Definition) (k : ℕ) (d : Definition) → Each P ds → slice_get ds k ≡ Some d → P d
each_at P [] k d all at = no_some d at
each_at P (x ∷ ds) zero d all at = subst P (same_some x d at) all.0
each_at P (x ∷ ds) (suc k) d all at = each_at P ds k d all.1 at

-- ---- P8

each_told : (g : Ground) (ns : List Name) → flat_map (told_local g) ns ≡ [] → Each (λ n. told_local g n ≡ []) ns
each_told g [] none = tt
each_told g (n ∷ ns) none = (none_first (told_local g n) (flat_map (told_local g) ns) none, each_told g ns (none_later (told_local g n) (flat_map (told_local g) ns) none))

site_declared : (g : Ground) (n : Site) → processes_told_at g n ≡ [] → DeclaredSo (λ n. told_local g n ≡ []) n
site_declared g (at_declaration false d) none =
    let own = flat_map (told_local g) d.names in
    let modes = flat_map (told_met g) (exprs_of_mode d.mode) in
    each_told g d.names (none_first own modes (none_first (own ++ modes) (told_some_met g (initial_expr d.initial)) none))
site_declared g n none = tt

sites_declared : (g : Ground) (ns : List Site) → Each (λ n. processes_told_at g n ≡ []) ns → Each (DeclaredSo (λ n. told_local g n ≡ [])) ns
sites_declared g [] all = tt
sites_declared g (n ∷ ns) all = (site_declared g n all.0, sites_declared g ns all.1)

pub meets_outside : MeetsOutsideLaw
meets_outside bytes t g has ground untold d r at location inner m mode =
    let ds = text_definitions (level_of t) in
    let own = row_parts ds g.origins g.entries d r at in
    let x = own.definition in
    let origin_at = sym (ap (λ (y : Ground). slice_get y.origins d) ground.names) ∙ own.origin in
    let made = definition_there (origins_of t) (with_predefined ds) d r.origin (origins_define t) origin_at in
    let same = same_some made.0 x (sym made.1.0 ∙ among_both ds predefined d x own.is) in
    let defines = subst (λ y. Defines r.origin y) same made.1.1 in
    let local = each_at (IsLocalSo (λ n. told_local g n ≡ [])) ds d x (text_so (λ n. told_local g n ≡ []) t (sites_declared g (sites t) untold)) own.is (location_kind r.origin x location defines) (ap is_direct (sym own.inside) ∙ inner) in
    let n = local.0 in
    let place_is : n.at ≡ x.name.at = ap (λ (i : Identifier). i.at) local.1.0 in
    let number_is : number_at g.defined n.at ≡ Some d = ap (λ (y : Ground). number_at y.defined n.at) ground.names ∙ (ap (number_at (numbered 0 ds)) place_is ∙ defined_at bytes t d x has own.is) in
    let mode_is : mode_of_entry (entry_defined g n) ≡ Some m = ap (λ k. mode_of_entry (option_and_then (slice_get g.entries) k)) number_is ∙ (ap mode_of_entry own.has ∙ (sym own.mode ∙ mode)) in
    sym (ap (holds_of (λ m. is_event_or_buffer (meeting_of m))) mode_is) ∙ not_broken (holds_of (λ m. is_event_or_buffer (meeting_of m)) (mode_of_entry (entry_defined g n))) (tell n.at rules.P8 n.text) local.1.1
