-- What stands for what it has to, and of which P3 isn't told, is well named.
use Rattle.std.proofs.Common.{◌≡◌, Bool, true, false, List, [], ◌∷◌, ◌++◌, Option, Some, None, refl, sym, ap, ◌∙◌, subst, true≢false}
use Rattle.std.specs.Prelude.{flat_map}
use Rattle.chill_tree.specs.declared.tree.name.Name.{Name}
use Rattle.chill_tree.specs.ExprTree.{ExprTree, ExprNodes, RangeTree, RangeNodes, whole, character, text, this_instance, paren, receive, start, tuple, uniform, name, apply, field, prefixed, binary, no_exprs, more_exprs, alone, between, no_ranges, more_ranges}
use Rattle.diagnostics.specs.declared.diagnostic.Diagnostic.{Diagnostic}
use Rattle.checks_model.specs.Ground.{Ground}
use Rattle.checks_model.specs.ProcessRules.{for_messages, told_misfit, told_priority, told_set, told_local}
use Rattle.checks_model.specs.Constants.{constant_of}
use Rattle.checks_model.specs.Sites.{Site, at_item, at_synonym, at_mode_definition, at_declaration, at_mode, at_simple, at_condition, at_selector, at_labels, at_control, at_set, at_priority, at_event, at_source, at_received, at_exceptions, at_body, at_program}
use Rattle.checks_model.specs.Phases.{some_expr, exprs_of_simple, priority_of, exprs_of_control, exprs_of_labels, exprs_of_mode, exprs_of_some_mode, initial_expr, sources_in, sources_in_each, sources_in_range, sources_in_ranges, told_met, told_some_met, told_of_some_priority, told_met_by, processes_told_at}
use Rattle.written_laws.specs.Written.{Each, HasNamed, exprs_at}
use Rattle.written_laws.proofs.Shown.{each_append}
use Rattle.elaborated_laws.specs.Classes.{HasShortTexts}
use Rattle.elaborated_laws.proofs.Told.{none_first, none_later, none_inside}
use Rattle.expression_laws.specs.Names.{MayStand, IsMet, StandsBy, EachStandsBy, RangeStandsBy, RangesStandBy, Stands, EachStands, RangeStands, RangesStand, IsWellNamed}
use Rattle.expression_laws.specs.Named.{ExprNamed, IsNodeNamed, WellNamedLaw}
use Rattle.expression_laws.proofs.Actions.{flat_both}

-- ---- expressions

abbrev AreMet : Ground → List Name → Type 0
AreMet g ns = flat_map (told_misfit g for_messages) ns ≡ []

met_first : (g : Ground) (ns ks : List Name) → AreMet g (ns ++ ks) → AreMet g ns
met_first g ns ks none = none_first (flat_map (told_misfit g for_messages) ns) (flat_map (told_misfit g for_messages) ks) (sym (flat_both (told_misfit g for_messages) ns ks) ∙ none)

met_later : (g : Ground) (ns ks : List Name) → AreMet g (ns ++ ks) → AreMet g ks
met_later g ns ks none = none_later (flat_map (told_misfit g for_messages) ns) (flat_map (told_misfit g for_messages) ks) (sym (flat_both (told_misfit g for_messages) ns ks) ∙ none)

may_more : {X Y : Type 0} (g : Ground) (b : Bool) (e : ExprTree) → (X → Y) → MayStand g b e X → MayStand g b e Y
may_more g true (name n) f stands = stands
may_more g true e f stands = f stands
may_more g false e f stands = f stands

mutual
  stands_met : (g : Ground) (e : ExprTree) → StandsBy (λ n. Unit {0}) g e → AreMet g (sources_in e) → Stands g e
  stands_met g (whole at n) stands none = tt
  stands_met g (character at n) stands none = tt
  stands_met g (text at n) stands none = tt
  stands_met g (this_instance at) stands none = tt
  stands_met g (paren at e) stands none = stands_met g e stands none
  stands_met g (receive at n) stands none = (stands.0, none_first (told_misfit g for_messages n) [] none)
  stands_met g (start at n es) stands none = (stands.0, each_met g false es stands.1 none)
  stands_met g (tuple at n b rs) stands none = ranges_met g rs stands none
  stands_met g (uniform at n b e) stands none = stands_met g e stands none
  stands_met g (name n) stands none = stands
  stands_met g (apply at e es) stands none = (stands_met g e stands.0 (met_first g (sources_in e) (sources_in_each es) none), each_met g _ es stands.1 (met_later g (sources_in e) (sources_in_each es) none))
  stands_met g (field at e n) stands none = stands_met g e stands none
  stands_met g (prefixed at o e) stands none = stands_met g e stands none
  stands_met g (binary at l o p r) stands none = (stands_met g l stands.0 (met_first g (sources_in l) (sources_in r) none), stands_met g r stands.1 (met_later g (sources_in l) (sources_in r) none))

  each_met : (g : Ground) (b : Bool) (es : ExprNodes) → EachStandsBy (λ n. Unit {0}) g b es → AreMet g (sources_in_each es) → EachStands g b es
  each_met g b no_exprs stands none = tt
  each_met g b (more_exprs e es) stands none =
      (may_more g b e (λ own. stands_met g e own (met_first g (sources_in e) (sources_in_each es) none)) stands.0, each_met g b es stands.1 (met_later g (sources_in e) (sources_in_each es) none))

  range_met : (g : Ground) (r : RangeTree) → RangeStandsBy (λ n. Unit {0}) g r → AreMet g (sources_in_range r) → RangeStands g r
  range_met g (alone e) stands none = stands_met g e stands none
  range_met g (between l h) stands none = (stands_met g l stands.0 (met_first g (sources_in l) (sources_in h) none), stands_met g h stands.1 (met_later g (sources_in l) (sources_in h) none))

  ranges_met : (g : Ground) (rs : RangeNodes) → RangesStandBy (λ n. Unit {0}) g rs → AreMet g (sources_in_ranges rs) → RangesStand g rs
  ranges_met g no_ranges stands none = tt
  ranges_met g (more_ranges r rs) stands none = (range_met g r stands.0 (met_first g (sources_in_range r) (sources_in_ranges rs) none), ranges_met g rs stands.1 (met_later g (sources_in_range r) (sources_in_ranges rs) none))

-- ---- nodes

abbrev ExprsMet : Ground → List ExprTree → Type 0
ExprsMet g es = Each (λ e. told_met g e ≡ []) es

exprs_met : (g : Ground) (es : List ExprTree) → flat_map (told_met g) es ≡ [] → ExprsMet g es
exprs_met g [] none = tt
exprs_met g (e ∷ es) none = (none_first (told_met g e) (flat_map (told_met g) es) none, exprs_met g es (none_later (told_met g e) (flat_map (told_met g) es) none))

some_met : (g : Ground) (e : Option ExprTree) → told_some_met g e ≡ [] → ExprsMet g (some_expr e)
some_met g None none = tt
some_met g (Some e) none = (none, tt)

priority_met : (g : Ground) (e : Option ExprTree) → told_of_some_priority g e ≡ [] → ExprsMet g (some_expr e)
priority_met g None none = tt
priority_met g (Some e) none = (none_inside (told_met g e) (told_priority g (constant_of g) e) none, tt)

node_met : (g : Ground) (n : Site) → processes_told_at g n ≡ [] → ExprsMet g (exprs_at n)
node_met g (at_synonym s) none = (none_later (flat_map (told_met g) (exprs_of_some_mode s.mode)) (told_met g s.value) none, tt)
node_met g (at_declaration true d) none = some_met g (initial_expr d.initial) (none_later (flat_map (told_met g) (exprs_of_mode d.mode)) (told_some_met g (initial_expr d.initial)) none)
node_met g (at_declaration false d) none = some_met g (initial_expr d.initial) (none_later (flat_map (told_local g) d.names ++ flat_map (told_met g) (exprs_of_mode d.mode)) (told_some_met g (initial_expr d.initial)) none)
node_met g (at_simple a s) none =
    let own = told_met_by g s in
    let exprs = flat_map (told_met g) (exprs_of_simple s) in
    let ranked = told_of_some_priority g (priority_of s) in
    each_append (λ e. told_met g e ≡ []) (exprs_of_simple s) (some_expr (priority_of s)) (exprs_met g (exprs_of_simple s) (none_later own exprs (none_first (own ++ exprs) ranked none))) (priority_met g (priority_of s) (none_later (own ++ exprs) ranked none))
node_met g (at_condition e) none = (none, tt)
node_met g (at_selector e) none = (none, tt)
node_met g (at_labels e ls) none = exprs_met g (exprs_of_labels ls) none
node_met g (at_control c) none = exprs_met g (exprs_of_control c) none
node_met g (at_set e) none = (none_inside (told_met g e) (told_set g e) none, tt)
node_met g (at_priority e) none = (none_inside (told_met g e) (told_priority g (constant_of g) e) none, tt)
node_met g (at_item kind all i) none = tt
node_met g (at_mode_definition d) none = tt
node_met g (at_mode m) none = tt
node_met g (at_event earlier n) none = tt
node_met g (at_source earlier n) none = tt
node_met g (at_received n names) none = tt
node_met g (at_exceptions earlier ns) none = tt
node_met g (at_body n locals) none = tt
node_met g (at_program shared) none = tt

exprs_well : (g : Ground) (es : List ExprTree) → Each (ExprNamed g) es → Each HasShortTexts es → Each HasNamed es → ExprsMet g es → Each (IsWellNamed g) es
exprs_well g [] named short paths none = tt
exprs_well g (e ∷ es) named short paths none = (
  record { short = short.0; paths = paths.0; tuples = named.0.0; stands = stands_met g e named.0.1 none.0 },
  exprs_well g es named.1 short.1 paths.1 none.1,
)

pub well_named : WellNamedLaw
well_named g n named short paths none = exprs_well g (exprs_at n) named.0 short paths (node_met g n none)
