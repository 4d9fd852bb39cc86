use Rattle.std.proofs.Common.{◌≡◌, ◌++◌, ◌∙◌, ap, sym, rules, not, Some}
use Rattle.std.specs.Prelude.{Option}
use Rattle.chill_base.specs.declared.pos.Pos.{Pos}
use Rattle.chill_tree.specs.ExprTree.{ExprTree, expr_tree, boxed_expr, place_of}
use Rattle.chill_tree.specs.ModeTree as written
use Rattle.diagnostics.specs.declared.rule.Rule.TheVariants as told_rules
use Rattle.modes.specs.ModeTree.{ModeTree, int}
use Rattle.checks_model.specs.Ground.{mode_of_name}
use Rattle.checks_model.specs.Told.{tell_at, told_if, holds_of}
use Rattle.checks_model.specs.WrittenModes.{told_discrete_name, told_range, range_of, range_from, needed_number, has_index_values, mode_of_index, told_of_index, unless_told}
use Rattle.constant_operators.specs.Grounds.{ground_of}
use Rattle.written_modes.specs.Wholes.{tree_there, is_some_discrete}
use Rattle.written_modes.proofs.GateLemmas.{told_of_held, kept_of_held, kept_twice}
use Rattle.written_modes.proofs.written.index_mode.Goals as goal

pub returns-in_ok-few-in-Named-clause-mode : goal.returns-in_ok-few-in-Named-clause-mode
returns-in_ok-few-in-Named-clause-mode c = λ ground.
    let g = ground_of c.args.ground.now in
    let n = c.in-Named.name in
    let tree : written.index_tree c.args.index.now ≡ written.index_named n = ap written.index_tree c.in-Named.is in
    kept_of_held (told_discrete_name g n) (tree_there c.in_ok-mode-in-Named.mode) (tree_there c.in_ok-few-in-Named.few) (mode_of_name g n) (λ m. not (has_index_values m)) (tell_at told_rules.M6 n.at)
    (c.in_ok-mode-in-Named.ensures.mode ground) c.in_ok-few-in-Named.ensures.mode
    ∙ ap (mode_of_index g) (sym tree)

pub returns-in_ok-some-in-Range-clause-told : goal.returns-in_ok-some-in-Range-clause-told
returns-in_ok-some-in-Range-clause-told c = λ ground.
    let g = ground_of c.args.ground.now in
    let l = expr_tree c.deref.result.now in
    let h = expr_tree c.deref-in-Range.result.now in
    let low : boxed_expr c.in-Range.low ≡ l = search rules in
    let high : boxed_expr c.in-Range.high ≡ h = search rules in
    let tree : written.index_tree c.args.index.now ≡ written.index_bounded l h =
    ap written.index_tree c.in-Range.is ∙ ap (λ (x : ExprTree). written.index_bounded x (boxed_expr c.in-Range.high)) low ∙ ap (written.index_bounded l) high in
    let parent : tree_there c.in_ok-parent-in-Range.parent ≡ Some int = c.in_ok-parent-in-Range.ensures ground in
    let discrete = ap is_some_discrete parent in
    let ts = told_range g (Some int) l h in
    let own = range_of g (Some int) l h in
    let x = tree_there c.in_ok-bounded-in-Range.bounded in
    let is : x ≡ unless_told ts own = c.in_ok-bounded-in-Range.ensures.mode ground discrete ∙ ap (λ (p : Option ModeTree). range_of g p l h) parent ∙ kept_twice ts (range_from (Some int) (needed_number g l) (needed_number g h)) in
    let place : c.at.result ≡ place_of l = search rules in
    let told : c.range_mode.new.told ≡ c.args.told.now ++ ts = c.in_ok-bounded-in-Range.ensures.told ground discrete ∙ ap (λ (p : Option ModeTree). c.args.told.now ++ told_range g p l h) parent in
    let last : c.of_few_indices-in-Range.new.told ≡ c.range_mode.new.told ++ told_if (holds_of (λ m. not (has_index_values m)) x) (tell_at told_rules.M6 (place_of l)) =
    c.in_ok-some-in-Range.ensures.told ∙ ap (λ (at : Pos). c.range_mode.new.told ++ told_if (holds_of (λ m. not (has_index_values m)) x) (tell_at told_rules.M6 at)) place in
    told_of_held c.args.told.now c.range_mode.new.told c.of_few_indices-in-Range.new.told ts x own (λ m. not (has_index_values m)) (tell_at told_rules.M6 (place_of l)) told is last
    ∙ ap (λ i. c.args.told.now ++ told_of_index g i) (sym tree)

pub returns-in_ok-some-in-Range-clause-mode : goal.returns-in_ok-some-in-Range-clause-mode
returns-in_ok-some-in-Range-clause-mode c = λ ground.
    let g = ground_of c.args.ground.now in
    let l = expr_tree c.deref.result.now in
    let h = expr_tree c.deref-in-Range.result.now in
    let low : boxed_expr c.in-Range.low ≡ l = search rules in
    let high : boxed_expr c.in-Range.high ≡ h = search rules in
    let tree : written.index_tree c.args.index.now ≡ written.index_bounded l h =
    ap written.index_tree c.in-Range.is ∙ ap (λ (x : ExprTree). written.index_bounded x (boxed_expr c.in-Range.high)) low ∙ ap (written.index_bounded l) high in
    let parent : tree_there c.in_ok-parent-in-Range.parent ≡ Some int = c.in_ok-parent-in-Range.ensures ground in
    let discrete = ap is_some_discrete parent in
    let ts = told_range g (Some int) l h in
    let own = range_of g (Some int) l h in
    let x = tree_there c.in_ok-bounded-in-Range.bounded in
    let is : x ≡ unless_told ts own = c.in_ok-bounded-in-Range.ensures.mode ground discrete ∙ ap (λ (p : Option ModeTree). range_of g p l h) parent ∙ kept_twice ts (range_from (Some int) (needed_number g l) (needed_number g h)) in
    let place : c.at.result ≡ place_of l = search rules in
    let kept : tree_there c.in_ok-some-in-Range.some ≡ unless_told (told_if (holds_of (λ m. not (has_index_values m)) x) (tell_at told_rules.M6 (place_of l))) x =
    c.in_ok-some-in-Range.ensures.mode ∙ ap (λ (at : Pos). unless_told (told_if (holds_of (λ m. not (has_index_values m)) x) (tell_at told_rules.M6 at)) x) place in
    kept_of_held ts x (tree_there c.in_ok-some-in-Range.some) own (λ m. not (has_index_values m)) (tell_at told_rules.M6 (place_of l)) is kept
    ∙ ap (mode_of_index g) (sym tree)
