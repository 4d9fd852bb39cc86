use Rattle.std.proofs.Common.{◌≡◌, ◌≢◌, sym, ap, ◌∙◌, map}
use Rattle.std.specs.List.{count_by}
use Rattle.instance_table.specs.Phase.{is_live_in, is_active_in}
use Rattle.kernel_steps.specs.Kept.{world_in}
use Rattle.kernel_steps.specs.Seated.{kind_of}
use Rattle.kernel_steps.proofs.Ending.{not_spent, over_ended, over_still, over_not}
use Rattle.kernel_steps.proofs.commits.over.Goals as goal

pub returns-then-live-eq0 : goal.returns-then-live-eq0
returns-then-live-eq0 c =
    let s = c.args.s.now in
    let none : count_by is_live_in (map kind_of (world_in s).phases) ≡ 0 = ap (count_by is_live_in) (sym c.requires.seated.placed.phases) ∙ sym c.live.ensures ∙ c.if-live-eq0.true in
    sym (not_spent s.facts s.journal.events c.units.result c.units.ensures c.if-units-s.false c.requires.sound.greatest_budget ∙ over_ended (world_in s) none)

pub returns-then-actives-eq0 : goal.returns-then-actives-eq0
returns-then-actives-eq0 c =
    let s = c.args.s.now in
    let some : count_by is_live_in (map kind_of (world_in s).phases) ≢ 0 = λ e. c.if-live-eq0.false (c.live.ensures ∙ ap (count_by is_live_in) c.requires.seated.placed.phases ∙ e) in
    let none : count_by is_active_in (map kind_of (world_in s).phases) ≡ 0 = ap (count_by is_active_in) (sym c.requires.seated.placed.phases) ∙ sym c.actives.ensures ∙ c.if-actives-eq0.true in
    sym (not_spent s.facts s.journal.events c.units.result c.units.ensures c.if-units-s.false c.requires.sound.greatest_budget ∙ over_still (world_in s) c.requires.seated.idle some none)

pub returns-else-actives-eq0 : goal.returns-else-actives-eq0
returns-else-actives-eq0 c =
    let s = c.args.s.now in
    let some : count_by is_live_in (map kind_of (world_in s).phases) ≢ 0 = λ e. c.if-live-eq0.false (c.live.ensures ∙ ap (count_by is_live_in) c.requires.seated.placed.phases ∙ e) in
    let active : count_by is_active_in (map kind_of (world_in s).phases) ≢ 0 = λ e. c.if-actives-eq0.false (c.actives.ensures ∙ ap (count_by is_active_in) c.requires.seated.placed.phases ∙ e) in
    sym (not_spent s.facts s.journal.events c.units.result c.units.ensures c.if-units-s.false c.requires.sound.greatest_budget ∙ over_not (world_in s) some active)
