use Rattle.kernel_base.specs.declared.facts.Facts.{Facts}
use Rattle.chill_top.proofs.StageLemmas.{unsound_facts, no_layouts}
use Rattle.chill_top.proofs.stage.facts_for.Goals as goal

-- the facts aren't sound
pub returns-else-branch : goal.returns-else-branch
returns-else-branch c =
    unsound_facts c.args.built.now.program.checked.value c.checked.result.now c.args.input c.args.units c.in-Ok.facts _ c.checked.ensures c.in-Ok.ensures.facts c.in_ok-are_sound-in-Ok.ensures c.if-branch.false

-- a location has no layout
pub returns-in-Err-NoLayout : goal.returns-in-Err-NoLayout
returns-in-Err-NoLayout c =
    no_layouts {T = Facts} c.args.built.now.program.checked.value c.checked.result.now c.args.input c.args.units _ c.checked.ensures c.in-Err-NoLayout.field-0-is c.in-Err-NoLayout.ensures.no_layout
