use Rattle.std.proofs.Common.{◌≡◌, ◌∙◌, ◌++◌, ap}
use Rattle.diagnostics.specs.declared.rule.Rule.TheVariants as rules
use Rattle.names_model.specs.NameRules.{tell}
use Rattle.checks_model.specs.Told.{told_if}
use Rattle.mode_rules.proofs.locals.tell_read_alone.Goals as goal

pub returns : goal.returns
returns c = λ ready.
    c.in_ok-tell_name_if.ensures ∙ ap (λ b. c.args.told.now ++ told_if b (tell c.args.name.now.at rules.M9 c.args.name.now.text)) (c.is_read_alone-broken.ensures ready.keeps)
