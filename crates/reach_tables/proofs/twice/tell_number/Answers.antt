use Rattle.std.proofs.Common.{◌++◌, ◌∷◌, [], ap, sym, ◌∙◌}
use Rattle.diagnostics.specs.declared.rule.Rule.TheVariants as rules
use Rattle.names_model.specs.Entries.{numbers_of}
use Rattle.names_model.specs.NameRules.{tell}
use Rattle.reach_tables.proofs.Telling.{clash-by, tells-again, tells-nothing, tells-first}
use Rattle.reach_tables.proofs.twice.tell_number.Goals as goal

pub returns-then-is_last : goal.returns-then-is_last
returns-then-is_last c = λ es k h. tells-again c.args.book.now.all.items c.args.at (numbers_of es) c.args.number c.args.out.now.items c.args.last h (sym c.is_last.ensures ∙ c.if-is_last.true)

pub returns-then-not-is_another_under : goal.returns-then-not-is_another_under
returns-then-not-is_another_under c = λ es k h.
    let clash = clash-by c.args.table.now c.args.book.now.all.items es _ c.args.number k c.spelling-name.ensures in
    tells-nothing c.args.book.now.all.items c.args.at (numbers_of es) c.args.number c.args.out.now.items c.args.last h (clash ∙ sym c.is_another_under.ensures ∙ c.if-not-is_another_under.true)

pub returns : goal.returns
returns c = λ es k h.
    let clash = clash-by c.args.table.now c.args.book.now.all.items es _ c.args.number k c.spelling-name.ensures in
    tells-first c.args.book.now.all.items c.args.at (numbers_of es) c.args.number c.args.out.now.items _ (clash ∙ sym c.is_another_under.ensures ∙ c.if-not-is_another_under.false) (c.in_ok-push_told.ensures ∙ ap (λ n. c.args.out.now.items ++ tell c.args.at rules.N1 n ∷ []) c.spelling-name.ensures)
