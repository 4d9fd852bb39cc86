use Rattle.std.proofs.Common.{◌≡◌, ◌∙◌, Option, ℕ, sym, subst, Contains}
use Rattle.std.specs.Prelude.{IfSome}
use Rattle.definition_table.proofs.filling.entry_at.Goals as goal

pub returns-in-None : goal.returns-in-None
returns-in-None c h done evaluated filling at needs there = c.own_entry.ensures h done filling at needs

pub returns-in-Some : goal.returns-in-Some
returns-in-Some c h done evaluated filling at needs there =
    let is = sym c.other_first.ensures ∙ c.in-Some.is in
    c.copied_entry.ensures h done evaluated filling at is (subst (λ (k : Option ℕ). IfSome k (Contains done)) is there)
