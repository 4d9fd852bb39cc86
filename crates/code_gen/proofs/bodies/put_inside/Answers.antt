use Rattle.std.proofs.Common.{ℕ, Option, ◌∙◌, sym, subst}
use Rattle.std.specs.Prelude.{OnOk}
use Rattle.code_scheme.specs.BodyCode.{doing_code, doing_rows}
use Rattle.stmt_gen.specs.Modulions.{PutsBoth}
use Rattle.action_gen.specs.Putting.{site_tree}
use Rattle.code_gen.proofs.bodies.put_inside.Goals as goal

pub returns-in-Some : goal.returns-in-Some
returns-in-Some c = record {
  puts = subst (λ (r : Option ℕ). OnOk c.put_critical.result (PutsBoth (doing_code r (site_tree c.args.site)) (doing_rows r (site_tree c.args.site)) c.args.draft.now c.put_critical.new.draft))
      (sym c.in-Some.is ∙ c.critical_region.ensures) c.put_critical.ensures.puts;
}

pub returns-in-None : goal.returns-in-None
returns-in-None c = record {
  puts = subst (λ (r : Option ℕ). OnOk c.put_plain.result (PutsBoth (doing_code r (site_tree c.args.site)) (doing_rows r (site_tree c.args.site)) c.args.draft.now c.put_plain.new.draft))
      (sym c.in-None.is ∙ c.critical_region.ensures) c.put_plain.ensures.puts;
}
