use Rattle.std.proofs.Common.{◌≡◌, ◌<◌, ℕ, zero, suc, List, None, sym, ap, ◌∙◌, arith}
use Rattle.std.specs.Prelude.{slice_index_or}
use Rattle.std.specs.Option.{unwrap_or}
use Rattle.std.proofs.lemmas.Option.{unwrap_or-slice_get}
use Rattle.instance_table.specs.Table.{made_at}
use Rattle.kernel_steps.proofs.messages.process_of.Goals as goal

none_read : (xs : List ℕ) (who : ℕ) → 0 < who → made_at xs who ≡ None → 0 ≡ slice_index_or xs who 0
none_read xs zero low is = absurd (omega (arith, low))
none_read xs (suc n) low is = sym (sym (unwrap_or-slice_get xs (suc n) 0) ∙ ap (λ o. unwrap_or o 0) is)

pub returns-in-None : goal.returns-in-None
returns-in-None c = none_read c.args.s.now.seats.instances.processes c.args.who c.requires (sym c.process.ensures ∙ c.in-None.is)
