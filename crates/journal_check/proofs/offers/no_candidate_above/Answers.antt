use Rattle.std.proofs.Common.{◌≤◌}
use Rattle.std.specs.Prelude.{◌↔◌, IsTrue}
use Rattle.world_model.specs.declared.world.StoredValue.{StoredValue}
use Rattle.world_model.specs.World.{buffer_length}
use Rattle.journal_check.proofs.Buffers.{by_offers, by_stored}
use Rattle.journal_check.proofs.offers.no_candidate_above.Goals as goal

pub returns-then-is_unbuffered : goal.returns-then-is_unbuffered
returns-then-is_unbuffered c =
    by_offers (buffer_length c.args.facts.now c.args.buffer) c.args.world.now c.args.buffer (λ (C : StoredValue → Type 0). IsTrue c.no_offer_above.result ↔ ((other : StoredValue) → C other → other.priority ≤ c.args.priority)) (c.is_unbuffered.ensures.0 c.if-is_unbuffered.true) c.no_offer_above.ensures

pub returns-else-is_unbuffered : goal.returns-else-is_unbuffered
returns-else-is_unbuffered c =
    by_stored (buffer_length c.args.facts.now c.args.buffer) c.args.world.now c.args.buffer (λ (C : StoredValue → Type 0). IsTrue c.no_stored_above.result ↔ ((other : StoredValue) → C other → other.priority ≤ c.args.priority)) (λ is. let yes : IsTrue c.is_unbuffered.result = c.is_unbuffered.ensures.1 is in let no = c.if-is_unbuffered.false in cc) c.no_stored_above.ensures
