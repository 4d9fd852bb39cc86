use Rattle.std.specs.Prelude.{◌↔◌, IsTrue}
use Rattle.world_model.specs.declared.world.StoredValue.{StoredValue}
use Rattle.world_model.specs.World.{buffer_length}
use Rattle.journal_check.proofs.Buffers.{by_offers, by_stored}
use Rattle.journal_check.proofs.offers.no_candidate.Goals as goal

pub returns-then-is_unbuffered : goal.returns-then-is_unbuffered
returns-then-is_unbuffered c =
    by_offers (buffer_length c.args.facts.now c.args.buffer) c.args.world.now c.args.buffer (λ (C : StoredValue → Type 0). IsTrue c.nobody_sends.result ↔ ((value : StoredValue) → C value → ⊥)) (c.is_unbuffered.ensures.0 c.if-is_unbuffered.true) c.nobody_sends.ensures

pub returns-else-is_unbuffered : goal.returns-else-is_unbuffered
returns-else-is_unbuffered c =
    by_stored (buffer_length c.args.facts.now c.args.buffer) c.args.world.now c.args.buffer (λ (C : StoredValue → Type 0). IsTrue c.nothing_stored.result ↔ ((value : StoredValue) → C value → ⊥)) (λ is. let yes : IsTrue c.is_unbuffered.result = c.is_unbuffered.ensures.1 is in let no = c.if-is_unbuffered.false in cc) c.nothing_stored.ensures
