use Rattle.std.proofs.Common.{refl, arith, rules}
use Rattle.kernel_base.specs.declared.answer.Answer.TheVariants.{Done}
use Rattle.kernel_base.specs.declared.request.Request.TheVariants.{Put}
use Rattle.kernel_steps.specs.Kept.{world_in}
use Rattle.kernel_steps.proofs.Served.{rests_same}
use Rattle.kernel_steps.proofs.Plain.{plain_serves}
use Rattle.kernel_steps.proofs.simple.put.Goals as goal

pub did-requires : goal.did-requires
did-requires c = omega (arith, c.requires.room.journal)

pub returns : goal.returns
returns c =
    let s = c.args.s.now in
    let k = c.requires.kept in
    plain_serves s _ c.args.who c.args.ticks (Put c.args.bytes) Done c.args.ready c.requires (record { who = search rules; ticks = search rules; answer = tt }) (refl, refl) (omega arith)
    (record { processes = refl; phases = refl; occupants = refl; held = refl; facts = refl; widest = refl; ready = refl; seats = refl; taken = refl; events = c.did.ensures.events; plain = refl })
    (rests_same s.facts (world_in s) _ s _ refl (record {
      processes = refl;
      stored = refl;
      pending = refl;
      sends = refl;
      arguments = refl;
      queues = refl;
      store = k.rests.store;
      locations = refl;
      input = k.rests.input;
      read = k.rests.read;
      taken = refl;
      argued = refl;
    }) k.rests)
