use Rattle.std.proofs.Common.{refl, ap, ◌∙◌, arith, rules, length-set, List, ℤ}
use Rattle.kernel_base.specs.declared.answer.Answer.TheVariants.{Done}
use Rattle.kernel_base.specs.declared.request.Request.TheVariants.{Write}
use Rattle.shared_store.specs.Places.{written_at}
use Rattle.kernel_steps.specs.Kept.{world_in}
use Rattle.kernel_steps.proofs.Served.{rests_same}
use Rattle.kernel_steps.proofs.Plain.{fits_in, lies_in, plain_serves}
use Rattle.kernel_steps.proofs.simple.write.Goals as goal

pub write-requires-clause-lies : goal.write-requires-clause-lies
write-requires-clause-lies c = lies_in c.args.s.now c.args.place c.requires.kept c.requires.may.fits.lies

pub write-requires-clause-count : goal.write-requires-clause-count
write-requires-clause-count c = c.requires.may.fits.count

pub write-requires-clause-fits : goal.write-requires-clause-fits
write-requires-clause-fits c = fits_in c.args.s.now c.args.place c.args.scalars c.requires.kept c.requires.may.fits

pub did-requires : goal.did-requires
did-requires c = omega (arith, c.requires.room.journal)

pub returns : goal.returns
returns c =
    let s = c.args.s.now in
    let k = c.requires.kept in
    plain_serves s _ c.args.who c.args.ticks (Write c.args.place c.args.scalars) Done c.args.ready c.requires (record { who = search rules; ticks = search rules; answer = tt }) (refl, refl) (omega arith)
    (record { processes = refl; phases = refl; occupants = refl; held = refl; facts = refl; widest = refl; ready = refl; seats = refl; taken = refl; events = c.did.ensures.events; plain = refl })
    (rests_same s.facts (world_in s) _ s _ refl (record {
      processes = refl;
      stored = refl;
      pending = refl;
      sends = refl;
      arguments = refl;
      queues = refl;
      store = (c.write.ensures.scalars ∙ ap (λ (st : List (List ℤ)). written_at st c.args.place c.args.scalars) k.rests.store.0, c.write.ensures.layouts ∙ k.rests.store.1);
      locations = length-set (world_in s).store c.args.place.location _;
      input = k.rests.input;
      read = k.rests.read;
      taken = refl;
      argued = refl;
    }) k.rests)
