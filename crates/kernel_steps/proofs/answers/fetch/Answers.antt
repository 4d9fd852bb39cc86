use Rattle.std.proofs.Common.{ap, ◌∙◌, refl, length, length-set}
use Rattle.kernel_steps.proofs.Fetching.{kept_fetched, prepared_fetched}
use Rattle.kernel_steps.proofs.answers.fetch.Goals as goal

pub returns-clause-kept : goal.returns-clause-kept
returns-clause-kept c =
    let s = c.args.s.now in
    let u = c.next_answer.new.unfetched in
    kept_fetched s u (ap (λ l. length l) c.next_answer.ensures.unfetched ∙ length-set s.seats.unfetched.items c.args.who _) c.requires.kept

pub returns-clause-prepared : goal.returns-clause-prepared
returns-clause-prepared c =
    let s = c.args.s.now in
    prepared_fetched s c.next_answer.new.unfetched s.ready c.next_answer.ensures.len c.next_answer.ensures.capacity c.requires.prepared

pub returns-clause-fetches : goal.returns-clause-fetches
returns-clause-fetches c = record { answer_is = c.next_answer.ensures.answer; unfetched = c.next_answer.ensures.unfetched; facts = refl; events = refl; taken = refl }
