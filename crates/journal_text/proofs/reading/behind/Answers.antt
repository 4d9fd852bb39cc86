use Rattle.std.proofs.Common.{◌≡◌, ◌∙◌, sym, false}
use Rattle.std.specs.Str.{bytes_eq}
use Rattle.journal_text.proofs.Whole.{other_front, bytes_differ}
use Rattle.journal_text.proofs.reading.behind.Goals as goal

pub returns-else-eq-clause-none : goal.returns-else-eq-clause-none
returns-else-eq-clause-none c = other_front c.args.line.now c.args.bytes.now (λ same.
    let front : c.split_at.result.0.now ≡ c.args.line.now = c.split_at.ensures.front ∙ same in
    let other : bytes_eq c.split_at.result.0.now c.args.line.now ≡ false = sym c.eq.ensures ∙ c.if-eq.false in
    bytes_differ c.split_at.result.0.now c.args.line.now front other)
