use Rattle.std.proofs.Common.{◌≡◌, subst, arith}
use Rattle.std.specs.Prelude.{IsTrue}
use Rattle.std.proofs.lemmas.Result.{err_from_is_err_and}
use Rattle.journal_text.specs.Journal.{event_line}
use Rattle.journal_text.specs.Lines.{IsNoLine}
use Rattle.journal_text.proofs.Whole.{failed_guess, other_line, other_range}
use Rattle.journal_text.proofs.reading.read_line.Goals as goal

pub returns-in_err-event : goal.returns-in_err-event
returns-in_err-event c =
    let p = err_from_is_err_and c.from_residual.result c.from_residual.ensures.1 in
    rw (p.1, p.2) (failed_guess c.in_err-event.field-0.0 c.args.bytes.now c.requires.few_bytes c.in_err-event.ensures)

pub returns-then-not-event_in_range : goal.returns-then-not-event_in_range
returns-then-not-event_in_range c =
    other_range c.args.bytes.now c.in_ok-event.event c.in_ok-event.field-0-1.now c.requires.few_bytes c.in_ok-event.ensures (λ fits.
    let yes : IsTrue c.event_in_range.result = c.event_in_range.ensures.1 fits in
    let never : ⊥ = first_of (cc, grind (arith, yes, c.if-not-event_in_range.true)) in
    never)

pub returns : goal.returns
returns c =
    let line : c.deref.result.now ≡ event_line c.in_ok-event.event = cc (c.in_ok-write_line.ensures, c.deref.ensures.value) in
    other_line c.args.bytes.now c.in_ok-event.event c.in_ok-event.field-0-1.now c.requires.few_bytes c.in_ok-event.ensures
    (subst (λ l. IsNoLine l c.args.bytes.now) line c.in-None.ensures.none)
