use Rattle.std.proofs.Common.{◌≡◌, ◌≢◌, ◌++◌, ◌∙◌, ◌^◌, ◌<◌, length, ap, arith, rules, subst}
use Rattle.std.specs.Prelude.{List, ℕ}
use Rattle.std.specs.List.{flat_map}
use Rattle.journal_text.specs.Journal.{event_line, last_line}
use Rattle.journal_text.specs.Lines.{IsBehind}
use Rattle.journal_text.proofs.Whole.{all_read, breaks, is_other, is_same}
use Rattle.journal_text.proofs.reading.read_lines.Goals as goal

pub returns-in-Err-NoEvent : goal.returns-in-Err-NoEvent
returns-in-Err-NoEvent c =
    let few : length c.args.bytes.now < 2 ^ 32 = omega arith in
    let count : c.len.result ≡ length c.lines.events.items = first_of (search rules, omega arith) in
    let other : c.lines.rest.now ≢ last_line = is_other c.lines.rest.now c.as_slice.result.now last_line c.ne.result c.ne.ensures c.as_slice.ensures c.lines-test.true in
    breaks c.args.bytes.now c.lines.rest.now c.lines.events.items c.bad_line-line.result few c.lines.invariant.in_range c.lines.invariant.whole (rw c.in-Err-NoEvent.field-0-is at c.in-Err-NoEvent.ensures) other
    (subst (λ count. IsBehind count c.lines.rest.now c.bad_line-line.result) count c.bad_line-line.ensures)

pub returns : goal.returns
returns c =
    let last : c.lines.rest.now ≡ last_line = is_same c.lines.rest.now c.as_slice.result.now last_line c.ne.result c.ne.ensures c.as_slice.ensures c.lines-test.false in
    rw c.from_vec.ensures (all_read c.args.bytes.now c.lines.events.items c.lines.invariant.in_range (c.lines.invariant.whole ∙ ap (λ (x : List ℕ). flat_map event_line c.lines.events.items ++ x) last))
