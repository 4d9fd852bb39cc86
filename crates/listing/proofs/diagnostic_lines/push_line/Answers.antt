use Rattle.std.proofs.Common.{◌++◌, ◌∙◌, ap, refl}
use Rattle.std.specs.Fmt.{decimal}
use Rattle.listing.proofs.Lines.{line-made, head-is}
use Rattle.listing.proofs.diagnostic_lines.push_line.Goals as goal

-- the place, the rule and its text, and a line feed
pub returns : goal.returns
returns c =
    let d = c.args.diagnostic.now in
    let head = rw (c.as_bytes.ensures.value, c.in_ok-head.ensures.ok, c.name-rule.ensures) at c.in_ok-extend_from_slice.ensures.items in
    let text = rw (c.as_bytes-2.ensures.value, c.text.ensures, c.as_slice.ensures, c.as_slice-2.ensures) at c.in_ok-push_filled.ensures in
    line-made c.args.text.now.items _ _ _ _ _ head text c.in_ok-push.ensures.items
    ∙ ap (λ w. c.args.text.now.items ++ w) (head-is (decimal d.at.line) (decimal d.at.column) _ _ _ refl)
