use Rattle.std.proofs.Common.{◌≡◌, ◌++◌, append_assoc, ◌∙◌, ap, sym, arith}
use Rattle.std.specs.Prelude.{codes}
use Rattle.std.specs.Fmt.{decimal}
use Rattle.watchers.proofs.Lines.{line_is}
use Rattle.watchers.proofs.region_counter.push_line.Goals as goal

pub returns-in_ok-extend_from_slice : goal.returns-in_ok-extend_from_slice
returns-in_ok-extend_from_slice c =
    let made : c.extend_from_slice.new.self.items ≡ c.args.text.now.items ++ (codes "region " ++ decimal c.args.region ++ codes " entered " ++ decimal c.args.entries ++ codes "\n") =
    rw (c.in_ok-extend_from_slice.ensures.items, c.as_bytes.ensures.value, c.in_ok-line.ensures.ok) (simp append_assoc) in
    made ∙ ap (λ w. c.args.text.now.items ++ w) (sym (line_is c.args.region c.args.entries (omega (arith, c.if-entries-gt0.true))))
