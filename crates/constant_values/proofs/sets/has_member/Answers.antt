use Rattle.std.proofs.Common.{◌≡◌, ◌∙◌, ap, rules, ◌/◌, pos, get_or, to_z, of_z, w64}
use Rattle.scalar_operators.specs.Members.{has_member_at}
use Rattle.constant_values.proofs.SetWords.{member_read}
use Rattle.constant_values.proofs.sets.has_member.Goals as goal

pub returns : goal.returns
returns c =
    let own : to_z w64 (of_z w64 (get_or c.as_slice-words.result.now (c.args.offset / 32) (pos 0))) ≡ get_or c.as_slice-words.result.now (c.args.offset / 32) (pos 0) = search rules in
    c.has_at.ensures ∙ member_read c.args.offset c.as_slice-words.result.now _ c.if-place-words.false own ∙ ap (has_member_at c.args.offset) c.as_slice-words.ensures
