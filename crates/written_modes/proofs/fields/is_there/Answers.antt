use Rattle.std.proofs.Common.{◌≡◌, rules}
use Rattle.written_modes.proofs.Texts.{text_put, text_found}
use Rattle.written_modes.proofs.fields.is_there.Goals as goal

pub returns-clause-there : goal.returns-clause-there
returns-clause-there c =
    let items : c.in_ok-key.key.items ≡ c.args.text.now = search rules in
    text_found c.args.texts.now c.in_ok-key.key c.args.text.now c.in_ok-is_new.is_new items c.in_ok-is_new.ensures.added

pub returns-clause-added : goal.returns-clause-added
returns-clause-added c =
    let items : c.in_ok-key.key.items ≡ c.args.text.now = search rules in
    text_put c.args.texts.now c.insert.new.self c.in_ok-key.key c.args.text.now c.in_ok-is_new.is_new items c.in_ok-is_new.ensures.added c.in_ok-is_new.ensures.keys
