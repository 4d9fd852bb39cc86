use Rattle.chill_lexer.proofs.RunLemmas.{fourteen}
use Rattle.chill_lexer.proofs.literal.copied.Goals as goal

pub returns : goal.returns
returns c = fourteen c.args.bytes.now c.told-bytes
