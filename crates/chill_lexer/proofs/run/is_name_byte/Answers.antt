use Rattle.std.proofs.Common.{get_or, false, refl}
use Rattle.std.proofs.lemmas.Bool.{agree_below_at}
use Rattle.chill_lexer.specs.declared.name_bytes.TheConstants.{NAME_BYTES}
use Rattle.rules_model.specs.TokensShapes.{is_name_byte}
use Rattle.chill_lexer.proofs.run.is_name_byte.Goals as goal

pub returns : goal.returns
returns c = agree_below_at (λ b. get_or NAME_BYTES b false) is_name_byte 256 c.args.byte refl c.ranges.byte.fits
