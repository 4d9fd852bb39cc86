use Rattle.names_laws.proofs.rising.rising_places_law.Goals as goal
use Rattle.names_laws.proofs.RisingUses.{rising_uses}
use Rattle.names_laws.proofs.RisingTokens.{rising_tokens}
use Rattle.names_laws.proofs.RisingDefinitions.{rising_definitions}

pub returns-clause-tokens : goal.returns-clause-tokens
returns-clause-tokens c = rising_tokens

pub returns-clause-uses : goal.returns-clause-uses
returns-clause-uses c = rising_uses

pub returns-clause-definitions : goal.returns-clause-definitions
returns-clause-definitions c = rising_definitions
