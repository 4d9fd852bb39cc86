use Rattle.std.proofs.Common.{inr}
use Rattle.text_to_code.proofs.TellingLemmas.{deep_diagnosed, nowhere_diagnosed, place_of_token}
use Rattle.text_to_code.proofs.grammar.tree_of.Goals as goal

-- it has a tree
pub returns-in-Ok-clause-tree : goal.returns-in-Ok-clause-tree
returns-in-Ok-clause-tree c = record { tokens = c.args.tokens.now; short = c.requires.short; are = c.requires.tokens; shallow = c.in-Ok.ensures.0; tree_of = c.in-Ok.ensures.1 }

-- a token nests too deep
pub returns-in-Err-TooDeep-clause-breaks : goal.returns-in-Err-TooDeep-clause-breaks
returns-in-Err-TooDeep-clause-breaks c =
    let arm = c.in-Err-TooDeep in
    let deep = rw arm.field-0-is at arm.ensures in
    deep_diagnosed c.args.text.now c.args.tokens.now arm.at c.plainly.result c.requires.short c.requires.tokens deep c.plainly.ensures

-- no tree exists, and the parser tells a token's place
pub returns-in-Err-NoProgram-Some-clause-breaks : goal.returns-in-Err-NoProgram-Some-clause-breaks
returns-in-Err-NoProgram-Some-clause-breaks c =
    let arm = c.in-Err-NoProgram-Some in
    let refused = rw arm.field-0-is at arm.ensures in
    let nowhere = rw arm.field-0-0-is at refused in
    nowhere_diagnosed c.args.text.now c.args.tokens.now arm.at c.plainly-in-Err-NoProgram-Some.result c.requires.short c.requires.tokens nowhere.0 nowhere.1
    (place_of_token c.args.text.now c.args.tokens.now arm.at nowhere.2) c.plainly-in-Err-NoProgram-Some.ensures

-- no tree exists, and the parser tells no place
pub returns-in-Err-NoProgram-None-clause-breaks : goal.returns-in-Err-NoProgram-None-clause-breaks
returns-in-Err-NoProgram-None-clause-breaks c =
    let arm = c.in-Err-NoProgram-None in
    let refused = rw arm.field-0-is at arm.ensures in
    nowhere_diagnosed c.args.text.now c.args.tokens.now c.end_of.result c.plainly-in-Err-NoProgram-None.result c.requires.short c.requires.tokens refused.0 refused.1 (inr c.end_of.ensures) c.plainly-in-Err-NoProgram-None.ensures
