use Rattle.std.proofs.Common.{◌≡◌, Bool, true, false, ◌<◌, length, refl, sym, arith}
use Rattle.std.proofs.lemmas.Bool.Decides.{nat_tests}
use Rattle.chill_tree.specs.declared.token.Word.{Word}
use Rattle.chill_tree.specs.Spelling.{IsSpelled}
use Rattle.chill_tree.proofs.SpellingLemmas.{word_of-spelled, word_of-none, none_spelled, nothing_spelled}
use Rattle.chill_tree.proofs.token.Word.spelled.Goals as goal

pub returns-then-is_empty-clause-exact : goal.returns-then-is_empty-clause-exact
returns-then-is_empty-clause-exact c =
    let short : length c.args.bytes.now < 1 = grind (arith, nat_tests) in sym (word_of-none c.args.bytes.now (nothing_spelled c.args.bytes.now short))

pub returns-then-is_spelled-clause-exact : goal.returns-then-is_spelled-clause-exact
returns-then-is_spelled-clause-exact c = sym (word_of-spelled _ c.args.bytes.now (c.is_spelled.ensures.0 c.if-is_spelled.true))

not_both : (b : Bool) → b ≡ false → b ≡ true → ⊥
not_both b first second = cc

none : (c : goal.Else-is_spelled) (word : Word) → IsSpelled word c.args.bytes.now → ⊥
none c = none_spelled c.args.bytes.now c.place_of.result _ _ c.place_of.ensures refl (λ s. not_both c.is_spelled.result c.if-is_spelled.false (c.is_spelled.ensures.1 s))

pub returns-else-is_spelled-clause-none : goal.returns-else-is_spelled-clause-none
returns-else-is_spelled-clause-none c = none c

pub returns-else-is_spelled-clause-exact : goal.returns-else-is_spelled-clause-exact
returns-else-is_spelled-clause-exact c = sym (word_of-none c.args.bytes.now (none c))
