use Rattle.std.proofs.Common.{◌≡◌, ◌++◌, true, false, List, Option, Some, None, ℤ, subst, rules}
use Rattle.std.specs.Prelude.{option_map}
use Rattle.chill_base.specs.declared.pos.Pos.{Pos}
use Rattle.chill_tree.specs.ExprTree.{ExprTree, expr_tree, place_of}
use Rattle.diagnostics.specs.declared.diagnostic.Diagnostic.{Diagnostic}
use Rattle.modes.specs.ModeTree.{ModeTree, mode_tree}
use Rattle.checks_model.specs.TestLaws.{GoesWithTestLaw}
use Rattle.checks_model.specs.Ground.{Ground}
use Rattle.checks_model.specs.ConstantRules.{told_of_synonym_value}
use Rattle.constant_operators.specs.declared.known.Known.{Known}
use Rattle.constant_operators.specs.Grounds.{ground_of}
use Rattle.constant_rules.specs.declared.parts.Part.{Part}
use Rattle.constant_rules.specs.Walks.{FindsNeeded, is_unnamed_tuple, synonym_value}
use Rattle.constant_rules.specs.Parts.{IsReceived}
use Rattle.constant_rules.specs.Tuples.{IsSynonymValue, FindsSynonym, Receives}
use Rattle.constant_rules.proofs.SynonymFound.{plain_received, plain_told_before}
use Rattle.constant_rules.proofs.tuples.synonym_value.Goals as goal

-- the same of the written mode as it stands
abbrev IsSynonym : Ground → Option ModeTree → ExprTree → List Diagnostic → List Diagnostic → Option (List ℤ) → Type 0
IsSynonym g o x old new flat = (new ≡ old ++ told_of_synonym_value g true o x) × IsSynonymValue o (synonym_value g o x) flat

found_so : (g : Ground) (m : ModeTree) (o : Option ModeTree) (x : ExprTree) (old new : List Diagnostic) (flat : Option (List ℤ)) → Some m ≡ o → FindsSynonym g m x old new flat → IsSynonym g o x old new flat
found_so g m o x old new flat e h = subst (λ (o : Option ModeTree). IsSynonym g o x old new flat) e (h.told, h.value)

-- where a constant is needed and none is there
none_needed : (g : Ground) (m : ModeTree) (o : Option ModeTree) (x : ExprTree) (k : Option Known) (old new : List Diagnostic) → Some m ≡ o → is_unnamed_tuple g x ≡ false → k ≡ None → FindsNeeded g x old new k → IsSynonym g o x old new None
none_needed g m o x k old new e plain none h =
    let needed = subst (λ (k : Option Known). FindsNeeded g x old new k) none h in
    found_so g m o x old new None e (plain_told_before g m x old plain needed.told needed.found)

-- where one is there
one_needed : (law : GoesWithTestLaw) (g : Ground) (m n : ModeTree) (o : Option ModeTree) (x : ExprTree) (at : Pos) (k : Option Known) (known : Known) (part : Part) (old mid new : List Diagnostic) (flat : Option (List ℤ)) → Some m ≡ o → is_unnamed_tuple g x ≡ false → k ≡ Some known → n ≡ m → at ≡ place_of x
    → FindsNeeded g x old mid k → IsReceived n at known part → Receives part mid new flat → IsSynonym g o x old new flat
one_needed law g m n o x at k known part old mid new flat e plain some mode place h received r =
    let needed = subst (λ (k : Option Known). FindsNeeded g x old mid k) some h in
    let so = subst (λ (q : Pos). IsReceived m q known part) place (subst (λ (n : ModeTree). IsReceived n at known part) mode received) in
    found_so g m o x old new flat e (plain_received law g m x known part old plain needed.told needed.found.0 needed.found.1 so r)

pub returns-in_default-2-clause-value : goal.returns-in_default-2-clause-value
returns-in_default-2-clause-value c = λ ground.
    let g = ground_of c.args.ground.now in
    let x = expr_tree c.args.expr.now in
    let m = mode_tree c.in-Some.mode.value in
    let o = option_map (λ m. mode_tree m.value) c.args.mode.now in
    let same : Some m ≡ o = search rules in
    let plain : is_unnamed_tuple g x ≡ false = search rules in
    (none_needed g m o x c.in_ok-known.field-0 c.args.told.now c.needed.new.told same plain c.in_default-2.is (c.in_ok-known.ensures ground)).1

pub returns-clause-told : goal.returns-clause-told
returns-clause-told c = λ ground.
    let g = ground_of c.args.ground.now in
    let x = expr_tree c.args.expr.now in
    let m = mode_tree c.in-Some.mode.value in
    let o = option_map (λ m. mode_tree m.value) c.args.mode.now in
    let same : Some m ≡ o = search rules in
    let plain : is_unnamed_tuple g x ≡ false = search rules in
    let mode : mode_tree c.deref.result.now ≡ m = search rules in
    let place : c.at.result ≡ place_of x = search rules in
    (one_needed c.tests_law.ensures.goes_with g m (mode_tree c.deref.result.now) o x c.at.result c.in_ok-known.field-0 c.in-Some-2.known c.part_of.result c.args.told.now c.needed.new.told c.value_received.new.told c.in_ok-value-3.value same plain c.in-Some-2.is mode place (c.in_ok-known.ensures ground) c.part_of.ensures c.in_ok-value-3.ensures).0

pub returns-clause-value : goal.returns-clause-value
returns-clause-value c = λ ground.
    let g = ground_of c.args.ground.now in
    let x = expr_tree c.args.expr.now in
    let m = mode_tree c.in-Some.mode.value in
    let o = option_map (λ m. mode_tree m.value) c.args.mode.now in
    let same : Some m ≡ o = search rules in
    let plain : is_unnamed_tuple g x ≡ false = search rules in
    let mode : mode_tree c.deref.result.now ≡ m = search rules in
    let place : c.at.result ≡ place_of x = search rules in
    (one_needed c.tests_law.ensures.goes_with g m (mode_tree c.deref.result.now) o x c.at.result c.in_ok-known.field-0 c.in-Some-2.known c.part_of.result c.args.told.now c.needed.new.told c.value_received.new.told c.in_ok-value-3.value same plain c.in-Some-2.is mode place (c.in_ok-known.ensures ground) c.part_of.ensures c.in_ok-value-3.ensures).1
