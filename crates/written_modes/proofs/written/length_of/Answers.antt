use Rattle.std.proofs.Common.{◌≡◌, ◌≤◌, ◌++◌, ◌∷◌, [], ◌∙◌, ap, sym, rules, arith, true, false, pos}
use Rattle.std.specs.Prelude.{option_map, option_and_then}
use Rattle.chill_tree.specs.ExprTree.{expr_tree, place_of}
use Rattle.diagnostics.specs.declared.rule.Rule.TheVariants as told_rules
use Rattle.modes.specs.ModeTree.{int}
use Rattle.modes.specs.Bounds.{natural_of}
use Rattle.checks_model.specs.Classes.{class_of}
use Rattle.checks_model.specs.Constants.{constant_of}
use Rattle.checks_model.specs.ConstantRules.{told_needed}
use Rattle.checks_model.specs.Told.{is_none_told, tell_at, told_if}
use Rattle.checks_model.specs.WrittenModes.{needed_number}
use Rattle.constant_operators.specs.Grounds.{ground_of}
use Rattle.constant_operators.specs.Known.{IsKnownConstant}
use Rattle.written_modes.specs.Wholes.{natural_in, misfits_between}
use Rattle.written_modes.proofs.GateLemmas.{first_told, rule_told, none_told_behind, first_kept, rule_kept}
use Rattle.written_modes.proofs.NumberLemmas.{length-there}
use Rattle.written_modes.proofs.written.length_of.Goals as goal

pub returns-in_default-clause-told : goal.returns-in_default-clause-told
returns-in_default-clause-told c = λ ground.
    let g = ground_of c.args.ground.now in
    let e = expr_tree c.args.length.now in
    let broken : is_none_told (told_needed g e) ≡ false = search rules in
    let told : c.needed.new.told ≡ c.args.told.now ++ told_needed g e = search rules in
    first_told c.args.told.now c.needed.new.told (told_needed g e) (misfits_between (class_of g e) (constant_of g e) int (pos c.args.least) (pos c.args.most)) (tell_at told_rules.M6 (place_of e)) broken told

pub returns-in_default-clause-length : goal.returns-in_default-clause-length
returns-in_default-clause-length c = λ ground.
    let g = ground_of c.args.ground.now in
    let e = expr_tree c.args.length.now in
    let broken : is_none_told (told_needed g e) ≡ false = search rules in
    first_kept (told_needed g e) (told_if (misfits_between (class_of g e) (constant_of g e) int (pos c.args.least) (pos c.args.most)) (tell_at told_rules.M6 (place_of e))) (option_map natural_of (needed_number g e)) broken

pub returns-then-length_misfits-clause-told : goal.returns-then-length_misfits-clause-told
returns-then-length_misfits-clause-told c = λ ground.
    let g = ground_of c.args.ground.now in
    let e = expr_tree c.args.length.now in
    let clean : is_none_told (told_needed g e) ≡ true = search rules in
    let known : IsKnownConstant (class_of g e) (constant_of g e) c.in-Some.known = search rules in
    let misfits : misfits_between (class_of g e) (constant_of g e) int (pos c.args.least) (pos c.args.most) ≡ true =
    sym (c.length_misfits.ensures (class_of g e) (constant_of g e) (search rules) known.known) ∙ c.if-length_misfits.true in
    let told : c.needed.new.told ≡ c.args.told.now ++ told_needed g e = search rules in
    let last : c.tell.new.self ≡ c.needed.new.told ++ tell_at told_rules.M6 (place_of e) ∷ [] = search rules in
    rule_told c.args.told.now c.needed.new.told c.tell.new.self (told_needed g e) (misfits_between (class_of g e) (constant_of g e) int (pos c.args.least) (pos c.args.most)) (tell_at told_rules.M6 (place_of e)) clean misfits told last

pub returns-then-length_misfits-clause-length : goal.returns-then-length_misfits-clause-length
returns-then-length_misfits-clause-length c = λ ground.
    let g = ground_of c.args.ground.now in
    let e = expr_tree c.args.length.now in
    let known : IsKnownConstant (class_of g e) (constant_of g e) c.in-Some.known = search rules in
    let misfits : misfits_between (class_of g e) (constant_of g e) int (pos c.args.least) (pos c.args.most) ≡ true =
    sym (c.length_misfits.ensures (class_of g e) (constant_of g e) (search rules) known.known) ∙ c.if-length_misfits.true in
    rule_kept (told_needed g e) (misfits_between (class_of g e) (constant_of g e) int (pos c.args.least) (pos c.args.most)) (tell_at told_rules.M6 (place_of e)) (option_map natural_of (needed_number g e)) misfits

pub returns-clause-told : goal.returns-clause-told
returns-clause-told c = λ ground.
    let g = ground_of c.args.ground.now in
    let e = expr_tree c.args.length.now in
    let clean : is_none_told (told_needed g e) ≡ true = search rules in
    let known : IsKnownConstant (class_of g e) (constant_of g e) c.in-Some.known = search rules in
    let fits : misfits_between (class_of g e) (constant_of g e) int (pos c.args.least) (pos c.args.most) ≡ false =
    sym (c.length_misfits.ensures (class_of g e) (constant_of g e) (search rules) known.known) ∙ c.if-length_misfits.false in
    let told : c.needed.new.told ≡ c.args.told.now ++ told_needed g e = search rules in
    none_told_behind c.args.told.now c.needed.new.told (told_needed g e) (misfits_between (class_of g e) (constant_of g e) int (pos c.args.least) (pos c.args.most)) (tell_at told_rules.M6 (place_of e)) clean fits told

pub returns-clause-length : goal.returns-clause-length
returns-clause-length c = λ ground.
    let g = ground_of c.args.ground.now in
    let e = expr_tree c.args.length.now in
    let clean : is_none_told (told_needed g e) ≡ true = search rules in
    let known : IsKnownConstant (class_of g e) (constant_of g e) c.in-Some.known = search rules in
    let fits : misfits_between (class_of g e) (constant_of g e) int (pos c.args.least) (pos c.args.most) ≡ false =
    sym (c.length_misfits.ensures (class_of g e) (constant_of g e) (search rules) known.known) ∙ c.if-length_misfits.false in
    let few : c.args.most ≤ 4294967295 = omega (arith, c.ranges.most.fits) in
    c.natural_if.ensures ∙ ap (option_and_then natural_in) c.number.ensures
    ∙ length-there c.tests_law.ensures.goes_with g e c.args.least c.args.most c.in-Some.known clean known fits few
