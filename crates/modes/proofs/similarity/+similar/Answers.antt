use Rattle.std.proofs.Common.{◌≡◌, ◌↔◌, ◌-◌, List, [], length, IsTrue, rules, arith, subst, sym}
use Rattle.modes.specs.ModeTree.{ModeTree, mode_tree, structure, no_fields}
use Rattle.modes.specs.Similar.{Similar}
use Rattle.modes.proofs.ModeViews.{mode_built}
use Rattle.modes.proofs.SimilarLemmas.{last_down, no_last}
use Rattle.modes.proofs.similarity.+similar.Goals as goal

pub last_field_beside-returns : goal.last_field_beside-returns
last_field_beside-returns t c = last_down c.args.fields.now c.args.others.now c.loop-i.i (length c.args.fields.now - 1) c.index-fields-last.result c.index-others-last.result _
    (omega (arith, c.loop-i-test.false, c.loop-i.auto.i-end)) (omega (arith, c.requires)) (omega (arith, c.if-fields-others.false)) c.index-fields-last.is c.index-others-last.is c.loop-i.invariant c.beside_in.ensures

pub similar-returns-in-None-last : goal.similar-returns-in-None-last
similar-returns-in-None-last t c =
    let empty : c.as_slice.result.now ≡ [] = no_last c.as_slice.result.now c.in-None-last.ensures.value in
    let tree : mode_tree c.args.a.now ≡ structure no_fields c.in-Struct.packed = search (rules, mode_built, empty) in
    subst (λ (m : ModeTree). IsTrue c.is_empty.result ↔ Similar m (mode_tree c.args.b.now)) (sym tree) c.is_empty.ensures
