use Rattle.std.proofs.Common.{refl, arith}
use Rattle.cycles.specs.Marks.{EdgePasses}
use Rattle.cycles.proofs.Reaching.{at_member}
use Rattle.cycles.proofs.Shown.{all_pass, complete_marks, sound_marks}
use Rattle.cycles.proofs.marks.shows_cycles.Goals as goal

-- no edge leads higher, and each marked node leads to its root and back
pub returns : goal.returns
returns c = λ shown v.
    let edges = c.args.edges.now in
    let marks = c.args.marks.now in
    let ordered = at_member edges (EdgePasses marks) (c.if-not-edges_pass.ensures refl) in
    let passes = all_pass edges marks (λ k low. c.nodes_pass.ensures shown k (omega (arith, low))) in
    (sound_marks edges marks passes v, complete_marks edges marks (λ a b e. ordered (record { from = a; to = b }) e) v)
