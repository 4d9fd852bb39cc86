-- Each test of modes and classes is true exactly where the relation of its name holds.
use Rattle.std.specs.Prelude.{◌↔◌, IsTrue}
use Rattle.modes.specs.ModeTree.{ModeTree, ClassTree}
use Rattle.modes.specs.Similar.{Similar, VEquivalent}
use Rattle.modes.specs.Classes.{GoesWith, Compatible}
use Rattle.checks_model.specs.Alike.{are_similar, are_v_equivalent, goes_with, are_compatible}

abbrev pub SimilarTestLaw : Type 0
SimilarTestLaw = (a b : ModeTree) → IsTrue (are_similar a b) ↔ Similar a b

abbrev pub VEquivalentTestLaw : Type 0
VEquivalentTestLaw = (a b : ModeTree) → IsTrue (are_v_equivalent a b) ↔ VEquivalent a b

abbrev pub GoesWithTestLaw : Type 0
GoesWithTestLaw = (c : ClassTree) (m : ModeTree) → IsTrue (goes_with c m) ↔ GoesWith c m

abbrev pub CompatibleTestLaw : Type 0
CompatibleTestLaw = (a b : ClassTree) → IsTrue (are_compatible a b) ↔ Compatible a b
