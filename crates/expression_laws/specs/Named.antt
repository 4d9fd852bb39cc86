-- The law of the names at the nodes of a text: where it breaks no rule on names they stand for what they have to.
use Rattle.std.specs.Prelude.{◌≡◌, ℕ, true, List, [], Option, Some, None}
use Rattle.chill_tree.specs.declared.tree.name.Name.{Name}
use Rattle.chill_tree.specs.ExprTree.{ExprTree}
use Rattle.chill_tree.specs.SimpleTree.{SimpleTree, call_of, start_of, delay, continue_event, send}
use Rattle.chill_tree.specs.ItemTree.{ProgramTree}
use Rattle.checks_model.specs.Diagnoses.{HasNames}
use Rattle.checks_model.specs.Ground.{Ground, origin_of}
use Rattle.checks_model.specs.Sites.{Site, at_simple, at_event, at_source, sites}
use Rattle.checks_model.specs.Table.{ground_with}
use Rattle.checks_model.specs.Phases.{processes_told_at}
use Rattle.written_laws.specs.Written.{Each, HasNamed, exprs_at}
use Rattle.elaborated_laws.specs.Classes.{HasShortTexts}
use Rattle.there_laws.specs.Table.{TuplesNamed}
use Rattle.expression_laws.specs.Names.{stands_for_location, stands_for_message, stands_for_process, stands_for_call, StandsBy, IsWellNamed}

-- the names in an expression stand for what they have to, P3 aside
abbrev pub ExprNamed : Ground → ExprTree → Type 0
ExprNamed g e = TuplesNamed g e × StandsBy (λ n. Unit {0}) g e

-- the names of an action, those in its expressions aside
abbrev pub ActionNamed : Ground → SimpleTree → Type 0
ActionNamed g (call_of at word n es) = stands_for_call (origin_of g n) ≡ true
ActionNamed g (start_of at n es) = stands_for_process (origin_of g n) ≡ true
ActionNamed g (delay at n p) = stands_for_location (origin_of g n) ≡ true
ActionNamed g (continue_event at n) = stands_for_location (origin_of g n) ≡ true
ActionNamed g (send at n es to p) = stands_for_message (origin_of g n) ≡ true
ActionNamed g a = Unit {0}

abbrev pub NamesNamed : Ground → Site → Type 0
NamesNamed g (at_simple a act) = ActionNamed g act
NamesNamed g (at_event earlier n) = stands_for_location (origin_of g n) ≡ true
NamesNamed g (at_source earlier n) = stands_for_message (origin_of g n) ≡ true
NamesNamed g n = Unit {0}

abbrev pub IsNodeNamed : Ground → Site → Type 0
IsNodeNamed g n = Each (ExprNamed g) (exprs_at n) × NamesNamed g n

abbrev pub NodesNamedLaw : Type 0
NodesNamedLaw = (text : List ℕ) (t : ProgramTree) (g : Ground) → HasNames text t → g ≡ ground_with t g.entries → Each (IsNodeNamed g) (sites t)

-- A node at which they do, and at which nothing is told of processes, has expressions as a text has them.
abbrev pub WellNamedLaw : Type 0
WellNamedLaw = (g : Ground) (n : Site) → IsNodeNamed g n → Each HasShortTexts (exprs_at n) → Each HasNamed (exprs_at n) → processes_told_at g n ≡ [] → Each (IsWellNamed g) (exprs_at n)
