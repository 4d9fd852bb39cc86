-- The law of EXITs: in a text that breaks no rule on names each has the label of an action around it.
use Rattle.std.specs.Prelude.{ℕ, List, []}
use Rattle.chill_tree.specs.StatementTree.{body_nodes, handler_node}
use Rattle.chill_tree.specs.ItemTree.{ItemTree, ItemNodes, seize, grant, local_item, signals, procedure, process, modulion, action, no_items, more_items, ProgramTree}
use Rattle.checks_model.specs.Diagnoses.{HasNames}
use Rattle.checks_model.specs.Sites.{items_of}
use Rattle.written_laws.specs.Written.{Each}
use Rattle.expression_laws.specs.Statements.{ExitsStand, BodyExits, HandlerExits}

abbrev mutual
  -- the EXITs in an item
  pub ItemExits : ItemTree → Type 0
  ItemExits (procedure p) = BodyExits [] (body_nodes p.body) × HandlerExits [] (handler_node p.handler)
  ItemExits (process p) = BodyExits [] (body_nodes p.body) × HandlerExits [] (handler_node p.handler)
  ItemExits (modulion n kind items h closing) = EachItemExits items × HandlerExits [] (handler_node h)
  ItemExits (action x) = ExitsStand [] x
  ItemExits (seize at passed) = Unit {0}
  ItemExits (grant at passed) = Unit {0}
  ItemExits (local_item l) = Unit {0}
  ItemExits (signals at ss) = Unit {0}

  pub EachItemExits : ItemNodes → Type 0
  EachItemExits no_items = Unit {0}
  EachItemExits (more_items i is) = ItemExits i × EachItemExits is

abbrev pub ExitsLaw : Type 0
ExitsLaw = (text : List ℕ) (t : ProgramTree) → HasNames text t → Each ItemExits (items_of t)
