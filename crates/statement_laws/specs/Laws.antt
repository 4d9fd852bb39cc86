-- The laws, as statements.
use Rattle.std.specs.Prelude.{◌≡◌, false, List, [], ◌∷◌, ◌++◌, replicate, Option, None}
use Rattle.chill_tree.specs.declared.tree.name.Name.{Name}
use Rattle.chill_tree.specs.ExprTree.{ExprTree, ExprNodes}
use Rattle.chill_tree.specs.StatementTree.{BracketedTree, BodyTree, NamedNodes, body_nodes}
use Rattle.checks_model.specs.Ground.{Ground, Entry, Origin, message_of}
use Rattle.checks_model.specs.Classes.{count_exprs}
use Rattle.checks_model.specs.ValueRules.{Receiver, nothing_asked, of_mode, received_mode, may_have_mode, told_in, told_in_args}
use Rattle.checks_model.specs.Sites.{Around, sites_of_bracketed, sites_of_exceptions, sites_of_parts}
use Rattle.statement_laws.specs.Steps.{told_at_all, evaluated_sites, told_held, told_else, told_in_exceptions, told_in_all, parts_by, part_of_buffer, either}

-- An action that holds others tells what its three steps tell.
abbrev pub BracketedLaw : Type 0
BracketedLaw = (g : Ground) (a : Around) (b : BracketedTree) → told_at_all g (sites_of_bracketed a b) ≡ told_at_all g (evaluated_sites b) ++ (told_held g a b ++ told_else g a b)

-- The alternatives of a handler are told of one by one.
abbrev pub ExceptionsLaw : Type 0
ExceptionsLaw = (g : Ground) (a : Around) (earlier : List Name) (as' : NamedNodes) → told_at_all g (sites_of_exceptions a earlier as') ≡ told_in_exceptions g a earlier as'

-- What is told in a body is told in its first part and in the others.
abbrev pub BodyLaw : Type 0
BodyLaw = (g : Ground) (a : Around) (b : BodyTree) (bs : List BodyTree) → told_at_all g (sites_of_parts a (body_nodes (b ∷ bs))) ≡ told_at_all g (sites_of_parts a (body_nodes (b ∷ []))) ++ told_at_all g (sites_of_parts a (body_nodes bs))

-- Arguments that go to as many equal receivers each go to that one.
abbrev pub SameReceiverLaw : Type 0
SameReceiverLaw = (g : Ground) (r : Receiver) (es : ExprNodes) → told_in_args g (replicate (count_exprs es) r) es ≡ told_in_all g r es

-- Arguments without receivers each go to a place of no known mode.
abbrev pub NoReceiversLaw : Type 0
NoReceiversLaw = (g : Ground) (es : ExprNodes) → told_in_args g [] es ≡ told_in_all g (of_mode None) es

-- Where a receiver has no mode, and can't have one, the same is told in an expression as in an operand.
abbrev pub AlikeLaw : Type 0
AlikeLaw = (g : Ground) (r : Receiver) → received_mode r ≡ None → may_have_mode r ≡ false → (e : ExprTree) → told_in g r e ≡ told_in g nothing_asked e

-- A message has the parts of its signal, or the one of its buffer.
abbrev pub MessagesLaw : Type 0
MessagesLaw = (e : Option Entry) (o : Option Origin) → message_of e o ≡ either (parts_by e o) (part_of_buffer e)
