-- The law of nodes by definitions: where the definitions of a text stand among its nodes.
use Rattle.std.specs.Prelude.{◌≡◌, ℕ, Bool, List, length, Option, Some, slice_get}
use Rattle.std.specs.List.{Contains}
use Rattle.chill_tree.specs.declared.tree.name.Name.{Name}
use Rattle.chill_tree.specs.declared.tree.item.ModulionKind.{ModulionKind}
use Rattle.chill_tree.specs.ItemTree.{ItemNodes, procedure, process, ProgramTree}
use Rattle.checks_model.specs.Ground.{Origin, a_synonym, a_location, a_counter, a_received, a_procedure, a_process}
use Rattle.checks_model.specs.Origins.{origins_of}
use Rattle.checks_model.specs.Sites.{Site, in_procedure, in_no_procedure, at_item, at_synonym, at_declaration, at_control, at_source, at_received, sites_of_body, items_of, sites}
use Rattle.written_laws.specs.Written.{Each}
use Rattle.expression_laws.specs.Exits.{ItemExits}

-- what is so of nodes is so of those at which something is defined: of a synonym, a declaration, the control of a loop, what is received, and
-- of the nodes of a body; and each EXIT in a body has the label of an action around it
abbrev pub NodesOf : (Site → Type 0) → Origin → Type 0
NodesOf P (a_synonym s) = P (at_synonym s)
NodesOf P (a_location d) = (shared : Bool) × P (at_declaration shared d)
NodesOf P (a_counter c) = P (at_control c)
NodesOf P (a_received n count part) = (earlier : List Name) × ((ns : List Name) × ((length ns ≡ count) × (P (at_source earlier n) × P (at_received n (Some ns)))))
NodesOf P (a_procedure p) = ((kind : ModulionKind) × ((all : ItemNodes) × P (at_item kind all (procedure p)))) × (ItemExits (procedure p) × Each P (sites_of_body (in_procedure p) p.body p.handler))
NodesOf P (a_process p) = ItemExits (process p) × Each P (sites_of_body in_no_procedure p.body p.handler)
NodesOf P o = Unit {0}

-- Each definition of a text stands at nodes of it.
abbrev pub NodesLaw : Type 0
NodesLaw = (t : ProgramTree) → Each ItemExits (items_of t) → (d : ℕ) (o : Origin) → slice_get (origins_of t) d ≡ Some o → NodesOf (λ n. Contains (sites t) n) o
