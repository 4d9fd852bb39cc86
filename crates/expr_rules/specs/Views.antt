-- What receives expressions, what they call, where they lie, and how tuples are made: without where it lies in memory.
use Rattle.std.specs.Prelude.{ℕ, Bool, true, false, List, map, Option, Some, None, option_map}
use Rattle.std.specs.Borrow.{Bor}
use Rattle.std.specs.declared.alloc.Global.{Global}
use Rattle.std.specs.declared.rc.Rc.{Rc}
use Rattle.modes.specs.declared.mode.Mode.{Mode}
use Rattle.modes.specs.declared.mode.Class.{Class}
use Rattle.modes.specs.ModeTree.{ModeTree, ClassTree, mode_tree, class_tree, field_nodes, field_trees}
use Rattle.class_operators.specs.Predefined.{predefined_tree}
use Rattle.checks_model.specs.Classes as classes
use Rattle.checks_model.specs.Classes.{field_mode_at}
use Rattle.checks_model.specs.ValueRules as model
use Rattle.checks_model.specs.ValueRules.{nothing_asked, of_mode, passed_back, condition, selector, bound, set_of_members, passed}
use Rattle.expr_rules.specs.declared.receiving.Receiver.{Receiver}
use Rattle.expr_rules.specs.declared.receiving.Receiver.TheVariants as receivers
use Rattle.expr_rules.specs.declared.places.Access.{Access}
use Rattle.expr_rules.specs.declared.places.Access.TheVariants as accesses
use Rattle.expr_rules.specs.declared.places.Located.{Located}
use Rattle.expr_rules.specs.declared.classes.Callee.{Callee}
use Rattle.expr_rules.specs.declared.classes.Callee.TheVariants as callees
use Rattle.expr_rules.specs.declared.formals.Formal.{Formal}
use Rattle.expr_rules.specs.declared.tuples.Shape.{Shape}
use Rattle.expr_rules.specs.declared.tuples.Shape.TheVariants as shapes

abbrev pub mode_behind : Bor (Rc Mode Global) → ModeTree
mode_behind m = mode_tree m.now.value

abbrev pub some_mode : Option (Bor (Rc Mode Global)) → Option ModeTree
some_mode m = option_map mode_behind m

abbrev pub own_mode : Option (Rc Mode Global) → Option ModeTree
own_mode m = option_map (λ m. mode_tree m.value) m

abbrev pub own_class : Option Class → Option ClassTree
own_class c = option_map class_tree c

abbrev pub some_class : Option (Bor Class) → Option ClassTree
some_class c = option_map (λ c. class_tree c.now) c

-- the modes of a signal's parts
abbrev pub part_modes : List (Option (Rc Mode Global)) → List (Option ModeTree)
part_modes ms = map own_mode ms

abbrev pub receiver_tree : Receiver → model.Receiver
receiver_tree receivers.Nothing = nothing_asked
receiver_tree (receivers.Mode m) = of_mode (some_mode m)
receiver_tree (receivers.Location m) = passed_back (some_mode m)
receiver_tree receivers.Condition = condition
receiver_tree receivers.Selector = selector
receiver_tree receivers.Bound = bound
receiver_tree receivers.Members = set_of_members

abbrev pub access_tree : Access → model.Access
access_tree accesses.Free = model.free
access_tree accesses.ReadOnly = model.read_only
access_tree accesses.NoLocation = model.no_location

abbrev pub located_tree : Located → model.Located
located_tree l = model.located (access_tree l.access) (own_mode l.mode)

abbrev pub callee_tree : Callee → classes.Callee
callee_tree (callees.Procedure n) = classes.calls n.now
callee_tree (callees.Routine p) = classes.routine (predefined_tree p)
callee_tree callees.Nothing = classes.no_callee

-- what receives the argument for a formal
abbrev pub formal_receiver : Formal → model.Receiver
formal_receiver f = passed (Some f.passing) (some_mode f.mode)

-- the mode of part k of a tuple
abbrev pub part_of_shape : Shape → ℕ → Option ModeTree
part_of_shape shapes.Unknown k = None
part_of_shape shapes.Misfit k = None
part_of_shape (shapes.Members m) k = Some (mode_behind m)
part_of_shape (shapes.Elements m) k = Some (mode_behind m)
part_of_shape (shapes.Fields fs) k = field_mode_at k (field_nodes (field_trees fs.now))

-- S11: there is no mode, or the tuple hasn't its form
abbrev pub shape_misfits_at : Shape → Bool
shape_misfits_at shapes.Misfit = true
shape_misfits_at _ = false
