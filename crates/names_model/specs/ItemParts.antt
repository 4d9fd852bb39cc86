-- The parts of programs and modulions.
use Rattle.std.specs.Prelude.{Bool, true, false, List, [], ◌∷◌, ◌++◌, map, flat_map, Option, Some, None}
use Rattle.chill_tree.specs.declared.tree.name.Name.{Name}
use Rattle.chill_tree.specs.declared.tree.item.ModulionKind.{ModulionKind}
use Rattle.chill_tree.specs.declared.tree.item.ModulionKind.TheVariants as modulions
use Rattle.chill_tree.specs.declared.tree.item.Passed.{Passed}
use Rattle.chill_tree.specs.declared.tree.item.Passed.TheVariants.{Names, All}
use Rattle.chill_tree.specs.StatementTree.{BodyTree, HandlerTree, handler_node, body_nodes}
use Rattle.chill_tree.specs.ModeTree.{ModeTree}
use Rattle.chill_tree.specs.ItemTree.{SignalTree, ParamTree, ProcedureTree, FormalTree, ProcessTree, ItemTree, ItemNodes, local_item, signals, procedure, process, action, no_items, more_items, ProgramTree, modulion_item}
use Rattle.chill_tree.specs.ItemTree.{seize as seize_item, grant as grant_item, modulion as modulion_of}
use Rattle.names_model.specs.declared.kind.Kind.{Kind}
use Rattle.names_model.specs.declared.kind.Kind.TheVariants as kinds
use Rattle.names_model.specs.declared.kind.Need.TheVariants as needs
use Rattle.names_model.specs.declared.part.Mention.{Mention}
use Rattle.names_model.specs.declared.part.Clause.{Clause}
use Rattle.names_model.specs.Identifiers.{identifier}
use Rattle.names_model.specs.Parts.{PartTree, define, seize, seize_all, grant, grant_all, modulion, routine, part_nodes}
use Rattle.names_model.specs.Sizes.{sizes_of}
use Rattle.names_model.specs.ExprMentions.{used}
use Rattle.names_model.specs.ModeMentions.{mentions_of_mode, mentions_of_some_mode}
use Rattle.names_model.specs.StatementParts.{clause, mentioned, local_parts, statement_parts, body_parts, handler_parts}

abbrev pub is_region : ModulionKind → Bool
is_region modulions.Module = false
is_region modulions.Region = true

abbrev pub seized : Passed → List PartTree
seized (Names ns) = map (λ n. seize (identifier n)) ns
seized (All at) = seize_all at ∷ []

abbrev pub granted : Passed → List PartTree
granted (Names ns) = map (λ n. grant (identifier n)) ns
granted (All at) = grant_all at ∷ []

-- the process that a signal is for
abbrev pub receiver_parts : Option Name → List PartTree
receiver_parts None = []
receiver_parts (Some n) = mentioned (used needs.Process n)

abbrev pub mentions_of_parts : Option (List ModeTree) → List Mention
mentions_of_parts None = []
mentions_of_parts (Some ms) = flat_map mentions_of_mode ms

abbrev pub signal_parts : SignalTree → List PartTree
signal_parts s = define (clause kinds.Signal (s.name ∷ []) (mentions_of_parts s.parts)) ∷ receiver_parts s.process

abbrev pub param_clause : ParamTree → Clause
param_clause p = clause kinds.Parameter p.names (mentions_of_mode p.mode)

abbrev pub formal_clause : FormalTree → Clause
formal_clause p = clause kinds.Parameter p.names (mentions_of_mode p.mode)

-- a body with its handler; no label around it encloses what is in it
abbrev pub whole_body : List BodyTree → Option HandlerTree → List PartTree
whole_body ps h = body_parts [] (body_nodes ps) ++ handler_parts [] (handler_node h)

abbrev pub routine_of : Name → Kind → List Clause → List Mention → List PartTree → PartTree
routine_of n kind params result ps = routine (identifier n) kind params result (sizes_of (part_nodes ps)) (part_nodes ps)

abbrev pub modulion_part : Name → ModulionKind → List PartTree → PartTree
modulion_part n kind ps = modulion (identifier n) (is_region kind) (sizes_of (part_nodes ps)) (part_nodes ps)

abbrev pub procedure_part : ProcedureTree → PartTree
procedure_part p = routine_of p.name kinds.Procedure (map param_clause p.params) (mentions_of_some_mode p.returns) (whole_body p.body p.handler)

abbrev pub process_part : ProcessTree → PartTree
process_part p = routine_of p.name kinds.Process (map formal_clause p.formals) [] (whole_body p.body p.handler)

abbrev mutual
  pub item_parts : ItemTree → List PartTree
  item_parts (seize_item at passed) = seized passed
  item_parts (grant_item at passed) = granted passed
  item_parts (local_item l) = local_parts l
  item_parts (signals at ss) = flat_map signal_parts ss
  item_parts (procedure p) = procedure_part p ∷ []
  item_parts (process p) = process_part p ∷ []
  item_parts (modulion_of n kind items h closing) = modulion_part n kind (each_item items ++ handler_parts [] (handler_node h)) ∷ []
  item_parts (action s) = statement_parts [] s

  pub each_item : ItemNodes → List PartTree
  each_item no_items = []
  each_item (more_items i is) = item_parts i ++ each_item is

-- the parts of the outermost level
abbrev pub program_parts : ProgramTree → List PartTree
program_parts t = flat_map (λ m. item_parts (modulion_item m)) t.modulions
