-- What is reached by items is so of the routines among what defines something.
use Rattle.std.proofs.Common.{◌≡◌, ℕ, true, List, [], ◌∷◌, ◌++◌, Option, Some, None, refl, true≢false}
use Rattle.std.specs.Prelude.{map, flat_map, slice_get}
use Rattle.chill_tree.specs.ModeTree as written
use Rattle.chill_tree.specs.StatementTree.{handler_node}
use Rattle.chill_tree.specs.ItemTree.{SignalTree, ParamTree, FormalTree, ItemTree, ItemNodes, seize, grant, local_item, signals, procedure, process, modulion, action, no_items, more_items, ModulionTree, modulion_item, ProgramTree}
use Rattle.names_model.specs.Definitions.{text_definitions}
use Rattle.names_model.specs.Resolving.{level_of}
use Rattle.checks_model.specs.Ground.{Origin, a_parameter, a_procedure, a_process}
use Rattle.checks_model.specs.Origins.{sets_in, elements_of, elements_of_some, origins_of_local, origins_in, origins_in_handler, origins_of_signal, origins_of_param, origins_of_formal, origins_of_body, origins_of_item, origins_of_items, in_both_cases, text_origins, predefined_origins, origins_of}
use Rattle.checks_model.specs.Sites.{in_procedure, in_no_procedure, items_of}
use Rattle.written_laws.specs.Written.{Each}
use Rattle.written_laws.proofs.Shown.{each_append, each_any, each_flat}
use Rattle.written_laws.proofs.Sets.{each_more}
use Rattle.written_laws.proofs.WrittenSo.{each_predefined, each_there}
use Rattle.elaboration_model.specs.Numbering.{Source}
use Rattle.reached_laws.specs.Reached.{IsItemReached, AreItemsReached}
use Rattle.reached_laws.proofs.Reaches.{Fact}
use Rattle.reached_laws.proofs.Walked.{NotRoutine}
use Rattle.reached_laws.proofs.Bodies.{elements_none, some_none, names_none, local_walked, statement_walked, handler_walked, whole_walked}

-- a routine that stands in a region or in none
abbrev pub RoutineWithin : Source → Origin → Type 0
RoutineWithin s (a_procedure p) = (region : Option ℕ) × IsItemReached s region (procedure p)
RoutineWithin s (a_process p) = (region : Option ℕ) × IsItemReached s region (process p)
RoutineWithin s o = Unit {0}

module _ (s : Source) (t : ProgramTree) where
  abbrev Nothing : Fact (text_definitions (level_of t))
  Nothing = λ d x. Unit {0}

  abbrev Within : List Origin → Type 0
  Within os = Each (RoutineWithin s) os

  other : (o : Origin) → NotRoutine o → RoutineWithin s o
  other (a_procedure p) none = absurd (true≢false none)
  other (a_process p) none = absurd (true≢false none)
  other o none = tt

  none_within : (os : List Origin) → Each NotRoutine os → Within os
  none_within os none = each_more NotRoutine (RoutineWithin s) other os none

  both : (os us : List Origin) → Within os → Within us → Within (os ++ us)
  both os us one later = each_append (RoutineWithin s) os us one later

  params_none : (ps : List ParamTree) → Each NotRoutine (flat_map origins_of_param ps)
  params_none [] = tt
  params_none (p ∷ ps) = each_append NotRoutine (origins_of_param p) (flat_map origins_of_param ps) (names_none p.names (a_parameter p.mode) (elements_of None p.mode) refl (elements_none None (sets_in p.mode))) (params_none ps)

  formals_none : (ps : List FormalTree) → Each NotRoutine (flat_map origins_of_formal ps)
  formals_none [] = tt
  formals_none (p ∷ ps) = each_append NotRoutine (origins_of_formal p) (flat_map origins_of_formal ps) (names_none p.names (a_parameter p.mode) (elements_of None p.mode) refl (elements_none None (sets_in p.mode))) (formals_none ps)

  modes_none : (ws : List written.ModeTree) → Each NotRoutine (flat_map (elements_of None) ws)
  modes_none [] = tt
  modes_none (w ∷ ws) = each_append NotRoutine (elements_of None w) (flat_map (elements_of None) ws) (elements_none None (sets_in w)) (modes_none ws)

  signal_within : (x : SignalTree) → Within (origins_of_signal x)
  signal_within x = (tt, by x.parts)
    where
      by : (ws : Option (List written.ModeTree)) → Within (elim ws [ None ↦ [] | Some ms ↦ flat_map (elements_of None) ms ])
      by None = tt
      by (Some ms) = none_within (flat_map (elements_of None) ms) (modes_none ms)

  signals_within : (xs : List SignalTree) → Within (flat_map origins_of_signal xs)
  signals_within [] = tt
  signals_within (x ∷ xs) = both (origins_of_signal x) (flat_map origins_of_signal xs) (signal_within x) (signals_within xs)

  mutual
    item_routines : (i : ItemTree) (region : Option ℕ) → IsItemReached s region i → Within (origins_of_item i)
    item_routines (seize at passed) region within = tt
    item_routines (grant at passed) region within = tt
    item_routines (local_item l) region within = none_within (origins_of_local l) (local_walked t Nothing true l).none
    item_routines (signals at ss) region within = signals_within ss
    item_routines (procedure p) region within =
        let head = flat_map origins_of_param p.params ++ elements_of_some p.returns in
        ((region, within), none_within (head ++ origins_of_body p.body p.handler) (each_append NotRoutine head (origins_of_body p.body p.handler) (each_append NotRoutine (flat_map origins_of_param p.params) (elements_of_some p.returns) (params_none p.params) (some_none p.returns)) (whole_walked t Nothing (in_procedure p) p.body p.handler).none))
    item_routines (process p) region within =
        ((region, within), none_within (flat_map origins_of_formal p.formals ++ origins_of_body p.body p.handler) (each_append NotRoutine (flat_map origins_of_formal p.formals) (origins_of_body p.body p.handler) (formals_none p.formals) (whole_walked t Nothing in_no_procedure p.body p.handler).none))
    item_routines (modulion n kind items h closing) region within =
        (tt, both (origins_of_items items) (origins_in_handler (handler_node h)) (items_routines items within.0 within.1.1.0) (none_within (origins_in_handler (handler_node h)) (handler_walked t Nothing (handler_node h) in_no_procedure []).none))
    item_routines (action x) region within = none_within (origins_in x) (statement_walked t Nothing x in_no_procedure []).none

    items_routines : (is : ItemNodes) (region : Option ℕ) → AreItemsReached s region is → Within (origins_of_items is)
    items_routines no_items region within = tt
    items_routines (more_items i is) region within = both (origins_of_item i) (origins_of_items is) (item_routines i region within.0) (items_routines is region within.1)

  modulions_routines : (ms : List ModulionTree) → Each (IsItemReached s None) (map modulion_item ms) → Within (flat_map (λ m. origins_of_item (modulion_item m)) ms)
  modulions_routines [] within = tt
  modulions_routines (m ∷ ms) within = both (origins_of_item (modulion_item m)) (flat_map (λ m. origins_of_item (modulion_item m)) ms) (item_routines (modulion_item m) None within.0) (modulions_routines ms within.1)

  pub routines_within : Each (IsItemReached s None) (items_of t) → (d : ℕ) (o : Origin) → slice_get (origins_of t) d ≡ Some o → RoutineWithin s o
  routines_within within d o at =
      each_there (RoutineWithin s) (origins_of t) d o
      (both (text_origins t) predefined_origins (modulions_routines t.modulions within) (each_flat (λ p. Unit {0}) (RoutineWithin s) in_both_cases (λ p fits. (tt, (tt, tt))) each_predefined (each_any (λ p. Unit {0}) (λ p. tt) each_predefined))) at
