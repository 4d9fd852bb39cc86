-- Modules and regions at their places, and the exceptions that are raised again behind the release of a region.
use Rattle.std.specs.Prelude.{ℕ, zero, suc, ◌+◌, ◌*◌, nat_lt, ◌==◌, Bool, true, false, ◌||◌, List, [], ◌∷◌, ◌++◌, filter, length, Option, Some, None, slice_get, if◌then◌else◌}
use Rattle.std.specs.List.{list_any}
use Rattle.code_types.specs.declared.instr.Instr.{Instr}
use Rattle.code_types.specs.declared.instr.Instr.TheVariants as i
use Rattle.code_types.specs.declared.code.Handler.{Handler}
use Rattle.program_trees.specs.ProgramTree.{CheckedTree, BodyRowTree}
use Rattle.program_trees.specs.StatementTree.{StatementTree, statement, ActionTree, module_at, region_at, StatementNodes, no_statements, more_statements, HandlerNode}
use Rattle.code_scheme.specs.StatementSite.{Standing}
use Rattle.code_scheme.specs.StatementGoing.{go_on, goes_on}
use Rattle.code_scheme.specs.StatementSize.{statements_size}
use Rattle.code_scheme.specs.StatementCode.{statements_code, statement_code, handler_code}
use Rattle.code_scheme.specs.StatementRows.{row_for, statements_rows, statement_rows, handler_rows}

-- ---- exceptions that can arise in instructions

-- how many exceptions the language has; the text's are numbered behind them
abbrev pub language_exceptions : ℕ
language_exceptions = 7

abbrev pub listed_in : Option BodyRowTree → List ℕ
listed_in None = []
listed_in (Some b) = b.listed

abbrev pub is_among : ℕ → List ℕ → Bool
is_among x xs = list_any (λ y. y == x) xs

-- the instruction raises the exception of this number, or calls a procedure that lists it
abbrev pub raises : CheckedTree → ℕ → Instr → Bool
raises p x (i.Raise y) = y == x
raises p x (i.Call b) = is_among x (listed_in (slice_get p.bodies b))
raises p x instr = false

-- an exception of the language, or one that some instruction raises
abbrev pub can_arise : CheckedTree → List Instr → ℕ → Bool
can_arise p is x = nat_lt x language_exceptions || list_any (raises p x) is

-- so many numbers from one on
abbrev pub numbers_from : ℕ → ℕ → List ℕ
numbers_from k zero = []
numbers_from k (suc n) = k ∷ numbers_from (suc k) n

-- the exceptions that can arise in the instructions, rising
abbrev pub raised_in : CheckedTree → List Instr → List ℕ
raised_in p is = filter (can_arise p is) (numbers_from 0 (language_exceptions + length p.exceptions))

-- those of them that are listed
abbrev pub raised_and_listed : CheckedTree → List Instr → List ℕ → List ℕ
raised_and_listed p is listed = filter (λ x. is_among x listed) (raised_in p is)

-- each exception releases the region and is raised again
abbrev pub raise_again_code : ℕ → List ℕ → List Instr
raise_again_code r [] = []
raise_again_code r (x ∷ xs) = i.Leave r ∷ i.Raise x ∷ raise_again_code r xs

-- it has a row of its own, for the instructions from one place up to another; what is done for the first one has this place
abbrev pub raise_again_rows : ℕ → ℕ → List ℕ → ℕ → List Handler
raise_again_rows from until [] target = []
raise_again_rows from until (x ∷ xs) target = row_for from until (x ∷ []) false target ∷ raise_again_rows from until xs (target + 2)

-- ---- regions

-- the initialisations of a region with its handler
abbrev pub initialising_code : Standing → StatementNodes → HandlerNode → ℕ → List Instr
initialising_code w ss h at = statements_code w ss at ++ handler_code w h true (at + statements_size w.site ss)

-- what stands behind them: the region is released, also where an exception goes out of them
abbrev pub releasing_code : CheckedTree → ℕ → List Instr → ℕ → List Instr
releasing_code p r inside at =
    i.Leave r ∷ i.Jump (at + (2 * length (raised_in p inside) + 2)) ∷ raise_again_code r (raised_in p inside)

abbrev pub region_code : Standing → ℕ → StatementNodes → HandlerNode → ℕ → List Instr
region_code w r ss h at =
    i.Enter r ∷
    (initialising_code w ss h (at + 1) ++
    releasing_code w.site.program r (initialising_code w ss h (at + 1)) (at + 1 + length (initialising_code w ss h (at + 1))))

abbrev pub region_rows : Standing → ℕ → StatementNodes → HandlerNode → ℕ → List Handler
region_rows w r ss h at =
    statements_rows w.site ss (at + 1) ++
    (handler_rows w.site h true (at + 1) (at + 1 + statements_size w.site ss) ++
    raise_again_rows (at + 1) (at + 1 + length (initialising_code w ss h (at + 1))) (raised_in w.site.program (initialising_code w ss h (at + 1)))
    (at + 1 + length (initialising_code w ss h (at + 1)) + 2))

-- ---- items

abbrev mutual
  -- statements, modules and regions in their order, as far as control comes
  pub items_code : Standing → StatementNodes → ℕ → List Instr
  items_code w no_statements at = []
  items_code w (more_statements s ss) at =
      item_code w s at ++ (if goes_on s then items_code w ss (at + length (item_code w s at)) else [])

  pub item_code : Standing → StatementTree → ℕ → List Instr
  item_code w (statement labelled a h) at = item_action_code w labelled a h at

  -- a module with its handler, a region, or a statement
  pub item_action_code : Standing → Bool → ActionTree → HandlerNode → ℕ → List Instr
  item_action_code w labelled (module_at ss) h at = items_code w ss at ++ handler_code w h (go_on ss) (at + length (items_code w ss at))
  item_action_code w labelled (region_at r ss) h at = region_code w r ss h at
  item_action_code w labelled a h at = statement_code w (statement labelled a h) at

abbrev mutual
  pub items_rows : Standing → StatementNodes → ℕ → List Handler
  items_rows w no_statements at = []
  items_rows w (more_statements s ss) at =
      item_rows w s at ++ (if goes_on s then items_rows w ss (at + length (item_code w s at)) else [])

  pub item_rows : Standing → StatementTree → ℕ → List Handler
  item_rows w (statement labelled a h) at = item_action_rows w labelled a h at

  pub item_action_rows : Standing → Bool → ActionTree → HandlerNode → ℕ → List Handler
  item_action_rows w labelled (module_at ss) h at =
      items_rows w ss at ++ handler_rows w.site h (go_on ss) at (at + length (items_code w ss at))
  item_action_rows w labelled (region_at r ss) h at = region_rows w r ss h at
  item_action_rows w labelled a h at = statement_rows w.site (statement labelled a h) at
