-- The code of bodies and programs, with their rows.
use Rattle.std.specs.Prelude.{ℕ, ◌+◌, max, Bool, true, false, ◌||◌, List, [], ◌∷◌, ◌++◌, ℤ, pos, length, drop, map, Option, Some, None, if◌then◌else◌}
use Rattle.std.specs.List.{list_all}
use Rattle.modes.specs.ModeTree.{ModeTree}
use Rattle.modes.specs.Scalars.{lowest_of}
use Rattle.code_types.specs.declared.instr.Instr.{Instr}
use Rattle.code_types.specs.declared.instr.Instr.TheVariants as i
use Rattle.code_types.specs.declared.code.BodyRow.{BodyRow}
use Rattle.code_types.specs.declared.code.Code.{Code}
use Rattle.code_types.specs.declared.code.Handler.{Handler}
use Rattle.code_types.specs.Places.{height_after}
use Rattle.checked_program.specs.declared.program.Sort.{Sort}
use Rattle.checked_program.specs.declared.program.Sort.TheVariants.{Outermost, Process, Procedure}
use Rattle.program_trees.specs.ProgramTree.{CheckedTree, BodyRowTree, LocalRowTree}
use Rattle.program_trees.specs.StatementTree.{StatementTree, statement, ActionTree, set_lowest, StatementNodes, no_statements, more_statements}
use Rattle.code_scheme.specs.Pieces.{scalars_code, are_same}
use Rattle.code_scheme.specs.StatementSite.{Site, Standing, parameter_scalars, declared_scalars, first_free, call_results}
use Rattle.code_scheme.specs.StatementGoing.{go_on, handler_goes_on}
use Rattle.code_scheme.specs.StatementPlain.{entered_by, way_out_code}
use Rattle.code_scheme.specs.StatementCode.{handler_code}
use Rattle.code_scheme.specs.StatementRows.{handler_rows}
use Rattle.code_scheme.specs.BodyItems.{raised_and_listed, raise_again_code, raise_again_rows, items_code, items_rows}

-- ---- the lowest values that a frame begins with

-- the locals from the first on get the lowest value of a mode; they are 0 already
abbrev pub lowest_value_code : List ℤ → ℕ → List Instr
lowest_value_code xs first =
    if list_all (λ x. are_same x (pos 0)) xs then [] else scalars_code xs ++ i.SetLocal first (length xs) ∷ []

abbrev pub locals_code : List LocalRowTree → List Instr
locals_code [] = []
locals_code (row ∷ rows) = lowest_value_code (lowest_of row.mode) row.first ++ locals_code rows

abbrev pub lowest_result_code : Option ModeTree → ℕ → List Instr
lowest_result_code None first = []
lowest_result_code (Some m) first = lowest_value_code (lowest_of m) first

-- the locals behind the parameters, and the result
abbrev pub lowest_code : BodyRowTree → List Instr
lowest_code b = locals_code (drop (length b.parameters) b.locals) ++ lowest_result_code b.result (declared_scalars b)

-- ---- what a body does

-- a declaration without a value
abbrev pub is_set_lowest : ActionTree → Bool
is_set_lowest (set_lowest locals xs) = true
is_set_lowest a = false

abbrev pub sets_lowest : StatementTree → Bool
sets_lowest (statement labelled a h) = is_set_lowest a

-- the statements behind the declarations without a value that stand first: a frame begins with the lowest values
abbrev pub behind_lowest : StatementNodes → StatementNodes
behind_lowest no_statements = no_statements
behind_lowest (more_statements s ss) = if sets_lowest s then behind_lowest ss else more_statements s ss

-- where the statements of a body stand
abbrev pub standing_in : Site → Standing
standing_in site = record { site = site; free = first_free site.body; exits = [] }

-- the statements of a body, and behind them its handler
abbrev pub items_of : Site → ℕ → List Instr
items_of site at = items_code (standing_in site) (behind_lowest site.body.statements) at

abbrev pub guarded_code : Site → ℕ → List Instr
guarded_code site at =
    items_of site at ++ handler_code (standing_in site) site.body.handler (go_on site.body.statements) (at + length (items_of site at))

abbrev pub guarded_rows : Site → ℕ → List Handler
guarded_rows site at =
    items_rows (standing_in site) (behind_lowest site.body.statements) at ++
    handler_rows site site.body.handler (go_on site.body.statements) at (at + length (items_of site at))

-- control may come to the end of the body
abbrev pub comes_to_end : BodyRowTree → Bool
comes_to_end b = go_on b.statements || handler_goes_on b.handler

-- the way out, where it may
abbrev pub end_code : BodyRowTree → List Instr
end_code b = if comes_to_end b then way_out_code b else []

-- the exceptions that a critical procedure raises again behind the release of its region, where its statements stand from a
-- place on
abbrev pub raised_again : Site → ℕ → List ℕ
raised_again site at = raised_and_listed site.program (guarded_code site at) site.body.listed

-- what a body does behind the lowest values; a critical procedure enters its region before, and leaves it behind
abbrev pub doing_code : Option ℕ → Site → ℕ → List Instr
doing_code None site at = guarded_code site at ++ end_code site.body
doing_code (Some r) site at =
    i.Enter r ∷ (guarded_code site (at + 1) ++ (end_code site.body ++ raise_again_code r (raised_again site (at + 1))))

abbrev pub doing_rows : Option ℕ → Site → ℕ → List Handler
doing_rows None site at = guarded_rows site at
doing_rows (Some r) site at =
    guarded_rows site (at + 1) ++
    raise_again_rows (at + 1) (at + 1 + length (guarded_code site (at + 1))) (raised_again site (at + 1))
    (at + 1 + length (guarded_code site (at + 1)) + length (end_code site.body))

abbrev pub body_code : Site → ℕ → List Instr
body_code site at =
    lowest_code site.body ++ doing_code (entered_by site.body) site (at + length (lowest_code site.body))

abbrev pub body_handlers : Site → ℕ → List Handler
body_handlers site at = doing_rows (entered_by site.body) site (at + length (lowest_code site.body))

-- ---- what the row of a body says

-- how many scalars a call of it gives back; a process gives none
abbrev pub results_by : Sort → BodyRowTree → ℕ
results_by Outermost b = 0
results_by Process b = 0
results_by Procedure b = call_results b

-- the rows of bodies, as far as the heights at calls ask for them
abbrev pub head_of : BodyRowTree → BodyRow
head_of b = record { first = 0; params = parameter_scalars b; locals = 0; results = call_results b; height = 0; listed = b.listed }

abbrev pub heads_of : CheckedTree → Code
heads_of p = record { instrs = []; handlers = []; bodies = map head_of p.bodies }

-- The height of the stack behind an instruction that finds a height; nothing is on it behind a Return.
abbrev pub height_behind : Code → Instr → ℕ → ℕ
height_behind heads i.Return height = 0
height_behind heads instr height = height_after heads 0 instr height

-- the greatest height behind some instruction, or the one that is told
abbrev pub greatest_height : Code → ℕ → ℕ → List Instr → ℕ
greatest_height heads height greatest [] = greatest
greatest_height heads height greatest (instr ∷ is) =
    greatest_height heads (height_behind heads instr height) (max greatest (height_behind heads instr height)) is

-- how many locals a body has at least that has the instruction
abbrev pub locals_named : Instr → ℕ
locals_named (i.Local first count) = first + count
locals_named (i.SetLocal first count) = first + count
locals_named (i.LocalAt first count) = first + count
locals_named (i.SetLocalAt first count) = first + count
locals_named instr = 0

-- as many as its instructions name, and at least so many
abbrev pub most_locals : ℕ → List Instr → ℕ
most_locals n [] = n
most_locals n (instr ∷ is) = most_locals (max n (locals_named instr)) is

abbrev pub body_row : Site → ℕ → BodyRow
body_row site at = record {
  first = at;
  params = parameter_scalars site.body;
  locals = most_locals (first_free site.body) (body_code site at);
  results = results_by site.body.sort site.body;
  height = greatest_height (heads_of site.program) 0 0 (body_code site at);
  listed = site.body.listed;
}

-- ---- programs

abbrev pub site_in : CheckedTree → BodyRowTree → Site
site_in p b = record { program = p; body = b }

-- bodies of a program one behind the other, the first of which has this place
abbrev pub bodies_code : CheckedTree → List BodyRowTree → ℕ → List Instr
bodies_code p [] at = []
bodies_code p (b ∷ bs) at = body_code (site_in p b) at ++ bodies_code p bs (at + length (body_code (site_in p b) at))

abbrev pub bodies_handlers : CheckedTree → List BodyRowTree → ℕ → List Handler
bodies_handlers p [] at = []
bodies_handlers p (b ∷ bs) at = body_handlers (site_in p b) at ++ bodies_handlers p bs (at + length (body_code (site_in p b) at))

abbrev pub body_rows : CheckedTree → List BodyRowTree → ℕ → List BodyRow
body_rows p [] at = []
body_rows p (b ∷ bs) at = body_row (site_in p b) at ∷ body_rows p bs (at + length (body_code (site_in p b) at))

-- The code of a program.
abbrev pub code_of : CheckedTree → Code
code_of p = record {
  instrs = bodies_code p p.bodies 0;
  handlers = bodies_handlers p p.bodies 0;
  bodies = body_rows p p.bodies 0;
}
