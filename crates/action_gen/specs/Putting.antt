-- Where statements stand, and which rows a handler has.
use Rattle.std.specs.Prelude.{ℕ, List, [], reverse, Bool, true, false}
use Rattle.code_types.specs.declared.code.Handler.{Handler}
use Rattle.checked_program.specs.declared.program.Checked.{Checked}
use Rattle.checked_program.specs.declared.program.Body.{Body}
use Rattle.program_trees.specs.ProgramTree.{checked_tree, body_row_tree}
use Rattle.program_trees.specs.StatementTree.{ActionTree, HandlerNode, no_handler, handler, perform, drop_routine, evaluate, put_int, put_text, put_line, start_of, delay, continue_at, send, if_then, case_of, do_loop, begin_end, delay_case, receive_buffers, receive_signals}
use Rattle.code_scheme.specs.StatementSite.{Site, Standing}
use Rattle.code_scheme.specs.StatementRows.{own_rows}
use Rattle.expr_gen.specs.declared.frames.Site.{Site as RustSite}
use Rattle.action_gen.specs.declared.around.Around.{Around}

-- a handler's own rows, for the instructions from one place up to another, where its alternatives begin at a place
abbrev pub rows_of_handler : Site → ℕ → ℕ → HandlerNode → ℕ → List Handler
rows_of_handler site from until no_handler target = []
rows_of_handler site from until (handler hs o) target = own_rows site from until hs o target

-- a body of a program
abbrev pub site_of : Checked → Body → Site
site_of program body = record { program = checked_tree program; body = body_row_tree body }

abbrev pub site_tree : RustSite → Site
site_tree site = site_of site.program.now site.body.now

-- where statements stand; the places behind labelled statements are told with the innermost one's last
abbrev pub standing_of : Around → Standing
standing_of around = record { site = site_tree around.site; free = around.free; exits = reverse around.exits.now }

-- an action that holds statements, a modulion aside
abbrev pub holds_statements : ActionTree → Bool
holds_statements (if_then cs ss) = true
holds_statements (case_of e cs o) = true
holds_statements (do_loop c ss) = true
holds_statements (begin_end ss) = true
holds_statements (delay_case set priority ds) = true
holds_statements (receive_buffers set rs o) = true
holds_statements (receive_signals set rs o) = true
holds_statements a = false

-- an action that chooses among alternatives
abbrev pub chooses : ActionTree → Bool
chooses (case_of e cs o) = true
chooses (delay_case set priority ds) = true
chooses (receive_buffers set rs o) = true
chooses (receive_signals set rs o) = true
chooses a = false

-- an action that calls, asks or puts
abbrev pub asks : ActionTree → Bool
asks (perform c) = true
asks (drop_routine r e) = true
asks (evaluate e) = true
asks (put_int e) = true
asks (put_text e) = true
asks put_line = true
asks (start_of t) = true
asks (delay e priority) = true
asks (continue_at e) = true
asks (send sent priority) = true
asks a = false
