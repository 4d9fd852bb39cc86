-- Which rows a handler appends.
use Rattle.std.specs.Prelude.{◌≡◌, ℕ, ◌+◌, Bool, List, [], ◌∷◌}
use Rattle.code_types.specs.declared.code.Handler.{Handler}
use Rattle.checked_program.specs.declared.statement.Handler.{Handler as CheckedHandler}
use Rattle.program_trees.specs.StatementTree.{handler_tree}
use Rattle.code_scheme.specs.StatementSize.{handler_size}
use Rattle.code_scheme.specs.StatementRows.{row_for}
use Rattle.expr_gen.specs.declared.building.Draft.{Draft}
use Rattle.expr_gen.specs.declared.frames.Site.{Site}
use Rattle.stmt_gen.specs.Appending.{AppendsRows}
use Rattle.action_gen.specs.Putting.{site_of, rows_of_handler}
use Rattle.stmt_gen.specs.declared.again.Span.{Span}

-- one row
abbrev pub PutsRow : Span → List ℕ → Bool → Draft → Draft → Type 0
PutsRow span names is_else old new =
    AppendsRows (row_for span.from span.until names is_else span.target ∷ []) old.code new.code

-- those of a handler, the first of which has this span, where this is the place behind its alternatives
pub record PutsRows (site : Site) (h : CheckedHandler) (first : Span) (behind : ℕ) (old new : Draft) : Type 0 where
  pub puts : behind ≡ first.target + handler_size (site_of site.program.now site.body.now) (handler_tree h)
      → AppendsRows (rows_of_handler (site_of site.program.now site.body.now) first.from first.until (handler_tree h) first.target) old.code new.code
