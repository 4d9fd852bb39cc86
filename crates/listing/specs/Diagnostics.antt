-- The lines of diagnostics.
use Rattle.std.specs.Prelude.{ℕ, List, [], ◌∷◌, ◌++◌, codes}
use Rattle.std.specs.List.{flat_map}
use Rattle.std.specs.Fmt.{decimal}
use Rattle.diagnostics.specs.declared.diagnostic.Diagnostic.{Diagnostic}
use Rattle.diagnostics.specs.Rules.{name_of, text_of, filled}

-- LINE:COLUMN: RULE TEXT, and a line feed
abbrev pub line_of : Diagnostic → List ℕ
line_of d =
    decimal d.at.line ++ codes ":" ++ decimal d.at.column ++ codes ": "
    ++ name_of d.rule ++ codes " " ++ filled d.first d.second (text_of d.rule) ++ codes "\n"

-- a line for each, in order
abbrev pub lines_of : List Diagnostic → List ℕ
lines_of = flat_map line_of
