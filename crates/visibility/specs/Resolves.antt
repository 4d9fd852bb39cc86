-- What is answered of the names of a program.
use Rattle.std.specs.Prelude.{◌≡◌, ◌≢◌, List, [], Result, Ok, Err}
use Rattle.diagnostics.specs.declared.diagnostic.Diagnostic.{Diagnostic}
use Rattle.chill_tree.specs.ItemTree.{ProgramTree}
use Rattle.names_model.specs.declared.names.Names.{Names}
use Rattle.names_model.specs.Resolving.{broken_names, level_of, names_of}
use Rattle.visibility.specs.declared.refusal.Refusal.{Refusal}
use Rattle.visibility.specs.declared.refusal.Refusal.TheVariants as refusals

-- Rules are broken exactly where the list of the phase isn't empty, with that list; else the names are those of the program.
-- Want of memory may come anywhere.
abbrev pub Resolves : ProgramTree → Result Names Refusal → Type 0
Resolves tree (Ok names) = (broken_names (level_of tree) ≡ []) × (names ≡ names_of (level_of tree))
Resolves tree (Err (refusals.Broken list)) = (list ≡ broken_names (level_of tree)) × (list ≢ [])
Resolves tree (Err refusals.Memory) = Unit {0}
