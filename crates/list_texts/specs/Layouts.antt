-- The lines of a layout.
use Rattle.std.specs.Prelude.{ℕ, List, [], ◌∷◌, ◌++◌, codes}
use Rattle.std.specs.Fmt.{decimal}
use Rattle.std.specs.List.{flat_map}
use Rattle.chill_base.specs.declared.layout.Bits.{Bits}
use Rattle.checked_program.specs.declared.program.LocationRow.{LocationRow}
use Rattle.modes.specs.ModeTree.{ModeTree, mode_tree}
use Rattle.layout_map.specs.Spots.{words_of}
use Rattle.layout_map.specs.Outcome.{Outcome, spots, overlap, impossible, outcome_of}
use Rattle.list_texts.specs.Paths.{paths_of}

-- the spots, where there are any
abbrev pub spots_in : Outcome → List Bits
spots_in (spots bits) = bits
spots_in (overlap first second) = []
spots_in (impossible field) = []

abbrev pub layout_of : ModeTree → List Bits
layout_of m = spots_in (outcome_of m)

abbrev pub count_text : ℕ → List ℕ
count_text words = codes " " ++ decimal words ++ codes " words\n"

-- location NAME N words
abbrev pub head_line : List ℕ → ℕ → List ℕ
head_line name words = codes "location " ++ name ++ count_text words

--  PATH word W bits S to E
abbrev pub spot_line : List ℕ → Bits → List ℕ
spot_line path b = codes " " ++ path ++ codes " word " ++ decimal b.word ++ codes " bits " ++ decimal b.start ++ codes " to " ++ decimal b.end ++ codes "\n"

-- a line for each scalar, of which the paths and the places are given
abbrev pub spot_lines : List (List ℕ) → List Bits → List ℕ
spot_lines [] bits = []
spot_lines (path ∷ paths) [] = []
spot_lines (path ∷ paths) (b ∷ bits) = spot_line path b ++ spot_lines paths bits

abbrev pub mode_lines : List ℕ → ModeTree → List ℕ
mode_lines name m = head_line name (words_of (layout_of m)) ++ spot_lines (paths_of m []) (layout_of m)

abbrev pub location_lines : LocationRow → List ℕ
location_lines row = mode_lines row.name (mode_tree row.mode.value)

-- The lines of the locations, in the order of the text.
abbrev pub layout_lines : List LocationRow → List ℕ
layout_lines = flat_map location_lines
