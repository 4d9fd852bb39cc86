-- The text of a telephone exchange with so many subscribers.
use Rattle.std.specs.Prelude.{ℕ, zero, suc, List, [], ◌++◌, codes}
use Rattle.std.specs.Fmt.{decimal}
use Rattle.exchange_text.specs.Parts.{opening, exchange, report}

-- the trunks and the exchange, with the number of subscribers
abbrev pub exchange_of : ℕ → List ℕ
exchange_of n = opening ++ decimal n ++ exchange

-- the module that starts a subscriber
abbrev pub line_of : ℕ → List ℕ
line_of k = codes "line_" ++ decimal k ++ codes ": MODULE SEIZE subscriber; START subscriber(" ++ decimal k ++ codes "); END line_" ++ decimal k ++ codes ";\n"

-- those of the first subscribers, which count from 1
abbrev pub lines_to : ℕ → List ℕ
lines_to zero = []
lines_to (suc k) = lines_to k ++ line_of (suc k)

abbrev pub exchange_text : ℕ → List ℕ
exchange_text n = exchange_of n ++ lines_to n ++ report
