-- The line that is written of a journal's text, and the status.
use Rattle.std.specs.Prelude.{ℕ, List, [], ◌++◌, codes, Some, None}
use Rattle.std.specs.Fmt.{decimal}
use Rattle.std.specs.declared.option.Option.{Option}
use Rattle.kernel_base.specs.declared.ends.Over.{Over}
use Rattle.kernel_base.specs.declared.ends.Over.TheVariants.{AllEnded, Still, Spent}
use Rattle.run_checker.specs.declared.verdict.Verdict.TheVariants.{Yes, No}
use Rattle.journal_verdict.specs.declared.judging.Judgement.{Judgement}
use Rattle.journal_verdict.specs.declared.judging.Judgement.TheVariants.{BadLine, TooLong, Judged}

-- the word for how a run is over
abbrev pub word_of : Option Over → List ℕ
word_of None = codes "open"
word_of (Some AllEnded) = codes "ended"
word_of (Some Still) = codes "stuck"
word_of (Some Spent) = codes "spent"

abbrev pub run_line : ℕ → Option Over → List ℕ
run_line count over = codes "a run of " ++ decimal count ++ codes " events: " ++ word_of over ++ codes "\n"

abbrev pub not_allowed_line : ℕ → List ℕ
not_allowed_line place = codes "event " ++ decimal place ++ codes " is not allowed\n"

abbrev pub bad_line_line : ℕ → List ℕ
bad_line_line line = codes "journal line " ++ decimal line ++ codes ": no event\n"

abbrev pub units_line : List ℕ
units_line = codes "journal of more than 20000000 units\n"

-- what is written to out
abbrev pub out_of : Judgement → List ℕ
out_of (BadLine line) = []
out_of TooLong = []
out_of (Judged (Yes count over)) = run_line count over
out_of (Judged (No place)) = []

-- and to err
abbrev pub err_of : Judgement → List ℕ
err_of (BadLine line) = bad_line_line line
err_of TooLong = units_line
err_of (Judged (Yes count over)) = []
err_of (Judged (No place)) = not_allowed_line place

-- 10 for a text that isn't decided, and 11 for one that is no run
abbrev pub status_of : Judgement → ℕ
status_of (BadLine line) = 10
status_of TooLong = 10
status_of (Judged (Yes count over)) = 0
status_of (Judged (No place)) = 11
