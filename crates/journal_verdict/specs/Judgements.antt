-- What a text is to a code, as a journal.
use Rattle.std.specs.Prelude.{◌≡◌, ℕ, ◌<◌, ◌≤◌, List, All}
use Rattle.kernel_base.specs.declared.facts.Facts.{Facts}
use Rattle.kernel_base.specs.declared.event.Event.{Event}
use Rattle.kernel_base.specs.Units.{units_of_all}
use Rattle.code_types.specs.declared.code.Code.{Code}
use Rattle.journal_text.specs.Journal.{journal_text}
use Rattle.journal_text.specs.Lines.{IsFirstBad, IsNoJournal}
use Rattle.run_checker.specs.Verdicts.{IsVerdict, most_units}
use Rattle.run_checker.specs.declared.verdict.Verdict.{Verdict}
use Rattle.world_model.specs.Ranges.{IsInRange}
use Rattle.journal_verdict.specs.declared.judging.Judgement.{Judgement}
use Rattle.journal_verdict.specs.declared.judging.Judgement.TheVariants.{BadLine, TooLong, Judged}

-- The text is that of these events. No two lists of events have one text, by `one_journal_law` of `journal_text`.
pub record IsTextOfEvents (text : List ℕ) (events : List Event) : Type 0 where
  pub in_range : All IsInRange events
  pub is : text ≡ journal_text events

-- events that aren't too long are this to the code
pub record IsChecked (code : Code) (facts : Facts) (events : List Event) (verdict : Verdict) : Type 0 where
  pub short : units_of_all events ≤ most_units
  pub is : IsVerdict code facts events verdict

-- what events are to a code; they are no line that can't stand in a journal
abbrev pub IsEventsJudgement : Code → Facts → List Event → Judgement → Type 0
IsEventsJudgement code facts events (BadLine line) = ⊥
IsEventsJudgement code facts events TooLong = most_units < units_of_all events
IsEventsJudgement code facts events (Judged verdict) = IsChecked code facts events verdict

-- so it is of the events of a text
pub record IsJudgementOf (code : Code) (facts : Facts) (text : List ℕ) (judgement : Judgement) : Type 0 where
  pub events : List Event
  pub read : IsTextOfEvents text events
  pub is : IsEventsJudgement code facts events judgement

-- a text of no journal is refused for its first bad line, and each other one is judged by its events
abbrev pub IsJudgement : Code → Facts → List ℕ → Judgement → Type 0
IsJudgement code facts text (BadLine line) = IsNoJournal text × IsFirstBad text line
IsJudgement code facts text TooLong = IsJudgementOf code facts text TooLong
IsJudgement code facts text (Judged verdict) = IsJudgementOf code facts text (Judged verdict)
