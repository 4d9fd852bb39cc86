-- The first line of a text that can't stand there in a journal's, and what reading a text as a journal gives.
use Rattle.std.specs.Prelude.{◌≡◌, ◌≢◌, ◌⊎◌, ℕ, ◌+◌, ◌^◌, ◌<◌, List, [], ◌++◌, length, All, Result, Ok, Err}
use Rattle.std.specs.Borrow.{Bor}
use Rattle.std.specs.List.{flat_map}
use Rattle.kernel_base.specs.declared.event.Event.{Event}
use Rattle.world_model.specs.Ranges.{IsInRange}
use Rattle.journal_text.specs.declared.refusal.JournalRefusal.{JournalRefusal}
use Rattle.journal_text.specs.declared.refusal.JournalRefusal.TheVariants.{BadLine, Memory}
use Rattle.journal_text.specs.declared.unread.Unread.{Unread}
use Rattle.journal_text.specs.declared.unread.Unread.TheVariants as faults
use Rattle.journal_text.specs.Journal.{event_line, first_line, last_line, journal_text}

-- a text of no journal
abbrev pub IsNoJournal : List ℕ → Type 0
IsNoJournal text = (events : List Event) → All IsInRange events → text ≢ journal_text events

-- these bytes don't begin with a line
abbrev pub IsNoLine : List ℕ → List ℕ → Type 0
IsNoLine line bytes = (rest : List ℕ) → bytes ≢ line ++ rest

-- these bytes don't begin with the line of an event
abbrev pub IsNoEvent : List ℕ → Type 0
IsNoEvent bytes = (event : Event) (rest : List ℕ) → IsInRange event → bytes ≢ event_line event ++ rest

-- the text is the first line, the lines of these events, and a rest
pub record IsText (text : List ℕ) (events : List Event) (rest : List ℕ) : Type 0 where
  pub in_range : All IsInRange events
  pub whole : text ≡ first_line ++ flat_map event_line events ++ rest

-- behind the lines of some events stands neither the line of an event nor the last line
pub record BreaksOff (text : List ℕ) (line : ℕ) : Type 0 where
  pub events : List Event
  pub rest : List ℕ
  pub text_is : IsText text events rest
  pub no_event : IsNoEvent rest
  pub no_end : IsNoLine last_line rest
  pub number : line ≡ length events + 2

-- behind the lines of some events and the last line stands more
pub record GoesOn (text : List ℕ) (line : ℕ) : Type 0 where
  pub events : List Event
  pub more : List ℕ
  pub text_is : IsText text events (last_line ++ more)
  pub is_more : more ≢ []
  pub number : line ≡ length events + 3

-- the first line that can't stand there, counted from 1; it may be missing
abbrev pub IsFirstBad : List ℕ → ℕ → Type 0
IsFirstBad text line = (IsNoLine first_line text × (line ≡ 1)) ⊎ (BreaksOff text line ⊎ GoesOn text line)

-- a text is read as the events whose text it is; one of no journal is refused for the first line that can't stand there
abbrev pub IsRead : List ℕ → Result (List Event) JournalRefusal → Type 0
IsRead text (Ok events) = All IsInRange events × (text ≡ journal_text events)
IsRead text (Err (BadLine line)) = IsNoJournal text × IsFirstBad text line
IsRead text (Err Memory) = Unit {0}

-- what reading the first line gives
abbrev pub IsLineRead : List ℕ → Result (Event × Bor (List ℕ)) Unread → Type 0
IsLineRead bytes (Ok found) = IsInRange found.0 × (bytes ≡ event_line found.0 ++ found.1.now)
IsLineRead bytes (Err faults.NoEvent) = IsNoEvent bytes
IsLineRead bytes (Err faults.Memory) = Unit {0}

-- what reading the lines behind the first one gives
abbrev pub AreLinesRead : List ℕ → Result (List Event) JournalRefusal → Type 0
AreLinesRead bytes (Ok events) = All IsInRange events × (bytes ≡ flat_map event_line events ++ last_line)
AreLinesRead bytes (Err (BadLine line)) = IsNoJournal (first_line ++ bytes) × (BreaksOff (first_line ++ bytes) line ⊎ GoesOn (first_line ++ bytes) line)
AreLinesRead bytes (Err Memory) = Unit {0}

-- the number of the line behind so many events, and behind the last line if it stands there
abbrev pub IsBehind : ℕ → List ℕ → ℕ → Type 0
IsBehind count rest line = (IsNoLine last_line rest × (line ≡ count + 2)) ⊎ ((more : List ℕ) × (rest ≡ last_line ++ more) × (line ≡ count + 3))

-- two journals that have one text of fewer than 2 ^ 32 bytes are one
abbrev pub OneJournalLaw : Type 0
OneJournalLaw = (a b : List Event) → All IsInRange a → All IsInRange b → length (journal_text a) < 2 ^ 32 → journal_text a ≡ journal_text b → a ≡ b
