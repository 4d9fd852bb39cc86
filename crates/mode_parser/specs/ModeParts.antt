-- What reading a mode gives, by the word that it begins with.
use Rattle.std.specs.Prelude.{ℕ, Ok}
use Rattle.chill_tree.specs.declared.token.Word.TheVariants as words
use Rattle.chill_tree.specs.ModeTree.{ModeTree, read_mode, event_mode, buffer_mode}
use Rattle.rules_model.specs.Marks.{Toks}
use Rattle.rules_model.specs.Reading.{Read, ◌>>=◌, word_at}
use Rattle.rules_model.specs.ModeReading.{length_at, base_at}

-- In what follows n is the number of levels of nesting that are left behind an opening token.

-- from READ on
abbrev pub read_only_at : ℕ → Toks → Read ModeTree
read_only_at n toks = word_at words.Read toks >>= λ w. base_at n w.1 >>= λ b. Ok (read_mode w.0 b.0, b.1)

-- from EVENT on
abbrev pub event_at : ℕ → Toks → Read ModeTree
event_at n toks = word_at words.Event toks >>= λ w. length_at n w.1 >>= λ l. Ok (event_mode w.0 l.0, l.1)

-- from BUFFER on
abbrev pub buffer_at : ℕ → Toks → Read ModeTree
buffer_at n toks = word_at words.Buffer toks >>= λ w. length_at n w.1 >>= λ l. base_at n l.1 >>= λ b. Ok (buffer_mode w.0 l.0 b.0, b.1)
