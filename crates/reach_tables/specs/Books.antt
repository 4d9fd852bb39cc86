-- How definitions are kept by their numbers.
use Rattle.std.specs.Prelude.{◌≡◌, ℕ, List}
use Rattle.names_model.specs.declared.definition.Definition.{Definition}
use Rattle.names_model.specs.Definitions.{with_predefined, predefined_under}
use Rattle.reach_tables.specs.declared.book.Book.{Book}
use Rattle.reach_tables.specs.Held.{held}

-- the book has the definitions of the text with the predefined ones behind them
pub record Keeps (book : Book) (text : List Definition) : Type 0 where
  pub all : book.all.items ≡ with_predefined text
  pub predefined : (n : List ℕ) → held book.predefined n ≡ predefined_under text n
