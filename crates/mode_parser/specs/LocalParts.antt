-- What reading a definition gives, by the word that it begins with.
use Rattle.std.specs.Prelude.{ℕ, true, false, Option, Some, Ok}
use Rattle.chill_tree.specs.declared.token.Word.TheVariants as words
use Rattle.chill_tree.specs.declared.token.Sign.TheVariants as signs
use Rattle.chill_tree.specs.LocalTree.{InitialTree, LocalTree, synonyms, syn_modes, new_modes, locations}
use Rattle.rules_model.specs.Marks.{Toks}
use Rattle.rules_model.specs.Reading.{Read, ◌>>=◌, sign_at, word_at, listed_at}
use Rattle.rules_model.specs.ModeReading.{value_at, synonym_at, mode_definition_at, declaration_at}

-- In what follows n is the number of levels of nesting that are left behind an opening token.

-- an initialization from its sign on
abbrev pub by_sign_at : ℕ → Toks → Read (Option InitialTree)
by_sign_at n toks = sign_at signs.Becomes toks >>= λ p. value_at n p.1 >>= λ e. Ok (Some (record { at = p.0; init = false; value = e.0 }), e.1)

-- an initialization from INIT on
abbrev pub by_word_at : ℕ → Toks → Read (Option InitialTree)
by_word_at n toks = word_at words.Init toks >>= λ w. sign_at signs.Becomes w.1 >>= λ p. value_at n p.1 >>= λ e. Ok (Some (record { at = w.0; init = true; value = e.0 }), e.1)

-- from SYN on
abbrev pub synonyms_at : ℕ → Toks → Read LocalTree
synonyms_at n toks = word_at words.Syn toks >>= λ w. listed_at (synonym_at n) w.1 >>= λ xs. sign_at signs.Semicolon xs.1 >>= λ c. Ok (synonyms w.0 xs.0, c.1)

-- from SYNMODE on
abbrev pub syn_modes_at : ℕ → Toks → Read LocalTree
syn_modes_at n toks = word_at words.SynMode toks >>= λ w. listed_at (mode_definition_at n) w.1 >>= λ xs. sign_at signs.Semicolon xs.1 >>= λ c. Ok (syn_modes w.0 xs.0, c.1)

-- from NEWMODE on
abbrev pub new_modes_at : ℕ → Toks → Read LocalTree
new_modes_at n toks = word_at words.NewMode toks >>= λ w. listed_at (mode_definition_at n) w.1 >>= λ xs. sign_at signs.Semicolon xs.1 >>= λ c. Ok (new_modes w.0 xs.0, c.1)

-- from DCL on
abbrev pub locations_at : ℕ → Toks → Read LocalTree
locations_at n toks = word_at words.Dcl toks >>= λ w. listed_at (declaration_at n) w.1 >>= λ xs. sign_at signs.Semicolon xs.1 >>= λ c. Ok (locations w.0 xs.0, c.1)
