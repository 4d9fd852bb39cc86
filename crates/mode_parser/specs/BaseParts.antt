-- What reading a mode of values gives, by the word that it begins with.
use Rattle.std.specs.Prelude.{ℕ, Ok}
use Rattle.chill_base.specs.declared.pos.Pos.{Pos}
use Rattle.chill_tree.specs.declared.token.Word.TheVariants as words
use Rattle.chill_tree.specs.declared.token.Sign.TheVariants as signs
use Rattle.chill_tree.specs.ModeTree.{IndexTree, BaseTree, powerset, chars, structure, array, field_nodes}
use Rattle.rules_model.specs.Marks.{Toks}
use Rattle.rules_model.specs.Reading.{Read, ◌>>=◌, sign_at, word_at}
use Rattle.rules_model.specs.ExprReading.{expr_at}
use Rattle.rules_model.specs.ModeReading.{discrete_at, index_at, packing_at, spread_at, Fields, arrays_at}

-- In what follows n is the number of levels of nesting that are left behind an opening token, and fields reads behind it.

-- from POWERSET on
abbrev pub powerset_at : ℕ → Toks → Read BaseTree
powerset_at n toks = word_at words.Powerset toks >>= λ w. discrete_at n w.1 >>= λ d. Ok (powerset w.0 d.0, d.1)

-- from CHARS on
abbrev pub chars_at : ℕ → Toks → Read BaseTree
chars_at n toks = word_at words.Chars toks >>= λ w. sign_at signs.Open w.1 >>= λ p. expr_at n p.0 p.1 >>= λ e. sign_at signs.Close e.1 >>= λ c. Ok (chars w.0 e.0, c.1)

-- from STRUCT on
abbrev pub structure_at : Fields → Toks → Read BaseTree
structure_at fields toks = word_at words.Struct toks >>= λ w. sign_at signs.Open w.1 >>= λ p. fields p.0 p.1 >>= λ fs. sign_at signs.Close fs.1 >>= λ c. packing_at c.1 >>= λ k. Ok (structure w.0 (field_nodes fs.0) k.0, k.1)

-- an array whose elements are read, from what says how they lie
abbrev pub laid_out_at : ℕ → Pos → IndexTree → BaseTree → Toks → Read BaseTree
laid_out_at n at i e toks = spread_at n toks >>= λ s. Ok (array at i e s.0, s.1)

-- an array from the bracket on that closes its indices, with at most so many arrays directly in it
abbrev pub elements_at : ℕ → Fields → ℕ → Pos → IndexTree → Toks → Read BaseTree
elements_at n fields k at i toks = sign_at signs.Close toks >>= λ c. arrays_at n fields k c.1 >>= λ e. laid_out_at n at i e.0 e.1

-- from ARRAY on, with at most so many arrays directly in it
abbrev pub array_at : ℕ → Fields → ℕ → Toks → Read BaseTree
array_at n fields k toks = word_at words.Array toks >>= λ w. sign_at signs.Open w.1 >>= λ p. index_at n p.0 p.1 >>= λ i. elements_at n fields k w.0 i.0 i.1
