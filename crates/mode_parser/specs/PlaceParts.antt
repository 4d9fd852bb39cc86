-- What reading the end of a place gives.
use Rattle.std.specs.Prelude.{ℕ, Ok}
use Rattle.chill_base.specs.declared.pos.Pos.{Pos}
use Rattle.chill_tree.specs.declared.token.Sign.{Sign}
use Rattle.chill_tree.specs.declared.token.Sign.TheVariants as signs
use Rattle.chill_tree.specs.declared.tree.mode.PlaceForm.{PlaceForm}
use Rattle.chill_tree.specs.ExprTree.{ExprTree}
use Rattle.chill_tree.specs.ModeTree.{PlaceTree}
use Rattle.rules_model.specs.Marks.{Toks}
use Rattle.rules_model.specs.Reading.{Read, ◌>>=◌, sign_at}
use Rattle.rules_model.specs.ExprReading.{expr_at}

-- a place from the sign on that stands before its last number
abbrev pub bound_at : ℕ → Pos → Pos → ExprTree → ExprTree → PlaceForm → Sign → Toks → Read PlaceTree
bound_at n at p w f form s toks = sign_at s toks >>= λ c. expr_at n p c.1 >>= λ b. sign_at signs.Close b.1 >>= λ d. Ok (record { at = at; word = w; start = f; form = form; bound = b.0 }, d.1)
