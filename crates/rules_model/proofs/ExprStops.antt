-- What an expression does not go on with.
use Rattle.std.proofs.Common.{◌≡◌, ℕ, suc, ◌<◌, false, cond, eqb, [], ◌∷◌, Option, Some, None, Ok, refl, sym, subst, arith}
use Rattle.chill_base.specs.declared.pos.Pos.{Pos}
use Rattle.chill_tree.specs.declared.token.Word.TheVariants as words
use Rattle.chill_tree.specs.declared.token.Sign.TheVariants as signs
use Rattle.chill_tree.specs.declared.token.TokenKind.{TokenKind}
use Rattle.chill_tree.specs.declared.token.TokenKind.TheVariants as kinds
use Rattle.chill_tree.specs.declared.tree.expr.Operator.{Operator}
use Rattle.chill_tree.specs.declared.tree.expr.Operator.TheVariants as operators
use Rattle.chill_tree.specs.ExprTree.{ExprTree}
use Rattle.rules_model.specs.declared.extent.Extent.{Extent}
use Rattle.rules_model.specs.Marks.{Toks, tok, is_sign, begins, operator_of, rank_of}
use Rattle.rules_model.specs.Nesting.{room_after}
use Rattle.rules_model.specs.Reading.{Read, chosen}
use Rattle.rules_model.specs.ExprReading.{Sub, part_at, location_part_at, ranked_operator, operator_at, turn_at}

abbrev pub AllAbove : ℕ → Option Operator → Type 0
AllAbove r None = Unit {0}
AllAbove r (Some o) = r < rank_of o

-- no part of a name, no bracket of a tuple and no operator of at most this rank stands at the front
abbrev pub Stops : ℕ → Toks → Type 0
Stops r [] = Unit {0}
Stops r (t ∷ ts) = (is_sign signs.Open t.kind ≡ false) × (is_sign signs.Dot t.kind ≡ false) × (is_sign signs.OpenBracket t.kind ≡ false) × AllAbove r (operator_of t.kind)

above_less : (r : ℕ) (o : Option Operator) → AllAbove (suc r) o → AllAbove r o
above_less r None h = tt
above_less r (Some o) h = omega (arith, h)

pub stops_less : (r : ℕ) (toks : Toks) → Stops (suc r) toks → Stops r toks
stops_less r [] h = tt
stops_less r (t ∷ ts) h = (h.0, h.1, h.2, above_less r (operator_of t.kind) h.3)

pub stops_bracket : (r : ℕ) (toks : Toks) → Stops r toks → begins signs.OpenBracket toks ≡ false
stops_bracket r [] h = refl
stops_bracket r (t ∷ ts) h = h.2

some_is : {A : Type 0} (x : A) (o : Option A) → o ≡ Some x → (P : Option A → Type 0) → P (Some x) → P o
some_is x o e P h = subst P (sym e) h

-- an operator is no bracket, no dot, no colon and no comma, and doesn't change the nesting
pub record NoMark (kind : TokenKind) : Type 0 where
  pub open_sign : is_sign signs.Open kind ≡ false
  pub dot : is_sign signs.Dot kind ≡ false
  pub bracket : is_sign signs.OpenBracket kind ≡ false
  pub colon : is_sign signs.Colon kind ≡ false
  pub becomes : is_sign signs.Becomes kind ≡ false
  pub room : (n : ℕ) → room_after kind n ≡ n

pub operator_marks : (kind : TokenKind) (o : Operator) → operator_of kind ≡ Some o → NoMark kind
operator_marks (kinds.Whole n) o e = absurd cc
operator_marks (kinds.Char n) o e = absurd cc
operator_marks (kinds.Text n) o e = absurd cc
operator_marks (kinds.Name n) o e = absurd cc
operator_marks (kinds.Word words.Or) o e = record { open_sign = refl; dot = refl; bracket = refl; colon = refl; becomes = refl; room = λ n. refl }
operator_marks (kinds.Word words.Xor) o e = record { open_sign = refl; dot = refl; bracket = refl; colon = refl; becomes = refl; room = λ n. refl }
operator_marks (kinds.Word words.OrIf) o e = record { open_sign = refl; dot = refl; bracket = refl; colon = refl; becomes = refl; room = λ n. refl }
operator_marks (kinds.Word words.And) o e = record { open_sign = refl; dot = refl; bracket = refl; colon = refl; becomes = refl; room = λ n. refl }
operator_marks (kinds.Word words.AndIf) o e = record { open_sign = refl; dot = refl; bracket = refl; colon = refl; becomes = refl; room = λ n. refl }
operator_marks (kinds.Word words.In) o e = record { open_sign = refl; dot = refl; bracket = refl; colon = refl; becomes = refl; room = λ n. refl }
operator_marks (kinds.Word words.Mod) o e = record { open_sign = refl; dot = refl; bracket = refl; colon = refl; becomes = refl; room = λ n. refl }
operator_marks (kinds.Word words.Rem) o e = record { open_sign = refl; dot = refl; bracket = refl; colon = refl; becomes = refl; room = λ n. refl }
operator_marks (kinds.Word _) o e = absurd cc
operator_marks (kinds.Sign signs.Equal) o e = record { open_sign = refl; dot = refl; bracket = refl; colon = refl; becomes = refl; room = λ n. refl }
operator_marks (kinds.Sign signs.NotEqual) o e = record { open_sign = refl; dot = refl; bracket = refl; colon = refl; becomes = refl; room = λ n. refl }
operator_marks (kinds.Sign signs.Less) o e = record { open_sign = refl; dot = refl; bracket = refl; colon = refl; becomes = refl; room = λ n. refl }
operator_marks (kinds.Sign signs.LessOrEqual) o e = record { open_sign = refl; dot = refl; bracket = refl; colon = refl; becomes = refl; room = λ n. refl }
operator_marks (kinds.Sign signs.Greater) o e = record { open_sign = refl; dot = refl; bracket = refl; colon = refl; becomes = refl; room = λ n. refl }
operator_marks (kinds.Sign signs.GreaterOrEqual) o e = record { open_sign = refl; dot = refl; bracket = refl; colon = refl; becomes = refl; room = λ n. refl }
operator_marks (kinds.Sign signs.Plus) o e = record { open_sign = refl; dot = refl; bracket = refl; colon = refl; becomes = refl; room = λ n. refl }
operator_marks (kinds.Sign signs.Minus) o e = record { open_sign = refl; dot = refl; bracket = refl; colon = refl; becomes = refl; room = λ n. refl }
operator_marks (kinds.Sign signs.Times) o e = record { open_sign = refl; dot = refl; bracket = refl; colon = refl; becomes = refl; room = λ n. refl }
operator_marks (kinds.Sign signs.Divide) o e = record { open_sign = refl; dot = refl; bracket = refl; colon = refl; becomes = refl; room = λ n. refl }
operator_marks (kinds.Sign _) o e = absurd cc

pub turn_stops : (r : ℕ) (at : Pos) (kind : TokenKind) (o : Operator) (m : Toks) → operator_of kind ≡ Some o → rank_of o ≡ suc r → Stops r (tok at kind ∷ m)
turn_stops r at kind o m e rank =
    let s = operator_marks kind o e in
    (s.open_sign, s.dot, s.bracket, some_is o (operator_of kind) e (AllAbove r) (omega (arith, rank)))

rank_some : (o : Operator) → 0 < rank_of o
rank_some operators.Or = omega arith
rank_some operators.Xor = omega arith
rank_some operators.OrIf = omega arith
rank_some operators.And = omega arith
rank_some operators.AndIf = omega arith
rank_some operators.Equal = omega arith
rank_some operators.NotEqual = omega arith
rank_some operators.Less = omega arith
rank_some operators.LessOrEqual = omega arith
rank_some operators.Greater = omega arith
rank_some operators.GreaterOrEqual = omega arith
rank_some operators.In = omega arith
rank_some operators.Plus = omega arith
rank_some operators.Minus = omega arith
rank_some operators.Times = omega arith
rank_some operators.Divide = omega arith
rank_some operators.Mod = omega arith
rank_some operators.Rem = omega arith

-- an operator ends what no operator goes on with
pub operator_stops : (at : Pos) (kind : TokenKind) (o : Operator) (m : Toks) → operator_of kind ≡ Some o → Stops 0 (tok at kind ∷ m)
operator_stops at kind o m e =
    let s = operator_marks kind o e in
    (s.open_sign, s.dot, s.bracket, some_is o (operator_of kind) e (AllAbove 0) (rank_some o))

-- no part
pub part_none : (w : Extent) (n : ℕ) (sub : Sub) (r : ℕ) (toks : Toks) → Stops r toks → part_at w n sub toks ≡ Ok None
unfolding part_at
part_none w n sub r [] h = refl
part_none w n sub r (t ∷ ts) h = rw (h.0, h.1) refl

pub location_part_none : (sub : Sub) (r : ℕ) (toks : Toks) → Stops r toks → location_part_at sub toks ≡ Ok None
unfolding location_part_at
location_part_none sub r [] h = refl
location_part_none sub r (t ∷ ts) h = rw (h.0, h.1) refl

-- no operator
ranked_none : (r : ℕ) (o : Option Operator) → AllAbove r o → ranked_operator r o ≡ None
ranked_none r None h = refl
ranked_none r (Some o) h = no_match (rank_of o) h
  where
    no_match : (q : ℕ) → r < q → cond (eqb q r) (Some o) None ≡ None
    no_match q lt = grind arith

operator_none : (r : ℕ) (toks : Toks) → Stops r toks → operator_at r toks ≡ None
unfolding operator_at
operator_none r [] h = refl
operator_none r (t ∷ ts) h = rw (ranked_none r (operator_of t.kind) h.3) refl

pub turn_none : (w : Extent) (next : Toks → Read ExprTree) (r : ℕ) (toks : Toks) → Stops r toks → turn_at w next r toks ≡ Ok None
unfolding turn_at
turn_none w next r toks h = rw (operator_none r toks h) refl

pub operator_some : (r : ℕ) (at : Pos) (kind : TokenKind) (o : Operator) (m : Toks) → operator_of kind ≡ Some o → rank_of o ≡ r → operator_at r (tok at kind ∷ m) ≡ Some ((at, o), m)
unfolding operator_at
operator_some r at kind o m e rank = rw e (match (rank_of o) rank)
  where
    match : (q : ℕ) → q ≡ r → chosen {B = Option ((Pos × Operator) × Toks)} (cond (eqb q r) (Some o) None) None (λ p. Some ((at, p), m)) ≡ Some ((at, o), m)
    match q h = grind arith
