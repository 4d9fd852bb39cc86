-- Reading an expression from the front: the longest that stands there, or that of a whole text.
use Rattle.std.specs.Prelude.{ℕ, zero, suc, ◌==◌, ◌&&◌, Bool, List, [], ◌∷◌, Option, Some, None, Ok, Err, if◌then◌else◌}
use Rattle.chill_base.specs.declared.pos.Pos.{Pos}
use Rattle.chill_tree.specs.declared.token.Word.TheVariants as words
use Rattle.chill_tree.specs.declared.token.Sign.TheVariants as signs
use Rattle.chill_tree.specs.declared.token.TokenKind.{TokenKind}
use Rattle.chill_tree.specs.declared.token.TokenKind.TheVariants as kinds
use Rattle.chill_tree.specs.declared.tree.name.Name.{Name}
use Rattle.chill_tree.specs.declared.tree.expr.Operator.{Operator}
use Rattle.chill_tree.specs.declared.tree.expr.Prefix.TheVariants as prefixes
use Rattle.chill_tree.specs.ExprTree.{ExprTree, whole, character, text, this_instance, paren, receive, start, tuple, uniform, name, apply, field, prefixed, binary, RangeTree, alone, between, expr_nodes, range_nodes, place_of}
use Rattle.rules_model.specs.declared.extent.Extent.{Extent}
use Rattle.rules_model.specs.declared.extent.Extent.TheVariants as extents
use Rattle.rules_model.specs.Marks.{Toks, begins, begins_with, behind, operator_of, rank_of}
use Rattle.rules_model.specs.ExprGrammar.{tuple_place}
use Rattle.rules_model.specs.Nesting.{less}
use Rattle.rules_model.specs.Reading.{Deep, Absent, Read, Piece, ◌>>=◌, settle, chosen, roomy, sign_at, word_at, name_at, repeat, listed_at}

-- reads an expression in what opened at the place
abbrev pub Sub : Type 0
Sub = Pos → Toks → Read ExprTree

-- In what follows n is the number of levels that are left behind an opening token, and sub reads behind it.

-- the list of arguments in its brackets
unfoldable pub args_at : ℕ → Sub → Toks → Read (List ExprTree)
args_at n sub toks =
    sign_at signs.Open toks >>= λ p. roomy n p.0 (if begins signs.Close p.1 then (sign_at signs.Close p.1 >>= λ c. Ok ([], c.1)) else (listed_at (sub p.0) p.1 >>= λ es. sign_at signs.Close es.1 >>= λ c. Ok (es.0, c.1)))

unfoldable pub field_at : Toks → Read Name
field_at toks = sign_at signs.Dot toks >>= λ p. name_at p.1

-- what stands behind a name
pub data NamePart : Type 0 where
  Args : List ExprTree → NamePart
  Field : Name → NamePart

abbrev pub with_part : ExprTree → NamePart → ExprTree
with_part e (Args es) = apply (place_of e) e (expr_nodes es)
with_part e (Field n) = field (place_of e) e n

-- a part, if one is there
unfoldable pub part_at : Extent → ℕ → Sub → Toks → Piece NamePart
part_at w n sub toks =
    if begins signs.Open toks then settle w (args_at n sub toks) None (λ a. Ok (Some (Args a.0, a.1)))
    else if begins signs.Dot toks then settle w (field_at toks) None (λ f. Ok (Some (Field f.0, f.1)))
    else Ok None

-- the parts behind what there is
abbrev pub parts_at : Extent → ℕ → Sub → ExprTree → Toks → Read ExprTree
parts_at w n sub = repeat (part_at w n sub) with_part 32

-- the part of a location, if one is there: one expression in brackets, or a field
unfoldable pub location_part_at : Sub → Toks → Piece NamePart
location_part_at sub toks =
    if begins signs.Open toks then (sign_at signs.Open toks >>= λ p. sub p.0 p.1 >>= λ e. sign_at signs.Close e.1 >>= λ c. Ok (Some (Args (e.0 ∷ []), c.1)))
    else if begins signs.Dot toks then (field_at toks >>= λ f. Ok (Some (Field f.0, f.1)))
    else Ok None

-- the parts of a location behind what there is, at most so many
abbrev pub location_parts_at : Sub → ℕ → ExprTree → Toks → Read ExprTree
location_parts_at sub = repeat (location_part_at sub) with_part

unfoldable pub location_at : Sub → Toks → Read ExprTree
location_at sub toks = name_at toks >>= λ x. location_parts_at sub 32 (name x.0) x.1

unfoldable pub paren_at : Sub → Toks → Read ExprTree
paren_at sub toks = sign_at signs.Open toks >>= λ p. sub p.0 p.1 >>= λ e. sign_at signs.Close e.1 >>= λ c. Ok (paren p.0 e.0, c.1)

-- an expression, or two with a colon between them
unfoldable pub range_at : (Toks → Read ExprTree) → Toks → Read RangeTree
range_at read toks =
    read toks >>= λ e. if begins signs.Colon e.1 then (sign_at signs.Colon e.1 >>= λ c. read c.1 >>= λ f. Ok (between e.0 f.0, f.1)) else Ok (alone e.0, e.1)

-- whether a tuple goes on with "(" and "*"
abbrev pub begins_uniform : Toks → Bool
begins_uniform toks = begins signs.Open toks && begins signs.Times (behind toks)

unfoldable pub uniform_at : ℕ → Sub → Option Name → Pos → Toks → Read ExprTree
uniform_at n sub mode b toks =
    sign_at signs.Open toks >>= λ p. roomy (less n) p.0 (sign_at signs.Times p.1 >>= λ q. sign_at signs.Close q.1 >>= λ r. sign_at signs.Colon r.1 >>= λ s. sub b s.1 >>= λ e. sign_at signs.CloseBracket e.1 >>= λ t. Ok (uniform (tuple_place mode b) mode b e.0, t.1))

unfoldable pub ranges_at : Sub → Pos → Toks → Read (List RangeTree)
ranges_at sub b toks =
    if begins signs.CloseBracket toks then (sign_at signs.CloseBracket toks >>= λ c. Ok ([], c.1)) else (listed_at (range_at (sub b)) toks >>= λ rs. sign_at signs.CloseBracket rs.1 >>= λ c. Ok (rs.0, c.1))

-- a tuple from its bracket on
unfoldable pub tuple_at : ℕ → Sub → Option Name → Toks → Read ExprTree
tuple_at n sub mode toks =
    sign_at signs.OpenBracket toks >>= λ b. roomy n b.0 (if begins_uniform b.1 then uniform_at n sub mode b.0 b.1 else (ranges_at sub b.0 b.1 >>= λ rs. Ok (tuple (tuple_place mode b.0) mode b.0 (range_nodes rs.0), rs.1)))

-- a name, and a tuple that it begins or the parts behind it
unfoldable pub begun_at : Extent → ℕ → Sub → Name → Toks → Read ExprTree
begun_at w n sub x toks = if begins signs.OpenBracket toks then settle w (tuple_at n sub (Some x) toks) (name x, toks) (λ e. Ok e) else parts_at w n sub (name x) toks

unfoldable pub operand_at : Extent → ℕ → Sub → Toks → Read ExprTree
operand_at w n sub [] = Err (Absent None)
operand_at w n sub (t ∷ rest) = go t.kind
  where
    go : TokenKind → Read ExprTree
    go (kinds.Whole v) = Ok (whole t.at v, rest)
    go (kinds.Char v) = Ok (character t.at v, rest)
    go (kinds.Text v) = Ok (text t.at v, rest)
    go (kinds.Word words.This) = Ok (this_instance t.at, rest)
    go (kinds.Word words.Receive) = name_at rest >>= λ x. Ok (receive t.at x.0, x.1)
    go (kinds.Word words.Start) = name_at rest >>= λ x. args_at n sub x.1 >>= λ es. Ok (start t.at x.0 (expr_nodes es.0), es.1)
    go (kinds.Sign signs.Open) = paren_at sub (t ∷ rest)
    go (kinds.Sign signs.OpenBracket) = tuple_at n sub None (t ∷ rest)
    go (kinds.Name s) = begun_at w n sub (record { at = t.at; text = s }) rest
    go _ = Err (Absent (Some t.at))

unfoldable pub prefixed_at : Extent → ℕ → Sub → Toks → Read ExprTree
prefixed_at w n sub toks =
    if begins signs.Minus toks then (sign_at signs.Minus toks >>= λ p. operand_at w n sub p.1 >>= λ e. Ok (prefixed p.0 prefixes.Minus e.0, e.1))
    else if begins_with words.Not toks then (word_at words.Not toks >>= λ p. operand_at w n sub p.1 >>= λ e. Ok (prefixed p.0 prefixes.Not e.0, e.1))
    else operand_at w n sub toks

-- an operator of this rank with its place, and the tokens behind it
abbrev pub ranked_operator : ℕ → Option Operator → Option Operator
ranked_operator r None = None
ranked_operator r (Some o) = if rank_of o == r then Some o else None

unfoldable pub operator_at : ℕ → Toks → Option ((Pos × Operator) × Toks)
operator_at r [] = None
operator_at r (t ∷ rest) = chosen (ranked_operator r (operator_of t.kind)) None (λ o. Some ((t.at, o), rest))

-- an operator of a rank and what stands behind it, if the operator is there
unfoldable pub turn_at : Extent → (Toks → Read ExprTree) → ℕ → Toks → Piece ((Pos × Operator) × ExprTree)
turn_at w next r toks = chosen (operator_at r toks) (Ok None) (λ o. settle w (next o.1) None (λ e. Ok (Some ((o.0, e.0), e.1))))

abbrev pub with_turn : ExprTree → (Pos × Operator) × ExprTree → ExprTree
with_turn l t = binary (place_of l) l t.0.1 t.0.0 t.1

unfoldable pub ranked_at : Extent → ℕ → Sub → ℕ → Toks → Read ExprTree
ranked_at w n sub zero toks = prefixed_at w n sub toks
ranked_at w n sub (suc r) toks = ranked_at w n sub r toks >>= λ l. repeat (turn_at w (ranked_at w n sub r) (suc r)) with_turn 32 l.0 l.1

-- an expression in brackets, where so many levels of nesting are left
unfoldable pub expr_at : ℕ → Pos → Toks → Read ExprTree
expr_at zero p toks = Err (Deep p)
expr_at (suc n) p toks = ranked_at extents.Whole n (expr_at n) 5 toks
