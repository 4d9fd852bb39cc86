-- What reading an expression took is that expression, whatever stands behind it; and what was read too deep can be
-- completed to one.
use Rattle.std.proofs.Common.{◌≡◌, ℕ, zero, suc, ◌<◌, Bool, true, false, cond, eqb, List, [], ◌∷◌, Option, Some, None, Ok, refl, sym, ap, ◌∙◌, subst, arith}
use Rattle.std.proofs.lemmas.Bool.{eqb-true}
use Rattle.chill_base.specs.declared.pos.Pos.{Pos}
use Rattle.chill_tree.specs.declared.token.Word.TheVariants as words
use Rattle.chill_tree.specs.declared.token.Sign.TheVariants as signs
use Rattle.chill_tree.specs.declared.token.TokenKind.{TokenKind}
use Rattle.chill_tree.specs.declared.token.TokenKind.TheVariants as kinds
use Rattle.chill_tree.specs.declared.tree.name.Name.{Name}
use Rattle.chill_tree.specs.declared.tree.expr.Operator.{Operator}
use Rattle.chill_tree.specs.declared.tree.expr.Prefix.TheVariants as prefixes
use Rattle.chill_tree.specs.ExprTree.{ExprTree, whole, character, text, this_instance, paren, receive, start, tuple, uniform, name, prefixed, alone, between, expr_nodes, range_nodes}
use Rattle.rules_model.specs.declared.extent.Extent.{Extent}
use Rattle.rules_model.specs.declared.extent.Extent.TheVariants as extents
use Rattle.rules_model.specs.Marks.{Toks, tok, sign, word, name_token, begins, begins_with, operator_of, rank_of}
use Rattle.rules_model.specs.ExprGrammar.{IsTupleHead, bare, of_mode, tuple_place, IsNamed, a_name, with_args, with_field, AreArgs, no_args, some_args, AreExprs, one_expr, and_expr, IsRange, is_alone, is_between, AreRanges, one_range, and_range, AreParts, no_parts, some_parts, IsOperand, is_whole, is_character, is_text, is_this, is_paren, is_receive, is_start, is_tuple, is_uniform, is_named, IsRanked, is_plain, is_minus, is_not, is_chain, IsChain, first, turn}
use Rattle.rules_model.specs.Reading.{Read, ◌>>=◌, settle, chosen, sign_at, word_at, name_at, repeat, listed_at}
use Rattle.rules_model.specs.ExprReading.{args_at, field_at, NamePart, Args, Field, with_part, part_at, parts_at, paren_at, range_at, begins_uniform, uniform_at, ranges_at, tuple_at, begun_at, operand_at, prefixed_at, ranked_operator, operator_at, turn_at, with_turn, ranked_at, expr_at}
use Rattle.rules_model.proofs.ExprStops.{operator_marks}
use Rattle.expr_parser.proofs.Taken.{nothing_read, Told, taken, broken, missing, ToldPiece, no_piece, Finish, Behind, Led, told_then, told_ok, told_as, IsNext, told_name, told_full, led_by_sign, led_by_word, led_by_name, token_then, closed, settled, After, told_loop, told_listed}

-- ---- what completes what was begun

pub one_whole : (r : ℕ) (p : Pos) (z : Toks) → IsRanked r (whole p 0) (tok p (kinds.Whole 0) ∷ z) z
one_whole zero p z = is_plain is_whole
one_whole (suc r) p z = is_chain (first (one_whole r p z))

any_expr : (r : ℕ) (p : Pos) → Finish (IsRanked r)
any_expr r p = record { more = tok p (kinds.Whole 0) ∷ []; tree = whole p 0; any = λ z. one_whole r p z }

abbrev somewhere : Pos
somewhere = record { line = 0; column = 0 }

any_operand : Finish IsOperand
any_operand = record { more = tok somewhere (kinds.Whole 0) ∷ []; tree = whole somewhere 0; any = λ z. is_whole }

any_name : Pos → Name
any_name p = record { at = p; text = [] }

-- ---- arguments and parts of names

pub data InBrackets (es : List ExprTree) : Toks → Toks → Type 0 where
  bracketed : {p : Pos} {m rest : Toks} → AreArgs es m rest → InBrackets es (sign p signs.Open ∷ m) rest

pub data IsPart : NamePart → Toks → Toks → Type 0 where
  args_part : {es : List ExprTree} {t u : Toks} → InBrackets es t u → IsPart (Args es) t u
  field_part : {x : Name} {p : Pos} {u : Toks} → IsPart (Field x) (sign p signs.Dot ∷ name_token x ∷ u) u

pub named_part : (j : ℕ) (e : ExprTree) (x : NamePart) (t u v : Toks) → j < 32 → IsNamed j e t u → IsPart x u v → IsNamed (suc j) (with_part e x) t v
named_part j e (Args es) t u v lt d (args_part (bracketed a)) = with_args d a lt
named_part j e (Field x) t u v lt d field_part = with_field d lt

pub data IsField (x : Name) : Toks → Toks → Type 0 where
  dotted : {p : Pos} {u : Toks} → IsField x (sign p signs.Dot ∷ name_token x ∷ u) u

next_field : (p : Pos) (x : Name) (t u : Toks) → t ≡ name_token x ∷ u → IsField x (sign p signs.Dot ∷ t) u
next_field p x t u h = subst (λ (w : Toks). IsField x (sign p signs.Dot ∷ w) u) (sym h) dotted

told_field : (n : ℕ) (toks : Toks) → Told (suc n) (suc n) IsField toks (field_at toks)
unfolding field_at
told_field n toks =
    led_by_sign signs.Dot (suc n) n refl IsField (λ p. name_at p.1)
    (λ p. record { more = name_token (any_name p) ∷ []; tree = any_name p; any = λ z. dotted })
    (λ p rest. told_as IsNext (Led (sign p signs.Dot) IsField) (λ x t u d. next_field p x t u d) (told_name n rest))
    toks

-- what is read behind an opening token where n levels are left
abbrev pub Inner : ℕ → Type 0
Inner zero = Unit {0}
Inner (suc m) = (p : Pos) (toks : Toks) → Told (suc m) (suc m) (IsRanked 5) toks (expr_at (suc m) p toks)

exprs_told : (m : ℕ) → Inner (suc m) → (p : Pos) (toks : Toks) → Told (suc m) (suc m) AreExprs toks (listed_at (expr_at (suc m) p) toks)
exprs_told m inner p toks = told_listed m (expr_at (suc m) p) (IsRanked 5) (any_expr 5 p) (λ t. inner p t) AreExprs (λ x t u d. one_expr d) (λ xs x q t k u l d. and_expr l d) toks

-- a list of arguments behind its bracket
args_told : (m : ℕ) → Inner (suc m) → (p : Pos) (toks : Toks) → Told (suc m) (suc (suc m)) AreArgs toks (cond (begins signs.Close toks) (sign_at signs.Close toks >>= λ c. Ok ([], c.1)) (listed_at (expr_at (suc m) p) toks >>= λ es. sign_at signs.Close es.1 >>= λ c. Ok (es.0, c.1)))
args_told m inner p toks = go (begins signs.Close toks)
  where
    go : (b : Bool) → Told (suc m) (suc (suc m)) AreArgs toks (cond b (sign_at signs.Close toks >>= λ c. Ok ([], c.1)) (listed_at (expr_at (suc m) p) toks >>= λ es. sign_at signs.Close es.1 >>= λ c. Ok (es.0, c.1)))
    go true = closed signs.Close (suc m) (suc m) refl AreArgs [] (λ q z. no_args) toks
    go false =
        told_then AreArgs (λ es. sign_at signs.Close es.1 >>= λ c. Ok (es.0, c.1))
        (λ es. record { more = sign p signs.Close ∷ []; tree = es; any = λ z t d. some_args d })
        (λ es rest. closed signs.Close (suc m) (suc m) refl (Behind AreExprs AreArgs es) es (λ q z t d. some_args d) rest)
        (exprs_told m inner p toks)

close_args : (p : Pos) → Finish (Led (sign p signs.Open) InBrackets)
close_args p = record { more = sign p signs.Close ∷ []; tree = []; any = λ z. bracketed no_args }

pub told_args : (n : ℕ) → Inner n → (toks : Toks) → Told (suc n) (suc n) InBrackets toks (args_at n (expr_at n) toks)
unfolding args_at
told_args zero inner toks = told_full signs.Open refl InBrackets _ close_args (λ p rest. refl) toks
told_args (suc m) inner toks =
    led_by_sign signs.Open (suc (suc m)) m refl InBrackets _ close_args
    (λ p rest. told_as AreArgs (Led (sign p signs.Open) InBrackets) (λ es u v d. bracketed d) (args_told m inner p rest))
    toks

field_of : (x : Name) (t u : Toks) → IsField x t u → IsPart (Field x) t u
field_of x t u dotted = field_part

pub part_told : (extent : Extent) (n : ℕ) → Inner n → (toks : Toks) → ToldPiece (suc n) IsPart toks (part_at extent n (expr_at n) toks)
unfolding part_at
part_told extent n inner toks = go (begins signs.Open toks) (begins signs.Dot toks)
  where
    go : (b c : Bool) → ToldPiece (suc n) IsPart toks (cond b (settle extent (args_at n (expr_at n) toks) None (λ a. Ok (Some (Args a.0, a.1)))) (cond c (settle extent (field_at toks) None (λ f. Ok (Some (Field f.0, f.1)))) (Ok None)))
    go true c = settled extent InBrackets IsPart Args (λ x t u d. args_part d) (told_args n inner toks)
    go false true = settled extent IsField IsPart Field field_of (told_field n toks)
    go false false = no_piece

-- the parts behind a name
parts_told : (extent : Extent) (n : ℕ) → Inner n → (x : Name) (toks : Toks) → Told (suc n) (suc n) (Led (name_token x) IsOperand) toks (parts_at extent n (expr_at n) (name x) toks)
parts_told extent n inner x toks =
    told_as (After (suc n) (part_at extent n (expr_at n)) with_part IsNamed IsPart 32 named_part (part_told extent n inner) 0 (name x)) (Led (name_token x) IsOperand)
    (λ y u v d. is_named (d (name_token x ∷ u) a_name).1)
    (told_loop (suc n) (part_at extent n (expr_at n)) with_part IsNamed IsPart 32 named_part (part_told extent n inner) 32 0 (omega arith) (name x) toks)

-- ---- tuples

pub range_told : (m : ℕ) → Inner (suc m) → (p : Pos) (toks : Toks) → Told (suc m) (suc m) IsRange toks (range_at (expr_at (suc m) p) toks)
unfolding range_at
range_told m inner p toks =
    told_then IsRange _
    (λ e. record { more = []; tree = alone e; any = λ z t d. is_alone d })
    (λ e rest. go e rest (begins signs.Colon rest))
    (inner p toks)
  where
    go : (e : ExprTree) (rest : Toks) (b : Bool) → Told (suc m) (suc m) (Behind (IsRanked 5) IsRange e) rest (cond b (sign_at signs.Colon rest >>= λ c. expr_at (suc m) p c.1 >>= λ f. Ok (between e f.0, f.1)) (Ok (alone e, rest)))
    go e rest false = told_ok (Behind (IsRanked 5) IsRange e) (alone e) rest (λ z t d. is_alone d)
    go e rest true =
        led_by_sign signs.Colon (suc m) m refl (Behind (IsRanked 5) IsRange e) _
        (λ c. record { more = tok c (kinds.Whole 0) ∷ []; tree = between e (whole c 0); any = λ z t d. is_between d (one_whole 5 c z) })
        (λ c more. told_then (Led (sign c signs.Colon) (Behind (IsRanked 5) IsRange e)) (λ f. Ok (between e f.0, f.1))
        (λ f. record { more = []; tree = between e f; any = λ z k g t d. is_between d g })
        (λ f last. told_ok (Behind (IsRanked 5) (Led (sign c signs.Colon) (Behind (IsRanked 5) IsRange e)) f) (between e f) last (λ z k g t d. is_between d g))
        (inner p more))
        rest

any_range : Pos → Finish IsRange
any_range p = record { more = tok p (kinds.Whole 0) ∷ []; tree = alone (whole p 0); any = λ z. is_alone (one_whole 5 p z) }

all_ranges_told : (m : ℕ) → Inner (suc m) → (p : Pos) (toks : Toks) → Told (suc m) (suc m) AreRanges toks (listed_at (range_at (expr_at (suc m) p)) toks)
all_ranges_told m inner p toks = told_listed m (range_at (expr_at (suc m) p)) IsRange (any_range p) (range_told m inner p) AreRanges (λ x t u d. one_range d) (λ xs x q t k u l d. and_range l d) toks

ranges_told : (m : ℕ) → Inner (suc m) → (b : Pos) (toks : Toks) → Told (suc m) (suc (suc m)) AreParts toks (ranges_at (expr_at (suc m)) b toks)
unfolding ranges_at
ranges_told m inner p toks = go (begins signs.CloseBracket toks)
  where
    go : (b : Bool) → Told (suc m) (suc (suc m)) AreParts toks (cond b (sign_at signs.CloseBracket toks >>= λ c. Ok ([], c.1)) (listed_at (range_at (expr_at (suc m) p)) toks >>= λ rs. sign_at signs.CloseBracket rs.1 >>= λ c. Ok (rs.0, c.1)))
    go true = closed signs.CloseBracket (suc m) (suc m) refl AreParts [] (λ q z. no_parts) toks
    go false =
        told_then AreParts (λ rs. sign_at signs.CloseBracket rs.1 >>= λ c. Ok (rs.0, c.1))
        (λ rs. record { more = sign p signs.CloseBracket ∷ []; tree = rs; any = λ z t d. some_parts d })
        (λ rs rest. closed signs.CloseBracket (suc m) (suc m) refl (Behind AreRanges AreParts rs) rs (λ q z t d. some_parts d) rest)
        (all_ranges_told m inner p toks)

-- the tokens from a mode's name on that stands before them, or none
abbrev pub before : Option Name → Toks → Toks
before None u = u
before (Some x) u = name_token x ∷ u

head_of : (mode : Option Name) (b : Pos) (m : Toks) → IsTupleHead mode b (before mode (sign b signs.OpenBracket ∷ m)) m
head_of None b m = bare
head_of (Some x) b m = of_mode

-- what is an operand together with the mode's name before it
abbrev pub Headed : Option Name → ExprTree → Toks → Toks → Type 0
Headed mode y u v = IsOperand y (before mode u) v

close_tuple : (mode : Option Name) (p : Pos) → Finish (Led (sign p signs.OpenBracket) (Headed mode))
close_tuple mode p = record { more = sign p signs.CloseBracket ∷ []; tree = tuple (tuple_place mode p) mode p (range_nodes []); any = λ z. is_tuple (head_of mode p (sign p signs.CloseBracket ∷ z)) no_parts }

-- the tokens up to the value of a tuple "[(*): value]" behind its bracket
abbrev Opened : Option Name → Pos → Pos → ExprTree → Toks → Toks → Type 0
Opened mode b p = Led (sign p signs.Open) (Led (sign b signs.OpenBracket) (Headed mode))

the_uniform : (mode : Option Name) (b p q r s t : Pos) (e : ExprTree) (m z : Toks) → IsRanked 5 e m (sign t signs.CloseBracket ∷ z) → Headed mode (uniform (tuple_place mode b) mode b e) (sign b signs.OpenBracket ∷ sign p signs.Open ∷ sign q signs.Times ∷ sign r signs.Close ∷ sign s signs.Colon ∷ m) z
the_uniform mode b p q r s t e m z d = is_uniform (head_of mode b (sign p signs.Open ∷ sign q signs.Times ∷ sign r signs.Close ∷ sign s signs.Colon ∷ m)) d

close_uniform : (mode : Option Name) (b p : Pos) → Finish (Opened mode b p)
close_uniform mode b p = record {
  more = sign p signs.Times ∷ sign p signs.Close ∷ sign p signs.Colon ∷ tok p (kinds.Whole 0) ∷ sign p signs.CloseBracket ∷ [];
  tree = uniform (tuple_place mode b) mode b (whole p 0);
  any = λ z. the_uniform mode b p p p p p (whole p 0) (tok p (kinds.Whole 0) ∷ sign p signs.CloseBracket ∷ z) z (one_whole 5 p (sign p signs.CloseBracket ∷ z));
}

uniform_told : (m : ℕ) → Inner (suc m) → (mode : Option Name) (b : Pos) (toks : Toks) → Told (suc m) (suc (suc m)) (Led (sign b signs.OpenBracket) (Headed mode)) toks (uniform_at (suc m) (expr_at (suc m)) mode b toks)
unfolding uniform_at
uniform_told zero inner mode b toks = told_full signs.Open refl (Led (sign b signs.OpenBracket) (Headed mode)) _ (close_uniform mode b) (λ p rest. refl) toks
uniform_told (suc j) inner mode b toks =
    led_by_sign signs.Open (suc (suc j)) j refl (Led (sign b signs.OpenBracket) (Headed mode)) _ (close_uniform mode b)
    (λ p rest. led_by_sign signs.Times (suc j) j refl (Opened mode b p) _
    (λ q. record { more = sign p signs.Close ∷ sign p signs.Colon ∷ tok p (kinds.Whole 0) ∷ sign p signs.CloseBracket ∷ []; tree = uniform (tuple_place mode b) mode b (whole p 0); any = λ z. the_uniform mode b p q p p p (whole p 0) (tok p (kinds.Whole 0) ∷ sign p signs.CloseBracket ∷ z) z (one_whole 5 p (sign p signs.CloseBracket ∷ z)) })
    (λ q rest. led_by_sign signs.Close (suc j) (suc j) refl (Led (sign q signs.Times) (Opened mode b p)) _
    (λ r. record { more = sign p signs.Colon ∷ tok p (kinds.Whole 0) ∷ sign p signs.CloseBracket ∷ []; tree = uniform (tuple_place mode b) mode b (whole p 0); any = λ z. the_uniform mode b p q r p p (whole p 0) (tok p (kinds.Whole 0) ∷ sign p signs.CloseBracket ∷ z) z (one_whole 5 p (sign p signs.CloseBracket ∷ z)) })
    (λ r rest. led_by_sign signs.Colon (suc (suc j)) (suc j) refl (Led (sign r signs.Close) (Led (sign q signs.Times) (Opened mode b p))) _
    (λ s. record { more = tok p (kinds.Whole 0) ∷ sign p signs.CloseBracket ∷ []; tree = uniform (tuple_place mode b) mode b (whole p 0); any = λ z. the_uniform mode b p q r s p (whole p 0) (tok p (kinds.Whole 0) ∷ sign p signs.CloseBracket ∷ z) z (one_whole 5 p (sign p signs.CloseBracket ∷ z)) })
    (λ s rest. told_then (Led (sign s signs.Colon) (Led (sign r signs.Close) (Led (sign q signs.Times) (Opened mode b p)))) _
    (λ e. record { more = sign p signs.CloseBracket ∷ []; tree = uniform (tuple_place mode b) mode b e; any = λ z m d. the_uniform mode b p q r s p e m z d })
    (λ e last. closed signs.CloseBracket (suc (suc j)) (suc (suc j)) refl (Behind (IsRanked 5) (Led (sign s signs.Colon) (Led (sign r signs.Close) (Led (sign q signs.Times) (Opened mode b p)))) e) (uniform (tuple_place mode b) mode b e) (λ t z m d. the_uniform mode b p q r s t e m z d) last)
    (inner b rest))
    rest)
    rest)
    rest)
    toks

pub tuple_told : (n : ℕ) → Inner n → (mode : Option Name) (toks : Toks) → Told (suc n) (suc n) (Headed mode) toks (tuple_at n (expr_at n) mode toks)
unfolding tuple_at
tuple_told zero inner mode toks = told_full signs.OpenBracket refl (Headed mode) _ (close_tuple mode) (λ p rest. refl) toks
tuple_told (suc m) inner mode toks = led_by_sign signs.OpenBracket (suc (suc m)) m refl (Headed mode) _ (close_tuple mode) (λ b rest. go b rest (begins_uniform rest)) toks
  where
    go : (b : Pos) (rest : Toks) (c : Bool) → Told (suc m) (suc (suc m)) (Led (sign b signs.OpenBracket) (Headed mode)) rest (cond c (uniform_at (suc m) (expr_at (suc m)) mode b rest) (ranges_at (expr_at (suc m)) b rest >>= λ rs. Ok (tuple (tuple_place mode b) mode b (range_nodes rs.0), rs.1)))
    go b rest true = uniform_told m inner mode b rest
    go b rest false =
        told_then (Led (sign b signs.OpenBracket) (Headed mode)) (λ rs. Ok (tuple (tuple_place mode b) mode b (range_nodes rs.0), rs.1))
        (λ rs. record { more = []; tree = tuple (tuple_place mode b) mode b (range_nodes rs); any = λ z k d. is_tuple (head_of mode b k) d })
        (λ rs last. told_ok (Behind AreParts (Led (sign b signs.OpenBracket) (Headed mode)) rs) (tuple (tuple_place mode b) mode b (range_nodes rs)) last (λ z k d. is_tuple (head_of mode b k) d))
        (ranges_told m inner b rest)

-- ---- operands

-- what is read where it is there, or else a name alone
or_alone : (extent : Extent) (n : ℕ) (x : Name) (toks : Toks) {r : Read ExprTree} → Told (suc n) (suc n) (Headed (Some x)) toks r → Told (suc n) (suc n) (Led (name_token x) IsOperand) toks (settle extent r (name x, toks) (λ e. Ok e))
or_alone extent n x toks (taken T) = taken T
or_alone extent n x toks (broken V d) = broken V d
or_alone extents.Whole n x toks (missing V e) = missing V e
or_alone extents.Longest n x toks (missing V e) = told_ok (Led (name_token x) IsOperand) (name x) toks (λ z. is_named a_name)

pub begun_told : (extent : Extent) (n : ℕ) → Inner n → (x : Name) (toks : Toks) → Told (suc n) (suc n) (Led (name_token x) IsOperand) toks (begun_at extent n (expr_at n) x toks)
unfolding begun_at
begun_told extent n inner x toks = go (begins signs.OpenBracket toks)
  where
    go : (b : Bool) → Told (suc n) (suc n) (Led (name_token x) IsOperand) toks (cond b (settle extent (tuple_at n (expr_at n) (Some x) toks) (name x, toks) (λ e. Ok e)) (parts_at extent n (expr_at n) (name x) toks))
    go true = or_alone extent n x toks (tuple_told n inner (Some x) toks)
    go false = parts_told extent n inner x toks

close_paren : (p : Pos) → Finish (Led (sign p signs.Open) IsOperand)
close_paren p = record { more = tok p (kinds.Whole 0) ∷ sign p signs.Close ∷ []; tree = paren p (whole p 0); any = λ z. is_paren (one_whole 5 p (sign p signs.Close ∷ z)) }

paren_told : (n : ℕ) → Inner n → (toks : Toks) → Told (suc n) (suc n) IsOperand toks (paren_at (expr_at n) toks)
unfolding paren_at expr_at
paren_told zero inner toks = told_full signs.Open refl IsOperand _ close_paren (λ p rest. refl) toks
paren_told (suc m) inner toks =
    led_by_sign signs.Open (suc (suc m)) m refl IsOperand _ close_paren
    (λ p rest. told_then (Led (sign p signs.Open) IsOperand) (λ e. sign_at signs.Close e.1 >>= λ c. Ok (paren p e.0, c.1))
    (λ e. record { more = sign p signs.Close ∷ []; tree = paren p e; any = λ z t d. is_paren d })
    (λ e last. closed signs.Close (suc m) (suc m) refl (Behind (IsRanked 5) (Led (sign p signs.Open) IsOperand) e) (paren p e) (λ q z t d. is_paren d) last)
    (inner p rest))
    toks

started : (at : Pos) (x : Name) (es : List ExprTree) (t u : Toks) → InBrackets es t u → IsOperand (start at x (expr_nodes es)) (word at words.Start ∷ name_token x ∷ t) u
started at x es t u (bracketed a) = is_start a

operand_told : (extent : Extent) (n : ℕ) → Inner n → (toks : Toks) → Told (suc n) (suc n) IsOperand toks (operand_at extent n (expr_at n) toks)
unfolding operand_at
operand_told extent n inner [] = missing (nothing_read [] any_operand) refl
operand_told extent n inner (t ∷ rest) = of_kind t.at t.kind rest
  where
    of_kind : (at : Pos) (k : TokenKind) (rest : Toks) → Told (suc n) (suc n) IsOperand (tok at k ∷ rest) (operand_at extent n (expr_at n) (tok at k ∷ rest))
    of_kind at (kinds.Whole v) rest = token_then at (kinds.Whole v) refl IsOperand (told_ok (Led (tok at (kinds.Whole v)) IsOperand) (whole at v) rest (λ z. is_whole))
    of_kind at (kinds.Char v) rest = token_then at (kinds.Char v) refl IsOperand (told_ok (Led (tok at (kinds.Char v)) IsOperand) (character at v) rest (λ z. is_character))
    of_kind at (kinds.Text v) rest = token_then at (kinds.Text v) refl IsOperand (told_ok (Led (tok at (kinds.Text v)) IsOperand) (text at v) rest (λ z. is_text))
    of_kind at (kinds.Name s) rest = token_then at (kinds.Name s) refl IsOperand (begun_told extent n inner (record { at = at; text = s }) rest)
    of_kind at (kinds.Word words.This) rest = token_then at (kinds.Word words.This) refl IsOperand (told_ok (Led (word at words.This) IsOperand) (this_instance at) rest (λ z. is_this))
    of_kind at (kinds.Word words.Receive) rest =
        token_then at (kinds.Word words.Receive) refl IsOperand (led_by_name n (Led (word at words.Receive) IsOperand) (λ x. Ok (receive at x.0, x.1))
        (λ x. record { more = []; tree = receive at x; any = λ z. is_receive })
        (λ x last. told_ok (Led (name_token x) (Led (word at words.Receive) IsOperand)) (receive at x) last (λ z. is_receive))
        rest)
    of_kind at (kinds.Word words.Start) rest =
        token_then at (kinds.Word words.Start) refl IsOperand (led_by_name n (Led (word at words.Start) IsOperand) (λ x. args_at n (expr_at n) x.1 >>= λ es. Ok (start at x.0 (expr_nodes es.0), es.1))
        (λ x. record { more = sign at signs.Open ∷ sign at signs.Close ∷ []; tree = start at x (expr_nodes []); any = λ z. is_start no_args })
        (λ x last. told_then (Led (name_token x) (Led (word at words.Start) IsOperand)) (λ es. Ok (start at x (expr_nodes es.0), es.1))
        (λ es. record { more = []; tree = start at x (expr_nodes es); any = λ z t d. started at x es t z d })
        (λ es end. told_ok (Behind InBrackets (Led (name_token x) (Led (word at words.Start) IsOperand)) es) (start at x (expr_nodes es)) end (λ z t d. started at x es t z d))
        (told_args n inner last))
        rest)
    of_kind at (kinds.Word w) rest = missing (nothing_read (word at w ∷ rest) any_operand) refl
    of_kind at (kinds.Sign signs.Open) rest = paren_told n inner (sign at signs.Open ∷ rest)
    of_kind at (kinds.Sign signs.OpenBracket) rest = tuple_told n inner None (sign at signs.OpenBracket ∷ rest)
    of_kind at (kinds.Sign s) rest = missing (nothing_read (sign at s ∷ rest) any_operand) refl

-- ---- operators

prefixed_told : (extent : Extent) (n : ℕ) → Inner n → (toks : Toks) → Told (suc n) (suc n) (IsRanked 0) toks (prefixed_at extent n (expr_at n) toks)
unfolding prefixed_at
prefixed_told extent n inner toks = go (begins signs.Minus toks) (begins_with words.Not toks)
  where
    go : (b c : Bool) → Told (suc n) (suc n) (IsRanked 0) toks (cond b (sign_at signs.Minus toks >>= λ p. operand_at extent n (expr_at n) p.1 >>= λ e. Ok (prefixed p.0 prefixes.Minus e.0, e.1)) (cond c (word_at words.Not toks >>= λ p. operand_at extent n (expr_at n) p.1 >>= λ e. Ok (prefixed p.0 prefixes.Not e.0, e.1)) (operand_at extent n (expr_at n) toks)))
    go true c =
        led_by_sign signs.Minus (suc n) n refl (IsRanked 0) _
        (λ p. record { more = tok p (kinds.Whole 0) ∷ []; tree = prefixed p prefixes.Minus (whole p 0); any = λ z. is_minus is_whole })
        (λ p rest. told_then (Led (sign p signs.Minus) (IsRanked 0)) (λ e. Ok (prefixed p prefixes.Minus e.0, e.1))
        (λ e. record { more = []; tree = prefixed p prefixes.Minus e; any = λ z t d. is_minus d })
        (λ e last. told_ok (Behind IsOperand (Led (sign p signs.Minus) (IsRanked 0)) e) (prefixed p prefixes.Minus e) last (λ z t d. is_minus d))
        (operand_told extent n inner rest))
        toks
    go false true =
        led_by_word words.Not (suc n) n refl (IsRanked 0) _
        (λ p. record { more = tok p (kinds.Whole 0) ∷ []; tree = prefixed p prefixes.Not (whole p 0); any = λ z. is_not is_whole })
        (λ p rest. told_then (Led (word p words.Not) (IsRanked 0)) (λ e. Ok (prefixed p prefixes.Not e.0, e.1))
        (λ e. record { more = []; tree = prefixed p prefixes.Not e; any = λ z t d. is_not d })
        (λ e last. told_ok (Behind IsOperand (Led (word p words.Not) (IsRanked 0)) e) (prefixed p prefixes.Not e) last (λ z t d. is_not d))
        (operand_told extent n inner rest))
        toks
    go false false = told_as IsOperand (IsRanked 0) (λ x t u d. is_plain d) (operand_told extent n inner toks)

-- an operator of a rank and what stands behind it
pub data IsTurn (r : ℕ) : (Pos × Operator) × ExprTree → Toks → Toks → Type 0 where
  turned : {p : Pos} {o : Operator} {e : ExprTree} {kind : TokenKind} {m u : Toks} → operator_of kind ≡ Some o → rank_of o ≡ suc r → IsRanked r e m u → IsTurn r ((p, o), e) (tok p kind ∷ m) u

chain_turn : (r j : ℕ) (l : ExprTree) (x : (Pos × Operator) × ExprTree) (t u v : Toks) → j < 32 → IsChain r j l t u → IsTurn r x u v → IsChain r (suc j) (with_turn l x) t v
chain_turn r j l x t u v lt c (turned is rank d) = turn c is rank d lt

pub ranked_is : (r : ℕ) (q : Option Operator) (o : Operator) → ranked_operator r q ≡ Some o → (q ≡ Some o) × (rank_of o ≡ r)
ranked_is r None o e = absurd cc
ranked_is r (Some q) o e = go (eqb (rank_of q) r) refl e
  where
    go : (b : Bool) → eqb (rank_of q) r ≡ b → cond b (Some q) None ≡ Some o → (Some q ≡ Some o) × (rank_of o ≡ r)
    go true h e = let same : q ≡ o = cc in (e, ap rank_of (sym same) ∙ eqb-true _ _ h)
    go false h e = absurd cc

pub turn_told : (extent : Extent) (n r : ℕ) → ((toks : Toks) → Told (suc n) (suc n) (IsRanked r) toks (ranked_at extent n (expr_at n) r toks)) → (toks : Toks) → ToldPiece (suc n) (IsTurn r) toks (turn_at extent (ranked_at extent n (expr_at n) r) (suc r) toks)
unfolding turn_at operator_at
turn_told extent n r next [] = no_piece
turn_told extent n r next (t ∷ rest) = go (ranked_operator (suc r) (operator_of t.kind)) refl
  where
    go : (q : Option Operator) → ranked_operator (suc r) (operator_of t.kind) ≡ q → ToldPiece (suc n) (IsTurn r) (t ∷ rest) (chosen (chosen {B = Option ((Pos × Operator) × Toks)} q None (λ o. Some ((t.at, o), rest))) (Ok None) (λ o. settle extent (ranked_at extent n (expr_at n) r o.1) None (λ e. Ok (Some ((o.0, e.0), e.1)))))
    go None h = no_piece
    go (Some o) h =
        let found = ranked_is (suc r) (operator_of t.kind) o h in
        settled extent (λ e t' u. IsTurn r ((t.at, o), e) t' u) (IsTurn r) (λ e. ((t.at, o), e)) (λ x t' u d. d)
        (token_then t.at t.kind ((operator_marks t.kind o found.0).room (suc n)) (λ e t' u. IsTurn r ((t.at, o), e) t' u)
        (told_as (IsRanked r) (Led (tok t.at t.kind) (λ e t' u. IsTurn r ((t.at, o), e) t' u)) (λ e u v d. turned found.0 found.1 d) (next rest)))

-- a rank, and the operators of the next
chained_told : (extent : Extent) (n r : ℕ) → ((toks : Toks) → Told (suc n) (suc n) (IsRanked r) toks (ranked_at extent n (expr_at n) r toks)) → (toks : Toks) → Told (suc n) (suc n) (IsRanked (suc r)) toks (ranked_at extent n (expr_at n) r toks >>= λ l. repeat (turn_at extent (ranked_at extent n (expr_at n) r) (suc r)) with_turn 32 l.0 l.1)
chained_told extent n r next toks =
    told_then (IsRanked (suc r)) _
    (λ l. record { more = []; tree = l; any = λ z t d. is_chain (first d) })
    (λ l rest. told_as (After (suc n) (turn_at extent (ranked_at extent n (expr_at n) r) (suc r)) with_turn (IsChain r) (IsTurn r) 32 (chain_turn r) (turn_told extent n r next) 0 l) (Behind (IsRanked r) (IsRanked (suc r)) l) (λ y u v d t a. is_chain (d t (first a)).1)
    (told_loop (suc n) (turn_at extent (ranked_at extent n (expr_at n) r) (suc r)) with_turn (IsChain r) (IsTurn r) 32 (chain_turn r) (turn_told extent n r next) 32 0 (omega arith) l rest))
    (next toks)

pub ranked_told : (extent : Extent) (n : ℕ) → Inner n → (r : ℕ) (toks : Toks) → Told (suc n) (suc n) (IsRanked r) toks (ranked_at extent n (expr_at n) r toks)
unfolding ranked_at
ranked_told extent n inner zero toks = prefixed_told extent n inner toks
ranked_told extent n inner (suc r) toks = chained_told extent n r (λ t. ranked_told extent n inner r t) toks

pub told_inner : (n : ℕ) → Inner n
unfolding expr_at
told_inner zero = tt
told_inner (suc n) = λ p toks. ranked_told extents.Whole n (told_inner n) 5 toks

-- an expression where levels are left, at a place
pub told_expr : (n : ℕ) (p : Pos) (toks : Toks) → Told (suc n) (suc n) (IsRanked 5) toks (expr_at (suc n) p toks)
told_expr n p toks = told_inner (suc n) p toks

-- the same of an expression that no opening token stands before
pub told_value : (extent : Extent) (n : ℕ) (toks : Toks) → Told (suc n) (suc n) (IsRanked 5) toks (ranked_at extent n (expr_at n) 5 toks)
told_value extent n toks = ranked_told extent n (told_inner n) 5 toks
