-- Names and reserved words, where they end at a blank, at a line feed or with the text.
use Rattle.std.proofs.Common.{◌≡◌, inl, ℕ, suc, ◌+◌, Bool, true, false, ◌&&◌, cond, eqb, leb, List, [], ◌∷◌, ◌++◌, length, take, Option, Some, None, refl, ap, ◌∙◌, arith}
use Rattle.std.proofs.lemmas.List.{take_at}
use Rattle.std.proofs.lemmas.Bool.Decides.{nat_tests}
use Rattle.std.specs.List.{list_all, prefix_len}
use Rattle.chill_tree.specs.declared.token.Word.{Word}
use Rattle.chill_tree.specs.declared.token.Word.TheVariants as words
use Rattle.chill_tree.specs.declared.token.TokenKind.TheVariants as kinds
use Rattle.chill_tree.specs.Spelling.{word_spelling, word_of}
use Rattle.chill_tree.proofs.SpellingLemmas.{word_of-spelled}
use Rattle.rules_model.specs.TokensShapes.{is_letter, is_name_byte, base_of, name, token, named, piece_of}
use Rattle.rules_model.specs.TokensReading.{is_digit, name_at, based_at, shape_at}
use Rattle.rules_model.proofs.TokensRuns.{letter_first}

-- no token goes on with the byte, and no sign with it is another
pub record IsApart (b : ℕ) : Type 0 where
  pub name_byte : is_name_byte b ≡ false
  pub mark : eqb b 39 ≡ false
  pub digit : is_digit 10 b ≡ false
  pub underline : eqb b 95 ≡ false
  pub quote : eqb b 34 ≡ false
  pub equal : eqb b 61 ≡ false
  pub minus : eqb b 45 ≡ false
  pub times : eqb b 42 ≡ false

pub blank_apart : IsApart 32
blank_apart = record { name_byte = refl; mark = refl; digit = refl; underline = refl; quote = refl; equal = refl; minus = refl; times = refl }

pub feed_apart : IsApart 10
feed_apart = record { name_byte = refl; mark = refl; digit = refl; underline = refl; quote = refl; equal = refl; minus = refl; times = refl }

-- at the end, or before such a byte
abbrev pub BeginsApart : List ℕ → Type 0
BeginsApart [] = Unit {0}
BeginsApart (b ∷ bs) = IsApart b

pub both_true : (a b : Bool) → (a && b) ≡ true → (a ≡ true) × (b ≡ true)
both_true true b e = (refl, e)
both_true false b e = absurd cc

-- a run of bytes that pass, before one that doesn't
run_exact : (p : ℕ → Bool) (xs left : List ℕ) → list_all p xs ≡ true → prefix_len p left ≡ 0 → prefix_len p (xs ++ left) ≡ length xs
run_exact p [] left e none = none
run_exact p (x ∷ xs) left e none = run_step (p x) (list_all p xs) (prefix_len p (xs ++ left)) e (λ rest. run_exact p xs left rest none)
  where
    run_step : (b c : Bool) (k : ℕ) → (b && c) ≡ true → (c ≡ true → k ≡ length xs) → cond b (1 + k) 0 ≡ suc (length xs)
    run_step true c k both rest = let h : k ≡ length xs = rest both in omega arith
    run_step false c k both rest = absurd cc

run_stops : (p : ℕ → Bool) (b : ℕ) (bs : List ℕ) → p b ≡ false → prefix_len p (b ∷ bs) ≡ 0
run_stops p b bs e = rw e refl

name_stops : (left : List ℕ) → BeginsApart left → prefix_len is_name_byte left ≡ 0
name_stops [] ends = refl
name_stops (b ∷ bs) ends = let apart : IsApart b = ends in run_stops is_name_byte b bs apart.name_byte

name_exact : (xs left : List ℕ) → list_all is_name_byte xs ≡ true → BeginsApart left → name_at (xs ++ left) ≡ Some (name xs, length xs)
name_exact xs left e ends =
    let size = run_exact is_name_byte xs left e (name_stops left ends) in
    let front : take (prefix_len is_name_byte (xs ++ left)) (xs ++ left) ≡ xs = ap (λ (n : ℕ). take n (xs ++ left)) size ∙ take_at xs left (length xs) refl in
    λ i. Some (name (front i), size i)

-- no literal of a base
based_name : (o : Option ℕ) (b : ℕ) (bs left : List ℕ) → list_all is_name_byte bs ≡ true → BeginsApart left → based_at o (b ∷ (bs ++ left)) ≡ name_at (b ∷ (bs ++ left))
based_name None b bs left e ends = refl
based_name (Some base) b [] [] e ends = refl
based_name (Some base) b [] (c ∷ cs) e ends = let apart : IsApart c = ends in let mark = apart.mark in rw mark refl
based_name (Some base) b (c ∷ bs) left e ends = let other : eqb c 39 ≡ false = grind (arith, nat_tests) in rw other refl

pub name_shape : (b : ℕ) (bs left : List ℕ) → is_letter b ≡ true → list_all is_name_byte bs ≡ true → BeginsApart left → shape_at (b ∷ (bs ++ left)) ≡ Some (name (b ∷ bs), suc (length bs))
unfolding shape_at
name_shape b bs left letter others ends =
    rw (letter_first b letter, letter) (based_name (base_of b) b bs left others ends ∙ name_exact (b ∷ bs) left (rw letter others) ends)

-- which piece a name is
pub name_piece : (bytes : List ℕ) (t : Bool) (o p : Option Word) → t ≡ true → o ≡ p → cond t (Some (token (named bytes o))) None ≡ Some (token (named bytes p))
name_piece bytes t o p e f = rw (e, f) refl

-- the bytes are a name, and no longer than names may be
is_short_name : List ℕ → Bool
is_short_name [] = false
is_short_name (b ∷ bs) = is_letter b && (list_all is_name_byte bs && leb (length (b ∷ bs)) 64)

word_is_short : (w : Word) → is_short_name (word_spelling w) ≡ true
unfolding is_short_name
word_is_short words.All = refl
word_is_short words.And = refl
word_is_short words.AndIf = refl
word_is_short words.Array = refl
word_is_short words.Assert = refl
word_is_short words.Begin = refl
word_is_short words.Buffer = refl
word_is_short words.By = refl
word_is_short words.Call = refl
word_is_short words.Case = refl
word_is_short words.Cause = refl
word_is_short words.Chars = refl
word_is_short words.Continue = refl
word_is_short words.Dcl = refl
word_is_short words.Delay = refl
word_is_short words.Do = refl
word_is_short words.Down = refl
word_is_short words.Else = refl
word_is_short words.ElsIf = refl
word_is_short words.End = refl
word_is_short words.Esac = refl
word_is_short words.Event = refl
word_is_short words.Ever = refl
word_is_short words.Exceptions = refl
word_is_short words.Exit = refl
word_is_short words.Fi = refl
word_is_short words.For = refl
word_is_short words.Grant = refl
word_is_short words.If = refl
word_is_short words.In = refl
word_is_short words.Init = refl
word_is_short words.InOut = refl
word_is_short words.Mod = refl
word_is_short words.Module = refl
word_is_short words.NewMode = refl
word_is_short words.NoPack = refl
word_is_short words.Not = refl
word_is_short words.Od = refl
word_is_short words.Of = refl
word_is_short words.On = refl
word_is_short words.Or = refl
word_is_short words.OrIf = refl
word_is_short words.Out = refl
word_is_short words.Pack = refl
word_is_short words.Pos = refl
word_is_short words.Powerset = refl
word_is_short words.Priority = refl
word_is_short words.Proc = refl
word_is_short words.Process = refl
word_is_short words.Read = refl
word_is_short words.Receive = refl
word_is_short words.Region = refl
word_is_short words.Rem = refl
word_is_short words.Result = refl
word_is_short words.Return = refl
word_is_short words.Returns = refl
word_is_short words.Seize = refl
word_is_short words.Send = refl
word_is_short words.Set = refl
word_is_short words.Signal = refl
word_is_short words.Start = refl
word_is_short words.Step = refl
word_is_short words.Stop = refl
word_is_short words.Struct = refl
word_is_short words.Syn = refl
word_is_short words.SynMode = refl
word_is_short words.Then = refl
word_is_short words.This = refl
word_is_short words.To = refl
word_is_short words.While = refl
word_is_short words.Xor = refl

short_name_shape : (bytes left : List ℕ) → is_short_name bytes ≡ true → BeginsApart left → (shape_at (bytes ++ left) ≡ Some (name bytes, length bytes)) × (leb (length bytes) 64 ≡ true)
unfolding is_short_name
short_name_shape [] left e ends = absurd cc
short_name_shape (b ∷ bs) left e ends =
    let first = both_true (is_letter b) (list_all is_name_byte bs && leb (length (b ∷ bs)) 64) e in
    let others = both_true (list_all is_name_byte bs) (leb (length (b ∷ bs)) 64) first.1 in
    (name_shape b bs left first.0 others.0 ends, others.1)

-- a reserved word as it is written
pub word_shape : (w : Word) (left : List ℕ) → BeginsApart left → shape_at (word_spelling w ++ left) ≡ Some (name (word_spelling w), length (word_spelling w))
word_shape w left ends = (short_name_shape (word_spelling w) left (word_is_short w) ends).0

pub word_piece : (w : Word) → piece_of (name (word_spelling w)) ≡ Some (token (kinds.Word w))
word_piece w =
    let short = (short_name_shape (word_spelling w) [] (word_is_short w) tt).1 in
    name_piece (word_spelling w) (leb (length (word_spelling w)) 64) (word_of (word_spelling w)) (Some w) short (word_of-spelled w (word_spelling w) (inl refl))
