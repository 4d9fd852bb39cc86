-- Signs and words are told apart by their numbers.
use Rattle.std.proofs.Common.{◌≡◌, ℕ, zero, suc, Bool, true, false, eqb, List, [], ◌∷◌, refl, sym, ap, ◌∙◌}
use denote.Enum.Bare.{sameb, same_true, same_false}
use Rattle.chill_tree.specs.contracts.token.Word.{the_type}
use Rattle.std.proofs.lemmas.Bool.{eqb-true, eq-eqb}
use Rattle.chill_tree.specs.declared.token.Word.{Word}
use Rattle.chill_tree.specs.declared.token.Word.TheVariants as words
use Rattle.chill_tree.specs.declared.token.Sign.{Sign}
use Rattle.chill_tree.specs.declared.token.Sign.TheVariants as signs
use Rattle.chill_tree.specs.declared.token.TokenKind.{TokenKind}
use Rattle.chill_tree.specs.declared.token.TokenKind.TheVariants as kinds
use Rattle.rules_model.specs.Marks.{sign_code, word_code, is_sign, is_word}

-- the item at a place, or the last one
at_place : {A : Type 0} → A → List A → ℕ → A
at_place d [] n = d
at_place d (x ∷ xs) zero = x
at_place d (x ∷ xs) (suc n) = at_place d xs n

signs_in_order : List Sign
signs_in_order = signs.Open ∷ signs.Close ∷ signs.OpenBracket ∷ signs.CloseBracket ∷ signs.Comma ∷ signs.Semicolon ∷ signs.Colon ∷ signs.Becomes ∷ signs.Dot ∷ signs.Plus ∷ signs.Minus ∷ signs.Times ∷ signs.Divide ∷ signs.Equal ∷ signs.NotEqual ∷ signs.Less ∷ signs.LessOrEqual ∷ signs.Greater ∷ signs.GreaterOrEqual ∷ []

words_in_order : List Word
words_in_order = words.All ∷ words.And ∷ words.AndIf ∷ words.Array ∷ words.Assert ∷ words.Begin ∷ words.Buffer ∷ words.By ∷ words.Call ∷ words.Case ∷ words.Cause ∷ words.Chars ∷ words.Continue ∷ words.Dcl ∷ words.Delay ∷ words.Do ∷ words.Down ∷ words.Else ∷ words.ElsIf ∷ words.End ∷ words.Esac ∷ words.Event ∷ words.Ever ∷ words.Exceptions ∷ words.Exit ∷ words.Fi ∷ words.For ∷ words.Grant ∷ words.If ∷ words.In ∷ words.Init ∷ words.InOut ∷ words.Mod ∷ words.Module ∷ words.NewMode ∷ words.NoPack ∷ words.Not ∷ words.Od ∷ words.Of ∷ words.On ∷ words.Or ∷ words.OrIf ∷ words.Out ∷ words.Pack ∷ words.Pos ∷ words.Powerset ∷ words.Priority ∷ words.Proc ∷ words.Process ∷ words.Read ∷ words.Receive ∷ words.Region ∷ words.Rem ∷ words.Result ∷ words.Return ∷ words.Returns ∷ words.Seize ∷ words.Send ∷ words.Set ∷ words.Signal ∷ words.Start ∷ words.Step ∷ words.Stop ∷ words.Struct ∷ words.Syn ∷ words.SynMode ∷ words.Then ∷ words.This ∷ words.To ∷ words.While ∷ words.Xor ∷ []

sign_of_code : (s : Sign) → at_place signs.Open signs_in_order (sign_code s) ≡ s
unfolding at_place signs_in_order
sign_of_code signs.Open = refl
sign_of_code signs.Close = refl
sign_of_code signs.OpenBracket = refl
sign_of_code signs.CloseBracket = refl
sign_of_code signs.Comma = refl
sign_of_code signs.Semicolon = refl
sign_of_code signs.Colon = refl
sign_of_code signs.Becomes = refl
sign_of_code signs.Dot = refl
sign_of_code signs.Plus = refl
sign_of_code signs.Minus = refl
sign_of_code signs.Times = refl
sign_of_code signs.Divide = refl
sign_of_code signs.Equal = refl
sign_of_code signs.NotEqual = refl
sign_of_code signs.Less = refl
sign_of_code signs.LessOrEqual = refl
sign_of_code signs.Greater = refl
sign_of_code signs.GreaterOrEqual = refl

word_of_code : (w : Word) → at_place words.All words_in_order (word_code w) ≡ w
unfolding at_place words_in_order
word_of_code words.All = refl
word_of_code words.And = refl
word_of_code words.AndIf = refl
word_of_code words.Array = refl
word_of_code words.Assert = refl
word_of_code words.Begin = refl
word_of_code words.Buffer = refl
word_of_code words.By = refl
word_of_code words.Call = refl
word_of_code words.Case = refl
word_of_code words.Cause = refl
word_of_code words.Chars = refl
word_of_code words.Continue = refl
word_of_code words.Dcl = refl
word_of_code words.Delay = refl
word_of_code words.Do = refl
word_of_code words.Down = refl
word_of_code words.Else = refl
word_of_code words.ElsIf = refl
word_of_code words.End = refl
word_of_code words.Esac = refl
word_of_code words.Event = refl
word_of_code words.Ever = refl
word_of_code words.Exceptions = refl
word_of_code words.Exit = refl
word_of_code words.Fi = refl
word_of_code words.For = refl
word_of_code words.Grant = refl
word_of_code words.If = refl
word_of_code words.In = refl
word_of_code words.Init = refl
word_of_code words.InOut = refl
word_of_code words.Mod = refl
word_of_code words.Module = refl
word_of_code words.NewMode = refl
word_of_code words.NoPack = refl
word_of_code words.Not = refl
word_of_code words.Od = refl
word_of_code words.Of = refl
word_of_code words.On = refl
word_of_code words.Or = refl
word_of_code words.OrIf = refl
word_of_code words.Out = refl
word_of_code words.Pack = refl
word_of_code words.Pos = refl
word_of_code words.Powerset = refl
word_of_code words.Priority = refl
word_of_code words.Proc = refl
word_of_code words.Process = refl
word_of_code words.Read = refl
word_of_code words.Receive = refl
word_of_code words.Region = refl
word_of_code words.Rem = refl
word_of_code words.Result = refl
word_of_code words.Return = refl
word_of_code words.Returns = refl
word_of_code words.Seize = refl
word_of_code words.Send = refl
word_of_code words.Set = refl
word_of_code words.Signal = refl
word_of_code words.Start = refl
word_of_code words.Step = refl
word_of_code words.Stop = refl
word_of_code words.Struct = refl
word_of_code words.Syn = refl
word_of_code words.SynMode = refl
word_of_code words.Then = refl
word_of_code words.This = refl
word_of_code words.To = refl
word_of_code words.While = refl
word_of_code words.Xor = refl

pub sign_one : (s t : Sign) → sign_code s ≡ sign_code t → s ≡ t
sign_one s t e = sym (sign_of_code s) ∙ ap (at_place signs.Open signs_in_order) e ∙ sign_of_code t

pub word_one : (v w : Word) → word_code v ≡ word_code w → v ≡ w
word_one v w e = sym (word_of_code v) ∙ ap (at_place words.All words_in_order) e ∙ word_of_code w

pub is_sign_true : (s : Sign) (kind : TokenKind) → is_sign s kind ≡ true → kind ≡ kinds.Sign s
is_sign_true s (kinds.Sign t) h = ap (λ x. kinds.Sign x) (sym (sign_one s t (eqb-true _ _ h)))
is_sign_true s (kinds.Word w) h = absurd cc
is_sign_true s (kinds.Name n) h = absurd cc
is_sign_true s (kinds.Whole n) h = absurd cc
is_sign_true s (kinds.Char n) h = absurd cc
is_sign_true s (kinds.Text n) h = absurd cc

pub is_word_true : (w : Word) (kind : TokenKind) → is_word w kind ≡ true → kind ≡ kinds.Word w
is_word_true w (kinds.Word v) h = ap (λ x. kinds.Word x) (sym (word_one w v (eqb-true _ _ h)))
is_word_true w (kinds.Sign s) h = absurd cc
is_word_true w (kinds.Name n) h = absurd cc
is_word_true w (kinds.Whole n) h = absurd cc
is_word_true w (kinds.Char n) h = absurd cc
is_word_true w (kinds.Text n) h = absurd cc

not_same : (c : Bool) → (c ≡ true → ⊥) → false ≡ c
not_same false h = refl
not_same true h = absurd (h refl)

-- a test whether two words are one
pub word_tested : (b : Bool) (v w : Word) → b ≡ sameb the_type v w → b ≡ eqb (word_code w) (word_code v)
word_tested true v w h = sym (eq-eqb (word_code w) (word_code v) (ap word_code (sym (same_true the_type tt v w (sym h)))))
word_tested false v w h = not_same (eqb (word_code w) (word_code v)) (λ e. same_false the_type v w (sym h) (sym (word_one w v (eqb-true _ _ e))))
