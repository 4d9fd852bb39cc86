-- The table of words, read backwards.
use Rattle.std.proofs.Common.{◌≡◌, ℕ, ◌<◌, Bool, true, false, ◌||◌, cond, List, [], ◌∷◌, length, get_or, Option, Some, None, refl, sym, subst, ap, ◌∙◌, ◌⊎◌, inl, inr, arith}
use Rattle.std.specs.List.{find}
use Rattle.std.specs.Str.{bytes_eq}
use Rattle.std.proofs.lemmas.Slice.Eq.{bytes_eq-Decides}
use Rattle.chill_tree.specs.declared.token.Word.{Word}
use Rattle.chill_tree.specs.declared.token.Word.TheVariants as words
use Rattle.chill_tree.specs.declared.places.TheConstants.{WORDS_BY_PLACE}
use Rattle.chill_tree.specs.Spelling.{word_spelling, lower_case, IsSpelled, is_spelled, all_words, word_of, place_of}

-- the word that a word's spelling is found to be
word_back : (w : Word) → (word_of (word_spelling w) ≡ Some w) × (word_of (lower_case (word_spelling w)) ≡ Some w)
unfolding word_of all_words
word_back words.All = (refl, refl)
word_back words.And = (refl, refl)
word_back words.AndIf = (refl, refl)
word_back words.Array = (refl, refl)
word_back words.Assert = (refl, refl)
word_back words.Begin = (refl, refl)
word_back words.Buffer = (refl, refl)
word_back words.By = (refl, refl)
word_back words.Call = (refl, refl)
word_back words.Case = (refl, refl)
word_back words.Cause = (refl, refl)
word_back words.Chars = (refl, refl)
word_back words.Continue = (refl, refl)
word_back words.Dcl = (refl, refl)
word_back words.Delay = (refl, refl)
word_back words.Do = (refl, refl)
word_back words.Down = (refl, refl)
word_back words.Else = (refl, refl)
word_back words.ElsIf = (refl, refl)
word_back words.End = (refl, refl)
word_back words.Esac = (refl, refl)
word_back words.Event = (refl, refl)
word_back words.Ever = (refl, refl)
word_back words.Exceptions = (refl, refl)
word_back words.Exit = (refl, refl)
word_back words.Fi = (refl, refl)
word_back words.For = (refl, refl)
word_back words.Grant = (refl, refl)
word_back words.If = (refl, refl)
word_back words.In = (refl, refl)
word_back words.Init = (refl, refl)
word_back words.InOut = (refl, refl)
word_back words.Mod = (refl, refl)
word_back words.Module = (refl, refl)
word_back words.NewMode = (refl, refl)
word_back words.NoPack = (refl, refl)
word_back words.Not = (refl, refl)
word_back words.Od = (refl, refl)
word_back words.Of = (refl, refl)
word_back words.On = (refl, refl)
word_back words.Or = (refl, refl)
word_back words.OrIf = (refl, refl)
word_back words.Out = (refl, refl)
word_back words.Pack = (refl, refl)
word_back words.Pos = (refl, refl)
word_back words.Powerset = (refl, refl)
word_back words.Priority = (refl, refl)
word_back words.Proc = (refl, refl)
word_back words.Process = (refl, refl)
word_back words.Read = (refl, refl)
word_back words.Receive = (refl, refl)
word_back words.Region = (refl, refl)
word_back words.Rem = (refl, refl)
word_back words.Result = (refl, refl)
word_back words.Return = (refl, refl)
word_back words.Returns = (refl, refl)
word_back words.Seize = (refl, refl)
word_back words.Send = (refl, refl)
word_back words.Set = (refl, refl)
word_back words.Signal = (refl, refl)
word_back words.Start = (refl, refl)
word_back words.Step = (refl, refl)
word_back words.Stop = (refl, refl)
word_back words.Struct = (refl, refl)
word_back words.Syn = (refl, refl)
word_back words.SynMode = (refl, refl)
word_back words.Then = (refl, refl)
word_back words.This = (refl, refl)
word_back words.To = (refl, refl)
word_back words.While = (refl, refl)
word_back words.Xor = (refl, refl)

-- where a word stands in the table, in upper and in lower case
at_home : (w other : Word) → (get_or WORDS_BY_PLACE (place_of (word_spelling w)) other ≡ w) × (get_or WORDS_BY_PLACE (place_of (lower_case (word_spelling w))) other ≡ w)
at_home words.All other = (refl, refl)
at_home words.And other = (refl, refl)
at_home words.AndIf other = (refl, refl)
at_home words.Array other = (refl, refl)
at_home words.Assert other = (refl, refl)
at_home words.Begin other = (refl, refl)
at_home words.Buffer other = (refl, refl)
at_home words.By other = (refl, refl)
at_home words.Call other = (refl, refl)
at_home words.Case other = (refl, refl)
at_home words.Cause other = (refl, refl)
at_home words.Chars other = (refl, refl)
at_home words.Continue other = (refl, refl)
at_home words.Dcl other = (refl, refl)
at_home words.Delay other = (refl, refl)
at_home words.Do other = (refl, refl)
at_home words.Down other = (refl, refl)
at_home words.Else other = (refl, refl)
at_home words.ElsIf other = (refl, refl)
at_home words.End other = (refl, refl)
at_home words.Esac other = (refl, refl)
at_home words.Event other = (refl, refl)
at_home words.Ever other = (refl, refl)
at_home words.Exceptions other = (refl, refl)
at_home words.Exit other = (refl, refl)
at_home words.Fi other = (refl, refl)
at_home words.For other = (refl, refl)
at_home words.Grant other = (refl, refl)
at_home words.If other = (refl, refl)
at_home words.In other = (refl, refl)
at_home words.Init other = (refl, refl)
at_home words.InOut other = (refl, refl)
at_home words.Mod other = (refl, refl)
at_home words.Module other = (refl, refl)
at_home words.NewMode other = (refl, refl)
at_home words.NoPack other = (refl, refl)
at_home words.Not other = (refl, refl)
at_home words.Od other = (refl, refl)
at_home words.Of other = (refl, refl)
at_home words.On other = (refl, refl)
at_home words.Or other = (refl, refl)
at_home words.OrIf other = (refl, refl)
at_home words.Out other = (refl, refl)
at_home words.Pack other = (refl, refl)
at_home words.Pos other = (refl, refl)
at_home words.Powerset other = (refl, refl)
at_home words.Priority other = (refl, refl)
at_home words.Proc other = (refl, refl)
at_home words.Process other = (refl, refl)
at_home words.Read other = (refl, refl)
at_home words.Receive other = (refl, refl)
at_home words.Region other = (refl, refl)
at_home words.Rem other = (refl, refl)
at_home words.Result other = (refl, refl)
at_home words.Return other = (refl, refl)
at_home words.Returns other = (refl, refl)
at_home words.Seize other = (refl, refl)
at_home words.Send other = (refl, refl)
at_home words.Set other = (refl, refl)
at_home words.Signal other = (refl, refl)
at_home words.Start other = (refl, refl)
at_home words.Step other = (refl, refl)
at_home words.Stop other = (refl, refl)
at_home words.Struct other = (refl, refl)
at_home words.Syn other = (refl, refl)
at_home words.SynMode other = (refl, refl)
at_home words.Then other = (refl, refl)
at_home words.This other = (refl, refl)
at_home words.To other = (refl, refl)
at_home words.While other = (refl, refl)
at_home words.Xor other = (refl, refl)

-- what is spelled is found
pub word_of-spelled : (w : Word) (bytes : List ℕ) → IsSpelled w bytes → word_of bytes ≡ Some w
word_of-spelled w bytes (inl e) = subst (λ (b : List ℕ). word_of b ≡ Some w) (sym e) (word_back w).0
word_of-spelled w bytes (inr e) = subst (λ (b : List ℕ). word_of b ≡ Some w) (sym e) (word_back w).1

found_head : (p : Word → Bool) (v w : Word) (rest : Option Word) → (rest ≡ Some w → p w ≡ true) → (b : Bool) → p v ≡ b → cond b (Some v) rest ≡ Some w → p w ≡ true
found_head p v w rest later true is found = let same : v ≡ w = cc in subst (λ (x : Word). p x ≡ true) same is
found_head p v w rest later false is found = later found

find_passes : (p : Word → Bool) (ws : List Word) (w : Word) → find p ws ≡ Some w → p w ≡ true
find_passes p [] w e = absurd cc
find_passes p (v ∷ ws) w e = found_head p v w (find p ws) (find_passes p ws w) (p v) refl e

none_head : (p : Word → Bool) (v : Word) (rest : Option Word) → rest ≡ None → (p v ≡ true → ⊥) → (b : Bool) → p v ≡ b → cond b (Some v) rest ≡ None
none_head p v rest later none true is = absurd (none is)
none_head p v rest later none false is = later

find_none : (p : Word → Bool) (ws : List Word) → ((w : Word) → p w ≡ true → ⊥) → find p ws ≡ None
find_none p [] none = refl
find_none p (v ∷ ws) none = none_head p v (find p ws) (find_none p ws none) (none v) (p v) refl

-- one of two tests
either_true : (a b : Bool) {P Q : Type 0} → (a ≡ true → P) → (b ≡ true → Q) → (a || b) ≡ true → P ⊎ Q
either_true true b left right e = inl (left refl)
either_true false b left right e = inr (right e)

-- what the test says
is_spelled-true : (w : Word) (bytes : List ℕ) → is_spelled bytes w ≡ true → IsSpelled w bytes
is_spelled-true w bytes e = either_true (bytes_eq bytes (word_spelling w)) (bytes_eq bytes (lower_case (word_spelling w)))
    (bytes_eq-Decides bytes (word_spelling w)).0 (bytes_eq-Decides bytes (lower_case (word_spelling w))).0 e

-- what is found is spelled
pub word_of-found : (w : Word) (bytes : List ℕ) → word_of bytes ≡ Some w → IsSpelled w bytes
unfolding word_of
word_of-found w bytes e = is_spelled-true w bytes (find_passes (is_spelled bytes) all_words w e)

-- where no word is spelled none is found
pub word_of-none : (bytes : List ℕ) → ((w : Word) → IsSpelled w bytes → ⊥) → word_of bytes ≡ None
unfolding word_of
word_of-none bytes none = find_none (is_spelled bytes) all_words (λ w e. none w (is_spelled-true w bytes e))

-- what is spelled stands in the table at its place
at_place : (w other : Word) (bytes : List ℕ) → IsSpelled w bytes → get_or WORDS_BY_PLACE (place_of bytes) other ≡ w
at_place w other bytes (inl e) = subst (λ (b : List ℕ). get_or WORDS_BY_PLACE (place_of b) other ≡ w) (sym e) (at_home w other).0
at_place w other bytes (inr e) = subst (λ (b : List ℕ). get_or WORDS_BY_PLACE (place_of b) other ≡ w) (sym e) (at_home w other).1

-- where the word at the place of the bytes isn't spelled, none is
pub none_spelled : (bytes : List ℕ) (place : ℕ) (found other : Word) → place ≡ place_of bytes → found ≡ get_or WORDS_BY_PLACE place other → (IsSpelled found bytes → ⊥)
    → (w : Word) → IsSpelled w bytes → ⊥
none_spelled bytes place found other at is none w spelled =
    let same : w ≡ found = sym (is ∙ ap (λ (n : ℕ). get_or WORDS_BY_PLACE n other) at ∙ at_place w other bytes spelled) in
    none (subst (λ (v : Word). IsSpelled v bytes) same spelled)

empty_none : (w : Word) → word_of [] ≡ Some w → ⊥
unfolding word_of all_words
empty_none w e = cc

-- no bytes spell no word
pub nothing_spelled : (bytes : List ℕ) → length bytes < 1 → (w : Word) → IsSpelled w bytes → ⊥
nothing_spelled [] short w spelled = empty_none w (word_of-spelled w [] spelled)
nothing_spelled (b ∷ bs) short w spelled = absurd (omega arith)
