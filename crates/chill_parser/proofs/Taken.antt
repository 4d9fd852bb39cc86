-- What a step that did not fail has read.
use Rattle.std.proofs.Common.{◌≡◌, ℕ, zero, suc, ◌+◌, ◌<◌, Bool, true, false, cond, List, [], ◌∷◌, ◌++◌, length, Option, Some, None, Result, Ok, Err, refl, ap, subst, arith}
use Rattle.chill_base.specs.declared.pos.Pos.{Pos}
use Rattle.chill_tree.specs.declared.token.Word.{Word}
use Rattle.chill_tree.specs.declared.token.Sign.{Sign}
use Rattle.chill_tree.specs.declared.token.Sign.TheVariants as signs
use Rattle.chill_tree.specs.declared.token.TokenKind.{TokenKind}
use Rattle.chill_tree.specs.declared.token.TokenKind.TheVariants as kinds
use Rattle.chill_tree.specs.declared.tree.name.Name.{Name}
use Rattle.rules_model.specs.Marks.{Toks, tok, sign, word, name_token, is_sign, is_word, begins, begins_with}
use Rattle.rules_model.specs.ListGrammar.{AreListed, one_of, and_of, IsName, is_name, IsClause, no_clause, with_clause, IsFlag, no_flag, with_flag}
use Rattle.rules_model.specs.Reading.{Fault, Absent, Read, Piece, ◌>>=◌, chosen, sign_at, word_at, name_of, name_at, repeat, push, many_at, another_at, listed_at}
use Rattle.rules_model.specs.SimpleReading.{clause_at, flag_at}
use Rattle.expr_parser.proofs.Marked.{is_sign_true, is_word_true}

-- ---- steps: what each gave is a variable to what follows

abbrev pub done : {A : Type 0} → A → Result A Fault
done x = Ok x

pub ok_is : {A : Type 0} (x y : A) → done x ≡ done y → x ≡ y
ok_is x y e = cc

pub then_is : {A B : Type 0} (P : B → Type 0) (r : Result (A × Toks) Fault) (f : A × Toks → Result B Fault) → ((a : A) (rest : Toks) → r ≡ Ok (a, rest) → (y : B) → f (a, rest) ≡ Ok y → P y) → (y : B) → (r >>= f) ≡ Ok y → P y
then_is P (Ok x) f step y e = step x.0 x.1 refl y e
then_is P (Err d) f step y e = absurd cc

pub last_is : {B : Type 0} (P : B → Type 0) (x : B) → P x → (y : B) → done x ≡ done y → P y
last_is P x p y e = subst P (ok_is x y e) p

pub never : {B : Type 0} (P : B → Type 0) (d : Fault) (y : B) → Err d ≡ done y → P y
never P d y e = absurd cc

pub either : {B : Type 0} (P : B → Type 0) (b : Bool) (r s : Result B Fault) → (b ≡ true → (y : B) → r ≡ Ok y → P y) → (b ≡ false → (y : B) → s ≡ Ok y → P y) → (y : B) → cond b r s ≡ Ok y → P y
either P true r s f g y e = f refl y e
either P false r s f g y e = g refl y e

pub chosen_is : {A B : Type 0} (P : B → Type 0) (o : Option A) (r : Result B Fault) (f : A → Result B Fault) → (o ≡ None → (y : B) → r ≡ Ok y → P y) → ((x : A) → o ≡ Some x → (y : B) → f x ≡ Ok y → P y) → (y : B) → chosen o r f ≡ Ok y → P y
chosen_is P None r f g h y e = g refl y e
chosen_is P (Some x) r f g h y e = h x refl y e

-- ---- signs and words

pub sign_read : (s : Sign) (toks : Toks) (p : Pos) (rest : Toks) → sign_at s toks ≡ Ok (p, rest) → toks ≡ sign p s ∷ rest
unfolding sign_at
sign_read s [] p rest e = absurd cc
sign_read s (t ∷ ts) p rest e =
    either (λ (y : Pos × Toks). t ∷ ts ≡ sign y.0 s ∷ y.1) (is_sign s t.kind) (Ok (t.at, ts)) (Err (Absent (Some t.at)))
    (λ h. last_is (λ (y : Pos × Toks). t ∷ ts ≡ sign y.0 s ∷ y.1) (t.at, ts) (ap (λ k. tok t.at k ∷ ts) (is_sign_true s t.kind h)))
    (λ h. never (λ (y : Pos × Toks). t ∷ ts ≡ sign y.0 s ∷ y.1) (Absent (Some t.at))) (p, rest) e

pub word_read : (w : Word) (toks : Toks) (p : Pos) (rest : Toks) → word_at w toks ≡ Ok (p, rest) → toks ≡ word p w ∷ rest
unfolding word_at
word_read w [] p rest e = absurd cc
word_read w (t ∷ ts) p rest e =
    either (λ (y : Pos × Toks). t ∷ ts ≡ word y.0 w ∷ y.1) (is_word w t.kind) (Ok (t.at, ts)) (Err (Absent (Some t.at)))
    (λ h. last_is (λ (y : Pos × Toks). t ∷ ts ≡ word y.0 w ∷ y.1) (t.at, ts) (ap (λ k. tok t.at k ∷ ts) (is_word_true w t.kind h)))
    (λ h. never (λ (y : Pos × Toks). t ∷ ts ≡ word y.0 w ∷ y.1) (Absent (Some t.at))) (p, rest) e

name_is : (at : Pos) (kind : TokenKind) (ts : Toks) (x : Name) (rest : Toks) → name_of (tok at kind) ts ≡ Ok (x, rest) → tok at kind ∷ ts ≡ name_token x ∷ rest
name_is at (kinds.Name n) ts x rest e = ap (λ (y : Name × Toks). name_token y.0 ∷ y.1) (ok_is (record { at = at; text = n }, ts) (x, rest) e)
name_is at (kinds.Word w) ts x rest e = absurd cc
name_is at (kinds.Whole w) ts x rest e = absurd cc
name_is at (kinds.Char w) ts x rest e = absurd cc
name_is at (kinds.Text w) ts x rest e = absurd cc
name_is at (kinds.Sign w) ts x rest e = absurd cc

pub name_read : (toks : Toks) (x : Name) (rest : Toks) → name_at toks ≡ Ok (x, rest) → toks ≡ name_token x ∷ rest
unfolding name_at
name_read [] x rest e = absurd cc
name_read (t ∷ ts) x rest e = name_is t.at t.kind ts x rest e

-- ---- steps that read a sign, a word or a name

pub sign_then : {B : Type 0} (P : B → Type 0) (s : Sign) (toks : Toks) (f : Pos × Toks → Result B Fault) → ((p : Pos) (m : Toks) → toks ≡ sign p s ∷ m → (y : B) → f (p, m) ≡ Ok y → P y) → (y : B) → (sign_at s toks >>= f) ≡ Ok y → P y
sign_then P s toks f step = then_is P (sign_at s toks) f (λ p m e. step p m (sign_read s toks p m e))

pub word_then : {B : Type 0} (P : B → Type 0) (w : Word) (toks : Toks) (f : Pos × Toks → Result B Fault) → ((p : Pos) (m : Toks) → toks ≡ word p w ∷ m → (y : B) → f (p, m) ≡ Ok y → P y) → (y : B) → (word_at w toks >>= f) ≡ Ok y → P y
word_then P w toks f step = then_is P (word_at w toks) f (λ p m e. step p m (word_read w toks p m e))

pub name_then : {B : Type 0} (P : B → Type 0) (toks : Toks) (f : Name × Toks → Result B Fault) → ((x : Name) (m : Toks) → toks ≡ name_token x ∷ m → (y : B) → f (x, m) ≡ Ok y → P y) → (y : B) → (name_at toks >>= f) ≡ Ok y → P y
name_then P toks f step = then_is P (name_at toks) f (λ x m e. step x m (name_read toks x m e))

-- ---- steps that read what is known to be there

abbrev pub Sound : {X : Type 0} → (X → Toks → Toks → Type 0) → (Toks → Read X) → Type 0
Sound {X} Is read = (toks : Toks) (x : X) (rest : Toks) → read toks ≡ Ok (x, rest) → Is x toks rest

-- the same, of the pair that was read
abbrev pub Was : {X : Type 0} → (X → Toks → Toks → Type 0) → Toks → X × Toks → Type 0
Was {X} Is toks y = Is y.0 toks y.1

pub sound : {X : Type 0} (Is : X → Toks → Toks → Type 0) (read : Toks → Read X) → ((toks : Toks) (y : X × Toks) → read toks ≡ Ok y → Was Is toks y) → Sound Is read
sound Is read h toks x rest e = h toks (x, rest) e

pub read_then : {X B : Type 0} (P : B → Type 0) (Is : X → Toks → Toks → Type 0) (read : Toks → Read X) → Sound Is read → (toks : Toks) (f : X × Toks → Result B Fault) → ((x : X) (m : Toks) → Is x toks m → (y : B) → f (x, m) ≡ Ok y → P y) → (y : B) → (read toks >>= f) ≡ Ok y → P y
read_then P Is read s toks f step = then_is P (read toks) f (λ x m e. step x m (s toks x m e))

pub sound_name : Sound IsName name_at
sound_name toks x rest e = rw (name_read toks x rest e) is_name

-- ---- pieces and loops

-- what holds of a piece, if it is there
abbrev pub IfThere : {X : Type 0} → (X × Toks → Type 0) → Option (X × Toks) → Type 0
IfThere P None = Unit {0}
IfThere P (Some x) = P x

pub loop_keeps : {S X : Type 0} (piece : Toks → Piece X) (grow : S → X → S) (Q : S → Toks → Type 0) → ((s : S) (m : Toks) → Q s m → (o : Option (X × Toks)) → piece m ≡ Ok o → IfThere (λ (x : X × Toks). Q (grow s x.0) x.1) o)
    → (j : ℕ) (s : S) (m : Toks) → Q s m → (y : S × Toks) → repeat piece grow j s m ≡ Ok y → Q y.0 y.1
unfolding repeat
loop_keeps {S = S} piece grow Q step zero s m q y e = last_is (λ (y : S × Toks). Q y.0 y.1) (s, m) q y e
loop_keeps {S = S} {X = X} piece grow Q step (suc j) s m q y e = go (λ x h. loop_keeps piece grow Q step j (grow s x.0) x.1 h y) (piece m) refl e
  where
    inner : ((x : X × Toks) → Q (grow s x.0) x.1 → repeat piece grow j (grow s x.0) x.1 ≡ Ok y → Q y.0 y.1)
        → (o : Option (X × Toks)) → IfThere (λ (x : X × Toks). Q (grow s x.0) x.1) o → chosen {B = Result (S × Toks) Fault} o (Ok (s, m)) (λ x. repeat piece grow j (grow s x.0) x.1) ≡ Ok y → Q y.0 y.1
    inner again None h e = last_is (λ (y : S × Toks). Q y.0 y.1) (s, m) q y e
    inner again (Some x) h e = again x h e

    go : ((x : X × Toks) → Q (grow s x.0) x.1 → repeat piece grow j (grow s x.0) x.1 ≡ Ok y → Q y.0 y.1)
        → (r : Piece X) → piece m ≡ r → (r >>= λ o. chosen {B = Result (S × Toks) Fault} o (Ok (s, m)) (λ x. repeat piece grow j (grow s x.0) x.1)) ≡ Ok y → Q y.0 y.1
    go again (Ok o) h e = inner again o (step s m q o h) e
    go again (Err d) h e = absurd cc

-- the same of a loop whose pieces are counted
pub loop_counts : {S X : Type 0} (piece : Toks → Piece X) (grow : S → X → S) (limit : ℕ) (Q : ℕ → S → Toks → Type 0)
    → ((k : ℕ) (s : S) (m : Toks) → k < limit → Q k s m → (o : Option (X × Toks)) → piece m ≡ Ok o → IfThere (λ (x : X × Toks). Q (suc k) (grow s x.0) x.1) o)
    → (j k : ℕ) → j + k ≡ limit → (s : S) (m : Toks) → Q k s m → (y : S × Toks) → repeat piece grow j s m ≡ Ok y → (i : ℕ) × Q i y.0 y.1
unfolding repeat
loop_counts {S = S} piece grow limit Q step zero k all s m q y e = last_is (λ (y : S × Toks). (i : ℕ) × Q i y.0 y.1) (s, m) (k, q) y e
loop_counts {S = S} {X = X} piece grow limit Q step (suc j) k all s m q y e = go (λ x h. loop_counts piece grow limit Q step j (suc k) (omega (arith, all)) (grow s x.0) x.1 h y) (piece m) refl e
  where
    inner : ((x : X × Toks) → Q (suc k) (grow s x.0) x.1 → repeat piece grow j (grow s x.0) x.1 ≡ Ok y → (i : ℕ) × Q i y.0 y.1)
        → (o : Option (X × Toks)) → IfThere (λ (x : X × Toks). Q (suc k) (grow s x.0) x.1) o → chosen {B = Result (S × Toks) Fault} o (Ok (s, m)) (λ x. repeat piece grow j (grow s x.0) x.1) ≡ Ok y → (i : ℕ) × Q i y.0 y.1
    inner again None h e = last_is (λ (y : S × Toks). (i : ℕ) × Q i y.0 y.1) (s, m) (k, q) y e
    inner again (Some x) h e = again x h e

    go : ((x : X × Toks) → Q (suc k) (grow s x.0) x.1 → repeat piece grow j (grow s x.0) x.1 ≡ Ok y → (i : ℕ) × Q i y.0 y.1)
        → (r : Piece X) → piece m ≡ r → (r >>= λ o. chosen {B = Result (S × Toks) Fault} o (Ok (s, m)) (λ x. repeat piece grow j (grow s x.0) x.1)) ≡ Ok y → (i : ℕ) × Q i y.0 y.1
    go again (Ok o) h e = inner again o (step k s m (omega (arith, all)) q o h) e
    go again (Err d) h e = absurd cc

-- one, and one more behind each comma
another_is : {X : Type 0} (Is : X → Toks → Toks → Type 0) (Are : List X → Toks → Toks → Type 0) (read : Toks → Read X) → Sound Is read
    → ((xs : List X) (x : X) (p : Pos) (toks m rest : Toks) → Are xs toks (sign p signs.Comma ∷ m) → Is x m rest → Are (xs ++ x ∷ []) toks rest)
    → (toks : Toks) (xs : List X) (m : Toks) → Are xs toks m → (o : Option (X × Toks)) → another_at read m ≡ Ok o → IfThere (λ (x : X × Toks). Are (push xs x.0) toks x.1) o
unfolding another_at
another_is {X = X} Is Are read s more toks xs m l =
    let P : Option (X × Toks) → Type 0 = IfThere (λ (x : X × Toks). Are (push xs x.0) toks x.1) in
    either P (begins signs.Comma m) _ _
    (λ b. sign_then P signs.Comma m _ (λ p m2 e. read_then P Is read s m2 _ (λ x rest d. last_is P (Some (x, rest)) (more xs x p toks m2 rest (rw e at l) d))))
    (λ b. last_is P None tt)

pub sound_list : {X : Type 0} (Is : X → Toks → Toks → Type 0) (Are : List X → Toks → Toks → Type 0) (read : Toks → Read X) → Sound Is read
    → ((x : X) (toks rest : Toks) → Is x toks rest → Are (x ∷ []) toks rest)
    → ((xs : List X) (x : X) (p : Pos) (toks m rest : Toks) → Are xs toks (sign p signs.Comma ∷ m) → Is x m rest → Are (xs ++ x ∷ []) toks rest)
    → Sound Are (listed_at read)
unfolding listed_at
sound_list {X = X} Is Are read s first more toks xs rest =
    read_then (Was Are toks) Is read s toks _ (λ x m d. loop_keeps (another_at read) push (λ (ys : List X) (z : Toks). Are ys toks z) (another_is Is Are read s more toks) (length toks) (x ∷ []) m (first x toks m d)) (xs, rest)

pub sound_listed : {X : Type 0} (Is : X → Toks → Toks → Type 0) (read : Toks → Read X) → Sound Is read → Sound (AreListed Is) (listed_at read)
sound_listed Is read s = sound_list Is (AreListed Is) read s (λ x toks rest d. one_of d) (λ xs x p toks m rest l d. and_of l d)

pub sound_names : Sound (AreListed IsName) (listed_at name_at)
sound_names = sound_listed IsName name_at sound_name

-- piece after piece
pub sound_many : {X : Type 0} (Are : List X → Toks → Toks → Type 0) (piece : Toks → Piece X) → ((toks : Toks) → Are [] toks toks)
    → ((toks : Toks) (xs : List X) (m : Toks) → Are xs toks m → (o : Option (X × Toks)) → piece m ≡ Ok o → IfThere (λ (x : X × Toks). Are (push xs x.0) toks x.1) o)
    → Sound Are (many_at piece)
sound_many {X = X} Are piece none more toks xs rest = loop_keeps piece push (λ (ys : List X) (z : Toks). Are ys toks z) (more toks) (length toks) [] toks (none toks) (xs, rest)

-- ---- what may stand or be left out

pub sound_clause : {X : Type 0} (w : Word) (Is : X → Toks → Toks → Type 0) (read : Toks → Read X) → Sound Is read → Sound (IsClause w Is) (clause_at w read)
unfolding clause_at
sound_clause {X = X} w Is read s toks o rest =
    let P : Option X × Toks → Type 0 = Was (IsClause w Is) toks in
    either P (begins_with w toks) _ _
    (λ b. word_then P w toks _ (λ p m e. read_then P Is read s m _ (λ x m2 d. last_is P (Some x, m2) (rw e (with_clause d)))))
    (λ b. last_is P (None, toks) no_clause) (o, rest)

pub sound_flag : (w : Word) → Sound (IsFlag w) (flag_at w)
unfolding flag_at
sound_flag w toks o rest =
    let P : Bool × Toks → Type 0 = Was (IsFlag w) toks in
    either P (begins_with w toks) _ _
    (λ b. word_then P w toks _ (λ p m e. last_is P (true, m) (rw e with_flag)))
    (λ b. last_is P (false, toks) no_flag) (o, rest)
