-- What reading took, whatever stands behind it, and how what was read too deep can be completed.
use Rattle.std.proofs.Common.{◌≡◌, ℕ, zero, suc, ◌+◌, ◌<◌, Bool, true, false, cond, List, [], ◌∷◌, ◌++◌, length, Option, Some, None, Result, Ok, Err, refl, sym, ap, ◌∙◌, subst, arith, append_assoc}
use Rattle.chill_base.specs.declared.pos.Pos.{Pos}
use Rattle.chill_tree.specs.declared.token.Sign.{Sign}
use Rattle.chill_tree.specs.declared.token.Sign.TheVariants as signs
use Rattle.chill_tree.specs.declared.token.Word.{Word}
use Rattle.chill_tree.specs.declared.token.Token.{Token}
use Rattle.chill_tree.specs.declared.token.TokenKind.{TokenKind}
use Rattle.chill_tree.specs.declared.token.TokenKind.TheVariants as kinds
use Rattle.chill_tree.specs.declared.tree.name.Name.{Name}
use Rattle.rules_model.specs.declared.extent.Extent.{Extent}
use Rattle.rules_model.specs.declared.extent.Extent.TheVariants as extents
use Rattle.rules_model.specs.Marks.{Toks, tok, sign, word, name_token, is_sign, is_word, begins, front}
use Rattle.rules_model.specs.Nesting.{room_after, deep_or, first_deep}
use Rattle.rules_model.specs.Reading.{Fault, Deep, Absent, Read, Piece, ◌>>=◌, settle, chosen, sign_at, word_at, name_of, name_at, repeat, push, another_at, listed_at}
use Rattle.expr_parser.proofs.Marked.{is_sign_true, is_word_true}

-- tokens were taken as R, whatever stands behind them, and lead from n levels left to m
pub record Takes (n m : ℕ) (R : Toks → Toks → Type 0) (toks rest : Toks) : Type 0 where
  pub used : Toks
  pub here : toks ≡ used ++ rest
  pub any : (z : Toks) → R (used ++ z) z
  pub level : (z : Toks) → first_deep n (used ++ z) ≡ first_deep m z

-- tokens that were read of a tree so far, and more that complete it
pub record Begun {A : Type 0} (Is : A → Toks → Toks → Type 0) (toks : Toks) : Type 0 where
  pub used : Toks
  pub more : Toks
  pub rest : Toks
  pub tree : A
  pub here : toks ≡ used ++ rest
  pub any : (z : Toks) → Is tree (used ++ (more ++ z)) z

-- what was read
pub data Told {A : Type 0} (n m : ℕ) (Is : A → Toks → Toks → Type 0) (toks : Toks) : Result (A × Toks) Fault → Type 0 where
  taken : {x : A} {rest : Toks} → Takes n m (Is x) toks rest → Told n m Is toks (Ok (x, rest))
  -- what was taken so far reaches the limit
  broken : {p : Pos} (V : Begun Is toks) → first_deep n V.used ≡ Some p → Told n m Is toks (Err (Deep p))
  -- what stands behind it doesn't fit
  missing : {o : Option Pos} (V : Begun Is toks) → front V.rest ≡ o → Told n m Is toks (Err (Absent o))

-- the same of a piece that may be left out
pub data ToldPiece {A : Type 0} (n : ℕ) (Is : A → Toks → Toks → Type 0) (toks : Toks) : Result (Option (A × Toks)) Fault → Type 0 where
  no_piece : ToldPiece n Is toks (Ok None)
  a_piece : {x : A} {rest : Toks} → Takes n n (Is x) toks rest → ToldPiece n Is toks (Ok (Some (x, rest)))
  broken_piece : {p : Pos} (V : Begun Is toks) → first_deep n V.used ≡ Some p → ToldPiece n Is toks (Err (Deep p))
  missing_piece : {o : Option Pos} (V : Begun Is toks) → front V.rest ≡ o → ToldPiece n Is toks (Err (Absent o))

-- tokens that complete what was begun
pub record Finish {B : Type 0} (Is : B → Toks → Toks → Type 0) : Type 0 where
  pub more : Toks
  pub tree : B
  pub any : (z : Toks) → Is tree (more ++ z) z

-- what stands behind an x so that both are a B
abbrev pub Behind : {A B : Type 0} → (A → Toks → Toks → Type 0) → (B → Toks → Toks → Type 0) → A → B → Toks → Toks → Type 0
Behind IsA IsB x y u v = (t : Toks) → IsA x t u → IsB y t v

-- what was begun behind what T took
abbrev pub begun_behind : {B : Type 0} {n m : ℕ} {R : Toks → Toks → Type 0} {toks rest : Toks} (Q IsC : B → Toks → Toks → Type 0) → ((y : B) (t u v : Toks) → R t u → Q y u v → IsC y t v) → Takes n m R toks rest → Begun Q rest → Begun IsC toks
begun_behind Q IsC both T V = record {
  used = T.used ++ V.used;
  more = V.more;
  rest = V.rest;
  tree = V.tree;
  here = T.here ∙ ap (λ (z : Toks). T.used ++ z) V.here ∙ sym (append_assoc T.used V.used V.rest);
  any = λ z. subst (λ (t : Toks). IsC V.tree t z) (sym (append_assoc T.used V.used (V.more ++ z))) (both V.tree (T.used ++ (V.used ++ (V.more ++ z))) (V.used ++ (V.more ++ z)) z (T.any (V.used ++ (V.more ++ z))) (V.any z));
}

-- nothing was read yet
abbrev pub nothing_read : {A : Type 0} {Is : A → Toks → Toks → Type 0} (toks : Toks) → Finish Is → Begun Is toks
nothing_read toks F = record { used = []; more = F.more; rest = toks; tree = F.tree; here = refl; any = F.any }

-- first what T took, then what is told of the rest
pub joined : {B : Type 0} {n m k : ℕ} {R : Toks → Toks → Type 0} {toks rest : Toks} (Q IsC : B → Toks → Toks → Type 0) → ((y : B) (t u v : Toks) → R t u → Q y u v → IsC y t v) → Takes n m R toks rest → {r : Result (B × Toks) Fault} → Told m k Q rest r → Told n k IsC toks r
joined {n = n} Q IsC both T (taken {x = y} {rest = more} U) = taken (record {
  used = T.used ++ U.used;
  here = T.here ∙ ap (λ (z : Toks). T.used ++ z) U.here ∙ sym (append_assoc T.used U.used more);
  any = λ z. subst (λ (t : Toks). IsC y t z) (sym (append_assoc T.used U.used z)) (both y (T.used ++ (U.used ++ z)) (U.used ++ z) z (T.any (U.used ++ z)) (U.any z));
  level = λ z. ap (first_deep n) (append_assoc T.used U.used z) ∙ T.level (U.used ++ z) ∙ U.level z;
})
joined {n = n} Q IsC both T (broken V d) = broken (begun_behind Q IsC both T V) (T.level V.used ∙ d)
joined Q IsC both T (missing V f) = missing (begun_behind Q IsC both T V) f

-- what was begun, completed and followed by what completes the rest
abbrev pub completed : {A B : Type 0} {IsA : A → Toks → Toks → Type 0} {toks : Toks} (IsB : B → Toks → Toks → Type 0) (V : Begun IsA toks) → Finish (Behind IsA IsB V.tree) → Begun IsB toks
completed IsB V F = record {
  used = V.used;
  more = V.more ++ F.more;
  rest = V.rest;
  tree = F.tree;
  here = V.here;
  any = λ z. subst (λ (t : Toks). IsB F.tree (V.used ++ t) z) (sym (append_assoc V.more F.more z)) (F.any z (V.used ++ (V.more ++ (F.more ++ z))) (V.any (F.more ++ z)));
}

-- one read after another
pub told_then : {A B : Type 0} {n m k : ℕ} {IsA : A → Toks → Toks → Type 0} {toks : Toks} (IsB : B → Toks → Toks → Type 0) (f : A × Toks → Result (B × Toks) Fault)
    → ((x : A) → Finish (Behind IsA IsB x)) → ((x : A) (rest : Toks) → Told m k (Behind IsA IsB x) rest (f (x, rest))) → {r : Result (A × Toks) Fault} → Told n m IsA toks r → Told n k IsB toks (r >>= f)
told_then {IsA = IsA} IsB f fin next (taken {x = x} {rest = rest} T) = joined (Behind IsA IsB x) IsB (λ y t u v a b. b t a) T (next x rest)
told_then IsB f fin next (broken V d) = broken (completed IsB V (fin V.tree)) d
told_then IsB f fin next (missing V e) = missing (completed IsB V (fin V.tree)) e

-- nothing more is read
pub told_ok : {B : Type 0} {n : ℕ} (Is : B → Toks → Toks → Type 0) (y : B) (toks : Toks) → ((z : Toks) → Is y z z) → Told n n Is toks (Ok (y, toks))
told_ok Is y toks h = taken (record { used = []; here = refl; any = h; level = λ z. refl })

-- the same, as something else
abbrev pub begun_as : {A B : Type 0} {toks : Toks} (IsA : A → Toks → Toks → Type 0) (IsB : B → Toks → Toks → Type 0) (g : A → B) → ((x : A) (t u : Toks) → IsA x t u → IsB (g x) t u) → Begun IsA toks → Begun IsB toks
begun_as IsA IsB g f V = record { used = V.used; more = V.more; rest = V.rest; tree = g V.tree; here = V.here; any = λ z. f V.tree (V.used ++ (V.more ++ z)) z (V.any z) }

pub told_as : {A : Type 0} {n m : ℕ} {toks : Toks} (IsA IsB : A → Toks → Toks → Type 0) → ((x : A) (t u : Toks) → IsA x t u → IsB x t u) → {r : Result (A × Toks) Fault} → Told n m IsA toks r → Told n m IsB toks r
told_as IsA IsB f (taken {x = x} T) = taken (record { used = T.used; here = T.here; any = λ z. f x (T.used ++ z) z (T.any z); level = T.level })
told_as IsA IsB f (broken V d) = broken (begun_as IsA IsB (λ x. x) f V) d
told_as IsA IsB f (missing V e) = missing (begun_as IsA IsB (λ x. x) f V) e

-- ---- one token

abbrev pub IsSign : Sign → Pos → Toks → Toks → Type 0
IsSign s p t u = t ≡ sign p s ∷ u

abbrev pub IsWord : Word → Pos → Toks → Toks → Type 0
IsWord w p t u = t ≡ word p w ∷ u

abbrev pub IsNext : Name → Toks → Toks → Type 0
IsNext x t u = t ≡ name_token x ∷ u

abbrev somewhere : Pos
somewhere = record { line = 0; column = 0 }

abbrev the_sign : (s : Sign) → Finish (IsSign s)
the_sign s = record { more = sign somewhere s ∷ []; tree = somewhere; any = λ z. refl }

abbrev the_word : (w : Word) → Finish (IsWord w)
the_word w = record { more = word somewhere w ∷ []; tree = somewhere; any = λ z. refl }

abbrev a_name : Name
a_name = record { at = somewhere; text = [] }

abbrev the_name : Finish IsNext
the_name = record { more = name_token a_name ∷ []; tree = a_name; any = λ z. refl }

pub token_level : (k : TokenKind) (at : Pos) (n m : ℕ) → room_after k n ≡ suc m → (z : Toks) → first_deep n (tok at k ∷ z) ≡ first_deep (suc m) z
token_level k at n m h z = ap (λ j. deep_or j at (first_deep j z)) h

pub told_sign : (s : Sign) (n m : ℕ) → room_after (kinds.Sign s) n ≡ suc m → (toks : Toks) → Told n (suc m) (IsSign s) toks (sign_at s toks)
unfolding sign_at
told_sign s n m h [] = missing (nothing_read [] (the_sign s)) refl
told_sign s n m h (t ∷ rest) = go (is_sign s t.kind) refl
  where
    go : (b : Bool) → is_sign s t.kind ≡ b → Told n (suc m) (IsSign s) (t ∷ rest) (cond b (Ok (t.at, rest)) (Err (Absent (Some t.at))))
    go false e = missing (nothing_read (t ∷ rest) (the_sign s)) refl
    go true e =
        let same : t ≡ sign t.at s = ap (tok t.at) (is_sign_true s t.kind e) in
        taken (record { used = sign t.at s ∷ []; here = ap (λ (x : Token). x ∷ rest) same; any = λ z. refl; level = token_level (kinds.Sign s) t.at n m h })

pub told_word : (w : Word) (n m : ℕ) → room_after (kinds.Word w) n ≡ suc m → (toks : Toks) → Told n (suc m) (IsWord w) toks (word_at w toks)
unfolding word_at
told_word w n m h [] = missing (nothing_read [] (the_word w)) refl
told_word w n m h (t ∷ rest) = go (is_word w t.kind) refl
  where
    go : (b : Bool) → is_word w t.kind ≡ b → Told n (suc m) (IsWord w) (t ∷ rest) (cond b (Ok (t.at, rest)) (Err (Absent (Some t.at))))
    go false e = missing (nothing_read (t ∷ rest) (the_word w)) refl
    go true e =
        let same : t ≡ word t.at w = ap (tok t.at) (is_word_true w t.kind e) in
        taken (record { used = word t.at w ∷ []; here = ap (λ (x : Token). x ∷ rest) same; any = λ z. refl; level = token_level (kinds.Word w) t.at n m h })

name_told : (n : ℕ) (at : Pos) (k : TokenKind) (rest : Toks) → Told (suc n) (suc n) IsNext (tok at k ∷ rest) (name_of (tok at k) rest)
name_told n at (kinds.Name s) rest = taken (record { used = tok at (kinds.Name s) ∷ []; here = refl; any = λ z. refl; level = λ z. refl })
name_told n at (kinds.Word w) rest = missing (nothing_read (tok at (kinds.Word w) ∷ rest) the_name) refl
name_told n at (kinds.Whole w) rest = missing (nothing_read (tok at (kinds.Whole w) ∷ rest) the_name) refl
name_told n at (kinds.Char w) rest = missing (nothing_read (tok at (kinds.Char w) ∷ rest) the_name) refl
name_told n at (kinds.Text w) rest = missing (nothing_read (tok at (kinds.Text w) ∷ rest) the_name) refl
name_told n at (kinds.Sign w) rest = missing (nothing_read (tok at (kinds.Sign w) ∷ rest) the_name) refl

pub told_name : (n : ℕ) (toks : Toks) → Told (suc n) (suc n) IsNext toks (name_at toks)
unfolding name_at
told_name n [] = missing (nothing_read [] the_name) refl
told_name n (t ∷ rest) = name_told n t.at t.kind rest

-- what is a B behind a token
abbrev pub Led : {B : Type 0} → Token → (B → Toks → Toks → Type 0) → B → Toks → Toks → Type 0
Led t IsB y u v = IsB y (t ∷ u) v

unled : {B : Type 0} (x : Token) (IsB : B → Toks → Toks → Type 0) (y : B) (t u v : Toks) → t ≡ x ∷ u → Led x IsB y u v → IsB y t v
unled x IsB y t u v h d = subst (λ (w : Toks). IsB y w v) (sym h) d

-- a token that is read by itself, and what stands behind it
led_by : {A B : Type 0} {n m k : ℕ} {toks : Toks} (token : A → Token) (IsB : B → Toks → Toks → Type 0) (f : A × Toks → Result (B × Toks) Fault)
    → ((x : A) → Finish (Led (token x) IsB)) → ((x : A) (rest : Toks) → Told m k (Led (token x) IsB) rest (f (x, rest))) → {r : Result (A × Toks) Fault} → Told n m (λ x t u. t ≡ token x ∷ u) toks r → Told n k IsB toks (r >>= f)
led_by token IsB f fin next h =
    told_then IsB f
    (λ x. record { more = (fin x).more; tree = (fin x).tree; any = λ z t e. unled (token x) IsB (fin x).tree t ((fin x).more ++ z) z e ((fin x).any z) })
    (λ x rest. told_as (Led (token x) IsB) (Behind (λ x t u. t ≡ token x ∷ u) IsB x) (λ y u v d t e. unled (token x) IsB y t u v e d) (next x rest))
    h

pub led_by_sign : {B : Type 0} {k : ℕ} (s : Sign) (n m : ℕ) → room_after (kinds.Sign s) n ≡ suc m → (IsB : B → Toks → Toks → Type 0) (f : Pos × Toks → Result (B × Toks) Fault)
    → ((p : Pos) → Finish (Led (sign p s) IsB)) → ((p : Pos) (rest : Toks) → Told (suc m) k (Led (sign p s) IsB) rest (f (p, rest))) → (toks : Toks) → Told n k IsB toks (sign_at s toks >>= f)
led_by_sign s n m h IsB f fin next toks = led_by (λ p. sign p s) IsB f fin next (told_sign s n m h toks)

pub led_by_word : {B : Type 0} {k : ℕ} (w : Word) (n m : ℕ) → room_after (kinds.Word w) n ≡ suc m → (IsB : B → Toks → Toks → Type 0) (f : Pos × Toks → Result (B × Toks) Fault)
    → ((p : Pos) → Finish (Led (word p w) IsB)) → ((p : Pos) (rest : Toks) → Told (suc m) k (Led (word p w) IsB) rest (f (p, rest))) → (toks : Toks) → Told n k IsB toks (word_at w toks >>= f)
led_by_word w n m h IsB f fin next toks = led_by (λ p. word p w) IsB f fin next (told_word w n m h toks)

pub led_by_name : {B : Type 0} {k : ℕ} (n : ℕ) (IsB : B → Toks → Toks → Type 0) (f : Name × Toks → Result (B × Toks) Fault)
    → ((x : Name) → Finish (Led (name_token x) IsB)) → ((x : Name) (rest : Toks) → Told (suc n) k (Led (name_token x) IsB) rest (f (x, rest))) → (toks : Toks) → Told (suc n) k IsB toks (name_at toks >>= f)
led_by_name n IsB f fin next toks = led_by name_token IsB f fin next (told_name n toks)

-- a token that stands there
pub token_then : {B : Type 0} {n m k : ℕ} (at : Pos) (kind : TokenKind) → room_after kind n ≡ suc m → (IsB : B → Toks → Toks → Type 0) {rest : Toks} {r : Result (B × Toks) Fault} → Told (suc m) k (Led (tok at kind) IsB) rest r → Told n k IsB (tok at kind ∷ rest) r
token_then {n = n} {m = m} at kind h IsB d =
    joined {R = λ t u. t ≡ tok at kind ∷ u} (Led (tok at kind) IsB) IsB (λ y t u v e x. unled (tok at kind) IsB y t u v e x) (record { used = tok at kind ∷ []; here = refl; any = λ z. refl; level = token_level kind at n m h }) d

-- a sign and what completes it
abbrev whole_led : {B : Type 0} (s : Sign) (IsB : B → Toks → Toks → Type 0) → ((p : Pos) → Finish (Led (sign p s) IsB)) → Finish IsB
whole_led s IsB fin = record { more = sign somewhere s ∷ (fin somewhere).more; tree = (fin somewhere).tree; any = λ z. (fin somewhere).any z }

-- an opening sign where no level is left behind it
pub told_full : {B : Type 0} {k : ℕ} (s : Sign) → room_after (kinds.Sign s) 1 ≡ 0 → (IsB : B → Toks → Toks → Type 0) (f : Pos × Toks → Result (B × Toks) Fault) → ((p : Pos) → Finish (Led (sign p s) IsB))
    → ((p : Pos) (rest : Toks) → f (p, rest) ≡ Err (Deep p)) → (toks : Toks) → Told 1 k IsB toks (sign_at s toks >>= f)
unfolding sign_at
told_full s h IsB f fin deep [] = missing (nothing_read [] (whole_led s IsB fin)) refl
told_full {B} {k} s h IsB f fin deep (t ∷ rest) = go (is_sign s t.kind) refl
  where
    go : (b : Bool) → is_sign s t.kind ≡ b → Told 1 k IsB (t ∷ rest) (cond b (Ok (t.at, rest)) (Err (Absent (Some t.at))) >>= f)
    go false e = missing (nothing_read (t ∷ rest) (whole_led s IsB fin)) refl
    go true e =
        let same : t ≡ sign t.at s = ap (tok t.at) (is_sign_true s t.kind e) in
        let F = fin t.at in
        subst (λ (r : Result (B × Toks) Fault). Told 1 k IsB (t ∷ rest) r) (sym (deep t.at rest)) (broken (record {
          used = sign t.at s ∷ [];
          more = F.more;
          rest = rest;
          tree = F.tree;
          here = ap (λ (x : Token). x ∷ rest) same;
          any = λ z. F.any z;
        }) (ap (λ j. deep_or j t.at None) h))

-- a closing sign, and what it gives
pub closed : {B : Type 0} (s : Sign) (n m : ℕ) → room_after (kinds.Sign s) n ≡ suc m → (Is : B → Toks → Toks → Type 0) (y : B) → ((p : Pos) (z : Toks) → Is y (sign p s ∷ z) z) → (toks : Toks) → Told n (suc m) Is toks (sign_at s toks >>= λ c. Ok (y, c.1))
closed s n m h Is y here toks =
    led_by_sign s n m h Is (λ c. Ok (y, c.1)) (λ p. record { more = []; tree = y; any = λ z. here p z }) (λ p rest. told_ok (Led (sign p s) Is) y rest (λ z. here p z)) toks

-- ---- pieces and loops

-- what was not there is left out of the longest, and missing in a whole
pub settled : {A P : Type 0} {n : ℕ} {toks : Toks} (extent : Extent) (IsA : A → Toks → Toks → Type 0) (IsP : P → Toks → Toks → Type 0) (g : A → P) → ((x : A) (t u : Toks) → IsA x t u → IsP (g x) t u) → {r : Result (A × Toks) Fault} → Told n n IsA toks r → ToldPiece n IsP toks (settle extent r None (λ a. Ok (Some (g a.0, a.1))))
settled extent IsA IsP g f (taken {x = x} T) = a_piece (record { used = T.used; here = T.here; any = λ z. f x (T.used ++ z) z (T.any z); level = T.level })
settled extent IsA IsP g f (broken V d) = broken_piece (begun_as IsA IsP g f V) d
settled extents.Longest IsA IsP g f (missing V e) = no_piece
settled extents.Whole IsA IsP g f (missing V e) = missing_piece (begun_as IsA IsP g f V) e

-- a piece that has to be there
pub told_piece : {A : Type 0} {n : ℕ} {toks : Toks} (Is : A → Toks → Toks → Type 0) → {r : Result (A × Toks) Fault} → Told n n Is toks r → ToldPiece n Is toks (r >>= λ x. Ok (Some x))
told_piece Is (taken T) = a_piece T
told_piece Is (broken V d) = broken_piece V d
told_piece Is (missing V e) = missing_piece V e

module _ {S P : Type 0} (n : ℕ) (piece : Toks → Piece P) (grow : S → P → S) (St : ℕ → S → Toks → Toks → Type 0) (IsP : P → Toks → Toks → Type 0) (limit : ℕ) (step : (j : ℕ) (s : S) (x : P) (t u v : Toks) → j < limit → St j s t u → IsP x u v → St (suc j) (grow s x) t v) (one : (toks : Toks) → ToldPiece n IsP toks (piece toks)) where
  -- what a loop reads behind its state
  abbrev pub After : ℕ → S → S → Toks → Toks → Type 0
  After j s y u v = (t : Toks) → St j s t u → (i : ℕ) × St i y t v

  pub told_loop : (k j : ℕ) → k + j ≡ limit → (s : S) (toks : Toks) → Told n n (After j s) toks (repeat piece grow k s toks)
  unfolding repeat
  told_loop zero j h s toks = told_ok (After j s) s toks (λ z t st. (j, st))
  told_loop (suc k) j h s toks = go (λ x rest. told_loop k (suc j) (omega arith) (grow s x) rest) (one toks)
    where
      lt : j < limit
      lt = omega (arith, h)

      go : ((x : P) (rest : Toks) → Told n n (After (suc j) (grow s x)) rest (repeat piece grow k (grow s x) rest)) → {r : Piece P} → ToldPiece n IsP toks r → Told n n (After j s) toks (r >>= λ o. chosen o (Ok (s, toks)) (λ x. repeat piece grow k (grow s x.0) x.1))
      go again no_piece = told_ok (After j s) s toks (λ z t st. (j, st))
      go again (a_piece {x = x} {rest = rest} T) = joined (After (suc j) (grow s x)) (After j s) (λ y t u v p q. λ t0 st. q t0 (step j s x t0 t u lt st p)) T (again x rest)
      go again (broken_piece V d) = broken (record { used = V.used; more = V.more; rest = V.rest; tree = grow s V.tree; here = V.here; any = λ z t st. (suc j, step j s V.tree t (V.used ++ (V.more ++ z)) z lt st (V.any z)) }) d
      go again (missing_piece V e) = missing (record { used = V.used; more = V.more; rest = V.rest; tree = grow s V.tree; here = V.here; any = λ z t st. (suc j, step j s V.tree t (V.used ++ (V.more ++ z)) z lt st (V.any z)) }) e

-- ---- lists

bind_assoc : {A B C : Type 0} (r : Result A Fault) (f : A → Result B Fault) (g : B → Result C Fault) → ((r >>= f) >>= g) ≡ (r >>= λ x. f x >>= g)
bind_assoc (Ok x) f g = refl
bind_assoc (Err d) f g = refl

-- a comma, and one more behind it
pub record Another {X : Type 0} (Is : X → Toks → Toks → Type 0) (x : X) (t u : Toks) : Type 0 where
  pub comma : Pos
  pub item : Toks
  pub here : t ≡ sign comma signs.Comma ∷ item
  pub is : Is x item u

module _ {X : Type 0} (n : ℕ) (read : Toks → Read X) (Is : X → Toks → Toks → Type 0) (fin : Finish Is) (one : (toks : Toks) → Told (suc n) (suc n) Is toks (read toks)) where
  comma_told : (toks : Toks) → Told (suc n) (suc n) (Another Is) toks (sign_at signs.Comma toks >>= λ c. read c.1)
  comma_told toks =
      led_by_sign signs.Comma (suc n) n refl (Another Is) (λ c. read c.1)
      (λ p. record { more = fin.more; tree = fin.tree; any = λ z. record { comma = p; item = fin.more ++ z; here = refl; is = fin.any z } })
      (λ p rest. told_as Is (Led (sign p signs.Comma) (Another Is)) (λ x u v d. record { comma = p; item = u; here = refl; is = d }) (one rest))
      toks

  pub another_told : (toks : Toks) → ToldPiece (suc n) (Another Is) toks (another_at read toks)
  unfolding another_at
  another_told toks = go (begins signs.Comma toks)
    where
      some : ToldPiece (suc n) (Another Is) toks (sign_at signs.Comma toks >>= λ c. read c.1 >>= λ x. Ok (Some x))
      some = subst (λ (r : Piece X). ToldPiece (suc n) (Another Is) toks r) (bind_assoc (sign_at signs.Comma toks) (λ c. read c.1) (λ x. Ok (Some x))) (told_piece (Another Is) (comma_told toks))

      go : (b : Bool) → ToldPiece (suc n) (Another Is) toks (cond b (sign_at signs.Comma toks >>= λ c. read c.1 >>= λ x. Ok (Some x)) (Ok None))
      go true = some
      go false = no_piece

  pub told_listed : (Are : List X → Toks → Toks → Type 0) → ((x : X) (t u : Toks) → Is x t u → Are (x ∷ []) t u) → ((xs : List X) (x : X) (p : Pos) (t m u : Toks) → Are xs t (sign p signs.Comma ∷ m) → Is x m u → Are (xs ++ x ∷ []) t u)
      → (toks : Toks) → Told (suc n) (suc n) Are toks (listed_at read toks)
  unfolding listed_at
  told_listed Are first more toks =
      told_then Are (λ x. repeat (another_at read) push (length toks) (x.0 ∷ []) x.1)
      (λ x. record { more = []; tree = x ∷ []; any = λ z t d. first x t z d })
      (λ x rest. told_as (After (suc n) (another_at read) push St (Another Is) (length toks) step another_told 0 (x ∷ [])) (Behind Is Are x) (λ ys u v d t h. (d t (first x t u h)).1) (told_loop (suc n) (another_at read) push St (Another Is) (length toks) step another_told (length toks) 0 (omega arith) (x ∷ []) rest))
      (one toks)
    where
      St : ℕ → List X → Toks → Toks → Type 0
      St j xs t u = Are xs t u

      step : (j : ℕ) (xs : List X) (x : X) (t u v : Toks) → j < length toks → St j xs t u → Another Is x u v → St (suc j) (push xs x) t v
      step j xs x t u v lt st d = more xs x d.comma t d.item v (subst (λ (w : Toks). Are xs t w) d.here st) d.is
