-- What is shown of trees by the tokens that they are made of, where the text literals among the tokens are short.
use Rattle.std.proofs.Common.{◌≤◌, ℕ, zero, suc, List, [], ◌∷◌, ◌++◌, length}
use Rattle.std.specs.Prelude.{map, flat_map, replicate}
use Rattle.chill_tree.specs.declared.token.Token.{Token}
use Rattle.chill_tree.specs.declared.token.TokenKind.{TokenKind}
use Rattle.chill_tree.specs.declared.token.TokenKind.TheVariants as kinds
use Rattle.rules_model.specs.Marks.{Toks}
use Rattle.rules_model.specs.ListGrammar.{AreListed, one_of, and_of}
use Rattle.written_laws.specs.Written.{Each}

-- ---- each of a list

pub each_append : {A : Type 0} (P : A → Type 0) (xs ys : List A) → Each P xs → Each P ys → Each P (xs ++ ys)
each_append P [] ys first later = later
each_append P (x ∷ xs) ys first later = (first.0, each_append P xs ys first.1 later)

pub each_snoc : {A : Type 0} (P : A → Type 0) (xs : List A) (x : A) → Each P xs → P x → Each P (xs ++ x ∷ [])
each_snoc P xs x first last = each_append P xs (x ∷ []) first (last, tt)

pub each_any : {A : Type 0} (P : A → Type 0) → ((x : A) → P x) → (xs : List A) → Each P xs
each_any P any [] = tt
each_any P any (x ∷ xs) = (any x, each_any P any xs)

pub each_map : {A B : Type 0} (P : A → Type 0) (Q : B → Type 0) (f : A → B) → ((x : A) → P x → Q (f x)) → (xs : List A) → Each P xs → Each Q (map f xs)
each_map P Q f step [] each = tt
each_map P Q f step (x ∷ xs) each = (step x each.0, each_map P Q f step xs each.1)

pub each_flat : {A B : Type 0} (P : A → Type 0) (Q : B → Type 0) (f : A → List B) → ((x : A) → P x → Each Q (f x)) → (xs : List A) → Each P xs → Each Q (flat_map f xs)
each_flat P Q f step [] each = tt
each_flat P Q f step (x ∷ xs) each = each_append Q (f x) (flat_map f xs) (step x each.0) (each_flat P Q f step xs each.1)

pub each_same : {A : Type 0} (P : A → Type 0) (n : ℕ) (x : A) → P x → Each P (replicate n x)
each_same P zero x fits = tt
each_same P (suc n) x fits = (fits, each_same P n x fits)

-- ---- tokens

-- a text literal has at most 256 bytes
abbrev pub IsShortKind : TokenKind → Type 0
IsShortKind (kinds.Text s) = length s ≤ 256
IsShortKind k = Unit {0}

abbrev pub AreShortTokens : Toks → Type 0
AreShortTokens [] = Unit {0}
AreShortTokens (t ∷ ts) = IsShortKind t.kind × AreShortTokens ts

-- where the tokens are short something holds, and those of the rest are short
pub record Shown (P : Type 0) (toks rest : Toks) : Type 0 where
  pub by : AreShortTokens toks → P × AreShortTokens rest

pub none : {toks : Toks} → Shown (Unit {0}) toks toks
none = record { by = λ short. (tt, short) }

-- a token before, and one behind
pub skip : {P : Type 0} {t : Token} {toks rest : Toks} → Shown P toks rest → Shown P (t ∷ toks) rest
skip u = record { by = λ short. u.by short.1 }

pub ends : {P : Type 0} {t : Token} {toks rest : Toks} → Shown P toks (t ∷ rest) → Shown P toks rest
ends u = record { by = λ short. ((u.by short).0, (u.by short).1.1) }

pub both : {P Q : Type 0} {toks m rest : Toks} → Shown P toks m → Shown Q m rest → Shown (P × Q) toks rest
both u v = record { by = λ short. let p = u.by short in let q = v.by p.1 in ((p.0, q.0), q.1) }

-- what is shown by the first tokens alone, or by those behind them
pub before : {P Q : Type 0} {toks m rest : Toks} → Shown P toks m → Shown Q m rest → Shown P toks rest
before u v = record { by = λ short. let p = u.by short in (p.0, (v.by p.1).1) }

pub behind : {P Q : Type 0} {toks m rest : Toks} → Shown P toks m → Shown Q m rest → Shown Q toks rest
behind u v = record { by = λ short. v.by (u.by short).1 }

pub so : {P Q : Type 0} {toks rest : Toks} → (P → Q) → Shown P toks rest → Shown Q toks rest
so f u = record { by = λ short. (f (u.by short).0, (u.by short).1) }

pub passed : {P : Type 0} {toks rest : Toks} → Shown P toks rest → Shown (Unit {0}) toks rest
passed u = so (λ p. tt) u

-- ---- lists that grow at their end

pub one : {A : Type 0} (P : A → Type 0) (x : A) {toks rest : Toks} → Shown (P x) toks rest → Shown (Each P (x ∷ [])) toks rest
one P x u = so (λ p. (p, tt)) u

pub and_one : {A : Type 0} (P : A → Type 0) (xs : List A) (x : A) {toks m rest : Toks} → Shown (Each P xs) toks m → Shown (P x) m rest → Shown (Each P (xs ++ x ∷ [])) toks rest
and_one P xs x u v = so (λ p. each_snoc P xs x p.0 p.1) (both u v)

-- what is shown of a kind of trees
abbrev pub Shows : {A : Type 0} → (A → Type 0) → (A → Toks → Toks → Type 0) → Type 0
Shows {A} P Is = (a : A) (toks rest : Toks) → Is a toks rest → Shown (P a) toks rest

pub listed : {A : Type 0} (P : A → Type 0) {Is : A → Toks → Toks → Type 0} → Shows P Is → {xs : List A} {toks rest : Toks} → AreListed Is xs toks rest → Shown (Each P xs) toks rest
listed P shows (one_of {x = x} d) = one P x (shows _ _ _ d)
listed P shows (and_of {xs = xs} {x = x} l d) = and_one P xs x (ends (listed P shows l)) (shows _ _ _ d)
