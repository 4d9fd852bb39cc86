-- Which kinds of tokens stand before a rest.
use Rattle.std.proofs.Common.{◌≡◌, ◌<◌, List, [], ◌∷◌, ◌++◌, length, refl, ap, sym, ◌∙◌, arith, append_assoc, append-nil, length-append}
use Rattle.std.specs.Prelude.{flat_map}
use Rattle.std.proofs.lemmas.Grind.{flat_map-append}
use Rattle.chill_base.specs.declared.pos.Pos.{Pos}
use Rattle.chill_tree.specs.declared.token.Sign.TheVariants as signs
use Rattle.chill_tree.specs.declared.token.TokenKind.{TokenKind}
use Rattle.rules_model.specs.Marks.{Toks, tok, sign}
use Rattle.rules_model.specs.TreeTokens.{Kinds, sign_kinds, after_commas, with_commas}
use Rattle.tree_print.specs.Canonical.{token_kinds}

-- the tokens up to a rest have these kinds
pub record Writes (ks : Kinds) (toks rest : Toks) : Type 0 where
  pub by : token_kinds toks ≡ ks ++ token_kinds rest

pub nothing : {toks : Toks} → Writes [] toks toks
nothing = record { by = refl }

pub token : {k : TokenKind} {ks : Kinds} {p : Pos} {toks rest : Toks} → Writes ks toks rest → Writes (k ∷ ks) (tok p k ∷ toks) rest
token {k = k} w = record { by = ap (λ ks. k ∷ ks) w.by }

pub token_of : {k l : TokenKind} {ks : Kinds} {p : Pos} {toks rest : Toks} → k ≡ l → Writes ks toks rest → Writes (l ∷ ks) (tok p k ∷ toks) rest
token_of {l = l} {ks = ks} {toks = toks} {rest = rest} e w = record { by = ap (λ x. x ∷ token_kinds toks) e ∙ ap (λ x. l ∷ x) w.by }

pub last : {k : TokenKind} {p : Pos} {rest : Toks} → Writes (k ∷ []) (tok p k ∷ rest) rest
last = record { by = refl }

pub both : {ks ls : Kinds} {toks m rest : Toks} → Writes ks toks m → Writes ls m rest → Writes (ks ++ ls) toks rest
both {ks = ks} {ls = ls} {rest = rest} v w = record { by = v.by ∙ ap (λ x. ks ++ x) w.by ∙ sym (append_assoc ks ls (token_kinds rest)) }

pub as_kinds : {ks ls : Kinds} {toks rest : Toks} → ks ≡ ls → Writes ks toks rest → Writes ls toks rest
as_kinds {rest = rest} e w = record { by = w.by ∙ ap (λ x. x ++ token_kinds rest) e }

-- where the second ends with something of its own
pub onto : {ks : Kinds} (ls ms : Kinds) {toks m rest : Toks} → Writes ks toks m → Writes (ls ++ ms) m rest → Writes (ks ++ ls ++ ms) toks rest
onto {ks = ks} ls ms v w = as_kinds (sym (append_assoc ks ls ms)) (both v w)

-- ---- lists with commas between

-- one or more up to a rest
pub record WritesList {X : Type 0} (f : X → Kinds) (xs : List X) (toks rest : Toks) : Type 0 where
  pub writes : Writes (with_commas f xs) toks rest
  pub some : 0 < length xs

after_and : {X : Type 0} (f : X → Kinds) (xs : List X) (x : X) → after_commas f (xs ++ x ∷ []) ≡ after_commas f xs ++ (sign_kinds signs.Comma ++ f x)
after_and f [] x = append-nil (sign_kinds signs.Comma ++ f x)
after_and f (y ∷ xs) x = ap (λ ks. sign_kinds signs.Comma ++ f y ++ ks) (after_and f xs x) ∙ sym (append_assoc (sign_kinds signs.Comma ++ f y) (after_commas f xs) (sign_kinds signs.Comma ++ f x))

commas_and : {X : Type 0} (f : X → Kinds) (xs : List X) (x : X) → 0 < length xs → with_commas f xs ++ (sign_kinds signs.Comma ++ f x) ≡ with_commas f (xs ++ x ∷ [])
commas_and f [] x lt = absurd (omega (arith, lt))
commas_and f (y ∷ xs) x lt = append_assoc (f y) (after_commas f xs) (sign_kinds signs.Comma ++ f x) ∙ ap (λ ks. f y ++ ks) (sym (after_and f xs x))

pub list_one : {X : Type 0} (f : X → Kinds) {x : X} {toks rest : Toks} → Writes (f x) toks rest → WritesList f (x ∷ []) toks rest
list_one f {x = x} w = record { writes = as_kinds (sym (append-nil (f x))) w; some = omega arith }

pub list_and : {X : Type 0} (f : X → Kinds) {xs : List X} {x : X} {p : Pos} {toks m rest : Toks} → WritesList f xs toks (sign p signs.Comma ∷ m) → Writes (f x) m rest → WritesList f (xs ++ x ∷ []) toks rest
list_and f {xs = xs} {x = x} l w =
    record { writes = as_kinds (commas_and f xs x l.some) (both l.writes (token w)); some = omega (arith, length-append xs (x ∷ [])) }

-- ---- lists with nothing between

pub many_none : {X : Type 0} (f : X → Kinds) {toks : Toks} → Writes (flat_map f []) toks toks
many_none f = nothing

pub many_and : {X : Type 0} (f : X → Kinds) (xs : List X) (x : X) {toks m rest : Toks} → Writes (flat_map f xs) toks m → Writes (f x) m rest → Writes (flat_map f (xs ++ x ∷ [])) toks rest
many_and f xs x l w = as_kinds (sym (flat_map-append f xs (x ∷ []))) (both l (as_kinds (sym (append-nil (f x))) w))
