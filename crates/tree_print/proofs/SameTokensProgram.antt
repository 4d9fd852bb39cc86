-- Tokens of the kinds of a program's tokens are a program, the same but for places.
use Rattle.std.proofs.Common.{◌≡◌, ℕ, ◌<◌, true, false, [], ◌∷◌, length, refl, ap, sym, ◌∙◌, subst, arith}
use Rattle.std.specs.Prelude.{◌==◌, if◌then◌else◌}
use Rattle.std.proofs.lemmas.List.{length-map}
use Rattle.std.proofs.lemmas.Bool.Decides.{nat_tests}
use Rattle.chill_tree.specs.declared.token.Token.{Token}
use Rattle.chill_tree.specs.declared.token.TokenKind.{TokenKind}
use Rattle.chill_tree.specs.ItemTree.{ProgramTree}
use Rattle.rules_model.specs.Marks.{Toks, tok}
use Rattle.rules_model.specs.ItemGrammar.{IsTreeOf, is_tree}
use Rattle.rules_model.specs.TreeTokens.{Kinds}
use Rattle.tree_print.specs.Canonical.{token_kinds}
use Rattle.tree_print.specs.SameTree.{nowhere, unplaced_modulion, IsSameTree}
use Rattle.tree_print.proofs.SameTokens.{Places, placed, some_again}
use Rattle.tree_print.proofs.SameTokensItem.{same_modulions}

-- the places of tokens, by the number of tokens behind each
abbrev places_of : Toks → Places
places_of [] n = nowhere
places_of (t ∷ toks) n = if n == length toks then t.at else places_of toks n

-- places that are those of the tokens
abbrev Fits : Places → Toks → Type 0
Fits f [] = Unit {0}
Fits f (t ∷ toks) = (f (length toks) ≡ t.at) × Fits f toks

fits_more : (toks : Toks) (f g : Places) → ((n : ℕ) → n < length toks → g n ≡ f n) → Fits f toks → Fits g toks
fits_more [] f g e fits = tt
fits_more (t ∷ toks) f g e fits = (e (length toks) (omega arith) ∙ fits.0, fits_more toks f g (λ n lt. e n (omega (arith, lt))) fits.1)

place_here : (toks : Toks) (t : Token) → places_of (t ∷ toks) (length toks) ≡ t.at
place_here toks t = let same : (length toks == length toks) ≡ true = grind (arith, nat_tests) in rw same refl

place_behind : (toks : Toks) (t : Token) (n : ℕ) → n < length toks → places_of (t ∷ toks) n ≡ places_of toks n
place_behind toks t n lt = let other : (n == length toks) ≡ false = grind (arith, nat_tests) in rw other refl

places_fit : (toks : Toks) → Fits (places_of toks) toks
places_fit [] = tt
places_fit (t ∷ toks) = (place_here toks t, fits_more toks (places_of toks) (places_of (t ∷ toks)) (place_behind toks t) (places_fit toks))

pub first_kind : (k l : TokenKind) (ks ls : Kinds) → (k ∷ ks) ≡ (l ∷ ls) → k ≡ l
first_kind k l ks ls e = cc

pub other_kinds : (k l : TokenKind) (ks ls : Kinds) → (k ∷ ks) ≡ (l ∷ ls) → ks ≡ ls
other_kinds k l ks ls e = cc

pub no_kinds : (k : TokenKind) (ks : Kinds) → [] ≡ (k ∷ ks) → ⊥
no_kinds k ks e = cc

same_length : (toks others : Toks) → token_kinds others ≡ token_kinds toks → length toks ≡ length others
same_length toks others e = sym (length-map toks (λ token. token.kind)) ∙ ap length (sym e) ∙ length-map others (λ token. token.kind)

-- tokens of the same kinds are the tokens at the places of those
placed_as : (toks others : Toks) (f : Places) → token_kinds others ≡ token_kinds toks → Fits f others → placed f toks ≡ others
placed_as [] [] f e fits = refl
placed_as [] (u ∷ others) f e fits = absurd (no_kinds u.kind (token_kinds others) (sym e))
placed_as (t ∷ toks) [] f e fits = absurd (no_kinds t.kind (token_kinds toks) e)
placed_as (t ∷ toks) (u ∷ others) f e fits =
    let kind : u.kind ≡ t.kind = first_kind u.kind t.kind (token_kinds others) (token_kinds toks) e in
    let behind = other_kinds u.kind t.kind (token_kinds others) (token_kinds toks) e in
    let place = ap f (same_length toks others behind) ∙ fits.0 in
    let after = placed_as toks others f behind fits.1 in
    λ i. tok (place i) (sym kind i) ∷ after i

-- tokens of the same kinds have a tree too, the same but for places
pub read_again : {toks : Toks} {x : ProgramTree} → IsTreeOf toks x → (others : Toks) → token_kinds others ≡ token_kinds toks → (y : ProgramTree) × IsTreeOf others y × IsSameTree x y
read_again {toks = toks} (is_tree {xs = xs} d some) others e =
    let x = same_modulions d (places_of others) in
    let here : placed (places_of others) toks ≡ others = placed_as toks others (places_of others) e (places_fit others) in
    let is : IsTreeOf (placed (places_of others) toks) (record { modulions = x.tree }) = is_tree x.is (some_again unplaced_modulion xs x.tree x.same some) in
    (record { modulions = x.tree }, subst (λ ts. IsTreeOf ts (record { modulions = x.tree })) here is, λ i. record { modulions = x.same i })
