-- Tokens at other places.
use Rattle.std.proofs.Common.{◌≡◌, ℕ, ◌<◌, List, [], ◌∷◌, ◌++◌, map, length, ◌∙◌, sym, ap, ap₂, arith}
use Rattle.std.proofs.lemmas.List.{map-append, length-map}
use Rattle.chill_base.specs.declared.pos.Pos.{Pos}
use Rattle.chill_tree.specs.declared.tree.name.Name.{Name}
use Rattle.rules_model.specs.Marks.{Toks, tok}

-- a place for each token, by the number of tokens behind it
abbrev pub Places : Type 0
Places = ℕ → Pos

-- the tokens at those places
abbrev pub placed : Places → Toks → Toks
placed f [] = []
placed f (t ∷ toks) = tok (f (length toks)) t.kind ∷ placed f toks

-- the place of the token before a rest
abbrev pub before : Places → Toks → Pos
before f rest = f (length rest)

-- a name as the token before a rest
abbrev pub name_before : Places → Toks → Name → Name
name_before f rest n = record { at = before f rest; text = n.text }

-- what the tokens are at those places: the same but for places
pub record Again {X : Type 0} (Is : X → Toks → Toks → Type 0) (unplaced : X → X) (f : Places) (x : X) (toks rest : Toks) : Type 0 where
  pub tree : X
  pub is : Is tree (placed f toks) (placed f rest)
  pub same : unplaced x ≡ unplaced tree

pub and_same : {X Y : Type 0} (g : X → Y) (xs ys : List X) (x y : X) → map g xs ≡ map g ys → g x ≡ g y → map g (xs ++ x ∷ []) ≡ map g (ys ++ y ∷ [])
and_same g xs ys x y l e = map-append g xs (x ∷ []) ∙ ap₂ (λ us u. us ++ u ∷ []) l e ∙ sym (map-append g ys (y ∷ []))

-- what is of a kind of trees is so at other places too
abbrev pub Stays : {X : Type 0} → (X → Toks → Toks → Type 0) → (X → X) → Places → Type 0
Stays {X} Is unplaced f = (x : X) (toks rest : Toks) → Is x toks rest → Again Is unplaced f x toks rest

-- lists as nodes hold them are the same where the lists are
pub same_held : {A N : Type 0} (node : A → N) (bare : N → N) (unplaced : A → A) → ((x : A) → bare (node x) ≡ node (unplaced x)) → (x y : A) → unplaced x ≡ unplaced y → bare (node x) ≡ bare (node y)
same_held node bare unplaced held x y e = held x ∙ ap node e ∙ sym (held y)

pub some_again : {X Y : Type 0} (g : X → Y) (xs ys : List X) → map g xs ≡ map g ys → 0 < length xs → 0 < length ys
some_again g xs ys e lt = let lengths : length (map g xs) ≡ length (map g ys) = ap length e in omega (arith, lt, lengths, length-map xs g, length-map ys g)
