-- Lists, names and what may stand or be left out.
use Rattle.std.specs.Prelude.{◌≡◌, Bool, true, false, List, [], ◌∷◌, ◌++◌, Option, Some, None}
use Rattle.chill_base.specs.declared.pos.Pos.{Pos}
use Rattle.chill_tree.specs.declared.token.Word.{Word}
use Rattle.chill_tree.specs.declared.token.Sign.TheVariants as signs
use Rattle.chill_tree.specs.declared.tree.name.Name.{Name}
use Rattle.chill_tree.specs.ExprTree.{ExprTree}
use Rattle.rules_model.specs.Marks.{Toks, sign, word, name_token}
use Rattle.rules_model.specs.ExprGrammar.{IsExpr}

-- x {"," x}
pub data AreListed {X : Type 0} (Is : X → Toks → Toks → Type 0) : List X → Toks → Toks → Type 0 where
  one_of : {x : X} {toks rest : Toks} → Is x toks rest → AreListed Is (x ∷ []) toks rest
  and_of : {xs : List X} {x : X} {p : Pos} {toks m rest : Toks} → AreListed Is xs toks (sign p signs.Comma ∷ m) → Is x m rest → AreListed Is (xs ++ x ∷ []) toks rest

-- a name
pub data IsName : Name → Toks → Toks → Type 0 where
  is_name : {n : Name} {rest : Toks} → IsName n (name_token n ∷ rest) rest

-- names = name {"," name}
abbrev pub AreNames : List Name → Toks → Toks → Type 0
AreNames = AreListed IsName

-- [word x]
pub data IsClause {X : Type 0} (w : Word) (Is : X → Toks → Toks → Type 0) : Option X → Toks → Toks → Type 0 where
  no_clause : {toks : Toks} → IsClause w Is None toks toks
  with_clause : {x : X} {p : Pos} {m rest : Toks} → Is x m rest → IsClause w Is (Some x) (word p w ∷ m) rest

-- [word]
pub data IsFlag (w : Word) : Bool → Toks → Toks → Type 0 where
  no_flag : {toks : Toks} → IsFlag w false toks toks
  with_flag : {p : Pos} {rest : Toks} → IsFlag w true (word p w ∷ rest) rest

-- ["(" expr ")"]
pub data IsLength : Option ExprTree → Toks → Toks → Type 0 where
  no_length : {toks : Toks} → IsLength None toks toks
  with_length : {e : ExprTree} {p q : Pos} {m rest : Toks} → IsExpr e m (sign q signs.Close ∷ rest) → IsLength (Some e) (sign p signs.Open ∷ m) rest

-- [name ":"]
pub data IsLabel : Option Name → Toks → Toks → Type 0 where
  no_label : {toks : Toks} → IsLabel None toks toks
  with_label : {n : Name} {p : Pos} {rest : Toks} → IsLabel (Some n) (name_token n ∷ sign p signs.Colon ∷ rest) rest

-- [name] at an end, which is the name or label at the start
pub data IsClosing : Option Name → Option Name → Toks → Toks → Type 0 where
  left_open : {label : Option Name} {toks : Toks} → IsClosing label None toks toks
  closed_by : {label n : Name} {rest : Toks} → n.text ≡ label.text → IsClosing (Some label) (Some n) (name_token n ∷ rest) rest
