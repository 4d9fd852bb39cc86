-- The grammar of statements, handlers and bodies.
use Rattle.std.specs.Prelude.{◌≡◌, ◌<◌, Bool, true, false, List, [], ◌∷◌, ◌++◌, length, Option, Some, None}
use Rattle.chill_base.specs.declared.pos.Pos.{Pos}
use Rattle.chill_tree.specs.declared.token.Word.TheVariants as words
use Rattle.chill_tree.specs.declared.token.Sign.TheVariants as signs
use Rattle.chill_tree.specs.declared.tree.name.Name.{Name}
use Rattle.chill_tree.specs.ExprTree.{ExprTree, RangeTree}
use Rattle.chill_tree.specs.LocalTree.{LocalTree}
use Rattle.chill_tree.specs.SimpleTree.{SimpleTree, ControlTree}
use Rattle.chill_tree.specs.StatementTree.{StatementTree, empty, simple, bracketed, BracketedTree, if_then, case_of, do_loop, begin_end, delay_case, receive_case, ElsIfTree, CaseTree, NamedTree, ReceiveTree, HandlerTree, BodyTree, local_part, action_part, statement_nodes, branch_nodes, case_nodes, named_nodes, receive_nodes, otherwise_node, handler_node, body_nodes}
use Rattle.rules_model.specs.Marks.{Toks, sign, word, name_token}
use Rattle.rules_model.specs.ExprGrammar.{IsExpr, IsLocation, AreRanges}
use Rattle.rules_model.specs.ListGrammar.{AreNames, IsClause, IsLabel, IsClosing}
use Rattle.rules_model.specs.LocalGrammar.{IsLocal}
use Rattle.rules_model.specs.SimpleGrammar.{IsControl, IsSimple, place_of_simple}

-- the place of the first token of an action that holds others
abbrev pub place_of_bracketed : BracketedTree → Pos
place_of_bracketed (if_then at c ss bs o) = at
place_of_bracketed (case_of at e cs o) = at
place_of_bracketed (do_loop at c ss) = at
place_of_bracketed (begin_end at ps) = at
place_of_bracketed (delay_case at s c ns) = at
place_of_bracketed (receive_case at s rs o) = at

-- the place of its statement, which begins with the label
abbrev pub place_of_labelled : Option Name → BracketedTree → Pos
place_of_labelled None b = place_of_bracketed b
place_of_labelled (Some n) b = n.at

-- [SET loc [PRIORITY expr] ";" | PRIORITY expr ";"]
pub data IsDelayHead : Option ExprTree → Option ExprTree → Toks → Toks → Type 0 where
  no_head : {toks : Toks} → IsDelayHead None None toks toks
  head_sets : {l : ExprTree} {c : Option ExprTree} {p q : Pos} {m m2 rest : Toks} → IsLocation l m m2 → IsClause words.Priority IsExpr c m2 (sign q signs.Semicolon ∷ rest) → IsDelayHead (Some l) c (word p words.Set ∷ m) rest
  head_ranks : {e : ExprTree} {p q : Pos} {m rest : Toks} → IsExpr e m (sign q signs.Semicolon ∷ rest) → IsDelayHead None (Some e) (word p words.Priority ∷ m) rest

-- [SET loc ";"]
pub data IsReceiveHead : Option ExprTree → Toks → Toks → Type 0 where
  sets_none : {toks : Toks} → IsReceiveHead None toks toks
  sets_one : {l : ExprTree} {p q : Pos} {m rest : Toks} → IsLocation l m (sign q signs.Semicolon ∷ rest) → IsReceiveHead (Some l) (word p words.Set ∷ m) rest

-- whether a handler has an alternative or an ELSE
abbrev pub handles : List NamedTree → Option (List StatementTree) → Bool
handles [] None = false
handles [] (Some ss) = true
handles (a ∷ ns) o = true

mutual
  -- statement = [name ":"] bracketed [handler] [name] ";" | simple [handler] ";" | ";"
  pub data IsStatement : StatementTree → Toks → Toks → Type 0 where
    is_empty : {at : Pos} {rest : Toks} → IsStatement (empty at) (sign at signs.Semicolon ∷ rest) rest
    is_simple : {a : SimpleTree} {h : Option HandlerTree} {p : Pos} {toks m rest : Toks} → IsSimple a toks m → IsHandler h m (sign p signs.Semicolon ∷ rest) → IsStatement (simple (place_of_simple a) a (handler_node h)) toks rest
    is_bracketed : {l c : Option Name} {b : BracketedTree} {h : Option HandlerTree} {p : Pos} {toks m m2 m3 rest : Toks} → IsLabel l toks m → IsBracketed b m m2 → IsHandler h m2 m3 → IsClosing l c m3 (sign p signs.Semicolon ∷ rest)
        → IsStatement (bracketed (place_of_labelled l b) l b (handler_node h) c) toks rest

  -- actions = {statement}
  pub data AreStatements : List StatementTree → Toks → Toks → Type 0 where
    no_statements : {toks : Toks} → AreStatements [] toks toks
    then_statement : {ss : List StatementTree} {s : StatementTree} {toks m rest : Toks} → AreStatements ss toks m → IsStatement s m rest → AreStatements (ss ++ s ∷ []) toks rest

  -- bracketed
  pub data IsBracketed : BracketedTree → Toks → Toks → Type 0 where
    -- IF expr THEN actions {ELSIF expr THEN actions} [ELSE actions] FI
    is_if : {at p q : Pos} {e : ExprTree} {ss : List StatementTree} {bs : List ElsIfTree} {o : Option (List StatementTree)} {m m2 m3 m4 rest : Toks} → IsExpr e m (word p words.Then ∷ m2) → AreStatements ss m2 m3 → AreBranches bs m3 m4 → IsOtherwise o m4 (word q words.Fi ∷ rest)
        → IsBracketed (if_then at e (statement_nodes ss) (branch_nodes bs) (otherwise_node o)) (word at words.If ∷ m) rest
    -- CASE expr OF "(" labels ")" ":" actions {"(" labels ")" ":" actions} [ELSE actions] ESAC
    is_case : {at p q : Pos} {e : ExprTree} {cs : List CaseTree} {o : Option (List StatementTree)} {m m2 m3 rest : Toks} → IsExpr e m (word p words.Of ∷ m2) → AreCases cs m2 m3 → 0 < length cs → IsOtherwise o m3 (word q words.Esac ∷ rest)
        → IsBracketed (case_of at e (case_nodes cs) (otherwise_node o)) (word at words.Case ∷ m) rest
    -- DO control ";" actions OD
    is_do : {at p q : Pos} {c : ControlTree} {ss : List StatementTree} {m m2 rest : Toks} → IsControl c m (sign p signs.Semicolon ∷ m2) → AreStatements ss m2 (word q words.Od ∷ rest)
        → IsBracketed (do_loop at c (statement_nodes ss)) (word at words.Do ∷ m) rest
    -- BEGIN body END
    is_begin : {at q : Pos} {ps : List BodyTree} {m rest : Toks} → AreBody ps m (word q words.End ∷ rest) → IsBracketed (begin_end at (body_nodes ps)) (word at words.Begin ∷ m) rest
    -- DELAY CASE [SET loc [PRIORITY expr] ";" | PRIORITY expr ";"] "(" names ")" ":" actions {"(" names ")" ":" actions} ESAC
    is_delay_case : {at p q : Pos} {l c : Option ExprTree} {ns : List NamedTree} {m m2 rest : Toks} → IsDelayHead l c m m2 → AreNamed ns m2 (word q words.Esac ∷ rest) → 0 < length ns
        → IsBracketed (delay_case at l c (named_nodes ns)) (word at words.Delay ∷ word p words.Case ∷ m) rest
    -- RECEIVE CASE [SET loc ";"] "(" name [IN names] ")" ":" actions {"(" name [IN names] ")" ":" actions} [ELSE actions] ESAC
    is_receive_case : {at p q : Pos} {l : Option ExprTree} {rs : List ReceiveTree} {o : Option (List StatementTree)} {m m2 m3 rest : Toks} → IsReceiveHead l m m2 → AreReceives rs m2 m3 → 0 < length rs → IsOtherwise o m3 (word q words.Esac ∷ rest)
        → IsBracketed (receive_case at l (receive_nodes rs) (otherwise_node o)) (word at words.Receive ∷ word p words.Case ∷ m) rest

  -- {ELSIF expr THEN actions}
  pub data AreBranches : List ElsIfTree → Toks → Toks → Type 0 where
    no_branches : {toks : Toks} → AreBranches [] toks toks
    then_branch : {bs : List ElsIfTree} {e : ExprTree} {ss : List StatementTree} {at p : Pos} {toks m m2 rest : Toks} → AreBranches bs toks (word at words.ElsIf ∷ m) → IsExpr e m (word p words.Then ∷ m2) → AreStatements ss m2 rest
        → AreBranches (bs ++ record { at = at; condition = e; actions = ss } ∷ []) toks rest

  -- {"(" labels ")" ":" actions}, where labels = label {"," label} and label = expr [":" expr]
  pub data AreCases : List CaseTree → Toks → Toks → Type 0 where
    no_cases : {toks : Toks} → AreCases [] toks toks
    then_case : {cs : List CaseTree} {ls : List RangeTree} {ss : List StatementTree} {at p q : Pos} {toks m m2 rest : Toks} → AreCases cs toks (sign at signs.Open ∷ m) → AreRanges ls m (sign p signs.Close ∷ sign q signs.Colon ∷ m2) → AreStatements ss m2 rest
        → AreCases (cs ++ record { at = at; labels = ls; actions = ss } ∷ []) toks rest

  -- {"(" names ")" ":" actions}
  pub data AreNamed : List NamedTree → Toks → Toks → Type 0 where
    no_named : {toks : Toks} → AreNamed [] toks toks
    then_named : {cs : List NamedTree} {ns : List Name} {ss : List StatementTree} {at p q : Pos} {toks m m2 rest : Toks} → AreNamed cs toks (sign at signs.Open ∷ m) → AreNames ns m (sign p signs.Close ∷ sign q signs.Colon ∷ m2) → AreStatements ss m2 rest
        → AreNamed (cs ++ record { at = at; names = ns; actions = ss } ∷ []) toks rest

  -- {"(" name [IN names] ")" ":" actions}
  pub data AreReceives : List ReceiveTree → Toks → Toks → Type 0 where
    no_receives : {toks : Toks} → AreReceives [] toks toks
    then_receive : {cs : List ReceiveTree} {n : Name} {ns : Option (List Name)} {ss : List StatementTree} {at p q : Pos} {toks m m2 rest : Toks} → AreReceives cs toks (sign at signs.Open ∷ name_token n ∷ m) → IsClause words.In AreNames ns m (sign p signs.Close ∷ sign q signs.Colon ∷ m2) → AreStatements ss m2 rest
        → AreReceives (cs ++ record { at = at; source = n; received = ns; actions = ss } ∷ []) toks rest

  -- [ELSE actions]
  pub data IsOtherwise : Option (List StatementTree) → Toks → Toks → Type 0 where
    no_else : {toks : Toks} → IsOtherwise None toks toks
    with_else : {ss : List StatementTree} {p : Pos} {m rest : Toks} → AreStatements ss m rest → IsOtherwise (Some ss) (word p words.Else ∷ m) rest

  -- [handler], where handler = ON {"(" names ")" ":" actions} [ELSE actions] END with an alternative or an ELSE
  pub data IsHandler : Option HandlerTree → Toks → Toks → Type 0 where
    no_handler : {toks : Toks} → IsHandler None toks toks
    with_handler : {at q : Pos} {ns : List NamedTree} {o : Option (List StatementTree)} {m m2 rest : Toks} → AreNamed ns m m2 → IsOtherwise o m2 (word q words.End ∷ rest) → handles ns o ≡ true
        → IsHandler (Some (record { at = at; alternatives = ns; otherwise_part = o })) (word at words.On ∷ m) rest

  -- body = {local | statement}
  pub data AreBody : List BodyTree → Toks → Toks → Type 0 where
    no_parts : {toks : Toks} → AreBody [] toks toks
    then_local : {ps : List BodyTree} {l : LocalTree} {toks m rest : Toks} → AreBody ps toks m → IsLocal l m rest → AreBody (ps ++ local_part l ∷ []) toks rest
    then_action : {ps : List BodyTree} {s : StatementTree} {toks m rest : Toks} → AreBody ps toks m → IsStatement s m rest → AreBody (ps ++ action_part s ∷ []) toks rest
