-- The tokens of a list, of names and of what may be left out are its own.
use Rattle.std.proofs.Common.{List, ◌++◌, Bool, Option}
use Rattle.chill_tree.specs.declared.token.Word.{Word}
use Rattle.chill_tree.specs.declared.tree.name.Name.{Name}
use Rattle.chill_tree.specs.ExprTree.{ExprTree}
use Rattle.rules_model.specs.Marks.{Toks}
use Rattle.rules_model.specs.ListGrammar.{AreListed, one_of, and_of, IsName, is_name, AreNames, IsClause, no_clause, with_clause, IsFlag, no_flag, with_flag, IsLength, no_length, with_length, IsLabel, no_label, with_label, IsClosing, left_open, closed_by}
use Rattle.rules_model.specs.TreeTokens.{Kinds, word_kinds, name_kinds, given, names_kinds, length_kinds, flag_kinds, label_kinds}
use Rattle.tree_print.proofs.TreeTokens.{Writes, nothing, token, last, both, WritesList, list_one, list_and}
use Rattle.tree_print.proofs.TreeTokensExpr.{ranked_tokens}

-- what is of a kind of trees has the tokens of the tree
abbrev pub Tells : {X : Type 0} → (X → Toks → Toks → Type 0) → (X → Kinds) → Type 0
Tells {X} Is ks = (x : X) (toks rest : Toks) → Is x toks rest → Writes (ks x) toks rest

pub listed_tokens : {X : Type 0} {Is : X → Toks → Toks → Type 0} (ks : X → Kinds) → Tells Is ks → {xs : List X} {toks rest : Toks} → AreListed Is xs toks rest → WritesList ks xs toks rest
listed_tokens ks tells (one_of d) = list_one ks (tells _ _ _ d)
listed_tokens ks tells (and_of l d) = list_and ks (listed_tokens ks tells l) (tells _ _ _ d)

pub name_tokens : Tells IsName name_kinds
name_tokens n toks rest is_name = last

pub names_tokens : {ns : List Name} {toks rest : Toks} → AreNames ns toks rest → Writes (names_kinds ns) toks rest
names_tokens d = (listed_tokens name_kinds name_tokens d).writes

pub clause_tokens : {X : Type 0} {Is : X → Toks → Toks → Type 0} {w : Word} (ks : X → Kinds) → Tells Is ks → {x : Option X} {toks rest : Toks} → IsClause w Is x toks rest → Writes (given (λ y. word_kinds w ++ ks y) x) toks rest
clause_tokens ks tells no_clause = nothing
clause_tokens ks tells (with_clause d) = token (tells _ _ _ d)

pub flag_tokens : {w : Word} {b : Bool} {toks rest : Toks} → IsFlag w b toks rest → Writes (flag_kinds w b) toks rest
flag_tokens no_flag = nothing
flag_tokens with_flag = last

pub length_tokens : {l : Option ExprTree} {toks rest : Toks} → IsLength l toks rest → Writes (length_kinds l) toks rest
length_tokens no_length = nothing
length_tokens (with_length d) = token (both (ranked_tokens d) last)

pub label_tokens : {l : Option Name} {toks rest : Toks} → IsLabel l toks rest → Writes (label_kinds l) toks rest
label_tokens no_label = nothing
label_tokens with_label = token last

pub closing_tokens : {l c : Option Name} {toks rest : Toks} → IsClosing l c toks rest → Writes (given name_kinds c) toks rest
closing_tokens left_open = nothing
closing_tokens (closed_by e) = last
