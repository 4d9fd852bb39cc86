-- The grammar of definitions.
use Rattle.std.specs.Prelude.{true, false, List, ◌∷◌, Option, Some, None}
use Rattle.chill_base.specs.declared.pos.Pos.{Pos}
use Rattle.chill_tree.specs.declared.token.Word.TheVariants as words
use Rattle.chill_tree.specs.declared.token.Sign.TheVariants as signs
use Rattle.chill_tree.specs.declared.tree.name.Name.{Name}
use Rattle.chill_tree.specs.ExprTree.{ExprTree}
use Rattle.chill_tree.specs.ModeTree.{ModeTree}
use Rattle.chill_tree.specs.LocalTree.{SynonymTree, ModeDefinitionTree, InitialTree, DeclarationTree, LocalTree, synonyms, syn_modes, new_modes, locations}
use Rattle.rules_model.specs.Marks.{Toks, sign, word, name_token}
use Rattle.rules_model.specs.ExprGrammar.{IsExpr}
use Rattle.rules_model.specs.ListGrammar.{AreListed, AreNames}
use Rattle.rules_model.specs.ModeGrammar.{IsMode}

-- [mode]
pub data IsWrittenMode : Option ModeTree → Toks → Toks → Type 0 where
  no_mode : {toks : Toks} → IsWrittenMode None toks toks
  with_mode : {m : ModeTree} {toks rest : Toks} → IsMode m toks rest → IsWrittenMode (Some m) toks rest

-- syn = names [mode] "=" expr
pub data IsSynonym : SynonymTree → Toks → Toks → Type 0 where
  is_synonym : {ns : List Name} {o : Option ModeTree} {e : ExprTree} {p : Pos} {toks m m2 rest : Toks} → AreNames ns toks m → IsWrittenMode o m (sign p signs.Equal ∷ m2) → IsExpr e m2 rest
      → IsSynonym (record { names = ns; mode = o; value = e }) toks rest

-- newname = name "=" mode
pub data IsModeDefinition : ModeDefinitionTree → Toks → Toks → Type 0 where
  is_mode_definition : {n : Name} {o : ModeTree} {p : Pos} {m rest : Toks} → IsMode o m rest → IsModeDefinition (record { name = n; mode = o }) (name_token n ∷ sign p signs.Equal ∷ m) rest

-- [[INIT] ":=" expr]
pub data IsInitial : Option InitialTree → Toks → Toks → Type 0 where
  no_initial : {toks : Toks} → IsInitial None toks toks
  by_sign : {at : Pos} {e : ExprTree} {m rest : Toks} → IsExpr e m rest → IsInitial (Some (record { at = at; init = false; value = e })) (sign at signs.Becomes ∷ m) rest
  by_word : {at p : Pos} {e : ExprTree} {m rest : Toks} → IsExpr e m rest → IsInitial (Some (record { at = at; init = true; value = e })) (word at words.Init ∷ sign p signs.Becomes ∷ m) rest

-- decl = names mode [[INIT] ":=" expr]
pub data IsDeclaration : DeclarationTree → Toks → Toks → Type 0 where
  is_declaration : {ns : List Name} {o : ModeTree} {i : Option InitialTree} {toks m m2 rest : Toks} → AreNames ns toks m → IsMode o m m2 → IsInitial i m2 rest
      → IsDeclaration (record { names = ns; mode = o; initial = i }) toks rest

-- local = SYN syn {"," syn} ";" | SYNMODE newname {"," newname} ";" | NEWMODE newname {"," newname} ";"
--       | DCL decl {"," decl} ";"
pub data IsLocal : LocalTree → Toks → Toks → Type 0 where
  are_synonyms : {at p : Pos} {ss : List SynonymTree} {m rest : Toks} → AreListed IsSynonym ss m (sign p signs.Semicolon ∷ rest) → IsLocal (synonyms at ss) (word at words.Syn ∷ m) rest
  are_syn_modes : {at p : Pos} {ds : List ModeDefinitionTree} {m rest : Toks} → AreListed IsModeDefinition ds m (sign p signs.Semicolon ∷ rest) → IsLocal (syn_modes at ds) (word at words.SynMode ∷ m) rest
  are_new_modes : {at p : Pos} {ds : List ModeDefinitionTree} {m rest : Toks} → AreListed IsModeDefinition ds m (sign p signs.Semicolon ∷ rest) → IsLocal (new_modes at ds) (word at words.NewMode ∷ m) rest
  are_locations : {at p : Pos} {ds : List DeclarationTree} {m rest : Toks} → AreListed IsDeclaration ds m (sign p signs.Semicolon ∷ rest) → IsLocal (locations at ds) (word at words.Dcl ∷ m) rest
