-- The grammar of items, modulions and programs.
use Rattle.std.specs.Prelude.{◌≡◌, ◌<◌, List, [], ◌∷◌, ◌++◌, length, Option, Some, None}
use Rattle.chill_base.specs.declared.pos.Pos.{Pos}
use Rattle.chill_tree.specs.declared.token.Word.TheVariants as words
use Rattle.chill_tree.specs.declared.token.Sign.TheVariants as signs
use Rattle.chill_tree.specs.declared.tree.name.Name.{Name}
use Rattle.chill_tree.specs.declared.tree.item.ModulionKind.{ModulionKind}
use Rattle.chill_tree.specs.declared.tree.item.ModulionKind.TheVariants as modulions
use Rattle.chill_tree.specs.declared.tree.item.Passed.{Passed}
use Rattle.chill_tree.specs.declared.tree.item.Passed.TheVariants as passes
use Rattle.chill_tree.specs.declared.tree.item.Passing.{Passing}
use Rattle.chill_tree.specs.declared.tree.item.Passing.TheVariants as ways
use Rattle.chill_tree.specs.ModeTree.{ModeTree}
use Rattle.chill_tree.specs.LocalTree.{LocalTree}
use Rattle.chill_tree.specs.StatementTree.{StatementTree, HandlerTree, BodyTree}
use Rattle.chill_tree.specs.ItemTree.{SignalTree, ParamTree, ProcedureTree, FormalTree, ProcessTree, ItemTree, seize, grant, local_item, signals, procedure, process, action, ModulionTree, modulion_item, ProgramTree}
use Rattle.rules_model.specs.Marks.{Toks, sign, word, name_token}
use Rattle.rules_model.specs.ListGrammar.{AreListed, IsName, AreNames, IsClause, IsClosing}
use Rattle.rules_model.specs.ModeGrammar.{IsMode}
use Rattle.rules_model.specs.LocalGrammar.{IsLocal}
use Rattle.rules_model.specs.StatementGrammar.{IsStatement, IsHandler, AreBody}

-- names | ALL
pub data IsPassed : Passed → Toks → Toks → Type 0 where
  pass_names : {ns : List Name} {toks rest : Toks} → AreNames ns toks rest → IsPassed (passes.Names ns) toks rest
  pass_all : {at : Pos} {rest : Toks} → IsPassed (passes.All at) (word at words.All ∷ rest) rest

-- ["=" "(" mode {"," mode} ")"]
pub data AreSignalParts : Option (List ModeTree) → Toks → Toks → Type 0 where
  no_signal_parts : {toks : Toks} → AreSignalParts None toks toks
  with_signal_parts : {ms : List ModeTree} {p q r : Pos} {m rest : Toks} → AreListed IsMode ms m (sign r signs.Close ∷ rest) → AreSignalParts (Some ms) (sign p signs.Equal ∷ sign q signs.Open ∷ m) rest

-- signal = name ["=" "(" mode {"," mode} ")"] [TO name]
pub data IsSignal : SignalTree → Toks → Toks → Type 0 where
  is_signal : {n : Name} {ms : Option (List ModeTree)} {t : Option Name} {m m2 rest : Toks} → AreSignalParts ms m m2 → IsClause words.To IsName t m2 rest → IsSignal (record { name = n; parts = ms; process = t }) (name_token n ∷ m) rest

-- [IN | OUT | INOUT]
pub data IsPassing : Option Passing → Toks → Toks → Type 0 where
  no_passing : {toks : Toks} → IsPassing None toks toks
  pass_in : {p : Pos} {rest : Toks} → IsPassing (Some ways.In) (word p words.In ∷ rest) rest
  pass_out : {p : Pos} {rest : Toks} → IsPassing (Some ways.Out) (word p words.Out ∷ rest) rest
  pass_in_out : {p : Pos} {rest : Toks} → IsPassing (Some ways.InOut) (word p words.InOut ∷ rest) rest

-- param = names mode [IN | OUT | INOUT]
pub data IsParam : ParamTree → Toks → Toks → Type 0 where
  is_param : {ns : List Name} {o : ModeTree} {w : Option Passing} {toks m m2 rest : Toks} → AreNames ns toks m → IsMode o m m2 → IsPassing w m2 rest → IsParam (record { names = ns; mode = o; passing = w }) toks rest

-- formal = names mode
pub data IsFormal : FormalTree → Toks → Toks → Type 0 where
  is_formal : {ns : List Name} {o : ModeTree} {toks m rest : Toks} → AreNames ns toks m → IsMode o m rest → IsFormal (record { names = ns; mode = o }) toks rest

-- [x {"," x}] ")"
pub data AreWithin {X : Type 0} (Is : X → Toks → Toks → Type 0) : List X → Toks → Toks → Type 0 where
  none_within : {p : Pos} {rest : Toks} → AreWithin Is [] (sign p signs.Close ∷ rest) rest
  some_within : {xs : List X} {p : Pos} {toks rest : Toks} → AreListed Is xs toks (sign p signs.Close ∷ rest) → AreWithin Is xs toks rest

-- "(" mode ")"
pub data IsResult : ModeTree → Toks → Toks → Type 0 where
  is_result : {o : ModeTree} {p q : Pos} {m rest : Toks} → IsMode o m (sign q signs.Close ∷ rest) → IsResult o (sign p signs.Open ∷ m) rest

-- "(" names ")"
pub data AreExceptions : List Name → Toks → Toks → Type 0 where
  are_exceptions : {ns : List Name} {p q : Pos} {m rest : Toks} → AreNames ns m (sign q signs.Close ∷ rest) → AreExceptions ns (sign p signs.Open ∷ m) rest

-- body END [handler] [name] ";", with the name that stands at the start
pub data IsBlock : Name → List BodyTree → Option HandlerTree → Option Name → Toks → Toks → Type 0 where
  is_block : {n : Name} {ps : List BodyTree} {h : Option HandlerTree} {c : Option Name} {p q : Pos} {toks m m2 rest : Toks} → AreBody ps toks (word p words.End ∷ m) → IsHandler h m m2 → IsClosing (Some n) c m2 (sign q signs.Semicolon ∷ rest)
      → IsBlock n ps h c toks rest

-- procedure = name ":" PROC "(" [param {"," param}] ")" [RETURNS "(" mode ")"] [EXCEPTIONS "(" names ")"] ";"
--             body END [handler] [name] ";"
pub data IsProcedure : ProcedureTree → Toks → Toks → Type 0 where
  is_procedure : {n : Name} {ps : List ParamTree} {o : Option ModeTree} {es : Option (List Name)} {b : List BodyTree} {h : Option HandlerTree} {c : Option Name} {p q r s : Pos} {m m2 m3 m4 rest : Toks}
      → AreWithin IsParam ps m m2 → IsClause words.Returns IsResult o m2 m3 → IsClause words.Exceptions AreExceptions es m3 (sign s signs.Semicolon ∷ m4) → IsBlock n b h c m4 rest
      → IsProcedure (record { name = n; params = ps; returns = o; exceptions = es; body = b; handler = h; closing = c }) (name_token n ∷ sign p signs.Colon ∷ word q words.Proc ∷ sign r signs.Open ∷ m) rest

-- process = name ":" PROCESS "(" [formal {"," formal}] ")" ";" body END [handler] [name] ";"
pub data IsProcess : ProcessTree → Toks → Toks → Type 0 where
  is_process : {n : Name} {ps : List FormalTree} {b : List BodyTree} {h : Option HandlerTree} {c : Option Name} {p q r s : Pos} {m m2 rest : Toks}
      → AreWithin IsFormal ps m (sign s signs.Semicolon ∷ m2) → IsBlock n b h c m2 rest
      → IsProcess (record { name = n; formals = ps; body = b; handler = h; closing = c }) (name_token n ∷ sign p signs.Colon ∷ word q words.Process ∷ sign r signs.Open ∷ m) rest

-- MODULE | REGION
pub data IsKind : ModulionKind → Toks → Toks → Type 0 where
  is_module : {p : Pos} {rest : Toks} → IsKind modulions.Module (word p words.Module ∷ rest) rest
  is_region : {p : Pos} {rest : Toks} → IsKind modulions.Region (word p words.Region ∷ rest) rest

mutual
  -- item = SEIZE (names | ALL) ";" | GRANT (names | ALL) ";" | local | SIGNAL signal {"," signal} ";"
  --      | procedure | process | modulion | statement
  pub data IsItem : ItemTree → Toks → Toks → Type 0 where
    is_seize : {at q : Pos} {w : Passed} {m rest : Toks} → IsPassed w m (sign q signs.Semicolon ∷ rest) → IsItem (seize at w) (word at words.Seize ∷ m) rest
    is_grant : {at q : Pos} {w : Passed} {m rest : Toks} → IsPassed w m (sign q signs.Semicolon ∷ rest) → IsItem (grant at w) (word at words.Grant ∷ m) rest
    is_local_item : {l : LocalTree} {toks rest : Toks} → IsLocal l toks rest → IsItem (local_item l) toks rest
    are_signals : {at q : Pos} {ss : List SignalTree} {m rest : Toks} → AreListed IsSignal ss m (sign q signs.Semicolon ∷ rest) → IsItem (signals at ss) (word at words.Signal ∷ m) rest
    is_procedure_item : {x : ProcedureTree} {toks rest : Toks} → IsProcedure x toks rest → IsItem (procedure x) toks rest
    is_process_item : {x : ProcessTree} {toks rest : Toks} → IsProcess x toks rest → IsItem (process x) toks rest
    is_modulion_item : {x : ModulionTree} {toks rest : Toks} → IsModulion x toks rest → IsItem (modulion_item x) toks rest
    is_action : {s : StatementTree} {toks rest : Toks} → IsStatement s toks rest → IsItem (action s) toks rest

  -- {item}
  pub data AreItems : List ItemTree → Toks → Toks → Type 0 where
    no_items : {toks : Toks} → AreItems [] toks toks
    then_item : {is : List ItemTree} {i : ItemTree} {toks m rest : Toks} → AreItems is toks m → IsItem i m rest → AreItems (is ++ i ∷ []) toks rest

  -- modulion = name ":" (MODULE | REGION) {item} END [handler] [name] ";"
  pub data IsModulion : ModulionTree → Toks → Toks → Type 0 where
    is_modulion : {n : Name} {k : ModulionKind} {is : List ItemTree} {h : Option HandlerTree} {c : Option Name} {p r u : Pos} {toks m m2 m3 rest : Toks}
        → IsKind k toks m → AreItems is m (word r words.End ∷ m2) → IsHandler h m2 m3 → IsClosing (Some n) c m3 (sign u signs.Semicolon ∷ rest)
        → IsModulion (record { name = n; kind = k; items = is; handler = h; closing = c }) (name_token n ∷ sign p signs.Colon ∷ toks) rest

-- {modulion}
pub data AreModulions : List ModulionTree → Toks → Toks → Type 0 where
  no_modulions : {toks : Toks} → AreModulions [] toks toks
  then_modulion : {xs : List ModulionTree} {x : ModulionTree} {toks m rest : Toks} → AreModulions xs toks m → IsModulion x m rest → AreModulions (xs ++ x ∷ []) toks rest

-- program = modulion {modulion}, and all the tokens are the program's
pub data IsTreeOf : Toks → ProgramTree → Type 0 where
  is_tree : {xs : List ModulionTree} {toks : Toks} → AreModulions xs toks [] → 0 < length xs → IsTreeOf toks (record { modulions = xs })

-- all trees of the tokens are one
abbrev pub HasOneTree : Toks → Type 0
HasOneTree toks = (first second : ProgramTree) → IsTreeOf toks first → IsTreeOf toks second → first ≡ second
