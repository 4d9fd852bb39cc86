-- The grammar of modes.
use Rattle.std.specs.Prelude.{◌≡◌, ℕ, suc, ◌<◌, Bool, true, false, not, List, [], ◌∷◌, ◌++◌, Option, Some, None}
use Rattle.chill_base.specs.declared.pos.Pos.{Pos}
use Rattle.chill_tree.specs.declared.token.Word.TheVariants as words
use Rattle.chill_tree.specs.declared.token.Sign.TheVariants as signs
use Rattle.chill_tree.specs.declared.tree.name.Name.{Name}
use Rattle.chill_tree.specs.declared.tree.mode.Packing.{Packing}
use Rattle.chill_tree.specs.declared.tree.mode.Packing.TheVariants as packings
use Rattle.chill_tree.specs.declared.tree.mode.PlaceForm.TheVariants as forms
use Rattle.chill_tree.specs.ExprTree.{ExprTree}
use Rattle.chill_tree.specs.ModeTree.{DiscreteTree, named, bounded, set_of, IndexTree, index_named, index_bounded, PlaceTree, StepTree, SpreadTree, by_packing, by_step, BaseTree, discrete, powerset, chars, structure, array, FieldTree, field_nodes, ModeTree, base_mode, read_mode, event_mode, buffer_mode}
use Rattle.rules_model.specs.Marks.{Toks, sign, word, name_token}
use Rattle.rules_model.specs.ExprGrammar.{IsExpr}
use Rattle.rules_model.specs.ListGrammar.{AreNames, IsLength}

-- discrete = name ["(" expr ":" expr ")"] | SET "(" names ")"
pub data IsDiscrete : DiscreteTree → Toks → Toks → Type 0 where
  is_named_mode : {n : Name} {rest : Toks} → IsDiscrete (named n) (name_token n ∷ rest) rest
  is_bounded : {n : Name} {l h : ExprTree} {p q r : Pos} {m m2 rest : Toks} → IsExpr l m (sign q signs.Colon ∷ m2) → IsExpr h m2 (sign r signs.Close ∷ rest) → IsDiscrete (bounded n l h) (name_token n ∷ sign p signs.Open ∷ m) rest
  is_set : {at p q : Pos} {ns : List Name} {m rest : Toks} → AreNames ns m (sign q signs.Close ∷ rest) → IsDiscrete (set_of at ns) (word at words.Set ∷ sign p signs.Open ∷ m) rest

-- index = name | expr ":" expr
pub data IsIndex : IndexTree → Toks → Toks → Type 0 where
  is_index_name : {n : Name} {rest : Toks} → IsIndex (index_named n) (name_token n ∷ rest) rest
  is_index_range : {l h : ExprTree} {p : Pos} {toks m rest : Toks} → IsExpr l toks (sign p signs.Colon ∷ m) → IsExpr h m rest → IsIndex (index_bounded l h) toks rest

-- pos = POS "(" expr "," expr (":" | ",") expr ")"
pub data IsPlace : PlaceTree → Toks → Toks → Type 0 where
  up_to : {at p q r s : Pos} {w f b : ExprTree} {m m2 m3 rest : Toks} → IsExpr w m (sign q signs.Comma ∷ m2) → IsExpr f m2 (sign r signs.Colon ∷ m3) → IsExpr b m3 (sign s signs.Close ∷ rest)
      → IsPlace (record { at = at; word = w; start = f; form = forms.End; bound = b }) (word at words.Pos ∷ sign p signs.Open ∷ m) rest
  of_length : {at p q r s : Pos} {w f b : ExprTree} {m m2 m3 rest : Toks} → IsExpr w m (sign q signs.Comma ∷ m2) → IsExpr f m2 (sign r signs.Comma ∷ m3) → IsExpr b m3 (sign s signs.Close ∷ rest)
      → IsPlace (record { at = at; word = w; start = f; form = forms.Length; bound = b }) (word at words.Pos ∷ sign p signs.Open ∷ m) rest

-- [pos]
pub data IsFieldPlace : Option PlaceTree → Toks → Toks → Type 0 where
  no_place : {toks : Toks} → IsFieldPlace None toks toks
  with_place : {p : PlaceTree} {toks rest : Toks} → IsPlace p toks rest → IsFieldPlace (Some p) toks rest

-- step = STEP "(" pos "," expr ")"
pub data IsStep : StepTree → Toks → Toks → Type 0 where
  is_step : {at p q r : Pos} {w : PlaceTree} {d : ExprTree} {m m2 rest : Toks} → IsPlace w m (sign q signs.Comma ∷ m2) → IsExpr d m2 (sign r signs.Close ∷ rest)
      → IsStep (record { at = at; place = w; distance = d }) (word at words.Step ∷ sign p signs.Open ∷ m) rest

-- [PACK | NOPACK]
pub data IsPacking : Option Packing → Toks → Toks → Type 0 where
  no_packing : {toks : Toks} → IsPacking None toks toks
  packed : {p : Pos} {rest : Toks} → IsPacking (Some packings.Pack) (word p words.Pack ∷ rest) rest
  not_packed : {p : Pos} {rest : Toks} → IsPacking (Some packings.NoPack) (word p words.NoPack ∷ rest) rest

-- [PACK | NOPACK | step]
pub data IsSpread : Option SpreadTree → Toks → Toks → Type 0 where
  no_spread : {toks : Toks} → IsSpread None toks toks
  spread_packed : {p : Pos} {rest : Toks} → IsSpread (Some (by_packing packings.Pack)) (word p words.Pack ∷ rest) rest
  spread_not_packed : {p : Pos} {rest : Toks} → IsSpread (Some (by_packing packings.NoPack)) (word p words.NoPack ∷ rest) rest
  spread_by_step : {s : StepTree} {toks rest : Toks} → IsStep s toks rest → IsSpread (Some (by_step s)) toks rest

-- whether it is an array with none of the words PACK, NOPACK and STEP
abbrev pub is_bare_array : BaseTree → Bool
is_bare_array (array at i e None) = true
is_bare_array (array at i e (Some s)) = false
is_bare_array (discrete d) = false
is_bare_array (powerset at d) = false
is_bare_array (chars at e) = false
is_bare_array (structure at fs p) = false

-- whether it is an array or a structure with none of these words
abbrev pub is_bare : BaseTree → Bool
is_bare (structure at fs None) = true
is_bare (structure at fs (Some p)) = false
is_bare (array at i e None) = true
is_bare (array at i e (Some s)) = false
is_bare (discrete d) = false
is_bare (powerset at d) = false
is_bare (chars at e) = false

-- A word PACK or NOPACK belongs to the innermost array or structure before it that has none of the words, and a
-- word STEP to the innermost such array: no element of an array with a word could take that word.
abbrev pub leaves_word : BaseTree → Option SpreadTree → Bool
leaves_word e None = true
leaves_word e (Some (by_packing p)) = not (is_bare e)
leaves_word e (Some (by_step s)) = not (is_bare_array e)

-- the number of arrays in direct succession, each the element of the one before
abbrev pub arrays_in : BaseTree → ℕ
arrays_in (array at i e s) = suc (arrays_in e)
arrays_in (discrete d) = 0
arrays_in (powerset at d) = 0
arrays_in (chars at e) = 0
arrays_in (structure at fs p) = 0

mutual
  -- base = discrete | POWERSET discrete | CHARS "(" expr ")" | STRUCT "(" field {"," field} ")" [PACK | NOPACK]
  --      | ARRAY "(" index ")" base [PACK | NOPACK | step]
  pub data IsBase : BaseTree → Toks → Toks → Type 0 where
    is_discrete : {d : DiscreteTree} {toks rest : Toks} → IsDiscrete d toks rest → IsBase (discrete d) toks rest
    is_powerset : {at : Pos} {d : DiscreteTree} {m rest : Toks} → IsDiscrete d m rest → IsBase (powerset at d) (word at words.Powerset ∷ m) rest
    is_chars : {at p q : Pos} {e : ExprTree} {m rest : Toks} → IsExpr e m (sign q signs.Close ∷ rest) → IsBase (chars at e) (word at words.Chars ∷ sign p signs.Open ∷ m) rest
    is_structure : {at p q : Pos} {fs : List FieldTree} {w : Option Packing} {m m2 rest : Toks} → AreFields fs m (sign q signs.Close ∷ m2) → IsPacking w m2 rest → IsBase (structure at (field_nodes fs) w) (word at words.Struct ∷ sign p signs.Open ∷ m) rest
    is_array : {at p q : Pos} {i : IndexTree} {e : BaseTree} {s : Option SpreadTree} {m m2 m3 rest : Toks} → IsIndex i m (sign q signs.Close ∷ m2) → IsBase e m2 m3 → IsSpread s m3 rest → leaves_word e s ≡ true → arrays_in e < 8
        → IsBase (array at i e s) (word at words.Array ∷ sign p signs.Open ∷ m) rest

  -- field {"," field}
  pub data AreFields : List FieldTree → Toks → Toks → Type 0 where
    one_field : {f : FieldTree} {toks rest : Toks} → IsField f toks rest → AreFields (f ∷ []) toks rest
    and_field : {fs : List FieldTree} {f : FieldTree} {p : Pos} {toks m rest : Toks} → AreFields fs toks (sign p signs.Comma ∷ m) → IsField f m rest → AreFields (fs ++ f ∷ []) toks rest

  -- field = names base [pos]
  pub data IsField : FieldTree → Toks → Toks → Type 0 where
    is_field : {ns : List Name} {b : BaseTree} {w : Option PlaceTree} {toks m m2 rest : Toks} → AreNames ns toks m → IsBase b m m2 → IsFieldPlace w m2 rest → IsField (record { names = ns; base = b; place = w }) toks rest

-- mode = [READ] base | EVENT ["(" expr ")"] | BUFFER ["(" expr ")"] base
pub data IsMode : ModeTree → Toks → Toks → Type 0 where
  is_base_mode : {b : BaseTree} {toks rest : Toks} → IsBase b toks rest → IsMode (base_mode b) toks rest
  is_read_mode : {at : Pos} {b : BaseTree} {m rest : Toks} → IsBase b m rest → IsMode (read_mode at b) (word at words.Read ∷ m) rest
  is_event_mode : {at : Pos} {l : Option ExprTree} {m rest : Toks} → IsLength l m rest → IsMode (event_mode at l) (word at words.Event ∷ m) rest
  is_buffer_mode : {at : Pos} {l : Option ExprTree} {b : BaseTree} {m m2 rest : Toks} → IsLength l m m2 → IsBase b m2 rest → IsMode (buffer_mode at l b) (word at words.Buffer ∷ m) rest
