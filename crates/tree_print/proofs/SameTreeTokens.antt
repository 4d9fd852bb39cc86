-- Trees that are the same but for places have the same tokens.
use Rattle.std.proofs.Common.{◌≡◌, List, [], ◌∷◌, ◌++◌, map, Option, Some, None, refl}
use Rattle.std.specs.Prelude.{option_map}
use Rattle.chill_tree.specs.declared.token.Word.TheVariants as words
use Rattle.chill_tree.specs.declared.token.Sign.TheVariants as signs
use Rattle.chill_tree.specs.declared.tree.name.Name.{Name}
use Rattle.chill_tree.specs.ExprTree.{ExprTree, whole, character, text, this_instance, paren, receive, start, tuple, uniform, name, apply, field, prefixed, binary, ExprNodes, no_exprs, more_exprs, RangeTree, alone, between, RangeNodes, no_ranges, more_ranges}
use Rattle.chill_tree.specs.ModeTree.{DiscreteTree, named, bounded, set_of, IndexTree, index_named, index_bounded, PlaceTree, SpreadTree, by_packing, by_step, BaseTree, discrete, powerset, chars, structure, array, FieldNodes, no_fields, more_fields, ModeTree, base_mode, read_mode, event_mode, buffer_mode}
use Rattle.chill_tree.specs.LocalTree.{SynonymTree, ModeDefinitionTree, InitialTree, DeclarationTree, LocalTree, synonyms, syn_modes, new_modes, locations}
use Rattle.rules_model.specs.TreeTokens.{Kinds, word_kinds, sign_kinds, name_kinds, given, after_commas, with_commas, in_parens, names_kinds, operator_kind, prefix_kinds, expr_kinds, exprs_kinds, more_exprs_kinds, range_kinds, ranges_kinds, more_ranges_kinds, length_kinds, discrete_kinds, index_kinds, form_kinds, place_kinds, packing_kinds, spread_kinds, base_kinds, fields_kinds, more_fields_kinds, mode_kinds, synonym_kinds, mode_definition_kinds, flag_kinds, initial_kinds, declaration_kinds, local_kinds}
use Rattle.tree_print.specs.SameTree.{unplaced_name, unplaced_expr, unplaced_exprs, unplaced_range, unplaced_ranges, unplaced_discrete, unplaced_index, unplaced_place, unplaced_spread, unplaced_base, unplaced_fields, unplaced_mode, unplaced_synonym, unplaced_mode_definition, unplaced_initial, unplaced_declaration, unplaced_local}

-- ---- what may be left out, and lists

-- the places of what is there add no tokens, nor do those of each of a list
pub given_alike : {X : Type 0} (ks : X → Kinds) (unplaced : X → X) → ((x : X) → ks (unplaced x) ≡ ks x) → (x : Option X) → given ks (option_map unplaced x) ≡ given ks x
given_alike ks unplaced alike None = refl
given_alike ks unplaced alike (Some x) = alike x

after_alike : {X : Type 0} (ks : X → Kinds) (unplaced : X → X) → ((x : X) → ks (unplaced x) ≡ ks x) → (xs : List X) → after_commas ks (map unplaced xs) ≡ after_commas ks xs
after_alike ks unplaced alike [] = refl
after_alike ks unplaced alike (x ∷ xs) = λ i. sign_kinds signs.Comma ++ alike x i ++ after_alike ks unplaced alike xs i

pub commas_alike : {X : Type 0} (ks : X → Kinds) (unplaced : X → X) → ((x : X) → ks (unplaced x) ≡ ks x) → (xs : List X) → with_commas ks (map unplaced xs) ≡ with_commas ks xs
commas_alike ks unplaced alike [] = refl
commas_alike ks unplaced alike (x ∷ xs) = λ i. alike x i ++ after_alike ks unplaced alike xs i

pub name_alike : (n : Name) → name_kinds (unplaced_name n) ≡ name_kinds n
name_alike n = refl

pub names_alike : (ns : List Name) → names_kinds (map unplaced_name ns) ≡ names_kinds ns
names_alike = commas_alike name_kinds unplaced_name name_alike

pub label_alike : (n : Option Name) → given name_kinds (option_map unplaced_name n) ≡ given name_kinds n
label_alike = given_alike name_kinds unplaced_name name_alike

-- ---- expressions

mutual
  pub expr_alike : (e : ExprTree) → expr_kinds (unplaced_expr e) ≡ expr_kinds e
  expr_alike (whole at n) = refl
  expr_alike (character at n) = refl
  expr_alike (text at s) = refl
  expr_alike (this_instance at) = refl
  expr_alike (paren at e) = λ i. in_parens (expr_alike e i)
  expr_alike (receive at n) = refl
  expr_alike (start at n es) = λ i. word_kinds words.Start ++ name_kinds n ++ in_parens (exprs_alike es i)
  expr_alike (tuple at m b rs) = λ i. label_alike m i ++ sign_kinds signs.OpenBracket ++ ranges_alike rs i ++ sign_kinds signs.CloseBracket
  expr_alike (uniform at m b e) = λ i. label_alike m i ++ sign_kinds signs.OpenBracket ++ in_parens (sign_kinds signs.Times) ++ sign_kinds signs.Colon ++ expr_alike e i ++ sign_kinds signs.CloseBracket
  expr_alike (name n) = refl
  expr_alike (apply at e es) = λ i. expr_alike e i ++ in_parens (exprs_alike es i)
  expr_alike (field at e n) = λ i. expr_alike e i ++ sign_kinds signs.Dot ++ name_kinds n
  expr_alike (prefixed at o e) = λ i. prefix_kinds o ++ expr_alike e i
  expr_alike (binary at l o p r) = λ i. expr_alike l i ++ operator_kind o ∷ expr_alike r i

  exprs_alike : (es : ExprNodes) → exprs_kinds (unplaced_exprs es) ≡ exprs_kinds es
  exprs_alike no_exprs = refl
  exprs_alike (more_exprs e es) = λ i. expr_alike e i ++ more_exprs_alike es i

  more_exprs_alike : (es : ExprNodes) → more_exprs_kinds (unplaced_exprs es) ≡ more_exprs_kinds es
  more_exprs_alike no_exprs = refl
  more_exprs_alike (more_exprs e es) = λ i. sign_kinds signs.Comma ++ expr_alike e i ++ more_exprs_alike es i

  pub range_alike : (r : RangeTree) → range_kinds (unplaced_range r) ≡ range_kinds r
  range_alike (alone e) = expr_alike e
  range_alike (between e f) = λ i. expr_alike e i ++ sign_kinds signs.Colon ++ expr_alike f i

  ranges_alike : (rs : RangeNodes) → ranges_kinds (unplaced_ranges rs) ≡ ranges_kinds rs
  ranges_alike no_ranges = refl
  ranges_alike (more_ranges r rs) = λ i. range_alike r i ++ more_ranges_alike rs i

  more_ranges_alike : (rs : RangeNodes) → more_ranges_kinds (unplaced_ranges rs) ≡ more_ranges_kinds rs
  more_ranges_alike no_ranges = refl
  more_ranges_alike (more_ranges r rs) = λ i. sign_kinds signs.Comma ++ range_alike r i ++ more_ranges_alike rs i

-- ---- modes and definitions

length_alike : (l : Option ExprTree) → length_kinds (option_map unplaced_expr l) ≡ length_kinds l
length_alike = given_alike (λ e. in_parens (expr_kinds e)) unplaced_expr (λ e i. in_parens (expr_alike e i))

discrete_alike : (d : DiscreteTree) → discrete_kinds (unplaced_discrete d) ≡ discrete_kinds d
discrete_alike (named n) = refl
discrete_alike (bounded n l h) = λ i. name_kinds n ++ in_parens (expr_alike l i ++ sign_kinds signs.Colon ++ expr_alike h i)
discrete_alike (set_of at ns) = λ i. word_kinds words.Set ++ in_parens (names_alike ns i)

index_alike : (x : IndexTree) → index_kinds (unplaced_index x) ≡ index_kinds x
index_alike (index_named n) = refl
index_alike (index_bounded l h) = λ i. expr_alike l i ++ sign_kinds signs.Colon ++ expr_alike h i

place_alike : (p : PlaceTree) → place_kinds (unplaced_place p) ≡ place_kinds p
place_alike p = λ i. word_kinds words.Pos ++ in_parens (expr_alike p.word i ++ sign_kinds signs.Comma ++ expr_alike p.start i ++ form_kinds p.form ++ expr_alike p.bound i)

spread_alike : (s : SpreadTree) → spread_kinds (unplaced_spread s) ≡ spread_kinds s
spread_alike (by_packing p) = refl
spread_alike (by_step s) = λ i. word_kinds words.Step ++ in_parens (place_alike s.place i ++ sign_kinds signs.Comma ++ expr_alike s.distance i)

mutual
  base_alike : (b : BaseTree) → base_kinds (unplaced_base b) ≡ base_kinds b
  base_alike (discrete d) = discrete_alike d
  base_alike (powerset at d) = λ i. word_kinds words.Powerset ++ discrete_alike d i
  base_alike (chars at e) = λ i. word_kinds words.Chars ++ in_parens (expr_alike e i)
  base_alike (structure at fs p) = λ i. word_kinds words.Struct ++ in_parens (fields_alike fs i) ++ given packing_kinds p
  base_alike (array at x e s) = λ i. word_kinds words.Array ++ in_parens (index_alike x i) ++ base_alike e i ++ given_alike spread_kinds unplaced_spread spread_alike s i

  fields_alike : (fs : FieldNodes) → fields_kinds (unplaced_fields fs) ≡ fields_kinds fs
  fields_alike no_fields = refl
  fields_alike (more_fields ns b p fs) = λ i. names_alike ns i ++ base_alike b i ++ given_alike place_kinds unplaced_place place_alike p i ++ more_fields_alike fs i

  more_fields_alike : (fs : FieldNodes) → more_fields_kinds (unplaced_fields fs) ≡ more_fields_kinds fs
  more_fields_alike no_fields = refl
  more_fields_alike (more_fields ns b p fs) = λ i. sign_kinds signs.Comma ++ names_alike ns i ++ base_alike b i ++ given_alike place_kinds unplaced_place place_alike p i ++ more_fields_alike fs i

pub mode_alike : (o : ModeTree) → mode_kinds (unplaced_mode o) ≡ mode_kinds o
mode_alike (base_mode b) = base_alike b
mode_alike (read_mode at b) = λ i. word_kinds words.Read ++ base_alike b i
mode_alike (event_mode at l) = λ i. word_kinds words.Event ++ length_alike l i
mode_alike (buffer_mode at l b) = λ i. word_kinds words.Buffer ++ length_alike l i ++ base_alike b i

synonym_alike : (x : SynonymTree) → synonym_kinds (unplaced_synonym x) ≡ synonym_kinds x
synonym_alike x = λ i. names_alike x.names i ++ given_alike mode_kinds unplaced_mode mode_alike x.mode i ++ sign_kinds signs.Equal ++ expr_alike x.value i

mode_definition_alike : (x : ModeDefinitionTree) → mode_definition_kinds (unplaced_mode_definition x) ≡ mode_definition_kinds x
mode_definition_alike x = λ i. name_kinds x.name ++ sign_kinds signs.Equal ++ mode_alike x.mode i

initial_alike : (x : InitialTree) → initial_kinds (unplaced_initial x) ≡ initial_kinds x
initial_alike x = λ i. flag_kinds words.Init x.init ++ sign_kinds signs.Becomes ++ expr_alike x.value i

declaration_alike : (x : DeclarationTree) → declaration_kinds (unplaced_declaration x) ≡ declaration_kinds x
declaration_alike x = λ i. names_alike x.names i ++ mode_alike x.mode i ++ given_alike initial_kinds unplaced_initial initial_alike x.initial i

pub local_alike : (l : LocalTree) → local_kinds (unplaced_local l) ≡ local_kinds l
local_alike (synonyms at xs) = λ i. word_kinds words.Syn ++ commas_alike synonym_kinds unplaced_synonym synonym_alike xs i ++ sign_kinds signs.Semicolon
local_alike (syn_modes at xs) = λ i. word_kinds words.SynMode ++ commas_alike mode_definition_kinds unplaced_mode_definition mode_definition_alike xs i ++ sign_kinds signs.Semicolon
local_alike (new_modes at xs) = λ i. word_kinds words.NewMode ++ commas_alike mode_definition_kinds unplaced_mode_definition mode_definition_alike xs i ++ sign_kinds signs.Semicolon
local_alike (locations at xs) = λ i. word_kinds words.Dcl ++ commas_alike declaration_kinds unplaced_declaration declaration_alike xs i ++ sign_kinds signs.Semicolon
