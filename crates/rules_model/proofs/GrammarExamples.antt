-- Short lists of tokens and their trees: the productions that are easily confused, and what the notes refuse.
use Rattle.std.proofs.Common.{◌≡◌, ℕ, suc, ◌<◌, ◌≤◌, Bool, true, false, List, [], ◌∷◌, Option, Some, None, refl, ap, arith}
use Rattle.chill_base.specs.declared.pos.Pos.{Pos}
use Rattle.chill_tree.specs.declared.token.Word.TheVariants as words
use Rattle.chill_tree.specs.declared.token.Sign.TheVariants as signs
use Rattle.chill_tree.specs.declared.token.TokenKind.TheVariants as kinds
use Rattle.chill_tree.specs.declared.token.Token.{Token}
use Rattle.chill_tree.specs.declared.tree.name.Name.{Name}
use Rattle.chill_tree.specs.declared.tree.item.ModulionKind.TheVariants as modulions
use Rattle.chill_tree.specs.declared.tree.mode.Packing.TheVariants as packings
use Rattle.chill_tree.specs.ExprTree.{ExprTree, whole, tuple, uniform, name, apply, alone, expr_nodes, range_nodes}
use Rattle.chill_tree.specs.ModeTree.{named, bounded, index_named, index_bounded, by_packing, by_step, StepTree, BaseTree, discrete, structure, array, FieldNodes, buffer_mode}
use Rattle.chill_tree.specs.SimpleTree.{stop}
use Rattle.chill_tree.specs.StatementTree.{simple, bracketed, if_then, case_of, statement_nodes, branch_nodes, case_nodes, otherwise_node, handler_node}
use Rattle.rules_model.specs.Marks.{Toks, tok, sign, word, name_token}
use Rattle.rules_model.specs.ExprGrammar.{bare, of_mode, IsNamed, a_name, with_args, some_args, one_expr, and_expr, is_alone, one_range, some_parts, IsOperand, is_whole, is_tuple, is_uniform, is_named, is_plain, is_chain, first, IsExpr, is_location}
use Rattle.rules_model.specs.ListGrammar.{one_of, is_name, no_length, with_length, no_label, IsClosing, left_open, closed_by}
use Rattle.rules_model.specs.ModeGrammar.{is_named_mode, is_bounded, is_index_name, is_index_range, no_spread, spread_packed, leaves_word, arrays_in, IsBase, is_discrete, is_array, IsMode, is_buffer_mode}
use Rattle.rules_model.specs.LocalGrammar.{no_mode, with_mode, IsSynonym, is_synonym}
use Rattle.rules_model.specs.ModeGrammar.{is_base_mode}
use Rattle.chill_tree.specs.ModeTree.{base_mode}
use Rattle.rules_model.specs.SimpleGrammar.{is_stop}
use Rattle.rules_model.specs.StatementGrammar.{handles, IsStatement, is_simple, is_bracketed, no_statements, then_statement, is_if, is_case, no_branches, no_cases, then_case, no_named, no_else, with_else, no_handler, with_handler}
use Rattle.rules_model.specs.ItemGrammar.{is_module, no_items, is_modulion, no_modulions, then_modulion, IsTreeOf, is_tree}
use Rattle.rules_model.proofs.ExprStarts.{named_few}
use Rattle.rules_model.proofs.ModeExact.{arrays_few}

abbrev p : Pos
p = record { line = 1; column = 1 }

abbrev a : Name
a = record { at = p; text = 97 ∷ [] }

abbrev b : Name
b = record { at = p; text = 98 ∷ [] }

abbrev one : Token
one = tok p (kinds.Whole 1)

operand_is : {e : ExprTree} {toks rest : Toks} → IsOperand e toks rest → IsExpr e toks rest
operand_is d = is_chain (first (is_chain (first (is_chain (first (is_chain (first (is_chain (first (is_plain d))))))))))

one_is : {rest : Toks} → IsExpr (whole p 1) (one ∷ rest) rest
one_is = operand_is is_whole

-- ---- calls and locations

-- a(1) may be a location
one_part : IsNamed 1 (apply p (name a) (expr_nodes (whole p 1 ∷ []))) (name_token a ∷ sign p signs.Open ∷ one ∷ sign p signs.Close ∷ []) []
one_part = with_args a_name (some_args (one_expr one_is)) (omega arith)

one_part_location : is_location (apply p (name a) (expr_nodes (whole p 1 ∷ []))) ≡ true
one_part_location = refl

-- a(1, 1) and a() may not
two_parts_location : is_location (apply p (name a) (expr_nodes (whole p 1 ∷ whole p 1 ∷ []))) ≡ false
two_parts_location = refl

no_parts_location : is_location (apply p (name a) (expr_nodes [])) ≡ false
no_parts_location = refl

-- 33 parts are too many
too_many_parts : {e : ExprTree} {toks rest : Toks} → IsNamed 33 e toks rest → ⊥
too_many_parts d = let few = named_few d in omega arith

-- ---- tuples

-- a[1]
mode_tuple : IsExpr (tuple p (Some a) p (range_nodes (alone (whole p 1) ∷ []))) (name_token a ∷ sign p signs.OpenBracket ∷ one ∷ sign p signs.CloseBracket ∷ []) []
mode_tuple = operand_is (is_tuple of_mode (some_parts (one_range (is_alone one_is))))

-- [(*): 1]
uniform_tuple : IsExpr (uniform p None p (whole p 1)) (sign p signs.OpenBracket ∷ sign p signs.Open ∷ sign p signs.Times ∷ sign p signs.Close ∷ sign p signs.Colon ∷ one ∷ sign p signs.CloseBracket ∷ []) []
uniform_tuple = operand_is (is_uniform bare one_is)

-- ---- modes

-- ARRAY (a) b
named_index : IsBase (array p (index_named a) (discrete (named b)) None) (word p words.Array ∷ sign p signs.Open ∷ name_token a ∷ sign p signs.Close ∷ name_token b ∷ []) []
named_index = is_array is_index_name (is_discrete is_named_mode) no_spread refl (omega arith)

-- ARRAY (a : 1) b
bounded_index : IsBase (array p (index_bounded (name a) (whole p 1)) (discrete (named b)) None) (word p words.Array ∷ sign p signs.Open ∷ name_token a ∷ sign p signs.Colon ∷ one ∷ sign p signs.Close ∷ name_token b ∷ []) []
bounded_index = is_array (is_index_range (operand_is (is_named a_name)) one_is) (is_discrete is_named_mode) no_spread refl (omega arith)

-- BUFFER (1) a
long_buffer : IsMode (buffer_mode p (Some (whole p 1)) (discrete (named a))) (word p words.Buffer ∷ sign p signs.Open ∷ one ∷ sign p signs.Close ∷ name_token a ∷ []) []
long_buffer = is_buffer_mode (with_length one_is) (is_discrete is_named_mode)

-- BUFFER a (1 : 1)
range_buffer : IsMode (buffer_mode p None (discrete (bounded a (whole p 1) (whole p 1)))) (word p words.Buffer ∷ name_token a ∷ sign p signs.Open ∷ one ∷ sign p signs.Colon ∷ one ∷ sign p signs.Close ∷ []) []
range_buffer = is_buffer_mode no_length (is_discrete (is_bounded one_is one_is))

-- ARRAY (a) ARRAY (a) b PACK: the inner array is packed
inner_packed : IsBase (array p (index_named a) (array p (index_named a) (discrete (named b)) (Some (by_packing packings.Pack))) None)
    (word p words.Array ∷ sign p signs.Open ∷ name_token a ∷ sign p signs.Close ∷ word p words.Array ∷ sign p signs.Open ∷ name_token a ∷ sign p signs.Close ∷ name_token b ∷ word p words.Pack ∷ []) []
inner_packed = is_array is_index_name (is_array is_index_name (is_discrete is_named_mode) spread_packed refl (omega arith)) no_spread refl (omega arith)

-- and the outer one isn't
outer_not_packed : leaves_word (array p (index_named a) (discrete (named b)) None) (Some (by_packing packings.Pack)) ≡ false
outer_not_packed = refl

-- PACK behind a structure without a word is the structure's, a STEP there the array's
structure_takes_pack : (fs : FieldNodes) → leaves_word (structure p fs None) (Some (by_packing packings.Pack)) ≡ false
structure_takes_pack fs = refl

structure_leaves_step : (fs : FieldNodes) (s : StepTree) → leaves_word (structure p fs None) (Some (by_step s)) ≡ true
structure_leaves_step fs s = refl

-- a STEP behind a nested array without a word is the inner array's
inner_takes_step : (s : StepTree) → leaves_word (array p (index_named a) (discrete (named b)) None) (Some (by_step s)) ≡ false
inner_takes_step s = refl

-- 9 arrays in succession are too many
too_many_arrays : {x : BaseTree} {toks rest : Toks} → arrays_in x ≡ 9 → IsBase x toks rest → ⊥
too_many_arrays e d = let few = arrays_few d in omega arith

-- ---- synonyms

-- a = 1
bare_synonym : IsSynonym (record { names = a ∷ []; mode = None; value = whole p 1 }) (name_token a ∷ sign p signs.Equal ∷ one ∷ []) []
bare_synonym = is_synonym (one_of is_name) no_mode one_is

-- a b = 1
mode_synonym : IsSynonym (record { names = a ∷ []; mode = Some (base_mode (discrete (named b))); value = whole p 1 }) (name_token a ∷ name_token b ∷ sign p signs.Equal ∷ one ∷ []) []
mode_synonym = is_synonym (one_of is_name) (with_mode (is_base_mode (is_discrete is_named_mode))) one_is

-- ---- statements

-- STOP ON ELSE END ;
handled : IsStatement (simple p (stop p) (handler_node (Some (record { at = p; alternatives = []; otherwise_part = Some [] })))) (word p words.Stop ∷ word p words.On ∷ word p words.Else ∷ word p words.End ∷ sign p signs.Semicolon ∷ []) []
handled = is_simple is_stop (with_handler no_named (with_else no_statements) refl)

-- a handler with nothing in it is none
empty_handler : handles [] None ≡ false
empty_handler = refl

-- IF 1 THEN CASE 1 OF (1): ELSE ESAC; ELSE FI;  has an ELSE for each
two_elses : IsStatement
    (bracketed p None (if_then p (whole p 1) (statement_nodes (bracketed p None (case_of p (whole p 1) (case_nodes (record { at = p; labels = alone (whole p 1) ∷ []; actions = [] } ∷ [])) (otherwise_node (Some []))) (handler_node None) None ∷ [])) (branch_nodes []) (otherwise_node (Some []))) (handler_node None) None)
    (word p words.If ∷ one ∷ word p words.Then ∷ word p words.Case ∷ one ∷ word p words.Of ∷ sign p signs.Open ∷ one ∷ sign p signs.Close ∷ sign p signs.Colon ∷ word p words.Else ∷ word p words.Esac ∷ sign p signs.Semicolon ∷ word p words.Else ∷ word p words.Fi ∷ sign p signs.Semicolon ∷ []) []
two_elses =
    is_bracketed no_label
    (is_if one_is
    (then_statement no_statements (is_bracketed no_label (is_case one_is (then_case no_cases (one_range (is_alone one_is)) no_statements) (omega arith) (with_else no_statements)) no_handler left_open))
    no_branches (with_else no_statements))
    no_handler left_open

-- ---- names at an end

-- a: MODULE END a;
closed_module : IsTreeOf (name_token a ∷ sign p signs.Colon ∷ word p words.Module ∷ word p words.End ∷ name_token a ∷ sign p signs.Semicolon ∷ []) (record { modulions = record { name = a; kind = modulions.Module; items = []; handler = None; closing = Some a } ∷ [] })
closed_module = is_tree (then_modulion no_modulions (is_modulion is_module no_items no_handler (closed_by refl))) (omega arith)

abbrev first_byte : List ℕ → ℕ
first_byte [] = 0
first_byte (x ∷ xs) = x

-- another name is none
other_closing : {toks rest : Toks} → IsClosing (Some a) (Some b) toks rest → ⊥
other_closing (closed_by e) = let k : first_byte (98 ∷ []) ≡ first_byte (97 ∷ []) = ap first_byte e in omega (arith, k)

-- nor is there one where nothing has a label
unlabelled_closing : {toks rest : Toks} → IsClosing None (Some b) toks rest → ⊥
unlabelled_closing d = elim d [ ]
