-- Reading modes and definitions from the front.
use Rattle.std.specs.Prelude.{ℕ, zero, suc, true, false, List, Option, Some, None, Ok, Err, if◌then◌else◌}
use Rattle.chill_base.specs.declared.pos.Pos.{Pos}
use Rattle.chill_tree.specs.declared.token.Word.TheVariants as words
use Rattle.chill_tree.specs.declared.token.Sign.TheVariants as signs
use Rattle.chill_tree.specs.declared.tree.name.Name.{Name}
use Rattle.chill_tree.specs.declared.tree.mode.Packing.{Packing}
use Rattle.chill_tree.specs.declared.tree.mode.Packing.TheVariants as packings
use Rattle.chill_tree.specs.declared.tree.mode.PlaceForm.TheVariants as forms
use Rattle.chill_tree.specs.ExprTree.{ExprTree, name_in}
use Rattle.chill_tree.specs.ModeTree.{DiscreteTree, named, bounded, set_of, IndexTree, index_named, index_bounded, PlaceTree, StepTree, SpreadTree, by_packing, by_step, BaseTree, discrete, powerset, chars, structure, array, FieldTree, field_nodes, ModeTree, base_mode, read_mode, event_mode, buffer_mode}
use Rattle.chill_tree.specs.LocalTree.{SynonymTree, ModeDefinitionTree, InitialTree, DeclarationTree, LocalTree, synonyms, syn_modes, new_modes, locations}
use Rattle.rules_model.specs.declared.extent.Extent.TheVariants as extents
use Rattle.rules_model.specs.Marks.{Toks, begins, begins_with, front}
use Rattle.rules_model.specs.Nesting.{less}
use Rattle.rules_model.specs.Reading.{Deep, Absent, Read, ◌>>=◌, chosen, sign_at, word_at, name_at, listed_at}
use Rattle.rules_model.specs.ExprReading.{ranked_at, expr_at}

-- In what follows n is the number of levels of nesting that are left behind an opening token.

-- an expression that no opening token stands before
abbrev pub value_at : ℕ → Toks → Read ExprTree
value_at n toks = ranked_at extents.Whole n (expr_at n) 5 toks

-- a length in its brackets, if the bracket is there
unfoldable pub length_at : ℕ → Toks → Read (Option ExprTree)
length_at n toks =
    if begins signs.Open toks then (sign_at signs.Open toks >>= λ p. expr_at n p.0 p.1 >>= λ e. sign_at signs.Close e.1 >>= λ c. Ok (Some e.0, c.1)) else Ok (None, toks)

unfoldable pub set_at : Toks → Read DiscreteTree
set_at toks = word_at words.Set toks >>= λ w. sign_at signs.Open w.1 >>= λ p. listed_at name_at p.1 >>= λ ns. sign_at signs.Close ns.1 >>= λ c. Ok (set_of w.0 ns.0, c.1)

unfoldable pub bounds_at : ℕ → Name → Toks → Read DiscreteTree
bounds_at n x toks =
    sign_at signs.Open toks >>= λ p. expr_at n p.0 p.1 >>= λ l. sign_at signs.Colon l.1 >>= λ c. expr_at n p.0 c.1 >>= λ h. sign_at signs.Close h.1 >>= λ d. Ok (bounded x l.0 h.0, d.1)

unfoldable pub discrete_at : ℕ → Toks → Read DiscreteTree
discrete_at n toks =
    if begins_with words.Set toks then set_at toks else (name_at toks >>= λ x. if begins signs.Open x.1 then bounds_at n x.0 x.1 else Ok (named x.0, x.1))

-- an index that is one expression has to be a name
abbrev pub index_of : ExprTree → Toks → Read IndexTree
index_of t toks = chosen (name_in t) (Err (Absent (front toks))) (λ x. Ok (index_named x, toks))

unfoldable pub index_at : ℕ → Pos → Toks → Read IndexTree
index_at n p toks =
    expr_at n p toks >>= λ l. if begins signs.Colon l.1 then (sign_at signs.Colon l.1 >>= λ c. expr_at n p c.1 >>= λ h. Ok (index_bounded l.0 h.0, h.1)) else index_of l.0 l.1

-- the end of a place, behind its start
unfoldable pub place_end_at : ℕ → Pos → Pos → ExprTree → ExprTree → Toks → Read PlaceTree
place_end_at n at p w f toks =
    if begins signs.Colon toks then (sign_at signs.Colon toks >>= λ c. expr_at n p c.1 >>= λ b. sign_at signs.Close b.1 >>= λ d. Ok (record { at = at; word = w; start = f; form = forms.End; bound = b.0 }, d.1))
    else (sign_at signs.Comma toks >>= λ c. expr_at n p c.1 >>= λ b. sign_at signs.Close b.1 >>= λ d. Ok (record { at = at; word = w; start = f; form = forms.Length; bound = b.0 }, d.1))

unfoldable pub place_at : ℕ → Toks → Read PlaceTree
place_at n toks =
    word_at words.Pos toks >>= λ w. sign_at signs.Open w.1 >>= λ p. expr_at n p.0 p.1 >>= λ i. sign_at signs.Comma i.1 >>= λ c. expr_at n p.0 c.1 >>= λ f. place_end_at n w.0 p.0 i.0 f.0 f.1

unfoldable pub field_place_at : ℕ → Toks → Read (Option PlaceTree)
field_place_at n toks = if begins_with words.Pos toks then (place_at n toks >>= λ p. Ok (Some p.0, p.1)) else Ok (None, toks)

unfoldable pub step_at : ℕ → Toks → Read StepTree
step_at n toks =
    word_at words.Step toks >>= λ w. sign_at signs.Open w.1 >>= λ p. place_at (less n) p.1 >>= λ i. sign_at signs.Comma i.1 >>= λ c. expr_at n p.0 c.1 >>= λ d. sign_at signs.Close d.1 >>= λ e. Ok (record { at = w.0; place = i.0; distance = d.0 }, e.1)

unfoldable pub packing_at : Toks → Read (Option Packing)
packing_at toks =
    if begins_with words.Pack toks then (word_at words.Pack toks >>= λ w. Ok (Some packings.Pack, w.1))
    else if begins_with words.NoPack toks then (word_at words.NoPack toks >>= λ w. Ok (Some packings.NoPack, w.1))
    else Ok (None, toks)

unfoldable pub spread_at : ℕ → Toks → Read (Option SpreadTree)
spread_at n toks =
    if begins_with words.Pack toks then (word_at words.Pack toks >>= λ w. Ok (Some (by_packing packings.Pack), w.1))
    else if begins_with words.NoPack toks then (word_at words.NoPack toks >>= λ w. Ok (Some (by_packing packings.NoPack), w.1))
    else if begins_with words.Step toks then (step_at n toks >>= λ s. Ok (Some (by_step s.0), s.1))
    else Ok (None, toks)

-- reads the fields in what opened at the place
abbrev pub Fields : Type 0
Fields = Pos → Toks → Read (List FieldTree)

-- a mode of values that is no array
unfoldable pub plain_base_at : ℕ → Fields → Toks → Read BaseTree
plain_base_at n fields toks =
    if begins_with words.Powerset toks then (word_at words.Powerset toks >>= λ w. discrete_at n w.1 >>= λ d. Ok (powerset w.0 d.0, d.1))
    else if begins_with words.Chars toks then (word_at words.Chars toks >>= λ w. sign_at signs.Open w.1 >>= λ p. expr_at n p.0 p.1 >>= λ e. sign_at signs.Close e.1 >>= λ c. Ok (chars w.0 e.0, c.1))
    else if begins_with words.Struct toks then (word_at words.Struct toks >>= λ w. sign_at signs.Open w.1 >>= λ p. fields p.0 p.1 >>= λ fs. sign_at signs.Close fs.1 >>= λ c. packing_at c.1 >>= λ k. Ok (structure w.0 (field_nodes fs.0) k.0, k.1))
    else (discrete_at n toks >>= λ d. Ok (discrete d.0, d.1))

-- a mode of values with at most so many arrays in direct succession
unfoldable pub arrays_at : ℕ → Fields → ℕ → Toks → Read BaseTree
arrays_at n fields zero toks = if begins_with words.Array toks then Err (Absent (front toks)) else plain_base_at n fields toks
arrays_at n fields (suc k) toks =
    if begins_with words.Array toks then (word_at words.Array toks >>= λ w. sign_at signs.Open w.1 >>= λ p. index_at n p.0 p.1 >>= λ i. sign_at signs.Close i.1 >>= λ c. arrays_at n fields k c.1 >>= λ e. spread_at n e.1 >>= λ s. Ok (array w.0 i.0 e.0 s.0, s.1))
    else plain_base_at n fields toks

unfoldable pub one_field_at : ℕ → (Toks → Read BaseTree) → Toks → Read FieldTree
one_field_at n base toks = listed_at name_at toks >>= λ ns. base ns.1 >>= λ b. field_place_at n b.1 >>= λ p. Ok (record { names = ns.0; base = b.0; place = p.0 }, p.1)

unfoldable pub fields_at : ℕ → Fields
fields_at zero p toks = Err (Deep p)
fields_at (suc n) p toks = listed_at (one_field_at n (arrays_at n (fields_at n) 8)) toks

abbrev pub base_at : ℕ → Toks → Read BaseTree
base_at n toks = arrays_at n (fields_at n) 8 toks

unfoldable pub mode_at : ℕ → Toks → Read ModeTree
mode_at n toks =
    if begins_with words.Read toks then (word_at words.Read toks >>= λ w. base_at n w.1 >>= λ b. Ok (read_mode w.0 b.0, b.1))
    else if begins_with words.Event toks then (word_at words.Event toks >>= λ w. length_at n w.1 >>= λ l. Ok (event_mode w.0 l.0, l.1))
    else if begins_with words.Buffer toks then (word_at words.Buffer toks >>= λ w. length_at n w.1 >>= λ l. base_at n l.1 >>= λ b. Ok (buffer_mode w.0 l.0 b.0, b.1))
    else (base_at n toks >>= λ b. Ok (base_mode b.0, b.1))

-- ---- definitions

unfoldable pub written_mode_at : ℕ → Toks → Read (Option ModeTree)
written_mode_at n toks = if begins signs.Equal toks then Ok (None, toks) else (mode_at n toks >>= λ m. Ok (Some m.0, m.1))

unfoldable pub synonym_at : ℕ → Toks → Read SynonymTree
synonym_at n toks = listed_at name_at toks >>= λ ns. written_mode_at n ns.1 >>= λ o. sign_at signs.Equal o.1 >>= λ p. value_at n p.1 >>= λ e. Ok (record { names = ns.0; mode = o.0; value = e.0 }, e.1)

unfoldable pub mode_definition_at : ℕ → Toks → Read ModeDefinitionTree
mode_definition_at n toks = name_at toks >>= λ x. sign_at signs.Equal x.1 >>= λ p. mode_at n p.1 >>= λ m. Ok (record { name = x.0; mode = m.0 }, m.1)

unfoldable pub initial_at : ℕ → Toks → Read (Option InitialTree)
initial_at n toks =
    if begins signs.Becomes toks then (sign_at signs.Becomes toks >>= λ p. value_at n p.1 >>= λ e. Ok (Some (record { at = p.0; init = false; value = e.0 }), e.1))
    else if begins_with words.Init toks then (word_at words.Init toks >>= λ w. sign_at signs.Becomes w.1 >>= λ p. value_at n p.1 >>= λ e. Ok (Some (record { at = w.0; init = true; value = e.0 }), e.1))
    else Ok (None, toks)

unfoldable pub declaration_at : ℕ → Toks → Read DeclarationTree
declaration_at n toks = listed_at name_at toks >>= λ ns. mode_at n ns.1 >>= λ m. initial_at n m.1 >>= λ i. Ok (record { names = ns.0; mode = m.0; initial = i.0 }, i.1)

unfoldable pub local_at : ℕ → Toks → Read LocalTree
local_at n toks =
    if begins_with words.Syn toks then (word_at words.Syn toks >>= λ w. listed_at (synonym_at n) w.1 >>= λ xs. sign_at signs.Semicolon xs.1 >>= λ c. Ok (synonyms w.0 xs.0, c.1))
    else if begins_with words.SynMode toks then (word_at words.SynMode toks >>= λ w. listed_at (mode_definition_at n) w.1 >>= λ xs. sign_at signs.Semicolon xs.1 >>= λ c. Ok (syn_modes w.0 xs.0, c.1))
    else if begins_with words.NewMode toks then (word_at words.NewMode toks >>= λ w. listed_at (mode_definition_at n) w.1 >>= λ xs. sign_at signs.Semicolon xs.1 >>= λ c. Ok (new_modes w.0 xs.0, c.1))
    else (word_at words.Dcl toks >>= λ w. listed_at (declaration_at n) w.1 >>= λ xs. sign_at signs.Semicolon xs.1 >>= λ c. Ok (locations w.0 xs.0, c.1))
