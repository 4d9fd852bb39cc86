-- What is a definition is read as that definition.
use Rattle.std.proofs.Common.{◌≡◌, ℕ, suc, ◌<◌, ◌≤◌, true, false, List, ◌∷◌, length, Option, Some, None, Ok, refl, arith}
use Rattle.chill_base.specs.declared.pos.Pos.{Pos}
use Rattle.chill_tree.specs.declared.token.Word.TheVariants as words
use Rattle.chill_tree.specs.declared.token.Sign.TheVariants as signs
use Rattle.chill_tree.specs.declared.tree.name.Name.{Name}
use Rattle.chill_tree.specs.ExprTree.{ExprTree}
use Rattle.chill_tree.specs.ModeTree.{ModeTree}
use Rattle.chill_tree.specs.LocalTree.{SynonymTree, ModeDefinitionTree, InitialTree, DeclarationTree, LocalTree, synonyms, syn_modes, new_modes, locations}
use Rattle.rules_model.specs.Marks.{Toks, sign, word, name_token, begins, begins_with}
use Rattle.rules_model.specs.LocalGrammar.{IsWrittenMode, no_mode, with_mode, IsSynonym, is_synonym, IsModeDefinition, is_mode_definition, IsInitial, no_initial, by_sign, by_word, IsDeclaration, is_declaration, IsLocal, are_synonyms, are_syn_modes, are_new_modes, are_locations}
use Rattle.rules_model.specs.Nesting.{StaysBelow}
use Rattle.rules_model.specs.Reading.{sign_at, word_at, name_at, listed_at}
use Rattle.rules_model.specs.ModeReading.{value_at, mode_at, written_mode_at, synonym_at, mode_definition_at, initial_at, declaration_at, local_at}
use Rattle.rules_model.proofs.ExprStarts.{ranked_shrinks}
use Rattle.rules_model.proofs.ExprStops.{Stops}
use Rattle.rules_model.proofs.ListExact.{Exact, Shrinks, listed_shrinks, exact_listed, exact_names, names_shrink}
use Rattle.rules_model.proofs.ModeExact.{EndsAll, exact_value, exact_mode, mode_shrinks, mode_first}

-- ---- synonyms

no_written : (n : ℕ) (p : Pos) (m : Toks) → written_mode_at n (sign p signs.Equal ∷ m) ≡ Ok (None, sign p signs.Equal ∷ m)
unfolding written_mode_at
no_written n p m = refl

a_written : (n : ℕ) (x : ModeTree) (toks rest : Toks) → begins signs.Equal toks ≡ false → mode_at n toks ≡ Ok (x, rest) → written_mode_at n toks ≡ Ok (Some x, rest)
unfolding written_mode_at
a_written n x toks rest b h = rw (b, h) refl

exact_written : {o : Option ModeTree} {p : Pos} {toks m : Toks} → IsWrittenMode o toks (sign p signs.Equal ∷ m) → (n : ℕ) → StaysBelow (suc n) toks → (written_mode_at n toks ≡ Ok (o, sign p signs.Equal ∷ m)) × StaysBelow (suc n) (sign p signs.Equal ∷ m)
exact_written {p = p} {m = m} no_mode n below = (no_written n p m, below)
exact_written {p = p} {m = m} (with_mode {m = x} {toks = toks} d) n below =
    let h = exact_mode d n below (record { open_sign = refl; pack = refl; no_pack = refl; step = refl }) in
    (a_written n x toks (sign p signs.Equal ∷ m) (mode_first d).0 h.0, h.1)

written_comma : {o : Option ModeTree} {p : Pos} {toks m : Toks} → IsWrittenMode o toks (sign p signs.Equal ∷ m) → begins signs.Comma toks ≡ false
written_comma no_mode = refl
written_comma (with_mode d) = (mode_first d).1

written_shrinks : {o : Option ModeTree} {toks rest : Toks} → IsWrittenMode o toks rest → length rest ≤ length toks
written_shrinks no_mode = omega arith
written_shrinks (with_mode d) = omega (arith, mode_shrinks d)

a_synonym : (n : ℕ) (ns : List Name) (o : Option ModeTree) (e : ExprTree) (p : Pos) (toks m m2 rest : Toks) → listed_at name_at toks ≡ Ok (ns, m) → written_mode_at n m ≡ Ok (o, sign p signs.Equal ∷ m2) → value_at n m2 ≡ Ok (e, rest)
    → synonym_at n toks ≡ Ok (record { names = ns; mode = o; value = e }, rest)
unfolding synonym_at sign_at
a_synonym n ns o e p toks m m2 rest hn ho he = rw (hn, ho, he) refl

exact_synonym : (n : ℕ) → Exact IsSynonym (synonym_at n) (suc n) (Stops 5)
exact_synonym n x toks rest (is_synonym {ns = ns} {o = o} {e = e} {p = p} {m = m} {m2 = m2} dn do' de) below ends =
    let xn = exact_names dn (suc n) below (written_comma do') in
    let xo = exact_written do' n xn.1 in
    let xe = exact_value de n xo.1.1 ends in
    (a_synonym n ns o e p toks m m2 rest xn.0 xo.0 xe.0, xe.1)

synonym_shrinks : Shrinks IsSynonym
synonym_shrinks x toks rest (is_synonym ns o e) = omega (arith, names_shrink ns, written_shrinks o, ranked_shrinks e)

-- ---- modes

a_mode_definition : (n : ℕ) (x : Name) (o : ModeTree) (p : Pos) (m rest : Toks) → mode_at n m ≡ Ok (o, rest) → mode_definition_at n (name_token x ∷ sign p signs.Equal ∷ m) ≡ Ok (record { name = x; mode = o }, rest)
unfolding mode_definition_at name_at sign_at
a_mode_definition n x o p m rest h = rw h refl

exact_mode_definition : (n : ℕ) → Exact IsModeDefinition (mode_definition_at n) (suc n) EndsAll
exact_mode_definition n x toks rest (is_mode_definition {n = y} {o = o} {p = p} {m = m} d) below ends =
    let h = exact_mode d n below.1.1 ends in
    (a_mode_definition n y o p m rest h.0, h.1)

mode_definition_shrinks : Shrinks IsModeDefinition
mode_definition_shrinks x toks rest (is_mode_definition d) = omega (arith, mode_shrinks d)

-- ---- locations

-- what a declaration does not go on with
pub record EndsDeclaration (toks : Toks) : Type 0 where
  pub mode_ends : EndsAll toks
  pub becomes : begins signs.Becomes toks ≡ false
  pub init : begins_with words.Init toks ≡ false
  pub value_ends : Stops 5 toks

initial_by_sign : (n : ℕ) (at : Pos) (e : ExprTree) (m rest : Toks) → value_at n m ≡ Ok (e, rest) → initial_at n (sign at signs.Becomes ∷ m) ≡ Ok (Some (record { at = at; init = false; value = e }), rest)
unfolding initial_at sign_at
initial_by_sign n at e m rest h = rw h refl

initial_by_word : (n : ℕ) (at p : Pos) (e : ExprTree) (m rest : Toks) → value_at n m ≡ Ok (e, rest) → initial_at n (word at words.Init ∷ sign p signs.Becomes ∷ m) ≡ Ok (Some (record { at = at; init = true; value = e }), rest)
unfolding initial_at sign_at word_at
initial_by_word n at p e m rest h = rw h refl

initial_none : (n : ℕ) (toks : Toks) → begins signs.Becomes toks ≡ false → begins_with words.Init toks ≡ false → initial_at n toks ≡ Ok (None, toks)
unfolding initial_at
initial_none n toks b i = rw (b, i) refl

exact_initial : {i : Option InitialTree} {toks rest : Toks} → IsInitial i toks rest → (n : ℕ) → StaysBelow (suc n) toks → EndsDeclaration rest → (initial_at n toks ≡ Ok (i, rest)) × StaysBelow (suc n) rest
exact_initial (no_initial {toks = toks}) n below ends = (initial_none n toks ends.becomes ends.init, below)
exact_initial (by_sign {at = at} {e = e} {m = m} {rest = rest} d) n below ends = let h = exact_value d n below.1 ends.value_ends in (initial_by_sign n at e m rest h.0, h.1)
exact_initial (by_word {at = at} {p = p} {e = e} {m = m} {rest = rest} d) n below ends = let h = exact_value d n below.1.1 ends.value_ends in (initial_by_word n at p e m rest h.0, h.1)

initial_ends : {i : Option InitialTree} {toks rest : Toks} → IsInitial i toks rest → EndsDeclaration rest → EndsAll toks
initial_ends no_initial ends = ends.mode_ends
initial_ends (by_sign d) ends = record { open_sign = refl; pack = refl; no_pack = refl; step = refl }
initial_ends (by_word d) ends = record { open_sign = refl; pack = refl; no_pack = refl; step = refl }

initial_shrinks : {i : Option InitialTree} {toks rest : Toks} → IsInitial i toks rest → length rest ≤ length toks
initial_shrinks no_initial = omega arith
initial_shrinks (by_sign d) = omega (arith, ranked_shrinks d)
initial_shrinks (by_word d) = omega (arith, ranked_shrinks d)

a_declaration : (n : ℕ) (ns : List Name) (o : ModeTree) (i : Option InitialTree) (toks m m2 rest : Toks) → listed_at name_at toks ≡ Ok (ns, m) → mode_at n m ≡ Ok (o, m2) → initial_at n m2 ≡ Ok (i, rest)
    → declaration_at n toks ≡ Ok (record { names = ns; mode = o; initial = i }, rest)
unfolding declaration_at
a_declaration n ns o i toks m m2 rest hn ho hi = rw (hn, ho, hi) refl

exact_declaration : (n : ℕ) → Exact IsDeclaration (declaration_at n) (suc n) EndsDeclaration
exact_declaration n x toks rest (is_declaration {ns = ns} {o = o} {i = i} {m = m} {m2 = m2} dn do' di) below ends =
    let xn = exact_names dn (suc n) below (mode_first do').1 in
    let xo = exact_mode do' n xn.1 (initial_ends di ends) in
    let xi = exact_initial di n xo.1 ends in
    (a_declaration n ns o i toks m m2 rest xn.0 xo.0 xi.0, xi.1)

declaration_shrinks : Shrinks IsDeclaration
declaration_shrinks x toks rest (is_declaration ns o i) = omega (arith, names_shrink ns, mode_shrinks o, initial_shrinks i)

-- ---- definition statements

the_synonyms : (n : ℕ) (at p : Pos) (xs : List SynonymTree) (m rest : Toks) → listed_at (synonym_at n) m ≡ Ok (xs, sign p signs.Semicolon ∷ rest) → local_at n (word at words.Syn ∷ m) ≡ Ok (synonyms at xs, rest)
unfolding local_at word_at sign_at
the_synonyms n at p xs m rest h = rw h refl

the_syn_modes : (n : ℕ) (at p : Pos) (xs : List ModeDefinitionTree) (m rest : Toks) → listed_at (mode_definition_at n) m ≡ Ok (xs, sign p signs.Semicolon ∷ rest) → local_at n (word at words.SynMode ∷ m) ≡ Ok (syn_modes at xs, rest)
unfolding local_at word_at sign_at
the_syn_modes n at p xs m rest h = rw h refl

the_new_modes : (n : ℕ) (at p : Pos) (xs : List ModeDefinitionTree) (m rest : Toks) → listed_at (mode_definition_at n) m ≡ Ok (xs, sign p signs.Semicolon ∷ rest) → local_at n (word at words.NewMode ∷ m) ≡ Ok (new_modes at xs, rest)
unfolding local_at word_at sign_at
the_new_modes n at p xs m rest h = rw h refl

the_locations : (n : ℕ) (at p : Pos) (xs : List DeclarationTree) (m rest : Toks) → listed_at (declaration_at n) m ≡ Ok (xs, sign p signs.Semicolon ∷ rest) → local_at n (word at words.Dcl ∷ m) ≡ Ok (locations at xs, rest)
unfolding local_at word_at sign_at
the_locations n at p xs m rest h = rw h refl

pub exact_local : {l : LocalTree} {toks rest : Toks} → IsLocal l toks rest → (n : ℕ) → StaysBelow (suc n) toks → (local_at n toks ≡ Ok (l, rest)) × StaysBelow (suc n) rest
exact_local (are_synonyms {at = at} {p = p} {ss = xs} {m = m} {rest = rest} d) n below =
    let h = exact_listed (synonym_at n) (suc n) (Stops 5) synonym_shrinks (exact_synonym n) (λ q k. (refl, refl, refl, tt)) d below.1 (refl, refl, refl, tt) refl in
    (the_synonyms n at p xs m rest h.0, h.1.1)
exact_local (are_syn_modes {at = at} {p = p} {ds = xs} {m = m} {rest = rest} d) n below =
    let h = exact_listed (mode_definition_at n) (suc n) EndsAll mode_definition_shrinks (exact_mode_definition n) (λ q k. record { open_sign = refl; pack = refl; no_pack = refl; step = refl }) d below.1 (record { open_sign = refl; pack = refl; no_pack = refl; step = refl }) refl in
    (the_syn_modes n at p xs m rest h.0, h.1.1)
exact_local (are_new_modes {at = at} {p = p} {ds = xs} {m = m} {rest = rest} d) n below =
    let h = exact_listed (mode_definition_at n) (suc n) EndsAll mode_definition_shrinks (exact_mode_definition n) (λ q k. record { open_sign = refl; pack = refl; no_pack = refl; step = refl }) d below.1 (record { open_sign = refl; pack = refl; no_pack = refl; step = refl }) refl in
    (the_new_modes n at p xs m rest h.0, h.1.1)
exact_local (are_locations {at = at} {p = p} {ds = xs} {m = m} {rest = rest} d) n below =
    let h = exact_listed (declaration_at n) (suc n) EndsDeclaration declaration_shrinks (exact_declaration n)
    (λ q k. record { mode_ends = record { open_sign = refl; pack = refl; no_pack = refl; step = refl }; becomes = refl; init = refl; value_ends = (refl, refl, refl, tt) })
    d below.1 (record { mode_ends = record { open_sign = refl; pack = refl; no_pack = refl; step = refl }; becomes = refl; init = refl; value_ends = (refl, refl, refl, tt) }) refl in
    (the_locations n at p xs m rest h.0, h.1.1)

pub local_shrinks : {l : LocalTree} {toks rest : Toks} → IsLocal l toks rest → length rest < length toks
local_shrinks (are_synonyms d) = omega (arith, listed_shrinks synonym_shrinks d)
local_shrinks (are_syn_modes d) = omega (arith, listed_shrinks mode_definition_shrinks d)
local_shrinks (are_new_modes d) = omega (arith, listed_shrinks mode_definition_shrinks d)
local_shrinks (are_locations d) = omega (arith, listed_shrinks declaration_shrinks d)
