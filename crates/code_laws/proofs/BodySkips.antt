-- Declarations without a value with which a body begins: its first store has their values already.
use Rattle.std.proofs.Common.{◌≡◌, ℕ, zero, suc, ◌≤◌, true, false, List, [], ◌∷◌, ℤ, length, Option, Some, slice_get, slice_set, slice_index_or, refl, sym, ap, ◌∙◌, arith}
use Rattle.std.specs.Prelude.{All}
use Rattle.std.proofs.lemmas.List.Elements.{All-head, All-tail}
use Rattle.world_model.specs.Session.{Session}
use Rattle.modes.specs.ModeTree.{ModeTree}
use Rattle.modes.specs.Scalars.{lowest_of}
use Rattle.checked_program.specs.declared.program.Parameter.{Parameter}
use Rattle.program_trees.specs.ProgramTree.{LocalRowTree}
use Rattle.program_trees.specs.StatementTree.{statement, set_lowest, StatementNodes, no_statements, more_statements}
use Rattle.source_meaning.specs.Store.{Store, Taken, local_value, with_local, first_locals, first_store}
use Rattle.source_meaning.specs.ExprMeaning.{Setting}
use Rattle.source_meaning.specs.StatementMeaning.{set_locals, statements_mean}
use Rattle.source_meaning.specs.TypedStatements.{Around, LocalHas, AreTyped}
use Rattle.source_meaning.specs.Typed.{around_body}
use Rattle.code_scheme.specs.BodyCode.{behind_lowest}
use Rattle.code_laws.specs.Calls.{FitTaken}
use Rattle.code_laws.specs.Bodies.{DeclareBehind, SkipsLaw}

-- a local that is set to what it has
same_set : (locals : List (List ℤ)) (i : ℕ) → slice_set locals i (slice_index_or locals i []) ≡ locals
same_set [] i = refl
same_set (l ∷ locals) zero = refl
same_set (l ∷ locals) (suc i) = ap (λ (ls : List (List ℤ)). l ∷ ls) (same_set locals i)

one_same : (store : Store) (i : ℕ) (xs : List ℤ) → local_value store i ≡ xs → with_local store i xs ≡ store
one_same store i xs is = ap (λ (ys : List ℤ). with_local store i ys) (sym is) ∙ ap (λ (ls : List (List ℤ)). record { locals = ls; result = store.result }) (same_set store.locals i)

all_same : (store : Store) (is : List ℕ) (xs : List ℤ) → All (λ i. local_value store i ≡ xs) is → set_locals is xs store ≡ store
all_same store [] xs all = refl
all_same store (i ∷ is) xs all =
    ap (λ (st : Store). set_locals is xs st) (one_same store i xs (All-head (λ j. local_value store j ≡ xs) i is all))
    ∙ all_same store is xs (All-tail (λ j. local_value store j ≡ xs) i is all)

-- the locals behind so many have the lowest values of their modes
abbrev HasLowest : ℕ → List LocalRowTree → Store → Type 0
HasLowest count rows store = (i : ℕ) (row : LocalRowTree) → count ≤ i → slice_get rows i ≡ Some row → local_value store i ≡ lowest_of row.mode

some_row : (a b : LocalRowTree) (o : Option LocalRowTree) → o ≡ Some a → o ≡ Some b → a ≡ b
some_row a b o e f = cc

have_lowest : (at : Around) (count : ℕ) (store : Store) (is : List ℕ) (xs : List ℤ) → HasLowest count at.context.rows store → ((m : ModeTree) × All (LocalHas at.context m) is × (xs ≡ lowest_of m)) → All (λ i. count ≤ i) is → set_locals is xs store ≡ store
have_lowest at count store [] xs lowest_there typed behind = refl
have_lowest at count store (i ∷ is) xs lowest_there typed behind =
    let has = All-head (LocalHas at.context typed.0) i is typed.1 in
    let value : local_value store i ≡ xs = lowest_there i has.0 (All-head (λ j. count ≤ j) i is behind) has.1 ∙ (ap lowest_of has.2 ∙ sym typed.2) in
    ap (λ (st : Store). set_locals is xs st) (one_same store i xs value)
    ∙ have_lowest at count store is xs lowest_there (typed.0, All-tail (LocalHas at.context typed.0) i is typed.1, typed.2) (All-tail (λ j. count ≤ j) i is behind)

skips : (v : Setting) (n : ℕ) (at : Around) (count : ℕ) (ss : StatementNodes) (store : Store) (s : Session) → HasLowest count at.context.rows store → AreTyped at ss → DeclareBehind count ss
    → statements_mean v n ss store s ≡ statements_mean v n (behind_lowest ss) store s
skips v n at count no_statements store s low typed behind = refl
skips v n at count (more_statements (statement false (set_lowest locals xs) h) ss) store s low typed behind =
    ap (λ (st : Store). statements_mean v n ss st s) (have_lowest at count store locals xs low typed.0.1 behind.0)
    ∙ skips v n at count ss store s low typed.1 behind.1
skips v n at count (more_statements (statement true (set_lowest locals xs) h) ss) store s low typed behind =
    ap (λ (st : Store). statements_mean v n ss st s) (have_lowest at count store locals xs low typed.0.1 behind.0)
    ∙ skips v n at count ss store s low typed.1 behind.1
skips v n at count (more_statements (statement labelled a h) ss) store s low typed behind = refl

-- so have those of the first store behind the parameters
first_lowest : (rows : List LocalRowTree) (ps : List Parameter) (ts : List Taken) (i : ℕ) (row : LocalRowTree) → FitTaken rows ps ts → length ps ≤ i → slice_get rows i ≡ Some row → slice_index_or (first_locals rows ts) i [] ≡ lowest_of row.mode
first_lowest [] ps ts i row fit behind is = absurd (let no : ⊥ = cc in no)
first_lowest (r ∷ rows) [] [] zero row fit behind is = let same : r ≡ row = cc in ap (λ (q : LocalRowTree). lowest_of q.mode) same
first_lowest (r ∷ rows) [] [] (suc i) row fit behind is = first_lowest rows [] [] i row tt (omega arith) is
first_lowest (r ∷ rows) [] (t ∷ ts) i row fit behind is = absurd fit
first_lowest (r ∷ rows) (q ∷ ps) [] i row fit behind is = absurd fit
first_lowest (r ∷ rows) (q ∷ ps) (t ∷ ts) zero row fit behind is = absurd (let no : ⊥ = omega (arith, behind) in no)
first_lowest (r ∷ rows) (q ∷ ps) (t ∷ ts) (suc i) row fit behind is = first_lowest rows ps ts i row fit.1 (omega (arith, behind)) is

pub skips_run : SkipsLaw
skips_run p k body v n ts s typed declared fit =
    skips v n (around_body p body) (length body.parameters) body.statements (first_store body ts) s
    (λ i row behind is. first_lowest body.locals body.parameters ts i row fit behind is) typed.statements declared
