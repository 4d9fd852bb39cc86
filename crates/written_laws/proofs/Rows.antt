-- The definitions of a program row by row: whether each is a parameter, and the mentions in its text, by what defines it and by parts.
use Rattle.std.proofs.Common.{◌≡◌, ℕ, zero, suc, ◌+◌, Bool, true, false, List, [], ◌∷◌, ◌++◌, Option, Some, None, length, length-append, refl, sym, ap, ◌∙◌, arith, append_assoc, append-nil}
use Rattle.std.specs.Prelude.{map, flat_map, replicate, if◌then◌else◌}
use Rattle.std.proofs.lemmas.List.{length-map, map-append}
use Rattle.chill_base.specs.declared.pos.Pos.{Pos}
use Rattle.chill_tree.specs.declared.tree.name.Name.{Name}
use Rattle.chill_tree.specs.declared.tree.item.ModulionKind.TheVariants as modulions
use Rattle.chill_tree.specs.declared.tree.item.Passed.{Passed}
use Rattle.chill_tree.specs.declared.tree.item.Passed.TheVariants.{Names, All}
use Rattle.chill_tree.specs.ExprTree.{ExprTree}
use Rattle.chill_tree.specs.ModeTree as written
use Rattle.chill_tree.specs.LocalTree.{SynonymTree, DeclarationTree, InitialTree, synonyms, locations}
use Rattle.chill_tree.specs.SimpleTree.{SimpleTree, assign, update, call_of, exit, return_with, result_of, assert_that, cause, stop, start_of, delay, continue_event, send, ControlTree, while_holds, for_ever, for_members, for_steps}
use Rattle.chill_tree.specs.ItemTree.{ItemTree, local_item, ProgramTree}
use Rattle.names_model.specs.declared.definition.Definition.{Definition}
use Rattle.names_model.specs.declared.definition.Inside.TheVariants.{Modulion}
use Rattle.names_model.specs.declared.kind.Kind.TheVariants as kinds
use Rattle.names_model.specs.declared.kind.Need.TheVariants as needs
use Rattle.names_model.specs.declared.part.Mention.{Mention}
use Rattle.names_model.specs.declared.part.Mention.TheVariants.{Use, Argument, Element}
use Rattle.names_model.specs.declared.part.Clause.{Clause}
use Rattle.names_model.specs.Identifiers.{identifier, identifiers}
use Rattle.names_model.specs.Parts.{PartTree, PartNodes, define, mention, seize, seize_all, grant, grant_all, stray, modulion, routine, block, no_parts, more_parts, part_nodes}
use Rattle.names_model.specs.Sizes.{elements_in, sizes_of}
use Rattle.names_model.specs.Definitions.{defined, elements_defined, numbers_on, definitions_in, text_definitions, predefined}
use Rattle.names_model.specs.ExprMentions.{used, mentions_of, mentions_of_some, mentions_of_args}
use Rattle.names_model.specs.ModeMentions.{mentions_of_mode, mentions_of_some_mode}
use Rattle.names_model.specs.StatementParts.{mentioned, encloses, exit_parts, simple_parts, control_parts, mentions_of_some_args, initial_parts}
use Rattle.names_model.specs.ItemParts.{seized, granted, receiver_parts, item_parts}
use Rattle.names_model.specs.Resolving.{level_of}
use Rattle.checks_model.specs.Ground.{Origin, a_synonym, an_element, a_parameter}
use Rattle.checks_model.specs.Origins.{sets_in, elements, elements_of, elements_of_some, origins_of_item, text_origins, predefined_origins}
use Rattle.ground_laws.specs.Defining.{AllDefine}
use Rattle.ground_laws.proofs.Defining.{origins_define}
use Rattle.written_laws.specs.Written.{Each}
use Rattle.written_laws.proofs.Shown.{each_map, each_any, each_flat}
use Rattle.written_laws.proofs.Texts.{text_of}

abbrev pub Row : Type 0
Row = Bool × List Mention

abbrev pub is_parameter : Origin → Bool
is_parameter (a_parameter w) = true
is_parameter o = false

abbrev pub row_of : Origin → Row
row_of o = (is_parameter o, text_of o)

abbrev pub no_text : Row
no_text = (false, [])

-- the names that a clause defines, then the elements in its text
abbrev pub rows_of_clause : Bool → Clause → List Row
rows_of_clause is_param c = replicate (length c.names) (is_param, c.text) ++ replicate (length (elements_in c.text)) no_text

abbrev pub rows_of_params : List Clause → List Row
rows_of_params [] = []
rows_of_params (c ∷ cs) = rows_of_clause true c ++ rows_of_params cs

abbrev mutual
  pub rows_of : PartTree → List Row
  rows_of (define c) = rows_of_clause false c
  rows_of (modulion n region size ps) = no_text ∷ rows_in ps
  rows_of (routine n kind params result size ps) = ((false, result) ∷ rows_of_params params ++ replicate (length (elements_in result)) no_text) ++ rows_in ps
  rows_of (block size ps) = rows_in ps
  rows_of (mention m) = []
  rows_of (seize n) = []
  rows_of (seize_all at) = []
  rows_of (grant n) = []
  rows_of (grant_all at) = []
  rows_of (stray n) = []

  pub rows_in : PartNodes → List Row
  rows_in no_parts = []
  rows_in (more_parts p ps) = rows_of p ++ rows_in ps

pub rows_split : (ps qs : List PartTree) → rows_in (part_nodes (ps ++ qs)) ≡ rows_in (part_nodes ps) ++ rows_in (part_nodes qs)
rows_split [] qs = refl
rows_split (p ∷ ps) qs = ap (λ rs. rows_of p ++ rs) (rows_split ps qs) ∙ sym (append_assoc (rows_of p) (rows_in (part_nodes ps)) (rows_in (part_nodes qs)))

-- ---- numbers of definitions

abbrev mutual
  -- each part that holds others has the number of the definitions in it
  pub IsSized : PartTree → Type 0
  IsSized (modulion n region size ps) = (size ≡ sizes_of ps) × AreSized ps
  IsSized (routine n kind params result size ps) = (size ≡ sizes_of ps) × AreSized ps
  IsSized (block size ps) = (size ≡ sizes_of ps) × AreSized ps
  IsSized (define c) = Unit {0}
  IsSized (mention m) = Unit {0}
  IsSized (seize n) = Unit {0}
  IsSized (seize_all at) = Unit {0}
  IsSized (grant n) = Unit {0}
  IsSized (grant_all at) = Unit {0}
  IsSized (stray n) = Unit {0}

  pub AreSized : PartNodes → Type 0
  AreSized no_parts = Unit {0}
  AreSized (more_parts p ps) = IsSized p × AreSized ps

pub sized_both : (ps qs : List PartTree) → AreSized (part_nodes ps) → AreSized (part_nodes qs) → AreSized (part_nodes (ps ++ qs))
sized_both [] qs first later = later
sized_both (p ∷ ps) qs first later = (first.0, sized_both ps qs first.1 later)

-- ---- parts that define nothing

abbrev pub DefinesNothing : PartTree → Type 0
DefinesNothing (mention m) = Unit {0}
DefinesNothing (seize n) = Unit {0}
DefinesNothing (seize_all at) = Unit {0}
DefinesNothing (grant n) = Unit {0}
DefinesNothing (grant_all at) = Unit {0}
DefinesNothing (stray n) = Unit {0}
DefinesNothing (define c) = ⊥
DefinesNothing (modulion n region size ps) = ⊥
DefinesNothing (routine n kind params result size ps) = ⊥
DefinesNothing (block size ps) = ⊥

abbrev pub DefineNothing : List PartTree → Type 0
DefineNothing ps = Each DefinesNothing ps

pub no_rows : (ps : List PartTree) → DefineNothing ps → rows_in (part_nodes ps) ≡ []
no_rows [] none = refl
no_rows (mention m ∷ ps) none = no_rows ps none.1
no_rows (seize n ∷ ps) none = no_rows ps none.1
no_rows (seize_all at ∷ ps) none = no_rows ps none.1
no_rows (grant n ∷ ps) none = no_rows ps none.1
no_rows (grant_all at ∷ ps) none = no_rows ps none.1
no_rows (stray n ∷ ps) none = no_rows ps none.1
no_rows (define c ∷ ps) none = absurd none.0
no_rows (modulion n region size qs ∷ ps) none = absurd none.0
no_rows (routine n kind params result size qs ∷ ps) none = absurd none.0
no_rows (block size qs ∷ ps) none = absurd none.0

pub nothing_sized : (ps : List PartTree) → DefineNothing ps → AreSized (part_nodes ps)
nothing_sized [] none = tt
nothing_sized (mention m ∷ ps) none = (tt, nothing_sized ps none.1)
nothing_sized (seize n ∷ ps) none = (tt, nothing_sized ps none.1)
nothing_sized (seize_all at ∷ ps) none = (tt, nothing_sized ps none.1)
nothing_sized (grant n ∷ ps) none = (tt, nothing_sized ps none.1)
nothing_sized (grant_all at ∷ ps) none = (tt, nothing_sized ps none.1)
nothing_sized (stray n ∷ ps) none = (tt, nothing_sized ps none.1)
nothing_sized (define c ∷ ps) none = absurd none.0
nothing_sized (modulion n region size qs ∷ ps) none = absurd none.0
nothing_sized (routine n kind params result size qs ∷ ps) none = absurd none.0
nothing_sized (block size qs ∷ ps) none = absurd none.0

pub mentions_define : (ms : List Mention) → DefineNothing (mentioned ms)
mentions_define [] = tt
mentions_define (m ∷ ms) = (tt, mentions_define ms)

exit_defines : (labels : List Name) (n : Name) → DefineNothing (exit_parts labels n)
exit_defines labels n = by (encloses labels n)
  where
    by : (b : Bool) → DefineNothing (if b then [] else stray (identifier n) ∷ [])
    by true = tt
    by false = (tt, tt)

pub simple_defines : (labels : List Name) (a : SimpleTree) → DefineNothing (simple_parts labels a)
simple_defines labels (assign at t v) = mentions_define (mentions_of t ++ mentions_of v)
simple_defines labels (update at t o p v) = mentions_define (mentions_of t ++ mentions_of v)
simple_defines labels (call_of at word n es) = mentions_define (used needs.Action n ++ mentions_of_args (Some n) es)
simple_defines labels (exit at n) = exit_defines labels n
simple_defines labels (return_with at v) = mentions_define (mentions_of_some v)
simple_defines labels (result_of at v) = mentions_define (mentions_of v)
simple_defines labels (assert_that at c) = mentions_define (mentions_of c)
simple_defines labels (cause at n) = tt
simple_defines labels (stop at) = tt
simple_defines labels (start_of at n es) = mentions_define (used needs.Process n ++ mentions_of_args None es)
simple_defines labels (delay at n p) = mentions_define (used needs.Location n ++ mentions_of_some p)
simple_defines labels (continue_event at n) = mentions_define (used needs.Location n)
simple_defines labels (send at n es to p) = mentions_define (used needs.Message n ++ mentions_of_some_args es ++ mentions_of_some to ++ mentions_of_some p)

pub control_defines : (c : ControlTree) → DefineNothing (control_parts c)
control_defines (while_holds at c) = tt
control_defines (for_ever at) = tt
control_defines (for_members at n s c) = mentions_define (mentions_of s)
control_defines (for_steps at n s b down e c) = mentions_define (mentions_of s ++ mentions_of_some b ++ mentions_of e)

pub initial_defines : (i : Option InitialTree) → DefineNothing (initial_parts i)
initial_defines None = tt
initial_defines (Some i) = mentions_define (mentions_of i.value)

pub receiver_defines : (n : Option Name) → DefineNothing (receiver_parts n)
receiver_defines None = tt
receiver_defines (Some n) = (tt, tt)

pub seized_define : (w : Passed) → DefineNothing (seized w)
seized_define (Names ns) = by ns
  where
    by : (ns : List Name) → DefineNothing (map (λ n. seize (identifier n)) ns)
    by [] = tt
    by (n ∷ ns) = (tt, by ns)
seized_define (All at) = (tt, tt)

pub granted_define : (w : Passed) → DefineNothing (granted w)
granted_define (Names ns) = by ns
  where
    by : (ns : List Name) → DefineNothing (map (λ n. grant (identifier n)) ns)
    by [] = tt
    by (n ∷ ns) = (tt, by ns)
granted_define (All at) = (tt, tt)

-- ---- how many elements stand in a text

some_name : Name
some_name = record { at = record { line = 0; column = 0 }; text = [] }

-- a program with one item
abbrev with_item : ItemTree → ProgramTree
with_item i = record { modulions = record { name = some_name; kind = modulions.Module; items = i ∷ []; handler = None; closing = None } ∷ [] }

pub same_length : (os : List Origin) (ds : List Definition) → AllDefine os ds → length os ≡ length ds
same_length [] [] all = refl
same_length (o ∷ os) (d ∷ ds) all = ap suc (same_length os ds all.1)
same_length [] (d ∷ ds) all = absurd all
same_length (o ∷ os) [] all = absurd all

-- as many definitions stand in an item as it defines
item_count : (i : ItemTree) → length (origins_of_item i) ≡ length (definitions_in (Modulion 0) 1 (part_nodes (item_parts i)))
item_count i =
    let os = origins_of_item i in
    let ps = item_parts i in
    let ds = definitions_in (Modulion 0) 1 (part_nodes ps) in
    let whole = same_length (text_origins (with_item i) ++ predefined_origins) (text_definitions (level_of (with_item i)) ++ predefined) (origins_define (with_item i)) in
    let first = length-append (text_origins (with_item i)) predefined_origins in
    let later = length-append (text_definitions (level_of (with_item i))) predefined in
    let own : length (text_origins (with_item i)) ≡ suc (length os) = ap (λ xs. suc (length xs)) (append-nil ((os ++ []) ++ []) ∙ append-nil (os ++ []) ∙ append-nil os) in
    let parts : definitions_in (Modulion 0) 1 (part_nodes ((ps ++ []) ++ [])) ≡ ds = ap (λ qs. definitions_in (Modulion 0) 1 (part_nodes qs)) (append-nil (ps ++ []) ∙ append-nil ps) in
    let mine : length (text_definitions (level_of (with_item i))) ≡ suc (length ds) = ap (λ xs. suc (length xs)) (append-nil (definitions_in (Modulion 0) 1 (part_nodes ((ps ++ []) ++ []))) ∙ parts) in
    let language : length predefined_origins ≡ length predefined = refl in
    omega (arith, whole, first, later, own, mine, language)

nowhere : Pos
nowhere = record { line = 0; column = 0 }

mode_count : (m : written.ModeTree) → length (elements_of None m) ≡ length (elements_in (mentions_of_mode m))
mode_count m =
    let d : DeclarationTree = record { names = []; mode = m; initial = None } in
    let own : length (origins_of_item (local_item (locations nowhere (d ∷ [])))) ≡ length (elements_of None m) = ap length (append-nil (elements_of None m)) in
    let named = elements_in (mentions_of_mode m) in
    let stand : length (definitions_in (Modulion 0) 1 (part_nodes (item_parts (local_item (locations nowhere (d ∷ [])))))) ≡ length named = ap length (append-nil (elements_defined (Modulion 0) named)) ∙ length-map named (defined (Modulion 0) kinds.Element) in
    sym own ∙ item_count (local_item (locations nowhere (d ∷ []))) ∙ stand

value_count : (e : ExprTree) → length (elements_in (mentions_of e)) ≡ 0
value_count e =
    let s : SynonymTree = record { names = []; mode = None; value = e } in
    let named = elements_in (mentions_of e) in
    let stand : length (definitions_in (Modulion 0) 1 (part_nodes (item_parts (local_item (synonyms nowhere (s ∷ [])))))) ≡ length named = ap length (append-nil (elements_defined (Modulion 0) named)) ∙ length-map named (defined (Modulion 0) kinds.Element) in
    sym (item_count (local_item (synonyms nowhere (s ∷ []))) ∙ stand)

elements_append : (ms ns : List Mention) → elements_in (ms ++ ns) ≡ elements_in ms ++ elements_in ns
elements_append [] ns = refl
elements_append (Use n need ∷ ms) ns = elements_append ms ns
elements_append (Argument n callee ∷ ms) ns = elements_append ms ns
elements_append (Element n ∷ ms) ns = ap (λ xs. n ∷ xs) (elements_append ms ns)

counts_of_two : (ms ns : List Mention) → length (elements_in (ms ++ ns)) ≡ length (elements_in ms) + length (elements_in ns)
counts_of_two ms ns = ap length (elements_append ms ns) ∙ length-append (elements_in ms) (elements_in ns)

pub some_count : (m : Option written.ModeTree) → length (elements_of_some m) ≡ length (elements_in (mentions_of_some_mode m))
some_count None = refl
some_count (Some m) = mode_count m

pub many_count : (ms : List written.ModeTree) → length (flat_map (elements_of None) ms) ≡ length (elements_in (flat_map mentions_of_mode ms))
many_count [] = refl
many_count (m ∷ ms) =
    let one = mode_count m in
    let rest = many_count ms in
    let first = length-append (elements_of None m) (flat_map (elements_of None) ms) in
    let later = counts_of_two (mentions_of_mode m) (flat_map mentions_of_mode ms) in
    omega (arith, one, rest, first, later)

-- whatever owns the SETs
owner_count : (owner : Option (Name × Bool)) (sets : List (List Name)) → length (flat_map (elements owner) sets) ≡ length (flat_map (elements None) sets)
owner_count owner [] = refl
owner_count owner (ns ∷ sets) =
    let numbers = numbers_on 0 (length ns) in
    let one = length-append (elements owner ns) (flat_map (elements owner) sets) in
    let other = length-append (elements None ns) (flat_map (elements None) sets) in
    let mine : length (elements owner ns) ≡ length numbers = length-map numbers (λ part. an_element ns part owner) in
    let none : length (elements None ns) ≡ length numbers = length-map numbers (λ part. an_element ns part None) in
    let rest = owner_count owner sets in
    omega (arith, one, other, mine, none, rest)

-- ---- rows of what a text defines

abbrev pub HaveNoText : List Origin → Type 0
HaveNoText os = Each (λ o. row_of o ≡ no_text) os

pub no_text_rows : (os : List Origin) → HaveNoText os → map row_of os ≡ replicate (length os) no_text
no_text_rows [] none = refl
no_text_rows (o ∷ os) none = two none.0 (no_text_rows os none.1)
  where
    two : {r : Row} {rs ks : List Row} → r ≡ no_text → rs ≡ ks → r ∷ rs ≡ no_text ∷ ks
    two {r} {rs} {ks} one rest = ap (λ x. x ∷ rs) one ∙ ap (λ xs. no_text ∷ xs) rest

pub elements_without : (owner : Option (Name × Bool)) (sets : List (List Name)) → HaveNoText (flat_map (elements owner) sets)
elements_without owner sets =
    each_flat (λ ns. Unit {0}) (λ o. row_of o ≡ no_text) (elements owner)
    (λ ns fits. each_map (λ k. Unit {0}) (λ o. row_of o ≡ no_text) (λ part. an_element ns part owner) (λ k fits. refl) (numbers_on 0 (length ns)) (each_any (λ k. Unit {0}) (λ k. tt) (numbers_on 0 (length ns)))) sets
    (each_any (λ ns. Unit {0}) (λ ns. tt) sets)

pub some_without : (w : Option written.ModeTree) → HaveNoText (elements_of_some w)
some_without None = tt
some_without (Some w) = elements_without None (sets_in w)

same_rows : (count : ℕ) (o : Origin) → map row_of (replicate count o) ≡ replicate count (row_of o)
same_rows zero o = refl
same_rows (suc count) o = ap (λ rs. row_of o ∷ rs) (same_rows count o)

-- names of one text, then the elements in it
pub names_rows : (ns : List Name) (o : Origin) (inside : List Origin) → HaveNoText inside → length inside ≡ length (elements_in (text_of o))
    → map row_of (replicate (length ns) o ++ inside) ≡ replicate (length (identifiers ns)) (row_of o) ++ replicate (length (elements_in (text_of o))) no_text
names_rows ns o inside none count =
    map-append row_of (replicate (length ns) o) inside ∙ ap (λ rs. rs ++ map row_of inside) (same_rows (length ns) o ∙ ap (λ k. replicate k (row_of o)) (sym (length-map ns identifier)))
    ∙ ap (λ rs. replicate (length (identifiers ns)) (row_of o) ++ rs) (no_text_rows inside none ∙ ap (λ k. replicate k no_text) count)

pub mode_elements_count : (owner : Option (Name × Bool)) (m : written.ModeTree) → length (elements_of owner m) ≡ length (elements_in (mentions_of_mode m))
mode_elements_count owner m = owner_count owner (sets_in m) ∙ mode_count m

pub synonym_count : (s : SynonymTree) → length (elements_of_some s.mode) ≡ length (elements_in (text_of (a_synonym s)))
synonym_count s =
    let own = some_count s.mode in
    let both = counts_of_two (mentions_of_some_mode s.mode) (mentions_of s.value) in
    let none = value_count s.value in
    omega (arith, own, both, none)
