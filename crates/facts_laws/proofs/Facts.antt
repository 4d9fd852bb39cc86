-- The facts that are made of a typed program are those of its text.
use Rattle.std.proofs.Common.{◌≡◌, ℕ, zero, suc, ◌+◌, ◌≤◌, List, [], ◌∷◌, map, length, get_or, refl, sym, ap, ◌∙◌, subst, arith}
use Rattle.std.specs.Prelude.{◌<◌, max, All, Any, IfSome, IsTrue}
use Rattle.std.proofs.lemmas.List.Elements.{All-head, All-tail}
use Rattle.checked_program.specs.declared.program.Checked.{Checked}
use Rattle.checked_program.specs.declared.program.Body.{Body}
use Rattle.checked_program.specs.declared.program.LocationRow.{LocationRow}
use Rattle.checked_program.specs.declared.program.Sort.{Sort}
use Rattle.checked_program.specs.declared.program.Sort.TheVariants.{Outermost, Process, Procedure}
use Rattle.kernel_base.specs.declared.value.Value.{Value}
use Rattle.kernel_base.specs.Value.{scalars_of, kinds_of, powersets_of}
use Rattle.layout_map.specs.Outcome.{outcome_of, spots}
use Rattle.layout_map.specs.Spots.{spots_of}
use Rattle.modes.specs.Language.{parts_fit, IsOfLanguage}
use Rattle.modes.specs.Scalars.{lowest_of}
use Rattle.program_trees.specs.ProgramTree.{LocationRowTree, location_row_tree, buffer_row_tree, signal_row_tree, body_row_tree, checked_tree}
use Rattle.source_meaning.specs.Values.{domains_of}
use Rattle.source_meaning.specs.Facts.{kind_of, lowest_powersets_of, behind_body, processes_from, AreLowest}
use Rattle.code_gen.specs.Facts.{mode_of, number_behind, behind_processes, process_count, facts_of, HasNoLayout}
use Rattle.code_gen.specs.Lowest.{lowest_value}
use Rattle.facts_laws.proofs.LowestValues.{lowest_is}
use Rattle.facts_laws.specs.Laws.{IsTypedProgram, FactsLaw}

map_of_map : {A B C : Type 0} (g : B → C) (f : A → B) (xs : List A) → map g (map f xs) ≡ map (λ x. g (f x)) xs
map_of_map g f [] = refl
map_of_map g f (x ∷ xs) = ap (λ ys. g (f x) ∷ ys) (map_of_map g f xs)

-- ---- processes

behind_joins : (s : Sort) (k behind rest : ℕ) → behind ≤ k → max (behind_body s k behind) rest ≡ max behind (max (number_behind s k) rest)
behind_joins Outermost k behind rest h = omega (arith, h)
behind_joins Process k behind rest h = omega (arith, h)
behind_joins Procedure k behind rest h = omega (arith, h)

behind_low : (s : Sort) (k behind : ℕ) → behind ≤ k → behind_body s k behind ≤ suc k
behind_low Outermost k behind h = omega arith
behind_low Process k behind h = omega arith
behind_low Procedure k behind h = omega (arith, h)

-- the last process has the greatest number of them
last_process : (k behind : ℕ) (bodies : List Body) → behind ≤ k → processes_from k behind (map body_row_tree bodies) ≡ max behind (behind_processes k bodies)
last_process k behind [] h = omega arith
last_process k behind (body ∷ bodies) h =
    last_process (suc k) (behind_body body.sort k behind) bodies (behind_low body.sort k behind h)
    ∙ (behind_joins body.sort k behind (behind_processes (suc k) bodies) h
    ∙ ap (λ (n : ℕ). max behind (max (number_behind body.sort k) (behind_processes n bodies))) (let is : suc k ≡ k + 1 = omega arith in is))

number_low : (s : Sort) (k : ℕ) → number_behind s k ≤ k + 1
number_low Outermost k = omega arith
number_low Process k = omega arith
number_low Procedure k = omega arith

few_processes : (k : ℕ) (bodies : List Body) → behind_processes k bodies ≤ k + length bodies
few_processes k [] = omega arith
few_processes k (body ∷ bodies) =
    let one = number_low body.sort k in
    let more = few_processes (k + 1) bodies in
    omega (arith, one, more)

processes_are : (bodies : List Body) → length bodies ≤ 4294967295 → process_count bodies ≡ processes_from 0 0 (map body_row_tree bodies)
processes_are bodies few =
    let low = few_processes 0 bodies in
    let last = last_process 0 0 bodies (omega arith) in
    omega (arith, few, low, last)

-- ---- locations

same_maps : {A B C : Type 0} (P : B → Type 0) (tree : A → B) (f : A → C) (g : B → C) → ((x : A) → P (tree x) → f x ≡ g (tree x)) → (xs : List A) → All P (map tree xs) → map f xs ≡ map g (map tree xs)
same_maps P tree f g same [] all = refl
same_maps P tree f g same (x ∷ xs) all =
    ap (λ y. y ∷ map f xs) (same x (All-head P (tree x) (map tree xs) all))
    ∙ ap (λ ys. g (tree x) ∷ ys) (same_maps P tree f g same xs (All-tail P (tree x) (map tree xs) all))

abbrev IsOfText : LocationRowTree → Type 0
IsOfText row = IsTrue (parts_fit row.mode)

languages : (rows : List LocationRowTree) (regions : ℕ) → All (λ row. IsOfLanguage row.mode × IfSome row.region (λ r. r < regions)) rows → All IsOfText rows
languages rows regions typed = λ k d h. (typed k d h).0.parts

store_is : (program : Checked) (input : List ℕ) (units : ℕ) → IsTypedProgram program → AreLowest (checked_tree program) (facts_of program input units)
store_is program input units t =
    let all : All IsOfText (map location_row_tree program.locations) = languages (map location_row_tree program.locations) program.regions t.typed.locations in
    let lowest : LocationRow → Value = λ row. lowest_value (mode_of row) in
    record {
      scalars = map_of_map scalars_of lowest program.locations
          ∙ same_maps IsOfText location_row_tree (λ row. scalars_of (lowest row)) (λ row. lowest_of row.mode) (λ row h. (lowest_is (mode_of row) h).scalars) program.locations all;
      kinds = map_of_map kinds_of lowest program.locations
          ∙ same_maps IsOfText location_row_tree (λ row. kinds_of (lowest row)) (λ row. map kind_of (domains_of row.mode)) (λ row h. (lowest_is (mode_of row) h).kinds) program.locations all;
      powersets = map_of_map powersets_of lowest program.locations
          ∙ same_maps IsOfText location_row_tree (λ row. powersets_of (lowest row)) (λ row. lowest_powersets_of row.mode) (λ row h. (lowest_is (mode_of row) h).powersets) program.locations all;
    }

abbrev HasLayout : LocationRowTree → Type 0
HasLayout row = outcome_of row.mode ≡ spots (spots_of row.mode)

laid_at : (locations : List LocationRow) (k : ℕ) (row : LocationRow) → All HasLayout (map location_row_tree locations) → k < length locations → get_or locations k row ≡ row → HasLayout (location_row_tree row)
laid_at [] k row all low is = absurd (let no : ⊥ = omega (arith, low) in no)
laid_at (one ∷ locations) zero row all low is = subst (λ (r : LocationRow). HasLayout (location_row_tree r)) is (All-head HasLayout (location_row_tree one) (map location_row_tree locations) all)
laid_at (one ∷ locations) (suc k) row all low is = laid_at locations k row (All-tail HasLayout (location_row_tree one) (map location_row_tree locations) all) (omega (arith, low)) is

-- each location of a typed program has a layout
all_laid : (program : Checked) → IsTypedProgram program → Any HasNoLayout program.locations → ⊥
all_laid program t some =
    let row : LocationRow = some.1 in
    some.4 (spots_of (mode_of row)) (laid_at program.locations some.0 row t.typed.layouts some.2 some.3)

-- ---- the law

pub facts_law : FactsLaw
facts_law = record {
  are = λ program input units t. record {
    store = store_is program input units t;
    layouts = sym (map_of_map (λ row. spots_of row.mode) location_row_tree program.locations);
    regions = refl;
    events = refl;
    buffers = sym (map_of_map (λ row. row.length) buffer_row_tree program.buffers);
    processes = processes_are program.bodies t.few;
    signals = sym (map_of_map (λ row. row.process) signal_row_tree program.signals);
    given_input = refl;
    given_units = refl;
  };
  laid = all_laid;
}
