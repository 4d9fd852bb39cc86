-- What is found of a program's parts is found of its tree.
use Rattle.std.proofs.Common.{◌≡◌, ℕ, ◌+◌, ◌-◌, ◌<◌, ◌^◌, List, [], ◌++◌, min, length, length-append, arith, refl, sym, ap, ◌∙◌, subst}
use Rattle.diagnostics.specs.declared.diagnostic.Diagnostic.{Diagnostic}
use Rattle.chill_tree.specs.ItemTree.{ProgramTree}
use Rattle.diagnostics.specs.Listing.{SameMembers}
use Rattle.cycles.specs.declared.group.Group.{Group}
use Rattle.names_model.specs.declared.definition.Definition.{Definition}
use Rattle.names_model.specs.Parts.{PartNodes}
use Rattle.names_model.specs.Sizes.{sizes_of}
use Rattle.names_model.specs.Definitions.{text_definitions, with_predefined, predefined}
use Rattle.names_model.specs.Dependence.{groups_in}
use Rattle.names_model.specs.NameRules.{told_in}
use Rattle.names_model.specs.Resolving.{level_of}
use Rattle.names_model.specs.Seeing.{outermost}
use Rattle.reach_tables.specs.declared.book.Book.{Book}
use Rattle.reach_walk.specs.declared.findings.Findings.{Findings}
use Rattle.reach_tables.specs.Books.{Keeps}
use Rattle.reach_tables.specs.Offsets.{Fits}
use Rattle.reach_walk.specs.Findings.{AddsReach}
use Rattle.reach_walk.specs.SameGroups.{SameGroups}
use Rattle.visibility.specs.declared.finding.Found.{Found}
use Rattle.visibility.specs.Found.{IsFound}

-- what the calls promise of parts
pub record Promises (ps : PartNodes) (count : ℕ) (book : Book) (old new : Findings) : Type 0 where
  pub size : count ≡ min (sizes_of ps) 4294967295
  pub keeps : Fits 0 ps → length (with_predefined (text_definitions ps)) < 2 ^ 32 → Keeps book (text_definitions ps)
  pub adds : (text : List Definition) → Keeps book text → Fits 0 ps → AddsReach old new text (outermost ps) 0 ps
  pub told : old.told.items ≡ []
  pub groups : old.groups.items ≡ []
  pub uses : old.uses.items ≡ []

behind_none : {X : Type 0} (old new more : List X) → old ≡ [] → new ≡ old ++ more → new ≡ more
behind_none old new more none is = is ∙ ap (λ (l : List _). l ++ more) none

predefined_length : length predefined ≡ 42
predefined_length = refl

found_at : (tree : ProgramTree) (count : ℕ) (book : Book) (old new : Findings) → count < 4294967253
    → ((t : ProgramTree) → sizes_of (level_of t) < 2 ^ 32 → Fits 0 (level_of t)) → ((t : ProgramTree) → length (text_definitions (level_of t)) ≡ sizes_of (level_of t))
    → Promises (level_of tree) count book old new → IsFound tree (record { book = book; count = count; findings = new })
found_at tree count book old new few fit size p =
    let sizes : count ≡ sizes_of (level_of tree) = omega (arith, p.size, few) in
    let fits : Fits 0 (level_of tree) = fit tree (omega (arith, sizes, few)) in
    let own : length (text_definitions (level_of tree)) ≡ sizes_of (level_of tree) = size tree in
    let whole : length (with_predefined (text_definitions (level_of tree))) ≡ length (text_definitions (level_of tree)) + 42 = length-append (text_definitions (level_of tree)) predefined ∙ ap (λ k. length (text_definitions (level_of tree)) + k) predefined_length in
    let keeps : Keeps book (text_definitions (level_of tree)) = p.keeps fits (omega (arith, whole, own, sizes, few)) in
    let adds = p.adds (text_definitions (level_of tree)) keeps fits in
    record {
      keeps = keeps;
      count = sizes ∙ sym own;
      told = subst (λ (l : List Diagnostic). SameMembers new.told.items (l ++ told_in (text_definitions (level_of tree)) (outermost (level_of tree)) 0 (level_of tree))) p.told adds.told;
      groups = subst (λ (l : List Group). SameGroups new.groups.items (l ++ groups_in (text_definitions (level_of tree)) (outermost (level_of tree)) 0 (level_of tree))) p.groups adds.groups;
      uses = behind_none old.uses.items new.uses.items _ p.uses adds.uses;
    }

pub found_by : (tree : ProgramTree) (ps : PartNodes) (count : ℕ) (book : Book) (old new : Findings) → ps ≡ level_of tree → count < 4294967253
    → ((t : ProgramTree) → sizes_of (level_of t) < 2 ^ 32 → Fits 0 (level_of t)) → ((t : ProgramTree) → length (text_definitions (level_of t)) ≡ sizes_of (level_of t))
    → Promises ps count book old new → IsFound tree (record { book = book; count = count; findings = new })
found_by tree ps count book old new is few fit size p = found_at tree count book old new few fit size (subst (λ (qs : PartNodes). Promises qs count book old new) is p)
