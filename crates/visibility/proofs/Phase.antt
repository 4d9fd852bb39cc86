-- The list of the phase and the names, by what is found of a program.
use Rattle.std.proofs.Common.{◌≡◌, ◌∙◌, List, [], ◌++◌, ap, sym, subst, length}
use Rattle.std.specs.Prelude.{◌&&◌, ◌||◌, flat_map, slice_get}
use Rattle.diagnostics.specs.declared.diagnostic.Diagnostic.{Diagnostic}
use Rattle.chill_tree.specs.ItemTree.{ProgramTree}
use Rattle.cycles.specs.declared.group.Group.{Group}
use Rattle.diagnostics.specs.Listing.{SameMembers, listed}
use Rattle.diagnostics.specs.Order.{diagnostic_cmp}
use Rattle.names_model.specs.declared.definition.Definition.{Definition}
use Rattle.names_model.specs.declared.names.Resolved.{Resolved}
use Rattle.names_model.specs.declared.names.Names.{Names}
use Rattle.cycles.specs.Testing.{depends_on}
use Rattle.names_model.specs.Definitions.{is_kind_at, numbers_on, text_definitions, with_predefined}
use Rattle.names_model.specs.Dependence.{told_self, told_selves}
use Rattle.names_model.specs.Kinds.{is_constant, is_location}
use Rattle.names_model.specs.NameRules.{told_in, told_surplus}
use Rattle.names_model.specs.Seeing.{outermost}
use Rattle.names_model.specs.Resolving.{broken_names, level_of, names_of}
use Rattle.reach_tables.specs.Books.{Keeps}
use Rattle.reach_tables.proofs.Members.{same-behind}
use Rattle.reach_walk.specs.SameGroups.{SameGroups}
use Rattle.visibility.specs.declared.finding.Found.{Found}
use Rattle.visibility.specs.Found.{IsFound}

-- groups that say the same tell the same
selves_by : (text : List Definition) (gs hs : List Group) → SameGroups gs hs → told_selves text gs ≡ told_selves text hs
selves_by text gs hs h =
    let all = with_predefined text in
    let among = h.among all in
    λ i. flat_map (λ d. told_self ((is_kind_at is_constant all d && depends_on (h.edges i) d d) || (is_kind_at is_location all d && depends_on (among i) d d)) (slice_get all d)) (numbers_on 0 (length text))

-- all that was told, in order and once, is the list of the phase, where what has the same members has the same list
pub broken_are : (tree : ProgramTree) (found : Found) (first second list : List Diagnostic) → ((xs ys : List Diagnostic) → SameMembers xs ys → listed diagnostic_cmp xs ≡ listed diagnostic_cmp ys) → IsFound tree found
    → first ≡ found.findings.told.items ++ told_selves (text_definitions (level_of tree)) found.findings.groups.items
    → second ≡ first ++ told_surplus (text_definitions (level_of tree)) → list ≡ listed diagnostic_cmp second → list ≡ broken_names (level_of tree)
broken_are tree found first second list law f selves surplus is =
    let text = text_definitions (level_of tree) in
    let told = told_in text (outermost (level_of tree)) 0 (level_of tree) in
    let more : second ≡ (found.findings.told.items ++ told_selves text found.findings.groups.items) ++ told_surplus text = surplus ∙ ap (λ (l : List Diagnostic). l ++ told_surplus text) selves in
    is ∙ ap (listed diagnostic_cmp) more
    ∙ law ((found.findings.told.items ++ told_selves text found.findings.groups.items) ++ told_surplus text) ((told ++ told_selves text found.findings.groups.items) ++ told_surplus text)
    (same-behind (found.findings.told.items ++ told_selves text found.findings.groups.items) (told ++ told_selves text found.findings.groups.items) (told_surplus text)
    (same-behind found.findings.told.items told (told_selves text found.findings.groups.items) f.told))
    ∙ ap (λ (ds : List Diagnostic). listed diagnostic_cmp ((told ++ ds) ++ told_surplus text)) (selves_by text found.findings.groups.items _ f.groups)

-- its definitions and uses are the names of the program
pub names_are : (tree : ProgramTree) (found : Found) (definitions : List Definition) (uses : List Resolved) → IsFound tree found
    → definitions ≡ found.book.all.items → uses ≡ found.findings.uses.items → ◌≡◌ {A = Names} (record { definitions = definitions; uses = uses }) (names_of (level_of tree))
names_are tree found definitions uses f ds us =
    let whole = ds ∙ f.keeps.all in
    let resolved = us ∙ f.uses in
    λ i. record { definitions = whole i; uses = resolved i }
