-- What is kept of a modulion, and what it gives by that.
use Rattle.std.proofs.Common.{◌≡◌, ℕ, List, [], ◌∷◌, ◌++◌, Bool, Some, ap, ◌∙◌}
use Rattle.std.specs.Prelude.{flat_map}
use Rattle.std.proofs.lemmas.List.{map-append}
use Rattle.names_model.specs.declared.definition.Definition.{Definition}
use Rattle.names_model.specs.declared.entry.Entry.{Entry}
use Rattle.names_model.specs.Parts.{PartTree, PartNodes, parts_in}
use Rattle.names_model.specs.Entries.{found, granted_entries, own_numbers, up_entries}
use Rattle.reach_tables.specs.declared.given.Given.{Given, roll-Given}
use Rattle.reach_tables.specs.declared.passing.Giver.{Giver}
use Rattle.reach_tables.specs.Givens.{IsGiver, GivenNodes, given, given_by, given_nodes, given_tree, given_trees, givens}
use Rattle.reach_tables.specs.Held.{Holdings, held}
use Rattle.reach_tables.specs.Scopes.{Holds, told_by}
use Rattle.reach_tables.proofs.Lending.{tree-made}

held-found : (t : Holdings) (all : List Definition) (es : List Entry) → Holds t all es → ◌≡◌ {A = List ℕ → List ℕ} (held t) (found all es)
held-found t all es h = λ i n. h.by n i

-- what is kept of a modulion is put behind what is kept of others
pub given-more : (all : List Definition) (region : Bool) (from : ℕ) (ps : PartNodes) (t : Holdings) (own : List ℕ) (inner old new : List Given) → Holds t all (up_entries all from ps) → own ≡ own_numbers from ps → given_trees inner ≡ givens all from ps
    → new ≡ old ++ roll-Given (record { region = region; has = t; own = own; inner = inner }) ∷ [] → given_trees new ≡ given_trees old ++ given_by all region from ps (given_nodes (givens all from ps)) ∷ []
given-more all region from ps t own inner old new h o i more =
    let has = held-found t all (up_entries all from ps) h in
    ap given_trees more ∙ map-append given_tree old (roll-Given (record { region = region; has = t; own = own; inner = inner }) ∷ [])
    ∙ ap (λ g. given_trees old ++ g ∷ []) (tree-made region t own inner ∙ (λ k. given (has k) (o k) region (given_nodes (i k))))

granted-as : (all : List Definition) (region region' : Bool) (has has' : List ℕ → List ℕ) (own own' : List ℕ) (ps : List PartTree) → has ≡ has' → own ≡ own' → region ≡ region'
    → flat_map (granted_entries all region has own) ps ≡ flat_map (granted_entries all region' has' own') ps
granted-as all region region' has has' own own' ps h e r = λ i. flat_map (granted_entries all (r i) (h i) (e i)) ps

-- by what is kept of a modulion, its parts give what they are to give
pub granted-by : (all : List Definition) (region : Bool) (from : ℕ) (ps : PartNodes) (inner : GivenNodes) (g : Giver) → IsGiver (given_by all region from ps inner ∷ []) (Some g)
    → flat_map (granted_entries all g.region (told_by g.has) g.own.now) (parts_in ps) ≡ flat_map (granted_entries all region (found all (up_entries all from ps)) (own_numbers from ps)) (parts_in ps)
granted-by all region from ps inner g h = granted-as all g.region region (told_by g.has) (found all (up_entries all from ps)) g.own.now (own_numbers from ps) (parts_in ps) h.0 h.1 h.2
