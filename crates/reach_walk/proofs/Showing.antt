-- The tables of a reach that is opened show what it sees.
use Rattle.std.proofs.Common.{◌≡◌, ℕ, Bool, List, [], ◌++◌, Bor, refl, ◌∙◌, if◌then◌else◌}
use Rattle.names_model.specs.declared.definition.Definition.{Definition}
use Rattle.names_model.specs.declared.entry.Entry.{Entry}
use Rattle.names_model.specs.Parts.{PartNodes}
use Rattle.names_model.specs.Definitions.{with_predefined}
use Rattle.names_model.specs.Entries.{found}
use Rattle.names_model.specs.Seeing.{Reach, outermost, in_modulion, in_block, entries_in, nothing, sees, seizes_all, or_else}
use Rattle.names_model.specs.NameRules.{told_behind, told_twice}
use Rattle.reach_tables.specs.Held.{Holdings, held}
use Rattle.reach_tables.specs.Books.{Keeps}
use Rattle.reach_tables.specs.Scopes.{Holds, Shows, shown, told_by}
use Rattle.reach_tables.specs.declared.book.Book.{Book}
use Rattle.reach_tables.specs.declared.scope.Scope.{Scope, Outermost, Modulion', Block'}
use Rattle.reach_tables.specs.declared.source.Source.TheVariants.{Nothing}

-- the entries by the tables are those of the reach
entries-as : (b : Book) (s : Scope) (text : List Definition) (r : Reach) (head head' : List Entry) (from : ℕ) (ps : PartNodes) → Shows b s text r → head ≡ head'
    → head ++ entries_in b.all.items (shown b s) from ps ≡ head' ++ entries_in (with_predefined text) (sees text r) from ps
entries-as b s text r head head' from ps h e = λ i. e i ++ entries_in (h.keeps.all i) (λ n. h.by n i) from ps

entries-outermost : (b : Book) (text : List Definition) (head : List Entry) (ps : PartNodes) → Keeps b text → head ≡ []
    → head ++ entries_in b.all.items (told_by Nothing) 0 ps ≡ entries_in (with_predefined text) nothing 0 ps
entries-outermost b text head ps h e = λ i. e i ++ entries_in (h.all i) (λ n. []) 0 ps

found-as : (t : Holdings) (all all' : List Definition) (es es' : List Entry) (n : List ℕ) → Holds t all es → all ≡ all' → es ≡ es' → held t n ≡ found all' es' n
found-as t all all' es es' n h e f = h.by n ∙ (λ i. found (e i) (f i) n)

twice-as : (all all' : List Definition) (es es' : List Entry) → all ≡ all' → es ≡ es' → told_behind all [] es ≡ told_behind all' [] es'
twice-as all all' es es' e f = λ i. told_behind (e i) [] (f i)

pub shows-modulion : (b : Book) (s : Scope) (t : Holdings) (takes : Bool) (p : Bor (Unit {0})) (text : List Definition) (r : Reach) (head : List Entry) (from : ℕ) (ps : PartNodes) → Shows b s text r → head ≡ []
    → Holds t b.all.items (head ++ entries_in b.all.items (shown b s) from ps) → takes ≡ seizes_all ps → Shows b (Modulion' t takes p s) text (in_modulion r from ps)
shows-modulion b s t takes p text r head from ps h e holds is = record {
  keeps = h.keeps;
  by = λ n. λ i. or_else (found-as t b.all.items (with_predefined text) _ _ n holds h.keeps.all (entries-as b s text r head [] from ps h e) i) (if is i then h.by n i else h.keeps.predefined n i);
  around = h.by;
}

pub shows-block : (b : Book) (s : Scope) (t : Holdings) (p : Bor (Unit {0})) (text : List Definition) (r : Reach) (head : List Entry) (from : ℕ) (ps : PartNodes) → Shows b s text r
    → Holds t b.all.items (head ++ entries_in b.all.items (shown b s) from ps) → Shows b (Block' t p s) text (in_block r head from ps)
shows-block b s t p text r head from ps h holds = record {
  keeps = h.keeps;
  by = λ n. λ i. or_else (found-as t b.all.items (with_predefined text) _ _ n holds h.keeps.all (entries-as b s text r head head from ps h refl) i) (h.by n i);
  around = h.by;
}

pub shows-outermost : (b : Book) (t : Holdings) (text : List Definition) (head : List Entry) (ps : PartNodes) → Keeps b text → head ≡ []
    → Holds t b.all.items (head ++ entries_in b.all.items (told_by Nothing) 0 ps) → Shows b (Outermost t) text (outermost ps)
shows-outermost b t text head ps h e holds = record {
  keeps = h;
  by = λ n. λ i. or_else (found-as t b.all.items (with_predefined text) _ _ n holds h.all (entries-outermost b text head ps h e) i) (h.predefined n i);
  around = λ n. refl;
}

pub twice-modulion : (b : Book) (s : Scope) (text : List Definition) (r : Reach) (head : List Entry) (from : ℕ) (ps : PartNodes) → Shows b s text r → head ≡ []
    → told_behind b.all.items [] (head ++ entries_in b.all.items (shown b s) from ps) ≡ told_twice text (in_modulion r from ps)
twice-modulion b s text r head from ps h e = twice-as b.all.items (with_predefined text) _ _ h.keeps.all (entries-as b s text r head [] from ps h e)

pub twice-block : (b : Book) (s : Scope) (text : List Definition) (r : Reach) (head : List Entry) (from : ℕ) (ps : PartNodes) → Shows b s text r
    → told_behind b.all.items [] (head ++ entries_in b.all.items (shown b s) from ps) ≡ told_twice text (in_block r head from ps)
twice-block b s text r head from ps h = twice-as b.all.items (with_predefined text) _ _ h.keeps.all (entries-as b s text r head head from ps h refl)

pub twice-outermost : (b : Book) (text : List Definition) (head : List Entry) (ps : PartNodes) → Keeps b text → head ≡ []
    → told_behind b.all.items [] (head ++ entries_in b.all.items (told_by Nothing) 0 ps) ≡ told_twice text (outermost ps)
twice-outermost b text head ps h e = twice-as b.all.items (with_predefined text) _ _ h.all (entries-outermost b text head ps h e)
