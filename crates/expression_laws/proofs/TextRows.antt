-- The rows of a text: each definition of the text has one, by what defines it, and it stands where its kind does.
use Rattle.std.proofs.Common.{◌≡◌, ℕ, zero, suc, Bool, true, false, ◌&&◌, ◌||◌, List, [], ◌∷◌, ◌++◌, Option, Some, None, ◌⊎◌, inl, inr, refl, sym, ap, ◌∙◌, subst, true≢false}
use Rattle.std.specs.Prelude.{not, map, slice_get, option_and_then}
use Rattle.std.specs.List.{list_all}
use Rattle.chill_tree.specs.ItemTree.{ProgramTree}
use Rattle.names_model.specs.declared.kind.Kind.{Kind}
use Rattle.names_model.specs.declared.kind.Kind.TheVariants as kinds
use Rattle.names_model.specs.declared.definition.Definition.{Definition}
use Rattle.names_model.specs.Definitions.{text_definitions, predefined, with_predefined}
use Rattle.names_model.specs.Resolving.{level_of}
use Rattle.ground_laws.specs.Defining.{Defines, AllDefine}
use Rattle.ground_laws.proofs.Defining.{origins_define}
use Rattle.checks_model.specs.Ground.{Ground, Origin, Entry, a_synonym, a_mode, an_element, a_location, a_parameter, a_counter, a_received, a_procedure, a_process, a_signal, a_modulion, a_predefined, mode_of_entry}
use Rattle.checks_model.specs.Origins.{origins_of}
use Rattle.checks_model.specs.Table.{entry_with_counters, IsStatementGroundOf}
use Rattle.written_laws.specs.Written.{Each}
use Rattle.elaborated_laws.proofs.Told.{no_some, same_some, both_left, both_right}
use Rattle.elaboration_model.specs.Numbering.{Row, rows, is_direct, is_location, may_be_local, has_body, is_signal}
use Rattle.elaboration_model.specs.Elaborated.{source_of}
use Rattle.expression_laws.specs.Things.{IsRowPlaced, RowAt, is_of_text}
use Rattle.expression_laws.specs.Placed.{MeetsOutside, RowsPlacedLaw}
use Rattle.expression_laws.proofs.Placed.{fits_kind, FitsPlace, text_placed}

-- ---- definitions by what defines them

pub definition_there : (os : List Origin) (ds : List Definition) (k : ℕ) (o : Origin) → AllDefine os ds → slice_get os k ≡ Some o → (d : Definition) × ((slice_get ds k ≡ Some d) × Defines o d)
definition_there [] [] k o all at = no_some o at
definition_there [] (e ∷ ds) k o all at = absurd all
definition_there (x ∷ os) [] k o all at = absurd all
definition_there (x ∷ os) (d ∷ ds) zero o all at = (d, (refl, subst (λ y. Defines y d) (same_some x o at) all.0))
definition_there (x ∷ os) (d ∷ ds) (suc k) o all at = definition_there os ds k o all.1 at

abbrev is_predefined_kind : Kind → Bool
is_predefined_kind kinds.PredefinedMode = true
is_predefined_kind kinds.PredefinedConstant = true
is_predefined_kind kinds.PredefinedRoutine = true
is_predefined_kind kinds.MeasuringRoutine = true
is_predefined_kind _ = false

abbrev is_predefined : Definition → Bool
is_predefined d = is_predefined_kind d.kind

of_all : (p : Definition → Bool) (ds : List Definition) (k : ℕ) (d : Definition) → list_all p ds ≡ true → slice_get ds k ≡ Some d → p d ≡ true
of_all p [] k d all at = no_some d at
of_all p (e ∷ ds) zero d all at = subst (λ x. p x ≡ true) (same_some e d at) (both_left (p e) (list_all p ds) all)
of_all p (e ∷ ds) (suc k) d all at = of_all p ds k d (both_right (p e) (list_all p ds) all) at

-- what stands behind others passes, or it stands among the first
among_first : (p : Definition → Bool) (ds es : List Definition) (k : ℕ) (d : Definition) → list_all p es ≡ true → slice_get (ds ++ es) k ≡ Some d → p d ≡ false → slice_get ds k ≡ Some d
among_first p [] es k d all at apart = absurd (true≢false (sym (of_all p es k d all at) ∙ apart))
among_first p (e ∷ ds) es zero d all at apart = at
among_first p (e ∷ ds) es (suc k) d all at apart = among_first p ds es k d all at apart

all_predefined : list_all is_predefined predefined ≡ true
all_predefined = refl

text_kind : (o : Origin) (d : Definition) → Defines o d → is_of_text o ≡ true → is_predefined d ≡ false
text_kind (a_synonym s) d is text = ap is_predefined_kind is.0
text_kind (a_mode novel m) d is text = ap is_predefined_kind is
text_kind (an_element ns part owner) d is text = ap is_predefined_kind is.0
text_kind (a_location l) d is text = ap is_predefined_kind is.0
text_kind (a_parameter m) d is text = ap is_predefined_kind is
text_kind (a_counter c) d is text = ap is_predefined_kind is.0
text_kind (a_received n count part) d is text = ap is_predefined_kind is
text_kind (a_procedure p) d is text = ap is_predefined_kind is.0
text_kind (a_process p) d is text = ap is_predefined_kind is.0
text_kind (a_signal s) d is text = ap is_predefined_kind is.0
text_kind (a_modulion kind items) d is text = ap is_predefined_kind is
text_kind (a_predefined p) d is text = absurd (true≢false (sym text))

-- ---- where they stand

fits_at : (ds : List Definition) (k : ℕ) (d : Definition) → Each FitsPlace ds → slice_get ds k ≡ Some d → FitsPlace d
fits_at [] k d all at = no_some d at
fits_at (e ∷ ds) zero d all at = subst FitsPlace (same_some e d at) all.0
fits_at (e ∷ ds) (suc k) d all at = fits_at ds k d all.1 at

of_kind : (d : Definition) (k : Kind) → d.kind ≡ k → FitsPlace d → fits_kind k (is_direct d.inside) ≡ true
of_kind d k is fit = ap (λ x. fits_kind x (is_direct d.inside)) (sym is) ∙ fit

not_false : (b : Bool) → not b ≡ true → b ≡ false
not_false true is = sym is
not_false false is = refl

stands_direct : (o : Origin) (d : Definition) → Defines o d → FitsPlace d → (has_body o || is_signal o) ≡ true → is_direct d.inside ≡ true
stands_direct (a_procedure p) d is fit holds = of_kind d kinds.Procedure is.0 fit
stands_direct (a_process p) d is fit holds = of_kind d kinds.Process is.0 fit
stands_direct (a_signal s) d is fit holds = of_kind d kinds.Signal is.0 fit
stands_direct o d is fit holds = absurd (true≢false (sym holds))

stands_inner : (o : Origin) (d : Definition) → Defines o d → FitsPlace d → (may_be_local o && not (is_location o)) ≡ true → is_direct d.inside ≡ false
stands_inner (a_parameter m) d is fit holds = not_false (is_direct d.inside) (of_kind d kinds.Parameter is fit)
stands_inner (a_counter c) d is fit holds = not_false (is_direct d.inside) (of_kind d kinds.Counter is.0 fit)
stands_inner (a_received n count part) d is fit holds = not_false (is_direct d.inside) (of_kind d kinds.Received is fit)
stands_inner o d is fit holds = absurd (true≢false (sym holds))

-- ---- rows

abbrev pub row_of : Definition → Origin → Entry → Row
row_of d o e = record { name = d.name.spelling; inside = d.inside; origin = o; mode = e.mode }

row_there : (ds : List Definition) (os : List Origin) (es : List Entry) (k : ℕ) (d : Definition) (o : Origin) (e : Entry) → slice_get ds k ≡ Some d → slice_get os k ≡ Some o → slice_get es k ≡ Some e
    → slice_get (rows ds os es) k ≡ Some (row_of d o e)
row_there [] os es k d o e first second third = no_some d first
row_there (x ∷ ds) [] es k d o e first second third = no_some o second
row_there (x ∷ ds) (y ∷ os) [] k d o e first second third = no_some e third
row_there (x ∷ ds) (y ∷ os) (z ∷ es) zero d o e first second third =
    ap (λ (q : Definition). Some (row_of q y z)) (same_some x d first) ∙ (ap (λ q. Some (row_of d q z)) (same_some y o second) ∙ ap (λ (q : Entry). Some (row_of d o q)) (same_some z e third))
row_there (x ∷ ds) (y ∷ os) (z ∷ es) (suc k) d o e first second third = row_there ds os es k d o e first second third

mapped_at : {A B : Type 0} (f : A → B) (xs : List A) (k : ℕ) (x : A) → slice_get xs k ≡ Some x → slice_get (map f xs) k ≡ Some (f x)
mapped_at f [] k x at = no_some x at
mapped_at f (y ∷ xs) zero x at = ap (λ z. Some (f z)) (same_some y x at)
mapped_at f (y ∷ xs) (suc k) x at = mapped_at f xs k x at

pub rows_placed : RowsPlacedLaw
rows_placed t g ground outside d o at text =
    let ds = text_definitions (level_of t) in
    let origins_are : g.origins ≡ origins_of t = ap (λ (x : Ground). x.origins) ground.names in
    let x = definition_there (origins_of t) (with_predefined ds) d o (origins_define t) (sym (ap (λ os. slice_get os d) origins_are) ∙ at) in
    let own = among_first is_predefined ds predefined d x.0 all_predefined x.1.0 (text_kind o x.0 x.1.1 text) in
    let entry_is = ap (λ es. slice_get es d) ground.entries ∙ mapped_at (entry_with_counters g) g.origins d o at in
    let e = entry_with_counters g o in
    let r = row_of x.0 o e in
    let is = row_there ds g.origins g.entries d x.0 o e own at entry_is in
    let fit = fits_at ds d x.0 (text_placed t) own in
    record {
      row = r;
      is = is;
      origin = refl;
      mode = ap mode_of_entry entry_is;
      placed = record {
        direct = λ holds. stands_direct o x.0 x.1.1 fit holds;
        inner = λ holds. stands_inner o x.0 x.1.1 fit holds;
        values = λ location inner m mode. outside d r is location inner m mode;
      };
    }
