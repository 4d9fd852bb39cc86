-- An elaborated program has no more things than its text defines.
use Rattle.std.proofs.Common.{◌≡◌, ◌<◌, ◌≤◌, ℕ, zero, suc, Bool, true, false, List, [], ◌∷◌, ◌++◌, Option, Some, None, length, inl, inr, arith, refl, ap}
use Rattle.std.specs.Prelude.{nat_lt, slice_get, if◌then◌else◌}
use Rattle.std.proofs.lemmas.Bool.{cases_lt}
use Rattle.chill_tree.specs.ItemTree.{ProgramTree}
use Rattle.names_model.specs.declared.definition.Definition.{Definition}
use Rattle.names_model.specs.Definitions.{text_definitions, predefined, with_predefined}
use Rattle.names_model.specs.Dependence.{groups_in, told_selves}
use Rattle.names_model.specs.NameRules.{surplus_of, told_surplus, told_in}
use Rattle.names_model.specs.Resolving.{told_of_names, level_of}
use Rattle.names_model.specs.Seeing.{outermost}
use Rattle.checks_model.specs.Ground.{Origin, Entry}
use Rattle.checks_model.specs.Diagnoses.{HasNames}
use Rattle.written_laws.proofs.WrittenSo.{none_listed}
use Rattle.elaborated_laws.proofs.Told.{none_later, not_above, no_some, same_some}
use Rattle.elaboration_model.specs.Parts.{made_of}
use Rattle.elaboration_model.specs.Numbering.{Row, rows, has_body}
use Rattle.elaboration_model.specs.Elaborated.{rows_made, body_as, outermost as outermost_body, source_of}
use Rattle.head_laws.specs.Few.{FewThingsLaw}
use Rattle.head_laws.proofs.Rows.{made_parts}
use Rattle.head_laws.proofs.Heads.{five_parts}

-- ---- definitions

surplus_some : (d : Option Definition) (x : Definition) → d ≡ Some x → surplus_of d ≡ [] → ⊥
surplus_some None x is e = no_some x is
surplus_some (Some d) x is e = cc

got : (xs ys : List Definition) (k : ℕ) → k < length xs → (x : Definition) × (slice_get (xs ++ ys) k ≡ Some x)
got [] ys k less = absurd (omega (arith, less))
got (x ∷ xs) ys zero less = (x, refl)
got (x ∷ xs) ys (suc k) less = got xs ys k (omega (arith, less))

few_definitions : (ds : List Definition) → told_surplus ds ≡ [] → length ds ≤ 4096
few_definitions ds none = by (nat_lt 4096 (length ds)) refl none
  where
    by : (b : Bool) → nat_lt 4096 (length ds) ≡ b → (if b then surplus_of (slice_get (with_predefined ds) 4096) else []) ≡ [] → length ds ≤ 4096
    by false is e = not_above 4096 (length ds) is
    by true is e = elim (cases_lt 4096 (length ds)) [
      | inl less ↦ (let there = got ds predefined 4096 less in absurd (surplus_some (slice_get (with_predefined ds) 4096) there.0 there.1 e))
      | inr low ↦ low
    ]

text_few : (text : List ℕ) (t : ProgramTree) → HasNames text t → length (text_definitions (level_of t)) ≤ 4096
text_few text t has =
    let ps = level_of t in
    let ds = text_definitions ps in
    few_definitions ds (none_later (told_in ds (outermost ps) 0 ps ++ told_selves ds (groups_in ds (outermost ps) 0 ps)) (told_surplus ds) (none_listed (told_of_names ps) has.names))

rows_few : (ds : List Definition) (os : List Origin) (es : List Entry) → length (rows ds os es) ≤ length ds
rows_few [] os es = omega arith
rows_few (d ∷ ds) [] es = omega arith
rows_few (d ∷ ds) (o ∷ os) [] = omega arith
rows_few (d ∷ ds) (o ∷ os) (e ∷ es) = let rest = rows_few ds os es in omega (arith, rest)

-- ---- what is made of rows

module _ {A : Type 0} (f : ℕ → Row → Option A) (test : Row → Bool) where
  made_by : (d : ℕ) (q : Row) (rs : List Row) (xs : List A) (b : Bool) → (if b then made_of (λ x xs. x ∷ xs) (f d q) (rows_made f test (suc d) rs) else rows_made f test (suc d) rs) ≡ Some xs
      → ((ys : List A) → rows_made f test (suc d) rs ≡ Some ys → length ys ≤ length rs) → length xs ≤ suc (length rs)
  made_by d q rs xs true made rest =
      let m = made_parts (λ x xs. x ∷ xs) (f d q) (rows_made f test (suc d) rs) xs made in
      let less = rest m.later m.of_later in
      let long = ap length m.whole in
      omega (arith, less, long)
  made_by d q rs xs false made rest = let less = rest xs made in omega (arith, less)

  made_few : (d : ℕ) (rs : List Row) (xs : List A) → rows_made f test d rs ≡ Some xs → length xs ≤ length rs
  made_few d [] xs made = let long = ap length (same_some [] xs made) in omega (arith, long)
  made_few d (q ∷ rs) xs made = made_by d q rs xs (test q) made (λ ys is. made_few (suc d) rs ys is)

pub few_things : FewThingsLaw
few_things text t g p has made =
    let s = source_of g t in
    let parts = five_parts s t p made in
    let bodies = made_parts (λ b bs. b ∷ bs) (outermost_body s t) (rows_made (λ d r. body_as s d r r.origin) (λ r. has_body r.origin) 0 s.rows) p.bodies parts.of_bodies in
    let few = text_few text t has.has_modes.has_names in
    let of_rows = rows_few (text_definitions (level_of t)) g.origins g.entries in
    let one = made_few _ _ 0 s.rows p.locations parts.locations in
    let two = made_few _ _ 0 s.rows p.events parts.events in
    let three = made_few _ _ 0 s.rows p.buffers parts.buffers in
    let four = made_few _ _ 0 s.rows p.signals parts.signals in
    let five = made_few (λ d r. body_as s d r r.origin) (λ r. has_body r.origin) 0 s.rows bodies.later bodies.of_later in
    let whole = ap length bodies.whole in
    record {
      locations = omega (arith, few, of_rows, one);
      events = omega (arith, few, of_rows, two);
      buffers = omega (arith, few, of_rows, three);
      signals = omega (arith, few, of_rows, four);
      bodies = omega (arith, few, of_rows, five, whole);
    }
