-- What a reach sees is what its lists have.
use Rattle.std.proofs.Common.{◌≡◌, ℕ, zero, suc, ◌+◌, ◌<◌, ◌≤◌, Bool, true, false, ◌||◌, List, [], ◌∷◌, ◌++◌, length, ◌⊎◌, inl, inr, refl, sym, ◌∙◌, subst, arith, Contains}
use Rattle.std.specs.Prelude.{if◌then◌else◌, ◌↔◌}
use Rattle.std.proofs.lemmas.Bool.{cases_eq}
use Rattle.std.proofs.lemmas.List.{length-append}
use Rattle.chill_base.specs.declared.pos.Pos.{Pos}
use Rattle.names_model.specs.declared.definition.Definition.{Definition}
use Rattle.names_model.specs.declared.entry.Entry.{Entry}
use Rattle.names_model.specs.Parts.{PartTree, PartNodes, seize, seize_all, no_parts, more_parts, parts_in}
use Rattle.names_model.specs.Sizes.{size_of}
use Rattle.names_model.specs.Definitions.{with_predefined, predefined, predefined_under, numbers_on, spelling_at}
use Rattle.names_model.specs.Entries.{entry, numbers_of, own_entries, found, passed, given_entries, up_entries}
use Rattle.names_model.specs.Seeing.{Reach, outermost, in_modulion, in_block, is_seize_all, seizes_all, seized_entries, entries_in, or_else, nothing, sees}
use Rattle.names_laws.specs.Visible.{Seized, seized, seized_along, Entered, by_head, by_parts, by_name, Had, at_once, failing, IsPredefined, Inherited, from_around, from_language, NoneAround, Sees}
use Rattle.names_laws.proofs.Members.{none_in, here_in, later_in, in_cases, in_under, under_in, in_found, found_in, numbers_left, numbers_right, numbers_cases, in_one, one_in}
use Rattle.names_laws.proofs.Passing.{Tells, passes, passes_along, passed_is}
use Rattle.names_laws.proofs.Ups.{up_listed, listed_up}

-- a part enters the definition by seizing
record Seizing (all : List Definition) (around : List ℕ → List ℕ) (ps : PartNodes) (d : ℕ) : Type 0 where
  part : PartTree
  stands : Contains (parts_in ps) part
  enters : Contains (numbers_of (seized_entries all around part)) d

module _ (all : List Definition) (around : List ℕ → List ℕ) where
  -- the entries of one part
  abbrev entries_of : ℕ → PartTree → List Entry
  entries_of from p = own_entries from p ++ seized_entries all around p ++ given_entries all from p

  up_entered : (ps : PartNodes) (from d : ℕ) → Contains (numbers_of (up_entries all from ps)) d → Contains (numbers_of (entries_in all around from ps)) d
  up_entered no_parts from d c = c
  up_entered (more_parts p ps) from d c = elim (numbers_cases (own_entries from p ++ given_entries all from p) (up_entries all (from + size_of p) ps) d c) [
    | inl here ↦ numbers_left (entries_of from p) (entries_in all around (from + size_of p) ps) d (elim (numbers_cases (own_entries from p) (given_entries all from p) d here) [
      | inl mine ↦ numbers_left (own_entries from p ++ seized_entries all around p) (given_entries all from p) d (numbers_left (own_entries from p) (seized_entries all around p) d mine)
      | inr given ↦ numbers_right (own_entries from p ++ seized_entries all around p) (given_entries all from p) d given
    ])
    | inr there ↦ numbers_right (entries_of from p) (entries_in all around (from + size_of p) ps) d (up_entered ps (from + size_of p) d there)
  ]

  seized_entered : (ps : PartNodes) (from d : ℕ) (q : PartTree) → Contains (parts_in ps) q → Contains (numbers_of (seized_entries all around q)) d → Contains (numbers_of (entries_in all around from ps)) d
  seized_entered no_parts from d q there c = absurd (none_in q there)
  seized_entered (more_parts p ps) from d q there c = elim (in_cases p (parts_in ps) q there) [
    | inl is ↦ numbers_left (entries_of from p) (entries_in all around (from + size_of p) ps) d (numbers_left (own_entries from p ++ seized_entries all around p) (given_entries all from p) d (numbers_right (own_entries from p) (seized_entries all around p) d (subst (λ k. Contains (numbers_of (seized_entries all around k)) d) (sym is) c)))
    | inr behind ↦ numbers_right (entries_of from p) (entries_in all around (from + size_of p) ps) d (seized_entered ps (from + size_of p) d q behind c)
  ]

  entered_cases : (ps : PartNodes) (from d : ℕ) → Contains (numbers_of (entries_in all around from ps)) d → Contains (numbers_of (up_entries all from ps)) d ⊎ Seizing all around ps d
  entered_cases no_parts from d c = inl c
  entered_cases (more_parts p ps) from d c = elim (numbers_cases (entries_of from p) (entries_in all around (from + size_of p) ps) d c) [
    | inl here ↦ (elim (numbers_cases (own_entries from p ++ seized_entries all around p) (given_entries all from p) d here) [
      | inl front ↦ (elim (numbers_cases (own_entries from p) (seized_entries all around p) d front) [
        | inl mine ↦ inl (numbers_left (own_entries from p ++ given_entries all from p) (up_entries all (from + size_of p) ps) d (numbers_left (own_entries from p) (given_entries all from p) d mine))
        | inr taken ↦ inr (record { part = p; stands = here_in p (parts_in ps) p refl; enters = taken })
      ])
      | inr given ↦ inl (numbers_left (own_entries from p ++ given_entries all from p) (up_entries all (from + size_of p) ps) d (numbers_right (own_entries from p) (given_entries all from p) d given))
    ])
    | inr there ↦ (elim (entered_cases ps (from + size_of p) d there) [
      | inl up ↦ inl (numbers_right (own_entries from p ++ given_entries all from p) (up_entries all (from + size_of p) ps) d up)
      | inr taken ↦ inr (record { part = taken.part; stands = later_in p (parts_in ps) taken.part taken.stands; enters = taken.enters })
    ])
  ]

  module _ (Around : ℕ → Type 0) (tells : Tells all around Around) where
    seizing_is : (ps : PartNodes) (d : ℕ) (q : PartTree) → Contains (parts_in ps) q → Contains (numbers_of (seized_entries all around q)) d → Seized all Around ps d
    seizing_is ps d (seize n) there c = elim (passed_is all around Around tells n.spelling d (one_in (entry n.at (passed all around n.spelling)) d c)) [
      | inl has ↦ seized n there has.1 has.0
      | inr a ↦ seized_along n there a.mode a.named a.has_mode a.element a.has
    ]
    seizing_is ps d q there c = absurd (none_in d c)

    seized_listed : (ps : PartNodes) (from d : ℕ) → Seized all Around ps d → Contains (numbers_of (entries_in all around from ps)) d
    seized_listed ps from d (seized n there e a) = seized_entered ps from d (seize n) there (in_one (entry n.at (passed all around n.spelling)) d (passes all around Around tells n.spelling d a e))
    seized_listed ps from d (seized_along n there mode e am element a) = seized_entered ps from d (seize n) there (in_one (entry n.at (passed all around n.spelling)) d
        (passes_along all around Around tells n.spelling d (record { mode = mode; named = e; has_mode = am; element = element; has = a })))

    entered_listed : (head : List Entry) (from : ℕ) (ps : PartNodes) (d : ℕ) → Entered all Around head from ps d → Contains (numbers_of (head ++ entries_in all around from ps)) d
    entered_listed head from ps d (by_head c) = numbers_left head (entries_in all around from ps) d c
    entered_listed head from ps d (by_parts u) = numbers_right head (entries_in all around from ps) d (up_entered ps from d (up_listed all u))
    entered_listed head from ps d (by_name s) = numbers_right head (entries_in all around from ps) d (seized_listed ps from d s)

    listed_entered : (head : List Entry) (from : ℕ) (ps : PartNodes) (d : ℕ) → Contains (numbers_of (head ++ entries_in all around from ps)) d → Entered all Around head from ps d
    listed_entered head from ps d c = elim (numbers_cases head (entries_in all around from ps) d c) [
      | inl here ↦ by_head here
      | inr there ↦ (elim (entered_cases ps from d there) [
        | inl up ↦ by_parts (listed_up all ps from d up)
        | inr taken ↦ by_name (seizing_is ps d taken.part taken.stands taken.enters)
      ])
    ]

-- ---- what is entered, or else what is there otherwise

module _ (all : List Definition) (es : List Entry) (Enters : ℕ → Type 0) (listed : (d : ℕ) → Enters d → Contains (numbers_of es) d) (enters : (d : ℕ) → Contains (numbers_of es) d → Enters d) (rest : List ℕ → List ℕ) (Rest : ℕ → Type 0) (tells : Tells all rest Rest) where
  had_listed : (n : List ℕ) (d : ℕ) → Had all Enters Rest d → spelling_at all d ≡ n → Contains (or_else (found all es n) (rest n)) d
  had_listed n d (at_once h) e = by (found all es n) (in_found all es n d (listed d h) e)
    where
      by : (xs : List ℕ) → Contains xs d → Contains (or_else xs (rest n)) d
      by [] c = absurd (none_in d c)
      by (x ∷ xs) c = c
  had_listed n d (failing none r) e = by (found all es n) refl
    where
      by : (xs : List ℕ) → found all es n ≡ xs → Contains (or_else xs (rest n)) d
      by [] is = tells.listed n d r e
      by (x ∷ xs) is =
          let f = found_in all es n x (subst (λ ys. Contains ys x) (sym is) (here_in x xs x refl)) in
          absurd (none x (enters x f.0) (f.1 ∙ sym e))

  listed_had : (n : List ℕ) (d : ℕ) → Contains (or_else (found all es n) (rest n)) d → Had all Enters Rest d × (spelling_at all d ≡ n)
  listed_had n d c = by (found all es n) refl c
    where
      by : (xs : List ℕ) → found all es n ≡ xs → Contains (or_else xs (rest n)) d → Had all Enters Rest d × (spelling_at all d ≡ n)
      by [] is h =
          let name = tells.named n d h in
          (failing (λ k en same. none_in k (subst (λ ys. Contains ys k) is (in_found all es n k (listed k en) (same ∙ name)))) (tells.told n d h), name)
      by (x ∷ xs) is h =
          let f = found_in all es n d (subst (λ ys. Contains ys d) (sym is) h) in
          (at_once (enters d f.0), f.1)

  had_tells : Tells all (λ n. or_else (found all es n) (rest n)) (λ d. Had all Enters Rest d)
  had_tells = record { listed = had_listed; told = λ n d c. (listed_had n d c).0; named = λ n d c. (listed_had n d c).1 }

-- ---- the predefined names

in_numbers : (count from d : ℕ) → from ≤ d → d < from + count → Contains (numbers_on from count) d
in_numbers zero from d low high = absurd (omega arith)
in_numbers (suc count) from d low high = elim (cases_eq from d) [
  | inl is ↦ here_in from (numbers_on (suc from) count) d is
  | inr isnt ↦ later_in from (numbers_on (suc from) count) d (in_numbers count (suc from) d (omega (arith, isnt)) (omega arith))
]

pub numbers_in : (count from d : ℕ) → Contains (numbers_on from count) d → (from ≤ d) × (d < from + count)
numbers_in zero from d c = absurd (none_in d c)
numbers_in (suc count) from d c = elim (in_cases from (numbers_on (suc from) count) d c) [
  | inl is ↦ (omega arith, omega arith)
  | inr there ↦ (let h = numbers_in count (suc from) d there in (omega (arith, h.0), omega (arith, h.1)))
]

all_length : (text : List Definition) → length (with_predefined text) ≡ length text + length predefined
all_length text = length-append text predefined

predefined_tells : (text : List Definition) → Tells (with_predefined text) (predefined_under text) (IsPredefined text)
predefined_tells text = record {
  listed = λ n d h e. in_under (with_predefined text) n (numbers_on (length text) (length predefined)) d
      (in_numbers (length predefined) (length text) d h.behind (subst (λ k. d < k) (all_length text) h.within)) e;
  told = λ n d c.
      let h = numbers_in (length predefined) (length text) d (under_in (with_predefined text) n (numbers_on (length text) (length predefined)) d c).0 in
      record { behind = h.0; within = subst (λ k. d < k) (sym (all_length text)) h.1 };
  named = λ n d c. (under_in (with_predefined text) n (numbers_on (length text) (length predefined)) d c).1;
}

-- ---- SEIZE ALL

all_seized : (ps : PartNodes) → seizes_all ps ≡ true → (at : Pos) × Contains (parts_in ps) (seize_all at)
all_seized no_parts e = let f : ⊥ = cc in absurd f
all_seized (more_parts p ps) e = by p e (all_seized ps)
  where
    by : (q : PartTree) → (is_seize_all q || seizes_all ps) ≡ true → (seizes_all ps ≡ true → (at : Pos) × Contains (parts_in ps) (seize_all at)) → (at : Pos) × Contains (q ∷ parts_in ps) (seize_all at)
    by (seize_all at) t rest = (at, here_in (seize_all at) (parts_in ps) (seize_all at) refl)
    by q t rest = let h = rest t in (h.0, later_in q (parts_in ps) (seize_all h.0) h.1)

none_seized : (ps : PartNodes) → seizes_all ps ≡ false → (at : Pos) → ¬ Contains (parts_in ps) (seize_all at)
none_seized no_parts e at c = none_in (seize_all at) c
none_seized (more_parts p ps) e at c = elim (in_cases p (parts_in ps) (seize_all at) c) [
  | inl is ↦ (let t : (true || seizes_all ps) ≡ false = subst (λ q. (is_seize_all q || seizes_all ps) ≡ false) is e in cc)
  | inr there ↦ none_seized ps (by (is_seize_all p) e) at there
]
  where
    by : (b : Bool) → (b || seizes_all ps) ≡ false → seizes_all ps ≡ false
    by true t = cc
    by false t = t

inherited_tells : (text : List Definition) (around : List ℕ → List ℕ) (Around : ℕ → Type 0) (ps : PartNodes) → Tells (with_predefined text) around Around → Tells (with_predefined text) (λ n. if seizes_all ps then around n else predefined_under text n) (Inherited text Around ps)
inherited_tells text around Around ps tells = by (seizes_all ps) refl
  where
    pre : Tells (with_predefined text) (predefined_under text) (IsPredefined text)
    pre = predefined_tells text

    by_all : seizes_all ps ≡ true → (n : List ℕ) (d : ℕ) → Inherited text Around ps d → Around d
    by_all t n d (from_around at there a) = a
    by_all t n d (from_language none p) = let s = all_seized ps t in absurd (none s.0 s.1)

    by_none : seizes_all ps ≡ false → (n : List ℕ) (d : ℕ) → Inherited text Around ps d → IsPredefined text d
    by_none t n d (from_around at there a) = absurd (none_seized ps t at there)
    by_none t n d (from_language none p) = p

    by : (b : Bool) → seizes_all ps ≡ b → Tells (with_predefined text) (λ n. if b then around n else predefined_under text n) (Inherited text Around ps)
    by true t = record {
      listed = λ n d h e. tells.listed n d (by_all t n d h) e;
      told = λ n d c. let s = all_seized ps t in from_around s.0 s.1 (tells.told n d c);
      named = tells.named;
    }
    by false t = record {
      listed = λ n d h e. pre.listed n d (by_none t n d h) e;
      told = λ n d c. from_language (none_seized ps t) (pre.told n d c);
      named = pre.named;
    }

-- ---- the reaches

pub nothing_tells : (all : List Definition) → Tells all nothing NoneAround
nothing_tells all = record { listed = λ n d h e. absurd h; told = λ n d c. none_in d c; named = λ n d c. absurd (none_in d c) }

pub seen_tells : (text : List Definition) (r : Reach) → Tells (with_predefined text) (sees text r) (Sees text r)
seen_tells text (outermost ps) =
    let all = with_predefined text in
    had_tells all (entries_in all nothing 0 ps) (λ d. Entered all NoneAround [] 0 ps d)
    (entered_listed all nothing NoneAround (nothing_tells all) [] 0 ps)
    (listed_entered all nothing NoneAround (nothing_tells all) [] 0 ps)
    (predefined_under text) (IsPredefined text) (predefined_tells text)
seen_tells text (in_modulion r from ps) =
    let all = with_predefined text in
    had_tells all (entries_in all (sees text r) from ps) (λ d. Entered all (Sees text r) [] from ps d)
    (entered_listed all (sees text r) (Sees text r) (seen_tells text r) [] from ps)
    (listed_entered all (sees text r) (Sees text r) (seen_tells text r) [] from ps)
    (λ n. if seizes_all ps then sees text r n else predefined_under text n) (Inherited text (Sees text r) ps) (inherited_tells text (sees text r) (Sees text r) ps (seen_tells text r))
seen_tells text (in_block r head from ps) =
    let all = with_predefined text in
    had_tells all (head ++ entries_in all (sees text r) from ps) (λ d. Entered all (Sees text r) head from ps d)
    (entered_listed all (sees text r) (Sees text r) (seen_tells text r) head from ps)
    (listed_entered all (sees text r) (Sees text r) (seen_tells text r) head from ps)
    (sees text r) (Sees text r) (seen_tells text r)

pub seeing : (text : List Definition) (r : Reach) (n : List ℕ) (d : ℕ) → Contains (sees text r n) d ↔ (Sees text r d × (spelling_at (with_predefined text) d ≡ n))
seeing text r n d =
    let tells = seen_tells text r in
    ((λ c. (tells.told n d c, tells.named n d c)), (λ h. tells.listed n d h.0 h.1))
