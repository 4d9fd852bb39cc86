-- What may be named from where a definition stands, by the rows of a text.
use Rattle.std.proofs.Common.{◌≡◌, ℕ, zero, suc, ◌+◌, Bool, true, false, List, [], ◌∷◌, Option, Some, None, inl, inr, refl, sym, ap, ◌∙◌, subst, arith, Contains}
use Rattle.std.specs.Prelude.{slice_get, if◌then◌else◌}
use Rattle.chill_tree.specs.declared.tree.item.ModulionKind.{ModulionKind}
use Rattle.chill_tree.specs.declared.tree.item.ModulionKind.TheVariants as modulions
use Rattle.chill_tree.specs.ItemTree.{ItemNodes, ProgramTree}
use Rattle.names_model.specs.declared.definition.Inside.TheVariants.{Outermost, Modulion, Body}
use Rattle.names_model.specs.declared.definition.Definition.{Definition}
use Rattle.names_model.specs.declared.names.Resolved.{Resolved}
use Rattle.names_model.specs.Definitions.{text_definitions}
use Rattle.names_model.specs.Resolving.{level_of}
use Rattle.names_laws.specs.Rising.{Rise, use_places, definition_places}
use Rattle.names_laws.proofs.Members.{here_in, later_in}
use Rattle.names_laws.proofs.RisingTokens.{rising_tokens}
use Rattle.names_laws.proofs.RisingDefinitions.{rising_definitions}
use Rattle.ground_laws.proofs.Rows.{row_found}
use Rattle.checks_model.specs.Ground.{Origin, Entry, a_modulion, number_at}
use Rattle.checks_model.specs.Table.{numbered}
use Rattle.checks_model.specs.Diagnoses.{HasNames}
use Rattle.elaborated_laws.proofs.Told.{no_some, same_some}
use Rattle.elaboration_model.specs.Numbering.{Source, Row, rows, has_body, is_local_of, body_around, body_of, body_by, body_number, count_before, a_local, no_thing, thing_directly, local_in, thing_by}
use Rattle.elaboration_model.specs.Elaborated.{region_in, region_around}
use Rattle.reached_laws.specs.Reached.{IsPassed, IsOpenTo}
use Rattle.reached_laws.proofs.Reaches.{Fact, Fits}

-- ---- definitions by their places

numbered_places : (k : ℕ) (ds : List Definition) → use_places (numbered k ds) ≡ definition_places ds
numbered_places k [] = refl
numbered_places k (d ∷ ds) = ap (λ ps. d.name.at ∷ ps) (numbered_places (suc k) ds)

abbrev row_to : Definition → ℕ → Resolved
row_to d k = record { at = d.name.at; to = k }

in_numbered : (from k e : ℕ) (ds : List Definition) (d : Definition) → slice_get ds k ≡ Some d → e ≡ from + k → Contains (numbered from ds) (row_to d e)
in_numbered from k e [] d at same = no_some d at
in_numbered from zero e (x ∷ ds) d at same = here_in (row_to x from) (numbered (suc from) ds) (row_to d e) (ap (λ y. row_to y from) (same_some x d at) ∙ ap (row_to d) (let back : from ≡ e = omega (arith, same) in back))
in_numbered from (suc k) e (x ∷ ds) d at same = later_in (row_to x from) (numbered (suc from) ds) (row_to d e) (in_numbered (suc from) k e ds d at (omega (arith, same)))

-- the number of a definition stands with its place
pub defined_at : (bytes : List ℕ) (t : ProgramTree) (k : ℕ) (d : Definition) → HasNames bytes t → slice_get (text_definitions (level_of t)) k ≡ Some d → number_at (numbered 0 (text_definitions (level_of t))) d.name.at ≡ Some k
defined_at bytes t k d has at =
    let ds = text_definitions (level_of t) in
    let tokens = has.has_tree in
    let rise = rising_definitions tokens.tokens t (rising_tokens bytes tokens.tokens tokens.are) tokens.tree_of in
    row_found (numbered 0 ds) (row_to d k) (subst Rise (sym (numbered_places 0 ds)) rise) (in_numbered 0 k k ds d at (omega arith))

-- ---- rows

-- what a row is made of
pub record RowIs (ds : List Definition) (os : List Origin) (k : ℕ) (r : Row) : Type 0 where
  pub definition : Definition
  pub is : slice_get ds k ≡ Some definition
  pub origin : slice_get os k ≡ Some r.origin
  pub inside : r.inside ≡ definition.inside

pub row_is : (ds : List Definition) (os : List Origin) (es : List Entry) (k : ℕ) (r : Row) → slice_get (rows ds os es) k ≡ Some r → RowIs ds os k r
row_is [] os es k r at = no_some r at
row_is (d ∷ ds) [] es k r at = no_some r at
row_is (d ∷ ds) (o ∷ os) [] k r at = no_some r at
row_is (d ∷ ds) (o ∷ os) (e ∷ es) zero r at =
    let same = same_some (record { name = d.name.spelling; inside = d.inside; origin = o; mode = e.mode }) r at in
    record { definition = d; is = refl; origin = ap (λ (x : Row). Some x.origin) same; inside = sym (ap (λ (x : Row). x.inside) same) }
row_is (d ∷ ds) (o ∷ os) (e ∷ es) (suc k) r at = (let rest = row_is ds os es k r at in record { definition = rest.definition; is = rest.is; origin = rest.origin; inside = rest.inside })

-- ---- modulions by their rows

no_body : (rs : List Row) (d : ℕ) (o : Option Row) → ((r : Row) → o ≡ Some r → has_body r.origin ≡ false) → body_by rs d o ≡ 0
no_body rs d None none = refl
no_body rs d (Some r) none = ap (λ b. if b then body_number rs d else 0) (none r refl)

-- the row of a modulion
abbrev pub IsModulionRow : List Row → ℕ → ModulionKind → ItemNodes → Type 0
IsModulionRow rs d kind items = (r : Row) → slice_get rs d ≡ Some r → r.origin ≡ a_modulion kind items

pub outermost_body : (rs : List Row) (d : ℕ) (kind : ModulionKind) (items : ItemNodes) → IsModulionRow rs d kind items → body_of rs d ≡ 0
outermost_body rs d kind items is = no_body rs d (slice_get rs d) (λ r at. ap has_body (is r at))

abbrev with_origin : Row → Origin → Row
with_origin r o = record { name = r.name; inside = r.inside; origin = o; mode = r.mode }

no_region : (rs : List Row) (d : ℕ) (o : Option Row) (items : ItemNodes) → ((r : Row) → o ≡ Some r → r.origin ≡ a_modulion modulions.Module items) → region_in (thing_by rs d o) ≡ None
no_region rs d None items is = refl
no_region rs d (Some r) items is = by (body_around rs r.inside)
  where
    local : (c : ℕ) (b : Bool) → region_in (if b then a_local c (count_before (is_local_of rs c) d rs) else no_thing) ≡ None
    local c true = refl
    local c false = refl

    by : (b : Option ℕ) → region_in (local_in rs d r b) ≡ None
    by None = ap (λ o. region_in (thing_directly rs d (with_origin r o))) (is r refl)
    by (Some c) = local c (is_local_of rs c r)

-- a module is no region
pub module_alone : (rs : List Row) (d : ℕ) (items : ItemNodes) → IsModulionRow rs d modulions.Module items → region_around rs (Modulion d) ≡ None
module_alone rs d items is = no_region rs d (slice_get rs d) items is

-- ---- what may be named

module _ (s : Source) (text : List Definition) (inside : (d : ℕ) (r : Row) (x : Definition) → slice_get s.rows d ≡ Some r → slice_get text d ≡ Some x → r.inside ≡ x.inside) where
  -- the row of a definition may be named in a body and a region
  abbrev pub Open : ℕ → Option ℕ → Fact text
  Open body region d x = (r : Row) → slice_get s.rows d ≡ Some r → IsOpenTo s body region r

  -- what may be named outside all regions may be named in any
  pub open_more : (body : ℕ) (region : Option ℕ) (d : ℕ) (x : Definition) → Open body None d x → Open body region d x
  open_more body region d x so r at = record {
    own = (so r at).own;
    kept = λ k is. (elim ((so r at).kept k is) [ inl none ↦ no_some k none | inr passed ↦ inr passed ]);
  }

  pub fits_body : (n : ℕ) (region : Option ℕ) → Fits text (Open (body_of s.rows n) region) (Body n)
  fits_body n region d x at (inl is) r row =
      let place = inside d r x row at ∙ is in
      record {
        own = λ b here. same_some b (body_of s.rows n) (sym here ∙ ap (body_around s.rows) place);
        kept = λ k here. no_some k (sym (ap (region_around s.rows) place) ∙ here);
      }
  fits_body n region d x at (inr is) r row =
      let place = inside d r x row at ∙ is in
      record {
        own = λ b here. same_some b (body_of s.rows n) (sym here ∙ ap (body_around s.rows) place);
        kept = λ k here. no_some k (sym (ap (region_around s.rows) place) ∙ here);
      }

  pub open_directly : (m body d : ℕ) (x : Definition) → slice_get text d ≡ Some x → x.inside ≡ Modulion m → Open body (region_around s.rows (Modulion m)) d x
  open_directly m body d x at is r row =
      let place = inside d r x row at ∙ is in
      record {
        own = λ b here. no_some b (sym (ap (body_around s.rows) place) ∙ here);
        kept = λ k here. inl (sym (ap (region_around s.rows) place) ∙ here);
      }

  pub open_outermost : (body d : ℕ) (x : Definition) → slice_get text d ≡ Some x → x.inside ≡ Outermost → Open body None d x
  open_outermost body d x at is r row =
      let place = inside d r x row at ∙ is in
      record {
        own = λ b here. no_some b (sym (ap (body_around s.rows) place) ∙ here);
        kept = λ k here. no_some k (sym (ap (region_around s.rows) place) ∙ here);
      }

  pub fits_modulion : (m : ℕ) → body_of s.rows m ≡ 0 → Fits text (Open 0 (region_around s.rows (Modulion m))) (Modulion m)
  fits_modulion m outer d x at (inl is) r row = open_directly m 0 d x at is r row
  fits_modulion m outer d x at (inr is) r row =
      let place = inside d r x row at ∙ is in
      record {
        own = λ b here. same_some b 0 (sym here ∙ (ap (body_around s.rows) place ∙ ap Some outer));
        kept = λ k here. no_some k (sym (ap (region_around s.rows) place) ∙ here);
      }

  -- what a region lets out
  pub open_passed : (m body d : ℕ) (x : Definition) → slice_get text d ≡ Some x → x.inside ≡ Modulion m → ((r : Row) → slice_get s.rows d ≡ Some r → (k : ℕ) → region_around s.rows r.inside ≡ Some k → r.inside ≡ Modulion m → IsPassed s r) → Open body None d x
  open_passed m body d x at is passed r row =
      let place = inside d r x row at ∙ is in
      record {
        own = λ b here. no_some b (sym (ap (body_around s.rows) place) ∙ here);
        kept = λ k here. inr (passed r row k here place);
      }
