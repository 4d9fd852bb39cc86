-- What is declared in a body comes behind its parameters.
use Rattle.std.proofs.lemmas.Bool.{eq-eqb}
use Rattle.std.proofs.Common.{◌≡◌, ◌<◌, ◌≤◌, ℕ, suc, ◌+◌, ◌==◌, true, ◌&&◌, List, [], ◌∷◌, Some, length, refl, sym, ap, ◌∙◌, subst, arith}
use Rattle.std.specs.Prelude.{not, if◌then◌else◌, slice_get, option_map, option_and_then}
use Rattle.chill_tree.specs.declared.tree.name.Name.{Name}
use Rattle.chill_tree.specs.ModeTree as written
use Rattle.chill_tree.specs.ItemTree.{ProgramTree}
use Rattle.checks_model.specs.Ground.{Ground, a_parameter, number_at}
use Rattle.checks_model.specs.Told.{holds_of}
use Rattle.checks_model.specs.Origins.{text_origins}
use Rattle.checks_model.specs.Diagnoses.{BreaksNoRule}
use Rattle.checks_model.specs.Sites.{Site}
use Rattle.written_laws.specs.Written.{Each}
use Rattle.elaborated_laws.proofs.Told.{same_some, of_both}
use Rattle.elaboration_model.specs.Numbering.{Source, Row, a_local, no_thing, may_be_local, is_location, is_local_of, count_before, body_around, local_in, thing_by, thing_of, local_number}
use Rattle.elaboration_model.specs.Elaborated.{source_of}
use Rattle.expression_laws.proofs.Things.{in_body}
use Rattle.program_laws.proofs.Rows.{IsDefinedAs}
use Rattle.program_laws.proofs.Defined.{names_list, defined_in}
use Rattle.program_laws.proofs.Grounds.{all_placed}
use Rattle.within_laws.specs.Within.{IsOfBody, AreDefinedFrom, AreSitesWithin, names_defined}
use Rattle.well_made_laws.proofs.Locals.{fewer_before, no_fewer, local_row, as_local}
use Rattle.well_made_laws.proofs.Keeps.{IsBehind, SiteBehind}

module _ (s : Source) (b : ℕ) where
  -- a row that is a local of the body
  abbrev pub IsLocalRow : ℕ → Type 0
  IsLocalRow e = (row : Row) × (slice_get s.rows e ≡ Some row) × (is_local_of s.rows b row ≡ true)

  -- a parameter is a local of its body
  abbrev pub IsParameter : Name → Type 0
  IsParameter n = (e : ℕ) → number_at s.known.defined n.at ≡ Some e → IsOfBody b (thing_of s.rows e) → IsLocalRow e

  abbrev before_number : ℕ → ℕ
  before_number d = count_before (is_local_of s.rows b) d s.rows

  same_or_less : (low high x : ℕ) → low ≤ high → high ≤ x → low ≤ x
  same_or_less low high x one other = omega (arith, one, other)

  -- so many locals stand before what is behind them
  counted : (low : ℕ) (ns : List Name) (high : ℕ) → AreDefinedFrom s b low ns high → Each IsParameter ns → (x : ℕ) → high ≤ x → before_number low + length ns ≤ before_number x
  counted low [] high all params x less = let few = no_fewer (is_local_of s.rows b) low x s.rows (same_or_less low high x all less) in omega (arith, few)
  counted low (n ∷ ns) high all params x less =
      let test = is_local_of s.rows b in
      let row = params.0 all.0 all.2 all.3 in
      let one = no_fewer test low all.0 s.rows all.1 in
      let next : all.0 < suc all.0 = omega arith in
      let two = fewer_before test all.0 (suc all.0) s.rows row.0 row.1 row.2 next in
      let three = counted (suc all.0) ns high all.4 params.1 x less in
      omega (arith, one, two, three)

  number_behind : (first : ℕ) (params : List Name) (start d k : ℕ) → AreDefinedFrom s b first params start → Each IsParameter params → start ≤ d → IsOfBody b (thing_of s.rows d) → local_number (thing_of s.rows d) ≡ Some k → length params ≤ k
  number_behind first params start d k within all behind own is =
      let l = as_local s d k is in
      let same = subst (IsOfBody b) l.1 own in
      let row = local_row s d b k (subst (λ x. thing_of s.rows d ≡ a_local x k) same l.1) in
      let number = row.number in
      let few = counted first params start within all d behind in
      omega (arith, number, few)

  names_behind : (first : ℕ) (params : List Name) (start low : ℕ) (ns : List Name) (high : ℕ) → AreDefinedFrom s b first params start → Each IsParameter params → start ≤ low → AreDefinedFrom s b low ns high → Each (IsBehind s (length params)) ns
  names_behind first params start low [] high within all behind defined = tt
  names_behind first params start low (n ∷ ns) high within all behind defined = (
    (λ k is.
        let at : local_number (thing_of s.rows defined.0) ≡ Some k = sym (ap (λ x. option_and_then local_number (option_map (thing_of s.rows) x)) defined.2) ∙ is in
        number_behind first params start defined.0 k within all (same_or_less start low defined.0 behind defined.1) defined.3 at),
    names_behind first params start (suc defined.0) ns high within all (let more = defined.1 in omega (arith, behind, more)) defined.4,
  )

  low_high : (low : ℕ) (ns : List Name) (high : ℕ) → AreDefinedFrom s b low ns high → low ≤ high
  low_high low [] high all = all
  low_high low (n ∷ ns) high all = let above = all.1 in let rest = low_high (suc all.0) ns high all.4 in omega (arith, above, rest)

  pub sites_behind : (first : ℕ) (params : List Name) (start low : ℕ) (ss : List Site) (high : ℕ) → AreDefinedFrom s b first params start → Each IsParameter params → start ≤ low → AreSitesWithin s b low ss high → Each (SiteBehind s (length params)) ss
  sites_behind first params start low [] high within all behind sites = tt
  sites_behind first params start low (n ∷ ss) high within all behind sites =
      let more = low_high low (names_defined n) sites.1.0 sites.1.1 in (
        names_behind first params start low (names_defined n) sites.1.0 within all behind sites.1.1,
        sites_behind first params start sites.1.0 ss high within all (same_or_less start low sites.1.0 behind more) sites.1.2,
      )

module _ (text : List ℕ) (t : ProgramTree) (h : Ground) (has : BreaksNoRule text t h) where
  pub parameter_local : (b : ℕ) (w : written.ModeTree) (n : Name) → IsDefinedAs (text_origins t) (names_list text t h has) n (a_parameter w) → IsParameter (source_of h t) b n
  parameter_local b w n defined e at own =
      let rs = (source_of h t).rows in
      let k = defined_in text t h has n (a_parameter w) defined in
      let same = same_some k.number e (sym k.at ∙ at) in
      let r = all_placed text t h has e (a_parameter w) (subst (λ x. slice_get h.origins x ≡ Some (a_parameter w)) same k.origin) refl in
      let inner = r.placed.inner (ap (λ o. may_be_local o && not (is_location o)) r.origin) in
      let c = in_body rs r.row.inside inner in
      let local = of_both (may_be_local r.row.origin) (holds_of (λ x. x == c.0) (body_around rs r.row.inside)) (ap may_be_local r.origin) (ap (holds_of (λ x. x == c.0)) c.1 ∙ eq-eqb c.0 c.0 refl) in
      let thing : thing_of rs e ≡ a_local c.0 (count_before (is_local_of rs c.0) e rs) =
      ap (thing_by rs e) r.is ∙ (ap (local_in rs e r.row) c.1 ∙ ap (λ x. if x then a_local c.0 (count_before (is_local_of rs c.0) e rs) else no_thing) local)
      in
      let one = subst (IsOfBody b) thing own in
      (r.row, r.is, subst (λ x. is_local_of rs x r.row ≡ true) one local)
