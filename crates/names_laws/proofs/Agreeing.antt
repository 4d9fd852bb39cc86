-- Where N1 isn't told of entries, those of one name are for one definition.
use Rattle.std.proofs.Common.{◌≡◌, ℕ, ◌≤◌, ◌==◌, Bool, true, false, ◌&&◌, List, [], ◌∷◌, ◌++◌, length, ◌⊎◌, inl, inr, refl, sym, ◌∙◌, subst, arith, Contains}
use Rattle.std.specs.Prelude.{flat_map, not, if◌then◌else◌}
use Rattle.std.specs.Str.{bytes_eq}
use Rattle.std.proofs.lemmas.Bool.{eqb-true}
use Rattle.std.proofs.lemmas.List.Elements.{Contains-append_left, Contains-append_right, Contains-append_cases}
use Rattle.std.proofs.lemmas.Slice.Eq.{bytes_eq-Decides}
use Rattle.chill_base.specs.declared.pos.Pos.{Pos}
use Rattle.diagnostics.specs.declared.rule.Rule.TheVariants as rules
use Rattle.diagnostics.specs.declared.diagnostic.Diagnostic.{Diagnostic}
use Rattle.names_model.specs.declared.definition.Definition.{Definition}
use Rattle.names_model.specs.declared.entry.Entry.{Entry}
use Rattle.names_model.specs.Definitions.{spelling_at, under}
use Rattle.names_model.specs.Entries.{numbers_of, is_among, once_behind, found}
use Rattle.names_model.specs.Seeing.{or_else}
use Rattle.names_model.specs.NameRules.{tell, clashes, told_number, told_behind}
use Rattle.names_laws.proofs.Members.{none_in, here_in, later_in, in_cases, any_at, in_among, under_in}

-- ---- lists of one member at most

-- two members of such a list are one
pub short_one : (xs : List ℕ) (d e : ℕ) → length xs ≤ 1 → Contains xs d → Contains xs e → d ≡ e
short_one [] d e short c k = absurd (none_in d c)
short_one (x ∷ []) d e short c k = elim (in_cases x [] d c) [
  | inl is ↦ (elim (in_cases x [] e k) [ inl same ↦ sym is ∙ same | inr none ↦ absurd (none_in e none) ])
  | inr none ↦ absurd (none_in d none)
]
short_one (x ∷ y ∷ xs) d e short c k = let f : ⊥ = omega arith in absurd f

pub or_else_short : (xs ys : List ℕ) → length xs ≤ 1 → length ys ≤ 1 → length (or_else xs ys) ≤ 1
or_else_short [] ys short other = other
or_else_short (x ∷ xs) ys short other = short

-- where all others are the first
once_same : (x : ℕ) (ys : List ℕ) → ((y : ℕ) → Contains ys y → x ≡ y) → once_behind (x ∷ []) ys ≡ x ∷ []
once_same x [] same = refl
once_same x (y ∷ ys) same = by (is_among y (x ∷ [])) (in_among y (x ∷ []) (here_in x [] y (same y (here_in y ys y refl)))) (once_same x ys (λ z c. same z (later_in y ys z c)))
  where
    by : (b : Bool) → b ≡ true → once_behind (x ∷ []) ys ≡ x ∷ [] → once_behind (if b then x ∷ [] else (x ∷ []) ++ y ∷ []) ys ≡ x ∷ []
    by true t h = h
    by false t h = cc

once_short : (ys : List ℕ) → ((d e : ℕ) → Contains ys d → Contains ys e → d ≡ e) → length (once_behind [] ys) ≤ 1
once_short [] same = omega arith
once_short (y ∷ ys) same = let one = once_same y ys (λ z c. same y z (here_in y ys y refl) (later_in y ys z c)) in subst (λ xs. length xs ≤ 1) (sym one) (omega arith)

module _ (all : List Definition) where
  -- those of one name among these are one
  abbrev pub Agree : List ℕ → Type 0
  Agree ns = (d e : ℕ) → Contains ns d → Contains ns e → spelling_at all d ≡ spelling_at all e → d ≡ e

  pub found_short : (es : List Entry) (n : List ℕ) → Agree (numbers_of es) → length (found all es n) ≤ 1
  found_short es n agree = once_short (under all n (numbers_of es)) (λ d e c k.
      let f = under_in all n (numbers_of es) d c in
      let g = under_in all n (numbers_of es) e k in
      agree d e f.0 g.0 (f.1 ∙ sym g.1))

  -- those of one name at different places are one
  abbrev pub Apart : List Entry → Type 0
  Apart [] = Unit {0}
  Apart (x ∷ es) = ((c d : ℕ) → Contains x.numbers c → Contains (numbers_of es) d → spelling_at all c ≡ spelling_at all d → c ≡ d) × Apart es

  -- and at each place by itself
  abbrev pub EachAgrees : List Entry → Type 0
  EachAgrees es = (x : Entry) → Contains es x → Agree x.numbers

  pub each_append : (es fs : List Entry) → EachAgrees es → EachAgrees fs → EachAgrees (es ++ fs)
  each_append es fs one other x c = elim (Contains-append_cases es fs x c) [
    | inl front ↦ one x front
    | inr there ↦ other x there
  ]

  pub each_none : EachAgrees []
  each_none x c = absurd (none_in x c)

  pub each_cons : (y : Entry) (es : List Entry) → Agree y.numbers → EachAgrees es → EachAgrees (y ∷ es)
  each_cons y es one other x c = elim (in_cases y es x c) [
    | inl is ↦ subst (λ (z : Entry). Agree z.numbers) is one
    | inr there ↦ other x there
  ]

  pub agree_all : (es : List Entry) → Apart es → EachAgrees es → Agree (numbers_of es)
  agree_all [] apart each d e c k same = absurd (none_in d c)
  agree_all (x ∷ es) apart each d e c k same = by (Contains-append_cases x.numbers (numbers_of es) d c) (Contains-append_cases x.numbers (numbers_of es) e k) (agree_all es apart.1 (λ y there. each y (later_in x es y there)) d e)
    where
      by : Contains x.numbers d ⊎ Contains (numbers_of es) d → Contains x.numbers e ⊎ Contains (numbers_of es) e → (Contains (numbers_of es) d → Contains (numbers_of es) e → spelling_at all d ≡ spelling_at all e → d ≡ e) → d ≡ e
      by (inl a) (inl b) rest = each x (here_in x es x refl) d e a b same
      by (inl a) (inr b) rest = apart.0 d e a b same
      by (inr a) (inl b) rest = sym (apart.0 e d b a (sym same))
      by (inr a) (inr b) rest = rest a b same

  -- ---- N1

  nothing_front : (xs ys : List Diagnostic) → xs ++ ys ≡ [] → xs ≡ []
  nothing_front [] ys e = refl
  nothing_front (x ∷ xs) ys e = cc

  nothing_behind : (xs ys : List Diagnostic) → xs ++ ys ≡ [] → ys ≡ []
  nothing_behind [] ys e = e
  nothing_behind (x ∷ xs) ys e = cc

  nothing_each : (f : ℕ → List Diagnostic) (ns : List ℕ) (d : ℕ) → flat_map f ns ≡ [] → Contains ns d → f d ≡ []
  nothing_each f [] d e c = absurd (none_in d c)
  nothing_each f (n ∷ ns) d e c = elim (in_cases n ns d c) [
    | inl is ↦ subst (λ k. f k ≡ []) is (nothing_front (f n) (flat_map f ns) e)
    | inr there ↦ nothing_each f ns d (nothing_behind (f n) (flat_map f ns) e) there
  ]

  untold_clash : (earlier : List ℕ) (at : Pos) (d : ℕ) → told_number all earlier at d ≡ [] → clashes all earlier d ≡ false
  untold_clash earlier at d e = by (clashes all earlier d) e
    where
      by : (b : Bool) → (if b then tell at rules.N1 (spelling_at all d) ∷ [] else []) ≡ [] → b ≡ false
      by true h = cc
      by false h = refl

  -- an earlier number of the same name is the same
  no_clash : (earlier : List ℕ) (c d : ℕ) → clashes all earlier d ≡ false → Contains earlier c → spelling_at all c ≡ spelling_at all d → c ≡ d
  no_clash earlier c d none there same = by (c == d) refl
    where
      by : (b : Bool) → (c == d) ≡ b → c ≡ d
      by true t = eqb-true c d t
      by false t =
          let name : bytes_eq (spelling_at all c) (spelling_at all d) ≡ true = (bytes_eq-Decides (spelling_at all c) (spelling_at all d)).1 same in
          let test : (bytes_eq (spelling_at all c) (spelling_at all d) && not (c == d)) ≡ true = rw (name, t) refl in
          let hit = any_at (λ e. bytes_eq (spelling_at all e) (spelling_at all d) && not (e == d)) earlier c there test in
          let f : ⊥ = cc (hit, none) in absurd f

  untold_behind : (es : List Entry) (earlier : List ℕ) → told_behind all earlier es ≡ [] → (c d : ℕ) → Contains earlier c → Contains (numbers_of es) d → spelling_at all c ≡ spelling_at all d → c ≡ d
  untold_behind [] earlier e c d there k same = absurd (none_in d k)
  untold_behind (x ∷ es) earlier e c d there k same = elim (Contains-append_cases x.numbers (numbers_of es) d k) [
    | inl here ↦ no_clash earlier c d (untold_clash earlier x.at d (nothing_each (told_number all earlier x.at) x.numbers d (nothing_front (flat_map (told_number all earlier x.at) x.numbers) (told_behind all (earlier ++ x.numbers) es) e) here)) there same
    | inr later ↦ untold_behind es (earlier ++ x.numbers) (nothing_behind (flat_map (told_number all earlier x.at) x.numbers) (told_behind all (earlier ++ x.numbers) es) e) c d (Contains-append_left earlier x.numbers c there) later same
  ]

  pub untold_apart : (es : List Entry) (earlier : List ℕ) → told_behind all earlier es ≡ [] → Apart es
  untold_apart [] earlier e = tt
  untold_apart (x ∷ es) earlier e =
      let rest = nothing_behind (flat_map (told_number all earlier x.at) x.numbers) (told_behind all (earlier ++ x.numbers) es) e in
      ((λ c d there k same. untold_behind es (earlier ++ x.numbers) rest c d (Contains-append_right earlier x.numbers c there) k same), untold_apart es (earlier ++ x.numbers) rest)
