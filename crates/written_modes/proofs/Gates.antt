-- What is told where nothing is told first, and where something is.
use Rattle.std.proofs.Common.{◌≡◌, List, [], ◌∷◌, ◌++◌, refl, ap, sym, ◌∙◌, append-nil, append_assoc}
use Rattle.std.specs.Prelude.{Bool, true, false, ◌&&◌, not, Option, Some, None}
use Rattle.diagnostics.specs.declared.diagnostic.Diagnostic.{Diagnostic}
use Rattle.checks_model.specs.Told.{is_none_told, then_told, told_if}
use Rattle.checks_model.specs.WrittenModes.{unless_told, told_large, array_from}
use Rattle.chill_base.specs.declared.pos.Pos.{Pos}
use Rattle.modes.specs.ModeTree.{ModeTree, SpreadTree}

pub told-clean : (ts ls : List Diagnostic) → is_none_told ts ≡ true → then_told ts ls ≡ ls
told-clean [] ls h = refl
told-clean (t ∷ ts) ls h = cc

pub told-broken : (ts ls : List Diagnostic) → is_none_told ts ≡ false → then_told ts ls ≡ ts
told-broken [] ls h = cc
told-broken (t ∷ ts) ls h = append-nil (t ∷ ts)

pub none_told : (ts : List Diagnostic) → is_none_told ts ≡ true → ts ≡ []
none_told [] h = refl
none_told (t ∷ ts) h = cc

pub none-append : (ts ls : List Diagnostic) → is_none_told (ts ++ ls) ≡ (is_none_told ts && is_none_told ls)
none-append [] ls = refl
none-append (t ∷ ts) ls = refl

pub kept-clean : {A : Type 0} (ts : List Diagnostic) (x : Option A) → is_none_told ts ≡ true → unless_told ts x ≡ x
kept-clean [] x h = refl
kept-clean (t ∷ ts) x h = cc

pub kept-broken : {A : Type 0} (ts : List Diagnostic) (x : Option A) → is_none_told ts ≡ false → unless_told ts x ≡ None
kept-broken [] x h = cc
kept-broken (t ∷ ts) x h = refl

pub kept-none : {A : Type 0} (ts : List Diagnostic) → unless_told {A = A} ts None ≡ None
kept-none [] = refl
kept-none (t ∷ ts) = refl

-- where something is told first there is nothing, else what is there where nothing is told later
pub kept-then_broken : {A : Type 0} (ts ls : List Diagnostic) (x : Option A) → is_none_told ts ≡ false → unless_told (then_told ts ls) x ≡ None
kept-then_broken [] ls x h = cc
kept-then_broken (t ∷ ts) ls x h = refl

pub kept-then_clean : {A : Type 0} (ts ls : List Diagnostic) (x : Option A) → is_none_told ts ≡ true → unless_told (then_told ts ls) x ≡ unless_told ls x
kept-then_clean [] ls x h = refl
kept-then_clean (t ∷ ts) ls x h = cc

pub none-if : (b : Bool) (d : Diagnostic) → is_none_told (told_if b d) ≡ not b
none-if true d = refl
none-if false d = refl

pub ruleset gates = (none-append, none-if, append_assoc)

-- ---- L5 where nothing else is told at a mode

pub none_left_told : (ts : List Diagnostic) (o : Option ModeTree) (at : Pos) → unless_told ts o ≡ None → then_told ts (told_large o at) ≡ ts
none_left_told [] o at h = ap (λ o. told_large o at) h
none_left_told (t ∷ ts) o at h = append-nil (t ∷ ts)

pub none_left : (ts : List Diagnostic) (o : Option ModeTree) (at : Pos) → unless_told ts o ≡ None → unless_told (then_told ts (told_large o at)) o ≡ None
none_left [] o at h = ap (λ o. unless_told (told_large o at) o) h
none_left (t ∷ ts) o at h = refl

pub some_left_told : (ts : List Diagnostic) (o : Option ModeTree) (m : ModeTree) (at : Pos) → unless_told ts o ≡ Some m → then_told ts (told_large o at) ≡ told_large (Some m) at
some_left_told [] o m at h = ap (λ o. told_large o at) h
some_left_told (t ∷ ts) o m at h = absurd (cc)

pub some_left : (ts : List Diagnostic) (o : Option ModeTree) (m : ModeTree) (at : Pos) → unless_told ts o ≡ Some m → unless_told (then_told ts (told_large o at)) o ≡ unless_told (told_large (Some m) at) (Some m)
some_left [] o m at h = ap (λ o. unless_told (told_large o at) o) h
some_left (t ∷ ts) o m at h = absurd (cc)

pub array_kept : (ts : List Diagnostic) (i e : Option ModeTree) (s : Option SpreadTree) → unless_told ts (array_from i e s) ≡ array_from i e (unless_told ts s)
array_kept [] i e s = refl
array_kept (t ∷ ts) None e s = refl
array_kept (t ∷ ts) (Some i) None s = refl
array_kept (t ∷ ts) (Some i) (Some e) s = refl
