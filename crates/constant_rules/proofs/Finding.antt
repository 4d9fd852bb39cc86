-- What is found of an expression, from what is found of its parts.
use Rattle.std.proofs.Common.{◌≡◌, Bool, true, false, List, [], ◌∷◌, ◌++◌, Option, refl, ap, sym, ◌∙◌, append_assoc}
use Rattle.std.specs.Prelude.{◌&&◌, IsTrue, option_map}
use Rattle.std.proofs.lemmas.List.{append-nil}
use Rattle.std.proofs.lemmas.Bool.{false≢true}
use Rattle.diagnostics.specs.declared.diagnostic.Diagnostic.{Diagnostic}
use Rattle.modes.specs.ModeTree.{ClassTree}
use Rattle.checks_model.specs.ValueTrees.{ValueTree, scalars_in}
use Rattle.checks_model.specs.Told.{is_none_told, then_told}
use Rattle.constant_operators.specs.declared.known.Known.{Known}
use Rattle.constant_values.specs.Fits.{fit_together}
use Rattle.constant_operators.specs.Known.{IsKnown, IsKnownConstant}
use Rattle.constant_rules.specs.Found.{IsFound, Finds, FindsAt, Varies, unless_before}

-- a test that is both
pub not_both : {b : Bool} → b ≡ false → b ≡ true → {P : Type 0} → P
not_both e f = absurd (false≢true (sym e ∙ f))

-- ---- lists

pub none_both : (xs ys : List Diagnostic) → is_none_told (xs ++ ys) ≡ (is_none_told xs && is_none_told ys)
none_both [] ys = refl
none_both (x ∷ xs) ys = refl

pub none_then : (before own : List Diagnostic) → is_none_told (then_told before own) ≡ (is_none_told before && is_none_told own)
none_then [] own = refl
none_then (x ∷ xs) own = refl

-- ---- what is found

-- known of a constant in which nothing is told
pub constant_found : {c : Option ClassTree} {v : Option ValueTree} {k : Known} → IsKnownConstant c v k → IsFound true [] c v k
constant_found h = record { is_constant = h.is_constant; is_clean = h.is_clean; known = λ _ _. h.known }

-- the same where nothing was told
pub found_here : {f : Bool} {c : Option ClassTree} {v : Option ValueTree} {k : Known} (old : List Diagnostic) → IsFound f [] c v k → Finds f [] c v old old k
found_here old h = record { told = sym (append-nil old); found = h }

-- what isn't constant
pub varying_found : {inside : List Diagnostic} {k : Known} → k.is_constant ≡ false → k.is_clean ≡ is_none_told inside → {c : Option ClassTree} {v : Option ValueTree} → IsFound false inside c v k
varying_found h e = record { is_constant = h; is_clean = e; known = λ f _. not_both refl f }

-- a constant in which something is told
pub told_found : {f : Bool} {inside : List Diagnostic} {k : Known} → k.is_constant ≡ f → k.is_clean ≡ false → is_none_told inside ≡ false → {c : Option ClassTree} {v : Option ValueTree} → IsFound f inside c v k
told_found h e n = record { is_constant = h; is_clean = e ∙ sym n; known = λ _ t. not_both n t }

-- what varies is so of any class and value
pub as_varying : {f : Bool} {inside t old new : List Diagnostic} {k : Known} {c : Option ClassTree} {v : Option ValueTree} → f ≡ false → inside ≡ t → Varies t old new k → Finds f inside c v old new k
as_varying {old = old} h e w = record {
  told = w.told ∙ ap (λ (xs : List Diagnostic). old ++ xs) (sym e);
  found = record { is_constant = w.found.is_constant ∙ sym h; is_clean = w.found.is_clean ∙ ap is_none_told (sym e); known = λ g _. not_both h g };
}

-- only that it varies
pub to_varying : {f : Bool} {inside old new : List Diagnostic} {k l : Known} {c : Option ClassTree} {v : Option ValueTree} → Finds f inside c v old new k → l.is_constant ≡ false → l.is_clean ≡ k.is_clean → Varies inside old new l
to_varying h e n = record { told = h.told; found = varying_found e (n ∙ h.found.is_clean) }

fit_so : {c d : Option ClassTree} {v w : Option ValueTree} → c ≡ d → v ≡ w → IsTrue (fit_together d w) → IsTrue (fit_together c v)
fit_so {d = d} {v = v} e n h = ap (λ (c : Option ClassTree). fit_together c v) e ∙ ap (λ (v : Option ValueTree). fit_together d v) n ∙ h

-- the same of equal classes and values
known_so : {c d : Option ClassTree} {v w : Option ValueTree} {k : Known} → c ≡ d → v ≡ w → IsKnown d w k → IsKnown c v k
known_so e n h = record { class = h.class ∙ sym e; value = h.value ∙ ap (λ (v : Option ValueTree). option_map scalars_in v) (sym n); fits = fit_so e n h.fits }

-- the same of equal forms and lists
pub found_so : {f h : Bool} {s t old new : List Diagnostic} {k : Known} {c d : Option ClassTree} {v w : Option ValueTree} → f ≡ h → s ≡ t → (f ≡ true → (c ≡ d) × (v ≡ w)) → Finds h t d w old new k → Finds f s c v old new k
found_so {old = old} e n same x = record {
  told = x.told ∙ ap (λ (xs : List Diagnostic). old ++ xs) (sym n);
  found = record {
    is_constant = x.found.is_constant ∙ sym e;
    is_clean = x.found.is_clean ∙ ap is_none_told (sym n);
    known = λ g o. known_so (same g).0 (same g).1 (x.found.known (sym e ∙ g) (sym (ap is_none_told n) ∙ o));
  };
}

-- a node behind its parts
pub at_node : {f : Bool} {before own old mid new : List Diagnostic} {k : Known} {c : Option ClassTree} {v : Option ValueTree} → mid ≡ old ++ before → FindsAt f before own c v mid new k → Finds f (then_told before own) c v old new k
at_node {before = before} {own = own} {old = old} e h = record {
  told = h.told ∙ ap (λ (xs : List Diagnostic). xs ++ unless_before before own) e ∙ append_assoc old before (unless_before before own);
  found = h.found;
}

-- two lists told one behind the other
pub in_turn : (s t old : List Diagnostic) {mid new : List Diagnostic} → mid ≡ old ++ s → new ≡ mid ++ t → new ≡ old ++ (s ++ t)
in_turn s t old e n = n ∙ ap (λ (xs : List Diagnostic). xs ++ t) e ∙ append_assoc old s t
