-- Nodes that are put, and their flags.
use Rattle.std.proofs.Common.{◌≡◌, ◌<◌, ◌≤◌, ◌+◌, ◌⊎◌, inl, inr, ℕ, zero, suc, Bool, true, false, List, [], ◌∷◌, ◌++◌, length, set, replicate, refl, sym, ap, subst, ◌∙◌, arith, length-set}
use Rattle.std.specs.Prelude.{slice_index_or}
use Rattle.std.specs.List.{All, Contains}
use Rattle.std.proofs.lemmas.List.Elements.{Contains-push, Contains-append_left, Contains-push_cases}
use Rattle.std.proofs.lemmas.List.{length-replicate}
use Rattle.graph_order.specs.Needs.{EachOnce}
use Rattle.graph_order.specs.Placing.{AreFlags, IsPlaced}
use Rattle.graph_order.proofs.Members.{none_in, here_in, later_in, in_cases}

pub once_more : (done ds : List ℕ) (d : ℕ) → EachOnce done ds → ¬ Contains done d → ¬ Contains ds d → EachOnce done (ds ++ d ∷ [])
once_more done [] d once new apart = (new, tt)
once_more done (x ∷ ds) d once new apart = (
  once.0,
  once_more (x ∷ done) ds d once.1
      (λ c. elim (in_cases x done d c) [ inl is ↦ apart (here_in x ds d is) | inr there ↦ new there ])
      (λ c. apart (later_in x ds d c)),
)

set_cases : (flags : List Bool) (d e : ℕ) → slice_index_or (set flags d true) e false ≡ true → (d ≡ e) ⊎ (slice_index_or flags e false ≡ true)
set_cases [] d e h = inr h
set_cases (f ∷ fs) zero zero h = inl refl
set_cases (f ∷ fs) zero (suc e) h = inr h
set_cases (f ∷ fs) (suc d) zero h = inr h
set_cases (f ∷ fs) (suc d) (suc e) h = elim (set_cases fs d e h) [ inl same ↦ inl (ap suc same) | inr there ↦ inr there ]

set_kept : (flags : List Bool) (d e : ℕ) → slice_index_or flags e false ≡ true → slice_index_or (set flags d true) e false ≡ true
set_kept [] d e h = h
set_kept (f ∷ fs) zero zero h = refl
set_kept (f ∷ fs) zero (suc e) h = h
set_kept (f ∷ fs) (suc d) zero h = h
set_kept (f ∷ fs) (suc d) (suc e) h = set_kept fs d e h

set_there : (flags : List Bool) (d : ℕ) → d < length flags → slice_index_or (set flags d true) d false ≡ true
set_there [] d less = absurd (omega (arith, less))
set_there (f ∷ fs) zero less = refl
set_there (f ∷ fs) (suc d) less = set_there fs d (omega (arith, less))

pub flags_more : (flags : List Bool) (order : List ℕ) (d : ℕ) → AreFlags flags order → d < length flags → AreFlags (set flags d true) (order ++ d ∷ [])
flags_more flags order d f less = record {
  put = λ e h. elim (set_cases flags d e h) [
    | inl same ↦ subst (Contains (order ++ d ∷ [])) same (Contains-push order d)
    | inr was ↦ Contains-append_left order (d ∷ []) e (f.put e was)
  ];
  there = λ e c. elim (Contains-push_cases order d e c) [
    | inl was ↦ set_kept flags d e (f.there e was)
    | inr same ↦ subst (λ k. slice_index_or (set flags d true) k false ≡ true) same (set_there flags d less)
  ];
}

none_set : (n d : ℕ) → slice_index_or (replicate n false) d false ≡ false
none_set zero zero = refl
none_set zero (suc d) = refl
none_set (suc n) zero = refl
none_set (suc n) (suc d) = none_set n d

pub no_flags : (n : ℕ) → AreFlags (replicate n false) []
no_flags n = record {
  put = λ d h. absurd (let e : true ≡ false = sym h ∙ none_set n d in cc);
  there = λ d c. absurd (none_in d c);
}

pub none_placed : (flags : List Bool) (n m : ℕ) → flags ≡ replicate n false → m ≡ n → IsPlaced flags m []
none_placed flags n m none same = record {
  counted = ap length none ∙ length-replicate n false ∙ sym same;
  flagged = subst (λ (fs : List Bool). AreFlags fs []) (sym none) (no_flags n);
  once = tt;
}

pub put_kept : (flags : List Bool) (count : ℕ) (order next : List ℕ) (d : ℕ) → d < count → ¬ Contains order d → next ≡ order ++ d ∷ [] → IsPlaced flags count order → IsPlaced (set flags d true) count next
put_kept flags count order next d less new same h = record {
  counted = length-set flags d true ∙ h.counted;
  flagged = subst (λ (ds : List ℕ). AreFlags (set flags d true) ds) (sym same) (flags_more flags order d h.flagged (let counted = h.counted in omega (arith, less, counted)));
  once = subst (λ (ds : List ℕ). EachOnce [] ds) (sym same) (once_more [] order d h.once (none_in d) new);
}
