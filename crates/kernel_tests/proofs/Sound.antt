-- Facts with one shared INT of 32 bits, and a signal for process 1, are sound.
use Rattle.std.proofs.Common.{◌≡◌, ℕ, zero, suc, ◌≤◌, true, ◌∷◌, [], ℤ, refl, sym, ap, ◌∙◌, arith, rules, subst, List, Option, None, Some, length, slice_get}
use Rattle.std.specs.Prelude.{All, IfSome, ◌<◌, pos}
use Rattle.std.proofs.lemmas.List.Elements.{All-cons, All-nil}
use Rattle.std.proofs.lemmas.Option.{same_Some}
use Rattle.chill_base.specs.declared.layout.Bits.{Bits}
use Rattle.kernel_base.specs.declared.facts.Facts.{Facts}
use Rattle.kernel_base.specs.declared.value.Value.{Value, fold-Value, fold-roll-Value}
use Rattle.kernel_base.specs.declared.value.Value.TheOpen as layer
use Rattle.kernel_base.specs.declared.value.Value.TheVariants as made
use Rattle.kernel_base.specs.declared.value.Value.TheVariants.{Number}
use Rattle.kernel_base.specs.Facts.{IsInWord, IsWithinBits, IsPowerset, IsLaidOut, IsSound}
use Rattle.kernel_base.specs.Value.{powersets_in, powersets_of}
use Rattle.kernel_base.proofs.Layers.{scalars_of-Number}

powersets_of-Number : (number : ℤ) → powersets_of (Number number) ≡ []
unfolding powersets_of
powersets_of-Number number = ap (fold-Value (List (ℕ × List ℕ)) powersets_in) (sym (made.rolls-Number number)) ∙ fold-roll-Value (List (ℕ × List ℕ)) powersets_in (layer.Number number)

-- all bits of a word, signed
abbrev pub whole : Bits
whole = record { word = 0; start = 0; end = 31; signed = true }

zero_within : (k : ℕ) (bits : Bits) (number : ℤ) → slice_get (whole ∷ []) k ≡ Some bits → slice_get (pos 0 ∷ []) k ≡ Some number → IsWithinBits bits number
zero_within zero bits number b n = subst (λ (x : Bits). IsWithinBits x number) (same_Some _ _ b) (subst (λ (x : ℤ). IsWithinBits whole x) (same_Some _ _ n) (record { in_word = record { ordered = omega arith; within = omega arith }; fits = record { low = search rules; high = search rules } }))
zero_within (suc k) bits number b n = absurd (let f : ⊥ = cc in f)

zero_laid : IsLaidOut (Number (pos 0)) (whole ∷ [])
zero_laid = record {
  count = ap (λ (l : List ℤ). length l) (scalars_of-Number (pos 0));
  in_words = All-cons IsInWord whole [] (record { ordered = omega arith; within = omega arith }) (All-nil IsInWord);
  apart = λ i j d low within. absurd (let f : ⊥ = omega arith in f);
  within = λ k bits number b n. zero_within k bits number b (rw (← scalars_of-Number (pos 0)) n);
  powersets = subst (λ (l : List (ℕ × List ℕ)). All IsPowerset l) (sym (powersets_of-Number (pos 0))) (All-nil IsPowerset);
}

laid_at : (location : ℕ) (value : Value) (layout : List Bits) → slice_get (Number (pos 0) ∷ []) location ≡ Some value → slice_get ((whole ∷ []) ∷ []) location ≡ Some layout → IsLaidOut value layout
laid_at zero value layout v l = subst (λ (x : Value). IsLaidOut x layout) (same_Some _ _ v) (subst (λ (x : List Bits). IsLaidOut (Number (pos 0)) x) (same_Some _ _ l) zero_laid)
laid_at (suc location) value layout v l = absurd (let f : ⊥ = cc in f)

abbrev IsProcessOf : ℕ → Option ℕ → Type 0
IsProcessOf processes to = IfSome to (λ process. process < processes)

processes_there : (processes : ℕ) → 1 < processes → All (IsProcessOf processes) (None ∷ None ∷ Some 1 ∷ [])
processes_there processes more = All-cons (IsProcessOf processes) None (None ∷ Some 1 ∷ []) tt (All-cons (IsProcessOf processes) None (Some 1 ∷ []) tt (All-cons (IsProcessOf processes) (Some 1) [] more (All-nil (IsProcessOf processes))))

pub one_int_sound : (facts : Facts) → facts.store ≡ Number (pos 0) ∷ [] → facts.layouts ≡ (whole ∷ []) ∷ [] → facts.signals ≡ None ∷ None ∷ Some 1 ∷ [] → 1 < facts.processes → 1 ≤ facts.units → facts.units ≤ 10000000 → IsSound facts
one_int_sound facts store layouts signals more least greatest = record {
  locations = rw (store, layouts) refl;
  laid_out = λ location value layout v l. laid_at location value layout (rw (← store) v) (rw (← layouts) l);
  signals = rw signals (processes_there facts.processes more);
  least_budget = least;
  greatest_budget = greatest;
}
