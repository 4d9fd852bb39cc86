-- One loop that reads piece after piece, and what is read by it.
use Rattle.std.proofs.Common.{◌≡◌, ℕ, suc, ◌+◌, ◌-◌, ◌<◌, ◌≤◌, Option, Some, None, Ok, Err, refl, sym, ap, ◌∙◌, arith}
use Rattle.std.specs.Prelude.{option_map}
use Rattle.expr_parser.specs.declared.refusal.ParseRefusal.{ParseRefusal}
use Rattle.expr_parser.specs.declared.refusal.ParseRefusal.TheVariants as refusals
use Rattle.expr_parser.specs.Giving.{Fails}
use Rattle.rules_model.specs.Marks.{Toks}
use Rattle.rules_model.specs.Reading.{Deep, Absent, Read, Piece, repeat}

module _ {S P : Type 0} (piece : Toks → Piece P) (grow : S → P → S) (limit : ℕ) (total : Read S) where
  pub goes_on : (i : ℕ) (s : S) (toks : Toks) (x : P × Toks) → i < limit → piece toks ≡ Ok (Some x) → repeat piece grow (limit - i) s toks ≡ total → repeat piece grow (limit - (i + 1)) (grow s x.0) x.1 ≡ total
  unfolding repeat
  goes_on i s toks x lt h so_far =
      let k : limit - i ≡ suc (limit - (i + 1)) = omega arith in
      let one : repeat piece grow (limit - i) s toks ≡ repeat piece grow (limit - (i + 1)) (grow s x.0) x.1 = rw (k, h) refl in
      sym one ∙ so_far

  pub goes_on_by : {X : Type 0} (f : X → P × Toks) (i : ℕ) (s s' : S) (toks : Toks) (o : Option X) (x : X) → i < limit → piece toks ≡ Ok (option_map f o) → o ≡ Some x → s' ≡ grow s (f x).0 → repeat piece grow (limit - i) s toks ≡ total → repeat piece grow (limit - (i + 1)) s' (f x).1 ≡ total
  goes_on_by f i s s' toks o x lt h is grown so_far =
      rw grown (goes_on i s toks (f x) lt (h ∙ ap (λ y. Ok (option_map f y)) is) so_far)

  pub fails : (e : ParseRefusal) (i : ℕ) (s : S) (toks : Toks) → i < limit → Fails e (piece toks) → repeat piece grow (limit - i) s toks ≡ total → Fails e total
  unfolding repeat
  fails refusals.Memory i s toks lt h so_far = tt
  fails (refusals.TooDeep at) i s toks lt h so_far =
      let k : limit - i ≡ suc (limit - (i + 1)) = omega arith in
      let one : repeat piece grow (limit - i) s toks ≡ Err (Deep at) = rw (k, h) refl in
      sym so_far ∙ one
  fails (refusals.NoProgram at) i s toks lt h so_far =
      let k : limit - i ≡ suc (limit - (i + 1)) = omega arith in
      let one : repeat piece grow (limit - i) s toks ≡ Err (Absent at) = rw (k, h) refl in
      sym so_far ∙ one

  pub stops : (i : ℕ) (s : S) (toks : Toks) → i < limit → piece toks ≡ Ok None → repeat piece grow (limit - i) s toks ≡ total → total ≡ Ok (s, toks)
  unfolding repeat
  stops i s toks lt h so_far =
      let k : limit - i ≡ suc (limit - (i + 1)) = omega arith in
      let one : repeat piece grow (limit - i) s toks ≡ Ok (s, toks) = rw (k, h) refl in
      sym so_far ∙ one

  pub ends : (i : ℕ) (s : S) (toks : Toks) → limit ≤ i → repeat piece grow (limit - i) s toks ≡ total → total ≡ Ok (s, toks)
  unfolding repeat
  ends i s toks le so_far =
      let k : limit - i ≡ 0 = omega arith in
      let one : repeat piece grow (limit - i) s toks ≡ Ok (s, toks) = rw k refl in
      sym so_far ∙ one

pub ruleset repeats = (goes_on, fails, stops, ends)
