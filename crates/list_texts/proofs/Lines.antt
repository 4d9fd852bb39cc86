-- Lines of a layout, one behind the other.
use Rattle.std.proofs.Common.{◌≡◌, ℕ, zero, suc, min, ◌+◌, ◌<◌, ◌≤◌, List, [], ◌∷◌, ◌++◌, length, drop, get_or, refl, sym, ap, ◌∙◌, append_assoc, add-one, drop-cons, arith, append-nil}
use Rattle.std.proofs.Math.Seq.{drop-nil}
use Rattle.chill_base.specs.declared.layout.Bits.{Bits}
use Rattle.list_texts.specs.Layouts.{spot_line, spot_lines}

-- what is left begins with the next line
next_spot : (ps : List (List ℕ)) (bs : List Bits) (i : ℕ) (p : List ℕ) (b : Bits) → i < length ps → i < length bs →
    spot_lines (drop i ps) (drop i bs) ≡ spot_line (get_or ps i p) (get_or bs i b) ++ spot_lines (drop (i + 1) ps) (drop (i + 1) bs)
next_spot ps bs i p b low high = rw (add-one, drop-cons ps i p low, drop-cons bs i b high) refl

-- a line more is written
pub spots-next : (text new : List ℕ) (old : List ℕ) (ps : List (List ℕ)) (bs : List Bits) (i : ℕ) (p : List ℕ) (b : Bits) → new ≡ text ++ spot_line p b →
    p ≡ get_or ps i p → b ≡ get_or bs i b → i < length ps → i < length bs →
    text ++ spot_lines (drop i ps) (drop i bs) ≡ old → new ++ spot_lines (drop (i + 1) ps) (drop (i + 1) bs) ≡ old
spots-next text new old ps bs i p b is path bits low high so_far =
    ap (λ w. w ++ spot_lines (drop (i + 1) ps) (drop (i + 1) bs)) is
    ∙ append_assoc text (spot_line p b) (spot_lines (drop (i + 1) ps) (drop (i + 1) bs))
    ∙ ap (λ (q : List ℕ). text ++ (spot_line q b ++ spot_lines (drop (i + 1) ps) (drop (i + 1) bs))) path
    ∙ ap (λ (c : Bits). text ++ (spot_line (get_or ps i p) c ++ spot_lines (drop (i + 1) ps) (drop (i + 1) bs))) bits
    ∙ ap (λ w. text ++ w) (sym (next_spot ps bs i p b low high))
    ∙ so_far

no_bits : (ps : List (List ℕ)) → spot_lines ps [] ≡ []
no_bits [] = refl
no_bits (p ∷ ps) = refl

-- where the paths or the places are at their end there are no more lines
pub none_left : (ps : List (List ℕ)) (bs : List Bits) (i : ℕ) → min (length ps) (length bs) ≤ i → spot_lines (drop i ps) (drop i bs) ≡ []
none_left [] bs i past = rw (drop-nil {A = List ℕ} i) refl
none_left (p ∷ ps) [] i past = rw (drop-nil {A = Bits} i) (no_bits (drop i (p ∷ ps)))
none_left (p ∷ ps) (b ∷ bs) zero past = let f : ⊥ = omega arith in absurd f
none_left (p ∷ ps) (b ∷ bs) (suc i) past = none_left ps bs i (omega arith)

-- three parts are written
pub three-made : (old a b c one two three : List ℕ) → one ≡ old ++ a → two ≡ one ++ b → three ≡ two ++ c → three ≡ old ++ ((a ++ b) ++ c)
three-made old a b c one two three x y z = z ∙ ap (λ w. w ++ c) (y ∙ ap (λ w. w ++ b) x ∙ append_assoc old a b) ∙ append_assoc old (a ++ b) c

pub ruleset spot_steps = (none_left, append-nil)
