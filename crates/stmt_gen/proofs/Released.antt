-- What is raised again behind the release of a region, one exception after the other.
use Rattle.std.proofs.Common.{◌≡◌, ℕ, ◌+◌, ◌<◌, ◌≤◌, Bool, false, List, [], ◌∷◌, ◌++◌, length, get_or, drop, refl, sym, ap, subst, ◌∙◌, arith, append_assoc}
use Rattle.std.proofs.lemmas.List.{append-nil, at_drop_all}
use Rattle.code_types.specs.declared.code.Code.{Code}
use Rattle.code_types.specs.declared.code.Handler.{Handler}
use Rattle.code_types.specs.declared.instr.Instr.{Instr}
use Rattle.code_types.specs.declared.instr.Instr.TheVariants as i
use Rattle.code_scheme.specs.StatementRows.{row_for}
use Rattle.code_scheme.specs.BodyItems.{raise_again_code, raise_again_rows}
use Rattle.expr_gen.specs.declared.building.Draft.{Draft}
use Rattle.expr_gen.specs.Putting.{Puts}
use Rattle.expr_gen.proofs.Items.{item_at}
use Rattle.stmt_gen.specs.Appending.{AppendsRows, AppendsBoth}
use Rattle.stmt_gen.specs.Modulions.{PutsReleases}

pub record ReleasesTo (region from until : ℕ) (all left : List ℕ) (old now : Code) : Type 0 where
  pub instrs : now.instrs ++ raise_again_code region left ≡ old.instrs ++ raise_again_code region all
  pub handlers : now.handlers ++ raise_again_rows from until left (length now.instrs) ≡ old.handlers ++ raise_again_rows from until all (length old.instrs)
  pub bodies : now.bodies ≡ old.bodies

pub record ReleasesLeft (region : ℕ) (xs : List ℕ) (from until k : ℕ) (old now : Draft) : Type 0 where
  pub left : ReleasesTo region from until xs (drop k xs) old.code now.code

pub releases_begin : (region : ℕ) (xs : List ℕ) (from until : ℕ) (x : Draft) → ReleasesLeft region xs from until 0 x x
releases_begin region xs from until x = record { left = record { instrs = refl; handlers = refl; bodies = refl } }

releases_step : (region from until e target : ℕ) (all es : List ℕ) {x y1 y2 y3 z : Code} → target ≡ length y1.instrs
    → ReleasesTo region from until all (e ∷ es) x y1 → AppendsRows (row_for from until (e ∷ []) false target ∷ []) y1 y2 → Puts (i.Leave region) y2 y3 → Puts (i.Raise e) y3 z
    → ReleasesTo region from until all es x z
releases_step region from until e target all es {x} {y1} {y2} {y3} {z} there p r q s =
    let before : length y2.instrs ≡ length y1.instrs = ap (λ (is : List Instr). length is) r.instrs in
    let after : length z.instrs ≡ length y1.instrs + 2 = omega (arith, before, q.length, s.length) in
    let code : z.instrs ≡ y1.instrs ++ (i.Leave region ∷ i.Raise e ∷ []) = s.instrs ∙ ap (λ (is : List Instr). is ++ i.Raise e ∷ []) (q.instrs ∙ ap (λ (is : List Instr). is ++ i.Leave region ∷ []) r.instrs)
    ∙ append_assoc y1.instrs (i.Leave region ∷ []) (i.Raise e ∷ []) in
    let row : z.handlers ≡ y1.handlers ++ row_for from until (e ∷ []) false (length y1.instrs) ∷ [] = s.handlers ∙ q.handlers ∙ r.handlers ∙ ap (λ (k : ℕ). y1.handlers ++ row_for from until (e ∷ []) false k ∷ []) there in
    record {
      instrs = ap (λ (is : List Instr). is ++ raise_again_code region es) code ∙ append_assoc y1.instrs (i.Leave region ∷ i.Raise e ∷ []) (raise_again_code region es) ∙ p.instrs;
      handlers = ap (λ (k : ℕ). z.handlers ++ raise_again_rows from until es k) after ∙ ap (λ (rs : List Handler). rs ++ raise_again_rows from until es (length y1.instrs + 2)) row
          ∙ append_assoc y1.handlers (row_for from until (e ∷ []) false (length y1.instrs) ∷ []) (raise_again_rows from until es (length y1.instrs + 2)) ∙ p.handlers;
      bodies = s.bodies ∙ q.bodies ∙ r.bodies ∙ p.bodies;
    }

pub releases_turn : (region : ℕ) (xs : List ℕ) (from until k e target : ℕ) (names : List ℕ) (y2 y3 : Draft) {x y1 z : Draft} → k < length xs → e ≡ get_or xs k e → target ≡ length y1.code.instrs → names ≡ e ∷ []
    → ReleasesLeft region xs from until k x y1 → AppendsRows (row_for from until names false target ∷ []) y1.code y2.code → Puts (i.Leave region) y2.code y3.code → Puts (i.Raise e) y3.code z.code
    → ReleasesLeft region xs from until (k + 1) x z
releases_turn region xs from until k e target names y2 y3 {x} {y1} {z} h is there named p r q s = record {
  left = releases_step region from until e target xs (drop (k + 1) xs) there
      (subst (λ (es : List ℕ). ReleasesTo region from until xs es x.code y1.code) (item_at xs k e h is) p.left)
      (subst (λ (ns : List ℕ). AppendsRows (row_for from until ns false target ∷ []) y1.code y2.code) named r) q s;
}

pub releases_end : (region : ℕ) (xs : List ℕ) (from until k : ℕ) {x y : Draft} → length xs ≤ k → ReleasesLeft region xs from until k x y → PutsReleases region xs from until x y
releases_end region xs from until k {x} {y} h p =
    let last = subst (λ (es : List ℕ). ReleasesTo region from until xs es x.code y.code) (at_drop_all (λ (es : List ℕ). es) xs k h) p.left in
    record {
      instrs = sym (append-nil y.code.instrs) ∙ last.instrs;
      handlers = sym (append-nil y.code.handlers) ∙ last.handlers;
      bodies = last.bodies;
    }
