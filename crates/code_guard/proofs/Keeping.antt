-- Heights in a handler's range, and lists with the same items.
use Rattle.std.proofs.Common.{◌≡◌, ℕ, zero, suc, ◌<◌, List, [], ◌∷◌, length, Some, slice_get, arith, refl}
use Rattle.code_types.specs.declared.instr.Instr.{Instr}
use Rattle.code_types.specs.declared.code.Handler.{Handler}
use Rattle.code_types.specs.declared.code.Code.{Code}
use Rattle.code_guard.specs.Heights.{KeepsHeight}

-- behind the range there is nothing to keep
pub keeps_past : (code : Code) (heights : List ℕ) (handler : Handler) (body place upto : ℕ) (instr : Instr) → (place < handler.until → place < upto) → (place < upto → KeepsHeight code heights handler body place instr) → KeepsHeight code heights handler body place instr
keeps_past code heights handler body place upto instr past all = λ height from until h. all (past until) height from until h

-- lists of one length are equal where each item of the one stands in the other
pub same_list : {X : Type 0} (xs ys : List X) → length xs ≡ length ys → ((i : ℕ) (x : X) → slice_get xs i ≡ Some x → slice_get ys i ≡ Some x) → xs ≡ ys
same_list [] [] e h = refl
same_list [] (y ∷ ys) e h = absurd (omega arith)
same_list (x ∷ xs) [] e h = absurd (omega arith)
same_list (x ∷ xs) (y ∷ ys) e h = let n : length xs ≡ length ys = omega arith in let rest : xs ≡ ys = same_list xs ys n (λ i z f. h (suc i) z f) in let first = h zero x refl in let same : y ≡ x = cc in cc
