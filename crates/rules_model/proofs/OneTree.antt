-- A list of tokens has at most one tree.
use Rattle.std.proofs.Common.{◌≡◌, ℕ, zero, suc, ◌<◌, ◌≤◌, Bool, true, false, cond, [], ◌∷◌, length, Result, Ok, sym, ◌∙◌, arith}
use Rattle.rules_model.specs.Marks.{Toks}
use Rattle.rules_model.specs.ItemGrammar.{HasOneTree}
use Rattle.rules_model.specs.Nesting.{opens, closes, less, room_after, StaysBelow}
use Rattle.rules_model.specs.Reading.{Fault}
use Rattle.rules_model.proofs.ItemExact.{exact_program}

less_le : (n : ℕ) → n ≤ suc (less n)
less_le zero = omega arith
less_le (suc n) = omega arith

least_room : (o c : Bool) (n : ℕ) → n ≤ suc (cond o (less n) (cond c (suc n) n))
least_room true c n = less_le n
least_room false true n = omega arith
least_room false false n = omega arith

-- more levels than tokens are enough
pub enough_room : (n : ℕ) (toks : Toks) → length toks < n → StaysBelow n toks
enough_room n [] lt = tt
enough_room n (t ∷ ts) lt =
    let le = least_room (opens t.kind) (closes t.kind) n in
    (omega (arith, le), enough_room (room_after t.kind n) ts (omega (arith, le)))

abbrev done : {A : Type 0} → A → Result A Fault
done x = Ok x

ok_is : {A : Type 0} (x y : A) → done x ≡ done y → x ≡ y
ok_is x y e = cc

pub one_tree_lem : (toks : Toks) → HasOneTree toks
one_tree_lem toks x y dx dy =
    let room = enough_room (suc (length toks)) toks (omega arith) in
    ok_is x y (sym (exact_program dx (length toks) room) ∙ exact_program dy (length toks) room)
