-- A program is read exactly where there is one.
use Rattle.std.proofs.Common.{◌≡◌, ℕ, zero, suc, ◌<◌, [], ◌∷◌, Option, None, Ok, Err, arith}
use Rattle.chill_base.specs.declared.pos.Pos.{Pos}
use Rattle.rules_model.specs.Marks.{Toks}
use Rattle.rules_model.specs.ItemReading.{program_at}
use Rattle.rules_model.specs.Nesting.{room_after, StaysBelow, deep_or, first_deep}
use Rattle.rules_model.specs.Reading.{Fault}
use Rattle.rules_model.proofs.ItemExact.{exact_program}
use Rattle.chill_parser.specs.Parsing.{HasNoTree}
use Rattle.chill_parser.proofs.ItemTaken.{program_is}

not_deep : (m : ℕ) (p : Pos) (o : Option Pos) → deep_or m p o ≡ None → (0 < m) × (o ≡ None)
not_deep zero p o h = absurd cc
not_deep (suc m) p o h = (omega arith, h)

pub stays_below : (n : ℕ) (toks : Toks) → first_deep n toks ≡ None → StaysBelow n toks
stays_below n [] h = tt
stays_below n (t ∷ ts) h =
    let x = not_deep (room_after t.kind n) t.at (first_deep (room_after t.kind n) ts) h in
    (x.0, stays_below (room_after t.kind n) ts x.1)

-- where nothing was read there is no tree
pub no_tree : (toks : Toks) (f : Fault) → first_deep 65 toks ≡ None → program_at 64 toks ≡ Err f → HasNoTree toks
no_tree toks f h e x d = no (exact_program d 64 (stays_below 65 toks h))
  where
    no : program_at 64 toks ≡ Ok x → ⊥
    no g = cc

pub ruleset parses = (program_is, no_tree)
