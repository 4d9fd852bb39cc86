-- An input that is taken piece by piece.
use Rattle.std.proofs.Common.{◌≡◌, ℕ, ◌<◌, ◌≤◌, List, [], ◌++◌, length, take, drop, refl, sym, ap, ◌∙◌, arith, append_assoc}
use Rattle.std.specs.Prelude.{None, Some, Ok}
use Rattle.std.specs.declared.option.Option.{Option}
use Rattle.std.proofs.lemmas.List.{append-nil, take_all, take-append-le, take-append-drop}
use Rattle.outside_ports.specs.Feed.{Hands}
use Rattle.outside_ports.specs.declared.library.PortFault.{PortFault}
use Rattle.chill_top.specs.Reading.{IsTaken, IsWholeInput, IsInputRead}

-- nothing is taken
pub taken_none : (told : Option (List ℕ)) → IsTaken told told []
taken_none None = refl
taken_none (Some whole) = refl

-- a piece more
pub taken_next : (told before after : Option (List ℕ)) (read now piece : List ℕ) (n : ℕ) → IsTaken told before read → Hands {E = PortFault} before after (Ok n) piece → now ≡ read ++ take n piece → IsTaken told after now
taken_next None None after read now piece n taken hands is = hands
taken_next None (Some rest) after read now piece n taken hands is = absurd (let no : ⊥ = cc in no)
taken_next (Some whole) None after read now piece n taken hands is = absurd taken
taken_next (Some whole) (Some rest) after read now piece n taken hands is =
    rw (hands.left) (taken ∙ ap (λ w. read ++ w) (sym (take-append-drop n rest)) ∙ sym (append_assoc read (take n rest) (drop n rest)) ∙ ap (λ w. w ++ drop n rest) (ap (λ w. read ++ w) (sym hands.bytes) ∙ sym is))

-- none came, and there was room
pub taken_end : (told before after : Option (List ℕ)) (read piece : List ℕ) (n : ℕ) → IsTaken told before read → Hands {E = PortFault} before after (Ok n) piece → n ≡ 0 → 0 < length piece → IsWholeInput told read
taken_end None before after read piece n taken hands none room = tt
taken_end (Some whole) None after read piece n taken hands none room = absurd taken
taken_end (Some whole) (Some rest) after read piece n taken hands none room = taken ∙ ap (λ w. read ++ w) (hands.end none room) ∙ append-nil read

-- what was read to the end of an input, and as far as it goes
pub input_whole : (told : Option (List ℕ)) (read : List ℕ) → length read ≤ 1048577 → IsWholeInput told read → IsInputRead told read
input_whole None read short is = tt
input_whole (Some whole) read short is = record { front = sym (take_all 1048577 read short) ∙ ap (λ w. take 1048577 w) (sym is) }

pub input_front : (told left : Option (List ℕ)) (read : List ℕ) → length read ≡ 1048577 → IsTaken told left read → IsInputRead told read
input_front None left read long taken = tt
input_front (Some whole) None read long taken = absurd taken
input_front (Some whole) (Some rest) read long taken =
    record { front = sym (ap (λ w. take 1048577 w) taken ∙ take-append-le 1048577 read rest (omega (arith, long)) ∙ take_all 1048577 read (omega (arith, long))) }
