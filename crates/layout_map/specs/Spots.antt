-- The spots of a mode: where its scalars lie. A cursor counts bits from the first of word 0. One behind the first bit of word
-- 4,294,967,295, which no text comes to, is held as that bit.
use Rattle.std.specs.Prelude.{ℕ, zero, suc, ◌+◌, ◌-◌, ◌*◌, ◌/◌, ◌%◌, min, max, Bool, true, false, ◌&&◌, nat_le, List, [], ◌∷◌, ◌++◌, Option, Some, None, if◌then◌else◌}
use Rattle.chill_base.specs.declared.layout.Bits.{Bits}
use Rattle.modes.specs.ModeTree.{ModeTree, int, boolean, char, instance, set_of, range, powerset, chars, array, structure, event, buffer, read, named, FieldNodes, no_fields, more_fields, PlaceTree, SpreadTree, words, packed, step}
use Rattle.modes.specs.Bounds.{values_of}
use Rattle.modes.specs.Scalars.{numbers_of}
use Rattle.layout_map.specs.declared.scalar.Scalar.{Scalar}
use Rattle.layout_map.specs.Scalar.{scalar_of, is_signed}

-- spots, and the cursor behind them
abbrev pub Laid : Type 0
Laid = List Bits × ℕ

-- what is laid next goes behind what was laid
abbrev pub follow : Laid → (ℕ → Laid) → Laid
follow x f = (x.0 ++ (f x.1).0, (f x.1).1)

-- the same, so many times
abbrev pub times : ℕ → (ℕ → Laid) → ℕ → Laid
times zero f c = ([], c)
times (suc n) f c = follow (f c) (times n f)

abbrev pub held : ℕ → ℕ
held c = min c 137438953440

-- the first bit of a word, from here on
abbrev pub up : ℕ → ℕ
up c = held ((c + 31) / 32 * 32)

-- Packed scalars follow each other, but one that would cross a word's end begins at the next word. Others begin at a word.
abbrev pub begin : ℕ → Bool → ℕ → ℕ
begin width dense c = if dense && nat_le (c % 32 + width) 32 then c else up c

-- a scalar that isn't packed has its word alone
abbrev pub after : ℕ → Bool → ℕ → ℕ
after width dense c = held (if dense then c + width else c + 32)

abbrev pub bits_at : Scalar → ℕ → Bits
bits_at s c = record { word = c / 32; start = c % 32; end = min (c % 32 + s.width - 1) 4294967295; signed = s.signed }

abbrev pub one : Scalar → Bool → ℕ → Laid
one s dense c = (bits_at s (begin s.width dense c) ∷ [], after s.width dense (begin s.width dense c))

abbrev pub one_of : Option Scalar → Bool → ℕ → Laid
one_of None dense c = ([], c)
one_of (Some s) dense c = one s dense c

-- the numbers of a powerset, 32 members each
abbrev pub numbers : ℕ → ℕ → Bool → ℕ → Laid
numbers zero members dense c = ([], c)
numbers (suc n) members dense c =
    follow (one (record { width = min 32 members; signed = false }) dense c) (numbers n (members - 32) dense)

abbrev pub character : Scalar
character = record { width = 8; signed = false }

-- the first bit of a place whose words count from the cursor
abbrev pub place_bit : PlaceTree → ℕ → ℕ
place_bit p c = held (c + 32 * p.word + p.start)

-- an element at this bit, and the bit of the next
abbrev pub step_one : ℕ → Bool → ℕ → ℕ → Laid
step_one length signed d c = (record { word = c / 32; start = c % 32; end = min (c % 32 + length) 4294967295; signed = signed } ∷ [], held (c + d))

-- behind the first bit of the last element
abbrev pub step_end : ℕ → ℕ → ℕ → ℕ
step_end n d first = held (first + (n - 1) * d + 1)

-- so many elements at the bits of a place, moved up by the step
abbrev pub steps_laid : PlaceTree → ℕ → ℕ → Bool → ℕ → Laid
steps_laid p d n signed c =
    ((times n (step_one (p.end - p.start) signed d) (place_bit p c)).0, step_end n d (place_bit p c))

-- the elements of an array, of which each is laid by f
abbrev pub elements : SpreadTree → ℕ → Option Scalar → (Bool → ℕ → Laid) → ℕ → Laid
elements words n s f c = times n (f false) c
elements packed n s f c = times n (f true) c
elements (step p d) n s f c = steps_laid p d n (is_signed s) c

-- the first field has a place
abbrev pub is_placed : FieldNodes → Bool
is_placed no_fields = false
is_placed (more_fields name m None fs) = false
is_placed (more_fields name m (Some p) fs) = true

-- a scalar at a place whose words count from the cursor
abbrev pub spot_at : PlaceTree → Bool → ℕ → Bits
spot_at p signed c = record { word = min (c / 32 + p.word) 4294967295; start = p.start; end = p.end; signed = signed }

abbrev pub placed_spot : ModeTree → Option PlaceTree → ℕ → List Bits
placed_spot m None c = []
placed_spot m (Some p) c = spot_at p (is_signed (scalar_of m)) c ∷ []

-- behind the word of a place
abbrev pub spot_end : Option PlaceTree → ℕ → ℕ
spot_end None c = c
spot_end (Some p) c = held (c + 32 * p.word + 32)

-- the fields that have a place
abbrev pub placed_spots : FieldNodes → ℕ → List Bits
placed_spots no_fields c = []
placed_spots (more_fields name m at fs) c = placed_spot m at c ++ placed_spots fs c

-- behind the last word in which one of them stands
abbrev pub placed_end : FieldNodes → ℕ → ℕ
placed_end no_fields c = c
placed_end (more_fields name m at fs) c = max (spot_end at c) (placed_end fs c)

-- behind an array or a structure begins a new word
abbrev pub closed : Laid → Laid
closed x = (x.0, up x.1)

abbrev mutual
  -- The scalars of a mode from a cursor on, packed or not as the array or the structure around it says. An array or a structure
  -- begins at a new word, and so does what follows it.
  pub laid : ModeTree → Bool → ℕ → Laid
  laid int dense c = one_of (scalar_of int) dense c
  laid boolean dense c = one_of (scalar_of boolean) dense c
  laid char dense c = one_of (scalar_of char) dense c
  laid instance dense c = one_of (scalar_of instance) dense c
  laid (set_of d n) dense c = one_of (scalar_of (set_of d n)) dense c
  laid (range p l h) dense c = one_of (scalar_of (range p l h)) dense c
  laid (powerset m) dense c = numbers (numbers_of (values_of m)) (values_of m) dense c
  laid (chars n) dense c = times n (one character dense) c
  laid (array i e how) dense c = closed (elements how (values_of i) (scalar_of e) (laid e) (up c))
  laid (structure fs p) dense c =
      closed (if is_placed fs then (placed_spots fs (up c), placed_end fs (up c)) else laid_fields fs p (up c))
  laid (event l) dense c = ([], c)
  laid (buffer l e) dense c = ([], c)
  laid (read m) dense c = laid m dense c
  laid (named d n m) dense c = laid m dense c

  pub laid_fields : FieldNodes → Bool → ℕ → Laid
  laid_fields no_fields dense c = ([], c)
  laid_fields (more_fields name m at fs) dense c = follow (laid m dense c) (laid_fields fs dense)

-- the spots of a mode
abbrev pub spots_of : ModeTree → List Bits
spots_of m = (laid m false 0).0

-- the words that spots take: one more than the highest
abbrev pub words_of : List Bits → ℕ
words_of [] = 0
words_of (b ∷ bs) = max (b.word + 1) (words_of bs)
