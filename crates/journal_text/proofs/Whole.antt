-- What is told of the lines of a text is told of the text.
use Rattle.std.proofs.Common.{◌≡◌, ◌≢◌, ℕ, ◌^◌, ◌<◌, List, [], ◌∷◌, ◌++◌, length, take, drop, Some, Result, Ok, Err, refl, sym, ap, subst, ◌∙◌, append_assoc, append-nil, arith, inl, inr, ◌⊎◌, Bool, true, false, not, eqb}
use Rattle.std.specs.List.{flat_map}
use Rattle.std.specs.Str.{bytes_eq}
use Rattle.std.proofs.lemmas.Bool.{eq-eqb, eqb-true, and_parts}
use Rattle.std.proofs.lemmas.List.{length-append, take_at, take-append-drop}
use Rattle.std.proofs.lemmas.List.Elements.{recursion_from_All, All-from_recursion}
use Rattle.kernel_base.specs.declared.event.Event.{Event}
use Rattle.world_model.specs.Ranges.{IsInRange}
use Rattle.journal_text.specs.declared.refusal.JournalRefusal.{JournalRefusal}
use Rattle.journal_text.specs.declared.refusal.JournalRefusal.TheVariants.{BadLine, Memory}
use Rattle.journal_text.specs.Journal.{event_text, event_line, first_line, last_line}
use Rattle.journal_text.specs.Lines.{IsNoJournal, IsNoLine, IsNoEvent, IsText, BreaksOff, GoesOn, IsRead, IsLineRead, AreLinesRead, IsBehind, OneJournalLaw}
use Rattle.journal_text.specs.declared.unread.Unread.{Unread}
use Rattle.journal_text.specs.declared.unread.Unread.TheVariants as faults
use Rattle.journal_text.specs.Reading.{Fails, event_at}
use Rattle.journal_text.proofs.Fields.{IsSmall}
use Rattle.journal_text.proofs.Events.{AreInRange, nothing_there, only_guess, differs, one_list}

bytes_self : (a : List ℕ) → bytes_eq a a ≡ true
bytes_self [] = refl
bytes_self (x ∷ xs) = rw (eq-eqb x x refl) (bytes_self xs)

pub bytes_differ : (a b : List ℕ) → a ≡ b → bytes_eq a b ≡ false → ⊥
bytes_differ a b same other =
    let yes : bytes_eq a b ≡ true = subst (λ (x : List ℕ). bytes_eq a x ≡ true) same (bytes_self a) in
    let never : ⊥ = cc in
    never

two_same : (x y : ℕ) (xs ys : List ℕ) → x ≡ y → xs ≡ ys → (x ∷ xs) ≡ (y ∷ ys)
two_same x y xs ys p q = cc

bytes_same : (a b : List ℕ) → bytes_eq a b ≡ true → a ≡ b
bytes_same [] [] h = refl
bytes_same [] (y ∷ ys) h = absurd cc
bytes_same (x ∷ xs) [] h = absurd cc
bytes_same (x ∷ xs) (y ∷ ys) h =
    let parts = and_parts (eqb x y) (bytes_eq xs ys) h in
    two_same x y xs ys (eqb-true x y parts.0) (bytes_same xs ys parts.1)

not_true : (b : Bool) → not b ≡ true → b ≡ false
not_true true h = absurd cc
not_true false h = refl

not_false : (b : Bool) → not b ≡ false → b ≡ true
not_false true h = refl
not_false false h = absurd cc

-- what a test of two texts says
pub is_other : (a b c : List ℕ) (test : Bool) → test ≡ not (bytes_eq a b) → b ≡ c → test ≡ true → a ≢ c
is_other a b c test is same holds e = bytes_differ a b (e ∙ sym same) (not_true (bytes_eq a b) (sym is ∙ holds))

pub is_same : (a b c : List ℕ) (test : Bool) → test ≡ not (bytes_eq a b) → b ≡ c → test ≡ false → a ≡ c
is_same a b c test is same other = bytes_same a b (not_false (bytes_eq a b) (sym is ∙ other)) ∙ same

-- where nothing is guessed, no event's line stands
pub failed_guess : (fault : Unread) (bytes : List ℕ) → length bytes < 2 ^ 32 → Fails fault (event_at bytes) → IsLineRead bytes (Err fault)
failed_guess faults.Memory bytes few h = tt
failed_guess faults.NoEvent bytes few h = nothing_there bytes (record { few = few }) h

pub too_short : (line bytes : List ℕ) → length bytes < length line → IsNoLine line bytes
too_short line bytes short rest is = omega (arith, ap length is, length-append line rest)

pub other_front : (line bytes : List ℕ) → (take (length line) bytes ≡ line → ⊥) → IsNoLine line bytes
other_front line bytes other rest is = other (ap (take (length line)) is ∙ take_at line rest (length line) refl)

pub same_front : (line bytes : List ℕ) → take (length line) bytes ≡ line → bytes ≡ line ++ drop (length line) bytes
same_front line bytes same = sym (take-append-drop (length line) bytes) ∙ ap (λ (x : List ℕ). x ++ drop (length line) bytes) same

-- where another line stands than that of what is guessed, no event's does
pub other_line : (bytes : List ℕ) (guess : Event) (left : List ℕ) → length bytes < 2 ^ 32 → event_at bytes ≡ Some (guess, left) → IsNoLine (event_line guess) bytes → IsNoEvent bytes
other_line bytes guess left few found never event rest fits is =
    let same : guess ≡ event = only_guess bytes guess left (record { few = few }) found event rest fits is in
    never rest (is ∙ ap (λ (e : Event). event_line e ++ rest) (sym same))

-- nor where what is guessed is no event
pub other_range : (bytes : List ℕ) (guess : Event) (left : List ℕ) → length bytes < 2 ^ 32 → event_at bytes ≡ Some (guess, left) → (IsInRange guess → ⊥) → IsNoEvent bytes
other_range bytes guess left few found never event rest fits is =
    let same : guess ≡ event = only_guess bytes guess left (record { few = few }) found event rest fits is in
    never (subst IsInRange (sym same) fits)

pub range-push : (es : List Event) (e : Event) → AreInRange es → IsInRange e → AreInRange (es ++ e ∷ [])
range-push [] e h k = (k, tt)
range-push (f ∷ es) e h k = (h.0, range-push es e h.1 k)

flat-push : (es : List Event) (e : Event) (after : List ℕ) → flat_map event_line (es ++ e ∷ []) ++ after ≡ flat_map event_line es ++ (event_line e ++ after)
flat-push [] e after = ap (λ (x : List ℕ). x ++ after) (append-nil (event_line e))
flat-push (f ∷ es) e after =
    append_assoc (event_line f) (flat_map event_line (es ++ e ∷ [])) after
    ∙ ap (λ (x : List ℕ). event_line f ++ x) (flat-push es e after)
    ∙ sym (append_assoc (event_line f) (flat_map event_line es) (event_line e ++ after))

-- one line more is read
pub lines-push : (es : List Event) (e : Event) (bytes rest after : List ℕ) → bytes ≡ flat_map event_line es ++ rest → rest ≡ event_line e ++ after → bytes ≡ flat_map event_line (es ++ e ∷ []) ++ after
lines-push es e bytes rest after whole is = whole ∙ ap (λ (x : List ℕ). flat_map event_line es ++ x) is ∙ sym (flat-push es e after)

line_some : (e : Event) (after : List ℕ) → length after < length (event_line e ++ after)
line_some e after = omega (arith, length-append (event_line e) after, length-append (event_text e) (10 ∷ []))

pub line_shorter : (e : Event) (rest after : List ℕ) → rest ≡ event_line e ++ after → length after < length rest
line_shorter e rest after is = rw is (line_some e after)

first_gone : (a b : List ℕ) → first_line ++ a ≡ first_line ++ b → a ≡ b
first_gone a b is = ap (drop 16) is

text_parts : (bytes : List ℕ) (events : List Event) (rest : List ℕ) → AreInRange events → bytes ≡ flat_map event_line events ++ rest → IsText (first_line ++ bytes) events rest
text_parts bytes events rest in_range whole = record { in_range = All-from_recursion IsInRange events in_range; whole = ap (λ (x : List ℕ). first_line ++ x) whole }

no_journal : (bytes rest : List ℕ) (events : List Event) → length bytes < 2 ^ 32 → AreInRange events → bytes ≡ flat_map event_line events ++ rest → IsNoEvent rest → rest ≢ last_line → IsNoJournal (first_line ++ bytes)
no_journal bytes rest events few in_range whole never other fs in_f is =
    let small : IsSmall (flat_map event_line events ++ rest) = subst IsSmall whole (record { few = few }) in
    differs events fs rest in_range (recursion_from_All IsInRange fs in_f) small never other (sym whole ∙ first_gone bytes (flat_map event_line fs ++ last_line) is)

pub breaks : (bytes rest : List ℕ) (events : List Event) (line : ℕ) → length bytes < 2 ^ 32 → AreInRange events → bytes ≡ flat_map event_line events ++ rest → IsNoEvent rest → rest ≢ last_line → IsBehind (length events) rest line → AreLinesRead bytes (Err (BadLine line))
breaks bytes rest events line few in_range whole never other (inl h) =
    (no_journal bytes rest events few in_range whole never other, inl (record { events = events; rest = rest; text_is = text_parts bytes events rest in_range whole; no_event = never; no_end = h.0; number = h.1 }))
breaks bytes rest events line few in_range whole never other (inr h) =
    let more : List ℕ = h.0 in (
      no_journal bytes rest events few in_range whole never other,
      inr (record {
        events = events;
        more = h.0;
        text_is = text_parts bytes events (last_line ++ h.0) in_range (whole ∙ ap (λ (x : List ℕ). flat_map event_line events ++ x) h.1);
        is_more = λ e. other (h.1 ∙ ap (λ (x : List ℕ). last_line ++ x) e);
        number = h.2;
      }),
    )

pub all_read : (bytes : List ℕ) (events : List Event) → AreInRange events → bytes ≡ flat_map event_line events ++ last_line → AreLinesRead bytes (Ok events)
all_read bytes events in_range whole = (All-from_recursion IsInRange events in_range, whole)

pub whole_read : (text rest : List ℕ) (result : Result (List Event) JournalRefusal) → text ≡ first_line ++ rest → AreLinesRead rest result → IsRead text result
whole_read text rest (Ok events) is h = (h.0, is ∙ ap (λ (x : List ℕ). first_line ++ x) h.1)
whole_read text rest (Err (BadLine line)) is h =
    (subst IsNoJournal (sym is) h.0, inr (subst (λ (t : List ℕ). BreaksOff t line ⊎ GoesOn t line) (sym is) h.1))
whole_read text rest (Err Memory) is h = tt

pub no_first : (text : List ℕ) → IsNoLine first_line text → IsRead text (Err (BadLine 1))
no_first text never = (λ events in_range is. never (flat_map event_line events ++ last_line) is, inl (never, refl))

pub one_journal : OneJournalLaw
one_journal a b in_a in_b few is =
    let same : flat_map event_line a ++ last_line ≡ flat_map event_line b ++ last_line = first_gone (flat_map event_line a ++ last_line) (flat_map event_line b ++ last_line) is in
    let small : IsSmall (flat_map event_line a ++ last_line) = record { few = omega (arith, few, length-append first_line (flat_map event_line a ++ last_line)) } in
    one_list a b (recursion_from_All IsInRange a in_a) (recursion_from_All IsInRange b in_b) small same
