-- An event's line is read again, so a text is that of one list of events at most.
use Rattle.std.proofs.Common.{◌≡◌, ◌≢◌, ℕ, List, [], ◌∷◌, ◌++◌, drop, Option, Some, None, refl, sym, ap, subst, ◌∙◌, append_assoc, arith}
use Rattle.std.specs.Prelude.{codes}
use Rattle.std.specs.List.{flat_map, AllByRecursion}
use Rattle.std.proofs.lemmas.Option.{some_pair_parts}
use Rattle.kernel_base.specs.declared.event.Event.{Event}
use Rattle.kernel_base.specs.declared.event.Event.TheVariants as events
use Rattle.world_model.specs.Ranges.{IsInRange}
use Rattle.journal_text.specs.Journal.{number_text, optional_text, request_text, answer_text, event_line, last_line}
use Rattle.journal_text.specs.Lines.{IsNoEvent}
use Rattle.journal_text.specs.declared.kinds.EventKind.{EventKind}
use Rattle.journal_text.specs.declared.kinds.EventKind.TheVariants as kinds
use Rattle.journal_text.specs.Reading.{Front, ◌>>=◌, word_and_rest, number_at, optional_at, request_at, answer_at, event_kind, details_at, event_at}
use Rattle.journal_text.proofs.Fields.{IsWord, spelled, Stops, IsSmall, Reads, Begins, begins_blank, small_behind, word_split, number_reads, optional_reads}
use Rattle.journal_text.proofs.Joined.{one_reads, then_reads, rejoined, join_five}
use Rattle.journal_text.proofs.Requests.{then_begins, begins_request, begins_answer, begins_optional, request_reads, answer_reads}

pub record IsFront (bytes : List ℕ) (event : Event) (rest : List ℕ) : Type 0 where
  pub is : event_at bytes ≡ Some (event, 10 ∷ rest)

started : (w text : List ℕ) (kind : EventKind) (event : Event) (rest : List ℕ) → IsWord w → event_kind w ≡ Some kind → Begins text → Reads (details_at kind) text event → IsSmall (((w ++ text) ++ 10 ∷ []) ++ rest) → IsFront (((w ++ text) ++ 10 ∷ []) ++ rest) event rest
unfolding event_at
started w text kind event rest h e begins g small =
    let feed : Stops (10 ∷ rest) = record { none = refl } in
    let regrouped : ((w ++ text) ++ 10 ∷ []) ++ rest ≡ w ++ (text ++ 10 ∷ rest) = append_assoc (w ++ text) (10 ∷ []) rest ∙ append_assoc w text (10 ∷ rest) in
    let whole : IsSmall (w ++ (text ++ 10 ∷ rest)) = subst IsSmall regrouped small in
    let split : word_and_rest (w ++ (text ++ 10 ∷ rest)) ≡ (w, text ++ 10 ∷ rest) = word_split w (text ++ 10 ∷ rest) h (begins.stops (10 ∷ rest) feed) in
    record {
      is =
          ap event_at regrouped
          ∙ ap (λ (p : List ℕ × List ℕ). event_kind p.0 >>= λ k. details_at k p.1) split
          ∙ ap (λ (o : Option EventKind). o >>= λ k. details_at k (text ++ 10 ∷ rest)) e
          ∙ g.again (10 ∷ rest) feed (small_behind w (text ++ 10 ∷ rest) whole);
    }

pub line_again : (event : Event) (rest : List ℕ) → IsInRange event → IsSmall (event_line event ++ rest) → IsFront (event_line event ++ rest) event rest
unfolding event_kind details_at
line_again (events.Did who ticks request answer refill) rest fits small =
    started (codes "did") (number_text who ++ number_text ticks ++ request_text request ++ answer_text answer ++ optional_text refill) kinds.Did (events.Did who ticks request answer refill) rest (spelled (codes "did") refl) refl (begins_blank _)
    (rejoined (join_five (number_text who) (number_text ticks) (request_text request) (answer_text answer) (optional_text refill))
    (then_reads (λ w bytes. number_at bytes >>= λ t. request_at t.1 >>= λ r. answer_at r.1 >>= λ a. optional_at a.1 >>= λ f. Some (events.Did w t.0 r.0 a.0 f.0, f.1)) (number_reads who fits.0) (begins_blank _)
    (then_reads (λ t bytes. request_at bytes >>= λ r. answer_at r.1 >>= λ a. optional_at a.1 >>= λ f. Some (events.Did who t r.0 a.0 f.0, f.1)) (number_reads ticks fits.1) (then_begins (begins_request request) (then_begins (begins_answer answer) (begins_optional refill)))
    (then_reads (λ r bytes. answer_at bytes >>= λ a. optional_at a.1 >>= λ f. Some (events.Did who ticks r a.0 f.0, f.1)) (request_reads request fits.2) (then_begins (begins_answer answer) (begins_optional refill))
    (then_reads (λ a bytes. optional_at bytes >>= λ f. Some (events.Did who ticks request a f.0, f.1)) (answer_reads answer fits.3) (begins_optional refill)
    (one_reads (events.Did who ticks request answer) (optional_reads refill fits.4))))))) small
line_again (events.Waits who ticks request) rest fits small =
    started (codes "waits") (number_text who ++ number_text ticks ++ request_text request) kinds.Waits (events.Waits who ticks request) rest (spelled (codes "waits") refl) refl (begins_blank _)
    (rejoined (append_assoc (number_text who) (number_text ticks) (request_text request))
    (then_reads (λ w bytes. number_at bytes >>= λ t. request_at t.1 >>= λ r. Some (events.Waits w t.0 r.0, r.1)) (number_reads who fits.0) (begins_blank _)
    (then_reads (λ t bytes. request_at bytes >>= λ r. Some (events.Waits who t r.0, r.1)) (number_reads ticks fits.1) (begins_request request)
    (one_reads (events.Waits who ticks) (request_reads request fits.2))))) small
line_again (events.Goes who answer) rest fits small =
    started (codes "goes") (number_text who ++ answer_text answer) kinds.Goes (events.Goes who answer) rest (spelled (codes "goes") refl) refl (begins_blank _)
    (then_reads (λ w bytes. answer_at bytes >>= λ a. Some (events.Goes w a.0, a.1)) (number_reads who fits.0) (begins_answer answer)
    (one_reads (events.Goes who) (answer_reads answer fits.1))) small
line_again (events.Runs who ticks) rest fits small =
    started (codes "runs") (number_text who ++ number_text ticks) kinds.Runs (events.Runs who ticks) rest (spelled (codes "runs") refl) refl (begins_blank _)
    (then_reads (λ w bytes. number_at bytes >>= λ t. Some (events.Runs w t.0, t.1)) (number_reads who fits.0) (begins_blank _)
    (one_reads (events.Runs who) (number_reads ticks fits.1))) small

-- ---- lines

-- what isn't guessed is no event's line
pub nothing_there : (bytes : List ℕ) → IsSmall bytes → event_at bytes ≡ None → IsNoEvent bytes
nothing_there bytes small none event rest fits is =
    let front : IsFront (event_line event ++ rest) event rest = line_again event rest fits (subst IsSmall is small) in
    let there : event_at bytes ≡ Some (event, 10 ∷ rest) = ap event_at is ∙ front.is in
    absurd cc

-- one front of bytes is one event with one rest
front_event : (o : Front Event) (e f : Event) (x y : List ℕ) → o ≡ Some (e, x) → o ≡ Some (f, y) → e ≡ f
front_event o e f x y p q = (some_pair_parts e f x y (sym p ∙ q)).0

front_rest : (o : Front Event) (e f : Event) (x y : List ℕ) → o ≡ Some (e, x) → o ≡ Some (f, y) → x ≡ y
front_rest o e f x y p q = (some_pair_parts e f x y (sym p ∙ q)).1

-- what is guessed is the only event whose line may stand there
pub only_guess : (bytes : List ℕ) (guess : Event) (left : List ℕ) → IsSmall bytes → event_at bytes ≡ Some (guess, left) → (event : Event) (rest : List ℕ) → IsInRange event → bytes ≡ event_line event ++ rest → guess ≡ event
only_guess bytes guess left small found event rest fits is =
    let front : IsFront (event_line event ++ rest) event rest = line_again event rest fits (subst IsSmall is small) in
    front_event (event_at bytes) guess event left (10 ∷ rest) found (ap event_at is ∙ front.is)

same_line : (e f : Event) (x y : List ℕ) → IsInRange e → IsInRange f → IsSmall (event_line e ++ x) → event_line e ++ x ≡ event_line f ++ y → x ≡ y
same_line e f x y in_e in_f small is =
    let one : IsFront (event_line e ++ x) e x = line_again e x in_e small in
    let two : IsFront (event_line f ++ y) f y = line_again f y in_f (subst IsSmall is small) in
    ap (drop 1) (front_rest (event_at (event_line e ++ x)) e f (10 ∷ x) (10 ∷ y) one.is (ap event_at is ∙ two.is))

same_event : (e f : Event) (x y : List ℕ) → IsInRange e → IsInRange f → IsSmall (event_line e ++ x) → event_line e ++ x ≡ event_line f ++ y → e ≡ f
same_event e f x y in_e in_f small is =
    let one : IsFront (event_line e ++ x) e x = line_again e x in_e small in
    let two : IsFront (event_line f ++ y) f y = line_again f y in_f (subst IsSmall is small) in
    front_event (event_at (event_line e ++ x)) e f (10 ∷ x) (10 ∷ y) one.is (ap event_at is ∙ two.is)

-- the last line is no event's
pub last_is_none : (more : List ℕ) → event_at (last_line ++ more) ≡ None
unfolding event_at event_kind
last_is_none more = refl

pub last_no_event : (more : List ℕ) → IsSmall (last_line ++ more) → IsNoEvent (last_line ++ more)
last_no_event more small = nothing_there (last_line ++ more) small (last_is_none more)

abbrev pub AreInRange : List Event → Type 0
AreInRange = AllByRecursion IsInRange

-- behind the lines of some events nothing stands that is no event's line and isn't the last line
pub differs : (es fs : List Event) (rest : List ℕ) → AreInRange es → AreInRange fs → IsSmall (flat_map event_line es ++ rest) → IsNoEvent rest → rest ≢ last_line → flat_map event_line es ++ rest ≡ flat_map event_line fs ++ last_line → ⊥
differs [] [] rest in_e in_f small never other is = other is
differs [] (f ∷ fs) rest in_e in_f small never other is = never f (flat_map event_line fs ++ last_line) in_f.0 (is ∙ append_assoc (event_line f) (flat_map event_line fs) last_line)
differs (e ∷ es) [] rest in_e in_f small never other is =
    let there : last_line ≡ event_line e ++ (flat_map event_line es ++ rest) = sym is ∙ append_assoc (event_line e) (flat_map event_line es) rest in
    last_no_event [] (record { few = omega arith }) e (flat_map event_line es ++ rest) in_e.0 there
differs (e ∷ es) (f ∷ fs) rest in_e in_f small never other is =
    let left : (event_line e ++ flat_map event_line es) ++ rest ≡ event_line e ++ (flat_map event_line es ++ rest) = append_assoc (event_line e) (flat_map event_line es) rest in
    let right : (event_line f ++ flat_map event_line fs) ++ last_line ≡ event_line f ++ (flat_map event_line fs ++ last_line) = append_assoc (event_line f) (flat_map event_line fs) last_line in
    let whole : IsSmall (event_line e ++ (flat_map event_line es ++ rest)) = subst IsSmall left small in
    let others : flat_map event_line es ++ rest ≡ flat_map event_line fs ++ last_line = same_line e f (flat_map event_line es ++ rest) (flat_map event_line fs ++ last_line) in_e.0 in_f.0 whole (sym left ∙ is ∙ right) in
    differs es fs rest in_e.1 in_f.1 (small_behind (event_line e) (flat_map event_line es ++ rest) whole) never other others

joined_same : (e f : Event) (es fs : List Event) → e ≡ f → es ≡ fs → (e ∷ es) ≡ (f ∷ fs)
joined_same e f es fs p q = cc

pub one_list : (es fs : List Event) → AreInRange es → AreInRange fs → IsSmall (flat_map event_line es ++ last_line) → flat_map event_line es ++ last_line ≡ flat_map event_line fs ++ last_line → es ≡ fs
one_list [] [] in_e in_f small is = refl
one_list [] (f ∷ fs) in_e in_f small is =
    absurd (last_no_event [] (record { few = omega arith }) f (flat_map event_line fs ++ last_line) in_f.0 (is ∙ append_assoc (event_line f) (flat_map event_line fs) last_line))
one_list (e ∷ es) [] in_e in_f small is =
    absurd (last_no_event [] (record { few = omega arith }) e (flat_map event_line es ++ last_line) in_e.0 (sym is ∙ append_assoc (event_line e) (flat_map event_line es) last_line))
one_list (e ∷ es) (f ∷ fs) in_e in_f small is =
    let left : (event_line e ++ flat_map event_line es) ++ last_line ≡ event_line e ++ (flat_map event_line es ++ last_line) = append_assoc (event_line e) (flat_map event_line es) last_line in
    let right : (event_line f ++ flat_map event_line fs) ++ last_line ≡ event_line f ++ (flat_map event_line fs ++ last_line) = append_assoc (event_line f) (flat_map event_line fs) last_line in
    let whole : IsSmall (event_line e ++ (flat_map event_line es ++ last_line)) = subst IsSmall left small in
    let same : event_line e ++ (flat_map event_line es ++ last_line) ≡ event_line f ++ (flat_map event_line fs ++ last_line) = sym left ∙ is ∙ right in
    let others : flat_map event_line es ++ last_line ≡ flat_map event_line fs ++ last_line = same_line e f (flat_map event_line es ++ last_line) (flat_map event_line fs ++ last_line) in_e.0 in_f.0 whole same in
    let head : e ≡ f = same_event e f (flat_map event_line es ++ last_line) (flat_map event_line fs ++ last_line) in_e.0 in_f.0 whole same in
    let tail : es ≡ fs = one_list es fs in_e.1 in_f.1 (small_behind (event_line e) (flat_map event_line es ++ last_line) whole) others in
    joined_same e f es fs head tail
