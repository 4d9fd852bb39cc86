-- A request, an answer and an event are read again.
use Rattle.std.proofs.Common.{◌≡◌, ℕ, ◌<◌, Bool, true, false, List, [], ◌∷◌, ◌++◌, Option, Some, None, refl, sym, ap, subst, ◌∙◌, append_assoc, arith, ℤ}
use Rattle.std.specs.Prelude.{codes}
use Rattle.std.proofs.lemmas.List.Elements.{recursion_from_All}
use Rattle.kernel_base.specs.declared.ends.How.{How}
use Rattle.kernel_base.specs.declared.ends.How.TheVariants.{Normal, Stopped, Raised}
use Rattle.kernel_base.specs.declared.request.Place.{Place}
use Rattle.kernel_base.specs.declared.request.Alternative.{Alternative}
use Rattle.kernel_base.specs.declared.request.Request.{Request}
use Rattle.kernel_base.specs.declared.request.Request.TheVariants as requests
use Rattle.kernel_base.specs.declared.answer.Answer.{Answer}
use Rattle.kernel_base.specs.declared.answer.Answer.TheVariants as answers
use Rattle.world_model.specs.Ranges.{IsNumber, IsScalar, AreScalars, IsPlaceInRange, AreAlternatives, IsHowInRange, IsRequestInRange, IsAnswerInRange}
use Rattle.journal_text.specs.Journal.{number_text, scalar_text, scalars_text, alternative_text, alternatives_text, optional_text, flag_text, bytes_text, exception_text, how_text, place_text, request_text, answer_text}
use Rattle.journal_text.specs.declared.kinds.RequestKind.{RequestKind}
use Rattle.journal_text.specs.declared.kinds.RequestKind.TheVariants as asked
use Rattle.journal_text.specs.declared.kinds.AnswerKind.{AnswerKind}
use Rattle.journal_text.specs.declared.kinds.AnswerKind.TheVariants as given
use Rattle.journal_text.specs.Reading.{Front, ◌>>=◌, word_at, number_at, scalar_at, flag_at, optional_at, scalars_at, alternative_at, alternatives_at, place_at, how_by, how_at, request_kind, operands_at, request_at, answer_kind, told_at, answer_at}
use Rattle.journal_text.proofs.Fields.{IsWord, spelled, Stops, IsSmall, Reads, Begins, begins_blank, begins_none, small_behind, word_again, number_reads, scalar_reads, flag_reads, optional_reads, exception_reads, bytes_reads}
use Rattle.journal_text.proofs.Joined.{one_reads, then_reads, rejoined, join_four, ReadsEach, list_reads}

scalars_each : ReadsEach scalar_at scalar_text IsScalar
scalars_each = record { reads = scalar_reads; begins = λ z. begins_blank _; some = λ z. omega arith }

scalars_reads : (zs : List ℤ) → AreScalars zs → Reads scalars_at (scalars_text zs) zs
unfolding scalars_at
scalars_reads zs fits = list_reads scalar_at scalar_text IsScalar scalars_each zs (recursion_from_All IsScalar zs fits)

abbrev IsAlternative : Alternative → Type 0
IsAlternative a = IsNumber a.thing × IsNumber a.number

alternative_reads : (a : Alternative) → IsAlternative a → Reads alternative_at (alternative_text a) a
unfolding alternative_at
alternative_reads a fits =
    then_reads (λ thing bytes. number_at bytes >>= λ number. Some (record { thing = thing; number = number.0 }, number.1)) (number_reads a.thing fits.0) (begins_blank _)
    (one_reads (λ number. record { thing = a.thing; number = number }) (number_reads a.number fits.1))

alternatives_each : ReadsEach alternative_at alternative_text IsAlternative
alternatives_each = record { reads = alternative_reads; begins = λ a. begins_blank _; some = λ a. omega arith }

alternatives_reads : (all : List Alternative) → AreAlternatives all → Reads alternatives_at (alternatives_text all) all
unfolding alternatives_at
alternatives_reads all fits = list_reads alternative_at alternative_text IsAlternative alternatives_each all (recursion_from_All IsAlternative all fits)

place_reads : (p : Place) → IsPlaceInRange p → Reads place_at (place_text p) p
unfolding place_at
place_reads p fits = rejoined (append_assoc (number_text p.location) (number_text p.first) (number_text p.count))
    (then_reads (λ location bytes. number_at bytes >>= λ first. number_at first.1 >>= λ count. Some (record { location = location; first = first.0; count = count.0 }, count.1)) (number_reads p.location fits.location) (begins_blank _)
    (then_reads (λ first bytes. number_at bytes >>= λ count. Some (record { location = p.location; first = first; count = count.0 }, count.1)) (number_reads p.first fits.first) (begins_blank _)
    (one_reads (λ count. record { location = p.location; first = p.first; count = count }) (number_reads p.count fits.count))))

-- a name, and what is read by it
named : {A : Type 0} (read : List ℕ → List ℕ → Front A) (w text : List ℕ) (x : A) → IsWord w → Begins text → Reads (read w) text x → Reads (λ bytes. word_at bytes >>= λ word. read word.0 word.1) ((32 ∷ w) ++ text) x
named {A} read w text x h begins g = record {
  again = λ rest s small.
      let regrouped : ((32 ∷ w) ++ text) ++ rest ≡ 32 ∷ (w ++ (text ++ rest)) = ap (λ (bytes : List ℕ). 32 ∷ bytes) (append_assoc w text rest) in
      let whole : IsSmall ((32 ∷ w) ++ (text ++ rest)) = subst IsSmall regrouped small in
      ap (λ (bytes : List ℕ). word_at bytes >>= λ word. read word.0 word.1) regrouped
      ∙ ap (λ (o : Front (List ℕ)). o >>= λ word. read word.0 word.1) (word_again w (text ++ rest) h (begins.stops rest s))
      ∙ g.again rest s (small_behind (32 ∷ w) (text ++ rest) whole);
}

nothing_read : {A : Type 0} (x : A) → Reads (λ bytes. Some (x, bytes)) [] x
nothing_read x = record { again = λ rest s small. refl }

how_reads : (how : How) → IsHowInRange how → Reads how_at (how_text how) how
unfolding how_at
how_reads Normal fits = named how_by (codes "normal") [] Normal (spelled (codes "normal") refl) begins_none (nothing_read Normal)
how_reads Stopped fits = named how_by (codes "stopped") [] Stopped (spelled (codes "stopped") refl) begins_none (nothing_read Stopped)
how_reads (Raised x) fits = named how_by (codes "raised") (exception_text x) (Raised x) (spelled (codes "raised") refl) (begins_blank _) (one_reads Raised (exception_reads x fits))

begins_flag : (flag : Bool) → Begins (flag_text flag)
begins_flag false = begins_blank _
begins_flag true = begins_blank _

pub begins_optional : (number : Option ℕ) → Begins (optional_text number)
begins_optional None = begins_blank _
begins_optional (Some n) = begins_blank _

pub then_begins : {a b : List ℕ} → Begins a → Begins b → Begins (a ++ b)
then_begins {a} {b} h k = record { stops = λ rest s. subst Stops (sym (append_assoc a b rest)) (h.stops (b ++ rest) (k.stops rest s)) }

begins_bytes : (bytes : List ℕ) → Begins (bytes_text bytes)
begins_bytes [] = begins_blank _
begins_bytes (b ∷ bs) = begins_blank _

begins_how : (how : How) → Begins (how_text how)
begins_how Normal = begins_blank _
begins_how Stopped = begins_blank _
begins_how (Raised x) = begins_blank _

pub begins_request : (r : Request) → Begins (request_text r)
begins_request (requests.Read place) = begins_blank _
begins_request (requests.Write place scalars) = begins_blank _
begins_request (requests.Enter region) = begins_blank _
begins_request (requests.Leave region) = begins_blank _
begins_request (requests.Delay events priority) = begins_blank _
begins_request (requests.Continue event) = begins_blank _
begins_request (requests.SendBuffer buffer scalars priority) = begins_blank _
begins_request (requests.ReceiveBuffer buffers otherwise) = begins_blank _
begins_request (requests.SendSignal signal scalars to priority) = begins_blank _
begins_request (requests.ReceiveSignal signals otherwise) = begins_blank _
begins_request (requests.Start process scalars) = begins_blank _
begins_request (requests.Put bytes) = begins_blank _
begins_request requests.Get = begins_blank _
begins_request (requests.End how) = begins_blank _

pub begins_answer : (a : Answer) → Begins (answer_text a)
begins_answer (answers.Value scalars) = begins_blank _
begins_answer answers.Done = begins_blank _
begins_answer (answers.Woken alternative by) = begins_blank _
begins_answer (answers.Got alternative send scalars by) = begins_blank _
begins_answer answers.Otherwise = begins_blank _
begins_answer (answers.Instance instance) = begins_blank _
begins_answer (answers.Fail exception) = begins_blank _
begins_answer (answers.Chose chosen) = begins_blank _
begins_answer (answers.Handed instance) = begins_blank _
begins_answer answers.Stored = begins_blank _

-- ---- requests

abbrev ask : List ℕ → List ℕ → Front Request
ask word rest = request_kind word >>= λ kind. operands_at kind rest

request_named : (w : List ℕ) (kind : RequestKind) (text : List ℕ) (r : Request) → IsWord w → request_kind w ≡ Some kind → Begins text → Reads (operands_at kind) text r → Reads request_at ((32 ∷ w) ++ text) r
unfolding request_at
request_named w kind text r h e begins g = named ask w text r h begins (record { again = λ rest s small. rw e (g.again rest s small) })

pub request_reads : (r : Request) → IsRequestInRange r → Reads request_at (request_text r) r
unfolding request_kind operands_at
request_reads (requests.Read place) fits = request_named (codes "read") asked.Read (place_text place) (requests.Read place) (spelled (codes "read") refl) refl (begins_blank _)
    (one_reads requests.Read (place_reads place fits))
request_reads (requests.Write place scalars) fits = request_named (codes "write") asked.Write (place_text place ++ scalars_text scalars) (requests.Write place scalars) (spelled (codes "write") refl) refl (begins_blank _)
    (then_reads (λ p bytes. scalars_at bytes >>= λ zs. Some (requests.Write p zs.0, zs.1)) (place_reads place fits.0) (begins_blank _)
    (one_reads (requests.Write place) (scalars_reads scalars fits.1)))
request_reads (requests.Enter region) fits = request_named (codes "enter") asked.Enter (number_text region) (requests.Enter region) (spelled (codes "enter") refl) refl (begins_blank _)
    (one_reads requests.Enter (number_reads region fits))
request_reads (requests.Leave region) fits = request_named (codes "leave") asked.Leave (number_text region) (requests.Leave region) (spelled (codes "leave") refl) refl (begins_blank _)
    (one_reads requests.Leave (number_reads region fits))
request_reads (requests.Delay events priority) fits = request_named (codes "delay") asked.Delay (alternatives_text events ++ number_text priority) (requests.Delay events priority) (spelled (codes "delay") refl) refl (begins_blank _)
    (then_reads (λ es bytes. number_at bytes >>= λ n. Some (requests.Delay es n.0, n.1)) (alternatives_reads events fits.0) (begins_blank _)
    (one_reads (requests.Delay events) (number_reads priority fits.1)))
request_reads (requests.Continue event) fits = request_named (codes "continue") asked.Continue (number_text event) (requests.Continue event) (spelled (codes "continue") refl) refl (begins_blank _)
    (one_reads requests.Continue (number_reads event fits))
request_reads (requests.SendBuffer buffer scalars priority) fits = request_named (codes "sendb") asked.SendBuffer (number_text buffer ++ scalars_text scalars ++ number_text priority) (requests.SendBuffer buffer scalars priority) (spelled (codes "sendb") refl) refl (begins_blank _)
    (rejoined (append_assoc (number_text buffer) (scalars_text scalars) (number_text priority))
    (then_reads (λ b bytes. scalars_at bytes >>= λ zs. number_at zs.1 >>= λ n. Some (requests.SendBuffer b zs.0 n.0, n.1)) (number_reads buffer fits.0) (begins_blank _)
    (then_reads (λ zs bytes. number_at bytes >>= λ n. Some (requests.SendBuffer buffer zs n.0, n.1)) (scalars_reads scalars fits.1) (begins_blank _)
    (one_reads (requests.SendBuffer buffer scalars) (number_reads priority fits.2)))))
request_reads (requests.ReceiveBuffer buffers otherwise) fits = request_named (codes "recvb") asked.ReceiveBuffer (alternatives_text buffers ++ flag_text otherwise) (requests.ReceiveBuffer buffers otherwise) (spelled (codes "recvb") refl) refl (begins_blank _)
    (then_reads (λ bs bytes. flag_at bytes >>= λ flag. Some (requests.ReceiveBuffer bs flag.0, flag.1)) (alternatives_reads buffers fits) (begins_flag otherwise)
    (one_reads (requests.ReceiveBuffer buffers) (flag_reads otherwise)))
request_reads (requests.SendSignal signal scalars to priority) fits = request_named (codes "sends") asked.SendSignal (number_text signal ++ scalars_text scalars ++ optional_text to ++ number_text priority) (requests.SendSignal signal scalars to priority) (spelled (codes "sends") refl) refl (begins_blank _)
    (rejoined (join_four (number_text signal) (scalars_text scalars) (optional_text to) (number_text priority))
    (then_reads (λ sg bytes. scalars_at bytes >>= λ zs. optional_at zs.1 >>= λ t. number_at t.1 >>= λ n. Some (requests.SendSignal sg zs.0 t.0 n.0, n.1)) (number_reads signal fits.0) (begins_blank _)
    (then_reads (λ zs bytes. optional_at bytes >>= λ t. number_at t.1 >>= λ n. Some (requests.SendSignal signal zs t.0 n.0, n.1)) (scalars_reads scalars fits.1) (then_begins (begins_optional to) (begins_blank _))
    (then_reads (λ t bytes. number_at bytes >>= λ n. Some (requests.SendSignal signal scalars t n.0, n.1)) (optional_reads to fits.2) (begins_blank _)
    (one_reads (requests.SendSignal signal scalars to) (number_reads priority fits.3))))))
request_reads (requests.ReceiveSignal signals otherwise) fits = request_named (codes "recvs") asked.ReceiveSignal (alternatives_text signals ++ flag_text otherwise) (requests.ReceiveSignal signals otherwise) (spelled (codes "recvs") refl) refl (begins_blank _)
    (then_reads (λ ss bytes. flag_at bytes >>= λ flag. Some (requests.ReceiveSignal ss flag.0, flag.1)) (alternatives_reads signals fits) (begins_flag otherwise)
    (one_reads (requests.ReceiveSignal signals) (flag_reads otherwise)))
request_reads (requests.Start process scalars) fits = request_named (codes "start") asked.Start (number_text process ++ scalars_text scalars) (requests.Start process scalars) (spelled (codes "start") refl) refl (begins_blank _)
    (then_reads (λ p bytes. scalars_at bytes >>= λ zs. Some (requests.Start p zs.0, zs.1)) (number_reads process fits.0) (begins_blank _)
    (one_reads (requests.Start process) (scalars_reads scalars fits.1)))
request_reads (requests.Put bytes) fits = request_named (codes "put") asked.Put (bytes_text bytes) (requests.Put bytes) (spelled (codes "put") refl) refl (begins_bytes bytes)
    (one_reads requests.Put (bytes_reads bytes (recursion_from_All (λ byte. byte < 256) bytes fits)))
request_reads requests.Get fits = request_named (codes "get") asked.Get [] requests.Get (spelled (codes "get") refl) refl begins_none (nothing_read requests.Get)
request_reads (requests.End how) fits = request_named (codes "end") asked.End (how_text how) (requests.End how) (spelled (codes "end") refl) refl (begins_how how)
    (one_reads requests.End (how_reads how fits))

-- ---- answers

abbrev tell : List ℕ → List ℕ → Front Answer
tell word rest = answer_kind word >>= λ kind. told_at kind rest

answer_named : (w : List ℕ) (kind : AnswerKind) (text : List ℕ) (a : Answer) → IsWord w → answer_kind w ≡ Some kind → Begins text → Reads (told_at kind) text a → Reads answer_at ((32 ∷ w) ++ text) a
unfolding answer_at
answer_named w kind text a h e begins g = named tell w text a h begins (record { again = λ rest s small. rw e (g.again rest s small) })

pub answer_reads : (a : Answer) → IsAnswerInRange a → Reads answer_at (answer_text a) a
unfolding answer_kind told_at
answer_reads (answers.Value scalars) fits = answer_named (codes "value") given.Value (scalars_text scalars) (answers.Value scalars) (spelled (codes "value") refl) refl (begins_blank _)
    (one_reads answers.Value (scalars_reads scalars fits))
answer_reads answers.Done fits = answer_named (codes "done") given.Done [] answers.Done (spelled (codes "done") refl) refl begins_none (nothing_read answers.Done)
answer_reads (answers.Woken alternative by) fits = answer_named (codes "woken") given.Woken (number_text alternative ++ number_text by) (answers.Woken alternative by) (spelled (codes "woken") refl) refl (begins_blank _)
    (then_reads (λ n bytes. number_at bytes >>= λ i. Some (answers.Woken n i.0, i.1)) (number_reads alternative fits.0) (begins_blank _)
    (one_reads (answers.Woken alternative) (number_reads by fits.1)))
answer_reads (answers.Got alternative send scalars by) fits = answer_named (codes "got") given.Got (number_text alternative ++ number_text send ++ scalars_text scalars ++ number_text by) (answers.Got alternative send scalars by) (spelled (codes "got") refl) refl (begins_blank _)
    (rejoined (join_four (number_text alternative) (number_text send) (scalars_text scalars) (number_text by))
    (then_reads (λ n bytes. number_at bytes >>= λ s. scalars_at s.1 >>= λ zs. number_at zs.1 >>= λ i. Some (answers.Got n s.0 zs.0 i.0, i.1)) (number_reads alternative fits.0) (begins_blank _)
    (then_reads (λ s bytes. scalars_at bytes >>= λ zs. number_at zs.1 >>= λ i. Some (answers.Got alternative s zs.0 i.0, i.1)) (number_reads send fits.1) (begins_blank _)
    (then_reads (λ zs bytes. number_at bytes >>= λ i. Some (answers.Got alternative send zs i.0, i.1)) (scalars_reads scalars fits.2) (begins_blank _)
    (one_reads (answers.Got alternative send scalars) (number_reads by fits.3))))))
answer_reads answers.Otherwise fits = answer_named (codes "otherwise") given.Otherwise [] answers.Otherwise (spelled (codes "otherwise") refl) refl begins_none (nothing_read answers.Otherwise)
answer_reads (answers.Instance instance) fits = answer_named (codes "instance") given.Instance (number_text instance) (answers.Instance instance) (spelled (codes "instance") refl) refl (begins_blank _)
    (one_reads answers.Instance (number_reads instance fits))
answer_reads (answers.Fail exception) fits = answer_named (codes "fail") given.Fail (exception_text exception) (answers.Fail exception) (spelled (codes "fail") refl) refl (begins_blank _)
    (one_reads answers.Fail (exception_reads exception fits))
answer_reads (answers.Chose chosen) fits = answer_named (codes "chose") given.Chose (optional_text chosen) (answers.Chose chosen) (spelled (codes "chose") refl) refl (begins_optional chosen)
    (one_reads answers.Chose (optional_reads chosen fits))
answer_reads (answers.Handed instance) fits = answer_named (codes "handed") given.Handed (number_text instance) (answers.Handed instance) (spelled (codes "handed") refl) refl (begins_blank _)
    (one_reads answers.Handed (number_reads instance fits))
answer_reads answers.Stored fits = answer_named (codes "stored") given.Stored [] answers.Stored (spelled (codes "stored") refl) refl begins_none (nothing_read answers.Stored)
