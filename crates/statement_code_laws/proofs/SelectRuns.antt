-- Alternatives of which a number that is kept chooses one.
use Rattle.std.proofs.Common.{◌≡◌, ℕ, suc, ◌+◌, ◌≤◌, if◌then◌else◌, Bool, true, false, List, [], ◌∷◌, ◌++◌, ℤ, length, refl, sym, ap, subst, arith, length-append, ◌⊎◌, inl, inr}
use Rattle.world_model.specs.Session.{Session}
use Rattle.scalar_operators.specs.Numbers.{truth_number}
use Rattle.program_trees.specs.StatementTree.{StatementNodes}
use Rattle.code_types.specs.declared.instr.Instr.{Instr}
use Rattle.code_types.specs.declared.instr.Instr.TheVariants as i
use Rattle.code_types.specs.declared.code.Handler.{Handler}
use Rattle.source_meaning.specs.Store.{Store}
use Rattle.source_meaning.specs.Flow.{Goes, Meaning}
use Rattle.source_meaning.specs.Operators.{one, truth}
use Rattle.source_meaning.specs.ExprMeaning.{Setting}
use Rattle.source_meaning.specs.StatementMeaning.{statements_mean}
use Rattle.source_meaning.specs.BodyMeaning.{Bodies}
use Rattle.code_scheme.specs.StatementSite.{Standing}
use Rattle.code_scheme.specs.StatementGoing.{go_on, leave_size, leave_code}
use Rattle.code_scheme.specs.StatementSize.{statements_size}
use Rattle.code_scheme.specs.StatementCode.{next_place, chosen, statements_code}
use Rattle.code_scheme.specs.StatementRows.{statements_rows}
use Rattle.follow_laws.specs.Follows.{HasAt, Around, here, Holds, GetsTo, Does}
use Rattle.follow_laws.specs.Parts.{IsCovered}
use Rattle.code_laws.specs.BodyBounds.{BodiesWithin}
use Rattle.code_laws.specs.Expressions.{NamesIn}
use Rattle.follow_laws.proofs.Running.{has_front, has_back, gets_then, after}
use Rattle.follow_laws.proofs.Holding.{HasPart}
use Rattle.follow_laws.proofs.Instructions.{renamed}
use Rattle.code_laws.proofs.OperatorRuns.{truth_back}
use Rattle.code_laws.proofs.BetweenRuns.{unless_run}
use Rattle.code_laws.specs.StatementBounds.{Along, statements_within}
use Rattle.code_laws.specs.StatementsInRange.{FitsStatements}
use Rattle.code_laws.specs.Statements.{StandsAs, calls_from}
use Rattle.statement_code_laws.specs.Parts.{LieIn, Acts}
use Rattle.statement_code_laws.specs.StatementForms.{StatementsAct}
use Rattle.statement_code_laws.proofs.Lengths.{leave_length, statements_length}
use Rattle.statement_code_laws.proofs.Joining.{lie_wider, lie_both, Embeds, embeds_left, embeds_right, embedded, acts_in, covered_inside, joined_acts}
use Rattle.statement_code_laws.proofs.ChoiceRuns.{names_inside}

-- ---- alternatives, of which a number that is kept chooses one

-- What stands between two places acts as a meaning of what is chosen, whose number is kept in a scratch local.
pub record Selects {X : Type 0} (w : Around) (kept : ℕ) (number : X → ℤ) (can : X → Type 0) (from until : ℕ) (rows : List Handler) (behind : ℕ) (goes : Bool) (within : X → Along) (mean : X → Meaning (Unit {0})) : Type 0 where
  pub lie : LieIn rows from until
  pub comes : (x : X) (store store1 : Store) (s s1 : Session) → can x → mean x store s ≡ Goes tt store1 s1 → goes ≡ true
  pub follows : IsCovered w from until rows → (x : X) (store : Store) (s : Session) (locals : List ℤ) → can x → within x store s ≡ true → Holds w store locals → HasPart locals kept 1 (one (number x))
      → Does w (here w from [] locals s) from until rows behind (mean x store s)

-- a part that doesn't ask for the number
pub selects_all : {X : Type 0} (w : Around) (kept : ℕ) (number : X → ℤ) (can : X → Type 0) (from until behind : ℕ) (rows : List Handler) (goes : Bool) (within : Along) (mean : Meaning (Unit {0}))
    → Acts w from until rows behind goes within mean → Selects w kept number can from until rows behind goes (λ x. within) (λ x. mean)
selects_all w kept number can from until behind rows goes within mean a =
    record { lie = a.lie; comes = λ x store store1 s s1 c e. a.comes store store1 s s1 e; follows = λ covered x store s locals c inside h part. a.follows covered store s locals inside h }

-- the first alternative is chosen, or one of the others
abbrev pub IsFirst : {X : Type 0} → (ℤ → Bool) → (X → ℤ) → (X → Along) → (X → Meaning (Unit {0})) → Along → Meaning (Unit {0}) → X → Type 0
IsFirst test number within mean in1 mean1 x = (test (number x) ≡ true) × (within x ≡ in1) × (mean x ≡ mean1)

pub record IsOther {X Y : Type 0} (test : ℤ → Bool) (number : X → ℤ) (number2 : Y → ℤ) (can2 : Y → Type 0) (within : X → Along) (mean : X → Meaning (Unit {0})) (in2 : Y → Along) (mean2 : Y → Meaning (Unit {0})) (x : X) : Type 0 where
  pub other : Y
  pub can : can2 other
  pub fails : test (number x) ≡ false
  pub same : number2 other ≡ number x
  pub inside : within x ≡ in2 other
  pub means : mean x ≡ mean2 other

-- a test of the number, one part behind it, and the others at the place to which it leads else
select_acts : {X Y : Type 0} (w : Around) (kept : ℕ) (number : X → ℤ) (number2 : Y → ℤ) (can : X → Type 0) (can2 : Y → Type 0) (from at next until behind : ℕ) (a b : List Handler) (g1 g2 goes : Bool) (test : ℤ → Bool) (within : X → Along) (mean : X → Meaning (Unit {0})) (in1 : Along) (in2 : Y → Along) (mean1 : Meaning (Unit {0})) (mean2 : Y → Meaning (Unit {0}))
    → from ≤ at → at ≤ next → next ≤ until
    → ((z : ℤ) (s : Session) (locals : List ℤ) → HasPart locals kept 1 (one z) → GetsTo w.code (here w from [] locals s) (here w (if test z then at else next) [] locals s))
    → (g1 ≡ true → goes ≡ true) → (g2 ≡ true → goes ≡ true)
    → ((x : X) → can x → IsFirst test number within mean in1 mean1 x ⊎ IsOther test number number2 can2 within mean in2 mean2 x)
    → Acts w at next a behind g1 in1 mean1 → Selects w kept number2 can2 next until b behind g2 in2 mean2
    → Selects w kept number can from until (a ++ b) behind goes within mean
select_acts {X} {Y} w kept number number2 can can2 from at next until behind a b g1 g2 goes test within mean in1 in2 mean1 mean2 before low high leads up1 up2 decide p q =
    record {
      lie = lie_both a b from until (lie_wider a at next from until before high p.lie) (lie_wider b next until from until (omega arith) (omega arith) q.lie);
      comes = λ x store store1 s s1 c e. came x store store1 s s1 (decide x c) e;
      follows = λ covered x store s locals c inside h part. by_choice covered x store s locals h part (decide x c) inside;
    }
  where
    came : (x : X) (store store1 : Store) (s s1 : Session) → IsFirst test number within mean in1 mean1 x ⊎ IsOther test number number2 can2 within mean in2 mean2 x → mean x store s ≡ Goes tt store1 s1 → goes ≡ true
    came x store store1 s s1 (inl first) e = up1 (p.comes store store1 s s1 (subst (λ (m : Meaning (Unit {0})). m store s ≡ Goes tt store1 s1) first.2 e))
    came x store store1 s s1 (inr other) e = up2 (q.comes other.other store store1 s s1 other.can (subst (λ (m : Meaning (Unit {0})). m store s ≡ Goes tt store1 s1) other.means e))

    by_choice : IsCovered w from until (a ++ b) → (x : X) (store : Store) (s : Session) (locals : List ℤ) → Holds w store locals → HasPart locals kept 1 (one (number x))
        → IsFirst test number within mean in1 mean1 x ⊎ IsOther test number number2 can2 within mean in2 mean2 x → within x store s ≡ true
        → Does w (here w from [] locals s) from until (a ++ b) behind (mean x store s)
    by_choice covered x store s locals h part (inl first) inside =
        subst (λ (m : Meaning (Unit {0})). Does w (here w from [] locals s) from until (a ++ b) behind (m store s)) (sym first.2)
        (after (leads (number x) s locals part)
        (after (renamed w (if test (number x) then at else next) at [] [] locals s (ap (λ (t : Bool). if t then at else next) first.0) refl)
        (acts_in (embeds_left a b at next next until from until q.lie before (omega arith) high) p covered store s locals (subst (λ (m : Along). m store s ≡ true) first.1 inside) h)))
    by_choice covered x store s locals h part (inr other) inside =
        let e : Embeds b next until (a ++ b) from until = embeds_right a b next until at next from until p.lie (omega arith) (omega arith) (omega arith) in
        subst (λ (m : Meaning (Unit {0})). Does w (here w from [] locals s) from until (a ++ b) behind (m store s)) (sym other.means)
        (after (leads (number x) s locals part)
        (after (renamed w (if test (number x) then at else next) next [] [] locals s (ap (λ (t : Bool). if t then at else next) other.fails) refl)
        (embedded e (q.follows (covered_inside e covered) other.other store s locals other.can (subst (λ (m : Along). m store s ≡ true) other.inside inside) h (subst (λ (z : ℤ). HasPart locals kept 1 (one z)) (sym other.same) part)))))

-- an alternative that is done where a test of the number holds, and the others
pub alternative_acts : {X Y : Type 0} (w : Around) (v : Setting) (st : Standing) (bodies : Bodies) (inside : BodiesWithin) (n kept from size rest behind : ℕ) (ss : StatementNodes) (others : List Instr) (test : List Instr) (holds : ℤ → Bool) (rows : List Handler) (g2 goes : Bool)
    (number : X → ℤ) (number2 : Y → ℤ) (can : X → Type 0) (can2 : Y → Type 0) (along : X → Along) (mean : X → Meaning (Unit {0})) (along2 : Y → Along) (mean2 : Y → Meaning (Unit {0}))
    → StandsAs w v st bodies inside → NamesIn w from behind → FitsStatements st.site (length st.exits) ss → StatementsAct ss
    → length test ≡ size → from + ((size + suc (statements_size st.site ss)) + (leave_size (go_on ss) rest + rest)) ≡ behind
    → HasAt w.code.instrs from (test ++ (chosen (statements_code st ss) (statements_size st.site ss) (go_on ss) rest behind (from + size) ++ others))
    → ((z : ℤ) (s : Session) (locals : List ℤ) → HasPart locals kept 1 (one z) → HasAt w.code.instrs from test → GetsTo w.code (here w from [] locals s) (here w (from + length test) (truth (holds z)) locals s))
    → (go_on ss ≡ true → goes ≡ true) → (g2 ≡ true → goes ≡ true)
    → ((x : X) → can x → IsFirst holds number along mean (statements_within v (calls_from inside w) n ss) (statements_mean v n ss) x ⊎ IsOther holds number number2 can2 along mean along2 mean2 x)
    → (HasAt w.code.instrs (next_place from (size + suc (statements_size st.site ss)) (go_on ss) rest) others → Selects w kept number2 can2 (next_place from (size + suc (statements_size st.site ss)) (go_on ss) rest) behind rows behind g2 along2 mean2)
    → Selects w kept number can from behind (statements_rows st.site ss (from + size + 1) ++ rows) behind goes along mean
    × Embeds rows (next_place from (size + suc (statements_size st.site ss)) (go_on ss) rest) behind (statements_rows st.site ss (from + size + 1) ++ rows) from behind
alternative_acts w v st bodies inside n kept from size rest behind ss others test holds rows g2 goes number number2 can can2 along mean along2 mean2 stands names fits first long end has leads up1 up2 decide more = (
  select_acts w kept number number2 can can2 from at next behind behind (statements_rows st.site ss at) rows (go_on ss) g2 goes holds along mean (statements_within v (calls_from inside w) n ss) along2 (statements_mean v n ss) mean2
      (omega arith) (omega arith) (omega arith)
      (λ z s locals part. gets_then (leads z s locals part (has_front all from test (codes ++ others) has)) (gets_then (renamed w (from + length test) at0 (truth (holds z)) (truth (holds z)) locals s (omega arith) refl) (jump (holds z) locals s)))
      up1 up2 decide
      first_acts (more has_more),
  embeds_right (statements_rows st.site ss at) rows next behind at next from behind first_acts.lie (omega arith) (omega arith) (omega arith),
)
  where
    all : List Instr
    all = w.code.instrs

    ssize : ℕ
    ssize = statements_size st.site ss

    at0 : ℕ
    at0 = from + size

    at : ℕ
    at = at0 + 1

    at1 : ℕ
    at1 = at + ssize

    next : ℕ
    next = next_place from (size + suc ssize) (go_on ss) rest

    target : ℕ
    target = next_place at0 (suc ssize) (go_on ss) rest

    body : List Instr
    body = statements_code st ss at

    body_long : length body ≡ ssize
    body_long = statements_length st (length st.exits) ss at fits

    leave : List Instr
    leave = leave_code (go_on ss) rest behind

    codes : List Instr
    codes = i.Unless target ∷ (body ++ leave)

    has0 : HasAt all at0 (codes ++ others)
    has0 = has_back all from at0 test (codes ++ others) (ap (λ (j : ℕ). from + j) long) has

    has_part : HasAt all at0 codes
    has_part = has_front all at0 codes others has0

    has_actions : HasAt all at (body ++ leave)
    has_actions = has_part.1

    has_more : HasAt all next others
    has_more = has_back all at0 next codes others (omega (arith, length-append body leave, body_long, leave_length (go_on ss) rest behind)) has0

    jump : (t : Bool) (locals : List ℤ) (s : Session) → GetsTo w.code (here w at0 (truth t) locals s) (here w (if t then at else next) [] locals s)
    jump t locals s =
        gets_then (unless_run w (truth_number t) t target at0 [] locals s (truth_back t) has_part.0)
        (renamed w (if t then at0 + 1 else target) (if t then at else next) [] [] locals s (same t) refl)
      where
        same : (u : Bool) → (if u then at0 + 1 else target) ≡ (if u then at else next)
        same true = refl
        same false = omega arith

    leave_none : (g : Bool) (k : ℕ) → k ≡ 0 → leave_size g k ≡ 0
    leave_none true k none = ap (λ (j : ℕ). leave_size true j) none
    leave_none false k none = refl

    first_acts : Acts w at next (statements_rows st.site ss at) behind (go_on ss) (statements_within v (calls_from inside w) n ss) (statements_mean v n ss)
    first_acts =
        joined_acts w at at1 next behind rest (statements_rows st.site ss at) (go_on ss) (statements_within v (calls_from inside w) n ss) (statements_mean v n ss)
        (first w v st bodies inside n at stands (names_inside w from behind at at1 (omega arith) (omega arith) names) fits (has_front all at body leave has_actions))
        (has_back all at at1 body leave (ap (λ (j : ℕ). at + j) body_long) has_actions) (omega arith) (λ none. omega (arith, none, leave_none (go_on ss) rest none))
