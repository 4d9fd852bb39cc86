-- Statements behind each other, IF and CASE.
use Rattle.std.proofs.Common.{◌≡◌, ℕ, ◌+◌, ◌≤◌, if◌then◌else◌, Bool, true, false, ◌&&◌, ◌||◌, List, [], ◌++◌, ℤ, length, refl, sym, ap, subst, arith, append-nil, length-append}
use Rattle.world_model.specs.Session.{Session}
use Rattle.program_trees.specs.ExprTree.{ExprTree}
use Rattle.program_trees.specs.StatementTree.{StatementTree, StatementNodes, no_statements, more_statements, ChoiceNodes, no_choices, more_choices, if_then, begin_end}
use Rattle.code_types.specs.declared.instr.Instr.{Instr}
use Rattle.code_types.specs.declared.code.Handler.{Handler}
use Rattle.source_meaning.specs.Store.{Store}
use Rattle.source_meaning.specs.Flow.{Flow, Goes, Raised, Exits, Returned, Stops, Gone, Bound, Meaning, then_do}
use Rattle.source_meaning.specs.Operators.{is_true}
use Rattle.source_meaning.specs.ExprMeaning.{Setting, expr_mean}
use Rattle.source_meaning.specs.StatementMeaning.{statement_mean, statements_mean, choices_mean}
use Rattle.source_meaning.specs.BodyMeaning.{Bodies}
use Rattle.code_scheme.specs.ExprSizes.{condition_size}
use Rattle.code_scheme.specs.ExprCode.{condition_code}
use Rattle.code_scheme.specs.StatementSite.{Standing, layout}
use Rattle.code_scheme.specs.StatementGoing.{go_on, goes_on, some_choice_goes_on, leave_size, leave_code}
use Rattle.code_scheme.specs.StatementSize.{statements_size, statement_size, choices_size}
use Rattle.code_scheme.specs.StatementCode.{CodeAt, next_place, joining, statements_code, statement_code, choices_code}
use Rattle.code_scheme.specs.StatementRows.{RowsAt, statements_rows, statement_rows, choices_rows}
use Rattle.follow_laws.specs.Follows.{HasAt, Around, here, Holds, Does}
use Rattle.follow_laws.specs.Parts.{IsCovered}
use Rattle.code_laws.specs.BodyBounds.{BodiesWithin}
use Rattle.code_laws.specs.OwnBounds.{where_goes, expr_within}
use Rattle.code_laws.specs.Expressions.{NamesIn}
use Rattle.follow_laws.proofs.Running.{has_front, has_back, follows_then_is}
use Rattle.code_laws.proofs.Values.{both_true}
use Rattle.code_laws.proofs.ExprPieces.{there}
use Rattle.code_laws.specs.StatementBounds.{Along, value_within, statements_within, statement_within, choices_within}
use Rattle.code_laws.specs.StatementsInRange.{FitsNumber, FitsChoices}
use Rattle.code_laws.specs.Statements.{StandsAs, calls_from}
use Rattle.statement_code_laws.specs.Parts.{Acts}
use Rattle.statement_code_laws.specs.Actions.{ActionActs}
use Rattle.statement_code_laws.specs.StatementForms.{StatementActs, StatementsAct}
use Rattle.statement_code_laws.proofs.ConditionRuns.{condition_length, condition_runs}
use Rattle.statement_code_laws.proofs.PlainRuns.{open_here}
use Rattle.statement_code_laws.proofs.Lengths.{leave_length, statements_length, statement_length}
use Rattle.statement_code_laws.proofs.Joining.{lie_wider, lie_both, Embeds, embeds_left, embeds_right, embeds_before, embedded, acts_in, joined_acts, no_part, order_acts, alone_acts}

pub names_inside : (w : Around) (lo hi lo' hi' : ℕ) → lo ≤ lo' → hi' ≤ hi → NamesIn w lo hi → NamesIn w lo' hi'
names_inside w lo hi lo' hi' l u names place instr p q is = names place instr (omega arith) (omega arith) is

-- ---- one statement behind another

pub sequence_acts : (t : StatementTree) (ts : StatementNodes) → StatementActs t → StatementsAct ts → StatementsAct (more_statements t ts)
sequence_acts t ts first rest w v st bodies inside n from stands names fits has = by_goes (goes_on t) refl names has
  where
    mid : ℕ
    mid = from + statement_size st.site t

    whole : Bool → ℕ
    whole g = from + (statement_size st.site t + (if g then statements_size st.site ts else 0))

    code : Bool → List Instr
    code g = statement_code st t from ++ (if g then statements_code st ts mid else [])

    first_long : from + length (statement_code st t from) ≡ mid
    first_long = ap (λ (j : ℕ). from + j) (statement_length st (length st.exits) t from fits.0)

    by_goes : (g : Bool) → goes_on t ≡ g → NamesIn w from (whole g) → HasAt w.code.instrs from (code g)
        → Acts w from (whole g) (statement_rows st.site t from ++ (if g then statements_rows st.site ts mid else [])) (whole g) (g && go_on ts) (statements_within v (calls_from inside w) n (more_statements t ts)) (statements_mean v n (more_statements t ts))
    by_goes true goes names2 has2 =
        let room : mid ≤ whole true = omega arith in
        let same : mid + statements_size st.site ts ≡ whole true = omega arith in
        let one : Acts w from mid (statement_rows st.site t from) mid (goes_on t) (statement_within v (calls_from inside w) n t) (statement_mean v n t) =
        first w v st bodies inside n from stands (names_inside w from (whole true) from mid (omega arith) room names2) fits.0 (has_front w.code.instrs from (statement_code st t from) (statements_code st ts mid) has2) in
        let more : Acts w mid (mid + statements_size st.site ts) (statements_rows st.site ts mid) (mid + statements_size st.site ts) (go_on ts) (statements_within v (calls_from inside w) n ts) (statements_mean v n ts) =
        rest w v st bodies inside n mid stands (names_inside w from (whole true) mid (mid + statements_size st.site ts) (omega arith) (omega arith) names2) fits.1 (has_back w.code.instrs from mid (statement_code st t from) (statements_code st ts mid) first_long has2) in
        let moved = subst (λ (j : ℕ). Acts w mid j (statements_rows st.site ts mid) j (go_on ts) (statements_within v (calls_from inside w) n ts) (statements_mean v n ts)) same more in
        order_acts w from mid (whole true) (whole true) (statement_rows st.site t from) (statements_rows st.site ts mid) (goes_on t) (go_on ts) (statement_within v (calls_from inside w) n t) (statements_within v (calls_from inside w) n ts) (statement_mean v n t) (statements_mean v n ts) (omega arith) room one moved
    by_goes false goes names2 has2 =
        let same : mid ≡ whole false = omega arith in
        let one : Acts w from mid (statement_rows st.site t from) mid (goes_on t) (statement_within v (calls_from inside w) n t) (statement_mean v n t) =
        first w v st bodies inside n from stands (names_inside w from (whole false) from mid (omega arith) (omega arith) names2) fits.0 (has_front w.code.instrs from (statement_code st t from) [] has2) in
        let moved : Acts w from (whole false) (statement_rows st.site t from) mid false (statement_within v (calls_from inside w) n t) (statement_mean v n t) =
        subst (λ (j : ℕ). Acts w from j (statement_rows st.site t from) mid false (statement_within v (calls_from inside w) n t) (statement_mean v n t)) same
        (subst (λ (g : Bool). Acts w from mid (statement_rows st.site t from) mid g (statement_within v (calls_from inside w) n t) (statement_mean v n t)) goes one) in
        let alone = alone_acts w from (whole false) mid (whole false) (statement_rows st.site t from) (statement_within v (calls_from inside w) n t) (statements_within v (calls_from inside w) n ts) (statement_mean v n t) (statements_mean v n ts) moved in
        subst (λ (rows : List Handler). Acts w from (whole false) rows (whole false) false (statements_within v (calls_from inside w) n (more_statements t ts)) (statements_mean v n (more_statements t ts))) (sym (append-nil (statement_rows st.site t from))) alone

pub nothing_acts : StatementsAct no_statements
nothing_acts w v st bodies inside n from stands names fits has =
    subst (λ (j : ℕ). Acts w from j [] j true (statements_within v (calls_from inside w) n no_statements) (statements_mean v n no_statements)) (let e : from ≡ from + 0 = omega arith in e) (no_part w from)

pub begun_acts : (ss : StatementNodes) → StatementsAct ss → ActionActs (begin_end ss)
begun_acts ss acts w v st bodies inside n from stands names fits has = acts w v st bodies inside n from stands names fits has

-- ---- what stands behind the conditions of an IF, or the alternatives of a CASE

-- it acts as a meaning wherever it stands, and has so many instructions
abbrev pub RestActs : Around → ℕ → CodeAt → RowsAt → Bool → Along → Meaning (Unit {0}) → Type 0
RestActs w last rest rows goes inside mean = (at : ℕ) → NamesIn w at (at + last) → HasAt w.code.instrs at (rest at) → Acts w at (at + last) (rows at) (at + last) goes inside mean

-- control goes on behind one of two parts
pub first_comes : (g a b : Bool) → a ≡ true → (g || (a || b)) ≡ true
first_comes true a b e = refl
first_comes false true b e = refl
first_comes false false b e = absurd (let no : ⊥ = cc in no)

pub others_come : (g a b : Bool) → (g || b) ≡ true → (g || (a || b)) ≡ true
others_come true a b e = refl
others_come false true b e = refl
others_come false false b e = e

-- ---- one part or another, by a condition

-- what has gone through behind a value
pub record WentWith {A : Type 0} (o : Flow A) (next : A → Meaning (Unit {0})) (store1 : Store) (s1 : Session) : Type 0 where
  pub value : A
  pub store : Store
  pub session : Session
  pub behind : next value store session ≡ Goes tt store1 s1

pub went_with : {A : Type 0} (o : Flow A) (next : A → Meaning (Unit {0})) (store1 : Store) (s1 : Session) → then_do o next ≡ Goes tt store1 s1 → WentWith o next store1 s1
went_with (Goes v store s) next store1 s1 e = record { value = v; store = store; session = s; behind = e }
went_with (Raised x store s) next store1 s1 e = absurd (let no : ⊥ = cc in no)
went_with (Exits k store s) next store1 s1 e = absurd (let no : ⊥ = cc in no)
went_with (Returned store s) next store1 s1 e = absurd (let no : ⊥ = cc in no)
went_with (Stops t inner store) next store1 s1 e = absurd (let no : ⊥ = cc in no)
went_with (Gone t) next store1 s1 e = absurd (let no : ⊥ = cc in no)
went_with Bound next store1 s1 e = absurd (let no : ⊥ = cc in no)

either_comes : (w : Around) (from until behind : ℕ) (rows : List Handler) (g : Bool) (inside : Along) (mean : Meaning (Unit {0})) → Acts w from until rows behind g inside mean
    → (whole : Bool) → (g ≡ true → whole ≡ true) → (store store1 : Store) (s s1 : Session) → mean store s ≡ Goes tt store1 s1 → whole ≡ true
either_comes w from until behind rows g inside mean a whole up store store1 s s1 e = up (a.comes store store1 s s1 e)

-- a condition at a place, one part behind it, and the others at the place to which it leads else
choice_acts : (w : Around) (v : Setting) (st : Standing) (bodies : Bodies) (inside : BodiesWithin) (e : ExprTree) (from at next until behind : ℕ) (a b : List Handler) (g1 g2 goes : Bool) (in1 in2 : Along) (mean1 mean2 : Meaning (Unit {0}))
    → StandsAs w v st bodies inside → NamesIn w from until → FitsNumber (layout st.site) e
    → from + condition_size e false ≡ at → at ≤ next → next ≤ until
    → HasAt w.code.instrs from (condition_code (layout st.site) st.free e false next from)
    → (g1 ≡ true → goes ≡ true) → (g2 ≡ true → goes ≡ true)
    → Acts w at next a behind g1 in1 mean1 → Acts w next until b behind g2 in2 mean2
    → Acts w from until (a ++ b) behind goes
    (λ store s. value_within v (calls_from inside w) e store s && where_goes (expr_mean v e store s) (λ xs store1 s1. if is_true xs then in1 store1 s1 else in2 store1 s1))
    (λ store s. then_do (expr_mean v e store s) (λ xs store1 s1. if is_true xs then mean1 store1 s1 else mean2 store1 s1))
choice_acts w v st bodies inside e from at next until behind a b g1 g2 goes in1 in2 mean1 mean2 stands names fits long low high has up1 up2 p q =
    record {
      lie = lie_both a b from until (lie_wider a at next from until (omega arith) high p.lie) (lie_wider b next until from until (omega arith) (omega arith) q.lie);
      comes = λ store store1 s s1 is.
          let went = went_with (expr_mean v e store s) (λ xs store2 s2. if is_true xs then mean1 store2 s2 else mean2 store2 s2) store1 s1 is in
          came went.store store1 went.session s1 (is_true went.value) went.behind;
      follows = λ covered store s locals within h.
          follows_then_is
          (embedded condition_embeds
          (condition_runs w v (layout st.site) bodies inside from at st.free e false next from at [] locals store s stands.suited (names_inside w from until from at (omega arith) (omega arith) names) stands.free fits.0 fits.1 long (omega arith) (omega arith) has
          (open_here w v inside (λ c. expr_within v c e store s) stands.suited.open_now (both_true _ _ within).0) h))
          (λ xs store1 s1 locals1 r is.
          chosen covered store1 s1 locals1 r.1 (is_true xs) (there (expr_mean v e store s) (λ ys store2 s2. if is_true ys then in1 store2 s2 else in2 store2 s2) xs store1 s1 (both_true _ _ within).1 is));
    }
  where
    condition_embeds : Embeds [] from at (a ++ b) from until
    condition_embeds = embeds_before (a ++ b) from at at until from until (lie_both a b at until (lie_wider a at next at until (omega arith) high p.lie) (lie_wider b next until at until low (omega arith) q.lie)) (omega arith) (omega arith) (omega arith)

    came : (store store1 : Store) (s s1 : Session) (t : Bool) → (if t then mean1 store s else mean2 store s) ≡ Goes tt store1 s1 → goes ≡ true
    came store store1 s s1 true is = up1 (p.comes store store1 s s1 is)
    came store store1 s s1 false is = up2 (q.comes store store1 s s1 is)

    chosen : IsCovered w from until (a ++ b) → (store1 : Store) (s1 : Session) (locals1 : List ℤ) → Holds w store1 locals1 → (t : Bool) → (if t then in1 store1 s1 else in2 store1 s1) ≡ true
        → Does w (here w (if t then at else next) [] locals1 s1) from until (a ++ b) behind (if t then mean1 store1 s1 else mean2 store1 s1)
    chosen covered store1 s1 locals1 h1 true within1 = acts_in (embeds_left a b at next next until from until q.lie (omega arith) (omega arith) high) p covered store1 s1 locals1 within1 h1
    chosen covered store1 s1 locals1 h1 false within1 = acts_in (embeds_right a b next until at next from until p.lie (omega arith) (omega arith) (omega arith)) q covered store1 s1 locals1 within1 h1

-- ---- IF

-- conditions with their actions, and what stands behind them
abbrev pub ChoicesAct : ChoiceNodes → Type 0
ChoicesAct cs = (w : Around) (v : Setting) (st : Standing) (bodies : Bodies) (inside : BodiesWithin) (n from behind last : ℕ) (rest : CodeAt) (rest_rows : RowsAt) (goes : Bool) (along : Along) (mean : Meaning (Unit {0}))
    → StandsAs w v st bodies inside → from + choices_size st.site cs last ≡ behind → NamesIn w from behind → FitsChoices st.site (length st.exits) cs
    → RestActs w last rest rest_rows goes along mean
    → HasAt w.code.instrs from (choices_code st cs behind last rest from)
    → Acts w from behind (choices_rows st.site cs last rest_rows from) behind (goes || some_choice_goes_on cs) (choices_within v (calls_from inside w) n cs along) (choices_mean v n cs mean)

pub no_choices_act : ChoicesAct no_choices
no_choices_act w v st bodies inside n from behind last rest rest_rows goes along mean stands end names fits acts has =
    let one = subst (λ (j : ℕ). Acts w from j (rest_rows from) j goes along mean) end (acts from (subst (λ (j : ℕ). NamesIn w from j) (sym end) names) has) in
    subst (λ (g : Bool). Acts w from behind (rest_rows from) behind g along mean) (sym (or_false goes)) one
  where
    or_false : (t : Bool) → (t || false) ≡ t
    or_false true = refl
    or_false false = refl

pub more_choices_act : (e : ExprTree) (ss : StatementNodes) (cs : ChoiceNodes) → StatementsAct ss → ChoicesAct cs → ChoicesAct (more_choices e ss cs)
more_choices_act e ss cs first others w v st bodies inside n from behind last rest rest_rows goes along mean stands end names fits acts has =
    choice_acts w v st bodies inside e from at next behind behind (statements_rows st.site ss at) (choices_rows st.site cs last rest_rows next) (go_on ss) (goes || some_choice_goes_on cs) (goes || (go_on ss || some_choice_goes_on cs))
    (statements_within v (calls_from inside w) n ss) (choices_within v (calls_from inside w) n cs along) (statements_mean v n ss) (choices_mean v n cs mean)
    stands names fits.0 refl (omega arith) (omega arith) (has_front w.code.instrs from condition (actions ++ more) has)
    (first_comes goes (go_on ss) (some_choice_goes_on cs)) (others_come goes (go_on ss) (some_choice_goes_on cs))
    (joined_acts w at at1 next behind size (statements_rows st.site ss at) (go_on ss) (statements_within v (calls_from inside w) n ss) (statements_mean v n ss)
    (first w v st bodies inside n at stands (names_inside w from behind at at1 (omega arith) (omega arith) names) fits.1 (has_front w.code.instrs at body leave has_actions))
    (has_back w.code.instrs at at1 body leave (ap (λ (j : ℕ). at + j) (statements_length st (length st.exits) ss at fits.1)) has_actions) (omega arith) (λ none. omega (arith, none, leave_none (go_on ss) size none)))
    (others w v st bodies inside n next behind last rest rest_rows goes along mean stands (omega arith) (names_inside w from behind next behind (omega arith) (omega arith) names) fits.2 acts has_more)
  where
    size : ℕ
    size = choices_size st.site cs last

    at : ℕ
    at = from + condition_size e false

    at1 : ℕ
    at1 = at + statements_size st.site ss

    next : ℕ
    next = next_place from (condition_size e false + statements_size st.site ss) (go_on ss) size

    condition : List Instr
    condition = condition_code (layout st.site) st.free e false next from

    body : List Instr
    body = statements_code st ss at

    leave : List Instr
    leave = leave_code (go_on ss) size behind

    actions : List Instr
    actions = joining body (go_on ss) size behind

    more : List Instr
    more = choices_code st cs behind last rest next

    has1 : HasAt w.code.instrs at (actions ++ more)
    has1 = has_back w.code.instrs from at condition (actions ++ more) (ap (λ (j : ℕ). from + j) (condition_length (layout st.site) st.free e false next from fits.0.0)) has

    has_actions : HasAt w.code.instrs at actions
    has_actions = has_front w.code.instrs at actions more has1

    has_more : HasAt w.code.instrs next more
    has_more = has_back w.code.instrs at next actions more (omega (arith, length-append body leave, statements_length st (length st.exits) ss at fits.1, leave_length (go_on ss) size behind)) has1

    leave_none : (g : Bool) (k : ℕ) → k ≡ 0 → leave_size g k ≡ 0
    leave_none true k none = ap (λ (j : ℕ). leave_size true j) none
    leave_none false k none = refl

pub if_acts : (cs : ChoiceNodes) (ss : StatementNodes) → ChoicesAct cs → StatementsAct ss → ActionActs (if_then cs ss)
if_acts cs ss choices last w v st bodies inside n from stands names fits has =
    choices w v st bodies inside n from (from + choices_size st.site cs (statements_size st.site ss)) (statements_size st.site ss) (statements_code st ss) (statements_rows st.site ss) (go_on ss) (statements_within v (calls_from inside w) n ss) (statements_mean v n ss)
    stands refl names fits.0 (λ at names2 has2. last w v st bodies inside n at stands names2 fits.1 has2) has
