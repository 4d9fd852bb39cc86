-- CASE: the selector is kept, and the labels of each alternative are tried.
use Rattle.std.proofs.Common.{◌≡◌, ℕ, suc, ◌+◌, ◌≤◌, if◌then◌else◌, nat_le, le-leb, int_le, int_lt, Bool, true, false, not, ◌&&◌, ◌||◌, List, [], ◌∷◌, ◌++◌, ℤ, length, Some, slice_get, refl, sym, ap, ◌∙◌, subst, arith, append_assoc, length-append, ◌⊎◌, inl, inr}
use Rattle.std.proofs.lemmas.Int.{ints}
use Rattle.kernel_base.specs.declared.ends.Exc.TheVariants.{Rangefail}
use Rattle.world_model.specs.Session.{Session}
use Rattle.world_model.specs.Lists.{with_scalars}
use Rattle.modes.specs.declared.mode.Bounds.{Bounds}
use Rattle.scalar_operators.specs.Numbers.{is_between, truth_number, truth_of, comes_before, same_numbers}
use Rattle.program_trees.specs.ExprTree.{ExprTree}
use Rattle.program_trees.specs.StatementTree.{StatementNodes, CaseNodes, no_cases, more_cases, OtherwiseNode, no_otherwise, otherwise, case_of}
use Rattle.code_types.specs.declared.instr.Instr.{Instr}
use Rattle.code_types.specs.declared.instr.Instr.TheVariants as i
use Rattle.code_types.specs.declared.code.Handler.{Handler}
use Rattle.code_types.specs.Actions.{Sets, Halts, Throws, in_frame, truth as truth_action}
use Rattle.source_meaning.specs.Store.{Store}
use Rattle.source_meaning.specs.Flow.{Raised, Meaning}
use Rattle.source_meaning.specs.Operators.{sole_number, one, truth}
use Rattle.source_meaning.specs.ExprMeaning.{Setting, expr_mean}
use Rattle.source_meaning.specs.StatementMeaning.{holds_one, statements_mean, otherwise_mean, cases_mean}
use Rattle.source_meaning.specs.BodyMeaning.{Bodies}
use Rattle.code_scheme.specs.Pieces.{Layout, are_same}
use Rattle.code_scheme.specs.ExprSizes.{expr_size}
use Rattle.code_scheme.specs.ExprCode.{expr_code}
use Rattle.code_scheme.specs.StatementSite.{Standing, layout}
use Rattle.code_scheme.specs.StatementGoing.{go_on, otherwise_goes_on, some_case_goes_on}
use Rattle.code_scheme.specs.StatementSize.{label_code, more_labels_code, labels_code, labels_size, statements_size, otherwise_size, cases_size}
use Rattle.code_scheme.specs.StatementCode.{CodeAt, no_label_code, next_place, otherwise_code, cases_code}
use Rattle.code_scheme.specs.StatementRows.{RowsAt, otherwise_rows, cases_rows}
use Rattle.follow_laws.specs.Follows.{HasAt, Around, keeping, here, Holds, GetsTo}
use Rattle.code_laws.specs.BodyBounds.{BodiesWithin}
use Rattle.code_laws.specs.OwnBounds.{expr_within}
use Rattle.code_laws.specs.Expressions.{NamesIn}
use Rattle.follow_laws.proofs.Running.{has_front, has_back, gets_then, after, follows_then_is, makes, raises, forgotten}
use Rattle.follow_laws.proofs.Holding.{HasPart, IsSet, scratch_set, scratch_read}
use Rattle.follow_laws.proofs.Instructions.{puts_on, sets_by, pushes_by, renamed, sole}
use Rattle.code_laws.proofs.Sizes.{expr_length}
use Rattle.code_laws.proofs.Values.{both_true, same_int}
use Rattle.code_laws.proofs.OperatorRuns.{truth_back, not_run}
use Rattle.code_laws.proofs.ExprPieces.{there}
use Rattle.code_laws.proofs.ExprRuns.{expr_runs}
use Rattle.code_laws.specs.StatementBounds.{Along, nothing_within, statements_within, otherwise_within, cases_within}
use Rattle.code_laws.specs.StatementsInRange.{FitsOtherwise, FitsCases}
use Rattle.code_laws.specs.Statements.{StandsAs, calls_from}
use Rattle.statement_code_laws.specs.Parts.{Acts}
use Rattle.statement_code_laws.specs.Actions.{ActionActs}
use Rattle.statement_code_laws.specs.StatementForms.{StatementsAct, SomeAct}
use Rattle.statement_code_laws.proofs.PlainRuns.{leaving_acts, open_here}
use Rattle.statement_code_laws.proofs.Lengths.{labels_length}
use Rattle.statement_code_laws.proofs.Joining.{lie_wider, Embeds, embeds_before, embedded, covered_inside}
use Rattle.statement_code_laws.proofs.ChoiceRuns.{names_inside, RestActs, first_comes, others_come, went_with}
use Rattle.statement_code_laws.proofs.SelectRuns.{Selects, selects_all, IsFirst, IsOther, alternative_acts}

-- ---- labels

lt_is : (a b : ℤ) → int_lt a b ≡ not (int_le b a)
lt_is a b = by_tests (int_lt a b) (int_le b a) refl refl
  where
    by_tests : (t u : Bool) → int_lt a b ≡ t → int_le b a ≡ u → t ≡ not u
    by_tests true false p q = refl
    by_tests false true p q = refl
    by_tests true true p q = absurd (let no : ⊥ = omega (arith, ints, p, q) in no)
    by_tests false false p q = absurd (let no : ⊥ = omega (arith, ints, p, q) in no)

neither : (t u v z : Bool) → not (if (not t || (v && false)) then true else (not u || (z && false))) ≡ (t && u)
neither true true true true = refl
neither true true true false = refl
neither true true false true = refl
neither true true false false = refl
neither true false true true = refl
neither true false true false = refl
neither true false false true = refl
neither true false false false = refl
neither false u v z = refl

-- a number lies between two others where it is neither less than the one nor greater than the other
between_is : (low high x : ℤ) → not (if comes_before (one x) (one low) then true else comes_before (one high) (one x)) ≡ is_between low high x
between_is low high x =
    ap (λ (t : Bool). not (if (t || (int_le x low && false)) then true else comes_before (one high) (one x))) (lt_is x low)
    ∙ (ap (λ (t : Bool). not (if (not (int_le low x) || (int_le x low && false)) then true else (t || (int_le high x && false)))) (lt_is high x)
    ∙ neither (int_le low x) (int_le x high) (int_le x low) (int_le high x))

both_ways : (t u : Bool) → ((t && u) && true) ≡ (u && t)
both_ways true true = refl
both_ways true false = refl
both_ways false true = refl
both_ways false false = refl

alone_is : (low high x : ℤ) → low ≡ high → same_numbers (one x) (one low) ≡ is_between low high x
alone_is low high x same = both_ways (int_le x low) (int_le low x) ∙ ap (λ (k : ℤ). int_le low x && int_le x k) same

-- of two truth values on top, whether one is TRUE
or_run : (w : Around) (a c : Bool) (at : ℕ) (base locals : List ℤ) (s : Session) → slice_get w.code.instrs at ≡ Some i.Or
    → GetsTo w.code (here w at ((base ++ truth a) ++ truth c) locals s) (here w (at + 1) (base ++ truth (if a then true else c)) locals s)
or_run w a c at base locals s has =
    gets_then (renamed w at at ((base ++ truth a) ++ truth c) (base ++ (truth a ++ truth c)) locals s refl (append_assoc base (truth a) (truth c)))
    (pushes_by w i.Or at base (truth a ++ truth c) locals s (truth (if a then true else c)) has refl
    (ap (λ (t : Bool). truth_action (if t then true else truth_of (truth_number c))) (truth_back a) ∙ ap (λ (t : Bool). truth_action (if a then true else t)) (truth_back c)))

or_false : (t : Bool) → (t || false) ≡ t
or_false true = refl
or_false false = refl

-- whether a label holds the number that is kept
label_run : (w : Around) (kept : ℕ) (x : ℤ) (b : Bounds) (at : ℕ) (base locals : List ℤ) (s : Session) → HasPart locals kept 1 (one x) → HasAt w.code.instrs at (label_code kept b)
    → GetsTo w.code (here w at base locals s) (here w (at + length (label_code kept b)) (base ++ truth (is_between b.low b.high x)) locals s)
label_run w kept x b at base locals s part has = by_test (are_same b.low b.high) refl has
  where
    code : Bool → List Instr
    code t = if t then i.Local kept 1 ∷ i.Push b.low ∷ i.Same 1 ∷ [] else i.Local kept 1 ∷ i.Push b.low ∷ i.Less 1 ∷ i.Push b.high ∷ i.Local kept 1 ∷ i.Less 1 ∷ i.Or ∷ i.Not ∷ []

    -- the number that is kept, and the least one of the label
    first : (m : List Instr) → HasAt w.code.instrs at (i.Local kept 1 ∷ i.Push b.low ∷ m) → GetsTo w.code (here w at base locals s) (here w (at + 1 + 1) (base ++ (x ∷ b.low ∷ [])) locals s)
    first m h =
        gets_then (puts_on w (i.Local kept 1) at base locals s (one x) h.0 refl (ap in_frame part.is))
        (gets_then (puts_on w (i.Push b.low) (at + 1) (base ++ one x) locals s (one b.low) h.1.0 refl refl)
        (renamed w (at + 1 + 1) (at + 1 + 1) ((base ++ one x) ++ one b.low) (base ++ (x ∷ b.low ∷ [])) locals s refl (append_assoc base (one x) (one b.low))))

    by_test : (t : Bool) → are_same b.low b.high ≡ t → HasAt w.code.instrs at (code t) → GetsTo w.code (here w at base locals s) (here w (at + length (code t)) (base ++ truth (is_between b.low b.high x)) locals s)
    by_test true same h =
        gets_then (first (i.Same 1 ∷ []) h)
        (gets_then (pushes_by w (i.Same 1) (at + 1 + 1) base (x ∷ b.low ∷ []) locals s (truth (same_numbers (one x) (one b.low))) h.1.1.0 refl refl)
        (renamed w (at + 1 + 1 + 1) (at + 3) (base ++ truth (same_numbers (one x) (one b.low))) (base ++ truth (is_between b.low b.high x)) locals s (omega arith) (ap (λ (t : Bool). base ++ truth t) (alone_is b.low b.high x (same_int b.low b.high same)))))
    by_test false same h =
        let a : Bool = comes_before (one x) (one b.low) in
        let c : Bool = comes_before (one b.high) (one x) in
        let base1 : List ℤ = base ++ truth a in
        let p : ℕ = at + 1 + 1 + 1 in
        gets_then (first (i.Less 1 ∷ i.Push b.high ∷ i.Local kept 1 ∷ i.Less 1 ∷ i.Or ∷ i.Not ∷ []) h)
        (gets_then (pushes_by w (i.Less 1) (at + 1 + 1) base (x ∷ b.low ∷ []) locals s (truth a) h.1.1.0 refl refl)
        (gets_then (puts_on w (i.Push b.high) p base1 locals s (one b.high) h.1.1.1.0 refl refl)
        (gets_then (puts_on w (i.Local kept 1) (p + 1) (base1 ++ one b.high) locals s (one x) h.1.1.1.1.0 refl (ap in_frame part.is))
        (gets_then (renamed w (p + 1 + 1) (p + 1 + 1) ((base1 ++ one b.high) ++ one x) (base1 ++ (b.high ∷ x ∷ [])) locals s refl (append_assoc base1 (one b.high) (one x)))
        (gets_then (pushes_by w (i.Less 1) (p + 1 + 1) base1 (b.high ∷ x ∷ []) locals s (truth c) h.1.1.1.1.1.0 refl refl)
        (gets_then (or_run w a c (p + 1 + 1 + 1) base locals s h.1.1.1.1.1.1.0)
        (gets_then (not_run w (if a then true else c) (p + 1 + 1 + 1 + 1) base locals s h.1.1.1.1.1.1.1.0)
        (renamed w (p + 1 + 1 + 1 + 1 + 1) (at + 8) (base ++ truth (not (if a then true else c))) (base ++ truth (is_between b.low b.high x)) locals s (omega arith) (ap (λ (t : Bool). base ++ truth t) (between_is b.low b.high x))))))))))

more_labels_run : (w : Around) (kept : ℕ) (x : ℤ) (bs : List Bounds) (at : ℕ) (known : Bool) (base locals : List ℤ) (s : Session) → HasPart locals kept 1 (one x) → HasAt w.code.instrs at (more_labels_code kept bs)
    → GetsTo w.code (here w at (base ++ truth known) locals s) (here w (at + length (more_labels_code kept bs)) (base ++ truth (known || holds_one x bs)) locals s)
more_labels_run w kept x [] at known base locals s part has = renamed w at (at + 0) (base ++ truth known) (base ++ truth (known || false)) locals s (let e : at ≡ at + 0 = omega arith in e) (ap (λ (t : Bool). base ++ truth t) (sym (or_false known)))
more_labels_run w kept x (b ∷ bs) at known base locals s part has =
    let at1 : ℕ = at + length (label_code kept b) in
    let rest : List Instr = more_labels_code kept bs in
    let has1 = has_back w.code.instrs at at1 (label_code kept b) (i.Or ∷ rest) refl has in
    let t : Bool = is_between b.low b.high x in
    gets_then (label_run w kept x b at (base ++ truth known) locals s part (has_front w.code.instrs at (label_code kept b) (i.Or ∷ rest) has))
    (gets_then (or_run w known t at1 base locals s has1.0)
    (gets_then (more_labels_run w kept x bs (at1 + 1) (if known then true else t) base locals s part has1.1)
    (renamed w (at1 + 1 + length rest) (at + length (label_code kept b ++ (i.Or ∷ rest))) (base ++ truth ((if known then true else t) || holds_one x bs)) (base ++ truth (known || (t || holds_one x bs))) locals s (omega (arith, length-append (label_code kept b) (i.Or ∷ rest))) (ap (λ (u : Bool). base ++ truth u) (grouped known t (holds_one x bs))))))
  where
    grouped : (a c d : Bool) → ((if a then true else c) || d) ≡ (a || (c || d))
    grouped true c d = refl
    grouped false c d = refl

labels_run : (w : Around) (kept : ℕ) (x : ℤ) (bs : List Bounds) (at : ℕ) (base locals : List ℤ) (s : Session) → HasPart locals kept 1 (one x) → HasAt w.code.instrs at (labels_code kept bs)
    → GetsTo w.code (here w at base locals s) (here w (at + length (labels_code kept bs)) (base ++ truth (holds_one x bs)) locals s)
labels_run w kept x [] at base locals s part has = puts_on w (i.Push (truth_number false)) at base locals s (truth false) has.0 refl refl
labels_run w kept x (b ∷ bs) at base locals s part has =
    let at1 : ℕ = at + length (label_code kept b) in
    let rest : List Instr = more_labels_code kept bs in
    gets_then (label_run w kept x b at base locals s part (has_front w.code.instrs at (label_code kept b) rest has))
    (gets_then (more_labels_run w kept x bs at1 (is_between b.low b.high x) base locals s part (has_back w.code.instrs at at1 (label_code kept b) rest refl has))
    (renamed w (at1 + length rest) (at + length (label_code kept b ++ rest)) (base ++ truth (is_between b.low b.high x || holds_one x bs)) (base ++ truth (is_between b.low b.high x || holds_one x bs)) locals s (omega (arith, length-append (label_code kept b) rest)) refl))

-- ---- CASE

-- each number may be kept
abbrev pub any_number : ℤ → Type 0
any_number x = Unit {0}

abbrev pub CasesAct : CaseNodes → Type 0
CasesAct cs = (w : Around) (v : Setting) (st : Standing) (bodies : Bodies) (inside : BodiesWithin) (n from behind last : ℕ) (rest : CodeAt) (rest_rows : RowsAt) (goes : Bool) (along : Along) (mean : Meaning (Unit {0}))
    → StandsAs w v st bodies inside → from + cases_size st.site cs last ≡ behind → NamesIn w from behind → FitsCases st.site (length st.exits) cs
    → RestActs w last rest rest_rows goes along mean
    → HasAt w.code.instrs from (cases_code st cs behind last rest from)
    → Selects w st.free (λ (x : ℤ). x) any_number from behind (cases_rows st.site cs last rest_rows from) behind (goes || some_case_goes_on cs) (cases_within v (calls_from inside w) n cs along) (cases_mean v n cs mean)

pub no_cases_act : CasesAct no_cases
no_cases_act w v st bodies inside n from behind last rest rest_rows goes along mean stands end names fits acts has =
    let one_part = subst (λ (j : ℕ). Acts w from j (rest_rows from) j goes along mean) end (acts from (subst (λ (j : ℕ). NamesIn w from j) (sym end) names) has) in
    subst (λ (g : Bool). Selects w st.free (λ (x : ℤ). x) any_number from behind (rest_rows from) behind g (λ x. along) (λ x. mean)) (sym (or_false goes)) (selects_all w st.free (λ (x : ℤ). x) any_number from behind behind (rest_rows from) goes along mean one_part)

pub more_cases_act : (labels : List Bounds) (ss : StatementNodes) (cs : CaseNodes) → StatementsAct ss → CasesAct cs → CasesAct (more_cases labels ss cs)
more_cases_act labels ss cs first others w v st bodies inside n from behind last rest rest_rows goes along mean stands end names fits acts has =
    (alternative_acts w v st bodies inside n st.free from (labels_size labels) size behind ss (cases_code st cs behind last rest next) (labels_code st.free labels) (λ x. holds_one x labels)
    (cases_rows st.site cs last rest_rows next) (goes || some_case_goes_on cs) (goes || (go_on ss || some_case_goes_on cs))
    (λ (x : ℤ). x) (λ (x : ℤ). x) any_number any_number (cases_within v (calls_from inside w) n (more_cases labels ss cs) along) (cases_mean v n (more_cases labels ss cs) mean) (cases_within v (calls_from inside w) n cs along) (cases_mean v n cs mean)
    stands names fits.0 first (labels_length st.free labels) end has
    (λ x s locals part has_test. labels_run w st.free x labels from [] locals s part has_test)
    (first_comes goes (go_on ss) (some_case_goes_on cs)) (others_come goes (go_on ss) (some_case_goes_on cs))
    (λ x c. by_labels x (holds_one x labels) refl)
    (λ has_more. others w v st bodies inside n next behind last rest rest_rows goes along mean stands (omega arith) (names_inside w from behind next behind (omega arith) (omega arith) names) fits.1 acts has_more)).0
  where
    size : ℕ
    size = cases_size st.site cs last

    next : ℕ
    next = next_place from (labels_size labels + suc (statements_size st.site ss)) (go_on ss) size

    within1 : Along
    within1 = statements_within v (calls_from inside w) n ss

    within2 : ℤ → Along
    within2 = cases_within v (calls_from inside w) n cs along

    mean1 : Meaning (Unit {0})
    mean1 = statements_mean v n ss

    mean2 : ℤ → Meaning (Unit {0})
    mean2 = cases_mean v n cs mean

    by_labels : (x : ℤ) (t : Bool) → holds_one x labels ≡ t
        → IsFirst (λ z. holds_one z labels) (λ (z : ℤ). z) (cases_within v (calls_from inside w) n (more_cases labels ss cs) along) (cases_mean v n (more_cases labels ss cs) mean) within1 mean1 x
        ⊎ IsOther (λ z. holds_one z labels) (λ (z : ℤ). z) (λ (z : ℤ). z) any_number (cases_within v (calls_from inside w) n (more_cases labels ss cs) along) (cases_mean v n (more_cases labels ss cs) mean) within2 mean2 x
    by_labels x true e =
        inl (e, ap {B = Along} (λ (u : Bool) (store : Store) (s : Session). if u then within1 store s else within2 x store s) e, ap {B = Meaning (Unit {0})} (λ (u : Bool) (store : Store) (s : Session). if u then mean1 store s else mean2 x store s) e)
    by_labels x false e =
        inr (record { other = x; can = tt; fails = e; same = refl; inside = ap {B = Along} (λ (u : Bool) (store : Store) (s : Session). if u then within1 store s else within2 x store s) e; means = ap {B = Meaning (Unit {0})} (λ (u : Bool) (store : Store) (s : Session). if u then mean1 store s else mean2 x store s) e })

-- RANGEFAIL where no label holds the selector
no_label_acts : (w : Around) (at : ℕ) → HasAt w.code.instrs at (i.Raise 1 ∷ []) → Acts w at (at + 1) [] (at + 1) false nothing_within (Raised Rangefail)
no_label_acts w at has = leaving_acts (λ store store1 s s1 e. let no : ⊥ = cc in no) (λ store s locals within h. makes (i.Raise 1) at [] [] locals s (Throws Rangefail) has.0 refl refl (raises (inl refl) (omega arith) (omega arith) refl h))

otherwise_acts : (w : Around) (v : Setting) (st : Standing) (bodies : Bodies) (inside : BodiesWithin) (n : ℕ) (o : OtherwiseNode) → SomeAct o → StandsAs w v st bodies inside → FitsOtherwise st.site (length st.exits) o
    → RestActs w (otherwise_size st.site o 1) (otherwise_code st o no_label_code) (otherwise_rows st.site o) (otherwise_goes_on o) (otherwise_within v (calls_from inside w) n o) (otherwise_mean v n o (Raised Rangefail))
otherwise_acts w v st bodies inside n no_otherwise some stands fits at names has = no_label_acts w at has
otherwise_acts w v st bodies inside n (otherwise ss) some stands fits at names has = some w v st bodies inside n at stands names fits has

pub case_acts : (e : ExprTree) (cs : CaseNodes) (o : OtherwiseNode) → CasesAct cs → SomeAct o → ActionActs (case_of e cs o)
case_acts e cs o cases some w v st bodies inside n from stands names fits has =
    record {
      lie = lie_wider rows at1 behind from behind (omega arith) (omega arith) selects.lie;
      comes = λ store store1 s s1 is.
          let went = went_with (expr_mean v e store s) (λ xs. cases_mean v n cs none (sole_number xs)) store1 s1 is in
          selects.comes (sole_number went.value) went.store store1 went.session s1 tt went.behind;
      follows = λ covered store s locals within h.
          follows_then_is
          (embedded (embeds_before rows from at at1 behind from behind selects.lie (omega arith) (omega arith) (omega arith))
          (expr_runs w v lay bodies inside from at st.free e from at [] locals store s stands.suited (names_inside w from behind from at (omega arith) (omega arith) names) stands.free fits.0.0 refl (omega arith) (omega arith) (has_front w.code.instrs from value keep has_value)
          (open_here w v inside (λ c. expr_within v c e store s) stands.suited.open_now (both_true _ _ within).0) h))
          (λ xs store1 s1 locals1 r is.
          let one_long : length xs ≡ 1 = r.0 ∙ fits.0.1 in
          let room : st.free + 1 ≤ w.row.locals = names at (i.SetLocal st.free 1) (omega arith) (omega arith) has_keep.0 in
          let set : IsSet (keeping w xs) store1 locals1 st.free xs = scratch_set w store1 locals1 xs st.free r.1 stands.free (omega arith) in
          let fit : nat_le (st.free + length xs) (length locals1) ≡ true = le-leb (st.free + length xs) (length locals1) set.inside in
          let held : Holds (keeping w (one (sole_number xs))) store1 (with_scalars locals1 st.free xs) = subst (λ (l : List ℤ). Holds (keeping w l) store1 (with_scalars locals1 st.free xs)) (sole xs one_long) set.holds in
          after (sets_by w (i.SetLocal st.free 1) at [] xs locals1 s1 st.free xs has_keep.0 (sym one_long) (ap (λ (t : Bool). if t then Sets st.free xs else Halts) fit))
          (after (renamed w (at + 1) at1 [] [] (with_scalars locals1 st.free xs) s1 (omega arith) refl)
          (embedded inner (selects.follows (covered_inside inner covered) (sole_number xs) store1 s1 (with_scalars locals1 st.free xs) tt
          (there (expr_mean v e store s) (λ ys store2 s2. cases_within v (calls_from inside w) n cs (otherwise_within v (calls_from inside w) n o) (sole_number ys) store2 s2) xs store1 s1 (both_true _ _ within).1 is) (forgotten w (one (sole_number xs)) store1 (with_scalars locals1 st.free xs) held) (scratch_read w store1 (with_scalars locals1 st.free xs) (one (sole_number xs)) st.free 1 held stands.free refl)))));
    }
  where
    lay : Layout
    lay = layout st.site

    last : ℕ
    last = otherwise_size st.site o 1

    at : ℕ
    at = from + expr_size e

    at1 : ℕ
    at1 = from + (expr_size e + 1)

    behind : ℕ
    behind = from + (expr_size e + suc (cases_size st.site cs last))

    none : Meaning (Unit {0})
    none = otherwise_mean v n o (Raised Rangefail)

    rows : List Handler
    rows = cases_rows st.site cs last (otherwise_rows st.site o) at1

    value : List Instr
    value = expr_code lay st.free e from

    keep : List Instr
    keep = i.SetLocal st.free 1 ∷ []

    parts : List Instr
    parts = cases_code st cs behind last (otherwise_code st o no_label_code) at1

    value_long : length value ≡ expr_size e
    value_long = expr_length lay st.free e from fits.0.0

    has_value : HasAt w.code.instrs from (value ++ keep)
    has_value = has_front w.code.instrs from (value ++ keep) parts has

    has_keep : HasAt w.code.instrs at keep
    has_keep = has_back w.code.instrs from at value keep (ap (λ (j : ℕ). from + j) value_long) has_value

    has_parts : HasAt w.code.instrs at1 parts
    has_parts = has_back w.code.instrs from at1 (value ++ keep) parts (omega (arith, value_long, length-append value keep)) has

    selects : Selects w st.free (λ (x : ℤ). x) any_number at1 behind rows behind (otherwise_goes_on o || some_case_goes_on cs) (cases_within v (calls_from inside w) n cs (otherwise_within v (calls_from inside w) n o)) (cases_mean v n cs none)
    selects =
        cases w v st bodies inside n at1 behind last (otherwise_code st o no_label_code) (otherwise_rows st.site o) (otherwise_goes_on o) (otherwise_within v (calls_from inside w) n o) none
        stands (omega arith) (names_inside w from behind at1 behind (omega arith) (omega arith) names) fits.1 (otherwise_acts w v st bodies inside n o some stands fits.2) has_parts

    inner : Embeds rows at1 behind rows from behind
    inner = record { low = omega arith; high = omega arith; same = λ place x l u. refl }
