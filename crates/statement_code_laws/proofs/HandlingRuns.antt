-- Statements with handlers, and labels.
use Rattle.std.proofs.Common.{◌≡◌, ℕ, zero, suc, ◌+◌, ◌<◌, ◌≤◌, if◌then◌else◌, nat_lt, le-leb, lt-ltb, slice_index_or, Bool, true, false, ◌&&◌, ◌||◌, List, [], ◌∷◌, ◌++◌, ℤ, length, Option, Some, None, refl, sym, ap, ◌∙◌, subst, arith, length-append}
use Rattle.kernel_base.specs.declared.ends.Exc.{Exc}
use Rattle.world_model.specs.Session.{Session}
use Rattle.program_trees.specs.StatementTree.{statement, ActionTree, module_at, region_at, StatementNodes, OtherwiseNode, no_otherwise, otherwise, HandledNodes, no_handled, more_handled, HandlerNode, no_handler, handler}
use Rattle.code_types.specs.declared.instr.Instr.{Instr}
use Rattle.code_types.specs.declared.code.Handler.{Handler}
use Rattle.code_types.specs.Places.{names_exception, takes, taker}
use Rattle.code_types.specs.Steps.{Run}
use Rattle.source_meaning.specs.Store.{Store}
use Rattle.source_meaning.specs.Flow.{Flow, Goes, Raised, Exits, Returned, Stops, Gone, Bound, Meaning}
use Rattle.source_meaning.specs.ExprMeaning.{Setting}
use Rattle.source_meaning.specs.StatementMeaning.{is_label, ends_exit, labelled_as, region_in, at_region, caught, statement_mean, handler_mean, alternatives_mean, otherwise_mean, statements_mean, action_mean}
use Rattle.source_meaning.specs.BodyMeaning.{Bodies}
use Rattle.code_scheme.specs.StatementSite.{Site, Standing, within_label}
use Rattle.code_scheme.specs.StatementGoing.{has_label, go_on, handler_goes_on, otherwise_goes_on, some_handled_goes_on, action_goes_on, leave_size, leave_code}
use Rattle.code_scheme.specs.StatementSize.{statements_size, statement_size, handler_size, handled_size, otherwise_size, action_size}
use Rattle.code_scheme.specs.StatementCode.{no_code, next_place, statements_code, handler_code, handled_code, otherwise_code, action_code}
use Rattle.code_scheme.specs.StatementRows.{row_for, own_rows, statements_rows, statement_rows, handler_rows, handled_rows, otherwise_rows, action_rows}
use Rattle.follow_laws.specs.Follows.{HasAt, Around, here, Holds, ComesBy, RaisesIn, always, no_stack, HoldsWith, Nothing, Does}
use Rattle.follow_laws.specs.Parts.{exits_with, labelled, IsCovered}
use Rattle.code_laws.specs.BodyBounds.{BodiesWithin}
use Rattle.code_laws.specs.Expressions.{NamesIn}
use Rattle.follow_laws.proofs.Running.{has_front, has_back, gets_then, after}
use Rattle.follow_laws.proofs.HandledRuns.{labelled_runs, taker_right, taker_left, lands}
use Rattle.code_laws.proofs.Values.{both_true}
use Rattle.code_laws.specs.StatementBounds.{Along, where_raises, at_region_within, statement_within, handler_within, alternatives_within, otherwise_within, statements_within, action_within}
use Rattle.code_laws.specs.StatementsInRange.{FitsHandler, FitsHandled, FitsOtherwise, FitsAction}
use Rattle.code_laws.specs.Statements.{StandsAs, calls_from}
use Rattle.statement_code_laws.specs.Parts.{LieIn, Acts}
use Rattle.statement_code_laws.specs.Actions.{ActionActs}
use Rattle.statement_code_laws.specs.StatementForms.{StatementActs, StatementsAct, SomeAct}
use Rattle.statement_code_laws.proofs.Lengths.{leave_length, statements_length, action_length}
use Rattle.statement_code_laws.proofs.Joining.{untaken_before, untaken_behind, lie_wider, lie_both, Embeds, embeds_left, embeds_right, embedded, covered_inside, acts_in, leave_run, joined_acts}
use Rattle.statement_code_laws.proofs.ChoiceRuns.{names_inside, first_comes, others_come}

-- ---- where exceptions of guarded instructions go

-- One of these rows takes an exception that is raised between two places, and leads to what acts as a meaning; or it goes on.
pub record Catches (w : Around) (from until : ℕ) (own : List Handler) (lo hi : ℕ) (rows : List Handler) (behind : ℕ) (goes : Bool) (within : Exc → Along) (mean : Exc → Meaning (Unit {0})) : Type 0 where
  pub own_lie : LieIn own from until
  pub lie : LieIn rows lo hi
  pub comes : (x : Exc) (store store1 : Store) (s s1 : Session) → mean x store s ≡ Goes tt store1 s1 → goes ≡ true
  pub takes : IsCovered w lo hi rows → (place : ℕ) (x : Exc) (row : Handler) (store : Store) (s : Session) (locals : List ℤ) → from ≤ place → place < until → taker own place x ≡ Some row
      → within x store s ≡ true → Holds w store locals → (row.height ≡ 0) × Does w (here w row.target [] locals s) lo hi rows behind (mean x store s)
  pub passes : (place : ℕ) (x : Exc) (store : Store) (s : Session) → from ≤ place → place < until → taker own place x ≡ None → mean x store s ≡ Raised x store s

-- inside its places a row takes what it names
head_takes : (from until place target : ℕ) (names : List ℕ) (is_else : Bool) (x : Exc) → from ≤ place → place < until → takes (row_for from until names is_else target) place x ≡ (is_else || names_exception names x)
head_takes from until place target names is_else x low high =
    ap (λ (t : Bool). (t && nat_lt place until) && (is_else || names_exception names x)) (le-leb from place low)
    ∙ ap (λ (t : Bool). t && (is_else || names_exception names x)) (lt-ltb place until high)

some_is : (h row : Handler) → Some h ≡ Some row → h ≡ row
some_is h row e = cc

head_row : (t : Bool) (h row : Handler) (o : Option Handler) → t ≡ true → (if t then Some h else o) ≡ Some row → h ≡ row
head_row true h row o e f = some_is h row f
head_row false h row o e f = absurd (let no : ⊥ = cc in no)

behind_head : (t : Bool) (h : Handler) (o : Option Handler) → t ≡ false → (if t then Some h else o) ≡ o
behind_head true h o e = absurd (let no : ⊥ = cc in no)
behind_head false h o e = refl

-- no alternatives
pub nothing_catches : (w : Around) (from until lo hi behind : ℕ) (within : Exc → Along) → Catches w from until [] lo hi [] behind false within (λ x. Raised x)
nothing_catches w from until lo hi behind within =
    record {
      own_lie = tt;
      lie = tt;
      comes = λ x store store1 s s1 e. absurd (let no : ⊥ = cc in no);
      takes = λ covered place x row store s locals l u e inside h. absurd (let no : ⊥ = cc in no);
      passes = λ place x store s l u e. refl;
    }

-- ELSE
else_catches : (w : Around) (from until lo behind : ℕ) (rows : List Handler) (goes : Bool) (within : Along) (mean : Meaning (Unit {0}))
    → Acts w lo behind rows behind goes within mean
    → Catches w from until (row_for from until [] true lo ∷ []) lo behind rows behind goes (λ x. within) (λ x. mean)
else_catches w from until lo behind rows goes within mean a =
    record {
      own_lie = (let e : from ≤ from = omega arith in e, let e : until ≤ until = omega arith in e, tt);
      lie = a.lie;
      comes = λ x store store1 s s1 e. a.comes store store1 s s1 e;
      takes = λ covered place x row store s locals l u e inside h.
          let same : row_for from until [] true lo ≡ row = head_row (takes (row_for from until [] true lo) place x) (row_for from until [] true lo) row None (head_takes from until place lo [] true x l u) e in
          (ap (λ (r : Handler). r.height) (sym same), subst (λ (r : Handler). Does w (here w r.target [] locals s) lo behind rows behind (mean store s)) same (a.follows covered store s locals inside h));
      passes = λ place x store s l u e. absurd (let yes : (if takes (row_for from until [] true lo) place x then Some (row_for from until [] true lo) else None) ≡ Some (row_for from until [] true lo) = ap (λ (t : Bool). if t then Some (row_for from until [] true lo) else None) (head_takes from until place lo [] true x l u) in let no : ⊥ = cc in no);
    }

-- an alternative for some exceptions, and the others
names_catch : (w : Around) (from until lo next behind : ℕ) (names : List ℕ) (own a b : List Handler) (g1 g2 goes : Bool) (in1 : Along) (in2 : Exc → Along) (mean1 : Meaning (Unit {0})) (mean2 : Exc → Meaning (Unit {0}))
    → lo ≤ next → next ≤ behind → (g1 ≡ true → goes ≡ true) → (g2 ≡ true → goes ≡ true)
    → Acts w lo next a behind g1 in1 mean1 → Catches w from until own next behind b behind g2 in2 mean2
    → Catches w from until (row_for from until names false lo ∷ own) lo behind (a ++ b) behind goes
    (λ x store s. if names_exception names x then in1 store s else in2 x store s) (λ x store s. if names_exception names x then mean1 store s else mean2 x store s)
names_catch w from until lo next behind names own a b g1 g2 goes in1 in2 mean1 mean2 low high up1 up2 p q =
    record {
      own_lie = (let e : from ≤ from = omega arith in e, let e : until ≤ until = omega arith in e, q.own_lie);
      lie = lie_both a b lo behind (lie_wider a lo next lo behind (omega arith) high p.lie) (lie_wider b next behind lo behind low (omega arith) q.lie);
      comes = λ x store store1 s s1 e. came x store store1 s s1 (names_exception names x) e;
      takes = λ covered place x row store s locals l u e inside h. taken covered place x row store s locals l u h (names_exception names x) (head_takes from until place lo names false x l u) e inside;
      passes = λ place x store s l u e. passed place x store s l u (names_exception names x) (head_takes from until place lo names false x l u) e;
    }
  where
    head : Handler
    head = row_for from until names false lo

    came : (x : Exc) (store store1 : Store) (s s1 : Session) (t : Bool) → (if t then mean1 store s else mean2 x store s) ≡ Goes tt store1 s1 → goes ≡ true
    came x store store1 s s1 true e = up1 (p.comes store store1 s s1 e)
    came x store store1 s s1 false e = up2 (q.comes x store store1 s s1 e)

    taken : IsCovered w lo behind (a ++ b) → (place : ℕ) (x : Exc) (row : Handler) (store : Store) (s : Session) (locals : List ℤ) → from ≤ place → place < until → Holds w store locals
        → (t : Bool) → takes head place x ≡ t → (if takes head place x then Some head else taker own place x) ≡ Some row → (if t then in1 store s else in2 x store s) ≡ true
        → (row.height ≡ 0) × Does w (here w row.target [] locals s) lo behind (a ++ b) behind (if t then mean1 store s else mean2 x store s)
    taken covered place x row store s locals l u h true is e inside =
        let same : head ≡ row = head_row (takes head place x) head row (taker own place x) is e in (
          ap (λ (r : Handler). r.height) (sym same),
          subst (λ (r : Handler). Does w (here w r.target [] locals s) lo behind (a ++ b) behind (mean1 store s)) same
              (acts_in (embeds_left a b lo next next behind lo behind q.lie (omega arith) (omega arith) high) p covered store s locals inside h),
        )
    taken covered place x row store s locals l u h false is e inside =
        let inner : Embeds b next behind (a ++ b) lo behind = embeds_right a b next behind lo next lo behind p.lie low (omega arith) (omega arith) in
        let r = q.takes (covered_inside inner covered) place x row store s locals l u (sym (behind_head (takes head place x) head (taker own place x) is) ∙ e) inside h in
        (r.0, embedded inner r.1)

    passed : (place : ℕ) (x : Exc) (store : Store) (s : Session) → from ≤ place → place < until → (t : Bool) → takes head place x ≡ t → (if takes head place x then Some head else taker own place x) ≡ None → (if t then mean1 store s else mean2 x store s) ≡ Raised x store s
    passed place x store s l u true is e = absurd (let yes : (if takes head place x then Some head else taker own place x) ≡ Some head = ap (λ (t : Bool). if t then Some head else taker own place x) is in let no : ⊥ = cc in no)
    passed place x store s l u false is e = q.passes place x store s l u (sym (behind_head (takes head place x) head (taker own place x) is) ∙ e)

-- ---- the alternatives of a handler

abbrev pub HandledAct : HandledNodes → Type 0
HandledAct hs = (w : Around) (v : Setting) (st : Standing) (bodies : Bodies) (inside : BodiesWithin) (n from until target behind : ℕ) (o : OtherwiseNode)
    → StandsAs w v st bodies inside → target + handled_size st.site hs (otherwise_size st.site o 0) ≡ behind → NamesIn w target behind
    → FitsHandled st.site (length st.exits) hs → FitsOtherwise st.site (length st.exits) o → SomeAct o
    → HasAt w.code.instrs target (handled_code st hs behind (otherwise_size st.site o 0) (otherwise_code st o no_code) target)
    → Catches w from until (own_rows st.site from until hs o target) target behind (handled_rows st.site hs (otherwise_size st.site o 0) (otherwise_rows st.site o) target) behind (otherwise_goes_on o || some_handled_goes_on hs)
    (alternatives_within v (calls_from inside w) n hs (otherwise_within v (calls_from inside w) n o)) (λ x. alternatives_mean v n hs (otherwise_mean v n o (Raised x)) x)

or_false : (t : Bool) → (t || false) ≡ t
or_false true = refl
or_false false = refl

pub no_handled_act : HandledAct no_handled
no_handled_act w v st bodies inside n from until target behind no_otherwise stands end names fits fits_o some has = nothing_catches w from until target behind behind (λ x. otherwise_within v (calls_from inside w) n no_otherwise)
no_handled_act w v st bodies inside n from until target behind (otherwise ss) stands end names fits fits_o some has =
    let acts = some w v st bodies inside n target stands (subst (λ (j : ℕ). NamesIn w target j) (sym end) names) fits_o has in
    let moved = subst (λ (j : ℕ). Acts w target j (statements_rows st.site ss target) j (go_on ss) (statements_within v (calls_from inside w) n ss) (statements_mean v n ss)) end acts in
    subst (λ (g : Bool). Catches w from until (row_for from until [] true target ∷ []) target behind (statements_rows st.site ss target) behind g (λ x. statements_within v (calls_from inside w) n ss) (λ x. statements_mean v n ss)) (sym (or_false (go_on ss)))
    (else_catches w from until target behind (statements_rows st.site ss target) (go_on ss) (statements_within v (calls_from inside w) n ss) (statements_mean v n ss) moved)

pub more_handled_act : (names : List ℕ) (ss : StatementNodes) (hs : HandledNodes) → StatementsAct ss → HandledAct hs → HandledAct (more_handled names ss hs)
more_handled_act xs ss hs first others w v st bodies inside n from until target behind o stands end names fits fits_o some has =
    names_catch w from until target next behind xs (own_rows st.site from until hs o next) (statements_rows st.site ss target) (handled_rows st.site hs last (otherwise_rows st.site o) next) (go_on ss) (otherwise_goes_on o || some_handled_goes_on hs) (otherwise_goes_on o || (go_on ss || some_handled_goes_on hs))
    (statements_within v (calls_from inside w) n ss) (alternatives_within v (calls_from inside w) n hs (otherwise_within v (calls_from inside w) n o)) (statements_mean v n ss) (λ x. alternatives_mean v n hs (otherwise_mean v n o (Raised x)) x)
    (omega arith) (omega arith) (first_comes (otherwise_goes_on o) (go_on ss) (some_handled_goes_on hs)) (others_come (otherwise_goes_on o) (go_on ss) (some_handled_goes_on hs))
    (joined_acts w target at1 next behind size (statements_rows st.site ss target) (go_on ss) (statements_within v (calls_from inside w) n ss) (statements_mean v n ss)
    (first w v st bodies inside n target stands (names_inside w target behind target at1 (omega arith) (omega arith) names) fits.0 (has_front all target body leave has_part))
    (has_back all target at1 body leave (ap (λ (j : ℕ). target + j) body_long) has_part) (omega arith) (λ none. omega (arith, none, leave_none (go_on ss) size none)))
    (others w v st bodies inside n from until next behind o stands (omega arith) (names_inside w target behind next behind (omega arith) (omega arith) names) fits.1 fits_o some has_more)
  where
    all : List Instr
    all = w.code.instrs

    last : ℕ
    last = otherwise_size st.site o 0

    size : ℕ
    size = handled_size st.site hs last

    at1 : ℕ
    at1 = target + statements_size st.site ss

    next : ℕ
    next = next_place target (statements_size st.site ss) (go_on ss) size

    body : List Instr
    body = statements_code st ss target

    body_long : length body ≡ statements_size st.site ss
    body_long = statements_length st (length st.exits) ss target fits.0

    leave : List Instr
    leave = leave_code (go_on ss) size behind

    more : List Instr
    more = handled_code st hs behind last (otherwise_code st o no_code) next

    has_part : HasAt all target (body ++ leave)
    has_part = has_front all target (body ++ leave) more has

    has_more : HasAt all next more
    has_more = has_back all target next (body ++ leave) more (omega (arith, length-append body leave, body_long, leave_length (go_on ss) size behind)) has

    leave_none : (g : Bool) (k : ℕ) → k ≡ 0 → leave_size g k ≡ 0
    leave_none true k none = ap (λ (j : ℕ). leave_size true j) none
    leave_none false k none = refl

-- ---- an action with its handler

pub handled_acts : (w : Around) (from until next rest behind : ℕ) (inner own acts : List Handler) (g1 g2 goes : Bool) (in1 : Along) (mean1 : Meaning (Unit {0})) (in2 : Exc → Along) (mean2 : Exc → Meaning (Unit {0}))
    → from ≤ until → until + leave_size g1 rest ≡ next → next + rest ≡ behind → (g1 ≡ true → goes ≡ true) → (g2 ≡ true → goes ≡ true)
    → HasAt w.code.instrs until (leave_code g1 rest behind)
    → Acts w from until inner until g1 in1 mean1 → Catches w from until own next behind acts behind g2 in2 mean2
    → Acts w from behind (inner ++ (own ++ acts)) behind goes (λ store s. in1 store s && where_raises (mean1 store s) in2) (λ store s. caught (mean1 store s) mean2)
handled_acts w from until next rest behind inner own acts g1 g2 goes in1 mean1 in2 mean2 low next_is end up1 up2 has a c =
    record {
      lie = lie_both inner (own ++ acts) from behind (lie_wider inner from until from behind (omega arith) (omega arith) a.lie) (lie_both own acts from behind (lie_wider own from until from behind (omega arith) (omega arith) c.own_lie) (lie_wider acts next behind from behind (omega arith) (omega arith) c.lie));
      comes = λ store store1 s s1 e. came store store1 s s1 (mean1 store s) refl e;
      follows = λ covered store s locals within h.
          by_comes covered store s (here w from [] locals s) (mean1 store s) refl (both_true _ _ within).1 (a.follows (inner_covered covered) store s locals (both_true _ _ within).0 h).by;
    }
  where
    whole : List Handler
    whole = inner ++ (own ++ acts)

    came : (store store1 : Store) (s s1 : Session) (o : Flow (Unit {0})) → mean1 store s ≡ o → caught o mean2 ≡ Goes tt store1 s1 → goes ≡ true
    came store store1 s s1 (Goes tt store2 s2) is e = up1 (a.comes store store2 s s2 is)
    came store store1 s s1 (Raised x store2 s2) is e = up2 (c.comes x store2 store1 s2 s1 e)
    came store store1 s s1 (Exits k store2 s2) is e = absurd (let no : ⊥ = cc in no)
    came store store1 s s1 (Returned store2 s2) is e = absurd (let no : ⊥ = cc in no)
    came store store1 s s1 (Stops t calls store2) is e = absurd (let no : ⊥ = cc in no)
    came store store1 s s1 (Gone t) is e = absurd (let no : ⊥ = cc in no)
    came store store1 s s1 Bound is e = absurd (let no : ⊥ = cc in no)

    inner_covered : IsCovered w from behind whole → IsCovered w from until inner
    inner_covered covered = record { at = λ place x h l u taken. covered.at place x h l (omega arith) (taker_left inner (own ++ acts) place x h taken) }

    actions : Embeds acts next behind whole from behind
    actions = record { low = omega arith; high = omega arith; same = λ place x l u. taker_right inner (own ++ acts) place x (untaken_behind inner from until place x a.lie (omega arith)) ∙ taker_right own acts place x (untaken_behind own from until place x c.own_lie (omega arith)) }

    raised : IsCovered w from behind whole → (m : Run) (x : Exc) (store1 : Store) (s1 : Session) → in2 x store1 s1 ≡ true → (r : RaisesIn w m from until inner x store1 s1) → (t : Option Handler) → taker own r.place x ≡ t
        → Does w m from behind whole behind (mean2 x store1 s1)
    raised covered m x store1 s1 inside r (Some row) is =
        let all_take : taker whole r.place x ≡ Some row = taker_right inner (own ++ acts) r.place x r.untaken ∙ taker_left own acts r.place x row is in
        let innermost = covered.at r.place x row r.from (omega (arith, r.until)) all_take in
        let acting = c.takes (covered_inside actions covered) r.place x row store1 s1 r.locals r.from r.until is inside r.holds in
        after (gets_then r.by (lands w r.place r.stack r.locals x row s1 innermost acting.0)) (embedded actions acting.1)
    raised covered m x store1 s1 inside r None is =
        subst (λ (o : Flow (Unit {0})). Does w m from behind whole behind o) (sym (c.passes r.place x store1 s1 r.from r.until is))
        (record {
          by = record {
            place = r.place;
            stack = r.stack;
            locals = r.locals;
            from = r.from;
            until = omega (arith, r.until);
            untaken = taker_right inner (own ++ acts) r.place x r.untaken ∙ (taker_right own acts r.place x is ∙ untaken_before acts next behind r.place x c.lie (omega (arith, r.until)));
            arises = r.arises;
            holds = r.holds;
            by = r.by;
          };
        })

    no_rest : rest ≡ 0 → until ≡ behind
    no_rest none = omega (arith, none, leave_none g1 rest none)
      where
        leave_none : (g : Bool) (k : ℕ) → k ≡ 0 → leave_size g k ≡ 0
        leave_none true k e = ap (λ (j : ℕ). leave_size true j) e
        leave_none false k e = refl

    by_comes : IsCovered w from behind whole → (store : Store) (s : Session) (m : Run) (o : Flow (Unit {0})) → mean1 store s ≡ o → where_raises o in2 ≡ true → ComesBy w m from until inner (always until) no_stack (HoldsWith w Nothing) o
        → Does w m from behind whole behind (caught o mean2)
    by_comes covered store s m (Goes tt store1 s1) is inside f = record { by = record { locals = f.locals; holds = f.holds; by = gets_then f.by (leave_run w g1 rest behind until f.locals s1 (a.comes store store1 s s1 is) no_rest has) } }
    by_comes covered store s m (Raised x store1 s1) is inside f = raised covered m x store1 s1 inside f (taker own f.place x) refl
    by_comes covered store s m (Exits k store1 s1) is inside f = record { by = f }
    by_comes covered store s m (Returned store1 s1) is inside f = record { by = f }
    by_comes covered store s m (Stops t calls store1) is inside f = record { by = f }
    by_comes covered store s m (Gone t) is inside f = record { by = f }
    by_comes covered store s m Bound is inside f = record { by = tt }

-- ---- other words for the same meaning

pub acts_as : {w : Around} {from until behind : ℕ} {rows : List Handler} {goes : Bool} {in1 in2 : Along} {mean1 mean2 : Meaning (Unit {0})}
    → ((store : Store) (s : Session) → in2 store s ≡ true → in1 store s ≡ true) → ((store : Store) (s : Session) → mean1 store s ≡ mean2 store s)
    → Acts w from until rows behind goes in1 mean1 → Acts w from until rows behind goes in2 mean2
acts_as {w} {from} {until} {behind} {rows} inside same a =
    record {
      lie = a.lie;
      comes = λ store store1 s s1 e. a.comes store store1 s s1 (same store s ∙ e);
      follows = λ covered store s locals within h. subst (λ (o : Flow (Unit {0})). Does w (here w from [] locals s) from until rows behind o) (same store s) (a.follows covered store s locals (inside store s within) h);
    }

-- ---- labels

pub held_inside : (w : Around) (behind : ℕ) (store : Store) (locals : List ℤ) → Holds w store locals → Holds (labelled w behind) store locals
held_inside w behind store locals h = record { rest = h.rest; is = h.is; fit = h.fit; result = h.result; long = h.long }

labelled_acts : (w : Around) (from behind : ℕ) (rows : List Handler) (goes : Bool) (inside : Along) (mean : Meaning (Unit {0})) → Acts (labelled w behind) from behind rows behind goes inside mean
    → Acts w from behind rows behind true inside (λ store s. ends_exit (mean store s))
labelled_acts w from behind rows goes inside mean a =
    record {
      lie = a.lie;
      comes = λ store store1 s s1 e. refl;
      follows = λ covered store s locals within h.
          labelled_runs w (here w from [] locals s) from behind rows behind (mean store s) (a.follows (record { at = covered.at }) store s locals within (held_inside w behind store locals h));
    }

stands_inside : (w : Around) (v : Setting) (st : Standing) (bodies : Bodies) (inside : BodiesWithin) (behind : ℕ) → StandsAs w v st bodies inside → StandsAs (labelled w behind) v (within_label st behind) bodies inside
stands_inside w v st bodies inside behind stands =
    record {
      suited = record { instance = stands.suited.instance; rows = stands.suited.rows; open_now = stands.suited.open_now; calls = stands.suited.calls; follow = stands.suited.follow; entered = stands.suited.entered };
      rows = stands.rows;
      free = stands.free;
      results = stands.results;
      exits = exits_lead;
      way_out = stands.way_out;
    }
  where
    exits_lead : (k : ℕ) → k < length (behind ∷ st.exits) → exits_with behind w.exits k ≡ slice_index_or (behind ∷ st.exits) k 0
    exits_lead zero l = refl
    exits_lead (suc k) l = stands.exits k (omega arith)

-- ---- statements

-- what an action is, other than a modulion
label_is : (site : Site) (m : ℕ) (labelled_too : Bool) (a : ActionTree) → FitsAction site m a → is_label labelled_too a ≡ labelled_too
label_is site m t (module_at ss) fits = absurd fits
label_is site m t (region_at r ss) fits = absurd fits
label_is site m t a fits = refl

has_label_is : (site : Site) (m : ℕ) (t : Bool) (a : ActionTree) → FitsAction site m a → has_label t a ≡ t
has_label_is site m false (module_at ss) fits = absurd fits
has_label_is site m true (module_at ss) fits = absurd fits
has_label_is site m false (region_at r ss) fits = absurd fits
has_label_is site m true (region_at r ss) fits = absurd fits
has_label_is site m false a fits = refl
has_label_is site m true a fits = refl

no_region : (site : Site) (m : ℕ) (a : ActionTree) → FitsAction site m a → region_in a ≡ None
no_region site m (module_at ss) fits = absurd fits
no_region site m (region_at r ss) fits = absurd fits
no_region site m a fits = refl

-- the handler of an action acts, where there is one
abbrev pub HandlerCatches : HandlerNode → Type 0
HandlerCatches no_handler = Unit {0}
HandlerCatches (handler hs o) = HandledAct hs × SomeAct o

pub or_right : (a b : Bool) → b ≡ true → (a || b) ≡ true
or_right true b e = refl
or_right false b e = e

pub or_left : (a b : Bool) → a ≡ true → (a || b) ≡ true
or_left true b e = refl
or_left false b e = absurd (let no : ⊥ = cc in no)

-- an action with its handler
guarded_acts : (w : Around) (v : Setting) (st : Standing) (bodies : Bodies) (inside : BodiesWithin) (n from behind : ℕ) (a : ActionTree) (h : HandlerNode)
    → ActionActs a → HandlerCatches h → StandsAs w v st bodies inside → from + (action_size st.site a + (leave_size (action_goes_on a) (handler_size st.site h) + handler_size st.site h)) ≡ behind → NamesIn w from behind
    → FitsAction st.site (length st.exits) a → FitsHandler st.site (length st.exits) h
    → HasAt w.code.instrs from (action_code st a from ++ handler_code st h (action_goes_on a) (from + action_size st.site a))
    → Acts w from behind (action_rows st.site a from ++ handler_rows st.site h (action_goes_on a) from (from + action_size st.site a)) behind (action_goes_on a || handler_goes_on h)
    (λ store s. action_within v (calls_from inside w) n a store s && where_raises (action_mean v n a store s) (handler_within v (calls_from inside w) n h)) (λ store s. caught (action_mean v n a store s) (handler_mean v n h))
guarded_acts w v st bodies inside n from behind a h action handled stands end names fits fits_h has = by_handler h handled fits_h end has
  where
    all : List Instr
    all = w.code.instrs

    until : ℕ
    until = from + action_size st.site a

    g : Bool
    g = action_goes_on a

    whole_end : HandlerNode → ℕ
    whole_end k = from + (action_size st.site a + (leave_size g (handler_size st.site k) + handler_size st.site k))

    has_handler : (k : HandlerNode) → HasAt all from (action_code st a from ++ handler_code st k g until) → HasAt all until (handler_code st k g until)
    has_handler k has2 = has_back all from until (action_code st a from) (handler_code st k g until) (ap (λ (j : ℕ). from + j) (action_length st (length st.exits) a from fits)) has2

    acting : (k : HandlerNode) → HasAt all from (action_code st a from ++ handler_code st k g until) → until ≤ behind → Acts w from until (action_rows st.site a from) until g (action_within v (calls_from inside w) n a) (action_mean v n a)
    acting k has2 room = action w v st bodies inside n from stands (names_inside w from behind from until (omega arith) room names) fits (has_front all from (action_code st a from) (handler_code st k g until) has2)

    by_handler : (k : HandlerNode) → HandlerCatches k → FitsHandler st.site (length st.exits) k → whole_end k ≡ behind → HasAt all from (action_code st a from ++ handler_code st k g until)
        → Acts w from behind (action_rows st.site a from ++ handler_rows st.site k g from until) behind (g || handler_goes_on k)
        (λ store s. action_within v (calls_from inside w) n a store s && where_raises (action_mean v n a store s) (handler_within v (calls_from inside w) n k)) (λ store s. caught (action_mean v n a store s) (handler_mean v n k))
    by_handler no_handler acts fits_k end2 has2 =
        handled_acts w from until behind 0 behind (action_rows st.site a from) [] [] g false (g || false) (action_within v (calls_from inside w) n a) (action_mean v n a) (handler_within v (calls_from inside w) n no_handler) (handler_mean v n no_handler)
        (omega arith) (omega arith) (omega arith) (or_left g false) (λ e. absurd (let no : ⊥ = cc in no)) (no_leave g)
        (acting no_handler has2 (omega arith)) (nothing_catches w from until behind behind behind (handler_within v (calls_from inside w) n no_handler))
      where
        no_leave : (t : Bool) → HasAt all until (leave_code t 0 behind)
        no_leave true = tt
        no_leave false = tt
    by_handler (handler hs o) acts fits_k end2 has2 =
        let size : ℕ = handler_size st.site (handler hs o) in
        let next : ℕ = until + leave_size g size in
        let ends : ℕ = until + (leave_size g size + size) in
        let same : ends ≡ behind = omega arith in
        let leave : List Instr = leave_code g size ends in
        let rest : List Instr = handled_code st hs ends (otherwise_size st.site o 0) (otherwise_code st o no_code) next in
        let has3 : HasAt all until (leave ++ rest) = has_handler (handler hs o) has2 in
        let has_rest : HasAt all next rest = has_back all until next leave rest (ap (λ (j : ℕ). until + j) (leave_length g size ends)) has3 in
        let catches = acts.0 w v st bodies inside n from until next behind o stands (omega arith) (names_inside w from behind next behind (omega arith) (omega arith) names) fits_k.0 fits_k.1 acts.1
        (subst (λ (j : ℕ). HasAt all next (handled_code st hs j (otherwise_size st.site o 0) (otherwise_code st o no_code) next)) same has_rest) in
        handled_acts w from until next size behind (action_rows st.site a from) (own_rows st.site from until hs o next) (handled_rows st.site hs (otherwise_size st.site o 0) (otherwise_rows st.site o) next) g (handler_goes_on (handler hs o)) (g || handler_goes_on (handler hs o))
        (action_within v (calls_from inside w) n a) (action_mean v n a) (handler_within v (calls_from inside w) n (handler hs o)) (handler_mean v n (handler hs o))
        (omega arith) refl (omega arith) (or_left g (handler_goes_on (handler hs o))) (or_right g (handler_goes_on (handler hs o)))
        (subst (λ (j : ℕ). HasAt all until (leave_code g size j)) same (has_front all until leave rest has3))
        (acting (handler hs o) has2 (omega arith)) catches

pub statement_acts : (t : Bool) (a : ActionTree) (h : HandlerNode) → ActionActs a → HandlerCatches h → StatementActs (statement t a h)
statement_acts false a h action handled w v st bodies inside n from stands names fits has =
    let behind : ℕ = from + statement_size st.site (statement false a h) in
    let guarded = guarded_acts w v st bodies inside n from behind a h action handled stands refl names fits.0 fits.1 has in
    let goes_same : (action_goes_on a || handler_goes_on h) ≡ (has_label false a || (action_goes_on a || handler_goes_on h)) = ap (λ (u : Bool). u || (action_goes_on a || handler_goes_on h)) (sym (has_label_is st.site (length st.exits) false a fits.0)) in
    subst (λ (g : Bool). Acts w from behind (statement_rows st.site (statement false a h) from) behind g (statement_within v (calls_from inside w) n (statement false a h)) (statement_mean v n (statement false a h))) goes_same
    (acts_as (λ store s within. subst (λ (r : Option ℕ). at_region_within r v (λ v1 store1 s1. action_within v1 (calls_from inside w) n a store1 s1 && where_raises (action_mean v1 n a store1 s1) (λ x store2 s2. handler_within v1 (calls_from inside w) n h x store2 s2)) store s ≡ true) (no_region st.site (length st.exits) a fits.0) within)
    (λ store s. sym (ap (λ (u : Bool). labelled_as u (at_region (region_in a) v (λ v1 store1 s1. caught (action_mean v1 n a store1 s1) (handler_mean v1 n h)) store s)) (label_is st.site (length st.exits) false a fits.0)
    ∙ ap (λ (r : Option ℕ). at_region r v (λ v1 store1 s1. caught (action_mean v1 n a store1 s1) (handler_mean v1 n h)) store s) (no_region st.site (length st.exits) a fits.0))) guarded)
statement_acts true a h action handled w v st bodies inside n from stands names fits has =
    let behind : ℕ = from + statement_size st.site (statement true a h) in
    let inner : Around = labelled w behind in
    let standing : Standing = within_label st behind in
    let guarded : Acts inner from behind (statement_rows st.site (statement true a h) from) behind (action_goes_on a || handler_goes_on h) (λ store s. action_within v (calls_from inside w) n a store s && where_raises (action_mean v n a store s) (handler_within v (calls_from inside w) n h)) (λ store s. caught (action_mean v n a store s) (handler_mean v n h)) =
    guarded_acts inner v standing bodies inside n from behind a h action handled (stands_inside w v st bodies inside behind stands) refl names fits.0 fits.1 has in
    let ended = labelled_acts w from behind (statement_rows st.site (statement true a h) from) (action_goes_on a || handler_goes_on h) _ _ guarded in
    let goes_same : true ≡ (has_label true a || (action_goes_on a || handler_goes_on h)) = ap (λ (u : Bool). u || (action_goes_on a || handler_goes_on h)) (sym (has_label_is st.site (suc (length st.exits)) true a fits.0)) in
    subst (λ (g : Bool). Acts w from behind (statement_rows st.site (statement true a h) from) behind g (statement_within v (calls_from inside w) n (statement true a h)) (statement_mean v n (statement true a h))) goes_same
    (acts_as (λ store s within. subst (λ (r : Option ℕ). at_region_within r v (λ v1 store1 s1. action_within v1 (calls_from inside w) n a store1 s1 && where_raises (action_mean v1 n a store1 s1) (λ x store2 s2. handler_within v1 (calls_from inside w) n h x store2 s2)) store s ≡ true) (no_region st.site (suc (length st.exits)) a fits.0) within)
    (λ store s. sym (ap (λ (u : Bool). labelled_as u (at_region (region_in a) v (λ v1 store1 s1. caught (action_mean v1 n a store1 s1) (handler_mean v1 n h)) store s)) (label_is st.site (suc (length st.exits)) true a fits.0)
    ∙ ap (λ (r : Option ℕ). ends_exit (at_region r v (λ v1 store1 s1. caught (action_mean v1 n a store1 s1) (handler_mean v1 n h)) store s)) (no_region st.site (suc (length st.exits)) a fits.0))) ended)
