-- Parts that stand behind each other, and the rows of each among those of the whole.
use Rattle.std.proofs.Common.{◌≡◌, ℕ, zero, suc, ◌+◌, ◌<◌, ◌≤◌, nat_le, nat_lt, leb-true, ltb-true, if◌then◌else◌, Bool, true, false, ◌&&◌, ◌||◌, List, [], ◌∷◌, ◌++◌, ℤ, Option, Some, None, refl, sym, ap, ◌∙◌, arith}
use Rattle.kernel_base.specs.declared.ends.Exc.{Exc}
use Rattle.world_model.specs.Session.{Session}
use Rattle.code_types.specs.declared.instr.Instr.TheVariants as i
use Rattle.code_types.specs.declared.code.Handler.{Handler}
use Rattle.code_types.specs.Places.{names_exception, takes, taker}
use Rattle.code_types.specs.Steps.{Run}
use Rattle.source_meaning.specs.Store.{Store}
use Rattle.source_meaning.specs.Flow.{Flow, Goes, Raised, Exits, Returned, Stops, Gone, Bound, Meaning, then_do}
use Rattle.source_meaning.specs.StatementMeaning.{skip}
use Rattle.code_scheme.specs.StatementGoing.{leave_size, leave_code}
use Rattle.follow_laws.specs.Follows.{HasAt, Around, here, Holds, GetsTo, ComesBy, Follows, always, no_stack, HoldsWith, Nothing, Does}
use Rattle.follow_laws.specs.Parts.{IsCovered}
use Rattle.code_laws.specs.OwnBounds.{where_goes}
use Rattle.follow_laws.proofs.Running.{gets_then, wider, follows_then_is, comes}
use Rattle.follow_laws.proofs.Instructions.{jumps_by, renamed}
use Rattle.follow_laws.proofs.HandledRuns.{taker_right, taker_left}
use Rattle.code_laws.proofs.Values.{both_true}
use Rattle.code_laws.proofs.ExprPieces.{there}
use Rattle.code_laws.specs.StatementBounds.{Along, nothing_within}
use Rattle.statement_code_laws.specs.Parts.{LieIn, Acts}

-- ---- rows outside their places

none_before : (t u v : Bool) → t ≡ false → ((t && u) && v) ≡ false
none_before t u v e = ap (λ (b : Bool). (b && u) && v) e

none_behind : (t u v : Bool) → u ≡ false → ((t && u) && v) ≡ false
none_behind true u v e = ap (λ (b : Bool). b && v) e
none_behind false u v e = refl

is_before : (a b : ℕ) → b < a → nat_le a b ≡ false
is_before a b h = by_test (nat_le a b) refl
  where
    by_test : (t : Bool) → nat_le a b ≡ t → nat_le a b ≡ false
    by_test true e = absurd (let no : ⊥ = omega (arith, leb-true a b e) in no)
    by_test false e = e

is_behind : (a b : ℕ) → b ≤ a → nat_lt a b ≡ false
is_behind a b h = by_test (nat_lt a b) refl
  where
    by_test : (t : Bool) → nat_lt a b ≡ t → nat_lt a b ≡ false
    by_test true e = absurd (let no : ⊥ = omega (arith, ltb-true a b e) in no)
    by_test false e = e

pub untaken_before : (rows : List Handler) (from until place : ℕ) (x : Exc) → LieIn rows from until → place < from → taker rows place x ≡ None
untaken_before [] from until place x lie before = refl
untaken_before (h ∷ hs) from until place x lie before =
    let none : takes h place x ≡ false = none_before (nat_le h.from place) (nat_lt place h.until) (h.otherwise || names_exception h.names x) (is_before h.from place (omega (arith, lie.0))) in
    ap (λ (t : Bool). if t then Some h else taker hs place x) none ∙ untaken_before hs from until place x lie.2 before

pub untaken_behind : (rows : List Handler) (from until place : ℕ) (x : Exc) → LieIn rows from until → until ≤ place → taker rows place x ≡ None
untaken_behind [] from until place x lie behind = refl
untaken_behind (h ∷ hs) from until place x lie behind =
    let none : takes h place x ≡ false = none_behind (nat_le h.from place) (nat_lt place h.until) (h.otherwise || names_exception h.names x) (is_behind place h.until (omega (arith, lie.1))) in
    ap (λ (t : Bool). if t then Some h else taker hs place x) none ∙ untaken_behind hs from until place x lie.2 behind

pub lie_wider : (rows : List Handler) (from until from' until' : ℕ) → from' ≤ from → until ≤ until' → LieIn rows from until → LieIn rows from' until'
lie_wider [] from until from' until' low high lie = tt
lie_wider (h ∷ hs) from until from' until' low high lie = (omega (arith, lie.0), omega (arith, lie.1), lie_wider hs from until from' until' low high lie.2)

pub lie_both : (a b : List Handler) (from until : ℕ) → LieIn a from until → LieIn b from until → LieIn (a ++ b) from until
lie_both [] b from until lie_a lie_b = lie_b
lie_both (h ∷ a) b from until lie_a lie_b = (lie_a.0, lie_a.1, lie_both a b from until lie_a.2 lie_b)

-- ---- a part among others

-- inside its places a part's rows are those of the whole
pub record Embeds (rows : List Handler) (from until : ℕ) (whole : List Handler) (from' until' : ℕ) : Type 0 where
  pub low : from' ≤ from
  pub high : until ≤ until'
  pub same : (place : ℕ) (x : Exc) → from ≤ place → place < until → taker whole place x ≡ taker rows place x

pub embeds_self : (rows : List Handler) (from until until' : ℕ) → until ≤ until' → Embeds rows from until rows from until'
embeds_self rows from until until' high = record { low = omega arith; high = high; same = λ place x l u. refl }

-- before others, which lie behind it
pub embeds_left : (a b : List Handler) (from until low high from' until' : ℕ) → LieIn b low high → from' ≤ from → until ≤ low → until ≤ until' → Embeds a from until (a ++ b) from' until'
embeds_left a b from until low high from' until' lie l m u =
    record {
      low = l;
      high = u;
      same = λ place x p q. by_taker (taker a place x) place x refl q;
    }
  where
    by_taker : (o : Option Handler) (place : ℕ) (x : Exc) → taker a place x ≡ o → place < until → taker (a ++ b) place x ≡ taker a place x
    by_taker None place x e q = taker_right a b place x e ∙ (untaken_before b low high place x lie (omega arith) ∙ sym e)
    by_taker (Some h) place x e q = taker_left a b place x h e ∙ sym e

-- behind others, which lie before it
pub embeds_right : (a b : List Handler) (from until low high from' until' : ℕ) → LieIn a low high → from' ≤ from → high ≤ from → until ≤ until' → Embeds b from until (a ++ b) from' until'
embeds_right a b from until low high from' until' lie l m u =
    record { low = l; high = u; same = λ place x p q. taker_right a b place x (untaken_behind a low high place x lie (omega arith)) }

-- instructions before all rows, or behind them
pub embeds_before : (rows : List Handler) (from until low high from' until' : ℕ) → LieIn rows low high → from' ≤ from → until ≤ low → until ≤ until' → Embeds [] from until rows from' until'
embeds_before rows from until low high from' until' lie l m u =
    record { low = l; high = u; same = λ place x p q. untaken_before rows low high place x lie (omega arith) }

pub embeds_behind : (rows : List Handler) (from until low high from' until' : ℕ) → LieIn rows low high → from' ≤ from → high ≤ from → until ≤ until' → Embeds [] from until rows from' until'
embeds_behind rows from until low high from' until' lie l m u =
    record { low = l; high = u; same = λ place x p q. untaken_behind rows low high place x lie (omega arith) }

pub embeds_then : {a b c : List Handler} {f u f1 u1 f2 u2 : ℕ} → Embeds a f u b f1 u1 → Embeds b f1 u1 c f2 u2 → Embeds a f u c f2 u2
embeds_then p q =
    record {
      low = omega (arith, p.low, q.low);
      high = omega (arith, p.high, q.high);
      same = λ place x l r. q.same place x (omega (arith, p.low)) (omega (arith, p.high)) ∙ p.same place x l r;
    }

pub covered_inside : {w : Around} {rows whole : List Handler} {from until from' until' : ℕ} → Embeds rows from until whole from' until' → IsCovered w from' until' whole → IsCovered w from until rows
covered_inside e covered = record { at = λ place x h l u taken. covered.at place x h (omega (arith, e.low)) (omega (arith, e.high)) (e.same place x l u ∙ taken) }

pub embedded : {A : Type 0} {w : Around} {m : Run} {rows whole : List Handler} {from until from' until' : ℕ} {to : A → ℕ} {stack : A → List ℤ} {Q : A → Store → List ℤ → Type 0} {o : Flow A}
    → Embeds rows from until whole from' until' → Follows w m from until rows to stack Q o → Follows w m from' until' whole to stack Q o
embedded e f = wider e.low e.high (λ x place l u none. e.same place x l u ∙ none) (λ v store locals q. q) f

-- a part acts among others
pub acts_in : {w : Around} {rows whole : List Handler} {from until from' until' behind : ℕ} {goes : Bool} {inside : Along} {mean : Meaning (Unit {0})}
    → Embeds rows from until whole from' until' → Acts w from until rows behind goes inside mean → IsCovered w from' until' whole
    → (store : Store) (s : Session) (locals : List ℤ) → inside store s ≡ true → Holds w store locals → Does w (here w from [] locals s) from' until' whole behind (mean store s)
acts_in e a covered store s locals within h = embedded e (a.follows (covered_inside e covered) store s locals within h)

-- ---- where control goes behind a part

leads_comes : (w : Around) (m : Run) (lo hi : ℕ) (rows : List Handler) (to to' : ℕ) (o : Flow (Unit {0}))
    → ((store : Store) (s : Session) (locals : List ℤ) → o ≡ Goes tt store s → GetsTo w.code (here w to [] locals s) (here w to' [] locals s))
    → ComesBy w m lo hi rows (always to) no_stack (HoldsWith w Nothing) o → ComesBy w m lo hi rows (always to') no_stack (HoldsWith w Nothing) o
leads_comes w m lo hi rows to to' (Goes v store s) f c = record { locals = c.locals; holds = c.holds; by = gets_then c.by (f store s c.locals refl) }
leads_comes w m lo hi rows to to' (Raised x store s) f c = c
leads_comes w m lo hi rows to to' (Exits k store s) f c = c
leads_comes w m lo hi rows to to' (Returned store s) f c = c
leads_comes w m lo hi rows to to' (Stops t inner store) f c = c
leads_comes w m lo hi rows to to' (Gone t) f c = c
leads_comes w m lo hi rows to to' Bound f c = tt

pub leads_on : {w : Around} {m : Run} {lo hi : ℕ} {rows : List Handler} {to to' : ℕ} {o : Flow (Unit {0})}
    → ((store : Store) (s : Session) (locals : List ℤ) → o ≡ Goes tt store s → GetsTo w.code (here w to [] locals s) (here w to' [] locals s))
    → Does w m lo hi rows to o → Does w m lo hi rows to' o
leads_on {w} {m} {lo} {hi} {rows} {to} {to'} {o} f d = record { by = leads_comes w m lo hi rows to to' o f d.by }

-- over what stands behind a part, where control comes
pub leave_run : (w : Around) (goes : Bool) (rest behind at : ℕ) (locals : List ℤ) (s : Session) → goes ≡ true → (rest ≡ 0 → at ≡ behind) → HasAt w.code.instrs at (leave_code goes rest behind)
    → GetsTo w.code (here w at [] locals s) (here w behind [] locals s)
leave_run w false rest behind at locals s e end has = absurd (let no : ⊥ = cc in no)
leave_run w true zero behind at locals s e end has = renamed w at behind [] [] locals s (end refl) refl
leave_run w true (suc rest) behind at locals s e end has = jumps_by w (i.Jump behind) at [] [] locals s behind has.0 refl refl

-- a part with the jump behind it
pub joined_acts : (w : Around) (from until next behind rest : ℕ) (rows : List Handler) (goes : Bool) (inside : Along) (mean : Meaning (Unit {0}))
    → Acts w from until rows until goes inside mean → HasAt w.code.instrs until (leave_code goes rest behind) → until + leave_size goes rest ≡ next → (rest ≡ 0 → until ≡ behind)
    → Acts w from next rows behind goes inside mean
joined_acts w from until next behind rest rows goes inside mean a has e end =
    let high : until ≤ next = omega arith in
    record {
      lie = lie_wider rows from until from next (let l : from ≤ from = omega arith in l) high a.lie;
      comes = a.comes;
      follows = λ covered store s locals within h.
          leads_on (λ store1 s1 locals1 is. leave_run w goes rest behind until locals1 s1 (a.comes store store1 s s1 is) end has)
          (acts_in (embeds_self rows from until next high) a covered store s locals within h);
    }

-- ---- one part behind another

pub no_part : (w : Around) (at : ℕ) → Acts w at at [] at true nothing_within skip
no_part w at = record { lie = tt; comes = λ store store1 s s1 e. refl; follows = λ covered store s locals within h. comes {v = tt} refl refl (tt, h) }

-- along one part and another behind it
abbrev pub along_both : Along → Meaning (Unit {0}) → Along → Along
along_both inside1 first inside2 store s = inside1 store s && where_goes (first store s) (λ z store1 s1. inside2 store1 s1)

abbrev pub in_order : Meaning (Unit {0}) → Meaning (Unit {0}) → Meaning (Unit {0})
in_order first second store s = then_do (first store s) (λ _. second)

-- what has gone through, went through first
pub record WentBy (o : Flow (Unit {0})) (second : Meaning (Unit {0})) (store1 : Store) (s1 : Session) : Type 0 where
  pub store : Store
  pub session : Session
  pub first : o ≡ Goes tt store session
  pub then_second : second store session ≡ Goes tt store1 s1

pub went_by : (o : Flow (Unit {0})) (second : Meaning (Unit {0})) (store1 : Store) (s1 : Session) → then_do o (λ _. second) ≡ Goes tt store1 s1 → WentBy o second store1 s1
went_by (Goes tt store s) second store1 s1 e = record { store = store; session = s; first = refl; then_second = e }
went_by (Raised x store s) second store1 s1 e = absurd (let no : ⊥ = cc in no)
went_by (Exits k store s) second store1 s1 e = absurd (let no : ⊥ = cc in no)
went_by (Returned store s) second store1 s1 e = absurd (let no : ⊥ = cc in no)
went_by (Stops t inner store) second store1 s1 e = absurd (let no : ⊥ = cc in no)
went_by (Gone t) second store1 s1 e = absurd (let no : ⊥ = cc in no)
went_by Bound second store1 s1 e = absurd (let no : ⊥ = cc in no)

pub order_acts : (w : Around) (from mid until behind : ℕ) (a b : List Handler) (first_goes goes : Bool) (inside1 inside2 : Along) (first second : Meaning (Unit {0}))
    → from ≤ mid → mid ≤ until → Acts w from mid a mid first_goes inside1 first → Acts w mid until b behind goes inside2 second
    → Acts w from until (a ++ b) behind goes (along_both inside1 first inside2) (in_order first second)
order_acts w from mid until behind a b first_goes goes inside1 inside2 first second low high p q =
    record {
      lie = lie_both a b from until (lie_wider a from mid from until (let l : from ≤ from = omega arith in l) high p.lie) (lie_wider b mid until from until low (let l : until ≤ until = omega arith in l) q.lie);
      comes = λ store store1 s s1 e.
          let went = went_by (first store s) second store1 s1 e in
          q.comes went.store store1 went.session s1 went.then_second;
      follows = λ covered store s locals within h.
          follows_then_is
          (acts_in (embeds_left a b from mid mid until from until q.lie (let l : from ≤ from = omega arith in l) (let l : mid ≤ mid = omega arith in l) high) p covered store s locals (both_true _ _ within).0 h)
          (λ u store1 s1 locals1 r is.
          acts_in (embeds_right a b mid until from mid from until p.lie low (let l : mid ≤ mid = omega arith in l) (let l : until ≤ until = omega arith in l)) q covered store1 s1 locals1 (there (first store s) (λ z store2 s2. inside2 store2 s2) u store1 s1 (both_true _ _ within).1 is) r.1);
    }

-- a part behind which control never comes
pub alone_acts : (w : Around) (from until behind behind' : ℕ) (rows : List Handler) (inside1 inside2 : Along) (first second : Meaning (Unit {0}))
    → Acts w from until rows behind false inside1 first
    → Acts w from until rows behind' false (along_both inside1 first inside2) (in_order first second)
alone_acts w from until behind behind' rows inside1 inside2 first second p =
    record {
      lie = p.lie;
      comes = λ store store1 s s1 e.
          let went = went_by (first store s) second store1 s1 e in
          p.comes store went.store s went.session went.first;
      follows = λ covered store s locals within h.
          follows_then_is
          (p.follows covered store s locals (both_true _ _ within).0 h)
          (λ u store1 s1 locals1 r is. absurd (let e : false ≡ true = p.comes store store1 s s1 is in let no : ⊥ = cc in no));
    }
