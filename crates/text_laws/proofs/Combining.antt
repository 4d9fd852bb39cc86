-- Handlers, labels, regions and loops over parts that ask what fits.
use Rattle.std.proofs.Common.{ℕ, zero, suc, ◌<◌, Bool, true, false, Option, Some, None}
use Rattle.std.specs.Prelude.{if◌then◌else◌}
use Rattle.kernel_base.specs.declared.ends.Exc.{Exc}
use Rattle.kernel_base.specs.declared.request.Request.TheVariants.{Enter, Leave}
use Rattle.world_model.specs.Session.{Session}
use Rattle.source_meaning.specs.Store.{Store}
use Rattle.source_meaning.specs.Flow.{Flow, Goes, Raised, Exits, Returned, Stops, Gone, Bound, Meaning, then_do, done}
use Rattle.source_meaning.specs.ExprMeaning.{Setting}
use Rattle.source_meaning.specs.StatementMeaning.{turn_or_end, turns, ends_exit, labelled_as, then_leave, is_open, opened, at_region, caught}
use Rattle.text_laws.proofs.Stages.{Whole, Fits, Here, Comes, ComesBy, Any, goes, raises, bind, earlier, does, ticked}

abbrev pub TestFits : {C : Type 0} → (C → Type 0) → Option C → Type 0
TestFits Inv None = Unit {0}
TestFits Inv (Some c) = Inv c

module _ (g : Whole) (S : Store → Type 0) where
  caught_by : (s : Session) (o : Flow (Unit {0})) (h : Exc → Meaning (Unit {0})) → ComesBy g S s Any o → ((x : Exc) (store : Store) (s1 : Session) → Here g S store s1 → Comes g S s1 Any (h x store s1)) → ComesBy g S s Any (caught o h)
  caught_by s (Goes v store s1) h c k = c
  caught_by s (Raised x store s1) h c k = (earlier g S s s1 Any (h x store s1) c.1 (k x store s1 c.0)).by
  caught_by s (Exits n store s1) h c k = c
  caught_by s (Returned store s1) h c k = c
  caught_by s (Stops t inner store) h c k = c
  caught_by s (Gone t) h c k = c
  caught_by s Bound h c k = c

  pub catches : {s : Session} {o : Flow (Unit {0})} {h : Exc → Meaning (Unit {0})} → Comes g S s Any o → ((x : Exc) (store : Store) (s1 : Session) → Here g S store s1 → Comes g S s1 Any (h x store s1)) → Comes g S s Any (caught o h)
  catches {s = s} {o = o} {h = h} c k = record { by = caught_by s o h c.by k }

  exit_by : (s : Session) (o : Flow (Unit {0})) → ComesBy g S s Any o → ComesBy g S s Any (ends_exit o)
  exit_by s (Goes v store s1) c = c
  exit_by s (Raised x store s1) c = c
  exit_by s (Exits zero store s1) c = (c.0, λ f. (c.1 f, tt))
  exit_by s (Exits (suc k) store s1) c = c
  exit_by s (Returned store s1) c = c
  exit_by s (Stops t inner store) c = c
  exit_by s (Gone t) c = c
  exit_by s Bound c = c

  pub labels : (labelled : Bool) (s : Session) (o : Flow (Unit {0})) → Comes g S s Any o → Comes g S s Any (labelled_as labelled o)
  labels false s o c = c
  labels true s o c = record { by = exit_by s o c.by }

  leave_by : (r : ℕ) (s : Session) (o : Flow (Unit {0})) → r < g.program.regions → ComesBy g S s Any o → ComesBy g S s Any (then_leave r o)
  leave_by r s (Goes v store s1) low c = (earlier g S s s1 Any (done (Leave r) store s1) (λ f. (c.1 f).0) (does g S (Leave r) store s1 c.0 (λ f. low) tt)).by
  leave_by r s (Raised x store s1) low c = (earlier g S s s1 Any (then_do (done (Leave r) store s1) (λ _. Raised x)) c.1 (bind g S Any (does g S (Leave r) store s1 c.0 (λ f. low) tt) (λ v store2 s2 h q. raises g S h))).by
  leave_by r s (Exits k store s1) low c = c
  leave_by r s (Returned store s1) low c = c
  leave_by r s (Stops t inner store) low c = c
  leave_by r s (Gone t) low c = c
  leave_by r s Bound low c = c

  pub region_asks : (r : ℕ) (w : Setting) (inside : Setting → Meaning (Unit {0})) (store : Store) (s : Session) → Here g S store s → r < g.program.regions → ((store1 : Store) (s1 : Session) → Here g S store1 s1 → Comes g S s1 Any (inside w store1 s1)) → ((store1 : Store) (s1 : Session) → Here g S store1 s1 → Comes g S s1 Any (inside (opened w r) store1 s1)) → Comes g S s Any (at_region (Some r) w inside store s)
  region_asks r w inside store s h low outside each = region_by (is_open r w.open_now)
    where
      region_by : (now : Bool) → Comes g S s Any (if now then inside w store s else then_do (done (Enter r) store s) (λ _ store1 s1. then_leave r (inside (opened w r) store1 s1)))
      region_by true = outside store s h
      region_by false = bind g S Any (does g S (Enter r) store s h (λ f. low) tt) (λ v store1 s1 h1 q. record { by = leave_by r s1 (inside (opened w r) store1 s1) low (each store1 s1 h1).by })

  -- ---- loops

  turn_asks : {C : Type 0} (Inv : C → Type 0) (o : Option C) (body : Meaning (Unit {0})) (again : C → Meaning (Unit {0})) (store : Store) (s : Session) → Here g S store s → (Fits g s → TestFits Inv o) → ((store1 : Store) (s1 : Session) → Here g S store1 s1 → Comes g S s1 Any (body store1 s1)) → ((c : C) (store1 : Store) (s1 : Session) → Here g S store1 s1 → (Fits g s1 → Inv c) → Comes g S s1 Any (again c store1 s1)) → Comes g S s Any (turn_or_end o body again store s)
  turn_asks Inv None body again store s h i b k = goes g S h (λ f. tt)
  turn_asks Inv (Some c) body again store s h i b k =
      bind g S Any (b store s h) (λ v store1 s1 h1 q. ticked g S Any store1 s1 (λ s2. again c store1 s2) h1 (λ s2 h2 back. k c store1 s2 h2 (λ f. i (q (back f)).0)))

  pub turns_ask : {C : Type 0} (Inv : C → Type 0) (n : ℕ) (test : C → Meaning (Option C)) (body : Meaning (Unit {0})) → ((c : C) (store : Store) (s : Session) → Here g S store s → (Fits g s → Inv c) → Comes g S s (TestFits Inv) (test c store s)) → ((store : Store) (s : Session) → Here g S store s → Comes g S s Any (body store s)) → (c : C) (store : Store) (s : Session) → Here g S store s → (Fits g s → Inv c) → Comes g S s Any (turns n test body c store s)
  turns_ask Inv zero test body t b c store s h i = record { by = tt }
  turns_ask Inv (suc n) test body t b c store s h i =
      bind g S (TestFits Inv) (t c store s h i) (λ o store1 s1 h1 q. turn_asks Inv o body (turns n test body) store1 s1 h1 (λ f. (q f).1) b (turns_ask Inv n test body t b))
