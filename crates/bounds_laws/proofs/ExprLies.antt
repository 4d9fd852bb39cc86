-- Each value along an expression lies in its own bounds.
use Rattle.std.proofs.Common.{◌≡◌, ℕ, suc, ◌+◌, true, List, [], ◌∷◌, Option, Some, inl, inr, refl, sym, ap, ◌∙◌, subst, arith}
use Rattle.std.specs.Prelude.{ℤ, nat_abs, slice_get, IsTrue}
use Rattle.kernel_base.specs.declared.request.Request.TheVariants.{Start}
use Rattle.modes.specs.declared.mode.Bounds.{Bounds}
use Rattle.modes.specs.ModeTree.{ModeTree}
use Rattle.modes.specs.Bounds.{bounds_of, values_of}
use Rattle.modes.specs.Form.{form_of}
use Rattle.modes.specs.Similar.{shape_of}
use Rattle.modes.specs.Language.{parts_fit, IsOfLanguage}
use Rattle.checked_program.specs.declared.program.Sort.TheVariants.{Procedure}
use Rattle.program_trees.specs.ExprTree.{ExprTree, expr, OperationTree, constant, own_instance, contents, part_of, receive, start, call, powerset as powerset_tuple, parts, uniform, routine, get_int, prefixed, binary, ReceivedTree, received, ReceivedNodes, no_received, more_received, PartNodes, no_parts, field, element, RangeNodes, no_ranges, one_member, members, LocationTree, location, StartTree, started, CallTree, called, ArgumentNodes, no_arguments, in_argument, out_argument, inout_argument}
use Rattle.program_trees.specs.ProgramTree.{LocalRowTree, BodyRowTree}
use Rattle.world_model.specs.Session.{Session}
use Rattle.source_meaning.specs.Store.{Store, Taken}
use Rattle.source_meaning.specs.Operators.{sole_number, offset_within, with_span, empty_within, binary_value, takes_second, prefix_value, routine_value}
use Rattle.source_meaning.specs.ExprMeaning.{Calls, Setting, takens, expr_mean, operation_mean, received_mean, all_received_mean, offset_mean, location_mean, members_mean, start_mean, call_mean, arguments_mean, place_mean}
use Rattle.source_meaning.specs.Values.{IsValueOf}
use Rattle.source_meaning.specs.TypedValues.{HasMode, OperationHas, IsTakenBy, AllHave, PartsLead, RangesHave, LocationHas, IsTypedStart, IsTypedCall, ArgumentsFit}
use Rattle.text_laws.proofs.Taking.{form_fits}
use Rattle.text_laws.proofs.Stores.{StoreFits, TakensFit, RowsFit, row_fits, ValuesFit, values_fit}
use Rattle.text_laws.proofs.Stages.{Whole, Fits, Here, Any}
use Rattle.text_laws.proofs.ExprAsks.{context_in, Stands, PassedFit, PlaceFits, ModesFit, ranges, passes, reads, expr_asks, operation_asks, received_asks, arguments_ask, place_asks, elements_taken, fields_taken, structure_form, array_form, parameters_taken, behind_first, rows_typed, base_fits, element_fits, parts_lead, passed_takens}
use Rattle.text_laws.proofs.Taking.{field_fits}
use Rattle.text_laws.proofs.Growing.{same_goes, then_grows}
use Rattle.text_laws.proofs.GrowingExpressions.{CallsExtend, Sides, value_grows, all_copied_grow, computed_grows, rangefail_grows, tested_grows, read_grows, call_grows, binary_grows, expr_grows, all_received_grow, offset_grows, members_grow, arguments_grow}
use Rattle.text_laws.proofs.GrowingTalks.{nothing_more}
use Rattle.code_laws.specs.OwnBounds.{expr_within, operation_within, received_within, all_within, parts_within, location_within, members_within, start_within, call_within, arguments_within, copies_within}
use Rattle.code_laws.specs.StatementBounds.{OpenCallsWithin}
use Rattle.bounds_laws.proofs.Outcomes.{IsOver, and_holds, either_lies, first_over, at_its_end, where_through, joins}
use Rattle.bounds_laws.proofs.OwnValues.{constant_lies, mode_lies, root_lies, where_lies, int_lies}

-- what calls do lies in its own bounds
pub record CallsLie (g : Whole) (S : Store → Type 0) (calls : List ℕ → Calls) (c : OpenCallsWithin) : Type 0 where
  pub each : (open_now : List ℕ) (b : ℕ) (body : BodyRowTree) (ts : List Taken) (store : Store) (s : Session)
      → slice_get g.program.bodies b ≡ Some body → body.sort ≡ Procedure → Here g S store s → (Fits g s → TakensFit body.locals 0 ts)
      → IsOver g (calls open_now b ts store s) → c open_now b ts s ≡ true

-- where a part of a text stands
pub record Lies (g : Whole) (w : Setting) (result : Option ModeTree) (c : OpenCallsWithin) : Type 0 where
  pub stands : Stands g w result
  pub keeps : CallsExtend nothing_more w.calls w.calls
  pub calls : CallsLie g (StoreFits w.rows result) w.calls c

abbrev pub sides : (w : Setting) → CallsExtend nothing_more w.calls w.calls → ℕ → Sides nothing_more
sides w k n = record { setting = w; calls = w.calls; grow = k; turns = n; looked = n; below = omega arith }

module _ (g : Whole) (w : Setting) (result : Option ModeTree) (region : Option ℕ) (c : OpenCallsWithin) (lies : Lies g w result c) where
  location_fits : (l : LocationTree) (own : ModeTree) → LocationHas (context_in g w region) l own → IsTrue (parts_fit own)
  location_fits (location b ps n) own t = parts_lead (context_in g w region) ps t.0 own (base_fits g w lies.stands.rows region b t.0 t.1) t.2

  copies_lie : (as' : ArgumentNodes) (b : BodyRowTree) (k : ℕ) (ls : List (List ℤ)) → RowsFit b.locals → ArgumentsFit (context_in g w region) as' b k → ValuesFit b.locals k ls → copies_within as' ls ≡ true
  copies_lie no_arguments b k ls rf t v = refl
  copies_lie (in_argument r as') b k [] rf t v = refl
  copies_lie (in_argument r as') b k (xs ∷ ls) rf t v = copies_lie as' b (suc k) ls rf t.3 v.1
  copies_lie (out_argument l bounds as') b k [] rf t v = refl
  copies_lie (out_argument l bounds as') b k (xs ∷ ls) rf t v =
      let row : LocalRowTree = t.1.1.0 in
      let own : ModeTree = t.2.0 in
      let shapes : shape_of row.mode ≡ shape_of own = ap shape_of t.1.1.2 ∙ sym t.2.2.similar.shape in
      and_holds (int_lies row.mode own bounds xs (row_fits b.locals k row rf t.1.1.1).1 (location_fits l own t.2.1) shapes t.2.3 (v.0 row t.1.1.1)) (copies_lie as' b (suc k) ls rf t.3 v.1)
  copies_lie (inout_argument l taken bounds as') b k [] rf t v = refl
  copies_lie (inout_argument l taken bounds as') b k (xs ∷ ls) rf t v =
      let row : LocalRowTree = t.1.1.0 in
      and_holds (where_lies bounds taken xs (mode_lies row.mode taken xs (ap bounds_of t.1.1.2 ∙ t.2) (v.0 row t.1.1.1))) (copies_lie as' b (suc k) ls rf t.4 v.1)

  mutual
    pub expr_lies : (e : ExprTree) (m : ModeTree) (store : Store) (s : Session) → Here g (StoreFits w.rows result) store s → HasMode (context_in g w region) e m → IsOver g (expr_mean w e store s) → expr_within w (c w.open_now) e store s ≡ true
    expr_lies (expr n own (constant xs)) m store s h t f = constant_lies xs
    expr_lies (expr n own o) m store s h t f =
        and_holds (operation_lies n o m store s h t.0 t.3 f)
        (at_its_end g (StoreFits w.rows result) (IsValueOf m) (operation_asks g w result region lies.stands n o m store s h t.0 t.1 t.3) f (λ xs store1 s1 h1 f1 v. root_lies m own xs t.0.parts t.2 v))

    operation_lies : (n : ℕ) (o : OperationTree) (m : ModeTree) (store : Store) (s : Session) → Here g (StoreFits w.rows result) store s → IsOfLanguage m → OperationHas (context_in g w region) o m → IsOver g (operation_mean w n o store s) → operation_within w (c w.open_now) n o store s ≡ true
    operation_lies n (constant xs) m store s h l t f = refl
    operation_lies n own_instance m store s h l t f = refl
    operation_lies n (contents place) m store s h l t f = location_lies place m store s h t (first_over (λ address. read_grows n address) f)
    operation_lies n (part_of (expr j root_j o) ps) m store s h l t f =
        let of : ModeTree = t.0 in
        let lo : IsOfLanguage of = t.1.0 in
        joins g (StoreFits w.rows result) (IsValueOf of) (expr_asks g w result region lies.stands (expr j root_j o) of store s h t.1) (λ xs. then_grows (offset_grows (sides w lies.keeps 0) ps 0) (λ k. same_goes)) f
        (λ f1. expr_lies (expr j root_j o) of store s h t.1 f1)
        (λ xs store1 s1 h1 b f1 v f2. parts_lie ps of m 0 store1 s1 h1 lo.parts t.2 (first_over (λ k. same_goes) f2))
    operation_lies n (receive b) m store s h l t f = refl
    operation_lies n (start st) m store s h l t f = start_lies st store s h t.1 f
    operation_lies n (call ct) m store s h l t f = call_lies ct (Some m) store s h t f
    operation_lies n (powerset_tuple b rs) m store s h l t f = members_lie b rs t.0 (empty_within b) store s h t.3 f
    operation_lies n (parts rs) m store s h l (inl a) f =
        let form = array_form (form_of m) a.0 a.1 (bounds_of m) a.2 in
        let u = elements_taken (context_in g w region) rs (values_of a.0) a.1 (form.1 (form_fits m l.parts)) a.3 in
        all_lie rs u.modes store s h u.fit u.have f
    operation_lies n (parts rs) m store s h l (inr a) f =
        let form = structure_form (form_of m) a.0 (bounds_of m) a.1 in
        let u = fields_taken (context_in g w region) rs a.0 (form.1 (form_fits m l.parts)) a.2 in
        all_lie rs u.modes store s h u.fit u.have f
    operation_lies n (uniform j r) m store s h l t f = received_lies r t.1 store s h t.4 (first_over (λ xs. same_goes) f)
    operation_lies n (routine r e) m store s h l t f = expr_lies e t.0 store s h t.1 (first_over (λ xs. computed_grows (routine_value r xs)) f)
    operation_lies n get_int m store s h l t f = refl
    operation_lies n (prefixed r e) m store s h l t f = expr_lies e t.0 store s h t.1 (first_over (λ xs. computed_grows (prefix_value r xs)) f)
    operation_lies n (binary o a b) m store s h l t f =
        joins g (StoreFits w.rows result) (IsValueOf t.0) (expr_asks g w result region lies.stands a t.0 store s h t.2) (λ xs. binary_grows o xs (expr_grows (sides w lies.keeps 0) b)) f
        (λ f1. expr_lies a t.0 store s h t.2 f1)
        (λ xs store1 s1 h1 back f1 v f2. either_lies (takes_second o xs) f2 (λ f3. expr_lies b t.1 store1 s1 h1 t.3 (first_over (λ ys. computed_grows (binary_value o xs ys)) f3)) (λ f3. refl))

    pub received_lies : (r : ReceivedTree) (m : ModeTree) (store : Store) (s : Session) → Here g (StoreFits w.rows result) store s → IsTakenBy (context_in g w region) r m → IsOver g (received_mean w r store s) → received_within w (c w.open_now) r store s ≡ true
    received_lies (received e bounds) m store s h t f = expr_lies e t.0.0 store s h t.0.1 (first_over (λ xs. tested_grows bounds xs) f)

    pub all_lie : (rs : ReceivedNodes) (ms : List ModeTree) (store : Store) (s : Session) → Here g (StoreFits w.rows result) store s → ModesFit ms → AllHave (context_in g w region) rs ms → IsOver g (all_received_mean w rs store s) → all_within w (c w.open_now) rs store s ≡ true
    all_lie no_received ms store s h p t f = refl
    all_lie (more_received r rs) ms store s h p t f =
        let fit : IsTrue (parts_fit t.0) × ModesFit t.1 = subst ModesFit t.2 p in
        joins g (StoreFits w.rows result) (IsValueOf t.0) (received_asks g w result region lies.stands r t.0 store s h fit.0 t.3) (λ xs. then_grows (all_received_grow (sides w lies.keeps 0) rs) (λ ys. same_goes)) f
        (λ f1. received_lies r t.0 store s h t.3 f1)
        (λ xs store1 s1 h1 b f1 v f2. all_lie rs t.1 store1 s1 h1 fit.1 t.4 (first_over (λ ys. same_goes) f2))

    parts_lie : (ps : PartNodes) (of m : ModeTree) (k : ℕ) (store : Store) (s : Session) → Here g (StoreFits w.rows result) store s → IsTrue (parts_fit of) → PartsLead (context_in g w region) ps of m → IsOver g (offset_mean w ps k store s) → parts_within w (c w.open_now) ps store s ≡ true
    parts_lie no_parts of m k store s h p t f = refl
    parts_lie (field first count ps) of m k store s h p t f =
        let form = structure_form (form_of of) t.0 (bounds_of of) t.2 in
        parts_lie ps t.1 m (k + first) store s h (field_fits t.0 0 first t.1 (form.1 (form_fits of p)) t.3) t.5 f
    parts_lie (element e b count ps) of m k store s h p t f =
        joins g (StoreFits w.rows result) (IsValueOf t.3.0) (expr_asks g w result region lies.stands e t.3.0 store s h t.3.1)
        (λ xs. then_grows (rangefail_grows (offset_within b count (sole_number xs))) (λ z. offset_grows (sides w lies.keeps 0) ps (k + nat_abs z))) f
        (λ f1. expr_lies e t.3.0 store s h t.3.1 f1)
        (λ xs store1 s1 h1 b1 f1 v f2.
        where_through g (StoreFits w.rows result) Any (ranges g w result region lies.stands Any (offset_within b count (sole_number xs)) store1 s1 h1 (λ z e. tt)) (λ z. offset_grows (sides w lies.keeps 0) ps (k + nat_abs z)) f2
        (λ z store2 s2 h2 b2 f3 u f4. parts_lie ps t.1 m (k + nat_abs z) store2 s2 h2 (element_fits (form_of of) b t.0 t.1 (form_fits of p) t.2) t.5 f4))

    pub location_lies : (l : LocationTree) (m : ModeTree) (store : Store) (s : Session) → Here g (StoreFits w.rows result) store s → LocationHas (context_in g w region) l m → IsOver g (location_mean w l store s) → location_within w (c w.open_now) l store s ≡ true
    location_lies (location b ps n) m store s h t f =
        parts_lie ps t.0 m 0 store s h (base_fits g w lies.stands.rows region b t.0 t.1) t.2 (first_over (λ k. same_goes) f)

    place_lies : (l : LocationTree) (m : ModeTree) (bounds : Option Bounds) (store : Store) (s : Session) → Here g (StoreFits w.rows result) store s → LocationHas (context_in g w region) l m → IsOver g (place_mean w l bounds store s) → location_within w (c w.open_now) l store s ≡ true
    place_lies (location b ps n) m bounds store s h t f =
        parts_lie ps t.0 m 0 store s h (base_fits g w lies.stands.rows region b t.0 t.1) t.2 (first_over (λ k. same_goes) f)

    members_lie : (b : Bounds) (rs : RangeNodes) (e : ModeTree) (set : List ℤ) (store : Store) (s : Session) → Here g (StoreFits w.rows result) store s → RangesHave (context_in g w region) rs e → IsOver g (members_mean w b rs set store s) → members_within w (c w.open_now) b rs store s ≡ true
    members_lie b no_ranges e set store s h t f = refl
    members_lie b (one_member a rs) e set store s h t f =
        joins g (StoreFits w.rows result) (IsValueOf t.0.0) (expr_asks g w result region lies.stands a t.0.0 store s h t.0.1)
        (λ xs. then_grows (rangefail_grows (offset_within b 1 (sole_number xs))) (λ k. members_grow (sides w lies.keeps 0) b rs (with_span b k k set))) f
        (λ f1. expr_lies a t.0.0 store s h t.0.1 f1)
        (λ xs store1 s1 h1 b1 f1 v f2.
        where_through g (StoreFits w.rows result) Any (ranges g w result region lies.stands Any (offset_within b 1 (sole_number xs)) store1 s1 h1 (λ z q. tt)) (λ k. members_grow (sides w lies.keeps 0) b rs (with_span b k k set)) f2
        (λ k store2 s2 h2 b2 f3 u f4. members_lie b rs e (with_span b k k set) store2 s2 h2 t.1 f4))
    members_lie b (members a q rs) e set store s h t f =
        joins g (StoreFits w.rows result) (IsValueOf t.0.0) (expr_asks g w result region lies.stands a t.0.0 store s h t.0.1)
        (λ xs. then_grows (rangefail_grows (offset_within b 1 (sole_number xs))) (λ j.
        then_grows (expr_grows (sides w lies.keeps 0) q) (λ ys.
        then_grows (rangefail_grows (offset_within b 1 (sole_number ys))) (λ k. members_grow (sides w lies.keeps 0) b rs (with_span b j k set))))) f
        (λ f1. expr_lies a t.0.0 store s h t.0.1 f1)
        (λ xs store1 s1 h1 b1 f1 v f2.
        where_through g (StoreFits w.rows result) Any (ranges g w result region lies.stands Any (offset_within b 1 (sole_number xs)) store1 s1 h1 (λ z y. tt))
        (λ j. then_grows (expr_grows (sides w lies.keeps 0) q) (λ ys. then_grows (rangefail_grows (offset_within b 1 (sole_number ys))) (λ k. members_grow (sides w lies.keeps 0) b rs (with_span b j k set)))) f2
        (λ j store2 s2 h2 b2 f3 u f4.
        joins g (StoreFits w.rows result) (IsValueOf t.1.0) (expr_asks g w result region lies.stands q t.1.0 store2 s2 h2 t.1.1)
        (λ ys. then_grows (rangefail_grows (offset_within b 1 (sole_number ys))) (λ k. members_grow (sides w lies.keeps 0) b rs (with_span b j k set))) f4
        (λ f5. expr_lies q t.1.0 store2 s2 h2 t.1.1 f5)
        (λ ys store3 s3 h3 b3 f5 d f6.
        where_through g (StoreFits w.rows result) Any (ranges g w result region lies.stands Any (offset_within b 1 (sole_number ys)) store3 s3 h3 (λ z y. tt)) (λ k. members_grow (sides w lies.keeps 0) b rs (with_span b j k set)) f6
        (λ k store4 s4 h4 b4 f7 d1 f8. members_lie b rs e (with_span b j k set) store4 s4 h4 t.2 f8))))

    pub start_lies : (st : StartTree) (store : Store) (s : Session) → Here g (StoreFits w.rows result) store s → IsTypedStart (context_in g w region) st → IsOver g (start_mean w st store s) → start_within w (c w.open_now) st store s ≡ true
    start_lies (started process rs) store s h t f =
        let b : BodyRowTree = t.0 in
        let u = parameters_taken (context_in g w region) rs b 0 b.locals b.parameters (rows_typed g.program g.typed process b t.1) (behind_first b) t.3 in
        all_lie rs u.modes store s h u.fit u.have (first_over (λ xs. value_grows (Start process xs) []) f)

    pub call_lies : (ct : CallTree) (res : Option ModeTree) (store : Store) (s : Session) → Here g (StoreFits w.rows result) store s → IsTypedCall (context_in g w region) ct res → IsOver g (call_mean w ct store s) → call_within w (c w.open_now) ct store s ≡ true
    call_lies (called b as') res store s h t f =
        let body : BodyRowTree = t.0 in
        let rf : RowsFit body.locals = rows_typed g.program g.typed b body t.1 in
        joins g (StoreFits w.rows result) (PassedFit (context_in g w region) body.locals 0) (arguments_ask g w result region lies.stands as' body 0 store s h rf t.5) (λ ps. call_grows (sides w lies.keeps 0) b ps) f
        (λ f1. arguments_lie as' body 0 store s h rf t.5 f1)
        (λ ps store1 s1 h1 b1 f1 v f2.
        let fit : Fits g s1 → TakensFit body.locals 0 (takens ps) = λ q. passed_takens (context_in g w region) body.locals 0 ps v in
        let over : IsOver g (w.calls w.open_now b (takens ps) store1 s1) = first_over (λ final. then_grows (all_copied_grow ps final.locals) (λ u. same_goes)) f2 in
        and_holds (lies.calls.each w.open_now b body (takens ps) store1 s1 t.1 t.2 h1 fit over)
        (at_its_end g (StoreFits w.rows result) (StoreFits body.locals body.result) (lies.stands.calls.each w.open_now b body (takens ps) store1 s1 t.1 t.2 h1 fit) over
        (λ final store2 s2 h2 f3 q. copies_lie as' body 0 final.locals rf t.5 (values_fit body.locals final.locals q.locals))))

    arguments_lie : (as' : ArgumentNodes) (b : BodyRowTree) (k : ℕ) (store : Store) (s : Session) → Here g (StoreFits w.rows result) store s → RowsFit b.locals → ArgumentsFit (context_in g w region) as' b k → IsOver g (arguments_mean w as' store s) → arguments_within w (c w.open_now) as' store s ≡ true
    arguments_lie no_arguments b k store s h rf t f = refl
    arguments_lie (in_argument r as') b k store s h rf t f =
        let row : LocalRowTree = t.1.1.0 in
        let fit : IsTrue (parts_fit row.mode) = (row_fits b.locals k row rf t.1.1.1).1 in
        let taken : IsTakenBy (context_in g w region) r row.mode = subst (λ (x : ModeTree). IsTakenBy (context_in g w region) r x) (sym t.1.1.2) t.2 in
        joins g (StoreFits w.rows result) (IsValueOf row.mode) (received_asks g w result region lies.stands r row.mode store s h fit taken) (λ xs. then_grows (arguments_grow (sides w lies.keeps 0) as') (λ ps. same_goes)) f
        (λ f1. received_lies r row.mode store s h taken f1)
        (λ xs store1 s1 h1 b1 f1 v f2. arguments_lie as' b (suc k) store1 s1 h1 rf t.3 (first_over (λ ps. same_goes) f2))
    arguments_lie (out_argument l bounds as') b k store s h rf t f =
        let own : ModeTree = t.2.0 in
        joins g (StoreFits w.rows result) (PlaceFits (context_in g w region) own bounds) (place_asks g w result region lies.stands l own bounds store s h t.2.1) (λ place. then_grows (arguments_grow (sides w lies.keeps 0) as') (λ ps. same_goes)) f
        (λ f1. place_lies l own bounds store s h t.2.1 f1)
        (λ place store1 s1 h1 b1 f1 v f2. arguments_lie as' b (suc k) store1 s1 h1 rf t.3 (first_over (λ ps. same_goes) f2))
    arguments_lie (inout_argument l taken bounds as') b k store s h rf t f =
        let own : ModeTree = t.3.0 in
        joins g (StoreFits w.rows result) (PlaceFits (context_in g w region) own bounds) (place_asks g w result region lies.stands l own bounds store s h t.3.1)
        (λ place. then_grows (read_grows place.count place.address) (λ xs. then_grows (tested_grows taken xs) (λ ys. then_grows (arguments_grow (sides w lies.keeps 0) as') (λ ps. same_goes)))) f
        (λ f1. place_lies l own bounds store s h t.3.1 f1)
        (λ place store1 s1 h1 b1 f1 q f2.
        where_through g (StoreFits w.rows result) (IsValueOf own) (reads g w result region lies.stands own place.count place.address store1 s1 h1 (λ f3. (q.address, q.count)))
        (λ xs. then_grows (tested_grows taken xs) (λ ys. then_grows (arguments_grow (sides w lies.keeps 0) as') (λ ps. same_goes))) f2
        (λ xs store2 s2 h2 b2 f3 u f4.
        and_holds (where_lies taken bounds xs (mode_lies own bounds xs t.3.3 u))
        (where_through g (StoreFits w.rows result) Any (passes g w result region lies.stands Any taken xs store2 s2 h2 (λ test f5. tt)) (λ ys. then_grows (arguments_grow (sides w lies.keeps 0) as') (λ ps. same_goes)) f4
        (λ ys store3 s3 h3 b3 f5 d f6. arguments_lie as' b (suc k) store3 s3 h3 rf t.4 (first_over (λ ps. same_goes) f6)))))
