-- Nodes that are put one after the other.
use Rattle.std.proofs.Common.{◌≡◌, ◌<◌, ◌≤◌, ◌+◌, ◌⊎◌, inl, inr, ℕ, zero, suc, Bool, true, false, List, [], ◌∷◌, ◌++◌, length, take, get_or, set, replicate, refl, sym, ap, subst, ◌∙◌, arith, length-append}
use Rattle.std.specs.Prelude.{slice_index_or}
use Rattle.std.specs.List.{All, Contains}
use Rattle.std.proofs.lemmas.List.{take_more}
use Rattle.std.proofs.lemmas.List.Elements.{Contains-push, Contains-append_left, Contains-push_cases, All-contains}
use Rattle.graph_order.specs.Needs.{needs_of, AreInside, NeedsBefore, IsCircle, HasCircle}
use Rattle.graph_order.specs.Placing.{Places, with_node, IsStuck, WasThere, WasPut, Waits, Stepped, Rounded, AreSorted, AreStuck, AddedOne, AreAdded}
use Rattle.graph_order.proofs.Members.{none_in, here_in, later_in, in_cases, all_of, not_empty}

-- ---- one more at the end

pub before_more : (needs : List (List ℕ)) (done ds : List ℕ) (d : ℕ) → NeedsBefore needs done ds → ((e : ℕ) → Contains (needs_of needs d) e → Contains done e ⊎ Contains ds e) → NeedsBefore needs done (ds ++ d ∷ [])
before_more needs done [] d behind all =
    (all_of (Contains done) (needs_of needs d) (λ e c. elim (all e c) [ inl a ↦ a | inr b ↦ absurd (none_in e b) ]), tt)
before_more needs done (x ∷ ds) d behind all = (
  behind.0,
  before_more needs (x ∷ done) ds d behind.1 (λ e c. elim (all e c) [
    | inl a ↦ inl (later_in x done e a)
    | inr b ↦ elim (in_cases x ds e b) [ inl is ↦ inl (here_in x done e is) | inr there ↦ inr there ]
  ]),
)

-- ---- a round

pub rounded_none : (needs : List (List ℕ)) (p : Places) → Rounded needs p p [] []
rounded_none needs p = record {
  count = refl;
  behind = λ b. b;
  kept = λ d c. c;
  each = λ d c. absurd (none_in d c);
  from = λ d c. absurd (none_in d c);
  less = omega arith;
  stuck = λ e. (refl, λ d c. absurd (none_in d c));
}

there_more : (needs : List (List ℕ)) (p q : Places) (nodes later : List ℕ) (d : ℕ) → Rounded needs p q nodes later → Contains q.order d → Rounded needs p q (nodes ++ d ∷ []) later
there_more needs p q nodes later d h there = record {
  count = h.count;
  behind = h.behind;
  kept = h.kept;
  each = λ e c. elim (Contains-push_cases nodes d e c) [ inl was ↦ h.each e was | inr same ↦ inl (subst (Contains q.order) same there) ];
  from = λ e c. Contains-append_left nodes (d ∷ []) e (h.from e c);
  less = omega (arith, h.less, length-append nodes (d ∷ []));
  stuck = λ e. absurd (omega (arith, e, h.less, length-append nodes (d ∷ [])));
}

put_more : (needs : List (List ℕ)) (p q : Places) (nodes later : List ℕ) (d : ℕ) → Rounded needs p q nodes later → All (Contains q.order) (needs_of needs d) → Rounded needs p (with_node q d) (nodes ++ d ∷ []) later
put_more needs p q nodes later d h all = record {
  count = h.count;
  behind = λ b. before_more needs [] q.order d (h.behind b) (λ e c. inr (All-contains (Contains q.order) (needs_of needs d) e all c));
  kept = λ e c. Contains-append_left q.order (d ∷ []) e (h.kept e c);
  each = λ e c. elim (Contains-push_cases nodes d e c) [
    | inl was ↦ elim (h.each e was) [ inl a ↦ inl (Contains-append_left q.order (d ∷ []) e a) | inr b ↦ inr b ]
    | inr same ↦ inl (subst (Contains (q.order ++ d ∷ [])) same (Contains-push q.order d))
  ];
  from = λ e c. Contains-append_left nodes (d ∷ []) e (h.from e c);
  less = omega (arith, h.less, length-append nodes (d ∷ []));
  stuck = λ e. absurd (omega (arith, e, h.less, length-append nodes (d ∷ [])));
}

wait_more : (needs : List (List ℕ)) (p q : Places) (nodes later : List ℕ) (d : ℕ) → Rounded needs p q nodes later → IsStuck needs q.order d → Rounded needs p q (nodes ++ d ∷ []) (later ++ d ∷ [])
wait_more needs p q nodes later d h stuck = record {
  count = h.count;
  behind = h.behind;
  kept = h.kept;
  each = λ e c. elim (Contains-push_cases nodes d e c) [
    | inl was ↦ elim (h.each e was) [ inl a ↦ inl a | inr b ↦ inr (Contains-append_left later (d ∷ []) e b) ]
    | inr same ↦ inr (subst (Contains (later ++ d ∷ [])) same (Contains-push later d))
  ];
  from = λ e c. elim (Contains-push_cases later d e c) [
    | inl was ↦ Contains-append_left nodes (d ∷ []) e (h.from e was)
    | inr same ↦ subst (Contains (nodes ++ d ∷ [])) same (Contains-push nodes d)
  ];
  less = omega (arith, h.less, length-append nodes (d ∷ []), length-append later (d ∷ []));
  stuck = λ e. by (h.stuck (omega (arith, e, length-append nodes (d ∷ []), length-append later (d ∷ []))));
}
  where
    by : (q ≡ p) × ((k : ℕ) → Contains nodes k → IsStuck needs p.order k) → (q ≡ p) × ((k : ℕ) → Contains (nodes ++ d ∷ []) k → IsStuck needs p.order k)
    by st = (
      st.0,
      λ k c. elim (Contains-push_cases nodes d k c) [
        | inl was ↦ st.1 k was
        | inr same ↦ subst (IsStuck needs p.order) same (subst (λ (x : Places). IsStuck needs x.order d) st.0 stuck)
      ],
    )

pub rounded_more : (needs : List (List ℕ)) (p q r : Places) (nodes later after : List ℕ) (d : ℕ) → Rounded needs p q nodes later → Stepped needs q r later after d → Rounded needs p r (nodes ++ d ∷ []) after
rounded_more needs p q r nodes later after d h (inl w) =
    subst (λ (x : Places). Rounded needs p x (nodes ++ d ∷ []) after) (sym w.placed) (subst (Rounded needs p q (nodes ++ d ∷ [])) (sym w.waiting) (there_more needs p q nodes later d h w.there))
rounded_more needs p q r nodes later after d h (inr (inl w)) =
    subst (λ (x : Places). Rounded needs p x (nodes ++ d ∷ []) after) (sym w.placed) (subst (Rounded needs p (with_node q d) (nodes ++ d ∷ [])) (sym w.waiting) (put_more needs p q nodes later d h w.done))
rounded_more needs p q r nodes later after d h (inr (inr w)) =
    subst (λ (x : Places). Rounded needs p x (nodes ++ d ∷ []) after) (sym w.placed) (subst (Rounded needs p q (nodes ++ d ∷ [])) (sym w.waiting) (wait_more needs p q nodes later d h w.stuck))

pub rounded_step : (needs : List (List ℕ)) (p q r : Places) (nodes later after : List ℕ) (i : ℕ) → i < length nodes → Rounded needs p q (take i nodes) later → Stepped needs q r later after (get_or nodes i 0) → Rounded needs p r (take (i + 1) nodes) after
rounded_step needs p q r nodes later after i less h step = subst (λ (ns : List ℕ). Rounded needs p r ns after) (sym (take_more nodes i 0 less)) (rounded_more needs p q r (take i nodes) later after (get_or nodes i 0) h step)

-- ---- rounds

pub all_below : (needs : List (List ℕ)) (p : Places) (waiting : List ℕ) → AreSorted needs p waiting → All (λ d. d < p.count) waiting
all_below needs p waiting s = all_of (λ d. d < p.count) waiting (λ d c. let less = s.below d c in let same = s.count in omega (arith, less, same))

pub sorted_more : (needs : List (List ℕ)) (p q : Places) (waiting later : List ℕ) → AreSorted needs p waiting → Rounded needs p q waiting later → AreSorted needs q later
sorted_more needs p q waiting later s h = record {
  count = h.count ∙ s.count;
  behind = h.behind s.behind;
  each = λ d less. elim (s.each d less) [ inl a ↦ inl (h.kept d a) | inr b ↦ h.each d b ];
  below = λ d c. s.below d (h.from d c);
}

pub stuck_at_end : (needs : List (List ℕ)) (p q : Places) (waiting later : List ℕ) → AreSorted needs p waiting → Rounded needs p q waiting later → length later ≡ length waiting → AreStuck needs q later
stuck_at_end needs p q waiting later s h same = record {
  sorted = sorted_more needs p q waiting later s h;
  stuck = λ d c. let st = h.stuck same in subst (λ (x : Places). IsStuck needs x.order d) (sym st.0) (st.1 d (h.from d c));
}

pub sorted_first : (needs : List (List ℕ)) (nodes : List ℕ) → All (λ d. d < length needs) nodes → ((d : ℕ) → d < length needs → Contains nodes d) → AreSorted needs (record { count = length needs; order = [] }) nodes
sorted_first needs nodes below each = record {
  count = refl;
  behind = tt;
  each = λ d less. inr (each d less);
  below = λ d c. All-contains (λ d. d < length needs) nodes d below c;
}

-- ---- the rest

pub added_none : (p : Places) → AreAdded p p []
added_none p = record { count = refl; kept = λ d c. c; each = λ d c. absurd (none_in d c); none = λ e. refl }

pub added_there : (p q : Places) (nodes : List ℕ) (d : ℕ) → AreAdded p q nodes → Contains q.order d → AreAdded p q (nodes ++ d ∷ [])
added_there p q nodes d h there = record {
  count = h.count;
  kept = h.kept;
  each = λ e c. elim (Contains-push_cases nodes d e c) [ inl was ↦ h.each e was | inr same ↦ subst (Contains q.order) same there ];
  none = λ e. absurd (not_empty nodes d e);
}

pub added_put : (p q : Places) (nodes : List ℕ) (d : ℕ) → AreAdded p q nodes → AreAdded p (with_node q d) (nodes ++ d ∷ [])
added_put p q nodes d h = record {
  count = h.count;
  kept = λ e c. Contains-append_left q.order (d ∷ []) e (h.kept e c);
  each = λ e c. elim (Contains-push_cases nodes d e c) [
    | inl was ↦ Contains-append_left q.order (d ∷ []) e (h.each e was)
    | inr same ↦ subst (Contains (q.order ++ d ∷ [])) same (Contains-push q.order d)
  ];
  none = λ e. absurd (not_empty nodes d e);
}

pub added_step : (p q r : Places) (nodes : List ℕ) (i : ℕ) → i < length nodes → AreAdded p q (take i nodes) → AddedOne q r (get_or nodes i 0) → AreAdded p r (take (i + 1) nodes)
added_step p q r nodes i less h one = subst (λ (ns : List ℕ). AreAdded p r ns) (sym (take_more nodes i 0 less)) (by one)
  where
    by : AddedOne q r (get_or nodes i 0) → AreAdded p r (take i nodes ++ get_or nodes i 0 ∷ [])
    by (inl there) = subst (λ (x : Places). AreAdded p x (take i nodes ++ get_or nodes i 0 ∷ [])) (sym there.0) (added_there p q (take i nodes) (get_or nodes i 0) h there.1)
    by (inr put) = subst (λ (x : Places). AreAdded p x (take i nodes ++ get_or nodes i 0 ∷ [])) (sym put) (added_put p q (take i nodes) (get_or nodes i 0) h)

-- ---- all

circle : (needs : List (List ℕ)) (p : Places) (x : ℕ) (rest : List ℕ) → AreInside needs → AreStuck needs p (x ∷ rest) → IsCircle needs (x ∷ rest)
circle needs p x rest inside h = record {
  some = λ e. cc;
  below = h.sorted.below;
  each = λ d c. let s = h.stuck d c in (s.0, (s.1.0, elim (h.sorted.each s.0 (inside d s.0 s.1.0)) [ inl a ↦ absurd (s.1.1 a) | inr b ↦ b ]));
}

pub all_put : (needs : List (List ℕ)) (p q : Places) (rest : List ℕ) → AreStuck needs p rest → AreAdded p q rest → (d : ℕ) → d < length needs → Contains q.order d
all_put needs p q rest h added d less = elim (h.sorted.each d less) [ inl a ↦ added.kept d a | inr b ↦ added.each d b ]

pub behind_or_circle : (needs : List (List ℕ)) (p q : Places) (rest : List ℕ) → AreInside needs → AreStuck needs p rest → AreAdded p q rest → NeedsBefore needs [] q.order ⊎ HasCircle needs
behind_or_circle needs p q [] inside h added = inl (subst (λ (x : Places). NeedsBefore needs [] x.order) (sym (added.none refl)) h.sorted.behind)
behind_or_circle needs p q (x ∷ rest) inside h added = inr (x ∷ rest, circle needs p x rest inside h)
