-- The modes that the names of a text stand for have places for their scalars.
use Rattle.std.proofs.Common.{◌≡◌, ◌≤◌, ℕ, Bool, true, false, List, [], ◌∷◌, Option, Some, None, length, true≢false, refl, sym, ap, ◌∙◌, inl, inr, subst, arith, Contains, IsTrue}
use Rattle.std.specs.Prelude.{IfSome, slice_get, option_map, option_and_then}
use Rattle.std.proofs.lemmas.Bool.{cases_lt}
use Rattle.std.proofs.lemmas.Option.{slice_get_past}
use Rattle.names_laws.proofs.Members.{none_in, in_cases}
use Rattle.chill_tree.specs.declared.tree.name.Name.{Name}
use Rattle.chill_tree.specs.ModeTree as written
use Rattle.chill_tree.specs.ItemTree.{ProgramTree}
use Rattle.modes.specs.ModeTree.{ModeTree, named}
use Rattle.text_size.specs.Sizes.{program_size}
use Rattle.checks_model.specs.Ground.{Ground, Origin, Entry, Predefined, of_mode, a_mode, a_predefined, number_at, origin_of, named_mode}
use Rattle.checks_model.specs.Origins.{text_origins, predefined_origins, in_both_cases, origins_of}
use Rattle.checks_model.specs.WrittenModes.{mode_of}
use Rattle.checks_model.specs.Table.{entry_with_counters}
use Rattle.checks_model.specs.Diagnoses.{BreaksNoRule}
use Rattle.constant_operators.specs.Laid.{is_laid}
use Rattle.table_laws.specs.Names.{names_in_mode}
use Rattle.table_laws.specs.Frames.{is_read}
use Rattle.table_laws.specs.OneTable.{AllDone, NeedsDone, NeedsEarlier}
use Rattle.elaborated_laws.proofs.Told.{no_some, same_some, there_mapped}
use Rattle.order_laws.proofs.Selves.{text_order}
use Rattle.written_laws.specs.Written.{Each}
use Rattle.written_laws.proofs.Shown.{each_append, each_flat}
use Rattle.written_laws.proofs.Sets.{each_more}
use Rattle.written_laws.proofs.WrittenSo.{each_predefined, each_there}
use Rattle.program_laws.proofs.Defined.{entry_at}
use Rattle.made_laws.proofs.Laid.{IsNameLaid, AreNamesLaid, mode_laid}
use Rattle.made_laws.proofs.Sizes.{IsNoGreater, in_text}

-- the mode that something is the name of, by its entry, its number and what it is defined by
abbrev LaidBy : Option Entry → Option ℕ → Option Origin → Type 0
LaidBy e k o = (m : ModeTree) → named_mode e k o ≡ Some m → IsTrue (is_laid m)

-- ---- predefined names

abbrev IsLaidPredefined : Predefined → Type 0
IsLaidPredefined (of_mode m) = IsTrue (is_laid m)
IsLaidPredefined p = Unit {0}

abbrev IsLaidOrigin : Origin → Type 0
IsLaidOrigin (a_predefined p) = IsLaidPredefined p
IsLaidOrigin o = Unit {0}

laid_origin : (most : ℕ) (o : Origin) → IsNoGreater most o → IsLaidOrigin o
laid_origin most (a_predefined p) few = absurd few
laid_origin most o few = tt

each_laid : (t : ProgramTree) → Each IsLaidOrigin (origins_of t)
each_laid t =
    each_append IsLaidOrigin (text_origins t) predefined_origins
    (each_more (IsNoGreater (program_size t)) IsLaidOrigin (laid_origin (program_size t)) (text_origins t) (in_text (program_size t) t (let few : program_size t ≤ program_size t = omega arith in few)))
    (each_flat IsLaidPredefined IsLaidOrigin in_both_cases (λ p fits. (fits, (fits, tt))) each_predefined (refl, (refl, (refl, (refl, (tt, (tt, (tt, (tt, (tt, (tt, (tt, (tt, (tt, (tt, (tt, (tt, (tt, (tt, (tt, (tt, (tt, tt))))))))))))))))))))))

predefined_laid : (e : Option Entry) (k : Option ℕ) (p : Predefined) → IsLaidPredefined p → LaidBy e k (Some (a_predefined p))
predefined_laid e None (of_mode own) fits m is = subst (λ (x : ModeTree). IsTrue (is_laid x)) (same_some own m is) fits
predefined_laid e (Some d) (of_mode own) fits m is = subst (λ (x : ModeTree). IsTrue (is_laid x)) (same_some own m is) fits
predefined_laid e None p fits m is = no_some m is
predefined_laid e (Some d) p fits m is = no_some m is

nothing_laid : (e : Option Entry) (k : Option ℕ) → LaidBy e k None
nothing_laid e None m is = no_some m is
nothing_laid e (Some d) m is = no_some m is

module _ (text : List ℕ) (t : ProgramTree) (h : Ground) (has : BreaksNoRule text t h) where
  abbrev IsLaidAt : ℕ → Type 0
  IsLaidAt d = LaidBy (slice_get h.entries d) (Some d) (slice_get h.origins d)

  abbrev AllLaid : List ℕ → Type 0
  AllLaid done = (d : ℕ) → Contains done d → IsLaidAt d

  origin_fits : (d : ℕ) (o : Origin) → slice_get h.origins d ≡ Some o → IsLaidOrigin o
  origin_fits d o at = each_there IsLaidOrigin (origins_of t) d o (each_laid t) (ap (λ (y : Ground). slice_get y.origins d) (sym has.is_ground.names) ∙ at)

  by_number : (k : Option ℕ) → ((d : ℕ) → k ≡ Some d → IsLaidAt d) → LaidBy (option_and_then (slice_get h.entries) k) k (option_and_then (slice_get h.origins) k)
  by_number None laid = nothing_laid None None
  by_number (Some d) laid = laid d refl

  -- what isn't looked up is no mode that the text defines
  unread : (e : Option Entry) (d : ℕ) (o : Option Origin) → is_read o ≡ false → ((x : Origin) → o ≡ Some x → IsLaidOrigin x) → LaidBy e (Some d) o
  unread e d None is fits = nothing_laid e (Some d)
  unread e d (Some (a_predefined p)) is fits = predefined_laid e (Some d) p (fits (a_predefined p) refl)
  unread e d (Some (a_mode novel w)) is fits = absurd (true≢false is)
  unread e d (Some o) is fits = λ m there. no_some m there

  done_laid : (done : List ℕ) (n : Name) → AllLaid done → (is_read (origin_of h n) ≡ true → IfSome (number_at h.uses n.at) (Contains done)) → IsNameLaid h n
  done_laid done n laid there = by_number (number_at h.uses n.at) (λ d at. by d at (is_read (slice_get h.origins d)) refl)
    where
      by : (d : ℕ) → number_at h.uses n.at ≡ Some d → (b : Bool) → is_read (slice_get h.origins d) ≡ b → IsLaidAt d
      by d at true is = laid d (subst (λ k. IfSome k (Contains done)) at (there (ap (λ k. is_read (option_and_then (slice_get h.origins) k)) at ∙ is)))
      by d at false is = unread (slice_get h.entries d) d (slice_get h.origins d) is (origin_fits d)

  names_laid : (done : List ℕ) (ns : List Name) → AllLaid done → AllDone h done ns → AreNamesLaid h ns
  names_laid done [] laid all = tt
  names_laid done (n ∷ ns) laid all = (done_laid done n laid all.0, names_laid done ns laid all.1)

  by_origin : (done : List ℕ) (d : ℕ) (o : Option Origin) → AllLaid done → ((x : Origin) → o ≡ Some x → IsLaidOrigin x) → NeedsDone h done o → LaidBy (option_map (entry_with_counters h) o) (Some d) o
  by_origin done d None laid fits needs = nothing_laid None (Some d)
  by_origin done d (Some (a_mode novel w)) laid fits needs = λ m is.
      let there = there_mapped (named d novel) (mode_of h true w) m is in
      subst (λ (x : ModeTree). IsTrue (is_laid x)) there.2 (mode_laid h true w there.0 (names_laid done (names_in_mode w) laid needs) there.1)
  by_origin done d (Some (a_predefined p)) laid fits needs = predefined_laid (Some (entry_with_counters h (a_predefined p))) (Some d) p (fits (a_predefined p) refl)
  by_origin done d (Some o) laid fits needs = λ m is. no_some m is

  number_laid : (done : List ℕ) (d : ℕ) → AllLaid done → NeedsDone h done (slice_get h.origins d) → IsLaidAt d
  number_laid done d laid needs = by (slice_get h.origins d) refl
    where
      by : (o : Option Origin) → slice_get h.origins d ≡ o → IsLaidAt d
      by None at = subst (LaidBy (slice_get h.entries d) (Some d)) (sym at) (nothing_laid (slice_get h.entries d) (Some d))
      by (Some o) at =
          let needs_o : NeedsDone h done (Some o) = subst (NeedsDone h done) at needs in
          let made = by_origin done d (Some o) laid (λ x is. subst IsLaidOrigin (same_some o x is) (origin_fits d o at)) needs_o in
          subst (LaidBy (slice_get h.entries d) (Some d)) (sym at) (subst (λ e. LaidBy e (Some d) (Some o)) (sym (entry_at text t h has d o at)) made)

  one_more : (done : List ℕ) (d : ℕ) → IsLaidAt d → AllLaid done → AllLaid (d ∷ done)
  one_more done d at_d laid e among = elim (in_cases d done e among) [
    | inl is ↦ subst IsLaidAt is at_d
    | inr there ↦ laid e there
  ]

  along : (done order : List ℕ) → AllLaid done → NeedsEarlier h done order → (d : ℕ) → Contains order d → IsLaidAt d
  along done [] laid earlier d c = absurd (none_in d c)
  along done (e ∷ order) laid earlier d c =
      let at_e = number_laid done e laid earlier.0 in
      elim (in_cases e order d c) [
        | inl is ↦ subst IsLaidAt is at_e
        | inr there ↦ along (e ∷ done) order (one_more done e at_e laid) earlier.1 d there
      ]

  any_number : (d : ℕ) → IsLaidAt d
  any_number d =
      let order = text_order text t h has.has_modes.has_names has.is_ground.names in
      elim (cases_lt d (length h.origins)) [
        | inl less ↦ along [] order.0 (λ e c. absurd (none_in e c)) order.1.earlier d (order.1.all d less)
        | inr past ↦ subst (LaidBy (slice_get h.entries d) (Some d)) (sym (slice_get_past h.origins d past)) (nothing_laid (slice_get h.entries d) (Some d))
      ]

  name_laid : (n : Name) → IsNameLaid h n
  name_laid n = by_number (number_at h.uses n.at) (λ d at. any_number d)

  all_laid : (ns : List Name) → AreNamesLaid h ns
  all_laid [] = tt
  all_laid (n ∷ ns) = (name_laid n, all_laid ns)

  -- the mode that the text writes has places
  pub written_laid : (whole : Bool) (w : written.ModeTree) (m : ModeTree) → mode_of h whole w ≡ Some m → IsTrue (is_laid m)
  written_laid whole w m is = mode_laid h whole w m (all_laid (names_in_mode w)) is
