-- What processes meet at is found number by number.
use Rattle.std.proofs.Common.{◌≡◌, ℕ, ◌+◌, ◌<◌, ◌≤◌, List, [], ◌∷◌, ◌++◌, length, get_or, drop, append_assoc, length-append, add-one, Option, Some, None, Bor, refl, sym, ap, ◌∙◌}
use Rattle.std.specs.Prelude.{slice_get, option_map, IfSome, MatchOption}
use Rattle.std.proofs.lemmas.Option.{slice_get_past, slice_get_read}
use Rattle.std.proofs.lemmas.List.{drop_more}
use Rattle.definition_origins.specs.declared.origin.Origin.{Origin}
use Rattle.constant_operators.specs.declared.evaluation.Entry.{Entry}
use Rattle.met_names.specs.declared.meeting.Meeting.{Meeting}
use Rattle.process_checks.specs.MetByNumber.{used_as, used_from}

pub used_step : (es : List Entry) (found : List (Option Meeting)) (o : Origin) (os : List Origin)
    → (found ++ used_as o (slice_get es (length found)) ∷ []) ++ used_from es (length (found ++ used_as o (slice_get es (length found)) ∷ [])) os ≡ found ++ used_from es (length found) (o ∷ os)
used_step es found o os =
    let met = used_as o (slice_get es (length found)) in
    append_assoc found (met ∷ []) (used_from es (length (found ++ met ∷ [])) os)
    ∙ ap (λ n. found ++ (met ∷ used_from es n os)) (length-append found (met ∷ []) ∙ add-one (length found))

pub one_more_found : (es : List Entry) (os : List Origin) (k : ℕ) (o : Origin) (found next : List (Option Meeting)) (met : Option Meeting) (whole : List (Option Meeting)) → k < length os → o ≡ get_or os k o
    → met ≡ used_as o (slice_get es (length found)) → next ≡ found ++ met ∷ [] → found ++ used_from es (length found) (drop k os) ≡ whole → next ++ used_from es (length next) (drop (k + 1) os) ≡ whole
one_more_found es os k o found next met whole less there is more so_far =
    let split : drop k os ≡ o ∷ drop (k + 1) os = drop_more os k o less ∙ ap (λ x. x ∷ drop (k + 1) os) (sym there) in
    ap (λ fs. fs ++ used_from es (length fs) (drop (k + 1) os)) (more ∙ ap (λ m. found ++ m ∷ []) is)
    ∙ used_step es found o (drop (k + 1) os)
    ∙ sym (ap (λ xs. found ++ used_from es (length found) xs) split)
    ∙ so_far

-- what is got at a place of a list
pub got_known : (Q : Bor Entry → Type 0) (known : Option (Bor Entry)) (es : List Entry) (i : ℕ) → IfSome known (λ x. x.now ≡ get_or es i x.now) → MatchOption known (length es ≤ i) (λ x. (i < length es) × Q x) → option_map (λ k. k.now) known ≡ slice_get es i
got_known Q None es i is there = sym (slice_get_past es i there)
got_known Q (Some x) es i is there = sym (slice_get_read es (length es) i x.now refl there.0 is)
