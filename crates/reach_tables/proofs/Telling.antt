-- N1 is told once for numbers of one name that stand together.
use Rattle.std.proofs.Common.{◌≡◌, ℕ, ◌+◌, ◌<◌, ◌≤◌, Bool, true, false, List, [], ◌∷◌, ◌++◌, Option, Some, None, inl, inr, append-nil, append_assoc, refl, ap, sym, ◌∙◌, subst, length, get_or, drop, drop-cons, add-one, if◌then◌else◌}
use Rattle.std.specs.Prelude.{flat_map, not, ◌==◌}
use Rattle.std.specs.Str.{bytes_eq}
use Rattle.std.proofs.lemmas.List.{at_drop_all}
use Rattle.std.proofs.lemmas.Slice.Eq.{bytes_eq-Decides}
use Rattle.chill_base.specs.declared.pos.Pos.{Pos}
use Rattle.diagnostics.specs.declared.rule.Rule.TheVariants as rules
use Rattle.diagnostics.specs.declared.diagnostic.Diagnostic.{Diagnostic}
use Rattle.diagnostics.specs.Listing.{IsIn, SameMembers}
use Rattle.names_model.specs.declared.definition.Definition.{Definition}
use Rattle.names_model.specs.Definitions.{spelling_at}
use Rattle.names_model.specs.declared.entry.Entry.{Entry}
use Rattle.names_model.specs.Entries.{numbers_of}
use Rattle.names_model.specs.NameRules.{clashes, tell, told_number}
use Rattle.reach_tables.specs.Held.{Holdings, held}
use Rattle.reach_tables.specs.Scopes.{Holds}
use Rattle.reach_tables.specs.Tellings.{IsTold, Tells, is_another_among, is_last}
use Rattle.reach_tables.proofs.Within.{any-had}
use Rattle.reach_tables.proofs.Members.{same-as, same-behind, same-there, same-trans, in-right}

-- the name is told already
again : (b : Bool) (x y : Diagnostic) (old : List Diagnostic) → IsIn y old → y ≡ x → (z : Diagnostic) → IsIn z (if b then x ∷ [] else []) → IsIn z old
again true x y old h e z (inl k) = subst (λ w. IsIn w old) (e ∙ sym k) h
again true x y old h e z (inr k) = absurd k
again false x y old h e z k = absurd k

pub tells-again : (all : List Definition) (at : Pos) (known : List ℕ) (d : ℕ) (old : List Diagnostic) (last : Option ℕ) → IsTold all at old last → is_last all last d ≡ true → Tells all at known d old old last
tells-again all at known d old None h is = cc
tells-again all at known d old (Some e) h is = record {
  last = h;
  told = same-there old (told_number all known at d) (again (clashes all known d) (tell at rules.N1 (spelling_at all d)) (tell at rules.N1 (spelling_at all e)) old h (ap (tell at rules.N1) ((bytes_eq-Decides (spelling_at all e) (spelling_at all d)).0 is)));
}

-- there is nothing to tell
pub tells-nothing : (all : List Definition) (at : Pos) (known : List ℕ) (d : ℕ) (old : List Diagnostic) (last : Option ℕ) → IsTold all at old last → clashes all known d ≡ false → Tells all at known d old old last
tells-nothing all at known d old last h none = record {
  last = h;
  told = same-as old (old ++ told_number all known at d) (sym (append-nil old) ∙ ap (λ b. old ++ (if b then tell at rules.N1 (spelling_at all d) ∷ [] else [])) (sym none));
}

-- it is told
pub tells-first : (all : List Definition) (at : Pos) (known : List ℕ) (d : ℕ) (old new : List Diagnostic) → clashes all known d ≡ true → new ≡ old ++ tell at rules.N1 (spelling_at all d) ∷ [] → Tells all at known d old new (Some d)
tells-first all at known d old new other is = record {
  last = subst (IsIn (tell at rules.N1 (spelling_at all d))) (sym is) (in-right (tell at rules.N1 (spelling_at all d)) old (tell at rules.N1 (spelling_at all d) ∷ []) (inl refl));
  told = same-as new (old ++ told_number all known at d) (is ∙ ap (λ b. old ++ (if b then tell at rules.N1 (spelling_at all d) ∷ [] else [])) (sym other));
}

-- a step of a loop that tells of each
pub told-on : {X : Type 0} (f : ℕ → List X) (ds : List ℕ) (i : ℕ) (out out' whole : List X) → i < length ds → SameMembers (out ++ flat_map f (drop i ds)) whole → SameMembers out' (out ++ f (get_or ds i 0)) → SameMembers (out' ++ flat_map f (drop (i + 1) ds)) whole
told-on f ds i out out' whole h before more = same-trans (out' ++ flat_map f (drop (i + 1) ds)) (out ++ flat_map f (drop i ds)) whole
    (subst (λ zs. SameMembers (out' ++ flat_map f (drop (i + 1) ds)) zs) (append_assoc out (f (get_or ds i 0)) (flat_map f (drop (i + 1) ds)) ∙ ap (λ r. out ++ flat_map f r) (sym rest)) (same-behind out' (out ++ f (get_or ds i 0)) (flat_map f (drop (i + 1) ds)) more)) before
  where
    rest : drop i ds ≡ get_or ds i 0 ∷ drop (i + 1) ds
    rest = rw (add-one, drop-cons ds i 0 h) refl

pub told-end : {X Y : Type 0} (f : Y → List X) (ds : List Y) (i : ℕ) (out whole : List X) → length ds ≤ i → SameMembers (out ++ flat_map f (drop i ds)) whole → SameMembers out whole
told-end f ds i out whole h before = subst (λ zs. SameMembers zs whole) (ap (λ r. out ++ r) (at_drop_all (flat_map f) ds i h) ∙ append-nil out) before

-- a number clashes where its name's list in the table has another
pub clash-by : (t : Holdings) (all : List Definition) (es : List Entry) (n : List ℕ) (d : ℕ) → Holds t all es → n ≡ spelling_at all d → clashes all (numbers_of es) d ≡ is_another_among d (held t n)
clash-by t all es n d h is = sym (ap (λ m. is_another_among d (held t m)) is ∙ ap (is_another_among d) (h.by (spelling_at all d))
    ∙ any-had (λ e. bytes_eq (spelling_at all e) (spelling_at all d)) (λ e. not (e == d)) (numbers_of es))
