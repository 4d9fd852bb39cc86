-- What depends on what, one mention and one parameter after the other.
use Rattle.std.proofs.Common.{◌≡◌, ℕ, ◌+◌, ◌<◌, ◌≤◌, List, [], ◌∷◌, ◌++◌, refl, ap, sym, ◌∙◌, append-nil, append_assoc, length, get_or, drop, drop-cons, add-one}
use Rattle.std.proofs.lemmas.List.{at_drop_all}
use Rattle.cycles.specs.declared.group.Group.{Group}
use Rattle.names_model.specs.declared.definition.Definition.{Definition}
use Rattle.names_model.specs.declared.part.Mention.{Mention}
use Rattle.names_model.specs.declared.part.Mention.TheVariants.{Use, Argument, Element}
use Rattle.names_model.specs.declared.part.Clause.{Clause}
use Rattle.names_model.specs.Seeing.{Reach, sees}
use Rattle.names_model.specs.Sizes.{clause_size, clauses_size}
use Rattle.names_model.specs.Dependence.{clause_group, named_in, param_groups}
use Rattle.reach_walk.specs.SameGroups.{SameGroups}
use Rattle.reach_walk.proofs.Joining.{groups-as, groups-behind, groups-trans}

named-cons : (text : List Definition) (r : Reach) (m : Mention) (ms : List Mention) → named_in text r (m ∷ ms) ≡ named_in text r (m ∷ []) ++ named_in text r ms
named-cons text r (Use n need) ms = ap (λ x. x ++ named_in text r ms) (sym (append-nil (sees text r n.spelling)))
named-cons text r (Argument n callee) ms = ap (λ x. x ++ named_in text r ms) (sym (append-nil (sees text r n.spelling)))
named-cons text r (Element n) ms = refl

-- a step of the loop over mentions
pub named-on : (text : List Definition) (r : Reach) (ms : List Mention) (i : ℕ) (m : Mention) (out out' whole : List ℕ) → i < length ms → m ≡ get_or ms i m
    → out ++ named_in text r (drop i ms) ≡ whole → out' ≡ out ++ named_in text r (m ∷ []) → out' ++ named_in text r (drop (i + 1) ms) ≡ whole
named-on text r ms i m out out' whole h is before added = rw added (append_assoc out (named_in text r (m ∷ [])) (named_in text r (drop (i + 1) ms)) ∙ ap (λ x. out ++ x) (sym (ap (named_in text r) rest ∙ named-cons text r m (drop (i + 1) ms))) ∙ before)
  where
    rest : drop i ms ≡ m ∷ drop (i + 1) ms
    rest = rw (add-one, drop-cons ms i m h, ← is) refl

pub named-end : (text : List Definition) (r : Reach) (ms : List Mention) (i : ℕ) (out whole : List ℕ) → length ms ≤ i → out ++ named_in text r (drop i ms) ≡ whole → out ≡ whole
named-end text r ms i out whole h before = sym (append-nil out) ∙ ap (λ x. out ++ x) (sym (at_drop_all (named_in text r) ms i h)) ∙ before

clauses-at : (cs : List Clause) (i : ℕ) (c : Clause) → i < length cs → c ≡ get_or cs i c → drop i cs ≡ c ∷ drop (i + 1) cs
clauses-at cs i c h is = rw (add-one, drop-cons cs i c h, ← is) refl

pub clauses_size-at : (cs : List Clause) (i : ℕ) (c : Clause) → i < length cs → c ≡ get_or cs i c → clauses_size (drop i cs) ≡ clause_size c + clauses_size (drop (i + 1) cs)
clauses_size-at cs i c h is = ap clauses_size (clauses-at cs i c h is)

-- a step of the loop over parameters
pub params-on : (text : List Definition) (r : Reach) (cs : List Clause) (i next next' : ℕ) (c : Clause) (out out' whole : List Group) → i < length cs → c ≡ get_or cs i c → next' ≡ next + clause_size c
    → SameGroups (out ++ param_groups text r next (drop i cs)) whole → SameGroups out' (out ++ clause_group text r next c ∷ []) → SameGroups (out' ++ param_groups text r next' (drop (i + 1) cs)) whole
params-on text r cs i next next' c out out' whole h is step before added =
    let rest = param_groups text r (next + clause_size c) (drop (i + 1) cs) in
    rw step (groups-trans (out' ++ rest) (out ++ param_groups text r next (drop i cs)) whole
    (groups-trans (out' ++ rest) ((out ++ clause_group text r next c ∷ []) ++ rest) (out ++ param_groups text r next (drop i cs))
    (groups-behind out' (out ++ clause_group text r next c ∷ []) rest added)
    (groups-as _ _ (append_assoc out (clause_group text r next c ∷ []) rest ∙ ap (λ x. out ++ x) (sym (ap (param_groups text r next) (clauses-at cs i c h is))))))
    before)

-- no parameter is left
pub params-end : (text : List Definition) (r : Reach) (cs : List Clause) (i next : ℕ) (out whole : List Group) → length cs ≤ i → SameGroups (out ++ param_groups text r next (drop i cs)) whole → SameGroups out whole
params-end text r cs i next out whole h before = groups-trans out (out ++ param_groups text r next (drop i cs)) whole
    (groups-as _ _ (sym (append-nil out) ∙ ap (λ x. out ++ x) (sym (at_drop_all (param_groups text r next) cs i h)))) before
