-- The tokens of a list, of names and of what may be left out are so at other places too.
use Rattle.std.proofs.Common.{◌≡◌, ℕ, Bool, List, [], ◌∷◌, ◌++◌, map, Option, Some, None, refl, ◌∙◌, sym}
use Rattle.std.specs.Prelude.{option_map}
use Rattle.std.proofs.lemmas.Option.{none-some}
use Rattle.chill_tree.specs.declared.token.Word.{Word}
use Rattle.chill_tree.specs.declared.tree.name.Name.{Name}
use Rattle.chill_tree.specs.ExprTree.{ExprTree}
use Rattle.rules_model.specs.Marks.{Toks, name_token}
use Rattle.rules_model.specs.ListGrammar.{AreListed, one_of, and_of, IsName, is_name, AreNames, IsClause, no_clause, with_clause, IsFlag, no_flag, with_flag, IsLength, no_length, with_length, IsLabel, no_label, with_label, IsClosing, left_open, closed_by}
use Rattle.tree_print.specs.SameTree.{unplaced_name, unplaced_expr}
use Rattle.tree_print.proofs.SameTokens.{Places, placed, name_before, Again, Stays, and_same}
use Rattle.tree_print.proofs.SameTokensExpr.{same_ranked}

pub same_listed : {X : Type 0} {Is : X → Toks → Toks → Type 0} (unplaced : X → X) (f : Places) → Stays Is unplaced f → {xs : List X} {toks rest : Toks} → AreListed Is xs toks rest → Again (AreListed Is) (map unplaced) f xs toks rest
same_listed unplaced f stays (one_of d) = let x = stays _ _ _ d in record { tree = x.tree ∷ []; is = one_of x.is; same = λ i. x.same i ∷ [] }
same_listed unplaced f stays (and_of {xs = xs} {x = x} l d) =
    let ys = same_listed unplaced f stays l in
    let y = stays _ _ _ d in
    record { tree = ys.tree ++ y.tree ∷ []; is = and_of ys.is y.is; same = and_same unplaced xs ys.tree x y.tree ys.same y.same }

pub same_name : (f : Places) → Stays IsName unplaced_name f
same_name f x toks m (is_name {n = n} {rest = rest}) = record { tree = name_before f rest n; is = is_name; same = refl }

pub same_names : {ns : List Name} {toks rest : Toks} → AreNames ns toks rest → (f : Places) → Again AreNames (map unplaced_name) f ns toks rest
same_names d f = same_listed unplaced_name f (same_name f) d

pub same_clause : {X : Type 0} {w : Word} {Is : X → Toks → Toks → Type 0} (unplaced : X → X) (f : Places) → Stays Is unplaced f → {x : Option X} {toks rest : Toks} → IsClause w Is x toks rest → Again (IsClause w Is) (option_map unplaced) f x toks rest
same_clause unplaced f stays no_clause = record { tree = None; is = no_clause; same = refl }
same_clause unplaced f stays (with_clause d) = let x = stays _ _ _ d in record { tree = Some x.tree; is = with_clause x.is; same = λ i. Some (x.same i) }

pub same_flag : {w : Word} {b : Bool} {toks rest : Toks} → IsFlag w b toks rest → (f : Places) → IsFlag w b (placed f toks) (placed f rest)
same_flag no_flag f = no_flag
same_flag with_flag f = with_flag

pub same_length : {l : Option ExprTree} {toks rest : Toks} → IsLength l toks rest → (f : Places) → Again IsLength (option_map unplaced_expr) f l toks rest
same_length no_length f = record { tree = None; is = no_length; same = refl }
same_length (with_length d) f = let x = same_ranked d f in record { tree = Some x.tree; is = with_length x.is; same = λ i. Some (x.same i) }

pub same_label : {l : Option Name} {toks rest : Toks} → IsLabel l toks rest → (f : Places) → Again IsLabel (option_map unplaced_name) f l toks rest
same_label no_label f = record { tree = None; is = no_label; same = refl }
same_label (with_label {n = n}) f = record { tree = Some (record { at = _; text = n.text }); is = with_label; same = refl }

-- the text of a name, where there is one
abbrev text_in : Option Name → Option (List ℕ)
text_in = option_map (λ n. n.text)

text_unplaced : (l : Option Name) → text_in (option_map unplaced_name l) ≡ text_in l
text_unplaced None = refl
text_unplaced (Some n) = refl

closing_again : (n : Name) (f : Places) (rest : Toks) (ts : List ℕ) (l : Option Name) → n.text ≡ ts → Some ts ≡ text_in l → Again (IsClosing l) (option_map unplaced_name) f (Some n) (name_token n ∷ rest) rest
closing_again n f rest ts None e h = absurd (none-some ts (sym h))
closing_again n f rest ts (Some x) e h = let again : n.text ≡ x.text = cc in record { tree = Some (name_before f rest n); is = closed_by again; same = refl }

-- the label may stand at another place too
pub same_closing : {l c : Option Name} {toks rest : Toks} → IsClosing l c toks rest → (f : Places) (m : Option Name) → option_map unplaced_name l ≡ option_map unplaced_name m → Again (IsClosing m) (option_map unplaced_name) f c toks rest
same_closing left_open f m e = record { tree = None; is = left_open; same = refl }
same_closing (closed_by {label = label} {n = n} {rest = rest} h) f m e = closing_again n f rest label.text m h (sym (text_unplaced (Some label)) ∙ (λ i. text_in (e i)) ∙ text_unplaced m)
