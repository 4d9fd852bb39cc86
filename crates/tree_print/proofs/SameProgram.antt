-- A canonical text has the tree of the text that it was written from, but for places.
use Rattle.std.proofs.Common.{◌≡◌, ap, ℕ, zero, suc, List, [], ◌∷◌, Option, None, refl, sym, ◌∙◌, subst}
use Rattle.std.proofs.lemmas.Option.{none-some}
use Rattle.chill_base.specs.declared.pos.Pos.{Pos}
use Rattle.chill_tree.specs.ItemTree.{ProgramTree}
use Rattle.std.specs.Prelude.{◌↔◌}
use Rattle.rules_model.specs.Diagnoses.{IsShort, HasTree}
use Rattle.rules_model.specs.Marks.{Toks}
use Rattle.rules_model.specs.Nesting.{room_after, deep_or, first_deep}
use Rattle.rules_model.specs.TokensCut.{AreTokensOf}
use Rattle.rules_model.proofs.OneTree.{one_tree_lem}
use Rattle.rules_model.proofs.TokensLaws.{one_list}
use Rattle.tree_print.specs.SameTree.{IsSameTree}
use Rattle.tree_print.proofs.SameItemTokens.{same_tree_tokens}
use Rattle.tree_print.specs.Canonical.{token_kinds, canonical_text}
use Rattle.tree_print.specs.SameProgram.{program_text, HasSameTree}
use Rattle.tree_print.proofs.ReadBack.{read_back}
use Rattle.tree_print.proofs.SameTokensProgram.{first_kind, other_kinds, no_kinds, read_again}
use Rattle.tree_print.proofs.TreeTokensItem.{tokens_are}

none_deep : (n : ℕ) (p q : Pos) (o r : Option Pos) → (o ≡ None → r ≡ None) → deep_or n p o ≡ None → deep_or n q r ≡ None
none_deep zero p q o r h e = absurd (none-some p (sym e))
none_deep (suc n) p q o r h e = h e

-- tokens of the same kinds nest as deep
shallow_again : (n : ℕ) (toks others : Toks) → token_kinds others ≡ token_kinds toks → first_deep n toks ≡ None → first_deep n others ≡ None
shallow_again n [] [] e h = refl
shallow_again n [] (u ∷ others) e h = absurd (no_kinds u.kind (token_kinds others) (sym e))
shallow_again n (t ∷ toks) [] e h = refl
shallow_again n (t ∷ toks) (u ∷ others) e h =
    let kind = first_kind u.kind t.kind (token_kinds others) (token_kinds toks) e in
    let behind = other_kinds u.kind t.kind (token_kinds others) (token_kinds toks) e in
    rw kind (none_deep (room_after t.kind n) t.at u.at (first_deep (room_after t.kind n) toks) (first_deep (room_after t.kind n) others) (shallow_again (room_after t.kind n) toks others behind) h)

pub written_program : (text : List ℕ) (x : ProgramTree) → HasTree text x → IsShort (program_text x) → HasSameTree (program_text x) x
written_program text x has short =
    let kinds = tokens_are has.tree_of in
    let back = read_back text has.tokens has.are in
    let again = read_again has.tree_of back.tokens back.same in
    record {
      tree = again.0;
      has = record { tokens = back.tokens; short = short; are = subst (λ ks. AreTokensOf (canonical_text ks) back.tokens) kinds back.read; shallow = shallow_again 65 has.tokens back.tokens back.same has.shallow; tree_of = again.1 };
      same = again.2;
    }

-- what is written of tokens tells their kinds
written_kinds : (text other : List ℕ) (tokens others : Toks) → AreTokensOf text tokens → AreTokensOf other others → canonical_text (token_kinds tokens) ≡ canonical_text (token_kinds others) → token_kinds others ≡ token_kinds tokens
written_kinds text other tokens others are are_other e =
    let back = read_back text tokens are in
    let back_other = read_back other others are_other in
    let again : AreTokensOf (canonical_text (token_kinds others)) back.tokens = subst (λ t. AreTokensOf t back.tokens) e back.read in
    sym back_other.same ∙ ap token_kinds (sym (one_list (canonical_text (token_kinds others)) back.tokens back_other.tokens again back_other.read)) ∙ back.same

same_from_text : (text other : List ℕ) (x y : ProgramTree) → HasTree text x → HasTree other y → program_text x ≡ program_text y → IsSameTree x y
same_from_text text other x y has has_other e =
    let written = ap canonical_text (tokens_are has.tree_of) ∙ e ∙ sym (ap canonical_text (tokens_are has_other.tree_of)) in
    let again = read_again has.tree_of has_other.tokens (written_kinds text other has.tokens has_other.tokens has.are has_other.are written) in
    subst (λ z. IsSameTree x z) (one_tree_lem has_other.tokens again.0 y again.1 has_other.tree_of) again.2

pub same_text : (text other : List ℕ) (x y : ProgramTree) → HasTree text x → HasTree other y → IsSameTree x y ↔ (program_text x ≡ program_text y)
same_text text other x y has has_other = ((λ e. ap canonical_text (same_tree_tokens x y e)), same_from_text text other x y has has_other)
