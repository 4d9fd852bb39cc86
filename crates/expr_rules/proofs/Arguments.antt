-- Arguments, their receivers and their number.
use Rattle.std.proofs.Common.{◌≡◌, ◌≢◌, ◌++◌, ℕ, zero, suc, List, [], ◌∷◌, refl, ap, sym, ◌∙◌, append-nil, append_assoc, Option, Some, None, arith, inl, inr}
use Rattle.std.specs.Prelude.{Bool, true, false, ◌&&◌, ◌==◌, not, if◌then◌else◌, map, length, replicate}
use Rattle.std.proofs.lemmas.Bool.Decides.{eqb_tells}
use Rattle.std.proofs.lemmas.List.{length-map}
use Rattle.chill_tree.specs.ExprTree.{ExprTree, ExprNodes, no_exprs, more_exprs, expr_nodes}
use Rattle.modes.specs.ModeTree.{ClassTree}
use Rattle.diagnostics.specs.declared.diagnostic.Diagnostic.{Diagnostic}
use Rattle.checks_model.specs.Ground.{Ground}
use Rattle.checks_model.specs.Classes.{count_exprs}
use Rattle.checks_model.specs.ValueRules.{Receiver, of_mode, each_receiver, told_in, told_in_args, value_told, index_receiver, index_mode}
use Rattle.statement_laws.specs.Steps.{told_in_all}
use Rattle.statement_laws.proofs.Arguments.{args_same, args_none}
use Rattle.expr_rules.specs.Steps.{args_in_index}
use Rattle.expr_rules.proofs.Gates.{none-both}

pub exprs-counted : (es : List ExprTree) → count_exprs (expr_nodes es) ≡ length es
exprs-counted [] = refl
exprs-counted (e ∷ es) = ap suc (exprs-counted es)

pub eq-same : (m n : ℕ) → m ≡ n → (m == n) ≡ true
eq-same m n e = elim (eqb_tells m n) [ inl h ↦ h.0 | inr h ↦ absurd (h.1 e) ]

pub eq-other : (m n : ℕ) → m ≢ n → (m == n) ≡ false
eq-other m n e = elim (eqb_tells m n) [ inl h ↦ absurd (e h.1) | inr h ↦ h.0 ]

pub fit : (rs : List Receiver) (n : ℕ) → length rs ≡ n → each_receiver rs n ≡ rs
fit rs n e = ap (λ (b : Bool). if b then rs else replicate n (of_mode None)) (eq-same (length rs) n e)

pub unfit : (g : Ground) (rs : List Receiver) (es : ExprNodes) → length rs ≢ count_exprs es → told_in_args g (each_receiver rs (count_exprs es)) es ≡ told_in_all g (of_mode None) es
unfit g rs es e = ap (λ (b : Bool). told_in_args g (if b then rs else replicate (count_exprs es) (of_mode None)) es) (eq-other (length rs) (count_exprs es) e) ∙ args_same g (of_mode None) es

two_or_more : (n : ℕ) → suc (suc n) ≢ 1
two_or_more n e = omega arith

-- the indices of something all go to one place
pub index-all : (g : Ground) (es : ExprNodes) (c : Option ClassTree) → args_in_index g es c ≡ told_in_all g (index_receiver c (count_exprs es)) es
index-all g no_exprs c = refl
index-all g (more_exprs e no_exprs) c = refl
index-all g (more_exprs e (more_exprs f es)) c =
    let n = suc (suc (count_exprs es)) in
    let other : index_receiver c n ≡ of_mode None = ap (λ (b : Bool). of_mode (if b then index_mode c else None)) (eq-other n 1 (two_or_more (count_exprs es))) in
    ap (λ (l : List Diagnostic). value_told g (index_receiver c n) e (told_in g (index_receiver c n) e) ++ l) (args_none g (more_exprs f es) ∙ ap (λ (r : Receiver). told_in_all g r (more_exprs f es)) (sym other))

pub ruleset counts = (exprs-counted, length-map)

pub ruleset loops = (none-both, append-nil, append_assoc)

pub ruleset arguments = (fit, unfit, exprs-counted, length-map, args_same)

pub ruleset indices = (index-all, exprs-counted)
