-- Lists of parts, one turn after the other.
use Rattle.std.proofs.Common.{◌≡◌, ℕ, ◌+◌, ◌<◌, ◌≤◌, Bool, List, [], ◌++◌, None, true, false, refl, ap, sym, ◌∙◌, length, get_or, drop, append_assoc}
use Rattle.std.specs.Prelude.{◌&&◌}
use Rattle.std.proofs.lemmas.List.{append-nil, at_drop_more, at_drop_all}
use Rattle.chill_tree.specs.declared.tree.expr.Expr.{Expr}
use Rattle.chill_tree.specs.declared.tree.expr.ValueRange.{ValueRange}
use Rattle.chill_tree.specs.ExprTree.{expr_tree, expr_trees, expr_nodes, range_tree, range_trees, range_nodes}
use Rattle.diagnostics.specs.declared.diagnostic.Diagnostic.{Diagnostic}
use Rattle.checks_model.specs.Told.{is_none_told}
use Rattle.checks_model.specs.Ground.{Ground}
use Rattle.checks_model.specs.ConstantRules.{told_in_each, told_of_constants}
use Rattle.constant_operators.specs.declared.known.Known.{Known}
use Rattle.constant_operators.specs.Known.{IsVarying}
use Rattle.constant_rules.specs.Found.{Varies, Passes}
use Rattle.constant_rules.specs.Walks.{FindsExpr, told_in_all, told_in_ends}
use Rattle.constant_rules.proofs.Finding.{none_both, varying_found}

abbrev pub each_of : Ground → List Expr → List Diagnostic
each_of g es = told_in_each g (expr_nodes (expr_trees es))

abbrev pub all_of : Ground → List ValueRange → List Diagnostic
all_of g rs = told_in_all g (range_nodes (range_trees rs))

-- ---- what is told part by part

pub passes_first : (all old : List Diagnostic) → Passes all all old old true
passes_first all old = record { told = refl; clean = refl }

and_assoc : (a b c : Bool) → ((a && b) && c) ≡ (a && (b && c))
and_assoc true b c = refl
and_assoc false b c = refl

passes_more : (before t rest all old mid new : List Diagnostic) (b n : Bool) → before ≡ t ++ rest → Passes before all old mid b → new ≡ mid ++ t → n ≡ is_none_told t → Passes rest all old new (b && n)
passes_more before t rest all old mid new b n e h told none = record {
  told = ap (λ (xs : List Diagnostic). xs ++ rest) told ∙ append_assoc mid t rest ∙ ap (λ (xs : List Diagnostic). mid ++ xs) (sym e) ∙ h.told;
  clean = and_assoc b n (is_none_told rest) ∙ (λ i. b && (none i && is_none_told rest)) ∙ ap (λ (x : Bool). b && x) (sym (none_both t rest)) ∙ ap (λ (xs : List Diagnostic). b && is_none_told xs) (sym e) ∙ h.clean;
}

and_true : (b : Bool) → (b && true) ≡ b
and_true true = refl
and_true false = refl

passes_done : (rest all old new : List Diagnostic) (b : Bool) (k : Known) → rest ≡ [] → Passes rest all old new b → IsVarying None b k → Varies all old new k
passes_done rest all old new b k e h v = record {
  told = sym (append-nil new) ∙ ap (λ (xs : List Diagnostic). new ++ xs) (sym e) ∙ h.told;
  found = varying_found v.is_constant (v.is_clean ∙ sym (and_true b) ∙ ap (λ (xs : List Diagnostic). b && is_none_told xs) (sym e) ∙ h.clean);
}

-- ---- expressions

pub exprs_turn : (g : Ground) (es : List Expr) (i : ℕ) (x : Expr) (old mid new : List Diagnostic) (b : Bool) (k : Known) → i < length es → x ≡ get_or es i x
    → Passes (each_of g (drop i es)) (each_of g es) old mid b → FindsExpr g (expr_tree x) mid new k → Passes (each_of g (drop (i + 1) es)) (each_of g es) old new (b && k.is_clean)
exprs_turn g es i x old mid new b k lt is h w =
    passes_more (each_of g (drop i es)) (told_of_constants g (expr_tree x)) (each_of g (drop (i + 1) es)) (each_of g es) old mid new b k.is_clean
    (at_drop_more (each_of g) es i x lt ∙ ap (λ (y : Expr). told_of_constants g (expr_tree y) ++ each_of g (drop (i + 1) es)) (sym is)) h w.told w.found.is_clean

pub exprs_done : (g : Ground) (es : List Expr) (i : ℕ) (old new : List Diagnostic) (b : Bool) (k : Known) → length es ≤ i → Passes (each_of g (drop i es)) (each_of g es) old new b → IsVarying None b k → Varies (each_of g es) old new k
exprs_done g es i old new b k le h v = passes_done (each_of g (drop i es)) (each_of g es) old new b k (at_drop_all (each_of g) es i le) h v

pub ruleset exprs_views = (passes_first, exprs_turn, exprs_done)

-- ---- ranges

pub ranges_turn : (g : Ground) (rs : List ValueRange) (i : ℕ) (x : ValueRange) (old mid new : List Diagnostic) (b : Bool) (k : Known) → i < length rs → x ≡ get_or rs i x
    → Passes (all_of g (drop i rs)) (all_of g rs) old mid b → Varies (told_in_ends g (range_tree x)) mid new k → Passes (all_of g (drop (i + 1) rs)) (all_of g rs) old new (b && k.is_clean)
ranges_turn g rs i x old mid new b k lt is h w =
    passes_more (all_of g (drop i rs)) (told_in_ends g (range_tree x)) (all_of g (drop (i + 1) rs)) (all_of g rs) old mid new b k.is_clean
    (at_drop_more (all_of g) rs i x lt ∙ ap (λ (y : ValueRange). told_in_ends g (range_tree y) ++ all_of g (drop (i + 1) rs)) (sym is)) h w.told w.found.is_clean

pub ranges_done : (g : Ground) (rs : List ValueRange) (i : ℕ) (old new : List Diagnostic) (b : Bool) (k : Known) → length rs ≤ i → Passes (all_of g (drop i rs)) (all_of g rs) old new b → IsVarying None b k → Varies (all_of g rs) old new k
ranges_done g rs i old new b k le h v = passes_done (all_of g (drop i rs)) (all_of g rs) old new b k (at_drop_all (all_of g) rs i le) h v

pub ruleset ranges_views = (passes_first, ranges_turn, ranges_done)
