-- Loops over arguments, one turn after the other; and brackets by what is known of what stands before them.
use Rattle.std.proofs.Common.{◌≡◌, ◌++◌, ℕ, ◌+◌, ◌<◌, List, [], ◌∷◌, refl, ap, sym, ◌∙◌, subst, append_assoc, length, get_or, drop, map, Option, Some, None, Result, Ok, Err}
use Rattle.std.specs.Prelude.{Bool, true, false, ◌&&◌, ◌==◌, not, flat_map, option_map, IfOk, OnOk}
use Rattle.std.proofs.lemmas.List.{at_drop_more}
use Rattle.chill_base.specs.declared.memory.Memory.{Memory}
use Rattle.chill_base.specs.declared.pos.Pos.{Pos}
use Rattle.chill_tree.specs.declared.tree.name.Name.{Name}
use Rattle.chill_tree.specs.declared.tree.expr.Expr.{Expr}
use Rattle.chill_tree.specs.declared.tree.item.Param.{Param}
use Rattle.chill_tree.specs.ExprTree.{ExprTree, ExprNodes, apply, field, expr_tree, expr_trees, expr_nodes, place_of}
use Rattle.chill_tree.specs.ItemTree.{param_tree}
use Rattle.modes.specs.ModeTree.{ClassTree, value}
use Rattle.diagnostics.specs.declared.diagnostic.Diagnostic.{Diagnostic}
use Rattle.diagnostics.specs.declared.rule.Rule.TheVariants as rules
use Rattle.checks_model.specs.Told.{is_none_told, then_told, told_if, tell_at}
use Rattle.checks_model.specs.Ground.{Ground, Predefined, mode_of_entry, entry_of}
use Rattle.checks_model.specs.Operations.{arguments_of, part_of_class, field_of_form}
use Rattle.checks_model.specs.Classes.{class_of, calls, no_callee, callee_of, count_exprs}
use Rattle.checks_model.specs.ValueRules.{Receiver, nothing_asked, head_or_none, rest_of, told_in, told_in_args, told_value, told_number, receivers_of_param, clean_class, each_receiver}
use Rattle.checks_model.specs.ActionRules.{told_arguments, told_in_indices, path_class}
use Rattle.statement_laws.specs.Steps.{told_in_all}
use Rattle.expr_rules.specs.declared.classed.Classed.{Classed}
use Rattle.expr_rules.specs.Known.{classed, IsKnown, IsOwn}
use Rattle.expr_rules.specs.Views.{own_class}
use Rattle.expr_rules.specs.Steps.{called_told, told_of_apply, class_of_apply, told_in_index, is_clean_index, class_in_index, told_of_routine}
use Rattle.expr_rules.proofs.Gates.{none-both, field-class}
use Rattle.expr_rules.proofs.Applied.{told-calls, class-calls, told-index, class-index, index-step, index-clean, index-class}

-- ---- loops

and_assoc : (a b c : Bool) → ((a && b) && c) ≡ (a && (b && c))
and_assoc true b c = refl
and_assoc false b c = refl

pub and_then : (a b r : Bool) → a ≡ true → r ≡ b → r ≡ (a && b)
and_then a b r e f = f ∙ sym (ap (λ (x : Bool). x && b) e)

pub and_else : (a b r : Bool) → a ≡ false → r ≡ a → r ≡ (a && b)
and_else a b r e f = f ∙ e ∙ sym (ap (λ (x : Bool). x && b) e)

-- what is told so far, with what the rest tells, is what all tell; so is whether it is nothing
abbrev pub Tells : (rest all old now : List Diagnostic) → Bool → Type 0
Tells rest all old now b = (now ++ rest ≡ old ++ all) × ((b && is_none_told rest) ≡ is_none_told all)

tells_more : (before t rest all old mid new : List Diagnostic) (b k n : Bool) → before ≡ t ++ rest → Tells before all old mid b → new ≡ mid ++ t → k ≡ is_none_told t → n ≡ (b && k) → Tells rest all old new n
tells_more before t rest all old mid new b k n e h told none is = (
  ap (λ (xs : List Diagnostic). xs ++ rest) told ∙ append_assoc mid t rest ∙ ap (λ (xs : List Diagnostic). mid ++ xs) (sym e) ∙ h.0,
  ap (λ (x : Bool). x && is_none_told rest) (is ∙ ap (λ (x : Bool). b && x) none) ∙ and_assoc b (is_none_told t) (is_none_told rest)
      ∙ ap (λ (x : Bool). b && x) (sym (none-both t rest)) ∙ ap (λ (xs : List Diagnostic). b && is_none_told xs) (sym e) ∙ h.1,
)

abbrev pub all_of : Ground → Receiver → List Expr → List Diagnostic
all_of g r es = told_in_all g r (expr_nodes (expr_trees es))

pub all_turn : (g : Ground) (r : Receiver) (es : List Expr) (i : ℕ) (x : Expr) (old mid new : List Diagnostic) (b k n : Bool) → i < length es → x ≡ get_or es i x
    → Tells (all_of g r (drop i es)) (all_of g r es) old mid b → new ≡ mid ++ told_value g r (expr_tree x) → k ≡ is_none_told (told_value g r (expr_tree x)) → n ≡ (b && k) → Tells (all_of g r (drop (i + 1) es)) (all_of g r es) old new n
all_turn g r es i x old mid new b k n less is h told none both =
    tells_more (all_of g r (drop i es)) (told_value g r (expr_tree x)) (all_of g r (drop (i + 1) es)) (all_of g r es) old mid new b k n
    (at_drop_more (all_of g r) es i x less ∙ ap (λ (y : Expr). told_value g r (expr_tree y) ++ all_of g r (drop (i + 1) es)) (sym is)) h told none both

abbrev pub each_of : Ground → List Receiver → List Expr → List Diagnostic
each_of g rs es = told_in_args g rs (expr_nodes (expr_trees es))

pub each_turn : (g : Ground) (rs qs all : List Receiver) (r : Receiver) (es : List Expr) (i : ℕ) (x : Expr) (old mid new : List Diagnostic) (b k n : Bool) → i < length es → x ≡ get_or es i x → r ≡ head_or_none rs → qs ≡ rest_of rs
    → Tells (each_of g rs (drop i es)) (each_of g all es) old mid b → new ≡ mid ++ told_value g r (expr_tree x) → k ≡ is_none_told (told_value g r (expr_tree x)) → n ≡ (b && k) → Tells (each_of g qs (drop (i + 1) es)) (each_of g all es) old new n
each_turn g rs qs all r es i x old mid new b k n less is one rest h told none both =
    tells_more (each_of g rs (drop i es)) (told_value g r (expr_tree x)) (each_of g qs (drop (i + 1) es)) (each_of g all es) old mid new b k n
    (at_drop_more (each_of g rs) es i x less ∙ ap (λ (y : Expr). told_value g (head_or_none rs) (expr_tree y) ++ each_of g (rest_of rs) (drop (i + 1) es)) (sym is)
    ∙ ap (λ (q : Receiver). told_value g q (expr_tree x) ++ each_of g (rest_of rs) (drop (i + 1) es)) (sym one) ∙ ap (λ (q : List Receiver). told_value g r (expr_tree x) ++ each_of g q (drop (i + 1) es)) (sym rest)) h told none both

abbrev params_of : Ground → List Param → List Receiver
params_of g ps = flat_map (receivers_of_param g) (map param_tree ps)

pub param_turn : (g : Ground) (ps : List Param) (i : ℕ) (p : Param) (old mid new : List Receiver) → i < length ps → p ≡ get_or ps i p → mid ++ params_of g (drop i ps) ≡ old ++ params_of g ps → new ≡ mid ++ receivers_of_param g (param_tree p)
    → new ++ params_of g (drop (i + 1) ps) ≡ old ++ params_of g ps
param_turn g ps i p old mid new less is h more =
    ap (λ (xs : List Receiver). xs ++ params_of g (drop (i + 1) ps)) more ∙ append_assoc mid (receivers_of_param g (param_tree p)) (params_of g (drop (i + 1) ps))
    ∙ ap (λ (xs : List Receiver). mid ++ xs) (sym (at_drop_more (params_of g) ps i p less ∙ ap (λ (q : Param). receivers_of_param g (param_tree q) ++ params_of g (drop (i + 1) ps)) (sym is))) ∙ h

-- ---- numbers of arguments

pub all_told : (g : Ground) (rs : List Receiver) (es : ExprNodes) (at : Pos) (m n : ℕ) (old mid new : List Diagnostic) → mid ≡ old ++ told_in_args g (each_receiver rs (count_exprs es)) es → new ≡ mid ++ told_number at m n → m ≡ count_exprs es → n ≡ length rs
    → new ≡ old ++ told_arguments g rs es at
all_told g rs es at m n old mid new first later parts needed =
    later ∙ ap (λ (xs : List Diagnostic). xs ++ told_number at m n) first ∙ append_assoc old (told_in_args g (each_receiver rs (count_exprs es)) es) (told_number at m n)
    ∙ ap (λ (k : ℕ). old ++ (told_in_args g (each_receiver rs (count_exprs es)) es ++ told_number at k n)) parts ∙ ap (λ (k : ℕ). old ++ (told_in_args g (each_receiver rs (count_exprs es)) es ++ told_number at (count_exprs es) k)) needed

told_alone : (b : Bool) (d : Diagnostic) (rest : List Diagnostic) → b ≡ false → told_if (not b) d ≡ then_told (told_if (not b) d) rest
told_alone false d rest e = refl
told_alone true d rest e = cc

is_some_told : (b : Bool) (d : Diagnostic) (rest : List Diagnostic) → b ≡ false → is_none_told (then_told (told_if (not b) d) rest) ≡ false
is_some_told false d rest e = refl
is_some_told true d rest e = cc

pub broken_known : (told : List Diagnostic) (c : Option ClassTree) (k : Classed) → k ≡ classed None false → is_none_told told ≡ false → IsOwn told c k
broken_known [] c k is some = cc
broken_known (d ∷ ds) c k is some = subst (IsOwn (d ∷ ds) c) (sym is) (record { is_clean = refl; class = refl })

same_test : (m n k j : ℕ) (b : Bool) → m ≡ k → n ≡ j → b ≡ (m == n) → b ≡ false → (k == j) ≡ false
same_test m n k j b one other test is = ap (λ (x : ℕ). x == j) (sym one) ∙ ap (λ (x : ℕ). m == x) (sym other) ∙ sym test ∙ is

-- a routine with a wrong number of arguments
pub routine_wrong : (g : Ground) (p : Predefined) (es : ExprNodes) (clean : Bool) (c : Option ClassTree) (at : Pos) (m n : ℕ) (b : Bool) → m ≡ count_exprs es → n ≡ arguments_of p → b ≡ (m == n) → b ≡ false → told_number at m n ≡ told_of_routine g p es clean c at
routine_wrong g p es clean c at m n b one other test is =
    ap (λ (k : ℕ). told_number at k n) one ∙ ap (λ (k : ℕ). told_number at (count_exprs es) k) other
    ∙ told_alone (count_exprs es == arguments_of p) (tell_at rules.S5 at) _ (same_test m n (count_exprs es) (arguments_of p) b one other test is)

pub routine_broken : (g : Ground) (p : Predefined) (es : ExprNodes) (clean : Bool) (c : Option ClassTree) (at : Pos) (m n : ℕ) (b : Bool) → m ≡ count_exprs es → n ≡ arguments_of p → b ≡ (m == n) → b ≡ false → is_none_told (told_of_routine g p es clean c at) ≡ false
routine_broken g p es clean c at m n b one other test is = is_some_told (count_exprs es == arguments_of p) (tell_at rules.S5 at) _ (same_test m n (count_exprs es) (arguments_of p) b one other test is)

-- ---- brackets

own_same : (r : Result Classed Memory) (t u : List Diagnostic) (c d : Option ClassTree) → t ≡ u → c ≡ d → IfOk r (IsOwn t c) → IfOk r (IsOwn u d)
own_same r t u c d told class h = subst (λ (x : Option ClassTree). IfOk r (IsOwn u x)) class (subst (λ (x : List Diagnostic). IfOk r (IsOwn x c)) told h)

pub procedure_known : (r : Result Classed Memory) (g : Ground) (x : ExprTree) (at : Pos) (e : ExprTree) (es : ExprNodes) (n : Name) → x ≡ apply at e es → calls n ≡ callee_of g e
    → IfOk r (IsOwn (called_told g n es) (option_map value (mode_of_entry (entry_of g n)))) → IfOk r (IsOwn (told_of_apply g x) (class_of_apply g x))
procedure_known r g x at e es n is callee h =
    own_same r (called_told g n es) (told_of_apply g x) (option_map value (mode_of_entry (entry_of g n))) (class_of_apply g x)
    (sym (ap (told_of_apply g) is ∙ told-calls g at e es n (sym callee))) (sym (ap (class_of_apply g) is ∙ class-calls g at e es n (sym callee))) h

pub index_told : (r : Result Classed Memory) (g : Ground) (x : ExprTree) (at pos : Pos) (e : ExprTree) (es : ExprNodes) (old mid new : List Diagnostic) (c : Option ClassTree) (b : Bool) → x ≡ apply at e es → no_callee ≡ callee_of g e → pos ≡ place_of e
    → mid ≡ old ++ told_in g nothing_asked e → b ≡ is_none_told (told_in g nothing_asked e) → c ≡ clean_class (told_in g nothing_asked e) (class_of g e)
    → OnOk r (new ≡ mid ++ told_in_index g es pos c b) → OnOk r (new ≡ old ++ told_of_apply g x)
index_told (Err memory) g x at pos e es old mid new c b is callee place first clean class h = tt
index_told (Ok k) g x at pos e es old mid new c b is callee place first clean class h =
    index-step g es (place_of e) (told_in g nothing_asked e) old mid new (class_of g e) c b first clean class (h ∙ ap (λ (q : Pos). mid ++ told_in_index g es q c b) place)
    ∙ ap (λ (xs : List Diagnostic). old ++ xs) (sym (ap (told_of_apply g) is ∙ told-index g at e es (sym callee)))

pub index_known : (r : Result Classed Memory) (g : Ground) (x : ExprTree) (at pos : Pos) (e : ExprTree) (es : ExprNodes) (c : Option ClassTree) (b : Bool) → x ≡ apply at e es → no_callee ≡ callee_of g e → pos ≡ place_of e
    → b ≡ is_none_told (told_in g nothing_asked e) → c ≡ clean_class (told_in g nothing_asked e) (class_of g e)
    → IfOk r (λ k. k.is_clean ≡ is_clean_index g es pos c b) → IfOk r (λ k. own_class k.class ≡ class_in_index g es pos c b) → IfOk r (IsOwn (told_of_apply g x) (class_of_apply g x))
index_known (Err memory) g x at pos e es c b is callee place clean class one other = tt
index_known (Ok k) g x at pos e es c b is callee place clean class one other =
    let t = told_in g nothing_asked e in
    let told = sym (ap (told_of_apply g) is ∙ told-index g at e es (sym callee)) in
    let whole = sym (ap (class_of_apply g) is ∙ class-index g at e es (sym callee)) in
    own_same (Ok k) _ (told_of_apply g x) _ (class_of_apply g x) told whole (record {
      is_clean = one ∙ ap (λ (q : Pos). is_clean_index g es q c b) place ∙ ap (λ (y : Option ClassTree). is_clean_index g es (place_of e) y b) class ∙ ap (is_clean_index g es (place_of e) (clean_class t (class_of g e))) clean ∙ index-clean g es (place_of e) t (class_of g e);
      class = other ∙ ap (λ (q : Pos). class_in_index g es q c b) place ∙ ap (λ (y : Option ClassTree). class_in_index g es (place_of e) y b) class ∙ ap (class_in_index g es (place_of e) (clean_class t (class_of g e))) clean ∙ index-class g es (place_of e) t (class_of g e);
    })

-- a field of a location
pub field_known : (r : Result Classed Memory) (g : Ground) (x e : ExprTree) (at : Pos) (n : Name) (b : Classed) → x ≡ field at e n → IsOwn (told_in_indices g e) (path_class g e) b → IfOk r (λ k. k.is_clean ≡ b.is_clean)
    → IfOk r (λ k. own_class k.class ≡ option_map (part_of_class (field_of_form n.text)) (own_class b.class)) → IfOk r (IsOwn (told_in_indices g x) (path_class g x))
field_known (Err memory) g x e at n b is known clean class = tt
field_known (Ok k) g x e at n b is known clean class =
    let part : Option ClassTree → Option ClassTree = option_map (part_of_class (field_of_form n.text)) in
    own_same (Ok k) (told_in_indices g e) (told_in_indices g x) (part (path_class g e)) (path_class g x) (sym (ap (told_in_indices g) is)) (sym (ap (path_class g) is)) (record {
      is_clean = clean ∙ known.is_clean;
      class = class ∙ ap part known.class ∙ field-class n.text (told_in_indices g e) (path_class g e);
    })
