-- The characters and the text literals in expressions, actions and definitions are bytes, where those among their tokens are.
use Rattle.std.proofs.Common.{Bool, List, [], ◌∷◌, ◌++◌, Option, Some, None}
use Rattle.chill_tree.specs.declared.token.Word.{Word}
use Rattle.chill_tree.specs.declared.token.Word.TheVariants as words
use Rattle.chill_tree.specs.declared.token.Sign.TheVariants as signs
use Rattle.chill_tree.specs.ExprTree.{ExprTree, ExprNodes, RangeTree, RangeNodes, whole, character, text, this_instance, paren, receive, start, tuple, uniform, name, apply, field, prefixed, binary, no_exprs, more_exprs, alone, between, no_ranges, more_ranges, expr_nodes}
use Rattle.chill_tree.specs.LocalTree.{SynonymTree, InitialTree, DeclarationTree, LocalTree, synonyms, syn_modes, new_modes, locations}
use Rattle.chill_tree.specs.SimpleTree.{SimpleTree, assign, update, call_of, exit, return_with, result_of, assert_that, cause, stop, start_of, delay, continue_event, send, ControlTree, while_holds, for_ever, for_members, for_steps}
use Rattle.rules_model.specs.TreeTokens.{Kinds, given, after_commas, with_commas, in_parens, word_kinds, sign_kinds, name_kinds, names_kinds, operator_kind, prefix_kinds, expr_kinds, exprs_kinds, more_exprs_kinds, range_kinds, ranges_kinds, more_ranges_kinds, mode_kinds, synonym_kinds, initial_kinds, declaration_kinds, local_kinds, flag_kinds, clause_kinds, control_kinds, args_kinds, simple_kinds}
use Rattle.checks_model.specs.Sites.{at_synonym, at_mode_definition, at_declaration, sites_of_local}
use Rattle.checks_model.specs.Phases.{some_expr, some_exprs, exprs_of_simple, priority_of, exprs_of_control, exprs_of_label, exprs_of_labels, initial_expr}
use Rattle.written_laws.specs.Written.{Each}
use Rattle.written_laws.proofs.Shown.{each_append, each_any, each_map, each_flat}
use Rattle.byte_laws.specs.Bytes.{HasBytes, HaveBytes, RangeHasBytes, RangesHaveBytes, HasByteExprs}
use Rattle.byte_laws.proofs.Tokens.{Fine, pieces}

-- ---- lists with commas, and what stands in parentheses

pub inside : (ks : Kinds) → Fine (in_parens ks) → Fine ks
inside ks fine = (pieces (sign_kinds signs.Open) (ks ∷ sign_kinds signs.Close ∷ []) fine).1.0

after : {X : Type 0} (f : X → Kinds) (Q : X → Type 0) → ((x : X) → Fine (f x) → Q x) → (xs : List X) → Fine (after_commas f xs) → Each Q xs
after f Q step [] fine = tt
after f Q step (x ∷ xs) fine = let p = pieces (sign_kinds signs.Comma) (f x ∷ after_commas f xs ∷ []) fine in (step x p.1.0, after f Q step xs p.1.1.0)

pub commas : {X : Type 0} (f : X → Kinds) (Q : X → Type 0) → ((x : X) → Fine (f x) → Q x) → (xs : List X) → Fine (with_commas f xs) → Each Q xs
commas f Q step [] fine = tt
commas f Q step (x ∷ xs) fine = let p = pieces (f x) (after_commas f xs ∷ []) fine in (step x p.0, after f Q step xs p.1.0)

-- ---- expressions

mutual
  pub of_expr : (e : ExprTree) → Fine (expr_kinds e) → HasBytes e
  of_expr (whole at n) fine = tt
  of_expr (character at n) fine = fine.0
  of_expr (text at n) fine = fine.0
  of_expr (this_instance at) fine = tt
  of_expr (paren at e) fine = of_expr e (inside (expr_kinds e) fine)
  of_expr (receive at n) fine = tt
  of_expr (start at n es) fine = of_exprs es (inside (exprs_kinds es) (pieces (word_kinds words.Start) (name_kinds n ∷ in_parens (exprs_kinds es) ∷ []) fine).1.1.0)
  of_expr (tuple at m b rs) fine = of_ranges rs (pieces (given name_kinds m) (sign_kinds signs.OpenBracket ∷ ranges_kinds rs ∷ sign_kinds signs.CloseBracket ∷ []) fine).1.1.0
  of_expr (uniform at m b e) fine = of_expr e (pieces (given name_kinds m) (sign_kinds signs.OpenBracket ∷ in_parens (sign_kinds signs.Times) ∷ sign_kinds signs.Colon ∷ expr_kinds e ∷ sign_kinds signs.CloseBracket ∷ []) fine).1.1.1.1.0
  of_expr (name n) fine = tt
  of_expr (apply at e es) fine = let p = pieces (expr_kinds e) (in_parens (exprs_kinds es) ∷ []) fine in (of_expr e p.0, of_exprs es (inside (exprs_kinds es) p.1.0))
  of_expr (field at e n) fine = of_expr e (pieces (expr_kinds e) (sign_kinds signs.Dot ∷ name_kinds n ∷ []) fine).0
  of_expr (prefixed at o e) fine = of_expr e (pieces (prefix_kinds o) (expr_kinds e ∷ []) fine).1.0
  of_expr (binary at l o p r) fine = let q = pieces (expr_kinds l) ((operator_kind o ∷ expr_kinds r) ∷ []) fine in (of_expr l q.0, of_expr r q.1.0.1)

  of_exprs : (es : ExprNodes) → Fine (exprs_kinds es) → HaveBytes es
  of_exprs no_exprs fine = tt
  of_exprs (more_exprs e es) fine = let p = pieces (expr_kinds e) (more_exprs_kinds es ∷ []) fine in (of_expr e p.0, of_more es p.1.0)

  of_more : (es : ExprNodes) → Fine (more_exprs_kinds es) → HaveBytes es
  of_more no_exprs fine = tt
  of_more (more_exprs e es) fine = let p = pieces (sign_kinds signs.Comma) (expr_kinds e ∷ more_exprs_kinds es ∷ []) fine in (of_expr e p.1.0, of_more es p.1.1.0)

  of_range : (r : RangeTree) → Fine (range_kinds r) → RangeHasBytes r
  of_range (alone e) fine = of_expr e fine
  of_range (between l h) fine = let p = pieces (expr_kinds l) (sign_kinds signs.Colon ∷ expr_kinds h ∷ []) fine in (of_expr l p.0, of_expr h p.1.1.0)

  of_ranges : (rs : RangeNodes) → Fine (ranges_kinds rs) → RangesHaveBytes rs
  of_ranges no_ranges fine = tt
  of_ranges (more_ranges r rs) fine = let p = pieces (range_kinds r) (more_ranges_kinds rs ∷ []) fine in (of_range r p.0, of_more_ranges rs p.1.0)

  of_more_ranges : (rs : RangeNodes) → Fine (more_ranges_kinds rs) → RangesHaveBytes rs
  of_more_ranges no_ranges fine = tt
  of_more_ranges (more_ranges r rs) fine = let p = pieces (sign_kinds signs.Comma) (range_kinds r ∷ more_ranges_kinds rs ∷ []) fine in (of_range r p.1.0, of_more_ranges rs p.1.1.0)

of_some : (o : Option ExprTree) → Fine (given expr_kinds o) → Each HasBytes (some_expr o)
of_some None fine = tt
of_some (Some e) fine = (of_expr e fine, tt)

pub of_clause : (w : Word) (o : Option ExprTree) → Fine (clause_kinds w o) → Each HasBytes (some_expr o)
of_clause w None fine = tt
of_clause w (Some e) fine = (of_expr e fine.1, tt)

of_args : (es : List ExprTree) → Fine (args_kinds es) → Each HasBytes es
of_args es fine = commas expr_kinds HasBytes of_expr es (inside (with_commas expr_kinds es) fine)

of_some_args : (o : Option (List ExprTree)) → Fine (given args_kinds o) → Each HasBytes (some_exprs o)
of_some_args None fine = tt
of_some_args (Some es) fine = of_args es fine

as_nodes : (es : List ExprTree) → Each HasBytes es → HaveBytes (expr_nodes es)
as_nodes [] each = tt
as_nodes (e ∷ es) each = (each.0, as_nodes es each.1)

of_label : (r : RangeTree) → Fine (range_kinds r) → Each HasBytes (exprs_of_label r)
of_label (alone e) fine = (of_expr e fine, tt)
of_label (between l h) fine = let p = pieces (expr_kinds l) (sign_kinds signs.Colon ∷ expr_kinds h ∷ []) fine in (of_expr l p.0, (of_expr h p.1.1.0, tt))

pub of_labels : (rs : List RangeTree) → Fine (with_commas range_kinds rs) → Each HasBytes (exprs_of_labels rs)
of_labels rs fine =
    each_flat (λ r. Each HasBytes (exprs_of_label r)) HasBytes exprs_of_label (λ r each. each) rs (commas range_kinds (λ r. Each HasBytes (exprs_of_label r)) of_label rs fine)

-- ---- actions that hold no other, and what controls a loop

pub of_simple : (s : SimpleTree) → Fine (simple_kinds s) → Each HasBytes (exprs_of_simple s ++ some_expr (priority_of s))
of_simple (assign at t v) fine = let p = pieces (expr_kinds t) (sign_kinds signs.Becomes ∷ expr_kinds v ∷ []) fine in (of_expr t p.0, (of_expr v p.1.1.0, tt))
of_simple (update at t o q v) fine = let p = pieces (expr_kinds t) ((operator_kind o ∷ sign_kinds signs.Becomes) ∷ expr_kinds v ∷ []) fine in (of_expr t p.0, (of_expr v p.1.1.0, tt))
of_simple (call_of at c n es) fine = ((tt, as_nodes es (of_args es (pieces (flag_kinds words.Call c) (name_kinds n ∷ args_kinds es ∷ []) fine).1.1.0)), tt)
of_simple (exit at n) fine = tt
of_simple (return_with at v) fine = each_append HasBytes (some_expr v) [] (of_some v fine.1) tt
of_simple (result_of at v) fine = (of_expr v fine.1, tt)
of_simple (assert_that at v) fine = (of_expr v fine.1, tt)
of_simple (cause at n) fine = tt
of_simple (stop at) fine = tt
of_simple (start_of at n es) fine = each_append HasBytes es [] (of_args es (pieces (word_kinds words.Start) (name_kinds n ∷ args_kinds es ∷ []) fine).1.1.0) tt
of_simple (delay at n p) fine = of_clause words.Priority p (pieces (word_kinds words.Delay) (name_kinds n ∷ clause_kinds words.Priority p ∷ []) fine).1.1.0
of_simple (continue_event at n) fine = tt
of_simple (send at n es to p) fine =
    let q = pieces (word_kinds words.Send) (name_kinds n ∷ given args_kinds es ∷ clause_kinds words.To to ∷ clause_kinds words.Priority p ∷ []) fine in
    each_append HasBytes (some_exprs es ++ some_expr to) (some_expr p)
    (each_append HasBytes (some_exprs es) (some_expr to) (of_some_args es q.1.1.0) (of_clause words.To to q.1.1.1.0))
    (of_clause words.Priority p q.1.1.1.1.0)

pub of_control : (c : ControlTree) → Fine (control_kinds c) → Each HasBytes (exprs_of_control c)
of_control (while_holds at e) fine = (of_expr e fine.1, tt)
of_control (for_ever at) fine = tt
of_control (for_members at n e c) fine =
    let p = pieces (word_kinds words.For) (name_kinds n ∷ word_kinds words.In ∷ expr_kinds e ∷ clause_kinds words.While c ∷ []) fine in
    (of_expr e p.1.1.1.0, of_clause words.While c p.1.1.1.1.0)
of_control (for_steps at n e b d f c) fine =
    let p = pieces (word_kinds words.For) (name_kinds n ∷ sign_kinds signs.Becomes ∷ expr_kinds e ∷ clause_kinds words.By b ∷ flag_kinds words.Down d ∷ word_kinds words.To ∷ expr_kinds f ∷ clause_kinds words.While c ∷ []) fine in
    let more = p.1.1.1.1 in
    (of_expr e p.1.1.1.0, each_append HasBytes (some_expr b) (f ∷ some_expr c) (of_clause words.By b more.0) (of_expr f more.1.1.1.0, of_clause words.While c more.1.1.1.1.0))

-- ---- definition statements

of_synonym : (s : SynonymTree) → Fine (synonym_kinds s) → HasBytes s.value
of_synonym s fine = of_expr s.value (pieces (names_kinds s.names) (given mode_kinds s.mode ∷ sign_kinds signs.Equal ∷ expr_kinds s.value ∷ []) fine).1.1.1.0

of_initial : (i : Option InitialTree) → Fine (given initial_kinds i) → Each HasBytes (some_expr (initial_expr i))
of_initial None fine = tt
of_initial (Some i) fine = (of_expr i.value (pieces (flag_kinds words.Init i.init) (sign_kinds signs.Becomes ∷ expr_kinds i.value ∷ []) fine).1.1.0, tt)

of_declaration : (d : DeclarationTree) → Fine (declaration_kinds d) → Each HasBytes (some_expr (initial_expr d.initial))
of_declaration d fine = of_initial d.initial (pieces (names_kinds d.names) (mode_kinds d.mode ∷ given initial_kinds d.initial ∷ []) fine).1.1.0

pub of_local : (shared : Bool) (l : LocalTree) → Fine (local_kinds l) → Each HasByteExprs (sites_of_local shared l)
of_local shared (synonyms at ss) fine =
    each_map (λ s. HasBytes s.value) HasByteExprs at_synonym (λ s has. (has, tt)) ss
    (commas synonym_kinds (λ s. HasBytes s.value) of_synonym ss (pieces (word_kinds words.Syn) (with_commas synonym_kinds ss ∷ sign_kinds signs.Semicolon ∷ []) fine).1.0)
of_local shared (syn_modes at ds) fine = each_map (λ d. Unit {0}) HasByteExprs at_mode_definition (λ d has. tt) ds (each_any (λ d. Unit {0}) (λ d. tt) ds)
of_local shared (new_modes at ds) fine = each_map (λ d. Unit {0}) HasByteExprs at_mode_definition (λ d has. tt) ds (each_any (λ d. Unit {0}) (λ d. tt) ds)
of_local shared (locations at ds) fine =
    each_map (λ d. Each HasBytes (some_expr (initial_expr d.initial))) HasByteExprs (at_declaration shared) (λ d has. has) ds
    (commas declaration_kinds (λ d. Each HasBytes (some_expr (initial_expr d.initial))) of_declaration ds (pieces (word_kinds words.Dcl) (with_commas declaration_kinds ds ∷ sign_kinds signs.Semicolon ∷ []) fine).1.0)
