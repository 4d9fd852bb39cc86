-- The tokens of an expression are an expression at other places too, the same but for places.
use Rattle.std.proofs.Common.{◌≡◌, ℕ, List, [], ◌∷◌, ◌++◌, map, Option, Some, None, refl, ap, sym, ◌∙◌}
use Rattle.std.specs.Prelude.{option_map}
use Rattle.chill_base.specs.declared.pos.Pos.{Pos}
use Rattle.chill_tree.specs.declared.tree.name.Name.{Name}
use Rattle.chill_tree.specs.declared.tree.expr.Prefix.TheVariants as prefixes
use Rattle.chill_tree.specs.ExprTree.{ExprTree, whole, character, text, this_instance, paren, receive, start, tuple, uniform, name, apply, field, prefixed, binary, no_exprs, more_exprs, RangeTree, alone, between, more_ranges, expr_nodes, range_nodes, place_of}
use Rattle.rules_model.specs.Marks.{Toks}
use Rattle.rules_model.specs.ExprGrammar.{IsTupleHead, bare, of_mode, tuple_place, IsNamed, a_name, with_args, with_field, AreArgs, no_args, some_args, AreExprs, one_expr, and_expr, IsRange, is_alone, is_between, AreRanges, one_range, and_range, AreParts, no_parts, some_parts, IsOperand, is_whole, is_character, is_text, is_this, is_paren, is_receive, is_start, is_tuple, is_uniform, is_named, IsRanked, is_plain, is_minus, is_not, is_chain, IsChain, first, turn, is_location, IsLocation, is_loc}
use Rattle.tree_print.specs.SameTree.{nowhere, unplaced_name, unplaced_expr, unplaced_exprs, unplaced_range, unplaced_ranges}
use Rattle.tree_print.proofs.SameTokens.{Places, placed, name_before, Again, and_same, same_held}

-- ---- the lists of nodes

exprs_held : (es : List ExprTree) → unplaced_exprs (expr_nodes es) ≡ expr_nodes (map unplaced_expr es)
exprs_held [] = refl
exprs_held (e ∷ es) = λ i. more_exprs (unplaced_expr e) (exprs_held es i)

ranges_held : (rs : List RangeTree) → unplaced_ranges (range_nodes rs) ≡ range_nodes (map unplaced_range rs)
ranges_held [] = refl
ranges_held (r ∷ rs) = λ i. more_ranges (unplaced_range r) (ranges_held rs i)

held_exprs : (es gs : List ExprTree) → map unplaced_expr es ≡ map unplaced_expr gs → unplaced_exprs (expr_nodes es) ≡ unplaced_exprs (expr_nodes gs)
held_exprs = same_held expr_nodes unplaced_exprs (map unplaced_expr) exprs_held

held_ranges : (rs ss : List RangeTree) → map unplaced_range rs ≡ map unplaced_range ss → unplaced_ranges (range_nodes rs) ≡ unplaced_ranges (range_nodes ss)
held_ranges = same_held range_nodes unplaced_ranges (map unplaced_range) ranges_held

-- ---- expressions

record HeadAgain (f : Places) (mode : Option Name) (toks rest : Toks) : Type 0 where
  name : Option Name
  at : Pos
  is : IsTupleHead name at (placed f toks) (placed f rest)
  same : option_map unplaced_name mode ≡ option_map unplaced_name name

same_head : {mode : Option Name} {b : Pos} {toks rest : Toks} → IsTupleHead mode b toks rest → (f : Places) → HeadAgain f mode toks rest
same_head bare f = record { name = None; at = _; is = bare; same = refl }
same_head (of_mode {n = n}) f = record { name = Some (record { at = _; text = n.text }); at = _; is = of_mode; same = refl }

mutual
  pub same_named : {k : ℕ} {e : ExprTree} {toks rest : Toks} → IsNamed k e toks rest → (f : Places) → Again (IsNamed k) unplaced_expr f e toks rest
  same_named (a_name {n = n} {rest = rest}) f = record { tree = name (name_before f rest n); is = a_name; same = refl }
  same_named (with_args {es = es} d a lt) f =
      let x = same_named d f in
      let y = same_args a f in
      record { tree = apply (place_of x.tree) x.tree (expr_nodes y.tree); is = with_args x.is y.is lt; same = λ i. apply nowhere (x.same i) (held_exprs es y.tree y.same i) }
  same_named (with_field {n = n} {rest = rest} d lt) f =
      let x = same_named d f in
      record { tree = field (place_of x.tree) x.tree (name_before f rest n); is = with_field x.is lt; same = λ i. field nowhere (x.same i) (unplaced_name n) }

  pub same_args : {es : List ExprTree} {toks rest : Toks} → AreArgs es toks rest → (f : Places) → Again AreArgs (map unplaced_expr) f es toks rest
  same_args no_args f = record { tree = []; is = no_args; same = refl }
  same_args (some_args d) f = let x = same_exprs d f in record { tree = x.tree; is = some_args x.is; same = x.same }

  pub same_exprs : {es : List ExprTree} {toks rest : Toks} → AreExprs es toks rest → (f : Places) → Again AreExprs (map unplaced_expr) f es toks rest
  same_exprs (one_expr d) f = let x = same_ranked d f in record { tree = x.tree ∷ []; is = one_expr x.is; same = λ i. x.same i ∷ [] }
  same_exprs (and_expr {es = es} {e = e} l d) f =
      let x = same_exprs l f in
      let y = same_ranked d f in
      record { tree = x.tree ++ y.tree ∷ []; is = and_expr x.is y.is; same = and_same unplaced_expr es x.tree e y.tree x.same y.same }

  pub same_range : {r : RangeTree} {toks rest : Toks} → IsRange r toks rest → (f : Places) → Again IsRange unplaced_range f r toks rest
  same_range (is_alone d) f = let x = same_ranked d f in record { tree = alone x.tree; is = is_alone x.is; same = λ i. alone (x.same i) }
  same_range (is_between d g) f =
      let x = same_ranked d f in
      let y = same_ranked g f in
      record { tree = between x.tree y.tree; is = is_between x.is y.is; same = λ i. between (x.same i) (y.same i) }

  pub same_ranges : {rs : List RangeTree} {toks rest : Toks} → AreRanges rs toks rest → (f : Places) → Again AreRanges (map unplaced_range) f rs toks rest
  same_ranges (one_range d) f = let x = same_range d f in record { tree = x.tree ∷ []; is = one_range x.is; same = λ i. x.same i ∷ [] }
  same_ranges (and_range {rs = rs} {r = r} l d) f =
      let x = same_ranges l f in
      let y = same_range d f in
      record { tree = x.tree ++ y.tree ∷ []; is = and_range x.is y.is; same = and_same unplaced_range rs x.tree r y.tree x.same y.same }

  pub same_parts : {rs : List RangeTree} {toks rest : Toks} → AreParts rs toks rest → (f : Places) → Again AreParts (map unplaced_range) f rs toks rest
  same_parts no_parts f = record { tree = []; is = no_parts; same = refl }
  same_parts (some_parts d) f = let x = same_ranges d f in record { tree = x.tree; is = some_parts x.is; same = x.same }

  pub same_operand : {e : ExprTree} {toks rest : Toks} → IsOperand e toks rest → (f : Places) → Again IsOperand unplaced_expr f e toks rest
  same_operand (is_whole {n = n}) f = record { tree = whole _ n; is = is_whole; same = refl }
  same_operand (is_character {n = n}) f = record { tree = character _ n; is = is_character; same = refl }
  same_operand (is_text {s = s}) f = record { tree = text _ s; is = is_text; same = refl }
  same_operand is_this f = record { tree = this_instance _; is = is_this; same = refl }
  same_operand (is_paren d) f = let x = same_ranked d f in record { tree = paren _ x.tree; is = is_paren x.is; same = λ i. paren nowhere (x.same i) }
  same_operand (is_receive {n = n}) f = record { tree = receive _ (record { at = _; text = n.text }); is = is_receive; same = refl }
  same_operand (is_start {n = n} {es = es} d) f =
      let x = same_args d f in
      record { tree = start _ (record { at = _; text = n.text }) (expr_nodes x.tree); is = is_start x.is; same = λ i. start nowhere (unplaced_name n) (held_exprs es x.tree x.same i) }
  same_operand (is_tuple {rs = rs} h d) f =
      let x = same_head h f in
      let y = same_parts d f in
      record { tree = tuple (tuple_place x.name x.at) x.name x.at (range_nodes y.tree); is = is_tuple x.is y.is; same = λ i. tuple nowhere (x.same i) nowhere (held_ranges rs y.tree y.same i) }
  same_operand (is_uniform h d) f =
      let x = same_head h f in
      let y = same_ranked d f in
      record { tree = uniform (tuple_place x.name x.at) x.name x.at y.tree; is = is_uniform x.is y.is; same = λ i. uniform nowhere (x.same i) nowhere (y.same i) }
  same_operand (is_named d) f = let x = same_named d f in record { tree = x.tree; is = is_named x.is; same = x.same }

  pub same_ranked : {r : ℕ} {e : ExprTree} {toks rest : Toks} → IsRanked r e toks rest → (f : Places) → Again (IsRanked r) unplaced_expr f e toks rest
  same_ranked (is_plain d) f = let x = same_operand d f in record { tree = x.tree; is = is_plain x.is; same = x.same }
  same_ranked (is_minus d) f = let x = same_operand d f in record { tree = prefixed _ prefixes.Minus x.tree; is = is_minus x.is; same = λ i. prefixed nowhere prefixes.Minus (x.same i) }
  same_ranked (is_not d) f = let x = same_operand d f in record { tree = prefixed _ prefixes.Not x.tree; is = is_not x.is; same = λ i. prefixed nowhere prefixes.Not (x.same i) }
  same_ranked (is_chain d) f = let x = same_chain d f in record { tree = x.tree; is = is_chain x.is; same = x.same }

  pub same_chain : {r k : ℕ} {e : ExprTree} {toks rest : Toks} → IsChain r k e toks rest → (f : Places) → Again (IsChain r k) unplaced_expr f e toks rest
  same_chain (first d) f = let x = same_ranked d f in record { tree = x.tree; is = first x.is; same = x.same }
  same_chain (turn {o = o} c is rank d lt) f =
      let x = same_chain c f in
      let y = same_ranked d f in
      record { tree = binary (place_of x.tree) x.tree o _ y.tree; is = turn x.is is rank y.is lt; same = λ i. binary nowhere (x.same i) o nowhere (y.same i) }

-- ---- locations

location_unplaced : (e : ExprTree) → is_location (unplaced_expr e) ≡ is_location e
location_unplaced (name n) = refl
location_unplaced (field at e n) = location_unplaced e
location_unplaced (apply at e no_exprs) = refl
location_unplaced (apply at e (more_exprs i no_exprs)) = location_unplaced e
location_unplaced (apply at e (more_exprs i (more_exprs j es))) = refl
location_unplaced (whole at n) = refl
location_unplaced (character at n) = refl
location_unplaced (text at s) = refl
location_unplaced (this_instance at) = refl
location_unplaced (paren at e) = refl
location_unplaced (receive at n) = refl
location_unplaced (start at n es) = refl
location_unplaced (tuple at m b rs) = refl
location_unplaced (uniform at m b e) = refl
location_unplaced (prefixed at o e) = refl
location_unplaced (binary at l o p r) = refl

pub same_location : {e : ExprTree} {toks rest : Toks} → IsLocation e toks rest → (f : Places) → Again IsLocation unplaced_expr f e toks rest
same_location (is_loc {e = e} d loc) f =
    let x = same_named d f in
    record { tree = x.tree; is = is_loc x.is (sym (location_unplaced x.tree) ∙ ap is_location (sym x.same) ∙ location_unplaced e ∙ loc); same = x.same }
