-- The code of items with their rows is a block: statements, modules, and regions with their releases.
use Rattle.std.proofs.Common.{◌≡◌, ◌+◌, ◌-◌, ◌*◌, ◌≤◌, ◌<◌, ℕ, suc, Bool, true, false, List, [], ◌∷◌, ◌++◌, length, length-append, refl, sym, ap, ◌∙◌, subst, inl, inr, arith, append-nil, Some, slice_get}
use Rattle.std.specs.Prelude.{if◌then◌else◌, ◌&&◌, ◌||◌}
use Rattle.std.proofs.lemmas.List.{append_assoc}
use Rattle.code_types.specs.declared.instr.Instr.{Instr}
use Rattle.code_types.specs.declared.instr.Instr.TheVariants as i
use Rattle.code_types.specs.declared.code.Code.{Code}
use Rattle.code_types.specs.declared.code.Handler.{Handler}
use Rattle.program_trees.specs.StatementTree.{StatementTree, statement, ActionTree, module_at, region_at, StatementNodes, no_statements, more_statements, HandlerNode}
use Rattle.code_scheme.specs.StatementSite.{Site, Standing}
use Rattle.code_scheme.specs.StatementGoing.{go_on, goes_on, handler_goes_on, joined}
use Rattle.code_scheme.specs.StatementSize.{statements_size, statement_size, handler_size}
use Rattle.code_scheme.specs.StatementCode.{statements_code, statement_code, handler_code}
use Rattle.code_scheme.specs.StatementRows.{statements_rows, statement_rows, handler_rows}
use Rattle.code_scheme.specs.BodyItems.{raised_in, raise_again_code, raise_again_rows, initialising_code, releasing_code, region_code, region_rows, items_code, item_code, item_action_code, items_rows, item_rows, item_action_rows}
use Rattle.code_scheme.specs.BodyCode.{heads_of, standing_in}
use Rattle.scheme_heights.specs.Stretches.{behind, Outlets}
use Rattle.scheme_heights.specs.Closed.{AreRowsIn, IsBlock, leads_out}
use Rattle.scheme_heights.specs.StatementCounts.{StatementsFit, StatementFits, HandlerFits, ItemsFit, ItemFits, ItemActionFits}
use Rattle.scheme_heights.proofs.Parts.{sized, end, cons}
use Rattle.scheme_heights.proofs.Joining.{behind-append}
use Rattle.scheme_heights.proofs.Closing.{inside_rest, rows_more, rows_both, wider}
use Rattle.scheme_heights.proofs.Blocks.{out_into, goes_out, exits_out, meets_first, plain_block, resized_block, follow_block, either_block, lead_block, last_block}
use Rattle.scheme_heights.proofs.Choosing.{StandsBefore, goes_same}
use Rattle.scheme_heights.proofs.Statements.{statements_hold, statement_holds, handler_node_holds}

-- ---- sizes that are counted

pub by_length : (heads : Code) (body : ℕ) (exits : List ℕ) (goes : Bool) (at n : ℕ) (is : List Instr) (rows : List Handler) → IsBlock heads body (leads_out goes (at + n) exits) at is rows n → IsBlock heads body (leads_out goes (at + length is) exits) at is rows (length is)
by_length heads body exits goes at n is rows block = subst (λ (k : ℕ). IsBlock heads body (leads_out goes (at + k) exits) at is rows k) (sym block.closed.count) block

-- rows behind those of a block
pub add_rows : (heads : Code) (body : ℕ) (outlets : Outlets) (at n : ℕ) (is : List Instr) (rows own : List Handler) → AreRowsIn heads at outlets at is own → IsBlock heads body outlets at is rows n → IsBlock heads body outlets at is (rows ++ own) n
add_rows heads body outlets at n is rows own known block = record { closed = block.closed; handled = rows_both heads at outlets at is rows own block.handled known }

-- ---- exceptions that are raised again

pair_block : (heads : Code) (body r x p place : ℕ) → IsBlock heads body (leads_out false place []) p (i.Leave r ∷ i.Raise x ∷ []) [] 2
pair_block heads body r x p place =
    lead_block heads body [] false p (p + 1) 1 1 place (i.Leave r ∷ []) (i.Raise x ∷ []) [] [] refl (plain_block [] (sized 1 refl (cons (omega arith) tt tt refl refl (end (omega arith)))))
    (last_block heads body [] (p + 1) place (i.Raise x) refl tt tt refl refl (omega arith))

pub raise_again_block : (heads : Code) (body r x : ℕ) (xs : List ℕ) (p place : ℕ) → IsBlock heads body (leads_out false place []) p (raise_again_code r (x ∷ xs)) [] (2 * suc (length xs))
raise_again_block heads body r x [] p place = resized_block (2 * suc 0) (omega arith) (pair_block heads body r x p place)
raise_again_block heads body r x (y ∷ ys) p place =
    resized_block (2 * suc (length (y ∷ ys))) (omega arith)
    (either_block heads body [] false false p (p + 2) 2 (2 * suc (length ys)) place (i.Leave r ∷ i.Raise x ∷ []) (raise_again_code r (y ∷ ys)) [] [] refl (pair_block heads body r x p place) (raise_again_block heads body r y ys (p + 2) place))

pub raise_again_length : (r : ℕ) (xs : List ℕ) → length (raise_again_code r xs) ≡ 2 * length xs
raise_again_length r [] = refl
raise_again_length r (x ∷ xs) = let l = raise_again_length r xs in omega (arith, l)

-- the rows for them
pub raise_rows_in : (heads : Code) (outlets : Outlets) (r low from until : ℕ) (xs : List ℕ) (p : ℕ) → low ≤ from → from ≤ until → until ≤ p → AreRowsIn heads low outlets p (raise_again_code r xs) (raise_again_rows from until xs p)
raise_rows_in heads outlets r low from until [] p first ordered last = tt
raise_rows_in heads outlets r low from until (x ∷ xs) p first ordered last = (
  record { from = first; ordered = ordered; behind_range = last; level = refl; target = inl (meets_first heads p (raise_again_code r (x ∷ xs)) (omega arith)) },
  rows_more heads low low outlets outlets (p + 2) p (raise_again_code r xs) (raise_again_code r (x ∷ xs)) (raise_again_rows from until xs (p + 2)) (omega arith)
      (λ to come. inside_rest heads p 0 (p + 2) 0 (i.Leave r ∷ i.Raise x ∷ []) (raise_again_code r xs) outlets outlets to 0 (omega arith) (omega arith) (λ out. inr out) come)
      (raise_rows_in heads outlets r low from until xs (p + 2) first ordered (omega (arith, last))),
)

-- ---- regions

-- a region is released behind its initialisations, over what is raised again
release_block : (heads : Code) (body r : ℕ) (xs : List ℕ) (p place : ℕ) → place ≡ p + (2 + 2 * length xs) → IsBlock heads body (leads_out true place []) p (i.Leave r ∷ i.Jump place ∷ raise_again_code r xs) [] (2 + 2 * length xs)
release_block heads body r xs p place there = go xs there
  where
    jump : p + 1 < place → IsBlock heads body (leads_out true place []) (p + 1) (i.Jump place ∷ []) [] 1
    jump forward = record {
      closed = record {
        moves = (record { operands = omega arith; named = tt; forward = forward; goes = λ on. absurd (let f : ⊥ = cc in f); jumps = λ to jump. inr (omega arith, inl (refl, let e : to ≡ place = cc in e)); ended = λ last. inr (omega arith) }, tt);
        entry = inl (meets_first heads (p + 1) (i.Jump place ∷ []) (omega arith));
        count = refl;
        leaves = omega arith;
      };
      handled = tt;
    }

    first : p + 1 < place → IsBlock heads body (leads_out true place []) p (i.Leave r ∷ i.Jump place ∷ []) [] 2
    first forward = lead_block heads body [] true p (p + 1) 1 1 place (i.Leave r ∷ []) (i.Jump place ∷ []) [] [] refl (plain_block [] (sized 1 refl (cons (omega arith) tt tt refl refl (end (omega arith))))) (jump forward)

    go : (xs : List ℕ) → place ≡ p + (2 + 2 * length xs) → IsBlock heads body (leads_out true place []) p (i.Leave r ∷ i.Jump place ∷ raise_again_code r xs) [] (2 + 2 * length xs)
    go [] there = resized_block (2 + 2 * 0) (omega arith) (first (omega (arith, there)))
    go (x ∷ xs) there = either_block heads body [] true false p (p + 2) 2 (2 * suc (length xs)) place (i.Leave r ∷ i.Jump place ∷ []) (raise_again_code r (x ∷ xs)) [] [] refl (first (omega (arith, there))) (raise_again_block heads body r x xs (p + 2) place)

region_block : (site : Site) (body : ℕ) (r : ℕ) (ss : StatementNodes) (h : HandlerNode) (at : ℕ) → slice_get site.program.bodies body ≡ Some site.body → StatementsFit site 0 ss → HandlerFits site 0 h
    → IsBlock (heads_of site.program) body (leads_out true (at + length (region_code (standing_in site) r ss h at)) []) at (region_code (standing_in site) r ss h at) (region_rows (standing_in site) r ss h at) (length (region_code (standing_in site) r ss h at))
region_block site body r ss h at is fits handled = by_length heads body [] true at (1 + (l + (2 + 2 * k))) code (region_rows w r ss h at) whole
  where
    heads : Code
    heads = heads_of site.program

    w : Standing
    w = standing_in site

    n : ℕ
    n = statements_size site ss

    inside : List Instr
    inside = initialising_code w ss h (at + 1)

    l : ℕ
    l = length inside

    xs : List ℕ
    xs = raised_in site.program inside

    k : ℕ
    k = length xs

    code : List Instr
    code = region_code w r ss h at

    q : ℕ
    q = at + 1 + l

    place : ℕ
    place = at + (1 + (l + (2 + 2 * k)))

    stands : (bound : ℕ) → StandsBefore body bound w
    stands bound = record { is_body = is; exits = tt }

    statements : IsBlock heads body (leads_out true (at + 1 + n) []) (at + 1) (statements_code w ss (at + 1)) (statements_rows site ss (at + 1)) n
    statements =
        wider (leads_out true (at + 1 + n) []) (out_into (go_on ss) (at + 1 + n) [] (leads_out true (at + 1 + n) []) (λ on. goes_out true (at + 1 + n) [] refl) (exits_out true (at + 1 + n) []))
        (let known = statements_hold ss in known.holds w body (at + 1) (at + 1 + n) (stands (at + 1 + n)) (omega arith) fits)

    first : IsBlock heads body (leads_out true (at + 1 + l) []) (at + 1) inside (statements_rows site ss (at + 1) ++ handler_rows site h true (at + 1) (at + 1 + n)) l
    first =
        let known = handler_node_holds h in
        by_length heads body [] true (at + 1) (joined n true (handler_size site h)) inside (statements_rows site ss (at + 1) ++ handler_rows site h true (at + 1) (at + 1 + n))
        (known.holds w body true (at + 1) n (at + 1 + n) (at + 1 + joined n true (handler_size site h)) (statements_code w ss (at + 1)) (statements_rows site ss (at + 1)) (stands (at + 1 + joined n true (handler_size site h))) refl (omega arith) handled statements)

    release : IsBlock heads body (leads_out true place []) q (i.Leave r ∷ i.Jump place ∷ raise_again_code r xs) [] (2 + 2 * k)
    release = release_block heads body r xs q place (omega arith)

    target : q + (2 * k + 2) ≡ place
    target = omega arith

    released : IsBlock heads body (leads_out true place []) (at + 1) (inside ++ releasing_code site.program r inside q) ((statements_rows site ss (at + 1) ++ handler_rows site h true (at + 1) (at + 1 + n)) ++ []) (l + (2 + 2 * k))
    released = lead_block heads body [] true (at + 1) q l (2 + 2 * k) place inside (releasing_code site.program r inside q) _ [] refl first (subst (λ (x : ℕ). IsBlock heads body (leads_out true place []) q (i.Leave r ∷ i.Jump x ∷ raise_again_code r xs) [] (2 + 2 * k)) (sym target) release)

    entered : IsBlock heads body (leads_out true place []) at code ((statements_rows site ss (at + 1) ++ handler_rows site h true (at + 1) (at + 1 + n)) ++ []) (1 + (l + (2 + 2 * k)))
    entered = lead_block heads body [] true at (at + 1) 1 (l + (2 + 2 * k)) place (i.Enter r ∷ []) (inside ++ releasing_code site.program r inside q) [] _ refl (plain_block [] (sized 1 refl (cons (omega arith) tt tt refl refl (end (omega arith))))) released

    before : List Instr
    before = i.Enter r ∷ (inside ++ i.Leave r ∷ i.Jump (q + (2 * k + 2)) ∷ [])

    again : List Handler
    again = raise_again_rows (at + 1) q xs (q + 2)

    same : before ++ raise_again_code r xs ≡ code
    same = ap (λ (is : List Instr). i.Enter r ∷ is) (append_assoc inside (i.Leave r ∷ i.Jump (q + (2 * k + 2)) ∷ []) (raise_again_code r xs))

    level : behind heads 0 before ≡ 0
    level = ap (λ (x : ℕ). behind heads x (inside ++ i.Leave r ∷ i.Jump (q + (2 * k + 2)) ∷ [])) (let e : 0 - 0 + 0 ≡ 0 = omega arith in e) ∙ (behind-append heads 0 inside (i.Leave r ∷ i.Jump (q + (2 * k + 2)) ∷ []) ∙ (ap (λ (x : ℕ). behind heads x (i.Leave r ∷ i.Jump (q + (2 * k + 2)) ∷ [])) first.closed.leaves ∙ (omega arith)))

    raised : AreRowsIn heads at (leads_out true place []) at code again
    raised =
        subst (λ (is : List Instr). AreRowsIn heads at (leads_out true place []) at is again) same
        (rows_more heads (at + 1) at (leads_out true place []) (leads_out true place []) (q + 2) at (raise_again_code r xs) (before ++ raise_again_code r xs) again (omega arith)
        (λ to come. inside_rest heads at 0 (q + 2) 0 before (raise_again_code r xs) (leads_out true place []) (leads_out true place []) to 0 (let c = length-append inside (i.Leave r ∷ i.Jump (q + (2 * k + 2)) ∷ []) in omega (arith, c)) level (λ out. inr out) come)
        (raise_rows_in heads (leads_out true place []) r (at + 1) (at + 1) q xs (q + 2) (omega arith) (omega arith) (omega arith)))

    whole : IsBlock heads body (leads_out true place []) at code (region_rows w r ss h at) (1 + (l + (2 + 2 * k)))
    whole =
        subst (λ (rs : List Handler). IsBlock heads body (leads_out true place []) at code rs (1 + (l + (2 + 2 * k)))) (append_assoc (statements_rows site ss (at + 1)) (handler_rows site h true (at + 1) (at + 1 + n)) again)
        (add_rows heads body (leads_out true place []) at (1 + (l + (2 + 2 * k))) code _ again raised (subst (λ (rs : List Handler). IsBlock heads body (leads_out true place []) at code rs (1 + (l + (2 + 2 * k)))) (append-nil (statements_rows site ss (at + 1) ++ handler_rows site h true (at + 1) (at + 1 + n))) entered))

-- ---- items

pub record ItemsHold (ss : StatementNodes) : Type 0 where
  pub holds : (site : Site) (body at : ℕ) → slice_get site.program.bodies body ≡ Some site.body → ItemsFit site ss
      → IsBlock (heads_of site.program) body (leads_out (go_on ss) (at + length (items_code (standing_in site) ss at)) []) at (items_code (standing_in site) ss at) (items_rows (standing_in site) ss at) (length (items_code (standing_in site) ss at))

record ItemHolds (s : StatementTree) : Type 0 where
  holds : (site : Site) (body at : ℕ) → slice_get site.program.bodies body ≡ Some site.body → ItemFits site s
      → IsBlock (heads_of site.program) body (leads_out (goes_on s) (at + length (item_code (standing_in site) s at)) []) at (item_code (standing_in site) s at) (item_rows (standing_in site) s at) (length (item_code (standing_in site) s at))

record ItemActionHolds (a : ActionTree) : Type 0 where
  holds : (site : Site) (body at : ℕ) (labelled : Bool) (h : HandlerNode) → slice_get site.program.bodies body ≡ Some site.body → ItemActionFits site labelled a h
      → IsBlock (heads_of site.program) body (leads_out (goes_on (statement labelled a h)) (at + length (item_action_code (standing_in site) labelled a h at)) []) at (item_action_code (standing_in site) labelled a h at) (item_action_rows (standing_in site) labelled a h at) (length (item_action_code (standing_in site) labelled a h at))

no_items_hold : ItemsHold no_statements
no_items_hold = record { holds = λ site body at is fits. plain_block [] (sized 0 refl (end refl)) }

more_items_hold : (s : StatementTree) (ss : StatementNodes) → ItemHolds s → ItemsHold ss → ItemsHold (more_statements s ss)
more_items_hold s ss first rest = record {
  holds = λ site body at is fits.
      let n = length (item_code (standing_in site) s at) in
      let m = length (items_code (standing_in site) ss (at + n)) in
      by_length (heads_of site.program) body [] (goes_on s && go_on ss) at (n + (if goes_on s then m else 0)) (items_code (standing_in site) (more_statements s ss) at) (items_rows (standing_in site) (more_statements s ss) at)
      (follow_block (heads_of site.program) body [] (goes_on s) (go_on ss) at n m _ _ _ _ (first.holds site body at is fits.0) (λ on. rest.holds site body (at + n) is fits.1));
}

-- a modulion's name is no label
module_goes : (labelled : Bool) (ss : StatementNodes) (h : HandlerNode) → (go_on ss || handler_goes_on h) ≡ goes_on (statement labelled (module_at ss) h)
module_goes true ss h = refl
module_goes false ss h = refl

region_goes : (labelled : Bool) (r : ℕ) (ss : StatementNodes) (h : HandlerNode) → true ≡ goes_on (statement labelled (region_at r ss) h)
region_goes true r ss h = refl
region_goes false r ss h = refl

module_holds : (ss : StatementNodes) → ItemsHold ss → ItemActionHolds (module_at ss)
module_holds ss items = record {
  holds = λ site body at labelled h is fits.
      let heads = heads_of site.program in
      let w = standing_in site in
      let code = items_code w ss at in
      let n = length code in
      let size = joined n (go_on ss) (handler_size site h) in
      let all = code ++ handler_code w h (go_on ss) (at + n) in
      let rows = items_rows w ss at ++ handler_rows site h (go_on ss) at (at + n) in
      let known = handler_node_holds h in
      let stands : StandsBefore body (at + size) w = record { is_body = is; exits = tt } in
      let block = known.holds w body (go_on ss) at n (at + n) (at + size) code (items_rows w ss at) stands refl (omega arith) fits.1 (items.holds site body at is fits.0) in
      goes_same heads body [] (at + length all) at (length all) all rows (go_on ss || handler_goes_on h) (goes_on (statement labelled (module_at ss) h)) (module_goes labelled ss h)
      (by_length heads body [] (go_on ss || handler_goes_on h) at size all rows block);
}

region_holds_at : (r : ℕ) (ss : StatementNodes) → ItemActionHolds (region_at r ss)
region_holds_at r ss = record {
  holds = λ site body at labelled h is fits.
      let code = region_code (standing_in site) r ss h at in
      goes_same (heads_of site.program) body [] (at + length code) at (length code) code (region_rows (standing_in site) r ss h at) true (goes_on (statement labelled (region_at r ss) h)) (region_goes labelled r ss h)
      (region_block site body r ss h at is fits.0 fits.1);
}

statement_item : (labelled : Bool) (a : ActionTree) (h : HandlerNode) (site : Site) (body at : ℕ) → slice_get site.program.bodies body ≡ Some site.body → StatementFits site 0 (statement labelled a h)
    → IsBlock (heads_of site.program) body (leads_out (goes_on (statement labelled a h)) (at + length (statement_code (standing_in site) (statement labelled a h) at)) []) at (statement_code (standing_in site) (statement labelled a h) at) (statement_rows site (statement labelled a h) at) (length (statement_code (standing_in site) (statement labelled a h) at))
statement_item labelled a h site body at is fits =
    let s = statement labelled a h in
    let n = statement_size site s in
    let known = statement_holds s in
    let stands : StandsBefore body (at + n) (standing_in site) = record { is_body = is; exits = tt } in
    by_length (heads_of site.program) body [] (goes_on s) at n (statement_code (standing_in site) s at) (statement_rows site s at) (known.holds (standing_in site) body at (at + n) stands (omega arith) fits)

-- not a modulion
abbrev pub IsPlain : ActionTree → Type 0
IsPlain (module_at ss) = ⊥
IsPlain (region_at r ss) = ⊥
IsPlain a = Unit {0}

plain_item_holds : (a : ActionTree) → IsPlain a → ItemActionHolds a
plain_item_holds (module_at ss) plain = absurd plain
plain_item_holds (region_at r ss) plain = absurd plain
plain_item_holds a plain = record { holds = λ site body at labelled h is fits. statement_item labelled a h site body at is fits }

item_statement_holds : (labelled : Bool) (a : ActionTree) (h : HandlerNode) → ItemActionHolds a → ItemHolds (statement labelled a h)
item_statement_holds labelled a h known = record { holds = λ site body at is fits. known.holds site body at labelled h is fits }

mutual
  pub items_hold : (ss : StatementNodes) → ItemsHold ss
  items_hold no_statements = no_items_hold
  items_hold (more_statements s ss) = more_items_hold s ss (item_holds s) (items_hold ss)

  item_holds : (s : StatementTree) → ItemHolds s
  item_holds (statement labelled a h) = item_statement_holds labelled a h (item_action_holds a)

  item_action_holds : (a : ActionTree) → ItemActionHolds a
  item_action_holds (module_at ss) = module_holds ss (items_hold ss)
  item_action_holds (region_at r ss) = region_holds_at r ss
  item_action_holds a = plain_item_holds a tt
