-- The code of a body with its rows is a block out of which nothing leads.
use Rattle.std.proofs.Common.{◌≡◌, ◌+◌, ◌-◌, ◌*◌, ◌≤◌, ℕ, zero, suc, Bool, true, false, List, [], ◌∷◌, ◌++◌, ℤ, length, length-append, refl, sym, ap, ◌∙◌, subst, inr, arith, append-nil, Option, Some, None, slice_get}
use Rattle.std.specs.Prelude.{if◌then◌else◌, ◌&&◌, drop}
use Rattle.std.proofs.lemmas.List.{append_assoc}
use Rattle.modes.specs.ModeTree.{ModeTree}
use Rattle.modes.specs.Scalars.{lowest_of}
use Rattle.code_types.specs.declared.instr.Instr.{Instr}
use Rattle.code_types.specs.declared.instr.Instr.TheVariants as i
use Rattle.code_types.specs.declared.code.Code.{Code}
use Rattle.code_types.specs.declared.code.Handler.{Handler}
use Rattle.program_trees.specs.ProgramTree.{LocalRowTree, BodyRowTree, CheckedTree}
use Rattle.program_trees.specs.StatementTree.{StatementTree, statement, ActionTree, set_lowest, StatementNodes, no_statements, more_statements, HandlerNode}
use Rattle.code_scheme.specs.Pieces.{scalars_code}
use Rattle.code_scheme.specs.StatementSite.{Site, declared_scalars}
use Rattle.code_scheme.specs.StatementGoing.{go_on, goes_on, joined}
use Rattle.code_scheme.specs.StatementPlain.{entered_by, way_out_code}
use Rattle.code_scheme.specs.StatementSize.{handler_size}
use Rattle.code_scheme.specs.BodyItems.{raise_again_code, raise_again_rows, items_rows}
use Rattle.code_scheme.specs.BodyCode.{lowest_value_code, locals_code, lowest_result_code, lowest_code, is_set_lowest, sets_lowest, behind_lowest, standing_in, items_of, guarded_code, guarded_rows, comes_to_end, end_code, raised_again, doing_code, doing_rows, body_code, body_handlers, heads_of, site_in}
use Rattle.scheme_heights.specs.Stretches.{behind}
use Rattle.scheme_heights.specs.Closed.{AreRowsIn, IsBlock, leads_out}
use Rattle.scheme_heights.specs.StatementCounts.{ItemsFit, AreFew, IsFew, BodyFits}
use Rattle.scheme_heights.proofs.Joining.{join}
use Rattle.scheme_heights.proofs.Parts.{Stretch, resized, sized, end, cons, scalars_stretch}
use Rattle.scheme_heights.proofs.Closing.{inside_rest, rows_more, wider}
use Rattle.scheme_heights.proofs.Blocks.{out_into, exits_out, plain_block, resized_block, either_block, lead_block}
use Rattle.scheme_heights.proofs.Choosing.{StandsBefore, goes_same}
use Rattle.scheme_heights.proofs.Statements.{handler_node_holds}
use Rattle.scheme_heights.proofs.Items.{by_length, add_rows, raise_again_block, raise_rows_in, items_hold}
use Rattle.scheme_heights.proofs.WayOut.{way_out_block}

-- ---- lowest values

value_if : (heads : Code) (body at height : ℕ) (xs : List ℤ) (first : ℕ) (none : Bool) → length xs ≤ 4294967295 → Stretch heads body at height (if none then [] else scalars_code xs ++ i.SetLocal first (length xs) ∷ []) height
value_if heads body at height xs first true few = end refl
value_if heads body at height xs first false few =
    let n = length (scalars_code xs) in
    resized (join heads body at height (scalars_code xs) (i.SetLocal first (length xs) ∷ []) n 1 (height + length xs) height (at + n) (n + 1) refl refl (sized n refl (scalars_stretch heads body at height xs few)) (sized 1 refl (cons (omega arith) tt tt refl refl (end (omega arith)))))

locals_stretch : (heads : Code) (body at height : ℕ) (rows : List LocalRowTree) → AreFew rows → Stretch heads body at height (locals_code rows) height
locals_stretch heads body at height [] few = end refl
locals_stretch heads body at height (row ∷ rows) few =
    let n = length (lowest_value_code (lowest_of row.mode) row.first) in
    resized (join heads body at height (lowest_value_code (lowest_of row.mode) row.first) (locals_code rows) n (length (locals_code rows)) height height (at + n) (n + length (locals_code rows)) refl refl (value_if heads body at height (lowest_of row.mode) row.first _ few.0) (locals_stretch heads body (at + n) height rows few.1))

result_lowest : (heads : Code) (body at height : ℕ) (m : Option ModeTree) (first : ℕ) → IsFew m → Stretch heads body at height (lowest_result_code m first) height
result_lowest heads body at height None first few = end refl
result_lowest heads body at height (Some m) first few = value_if heads body at height (lowest_of m) first _ few

drop_few : (n : ℕ) (rows : List LocalRowTree) → AreFew rows → AreFew (drop n rows)
drop_few zero rows few = few
drop_few (suc n) [] few = tt
drop_few (suc n) (row ∷ rows) few = drop_few n rows few.1

lowest_of_body : (heads : Code) (body at : ℕ) (b : BodyRowTree) → AreFew b.locals → IsFew b.result → Stretch heads body at 0 (lowest_code b) 0
lowest_of_body heads body at b few result =
    let locals = locals_code (drop (length b.parameters) b.locals) in
    let n = length locals in
    let m = length (lowest_result_code b.result (declared_scalars b)) in
    resized (join heads body at 0 locals (lowest_result_code b.result (declared_scalars b)) n m 0 0 (at + n) (n + m) refl refl (locals_stretch heads body at 0 (drop (length b.parameters) b.locals) (drop_few (length b.parameters) b.locals few)) (result_lowest heads body (at + n) 0 b.result (declared_scalars b) result))

-- ---- declarations without a value that stand first

lowest_goes : (a : ActionTree) (labelled : Bool) (h : HandlerNode) → is_set_lowest a ≡ true → goes_on (statement labelled a h) ≡ true
lowest_goes (set_lowest locals xs) true h is = refl
lowest_goes (set_lowest locals xs) false h is = refl
lowest_goes a labelled h is = absurd (let f : ⊥ = cc in f)

first_goes : (s : StatementTree) → sets_lowest s ≡ true → goes_on s ≡ true
first_goes (statement labelled a h) is = lowest_goes a labelled h is

-- behind them control goes on as behind all
record Trims (ss : StatementNodes) : Type 0 where
  goes : go_on (behind_lowest ss) ≡ go_on ss
  fits : (site : Site) → ItemsFit site ss → ItemsFit site (behind_lowest ss)

trims : (ss : StatementNodes) → Trims ss
trims no_statements = record { goes = refl; fits = λ site fits. fits }
trims (more_statements s ss) = either (sets_lowest s) refl (trims ss)
  where
    either : (first : Bool) → sets_lowest s ≡ first → Trims ss → Trims (more_statements s ss)
    either true is rest = record {
      goes = ap (λ (b : Bool). go_on (if b then behind_lowest ss else more_statements s ss)) is ∙ (rest.goes ∙ ap (λ (b : Bool). b && go_on ss) (sym (first_goes s is)));
      fits = λ site fits. subst (λ (b : Bool). ItemsFit site (if b then behind_lowest ss else more_statements s ss)) (sym is) (rest.fits site fits.1);
    }
    either false is rest = record {
      goes = ap (λ (b : Bool). go_on (if b then behind_lowest ss else more_statements s ss)) is;
      fits = λ site fits. subst (λ (b : Bool). ItemsFit site (if b then behind_lowest ss else more_statements s ss)) (sym is) fits;
    }

-- ---- bodies

guarded_block : (p : CheckedTree) (b : BodyRowTree) (body at : ℕ) → slice_get p.bodies body ≡ Some b → BodyFits p b
    → IsBlock (heads_of p) body (leads_out (comes_to_end b) (at + length (guarded_code (site_in p b) at)) []) at (guarded_code (site_in p b) at) (guarded_rows (site_in p b) at) (length (guarded_code (site_in p b) at))
guarded_block p b body at is fits =
    let site = site_in p b in
    let heads = heads_of p in
    let w = standing_in site in
    let ss = behind_lowest b.statements in
    let trim = trims b.statements in
    let items = items_hold ss in
    let code = items_of site at in
    let n = length code in
    let size = joined n (go_on b.statements) (handler_size site b.handler) in
    let first = goes_same heads body [] (at + n) at n code (items_rows w ss at) (go_on ss) (go_on b.statements) trim.goes (items.holds site body at is (trim.fits site fits.items)) in
    let known = handler_node_holds b.handler in
    let stands : StandsBefore body (at + size) w = record { is_body = is; exits = tt } in
    by_length heads body [] (comes_to_end b) at size (guarded_code site at) (guarded_rows site at)
    (known.holds w body (go_on b.statements) at n (at + n) (at + size) code (items_rows w ss at) stands refl (omega arith) fits.handled first)

-- a block with the way out behind it, where control comes
ended : (p : CheckedTree) (b : BodyRowTree) (body at n place : ℕ) (comes : Bool) (is : List Instr) (rows : List Handler) → slice_get p.bodies body ≡ Some b → IsBlock (heads_of p) body (leads_out comes (at + n) []) at is rows n
    → IsBlock (heads_of p) body (leads_out false place []) at (is ++ (if comes then way_out_code b else [])) rows (n + length (if comes then way_out_code b else []))
ended p b body at n place true is rows there block =
    subst (λ (rs : List Handler). IsBlock (heads_of p) body (leads_out false place []) at (is ++ way_out_code b) rs (n + length (way_out_code b))) (append-nil rows)
    (lead_block (heads_of p) body [] false at (at + n) n (length (way_out_code b)) place is (way_out_code b) rows [] refl block (way_out_block p body b [] (at + n) place b.sort there))
ended p b body at n place false is rows there block =
    subst (λ (js : List Instr). IsBlock (heads_of p) body (leads_out false place []) at js rows (n + 0)) (sym (append-nil is))
    (resized_block (n + 0) (omega arith) (wider (leads_out false place []) (out_into false (at + n) [] (leads_out false place []) (λ on. absurd (let f : ⊥ = cc in f)) (exits_out false place [])) block))

-- a block with what is raised again behind it
raised_behind : (heads : Code) (body r at n place : ℕ) (is : List Instr) (rows : List Handler) (xs : List ℕ) → IsBlock heads body (leads_out false place []) at is rows n
    → IsBlock heads body (leads_out false place []) at (is ++ raise_again_code r xs) rows (n + 2 * length xs)
raised_behind heads body r at n place is rows [] block =
    subst (λ (js : List Instr). IsBlock heads body (leads_out false place []) at js rows (n + 2 * 0)) (sym (append-nil is)) (resized_block (n + 2 * 0) (omega arith) block)
raised_behind heads body r at n place is rows (x ∷ xs) block =
    subst (λ (rs : List Handler). IsBlock heads body (leads_out false place []) at (is ++ raise_again_code r (x ∷ xs)) rs (n + 2 * suc (length xs))) (append-nil rows)
    (either_block heads body [] false false at (at + n) n (2 * suc (length xs)) place is (raise_again_code r (x ∷ xs)) rows [] refl block (raise_again_block heads body r x xs (at + n) place))

doing_block : (p : CheckedTree) (b : BodyRowTree) (body at place : ℕ) (region : Option ℕ) → slice_get p.bodies body ≡ Some b → BodyFits p b
    → IsBlock (heads_of p) body (leads_out false place []) at (doing_code region (site_in p b) at) (doing_rows region (site_in p b) at) (length (doing_code region (site_in p b) at))
doing_block p b body at place None is fits =
    let site = site_in p b in
    let n = length (guarded_code site at) in
    let block = ended p b body at n place (comes_to_end b) (guarded_code site at) (guarded_rows site at) is (guarded_block p b body at is fits) in
    resized_block (length (doing_code None site at)) (sym block.closed.count) block
doing_block p b body at place (Some r) is fits = resized_block (length code) (sym entered.closed.count) rowed
  where
    site : Site
    site = site_in p b

    heads : Code
    heads = heads_of p

    guarded : List Instr
    guarded = guarded_code site (at + 1)

    n : ℕ
    n = length guarded

    out : List Instr
    out = end_code b

    xs : List ℕ
    xs = raised_again site (at + 1)

    code : List Instr
    code = doing_code (Some r) site at

    inner : IsBlock heads body (leads_out false place []) (at + 1) (guarded ++ out) (guarded_rows site (at + 1)) (n + length out)
    inner = ended p b body (at + 1) n place (comes_to_end b) guarded (guarded_rows site (at + 1)) is (guarded_block p b body (at + 1) is fits)

    raised : IsBlock heads body (leads_out false place []) (at + 1) (guarded ++ (out ++ raise_again_code r xs)) (guarded_rows site (at + 1)) (n + length out + 2 * length xs)
    raised = subst (λ (js : List Instr). IsBlock heads body (leads_out false place []) (at + 1) js (guarded_rows site (at + 1)) (n + length out + 2 * length xs)) (append_assoc guarded out (raise_again_code r xs)) (raised_behind heads body r (at + 1) (n + length out) place (guarded ++ out) (guarded_rows site (at + 1)) xs inner)

    entered : IsBlock heads body (leads_out false place []) at code (guarded_rows site (at + 1)) (1 + (n + length out + 2 * length xs))
    entered = lead_block heads body [] false at (at + 1) 1 (n + length out + 2 * length xs) place (i.Enter r ∷ []) _ [] (guarded_rows site (at + 1)) refl (plain_block [] (sized 1 refl (cons (omega arith) tt tt refl refl (end (omega arith))))) raised

    again : List Handler
    again = raise_again_rows (at + 1) (at + 1 + n) xs (at + 1 + n + length out)

    before : List Instr
    before = i.Enter r ∷ (guarded ++ out)

    same : before ++ raise_again_code r xs ≡ code
    same = ap (λ (js : List Instr). i.Enter r ∷ js) (append_assoc guarded out (raise_again_code r xs))

    level : behind heads 0 before ≡ 0
    level = ap (λ (x : ℕ). behind heads x (guarded ++ out)) (let e : 0 - 0 + 0 ≡ 0 = omega arith in e) ∙ inner.closed.leaves

    rows_known : AreRowsIn heads at (leads_out false place []) at code again
    rows_known =
        subst (λ (js : List Instr). AreRowsIn heads at (leads_out false place []) at js again) same
        (rows_more heads (at + 1) at (leads_out false place []) (leads_out false place []) (at + 1 + n + length out) at (raise_again_code r xs) (before ++ raise_again_code r xs) again (omega arith)
        (λ to come. inside_rest heads at 0 (at + 1 + n + length out) 0 before (raise_again_code r xs) (leads_out false place []) (leads_out false place []) to 0 (let c = length-append guarded out in omega (arith, c)) level (λ go. inr go) come)
        (raise_rows_in heads (leads_out false place []) r (at + 1) (at + 1) (at + 1 + n) xs (at + 1 + n + length out) (omega arith) (omega arith) (omega arith)))

    rowed : IsBlock heads body (leads_out false place []) at code (doing_rows (Some r) site at) (1 + (n + length out + 2 * length xs))
    rowed = add_rows heads body (leads_out false place []) at (1 + (n + length out + 2 * length xs)) code (guarded_rows site (at + 1)) again rows_known entered

-- nothing leads out of a body
pub body_block : (p : CheckedTree) (b : BodyRowTree) (body at place : ℕ) → slice_get p.bodies body ≡ Some b → BodyFits p b
    → IsBlock (heads_of p) body (leads_out false place []) at (body_code (site_in p b) at) (body_handlers (site_in p b) at) (length (body_code (site_in p b) at))
body_block p b body at place is fits =
    let site = site_in p b in
    let n = length (lowest_code b) in
    let m = length (doing_code (entered_by b) site (at + n)) in
    let block = lead_block (heads_of p) body [] false at (at + n) n m place (lowest_code b) (doing_code (entered_by b) site (at + n)) [] (doing_rows (entered_by b) site (at + n)) refl (plain_block [] (lowest_of_body (heads_of p) body at b fits.locals fits.result)) (doing_block p b body (at + n) place (entered_by b) is fits) in
    resized_block (length (body_code site at)) (sym block.closed.count) block
