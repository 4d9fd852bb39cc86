-- A body of a program where it stands in the code: its surroundings, and the declarations with which it begins.
use Rattle.std.proofs.Common.{◌≡◌, ℕ, suc, ◌+◌, ◌≤◌, max, if◌then◌else◌, Bool, true, false, ◌&&◌, List, [], ◌∷◌, length, take, Some, slice_get, refl, sym, ap, ◌∙◌, subst, arith}
use Rattle.world_model.specs.Session.{Session}
use Rattle.checked_program.specs.declared.program.Parameter.{Parameter}
use Rattle.checked_program.specs.declared.program.Sort.{Sort}
use Rattle.checked_program.specs.declared.program.Sort.TheVariants.{Outermost, Process, Procedure}
use Rattle.program_trees.specs.ProgramTree.{LocalRowTree, BodyRowTree, CheckedTree}
use Rattle.program_trees.specs.StatementTree.{StatementTree, statement, ActionTree, set_lowest, StatementNodes, no_statements, more_statements, HandlerNode}
use Rattle.code_types.specs.declared.instr.Instr.{Instr}
use Rattle.code_types.specs.Agreement.{Agrees}
use Rattle.code_types.specs.State.{Frame, OpenRegion}
use Rattle.source_meaning.specs.Store.{Store, Taken, first_store}
use Rattle.source_meaning.specs.ExprMeaning.{Setting}
use Rattle.source_meaning.specs.StatementMeaning.{set_locals, statements_mean}
use Rattle.source_meaning.specs.BodyMeaning.{calls_in, setting_of, body_mean}
use Rattle.source_meaning.specs.Flow.{Flow, Goes}
use Rattle.source_meaning.specs.Talk.{parameter_scalars}
use Rattle.source_meaning.specs.Typed.{HasHead, IsTypedBody, around_body}
use Rattle.source_meaning.specs.TypedStatements.{AreTyped}
use Rattle.code_scheme.specs.StatementSite.{scalars_in as declared_in, declared_scalars, result_scalars}
use Rattle.code_scheme.specs.StatementGoing.{go_on, goes_on}
use Rattle.code_scheme.specs.StatementPlain.{way_out_code}
use Rattle.code_scheme.specs.BodyCode.{is_set_lowest, sets_lowest, behind_lowest, standing_in, body_code, body_row, locals_named, most_locals, site_in, code_of}
use Rattle.follow_laws.specs.Follows.{Around}
use Rattle.code_laws.specs.BodyBounds.{bodies_within}
use Rattle.code_laws.specs.Bodies.{DeclareBehind, StandsInBody}
use Rattle.code_laws.specs.Calls.{open_in, EnteredBelow, FitTaken, BodiesFollow, IsRowOf}
use Rattle.code_laws.specs.Expressions.{NamesIn}
use Rattle.code_laws.specs.StatementBounds.{OpenCallsWithin, statement_within, statements_within}
use Rattle.code_laws.specs.StatementsInRange.{FitsWhole}
use Rattle.code_laws.specs.Talk.{IsCompilable}
use Rattle.code_laws.proofs.BodyBegins.{same_sum}
use Rattle.code_laws.proofs.BodySkips.{skips_run}
use Rattle.code_laws.proofs.Values.{both_true}
use Rattle.body_code_laws.specs.Items.{StandsAtItems}
use Rattle.body_code_laws.proofs.BodyPlaces.{first_at, body_length, row_there, end_there}

-- where a body stands in a frame, if an EXIT leads to a place
abbrev pub around_in : CheckedTree → ℕ → ℕ → BodyRowTree → List Frame → List OpenRegion → ℕ → Around
around_in p instance k body below regions exit = record {
  code = code_of p;
  instance = instance;
  body = k;
  row = body_row (site_in p body) (first_at p p.bodies 0 k);
  below = below;
  regions = regions;
  rows = body.locals;
  results = result_scalars body;
  kept = [];
  exits = λ i. exit;
  way_out = way_out_code body;
}

abbrev pub setting_in : CheckedTree → ℕ → ℕ → BodyRowTree → List Frame → List OpenRegion → Setting
setting_in p instance n body below regions = setting_of body instance (calls_in p (body_mean p instance n) (suc (length below))) (open_in regions)

-- what is asked of a body of a program
pub record IsGoodBody (p : CheckedTree) (k : ℕ) (body : BodyRowTree) : Type 0 where
  pub compilable : IsCompilable p
  pub agrees : Agrees (code_of p)
  pub is_body : slice_get p.bodies k ≡ Some body

abbrev pub whole_of : {p : CheckedTree} {k : ℕ} {body : BodyRowTree} → IsGoodBody p k body → FitsWhole p body
whole_of {p} {k} {body} good = good.compilable.in_range.bodies k body good.is_body

pub items_stand : (p : CheckedTree) (instance k : ℕ) (body : BodyRowTree) (below : List Frame) (regions : List OpenRegion) (exit n : ℕ) → IsGoodBody p k body → (body.sort ≡ Outermost → regions ≡ [])
    → BodiesFollow p (code_of p) instance (body_mean p instance n) (bodies_within p instance n) → EnteredBelow (suc (length below)) regions
    → StandsAtItems (around_in p instance k body below regions exit) (setting_in p instance n body below regions) (standing_in (site_in p body)) (body_mean p instance n) (bodies_within p instance n)
items_stand p instance k body below regions exit n good closed follow entered =
    record {
      stands = record {
        suited = record { instance = refl; rows = refl; open_now = refl; calls = refl; follow = follow; entered = entered };
        rows = refl;
        free = omega (arith, same_sum body.locals);
        results = refl;
        exits = λ i low. absurd (let no : ⊥ = omega (arith, low) in no);
        way_out = refl;
      };
      unlabelled = refl;
      compilable = good.compilable;
      code = refl;
      closed = closed;
    }

pub names_there : (p : CheckedTree) (instance k : ℕ) (body : BodyRowTree) (below : List Frame) (regions : List OpenRegion) (exit : ℕ) → IsGoodBody p k body
    → NamesIn (around_in p instance k body below regions exit) (first_at p p.bodies 0 k) (first_at p p.bodies 0 k + body_length p body (first_at p p.bodies 0 k))
names_there p instance k body below regions exit good place instr low high is =
    good.agrees.named k (body_row (site_in p body) (first_at p p.bodies 0 k)) place instr
    (record { is_body = row_there p k body good.is_body; from = low; until = (let end = end_there p k body good.is_body in omega (arith, high, end)); is_instr = is })

most_more : (n : ℕ) (is : List Instr) → n ≤ most_locals n is
most_more n [] = omega arith
most_more n (x ∷ is) = let m = most_more (max n (locals_named x)) is in omega (arith, m)

pub frame_stands : (p : CheckedTree) (instance k : ℕ) (body : BodyRowTree) (below : List Frame) (regions : List OpenRegion) (exit : ℕ) → IsGoodBody p k body
    → StandsInBody (around_in p instance k body below regions exit) body
frame_stands p instance k body below regions exit good =
    let first : ℕ = first_at p p.bodies 0 k in
    let many = most_more (declared_scalars body + result_scalars body) (body_code (site_in p body) first) in
    let same = (whole_of good).result in
    record { rows = refl; results = same; kept = refl; room = omega (arith, many, same, same_sum body.locals) }

params_same : (rows : List LocalRowTree) (ps : List Parameter) → length ps ≤ length rows → declared_in (take (length ps) rows) ≡ parameter_scalars rows ps
params_same rows [] few = refl
params_same [] (q ∷ ps) few = absurd (let no : ⊥ = omega (arith, few) in no)
params_same (row ∷ rows) (q ∷ ps) few = ap (λ (n : ℕ). row.count + n) (params_same rows ps (omega (arith, few)))

pub row_is : (p : CheckedTree) (k : ℕ) (body : BodyRowTree) → IsGoodBody p k body → IsRowOf body (body_row (site_in p body) (first_at p p.bodies 0 k))
row_is p k body good = record { params = params_same body.locals body.parameters (whole_of good).parameters; listed = refl }

pub entered_more : (n : ℕ) (qs : List OpenRegion) → EnteredBelow n qs → EnteredBelow (suc n) qs
entered_more n [] below = tt
entered_more n (q ∷ qs) below = (omega (arith, below.0), entered_more n qs below.1)

-- ---- behind the declarations with which a body begins

-- what holds of statements holds of those
pub holds_behind : (P : StatementNodes → Type 0) → ((s : StatementTree) (ss : StatementNodes) → P (more_statements s ss) → P ss) → (ss : StatementNodes) → P ss → P (behind_lowest ss)
holds_behind P tail no_statements h = h
holds_behind P tail (more_statements s ss) h = by_lowest (sets_lowest s) (holds_behind P tail ss (tail s ss h))
  where
    by_lowest : (t : Bool) → P (behind_lowest ss) → P (if t then behind_lowest ss else more_statements s ss)
    by_lowest true others = others
    by_lowest false others = h

lowest_goes : (t : Bool) (a : ActionTree) (h : HandlerNode) → is_set_lowest a ≡ true → goes_on (statement t a h) ≡ true
lowest_goes true (set_lowest locals xs) h is = refl
lowest_goes false (set_lowest locals xs) h is = refl
lowest_goes t a h is = absurd (let no : ⊥ = cc in no)

first_goes : (s : StatementTree) → sets_lowest s ≡ true → goes_on s ≡ true
first_goes (statement t a h) is = lowest_goes t a h is

-- control comes behind them as it does behind all
pub goes_behind : (ss : StatementNodes) → go_on (behind_lowest ss) ≡ go_on ss
goes_behind no_statements = refl
goes_behind (more_statements s ss) = by_lowest (sets_lowest s) refl (goes_behind ss)
  where
    by_lowest : (t : Bool) → sets_lowest s ≡ t → go_on (behind_lowest ss) ≡ go_on ss → go_on (if t then behind_lowest ss else more_statements s ss) ≡ (goes_on s && go_on ss)
    by_lowest true is others = others ∙ ap (λ (g : Bool). g && go_on ss) (sym (first_goes s is))
    by_lowest false is others = refl

same_store : (a b : Store) (s : Session) (o : Flow (Unit {0})) → o ≡ Goes tt a s → o ≡ Goes tt b s → a ≡ b
same_store a b s o e f = cc

-- what a body is of says nothing of its statements
head_alike : (p : CheckedTree) (k : ℕ) (body : BodyRowTree) (ss : StatementNodes) (sort : Sort) → HasHead p k body sort → HasHead p k (record body { statements = ss }) sort
head_alike p k body ss Outermost head = (head.0, record { alone = head.1.alone; result = head.1.result; listed = head.1.listed; passed = head.1.passed }, head.2)
head_alike p k body ss Process head = (head.0, record { alone = head.1.alone; result = head.1.result; listed = head.1.listed; passed = head.1.passed })
head_alike p k body ss Procedure head = head

-- such a declaration leaves the first store as it is
declared_same : (p : CheckedTree) (k : ℕ) (body : BodyRowTree) (s : StatementTree) (v : Setting) (n : ℕ) (ts : List Taken) (session : Session)
    → IsTypedBody p k body → AreTyped (around_body p body) (more_statements s no_statements) → DeclareBehind (length body.parameters) (more_statements s no_statements) → FitTaken body.locals body.parameters ts
    → statements_mean v n (more_statements s no_statements) (first_store body ts) session ≡ statements_mean v n (behind_lowest (more_statements s no_statements)) (first_store body ts) session
declared_same p k body s v n ts session typed one declared fit =
    skips_run p k (record body { statements = more_statements s no_statements }) v n ts session
    (record { head = head_alike p k body (more_statements s no_statements) body.sort typed.head; result = typed.result; locals = typed.locals; parameters = typed.parameters; statements = one; handler = typed.handler }) declared fit

-- each value along them keeps within, where it does along all
pub within_behind : (p : CheckedTree) (k : ℕ) (body : BodyRowTree) (v : Setting) (c : OpenCallsWithin) (n : ℕ) (ts : List Taken) (ss : StatementNodes) (s : Session)
    → IsTypedBody p k body → AreTyped (around_body p body) ss → DeclareBehind (length body.parameters) ss → FitTaken body.locals body.parameters ts
    → statements_within v c n ss (first_store body ts) s ≡ true → statements_within v c n (behind_lowest ss) (first_store body ts) s ≡ true
within_behind p k body v c n ts no_statements s typed are declared fit within = within
within_behind p k body v c n ts (more_statements (statement true (set_lowest locals xs) h) ss) s typed are declared fit within =
    let same : set_locals locals xs (first_store body ts) ≡ first_store body ts = same_store _ _ s _ refl (declared_same p k body (statement true (set_lowest locals xs) h) v n ts s typed (are.0, tt) (declared.0, tt) fit) in
    within_behind p k body v c n ts ss s typed are.1 declared.1 fit (subst (λ (store : Store). statements_within v c n ss store s ≡ true) same (both_true (statement_within v c n (statement true (set_lowest locals xs) h) (first_store body ts) s) (statements_within v c n ss (set_locals locals xs (first_store body ts)) s) within).1)
within_behind p k body v c n ts (more_statements (statement false (set_lowest locals xs) h) ss) s typed are declared fit within =
    let same : set_locals locals xs (first_store body ts) ≡ first_store body ts = same_store _ _ s _ refl (declared_same p k body (statement false (set_lowest locals xs) h) v n ts s typed (are.0, tt) (declared.0, tt) fit) in
    within_behind p k body v c n ts ss s typed are.1 declared.1 fit (subst (λ (store : Store). statements_within v c n ss store s ≡ true) same (both_true (statement_within v c n (statement false (set_lowest locals xs) h) (first_store body ts) s) (statements_within v c n ss (set_locals locals xs (first_store body ts)) s) within).1)
within_behind p k body v c n ts (more_statements (statement t a h) ss) s typed are declared fit within = within
