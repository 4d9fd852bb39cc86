-- The items of bodies: statements, and modules with their handlers.
use Rattle.std.proofs.Common.{◌≡◌, ℕ, ◌+◌, if◌then◌else◌, Bool, true, false, ◌&&◌, ◌||◌, List, [], ◌++◌, length, refl, sym, ap, ◌∙◌, subst, arith, append-nil, length-append}
use Rattle.program_trees.specs.StatementTree.{StatementTree, statement, ActionTree, module_at, region_at, StatementNodes, no_statements, more_statements, HandlerNode}
use Rattle.code_types.specs.declared.instr.Instr.{Instr}
use Rattle.code_types.specs.declared.code.Handler.{Handler}
use Rattle.source_meaning.specs.StatementMeaning.{caught, handler_mean, statement_mean, statements_mean}
use Rattle.code_scheme.specs.StatementSite.{Site, Standing}
use Rattle.code_scheme.specs.StatementGoing.{is_modulion, go_on, goes_on, handler_goes_on, leave_size}
use Rattle.code_scheme.specs.StatementSize.{statement_size, handler_size}
use Rattle.code_scheme.specs.StatementCode.{statement_code, handler_code}
use Rattle.code_scheme.specs.StatementRows.{statement_rows}
use Rattle.code_scheme.specs.BodyItems.{items_code, item_code, item_action_code, items_rows, item_rows, item_action_rows}
use Rattle.follow_laws.specs.Follows.{HasAt}
use Rattle.follow_laws.proofs.Running.{has_front, has_back}
use Rattle.code_laws.specs.Expressions.{NamesIn}
use Rattle.code_laws.specs.StatementBounds.{where_raises, statement_within, statements_within, handler_within}
use Rattle.code_laws.specs.StatementsInRange.{FitsItemAction, FitsStatement, FitsHandler}
use Rattle.code_laws.specs.Statements.{calls_from}
use Rattle.code_laws.specs.Counters.{statements_keep, statement_keeps, action_keeps, handler_keeps}
use Rattle.code_laws.proofs.Values.{both_true}
use Rattle.statement_code_laws.specs.Parts.{Acts}
use Rattle.statement_code_laws.specs.StatementForms.{StatementActs, HandlerActs}
use Rattle.statement_code_laws.proofs.Lengths.{statement_length, handler_length}
use Rattle.statement_code_laws.proofs.Joining.{no_part, order_acts, alone_acts}
use Rattle.statement_code_laws.proofs.ChoiceRuns.{names_inside}
use Rattle.statement_code_laws.proofs.StatementRuns.{looping_law, statement_join, handler_join}
use Rattle.body_code_laws.specs.Items.{NameNoRegion, IsNoRegion, ItemActs, ItemsAct, RegionsAct, RegionsActIn, EachRegionActs, ItemsLaw, InitialisationsLaw}
use Rattle.body_code_laws.proofs.GuardedRuns.{resized, guarded}

-- ---- items that are statements

code_is : (st : Standing) (t : Bool) (a : ActionTree) (h : HandlerNode) (at : ℕ) → is_modulion a ≡ false → item_action_code st t a h at ≡ statement_code st (statement t a h) at
code_is st t (module_at ss) h at plain = absurd (let no : ⊥ = cc in no)
code_is st t (region_at r ss) h at plain = absurd (let no : ⊥ = cc in no)
code_is st t a h at plain = refl

rows_are : (st : Standing) (t : Bool) (a : ActionTree) (h : HandlerNode) (at : ℕ) → is_modulion a ≡ false → item_action_rows st t a h at ≡ statement_rows st.site (statement t a h) at
rows_are st t (module_at ss) h at plain = absurd (let no : ⊥ = cc in no)
rows_are st t (region_at r ss) h at plain = absurd (let no : ⊥ = cc in no)
rows_are st t a h at plain = refl

fits_as : (site : Site) (t : Bool) (a : ActionTree) (h : HandlerNode) → is_modulion a ≡ false → FitsItemAction site t a h → FitsStatement site 0 (statement t a h)
fits_as site t (module_at ss) h plain fits = absurd (let no : ⊥ = cc in no)
fits_as site t (region_at r ss) h plain fits = absurd (let no : ⊥ = cc in no)
fits_as site t a h plain fits = fits

-- an item that is a statement
plain_act : (t : Bool) (a : ActionTree) (h : HandlerNode) → is_modulion a ≡ false → StatementActs (statement t a h) → ItemActs (statement t a h)
plain_act t a h plain act w v st bodies inside n from stands names fits typed has =
    let code : List Instr = item_action_code st t a h from in
    let same : code ≡ statement_code st (statement t a h) from = code_is st t a h from plain in
    let fits0 : FitsStatement st.site 0 (statement t a h) = fits_as st.site t a h plain fits in
    let fits1 : FitsStatement st.site (length st.exits) (statement t a h) = subst (λ (k : ℕ). FitsStatement st.site k (statement t a h)) (sym (ap length stands.unlabelled)) fits0 in
    let long : from + length code ≡ from + statement_size st.site (statement t a h) = ap (λ (is : List Instr). from + length is) same ∙ ap (λ (j : ℕ). from + j) (statement_length st 0 (statement t a h) from fits0) in
    let acting = act w v st bodies inside n from stands.stands (subst (λ (j : ℕ). NamesIn w from j) long names) fits1 (subst (λ (is : List Instr). HasAt w.code.instrs from is) same has) in
    resized (from + statement_size st.site (statement t a h)) (from + length code) (sym long)
    (subst (λ (rows : List Handler). Acts w from (from + statement_size st.site (statement t a h)) rows (from + statement_size st.site (statement t a h)) (goes_on (statement t a h)) (statement_within v (calls_from inside w) n (statement t a h)) (statement_mean v n (statement t a h)))
    (sym (rows_are st t a h from plain)) acting)

-- ---- modules

module_goes : (t : Bool) (ss : StatementNodes) (h : HandlerNode) → (go_on ss || handler_goes_on h) ≡ goes_on (statement t (module_at ss) h)
module_goes true ss h = refl
module_goes false ss h = refl

module_act : (t : Bool) (ss : StatementNodes) (h : HandlerNode) → ItemsAct ss → HandlerActs h → ItemActs (statement t (module_at ss) h)
module_act t ss h items handled w v st bodies inside n from stands names fits typed has =
    let code : List Instr = items_code st ss from in
    let until : ℕ = from + length code in
    let own : List Instr = handler_code st h (go_on ss) until in
    let size : ℕ = handler_size st.site h in
    let behind : ℕ = until + (leave_size (go_on ss) size + size) in
    let whole : ℕ = from + length (code ++ own) in
    let long : behind ≡ whole = omega (arith, length-append code own, handler_length st 0 h (go_on ss) until fits.1) in
    let names1 : NamesIn w from behind = subst (λ (j : ℕ). NamesIn w from j) (sym long) names in
    let fits1 : FitsHandler st.site (length st.exits) h = subst (λ (k : ℕ). FitsHandler st.site k h) (sym (ap length stands.unlabelled)) fits.1 in
    let inner = items w v st bodies inside n from stands (names_inside w from behind from until (omega arith) (omega arith) names1) fits.0 typed.1 (has_front w.code.instrs from code own has) in
    let both = guarded w v st bodies inside n from until (items_rows st ss from) (go_on ss) (statements_within v (calls_from inside w) n ss) (statements_mean v n ss) h
    stands.stands inner handled fits1 (omega arith) names1 (has_back w.code.instrs from until code own refl has) in
    labelled_too t (resized behind whole long both)
  where
    labelled_too : (u : Bool) → Acts w from (from + length (item_action_code st t (module_at ss) h from)) (item_action_rows st t (module_at ss) h from) (from + length (item_action_code st t (module_at ss) h from)) (go_on ss || handler_goes_on h)
        (λ store s. statements_within v (calls_from inside w) n ss store s && where_raises (statements_mean v n ss store s) (handler_within v (calls_from inside w) n h)) (λ store s. caught (statements_mean v n ss store s) (handler_mean v n h))
        → Acts w from (from + length (item_action_code st t (module_at ss) h from)) (item_action_rows st t (module_at ss) h from) (from + length (item_action_code st t (module_at ss) h from)) (goes_on (statement u (module_at ss) h)) (statement_within v (calls_from inside w) n (statement u (module_at ss) h)) (statement_mean v n (statement u (module_at ss) h))
    labelled_too true acts = acts
    labelled_too false acts = acts

-- ---- items behind each other

none_act : ItemsAct no_statements
none_act w v st bodies inside n from stands names fits typed has =
    resized from (from + 0) (omega arith) (no_part w from)

more_act : (t : StatementTree) (ts : StatementNodes) → ItemActs t → ItemsAct ts → ItemsAct (more_statements t ts)
more_act t ts first rest w v st bodies inside n from stands names fits typed has = by_goes (goes_on t) refl names has
  where
    own : List Instr
    own = item_code st t from

    mid : ℕ
    mid = from + length own

    code : Bool → List Instr
    code g = own ++ (if g then items_code st ts mid else [])

    rows : Bool → List Handler
    rows g = item_rows st t from ++ (if g then items_rows st ts mid else [])

    one : NamesIn w from mid → HasAt w.code.instrs from own → Acts w from mid (item_rows st t from) mid (goes_on t) (statement_within v (calls_from inside w) n t) (statement_mean v n t)
    one names1 has1 = first w v st bodies inside n from stands names1 fits.0 typed.0 has1

    by_goes : (g : Bool) → goes_on t ≡ g → NamesIn w from (from + length (code g)) → HasAt w.code.instrs from (code g)
        → Acts w from (from + length (code g)) (rows g) (from + length (code g)) (g && go_on ts) (statements_within v (calls_from inside w) n (more_statements t ts)) (statements_mean v n (more_statements t ts))
    by_goes true goes names2 has2 =
        let behind : List Instr = items_code st ts mid in
        let whole : ℕ = from + length (own ++ behind) in
        let same : mid + length behind ≡ whole = omega (arith, length-append own behind) in
        let more = rest w v st bodies inside n mid stands (names_inside w from whole mid (mid + length behind) (omega arith) (omega (arith, same)) names2) fits.1 typed.1 (has_back w.code.instrs from mid own behind refl has2) in
        order_acts w from mid whole whole (item_rows st t from) (items_rows st ts mid) (goes_on t) (go_on ts) (statement_within v (calls_from inside w) n t) (statements_within v (calls_from inside w) n ts) (statement_mean v n t) (statements_mean v n ts)
        (omega arith) (omega (arith, same)) (one (names_inside w from whole from mid (omega arith) (omega (arith, same)) names2) (has_front w.code.instrs from own behind has2)) (resized (mid + length behind) whole same more)
    by_goes false goes names2 has2 =
        let whole : ℕ = from + length (own ++ []) in
        let same : mid ≡ whole = omega (arith, length-append own []) in
        let first_part = one (names_inside w from whole from mid (omega arith) (omega (arith, same)) names2) (has_front w.code.instrs from own [] has2) in
        let moved : Acts w from whole (item_rows st t from) whole false (statement_within v (calls_from inside w) n t) (statement_mean v n t) =
        resized mid whole same (subst (λ (g : Bool). Acts w from mid (item_rows st t from) mid g (statement_within v (calls_from inside w) n t) (statement_mean v n t)) goes first_part) in
        let alone = alone_acts w from whole whole whole (item_rows st t from) (statement_within v (calls_from inside w) n t) (statements_within v (calls_from inside w) n ts) (statement_mean v n t) (statements_mean v n ts) moved in
        subst (λ (hs : List Handler). Acts w from whole hs whole false (statements_within v (calls_from inside w) n (more_statements t ts)) (statements_mean v n (more_statements t ts))) (sym (append-nil (item_rows st t from))) alone

-- ---- the law

mutual
  items_join : (ts : StatementNodes) → RegionsAct ts → statements_keep ts ≡ true → ItemsAct ts
  items_join no_statements regions keeps = none_act
  items_join (more_statements t ts) regions keeps = more_act t ts (item_join t regions.0 (both_true _ _ keeps).0) (items_join ts regions.1 (both_true _ _ keeps).1)

  item_join : (t : StatementTree) → RegionsActIn t → statement_keeps t ≡ true → ItemActs t
  item_join (statement t a h) regions keeps = action_join t a h regions keeps

  action_join : (t : Bool) (a : ActionTree) (h : HandlerNode) → EachRegionActs t a h → (action_keeps a && handler_keeps h) ≡ true → ItemActs (statement t a h)
  action_join t (module_at ss) h regions keeps = module_act t ss h (items_join ss regions (both_true _ _ keeps).0) (handler_join looping_law h (both_true _ _ keeps).1)
  action_join t (region_at r ss) h regions keeps = regions
  action_join t a h regions keeps = plain_act t a h refl (statement_join looping_law (statement t a h) keeps)

pub items_law : ItemsLaw
items_law ts regions keeps = items_join ts regions keeps

-- ---- the regions among items

mutual
  -- there are none
  pub none_act_there : (ts : StatementNodes) → NameNoRegion ts → RegionsAct ts
  none_act_there no_statements outside = tt
  none_act_there (more_statements (statement t a h) ts) outside = (no_region_acts t a h outside.0, none_act_there ts outside.1)

  no_region_acts : (t : Bool) (a : ActionTree) (h : HandlerNode) → IsNoRegion a → EachRegionActs t a h
  no_region_acts t (module_at ss) h outside = none_act_there ss outside
  no_region_acts t (region_at r ss) h outside = absurd outside
  no_region_acts t a h outside = tt

mutual
  -- they act, where all initialisations do
  pub all_act_there : InitialisationsLaw → (ts : StatementNodes) → statements_keep ts ≡ true → RegionsAct ts
  all_act_there law no_statements keeps = tt
  all_act_there law (more_statements (statement t a h) ts) keeps = (region_acts law t a h (both_true _ _ keeps).0, all_act_there law ts (both_true _ _ keeps).1)

  region_acts : InitialisationsLaw → (t : Bool) (a : ActionTree) (h : HandlerNode) → (action_keeps a && handler_keeps h) ≡ true → EachRegionActs t a h
  region_acts law t (module_at ss) h keeps = all_act_there law ss (both_true _ _ keeps).0
  region_acts law t (region_at r ss) h keeps = law t r ss h (both_true _ _ keeps).0 (both_true _ _ keeps).1
  region_acts law t a h keeps = tt
