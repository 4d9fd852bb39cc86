-- What is made of parts; expressions that are constants or operations; values that go to a place.
use Rattle.std.proofs.Common.{◌≡◌, ℕ, suc, Bool, true, false, List, [], ◌∷◌, ◌++◌, Option, Some, None, refl, sym, ap, ◌∙◌, subst, true≢false}
use Rattle.std.specs.Prelude.{if◌then◌else◌, map}
use Rattle.chill_tree.specs.declared.tree.name.Name.{Name}
use Rattle.chill_tree.specs.ExprTree.{ExprTree}
use Rattle.modes.specs.ModeTree.{ModeTree, ClassTree}
use Rattle.modes.specs.Bounds.{bounds_of}
use Rattle.modes.specs.Language.{IsOfLanguage}
use Rattle.modes.specs.Similar.{Similar}
use Rattle.program_trees.specs.ExprTree as made
use Rattle.program_trees.specs.ProgramTree.{BodyRowTree}
use Rattle.checks_model.specs.ValueTrees.{ValueTree, scalars_in}
use Rattle.checks_model.specs.Classes.{class_as}
use Rattle.checks_model.specs.Constants.{has_form, constant_as}
use Rattle.checks_model.specs.ConstantRules.{by_itself, told_of_constants}
use Rattle.checks_model.specs.ValueRules.{Receiver, of_mode, received_mode, value_told, told_in}
use Rattle.checks_model.specs.WrittenModes.{unless_told}
use Rattle.table_laws.specs.Names.{names_in}
use Rattle.elaborated_laws.proofs.Told.{no_some, same_some}
use Rattle.there_laws.specs.Constants.{IsReceived}
use Rattle.elaboration_model.specs.Numbering.{Source}
use Rattle.elaboration_model.specs.Parts.{made_of, made_of_three, made_if}
use Rattle.elaboration_model.specs.Expressions.{count_in, constant_expr, folded, received_as, head_mode, rest_of, expr_as}
use Rattle.expression_laws.specs.Names.{is_of_values, IsWellNamed, AllNamesKnown}
use Rattle.expression_laws.specs.Expressions.{IsClean}
use Rattle.expression_laws.proofs.Values.{goes_valued}
use Rattle.expression_laws.proofs.Parts.{told_any, class_declarable, value_goes}
use Rattle.constant_laws.specs.Constants.{HasBytes, AreNamesFit}
use Rattle.constant_laws.proofs.Constants.{constant_fits}
use Rattle.source_meaning.specs.TypedValues.{Context, HasMode, OperationHas, IsTakenBy, AllTaken, AllHave}
use Rattle.typed_laws.specs.Typed.{mode_for, TypedAs, AreTaken, AreNamesTyped}
use Rattle.typed_laws.proofs.Flat.{flat_value}
use Rattle.typed_laws.proofs.Modes.{mode_of_class, value_of_class, goes_alike}

-- ---- parts

pub record MadeParts {A B C : Type 0} (f : A → B → C) (a : Option A) (b : Option B) (y : C) : Type 0 where
  pub first : A
  pub second : B
  pub of_first : a ≡ Some first
  pub of_second : b ≡ Some second
  pub whole : f first second ≡ y

pub made_parts : {A B C : Type 0} (f : A → B → C) (a : Option A) (b : Option B) (y : C) → made_of f a b ≡ Some y → MadeParts f a b y
made_parts f (Some a) (Some b) y is = record { first = a; second = b; of_first = refl; of_second = refl; whole = same_some (f a b) y is }
made_parts f None b y is = no_some y is
made_parts f (Some a) None y is = no_some y is

pub record IfParts {A B C : Type 0} (f : A → B → Option C) (a : Option A) (b : Option B) (y : C) : Type 0 where
  pub first : A
  pub second : B
  pub of_first : a ≡ Some first
  pub of_second : b ≡ Some second
  pub whole : f first second ≡ Some y

pub if_parts : {A B C : Type 0} (f : A → B → Option C) (a : Option A) (b : Option B) (y : C) → made_if f a b ≡ Some y → IfParts f a b y
if_parts f (Some a) (Some b) y is = record { first = a; second = b; of_first = refl; of_second = refl; whole = is }
if_parts f None b y is = no_some y is
if_parts f (Some a) None y is = no_some y is

pub record ThreeParts {A B C D : Type 0} (f : A → B → C → D) (a : Option A) (b : Option B) (c : Option C) (y : D) : Type 0 where
  pub first : A
  pub second : B
  pub third : C
  pub of_first : a ≡ Some first
  pub of_second : b ≡ Some second
  pub of_third : c ≡ Some third
  pub whole : f first second third ≡ y

pub three_parts : {A B C D : Type 0} (f : A → B → C → D) (a : Option A) (b : Option B) (c : Option C) (y : D) → made_of_three f a b c ≡ Some y → ThreeParts f a b c y
three_parts f (Some a) (Some b) (Some c) y is = record { first = a; second = b; third = c; of_first = refl; of_second = refl; of_third = refl; whole = same_some (f a b c) y is }
three_parts f None b c y is = no_some y is
three_parts f (Some a) None c y is = no_some y is
three_parts f (Some a) (Some b) None y is = no_some y is

-- ---- names

pub names_fit : (s : Source) (ctx : Context) (ns : List Name) → AreNamesTyped s ctx ns → AreNamesFit s.known ns
names_fit s ctx [] typed = tt
names_fit s ctx (n ∷ ns) typed = (typed.0.fit, names_fit s ctx ns typed.1)

pub typed_first : (s : Source) (ctx : Context) (ns ks : List Name) → AreNamesTyped s ctx (ns ++ ks) → AreNamesTyped s ctx ns
typed_first s ctx [] ks typed = tt
typed_first s ctx (n ∷ ns) ks typed = (typed.0, typed_first s ctx ns ks typed.1)

pub typed_later : (s : Source) (ctx : Context) (ns ks : List Name) → AreNamesTyped s ctx (ns ++ ks) → AreNamesTyped s ctx ks
typed_later s ctx [] ks typed = typed
typed_later s ctx (n ∷ ns) ks typed = typed_later s ctx ns ks typed.1

-- ---- a constant or an operation

abbrev pub FoldedBy : Context → ClassTree → made.OperationTree → Type 0
FoldedBy ctx c o = (m : ModeTree) → mode_for c ≡ Some m → IsOfLanguage m → OperationHas ctx o m

-- what is elaborated where something of the mode takes it
abbrev pub ValueTyped : Source → Context → Option ModeTree → ExprTree → Type 0
ValueTyped s ctx m e = (c : ClassTree) (x : made.ExprTree) → class_as s.known m e ≡ Some c → is_of_values c ≡ true → told_in s.known (of_mode m) e ≡ [] → expr_as s m e ≡ Some x → TypedAs ctx x c

abbrev pub GoesTo : Context → made.ExprTree → ModeTree → Type 0
GoesTo ctx x m = (own : ModeTree) × HasMode ctx x own × Similar own m

-- ---- values that go to places of modes

-- each is taken by a mode
abbrev pub TakenEach : Context → made.ReceivedNodes → List (Option ModeTree) → Type 0
TakenEach ctx made.no_received ms = ms ≡ []
TakenEach ctx (made.more_received r rs) ms = (m : ModeTree) × (rest : List (Option ModeTree)) × (ms ≡ Some m ∷ rest) × IsTakenBy ctx r m × TakenEach ctx rs rest

-- by the parameters of a process
pub taken_row : (ctx : Context) (xs : made.ReceivedNodes) (ms : List (Option ModeTree)) (row : BodyRowTree) (k : ℕ) → TakenEach ctx xs ms → AreTaken row k ms → AllTaken ctx xs row k
taken_row ctx made.no_received ms row k taken are = subst (λ l. AreTaken row k l) taken are
taken_row ctx (made.more_received r rs) ms row k taken are =
    let all = subst (λ l. AreTaken row k l) taken.2 are in
    (taken.0, all.0 taken.0 refl, taken.3, taken_row ctx rs taken.1 row (suc k) taken.4 all.1)

-- by the parts of a signal
pub have_each : (ctx : Context) (xs : made.ReceivedNodes) (ms : List ModeTree) → TakenEach ctx xs (map Some ms) → AllHave ctx xs ms
have_each ctx made.no_received [] taken = refl
have_each ctx made.no_received (m ∷ ms) taken = absurd (true≢false (sym (ap is_empty taken)))
  where
    is_empty : List (Option ModeTree) → Bool
    is_empty [] = true
    is_empty (x ∷ xs) = false
have_each ctx (made.more_received r rs) [] taken = absurd (true≢false (ap is_empty taken.2))
  where
    is_empty : List (Option ModeTree) → Bool
    is_empty [] = true
    is_empty (x ∷ xs) = false
have_each ctx (made.more_received r rs) (m ∷ ms) taken =
    (m, ms, refl, subst (λ k. IsTakenBy ctx r k) (same_some taken.0 m (sym (ap head_mode taken.2))) taken.3, have_each ctx rs ms (subst (λ l. TakenEach ctx rs l) (sym (ap rest_of taken.2)) taken.4))

module _ (s : Source) (ctx : Context) (known : AllNamesKnown s) where
  constant_typed : (r : Receiver) (e : ExprTree) (c : ClassTree) (x : made.ExprTree) → AreNamesTyped s ctx (names_in e) → HasBytes e → IsClean s.known r e → class_as s.known (received_mode r) e ≡ Some c → is_of_values c ≡ true → has_form s.known false e ≡ true
      → constant_expr (class_as s.known (received_mode r) e) (constant_as s.known (received_mode r) e) ≡ Some x → TypedAs ctx x c
  constant_typed r e c x names bytes clean class valued form built =
      let m = received_mode r in
      let of_constant : ClassTree → ValueTree → made.ExprTree = λ c v. made.expr (count_in c) (made.root_bounds c) (made.constant (scalars_in v)) in
      let p = made_parts of_constant (class_as s.known m e) (constant_as s.known m e) x built in
      let received : IsReceived by_itself m = record { there = λ apart. absurd (true≢false apart); fits = clean.receives } in
      let fit = constant_fits s.known by_itself m e c p.second (names_fit s ctx (names_in e) names) clean.named.short bytes received (λ is. absurd (true≢false (sym is))) (told_any s.known m None e ∙ clean.constants) form class p.of_second in
      let own = mode_of_class c (class_declarable s m e c known clean.named clean.receives class) valued in
      let whole = ap (λ k. of_constant k p.second) (same_some c p.first (sym class ∙ p.of_first)) ∙ p.whole in
      record { mode = own.mode; of = own.of; has = subst (λ y. HasMode ctx y own.mode) whole (own.fits, own.count, own.bounds, flat_value own.mode p.second own.fits (value_of_class c own.mode p.second own.of fit)) }

  operation_typed : (r : Receiver) (e : ExprTree) (c : ClassTree) (o : Option made.OperationTree) (x : made.ExprTree) → IsClean s.known r e → class_as s.known (received_mode r) e ≡ Some c → is_of_values c ≡ true
      → ((op : made.OperationTree) → o ≡ Some op → FoldedBy ctx c op) → made_of (λ c o. made.expr (count_in c) (made.root_bounds c) o) (class_as s.known (received_mode r) e) o ≡ Some x → TypedAs ctx x c
  operation_typed r e c o x clean class valued has built =
      let m = received_mode r in
      let of_operation : ClassTree → made.OperationTree → made.ExprTree = λ c o. made.expr (count_in c) (made.root_bounds c) o in
      let p = made_parts of_operation (class_as s.known m e) o x built in
      let own = mode_of_class c (class_declarable s m e c known clean.named clean.receives class) valued in
      let whole = ap (λ k. of_operation k p.second) (same_some c p.first (sym class ∙ p.of_first)) ∙ p.whole in
      record { mode = own.mode; of = own.of; has = subst (λ y. HasMode ctx y own.mode) whole (own.fits, own.count, own.bounds, has p.second p.of_second own.mode own.of own.fits) }

  pub folded_typed : (r : Receiver) (e : ExprTree) (c : ClassTree) (o : Option made.OperationTree) (x : made.ExprTree) → AreNamesTyped s ctx (names_in e) → HasBytes e → IsClean s.known r e → class_as s.known (received_mode r) e ≡ Some c → is_of_values c ≡ true
      → (has_form s.known false e ≡ false → (op : made.OperationTree) → o ≡ Some op → FoldedBy ctx c op) → folded s (received_mode r) e o ≡ Some x → TypedAs ctx x c
  folded_typed r e c o x names bytes clean class valued has built = by (has_form s.known false e) refl built
    where
      by : (b : Bool) → has_form s.known false e ≡ b
          → (if b then unless_told (told_of_constants s.known e) (constant_expr (class_as s.known (received_mode r) e) (constant_as s.known (received_mode r) e)) else made_of (λ c o. made.expr (count_in c) (made.root_bounds c) o) (class_as s.known (received_mode r) e) o) ≡ Some x → TypedAs ctx x c
      by true form built =
          constant_typed r e c x names bytes clean class valued form (subst (λ l. unless_told l (constant_expr (class_as s.known (received_mode r) e) (constant_as s.known (received_mode r) e)) ≡ Some x) clean.constants built)
      by false form built = operation_typed r e c o x clean class valued (has form) built

  -- ---- values that go to a place

  goes_to : (k : ModeTree) (e : ExprTree) (x : made.ExprTree) → IsWellNamed s.known e → value_told s.known (of_mode (Some k)) e (told_in s.known (of_mode (Some k)) e) ≡ [] → ValueTyped s ctx (Some k) e → expr_as s (Some k) e ≡ Some x → GoesTo ctx x k
  goes_to k e x named none typed built =
      let v = value_goes s k e known named none in
      let t = typed v.class x v.is (goes_valued v.class k v.goes) v.told built in
      (t.mode, t.has, goes_alike v.class t.mode k t.of v.goes)

  pub goes_typed : (m : Option ModeTree) (e : ExprTree) (x : made.ExprTree) → IsWellNamed s.known e → value_told s.known (of_mode m) e (told_in s.known (of_mode m) e) ≡ [] → ValueTyped s ctx m e → expr_as s m e ≡ Some x → (k : ModeTree) → m ≡ Some k → GoesTo ctx x k
  goes_typed None e x named none typed built k is = no_some k is
  goes_typed (Some j) e x named none typed built k is = subst (λ q. GoesTo ctx x q) (same_some j k is) (goes_to j e x named none typed built)

  pub taken_typed : (m : Option ModeTree) (e : ExprTree) (r : made.ReceivedTree) → IsWellNamed s.known e → value_told s.known (of_mode m) e (told_in s.known (of_mode m) e) ≡ [] → ValueTyped s ctx m e → received_as m (expr_as s m e) ≡ Some r → (k : ModeTree) → m ≡ Some k → IsTakenBy ctx r k
  taken_typed m e r named none typed built k is =
      let of_both : ModeTree → made.ExprTree → made.ReceivedTree = λ m e. made.received e (bounds_of m) in
      let p = made_parts of_both m (expr_as s m e) r built in
      let goes = goes_typed m e p.second named none typed p.of_second k is in
      subst (λ q. IsTakenBy ctx q k) p.whole (goes, ap bounds_of (same_some k p.first (sym is ∙ p.of_first)))
