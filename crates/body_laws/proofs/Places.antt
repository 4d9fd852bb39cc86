-- Where a statement stands: no action of a text stands at the top alone; labels around; locations behind SET, declarations, names.
use Rattle.std.proofs.Common.{◌≡◌, ℕ, suc, Bool, true, false, ◌&&◌, List, [], ◌∷◌, ◌++◌, length, Option, Some, None, refl, sym, ap, ◌∙◌, subst, true≢false}
use Rattle.std.specs.Prelude.{not, if◌then◌else◌, option_map, option_and_then, map, All}
use Rattle.std.proofs.lemmas.List.Elements.{All-nil, All-cons}
use Rattle.chill_tree.specs.declared.tree.name.Name.{Name}
use Rattle.chill_tree.specs.declared.tree.expr.Operator.{Operator}
use Rattle.chill_tree.specs.ExprTree.{ExprTree}
use Rattle.chill_tree.specs.LocalTree.{DeclarationTree, LocalTree, synonyms, syn_modes, new_modes, locations}
use Rattle.chill_tree.specs.SimpleTree.{SimpleTree, assign, update, call_of, exit, return_with, result_of, assert_that, cause, stop, start_of, delay, continue_event, send}
use Rattle.modes.specs.ModeTree.{ModeTree, ClassTree}
use Rattle.modes.specs.Bounds.{bounds_of}
use Rattle.modes.specs.Scalars.{lowest_of}
use Rattle.checked_program.specs.declared.expr.Base.{Base}
use Rattle.checked_program.specs.declared.expr.Base.TheVariants as bases
use Rattle.program_trees.specs.ExprTree as made
use Rattle.program_trees.specs.StatementTree as done
use Rattle.checks_model.specs.Ground.{Ground, Predefined, put_int, put_text, put_nl, get_int, upper, lower, size}
use Rattle.checks_model.specs.Classes.{Callee, calls, routine, no_callee, callee_named}
use Rattle.checks_model.specs.Sites as sites
use Rattle.written_laws.specs.Written.{Each}
use Rattle.elaborated_laws.proofs.Told.{no_some, same_some, there_mapped, there_chained}
use Rattle.elaboration_model.specs.Numbering.{Source, Thing, a_local, thing_defined, local_number, local_defined}
use Rattle.elaboration_model.specs.Parts.{made_of, made_of_some, made_each}
use Rattle.elaboration_model.specs.Expressions.{Target, base_of, received_by, target}
use Rattle.elaboration_model.specs.Statements.{Around, within, is_labelled, plain, base_defined, locals_among, set_locals, called, evaluated, routine_action, routine_by, call_action, updated, action_of}
use Rattle.expression_laws.specs.Names.{AllNamesKnown}
use Rattle.source_meaning.specs.TypedValues.{Context, BaseHas}
use Rattle.source_meaning.specs.TypedStatements as typed
use Rattle.source_meaning.specs.TypedStatements.{AllBasesHave, LocalHas, labelled_around, in_region_around, IsTypedStatement, IsTypedAction, IsTypedHandler}
use Rattle.typed_laws.proofs.Made.{made_parts}
use Rattle.action_laws.specs.Actions.{StandsAround}

-- ---- actions that stand anywhere

abbrev pub is_plain : done.ActionTree → Bool
is_plain (done.module_at ss) = false
is_plain (done.region_at r ss) = false
is_plain a = true

-- a statement of a text stands where its action and its handler do
pub statement_has : (at : typed.Around) (l : Bool) (x : done.ActionTree) (h : done.HandlerNode) → is_plain x ≡ true → IsTypedAction (labelled_around l at) x → IsTypedHandler (labelled_around l at) h → IsTypedStatement at (done.statement l x h)
statement_has at l (done.module_at ss) h is has handler = absurd (true≢false (sym is))
statement_has at l (done.region_at r ss) h is has handler = absurd (true≢false (sym is))
statement_has at l done.do_nothing h is has handler = (tt, tt, (at.context.region, handler))
statement_has at l x h is has handler = (tt, has, (None, handler))

-- ---- labels

pub stands_within : (s : Source) (l : Option Name) (a : Around) (around : sites.Around) (at : typed.Around) → StandsAround s a around at → StandsAround s (within l a) around (labelled_around (is_labelled l) at)
stands_within s None a around at stands = stands
stands_within s (Some l) a around at stands = record { labels = ap suc stands.labels; result = stands.result; sort = stands.sort }

-- ---- lists

pub each_all : {A B : Type 0} (f : A → Option B) (P : B → Type 0) (xs : List A) (ys : List B) → made_each f xs ≡ Some ys → Each (λ x. (y : B) → f x ≡ Some y → P y) xs → All P ys
each_all f P [] ys built all = subst (λ l. All P l) (same_some [] ys built) (All-nil P)
each_all f P (x ∷ xs) ys built all =
    let parts = made_parts (λ y ys. y ∷ ys) (f x) (made_each f xs) ys built in
    subst (λ l. All P l) parts.whole (All-cons P parts.first parts.second (all.0 parts.first parts.of_first) (each_all f P xs parts.second parts.of_second all.1))

-- ---- declarations

-- names that are kept as locals
local_base : (s : Source) (ctx : Context) (n : Name) (m : ModeTree) (k : ℕ) → ((b : Base) → base_defined s n ≡ Some b → BaseHas ctx b m) → local_defined s n ≡ Some k → LocalHas ctx m k
local_base s ctx n m k has is = by (thing_defined s n) is has
  where
    by : (t : Option Thing) → option_and_then local_number t ≡ Some k → ((b : Base) → option_and_then base_of t ≡ Some b → BaseHas ctx b m) → LocalHas ctx m k
    by (Some (a_local c j)) is has = subst (λ i. LocalHas ctx m i) (same_some j k is) (has (bases.Local j) refl)
    by (Some t) is has = no_some k is
    by None is has = no_some k is

locals_have : (s : Source) (ctx : Context) (m : ModeTree) (ns : List Name) → Each (λ n. (b : Base) → base_defined s n ≡ Some b → BaseHas ctx b m) ns → All (LocalHas ctx m) (locals_among (map (local_defined s) ns))
locals_have s ctx m [] all = All-nil (LocalHas ctx m)
locals_have s ctx m (n ∷ ns) all = by (local_defined s n) refl (locals_have s ctx m ns all.1)
  where
    by : (k : Option ℕ) → local_defined s n ≡ k → All (LocalHas ctx m) (locals_among (map (local_defined s) ns)) → All (LocalHas ctx m) (locals_among (k ∷ map (local_defined s) ns))
    by None is rest = rest
    by (Some k) is rest = All-cons (LocalHas ctx m) k (locals_among (map (local_defined s) ns)) (local_base s ctx n m k all.0 is) rest

pub lowest_typed : (s : Source) (at : typed.Around) (m : ModeTree) (ns : List Name) → Each (λ n. (b : Base) → base_defined s n ≡ Some b → BaseHas at.context b m) ns → IsTypedAction at (set_locals (locals_among (map (local_defined s) ns)) m)
lowest_typed s at m ns all = by (locals_among (map (local_defined s) ns)) (locals_have s at.context m ns all)
  where
    by : (ks : List ℕ) → All (LocalHas at.context m) ks → IsTypedAction at (set_locals ks m)
    by [] all = tt
    by (k ∷ ks) all = (m, all, refl)

pub lowest_plain : (ks : List ℕ) (m : ModeTree) → is_plain (set_locals ks m) ≡ true
lowest_plain [] m = refl
lowest_plain (k ∷ ks) m = refl

-- ---- no action of a text is a module or a region

mapped_plain : {A : Type 0} (f : A → done.ActionTree) (o : Option A) (x : done.ActionTree) → ((y : A) → is_plain (f y) ≡ true) → option_map f o ≡ Some x → is_plain x ≡ true
mapped_plain f o x each built = let there = there_mapped f o x built in subst (λ q. is_plain q ≡ true) there.2 (each there.0)

made_plain : {A B : Type 0} (f : A → B → done.ActionTree) (o : Option A) (p : Option B) (x : done.ActionTree) → ((y : A) (z : B) → is_plain (f y z) ≡ true) → made_of f o p ≡ Some x → is_plain x ≡ true
made_plain f o p x each built = let parts = made_parts f o p x built in subst (λ q. is_plain q ≡ true) parts.whole (each parts.first parts.second)

one_plain : (y x : done.ActionTree) → is_plain y ≡ true → Some y ≡ Some x → is_plain x ≡ true
one_plain y x is built = subst (λ q. is_plain q ≡ true) (same_some y x built) is

routine_plain : (s : Source) (p : Predefined) (n : Name) (es : List ExprTree) (x : done.ActionTree) → routine_by s p n es ≡ Some x → is_plain x ≡ true
routine_plain s get_int n es x built = mapped_plain done.evaluate _ x (λ y. refl) built
routine_plain s put_int n es x built = mapped_plain done.put_int _ x (λ y. refl) built
routine_plain s put_text n es x built = mapped_plain done.put_text _ x (λ y. refl) built
routine_plain s put_nl n es x built = one_plain done.put_line x refl built
routine_plain s upper n es x built = mapped_plain done.evaluate _ x (λ y. refl) built
routine_plain s lower n es x built = mapped_plain done.evaluate _ x (λ y. refl) built
routine_plain s size n es x built = mapped_plain done.evaluate _ x (λ y. refl) built
routine_plain s p n es x built = made_plain done.drop_routine _ _ x (λ y z. refl) built

called_plain : (s : Source) (k : Callee) (n : Name) (es : List ExprTree) (x : done.ActionTree) → call_action s k n es ≡ Some x → is_plain x ≡ true
called_plain s (calls m) n es x built = made_plain (λ b as'. done.perform (made.called b as')) _ _ x (λ y z. refl) built
called_plain s (routine p) n es x built = routine_plain s p n es x built
called_plain s no_callee n es x built = no_some x built

updated_plain : (o : Operator) (t : Option Target) (v : Option made.ExprTree) (c : Option ClassTree) (x : done.ActionTree) → updated o t v c ≡ Some x → is_plain x ≡ true
updated_plain o (Some t) (Some v) (Some c) x built = mapped_plain (λ op. done.update t.0 op v (bounds_of t.1)) _ x (λ y. refl) built
updated_plain o None v c x built = no_some x built
updated_plain o (Some t) None c x built = no_some x built
updated_plain o (Some t) (Some v) None x built = no_some x built

pub action_plain : (s : Source) (a : Around) (act : SimpleTree) (x : done.ActionTree) → action_of s a act ≡ Some x → is_plain x ≡ true
action_plain s a (assign at t v) x built = let there = there_chained (λ (t : Target). option_map (done.assign t.0) (received_by s (Some t.1) v)) (target s t) x built in mapped_plain (done.assign there.0.0) _ x (λ y. refl) there.2
action_plain s a (update at t o p v) x built = updated_plain o _ _ _ x built
action_plain s a (call_of at word n es) x built = called_plain s (callee_named s.known n) n es x built
action_plain s a (exit at n) x built = mapped_plain done.exit_from _ x (λ y. refl) built
action_plain s a (return_with at v) x built = mapped_plain done.return_with _ x (λ y. refl) built
action_plain s a (result_of at v) x built = mapped_plain done.set_result _ x (λ y. refl) built
action_plain s a (assert_that at c) x built = mapped_plain done.assert_that _ x (λ y. refl) built
action_plain s a (cause at n) x built = mapped_plain done.cause _ x (λ y. refl) built
action_plain s a (stop at) x built = one_plain done.stop x refl built
action_plain s a (start_of at n es) x built = made_plain (λ b rs. done.start_of (made.started b rs)) _ _ x (λ y z. refl) built
action_plain s a (delay at n p) x built = made_plain done.delay _ _ x (λ y z. refl) built
action_plain s a (continue_event at n) x built = mapped_plain done.continue_at _ x (λ y. refl) built
action_plain s a (send at n es to p) x built = made_plain done.send _ _ x (λ y z. refl) built
