-- A counter's mode is one that a location may have: from the outermost loop in, the modes of the names around a loop are such modes.
use Rattle.std.proofs.Common.{◌≡◌, ◌<◌, ℕ, zero, suc, Bool, true, false, List, [], ◌∷◌, ◌++◌, Option, Some, None, true≢false, ◌&&◌, arith, refl, sym, ap, ◌∙◌, subst, Contains}
use Rattle.std.specs.Prelude.{slice_get, option_map, option_and_then, if◌then◌else◌}
use Rattle.std.proofs.lemmas.Option.{slice_get-map}
use Rattle.std.proofs.lemmas.List.Elements.{Contains-append_left, Contains-append_right}
use Rattle.diagnostics.specs.declared.diagnostic.Diagnostic.{Diagnostic}
use Rattle.chill_tree.specs.declared.tree.name.Name.{Name}
use Rattle.chill_tree.specs.SimpleTree.{ControlTree, while_holds, for_ever, for_members, for_steps}
use Rattle.chill_tree.specs.ItemTree.{ProgramTree}
use Rattle.modes.specs.ModeTree.{ModeTree, ClassTree, value, derived, null, nothing}
use Rattle.modes.specs.Form.{FormTree, form_of, of_powerset}
use Rattle.modes.specs.Roots.{root_of}
use Rattle.names_laws.proofs.Members.{here_in, later_in}
use Rattle.checks_model.specs.Alike.{mode_in, are_compatible, class_is, is_discrete}
use Rattle.checks_model.specs.Ground.{Ground, Origin, a_synonym, a_mode, an_element, a_location, a_parameter, a_counter, a_received, a_procedure, a_process, a_signal, a_modulion, a_predefined, origin_of, entry_of, number_at, mode_of_entry, class_of_entry}
use Rattle.checks_model.specs.Operations.{form_in, their_class}
use Rattle.checks_model.specs.Classes.{class_of}
use Rattle.checks_model.specs.ValueRules.{nothing_asked, told_in, clean_class}
use Rattle.checks_model.specs.ActionRules.{clean, counter_of_both, member_in, counter_mode}
use Rattle.checks_model.specs.Phases.{some_expr, exprs_of_control}
use Rattle.checks_model.specs.Origins.{origins_of}
use Rattle.checks_model.specs.Table.{entry_with_counters, IsStatementGroundOf}
use Rattle.checks_model.specs.Diagnoses.{HasModes}
use Rattle.table_laws.specs.Names.{names_in, names_bounding}
use Rattle.elaborated_laws.specs.Known.{IsDeclarable}
use Rattle.elaborated_laws.specs.Classes.{HasDeclarable, HaveModes, HasShortTexts}
use Rattle.elaborated_laws.specs.Classes as classes
use Rattle.elaborated_laws.proofs.Told.{no_some, same_some, there_chained}
use Rattle.elaborated_laws.proofs.Modes.{language_declarable}
use Rattle.elaborated_laws.proofs.Classes.{FormIs, form_is, root_declarable, class_mode, no_receiver}
use Rattle.written_laws.specs.Written.{Each, HasShortExprs}
use Rattle.written_laws.proofs.ShownItem.{short_texts}
use Rattle.written_laws.proofs.WrittenSo.{each_there}
use Rattle.order_laws.specs.Texts.{is_counter}
use Rattle.order_laws.proofs.CounterDepths.{counters_deep}
use Rattle.there_laws.specs.Names.{NameModesLaw}
use Rattle.there_laws.proofs.Nodes.{Gives, program_defined}
use Rattle.there_laws.proofs.Names.{counter_mode_name, plain_modes}

-- ---- classes and their modes

class_fits : (c : ClassTree) (m : ModeTree) → HasDeclarable c → mode_in c ≡ Some m → IsDeclarable m
class_fits (value k) m fits is = subst IsDeclarable (same_some k m is) fits
class_fits (derived k) m fits is = subst IsDeclarable (same_some k m is) fits
class_fits null m fits is = no_some m is
class_fits nothing m fits is = no_some m is

rooted : (of : ModeTree → ClassTree) (a : ModeTree) (c : ClassTree) → ((m : ModeTree) → IsDeclarable m → HasDeclarable (of m)) → IsDeclarable a → Some (of (root_of a)) ≡ Some c → HasDeclarable c
rooted of a c step fits is = subst HasDeclarable (same_some (of (root_of a)) c is) (step (root_of a) (root_declarable a fits))

their_fits : (l r c : ClassTree) → HasDeclarable l → HasDeclarable r → their_class l r ≡ Some c → HasDeclarable c
their_fits (value a) (value b) c first later is = rooted value a c (λ m fits. fits) first is
their_fits (value a) (derived b) c first later is = rooted value a c (λ m fits. fits) first is
their_fits (value a) null c first later is = rooted value a c (λ m fits. fits) first is
their_fits (value a) nothing c first later is = rooted value a c (λ m fits. fits) first is
their_fits (derived a) (value b) c first later is = rooted value b c (λ m fits. fits) later is
their_fits (derived a) (derived b) c first later is = rooted derived a c (λ m fits. fits) first is
their_fits (derived a) null c first later is = rooted derived a c (λ m fits. fits) first is
their_fits (derived a) nothing c first later is = rooted derived a c (λ m fits. fits) first is
their_fits null (value b) c first later is = rooted value b c (λ m fits. fits) later is
their_fits null (derived b) c first later is = no_some c is
their_fits null null c first later is = no_some c is
their_fits null nothing c first later is = no_some c is
their_fits nothing (value b) c first later is = rooted value b c (λ m fits. fits) later is
their_fits nothing (derived b) c first later is = no_some c is
their_fits nothing null c first later is = no_some c is
their_fits nothing nothing c first later is = no_some c is

member_fits : (f : FormTree) (m : ModeTree) → FormIs f → member_in f ≡ Some m → IsDeclarable m
member_fits (of_powerset own) m fits is = subst IsDeclarable (same_some own m is) (language_declarable own fits)
member_fits f m fits is = no_some m is

members_mode : (x : Option ClassTree) (m : ModeTree) → ((c : ClassTree) → x ≡ Some c → HasDeclarable c) → option_and_then member_in (option_and_then form_in x) ≡ Some m → IsDeclarable m
members_mode None m fits is = no_some m is
members_mode (Some (value k)) m fits is = member_fits (form_of k) m (form_is k (fits (value k) refl)) is
members_mode (Some (derived k)) m fits is = member_fits (form_of k) m (form_is k (fits (derived k) refl)) is
members_mode (Some null) m fits is = no_some m is
members_mode (Some nothing) m fits is = no_some m is

chosen : (b : Bool) (x : Option ModeTree) (m : ModeTree) → (if b then x else None) ≡ Some m → x ≡ Some m
chosen true x m is = is
chosen false x m is = no_some m is

steps_mode : (x y : Option ClassTree) (m : ModeTree) → ((c : ClassTree) → x ≡ Some c → HasDeclarable c) → ((c : ClassTree) → y ≡ Some c → HasDeclarable c) → counter_of_both x y ≡ Some m → IsDeclarable m
steps_mode (Some l) (Some r) m first later is =
    let there = there_chained mode_in (their_class l r) m (chosen ((class_is is_discrete l && class_is is_discrete r) && are_compatible l r) (option_and_then mode_in (their_class l r)) m is) in
    class_fits there.0 m (their_fits l r there.0 (first l refl) (later r refl) there.1) there.2
steps_mode None y m first later is = no_some m is
steps_mode (Some l) None m first later is = no_some m is

clean_some : (inside : List Diagnostic) (x : Option ClassTree) (c : ClassTree) → clean_class inside x ≡ Some c → x ≡ Some c
clean_some [] x c is = is
clean_some (d ∷ ds) x c is = no_some c is

-- ---- short texts

abbrev IsShortLoop : Origin → Type 0
IsShortLoop (a_counter c) = Each HasShortTexts (exprs_of_control c)
IsShortLoop o = Unit {0}

short_given : Gives HasShortExprs IsShortLoop
short_given = record {
  synonym = λ s short. tt;
  mode = λ novel d short. tt;
  location = λ shared d short. tt;
  parameter = λ w short. tt;
  procedure = λ p short. tt;
  signal = λ s short. tt;
  counter = λ c short. short;
  received = λ earlier n ns part less source short. tt;
  element = λ ns part owner. tt;
  process = λ p. tt;
  modulion = λ kind items. tt;
  predefined = λ p. tt;
}

later_each : {A : Type 0} (P : A → Type 0) (xs ys : List A) → Each P (xs ++ ys) → Each P ys
later_each P [] ys each = each
later_each P (x ∷ xs) ys each = later_each P xs ys each.1

have_all : (g : Ground) (ns : List Name) → ((n : Name) → Contains ns n → classes.HasModes g n) → HaveModes g ns
have_all g [] each = tt
have_all g (n ∷ ns) each = (each n (here_in n ns n refl), have_all g ns (λ k c. each k (later_in n ns k c)))

-- the mode of a counter, where the names around its loop have such modes
control_fits : (h : Ground) (c : ControlTree) → Each HasShortTexts (exprs_of_control c) → ((n : Name) → Contains (names_bounding c) n → classes.HasModes h n) → (m : ModeTree) → counter_mode h c ≡ Some m → IsDeclarable m
control_fits h (while_holds at e) short fits m is = no_some m is
control_fits h (for_ever at) short fits m is = no_some m is
control_fits h (for_members at n s e) short fits m is =
    members_mode (clean h s) m (λ c there. class_mode h None s c (have_all h (names_in s) fits) short.0 no_receiver (clean_some (told_in h nothing_asked s) (class_of h s) c there)) is
control_fits h (for_steps at n s b down e cond) short fits m is =
    let end_short = later_each HasShortTexts (some_expr b) (e ∷ some_expr cond) short.1 in
    steps_mode (clean h s) (clean h e) m
    (λ c there. class_mode h None s c (have_all h (names_in s) (λ k i. fits k (Contains-append_left (names_in s) (names_in e) k i))) short.0 no_receiver (clean_some (told_in h nothing_asked s) (class_of h s) c there))
    (λ c there. class_mode h None e c (have_all h (names_in e) (λ k i. fits k (Contains-append_right (names_in s) (names_in e) k i))) end_short.0 no_receiver (clean_some (told_in h nothing_asked e) (class_of h e) c there)) is

module _ (text : List ℕ) (t : ProgramTree) (g h : Ground) (has : HasModes text t g) (is_h : IsStatementGroundOf t h) where
  origins : h.origins ≡ origins_of t
  origins = ap (λ (x : Ground). x.origins) is_h.names

  loop_short : (d : ℕ) (c : ControlTree) → slice_get h.origins d ≡ Some (a_counter c) → Each HasShortTexts (exprs_of_control c)
  loop_short d c at =
      each_there IsShortLoop (origins_of t) d (a_counter c) (program_defined HasShortExprs IsShortLoop short_given t (short_texts text t has.has_names.has_tree)) (sym (ap (λ os. slice_get os d) origins) ∙ at)

  -- the modes that are known of a counter, by its number
  abbrev IsModal : ℕ → Type 0
  IsModal e = (c : ControlTree) → slice_get h.origins e ≡ Some (a_counter c) → (m : ModeTree) → counter_mode h c ≡ Some m → IsDeclarable m

  of_counter : (n : Name) (e : ℕ) (c : ControlTree) → number_at h.uses n.at ≡ Some e → slice_get h.origins e ≡ Some (a_counter c) → is_counter (origin_of h n) ≡ true → IsModal e → classes.HasModes h n
  of_counter n e c number at is modal =
      let at_e : slice_get h.entries e ≡ Some (entry_with_counters h (a_counter c)) = ap (λ es. slice_get es e) is_h.entries ∙ slice_get-map (entry_with_counters h) h.origins e ∙ ap (option_map (entry_with_counters h)) at in
      let entry : entry_of h n ≡ Some (entry_with_counters h (a_counter c)) = ap (option_and_then (slice_get h.entries)) number ∙ at_e in
      record {
        mode = λ m has_mode. modal c at m (sym (ap mode_of_entry entry) ∙ has_mode);
        class = λ k has_class. no_some k (sym (ap class_of_entry entry) ∙ has_class);
        own = λ m named. no_some m (sym (counter_mode_name (entry_of h n) (number_at h.uses n.at) (origin_of h n) is) ∙ named);
      }

  counter_modes : (n : Name) → is_counter (origin_of h n) ≡ true → ((e : ℕ) → number_at h.uses n.at ≡ Some e → IsModal e) → classes.HasModes h n
  counter_modes n is modal = by_number (number_at h.uses n.at) refl is
    where
      by_origin : (e : ℕ) (o : Option Origin) → number_at h.uses n.at ≡ Some e → slice_get h.origins e ≡ o → is_counter o ≡ true → classes.HasModes h n
      by_origin e (Some (a_counter c)) number at counter = of_counter n e c number at is (modal e number)
      by_origin e None number at counter = absurd (true≢false (sym counter))
      by_origin e (Some (a_synonym s)) number at counter = absurd (true≢false (sym counter))
      by_origin e (Some (a_mode novel m)) number at counter = absurd (true≢false (sym counter))
      by_origin e (Some (an_element ns i owner)) number at counter = absurd (true≢false (sym counter))
      by_origin e (Some (a_location l)) number at counter = absurd (true≢false (sym counter))
      by_origin e (Some (a_parameter m)) number at counter = absurd (true≢false (sym counter))
      by_origin e (Some (a_received k i j)) number at counter = absurd (true≢false (sym counter))
      by_origin e (Some (a_procedure p)) number at counter = absurd (true≢false (sym counter))
      by_origin e (Some (a_process p)) number at counter = absurd (true≢false (sym counter))
      by_origin e (Some (a_signal s)) number at counter = absurd (true≢false (sym counter))
      by_origin e (Some (a_modulion kind items)) number at counter = absurd (true≢false (sym counter))
      by_origin e (Some (a_predefined p)) number at counter = absurd (true≢false (sym counter))

      by_number : (k : Option ℕ) → number_at h.uses n.at ≡ k → is_counter (option_and_then (slice_get h.origins) k) ≡ true → classes.HasModes h n
      by_number None number counter = absurd (true≢false (sym counter))
      by_number (Some e) number counter = by_origin e (slice_get h.origins e) number refl counter

  any_modes : (n : Name) → ((e : ℕ) → number_at h.uses n.at ≡ Some e → IsModal e) → classes.HasModes h n
  any_modes n modal = by (is_counter (origin_of h n)) refl
    where
      by : (b : Bool) → is_counter (origin_of h n) ≡ b → classes.HasModes h n
      by true is = counter_modes n is modal
      by false is = plain_modes text t g h has is_h n is

  depth : ℕ → ℕ
  depth = (counters_deep text t h has.has_names is_h.names).0

  named_less : (d e : ℕ) (c : ControlTree) (n : Name) → slice_get h.origins d ≡ Some (a_counter c) → Contains (names_bounding c) n → number_at h.uses n.at ≡ Some e → depth e < depth d
  unfolding depth
  named_less d e c n at i number = (counters_deep text t h has.has_names is_h.names).1 d e c n at i number

  -- from the outermost loop in
  modal_below : (k d : ℕ) → depth d < k → IsModal d
  modal_below zero d less c at m is = absurd (omega arith)
  modal_below (suc k) d less c at m is =
      control_fits h c (loop_short d c at) (λ n i. any_modes n (λ e number. let inner = named_less d e c n at i number in modal_below k e (omega (arith, less, inner)))) m is

  all_modes : (n : Name) → classes.HasModes h n
  all_modes n = any_modes n (λ e number. let more : depth e < suc (depth e) = omega arith in modal_below (suc (depth e)) e more)

pub names_modes : NameModesLaw
names_modes text t g h has is_h n = all_modes text t g h has is_h n
