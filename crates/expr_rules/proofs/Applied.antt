-- Brackets behind an expression: calls of procedures and routines, and indices.
use Rattle.std.proofs.Common.{◌≡◌, ◌++◌, ℕ, suc, List, [], ◌∷◌, refl, ap, sym, ◌∙◌, subst, append-nil, append_assoc, Option, Some, None}
use Rattle.std.specs.Prelude.{Bool, true, false, ◌&&◌, ◌==◌, not, if◌then◌else◌, option_map, is_some, length}
use Rattle.chill_base.specs.declared.pos.Pos.{Pos}
use Rattle.chill_tree.specs.declared.tree.name.Name.{Name}
use Rattle.chill_tree.specs.ExprTree.{ExprTree, ExprNodes, whole, character, text, this_instance, paren, receive, start, tuple, uniform, name, apply, field, prefixed, binary, place_of}
use Rattle.modes.specs.ModeTree.{ClassTree, value}
use Rattle.diagnostics.specs.declared.diagnostic.Diagnostic.{Diagnostic}
use Rattle.diagnostics.specs.declared.rule.Rule.TheVariants as rules
use Rattle.checks_model.specs.Told.{is_none_told, then_told, told_if, tell_at}
use Rattle.checks_model.specs.Ground.{Ground, Origin, Predefined, origin_of, entry_of, mode_of_entry, a_synonym, a_mode, an_element, a_location, a_parameter, a_counter, a_received, a_procedure, a_process, a_signal, a_modulion, a_predefined}
use Rattle.checks_model.specs.Operations.{is_routine, part_of_class, element_of_form}
use Rattle.checks_model.specs.Classes.{class_of, Callee, calls, routine, no_callee, callee_by, callee_of, class_behind, class_of_call, result_class, measured_first, class_of_first, count_exprs}
use Rattle.checks_model.specs.ValueRules.{nothing_asked, told_in, told_in_args, told_inside_each, told_behind, receivers_behind, receivers_of, told_number, returns_none, clean_class}
use Rattle.expr_rules.specs.Steps.{called_told, routine_call_told, args_in_index, told_at_base, told_in_index, is_clean_index, class_in_index}
use Rattle.expr_rules.proofs.Gates.{none-then}

-- what is called as a procedure is a name

routine_or : (b : Bool) (p : Predefined) (n : Name) → (if b then routine p else no_callee) ≡ calls n → ⊥
routine_or true p n e = cc
routine_or false p n e = cc

named_by : (m n : Name) (o : Option Origin) → callee_by m o ≡ calls n → name m ≡ name n
named_by m n (Some (a_procedure p)) e = cc
named_by m n (Some (a_predefined p)) e = absurd (routine_or (is_routine p) p n e)
named_by m n (Some (a_synonym s)) e = cc
named_by m n (Some (a_mode b t)) e = cc
named_by m n (Some (an_element ns k o)) e = cc
named_by m n (Some (a_location d)) e = cc
named_by m n (Some (a_parameter t)) e = cc
named_by m n (Some (a_counter c)) e = cc
named_by m n (Some (a_received x c k)) e = cc
named_by m n (Some (a_process p)) e = cc
named_by m n (Some (a_signal s)) e = cc
named_by m n (Some (a_modulion k is)) e = cc
named_by m n None e = cc

named : (g : Ground) (e : ExprTree) (n : Name) → callee_of g e ≡ calls n → e ≡ name n
named g (name m) n h = named_by m n (origin_of g m) h
named g (whole at k) n h = cc
named g (character at k) n h = cc
named g (text at bytes) n h = cc
named g (this_instance at) n h = cc
named g (paren at e) n h = cc
named g (receive at m) n h = cc
named g (start at m es) n h = cc
named g (tuple at m b rs) n h = cc
named g (uniform at m b e) n h = cc
named g (apply at e es) n h = cc
named g (field at e m) n h = cc
named g (prefixed at o e) n h = cc
named g (binary at l o p r) n h = cc

module _ (g : Ground) (at : Pos) (e : ExprTree) (es : ExprNodes) where
  -- what brackets tell by what they do
  abbrev behind : Callee → List Diagnostic
  behind c = told_behind g c (place_of e) (class_of g e) (told_in g nothing_asked e) (told_in_args g (receivers_behind g c (clean_class (told_in g nothing_asked e) (class_of g e)) (count_exprs es)) es) (told_inside_each g es) es

  abbrev class_by : Callee → Option ClassTree
  class_by c = class_behind c (result_class g e) (class_of g e) (measured_first g es) (class_of_first g es)

  pub told-calls : (n : Name) → callee_of g e ≡ calls n → told_in g nothing_asked (apply at e es) ≡ called_told g n es
  told-calls n h =
      ap behind h ∙ ap (λ (p : Pos). then_told (told_in_args g (receivers_behind g (calls n) None (count_exprs es)) es) (told_number p (count_exprs es) (length (receivers_of g n)) ++ told_if (returns_none (origin_of g n)) (tell_at rules.S10 p))) (ap place_of (named g e n h))

  pub class-calls : (n : Name) → callee_of g e ≡ calls n → class_of g (apply at e es) ≡ option_map value (mode_of_entry (entry_of g n))
  class-calls n h = ap class_by h ∙ ap (result_class g) (named g e n h)

  pub told-routine : (p : Predefined) → callee_of g e ≡ routine p → told_in g nothing_asked (apply at e es) ≡ routine_call_told g p es (place_of e)
  told-routine p h = ap behind h

  pub class-routine : (p : Predefined) → callee_of g e ≡ routine p → class_of g (apply at e es) ≡ class_of_call p (measured_first g es) (class_of_first g es)
  class-routine p h = ap class_by h

  pub told-index : callee_of g e ≡ no_callee → told_in g nothing_asked (apply at e es) ≡ then_told (told_in g nothing_asked e ++ args_in_index g es (clean_class (told_in g nothing_asked e) (class_of g e))) (told_at_base es (place_of e) (class_of g e))
  told-index h = ap behind h

  pub class-index : callee_of g e ≡ no_callee → class_of g (apply at e es) ≡ option_map (part_of_class element_of_form) (class_of g e)
  class-index h = ap class_by h

-- ---- an index behind something in which that is told, and which has a class

pub index-told : (g : Ground) (es : ExprNodes) (at : Pos) (t : List Diagnostic) (c : Option ClassTree)
    → t ++ told_in_index g es at (clean_class t c) (is_none_told t) ≡ then_told (t ++ args_in_index g es (clean_class t c)) (told_at_base es at c)
index-told g es at [] c = refl
index-told g es at (d ∷ ds) c = sym (append_assoc (d ∷ ds) (args_in_index g es None) [])

pub index-clean : (g : Ground) (es : ExprNodes) (at : Pos) (t : List Diagnostic) (c : Option ClassTree)
    → is_clean_index g es at (clean_class t c) (is_none_told t) ≡ is_none_told (then_told (t ++ args_in_index g es (clean_class t c)) (told_at_base es at c))
index-clean g es at [] c = sym (none-then (args_in_index g es c) (told_at_base es at c))
index-clean g es at (d ∷ ds) c = refl

pub index-class : (g : Ground) (es : ExprNodes) (at : Pos) (t : List Diagnostic) (c : Option ClassTree)
    → class_in_index g es at (clean_class t c) (is_none_told t) ≡ clean_class (then_told (t ++ args_in_index g es (clean_class t c)) (told_at_base es at c)) (option_map (part_of_class element_of_form) c)
index-class g es at [] c = ap (λ (b : Bool). if b then option_map (part_of_class element_of_form) c else None) (sym (none-then (args_in_index g es c) (told_at_base es at c)))
index-class g es at (d ∷ ds) c = refl

-- what is told, from what was told before
pub index-step : (g : Ground) (es : ExprNodes) (at : Pos) (t old first last : List Diagnostic) (c k : Option ClassTree) (b : Bool)
    → first ≡ old ++ t → b ≡ is_none_told t → k ≡ clean_class t c → last ≡ first ++ told_in_index g es at k b
    → last ≡ old ++ then_told (t ++ args_in_index g es (clean_class t c)) (told_at_base es at c)
index-step g es at t old first last c k b told clean class new =
    new ∙ ap (λ (l : List Diagnostic). l ++ told_in_index g es at k b) told
    ∙ ap (λ (k : Option ClassTree). (old ++ t) ++ told_in_index g es at k b) class
    ∙ ap (λ (b : Bool). (old ++ t) ++ told_in_index g es at (clean_class t c) b) clean
    ∙ append_assoc old t (told_in_index g es at (clean_class t c) (is_none_told t))
    ∙ ap (λ (l : List Diagnostic). old ++ l) (index-told g es at t c)

pub ruleset brackets = (told-calls, class-calls, told-routine, class-routine, told-index, class-index, index-told, index-clean, index-class)
