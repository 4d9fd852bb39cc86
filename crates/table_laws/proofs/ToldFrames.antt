-- What is told in an expression depends on the ground only by the names in it, and by the parameters of what these call.
use Rattle.std.proofs.Common.{◌≡◌, ℕ, suc, Bool, true, false, List, [], ◌∷◌, ◌++◌, Option, Some, None, refl, ap, ◌∙◌}
use Rattle.std.specs.Prelude.{option_and_then, ◌==◌, ◌&&◌, is_some, not, if◌then◌else◌, map, flat_map, length}
use Rattle.chill_base.specs.declared.pos.Pos.{Pos}
use Rattle.chill_tree.specs.declared.tree.name.Name.{Name}
use Rattle.chill_tree.specs.ExprTree.{ExprTree, ExprNodes, RangeTree, RangeNodes, whole, character, text, this_instance, paren, receive, start, tuple, uniform, name, apply, field, prefixed, binary, no_exprs, more_exprs, alone, between, no_ranges, more_ranges, place_of}
use Rattle.chill_tree.specs.ItemTree.{ParamTree, FormalTree}
use Rattle.modes.specs.ModeTree.{ModeTree, ClassTree}
use Rattle.modes.specs.Form.{FormTree}
use Rattle.diagnostics.specs.declared.diagnostic.Diagnostic.{Diagnostic}
use Rattle.diagnostics.specs.declared.rule.Rule.TheVariants as rules
use Rattle.checks_model.specs.Told.{tell_at, told_if, then_told, holds_of, holds_of_both}
use Rattle.checks_model.specs.Ground.{Ground, Origin, Predefined, a_synonym, a_mode, an_element, a_location, a_parameter, a_counter, a_received, a_procedure, a_process, a_signal, a_modulion, a_predefined, origin_of, entry_defined, mode_of_entry}
use Rattle.checks_model.specs.Operations.{is_routine, field_of_form, element_of_form, is_measuring, gives_no_value, arguments_of, operands_misfit, operand_misfits, argument_misfits}
use Rattle.checks_model.specs.Classes.{class_of, Callee, calls, routine, no_callee, callee_by, callee_of, tuple_mode, shape_fits, uniform_fits, mode_of_part, count_exprs, measured_misfits}
use Rattle.checks_model.specs.ValueRules.{place_by_origin, place_part, path_of, whole_access, located, place, Receiver, nothing_asked, of_mode, passed_back, condition, selector, bound, set_of_members, received_mode, does_not_go, does_not_fit_parameter, is_not_boolean, is_not_discrete, is_no_powerset, is_too_large, told_received, call_misfits, told_number, passed, receivers_of_param, receivers_of_formal, receivers_by, receivers_of, each_receiver, head_or_none, rest_of, returns_none, shape_misfits, bare, own_told, value_told, index_receiver, index_mode, receivers_behind, clean_class, told_behind, told_in, told_in_args, told_inside_each, told_in_range, told_in_parts}
use Rattle.chill_tree.specs.SimpleTree.{while_holds, for_ever, for_members, for_steps}
use Rattle.checks_model.specs.Operations.{form_in}
use Rattle.checks_model.specs.ActionRules.{clean, member_in, counter_of_both}
use Rattle.table_laws.specs.Names.{names_in, names_in_each, names_in_range, names_in_ranges, some_name}
use Rattle.table_laws.specs.Frames.{SameAt, SameAtEach, SameDefined, SameParameters, parameters_of, ToldFrame, CounterFrame}
use Rattle.table_laws.proofs.KnownFrames.{known_each, of_two, of_three, of_four, tuple_mode_frame, callee_frame, measured_first_frame}
use Rattle.table_laws.proofs.ExprFrames.{first_of_each, later_of_each, class_frame, class_of_first_frame}

-- ---- parameters

first_parameters : (g h : Ground) (ms ns : List Name) → SameParameters g h (ms ++ ns) → SameParameters g h ms
first_parameters g h [] ns same = tt
first_parameters g h (m ∷ ms) ns same = (same.0, first_parameters g h ms ns same.1)

later_parameters : (g h : Ground) (ms ns : List Name) → SameParameters g h (ms ++ ns) → SameParameters g h ns
later_parameters g h [] ns same = same
later_parameters g h (m ∷ ms) ns same = later_parameters g h ms ns same.1

first_defined : (g h : Ground) (ms ns : List Name) → SameDefined g h (ms ++ ns) → SameDefined g h ms
first_defined g h [] ns same = tt
first_defined g h (m ∷ ms) ns same = (same.0, first_defined g h ms ns same.1)

later_defined : (g h : Ground) (ms ns : List Name) → SameDefined g h (ms ++ ns) → SameDefined g h ns
later_defined g h [] ns same = same
later_defined g h (m ∷ ms) ns same = later_defined g h ms ns same.1

-- the receivers that names define
names_frame : (g h : Ground) (to : Option ModeTree → Receiver) (ns : List Name) → SameDefined g h ns → map (λ n. to (mode_of_entry (entry_defined g n))) ns ≡ map (λ n. to (mode_of_entry (entry_defined h n))) ns
names_frame g h to [] same = refl
names_frame g h to (n ∷ ns) same = of_two (λ e rest. to (mode_of_entry e) ∷ rest) same.0 (names_frame g h to ns same.1)

params_frame : (g h : Ground) (ps : List ParamTree) → SameDefined g h (flat_map (λ q. q.names) ps) → flat_map (receivers_of_param g) ps ≡ flat_map (receivers_of_param h) ps
params_frame g h [] same = refl
params_frame g h (p ∷ ps) same =
    of_two (λ a b. a ++ b) (names_frame g h (passed p.passing) p.names (first_defined g h p.names (flat_map (λ q. q.names) ps) same)) (params_frame g h ps (later_defined g h p.names (flat_map (λ q. q.names) ps) same))

formals_frame : (g h : Ground) (ps : List FormalTree) → SameDefined g h (flat_map (λ q. q.names) ps) → flat_map (receivers_of_formal g) ps ≡ flat_map (receivers_of_formal h) ps
formals_frame g h [] same = refl
formals_frame g h (p ∷ ps) same =
    of_two (λ a b. a ++ b) (names_frame g h of_mode p.names (first_defined g h p.names (flat_map (λ q. q.names) ps) same)) (formals_frame g h ps (later_defined g h p.names (flat_map (λ q. q.names) ps) same))

by_origin_frame : (g h : Ground) (o : Option Origin) → SameDefined g h (parameters_of o) → receivers_by g o ≡ receivers_by h o
by_origin_frame g h None same = refl
by_origin_frame g h (Some (a_synonym s)) same = refl
by_origin_frame g h (Some (a_mode novel m)) same = refl
by_origin_frame g h (Some (an_element names part owner)) same = refl
by_origin_frame g h (Some (a_location d)) same = refl
by_origin_frame g h (Some (a_parameter m)) same = refl
by_origin_frame g h (Some (a_counter c)) same = refl
by_origin_frame g h (Some (a_received n count part)) same = refl
by_origin_frame g h (Some (a_procedure p)) same = params_frame g h p.params same
by_origin_frame g h (Some (a_process p)) same = formals_frame g h p.formals same
by_origin_frame g h (Some (a_signal s)) same = refl
by_origin_frame g h (Some (a_modulion kind items)) same = refl
by_origin_frame g h (Some (a_predefined p)) same = refl

receivers_frame : (g h : Ground) (n : Name) → SameAt g h n → SameDefined g h (parameters_of (origin_of g n)) → receivers_of g n ≡ receivers_of h n
receivers_frame g h n same params = by_origin_frame g h (origin_of g n) params ∙ ap (receivers_by h) same.origin

-- ---- locations

path_frame : (g h : Ground) (e : ExprTree) → SameAtEach g h (names_in e) → path_of g e ≡ path_of h e
path_frame g h (whole at n) same = refl
path_frame g h (character at n) same = refl
path_frame g h (text at n) same = refl
path_frame g h (this_instance at) same = refl
path_frame g h (paren at e) same = refl
path_frame g h (receive at n) same = refl
path_frame g h (start at n es) same = refl
path_frame g h (tuple at m b rs) same = refl
path_frame g h (uniform at m b e) same = refl
path_frame g h (name n) same = of_two place_by_origin same.0.entry same.0.origin
path_frame g h (apply at e es) same = ap (place_part element_of_form) (path_frame g h e (first_of_each g h (names_in e) (names_in_each es) same))
path_frame g h (field at e n) same = ap (place_part (field_of_form n.text)) (path_frame g h e same)
path_frame g h (prefixed at o e) same = refl
path_frame g h (binary at l o p r) same = refl

place_frame : (g h : Ground) (e : ExprTree) → SameAtEach g h (names_in e) → place g e ≡ place h e
place_frame g h e same = ap (λ l. located (whole_access l.access l.mode) l.mode) (path_frame g h e same)

-- ---- what is told at one node

received_frame : (g h : Ground) (r : Receiver) (e : ExprTree) → SameAtEach g h (names_in e) → told_received g r e ≡ told_received h r e
received_frame g h nothing_asked e same = refl
received_frame g h (of_mode m) e same = ap (λ c. told_if (holds_of_both does_not_go c m) (tell_at rules.S2 (place_of e))) (class_frame g h m e same)
received_frame g h (passed_back m) e same = ap (λ l. told_if (holds_of (does_not_fit_parameter l) m) (tell_at rules.S6 (place_of e))) (place_frame g h e same)
received_frame g h condition e same = ap (λ c. told_if (holds_of is_not_boolean c) (tell_at rules.S4 (place_of e))) (class_frame g h None e same)
received_frame g h selector e same = ap (λ c. told_if (holds_of is_not_discrete c) (tell_at rules.S7 (place_of e))) (class_frame g h None e same)
received_frame g h bound e same = ap (λ c. told_if (holds_of is_not_discrete c) (tell_at rules.S8 (place_of e))) (class_frame g h None e same)
received_frame g h set_of_members e same = ap (λ c. told_if (holds_of is_no_powerset c) (tell_at rules.S8 (place_of e))) (class_frame g h None e same)

own_frame : (g h : Ground) (r : Receiver) (e : ExprTree) {a b : List Diagnostic} → SameAtEach g h (names_in e) → a ≡ b → own_told g r e a ≡ own_told h r e b
own_frame g h r e same inside = of_two (λ i c. then_told i (told_if (holds_of is_too_large c) (tell_at rules.L6 (place_of (bare e))))) inside (class_frame g h (received_mode r) e same)

value_frame : (g h : Ground) (r : Receiver) (e : ExprTree) {a b : List Diagnostic} → SameAtEach g h (names_in e) → a ≡ b → value_told g r e a ≡ value_told h r e b
value_frame g h r e same inside = of_two then_told (own_frame g h r e same inside) (received_frame g h r e same)

misfits_frame : (g h : Ground) (p : Predefined) (es : ExprNodes) → SameAtEach g h (names_in_each es) → call_misfits g p es ≡ call_misfits h p es
misfits_frame g h p es same = of_two (λ m c. if is_measuring p then measured_misfits p m c else holds_of (argument_misfits p) c) (measured_first_frame g h es (known_each g h (names_in_each es) same)) (class_of_first_frame g h es same)

-- ---- brackets

-- what brackets ask of a procedure: its receivers and whether it returns
abbrev SameCalled : Ground → Ground → Callee → Type 0
SameCalled g h (calls n) = (receivers_of g n ≡ receivers_of h n) × (origin_of g n ≡ origin_of h n)
SameCalled g h (routine p) = Unit {0}
SameCalled g h no_callee = Unit {0}

behind_receivers : (g h : Ground) (c : Callee) {k l : Option ClassTree} (count : ℕ) → SameCalled g h c → k ≡ l → receivers_behind g c k count ≡ receivers_behind h c l count
behind_receivers g h (calls n) count same base = ap (λ rs. each_receiver rs count) same.0
behind_receivers g h (routine p) count same base = refl
behind_receivers g h no_callee count same base = ap (λ k. index_receiver k count ∷ []) base

-- what is told in the base, in the arguments and in what is measured
record SameInside (base args measured : List Diagnostic) (base' args' measured' : List Diagnostic) : Type 0 where
  in_base : base ≡ base'
  in_args : args ≡ args'
  in_measured : measured ≡ measured'

behind_frame : (g h : Ground) (c : Callee) (at : Pos) {k l : Option ClassTree} {a b m a' b' m' : List Diagnostic} (es : ExprNodes) → SameCalled g h c → k ≡ l → SameInside b a m b' a' m'
    → SameAtEach g h (names_in_each es) → told_behind g c at k b a m es ≡ told_behind h c at l b' a' m' es
behind_frame g h (calls n) at es called base inside same =
    of_three (λ a rs o. then_told a (told_number at (count_exprs es) (length rs) ++ told_if (returns_none o) (tell_at rules.S10 at))) inside.in_args called.0 called.1
behind_frame g h (routine p) at es called base inside same =
    of_three (λ m a b. then_told (if is_measuring p then m else a) (told_if (gives_no_value p) (tell_at rules.S10 at) ++ then_told (told_number at (count_exprs es) (arguments_of p)) (told_if b (tell_at rules.S1 at))))
    inside.in_measured inside.in_args (misfits_frame g h p es same)
behind_frame g h no_callee at es called base inside same =
    of_three (λ b a k. then_told (b ++ a) (told_if (is_some (index_mode k) && not (count_exprs es == 1)) (tell_at rules.S5 at))) inside.in_base inside.in_args base

called_by : (g h : Ground) (n : Name) (o : Option Origin) → (receivers_of g n ≡ receivers_of h n) × (origin_of g n ≡ origin_of h n) → SameCalled g h (callee_by n o)
called_by g h n None same = tt
called_by g h n (Some (a_synonym s)) same = tt
called_by g h n (Some (a_mode novel m)) same = tt
called_by g h n (Some (an_element names part owner)) same = tt
called_by g h n (Some (a_location d)) same = tt
called_by g h n (Some (a_parameter m)) same = tt
called_by g h n (Some (a_counter c)) same = tt
called_by g h n (Some (a_received s count part)) same = tt
called_by g h n (Some (a_procedure p)) same = same
called_by g h n (Some (a_process p)) same = tt
called_by g h n (Some (a_signal s)) same = tt
called_by g h n (Some (a_modulion kind items)) same = tt
called_by g h n (Some (a_predefined p)) same = routine_or_none (is_routine p)
  where
    routine_or_none : (b : Bool) → SameCalled g h (if b then routine p else no_callee)
    routine_or_none true = tt
    routine_or_none false = tt

called_frame : (g h : Ground) (e : ExprTree) → SameAtEach g h (names_in e) → SameParameters g h (names_in e) → SameCalled g h (callee_of h e)
called_frame g h (whole at n) same params = tt
called_frame g h (character at n) same params = tt
called_frame g h (text at n) same params = tt
called_frame g h (this_instance at) same params = tt
called_frame g h (paren at e) same params = tt
called_frame g h (receive at n) same params = tt
called_frame g h (start at n es) same params = tt
called_frame g h (tuple at m b rs) same params = tt
called_frame g h (uniform at m b e) same params = tt
called_frame g h (name n) same params = called_by g h n (origin_of h n) (receivers_frame g h n same.0 params.0, same.0.origin)
called_frame g h (apply at e es) same params = tt
called_frame g h (field at e n) same params = tt
called_frame g h (prefixed at o e) same params = tt
called_frame g h (binary at l o p r) same params = tt

-- ---- over an expression

mutual
  pub told_frame : ToldFrame
  told_frame g h r (whole at n) same params = refl
  told_frame g h r (character at n) same params = refl
  told_frame g h r (text at n) same params = refl
  told_frame g h r (this_instance at) same params = refl
  told_frame g h r (paren at e) same params = told_frame g h r e same params
  told_frame g h r (receive at n) same params = refl
  told_frame g h r (start at n es) same params =
      let receivers = receivers_frame g h n same.0 params.0 in
      of_two then_told
      (ap (λ rs. told_in_args g (each_receiver rs (count_exprs es)) es) receivers ∙ told_args_frame g h (each_receiver (receivers_of h n) (count_exprs es)) es same.1 params.1)
      (ap (λ rs. told_number n.at (count_exprs es) (length rs)) receivers)
  told_frame g h r (tuple at m b rs) same params =
      let mode = tuple_mode_frame g h m (received_mode r) (known_each g h (some_name m) (first_of_each g h (some_name m) (names_in_ranges rs) same)) in
      of_two then_told
      (ap (λ m. told_in_parts g (shape_fits rs) 0 m rs) mode ∙ told_parts_frame g h (shape_fits rs) 0 (tuple_mode h m (received_mode r)) rs (later_of_each g h (some_name m) (names_in_ranges rs) same) (later_parameters g h (some_name m) (names_in_ranges rs) params))
      (ap (λ k. told_if (shape_misfits (shape_fits rs) m r k) (tell_at rules.S11 b)) mode)
  told_frame g h r (uniform at m b e) same params =
      let mode = tuple_mode_frame g h m (received_mode r) (known_each g h (some_name m) (first_of_each g h (some_name m) (names_in e) same)) in
      let part = later_of_each g h (some_name m) (names_in e) same in
      let receiver = of_mode (mode_of_part uniform_fits 0 (tuple_mode h m (received_mode r))) in
      of_two then_told
      (ap (λ k. value_told g (of_mode (mode_of_part uniform_fits 0 k)) e (told_in g (of_mode (mode_of_part uniform_fits 0 k)) e)) mode ∙ value_frame g h receiver e part (told_frame g h receiver e part (later_parameters g h (some_name m) (names_in e) params)))
      (ap (λ k. told_if (shape_misfits uniform_fits m r k) (tell_at rules.S11 b)) mode)
  told_frame g h r (name n) same params = refl
  told_frame g h r (apply at e es) same params =
      let base = first_of_each g h (names_in e) (names_in_each es) same in
      let args = later_of_each g h (names_in e) (names_in_each es) same in
      let base_params = first_parameters g h (names_in e) (names_in_each es) params in
      let args_params = later_parameters g h (names_in e) (names_in_each es) params in
      let called = called_frame g h e base base_params in
      let class = class_frame g h None e base in
      let in_base = told_frame g h nothing_asked e base base_params in
      let receivers = behind_receivers g h (callee_of h e) (count_exprs es) called (of_two clean_class in_base class) in
      ap (λ c. told_behind g c (place_of e) (class_of g e) (told_in g nothing_asked e) (told_in_args g (receivers_behind g c (clean_class (told_in g nothing_asked e) (class_of g e)) (count_exprs es)) es) (told_inside_each g es) es) (callee_frame g h e (known_each g h (names_in e) base))
      ∙ behind_frame g h (callee_of h e) (place_of e) es called class
      (record {
        in_base = in_base;
        in_args = ap (λ rs. told_in_args g rs es) receivers ∙ told_args_frame g h (receivers_behind h (callee_of h e) (clean_class (told_in h nothing_asked e) (class_of h e)) (count_exprs es)) es args args_params;
        in_measured = told_inside_frame g h es args args_params;
      })
      args
  told_frame g h r (field at e n) same params = told_frame g h nothing_asked e same params
  told_frame g h r (prefixed at o e) same params =
      of_two then_told (own_frame g h nothing_asked e same (told_frame g h nothing_asked e same params)) (ap (λ c. told_if (holds_of (operand_misfits o) c) (tell_at rules.S1 at)) (class_frame g h None e same))
  told_frame g h r (binary at l o p k) same params =
      let left = first_of_each g h (names_in l) (names_in k) same in
      let right = later_of_each g h (names_in l) (names_in k) same in
      of_four (λ a b c d. then_told (a ++ b) (told_if (holds_of_both (operands_misfit o) c d) (tell_at rules.S1 p)))
      (own_frame g h nothing_asked l left (told_frame g h nothing_asked l left (first_parameters g h (names_in l) (names_in k) params)))
      (own_frame g h nothing_asked k right (told_frame g h nothing_asked k right (later_parameters g h (names_in l) (names_in k) params)))
      (class_frame g h None l left) (class_frame g h None k right)

  told_args_frame : (g h : Ground) (rs : List Receiver) (es : ExprNodes) → SameAtEach g h (names_in_each es) → SameParameters g h (names_in_each es) → told_in_args g rs es ≡ told_in_args h rs es
  told_args_frame g h rs no_exprs same params = refl
  told_args_frame g h rs (more_exprs e es) same params =
      let first = first_of_each g h (names_in e) (names_in_each es) same in
      of_two (λ a b. a ++ b) (value_frame g h (head_or_none rs) e first (told_frame g h (head_or_none rs) e first (first_parameters g h (names_in e) (names_in_each es) params)))
      (told_args_frame g h (rest_of rs) es (later_of_each g h (names_in e) (names_in_each es) same) (later_parameters g h (names_in e) (names_in_each es) params))

  told_inside_frame : (g h : Ground) (es : ExprNodes) → SameAtEach g h (names_in_each es) → SameParameters g h (names_in_each es) → told_inside_each g es ≡ told_inside_each h es
  told_inside_frame g h no_exprs same params = refl
  told_inside_frame g h (more_exprs e es) same params =
      of_two (λ a b. a ++ b) (told_frame g h nothing_asked e (first_of_each g h (names_in e) (names_in_each es) same) (first_parameters g h (names_in e) (names_in_each es) params))
      (told_inside_frame g h es (later_of_each g h (names_in e) (names_in_each es) same) (later_parameters g h (names_in e) (names_in_each es) params))

  told_parts_frame : (g h : Ground) (fits : FormTree → Bool) (k : ℕ) (m : Option ModeTree) (rs : RangeNodes) → SameAtEach g h (names_in_ranges rs) → SameParameters g h (names_in_ranges rs)
      → told_in_parts g fits k m rs ≡ told_in_parts h fits k m rs
  told_parts_frame g h fits k m no_ranges same params = refl
  told_parts_frame g h fits k m (more_ranges r rs) same params =
      of_two (λ a b. a ++ b)
      (told_range_frame g h (mode_of_part fits k m) r (first_of_each g h (names_in_range r) (names_in_ranges rs) same) (first_parameters g h (names_in_range r) (names_in_ranges rs) params))
      (told_parts_frame g h fits (suc k) m rs (later_of_each g h (names_in_range r) (names_in_ranges rs) same) (later_parameters g h (names_in_range r) (names_in_ranges rs) params))

  told_range_frame : (g h : Ground) (m : Option ModeTree) (r : RangeTree) → SameAtEach g h (names_in_range r) → SameParameters g h (names_in_range r) → told_in_range g m r ≡ told_in_range h m r
  told_range_frame g h m (alone e) same params = value_frame g h (of_mode m) e same (told_frame g h (of_mode m) e same params)
  told_range_frame g h m (between l k) same params =
      let left = first_of_each g h (names_in l) (names_in k) same in
      let right = later_of_each g h (names_in l) (names_in k) same in
      of_two (λ a b. a ++ b) (value_frame g h (of_mode m) l left (told_frame g h (of_mode m) l left (first_parameters g h (names_in l) (names_in k) params)))
      (value_frame g h (of_mode m) k right (told_frame g h (of_mode m) k right (later_parameters g h (names_in l) (names_in k) params)))

-- ---- the mode of a counter

clean_frame : (g h : Ground) (e : ExprTree) → SameAtEach g h (names_in e) → SameParameters g h (names_in e) → clean g e ≡ clean h e
clean_frame g h e same params = of_two clean_class (told_frame g h nothing_asked e same params) (class_frame g h None e same)

pub counter_frame : CounterFrame
counter_frame g h (while_holds at c) same params = refl
counter_frame g h (for_ever at) same params = refl
counter_frame g h (for_members at n s c) same params = ap (λ k. option_and_then member_in (option_and_then form_in k)) (clean_frame g h s same params)
counter_frame g h (for_steps at n s b down e c) same params =
    of_two counter_of_both (clean_frame g h s (first_of_each g h (names_in s) (names_in e) same) (first_parameters g h (names_in s) (names_in e) params))
    (clean_frame g h e (later_of_each g h (names_in s) (names_in e) same) (later_parameters g h (names_in s) (names_in e) params))
