-- The class of an expression depends on the ground only by the names in the expression.
use Rattle.std.proofs.Common.{◌≡◌, List, [], ◌∷◌, ◌++◌, Option, None, refl, ap, ◌∙◌}
use Rattle.std.specs.Prelude.{option_map, option_and_then}
use Rattle.chill_tree.specs.declared.tree.name.Name.{Name}
use Rattle.chill_tree.specs.ExprTree.{ExprTree, ExprNodes, whole, character, text, this_instance, paren, receive, start, tuple, uniform, name, apply, field, prefixed, binary, no_exprs, more_exprs}
use Rattle.modes.specs.ModeTree.{ClassTree, value}
use Rattle.checks_model.specs.Ground.{Ground, mode_of_entry, element_of}
use Rattle.checks_model.specs.Operations.{class_of_binary, class_of_unary, part_of_class, field_of_form}
use Rattle.checks_model.specs.Classes.{class_of_first, class_behind, result_class, class_of_origin, class_of_name, Callee, Measured, value_if, shape_fits, uniform_fits, both_classes}
use Rattle.table_laws.specs.Names.{names_in, names_in_each, names_in_ranges, some_name}
use Rattle.table_laws.specs.Frames.{SameAt, SameAtEach, ClassFrame}
use Rattle.table_laws.proofs.KnownFrames.{known_each, of_two, of_four, tuple_mode_frame, callee_frame, measured_first_frame}

pub first_of_each : (g h : Ground) (ms ns : List Name) → SameAtEach g h (ms ++ ns) → SameAtEach g h ms
first_of_each g h [] ns same = tt
first_of_each g h (m ∷ ms) ns same = (same.0, first_of_each g h ms ns same.1)

pub later_of_each : (g h : Ground) (ms ns : List Name) → SameAtEach g h (ms ++ ns) → SameAtEach g h ns
later_of_each g h [] ns same = same
later_of_each g h (m ∷ ms) ns same = later_of_each g h ms ns same.1

-- ---- names

class_of_name_frame : (g h : Ground) (n : Name) → SameAt g h n → class_of_name g n ≡ class_of_name h n
class_of_name_frame g h n same = of_two class_of_origin same.entry same.origin

result_frame : (g h : Ground) (e : ExprTree) → SameAtEach g h (names_in e) → result_class g e ≡ result_class h e
result_frame g h (whole at n) same = refl
result_frame g h (character at n) same = refl
result_frame g h (text at n) same = refl
result_frame g h (this_instance at) same = refl
result_frame g h (paren at e) same = refl
result_frame g h (receive at n) same = refl
result_frame g h (start at n es) same = refl
result_frame g h (tuple at m b rs) same = refl
result_frame g h (uniform at m b e) same = refl
result_frame g h (name n) same = ap (λ e. option_map value (mode_of_entry e)) same.0.entry
result_frame g h (apply at e es) same = refl
result_frame g h (field at e n) same = refl
result_frame g h (prefixed at o e) same = refl
result_frame g h (binary at l o p r) same = refl

-- ---- classes

behind_frame : {c d : Callee} {r s b k : Option ClassTree} {m n : Measured} {x y : Option ClassTree}
    → c ≡ d → r ≡ s → b ≡ k → m ≡ n → x ≡ y → class_behind c r b m x ≡ class_behind d s k n y
behind_frame {c} {d} {r} {s} {b} {k} {m} {n} {x} {y} pc pr pb pm px = ap (λ z. class_behind z r b m x) pc ∙ of_four (class_behind d) pr pb pm px

mutual
  pub class_frame : ClassFrame
  class_frame g h r (whole at n) same = refl
  class_frame g h r (character at n) same = refl
  class_frame g h r (text at n) same = refl
  class_frame g h r (this_instance at) same = refl
  class_frame g h r (paren at e) same = class_frame g h r e same
  class_frame g h r (receive at n) same = ap (λ e. option_map value (option_and_then element_of (mode_of_entry e))) same.0.entry
  class_frame g h r (start at n es) same = refl
  class_frame g h r (tuple at m b rs) same = ap (option_and_then (value_if (shape_fits rs))) (tuple_mode_frame g h m r (known_each g h (some_name m) (first_of_each g h (some_name m) (names_in_ranges rs) same)))
  class_frame g h r (uniform at m b e) same = ap (option_and_then (value_if uniform_fits)) (tuple_mode_frame g h m r (known_each g h (some_name m) (first_of_each g h (some_name m) (names_in e) same)))
  class_frame g h r (name n) same = class_of_name_frame g h n same.0
  class_frame g h r (apply at e es) same =
      let base = first_of_each g h (names_in e) (names_in_each es) same in
      let args = later_of_each g h (names_in e) (names_in_each es) same in
      behind_frame (callee_frame g h e (known_each g h (names_in e) base)) (result_frame g h e base) (class_frame g h None e base) (measured_first_frame g h es (known_each g h (names_in_each es) args)) (class_of_first_frame g h es args)
  class_frame g h r (field at e n) same = ap (option_map (part_of_class (field_of_form n.text))) (class_frame g h None e same)
  class_frame g h r (prefixed at o e) same = ap (option_and_then (class_of_unary o)) (class_frame g h None e same)
  class_frame g h r (binary at l o p k) same =
      of_two (both_classes (class_of_binary o)) (class_frame g h None l (first_of_each g h (names_in l) (names_in k) same)) (class_frame g h None k (later_of_each g h (names_in l) (names_in k) same))

  pub class_of_first_frame : (g h : Ground) (es : ExprNodes) → SameAtEach g h (names_in_each es) → class_of_first g es ≡ class_of_first h es
  class_of_first_frame g h no_exprs same = refl
  class_of_first_frame g h (more_exprs e es) same = class_frame g h None e (first_of_each g h (names_in e) (names_in_each es) same)
