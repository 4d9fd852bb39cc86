-- What is known of a constant: its class and its value, the value by its flat scalars; and what comes of an operator or a
-- routine, by the classes and values of what it takes.
use Rattle.std.specs.Prelude.{◌≡◌, Bool, true, false, ◌&&◌, Option, Some, None, is_some, option_map, option_and_then, IsTrue, List, ℕ, ℤ, map, pos}
use Rattle.chill_tree.specs.declared.tree.expr.Operator.{Operator}
use Rattle.chill_tree.specs.declared.tree.expr.Prefix.{Prefix}
use Rattle.modes.specs.ModeTree.{ClassTree, class_tree}
use Rattle.checks_model.specs.ValueTrees.{ValueTree, scalars_in, value_nodes, number, parts}
use Rattle.checks_model.specs.Told.{holds_of, holds_of_both}
use Rattle.checks_model.specs.Ground.{Predefined}
use Rattle.checks_model.specs.Operations.{class_of_binary, class_of_unary, class_of_routine, operands_misfit, operand_misfits, argument_misfits}
use Rattle.checks_model.specs.OperatorValues.{value_of_binary, value_of_unary, value_of_routine}
use Rattle.checks_model.specs.Classes.{both_classes}
use Rattle.checks_model.specs.Constants.{applied}
use Rattle.checks_model.specs.ConstantRules.{raises}
use Rattle.constant_values.specs.Fits.{fit_together}
use Rattle.constant_operators.specs.declared.evaluation.Entry.{Entry}
use Rattle.constant_operators.specs.declared.known.Known.{Known}
use Rattle.constant_operators.specs.declared.operators.Computed.{Computed}
use Rattle.constant_operators.specs.declared.operators.Computed.TheVariants as computed

-- a constant in which nothing is told, of this class and with these scalars
pub record Holds (c : Option ClassTree) (flat : Option (List ℤ)) (k : Known) : Type 0 where
  pub class : option_map class_tree k.class ≡ c
  pub value : k.value ≡ flat
  pub is_constant : k.is_constant ≡ true
  pub is_clean : k.is_clean ≡ true

-- what isn't constant, with its class where that is known
pub record IsVarying (c : Option ClassTree) (clean : Bool) (k : Known) : Type 0 where
  pub class : option_map class_tree k.class ≡ c
  pub value : k.value ≡ None
  pub is_constant : k.is_constant ≡ false
  pub is_clean : k.is_clean ≡ clean

-- that in which something is told
pub record IsTold (constant : Bool) (k : Known) : Type 0 where
  pub class : k.class ≡ None
  pub value : k.value ≡ None
  pub is_constant : k.is_constant ≡ constant
  pub is_clean : k.is_clean ≡ false

-- this is known of what has a class and a value
pub record IsKnown (c : Option ClassTree) (v : Option ValueTree) (k : Known) : Type 0 where
  pub class : option_map class_tree k.class ≡ c
  pub value : k.value ≡ option_map scalars_in v
  pub fits : IsTrue (fit_together c v)

-- the same of a constant in which nothing is told
pub record IsKnownConstant (c : Option ClassTree) (v : Option ValueTree) (k : Known) : Type 0 where
  pub known : IsKnown c v k
  pub is_constant : k.is_constant ≡ true
  pub is_clean : k.is_clean ≡ true

-- the constant that a definition keeps
abbrev pub IsOfEntry : Entry → Known → Type 0
IsOfEntry e k = Holds (option_map class_tree e.class) e.value k

-- what is known where there is a class, and nothing where there is none
abbrev pub IsMeasure : Option ClassTree → Option ValueTree → Option Known → Type 0
IsMeasure c v None = c ≡ None
IsMeasure c v (Some k) = (is_some c ≡ true) × IsKnownConstant c v k

-- what comes of an operator or a routine that misfits its operands, or raises an exception in place of a value of a class, or
-- gives a class and a value
abbrev pub IsComputed : Bool → Bool → Option ClassTree → Option ValueTree → Computed → Type 0
IsComputed misfit raised c v (computed.Known k) = (misfit ≡ false) × (raised ≡ false) × IsKnownConstant c v k
IsComputed misfit raised c v computed.Misfit = misfit ≡ true
IsComputed misfit raised c v (computed.OutOfRange of) = (misfit ≡ false) × (raised ≡ true) × (c ≡ Some (class_tree of))

-- a result of a class, with its scalars where there is a value
abbrev pub IsResult : ClassTree → Option (List ℤ) → Computed → Type 0
IsResult c (Some flat) (computed.Known k) = Holds (Some c) (Some flat) k
IsResult c None (computed.OutOfRange of) = class_tree of ≡ c
IsResult c flat r = ⊥

-- ---- of operators and routines, by the classes and values of what they take

abbrev pub binary_misfits : Operator → Option ClassTree → Option ClassTree → Bool
binary_misfits o l r = holds_of_both (operands_misfit o) l r

abbrev pub binary_raises : Operator → Option ClassTree → Option ValueTree → Option ClassTree → Option ValueTree → Bool
binary_raises o l v r w = is_some l && holds_of (λ c. holds_of_both (λ v w. raises (value_of_binary o c v) w) v w) r

abbrev pub binary_class : Operator → Option ClassTree → Option ClassTree → Option ClassTree
binary_class o l r = both_classes (class_of_binary o) l r

abbrev pub binary_value : Operator → Option ValueTree → Option ClassTree → Option ValueTree → Option ValueTree
binary_value o v r w = applied (λ c w. option_and_then (λ v. value_of_binary o c v w) v) r w

abbrev pub unary_misfits : Prefix → Option ClassTree → Bool
unary_misfits o c = holds_of (operand_misfits o) c

abbrev pub unary_raises : Prefix → Option ClassTree → Option ValueTree → Bool
unary_raises o c v = is_some c && holds_of (raises (value_of_unary o)) v

abbrev pub unary_class : Prefix → Option ClassTree → Option ClassTree
unary_class o c = option_and_then (class_of_unary o) c

abbrev pub unary_value : Prefix → Option ValueTree → Option ValueTree
unary_value o v = option_and_then (value_of_unary o) v

abbrev pub routine_misfits : Predefined → Option ClassTree → Bool
routine_misfits p c = holds_of (argument_misfits p) c

abbrev pub routine_raises : Predefined → Option ClassTree → Option ValueTree → Bool
routine_raises p c v = holds_of (λ c. holds_of (raises (value_of_routine p c)) v) c

abbrev pub routine_class : Predefined → Option ClassTree → Option ClassTree
routine_class p c = option_and_then (class_of_routine p) c

abbrev pub routine_value : Predefined → Option ClassTree → Option ValueTree → Option ValueTree
routine_value p c v = applied (value_of_routine p) c v

-- the value of a text
abbrev pub text_value : List ℕ → ValueTree
text_value bytes = parts (value_nodes (map (λ b. number (pos b)) bytes))
