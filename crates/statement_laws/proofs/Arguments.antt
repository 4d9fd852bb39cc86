-- What is told of arguments one by one, and what is told whatever receives an expression.
use Rattle.std.proofs.Common.{◌≡◌, ◌++◌, Option, Some, None, Bool, false, true, not, refl, ap, ◌∙◌}
use Rattle.std.specs.Prelude.{if◌then◌else◌}
use Rattle.chill_tree.specs.declared.tree.name.Name.{Name}
use Rattle.chill_tree.specs.ExprTree.{no_exprs, more_exprs, whole, character, text, this_instance, paren, receive, start, tuple, uniform, name, apply, field, prefixed, binary}
use Rattle.modes.specs.ModeTree.{ModeTree}
use Rattle.modes.specs.Form.{FormTree, form_of}
use Rattle.diagnostics.specs.declared.rule.Rule.TheVariants as rules
use Rattle.checks_model.specs.Ground.{a_synonym, a_mode, an_element, a_location, a_parameter, a_counter, a_received, a_procedure, a_process, a_signal, a_modulion, a_predefined}
use Rattle.checks_model.specs.Told.{tell_at, told_if, then_told, holds_of}
use Rattle.checks_model.specs.Classes.{tuple_mode, shape_fits, uniform_fits, mode_of_part}
use Rattle.checks_model.specs.ValueRules.{Receiver, nothing_asked, of_mode, may_have_mode, told_in, told_in_parts, told_value, value_told, shape_misfits}
use Rattle.statement_laws.specs.Laws.{SameReceiverLaw, NoReceiversLaw, AlikeLaw, MessagesLaw}

pub args_same : SameReceiverLaw
args_same g r no_exprs = refl
args_same g r (more_exprs e es) = ap (λ l. value_told g r e (told_in g r e) ++ l) (args_same g r es)

pub args_none : NoReceiversLaw
args_none g no_exprs = refl
args_none g (more_exprs e es) = ap (λ l. value_told g (of_mode None) e (told_in g (of_mode None) e) ++ l) (args_none g es)

-- a tuple that goes where no mode can be has no shape, unless it has a name
misfits-alike : (fits : FormTree → Bool) (n : Option Name) (r : Receiver) (m : Option ModeTree) → may_have_mode r ≡ false → shape_misfits fits n r m ≡ shape_misfits fits n nothing_asked m
misfits-alike fits (Some n) r m k = refl
misfits-alike fits None r m k = ap (λ b. if b then holds_of (λ m. not (fits (form_of m))) m else true) k

pub alike : AlikeLaw
alike g r h k (whole at n) = refl
alike g r h k (character at n) = refl
alike g r h k (text at n) = refl
alike g r h k (this_instance at) = refl
alike g r h k (paren at e) = alike g r h k e
alike g r h k (receive at n) = refl
alike g r h k (start at n es) = refl
alike g r h k (tuple at n b rs) =
    ap (λ m. then_told (told_in_parts g (shape_fits rs) 0 (tuple_mode g n m) rs) (told_if (shape_misfits (shape_fits rs) n r (tuple_mode g n m)) (tell_at rules.S11 b))) h
    ∙ ap (λ s. then_told (told_in_parts g (shape_fits rs) 0 (tuple_mode g n None) rs) (told_if s (tell_at rules.S11 b))) (misfits-alike (shape_fits rs) n r (tuple_mode g n None) k)
alike g r h k (uniform at n b e) =
    ap (λ m. then_told (told_value g (of_mode (mode_of_part uniform_fits 0 (tuple_mode g n m))) e) (told_if (shape_misfits uniform_fits n r (tuple_mode g n m)) (tell_at rules.S11 b))) h
    ∙ ap (λ s. then_told (told_value g (of_mode (mode_of_part uniform_fits 0 (tuple_mode g n None))) e) (told_if s (tell_at rules.S11 b))) (misfits-alike uniform_fits n r (tuple_mode g n None) k)
alike g r h k (name n) = refl
alike g r h k (apply at e es) = refl
alike g r h k (field at e n) = refl
alike g r h k (prefixed at o e) = refl
alike g r h k (binary at e o p f) = refl

pub messages : MessagesLaw
messages e None = refl
messages None (Some (a_signal s)) = refl
messages (Some e) (Some (a_signal s)) = refl
messages e (Some (a_synonym s)) = refl
messages e (Some (a_mode b m)) = refl
messages e (Some (an_element ns k o)) = refl
messages e (Some (a_location d)) = refl
messages e (Some (a_parameter m)) = refl
messages e (Some (a_counter c)) = refl
messages e (Some (a_received n c k)) = refl
messages e (Some (a_procedure p)) = refl
messages e (Some (a_process p)) = refl
messages e (Some (a_modulion k i)) = refl
messages e (Some (a_predefined p)) = refl
