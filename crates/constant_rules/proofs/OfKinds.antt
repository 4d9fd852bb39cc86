-- What is found of each kind of expression.
use Rattle.std.proofs.Common.{◌≡◌, ℕ, ◌<◌, ◌≤◌, Bool, true, false, List, [], ◌∷◌, ◌++◌, Option, Some, None, ℤ, pos, refl, ap, sym, subst, ◌∙◌, arith}
use Rattle.std.specs.Prelude.{◌&&◌, neg_ℤ, slice_get, option_map, option_and_then, if◌then◌else◌}
use Rattle.std.proofs.lemmas.Bool.{lt-ltb, le-ltb}
use Rattle.std.proofs.lemmas.Int.{ints}
use Rattle.chill_base.specs.declared.pos.Pos.{Pos}
use Rattle.chill_tree.specs.declared.tree.name.Name.{Name}
use Rattle.chill_tree.specs.ExprTree.{ExprTree, ExprNodes, whole, character, text, this_instance, receive, paren, name, apply, alone, between, place_of}
use Rattle.chill_tree.proofs.ExprViews.{expr_built}
use Rattle.diagnostics.specs.declared.diagnostic.Diagnostic.{Diagnostic}
use Rattle.diagnostics.specs.declared.rule.Rule.TheVariants as rules
use Rattle.modes.specs.ModeTree.{derived, int, char}
use Rattle.scalar_operators.specs.Numbers.{is_int}
use Rattle.checks_model.specs.ValueTrees.{number}
use Rattle.checks_model.specs.Told.{tell_at, told_if, is_none_told}
use Rattle.checks_model.specs.Ground.{Ground, Predefined, number_at}
use Rattle.checks_model.specs.OperatorValues.{in_int}
use Rattle.checks_model.specs.Classes.{class_of, class_of_origin}
use Rattle.checks_model.specs.Constants.{has_form, is_constant_origin, constant_of, value_of_name}
use Rattle.checks_model.specs.ConstantRules.{told_of_constants, told_in_each, told_literal}
use Rattle.constant_operators.specs.declared.known.Known.{Known}
use Rattle.constant_operators.specs.Grounds.{class_defined, value_defined, predefined_named}
use Rattle.constant_operators.specs.Known.{IsKnownConstant, IsVarying, IsTold}
use Rattle.constant_rules.specs.Found.{IsFound, Varies}
use Rattle.constant_rules.specs.Walks.{FindsExpr, FindsLiteral, FindsRoutine, told_in_ends}
use Rattle.constant_rules.proofs.Finding.{none_both, constant_found, found_here, varying_found, told_found, to_varying, in_turn, found_so}
use Rattle.constant_rules.proofs.OfExprs.{applied_parts, called_routine, started, of_field, varying_parts, varying_value, named_so, binary_found}
use Rattle.constant_rules.proofs.Views.{range_out}

-- ---- literals

few_told : (at : Pos) (limit n : ℕ) → n ≤ limit → told_literal at limit n ≡ []
few_told at limit n few = ap (λ (b : Bool). told_if b (tell_at rules.M11 at)) (le-ltb limit n few)

many_told : (at : Pos) (limit n : ℕ) → limit < n → told_literal at limit n ≡ tell_at rules.M11 at ∷ []
many_told at limit n many = ap (λ (b : Bool). told_if b (tell_at rules.M11 at)) (lt-ltb limit n many)

of_int : (z : ℤ) → is_int z ≡ true → in_int z ≡ Some (number z)
of_int z e = ap (λ (b : Bool). option_map number (if b then Some z else None)) e

small_int : (n : ℕ) → n ≤ 2147483647 → is_int (pos n) ≡ true
small_int n few = grind (arith, ints, few)

small_negative : (n : ℕ) → n ≤ 2147483648 → is_int (neg_ℤ (pos n)) ≡ true
small_negative n few = grind (arith, ints, few)

in_limit : (at : Pos) (limit n : ℕ) (z : ℤ) (old : List Diagnostic) (k : Known) → n ≤ limit → is_int z ≡ true → IsKnownConstant (Some (derived int)) (Some (number z)) k → FindsLiteral at limit n z old old k
in_limit at limit n z old k few own h = found_so refl (few_told at limit n few) (λ _. (refl, of_int z own)) (found_here old (constant_found h))

pub literal_found : (at : Pos) (n : ℕ) (old : List Diagnostic) (k : Known) → n ≤ 2147483647 → IsKnownConstant (Some (derived int)) (Some (number (pos n))) k → FindsLiteral at 2147483647 n (pos n) old old k
literal_found at n old k few h = in_limit at 2147483647 n (pos n) old k few (small_int n few) h

pub negative_literal : (at : Pos) (n : ℕ) (old : List Diagnostic) (k : Known) → n ≤ 2147483648 → IsKnownConstant (Some (derived int)) (Some (number (neg_ℤ (pos n)))) k → FindsLiteral at 2147483648 n (neg_ℤ (pos n)) old old k
negative_literal at n old k few h = in_limit at 2147483648 n (neg_ℤ (pos n)) old k few (small_negative n few) h

pub literal_told : (at : Pos) (limit n : ℕ) (z : ℤ) (old new : List Diagnostic) (k : Known) → limit < n → new ≡ old ++ tell_at rules.M11 at ∷ [] → IsTold true k → FindsLiteral at limit n z old new k
literal_told at limit n z old new k many told h =
    let own = many_told at limit n many in
    record { told = told ∙ ap (λ (xs : List Diagnostic). old ++ xs) (sym own); found = told_found h.is_constant h.is_clean (ap is_none_told own) }

-- ---- names

pub name_unknown : (g : Ground) (n : Name) (k : Known) → number_at g.uses n.at ≡ None → IsVarying None true k → IsFound (has_form g false (name n)) [] (class_of g (name n)) (constant_of g (name n)) k
name_unknown g n k none h = subst (λ (f : Bool). IsFound f [] (class_of g (name n)) (constant_of g (name n)) k) (sym (ap (λ (d : Option ℕ). is_constant_origin (option_and_then (slice_get g.origins) d)) none)) (varying_found h.is_constant h.is_clean)

pub name_varying : (g : Ground) (n : Name) (d : ℕ) (k : Known) → number_at g.uses n.at ≡ Some d → is_constant_origin (slice_get g.origins d) ≡ false → IsVarying None true k → IsFound (has_form g false (name n)) [] (class_of g (name n)) (constant_of g (name n)) k
name_varying g n d k is other h = subst (λ (f : Bool). IsFound f [] (class_of g (name n)) (constant_of g (name n)) k) (sym (ap (λ (d : Option ℕ). is_constant_origin (option_and_then (slice_get g.origins) d)) is ∙ other)) (varying_found h.is_constant h.is_clean)

pub name_found : (g : Ground) (n : Name) (d : ℕ) (k : Known) → number_at g.uses n.at ≡ Some d → is_constant_origin (slice_get g.origins d) ≡ true → IsKnownConstant (class_defined g d) (value_defined g d) k → IsFound (has_form g false (name n)) [] (class_of g (name n)) (constant_of g (name n)) k
name_found g n d k is own h =
    subst (λ (f : Bool). IsFound f [] (class_of g (name n)) (constant_of g (name n)) k) (sym (ap (λ (d : Option ℕ). is_constant_origin (option_and_then (slice_get g.origins) d)) is ∙ own))
    (subst (λ (d : Option ℕ). IsFound true [] (class_of_origin (option_and_then (slice_get g.entries) d) (option_and_then (slice_get g.origins) d)) (value_of_name (option_and_then (slice_get g.entries) d) (option_and_then (slice_get g.origins) d)) k) (sym is) (constant_found h))

-- ---- expressions

pub of_whole : (g : Ground) (at : Pos) (n : ℕ) (old new : List Diagnostic) (k : Known) → FindsLiteral at 2147483647 n (pos n) old new k → FindsExpr g (whole at n) old new k
of_whole g at n old new k h = h

pub of_character : (g : Ground) (at : Pos) (n : ℕ) (old : List Diagnostic) (k : Known) → IsKnownConstant (Some (derived char)) (Some (number (pos n))) k → FindsExpr g (character at n) old old k
of_character g at n old k h = found_here old (constant_found h)

pub of_text : (g : Ground) (at : Pos) (bs : List ℕ) (old : List Diagnostic) (k : Known) → IsKnownConstant (class_of g (text at bs)) (constant_of g (text at bs)) k → FindsExpr g (text at bs) old old k
of_text g at bs old k h = found_here old (constant_found h)

pub of_this : (g : Ground) (at : Pos) (old : List Diagnostic) (k : Known) → IsVarying None true k → FindsExpr g (this_instance at) old old k
of_this g at old k h = found_here old (varying_found h.is_constant h.is_clean)

pub of_receive : (g : Ground) (at : Pos) (n : Name) (old : List Diagnostic) (k : Known) → IsVarying None true k → FindsExpr g (receive at n) old old k
of_receive g at n old k h = found_here old (varying_found h.is_constant h.is_clean)

pub of_paren : (g : Ground) (at : Pos) (e : ExprTree) (old new : List Diagnostic) (k : Known) → FindsExpr g e old new k → FindsExpr g (paren at e) old new k
of_paren g at e old new k h = record { told = h.told; found = h.found }

pub of_name : (g : Ground) (n : Name) (old : List Diagnostic) (k : Known) → IsFound (has_form g false (name n)) [] (class_of g (name n)) (constant_of g (name n)) k → FindsExpr g (name n) old old k
of_name g n old k h = found_here old h

pub part_varies : (g : Ground) (e : ExprTree) (old new : List Diagnostic) (k l : Known) → FindsExpr g e old new k → IsVarying None k.is_clean l → Varies (told_of_constants g e) old new l
part_varies g e old new k l h v = to_varying h v.is_constant v.is_clean

-- what stands before brackets is no routine
pub of_applied : (g : Ground) (at : Pos) (e : ExprTree) (es : ExprNodes) (old mid new : List Diagnostic) (b p k : Known) → predefined_named g e ≡ None → FindsExpr g e old mid b → Varies (told_in_each g es) mid new p → IsVarying None (b.is_clean && p.is_clean) k → FindsExpr g (apply at e es) old new k
of_applied g at e es old mid new b p k none h w v = applied_parts g at e es none (record {
  told = in_turn (told_of_constants g e) (told_in_each g es) old h.told w.told;
  found = varying_found v.is_constant (v.is_clean ∙ (λ i. h.found.is_clean i && w.found.is_clean i) ∙ sym (none_both (told_of_constants g e) (told_in_each g es)));
})

pub of_routine : (g : Ground) (at : Pos) (e : ExprTree) (es : ExprNodes) (p : Predefined) (old new : List Diagnostic) (k : Known) → predefined_named g e ≡ Some p → FindsRoutine g (place_of e) p es old new k → FindsExpr g (apply at e es) old new k
of_routine g at e es p old new k is h = called_routine g at e es p is h

-- the ends of a range
pub of_alone : (g : Ground) (e : ExprTree) (old new : List Diagnostic) (k l : Known) → FindsExpr g e old new k → IsVarying None k.is_clean l → Varies (told_in_ends g (alone e)) old new l
of_alone g e old new k l h v = to_varying h v.is_constant v.is_clean

pub of_between : (g : Ground) (l h : ExprTree) (old mid new : List Diagnostic) (a b k : Known) → FindsExpr g l old mid a → FindsExpr g h mid new b → IsVarying None (a.is_clean && b.is_clean) k → Varies (told_in_ends g (between l h)) old new k
of_between g l h old mid new a b k x y v = record {
  told = in_turn (told_of_constants g l) (told_of_constants g h) old x.told y.told;
  found = varying_found v.is_constant (v.is_clean ∙ (λ i. x.found.is_clean i && y.found.is_clean i) ∙ sym (none_both (told_of_constants g l) (told_of_constants g h)));
}

pub ruleset known_views = (expr_built, of_whole, of_character, of_text, of_this, of_receive, of_paren, started, of_field, of_name, varying_parts, varying_value, named_so, binary_found)

pub ruleset applied_views = (expr_built, of_applied, of_routine)

pub ruleset ends_views = (range_out, of_alone, of_between)
