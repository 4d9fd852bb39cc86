-- Similar and equivalent are equivalences, and what goes with a mode.
use Rattle.std.proofs.Common.{◌≡◌, ℕ, Bool, true, false, ◌&&◌, refl, sym, ◌∙◌, rules, arith, subst}
use Rattle.std.specs.Prelude.{◌↔◌, IsTrue}
use Rattle.modes.specs.ModeTree.{ModeTree, int, boolean, char, instance, set_of, range, powerset, chars, array, structure, event, buffer, read, named, FieldNodes, no_fields, more_fields, ClassTree, value, derived, null, nothing}
use Rattle.modes.specs.Bounds.{bounds_of, values_of}
use Rattle.modes.specs.Form.{FormTree, of_int, of_boolean, of_char, of_instance, of_set, of_powerset, of_chars, of_array, of_structure, of_meeting, form_of}
use Rattle.modes.specs.Language.{IsOfLanguage, parts_fit, fields_fit, is_filled, is_from_to, lie_in}
use Rattle.modes.specs.Similar.{Shape, like_int, like_boolean, like_char, like_instance, like_set, like_powerset, like_chars, like_array, like_structure, like_none, part, no_more, next_field, shape_of, shape_of_fields, has_values, Similar, VEquivalent, Equivalent}
use Rattle.modes.specs.Classes.{GoesWith}
use Rattle.modes.proofs.SimilarLemmas.{both, of_both, shape_in, shape-form}

-- no event or buffer stands in a mode that a text can give to a location
mutual
  fit-values : (m : ModeTree) → IsTrue (parts_fit m) → IsTrue (has_values (shape_of m))
  fit-values int h = refl
  fit-values boolean h = refl
  fit-values char h = refl
  fit-values instance h = refl
  fit-values (set_of d n) h = refl
  fit-values (range p l r) h = fit-values p (both _ _ h).0
  fit-values (powerset m) h = fit-values m (both _ _ h).0
  fit-values (chars n) h = refl
  fit-values (array i e how) h = of_both _ _ (fit-values i (both _ _ h).0) (fit-values e (both _ _ (both _ _ h).1).1)
  fit-values (structure fs p) h = fit-field-values fs (both _ _ h).1
  fit-values (event l) h = h
  fit-values (buffer l e) h = h
  fit-values (read m) h = fit-values m h
  fit-values (named d n m) h = fit-values m h

  fit-field-values : (fs : FieldNodes) → IsTrue (fields_fit fs) → IsTrue (has_values (shape_of_fields fs))
  fit-field-values no_fields h = refl
  fit-field-values (more_fields name m at fs) h = of_both _ _ (fit-values m (both _ _ h).0) (fit-field-values fs (both _ _ h).1)

pub similar-refl : (a : ModeTree) → IsOfLanguage a → Similar a a
similar-refl a h = record { shape = refl; values = fit-values a h.parts }

pub similar-sym : (a b : ModeTree) → Similar a b → Similar b a
similar-sym a b s = record { shape = sym s.shape; values = subst (λ (x : Shape). IsTrue (has_values x)) s.shape s.values }

pub similar-trans : (a b c : ModeTree) → Similar a b → Similar b c → Similar a c
similar-trans a b c s t = record { shape = s.shape ∙ t.shape; values = s.values }

pub equivalent-refl : (a : ModeTree) → IsOfLanguage a → Equivalent a a
equivalent-refl a h = record { v_equivalent = record { similar = similar-refl a h; novelty = refl }; read = refl; bounds = refl }

pub equivalent-sym : (a b : ModeTree) → Equivalent a b → Equivalent b a
equivalent-sym a b e = record {
  v_equivalent = record { similar = similar-sym a b e.v_equivalent.similar; novelty = sym e.v_equivalent.novelty };
  read = sym e.read;
  bounds = sym e.bounds;
}

pub equivalent-trans : (a b c : ModeTree) → Equivalent a b → Equivalent b c → Equivalent a c
equivalent-trans a b c e f = record {
  v_equivalent = record {
    similar = similar-trans a b c e.v_equivalent.similar f.v_equivalent.similar;
    novelty = e.v_equivalent.novelty ∙ f.v_equivalent.novelty;
  };
  read = e.read ∙ f.read;
  bounds = e.bounds ∙ f.bounds;
}

pub equivalent-similar : (a b : ModeTree) → Equivalent a b → Similar a b
equivalent-similar a b e = e.v_equivalent.similar

-- a form that looks like INSTANCE is it
instance_shape : (f : FormTree) → shape_in f ≡ like_instance → f ≡ of_instance
instance_shape of_int e = cc
instance_shape of_boolean e = cc
instance_shape of_char e = cc
instance_shape of_instance e = refl
instance_shape (of_set d n) e = cc
instance_shape (of_powerset m) e = cc
instance_shape (of_chars n) e = cc
instance_shape (of_array i e how) h = cc
instance_shape (of_structure fs p) e = cc
instance_shape of_meeting e = cc

instances-along : (a b : ModeTree) → shape_of a ≡ shape_of b → form_of a ≡ of_instance → form_of b ≡ of_instance
instances-along a b e h =
    let of_a : shape_in (form_of a) ≡ like_instance = rw h refl in
    instance_shape (form_of b) (sym (shape-form b) ∙ sym e ∙ shape-form a ∙ of_a)

goes_on : (class : ClassTree) (a b : ModeTree) → Equivalent a b → GoesWith class a → GoesWith class b
goes_on (value n) a b e g = record { similar = similar-trans n a b g.similar e.v_equivalent.similar; novelty = g.novelty ∙ e.v_equivalent.novelty }
goes_on (derived n) a b e g = similar-trans n a b g e.v_equivalent.similar
goes_on null a b e g = instances-along a b e.v_equivalent.similar.shape g
goes_on nothing a b e g = g

pub class-equivalent : (class : ClassTree) (a b : ModeTree) → Equivalent a b → (GoesWith class a ↔ GoesWith class b)
class-equivalent class a b e = (goes_on class a b e, goes_on class b a (equivalent-sym a b e))

pub ruleset similar_laws = (similar-refl, similar-sym, similar-trans)

pub ruleset equivalent_laws = (equivalent-refl, equivalent-sym, equivalent-trans, equivalent-similar)

pub ruleset class_laws = (class-equivalent)
