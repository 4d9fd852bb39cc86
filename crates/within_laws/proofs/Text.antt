-- In a text that breaks no rule on names each name at a node stands for no local of another body.
use Rattle.std.proofs.Common.{◌≡◌, ℕ, suc, List, [], ◌∷◌, ◌++◌, length, length-append, Some, refl, sym, ap, ◌∙◌, subst, arith}
use Rattle.std.specs.Prelude.{slice_get}
use Rattle.chill_tree.specs.ItemTree.{ProgramTree}
use Rattle.names_model.specs.declared.definition.Definition.{Definition}
use Rattle.names_model.specs.Definitions.{text_definitions, predefined}
use Rattle.names_model.specs.Resolving.{level_of}
use Rattle.ground_laws.specs.Defining.{Defines, AllDefine}
use Rattle.ground_laws.proofs.Defining.{origins_define}
use Rattle.checks_model.specs.Ground.{Ground, Origin, a_procedure, a_process, number_at}
use Rattle.checks_model.specs.Origins.{text_origins, origins_of, in_both_cases, predefined_origins}
use Rattle.checks_model.specs.Table.{ground_with}
use Rattle.checks_model.specs.Diagnoses.{HasNames}
use Rattle.written_laws.proofs.Shown.{each_any, each_append, each_flat}
use Rattle.written_laws.proofs.WrittenSo.{each_predefined, each_there}
use Rattle.order_laws.proofs.Selves.{definition_there, in_text}
use Rattle.elaboration_model.specs.Elaborated.{source_of}
use Rattle.within_laws.specs.Within.{IsBodyWithin, WithinLaw}
use Rattle.within_laws.proofs.Items.{BodySo, text_walk}
use Rattle.within_laws.proofs.Seen.{level_seen, number_of}

same_length : (os : List Origin) (ds : List Definition) → AllDefine os ds → length os ≡ length ds
same_length [] [] all = refl
same_length [] (d ∷ ds) all = absurd all
same_length (o ∷ os) [] all = absurd all
same_length (o ∷ os) (d ∷ ds) all = ap suc (same_length os ds all.1)

-- of two lists the first define each other where the later are of one length
first_define : (os ps : List Origin) (ds es : List Definition) → length ps ≡ length es → AllDefine (os ++ ps) (ds ++ es) → AllDefine os ds
first_define [] ps [] es same all = tt
first_define (o ∷ os) ps (d ∷ ds) es same all = (all.0, first_define os ps ds es same all.1)
first_define [] ps (d ∷ ds) es same all =
    let whole = same_length ps (d ∷ ds ++ es) all in let both = length-append ds es in absurd (let e : length ps ≡ suc (length (ds ++ es)) = whole in omega (arith, same, e, both))
first_define (o ∷ os) ps [] es same all =
    let whole = same_length (o ∷ os ++ ps) es all in let both = length-append os ps in absurd (let e : suc (length (os ++ ps)) ≡ length es = whole in omega (arith, same, e, both))

text_define : (t : ProgramTree) → AllDefine (text_origins t) (text_definitions (level_of t))
text_define t = first_define (text_origins t) predefined_origins (text_definitions (level_of t)) predefined refl (origins_define t)

module _ (txt : List ℕ) (t : ProgramTree) (g : Ground) (has : HasNames txt t) (ground : g ≡ ground_with t g.entries) where
  -- the number of a definition stands with the name of what defines it
  named : (d : ℕ) (o : Origin) → slice_get (text_origins t) d ≡ Some o → (x : Definition) × (Defines o x × (number_at g.defined x.name.at ≡ Some d))
  named d o at = let made = definition_there (text_origins t) (text_definitions (level_of t)) d o (text_define t) at in (made.0, (made.1.1, number_of txt t g has ground d made.0 made.1.0))

  body_within : (d : ℕ) (o : Origin) → slice_get (origins_of t) d ≡ Some o → BodySo (source_of g t) o → IsBodyWithin (source_of g t) d o
  body_within d (a_procedure p) at so =
      let x = named d (a_procedure p) (in_text txt t g.entries has d (a_procedure p) at (λ none. none)) in
      so d (subst (λ n. number_at g.defined n.at ≡ Some d) x.1.0.1 x.1.1)
  body_within d (a_process p) at so =
      let x = named d (a_process p) (in_text txt t g.entries has d (a_process p) at (λ none. none)) in
      so d (subst (λ n. number_at g.defined n.at ≡ Some d) x.1.0.1 x.1.1)
  body_within d o at so = tt

pub text_within : WithinLaw
text_within text t g has ground =
    let s = source_of g t in
    let walk = text_walk s t.modulions in
    let so = level_seen text t g has ground walk.flat in
    let language = each_flat (λ p. Unit {0}) (BodySo s) in_both_cases (λ p fits. (tt, (tt, tt))) each_predefined (each_any (λ p. Unit {0}) (λ p. tt) each_predefined) in
    record {
      items = walk.own 0 so;
      bodies = λ d o at.
          let here : slice_get (origins_of t) d ≡ Some o = sym (ap (λ (y : Ground). slice_get y.origins d) ground) ∙ at in
          body_within text t g has ground d o here (each_there (BodySo s) (origins_of t) d o (each_append (BodySo s) (text_origins t) predefined_origins (walk.bodies 0 so) language) here);
    }
