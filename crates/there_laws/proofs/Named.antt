-- The names of a text stand for modes where they have to, where N5 is told of nothing.
use Rattle.std.proofs.Common.{◌≡◌, ℕ, zero, suc, true, List, [], ◌∷◌, Option, Some, None, refl, sym, subst, true≢false}
use Rattle.std.specs.Prelude.{slice_get, option_and_then}
use Rattle.chill_tree.specs.declared.tree.name.Name.{Name}
use Rattle.chill_tree.specs.ItemTree.{ProgramTree}
use Rattle.names_model.specs.declared.identifier.Identifier.{Identifier}
use Rattle.names_model.specs.declared.definition.Definition.{Definition}
use Rattle.names_model.specs.declared.kind.Kind.{Kind}
use Rattle.names_model.specs.declared.kind.Need.TheVariants as needs
use Rattle.names_model.specs.declared.part.Mention.TheVariants.{Use, Argument, Element}
use Rattle.names_model.specs.Kinds.{is_mode}
use Rattle.names_model.specs.Definitions.{text_definitions, with_predefined, kind_of, is_of, is_kind_at}
use Rattle.names_model.specs.NameRules.{Node, told_mention}
use Rattle.names_model.specs.Resolving.{level_of}
use Rattle.names_laws.proofs.Members.{here_in}
use Rattle.ground_laws.specs.Defining.{kind_of_predefined, Defines, AllDefine}
use Rattle.ground_laws.specs.Rows.{IsUsedAt}
use Rattle.ground_laws.proofs.Defining.{origins_define}
use Rattle.checks_model.specs.Ground.{Ground, Origin, Predefined, of_mode, truth, no_instance, num, succ, pred, abs, card, min, max, upper, lower, size, put_int, put_text, put_nl, get_int, a_synonym, a_mode, an_element, a_location, a_parameter, a_counter, a_received, a_procedure, a_process, a_signal, a_modulion, a_predefined, Entry}
use Rattle.checks_model.specs.Origins.{text_origins, predefined_origins, in_both_cases, origins_of}
use Rattle.checks_model.specs.Table.{ground_with}
use Rattle.checks_model.specs.Diagnoses.{HasNames}
use Rattle.elaborated_laws.proofs.Told.{no_some, same_some}
use Rattle.written_laws.specs.Written.{Each}
use Rattle.written_laws.proofs.Shown.{each_append, each_any, each_flat}
use Rattle.written_laws.proofs.ShownLocal.{IsShaped}
use Rattle.written_laws.proofs.ShownItem.{program_fine}
use Rattle.written_laws.proofs.Sets.{IsFirstIn, HasElements, HasSets, sets_of, each_more}
use Rattle.written_laws.proofs.Texts.{PartsPass, TextPasses}
use Rattle.written_laws.proofs.Defining.{program_defining, program_passing}
use Rattle.written_laws.proofs.WrittenSo.{first_named, number_there, each_pair, each_there, each_predefined}
use Rattle.written_laws.proofs.Mentioned.{use_stands, is_resolved, HoldsWhereUntold, program_passes}
use Rattle.there_laws.specs.Table.{stands_for_mode}
use Rattle.there_laws.specs.Plain.{IsNamedSo, AllNamedSo, NamedSoLaw}
use Rattle.there_laws.proofs.NamedTrees.{is_so, IsSetDefined, AreSetsDefined, named_so}

-- ---- what has the kind of a mode

predefined_named : (p : Predefined) → is_mode (kind_of_predefined p) ≡ true → stands_for_mode (Some (a_predefined p)) ≡ true
predefined_named (of_mode m) mode = refl
predefined_named (truth b) mode = mode
predefined_named no_instance mode = mode
predefined_named num mode = mode
predefined_named succ mode = mode
predefined_named pred mode = mode
predefined_named abs mode = mode
predefined_named card mode = mode
predefined_named min mode = mode
predefined_named max mode = mode
predefined_named upper mode = mode
predefined_named lower mode = mode
predefined_named size mode = mode
predefined_named put_int mode = mode
predefined_named put_text mode = mode
predefined_named put_nl mode = mode
predefined_named get_int mode = mode

abbrev IsModeKind : Kind → Type 0
IsModeKind k = is_mode k ≡ true

origin_named : (o : Origin) (d : Definition) → Defines o d → IsModeKind d.kind → stands_for_mode (Some o) ≡ true
origin_named (a_synonym s) d is mode = subst IsModeKind is.0 mode
origin_named (a_mode novel m) d is mode = refl
origin_named (an_element ns part owner) d is mode = subst IsModeKind is.0 mode
origin_named (a_location l) d is mode = subst IsModeKind is.0 mode
origin_named (a_parameter m) d is mode = subst IsModeKind is mode
origin_named (a_counter c) d is mode = subst IsModeKind is.0 mode
origin_named (a_received n count part) d is mode = subst IsModeKind is mode
origin_named (a_procedure p) d is mode = subst IsModeKind is.0 mode
origin_named (a_process p) d is mode = subst IsModeKind is.0 mode
origin_named (a_signal s) d is mode = subst IsModeKind is.0 mode
origin_named (a_modulion kind items) d is mode = subst IsModeKind is mode
origin_named (a_predefined p) d is mode = predefined_named p (subst IsModeKind is.0 mode)

of_kind : (o : Option Definition) → is_of is_mode (kind_of o) ≡ true → (d : Definition) × ((o ≡ Some d) × IsModeKind d.kind)
of_kind None mode = absurd (true≢false (sym mode))
of_kind (Some d) mode = (d, (refl, mode))

-- what defines the definition of a number
origin_there : (os : List Origin) (ds : List Definition) (k : ℕ) (d : Definition) → AllDefine os ds → slice_get ds k ≡ Some d → (o : Origin) × ((slice_get os k ≡ Some o) × Defines o d)
origin_there [] [] k d all at = no_some d at
origin_there [] (e ∷ ds) k d all at = absurd all
origin_there (o ∷ os) [] k d all at = absurd all
origin_there (o ∷ os) (e ∷ ds) zero d all at = (o, (refl, subst (λ x. Defines o x) (same_some e d at) all.0))
origin_there (o ∷ os) (e ∷ ds) (suc k) d all at = origin_there os ds k d all.1 at

number_named : (t : ProgramTree) (k : ℕ) → is_kind_at is_mode (with_predefined (text_definitions (level_of t))) k ≡ true → stands_for_mode (slice_get (origins_of t) k) ≡ true
number_named t k mode =
    let all = with_predefined (text_definitions (level_of t)) in
    let d = of_kind (slice_get all k) mode in
    let o = origin_there (origins_of t) all k d.0 (origins_define t) d.1.0 in
    subst (λ x. stands_for_mode x ≡ true) (sym o.1.0) (origin_named o.0 d.0 o.1.1 d.1.1)

-- ---- uses

use_named : (text : List ℕ) (t : ProgramTree) (es : List Entry) (k : Node) (n : Identifier) → HasNames text t → IsUsedAt (level_of t) k n → told_mention (text_definitions (level_of t)) k.reach (Use n needs.Mode) ≡ [] → is_so (ground_with t es) (Use n needs.Mode) ≡ true
use_named text t es k n has used none =
    let row = use_stands has.has_tree.tokens t k n needs.Mode (is_resolved text t has) used none in
    subst (λ x. stands_for_mode (option_and_then (slice_get (origins_of t)) x) ≡ true) (sym row.has_row) (number_named t row.number row.fitting)

mention_so : (text : List ℕ) (t : ProgramTree) (es : List Entry) → HasNames text t → HoldsWhereUntold t (is_so (ground_with t es))
mention_so text t es has k (Use n needs.Mode) used none = use_named text t es k n has (used n (here_in n [] n refl)) none
mention_so text t es has k (Use n needs.Process) used none = refl
mention_so text t es has k (Use n needs.Action) used none = refl
mention_so text t es has k (Use n needs.Location) used none = refl
mention_so text t es has k (Use n needs.Message) used none = refl
mention_so text t es has k (Use n needs.Value) used none = refl
mention_so text t es has k (Argument n callee) used none = refl
mention_so text t es has k (Element n) used none = refl

program_so : (text : List ℕ) (t : ProgramTree) (es : List Entry) → HasNames text t → PartsPass (is_so (ground_with t es)) (level_of t)
program_so text t es has = program_passes text t (is_so (ground_with t es)) has (mention_so text t es has)

-- ---- the law

set_defined : (t : ProgramTree) (es : List Entry) (ns : List Name) → IsFirstIn (text_origins t) ns → IsSetDefined (ground_with t es) ns
set_defined t es [] first = tt
set_defined t es (n ∷ ns) first = number_there (text_definitions (level_of t)) 0 n.at (first_named t n ns first.0 first.1)

sets_defined : (t : ProgramTree) (es : List Entry) (o : Origin) → HasSets (text_origins t) o → AreSetsDefined (ground_with t es) (sets_of o)
sets_defined t es o has = each_more (HasElements (text_origins t)) (IsSetDefined (ground_with t es)) (λ ns h. set_defined t es ns h.1) (sets_of o) has

text_named : (text : List ℕ) (t : ProgramTree) (es : List Entry) → HasNames text t → Each (IsNamedSo (ground_with t es)) (text_origins t)
text_named text t es has =
    let g = ground_with t es in
    let os = text_origins t in
    let sets = each_pair IsShaped (HasSets os) (λ o. IsShaped o × HasSets os o) (λ o shaped sets. (shaped, sets)) os (program_fine text t has.has_tree).1 (program_defining t).0 in
    each_pair (λ o. IsShaped o × HasSets os o) (TextPasses (is_so g)) (IsNamedSo g) (λ o shown so. named_so g o shown.0 (sets_defined t es o shown.1) so) os sets (program_passing t (is_so g) (program_so text t es has))

predefined_so : (g : Ground) → Each (IsNamedSo g) predefined_origins
predefined_so g = each_flat (λ p. Unit {0}) (IsNamedSo g) in_both_cases (λ p fits. (tt, (tt, tt))) each_predefined (each_any (λ p. Unit {0}) (λ p. tt) each_predefined)

pub all_named : NamedSoLaw
all_named text t g has is = subst (λ h. AllNamedSo h) (sym is) (λ d o at. each_there (IsNamedSo (ground_with t g.entries)) (origins_of t) d o (each_append (IsNamedSo (ground_with t g.entries)) (text_origins t) predefined_origins (text_named text t g.entries has) (predefined_so (ground_with t g.entries))) at)
