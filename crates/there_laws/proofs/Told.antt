-- Where the list of modes and constants is empty nothing is told of what defines something.
use Rattle.std.proofs.Common.{◌≡◌, Bool, true, false, List, [], ◌∷◌, ◌++◌, Option, Some, None, refl, ap, ◌∙◌, subst}
use Rattle.std.specs.Prelude.{flat_map, slice_get}
use Rattle.diagnostics.specs.declared.diagnostic.Diagnostic.{Diagnostic}
use Rattle.chill_tree.specs.ModeTree as written
use Rattle.chill_tree.specs.LocalTree.{DeclarationTree}
use Rattle.checks_model.specs.Ground.{Ground}
use Rattle.checks_model.specs.Origins.{origins_of}
use Rattle.checks_model.specs.Phases.{modes_told_at, told_without_value, initial_expr, told_of_modes}
use Rattle.checks_model.specs.ConstantRules.{told_of_some_constants}
use Rattle.checks_model.specs.WrittenModes.{told_of_mode, told_of_some_mode}
use Rattle.checks_model.specs.Table.{told_of_synonym}
use Rattle.checks_model.specs.Sites.{Site, at_mode, at_declaration, sites_of_modes, sites_of_result, sites}
use Rattle.elaborated_laws.proofs.Told.{none_first, none_later}
use Rattle.written_laws.specs.Written.{Each}
use Rattle.written_laws.proofs.WrittenSo.{none_listed, each_there}
use Rattle.there_laws.specs.Told.{told_of_parts, IsUntold, UntoldLaw}
use Rattle.there_laws.proofs.Nodes.{of_mapped, Gives, program_defined}

-- where nothing is told in a list of what is told at nodes nothing is told at any
pub each_clean : (told : Site → List Diagnostic) (ss : List Site) → flat_map told ss ≡ [] → Each (λ s. told s ≡ []) ss
each_clean told [] none = tt
each_clean told (s ∷ ss) none = (none_first (told s) (flat_map told ss) none, each_clean told ss (none_later (told s) (flat_map told ss) none))

module _ (g : Ground) where
  abbrev IsClean : Site → Type 0
  IsClean s = modes_told_at g s ≡ []

  declaration_untold : (shared : Bool) (d : DeclarationTree) → IsClean (at_declaration shared d) → told_of_mode g true d.mode ≡ []
  declaration_untold shared d clean =
      let values = flat_map (told_without_value g d.initial) d.names in
      none_first (told_of_mode g true d.mode) values (none_first (told_of_mode g true d.mode ++ values) (told_of_some_constants g (initial_expr d.initial)) clean)

  modes_untold : (ws : List written.ModeTree) → Each (λ w. IsClean (at_mode w)) ws → flat_map (told_of_mode g false) ws ≡ []
  modes_untold [] clean = refl
  modes_untold (w ∷ ws) clean = ap (λ ds. ds ++ flat_map (told_of_mode g false) ws) clean.0 ∙ modes_untold ws clean.1

  parts_untold : (ws : Option (List written.ModeTree)) → Each IsClean (sites_of_modes ws) → told_of_parts g ws ≡ []
  parts_untold None clean = refl
  parts_untold (Some ws) clean = modes_untold ws (of_mapped IsClean at_mode ws clean)

  result_untold : (w : Option written.ModeTree) → Each IsClean (sites_of_result w) → told_of_some_mode g w ≡ []
  result_untold None clean = refl
  result_untold (Some w) clean = clean.0

  modes_given : Gives IsClean (IsUntold g)
  modes_given = record {
    synonym = λ s clean. (none_first (told_of_some_mode g s.mode) (told_of_synonym g s) clean, none_later (told_of_some_mode g s.mode) (told_of_synonym g s) clean);
    mode = λ novel d clean. clean;
    location = declaration_untold;
    parameter = λ w clean. clean;
    procedure = λ p clean. result_untold p.returns clean;
    signal = λ s clean. parts_untold s.parts clean;
    counter = λ c clean. tt;
    received = λ earlier n ns part less source clean. tt;
    element = λ ns part owner. tt;
    process = λ p. tt;
    modulion = λ kind items. tt;
    predefined = λ p. tt;
  }

pub untold : UntoldLaw
untold g t is none d o at =
    let clean = each_clean (modes_told_at g) (sites t) (none_listed (told_of_modes g t) none) in
    each_there (IsUntold g) (origins_of t) d o (program_defined (λ s. modes_told_at g s ≡ []) (IsUntold g) (modes_given g) t clean) (subst (λ os. slice_get os d ≡ Some o) is at)
