-- What is told of a text on each way through the code.
use Rattle.std.proofs.Common.{◌≡◌, inl, ℕ, ◌<◌, ◌≤◌, List, [], ◌∷◌, length, Some, None, Result, Ok, Err, refl, sym, subst, ◌∙◌, IfOk}
use Rattle.std.specs.Prelude.{◌≢◌}
use Rattle.std.specs.List.Sorted.{IsStrictlySortedBy}
use Rattle.chill_base.specs.declared.pos.Pos.{Pos}
use Rattle.chill_base.specs.declared.memory.Memory.{Memory}
use Rattle.diagnostics.specs.Order.{diagnostic_cmp}
use Rattle.diagnostics.specs.declared.rule.Rule.TheVariants as rules
use Rattle.diagnostics.specs.declared.diagnostic.Diagnostic.{Diagnostic}
use Rattle.chill_tree.specs.declared.token.Token.{Token}
use Rattle.chill_tree.specs.ItemTree.{ProgramTree}
use Rattle.rules_model.specs.TokensCut.{AreTokensOf, IsBadAt, first_place}
use Rattle.rules_model.specs.Nesting.{first_deep}
use Rattle.rules_model.specs.Diagnoses.{plain, IsShort, IsPlaceIn, HasTree, Diagnoses, too_long, no_token, too_deep, no_program}
use Rattle.chill_parser.specs.Parsing.{HasNoTree, TokenAt}
use Rattle.names_model.specs.Resolving.{broken_names, level_of}
use Rattle.names_model.specs.declared.names.Names.{Names}
use Rattle.text_size.specs.Sizes.{program_size}
use Rattle.checks_model.specs.Diagnoses.{HasNames, BreaksRules}
use Rattle.definition_origins.specs.CheckRules.{AreOfChecks}
use Rattle.text_to_code.specs.Building.{IsBuiltOf, IsUnbuilt}
use Rattle.text_to_code.specs.Telling.{IsResolved, BreaksNone, HasCode, broken, misnamed, breaks, later, by_checks, by_size, by_building, Tells}
use Rattle.text_to_code.specs.declared.build.Built.{Built}
use Rattle.text_to_code.specs.declared.told.Told.{Told}
use Rattle.text_to_code.specs.declared.told.Told.TheVariants as tellings

-- ---- tokens and grammar

pub long_diagnosed : (text : List ℕ) (told : Diagnostic) → 262144 < length text → told ≡ plain first_place rules.L1 → Diagnoses text told
long_diagnosed text told long is = subst (λ (d : Diagnostic). Diagnoses text d) (sym is) (too_long long)

pub bad_diagnosed : (text : List ℕ) (told : Diagnostic) → IsShort text → IsBadAt text told.at → told.rule ≡ rules.T1 → told.first ≡ [] → told.second ≡ [] → Diagnoses text told
bad_diagnosed text told short bad rule first second =
    let plainly : plain told.at rules.T1 ≡ told = λ i. record { at = told.at; rule = sym rule i; first = sym first i; second = sym second i } in
    subst (λ (d : Diagnostic). Diagnoses text d) plainly (no_token short bad)

pub deep_diagnosed : (text : List ℕ) (tokens : List Token) (at : Pos) (told : Diagnostic) → IsShort text → AreTokensOf text tokens → first_deep 65 tokens ≡ Some at → told ≡ plain at rules.L2 → Diagnoses text told
deep_diagnosed text tokens at told short are deep is = subst (λ (d : Diagnostic). Diagnoses text d) (sym is) (too_deep short are deep)

pub nowhere_diagnosed : (text : List ℕ) (tokens : List Token) (at : Pos) (told : Diagnostic) → IsShort text → AreTokensOf text tokens → first_deep 65 tokens ≡ None → HasNoTree tokens → IsPlaceIn text tokens at → told ≡ plain at rules.T2
    → Diagnoses text told
nowhere_diagnosed text tokens at told short are shallow none place is = subst (λ (d : Diagnostic). Diagnoses text d) (sym is) (no_program short are shallow none place)

-- the place of a token, for the parser, is one for the text
pub place_of_token : (text : List ℕ) (tokens : List Token) (at : Pos) → TokenAt tokens at → IsPlaceIn text tokens at
place_of_token text tokens at h = inl (h.index, h.token, h.here, h.place)

-- ---- a tree

-- a tree that breaks rules on names is refused with just these
pub names_told : (text : List ℕ) (tree : ProgramTree) (told : List Diagnostic) → HasTree text tree → told ≡ broken_names (level_of tree) → told ≢ [] → Tells text (tellings.Refused told)
names_told text tree told has is some =
    subst (λ (l : List Diagnostic). Tells text (tellings.Refused l)) (sym is) (breaks (misnamed has (λ (none : broken_names (level_of tree) ≡ []). some (is ∙ none))))

-- what the checks tell of it is told of the text
pub checks_told : (text : List ℕ) (tree : ProgramTree) (told : List Diagnostic) → HasNames text tree → IsStrictlySortedBy diagnostic_cmp told × (told ≢ []) × AreOfChecks told → BreaksRules text tree told
    → Tells text (tellings.Refused told)
checks_told text tree told has order exactly =
    let resolved : IsResolved text = record { tree = tree; has = has.has_tree; named = has.names } in
    later resolved (by_checks (record { sorted = order.0; some = order.1; own = order.2 }) exactly)

-- a tree that breaks none is resolved
abbrev resolved_of : (text : List ℕ) (tree : ProgramTree) → BreaksNone text tree → IsResolved text
resolved_of text tree sound = record { tree = tree; has = sound.none.has_modes.has_names.has_tree; named = sound.none.has_modes.has_names.names }

-- one that is too large is told so
pub large_told : (text : List ℕ) (tree : ProgramTree) (made : Result Told Memory) → BreaksNone text tree → 65536 < program_size tree → IfOk made (λ t. t ≡ tellings.Refused (plain first_place rules.L8 ∷ []))
    → IfOk made (λ t. Tells text t)
large_told text tree (Ok told) sound large is = subst (λ (t : Told). Tells text t) (sym is) (later (resolved_of text tree sound) (by_size sound large))
large_told text tree (Err e) sound large is = tt

-- one that isn't built is told so
pub unbuilt_told : (text : List ℕ) (tree : ProgramTree) (made : Result Told Memory) → BreaksNone text tree → program_size tree ≤ 65536 → IsUnbuilt tree → IfOk made (λ t. t ≡ tellings.Refused (plain first_place rules.B1 ∷ []))
    → IfOk made (λ t. Tells text t)
unbuilt_told text tree (Ok told) sound small cause is = subst (λ (t : Told). Tells text t) (sym is) (later (resolved_of text tree sound) (by_building sound small cause))
unbuilt_told text tree (Err e) sound small cause is = tt

-- one that is built has its code
pub built_told : (text : List ℕ) (tree : ProgramTree) (built : Built) → BreaksNone text tree → program_size tree ≤ 65536 → IsBuiltOf tree built.program.checked.value built.code
    → (kept : Built) → kept ≡ built → HasCode text kept.program.checked.value kept.code
built_told text tree built sound small is kept same =
    subst (λ (b : Built). HasCode text b.program.checked.value b.code) (sym same) (record { resolved = resolved_of text tree sound; sound = sound; small = small; built = is })

-- ---- a text

-- a rule on tokens and grammar that it breaks is told of it
pub broken_told : (text : List ℕ) (one : Diagnostic) (made : Result Told Memory) → Diagnoses text one → IfOk made (λ t. t ≡ tellings.Refused (one ∷ [])) → IfOk made (λ t. Tells text t)
broken_told text one (Ok t) breaking is = subst (λ (x : Told). Tells text x) (sym is) (breaks (broken breaking))
broken_told text one (Err e) breaking is = tt
