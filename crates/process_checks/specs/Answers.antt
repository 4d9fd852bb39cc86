-- What is answered of the processes of a program.
use Rattle.std.specs.Prelude.{◌≡◌, ◌≢◌, List, [], Result, Ok, Err}
use Rattle.std.specs.List.Sorted.{IsStrictlySortedBy}
use Rattle.diagnostics.specs.declared.diagnostic.Diagnostic.{Diagnostic}
use Rattle.diagnostics.specs.Order.{diagnostic_cmp}
use Rattle.definition_origins.specs.CheckRules.{AreOfChecks}
use Rattle.visibility.specs.declared.refusal.Refusal.{Refusal}
use Rattle.visibility.specs.declared.refusal.Refusal.TheVariants as refusals

-- Where rules are broken, the list is strictly in order, and has some. Want of memory may come anywhere.
abbrev pub TellsInOrder : Result Unit Refusal → Type 0
TellsInOrder (Ok u) = Unit {0}
TellsInOrder (Err (refusals.Broken list)) = IsStrictlySortedBy diagnostic_cmp list × (list ≢ []) × AreOfChecks list
TellsInOrder (Err refusals.Memory) = Unit {0}

-- the list of what is broken is answered
abbrev pub AnswersList : List Diagnostic → Result Unit Refusal → Type 0
AnswersList told (Ok u) = told ≡ []
AnswersList told (Err (refusals.Broken list)) = told ≡ list
AnswersList told (Err refusals.Memory) = ⊥

-- the list of what is broken is answered, where there is memory for it
abbrev pub Answers : List Diagnostic → Result Unit Refusal → Type 0
Answers broken (Ok u) = broken ≡ []
Answers broken (Err (refusals.Broken list)) = broken ≡ list
Answers broken (Err refusals.Memory) = Unit {0}
