-- Each text has a tree, or breaks a rule on tokens and grammar; and the canonical text of its tokens.
use Rattle.std.proofs.Common.{◌≡◌, ◌⊎◌, inl, inr, ℕ, ◌<◌, ◌≤◌, List, length, Option, Some, None, Result, Ok, Err, refl, ap, ◌∙◌}
use Rattle.std.proofs.lemmas.Bool.{cases_lt}
use Rattle.chill_base.specs.declared.pos.Pos.{Pos}
use Rattle.diagnostics.specs.declared.rule.Rule.TheVariants as rules
use Rattle.diagnostics.specs.declared.diagnostic.Diagnostic.{Diagnostic}
use Rattle.chill_tree.specs.declared.token.Token.{Token}
use Rattle.chill_tree.specs.ItemTree.{ProgramTree}
use Rattle.rules_model.specs.TokensCut.{AreTokensOf, IsBadAt, behind_all, first_place}
use Rattle.rules_model.specs.Nesting.{first_deep}
use Rattle.rules_model.specs.Reading.{Fault}
use Rattle.rules_model.specs.ItemReading.{program_at}
use Rattle.rules_model.specs.Diagnoses.{plain, IsShort, HasTree, Diagnoses, too_long, no_token, too_deep, no_program}
use Rattle.rules_model.proofs.TokensLaws.{one_list, some_reading}
use Rattle.chill_parser.proofs.ItemTaken.{program_is}
use Rattle.chill_parser.proofs.Parsing.{no_tree}
use Rattle.tree_print.specs.Canonical.{canonical_text, token_kinds}
use Rattle.tree_print.specs.SameProgram.{program_text}
use Rattle.tree_print.proofs.TreeTokensItem.{tokens_are}

-- the text has a tree, or breaks a rule on tokens and grammar
abbrev pub IsRead : List ℕ → Type 0
IsRead text = ((tree : ProgramTree) × HasTree text tree) ⊎ ((told : Diagnostic) × Diagnoses text told)

read_so : (text : List ℕ) (tokens : List Token) (r : Result ProgramTree Fault) → program_at 64 tokens ≡ r → IsShort text → AreTokensOf text tokens → first_deep 65 tokens ≡ None → IsRead text
read_so text tokens (Ok tree) is short are shallow =
    let has : HasTree text tree = record { tokens = tokens; short = short; are = are; shallow = shallow; tree_of = program_is 64 tokens tree is } in inl (tree, has)
read_so text tokens (Err fault) is short are shallow =
    inr (plain (behind_all first_place text) rules.T2, no_program short are shallow (no_tree tokens fault shallow is) (inr refl))

tokens_so : (text : List ℕ) (tokens : List Token) (o : Option Pos) → first_deep 65 tokens ≡ o → IsShort text → AreTokensOf text tokens → IsRead text
tokens_so text tokens (Some at) deep short are = inr (plain at rules.L2, too_deep short are deep)
tokens_so text tokens None shallow short are = read_so text tokens (program_at 64 tokens) refl short are shallow

short_so : (text : List ℕ) → IsShort text → ((tokens : List Token) × AreTokensOf text tokens) ⊎ ((at : Pos) × IsBadAt text at) → IsRead text
short_so text short (inl h) = tokens_so text h.0 (first_deep 65 h.0) refl short h.1
short_so text short (inr h) = inr (plain h.0 rules.T1, no_token short h.1)

read_by : (text : List ℕ) → (262144 < length text) ⊎ (length text ≤ 262144) → IsRead text
read_by text (inl long) = inr (plain first_place rules.L1, too_long long)
read_by text (inr short) = short_so text short (some_reading text)

pub each_read : (text : List ℕ) → IsRead text
each_read text = read_by text (cases_lt 262144 (length text))

-- the canonical text of a text's tokens is that of its tree
pub program_text_of : (text : List ℕ) (tokens : List Token) (tree : ProgramTree) → AreTokensOf text tokens → HasTree text tree → canonical_text (token_kinds tokens) ≡ program_text tree
program_text_of text tokens tree are has =
    ap (λ (toks : List Token). canonical_text (token_kinds toks)) (one_list text tokens has.tokens are has.are) ∙ ap canonical_text (tokens_are has.tree_of)
