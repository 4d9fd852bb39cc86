-- A short program that may be compiled: so the premise on programs can be met.
use Rattle.std.proofs.Common.{◌≡◌, ℕ, zero, suc, false, [], ◌∷◌, Some, None, refl, subst, arith}
use Rattle.std.specs.Prelude.{pos, slice_get}
use Rattle.std.proofs.lemmas.List.Elements.{All-nil}
use Rattle.modes.specs.ModeTree.{int}
use Rattle.modes.specs.Bounds.{bounds_of}
use Rattle.modes.specs.Similar.{Similar}
use Rattle.modes.specs.Language.{IsOfLanguage}
use Rattle.checked_program.specs.declared.expr.Base.TheVariants.{Local}
use Rattle.checked_program.specs.declared.program.Sort.TheVariants.{Outermost}
use Rattle.program_trees.specs.ExprTree.{expr, constant, contents, received, no_parts, LocationTree, location}
use Rattle.program_trees.specs.StatementTree.{statement, assign, put_int, StatementNodes, no_statements, more_statements, no_handler}
use Rattle.program_trees.specs.ProgramTree.{LocalRowTree, BodyRowTree, CheckedTree}
use Rattle.source_meaning.specs.Values.{domain_in, IsWithin}
use Rattle.source_meaning.specs.Typed.{IsTypedBody, IsTyped}
use Rattle.code_laws.specs.StatementsInRange.{FitsWhole}
use Rattle.code_laws.specs.Talk.{IsCompilable, IsWellMade}

abbrev local_n : LocalRowTree
local_n = record { name = []; mode = int; first = 0; count = 1 }

abbrev place : LocationTree
place = location (Local 0) no_parts 1

-- DCL n INT; n := 5; PUT_INT(n);
abbrev actions : StatementNodes
actions =
    more_statements (statement false (assign place (received (expr 1 (bounds_of int) (constant (pos 5 ∷ []))) (bounds_of int))) no_handler)
    (more_statements (statement false (put_int (expr 1 (bounds_of int) (contents place))) no_handler) no_statements)

abbrev outermost : BodyRowTree
outermost = record {
  definition = None;
  name = [];
  sort = Outermost;
  region = None;
  critical = false;
  parameters = [];
  result = None;
  listed = [];
  locals = local_n ∷ [];
  statements = actions;
  handler = no_handler;
}

abbrev program : CheckedTree
program = record {
  locations = [];
  bodies = outermost ∷ [];
  regions = 0;
  events = [];
  buffers = [];
  signals = [];
  exceptions = [];
  reads_input = false;
  size = 1;
  definitions = [];
  modulions = [];
}

int_fits : IsOfLanguage int
int_fits = record { parts = refl; size = omega arith }

int_similar : Similar int int
int_similar = record { shape = refl; values = refl }

five_within : IsWithin (domain_in (bounds_of int)) (pos 5)
five_within = (omega arith, omega arith)

typed_body : IsTypedBody program 0 outermost
typed_body = record {
  head = (refl, record { alone = (refl, refl); result = refl; listed = refl; passed = All-nil _ }, refl);
  result = tt;
  locals = (refl, refl, int_fits, tt);
  parameters = omega arith;
  statements = (
    (tt, (int, (int, (local_n, refl, refl), refl, refl), ((int, (int_fits, refl, refl, (five_within, tt)), int_similar), refl)), (None, tt)),
    ((tt, (int, (int_fits, refl, refl, (int, (local_n, refl, refl), refl, refl)), refl), (None, tt)), tt),
  );
  handler = tt;
}

whole : FitsWhole program outermost
whole = record {
  parameters = omega arith;
  locals = (refl, refl, omega arith, tt);
  result = refl;
  listed = All-nil _;
  statements = (
    (((1, (local_n, refl, refl), omega arith, refl), ((refl, omega arith), refl), refl), tt),
    (((((1, (local_n, refl, refl), omega arith, refl), refl), refl), tt), tt),
  );
  handler = tt;
}

well_made : IsWellMade outermost
well_made = record { counters = record { statements = refl; handler = refl }; declared = tt }

of_each : (P : ℕ → BodyRowTree → Type 0) → P 0 outermost → (k : ℕ) (b : BodyRowTree) → slice_get program.bodies k ≡ Some b → P k b
of_each P h zero b is = subst (λ (c : BodyRowTree). P 0 c) (let e : outermost ≡ b = cc in e) h
of_each P h (suc k) b is = absurd (let f : ⊥ = cc in f)

typed : IsTyped program
typed = record {
  outermost = (outermost, refl, refl);
  bodies = of_each (λ k b. IsTypedBody program k b) typed_body;
  locations = All-nil _;
  layouts = All-nil _;
  buffers = All-nil _;
  signals = All-nil _;
}

pub compilable_example : IsCompilable program
compilable_example = record {
  typed = typed;
  in_range = record { outermost = omega arith; bodies = of_each (λ k b. FitsWhole program b) whole };
  well_made = of_each (λ k b. IsWellMade b) well_made;
}
