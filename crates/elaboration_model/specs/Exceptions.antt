-- The exceptions of a program: those of the language have the numbers 0 to 6, and from 7 on its own follow in the order in
-- which they first stand in the text, behind EXCEPTIONS, ON and CAUSE.
use Rattle.std.specs.Prelude.{ℕ, suc, ◌+◌, if◌then◌else◌, List, [], ◌∷◌, ◌++◌, flat_map, Option, Some, None, is_some, option_map, codes}
use Rattle.std.specs.Str.{bytes_eq}
use Rattle.chill_tree.specs.declared.tree.name.Name.{Name}
use Rattle.chill_tree.specs.SimpleTree.{SimpleTree, cause}
use Rattle.chill_tree.specs.ItemTree.{ItemTree, procedure, ProgramTree}
use Rattle.checks_model.specs.ActionRules.{one_spelling}
use Rattle.checks_model.specs.Sites.{Site, at_item, at_simple, at_exceptions, sites}

-- the number of a spelling in a list of them
abbrev pub place_among : List ℕ → List (List ℕ) → Option ℕ
place_among n [] = None
place_among n (m ∷ ms) = if bytes_eq n m then Some 0 else option_map suc (place_among n ms)

abbrev pub of_language : List (List ℕ)
of_language = codes "OVERFLOW" ∷ codes "RANGEFAIL" ∷ codes "EMPTY" ∷ codes "ASSERTFAIL" ∷ codes "DELAYFAIL" ∷ codes "SPACEFAIL" ∷ codes "EXTINCT" ∷ []

abbrev pub number_in_language : List ℕ → Option ℕ
number_in_language n = place_among (one_spelling n) of_language

abbrev pub first_of : {A : Type 0} → Option A → Option A → Option A
first_of (Some x) y = Some x
first_of None y = y

-- the number of an exception, where the program's own are these
abbrev pub exception_number : List (List ℕ) → Name → Option ℕ
exception_number own n = first_of (number_in_language n.text) (option_map (λ k. 7 + k) (place_among n.text own))

-- ---- those that stand in a text

abbrev pub some_names : Option (List Name) → List Name
some_names None = []
some_names (Some ns) = ns

abbrev pub exceptions_of_item : ItemTree → List Name
exceptions_of_item (procedure p) = some_names p.exceptions
exceptions_of_item _ = []

abbrev pub exceptions_of_simple : SimpleTree → List Name
exceptions_of_simple (cause at n) = n ∷ []
exceptions_of_simple _ = []

abbrev pub exceptions_at : Site → List Name
exceptions_at (at_item kind all i) = exceptions_of_item i
exceptions_at (at_simple a s) = exceptions_of_simple s
exceptions_at (at_exceptions earlier ns) = ns
exceptions_at _ = []

-- names behind those that are there, each once, the language's left out
abbrev pub own_behind : List (List ℕ) → List Name → List (List ℕ)
own_behind own [] = own
own_behind own (n ∷ ns) = own_behind (if is_some (exception_number own n) then own else own ++ n.text ∷ []) ns

-- the spellings of a program's own exceptions
abbrev pub own_exceptions : ProgramTree → List (List ℕ)
own_exceptions t = own_behind [] (flat_map exceptions_at (sites t))
