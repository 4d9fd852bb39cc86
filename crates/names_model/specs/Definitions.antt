-- The definitions of a program. Each is known by its number: how many stand before it in the text. The predefined names have
-- the numbers behind them.
use Rattle.std.specs.Prelude.{ℕ, zero, suc, ◌+◌, Bool, false, List, [], ◌∷◌, ◌++◌, map, length, slice_get, Option, Some, None, codes}
use Rattle.std.specs.List.{filter}
use Rattle.std.specs.Str.{bytes_eq}
use Rattle.names_model.specs.declared.identifier.Identifier.{Identifier}
use Rattle.names_model.specs.declared.kind.Kind.{Kind}
use Rattle.names_model.specs.declared.kind.Kind.TheVariants as kinds
use Rattle.names_model.specs.declared.definition.Inside.{Inside}
use Rattle.names_model.specs.declared.definition.Inside.TheVariants.{Outermost, Modulion, Body, Block}
use Rattle.names_model.specs.declared.definition.Definition.{Definition}
use Rattle.names_model.specs.declared.part.Clause.{Clause}
use Rattle.names_model.specs.Parts.{PartTree, PartNodes, define, mention, seize, seize_all, grant, grant_all, stray, modulion, routine, block, no_parts, more_parts}
use Rattle.names_model.specs.Sizes.{elements_in, head_size, size_of}

-- where the definitions in a block stand that stands somewhere
abbrev pub within : Inside → Inside
within Outermost = Outermost
within (Modulion d) = Block d
within (Body d) = Block d
within (Block d) = Block d

abbrev pub defined : Inside → Kind → Identifier → Definition
defined inside kind n = record { name = n; kind = kind; inside = inside; elements = 0 }

abbrev pub elements_defined : Inside → List Identifier → List Definition
elements_defined inside ns = map (defined inside kinds.Element) ns

-- how many elements go with each name of a clause
abbrev pub elements_with : Kind → List Identifier → ℕ
elements_with kinds.Mode elements = length elements
elements_with _ elements = 0

-- the names of a clause, which stand somewhere
abbrev pub names_defined : Inside → Clause → List Definition
names_defined inside c = map (λ n. record { name = n; kind = c.kind; inside = inside; elements = elements_with c.kind (elements_in c.text) }) c.names

-- parameters stand in the body, and the elements in their modes around it
abbrev pub params_defined : Inside → Inside → List Clause → List Definition
params_defined around body [] = []
params_defined around body (c ∷ cs) = (names_defined body c ++ elements_defined around (elements_in c.text)) ++ params_defined around body cs

abbrev mutual
  -- the definitions in a part that stands somewhere, the first of which has the number `from`
  pub definitions_of : Inside → ℕ → PartTree → List Definition
  definitions_of inside from (define c) = names_defined inside c ++ elements_defined inside (elements_in c.text)
  definitions_of inside from (mention m) = []
  definitions_of inside from (seize n) = []
  definitions_of inside from (seize_all at) = []
  definitions_of inside from (grant n) = []
  definitions_of inside from (grant_all at) = []
  definitions_of inside from (stray n) = []
  definitions_of inside from (modulion n region size ps) = defined inside kinds.Modulion n ∷ definitions_in (Modulion from) (suc from) ps
  definitions_of inside from (routine n kind params result size ps) = (defined inside kind n ∷ params_defined inside (Body from) params ++ elements_defined inside (elements_in result)) ++ definitions_in (Body from) (from + head_size params result) ps
  definitions_of inside from (block size ps) = definitions_in (within inside) from ps

  pub definitions_in : Inside → ℕ → PartNodes → List Definition
  definitions_in inside from no_parts = []
  definitions_in inside from (more_parts p ps) = definitions_of inside from p ++ definitions_in inside (from + size_of p) ps

-- the definitions of a text, by the parts of its outermost level
abbrev pub text_definitions : PartNodes → List Definition
text_definitions ps = definitions_in Outermost 0 ps

-- ---- predefined names

-- a predefined name, in upper and in lower case
abbrev pub both_cases : List ℕ → List ℕ → Kind → List Definition
both_cases upper lower kind = map (λ bytes. defined Outermost kind (record { at = record { line = 0; column = 0 }; spelling = bytes })) (upper ∷ lower ∷ [])

abbrev pub predefined_modes : List Definition
predefined_modes =
    both_cases (codes "INT") (codes "int") kinds.PredefinedMode
    ++ both_cases (codes "BOOL") (codes "bool") kinds.PredefinedMode
    ++ both_cases (codes "CHAR") (codes "char") kinds.PredefinedMode
    ++ both_cases (codes "INSTANCE") (codes "instance") kinds.PredefinedMode

abbrev pub predefined_constants : List Definition
predefined_constants =
    both_cases (codes "TRUE") (codes "true") kinds.PredefinedConstant
    ++ both_cases (codes "FALSE") (codes "false") kinds.PredefinedConstant
    ++ both_cases (codes "NULL") (codes "null") kinds.PredefinedConstant

abbrev pub predefined_routines : List Definition
predefined_routines =
    both_cases (codes "NUM") (codes "num") kinds.PredefinedRoutine
    ++ both_cases (codes "SUCC") (codes "succ") kinds.PredefinedRoutine
    ++ both_cases (codes "PRED") (codes "pred") kinds.PredefinedRoutine
    ++ both_cases (codes "ABS") (codes "abs") kinds.PredefinedRoutine
    ++ both_cases (codes "CARD") (codes "card") kinds.PredefinedRoutine
    ++ both_cases (codes "MIN") (codes "min") kinds.PredefinedRoutine
    ++ both_cases (codes "MAX") (codes "max") kinds.PredefinedRoutine
    ++ both_cases (codes "UPPER") (codes "upper") kinds.MeasuringRoutine
    ++ both_cases (codes "LOWER") (codes "lower") kinds.MeasuringRoutine
    ++ both_cases (codes "SIZE") (codes "size") kinds.MeasuringRoutine
    ++ both_cases (codes "PUT_INT") (codes "put_int") kinds.PredefinedRoutine
    ++ both_cases (codes "PUT_TEXT") (codes "put_text") kinds.PredefinedRoutine
    ++ both_cases (codes "PUT_NL") (codes "put_nl") kinds.PredefinedRoutine
    ++ both_cases (codes "GET_INT") (codes "get_int") kinds.PredefinedRoutine

abbrev pub predefined : List Definition
predefined = predefined_modes ++ predefined_constants ++ predefined_routines

-- the definitions of a text, and the predefined ones behind them
abbrev pub with_predefined : List Definition → List Definition
with_predefined text = text ++ predefined

-- ---- what a number tells, where `all` are the definitions of the text and the predefined ones

abbrev pub spelling_of : Option Definition → List ℕ
spelling_of None = []
spelling_of (Some d) = d.name.spelling

abbrev pub kind_of : Option Definition → Option Kind
kind_of None = None
kind_of (Some d) = Some d.kind

abbrev pub elements_of : Option Definition → ℕ
elements_of None = 0
elements_of (Some d) = d.elements

abbrev pub spelling_at : List Definition → ℕ → List ℕ
spelling_at all d = spelling_of (slice_get all d)

-- so many numbers from one on
abbrev pub numbers_on : ℕ → ℕ → List ℕ
numbers_on from zero = []
numbers_on from (suc count) = from ∷ numbers_on (suc from) count

-- the elements that go with a definition
abbrev pub elements_at : List Definition → ℕ → List ℕ
elements_at all d = numbers_on (suc d) (elements_of (slice_get all d))

-- the definition is of a kind of which the test tells
abbrev pub is_of : (Kind → Bool) → Option Kind → Bool
is_of test None = false
is_of test (Some kind) = test kind

abbrev pub is_kind_at : (Kind → Bool) → List Definition → ℕ → Bool
is_kind_at test all d = is_of test (kind_of (slice_get all d))

-- those of some definitions that have a name
abbrev pub under : List Definition → List ℕ → List ℕ → List ℕ
under all n numbers = filter (λ d. bytes_eq (spelling_at all d) n) numbers

-- the predefined definitions of a name
abbrev pub predefined_under : List Definition → List ℕ → List ℕ
predefined_under text n = under (with_predefined text) n (numbers_on (length text) (length predefined))
