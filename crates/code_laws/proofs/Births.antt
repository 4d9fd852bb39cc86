-- Arguments that fit a process are as many as its parameters have scalars.
use Rattle.std.proofs.Common.{◌≡◌, ℕ, zero, suc, ◌+◌, List, [], ◌∷◌, ℤ, replicate, length, refl, sym, ap, ◌∙◌, arith, length-append}
use Rattle.kernel_base.specs.declared.answer.Answer.{Answer}
use Rattle.modes.specs.ModeTree.{ModeTree, int, boolean, char, instance, set_of, range, powerset, chars, array, structure, event, buffer, read, named, FieldNodes, no_fields, more_fields}
use Rattle.modes.specs.Bounds.{bounds_of, values_of}
use Rattle.modes.specs.Scalars.{numbers_of, scalars_of, scalars_in_fields}
use Rattle.checked_program.specs.declared.program.Parameter.{Parameter}
use Rattle.program_trees.specs.ProgramTree.{LocalRowTree, CheckedTree}
use Rattle.source_meaning.specs.Values.{Domain, domain_in, member_domains, domains_of, domains_of_fields, AreWithin}
use Rattle.source_meaning.specs.Talk.{parameter_scalars}
use Rattle.source_meaning.specs.Fitting.{domains_of_parameters, IsFitting}
use Rattle.code_scheme.specs.BodyCode.{code_of}
use Rattle.code_laws.specs.StatementsInRange.{AreLaid, FitsProgram}
use Rattle.code_laws.specs.Assembly.{FitsBirth}
use Rattle.code_laws.specs.Talk.{TalkJoined}
use Rattle.code_laws.proofs.Values.{repeated_length}
use Rattle.code_laws.proofs.Assembling.{assembled}

count_within : (ds : List Domain) (xs : List ℤ) → AreWithin ds xs → length ds ≡ length xs
count_within [] [] w = refl
count_within [] (x ∷ xs) w = absurd w
count_within (d ∷ ds) [] w = absurd w
count_within (d ∷ ds) (x ∷ xs) w = ap suc (count_within ds xs w.1)

count_same : {A : Type 0} (n : ℕ) (x : A) → length (replicate n x) ≡ n
count_same zero x = refl
count_same (suc n) x = ap suc (count_same n x)

count_members : (size first n : ℕ) → length (member_domains size first n) ≡ n
count_members size first zero = refl
count_members size first (suc n) = ap suc (count_members size (first + 32) n)

mutual
  -- a mode has as many domains as scalars
  count_domains : (m : ModeTree) → length (domains_of m) ≡ scalars_of m
  count_domains int = refl
  count_domains boolean = refl
  count_domains char = refl
  count_domains instance = refl
  count_domains (set_of d n) = refl
  count_domains (range p l h) = refl
  count_domains (powerset m) = count_members (values_of m) 0 (numbers_of (values_of m))
  count_domains (chars n) = omega (arith, count_same n (domain_in (bounds_of char)))
  count_domains (array i e how) = repeated_length (values_of i) (scalars_of e) (domains_of e) (count_domains e)
  count_domains (structure fs p) = count_field_domains fs
  count_domains (event l) = refl
  count_domains (buffer l e) = refl
  count_domains (read m) = count_domains m
  count_domains (named d n m) = count_domains m

  count_field_domains : (fs : FieldNodes) → length (domains_of_fields fs) ≡ scalars_in_fields 0 fs
  count_field_domains no_fields = refl
  count_field_domains (more_fields name m at fs) = omega (arith, length-append (domains_of m) (domains_of_fields fs), count_domains m, count_field_domains fs)

count_parameters : (first : ℕ) (rows : List LocalRowTree) (ps : List Parameter) → AreLaid first rows → length (domains_of_parameters rows ps) ≡ parameter_scalars rows ps
count_parameters first rows [] laid = refl
count_parameters first [] (q ∷ ps) laid = refl
count_parameters first (row ∷ rows) (q ∷ ps) laid =
    omega (arith, length-append (domains_of row.mode) (domains_of_parameters rows ps), count_domains row.mode, laid.1, count_parameters (first + row.count) rows ps laid.3)

pub birth_fits : (p : CheckedTree) (who process : ℕ) (xs : List ℤ) (answers : List Answer) → FitsProgram p → IsFitting p who process xs answers → FitsBirth p process xs
birth_fits p who process xs answers in_range fits =
    let whole = in_range.bodies process fits.body fits.is_body in
    record {
      body = fits.body;
      is_body = fits.is_body;
      process = fits.fits.process;
      few = whole.parameters;
      counted = sym (count_parameters 0 fits.body.locals fits.body.parameters whole.locals) ∙ count_within (domains_of_parameters fits.body.locals fits.body.parameters) xs fits.fits.values;
    }

pub talk_joins : TalkJoined
talk_joins rests p who process xs answers n compilable agrees fits low =
    assembled p (code_of p) who (rests.bodies p who compilable agrees) process xs answers n low
    (birth_fits p who process xs answers compilable.in_range fits)
    (rests.within p who process xs answers n compilable.typed fits)
