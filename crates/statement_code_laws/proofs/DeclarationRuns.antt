-- Declarations: names get a value, or the lowest value of their mode.
use Rattle.std.proofs.Common.{◌≡◌, ℕ, ◌+◌, ◌<◌, ◌≤◌, if◌then◌else◌, Bool, true, List, [], ◌∷◌, ◌++◌, ℤ, pos, length, Some, slice_get, nat_le, le-leb, All, refl, sym, ap, ◌∙◌, subst, arith, append_assoc}
use Rattle.std.proofs.lemmas.List.Elements.{All-head, All-tail}
use Rattle.world_model.specs.Session.{Session}
use Rattle.world_model.specs.Lists.{with_scalars}
use Rattle.checked_program.specs.declared.expr.Base.{Base}
use Rattle.checked_program.specs.declared.expr.Base.TheVariants.{Shared, Local}
use Rattle.code_types.specs.declared.instr.Instr.{Instr}
use Rattle.code_types.specs.declared.instr.Instr.TheVariants as i
use Rattle.code_types.specs.Actions.{Sets, Halts, in_frame}
use Rattle.program_trees.specs.ExprTree.{ReceivedTree, received_count}
use Rattle.program_trees.specs.ProgramTree.{LocalRowTree}
use Rattle.program_trees.specs.StatementTree.{declare, set_lowest}
use Rattle.source_meaning.specs.Store.{Store, address_of, with_local}
use Rattle.source_meaning.specs.Flow.{Goes, then_do}
use Rattle.source_meaning.specs.Operators.{one}
use Rattle.source_meaning.specs.ExprMeaning.{Setting, assign_at, received_mean}
use Rattle.source_meaning.specs.StatementMeaning.{set_names, set_locals}
use Rattle.source_meaning.specs.BodyMeaning.{Bodies}
use Rattle.code_scheme.specs.Pieces.{Layout, first_in, scalars_code}
use Rattle.code_scheme.specs.ExprSizes.{received_size}
use Rattle.code_scheme.specs.ExprCode.{received_code}
use Rattle.code_scheme.specs.StatementSite.{Standing, layout}
use Rattle.code_scheme.specs.StatementPlain.{offset_of_name, name_code, names_code, keeping_code, name_size, names_size, keeping_size, set_lowest_code, set_lowest_size}
use Rattle.follow_laws.specs.Follows.{HasAt, Around, free_in, keeping, here, Holds, GetsTo, Follows, always, HoldsWith, Nothing, Does}
use Rattle.code_laws.specs.BodyBounds.{BodiesWithin}
use Rattle.code_laws.specs.InRange.{IsNumber32, BaseFits, FitsReceived}
use Rattle.code_laws.specs.OwnBounds.{received_within}
use Rattle.code_laws.specs.Expressions.{NamesIn}
use Rattle.follow_laws.proofs.Running.{has_front, has_back, after, follows_then, comes}
use Rattle.follow_laws.proofs.Requesting.{none_takes}
use Rattle.follow_laws.proofs.Holding.{HasPart, IsSet, scratch_set, scratch_read, whole_set}
use Rattle.follow_laws.proofs.Instructions.{puts_on, sets_by, renamed, set_by, write_by}
use Rattle.code_laws.proofs.Values.{scalars_run}
use Rattle.code_laws.proofs.CallPieces.{forgetting_holds}
use Rattle.code_laws.specs.Statements.{StandsAs, calls_from}
use Rattle.code_laws.specs.StatementsInRange.{LocalFits}
use Rattle.statement_code_laws.specs.Actions.{ActionActs, DeclarationLaw}
use Rattle.statement_code_laws.proofs.PlainRuns.{plain_acts}
use Rattle.statement_code_laws.proofs.LeavingRuns.{received_then}

-- each name has so many scalars
abbrev NamesFit : Layout → List Base → ℕ → Type 0
NamesFit lay bs n = All (λ b. BaseFits lay b n) bs

abbrev LocalsFit : Layout → List ℕ → ℕ → Type 0
LocalsFit lay ks n = All (LocalFits lay n) ks

name_fits : (lay : Layout) (b : Base) (bs : List Base) (n : ℕ) → NamesFit lay (b ∷ bs) n → BaseFits lay b n
name_fits lay b bs n fits = All-head (λ c. BaseFits lay c n) b bs fits

names_fit : (lay : Layout) (b : Base) (bs : List Base) (n : ℕ) → NamesFit lay (b ∷ bs) n → NamesFit lay bs n
names_fit lay b bs n fits = All-tail (λ c. BaseFits lay c n) b bs fits

-- the place of a name on the stack
abbrev name_stack : Base → List ℤ → List ℤ
name_stack (Shared l) base = base ++ one (pos 0)
name_stack (Local k) base = base

place_run : (w : Around) (b : Base) (at : ℕ) (base locals : List ℤ) (s : Session) → HasAt w.code.instrs at (offset_of_name b)
    → GetsTo w.code (here w at base locals s) (here w (at + length (offset_of_name b)) (name_stack b base) locals s)
place_run w (Shared l) at base locals s has = puts_on w (i.Push (pos 0)) at base locals s (one (pos 0)) has.0 refl refl
place_run w (Local k) at base locals s has = renamed w at (at + 0) base base locals s (let e : at ≡ at + 0 = omega arith in e) refl

-- a row of the body is one of its frame
row_is : (w : Around) (lay : Layout) (k n : ℕ) → lay.rows ≡ w.rows → (fits : BaseFits lay (Local k) n) → slice_get w.rows k ≡ Some fits.0
row_is w lay k n rows fits = ap (λ (rs : List LocalRowTree). slice_get rs k) (sym rows) ∙ fits.1

-- a name gets the value on top
name_runs : (w : Around) (lay : Layout) (b : Base) (n at to lo hi : ℕ) (base xs locals : List ℤ) (store : Store) (s : Session)
    → lay.rows ≡ w.rows → BaseFits lay b n → length xs ≡ n → HasAt w.code.instrs at (name_code lay b n) → at + 1 ≡ to → lo ≤ at → at < hi → Holds w store locals
    → Follows w (here w at (name_stack b base ++ xs) locals s) lo hi [] (always to) (always base) (HoldsWith w Nothing) (assign_at n (address_of b 0) xs store s)
name_runs w lay (Shared l) n at to lo hi base xs locals store s rows fits long has e low high h =
    after (renamed w at at ((base ++ one (pos 0)) ++ xs) (base ++ (pos 0 ∷ xs)) locals s refl (append_assoc base (one (pos 0)) xs))
    (write_by w l 0 0 n xs at to lo hi [] base locals store s long e low high (none_takes at) (omega arith) has.0 h)
name_runs w lay (Local k) n at to lo hi base xs locals store s rows fits long has e low high h =
    let f_is : first_in (slice_get lay.rows k) ≡ fits.0.first + 0 = ap first_in fits.1 ∙ (let z : fits.0.first ≡ fits.0.first + 0 = omega arith in z) in
    set_by w k 0 n (first_in (slice_get lay.rows k)) fits.0 xs at to lo hi [] base locals store s long e (row_is w lay k n rows fits) (omega (arith, fits.2)) f_is has.0 h

name_length : (lay : Layout) (b : Base) (n : ℕ) → length (name_code lay b n) ≡ 1
name_length lay (Shared l) n = refl
name_length lay (Local k) n = refl

size_is : (b : Base) → length (offset_of_name b) + 1 ≡ name_size b
size_is (Shared l) = refl
size_is (Local k) = refl

-- ---- one name

one_declared : (b : Base) (r : ReceivedTree) → ActionActs (declare (b ∷ []) r)
one_declared b r w v st bodies inside n from stands names fits has =
    plain_acts (λ store s locals within h.
    after (place_run w b from [] locals s (has_front w.code.instrs from (offset_of_name b) (value ++ set) has))
    (received_then w v st bodies inside r set at from until until (set_names (b ∷ [])) (name_stack b []) locals store s stands names fits.0 (omega arith) (omega (arith, size_is b)) (has_back w.code.instrs from at (offset_of_name b) (value ++ set) refl has) within h
    (λ xs store1 s1 locals1 long has1 h1.
    follows_then
    (subst (λ (m : ℕ). Does w (here w (at + received_size r) (name_stack b [] ++ xs) locals1 s1) from until [] until (assign_at m (address_of b 0) xs store1 s1)) (sym long)
    (name_runs w lay b count (at + received_size r) until from until [] xs locals1 store1 s1 stands.suited.rows (name_fits lay b [] count fits.1) long has1 (omega (arith, size_is b)) (omega arith) (omega (arith, size_is b)) h1))
    (λ u store2 s2 locals2 q. comes {v = tt} refl refl (tt, q.1)))))
  where
    lay : Layout
    lay = layout st.site

    count : ℕ
    count = received_count r

    at : ℕ
    at = from + length (offset_of_name b)

    until : ℕ
    until = from + (received_size r + name_size b)

    value : List Instr
    value = received_code lay st.free r at

    set : List Instr
    set = name_code lay b count

-- ---- several names

names_run : (w : Around) (lay : Layout) (free n at to lo hi : ℕ) (bs : List Base) (xs locals : List ℤ) (store : Store) (s : Session)
    → lay.rows ≡ w.rows → free ≡ free_in w → NamesFit lay bs n → length xs ≡ n
    → HasAt w.code.instrs at (names_code lay free n bs) → at + names_size bs ≡ to → lo ≤ at → to ≤ hi → Holds (keeping w xs) store locals
    → Does (keeping w xs) (here w at [] locals s) lo hi [] to (set_names bs xs store s)
names_run w lay free n at to lo hi [] xs locals store s rows free_is fits long has e low high h = comes {v = tt} (let z : at ≡ to = omega arith in z) refl (tt, h)
names_run w lay free n at to lo hi (b ∷ bs) xs locals store s rows free_is fits long has e low high h =
    let w2 : Around = keeping w xs in
    let at1 : ℕ = at + length (offset_of_name b) in
    let at2 : ℕ = at1 + 1 in
    let at3 : ℕ = at2 + 1 in
    let all : List Instr = w.code.instrs in
    let set : List Instr = name_code lay b n in
    let rest : List Instr = names_code lay free n bs in
    let has1 = has_back all at at1 (offset_of_name b) (i.Local free n ∷ (set ++ rest)) refl has in
    let has3 = has_back all at2 at3 set rest (ap (λ (j : ℕ). at2 + j) (name_length lay b n)) has1.1 in
    let part : HasPart locals free n xs = scratch_read w store locals xs free n h free_is (sym long) in
    after (place_run w2 b at [] locals s (has_front all at (offset_of_name b) (i.Local free n ∷ (set ++ rest)) has))
    (after (puts_on w2 (i.Local free n) at1 (name_stack b []) locals s xs has1.0 refl (ap in_frame part.is))
    (follows_then
    (subst (λ (m : ℕ). Does w2 (here w at2 (name_stack b [] ++ xs) locals s) lo hi [] at3 (assign_at m (address_of b 0) xs store s)) (sym long)
    (name_runs w2 lay b n at2 at3 lo hi [] xs locals store s rows (name_fits lay b bs n fits) long (has_front all at2 set rest has1.1) refl (omega arith) (omega (arith, size_is b)) h))
    (λ u store1 s1 locals1 q.
    names_run w lay free n at3 to lo hi bs xs locals1 store1 s1 rows free_is (names_fit lay b bs n fits) long has3 (omega (arith, size_is b)) (omega arith) high q.1)))

-- a value is kept, and each name gets it
kept_runs : (w : Around) (v : Setting) (st : Standing) (bodies : Bodies) (inside : BodiesWithin) (bs : List Base) (r : ReceivedTree) (from until : ℕ) (locals : List ℤ) (store : Store) (s : Session)
    → StandsAs w v st bodies inside → from + keeping_size bs r ≡ until → NamesIn w from until → NamesFit (layout st.site) bs (received_count r) → FitsReceived (layout st.site) r
    → HasAt w.code.instrs from (keeping_code st bs r from)
    → received_within v (calls_from inside w v.open_now) r store s ≡ true → Holds w store locals
    → Does w (here w from [] locals s) from until [] until (then_do (received_mean v r store s) (set_names bs))
kept_runs w v st bodies inside bs r from until locals store s stands len names fit fits has within h =
    received_then w v st bodies inside r (i.SetLocal free count ∷ rest) from from until until (set_names bs) [] locals store s stands names fits (omega arith) (omega arith) has within h
    (λ xs store1 s1 locals1 long has1 h1.
    let room : free + count ≤ w.row.locals = names at (i.SetLocal free count) (omega arith) (omega arith) has1.0 in
    let set : IsSet (keeping w xs) store1 locals1 free xs = scratch_set w store1 locals1 xs free h1 stands.free (omega arith) in
    let inside_frame : nat_le (free + length xs) (length locals1) ≡ true = le-leb (free + length xs) (length locals1) set.inside in
    after (sets_by w (i.SetLocal free count) at [] xs locals1 s1 free xs has1.0 (sym long) (ap (λ (t : Bool). if t then Sets free xs else Halts) inside_frame))
    (forgetting_holds w xs
    (names_run w lay free count (at + 1) until from until bs xs (with_scalars locals1 free xs) store1 s1 stands.suited.rows stands.free fit long has1.1 (omega arith) (omega arith) (omega arith) set.holds)))
  where
    lay : Layout
    lay = layout st.site

    free : ℕ
    free = st.free

    count : ℕ
    count = received_count r

    at : ℕ
    at = from + received_size r

    rest : List Instr
    rest = names_code lay free count bs

declared : (bs : List Base) (r : ReceivedTree) → ActionActs (declare bs r)
declared [] r w v st bodies inside n from stands names fits has =
    plain_acts (λ store s locals within h. kept_runs w v st bodies inside [] r from (from + keeping_size [] r) locals store s stands refl names fits.1 fits.0 has within h)
declared (b ∷ []) r w v st bodies inside n from stands names fits has = one_declared b r w v st bodies inside n from stands names fits has
declared (b ∷ c ∷ bs) r w v st bodies inside n from stands names fits has =
    plain_acts (λ store s locals within h. kept_runs w v st bodies inside (b ∷ c ∷ bs) r from (from + keeping_size (b ∷ c ∷ bs) r) locals store s stands refl names fits.1 fits.0 has within h)

-- ---- without a value

lowest_runs : (w : Around) (lay : Layout) (ks : List ℕ) (xs : List ℤ) (at to lo hi : ℕ) (locals : List ℤ) (store : Store) (s : Session)
    → lay.rows ≡ w.rows → LocalsFit lay ks (length xs) → IsNumber32 (length xs) → HasAt w.code.instrs at (set_lowest_code lay ks xs) → at + set_lowest_size ks xs ≡ to → Holds w store locals
    → Does w (here w at [] locals s) lo hi [] to (Goes tt (set_locals ks xs store) s)
lowest_runs w lay [] xs at to lo hi locals store s rows fits small has e h = comes {v = tt} (let z : at ≡ to = omega arith in z) refl (tt, h)
lowest_runs w lay (k ∷ ks) xs at to lo hi locals store s rows fits small has e h =
    let at1 : ℕ = at + length (scalars_code xs) in
    let f : ℕ = first_in (slice_get lay.rows k) in
    let rest : List Instr = set_lowest_code lay ks xs in
    let has1 = has_back w.code.instrs at at1 (scalars_code xs) (i.SetLocal f (length xs) ∷ rest) refl has in
    let fit : LocalFits lay (length xs) k = All-head (LocalFits lay (length xs)) k ks fits in
    let set : IsSet w (with_local store k xs) locals f xs = whole_set w store locals k f fit.0 xs h (row_is w lay k (length xs) rows fit) (sym fit.2) (ap first_in fit.1) in
    let inside : nat_le (f + length xs) (length locals) ≡ true = le-leb (f + length xs) (length locals) set.inside in
    after (scalars_run w xs at [] locals s small (has_front w.code.instrs at (scalars_code xs) (i.SetLocal f (length xs) ∷ rest) has))
    (after (sets_by w (i.SetLocal f (length xs)) at1 [] xs locals s f xs has1.0 refl (ap (λ (t : Bool). if t then Sets f xs else Halts) inside))
    (lowest_runs w lay ks xs (at1 + 1) to lo hi (with_scalars locals f xs) (with_local store k xs) s rows (All-tail (LocalFits lay (length xs)) k ks fits) small has1.1 (omega arith) set.holds))

lowest : (ks : List ℕ) (xs : List ℤ) → ActionActs (set_lowest ks xs)
lowest ks xs w v st bodies inside n from stands names fits has =
    plain_acts (λ store s locals within h.
    lowest_runs w (layout st.site) ks xs from (from + set_lowest_size ks xs) from (from + set_lowest_size ks xs) locals store s stands.suited.rows fits.0 fits.1 has refl h)

pub declaration_law : DeclarationLaw
declaration_law = record { declared = declared; lowest = lowest }
