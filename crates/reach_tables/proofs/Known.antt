-- The numbers that a table has already add nothing to what is known of a reach.
use Rattle.std.proofs.Common.{◌≡◌, ℕ, true, List, [], ◌++◌, refl, ap, sym, ◌∙◌, length, take}
use Rattle.std.specs.Str.{bytes_eq}
use Rattle.std.proofs.lemmas.List.{take_at}
use Rattle.std.proofs.lemmas.Slice.Eq.{bytes_eq-Decides}
use Rattle.names_model.specs.declared.definition.Definition.{Definition}
use Rattle.names_model.specs.Definitions.{spelling_at, under}
use Rattle.names_model.specs.Entries.{is_among, once_behind}
use Rattle.reach_tables.specs.Held.{Holdings, held}
use Rattle.reach_tables.specs.Marks.{Added, EachHeld, Marks}
use Rattle.reach_tables.proofs.Entering.{once-append}
use Rattle.reach_tables.proofs.Filters.{filter-append}
use Rattle.reach_tables.proofs.Within.{Within, filter-from, once-within}

-- none is held
pub none-held : (t : Holdings) (all : List Definition) → EachHeld all t []
none-held t all = record { by = λ d h. cc }

-- those of one name are each held under their own
pub held-each : (marks : List ℕ) (t : Holdings) (all : List Definition) (n xs : List ℕ) → Marks marks t all → xs ≡ held t n → EachHeld all t xs
held-each marks t all n xs m is = record {
  by = λ d h.
      let there : is_among d (held t n) ≡ true = ap (is_among d) (sym is) ∙ h in
      ap (λ k. is_among d (held t k)) ((bytes_eq-Decides (spelling_at all d) n).0 (m.own n d there)) ∙ there;
}

under-held : (all : List Definition) (t : Holdings) (n xs : List ℕ) → EachHeld all t xs → Within (under all n xs) (held t n)
under-held all t n xs h d k =
    let from = filter-from (λ e. bytes_eq (spelling_at all e) n) d xs k in
    ap (λ m. is_among d (held t m)) (sym ((bytes_eq-Decides (spelling_at all d) n).0 from.0)) ∙ h.by d from.1

-- those behind the held ones are added, and so all are
pub added-known : (all : List Definition) (xs ys zs : List ℕ) (t t' : Holdings) (new : List ℕ) → EachHeld all t xs → zs ≡ xs ++ ys → Added all ys t t' new → Added all zs t t' new
added-known all xs ys zs t t' new h is a = record {
  by = λ n. a.by n ∙ sym (ap (λ ds. once_behind (held t n) (under all n ds)) is
      ∙ ap (once_behind (held t n)) (filter-append (λ e. bytes_eq (spelling_at all e) n) xs ys)
      ∙ once-append (held t n) (under all n xs) (under all n ys)
      ∙ ap (λ ds. once_behind ds (under all n ys)) (once-within (held t n) (under all n xs) (under-held all t n xs h)));
  marks = a.marks;
}

-- the first numbers are those of a name
pub front-is : (xs ys known front : List ℕ) → xs ≡ known ++ ys → front ≡ take (length known) xs → front ≡ known
front-is xs ys known front is taken = taken ∙ ap (take (length known)) is ∙ take_at known ys (length known) refl
