-- A reach is opened entry by entry.
use Rattle.std.proofs.Common.{◌≡◌, ℕ, List, [], ◌∷◌, ◌++◌, append-nil, append_assoc, refl, ap, sym, ◌∙◌, subst, if◌then◌else◌, ◌+◌, ◌<◌, take, get_or, length}
use Rattle.std.proofs.lemmas.List.{map-append, take_more}
use Rattle.std.specs.Prelude.{flat_map}
use Rattle.diagnostics.specs.Listing.{SameMembers}
use Rattle.diagnostics.specs.declared.diagnostic.Diagnostic.{Diagnostic}
use Rattle.names_model.specs.declared.definition.Definition.{Definition}
use Rattle.names_model.specs.declared.entry.Entry.{Entry}
use Rattle.names_model.specs.Definitions.{spelling_at, under}
use Rattle.names_model.specs.Entries.{found, is_among, numbers_of, once_behind}
use Rattle.names_model.specs.NameRules.{told_behind, told_number}
use Rattle.std.specs.Str.{bytes_eq}
use Rattle.reach_tables.specs.declared.opening.Opening.{Opening}
use Rattle.reach_tables.specs.Marks.{Added}
use Rattle.reach_tables.specs.Opens.{Opens, Entering}
use Rattle.reach_tables.specs.declared.place.Place.{Place}
use Rattle.reach_tables.specs.Places.{single, singles}
use Rattle.reach_tables.proofs.Appends.{flat_map-append}
use Rattle.reach_tables.proofs.Members.{same-behind, same-trans}
use Rattle.reach_tables.proofs.Filters.{filter-append}

-- numbers behind others, in two steps
pub once-append : (xs ys zs : List ℕ) → once_behind xs (ys ++ zs) ≡ once_behind (once_behind xs ys) zs
once-append xs [] zs = refl
once-append xs (y ∷ ys) zs = once-append (if is_among y xs then xs else xs ++ y ∷ []) ys zs

-- one more entry
pub numbers-more : (es : List Entry) (e : Entry) → numbers_of (es ++ e ∷ []) ≡ numbers_of es ++ e.numbers
numbers-more es e = flat_map-append (λ (x : Entry). x.numbers) es (e ∷ []) ∙ ap (λ r. numbers_of es ++ r) (append-nil e.numbers)

found-more : (all : List Definition) (es : List Entry) (e : Entry) (n : List ℕ) → once_behind (found all es n) (under all n e.numbers) ≡ found all (es ++ e ∷ []) n
found-more all es e n = sym (once-append [] (under all n (numbers_of es)) (under all n e.numbers))
    ∙ ap (once_behind []) (sym (filter-append (λ d. bytes_eq (spelling_at all d) n) (numbers_of es) e.numbers)) ∙ ap (λ ds. once_behind [] (under all n ds)) (sym (numbers-more es e))

told-more : (all : List Definition) (known : List ℕ) (es : List Entry) (e : Entry) → told_behind all known (es ++ e ∷ []) ≡ told_behind all known es ++ flat_map (told_number all (known ++ numbers_of es) e.at) e.numbers
told-more all known [] e = append-nil (flat_map (told_number all known e.at) e.numbers) ∙ ap (λ ks. flat_map (told_number all ks e.at) e.numbers) (sym (append-nil known))
told-more all known (x ∷ xs) e = ap (λ r. flat_map (told_number all known x.at) x.numbers ++ r) (told-more all (known ++ x.numbers) xs e)
    ∙ ap (λ ks. flat_map (told_number all known x.at) x.numbers ++ (told_behind all (known ++ x.numbers) xs ++ flat_map (told_number all ks e.at) e.numbers)) (append_assoc known x.numbers (numbers_of xs))
    ∙ sym (append_assoc (flat_map (told_number all known x.at) x.numbers) (told_behind all (known ++ x.numbers) xs) (flat_map (told_number all (known ++ numbers_of (x ∷ xs)) e.at) e.numbers))

-- the entry is told of, noted and added
pub opens-more : (o o' : Opening) (all : List Definition) (es : List Entry) (e : Entry) → Opens o all es → Added all e.numbers o.table o'.table o'.marked
    → SameMembers o'.told.items (o.told.items ++ flat_map (told_number all (numbers_of es) e.at) e.numbers) → Opens o' all (es ++ e ∷ [])
opens-more o o' all es e h added told = record {
  table = record { by = λ n. added.by n ∙ ap (λ xs. once_behind xs (under all n e.numbers)) (h.table.by n) ∙ found-more all es e n };
  marks = added.marks;
  told = same-trans o'.told.items (o.told.items ++ here) (told_behind all [] (es ++ e ∷ [])) told
      (subst (λ ds. SameMembers (o.told.items ++ here) ds) (sym (told-more all [] es e)) (same-behind o.told.items (told_behind all [] es) here h.told));
}
  where
    here : List Diagnostic
    here = flat_map (told_number all (numbers_of es) e.at) e.numbers

-- more is entered behind what was
pub behind : (P : List Entry → Type 0) (es fs gs hs : List Entry) → P ((es ++ fs) ++ gs) → fs ++ gs ≡ hs → P (es ++ hs)
behind P es fs gs hs h is = subst P (append_assoc es fs gs ∙ ap (λ r. es ++ r) is) h

-- nothing is entered yet
pub entering-none : (P : List Entry → Type 0) (es whole : List Entry) → P es → Entering P es whole whole
entering-none P es whole h = record { done = []; holds = subst P (sym (append-nil es)) h; is = refl }

-- the first of the rest is entered
pub entering-on : (P P' : List Entry → Type 0) (es rest first left whole : List Entry) → Entering P es rest whole → rest ≡ first ++ left
    → ((fs : List Entry) → P fs → P' (fs ++ first)) → Entering P' es left whole
entering-on P P' es rest first left whole e is enters = record {
  done = e.done ++ first;
  holds = behind P' es e.done first (e.done ++ first) (enters (es ++ e.done) e.holds) refl;
  is = append_assoc e.done first left ∙ ap (λ r. e.done ++ r) (sym is) ∙ e.is;
}

-- nothing is left
pub entering-end : (P : List Entry → Type 0) (es rest whole : List Entry) → Entering P es rest whole → rest ≡ [] → P (es ++ whole)
entering-end P es rest whole e is = subst (λ xs. P (es ++ xs)) (sym (append-nil e.done) ∙ ap (λ r. e.done ++ r) (sym is) ∙ e.is) e.holds

-- two lists of entries, one behind the other
pub opens-two : (o : Opening) (all : List Definition) (es own own' more : List Entry) → own ≡ own' → Opens o all ((es ++ own) ++ more) → Opens o all (es ++ (own' ++ more))
opens-two o all es own own' more a h = subst (Opens o all) (append_assoc es own more ∙ ap (λ r. es ++ (r ++ more)) a) h

-- one place of a list is entered
pub opens-place : (o : Opening) (all : List Definition) (es : List Entry) (places : List Place) (i : ℕ) (d : Place) → i < length places
    → Opens o all ((es ++ singles (take i places)) ++ single (get_or places i d) ∷ []) → Opens o all (es ++ singles (take (i + 1) places))
opens-place o all es places i d h opens = behind (Opens o all) es (singles (take i places)) (single (get_or places i d) ∷ []) (singles (take (i + 1) places)) opens
    (sym (map-append single (take i places) (get_or places i d ∷ [])) ∙ ap singles (sym (take_more places i d h)))
