-- Lines of diagnostics, one after another.
use Rattle.std.proofs.Common.{◌≡◌, ℕ, ◌+◌, ◌<◌, List, [], ◌∷◌, ◌++◌, length, drop, get_or, sym, ap, ◌∙◌, append_assoc, add-one, drop-cons}
use Rattle.diagnostics.specs.declared.diagnostic.Diagnostic.{Diagnostic}
use Rattle.listing.specs.Diagnostics.{line_of, lines_of}

-- what is left begins with the next line
next_line : (xs : List Diagnostic) (i : ℕ) (x : Diagnostic) → i < length xs → lines_of (drop i xs) ≡ line_of (get_or xs i x) ++ lines_of (drop (i + 1) xs)
next_line xs i x low = rw add-one (ap lines_of (drop-cons xs i x low))

-- a line more is written
pub lines-next : (text new : List ℕ) (xs : List Diagnostic) (i : ℕ) (x : Diagnostic) → new ≡ text ++ line_of x → x ≡ get_or xs i x → i < length xs → text ++ lines_of (drop i xs) ≡ lines_of xs → new ++ lines_of (drop (i + 1) xs) ≡ lines_of xs
lines-next text new xs i x is item low so_far =
    ap (λ w. w ++ lines_of (drop (i + 1) xs)) is
    ∙ append_assoc text (line_of x) (lines_of (drop (i + 1) xs))
    ∙ ap (λ (y : Diagnostic). text ++ (line_of y ++ lines_of (drop (i + 1) xs))) item
    ∙ ap (λ w. text ++ w) (sym (next_line xs i x low))
    ∙ so_far

-- a line is its head, the rule's text and a line feed
pub line-made : (old head filled one two three : List ℕ) → one ≡ old ++ head → two ≡ one ++ filled → three ≡ two ++ 10 ∷ [] → three ≡ old ++ ((head ++ filled) ++ 10 ∷ [])
line-made old head filled one two three a b c =
    c ∙ ap (λ w. w ++ 10 ∷ []) (b ∙ ap (λ w. w ++ filled) a ∙ append_assoc old head filled) ∙ append_assoc old (head ++ filled) (10 ∷ [])

-- the head of a line is its place and its rule
pub head-is : (line column name filled head : List ℕ) → head ≡ line ++ 58 ∷ (column ++ 58 ∷ 32 ∷ (name ++ 32 ∷ [])) →
    (head ++ filled) ++ 10 ∷ [] ≡ ((((((line ++ 58 ∷ []) ++ column) ++ 58 ∷ 32 ∷ []) ++ name) ++ 32 ∷ []) ++ filled) ++ 10 ∷ []
head-is line column name filled head is = rw is (simp append_assoc)
