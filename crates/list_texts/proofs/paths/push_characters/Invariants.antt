use Rattle.std.proofs.Common.{◌≡◌, ◌++◌, [], ◌∷◌, pos}
use Rattle.list_texts.specs.Paths.{in_elements, element_path}
use Rattle.list_texts.proofs.paths.push_characters.Given as goal

abbrev pub invariant-loop-k : goal.invariant-loop-k
invariant-loop-k l = l.out ≡ l.initial.out ++ in_elements l.k (λ k. element_path l.path (pos k) ∷ [])
