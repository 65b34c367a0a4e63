-- Believed: two tables that differ only in line numbers, word by word.
use Rattle.std.specs.Prelude.{List, [], ◌∷◌, ◌≡◌, ℕ}
use Rattle.words.specs.declared.Due.{Due}
use Rattle.words.specs.declared.Due.TheVariants.{Head, Line, Count, Size, Literal}
use Rattle.words.specs.Check.{next}

-- the same word, but where a line number is due
abbrev pub SameWord : Due → ℕ → ℕ → Type 0
SameWord Head v w = v ≡ w
SameWord Line v w = Unit {0}
SameWord Count v w = v ≡ w
SameWord (Size g) v w = v ≡ w
SameWord (Literal k g) v w = v ≡ w

-- left to right from what is due: as many words, each the same
unfoldable pub SameFrom : Due → List ℕ → List ℕ → Type 0
SameFrom due [] [] = Unit {0}
SameFrom due [] (w ∷ u) = ⊥
SameFrom due (v ∷ t) [] = ⊥
SameFrom due (v ∷ t) (w ∷ u) = SameWord due v w × SameFrom (next due v) t u

abbrev pub OnlyLinesDiffer : List ℕ → List ℕ → Type 0
OnlyLinesDiffer t u = SameFrom Head t u
