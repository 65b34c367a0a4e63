-- Stage: the heads seen, as the code keeps them: a row of 64-bit words.
use Rattle.std.specs.Prelude.{List, ℕ}
use Rattle.bits.specs.Sets.{put_in}
use Rattle.words.specs.declared.Due.{Due}
use Rattle.words.specs.declared.Due.TheVariants.{Head, Line, Count, Size, Literal}

-- the flags after a word
abbrev pub noted : Due → List ℕ → ℕ → List ℕ
noted Head s w = put_in s w
noted Line s w = s
noted Count s w = s
noted (Size g) s w = s
noted (Literal k g) s w = s
