-- An output buffer, and lines that are written into it one behind the other. Assumes nothing.
use Rattle.std.specs.Prelude.{ℕ, ◌+◌, cond, List, [], ◌∷◌, length, nat_le}
use Rattle.std.specs.List.{concat}
use Rattle.std.proofs.Math.Seq.{paste}

-- a buffer, and the place behind what is written
pub record Sheet : Type 0 where
  pub bytes : List ℕ
  pub at : ℕ

abbrev pub sheet : List ℕ → ℕ → Sheet
sheet out at = record { bytes = out; at = at }

-- bytes laid at a place; all else is as it was
abbrev pub laid : List ℕ → ℕ → List ℕ → List ℕ
laid out at bs = paste out at bs (length bs)

-- one line more, where there is room for the whole of it; else nothing
unfoldable pub line_onto : Sheet → List ℕ → Sheet
line_onto s l = cond (nat_le (s.at + length l) (length s.bytes)) (sheet (laid s.bytes s.at l) (s.at + length l)) s

-- lines, one behind the other
unfoldable pub onto : Sheet → List (List ℕ) → Sheet
onto s [] = s
onto s (l ∷ ls) = onto (line_onto s l) ls

-- the bytes of lines
abbrev pub joined : List (List ℕ) → List ℕ
joined ls = concat ls
