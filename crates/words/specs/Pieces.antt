-- A text cut into lines, and a line cut into words. Assumes nothing.
use Rattle.std.specs.Prelude.{ℕ, cond, List, [], ◌∷◌, ◌++◌, ◌==◌, slice_index_or}
use Rattle.words.specs.declared.piece.Lines.{Lines}
use Rattle.std.specs.List.{slice_split, onto_first, join_with_byte, position_or_len}

-- the lines of a text, each ended by byte 10
unfoldable pub lines_of : List ℕ → List (List ℕ)
lines_of [] = []
lines_of (x ∷ xs) = cond (x == 10) ([] ∷ lines_of xs) (onto_first x (lines_of xs))

-- where the first line ends: at the first byte 10, or at the end where there is none
abbrev pub line_end : List ℕ → ℕ
line_end t = position_or_len (λ x. x == 10) t

-- the text that an iterator over lines has left, and its lines
abbrev pub text_left : Lines → List ℕ
text_left s = s.rest.now

abbrev pub lines_left : Lines → List (List ℕ)
lines_left s = lines_of (text_left s)

-- the words of a line, between its bytes 32: one more than it has such bytes
abbrev pub words_of : List ℕ → List (List ℕ)
words_of l = slice_split (λ x. x == 32) l

-- the k-th word of a line, from 0, and nothing past the last
abbrev pub word_of : List ℕ → ℕ → List ℕ
word_of l k = slice_index_or (words_of l) k []

-- words with a byte 32 between them
abbrev pub spaced : List (List ℕ) → List ℕ
spaced ws = join_with_byte 32 ws

-- lines, each ended by a byte 10
unfoldable pub unlines : List (List ℕ) → List ℕ
unlines [] = []
unlines (l ∷ ls) = l ++ 10 ∷ unlines ls
