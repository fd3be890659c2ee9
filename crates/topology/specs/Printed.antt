-- Nodes as the text that they are read from. Assumes nothing.
use Rattle.std.specs.Prelude.{◌≡◌, ℕ, ◌≤◌, List, [], ◌∷◌, map, length, codes, decimal}
use Rattle.words.specs.Pieces.{spaced, unlines}
use Rattle.topology.specs.declared.node.Node.{Node}
use Rattle.topology.specs.declared.node.Part.{Part}
use Rattle.topology.specs.declared.node.Part.TheVariants.{Timed, Work, Dist, Seq}
use Rattle.topology.specs.Nodes.{called}
use Rattle.topology.specs.Trees.{name_of_line, WellFormed}

-- the words of a line among all lines
abbrev pub line_words : List Node → List ℕ → Part → List (List ℕ)
line_words all name (Timed d e k) = codes "timed" ∷ name ∷ decimal d ∷ decimal e ∷ decimal k ∷ []
line_words all name (Work p) = codes "work" ∷ name ∷ decimal p ∷ []
line_words all name (Dist a b) = codes "dist" ∷ name ∷ name_of_line all a ∷ name_of_line all b ∷ []
line_words all name (Seq a b) = codes "seq" ∷ name ∷ name_of_line all a ∷ name_of_line all b ∷ []

-- its text, with a byte 32 between the words
abbrev pub line_text : List Node → Node → List ℕ
line_text all n = spaced (line_words all (called n) n.part)

-- the text of some lines among all lines, each ended by a byte 10
abbrev pub print_lines : List Node → List Node → List ℕ
print_lines all ns = unlines (map (line_text all) ns)

abbrev pub printed : List Node → List ℕ
printed ns = print_lines ns ns

-- a text of the format: well-formed nodes in print, small enough
pub record OfFormat (t : List ℕ) (cells : ℕ) : Type 0 where
  pub nodes : List Node
  pub well_formed : WellFormed nodes
  pub text : printed nodes ≡ t
  pub short : length t ≤ 8192
  pub room : length nodes ≤ cells
