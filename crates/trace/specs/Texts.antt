-- The lines of a trace, as bytes.
use Rattle.std.specs.Prelude.{ℕ, List, [], ◌∷◌, ◌++◌, codes}
use Rattle.std.specs.List.{concat}
use Rattle.channel.specs.declared.phase.Phase.{Phase}
use Rattle.channel.specs.declared.phase.Phase.TheVariants.{Run, Request, Stopped, Exit, Denied, Continue}

-- QREQn, QACCEPTn, QDENY
abbrev pub levels_text : Phase → List ℕ
levels_text Run = codes "110"
levels_text Request = codes "010"
levels_text Stopped = codes "000"
levels_text Exit = codes "100"
levels_text Denied = codes "011"
levels_text Continue = codes "111"

-- parts, one behind the other, and a byte 10
abbrev pub parts_line : List (List ℕ) → List ℕ
parts_line ps = concat ps ++ 10 ∷ []

-- TICK NAME LEVELS
abbrev pub edge_text : List ℕ → List ℕ → Phase → List ℕ
edge_text tick w p = parts_line (tick ∷ codes " " ∷ w ∷ codes " " ∷ levels_text p ∷ [])

-- TICK NAME denied LEAF
abbrev pub denied_text : List ℕ → List ℕ → List ℕ → List ℕ
denied_text tick w leaf = parts_line (tick ∷ codes " " ∷ w ∷ codes " denied " ∷ leaf ∷ [])

-- TICK reset
abbrev pub reset_text : List ℕ → List ℕ
reset_text tick = parts_line (tick ∷ codes " reset" ∷ [])

-- TICK ! NUMBER
abbrev pub refused_text : List ℕ → List ℕ → List ℕ
refused_text tick number = parts_line (tick ∷ codes " ! " ∷ number ∷ [])
