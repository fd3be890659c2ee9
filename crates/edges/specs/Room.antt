-- What keeps the trace of a step short: few lines, few joins among them, short names.
use Rattle.std.specs.Prelude.{ℕ, zero, suc, ◌+◌, ◌*◌, ◌<◌, ◌≤◌, cond, List, length}
use Rattle.cells.specs.declared.cell.Cell.{Cell}
use Rattle.words.specs.Names.{text_of}
use Rattle.cells.specs.Flat.{at, body_at, is_join}

-- how many of the first n lines are joins
unfoldable pub joins_to : ℕ → List Cell → ℕ
joins_to zero cs = 0
joins_to (suc n) cs = cond (is_join (body_at cs n)) 1 0 + joins_to n cs

pub record Roomy (n : ℕ) (cs : List Cell) : Type 0 where
  pub lines : n ≤ 127
  -- at most every second line is a join
  pub few : 2 * joins_to n cs ≤ n
  pub short : 0 < n → (j : ℕ) → length (text_of (at cs j).name) ≤ 12
