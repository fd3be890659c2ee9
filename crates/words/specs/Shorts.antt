-- Short texts, held in place. Assumes nothing.
use Rattle.std.specs.Prelude.{ℕ, ◌-◌, min, List, ◌++◌, length, take, replicate}
use Rattle.words.specs.declared.short.Short.{Short}

-- how many bytes a short text of n has room for
abbrev pub room : ℕ → ℕ
room n = min n 255

-- the first n bytes of a text as they are stored, with zeros behind them
unfoldable pub short_of : (n : ℕ) → List ℕ → Short n
short_of n w = record { bytes = take (room n) w ++ replicate (n - min (length w) (room n)) 0; len = min (length w) (room n) }

-- the bytes of a stored text
abbrev pub short_text : {n : ℕ} → Short n → List ℕ
short_text s = take s.len s.bytes
