-- Decimal numbers as they are written in a text. Assumes nothing.
use Rattle.std.specs.Prelude.{◌≡◌, ℕ, ◌+◌, ◌-◌, ◌*◌, Bool, true, false, cond, not, ◌&&◌, ◌||◌, List, [], ◌∷◌, length, Some, None, Ok, Err, Option, Result, ◌==◌, nat_le, nat_lt}
use Rattle.std.specs.List.{list_all}
use Rattle.std.specs.Str.{IsUtf8}

abbrev pub digit : ℕ → Bool
digit c = nat_le 48 c && nat_le c 57

abbrev pub digits : List ℕ → Bool
digits w = list_all digit w

-- the number that digits write, after the number n
unfoldable pub value_on : ℕ → List ℕ → ℕ
value_on n [] = n
value_on n (c ∷ cs) = value_on (10 * n + (c - 48)) cs

abbrev pub value : List ℕ → ℕ
value w = value_on 0 w

-- at least one byte, and no leading zero but 0 itself
abbrev pub well_led : List ℕ → Bool
well_led [] = false
well_led (c ∷ cs) = not (c == 48) || length cs == 0

-- a digit first, and no leading zero but 0 itself
abbrev pub begun : List ℕ → Bool
begun [] = false
begun (c ∷ cs) = digit c && well_led (c ∷ cs)

-- what a type reads of a word that is begun as a number, and nothing of another
abbrev pub IsDecimal : {T E : Type 0} → (List ℕ → Result T E → Type 0) → List ℕ → Option T → Type 0
IsDecimal gives w (Some n) = (begun w ≡ true) × gives w (Ok n)
IsDecimal {E = E} gives w None = begun w ≡ true → IsUtf8 w → (e : E) × gives w (Err e)

-- digits that write a number of at most `most`
abbrev pub within : ℕ → List ℕ → Option ℕ
within most w = cond (digits w && nat_le (value w) most) (Some (value w)) None

-- the number of at most `most` that a word writes in decimal
abbrev pub decimal_of : ℕ → List ℕ → Option ℕ
decimal_of most w = cond (well_led w) (within most w) None

abbrev pub at_least : ℕ → Option ℕ → Option ℕ
at_least low None = None
at_least low (Some v) = cond (nat_lt v low) None (Some v)

-- the number of low to 255 that a word writes in decimal
abbrev pub number_of : ℕ → List ℕ → Option ℕ
number_of low w = at_least low (decimal_of 255 w)
