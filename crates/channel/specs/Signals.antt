-- The three signals of a channel, and the changes that turn just one of them.
use Rattle.std.specs.Prelude.{◌≡◌, ℕ, ◌+◌, Bool, true, false, List, [], ◌∷◌}

-- the levels of the controller's signal and of the device's two
abbrev pub Levels : Type 0
Levels = Bool × Bool × Bool

-- 1 where a signal's two levels differ
abbrev pub turns : Bool → Bool → ℕ
turns true true = 0
turns true false = 1
turns false true = 1
turns false false = 0

-- how many of the three signals differ
abbrev pub turned : Levels → Levels → ℕ
turned a b = turns a.0 b.0 + turns a.1 b.1 + turns a.2 b.2

-- an allowed change turns just one signal
abbrev pub TurnsOne : {S : Type 0} → (S → Levels) → (S → S → Bool) → S → S → Type 0
TurnsOne levels allowed p q = allowed p q ≡ true → turned (levels p) (levels q) ≡ 1

-- a level as a digit
abbrev pub digit_of : Bool → ℕ
digit_of true = 49
digit_of false = 48

abbrev pub digits_of : Levels → List ℕ
digits_of l = digit_of l.0 ∷ digit_of l.1 ∷ digit_of l.2 ∷ []
