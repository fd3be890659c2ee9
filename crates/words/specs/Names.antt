-- Names: 1 to 12 bytes of a to z and 0 to 9, a letter first. Assumes nothing.
use Rattle.std.specs.Prelude.{ℕ, Bool, false, ◌&&◌, ◌||◌, List, [], ◌∷◌, length, nat_le}
use Rattle.std.specs.List.{list_all}
use Rattle.words.specs.declared.short.Short.{Short}
use Rattle.words.specs.Numbers.{digit}
use Rattle.words.specs.Shorts.{short_of, short_text}

abbrev pub letter : ℕ → Bool
letter c = nat_le 97 c && nat_le c 122

abbrev pub letters_digits : List ℕ → Bool
letters_digits w = list_all (λ c. letter c || digit c) w

abbrev pub legal : List ℕ → Bool
legal [] = false
legal (c ∷ cs) = letter c && (nat_le (length (c ∷ cs)) 12 && letters_digits (c ∷ cs))

-- the first 12 bytes of a word as they are stored, with zeros behind them
abbrev pub name_of : List ℕ → Short 12
name_of w = short_of 12 w

-- the bytes of a stored name
abbrev pub text_of : Short 12 → List ℕ
text_of n = short_text n
