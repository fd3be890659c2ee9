-- What an unsigned type reads of a word is the number that the word writes. Assumes nothing.
use Rattle.std.proofs.Common.{◌≡◌, ℕ, zero, suc, ◌+◌, ◌^◌, ◌<◌, Bool, true, false, cond, ◌&&◌, leb, List, [], ◌∷◌, length, get_or, Some, None, Ok, Err, Option, Result, sym, refl, ap, ◌∙◌, arith}
use Rattle.std.specs.declared.num.ParseIntError.{ParseIntError}
use Rattle.std.specs.Str.Parse.{ParsesUnsigned, ExplainsUnsignedError, HasUnsignedDigitsIfOk}
use Rattle.std.specs.Str.{IsAscii}
use Rattle.std.proofs.lemmas.Bool.{and_parts, and_from, leb-true, le-leb, cond-true}
use Rattle.std.proofs.lemmas.Str.Parse.{parse_plain, parse_digits}
use Rattle.std.proofs.lemmas.Str.{IsUtf8-from_ascii}
use Rattle.words.specs.Numbers.{digit, digits, value, well_led, begun, decimal_of, IsDecimal}
use Rattle.words.proofs.Written.{own}

begun_plain : (w : List ℕ) → begun w ≡ true → get_or w 0 0 ≡ 43 → ⊥
begun_plain [] b e = omega arith
begun_plain (c ∷ cs) b e = let d = leb-true 48 c (and_parts (leb 48 c) (leb c 57) (and_parts (digit c) (well_led (c ∷ cs)) b).0).0 in omega arith

begun_some : (w : List ℕ) → begun w ≡ true → 0 < length w
begun_some [] b = let z : ◌≡◌ {A = ℕ} 0 1 = cc in absurd (omega arith)
begun_some (c ∷ cs) b = omega arith

begun_from : (w : List ℕ) → digits w ≡ true → well_led w ≡ true → begun w ≡ true
begun_from [] d l = l
begun_from (c ∷ cs) d l = and_from (digit c) (well_led (c ∷ cs)) (and_parts (digit c) (digits cs) d).0 l

led_from : (w : List ℕ) → begun w ≡ true → well_led w ≡ true
led_from [] b = b
led_from (c ∷ cs) b = (and_parts (digit c) (well_led (c ∷ cs)) b).1

digits_ascii : (w : List ℕ) → digits w ≡ true → IsAscii w
digits_ascii [] d i = omega arith
digits_ascii (c ∷ cs) d zero = let e = leb-true c 57 (and_parts (leb 48 c) (leb c 57) (and_parts (digit c) (digits cs) d).0).1 in omega arith
digits_ascii (c ∷ cs) d (suc i) = digits_ascii cs (and_parts (digit c) (digits cs) d).1 i

-- what an unsigned type of k bits reads
abbrev pub Reads : ℕ → List ℕ → Result ℕ ParseIntError → Type 0
Reads k w r = ParsesUnsigned k 10 w r × ExplainsUnsignedError 10 w r × HasUnsignedDigitsIfOk w r

pub is_decimal : (k most : ℕ) → 2 ^ k ≡ most + 1 → (w : List ℕ) (o : Option ℕ) → IsDecimal (Reads k) w o → o ≡ decimal_of most w
is_decimal k most size w (Some n) h =
    let p = parse_plain own {E = ParseIntError} k w (Ok n) h.1.0 (begun_plain w h.0) in
    let small : value w < 2 ^ k = p.0.2 in
    ap Some p.1 ∙ sym (cond-true (digits w && leb (value w) most) _ _ (and_from _ _ p.0.0 (le-leb _ _ (omega arith)))) ∙ sym (cond-true (well_led w) _ _ (led_from w h.0))
is_decimal k most size w None h = by (well_led w) refl (digits w) refl
  where
    by : (a : Bool) → well_led w ≡ a → (b : Bool) → digits w ≡ b → None ≡ cond a (cond (b && leb (value w) most) (Some (value w)) None) None
    by false l b d = refl
    by true l false d = refl
    by true l true d =
        let e = h (begun_from w d l) (IsUtf8-from_ascii w (digits_ascii w d)) in
        let no = parse_digits own k w (Err e.0) e.1.0 d in
        large (leb (value w) most) refl (λ s. no (begun_some w (begun_from w d l), s))
      where
        large : (t : Bool) → leb (value w) most ≡ t → (value w < 2 ^ k → ⊥) → None ≡ cond t (Some (value w)) None
        large true q f = absurd (f (let s = leb-true _ _ q in omega arith))
        large false q f = refl
