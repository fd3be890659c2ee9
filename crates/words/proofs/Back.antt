-- Words without the byte at which a text is cut come back from it, and numbers from their decimal. Assumes nothing.
use Rattle.std.proofs.Common.{◌≡◌, ℕ, suc, ◌-◌, ◌^◌, ◌<◌, ◌≤◌, Bool, true, false, not, ◌&&◌, ◌||◌, eqb, ltb, leb, List, [], ◌∷◌, ◌++◌, length, get_or, Some, decimal, sym, refl, ap, ◌∙◌, subst, ⊎_elim, sub-one, arith, rules}
use Rattle.std.specs.List.{slice_split, onto_first, AllByRecursion as All}
use Rattle.std.proofs.lemmas.Bool.{and_parts, and_from, or_cases, leb-true, le-leb, le-ltb, ne_eqb, cond-true, cond-false, cases_eq}
use Rattle.std.proofs.lemmas.Fmt.{decimal_digit, decimal_nonempty, first_decimal, digits_decimal, digits_value-decimal}
use Rattle.words.specs.Pieces.{words_of, lines_of, spaced, unlines}
use Rattle.words.specs.Numbers.{digit, digits, value, well_led, within, at_least, number_of}
use Rattle.words.specs.Names.{letter, letters_digits, legal}
use Rattle.words.proofs.Written.{own}

-- no byte of the text is b
abbrev pub Lacks : ℕ → List ℕ → Type 0
Lacks b t = All (λ x. x ≡ b → ⊥) t

pub lacks_append : (b : ℕ) (s t : List ℕ) → Lacks b s → Lacks b t → Lacks b (s ++ t)
lacks_append b [] t h k = k
lacks_append b (x ∷ s) t h k = (h.0, lacks_append b s t h.1 k)

module _ (b : ℕ) where
  eqb_refl : eqb b b ≡ true
  eqb_refl = search rules

  pub split_lacks : (p rest : List ℕ) → Lacks b p → slice_split (λ x. eqb x b) (p ++ b ∷ rest) ≡ p ∷ slice_split (λ x. eqb x b) rest
  split_lacks [] rest h = cond-true (eqb b b) _ _ eqb_refl
  split_lacks (x ∷ p) rest h = cond-false (eqb x b) _ _ (ne_eqb x b h.0) ∙ ap (onto_first x) (split_lacks p rest h.1)

  pub split_whole : (p : List ℕ) → Lacks b p → slice_split (λ x. eqb x b) p ≡ p ∷ []
  split_whole [] h = refl
  split_whole (x ∷ p) h = cond-false (eqb x b) _ _ (ne_eqb x b h.0) ∙ ap (onto_first x) (split_whole p h.1)

pub lines_lacks : (p rest : List ℕ) → Lacks 10 p → lines_of (p ++ 10 ∷ rest) ≡ p ∷ lines_of rest
unfolding lines_of
lines_lacks [] rest h = refl
lines_lacks (x ∷ p) rest h = cond-false (eqb x 10) _ _ (ne_eqb x 10 h.0) ∙ ap (onto_first x) (lines_lacks p rest h.1)

-- words with no space in them
pub words_spaced : (w : List ℕ) (ws : List (List ℕ)) → All (Lacks 32) (w ∷ ws) → words_of (spaced (w ∷ ws)) ≡ w ∷ ws
words_spaced w [] h = split_whole 32 w h.0
words_spaced w (v ∷ ws) h = split_lacks 32 w (spaced (v ∷ ws)) h.0 ∙ ap (λ r. w ∷ r) (words_spaced v ws h.1)

pub lacks_spaced : (w : List ℕ) (ws : List (List ℕ)) → All (Lacks 10) (w ∷ ws) → Lacks 10 (spaced (w ∷ ws))
lacks_spaced w [] h = h.0
lacks_spaced w (v ∷ ws) h = lacks_append 10 w (32 ∷ spaced (v ∷ ws)) h.0 ((λ e. omega arith), lacks_spaced v ws h.1)

pub lines_unlines : (ls : List (List ℕ)) → All (Lacks 10) ls → lines_of (unlines ls) ≡ ls
unfolding unlines lines_of
lines_unlines [] h = refl
lines_unlines (l ∷ ls) h = lines_lacks l (unlines ls) h.0 ∙ ap (λ r. l ∷ r) (lines_unlines ls h.1)

-- the last byte of lines
pub unlines_ended : (ls : List (List ℕ)) → 0 < length ls → (0 < length (unlines ls)) × (get_or (unlines ls) (length (unlines ls) - 1) 0 ≡ 10)
unfolding unlines
unlines_ended [] h = absurd (omega arith)
unlines_ended (l ∷ []) h = last l
  where
    last : (l : List ℕ) → (0 < length (l ++ 10 ∷ [])) × (get_or (l ++ 10 ∷ []) (length (l ++ 10 ∷ []) - 1) 0 ≡ 10)
    last [] = (omega arith, refl)
    last (x ∷ l) = let r = last l in (omega arith, before x (l ++ 10 ∷ []) r.0 r.1)
      where
        before : (x : ℕ) (t : List ℕ) → 0 < length t → get_or t (length t - 1) 0 ≡ 10 → get_or (x ∷ t) (length (x ∷ t) - 1) 0 ≡ 10
        before x [] h e = absurd (omega arith)
        before x (y ∷ t) h e = ap (λ n. get_or (x ∷ y ∷ t) n 0) (sub-one (suc (suc (length t)))) ∙ sym (ap (λ n. get_or (y ∷ t) n 0) (sub-one (suc (length t)))) ∙ e
unlines_ended (l ∷ m ∷ ls) h = behind l (10 ∷ unlines (m ∷ ls)) (omega arith) (front 10 (unlines (m ∷ ls)) (unlines_ended (m ∷ ls) (omega arith)))
  where
    front : (x : ℕ) (t : List ℕ) → (0 < length t) × (get_or t (length t - 1) 0 ≡ 10) → get_or (x ∷ t) (length (x ∷ t) - 1) 0 ≡ 10
    front x [] e = absurd (omega arith)
    front x (y ∷ t) e = ap (λ n. get_or (x ∷ y ∷ t) n 0) (sub-one (suc (suc (length t)))) ∙ sym (ap (λ n. get_or (y ∷ t) n 0) (sub-one (suc (length t)))) ∙ e.1

    behind : (l t : List ℕ) → 0 < length t → get_or t (length t - 1) 0 ≡ 10 → (0 < length (l ++ t)) × (get_or (l ++ t) (length (l ++ t) - 1) 0 ≡ 10)
    behind [] t h e = (h, e)
    behind (x ∷ l) t h e = let r = behind l t h e in (omega arith, front x (l ++ t) r)

-- bytes of names and numbers are neither spaces nor line ends

pub lacks_names : (b : ℕ) (w : List ℕ) → b < 48 → letters_digits w ≡ true → Lacks b w
lacks_names b [] h e = tt
lacks_names b (c ∷ cs) h e =
    let p = and_parts (letter c || digit c) (letters_digits cs) e in
    ((λ q. ⊎_elim (λ l. let g = leb-true 97 c (and_parts (leb 97 c) (leb c 122) l).0 in omega arith) (λ d. let g = leb-true 48 c (and_parts (leb 48 c) (leb c 57) d).0 in omega arith) (or_cases (letter c) (digit c) p.0)), lacks_names b cs h p.1)

pub lacks_digits : (b : ℕ) (w : List ℕ) → b < 48 → digits w ≡ true → Lacks b w
lacks_digits b [] h e = tt
lacks_digits b (c ∷ cs) h e =
    let p = and_parts (digit c) (digits cs) e in
    ((λ q. let g = leb-true 48 c (and_parts (leb 48 c) (leb c 57) p.0).0 in omega arith), lacks_digits b cs h p.1)

pub legal_letters : (w : List ℕ) → legal w ≡ true → letters_digits w ≡ true
legal_letters [] e = let z : ◌≡◌ {A = ℕ} 0 1 = cc in absurd (omega arith)
legal_letters (c ∷ cs) e = (and_parts (leb (length (c ∷ cs)) 12) (letters_digits (c ∷ cs)) (and_parts (letter c) _ e).1).1

pub lacks_decimal : (b v : ℕ) → b < 48 → v ≤ 255 → Lacks b (decimal v)
lacks_decimal b v h le = lacks_digits b (decimal v) h (digits_decimal own v (omega arith))

led_from : (w : List ℕ) → 0 < length w → (get_or w 0 0 ≡ 48 → length w ≡ 1) → well_led w ≡ true
led_from [] h f = absurd (omega arith)
led_from (c ∷ cs) h f = by (eqb c 48) refl
  where
    by : (t : Bool) → eqb c 48 ≡ t → (not t || eqb (length cs) 0) ≡ true
    by true e = search rules
    by false e = refl

-- a number is read back from its decimal
pub number_back : (low v : ℕ) → low ≤ v → v ≤ 255 → number_of low (decimal v) ≡ Some v
number_back low v ge le =
    ap (at_least low) (cond-true (well_led (decimal v)) _ _ led ∙ byte) ∙ cond-false (ltb v low) _ _ (le-ltb v low ge)
  where
    small : v < 2 ^ 64
    small = omega arith

    led : well_led (decimal v) ≡ true
    led = ⊎_elim (λ (e : v ≡ 0). subst (λ x. well_led (decimal x) ≡ true) (sym e) (ap well_led (decimal_digit 0 (omega arith)))) (λ (e : v ≡ 0 → ⊥). led_from (decimal v) (decimal_nonempty v small) (λ q. let f = first_decimal v (omega arith) small in absurd (omega arith))) (cases_eq v 0)

    same : value (decimal v) ≡ v
    same = digits_value-decimal own v small

    byte : within 255 (decimal v) ≡ Some v
    byte = cond-true (digits (decimal v) && leb (value (decimal v)) 255) _ _ (and_from _ _ (digits_decimal own v small) (le-leb _ _ (omega (arith, same)))) ∙ ap Some same
