-- A word gives back what was read of it, and the words of a line give back the line. Assumes nothing.
use Rattle.std.proofs.Common.{◌≡◌, ℕ, suc, ◌-◌, ◌^◌, ◌<◌, ◌≤◌, min, Bool, true, false, cond, not, ◌&&◌, ◌||◌, eqb, ltb, leb, List, [], ◌∷◌, ◌++◌, length, get_or, take, replicate, Some, None, decimal, Option, sym, refl, ap, ◌∙◌, subst, sub-one, arith, rules}
use Rattle.std.specs.List.{onto_first}
use Rattle.std.proofs.lemmas.List.{take_all, take_at}
use Rattle.std.proofs.lemmas.List.Splits.{join_with_byte-slice_split}
use Rattle.std.proofs.lemmas.Bool.{and_parts, leb-true, ltb-false, eqb-true, eqb-false}
use Rattle.std.proofs.lemmas.Str.Parse.{IsNumeralModel, numerals_by_fold}
use Rattle.std.proofs.lemmas.Fmt.{decimal-digits_value, length-decimal-le}
use Rattle.words.specs.Pieces.{words_of, lines_of, spaced, unlines}
use Rattle.words.specs.Numbers.{digits, value_on, value, well_led, within, decimal_of, at_least, number_of}
use Rattle.words.specs.Names.{letter, legal, name_of, text_of}
use Rattle.words.specs.Shorts.{room, short_of, short_text}
use Rattle.words.proofs.Cuts.{lines_at}

-- names

pub legal_short : (w : List ℕ) → legal w ≡ true → length w ≤ 12
legal_short [] e = omega arith
legal_short (c ∷ cs) e = leb-true _ _ (and_parts _ _ (and_parts (letter c) _ e).1).0

-- a text that is short enough is stored whole
pub text_short : (n : ℕ) (w : List ℕ) → length w ≤ n → n ≤ 255 → short_text (short_of n w) ≡ w
unfolding short_of
text_short n w h k =
    let m : min (length w) (room n) ≡ length w = omega arith in
    (λ i. take (m i) (take_all (room n) w (omega arith) i ++ replicate (n - m i) 0)) ∙ take_at w (replicate (n - length w) 0) (length w) refl

-- a name that is stored is the word
pub text_name : (w : List ℕ) → length w ≤ 12 → text_of (name_of w) ≡ w
text_name w h = text_short 12 w h (omega arith)

-- numbers

pub own : IsNumeralModel (λ ds. digits ds ≡ true) (value_on 0)
unfolding value_on
own = numerals_by_fold _ (search rules) value_on (search rules)

none≢some : {A : Type 0} {a : A} → ◌≡◌ {A = Option A} None (Some a) → ⊥
none≢some p = let z : ◌≡◌ {A = ℕ} 0 1 = cc in omega arith

-- a number is in its range, and its decimal is the word
pub record Writes (low : ℕ) (w : List ℕ) (v : ℕ) : Type 0 where
  pub least : low ≤ v
  pub most : v ≤ 255
  pub back : decimal v ≡ w

led : (w : List ℕ) → well_led w ≡ true → (0 < length w) × (get_or w 0 0 ≡ 48 → length w ≡ 1)
led [] e = let z : ◌≡◌ {A = ℕ} 0 1 = cc in absurd (omega arith)
led (c ∷ cs) e = (omega arith, λ p. by (eqb c 48) (eqb-false c 48) (eqb (length cs) 0) (eqb-true (length cs) 0) e p)
  where
    by : (a : Bool) → (a ≡ false → c ≡ 48 → ⊥) → (b : Bool) → (b ≡ true → length cs ≡ 0) → (not a || b) ≡ true → c ≡ 48 → suc (length cs) ≡ 1
    by true f true g p q = let h = g refl in omega arith
    by true f false g p q = let z : ◌≡◌ {A = ℕ} 0 1 = cc in absurd (omega arith)
    by false f b g p q = absurd (f refl q)

within_says : (most : ℕ) (w : List ℕ) (v : ℕ) → within most w ≡ Some v → (digits w ≡ true) × (value w ≡ v) × (v ≤ most)
within_says most w v e = by (digits w) refl (leb (value w) most) refl e
  where
    by : (a : Bool) → digits w ≡ a → (b : Bool) → leb (value w) most ≡ b → cond (a && b) (Some (value w)) None ≡ Some v → (digits w ≡ true) × (value w ≡ v) × (v ≤ most)
    by true p true q h = let s : value w ≡ v = cc in (p, s, omega (arith, leb-true _ _ q))
    by true p false q h = absurd (none≢some h)
    by false p b q h = absurd (none≢some h)

at_least_says : (low : ℕ) (o : Option ℕ) (v : ℕ) → at_least low o ≡ Some v → (o ≡ Some v) × (low ≤ v)
at_least_says low None v h = absurd (none≢some h)
at_least_says low (Some x) v h = by (ltb x low) refl h
  where
    by : (t : Bool) → ltb x low ≡ t → cond t None (Some x) ≡ Some v → (◌≡◌ {A = Option ℕ} (Some x) (Some v)) × (low ≤ v)
    by true q k = absurd (none≢some k)
    by false q k = let s : x ≡ v = cc in (ap Some s, omega (arith, ltb-false _ _ q))

-- a number of at most `most` that a word writes has the word for its decimal
pub decimal_says : (most : ℕ) → most < 2 ^ 64 → (w : List ℕ) (v : ℕ) → decimal_of most w ≡ Some v → (v ≤ most) × (decimal v ≡ w)
decimal_says most small w v e = by (well_led w) refl e
  where
    by : (t : Bool) → well_led w ≡ t → cond t (within most w) None ≡ Some v → (v ≤ most) × (decimal v ≡ w)
    by false p h = absurd (none≢some h)
    by true p h =
        let g = within_says most w v h in
        let l = led w p in
        let s = g.1 in
        (g.2, ap decimal (sym s) ∙ decimal-digits_value own w g.0 l.0 l.1 (omega (arith, g.2)))

-- a word that is longer than each decimal up to `most` writes none of these numbers
pub decimal_long : (k most : ℕ) → 0 < k → most < 10 ^ k → most < 2 ^ 64 → (w : List ℕ) → k < length w → decimal_of most w ≡ None
decimal_long k most some fits small w h = by (decimal_of most w) refl
  where
    by : (o : Option ℕ) → decimal_of most w ≡ o → o ≡ None
    by None e = refl
    by (Some v) e =
        let s = decimal_says most small w v e in
        absurd (omega (arith, ap length s.1, length-decimal-le k v some (omega (arith, s.0)) (omega (arith, s.0))))

pub number_says : (low : ℕ) (w : List ℕ) (v : ℕ) → number_of low w ≡ Some v → Writes low w v
number_says low w v e =
    let f = at_least_says low (decimal_of 255 w) v e in
    let s = decimal_says 255 (omega arith) w v f.0 in
    record { least = f.1; most = s.0; back = s.1 }

-- words and lines

pub spaced_words : (l : List ℕ) → spaced (words_of l) ≡ l
spaced_words l = join_with_byte-slice_split 32 l

unlines_onto : (x : ℕ) (ps : List (List ℕ)) → 0 < length ps → unlines (onto_first x ps) ≡ x ∷ unlines ps
unfolding unlines
unlines_onto x [] h = absurd (omega arith)
unlines_onto x (p ∷ ps) h = refl

-- the lines of a text that ends in byte 10, each ended by byte 10, are the text
pub unlines_lines : (t : List ℕ) → (0 < length t → get_or t (length t - 1) 0 ≡ 10) → unlines (lines_of t) ≡ t
unfolding lines_of unlines
unlines_lines [] e = refl
unlines_lines (x ∷ []) e = by (eqb x 10) (eqb-true x 10) (eqb-false x 10)
  where
    by : (t : Bool) → (t ≡ true → x ≡ 10) → (t ≡ false → x ≡ 10 → ⊥) → unlines (cond t ([] ∷ []) ((x ∷ []) ∷ [])) ≡ x ∷ []
    by true p q = ap (λ c. c ∷ []) (sym (p refl))
    by false p q = absurd (q refl (e (omega arith)))
unlines_lines (x ∷ y ∷ ys) e =
    by (eqb x 10) (eqb-true x 10)
    (unlines_lines (y ∷ ys) (λ h. ap (λ n. get_or (y ∷ ys) n 0) (sub-one (suc (length ys))) ∙ sym (ap (λ n. get_or (x ∷ y ∷ ys) n 0) (sub-one (suc (suc (length ys))))) ∙ e (omega arith)))
  where
    rest : List (List ℕ)
    rest = lines_of (y ∷ ys)

    more : 0 < length rest
    more = subst (λ ps. 0 < length ps) (sym (lines_at (y ∷ ys) (omega arith))) (omega arith)

    by : (t : Bool) → (t ≡ true → x ≡ 10) → unlines rest ≡ y ∷ ys → unlines (cond t ([] ∷ rest) (onto_first x rest)) ≡ x ∷ y ∷ ys
    by true p ih = λ i. sym (p refl) i ∷ ih i
    by false p ih = unlines_onto x rest more ∙ ap (λ r. x ∷ r) ih
