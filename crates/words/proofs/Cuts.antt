-- Where a text is cut: its first line, and the rest. Assumes nothing.
use Rattle.std.proofs.Common.{◌≡◌, ℕ, suc, ◌+◌, ◌<◌, Bool, true, false, cond, not, eqb, List, [], ◌∷◌, length, take, drop, refl, ap, ◌∙◌, arith}
use Rattle.std.specs.List.{onto_first}
use Rattle.words.specs.Pieces.{lines_of, line_end}

pub lines_none : (t : List ℕ) → length t ≡ 0 → lines_of t ≡ []
unfolding lines_of
lines_none [] e = refl
lines_none (x ∷ xs) e = absurd (omega arith)

-- a text with bytes has a first line, whether it is ended or not
pub lines_at : (t : List ℕ) → 0 < length t → lines_of t ≡ take (line_end t) t ∷ lines_of (drop (line_end t + 1) t)
unfolding lines_of
lines_at [] h = absurd (omega arith)
lines_at (x ∷ xs) h = by (eqb x 10) xs (lines_at xs)
  where
    by : (e : Bool) (ys : List ℕ) → (0 < length ys → lines_of ys ≡ take (line_end ys) ys ∷ lines_of (drop (line_end ys + 1) ys)) → cond e ([] ∷ lines_of ys) (onto_first x (lines_of ys)) ≡ take (cond (not e) (1 + line_end ys) 0) (x ∷ ys) ∷ lines_of (drop (cond (not e) (1 + line_end ys) 0 + 1) (x ∷ ys))
    by true ys ih = refl
    by false [] ih = refl
    by false (y ∷ ys) ih =
        let n : ℕ = line_end (y ∷ ys) in
        let l : 0 < length (y ∷ ys) = omega arith in
        let one : suc n ≡ 1 + n = omega arith in
        let two : suc (n + 1) ≡ 1 + n + 1 = omega arith in
        ap (onto_first x) (ih l) ∙ (λ i. take (one i) (x ∷ y ∷ ys) ∷ lines_of (drop (two i) (x ∷ y ∷ ys)))
