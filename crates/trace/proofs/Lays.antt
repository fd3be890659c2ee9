-- Lines laid one behind the other.
use Rattle.std.proofs.Common.{◌≡◌, ℕ, ◌+◌, ◌<◌, ◌≤◌, leb, List, [], ◌∷◌, ◌++◌, length, get_or, take, map, sym, refl, ap, ◌∙◌, add-zero, add_assoc, arith, length-append}
use Rattle.std.specs.Borrow.{Bor}
use Rattle.std.specs.List.{concat, flat_map}
use Rattle.std.proofs.lemmas.List.{take_more, take_all, flat_map_more}
use Rattle.std.proofs.lemmas.List.Folds.{length-flat_map-take}
use Rattle.trace.specs.declared.sheet.Sheet as declared
use Rattle.trace.specs.Texts.{parts_line}
use Rattle.trace.specs.Written.{written, IsSame, Adds}
use lib.Seq.{paste, length-paste, paste-zero}
use Rattle.std.proofs.lemmas.List.Edits.{paste-paste}
use Rattle.std.proofs.lemmas.Bool.{cond-true, cond-false, le-leb, lt-leb}
use Rattle.trace.specs.Sheets.{Sheet, sheet, laid, line_onto, onto, joined}

-- bytes laid behind bytes just laid
pub laid_laid : (out : List ℕ) (at : ℕ) (bs cs : List ℕ) → at ≤ length out → laid (laid out at bs) (at + length bs) cs ≡ laid out at (bs ++ cs)
laid_laid out at bs cs h =
    paste-paste out at bs cs (length bs) (length cs) refl refl h ∙ ap (λ n. paste out at (bs ++ cs) n) (sym (length-append bs cs))

-- one write: the bytes, and the place behind them
pub record Wrote (out : List ℕ) (at : ℕ) (bs out' : List ℕ) (r : ℕ) : Type 0 where
  pub bytes : out' ≡ laid out at bs
  pub ends : r ≡ at + length bs

pub wrote_more : (out : List ℕ) (at : ℕ) (bs : List ℕ) (a : List ℕ) (p : ℕ) (cs b : List ℕ) (q : ℕ) → at ≤ length out
    → Wrote out at bs a p → b ≡ laid a p cs → q ≡ p + length cs → Wrote out at (bs ++ cs) b q
wrote_more out at bs a p cs b q h w e f = record {
  bytes = e ∙ (ap (λ x. laid x p cs) w.bytes ∙ (ap (λ k. laid (laid out at bs) k cs) w.ends ∙ laid_laid out at bs cs h));
  ends = f ∙ (ap (λ k. k + length cs) w.ends ∙ (add_assoc at (length bs) (length cs) ∙ ap (λ k. at + k) (sym (length-append bs cs))));
}

pub wrote_line : (out : List ℕ) (at : ℕ) (l out' : List ℕ) (r : ℕ) → at + length l ≤ length out → Wrote out at l out' r
    → sheet out' r ≡ line_onto (sheet out at) l
unfolding line_onto
wrote_line out at l out' r h w =
    (λ i. sheet (w.bytes i) (w.ends i)) ∙ sym (cond-true (leb (at + length l) (length out)) (sheet (laid out at l) (at + length l)) (sheet out at) (le-leb _ _ h))

pub no_room : (out : List ℕ) (at : ℕ) (l : List ℕ) → length out < at + length l → sheet out at ≡ line_onto (sheet out at) l
unfolding line_onto
no_room out at l h = sym (cond-false (leb (at + length l) (length out)) (sheet (laid out at l) (at + length l)) (sheet out at) (lt-leb _ _ h))

-- lines behind lines
pub onto_more : (s : Sheet) (ls ms : List (List ℕ)) → onto s (ls ++ ms) ≡ onto (onto s ls) ms
unfolding onto
onto_more s [] ms = refl
onto_more s (l ∷ ls) ms = onto_more (line_onto s l) ls ms

pub onto_one : (s : Sheet) (l : List ℕ) → onto s (l ∷ []) ≡ line_onto s l
unfolding onto
onto_one s l = refl

pub onto_none : (s : Sheet) → onto s [] ≡ s
unfolding onto
onto_none s = refl

pub line_fits : (out : List ℕ) (at : ℕ) (l : List ℕ) → at + length l ≤ length out → line_onto (sheet out at) l ≡ sheet (laid out at l) (at + length l)
unfolding line_onto
line_fits out at l h = cond-true (leb (at + length l) (length out)) (sheet (laid out at l) (at + length l)) (sheet out at) (le-leb _ _ h)

-- lines that have room stand there, all of them
pub onto_fits : (out : List ℕ) (at : ℕ) (ls : List (List ℕ)) → at + length (joined ls) ≤ length out
    → onto (sheet out at) ls ≡ sheet (laid out at (joined ls)) (at + length (joined ls))
unfolding onto
onto_fits out at [] h = λ i. sheet (paste-zero out at [] i) (sym (add-zero at) i)
onto_fits out at (l ∷ ls) h =
    let n : length (l ++ joined ls) ≡ length l + length (joined ls) = length-append l (joined ls) in
    let f : at + length l ≤ length out = omega arith in
    let k : length (laid out at l) ≡ length out = length-paste out at l (length l) f (omega arith) in
    ap (λ s. onto s ls) (line_fits out at l f)
    ∙ (onto_fits (laid out at l) (at + length l) ls (omega arith)
    ∙ (let e : at + length l + length (joined ls) ≡ at + length (l ++ joined ls) = omega arith in
    λ i. sheet (laid_laid out at l (joined ls) (omega arith) i) (e i)))

-- the parts of a line, and one part more
pub part_more : (ps : List (Bor (List ℕ))) (i : ℕ) (d : Bor (List ℕ)) → i < length ps
    → flat_map (λ p. p.now) (take (i + 1) ps) ≡ flat_map (λ p. p.now) (take i ps) ++ (get_or ps i d).now
part_more ps i d h = ap (flat_map (λ p. p.now)) (take_more ps i d h) ∙ sym (flat_map_more (λ p. p.now) [] (take i ps) (get_or ps i d))

pub parts_flat : (ps : List (Bor (List ℕ))) → concat (map (λ p. p.now) ps) ≡ flat_map (λ p. p.now) ps
parts_flat [] = refl
parts_flat (p ∷ ps) = ap (λ l. p.now ++ l) (parts_flat ps)

-- what is written keeps the buffer's length
pub wrote_long : (out : List ℕ) (at : ℕ) (bs a : List ℕ) (p : ℕ) → at + length bs ≤ length out → Wrote out at bs a p → length a ≡ length out
wrote_long out at bs a p h w = ap length w.bytes ∙ length-paste out at bs (length bs) h (omega arith)

-- how long the first parts and one more are, and that all parts are the parts
pub part_room : (ps : List (Bor (List ℕ))) (i : ℕ) (d : Bor (List ℕ)) → i < length ps
    → length (flat_map (λ p. p.now) (take i ps)) + length (get_or ps i d).now ≤ length (flat_map (λ p. p.now) ps)
part_room ps i d h = length-flat_map-take (λ p. p.now) ps i d h

pub parts_taken : (ps : List (Bor (List ℕ))) (i : ℕ) → length ps ≤ i → flat_map (λ p. p.now) (take i ps) ≡ flat_map (λ p. p.now) ps
parts_taken ps i h = ap (flat_map (λ p. p.now)) (take_all i ps h)

pub same_then : (s t u : declared.Sheet) → IsSame s t → IsSame t u → IsSame s u
same_then s t u e f = record { tick = f.tick ∙ e.tick; buffer = f.buffer ∙ e.buffer }

-- how long a line of five parts is
pub parts_long : (a b c d e : List ℕ) → length (parts_line (a ∷ b ∷ c ∷ d ∷ e ∷ [])) ≡ length a + length b + length c + length d + length e + 1
parts_long a b c d e = simp length-append (omega arith)

-- lines added to a sheet
pub adds_none : (s : declared.Sheet) → Adds s s []
unfolding onto
adds_none s = record { lines = refl; same = record { tick = refl; buffer = refl } }

pub adds_one : (s t : declared.Sheet) (l : List ℕ) → written t ≡ line_onto (written s) l → IsSame s t → Adds s t (l ∷ [])
unfolding onto
adds_one s t l e same = record { lines = e; same = same }

pub adds_then : (s t u : declared.Sheet) (ls ms : List (List ℕ)) → Adds s t ls → Adds t u ms → Adds s u (ls ++ ms)
adds_then s t u ls ms a b = record {
  lines = b.lines ∙ (ap (λ x. onto x ms) a.lines ∙ sym (onto_more (written s) ls ms));
  same = same_then s t u a.same b.same;
}
