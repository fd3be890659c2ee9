-- The flat tree is the nested one: a step, a drive of the top and a reset of the cells are those of the nested tree.
use Rattle.std.proofs.Common.{◌≡◌, ℕ, zero, suc, ◌<◌, true, false, List, sym, refl, ap, ◌∙◌, subst, arith}
use Rattle.std.proofs.lemmas.Bool.{both_ways}
use Rattle.channel.specs.declared.end.QEnd.{QEnd}
use Rattle.joins.specs.declared.rules.Kind.{Kind}
use Rattle.joins.specs.declared.rules.Drive.{Drive}
use Rattle.joins.specs.declared.rules.Drive.TheVariants.{Nothing}
use Rattle.cells.specs.declared.cell.Body.{Body}
use Rattle.cells.specs.declared.cell.Body.TheVariants as body
use Rattle.cells.specs.declared.cell.Cell.{Cell}
use Rattle.cells.specs.Bodies.{body_phase, body_denier, driven_end, driven_body, answered_body, to_first, to_second, joins_line}
use Rattle.cells.specs.Nests.{Nest, nest_means, wish_first, wish_second, settle, turn}
use Rattle.cells.specs.Flat.{body_at, first_of, second_of, is_join, is_blank, drive_from, stepped, nest_of, nest, Wired}
use Rattle.cells.proofs.Passes.{joins_first, joins_second, none_driven, touched_wired, Passed, passed, Answered, answered}

-- a line's phase and denier are its nested tree's
phase_of : (b : Body) (f : ℕ → Nest) → is_blank b ≡ false → (nest_means (nest_of b f)).phase ≡ body_phase b
phase_of body.Blank f e = let z : ⊥ = both_ways true e refl in elim z [ ]
phase_of (body.Timed t) f e = refl
phase_of (body.Work w) f e = refl
phase_of (body.Join k a b q) f e = refl

denier_of : (b : Body) (f : ℕ → Nest) → is_blank b ≡ false → (nest_means (nest_of b f)).denier ≡ body_denier b
denier_of body.Blank f e = let z : ⊥ = both_ways true e refl in elim z [ ]
denier_of (body.Timed t) f e = refl
denier_of (body.Work w) f e = refl
denier_of (body.Join k a b q) f e = refl

pub nest_phase : (n : ℕ) (cs : List Cell) (i : ℕ) → 0 < n → is_blank (body_at cs i) ≡ false → (nest_means (nest n cs i)).phase ≡ body_phase (body_at cs i)
unfolding nest
nest_phase zero cs i h e = let z : ⊥ = omega arith in elim z [ ]
nest_phase (suc n) cs i h e = phase_of (body_at cs i) (nest n cs) e

pub nest_denier : (n : ℕ) (cs : List Cell) (i : ℕ) → 0 < n → is_blank (body_at cs i) ≡ false → (nest_means (nest n cs i)).denier ≡ body_denier (body_at cs i)
unfolding nest
nest_denier zero cs i h e = let z : ⊥ = omega arith in elim z [ ]
nest_denier (suc n) cs i h e = denier_of (body_at cs i) (nest n cs) e

answered_blank : (b x y : Body) → is_blank (answered_body b x y) ≡ is_blank b
answered_blank body.Blank x y = refl
answered_blank (body.Timed t) x y = refl
answered_blank (body.Work w) x y = refl
answered_blank (body.Join k a b q) x y = refl

driven_blank : (w : Drive) (b : Body) → is_blank (driven_body w b) ≡ is_blank b
driven_blank w body.Blank = refl
driven_blank w (body.Timed t) = refl
driven_blank w (body.Work v) = refl
driven_blank w (body.Join k a b q) = refl

settled : (k : Kind) (q : QEnd) (x y u v : Nest) → x ≡ u → y ≡ v → settle k q x y ≡ settle k q u v
settled k q x y u v e f = rw (e, f)

-- the cells before a step, between its passes and after it
module _ (n : ℕ) (cs ms ds : List Cell) (w : Wired n cs) (p : Passed n cs ms) (q : Answered n ms ds) where
  ms_filled : (i : ℕ) → i < n → is_blank (body_at ms i) ≡ false
  ms_filled i h = let t = p.touched i in ap is_blank t.1 ∙ (driven_blank t.0 (body_at cs i) ∙ w.filled i h)

  ds_filled : (i : ℕ) → i < n → is_blank (body_at ds i) ≡ false
  ds_filled i h = ap is_blank (q.done i h) ∙ (answered_blank (body_at ms i) _ _ ∙ ms_filled i h)

  -- one line, by what it is, its devices having turned
  one_line : (f : ℕ) (i : ℕ) → i < n → (v : Drive) (b : Body) → body_at cs i ≡ b → body_at ms i ≡ driven_body v b
      → (is_join b ≡ true → 0 < f)
      → (is_join b ≡ true → nest f ds (first_of b) ≡ turn (to_first (driven_body v b) (body_phase (body_at cs (first_of b))) (body_phase (body_at cs (second_of b)))) (nest f cs (first_of b)))
      → (is_join b ≡ true → nest f ds (second_of b) ≡ turn (to_second (driven_body v b) (body_phase (body_at cs (first_of b))) (body_phase (body_at cs (second_of b)))) (nest f cs (second_of b)))
      → nest_of (body_at ds i) (nest f ds) ≡ turn v (nest_of b (nest f cs))
  one_line f i h v body.Blank e m pos fa fb = let z : ⊥ = both_ways true (ap is_blank (sym e) ∙ w.filled i h) refl in elim z [ ]
  one_line f i h v (body.Timed t) e m pos fa fb =
      ap (λ b. nest_of b (nest f ds)) (q.done i h ∙ ap (λ b. answered_body b (body_at ds (first_of b)) (body_at ds (second_of b))) m)
  one_line f i h v (body.Work t) e m pos fa fb =
      ap (λ b. nest_of b (nest f ds)) (q.done i h ∙ ap (λ b. answered_body b (body_at ds (first_of b)) (body_at ds (second_of b))) m)
  one_line f i h v (body.Join k a b r) e m pos fa fb =
      let la : a < i = w.earlier i a h (ap (joins_line a) e ∙ joins_first (body.Join k a b r) refl) in
      let lb : b < i = w.earlier i b h (ap (joins_line b) e ∙ joins_second (body.Join k a b r) refl) in
      let xa : (nest_means (nest f cs a)).phase ≡ body_phase (body_at cs a) = nest_phase f cs a (pos refl) (w.filled a (omega arith)) in
      let xb : (nest_means (nest f cs b)).phase ≡ body_phase (body_at cs b) = nest_phase f cs b (pos refl) (w.filled b (omega arith)) in
      let ya : (nest_means (nest f ds a)).phase ≡ body_phase (body_at ds a) = nest_phase f ds a (pos refl) (ds_filled a (omega arith)) in
      let yb : (nest_means (nest f ds b)).phase ≡ body_phase (body_at ds b) = nest_phase f ds b (pos refl) (ds_filled b (omega arith)) in
      let za : (nest_means (nest f ds a)).denier ≡ body_denier (body_at ds a) = nest_denier f ds a (pos refl) (ds_filled a (omega arith)) in
      let zb : (nest_means (nest f ds b)).denier ≡ body_denier (body_at ds b) = nest_denier f ds b (pos refl) (ds_filled b (omega arith)) in
      let now-is : nest_of (body_at ds i) (nest f ds) ≡ settle k (driven_end v r) (nest f ds a) (nest f ds b) =
      ap (λ c. nest_of c (nest f ds)) (q.done i h ∙ ap (λ c. answered_body c (body_at ds (first_of c)) (body_at ds (second_of c))) m)
      ∙ rw (← ya, ← yb, ← za, ← zb) refl in
      let ta : nest f ds a ≡ turn (wish_first k (driven_end v r) (nest f cs a) (nest f cs b)) (nest f cs a) = rw (xa, xb) (fa refl) in
      let tb : nest f ds b ≡ turn (wish_second k (driven_end v r) (nest f cs a) (nest f cs b)) (nest f cs b) = rw (xa, xb) (fb refl) in
      now-is ∙ settled k (driven_end v r) _ _ _ _ ta tb

  -- a line that was driven by v has turned by v
  line_turns : (f i : ℕ) → i < f → i < n → (v : Drive) → body_at ms i ≡ driven_body v (body_at cs i) → nest f ds i ≡ turn v (nest f cs i)
  unfolding nest
  line_turns zero i lt h v m = let z : ⊥ = omega arith in elim z [ ]
  line_turns (suc f) i lt h v m =
      let b = body_at cs i in
      let below = λ (k : ℕ) (e : joins_line k b ≡ true). w.earlier i k h e in
      one_line f i h v b refl m
      (λ e. let z : first_of b < i = below (first_of b) (joins_first b e) in omega arith)
      (λ e. let z : first_of b < i = below (first_of b) (joins_first b e) in
      line_turns f (first_of b) (omega arith) (omega arith) _
      (subst (λ c. body_at ms (first_of b) ≡ driven_body (to_first c (body_phase (body_at cs (first_of b))) (body_phase (body_at cs (second_of b)))) (body_at cs (first_of b))) m
      (p.first i h e)))
      (λ e. let z : second_of b < i = below (second_of b) (joins_second b e) in
      line_turns f (second_of b) (omega arith) (omega arith) _
      (subst (λ c. body_at ms (second_of b) ≡ driven_body (to_second c (body_phase (body_at cs (first_of b))) (body_phase (body_at cs (second_of b)))) (body_at cs (second_of b))) m
      (p.second i h e)))

-- a step of the cells is a step of the nested tree at their last line
pub top_steps : (t : ℕ) (cs : List Cell) → Wired (suc t) cs → nest (suc t) (stepped (suc t) cs) t ≡ turn Nothing (nest (suc t) cs t)
top_steps t cs w =
    let p = passed (suc t) cs w in
    let v : Wired (suc t) (drive_from (suc t) cs) = touched_wired (suc t) (suc t) cs _ (omega arith) p.long p.touched w in
    let q = answered (suc t) (drive_from (suc t) cs) v in
    line_turns (suc t) cs _ _ w p q (suc t) t (omega arith) (omega arith) Nothing
    (p.free t (λ j h e. let z : t < j = w.earlier j t h e in omega arith) ∙ sym (none_driven (body_at cs t)))
