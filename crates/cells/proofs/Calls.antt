-- The other calls on the cells: a drive of the top, a reset of all lines, jobs for a leaf; and the wiring, which stays.
use Rattle.std.proofs.Common.{◌≡◌, ℕ, zero, suc, ◌<◌, ◌≤◌, true, false, ◌⊎◌, List, length, sym, refl, ap, ◌∙◌, subst, inl, inr, arith}
use Rattle.std.proofs.lemmas.Bool.{cases_eq, both_ways}
use Rattle.joins.specs.declared.rules.Drive.{Drive}
use Rattle.cells.specs.declared.cell.Body.{Body}
use Rattle.cells.specs.declared.cell.Body.TheVariants as body
use Rattle.cells.specs.declared.cell.Cell.{Cell}
use Rattle.cells.specs.Bodies.{driven_body, answered_body, reset_body, joins_line, joins_twice}
use Rattle.cells.specs.Nests.{drive_nest, reset_nest}
use Rattle.cells.specs.Flat.{body_at, put, is_blank, drive_from, stepped, reset_to, nest_of, nest, Wired}
use Rattle.cells.proofs.Passes.{put_same, put_other, length_put, joins_first, joins_second, joins_driven, twice_driven, blank_driven, touched_wired, passed, answered}

-- two bodies wired alike
pub record Alike (b c : Body) : Type 0 where
  pub joins : (k : ℕ) → joins_line k b ≡ joins_line k c
  pub twice : joins_twice b ≡ joins_twice c
  pub blank : is_blank b ≡ is_blank c

pub wired_alike : (n : ℕ) (cs ds : List Cell) → length ds ≡ length cs → ((i : ℕ) → i < n → Alike (body_at ds i) (body_at cs i)) → Wired n cs → Wired n ds
wired_alike n cs ds long a w = record {
  fits = let f : n ≤ length cs = w.fits in omega arith;
  filled = λ j h. (a j h).blank ∙ w.filled j h;
  earlier = λ j k h e. w.earlier j k h (sym ((a j h).joins k) ∙ e);
  apart = λ j h. (a j h).twice ∙ w.apart j h;
  once = λ i j k lt h e f. w.once i j k lt h (sym ((a i (omega arith)).joins k) ∙ e) (sym ((a j h).joins k) ∙ f);
}

alike_driven : (v : Drive) (b : Body) → Alike (driven_body v b) b
alike_driven v b = record { joins = λ k. joins_driven k v b; twice = twice_driven v b; blank = blank_driven v b }

alike_answered : (b x y : Body) → Alike (answered_body b x y) b
alike_answered body.Blank x y = record { joins = λ k. refl; twice = refl; blank = refl }
alike_answered (body.Timed t) x y = record { joins = λ k. refl; twice = refl; blank = refl }
alike_answered (body.Work t) x y = record { joins = λ k. refl; twice = refl; blank = refl }
alike_answered (body.Join k a b q) x y = record { joins = λ k. refl; twice = refl; blank = refl }

alike_reset : (b : Body) → Alike (reset_body b) b
alike_reset body.Blank = record { joins = λ k. refl; twice = refl; blank = refl }
alike_reset (body.Timed t) = record { joins = λ k. refl; twice = refl; blank = refl }
alike_reset (body.Work t) = record { joins = λ k. refl; twice = refl; blank = refl }
alike_reset (body.Join k a b q) = record { joins = λ k. refl; twice = refl; blank = refl }

alike_at : (b c : Body) → b ≡ c → (d : Body) → Alike c d → Alike b d
alike_at b c e d a = subst (λ z. Alike z d) (sym e) a

alike_same : (b : Body) → Alike b b
alike_same b = record { joins = λ k. refl; twice = refl; blank = refl }

-- a step keeps the wiring
pub stepped_wired : (n : ℕ) (cs : List Cell) → Wired n cs → Wired n (stepped n cs)
stepped_wired n cs w =
    let p = passed n cs w in
    let v : Wired n (drive_from n cs) = touched_wired n n cs _ (omega arith) p.long p.touched w in
    let q = answered n (drive_from n cs) v in
    wired_alike n (drive_from n cs) _ q.long
    (λ i h. alike_at _ _ (q.done i h) (body_at (drive_from n cs) i) (alike_answered _ _ _)) v

-- lines that are the same have the same nested trees above them
pub nest_frame : (n f i : ℕ) (cs ds : List Cell) → Wired n cs → i < n → ((j : ℕ) → j ≤ i → body_at ds j ≡ body_at cs j) → nest f ds i ≡ nest f cs i
unfolding nest
nest_frame n zero i cs ds w h e = refl
nest_frame n (suc f) i cs ds w h e =
    ap (λ b. nest_of b (nest f ds)) (e i (omega arith)) ∙ by (body_at cs i) (λ k j. w.earlier i k h j)
    (λ k l. nest_frame n f k cs ds w (omega arith) (λ j m. e j (omega arith)))
  where
    by : (b : Body) → ((k : ℕ) → joins_line k b ≡ true → k < i) → ((k : ℕ) → k < i → nest f ds k ≡ nest f cs k) → nest_of b (nest f ds) ≡ nest_of b (nest f cs)
    by body.Blank below same = refl
    by (body.Timed t) below same = refl
    by (body.Work t) below same = refl
    by (body.Join k a b q) below same =
        rw (same a (below a (joins_first (body.Join k a b q) refl)), same b (below b (joins_second (body.Join k a b q) refl)))

-- the top line, driven
pub top_drives : (t : ℕ) (v : Drive) (cs : List Cell) → Wired (suc t) cs
    → nest (suc t) (put cs t (driven_body v (body_at cs t))) t ≡ drive_nest v (nest (suc t) cs t)
unfolding nest
top_drives t v cs w =
    let ds = put cs t (driven_body v (body_at cs t)) in
    let l : t < length cs = w.fits in
    ap (λ b. nest_of b (nest t ds)) (put_same cs t _ l) ∙ by (body_at cs t) (λ k j. w.earlier t k (omega arith) j) (w.filled t (omega arith))
    (λ k h. nest_frame (suc t) t k cs ds w (omega arith) (λ j m. put_other cs t j _ (λ z. let q : ⊥ = omega arith in q)))
  where
    by : (b : Body) → ((k : ℕ) → joins_line k b ≡ true → k < t) → is_blank b ≡ false
        → ((k : ℕ) → k < t → nest t (put cs t (driven_body v (body_at cs t))) k ≡ nest t cs k)
        → nest_of (driven_body v b) (nest t (put cs t (driven_body v (body_at cs t)))) ≡ drive_nest v (nest_of b (nest t cs))
    by body.Blank below e same = let z : ⊥ = both_ways true e refl in elim z [ ]
    by (body.Timed u) below e same = refl
    by (body.Work u) below e same = refl
    by (body.Join k a b q) below e same =
        rw (same a (below a (joins_first (body.Join k a b q) refl)), same b (below b (joins_second (body.Join k a b q) refl)))

pub put_wired : (n i : ℕ) (cs : List Cell) (b : Body) → i < n → Alike b (body_at cs i) → Wired n cs → Wired n (put cs i b)
put_wired n i cs b h a w =
    wired_alike n cs _ (length_put cs i b) (λ j l. by j (cases_eq j i)) w
  where
    by : (j : ℕ) → (j ≡ i) ⊎ (j ≡ i → ⊥) → Alike (body_at (put cs i b) j) (body_at cs j)
    by j (inl e) = subst (λ k. Alike (body_at (put cs i b) k) (body_at cs k)) (sym e)
        (alike_at _ b (put_same cs i b (let f : n ≤ length cs = w.fits in omega arith)) (body_at cs i) a)
    by j (inr e) = alike_at _ _ (put_other cs i j b e) (body_at cs j) (alike_same (body_at cs j))

pub driven_wired : (n i : ℕ) (v : Drive) (cs : List Cell) → i < n → Wired n cs → Wired n (put cs i (driven_body v (body_at cs i)))
driven_wired n i v cs h w = put_wired n i cs _ h (alike_driven v (body_at cs i)) w

-- a reset of the first n lines
pub record ResetAll (n : ℕ) (cs ds : List Cell) : Type 0 where
  pub long : length ds ≡ length cs
  pub done : (i : ℕ) → i < n → body_at ds i ≡ reset_body (body_at cs i)
  pub rest : (i : ℕ) → n ≤ i → body_at ds i ≡ body_at cs i

pub reset_all : (n : ℕ) (cs : List Cell) → n ≤ length cs → ResetAll n cs (reset_to n cs)
unfolding reset_to
reset_all zero cs le = record { long = refl; done = λ i h. let z : ⊥ = omega arith in elim z [ ]; rest = λ i h. refl }
reset_all (suc n) cs le =
    let r = reset_all n cs (omega arith) in
    let ds = reset_to n cs in
    let b = reset_body (body_at ds n) in
    record {
      long = length_put ds n b ∙ r.long;
      done = λ i h. by i h (cases_eq i n) r;
      rest = λ i h. put_other ds n i b (λ z. let q : ⊥ = omega arith in q) ∙ r.rest i (omega arith);
    }
  where
    by : (i : ℕ) → i < suc n → (i ≡ n) ⊎ (i ≡ n → ⊥) → ResetAll n cs (reset_to n cs)
        → body_at (put (reset_to n cs) n (reset_body (body_at (reset_to n cs) n))) i ≡ reset_body (body_at cs i)
    by i h (inl e) r = subst (λ k. body_at (put (reset_to n cs) n (reset_body (body_at (reset_to n cs) n))) k ≡ reset_body (body_at cs k)) (sym e)
        (put_same (reset_to n cs) n _ (let l : length (reset_to n cs) ≡ length cs = r.long in omega arith)
        ∙ ap reset_body (r.rest n (omega arith)))
    by i h (inr e) r = put_other (reset_to n cs) n i _ e ∙ r.done i (omega arith)

pub reset_wired : (n : ℕ) (cs ds : List Cell) → ResetAll n cs ds → Wired n cs → Wired n ds
reset_wired n cs ds r w =
    wired_alike n cs ds r.long (λ i h. alike_at _ _ (r.done i h) (body_at cs i) (alike_reset (body_at cs i))) w

pub nest_resets : (n f i : ℕ) (cs ds : List Cell) → Wired n cs → ResetAll n cs ds → i < n → i < f → nest f ds i ≡ reset_nest (nest f cs i)
unfolding nest
nest_resets n zero i cs ds w r h l = let z : ⊥ = omega arith in elim z [ ]
nest_resets n (suc f) i cs ds w r h l =
    ap (λ b. nest_of b (nest f ds)) (r.done i h) ∙ by (body_at cs i) (λ k j. w.earlier i k h j) (w.filled i h)
    (λ k m. nest_resets n f k cs ds w r (omega arith) (omega arith))
  where
    by : (b : Body) → ((k : ℕ) → joins_line k b ≡ true → k < i) → is_blank b ≡ false
        → ((k : ℕ) → k < i → nest f ds k ≡ reset_nest (nest f cs k)) → nest_of (reset_body b) (nest f ds) ≡ reset_nest (nest_of b (nest f cs))
    by body.Blank below e same = let z : ⊥ = both_ways true e refl in elim z [ ]
    by (body.Timed t) below e same = refl
    by (body.Work t) below e same = refl
    by (body.Join k a b q) below e same =
        rw (same a (below a (joins_first (body.Join k a b q) refl)), same b (below b (joins_second (body.Join k a b q) refl)))
