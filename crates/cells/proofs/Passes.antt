-- The two passes of a step, line by line: what each cell is after them.
use Rattle.std.proofs.Common.{◌≡◌, ℕ, zero, suc, ◌<◌, ◌≤◌, Bool, true, false, eqb, ◌⊎◌, List, length, sym, refl, ap, ◌∙◌, subst, inl, inr, arith, length-set, get_or-set_other, get_or-set_same}
use Rattle.std.proofs.lemmas.Bool.{eq-eqb, cases_eq, both_ways, or_left, or_right}
use Rattle.std.proofs.lemmas.Bool.Decides.{nat_tests}
use Rattle.joins.specs.declared.rules.Drive.{Drive}
use Rattle.joins.specs.declared.rules.Drive.TheVariants.{Nothing}
use Rattle.cells.specs.declared.cell.Body.{Body}
use Rattle.cells.specs.declared.cell.Body.TheVariants as body
use Rattle.cells.specs.declared.cell.Cell.{Cell}
use Rattle.cells.specs.Bodies.{body_phase, driven_body, answered_body, to_first, to_second, joins_line, joins_twice}
use Rattle.cells.specs.Flat.{absent, at, body_at, with_body, put, first_of, second_of, is_join, is_blank, drive_pair, drive_by, drive_line, drive_from, answer_line, answer_to, Wired}

-- one write
pub length_put : (cs : List Cell) (i : ℕ) (b : Body) → length (put cs i b) ≡ length cs
unfolding put
length_put cs i b = length-set cs i _

pub put_same : (cs : List Cell) (i : ℕ) (b : Body) → i < length cs → body_at (put cs i b) i ≡ b
unfolding put
put_same cs i b h = ap (λ c. c.body) (get_or-set_same cs i (with_body (at cs i) b) absent h)

pub put_other : (cs : List Cell) (i j : ℕ) (b : Body) → (j ≡ i → ⊥) → body_at (put cs i b) j ≡ body_at cs j
unfolding put
put_other cs i j b n = ap (λ c. c.body) (get_or-set_other cs i j (with_body (at cs i) b) absent n)

-- a drive leaves the wiring of a line as it is
pub joins_driven : (k : ℕ) (w : Drive) (b : Body) → joins_line k (driven_body w b) ≡ joins_line k b
joins_driven k w body.Blank = refl
joins_driven k w (body.Timed t) = refl
joins_driven k w (body.Work v) = refl
joins_driven k w (body.Join z a b q) = refl

pub twice_driven : (w : Drive) (b : Body) → joins_twice (driven_body w b) ≡ joins_twice b
twice_driven w body.Blank = refl
twice_driven w (body.Timed t) = refl
twice_driven w (body.Work v) = refl
twice_driven w (body.Join z a b q) = refl

pub blank_driven : (w : Drive) (b : Body) → is_blank (driven_body w b) ≡ is_blank b
blank_driven w body.Blank = refl
blank_driven w (body.Timed t) = refl
blank_driven w (body.Work v) = refl
blank_driven w (body.Join z a b q) = refl

pub join_driven : (w : Drive) (b : Body) → is_join (driven_body w b) ≡ is_join b
join_driven w body.Blank = refl
join_driven w (body.Timed t) = refl
join_driven w (body.Work v) = refl
join_driven w (body.Join z a b q) = refl

pub first_driven : (w : Drive) (b : Body) → first_of (driven_body w b) ≡ first_of b
first_driven w body.Blank = refl
first_driven w (body.Timed t) = refl
first_driven w (body.Work v) = refl
first_driven w (body.Join z a b q) = refl

pub second_driven : (w : Drive) (b : Body) → second_of (driven_body w b) ≡ second_of b
second_driven w body.Blank = refl
second_driven w (body.Timed t) = refl
second_driven w (body.Work v) = refl
second_driven w (body.Join z a b q) = refl

pub none_driven : (b : Body) → driven_body Nothing b ≡ b
none_driven body.Blank = refl
none_driven (body.Timed t) = refl
none_driven (body.Work v) = refl
none_driven (body.Join z a b q) = refl

-- a join joins its first and its second
pub joins_first : (b : Body) → is_join b ≡ true → joins_line (first_of b) b ≡ true
joins_first body.Blank e = e
joins_first (body.Timed t) e = e
joins_first (body.Work v) e = e
joins_first (body.Join z a b q) e = or_left (eqb a a) (eqb b a) (eq-eqb a a refl)

pub joins_second : (b : Body) → is_join b ≡ true → joins_line (second_of b) b ≡ true
joins_second body.Blank e = e
joins_second (body.Timed t) e = e
joins_second (body.Work v) e = e
joins_second (body.Join z a b q) e = or_right (eqb a b) (eqb b b) (eq-eqb b b refl)

-- and no other line
pub joins_none : (b : Body) (i : ℕ) → joins_line i b ≡ false → is_join b ≡ true → (i ≡ first_of b → ⊥) × (i ≡ second_of b → ⊥)
joins_none b i n e = (
  (λ z. both_ways (joins_line i b) n (subst (λ j. joins_line j b ≡ true) (sym z) (joins_first b e))),
  (λ z. both_ways (joins_line i b) n (subst (λ j. joins_line j b ≡ true) (sym z) (joins_second b e))),
)

pub differ : (b : Body) → is_join b ≡ true → joins_twice b ≡ false → second_of b ≡ first_of b → ⊥
differ body.Blank e t z = both_ways false refl e
differ (body.Timed u) e t z = both_ways false refl e
differ (body.Work v) e t z = both_ways false refl e
differ (body.Join k a b q) e t z = both_ways (eqb a b) t (eq-eqb a b (sym z))

leaf_joins_none : (b : Body) (i : ℕ) → is_join b ≡ false → joins_line i b ≡ false
leaf_joins_none body.Blank i e = refl
leaf_joins_none (body.Timed t) i e = refl
leaf_joins_none (body.Work v) i e = refl
leaf_joins_none (body.Join k a b q) i e = let z : ⊥ = both_ways true e refl in elim z [ ]

-- what the drives of line n leave
pub record LineDriven (n : ℕ) (cs ds : List Cell) : Type 0 where
  pub long : length ds ≡ length cs
  pub others : (i : ℕ) → joins_line i (body_at cs n) ≡ false → body_at ds i ≡ body_at cs i
  pub first : is_join (body_at cs n) ≡ true
      → body_at ds (first_of (body_at cs n))
      ≡ driven_body (to_first (body_at cs n) (body_phase (body_at cs (first_of (body_at cs n)))) (body_phase (body_at cs (second_of (body_at cs n)))))
      (body_at cs (first_of (body_at cs n)))
  pub second : is_join (body_at cs n) ≡ true
      → body_at ds (second_of (body_at cs n))
      ≡ driven_body (to_second (body_at cs n) (body_phase (body_at cs (first_of (body_at cs n)))) (body_phase (body_at cs (second_of (body_at cs n)))))
      (body_at cs (second_of (body_at cs n)))

pub line_driven : (n : ℕ) (cs : List Cell) → Wired (suc n) cs → LineDriven n cs (drive_line n cs)
unfolding drive_by drive_pair
line_driven n cs w = by (is_join (body_at cs n)) refl
  where
    here : n < suc n
    here = omega arith

    by : (j : Bool) → is_join (body_at cs n) ≡ j → LineDriven n cs (drive_by j cs (body_at cs n))
    by false e = record {
      long = refl;
      others = λ i h. refl;
      first = λ i. let z : ⊥ = both_ways (is_join (body_at cs n)) e i in elim z [ ];
      second = λ i. let z : ⊥ = both_ways (is_join (body_at cs n)) e i in elim z [ ];
    }
    by true e =
        let c = body_at cs n in
        let a = first_of c in
        let b = second_of c in
        let la : a < length cs = omega (arith, w.earlier n a here (joins_first c e), w.fits) in
        let lb : b < length cs = omega (arith, w.earlier n b here (joins_second c e), w.fits) in
        let one = put cs a (driven_body (to_first c (body_phase (body_at cs a)) (body_phase (body_at cs b))) (body_at cs a)) in
        let lo : b < length one = subst (λ m. b < m) (sym (length_put cs a _)) lb in
        let ab : b ≡ a → ⊥ = differ c e (w.apart n here) in
        record {
          long = length_put one b _ ∙ length_put cs a _;
          others = λ i h. let q = joins_none c i h e in put_other one b i _ q.1 ∙ put_other cs a i _ q.0;
          first = λ i. put_other one b a _ (λ z. ab (sym z)) ∙ put_same cs a _ la;
          second = λ i. put_same one b _ lo;
        }

-- each line was driven at most once
abbrev pub Touched : List Cell → List Cell → Type 0
Touched cs ms = (i : ℕ) → (w : Drive) × (body_at ms i ≡ driven_body w (body_at cs i))

pub joins_no_other : (b : Body) (i : ℕ) → is_join b ≡ true → (i ≡ first_of b → ⊥) → (i ≡ second_of b → ⊥) → joins_line i b ≡ true → ⊥
joins_no_other b i e y z t = grind (arith, nat_tests)

touched_at : (cs ds : List Cell) (w : Drive) (i k : ℕ) → i ≡ k → body_at ds k ≡ driven_body w (body_at cs k)
    → (v : Drive) × (body_at ds i ≡ driven_body v (body_at cs i))
touched_at cs ds w i k z e = (w, subst (λ j. body_at ds j ≡ driven_body w (body_at cs j)) (sym z) e)

pub line_touched : (n : ℕ) (cs ds : List Cell) → LineDriven n cs ds → Touched cs ds
line_touched n cs ds l i = by (is_join (body_at cs n)) refl (joins_line i (body_at cs n)) refl
  where
    some : is_join (body_at cs n) ≡ true → (i ≡ first_of (body_at cs n)) ⊎ (i ≡ first_of (body_at cs n) → ⊥)
        → (i ≡ second_of (body_at cs n)) ⊎ (i ≡ second_of (body_at cs n) → ⊥) → joins_line i (body_at cs n) ≡ true
        → (w : Drive) × (body_at ds i ≡ driven_body w (body_at cs i))
    some e (inl z) q t = touched_at cs ds _ i _ z (l.first e)
    some e (inr y) (inl z) t = touched_at cs ds _ i _ z (l.second e)
    some e (inr y) (inr z) t = let o : ⊥ = joins_no_other (body_at cs n) i e y z t in elim o [ ]

    by : (j : Bool) → is_join (body_at cs n) ≡ j → (k : Bool) → joins_line i (body_at cs n) ≡ k
        → (w : Drive) × (body_at ds i ≡ driven_body w (body_at cs i))
    by j e false t = (Nothing, l.others i t ∙ sym (none_driven (body_at cs i)))
    by false e true t = let z : ⊥ = both_ways (joins_line i (body_at cs n)) (leaf_joins_none (body_at cs n) i e) t in elim z [ ]
    by true e true t = some e (cases_eq i (first_of (body_at cs n))) (cases_eq i (second_of (body_at cs n))) t

-- wires stay, so a tree that is driven is wired as before
pub touched_joins : (cs ms : List Cell) → Touched cs ms → (i k : ℕ) → joins_line k (body_at ms i) ≡ joins_line k (body_at cs i)
touched_joins cs ms t i k = ap (joins_line k) (t i).1 ∙ joins_driven k (t i).0 (body_at cs i)

pub touched_wired : (n m : ℕ) (cs ms : List Cell) → m ≤ n → length ms ≡ length cs → Touched cs ms → Wired n cs → Wired m ms
touched_wired n m cs ms le long t w = record {
  fits = let f : n ≤ length cs = w.fits in omega arith;
  filled = λ j h. ap is_blank (t j).1 ∙ (blank_driven (t j).0 (body_at cs j) ∙ w.filled j (omega arith));
  earlier = λ j k h e. w.earlier j k (omega arith) (sym (touched_joins cs ms t j k) ∙ e);
  apart = λ j h. ap joins_twice (t j).1 ∙ (twice_driven (t j).0 (body_at cs j) ∙ w.apart j (omega arith));
  once = λ i j k lt h e f. w.once i j k lt (omega arith) (sym (touched_joins cs ms t i k) ∙ e) (sym (touched_joins cs ms t j k) ∙ f);
}

-- what the drives of the lines before n leave
pub record Passed (n : ℕ) (cs ms : List Cell) : Type 0 where
  pub long : length ms ≡ length cs
  pub touched : Touched cs ms
  pub free : (i : ℕ) → ((j : ℕ) → j < n → joins_line i (body_at cs j) ≡ true → ⊥) → body_at ms i ≡ body_at cs i
  -- a line's drives go by its own device after its own drive, and by its devices' phases before theirs
  pub first : (j : ℕ) → j < n → is_join (body_at cs j) ≡ true
      → body_at ms (first_of (body_at cs j))
      ≡ driven_body (to_first (body_at ms j) (body_phase (body_at cs (first_of (body_at cs j)))) (body_phase (body_at cs (second_of (body_at cs j)))))
      (body_at cs (first_of (body_at cs j)))
  pub second : (j : ℕ) → j < n → is_join (body_at cs j) ≡ true
      → body_at ms (second_of (body_at cs j))
      ≡ driven_body (to_second (body_at ms j) (body_phase (body_at cs (first_of (body_at cs j)))) (body_phase (body_at cs (second_of (body_at cs j)))))
      (body_at cs (second_of (body_at cs j)))

pub not_true : (b : Bool) → (b ≡ true → ⊥) → b ≡ false
not_true true n = elim (n refl) [ ]
not_true false n = refl

-- line n, then the lines before it
module _ (n : ℕ) (cs ds ms : List Cell) (w : Wired (suc n) cs) (l : LineDriven n cs ds) (p : Passed n ds ms) where
  here : n < suc n
  here = omega arith

  dj : (i k : ℕ) → joins_line k (body_at ds i) ≡ joins_line k (body_at cs i)
  dj = touched_joins cs ds (line_touched n cs ds l)

  -- what line n joins, no line before it does
  below_free : (k : ℕ) → joins_line k (body_at cs n) ≡ true → body_at ms k ≡ body_at ds k
  below_free k e = p.free k (λ j h f. w.once j n k h here (sym (dj j k) ∙ f) e)

  -- and what a line before n joins, line n does not
  kept_below : (j k : ℕ) → j < n → joins_line k (body_at cs j) ≡ true → body_at ds k ≡ body_at cs k
  kept_below j k h e = l.others k (not_true _ (λ f. w.once j n k h here e f))

  own_line : body_at ms n ≡ body_at cs n
  own_line =
      p.free n (λ j h f. let z : n < j = w.earlier j n (omega arith) (sym (dj j n) ∙ f) in omega arith)
      ∙ l.others n (not_true _ (λ f. let z : n < n = w.earlier n n here f in omega arith))

  same_first : (j : ℕ) → first_of (body_at ds j) ≡ first_of (body_at cs j)
  same_first j = let t = line_touched n cs ds l j in ap first_of t.1 ∙ first_driven t.0 (body_at cs j)

  same_second : (j : ℕ) → second_of (body_at ds j) ≡ second_of (body_at cs j)
  same_second j = let t = line_touched n cs ds l j in ap second_of t.1 ∙ second_driven t.0 (body_at cs j)

  same_join : (j : ℕ) → is_join (body_at ds j) ≡ is_join (body_at cs j)
  same_join j = let t = line_touched n cs ds l j in ap is_join t.1 ∙ join_driven t.0 (body_at cs j)

  all_touched : Touched cs ms
  all_touched i = by (joins_line i (body_at cs n)) refl
    where
      by : (b : Bool) → joins_line i (body_at cs n) ≡ b → (v : Drive) × (body_at ms i ≡ driven_body v (body_at cs i))
      by true e = let t = line_touched n cs ds l i in (t.0, below_free i e ∙ t.1)
      by false e = let t = p.touched i in (t.0, t.1 ∙ ap (driven_body t.0) (l.others i e))

  all_free : (i : ℕ) → ((j : ℕ) → j < suc n → joins_line i (body_at cs j) ≡ true → ⊥) → body_at ms i ≡ body_at cs i
  all_free i f =
      p.free i (λ j h e. f j (omega arith) (sym (dj j i) ∙ e)) ∙ l.others i (not_true _ (f n here))

  first_below : (j : ℕ) → j < n → is_join (body_at cs j) ≡ true
      → body_at ms (first_of (body_at cs j))
      ≡ driven_body (to_first (body_at ms j) (body_phase (body_at cs (first_of (body_at cs j)))) (body_phase (body_at cs (second_of (body_at cs j)))))
      (body_at cs (first_of (body_at cs j)))
  first_below j h e =
      let r = p.first j h (same_join j ∙ e) in
      let a = kept_below j (first_of (body_at cs j)) h (joins_first (body_at cs j) e) in
      let b = kept_below j (second_of (body_at cs j)) h (joins_second (body_at cs j) e) in
      rw (← a, ← b) (rw (← (same_first j), ← (same_second j)) r)

  second_below : (j : ℕ) → j < n → is_join (body_at cs j) ≡ true
      → body_at ms (second_of (body_at cs j))
      ≡ driven_body (to_second (body_at ms j) (body_phase (body_at cs (first_of (body_at cs j)))) (body_phase (body_at cs (second_of (body_at cs j)))))
      (body_at cs (second_of (body_at cs j)))
  second_below j h e =
      let r = p.second j h (same_join j ∙ e) in
      let a = kept_below j (first_of (body_at cs j)) h (joins_first (body_at cs j) e) in
      let b = kept_below j (second_of (body_at cs j)) h (joins_second (body_at cs j) e) in
      rw (← a, ← b) (rw (← (same_first j), ← (same_second j)) r)

  first_here : is_join (body_at cs n) ≡ true
      → body_at ms (first_of (body_at cs n))
      ≡ driven_body (to_first (body_at ms n) (body_phase (body_at cs (first_of (body_at cs n)))) (body_phase (body_at cs (second_of (body_at cs n)))))
      (body_at cs (first_of (body_at cs n)))
  first_here e = rw own_line (below_free (first_of (body_at cs n)) (joins_first (body_at cs n) e) ∙ l.first e)

  second_here : is_join (body_at cs n) ≡ true
      → body_at ms (second_of (body_at cs n))
      ≡ driven_body (to_second (body_at ms n) (body_phase (body_at cs (first_of (body_at cs n)))) (body_phase (body_at cs (second_of (body_at cs n)))))
      (body_at cs (second_of (body_at cs n)))
  second_here e = rw own_line (below_free (second_of (body_at cs n)) (joins_second (body_at cs n) e) ∙ l.second e)

  at_or_below : (P : ℕ → Type 0) → ((j : ℕ) → j < n → P j) → P n → (j : ℕ) → j < suc n → P j
  at_or_below P f h j lt = by (cases_eq j n)
    where
      by : (j ≡ n) ⊎ (j ≡ n → ⊥) → P j
      by (inl e) = subst P (sym e) h
      by (inr e) = f j (omega arith)

  passed_more : Passed (suc n) cs ms
  passed_more = record {
    long = p.long ∙ l.long;
    touched = all_touched;
    free = all_free;
    first = at_or_below _ first_below first_here;
    second = at_or_below _ second_below second_here;
  }

pub passed : (n : ℕ) (cs : List Cell) → Wired n cs → Passed n cs (drive_from n cs)
unfolding drive_from
passed zero cs w = record {
  long = refl;
  touched = λ i. (Nothing, sym (none_driven (body_at cs i)));
  free = λ i f. refl;
  first = λ j h e. let z : ⊥ = omega arith in elim z [ ];
  second = λ j h e. let z : ⊥ = omega arith in elim z [ ];
}
passed (suc n) cs w =
    let l = line_driven n cs w in
    let ds = drive_line n cs in
    let v : Wired n ds = touched_wired (suc n) n cs ds (omega arith) l.long (line_touched n cs ds l) w in
    passed_more n cs ds (drive_from n ds) w l (passed n ds v)

-- a leaf's answer does not look at other lines
answered_alike : (b x y u v : Body) → (is_join b ≡ true → x ≡ u) → (is_join b ≡ true → y ≡ v) → answered_body b x y ≡ answered_body b u v
answered_alike body.Blank x y u v f s = refl
answered_alike (body.Timed t) x y u v f s = refl
answered_alike (body.Work w) x y u v f s = refl
answered_alike (body.Join k a b q) x y u v f s = rw (f refl, s refl)

-- what the answers of the lines before n leave
pub record Answered (n : ℕ) (ms ds : List Cell) : Type 0 where
  pub long : length ds ≡ length ms
  pub rest : (i : ℕ) → n ≤ i → body_at ds i ≡ body_at ms i
  pub done : (i : ℕ) → i < n
      → body_at ds i ≡ answered_body (body_at ms i) (body_at ds (first_of (body_at ms i))) (body_at ds (second_of (body_at ms i)))

module _ (n : ℕ) (ms ds : List Cell) (w : Wired (suc n) ms) (a : Answered n ms ds) where
  own_cell : body_at ds n ≡ body_at ms n
  own_cell = a.rest n (omega arith)

  line_fits : n < length ds
  line_fits = let f : suc n ≤ length ms = w.fits in let l : length ds ≡ length ms = a.long in omega arith

  others_stay : (i : ℕ) → (i ≡ n → ⊥) → body_at (answer_line n ds) i ≡ body_at ds i
  unfolding answer_line
  others_stay i h = put_other ds n i _ h

  child_stays : (i k : ℕ) → i < suc n → joins_line k (body_at ms i) ≡ true → body_at (answer_line n ds) k ≡ body_at ds k
  child_stays i k h e = others_stay k (λ z. let q : k < i = w.earlier i k h e in omega arith)

  answers_put : body_at (answer_line n ds) n
      ≡ answered_body (body_at ds n) (body_at ds (first_of (body_at ds n))) (body_at ds (second_of (body_at ds n)))
  unfolding answer_line
  answers_put = put_same ds n _ line_fits

  answers_now : body_at (answer_line n ds) n
      ≡ answered_body (body_at ms n) (body_at (answer_line n ds) (first_of (body_at ms n))) (body_at (answer_line n ds) (second_of (body_at ms n)))
  answers_now =
      answers_put
      ∙ (ap (λ b. answered_body b (body_at ds (first_of b)) (body_at ds (second_of b))) own_cell
      ∙ answered_alike (body_at ms n) _ _ _ _
      (λ e. sym (child_stays n _ (omega arith) (joins_first (body_at ms n) e)))
      (λ e. sym (child_stays n _ (omega arith) (joins_second (body_at ms n) e))))

  answers_long : length (answer_line n ds) ≡ length ds
  unfolding answer_line
  answers_long = length_put ds n _

  answered_more : Answered (suc n) ms (answer_line n ds)
  answered_more = record {
    long = answers_long ∙ a.long;
    rest = λ i h. others_stay i (λ z. let q : ⊥ = omega arith in q) ∙ a.rest i (omega arith);
    done = λ i h. by i h (cases_eq i n);
  }
    where
      by : (i : ℕ) → i < suc n → (i ≡ n) ⊎ (i ≡ n → ⊥)
          → body_at (answer_line n ds) i
          ≡ answered_body (body_at ms i) (body_at (answer_line n ds) (first_of (body_at ms i))) (body_at (answer_line n ds) (second_of (body_at ms i)))
      by i h (inl e) = subst (λ k. body_at (answer_line n ds) k
          ≡ answered_body (body_at ms k) (body_at (answer_line n ds) (first_of (body_at ms k))) (body_at (answer_line n ds) (second_of (body_at ms k)))) (sym e) answers_now
      by i h (inr e) =
          others_stay i e ∙ (a.done i (omega arith)
          ∙ answered_alike (body_at ms i) _ _ _ _
          (λ j. sym (child_stays i _ h (joins_first (body_at ms i) j)))
          (λ j. sym (child_stays i _ h (joins_second (body_at ms i) j))))

pub answered : (n : ℕ) (ms : List Cell) → Wired n ms → Answered n ms (answer_to n ms)
unfolding answer_to
answered zero ms w = record { long = refl; rest = λ i h. refl; done = λ i h. let z : ⊥ = omega arith in elim z [ ] }
answered (suc n) ms w =
    answered_more n ms (answer_to n ms) w
    (answered n ms (touched_wired (suc n) n ms ms (omega arith) refl (λ i. (Nothing, sym (none_driven (body_at ms i)))) w))
