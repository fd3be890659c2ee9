-- Jobs change no phase, no denier and no step left: the nested tree means the same with them.
use Rattle.std.proofs.Common.{◌≡◌, ℕ, zero, suc, ◌+◌, ◌-◌, ◌<◌, ◌≤◌, Bool, true, false, cond, ◌⊎◌, List, length, set, get_or, Some, None, Option, Result, IfSome, sym, refl, ap, ◌∙◌, subst, inl, inr, arith}
use Rattle.std.proofs.lemmas.Bool.{cases_eq, cond-true, cond-false}
use Rattle.std.proofs.lemmas.List.{get_or_default}
use Rattle.std.specs.Str.{bytes_eq}
use Rattle.channel.specs.declared.phase.Phase.{Phase}
use Rattle.channel.specs.declared.end.QEnd.{QEnd}
use Rattle.leaves.specs.declared.work.Work.{Work}
use Rattle.leaves.specs.Work as work
use Rattle.leaves.specs.declared.worker.JobRefusal.{JobRefusal}
use Rattle.leaves.specs.Jobs.{room, after_add}
use Rattle.words.specs.Names.{text_of}
use Rattle.joins.specs.declared.rules.Kind.{Kind}
use Rattle.cells.specs.declared.cell.Body.{Body}
use Rattle.cells.specs.declared.cell.Body.TheVariants as body
use Rattle.cells.specs.declared.cell.Cell.{Cell}
use Rattle.cells.specs.Nests.{Nest, work_leaf, join, nest_means, nest_timing, NestOrder}
use Rattle.cells.specs.Flat.{absent, at, body_at, with_body, put, nest_of, nest, Wired}
use Rattle.cells.proofs.Passes.{put_same, put_other}
use Rattle.cells.proofs.Calls.{Alike, put_wired}
use Rattle.tree.specs.Top.{top}
use Rattle.tree.specs.Nesting.{is_joined}
use Rattle.tree.specs.Jobs.{line_named, job_body, body_answer, job_cells, job_answer}
use Rattle.tree.proofs.Tops.{put_by}

-- two nested trees that mean the same
pub record Same (a b : Nest) : Type 0 where
  pub means : nest_means a ≡ nest_means b
  pub timing : nest_timing a ≡ nest_timing b
  pub order : NestOrder b → NestOrder a
  pub joins : is_joined a ≡ is_joined b

same_self : (a : Nest) → Same a a
same_self a = record { means = refl; timing = refl; order = λ o. o; joins = refl }

same_join : (k : Kind) (q : QEnd) (a b x y : Nest) → Same a x → Same b y → Same (join k q a b) (join k q x y)
same_join k q a b x y s t = record {
  means = rw (s.means, t.means);
  timing = rw (s.means, t.means, s.timing, t.timing);
  order = λ o. (s.order o.0, t.order o.1, rw (s.means, t.means) o.2, rw (s.means, t.means) o.3);
  joins = refl;
}

work_same : (w : Work) (n : ℕ) → Same (work_leaf (after_add w n)) (work_leaf w)
work_same w n = by (room w n) refl
  where
    by : (b : Bool) → room w n ≡ b → Same (work_leaf (cond b (work.turned w (w.jobs + n) w.done w.end w.told) w)) (work_leaf w)
    by true e = record { means = refl; timing = grind arith; order = λ o. o; joins = refl }
    by false e = same_self (work_leaf w)

-- the same line, or the same with more jobs
abbrev pub More : Body → Body → Type 0
More b c = (b ≡ c) ⊎ ((n : ℕ) × (b ≡ job_body c n))

line_same : (c : Body) (f g : ℕ → Nest) → ((k : ℕ) → Same (f k) (g k)) → Same (nest_of c f) (nest_of c g)
line_same body.Blank f g s = same_self _
line_same (body.Timed t) f g s = same_self _
line_same (body.Work w) f g s = same_self _
line_same (body.Join k a b q) f g s = same_join k q _ _ _ _ (s a) (s b)

job_same : (c : Body) (n : ℕ) (f g : ℕ → Nest) → ((k : ℕ) → Same (f k) (g k)) → Same (nest_of (job_body c n) f) (nest_of c g)
job_same body.Blank n f g s = same_self _
job_same (body.Timed t) n f g s = same_self _
job_same (body.Work w) n f g s = work_same w n
job_same (body.Join k a b q) n f g s = same_join k q _ _ _ _ (s a) (s b)

pub nest_same : (f i : ℕ) (cs ds : List Cell) → ((j : ℕ) → More (body_at ds j) (body_at cs j)) → Same (nest f ds i) (nest f cs i)
unfolding nest
nest_same zero i cs ds m = same_self _
nest_same (suc f) i cs ds m = by (m i) (λ k. nest_same f k cs ds m)
  where
    by : More (body_at ds i) (body_at cs i) → ((k : ℕ) → Same (nest f ds k) (nest f cs k)) → Same (nest_of (body_at ds i) (nest f ds)) (nest_of (body_at cs i) (nest f cs))
    by (inl e) s = subst (λ b. Same (nest_of b (nest f ds)) (nest_of (body_at cs i) (nest f cs))) (sym e) (line_same (body_at cs i) _ _ s)
    by (inr e) s = subst (λ b. Same (nest_of b (nest f ds)) (nest_of (body_at cs i) (nest f cs))) (sym e.1) (job_same (body_at cs i) e.0 _ _ s)

put_more : (cs : List Cell) (i n j : ℕ) → i < length cs → More (body_at (put cs i (job_body (body_at cs i) n)) j) (body_at cs j)
put_more cs i n j h = by (cases_eq j i)
  where
    by : (j ≡ i) ⊎ (j ≡ i → ⊥) → More (body_at (put cs i (job_body (body_at cs i) n)) j) (body_at cs j)
    by (inl e) = inr (n, subst (λ k. body_at (put cs i (job_body (body_at cs i) n)) k ≡ job_body (body_at cs k) n) (sym e) (put_same cs i _ h))
    by (inr e) = inl (put_other cs i j _ e)

pub top_same : (n : ℕ) (own : Phase) (cs : List Cell) (i m : ℕ) → i < length cs → Same (top n own (put cs i (job_body (body_at cs i) m))) (top n own cs)
top_same zero own cs i m h = same_self _
top_same (suc t) own cs i m h = nest_same (suc t) t cs _ (λ j. put_more cs i m j h)

job_alike : (b : Body) (n : ℕ) → Alike (job_body b n) b
job_alike body.Blank n = record { joins = λ k. refl; twice = refl; blank = refl }
job_alike (body.Timed t) n = record { joins = λ k. refl; twice = refl; blank = refl }
job_alike (body.Work w) n = record { joins = λ k. refl; twice = refl; blank = refl }
job_alike (body.Join k a b q) n = record { joins = λ k. refl; twice = refl; blank = refl }

pub job_wired : (n i m : ℕ) (cs : List Cell) → i < n → Wired n cs → Wired n (put cs i (job_body (body_at cs i) m))
job_wired n i m cs h w = put_wired n i cs _ h (job_alike (body_at cs i) m) w

-- a line that is found is one of the lines
pub named_below : (n : ℕ) (cs : List Cell) (w : List ℕ) (i : ℕ) → line_named n cs w ≡ Some i → i < n
unfolding line_named
named_below zero cs w i e = let z : ⊥ = grind arith in elim z [ ]
named_below (suc n) cs w i e = by (bytes_eq (text_of (at cs n).name) w) e (λ f. named_below n cs w i f)
  where
    by : (b : Bool) → cond b (Some n) (line_named n cs w) ≡ Some i → (line_named n cs w ≡ Some i → i < n) → i < suc n
    by true f r = let z : n ≡ i = cc in omega arith
    by false f r = let z : i < n = r f in omega arith

-- the search, one line further down
pub named_down : (i : ℕ) (cs : List Cell) (w : List ℕ) → 0 < i → bytes_eq (text_of (at cs (i - 1)).name) w ≡ false → line_named (i - 1) cs w ≡ line_named i cs w
unfolding line_named
named_down zero cs w h e = let z : ⊥ = omega arith in elim z [ ]
named_down (suc i) cs w h e =
    let m : suc i - 1 ≡ i = omega arith in
    ap (λ k. line_named k cs w) m ∙ sym (cond-false _ _ _ (sym (ap (λ k. bytes_eq (text_of (at cs k).name) w) m) ∙ e))

pub named_here : (i : ℕ) (cs : List Cell) (w : List ℕ) → 0 < i → bytes_eq (text_of (at cs (i - 1)).name) w ≡ true → line_named i cs w ≡ Some (i - 1)
unfolding line_named
named_here zero cs w h e = let z : ⊥ = omega arith in elim z [ ]
named_here (suc i) cs w h e =
    let m : suc i - 1 ≡ i = omega arith in
    cond-true _ _ _ (sym (ap (λ k. bytes_eq (text_of (at cs k).name) w) m) ∙ e) ∙ ap Some (sym m)

pub named_none : (cs : List Cell) (w : List ℕ) → None ≡ line_named 0 cs w
unfolding line_named
named_none cs w = refl

pub job_cells_wired : (n : ℕ) (cs : List Cell) (w : List ℕ) (m : ℕ) → Wired n cs → Wired n (job_cells (line_named n cs w) cs m)
job_cells_wired n cs w m v = by (line_named n cs w) refl
  where
    by : (o : Option ℕ) → line_named n cs w ≡ o → Wired n (job_cells o cs m)
    by None e = v
    by (Some i) e = job_wired n i m cs (named_below n cs w i e) v

pub tops_same : (n : ℕ) (own : Phase) (cs : List Cell) (w : List ℕ) (m : ℕ) → Wired n cs
    → Same (top n own (job_cells (line_named n cs w) cs m)) (top n own cs)
tops_same n own cs w m v = by (line_named n cs w) refl
  where
    by : (o : Option ℕ) → line_named n cs w ≡ o → Same (top n own (job_cells o cs m)) (top n own cs)
    by None e = same_self _
    by (Some i) e = top_same n own cs i m (let l : i < n = named_below n cs w i e in let f : n ≤ length cs = v.fits in omega arith)

pub trees_same : (k n : ℕ) (p own : Phase) (ds cs : List Cell) (w : List ℕ) (m : ℕ) → Wired n cs → k ≡ n → p ≡ own
    → ds ≡ job_cells (line_named n cs w) cs m → Same (top k p ds) (top n own cs)
trees_same k n p own ds cs w m v e f g = rw (e, f, g) (tops_same n own cs w m v)

pub named_within : (n : ℕ) (cs : List Cell) (w : List ℕ) (o : Option ℕ) → n ≤ length cs → o ≡ line_named n cs w → IfSome o (λ i. i < length cs)
named_within n cs w None h e = tt
named_within n cs w (Some i) h e = let l : i < n = named_below n cs w i (sym e) in omega arith

-- a job in the cell of the line that is found
pub job_put : (m : ℕ) (cs : List Cell) (w : List ℕ) (n i : ℕ) (x : Cell) (b : Body) → i < length cs → line_named m cs w ≡ Some i
    → b ≡ job_body (get_or cs i x).body n → set cs i (with_body (get_or cs i x) b) ≡ job_cells (line_named m cs w) cs n
job_put m cs w n i x b h f e =
    put_by cs i x b h
    ∙ (ap (put cs i) (e ∙ ap (λ c. job_body c.body n) (get_or_default cs i x absent h)) ∙ sym (ap (λ o. job_cells o cs n) f))

pub job_told : (m : ℕ) (cs : List Cell) (w : List ℕ) (n i : ℕ) (x : Cell) (r : Result Unit JobRefusal) → i < length cs → line_named m cs w ≡ Some i
    → r ≡ body_answer (get_or cs i x).body n → r ≡ job_answer (line_named m cs w) cs n
job_told m cs w n i x r h f e =
    e ∙ (ap (λ c. body_answer c.body n) (get_or_default cs i x absent h) ∙ sym (ap (λ o. job_answer o cs n) f))
