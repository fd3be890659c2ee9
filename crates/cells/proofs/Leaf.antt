-- The leaves, as devices that are driven and step.
use Rattle.std.proofs.Common.{◌≡◌, ℕ, false, is_ok, refl, ap, ◌∙◌, subst, arith}
use Rattle.std.proofs.lemmas.Bool.Decides.{nat_tests}
use Rattle.channel.specs.declared.device.Call.TheVariants as call
use Rattle.channel.specs.declared.end.QEnd.{QEnd}
use Rattle.channel.specs.Calls.{lower_answer, raise_answer, Lowered, Raised, Stepped}
use Rattle.channel.specs.Timing.{Ticked}
use Rattle.leaves.specs.declared.timed.Timed.{Timed}
use Rattle.leaves.specs.declared.work.Work.{Work}
use Rattle.leaves.specs.Alone.{ToldAt, ToldAt-prop}
use Rattle.leaves.specs.Left.{LeftAt, LeftAt-prop}
use Rattle.leaves.specs.Timed as timed
use Rattle.leaves.specs.Work as work

pub timed_lowers : (t : Timed) → Lowered (timed.timed_means t) (timed.timed_means (timed.after call.Lower t))
timed_lowers t = grind (arith, nat_tests)

pub timed_raises : (t : Timed) → Raised (timed.timed_means t) (timed.timed_means (timed.after call.Raise t))
timed_raises t = grind (arith, nat_tests)

pub timed_steps : (t : Timed) → Stepped (timed.timed_means t) (timed.timed_means (timed.after call.Step t))
timed_steps t = let h = t.told in record {
  to = grind (arith, nat_tests);
  still = grind (arith, nat_tests);
  note = grind (arith, nat_tests);
  same_tags = grind (arith, nat_tests);
}

pub timed_ticks : (t : Timed)
    → Ticked t.end.phase (timed.after call.Step t).end.phase (timed.timed_timing t) (timed.timed_timing (timed.after call.Step t))
timed_ticks t = let h = t.in_time in record { fewer = grind (arith, nat_tests); same_bound = grind (arith, nat_tests) }

pub work_lowers : (w : Work) → Lowered (work.work_means w) (work.work_means (work.after call.Lower w))
work_lowers w = grind (arith, nat_tests)

pub work_raises : (w : Work) → Raised (work.work_means w) (work.work_means (work.after call.Raise w))
work_raises w = grind (arith, nat_tests)

pub work_steps : (w : Work) → Stepped (work.work_means w) (work.work_means (work.after call.Step w))
work_steps w = let h = w.told in record {
  to = grind (arith, nat_tests);
  still = grind (arith, nat_tests);
  note = grind (arith, nat_tests);
  same_tags = grind (arith, nat_tests);
}

pub work_ticks : (w : Work)
    → Ticked w.end.phase (work.after call.Step w).end.phase (work.work_timing w) (work.work_timing (work.after call.Step w))
work_ticks w = record { fewer = grind (arith, nat_tests); same_bound = grind (arith, nat_tests) }

-- two timed leaves that differ in facts alone are one
timed_same : (t : Timed) (c d : ℕ) (e f : QEnd) (m n : ℕ) (h : LeftAt e.phase t.delays m) (k : ToldAt e.phase t.tag e.denier)
    (i : LeftAt f.phase t.delays n) (l : ToldAt f.phase t.tag f.denier) → c ≡ d → e ≡ f → m ≡ n
    → timed.turned t c e m h k ≡ timed.turned t d f n i l
timed_same t c d e f m n h k i l p q r =
    subst (λ d. timed.turned t c e m h k ≡ timed.turned t d f n i l) p
    (subst (λ f. (i : LeftAt f.phase t.delays n) (l : ToldAt f.phase t.tag f.denier) → timed.turned t c e m h k ≡ timed.turned t c f n i l) q
    (subst (λ n. (i : LeftAt e.phase t.delays n) (l : ToldAt e.phase t.tag e.denier) → timed.turned t c e m h k ≡ timed.turned t c e n i l) r
    (λ i l. ap (λ x. timed.turned t c e m x k) (LeftAt-prop e.phase t.delays m h i) ∙ ap (timed.turned t c e m i) (ToldAt-prop e.phase t.tag e.denier k l)))
    i l)

work_same : (w : Work) (c d : ℕ) (e f : QEnd) (k : ToldAt e.phase w.tag e.denier) (l : ToldAt f.phase w.tag f.denier) → c ≡ d → e ≡ f
    → work.turned w w.jobs c e k ≡ work.turned w w.jobs d f l
work_same w c d e f k l p q =
    subst (λ d. work.turned w w.jobs c e k ≡ work.turned w w.jobs d f l) p
    (subst (λ f. (l : ToldAt f.phase w.tag f.denier) → work.turned w w.jobs c e k ≡ work.turned w w.jobs c f l) q
    (λ l. ap (work.turned w w.jobs c e) (ToldAt-prop e.phase w.tag e.denier k l)) l)

-- a leaf that refuses a call stays as it is
pub timed_lower_refused : (t : Timed) → is_ok (lower_answer t.end.phase) ≡ false → timed.after call.Lower t ≡ t
timed_lower_refused t e = timed_same t _ _ _ _ _ _ _ _ t.in_time t.told (grind arith) (grind arith) (grind arith)

pub timed_raise_refused : (t : Timed) → is_ok (raise_answer t.end.phase) ≡ false → timed.after call.Raise t ≡ t
timed_raise_refused t e = timed_same t _ _ _ _ _ _ _ _ t.in_time t.told refl (grind arith) (grind arith)

pub work_lower_refused : (w : Work) → is_ok (lower_answer w.end.phase) ≡ false → work.after call.Lower w ≡ w
work_lower_refused w e = work_same w _ _ _ _ _ w.told (grind arith) (grind arith)

pub work_raise_refused : (w : Work) → is_ok (raise_answer w.end.phase) ≡ false → work.after call.Raise w ≡ w
work_raise_refused w e = work_same w _ _ _ _ _ w.told refl (grind arith)
