-- A nested tree is a device: each of its joins is taken as the library's join over nested devices, so the laws of a join are cited, not shown again.
use Rattle.std.proofs.Common.{◌≡◌, refl, arith}
use Rattle.std.proofs.lemmas.Bool.Decides.{nat_tests}
use Rattle.channel.specs.declared.phase.Phase.{Phase}
use Rattle.channel.specs.Calls.{Lowered, Raised, Stepped, Reset}
use Rattle.channel.specs.Timing.{Ticked}
use Rattle.leaves.specs.declared.timed.Timed.{Timed}
use Rattle.leaves.specs.declared.work.Work.{Work}
use Rattle.leaves.specs.Timed as timed
use Rattle.leaves.specs.Work as work
use Rattle.joins.specs.declared.rules.Drive.{Drive}
use Rattle.joins.specs.declared.rules.Drive.TheVariants.{Nothing, Lower, Raise}
use Rattle.joins.specs.Turns.{Drove, driven}
use Rattle.joins.proofs.Whole.{Went, both_stopped_sequence, both_went, lowers, raises, resets, together_lowered, together_raised}
use Rattle.cells.specs.Bodies.{driven_end, drive_timed, drive_work}
use Rattle.cells.specs.Nests.{Nest, empty, timed_leaf, work_leaf, join, nest_means, nest_timing, EmptyAt, NestOrder, empty_step, drive_nest, wish_first, wish_second, turn, reset_nest}
use Rattle.cells.specs.Ordered.{nest_in_order}
use Rattle.cells.proofs.Joined.{joined_order}
use Rattle.cells.proofs.Leaf.{timed_lowers, timed_raises, timed_steps, timed_ticks, work_lowers, work_raises, work_steps, work_ticks}

-- what a drive keeps
pub record DriveKept (w : Drive) (t : Nest) : Type 0 where
  pub drove : Drove w (nest_means t) (nest_means (drive_nest w t))
  pub undriven : w ≡ Nothing → drive_nest w t ≡ t
  pub mid_bound : (nest_timing (drive_nest w t)).bound ≡ (nest_timing t).bound
  pub kept : NestOrder (drive_nest w t)

none_driven : (t : Nest) → drive_nest Nothing t ≡ t
none_driven (empty p) = refl
none_driven (timed_leaf t) = refl
none_driven (work_leaf w) = refl
none_driven (join k q a b) = refl

drive_nothing : (t : Nest) → NestOrder t → DriveKept Nothing t
drive_nothing t o = record {
  drove = rw (none_driven t);
  undriven = λ e. none_driven t;
  mid_bound = rw (none_driven t);
  kept = rw (none_driven t) o;
}

empty_lowers : (p : Phase) → EmptyAt p → Lowered (nest_means (empty p)) (nest_means (empty (driven Lower p)))
empty_lowers p o = grind arith

empty_raises : (p : Phase) → EmptyAt p → Raised (nest_means (empty p)) (nest_means (empty (driven Raise p)))
empty_raises p o = grind arith

empty_driven : (w : Drive) (p : Phase) → EmptyAt p → EmptyAt (driven w p)
empty_driven w p o = grind arith

timed_bound : (w : Drive) (t : Timed) → (timed.timed_timing (drive_timed w t)).bound ≡ (timed.timed_timing t).bound
timed_bound w t = grind (arith, nat_tests)

work_bound : (w : Drive) (t : Work) → (work.work_timing (drive_work w t)).bound ≡ (work.work_timing t).bound
work_bound w t = grind (arith, nat_tests)

pub drive_kept : (w : Drive) (t : Nest) → NestOrder t → DriveKept w t
drive_kept Nothing t o = drive_nothing t o
drive_kept Lower (empty p) o = record {
  drove = empty_lowers p o;
  undriven = λ e. grind arith;
  mid_bound = refl;
  kept = empty_driven Lower p o;
}
drive_kept Lower (timed_leaf t) o = record {
  drove = timed_lowers t;
  undriven = λ e. grind arith;
  mid_bound = timed_bound Lower t;
  kept = tt;
}
drive_kept Lower (work_leaf v) o = record {
  drove = work_lowers v;
  undriven = λ e. grind arith;
  mid_bound = work_bound Lower v;
  kept = tt;
}
drive_kept Lower (join k q a b) o =
    let h = (joined_order k q a b o).together in
    record {
      drove = lowers q.phase q.denier (nest_means a) (nest_means b) h (nest_in_order a o.0).sound (nest_in_order b o.1).sound;
      undriven = λ e. grind arith;
      mid_bound = refl;
      kept = (o.0, o.1, together_lowered q.phase q.denier (nest_means a) (nest_means b) h, o.3);
    }
drive_kept Raise (empty p) o = record {
  drove = empty_raises p o;
  undriven = λ e. grind arith;
  mid_bound = refl;
  kept = empty_driven Raise p o;
}
drive_kept Raise (timed_leaf t) o = record {
  drove = timed_raises t;
  undriven = λ e. grind arith;
  mid_bound = timed_bound Raise t;
  kept = tt;
}
drive_kept Raise (work_leaf v) o = record {
  drove = work_raises v;
  undriven = λ e. grind arith;
  mid_bound = work_bound Raise v;
  kept = tt;
}
drive_kept Raise (join k q a b) o =
    let h = (joined_order k q a b o).together in
    record {
      drove = raises q.phase q.denier (nest_means a) (nest_means b) h;
      undriven = λ e. grind arith;
      mid_bound = refl;
      kept = (o.0, o.1, together_raised q.phase q.denier (nest_means a) (nest_means b) h, o.3);
    }

-- what a step keeps, after the drive
pub record TurnKept (w : Drive) (t : Nest) : Type 0 where
  pub stepped : Stepped (nest_means (drive_nest w t)) (nest_means (turn w t))
  pub ticked : Ticked (nest_means (drive_nest w t)).phase (nest_means (turn w t)).phase (nest_timing (drive_nest w t)) (nest_timing (turn w t))
  pub kept : NestOrder (turn w t)

went : (w : Drive) (t : Nest) → NestOrder t → DriveKept w t → TurnKept w t → Went nest_means nest_timing w t (turn w t)
went w t o d k = record {
  mid = drive_nest w t;
  before = nest_in_order t o;
  drove = d.drove;
  undriven = d.undriven;
  mid_bound = d.mid_bound;
  between = nest_in_order _ d.kept;
  stepped = k.stepped;
  ticked = k.ticked;
  after = nest_in_order _ k.kept;
}

empty_stepped : (p : Phase) → EmptyAt p → Stepped (nest_means (empty p)) (nest_means (empty (empty_step p)))
empty_stepped p o = record { to = grind arith; still = grind arith; note = grind arith; same_tags = refl }

empty_ticked : (p : Phase) → EmptyAt p → Ticked p (empty_step p) (nest_timing (empty p)) (nest_timing (empty (empty_step p)))
empty_ticked p o = record { fewer = grind arith; same_bound = refl }

empty_kept : (p : Phase) → EmptyAt p → EmptyAt (empty_step p)
empty_kept p o = grind arith

pub turn_kept : (w : Drive) (t : Nest) → NestOrder t → TurnKept w t
turn_kept w (empty p) o =
    let q = empty_driven w p o in
    record { stepped = empty_stepped (driven w p) q; ticked = empty_ticked (driven w p) q; kept = empty_kept (driven w p) q }
turn_kept w (timed_leaf t) o = record { stepped = timed_steps (drive_timed w t); ticked = timed_ticks (drive_timed w t); kept = tt }
turn_kept w (work_leaf v) o = record { stepped = work_steps (drive_work w v); ticked = work_ticks (drive_work w v); kept = tt }
turn_kept w (join k q a b) o =
    let m = (drive_kept w (join k q a b) o).kept in
    let e = driven_end w q in
    let wa = wish_first k e a b in
    let wb = wish_second k e a b in
    let j = joined_order k e a b m in
    let ka = turn_kept wa a m.0 in
    let kb = turn_kept wb b m.1 in
    let r = both_went k nest_means nest_timing nest_means nest_timing e.phase e.denier a (turn wa a) b (turn wb b) j.together j.sequence
    (went wa a m.0 (drive_kept wa a m.0) ka) (went wb b m.1 (drive_kept wb b m.1) kb) in
    record { stepped = r.order; ticked = r.pace; kept = (ka.kept, kb.kept, r.together, r.sequence) }

-- reset leads from anything to Stopped, in order
pub record ResetKept (t : Nest) : Type 0 where
  pub order : Reset (nest_means t) (nest_means (reset_nest t))
  pub same_bound : (nest_timing (reset_nest t)).bound ≡ (nest_timing t).bound
  pub kept : NestOrder (reset_nest t)

pub reset_kept : (t : Nest) → ResetKept t
reset_kept (empty p) = record {
  order = record { to = refl; all_stopped = tt; none = refl; same_tags = refl };
  same_bound = refl;
  kept = tt;
}
reset_kept (timed_leaf t) = record {
  order = record { to = refl; all_stopped = (refl, tt); none = refl; same_tags = refl };
  same_bound = refl;
  kept = tt;
}
reset_kept (work_leaf w) = record {
  order = record { to = refl; all_stopped = (refl, tt); none = refl; same_tags = refl };
  same_bound = refl;
  kept = tt;
}
reset_kept (join k q a b) =
    let x = reset_kept a in
    let y = reset_kept b in
    record {
      order = resets q.phase q.denier (nest_means a) _ (nest_means b) _ x.order y.order;
      same_bound = rw (x.same_bound, y.same_bound);
      kept = (
        x.kept,
        y.kept,
        (record { first = x.order.to; second = y.order.to }, refl),
        both_stopped_sequence k _ _ x.order.to,
      );
    }
