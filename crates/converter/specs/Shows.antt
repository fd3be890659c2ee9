-- What a converter shows is so, and it is in time.
use Rattle.std.specs.Prelude.{◌≡◌, ℕ, Option}
use Rattle.std.proofs.Common.{refl, arith}
use Rattle.channel.specs.declared.phase.Phase.TheVariants.{Run, Stopped}
use Rattle.channel.specs.declared.pphase.PPhase.{PPhase}
use Rattle.channel.specs.declared.pphase.PPhase.TheVariants as p
use Rattle.channel.specs.declared.device.QDevice as device
use Rattle.channel.specs.Means.{Means, Sound}
use Rattle.channel.specs.Timing.{Timing, Timely}
use Rattle.channel.specs.Device.{InOrder}
use Rattle.pile.specs.Views.{p_end, shows, denied, Truly, InTime}
use Rattle.pile.specs.Runs.{Fit}
use Rattle.joins.specs.Ordered.{sound_at, run_each}
use Rattle.converter.specs.declared.rules.Mode.{Mode}
use Rattle.converter.specs.declared.rules.Mode.TheVariants as mode
use Rattle.converter.specs.declared.converter.Converter.{Converter}
use Rattle.converter.specs.Rules.{mode_of}
use Rattle.converter.specs.Over.{power, converter_view, RestAt, Over, converter_timing}
use Rattle.converter.specs.Converter.{view_of, time_of, ConverterOrder}

-- what a converter shows is so
rest_truly : (s : Mode) (m : Means) → Sound m → RestAt s m → (d : Option ℕ) → Truly (converter_view p.Stable s d m)
rest_truly mode.Unused m o r d = elim r [ ]
rest_truly mode.Stop m o r d = record {
  stops = λ e. (sound_at Stopped m r o).0;
  runs = λ e. let z : ⊥ = grind arith in elim z [ ];
  denies = λ e. let z : ⊥ = grind arith in elim z [ ];
}
rest_truly mode.Run m o r d = record {
  stops = λ e. let z : ⊥ = grind arith in elim z [ ];
  runs = λ e. run_each m o r;
  denies = λ e. run_each m o r;
}

denied_truly : (q : PPhase) (s : Mode) (m : Means) → Sound m → m.phase ≡ Run → shows (p_end q (power s)) ≡ denied → (d : Option ℕ)
    → Truly (converter_view q s d m)
denied_truly q s m o r e d = record {
  stops = λ i. let z : ⊥ = grind arith in elim z [ ];
  runs = λ i. run_each m o r;
  denies = λ i. run_each m o r;
}

pub truly : (q : PPhase) (s a : Mode) (d : Option ℕ) (m : Means) → Sound m → Over q s a d m → Truly (converter_view q s d m)
truly p.Stable s a d m o h = rest_truly s m o h d
truly p.Request s a d m o h = record { stops = grind arith; runs = grind arith; denies = grind arith }
truly p.Accept s a d m o h = let r = rest_truly s m o h d in record { stops = r.stops; runs = r.runs; denies = r.denies }
truly p.Complete s a d m o h = let r = rest_truly s m o h d in record { stops = r.stops; runs = r.runs; denies = r.denies }
truly p.Denied s a d m o h = denied_truly p.Denied s m o h.1 refl d
truly p.Continue s a d m o h = denied_truly p.Continue s m o h.1 refl d

-- a converter over a device in time is in time
pub in_time : (q : PPhase) (s a : Mode) (d : Option ℕ) (m : Means) (t : Timing) → Over q s a d m → Timely m.phase t
    → InTime (p_end q (power s)) (converter_timing q s a d m.phase t)
in_time q s a d m t h k = record { some_left = grind arith; at_most = grind arith }

module _ {D : Type 0} {d : device.Ghosts D} where
  pub converter_fits : ((x : D) → d.ordered x → InOrder d.means d.timing x)
      → (c : Converter D) → ConverterOrder d c → Fit (ConverterOrder d) (view_of d) (time_of d) c
  converter_fits f c w =
      let o = f c.device w.device in
      record {
        own = w;
        truly = truly c.phase _ (mode_of c.asked) c.denier (d.means c.device) o.sound w.over;
        in_time = in_time c.phase _ (mode_of c.asked) c.denier (d.means c.device) (d.timing c.device) w.over o.timely;
      }
