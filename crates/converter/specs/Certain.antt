-- The order of a converter, where a proof of it is only known to exist: what a struct can hold of its own converter.
use Rattle.std.specs.Prelude.{◌≡◌, ℕ, Some, None, Option}
use Rattle.std.proofs.Common.{arith}
use Rattle.std.proofs.Props.{props}
use Rattle.std.proofs.Math.Logic.{∥∥₁_elim}
use Rattle.channel.specs.declared.phase.Phase.TheVariants.{Stopped, Exit}
use Rattle.channel.specs.declared.pphase.PPhase.{PPhase}
use Rattle.channel.specs.declared.pphase.PPhase.TheVariants as p
use Rattle.channel.specs.declared.device.QDevice as device
use Rattle.channel.specs.Means.{Means}
use Rattle.joins.specs.Certain.{sum-prop, Has-prop}
use Rattle.converter.specs.declared.rules.Mode.{Mode}
use Rattle.converter.specs.declared.rules.Mode.TheVariants as mode
use Rattle.converter.specs.declared.converter.Converter.{Converter}
use Rattle.converter.specs.Rules.{mode_of}
use Rattle.converter.specs.Over.{RestAt, StoppingAt, Asked, Over}
use Rattle.converter.specs.Converter.{ConverterOrder}

RestAt-prop : (s : Mode) (m : Means) → IsProp (RestAt s m)
RestAt-prop mode.Unused m = Prim.hlevel props
RestAt-prop mode.Stop m = Prim.hlevel props
RestAt-prop mode.Run m = Prim.hlevel props

StoppingAt-prop : (d : Option ℕ) (m : Means) → IsProp (StoppingAt d m)
StoppingAt-prop None m = sum-prop (Prim.hlevel props) (Prim.hlevel props) (λ a b. grind arith)
StoppingAt-prop (Some t) m =
    sum-prop (Prim.hlevel props) (sum-prop (Prim.hlevel props) (Prim.hlevel (props, Has-prop m.denier)) (λ a b. grind arith)) (λ a b. grind arith)

Asked-prop : (s a : Mode) (d : Option ℕ) (m : Means) → IsProp (Asked s a d m)
Asked-prop mode.Unused a d m = Prim.hlevel props
Asked-prop mode.Stop mode.Unused d m = Prim.hlevel props
Asked-prop mode.Stop mode.Stop d m = Prim.hlevel props
Asked-prop mode.Stop mode.Run d m = Prim.hlevel (props, sum-prop {P = m.phase ≡ Stopped} {Q = m.phase ≡ Exit} (Prim.hlevel props) (Prim.hlevel props) (λ a b. grind arith))
Asked-prop mode.Run mode.Unused d m = Prim.hlevel props
Asked-prop mode.Run mode.Stop d m = StoppingAt-prop d m
Asked-prop mode.Run mode.Run d m = Prim.hlevel props

Over-prop : (q : PPhase) (s a : Mode) (d : Option ℕ) (m : Means) → IsProp (Over q s a d m)
Over-prop p.Stable s a d m = RestAt-prop s m
Over-prop p.Request s a d m = Asked-prop s a d m
Over-prop p.Accept s a d m = RestAt-prop s m
Over-prop p.Complete s a d m = RestAt-prop s m
Over-prop p.Denied s a d m = Prim.hlevel (props, Has-prop d)
Over-prop p.Continue s a d m = Prim.hlevel (props, Has-prop d)

pub over_certain : (q : PPhase) (s a : Mode) (d : Option ℕ) (m : Means) → ∥ Over q s a d m ∥₁ → Over q s a d m
over_certain q s a d m h = ∥∥₁_elim h (Over-prop q s a d m) (λ x. x)

module _ {D : Type 0} {d : device.Ghosts D} where
  pub converter_certain : ((x : D) → ∥ d.ordered x ∥₁ → d.ordered x)
      → (c : Converter D) → ∥ ConverterOrder d c ∥₁ → ConverterOrder d c
  converter_certain f c h = record {
    device = f c.device (∥∥₁_elim h (Prim.hlevel props) (λ w. ∣ w.device ∣₁));
    over = over_certain c.phase (mode_of c.state) (mode_of c.asked) c.denier (d.means c.device) (∥∥₁_elim h (Prim.hlevel props) (λ w. ∣ w.over ∣₁));
  }
