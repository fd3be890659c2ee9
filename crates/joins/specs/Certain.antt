-- The order of a join, where a proof of it is only known to exist: what a struct can hold of its own join.
use Rattle.std.specs.Prelude.{◌≡◌, ℕ, ◌⊎◌, Some, None, Option}
use Rattle.std.proofs.Common.{inl, inr, refl, ap, arith}
use Rattle.std.proofs.Props.{props}
use Rattle.std.proofs.Math.Logic.{∥∥₁_elim}
use Rattle.channel.specs.declared.phase.Phase.{Phase}
use Rattle.channel.specs.declared.phase.Phase.TheVariants.{Run, Request, Stopped, Exit, Denied, Continue}
use Rattle.channel.specs.declared.device.QDevice as device
use Rattle.channel.specs.Means.{Means, Has, Waking}
use Rattle.joins.specs.declared.rule.Rule as rule
use Rattle.joins.specs.declared.rules.Kind.{Kind}
use Rattle.joins.specs.declared.rules.Kind.TheVariants.{Distributor, Sequencer}
use Rattle.joins.specs.declared.join.Join.{Join}
use Rattle.joins.specs.Together.{Asking, Firm, Together, InSequence}
use Rattle.joins.specs.Join.{JoinOrder}

pub sum-prop : {P Q : Type 0} → IsProp P → IsProp Q → (P → Q → ⊥) → IsProp (P ⊎ Q)
sum-prop p q n (inl x) (inl y) = ap inl (p x y)
sum-prop p q n (inl x) (inr y) = elim (n x y) [ ]
sum-prop p q n (inr x) (inl y) = elim (n y x) [ ]
sum-prop p q n (inr x) (inr y) = ap inr (q x y)

pub Has-prop : (d : Option ℕ) → IsProp (Has d)
Has-prop (Some t) = Prim.hlevel props
Has-prop None = Prim.hlevel props

Asking-prop : (m : Means) → IsProp (Asking m)
Asking-prop m = sum-prop (Prim.hlevel props) (sum-prop (Prim.hlevel props) (Prim.hlevel props) (λ a b. grind arith)) (λ a b. grind arith)

Firm-prop : (m : Means) → IsProp (Firm m)
Firm-prop m =
    sum-prop (Prim.hlevel props)
    (sum-prop (Prim.hlevel props) (sum-prop (Prim.hlevel props) (Prim.hlevel (props, Has-prop m.denier)) (λ a b. grind arith)) (λ a b. grind arith))
    (λ a b. grind arith)

Waking-prop : (p : Phase) → IsProp (Waking p)
Waking-prop p = sum-prop (Prim.hlevel props) (sum-prop (Prim.hlevel props) (Prim.hlevel props) (λ a b. grind arith)) (λ a b. grind arith)

either_firm : (m : Means) → Firm m ⊎ (Firm m → ⊥)
either_firm m = by m.phase m.denier
  where
    by : (p : Phase) (d : Option ℕ)
        → ((p ≡ Run) ⊎ (p ≡ Denied) ⊎ (p ≡ Continue) ⊎ ((p ≡ Request) × Has d))
        ⊎ (((p ≡ Run) ⊎ (p ≡ Denied) ⊎ (p ≡ Continue) ⊎ ((p ≡ Request) × Has d)) → ⊥)
    by Run d = inl (inl refl)
    by Request (Some t) = inl (inr (inr (inr (refl, tt))))
    by Request None = inr (λ h. grind arith)
    by Stopped d = inr (λ h. grind arith)
    by Exit d = inr (λ h. grind arith)
    by Denied d = inl (inr (inl refl))
    by Continue d = inl (inr (inr (inl refl)))

-- one of two devices is firm
one_firm : (a b : Means) → ∥ Firm a ⊎ Firm b ∥₁ → Firm a ⊎ Firm b
one_firm a b h = by (either_firm a)
  where
    by : Firm a ⊎ (Firm a → ⊥) → Firm a ⊎ Firm b
    by (inl f) = inl f
    by (inr n) = inr (∥∥₁_elim h (Firm-prop b) (elim [ (inl f) ↦ elim (n f) [ ] | (inr f) ↦ f ]))

pub together_certain : (p : Phase) (d : Option ℕ) (a b : Means) → ∥ Together p d a b ∥₁ → Together p d a b
together_certain Run d a b h = ∥∥₁_elim h (Prim.hlevel props) (λ x. x)
together_certain Request None a b h = ∥∥₁_elim h (Prim.hlevel (props, Asking-prop)) (λ x. x)
together_certain Request (Some t) a b h =
    (one_firm a b (∥∥₁_elim h (Prim.hlevel props) (λ x. ∣ x.0 ∣₁)), ∥∥₁_elim h (Prim.hlevel props) (λ x. x.1))
together_certain Stopped d a b h = ∥∥₁_elim h (Prim.hlevel props) (λ x. x)
together_certain Exit d a b h = ∥∥₁_elim h (Prim.hlevel (props, Waking-prop)) (λ x. x)
together_certain Denied d a b h = ∥∥₁_elim h (Prim.hlevel (props, Has-prop)) (λ x. x)
together_certain Continue d a b h = ∥∥₁_elim h (Prim.hlevel (props, Has-prop)) (λ x. x)

sequence_by : (a b : Means) (p : Phase) → b.phase ≡ p → ∥ (b.phase ≡ Run) ⊎ (a.phase ≡ Stopped) ∥₁ → (b.phase ≡ Run) ⊎ (a.phase ≡ Stopped)
sequence_by a b Run e h = inl e
sequence_by a b Request e h = inr (∥∥₁_elim h (Prim.hlevel props) (λ x. grind arith))
sequence_by a b Stopped e h = inr (∥∥₁_elim h (Prim.hlevel props) (λ x. grind arith))
sequence_by a b Exit e h = inr (∥∥₁_elim h (Prim.hlevel props) (λ x. grind arith))
sequence_by a b Denied e h = inr (∥∥₁_elim h (Prim.hlevel props) (λ x. grind arith))
sequence_by a b Continue e h = inr (∥∥₁_elim h (Prim.hlevel props) (λ x. grind arith))

pub sequence_certain : (k : Kind) (a b : Means) → ∥ InSequence k a b ∥₁ → InSequence k a b
sequence_certain Distributor a b h = tt
sequence_certain Sequencer a b h = sequence_by a b b.phase refl h

-- a join over devices of which the same holds
module _ {R A B : Type 0} {r : rule.Ghosts R} {a : device.Ghosts A} {b : device.Ghosts B} where
  pub join_certain : ((x : A) → ∥ a.ordered x ∥₁ → a.ordered x) → ((y : B) → ∥ b.ordered y ∥₁ → b.ordered y)
      → (j : Join R A B) → ∥ JoinOrder r a b j ∥₁ → JoinOrder r a b j
  join_certain f g j h = record {
    first = f j.first (∥∥₁_elim h (Prim.hlevel props) (λ w. ∣ w.first ∣₁));
    second = g j.second (∥∥₁_elim h (Prim.hlevel props) (λ w. ∣ w.second ∣₁));
    together = together_certain j.end.phase j.end.denier (a.means j.first) (b.means j.second) (∥∥₁_elim h (Prim.hlevel props) (λ w. ∣ w.together ∣₁));
    sequence = sequence_certain r.KIND (a.means j.first) (b.means j.second) (∥∥₁_elim h (Prim.hlevel props) (λ w. ∣ w.sequence ∣₁));
  }
