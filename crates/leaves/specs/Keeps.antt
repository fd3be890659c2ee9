-- The calls of a leaf keep its denier, and a timed leaf's its steps left, with the phase.
use Rattle.std.specs.Prelude.{ℕ, Bool, Option}
use Rattle.std.proofs.Common.{arith}
use Rattle.std.proofs.lemmas.Bool.Decides.{nat_tests}
use Rattle.channel.specs.declared.phase.Phase.{Phase}
use Rattle.channel.specs.Ends.{end_lowered, end_raised}
use Rattle.leaves.specs.Alone.{ToldAt}
use Rattle.leaves.specs.Left.{LeftAt, left_lowered, left_raised, left_stepped, end_stepped}
use Rattle.leaves.specs.Pressed.{end_pressed}
use Rattle.leaves.specs.declared.delays.Delays.{Delays}

module _ (p : Phase) (x : Option ℕ) where
  pub lower_left : (d : Delays) (n : ℕ) → LeftAt p d n → LeftAt (end_lowered (record { phase = p; denier = x })).phase d (left_lowered p d n)
  lower_left d n h = let a = d.answers in grind arith

  pub raise_left : (d : Delays) (n : ℕ) → LeftAt p d n → LeftAt (end_raised (record { phase = p; denier = x })).phase d (left_raised p d n)
  raise_left d n h = let a = d.wakes in grind arith

  pub step_left : (b : Bool) (t : ℕ) (d : Delays) (n : ℕ) → LeftAt p d n
      → LeftAt (end_stepped b t n (record { phase = p; denier = x })).phase d (left_stepped p n)
  step_left b t d n h = grind (arith, nat_tests)

  pub lower_told : (t : ℕ) → ToldAt p t x → ToldAt (end_lowered (record { phase = p; denier = x })).phase t (end_lowered (record { phase = p; denier = x })).denier
  lower_told t h = grind arith

  pub raise_told : (t : ℕ) → ToldAt p t x → ToldAt (end_raised (record { phase = p; denier = x })).phase t (end_raised (record { phase = p; denier = x })).denier
  raise_told t h = grind arith

  pub step_told : (b : Bool) (t n : ℕ) → ToldAt p t x
      → ToldAt (end_stepped b t n (record { phase = p; denier = x })).phase t (end_stepped b t n (record { phase = p; denier = x })).denier
  step_told b t n h = grind (arith, nat_tests)

  pub pressed_told : (idle more : Bool) (t : ℕ) → ToldAt p t x
      → ToldAt (end_pressed idle more t (record { phase = p; denier = x })).phase t (end_pressed idle more t (record { phase = p; denier = x })).denier
  pressed_told idle more t h = grind arith
