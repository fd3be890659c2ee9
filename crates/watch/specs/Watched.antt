-- A design that is watched while a change is under way: its steps never pass the bound.
use Rattle.std.specs.Prelude.{◌≡◌, ℕ, zero, suc, ◌<◌, ◌≤◌, Bool, true}

-- while a change is under way some of its steps are left, and never more than the bound
pub record Pending (changing : Bool) (left bound : ℕ) : Type 0 where
  pub some_left : changing ≡ true → 1 ≤ left
  pub at_most : changing ≡ true → left ≤ bound

-- a step within a change lowers the steps left
abbrev pub Fewer : {S : Type 0} → (S → Bool) → (S → ℕ) → S → S → Type 0
Fewer changing left x y = changing x ≡ true → changing y ≡ true → left y < left x

-- one step more, made while a change was under way
pub record Further {S : Type 0} (before : S → Type 0) (changing : S → Bool) (stepped : S → S → Type 0) (y : S) : Type 0 where
  pub from : S
  pub so_far : before from
  pub going : changing from ≡ true
  pub moved : stepped from y

-- so many steps, each made while a change was under way
unfoldable pub Walked : {S : Type 0} → (S → Bool) → (S → S → Type 0) → ℕ → S → S → Type 0
Walked changing stepped zero x y = y ≡ x
Walked changing stepped (suc n) x y = Further (Walked changing stepped n x) changing stepped y
