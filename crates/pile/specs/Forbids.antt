-- Runs that the promise forbids, each part of it at its smallest. A state is what is seen of it, a call is its kind.
use Rattle.std.specs.Prelude.{ℕ, true, List, [], ◌∷◌, Some, None, Option}
use Rattle.channel.specs.declared.phase.Phase.{Phase}
use Rattle.channel.specs.declared.phase.Phase.TheVariants.{Run, Request, Stopped, Exit, Denied, Continue}
use Rattle.channel.specs.declared.pphase.PPhase.TheVariants as p
use Rattle.channel.specs.Means.{Leaf}
use Rattle.pile.specs.Views.{End, q_end, p_end, stop_state, run_state, View}
use Rattle.pile.specs.Calls.{Kind, stop, back, tick}
use Rattle.pile.specs.Runs.{Moment, Kept}

abbrev one : Phase → List Leaf
one q = record { tag = 1; at = q } ∷ []

abbrev two : Phase → Phase → List Leaf
two q r = record { tag = 1; at = q } ∷ record { tag = 2; at = r } ∷ []

abbrev seen : End → List Leaf → Option ℕ → View
seen e ls d = record { at = e; leaves = ls; denier = d }

-- an accepted call, and what is seen after it
abbrev then : Kind → Phase → List Leaf → Option ℕ → Moment View Kind
then k q ls d = record { call = k; accepted = true; state = seen (q_end q) ls d }

-- a pile with bound 2 keeps the promise over this run
abbrev pub KeptBy : View → List (Moment View Kind) → Type 0
KeptBy = Kept (λ v. v) (λ v. record { bound = 2; left = 1 }) (λ k. k)

abbrev running : View
running = seen (q_end Run) (two Run Run) None

pub record Forbids : Type 0 where
  -- shown stopped over a leaf that runs; shown running or denied over one that does not
  pub stopped_early : KeptBy (seen (q_end Stopped) (one Run) None) [] → ⊥
  pub running_early : KeptBy (seen (q_end Run) (one Exit) None) [] → ⊥
  pub denied_early : KeptBy (seen (q_end Denied) (one Denied) (Some 1)) [] → ⊥
  pub continued_early : KeptBy (seen (q_end Continue) (one Continue) (Some 1)) [] → ⊥
  pub second_runs : KeptBy (seen (q_end Stopped) (two Stopped Run) None) [] → ⊥
  -- a converter in a stop state over a leaf that runs, in a run state over one that is stopped, denied over one that is
  pub state_early : KeptBy (seen (p_end p.Stable stop_state) (one Run) None) [] → ⊥
  pub accept_early : KeptBy (seen (p_end p.Accept run_state) (one Stopped) None) [] → ⊥
  pub complete_early : KeptBy (seen (p_end p.Complete stop_state) (one Request) None) [] → ⊥
  pub ask_denied_early : KeptBy (seen (p_end p.Denied run_state) (one Denied) (Some 1)) [] → ⊥
  -- after a call as well as at the start
  pub later_stopped : KeptBy running (then stop Request (two Run Run) None ∷ then tick Stopped (two Stopped Run) None ∷ []) → ⊥
  -- a request denied though no leaf denied it; accepted though one did
  pub no_denier : KeptBy running (then stop Request (two Run Run) None ∷ then tick Denied (two Run Run) (Some 1) ∷ []) → ⊥
  pub unheard : KeptBy running
      (then stop Request (two Run Run) None ∷ then tick Request (two Denied Request) None ∷ then tick Stopped (two Stopped Stopped) None ∷ []) → ⊥
  -- another leaf told than the earliest, or than the leftmost of two at once
  pub later_told : KeptBy running
      (then stop Request (two Run Run) None ∷ then tick Request (two Request Denied) (Some 1) ∷ then tick Denied (two Run Run) (Some 1) ∷ []) → ⊥
  pub right_told : KeptBy running
      (then stop Request (two Run Run) None ∷ then tick Request (two Denied Denied) (Some 2) ∷ then tick Denied (two Run Run) (Some 2) ∷ []) → ⊥
  pub none_told : KeptBy running
      (then stop Request (two Run Run) None ∷ then tick Request (two Denied Run) None ∷ then tick Denied (two Run Run) None ∷ []) → ⊥
  -- as many steps as the bound in one phase, after a stop and after a raise
  pub stop_too_long : KeptBy running
      (then stop Request (two Run Run) None ∷ then tick Request (two Request Request) None ∷ then tick Request (two Request Request) None ∷ []) → ⊥
  pub exit_too_long : KeptBy (seen (q_end Stopped) (one Stopped) None)
      (then back Exit (one Stopped) None ∷ then tick Exit (one Exit) None ∷ then tick Exit (one Exit) None ∷ []) → ⊥
  pub continue_too_long : KeptBy (seen (q_end Denied) (one Run) (Some 1))
      (then back Continue (one Run) (Some 1) ∷ then tick Continue (one Run) (Some 1) ∷ then tick Continue (one Run) (Some 1) ∷ []) → ⊥
