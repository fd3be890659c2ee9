-- A run grows by one call at its end.
use Rattle.std.proofs.Common.{◌≡◌, Bool, List, [], ◌∷◌, ◌++◌, sym, refl, ap, ◌∙◌, subst}
use Rattle.channel.specs.Timing.{Timing}
use Rattle.pile.specs.Views.{View}
use Rattle.pile.specs.Calls.{Kind}
use Rattle.pile.specs.Runs.{Moment, Fit, Linked, Link, Play, last, calls_of}

module _ {S C : Type 0} (ordered : S → Type 0) (view : S → View) (timing : S → Timing) (kind : C → Kind)
    (makes : C → Bool → S → S → Type 0) where
  -- these calls lead from one pile to another
  pub record Ran (calls : List C) (begin end : S) : Type 0 where
    pub run : List (Moment S C)
    pub play : Play ordered view timing kind makes begin run
    pub these : calls_of run ≡ calls
    pub ends : last begin run ≡ end
    pub fit : Fit ordered view timing end

  pub ran_none : (x : S) → Fit ordered view timing x → Ran [] x x
  ran_none x f = record { run = []; play = tt; these = refl; ends = refl; fit = f }

  play_more : (x : S) (run : List (Moment S C)) (k : Moment S C) → Play ordered view timing kind makes x run
      → Link ordered view timing kind makes (last x run) k → Play ordered view timing kind makes x (run ++ (k ∷ []))
  play_more x [] k p l = (l, tt)
  play_more x (j ∷ js) k p l = (p.0, play_more j.state js k p.1 l)

  last_more : (x : S) (run : List (Moment S C)) (k : Moment S C) → last x (run ++ (k ∷ [])) ≡ k.state
  last_more x [] k = refl
  last_more x (j ∷ js) k = last_more j.state js k

  calls_more : (run : List (Moment S C)) (k : Moment S C) → calls_of (run ++ (k ∷ [])) ≡ calls_of run ++ (k.call ∷ [])
  calls_more [] k = refl
  calls_more (j ∷ js) k = ap (λ cs. j.call ∷ cs) (calls_more js k)

  pub ran_more : (calls : List C) (begin end next : S) (c : C) (b : Bool) → Ran calls begin end
      → makes c b end next → Linked ordered view timing (kind c) b end next → Ran (calls ++ (c ∷ [])) begin next
  ran_more calls begin end next c b r m l =
      let k : Moment S C = record { call = c; accepted = b; state = next } in
      record {
        run = r.run ++ (k ∷ []);
        play = play_more begin r.run k r.play
            (subst (λ x. Link ordered view timing kind makes x k) (sym r.ends) (record { made = m; linked = l }));
        these = calls_more r.run k ∙ ap (λ cs. cs ++ (c ∷ [])) r.these;
        ends = last_more begin r.run k;
        fit = l.fit;
      }
