-- The calls of a join over any two devices, from the laws over meanings.
use Rattle.std.proofs.Common.{◌≡◌, ℕ, is_some, Some, None, Option, refl, sym, ap, ◌∙◌, subst, inl, inr, arith}
use Rattle.channel.specs.declared.phase.Phase.{Phase}
use Rattle.channel.specs.declared.phase.Phase.TheVariants.{Run, Request, Stopped, Exit, Denied, Continue}
use Rattle.channel.specs.Means.{Means, Sound, Lowering}
use Rattle.channel.specs.Calls.{LowerDone, Lowered, Raised, Stepped, Reset}
use Rattle.channel.specs.Ends.{end_lowered, end_raised}
use Rattle.channel.specs.Timing.{Timing, Timely, Ticked}
use Rattle.channel.specs.Device.{InOrder}
use Rattle.joins.specs.declared.rules.Kind.{Kind}
use Rattle.joins.specs.declared.rules.Kind.TheVariants.{Distributor, Sequencer}
use Rattle.joins.specs.declared.rules.Drive.{Drive}
use Rattle.joins.specs.declared.rules.Drive.TheVariants.{Nothing}
use Rattle.joins.specs.Rules.{first_drive, second_drive}
use Rattle.joins.specs.Turns.{Drove, Turned}
use Rattle.joins.specs.Together.{joined, Both, Together, InSequence, denier_after, phase_after}
use Rattle.joins.specs.Bounds.{join_timing}
use Rattle.joins.specs.Leaves.{each_++, each_map, tags-++}
use Rattle.joins.specs.Ordered.{sound_at, phases_at}
use Rattle.joins.proofs.Order.{first_may, second_may, Pair, join_stepped, keeps_together, keeps_sequence, turned_phase}
use Rattle.joins.proofs.Pace.{Paced, SequenceAt, Stays, join_ticked}

sequence_at : (k : Kind) (a b : Means) → InSequence k a b → SequenceAt k a.phase b.phase
sequence_at Distributor a b h = tt
sequence_at Sequencer a b h = h

pub both_stopped_sequence : (k : Kind) (a b : Means) → a.phase ≡ Stopped → InSequence k a b
both_stopped_sequence Distributor a b e = tt
both_stopped_sequence Sequencer a b e = inr e

-- a join just lowered has asked nobody yet
join_lowered : (d : Option ℕ) (a b : Means) → Sound a → Sound b → Both Run a b → LowerDone (joined Run d a b) (joined Request None a b)
join_lowered d a b sa sb h = record {
  to = refl;
  clear = refl;
  leaves = each_++ Lowering a.leaves b.leaves
      (each_map (λ p. p ≡ Run) Lowering (λ p e. inl e) a.leaves (sound_at Run a h.first sa))
      (each_map (λ p. p ≡ Run) Lowering (λ p e. inl e) b.leaves (sound_at Run b h.second sb));
  same_tags = refl;
}

-- lower and raise act on the join's own channel alone
module _ (p : Phase) (d : Option ℕ) (a b : Means) (h : Together p d a b) where
  pub together_lowered : Together (end_lowered (record { phase = p; denier = d })).phase (end_lowered (record { phase = p; denier = d })).denier a b
  together_lowered = by p h
    where
      by : (p : Phase) → Together p d a b
          → Together (end_lowered (record { phase = p; denier = d })).phase (end_lowered (record { phase = p; denier = d })).denier a b
      by Run h = (inl h.first, inl h.second)
      by Request h = h
      by Stopped h = h
      by Exit h = h
      by Denied h = h
      by Continue h = h

  pub together_raised : Together (end_raised (record { phase = p; denier = d })).phase (end_raised (record { phase = p; denier = d })).denier a b
  together_raised = by p h
    where
      by : (p : Phase) → Together p d a b
          → Together (end_raised (record { phase = p; denier = d })).phase (end_raised (record { phase = p; denier = d })).denier a b
      by Run h = h
      by Request h = h
      by Stopped h = let f : a.phase ≡ Stopped = h.0.first in (inl h.0.first, inl h.0.second, grind arith, h.1)
      by Exit h = h
      by Denied h = h
      by Continue h = h

  pub lowers : Sound a → Sound b
      → Lowered (joined p d a b) (joined (end_lowered (record { phase = p; denier = d })).phase (end_lowered (record { phase = p; denier = d })).denier a b)
  lowers sa sb = by p h
    where
      by : (p : Phase) → Together p d a b
          → Lowered (joined p d a b) (joined (end_lowered (record { phase = p; denier = d })).phase (end_lowered (record { phase = p; denier = d })).denier a b)
      by Run h = join_lowered d a b sa sb h
      by Request h = refl
      by Stopped h = refl
      by Exit h = refl
      by Denied h = refl
      by Continue h = refl

  pub raises :
      Raised (joined p d a b) (joined (end_raised (record { phase = p; denier = d })).phase (end_raised (record { phase = p; denier = d })).denier a b)
  raises = by p
    where
      by : (p : Phase)
          → Raised (joined p d a b) (joined (end_raised (record { phase = p; denier = d })).phase (end_raised (record { phase = p; denier = d })).denier a b)
      by Run = refl
      by Request = refl
      by Stopped = record { to = refl; keeps = refl; same_tags = refl }
      by Exit = refl
      by Denied = record { to = refl; keeps = refl; same_tags = refl }
      by Continue = refl

-- what became of one device in a step of its join; it is in order before, between and after
pub record Went {S : Type 0} (m : S → Means) (t : S → Timing) (w : Drive) (x y : S) : Type 0 where
  pub mid : S
  pub before : InOrder m t x
  pub drove : Drove w (m x) (m mid)
  pub undriven : w ≡ Nothing → mid ≡ x
  pub mid_bound : (t mid).bound ≡ (t x).bound
  pub between : InOrder m t mid
  pub stepped : Stepped (m mid) (m y)
  pub ticked : Ticked (m mid).phase (m y).phase (t mid) (t y)
  pub after : InOrder m t y

module _ {S : Type 0} (m : S → Means) (t : S → Timing) (w : Drive) (x y : S) (h : Went m t w x y) where
  pub went_turned : Turned w (m x) (m h.mid) (m y)
  went_turned = record {
    sound = h.before.sound;
    drove = h.drove;
    sound_mid = h.between.sound;
    stepped = h.stepped;
    sound_after = h.after.sound;
  }

  pub went_paced : Paced w (m x).phase (m y).phase (t x) (t h.mid) (t y)
  went_paced =
      let p = turned_phase w (m x) (m h.mid) (m y) went_turned in
      record {
        to = p.1;
        timely = h.before.timely;
        undriven = λ e. ap t (h.undriven e);
        mid_bound = h.mid_bound;
        timely_mid = subst (λ q. Timely q (t h.mid)) p.0 h.between.timely;
        ticked = subst (λ q. Ticked q (m y).phase (t h.mid) (t y)) p.0 h.ticked;
        timely_after = h.after.timely;
      }

-- a noted denier stays
stays : (p : Phase) (d : Option ℕ) (a b : Means) → Stays d (denier_after p d a b)
stays p None a b = tt
stays Run (Some t) a b = refl
stays Request (Some t) a b = refl
stays Stopped (Some t) a b = refl
stays Exit (Some t) a b = refl
stays Denied (Some t) a b = refl
stays Continue (Some t) a b = refl

-- a step of a join at phase p with denier d: the law over meanings and the law over bounds, put together
pub record StepKept (k : Kind) (p : Phase) (d : Option ℕ) (a b x y : Means) (ta tb tx ty : Timing) : Type 0 where
  pub order : Stepped (joined p d a b) (joined (phase_after p d x y) (denier_after p d x y) x y)
  pub pace :
      Ticked p (phase_after p d x y) (join_timing k p d a.phase ta b.phase tb)
      (join_timing k (phase_after p d x y) (denier_after p d x y) x.phase tx y.phase ty)
  pub together : Together (phase_after p d x y) (denier_after p d x y) x y
  pub sequence : InSequence k x y

-- both devices driven as the join's rule says, then stepped
module _ {A B : Type 0} (k : Kind) (ma : A → Means) (ta : A → Timing) (mb : B → Means) (tb : B → Timing) (p : Phase) (d : Option ℕ)
    (i x : A) (j y : B) where
  pub both_went : Together p d (ma i) (mb j) → InSequence k (ma i) (mb j)
      → Went ma ta (first_drive k p (is_some d) (ma i).phase (mb j).phase) i x
      → Went mb tb (second_drive k p (is_some d) (ma i).phase (mb j).phase) j y
      → StepKept k p d (ma i) (mb j) (ma x) (mb y) (ta i) (tb j) (ta x) (tb y)
  both_went h sq f s =
      let a = went_turned ma ta _ i x f in
      let b = went_turned mb tb _ j y s in
      let pair : Pair p d (ma i) (ma x) (mb j) (mb y) = record {
        to_first = _;
        to_second = _;
        first_mid = _;
        second_mid = _;
        together = h;
        first_may = first_may k p (is_some d) (ma i).phase (mb j).phase;
        second_may = second_may k p (is_some d) (ma i).phase (mb j).phase;
        first = a;
        second = b;
      } in
      record {
        order = join_stepped p d (ma i) (ma x) (mb j) (mb y) pair;
        pace = join_ticked k (ma i).phase (ma x).phase (mb j).phase (mb y).phase _ _ _ _ _ _ p d (denier_after p d (ma x) (mb y))
            (phases_at p d (ma i) (mb j) h) (sequence_at k (ma i) (mb j) sq) (stays p d (ma x) (mb y))
            (went_paced ma ta _ i x f) (went_paced mb tb _ j y s);
        together = keeps_together p d (ma i) (ma x) (mb j) (mb y) pair;
        sequence = keeps_sequence k p (is_some d) (ma i) _ (ma x) (mb j) _ (mb y) sq a b;
      }

-- the same by what the calls say
module _ {A B : Type 0} (k : Kind) (ma : A → Means) (ta : A → Timing) (mb : B → Means) (tb : B → Timing)
    (p : Phase) (d : Option ℕ) (i m x : A) (j n y : B) (w v : Drive) where
  pub steps : InOrder ma ta i → InOrder ma ta m → InOrder ma ta x → InOrder mb tb j → InOrder mb tb n → InOrder mb tb y
      → Together p d (ma i) (mb j) → InSequence k (ma i) (mb j)
      → w ≡ first_drive k p (is_some d) (ma i).phase (mb j).phase → v ≡ second_drive k p (is_some d) (ma i).phase (mb j).phase
      → Drove w (ma i) (ma m) → (w ≡ Nothing → m ≡ i) → (ta m).bound ≡ (ta i).bound
      → Stepped (ma m) (ma x) → Ticked (ma m).phase (ma x).phase (ta m) (ta x)
      → Drove v (mb j) (mb n) → (v ≡ Nothing → n ≡ j) → (tb n).bound ≡ (tb j).bound
      → Stepped (mb n) (mb y) → Ticked (mb n).phase (mb y).phase (tb n) (tb y)
      → StepKept k p d (ma i) (mb j) (ma x) (mb y) (ta i) (tb j) (ta x) (tb y)
  steps oi om ox oj on oy h sq ew ev fd fi fb fs ft gd gi gb gs gt =
      both_went k ma ta mb tb p d i x j y h sq
      (subst (λ u. Went ma ta u i x) ew (record {
        mid = m;
        before = oi;
        drove = fd;
        undriven = fi;
        mid_bound = fb;
        between = om;
        stepped = fs;
        ticked = ft;
        after = ox;
      }))
      (subst (λ u. Went mb tb u j y) ev (record {
        mid = n;
        before = oj;
        drove = gd;
        undriven = gi;
        mid_bound = gb;
        between = on;
        stepped = gs;
        ticked = gt;
        after = oy;
      }))

-- a join over two devices just reset
pub resets : (p : Phase) (d : Option ℕ) (a x b y : Means) → Reset a x → Reset b y → Reset (joined p d a b) (joined Stopped None x y)
resets p d a x b y ra rb = record {
  to = refl;
  all_stopped = each_++ _ x.leaves y.leaves ra.all_stopped rb.all_stopped;
  none = refl;
  same_tags = tags-++ x.leaves y.leaves ∙ (rw (ra.same_tags, rb.same_tags) (sym (tags-++ a.leaves b.leaves)));
}
