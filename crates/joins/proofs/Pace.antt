-- The law of a join over bounds and steps left: a step that keeps the join's open phase lowers them.
use Rattle.std.proofs.Common.{◌≡◌, ℕ, ◌+◌, ◌*◌, ◌<◌, ◌≤◌, Bool, true, false, ◌⊎◌, is_some, Some, None, Option, refl, ap, ◌∙◌, arith}
use Rattle.channel.specs.declared.phase.Phase.{Phase}
use Rattle.channel.specs.declared.phase.Phase.TheVariants.{Run, Request, Stopped, Exit, Denied, Continue}
use Rattle.channel.specs.Means.{Waking}
use Rattle.channel.specs.Calls.{StepTo, Open}
use Rattle.channel.specs.Timing.{Timing, Timely, Ticked}
use Rattle.joins.specs.declared.rules.Kind.{Kind}
use Rattle.joins.specs.declared.rules.Kind.TheVariants.{Distributor, Sequencer}
use Rattle.joins.specs.declared.rules.Drive.{Drive}
use Rattle.joins.specs.declared.rules.Drive.TheVariants.{Nothing, Lower, Raise}
use Rattle.joins.specs.Rules.{first_drive, second_drive, distributor_drive, decided}
use Rattle.joins.specs.Turns.{driven}
use Rattle.joins.specs.Bounds.{combine, answer_in, return_in, join_left, join_timing}
use Rattle.joins.specs.Ordered.{AskingAt, FirmAt, PhasesAt}
use Rattle.joins.proofs.Order.{May, first_may, second_may}

-- one step of a device below a join, from phase p to phase q, with the timing before, between and after
pub record Paced (w : Drive) (p q : Phase) (t mid u : Timing) : Type 0 where
  pub to : StepTo (driven w p) q
  pub timely : Timely p t
  pub undriven : w ≡ Nothing → mid ≡ t
  pub mid_bound : mid.bound ≡ t.bound
  pub timely_mid : Timely (driven w p) mid
  pub ticked : Ticked (driven w p) q mid u
  pub timely_after : Timely q u

pub same_bound : (w : Drive) (p q : Phase) (t mid u : Timing) → Paced w p q t mid u → u.bound ≡ t.bound
same_bound w p q t mid u h = h.ticked.same_bound ∙ h.mid_bound

-- a device that is driven or in an open phase gets on; any other rests
abbrev pub moves : Drive → Phase → Bool
moves Nothing Run = false
moves Nothing Request = true
moves Nothing Stopped = false
moves Nothing Exit = true
moves Nothing Denied = false
moves Nothing Continue = true
moves Lower p = true
moves Raise p = true

-- what a device that is asked to stop does to a count of steps x, and to the steps v that it would take to return
abbrev pub Gains : Bool → ℕ → ℕ → ℕ → ℕ → Type 0
Gains true x y b v = (y < x) × (v < x + b)
Gains false x y b v = (y ≡ x) × (v ≤ x + b)

pub asked_gains : (w : Drive) (p q : Phase) (t mid u : Timing) → AskingAt p → May Request false p w → Paced w p q t mid u
    → Gains (moves w p) (answer_in p t) (answer_in q u) t.bound (return_in q u)
asked_gains w p q t mid u a may h = grind arith

abbrev pub Falls : Bool → ℕ → ℕ → Type 0
Falls true x y = y < x
Falls false x y = y ≡ x

pub backs_out : (w : Drive) (p q : Phase) (t mid u : Timing) → May Request true p w → Paced w p q t mid u
    → Falls (moves w p) (return_in p t) (return_in q u)
backs_out w p q t mid u may h = grind arith

pub wakes : (b : Bool) (w : Drive) (p q : Phase) (t mid u : Timing) → Waking p → May Exit b p w → Paced w p q t mid u
    → Falls (moves w p) (return_in p t) (return_in q u)
wakes b w p q t mid u k may h = grind arith

-- below a distributor a device that rests has nothing left to do
abbrev Spent : Kind → Bool → ℕ → Type 0
Spent Distributor f x = f ≡ false → x ≡ 0
Spent Sequencer f x = Unit {0}

asks_combine : (k : Kind) (f s : Bool) (x x' b v y y' c z : ℕ) → Gains f x x' b v → Gains s y y' c z
    → (f ≡ true) ⊎ (s ≡ true) → Spent k f x → Spent k s y
    → (combine k x' y' < combine k x y) × (combine k v z < combine k x y + combine k b c)
asks_combine Distributor f s x x' b v y y' c z g h one zf zs = grind arith
asks_combine Sequencer f s x x' b v y y' c z g h one zf zs = grind arith

falls_combine : (k : Kind) (f s : Bool) (x x' y y' : ℕ) → Falls f x x' → Falls s y y'
    → (f ≡ true) ⊎ (s ≡ true) → Spent k f x → Spent k s y → combine k x' y' < combine k x y
falls_combine Distributor f s x x' y y' g h one zf zs = grind arith
falls_combine Sequencer f s x x' y y' g h one zf zs = grind arith

-- phases of a sequencer's devices
abbrev pub SequenceAt : Kind → Phase → Phase → Type 0
SequenceAt Distributor x y = Unit {0}
SequenceAt Sequencer x y = (y ≡ Run) ⊎ (x ≡ Stopped)

-- one device at least gets on, unless both are where the join wants them
one_asked : (k : Kind) (x y q r : Phase) → AskingAt x → AskingAt y → SequenceAt k x y
    → StepTo (driven (first_drive k Request false x y) x) q → StepTo (driven (second_drive k Request false x y) y) r
    → (q ≡ Stopped → r ≡ Stopped → ⊥)
    → (moves (first_drive k Request false x y) x ≡ true) ⊎ (moves (second_drive k Request false x y) y ≡ true)
one_asked Distributor x y q r ax ay sq tx ty n = grind arith
one_asked Sequencer x y q r ax ay sq tx ty n = grind arith

one_back : (k : Kind) (x y q r : Phase) → FirmAt x ⊎ FirmAt y → SequenceAt k x y
    → StepTo (driven (first_drive k Request true x y) x) q → StepTo (driven (second_drive k Request true x y) y) r
    → (q ≡ Run → r ≡ Run → ⊥)
    → (moves (first_drive k Request true x y) x ≡ true) ⊎ (moves (second_drive k Request true x y) y ≡ true)
one_back Distributor x y q r f sq tx ty n = grind arith
one_back Sequencer x y q r f sq tx ty n = grind arith

one_wakes : (k : Kind) (b : Bool) (x y q r : Phase) → Waking x → Waking y → SequenceAt k x y
    → StepTo (driven (first_drive k Exit b x y) x) q → StepTo (driven (second_drive k Exit b x y) y) r
    → (q ≡ Run → r ≡ Run → ⊥)
    → (moves (first_drive k Exit b x y) x ≡ true) ⊎ (moves (second_drive k Exit b x y) y ≡ true)
one_wakes Distributor b x y q r wx wy sq tx ty n = grind arith
one_wakes Sequencer b x y q r wx wy sq tx ty n = grind arith

spent_asked : (k : Kind) (w : Drive) (p : Phase) (t : Timing) → AskingAt p → (k ≡ Distributor → w ≡ distributor_drive Request false p)
    → Spent k (moves w p) (answer_in p t)
spent_asked Distributor w p t a e = grind arith
spent_asked Sequencer w p t a e = tt

spent_back : (k : Kind) (w : Drive) (p : Phase) (t : Timing) → (k ≡ Distributor → w ≡ distributor_drive Request true p)
    → Spent k (moves w p) (return_in p t)
spent_back Distributor w p t e = grind arith
spent_back Sequencer w p t e = tt

spent_wakes : (k : Kind) (b : Bool) (w : Drive) (p : Phase) (t : Timing) → Waking p → (k ≡ Distributor → w ≡ distributor_drive Exit b p)
    → Spent k (moves w p) (return_in p t)
spent_wakes Distributor b w p t a e = grind arith
spent_wakes Sequencer b w p t a e = tt

-- a denier stays
abbrev pub Stays : Option ℕ → Option ℕ → Type 0
Stays None e = Unit {0}
Stays (Some z) e = e ≡ Some z

first_same : (k : Kind) (p : Phase) (n : Bool) (x y : Phase) → k ≡ Distributor → first_drive k p n x y ≡ distributor_drive p n x
first_same Distributor p n x y e = refl
first_same Sequencer p n x y e = grind arith

second_same : (k : Kind) (p : Phase) (n : Bool) (x y : Phase) → k ≡ Distributor → second_drive k p n x y ≡ distributor_drive p n y
second_same Distributor p n x y e = refl
second_same Sequencer p n x y e = grind arith

module _ (k : Kind) (x q y r : Phase) (t tm t' u um u' : Timing) where
  request_gains : SequenceAt k x y → AskingAt x → AskingAt y
      → Paced (first_drive k Request false x y) x q t tm t' → Paced (second_drive k Request false x y) y r u um u'
      → (q ≡ Stopped → r ≡ Stopped → ⊥)
      → (combine k (answer_in q t') (answer_in r u') < combine k (answer_in x t) (answer_in y u))
      × (combine k (return_in q t') (return_in r u') < combine k (answer_in x t) (answer_in y u) + combine k t.bound u.bound)
  request_gains sq ax ay a b n =
      asks_combine k _ _ _ _ _ _ _ _ _ _
      (asked_gains _ x q t tm t' ax (first_may k Request false x y) a)
      (asked_gains _ y r u um u' ay (second_may k Request false x y) b)
      (one_asked k x y q r ax ay sq a.to b.to n)
      (spent_asked k _ x t ax (first_same k Request false x y))
      (spent_asked k _ y u ay (second_same k Request false x y))

  back_falls : SequenceAt k x y → FirmAt x ⊎ FirmAt y
      → Paced (first_drive k Request true x y) x q t tm t' → Paced (second_drive k Request true x y) y r u um u'
      → (q ≡ Run → r ≡ Run → ⊥)
      → combine k (return_in q t') (return_in r u') < combine k (return_in x t) (return_in y u)
  back_falls sq f a b n =
      falls_combine k _ _ _ _ _ _
      (backs_out _ x q t tm t' (first_may k Request true x y) a)
      (backs_out _ y r u um u' (second_may k Request true x y) b)
      (one_back k x y q r f sq a.to b.to n)
      (spent_back k _ x t (first_same k Request true x y))
      (spent_back k _ y u (second_same k Request true x y))

  exit_falls : (n : Bool) → SequenceAt k x y → Waking x → Waking y
      → Paced (first_drive k Exit n x y) x q t tm t' → Paced (second_drive k Exit n x y) y r u um u'
      → (q ≡ Run → r ≡ Run → ⊥)
      → combine k (return_in q t') (return_in r u') < combine k (return_in x t) (return_in y u)
  exit_falls n sq wx wy a b z =
      falls_combine k _ _ _ _ _ _
      (wakes n _ x q t tm t' wx (first_may k Exit n x y) a)
      (wakes n _ y r u um u' wy (second_may k Exit n x y) b)
      (one_wakes k n x y q r wx wy sq a.to b.to z)
      (spent_wakes k n _ x t wx (first_same k Exit n x y))
      (spent_wakes k n _ y u wy (second_same k Exit n x y))

  bounds_same : {w v : Drive} → Paced w x q t tm t' → Paced v y r u um u'
      → combine k t'.bound u'.bound ≡ combine k t.bound u.bound
  bounds_same {w} {v} a b = rw (same_bound w x q t tm t' a, same_bound v y r u um u' b)

  fewer_left : (p : Phase) (d e : Option ℕ) → PhasesAt p d x y → SequenceAt k x y → Stays d e
      → Paced (first_drive k p (is_some d) x y) x q t tm t' → Paced (second_drive k p (is_some d) x y) y r u um u'
      → Open p → decided p (is_some e) q r ≡ p
      → join_left k (decided p (is_some e) q r) e q t' r u' < join_left k p d x t y u
  fewer_left Run d e h sq st a b o z = elim o [ ]
  fewer_left Request None None h sq st a b o z =
      let n : q ≡ Stopped → r ≡ Stopped → ⊥ = grind arith in
      let g = request_gains sq h.0 h.1 a b n in
      rw z (rw (bounds_same a b) (omega (arith, g.0)))
  fewer_left Request None (Some e) h sq st a b o z =
      let n : q ≡ Stopped → r ≡ Stopped → ⊥ = grind arith in
      rw z (request_gains sq h.0 h.1 a b n).1
  fewer_left Request (Some d) None h sq st a b o z = grind arith
  fewer_left Request (Some d) (Some e) h sq st a b o z =
      let n : q ≡ Run → r ≡ Run → ⊥ = grind arith in
      rw z (back_falls sq h.0 a b n)
  fewer_left Stopped d e h sq st a b o z = elim o [ ]
  fewer_left Exit d e h sq st a b o z =
      let n : q ≡ Run → r ≡ Run → ⊥ = grind arith in
      rw z (exit_falls (is_some d) sq h.0 h.1 a b n)
  fewer_left Denied d e h sq st a b o z = elim o [ ]
  fewer_left Continue d e h sq st a b o z = grind arith

  -- a step of a join keeps to its bound
  pub join_ticked : (p : Phase) (d e : Option ℕ) → PhasesAt p d x y → SequenceAt k x y → Stays d e
      → Paced (first_drive k p (is_some d) x y) x q t tm t' → Paced (second_drive k p (is_some d) x y) y r u um u'
      → Ticked p (decided p (is_some e) q r) (join_timing k p d x t y u)
      (join_timing k (decided p (is_some e) q r) e q t' r u')
  join_ticked p d e h sq st a b = record {
    fewer = fewer_left p d e h sq st a b;
    same_bound = ap (λ n. 2 * n) (bounds_same a b);
  }
