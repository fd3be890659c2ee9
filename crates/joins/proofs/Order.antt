-- The law of a join over phases, leaves and deniers: whatever its devices answer, a step of the join
-- is a step of a device in order. One law for distributor and sequencer, since a sequencer drives
-- a device as a distributor does, or not at all.
use Rattle.std.proofs.Common.{◌≡◌, ℕ, Bool, true, false, cond, eqb, ◌⊎◌, List, ◌++◌, is_some, Some, None, Option, sym, refl, ap, ◌∙◌, subst, inl, inr, arith}
use Rattle.channel.specs.declared.phase.Phase.{Phase}
use Rattle.channel.specs.declared.phase.Phase.TheVariants.{Run, Request, Stopped, Exit, Denied, Continue}
use Rattle.channel.specs.Means.{Means, tags, leftmost, Has, Waking}
use Rattle.channel.specs.Calls.{Stepped, StepTo, Open, noted}
use Rattle.joins.specs.declared.rules.Kind.{Kind}
use Rattle.joins.specs.declared.rules.Kind.TheVariants.{Distributor, Sequencer}
use Rattle.joins.specs.declared.rules.Drive.{Drive}
use Rattle.joins.specs.declared.rules.Drive.TheVariants.{Nothing, Lower, Raise}
use Rattle.joins.specs.Rules.{first_drive, second_drive, distributor_drive, sequencer_first, sequencer_second, while_at, raise_denied, heard, or_else, decided}
use Rattle.joins.specs.Turns.{Drove, Turned, driven}
use Rattle.joins.specs.Together.{joined, Asking, Firm, Both, Together, InSequence, denier_after, phase_after}
use Rattle.joins.specs.Leaves.{tags-++, leftmost-++}
use Rattle.joins.specs.Ordered.{run_none, stopped_none}

-- a drive that a distributor gives, or none
abbrev pub May : Phase → Bool → Phase → Drive → Type 0
May p n x w = (w ≡ Nothing) ⊎ (w ≡ distributor_drive p n x)

while_may : (p : Phase) (n : Bool) (x y z : Phase) → May p n x (while_at y z (distributor_drive p n x))
while_may p n x y z = by (eqb _ _)
  where
    by : (b : Bool) → May p n x (cond b (distributor_drive p n x) Nothing)
    by true = inr refl
    by false = inl refl

pub first_may : (k : Kind) (p : Phase) (n : Bool) (x y : Phase) → May p n x (first_drive k p n x y)
first_may Distributor p n x y = inr refl
first_may Sequencer Run n x y = inr refl
first_may Sequencer Request false x y = inr refl
first_may Sequencer Request true x y = while_may Request true x y Run
first_may Sequencer Stopped n x y = inr refl
first_may Sequencer Exit n x y = while_may Exit n x y Run
first_may Sequencer Denied n x y = inr refl
first_may Sequencer Continue n x y = inr refl

pub denied_may : (y : Phase) → May Request true y (raise_denied y)
denied_may Run = inl refl
denied_may Request = inl refl
denied_may Stopped = inl refl
denied_may Exit = inl refl
denied_may Denied = inr refl
denied_may Continue = inl refl

pub second_may : (k : Kind) (p : Phase) (n : Bool) (x y : Phase) → May p n y (second_drive k p n x y)
second_may Distributor p n x y = inr refl
second_may Sequencer Run n x y = inr refl
second_may Sequencer Request false x y = while_may Request false y x Stopped
second_may Sequencer Request true x y = denied_may y
second_may Sequencer Stopped n x y = inr refl
second_may Sequencer Exit n x y = inr refl
second_may Sequencer Denied n x y = inr refl
second_may Sequencer Continue n x y = inr refl

-- a device that was asked, or not yet: what it tells is its leftmost leaf at Denied
pub record Asked (n : Means) : Type 0 where
  pub tells : heard n.phase n.denier ≡ leftmost n.leaves
  pub calm : heard n.phase n.denier ≡ None → Asking n
  pub firm : Has (heard n.phase n.denier) → Firm n
  pub away : Has (heard n.phase n.denier) → n.phase ≡ Run → ⊥

pub asked : (w : Drive) (m mid n : Means) → Asking m → May Request false m.phase w → Turned w m mid n → Asked n
asked w m mid n a may t =
    let run : n.phase ≡ Run → leftmost n.leaves ≡ None = run_none n t.sound_after in
    let stop : n.phase ≡ Stopped → leftmost n.leaves ≡ None = stopped_none n t.sound_after in
    record { tells = grind arith; calm = grind arith; firm = grind arith; away = grind arith }

-- a device that is not going to stop stays so while the join backs out
pub stays_firm : (w : Drive) (m mid n : Means) → Firm m → May Request true m.phase w → Turned w m mid n → Firm n
stays_firm w m mid n f may t = grind arith

pub stays_waking : (w : Drive) (b : Bool) (m mid n : Means) → Waking m.phase → May Exit b m.phase w → Turned w m mid n → Waking n.phase
stays_waking w b m mid n k may t = grind arith

-- a device at rest that is not driven
pub record Still (m n : Means) : Type 0 where
  pub phase : n.phase ≡ m.phase
  pub leaves : n.leaves ≡ m.leaves

pub stays_still : (w : Drive) (m mid n : Means) → (m.phase ≡ Run) ⊎ (m.phase ≡ Stopped)
    → w ≡ Nothing → Turned w m mid n → Still m n
stays_still w m mid n at e t = record { phase = grind arith; leaves = grind arith }

-- a join at phase p with denier d over devices a and b, which its step turned into x and y
pub record Pair (p : Phase) (d : Option ℕ) (a x b y : Means) : Type 0 where
  pub to_first : Drive
  pub to_second : Drive
  pub first_mid : Means
  pub second_mid : Means
  pub together : Together p d a b
  pub first_may : May p (is_some d) a.phase to_first
  pub second_may : May p (is_some d) b.phase to_second
  pub first : Turned to_first a first_mid x
  pub second : Turned to_second b second_mid y

-- Run, Stopped, Denied and Continue drive nothing
abbrev Quiet : Phase → Type 0
Quiet Run = Unit {0}
Quiet Request = ⊥
Quiet Stopped = Unit {0}
Quiet Exit = ⊥
Quiet Denied = Unit {0}
Quiet Continue = Unit {0}

rest_at : (p : Phase) (d : Option ℕ) (a b : Means) → Quiet p → Together p d a b
    → ((a.phase ≡ Run) ⊎ (a.phase ≡ Stopped)) × ((b.phase ≡ Run) ⊎ (b.phase ≡ Stopped))
rest_at Run d a b q h = (inl h.first, inl h.second)
rest_at Request d a b q h = elim q [ ]
rest_at Stopped d a b q h = (inr h.0.first, inr h.0.second)
rest_at Exit d a b q h = elim q [ ]
rest_at Denied d a b q h = (inl h.0.first, inl h.0.second)
rest_at Continue d a b q h = (inl h.0.first, inl h.0.second)

undriven : (p : Phase) (n : Bool) (x : Phase) (w : Drive) → Quiet p → May p n x w → w ≡ Nothing
undriven Run n x w q h = grind arith
undriven Request n x w q h = elim q [ ]
undriven Stopped n x w q h = grind arith
undriven Exit n x w q h = elim q [ ]
undriven Denied n x w q h = grind arith
undriven Continue n x w q h = grind arith

quiet_still : (p : Phase) (d : Option ℕ) (a x b y : Means) → Quiet p → Pair p d a x b y → Still a x × Still b y
quiet_still p d a x b y q h =
    let at = rest_at p d a b q h.together in (
      stays_still _ a _ x at.0 (undriven p _ _ _ q h.first_may) h.first,
      stays_still _ b _ y at.1 (undriven p _ _ _ q h.second_may) h.second,
    )

both_asked : (a x b y : Means) → Pair Request None a x b y → Asked x × Asked y
both_asked a x b y h =
    (asked _ a _ x h.together.0 h.first_may h.first, asked _ b _ y h.together.1 h.second_may h.second)

one_firm : (t : ℕ) (a x b y : Means) → Pair Request (Some t) a x b y → Firm x ⊎ Firm y
one_firm t a x b y h = by h.together.0
  where
    by : Firm a ⊎ Firm b → Firm x ⊎ Firm y
    by (inl f) = inl (stays_firm _ a _ x f h.first_may h.first)
    by (inr f) = inr (stays_firm _ b _ y f h.second_may h.second)

-- the devices after a step go with the join's own phase and denier after it
asked_keeps : (x y : Means) → Asked x → Asked y
    → Together (phase_after Request None x y) (denier_after Request None x y) x y
asked_keeps x y qa qb = grind arith

firm_keeps : (t : ℕ) (x y : Means) → Firm x ⊎ Firm y → Together (phase_after Request (Some t) x y) (Some t) x y
firm_keeps t x y f = grind arith

waking_keeps : (d : Option ℕ) (x y : Means) → Waking x.phase → Waking y.phase → d ≡ None
    → Together (phase_after Exit d x y) d x y
waking_keeps d x y wx wy e = grind arith

still_keeps : (p : Phase) (a x b y : Means) → Still a x → Still b y → Both p a b → Both p x y
still_keeps p a x b y sa sb h = record { first = sa.phase ∙ h.first; second = sb.phase ∙ h.second }

pub keeps_together : (p : Phase) (d : Option ℕ) (a x b y : Means) → Pair p d a x b y
    → Together (phase_after p d x y) (denier_after p d x y) x y
keeps_together Run d a x b y h =
    let s = quiet_still Run d a x b y tt h in
    still_keeps Run a x b y s.0 s.1 h.together
keeps_together Request None a x b y h =
    let q = both_asked a x b y h in
    asked_keeps x y q.0 q.1
keeps_together Request (Some t) a x b y h = firm_keeps t x y (one_firm t a x b y h)
keeps_together Stopped d a x b y h =
    let s = quiet_still Stopped d a x b y tt h in
    (still_keeps Stopped a x b y s.0 s.1 h.together.0, h.together.1)
keeps_together Exit d a x b y h =
    waking_keeps d x y
    (stays_waking _ (is_some d) a _ x h.together.0 h.first_may h.first)
    (stays_waking _ (is_some d) b _ y h.together.1 h.second_may h.second)
    h.together.3
keeps_together Denied d a x b y h =
    let s = quiet_still Denied d a x b y tt h in
    (still_keeps Run a x b y s.0 s.1 h.together.0, h.together.1)
keeps_together Continue d a x b y h =
    let s = quiet_still Continue d a x b y tt h in
    still_keeps Run a x b y s.0 s.1 h.together.0

-- where a join goes
goes_to : (p : Phase) (b : Bool) (x y : Phase) → StepTo p (decided p b x y)
goes_to Run b x y = refl
goes_to Request b x y = grind arith
goes_to Stopped b x y = refl
goes_to Exit b x y = grind arith
goes_to Denied b x y = refl
goes_to Continue b x y = inr refl

-- what a join notes is the leftmost leaf at Denied
notes : (p : Phase) (d : Option ℕ) (a x b y : Means) → Pair p d a x b y
    → denier_after p d x y ≡ noted p d (x.leaves ++ y.leaves)
notes Run d a x b y h = refl
notes Request None a x b y h =
    let q = both_asked a x b y h in
    ap (λ t. or_else t (heard y.phase y.denier)) q.0.tells
    ∙ (ap (or_else (leftmost x.leaves)) q.1.tells ∙ sym (leftmost-++ x.leaves y.leaves))
notes Request (Some t) a x b y h = refl
notes Stopped d a x b y h = refl
notes Exit d a x b y h = refl
notes Denied d a x b y h = refl
notes Continue d a x b y h = refl

closed_quiet : (p : Phase) → (Open p → ⊥) → Quiet p
closed_quiet Run n = tt
closed_quiet Request n = n tt
closed_quiet Stopped n = tt
closed_quiet Exit n = n tt
closed_quiet Denied n = tt
closed_quiet Continue n = tt

pub turned_tags : (w : Drive) (m mid n : Means) → Turned w m mid n → tags n.leaves ≡ tags m.leaves
turned_tags w m mid n t = t.stepped.same_tags ∙ by w t.drove
  where
    by : (w : Drive) → Drove w m mid → tags mid.leaves ≡ tags m.leaves
    by Nothing e = ap (λ q. tags q.leaves) e
    by Lower e = grind arith
    by Raise e = grind arith

-- a step of a join is a step of a device
pub join_stepped : (p : Phase) (d : Option ℕ) (a x b y : Means) → Pair p d a x b y
    → Stepped (joined p d a b) (joined (phase_after p d x y) (denier_after p d x y) x y)
join_stepped p d a x b y h = record {
  to = goes_to p _ x.phase y.phase;
  still = λ c. let s = quiet_still p d a x b y (closed_quiet p c) h in joins s.0.leaves s.1.leaves;
  note = notes p d a x b y h;
  same_tags =
      tags-++ x.leaves y.leaves
      ∙ (joins (turned_tags _ a _ x h.first) (turned_tags _ b _ y h.second) ∙ sym (tags-++ a.leaves b.leaves));
}
  where
    joins : {X : Type 0} {l m k n : List X} → l ≡ m → k ≡ n → l ++ k ≡ m ++ n
    joins e f = rw (e, f)

pub turned_phase : (w : Drive) (m mid n : Means) → Turned w m mid n → (mid.phase ≡ driven w m.phase) × StepTo (driven w m.phase) n.phase
turned_phase w m mid n t =
    let e : mid.phase ≡ driven w m.phase = drove_phase w t.drove in
    (e, subst (λ q. StepTo q n.phase) e t.stepped.to)
  where
    drove_phase : (w : Drive) → Drove w m mid → mid.phase ≡ driven w m.phase
    drove_phase Nothing d = ap (λ q. q.phase) d
    drove_phase Lower d = grind arith
    drove_phase Raise d = grind arith

-- a sequencer lowers its second only where the first is stopped, and raises its first only where the second runs
in_sequence : (p : Phase) (n : Bool) (x y q r : Phase) → (y ≡ Run) ⊎ (x ≡ Stopped)
    → StepTo (driven (sequencer_first p n x y) x) q → StepTo (driven (sequencer_second p n x y) y) r → (r ≡ Run) ⊎ (q ≡ Stopped)
in_sequence Run n x y q r h a b = grind arith
in_sequence Request false x y q r h a b = grind arith
in_sequence Request true x y q r h a b = grind arith
in_sequence Stopped n x y q r h a b = grind arith
in_sequence Exit n x y q r h a b = grind arith
in_sequence Denied n x y q r h a b = grind arith
in_sequence Continue n x y q r h a b = grind arith

pub keeps_sequence : (k : Kind) (p : Phase) (n : Bool) (a ma x b mb y : Means) → InSequence k a b
    → Turned (first_drive k p n a.phase b.phase) a ma x → Turned (second_drive k p n a.phase b.phase) b mb y
    → InSequence k x y
keeps_sequence Distributor p n a ma x b mb y h ta tb = tt
keeps_sequence Sequencer p n a ma x b mb y h ta tb =
    in_sequence p n a.phase b.phase x.phase y.phase h
    (turned_phase _ a ma x ta).1 (turned_phase _ b mb y tb).1
