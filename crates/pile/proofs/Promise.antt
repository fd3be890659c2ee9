-- Every run of a pile's own calls keeps the promise.
use Rattle.std.proofs.Common.{◌≡◌, ℕ, ◌+◌, ◌<◌, ◌≤◌, Bool, true, false, ◌⊎◌, List, [], ◌∷◌, ◌++◌, Some, None, Option, sym, refl, ap, ◌∙◌, subst, inl, inr, arith}
use Rattle.channel.specs.declared.phase.Phase.{Phase}
use Rattle.channel.specs.declared.phase.Phase.TheVariants.{Run, Request, Stopped, Exit, Denied, Continue}
use Rattle.channel.specs.Means.{Leaf, leftmost, tag_or, Has}
use Rattle.channel.specs.Calls.{or_leftmost}
use Rattle.channel.specs.Timing.{Timing}
use Rattle.pile.specs.Views.{End, View, number, AtRequest, AtDenied, Opened}
use Rattle.pile.specs.Calls.{Kind, stop, back, tick, other, StopAsked, Ended, Called, Timed}
use Rattle.pile.specs.Runs.{Moment, Standing, Stood, or_then, earliest, Answered, Asks, one_step, last, views, AllIn, steps, Fit, Play, Every}

-- a leaf stands denied just where there is a leftmost one
standing_has : (ls : List Leaf) → Standing ls → Has (leftmost ls)
standing_has [] s = elim s [ ]
standing_has (l ∷ ls) (inl e) = grind arith
standing_has (l ∷ ls) (inr s) = let r : Has (leftmost ls) = standing_has ls s in grind arith

has_standing : (ls : List Leaf) → Has (leftmost ls) → Standing ls
has_standing [] h = elim h [ ]
has_standing (l ∷ ls) h = by l.at refl (has_standing ls) h
  where
    by : (p : Phase) → l.at ≡ p → (Has (leftmost ls) → Standing ls) → Has (tag_or p l.tag (leftmost ls)) → (l.at ≡ Denied) ⊎ Standing ls
    by Run e f k = inr (f k)
    by Request e f k = inr (f k)
    by Stopped e f k = inr (f k)
    by Exit e f k = inr (f k)
    by Denied e f k = inl e
    by Continue e f k = inr (f k)

has_or : (x y : Option ℕ) → Has (or_then x y) → Has x ⊎ Has y
has_or (Some t) y h = inl h
has_or None y h = inr h

or_has : (x y : Option ℕ) → Has x ⊎ Has y → Has (or_then x y)
or_has x y h = grind arith

stood_has : (vs : List View) → Stood vs → Has (earliest vs)
stood_has [] s = elim s [ ]
stood_has (v ∷ vs) (inl s) = or_has _ _ (inl (standing_has v.leaves s))
stood_has (v ∷ vs) (inr s) = or_has (leftmost v.leaves) _ (inr (stood_has vs s))

has_stood : (vs : List View) → Has (earliest vs) → Stood vs
has_stood [] h = elim h [ ]
has_stood (v ∷ vs) h = by (has_or _ _ h) (has_stood vs)
  where
    by : Has (leftmost v.leaves) ⊎ Has (earliest vs) → (Has (earliest vs) → Stood vs) → Standing v.leaves ⊎ Stood vs
    by (inl k) f = inl (has_standing v.leaves k)
    by (inr k) f = inr (f k)

or_assoc : (x y z : Option ℕ) → or_then (or_then x y) z ≡ or_then x (or_then y z)
or_assoc (Some t) y z = refl
or_assoc None y z = refl

or_none : (x : Option ℕ) → or_then x None ≡ x
or_none (Some t) = refl
or_none None = refl

-- whether a phase is opened from above goes by its number
opened_odd : (e : End) → Opened e → (number e ≡ 1) ⊎ (number e ≡ 3) ⊎ (number e ≡ 5)
opened_odd e o = grind arith

odd_opened : (e : End) → (number e ≡ 1) ⊎ (number e ≡ 3) ⊎ (number e ≡ 5) → Opened e
odd_opened e o = grind arith

same_opened : (e f : End) → number f ≡ number e → Opened e → Opened f
same_opened e f i o = odd_opened f (rw i (opened_odd e o))

-- at Request, a call that keeps it adds what the leaves now tell
seen_more : (k : Kind) (b : Bool) (v w : View) (seen : Option ℕ) → Called k b v w → AtRequest v.at
    → v.denier ≡ seen → (seen ≡ None → leftmost v.leaves ≡ None) → w.denier ≡ or_then seen (leftmost w.leaves)
seen_more stop true v w seen c r d n = elim (c.closed (odd_opened v.at (inl r))) [ ]
seen_more stop false v w seen c r d n = rw c (grind arith)
seen_more back true v w seen c r d n = elim (c.closed (odd_opened v.at (inl r))) [ ]
seen_more back false v w seen c r d n = rw c (grind arith)
seen_more tick true v w seen c r d n = c.note r ∙ rw d (by seen)
  where
    by : (o : Option ℕ) → or_leftmost o w.leaves ≡ or_then o (leftmost w.leaves)
    by (Some t) = refl
    by None = refl
seen_more tick false v w seen c r d n = elim c [ ]
seen_more other true v w seen c r d n = rw c (grind arith)
seen_more other false v w seen c r d n = rw c (grind arith)

-- only a step ends a request
ends_so : (k : Kind) (b : Bool) (v w : View) → Called k b v w → AtRequest v.at → (AtRequest w.at → ⊥) → Ended w.at w.denier
ends_so stop true v w c r n = elim (n c.opens) [ ]
ends_so stop false v w c r n = elim (n (rw c r)) [ ]
ends_so back true v w c r n = elim (c.closed (odd_opened v.at (inl r))) [ ]
ends_so back false v w c r n = elim (n (rw c r)) [ ]
ends_so tick true v w c r n = c.ends r n
ends_so tick false v w c r n = elim c [ ]
ends_so other true v w c r n = elim (n (rw c r)) [ ]
ends_so other false v w c r n = elim (n (rw c r)) [ ]

or_none_right : (x y : Option ℕ) → or_then x y ≡ None → y ≡ None
or_none_right x y e = grind arith

same_bounds : (k : Kind) (b : Bool) (e f : End) (t u : Timing) → Timed k b e f t u → u.bound ≡ t.bound
same_bounds stop true e f t u h = h
same_bounds stop false e f t u h = ap (λ x. x.bound) h
same_bounds back true e f t u h = h
same_bounds back false e f t u h = ap (λ x. x.bound) h
same_bounds tick true e f t u h = h.same_bound
same_bounds tick false e f t u h = elim h [ ]
same_bounds other true e f t u h = ap (λ x. x.bound) h
same_bounds other false e f t u h = ap (λ x. x.bound) h

-- in an opened phase that stays, each step takes one from the steps left
one_fewer : (k : Kind) (b : Bool) (v w : View) (t u : Timing) (n : ℕ) → Called k b v w → Timed k b v.at w.at t u
    → Opened v.at → number w.at ≡ number v.at → n < u.left → one_step k + n < t.left
one_fewer stop true v w t u n c h o i l = elim (c.closed o) [ ]
one_fewer stop false v w t u n c h o i l = grind arith
one_fewer back true v w t u n c h o i l = elim (c.closed o) [ ]
one_fewer back false v w t u n c h o i l = grind arith
one_fewer tick true v w t u n c h o i l = let z : u.left < t.left = h.fewer o i in omega arith
one_fewer tick false v w t u n c h o i l = elim c [ ]
one_fewer other true v w t u n c h o i l = grind arith
one_fewer other false v w t u n c h o i l = grind arith

module _ {S C : Type 0} (ordered : S → Type 0) (view : S → View) (timing : S → Timing) (kind : C → Kind)
    (makes : C → Bool → S → S → Type 0) where
  abbrev RunOf : S → List (Moment S C) → Type 0
  RunOf = Play ordered view timing kind makes

  fit_last : (x : S) (run : List (Moment S C)) → Fit ordered view timing x → RunOf x run → Fit ordered view timing (last x run)
  fit_last x [] f p = f
  fit_last x (k ∷ ks) f p = fit_last k.state ks p.0.linked.fit p.1

  play_front : (x : S) (before after : List (Moment S C)) → RunOf x (before ++ after) → RunOf x before
  play_front x [] after p = tt
  play_front x (k ∷ ks) after p = (p.0, play_front k.state ks after p.1)

  play_back : (x : S) (before after : List (Moment S C)) → RunOf x (before ++ after) → RunOf (last x before) after
  play_back x [] after p = p
  play_back x (k ∷ ks) after p = play_back k.state ks after p.1

  bound_last : (x : S) (run : List (Moment S C)) → RunOf x run → (timing (last x run)).bound ≡ (timing x).bound
  bound_last x [] p = refl
  bound_last x (k ∷ ks) p =
      bound_last k.state ks p.1 ∙ same_bounds (kind k.call) k.accepted _ _ _ _ p.0.linked.timed

  -- from a request to its end: what is told there is the earliest leaf that stood denied
  answer_run : (y : S) (seen : Option ℕ) (during : List (Moment S C)) (end : Moment S C) (after : List (Moment S C))
      → AtRequest (view y).at → (view y).denier ≡ seen → (seen ≡ None → leftmost (view y).leaves ≡ None)
      → RunOf y (during ++ (end ∷ after)) → AllIn view 1 during → (AtRequest (view end.state).at → ⊥)
      → Ended (view end.state).at (view end.state).denier
      × ((view end.state).denier ≡ or_then seen (earliest (views view (during ++ (end ∷ [])))))
  answer_run y seen [] end after r d n p a z = (
    ends_so (kind end.call) end.accepted (view y) (view end.state) p.0.linked.called r z,
    seen_more (kind end.call) end.accepted (view y) (view end.state) seen p.0.linked.called r d n
        ∙ ap (or_then seen) (sym (or_none (leftmost (view end.state).leaves))),
  )
  answer_run y seen (k ∷ ks) end after r d n p a z =
      let more = or_then seen (leftmost (view k.state).leaves) in
      let told : (view k.state).denier ≡ more =
      seen_more (kind k.call) k.accepted (view y) (view k.state) seen p.0.linked.called r d n in
      let rest = answer_run k.state more ks end after a.0 told
      (λ e. or_none_right seen (leftmost (view k.state).leaves) e) p.1 a.1 z in
      (rest.0, rest.1 ∙ or_assoc seen (leftmost (view k.state).leaves) _)

  -- steps in a phase that stays open are fewer than the steps left where it began
  count_run : (y : S) (during after : List (Moment S C)) → Fit ordered view timing y → RunOf y (during ++ after)
      → Opened (view y).at → AllIn view (number (view y).at) during → steps kind during < (timing y).left
  count_run y [] after f p o a = let h : 1 ≤ (timing y).left = f.in_time.some_left o in omega arith
  count_run y (k ∷ ks) after f p o a =
      one_fewer (kind k.call) k.accepted (view y) (view k.state) (timing y) (timing k.state) (steps kind ks)
      p.0.linked.called p.0.linked.timed o a.0
      (count_run k.state ks after p.0.linked.fit p.1 (same_opened (view y).at (view k.state).at a.0 o)
      (subst (λ n. AllIn view n ks) (sym a.0) a.1))

  ended_denied : (w : View) (vs : List View) → Ended w.at w.denier → w.denier ≡ earliest vs → Answered w vs
  ended_denied w vs e t = record {
    denied_then = λ d. has_stood vs (subst Has t (by w.denier e d));
    then_denied = λ s. of w.denier e (subst Has (sym t) (stood_has vs s));
    told = λ d. t;
  }
    where
      by : (o : Option ℕ) → Ended w.at o → AtDenied w.at → Has o
      by (Some n) e d = tt
      by None e d = e d

      of : (o : Option ℕ) → Ended w.at o → Has o → AtDenied w.at
      of (Some n) e h = e
      of None e h = elim h [ ]

  asked_opened : (k : Kind) (v w : View) → Asks k → Called k true v w → Opened w.at
  asked_opened stop v w a c = c.opened
  asked_opened back v w a c = c.opened
  asked_opened tick v w a c = elim a [ ]
  asked_opened other v w a c = elim a [ ]

  stop_asked : (k : Kind) (b : Bool) (v w : View) → k ≡ stop → b ≡ true → Called k b v w → StopAsked v w
  stop_asked stop true v w e i c = c
  stop_asked stop false v w e i c = let z : ⊥ = grind arith in elim z [ ]
  stop_asked back b v w e i c = let z : ⊥ = grind arith in elim z [ ]
  stop_asked tick b v w e i c = let z : ⊥ = grind arith in elim z [ ]
  stop_asked other b v w e i c = let z : ⊥ = grind arith in elim z [ ]

  pub every_run : Every ordered view timing kind makes
  every_run x run f p = record {
    shown = λ before after e.
        (fit_last x before f (play_front x before after (subst (RunOf x) e p))).truly;
    answered = λ before ask during end after e s acc a z.
        let q = play_back x before _ (subst (RunOf x) e p) in
        let c = stop_asked (kind ask.call) ask.accepted (view (last x before)) (view ask.state) s acc q.0.linked.called in
        let r : AtRequest (view ask.state).at = c.opens in
        let t = answer_run ask.state None during end after r c.clear (λ _. c.none_denied) q.1
        (subst (λ n. AllIn view n during) r a) (λ i. z (i ∙ sym r)) in
        ended_denied (view end.state) _ t.0 (t.1 ∙ rw c.none_denied);
    bounded = λ before ask during after e k acc a.
        let q = play_back x before _ (subst (RunOf x) e p) in
        let g = q.0.linked.fit in
        let o = asked_opened (kind ask.call) (view (last x before)) (view ask.state) k
        (subst (λ b. Called (kind ask.call) b (view (last x before)) (view ask.state)) acc q.0.linked.called) in
        let few : steps kind during < (timing ask.state).left = count_run ask.state during after g q.1 o a in
        let most : (timing ask.state).left ≤ (timing ask.state).bound = g.in_time.at_most o in
        let here : (timing ask.state).bound ≡ (timing (last x before)).bound =
        same_bounds (kind ask.call) ask.accepted _ _ _ _ q.0.linked.timed in
        let there : (timing (last x before)).bound ≡ (timing x).bound =
        bound_last x before (play_front x before _ (subst (RunOf x) e p)) in
        omega arith;
  }
