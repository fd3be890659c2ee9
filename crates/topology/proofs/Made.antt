-- What a line that was accepted went through. Assumes nothing.
use Rattle.std.proofs.Common.{◌≡◌, ℕ, zero, suc, ◌<◌, Bool, true, false, cond, eqb, List, [], ◌∷◌, length, get_or, is_some, Some, None, Ok, Err, Option, Result, sym, refl, ap, ◌∙◌, subst, arith}
use Rattle.std.specs.Str.{bytes_eq}
use Rattle.std.proofs.lemmas.Slice.Eq.{bytes_eq-Decides}
use Rattle.std.proofs.lemmas.Bool.{eqb-true, eqb-false}
use Rattle.words.specs.Pieces.{words_of, word_of}
use Rattle.words.specs.Numbers.{number_of}
use Rattle.words.specs.Names.{legal, name_of}
use Rattle.lines.specs.declared.flaw.Flaw.{Flaw}
use Rattle.lines.specs.declared.flaw.Flaw.TheVariants.{UnknownKind, WordCount, BadName, NameTaken, BadNumber, NoSuchLine, AlreadyJoined}
use Rattle.lines.specs.declared.line.Kind.{Kind}
use Rattle.topology.specs.declared.node.Node.{Node}
use Rattle.topology.specs.declared.node.Part.{Part}
use Rattle.topology.specs.declared.node.Part.TheVariants.{Timed, Work, Dist, Seq}
use Rattle.lines.specs.Lines.{Said, timed, work, dist, seq, name_in, kind_of, width, say, framed, line_of}
use Rattle.topology.specs.Nodes.{and_then, called, next, named, joined, number_in, child_of, children_of, part_of, node_of}
use Rattle.topology.specs.Trees.{JoinsBelow}
use Rattle.topology.specs.Format.{node_at}

pub err_ok : {A E : Type 0} {e : E} {a : A} → ◌≡◌ {A = Result A E} (Err e) (Ok a) → ⊥
err_ok p = let z : ◌≡◌ {A = ℕ} 0 1 = cc in omega arith

pub none_some : {A : Type 0} {a : A} → ◌≡◌ {A = Option A} None (Some a) → ⊥
none_some p = let z : ◌≡◌ {A = ℕ} 0 1 = cc in omega arith

pub ok_inj : {A E : Type 0} {a b : A} → ◌≡◌ {A = Result A E} (Ok a) (Ok b) → a ≡ b
ok_inj p = cc

pub some_inj : {A : Type 0} {a b : A} → ◌≡◌ {A = Option A} (Some a) (Some b) → a ≡ b
some_inj p = cc

pub and_then_ok : {A B E : Type 0} (r : Result A E) (f : A → Result B E) (b : B) → and_then r f ≡ Ok b → (a : A) × (r ≡ Ok a) × (f a ≡ Ok b)
and_then_ok (Ok a) f b e = (a, refl, e)
and_then_ok (Err x) f b e = absurd (err_ok e)

-- a test that refuses was not met
pub cond_err : {A E : Type 0} (t : Bool) (e : E) (r : Result A E) (a : A) → cond t (Err e) r ≡ Ok a → (t ≡ false) × (r ≡ Ok a)
cond_err true e r a p = absurd (err_ok p)
cond_err false e r a p = (refl, p)

-- the line found is an earlier one, and has the name
pub named_some : (ns : List Node) (w : List ℕ) (j : ℕ) → named ns w ≡ Some j → (j < length ns) × ((d : Node) → called (get_or ns j d) ≡ w)
unfolding named
named_some [] w j e = absurd (none_some e)
named_some (n ∷ ns) w j e = by (bytes_eq (called n) w) (bytes_eq-Decides (called n) w).0 (named ns w) (named_some ns w) j e
  where
    by : (t : Bool) → (t ≡ true → called n ≡ w) → (o : Option ℕ) → ((i : ℕ) → o ≡ Some i → (i < length ns) × ((d : Node) → called (get_or ns i d) ≡ w)) → (j : ℕ) → cond t (Some 0) (next o) ≡ Some j → (j < suc (length ns)) × ((d : Node) → called (get_or (n ∷ ns) j d) ≡ w)
    by true same o ih zero p = (omega arith, λ d. same refl)
    by true same o ih (suc j) p = absurd (let z : ◌≡◌ {A = ℕ} 0 (suc j) = some_inj p in omega arith)
    by false same None ih j p = absurd (none_some p)
    by false same (Some i) ih zero p = absurd (let z : ◌≡◌ {A = ℕ} (suc i) 0 = some_inj p in omega arith)
    by false same (Some i) ih (suc j) p = let z : ◌≡◌ {A = ℕ} (suc i) (suc j) = some_inj p in let q : i ≡ j = omega arith in let h = ih j (ap Some q) in (omega arith, h.1)

-- a name that is not found stands nowhere
pub named_none : (ns : List Node) (w : List ℕ) → named ns w ≡ None → (j : ℕ) (d : Node) → j < length ns → called (get_or ns j d) ≡ w → ⊥
unfolding named
named_none [] w e j d lt p = absurd (omega arith)
named_none (n ∷ ns) w e j d lt p = by (bytes_eq (called n) w) (bytes_eq-Decides (called n) w).1 (named ns w) (named_none ns w) e j lt p
  where
    by : (t : Bool) → (called n ≡ w → t ≡ true) → (o : Option ℕ) → (o ≡ None → (i : ℕ) (d : Node) → i < length ns → called (get_or ns i d) ≡ w → ⊥) → cond t (Some 0) (next o) ≡ None → (j : ℕ) → j < suc (length ns) → called (get_or (n ∷ ns) j d) ≡ w → ⊥
    by true other o ih p j lt q = none_some (sym p)
    by false other o ih p zero lt q = let z : false ≡ true = other q in let y : ◌≡◌ {A = ℕ} 0 1 = cc in omega arith
    by false other None ih p (suc j) lt q = ih refl j d (omega arith) q
    by false other (Some i) ih p (suc j) lt q = none_some (sym p)

pub child_ok : (ns : List Node) (w : List ℕ) (j : ℕ) → child_of ns w ≡ Ok j → (named ns w ≡ Some j) × (joined j ns ≡ false)
child_ok ns w j e = by (named ns w) e
  where
    at : (i : ℕ) → cond (joined i ns) (Err AlreadyJoined) (Ok i) ≡ Ok j → (Some i ≡ Some j) × (joined j ns ≡ false)
    at i p = let h = cond_err (joined i ns) AlreadyJoined (Ok i) j p in let q = ok_inj h.1 in (ap Some q, ap (λ k. joined k ns) (sym q) ∙ h.0)

    by : (o : Option ℕ) → elim o as (λ _. Result ℕ Flaw) [ Some i ↦ cond (joined i ns) (Err AlreadyJoined) (Ok i) | None ↦ Err NoSuchLine ] ≡ Ok j → (o ≡ Some j) × (joined j ns ≡ false)
    by None p = absurd (err_ok p)
    by (Some i) p = at i p

-- two earlier lines that are free, and are not one
pub record PairOf (ns : List Node) (v w : List ℕ) (a b : ℕ) : Type 0 where
  pub first : named ns v ≡ Some a
  pub second : named ns w ≡ Some b
  pub free_first : joined a ns ≡ false
  pub free_second : joined b ns ≡ false
  pub apart : a ≡ b → ⊥

pub children_ok : (ns : List Node) (v w : List ℕ) (c : ℕ × ℕ) → children_of ns v w ≡ Ok c → PairOf ns v w c.0 c.1
children_ok ns v w c e =
    let h = and_then_ok (child_of ns v) (λ a. and_then (child_of ns w) (λ b. cond (eqb a b) (Err AlreadyJoined) (Ok (a, b)))) c e in
    let k = and_then_ok (child_of ns w) (λ b. cond (eqb h.0 b) (Err AlreadyJoined) (Ok (h.0, b))) c h.2 in
    let t = cond_err (eqb h.0 k.0) AlreadyJoined (Ok (h.0, k.0)) c k.2 in
    let p = child_ok ns v h.0 h.1 in
    let q = child_ok ns w k.0 k.1 in
    subst (λ (x : ℕ × ℕ). PairOf ns v w x.0 x.1) (ok_inj t.1) (record { first = p.0; second = q.0; free_first = p.1; free_second = q.1; apart = eqb-false _ _ t.0 })

number_ok : (low : ℕ) (w : List ℕ) (v : ℕ) → number_in low w ≡ Ok v → number_of low w ≡ Some v
number_ok low w v e = by (number_of low w) e
  where
    by : (o : Option ℕ) → elim o as (λ _. Result ℕ Flaw) [ Some x ↦ Ok x | None ↦ Err BadNumber ] ≡ Ok v → o ≡ Some v
    by None p = absurd (err_ok p)
    by (Some x) p = ap Some (ok_inj p)

-- what a part was made of, by the kind of line
abbrev pub MadePart : List Node → Said → Part → Type 0
MadePart ns (timed n d e k) p = (x : ℕ) × (y : ℕ) × (z : ℕ) × (number_of 1 d ≡ Some x) × (number_of 1 e ≡ Some y) × (number_of 0 k ≡ Some z) × (Timed x y z ≡ p)
MadePart ns (work n w) p = (x : ℕ) × (number_of 0 w ≡ Some x) × (Work x ≡ p)
MadePart ns (dist n v w) p = (c : ℕ × ℕ) × PairOf ns v w c.0 c.1 × (Dist c.0 c.1 ≡ p)
MadePart ns (seq n v w) p = (c : ℕ × ℕ) × PairOf ns v w c.0 c.1 × (Seq c.0 c.1 ≡ p)

pub part_ok : (ns : List Node) (s : Said) (p : Part) → part_of ns s ≡ Ok p → MadePart ns s p
part_ok ns (timed n d e k) p h =
    let x = and_then_ok (number_in 1 d) (λ x. and_then (number_in 1 e) (λ y. and_then (number_in 0 k) (λ z. Ok (Timed x y z)))) p h in
    let y = and_then_ok (number_in 1 e) (λ y. and_then (number_in 0 k) (λ z. Ok (Timed x.0 y z))) p x.2 in
    let z = and_then_ok (number_in 0 k) (λ z. Ok (Timed x.0 y.0 z)) p y.2 in
    (x.0, y.0, z.0, number_ok 1 d x.0 x.1, number_ok 1 e y.0 y.1, number_ok 0 k z.0 z.1, ok_inj z.2)
part_ok ns (work n w) p h = let x = and_then_ok (number_in 0 w) (λ x. Ok (Work x)) p h in (x.0, number_ok 0 w x.0 x.1, ok_inj x.2)
part_ok ns (dist n v w) p h = let c = and_then_ok (children_of ns v w) (λ c. Ok (Dist c.0 c.1)) p h in (c.0, children_ok ns v w c.0 c.1, ok_inj c.2)
part_ok ns (seq n v w) p h = let c = and_then_ok (children_of ns v w) (λ c. Ok (Seq c.0 c.1)) p h in (c.0, children_ok ns v w c.0 c.1, ok_inj c.2)

pub record Made (ns : List Node) (s : Said) (n : Node) : Type 0 where
  pub fresh : named ns (name_in s) ≡ None
  pub part : MadePart ns s n.part
  pub name : name_of (name_in s) ≡ n.name

not_some : (o : Option ℕ) → is_some o ≡ false → o ≡ None
not_some None e = refl
not_some (Some x) e = let z : ◌≡◌ {A = ℕ} 0 1 = cc in absurd (omega arith)

pub node_ok : (ns : List Node) (s : Said) (n : Node) → node_of ns s ≡ Ok n → Made ns s n
node_ok ns s n e =
    let t = cond_err (is_some (named ns (name_in s))) NameTaken (and_then (part_of ns s) (λ p. Ok (record { name = name_of (name_in s); part = p }))) n e in
    let h = and_then_ok (part_of ns s) (λ p. Ok (record { name = name_of (name_in s); part = p })) n t.1 in
    let q = ok_inj h.2 in
    record { fresh = not_some _ t.0; part = subst (MadePart ns s) (ap (λ (m : Node). m.part) q) (part_ok ns s h.0 h.1); name = ap (λ (m : Node). m.name) q }

-- a line of its kind: so many words, the second a name
pub record Framed (l : List ℕ) (s : Said) (k : Kind) : Type 0 where
  pub kind : kind_of (word_of l 0) ≡ Some k
  pub words : length (words_of l) ≡ width k
  pub name : legal (word_of l 1) ≡ true
  pub is : say k l ≡ s

pub line_ok : (l : List ℕ) (s : Said) → line_of l ≡ Ok s → (k : Kind) × Framed l s k
line_ok l s e = by (kind_of (word_of l 0)) refl e
  where
    frame : (k : Kind) (c g : Bool) → eqb (length (words_of l)) (width k) ≡ c → legal (word_of l 1) ≡ g → elim (cond c (cond g None (Some BadName)) (Some WordCount)) as (λ _. Result Said Flaw) [ None ↦ Ok (say k l) | Some f ↦ Err f ] ≡ Ok s → (length (words_of l) ≡ width k) × (legal (word_of l 1) ≡ true) × (say k l ≡ s)
    frame k true true p q h = (eqb-true _ _ p, q, ok_inj h)
    frame k true false p q h = absurd (err_ok h)
    frame k false g p q h = absurd (err_ok h)

    by : (o : Option Kind) → kind_of (word_of l 0) ≡ o → elim o as (λ _. Result Said Flaw) [ None ↦ Err UnknownKind | Some k ↦ framed k l ] ≡ Ok s → (k : Kind) × Framed l s k
    by None p h = absurd (err_ok h)
    by (Some k) p h = let f = frame k _ _ refl refl h in (k, record { kind = p; words = f.0; name = f.1; is = f.2 })

pub pair_below : (ns : List Node) (v w : List ℕ) (a b : ℕ) → PairOf ns v w a b → (a < length ns) × (b < length ns)
pair_below ns v w a b h = ((named_some ns v a h.first).0, (named_some ns w b h.second).0)

pub made_below : (ns : List Node) (s : Said) (p : Part) → MadePart ns s p → JoinsBelow (length ns) p
made_below ns (timed n d e k) p h = subst (JoinsBelow (length ns)) h.6 tt
made_below ns (work n w) p h = subst (JoinsBelow (length ns)) h.2 tt
made_below ns (dist n v w) p h = subst (JoinsBelow (length ns)) h.2 (pair_below ns v w _ _ h.1)
made_below ns (seq n v w) p h = subst (JoinsBelow (length ns)) h.2 (pair_below ns v w _ _ h.1)

pub node_below : (ns : List Node) (l : List ℕ) (n : Node) → node_at ns l ≡ Ok n → JoinsBelow (length ns) n.part
node_below ns l n e = let h = and_then_ok (line_of l) (node_of ns) n e in made_below ns h.0 n.part (node_ok ns h.0 n h.2).part
