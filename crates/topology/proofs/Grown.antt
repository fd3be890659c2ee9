-- What holds of the nodes so far, line by line, and of all of them at the end. Assumes nothing.
use Rattle.std.proofs.Common.{◌≡◌, ℕ, zero, suc, ◌+◌, ◌-◌, ◌*◌, ◌<◌, ◌≤◌, Bool, true, false, cond, not, ◌||◌, eqb, ltb, List, [], ◌∷◌, ◌++◌, length, get_or, Some, None, Ok, Err, Option, Result, sym, refl, ap, ◌∙◌, subst, ⊎_elim, arith}
use Rattle.std.proofs.lemmas.List.{get_or_append_left, get_or_push, length_push}
use Rattle.std.proofs.lemmas.List.Folds.{list_any_at, list_any-append}
use Rattle.std.proofs.lemmas.Bool.{cases_eq, both_ways, or_cases, eqb-true, ltb-false, ne_eqb, eqb-false, not-false}
use Rattle.words.specs.Pieces.{lines_of, word_of}
use Rattle.words.specs.Names.{legal, name_of, text_of}
use Rattle.words.proofs.Cuts.{lines_at}
use Rattle.words.proofs.Written.{legal_short, text_name, number_says}
use Rattle.words.specs.declared.short.Short.{Short}
use Rattle.lines.specs.declared.flaw.Flaw.{Flaw}
use Rattle.topology.specs.declared.fault.Fault.{Fault}
use Rattle.topology.specs.declared.fault.Fault.TheVariants.{BadSize, Unended, TooManyLines, TooFewCells, BadLine, NeverJoined}
use Rattle.lines.specs.declared.line.Kind.{Kind}
use Rattle.lines.specs.declared.line.Kind.TheVariants as kind
use Rattle.topology.specs.declared.node.Node.{Node}
use Rattle.topology.specs.declared.node.Part.{Part}
use Rattle.topology.specs.declared.node.Part.TheVariants.{Timed, Work, Dist, Seq}
use Rattle.lines.specs.Lines.{Said, timed, work, dist, seq, name_in, say, line_of}
use Rattle.topology.specs.Nodes.{and_then, absent, called, joined, part_joins, node_of}
use Rattle.topology.specs.Format.{node_at, nodes_on, loose, tree, whole, outcome}
use Rattle.topology.specs.Trees.{JoinsBelow, SoundPart, join_count, joins_in, WellFormed}
use Rattle.topology.proofs.Made.{Made, MadePart, PairOf, node_ok, line_ok, and_then_ok, err_ok, ok_inj, node_below, named_none, pair_below}
use Rattle.topology.proofs.Counts.{fails, fails_same, fails_none, fails_more, fails_less}

-- what holds of each node, and of the newest, holds of each
module _ (ns : List Node) (n : Node) where
  size : length (ns ++ n ∷ []) ≡ length ns + 1
  size = length_push ns n

  old : (j : ℕ) → j < length ns → get_or ns j absent ≡ get_or (ns ++ n ∷ []) j absent
  old j h = sym (get_or_append_left ns (n ∷ []) absent j h)

  new : (j : ℕ) → length ns ≡ j → n ≡ get_or (ns ++ n ∷ []) j absent
  new j e = sym (get_or_push ns n absent j e)

  pub each_push : (P : ℕ → Node → Type 0) → ((j : ℕ) → j < length ns → P j (get_or ns j absent)) → P (length ns) n → (j : ℕ) → j < length (ns ++ n ∷ []) → P j (get_or (ns ++ n ∷ []) j absent)
  each_push P f p j h =
      ⊎_elim (λ (e : length ns ≡ j). subst (P j) (new j e) (subst (λ k. P k n) e p)) (λ (e : length ns ≡ j → ⊥). let l : j < length ns = omega (arith, size) in subst (P j) (old j l) (f j l)) (cases_eq (length ns) j)

  pub pairs_push : (R : Node → Node → Type 0) → ((i j : ℕ) → i < j → j < length ns → R (get_or ns i absent) (get_or ns j absent)) → ((i : ℕ) → i < length ns → R (get_or ns i absent) n) → (i j : ℕ) → i < j → j < length (ns ++ n ∷ []) → R (get_or (ns ++ n ∷ []) i absent) (get_or (ns ++ n ∷ []) j absent)
  pairs_push R f g i j l h =
      ⊎_elim
      (λ (e : length ns ≡ j). let k : i < length ns = omega arith in subst (R (get_or (ns ++ n ∷ []) i absent)) (new j e) (subst (λ x. R x n) (old i k) (g i k)))
      (λ (e : length ns ≡ j → ⊥). let m : j < length ns = omega (arith, size) in let k : i < length ns = omega arith in subst (λ x. R x (get_or (ns ++ n ∷ []) j absent)) (old i k) (subst (R (get_or ns i absent)) (old j m) (f i j l m)))
      (cases_eq (length ns) j)

abbrev pub Apart : Node → Node → Type 0
Apart x y = (k : ℕ) → part_joins k x.part ≡ true → part_joins k y.part ≡ true → ⊥

abbrev pub Differ : Node → Node → Type 0
Differ x y = called x ≡ called y → ⊥

pub record Good (n : Node) : Type 0 where
  pub sound : SoundPart n.part
  pub legal_name : legal (called n) ≡ true
  pub stored : name_of (called n) ≡ n.name

pub record Grown (ns : List Node) : Type 0 where
  pub earlier : (j : ℕ) → j < length ns → JoinsBelow j (get_or ns j absent).part
  pub good : (j : ℕ) → j < length ns → Good (get_or ns j absent)
  pub once : (i j : ℕ) → i < j → j < length ns → Apart (get_or ns i absent) (get_or ns j absent)
  pub distinct : (i j : ℕ) → i < j → j < length ns → Differ (get_or ns i absent) (get_or ns j absent)
  pub count : fails (length ns) (λ k. joined k ns) + 2 * joins_in ns ≡ length ns

pub grown_none : Grown []
unfolding joins_in
grown_none =
    record {
      earlier = λ j h. absurd (omega arith);
      good = λ j h. absurd (omega arith);
      once = λ i j l h. absurd (omega arith);
      distinct = λ i j l h. absurd (omega arith);
      count = let e = fails_none (λ k. joined k []) in omega arith;
    }

-- what a part joins is below n
pub joins_low : (p : Part) (n k : ℕ) → JoinsBelow n p → part_joins k p ≡ true → k < n
joins_low (Timed d e j) n k h t = absurd (both_ways false refl t)
joins_low (Work p) n k h t = absurd (both_ways false refl t)
joins_low (Dist a b) n k h t = ⊎_elim (λ e. let q = eqb-true a k e in omega arith) (λ e. let q = eqb-true b k e in omega arith) (or_cases (eqb a k) (eqb b k) t)
joins_low (Seq a b) n k h t = ⊎_elim (λ e. let q = eqb-true a k e in omega arith) (λ e. let q = eqb-true b k e in omega arith) (or_cases (eqb a k) (eqb b k) t)

-- a line is joined where some node joins it
pub joined_where : (k : ℕ) (ns : List Node) → joined k ns ≡ true → (j : ℕ) × (j < length ns) × (part_joins k (get_or ns j absent).part ≡ true)
joined_where k [] e = absurd (both_ways false refl e)
joined_where k (n ∷ ns) e = by (part_joins k n.part) refl (joined k ns) (joined_where k ns) e
  where
    by : (t : Bool) → part_joins k n.part ≡ t → (u : Bool) → (u ≡ true → (j : ℕ) × (j < length ns) × (part_joins k (get_or ns j absent).part ≡ true)) → (t || u) ≡ true → (j : ℕ) × (j < suc (length ns)) × (part_joins k (get_or (n ∷ ns) j absent).part ≡ true)
    by true p u ih h = (0, omega arith, p)
    by false p u ih h = let r = ih h in (suc r.0, omega (arith, r.1), r.2)

pub joined_by : (k : ℕ) (ns : List Node) (j : ℕ) → j < length ns → part_joins k (get_or ns j absent).part ≡ true → joined k ns ≡ true
joined_by k ns j h e = list_any_at (λ n. part_joins k n.part) ns j absent h e

-- the newest line joins more
joined_push : (k : ℕ) (ns : List Node) (n : Node) → joined k (ns ++ n ∷ []) ≡ (part_joins k n.part || joined k ns)
joined_push k ns n = list_any-append (λ m. part_joins k m.part) ns (n ∷ []) ∙ last (joined k ns) (part_joins k n.part)
  where
    last : (x y : Bool) → (x || (y || false)) ≡ (y || x)
    last true true = refl
    last true false = refl
    last false true = refl
    last false false = refl

joins_push : (ns : List Node) (n : Node) → joins_in (ns ++ n ∷ []) ≡ joins_in ns + join_count n.part
unfolding joins_in
joins_push [] n = omega arith
joins_push (m ∷ ns) n = let e = joins_push ns n in omega arith

false_from : (t : Bool) → (t ≡ true → ⊥) → t ≡ false
false_from true f = absurd (f refl)
false_from false f = refl

module _ (ns : List Node) (g : Grown ns) where
  -- the line after the last is not joined
  top_free : joined (length ns) ns ≡ false
  top_free =
      false_from (joined (length ns) ns) (λ e. let w = joined_where (length ns) ns e in let l = joins_low (get_or ns w.0 absent).part w.0 (length ns) (g.earlier w.0 w.1) w.2 in omega (arith, w.1))

  pair_apart : (a b : ℕ) → joined a ns ≡ false → joined b ns ≡ false → (i : ℕ) → i < length ns → (k : ℕ) → part_joins k (get_or ns i absent).part ≡ true → (eqb a k || eqb b k) ≡ true → ⊥
  pair_apart a b fa fb i h k p q =
      let t = joined_by k ns i h p in
      ⊎_elim (λ e. both_ways (joined k ns) (ap (λ j. joined j ns) (sym (eqb-true a k e)) ∙ fa) t) (λ e. both_ways (joined k ns) (ap (λ j. joined j ns) (sym (eqb-true b k e)) ∙ fb) t) (or_cases (eqb a k) (eqb b k) q)

  -- a join takes two free lines
  pair_count : (n : Node) (a b : ℕ) → ((k : ℕ) → part_joins k n.part ≡ (eqb a k || eqb b k)) → join_count n.part ≡ 1 → a < length ns → b < length ns → (a ≡ b → ⊥) → joined a ns ≡ false → joined b ns ≡ false → fails (length (ns ++ n ∷ [])) (λ k. joined k (ns ++ n ∷ [])) + 2 * joins_in (ns ++ n ∷ []) ≡ length (ns ++ n ∷ [])
  pair_count n a b is one la lb ne fa fb =
      let f0 : ℕ → Bool = λ k. joined k ns in
      let f1 : ℕ → Bool = λ k. eqb b k || f0 k in
      let f2 : ℕ → Bool = λ k. eqb a k || f1 k in
      let f : ℕ → Bool = λ k. joined k (ns ++ n ∷ []) in
      let m : ℕ = length ns in
      let as2 : (k : ℕ) → f k ≡ f2 k = λ k. joined_push k ns n ∙ ap (λ x. x || joined k ns) (is k) ∙ or_assoc (eqb a k) (eqb b k) (joined k ns) in
      let s0 : fails m f0 ≡ suc (fails m f1) = fails_less m b f0 lb fb in
      let s1 : fails m f1 ≡ suc (fails m f2) = fails_less m a f1 la (ap (λ x. x || joined a ns) (ne_eqb b a (λ q. ne (sym q))) ∙ fa) in
      let s2 : fails m f ≡ fails m f2 = fails_same m f f2 (λ k h. as2 k) in
      let top : f m ≡ false = as2 m ∙ ap (λ x. x || f1 m) (ne_eqb a m (λ q. omega arith)) ∙ ap (λ x. x || f0 m) (ne_eqb b m (λ q. omega arith)) ∙ top_free in
      let s3 : fails (m + 1) f ≡ fails m f + 1 = fails_more m f top in
      let s4 = joins_push ns n in
      let s5 = length_push ns n in
      let s6 : fails (length (ns ++ n ∷ [])) f ≡ fails (m + 1) f = ap (λ j. fails j f) s5 in
      omega (arith, g.count)
    where
      or_assoc : (x y z : Bool) → ((x || y) || z) ≡ (x || (y || z))
      or_assoc true y z = refl
      or_assoc false y z = refl

  -- a leaf is one more free line
  leaf_count : (n : Node) → ((k : ℕ) → part_joins k n.part ≡ false) → join_count n.part ≡ 0 → fails (length (ns ++ n ∷ [])) (λ k. joined k (ns ++ n ∷ [])) + 2 * joins_in (ns ++ n ∷ []) ≡ length (ns ++ n ∷ [])
  leaf_count n is none =
      let f0 : ℕ → Bool = λ k. joined k ns in
      let f : ℕ → Bool = λ k. joined k (ns ++ n ∷ []) in
      let m : ℕ = length ns in
      let as0 : (k : ℕ) → f k ≡ f0 k = λ k. joined_push k ns n ∙ ap (λ x. x || joined k ns) (is k) in
      let s2 : fails m f ≡ fails m f0 = fails_same m f f0 (λ k h. as0 k) in
      let s3 : fails (m + 1) f ≡ fails m f + 1 = fails_more m f (as0 m ∙ top_free) in
      let s4 = joins_push ns n in
      let s5 = length_push ns n in
      let s6 : fails (length (ns ++ n ∷ [])) f ≡ fails (m + 1) f = ap (λ j. fails j f) s5 in
      omega (arith, g.count)

-- what the newest line adds, by its kind
record Adds (ns : List Node) (n : Node) : Type 0 where
  sound : SoundPart n.part
  once : (i : ℕ) → i < length ns → Apart (get_or ns i absent) n
  count : fails (length (ns ++ n ∷ [])) (λ k. joined k (ns ++ n ∷ [])) + 2 * joins_in (ns ++ n ∷ []) ≡ length (ns ++ n ∷ [])

module _ (ns : List Node) (g : Grown ns) (name : Short 12) where
  leaf_adds : (p : Part) → SoundPart p → ((k : ℕ) → part_joins k p ≡ false) → join_count p ≡ 0 → Adds ns (record { name = name; part = p })
  leaf_adds p s is none =
      record { sound = s; once = λ i h k x y. both_ways (part_joins k p) (is k) y; count = leaf_count ns g (record { name = name; part = p }) is none }

  pair_adds : (v w : List ℕ) (a b : ℕ) → PairOf ns v w a b → (p : Part) → SoundPart p → ((k : ℕ) → part_joins k p ≡ (eqb a k || eqb b k)) → join_count p ≡ 1 → Adds ns (record { name = name; part = p })
  pair_adds v w a b h p s is one =
      let l = pair_below ns v w a b h in
      record {
        sound = s;
        once = λ i k j x y. pair_apart ns g a b h.free_first h.free_second i k j x (sym (is j) ∙ y);
        count = pair_count ns g (record { name = name; part = p }) a b is one l.0 l.1 h.apart h.free_first h.free_second;
      }

  part_adds : (s : Said) (p : Part) → MadePart ns s p → Adds ns (record { name = name; part = p })
  part_adds (timed n d e k) p h =
      let x = number_says 1 d h.0 h.3 in
      let y = number_says 1 e h.1 h.4 in
      let z = number_says 0 k h.2 h.5 in
      subst (λ q. Adds ns (record { name = name; part = q })) h.6 (leaf_adds (Timed h.0 h.1 h.2) (x.least, x.most, y.least, y.most, z.most) (λ j. refl) refl)
  part_adds (work n w) p h = let x = number_says 0 w h.0 h.1 in subst (λ q. Adds ns (record { name = name; part = q })) h.2 (leaf_adds (Work h.0) x.most (λ j. refl) refl)
  part_adds (dist n v w) p h = subst (λ q. Adds ns (record { name = name; part = q })) h.2 (pair_adds v w h.0.0 h.0.1 h.1 (Dist h.0.0 h.0.1) h.1.apart (λ j. refl) refl)
  part_adds (seq n v w) p h = subst (λ q. Adds ns (record { name = name; part = q })) h.2 (pair_adds v w h.0.0 h.0.1 h.1 (Seq h.0.0 h.0.1) h.1.apart (λ j. refl) refl)

-- the name of a line that was read is its second word
pub name_second : (k : Kind) (l : List ℕ) → name_in (say k l) ≡ word_of l 1
name_second kind.Timed l = refl
name_second kind.Work l = refl
name_second kind.Dist l = refl
name_second kind.Seq l = refl

pub said_name : (l : List ℕ) (s : Said) → line_of l ≡ Ok s → legal (name_in s) ≡ true
said_name l s e = let f = line_ok l s e in ap legal (ap name_in (sym f.1.is) ∙ name_second f.0 l) ∙ f.1.name

-- what a node is called is the word that it was made of
pub made_called : (ns : List Node) (s : Said) (n : Node) → Made ns s n → legal (name_in s) ≡ true → called n ≡ name_in s
made_called ns s n m e = ap text_of (sym m.name) ∙ text_name (name_in s) (legal_short (name_in s) e)

pub grown_more : (ns : List Node) (l : List ℕ) (n : Node) → Grown ns → node_at ns l ≡ Ok n → Grown (ns ++ n ∷ [])
grown_more ns l n g e =
    let h = and_then_ok (line_of l) (node_of ns) n e in
    let s = h.0 in
    let m = node_ok ns s n h.2 in
    let a = part_adds ns g n.name s n.part m.part in
    let word = said_name l s h.1 in
    let call = made_called ns s n m word in
    record {
      earlier = each_push ns n (λ j x. JoinsBelow j x.part) g.earlier (node_below ns l n e);
      good = each_push ns n (λ j x. Good x) g.good (record { sound = a.sound; legal_name = ap legal call ∙ word; stored = ap name_of call ∙ m.name });
      once = pairs_push ns n Apart g.once a.once;
      distinct = pairs_push ns n Differ g.distinct (λ i k q. named_none ns (name_in s) m.fresh i absent k (q ∙ call));
      count = a.count;
    }

pub nodes_grown : (ls : List (List ℕ)) (ns ms : List Node) → Grown ns → nodes_on ns ls ≡ Ok ms → Grown ms × (length ms ≡ length ns + length ls)
unfolding nodes_on
nodes_grown [] ns ms g e = let q = ok_inj e in (subst Grown q g, omega (arith, ap length q))
nodes_grown (l ∷ ls) ns ms g e = by (node_at ns l) refl e (λ n. nodes_grown ls (ns ++ n ∷ []) ms)
  where
    by : (r : Result Node Flaw) → node_at ns l ≡ r → elim r as (λ _. Result (List Node) Fault) [ Ok n ↦ nodes_on (ns ++ n ∷ []) ls | Err f ↦ Err (BadLine f (length ns + 1)) ] ≡ Ok ms → ((n : Node) → Grown (ns ++ n ∷ []) → nodes_on (ns ++ n ∷ []) ls ≡ Ok ms → Grown ms × (length ms ≡ length (ns ++ n ∷ []) + length ls)) → Grown ms × (length ms ≡ length ns + suc (length ls))
    by (Ok n) p h ih = let r = ih n (grown_more ns l n g p) h in (r.0, omega (arith, r.1, length_push ns n))
    by (Err f) p h ih = absurd (err_ok h)

loose_none : (n k : ℕ) (f : ℕ → Bool) → loose n k f ≡ None → (j : ℕ) → k ≤ j → j < k + n → f j ≡ true
unfolding loose
loose_none zero k f e j le lt = absurd (omega arith)
loose_none (suc n) k f e j le lt = by (f k) refl e (loose_none n (k + 1) f)
  where
    by : (t : Bool) → f k ≡ t → cond t (loose n (k + 1) f) (Some k) ≡ None → (loose n (k + 1) f ≡ None → (j : ℕ) → k + 1 ≤ j → j < k + 1 + n → f j ≡ true) → f j ≡ true
    by true p h ih = ⊎_elim (λ (q : k ≡ j). ap f (sym q) ∙ p) (λ (q : k ≡ j → ⊥). ih h j (omega arith) (omega arith)) (cases_eq k j)
    by false p h ih = let z : ◌≡◌ {A = ℕ} 0 1 = cc in absurd (omega arith)

-- what a text that is read went through
pub record Accepted (t : List ℕ) (cells : ℕ) (ns : List Node) : Type 0 where
  pub some : 0 < length t
  pub short : length t ≤ 8192
  pub ended : get_or t (length t - 1) 0 ≡ 10
  pub few : length (lines_of t) ≤ 127
  pub room : length (lines_of t) ≤ cells
  pub nodes : nodes_on [] (lines_of t) ≡ Ok ns
  pub owned : loose (length ns - 1) 0 (λ k. joined k ns) ≡ None

pub accepted : (t : List ℕ) (cells : ℕ) (ns : List Node) → outcome t cells ≡ Ok ns → Accepted t cells ns
accepted t cells ns e =
    let w = and_then_ok (whole t cells) (λ n. and_then (nodes_on [] (lines_of t)) tree) ns e in
    let m = and_then_ok (nodes_on [] (lines_of t)) tree ns w.2 in
    let o = owned_by m.0 (loose (length m.0 - 1) 0 (λ k. joined k m.0)) refl m.2 in
    let k = whole_by (eqb (length t) 0) refl (ltb 8192 (length t)) refl (not (eqb (get_or t (length t - 1) 0) 10)) refl (ltb 127 (length (lines_of t))) refl (ltb cells (length (lines_of t))) refl w.1 in
    record { some = k.0; short = k.1; ended = k.2; few = k.3; room = k.4; nodes = m.1 ∙ ap Ok o.0; owned = subst (λ xs. loose (length xs - 1) 0 (λ k. joined k xs) ≡ None) o.0 o.1 }
  where
    owned_by : (ms : List Node) (o : Option ℕ) → loose (length ms - 1) 0 (λ k. joined k ms) ≡ o → elim o as (λ _. Result (List Node) Fault) [ None ↦ Ok ms | Some k ↦ Err (NeverJoined (k + 1)) ] ≡ Ok ns → (ms ≡ ns) × (loose (length ms - 1) 0 (λ k. joined k ms) ≡ None)
    owned_by ms None p h = (ok_inj h, p)
    owned_by ms (Some k) p h = absurd (err_ok h)

    whole_by : {n : ℕ} (a : Bool) → eqb (length t) 0 ≡ a → (b : Bool) → ltb 8192 (length t) ≡ b → (c : Bool) → not (eqb (get_or t (length t - 1) 0) 10) ≡ c → (d : Bool) → ltb 127 (length (lines_of t)) ≡ d → (f : Bool) → ltb cells (length (lines_of t)) ≡ f → cond a (Err BadSize) (cond b (Err BadSize) (cond c (Err Unended) (cond d (Err TooManyLines) (cond f (Err TooFewCells) (Ok (length (lines_of t))))))) ≡ Ok n → (0 < length t) × (length t ≤ 8192) × (get_or t (length t - 1) 0 ≡ 10) × (length (lines_of t) ≤ 127) × (length (lines_of t) ≤ cells)
    whole_by true pa b pb c pc d pd f pf h = absurd (err_ok h)
    whole_by false pa true pb c pc d pd f pf h = absurd (err_ok h)
    whole_by false pa false pb true pc d pd f pf h = absurd (err_ok h)
    whole_by false pa false pb false pc true pd f pf h = absurd (err_ok h)
    whole_by false pa false pb false pc false pd true pf h = absurd (err_ok h)
    whole_by false pa false pb false pc false pd false pf h = let z = eqb-false (length t) 0 pa in (omega arith, ltb-false _ _ pb, eqb-true _ _ (not-false _ pc), ltb-false _ _ pd, ltb-false _ _ pf)

pub well_formed : (t : List ℕ) (cells : ℕ) (ns : List Node) → Accepted t cells ns → WellFormed ns
well_formed t cells ns a =
    let r = nodes_grown (lines_of t) [] ns grown_none a.nodes in
    let g = r.0 in
    let some = ap length (lines_at t a.some) in
    record {
      some = omega (arith, r.1);
      few = omega (arith, r.1, a.few);
      earlier = g.earlier;
      sound = λ j h. (g.good j h).sound;
      once = g.once;
      owned = λ k h.
          let w = joined_where k ns (loose_none (length ns - 1) 0 (λ k. joined k ns) a.owned k (omega arith) (omega arith)) in
          (w.0, joins_low (get_or ns w.0 absent).part w.0 k (g.earlier w.0 w.1) w.2, w.1, w.2);
      legal_names = λ j h. (g.good j h).legal_name;
      stored = λ j h. (g.good j h).stored;
      distinct = g.distinct;
      few_joins = omega (arith, g.count);
    }

pub node_count : (t : List ℕ) (cells : ℕ) (ns : List Node) → Accepted t cells ns → length ns ≤ cells
node_count t cells ns a = let r = nodes_grown (lines_of t) [] ns grown_none a.nodes in omega (arith, r.1, a.room)
