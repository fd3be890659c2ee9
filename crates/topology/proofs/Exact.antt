-- Well-formed nodes in print are read as themselves. Assumes nothing.
use Rattle.std.proofs.Common.{◌≡◌, ℕ, zero, suc, ◌+◌, ◌-◌, ◌<◌, ◌≤◌, Bool, true, false, cond, not, eqb, ltb, List, [], ◌∷◌, ◌++◌, map, length, get_or, is_some, Some, None, Ok, Err, codes, decimal, Option, Result, sym, refl, ap, ◌∙◌, subst, arith}
use Rattle.std.specs.List.{AllByRecursion as All}
use Rattle.std.specs.Str.{bytes_eq}
use Rattle.std.proofs.lemmas.Slice.Eq.{bytes_eq-Decides}
use Rattle.std.proofs.lemmas.List.{append_assoc, append-nil, get_or_append_left, get_or_at, length-append, length-map}
use Rattle.std.proofs.lemmas.Bool.{cond-true, cond-false, ne_eqb, eq-eqb, le-ltb, or_left, or_right, not_from_true}
use Rattle.words.specs.Pieces.{words_of, word_of, lines_of, spaced}
use Rattle.words.specs.Names.{legal, letters_digits, name_of}
use Rattle.words.proofs.Back.{Lacks, words_spaced, lacks_spaced, lines_unlines, unlines_ended, lacks_names, legal_letters, lacks_decimal, number_back}
use Rattle.lines.specs.declared.flaw.Flaw.{Flaw}
use Rattle.lines.specs.declared.flaw.Flaw.TheVariants.{UnknownKind, WordCount, BadName, NameTaken, BadNumber, NoSuchLine, AlreadyJoined}
use Rattle.topology.specs.declared.fault.Fault.{Fault}
use Rattle.topology.specs.declared.fault.Fault.TheVariants.{NeverJoined}
use Rattle.lines.specs.declared.line.Kind.{Kind}
use Rattle.lines.specs.declared.line.Kind.TheVariants as kind
use Rattle.topology.specs.declared.node.Node.{Node}
use Rattle.topology.specs.declared.node.Part.{Part}
use Rattle.topology.specs.declared.node.Part.TheVariants.{Timed, Work, Dist, Seq}
use Rattle.lines.specs.Lines.{Said, timed, work, dist, seq, name_in, kind_of, width, say, framed, line_of}
use Rattle.topology.specs.Nodes.{and_then, absent, called, named, next, joined, part_joins, number_in, child_of, children_of, part_of, node_of}
use Rattle.topology.specs.Format.{node_at, nodes_on, loose, tree, whole, outcome}
use Rattle.topology.specs.Trees.{JoinsBelow, SoundPart, WellFormed, name_of_line}
use Rattle.topology.specs.Printed.{line_words, line_text, printed}
use Rattle.topology.proofs.Grown.{joined_where, joined_by, joins_low}
use Rattle.topology.proofs.Turns.{nodes_ok}

not_same : (v w : List ℕ) → (v ≡ w → ⊥) → bytes_eq v w ≡ false
not_same v w f = by (bytes_eq v w) (bytes_eq-Decides v w).0
  where
    by : (t : Bool) → (t ≡ true → v ≡ w) → t ≡ false
    by true p = absurd (f (p refl))
    by false p = refl

-- the first line of a name that no earlier line has
pub named_at : (ns : List Node) (j : ℕ) (w : List ℕ) → j < length ns → called (get_or ns j absent) ≡ w → ((i : ℕ) → i < j → called (get_or ns i absent) ≡ w → ⊥) → named ns w ≡ Some j
unfolding named
named_at [] j w h e f = absurd (omega arith)
named_at (n ∷ ns) zero w h e f = cond-true (bytes_eq (called n) w) _ _ ((bytes_eq-Decides (called n) w).1 e)
named_at (n ∷ ns) (suc j) w h e f =
    cond-false (bytes_eq (called n) w) _ _ (not_same (called n) w (f 0 (omega arith))) ∙ ap next (named_at ns j w (omega arith) e (λ i l q. f (suc i) (omega arith) q))

pub named_nowhere : (ns : List Node) (w : List ℕ) → ((i : ℕ) → i < length ns → called (get_or ns i absent) ≡ w → ⊥) → named ns w ≡ None
unfolding named
named_nowhere [] w f = refl
named_nowhere (n ∷ ns) w f =
    cond-false (bytes_eq (called n) w) _ _ (not_same (called n) w (f 0 (omega arith))) ∙ ap next (named_nowhere ns w (λ i l q. f (suc i) (omega arith) q))

loose_all : (n k : ℕ) (f : ℕ → Bool) → ((j : ℕ) → k ≤ j → j < k + n → f j ≡ true) → loose n k f ≡ None
unfolding loose
loose_all zero k f h = refl
loose_all (suc n) k f h = cond-true (f k) _ _ (h k (omega arith) (omega arith)) ∙ loose_all n (k + 1) f (λ j l m. h j (omega arith) (omega arith))

line_read : (l : List ℕ) (k : Kind) → kind_of (word_of l 0) ≡ Some k → length (words_of l) ≡ width k → legal (word_of l 1) ≡ true → line_of l ≡ Ok (say k l)
line_read l k p q r =
    ap (λ (o : Option Kind). elim o as (λ _. Result Said Flaw) [ None ↦ Err UnknownKind | Some j ↦ framed j l ]) p
    ∙ ap (λ t. elim (cond t (cond (legal (word_of l 1)) None (Some BadName)) (Some WordCount)) as (λ _. Result Said Flaw) [ None ↦ Ok (say k l) | Some f ↦ Err f ]) (eq-eqb _ _ q)
    ∙ ap (λ t. elim (cond t None (Some BadName)) as (λ _. Result Said Flaw) [ None ↦ Ok (say k l) | Some f ↦ Err f ]) r

-- a node as the line that it is printed as
said_for : List Node → List ℕ → Part → Said
said_for all n (Timed d e k) = timed n (decimal d) (decimal e) (decimal k)
said_for all n (Work p) = work n (decimal p)
said_for all n (Dist a b) = dist n (name_of_line all a) (name_of_line all b)
said_for all n (Seq a b) = seq n (name_of_line all a) (name_of_line all b)

name_said : (all : List Node) (n : List ℕ) (p : Part) → name_in (said_for all n p) ≡ n
unfolding said_for
name_said all n (Timed d e k) = refl
name_said all n (Work p) = refl
name_said all n (Dist a b) = refl
name_said all n (Seq a b) = refl

line_said : (all : List Node) (l n : List ℕ) (p : Part) → words_of l ≡ line_words all n p → legal n ≡ true → line_of l ≡ Ok (said_for all n p)
unfolding said_for
line_said all l n (Timed d e k) q r =
    line_read l kind.Timed (ap (λ ws. kind_of (get_or ws 0 [])) q) (ap length q) (ap (λ ws. legal (get_or ws 1 [])) q ∙ r)
    ∙ ap (λ ws. Ok (timed (get_or ws 1 []) (get_or ws 2 []) (get_or ws 3 []) (get_or ws 4 []))) q
line_said all l n (Work p) q r =
    line_read l kind.Work (ap (λ ws. kind_of (get_or ws 0 [])) q) (ap length q) (ap (λ ws. legal (get_or ws 1 [])) q ∙ r) ∙ ap (λ ws. Ok (work (get_or ws 1 []) (get_or ws 2 []))) q
line_said all l n (Dist a b) q r =
    line_read l kind.Dist (ap (λ ws. kind_of (get_or ws 0 [])) q) (ap length q) (ap (λ ws. legal (get_or ws 1 [])) q ∙ r) ∙ ap (λ ws. Ok (dist (get_or ws 1 []) (get_or ws 2 []) (get_or ws 3 []))) q
line_said all l n (Seq a b) q r =
    line_read l kind.Seq (ap (λ ws. kind_of (get_or ws 0 [])) q) (ap length q) (ap (λ ws. legal (get_or ws 1 [])) q ∙ r) ∙ ap (λ ws. Ok (seq (get_or ws 1 []) (get_or ws 2 []) (get_or ws 3 []))) q

-- no word has a byte b that is below the digits
module _ (b : ℕ) (low : b < 48) where
  keyword_lacks : (w : List ℕ) → letters_digits w ≡ true → Lacks b w
  keyword_lacks w e = lacks_names b w low e

  name_lacks : (w : List ℕ) → legal w ≡ true → Lacks b w
  name_lacks w e = lacks_names b w low (legal_letters w e)

  words_lack : (all : List Node) (n : List ℕ) (p : Part) (j : ℕ) → legal n ≡ true → ((i : ℕ) → i < j → legal (name_of_line all i) ≡ true) → SoundPart p → JoinsBelow j p → All (Lacks b) (line_words all n p)
  words_lack all n (Timed d e k) j r f s l = (keyword_lacks (codes "timed") refl, (name_lacks n r, (lacks_decimal b d low s.1, (lacks_decimal b e low s.3, (lacks_decimal b k low s.4, tt)))))
  words_lack all n (Work p) j r f s l = (keyword_lacks (codes "work") refl, (name_lacks n r, (lacks_decimal b p low s, tt)))
  words_lack all n (Dist x y) j r f s l = (keyword_lacks (codes "dist") refl, (name_lacks n r, (name_lacks (name_of_line all x) (f x l.0), (name_lacks (name_of_line all y) (f y l.1), tt))))
  words_lack all n (Seq x y) j r f s l = (keyword_lacks (codes "seq") refl, (name_lacks n r, (name_lacks (name_of_line all x) (f x l.0), (name_lacks (name_of_line all y) (f y l.1), tt))))

-- the words of a line are at least one
first_word : (all : List Node) (n : List ℕ) (p : Part) (P : List (List ℕ) → Type 0) → ((w : List ℕ) (ws : List (List ℕ)) → line_words all n p ≡ w ∷ ws → P (w ∷ ws)) → P (line_words all n p)
first_word all n (Timed d e k) P f = f _ _ refl
first_word all n (Work p) P f = f _ _ refl
first_word all n (Dist a b) P f = f _ _ refl
first_word all n (Seq a b) P f = f _ _ refl

number_read : (low v : ℕ) → low ≤ v → v ≤ 255 → number_in low (decimal v) ≡ Ok v
number_read low v ge le = ap (λ (o : Option ℕ). elim o as (λ _. Result ℕ Flaw) [ Some x ↦ Ok x | None ↦ Err BadNumber ]) (number_back low v ge le)

child_read : (ns : List Node) (w : List ℕ) (j : ℕ) → named ns w ≡ Some j → joined j ns ≡ false → child_of ns w ≡ Ok j
child_read ns w j e f = ap (λ (o : Option ℕ). elim o as (λ _. Result ℕ Flaw) [ Some i ↦ cond (joined i ns) (Err AlreadyJoined) (Ok i) | None ↦ Err NoSuchLine ]) e ∙ cond-false (joined j ns) (Err AlreadyJoined) (Ok j) f

children_read : (ns : List Node) (v w : List ℕ) (a b : ℕ) → child_of ns v ≡ Ok a → child_of ns w ≡ Ok b → (a ≡ b → ⊥) → children_of ns v w ≡ Ok (a, b)
children_read ns v w a b p q ne =
    ap (λ r. and_then r (λ x. and_then (child_of ns w) (λ y. cond (eqb x y) (Err AlreadyJoined) (Ok (x, y))))) p
    ∙ ap (λ r. and_then r (λ y. cond (eqb a y) (Err AlreadyJoined) (Ok (a, y)))) q ∙ cond-false (eqb a b) (Err AlreadyJoined) (Ok (a, b)) (ne_eqb a b ne)

part_read : (ns all : List Node) (n : List ℕ) (p : Part) → SoundPart p → ((a : ℕ) → part_joins a p ≡ true → child_of ns (name_of_line all a) ≡ Ok a) → part_of ns (said_for all n p) ≡ Ok p
unfolding said_for
part_read ns all n (Timed d e k) s f =
    ap (λ r. and_then r (λ x. and_then (number_in 1 (decimal e)) (λ y. and_then (number_in 0 (decimal k)) (λ z. Ok (Timed x y z))))) (number_read 1 d s.0 s.1)
    ∙ ap (λ r. and_then r (λ y. and_then (number_in 0 (decimal k)) (λ z. Ok (Timed d y z)))) (number_read 1 e s.2 s.3)
    ∙ ap (λ r. and_then r (λ z. Ok (Timed d e z))) (number_read 0 k (omega arith) s.4)
part_read ns all n (Work p) s f = ap (λ r. and_then r (λ x. Ok (Work x))) (number_read 0 p (omega arith) s)
part_read ns all n (Dist a b) s f =
    ap (λ r. and_then r (λ (c : ℕ × ℕ). Ok (Dist c.0 c.1)))
    (children_read ns (name_of_line all a) (name_of_line all b) a b (f a (or_left (eqb a a) (eqb b a) (eq-eqb a a refl))) (f b (or_right (eqb a b) (eqb b b) (eq-eqb b b refl))) s)
part_read ns all n (Seq a b) s f =
    ap (λ r. and_then r (λ (c : ℕ × ℕ). Ok (Seq c.0 c.1)))
    (children_read ns (name_of_line all a) (name_of_line all b) a b (f a (or_left (eqb a a) (eqb b a) (eq-eqb a a refl))) (f b (or_right (eqb a b) (eqb b b) (eq-eqb b b refl))) s)

node_read : (ns : List Node) (s : Said) (p : Part) → named ns (name_in s) ≡ None → part_of ns s ≡ Ok p → node_of ns s ≡ Ok (record { name = name_of (name_in s); part = p })
node_read ns s p e q =
    ap (λ (o : Option ℕ). cond (is_some o) (Err NameTaken) (and_then (part_of ns s) (λ x. Ok (record { name = name_of (name_in s); part = x })))) e
    ∙ ap (λ (r : Result Part Flaw). and_then r (λ x. Ok (record { name = name_of (name_in s); part = x }))) q

-- one line of well-formed nodes, after those before it
module _ (all xs : List Node) (y : Node) (ys : List Node) (split : xs ++ y ∷ ys ≡ all) (w : WellFormed all) where
  here : get_or all (length xs) absent ≡ y
  here = ap (λ zs. get_or zs (length xs) absent) (sym split) ∙ get_or_at xs y ys absent (length xs) refl

  before : (i : ℕ) → i < length xs → get_or all i absent ≡ get_or xs i absent
  before i h = ap (λ zs. get_or zs i absent) (sym split) ∙ get_or_append_left xs (y ∷ ys) absent i h

  inside : length xs < length all
  inside = omega (arith, ap length split, length-append xs (y ∷ ys))

  name_legal : legal (called y) ≡ true
  name_legal = ap (λ n. legal (called n)) (sym here) ∙ w.legal_names (length xs) inside

  sound : SoundPart y.part
  sound = subst (λ n. SoundPart n.part) here (w.sound (length xs) inside)

  earlier : JoinsBelow (length xs) y.part
  earlier = subst (λ n. JoinsBelow (length xs) n.part) here (w.earlier (length xs) inside)

  fresh : named xs (called y) ≡ None
  fresh = named_nowhere xs (called y) (λ i h q. w.distinct i (length xs) h inside (ap called (before i h) ∙ q ∙ ap called (sym here)))

  free : (a : ℕ) → part_joins a y.part ≡ true → joined a xs ≡ false
  free a e = by (joined a xs) refl
    where
      by : (t : Bool) → joined a xs ≡ t → t ≡ false
      by false p = refl
      by true p =
          let r = joined_where a xs p in
          absurd (w.once r.0 (length xs) r.1 inside a (ap (λ (n : Node). part_joins a n.part) (before r.0 r.1) ∙ r.2) (ap (λ (n : Node). part_joins a n.part) here ∙ e))

  child : (a : ℕ) → part_joins a y.part ≡ true → child_of xs (name_of_line all a) ≡ Ok a
  child a e =
      let lt = joins_low y.part (length xs) a earlier e in
      child_read xs (name_of_line all a) a (named_at xs a (name_of_line all a) lt (ap called (sym (before a lt))) (λ i l q. w.distinct i a l (omega (arith, inside)) (ap called (before i (omega arith)) ∙ q))) (free a e)

  words : words_of (line_text all y) ≡ line_words all (called y) y.part
  words =
      first_word all (called y) y.part (λ ws. words_of (spaced ws) ≡ ws)
      (λ v vs e. words_spaced v vs (subst (All (Lacks 32)) e (words_lack 32 (omega arith) all (called y) y.part (length xs) name_legal (λ i h. w.legal_names i (omega (arith, inside))) sound earlier)))

  pub text_lacks : Lacks 10 (line_text all y)
  text_lacks =
      first_word all (called y) y.part (λ ws. Lacks 10 (spaced ws))
      (λ v vs e. lacks_spaced v vs (subst (All (Lacks 10)) e (words_lack 10 (omega arith) all (called y) y.part (length xs) name_legal (λ i h. w.legal_names i (omega (arith, inside))) sound earlier)))

  pub line_again : node_at xs (line_text all y) ≡ Ok y
  line_again =
      let s : Said = said_for all (called y) y.part in
      let n = name_said all (called y) y.part in
      ap (λ r. and_then r (node_of xs)) (line_said all (line_text all y) (called y) y.part words name_legal)
      ∙ node_read xs s y.part (ap (named xs) n ∙ fresh) (part_read xs all (called y) y.part sound child)
      ∙ (λ i. Ok (record { name = (ap name_of n ∙ ap (λ (m : Node). name_of (called m)) (sym here) ∙ w.stored (length xs) inside ∙ ap (λ (m : Node). m.name) here) i; part = y.part }))

pub nodes_again : (all xs ys : List Node) → xs ++ ys ≡ all → WellFormed all → nodes_on xs (map (line_text all) ys) ≡ Ok all
unfolding nodes_on
nodes_again all xs [] e w = ap Ok (sym (append-nil xs) ∙ e)
nodes_again all xs (y ∷ ys) e w =
    nodes_ok xs (line_text all y) (map (line_text all) ys) y (line_again all xs y ys e w) ∙ nodes_again all (xs ++ y ∷ []) ys (append_assoc xs (y ∷ []) ys ∙ e) w

pub lines_lack : (all xs ys : List Node) → xs ++ ys ≡ all → WellFormed all → All (Lacks 10) (map (line_text all) ys)
lines_lack all xs [] e w = tt
lines_lack all xs (y ∷ ys) e w = (text_lacks all xs y ys e w, lines_lack all (xs ++ y ∷ []) ys (append_assoc xs (y ∷ []) ys ∙ e) w)

-- well-formed nodes in print are read as themselves
pub reads_print : (ns : List Node) (cells : ℕ) → WellFormed ns → length (printed ns) ≤ 8192 → length ns ≤ cells → outcome (printed ns) cells ≡ Ok ns
reads_print ns cells w short room =
    let lines : lines_of (printed ns) ≡ map (line_text ns) ns = lines_unlines (map (line_text ns) ns) (lines_lack ns [] ns refl w) in
    let count = ap length lines ∙ length-map ns (line_text ns) in
    let last = unlines_ended (map (line_text ns) ns) (omega (arith, length-map ns (line_text ns), w.some)) in
    ap (λ r. and_then r (λ n. and_then (nodes_on [] (lines_of (printed ns))) tree)) (whole_read (printed ns) last.0 short last.1 (omega (arith, w.few)) (omega arith))
    ∙ ap (λ r. and_then r tree) (ap (nodes_on []) lines ∙ nodes_again ns [] ns refl w)
    ∙ ap (λ (o : Option ℕ). elim o as (λ _. Result (List Node) Fault) [ None ↦ Ok ns | Some k ↦ Err (NeverJoined (k + 1)) ]) (loose_all (length ns - 1) 0 (λ k. joined k ns) (λ j l h. let o = w.owned j (omega arith) in joined_by j ns o.0 o.2 o.3))
  where
    whole_read : (t : List ℕ) → 0 < length t → length t ≤ 8192 → get_or t (length t - 1) 0 ≡ 10 → length (lines_of t) ≤ 127 → length (lines_of t) ≤ cells → whole t cells ≡ Ok (length (lines_of t))
    whole_read t a b c d e =
        cond-false (eqb (length t) 0) _ _ (ne_eqb _ _ (λ q. omega arith)) ∙ cond-false (ltb 8192 (length t)) _ _ (le-ltb _ _ b) ∙ cond-false (not (eqb (get_or t (length t - 1) 0) 10)) _ _ (not_from_true _ (eq-eqb _ _ c))
        ∙ cond-false (ltb 127 (length (lines_of t))) _ _ (le-ltb _ _ d) ∙ cond-false (ltb cells (length (lines_of t))) _ _ (le-ltb _ _ e)
