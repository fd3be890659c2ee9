-- The nodes read of a text give the text back. Assumes nothing.
use Rattle.std.proofs.Common.{◌≡◌, ℕ, ◌+◌, ◌<◌, Bool, true, false, cond, List, [], ◌∷◌, ◌++◌, length, get_or, Some, None, Ok, Err, codes, Result, sym, refl, ap, ◌∙◌, subst, arith}
use Rattle.std.specs.Str.{bytes_eq}
use Rattle.std.proofs.lemmas.Slice.Eq.{bytes_eq-Decides}
use Rattle.std.proofs.lemmas.List.{append_assoc, append-nil, get_or_append_left}
use Rattle.words.specs.Pieces.{words_of, word_of, lines_of, spaced, unlines}
use Rattle.words.proofs.Written.{number_says, spaced_words, unlines_lines}
use Rattle.lines.specs.declared.flaw.Flaw.{Flaw}
use Rattle.topology.specs.declared.fault.Fault.{Fault}
use Rattle.topology.specs.declared.fault.Fault.TheVariants.{BadLine}
use Rattle.lines.specs.declared.line.Kind.{Kind}
use Rattle.lines.specs.declared.line.Kind.TheVariants as kind
use Rattle.topology.specs.declared.node.Node.{Node}
use Rattle.topology.specs.declared.node.Part.{Part}
use Rattle.lines.specs.Lines.{name_in, kind_of, width, say, line_of}
use Rattle.topology.specs.Nodes.{absent, called, named, node_of}
use Rattle.topology.specs.Format.{node_at, nodes_on, outcome}
use Rattle.topology.specs.Trees.{name_of_line}
use Rattle.topology.specs.Printed.{line_words, print_lines, printed}
use Rattle.topology.proofs.Made.{MadePart, node_ok, line_ok, and_then_ok, err_ok, ok_inj, none_some, named_some}
use Rattle.topology.proofs.Grown.{accepted, said_name, made_called, name_second}

three : (ws : List (List ℕ)) → length ws ≡ 3 → ws ≡ get_or ws 0 [] ∷ get_or ws 1 [] ∷ get_or ws 2 [] ∷ []
three [] e = absurd (omega arith)
three (a ∷ []) e = absurd (omega arith)
three (a ∷ b ∷ []) e = absurd (omega arith)
three (a ∷ b ∷ c ∷ []) e = refl
three (a ∷ b ∷ c ∷ d ∷ ws) e = absurd (omega arith)

four : (ws : List (List ℕ)) → length ws ≡ 4 → ws ≡ get_or ws 0 [] ∷ get_or ws 1 [] ∷ get_or ws 2 [] ∷ get_or ws 3 [] ∷ []
four [] e = absurd (omega arith)
four (a ∷ ws) e = ap (λ vs. a ∷ vs) (three ws (omega arith))

five : (ws : List (List ℕ)) → length ws ≡ 5 → ws ≡ get_or ws 0 [] ∷ get_or ws 1 [] ∷ get_or ws 2 [] ∷ get_or ws 3 [] ∷ get_or ws 4 [] ∷ []
five [] e = absurd (omega arith)
five (a ∷ ws) e = ap (λ vs. a ∷ vs) (four ws (omega arith))

-- the first word of a kind
pub word_for : Kind → List ℕ
word_for kind.Timed = codes "timed"
word_for kind.Work = codes "work"
word_for kind.Dist = codes "dist"
word_for kind.Seq = codes "seq"

pub kind_word : (w : List ℕ) (k : Kind) → kind_of w ≡ Some k → w ≡ word_for k
unfolding word_for
kind_word w k e = by (bytes_eq w (codes "timed")) refl (bytes_eq w (codes "work")) refl (bytes_eq w (codes "dist")) refl (bytes_eq w (codes "seq")) refl e
  where
    equal : (x y : List ℕ) → bytes_eq x y ≡ true → x ≡ y
    equal x y p = (bytes_eq-Decides x y).0 p

    by : (a : Bool) → bytes_eq w (codes "timed") ≡ a → (b : Bool) → bytes_eq w (codes "work") ≡ b → (c : Bool) → bytes_eq w (codes "dist") ≡ c → (d : Bool) → bytes_eq w (codes "seq") ≡ d → cond a (Some kind.Timed) (cond b (Some kind.Work) (cond c (Some kind.Dist) (cond d (Some kind.Seq) None))) ≡ Some k → w ≡ word_for k
    by true pa b pb c pc d pd h = let q : kind.Timed ≡ k = cc in subst (λ x. w ≡ word_for x) q (equal w (codes "timed") pa)
    by false pa true pb c pc d pd h = let q : kind.Work ≡ k = cc in subst (λ x. w ≡ word_for x) q (equal w (codes "work") pb)
    by false pa false pb true pc d pd h = let q : kind.Dist ≡ k = cc in subst (λ x. w ≡ word_for x) q (equal w (codes "dist") pc)
    by false pa false pb false pc true pd h = let q : kind.Seq ≡ k = cc in subst (λ x. w ≡ word_for x) q (equal w (codes "seq") pd)
    by false pa false pb false pc false pd h = absurd (none_some h)

-- all begins with the nodes ns
abbrev Begins : List Node → List Node → Type 0
Begins ns all = (j : ℕ) → j < length ns → get_or all j absent ≡ get_or ns j absent

module _ (ns all : List Node) (start : Begins ns all) where
  child_word : (w : List ℕ) (j : ℕ) → named ns w ≡ Some j → name_of_line all j ≡ w
  child_word w j e = let h = named_some ns w j e in ap called (start j h.0) ∙ h.1 absent

  -- the words of a node are those of its line
  words_back : (k : Kind) (l : List ℕ) (name : List ℕ) (p : Part) → word_of l 0 ≡ word_for k → length (words_of l) ≡ width k → name ≡ word_of l 1 → MadePart ns (say k l) p → line_words all name p ≡ words_of l
  unfolding word_for
  words_back kind.Timed l name p first long call h =
      let x = number_says 1 (word_of l 2) h.0 h.3 in
      let y = number_says 1 (word_of l 3) h.1 h.4 in
      let z = number_says 0 (word_of l 4) h.2 h.5 in
      ap (line_words all name) (sym h.6) ∙ (λ i. sym first i ∷ call i ∷ x.back i ∷ y.back i ∷ z.back i ∷ []) ∙ sym (five (words_of l) long)
  words_back kind.Work l name p first long call h =
      let x = number_says 0 (word_of l 2) h.0 h.1 in
      ap (line_words all name) (sym h.2) ∙ (λ i. sym first i ∷ call i ∷ x.back i ∷ []) ∙ sym (three (words_of l) long)
  words_back kind.Dist l name p first long call h =
      let x = child_word (word_of l 2) h.0.0 h.1.first in
      let y = child_word (word_of l 3) h.0.1 h.1.second in
      ap (line_words all name) (sym h.2) ∙ (λ i. sym first i ∷ call i ∷ x i ∷ y i ∷ []) ∙ sym (four (words_of l) long)
  words_back kind.Seq l name p first long call h =
      let x = child_word (word_of l 2) h.0.0 h.1.first in
      let y = child_word (word_of l 3) h.0.1 h.1.second in
      ap (line_words all name) (sym h.2) ∙ (λ i. sym first i ∷ call i ∷ x i ∷ y i ∷ []) ∙ sym (four (words_of l) long)

  pub line_back : (l : List ℕ) (n : Node) → node_at ns l ≡ Ok n → spaced (line_words all (called n) n.part) ≡ l
  line_back l n e =
      let h = and_then_ok (line_of l) (node_of ns) n e in
      let f = line_ok l h.0 h.1 in
      let m = node_ok ns h.0 n h.2 in
      let call = made_called ns h.0 n m (said_name l h.0 h.1) ∙ ap name_in (sym f.1.is) ∙ name_second f.0 l in
      ap spaced (words_back f.0 l (called n) n.part (kind_word (word_of l 0) f.0 f.1.kind) f.1.words call (subst (λ s. MadePart ns s n.part) (sym f.1.is) m.part)) ∙ spaced_words l

pub nodes_back : (ls : List (List ℕ)) (ns ms : List Node) → nodes_on ns ls ≡ Ok ms → (xs : List Node) × (ns ++ xs ≡ ms) × (print_lines ms xs ≡ unlines ls)
unfolding nodes_on unlines
nodes_back [] ns ms e = ([], append-nil ns ∙ ok_inj e, refl)
nodes_back (l ∷ ls) ns ms e = by (node_at ns l) refl e (λ n. nodes_back ls (ns ++ n ∷ []) ms)
  where
    by : (r : Result Node Flaw) → node_at ns l ≡ r → elim r as (λ _. Result (List Node) Fault) [ Ok n ↦ nodes_on (ns ++ n ∷ []) ls | Err f ↦ Err (BadLine f (length ns + 1)) ] ≡ Ok ms → ((n : Node) → nodes_on (ns ++ n ∷ []) ls ≡ Ok ms → (xs : List Node) × ((ns ++ n ∷ []) ++ xs ≡ ms) × (print_lines ms xs ≡ unlines ls)) → (xs : List Node) × (ns ++ xs ≡ ms) × (print_lines ms xs ≡ l ++ 10 ∷ unlines ls)
    by (Err f) p h ih = absurd (err_ok h)
    by (Ok n) p h ih =
        let r = ih n h in
        let all : ns ++ n ∷ r.0 ≡ ms = sym (append_assoc ns (n ∷ []) r.0) ∙ r.1 in
        let start : Begins ns ms = λ j k. ap (λ xs. get_or xs j absent) (sym all) ∙ get_or_append_left ns (n ∷ r.0) absent j k in
        (n ∷ r.0, all, λ i. line_back ns ms start l n p i ++ 10 ∷ r.2 i)

-- printing what was read gives the text
pub prints_back : (t : List ℕ) (cells : ℕ) (ns : List Node) → outcome t cells ≡ Ok ns → printed ns ≡ t
prints_back t cells ns e =
    let a = accepted t cells ns e in
    let r = nodes_back (lines_of t) [] ns a.nodes in
    ap (print_lines ns) (sym r.1) ∙ r.2 ∙ unlines_lines t (λ h. a.ended)
