-- What one turn of the reader's loop keeps, and the line that none joins. Assumes nothing.
use Rattle.std.proofs.Common.{◌≡◌, ℕ, zero, suc, ◌+◌, ◌<◌, ◌≤◌, Bool, true, false, List, [], ◌∷◌, ◌++◌, length, Some, None, Ok, Err, Option, Result, sym, refl, ap, ◌∙◌, ⊎_elim, arith}
use Rattle.std.specs.Option.{MatchOption}
use Rattle.std.proofs.lemmas.Bool.{cond-true, cond-false, cases_eq}
use Rattle.std.proofs.lemmas.List.{length_push}
use Rattle.words.specs.Pieces.{lines_of}
use Rattle.lines.specs.declared.flaw.Flaw.{Flaw}
use Rattle.topology.specs.declared.fault.Fault.{Fault}
use Rattle.topology.specs.declared.fault.Fault.TheVariants.{BadLine}
use Rattle.topology.specs.declared.node.Node.{Node}
use Rattle.topology.specs.Format.{loose, node_at, nodes_on}

-- the first of n numbers from k on that fails a test
pub loose_found : (n k : ℕ) (m : ℕ → Bool) (o : Option ℕ) → MatchOption o ((j : ℕ) → k ≤ j → j < k + n → m j ≡ true) (λ i. (k ≤ i) × (i < k + n) × (m i ≡ false) × ((j : ℕ) → k ≤ j → j < i → m j ≡ true)) → o ≡ loose n k m
unfolding loose
loose_found zero k m None h = refl
loose_found zero k m (Some i) h = absurd (omega (arith, h.0, h.1))
loose_found (suc n) k m None h = loose_found n (k + 1) m None (λ j a b. h j (omega arith) (omega arith)) ∙ sym (cond-true (m k) _ _ (h k (omega arith) (omega arith)))
loose_found (suc n) k m (Some i) h =
    ⊎_elim (λ (e : k ≡ i). ap Some (sym e) ∙ sym (cond-false (m k) _ _ (ap m e ∙ h.2)))
    (λ (e : k ≡ i → ⊥). loose_found n (k + 1) m (Some i) (omega (arith, h.0), omega (arith, h.1), h.2, λ j a b. h.3 j (omega arith) b) ∙ sym (cond-true (m k) _ _ (h.3 k (omega arith) (omega (arith, h.0)))))
    (cases_eq k i)

pub loose_first : (n : ℕ) (m : ℕ → Bool) (o : Option ℕ) → MatchOption o ((k : ℕ) → 0 ≤ k → k < n → m k ≡ true) (λ i. (0 ≤ i) × (i < n) × (m i ≡ false) × ((k : ℕ) → 0 ≤ k → k < i → m k ≡ true)) → o ≡ loose n 0 m
loose_first n m None h = loose_found n 0 m None (λ j a b. h j a (omega arith))
loose_first n m (Some i) h = loose_found n 0 m (Some i) (h.0, omega (arith, h.1), h.2, h.3)

pub nodes_ok : (ns : List Node) (l : List ℕ) (ls : List (List ℕ)) (n : Node) → node_at ns l ≡ Ok n → nodes_on ns (l ∷ ls) ≡ nodes_on (ns ++ n ∷ []) ls
unfolding nodes_on
nodes_ok ns l ls n e = ap (λ (r : Result Node Flaw). elim r as (λ _. Result (List Node) Fault) [ Ok m ↦ nodes_on (ns ++ m ∷ []) ls | Err f ↦ Err (BadLine f (length ns + 1)) ]) e

pub nodes_err : (ns : List Node) (l : List ℕ) (ls : List (List ℕ)) (f : Flaw) → node_at ns l ≡ Err f → nodes_on ns (l ∷ ls) ≡ Err (BadLine f (length ns + 1))
unfolding nodes_on
nodes_err ns l ls f e = ap (λ (r : Result Node Flaw). elim r as (λ _. Result (List Node) Fault) [ Ok m ↦ nodes_on (ns ++ m ∷ []) ls | Err f ↦ Err (BadLine f (length ns + 1)) ]) e

-- the lines of t are read into ns, but for the lines ls
pub record Sofar (t : List ℕ) (ns : List Node) (ls : List (List ℕ)) : Type 0 where
  pub reads : nodes_on ns ls ≡ nodes_on [] (lines_of t)
  pub left : length ns + length ls ≡ length (lines_of t)

pub sofar_more : (t : List ℕ) (ns : List Node) (l : List ℕ) (ls : List (List ℕ)) (n : Node) → Sofar t ns (l ∷ ls) → node_at ns l ≡ Ok n → Sofar t (ns ++ n ∷ []) ls
sofar_more t ns l ls n h e = record { reads = sym (nodes_ok ns l ls n e) ∙ h.reads; left = omega (arith, h.left, length_push ns n) }

pub sofar_stop : (t : List ℕ) (ns : List Node) (l : List ℕ) (ls : List (List ℕ)) (f : Flaw) → Sofar t ns (l ∷ ls) → node_at ns l ≡ Err f → nodes_on [] (lines_of t) ≡ Err (BadLine f (length ns + 1))
sofar_stop t ns l ls f h e = sym h.reads ∙ nodes_err ns l ls f e

pub sofar_end : (t : List ℕ) (ns : List Node) → Sofar t ns [] → nodes_on [] (lines_of t) ≡ Ok ns
unfolding nodes_on
sofar_end t ns h = sym h.reads
