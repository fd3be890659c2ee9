-- The look-up of a name is std's look for a position. Assumes nothing.
use Rattle.std.proofs.Common.{◌≡◌, ℕ, suc, ◌+◌, Bool, true, false, cond, not, ltb, List, [], ◌∷◌, length, Some, None, refl, ap, ◌∙◌, arith}
use Rattle.std.specs.Str.{bytes_eq}
use Rattle.std.specs.List.{position, position_or_len}
use Rattle.std.proofs.lemmas.Bool.{ltb-true, ltb-false, lt-ltb, le-ltb, cond-true, cond-false}
use Rattle.topology.specs.declared.node.Node.{Node}
use Rattle.topology.specs.Nodes.{named, called, next}

pub position_named : (ns : List Node) (w : List ℕ) → position (λ n. bytes_eq (called n) w) ns ≡ named ns w
unfolding named
position_named [] w = refl
position_named (n ∷ ns) w = by (bytes_eq (called n) w) (position_named ns w)
  where
    k : ℕ
    k = position_or_len (λ m. bytes_eq (called m) w) ns

    later : (t : Bool) → ltb k (length ns) ≡ t → cond (ltb (1 + k) (suc (length ns))) (Some (1 + k)) None ≡ next (cond t (Some k) None)
    later true p = cond-true _ _ _ (lt-ltb (1 + k) (suc (length ns)) (let h = ltb-true _ _ p in omega arith)) ∙ (let e : 1 + k ≡ suc k = omega arith in ap Some e)
    later false p = cond-false _ _ _ (le-ltb (1 + k) (suc (length ns)) (let h = ltb-false _ _ p in omega arith))

    by : (t : Bool) → cond (ltb k (length ns)) (Some k) None ≡ named ns w → cond (ltb (cond (not t) (1 + k) 0) (suc (length ns))) (Some (cond (not t) (1 + k) 0)) None ≡ cond t (Some 0) (next (named ns w))
    by true e = cond-true (ltb 0 (suc (length ns))) _ _ (lt-ltb 0 (suc (length ns)) (omega arith))
    by false e = later (ltb k (length ns)) refl ∙ ap next e
