use Rattle.std.proofs.Common.{◌≡◌, ℕ, ◌+◌, Bool, true, false, cond, not, eqb, ltb, List, [], length, take, drop, Some, None, Option, sym, refl, ap, ◌∙◌, ⊎_elim, arith, rules}
use denote.Ref.{Bor}
use borrow.Author.Tests.{tests}
use Rattle.std.specs.Option.{unwrap_or}
use Rattle.std.specs.Slice.{IsGetRangeResult}
use Rattle.std.proofs.lemmas.Bool.{ltb-false}
use Rattle.std.proofs.lemmas.List.{take_rest, drop_all}
use Rattle.std.proofs.lemmas.List.Sums.{prefix_len-le-length}
use Rattle.std.proofs.lemmas.Iterator.{YieldsList-from_slice}
use Rattle.std.proofs.lemmas.Iterator.Search.{position_from_yields_List}
use Rattle.words.specs.Pieces.{line_end}
use Rattle.words.proofs.piece.split_line.Goals as goal

or_len : (t : List ℕ) → unwrap_or (cond (ltb (line_end t) (length t)) (Some (line_end t)) None) (length t) ≡ line_end t
or_len t = by (ltb (line_end t) (length t)) refl
  where
    by : (e : Bool) → ltb (line_end t) (length t) ≡ e → unwrap_or (cond e (Some (line_end t)) None) (length t) ≡ line_end t
    by true p = refl
    by false p = let h = prefix_len-le-length (λ x. not (eqb x 10)) t in omega (arith, ltb-false _ _ p)

rest_after : (t : List ℕ) (n : ℕ) (r : Option (Bor (List ℕ))) (none : Bor (List ℕ)) → none.now ≡ [] → IsGetRangeResult t n (length t) r → (unwrap_or r none).now ≡ drop n t
rest_after t n None d e h = e ∙ sym (drop_all n t (⊎_elim (λ a. omega arith) (λ a. omega arith) h.0))
rest_after t n (Some y) d e h = h.0.2 ∙ take_rest t n

pub returns-clause-line : goal.returns-clause-line
returns-clause-line c =
    let t = c.args.text.now in
    let e = position_from_yields_List (λ x. eqb x 10) _ _ c.position.result c.position.ensures.ran (YieldsList-from_slice t c.iter.ensures.rest) (λ x b q k. search (rules, tests)) in
    ap (λ n. take n t) (c.unwrap_or-end.ensures ∙ ap (λ o. unwrap_or o (length t)) e ∙ or_len t)

pub returns-clause-rest : goal.returns-clause-rest
returns-clause-rest c =
    let t = c.args.text.now in
    let e = position_from_yields_List (λ x. eqb x 10) _ _ c.position.result c.position.ensures.ran (YieldsList-from_slice t c.iter.ensures.rest) (λ x b q k. search (rules, tests)) in
    let n : c.unwrap_or-end.result ≡ line_end t = c.unwrap_or-end.ensures ∙ ap (λ o. unwrap_or o (length t)) e ∙ or_len t in
    ap (λ x. x.now) c.unwrap_or.ensures ∙ rest_after t (c.unwrap_or-end.result + 1) c.get.result _ refl c.get.ensures.lookup ∙ ap (λ k. drop (k + 1) t) n
