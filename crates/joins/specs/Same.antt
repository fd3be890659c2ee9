-- Joins of the same fields are the same, so a refused call leaves a join as it is.
use Rattle.std.specs.Prelude.{◌≡◌, Err}
use Rattle.std.proofs.Common.{◌∙◌, arith}
use Rattle.channel.specs.declared.phase.Phase.{Phase}
use Rattle.channel.specs.declared.device.Refusal.{Refusal}
use Rattle.channel.specs.declared.end.QEnd.{QEnd}
use Rattle.channel.specs.Calls.{lower_answer, raise_answer}
use Rattle.channel.specs.Ends.{lowered_at, raised_at}
use Rattle.joins.specs.declared.join.Join.{Join}
use Rattle.joins.specs.Join.{LowerMade, RaiseMade}

lower_same : (p : Phase) (e : QEnd) (w : Refusal) → lower_answer p ≡ Err w → lowered_at p e ≡ e
lower_same p e w r = grind arith

raise_same : (p : Phase) (e : QEnd) (w : Refusal) → raise_answer p ≡ Err w → raised_at p e ≡ e
raise_same p e w r = grind arith

module _ {R A B : Type 0} where
  pub same_join : (i j : Join R A B) → j.end ≡ i.end → j.first ≡ i.first → j.second ≡ i.second → j ≡ i
  same_join i j e p q = λ k. record { rule = j.rule; end = e k; first = p k; second = q k }

  pub lower_refused : (i j : Join R A B) (w : Refusal) → lower_answer i.end.phase ≡ Err w → LowerMade i j → j ≡ i
  lower_refused i j w e m = same_join i j (m.lowered ∙ lower_same i.end.phase i.end w e) m.apart.same_first m.apart.same_second

  pub raise_refused : (i j : Join R A B) (w : Refusal) → raise_answer i.end.phase ≡ Err w → RaiseMade i j → j ≡ i
  raise_refused i j w e m = same_join i j (m.raised ∙ raise_same i.end.phase i.end w e) m.apart.same_first m.apart.same_second
