use Rattle.std.proofs.Common.{false}
use Rattle.std.proofs.lemmas.List.{get_or-replicate}
use Rattle.topology.proofs.table.Topology.empty.Goals as goal

-- none of the 256 marks is set
pub invariant_of-result-clause-marked : goal.invariant_of-result-clause-marked
invariant_of-result-clause-marked c = λ k below. get_or-replicate 256 k false false below
