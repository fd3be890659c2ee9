-- The promise of a pile, by what its implementation says of it.
use Rattle.std.specs.Prelude.{List}
use Rattle.pile.specs.declared.pile.Pile as pile
use Rattle.pile.specs.Runs.{Every, Promised}

module _ {S C F : Type 0} where
  -- of the run of these calls from the reset pile
  abbrev pub PromisedOf : pile.Ghosts S C F → List C → S → S → Type 0
  PromisedOf p = Promised p.ordered p.view p.timing p.kind p.makes p.resets

  -- of every run from every such pile
  abbrev pub EveryOf : pile.Ghosts S C F → Type 0
  EveryOf p = Every p.ordered p.view p.timing p.kind p.makes
