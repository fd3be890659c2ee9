use Rattle.leaves.specs.Timed.{timed_makes, after}
use Rattle.leaves.specs.Work.{work_makes}
use Rattle.leaves.specs.Work as work
use Rattle.plays.specs.Worked.{told_phase, told_work}
use Rattle.plays.proofs.Courses.{tells, join_tells, converter_tells}
use Rattle.plays.proofs.Texts.{lone_join}
use Rattle.plays.proofs.worked.worked_plays.Goals as goal

pub returns : goal.returns
returns c = record {
  late_answer = λ h i. tells timed_makes (λ t. t) after told_phase (λ c x y e. e) _ _;
  every_third = λ h i. tells timed_makes (λ t. t) after told_phase (λ c x y e. e) _ _;
  patience = tells work_makes (λ w. w) work.after told_work (λ c x y e. e) _ _;
  both_deny = λ h i j m. join_tells _ _ _ j m _;
  slow_first = λ h i j m. join_tells _ _ _ j m _;
  no_older = λ h i j m. join_tells _ _ _ j m _;
  denied_ask = λ h i c m. converter_tells _ c m _;
  lone_join = lone_join;
}
