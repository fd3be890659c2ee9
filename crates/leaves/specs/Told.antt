-- What the trait of devices says of both leaves, as one record each.
use Rattle.channel.specs.declared.device.QDevice as device
use Rattle.leaves.specs.declared.timed.Timed.{Timed}
use Rattle.leaves.specs.declared.work.Work.{Work}
use Rattle.leaves.specs.Timed.{timed_means, timed_timing, timed_makes}
use Rattle.leaves.specs.Work.{work_means, work_timing, work_makes}

abbrev pub timed : device.Ghosts Timed
timed = record { means = timed_means; timing = timed_timing; ordered = λ _. Unit {0}; makes = timed_makes }

abbrev pub work : device.Ghosts Work
work = record { means = work_means; timing = work_timing; ordered = λ _. Unit {0}; makes = work_makes }
