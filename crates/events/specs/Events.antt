-- Event lines and refusals.
use Rattle.std.specs.Prelude.{ℕ, cond, List, [], ◌∷◌, length, Some, None, Ok, Err, codes, Option, Result, ◌==◌}
use Rattle.std.specs.Str.{bytes_eq}
use Rattle.channel.specs.Calls.{refusal_number}
use Rattle.leaves.specs.Jobs.{job_number}
use Rattle.words.specs.Numbers.{within, decimal_of}
use Rattle.words.specs.Names.{legal, name_of}
use Rattle.words.specs.Pieces.{words_of, word_of}
use Rattle.events.specs.declared.event.Event.{Event}
use Rattle.events.specs.declared.event.Event.TheVariants.{Lower, Raise, Step, Reset, Job}
use Rattle.events.specs.declared.refusal.Refusal.{Refusal}
use Rattle.events.specs.declared.refusal.Refusal.TheVariants.{SmallOutput, NoLetter, NotAsWritten, LastTick, Device}
use Rattle.events.specs.declared.refusal.Refusal.TheVariants as refusal

-- refusals by number; a device's are 20 and 21, a job's 22 and 23
abbrev pub number_told : Refusal → ℕ
number_told SmallOutput = 33
number_told NoLetter = 30
number_told NotAsWritten = 31
number_told LastTick = 32
number_told (Device r) = refusal_number r
number_told (refusal.Job r) = job_number r

-- digits that write a number of at most 65,535
abbrev pub jobs_of : List ℕ → Option ℕ
jobs_of w = within 65535 w

-- the number of 0 to 65,535 that a word writes in decimal, with no leading zero but 0 itself
abbrev pub count_of : List ℕ → Option ℕ
count_of w = decimal_of 65535 w

-- one letter and nothing else
abbrev pub alone : List ℕ → Event → Result Event Refusal
alone line e = cond (length line == 1) (Ok e) (Err NotAsWritten)

abbrev pub with_count : List ℕ → Option ℕ → Result Event Refusal
with_count w None = Err NotAsWritten
with_count w (Some n) = Ok (Job (name_of w) n)

-- `j NAME N`: three words, the first of them `j`
abbrev pub job_line : List ℕ → Result Event Refusal
job_line line =
    cond (length (words_of line) == 3)
    (cond (bytes_eq (word_of line 0) (codes "j"))
    (cond (legal (word_of line 1)) (with_count (word_of line 1) (count_of (word_of line 2))) (Err NotAsWritten))
    (Err NotAsWritten))
    (Err NotAsWritten)

-- by the first letter: l, r, s, z, j
abbrev pub by_letter : ℕ → List ℕ → Result Event Refusal
by_letter c line =
    cond (c == 108) (alone line Lower)
    (cond (c == 114) (alone line Raise)
    (cond (c == 115) (alone line Step)
    (cond (c == 122) (alone line Reset)
    (cond (c == 106) (job_line line) (Err NoLetter)))))

abbrev pub read_event : List ℕ → Result Event Refusal
read_event [] = Err NoLetter
read_event (c ∷ cs) = by_letter c (c ∷ cs)
