-- What an answer of `judge` says, for each case of the enum: the paper's number and place (document 01, 'Refusal numbers'), or the counts and the horizon. Assumes nothing.
use Rattle.std.specs.Prelude.{ℕ, Result, Ok, Err}
use Rattle.model.specs.Sheet.{Counts, counts}
use Rattle.format.specs.Judgement.{Judgement, refused, accepted}
use Rattle.judge.specs.declared.Fault.{Fault}
use Rattle.judge.specs.declared.Fault.TheVariants.{CutShort, UnknownMark, OutOfOrder, PastCount, BadField, BadSwitch, BadEnd, BytesAfter, OutOfRange, MemoryTooSmall}
use Rattle.judge.specs.declared.Judged.{Judged}
use Rattle.judge.specs.declared.Refusal.{Refusal}

-- the paper's number of a fault
abbrev pub number_of : Fault → ℕ
number_of CutShort = 1
number_of UnknownMark = 2
number_of OutOfOrder = 3
number_of PastCount = 4
number_of BadField = 5
number_of BadSwitch = 6
number_of BadEnd = 7
number_of BytesAfter = 8
number_of OutOfRange = 9
number_of MemoryTooSmall = 10

abbrev pub refusal : Fault → ℕ → Refusal
refusal fault place = record { fault = fault; place = place }

pub data Told : Type 0 where
  told_refused : (number place : ℕ) → Told
  told_accepted : (holds : Counts) (horizon : ℕ) → Told

abbrev pub told : Result Judged Refusal → Told
told (Err r) = told_refused (number_of r.fault) r.place
told (Ok a) = told_accepted (record { modules = a.modules; modes = a.modes; tasks = a.tasks; switches = a.switches }) a.horizon

-- what an answer has to tell
abbrev pub tells_of : Judgement → Told
tells_of (refused number place) = told_refused number place
tells_of (accepted s) = told_accepted (counts s) s.horizon
