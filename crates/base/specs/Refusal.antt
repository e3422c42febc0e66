-- Refusals and their numbers. Document 01, "Questions at the door".
use Rattle.std.specs.Prelude.{ℕ, Result, Err}
use Rattle.base.specs.Types.{Reason, BadChipLength, BadUpdatePlace, BadUpdateLength, BadImageLength, ImageFault, ImageJumps, BadState, RunEnded, BadReply, SwitchNotErased, UpdateDiffers, SwitchNotOn, BadDamage, BadLine, BadSum, BadRecord, BadAddress, BadEnd, NoRoom, BadHeaviestLength, Refusal}

-- The number of a refusal or a stop.
abbrev pub number_of : Reason → ℕ
-- Question 1.
number_of BadChipLength = 1
-- Question 2.
number_of BadUpdatePlace = 2
-- Question 3.
number_of BadUpdateLength = 3
-- Question 4.
number_of BadImageLength = 4
-- Question 5, and where the faulty word is IPROG.
number_of ImageFault = 5
number_of ImageJumps = 6
-- Question 6.
number_of BadState = 7
-- Question 7.
number_of RunEnded = 8
-- Question 8.
number_of BadReply = 9
-- Question 9, the stops: in phase 1, in phase 4, in phase 6.
number_of SwitchNotErased = 10
number_of UpdateDiffers = 11
number_of SwitchNotOn = 12
-- Question 10.
number_of BadDamage = 13
-- Question 11: a line's characters, its sum, its type, its address.
number_of BadLine = 14
number_of BadSum = 15
number_of BadRecord = 16
number_of BadAddress = 17
-- Question 12.
number_of BadEnd = 18
-- Question 13.
number_of NoRoom = 19
-- Document 02, M-111: in place of question 4.
number_of BadHeaviestLength = 29

-- A refused answer: why, and at which place.
abbrev pub refused : {A : Type 0} → Reason → ℕ → Result A Refusal
refused reason place = Err (record { reason = reason; place = place })
