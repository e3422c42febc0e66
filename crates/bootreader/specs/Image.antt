-- What an image loads by itself: the public calls on an image, each as one definition. Document 01, "Questions at the door".
use Rattle.std.specs.Prelude.{ℕ, ◌+◌, List, [], ◌∷◌, length, Option, Result, Ok}
use Rattle.base.specs.Answer.{Numbered, in_numbers}
use Rattle.base.specs.Question.{ask}
use Rattle.base.specs.Refusal.{refused}
use Rattle.kind.specs.Layout.{longest_chip, image_length_allowed}
use Rattle.kind.specs.Kind.{Kind}
use Rattle.packets.specs.Trace.{nth_write}
use Rattle.writes.specs.Cursor.{cursor_at}
use Rattle.bootreader.specs.Types.{Reason, BadImageLength, ImageFault, ImageJumps, Refusal, Outcome, Loaded, OutcomeIprog, Stuck, Write, Cursor, Accepted}

-- the shortest image that is accepted
abbrev pub shortest_image : ℕ
shortest_image = 12

-- the longest image where one is checked by itself
abbrev pub longest_image : ℕ
longest_image = longest_chip

-- Question 5: does an image read alone to Loaded? The number and the place of the refusal for each case of a reading: 5 at the faulty word, unless that is IPROG: 6.
unfoldable pub alone_case {ℓ} : {A : Type ℓ} → (Reason → ℕ → A) → (ℕ → ℕ → ℕ → A) → Outcome → A
alone_case refused accepted (Loaded sync end writes jumped) = accepted sync end writes
alone_case refused accepted (OutcomeIprog place) = refused ImageJumps place
alone_case refused accepted (Stuck place) = refused ImageFault place

-- Questions 4 and 5, and what an accepted image's reading is used for. Whoever is given an image asks them so.
abbrev pub ask_image {ℓ} : {A : Type ℓ} → Kind → ℕ → (Reason → ℕ → A) → (ℕ → ℕ → ℕ → A) → List ℕ → A
ask_image kind longest refused accepted image =
    ask (image_length_allowed longest (length image)) (refused BadImageLength 0) (alone_case refused accepted (kind.alone image))

-- an image that is accepted: the last sync word's place, the place after its last word, and how many writes it lists
abbrev pub accepted : ℕ → ℕ → ℕ → Result Accepted Refusal
accepted sync end writes = Ok (record { sync = sync; end = end; writes = writes })

-- in numbers: sync, end, writes
abbrev pub image_numbers : Result Accepted Refusal → Numbered
image_numbers = in_numbers (λ (image : Accepted). image.sync ∷ image.end ∷ image.writes ∷ [])

-- `image::check_within`
abbrev pub image_within : Kind → ℕ → List ℕ → Result Accepted Refusal
image_within kind longest image = ask_image kind longest refused accepted image

-- `image::check`
unfoldable pub image_answer : Kind → List ℕ → Result Accepted Refusal
image_answer kind image = image_within kind longest_image image

-- `image::write`
unfoldable pub image_write : Kind → List ℕ → ℕ → Result (Option Write) Refusal
image_write kind image i = ask_image kind longest_image refused (λ sync end writes. Ok (nth_write (kind.lists image (kind.alone image)) i)) image

-- `image::writes`: a cursor before the first write
unfoldable pub image_listing : Kind → List ℕ → Result Cursor Refusal
image_listing kind image = ask_image kind longest_image refused (λ sync end writes. Ok (cursor_at (sync + 4) writes)) image
