-- Laws of the functions for lists: the numbers that go out and come back are the cursor's.
use Prim.Native.Nat.{ℕ, zero, suc, ◌+◌, ◌<◌, ◌≤◌}
use mathlib.Core.Path.{◌≡◌, refl, ap, ◌∙◌}
use mathlib.Core.Bool.{Bool, true, false}
use mathlib.Core.List.{List, [], ◌∷◌}
use native.Mathlib.Omega.{arith}
use lib.ListN.{length}
use Rattle.std.proofs.Common.{Option, Some, None, Result, Ok, Err}
use Rattle.base.specs.Answer.{in_numbers}
use Rattle.base.specs.Refusal.{refused}
use Rattle.base.specs.Question.{ask}
use Rattle.kind.specs.Spi.{spi, spi_number}
use Rattle.kind.specs.Layout.{chip_length_allowed, image_length_allowed}
use Rattle.packets.specs.Trace.{nth_write}
use Rattle.writes.specs.Cursor.{step_numbers, cursor_at, step_of, nth_step}
use Rattle.writes.specs.Theorems.{step_write}
use Rattle.bootreader.specs.Boot.{boot_case, boot_numbers, cursor_of, boot_answer, chip_write, chip_listing}
use Rattle.bootreader.specs.Image.{longest_image, alone_case, accepted, image_answer, image_write, image_listing}
use Rattle.configreader.specs.Configreader.{read_chip, read_alone, listed}
use Rattle.results.specs.Boot.{boot_result, write_result, image_result}
use Rattle.results.proofs.Laws.{numbered}
use Rattle.fileresults.specs.List.{listing_result, next_numbers, step_result}
use Rattle.bootreader.proofs.Laws.{cursor_lists, listed_length}
use Rattle.hostfiles.specs.List.{listing_call, image_listing_call}
use Rattle.filetheorems.specs.Theorems.{nth_next, nth_from, write_of_step, HostLists}
use Rattle.filetheorems.specs.Types.{BadChipLength, BadImageLength, Refusal, Write, Cursor, Step, Outcome, Loaded, OutcomeIprog, Stuck, TealsettleWrite, TealsettleStep}

-- Where nothing is left, nothing is ever found again.
done_stays : (bytes : List ℕ) (k : ℕ) → nth_step bytes k None ≡ None
unfolding nth_step
done_stays bytes zero = refl
done_stays bytes (suc k) = refl

-- what a host gets of a step, and of a write or that there is none
told : Option Step → TealsettleStep
told step = step_result (Ok step)

said : Option Write → TealsettleWrite
said write = write_result (Ok write)

-- The numbers handed back are those of the cursor after the step; beside no write they are a cursor with nothing to give.
next_of : (k : ℕ) (bytes : List ℕ) (step : Option Step) → nth_next bytes k (told step) ≡ told (nth_step bytes k step)
unfolding told nth_next nth_step step_result next_numbers step_numbers step_of ask
next_of zero bytes step = refl
next_of (suc k) bytes (Some step) = next_of k bytes (step_of bytes step.cursor)
next_of (suc k) bytes None = next_of k bytes None ∙ ap told (done_stays bytes k)

-- A step says what its write, or that there is none, says in numbers.
step_says : (step : Option Step) → write_of_step (told step) ≡ said (step_write step)
unfolding told said write_of_step step_result next_numbers step_numbers write_result in_numbers
step_says (Some step) = refl
step_says None = refl

-- A listing that is open, and whose cursor's steps give these writes, gives them to a host.
opened : (bytes : List ℕ) (listing : Result Cursor Refusal) (writes : ℕ → Result (Option Write) Refusal) → ((c : Cursor) → listing ≡ Ok c → (k : ℕ) → Ok (step_write (nth_step bytes k (step_of bytes c))) ≡ writes k) →
    (listing_result listing).number ≡ 0 → (k : ℕ) → write_of_step (nth_from bytes (listing_result listing) k) ≡ write_result (writes k)
unfolding told said listing_result in_numbers ask
opened bytes (Ok c) writes steps h k = ap write_of_step (next_of k bytes (step_of bytes c)) ∙ step_says (nth_step bytes k (step_of bytes c)) ∙ ap write_result (steps c refl k)
opened bytes (Err r) writes steps h k = absurd (numbered r.reason h)

chip_lists : (chip : List ℕ) → (listing_call spi_number chip).number ≡ 0 → (k : ℕ) → write_of_step (nth_from chip (listing_call spi_number chip) k) ≡ write_result (chip_write spi chip k)
unfolding ask
chip_lists chip = opened chip (chip_listing spi chip) (chip_write spi chip) (cursor_lists.chip chip)

-- A list has the writes below its length, and no others.
nth_found : (writes : List Write) (k : ℕ) → k < length writes → (write_result (Ok (nth_write writes k))).found ≡ 1
unfolding nth_write write_result in_numbers
nth_found [] k h = absurd (omega arith)
nth_found (w ∷ writes) zero h = refl
nth_found (w ∷ writes) (suc k) h = nth_found writes k (omega arith)

nth_none : (writes : List Write) (k : ℕ) → length writes ≤ k → (write_result (Ok (nth_write writes k))).found ≡ 0
unfolding nth_write write_result in_numbers
nth_none [] k h = refl
nth_none (w ∷ writes) zero h = absurd (omega arith)
nth_none (w ∷ writes) (suc k) h = nth_none writes k (omega arith)

-- What a chip that is not refused lists, and how long that list is.
chip_counts : (chip : List ℕ) → (listing_call spi_number chip).number ≡ 0 →
    ((k : ℕ) → chip_write spi chip k ≡ Ok (nth_write (listed chip (read_chip chip)) k)) × (length (listed chip (read_chip chip)) ≡ (boot_result (boot_answer spi chip)).writes)
unfolding ask chip_listing chip_write boot_answer boot_case boot_result boot_numbers listing_result in_numbers listed
chip_counts chip = go (chip_length_allowed (length chip)) (read_chip chip) refl
  where
    go : (b : Bool) (o : Outcome) → read_chip chip ≡ o → (listing_result (ask b (refused BadChipLength 0) (Ok (cursor_of o)))).number ≡ 0 →
        ((k : ℕ) → ask b (refused BadChipLength 0) (Ok (nth_write (listed chip o) k)) ≡ Ok (nth_write (listed chip o) k)) × (length (listed chip o) ≡ (boot_result (ask b (refused BadChipLength 0) (Ok (boot_case o)))).writes)
    go false o e h = absurd (omega arith)
    go true (Loaded sync end writes jumped) e h = (λ k. refl, listed_length 1 false chip 0 sync end writes jumped (omega arith) e)
    go true (OutcomeIprog place) e h = (λ k. refl, refl)
    go true (Stuck place) e h = (λ k. refl, refl)

-- What an accepted image lists, and how long that list is.
image_counts : (image : List ℕ) → (image_listing_call spi_number image).number ≡ 0 →
    ((k : ℕ) → image_write spi image k ≡ Ok (nth_write (listed image (read_alone image)) k)) × (length (listed image (read_alone image)) ≡ (image_result (image_answer spi image)).writes)
unfolding ask image_listing image_write image_answer alone_case image_result listing_result in_numbers listed
image_counts image = go (image_length_allowed longest_image (length image)) (read_alone image) refl
  where
    go : (b : Bool) (o : Outcome) → read_alone image ≡ o → (listing_result (ask b (refused BadImageLength 0) (alone_case refused (λ sync end writes. Ok (cursor_at (sync + 4) writes)) o))).number ≡ 0 →
        ((k : ℕ) → ask b (refused BadImageLength 0) (alone_case refused (λ sync end writes. Ok (nth_write (listed image o) k)) o) ≡ Ok (nth_write (listed image o) k)) × (length (listed image o) ≡ (image_result (ask b (refused BadImageLength 0) (alone_case refused accepted o))).writes)
    go false o e h = absurd (omega arith)
    go true (Loaded sync end writes jumped) e h = (λ k. refl, listed_length 0 false image 0 sync end writes jumped (omega arith) e)
    go true (OutcomeIprog place) e h = absurd (omega arith)
    go true (Stuck place) e h = absurd (omega arith)

image_lists : (image : List ℕ) → (image_listing_call spi_number image).number ≡ 0 → (k : ℕ) → write_of_step (nth_from image (image_listing_call spi_number image) k) ≡ write_result (image_write spi image k)
unfolding ask
image_lists image = opened image (image_listing spi image) (image_write spi image) (cursor_lists.image image)

-- A step that says what the k-th write of a list is finds it where the list is longer, and else nothing.
found_in : (step : TealsettleStep) (writes : List Write) (k : ℕ) → write_of_step step ≡ said (nth_write writes k) → k < length writes → step.found ≡ 1
unfolding said write_of_step
found_in step writes k says below = ap (λ (w : TealsettleWrite). w.found) says ∙ nth_found writes k below

none_in : (step : TealsettleStep) (writes : List Write) (k : ℕ) → write_of_step step ≡ said (nth_write writes k) → length writes ≤ k → step.found ≡ 0
unfolding said write_of_step
none_in step writes k says after = ap (λ (w : TealsettleWrite). w.found) says ∙ nth_none writes k after

chip_says : (chip : List ℕ) (h : (listing_call spi_number chip).number ≡ 0) (k : ℕ) → write_of_step (nth_from chip (listing_call spi_number chip) k) ≡ said (nth_write (listed chip (read_chip chip)) k)
unfolding said
chip_says chip h k = chip_lists chip h k ∙ ap write_result ((chip_counts chip h).0 k)

image_says : (image : List ℕ) (h : (image_listing_call spi_number image).number ≡ 0) (k : ℕ) → write_of_step (nth_from image (image_listing_call spi_number image) k) ≡ said (nth_write (listed image (read_alone image)) k)
unfolding said
image_says image h k = image_lists image h k ∙ ap write_result ((image_counts image h).0 k)

-- A refusal has a cursor with nothing to give.
nothing_refused : (bytes : List ℕ) (listing : Result Cursor Refusal) → ((listing_result listing).number ≡ 0 → ⊥) → (k : ℕ) → (nth_from bytes (listing_result listing) k).found ≡ 0
unfolding told listing_result in_numbers ask step_of step_result next_numbers step_numbers
nothing_refused bytes (Ok c) h k = absurd (h refl)
nothing_refused bytes (Err r) h k = ap (λ (s : TealsettleStep). s.found) (next_of k bytes None ∙ ap told (done_stays bytes k))

pub host_lists : HostLists
host_lists = record {
  chip = chip_lists;
  image = image_lists;
  chip_found = λ chip h k below. found_in _ (listed chip (read_chip chip)) k (chip_says chip h k) (let counts = (chip_counts chip h).1 in omega arith);
  chip_ended = λ chip h k after. none_in _ (listed chip (read_chip chip)) k (chip_says chip h k) (let counts = (chip_counts chip h).1 in omega arith);
  image_found = λ image h k below. found_in _ (listed image (read_alone image)) k (image_says image h k) (let counts = (image_counts image h).1 in omega arith);
  image_ended = λ image h k after. none_in _ (listed image (read_alone image)) k (image_says image h k) (let counts = (image_counts image h).1 in omega arith);
  chip_refused = λ kind chip bytes h k. nothing_refused bytes _ h k;
  image_refused = λ kind image bytes h k. nothing_refused bytes _ h k;
}
