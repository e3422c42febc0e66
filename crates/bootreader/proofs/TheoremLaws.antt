-- The statements of specs/Theorems.antt, from the laws of the answers.
use Prim.Native.Nat.{ℕ, ◌+◌, ◌≤◌}
use mathlib.Core.Path.{◌≡◌, refl, sym, ap, ◌∙◌}
use mathlib.Core.Bool.{Bool, true, false}
use mathlib.Core.List.{List}
use native.Mathlib.Omega.{arith}
use lib.ListN.{length}
use Rattle.std.proofs.Common.{Option, Result, Ok, Err}
use Rattle.kind.specs.Spi.{spi}
use Rattle.writes.specs.Cursor.{cursor_at, step_of, nth_step}
use Rattle.writes.specs.Theorems.{step_write}
use Rattle.base.specs.Question.{ask}
use Rattle.base.specs.Refusal.{number_of, refused}
use Rattle.kind.specs.Layout.{image_length_allowed}
use Rattle.configreader.specs.Configreader.{read_chip, read_alone}
use Rattle.configreader.specs.Theorems.{twelve_bytes}
use Rattle.bootreader.specs.Image.{longest_image, accepted, alone_case, image_answer, image_write, image_listing}
use Rattle.bootreader.specs.Boot.{cursor_of, chip_write, chip_listing}
use Rattle.bootreader.specs.Theorems.{CursorLists, ShortestImage, ImageRefusals}
use Rattle.bootreader.specs.Types.{BadImageLength, ImageFault, ImageJumps, Refusal, Cursor, Write, Outcome, Loaded, OutcomeIprog, Stuck, Accepted}
use Rattle.base.proofs.Laws.{asked}
use Rattle.configreader.proofs.Laws.{shortest_reading, faults_within}
use Rattle.bootreader.proofs.AnswerLaws.{on_answer, listing_by_answer, accepted_reads, opened_remaining, chip_steps, image_steps, accepts}

-- A listing that is open was opened on a chip whose length is allowed,
opened_chip : (chip : List ℕ) (c : Cursor) → chip_listing spi chip ≡ Ok c → (k : ℕ) → Ok (step_write (nth_step chip k (step_of chip c))) ≡ chip_write spi chip k
unfolding chip_listing
opened_chip chip c e k =
    let q = asked _ _ _ _ e (λ q. cc) in
    let same : cursor_of (read_chip chip) ≡ c = cc in
    ap (λ (d : Cursor). let answer : Result (Option Write) Refusal = Ok (step_write (nth_step chip k (step_of chip d))) in answer) (sym same) ∙ chip_steps chip k q.0

-- or on an image that is accepted.
opened_image : (image : List ℕ) (c : Cursor) → image_listing spi image ≡ Ok c → (k : ℕ) → Ok (step_write (nth_step image k (step_of image c))) ≡ image_write spi image k
unfolding on_answer
opened_image image c e k = go (image_answer spi image) refl
  where
    go : (a : Result Accepted Refusal) → image_answer spi image ≡ a → Ok (step_write (nth_step image k (step_of image c))) ≡ image_write spi image k
    go (Ok a) q =
        let o = (rw q at (listing_by_answer image)) ∙ e in
        let same : cursor_at (a.sync + 4) a.writes ≡ c = cc in
        ap (λ (d : Cursor). let answer : Result (Option Write) Refusal = Ok (step_write (nth_step image k (step_of image d))) in answer) (sym same) ∙ image_steps image a.sync a.end a.writes k q
    go (Err r) q =
        let o = (rw q at (listing_by_answer image)) ∙ e in
        cc

pub cursor_lists : CursorLists
cursor_lists = record { whole = opened_remaining; chip = opened_chip; image = opened_image }

-- An accepted image is a reading that is Loaded, and none of these has fewer bytes.
twelve_least : (image : List ℕ) (sync end writes : ℕ) → image_answer spi image ≡ accepted sync end writes → 12 ≤ length image
unfolding image_answer
twelve_least image sync end writes e =
    let w = shortest_reading.none_shorter 0 false image 0 sync end writes false (omega arith) (accepted_reads longest_image image sync end writes e) in omega arith

pub shortest_image_law : ShortestImage
shortest_image_law = record { none_shorter = twelve_least; of_twelve = accepts twelve_bytes 0 12 1 false (omega arith) (omega arith) shortest_reading.of_twelve }

pub image_refusals : ImageRefusals
unfolding ask alone_case
image_refusals longest image reason place e = go (image_length_allowed longest (length image)) (read_alone image) refl e
  where
    go : (b : Bool) (o : Outcome) → read_alone image ≡ o → ask b (refused BadImageLength 0) (alone_case refused accepted o) ≡ refused reason place →
        (number_of BadImageLength ≤ number_of reason) × (number_of reason ≤ number_of ImageJumps) × (place ≤ length image)
    go false o r q =
        let same : ◌≡◌ {A = Refusal} (record { reason = BadImageLength; place = 0 }) (record { reason = reason; place = place }) = cc in
        let n : BadImageLength ≡ reason = ap (λ (x : Refusal). x.reason) same in
        let p : 0 ≡ place = ap (λ (x : Refusal). x.place) same in
        rw (sym n) (omega arith, omega arith, omega arith)
    go true (Loaded sync end writes jumped) r q = cc
    go true (OutcomeIprog at) r q =
        let same : ◌≡◌ {A = Refusal} (record { reason = ImageJumps; place = at }) (record { reason = reason; place = place }) = cc in
        let n : ImageJumps ≡ reason = ap (λ (x : Refusal). x.reason) same in
        let p : at ≡ place = ap (λ (x : Refusal). x.place) same in
        let w = faults_within.iprog 0 false image 0 at (omega arith) r in
        rw (sym n) (omega arith, omega arith, omega arith)
    go true (Stuck at) r q =
        let same : ◌≡◌ {A = Refusal} (record { reason = ImageFault; place = at }) (record { reason = reason; place = place }) = cc in
        let n : ImageFault ≡ reason = ap (λ (x : Refusal). x.reason) same in
        let p : at ≡ place = ap (λ (x : Refusal). x.place) same in
        let w = faults_within.stuck 0 false image 0 at (omega arith) r in
        rw (sym n) (omega arith, omega arith, omega arith)
