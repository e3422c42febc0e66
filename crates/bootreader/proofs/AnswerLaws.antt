-- Laws of the answers: what an accepted image is, whoever asks.
use Prim.Native.Nat.{ℕ, zero, suc, ◌+◌, ◌≤◌}
use mathlib.Core.Path.{◌≡◌, refl, sym, ap, ◌∙◌}
use mathlib.Core.Bool.{Bool, true, false}
use mathlib.Core.List.{List, [], ◌∷◌}
use native.Mathlib.Omega.{arith}
use borrow.Author.Tests.{le-leb}
use lib.ListN.{length, take}
use lib.Seq.{take-length}
use Rattle.std.proofs.Common.{Option, Some, Result, Ok, Err}
use Rattle.std.specs.Result.{result_map_both}
use native.Mathlib.Nat.{zero-add}
use Rattle.kind.specs.Spi.{spi}
use Rattle.base.specs.Question.{ask}
use Rattle.base.specs.Refusal.{refused}
use Rattle.packets.specs.Trace.{mode_of, trace_from, finish_from, writes_from, contents, nth_write, content_of}
use Rattle.configreader.specs.Configreader.{read_from, read_chip, read_alone, listed}
use Rattle.writes.specs.Cursor.{cursor_at, remaining_writes, step_of, nth_step}
use Rattle.writes.specs.Theorems.{step_write}
use Rattle.kind.specs.Layout.{chip_length_allowed, image_length_allowed}
use Rattle.bootreader.specs.Image.{longest_image, accepted, alone_case, ask_image, image_answer, image_write, image_listing}
use Rattle.bootreader.specs.Boot.{boot_case, boot_answer, cursor_of, chip_write}
use Rattle.bootreader.specs.Theorems.{WritesCounted}
use Rattle.bootreader.specs.Types.{Reason, BadImageLength, Refusal, Outcome, Loaded, OutcomeIprog, Stuck, Boot, BootLoaded, Accepted, FinishEnded, Write}
use Rattle.kind.proofs.Laws.{image_length_range}
use Rattle.base.proofs.Laws.{asked}
use Rattle.packets.proofs.Laws.{counted}
use Rattle.configreader.proofs.Laws.{Proper, proper, alone_parts}
use Rattle.writes.proofs.Laws.{nth_step_law}

-- what an image's answer comes to for one who asks more
unfoldable pub on_answer {ℓ} : {A : Type ℓ} → (Reason → ℕ → A) → (ℕ → ℕ → ℕ → A) → Result Accepted Refusal → A
on_answer refuse accept (Ok image) = accept image.sync image.end image.writes
on_answer refuse accept (Err r) = refuse r.reason r.place

-- Whatever is asked of an image goes by its answer.
pub by_answer {ℓ} : {A : Type ℓ} (refuse : Reason → ℕ → A) (accept : ℕ → ℕ → ℕ → A) (longest : ℕ) (image : List ℕ) →
    on_answer refuse accept (ask_image spi longest refused accepted image) ≡ ask_image spi longest refuse accept image
unfolding ask on_answer alone_case
by_answer refuse accept longest image = go (image_length_allowed longest (length image)) (read_alone image)
  where
    case : (o : Outcome) → on_answer refuse accept (alone_case refused accepted o) ≡ alone_case refuse accept o
    case (Loaded sync end writes jumped) = refl
    case (OutcomeIprog place) = refl
    case (Stuck place) = refl

    go : (b : Bool) (o : Outcome) → on_answer refuse accept (ask b (refused BadImageLength 0) (alone_case refused accepted o)) ≡ ask b (refuse BadImageLength 0) (alone_case refuse accept o)
    go true o = case o
    go false o = refl

-- An image's writes, and the cursor before them, go by its answer.
pub write_by_answer : (image : List ℕ) (k : ℕ) → on_answer refused (λ sync end writes. Ok (nth_write (listed image (read_alone image)) k)) (image_answer spi image) ≡ image_write spi image k
unfolding image_answer image_write
write_by_answer image k = by_answer refused (λ sync end writes. Ok (nth_write (listed image (read_alone image)) k)) longest_image image

pub listing_by_answer : (image : List ℕ) → on_answer refused (λ sync end writes. Ok (cursor_at (sync + 4) writes)) (image_answer spi image) ≡ image_listing spi image
unfolding image_answer image_listing
listing_by_answer image = by_answer refused (λ sync end writes. Ok (cursor_at (sync + 4) writes)) longest_image image

-- What reads alone to Loaded has not jumped.
pub alone_stays : (image : List ℕ) (sync end writes : ℕ) (jumped : Bool) → read_alone image ≡ Loaded sync end writes jumped → jumped ≡ false
alone_stays image sync end writes jumped e = (alone_parts false image 0 sync end writes jumped e).2

-- An accepted image reads alone to Loaded.
pub accepted_reads : (longest : ℕ) (image : List ℕ) (sync end writes : ℕ) → ask_image spi longest refused accepted image ≡ accepted sync end writes → read_alone image ≡ Loaded sync end writes false
unfolding ask alone_case
accepted_reads longest image sync end writes e = go (image_length_allowed longest (length image)) (read_alone image) refl e
  where
    go : (b : Bool) (o : Outcome) → read_alone image ≡ o → ask b (refused BadImageLength 0) (alone_case refused accepted o) ≡ accepted sync end writes → read_alone image ≡ Loaded sync end writes false
    go false o r q = cc
    go true (Loaded a b n after) r q =
        let f : after ≡ false = alone_stays image a b n after r in
        let same : ◌≡◌ {A = Accepted} (record { sync = a; end = b; writes = n }) (record { sync = sync; end = end; writes = writes }) = cc in
        r ∙ cc (ap (λ (i : Accepted). i.sync) same, ap (λ (i : Accepted). i.end) same, ap (λ (i : Accepted). i.writes) same)
    go true (OutcomeIprog place) r q = cc
    go true (Stuck place) r q = cc

-- so its writes are those after its sync word,
pub accepted_lists : (image : List ℕ) (sync end writes : ℕ) → image_answer spi image ≡ accepted sync end writes → listed image (read_alone image) ≡ writes_from image (sync + 4)
unfolding image_answer listed
accepted_lists image sync end writes e = ap (λ (o : Outcome). listed image o) (accepted_reads longest_image image sync end writes e)

-- and it has a byte at least and fits its area,
pub accepted_length : (longest : ℕ) (image : List ℕ) (sync end writes : ℕ) → ask_image spi longest refused accepted image ≡ accepted sync end writes → (1 ≤ length image) × (length image ≤ longest)
accepted_length longest image sync end writes e =
    image_length_range longest (length image) (asked _ _ _ _ e (λ q. cc)).0

-- and its sync word stands whole in it.
pub accepted_sync : (longest : ℕ) (image : List ℕ) (sync end writes : ℕ) → ask_image spi longest refused accepted image ≡ accepted sync end writes → sync + 4 ≤ length image
unfolding Proper
accepted_sync longest image sync end writes e = (rw (accepted_reads longest image sync end writes e) at (proper 0 false image 0 (omega arith))).0

-- What the calls that go by the image check answer, and that its sync word has a place after it.
pub image_room : (image : List ℕ) (a : Accepted) → image_answer spi image ≡ Ok a → a.sync + 4 ≤ length image
unfolding image_answer
image_room image a e = accepted_sync longest_image image a.sync a.end a.writes e

pub write_refused : (image : List ℕ) (k : ℕ) (r : Refusal) → image_answer spi image ≡ Err r → Err r ≡ image_write spi image k
unfolding on_answer
write_refused image k r e = rw e at (write_by_answer image k)

pub write_accepted : (image : List ℕ) (k : ℕ) (a : Accepted) → image_answer spi image ≡ Ok a → Ok (nth_write (writes_from image (a.sync + 4)) k) ≡ image_write spi image k
unfolding on_answer
write_accepted image k a e =
    ap (λ (l : List Write). let answer : Result (Option Write) Refusal = Ok (nth_write l k) in answer) (sym (accepted_lists image a.sync a.end a.writes e))
    ∙ rw e at (write_by_answer image k)

pub listing_refused : (image : List ℕ) (r : Refusal) → image_answer spi image ≡ Err r → Err r ≡ image_listing spi image
unfolding on_answer
listing_refused image r e = rw e at (listing_by_answer image)

pub listing_accepted : (image : List ℕ) (a : Accepted) → image_answer spi image ≡ Ok a → Ok (cursor_at (a.sync + 4) a.writes) ≡ image_listing spi image
unfolding on_answer
listing_accepted image a e = rw e at (listing_by_answer image)

-- The same of a chip that is read.
pub chip_room : (chip : List ℕ) (sync end writes : ℕ) (jumped : Bool) → read_chip chip ≡ Loaded sync end writes jumped → sync + 4 ≤ length chip
unfolding Proper
chip_room chip sync end writes jumped e = (rw e at (proper 1 false chip 0 (omega arith))).0

pub lists_none : (chip : List ℕ) (o : Outcome) → ((sync end writes : ℕ) (jumped : Bool) → o ≡ Loaded sync end writes jumped → ⊥) → listed chip o ≡ []
unfolding listed
lists_none chip (Loaded sync end writes jumped) h = absurd (h sync end writes jumped refl)
lists_none chip (OutcomeIprog place) h = refl
lists_none chip (Stuck place) h = refl

pub cursor_none : (o : Outcome) → ((sync end writes : ℕ) (jumped : Bool) → o ≡ Loaded sync end writes jumped → ⊥) → cursor_of o ≡ cursor_at 0 0
unfolding cursor_of
cursor_none (Loaded sync end writes jumped) h = absurd (h sync end writes jumped refl)
cursor_none (OutcomeIprog place) h = refl
cursor_none (Stuck place) h = refl

counted_remaining : (s : List ℕ) (sync end writes : ℕ) → finish_from s (sync + 4) ≡ FinishEnded end writes → remaining_writes s (cursor_at (sync + 4) writes) ≡ writes_from s (sync + 4)
unfolding mode_of
counted_remaining s sync end writes e =
    let n : writes ≡ length (writes_from s (sync + 4)) = counted (trace_from s (sync + 4)) 0 0 end writes e ∙ zero-add (length (writes_from s (sync + 4))) in
    ap (λ (k : ℕ). take k (writes_from s (sync + 4))) n ∙ take-length (writes_from s (sync + 4))

-- A cursor opened on a reading has to give what the reading lists.
pub opened_remaining : (left : ℕ) (jumped : Bool) (s : List ℕ) (from : ℕ) → from ≤ length s → remaining_writes s (cursor_of (read_from left jumped s from)) ≡ listed s (read_from left jumped s from)
unfolding Proper cursor_of listed
opened_remaining left jumped s from l = go (read_from left jumped s from) (proper left jumped s from l)
  where
    go : (o : Outcome) → Proper s o → remaining_writes s (cursor_of o) ≡ listed s o
    go (Loaded sync end writes after) p = counted_remaining s sync end writes p.1
    go (OutcomeIprog place) p = refl
    go (Stuck place) p = refl

-- The k-th step of a cursor opened on a chip, or on an image, gives the k-th write of the chip, or of the image read alone.
pub chip_steps : (chip : List ℕ) (k : ℕ) → chip_length_allowed (length chip) ≡ true → Ok (step_write (nth_step chip k (step_of chip (cursor_of (read_chip chip))))) ≡ chip_write spi chip k
unfolding chip_write ask
chip_steps chip k e =
    ap (λ (w : Option Write). let answer : Result (Option Write) Refusal = Ok w in answer) (nth_step_law k chip (cursor_of (read_chip chip))
    ∙ ap (λ (l : List Write). nth_write l k) (opened_remaining 1 false chip 0 (omega arith)))
    ∙ rw e refl

pub image_steps : (image : List ℕ) (sync end writes k : ℕ) → image_answer spi image ≡ accepted sync end writes → Ok (step_write (nth_step image k (step_of image (cursor_at (sync + 4) writes)))) ≡ image_write spi image k
unfolding image_answer on_answer Proper
image_steps image sync end writes k e =
    let p = rw (accepted_reads longest_image image sync end writes e) at (proper 0 false image 0 (omega arith)) in
    ap (λ (w : Option Write). let answer : Result (Option Write) Refusal = Ok w in answer) (nth_step_law k image (cursor_at (sync + 4) writes)
    ∙ ap (λ (l : List Write). nth_write l k) (counted_remaining image sync end writes p.1 ∙ sym (accepted_lists image sync end writes e)))
    ∙ (rw e at (write_by_answer image k))

-- A reading that is Loaded lists as many writes as it counts.
pub listed_length : WritesCounted
unfolding Proper listed
listed_length left jumped s from sync end writes after l e =
    let p = rw e at (proper left jumped s from l) in
    sym (counted (trace_from s (sync + 4)) 0 0 end writes p.1 ∙ zero-add (length (writes_from s (sync + 4))))

-- A chip's boot answer is Loaded exactly when its reading is.
pub boots : (chip : List ℕ) (sync end writes : ℕ) (jumped : Bool) → chip_length_allowed (length chip) ≡ true → read_chip chip ≡ Loaded sync end writes jumped → boot_answer spi chip ≡ Ok (BootLoaded sync end writes jumped)
unfolding boot_answer boot_case ask
boots chip sync end writes jumped l e = rw (l, e) refl

pub booted : (chip : List ℕ) (sync end writes : ℕ) (jumped : Bool) → boot_answer spi chip ≡ Ok (BootLoaded sync end writes jumped) → read_chip chip ≡ Loaded sync end writes jumped
unfolding boot_answer boot_case
booted chip sync end writes jumped e = go (read_chip chip) refl (asked _ _ _ _ e (λ q. cc)).1
  where
    go : (o : Outcome) → read_chip chip ≡ o → ◌≡◌ {A = Result Boot Refusal} (Ok (boot_case o)) (Ok (BootLoaded sync end writes jumped)) → read_chip chip ≡ Loaded sync end writes jumped
    go (Loaded a b n after) r q = r ∙ cc
    go (OutcomeIprog place) r q = cc
    go (Stuck place) r q = cc

-- An image that reads alone to Loaded is accepted, if it is not too long.
pub accepts : (image : List ℕ) (sync end writes : ℕ) (jumped : Bool) → 1 ≤ length image → length image ≤ longest_image → read_alone image ≡ Loaded sync end writes jumped → image_answer spi image ≡ accepted sync end writes
unfolding image_answer image_length_allowed alone_case ask
accepts image sync end writes jumped long short e = rw (le-leb 1 (length image) long, le-leb (length image) longest_image short, e) refl

-- A chip that loads an image whole has the image's writes, one by one, places apart.
nth_content : (a b : List Write) (i : ℕ) → contents a ≡ contents b → content_of (nth_write a i) ≡ content_of (nth_write b i)
unfolding nth_write
nth_content [] [] i e = refl
nth_content [] (w ∷ b) i e = cc
nth_content (w ∷ a) [] i e = cc
nth_content (v ∷ a) (w ∷ b) zero e = let q : ◌≡◌ {A = ℕ × ℕ} (v.register, v.word) (w.register, w.word) = cc in ap (λ (p : ℕ × ℕ). Some p) q
nth_content (v ∷ a) (w ∷ b) (suc i) e = nth_content a b i cc

-- the answer of a call for a write, its place apart
abbrev written : Result (Option Write) Refusal → Result (Option (ℕ × ℕ)) Refusal
written answer = result_map_both content_of (λ r. r) answer

pub whole_writes : (chip image : List ℕ) (sync end writes : ℕ) → chip_length_allowed (length chip) ≡ true → image_answer spi image ≡ accepted sync end writes → contents (listed chip (read_chip chip)) ≡ contents (listed image (read_alone image)) →
    (i : ℕ) → result_map_both content_of (λ r. r) (chip_write spi chip i) ≡ result_map_both content_of (λ r. r) (image_write spi image i)
unfolding chip_write image_answer on_answer ask listed
whole_writes chip image sync end writes l e same i =
    let own : Ok (nth_write (listed image (read_alone image)) i) ≡ image_write spi image i = rw e at (write_by_answer image i) in
    rw l (ap (λ (w : Option (ℕ × ℕ)). let answer : Result (Option (ℕ × ℕ)) Refusal = Ok w in answer) (nth_content (listed chip (read_chip chip)) (listed image (read_alone image)) i same))
    ∙ ap written own
