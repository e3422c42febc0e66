-- A reader read to its end gives what the image read alone gives: the writes, or the refusal.
use Prim.Native.Nat.{ℕ, zero, suc, ◌+◌, ◌-◌, ◌*◌, ◌<◌, ◌≤◌}
use mathlib.Core.Path.{◌≡◌, refl, sym, ap, ◌∙◌}
use mathlib.Core.Bool.{Bool, true, false}
use mathlib.Core.Logic.{◌⊎◌, inl, inr}
use mathlib.Core.List.{List, [], ◌∷◌, ◌++◌, append-nil}
use native.Mathlib.Nat.{add-zero, sub-zero}
use native.Mathlib.Omega.{arith}
use borrow.Author.Tests.{le-leb, lt-leb}
use lib.ListN.{length, get_or, drop}
use lib.Seq.{drop-cons, drop-length}
use denote.Ref.{Bor}
use Rattle.base.specs.Question.{ask}
use Rattle.base.proofs.Laws.{asked, below_or_not}
use Rattle.std.proofs.Common.{Option, Some, None, Result, Ok}
use Rattle.base.specs.Refusal.{refused}
use Rattle.framing.specs.Search.{find}
use Rattle.framing.specs.Words.{words}
use Rattle.framing.proofs.Laws.{find_within, room, words_on}
use Rattle.packets.specs.Header.{effect_of}
use Rattle.packets.specs.Trace.{other, header, payload, mode_of, Trace, wrote, desync, iprog, faulty, short, trace, trace_from, last_wbstar, finish, finish_from, list_of}
use Rattle.packets.proofs.Laws.{trace_data, trace_desync, trace_iprog}
use Rattle.kind.specs.Layout.{image_length_allowed}
use Rattle.kind.specs.Spi.{spi}
use Rattle.configreader.specs.Configreader.{read_at, search_from, jump, read_alone, listed}
use Rattle.configreader.proofs.Laws.{alone_parts}
use Rattle.bootreader.specs.Image.{longest_image, accepted as is_accepted, alone_case, ask_image, image_answer}
use Rattle.bootreader.proofs.Laws.{on_answer, by_answer, accepted_reads, accepted_sync, accepted_lists}
use Rattle.imagereader.specs.Imagereader.{past_end, first_packet, packet_at, first_place, place_after, reader_at, next_of, reader_after, nth_next, word_writes, packet_writes, given_writes}
use Rattle.imagereader.specs.Theorems.{ReaderReads, PacketsInside}
use Rattle.imagereader.specs.Internal.{end_answer}
use Rattle.imagereader.specs.Types.{Reason, BadImageLength, ImageFault, ImageJumps, Refusal, Effect, GoesOn, Desync, EffectIprog, Write, Finish, FinishEnded, FinishIprog, FinishFault, FinishShort, Packet, Reader}
use Rattle.imagereader.proofs.PacketLaws.{finish_answer, FirstData, first_data, packet_whole, packet_short, packet_ended}

-- what is given where an image is accepted and all its packets were given
abbrev all_given : ℕ → ℕ → ℕ → Result (Option Packet) Refusal
all_given sync end writes = Ok None

-- What all packets of a trace come to: the end, or the refusal.
unfoldable pub end_of : List ℕ → Trace → Result (Option Packet) Refusal
end_of image (wrote write left more) = end_of image more
end_of image (desync end) = Ok None
end_of image (iprog place) = refused ImageJumps place
end_of image (faulty place) = refused ImageFault place
end_of image short = refused ImageFault (length image)

-- The data words of a packet, up to the first that does not let the reading go on.

record PlainRun (ws : List ℕ) (n register run : ℕ) : Type 0 where
  within : run ≤ n
  inside : run ≤ length ws
  plain : (i : ℕ) → i < run → effect_of register (get_or ws i 0) ≡ GoesOn
  stops : run < n → run < length ws → effect_of register (get_or ws run 0) ≡ GoesOn → ⊥

plain_run : (ws : List ℕ) (n register : ℕ) → (run : ℕ) × PlainRun ws n register run
plain_run [] n register = (0, record { within = omega arith; inside = omega arith; plain = λ i h. absurd (omega arith); stops = λ a b. absurd (omega arith) })
plain_run (x ∷ ws) zero register = (0, record { within = omega arith; inside = omega arith; plain = λ i h. absurd (omega arith); stops = λ a b. absurd (omega arith) })
plain_run (x ∷ ws) (suc n) register = go (effect_of register x) refl (plain_run ws n register)
  where
    stop : (effect_of register x ≡ GoesOn → ⊥) → (run : ℕ) × PlainRun (x ∷ ws) (suc n) register run
    stop h = (0, record { within = omega arith; inside = omega arith; plain = λ i k. absurd (omega arith); stops = λ a b e. h e })

    first_plain : effect_of register x ≡ GoesOn → (run : ℕ) → PlainRun ws n register run → (i : ℕ) → i < suc run → effect_of register (get_or (x ∷ ws) i 0) ≡ GoesOn
    first_plain e run r zero h = e
    first_plain e run r (suc i) h = r.plain i (omega arith)

    go : (e : Effect) → effect_of register x ≡ e → (run : ℕ) × PlainRun ws n register run → (run : ℕ) × PlainRun (x ∷ ws) (suc n) register run
    go GoesOn e r = (
      suc r.0,
      record {
        within = let h = r.1.within in omega arith;
        inside = let h = r.1.inside in omega arith;
        plain = first_plain e r.0 r.1;
        stops = λ a b. r.1.stops (omega arith) (omega arith);
      },
    )
    go Desync e r = stop (λ f. let z = sym e ∙ f in cc)
    go EffectIprog e r = stop (λ f. let z = sym e ∙ f in cc)

-- After j data words that let the reading go on: the same end, and j writes fewer.
module _ (image : List ℕ) (register : ℕ) where
  end_after : (j : ℕ) (ws : List ℕ) (n p : ℕ) → j ≤ n → j ≤ length ws → ((i : ℕ) → i < j → effect_of register (get_or ws i 0) ≡ GoesOn) →
      end_of image (trace ws p (mode_of n register other)) ≡ end_of image (trace (drop j ws) (p + 4 * j) (mode_of (n - j) register other))
  unfolding end_of trace mode_of
  end_after zero ws n p a b q = simp (add-zero, sub-zero)
  end_after (suc j) [] n p a b q = absurd (omega arith)
  end_after (suc j) (x ∷ ws) zero p a b q = absurd (omega arith)
  end_after (suc j) (x ∷ ws) (suc n) p a b q =
      let p_on : p + 4 + 4 * j ≡ p + 4 * suc j = omega arith in
      let n_on : n - j ≡ suc n - suc j = omega arith in
      ap (end_of image) (trace_data x ws p register n (q 0 (omega arith)))
      ∙ end_after j ws n (p + 4) (omega arith) (omega arith) (λ i h. q (suc i) (omega arith))
      ∙ rw (p_on, n_on) refl

  list_after : (j : ℕ) (ws : List ℕ) (n p : ℕ) → j ≤ n → j ≤ length ws → ((i : ℕ) → i < j → effect_of register (get_or ws i 0) ≡ GoesOn) →
      list_of (trace ws p (mode_of n register other)) ≡ word_writes register p j ws ++ list_of (trace (drop j ws) (p + 4 * j) (mode_of (n - j) register other))
  unfolding list_of trace mode_of word_writes
  list_after zero ws n p a b q = simp (add-zero, sub-zero)
  list_after (suc j) [] n p a b q = absurd (omega arith)
  list_after (suc j) (x ∷ ws) zero p a b q = absurd (omega arith)
  list_after (suc j) (x ∷ ws) (suc n) p a b q =
      let p_on : p + 4 + 4 * j ≡ p + 4 * suc j = omega arith in
      let n_on : n - j ≡ suc n - suc j = omega arith in
      ap list_of (trace_data x ws p register n (q 0 (omega arith)))
      ∙ ap (λ (l : List Write). record { register = register; word = x; place = p } ∷ l) (list_after j ws n (p + 4) (omega arith) (omega arith) (λ i h. q (suc i) (omega arith)))
      ∙ rw (p_on, n_on) refl

-- One write more.
writes_snoc : (register : ℕ) (j : ℕ) (ws : List ℕ) (p : ℕ) → j < length ws → word_writes register p j ws ++ (record { register = register; word = get_or ws j 0; place = p + 4 * j } ∷ []) ≡ word_writes register p (suc j) ws
unfolding word_writes
writes_snoc register j [] p h = absurd (omega arith)
writes_snoc register zero (x ∷ ws) p h = simp add-zero
writes_snoc register (suc j) (x ∷ ws) p h =
    let p_on : p + 4 * suc j ≡ p + 4 + 4 * j = omega arith in
    rw p_on (ap (λ (l : List Write). record { register = register; word = x; place = p } ∷ l) (writes_snoc register j ws (p + 4) (omega arith)))

-- WHAT THE FIRST PACKET LEAVES: a refusal is that of all packets; after the last packet nothing comes, and after any other the packets from its `next` on.
data Stepped (image : List ℕ) (at : ℕ) (t : Trace) : Type 0 where
  step_refused : (reason : Reason) (place : ℕ) → first_packet image t ≡ refused reason place → end_of image t ≡ refused reason place → Stepped image at t
  step_last : (found : Packet) → first_packet image t ≡ Ok (Some found) → found.first + 4 * found.count ≤ length image → at < length image → found.next ≡ past_end image →
      end_of image t ≡ Ok None → list_of t ≡ packet_writes image (Ok (Some found)) → Stepped image at t
  step_more : (found : Packet) → first_packet image t ≡ Ok (Some found) → found.first + 4 * found.count ≤ length image → at < found.next → found.next ≤ length image →
      end_of image t ≡ end_of image (trace_from image found.next) → list_of t ≡ packet_writes image (Ok (Some found)) ++ list_of (trace_from image found.next) → Stepped image at t

module _ (image : List ℕ) (at register first left : ℕ) (behind : at ≤ first) (some_word : 0 < length (words (drop first image))) where
  abbrev ws : List ℕ
  ws = words (drop first image)

  -- all its words let the reading go on, and are there
  whole_step : (run : ℕ) → PlainRun ws (suc left) register run → run ≡ suc left → Stepped image at (trace ws first (payload register left))
  unfolding mode_of packet_writes
  whole_step run r e =
      let a = r.within in
      let b = r.inside in
      let h = room image first in
      let none_left : suc left - run ≡ 0 = omega arith in
      step_more (record { register = register; first = first; count = run; next = first + 4 * run })
      (packet_whole image register first left some_word run e r.inside r.plain) (omega arith) (omega arith) (omega arith)
      (end_after image register run ws (suc left) first r.within r.inside r.plain ∙ rw (none_left, words_on image first run) refl)
      (list_after image register run ws (suc left) first r.within r.inside r.plain ∙ rw (none_left, words_on image first run) refl)

  -- the bytes run out
  short_step : (run : ℕ) → PlainRun ws (suc left) register run → run ≡ length ws → run ≤ left → Stepped image at (trace ws first (payload register left))
  unfolding mode_of trace end_of
  short_step run r e a =
      let out : drop run ws ≡ [] = rw e (drop-length ws) in
      step_refused ImageFault (length image) (packet_short image register first left some_word run e a r.plain)
      (end_after image register run ws (suc left) first r.within r.inside r.plain ∙ rw out refl)

  -- a word ends or jumps
  end_step : (run : ℕ) → PlainRun ws (suc left) register run → run ≤ left → run < length ws → (e : Effect) → effect_of register (get_or ws run 0) ≡ e → Stepped image at (trace ws first (payload register left))
  unfolding mode_of end_of list_of end_answer packet_writes
  end_step run r a b GoesOn e = absurd (r.stops (omega arith) b e)
  end_step run r a b Desync e =
      let h = room image first in
      let m : suc left - run ≡ suc (left - run) = omega arith in
      let next : run + 1 ≡ suc run = omega arith in
      let tail = trace_desync (get_or ws run 0) (drop (suc run) ws) (first + 4 * run) register (left - run) e in
      step_last (record { register = register; first = first; count = run + 1; next = past_end image })
      (packet_ended image register first left some_word run a b r.plain (r.stops (omega arith) b) ∙ rw e refl) (omega arith) (omega arith) refl
      (end_after image register run ws (suc left) first r.within r.inside r.plain ∙ rw (m, drop-cons ws run 0 b) (ap (end_of image) tail))
      (list_after image register run ws (suc left) first r.within r.inside r.plain ∙ rw (m, drop-cons ws run 0 b) (ap (λ (t : Trace). word_writes register first run ws ++ list_of t) tail ∙ writes_snoc register run ws first b) ∙ ap (λ (k : ℕ). word_writes register first k ws) (sym next))
  end_step run r a b EffectIprog e =
      let m : suc left - run ≡ suc (left - run) = omega arith in
      let tail = trace_iprog (get_or ws run 0) (drop (suc run) ws) (first + 4 * run) register (left - run) e in
      step_refused ImageJumps (first + 4 * run) (packet_ended image register first left some_word run a b r.plain (r.stops (omega arith) b) ∙ rw e refl)
      (end_after image register run ws (suc left) first r.within r.inside r.plain ∙ rw (m, drop-cons ws run 0 b) (ap (end_of image) tail))

  packet_step : Stepped image at (trace ws first (payload register left))
  packet_step = go (plain_run ws (suc left) register)
    where
      go : (run : ℕ) × PlainRun ws (suc left) register run → Stepped image at (trace ws first (payload register left))
      go r = by_left (below_or_not r.0 (suc left))
        where
          by_words : r.0 ≤ left → (r.0 < length ws) ⊎ (length ws ≤ r.0) → Stepped image at (trace ws first (payload register left))
          by_words a (inl b) = end_step r.0 r.1 a b (effect_of register (get_or ws r.0 0)) refl
          by_words a (inr b) = let c = r.1.inside in short_step r.0 r.1 (omega arith) a

          by_left : (r.0 < suc left) ⊎ (suc left ≤ r.0) → Stepped image at (trace ws first (payload register left))
          by_left (inl a) = by_words (omega arith) (below_or_not r.0 (length ws))
          by_left (inr a) = let c = r.1.within in whole_step r.0 r.1 (omega arith)

stepped : (image : List ℕ) (at : ℕ) → Stepped image at (trace_from image at)
unfolding first_packet end_of
stepped image at = go (first_data image (words (drop at image)) at (header other) refl)
  where
    go : FirstData image at (trace_from image at) ⊎ (((place : ℕ) × (trace_from image at ≡ faulty place)) ⊎ (trace_from image at ≡ short)) → Stepped image at (trace_from image at)
    go (inl d) = rw d.same (packet_step image at d.register d.first d.left d.later d.inside)
    go (inr (inl f)) = step_refused ImageFault f.0 (rw f.1 refl) (rw f.1 refl)
    go (inr (inr f)) = step_refused ImageFault (length image) (rw f refl) (rw f refl)

-- The written data words of a packet lie within the image.
pub found_inside : PacketsInside
unfolding packet_at
found_inside image at found e =
    let allowed = asked _ _ _ _ e (λ q. cc) in
    let within = asked _ _ _ _ allowed.1 (λ q. cc) in
    go within.1 (stepped image at)
  where
    go : first_packet image (trace_from image at) ≡ Ok (Some found) → Stepped image at (trace_from image at) → found.first + 4 * found.count ≤ length image
    go h (step_refused reason place f e) = let z = sym f ∙ h in cc
    go h (step_last given f i a next e w) = let z = sym f ∙ h in let same : given ≡ found = cc in rw (sym same) i
    go h (step_more given f i a b e w) = let z = sym f ∙ h in let same : given ≡ found = cc in rw (sym same) i

-- CALL BY CALL.

-- a reader of the image s at a place
abbrev pub reader : Bor (List ℕ) → ℕ → Reader
reader s at = record { image = s; at = at }

-- A reader that does not move gives the same answer again.
pub stays : (n : ℕ) (s : Bor (List ℕ)) (at : ℕ) (answer : Result (Option Packet) Refusal) → packet_at s.now at ≡ answer → place_after answer at ≡ at → nth_next n (reader s at) ≡ answer
unfolding nth_next
stays zero s at answer e f = e
stays (suc n) s at answer e f = rw (e, f) (stays n s at answer e f)

-- At the end it gives no more writes.
none_given : (n : ℕ) (s : Bor (List ℕ)) (at : ℕ) → packet_at s.now at ≡ Ok None → given_writes n (reader s at) ≡ []
unfolding given_writes packet_writes place_after
none_given zero s at e = refl
none_given (suc n) s at e = rw e (none_given n s at e)

module _ (s : Bor (List ℕ)) (allowed : image_length_allowed longest_image (length s.now) ≡ true) where
  abbrev bytes : List ℕ
  bytes = s.now

  answer_at : (at : ℕ) → at ≤ length bytes → packet_at bytes at ≡ first_packet bytes (trace_from bytes at)
  unfolding packet_at ask
  answer_at at l = rw (allowed, le-leb at (length bytes) l) refl

  past_end_law : (at : ℕ) → length bytes < at → packet_at bytes at ≡ Ok None
  unfolding packet_at ask
  past_end_law at l = rw (allowed, lt-leb at (length bytes) l) refl

  -- From a place within the image as many calls as bytes are left come to what all packets from there come to; and where that is the end, they have given all writes.
  pub reads_on : (n at : ℕ) → at ≤ length bytes → length bytes - at ≤ n →
      (nth_next n (reader s at) ≡ end_of bytes (trace_from bytes at)) × (end_of bytes (trace_from bytes at) ≡ Ok None → given_writes n (reader s at) ≡ list_of (trace_from bytes at))
  unfolding nth_next given_writes place_after
  reads_on zero at l enough = start (stepped bytes at)
    where
      start : Stepped bytes at (trace_from bytes at) →
          (next_of (reader s at) ≡ end_of bytes (trace_from bytes at)) × (end_of bytes (trace_from bytes at) ≡ Ok None → [] ≡ list_of (trace_from bytes at))
      start (step_refused reason place f e) = (answer_at at l ∙ f ∙ sym e, λ q. let z = sym e ∙ q in cc)
      start (step_last found f i a next e w) = absurd (omega arith)
      start (step_more found f i a b e w) = absurd (omega arith)
  reads_on (suc n) at l enough = step (stepped bytes at) (reads_on n)
    where
      step : Stepped bytes at (trace_from bytes at) →
          ((next : ℕ) → next ≤ length bytes → length bytes - next ≤ n →
          (nth_next n (reader s next) ≡ end_of bytes (trace_from bytes next)) × (end_of bytes (trace_from bytes next) ≡ Ok None → given_writes n (reader s next) ≡ list_of (trace_from bytes next))) →
          (nth_next n (reader_after (reader s at)) ≡ end_of bytes (trace_from bytes at)) × (end_of bytes (trace_from bytes at) ≡ Ok None → packet_writes bytes (next_of (reader s at)) ++ given_writes n (reader_after (reader s at)) ≡ list_of (trace_from bytes at))
      step (step_refused reason place f e) ih =
          let here : packet_at bytes at ≡ refused reason place = answer_at at l ∙ f in
          (rw here (stays n s at (refused reason place) here refl) ∙ sym e, λ q. let z = sym e ∙ q in cc)
      step (step_last found f i a next e w) ih =
          let here : packet_at bytes at ≡ Ok (Some found) = answer_at at l ∙ f in
          let end : packet_at bytes found.next ≡ Ok None = past_end_law found.next (omega arith) in (
            rw here (stays n s found.next (Ok None) end refl) ∙ sym e,
            λ q. rw (here, none_given n s found.next end) (append-nil (packet_writes bytes (Ok (Some found)))) ∙ sym w,
          )
      step (step_more found f i a b e w) ih =
          let here : packet_at bytes at ≡ Ok (Some found) = answer_at at l ∙ f in
          let rest = ih found.next b (omega arith) in
          (rw here rest.0 ∙ sym e, λ q. rw here (ap (λ (k : List Write). packet_writes bytes (Ok (Some found)) ++ k) (rest.1 (sym e ∙ q))) ∙ sym w)

-- THE IMAGE READ ALONE.

-- All packets come to what the reading finishes with.
ends_as : (image : List ℕ) (t : Trace) (writes wbstar : ℕ) → end_of image t ≡ finish_answer image (finish t writes wbstar)
unfolding end_of finish finish_answer
ends_as image (wrote write left more) writes wbstar = ends_as image more (writes + 1) (last_wbstar write wbstar)
ends_as image (desync end) writes wbstar = refl
ends_as image (iprog place) writes wbstar = refl
ends_as image (faulty place) writes wbstar = refl
ends_as image short writes wbstar = refl

-- The packets from the first place on come to what the image read alone comes to; and that place is within the image.
at_sync : (image : List ℕ) (sync : ℕ) → find image 0 ≡ Some sync → first_place image ≡ sync + 4
at_sync image sync e = rw (e, first_place) refl

no_sync : (image : List ℕ) → find image 0 ≡ None → first_place image ≡ length image
no_sync image e = rw (e, first_place) refl

first_inside : (image : List ℕ) → first_place image ≤ length image
first_inside image = go (find image 0) refl
  where
    go : (f : Option ℕ) → find image 0 ≡ f → first_place image ≤ length image
    go (Some sync) e = rw (at_sync image sync e) (let w : (0 ≤ sync) × (sync + 4 ≤ 0 + length image) = find_within image 0 sync e in omega arith)
    go None e = rw (no_sync image e) (omega arith)

alone_end : (image : List ℕ) → end_of image (trace_from image (first_place image)) ≡ alone_case refused all_given (read_alone image)
unfolding end_of trace words search_from read_at jump alone_case finish_answer
alone_end image = go (find image 0) refl
  where
    by_finish : (sync : ℕ) → find image 0 ≡ Some sync → (f : Finish) → finish_from image (sync + 4) ≡ f → finish_answer image f ≡ alone_case refused all_given (read_alone image)
    by_finish sync e (FinishEnded end writes) g = rw (e, search_from) (rw (g, read_at) refl)
    by_finish sync e (FinishIprog place to) g = rw (e, search_from) (rw (g, read_at) refl)
    by_finish sync e (FinishFault place) g = rw (e, search_from) (rw (g, read_at) refl)
    by_finish sync e FinishShort g = rw (e, search_from) (rw (g, read_at) refl)

    go : (f : Option ℕ) → find image 0 ≡ f → end_of image (trace_from image (first_place image)) ≡ alone_case refused all_given (read_alone image)
    go (Some sync) e = rw (at_sync image sync e) (ends_as image (trace_from image (sync + 4)) 0 0 ∙ by_finish sync e (finish_from image (sync + 4)) refl)
    go None e = rw (no_sync image e, drop-length image) (rw (e, search_from) refl)

-- A reader made at an image comes, with as many calls as bytes, to the image's answer: the end where it is accepted, else its refusal.
comes_to : (s : Bor (List ℕ)) (n : ℕ) → length s.now ≤ n → nth_next n (reader_at s) ≡ on_answer refused all_given (image_answer spi s.now)
unfolding image_answer packet_at ask place_after
comes_to s n enough = go (image_length_allowed longest_image (length s.now)) refl ∙ sym (by_answer refused all_given longest_image s.now)
  where
    yes_asked : image_length_allowed longest_image (length s.now) ≡ true → ask_image spi longest_image refused all_given s.now ≡ alone_case refused all_given (read_alone s.now)
    yes_asked e = rw e refl

    no_asked : image_length_allowed longest_image (length s.now) ≡ false → ask_image spi longest_image refused all_given s.now ≡ refused BadImageLength 0
    no_asked e = rw e refl

    refuses : image_length_allowed longest_image (length s.now) ≡ false → packet_at s.now (first_place s.now) ≡ refused BadImageLength 0
    refuses e = rw e refl

    go : (b : Bool) → image_length_allowed longest_image (length s.now) ≡ b → nth_next n (reader_at s) ≡ ask_image spi longest_image refused all_given s.now
    go true e = (reads_on s e n (first_place s.now) (first_inside s.now) (omega arith)).0 ∙ alone_end s.now ∙ sym (yes_asked e)
    go false e = stays n s (first_place s.now) (refused BadImageLength 0) (refuses e) refl ∙ sym (no_asked e)

reads_accepted : (s : Bor (List ℕ)) (sync end writes n : ℕ) → image_answer spi s.now ≡ is_accepted sync end writes → length s.now ≤ n →
    given_writes n (reader_at s) ≡ listed s.now (read_alone s.now)
unfolding image_answer finish_answer
reads_accepted s sync end writes n e enough =
    let alone = accepted_reads longest_image s.now sync end writes e in
    let parts = alone_parts false s.now 0 sync end writes false alone in
    let allowed = (asked _ _ _ _ e (λ q. cc)).0 in
    let ends : end_of s.now (trace_from s.now (sync + 4)) ≡ Ok None = ends_as s.now (trace_from s.now (sync + 4)) 0 0 ∙ ap (finish_answer s.now) parts.1 in
    rw (at_sync s.now sync parts.0) ((reads_on s allowed n (sync + 4) (accepted_sync longest_image s.now sync end writes e) (omega arith)).1 ends)
    ∙ sym (accepted_lists s.now sync end writes e)

-- READ TO ITS END, a reader gives exactly the writes of the image read alone, or its refusal.
pub reader_reads : ReaderReads
unfolding on_answer
reader_reads s = record {
  accepted = λ sync end writes n e enough. (reads_accepted s sync end writes n e enough, comes_to s n enough ∙ rw e refl);
  refused = λ reason place n e enough. comes_to s n enough ∙ rw e refl;
}
