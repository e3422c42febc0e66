-- The image is accepted with the number of writes, and nothing that loads has more.
use Prim.Native.Nat.{ℕ, zero, suc, ◌+◌, ◌-◌, ◌*◌, ◌/◌, ◌%◌, ◌^◌, ◌<◌, ◌≤◌}
use mathlib.Core.Path.{◌≡◌, refl, ap, ap₂, ◌∙◌}
use mathlib.Core.Bool.{Bool, true, false}
use mathlib.Core.Logic.{⊎_elim}
use mathlib.Core.List.{List, [], ◌∷◌, ◌++◌}
use native.Mathlib.Nat.{zero-add}
use native.Mathlib.Omega.{arith}
use borrow.Author.Tests.{le-leb, lt-leb}
use lib.ListN.{length, drop, replicate, length-replicate}
use Rattle.std.specs.Prelude.{Some, Ok}
use Rattle.base.specs.Question.{ask}
use Rattle.base.proofs.Laws.{below_or_not}
use Rattle.framing.specs.Search.{begins_with, find}
use Rattle.framing.specs.Words.{words, bytes_of_words}
use Rattle.framing.proofs.Laws.{find_here, AllWords, words_of_bytes, room}
use Rattle.packets.specs.Header.{field, CMD, DESYNC, register_ok, head_of, effect_of}
use Rattle.packets.specs.Trace.{opened, other, header, payload, mode_of, after_header, trace, finish, trace_from, writes_from}
use Rattle.packets.proofs.Laws.{type1_write, type2_write, command_ok, counted, trace_header, trace_data, trace_desync, headers_cost}
use Rattle.configreader.specs.Configreader.{read_from, read_alone}
use Rattle.configreader.proofs.Laws.{Proper, proper, shortest_reading, loads_from}
use Rattle.kind.specs.Spi.{spi}
use Rattle.bootreader.specs.Boot.{boot_answer}
use Rattle.bootreader.specs.Image.{longest_image, image_answer, accepted}
use Rattle.bootreader.proofs.Laws.{accepts, accepted_reads, booted}
use Rattle.heaviest.specs.Heaviest.{heaviest_length_allowed, most_in, most_writes, heaviest_headers, null_command, heaviest_image}
use Rattle.heaviest.specs.Theorems.{MostWrites, NothingLoadsMore}
use Rattle.heaviest.specs.Types.{Type1, Type2, FinishEnded, Loaded, BootLoaded}
use Rattle.heaviest.proofs.ImageLaws.{allowed_range, most_few, most_many, by_headers, divided, image_length_law}

-- THE PACKET. Its data words: the first ones let the reading go on, and DESYNC ends it.
data_reads : (k place writes wbstar : ℕ) → finish (trace (replicate k null_command ++ (DESYNC ∷ [])) place (payload CMD k)) writes wbstar ≡ FinishEnded (place + 4 * k + 4) (writes + k + 1)
unfolding finish effect_of ask mode_of
data_reads zero place writes wbstar = rw (trace_desync DESYNC [] place CMD 0 refl) (ap₂ FinishEnded (omega arith) (omega arith))
data_reads (suc k) place writes wbstar =
    rw (trace_data null_command (replicate k null_command ++ (DESYNC ∷ [])) place CMD (suc k) refl)
    (data_reads k (place + 4) (writes + 1) wbstar ∙ ap₂ FinishEnded (omega arith) (omega arith))

-- Its headers say what they are to say.
type1_head : (count : ℕ) → count < 2 ^ 11 → head_of (0x30008000 + count) ≡ Type1 CMD count
type1_head count h =
    let register : field (0x30008000 + count) 13 5 ≡ CMD = omega arith in
    let same : (0x30008000 + count) % 2 ^ 11 ≡ count = omega arith in
    type1_write (0x30008000 + count) (omega arith) (omega arith) (ap register_ok register ∙ command_ok)
    ∙ ap₂ Type1 register same

type2_head : (count : ℕ) → count < 2 ^ 27 → head_of (0x50000000 + count) ≡ Type2 count
type2_head count h = let same : (0x50000000 + count) % 2 ^ 27 ≡ count = omega arith in type2_write (0x50000000 + count) (omega arith) ∙ ap Type2 same

few_reads : (k place : ℕ) → suc k < 2 ^ 11 → finish (trace ((0x30008000 + suc k) ∷ (replicate k null_command ++ (DESYNC ∷ []))) place (header other)) 0 0 ≡ FinishEnded (place + 4 + 4 * k + 4) (0 + k + 1)
unfolding after_header mode_of
few_reads k place h =
    rw (trace_header (0x30008000 + suc k) (replicate k null_command ++ (DESYNC ∷ [])) place other (payload CMD k) (rw (type1_head (suc k) h) refl))
    (data_reads k (place + 4) 0 0)

many_reads : (k place : ℕ) → suc k < 2 ^ 27 → finish (trace (0x30008000 ∷ (0x50000000 + suc k) ∷ (replicate k null_command ++ (DESYNC ∷ []))) place (header other)) 0 0 ≡ FinishEnded (place + 4 + 4 + 4 * k + 4) (0 + k + 1)
unfolding after_header mode_of
many_reads k place h =
    rw (
      trace_header 0x30008000 ((0x50000000 + suc k) ∷ (replicate k null_command ++ (DESYNC ∷ []))) place other (header (opened CMD)) (rw (type1_head 0 (omega arith)) refl),
      trace_header (0x50000000 + suc k) (replicate k null_command ++ (DESYNC ∷ [])) (place + 4) (opened CMD) (payload CMD k) (rw (type2_head (suc k) h) refl),
    )
    (data_reads k (place + 4 + 4) 0 0)

-- From a place just after the sync word, the packet ends with the last whole word.
packet_reads : (w place : ℕ) → 3 ≤ w → w ≤ 4194304 → finish (trace (heaviest_headers w ++ (replicate (most_in w - 1) null_command ++ (DESYNC ∷ []))) place (header other)) 0 0 ≡ FinishEnded (place + 4 * (w - 1)) (most_in w)
packet_reads w place long small =
    let one_less : suc (most_in w - 1) ≡ most_in w = let d = divided w long in omega arith in
    by_headers w (λ headers. finish (trace (headers ++ (replicate (most_in w - 1) null_command ++ (DESYNC ∷ []))) place (header other)) 0 0 ≡ FinishEnded (place + 4 * (w - 1)) (most_in w))
    (λ few. let m = most_few w few in rw one_less at (few_reads (most_in w - 1) place (omega arith)) ∙ ap₂ FinishEnded (omega arith) (omega arith))
    (λ many. let m = most_many w many in rw one_less at (many_reads (most_in w - 1) place (omega arith)) ∙ ap₂ FinishEnded (omega arith) (omega arith))

-- THE IMAGE'S WORDS are words of 32 bits, so they are read back from its bytes.
data_words : (k : ℕ) → AllWords (replicate k null_command ++ (DESYNC ∷ []))
unfolding AllWords
data_words zero = (omega arith, tt)
data_words (suc k) = (omega arith, data_words k)

packet_words : (w : ℕ) → 3 ≤ w → w ≤ 4194304 → AllWords (heaviest_headers w ++ (replicate (most_in w - 1) null_command ++ (DESYNC ∷ [])))
unfolding AllWords
packet_words w long small =
    by_headers w (λ headers. AllWords (headers ++ (replicate (most_in w - 1) null_command ++ (DESYNC ∷ []))))
    (λ few. let m = most_few w few in (omega arith, data_words (most_in w - 1)))
    (λ many. let m = most_many w many in (omega arith, (omega arith, data_words (most_in w - 1))))

module _ (n : ℕ) (allowed : heaviest_length_allowed n ≡ true) where
  found : find (drop 0 (heaviest_image n)) 0 ≡ Some 0
  unfolding begins_with bytes_of_words
  found = find_here (heaviest_image n) 0 refl

  after_sync : words (drop 4 (heaviest_image n)) ≡ heaviest_headers (n / 4) ++ (replicate (most_writes n - 1) null_command ++ (DESYNC ∷ []))
  unfolding bytes_of_words
  after_sync =
      let r = allowed_range n allowed in
      let tail = length-replicate {A = ℕ} (n % 4) 0xFF in
      words_of_bytes (heaviest_headers (n / 4) ++ (replicate (most_writes n - 1) null_command ++ (DESYNC ∷ []))) (replicate (n % 4) 0xFF) (packet_words (n / 4) (omega arith) (omega arith)) (omega arith)

  reads : read_alone (heaviest_image n) ≡ Loaded 0 (4 * (n / 4)) (most_writes n) false
  reads =
      let r = allowed_range n allowed in
      let end : 4 + 4 * (n / 4 - 1) ≡ 4 * (n / 4) = omega arith in
      loads_from 0 false (heaviest_image n) 0 0 (4 * (n / 4)) (most_writes n) found
      (ap (λ (l : List ℕ). finish (trace l 4 (header other)) 0 0) after_sync ∙ packet_reads (n / 4) 4 (omega arith) (omega arith) ∙ ap (λ (p : ℕ). FinishEnded p (most_writes n)) end)

  reached : image_answer spi (heaviest_image n) ≡ accepted 0 (4 * (n / 4)) (most_writes n)
  reached =
      let r = allowed_range n allowed in
      let l = image_length_law n r.0 in
      accepts (heaviest_image n) 0 (4 * (n / 4)) (most_writes n) false (omega arith) (omega arith) reads

-- NONE HAS MORE. Of the words after a sync word, which are one fewer at least than all, one is no write, and of more than 2,048 another.
most_of : (w after writes : ℕ) → after + 1 ≤ w → writes + 1 ≤ after → (2049 ≤ after → writes + 2 ≤ after) → writes ≤ most_in w
unfolding most_in
most_of w after writes fewer one two = ⊎_elim many few (below_or_not 2049 w)
  where
    many : 2049 < w → writes ≤ most_in w
    many h = rw (lt-leb w 2049 h, most_in) (⊎_elim (λ less. omega arith) (λ more. let t = two more in omega arith) (below_or_not after 2049))

    few : w ≤ 2049 → writes ≤ most_in w
    few h = rw (le-leb w 2049 h, most_in) (omega arith)

reading_most : (left : ℕ) (jumped : Bool) (bytes : List ℕ) (from sync end writes : ℕ) (after : Bool) → from ≤ length bytes → read_from left jumped bytes from ≡ Loaded sync end writes after → writes ≤ most_writes (length bytes)
unfolding Proper
reading_most left jumped bytes from sync end writes after l e =
    let p = rw e at (proper left jumped bytes from l) in
    let n : writes ≡ length (writes_from bytes (sync + 4)) = counted (trace_from bytes (sync + 4)) 0 0 end writes p.1 ∙ zero-add (length (writes_from bytes (sync + 4))) in
    let s = shortest_reading.none_shorter left jumped bytes from sync end writes after l e in
    let r = room bytes (sync + 4) in
    rw n
    (most_of (length bytes / 4) (length (words (drop (sync + 4) bytes))) (length (writes_from bytes (sync + 4))) (omega arith)
    (headers_cost.one (words (drop (sync + 4) bytes)) (sync + 4) (omega arith))
    (headers_cost.two (words (drop (sync + 4) bytes)) (sync + 4)))

most_grows : (n m : ℕ) → n ≤ m → most_writes n ≤ most_writes m
most_grows n m h = ⊎_elim many few (below_or_not 2049 (m / 4))
  where
    many : 2049 < m / 4 → most_writes n ≤ most_writes m
    many g =
        let b = most_many (m / 4) g in
        ⊎_elim (λ f. let a = most_many (n / 4) f in omega arith) (λ f. let a = most_few (n / 4) f in omega arith) (below_or_not 2049 (n / 4))

    few : m / 4 ≤ 2049 → most_writes n ≤ most_writes m
    few g = let b = most_few (m / 4) g in let a = most_few (n / 4) (omega arith) in omega arith

image_most : (image : List ℕ) (sync end writes : ℕ) → image_answer spi image ≡ accepted sync end writes → writes ≤ most_writes (length image)
unfolding image_answer
image_most image sync end writes e = reading_most 0 false image 0 sync end writes false (omega arith) (accepted_reads longest_image image sync end writes e)

chip_most : (chip : List ℕ) (sync end writes : ℕ) (jumped : Bool) → boot_answer spi chip ≡ Ok (BootLoaded sync end writes jumped) → writes ≤ most_writes (length chip)
chip_most chip sync end writes jumped e = reading_most 1 false chip 0 sync end writes jumped (omega arith) (booted chip sync end writes jumped e)

pub most_writes_reached : MostWrites
most_writes_reached = record { long = λ n e. image_length_law n (allowed_range n e).0; reached = reached; bound = image_most }

pub nothing_loads_more : NothingLoadsMore
nothing_loads_more = record { chip = chip_most; reading = reading_most; grows = most_grows }
