-- What is proved of the reader: where an image loads, what a reading depends on and how short it can be, where a fault lies, what a search passes over, and where segment 1's words lead.
use Rattle.std.specs.Prelude.{ℕ, suc, ◌+◌, ◌^◌, ◌<◌, ◌≤◌, ◌≡◌, Bool, true, false, List, [], ◌∷◌, length, get_or, drop}
use Rattle.framing.specs.Search.{sync_bytes, begins_with}
use Rattle.framing.specs.Words.{word_at}
use Rattle.packets.specs.Trace.{contents}
use Rattle.configreader.specs.Configreader.{read_from, read_alone, listed}
use Rattle.configreader.specs.Types.{Loaded, OutcomeIprog, Stuck}

-- The bytes hold, d further on, what an image has from a place to an end.
pub record HoldsPart (bytes : List ℕ) (d : ℕ) (image : List ℕ) (from end : ℕ) : Type 0 where
  pub fits : d + end ≤ length bytes
  pub same : (i : ℕ) → from ≤ i → i < end → get_or bytes (d + i) 0 ≡ get_or image i 0

-- An image that reads alone to Loaded and stands d further on in other bytes, as far as its reading goes, is Loaded by every search that begins there, whatever else these hold, with the same writes, places apart.
abbrev pub Placement : Type 0
Placement =
    (image bytes : List ℕ) (d from sync end writes : ℕ) (jumped : Bool) → read_from 0 jumped image from ≡ Loaded sync end writes jumped → HoldsPart bytes d image from end → (left : ℕ) (after : Bool) →
    (read_from left after bytes (d + from) ≡ Loaded (d + sync) (d + end) writes after)
    × (contents (listed bytes (Loaded (d + sync) (d + end) writes after)) ≡ contents (listed image (Loaded sync end writes jumped)))

-- A reading that is Loaded without a jump depends only on the bytes from its start to its end, which lie within what is read.
pub record Locality : Type 0 where
  -- Other bytes that are the same there read the same, with the same writes;
  pub reads : (image bytes : List ℕ) (from sync end writes : ℕ) (jumped : Bool) → read_from 0 jumped image from ≡ Loaded sync end writes jumped → end ≤ length bytes →
      ((i : ℕ) → from ≤ i → i < end → get_or bytes i 0 ≡ get_or image i 0) → (left : ℕ) (after : Bool) →
      (read_from left after bytes from ≡ Loaded sync end writes after) × (listed bytes (Loaded sync end writes after) ≡ listed image (Loaded sync end writes jumped))
  -- and the reading ends within the image.
  pub ends : (image : List ℕ) (from sync end writes : ℕ) (jumped : Bool) → read_from 0 jumped image from ≡ Loaded sync end writes jumped → end ≤ length image

-- the words AA995566, 30008001 and 0000000D: sync, the header of one data word for CMD, DESYNC
abbrev pub twelve_bytes : List ℕ
twelve_bytes = 0xAA ∷ 0x99 ∷ 0x55 ∷ 0x66 ∷ 0x30 ∷ 0x00 ∷ 0x80 ∷ 0x01 ∷ 0x00 ∷ 0x00 ∷ 0x00 ∷ 0x0D ∷ []

-- The shortest reading that is Loaded has 12 bytes.
pub record ShortestReading : Type 0 where
  -- From the last sync word to the end there are that word, a header and a data word at least, and all of them are within what is read;
  pub none_shorter : (left : ℕ) (jumped : Bool) (bytes : List ℕ) (from sync end writes : ℕ) (after : Bool) → from ≤ length bytes → read_from left jumped bytes from ≡ Loaded sync end writes after →
      (sync + 12 ≤ end) × (end ≤ length bytes)
  -- and these 12 bytes are Loaded.
  pub of_twelve : read_alone twelve_bytes ≡ Loaded 0 12 1 false

-- The place of a fault lies within what is read, or is its length.
pub record FaultsWithin : Type 0 where
  pub stuck : (left : ℕ) (jumped : Bool) (bytes : List ℕ) (from place : ℕ) → from ≤ length bytes → read_from left jumped bytes from ≡ Stuck place → place ≤ length bytes
  pub iprog : (left : ℕ) (jumped : Bool) (bytes : List ℕ) (from place : ℕ) → from ≤ length bytes → read_from left jumped bytes from ≡ OutcomeIprog place → place ≤ length bytes

-- No sync word begins at any of the k places from a place on.
abbrev pub NoneIn : List ℕ → ℕ → ℕ → Type 0
NoneIn bytes from k = (i : ℕ) → i < k → begins_with sync_bytes (drop (from + i) bytes) ≡ false

-- A sync word stands at a place.
abbrev pub Stands : List ℕ → ℕ → Type 0
Stands bytes place = (j : ℕ) → j < 4 → get_or bytes (place + j) 0 ≡ get_or sync_bytes j 0

-- A search passes over places where no sync word begins.
abbrev pub Skipping : Type 0
Skipping = (left : ℕ) (jumped : Bool) (bytes : List ℕ) (from k : ℕ) → from + k ≤ length bytes → NoneIn bytes from k → read_from left jumped bytes from ≡ read_from left jumped bytes (from + k)

-- After the first sync word the words 30020001, a byte's place, 30008001 and 0000000F: the search goes on at that place, with one jump less left.
abbrev pub Jumping : Type 0
Jumping =
    (left : ℕ) (jumped : Bool) (bytes : List ℕ) (from k to : ℕ) → NoneIn bytes from k → Stands bytes (from + k) → from + k + 20 ≤ length bytes →
    word_at bytes (from + k + 4) ≡ 0x30020001 → word_at bytes (from + k + 8) ≡ to → word_at bytes (from + k + 12) ≡ 0x30008001 → word_at bytes (from + k + 16) ≡ 0x0000000F →
    to < length bytes → to < 2 ^ 29 → read_from (suc left) jumped bytes from ≡ read_from left true bytes to
