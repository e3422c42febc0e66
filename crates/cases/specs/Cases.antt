-- Document 01's starred proof cases, and cases of document 02's requests: the rows of one table, under one proposition.
use Rattle.std.specs.Prelude.{ℕ, ◌+◌, ◌/◌, ◌%◌, ◌≤◌, ◌≡◌, Bool, true, false, List, [], ◌∷◌, ◌++◌, length, take, replicate}
use Prim.Native.String.{String}
use Rattle.base.specs.Answer.{Numbered, result, refusal, value}
use Rattle.bootreader.specs.Image.{image_numbers, image_answer}
use Rattle.heaviest.specs.Heaviest.{heaviest_image, most_numbers, most_answer}
use Rattle.flash.specs.Flash.{erased}
use Rattle.kind.specs.Layout.{layout_of, layout_numbers, layout_answer}
use Rattle.chip.specs.Switch.{switch_numbers, switch_answer}
use Rattle.kind.specs.Spi.{spi}
use Rattle.outcomes.specs.Outcomes.{program_counts, erase_counts}
use Rattle.orders.specs.Orders.{orders as run_orders}
use Rattle.starts.specs.Starts.{total_numbers, total_answer}
use Rattle.mcs.specs.Reader.{read_numbers, read_answer, read_output}
use Rattle.canonical.specs.Test.{is_canonical}
use Rattle.fields.specs.Fields.{ascii}
use Rattle.mcswriter.specs.Mcswriter.{text_numbers, length_answer, write_answer, write_output}

-- What the paper says of a case: an answer in its numbers, and what is beside it: the bytes of an image that a text holds, how many orders are listed, or what the image check says of the image with most writes.
abbrev pub Says : Type 0
Says = Numbered × List ℕ

abbrev pub refuses : ℕ → ℕ → Says
refuses number place = (refusal number place, [])

abbrev pub loads : ℕ → ℕ → ℕ → Says
loads sync end writes = (result (sync ∷ end ∷ writes ∷ []), [])

abbrev pub reads : List ℕ → Says
reads image = (result (length image ∷ []), image)

abbrev pub allows : Says
allows = (result [], [])

abbrev pub is_off : Says
is_off = (result (0 ∷ []), [])

abbrev pub counts : ℕ → ℕ → Says
counts words on = (result (words ∷ on ∷ []), [])

abbrev pub orders : ℕ → ℕ → Says
orders total listed = (result (total ∷ []), listed ∷ [])

-- so many writes; and the image is accepted, with its sync word at 0, this end and as many writes
abbrev pub has : ℕ → ℕ → Says
has writes end = (result (writes ∷ []), 0 ∷ end ∷ writes ∷ [])

-- a text of so many characters, and one that is written
abbrev pub takes : ℕ → Says
takes characters = (result (characters ∷ []), [])

abbrev pub writes : List ℕ → Says
writes text = (result (length text ∷ []), text)

-- yes or no
abbrev pub answers : Bool → Says
answers yes' = (result (elim yes' [ true ↦ 1 | false ↦ 0 ] ∷ []), [])

-- an answer with nothing beside it
abbrev pub alone : Numbered → Says
alone numbers = (numbers, [])

-- a text read into a buffer: as many bytes as the answer says
abbrev pub text_says : Numbered → List ℕ → Says
text_says numbers output = (numbers, take (value numbers 0) output)

-- a case: the call, on any bytes that follow where the paper says "and more", and what the paper says of it
pub record Row : Type 0 where
  pub asks : List ℕ → Says
  pub room : ℕ
  pub says : Says

-- THE PROPOSITION of every row: whatever follows, in the room there is, the definition that the call's contract cites answers what the paper says.
abbrev pub Holds : Row → Type 0
Holds row = (rest : List ℕ) → length rest ≤ row.room → row.asks rest ≡ row.says

unfoldable pub All : List Row → Type 0
All [] = Unit {0}
All (row ∷ rows) = Holds row × All rows

-- an image with nothing after it
abbrev pub image : List ℕ → Says → Row
image bytes expected = record { asks = λ rest. alone (image_numbers (image_answer spi bytes)); room = 0; says = expected }

-- an image with anything after it that question 4 allows
abbrev pub image_and_more : List ℕ → ℕ → Says → Row
image_and_more bytes room expected = record { asks = λ rest. alone (image_numbers (image_answer spi (bytes ++ rest))); room = room; says = expected }

-- a text read into a buffer of 12 bytes and any more
abbrev pub text : List ℕ → Says → Row
text bytes expected = record { asks = λ rest. text_says (read_numbers (read_answer bytes (replicate 12 0 ++ rest))) (read_output bytes (replicate 12 0 ++ rest)); room = 16777204; says = expected }

-- a layout's F, U and A
abbrev pub layout : ℕ → ℕ → ℕ → Says → Row
layout length update_place update_length expected = record { asks = λ rest. alone (layout_numbers (layout_answer (layout_of length update_place update_length))); room = 0; says = expected }

-- a chip of 16,384 bytes with a switch word, else erased
abbrev pub switch : List ℕ → Says → Row
switch word expected = record { asks = λ rest. alone (switch_numbers (switch_answer spi (erased 4092 ++ (word ++ erased 12288)))); room = 0; says = expected }

-- a program of a word over an old one, and an erase of an old one, cut inside: how many words they can leave, and how many of those are ON
abbrev pub program_cut : ℕ → ℕ → Says → Row
program_cut old ordered expected = record { asks = λ rest. counts (program_counts spi old ordered).words (program_counts spi old ordered).on; room = 0; says = expected }

abbrev pub erase_cut : ℕ → Says → Row
erase_cut old expected = record { asks = λ rest. counts (erase_counts spi old).words (erase_counts spi old).on; room = 0; says = expected }

-- the greatest number of writes for n bytes; and beside it what the image check says of such an image
abbrev pub most : ℕ → Says → Row
most n expected = record { asks = λ rest. (most_numbers (most_answer n), (image_numbers (image_answer spi (heaviest_image n))).values); room = 0; says = expected }

-- a length that no such image has
abbrev pub no_most : ℕ → Says → Row
no_most n expected = record { asks = λ rest. alone (most_numbers (most_answer n)); room = 0; says = expected }

-- an image written into a buffer of so many bytes; how long the text of n bytes is; and whether a text is in the canonical form
abbrev pub write : List ℕ → ℕ → Says → Row
write bytes room expected = record { asks = λ rest. text_says (text_numbers (write_answer bytes room)) (write_output bytes (replicate room 0)); room = 0; says = expected }

abbrev pub text_of : ℕ → Says → Row
text_of n expected = record { asks = λ rest. alone (text_numbers (length_answer n)); room = 0; says = expected }

abbrev pub canonical : List ℕ → Bool → Row
canonical text expected = record { asks = λ rest. answers (is_canonical text); room = 0; says = answers expected }

-- an image of n bytes and A, on a chip of 32,768 bytes with its update area at 12,288
abbrev pub run : ℕ → ℕ → Says → Row
run n update_length expected = record {
  asks = λ rest. (total_numbers (total_answer (layout_of 32768 12288 update_length) n), length (run_orders spi (layout_of 32768 12288 update_length) (replicate n 0)) ∷ []);
  room = 0;
  says = expected;
}

-- `:0C000000AA995566300080010000000D38` and the end line
abbrev pub twelve_text : List ℕ
twelve_text =
    0x3A ∷ 0x30 ∷ 0x43 ∷ 0x30 ∷ 0x30 ∷ 0x30 ∷ 0x30 ∷ 0x30 ∷ 0x30 ∷ 0x41 ∷ 0x41 ∷ 0x39 ∷ 0x39 ∷ 0x35 ∷ 0x35 ∷ 0x36 ∷ 0x36 ∷ 0x33 ∷ 0x30 ∷ 0x30 ∷ 0x30 ∷ 0x38 ∷ 0x30 ∷ 0x30 ∷ 0x31 ∷ 0x30 ∷ 0x30 ∷ 0x30 ∷ 0x30 ∷ 0x30 ∷ 0x30 ∷ 0x30 ∷ 0x44 ∷ 0x33 ∷ 0x38 ∷ 0x0A
    ∷ 0x3A ∷ 0x30 ∷ 0x30 ∷ 0x30 ∷ 0x30 ∷ 0x30 ∷ 0x30 ∷ 0x30 ∷ 0x31 ∷ 0x46 ∷ 0x46 ∷ 0x0A ∷ []

-- AA995566 30008001 0000000F
abbrev pub jumping : List ℕ
jumping = 0xAA ∷ 0x99 ∷ 0x55 ∷ 0x66 ∷ 0x30 ∷ 0x00 ∷ 0x80 ∷ 0x01 ∷ 0x00 ∷ 0x00 ∷ 0x00 ∷ 0x0F ∷ []

-- AA995566 and a write header that names register 15, with this count
abbrev pub register15 : ℕ → List ℕ
register15 count = 0xAA ∷ 0x99 ∷ 0x55 ∷ 0x66 ∷ 0x30 ∷ 0x01 ∷ (0xE0 + count / 256) ∷ (count % 256) ∷ []

-- AA995566 30008001 0000000D 3001E001
abbrev pub ended15 : List ℕ
ended15 = 0xAA ∷ 0x99 ∷ 0x55 ∷ 0x66 ∷ 0x30 ∷ 0x00 ∷ 0x80 ∷ 0x01 ∷ 0x00 ∷ 0x00 ∷ 0x00 ∷ 0x0D ∷ 0x30 ∷ 0x01 ∷ 0xE0 ∷ 0x01 ∷ []

-- Lines that end in LF: any, those of the upper half 0000, of one byte AB at 0, and of the end record.
abbrev pub line : String → List ℕ
line characters = ascii characters ++ 0x0A ∷ []

abbrev pub upper_text : List ℕ
upper_text = line ":020000040000FA"

abbrev pub byte_text : List ℕ
byte_text = line ":01000000AB54"

abbrev pub end_text : List ℕ
end_text = line ":00000001FF"

unfoldable pub rows : List Row
rows =
    -- image AA995566 30008001 0000000D: Loaded, sync 0, end 12, one write
    image (0xAA ∷ 0x99 ∷ 0x55 ∷ 0x66 ∷ 0x30 ∷ 0x00 ∷ 0x80 ∷ 0x01 ∷ 0x00 ∷ 0x00 ∷ 0x00 ∷ 0x0D ∷ []) (loads 0 12 1)
    -- its first 11 bytes: 5 at 11
    ∷ image (0xAA ∷ 0x99 ∷ 0x55 ∷ 0x66 ∷ 0x30 ∷ 0x00 ∷ 0x80 ∷ 0x01 ∷ 0x00 ∷ 0x00 ∷ 0x00 ∷ []) (refuses 5 11)
    -- AA995566 30008001 0000000F and more: 6 at 8
    ∷ image_and_more jumping 16777204 (refuses 6 8)
    -- AA995566 50000001: 5 at 4
    ∷ image (0xAA ∷ 0x99 ∷ 0x55 ∷ 0x66 ∷ 0x50 ∷ 0x00 ∷ 0x00 ∷ 0x01 ∷ []) (refuses 5 4)
    -- no bytes: 4
    ∷ image [] (refuses 4 0)
    -- F 16,384 allowed
    ∷ layout 16384 12288 4096 allows
    -- F 12,288 gives 1
    ∷ layout 12288 12288 4096 (refuses 1 0)
    -- U 8,192 gives 2
    ∷ layout 16384 8192 4096 (refuses 2 0)
    -- n 12, A 4,096: 37 orders
    ∷ run 12 4096 (orders 37 37)
    -- n 300, A 8,192: 55
    ∷ run 300 8192 (orders 55 55)
    -- switch AA 99 55 67: OFF
    ∷ switch (0xAA ∷ 0x99 ∷ 0x55 ∷ 0x67 ∷ []) is_off
    -- the line and the end line: the 12-byte image
    ∷ text twelve_text (reads (0xAA ∷ 0x99 ∷ 0x55 ∷ 0x66 ∷ 0x30 ∷ 0x00 ∷ 0x80 ∷ 0x01 ∷ 0x00 ∷ 0x00 ∷ 0x00 ∷ 0x0D ∷ []))
    -- document 02, M-110: from erased to ON 65,536 words, one of them ON
    ∷ program_cut 0xFFFFFFFF 0xAA995566 (counts 65536 1)
    -- the old word lacks a bit that ON has, and that cannot change: as many words, none of them ON
    ∷ program_cut 0x7FFFFFFF 0xAA995566 (counts 65536 0)
    -- ON over ON: that word
    ∷ program_cut 0xAA995566 0xAA995566 (counts 1 1)
    -- a 1 ordered over an old 0: it remains 0
    ∷ program_cut 0x00000000 0xAA995566 (counts 1 0)
    -- an erase of 00000000: every word
    ∷ erase_cut 0x00000000 (counts 4294967296 1)
    -- an erase of FFFFFFFF: that word
    ∷ erase_cut 0xFFFFFFFF (counts 1 0)
    -- document 02, M-101: register 15, with a count of 0, 1 and 2,047, whatever follows: 5 at the header
    ∷ image_and_more (register15 0) 16777208 (refuses 5 4)
    ∷ image_and_more (register15 1) 16777208 (refuses 5 4)
    ∷ image_and_more (register15 2047) 16777208 (refuses 5 4)
    -- after DESYNC such a header is unread
    ∷ image_and_more ended15 16777200 (loads 0 12 1)
    -- document 02, M-111: the shortest image has one write
    ∷ most 12 (has 1 12)
    -- w = 2,049: w - 2 writes, and beyond w - 3
    ∷ most 8196 (has 2047 8196)
    ∷ most 8200 (has 2047 8200)
    ∷ most 8204 (has 2048 8204)
    -- the longest image, and bytes after its last whole word
    ∷ most 16777216 (has 4194301 16777216)
    ∷ most 15 (has 1 12)
    -- a byte less or more: 29
    ∷ no_most 11 (refuses 29 0)
    ∷ no_most 16777217 (refuses 29 0)
    -- document 02, M-100: one byte; a room one byte short: 19; no bytes: 4
    ∷ write (0xAB ∷ []) 42 (writes (upper_text ++ (byte_text ++ end_text)))
    ∷ write (0xAB ∷ []) 41 (refuses 19 0)
    ∷ write [] 42 (refuses 4 0)
    -- 16 bytes are one record and no empty one, 17 are two
    ∷ write (replicate 16 0) 100 (writes (upper_text ++ (line ":1000000000000000000000000000000000000000F0" ++ end_text)))
    ∷ write (replicate 17 0) 100 (writes (upper_text ++ (line ":1000000000000000000000000000000000000000F0" ++ (line ":0100100000EF" ++ end_text))))
    -- how long the text is: 65,536 bytes have one type 04 record, 65,537 two
    ∷ text_of 15 (takes 70)
    ∷ text_of 16 (takes 72)
    ∷ text_of 17 (takes 86)
    ∷ text_of 65535 (takes 180250)
    ∷ text_of 65536 (takes 180252)
    ∷ text_of 65537 (takes 180282)
    ∷ text_of 131072 (takes 360492)
    ∷ text_of 16777216 (takes 46141452)
    ∷ text_of 16777217 (refuses 4 0)
    -- the form: as it is written
    ∷ canonical (upper_text ++ (byte_text ++ end_text)) true
    -- no: CR LF, a needless type 04, a trailing one, a missing first one, a short record in the middle, a record of 32 bytes, lower case, no bytes
    ∷ canonical (upper_text ++ (ascii ":01000000AB54" ++ 0x0D ∷ 0x0A ∷ end_text)) false
    ∷ canonical (upper_text ++ (upper_text ++ (byte_text ++ end_text))) false
    ∷ canonical (upper_text ++ (byte_text ++ (upper_text ++ end_text))) false
    ∷ canonical (byte_text ++ end_text) false
    ∷ canonical (upper_text ++ (byte_text ++ (line ":01000100AC52" ++ end_text))) false
    ∷ canonical (upper_text ++ (line ":200000000000000000000000000000000000000000000000000000000000000000000000E0" ++ end_text)) false
    ∷ canonical (upper_text ++ (line ":01000000ab54" ++ end_text)) false
    ∷ canonical end_text false
    ∷ []
