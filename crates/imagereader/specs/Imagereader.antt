-- A reader of an image: it holds the image and the next place, and gives the packets with data words, one a call. A place says where the next packet begins: a type 1 header of count 0 and its type 2 header are taken together. Document 01, "Orders of one run": "A reader of an image holds the image and the next place."
use Rattle.std.specs.Prelude.{ℕ, zero, suc, ◌+◌, ◌*◌, List, [], ◌∷◌, ◌++◌, length, drop, leb, Option, Some, None, Result, Ok, Err}
use Rattle.std.specs.Borrow.{Bor}
use Rattle.base.specs.Question.{ask}
use Rattle.base.specs.Refusal.{refused}
use Rattle.base.specs.Answer.{Numbered, in_numbers}
use Rattle.framing.specs.Search.{find}
use Rattle.framing.specs.Words.{words}
use Rattle.packets.specs.Trace.{Trace, wrote, desync, iprog, faulty, short, trace_from}
use Rattle.kind.specs.Layout.{image_length_allowed}
use Rattle.bootreader.specs.Image.{longest_image}
use Rattle.imagereader.specs.Types.{BadImageLength, ImageFault, ImageJumps, Refusal, Write, Packet, Reader}

-- in numbers: 1 and the packet's numbers, or 0 where all were given
abbrev pub packet_numbers : Result (Option Packet) Refusal → Numbered
packet_numbers = in_numbers (λ (given : Option Packet). elim given [ Some packet ↦ 1 ∷ packet.register ∷ packet.first ∷ packet.count ∷ packet.next ∷ [] | None ↦ 0 ∷ [] ])

-- The place of a reader that has given all packets: after every byte, and after the place where bytes run out.
abbrev pub past_end : List ℕ → ℕ
past_end image = length image + 1

-- a packet: its register, the place of its first data word, how many of its data words are written, and the reader's place after it
abbrev pub packet : ℕ → ℕ → ℕ → ℕ → Result (Option Packet) Refusal
packet register first count next = Ok (Some (record { register = register; first = first; count = count; next = next }))

-- What the packet comes to whose data words these are: `count` of them are written, `left` are to come. DESYNC is its last word, and then all packets were given; an image has no IPROG.
unfoldable pub packet_of : List ℕ → ℕ → ℕ → ℕ → ℕ → Trace → Result (Option Packet) Refusal
packet_of image register first count left (desync end) = packet register first count (past_end image)
packet_of image register first count left (iprog place) = refused ImageJumps place
packet_of image register first count zero (wrote write later more) = packet register first count (first + 4 * count)
packet_of image register first count zero (faulty place) = packet register first count (first + 4 * count)
packet_of image register first count zero short = packet register first count (first + 4 * count)
packet_of image register first count (suc left) (wrote write later more) = packet_of image register first (count + 1) left more
packet_of image register first count (suc left) (faulty place) = refused ImageFault place
packet_of image register first count (suc left) short = refused ImageFault (length image)

-- The first packet with data words; no-operations and packets without any are passed. (A trace begins with no DESYNC and no IPROG: these are data words.)
unfoldable pub first_packet : List ℕ → Trace → Result (Option Packet) Refusal
first_packet image (wrote write left more) = packet_of image write.register write.place 1 left more
first_packet image (desync end) = Ok None
first_packet image (iprog place) = refused ImageJumps place
first_packet image (faulty place) = refused ImageFault place
first_packet image short = refused ImageFault (length image)

-- `next_from`, and `first_from` at the first place. What is at a place: question 4 of the image's length, then the end, or the first packet from there.
unfoldable pub packet_at : List ℕ → ℕ → Result (Option Packet) Refusal
packet_at image at =
    ask (image_length_allowed longest_image (length image)) (refused BadImageLength 0)
    (ask (leb at (length image)) (Ok None) (first_packet image (trace_from image at)))

-- Where the first packet begins: after the sync word; where there is none, where the bytes run out.
abbrev pub first_place : List ℕ → ℕ
first_place image = elim (find image 0) [ Some sync ↦ sync + 4 | None ↦ length image ]

-- Where the reader is after an answer: after a packet at its `next`; at the end and at a fault it stays.
unfoldable pub place_after : Result (Option Packet) Refusal → ℕ → ℕ
place_after (Ok (Some packet)) at = packet.next
place_after (Ok None) at = at
place_after (Err r) at = at

-- `Reader::new`
abbrev pub reader_at : Bor (List ℕ) → Reader
reader_at image = record { image = image; at = first_place image.now }

-- `Reader::next`: what it answers, and the reader after it, of the same image
abbrev pub next_of : Reader → Result (Option Packet) Refusal
next_of r = packet_at r.image.now r.at

abbrev pub reader_after : Reader → Reader
reader_after r = record { image = r.image; at = place_after (next_of r) r.at }

-- the answer of the k-th `Reader::next`, counted from 0
unfoldable pub nth_next : ℕ → Reader → Result (Option Packet) Refusal
nth_next zero r = next_of r
nth_next (suc k) r = nth_next k (reader_after r)

-- The first `count` of these words as writes to a register: register, word, place.
unfoldable pub word_writes : ℕ → ℕ → ℕ → List ℕ → List Write
word_writes register place zero more = []
word_writes register place (suc count) [] = []
word_writes register place (suc count) (word ∷ more) = record { register = register; word = word; place = place } ∷ word_writes register (place + 4) count more

-- the writes of an answer: those of its packet
unfoldable pub packet_writes : List ℕ → Result (Option Packet) Refusal → List Write
packet_writes image (Ok (Some packet)) = word_writes packet.register packet.first packet.count (words (drop packet.first image))
packet_writes image (Ok None) = []
packet_writes image (Err r) = []

-- the writes of the packets that n calls of `Reader::next` give, in order
unfoldable pub given_writes : ℕ → Reader → List Write
given_writes zero r = []
given_writes (suc n) r = packet_writes r.image.now (next_of r) ++ given_writes n (reader_after r)
