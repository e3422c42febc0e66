-- What a reader's calls come to together: the image read alone. Document 01, "How the configuration reader reads" and question 5.
use Rattle.std.specs.Prelude.{ℕ, ◌+◌, ◌*◌, ◌≤◌, ◌≡◌, List, length, Some, None, Ok}
use Rattle.std.specs.Borrow.{Bor}
use Rattle.kind.specs.Spi.{spi}
use Rattle.configreader.specs.Configreader.{read_alone, listed}
use Rattle.base.specs.Refusal.{refused as is_refused}
use Rattle.bootreader.specs.Image.{accepted as is_accepted, image_answer}
use Rattle.imagereader.specs.Imagereader.{packet_at, reader_at, nth_next, given_writes}
use Rattle.imagereader.specs.Types.{Reason, Packet}

-- What a reader made at an image comes to. Each packet takes 8 bytes at least, so as many calls as bytes are enough.
pub record ReadsImage (s : Bor (List ℕ)) : Type 0 where
  pub accepted : (sync end writes n : ℕ) → image_answer spi s.now ≡ is_accepted sync end writes → length s.now ≤ n →
      (given_writes n (reader_at s) ≡ listed s.now (read_alone s.now)) × (nth_next n (reader_at s) ≡ Ok None)
  pub refused : (reason : Reason) (place n : ℕ) → image_answer spi s.now ≡ is_refused reason place → length s.now ≤ n →
      nth_next n (reader_at s) ≡ is_refused reason place

-- Read to its end, a reader's packets have exactly the writes of the image read alone; a refused image is told from one at its end.
abbrev pub ReaderReads : Type 0
ReaderReads = (s : Bor (List ℕ)) → ReadsImage s

-- The data words that a packet counts as written lie within the image.
abbrev pub PacketsInside : Type 0
PacketsInside = (image : List ℕ) (at : ℕ) (found : Packet) → packet_at image at ≡ Ok (Some found) → found.first + 4 * found.count ≤ length image
