-- Laws of the image with most writes: which lengths it has, how its words divide, and the parts that it is written in.
use Prim.Native.Nat.{ℕ, ◌+◌, ◌-◌, ◌*◌, ◌/◌, ◌%◌, ◌<◌, ◌≤◌}
use mathlib.Core.Path.{◌≡◌, refl, sym, ap, ap₂, ◌∙◌}
use mathlib.Core.Bool.{Bool, true, false}
use mathlib.Core.Logic.{⊎_elim}
use mathlib.Core.List.{List, [], ◌∷◌, ◌++◌, append_assoc}
use native.Mathlib.Omega.{arith}
use borrow.Author.Tests.{leb-true, le-leb, lt-leb}
use lib.ListN.{length, drop, replicate, length-append, length-replicate, replicate-append-replicate}
use lib.Seq.{drop_at}
use Rattle.std.specs.Prelude.{Result, Ok, Err}
use Rattle.base.specs.Output.{front_filled}
use Rattle.base.specs.Question.{ask}
use Rattle.base.specs.Refusal.{refused}
use Rattle.base.proofs.Laws.{false_true, asked, below_or_not, front_fits}
use Rattle.framing.specs.Words.{bytes_of_words}
use Rattle.framing.proofs.Laws.{bytes_words_append, bytes_words_length, bytes_of_zeros}
use Rattle.packets.specs.Header.{DESYNC}
use Rattle.bootreader.specs.Image.{shortest_image, longest_image}
use Rattle.flash.specs.Flash.{erased, overwrite_in_range}
use Rattle.flash.proofs.Laws.{front_on, front_again, erased_length}
use Rattle.heaviest.specs.Heaviest.{heaviest_length_allowed, most_in, most_writes, heaviest_headers, heaviest_image, most_answer, heaviest_answer, heaviest_output}
use Rattle.heaviest.specs.Internal.{opening}
use Rattle.heaviest.specs.Types.{BadHeaviestLength, NoRoom, Refusal}

pub allowed_range : (n : ℕ) → heaviest_length_allowed n ≡ true → (shortest_image ≤ n) × (n ≤ longest_image)
unfolding heaviest_length_allowed
allowed_range n e = let q = asked _ _ _ _ e false_true in (leb-true shortest_image n q.0, leb-true n longest_image q.1)

-- Up to 2,049 words there is one header, beyond there are two.
module _ (words : ℕ) where
  pub most_few : words ≤ 2049 → most_in words ≡ words - 2
  unfolding most_in
  most_few h = rw (le-leb words 2049 h, most_in)

  pub most_many : 2049 < words → most_in words ≡ words - 3
  unfolding most_in
  most_many h = rw (lt-leb words 2049 h, most_in)

  pub headers_few : words ≤ 2049 → heaviest_headers words ≡ (0x30008000 + most_in words) ∷ []
  unfolding heaviest_headers
  headers_few h = rw (le-leb words 2049 h, heaviest_headers)

  pub headers_many : 2049 < words → heaviest_headers words ≡ 0x30008000 ∷ (0x50000000 + most_in words) ∷ []
  unfolding heaviest_headers
  headers_many h = rw (lt-leb words 2049 h, heaviest_headers)

  -- What holds of one header, and of two, holds of the headers.
  pub by_headers : (P : List ℕ → Type 0) → (words ≤ 2049 → P ((0x30008000 + most_in words) ∷ [])) → (2049 < words → P (0x30008000 ∷ (0x50000000 + most_in words) ∷ [])) → P (heaviest_headers words)
  by_headers P few many = ⊎_elim (λ h. rw (headers_many h) (many h)) (λ h. rw (headers_few h) (few h)) (below_or_not 2049 words)

  -- The words are the sync word, the headers and the writes.
  pub divided : 3 ≤ words → (1 ≤ most_in words) × (1 + length (heaviest_headers words) + most_in words ≡ words)
  divided h =
      by_headers (λ headers. (1 ≤ most_in words) × (1 + length headers + most_in words ≡ words))
      (λ few. let m = most_few few in (omega arith, omega arith))
      (λ many. let m = most_many many in (omega arith, omega arith))

  pub opening_length : 3 ≤ words → length (opening words) ≡ 4 * (words - most_in words)
  opening_length h = let n = bytes_words_length (0xAA995566 ∷ heaviest_headers words) in let d = divided h in omega arith

-- THE PARTS of the image: what comes before the data words, data words of 0, DESYNC, and FF after the last whole word.
abbrev pub desync_bytes : List ℕ
desync_bytes = 0x00 ∷ 0x00 ∷ 0x00 ∷ 0x0D ∷ []

last_bytes : bytes_of_words (DESYNC ∷ []) ≡ desync_bytes
unfolding bytes_of_words
last_bytes = refl

module _ (n : ℕ) where
  abbrev zeros : List ℕ
  zeros = replicate (4 * (most_writes n - 1)) 0

  zeros_length : length zeros ≡ 4 * (most_writes n - 1)
  zeros_length = length-replicate {A = ℕ} (4 * (most_writes n - 1)) 0

  image_parts : ((opening (n / 4) ++ zeros) ++ desync_bytes) ++ erased (n % 4) ≡ heaviest_image n
  image_parts =
      ap (λ (l : List ℕ). l ++ erased (n % 4))
      (append_assoc (opening (n / 4)) zeros desync_bytes
      ∙ ap (λ (l : List ℕ). opening (n / 4) ++ l)
      (sym (bytes_words_append (replicate (most_writes n - 1) 0) (DESYNC ∷ []) ∙ ap₂ ◌++◌ (bytes_of_zeros (most_writes n - 1)) last_bytes))
      ∙ sym (bytes_words_append (0xAA995566 ∷ heaviest_headers (n / 4)) (replicate (most_writes n - 1) 0 ++ (DESYNC ∷ []))))

  pub image_length_law : shortest_image ≤ n → length (heaviest_image n) ≡ n
  image_length_law h =
      let d = divided (n / 4) (omega arith) in
      let o = opening_length (n / 4) (omega arith) in
      ap (λ (l : List ℕ). length l) (sym image_parts)
      ∙ length-append ((opening (n / 4) ++ zeros) ++ desync_bytes) (erased (n % 4))
      ∙ rw (length-append (opening (n / 4) ++ zeros) desync_bytes, length-append (opening (n / 4)) zeros, zeros_length, erased_length (n % 4)) (omega arith)

  -- Zeros up to the last word, the opening over them, DESYNC and FF are the image at the front of the buffer.
  module _ (buffer : List ℕ) (long : shortest_image ≤ n) (fits : n ≤ length buffer) where
    abbrev last_at : ℕ
    last_at = 4 * (n / 4 - 1)

    abbrev blank : List ℕ
    blank = replicate last_at 0

    -- What the opening leaves of the zeros.
    left_blank : drop (length (opening (n / 4))) blank ≡ zeros
    left_blank =
        let d = divided (n / 4) (omega (arith, long)) in
        let o = opening_length (n / 4) (omega (arith, long)) in
        let parts : length (opening (n / 4)) + 4 * (most_writes n - 1) ≡ last_at = omega arith in
        ap (λ (l : List ℕ). drop (length (opening (n / 4))) l) (ap (λ (k : ℕ). replicate k 0) (sym parts) ∙ sym (replicate-append-replicate (length (opening (n / 4))) (4 * (most_writes n - 1)) 0))
        ∙ drop_at (replicate (length (opening (n / 4))) 0) zeros (length (opening (n / 4))) (length-replicate {A = ℕ} (length (opening (n / 4))) 0)

    pub written : overwrite_in_range (overwrite_in_range (overwrite_in_range (overwrite_in_range buffer 0 last_at blank) 0 (length (opening (n / 4))) (opening (n / 4))) last_at 4 desync_bytes) (last_at + 4) (n % 4) (erased (n % 4)) ≡ front_filled (heaviest_image n) buffer
    written =
        let d = divided (n / 4) (omega (arith, long)) in
        let o = opening_length (n / 4) (omega (arith, long)) in
        let blank_length = length-replicate {A = ℕ} last_at 0 in
        let filled = ap (λ (l : List ℕ). overwrite_in_range l 0 last_at blank) (sym (front_fits [] buffer (omega arith))) ∙ front_on [] buffer 0 last_at blank refl blank_length (omega (arith, fits)) in
        let opened =
        ap (λ (l : List ℕ). overwrite_in_range l 0 (length (opening (n / 4))) (opening (n / 4))) filled
        ∙ front_again blank buffer (length (opening (n / 4))) (opening (n / 4)) refl (omega arith) (omega (arith, fits))
        ∙ ap (λ (l : List ℕ). front_filled (opening (n / 4) ++ l) buffer) left_blank in
        let two = length-append (opening (n / 4)) zeros in
        let ended = ap (λ (l : List ℕ). overwrite_in_range l last_at 4 desync_bytes) opened ∙ front_on (opening (n / 4) ++ zeros) buffer last_at 4 desync_bytes (omega (arith, zeros_length)) refl (omega (arith, fits)) in
        let three = length-append (opening (n / 4) ++ zeros) desync_bytes in
        ap (λ (l : List ℕ). overwrite_in_range l (last_at + 4) (n % 4) (erased (n % 4))) ended
        ∙ front_on ((opening (n / 4) ++ zeros) ++ desync_bytes) buffer (last_at + 4) (n % 4) (erased (n % 4)) (omega (arith, zeros_length)) (erased_length (n % 4)) (omega (arith, fits))
        ∙ ap (λ (l : List ℕ). front_filled l buffer) image_parts

-- WHAT THE CALLS ANSWER, by the tests on the way.
module _ (n : ℕ) where
  -- A length that is refused is refused by both,
  pub most_refused : (r : Refusal) → most_answer n ≡ Err r → (room : ℕ) (buffer : List ℕ) → (heaviest_answer n room ≡ Err r) × (heaviest_output n buffer ≡ buffer)
  unfolding most_answer heaviest_answer heaviest_output ask
  most_refused r e room buffer = go (heaviest_length_allowed n) refl e
    where
      go : (b : Bool) → heaviest_length_allowed n ≡ b → ask b (refused BadHeaviestLength 0) (Ok (most_writes n)) ≡ Err r → (heaviest_answer n room ≡ Err r) × (heaviest_output n buffer ≡ buffer)
      go false p q = (rw p q, rw p refl)
      go true p q = let z : ◌≡◌ {A = ℕ} 0 1 = cc in absurd (omega arith)

  -- and of one that is not, the room decides.
  module _ (writes : ℕ) (e : most_answer n ≡ Ok writes) where
    allowed : (heaviest_length_allowed n ≡ true) × (◌≡◌ {A = Result ℕ Refusal} (Ok (most_writes n)) (Ok writes))
    unfolding most_answer
    allowed = asked _ _ _ _ e (λ q. let z : ◌≡◌ {A = ℕ} 0 1 = cc in omega arith)

    pub most_is : (shortest_image ≤ n) × (n ≤ longest_image) × (writes ≡ most_writes n)
    most_is = let r = allowed_range n allowed.0 in let q = allowed.1 in (r.0, r.1, cc)

    pub most_small : (buffer : List ℕ) → length buffer < n → (heaviest_answer n (length buffer) ≡ refused NoRoom 0) × (heaviest_output n buffer ≡ buffer)
    unfolding heaviest_answer heaviest_output front_filled ask
    most_small buffer h = (rw (allowed.0, lt-leb n (length buffer) h) refl, rw (allowed.0, lt-leb (length (heaviest_image n)) (length buffer) (omega (arith, image_length_law n most_is.0))) refl)

    pub most_written : (buffer : List ℕ) → n ≤ length buffer → (heaviest_answer n (length buffer) ≡ Ok writes) × (heaviest_output n buffer ≡ front_filled (heaviest_image n) buffer)
    unfolding heaviest_answer heaviest_output ask
    most_written buffer h = (rw (allowed.0, le-leb n (length buffer) h) allowed.1, rw allowed.0 refl)
