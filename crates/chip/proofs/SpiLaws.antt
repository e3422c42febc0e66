-- What a well-formed SPI chip loads.
use Prim.Native.Nat.{ℕ, zero, suc, ◌+◌, ◌-◌, ◌*◌, ◌/◌, ◌%◌, ◌^◌, ◌<◌, ◌≤◌}
use mathlib.Core.Path.{◌≡◌, refl, sym, ◌∙◌}
use mathlib.Core.Bool.{Bool, true, false}
use mathlib.Core.List.{List, [], ◌∷◌}
use native.Mathlib.Omega.{arith}
use native.Mathlib.Nat.{zero-add, add-zero}
use borrow.Author.Tests.{ltb-true, ltb-false, eq-eqb, eqb-true, eqb-false}
use lib.Dec.{eqb, ltb}
use lib.ListN.{length, get_or, drop}
use Rattle.framing.specs.Search.{sync_bytes, begins_with}
use Rattle.framing.specs.Words.{word_at}
use Rattle.base.specs.Question.{ask}
use Rattle.configreader.specs.Configreader.{read_from, read_chip, read_alone, listed}
use Rattle.packets.specs.Trace.{contents}
use Rattle.bootreader.specs.Image.{image_within, accepted}
use Rattle.chip.specs.Types.{Loaded}
use Rattle.bootreader.proofs.Laws.{alone_stays, accepted_reads}
use Rattle.kind.proofs.Laws.{chip_length_range, update_place_range}
use Rattle.configreader.specs.Theorems.{NoneIn}
use Rattle.configreader.proofs.Laws.{search_past, jumps_to, placed, placed_contents, ends_within}
use Rattle.base.proofs.Laws.{false_true}
use Rattle.framing.proofs.Laws.{differs_at, word_of_law, bytes_word}
use Rattle.kind.specs.Layout.{segment, switch_at, golden_at}
use Rattle.kind.specs.Spi.{spi, spi_on, spi_warm_boot}
use Rattle.chip.specs.Chip.{switch_word, golden_area, WellFormed, LoadsAlone, Loads, ContainsAt}
use Rattle.chip.specs.Theorems.{SpiLawful}
use Rattle.flash.proofs.Laws.{span_at, span_length}
use Rattle.chip.proofs.SwitchLaws.{on_bytes, off_no_sync, spi_stays_off}

-- An image that its check accepts loads by itself.
pub accepted_alone : (longest : ℕ) (image : List ℕ) (sync end writes : ℕ) → image_within spi longest image ≡ accepted sync end writes → LoadsAlone spi image
accepted_alone longest image sync end writes e = record { sync = sync; end = end; writes = writes; reading = accepted_reads longest image sync end writes e }

-- bytes of which none begins a sync word
plain_bytes : List ℕ → Bool
plain_bytes [] = true
plain_bytes (byte ∷ bytes) = ask (eqb byte 0xAA) (plain_bytes bytes) false

plain_at : (bytes : List ℕ) → plain_bytes bytes ≡ true → (i : ℕ) → get_or bytes i 0xFF ≡ 0xAA → ⊥
unfolding plain_bytes ask
plain_at [] q i e = omega arith
plain_at (byte ∷ bytes) q zero e = false_true (rw (eq-eqb byte 0xAA e) at q)
plain_at (byte ∷ bytes) q (suc i) e = plain_at bytes (go (eqb byte 0xAA) q) i e
  where
    go : (b : Bool) → ask b (plain_bytes bytes) false ≡ true → plain_bytes bytes ≡ true
    go true q = absurd (false_true q)
    go false q = q

-- A place where the update area may begin, as its word's bytes.
module _ (update_place : ℕ) (whole : update_place % 4096 ≡ 0) (short : update_place < 16777216) where
  top : update_place / 2 ^ 24 % 256 ≡ 0
  top = omega arith

  third : update_place / 2 ^ 8 % 256 % 16 ≡ 0
  third = omega arith

  last : update_place % 256 ≡ 0
  last = omega arith

  -- In segment 1 a sync word could only begin at U's second byte.
  words_plain : (i : ℕ) → (i ≡ 5 → ⊥) → get_or (spi_warm_boot update_place) i 0xFF ≡ 0xAA → ⊥
  unfolding spi_warm_boot plain_bytes ask
  words_plain zero n e = omega arith
  words_plain (suc zero) n e = omega arith
  words_plain (suc (suc zero)) n e = omega arith
  words_plain (suc (suc (suc zero))) n e = omega arith
  words_plain (suc (suc (suc (suc zero)))) n e = omega (arith, top)
  words_plain (suc (suc (suc (suc (suc zero))))) n e = n refl
  words_plain (suc (suc (suc (suc (suc (suc zero)))))) n e = omega (arith, third)
  words_plain (suc (suc (suc (suc (suc (suc (suc zero))))))) n e = omega (arith, last)
  words_plain (suc (suc (suc (suc (suc (suc (suc (suc i)))))))) n e =
      plain_at (0x30 ∷ 0x00 ∷ 0x80 ∷ 0x01 ∷ 0x00 ∷ 0x00 ∷ 0x00 ∷ 0x0F ∷ 0x20 ∷ 0x00 ∷ 0x00 ∷ 0x00 ∷ []) refl i e

words_first : (update_place : ℕ) → get_or (spi_warm_boot update_place) 0 0xFF ≡ 0x30
unfolding spi_warm_boot
words_first update_place = refl

words_third : (update_place : ℕ) → get_or (spi_warm_boot update_place) 6 0xFF ≡ update_place / 2 ^ 8 % 256
unfolding spi_warm_boot
words_third update_place = refl

sync_no_30 : (j : ℕ) → get_or sync_bytes j 0 ≡ 0x30 → ⊥
sync_no_30 zero e = omega arith
sync_no_30 (suc zero) e = omega arith
sync_no_30 (suc (suc zero)) e = omega arith
sync_no_30 (suc (suc (suc zero))) e = omega arith
sync_no_30 (suc (suc (suc (suc j)))) e = omega arith

module _ (update_place : ℕ) (chip : List ℕ) (formed : WellFormed spi update_place chip) where
  long : (16384 ≤ length chip) × (length chip ≤ 16777216) × (length chip % 4096 ≡ 0)
  long = chip_length_range (length chip) formed.long

  room : (update_place % 4096 ≡ 0) × (12288 ≤ update_place) × (update_place < length chip)
  room = update_place_range (length chip) update_place formed.room

  short : update_place < 16777216
  short = let l = long in let r = room in omega arith

  -- a place where a byte of the sync word does not stand
  differs : (i j : ℕ) → j < 4 → (get_or chip (i + j) 0 ≡ get_or sync_bytes j 0 → ⊥) → begins_with sync_bytes (drop (0 + i) chip) ≡ false
  differs i j h d = rw (zero-add i) (differs_at chip i j h d)

  -- No sync word begins before the switch word,
  none_before : NoneIn chip 0 switch_at
  none_before i h = differs i 0 (omega arith) (λ e. let b : get_or chip (i + 0) 0 ≡ 0xFF = rw (add-zero i) (formed.blank i h) in omega arith)

  -- nor at its other bytes, since segment 1 begins with 30,
  none_within : (i : ℕ) → switch_at < i → i < segment → begins_with sync_bytes (drop (0 + i) chip) ≡ false
  none_within i a b =
      let p : i + (segment - i) ≡ segment = omega arith in
      differs i (segment - i) (omega arith) (λ e. sync_no_30 (segment - i) (sym (rw p at e) ∙ formed.words 0 (omega arith) ∙ words_first update_place))

  -- nor in segment 1.
  none_in_words : (i : ℕ) → i < segment → begins_with sync_bytes (drop (0 + (segment + i)) chip) ≡ false
  none_in_words i h = go (eqb i 5) refl
    where
      go : (b : Bool) → eqb i 5 ≡ b → begins_with sync_bytes (drop (0 + (segment + i)) chip) ≡ false
      go true q =
          let five : i ≡ 5 = eqb-true i 5 q in
          let p : segment + i + 1 ≡ 4102 = omega arith in
          differs (segment + i) 1 (omega arith)
          (λ e.
          let sixth : update_place / 2 ^ 8 % 256 ≡ 0x99 = sym (words_third update_place) ∙ sym (formed.words 6 (omega arith)) ∙ rw p at e in
          omega (arith, third update_place room.0 short))
      go false q =
          differs (segment + i) 0 (omega arith)
          (λ e. words_plain update_place room.0 short i (eqb-false i 5 q) (sym (formed.words i h) ∙ rw (add-zero (segment + i)) at e))

  none_off : spi.is_on (switch_word chip) ≡ false → NoneIn chip 0 golden_at
  none_off off i h = go (ltb i switch_at) refl (ltb switch_at i) refl (ltb i segment) refl
    where
      go : (a : Bool) → ltb i switch_at ≡ a → (b : Bool) → ltb switch_at i ≡ b → (c : Bool) → ltb i segment ≡ c → begins_with sync_bytes (drop (0 + i) chip) ≡ false
      go true p b q c r = none_before i (ltb-true i switch_at p)
      go false p false q c r =
          let e : 0 + i ≡ switch_at = let x = ltb-false i switch_at p in let y = ltb-false switch_at i q in omega arith in
          rw e (off_no_sync chip (let l = long in omega arith) off)
      go false p true q true r = none_within i (ltb-true switch_at i q) (ltb-true i segment r)
      go false p true q false r =
          let l = ltb-false i segment r in
          let e : segment + (i - segment) ≡ i = omega arith in
          rw e at (none_in_words (i - segment) (omega arith))

  -- A well-formed chip that is OFF loads its golden area, without a jump.
  pub spi_off_loads : spi.is_on (switch_word chip) ≡ false → Loads spi chip (golden_area update_place chip) golden_at false
  spi_off_loads off = record { itself = itself; reading = reading; whole = whole }
    where
      golden_area_law : List ℕ
      golden_area_law = golden_area update_place chip

      itself : LoadsAlone spi golden_area_law
      itself = formed.golden

      fits : golden_at + itself.end ≤ length chip
      fits =
          let r = room in
          let e : itself.end ≤ length golden_area_law = ends_within golden_area_law 0 itself.sync itself.end itself.writes false itself.reading in
          let l : length golden_area_law ≡ update_place - golden_at = span_length chip golden_at (update_place - golden_at) (omega arith) in
          omega arith

      stands : (i : ℕ) → 0 ≤ i → i < itself.end → get_or chip (golden_at + i) 0 ≡ get_or golden_area_law i 0
      stands i a b =
          let r = room in
          let e : itself.end ≤ length golden_area_law = ends_within golden_area_law 0 itself.sync itself.end itself.writes false itself.reading in
          let l : length golden_area_law ≡ update_place - golden_at = span_length chip golden_at (update_place - golden_at) (omega arith) in
          sym (span_at chip golden_at (update_place - golden_at) i (omega arith))

      reading : read_chip chip ≡ Loaded (golden_at + itself.sync) (golden_at + itself.end) itself.writes false
      reading =
          search_past 1 false chip 0 golden_at (let l = long in omega arith) (none_off off)
          ∙ placed golden_area_law chip golden_at 0 itself.sync itself.end itself.writes false itself.reading fits stands 1 false

      whole : contents (listed chip (read_chip chip)) ≡ contents (listed golden_area_law (read_alone golden_area_law))
      whole = rw (reading, itself.reading) (placed_contents golden_area_law chip golden_at 0 itself.sync itself.end itself.writes false itself.reading fits stands false)

  -- The words of segment 1.
  word_by : (p a b c d : ℕ) → p + 4 ≤ length chip → get_or chip p 0 ≡ a → get_or chip (p + 1) 0 ≡ b → get_or chip (p + 2) 0 ≡ c → get_or chip (p + 3) 0 ≡ d → word_at chip p ≡ (a * 256 + b) * 65536 + (c * 256 + d)
  word_by p a b c d l e₀ e₁ e₂ e₃ = word_of_law chip p l ∙ rw (e₀, e₁, e₂, e₃) refl

  warm_boot_words : (word_at chip 4096 ≡ 0x30020001) × (word_at chip 4100 ≡ update_place) × (word_at chip 4104 ≡ 0x30008001) × (word_at chip 4108 ≡ 0x0000000F)
  unfolding spi_warm_boot
  warm_boot_words =
      let l = long in (
        word_by 4096 0x30 0x02 0x00 0x01 (omega arith) (formed.words 0 (omega arith)) (formed.words 1 (omega arith)) (formed.words 2 (omega arith)) (formed.words 3 (omega arith)),
        word_by 4100 (update_place / 2 ^ 24 % 256) (update_place / 2 ^ 16 % 256) (update_place / 2 ^ 8 % 256) (update_place % 256) (omega arith) (formed.words 4 (omega arith)) (formed.words 5 (omega arith)) (formed.words 6 (omega arith)) (formed.words 7 (omega arith))
            ∙ bytes_word update_place (let s = short in omega arith),
        word_by 4104 0x30 0x00 0x80 0x01 (omega arith) (formed.words 8 (omega arith)) (formed.words 9 (omega arith)) (formed.words 10 (omega arith)) (formed.words 11 (omega arith)),
        word_by 4108 0x00 0x00 0x00 0x0F (omega arith) (formed.words 12 (omega arith)) (formed.words 13 (omega arith)) (formed.words 14 (omega arith)) (formed.words 15 (omega arith)),
      )

  -- A well-formed chip that is ON loads the image at U, after a jump.
  pub spi_on_loads : (image : List ℕ) → spi.is_on (switch_word chip) ≡ true → LoadsAlone spi image → ContainsAt chip update_place image → Loads spi chip image update_place true
  spi_on_loads image on itself stands = record { itself = itself; reading = reading; whole = whole }
    where
      within : itself.end ≤ length image
      within = ends_within image 0 itself.sync itself.end itself.writes false itself.reading

      fits : update_place + itself.end ≤ length chip
      fits = let f = stands.fits in omega (arith, within)

      same : (i : ℕ) → 0 ≤ i → i < itself.end → get_or chip (update_place + i) 0 ≡ get_or image i 0
      same i a b = stands.same i (omega (arith, within))

      jumped : read_chip chip ≡ read_from 0 true chip update_place
      jumped =
          let l = long in
          let w = warm_boot_words in
          jumps_to 0 false chip 0 switch_at update_place none_before (on_bytes chip on) (omega arith) w.0 w.1 w.2 w.3 room.2 (let s = short in omega arith)

      reading : read_chip chip ≡ Loaded (update_place + itself.sync) (update_place + itself.end) itself.writes true
      reading = jumped ∙ rw (add-zero update_place) at (placed image chip update_place 0 itself.sync itself.end itself.writes false itself.reading fits same 0 true)

      whole : contents (listed chip (read_chip chip)) ≡ contents (listed image (read_alone image))
      whole = rw (reading, itself.reading) (placed_contents image chip update_place 0 itself.sync itself.end itself.writes false itself.reading fits same true)

-- The SPI kind keeps the laws of a kind.
pub spi_lawful : SpiLawful
unfolding begins_with
spi_lawful = record {
  four = refl;
  byte = λ i h. go i h;
  on_on = refl;
  erased_off = refl;
  alone_stays = alone_stays;
  stays_off = spi_stays_off;
  off_loads = spi_off_loads;
  on_loads = λ update_place chip image formed. spi_on_loads update_place chip formed image;
}
  where
    go : (i : ℕ) → i < 4 → get_or spi_on i 0 < 256
    go zero h = omega arith
    go (suc zero) h = omega arith
    go (suc (suc zero)) h = omega arith
    go (suc (suc (suc zero))) h = omega arith
    go (suc (suc (suc (suc i)))) h = absurd (omega arith)
