-- The chips that are well-formed, what they load, and the laws of a chip kind. Document 01, "The chip" and "How the configuration reader reads".
use Rattle.std.specs.Prelude.{ℕ, ◌+◌, ◌-◌, ◌<◌, ◌≤◌, ◌≡◌, Bool, true, false, List, length, get_or}
use Rattle.packets.specs.Trace.{contents}
use Rattle.kind.specs.Layout.{chip_length_allowed, segment, switch_at, golden_at, update_place_allowed}
use Rattle.kind.specs.Kind.{Kind}
use Rattle.chip.specs.Types.{Loaded}
use Rattle.flash.specs.Flash.{erased, span, bit}

-- a chip's switch word, and its golden area
abbrev pub switch_word : List ℕ → List ℕ
switch_word chip = span chip switch_at 4

abbrev pub golden_area : ℕ → List ℕ → List ℕ
golden_area update_place chip = span chip golden_at (update_place - golden_at)

-- A word of four bytes that has every 1 bit of another.
pub record BitSuperset (word ones : List ℕ) : Type 0 where
  pub whole : length word ≡ 4
  pub bytes : (i : ℕ) → i < 4 → get_or word i 0 < 256
  pub has : (i : ℕ) → i < 4 → (n : ℕ) → n < 8 → bit n (get_or ones i 0) ≤ bit n (get_or word i 0)

-- An image that a kind's FPGA loads by itself.
pub record LoadsAlone (kind : Kind) (image : List ℕ) : Type 0 where
  pub sync : ℕ
  pub end : ℕ
  pub writes : ℕ
  pub reading : kind.alone image ≡ Loaded sync end writes false

-- A chip loads an image at a place, whole, jumped or not: the list, places apart, is the list of the image read alone.
pub record Loads (kind : Kind) (chip image : List ℕ) (place : ℕ) (jumped : Bool) : Type 0 where
  pub itself : LoadsAlone kind image
  pub reading : kind.reads chip ≡ Loaded (place + itself.sync) (place + itself.end) itself.writes jumped
  pub whole : contents (kind.lists chip (kind.reads chip)) ≡ contents (kind.lists image (kind.alone image))

-- A WELL-FORMED CHIP, whoever built it: segment 0 is FF up to the switch word, which has every 1 bit of ON; segment 1 holds its words for U and then FF; and the golden area by itself loads.
pub record WellFormed (kind : Kind) (update_place : ℕ) (chip : List ℕ) : Type 0 where
  pub long : chip_length_allowed (length chip) ≡ true
  pub room : update_place_allowed (length chip) update_place ≡ true
  pub blank : (i : ℕ) → i < switch_at → get_or chip i 0 ≡ 0xFF
  pub switch : BitSuperset (switch_word chip) kind.on
  pub words : (i : ℕ) → i < segment → get_or chip (segment + i) 0 ≡ get_or (kind.warm_boot update_place) i 0xFF
  pub golden : LoadsAlone kind (golden_area update_place chip)

-- A chip contains an image at a place.
pub record ContainsAt (chip : List ℕ) (place : ℕ) (image : List ℕ) : Type 0 where
  pub fits : place + length image ≤ length chip
  pub same : (i : ℕ) → i < length image → get_or chip (place + i) 0 ≡ get_or image i 0

-- THE LAWS OF A KIND, all that the order list and the argument about cuts need of it.
pub record Lawful (kind : Kind) : Type 0 where
  -- ON has four bytes and is ON; an erased switch word is OFF;
  pub four : length kind.on ≡ 4
  pub byte : (i : ℕ) → i < 4 → get_or kind.on i 0 < 256
  pub on_on : kind.is_on kind.on ≡ true
  pub erased_off : kind.is_on (erased 4) ≡ false
  -- an image that loads by itself does so without a jump;
  pub alone_stays : (image : List ℕ) (sync end writes : ℕ) (jumped : Bool) → kind.alone image ≡ Loaded sync end writes jumped → jumped ≡ false
  -- a word that has every 1 bit of ON and is OFF stays OFF when more bits become 1;
  pub stays_off : (word more : List ℕ) → BitSuperset word kind.on → BitSuperset more word → kind.is_on word ≡ false → kind.is_on more ≡ false
  -- a well-formed chip that is OFF loads its golden area, without a jump;
  pub off_loads : (update_place : ℕ) (chip : List ℕ) → WellFormed kind update_place chip → kind.is_on (switch_word chip) ≡ false → Loads kind chip (golden_area update_place chip) golden_at false
  -- a well-formed chip that is ON loads the image at U, after one.
  pub on_loads : (update_place : ℕ) (chip image : List ℕ) → WellFormed kind update_place chip → kind.is_on (switch_word chip) ≡ true → LoadsAlone kind image → ContainsAt chip update_place image → Loads kind chip image update_place true
