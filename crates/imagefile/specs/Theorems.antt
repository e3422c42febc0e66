-- What is proved of files with an image: that the image told of lies within the file, that a BIT file gives its image, and that no text has a sync word.
use Rattle.std.specs.Prelude.{ℕ, ◌+◌, ◌/◌, ◌%◌, ◌^◌, ◌<◌, ◌≤◌, ◌≡◌, List, ◌∷◌, ◌++◌, length, take, drop, None, Ok}
use Rattle.framing.specs.Search.{find}
use Rattle.framing.specs.Words.{bytes_of}
use Rattle.imagefile.specs.Imagefile.{bit_start, image_letter, form_answer}
use Rattle.imagefile.specs.Types.{FormText, FormBit}

-- The image of a BIT file lies within the file, after its first 13 bytes and the heads of five fields.
abbrev pub BitInside : Type 0
BitInside = (file : List ℕ) (first count : ℕ) → form_answer file ≡ Ok (FormBit first count) → (30 ≤ first) × (first + count ≤ length file)

-- A field as it is written, and the image's.
abbrev pub field_of : ℕ → List ℕ → List ℕ
field_of letter content = letter ∷ length content / 256 % 256 ∷ length content % 256 ∷ content

abbrev pub image_field_of : List ℕ → List ℕ
image_field_of image = image_letter ∷ bytes_of (length image) ++ image

-- A BIT file with these contents and this image, and with any bytes after it.
abbrev pub bit_file : List ℕ → List ℕ → List ℕ → List ℕ → List ℕ → List ℕ → List ℕ
bit_file a b c d image rest = bit_start ++ (field_of 0x61 a ++ (field_of 0x62 b ++ (field_of 0x63 c ++ (field_of 0x64 d ++ (image_field_of image ++ rest)))))

-- A file that gives an image: it is told as a BIT file, and the image is what is at the place told, as long as told.
pub record GivesImage (file image : List ℕ) : Type 0 where
  pub first : ℕ
  pub told : form_answer file ≡ Ok (FormBit first (length image))
  pub same : take (length image) (drop first file) ≡ image

-- Every BIT file gives its image, whatever its fields contain and whatever comes after it.
abbrev pub BitFile : Type 0
BitFile =
    (a b c d image rest : List ℕ) → length a < 65536 → length b < 65536 → length c < 65536 → length d < 65536 → length image < 2 ^ 32 →
    GivesImage (bit_file a b c d image rest) image

-- What is told as text has no sync word: so no image that loads anything is taken for text.
abbrev pub TextHasNoSync : Type 0
TextHasNoSync = (file : List ℕ) → form_answer file ≡ Ok FormText → find file 0 ≡ None
