-- What is proved of the canonical form, beside the contracts of the calls.
use Rattle.std.specs.Prelude.{ℕ, ◌+◌, ◌%◌, ◌≡◌, true, List, ◌++◌, leb, length, Ok}
use Rattle.base.specs.Output.{front_filled}
use Rattle.base.specs.Question.{ask}
use Rattle.base.specs.Refusal.{refused}
use Rattle.base.specs.declared.refusal.Reason.TheVariants.{NoRoom}
use Rattle.mcsline.specs.Record.{record_text, AllBytes}
use Rattle.mcs.specs.Reading.{read_text}
use Rattle.mcs.specs.Reader.{read_answer, read_output}
use Rattle.canonical.specs.Canonical.{part_text, end_line, canonical_text, canonical_length}
use Rattle.canonical.specs.Rule.{writable, InForm}
use Rattle.canonical.specs.Test.{is_canonical}

-- FOR EACH IMAGE ONE SUCH TEXT EXISTS, and it reads back to the image.
pub record OneText : Type 0 where
  -- The text of an image reads to the image,
  pub holds : (image : List ℕ) → AllBytes image → writable (length image) ≡ true → read_text (canonical_text image) ≡ Ok image
  -- and is in the form;
  pub formed : (image : List ℕ) → AllBytes image → writable (length image) ≡ true → InForm (canonical_text image)
  -- and a text that is in the form and reads to the image is that one.
  pub only : (text image : List ℕ) → InForm text → read_text text ≡ Ok image → text ≡ canonical_text image
  -- Every text that is in the form reads to an image that can be written.
  pub reads : (text : List ℕ) → InForm text → (image : List ℕ) × ((read_text text ≡ Ok image) × (writable (length image) ≡ true))

-- The same in the reader's own answer: the call fills the front of its buffer with the image, or refuses with 19 where there is no room.
pub record ReadBack : Type 0 where
  pub answer : (image buffer : List ℕ) → AllBytes image → writable (length image) ≡ true → read_answer (canonical_text image) buffer ≡ ask (leb (length image) (length buffer)) (refused NoRoom 0) (Ok (length image))
  pub output : (image buffer : List ℕ) → AllBytes image → writable (length image) ≡ true → read_output (canonical_text image) buffer ≡ front_filled image buffer

-- THE TEST says yes exactly of the texts in the form.
pub record TestExact : Type 0 where
  pub says_yes : (text : List ℕ) → InForm text → is_canonical text ≡ true
  pub yes_is : (text : List ℕ) → is_canonical text ≡ true → InForm text

-- The text's length.
abbrev pub TextLong : Type 0
TextLong = (image : List ℕ) → length (canonical_text image) ≡ canonical_length (length image)

-- A TEXT MAY BE WRITTEN IN PARTS that start at multiples of 16.
pub record InParts : Type 0 where
  -- The texts of two parts, one after the other, are the text of both,
  pub join : (at : ℕ) (front back : List ℕ) → length front % 16 ≡ 0 → part_text at (front ++ back) ≡ part_text at front ++ part_text (at + length front) back
  -- and with the end record that of the image.
  pub whole : (image : List ℕ) → canonical_text image ≡ part_text 0 image ++ record_text end_line
