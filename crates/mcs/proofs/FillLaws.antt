-- Laws of the second pass: a text that holds an image for which there is room is written to its end.
use Prim.Native.Nat.{ℕ, ◌+◌, ◌<◌, ◌≤◌}
use mathlib.Core.Path.{◌≡◌, refl, sym, ap, ap₂, ◌∙◌}
use mathlib.Core.Bool.{Bool, true, false}
use mathlib.Core.List.{List, [], ◌∷◌, ◌++◌}
use native.Mathlib.Omega.{arith}
use borrow.Author.Tests.{ltb-true, ltb-false}
use lib.Dec.{ltb}
use lib.ListN.{length, drop, length-append, length-drop}
use lib.Seq.{paste, take_at, take-length, drop-append-add, drop-drop}
use Rattle.base.proofs.Laws.{front_fits}
use Rattle.digits.specs.Pairs.{ArePairs, pairs_at}
use Rattle.mcsline.specs.Record.{Data, ExtendedLinearAddress, End}
use Rattle.mcsline.specs.Line.{Parsed, parsed}
use Rattle.mcsline.specs.Place.{line_at, Sound}
use Rattle.mcs.specs.Types.{Refusal, CodeLine, DataLine, ExtendedLinearAddressLine, EndLine}
use Rattle.mcsline.proofs.Laws.{after, DataAt, Told, told_bytes, told_data, told_upper, told_end}
use Rattle.mcs.specs.Reading.{follows, is_empty, Reading, read_lines, read_text}
use Rattle.mcs.specs.Reader.{held_output}
use Rattle.mcs.specs.Passes.{Fits}
use Rattle.mcs.proofs.ReadingLaws.{read_at, read_none, read_refused, read_apart, read_data, read_upper, read_end, read_more, at_none, at_refused, at_apart, at_data, at_upper, at_end, at_more}
use Rattle.std.specs.Prelude.{Ok, Err}

pub refused_holds : {refusal : Refusal} {image : List ℕ} → ◌≡◌ {A = Reading} (Err refusal) (Ok image) → ⊥
refused_holds e = cc

pub fits_holds : (r : Reading) (room : ℕ) → Fits r room → (whole : List ℕ) × ((r ≡ Ok whole) × (length whole ≤ room))
unfolding Fits
fits_holds (Ok image) room h = (image, (refl, h))
fits_holds (Err refusal) room h = absurd h

pub holds_filled : (whole before : List ℕ) → length whole ≤ length before → held_output (Ok whole) before ≡ whole ++ drop (length whole) before
unfolding held_output
holds_filled whole before h = front_fits whole before h

-- a reading only adds to the image
abbrev Grows : List (List ℕ) → ℕ → List ℕ → Type 0
Grows lines place whole = (half : ℕ) (image : List ℕ) → read_lines lines place half image ≡ Ok whole → length image ≤ length whole

pub grows : (lines : List (List ℕ)) (place half : ℕ) (image whole : List ℕ) → read_lines lines place half image ≡ Ok whole → length image ≤ length whole
grows [] place half image whole e = absurd (refused_holds (sym (read_none place half image) ∙ e))
grows (line ∷ lines) place half image whole e = go (parsed line) refl (λ upper longer. grows lines (place + length line) upper longer whole)
  where
    by_rule : Grows lines (place + length line) whole → (b : Bool) (address : ℕ) (bytes : List ℕ) → parsed line ≡ Ok (Data address bytes) → follows half address (length image) (length bytes) ≡ b → length image ≤ length whole
    by_rule ih true address bytes p f =
        let h : length (image ++ bytes) ≤ length whole = ih half (image ++ bytes) (sym (read_data line lines place half image address bytes p f) ∙ e) in
        let l : length (image ++ bytes) ≡ length image + length bytes = length-append image bytes in omega arith
    by_rule ih false address bytes p f = absurd (refused_holds (sym (read_apart line lines place half image address bytes p f) ∙ e))

    by_none : (b : Bool) → parsed line ≡ Ok End → is_empty lines ≡ b → length image ≤ length whole
    by_none true p f = let h : ◌≡◌ {A = Reading} (Ok image) (Ok whole) = sym (read_end line lines place half image p f) ∙ e in let g : image ≡ whole = cc in rw g (omega arith)
    by_none false p f = absurd (refused_holds (sym (read_more line lines place half image p f) ∙ e))

    go : (p : Parsed) → parsed line ≡ p → Grows lines (place + length line) whole → length image ≤ length whole
    go (Err reason) p ih = absurd (refused_holds (sym (read_refused line lines place half image reason p) ∙ e))
    go (Ok (Data address bytes)) p ih = by_rule ih (follows half address (length image) (length bytes)) address bytes p refl
    go (Ok (ExtendedLinearAddress upper)) p ih = ih upper image (sym (read_upper line lines place half image upper p) ∙ e)
    go (Ok End) p ih = by_none (is_empty lines) p refl

-- bytes put in after the image so far
pasted : (image bytes before out pairs : List ℕ) (next count : ℕ) → length image ≡ next → length bytes ≡ count → out ≡ image ++ drop next before → pairs ≡ bytes →
    paste out next pairs count ≡ (image ++ bytes) ++ drop (next + count) before
pasted image bytes before out pairs next count n l o p =
    rw (o, p, ← n, ← l)
    (ap₂ ◌++◌
    (ap₂ ◌++◌ (take_at image (drop (length image) before) (length image) refl) (take-length bytes))
    (drop-append-add image (drop (length image) before) (length bytes) ∙ drop-drop (length bytes) (length image) before))

-- The lines before a place are written: the buffer holds their image, and after it what it held before.
pub record Filled (text before out : List ℕ) (at next : ℕ) : Type 0 where
  pub half : ℕ
  pub image : List ℕ
  pub long : length image ≡ next
  pub reads : read_at text at half image ≡ read_text text
  pub held : out ≡ image ++ drop next before

module _ {text before out : List ℕ} {at next : ℕ} (filled : Filled text before out at next) (fits : Fits (read_text text) (length before)) where
  whole_of : (whole : List ℕ) × ((read_text text ≡ Ok whole) × (length whole ≤ length before))
  whole_of = fits_holds (read_text text) (length before) fits

  holds : read_at text at filled.half filled.image ≡ Ok whole_of.0
  holds = filled.reads ∙ whole_of.1.0

  fill_room : next ≤ length before
  fill_room =
      let g : length filled.image ≤ length whole_of.0 = grows _ at filled.half filled.image whole_of.0 holds in
      let l : length whole_of.0 ≤ length before = whole_of.1.1 in
      omega (arith, filled.long)

  pub fill_length : length out ≡ length before
  fill_length =
      let r : next ≤ length before = fill_room in
      ap (λ (l : List ℕ). length l) filled.held ∙ length-append filled.image (drop next before) ∙ rw (filled.long, length-drop) (omega arith)

  pub fill_none : length text ≤ at → ⊥
  fill_none h = refused_holds (sym (at_none text at filled.half filled.image h) ∙ holds)

  module _ (inside : at < length text) where
    pub fill_sound : Sound (line_at text at)
    fill_sound reason e = refused_holds (sym (at_refused text at filled.half filled.image inside reason e) ∙ holds)

  module _ {line : CodeLine} (told : Told text at line) where
    pub fill_upper : {upper end : ℕ} → line ≡ ExtendedLinearAddressLine upper end → Filled text before out end next
    fill_upper {upper} {end} e =
        let l = told_upper told e in
        record { half = upper; image = filled.image; long = filled.long; reads = rw l.1 at (sym (at_upper text at filled.half filled.image told.inside upper l.0) ∙ filled.reads); held = filled.held }

    pub fill_end : {end : ℕ} → line ≡ EndLine end → out ≡ held_output (read_text text) before
    fill_end {end} e = go (ltb (after text at) (length text)) refl
      where
        last : parsed (line_at text at) ≡ Ok End
        last = (told_end told e).0

        go : (b : Bool) → ltb (after text at) (length text) ≡ b → out ≡ held_output (read_text text) before
        go true h = absurd (refused_holds (sym (at_more text at filled.half filled.image told.inside last (ltb-true _ _ h)) ∙ holds))
        go false h =
            let q : read_text text ≡ Ok filled.image = sym filled.reads ∙ at_end text at filled.half filled.image told.inside last (ltb-false _ _ h) in
            let r : length filled.image ≤ length before = rw filled.long fill_room in
            filled.held ∙ rw q (sym (holds_filled filled.image before r ∙ rw filled.long refl))

    module _ {address count end : ℕ} (e : line ≡ DataLine address count end) where
      bytes_of : (bytes : List ℕ) × ((parsed (line_at text at) ≡ Ok (Data address bytes)) × (length bytes ≡ count) × (after text at ≡ end))
      bytes_of = told_bytes told e

      here : DataAt text at bytes_of.0
      unfolding bytes_of
      here = told_data told e

      pub fill_pairs : ArePairs text (at + 9) count
      fill_pairs = rw bytes_of.1.1 at here.pairs

      -- the address rule was asked by the first pass
      ruled : read_at text (after text at) filled.half (filled.image ++ bytes_of.0) ≡ read_text text
      ruled = go (follows filled.half address (length filled.image) (length bytes_of.0)) refl
        where
          go : (b : Bool) → follows filled.half address (length filled.image) (length bytes_of.0) ≡ b → read_at text (after text at) filled.half (filled.image ++ bytes_of.0) ≡ read_text text
          go true f = sym (at_data text at filled.half filled.image told.inside address bytes_of.0 bytes_of.1.0 f) ∙ filled.reads
          go false f = absurd (refused_holds (sym (at_apart text at filled.half filled.image told.inside address bytes_of.0 bytes_of.1.0 f) ∙ holds))

      pub fill_data : Filled text before (paste out next (pairs_at text (at + 9) count) count) end (next + count)
      fill_data =
          let l : length bytes_of.0 ≡ count = bytes_of.1.1 in
          let p : pairs_at text (at + 9) count ≡ bytes_of.0 = rw l at (sym here.are) in
          record {
            half = filled.half;
            image = filled.image ++ bytes_of.0;
            long = length-append filled.image bytes_of.0 ∙ ap₂ ◌+◌ filled.long l;
            reads = rw bytes_of.1.2 at ruled;
            held = pasted filled.image bytes_of.0 before out (pairs_at text (at + 9) count) next count filled.long l filled.held p;
          }

      pub fill_fits : next + count ≤ length before
      fill_fits =
          let g : length (filled.image ++ bytes_of.0) ≤ length whole_of.0 = grows _ (after text at) filled.half (filled.image ++ bytes_of.0) whole_of.0 (ruled ∙ whole_of.1.0) in
          let a : length (filled.image ++ bytes_of.0) ≡ length filled.image + length bytes_of.0 = length-append filled.image bytes_of.0 in
          let w : length whole_of.0 ≤ length before = whole_of.1.1 in
          let l : length bytes_of.0 ≡ count = bytes_of.1.1 in
          omega (arith, filled.long)
