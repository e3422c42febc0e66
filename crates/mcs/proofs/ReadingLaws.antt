-- Laws of a whole text: what one line adds to a reading, by the line's place.
use Prim.Native.Nat.{ℕ, ◌+◌, ◌<◌, ◌≤◌}
use mathlib.Core.Path.{◌≡◌, refl, sym, ap, ap₂, ◌∙◌}
use mathlib.Core.Bool.{true, false}
use mathlib.Core.List.{List, [], ◌∷◌, ◌++◌}
use lib.ListN.{length, length-append, drop, drop_of_length-le}
use Rattle.base.specs.Question.{ask}
use Rattle.mcsline.specs.Record.{Data, ExtendedLinearAddress, End}
use Rattle.mcsline.specs.Line.{parsed, by_parsed}
use Rattle.mcsline.specs.Place.{line_at, as_line}
use Rattle.mcs.specs.Types.{Reason, Refusal, BadAddress, BadEnd, CodeLine, DataLine, ExtendedLinearAddressLine, EndLine}
use Rattle.mcsline.proofs.Laws.{after, line_refused, Told, told_bytes, told_upper, told_end}
use Rattle.mcs.specs.Passes.{size_of}
use Rattle.mcs.specs.Reading.{follows, lines_of, is_empty, Reading, read_lines, read_text}
use Rattle.mcs.proofs.LinesLaws.{lines_none, line_first}
use Rattle.std.specs.Prelude.{Result, Ok, Err}
use Rattle.base.specs.Refusal.{refused}

-- One line more.

pub read_none : (place half : ℕ) (image : List ℕ) → read_lines [] place half image ≡ refused BadEnd place
unfolding read_lines
read_none place half image = refl

module _ (line : List ℕ) (lines : List (List ℕ)) (place half : ℕ) (image : List ℕ) where
  pub read_refused : (reason : Reason) → parsed line ≡ Err reason → read_lines (line ∷ lines) place half image ≡ refused reason place
  unfolding read_lines by_parsed
  read_refused reason e = rw e refl

  pub read_apart : (address : ℕ) (bytes : List ℕ) → parsed line ≡ Ok (Data address bytes) → follows half address (length image) (length bytes) ≡ false → read_lines (line ∷ lines) place half image ≡ refused BadAddress place
  unfolding read_lines by_parsed ask
  read_apart address bytes e f = rw e (rw f refl)

  pub read_data : (address : ℕ) (bytes : List ℕ) → parsed line ≡ Ok (Data address bytes) → follows half address (length image) (length bytes) ≡ true → read_lines (line ∷ lines) place half image ≡ read_lines lines (place + length line) half (image ++ bytes)
  unfolding read_lines by_parsed ask
  read_data address bytes e f = rw e (rw f refl)

  pub read_upper : (upper : ℕ) → parsed line ≡ Ok (ExtendedLinearAddress upper) → read_lines (line ∷ lines) place half image ≡ read_lines lines (place + length line) upper image
  unfolding read_lines by_parsed
  read_upper upper e = rw e refl

  pub read_end : parsed line ≡ Ok End → is_empty lines ≡ true → read_lines (line ∷ lines) place half image ≡ Ok image
  unfolding read_lines by_parsed ask
  read_end e f = rw e (rw f refl)

  pub read_more : parsed line ≡ Ok End → is_empty lines ≡ false → read_lines (line ∷ lines) place half image ≡ refused BadEnd (place + length line)
  unfolding read_lines by_parsed ask
  read_more e f = rw e (rw f refl)

pub none_none : is_empty [] ≡ true
unfolding is_empty
none_none = refl

pub none_some : (line : List ℕ) (lines : List (List ℕ)) → is_empty (line ∷ lines) ≡ false
unfolding is_empty
none_some line lines = refl

-- The same by the line's place in the text.
module _ (text : List ℕ) where
  abbrev pub read_at : ℕ → ℕ → List ℕ → Reading
  read_at at half image = read_lines (lines_of (drop at text)) at half image

  pub lines_end : (at : ℕ) → length text ≤ at → lines_of (drop at text) ≡ []
  lines_end at h = ap lines_of (drop_of_length-le text h) ∙ lines_none

  pub at_none : (at half : ℕ) (image : List ℕ) → length text ≤ at → read_at at half image ≡ refused BadEnd at
  at_none at half image h = rw (lines_end at h) (read_none at half image)

  module _ (at half : ℕ) (image : List ℕ) (inside : at < length text) where
    pub at_refused : (reason : Reason) → parsed (line_at text at) ≡ Err reason → read_at at half image ≡ refused reason at
    at_refused reason e = rw (line_first text at inside) (read_refused (line_at text at) (lines_of (drop (after text at) text)) at half image reason e)

    pub at_apart : (address : ℕ) (bytes : List ℕ) → parsed (line_at text at) ≡ Ok (Data address bytes) → follows half address (length image) (length bytes) ≡ false → read_at at half image ≡ refused BadAddress at
    at_apart address bytes e f = rw (line_first text at inside) (read_apart (line_at text at) (lines_of (drop (after text at) text)) at half image address bytes e f)

    pub at_data : (address : ℕ) (bytes : List ℕ) → parsed (line_at text at) ≡ Ok (Data address bytes) → follows half address (length image) (length bytes) ≡ true → read_at at half image ≡ read_at (after text at) half (image ++ bytes)
    at_data address bytes e f = rw (line_first text at inside) (read_data (line_at text at) (lines_of (drop (after text at) text)) at half image address bytes e f)

    pub at_upper : (upper : ℕ) → parsed (line_at text at) ≡ Ok (ExtendedLinearAddress upper) → read_at at half image ≡ read_at (after text at) upper image
    at_upper upper e = rw (line_first text at inside) (read_upper (line_at text at) (lines_of (drop (after text at) text)) at half image upper e)

    pub at_end : parsed (line_at text at) ≡ Ok End → length text ≤ after text at → read_at at half image ≡ Ok image
    at_end e h = rw (line_first text at inside) (read_end (line_at text at) (lines_of (drop (after text at) text)) at half image e (ap is_empty (lines_end (after text at) h) ∙ none_none))

    pub at_more : parsed (line_at text at) ≡ Ok End → after text at < length text → read_at at half image ≡ refused BadEnd (after text at)
    at_more e h =
        rw (line_first text at inside) (read_more (line_at text at) (lines_of (drop (after text at) text)) at half image e
        (ap is_empty (line_first text (after text at) h) ∙ none_some (line_at text (after text at)) (lines_of (drop (after text (after text at)) text))))

-- A pass over the text: how far it has come, and what the line before it adds.

-- the lines before a place hold an image of so many bytes, and the text reads as from there on
pub record Reached (text : List ℕ) (at half next : ℕ) : Type 0 where
  pub image : List ℕ
  pub long : length image ≡ next
  pub reads : read_at text at half image ≡ read_text text

module _ {text : List ℕ} {at half next : ℕ} (reached : Reached text at half next) where
  pub pass_none : length text ≤ at → size_of (read_text text) ≡ refused BadEnd at
  unfolding size_of
  pass_none h = rw (sym reached.reads ∙ at_none text at half reached.image h) refl

  -- a line that is refused, as the code tells of it
  pub pass_refused : at < length text → {line : Result CodeLine Reason} {answer : Result ℕ Refusal} → line ≡ as_line (parsed (line_at text at)) (after text at) →
      (reason : Reason) × ((line ≡ Err reason) × (answer ≡ refused reason at)) → answer ≡ size_of (read_text text)
  unfolding size_of
  pass_refused inside is told =
      told.1.1 ∙ sym (rw (sym reached.reads ∙ at_refused text at half reached.image inside told.0 (line_refused (parsed (line_at text at)) (after text at) told.0 (sym is ∙ told.1.0))) refl)

  module _ {line : CodeLine} (told : Told text at line) where
    pub pass_upper : {upper end : ℕ} → line ≡ ExtendedLinearAddressLine upper end → Reached text end upper next
    pass_upper {upper} {end} e =
        let l = told_upper told e in
        record { image = reached.image; long = reached.long; reads = rw l.1 at (sym (at_upper text at half reached.image told.inside upper l.0) ∙ reached.reads) }

    pub pass_end : {end : ℕ} → line ≡ EndLine end → length text ≤ end → size_of (read_text text) ≡ Ok next
    unfolding size_of
    pass_end {end} e h =
        let l = told_end told e in
        rw (sym reached.reads ∙ at_end text at half reached.image told.inside l.0 (rw l.1 h)) (ap Ok reached.long)

    pub pass_more : {end : ℕ} → line ≡ EndLine end → end < length text → size_of (read_text text) ≡ refused BadEnd end
    unfolding size_of
    pass_more {end} e h =
        let l = told_end told e in
        rw (sym reached.reads ∙ at_more text at half reached.image told.inside l.0 (rw l.1 h)) (ap (refused BadEnd) l.1)

    module _ {address count end : ℕ} (e : line ≡ DataLine address count end) where
      bytes : (bytes : List ℕ) × ((parsed (line_at text at) ≡ Ok (Data address bytes)) × (length bytes ≡ count) × (after text at ≡ end))
      bytes = told_bytes told e

      pub pass_apart : follows half address next count ≡ false → size_of (read_text text) ≡ refused BadAddress at
      unfolding size_of
      pass_apart f =
          rw (sym reached.reads ∙ at_apart text at half reached.image told.inside address bytes.0 bytes.1.0 (rw (reached.long, bytes.1.1) f)) refl

      pub pass_data : follows half address next count ≡ true → Reached text end half (next + count)
      pass_data f = record {
        image = reached.image ++ bytes.0;
        long = length-append reached.image bytes.0 ∙ ap₂ ◌+◌ reached.long bytes.1.1;
        reads = rw bytes.1.2 at (sym (at_data text at half reached.image told.inside address bytes.0 bytes.1.0 (rw (reached.long, bytes.1.1) f)) ∙ reached.reads);
      }
