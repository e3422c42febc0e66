-- Laws of a file: the reader takes the texts of files, each to its image, and no others.
use Prim.Native.Nat.{ℕ, ◌+◌, ◌*◌, ◌/◌, ◌%◌, ◌≤◌}
use mathlib.Core.Path.{◌≡◌, refl, sym, ap, ap₂, ◌∙◌}
use mathlib.Core.Bool.{Bool, true, false}
use mathlib.Core.List.{List, [], ◌∷◌, ◌++◌}
use native.Mathlib.Omega.{arith}
use borrow.Author.Tests.{eqb-true, eq-eqb, le-leb, leb-true}
use lib.Dec.{eqb}
use lib.ListN.{length, length-append}
use Rattle.base.proofs.Laws.{false_true}
use Rattle.base.specs.Question.{ask}
use Rattle.digits.specs.Digit.{hex}
use Rattle.mcsline.specs.Record.{LF, CR, COLON, Ending, Lf, CrLf, ending_text, line_text, Record, Data, ExtendedLinearAddress, End, pairs_of, Line, Row, record_text, AllBytes, Fit}
use Rattle.mcsline.specs.Line.{Parsed, parsed}
use Rattle.mcsline.proofs.Laws.{not_lf, pairs_bytes, text_parsed, parsed_text, record_room}
use Rattle.mcs.specs.Text.{file_text, FileFrom, FileOf}
use Rattle.mcs.specs.Reading.{follows, prepend, lines_of, is_empty, Reading, read_lines, read_text}
use Rattle.mcs.specs.Theorems.{TextLength}
use Rattle.mcs.proofs.LinesLaws.{lines_none, lines_lf, lines_on, before_line}
use Rattle.mcs.proofs.ReadingLaws.{read_none, read_refused, read_apart, read_data, read_upper, read_end, read_more, none_none, none_some}
use Rattle.mcs.proofs.FillLaws.{refused_holds}
use Rattle.std.specs.Prelude.{Ok, Err}

-- A text's lines and the text.

lines_ending : (e : Ending) (rest : List ℕ) → lines_of (ending_text e ++ rest) ≡ ending_text e ∷ lines_of rest
unfolding ending_text
lines_ending Lf rest = lines_lf LF rest refl
lines_ending CrLf rest = lines_on CR (LF ∷ rest) refl ∙ ap (prepend CR) (lines_lf LF rest refl) ∙ before_line CR (LF ∷ []) (lines_of rest)

-- a character before a first line
lines_before : (c : ℕ) (line rest : List ℕ) → eqb c LF ≡ false → lines_of (line ++ rest) ≡ line ∷ lines_of rest → lines_of (c ∷ line ++ rest) ≡ (c ∷ line) ∷ lines_of rest
lines_before c line rest h e = lines_on c (line ++ rest) h ∙ ap (prepend c) e ∙ before_line c line (lines_of rest)

lines_hex : (ps : List ℕ) (e : Ending) (rest : List ℕ) → AllBytes ps → lines_of ((hex ps ++ ending_text e) ++ rest) ≡ (hex ps ++ ending_text e) ∷ lines_of rest
unfolding hex AllBytes
lines_hex [] e rest h = lines_ending e rest
lines_hex (p ∷ ps) e rest h =
    lines_before _ (_ ∷ hex ps ++ ending_text e) rest (not_lf (p / 16) (omega arith))
    (lines_before _ (hex ps ++ ending_text e) rest (not_lf (p % 16) (omega arith)) (lines_hex ps e rest h.1))

lines_record : (r : Record) (e : Ending) (rest : List ℕ) → Fit r → lines_of (record_text (Row r e) ++ rest) ≡ record_text (Row r e) ∷ lines_of rest
unfolding record_text line_text
lines_record r e rest h = lines_before COLON (hex (pairs_of r) ++ ending_text e) rest refl (lines_hex (pairs_of r) e rest (pairs_bytes r h))

unfoldable pub joined : List (List ℕ) → List ℕ
joined [] = []
joined (line ∷ lines) = line ++ joined lines

joined_before : (c : ℕ) (lines : List (List ℕ)) → joined (prepend c lines) ≡ c ∷ joined lines
unfolding joined prepend
joined_before c [] = refl
joined_before c (line ∷ lines) = refl

pub joined_lines : (text : List ℕ) → joined (lines_of text) ≡ text
unfolding joined
joined_lines [] = ap joined lines_none
joined_lines (c ∷ cs) = go (eqb c LF) refl (joined_lines cs)
  where
    go : (b : Bool) → eqb c LF ≡ b → joined (lines_of cs) ≡ cs → joined (lines_of (c ∷ cs)) ≡ c ∷ cs
    go true h ih = ap joined (lines_lf c cs h) ∙ ap (λ (l : List ℕ). c ∷ l) ih
    go false h ih = ap joined (lines_on c cs h) ∙ joined_before c (lines_of cs) ∙ ap (λ (l : List ℕ). c ∷ l) ih

-- The text of a file holds its image.

follows_true : (half address next count : ℕ) → half * 65536 + address ≡ next → address + count ≤ 65536 → follows half address next count ≡ true
unfolding follows ask
follows_true half address next count e h = rw (eq-eqb _ _ e) (le-leb (address + count) 65536 h)

true_follows : (half address next count : ℕ) → follows half address next count ≡ true → (half * 65536 + address ≡ next) × (address + count ≤ 65536)
unfolding follows ask
true_follows half address next count e = go (eqb (half * 65536 + address) next) refl
  where
    go : (b : Bool) → eqb (half * 65536 + address) next ≡ b → (half * 65536 + address ≡ next) × (address + count ≤ 65536)
    go true h = (eqb-true _ _ h, leb-true _ _ (rw h at e))
    go false h = absurd (false_true (rw h at e))

pub lines_file : (r : Record) (e : Ending) (lines : List Line) → Fit r → lines_of (file_text (Row r e ∷ lines)) ≡ record_text (Row r e) ∷ lines_of (file_text lines)
unfolding file_text
lines_file r e lines h = lines_record r e (file_text lines) h

pub no_file : lines_of (file_text []) ≡ []
unfolding file_text
no_file = lines_none

pub fit_end : Fit End
unfolding Fit
fit_end = tt

pub file_reads : (lines : List Line) (place half : ℕ) (image whole : List ℕ) → FileFrom half image lines whole → read_lines (lines_of (file_text lines)) place half image ≡ Ok whole
unfolding FileFrom
file_reads [] place half image whole h = absurd h
file_reads (Row (Data address bytes) e ∷ lines) place half image whole h =
    let l = lines_of (file_text lines) in
    let t = record_text (Row (Data address bytes) e) in
    rw (lines_file (Data address bytes) e lines h.0)
    (read_data t l place half image address bytes (text_parsed (Data address bytes) e h.0) (follows_true half address (length image) (length bytes) h.1 h.2)
    ∙ file_reads lines (place + length t) half (image ++ bytes) whole h.3)
file_reads (Row (ExtendedLinearAddress upper) e ∷ lines) place half image whole h =
    let l = lines_of (file_text lines) in
    let t = record_text (Row (ExtendedLinearAddress upper) e) in
    rw (lines_file (ExtendedLinearAddress upper) e lines h.0)
    (read_upper t l place half image upper (text_parsed (ExtendedLinearAddress upper) e h.0) ∙ file_reads lines (place + length t) upper image whole h.1)
file_reads (Row End e ∷ lines) place half image whole h =
    rw (lines_file End e lines fit_end)
    (read_end (record_text (Row End e)) (lines_of (file_text lines)) place half image (text_parsed End e fit_end) (ap (λ (l : List Line). is_empty (lines_of (file_text l))) h.0 ∙ ap is_empty no_file ∙ none_none)
    ∙ ap Ok h.1)

-- A text that holds an image is that of a file of it.

abbrev Written : ℕ → List ℕ → List (List ℕ) → List ℕ → Type 0
Written half image texts whole = (lines : List Line) × ((joined texts ≡ file_text lines) × FileFrom half image lines whole)

pub no_lines_left : (texts : List (List ℕ)) → is_empty texts ≡ true → texts ≡ []
no_lines_left [] e = refl
no_lines_left (text ∷ texts) e = absurd (false_true (sym (none_some text texts) ∙ e))

pub joined_none : joined [] ≡ file_text []
unfolding joined file_text
joined_none = refl

pub written_more : (text : List ℕ) (texts : List (List ℕ)) (row : Line) (lines : List Line) → text ≡ record_text row → joined texts ≡ file_text lines → joined (text ∷ texts) ≡ file_text (row ∷ lines)
unfolding joined file_text
written_more text texts row lines e f = ap₂ ◌++◌ e f

pub reads_file : (texts : List (List ℕ)) (place half : ℕ) (image whole : List ℕ) → read_lines texts place half image ≡ Ok whole → Written half image texts whole
unfolding FileFrom
reads_file [] place half image whole e = absurd (refused_holds (sym (read_none place half image) ∙ e))
reads_file (text ∷ texts) place half image whole e = go (parsed text) refl (λ upper longer. reads_file texts (place + length text) upper longer whole)
  where
    rule : (b : Bool) (address : ℕ) (bytes : List ℕ) → parsed text ≡ Ok (Data address bytes) → follows half address (length image) (length bytes) ≡ b →
        ((upper : ℕ) (longer : List ℕ) → read_lines texts (place + length text) upper longer ≡ Ok whole → Written upper longer texts whole) → Written half image (text ∷ texts) whole
    rule true address bytes p f ih =
        let w : Written half (image ++ bytes) texts whole = ih half (image ++ bytes) (sym (read_data text texts place half image address bytes p f) ∙ e) in
        let t : (x : Ending) × ((text ≡ record_text (Row (Data address bytes) x)) × Fit (Data address bytes)) = parsed_text text (Data address bytes) p in
        let a : (half * 65536 + address ≡ length image) × (address + length bytes ≤ 65536) = true_follows half address (length image) (length bytes) f in
        (Row (Data address bytes) t.0 ∷ w.0, (written_more text texts (Row (Data address bytes) t.0) w.0 t.1.0 w.1.0, (t.1.1, a.0, a.1, w.1.1)))
    rule false address bytes p f ih = absurd (refused_holds (sym (read_apart text texts place half image address bytes p f) ∙ e))

    last : (b : Bool) → parsed text ≡ Ok End → is_empty texts ≡ b → Written half image (text ∷ texts) whole
    last true p f =
        let t : (x : Ending) × ((text ≡ record_text (Row End x)) × Fit End) = parsed_text text End p in
        let h : ◌≡◌ {A = Reading} (Ok image) (Ok whole) = sym (read_end text texts place half image p f) ∙ e in
        let g : image ≡ whole = cc in
        let n : joined texts ≡ file_text [] = ap joined (no_lines_left texts f) ∙ joined_none in
        (Row End t.0 ∷ [], (written_more text texts (Row End t.0) [] t.1.0 n, (refl, g)))
    last false p f = absurd (refused_holds (sym (read_more text texts place half image p f) ∙ e))

    go : (p : Parsed) → parsed text ≡ p → ((upper : ℕ) (longer : List ℕ) → read_lines texts (place + length text) upper longer ≡ Ok whole → Written upper longer texts whole) → Written half image (text ∷ texts) whole
    go (Err reason) p ih = absurd (refused_holds (sym (read_refused text texts place half image reason p) ∙ e))
    go (Ok (Data address bytes)) p ih = rule (follows half address (length image) (length bytes)) address bytes p refl ih
    go (Ok (ExtendedLinearAddress upper)) p ih =
        let w : Written upper image texts whole = ih upper image (sym (read_upper text texts place half image upper p) ∙ e) in
        let t : (x : Ending) × ((text ≡ record_text (Row (ExtendedLinearAddress upper) x)) × Fit (ExtendedLinearAddress upper)) = parsed_text text (ExtendedLinearAddress upper) p in
        (Row (ExtendedLinearAddress upper) t.0 ∷ w.0, (written_more text texts (Row (ExtendedLinearAddress upper) t.0) w.0 t.1.0 w.1.0, (t.1.1, w.1.1)))
    go (Ok End) p ih = last (is_empty texts) p refl

-- THE READER AND THE FORMAT: the text of a file of an image holds the image, and a text that holds an image is that of a file of it.

pub file_holds : (lines : List Line) (image : List ℕ) → FileOf lines image → read_text (file_text lines) ≡ Ok image
file_holds lines image h = file_reads lines 0 0 [] image h

pub holds_file : (text image : List ℕ) → read_text text ≡ Ok image → (lines : List Line) × ((text ≡ file_text lines) × FileOf lines image)
holds_file text image e =
    let w : Written 0 [] (lines_of text) image = reads_file (lines_of text) 0 0 [] image e in
    (w.0, (sym (joined_lines text) ∙ w.1.0, w.1.1))

-- ROOM: a text has two characters and more for each byte of the image it holds.

file_room : (lines : List Line) (half : ℕ) (image whole : List ℕ) → FileFrom half image lines whole → 2 * length whole ≤ 2 * length image + length (file_text lines)
unfolding FileFrom file_text
file_room [] half image whole h = absurd h
file_room (Row (Data address bytes) e ∷ lines) half image whole h =
    let more = file_room lines half (image ++ bytes) whole h.3 in
    let a = length-append image bytes in
    let b = length-append (record_text (Row (Data address bytes) e)) (file_text lines) in
    let c = record_room address bytes e in
    omega arith
file_room (Row (ExtendedLinearAddress upper) e ∷ lines) half image whole h =
    let more = file_room lines upper image whole h.1 in
    let b = length-append (record_text (Row (ExtendedLinearAddress upper) e)) (file_text lines) in
    omega arith
file_room (Row End e ∷ lines) half image whole h = let same : length image ≡ length whole = ap (λ (l : List ℕ). length l) h.1 in omega arith

pub holds_room : TextLength
holds_room text image e =
    let w = holds_file text image e in
    let long : length text ≡ length (file_text w.0) = ap (λ (l : List ℕ). length l) w.1.0 in
    let room : 2 * length image ≤ 2 * 0 + length (file_text w.0) = file_room w.0 0 [] image w.1.1 in
    omega arith
