-- Lines that are a file and keep the rules are those that the image's text has: so there is only one text.
use Prim.Native.Nat.{ℕ, ◌+◌, ◌*◌, ◌/◌, ◌%◌, ◌<◌, ◌≤◌}
use mathlib.Core.Path.{◌≡◌, refl, sym, ap, ap₂, ◌∙◌}
use mathlib.Core.Bool.{false}
use mathlib.Core.List.{List, [], ◌∷◌, ◌++◌, append_assoc, append-nil}
use native.Mathlib.Omega.{arith}
use borrow.Author.Tests.{eqb-true, eqb-false}
use lib.ListN.{length, length-append}
use Rattle.base.proofs.Laws.{false_true}
use Rattle.mcsline.specs.Record.{Ending, Data, ExtendedLinearAddress, End, Line, Row, Fit}
use Rattle.mcs.specs.Text.{file_text, FileFrom}
use Rattle.mcs.specs.Reading.{Reading, read_text}
use Rattle.mcs.proofs.Laws.{round_trip}
use Rattle.canonical.specs.Canonical.{upper_line, upper_lines, data_line, part_lines, end_line, canonical_lines, canonical_text}
use Rattle.canonical.specs.Rule.{data_of, AllLf, Sixteens, UppersBefore, InForm}
use Rattle.canonical.proofs.PartLaws.{upper_here, upper_none, part_none, Piece, part_rows}
use Rattle.std.specs.Prelude.{Ok}

-- A file's image is the bytes of its data records.
pub file_data : (lines : List Line) (half : ℕ) (image whole : List ℕ) → FileFrom half image lines whole → whole ≡ image ++ data_of lines
unfolding FileFrom data_of
file_data [] half image whole f = absurd f
file_data (Row (Data address bytes) e ∷ lines) half image whole f = file_data lines half (image ++ bytes) whole f.3 ∙ append_assoc image bytes (data_of lines)
file_data (Row (ExtendedLinearAddress upper) e ∷ lines) half image whole f = file_data lines upper image whole f.1
file_data (Row End e ∷ lines) half image whole f = sym f.1 ∙ sym (append-nil image) ∙ rw f.0 refl

-- A data record that starts where the last ended has the lower half of its place for its address, and the upper half in force is its place's.
address_is : (half address at : ℕ) → half * 65536 + address ≡ at → address < 65536 → address ≡ at % 65536
address_is half address at e h = omega arith

half_is : (half address at : ℕ) → half * 65536 + address ≡ at → address < 65536 → half ≡ at / 65536
half_is half address at e h = omega arith

fit_data : (address : ℕ) (bytes : List ℕ) → Fit (Data address bytes) → (address < 65536) × (1 ≤ length bytes)
unfolding Fit
fit_data address bytes h = (h.0, h.1)

-- A data record, with or without an upper half before it, and lines that are those of their data: together they are those of theirs.
first_rows : (at : ℕ) (bytes : List ℕ) (uppers : List Line) (first : Line) (lines : List Line) → Piece bytes (data_of lines) → upper_lines at ≡ uppers → first ≡ data_line at bytes →
    lines ≡ part_lines (at + length bytes) (data_of lines) ++ end_line ∷ [] → uppers ++ first ∷ lines ≡ part_lines at (bytes ++ data_of lines) ++ end_line ∷ []
first_rows at bytes uppers first lines piece u f rest =
    ap₂ (λ (x : Line) (y : List Line). uppers ++ x ∷ y) f rest
    ∙ ap (λ (x : List Line). x ++ data_line at bytes ∷ (part_lines (at + length bytes) (data_of lines) ++ end_line ∷ [])) (sym u)
    ∙ sym (part_rows at bytes (data_of lines) piece (end_line ∷ []))

only_rows : (lines : List Line) (half at : ℕ) (image whole : List ℕ) → FileFrom half image lines whole → AllLf lines → Sixteens lines → UppersBefore at false lines → length image ≡ at →
    lines ≡ part_lines at (data_of lines) ++ end_line ∷ []
unfolding FileFrom AllLf Sixteens UppersBefore data_of
only_rows [] half at image whole f l s u n = absurd f
only_rows (Row (Data address bytes) e ∷ lines) half at image whole f l s u n =
    let fit = fit_data address bytes f.0 in
    let m = length-append image bytes in
    let place : address ≡ at % 65536 = address_is half address at (omega arith) fit.0 in
    first_rows at bytes [] (Row (Data address bytes) e) lines (record { some = fit.1; most = s.0; full = s.1 })
    (upper_none at (eqb-false (at % 65536) 0 (sym u.0)))
    (ap₂ (λ (a : ℕ) (x : Ending). Row (Data a bytes) x) place l.0)
    (only_rows lines half (at + length bytes) (image ++ bytes) whole f.3 l.1 s.2 u.1 (omega arith))
only_rows (Row (ExtendedLinearAddress upper) e ∷ []) half at image whole f l s u n = absurd f.1
only_rows (Row (ExtendedLinearAddress upper) e ∷ Row (Data address bytes) d ∷ lines) half at image whole f l s u n =
    let g = f.1 in
    let fit = fit_data address bytes g.0 in
    let m = length-append image bytes in
    let place : address ≡ at % 65536 = address_is upper address at (omega arith) fit.0 in
    let half' : upper ≡ at / 65536 = half_is upper address at (omega arith) fit.0 in
    let line : upper_line at ≡ Row (ExtendedLinearAddress upper) e = sym (ap₂ (λ (a : ℕ) (x : Ending). Row (ExtendedLinearAddress a) x) half' l.0) in
    first_rows at bytes (Row (ExtendedLinearAddress upper) e ∷ []) (Row (Data address bytes) d) lines (record { some = fit.1; most = s.0; full = s.1 })
    (upper_here at (eqb-true (at % 65536) 0 (sym u.1.0)) ∙ ap (λ (x : Line). x ∷ []) line)
    (ap₂ (λ (a : ℕ) (x : Ending). Row (Data a bytes) x) place l.1.0)
    (only_rows lines upper (at + length bytes) (image ++ bytes) whole g.3 l.1.1 s.2 u.1.1 (omega arith))
only_rows (Row (ExtendedLinearAddress upper) e ∷ Row (ExtendedLinearAddress other) d ∷ lines) half at image whole f l s u n = absurd (false_true (sym u.1.0))
only_rows (Row (ExtendedLinearAddress upper) e ∷ Row End d ∷ lines) half at image whole f l s u n = absurd (false_true (sym u.1.0))
only_rows (Row End e ∷ lines) half at image whole f l s u n =
    ap₂ (λ (x : Ending) (y : List Line). Row End x ∷ y) l.0 f.0 ∙ sym (ap (λ (x : List Line). part_lines at (data_of x) ++ end_line ∷ []) f.0 ∙ ap (λ (x : List Line). x ++ end_line ∷ []) (part_none at))

-- A text in the form holds its image, and is the image's text.

pub in_form_holds : (text : List ℕ) (f : InForm text) → read_text text ≡ Ok f.image
in_form_holds text f = ap read_text f.written ∙ round_trip.file_holds f.lines f.image f.file

pub in_form_is : (text : List ℕ) (f : InForm text) → text ≡ canonical_text f.image
in_form_is text f =
    let rows : f.lines ≡ part_lines 0 (data_of f.lines) ++ end_line ∷ [] = only_rows f.lines 0 0 [] f.image f.file f.lf f.sixteens f.uppers refl in
    let image : f.image ≡ data_of f.lines = file_data f.lines 0 [] f.image f.file in
    f.written ∙ ap file_text (rows ∙ ap canonical_lines (sym image))

holds_same : {image other : List ℕ} → ◌≡◌ {A = Reading} (Ok image) (Ok other) → image ≡ other
holds_same e = cc

pub only : (text image : List ℕ) → InForm text → read_text text ≡ Ok image → text ≡ canonical_text image
only text image f e = in_form_is text f ∙ ap canonical_text (holds_same (sym (in_form_holds text f) ∙ e))
