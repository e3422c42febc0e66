-- A text is refused with 14 to 18, at a place within it.
use Prim.Native.Nat.{ℕ, ◌+◌, ◌≤◌}
use mathlib.Core.Path.{◌≡◌, refl, ap}
use mathlib.Core.Bool.{Bool, true, false}
use mathlib.Core.List.{List, [], ◌∷◌, ◌++◌}
use native.Mathlib.Omega.{arith}
use lib.ListN.{length, length-append}
use Rattle.base.specs.Refusal.{number_of}
use Rattle.mcs.specs.Types.{BadLine, BadEnd}
use Rattle.mcsline.specs.Record.{Data, ExtendedLinearAddress, End}
use Rattle.mcsline.specs.Line.{Parsed, parsed}
use Rattle.mcsline.proofs.Laws.{refused_number}
use Rattle.mcs.specs.Reading.{follows, lines_of, is_empty, Reading, read_lines}
use Rattle.mcs.specs.Theorems.{TextRefusals}
use Rattle.mcs.proofs.FileLaws.{joined, joined_lines}
use Rattle.mcs.proofs.ReadingLaws.{read_none, read_refused, read_apart, read_data, read_upper, read_end, read_more}
use Rattle.std.specs.Prelude.{Ok, Err}

-- with one of the numbers, up to an end
unfoldable Within : ℕ → Reading → Type 0
Within end (Ok image) = Unit {0}
Within end (Err refusal) = (number_of BadLine ≤ number_of refusal.reason) × (number_of refusal.reason ≤ number_of BadEnd) × (refusal.place ≤ end)

lines_within : (lines : List (List ℕ)) (place half : ℕ) (image : List ℕ) (end : ℕ) → place + length (joined lines) ≤ end → Within end (read_lines lines place half image)
unfolding joined Within
lines_within [] place half image end h = rw (read_none place half image) (omega arith, omega arith, omega arith)
lines_within (line ∷ lines) place half image end h = go (parsed line) refl (λ upper longer. lines_within lines (place + length line) upper longer end (omega (arith, length-append line (joined lines))))
  where
    rest : length (line ++ joined lines) ≡ length line + length (joined lines)
    rest = length-append line (joined lines)

    placed : (address : ℕ) (bytes : List ℕ) → parsed line ≡ Ok (Data address bytes) → (b : Bool) → follows half address (length image) (length bytes) ≡ b → ((upper : ℕ) (longer : List ℕ) → Within end (read_lines lines (place + length line) upper longer)) → Within end (read_lines (line ∷ lines) place half image)
    placed address bytes p true f ih = rw (read_data line lines place half image address bytes p f) (ih half (image ++ bytes))
    placed address bytes p false f ih = rw (read_apart line lines place half image address bytes p f) (omega arith, omega arith, omega arith)

    last : parsed line ≡ Ok End → (b : Bool) → is_empty lines ≡ b → Within end (read_lines (line ∷ lines) place half image)
    last p true f = rw (read_end line lines place half image p f) tt
    last p false f = rw (read_more line lines place half image p f) (omega arith, omega arith, omega (arith, rest))

    go : (p : Parsed) → parsed line ≡ p → ((upper : ℕ) (longer : List ℕ) → Within end (read_lines lines (place + length line) upper longer)) → Within end (read_lines (line ∷ lines) place half image)
    go (Err reason) p ih = let n = refused_number line reason p in rw (read_refused line lines place half image reason p) (omega arith, omega arith, omega arith)
    go (Ok (Data address bytes)) p ih = placed address bytes p (follows half address (length image) (length bytes)) refl ih
    go (Ok (ExtendedLinearAddress upper)) p ih = rw (read_upper line lines place half image upper p) (ih upper image)
    go (Ok End) p ih = last p (is_empty lines) refl

pub text_refusals : TextRefusals
unfolding Within
text_refusals text refusal e =
    let whole : length (joined (lines_of text)) ≡ length text = ap (λ (l : List ℕ). length l) (joined_lines text) in
    rw e at (lines_within (lines_of text) 0 0 [] (length text) (omega arith))
