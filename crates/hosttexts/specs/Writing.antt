-- The functions that a C host calls, each as one definition for what it returns. Here: what is promised of a text that was written, and whether a text is in the canonical form.
use Rattle.std.specs.Prelude.{ℕ, ◌≡◌, List, take}
use Rattle.base.specs.Question.{ask}
use Rattle.canonical.specs.Test.{is_canonical}
use Rattle.mcswriter.specs.Mcswriter.{ReadBackFrom}
use Rattle.hosttexts.specs.Types.{TealsettleText}

-- Where `tealsettle_mcs_write` refused nothing, what it wrote reads back to the image.
abbrev pub WrittenBack : List ℕ → TealsettleText → List ℕ → Type 0
WrittenBack image text out = text.number ≡ 0 → ReadBackFrom (take text.length out) image

-- `tealsettle_mcs_form`: 1 for yes, 0 for no
unfoldable pub form_call : List ℕ → ℕ
form_call text = ask (is_canonical text) 0 1
