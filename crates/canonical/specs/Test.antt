-- Whether a text is in the form, as one definition: it is the text of what it reads to. Document 02, M-100: "a test says whether a text is in this form".
use Rattle.std.specs.Prelude.{ℕ, Bool, true, false, List, [], ◌∷◌, eqb, length, Ok, Err}
use Rattle.base.specs.Question.{ask}
use Rattle.mcs.specs.Reading.{Reading, read_text}
use Rattle.canonical.specs.Canonical.{canonical_text}
use Rattle.canonical.specs.Rule.{writable}

-- the same characters
unfoldable pub same_text : List ℕ → List ℕ → Bool
same_text [] [] = true
same_text [] (d ∷ ds) = false
same_text (c ∷ cs) [] = false
same_text (c ∷ cs) (d ∷ ds) = ask (eqb c d) false (same_text cs ds)

unfoldable pub is_text_of : List ℕ → Reading → Bool
is_text_of text (Err refusal) = false
is_text_of text (Ok image) = ask (writable (length image)) false (same_text text (canonical_text image))

abbrev pub is_canonical : List ℕ → Bool
is_canonical text = is_text_of text (read_text text)
