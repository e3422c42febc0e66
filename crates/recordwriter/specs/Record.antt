-- A line that ends in LF by its record's type, address and bytes. That it is the record's text (`record_text`) is proved of each type. Only contracts of functions that are no public calls cite it.
use Rattle.std.specs.Prelude.{ℕ, List, [], ◌∷◌, ◌++◌}
use Rattle.mcsline.specs.Record.{Lf, line_text, body, checksum}

abbrev pub line_of : ℕ → ℕ → List ℕ → List ℕ
line_of type address bytes = line_text (body type address bytes ++ checksum (body type address bytes) ∷ []) Lf
