-- The lines of a boot report. Document 01, "Proof cases": the program `bootreport`.
use Rattle.std.specs.Prelude.{ℕ, Bool, true, false, List, [], ◌∷◌, ◌++◌}
use Rattle.reportlines.specs.Types.{Write}
use Rattle.fields.specs.Fields.{ascii, decimal}
use Rattle.digits.specs.Digit.{hexadecimal}

-- The first line names what loads: golden, or after a jump the update.
unfoldable pub loaded_line : Bool → List ℕ
loaded_line false = ascii "LOADED golden\n"
loaded_line true = ascii "LOADED update\n"

-- Then comes one line for each write: register, word, place of the word.
unfoldable pub write_line : Write → List ℕ
write_line w =
    ascii "WRITE " ++ hexadecimal 2 w.register ++ ascii " " ++ hexadecimal 8 w.word ++ ascii " " ++ hexadecimal 8 w.place ++ ascii "\n"

unfoldable pub write_lines : List Write → List ℕ
write_lines [] = []
write_lines (w ∷ writes) = write_line w ++ write_lines writes

-- Then the place after the last word, and the count of writes.
unfoldable pub end_line : ℕ → ℕ → List ℕ
end_line end writes = ascii "END " ++ hexadecimal 8 end ++ ascii " writes " ++ decimal writes ++ ascii "\n"

-- A chip that is stuck has one line: where.
unfoldable pub stuck_line : ℕ → List ℕ
stuck_line place = ascii "STUCK " ++ hexadecimal 8 place ++ ascii "\n"

-- A refusal has one line: number and place.
unfoldable pub refused_line : ℕ → ℕ → List ℕ
refused_line number place = ascii "REFUSED " ++ decimal number ++ ascii " " ++ decimal place ++ ascii "\n"
