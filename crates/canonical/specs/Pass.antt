-- What only the contracts of functions that are no public calls cite: the test as a pass over the lines of a text, which writes nothing. No promise rests on it; that it is the test is proved.
use Rattle.std.specs.Prelude.{ℕ, ◌+◌, ◌*◌, ◌/◌, ◌%◌, Bool, true, false, not, List, [], ◌∷◌, eqb, leb, length}
use Rattle.base.specs.Question.{ask}
use Rattle.mcsline.specs.Line.{parsed, by_parsed}
use Rattle.mcs.specs.Reading.{lines_of, is_empty}
use Rattle.canonical.specs.Rule.{writable}

-- What is asked of a line that is `long` characters long, given whether the line before is of type 04 and how many data bytes came before. A line that ends in CR LF is a character too long.

-- of a data record: all before it had 16 bytes, and it has no more; it starts where the last ended, right after a type 04 record exactly if that is a multiple of 65,536
unfoldable pub data_fits : Bool → ℕ → ℕ → ℕ → ℕ → Bool
data_fits upper next address count long =
    ask (eqb (next % 16) 0) false
    (ask (leb count 16) false
    (ask (eqb long (2 * count + 12)) false
    (ask (eqb address (next % 65536)) false
    (elim (eqb (next % 65536) 0) [ true ↦ upper | false ↦ not upper ]))))

-- of a type 04 record: it is not right after another, and has the upper half of the next place. (That this is a multiple of 65,536 is asked of the line after it.)
unfoldable pub upper_fits : Bool → ℕ → ℕ → ℕ → Bool
upper_fits upper next half long =
    ask (not upper) false
    (ask (eqb half (next / 65536)) false
    (eqb long 16))

-- of the end record: it comes after data, and they are as many as can be written
unfoldable pub end_fits : Bool → ℕ → ℕ → Bool
end_fits upper next long =
    ask (not upper) false
    (ask (eqb long 12) false
    (writable next))

-- the lines in order
unfoldable pub lines_pass : List (List ℕ) → Bool → ℕ → Bool
lines_pass [] upper next = false
lines_pass (line ∷ lines) upper next =
    by_parsed (parsed line)
    (λ reason. false)
    (λ address bytes. ask (data_fits upper next address (length bytes) (length line)) false (lines_pass lines false (next + length bytes)))
    (λ half. ask (upper_fits upper next half (length line)) false (lines_pass lines true next))
    (ask (is_empty lines) false (end_fits upper next (length line)))

abbrev pub text_passes : List ℕ → Bool
text_passes text = lines_pass (lines_of text) false 0
