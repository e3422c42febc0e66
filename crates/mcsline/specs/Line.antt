-- What one line holds. Document 01, "MCS text" and question 11.
use Rattle.std.specs.Prelude.{ℕ, ◌+◌, ◌*◌, ◌%◌, Bool, true, false, ◌&&◌, List, [], ◌∷◌, eqb, leb, length, get_or, take, drop, Option, Some, None, Result, Ok, Err}
use Rattle.mcsline.specs.Types.{Reason, BadLine, BadSum, BadRecord}
use Rattle.base.specs.Question.{ask}
use Rattle.digits.specs.Digit.{byte_sum, digit_of, is_digit}
use Rattle.mcsline.specs.Record.{LF, CR, COLON, Record, Data, ExtendedLinearAddress, End}

-- Lines.

unfoldable pub is_ending : List ℕ → Bool
is_ending [] = false
is_ending (a ∷ []) = eqb a LF
is_ending (a ∷ b ∷ []) = eqb a CR && eqb b LF
is_ending (a ∷ b ∷ c ∷ cs) = false

-- What characters spell is pairs, or none.

unfoldable pub onto : ℕ → Option (List ℕ) → Option (List ℕ)
onto pair (Some pairs) = Some (pair ∷ pairs)
onto pair None = None

-- what is made of the pairs, or of none
unfoldable pub by_spelled {ℓ} : {A : Type ℓ} → Option (List ℕ) → A → (List ℕ → A) → A
by_spelled (Some pairs) broken good = good pairs
by_spelled None broken good = broken

-- Capital hexadecimal pairs, then LF or CR LF, and no other character.
unfoldable pub spelled_by : List ℕ → Option (List ℕ)
spelled_by [] = None
spelled_by (a ∷ []) = ask (is_ending (a ∷ [])) None (Some [])
spelled_by (a ∷ b ∷ cs) =
    ask (is_ending (a ∷ b ∷ cs))
    (ask (is_digit a && is_digit b) None (onto (16 * digit_of a + digit_of b) (spelled_by cs)))
    (Some [])

-- A line is a colon and such pairs.
unfoldable pub line_spells : List ℕ → Option (List ℕ)
line_spells [] = None
line_spells (c ∷ cs) = ask (eqb c COLON) None (spelled_by cs)

-- Records.

abbrev pub count_of : List ℕ → ℕ
count_of pairs = get_or pairs 0 0

-- two pairs as a number, high byte first
abbrev pub two_at : List ℕ → ℕ → ℕ
two_at pairs i = get_or pairs i 0 * 256 + get_or pairs (i + 1) 0

abbrev pub address_of : List ℕ → ℕ
address_of pairs = two_at pairs 1

abbrev pub type_of : List ℕ → ℕ
type_of pairs = get_or pairs 3 0

-- a line's record, or why it is refused
abbrev pub Parsed : Type 0
Parsed = Result Record Reason

-- Records have types 00, 01 and 04.
unfoldable pub by_type {ℓ} : {A : Type ℓ} → ℕ → A → A → A → A → A
by_type type data' end upper other =
    elim (eqb type 0x00) [
      | true ↦ data'
      | false ↦ elim (eqb type 0x01) [ true ↦ end | false ↦ elim (eqb type 0x04) [ true ↦ upper | false ↦ other ] ]
    ]

-- Type, its count, and 0000 address for types 01 and 04? No: 16. Data records have 1 to 255 bytes, and type 04 carries 2.
unfoldable pub typed : List ℕ → Parsed
typed pairs =
    by_type (type_of pairs)
    (ask (leb 1 (count_of pairs)) (Err BadRecord) (Ok (Data (address_of pairs) (take (count_of pairs) (drop 4 pairs)))))
    (ask (eqb (count_of pairs) 0) (Err BadRecord) (ask (eqb (address_of pairs) 0) (Err BadRecord) (Ok End)))
    (ask (eqb (count_of pairs) 2) (Err BadRecord) (ask (eqb (address_of pairs) 0) (Err BadRecord) (Ok (ExtendedLinearAddress (two_at pairs 4)))))
    (Err BadRecord)

-- Question 11 but for the address rule. As many pairs as the count says: four before the data and the sum after them, so at least five.
unfoldable pub parsed : List ℕ → Parsed
parsed line =
    by_spelled (line_spells line) (Err BadLine) (λ pairs.
    ask (eqb (length pairs) (count_of pairs + 5)) (Err BadLine)
    (ask (eqb (byte_sum pairs % 256) 0) (Err BadSum)
    (typed pairs)))

unfoldable pub by_parsed {ℓ} : {A : Type ℓ} → Parsed → (Reason → A) → (ℕ → List ℕ → A) → (ℕ → A) → A → A
by_parsed (Err reason) refused data' upper end = refused reason
by_parsed (Ok (Data address bytes)) refused data' upper end = data' address bytes
by_parsed (Ok (ExtendedLinearAddress half)) refused data' upper end = upper half
by_parsed (Ok End) refused data' upper end = end
