-- The words that a cut can leave in the switch segment, and how many they are. Document 02, M-110. A word is a number here, its high byte first on the chip.
use Rattle.std.specs.Prelude.{ℕ, zero, suc, ◌+◌, ◌*◌, ◌/◌, ◌%◌, Bool, true, false, List, [], ◌∷◌, ◌++◌, map, eqb, length}
use Rattle.std.specs.Int.Bits.{bit_and}
use Rattle.framing.specs.Words.{bytes_of}
use Rattle.kind.specs.Kind.{Kind}
use Rattle.outcomes.specs.Types.{TealsettleCounts}

-- What one bit may end as: old, or as an obeying chip would hold it; each one time.
unfoldable pub endings : ℕ → ℕ → List ℕ
endings old obeyed = elim (eqb old obeyed) [ true ↦ old ∷ [] | false ↦ old ∷ obeyed ∷ [] ]

-- Every word of a list, with every one of some bits put after it as its lowest.
unfoldable pub with_lowest_bit : List ℕ → List ℕ → List ℕ
with_lowest_bit [] words = []
with_lowest_bit (bit ∷ bits) words = map (λ word. word * 2 + bit) words ++ with_lowest_bit bits words

-- THE LIST, by bits: each bit ends old or as an obeying chip would hold it, in any mixture. The first number says how many bits a word has.
unfoldable pub mixtures : ℕ → ℕ → ℕ → List ℕ
mixtures zero old obeyed = 0 ∷ []
mixtures (suc bits) old obeyed = with_lowest_bit (endings (old % 2) (obeyed % 2)) (mixtures bits (old / 2) (obeyed / 2))

-- A program can only clear bits: where it orders a 1 over an old 0, that bit remains 0.
abbrev pub program_outcomes : ℕ → ℕ → List ℕ
program_outcomes old ordered = mixtures 32 old (bit_and old ordered)

-- An erase sets every bit.
abbrev pub erase_outcomes : ℕ → List ℕ
erase_outcomes old = mixtures 32 old 0xFFFFFFFF

-- 1 for yes, 0 for no
unfoldable pub one_if : Bool → ℕ
one_if true = 1
one_if false = 0

-- how many words of a list pass a test
unfoldable pub how_many : (ℕ → Bool) → List ℕ → ℕ
how_many test [] = 0
how_many test (word ∷ words) = one_if (test word) + how_many test words

-- does a chip with this switch word have its switch ON?
abbrev pub word_is_on : Kind → ℕ → Bool
word_is_on kind word = kind.is_on (bytes_of word)

-- How many words there are, and how many of them are ON.
unfoldable pub counts_of : Kind → List ℕ → TealsettleCounts
counts_of kind words = record { words = length words; on = how_many (word_is_on kind) words }

-- `after_program`
abbrev pub program_counts : Kind → ℕ → ℕ → TealsettleCounts
program_counts kind old ordered = counts_of kind (program_outcomes old ordered)

-- `after_erase`
abbrev pub erase_counts : Kind → ℕ → TealsettleCounts
erase_counts kind old = counts_of kind (erase_outcomes old)
