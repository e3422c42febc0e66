-- Bytes to words. Document 01, "How the configuration reader reads".
use Rattle.std.specs.Prelude.{ℕ, ◌+◌, ◌*◌, ◌/◌, ◌%◌, ◌^◌, List, [], ◌∷◌, ◌++◌, get_or, drop}

-- Then come 32-bit words, high byte first; bytes that make no whole word at the end are left out.
unfoldable pub words : List ℕ → List ℕ
words [] = []
words (a ∷ []) = []
words (a ∷ b ∷ []) = []
words (a ∷ b ∷ c ∷ []) = []
words (a ∷ b ∷ c ∷ d ∷ bytes) = ((a * 256 + b) * 65536 + (c * 256 + d)) ∷ words bytes

-- the word at a place
abbrev pub word_at : List ℕ → ℕ → ℕ
word_at bytes place = get_or (words (drop place bytes)) 0 0

-- a word's bytes, high byte first
abbrev pub bytes_of : ℕ → List ℕ
bytes_of word = word / 2 ^ 24 % 256 ∷ word / 2 ^ 16 % 256 ∷ word / 2 ^ 8 % 256 ∷ word % 256 ∷ []

-- the bytes of words, one after the other
unfoldable pub bytes_of_words : List ℕ → List ℕ
bytes_of_words [] = []
bytes_of_words (word ∷ more) = bytes_of word ++ bytes_of_words more
