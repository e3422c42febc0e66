-- Words by their place in the bytes.
use Prim.Native.Nat.{ℕ, zero, suc, ◌+◌, ◌-◌, ◌*◌, ◌/◌, ◌%◌, ◌^◌, ◌<◌, ◌≤◌}
use mathlib.Core.Path.{◌≡◌, refl, sym, ap, ap₂, ◌∙◌}
use mathlib.Core.List.{List, [], ◌∷◌, ◌++◌, append_assoc}
use native.Mathlib.Nat.{add-zero}
use native.Mathlib.Omega.{arith}
use lib.ListN.{length, get_or, drop, replicate, length-drop}
use lib.Seq.{drop-cons, get_or-drop, drop-drop}
use Rattle.framing.specs.Words.{words, bytes_of, bytes_of_words}

pub length_words : (xs : List ℕ) → length (words xs) ≡ length xs / 4
unfolding words
length_words [] = refl
length_words (a ∷ []) = refl
length_words (a ∷ b ∷ []) = refl
length_words (a ∷ b ∷ c ∷ []) = refl
length_words (a ∷ b ∷ c ∷ d ∷ xs) = let h : length (words xs) ≡ length xs / 4 = length_words xs in omega arith

four_more : (j : ℕ) → 4 * suc j ≡ suc (suc (suc (suc (4 * j))))
four_more j = omega arith

pub drop_words : (j : ℕ) (xs : List ℕ) → drop j (words xs) ≡ words (drop (4 * j) xs)
unfolding words
drop_words zero xs = refl
drop_words (suc j) [] = rw four_more refl
drop_words (suc j) (a ∷ []) = rw four_more refl
drop_words (suc j) (a ∷ b ∷ []) = rw four_more refl
drop_words (suc j) (a ∷ b ∷ c ∷ []) = rw four_more refl
drop_words (suc j) (a ∷ b ∷ c ∷ d ∷ xs) = rw four_more (drop_words j xs)

-- four bytes and the word they make
pub word_of_law : (s : List ℕ) (at : ℕ) → at + 4 ≤ length s →
    get_or (words (drop at s)) 0 0 ≡ (get_or s at 0 * 256 + get_or s (at + 1) 0) * 65536 + (get_or s (at + 2) 0 * 256 + get_or s (at + 3) 0)
unfolding words
word_of_law s at h = first (drop at s) (simp length-drop (omega arith)) ∙ simp (get_or-drop, add-zero)
  where
    first : (xs : List ℕ) → 4 ≤ length xs →
        get_or (words xs) 0 0 ≡ (get_or xs 0 0 * 256 + get_or xs 1 0) * 65536 + (get_or xs 2 0 * 256 + get_or xs 3 0)
    first [] l = absurd (omega arith)
    first (a ∷ []) l = absurd (omega arith)
    first (a ∷ b ∷ []) l = absurd (omega arith)
    first (a ∷ b ∷ c ∷ []) l = absurd (omega arith)
    first (a ∷ b ∷ c ∷ d ∷ xs) l = refl

-- A word is made of its bytes, high byte first.
pub bytes_word : (word : ℕ) → word < 2 ^ 32 → (word / 2 ^ 24 % 256 * 256 + word / 2 ^ 16 % 256) * 65536 + (word / 2 ^ 8 % 256 * 256 + word % 256) ≡ word
bytes_word word h =
    let a : word / 2 ^ 24 % 256 ≡ word / 2 ^ 24 = omega arith in
    let b : word / 2 ^ 16 ≡ 256 * (word / 2 ^ 24) + word / 2 ^ 16 % 256 = omega arith in
    let c : word / 2 ^ 8 ≡ 256 * (word / 2 ^ 16) + word / 2 ^ 8 % 256 = omega arith in
    let d : word ≡ 256 * (word / 2 ^ 8) + word % 256 = omega arith in
    glue (word / 2 ^ 24 % 256) (word / 2 ^ 16 % 256) (word / 2 ^ 8 % 256) (word % 256) (word / 2 ^ 24) (word / 2 ^ 16) (word / 2 ^ 8) word a b c d
  where
    glue : (a b c d n₂₄ n₁₆ n₈ n : ℕ) → a ≡ n₂₄ → n₁₆ ≡ 256 * n₂₄ + b → n₈ ≡ 256 * n₁₆ + c → n ≡ 256 * n₈ + d → (a * 256 + b) * 65536 + (c * 256 + d) ≡ n
    glue a b c d n₂₄ n₁₆ n₈ n e₀ e₁ e₂ e₃ = omega arith

-- Every number of a list is a word of 32 bits.
unfoldable pub AllWords : List ℕ → Type 0
AllWords [] = Unit {0}
AllWords (word ∷ more) = (word < 2 ^ 32) × AllWords more

-- The bytes of words are read as those words, whatever too few bytes for another follow.
pub words_of_bytes : (ws rest : List ℕ) → AllWords ws → length rest < 4 → words (bytes_of_words ws ++ rest) ≡ ws
unfolding AllWords words bytes_of_words
words_of_bytes [] [] all h = refl
words_of_bytes [] (a ∷ []) all h = refl
words_of_bytes [] (a ∷ b ∷ []) all h = refl
words_of_bytes [] (a ∷ b ∷ c ∷ []) all h = refl
words_of_bytes [] (a ∷ b ∷ c ∷ d ∷ rest) all h = absurd (omega arith)
words_of_bytes (word ∷ ws) rest all h = ap₂ (λ (w : ℕ) (l : List ℕ). w ∷ l) (bytes_word word all.0) (words_of_bytes ws rest all.1 h)

pub bytes_words_append : (first second : List ℕ) → bytes_of_words (first ++ second) ≡ bytes_of_words first ++ bytes_of_words second
unfolding bytes_of_words
bytes_words_append [] second = refl
bytes_words_append (word ∷ first) second = ap (λ (l : List ℕ). bytes_of word ++ l) (bytes_words_append first second) ∙ sym (append_assoc (bytes_of word) (bytes_of_words first) (bytes_of_words second))

-- Words take four bytes each.
pub bytes_words_length : (ws : List ℕ) → length (bytes_of_words ws) ≡ 4 * length ws
unfolding bytes_of_words
bytes_words_length [] = refl
bytes_words_length (word ∷ ws) = let h : length (bytes_of_words ws) ≡ 4 * length ws = bytes_words_length ws in omega arith

-- Words of 0 are bytes of 0.
pub bytes_of_zeros : (k : ℕ) → bytes_of_words (replicate k 0) ≡ replicate (4 * k) 0
unfolding bytes_of_words
bytes_of_zeros zero = refl
bytes_of_zeros (suc k) = rw four_more (ap (λ (l : List ℕ). 0 ∷ 0 ∷ 0 ∷ 0 ∷ l) (bytes_of_zeros k))

-- Four bytes are those of the word that they make.
abbrev pub word_of : ℕ → ℕ → ℕ → ℕ → ℕ
word_of a b c d = (a * 256 + b) * 65536 + (c * 256 + d)

pub word_bytes : (a b c d : ℕ) → a < 256 → b < 256 → c < 256 → d < 256 → bytes_of (word_of a b c d) ≡ a ∷ b ∷ c ∷ d ∷ []
word_bytes a b c d p q r s =
    let first : word_of a b c d / 2 ^ 24 % 256 ≡ a = omega arith in
    let second : word_of a b c d / 2 ^ 16 % 256 ≡ b = omega arith in
    let third : word_of a b c d / 2 ^ 8 % 256 ≡ c = omega arith in
    let fourth : word_of a b c d % 256 ≡ d = omega arith in
    rw (first, second, third, fourth) refl

-- the word after i more
pub word_after : (s : List ℕ) (at i : ℕ) → get_or (words (drop at s)) i 0 ≡ get_or (words (drop (at + 4 * i) s)) 0 0
word_after s at i =
    sym (ap (λ (n : ℕ). get_or (words (drop at s)) n 0) (add-zero i))
    ∙ sym (get_or-drop i (words (drop at s)) 0 0)
    ∙ ap (λ (l : List ℕ). get_or l 0 0) (drop_words i (drop at s) ∙ ap words (drop-drop (4 * i) at s))

-- how many whole words there are from a place on
pub room : (s : List ℕ) (at : ℕ) → length (words (drop at s)) ≡ (length s - at) / 4
room s at = length_words (drop at s) ∙ ap (λ (n : ℕ). n / 4) (length-drop at s)

-- the first word and the words after it
pub words_cons : (s : List ℕ) (at : ℕ) → 0 < length (words (drop at s)) → words (drop at s) ≡ get_or (words (drop at s)) 0 0 ∷ words (drop (at + 4) s)
words_cons s at h =
    drop-cons (words (drop at s)) 0 0 h
    ∙ ap (λ (l : List ℕ). get_or (words (drop at s)) 0 0 ∷ l) (drop_words 1 (drop at s) ∙ ap words (drop-drop 4 at s))

pub words_on : (s : List ℕ) (at j : ℕ) → drop j (words (drop at s)) ≡ words (drop (at + 4 * j) s)
words_on s at j = drop_words j (drop at s) ∙ ap words (drop-drop (4 * j) at s)
