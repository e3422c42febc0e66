-- `put_opening` meets its contract.
use Rattle.std.proofs.Common.{ℕ, ◌+◌, ◌*◌, ◌<◌, ◌≤◌, ◌≡◌, List, [], ◌∷◌, length, sym, ap, ◌∙◌, arith}
use mathlib.Core.Logic.{⊎_elim}
use Rattle.base.proofs.Laws.{below_or_not}
use Rattle.framing.specs.Words.{bytes_of_words}
use Rattle.framing.proofs.Laws.{bytes_words_length}
use Rattle.flash.specs.Flash.{overwrite_in_range}
use Rattle.heaviest.specs.Heaviest.{most_in, heaviest_headers}
use Rattle.heaviest.specs.Internal.{opening}
use Rattle.heaviest.proofs.ImageLaws.{most_few, most_many, headers_few, headers_many}
use Rattle.heaviest.proofs.put_opening.Goals as goal

-- What is written is the opening, where the words are.
as-opening : (words : ℕ) (out headers after : List ℕ) → after ≡ overwrite_in_range out 0 (length (bytes_of_words (0xAA995566 ∷ headers))) (bytes_of_words (0xAA995566 ∷ headers)) → headers ≡ heaviest_headers words →
    after ≡ overwrite_in_range out 0 (length (opening words)) (opening words)
as-opening words out headers after e same = e ∙ ap (λ (l : List ℕ). overwrite_in_range out 0 (length (bytes_of_words (0xAA995566 ∷ l))) (bytes_of_words (0xAA995566 ∷ l))) same

few-headers : (words writes : ℕ) → words ≤ 2049 → writes ≡ most_in words → (0x30008000 + writes) ∷ [] ≡ heaviest_headers words
few-headers words writes h e = ap (λ (n : ℕ). (0x30008000 + n) ∷ []) e ∙ sym (headers_few words h)

many-headers : (words writes : ℕ) → 2049 < words → writes ≡ most_in words → 0x30008000 ∷ (0x50000000 + writes) ∷ [] ≡ heaviest_headers words
many-headers words writes h e = ap (λ (n : ℕ). 0x30008000 ∷ (0x50000000 + n) ∷ []) e ∙ sym (headers_many words h)

-- as many bytes as the words have
opening-bytes : (words : ℕ) (headers : List ℕ) → headers ≡ heaviest_headers words → length (opening words) ≡ 4 * length (0xAA995566 ∷ headers)
opening-bytes words headers e = bytes_words_length (0xAA995566 ∷ heaviest_headers words) ∙ ap (λ (l : List ℕ). 4 * length (0xAA995566 ∷ l)) (sym e)

count : (words writes : ℕ) → writes ≡ most_in words → writes ≤ words
count words writes e = ⊎_elim (λ h. let m = most_many words h in omega arith) (λ h. let m = most_few words h in omega arith) (below_or_not 2049 words)

pub overflow_cast-count : goal.overflow_cast-count
overflow_cast-count c = let p = c.requires in let m = count c.args.words c.args.writes p.0 in omega arith

pub overflow_add-count : goal.overflow_add-count
overflow_add-count c = let p = c.requires in let m = count c.args.words c.args.writes p.0 in omega arith

pub put_words-requires : goal.put_words-requires
put_words-requires c = let p = c.requires in let l = opening-bytes c.args.words _ (few-headers c.args.words c.args.writes (omega arith) p.0) in omega arith

pub overflow_add-count-else-words-le-TYPE1_WORDS : goal.overflow_add-count-else-words-le-TYPE1_WORDS
overflow_add-count-else-words-le-TYPE1_WORDS c = let p = c.requires in let m = count c.args.words c.args.writes p.0 in omega arith

pub put_words-requires-else-words-le-TYPE1_WORDS : goal.put_words-requires-else-words-le-TYPE1_WORDS
put_words-requires-else-words-le-TYPE1_WORDS c = let p = c.requires in let l = opening-bytes c.args.words _ (many-headers c.args.words c.args.writes (omega arith) p.0) in omega arith

pub returns-then-words-le-TYPE1_WORDS : goal.returns-then-words-le-TYPE1_WORDS
returns-then-words-le-TYPE1_WORDS c = as-opening c.args.words c.args.out.now _ _ c.put_words.ensures (few-headers c.args.words c.args.writes (omega arith) c.requires.0)

pub returns-else-words-le-TYPE1_WORDS : goal.returns-else-words-le-TYPE1_WORDS
returns-else-words-le-TYPE1_WORDS c = as-opening c.args.words c.args.out.now _ _ c.put_words-else-words-le-TYPE1_WORDS.ensures (many-headers c.args.words c.args.writes (omega arith) c.requires.0)
