-- `put_words` meets its contract: word by word.
use Rattle.std.proofs.Common.{ℕ, ◌+◌, ◌*◌, ◌≤◌, ◌<◌, ◌≡◌, List, [], ◌∷◌, ◌++◌, length, get_or, take, drop, refl, sym, ap, ◌∙◌, zero-add, arith, length-take-le}
use Rattle.std.proofs.lemmas.List.{take_more, take_all}
use Rattle.base.specs.Output.{front_filled}
use Rattle.base.proofs.Laws.{front_fits}
use Rattle.framing.specs.Words.{bytes_of, bytes_of_words}
use Rattle.framing.proofs.Laws.{bytes_words_append, bytes_words_length}
use Rattle.flash.specs.Flash.{overwrite_in_range}
use Rattle.flash.proofs.Laws.{in_range, front_on}
use Rattle.heaviest.proofs.put_words.Goals as goal

pub loop-i-init : goal.loop-i-init
unfolding bytes_of_words
loop-i-init c = sym (front_fits [] c.args.out.now (omega arith))

-- Its bytes stand after those of the words before it.
one_more : (words : List ℕ) (i : ℕ) → i < length words → bytes_of_words (take i words) ++ bytes_of (get_or words i 0) ≡ bytes_of_words (take (i + 1) words)
unfolding bytes_of_words
one_more words i h = sym (bytes_words_append (take i words) (get_or words i 0 ∷ [])) ∙ ap bytes_of_words (sym (take_more words i 0 h))

pub loop-i-preserved : goal.loop-i-preserved
loop-i-preserved c =
    let words = c.args.words.now in
    let out = c.args.out.now in
    let i = c.loop-i.i in
    let n = bytes_words_length (take i words) in
    let t : length (take i words) ≡ i = length-take-le i words (omega arith) in
    rw (c.loop-i.invariant, c.to_be_bytes.ensures) at c.overwrite.ensures.output
    ∙ front_on (bytes_of_words (take i words)) out (4 * i) 4 (bytes_of (get_or words i 0)) (omega arith) refl (omega arith)
    ∙ ap (λ (l : List ℕ). front_filled l out) (one_more words i (omega arith))

-- What fills the front is put over it.
front_put : (bytes out : List ℕ) → length bytes ≤ length out → front_filled bytes out ≡ overwrite_in_range out 0 (length bytes) bytes
front_put bytes out h = front_fits bytes out h ∙ ap (λ (n : ℕ). bytes ++ drop n out) (sym (zero-add (length bytes))) ∙ sym (in_range out 0 (length bytes) bytes (omega arith))

pub returns : goal.returns
returns c =
    let words = c.args.words.now in
    let n = bytes_words_length words in
    c.loop-i.invariant
    ∙ ap (λ (l : List ℕ). front_filled (bytes_of_words l) c.args.out.now) (take_all c.loop-i.i words (omega arith))
    ∙ front_put (bytes_of_words words) c.args.out.now (omega arith)
