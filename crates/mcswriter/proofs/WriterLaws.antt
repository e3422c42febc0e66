-- Laws of the two calls: what a length says of the text, and that what was written reads back.
use Rattle.std.specs.Prelude.{Result, Ok, Err}
use Prim.Native.Nat.{ℕ, ◌+◌, ◌<◌, ◌≤◌}
use mathlib.Core.Path.{◌≡◌, refl, sym, ap, ◌∙◌}
use mathlib.Core.Bool.{Bool, true, false}
use mathlib.Core.List.{List}
use borrow.Author.Tests.{le-leb}
use lib.Dec.{leb}
use lib.ListN.{length, get_or, take, drop, length-append}
use lib.Seq.{take_at}
use Rattle.base.specs.Output.{front_filled}
use Rattle.base.specs.Question.{ask}
use Rattle.base.specs.Refusal.{refused}
use Rattle.base.proofs.Laws.{front_fits}
use Rattle.mcsline.specs.Record.{AllBytes, record_text}
use Rattle.mcsline.proofs.Laws.{all_bytes}
use Rattle.canonical.specs.Canonical.{part_text, end_line, canonical_text, shorter_length, canonical_length}
use Rattle.canonical.specs.Rule.{writable}
use Rattle.kind.specs.Layout.{longest_chip}
use Rattle.kind.proofs.Laws.{image_length_range}
use Rattle.canonical.proofs.Laws.{in_parts, end_long, text_long, one_text, read_back, test_exact}
use Rattle.mcswriter.specs.Mcswriter.{length_answer, write_answer, write_output, ReadBackFrom, ReadsBack}
use Rattle.mcswriter.specs.Types.{BadImageLength, NoRoom, Refusal}

-- How long the text is, by its parts.
pub parts_long : (image : List ℕ) → length (canonical_text image) ≡ length (part_text 0 image) + 12
parts_long image = ap (λ (l : List ℕ). length l) (in_parts.whole image) ∙ length-append (part_text 0 image) (record_text end_line) ∙ ap (λ (n : ℕ). length (part_text 0 image) + n) end_long

-- Of no bytes there is no shorter record.
pub no_shorter : shorter_length 0 ≡ 0
unfolding shorter_length
no_shorter = refl

-- An image that can be written is no longer than the longest chip.
pub writable_short : (n : ℕ) → writable n ≡ true → n ≤ 16777216
writable_short n can = (image_length_range longest_chip n can).1

-- What the length says of the call that writes.

module _ (image buffer : List ℕ) where
  pub length_refused : (r : Refusal) → length_answer (length image) ≡ Err r → (write_answer image (length buffer) ≡ Err r) × (write_output image buffer ≡ buffer)
  unfolding length_answer write_answer write_output ask
  length_refused r e = go (writable (length image)) refl
    where
      go : (b : Bool) → writable (length image) ≡ b → (write_answer image (length buffer) ≡ Err r) × (write_output image buffer ≡ buffer)
      go true w = let f : ◌≡◌ {A = Result ℕ Refusal} (Ok (canonical_length (length image))) (Err r) = rw w at e in absurd cc
      go false w = (rw w (rw w at e), rw w refl)

  pub length_is : (n : ℕ) → length_answer (length image) ≡ Ok n → (writable (length image) ≡ true) × (n ≡ length (canonical_text image))
  unfolding length_answer ask
  length_is n e = go (writable (length image)) refl
    where
      go : (b : Bool) → writable (length image) ≡ b → (writable (length image) ≡ true) × (n ≡ length (canonical_text image))
      go true w = let f : ◌≡◌ {A = Result ℕ Refusal} (Ok (canonical_length (length image))) (Ok n) = rw w at e in let g : n ≡ canonical_length (length image) = cc in (w, g ∙ sym (text_long image))
      go false w = let f : ◌≡◌ {A = Result ℕ Refusal} (refused BadImageLength 0) (Ok n) = rw w at e in absurd cc

  module _ (can : writable (length image) ≡ true) where
    pub no_room_law : leb (length (canonical_text image)) (length buffer) ≡ false → (write_answer image (length buffer) ≡ refused NoRoom 0) × (write_output image buffer ≡ buffer)
    unfolding write_answer write_output front_filled ask
    no_room_law h = (rw (can, h) refl, rw (can, h) refl)

    pub with_room : leb (length (canonical_text image)) (length buffer) ≡ true → (write_answer image (length buffer) ≡ Ok (length (canonical_text image))) × (write_output image buffer ≡ front_filled (canonical_text image) buffer)
    unfolding write_answer write_output ask
    with_room h = (rw (can, h) refl, rw can refl)

-- A refused call wrote nothing to read back.
pub refused_back : (image out : List ℕ) (answer : Result ℕ Refusal) (r : Refusal) → answer ≡ Err r → ReadsBack image answer out
refused_back image out answer r refused n e = let f : ◌≡◌ {A = Result ℕ Refusal} (Err r) (Ok n) = sym refused ∙ e in absurd cc

-- What was written reads back.

canonical_back : (image : List ℕ) → AllBytes image → writable (length image) ≡ true → ReadBackFrom (canonical_text image) image
unfolding ask
canonical_back image small can = record {
  answer = λ buffer h. read_back.answer image buffer small can ∙ rw (le-leb (length image) (length buffer) h) refl;
  output = λ buffer h. read_back.output image buffer small can ∙ front_fits image buffer h;
  canonical = test_exact.says_yes (canonical_text image) (one_text.formed image small can);
}

pub written_back : (image buffer out : List ℕ) → ((i : ℕ) → get_or image i 0 < 256) → writable (length image) ≡ true → length (canonical_text image) ≤ length buffer → out ≡ front_filled (canonical_text image) buffer →
    ReadsBack image (Ok (length (canonical_text image))) out
written_back image buffer out small can room e n same =
    let long : length (canonical_text image) ≡ n = cc in
    let front : take n out ≡ canonical_text image =
    ap (λ (l : List ℕ). take n l) (e ∙ front_fits (canonical_text image) buffer room) ∙ take_at (canonical_text image) (drop (length (canonical_text image)) buffer) n long in
    rw front (canonical_back image (all_bytes image small) can)
