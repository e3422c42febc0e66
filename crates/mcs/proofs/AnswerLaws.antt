-- Laws of the public call's answer: from what the first pass says of a reading, and what the answer says of the text.
use Prim.Native.Nat.{ℕ, ◌*◌, ◌≤◌}
use mathlib.Core.Path.{◌≡◌, refl, sym}
use mathlib.Core.Bool.{Bool, true, false}
use mathlib.Core.List.{List, ◌++◌}
use native.Mathlib.Omega.{arith}
use borrow.Author.Tests.{le-leb, leb-true}
use lib.Dec.{leb}
use lib.ListN.{length, take, drop, length-append}
use lib.Seq.{take_at}
use Rattle.std.specs.Prelude.{Result, Ok, Err}
use Rattle.base.proofs.Laws.{gives}
use Rattle.base.specs.Question.{ask}
use Rattle.base.specs.Refusal.{refused}
use Rattle.base.specs.Output.{front_filled}
use Rattle.mcs.specs.Types.{NoRoom, Refusal}
use Rattle.mcs.specs.Reading.{Reading, read_text}
use Rattle.mcs.specs.Reader.{answer_of, held_output, read_answer, read_output}
use Rattle.mcs.specs.Passes.{size_of, Fits}
use Rattle.mcs.proofs.FileLaws.{holds_room}

module _ (text buffer : List ℕ) where
  sized : {r : Refusal} → Err r ≡ size_of (read_text text) → read_text text ≡ Err r
  unfolding size_of
  sized {r} e = go (read_text text) e
    where
      go : (reading : Reading) → Err r ≡ size_of reading → reading ≡ Err r
      go (Err s) e = cc
      go (Ok image) e = cc

  pub refused_answer : {r : Refusal} → size_of (read_text text) ≡ Err r → read_answer text buffer ≡ Err r
  unfolding answer_of
  refused_answer e = rw (sized (sym e)) refl

  pub refused_output : {r : Refusal} → size_of (read_text text) ≡ Err r → read_output text buffer ≡ buffer
  unfolding held_output
  refused_output e = rw (sized (sym e)) refl

  held : {n : ℕ} → size_of (read_text text) ≡ Ok n → (image : List ℕ) × ((read_text text ≡ Ok image) × (length image ≡ n))
  unfolding size_of
  held {n} e = go (read_text text) e
    where
      go : (reading : Reading) → size_of reading ≡ Ok n → (image : List ℕ) × ((reading ≡ Ok image) × (length image ≡ n))
      go (Err r) e = absurd cc
      go (Ok image) e = (image, (refl, cc))

  pub small_answer : {n : ℕ} → size_of (read_text text) ≡ Ok n → leb n (length buffer) ≡ false → read_answer text buffer ≡ refused NoRoom 0
  unfolding answer_of ask
  small_answer e h = let i = held e in rw (i.1.0, i.1.1, h) refl

  pub small_output : {n : ℕ} → size_of (read_text text) ≡ Ok n → leb n (length buffer) ≡ false → read_output text buffer ≡ buffer
  unfolding held_output front_filled ask
  small_output e h = let i = held e in rw (i.1.0, i.1.1, h) refl

  pub good_answer : {n : ℕ} → size_of (read_text text) ≡ Ok n → leb n (length buffer) ≡ true → read_answer text buffer ≡ Ok n
  unfolding answer_of ask
  good_answer e h = let i = held e in rw (i.1.0, i.1.1, h) refl

  pub good_fits : {n : ℕ} → size_of (read_text text) ≡ Ok n → leb n (length buffer) ≡ true → Fits (read_text text) (length buffer)
  unfolding Fits
  good_fits {n} e h = let i = held e in let m = leb-true n (length buffer) h in rw i.1.0 (omega (arith, i.1.1))

-- what `reader::read` goes by
pub ruleset answers = (gives, refused_answer, refused_output, small_answer, small_output, good_answer, good_fits)

-- What the call's answer says of the text.

pub read_says : (text buffer : List ℕ) (n : ℕ) → read_answer text buffer ≡ Ok n →
    (image : List ℕ) × ((read_text text ≡ Ok image) × ((n ≤ length (read_output text buffer)) × (take n (read_output text buffer) ≡ image)))
unfolding answer_of held_output front_filled ask
read_says text buffer n e = go (read_text text) refl e
  where
    go : (r : Reading) → read_text text ≡ r → answer_of r (length buffer) ≡ Ok n → (image : List ℕ) × ((read_text text ≡ Ok image) × ((n ≤ length (held_output (read_text text) buffer)) × (take n (held_output (read_text text) buffer) ≡ image)))
    go (Err refusal) q a = absurd cc
    go (Ok image) q a = fits (leb (length image) (length buffer)) refl a
      where
        fits : (b : Bool) → leb (length image) (length buffer) ≡ b → ask {A = Result ℕ Refusal} b (refused NoRoom 0) (Ok (length image)) ≡ Ok n → (image : List ℕ) × ((read_text text ≡ Ok image) × ((n ≤ length (held_output (read_text text) buffer)) × (take n (held_output (read_text text) buffer) ≡ image)))
        fits false l a = absurd cc
        fits true l a =
            let long : length image ≡ n = cc in
            let room : n ≤ length (image ++ drop (length image) buffer) = let m = length-append image (drop (length image) buffer) in omega arith in
            (image, (q, (rw (q, l) room, rw (q, l) (take_at image (drop (length image) buffer) n long))))

-- With a byte of room for every two characters it is never 19.
pub refused_says : (text buffer : List ℕ) (refusal : Refusal) → read_answer text buffer ≡ Err refusal → length text ≤ 2 * length buffer → read_text text ≡ Err refusal
unfolding answer_of ask
refused_says text buffer refusal e h = go (read_text text) refl e
  where
    go : (r : Reading) → read_text text ≡ r → answer_of r (length buffer) ≡ Err refusal → read_text text ≡ Err refusal
    go (Err r) q a = let same : r ≡ refusal = cc in rw same at q
    go (Ok image) q a =
        let room : 2 * length image ≤ length text = holds_room text image q in
        let b : ◌≡◌ {A = Result ℕ Refusal} (Ok (length image)) (Err refusal) = rw (le-leb (length image) (length buffer) (omega arith)) at a in
        absurd cc
