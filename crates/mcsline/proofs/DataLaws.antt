-- Laws of a line that the code has parsed: which record it is, and where its bytes are.
use Prim.Native.Nat.{ℕ, ◌+◌, ◌*◌, ◌<◌, ◌≤◌}
use mathlib.Core.Path.{◌≡◌, refl, sym, ap, ◌∙◌}
use mathlib.Core.List.{List}
use native.Mathlib.Omega.{arith}
use lib.ListN.{length, take, drop}
use Rattle.digits.specs.Pairs.{pair_at, ArePairs, pairs_at}
use Rattle.digits.proofs.Laws.{length_pairs}
use Rattle.mcsline.specs.Record.{Data, ExtendedLinearAddress, End}
use Rattle.mcsline.specs.Line.{count_of, Parsed, typed, parsed}
use Rattle.mcsline.specs.Place.{ending_at, line_at, Sound, Orderly, as_line}
use Rattle.mcsline.specs.Types.{Reason, CodeLine, DataLine, ExtendedLinearAddressLine, EndLine}
use Rattle.mcsline.proofs.LineLaws.{line_long}
use Rattle.mcsline.proofs.TypeLaws.{Typing, as_data, as_end, as_upper, as_none, typing, line_pairs, count_is, data_is}
use Rattle.mcsline.proofs.ShapeLaws.{Formed, after_pairs, orderly, sound_formed, sound_typed}
use Rattle.std.specs.Prelude.{Ok, Err}

-- the place after the line at a place
abbrev pub after : List ℕ → ℕ → ℕ
after text at = at + length (line_at text at)

-- The code's form of a line, taken apart.

pub line_data : (p : Parsed) (e address count end : ℕ) → as_line p e ≡ Ok (DataLine address count end) → (bytes : List ℕ) × ((p ≡ Ok (Data address bytes)) × (length bytes ≡ count) × (e ≡ end))
unfolding as_line
line_data (Err reason) e address count end h = absurd cc
line_data (Ok (Data a bytes)) e address count end h = let q : a ≡ address = cc in (bytes, (rw q refl, cc, cc))
line_data (Ok (ExtendedLinearAddress half)) e address count end h = absurd cc
line_data (Ok End) e address count end h = absurd cc

pub line_upper : (p : Parsed) (e upper end : ℕ) → as_line p e ≡ Ok (ExtendedLinearAddressLine upper end) → (p ≡ Ok (ExtendedLinearAddress upper)) × (e ≡ end)
unfolding as_line
line_upper (Err reason) e upper end h = absurd cc
line_upper (Ok (Data a bytes)) e upper end h = absurd cc
line_upper (Ok (ExtendedLinearAddress half)) e upper end h = let q : half ≡ upper = cc in (rw q refl, cc)
line_upper (Ok End) e upper end h = absurd cc

pub line_end : (p : Parsed) (e end : ℕ) → as_line p e ≡ Ok (EndLine end) → (p ≡ Ok End) × (e ≡ end)
unfolding as_line
line_end (Err reason) e end h = absurd cc
line_end (Ok (Data a bytes)) e end h = absurd cc
line_end (Ok (ExtendedLinearAddress half)) e end h = absurd cc
line_end (Ok End) e end h = (refl, cc)

pub line_refused : (p : Parsed) (e : ℕ) (reason : Reason) → as_line p e ≡ Err reason → p ≡ Err reason
unfolding as_line
line_refused (Err r) e reason h = cc
line_refused (Ok (Data a bytes)) e reason h = cc
line_refused (Ok (ExtendedLinearAddress half)) e reason h = cc
line_refused (Ok End) e reason h = cc

-- A data record's bytes, by their place.

not_data : (p : Parsed) (address : ℕ) (bytes : List ℕ) (reason : Reason) → p ≡ Err reason → p ≡ Ok (Data address bytes) → ⊥
not_data p address bytes reason e f = cc

data_bytes : (pairs : List ℕ) (address : ℕ) (bytes : List ℕ) → typed pairs ≡ Ok (Data address bytes) → bytes ≡ take (count_of pairs) (drop 4 pairs)
data_bytes pairs address bytes e = go (typing pairs)
  where
    go : Typing pairs → bytes ≡ take (count_of pairs) (drop 4 pairs)
    go (as_data t n f) = cc
    go (as_end t n a f) = cc
    go (as_upper t n a f) = cc
    go (as_none f) = cc

pub record DataAt (text : List ℕ) (at : ℕ) (bytes : List ℕ) : Type 0 where
  pub pairs : ArePairs text (at + 9) (length bytes)
  pub are : bytes ≡ pairs_at text (at + 9) (length bytes)
  pub within : at + 2 * length bytes + 12 ≤ at + length (line_at text at)

pub data_at : (text : List ℕ) (at address : ℕ) (bytes : List ℕ) → at < length text → parsed (line_at text at) ≡ Ok (Data address bytes) → DataAt text at bytes
data_at text at address bytes inside e =
    let sound : Sound (line_at text at) = λ reason h. not_data (parsed (line_at text at)) address bytes reason h e in
    let f : Formed text at = sound_formed text at inside sound in
    let count = pair_at text (at + 1) in
    let o : Orderly text at count (after_pairs text at + ending_at text (after_pairs text at)) = orderly text at inside f in
    let t : typed (line_pairs text at count) ≡ Ok (Data address bytes) = sym (sound_typed text at count (after_pairs text at + ending_at text (after_pairs text at)) o sound) ∙ e in
    let b : bytes ≡ take (count_of (line_pairs text at count)) (drop 4 (line_pairs text at count)) = data_bytes (line_pairs text at count) address bytes t in
    let g : bytes ≡ pairs_at text (at + 9) count = b ∙ rw (count_is text at count) (data_is text at count) in
    let l : length bytes ≡ count = ap (λ (x : List ℕ). length x) g ∙ length_pairs text count (at + 9) in
    let ends : after_pairs text at + ending_at text (after_pairs text at) ≡ at + length (line_at text at) = o.ends in
    let one : 1 ≤ ending_at text (after_pairs text at) = f.ending in
    record { pairs = rw l (shifted text at count f.pairs); are = rw l g; within = omega arith }
  where
    shifted : (text : List ℕ) (at count : ℕ) → ArePairs text (at + 1) (count + 5) → ArePairs text (at + 9) count
    shifted text at count h j k = let e : at + 1 + 2 * (j + 4) ≡ at + 9 + 2 * j = omega arith in rw e at (h (j + 4) (omega arith))

-- A line that the code told of, at a place within the text: its record, and where it ends.
pub record Told (text : List ℕ) (at : ℕ) (line : CodeLine) : Type 0 where
  pub inside : at < length text
  pub is : Ok line ≡ as_line (parsed (line_at text at)) (after text at)

module _ {text : List ℕ} {at : ℕ} {line : CodeLine} (told : Told text at line) where
  module _ {address count end : ℕ} (e : line ≡ DataLine address count end) where
    pub told_bytes : (bytes : List ℕ) × ((parsed (line_at text at) ≡ Ok (Data address bytes)) × (length bytes ≡ count) × (after text at ≡ end))
    told_bytes = line_data (parsed (line_at text at)) (after text at) address count end (sym told.is ∙ ap Ok e)

    pub told_data : DataAt text at told_bytes.0
    told_data = data_at text at address told_bytes.0 told.inside told_bytes.1.0

    pub told_long : (at + 2 * count + 12 ≤ end) × (end ≤ length text)
    told_long =
        let w : at + 2 * length told_bytes.0 + 12 ≤ at + length (line_at text at) = told_data.within in
        let l : length told_bytes.0 ≡ count = told_bytes.1.1 in
        let n : after text at ≡ end = told_bytes.1.2 in
        let b : (1 ≤ length (line_at text at)) × (after text at ≤ length text) = line_long text at told.inside in
        (omega arith, omega arith)

  pub told_upper : {upper end : ℕ} → line ≡ ExtendedLinearAddressLine upper end → (parsed (line_at text at) ≡ Ok (ExtendedLinearAddress upper)) × (after text at ≡ end) × (at < end) × (end ≤ length text)
  told_upper {upper} {end} e =
      let l : (parsed (line_at text at) ≡ Ok (ExtendedLinearAddress upper)) × (after text at ≡ end) = line_upper (parsed (line_at text at)) (after text at) upper end (sym told.is ∙ ap Ok e) in
      let b : (1 ≤ length (line_at text at)) × (after text at ≤ length text) = line_long text at told.inside in
      (l.0, l.1, omega arith, omega arith)

  pub told_end : {end : ℕ} → line ≡ EndLine end → (parsed (line_at text at) ≡ Ok End) × (after text at ≡ end) × (at < end) × (end ≤ length text)
  told_end {end} e =
      let l : (parsed (line_at text at) ≡ Ok End) × (after text at ≡ end) = line_end (parsed (line_at text at)) (after text at) end (sym told.is ∙ ap Ok e) in
      let b : (1 ≤ length (line_at text at)) × (after text at ≤ length text) = line_long text at told.inside in
      (l.0, l.1, omega arith, omega arith)
