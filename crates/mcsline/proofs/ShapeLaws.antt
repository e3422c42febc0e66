-- Laws of a line's shape: which characters a line that is not refused with 14 has, and what it then comes to.
use Prim.Native.Nat.{ℕ, suc, ◌+◌, ◌-◌, ◌*◌, ◌%◌, ◌<◌, ◌≤◌}
use mathlib.Core.Path.{◌≡◌, refl, sym, ap, ap₂, ◌∙◌}
use mathlib.Core.Bool.{Bool, true, false}
use mathlib.Core.List.{List}
use native.Mathlib.Omega.{arith}
use borrow.Author.Tests.{eqb-true, eqb-false, eq-eqb, ne_eqb}
use lib.Dec.{eqb}
use lib.ListN.{length, get_or}
use Rattle.base.specs.Question.{ask}
use Rattle.digits.specs.Digit.{byte_sum}
use Rattle.digits.specs.Pairs.{pair_at, ArePairs, pairs_at, Summed}
use Rattle.digits.proofs.Laws.{length_pairs, get_or_pairs}
use Rattle.mcsline.specs.Record.{COLON, Data, ExtendedLinearAddress, End}
use Rattle.mcsline.specs.Line.{by_spelled, line_spells, count_of, Parsed, typed, parsed}
use Rattle.mcsline.specs.Place.{ending_at, line_at, Sound, Orderly, ShapeIs, as_line}
use Rattle.mcsline.proofs.LineLaws.{spelled_at, spells, spelled, line_spells_law, line_colon, line_long}
use Rattle.mcsline.proofs.TypeLaws.{line_pairs, count_is}
use Rattle.std.specs.Prelude.{Option, Some, None, Ok, Err, IsOk}
use Rattle.mcsline.specs.Types.{BadLine, BadSum, Shape}

-- Question 11 by what a line spells.

pub parsed_broken : (line : List ℕ) → line_spells line ≡ None → parsed line ≡ Err BadLine
unfolding parsed by_spelled
parsed_broken line e = rw e refl

module _ (line pairs : List ℕ) (e : line_spells line ≡ Some pairs) where
  pub parsed_count : eqb (length pairs) (count_of pairs + 5) ≡ false → parsed line ≡ Err BadLine
  unfolding parsed by_spelled ask
  parsed_count n = rw e (rw n refl)

  pub parsed_sum : length pairs ≡ count_of pairs + 5 → (byte_sum pairs % 256 ≡ 0 → ⊥) → parsed line ≡ Err BadSum
  unfolding parsed by_spelled ask
  parsed_sum n s = rw e (rw (eq-eqb _ _ n, ne_eqb _ _ s) refl)

  pub parsed_typed : length pairs ≡ count_of pairs + 5 → byte_sum pairs % 256 ≡ 0 → parsed line ≡ typed pairs
  unfolding parsed by_spelled ask
  parsed_typed n s = rw e (rw (eq-eqb _ _ n, eq-eqb _ _ s) refl)

-- Where a line of as many bytes as its count says ends.
abbrev pub after_pairs : List ℕ → ℕ → ℕ
after_pairs text at = at + 2 * pair_at text (at + 1) + 11

-- the characters of a line, by their places
pub record Formed (text : List ℕ) (at : ℕ) : Type 0 where
  pub colon : get_or text at 0 ≡ COLON
  pub pairs : ArePairs text (at + 1) (pair_at text (at + 1) + 5)
  pub ending : 1 ≤ ending_at text (after_pairs text at)

-- a line is refused with 14, or has these characters
pub data Form (text : List ℕ) (at : ℕ) : Type 0 where
  unformed : parsed (line_at text at) ≡ Err BadLine → Form text at
  formed : Formed text at → Form text at

module _ (text : List ℕ) (at : ℕ) (inside : at < length text) where
  formed_by : (pairs : List ℕ) → line_spells (line_at text at) ≡ Some pairs → length pairs ≡ count_of pairs + 5 → Formed text at
  formed_by pairs e n =
      let colon : get_or text at 0 ≡ COLON = line_colon text at pairs inside e in
      let facts : ArePairs text (at + 1) (length pairs) × (pairs ≡ pairs_at text (at + 1) (length pairs)) × (1 ≤ ending_at text (at + 1 + 2 * length pairs)) =
      spelled text pairs (at + 1) (sym (line_spells_law text at inside colon).0 ∙ e) in
      let z : at + 1 + 2 * 0 ≡ at + 1 = omega arith in
      let count : count_of pairs ≡ pair_at text (at + 1) =
      ap (λ (l : List ℕ). get_or l 0 0) facts.1 ∙ get_or_pairs text 0 (length pairs) (at + 1) (omega arith) ∙ rw z refl in
      let long : length pairs ≡ pair_at text (at + 1) + 5 = n ∙ rw count refl in
      let after : at + 1 + 2 * (pair_at text (at + 1) + 5) ≡ after_pairs text at = omega arith in
      record { colon = colon; pairs = rw long at facts.0; ending = rw after at (rw long at facts.2) }

  pub form : Form text at
  form = go (line_spells (line_at text at)) refl
    where
      by_count : (pairs : List ℕ) (b : Bool) → line_spells (line_at text at) ≡ Some pairs → eqb (length pairs) (count_of pairs + 5) ≡ b → Form text at
      by_count pairs true e n = formed (formed_by pairs e (eqb-true _ _ n))
      by_count pairs false e n = unformed (parsed_count (line_at text at) pairs e n)

      go : (s : Option (List ℕ)) → line_spells (line_at text at) ≡ s → Form text at
      go (Some pairs) e = by_count pairs (eqb (length pairs) (count_of pairs + 5)) e refl
      go None e = unformed (parsed_broken (line_at text at) e)

  pub unformed_by : (Formed text at → ⊥) → parsed (line_at text at) ≡ Err BadLine
  unformed_by h = go form
    where
      go : Form text at → parsed (line_at text at) ≡ Err BadLine
      go (unformed e) = e
      go (formed f) = absurd (h f)

  pub orderly : Formed text at → Orderly text at (pair_at text (at + 1)) (after_pairs text at + ending_at text (after_pairs text at))
  orderly f =
      let count = pair_at text (at + 1) in
      let after : at + 1 + 2 * (count + 5) ≡ after_pairs text at = omega arith in
      let line : (line_spells (line_at text at) ≡ spelled_at text (at + 1)) × (length (line_at text at) ≡ suc (length (line_at text (at + 1)))) =
      line_spells_law text at inside f.colon in
      let rest : (spelled_at text (at + 1) ≡ Some (line_pairs text at count)) × (length (line_at text (at + 1)) ≡ 2 * (count + 5) + ending_at text (after_pairs text at)) =
      rw after at (spells text (count + 5) (at + 1) f.pairs (rw after f.ending)) in
      let bound : at + length (line_at text at) ≤ length text = (line_long text at inside).1 in
      let e : 1 ≤ ending_at text (after_pairs text at) = f.ending in
      record { spells = line.0 ∙ rest.0; counted = refl; ends = omega arith; long = omega arith }

pub formed_long : (text : List ℕ) (at : ℕ) → at < length text → Formed text at → after_pairs text at + 1 ≤ length text
formed_long text at inside f =
    let bound : at + length (line_at text at) ≤ length text = (line_long text at inside).1 in
    let ends : after_pairs text at + ending_at text (after_pairs text at) ≡ at + length (line_at text at) = (orderly text at inside f).ends in
    let e : 1 ≤ ending_at text (after_pairs text at) = f.ending in
    omega arith

-- A line's shape from what the code has seen of it: each thing that a line lacks, or all that it has.
module _ (text : List ℕ) (at : ℕ) (inside : at < length text) where
  shapeless : (Formed text at → ⊥) → ShapeIs text at None
  unfolding ShapeIs
  shapeless h = unformed_by text at inside h

  pub none_short : length text - at < 12 → ShapeIs text at None
  none_short h = shapeless (λ f. let l = formed_long text at inside f in omega arith)

  pub none_colon : (get_or text at 0 ≡ COLON → ⊥) → ShapeIs text at None
  none_colon h = shapeless (λ f. h f.colon)

  pub none_room : length text - at < 2 * pair_at text (at + 1) + 12 → ShapeIs text at None
  none_room h = shapeless (λ f. let l = formed_long text at inside f in omega arith)

  pub none_pairs : Summed text (at + 1) (pair_at text (at + 1) + 5) None → ShapeIs text at None
  unfolding Summed
  none_pairs h = shapeless (λ f. h f.pairs)

  pub none_ending : ending_at text (after_pairs text at) ≡ 0 → ShapeIs text at None
  none_ending h = shapeless (λ f. let e : 1 ≤ ending_at text (after_pairs text at) = f.ending in omega arith)

  pub some_shape : (sum : ℕ) → get_or text at 0 ≡ COLON → Summed text (at + 1) (pair_at text (at + 1) + 5) (Some sum) → (ending_at text (after_pairs text at) ≡ 0 → ⊥) →
      ShapeIs text at (Some (record { count = pair_at text (at + 1); sum = sum; end = after_pairs text at + ending_at text (after_pairs text at) }))
  unfolding ShapeIs Summed
  some_shape sum colon summed some = (orderly text at inside (record { colon = colon; pairs = summed.0; ending = omega arith }), summed.1)

-- what `line::shape_of` goes by
pub ruleset shapes = (none_short, none_colon, none_room, none_pairs, none_ending, some_shape)

-- the pairs of an orderly line are as many as its count says
pub orderly_count : (text : List ℕ) (at count end : ℕ) → Orderly text at count end → length (line_pairs text at count) ≡ count_of (line_pairs text at count) + 5
orderly_count text at count end o =
    let a : length (line_pairs text at count) ≡ count + 5 = length_pairs text (count + 5) (at + 1) in
    let b : count_of (line_pairs text at count) ≡ pair_at text (at + 1) = count_is text at count in
    let e : count ≡ pair_at text (at + 1) = o.counted in
    a ∙ ap (λ (n : ℕ). n + 5) (e ∙ sym b)

-- a sound line is orderly, and its pairs make its record
pub sound_formed : (text : List ℕ) (at : ℕ) → at < length text → Sound (line_at text at) → Formed text at
sound_formed text at inside sound = go (form text at inside)
  where
    go : Form text at → Formed text at
    go (unformed e) = absurd (sound BadLine e)
    go (formed f) = f

pub sound_typed : (text : List ℕ) (at count end : ℕ) → Orderly text at count end → Sound (line_at text at) → parsed (line_at text at) ≡ typed (line_pairs text at count)
sound_typed text at count end o sound = go (eqb (byte_sum (line_pairs text at count) % 256) 0) refl
  where
    go : (b : Bool) → eqb (byte_sum (line_pairs text at count) % 256) 0 ≡ b → parsed (line_at text at) ≡ typed (line_pairs text at count)
    go true e = parsed_typed (line_at text at) (line_pairs text at count) o.spells (orderly_count text at count end o) (eqb-true _ _ e)
    go false e = absurd (sound BadSum (parsed_sum (line_at text at) (line_pairs text at count) o.spells (orderly_count text at count end o) (eqb-false _ _ e)))

-- What the code makes of a line's shape.
module _ (text : List ℕ) (at : ℕ) where
  pub shape_long : (shape : Shape) → ShapeIs text at (Some shape) → (at + 2 * shape.count + 11 ≤ length text) × (shape.count ≡ pair_at text (at + 1))
  unfolding ShapeIs
  shape_long shape h = (h.0.long, h.0.counted)

  pub none_line : (end : ℕ) → ShapeIs text at None → as_line (parsed (line_at text at)) end ≡ Err BadLine
  unfolding ShapeIs as_line
  none_line end h = rw h refl

  pub unsummed_line : (shape : Shape) (end : ℕ) → ShapeIs text at (Some shape) → (shape.sum % 256 ≡ 0 → ⊥) → as_line (parsed (line_at text at)) end ≡ Err BadSum
  unfolding ShapeIs as_line
  unsummed_line shape end h n =
      rw (parsed_sum (line_at text at) (line_pairs text at shape.count) h.0.spells (orderly_count text at shape.count shape.end h.0) (λ e. n (rw h.1 e))) refl

  pub summed_line : (shape : Shape) → ShapeIs text at (Some shape) → shape.sum % 256 ≡ 0 →
      as_line (parsed (line_at text at)) (at + length (line_at text at)) ≡ as_line (typed (pairs_at text (at + 1) (shape.count + 5))) shape.end
  unfolding ShapeIs
  summed_line shape h s =
      sym (ap₂ as_line (sym (parsed_typed (line_at text at) (line_pairs text at shape.count) h.0.spells (orderly_count text at shape.count shape.end h.0) (rw h.1 at s))) h.0.ends)

-- what `line::parse` goes by
pub ruleset shaped_lines = (shape_long, none_line, unsummed_line, summed_line)

-- A sound line in the code's form: its pairs end within the text, and make its record, which is none that is refused.
module _ (text : List ℕ) (at : ℕ) (inside : at < length text) (sound : Sound (line_at text at)) where
  pub sound_long : at + 2 * pair_at text (at + 1) + 12 ≤ length text
  sound_long = let l = formed_long text at inside (sound_formed text at inside sound) in omega arith

  -- so it has a line end
  pub sound_ended : ending_at text (after_pairs text at) ≡ 0 → ⊥
  sound_ended z = let e : 1 ≤ ending_at text (after_pairs text at) = (sound_formed text at inside sound).ending in omega arith

  sound_orderly : Orderly text at (pair_at text (at + 1)) (after_pairs text at + ending_at text (after_pairs text at))
  sound_orderly = orderly text at inside (sound_formed text at inside sound)

  typed_same : typed (line_pairs text at (pair_at text (at + 1))) ≡ parsed (line_at text at)
  typed_same = sym (sound_typed text at _ _ sound_orderly sound)

  pub sound_line : as_line (parsed (line_at text at)) (at + length (line_at text at)) ≡ as_line (typed (line_pairs text at (pair_at text (at + 1)))) (after_pairs text at + ending_at text (after_pairs text at))
  sound_line = sym (ap₂ as_line typed_same sound_orderly.ends)

  pub sound_is : (end : ℕ) → IsOk (as_line (typed (line_pairs text at (pair_at text (at + 1)))) end)
  unfolding as_line
  sound_is end = go (typed (line_pairs text at (pair_at text (at + 1)))) typed_same
    where
      go : (p : Parsed) → p ≡ parsed (line_at text at) → IsOk (as_line p end)
      go (Err reason) e = absurd (sound reason (sym e))
      go (Ok (Data address bytes)) e = refl
      go (Ok (ExtendedLinearAddress half)) e = refl
      go (Ok End) e = refl

-- what `line::parse_sound` goes by
pub ruleset sound_lines = (sound_long, sound_ended, sound_line, sound_is)
