-- Orders on a chip that obeys, byte by byte: what an erase, a program over FF and a look leave.
use Prim.Native.Nat.{ℕ, ◌+◌, ◌-◌, ◌<◌, ◌≤◌}
use mathlib.Core.Path.{◌≡◌, refl, ap, ◌∙◌}
use mathlib.Core.List.{List}
use native.Mathlib.Omega.{arith}
use native.Mathlib.Nat.{mod-eq_of_lt}
use lib.Bits.{bit_and, and_comm, and_le_r, and_mask}
use lib.ListN.{length, get_or}
use lib.Seq.{ext_get_or}
use Rattle.flash.specs.Flash.{erased, span, overwrite, after_program}
use Rattle.flash.proofs.Laws.{span_at, span_length, overwrite_length, overwrite_before, overwrite_inside, overwrite_after, erased_length, erased_at, cleared_length, cleared_at}
use Rattle.chip.proofs.Laws.{obeyed_may}
use Rattle.orders.specs.Orders.{Order, erase, program, look}
use Rattle.effects.specs.Effects.{obeyed_span, leaves, obeyed}
use Rattle.life.specs.Life.{AdmissibleSpan, reply_kind_of, bytes_read}
use Rattle.life.specs.OrderList.{Replies}

-- What an order does on a chip that obeys: it leaves what it may, its reply is the one it asks for, and the chip stays as long.
pub record Obeys (order : Order) (chip : List ℕ) : Type 0 where
  pub may : AdmissibleSpan order chip (obeyed_span order chip)
  pub replied : Replies order (reply_kind_of order) (bytes_read order (obeyed order chip))
  pub long : length (obeyed order chip) ≡ length chip

-- An erase leaves FF.
module _ (chip : List ℕ) (place count : ℕ) (fits : place + count ≤ length chip) where
  within : place + length (erased count) ≤ length chip
  within = let e = erased_length count in omega (arith, fits)

  pub erase_obeys : Obeys (erase place count) chip
  unfolding AdmissibleSpan obeyed_span leaves Replies reply_kind_of bytes_read
  erase_obeys = record {
    may = obeyed_may chip place (erased count) (λ i h. rw (erased_at count i (let e = erased_length count in omega arith)) (omega arith));
    replied = (refl, refl);
    long = overwrite_length chip place (erased count) within;
  }

  pub erase_before : (i : ℕ) → i < place → get_or (obeyed (erase place count) chip) i 0 ≡ get_or chip i 0
  unfolding obeyed_span leaves
  erase_before i h = overwrite_before chip place (erased count) within i 0 h

  pub erase_inside : (i : ℕ) → place ≤ i → i < place + count → get_or (obeyed (erase place count) chip) i 0 ≡ 0xFF
  unfolding obeyed_span leaves
  erase_inside i a b =
      let e : i ≡ place + (i - place) = omega arith in
      let l = erased_length count in
      ap (λ (k : ℕ). get_or (overwrite chip place (erased count)) k 0) e
      ∙ overwrite_inside chip place (erased count) within (i - place) 0 (omega arith)
      ∙ erased_at count (i - place) (omega arith)

-- A program of bytes over FF leaves the bytes.
over_ones : (byte : ℕ) → byte < 256 → bit_and 0xFF byte ≡ byte
over_ones byte h = and_comm 0xFF byte ∙ and_mask byte 8 ∙ mod-eq_of_lt h

-- What a program leaves is as long as its bytes.
pub program_length : (chip : List ℕ) (place : ℕ) (bytes : List ℕ) → place + length bytes ≤ length chip → length (after_program chip place bytes) ≡ length bytes
program_length chip place bytes fits = cleared_length (span chip place (length bytes)) bytes (span_length chip place (length bytes) fits)

module _ (chip : List ℕ) (place : ℕ) (bytes : List ℕ) (fits : place + length bytes ≤ length chip) (small : (i : ℕ) → i < length bytes → get_or bytes i 0 < 256) where
  old_length : length (span chip place (length bytes)) ≡ length bytes
  old_length = span_length chip place (length bytes) fits

  new_length : length (after_program chip place bytes) ≡ length bytes
  new_length = program_length chip place bytes fits

  new_within : place + length (after_program chip place bytes) ≤ length chip
  new_within = let e = new_length in omega (arith, fits)

  new_at : (i : ℕ) → i < length bytes → get_or (after_program chip place bytes) i 0 ≡ bit_and (get_or chip (place + i) 0) (get_or bytes i 0)
  new_at i h =
      cleared_at (span chip place (length bytes)) bytes i old_length h
      ∙ ap (λ (o : ℕ). bit_and o (get_or bytes i 0)) (span_at chip place (length bytes) i h)

  pub program_over_erased : ((i : ℕ) → i < length bytes → get_or chip (place + i) 0 ≡ 0xFF) → after_program chip place bytes ≡ bytes
  program_over_erased blank = ext_get_or 0 (after_program chip place bytes) bytes new_length (λ i h.
      let k : i < length bytes = (let e = new_length in omega arith) in
      new_at i k ∙ ap (λ (o : ℕ). bit_and o (get_or bytes i 0)) (blank i k) ∙ over_ones (get_or bytes i 0) (small i k))

  pub program_obeys : Obeys (program place bytes) chip
  unfolding AdmissibleSpan obeyed_span leaves Replies reply_kind_of bytes_read
  program_obeys = record {
    may = obeyed_may chip place (after_program chip place bytes) (λ i h.
        let k : i < length bytes = (let e = new_length in omega arith) in
        let s = small i k in
        let l = and_le_r (get_or chip (place + i) 0) (get_or bytes i 0) in
        rw (new_at i k) (omega arith));
    replied = (refl, refl);
    long = overwrite_length chip place (after_program chip place bytes) new_within;
  }

  pub program_before : (i : ℕ) → i < place → get_or (obeyed (program place bytes) chip) i 0 ≡ get_or chip i 0
  unfolding obeyed_span leaves
  program_before i h = overwrite_before chip place (after_program chip place bytes) new_within i 0 h

  pub program_inside : (i : ℕ) → i < length bytes → get_or chip (place + i) 0 ≡ 0xFF → get_or (obeyed (program place bytes) chip) (place + i) 0 ≡ get_or bytes i 0
  unfolding obeyed_span leaves
  program_inside i h blank =
      overwrite_inside chip place (after_program chip place bytes) new_within i 0 (let e = new_length in omega arith)
      ∙ new_at i h
      ∙ ap (λ (o : ℕ). bit_and o (get_or bytes i 0)) blank
      ∙ over_ones (get_or bytes i 0) (small i h)

  pub program_after : (i : ℕ) → place + length bytes ≤ i → get_or (obeyed (program place bytes) chip) i 0 ≡ get_or chip i 0
  unfolding obeyed_span leaves
  program_after i h = overwrite_after chip place (after_program chip place bytes) new_within i 0 (let e = new_length in omega arith)

-- A look that finds what is expected changes nothing.
pub look_obeys : (chip : List ℕ) (place : ℕ) (bytes : List ℕ) → place + length bytes ≤ length chip → ((i : ℕ) → i < length bytes → get_or chip (place + i) 0 ≡ get_or bytes i 0) → Obeys (look place bytes) chip
unfolding AdmissibleSpan obeyed_span leaves Replies reply_kind_of bytes_read
look_obeys chip place bytes fits same =
    let l : length (span chip place (length bytes)) ≡ length bytes = span_length chip place (length bytes) fits in
    record {
      may = tt;
      replied = (refl, ext_get_or 0 (span chip place (length bytes)) bytes l (λ i h. span_at chip place (length bytes) i (omega arith) ∙ same i (omega arith)));
      long = refl;
    }
