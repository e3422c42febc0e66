-- Question 10's rule for the bits of segment 0: it goes byte by byte, and says what a chip's life says of a cut order.
use Prim.Native.Nat.{ℕ, zero, suc, ◌+◌, ◌<◌, ◌≤◌}
use mathlib.Core.Path.{◌≡◌, refl, sym, ap, ap₂, ◌∙◌}
use mathlib.Core.Bool.{Bool, true, false, ◌&&◌}
use mathlib.Core.Logic.{⊎_elim}
use mathlib.Core.List.{List, [], ◌∷◌}
use native.Mathlib.Omega.{arith}
use borrow.Author.Tests.{eq-eqb, eqb-true, leb-true, le-leb, lt-leb, lt-ltb, le-ltb}
use lib.Bits.{bit_and, bit_xor, and_comm}
use lib.Dec.{eqb}
use lib.ListN.{length, get_or, take}
use lib.Seq.{length-take-le, get_or-take}
use Rattle.base.specs.Question.{ask}
use Rattle.base.proofs.Laws.{asked, both_true, false_true, below_or_not}
use Rattle.kind.specs.Layout.{segment}
use Rattle.flash.specs.Flash.{span, BitwiseMix}
use Rattle.chip.specs.Cut.{MayLeave}
use Rattle.flash.proofs.Laws.{span_length, each_bit, no_bit_differs}
use Rattle.effects.specs.Effects.{Bytes}
use Rattle.bench.specs.Bench.{mixture, span_allows}

-- one byte: no bit of the new one differs from both
abbrev pub mixes : ℕ → ℕ → ℕ → Bool
mixes old ordered new = eqb (bit_and (bit_xor new old) (bit_xor new ordered)) 0

-- What is old and what is ordered may change places.
pub mixture_swap : (old ordered new : List ℕ) → mixture old ordered new ≡ mixture ordered old new
unfolding mixture
mixture_swap (a ∷ old) (b ∷ ordered) (c ∷ new) = ap₂ (λ (x y : Bool). x && y) (ap (λ (d : ℕ). eqb d 0) (and_comm (bit_xor c a) (bit_xor c b))) (mixture_swap old ordered new)
mixture_swap (a ∷ old) (b ∷ ordered) [] = refl
mixture_swap (a ∷ old) [] new = refl
mixture_swap [] (b ∷ ordered) new = refl
mixture_swap [] [] new = refl

-- Every byte is a mixture,
mixture_bytes : (old ordered new : List ℕ) → length old ≡ length new → length ordered ≡ length new → mixture old ordered new ≡ true →
    (i : ℕ) → i < length new → mixes (get_or old i 0) (get_or ordered i 0) (get_or new i 0) ≡ true
unfolding mixture
mixture_bytes old ordered [] p q e i h = absurd (omega arith)
mixture_bytes [] ordered (c ∷ new) p q e i h = absurd (omega arith)
mixture_bytes (a ∷ old) [] (c ∷ new) p q e i h = absurd (omega arith)
mixture_bytes (a ∷ old) (b ∷ ordered) (c ∷ new) p q e zero h = (both_true (mixes a b c) (mixture old ordered new) e).0
mixture_bytes (a ∷ old) (b ∷ ordered) (c ∷ new) p q e (suc i) h = mixture_bytes old ordered new (omega arith) (omega arith) (both_true (mixes a b c) (mixture old ordered new) e).1 i (omega arith)

-- and that is all.
bytes_mixture : (old ordered new : List ℕ) → length old ≡ length new → length ordered ≡ length new →
    ((i : ℕ) → i < length new → mixes (get_or old i 0) (get_or ordered i 0) (get_or new i 0) ≡ true) → mixture old ordered new ≡ true
unfolding mixture
bytes_mixture [] ordered new p q each = refl
bytes_mixture (a ∷ old) [] new p q each = refl
bytes_mixture (a ∷ old) (b ∷ ordered) [] p q each = refl
bytes_mixture (a ∷ old) (b ∷ ordered) (c ∷ new) p q each =
    rw (each 0 (omega arith)) (bytes_mixture old ordered new (omega arith) (omega arith) (λ i h. each (suc i) (omega arith)))

-- Bytes that question 10 allows are those that a life allows a cut order to leave in segment 0,
pub mixture_mixed : (old ordered new : List ℕ) → length old ≡ length new → length ordered ≡ length new → mixture old ordered new ≡ true → BitwiseMix old ordered new
mixture_mixed old ordered new p q e i h n m =
    let none : bit_and (bit_xor (get_or new i 0) (get_or old i 0)) (bit_xor (get_or new i 0) (get_or ordered i 0)) ≡ 0 = eqb-true _ _ (mixture_bytes old ordered new p q e i h) in
    each_bit (get_or old i 0) (get_or ordered i 0) (get_or new i 0) none n

-- and those only.
pub mixed_mixture : (old ordered new : List ℕ) → length old ≡ length new → length ordered ≡ length new →
    ((i : ℕ) → i < length new → (get_or old i 0 < 256) × (get_or ordered i 0 < 256) × (get_or new i 0 < 256)) → BitwiseMix old ordered new → mixture old ordered new ≡ true
mixed_mixture old ordered new p q bytes mixed = bytes_mixture old ordered new p q (λ i h. eq-eqb _ _ (none i h))
  where
    none : (i : ℕ) → i < length new → bit_and (bit_xor (get_or new i 0) (get_or old i 0)) (bit_xor (get_or new i 0) (get_or ordered i 0)) ≡ 0
    none i h =
        let b = bytes i h in
        no_bit_differs 8 (get_or old i 0) (get_or ordered i 0) (get_or new i 0) b.0 b.1 b.2 (mixed i h)

-- Question 10 for a span: too few bytes; outside segment 0; in it.
module _ (place : ℕ) (old ordered damage : List ℕ) where
  pub allows_short : length damage < length ordered → span_allows place old ordered damage ≡ false
  unfolding span_allows ask
  allows_short l = rw (lt-leb (length ordered) (length damage) l) refl

  pub allows_far : length ordered ≤ length damage → segment ≤ place → span_allows place old ordered damage ≡ true
  unfolding span_allows ask
  allows_far l h = rw (le-leb (length ordered) (length damage) l, le-ltb place segment h, span_allows) refl

  pub allows_near : length ordered ≤ length damage → place < segment → span_allows place old ordered damage ≡ mixture old ordered (take (length ordered) damage)
  unfolding span_allows ask
  allows_near l h = rw (le-leb (length ordered) (length damage) l, lt-ltb place segment h, span_allows) refl

-- A yes means that there are bytes for the span.
pub allows_enough : (place : ℕ) (old ordered damage : List ℕ) → span_allows place old ordered damage ≡ true → length ordered ≤ length damage
unfolding span_allows
allows_enough place old ordered damage e = leb-true _ _ (asked _ _ _ _ e false_true).0

-- Outside segment 0 only the length counts.
pub allows_elsewhere : (place : ℕ) (old ordered others filling damage : List ℕ) → segment ≤ place → length ordered ≡ length filling → span_allows place old ordered damage ≡ span_allows place others filling damage
allows_elsewhere place old ordered others filling damage far e =
    ⊎_elim
    (λ l. allows_short place old ordered damage l ∙ sym (allows_short place others filling damage (omega arith)))
    (λ l. allows_far place old ordered damage l far ∙ sym (allows_far place others filling damage (omega arith) far))
    (below_or_not (length damage) (length ordered))

-- What is old and what is ordered may change places.
pub allows_swap : (place : ℕ) (old ordered damage : List ℕ) → place < segment → length old ≡ length ordered → span_allows place old ordered damage ≡ span_allows place ordered old damage
allows_swap place old ordered damage near e =
    ⊎_elim
    (λ l. allows_short place old ordered damage l ∙ sym (allows_short place ordered old damage (omega arith)))
    (λ l.
    allows_near place old ordered damage l near
    ∙ mixture_swap old ordered (take (length ordered) damage)
    ∙ ap (λ (k : ℕ). mixture ordered old (take k damage)) (sym e)
    ∙ sym (allows_near place ordered old damage (omega arith) near))
    (below_or_not (length damage) (length ordered))

-- What it allows a span to hold, a life allows a cut order to leave there.
pub allows_may : (chip : List ℕ) (place : ℕ) (obeyed damage : List ℕ) → place + length obeyed ≤ length chip → Bytes damage →
    span_allows place (span chip place (length obeyed)) obeyed damage ≡ true → MayLeave chip place obeyed (take (length obeyed) damage)
allows_may chip place obeyed damage fits bytes e = record {
  fills = filled;
  bytes = λ i h. rw (get_or-take (length obeyed) damage i 0 (omega (arith, filled))) (bytes i (omega (arith, filled, enough)));
  mixed = λ near.
      mixture_mixed (span chip place (length obeyed)) obeyed (take (length obeyed) damage) (span_length chip place (length obeyed) fits ∙ sym filled) (sym filled)
      (sym (allows_near place (span chip place (length obeyed)) obeyed damage enough near) ∙ e);
}
  where
    enough : length obeyed ≤ length damage
    enough = allows_enough place (span chip place (length obeyed)) obeyed damage e

    filled : length (take (length obeyed) damage) ≡ length obeyed
    filled = length-take-le (length obeyed) damage enough
