-- Laws of the switch word: its bytes, and which words are ON on an SPI chip.
use Prim.Native.Nat.{ℕ, zero, suc, ◌+◌, ◌-◌, ◌<◌, ◌≤◌}
use mathlib.Core.Path.{◌≡◌, refl, sym, ap, ◌∙◌}
use mathlib.Core.Bool.{Bool, true, false, ◌&&◌}
use mathlib.Core.List.{List, [], ◌∷◌}
use native.Mathlib.Omega.{arith}
use lib.Dec.{eqb}
use lib.ListN.{length, get_or, take, drop}
use Rattle.std.specs.List.{starts_with}
use lib.Seq.{get_or-drop}
use Rattle.framing.specs.Search.{sync_bytes, begins_with}
use Rattle.base.proofs.Laws.{false_of, false_true}
use Rattle.framing.proofs.Laws.{starts_begins, starts_at, starts_all, starts_differs}
use Rattle.kind.specs.Layout.{switch_at}
use Rattle.flash.specs.Flash.{bit}
use Rattle.kind.specs.Spi.{spi, spi_on}
use Rattle.chip.specs.Chip.{switch_word, BitSuperset}
use Rattle.flash.proofs.Laws.{span_at, span_length, same_bits}

pub word_at_law : (chip : List ℕ) (j : ℕ) → j < 4 → get_or (switch_word chip) j 0 ≡ get_or chip (switch_at + j) 0
word_at_law chip j h = span_at chip switch_at 4 j h

-- What begins where a pattern does: more bytes after the pattern make no difference.
pub begins_taken : (pattern bytes : List ℕ) (n : ℕ) → length pattern ≤ n → begins_with pattern (take n bytes) ≡ begins_with pattern bytes
unfolding begins_with
begins_taken [] bytes n h = refl
begins_taken (p ∷ pattern) bytes zero h = absurd (omega arith)
begins_taken (p ∷ pattern) [] (suc n) h = refl
begins_taken (p ∷ pattern) (byte ∷ bytes) (suc n) h = ap (λ (b : Bool). eqb byte p && b) (begins_taken pattern bytes n (omega arith))

-- The switch is ON where the bytes from its place on start with ON.
pub is_on_by : (chip : List ℕ) {on : Bool} → 4096 ≤ length chip → on ≡ starts_with eqb (take (length chip - switch_at) (drop switch_at chip)) spi_on → spi.is_on (switch_word chip) ≡ on
is_on_by chip l e =
    begins_taken spi_on (drop switch_at chip) 4 (omega arith)
    ∙ sym (begins_taken spi_on (drop switch_at chip) (length chip - switch_at) (omega arith))
    ∙ sym (starts_begins spi_on (take (length chip - switch_at) (drop switch_at chip)))
    ∙ sym e

-- It is ON where the four bytes of ON stand, and nowhere else.
pub is_on_law : (chip : List ℕ) → 4096 ≤ length chip → ((j : ℕ) → j < 4 → get_or chip (switch_at + j) 0 ≡ get_or spi_on j 0) → spi.is_on (switch_word chip) ≡ true
is_on_law chip l h =
    let e : length (switch_word chip) ≡ 4 = span_length chip switch_at 4 l in
    starts_all spi_on (switch_word chip) (omega arith) (λ j k. word_at_law chip j k ∙ h j k)

pub is_off_law : (chip : List ℕ) (j : ℕ) → j < 4 → (get_or chip (switch_at + j) 0 ≡ get_or spi_on j 0 → ⊥) → spi.is_on (switch_word chip) ≡ false
is_off_law chip j h differs = starts_differs spi_on (switch_word chip) j h (λ e. differs (sym (word_at_law chip j h) ∙ e))

pub on_bytes : (chip : List ℕ) → spi.is_on (switch_word chip) ≡ true → (j : ℕ) → j < 4 → get_or chip (switch_at + j) 0 ≡ get_or spi_on j 0
on_bytes chip e j h = sym (word_at_law chip j h) ∙ starts_at spi_on (switch_word chip) e j h

-- Where it is OFF, no sync word begins there.
pub off_no_sync : (chip : List ℕ) → 4096 ≤ length chip → spi.is_on (switch_word chip) ≡ false → begins_with sync_bytes (drop switch_at chip) ≡ false
off_no_sync chip l off =
    false_of (begins_with sync_bytes (drop switch_at chip))
    (λ e. false_true (sym off ∙ is_on_law chip l (λ j k. sym (get_or-drop switch_at chip j 0) ∙ starts_at sync_bytes (drop switch_at chip) e j k)))

-- A word between ON and ON is ON: so one that has every 1 bit of ON and is OFF stays OFF when more bits become 1.
pub spi_stays_off : (word more : List ℕ) → BitSuperset word spi_on → BitSuperset more word → spi.is_on word ≡ false → spi.is_on more ≡ false
spi_stays_off word more low high off = false_of (spi.is_on more) (λ e. false_true (sym off ∙ on e))
  where
    same : spi.is_on more ≡ true → (j : ℕ) → j < 4 → get_or word j 0 ≡ get_or spi_on j 0
    same e j h =
        let on : get_or more j 0 ≡ get_or spi_on j 0 = starts_at spi_on more e j h in
        let small : get_or word j 0 < 256 = low.bytes j h in
        let large : get_or more j 0 < 256 = high.bytes j h in
        same_bits 8 (get_or word j 0) (get_or spi_on j 0) small (rw on at large)
        (λ n m.
        let a : bit n (get_or spi_on j 0) ≤ bit n (get_or word j 0) = low.has j h n m in
        let b : bit n (get_or word j 0) ≤ bit n (get_or spi_on j 0) = rw on at (high.has j h n m) in
        omega arith)

    on : spi.is_on more ≡ true → spi.is_on word ≡ true
    on e = let l : length word ≡ 4 = low.whole in starts_all spi_on word (omega arith) (same e)
