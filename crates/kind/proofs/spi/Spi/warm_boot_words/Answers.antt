-- `Spi::warm_boot_words` meets its contract: what is above U's lowest 32 bits is not in its four bytes.
use Rattle.std.proofs.Common.{ℕ, ◌/◌, ◌%◌, ◌^◌, ◌≡◌, List, [], ◌∷◌, ◌++◌, get_or, ap, ◌∙◌, arith}
use Rattle.std.specs.Int.{w32, to_be_bytes}
use Rattle.framing.specs.Words.{bytes_of}
use Rattle.kind.specs.Spi.{spi_warm_boot}
use Rattle.kind.proofs.spi.Spi.warm_boot_words.Goals as goal

low_bytes : (u : ℕ) → to_be_bytes w32 (u % 4294967296) ≡ bytes_of u
low_bytes u =
    let a : u % 4294967296 / 2 ^ 24 % 256 ≡ u / 2 ^ 24 % 256 = omega arith in
    let b : u % 4294967296 / 2 ^ 16 % 256 ≡ u / 2 ^ 16 % 256 = omega arith in
    let c : u % 4294967296 / 2 ^ 8 % 256 ≡ u / 2 ^ 8 % 256 = omega arith in
    let d : u % 4294967296 % 256 ≡ u % 256 = omega arith in
    λ i. a i ∷ b i ∷ c i ∷ d i ∷ []

pub returns : goal.returns
unfolding spi_warm_boot
returns c = ap (λ (u : List ℕ). 0x30 ∷ 0x02 ∷ 0x00 ∷ 0x01 ∷ get_or u 0 0 ∷ get_or u 1 0 ∷ get_or u 2 0 ∷ get_or u 3 0 ∷ 0x30 ∷ 0x00 ∷ 0x80 ∷ 0x01 ∷ bytes_of 0x0000000F ++ bytes_of 0x20000000) (c.to_be_bytes.ensures ∙ low_bytes c.args.update_place)
