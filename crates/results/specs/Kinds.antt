-- The chip kinds as numbers.
use Rattle.std.specs.Prelude.{ℕ, eqb}
use Rattle.kind.specs.Spi.{spi_number}
use Rattle.base.specs.Question.{ask}

-- The kind of chip is asked before everything else. 0 is SPI, and there is no other: 1 at 0, or 7 at 0 where a run's state is given.
abbrev pub ask_kind {ℓ} : {A : Type ℓ} → ℕ → A → A → A
ask_kind kind refused rest = ask (eqb kind spi_number) refused rest
