-- What may stand on a chip after an order, cut inside or not. Document 01, "A chip's life".
use Rattle.std.specs.Prelude.{ℕ, ◌<◌, ◌≡◌, List, length, get_or}
use Rattle.kind.specs.Layout.{segment}
use Rattle.flash.specs.Flash.{span, BitwiseMix}

-- What may stand in the span of an erase or program afterwards, cut inside or called done, given what an obeying chip would hold there (or, where the premise is taken word for word, the bytes ordered): in segment 0 a mixture, elsewhere any bytes.
pub record MayLeave (chip : List ℕ) (place : ℕ) (obeyed new : List ℕ) : Type 0 where
  pub fills : length new ≡ length obeyed
  pub bytes : (i : ℕ) → i < length new → get_or new i 0 < 256
  pub mixed : place < segment → BitwiseMix (span chip place (length obeyed)) obeyed new
