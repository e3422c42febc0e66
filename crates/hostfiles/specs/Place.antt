-- The functions that a C host calls, each as one definition for what it returns and, where it writes, one for the lent bytes. Here: where a chip's update area begins.
use Rattle.std.specs.Prelude.{ℕ, List}
use Rattle.base.specs.Refusal.{refused}
use Rattle.kind.specs.Spi.{spi}
use Rattle.chip.specs.UpdatePlace.{place_answer}
use Rattle.results.specs.Kinds.{ask_kind}
use Rattle.fileresults.specs.Place.{place_result}
use Rattle.hostfiles.specs.Types.{BadChipLength, TealsettlePlace}

-- `tealsettle_update_place`
abbrev pub place_call : ℕ → List ℕ → TealsettlePlace
place_call kind chip = place_result (ask_kind kind (refused BadChipLength 0) (place_answer spi chip))
