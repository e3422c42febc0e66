-- The functions that a C host calls, each as one definition for what it returns and, where it writes, one for the lent bytes. Here: a chip's switch.
use Rattle.std.specs.Prelude.{ℕ, List}
use Rattle.base.specs.Refusal.{refused}
use Rattle.kind.specs.Spi.{spi}
use Rattle.chip.specs.Switch.{switch_answer}
use Rattle.results.specs.Kinds.{ask_kind}
use Rattle.fileresults.specs.Switch.{switch_result}
use Rattle.hostfiles.specs.Types.{BadChipLength, TealsettleSwitch}

-- `tealsettle_switch`
abbrev pub switch_call : ℕ → List ℕ → TealsettleSwitch
switch_call kind chip = switch_result (ask_kind kind (refused BadChipLength 0) (switch_answer spi chip))
