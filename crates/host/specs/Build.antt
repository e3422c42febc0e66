-- The functions that a C host calls, each as one definition for what it returns and, where it writes, one for the lent bytes. Here: the builder.
use Rattle.std.specs.Prelude.{ℕ, List, length}
use Rattle.results.specs.Kinds.{ask_kind}
use Rattle.base.specs.Refusal.{refused}
use Rattle.kind.specs.Spi.{spi}
use Rattle.builder.specs.Builder.{build_answer, build_output}
use Rattle.host.specs.Types.{BadChipLength, Layout, TealsettleBuild}
use Rattle.results.specs.Build.{build_result}

-- `tealsettle_build`, and its buffer
abbrev pub build_call : ℕ → Layout → List ℕ → List ℕ → TealsettleBuild
build_call kind layout golden buffer = build_result (ask_kind kind (refused BadChipLength 0) (build_answer spi layout golden (length buffer)))

abbrev pub build_call_output : ℕ → Layout → List ℕ → List ℕ → List ℕ
build_call_output kind layout golden buffer = ask_kind kind buffer (build_output spi layout golden buffer)
