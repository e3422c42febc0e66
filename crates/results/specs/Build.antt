-- A C host gets an answer's numbers, each in a field: number and place, then the values in the order of the fields. What does not apply is 0. Here for the builder.
use Rattle.std.specs.Prelude.{Result}
use Rattle.builder.specs.Builder.{build_numbers}
use Rattle.results.specs.Types.{Refusal, TealsettleBuild}

-- `tealsettle_build`: a chip was built at the front of the buffer, or a refusal that left it as it was
unfoldable pub build_result : Result (Unit {0}) Refusal → TealsettleBuild
build_result answer = record { number = (build_numbers answer).number; place = (build_numbers answer).place }
