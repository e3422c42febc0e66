-- DEMAND 3 for the chip that the builder answers, in the definitions that the contracts of the calls cite: the builder's answer, the starts, orders and replies of the list (`life`), the boot answer and the writes. And that such a chip names its own U.
use Rattle.std.specs.Prelude.{ℕ, ◌+◌, ◌≡◌, Bool, List, Some, Ok}
use Rattle.std.specs.Result.{result_map_both}
use Rattle.packets.specs.Trace.{content_of}
use Rattle.bootreader.specs.Image.{accepted as image_accepted, image_answer, image_write}
use Rattle.bootreader.specs.Boot.{boot_answer, chip_write}
use Rattle.life.specs.Types.{BootLoaded, Layout}
use Rattle.kind.specs.Kind.{Kind}
use Rattle.kind.specs.Spi.{spi}
use Rattle.chip.specs.UpdatePlace.{place_answer}
use Rattle.builder.specs.Builder.{built_chip, build_answer}
use Rattle.life.specs.Life.{fresh, Event, Valid, life, Claim}
use Rattle.life.specs.AsOrdered.{LiterallyValid}

-- A chip loads an image at a place, whole, jumped or not: its boot answer is the image's check moved there, and its i-th write, places apart, is the image's own, for every i.
pub record Boots (kind : Kind) (chip image : List ℕ) (place : ℕ) (jumped : Bool) : Type 0 where
  pub sync : ℕ
  pub end : ℕ
  pub writes : ℕ
  pub accepted : image_answer kind image ≡ image_accepted sync end writes
  pub boots : boot_answer kind chip ≡ Ok (BootLoaded (place + sync) (place + end) writes jumped)
  pub whole : (i : ℕ) → result_map_both content_of (λ r. r) (chip_write kind chip i) ≡ result_map_both content_of (λ r. r) (image_write kind image i)

-- Take any list of events on a chip that we built, with the golden image it was given.
abbrev pub BuiltDemand3 : Type 0
BuiltDemand3 =
    (layout : Layout) (golden : List ℕ) (room : ℕ) → build_answer spi layout golden room ≡ Ok tt → (events : List Event) → Valid spi layout.update_place (fresh (built_chip spi layout golden)) events →
    Claim spi (Boots spi) layout.update_place golden (life spi (fresh (built_chip spi layout golden)) events)

-- The same claim after a list that keeps the premises word for word (`LiterallyValid`).
abbrev pub BuiltAsOrdered : Type 0
BuiltAsOrdered =
    (layout : Layout) (golden : List ℕ) (room : ℕ) → build_answer spi layout golden room ≡ Ok tt → (events : List Event) → LiterallyValid spi layout.update_place (fresh (built_chip spi layout golden)) events →
    Claim spi (Boots spi) layout.update_place golden (life spi (fresh (built_chip spi layout golden)) events)

-- After any list of events a chip that we built names the U that it was built with (`update_place::read`): so a host need not keep it.
abbrev pub BuiltNamesPlace : Type 0
BuiltNamesPlace =
    (layout : Layout) (golden : List ℕ) (room : ℕ) → build_answer spi layout golden room ≡ Ok tt → (events : List Event) → Valid spi layout.update_place (fresh (built_chip spi layout golden)) events →
    place_answer spi (life spi (fresh (built_chip spi layout golden)) events).chip ≡ Ok (Some layout.update_place)
