-- What crates above may count on of a chip's life: the demands, for any kind and for the SPI kind.
use Rattle.kind.specs.Spi.{spi}
use Rattle.chip.proofs.Laws.{spi_lawful}
use Rattle.life.specs.OrderList.{Demand2}
use Rattle.life.specs.BenchLife.{BenchLives}
use Rattle.life.specs.Life.{Demand3}
use Rattle.life.specs.Events.{EventsKeep}
use Rattle.life.specs.AsOrdered.{AsOrdered}
use Rattle.life.proofs.OrderListTheorem.{demand2}
use Rattle.life.proofs.EventLaws.{events_keep}
use Rattle.life.proofs.BenchLifeTheorem.{bench_lives}
use Rattle.life.proofs.LifeTheorem.{demand3}
use Rattle.life.proofs.AsOrderedTheorem.{as_ordered}
pub use Rattle.life.proofs.BuiltTheorem.{built_demand3, built_as_ordered, built_names_place}

-- The SPI kind keeps its laws, so its runs give their orders,
pub spi_demand2 : Demand2 spi
spi_demand2 = demand2 spi spi_lawful

-- what its bench leaves is what a life leaves,
pub spi_bench : BenchLives spi
spi_bench = bench_lives spi spi_lawful

-- its chips live as demand 3 says, whoever built them,
pub spi_demand3 : Demand3 spi
spi_demand3 = demand3 spi spi_lawful

-- whose premises are the mission's, word for word, and whose events keep what they should.
pub spi_as_ordered : AsOrdered spi
spi_as_ordered = as_ordered spi spi_lawful

pub spi_events : EventsKeep spi
spi_events = events_keep spi
