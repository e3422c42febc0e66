-- What an order programs, or looks for before the FF. Only contracts of functions that are no public calls cite it.
use Rattle.std.specs.Prelude.{ℕ, List, []}
use Rattle.kind.specs.Kind.{Kind}
use Rattle.orders.specs.Table.{by_phase}
use Rattle.orders.specs.Orders.{Order, erase, program, look, page_of}

unfoldable pub carried : Kind → List ℕ → ℕ → ℕ → List ℕ
carried kind image phase i = by_phase phase [] [] [] (page_of image i) (page_of image i) kind.on kind.on []

-- the bytes that a look must find
unfoldable pub expected_bytes : Order → List ℕ
expected_bytes (erase place count) = []
expected_bytes (program place bytes) = []
expected_bytes (look place bytes) = bytes
