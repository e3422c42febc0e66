-- The orders of a run. Document 01, "Orders of one run" and question 9.
use Rattle.std.specs.Prelude.{ℕ, zero, suc, ◌+◌, ◌*◌, Bool, true, false, List, [], ◌∷◌, ◌++◌, length}
use Rattle.kind.specs.Layout.{page, segment, switch_at}
use Rattle.flash.specs.Flash.{erased, span}
use Rattle.kind.specs.Kind.{Kind}
use Rattle.orders.specs.Types.{Layout, Operation, Erase, Program, Look}
use Rattle.comparison.specs.Comparison.{padded}
use Rattle.orders.specs.Table.{by_phase, count}

-- An order (document 01's term): an erase of `count` bytes, a program of bytes, or a look, with the bytes expected there.
pub data Order : Type 0 where
  erase : (place count : ℕ) → Order
  program : (place : ℕ) (bytes : List ℕ) → Order
  look : (place : ℕ) (bytes : List ℕ) → Order

-- page i of an image; the last is what remains, and there is nothing after it
abbrev pub page_of : List ℕ → ℕ → List ℕ
page_of image i = span image (page * i) page

-- THE TABLE OF ORDERS: order i of a phase.
--   0  1 erase                         segment 0
--   1  16 looks of 256                 segment 0, must be FF
--   2  A/4,096 erases                  update area, upward
--   3  n/256 rounded up, programs      image from U upward, 256 bytes each, the last what remains
--   4  A/256 looks of 256              image, then FF to the end
--   5  1 program of 4                  switch ON
--   6  1 look of 4                     switch ON
--   7  none (the last line below is never reached: `count` of phase 7 is 0)
unfoldable pub order_of : Kind → Layout → List ℕ → ℕ → ℕ → Order
order_of kind layout image phase i =
    by_phase phase
    (erase 0 segment)
    (look (page * i) (erased page))
    (erase (layout.update_place + segment * i) segment)
    (program (layout.update_place + page * i) (page_of image i))
    (look (layout.update_place + page * i) (padded page (page_of image i)))
    (program switch_at kind.on)
    (look switch_at kind.on)
    (erase 0 0)

-- a number of orders of a phase, from index i
unfoldable pub in_phase : (ℕ → Order) → ℕ → ℕ → List Order
in_phase order i zero = []
in_phase order i (suc more) = order i ∷ in_phase order (i + 1) more

-- the orders of the phases before one
unfoldable pub orders_before : Kind → Layout → List ℕ → ℕ → List Order
orders_before kind layout image zero = []
orders_before kind layout image (suc phase) =
    orders_before kind layout image phase ++ in_phase (order_of kind layout image phase) 0 (count layout (length image) phase)

-- ALL ORDERS OF A RUN, in order.
abbrev pub orders : Kind → Layout → List ℕ → List Order
orders kind layout image = orders_before kind layout image 7

-- How many orders of a list pass a test.
unfoldable pub how_many : (Order → Bool) → List Order → ℕ
how_many test [] = 0
how_many test (order ∷ rest) = elim (test order) [ true ↦ suc (how_many test rest) | false ↦ how_many test rest ]

-- An order as the code's enum, and the bytes that it programs.
unfoldable pub operation_of : Order → Operation
operation_of (erase place count) = Erase place count
operation_of (program place bytes) = Program place (length bytes)
operation_of (look place bytes) = Look place (length bytes)

unfoldable pub programmed : Order → List ℕ
programmed (erase place count) = []
programmed (program place bytes) = bytes
programmed (look place bytes) = []

-- the bytes beside an order: those that it programs, FF after them up to a page
abbrev pub order_bytes : Order → List ℕ
order_bytes order = padded page (programmed order)
