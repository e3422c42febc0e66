-- What an order does to a chip's bytes. Document 01, "A chip's life".
use Rattle.std.specs.Prelude.{ℕ, ◌+◌, ◌-◌, ◌/◌, ◌%◌, ◌<◌, ◌≤◌, ◌≡◌, ◌⊎◌, List, [], ◌∷◌, length, get_or}
use Rattle.kind.specs.Layout.{page, segment}
use Rattle.effects.specs.Types.{Layout}
use Rattle.flash.specs.Flash.{span, overwrite, erased, after_program}
use Rattle.orders.specs.Orders.{Order, erase, program, look}

-- the first byte of an order's span
unfoldable pub order_place : Order → ℕ
order_place (erase place count) = place
order_place (program place bytes) = place
order_place (look place bytes) = place

-- how many bytes an order's span has
unfoldable pub order_length : Order → ℕ
order_length (erase place count) = count
order_length (program place bytes) = length bytes
order_length (look place bytes) = length bytes

-- A span lies in segment 0 or in the update area.
abbrev pub InReach : Layout → ℕ → ℕ → Type 0
InReach layout place count = (place + count ≤ segment) ⊎ ((layout.update_place ≤ place) × (place + count ≤ layout.update_place + layout.update_length))

-- What a chip takes: an erase of one segment, at a multiple of its length; a program of 1 to 256 bytes inside one page. A look reads any bytes.
unfoldable pub WellPlaced : Order → Type 0
WellPlaced (erase place count) = (count ≡ segment) × (place % segment ≡ 0)
WellPlaced (program place bytes) = (1 ≤ length bytes) × (length bytes ≤ page) × ((place + length bytes - 1) / page ≡ place / page)
WellPlaced (look place bytes) = Unit {0}

-- A chip obeys when an erase sets its span to FF and a program clears exactly the bits that are 0 in its bytes: what then stands in the span. A look changes nothing.
unfoldable pub obeyed_span : Order → List ℕ → List ℕ
obeyed_span (erase place count) chip = erased count
obeyed_span (program place bytes) chip = after_program chip place bytes
obeyed_span (look place bytes) chip = span chip place (length bytes)

-- The chip when these bytes stand in an order's span afterwards; outside it every byte stays. A look changes nothing.
unfoldable pub leaves : Order → List ℕ → List ℕ → List ℕ
leaves (erase place count) chip left = overwrite chip place left
leaves (program place bytes) chip left = overwrite chip place left
leaves (look place bytes) chip left = chip

-- a chip that has obeyed an order, and one that has obeyed a list of them
abbrev pub obeyed : Order → List ℕ → List ℕ
obeyed order chip = leaves order chip (obeyed_span order chip)

unfoldable pub obeyed_all : List Order → List ℕ → List ℕ
obeyed_all [] chip = chip
obeyed_all (order ∷ orders) chip = obeyed_all orders (obeyed order chip)

-- Bytes are below 256.
abbrev pub Bytes : List ℕ → Type 0
Bytes bytes = (i : ℕ) → i < length bytes → get_or bytes i 0 < 256
