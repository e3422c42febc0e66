-- DEMAND 2 of a run: it gives exactly the orders of the list, in order, until done or stopped.
use Rattle.std.specs.Prelude.{ℕ, ◌+◌, ◌-◌, ◌<◌, ◌≤◌, ◌≡◌, ◌⊎◌, true, false, List, [], length, get_or, Ok}
use Rattle.base.specs.Refusal.{number_of}
use Rattle.kind.specs.Kind.{Kind}
use Rattle.life.specs.Types.{SwitchNotErased, UpdateDiffers, SwitchNotOn, Layout, State, Next, Stopped}
use Rattle.orders.specs.Table.{count, count_before, total}
use Rattle.orders.specs.Orders.{Order, erase, program, look, orders}
use Rattle.updater.specs.State.{position, first, after, ended, running, fits, current_order}
use Rattle.effects.specs.Effects.{order_place, order_length, InReach, WellPlaced}
use Rattle.orders.specs.Replies.{done, read}
use Rattle.updater.specs.Run.{reply_answer}

-- The reply that an order asks for: done, or the bytes expected.
unfoldable pub Replies : Order → ℕ → List ℕ → Type 0
Replies (erase place count) reply_kind bytes = (reply_kind ≡ done) × (bytes ≡ [])
Replies (program place contents) reply_kind bytes = (reply_kind ≡ done) × (bytes ≡ [])
Replies (look place expected) reply_kind bytes = (reply_kind ≡ read) × (bytes ≡ expected)

-- The address of the first byte that is not the one expected there.
pub record FirstDiffers (place : ℕ) (bytes expected : List ℕ) (address : ℕ) : Type 0 where
  pub from : place ≤ address
  pub within : address - place < length bytes
  pub other : get_or bytes (address - place) 0 ≡ get_or expected (address - place) 0 → ⊥
  pub before : (i : ℕ) → i < address - place → get_or bytes i 0 ≡ get_or expected i 0

-- A reply that moves a run on: to the order after the current one.
pub record Moved (kind : Kind) (state : State) (image : List ℕ) (reply_kind : ℕ) (bytes : List ℕ) (next : State) : Type 0 where
  pub fitted : fits state (length image) ≡ true
  pub ran : running state ≡ true
  pub replied : Replies (current_order kind state image) reply_kind bytes
  pub comes : next ≡ after state

-- The phases that look, with the stop of each: a run can stop in no other.
abbrev pub StopsIn : ℕ → ℕ → Type 0
StopsIn phase number = ((phase ≡ 1) × (number ≡ number_of SwitchNotErased)) ⊎ (((phase ≡ 4) × (number ≡ number_of UpdateDiffers)) ⊎ ((phase ≡ 6) × (number ≡ number_of SwitchNotOn)))

-- A reply that stops it: to a look, and only if a byte is another.
pub record Halted (kind : Kind) (state : State) (image : List ℕ) (reply_kind : ℕ) (bytes : List ℕ) (number address : ℕ) (next : State) : Type 0 where
  pub fitted : fits state (length image) ≡ true
  pub ran : running state ≡ true
  pub place : ℕ
  pub expected : List ℕ
  pub looked : current_order kind state image ≡ look place expected
  pub said : reply_kind ≡ read
  pub long : length bytes ≡ length expected
  pub differ : FirstDiffers place bytes expected address
  pub stop : StopsIn state.phase number
  pub comes : next ≡ ended state number

-- Order i of a phase, in the list of orders.
abbrev pub order_in : Kind → Layout → List ℕ → ℕ → ℕ → Order
order_in kind layout image phase i = get_or (orders kind layout image) (count_before layout (length image) phase + i) (erase 0 0)

-- Order i of phase 2 is an erase that takes a byte.
pub record ErasesAt (kind : Kind) (layout : Layout) (image : List ℕ) (i address : ℕ) : Type 0 where
  pub index : i < count layout (length image) 2
  pub place : ℕ
  pub size : ℕ
  pub order : order_in kind layout image 2 i ≡ erase place size
  pub from : place ≤ address
  pub within : address < place + size

-- Order i of phase 3 is a program that puts a byte there.
pub record ProgramsAt (kind : Kind) (layout : Layout) (image : List ℕ) (i address byte : ℕ) : Type 0 where
  pub index : i < count layout (length image) 3
  pub place : ℕ
  pub bytes : List ℕ
  pub order : order_in kind layout image 3 i ≡ program place bytes
  pub from : place ≤ address
  pub within : address < place + length bytes
  pub puts : get_or bytes (address - place) 0 ≡ byte

-- THE UPDATE AREA'S ORDERS: phase 2 has erases only, which take each byte of the area, once, and no other byte; phase 3 has programs only, which put each byte of the image, once, as far from U as it is in the image, and nothing else.
pub record UpdatesArea (kind : Kind) (layout : Layout) (image : List ℕ) : Type 0 where
  pub erases : (i : ℕ) → i < count layout (length image) 2 → (place : ℕ) × (size : ℕ) × (order_in kind layout image 2 i ≡ erase place size)
  pub erased_once : (address : ℕ) → layout.update_place ≤ address → address < layout.update_place + layout.update_length →
      (i : ℕ) × ErasesAt kind layout image i address × ((k : ℕ) → ErasesAt kind layout image k address → k ≡ i)
  pub erased_only : (i address : ℕ) → ErasesAt kind layout image i address → (layout.update_place ≤ address) × (address < layout.update_place + layout.update_length)
  pub programs : (i : ℕ) → i < count layout (length image) 3 → (place : ℕ) × (bytes : List ℕ) × (order_in kind layout image 3 i ≡ program place bytes)
  pub programmed_once : (j : ℕ) → j < length image →
      (i : ℕ) × ProgramsAt kind layout image i (layout.update_place + j) (get_or image j 0) × ((k byte : ℕ) → ProgramsAt kind layout image k (layout.update_place + j) byte → k ≡ i)
  pub programmed_only : (i address byte : ℕ) → ProgramsAt kind layout image i address byte →
      (layout.update_place ≤ address) × (address < layout.update_place + length image) × (byte ≡ get_or image (address - layout.update_place) 0)

pub record Demand2 (kind : Kind) : Type 0 where
  -- The total is the list's length; the first state is at its first order, and an ended run behind its last.
  pub whole : (layout : Layout) (image : List ℕ) → length (orders kind layout image) ≡ total layout (length image)
  pub begins : (layout : Layout) (n : ℕ) → position (first layout n) ≡ 0
  pub ends : (state : State) (lent : ℕ) → fits state lent ≡ true → running state ≡ false → position state ≡ total state.layout state.image_length
  -- Until then a run is at one of the list's orders.
  pub goes : (state : State) (lent : ℕ) → fits state lent ≡ true → running state ≡ true → position state < total state.layout state.image_length
  -- A reply that is neither refused nor a stop was the one asked for, and moves on by one;
  pub moves : (state : State) (image : List ℕ) (reply_kind : ℕ) (bytes : List ℕ) (next : State) → reply_answer kind state image reply_kind bytes ≡ Ok (Next next) →
      Moved kind state image reply_kind bytes next × (position next ≡ position state + 1)
  -- the one asked for is neither;
  pub agrees : (state : State) (image : List ℕ) (reply_kind : ℕ) (bytes : List ℕ) → fits state (length image) ≡ true → running state ≡ true → Replies (current_order kind state image) reply_kind bytes →
      reply_answer kind state image reply_kind bytes ≡ Ok (Next (after state))
  -- bytes of the length asked for in which one is not as it must be are a stop, with the number of the phase,
  pub halts : (state : State) (image : List ℕ) (bytes : List ℕ) (place : ℕ) (expected : List ℕ) → fits state (length image) ≡ true → running state ≡ true →
      current_order kind state image ≡ look place expected → length bytes ≡ length expected → (bytes ≡ expected → ⊥) →
      (number : ℕ) × (address : ℕ) × StopsIn state.phase number × (reply_answer kind state image read bytes ≡ Ok (Stopped number address (ended state number)))
  -- and a stop is in one of those phases, at the first byte that is not.
  pub stops : (state : State) (image : List ℕ) (reply_kind : ℕ) (bytes : List ℕ) (number address : ℕ) (next : State) → reply_answer kind state image reply_kind bytes ≡ Ok (Stopped number address next) →
      Halted kind state image reply_kind bytes number address next
  -- No order leaves segment 0 and the update area; an erase is one segment at a multiple of its length, a program 1 to 256 bytes inside one page;
  pub reach : (state : State) (image : List ℕ) → fits state (length image) ≡ true → running state ≡ true →
      InReach state.layout (order_place (current_order kind state image)) (order_length (current_order kind state image)) × WellPlaced (current_order kind state image)
  -- and those of phases 2 and 3 are exactly the update area's.
  pub area : (layout : Layout) (image : List ℕ) → fits (first layout (length image)) (length image) ≡ true → UpdatesArea kind layout image
