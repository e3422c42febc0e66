-- A reply to an order: question 8 with a yes, and the judgement by the operation that was asked for.
use Prim.Native.Nat.{ℕ}
use mathlib.Core.Path.{◌≡◌, refl, sym}
use mathlib.Core.Bool.{true, false}
use native.Mathlib.Omega.{arith}
use mathlib.Core.List.{List}
use borrow.Author.Tests.{eqb-true}
use lib.Dec.{eqb}
use lib.ListN.{length}
use Rattle.base.specs.Question.{ask}
use Rattle.base.proofs.Laws.{both_true}
use Rattle.comparison.specs.Comparison.{differs}
use Rattle.orders.specs.Orders.{Order, erase, program, look, operation_of}
use Rattle.orders.specs.Carried.{expected_bytes}
use Rattle.orders.specs.Replies.{read, asks_for}
use Rattle.orders.specs.Judging.{judged_done, judged_look, judged}
use Rattle.orders.specs.Types.{Erase, Program, Look, NotAsked}

-- Question 8 with a yes.
pub asked_for : (what count reply_kind lent : ℕ) → asks_for what count reply_kind lent ≡ true → (reply_kind ≡ what) × (lent ≡ count)
asked_for what count reply_kind lent e = let b = both_true (eqb reply_kind what) (eqb lent count) e in (eqb-true reply_kind what b.0, eqb-true lent count b.1)

-- A reply is judged by the operation that was asked for: an erase, a program, or a look.
pub judged_erase : (order : Order) (reply_kind : ℕ) (bytes : List ℕ) (place count : ℕ) → operation_of order ≡ Erase place count → judged_done reply_kind (length bytes) ≡ judged order reply_kind bytes
unfolding operation_of judged
judged_erase (erase p n) reply_kind bytes place count e = refl
judged_erase (program p contents) reply_kind bytes place count e = let z : ◌≡◌ {A = ℕ} 0 1 = cc in absurd (omega arith)
judged_erase (look p expected) reply_kind bytes place count e = let z : ◌≡◌ {A = ℕ} 0 1 = cc in absurd (omega arith)

pub judged_program : (order : Order) (reply_kind : ℕ) (bytes : List ℕ) (place count : ℕ) → operation_of order ≡ Program place count → judged_done reply_kind (length bytes) ≡ judged order reply_kind bytes
unfolding operation_of judged
judged_program (erase p n) reply_kind bytes place count e = let z : ◌≡◌ {A = ℕ} 0 1 = cc in absurd (omega arith)
judged_program (program p contents) reply_kind bytes place count e = refl
judged_program (look p expected) reply_kind bytes place count e = let z : ◌≡◌ {A = ℕ} 0 1 = cc in absurd (omega arith)

judged_asked : (order : Order) (reply_kind : ℕ) (bytes : List ℕ) (place count : ℕ) → operation_of order ≡ Look place count →
    ask (asks_for read count reply_kind (length bytes)) NotAsked (judged_look (differs place bytes (expected_bytes order))) ≡ judged order reply_kind bytes
unfolding operation_of expected_bytes judged
judged_asked (erase p n) reply_kind bytes place count e = let z : ◌≡◌ {A = ℕ} 0 1 = cc in absurd (omega arith)
judged_asked (program p contents) reply_kind bytes place count e = let z : ◌≡◌ {A = ℕ} 0 1 = cc in absurd (omega arith)
judged_asked (look p expected) reply_kind bytes place count e =
    let n : length expected ≡ count = cc in
    let m : p ≡ place = cc in
    rw (sym n, sym m) refl

pub judged_refused : (order : Order) (reply_kind : ℕ) (bytes : List ℕ) (place count : ℕ) → operation_of order ≡ Look place count → asks_for read count reply_kind (length bytes) ≡ false → NotAsked ≡ judged order reply_kind bytes
unfolding ask
judged_refused order reply_kind bytes place count e other = rw other at (judged_asked order reply_kind bytes place count e)

pub judged_compared : (order : Order) (reply_kind : ℕ) (bytes : List ℕ) (place count : ℕ) → operation_of order ≡ Look place count → asks_for read count reply_kind (length bytes) ≡ true →
    judged_look (differs place bytes (expected_bytes order)) ≡ judged order reply_kind bytes
unfolding ask
judged_compared order reply_kind bytes place count e asked = rw asked at (judged_asked order reply_kind bytes place count e)
