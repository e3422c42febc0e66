-- Laws of the lines: how long each is.
use Prim.Native.Nat.{ℕ, ◌+◌, ◌*◌}
use mathlib.Core.Path.{◌≡◌, refl}
use mathlib.Core.Bool.{Bool, true, false}
use mathlib.Core.List.{List, [], ◌∷◌}
use native.Mathlib.Omega.{arith}
use lib.ListN.{length, length-append}
use Rattle.reportlines.specs.Types.{Write}
use Rattle.fields.specs.Fields.{ascii, decimal}
use Rattle.reportlines.specs.Reportlines.{loaded_line, write_line, write_lines, end_line, stuck_line, refused_line}
use Rattle.fields.proofs.Laws.{length_hexadecimal}

-- `LOADED`, and which.
pub length_loaded : (jumped : Bool) → length (loaded_line jumped) ≡ 14
unfolding loaded_line ascii
length_loaded true = refl
length_loaded false = refl

-- `WRITE`, and three fields of fixed width.
pub length_write : (w : Write) → length (write_line w) ≡ 27
unfolding write_line ascii
length_write w = simp (length-append, length_hexadecimal) refl

-- All writes: a line each.
pub length_writes : (ws : List Write) → length (write_lines ws) ≡ 27 * length ws
unfolding write_lines
length_writes [] = refl
length_writes (w ∷ ws) =
    let h : length (write_lines ws) ≡ 27 * length ws = length_writes ws in
    omega (arith, length-append (write_line w) (write_lines ws), length_write w)

-- `END`: only the count of writes has a width of its own.
pub length_end : (end writes : ℕ) → length (end_line end writes) ≡ 21 + length (decimal writes)
unfolding end_line ascii
length_end end writes = simp (length-append, length_hexadecimal) (omega arith)

-- `STUCK`, and the place.
pub length_stuck : (place : ℕ) → length (stuck_line place) ≡ 15
unfolding stuck_line ascii
length_stuck place = simp (length-append, length_hexadecimal) refl

-- `REFUSED`, and two numbers, each with a width of its own.
pub length_refused : (number place : ℕ) → length (refused_line number place) ≡ 10 + length (decimal number) + length (decimal place)
unfolding refused_line ascii
length_refused number place = simp length-append (omega arith)
