-- `Page::put_hexadecimal` meets its contract. The loop's invariant: with the digits that are left put before those that are there, all are.
use Rattle.std.proofs.Common.{◌≡◌, length}
use Rattle.std.proofs.Math.Seq.{paste}
use Rattle.digits.specs.Digit.{hexadecimal}
use Rattle.fields.proofs.Page.put_hexadecimal.Given as goal

abbrev pub invariant-loop-i : goal.invariant-loop-i
invariant-loop-i l = record {
  same : l.self.out.ghost_name ≡ l.initial.self.out.ghost_name;
  at : l.self.at ≡ l.initial.self.at;
  long : length l.self.out.now ≡ length l.initial.self.out.now;
  digits : paste l.self.out.now l.self.at (hexadecimal l.i l.rest) l.i ≡ paste l.initial.self.out.now l.self.at (hexadecimal l.count l.value) l.count;
}
