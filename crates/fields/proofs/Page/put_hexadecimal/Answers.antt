-- `Page::put_hexadecimal` meets its contract. The loop's invariant: with the digits that are left put before those that are there, all are.
use Rattle.std.proofs.Common.{◌≡◌, ℕ, length, sym, ap, ap₂, ◌∙◌, arith}
use Rattle.std.proofs.Math.ListN.{length-set}
use Rattle.std.proofs.Math.Seq.{paste, paste-zero}
use Rattle.digits.specs.Digit.{hexadecimal}
use Rattle.fields.proofs.FieldLaws.{digit_behind, length_hexadecimal}
use Rattle.fields.proofs.PageLaws.{wrote_is}
use Rattle.fields.proofs.Page.put_hexadecimal.Goals as goal

pub loop-i-preserved : goal.loop-i-preserved
loop-i-preserved c =
    let i = c.loop-i.invariant in
    record {
      same = i.same;
      at = i.at;
      long = length-set c.loop-i.self.out.now _ _ ∙ i.long;
      digits = digit_behind c.loop-i.self.out.now c.characters-characters.result c.loop-i.self.at c.loop-i.i c.loop-i.rest c.characters-characters.ensures (omega arith) (omega arith) ∙ i.digits;
    }

pub returns : goal.returns
returns c =
    let page = c.args.self.now in
    let here = c.loop-i.self in
    let none : 0 ≡ c.loop-i.i = omega arith in
    let text = hexadecimal c.args.count c.args.value in
    let long : c.args.count ≡ length text = sym (length_hexadecimal c.args.count c.args.value) in
    let is : here.out.now ≡ paste page.out.now here.at text c.args.count =
    paste-zero here.out.now here.at (hexadecimal c.loop-i.i c.loop-i.rest) ∙ ap (λ (k : ℕ). paste here.out.now here.at (hexadecimal c.loop-i.i c.loop-i.rest) k) none ∙ c.loop-i.invariant.digits in
    wrote_is page _ text c.loop-i.invariant.same (omega arith) (omega arith) (is ∙ ap₂ (λ (at count : ℕ). paste page.out.now at text count) c.loop-i.invariant.at long)
