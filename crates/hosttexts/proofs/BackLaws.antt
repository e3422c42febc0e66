-- Where a host is told of no refusal, a text was written: so what is promised of the call's answer is promised of the host's.
use mathlib.Core.Path.{◌≡◌, refl, sym, subst}
use mathlib.Core.List.{List}
use Prim.Native.Nat.{ℕ}
use Rattle.std.proofs.Common.{Result, Ok, Err}
use Rattle.base.specs.Answer.{in_numbers}
use Rattle.mcswriter.specs.Mcswriter.{ReadsBack}
use Rattle.results.proofs.Laws.{numbered}
use Rattle.hosttexts.specs.Result.{text_result}
use Rattle.hosttexts.specs.Types.{Refusal, TealsettleText}
use Rattle.hosttexts.specs.Writing.{WrittenBack}

told : (image out : List ℕ) (answer : Result ℕ Refusal) → ReadsBack image answer out → WrittenBack image (text_result answer) out
unfolding text_result in_numbers
told image out (Ok n) back e = back n refl
told image out (Err r) back e = absurd (numbered r.reason e)

pub host_back : (image out : List ℕ) (answer : Result ℕ Refusal) (text : TealsettleText) → text ≡ text_result answer → ReadsBack image answer out → WrittenBack image text out
host_back image out answer text f back = subst (λ (t : TealsettleText). WrittenBack image t out) (sym f) (told image out answer back)
