-- `bench::mixes_with_erased` meets its contract.
use Prim.Native.Nat.{ℕ}
use mathlib.Core.Path.{◌≡◌, refl, ap, ◌∙◌}
use mathlib.Core.Bool.{Bool, ◌&&◌}
use mathlib.Core.List.{List, [], ◌∷◌}
use native.Mathlib.Omega.{arith}
use lib.ListN.{length}
use Rattle.std.proofs.Common.{rules, tests}
use Rattle.std.specs.List.{list_all, zip}
use Rattle.std.proofs.lemmas.Iterator.{YieldsList-from_slice, YieldsList-from_zip}
use Rattle.std.proofs.lemmas.Iterator.Search.{all_from_yields_List}
use Rattle.flash.specs.Flash.{erased}
use Rattle.bench.specs.Bench.{mixture}
use Rattle.bench.proofs.MixtureLaws.{mixes}
use Rattle.bench.proofs.mixes_with_erased.Goals as goal

-- Byte by byte it is the mixture.
bytes_mix : (others new : List ℕ) → length others ≡ length new → list_all (λ (p : ℕ × ℕ). mixes p.0 0xFF p.1) (zip others new) ≡ mixture others (erased (length others)) new
unfolding mixture
bytes_mix [] new e = refl
bytes_mix (a ∷ others) [] e = absurd (omega arith)
bytes_mix (a ∷ others) (b ∷ new) e = ap (λ (rest : Bool). mixes a 0xFF b && rest) (bytes_mix others new (omega arith))

pub returns : goal.returns
returns c =
    let others = c.args.others.now in
    let new = c.args.new.now in
    all_from_yields_List (λ (p : ℕ × ℕ). mixes p.0 0xFF p.1) c.all.new.self _ c.all.result c.all.ensures.ran (YieldsList-from_zip (YieldsList-from_slice others cc) (YieldsList-from_slice new cc)) (λ x b q k. search (rules, tests))
    ∙ bytes_mix others new c.requires
