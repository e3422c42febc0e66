-- `builder::write_chip` meets its contract.
use Prim.Native.Nat.{ℕ}
use mathlib.Core.Path.{◌≡◌, ap, ap₂, ◌∙◌}
use mathlib.Core.List.{List}
use native.Mathlib.Omega.{arith}
use lib.ListN.{length}
use Rattle.kind.specs.Layout.{segment, golden_at}
use Rattle.flash.specs.Flash.{erased, overwrite_in_range}
use Rattle.kind.specs.Spi.{spi_warm_boot}
use Rattle.builder.proofs.BuiltLaws.{built_written}
use Rattle.builder.proofs.write_chip.Goals as goal

pub returns : goal.returns
returns c =
    let out = c.args.out.now in
    let golden = c.args.golden.now in
    let layout = c.args.layout in
    let erasing = c.erase in
    let heading = c.warm_boot_words-words in
    let writing = c.overwrite in
    let blank : ◌≡◌ {A = List ℕ} _ (overwrite_in_range out 0 layout.chip_length (erased layout.chip_length)) = erasing.ensures.output in
    let words : ◌≡◌ {A = List ℕ} _ (spi_warm_boot layout.update_place) = heading.ensures in
    let headed : ◌≡◌ {A = List ℕ} _ (overwrite_in_range erasing.new.chip segment (length heading.result) heading.result) = writing.ensures.output in
    let whole : ◌≡◌ {A = List ℕ} _ (overwrite_in_range writing.new.chip golden_at (length golden) golden) = c.overwrite-2.ensures.output in
    whole
    ∙ ap (λ (l : List ℕ). overwrite_in_range l golden_at (length golden) golden) (headed ∙ ap₂ (λ (l w : List ℕ). overwrite_in_range l segment (length w) w) blank words)
    ∙ built_written layout golden (omega arith) out (omega arith)
