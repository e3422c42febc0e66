-- `put_image` meets its contract: the parts that are written are the image's.
use Prim.Native.Nat.{ℕ, ◌+◌, ◌-◌, ◌*◌, ◌/◌, ◌%◌}
use mathlib.Core.Path.{◌≡◌, ap, ◌∙◌}
use mathlib.Core.List.{List}
use native.Mathlib.Omega.{arith}
use lib.ListN.{length, replicate}
use Rattle.flash.specs.Flash.{erased, overwrite_in_range}
use Rattle.heaviest.specs.Internal.{opening}
use Rattle.heaviest.proofs.ImageLaws.{opening_length, desync_bytes, written}
use Rattle.heaviest.proofs.put_image.Goals as goal

pub put_opening-requires : goal.put_opening-requires
put_opening-requires c =
    let p = c.requires in
    let l = opening_length (c.args.image_length / 4) (omega arith) in
    let kept = c.fill.auto.chip in
    (p.2, omega arith, omega arith)

pub returns : goal.returns
returns c =
    let out = c.args.out.now in
    let n = c.args.image_length in
    let last = 4 * (n / 4 - 1) in
    let zeros = c.fill in
    let front = c.put_opening in
    let desync = c.overwrite in
    let one : zeros.new.chip ≡ overwrite_in_range out 0 last (replicate last 0) = zeros.ensures.output in
    let two : front.new.out ≡ overwrite_in_range zeros.new.chip 0 (length (opening (n / 4))) (opening (n / 4)) = front.ensures in
    let three : desync.new.chip ≡ overwrite_in_range front.new.out last 4 desync_bytes = rw c.to_be_bytes.ensures at desync.ensures.output in
    let four : c.erase.new.chip ≡ overwrite_in_range desync.new.chip (last + 4) (n % 4) (erased (n % 4)) = c.erase.ensures.output in
    four
    ∙ ap (λ (l : List ℕ). overwrite_in_range l (last + 4) (n % 4) (erased (n % 4)))
    (three
    ∙ ap (λ (l : List ℕ). overwrite_in_range l last 4 desync_bytes)
    (two ∙ ap (λ (l : List ℕ). overwrite_in_range l 0 (length (opening (n / 4))) (opening (n / 4))) one))
    ∙ written n out c.requires.0 c.requires.3
