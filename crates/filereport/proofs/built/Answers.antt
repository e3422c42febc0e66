-- `filereport::built` meets its contract.
use Prim.Native.Nat.{ℕ, ◌≤◌}
use mathlib.Core.Path.{◌≡◌, sym, ap, ◌∙◌}
use mathlib.Core.List.{List}
use native.Mathlib.Omega.{arith}
use borrow.Author.Tests.{leb-true, leb-false}
use lib.ListN.{length, take}
use lib.Seq.{length-take-le}
use Rattle.std.proofs.Common.{Err, rules}
use Rattle.base.specs.Refusal.{number_of}
use Rattle.base.proofs.Laws.{asked_ok, asked_err}
use Rattle.mcs.proofs.Laws.{read_says, refused_says}
use Rattle.filereport.specs.Types.{NoRoom, Refusal}
use Rattle.reportlines.specs.Reportlines.{refused_line}
use Rattle.filereport.specs.Filereport.{built_report}
use Rattle.filereport.proofs.FileLaws.{built_says, reports_long, reports_image, reports_refused}
use Rattle.filereport.proofs.built.Goals as goal
use Rattle.filereport.proofs.built.Goals.{In_ok-ask}

pub returns-in_err-ask : goal.returns-in_err-ask
returns-in_err-ask c =
    let same : c.from_residual.result ≡ Err c.in_err-ask.field-0.0 = search rules in
    let no = asked_err _ NoRoom _ (sym c.ask.ensures ∙ c.in_err-ask.was) in
    let long = leb-false (length c.args.text.now) 65536 no.0 in
    rw same (reports_long c.args.text.now long ∙ ap (λ (r : Refusal). refused_line (number_of r.reason) r.place) no.1)

-- The text is short enough.
short : (c : In_ok-ask) → length c.args.text.now ≤ 65536
short c = leb-true (length c.args.text.now) 65536 (asked_ok _ NoRoom (sym c.ask.ensures ∙ c.in_ok-ask.was))

pub returns-in_err-length : goal.returns-in_err-length
returns-in_err-length c =
    let text = c.args.text.now in
    let same : c.from_residual-in_err-length.result ≡ Err c.in_err-length.field-0.0 = search rules in
    let few = short (goal.at.returns-in_err-length c).In_ok-ask in
    let long : 32768 ≡ length c.buffer-image.result = c.buffer-image.ensures in
    rw same (reports_refused text _ few (refused_says text c.buffer-image.result _ (sym c.read.ensures.answer.same ∙ c.in_err-length.was) (omega arith)))

-- Where the text holds an image: what reading it into the buffer says.
pub slice_bounds-image-end : goal.slice_bounds-image-end
slice_bounds-image-end c =
    let says = read_says c.args.text.now c.buffer-image.result c.in_ok-length.length (sym c.read.ensures.answer.same ∙ c.in_ok-length.was) in
    rw c.read.ensures.output says.1.1.0

pub slice_bounds-build-end : goal.slice_bounds-build-end
slice_bounds-build-end c =
    let says = read_says c.args.text.now c.buffer-image.result c.in_ok-length.length (sym c.read.ensures.answer.same ∙ c.in_ok-length.was) in
    sym (length-take-le _ _ (rw c.read.ensures.output says.1.1.0))

pub returns : goal.returns
returns c =
    let text = c.args.text.now in
    let few = short (goal.at.returns c).In_ok-ask in
    let says = read_says text c.buffer-image.result c.in_ok-length.length (sym c.read.ensures.answer.same ∙ c.in_ok-length.was) in
    let image = ap (λ (l : List ℕ). take c.in_ok-length.length l) c.read.ensures.output ∙ says.1.1.1 in
    let line = reports_image text says.0 few says.1.0 ∙ ap (λ (l : List ℕ). built_report l) (sym image) in
    let long : length c.args.chip.now ≡ 32768 = omega arith in
    rw line
    (built_says _ c.args.chip.now c.build.new.out long (rw c.layout.ensures at c.build.ensures.output) c.build.result (rw c.layout.ensures at c.build.ensures.answer.same))
