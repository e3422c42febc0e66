-- `copy` meets its contract: byte by byte the buffer is the old one with more bytes put over its front.
use Rattle.std.proofs.Common.{ℕ, ◌≡◌, refl, List, length, get_or, sym, ap, ◌∙◌, zero-add, arith}
use Rattle.std.proofs.Math.ListN.{set}
use Rattle.std.proofs.Math.Seq.{paste, paste-zero}
use Rattle.std.proofs.lemmas.List.Edits.{paste_more, paste_all}
use Rattle.base.proofs.copy.Goals as goal

pub loop-i-init : goal.loop-i-init
loop-i-init c = paste-zero c.args.to.now 0 c.args.from.now

pub loop-i-preserved : goal.loop-i-preserved
loop-i-preserved c =
    let from = c.args.from.now in
    let i = c.loop-i.i in
    ap (λ (l : List ℕ). set l i (get_or from i 0)) c.loop-i.invariant
    ∙ ap (λ (k : ℕ). set (paste c.args.to.now 0 from i) k (get_or from i 0)) (sym (zero-add i))
    ∙ paste_more c.args.to.now 0 from i 0 (omega arith) (omega arith)

pub returns : goal.returns
returns c =
    let e : c.loop-i.i ≡ length c.args.from.now = omega arith in
    c.loop-i.invariant ∙ paste_all c.args.to.now 0 c.args.from.now c.loop-i.i e ∙ rw (zero-add, e) refl
