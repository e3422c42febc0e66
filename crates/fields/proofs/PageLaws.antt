-- Laws of text put on a page, one piece after the other.
use Prim.Native.Nat.{ℕ, ◌+◌, ◌≤◌}
use mathlib.Core.Path.{◌≡◌, refl, sym, ap, ap₂, ◌∙◌}
use mathlib.Core.List.{List, [], ◌++◌}
use native.Mathlib.Omega.{arith}
use lib.ListN.{length, length-append}
use lib.Seq.{paste, paste-zero, length-paste}
use Rattle.base.specs.Output.{front_filled}
use Rattle.fields.specs.Page.{Wrote}
use Rattle.fields.specs.declared.Page.{Page}
use Rattle.fields.proofs.PutLaws.{Put, put_front, paste_paste}

-- With the text in the buffer, and the place after it, it was put.
pub wrote_is : (first last : Page) (text : List ℕ) → last.out.ghost_name ≡ first.out.ghost_name → first.at + length text ≤ length first.out.now → last.at ≡ first.at + length text → last.out.now ≡ paste first.out.now first.at text (length text) → Wrote first last text
wrote_is first last text same room place is =
    record { same = same; room = room; place = place; long = ap (λ (d : List ℕ). length d) is ∙ length-paste first.out.now first.at text (length text) room (omega arith); is = is }

-- Nothing to put leaves a page as it is.
pub wrote_nothing : (page : Page) → page.at ≤ length page.out.now → Wrote page page []
wrote_nothing page within = wrote_is page page [] refl (omega arith) (omega arith) (paste-zero page.out.now page.at [])

-- A text and then another are the two of them.
pub wrote_then : {first mid last : Page} {s t : List ℕ} → Wrote first mid s → Wrote mid last t → Wrote first last (s ++ t)
wrote_then {first} {mid} {last} {s} {t} one two =
    let both : length (s ++ t) ≡ length s + length t = length-append s t in
    record {
      same = two.same ∙ one.same;
      room = omega (arith, one.place, one.long, two.room);
      place = omega (arith, one.place, two.place);
      long = two.long ∙ one.long;
      is =
          two.is
          ∙ ap₂ (λ (d : List ℕ) (k : ℕ). paste d k t (length t)) one.is one.place
          ∙ paste_paste first.out.now first.at s (length s) t (length t) refl refl (omega (arith, one.room))
          ∙ ap (λ (k : ℕ). paste first.out.now first.at (s ++ t) k) (sym both);
    }

-- A text at the front of a buffer: so output is handed back.
pub wrote_front : {first last : Page} {text : List ℕ} → Wrote first last text → first.at ≡ 0 → front_filled text first.out.now ≡ last.out.now
wrote_front {first} {last} {text} wrote front =
    let put : Put first.out.now 0 text (length text) last.out.now = record { long = refl; room = omega (arith, wrote.room); is = wrote.is ∙ ap (λ (k : ℕ). paste first.out.now k text (length text)) front } in
    put_front put
