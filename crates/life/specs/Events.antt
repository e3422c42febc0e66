-- What events leave as it was, in statements: they follow from `next` (specs/Life.antt), and a reader need not compute them.
use Rattle.std.specs.Prelude.{ℕ, ◌≡◌, false, List, None, Some, Ok, Err}
use Rattle.kind.specs.Kind.{Kind}
use Rattle.starts.specs.Starts.{start_answer}
use Rattle.updater.specs.Run.{reply_answer}
use Rattle.life.specs.Types.{Refusal, Layout, State, RefusedReply}
use Rattle.life.specs.Life.{Run, World, found, starts, replies, cuts, next}

pub record EventsKeep (kind : Kind) : Type 0 where
  -- A cut closes the run. What the last run has found and ordered, the ordered image and the chip survive it.
  pub cut_keeps : (w : World) →
      ((next kind w cuts).run ≡ None) × ((next kind w cuts).chip ≡ w.chip) × (found (next kind w cuts) ≡ found w) × ((next kind w cuts).ordered ≡ w.ordered) × ((next kind w cuts).image ≡ w.image)
  -- An accepted start opens a run that has neither found nor ordered; chip and ordered image stay.
  pub start_opens : (w : World) (layout : Layout) (image : List ℕ) (state : State) → start_answer kind layout image ≡ Ok state →
      next kind w (starts layout image) ≡ record { chip = w.chip; run = Some (record { state = state; image = image; carried = false }); looks = 0; ordered = false; image = w.image }
  -- A refused start, and a refused reply, change nothing.
  pub start_refused : (w : World) (layout : Layout) (image : List ℕ) (r : Refusal) → start_answer kind layout image ≡ Err r → next kind w (starts layout image) ≡ w
  pub reply_refused : (w : World) (run : Run) (image : List ℕ) (reply_kind : ℕ) (bytes : List ℕ) (r : RefusedReply) → w.run ≡ Some run →
      reply_answer kind run.state image reply_kind bytes ≡ Err r → next kind w (replies image reply_kind bytes) ≡ w
