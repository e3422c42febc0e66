-- Laws of the lines of all writes, put one after the other.
use Rattle.std.proofs.Common.{ℕ, ◌≡◌, ◌+◌, ◌*◌, ◌<◌, ◌≤◌, List, [], ◌∷◌, Option, Some, None, length, refl, sym, ap, ◌∙◌, arith}
use Rattle.packets.specs.declared.trace.Write.{Write}
use Rattle.writes.specs.declared.cursor.Cursor.{Cursor}
use Rattle.writes.specs.declared.cursor.Step.{Step}
use Rattle.writes.specs.Cursor.{remaining_writes, writes_after_step}
use Rattle.fields.specs.declared.Page.{Page}
use Rattle.fields.specs.Page.{Wrote}
use Rattle.fields.proofs.Laws.{wrote_nothing, wrote_then}
use Rattle.reportlines.specs.Reportlines.{write_line, write_lines}
use Rattle.reportlines.proofs.Laws.{length_write}

-- The lines of the writes that are left, put on the page as it is now, are those of all writes on the page as it was.
pub record Going (before : Page) (all : List Write) (now : Page) (left : List Write) : Type 0 where
  pub same : now.out.ghost_name ≡ before.out.ghost_name
  pub room : now.at + 27 * length left ≤ length now.out.now
  pub rest : (after : Page) → Wrote now after (write_lines left) → Wrote before after (write_lines all)

-- At the start all are left.
pub going_start : (before : Page) (all : List Write) → before.at + 27 * length all ≤ length before.out.now → Going before all before all
going_start before all room = record { same = refl; room = room; rest = λ after wrote. wrote }

module _ {before now : Page} {all left : List Write} (going : Going before all now left) where
  module _ (w : Write) (more : List Write) (next : w ∷ more ≡ left) where
    -- One is left, so there is room for its line, and fewer are left after it.
    pub going_room : (now.at + 27 ≤ length now.out.now) × (length more < length left)
    going_room = let l : length (w ∷ more) ≡ length left = ap (λ (ws : List Write). length ws) next in (omega (arith, going.room), omega arith)

    -- Its line is put.
    pub going_on : (page : Page) → Wrote now page (write_line w) → Going before all page more
    unfolding write_lines
    going_on page wrote =
        let l : length (w ∷ more) ≡ length left = ap (λ (ws : List Write). length ws) next in
        record {
          same = wrote.same ∙ going.same;
          room = omega (arith, going.room, wrote.place, wrote.long, length_write w);
          rest = λ after others. going.rest after (rw (← next) (wrote_then wrote others));
        }

  -- None is left, so all are put.
  pub going_done : [] ≡ left → Wrote before now (write_lines all)
  unfolding write_lines
  going_done none = going.rest now (rw (← none) (wrote_nothing now (omega (arith, going.room))))

-- A step's write is the first that is left, and its cursor's are the others.
pub step_wrote : (s : List ℕ) (here : Cursor) (next : Option Step) (step : Step) → writes_after_step s next ≡ remaining_writes s here → next ≡ Some step → step.write ∷ remaining_writes s step.cursor ≡ remaining_writes s here
unfolding writes_after_step
step_wrote s here next step h e = ap (λ (k : Option Step). writes_after_step s k) (sym e) ∙ h

-- Where there is no step none is left.
pub step_done : (s : List ℕ) (here : Cursor) (next : Option Step) → writes_after_step s next ≡ remaining_writes s here → next ≡ None → [] ≡ remaining_writes s here
unfolding writes_after_step
step_done s here next h e = ap (λ (k : Option Step). writes_after_step s k) (sym e) ∙ h
