-- Laws of the answers: what the code comes to is what the public calls promise.
use Rattle.std.specs.Prelude.{Result, Ok, Err}
use Prim.Native.Nat.{ℕ, ◌+◌, ◌*◌, ◌≤◌}
use mathlib.Core.Path.{◌≡◌, refl, sym, ap, subst, ◌∙◌}
use mathlib.Core.Bool.{Bool, true, false}
use mathlib.Core.List.{List, ◌++◌}
use native.Mathlib.Omega.{arith}
use borrow.Author.Tests.{leb-true, le-leb}
use lib.ListN.{length, length-append}
use lib.Dec.{leb}
use Rattle.kind.specs.Spi.{spi}
use Rattle.base.specs.Question.{ask}
use Rattle.configreader.specs.Configreader.{read_chip, listed}
use Rattle.writes.specs.Cursor.{cursor_at, remaining_writes}
use Rattle.configreader.proofs.Laws.{Proper, proper}
use Rattle.base.specs.Refusal.{refused}
use Rattle.kind.specs.Layout.{chip_length_allowed}
use Rattle.bootreader.specs.Boot.{boot_case, boot_answer, cursor_of}
use Rattle.report.specs.Types.{BadChipLength, NoRoom, Refusal, Outcome, Loaded, OutcomeIprog, Stuck, Boot, BootLoaded, BootStuck, Write, Cursor}
use Rattle.bootreader.proofs.Laws.{opened_remaining, listed_length}
use Rattle.fields.specs.declared.Page.{Page}
use Rattle.fields.specs.Page.{Wrote}
use Rattle.fields.specs.Fields.{decimal}
use Rattle.fields.proofs.Laws.{wrote_front}
use Rattle.reportlines.specs.Reportlines.{loaded_line, write_lines, end_line, stuck_line}
use Rattle.report.specs.Boot.{report_of, chip_report, chip_answer, chip_output}
use Rattle.report.specs.Refusal.{written}
use Rattle.base.specs.Output.{front_filled}
use Rattle.reportlines.proofs.Laws.{length_loaded, length_writes, length_end}

-- A text that does not fit is refused, and the buffer stays as it was.
pub no_room_law : (text buffer : List ℕ) → leb (length text) (length buffer) ≡ false → (written text (length buffer) ≡ refused NoRoom 0) × (front_filled text buffer ≡ buffer)
unfolding written front_filled ask
no_room_law text buffer h = (rw h refl, rw h refl)

-- A text that was put at the front of the buffer is the answer.
pub put_answer : {first last : Page} {text : List ℕ} → Wrote first last text → first.at ≡ 0 → (written text (length first.out.now) ≡ Ok last.at) × (front_filled text first.out.now ≡ last.out.now)
unfolding written ask
put_answer {first} {last} {text} wrote front =
    let place : length text ≡ last.at = omega (arith, wrote.place) in
    (rw (le-leb (length text) (length first.out.now) (omega (arith, wrote.room))) (ap (λ (n : ℕ). let answer : Result ℕ Refusal = Ok n in answer) place), wrote_front wrote front)

-- What a boot answer says of question 1 and of the reading.
unfoldable pub Says : List ℕ → Bool → Outcome → Result Boot Refusal → Type 0
Says chip allowed o (Ok (BootLoaded sync end writes jumped)) = (allowed ≡ true) × (o ≡ Loaded sync end writes jumped)
Says chip allowed o (Ok (BootStuck place)) = (allowed ≡ true) × (report_of spi chip o ≡ stuck_line place)
Says chip allowed o (Err r) = (allowed ≡ false) × (r ≡ record { reason = BadChipLength; place = 0 })

-- It says so of any outcome,
says : (chip : List ℕ) (allowed : Bool) (o : Outcome) → Says chip allowed o (ask allowed (refused BadChipLength 0) (Ok (boot_case o)))
unfolding Says ask boot_case report_of
says chip false o = (refl, refl)
says chip true (Loaded sync end writes jumped) = (refl, refl)
says chip true (OutcomeIprog place) = (refl, refl)
says chip true (Stuck place) = (refl, refl)

-- and so of the chip that was read.
boot_says : (chip : List ℕ) (answer : Result Boot Refusal) → answer ≡ boot_answer spi chip → Says chip (chip_length_allowed (length chip)) (read_chip chip) answer
unfolding boot_answer
boot_says chip answer e =
    subst (λ (a : Result Boot Refusal). Says chip (chip_length_allowed (length chip)) (read_chip chip) a) (sym e) (says chip (chip_length_allowed (length chip)) (read_chip chip))

module _ (chip buffer : List ℕ) where
  -- Past question 1, the call answers with the report.
  passed : chip_length_allowed (length chip) ≡ true → (chip_answer spi chip (length buffer) ≡ written (chip_report spi chip) (length buffer)) × (chip_output spi chip buffer ≡ front_filled (chip_report spi chip) buffer)
  unfolding chip_answer chip_output ask
  passed e = (rw e refl, rw e refl)

  -- A chip that is stuck: the line that says where.
  pub stuck_answer : (place : ℕ) → Ok (BootStuck place) ≡ boot_answer spi chip →
      (chip_answer spi chip (length buffer) ≡ written (stuck_line place) (length buffer)) × (chip_output spi chip buffer ≡ front_filled (stuck_line place) buffer)
  unfolding Says
  stuck_answer place e =
      let p = boot_says chip (Ok (BootStuck place)) e in
      let a = passed p.0 in
      (a.0 ∙ ap (λ (text : List ℕ). written text (length buffer)) p.1, a.1 ∙ ap (λ (text : List ℕ). front_filled text buffer) p.1)

  -- A refusal is passed on, and the buffer stays as it was.
  pub refused_answer : (r : Refusal) → Err r ≡ boot_answer spi chip → (chip_answer spi chip (length buffer) ≡ Err r) × (chip_output spi chip buffer ≡ buffer)
  unfolding Says chip_answer chip_output ask
  refused_answer r e =
      let p = boot_says chip (Err r) e in
      (rw (p.0, p.1) refl, rw p.0 refl)

-- The report of a chip that reads to Loaded is three parts, and so long.
module _ (chip : List ℕ) (sync end writes : ℕ) (jumped : Bool) (reads : read_chip chip ≡ Loaded sync end writes jumped) where
  -- It lists as many writes as it counts.
  count : length (listed chip (Loaded sync end writes jumped)) ≡ writes
  count = listed_length 1 false chip 0 sync end writes jumped (omega arith) reads

  parts : chip_report spi chip ≡ loaded_line jumped ++ write_lines (listed chip (Loaded sync end writes jumped)) ++ end_line end writes
  unfolding report_of
  parts = ap (λ (o : Outcome). report_of spi chip o) reads

  pub loaded_length : length (chip_report spi chip) ≡ 14 + 27 * writes + (21 + length (decimal writes))
  loaded_length =
      let ws = listed chip (Loaded sync end writes jumped) in
      ap (λ (text : List ℕ). length text) parts
      ∙ omega (arith, length-append (loaded_line jumped ++ write_lines ws) (end_line end writes), length-append (loaded_line jumped) (write_lines ws), length_loaded jumped, length_writes ws, count, length_end end writes)

-- A chip that loads passed question 1 and reads to Loaded.
module _ (chip : List ℕ) (sync end writes : ℕ) (jumped : Bool) (boots : Ok (BootLoaded sync end writes jumped) ≡ boot_answer spi chip) where
  allowed : chip_length_allowed (length chip) ≡ true
  unfolding Says
  allowed = (boot_says chip (Ok (BootLoaded sync end writes jumped)) boots).0

  reads : read_chip chip ≡ Loaded sync end writes jumped
  unfolding Says
  reads = (boot_says chip (Ok (BootLoaded sync end writes jumped)) boots).1

  -- Its sync word lies whole in it.
  pub loaded_sync : sync + 4 ≤ length chip
  unfolding Proper
  loaded_sync = (rw reads at (proper 1 false chip 0 (omega arith))).0

  -- Without room for it the call refuses.
  pub loaded_small : (buffer : List ℕ) → leb (14 + 27 * writes + (21 + length (decimal writes))) (length buffer) ≡ false → (chip_answer spi chip (length buffer) ≡ refused NoRoom 0) × (chip_output spi chip buffer ≡ buffer)
  loaded_small buffer h =
      let a = passed chip buffer allowed in
      let n = no_room_law (chip_report spi chip) buffer (rw (loaded_length chip sync end writes jumped reads) h) in
      (a.0 ∙ n.0, a.1 ∙ n.1)

  module _ (cursor : Cursor) (opened : cursor ≡ cursor_at (sync + 4) writes) where
    -- A cursor before its first write has to give what the report lists,
    given : remaining_writes chip cursor ≡ listed chip (Loaded sync end writes jumped)
    unfolding cursor_of
    given =
        ap (λ (k : Cursor). remaining_writes chip k) opened
        ∙ sym (ap (λ (o : Outcome). remaining_writes chip (cursor_of o)) reads)
        ∙ opened_remaining 1 false chip 0 (omega arith)
        ∙ ap (λ (o : Outcome). listed chip o) reads

    -- as many as were counted. So there is room for its lines where there is room for so many.
    pub loaded_room : (buffer : List ℕ) → leb (14 + 27 * writes + (21 + length (decimal writes))) (length buffer) ≡ true → 14 + 27 * length (remaining_writes chip cursor) + length (end_line end writes) ≤ length buffer
    loaded_room buffer h =
        let n : length (remaining_writes chip cursor) ≡ writes = ap (λ (ws : List Write). length ws) given ∙ count chip sync end writes jumped reads in
        let enough : 14 + 27 * writes + (21 + length (decimal writes)) ≤ length buffer = leb-true _ (length buffer) h in
        omega (arith, length_end end writes)

    -- With all of it put at the front the call is done.
    pub loaded_put : (first last : Page) → Wrote first last (loaded_line jumped ++ write_lines (remaining_writes chip cursor) ++ end_line end writes) → first.at ≡ 0 →
        (chip_answer spi chip (length first.out.now) ≡ Ok last.at) × (chip_output spi chip first.out.now ≡ last.out.now)
    loaded_put first last wrote front =
        let a = passed chip first.out.now allowed in
        let text : loaded_line jumped ++ write_lines (remaining_writes chip cursor) ++ end_line end writes ≡ chip_report spi chip =
        ap (λ (ws : List Write). loaded_line jumped ++ write_lines ws ++ end_line end writes) given ∙ sym (parts chip sync end writes jumped reads) in
        let answer = put_answer (rw text at wrote) front in
        (a.0 ∙ answer.0, a.1 ∙ answer.1)
