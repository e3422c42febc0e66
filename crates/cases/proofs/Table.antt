-- Every row of the table holds.
use Prim.Native.Nat.{ℕ, ◌*◌, ◌/◌}
use mathlib.Core.Path.{◌≡◌, refl}
use mathlib.Core.Bool.{true}
use mathlib.Core.List.{◌++◌}
use native.Mathlib.Omega.{arith}
use borrow.Author.Tests.{le-leb}
use lib.Count.{ones_in}
use lib.ListN.{length, replicate}
use Rattle.framing.specs.Search.{begins_with, find}
use Rattle.framing.specs.Words.{words}
use Rattle.base.specs.Answer.{in_numbers}
use Rattle.base.specs.Question.{ask}
use Rattle.base.specs.Output.{front_filled}
use Rattle.packets.specs.Header.{register_ok, type1_of, type2_of, head_of, effect_of}
use Rattle.packets.specs.Trace.{mode_of, after_header, trace, finish}
use Rattle.configreader.specs.Configreader.{read_at, search_from, jump}
use Rattle.kind.specs.Layout.{chip_length_allowed, image_length_allowed, update_place_allowed, update_length_allowed, ask_layout, layout_answer}
use Rattle.bootreader.specs.Image.{alone_case, image_answer}
use Rattle.chip.specs.Switch.{switch_values, switch_case, switch_answer}
use Rattle.heaviest.specs.Heaviest.{heaviest_length_allowed, most_in, most_writes, most_answer}
use Rattle.heaviest.proofs.Laws.{most_writes_reached}
use Rattle.outcomes.proofs.Laws.{program_computed, erase_computed}
use Rattle.orders.specs.Table.{by_phase, count, count_before as run_before}
use Rattle.orders.specs.Orders.{in_phase, orders_before}
use Rattle.starts.specs.Starts.{total_answer}
use Rattle.digits.specs.Digit.{digits, hex, byte_sum, place_in, digit_of}
use Rattle.mcsline.specs.Record.{ending_text, line_text, body_of, checksum, pairs_of, record_text}
use Rattle.mcsline.specs.Line.{is_ending, onto, by_spelled, spelled_by, line_spells, by_type, typed, parsed, by_parsed}
use Rattle.mcs.specs.Reading.{prepend, lines_of, follows, is_empty, read_lines}
use Rattle.mcs.specs.Reader.{answer_of, held_output}
use Rattle.mcs.specs.Text.{file_text}
use Rattle.canonical.specs.Canonical.{upper_lines, lines_from, shorter_length}
use Rattle.canonical.specs.Test.{is_text_of, same_text}
use Rattle.fields.specs.Fields.{ascii}
use Rattle.mcswriter.specs.Mcswriter.{length_answer, write_answer, write_output}
use Rattle.cases.specs.Cases.{Holds, All, has, most, jumping, register15, ended15, rows}

-- The image with most writes: what the image check says of it is a theorem, so the image is not written out.
most_row : (n : ℕ) → heaviest_length_allowed n ≡ true → Holds (most n (has (most_writes n) (4 * (n / 4))))
unfolding in_numbers most_answer ask
most_row n allowed rest h = rw (allowed, most_writes_reached.reached n allowed) refl

infixr 4 ◌also◌
-- one row, and the rows after it
abbrev ◌also◌ : {A B : Type 0} → A → B → A × B
row also rows = (row, rows)

table : All rows
unfolding All rows in_numbers switch_values answer_of held_output front_filled read_lines by_parsed follows parsed by_spelled typed by_type line_spells spelled_by onto is_ending is_empty lines_of prepend digit_of place_in digits byte_sum image_answer image_length_allowed alone_case ask read_at search_from jump find begins_with words trace finish after_header mode_of head_of type1_of type2_of register_ok effect_of layout_answer ask_layout chip_length_allowed update_place_allowed update_length_allowed switch_answer switch_case total_answer run_before count by_phase orders_before in_phase ones_in most_answer heaviest_length_allowed most_in length_answer write_answer write_output upper_lines lines_from shorter_length file_text record_text line_text ending_text pairs_of body_of checksum hex is_text_of same_text ascii
table =
    (λ rest h. refl)
    also (λ rest h. refl)
    also (λ rest h. rw (le-leb 1 (length (jumping ++ rest)) (omega arith), le-leb (length (jumping ++ rest)) 16777216 (omega arith)) refl)
    also (λ rest h. refl)
    also (λ rest h. refl)
    also (λ rest h. refl)
    also (λ rest h. refl)
    also (λ rest h. refl)
    also (λ rest h. refl)
    also (λ rest h. refl)
    also (λ rest h. refl)
    also (λ rest h. rw (le-leb 12 (length (replicate 12 0 ++ rest)) (omega arith)) refl)
    also (λ rest h. rw (program_computed 0xFFFFFFFF 0xAA995566 (omega arith) (omega arith)) refl)
    also (λ rest h. rw (program_computed 0x7FFFFFFF 0xAA995566 (omega arith) (omega arith)) refl)
    also (λ rest h. rw (program_computed 0xAA995566 0xAA995566 (omega arith) (omega arith)) refl)
    also (λ rest h. rw (program_computed 0 0xAA995566 (omega arith) (omega arith)) refl)
    also (λ rest h. rw (erase_computed 0 (omega arith)) refl)
    also (λ rest h. rw (erase_computed 0xFFFFFFFF (omega arith)) refl)
    also (λ rest h. rw (le-leb 1 (length (register15 0 ++ rest)) (omega arith), le-leb (length (register15 0 ++ rest)) 16777216 (omega arith)) refl)
    also (λ rest h. rw (le-leb 1 (length (register15 1 ++ rest)) (omega arith), le-leb (length (register15 1 ++ rest)) 16777216 (omega arith)) refl)
    also (λ rest h. rw (le-leb 1 (length (register15 2047 ++ rest)) (omega arith), le-leb (length (register15 2047 ++ rest)) 16777216 (omega arith)) refl)
    also (λ rest h. rw (le-leb 1 (length (ended15 ++ rest)) (omega arith), le-leb (length (ended15 ++ rest)) 16777216 (omega arith)) refl)
    also most_row 12 refl
    also most_row 8196 refl
    also most_row 8200 refl
    also most_row 8204 refl
    also most_row 16777216 refl
    also most_row 15 refl
    also (λ rest h. refl)
    also (λ rest h. refl)
    also (λ rest h. refl)
    also (λ rest h. refl)
    also (λ rest h. refl)
    also (λ rest h. refl)
    also (λ rest h. refl)
    also (λ rest h. refl)
    also (λ rest h. refl)
    also (λ rest h. refl)
    also (λ rest h. refl)
    also (λ rest h. refl)
    also (λ rest h. refl)
    also (λ rest h. refl)
    also (λ rest h. refl)
    also (λ rest h. refl)
    also (λ rest h. refl)
    also (λ rest h. refl)
    also (λ rest h. refl)
    also (λ rest h. refl)
    also (λ rest h. refl)
    also (λ rest h. refl)
    also (λ rest h. refl)
    also (λ rest h. refl)
    also (λ rest h. refl)
    also tt
