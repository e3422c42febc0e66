-- Laws of a part's lines: the upper half's, those of the bytes that are left, and the loop over them.
use Prim.Native.Nat.{ℕ, ◌+◌, ◌-◌, ◌*◌, ◌/◌, ◌%◌, min, ◌<◌, ◌≤◌}
use mathlib.Core.Path.{◌≡◌, refl, sym, ap, ap₂, ◌∙◌}
use mathlib.Core.Logic.{⊎_elim}
use mathlib.Core.List.{List, [], ◌∷◌, ◌++◌, append-nil}
use native.Mathlib.Omega.{arith}
use lib.ListN.{length, take, drop, length-append, length-drop, take-append-drop}
use lib.Seq.{paste, paste-zero, length-paste, take_all, drop-drop, length-take-le}
use Rattle.base.proofs.Laws.{below_or_not, nil_of_length}
use Rattle.fields.proofs.Laws.{paste_paste}
use Rattle.mcsline.specs.Record.{record_text}
use Rattle.mcs.specs.Text.{file_text}
use Rattle.canonical.specs.Canonical.{upper_line, upper_lines, data_line, record_lines, records_of, lines_from, part_text}
use Rattle.canonical.proofs.Laws.{upper_here, upper_none, file_append, in_parts}
use Rattle.recordwriter.specs.Record.{line_of}
use Rattle.recordwriter.proofs.LineLaws.{line_long, data_text, upper_text_law}

-- The upper half's line, where there is one.
module _ (place : ℕ) where
  pub upper_line_law : place % 65536 ≡ 0 → file_text (upper_lines place) ≡ line_of 0x04 0 (place / 65536 / 256 ∷ place / 65536 % 256 ∷ [])
  unfolding file_text
  upper_line_law h = ap file_text (upper_here place h) ∙ append-nil (record_text (upper_line place)) ∙ upper_text_law (place / 65536)

  pub upper_long : place % 65536 ≡ 0 → length (file_text (upper_lines place)) ≡ 16
  upper_long h = ap (λ (l : List ℕ). length l) (upper_line_law h) ∙ line_long 0x04 0 (place / 65536 / 256 ∷ place / 65536 % 256 ∷ [])

  pub no_upper : (place % 65536 ≡ 0 → ⊥) → file_text (upper_lines place) ≡ []
  unfolding file_text
  no_upper h = ap file_text (upper_none place h)

-- The lines of up to 16 bytes are those of one record.
one_record : (at : ℕ) (bytes : List ℕ) → 0 < length bytes → length bytes ≤ 16 → part_text at bytes ≡ file_text (upper_lines at) ++ line_of 0x00 (at % 65536) bytes
unfolding lines_from file_text
one_record at bytes some few =
    let one : records_of (length bytes) ≡ 1 = omega arith in
    rw (one, take_all 16 bytes few)
    (ap file_text (append-nil (record_lines at bytes)) ∙ file_append (upper_lines at) (data_line at bytes ∷ [])
    ∙ ap (λ (l : List ℕ). file_text (upper_lines at) ++ l) (append-nil (record_text (data_line at bytes)) ∙ data_text (at % 65536) bytes))

-- THE LOOP over the records of a part: the lines of the bytes that are left, put at the next place, give what those of all bytes give at the first.
pub record Going (start : ℕ) (part before : List ℕ) (to place : ℕ) (left after : List ℕ) (at : ℕ) : Type 0 where
  pub here : place + length left ≡ start + length part
  pub room : to + length (part_text start part) ≤ length before
  pub same : length after ≡ length before
  pub ends : at + length (part_text place left) ≡ to + length (part_text start part)
  pub is : paste after at (part_text place left) (length (part_text place left)) ≡ paste before to (part_text start part) (length (part_text start part))

module _ {start : ℕ} {part before : List ℕ} {to place : ℕ} {left after : List ℕ} {at : ℕ} (going : Going start part before to place left after at) where
  -- None is left, so all are put.
  pub going_done : length left ≡ 0 → (at ≡ to + length (part_text start part)) × (after ≡ paste before to (part_text start part) (length (part_text start part)))
  unfolding lines_from file_text
  going_done none =
      let nothing : part_text place left ≡ [] = ap (λ (l : List ℕ). part_text place l) (nil_of_length left none) in
      let long : length (part_text place left) ≡ 0 = ap (λ (l : List ℕ). length l) nothing in
      (omega (arith, going.ends), paste-zero after at (part_text place left) ∙ ap (λ (k : ℕ). paste after at (part_text place left) k) (sym long) ∙ going.is)

  -- The next record's bytes are the first of those that are left: 16, or all.
  module _ (bytes rest : List ℕ) (parts : left ≡ bytes ++ rest) (takes : length bytes ≡ min 16 (length left)) (some : 0 < length left) where
    abbrev upper : List ℕ
    upper = file_text (upper_lines place)

    abbrev line : List ℕ
    line = line_of 0x00 (place % 65536) bytes

    abbrev others : List ℕ
    others = part_text (place + length bytes) rest

    shares : length left ≡ length bytes + length rest
    shares = ap (λ (l : List ℕ). length l) parts ∙ length-append bytes rest

    apart : part_text place (bytes ++ rest) ≡ part_text place bytes ++ others
    unfolding lines_from file_text
    apart = ⊎_elim short (λ more. in_parts.join place bytes rest (let whole : length bytes ≡ 16 = omega (arith, shares) in rw whole refl)) (below_or_not (length rest) 1)
      where
        short : length rest < 1 → part_text place (bytes ++ rest) ≡ part_text place bytes ++ others
        short h =
            let none : rest ≡ [] = nil_of_length rest (omega arith) in
            rw none (ap (λ (l : List ℕ). part_text place l) (append-nil bytes) ∙ sym (append-nil (part_text place bytes)))

    next : part_text place left ≡ (upper ++ line) ++ others
    next = ap (λ (l : List ℕ). part_text place l) parts ∙ apart ∙ ap (λ (l : List ℕ). l ++ others) (one_record place bytes (omega arith) (omega arith))

    line_count : length line ≡ 2 * length bytes + 12
    line_count = line_long 0x00 (place % 65536) bytes

    count : length (part_text place left) ≡ length upper + (2 * length bytes + 12) + length others
    count = ap (λ (l : List ℕ). length l) next ∙ omega (arith, line_count, length-append (upper ++ line) others, length-append upper line)

    -- There is room for its lines,
    pub going_room : (length bytes ≤ 255) × (at + (length upper + (2 * length bytes + 12)) ≤ length after) × (place + length bytes ≤ start + length part)
    going_room = (omega arith, omega (arith, count, going.room, going.same, going.ends), omega (arith, shares, going.here))

    -- and with them put the others are left.
    pub going_on : (mid last : List ℕ) (between end : ℕ) → between ≡ at + length upper → end ≡ between + (2 * length bytes + 12) → mid ≡ paste after at upper (length upper) → last ≡ paste mid between line (2 * length bytes + 12) →
        Going start part before to (place + length bytes) rest last end
    going_on mid last between end b e m l =
        let room = going_room.1 in
        let done : last ≡ paste after at (upper ++ line) (length upper + (2 * length bytes + 12)) =
        l ∙ ap₂ (λ (s : List ℕ) (k : ℕ). paste s k line (2 * length bytes + 12)) m b ∙ paste_paste after at upper (length upper) line (2 * length bytes + 12) refl line_count (omega (arith, room)) in
        let long : length (upper ++ line) ≡ length upper + (2 * length bytes + 12) = length-append upper line ∙ ap (λ (n : ℕ). length upper + n) line_count in
        let place-after : end ≡ at + (length upper + (2 * length bytes + 12)) = omega (arith, b, e) in
        record {
          here = omega (arith, shares, going.here);
          room = going.room;
          same = ap (λ (s : List ℕ). length s) done ∙ length-paste after at (upper ++ line) (length upper + (2 * length bytes + 12)) (omega (arith, room)) (omega (arith, long)) ∙ going.same;
          ends = omega (arith, count, going.ends, b, e);
          is =
              ap₂ (λ (s : List ℕ) (k : ℕ). paste s k others (length others)) done place-after
              ∙ paste_paste after at (upper ++ line) (length upper + (2 * length bytes + 12)) others (length others) long refl (omega (arith, room))
              ∙ ap₂ (λ (s : List ℕ) (k : ℕ). paste after at s k) (sym next) (sym count)
              ∙ going.is;
        }

-- A turn takes up to 16 of the bytes from its place on, and leaves those after them.
pub record Turn (part : List ℕ) (done count : ℕ) (bytes : List ℕ) : Type 0 where
  pub parts : drop done part ≡ bytes ++ drop (done + count) part
  pub takes : length bytes ≡ min 16 (length (drop done part))
  pub some : 0 < length (drop done part)
  pub long : length bytes ≡ count

pub turn : (part : List ℕ) (done count taken : ℕ) → taken ≡ count → done < length part → count ≡ min 16 (length part - done) → Turn part done count (take taken (drop done part))
turn part done count taken same more takes =
    let left : length (drop done part) ≡ length part - done = length-drop done part in
    let long : length (take taken (drop done part)) ≡ count = length-take-le taken (drop done part) (omega arith) ∙ same in
    record {
      parts = sym (take-append-drop taken (drop done part)) ∙ ap (λ (l : List ℕ). take taken (drop done part) ++ l) (ap (λ (k : ℕ). drop k (drop done part)) same ∙ drop-drop count done part);
      takes = omega arith;
      some = omega arith;
      long = long;
    }
