-- Laws of a record: its text is parsed to it, and a line that is parsed is its record's text.
use Prim.Native.Nat.{ℕ, zero, suc, ◌+◌, ◌-◌, ◌*◌, ◌/◌, ◌%◌, ◌<◌, ◌≤◌}
use mathlib.Core.Path.{◌≡◌, refl, sym, ap, ap₂, ◌∙◌}
use mathlib.Core.Bool.{Bool, true, false}
use mathlib.Core.List.{List, [], ◌∷◌, ◌++◌}
use native.Mathlib.Omega.{arith}
use borrow.Author.Tests.{eqb-true, eqb-false}
use lib.Dec.{eqb}
use lib.ListN.{length, get_or, take, length-append, drop_of_length-le}
use lib.Seq.{take-append_seam, split_at, length-take-le}
use Rattle.digits.specs.Digit.{hex, byte_sum}
use Rattle.digits.proofs.Laws.{hex_long, total_end}
use Rattle.mcsline.specs.Record.{COLON, Ending, ending_text, line_text, Record, Data, ExtendedLinearAddress, End, body_of, checksum, pairs_of, Row, record_text, AllBytes, Fit}
use Rattle.mcsline.specs.Line.{line_spells, count_of, Parsed, typed, parsed}
use Rattle.mcsline.proofs.TypeLaws.{Typing, as_data, as_end, as_upper, as_none, typing, typed_data, typed_end, typed_upper}
use Rattle.mcsline.proofs.ShapeLaws.{parsed_broken, parsed_count, parsed_sum, parsed_typed}
use Rattle.mcsline.proofs.TextLaws.{line_spelled, spelled_line}
use Rattle.std.specs.Prelude.{Option, Some, None, Ok, Err}
use Rattle.mcsline.specs.Types.{Reason, BadLine, BadSum, BadRecord}

-- Bytes and sums.

pub both_bytes : (front back : List ℕ) → AllBytes front → AllBytes back → AllBytes (front ++ back)
unfolding AllBytes
both_bytes [] back h k = k
both_bytes (x ∷ front) back h k = (h.0, both_bytes front back h.1 k)

pub bytes_apart : (front back : List ℕ) → AllBytes (front ++ back) → AllBytes front × AllBytes back
unfolding AllBytes
bytes_apart [] back h = (tt, h)
bytes_apart (x ∷ front) back h = let r = bytes_apart front back h.1 in ((h.0, r.0), r.1)

pub all_bytes : (bytes : List ℕ) → ((i : ℕ) → get_or bytes i 0 < 256) → AllBytes bytes
unfolding AllBytes
all_bytes [] h = tt
all_bytes (b ∷ bytes) h = (h zero, all_bytes bytes (λ i. h (suc i)))

bytes_end : (xs : List ℕ) (x : ℕ) → AllBytes xs → x < 256 → AllBytes (xs ++ x ∷ [])
unfolding AllBytes
bytes_end xs x h k = both_bytes xs (x ∷ []) h (k, tt)

bytes_at : (xs : List ℕ) (i : ℕ) → AllBytes xs → get_or xs i 0 < 256
unfolding AllBytes
bytes_at [] i h = omega arith
bytes_at (x ∷ xs) zero h = h.0
bytes_at (x ∷ xs) (suc i) h = bytes_at xs i h.1

bytes_take : (n : ℕ) (xs : List ℕ) → AllBytes xs → AllBytes (take n xs)
unfolding AllBytes
bytes_take zero xs h = tt
bytes_take (suc n) [] h = tt
bytes_take (suc n) (x ∷ xs) h = (h.0, bytes_take n xs h.1)

sum_small : (t : ℕ) → (256 - t % 256) % 256 < 256
sum_small t = omega arith

sum_fills : (t : ℕ) → (t + (256 - t % 256) % 256) % 256 ≡ 0
sum_fills t = omega arith

sum_only : (t s : ℕ) → s < 256 → (t + s) % 256 ≡ 0 → s ≡ (256 - t % 256) % 256
sum_only t s h e = omega arith

-- From a record to its text and back.

body_bytes : (r : Record) → Fit r → AllBytes (body_of r)
unfolding body_of Fit AllBytes
body_bytes (Data address bytes) h = (omega arith, (omega arith, (omega arith, (omega arith, h.3))))
body_bytes (ExtendedLinearAddress half) h = (omega arith, (omega arith, (omega arith, (omega arith, (omega arith, (omega arith, tt))))))
body_bytes End h = (omega arith, (omega arith, (omega arith, (omega arith, tt))))

pub pairs_bytes : (r : Record) → Fit r → AllBytes (pairs_of r)
unfolding pairs_of checksum
pairs_bytes r h = bytes_end (body_of r) (checksum (body_of r)) (body_bytes r h) (sum_small (byte_sum (body_of r)))

pairs_sum : (r : Record) → byte_sum (pairs_of r) % 256 ≡ 0
unfolding pairs_of checksum
pairs_sum r = rw (total_end (body_of r) (checksum (body_of r))) (sum_fills (byte_sum (body_of r)))

body_long : (r : Record) → length (body_of r) ≡ count_of (pairs_of r) + 4
unfolding pairs_of body_of
body_long (Data address bytes) = omega arith
body_long (ExtendedLinearAddress half) = refl
body_long End = refl

pairs_long : (r : Record) → length (pairs_of r) ≡ count_of (pairs_of r) + 5
unfolding pairs_of
pairs_long r = let l : length (body_of r ++ checksum (body_of r) ∷ []) ≡ length (body_of r) + 1 = length-append (body_of r) (checksum (body_of r) ∷ []) in let b : length (body_of r) ≡ count_of (pairs_of r) + 4 = body_long r in omega arith

pairs_typed : (r : Record) → Fit r → typed (pairs_of r) ≡ Ok r
unfolding pairs_of body_of Fit
pairs_typed (Data address bytes) h =
    let s = checksum (body_of (Data address bytes)) in
    let a : address / 256 * 256 + address % 256 ≡ address = omega arith in
    typed_data (pairs_of (Data address bytes)) refl (λ e. omega arith)
    ∙ ap₂ (λ (x : ℕ) (y : List ℕ). Ok (Data x y)) a (take-append_seam bytes (s ∷ []))
pairs_typed (ExtendedLinearAddress half) h =
    let a : half / 256 * 256 + half % 256 ≡ half = omega arith in
    typed_upper (pairs_of (ExtendedLinearAddress half)) refl refl refl ∙ ap (λ (x : ℕ). Ok (ExtendedLinearAddress x)) a
pairs_typed End h = typed_end (pairs_of End) refl refl refl

-- a record's text is parsed to the record
pub text_parsed : (r : Record) (e : Ending) → Fit r → parsed (record_text (Row r e)) ≡ Ok r
unfolding record_text
text_parsed r e h =
    parsed_typed (line_text (pairs_of r) e) (pairs_of r) (line_spelled (pairs_of r) e (pairs_bytes r h)) (pairs_long r) (pairs_sum r) ∙ pairs_typed r h

-- From pairs to the record they make, and back.

-- the last of n + 1 pairs
last_of : (xs : List ℕ) (n : ℕ) → length xs ≡ n + 1 → xs ≡ take n xs ++ get_or xs n 0 ∷ []
last_of xs n h = split_at xs n 0 (omega arith) ∙ ap (λ (l : List ℕ). take n xs ++ get_or xs n 0 ∷ l) (drop_of_length-le xs {i = suc n} (omega arith))

two_of : (xs : List ℕ) → 2 ≤ length xs → take 2 xs ≡ get_or xs 0 0 ∷ get_or xs 1 0 ∷ []
two_of [] h = absurd (omega arith)
two_of (x ∷ []) h = absurd (omega arith)
two_of (x ∷ y ∷ xs) h = refl

record_by : (r : Record) (body : List ℕ) (s : ℕ) → body ≡ body_of r → s < 256 → byte_sum (body ++ s ∷ []) % 256 ≡ 0 → body ++ s ∷ [] ≡ pairs_of r
unfolding pairs_of checksum
record_by r body s e h t =
    let sum : s ≡ checksum body = sum_only (byte_sum body) s h (rw total_end at t) in
    rw sum (ap (λ (l : List ℕ). l ++ checksum l ∷ []) e)

abbrev Makes : List ℕ → Record → Type 0
Makes pairs r = (pairs ≡ pairs_of r) × Fit r

is_same : {r q : Record} → ◌≡◌ {A = Parsed} (Ok r) (Ok q) → r ≡ q
is_same e = cc

makes : (pairs : List ℕ) (r : Record) → AllBytes pairs → length pairs ≡ count_of pairs + 5 → byte_sum pairs % 256 ≡ 0 → typed pairs ≡ Ok r → Makes pairs r
unfolding AllBytes Fit body_of
makes [] r h l t e = absurd (omega arith)
makes (a ∷ []) r h l t e = absurd (omega arith)
makes (a ∷ b ∷ []) r h l t e = absurd (omega arith)
makes (a ∷ b ∷ c ∷ []) r h l t e = absurd (omega arith)
makes (a ∷ b ∷ c ∷ d ∷ rest) r h l t e = go (typing (a ∷ b ∷ c ∷ d ∷ rest))
  where
    parts : rest ≡ take a rest ++ get_or rest a 0 ∷ []
    parts = last_of rest a (omega arith)

    long : length (take a rest) ≡ a
    long = length-take-le a rest (omega arith)

    -- the pairs with the data and the sum apart
    whole : a ∷ b ∷ c ∷ d ∷ rest ≡ (a ∷ b ∷ c ∷ d ∷ take a rest) ++ get_or rest a 0 ∷ []
    whole = ap (λ (x : List ℕ). a ∷ b ∷ c ∷ d ∷ x) parts

    made : (q : Record) → a ∷ b ∷ c ∷ d ∷ take a rest ≡ body_of q → Fit q → ◌≡◌ {A = Parsed} (Ok q) (Ok r) → Makes (a ∷ b ∷ c ∷ d ∷ rest) r
    made q f k i =
        rw (is_same i) at (let m : Makes (a ∷ b ∷ c ∷ d ∷ rest) q =
        (whole ∙ record_by q (a ∷ b ∷ c ∷ d ∷ take a rest) (get_or rest a 0) f (bytes_at rest a h.1.1.1.1) (rw whole at t), k) in m)

    go : Typing (a ∷ b ∷ c ∷ d ∷ rest) → Makes (a ∷ b ∷ c ∷ d ∷ rest) r
    go (as_data ty n f) =
        let x : (b * 256 + c) / 256 ≡ b = omega arith in
        let y : (b * 256 + c) % 256 ≡ c = omega arith in
        let z : d ≡ 0 = ty in
        let fit : (b * 256 + c < 65536) × (1 ≤ length (take a rest)) × (length (take a rest) ≤ 255) × AllBytes (take a rest) =
        (omega arith, omega (arith, long), omega (arith, long), bytes_take a rest h.1.1.1.1) in
        made (Data (b * 256 + c) (take a rest)) (rw (long, x, y, z) refl) fit (sym f ∙ e)
    go (as_end ty n ad f) =
        let z : d ≡ 1 = ty in
        let o : a ≡ 0 = n in
        let p : b ≡ 0 = omega arith in
        let q : c ≡ 0 = omega arith in
        made End (rw (z, o, p, q) refl) tt (sym f ∙ e)
    go (as_upper ty n ad f) =
        let z : d ≡ 4 = ty in
        let o : a ≡ 2 = n in
        let p : b ≡ 0 = omega arith in
        let q : c ≡ 0 = omega arith in
        let x : get_or rest 0 0 < 256 = bytes_at rest 0 h.1.1.1.1 in
        let y : get_or rest 1 0 < 256 = bytes_at rest 1 h.1.1.1.1 in
        let u : (get_or rest 0 0 * 256 + get_or rest 1 0) / 256 ≡ get_or rest 0 0 = omega arith in
        let v : (get_or rest 0 0 * 256 + get_or rest 1 0) % 256 ≡ get_or rest 1 0 = omega arith in
        made (ExtendedLinearAddress (get_or rest 0 0 * 256 + get_or rest 1 0)) (rw (z, o, p, q, u, v, two_of rest (omega arith)) refl) (omega arith) (sym f ∙ e)
    go (as_none f) = let g : ◌≡◌ {A = Parsed} (Err BadRecord) (Ok r) = sym f ∙ e in absurd cc

-- a line that is parsed is the text of its record
pub parsed_text : (line : List ℕ) (r : Record) → parsed line ≡ Ok r → (e : Ending) × ((line ≡ record_text (Row r e)) × Fit r)
unfolding record_text
parsed_text line r p = spelled (line_spells line) refl
  where
    refused : (reason : Reason) → parsed line ≡ Err reason → (e : Ending) × ((line ≡ line_text (pairs_of r) e) × Fit r)
    refused reason q = absurd cc

    summed : (pairs : List ℕ) (b : Bool) → line_spells line ≡ Some pairs → length pairs ≡ count_of pairs + 5 → eqb (byte_sum pairs % 256) 0 ≡ b → (e : Ending) × ((line ≡ line_text (pairs_of r) e) × Fit r)
    summed pairs true s n t =
        let text : (e : Ending) × ((line ≡ line_text pairs e) × AllBytes pairs) = spelled_line line pairs s in
        let m : Makes pairs r = makes pairs r text.1.1 n (eqb-true _ _ t) (sym (parsed_typed line pairs s n (eqb-true _ _ t)) ∙ p) in
        (text.0, (text.1.0 ∙ ap (λ (l : List ℕ). line_text l text.0) m.0, m.1))
    summed pairs false s n t = refused BadSum (parsed_sum line pairs s n (eqb-false _ _ t))

    counted : (pairs : List ℕ) (b : Bool) → line_spells line ≡ Some pairs → eqb (length pairs) (count_of pairs + 5) ≡ b → (e : Ending) × ((line ≡ line_text (pairs_of r) e) × Fit r)
    counted pairs true s n = summed pairs (eqb (byte_sum pairs % 256) 0) s (eqb-true _ _ n) refl
    counted pairs false s n = refused BadLine (parsed_count line pairs s n)

    spelled : (s : Option (List ℕ)) → line_spells line ≡ s → (e : Ending) × ((line ≡ line_text (pairs_of r) e) × Fit r)
    spelled (Some pairs) s = counted pairs (eqb (length pairs) (count_of pairs + 5)) s refl
    spelled None s = refused BadLine (parsed_broken line s)

-- A line has a colon, two characters for each pair and for the sum, and its end.
pub summed_long : (pairs : List ℕ) (e : Ending) → length (line_text (pairs ++ checksum pairs ∷ []) e) ≡ 2 * length pairs + 3 + length (ending_text e)
unfolding line_text
summed_long pairs e =
    let a = length-append pairs (checksum pairs ∷ []) in
    let b = hex_long (pairs ++ checksum pairs ∷ []) in
    let c = length-append (COLON ∷ hex (pairs ++ checksum pairs ∷ [])) (ending_text e) in
    omega arith

pub record_long : (r : Record) (e : Ending) → length (record_text (Row r e)) ≡ 2 * length (body_of r) + 3 + length (ending_text e)
unfolding record_text pairs_of
record_long r e = summed_long (body_of r) e

-- So a data record has two characters for each of its bytes.
pub record_room : (address : ℕ) (bytes : List ℕ) (e : Ending) → 2 * length bytes ≤ length (record_text (Row (Data address bytes) e))
unfolding body_of
record_room address bytes e = let l = record_long (Data address bytes) e in omega arith
