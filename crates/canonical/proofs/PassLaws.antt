-- The pass over the lines of a text says yes exactly where the test does.
use Prim.Native.Nat.{ℕ, ◌+◌, ◌*◌, ◌/◌, ◌%◌, ◌≤◌}
use mathlib.Core.Path.{◌≡◌, refl, sym, ap, ◌∙◌}
use mathlib.Core.Bool.{Bool, true, false, not}
use mathlib.Core.List.{List, [], ◌∷◌, ◌++◌}
use mathlib.Core.Logic.{◌⊎◌, inl, inr}
use native.Mathlib.Omega.{arith}
use borrow.Author.Tests.{eqb-true, eqb-false, eq-eqb, ne_eqb, le-leb, leb-true, not-true}
use lib.Dec.{eqb, leb}
use lib.ListN.{length, length-append}
use Rattle.base.specs.Question.{ask}
use Rattle.base.proofs.Laws.{asked, asked_yes, false_true, equal_or_not}
use Rattle.mcsline.specs.Record.{Ending, Lf, CrLf, ending_text, Record, Data, ExtendedLinearAddress, End, body_of, Line, Row, record_text, AllBytes, Fit}
use Rattle.mcsline.specs.Line.{Parsed, parsed, by_parsed}
use Rattle.mcsline.proofs.Laws.{bytes_apart, text_parsed, parsed_text, record_long}
use Rattle.kind.specs.Layout.{longest_chip}
use Rattle.kind.proofs.Laws.{image_length_range}
use Rattle.mcs.specs.Text.{file_text, FileFrom}
use Rattle.mcs.specs.Reading.{lines_of, is_empty}
use Rattle.mcs.proofs.Laws.{joined, joined_lines, lines_file, no_file, fit_end, none_none, no_lines_left, joined_none, written_more}
use Rattle.canonical.specs.Canonical.{upper_line, upper_lines, data_line, part_lines, end_line}
use Rattle.canonical.specs.Rule.{writable, data_of, AllLf, Sixteens, UppersBefore, InForm}
use Rattle.canonical.specs.Test.{is_canonical}
use Rattle.canonical.specs.Pass.{data_fits, upper_fits, end_fits, lines_pass, text_passes}
use Rattle.canonical.proofs.PartLaws.{upper_here, upper_none, part_none, Piece, part_rows, by_records}
use Rattle.canonical.proofs.LengthLaws.{data_long, upper_long, end_long}
use Rattle.canonical.proofs.RuleLaws.{data_fits_law}
use Rattle.canonical.proofs.TestLaws.{Yes, yes_says, test_exact}
use Rattle.std.specs.Prelude.{Ok, Err}
use Rattle.base.specs.declared.refusal.Reason.{Reason}

-- THE TEXT OF AN IMAGE PASSES

-- One line more.

module _ (line : List ℕ) (lines : List (List ℕ)) (upper : Bool) (next : ℕ) where
  pass_data : (address : ℕ) (bytes : List ℕ) → parsed line ≡ Ok (Data address bytes) → lines_pass (line ∷ lines) upper next ≡ ask (data_fits upper next address (length bytes) (length line)) false (lines_pass lines false (next + length bytes))
  unfolding lines_pass by_parsed
  pass_data address bytes p = rw p refl

  pass_upper : (half : ℕ) → parsed line ≡ Ok (ExtendedLinearAddress half) → lines_pass (line ∷ lines) upper next ≡ ask (upper_fits upper next half (length line)) false (lines_pass lines true next)
  unfolding lines_pass by_parsed
  pass_upper half p = rw p refl

  pass_end : parsed line ≡ Ok End → lines_pass (line ∷ lines) upper next ≡ ask (is_empty lines) false (end_fits upper next (length line))
  unfolding lines_pass by_parsed
  pass_end p = rw p refl

  pass_refused : (reason : Reason) → parsed line ≡ Err reason → lines_pass (line ∷ lines) upper next ≡ false
  unfolding lines_pass by_parsed
  pass_refused reason p = rw p refl

pass_none : (upper : Bool) (next : ℕ) → lines_pass [] upper next ≡ false
unfolding lines_pass
pass_none upper next = refl

-- What is asked of a record that is where it must be.

data_good : (upper : Bool) (at count long : ℕ) → at % 16 ≡ 0 → count ≤ 16 → long ≡ 2 * count + 12 → upper ≡ eqb (at % 65536) 0 → data_fits upper at (at % 65536) count long ≡ true
unfolding data_fits ask
data_good upper at count long even most is u = rw (eq-eqb _ _ even, le-leb count 16 most, eq-eqb _ _ is, eq-eqb (at % 65536) (at % 65536) refl) (go (eqb (at % 65536) 0) u)
  where
    go : (b : Bool) → upper ≡ b → elim b [ true ↦ upper | false ↦ not upper ] ≡ true
    go true e = e
    go false e = ap not e

upper_good : (at long : ℕ) → long ≡ 16 → upper_fits false at (at / 65536) long ≡ true
unfolding upper_fits ask
upper_good at long is = rw (eq-eqb (at / 65536) (at / 65536) refl) (eq-eqb long 16 is)

end_good : (next long : ℕ) → long ≡ 12 → writable next ≡ true → end_fits false next long ≡ true
unfolding end_fits ask
end_good next long is w = rw (eq-eqb _ _ is) w

fit_upper : (half : ℕ) → half ≤ 65535 → Fit (ExtendedLinearAddress half)
unfolding Fit
fit_upper half h = omega arith

yes_then : (b rest : Bool) → b ≡ true → rest ≡ true → ask b false rest ≡ true
yes_then b rest e r = asked_yes b false rest e ∙ r

end_passes : (next : ℕ) → writable next ≡ true → lines_pass (lines_of (file_text (end_line ∷ []))) false next ≡ true
end_passes next w =
    ap (λ (l : List (List ℕ)). lines_pass l false next) (lines_file End Lf [] fit_end)
    ∙ pass_end (record_text end_line) (lines_of (file_text [])) false next (text_parsed End Lf fit_end)
    ∙ yes_then (is_empty (lines_of (file_text []))) _ (ap is_empty no_file ∙ none_none) (end_good next (length (record_text end_line)) end_long w)

-- A data record, right after an upper half or not, and lines that pass after it.
data_passes : (upper : Bool) (at : ℕ) (bytes : List ℕ) (rows : List Line) → at % 16 ≡ 0 → 1 ≤ length bytes → length bytes ≤ 16 → AllBytes bytes → upper ≡ eqb (at % 65536) 0 →
    lines_pass (lines_of (file_text rows)) false (at + length bytes) ≡ true → lines_pass (lines_of (file_text (data_line at bytes ∷ rows))) upper at ≡ true
data_passes upper at bytes rows even some most small u rest =
    let fit = data_fits_law at bytes some most small in
    ap (λ (l : List (List ℕ)). lines_pass l upper at) (lines_file (Data (at % 65536) bytes) Lf rows fit)
    ∙ pass_data (record_text (data_line at bytes)) (lines_of (file_text rows)) upper at (at % 65536) bytes (text_parsed (Data (at % 65536) bytes) Lf fit)
    ∙ yes_then _ _ (data_good upper at (length bytes) (length (record_text (data_line at bytes))) even most (data_long at bytes) u) rest

upper_passes : (at : ℕ) (rows : List Line) → at / 65536 ≤ 65535 → lines_pass (lines_of (file_text rows)) true at ≡ true → lines_pass (lines_of (file_text (upper_line at ∷ rows))) false at ≡ true
upper_passes at rows small rest =
    let fit = fit_upper (at / 65536) small in
    ap (λ (l : List (List ℕ)). lines_pass l false at) (lines_file (ExtendedLinearAddress (at / 65536)) Lf rows fit)
    ∙ pass_upper (record_text (upper_line at)) (lines_of (file_text rows)) false at (at / 65536) (text_parsed (ExtendedLinearAddress (at / 65536)) Lf fit)
    ∙ yes_then _ _ (upper_good at (length (record_text (upper_line at))) (upper_long at)) rest

Passes : List ℕ → Type 0
Passes part = (at : ℕ) → (1 ≤ length part → at % 16 ≡ 0) → AllBytes part → writable (at + length part) ≡ true → lines_pass (lines_of (file_text (part_lines at part ++ end_line ∷ []))) false at ≡ true

part_passes : (part : List ℕ) → Passes part
unfolding Passes
part_passes = by_records Passes none more
  where
    none : Passes []
    none at even small w = let z : at + 0 ≡ at = omega arith in rw (part_none at) (end_passes at (rw z at w))

    more : (bytes rest : List ℕ) → Piece bytes rest → Passes rest → Passes (bytes ++ rest)
    more bytes rest piece ih at even small w =
        let n = length-append bytes rest in
        let some = piece.some in
        ap (λ (l : List Line). lines_pass (lines_of (file_text l)) false at) (part_rows at bytes rest piece (end_line ∷ []))
        ∙ go (even (omega arith)) (equal_or_not (at % 65536) 0)
      where
        place : at + length (bytes ++ rest) ≡ at + length bytes + length rest
        place = let n = length-append bytes rest in omega arith

        long : writable (at + length bytes + length rest) ≡ true
        long = rw place at w

        rows : List Line
        rows = part_lines (at + length bytes) rest ++ end_line ∷ []

        data' : (upper : Bool) → at % 16 ≡ 0 → upper ≡ eqb (at % 65536) 0 → lines_pass (lines_of (file_text (data_line at bytes ∷ rows))) upper at ≡ true
        data' upper z u =
            let apart = bytes_apart bytes rest small in
            data_passes upper at bytes rows z piece.some piece.most apart.0 u
            (ih (at + length bytes) (λ s. let f = piece.full s in omega arith) apart.1 long)

        go : at % 16 ≡ 0 → (at % 65536 ≡ 0) ⊎ (at % 65536 ≡ 0 → ⊥) → lines_pass (lines_of (file_text (upper_lines at ++ data_line at bytes ∷ rows))) false at ≡ true
        go z (inl here) =
            let r = image_length_range longest_chip (at + length bytes + length rest) long in
            rw (upper_here at here) (upper_passes at (data_line at bytes ∷ rows) (omega arith) (data' true z (sym (eq-eqb _ _ here))))
        go z (inr other) = rw (upper_none at other) (data' false z (sym (ne_eqb (at % 65536) 0 other)))

canonical_passes : (text : List ℕ) → Yes text → text_passes text ≡ true
unfolding Passes
canonical_passes text y = ap text_passes y.is ∙ part_passes y.image 0 (λ s. refl) y.bytes (let z : 0 + length y.image ≡ length y.image = omega arith in rw z y.long)

-- A TEXT THAT PASSES IS IN THE FORM

-- What is asked of a record that passed.

data_asked : (upper : Bool) (next address count long : ℕ) → data_fits upper next address count long ≡ true →
    (next % 16 ≡ 0) × (count ≤ 16) × (long ≡ 2 * count + 12) × (address ≡ next % 65536) × (upper ≡ eqb (next % 65536) 0)
unfolding data_fits
data_asked upper next address count long e =
    let a = asked (eqb (next % 16) 0) false _ true e false_true in
    let b = asked (leb count 16) false _ true a.1 false_true in
    let c = asked (eqb long (2 * count + 12)) false _ true b.1 false_true in
    let d = asked (eqb address (next % 65536)) false _ true c.1 false_true in
    (eqb-true _ _ a.0, leb-true _ _ b.0, eqb-true _ _ c.0, eqb-true _ _ d.0, last (eqb (next % 65536) 0) d.1)
  where
    last : (b : Bool) → elim b [ true ↦ upper | false ↦ not upper ] ≡ true → upper ≡ b
    last true h = h
    last false h = not-true upper h

upper_asked : (upper : Bool) (next half long : ℕ) → upper_fits upper next half long ≡ true → (upper ≡ false) × (half ≡ next / 65536) × (long ≡ 16)
unfolding upper_fits
upper_asked upper next half long e =
    let a = asked (not upper) false _ true e false_true in
    let b = asked (eqb half (next / 65536)) false _ true a.1 false_true in
    (not-true upper a.0, eqb-true _ _ b.0, eqb-true _ _ b.1)

end_asked : (upper : Bool) (next long : ℕ) → end_fits upper next long ≡ true → (upper ≡ false) × (long ≡ 12) × (writable next ≡ true)
unfolding end_fits
end_asked upper next long e =
    let a = asked (not upper) false _ true e false_true in
    let b = asked (eqb long 12) false _ true a.1 false_true in
    (not-true upper a.0, eqb-true _ _ b.0, b.1)

-- A line of its record's length ends in LF.
lf_ended : (e : Ending) → length (ending_text e) ≡ 1 → e ≡ Lf
unfolding ending_text
lf_ended Lf h = refl
lf_ended CrLf h = absurd (omega arith)

ends_lf : (line : List ℕ) (r : Record) (e : Ending) → line ≡ record_text (Row r e) → length line ≡ 2 * length (body_of r) + 4 → e ≡ Lf
ends_lf line r e is long =
    let l : length line ≡ length (record_text (Row r e)) = ap (λ (x : List ℕ). length x) is in
    let n = record_long r e in
    lf_ended e (omega arith)

-- Lines that pass are those of a file that keeps the rules, after an image of `next` bytes and under an upper half.
record Rows (lines : List (List ℕ)) (upper : Bool) (next half : ℕ) (image : List ℕ) : Type 0 where
  rows : List Line
  whole : List ℕ
  written : joined lines ≡ file_text rows
  file : FileFrom half image rows whole
  long : writable (length whole) ≡ true
  lf : AllLf rows
  sixteens : Sixteens rows
  uppers : UppersBefore next upper rows
  even : 1 ≤ length (data_of rows) → next % 16 ≡ 0

-- The upper half in force is that of the next place, unless an upper half must come first.
abbrev InForce : Bool → ℕ → ℕ → Type 0
InForce upper next half = (upper ≡ true) ⊎ (next % 65536 ≡ 0 → ⊥) → half ≡ next / 65536

abbrev Passed : List (List ℕ) → Type 0
Passed lines = (upper : Bool) (next half : ℕ) (image : List ℕ) → length image ≡ next → InForce upper next half → lines_pass lines upper next ≡ true → Rows lines upper next half image

module _ (line : List ℕ) (lines : List (List ℕ)) (ih : Passed lines) (upper : Bool) (next half : ℕ) (image : List ℕ) (here : length image ≡ next) (force : InForce upper next half) (good : lines_pass (line ∷ lines) upper next ≡ true) where
  passed_data : (address : ℕ) (bytes : List ℕ) → parsed line ≡ Ok (Data address bytes) → Rows (line ∷ lines) upper next half image
  unfolding FileFrom AllLf Sixteens UppersBefore data_of Fit body_of
  passed_data address bytes p =
      let a = asked (data_fits upper next address (length bytes) (length line)) false (lines_pass lines false (next + length bytes)) true (sym (pass_data line lines upper next address bytes p) ∙ good) false_true in
      let q = data_asked upper next address (length bytes) (length line) a.0 in
      let t = parsed_text line (Data address bytes) p in
      let e : t.0 ≡ Lf = ends_lf line (Data address bytes) t.0 t.1.0 (omega arith) in
      let m = length-append image bytes in
      let some : 1 ≤ length bytes = t.1.1.1 in
      let most : length bytes ≤ 16 = q.1 in
      let even : next % 16 ≡ 0 = q.0 in
      let place : address ≡ next % 65536 = q.3 in
      let h : half ≡ next / 65536 = force (forced (eqb (next % 65536) 0) refl q.4) in
      let more : InForce false (next + length bytes) half = λ c. onward c h even some most in
      let r = ih false (next + length bytes) half (image ++ bytes) (omega arith) more a.1 in
      record {
        rows = Row (Data address bytes) t.0 ∷ r.rows;
        whole = r.whole;
        written = written_more line lines (Row (Data address bytes) t.0) r.rows t.1.0 r.written;
        file = (t.1.1, omega arith, omega arith, r.file);
        long = r.long;
        lf = (e, r.lf);
        sixteens = (most, (λ s. let n : (next + length bytes) % 16 ≡ 0 = r.even s in omega arith), r.sixteens);
        uppers = (q.4, r.uppers);
        even = λ s. even;
      }
    where
      forced : (b : Bool) → eqb (next % 65536) 0 ≡ b → upper ≡ eqb (next % 65536) 0 → (upper ≡ true) ⊎ (next % 65536 ≡ 0 → ⊥)
      forced true z u = inl (u ∙ z)
      forced false z u = inr (eqb-false (next % 65536) 0 z)

      onward : (false ≡ true) ⊎ ((next + length bytes) % 65536 ≡ 0 → ⊥) → half ≡ next / 65536 → next % 16 ≡ 0 → 1 ≤ length bytes → length bytes ≤ 16 → half ≡ (next + length bytes) / 65536
      onward (inl f) h even some most = absurd (false_true f)
      onward (inr f) h even some most = omega arith

  passed_upper : (other : ℕ) → parsed line ≡ Ok (ExtendedLinearAddress other) → Rows (line ∷ lines) upper next half image
  unfolding FileFrom AllLf Sixteens UppersBefore data_of body_of
  passed_upper other p =
      let a = asked (upper_fits upper next other (length line)) false (lines_pass lines true next) true (sym (pass_upper line lines upper next other p) ∙ good) false_true in
      let q = upper_asked upper next other (length line) a.0 in
      let t = parsed_text line (ExtendedLinearAddress other) p in
      let e : t.0 ≡ Lf = ends_lf line (ExtendedLinearAddress other) t.0 t.1.0 (omega arith) in
      let r = ih true next other image here (λ c. q.1) a.1 in
      record {
        rows = Row (ExtendedLinearAddress other) t.0 ∷ r.rows;
        whole = r.whole;
        written = written_more line lines (Row (ExtendedLinearAddress other) t.0) r.rows t.1.0 r.written;
        file = (t.1.1, r.file);
        long = r.long;
        lf = (e, r.lf);
        sixteens = r.sixteens;
        uppers = (q.0, r.uppers);
        even = r.even;
      }

  passed_end : parsed line ≡ Ok End → Rows (line ∷ lines) upper next half image
  unfolding FileFrom AllLf Sixteens UppersBefore data_of body_of
  passed_end p =
      let a = asked (is_empty lines) false (end_fits upper next (length line)) true (sym (pass_end line lines upper next p) ∙ good) false_true in
      let q = end_asked upper next (length line) a.1 in
      let t = parsed_text line End p in
      let e : t.0 ≡ Lf = ends_lf line End t.0 t.1.0 (omega arith) in
      let none : joined lines ≡ file_text [] = ap joined (no_lines_left lines a.0) ∙ joined_none in
      record {
        rows = Row End t.0 ∷ [];
        whole = image;
        written = written_more line lines (Row End t.0) [] t.1.0 none;
        file = (refl, refl);
        long = rw here q.2;
        lf = (e, tt);
        sixteens = tt;
        uppers = (q.0, tt);
        even = λ s. absurd (omega arith);
      }

passed : (lines : List (List ℕ)) → Passed lines
passed [] upper next half image here force good = absurd (false_true (sym (pass_none upper next) ∙ good))
passed (line ∷ lines) upper next half image here force good = go (parsed line) refl (passed lines)
  where
    go : (p : Parsed) → parsed line ≡ p → Passed lines → Rows (line ∷ lines) upper next half image
    go (Err reason) p ih = absurd (false_true (sym (pass_refused line lines upper next reason p) ∙ good))
    go (Ok (Data address bytes)) p ih = passed_data line lines ih upper next half image here force good address bytes p
    go (Ok (ExtendedLinearAddress other)) p ih = passed_upper line lines ih upper next half image here force good other p
    go (Ok End) p ih = passed_end line lines ih upper next half image here force good p

nothing_before : InForce false 0 0
nothing_before c = refl

passes_formed : (text : List ℕ) → text_passes text ≡ true → InForm text
passes_formed text good =
    let r = passed (lines_of text) false 0 0 [] refl nothing_before good in
    record {
      lines = r.rows;
      image = r.whole;
      written = sym (joined_lines text) ∙ r.written;
      file = r.file;
      long = r.long;
      lf = r.lf;
      sixteens = r.sixteens;
      uppers = r.uppers;
    }

-- SO THE PASS IS THE TEST

same_answer : (a b : Bool) → (a ≡ true → b ≡ true) → (b ≡ true → a ≡ true) → a ≡ b
same_answer true b f g = sym (f refl)
same_answer false true f g = g refl
same_answer false false f g = refl

pub pass_exact : (text : List ℕ) → text_passes text ≡ is_canonical text
pass_exact text = same_answer (text_passes text) (is_canonical text) (λ e. test_exact.says_yes text (passes_formed text e)) (λ e. canonical_passes text (yes_says text e))
