-- Laws of a line's text: what is spelled is just what was written, character by character.
use Prim.Native.Nat.{ℕ, ◌+◌, ◌*◌, ◌/◌, ◌%◌, ◌<◌}
use mathlib.Core.Path.{◌≡◌, refl, sym, ap, ap₂, ◌∙◌}
use mathlib.Core.Bool.{Bool, true, false}
use mathlib.Core.List.{List, [], ◌∷◌, ◌++◌}
use native.Mathlib.Omega.{arith}
use borrow.Author.Tests.{eqb-true, ltb-true}
use lib.Dec.{eqb}
use lib.ListN.{get_or}
use Rattle.base.proofs.Laws.{false_of, both_true}
use Rattle.digits.specs.Digit.{digits, hex, digit_of, is_digit}
use Rattle.digits.proofs.Laws.{digit_value, value_digit, is_digit_law, byte_of}
use Rattle.mcsline.specs.Record.{LF, CR, COLON, Ending, Lf, CrLf, ending_text, line_text, AllBytes}
use Rattle.mcsline.specs.Line.{is_ending, onto, spelled_by, line_spells}
use Rattle.mcsline.proofs.LineLaws.{digit_lf, not_ending, spelled_end, spelled_one, spelled_pair, spelled_other, spells_colon, spells_other, no_first, no_second, onto_none, onto_some, onto_pairs, none_some, broken_not}
use Rattle.std.specs.Prelude.{Some, None}

-- Characters of a line.

-- no digit is an LF
pub not_lf : (n : ℕ) → n < 16 → eqb (get_or digits n 0) LF ≡ false
not_lf n h = false_of (eqb (get_or digits n 0) LF) (λ e. digit_lf (get_or digits n 0) e (rw (digit_value n h) h))

ending_is : (e : Ending) → is_ending (ending_text e) ≡ true
unfolding is_ending ending_text
ending_is Lf = refl
ending_is CrLf = refl

pub hex_spells : (ps : List ℕ) (e : Ending) → AllBytes ps → spelled_by (hex ps ++ ending_text e) ≡ Some ps
unfolding hex AllBytes
hex_spells [] e h = spelled_end (ending_text e) (ending_is e)
hex_spells (p ∷ ps) e h =
    spelled_pair (get_or digits (p / 16) 0) (get_or digits (p % 16) 0) (hex ps ++ ending_text e)
    (not_ending _ _ (hex ps ++ ending_text e) (not_lf (p % 16) (omega arith)))
    (is_digit_law (p / 16) (omega arith)) (is_digit_law (p % 16) (omega arith))
    ∙ onto_pairs _ _ ps (hex_spells ps e h.1)
    ∙ ap (λ (x : ℕ). Some (x ∷ ps)) (byte_of p h.0)

spelled_none : spelled_by [] ≡ None
unfolding spelled_by
spelled_none = refl

line_none : line_spells [] ≡ None
unfolding line_spells
line_none = refl

ending_of_law : (cs : List ℕ) → is_ending cs ≡ true → (e : Ending) × (cs ≡ ending_text e)
unfolding is_ending ending_text
ending_of_law [] h = absurd cc
ending_of_law (a ∷ []) h = (Lf, rw (eqb-true a LF h) refl)
ending_of_law (a ∷ b ∷ []) h = (CrLf, rw (eqb-true a CR (both_true (eqb a CR) (eqb b LF) h).0, eqb-true b LF (both_true (eqb a CR) (eqb b LF) h).1) refl)
ending_of_law (a ∷ b ∷ c ∷ cs) h = absurd cc

abbrev Spells : List ℕ → List ℕ → Type 0
Spells cs ps = (e : Ending) × ((cs ≡ hex ps ++ ending_text e) × AllBytes ps)

-- where a line ends no pairs are spelled
spells_end : (cs ps : List ℕ) → is_ending cs ≡ true → spelled_by cs ≡ Some ps → Spells cs ps
unfolding hex AllBytes
spells_end cs [] h e = ((ending_of_law cs h).0, ((ending_of_law cs h).1, tt))
spells_end cs (p ∷ ps) h e = absurd (none_some (sym (spelled_end cs h) ∙ e))

-- a pair before what is spelled
spells_more : (a b : ℕ) (cs ps : List ℕ) → digit_of a < 16 → digit_of b < 16 → Spells cs ps → Spells (a ∷ b ∷ cs) ((16 * digit_of a + digit_of b) ∷ ps)
unfolding hex AllBytes
spells_more a b cs ps ha hb s =
    let e : (16 * digit_of a + digit_of b) / 16 ≡ digit_of a = omega arith in
    let f : (16 * digit_of a + digit_of b) % 16 ≡ digit_of b = omega arith in
    (s.0, (rw (e, f) (ap₂ ◌∷◌ (sym (value_digit a ha)) (ap₂ ◌∷◌ (sym (value_digit b hb)) s.1.0)), (omega arith, s.1.1)))

pub spelled_hex : (cs ps : List ℕ) → spelled_by cs ≡ Some ps → Spells cs ps
spelled_hex [] ps e = absurd (broken_not ps (sym spelled_none ∙ e))
spelled_hex (a ∷ []) ps e = go (is_ending (a ∷ [])) refl
  where
    go : (b : Bool) → is_ending (a ∷ []) ≡ b → Spells (a ∷ []) ps
    go true h = spells_end (a ∷ []) ps h e
    go false h = absurd (broken_not ps (sym (spelled_one a h) ∙ e))
spelled_hex (a ∷ b ∷ cs) ps e = go (is_ending (a ∷ b ∷ cs)) (is_digit a) (is_digit b) refl refl refl (spelled_hex cs)
  where
    more : (qs : List ℕ) → onto (16 * digit_of a + digit_of b) (spelled_by cs) ≡ Some qs → ((rs : List ℕ) → spelled_by cs ≡ Some rs → Spells cs rs) → digit_of a < 16 → digit_of b < 16 → Spells (a ∷ b ∷ cs) qs
    more [] h ih ha hb = absurd (onto_none _ _ h)
    more (q ∷ qs) h ih ha hb =
        let o : (16 * digit_of a + digit_of b ≡ q) × (spelled_by cs ≡ Some qs) = onto_some (16 * digit_of a + digit_of b) (spelled_by cs) q qs h in
        rw o.0 at (spells_more a b cs qs ha hb (ih qs o.1))

    go : (p q r : Bool) → is_ending (a ∷ b ∷ cs) ≡ p → is_digit a ≡ q → is_digit b ≡ r → ((rs : List ℕ) → spelled_by cs ≡ Some rs → Spells cs rs) → Spells (a ∷ b ∷ cs) ps
    go true q r h ha hb ih = spells_end (a ∷ b ∷ cs) ps h e
    go false true true h ha hb ih = more ps (sym (spelled_pair a b cs h ha hb) ∙ e) ih (ltb-true _ _ ha) (ltb-true _ _ hb)
    go false false r h ha hb ih = absurd (broken_not ps (sym (spelled_other a b cs h (no_first (is_digit a) (is_digit b) ha)) ∙ e))
    go false true false h ha hb ih = absurd (broken_not ps (sym (spelled_other a b cs h (no_second (is_digit a) (is_digit b) hb)) ∙ e))

-- Lines.

pub line_spelled : (ps : List ℕ) (e : Ending) → AllBytes ps → line_spells (line_text ps e) ≡ Some ps
unfolding line_text
line_spelled ps e h = spells_colon COLON (hex ps ++ ending_text e) refl ∙ hex_spells ps e h

pub spelled_line : (line ps : List ℕ) → line_spells line ≡ Some ps → (e : Ending) × ((line ≡ line_text ps e) × AllBytes ps)
unfolding line_text
spelled_line [] ps e = absurd (broken_not ps (sym line_none ∙ e))
spelled_line (c ∷ cs) ps e = go (eqb c COLON) refl
  where
    go : (b : Bool) → eqb c COLON ≡ b → (x : Ending) × ((c ∷ cs ≡ COLON ∷ hex ps ++ ending_text x) × AllBytes ps)
    go true h =
        let s : Spells cs ps = spelled_hex cs ps (sym (spells_colon c cs h) ∙ e) in
        (s.0, (ap₂ ◌∷◌ (eqb-true c COLON h) s.1.0, s.1.1))
    go false h = absurd (broken_not ps (sym (spells_other c cs h) ∙ e))
