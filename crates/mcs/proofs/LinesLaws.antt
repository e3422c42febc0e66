-- Laws of a text's lines: the line at a place comes first among the lines from there on.
use Prim.Native.Nat.{ℕ, ◌+◌, ◌<◌}
use mathlib.Core.Path.{◌≡◌, refl, sym, ap, ◌∙◌}
use mathlib.Core.Bool.{Bool, true, false}
use mathlib.Core.List.{List, [], ◌∷◌}
use lib.Dec.{eqb}
use lib.ListN.{length, get_or, drop}
use lib.Seq.{drop-drop}
use Rattle.mcsline.specs.Record.{LF}
use Rattle.mcsline.specs.Place.{first_line, line_at}
use Rattle.mcsline.proofs.Laws.{first_lf, first_on, one_line, cut}
use Rattle.mcs.specs.Reading.{prepend, lines_of}

pub lines_lf : (c : ℕ) (cs : List ℕ) → eqb c LF ≡ true → lines_of (c ∷ cs) ≡ (c ∷ []) ∷ lines_of cs
unfolding lines_of
lines_lf c cs e = rw (e, lines_of)

pub lines_on : (c : ℕ) (cs : List ℕ) → eqb c LF ≡ false → lines_of (c ∷ cs) ≡ prepend c (lines_of cs)
unfolding lines_of
lines_on c cs e = rw (e, lines_of)

pub lines_none : lines_of [] ≡ []
unfolding lines_of
lines_none = refl

before_none : (c : ℕ) → prepend c [] ≡ (c ∷ []) ∷ []
unfolding prepend
before_none c = refl

pub before_line : (c : ℕ) (line : List ℕ) (lines : List (List ℕ)) → prepend c (line ∷ lines) ≡ (c ∷ line) ∷ lines
unfolding prepend
before_line c line lines = refl

lines_first : (c : ℕ) (cs : List ℕ) → lines_of (c ∷ cs) ≡ first_line (c ∷ cs) ∷ lines_of (drop (length (first_line (c ∷ cs))) (c ∷ cs))
lines_first c [] = go (eqb c LF) refl
  where
    go : (p : Bool) → eqb c LF ≡ p → lines_of (c ∷ []) ≡ first_line (c ∷ []) ∷ lines_of (drop (length (first_line (c ∷ []))) (c ∷ []))
    go true e = rw (first_lf c [] e) (lines_lf c [] e)
    go false e = rw (one_line c e) (lines_on c [] e ∙ ap (prepend c) lines_none ∙ before_none c ∙ ap (λ (l : List (List ℕ)). (c ∷ []) ∷ l) (sym lines_none))
lines_first c (d ∷ ds) = go (eqb c LF) refl (lines_first d ds)
  where
    go : (p : Bool) → eqb c LF ≡ p → lines_of (d ∷ ds) ≡ first_line (d ∷ ds) ∷ lines_of (drop (length (first_line (d ∷ ds))) (d ∷ ds)) →
        lines_of (c ∷ d ∷ ds) ≡ first_line (c ∷ d ∷ ds) ∷ lines_of (drop (length (first_line (c ∷ d ∷ ds))) (c ∷ d ∷ ds))
    go true e ih = rw (first_lf c (d ∷ ds) e) (lines_lf c (d ∷ ds) e)
    go false e ih = rw (first_on c (d ∷ ds) e) (lines_on c (d ∷ ds) e ∙ ap (prepend c) ih ∙ before_line c (first_line (d ∷ ds)) (lines_of (drop (length (first_line (d ∷ ds))) (d ∷ ds))))

module _ (text : List ℕ) where
  -- The line at a place comes first among the lines from there on.
  pub line_first : (at : ℕ) → at < length text → lines_of (drop at text) ≡ line_at text at ∷ lines_of (drop (at + length (line_at text at)) text)
  line_first at h =
      rw (cut text at h)
      (lines_first (get_or text at 0) (drop (at + 1) text)
      ∙ ap (λ (l : List ℕ). first_line (get_or text at 0 ∷ drop (at + 1) text) ∷ lines_of l)
      (ap (λ (l : List ℕ). drop (length (first_line (get_or text at 0 ∷ drop (at + 1) text))) l) (sym (cut text at h))
      ∙ drop-drop (length (first_line (get_or text at 0 ∷ drop (at + 1) text))) at text))
