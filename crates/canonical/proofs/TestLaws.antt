-- The test says yes exactly of the texts in the form; and what the reader answers of an image's text.
use Prim.Native.Nat.{ℕ}
use mathlib.Core.Path.{◌≡◌, refl, sym, ap₂, subst}
use mathlib.Core.Bool.{true, false}
use mathlib.Core.List.{List, [], ◌∷◌, ◌++◌}
use borrow.Author.Tests.{eqb-true, eq-eqb}
use lib.Dec.{eqb}
use lib.ListN.{length}
use Rattle.base.specs.Question.{ask}
use Rattle.base.proofs.Laws.{asked, false_true}
use Rattle.mcsline.specs.Record.{Data, ExtendedLinearAddress, End, Line, Row, AllBytes, Fit}
use Rattle.mcsline.proofs.Laws.{both_bytes}
use Rattle.mcs.specs.Text.{FileFrom}
use Rattle.mcs.specs.Reading.{Reading, read_text}
use Rattle.mcs.specs.Reader.{answer_of, held_output}
use Rattle.mcs.proofs.Laws.{round_trip}
use Rattle.canonical.specs.Canonical.{canonical_lines, canonical_text}
use Rattle.canonical.specs.Rule.{writable, data_of, InForm}
use Rattle.canonical.specs.Test.{same_text, is_text_of, is_canonical}
use Rattle.canonical.specs.Theorems.{OneText, ReadBack, TestExact}
use Rattle.canonical.proofs.RuleLaws.{canonical_file, formed}
use Rattle.canonical.proofs.OnlyLaws.{file_data, in_form_holds, in_form_is, only}
use Rattle.std.specs.Prelude.{Ok, Err}

canonical_holds : (image : List ℕ) → AllBytes image → writable (length image) ≡ true → read_text (canonical_text image) ≡ Ok image
canonical_holds image small e = round_trip.file_holds (canonical_lines image) image (canonical_file image small e)

pub one_text : OneText
one_text = record {
  holds = canonical_holds;
  formed = formed;
  only = only;
  reads = λ text f. (f.image, (in_form_holds text f, f.long));
}

pub read_back : ReadBack
unfolding answer_of held_output
read_back = record {
  answer = λ image buffer small e. rw (canonical_holds image small e) refl;
  output = λ image buffer small e. rw (canonical_holds image small e) refl;
}

-- The same characters.

same_refl : (text : List ℕ) → same_text text text ≡ true
unfolding same_text ask
same_refl [] = refl
same_refl (c ∷ cs) = rw (eq-eqb c c refl) (same_refl cs)

same_is : (text other : List ℕ) → same_text text other ≡ true → text ≡ other
unfolding same_text
same_is [] [] e = refl
same_is [] (d ∷ ds) e = absurd (false_true e)
same_is (c ∷ cs) [] e = absurd (false_true e)
same_is (c ∷ cs) (d ∷ ds) e =
    let a = asked (eqb c d) false (same_text cs ds) true e false_true in
    ap₂ (λ (x : ℕ) (xs : List ℕ). x ∷ xs) (eqb-true c d a.0) (same_is cs ds a.1)

-- A file's image is of bytes.

data_bytes : (lines : List Line) (half : ℕ) (image whole : List ℕ) → FileFrom half image lines whole → AllBytes (data_of lines)
unfolding FileFrom data_of Fit AllBytes
data_bytes [] half image whole f = absurd f
data_bytes (Row (Data address bytes) e ∷ lines) half image whole f = both_bytes bytes (data_of lines) f.0.3 (data_bytes lines half (image ++ bytes) whole f.3)
data_bytes (Row (ExtendedLinearAddress upper) e ∷ lines) half image whole f = data_bytes lines upper image whole f.1
data_bytes (Row End e ∷ lines) half image whole f = rw f.0 tt

holds_bytes : (text image : List ℕ) → read_text text ≡ Ok image → AllBytes image
holds_bytes text image e =
    let w = round_trip.holds_file text image e in
    subst AllBytes (sym (file_data w.0 0 [] image w.1.1)) (data_bytes w.0 0 [] image w.1.1)

-- What a yes says.
pub record Yes (text : List ℕ) : Type 0 where
  pub image : List ℕ
  pub bytes : AllBytes image
  pub long : writable (length image) ≡ true
  pub is : text ≡ canonical_text image

pub yes_says : (text : List ℕ) → is_canonical text ≡ true → Yes text
unfolding is_text_of
yes_says text e = go (read_text text) refl e
  where
    go : (r : Reading) → read_text text ≡ r → is_text_of text r ≡ true → Yes text
    go (Err refusal) h y = absurd (false_true y)
    go (Ok image) h y =
        let a = asked (writable (length image)) false (same_text text (canonical_text image)) true y false_true in
        record { image = image; bytes = holds_bytes text image h; long = a.0; is = same_is text (canonical_text image) a.1 }

says_yes : (text : List ℕ) → InForm text → is_canonical text ≡ true
unfolding is_text_of ask
says_yes text f = rw (in_form_holds text f) (rw f.long (rw (sym (in_form_is text f)) (same_refl text)))

yes_is : (text : List ℕ) → is_canonical text ≡ true → InForm text
yes_is text e = let y = yes_says text e in subst InForm (sym y.is) (formed y.image y.bytes y.long)

pub test_exact : TestExact
test_exact = record { says_yes = says_yes; yes_is = yes_is }
