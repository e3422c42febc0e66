-- Laws of the pass over a text: what one line adds to it, by the line's place.
use Prim.Native.Nat.{ℕ, ◌+◌, ◌-◌, ◌<◌, ◌≤◌}
use mathlib.Core.Path.{◌≡◌, refl, sym}
use mathlib.Core.Bool.{Bool, true, false}
use mathlib.Core.List.{List}
use native.Mathlib.Omega.{arith}
use lib.ListN.{length, drop}
use Rattle.std.specs.Prelude.{Err}
use Rattle.base.specs.Question.{ask}
use Rattle.base.specs.declared.refusal.Reason.{Reason}
use Rattle.mcsline.specs.Line.{parsed, by_parsed}
use Rattle.mcsline.specs.Place.{line_at, as_line}
use Rattle.mcsline.specs.declared.line.Line.{Line as CodeLine}
use Rattle.mcsline.specs.declared.line.Line.TheVariants.{Data as DataLine, ExtendedLinearAddress as ExtendedLinearAddressLine, End as EndLine}
use Rattle.mcsline.proofs.Laws.{after, line_refused, Told, told_bytes, told_upper, told_end}
use Rattle.mcs.specs.Reading.{lines_of, is_empty}
use Rattle.mcs.proofs.Laws.{line_first, lines_end}
use Rattle.canonical.specs.Pass.{data_fits, upper_fits, end_fits, lines_pass, text_passes}

-- the pass from a place on
abbrev pub pass_at : List ℕ → ℕ → ℕ → Bool → Bool
pass_at text at next upper = lines_pass (lines_of (drop at text)) upper next

-- the pass from a place on is that over the whole text
pub record Passes (text : List ℕ) (at next : ℕ) (upper : Bool) : Type 0 where
  pub rest : pass_at text at next upper ≡ text_passes text

pub pass_start : (text : List ℕ) → Passes text 0 0 false
pass_start text = record { rest = refl }

module _ {text : List ℕ} {at next : ℕ} {upper : Bool} (reached : Passes text at next upper) where
  -- Where nothing is left, and at a line that is refused, the text does not pass;
  pub pass_none : length text ≤ at → false ≡ text_passes text
  unfolding lines_pass
  pass_none h = rw (lines_end text at h) at reached.rest

  pub pass_refused : at < length text → {reason : Reason} → Err reason ≡ as_line (parsed (line_at text at)) (after text at) → false ≡ text_passes text
  unfolding lines_pass by_parsed
  pass_refused inside {reason} is = rw (line_first text at inside, line_refused _ _ reason (sym is)) at reached.rest

  -- at a line that the code told of it goes on as the line's record says.
  module _ {line : CodeLine} (told : Told text at line) where
    module _ {address count end : ℕ} (e : line ≡ DataLine address count end) where
      data_rest : {fits : Bool} → fits ≡ data_fits upper next address count (end - at) → ask fits false (pass_at text end (next + count) false) ≡ text_passes text
      unfolding lines_pass by_parsed
      data_rest f =
          let t = told_bytes told e in
          let long : length (line_at text at) ≡ end - at = omega arith in
          rw (line_first text at told.inside, t.1.0, t.1.1, t.1.2, long, ← f) at reached.rest

      pub pass_data : true ≡ data_fits upper next address count (end - at) → Passes text end (next + count) false
      unfolding ask
      pass_data f = record { rest = data_rest f }

      pub pass_other : false ≡ data_fits upper next address count (end - at) → false ≡ text_passes text
      unfolding ask
      pass_other f = data_rest f

    module _ {half end : ℕ} (e : line ≡ ExtendedLinearAddressLine half end) where
      upper_rest : {fits : Bool} → fits ≡ upper_fits upper next half (end - at) → ask fits false (pass_at text end next true) ≡ text_passes text
      unfolding lines_pass by_parsed
      upper_rest f =
          let t = told_upper told e in
          let long : length (line_at text at) ≡ end - at = omega arith in
          rw (line_first text at told.inside, t.0, t.1, long, ← f) at reached.rest

      pub pass_upper : true ≡ upper_fits upper next half (end - at) → Passes text end next true
      unfolding ask
      pass_upper f = record { rest = upper_rest f }

      pub pass_lower : false ≡ upper_fits upper next half (end - at) → false ≡ text_passes text
      unfolding ask
      pass_lower f = upper_rest f

    module _ {end : ℕ} (e : line ≡ EndLine end) where
      pub pass_more : end < length text → false ≡ text_passes text
      unfolding lines_pass by_parsed is_empty ask
      pass_more h = let t = told_end told e in rw (line_first text at told.inside, t.0, t.1, line_first text end h) at reached.rest

      pub pass_end : length text ≤ end → end_fits upper next (end - at) ≡ text_passes text
      unfolding lines_pass by_parsed is_empty ask
      pass_end h =
          let t = told_end told e in
          let long : length (line_at text at) ≡ end - at = omega arith in
          rw (line_first text at told.inside, t.0, t.1, lines_end text end h, long) at reached.rest
