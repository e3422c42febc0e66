-- A built chip is well-formed, its switch is OFF, and it loads the golden image it was given.
use Prim.Native.Nat.{ℕ, ◌+◌, ◌-◌, ◌<◌, ◌≤◌}
use mathlib.Core.Path.{◌≡◌, refl, sym, ap, subst, ◌∙◌}
use mathlib.Core.Bool.{Bool, true, false}
use mathlib.Core.List.{List, ◌++◌}
use native.Mathlib.Nat.{zero-add}
use native.Mathlib.Omega.{arith}
use borrow.Author.Tests.{leb-true, ltb-true, ltb-false}
use lib.Dec.{leb, ltb}
use lib.ListN.{length, get_or, take, drop, length-append, get_or-replicate, get_or-eq_default}
use lib.Seq.{take_at}
use Rattle.std.specs.Prelude.{Result, Ok, Err}
use Rattle.base.specs.Question.{ask}
use Rattle.base.specs.Refusal.{number_of, refused}
use Rattle.base.specs.Output.{front_filled}
use Rattle.configreader.specs.Configreader.{read_alone, listed}
use Rattle.packets.specs.Trace.{contents}
use Rattle.kind.specs.Layout.{chip_length_allowed, segment, switch_at, golden_at, update_place_allowed, update_length_allowed, layout_answer}
use Rattle.bootreader.specs.Image.{image_within, accepted}
use Rattle.builder.specs.Types.{Loaded, Reason, NoRoom, Refusal, Layout, Accepted}
use Rattle.base.proofs.Laws.{asked_ok, asked_err, front_fits}
use Rattle.kind.proofs.Laws.{chip_length_range, update_place_range, on_layout, by_layout, allowed_asks}
use Rattle.bootreader.proofs.Laws.{on_answer, by_answer, accepted_length, image_refusals}
use Rattle.configreader.proofs.Laws.{ends_within, local}
use Rattle.flash.specs.Flash.{erased, overwrite, overwrite_in_range}
use Rattle.kind.specs.Spi.{spi, spi_on, spi_warm_boot}
use Rattle.chip.specs.Chip.{switch_word, golden_area, BitSuperset, WellFormed, LoadsAlone, Loads}
use Rattle.builder.specs.Builder.{built_chip, golden_answer, build_answer, output_of, build_output, LoadsGolden}
use Rattle.flash.proofs.Laws.{get_d_any, span_at, span_length, overwrite_length, overwrite_before, overwrite_inside, overwrite_after, overwrite_append, in_range, erased_length, all_ones, bit_most}
use Rattle.chip.proofs.Laws.{word_at_law, is_off_law, accepted_alone, spi_off_loads}

-- what the questions of a chip that was built say
pub record BuildQuestions (layout : Layout) (golden : List ℕ) (room : ℕ) : Type 0 where
  pub long : chip_length_allowed layout.chip_length ≡ true
  pub starts : update_place_allowed layout.chip_length layout.update_place ≡ true
  pub spans : update_length_allowed layout.chip_length layout.update_place layout.update_length ≡ true
  pub sync : ℕ
  pub end : ℕ
  pub writes : ℕ
  pub read : image_within spi (layout.update_place - golden_at) golden ≡ accepted sync end writes
  pub fits : layout.chip_length ≤ room

abbrev pub Answer : Type 0
Answer = Result (Unit {0}) Refusal

abbrev pub built : Answer
built = Ok tt

abbrev no : Reason → ℕ → Answer
no = refused

refused_built : (r : Refusal) → ◌≡◌ {A = Answer} (Err r) built → ⊥
refused_built r e = let z : ◌≡◌ {A = ℕ} 0 1 = cc in omega arith

-- What the builder answers for an allowed layout goes by the image's answer and the room.
module _ (layout : Layout) (golden : List ℕ) (room : ℕ) where
  on_fit : ℕ → ℕ → ℕ → Answer
  on_fit sync end writes = ask (leb layout.chip_length room) (no NoRoom 0) built

  by_image_law : (a : Result Accepted Refusal) → image_within spi (layout.update_place - golden_at) golden ≡ a → golden_answer spi layout golden room ≡ on_answer no on_fit a
  unfolding golden_answer on_fit
  by_image_law a q = sym (by_answer no on_fit (layout.update_place - golden_at) golden) ∙ ap (on_answer no on_fit) q

  by_layout_law : (l : Answer) → layout_answer layout ≡ l → on_layout no (golden_answer spi layout golden room) l ≡ build_answer spi layout golden room
  unfolding build_answer
  by_layout_law l p = ap (on_layout no (golden_answer spi layout golden room)) (sym p) ∙ by_layout no (golden_answer spi layout golden room) layout

  -- A layout that is refused is refused so;
  pub layout_refused : (r : Refusal) → layout_answer layout ≡ Err r → Err r ≡ build_answer spi layout golden room
  unfolding on_layout
  layout_refused r p = by_layout_law (Err r) p

  -- of one that is allowed, the image decides, and then the room.
  module _ (p : layout_answer layout ≡ built) where
    allowed_law : golden_answer spi layout golden room ≡ build_answer spi layout golden room
    unfolding on_layout
    allowed_law = by_layout_law built p

    pub golden_refused : (r : Refusal) → image_within spi (layout.update_place - golden_at) golden ≡ Err r → Err r ≡ build_answer spi layout golden room
    unfolding on_answer
    golden_refused r q = sym (by_image_law (Err r) q) ∙ allowed_law

    pub golden_accepted : (a : Accepted) → image_within spi (layout.update_place - golden_at) golden ≡ Ok a → ask (leb layout.chip_length room) (no NoRoom 0) built ≡ build_answer spi layout golden room
    unfolding on_answer on_fit
    golden_accepted a q = sym (by_image_law (Ok a) q) ∙ allowed_law

  pub questions : build_answer spi layout golden room ≡ built → BuildQuestions layout golden room
  questions e = go (layout_answer layout) refl (image_within spi (layout.update_place - golden_at) golden) refl
    where
      go : (l : Answer) → layout_answer layout ≡ l → (a : Result Accepted Refusal) → image_within spi (layout.update_place - golden_at) golden ≡ a → BuildQuestions layout golden room
      go (Err r) p a q = absurd (refused_built r (layout_refused r p ∙ e))
      go (Ok allowed) p (Err r) q = absurd (refused_built r (golden_refused p r q ∙ e))
      go (Ok allowed) p (Ok a) q =
          let asks = allowed_asks layout p in
          record {
            long = asks.0;
            starts = asks.1;
            spans = asks.2;
            sync = a.sync;
            end = a.end;
            writes = a.writes;
            read = q;
            fits = leb-true _ _ (asked_ok _ NoRoom (golden_accepted p a q ∙ e));
          }

abbrev Told : List ℕ → Refusal → Type 0
Told golden r = (number_of r.reason ≤ number_of NoRoom) × (r.place ≤ length golden)

-- With a layout that is allowed, the builder refuses with a number of the image, at a place of it, or with 19.
pub allowed_refusals : (layout : Layout) (golden : List ℕ) (room : ℕ) (reason : Reason) (place : ℕ) → layout_answer layout ≡ Ok tt → build_answer spi layout golden room ≡ refused reason place → (number_of reason ≤ number_of NoRoom) × (place ≤ length golden)
allowed_refusals layout golden room reason place allowed e = go (image_within spi (layout.update_place - golden_at) golden) refl
  where
    small : (r : Refusal) → ◌≡◌ {A = Answer} (Err r) (no reason place) → Told golden r → Told golden (record { reason = reason; place = place })
    small r q h = let same : r ≡ record { reason = reason; place = place } = cc in subst (Told golden) same h

    go : (a : Result Accepted Refusal) → image_within spi (layout.update_place - golden_at) golden ≡ a → (number_of reason ≤ number_of NoRoom) × (place ≤ length golden)
    go (Err r) q =
        let n = image_refusals (layout.update_place - golden_at) golden r.reason r.place q in
        small r (golden_refused layout golden room allowed r q ∙ e) (omega arith, n.2)
    go (Ok a) q = let no = asked_err _ NoRoom _ (golden_accepted layout golden room allowed a q ∙ e) in subst (Told golden) no.1 (omega arith, omega arith)

pub words_length : (update_place : ℕ) → length (spi_warm_boot update_place) ≡ 20
unfolding spi_warm_boot
words_length update_place = refl

-- The bytes of a built chip.
module _ (layout : Layout) (golden : List ℕ) (fits : golden_at + length golden ≤ layout.chip_length) where
  abbrev blank : List ℕ
  blank = erased layout.chip_length

  abbrev headed : List ℕ
  headed = overwrite blank segment (spi_warm_boot layout.update_place)

  words_fit : segment + length (spi_warm_boot layout.update_place) ≤ length blank
  words_fit = let a : length blank ≡ layout.chip_length = erased_length layout.chip_length in let b = words_length layout.update_place in omega (arith, fits)

  headed_length : length headed ≡ layout.chip_length
  headed_length = overwrite_length blank segment (spi_warm_boot layout.update_place) words_fit ∙ erased_length layout.chip_length

  golden_fits : golden_at + length golden ≤ length headed
  golden_fits = rw headed_length fits

  pub built_length : length (built_chip spi layout golden) ≡ layout.chip_length
  built_length = overwrite_length headed golden_at golden golden_fits ∙ headed_length

  pub built_blank : (i : ℕ) → i < segment → get_or (built_chip spi layout golden) i 0 ≡ 0xFF
  built_blank i h =
      overwrite_before headed golden_at golden golden_fits i 0 (omega arith)
      ∙ overwrite_before blank segment (spi_warm_boot layout.update_place) words_fit i 0 h
      ∙ get_or-replicate layout.chip_length i 0xFF 0 (omega (arith, fits))

  pub built_words : (i : ℕ) → i < segment → get_or (built_chip spi layout golden) (segment + i) 0 ≡ get_or (spi_warm_boot layout.update_place) i 0xFF
  built_words i h =
      overwrite_before headed golden_at golden golden_fits (segment + i) 0 (omega arith)
      ∙ go (ltb i (length (spi_warm_boot layout.update_place))) refl
    where
      go : (b : Bool) → ltb i (length (spi_warm_boot layout.update_place)) ≡ b → get_or headed (segment + i) 0 ≡ get_or (spi_warm_boot layout.update_place) i 0xFF
      go true q =
          let l = ltb-true i (length (spi_warm_boot layout.update_place)) q in
          overwrite_inside blank segment (spi_warm_boot layout.update_place) words_fit i 0 l
          ∙ get_d_any (spi_warm_boot layout.update_place) i 0 0xFF l
      go false q =
          let l = ltb-false i (length (spi_warm_boot layout.update_place)) q in
          overwrite_after blank segment (spi_warm_boot layout.update_place) words_fit (segment + i) 0 (omega arith)
          ∙ get_or-replicate layout.chip_length (segment + i) 0xFF 0 (omega (arith, fits))
          ∙ sym (get_or-eq_default (spi_warm_boot layout.update_place) 0xFF {n = i} l)

  -- what the builder writes, in a buffer that is longer
  pub built_written : (buffer : List ℕ) → layout.chip_length ≤ length buffer → overwrite_in_range (overwrite_in_range (overwrite_in_range buffer 0 layout.chip_length blank) segment (length (spi_warm_boot layout.update_place)) (spi_warm_boot layout.update_place)) golden_at (length golden) golden ≡ front_filled (built_chip spi layout golden) buffer
  built_written buffer room =
      ap (λ (l : List ℕ). overwrite_in_range l golden_at (length golden) golden) (ap (λ (l : List ℕ). overwrite_in_range l segment (length (spi_warm_boot layout.update_place)) (spi_warm_boot layout.update_place)) blanked ∙ written)
      ∙ in_range (headed ++ rest) golden_at (length golden) golden (let n = length-append headed rest in omega (arith, golden_fits))
      ∙ overwrite_append headed golden_at golden golden_fits rest
      ∙ ap (λ (n : ℕ). built_chip spi layout golden ++ drop n buffer) (zero-add (length blank) ∙ erased_length layout.chip_length ∙ sym built_length)
      ∙ sym (front_fits (built_chip spi layout golden) buffer (omega (arith, built_length, room)))
    where
      rest : List ℕ
      rest = drop (0 + length blank) buffer

      blanked : overwrite_in_range buffer 0 layout.chip_length blank ≡ blank ++ rest
      blanked = in_range buffer 0 layout.chip_length blank (omega (arith, room))

      written : overwrite_in_range (blank ++ rest) segment (length (spi_warm_boot layout.update_place)) (spi_warm_boot layout.update_place) ≡ headed ++ rest
      written =
          in_range (blank ++ rest) segment (length (spi_warm_boot layout.update_place)) (spi_warm_boot layout.update_place) (let n = length-append blank rest in omega (arith, words_fit))
          ∙ overwrite_append blank segment (spi_warm_boot layout.update_place) words_fit rest

  pub built_golden : (i : ℕ) → i < length golden → get_or (built_chip spi layout golden) (golden_at + i) 0 ≡ get_or golden i 0
  built_golden i h = overwrite_inside headed golden_at golden golden_fits i 0 h

module _ (layout : Layout) (golden : List ℕ) (room : ℕ) (e : build_answer spi layout golden room ≡ built) where
  facts : BuildQuestions layout golden room
  facts = questions layout golden room e

  long : (16384 ≤ layout.chip_length) × (layout.chip_length ≤ 16777216)
  long = let l = chip_length_range layout.chip_length facts.long in (l.0, l.1)

  place_range : (12288 ≤ layout.update_place) × (layout.update_place < layout.chip_length)
  place_range = let u = update_place_range layout.chip_length layout.update_place facts.starts in (u.1, u.2)

  short : length golden ≤ layout.update_place - golden_at
  short = (accepted_length (layout.update_place - golden_at) golden facts.sync facts.end facts.writes facts.read).1

  pub golden_room : golden_at + length golden ≤ layout.chip_length
  golden_room = let u = place_range in omega (arith, short)

  abbrev chip : List ℕ
  chip = built_chip spi layout golden

  abbrev golden_area_law : List ℕ
  golden_area_law = golden_area layout.update_place chip

  itself : LoadsAlone spi golden
  itself = accepted_alone (layout.update_place - golden_at) golden facts.sync facts.end facts.writes facts.read

  -- The golden area reads as the golden image does: what follows the image is not looked at.
  area_reads : (read_alone golden_area_law ≡ Loaded itself.sync itself.end itself.writes false) × (listed golden_area_law (Loaded itself.sync itself.end itself.writes false) ≡ listed golden (Loaded itself.sync itself.end itself.writes false))
  area_reads =
      let u = place_range in
      let n : length chip ≡ layout.chip_length = built_length layout golden golden_room in
      let l : length golden_area_law ≡ layout.update_place - golden_at = span_length chip golden_at (layout.update_place - golden_at) (omega arith) in
      let e : itself.end ≤ length golden = ends_within golden 0 itself.sync itself.end itself.writes false itself.reading in
      let s : (i : ℕ) → 0 ≤ i → i < itself.end → get_or golden_area_law i 0 ≡ get_or golden i 0 =
      λ i a b. span_at chip golden_at (layout.update_place - golden_at) i (omega (arith, short)) ∙ built_golden layout golden golden_room i (omega arith) in
      local golden golden_area_law 0 itself.sync itself.end itself.writes false itself.reading (omega (arith, short)) s 0 false

  switch_blank : (j : ℕ) → j < 4 → get_or (switch_word chip) j 0 ≡ 0xFF
  switch_blank j h = word_at_law chip j h ∙ built_blank layout golden golden_room (switch_at + j) (omega arith)

  covers : BitSuperset (switch_word chip) spi_on
  covers = record {
    whole = span_length chip switch_at 4 (let n = built_length layout golden golden_room in let l = long in omega arith);
    bytes = λ i h. rw (switch_blank i h) (omega arith);
    has = λ i h n m. rw (switch_blank i h, all_ones 8 n m) (bit_most n (get_or spi_on i 0));
  }

  -- A BUILT CHIP IS WELL-FORMED.
  pub built_well_formed : WellFormed spi layout.update_place chip
  built_well_formed = record {
    long = rw (built_length layout golden golden_room) facts.long;
    room = rw (built_length layout golden golden_room) facts.starts;
    blank = λ i h. built_blank layout golden golden_room i (omega arith);
    switch = covers;
    words = built_words layout golden golden_room;
    golden = record { sync = itself.sync; end = itself.end; writes = itself.writes; reading = area_reads.0 };
  }

  -- Its switch is OFF.
  pub built_off : spi.is_on (switch_word chip) ≡ false
  built_off = is_off_law chip 0 (omega arith) (λ e. let b : get_or chip 4092 0 ≡ 0xFF = built_blank layout golden golden_room 4092 (omega arith) in omega arith)

  -- It loads the golden image it was given, whole, without a jump.
  pub built_loads : Loads spi chip golden golden_at false
  built_loads = record {
    itself = itself;
    reading = off.reading ∙ same;
    whole = off.whole ∙ rw (area_reads.0, itself.reading) (ap contents area_reads.1);
  }
    where
      off : Loads spi chip golden_area_law golden_at false
      off = spi_off_loads layout.update_place chip built_well_formed built_off

      same : Loaded (golden_at + off.itself.sync) (golden_at + off.itself.end) off.itself.writes false ≡ Loaded (golden_at + itself.sync) (golden_at + itself.end) itself.writes false
      same = let e = sym off.itself.reading ∙ area_reads.0 in cc

-- A refusal leaves the buffer as it was, and promises no chip in it.
pub refused_stays : (layout : Layout) (golden buffer : List ℕ) (r : Refusal) → Err r ≡ build_answer spi layout golden (length buffer) → (buffer ≡ build_output spi layout golden buffer) × LoadsGolden spi (Err r) layout golden buffer
unfolding output_of LoadsGolden
refused_stays layout golden buffer r e = (ap (λ (a : Answer). output_of spi a layout golden buffer) e, tt)

-- The promise of the builder's contract: what stands at the front of the buffer loads the golden image.
pub build_loads : (layout : Layout) (golden buffer : List ℕ) → LoadsGolden spi (build_answer spi layout golden (length buffer)) layout golden (build_output spi layout golden buffer)
unfolding LoadsGolden output_of
build_loads layout golden buffer = go (build_answer spi layout golden (length buffer)) refl
  where
    go : (a : Answer) → build_answer spi layout golden (length buffer) ≡ a → LoadsGolden spi a layout golden (output_of spi a layout golden buffer)
    go (Ok done) e =
        let long = built_length layout golden (golden_room layout golden (length buffer) e) in
        let room = (questions layout golden (length buffer) e).fits in
        let front : take layout.chip_length (front_filled (built_chip spi layout golden) buffer) ≡ built_chip spi layout golden =
        ap (take layout.chip_length) (front_fits (built_chip spi layout golden) buffer (omega (arith, long, room))) ∙ take_at (built_chip spi layout golden) _ layout.chip_length long in
        rw front (built_loads layout golden (length buffer) e)
    go (Err r) e = tt
