-- What every event keeps: the invariant of a chip's life, of any kind that keeps its laws.
use Prim.Native.Nat.{ℕ, ◌+◌, ◌-◌, ◌*◌, ◌/◌, ◌%◌, ◌<◌, ◌≤◌}
use mathlib.Core.Path.{◌≡◌, refl, sym, ap, subst, ◌∙◌}
use mathlib.Core.Logic.{⊎_elim}
use mathlib.Core.Bool.{Bool, true, false, ◌&&◌, ◌||◌}
use Rattle.std.specs.Prelude.{Option, Some, None, Result, Ok, Err}
use mathlib.Core.List.{List, [], ◌∷◌}
use native.Mathlib.Omega.{arith}
use borrow.Author.Tests.{ltb-true, ltb-false, eqb-true}
use lib.Dec.{eqb, ltb}
use lib.ListN.{length, get_or, drop, length-take, length-drop, get_or-replicate}
use lib.Seq.{ext_get_or}
use Rattle.base.proofs.Laws.{false_true}
use Rattle.kind.proofs.Laws.{chip_length_range, update_place_range, update_length_range}
use Rattle.kind.specs.Layout.{page, segment, switch_at}
use Rattle.flash.specs.Flash.{erased, span, overwrite, after_program}
use Rattle.chip.specs.Cut.{MayLeave}
use Rattle.kind.specs.Kind.{Kind}
use Rattle.chip.specs.Chip.{switch_word, golden_area, BitSuperset, LoadsAlone, WellFormed, ContainsAt, Lawful}
use Rattle.life.specs.Types.{Refusal, Layout, State, Reply, Next, Stopped, RefusedReply}
use Rattle.flash.proofs.Laws.{get_d_any, span_at, span_length, overwrite_length, overwrite_before, overwrite_after, erased_length, cleared_length}
use Rattle.chip.proofs.Laws.{golden_stays, erase_well_formed, program_well_formed, area_switch, area_well_formed}
use Rattle.orders.specs.Table.{by_phase, count}
use Rattle.orders.specs.Orders.{Order, erase, program, look, page_of, order_of}
use Rattle.updater.specs.State.{after, ended, running, fits}
use Rattle.comparison.specs.Comparison.{padded, differs}
use Rattle.effects.specs.Effects.{obeyed_span, leaves}
use Rattle.starts.specs.Starts.{start_answer}
use Rattle.updater.specs.Run.{reply_answer}
use Rattle.life.specs.OrderList.{Replies, Moved, StopsIn}
use Rattle.life.specs.Life.{Run, World, found, starts, carries, replies, cuts, Event, after_start, agrees, look_seen, ordered_image, carry_out, after_reply, order_of_run, on_run, next, AdmissibleStart, AdmissibleSpan, AdmissibleOrder, TrueRead, TruthfulReply, AdmissibleReply, Admissible, Valid, life, is_on, OrderedImageInPlace, LifeBegins}
use Rattle.orders.proofs.Laws.{phases, area_segments, image_pages, page_at_law}
use Rattle.updater.proofs.Laws.{Numbers, numbers_image, fits_says, running_says, after_index, after_phase, last_or_not, after_fits, first_fits, current_order_law}
use Rattle.starts.proofs.Laws.{opened}
use Rattle.comparison.proofs.Laws.{padded_at, padded_length, none_same}
use Rattle.life.proofs.ReplyLaws.{moved, halted}

-- The switch word is erased.
abbrev pub Erased : World → Type 0
Erased w = switch_word w.chip ≡ erased 4

-- So many bytes of the update area have been seen to be the image, then FF.
abbrev pub Seen : Run → World → ℕ → Type 0
Seen run w count = (j : ℕ) → j < count → get_or w.chip (run.state.layout.update_place + j) 0 ≡ get_or run.image j 0xFF

-- how many looks of phase 1 a run can have behind it, at an index
abbrev looks_by : Run → ℕ
looks_by run = run.state.index + elim run.carried [ true ↦ 1 | false ↦ 0 ]

-- What an open run knows in a phase: until all of segment 0 has been looked at, how many looks there can have been; from then on that the switch word is erased; in phase 4 what it has seen; all of it until ON is ordered, and from then on that its image is the ordered one.
unfoldable pub Stage : ℕ → Run → World → Type 0
Stage phase run w =
    by_phase phase
    (w.looks ≡ 0)
    (w.looks ≤ looks_by run)
    (Erased w)
    (Erased w)
    (Erased w × Seen run w (page * run.state.index))
    ((run.carried ≡ false → Erased w × Seen run w run.state.layout.update_length) × (run.carried ≡ true → w.image ≡ Some run.image))
    (w.image ≡ Some run.image)
    (Unit {0})

module _ (kind : Kind) (update_place : ℕ) where
  -- An open run: its state fits, it has the chip's layout and an accepted image, and knows what its phase says. One that has ended with outcome 0 has its switch ON and its image ordered.
  pub record Holds (run : Run) (w : World) : Type 0 where
    pub fitted : running run.state ≡ true → fits run.state (length run.image) ≡ true
    pub long : run.state.layout.chip_length ≡ length w.chip
    pub place : run.state.layout.update_place ≡ update_place
    pub alone : LoadsAlone kind run.image
    pub stage : Stage run.state.phase run w
    pub done : run.state.phase ≡ 7 → run.state.outcome ≡ 0 → (is_on kind w ≡ true) × (w.image ≡ Some run.image)

  -- THE INVARIANT. The chip is well-formed and its golden area the first one; if it is ON, the ordered image stands at U; while the last run has found and not ordered, the switch word is erased.
  pub record Invariant (first_golden : List ℕ) (w : World) : Type 0 where
    pub formed : WellFormed kind update_place w.chip
    pub golden : golden_area update_place w.chip ≡ first_golden
    pub image : is_on kind w ≡ true → OrderedImageInPlace kind update_place w
    pub found : found w ≡ true → w.ordered ≡ false → Erased w
    pub run : on_run w.run (Unit {0}) (λ run. Holds run w)

-- An erased page that covers the switch word: the word is erased.
page_erased : (chip : List ℕ) → segment ≤ length chip → span chip 3840 page ≡ erased page → switch_word chip ≡ erased 4
page_erased chip l e =
    ext_get_or 0 (switch_word chip) (erased 4) (span_length chip switch_at 4 (omega arith) ∙ sym (erased_length 4))
    (λ i h.
    let n = span_length chip switch_at 4 (omega arith) in
    let p : 3840 + (252 + i) ≡ switch_at + i = omega arith in
    span_at chip switch_at 4 i (omega arith)
    ∙ ap (λ (k : ℕ). get_or chip k 0) (sym p)
    ∙ sym (span_at chip 3840 page (252 + i) (omega arith))
    ∙ ap (λ (b : List ℕ). get_or b (252 + i) 0) e
    ∙ get_or-replicate page (252 + i) 0xFF 0 (omega arith)
    ∙ sym (get_or-replicate 4 i 0xFF 0 (omega arith)))

-- A page that is the image's, then FF: one page more has been seen.
page_seen : (chip image : List ℕ) (place i : ℕ) → span chip (place + page * i) page ≡ padded page (page_of image i) →
    ((j : ℕ) → j < page * i → get_or chip (place + j) 0 ≡ get_or image j 0xFF) → (j : ℕ) → j < page * (i + 1) → get_or chip (place + j) 0 ≡ get_or image j 0xFF
page_seen chip image place i e seen j h = go (ltb j (page * i)) refl
  where
    go : (b : Bool) → ltb j (page * i) ≡ b → get_or chip (place + j) 0 ≡ get_or image j 0xFF
    go true q = seen j (ltb-true j (page * i) q)
    go false q =
        let l = ltb-false j (page * i) q in
        let k : ℕ = j - page * i in
        let m : k < page = omega arith in
        let here : place + page * i + k ≡ place + j = omega arith in
        let there : page * i + k ≡ j = omega arith in
        ap (λ (x : ℕ). get_or chip x 0) (sym here)
        ∙ sym (span_at chip (place + page * i) page k m)
        ∙ ap (λ (b : List ℕ). get_or b k 0) e
        ∙ padded_at page (page_of image i) k m
        ∙ page_at_law image i k 0xFF m
        ∙ ap (λ (x : ℕ). get_or image x 0xFF) there

-- An image whose bytes have been seen stands there.
seen_stands : (chip image : List ℕ) (place count : ℕ) → ((j : ℕ) → j < count → get_or chip (place + j) 0 ≡ get_or image j 0xFF) → length image ≤ count → place + count ≤ length chip → ContainsAt chip place image
seen_stands chip image place count seen short fits = record {
  fits = omega arith;
  same = λ i h. seen i (omega arith) ∙ get_d_any image i 0xFF 0 h;
}

-- What stands in the update area stays when the bytes there do.
stands_stay : (chip after : List ℕ) (place : ℕ) (image : List ℕ) → length after ≡ length chip → ((i : ℕ) → place ≤ i → get_or after i 0 ≡ get_or chip i 0) → ContainsAt chip place image → ContainsAt after place image
stands_stay chip after place image l same contained = record {
  fits = rw l contained.fits;
  same = λ i h. same (place + i) (omega arith) ∙ contained.same i h;
}

-- A look that agrees has read what is expected.
agrees_read : (place : ℕ) (bytes chip : List ℕ) → place + length bytes ≤ length chip → agrees (look place bytes) chip ≡ true → span chip place (length bytes) ≡ bytes
unfolding agrees
agrees_read place bytes chip h e = go (differs place (span chip place (length bytes)) bytes) refl e
  where
    go : (d : Option ℕ) → differs place (span chip place (length bytes)) bytes ≡ d → elim d [ None ↦ true | Some address ↦ false ] ≡ true → span chip place (length bytes) ≡ bytes
    go None q r = none_same place (span chip place (length bytes)) bytes (span_length chip place (length bytes) h) q
    go (Some address) q r = absurd (false_true r)

-- No stop has number 0.
stop_number : (phase number : ℕ) → StopsIn phase number → number ≡ 0 → ⊥
stop_number phase number s z = ⊎_elim (λ a. let n = a.1 in omega arith) (λ t. ⊎_elim (λ a. let n = a.1 in omega arith) (λ a. let n = a.1 in omega arith) t) s

module _ (kind : Kind) (lawful : Lawful kind) (update_place : ℕ) (first_golden : List ℕ) where
  -- The world after an order of a phase.
  abbrev carried_run : Run → Run
  carried_run run = record { state = run.state; image = run.image; carried = true }

  carried_out : (order : Order) (phase : ℕ) (left : List ℕ) (run : Run) (w : World) → order_of_run kind run ≡ order → run.state.phase ≡ phase →
      carry_out (order_of_run kind run) left run w ≡ record {
        chip = leaves order w.chip left;
        run = Some (carried_run run);
        looks = look_seen (eqb phase 1 && agrees order w.chip) w.looks;
        ordered = eqb phase 5 || w.ordered;
        image = ordered_image (eqb phase 5) run.image w.image;
      }
  unfolding carry_out
  carried_out order phase left run w o p = rw (o, p) refl

  module _ (w : World) (inv : Invariant kind update_place first_golden w) (run : Run) (holds : Holds kind update_place run w) (ran : running run.state ≡ true) (left : List ℕ) where
    pub fitted : fits run.state (length run.image) ≡ true
    fitted = holds.fitted ran

    numbers : Numbers run.state.layout run.state.image_length
    numbers = (fits_says run.state (length run.image) fitted).numbers

    -- The layout's numbers, on this chip.
    pub bounds : (12288 ≤ update_place) × (update_place + run.state.layout.update_length ≤ length w.chip) × (run.state.layout.update_length % 4096 ≡ 0)
    bounds =
        let a = update_length_range run.state.layout.chip_length run.state.layout.update_place run.state.layout.update_length numbers.spans in
        let u = update_place_range run.state.layout.chip_length run.state.layout.update_place numbers.starts in
        let l = holds.long in
        let p = holds.place in
        (omega arith, omega arith, a.0)

    index : run.state.index < count run.state.layout run.state.image_length run.state.phase
    index = (running_says run.state (length run.image) fitted ran).1

    pub stage_at : (phase : ℕ) → run.state.phase ≡ phase → Stage phase run w
    stage_at phase p = subst (λ (q : ℕ). Stage q run w) p holds.stage

    index_at : (phase : ℕ) → run.state.phase ≡ phase → run.state.index < count run.state.layout run.state.image_length phase
    index_at phase p = subst (λ (q : ℕ). run.state.index < count run.state.layout run.state.image_length q) p index

    pub order_at : (phase : ℕ) → run.state.phase ≡ phase → order_of_run kind run ≡ order_of kind run.state.layout run.image phase run.state.index
    order_at phase p = current_order_law kind run.state run.image fitted ran ∙ ap (λ (q : ℕ). order_of kind run.state.layout run.image q run.state.index) p

    -- the world with the order carried out, and these bytes, looks, flag and ordered image
    abbrev world_after : List ℕ → ℕ → Bool → Option (List ℕ) → World
    world_after chip looks ordered image = record { chip = chip; run = Some (carried_run run); looks = looks; ordered = ordered; image = image }

    -- The run goes on holding, in the same phase.
    still_holds : (after : World) (phase : ℕ) → run.state.phase ≡ phase → length after.chip ≡ length w.chip → Stage phase (carried_run run) after → Holds kind update_place (carried_run run) after
    still_holds after phase p l stage = record {
      fitted = holds.fitted;
      long = holds.long ∙ sym l;
      place = holds.place;
      alone = holds.alone;
      stage = subst (λ (q : ℕ). Stage q (carried_run run) after) (sym p) stage;
      done = λ q z. absurd (let l = ltb-true run.state.phase 7 ran in omega arith);
    }

    -- PHASE 0: an erase of segment 0. The switch can only go off.
    erases_switch : run.state.phase ≡ 0 → MayLeave w.chip 0 (erased segment) left → Invariant kind update_place first_golden (world_after (overwrite w.chip 0 left) w.looks w.ordered w.image)
    unfolding on_run Stage by_phase
    erases_switch p may = record {
      formed = kept.0;
      golden = golden_stays kind update_place w.chip inv.formed (overwrite w.chip 0 left) stays (λ i a b. outside i a) ∙ inv.golden;
      image = λ on. standing on (is_on kind w) refl;
      found = λ f o. absurd (let e = eqb-true w.looks 16 f in let z : w.looks ≡ 0 = stage_at 0 p in omega arith);
      run = still_holds (world_after (overwrite w.chip 0 left) w.looks w.ordered w.image) 0 p stays (stage_at 0 p);
    }
      where
        all : length left ≡ segment
        all = may.fills ∙ erased_length segment

        fit : 0 + length left ≤ length w.chip
        fit = let l = chip_length_range (length w.chip) inv.formed.long in omega (arith, all)

        stays : length (overwrite w.chip 0 left) ≡ length w.chip
        stays = overwrite_length w.chip 0 left fit

        outside : (i : ℕ) → segment ≤ i → get_or (overwrite w.chip 0 left) i 0 ≡ get_or w.chip i 0
        outside i a = overwrite_after w.chip 0 left fit i 0 (omega (arith, all))

        kept : WellFormed kind update_place (overwrite w.chip 0 left) × BitSuperset (switch_word (overwrite w.chip 0 left)) (switch_word w.chip)
        kept = erase_well_formed kind update_place w.chip inv.formed left may

        standing : kind.is_on (switch_word (overwrite w.chip 0 left)) ≡ true → (b : Bool) → is_on kind w ≡ b → OrderedImageInPlace kind update_place (world_after (overwrite w.chip 0 left) w.looks w.ordered w.image)
        standing on true e =
            let s = inv.image e in
            record {
              image = s.image;
              ordered = s.ordered;
              some_bytes = s.some_bytes;
              alone = s.alone;
              contained = stands_stay w.chip (overwrite w.chip 0 left) update_place s.image stays (λ i a. outside i (let b = bounds in omega arith)) s.contained;
            }
        standing on false e = absurd (false_true (sym (lawful.stays_off (switch_word w.chip) (switch_word (overwrite w.chip 0 left)) inv.formed.switch kept.1 e) ∙ on))

    -- PHASES 2 and 3: anything in the update area, while the switch word is erased.
    writes_area : (phase place : ℕ) → run.state.phase ≡ phase → update_place ≤ place → place + length left ≤ length w.chip → Erased w →
        (Erased (world_after (overwrite w.chip place left) w.looks w.ordered w.image) → Stage phase (carried_run run) (world_after (overwrite w.chip place left) w.looks w.ordered w.image)) →
        Invariant kind update_place first_golden (world_after (overwrite w.chip place left) w.looks w.ordered w.image)
    unfolding on_run
    writes_area phase place p far fit blank stage = record {
      formed = area_well_formed kind update_place w.chip inv.formed place left far fit;
      golden = golden_stays kind update_place w.chip inv.formed (overwrite w.chip place left) stays (λ i a b. overwrite_before w.chip place left fit i 0 (omega arith)) ∙ inv.golden;
      image = λ on. absurd (false_true (sym (ap kind.is_on still ∙ lawful.erased_off) ∙ on));
      found = λ f o. still;
      run = still_holds (world_after (overwrite w.chip place left) w.looks w.ordered w.image) phase p stays (stage still);
    }
      where
        stays : length (overwrite w.chip place left) ≡ length w.chip
        stays = overwrite_length w.chip place left fit

        still : switch_word (overwrite w.chip place left) ≡ erased 4
        still = area_switch kind update_place w.chip inv.formed place left far fit ∙ blank

    -- PHASES 1, 4 and 6: a look changes nothing.
    looks_on : (phase looks : ℕ) → run.state.phase ≡ phase → (eqb looks 16 ≡ true → w.ordered ≡ false → Erased w) →
        Stage phase (carried_run run) (world_after w.chip looks w.ordered w.image) → Invariant kind update_place first_golden (world_after w.chip looks w.ordered w.image)
    unfolding on_run
    looks_on phase looks p found stage = record {
      formed = inv.formed;
      golden = inv.golden;
      image = λ on. let s = inv.image on in record { image = s.image; ordered = s.ordered; some_bytes = s.some_bytes; alone = s.alone; contained = s.contained };
      found = found;
      run = still_holds (world_after w.chip looks w.ordered w.image) phase p refl stage;
    }

    -- PHASE 5: a program of the switch word. The run's image stands at U, and is now the ordered one.
    switches_on : run.state.phase ≡ 5 → run.carried ≡ false → MayLeave w.chip switch_at (after_program w.chip switch_at kind.on) left →
        Invariant kind update_place first_golden (world_after (overwrite w.chip switch_at left) w.looks true (Some run.image))
    unfolding on_run Stage by_phase
    switches_on p once may = record {
      formed = program_well_formed kind update_place w.chip inv.formed lawful.four left may;
      golden = golden_stays kind update_place w.chip inv.formed (overwrite w.chip switch_at left) stays (λ i a b. outside i a) ∙ inv.golden;
      image = λ on. record {
        image = run.image;
        ordered = refl;
        some_bytes = (let n = numbers_image run.state.layout run.state.image_length numbers in let s = (fits_says run.state (length run.image) fitted).same in omega arith);
        alone = holds.alone;
        contained = stands_stay w.chip (overwrite w.chip switch_at left) update_place run.image stays (λ i a. outside i (let b = bounds in omega arith)) contained;
      };
      found = λ f o. absurd (false_true (sym o));
      run = still_holds (world_after (overwrite w.chip switch_at left) w.looks true (Some run.image)) 5 p stays (λ q. absurd (false_true (sym q)), λ q. refl);
    }
      where
        known : Erased w × Seen run w run.state.layout.update_length
        known = (stage_at 5 p).0 once

        old_length : length (span w.chip switch_at (length kind.on)) ≡ length kind.on
        old_length = span_length w.chip switch_at (length kind.on) (let l = chip_length_range (length w.chip) inv.formed.long in let f = lawful.four in omega arith)

        all : length left ≡ 4
        all = may.fills ∙ cleared_length (span w.chip switch_at (length kind.on)) kind.on old_length ∙ lawful.four

        fit : switch_at + length left ≤ length w.chip
        fit = let l = chip_length_range (length w.chip) inv.formed.long in omega (arith, all)

        stays : length (overwrite w.chip switch_at left) ≡ length w.chip
        stays = overwrite_length w.chip switch_at left fit

        outside : (i : ℕ) → segment ≤ i → get_or (overwrite w.chip switch_at left) i 0 ≡ get_or w.chip i 0
        outside i a = overwrite_after w.chip switch_at left fit i 0 (omega (arith, all))

        contained : ContainsAt w.chip update_place run.image
        contained =
            let b = bounds in
            let n = numbers_image run.state.layout run.state.image_length numbers in
            let s = (fits_says run.state (length run.image) fitted).same in
            seen_stands w.chip run.image update_place run.state.layout.update_length (rw holds.place at known.1) (omega arith) b.1

    -- Looks of phase 1 before this one.
    before_look : run.state.phase ≡ 1 → run.carried ≡ false → w.looks ≤ run.state.index
    unfolding Stage by_phase
    before_look p once =
        let s : w.looks ≤ run.state.index + 0 = rw once at (stage_at 1 p) in
        omega arith

    -- A look of phase 1 that is counted read FF; the 16th is the one at the switch word.
    looks_at_switch : run.state.phase ≡ 1 → run.carried ≡ false → (b : Bool) → agrees (look (page * run.state.index) (erased page)) w.chip ≡ b →
        Invariant kind update_place first_golden (world_after w.chip (look_seen b w.looks) w.ordered w.image)
    unfolding Stage by_phase look_seen count
    looks_at_switch p once true e =
        looks_on 1 (w.looks + 1) p
        (λ f o.
        let n = eqb-true (w.looks + 1) 16 f in
        let i : run.state.index < 16 = index_at 1 p in
        let l : length w.chip ≡ length w.chip = refl in
        let c = chip_length_range (length w.chip) inv.formed.long in
        let last : page * run.state.index ≡ 3840 = (let s = before_look p once in omega arith) in
        let whole : length (erased page) ≡ page = erased_length page in
        page_erased w.chip (omega arith) (rw (last, whole) at (agrees_read (page * run.state.index) (erased page) w.chip (omega arith) e)))
        (let s = before_look p once in omega arith)
    looks_at_switch p once false e = looks_on 1 w.looks p inv.found (let s = before_look p once in omega arith)

    -- A page of the image ends within the update area.
    pub page_within : run.state.phase ≡ 3 → page * run.state.index + length (page_of run.image run.state.index) ≤ run.state.layout.update_length
    page_within p =
        let i = image_pages run.state.layout run.state.image_length run.state.index (index_at 3 p) in
        let n = numbers_image run.state.layout run.state.image_length numbers in
        let s = (fits_says run.state (length run.image) fitted).same in
        let t = length-take page (drop (page * run.state.index) run.image) in
        let d = length-drop (page * run.state.index) run.image in
        omega arith

    -- Whatever the order is, and whatever it may leave.
    carries_on : AdmissibleOrder kind left run w → Invariant kind update_place first_golden (carry_out (order_of_run kind run) left run w)
    unfolding order_of by_phase AdmissibleSpan obeyed_span leaves look_seen ordered_image Stage count
    carries_on may =
        phases (λ (p : ℕ). run.state.phase ≡ p → Invariant kind update_place first_golden (carry_out (order_of_run kind run) left run w))
        (λ p. comes (erase 0 segment) 0 (order_at 0 p) p (erases_switch p (left_by (erase 0 segment) (order_at 0 p))))
        (λ p.
        let o = look (page * run.state.index) (erased page) in
        comes o 1 (order_at 1 p) p (looks_at_switch p may.once (agrees o w.chip) refl))
        (λ p.
        let b = bounds in
        let o = erase (run.state.layout.update_place + segment * run.state.index) segment in
        let m = left_by o (order_at 2 p) in
        let l = may.leaves in
        comes o 2 (order_at 2 p) p
        (writes_area 2 (run.state.layout.update_place + segment * run.state.index) p
        (let q = holds.place in omega arith)
        (let q = holds.place in let n = m.fills ∙ erased_length segment in let i = area_segments run.state.layout run.state.image_length run.state.index (index_at 2 p) in omega arith)
        (stage_at 2 p) (λ e. e)))
        (λ p.
        let b = bounds in
        let at = run.state.layout.update_place + page * run.state.index in
        let o = program at (page_of run.image run.state.index) in
        let m = left_by o (order_at 3 p) in
        let q = holds.place in
        let n = page_within p in
        comes o 3 (order_at 3 p) p
        (writes_area 3 at p (omega arith)
        (let l = m.fills ∙ cleared_length (span w.chip at (length (page_of run.image run.state.index))) (page_of run.image run.state.index) (span_length w.chip at (length (page_of run.image run.state.index)) (omega arith)) in omega arith)
        (stage_at 3 p) (λ e. e)))
        (λ p. comes (look (run.state.layout.update_place + page * run.state.index) (padded page (page_of run.image run.state.index))) 4 (order_at 4 p) p (looks_on 4 w.looks p inv.found (stage_at 4 p)))
        (λ p. comes (program switch_at kind.on) 5 (order_at 5 p) p (switches_on p may.once (left_by (program switch_at kind.on) (order_at 5 p))))
        (λ p. comes (look switch_at kind.on) 6 (order_at 6 p) p (looks_on 6 w.looks p inv.found (stage_at 6 p)))
        run.state.phase (running_says run.state (length run.image) fitted ran).0 refl
      where
        left_by : (o : Order) → order_of_run kind run ≡ o → AdmissibleSpan o w.chip left
        left_by o q = subst (λ (x : Order). AdmissibleSpan x w.chip left) q may.leaves

        comes : (o : Order) (phase : ℕ) → order_of_run kind run ≡ o → run.state.phase ≡ phase →
            Invariant kind update_place first_golden (world_after (leaves o w.chip left) (look_seen (eqb phase 1 && agrees o w.chip) w.looks) (eqb phase 5 || w.ordered) (ordered_image (eqb phase 5) run.image w.image)) →
            Invariant kind update_place first_golden (carry_out (order_of_run kind run) left run w)
        comes o phase q p i = subst (Invariant kind update_place first_golden) (sym (carried_out o phase left run w q p)) i

  -- REPLIES. The world with the state that was handed back.
  module _ (w : World) (inv : Invariant kind update_place first_golden w) (run : Run) (holds : Holds kind update_place run w) where
    abbrev run_at : State → Run
    run_at state = record { state = state; image = run.image; carried = false }

    abbrev world_at : State → World
    world_at state = record { chip = w.chip; run = Some (run_at state); looks = w.looks; ordered = w.ordered; image = w.image }

    goes_on : (state : State) → Holds kind update_place (run_at state) (world_at state) → Invariant kind update_place first_golden (world_at state)
    unfolding on_run
    goes_on state h = record {
      formed = inv.formed;
      golden = inv.golden;
      image = λ on. let s = inv.image on in record { image = s.image; ordered = s.ordered; some_bytes = s.some_bytes; alone = s.alone; contained = s.contained };
      found = inv.found;
      run = h;
    }

    -- A stop ends the run, with an outcome that is not 0.
    stopped_holds : (outcome : ℕ) → (outcome ≡ 0 → ⊥) → Holds kind update_place (run_at (ended run.state outcome)) (world_at (ended run.state outcome))
    unfolding Stage by_phase
    stopped_holds outcome other = record {
      fitted = λ r. absurd (let l = ltb-true 7 7 r in omega arith);
      long = holds.long;
      place = holds.place;
      alone = holds.alone;
      stage = tt;
      done = λ q z. absurd (other z);
    }

    -- A reply that moves it on: its order was carried out, and a look read what is expected.
    module _ (reply_kind : ℕ) (bytes : List ℕ) (moves : Moved kind run.state run.image reply_kind bytes (after run.state)) (honest : TruthfulReply kind run.image bytes run w) where
      abbrev s : State
      s = run.state

      fit : fits s (length run.image) ≡ true
      fit = moves.fitted

      index_of : (phase : ℕ) → s.phase ≡ phase → s.index < count s.layout s.image_length phase
      index_of phase p = subst (λ (q : ℕ). s.index < count s.layout s.image_length q) p (running_says s (length run.image) fit moves.ran).1

      stage_of : (phase : ℕ) → s.phase ≡ phase → Stage phase run w
      stage_of phase p = subst (λ (q : ℕ). Stage q run w) p holds.stage

      was_read : (place : ℕ) (expected : List ℕ) → order_of_run kind run ≡ look place expected → span w.chip place (length expected) ≡ expected
      unfolding Replies TrueRead
      was_read place expected o =
          let r : (reply_kind ≡ 1) × (bytes ≡ expected) = subst (λ (x : Order). Replies x reply_kind bytes) o moves.replied in
          let t : bytes ≡ span w.chip place (length expected) = subst (λ (x : Order). TrueRead x w.chip bytes) o honest.reads in
          sym t ∙ r.1

      order_of_law : (phase : ℕ) → s.phase ≡ phase → order_of_run kind run ≡ order_of kind s.layout run.image phase s.index
      order_of_law phase p = current_order_law kind s run.image fit moves.ran ∙ ap (λ (q : ℕ). order_of kind s.layout run.image q s.index) p

      -- phase 1: a page of segment 0 is erased; phase 4: one more page of the image has been seen
      page_blank : s.phase ≡ 1 → span w.chip (page * s.index) page ≡ erased page
      unfolding order_of by_phase
      page_blank p = rw (erased_length page) at (was_read (page * s.index) (erased page) (order_of_law 1 p))

      one_more : s.phase ≡ 4 → Seen run w (page * (s.index + 1))
      unfolding order_of by_phase Stage
      one_more p =
          let l : length (padded page (page_of run.image s.index)) ≡ page = padded_length page (page_of run.image s.index) (let t = length-take page (drop (page * s.index) run.image) in omega arith) in
          page_seen w.chip run.image s.layout.update_place s.index
          (rw l at (was_read (s.layout.update_place + page * s.index) (padded page (page_of run.image s.index)) (order_of_law 4 p)))
          (stage_of 4 p).1

      looked : s.phase ≡ 1 → w.looks ≤ s.index + 1
      unfolding Stage by_phase
      looked p = rw honest.carried at (stage_of 1 p)

      -- the next state, in its phase or at the beginning of the next
      abbrev next_index : State
      next_index = record { layout = s.layout; image_length = s.image_length; phase = s.phase; index = s.index + 1; outcome = s.outcome }

      abbrev next_phase : State
      next_phase = record { layout = s.layout; image_length = s.image_length; phase = s.phase + 1; index = 0; outcome = s.outcome }

      index_stage : s.index + 1 < count s.layout s.image_length s.phase → Stage s.phase (run_at next_index) (world_at next_index)
      unfolding Stage by_phase count
      index_stage h =
          phases (λ (q : ℕ). s.phase ≡ q → s.index + 1 < count s.layout s.image_length q → Stage q (run_at next_index) (world_at next_index))
          (λ p m. absurd (let l : s.index + 1 < 1 = m in omega arith))
          (λ p m. let l = looked p in omega arith)
          (λ p m. stage_of 2 p)
          (λ p m. stage_of 3 p)
          (λ p m. ((stage_of 4 p).0, one_more p))
          (λ p m. absurd (let l : s.index + 1 < 1 = m in omega arith))
          (λ p m. stage_of 6 p)
          s.phase (ltb-true s.phase 7 moves.ran) refl h

      phase_stage : count s.layout s.image_length s.phase ≤ s.index + 1 → Stage (s.phase + 1) (run_at next_phase) (world_at next_phase)
      unfolding Stage by_phase count
      phase_stage h =
          phases (λ (q : ℕ). s.phase ≡ q → count s.layout s.image_length q ≤ s.index + 1 → Stage (q + 1) (run_at next_phase) (world_at next_phase))
          (λ p m. let z : w.looks ≡ 0 = stage_of 0 p in omega arith)
          (λ p m.
          let i : s.index < 16 = index_of 1 p in
          let l : 16 ≤ s.index + 1 = m in
          let last : page * s.index ≡ 3840 = omega arith in
          let c = chip_length_range (length w.chip) inv.formed.long in
          page_erased w.chip (omega arith) (rw last at (page_blank p)))
          (λ p m. stage_of 2 p)
          (λ p m. (stage_of 3 p, λ j b. absurd (omega arith)))
          (λ p m. (λ once. ((stage_of 4 p).0, λ j b. one_more p j (let l : s.layout.update_length / page ≤ s.index + 1 = m in let a = update_length_range s.layout.chip_length s.layout.update_place s.layout.update_length (fits_says s (length run.image) fit).numbers.spans in omega arith)), λ c. absurd (false_true c)))
          (λ p m. (stage_of 5 p).1 honest.carried)
          (λ p m. tt)
          s.phase (ltb-true s.phase 7 moves.ran) refl h

      -- The look of phase 6 has read ON.
      read_on : s.phase ≡ 6 → is_on kind w ≡ true
      unfolding order_of by_phase
      read_on p =
          let four = lawful.four in
          let e : switch_word w.chip ≡ kind.on = rw four at (was_read switch_at kind.on (order_of_law 6 p)) in
          ap kind.is_on e ∙ lawful.on_on

      ended_done : s.phase + 1 ≡ 7 → (is_on kind w ≡ true) × (w.image ≡ Some run.image)
      unfolding Stage by_phase
      ended_done q = let p : s.phase ≡ 6 = omega arith in (read_on p, stage_of 6 p)

      next_fits : fits (after s) (length run.image) ≡ true
      next_fits = after_fits s (length run.image) fit moves.ran

      moved_on : Invariant kind update_place first_golden (world_at (after s))
      moved_on = ⊎_elim
          (λ h. at next_index (after_index s h) refl (index_stage h) (λ q. absurd (let l = ltb-true s.phase 7 moves.ran in omega arith)))
          (λ h. at next_phase (after_phase s h) refl (phase_stage h) ended_done)
          (last_or_not s)
        where
          at : (t : State) → after s ≡ t → t.layout ≡ s.layout → Stage t.phase (run_at t) (world_at t) → (t.phase ≡ 7 → (is_on kind w ≡ true) × (w.image ≡ Some run.image)) → Invariant kind update_place first_golden (world_at (after s))
          at t e l stage done =
              subst (λ (x : State). Invariant kind update_place first_golden (world_at x)) (sym e)
              (goes_on t
              (record {
                fitted = λ r. subst (λ (x : State). fits x (length run.image) ≡ true) e next_fits;
                long = ap (λ (x : Layout). x.chip_length) l ∙ holds.long;
                place = ap (λ (x : Layout). x.update_place) l ∙ holds.place;
                alone = holds.alone;
                stage = stage;
                done = λ q z. done q;
              }))

    replied : (image : List ℕ) (reply_kind : ℕ) (bytes : List ℕ) (answer : Result Reply RefusedReply) → reply_answer kind run.state image reply_kind bytes ≡ answer → AdmissibleReply answer kind image bytes run w → Invariant kind update_place first_golden (after_reply answer run w)
    unfolding AdmissibleReply after_reply
    replied image reply_kind bytes (Err r) e may = inv
    replied image reply_kind bytes (Ok (Stopped number place state)) e may =
        let h = halted kind run.state image reply_kind bytes number place state e in
        subst (λ (t : State). Invariant kind update_place first_golden (world_at t)) (sym h.comes) (goes_on (ended run.state number) (stopped_holds number (stop_number run.state.phase number h.stop)))
    replied image reply_kind bytes (Ok (Next state)) e may =
        let own : reply_answer kind run.state run.image reply_kind bytes ≡ Ok (Next state) = subst (λ (i : List ℕ). reply_answer kind run.state i reply_kind bytes ≡ Ok (Next state)) may.same e in
        let m = moved kind run.state run.image reply_kind bytes state own in
        subst (λ (t : State). Invariant kind update_place first_golden (world_at t)) (sym m.comes)
        (moved_on reply_kind bytes (record { fitted = m.fitted; ran = m.ran; replied = m.replied; comes = refl }) (record { carried = may.carried; same = refl; reads = may.reads }))

  -- STARTS. An accepted one opens a run at phase 0.
  started : (w : World) → Invariant kind update_place first_golden w → (layout : Layout) (image : List ℕ) (answer : Result State Refusal) → start_answer kind layout image ≡ answer → AdmissibleStart answer update_place layout w → Invariant kind update_place first_golden (after_start answer image w)
  unfolding AdmissibleStart after_start on_run Stage by_phase
  started w inv layout image (Err r) e may = inv
  started w inv layout image (Ok state) e may =
      let o = opened kind lawful layout image state e in
      subst (λ (t : State). Invariant kind update_place first_golden (after_start (Ok t) image w)) (sym o.begins)
      (record {
        formed = inv.formed;
        golden = inv.golden;
        image = λ on. let s = inv.image on in record { image = s.image; ordered = s.ordered; some_bytes = s.some_bytes; alone = s.alone; contained = s.contained };
        found = λ f q. absurd (let z : 0 ≡ 16 = eqb-true 0 16 f in omega arith);
        run = record {
          fitted = λ r. first_fits layout (length image) o.numbers;
          long = may.0;
          place = may.1;
          alone = o.alone;
          stage = refl;
          done = λ q z. absurd (omega arith);
        };
      })

  -- EVERY EVENT that keeps the premises keeps the invariant,
  pub keeps : (w : World) → Invariant kind update_place first_golden w → (event : Event) → Admissible kind update_place w event → Invariant kind update_place first_golden (next kind w event)
  unfolding next Admissible on_run
  keeps w inv (starts layout image) may = started w inv layout image (start_answer kind layout image) refl may
  keeps w inv (carries left) may = go w.run may inv.run
    where
      go : (o : Option Run) → on_run o ⊥ (λ run. AdmissibleOrder kind left run w) → on_run o (Unit {0}) (λ run. Holds kind update_place run w) → Invariant kind update_place first_golden (on_run o w (λ run. carry_out (order_of_run kind run) left run w))
      go None m h = absurd m
      go (Some run) m h = carries_on w inv run h m.asked left m
  keeps w inv (replies image reply_kind bytes) may = go w.run may inv.run
    where
      go : (o : Option Run) → on_run o ⊥ (λ run. AdmissibleReply (reply_answer kind run.state image reply_kind bytes) kind image bytes run w) → on_run o (Unit {0}) (λ run. Holds kind update_place run w) →
          Invariant kind update_place first_golden (on_run o w (λ run. after_reply (reply_answer kind run.state image reply_kind bytes) run w))
      go None m h = absurd m
      go (Some run) m h = replied w inv run h image reply_kind bytes (reply_answer kind run.state image reply_kind bytes) refl m
  keeps w inv cuts may = record {
    formed = inv.formed;
    golden = inv.golden;
    image = λ on. let s = inv.image on in record { image = s.image; ordered = s.ordered; some_bytes = s.some_bytes; alone = s.alone; contained = s.contained };
    found = inv.found;
    run = tt;
  }

  -- and so does every list of them.
  pub lives : (events : List Event) (w : World) → Invariant kind update_place first_golden w → Valid kind update_place w events → Invariant kind update_place first_golden (life kind w events)
  unfolding Valid life
  lives [] w inv valid = inv
  lives (event ∷ events) w inv valid = lives events (next kind w event) (keeps w inv event valid.0) valid.1

-- A list may start where the invariant holds.
pub begins_hold : (kind : Kind) (update_place : ℕ) (w : World) → LifeBegins kind update_place w → Invariant kind update_place (golden_area update_place w.chip) w
unfolding on_run
begins_hold kind update_place w begins = record {
  formed = begins.formed;
  golden = refl;
  image = begins.image;
  found = λ f o. absurd (let e = eqb-true w.looks 16 f in let z = begins.unseen in omega arith);
  run = subst (λ (r : Option Run). on_run r (Unit {0}) (λ run. Holds kind update_place run w)) (sym begins.closed) tt;
}
