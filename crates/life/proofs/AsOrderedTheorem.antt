-- "Each bit ends old or as ordered", word for word: of every order that a run can give, it is the rule of `Admissible`. Only programs could differ: those of phase 3 lie in the update area, where any bytes may stand, and the one of phase 5 comes while the switch word is erased.
use Prim.Native.Nat.{ℕ, ◌+◌, ◌*◌, ◌%◌, ◌<◌, ◌≤◌}
use mathlib.Core.Path.{◌≡◌, refl, sym, ap, subst, ◌∙◌}
use mathlib.Core.Bool.{true, false}
use Rattle.std.specs.Prelude.{Option, Some, None}
use mathlib.Core.List.{List, [], ◌∷◌}
use native.Mathlib.Omega.{arith}
use lib.ListN.{length, get_or}
use Rattle.kind.proofs.Laws.{chip_length_range}
use Rattle.kind.specs.Layout.{page, segment, switch_at}
use Rattle.kind.specs.Kind.{Kind}
use Rattle.flash.specs.Flash.{erased, span, after_program}
use Rattle.flash.proofs.Laws.{span_at, erased_at}
use Rattle.chip.specs.Cut.{MayLeave}
use Rattle.chip.specs.Chip.{golden_area, Lawful}
use Rattle.orders.specs.Table.{by_phase}
use Rattle.orders.specs.Orders.{Order, program, page_of, order_of}
use Rattle.orders.proofs.Laws.{phases}
use Rattle.updater.specs.State.{running}
use Rattle.updater.proofs.Laws.{running_says}
use Rattle.effects.specs.Effects.{obeyed_span}
use Rattle.life.specs.Life.{Run, World, Event, starts, carries, replies, cuts, order_of_run, on_run, next, AdmissibleSpan, AdmissibleOrder, Admissible, Valid, life}
use Rattle.life.specs.AsOrdered.{LiteralSpan, LiteralOrder, LiterallyAdmissible, LiterallyValid, AsOrdered}
use Rattle.life.proofs.LifeLaws.{Stage, Holds, Invariant, begins_hold, fitted, bounds, stage_at, order_at, page_within, keeps, lives}
use Rattle.life.proofs.ObeyLaws.{program_length, program_over_erased}

-- The two rules permit the same bytes.
abbrev Same : Order → List ℕ → List ℕ → Type 0
Same order chip left = (LiteralSpan order chip left → AdmissibleSpan order chip left) × (AdmissibleSpan order chip left → LiteralSpan order chip left)

-- Above segment 0 only the span's length counts.
far_same : (chip : List ℕ) (place : ℕ) (a b left : List ℕ) → segment ≤ place → length a ≡ length b → MayLeave chip place a left → MayLeave chip place b left
far_same chip place a b left far same may = record { fills = may.fills ∙ same; bytes = may.bytes; mixed = λ near. absurd (omega arith) }

module _ (kind : Kind) (lawful : Lawful kind) (update_place : ℕ) (first_golden : List ℕ) where
  module _ (w : World) (inv : Invariant kind update_place first_golden w) (run : Run) (holds : Holds kind update_place run w) (ran : running run.state ≡ true) (once : run.carried ≡ false) (left : List ℕ) where
    -- the order of the run's phase, and where the update area is
    order : (phase : ℕ) → run.state.phase ≡ phase → order_of_run kind run ≡ order_of kind run.state.layout run.image phase run.state.index
    order = order_at kind lawful update_place first_golden w inv run holds ran left

    layout_bounds : (12288 ≤ update_place) × (update_place + run.state.layout.update_length ≤ length w.chip) × (run.state.layout.update_length % 4096 ≡ 0)
    layout_bounds = bounds kind lawful update_place first_golden w inv run holds ran left

    abbrev page_now : List ℕ
    page_now = page_of run.image run.state.index

    abbrev page_place : ℕ
    page_place = run.state.layout.update_place + page * run.state.index

    -- phase 3
    page_same : run.state.phase ≡ 3 → Same (program page_place page_now) w.chip left
    unfolding LiteralSpan AdmissibleSpan obeyed_span
    page_same p = (far_same w.chip page_place page_now (after_program w.chip page_place page_now) left far (sym long), far_same w.chip page_place (after_program w.chip page_place page_now) page_now left far long)
      where
        within : page_place + length page_now ≤ length w.chip
        within = let b = layout_bounds in let n = page_within kind lawful update_place first_golden w inv run holds ran left p in let q = holds.place in omega arith

        far : segment ≤ page_place
        far = let b = layout_bounds in let q = holds.place in omega arith

        long : length (after_program w.chip page_place page_now) ≡ length page_now
        long = program_length w.chip page_place page_now within

    -- phase 5
    switch_same : run.state.phase ≡ 5 → Same (program switch_at kind.on) w.chip left
    unfolding LiteralSpan AdmissibleSpan obeyed_span Stage by_phase
    switch_same p = (subst (λ (b : List ℕ). MayLeave w.chip switch_at b left) (sym as_ordered), subst (λ (b : List ℕ). MayLeave w.chip switch_at b left) as_ordered)
      where
        four : length kind.on ≡ 4
        four = lawful.four

        blank : span w.chip switch_at 4 ≡ erased 4
        blank = ((stage_at kind lawful update_place first_golden w inv run holds ran left 5 p).0 once).0

        as_ordered : after_program w.chip switch_at kind.on ≡ kind.on
        as_ordered =
            program_over_erased w.chip switch_at kind.on
            (let l = chip_length_range (length w.chip) inv.formed.long in omega (arith, four))
            (λ i h. lawful.byte i (omega (arith, four)))
            (λ i h.
            let m : i < 4 = omega (arith, four) in
            sym (span_at w.chip switch_at 4 i m) ∙ ap (λ (b : List ℕ). get_or b i 0) blank ∙ erased_at 4 i m)

    pub same_rule : Same (order_of_run kind run) w.chip left
    unfolding LiteralSpan AdmissibleSpan obeyed_span order_of by_phase
    same_rule =
        phases (λ (p : ℕ). run.state.phase ≡ p → Same (order_of_run kind run) w.chip left)
        (λ p. comes (order 0 p) (λ m. m, λ m. m))
        (λ p. comes (order 1 p) (λ m. m, λ m. m))
        (λ p. comes (order 2 p) (λ m. m, λ m. m))
        (λ p. comes (order 3 p) (page_same p))
        (λ p. comes (order 4 p) (λ m. m, λ m. m))
        (λ p. comes (order 5 p) (switch_same p))
        (λ p. comes (order 6 p) (λ m. m, λ m. m))
        run.state.phase (running_says run.state (length run.image) (fitted kind lawful update_place first_golden w inv run holds ran left) ran).0 refl
      where
        comes : {o : Order} → order_of_run kind run ≡ o → Same o w.chip left → Same (order_of_run kind run) w.chip left
        comes e s = subst (λ (o : Order). Same o w.chip left) (sym e) s

  -- One event, by both rules,
  module _ (w : World) (inv : Invariant kind update_place first_golden w) where
    to_ours : (event : Event) → LiterallyAdmissible kind update_place w event → Admissible kind update_place w event
    unfolding LiterallyAdmissible Admissible on_run
    to_ours (starts layout image) may = may
    to_ours (carries left) may = go w.run may inv.run
      where
        go : (o : Option Run) → on_run o ⊥ (λ run. LiteralOrder kind left run w) → on_run o (Unit {0}) (λ run. Holds kind update_place run w) → on_run o ⊥ (λ run. AdmissibleOrder kind left run w)
        go None m h = absurd m
        go (Some run) m h = record { asked = m.asked; once = m.once; leaves = (same_rule w inv run h m.asked m.once left).0 m.leaves }
    to_ours (replies image reply_kind bytes) may = may
    to_ours cuts may = may

    to_words : (event : Event) → Admissible kind update_place w event → LiterallyAdmissible kind update_place w event
    unfolding LiterallyAdmissible Admissible on_run
    to_words (starts layout image) may = may
    to_words (carries left) may = go w.run may inv.run
      where
        go : (o : Option Run) → on_run o ⊥ (λ run. AdmissibleOrder kind left run w) → on_run o (Unit {0}) (λ run. Holds kind update_place run w) → on_run o ⊥ (λ run. LiteralOrder kind left run w)
        go None m h = absurd m
        go (Some run) m h = record { asked = m.asked; once = m.once; leaves = (same_rule w inv run h m.asked m.once left).1 m.leaves }
    to_words (replies image reply_kind bytes) may = may
    to_words cuts may = may

  -- and a list of them.
  valid : (events : List Event) (w : World) → Invariant kind update_place first_golden w → LiterallyValid kind update_place w events → Valid kind update_place w events
  unfolding LiterallyValid Valid
  valid [] w inv l = tt
  valid (event ∷ events) w inv l =
      let may = to_ours w inv event l.0 in
      (may, valid events (next kind w event) (keeps kind lawful update_place first_golden w inv event may) l.1)

  literal : (events : List Event) (w : World) → Invariant kind update_place first_golden w → Valid kind update_place w events → LiterallyValid kind update_place w events
  unfolding LiterallyValid Valid
  literal [] w inv v = tt
  literal (event ∷ events) w inv v = (to_words w inv event v.0, literal events (next kind w event) (keeps kind lawful update_place first_golden w inv event v.0) v.1)

pub as_ordered : (kind : Kind) → Lawful kind → AsOrdered kind
unfolding on_run
as_ordered kind lawful = record {
  permits = λ update_place w begins events v run e ran once left.
      let golden = golden_area update_place w.chip in
      let later = life kind w events in
      let inv = lives kind lawful update_place golden events w (begins_hold kind update_place w begins) v in
      let h : Holds kind update_place run later = subst (λ (r : Option Run). on_run r (Unit {0}) (λ run. Holds kind update_place run later)) e inv.run in
      same_rule kind lawful update_place golden later inv run h ran once left;
  valid = λ update_place w begins events. valid kind lawful update_place (golden_area update_place w.chip) events w (begins_hold kind update_place w begins);
  literal = λ update_place w begins events. literal kind lawful update_place (golden_area update_place w.chip) events w (begins_hold kind update_place w begins);
}
