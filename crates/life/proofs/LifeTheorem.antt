-- DEMAND 3: the theorem, from the invariant (LifeLaws) and the uncut run (UncutLaws).
use Prim.Native.Nat.{ℕ, ◌+◌, ◌≤◌}
use mathlib.Core.Path.{◌≡◌, refl, sym, ap, subst, ◌∙◌}
use mathlib.Core.Bool.{Bool, true, false}
use Rattle.std.specs.Prelude.{Option, Some, Ok}
use mathlib.Core.List.{List}
use lib.ListN.{length}
use Rattle.life.specs.Types.{Loaded, Layout, State}
use Rattle.base.proofs.Laws.{false_true}
use Rattle.kind.specs.Layout.{golden_at}
use Rattle.kind.specs.Kind.{Kind}
use Rattle.chip.specs.Chip.{golden_area, Loads, WellFormed, ContainsAt, Lawful}
use Rattle.starts.specs.Starts.{start_answer}
use Rattle.life.specs.Life.{Run, World, on_run, Event, Valid, life, is_on, uncut, Loading, Updates, OrderedLoads, DoneLoads, Claim, LifeBegins, Demand3}
use Rattle.effects.specs.Effects.{Bytes}
use Rattle.starts.proofs.Laws.{opened}
use Rattle.life.proofs.LifeLaws.{Holds, Invariant, lives, begins_hold}
use Rattle.life.proofs.UncutLaws.{uncut_run}

-- A chip's reading is Loaded, jumped or not.
pub record Reads (kind : Kind) (chip : List ℕ) (jumped : Bool) : Type 0 where
  pub sync : ℕ
  pub end : ℕ
  pub writes : ℕ
  pub reading : kind.reads chip ≡ Loaded sync end writes jumped

some_same : {a b : List ℕ} → ◌≡◌ {A = Option (List ℕ)} (Some a) (Some b) → a ≡ b
some_same e = cc

-- Not both.
jumped_or_not : (kind : Kind) (chip : List ℕ) → Reads kind chip false → Reads kind chip true → ⊥
jumped_or_not kind chip a b = let e = sym a.reading ∙ b.reading in let j : false ≡ true = cc in false_true j

loads_reads : (kind : Kind) (chip image : List ℕ) (place : ℕ) (jumped : Bool) → Loads kind chip image place jumped → Reads kind chip jumped
loads_reads kind chip image place jumped l = record { sync = place + l.itself.sync; end = place + l.itself.end; writes = l.itself.writes; reading = l.reading }

-- The claim, in any words for "loads" that a chip's own loading gives and that tell jumped from not.
module _ (kind : Kind) (lawful : Lawful kind) (update_place : ℕ) (first : World) (begins : LifeBegins kind update_place first) (loads : Loading) (golden : List ℕ)
    (reads : (chip image : List ℕ) (place : ℕ) (jumped : Bool) → loads chip image place jumped → Reads kind chip jumped)
    (golden_loads : (chip : List ℕ) → WellFormed kind update_place chip → Loads kind chip (golden_area update_place first.chip) golden_at false → loads chip golden golden_at false)
    (update_loads : (chip image : List ℕ) → WellFormed kind update_place chip → 1 ≤ length image → ContainsAt chip update_place image → Loads kind chip image update_place true → loads chip image update_place true) where
  abbrev first_golden : List ℕ
  first_golden = golden_area update_place first.chip

  invariant : Invariant kind update_place first_golden first
  invariant = begins_hold kind update_place first begins

  module _ (w : World) (inv : Invariant kind update_place first_golden w) where
    off_loads : is_on kind w ≡ false → Loads kind w.chip first_golden golden_at false
    off_loads off = subst (λ (g : List ℕ). Loads kind w.chip g golden_at false) inv.golden (lawful.off_loads update_place w.chip inv.formed off)

    on_loads : (on : is_on kind w ≡ true) → Loads kind w.chip (inv.image on).image update_place true
    on_loads on = let s = inv.image on in lawful.on_loads update_place w.chip s.image inv.formed on s.alone s.contained

    ordered_loads : is_on kind w ≡ true → OrderedLoads loads update_place w
    ordered_loads on =
        let s = inv.image on in
        record { image = s.image; ordered = s.ordered; loaded = update_loads w.chip s.image inv.formed s.some_bytes s.contained (on_loads on) }

    off_only : loads w.chip golden golden_at false → is_on kind w ≡ false
    off_only l = go (is_on kind w) refl
      where
        go : (b : Bool) → is_on kind w ≡ b → is_on kind w ≡ false
        go false e = e
        go true e = absurd (jumped_or_not kind w.chip (reads w.chip golden golden_at false l) (loads_reads kind w.chip (inv.image e).image update_place true (on_loads e)))

    on_only : (image : List ℕ) (place : ℕ) → loads w.chip image place true → is_on kind w ≡ true
    on_only image place l = go (is_on kind w) refl
      where
        go : (b : Bool) → is_on kind w ≡ b → is_on kind w ≡ true
        go true e = e
        go false e = absurd (jumped_or_not kind w.chip (loads_reads kind w.chip first_golden golden_at false (off_loads e)) (reads w.chip image place true l))

  -- One more run: the list with it is itself one that keeps the premises, so what is ON loads what was ordered, and that is its image.
  again : (w : World) → Invariant kind update_place first_golden w → (layout : Layout) (image : List ℕ) (state : State) → start_answer kind layout image ≡ Ok state → layout.chip_length ≡ length w.chip →
      layout.update_place ≡ update_place → Bytes image → Updates kind loads update_place layout image w
  again w inv layout image state e l u bytes =
      let o = opened kind lawful layout image state e in
      let r = uncut_run kind lawful update_place layout image o.numbers o.alone bytes w l u in
      let es = uncut kind layout image w.chip in
      let after = life kind w es in
      let s = ordered_loads after (lives kind lawful update_place first_golden es w inv r.valid) r.reached.on in
      let same : s.image ≡ image = some_same (sym s.ordered ∙ r.reached.ordered) in
      record { valid = r.valid; state = r.reached.state; loaded = subst (λ (i : List ℕ). loads after.chip i update_place true) same s.loaded }

  -- A run that has ended with outcome 0: what is ON loads what was ordered, and that is its image.
  done_loads : (w : World) → Invariant kind update_place first_golden w → (run : Run) → w.run ≡ Some run → run.state.phase ≡ 7 → run.state.outcome ≡ 0 → DoneLoads kind loads update_place run w
  unfolding on_run
  done_loads w inv run opened_run at_end zero =
      let h : Holds kind update_place run w = subst (λ (r : Option Run). on_run r (Unit {0}) (λ run. Holds kind update_place run w)) opened_run inv.run in
      let d = h.done at_end zero in
      let s = ordered_loads w inv d.0 in
      let same : s.image ≡ run.image = some_same (sym s.ordered ∙ d.1) in
      record { on = d.0; ordered = d.1; loaded = subst (λ (i : List ℕ). loads w.chip i update_place true) same s.loaded }

  claim : (w : World) → Invariant kind update_place first_golden w → Claim kind loads update_place golden w
  claim w inv = record {
    off = λ off. golden_loads w.chip inv.formed (off_loads w inv off);
    off_only = off_only w inv;
    on = ordered_loads w inv;
    on_only = on_only w inv;
    found_off = λ f o. ap kind.is_on (inv.found f o) ∙ lawful.erased_off;
    again = again w inv;
    done_loads = done_loads w inv;
  }

  pub claims : (events : List Event) → Valid kind update_place first events → Claim kind loads update_place golden (life kind first events)
  claims events valid = claim (life kind first events) (lives kind lawful update_place first_golden events first invariant valid)

-- DEMAND 3 of any kind that keeps its laws.
pub demand3 : (kind : Kind) → Lawful kind → Demand3 kind
demand3 kind lawful update_place w begins =
    claims kind lawful update_place w begins (Loads kind) (golden_area update_place w.chip) (loads_reads kind) (λ chip formed l. l) (λ chip image formed long contained l. l)
