-- DEMAND 3 for the chip that the builder answers, in the words of the calls' contracts.
use Prim.Native.Nat.{ℕ, ◌+◌, ◌-◌, ◌≤◌}
use mathlib.Core.Path.{◌≡◌, refl, sym, ◌∙◌}
use mathlib.Core.Bool.{Bool, true, false}
use mathlib.Core.List.{List}
use Rattle.std.specs.Prelude.{Ok, Some}
use native.Mathlib.Omega.{arith}
use lib.ListN.{length}
use Rattle.kind.specs.Layout.{chip_length_allowed, golden_at}
use Rattle.bootreader.specs.Image.{longest_image}
use Rattle.base.proofs.Laws.{false_true}
use Rattle.kind.proofs.Laws.{chip_length_range, update_place_range}
use Rattle.bootreader.proofs.Laws.{accepted_length, boots, booted, accepts, whole_writes}
use Rattle.kind.specs.Kind.{Kind}
use Rattle.kind.specs.Spi.{spi}
use Rattle.chip.specs.Chip.{switch_word, golden_area, Loads, WellFormed, ContainsAt}
use Rattle.builder.specs.Builder.{built_chip, build_answer}
use Rattle.life.specs.Types.{Layout}
use Rattle.chip.specs.UpdatePlace.{place_answer}
use Rattle.chip.proofs.Laws.{spi_lawful, named_place_law}
use Rattle.builder.proofs.Laws.{questions, built_well_formed, built_off, built_loads}
use Rattle.life.specs.Life.{fresh, Event, Valid, life, Claim, LifeBegins}
use Rattle.life.specs.AsOrdered.{LiterallyValid}
use Rattle.life.specs.Built.{Boots, BuiltDemand3, BuiltAsOrdered, BuiltNamesPlace}
use Rattle.life.proofs.LifeLaws.{lives, begins_hold}
use Rattle.life.proofs.LifeTheorem.{Reads, claims}
use Rattle.life.proofs.AsOrderedTheorem.{as_ordered}

-- What loads by the reading loads by the answers of the calls, and the answers tell jumped from not.
loads_boots : (chip image : List ℕ) (place : ℕ) (jumped : Bool) → chip_length_allowed (length chip) ≡ true → 1 ≤ length image → length image ≤ longest_image → Loads spi chip image place jumped → Boots spi chip image place jumped
loads_boots chip image place jumped allowed long short l =
    let i = l.itself in
    let accepted = accepts image i.sync i.end i.writes false long short i.reading in
    record {
      sync = i.sync;
      end = i.end;
      writes = i.writes;
      accepted = accepted;
      boots = boots chip (place + i.sync) (place + i.end) i.writes jumped allowed l.reading;
      whole = whole_writes chip image i.sync i.end i.writes allowed accepted l.whole;
    }

boots_reads : (chip image : List ℕ) (place : ℕ) (jumped : Bool) → Boots spi chip image place jumped → Reads spi chip jumped
boots_reads chip image place jumped b = record { sync = place + b.sync; end = place + b.end; writes = b.writes; reading = booted chip (place + b.sync) (place + b.end) b.writes jumped b.boots }

-- Two images that one chip loads at a place are the same to every chip that loads one of them there.
same_image : (kind : Kind) (chip other : List ℕ) (a b : List ℕ) (place : ℕ) (jumped : Bool) → Loads kind chip a place jumped → Loads kind chip b place jumped → Loads kind other a place jumped → Loads kind other b place jumped
same_image kind chip other a b place jumped la lb l =
    let alone = sym l.itself.reading ∙ la.itself.reading in
    let read = sym la.reading ∙ lb.reading in
    let s : l.itself.sync ≡ la.itself.sync = cc in
    let e : l.itself.end ≡ la.itself.end = cc in
    let n : l.itself.writes ≡ la.itself.writes = cc in
    record { itself = lb.itself; reading = l.reading ∙ rw (s, e, n) read; whole = l.whole ∙ sym la.whole ∙ lb.whole }

module _ (layout : Layout) (golden : List ℕ) (room : ℕ) (built : build_answer spi layout golden room ≡ Ok tt) where
  abbrev chip : List ℕ
  chip = built_chip spi layout golden

  formed : WellFormed spi layout.update_place chip
  formed = built_well_formed layout golden room built

  off : spi.is_on (switch_word chip) ≡ false
  off = built_off layout golden room built

  -- A built chip is well-formed and OFF, and no run is open.
  begins : LifeBegins spi layout.update_place (fresh chip)
  begins = record { closed = refl; unseen = refl; formed = formed; image = λ on. absurd (false_true (sym off ∙ on)) }

  -- Its golden image has a byte at least and fits the golden area.
  golden_length : (1 ≤ length golden) × (length golden ≤ longest_image)
  golden_length =
      let q = questions layout golden room built in
      let a = accepted_length (layout.update_place - golden_at) golden q.sync q.end q.writes q.read in
      let u = update_place_range layout.chip_length layout.update_place q.starts in
      let l = chip_length_range layout.chip_length q.long in
      (a.0, omega arith)

  golden_boots : (later : List ℕ) → WellFormed spi layout.update_place later → Loads spi later (golden_area layout.update_place chip) golden_at false → Boots spi later golden golden_at false
  golden_boots later g l =
      loads_boots later golden golden_at false g.long golden_length.0 golden_length.1
      (same_image spi chip later (golden_area layout.update_place chip) golden golden_at false (spi_lawful.off_loads layout.update_place chip formed off) (built_loads layout golden room built) l)

  update_boots : (later image : List ℕ) → WellFormed spi layout.update_place later → 1 ≤ length image → ContainsAt later layout.update_place image → Loads spi later image layout.update_place true → Boots spi later image layout.update_place true
  update_boots later image g long contained l =
      let a = chip_length_range (length later) g.long in
      let f = contained.fits in
      loads_boots later image layout.update_place true g.long long (omega arith) l

  claimed : (events : List Event) → Valid spi layout.update_place (fresh chip) events → Claim spi (Boots spi) layout.update_place golden (life spi (fresh chip) events)
  claimed = claims spi spi_lawful layout.update_place (fresh chip) begins (Boots spi) golden boots_reads golden_boots update_boots

  claimed_as_ordered : (events : List Event) → LiterallyValid spi layout.update_place (fresh chip) events → Claim spi (Boots spi) layout.update_place golden (life spi (fresh chip) events)
  claimed_as_ordered events literal = claimed events ((as_ordered spi spi_lawful).valid layout.update_place (fresh chip) begins events literal)

  -- The chip stays well-formed for its U, so it names it.
  names : (events : List Event) → Valid spi layout.update_place (fresh chip) events → place_answer spi (life spi (fresh chip) events).chip ≡ Ok (Some layout.update_place)
  names events valid =
      let inv = lives spi spi_lawful layout.update_place (golden_area layout.update_place chip) events (fresh chip) (begins_hold spi layout.update_place (fresh chip) begins) valid in
      named_place_law.well_formed layout.update_place (life spi (fresh chip) events).chip inv.formed

pub built_demand3 : BuiltDemand3
built_demand3 = claimed

pub built_as_ordered : BuiltAsOrdered
built_as_ordered = claimed_as_ordered

pub built_names_place : BuiltNamesPlace
built_names_place = names
