-- Where the orders of the table lie: in segment 0 or in the update area, an erase on one segment, a program in one page.
use Prim.Native.Nat.{ℕ, ◌+◌, ◌-◌, ◌*◌, ◌/◌, ◌%◌, ◌<◌, ◌≤◌}
use mathlib.Core.Path.{◌≡◌, refl}
use mathlib.Core.Logic.{inl, inr}
use mathlib.Core.List.{List}
use native.Mathlib.Omega.{arith}
use lib.ListN.{length, drop, length-take, length-drop}
use Rattle.kind.specs.Layout.{page, segment}
use Rattle.kind.specs.Kind.{Kind}
use Rattle.chip.specs.Chip.{Lawful}
use Rattle.effects.specs.Types.{Layout}
use Rattle.flash.proofs.Laws.{erased_length}
use Rattle.kind.proofs.Laws.{update_place_range}
use Rattle.comparison.proofs.Laws.{padded_length}
use Rattle.orders.specs.Table.{by_phase, count}
use Rattle.orders.specs.Orders.{page_of, order_of}
use Rattle.orders.proofs.Laws.{phases, area_segments, image_pages, area_pages}
use Rattle.updater.proofs.Laws.{Numbers, numbers_image}
use Rattle.effects.specs.Effects.{order_place, order_length, InReach, WellPlaced}

-- how long a page of an image is
page_most : (image : List ℕ) (i : ℕ) → page * i < length image → (1 ≤ length (page_of image i)) × (length (page_of image i) ≤ page) × (page * i + length (page_of image i) ≤ length image)
page_most image i h =
    let t = length-take page (drop (page * i) image) in
    let d = length-drop (page * i) image in
    (omega arith, omega arith, omega arith)

module _ (kind : Kind) (lawful : Lawful kind) where
  -- The table's orders, phase by phase.
  pub in_reach : (layout : Layout) (image : List ℕ) → Numbers layout (length image) → (i phase : ℕ) → phase < 7 → i < count layout (length image) phase →
      InReach layout (order_place (order_of kind layout image phase i)) (order_length (order_of kind layout image phase i)) × WellPlaced (order_of kind layout image phase i)
  unfolding count by_phase order_of order_place order_length WellPlaced
  in_reach layout image numbers i =
      phases (λ (phase : ℕ). i < count layout (length image) phase → InReach layout (order_place (order_of kind layout image phase i)) (order_length (order_of kind layout image phase i)) × WellPlaced (order_of kind layout image phase i))
      (λ h. (inl (omega arith), (refl, refl)))
      (λ h. (inl (let b : i < 16 = h in let e = erased_length page in omega arith), tt))
      (λ h. (inr (omega arith, (let s = area_segments layout (length image) i h in omega arith)), (refl, on_segment)))
      (λ h. (inr (omega arith, (let b = few h in omega arith)), ((few h).0, (few h).1, in_page h)))
      (λ h. (
        inr (
          omega arith,
          (let s = area_pages layout (length image) i h in
              let f = padded_length page (page_of image i) (let t = length-take page (drop (page * i) image) in omega arith) in
              omega arith),
        ),
        tt,
      ))
      (λ h. (inl (omega (arith, lawful.four)), (omega (arith, lawful.four), omega (arith, lawful.four), rw lawful.four refl)))
      (λ h. (inl (omega (arith, lawful.four)), tt))
    where
      on_segment : (layout.update_place + segment * i) % segment ≡ 0
      on_segment = let u = update_place_range layout.chip_length layout.update_place numbers.starts in omega arith

      few : i < count layout (length image) 3 → (1 ≤ length (page_of image i)) × (length (page_of image i) ≤ page) × (page * i + length (page_of image i) ≤ layout.update_length)
      few h =
          let b = page_most image i (image_pages layout (length image) i h) in
          let n = numbers_image layout (length image) numbers in
          (b.0, b.1, omega arith)

      in_page : i < count layout (length image) 3 → (layout.update_place + page * i + length (page_of image i) - 1) / page ≡ (layout.update_place + page * i) / page
      in_page h =
          let b = few h in
          let u = update_place_range layout.chip_length layout.update_place numbers.starts in
          let q : ℕ = layout.update_place / page in
          let r : layout.update_place ≡ page * q = omega arith in
          omega arith
