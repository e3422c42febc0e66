-- The update area's orders: phase 2 erases each byte of the area once, phase 3 programs each byte of the image once, in its place.
use Prim.Native.Nat.{ℕ, ◌+◌, ◌-◌, ◌*◌, ◌/◌, ◌%◌, ◌<◌, ◌≤◌}
use mathlib.Core.Path.{◌≡◌, sym, ap, ◌∙◌}
use mathlib.Core.List.{List}
use native.Mathlib.Omega.{arith}
use lib.ListN.{length, get_or}
use Rattle.kind.specs.Layout.{page, segment}
use Rattle.kind.specs.Kind.{Kind}
use Rattle.kind.proofs.Laws.{update_length_range}
use Rattle.life.specs.Types.{Layout}
use Rattle.orders.specs.Table.{by_phase, count}
use Rattle.orders.specs.Orders.{erase, program, page_of, order_of}
use Rattle.orders.proofs.Laws.{area_segments, order_at, page_at_law, page_length}
use Rattle.updater.proofs.Laws.{Numbers}
use Rattle.life.specs.OrderList.{order_in, ErasesAt, ProgramsAt, UpdatesArea}

erase_same : {a b c d : ℕ} → erase a b ≡ erase c d → (a ≡ c) × (b ≡ d)
erase_same e = (cc, cc)

program_same : {a c : ℕ} {b d : List ℕ} → program a b ≡ program c d → (a ≡ c) × (b ≡ d)
program_same e = (cc, cc)

module _ (kind : Kind) (layout : Layout) (image : List ℕ) (numbers : Numbers layout (length image)) where
  abbrev segment_at : ℕ → ℕ
  segment_at i = layout.update_place + segment * i

  abbrev page_at : ℕ → ℕ
  page_at i = layout.update_place + page * i

  update_length : (layout.update_length % 4096 ≡ 0) × (4096 ≤ layout.update_length) × (layout.update_place + layout.update_length ≤ layout.chip_length)
  update_length = update_length_range layout.chip_length layout.update_place layout.update_length numbers.spans

  -- the orders of the two phases, in the list
  erase_in : (i : ℕ) → i < count layout (length image) 2 → order_in kind layout image 2 i ≡ erase (segment_at i) segment
  unfolding order_of by_phase
  erase_in i h = order_at kind layout image 2 4 i (erase 0 0) h

  program_in : (i : ℕ) → i < count layout (length image) 3 → order_in kind layout image 3 i ≡ program (page_at i) (page_of image i)
  unfolding order_of by_phase
  program_in i h = order_at kind layout image 3 3 i (erase 0 0) h

  -- PHASE 2. Where the erase of an address begins.
  erased_from : (i address : ℕ) → ErasesAt kind layout image i address → (segment_at i ≤ address) × (address < segment_at i + segment)
  erased_from i address e =
      let s = erase_same (sym (erase_in i e.index) ∙ e.order) in
      let f = e.from in
      let w = e.within in
      let p = s.0 in
      let q = s.1 in
      (omega arith, omega arith)

  erases_at : (address : ℕ) → layout.update_place ≤ address → address < layout.update_place + layout.update_length → ErasesAt kind layout image ((address - layout.update_place) / segment) address
  unfolding count by_phase
  erases_at address a b =
      let l = update_length in
      let h : (address - layout.update_place) / segment < layout.update_length / segment = omega arith in
      record { index = h; place = segment_at ((address - layout.update_place) / segment); size = segment; order = erase_in _ h; from = omega arith; within = omega arith }

  -- PHASE 3. Where the program of an address begins, and its byte.
  programmed_from : (i address byte : ℕ) → ProgramsAt kind layout image i address byte → (page_at i ≤ address) × (address < page_at i + length (page_of image i)) × (get_or (page_of image i) (address - page_at i) 0 ≡ byte)
  programmed_from i address byte e =
      let s = program_same (sym (program_in i e.index) ∙ e.order) in
      let f = e.from in
      let w = e.within in
      let p : page_at i ≡ e.place = s.0 in
      let n : length (page_of image i) ≡ length e.bytes = ap length s.1 in
      (omega arith, omega arith, rw (p, s.1) e.puts)

  programs_at : (j : ℕ) → j < length image → ProgramsAt kind layout image (j / page) (layout.update_place + j) (get_or image j 0)
  unfolding count by_phase
  programs_at j h =
      let k : j / page < (length image + 255) / page = omega arith in
      let n = page_length image (j / page) in
      let d : layout.update_place + j - page_at (j / page) ≡ j - page * (j / page) = omega arith in
      let m : j - page * (j / page) < page = omega arith in
      let back : page * (j / page) + (j - page * (j / page)) ≡ j = omega arith in
      record {
        index = k;
        place = page_at (j / page);
        bytes = page_of image (j / page);
        order = program_in _ k;
        from = omega arith;
        within = omega arith;
        puts = ap (λ (x : ℕ). get_or (page_of image (j / page)) x 0) d ∙ page_at_law image (j / page) (j - page * (j / page)) 0 m ∙ ap (λ (x : ℕ). get_or image x 0) back;
      }

  pub updates_area : UpdatesArea kind layout image
  updates_area = record {
    erases = λ i h. (segment_at i, segment, erase_in i h);
    programs = λ i h. (page_at i, page_of image i, program_in i h);
    erased_once = λ address a b. ((address - layout.update_place) / segment, erases_at address a b, λ k e. let f = erased_from k address e in omega arith);
    erased_only = λ i address e. let f = erased_from i address e in let s = area_segments layout (length image) i e.index in (omega arith, omega arith);
    programmed_once = λ j h. (j / page, programs_at j h, λ k byte e. let f = programmed_from k (layout.update_place + j) byte e in let n = page_length image k in omega arith);
    programmed_only = λ i address byte e.
        let f = programmed_from i address byte e in
        let n = page_length image i in
        let m : address - page_at i < page = omega arith in
        let back : page * i + (address - page_at i) ≡ address - layout.update_place = omega arith in
        (omega arith, omega arith, sym f.2 ∙ page_at_law image i (address - page_at i) 0 m ∙ ap (λ (x : ℕ). get_or image x 0) back);
  }
