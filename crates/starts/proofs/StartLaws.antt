-- What a start that is accepted says, and that starts and totals go by the answers to the layout and to the image.
use Prim.Native.Nat.{ℕ, ◌≤◌}
use mathlib.Core.Path.{◌≡◌, refl, sym, ap, ◌∙◌}
use mathlib.Core.List.{List}
use native.Mathlib.Omega.{arith}
use lib.ListN.{length}
use Rattle.std.specs.Prelude.{Result, Ok, Err}
use Rattle.base.specs.Refusal.{refused}
use Rattle.base.specs.Question.{ask}
use Rattle.bootreader.specs.Image.{alone_case, image_within}
use Rattle.kind.specs.Layout.{longest_chip, layout_answer, numbers_answer, ask_layout, ask_numbers}
use Rattle.starts.specs.Types.{Reason, ImageFault, ImageJumps, Outcome, Loaded, OutcomeIprog, Stuck, Accepted, Refusal, Layout, State}
use Rattle.base.proofs.Laws.{asked}
use Rattle.bootreader.proofs.Laws.{on_answer, by_answer}
use Rattle.kind.specs.Spi.{spi}
use Rattle.kind.specs.Kind.{Kind}
use Rattle.chip.specs.Chip.{LoadsAlone, Lawful}
use Rattle.kind.proofs.Laws.{chip_length_range, update_length_range, image_length_range, on_layout, by_layout, by_numbers, allowed_asks, numbers_asked}
use Rattle.orders.specs.Table.{total}
use Rattle.updater.specs.State.{first}
use Rattle.starts.specs.Starts.{total_answer, ask_run, start_answer}
use Rattle.updater.proofs.Laws.{Numbers}

-- A start that is accepted: questions 1 to 5, and the first state.
pub record Opened (kind : Kind) (layout : Layout) (image : List ℕ) (state : State) : Type 0 where
  pub numbers : Numbers layout (length image)
  pub alone : LoadsAlone kind image
  pub begins : state ≡ first layout (length image)

pub opened : (kind : Kind) → Lawful kind → (layout : Layout) (image : List ℕ) (state : State) → start_answer kind layout image ≡ Ok state → Opened kind layout image state
unfolding start_answer ask_run ask_layout alone_case
opened kind lawful layout image state e =
    let a = asked _ _ _ _ e (refused_started _ 0) in
    let b = asked _ _ _ _ a.1 (refused_started _ 0) in
    let c = asked _ _ _ _ b.1 (refused_started _ 0) in
    let d = asked _ _ _ _ c.1 (refused_started _ 0) in
    go (record { long = a.0; starts = b.0; spans = c.0; image = d.0 }) (kind.alone image) refl d.1
  where
    refused_started : (reason : Reason) (place : ℕ) → ◌≡◌ {A = Result State Refusal} (refused reason place) (Ok state) → ⊥
    refused_started reason place q = let z : ◌≡◌ {A = ℕ} 0 1 = cc in omega arith

    go : Numbers layout (length image) → (o : Outcome) → kind.alone image ≡ o → ◌≡◌ {A = Result State Refusal} (alone_case refused (λ sync end writes. Ok (first layout (length image))) o) (Ok state) → Opened kind layout image state
    go numbers (Loaded sync end writes jumped) r q = record {
      numbers = numbers;
      alone = record { sync = sync; end = end; writes = writes; reading = r ∙ ap (Loaded sync end writes) (lawful.alone_stays image sync end writes jumped r) };
      begins = cc;
    }
    go numbers (OutcomeIprog place) r q = absurd (refused_started ImageJumps place q)
    go numbers (Stuck place) r q = absurd (refused_started ImageFault place q)

-- A start whose questions all have a yes is accepted.
pub starts : (kind : Kind) (layout : Layout) (image : List ℕ) → Numbers layout (length image) → LoadsAlone kind image → start_answer kind layout image ≡ Ok (first layout (length image))
unfolding start_answer ask_run ask_layout alone_case ask
starts kind layout image numbers alone = rw (numbers.long, numbers.starts, numbers.spans, numbers.image, alone.reading) refl

-- A start goes by the answers to the layout and to the image:
start_by : (layout : Layout) (image : List ℕ) (l : Result (Unit {0}) Refusal) (a : Result Accepted Refusal) → layout_answer layout ≡ l → image_within spi layout.update_length image ≡ a →
    on_layout refused (on_answer refused (λ sync end writes. Ok (first layout (length image))) a) l ≡ start_answer spi layout image
unfolding start_answer ask_run
start_by layout image l a p q =
    rw (sym p, sym q) (ap (λ (rest : Result State Refusal). on_layout refused rest (layout_answer layout)) (by_answer refused (λ sync end writes. Ok (first layout (length image))) layout.update_length image) ∙ by_layout refused _ layout)

-- refused by the first, refused by the second, or accepted.
pub start_layout : (layout : Layout) (image : List ℕ) (r : Refusal) → layout_answer layout ≡ Err r → Err r ≡ start_answer spi layout image
unfolding on_layout
start_layout layout image r p = start_by layout image _ _ p refl

pub start_image : (layout : Layout) (image : List ℕ) (u : Unit {0}) (r : Refusal) → layout_answer layout ≡ Ok u → image_within spi layout.update_length image ≡ Err r → Err r ≡ start_answer spi layout image
unfolding on_layout on_answer
start_image layout image u r p q = start_by layout image _ _ p q

pub start_accepted : (layout : Layout) (image : List ℕ) (u : Unit {0}) (a : Accepted) → layout_answer layout ≡ Ok u → image_within spi layout.update_length image ≡ Ok a → Ok (first layout (length image)) ≡ start_answer spi layout image
unfolding on_layout on_answer
start_accepted layout image u a p q = start_by layout image _ _ p q

-- So does a total by the answer to the numbers,
total_by : (layout : Layout) (n : ℕ) (l : Result (Unit {0}) Refusal) → numbers_answer layout n ≡ l → on_layout refused (Ok (total layout n)) l ≡ total_answer layout n
unfolding total_answer ask_numbers
total_by layout n l p = by_numbers refused (Ok (total layout n)) layout n l p

pub total_refused : (layout : Layout) (n : ℕ) (r : Refusal) → numbers_answer layout n ≡ Err r → Err r ≡ total_answer layout n
unfolding on_layout
total_refused layout n r p = total_by layout n _ p

pub total_allowed : (layout : Layout) (n : ℕ) (u : Unit {0}) → numbers_answer layout n ≡ Ok u → Ok (total layout n) ≡ total_answer layout n
unfolding on_layout
total_allowed layout n u p = total_by layout n _ p

-- and numbers that are allowed are small enough to count with.
pub total_small : (layout : Layout) (n : ℕ) (u : Unit {0}) → numbers_answer layout n ≡ Ok u → (layout.update_length ≤ longest_chip) × (n ≤ longest_chip)
total_small layout n u p =
    let asks = numbers_asked layout n p in
    let l = allowed_asks layout asks.0 in
    let f = chip_length_range layout.chip_length l.0 in
    let a = update_length_range layout.chip_length layout.update_place layout.update_length l.2 in
    let i = image_length_range layout.update_length n asks.1 in
    (omega arith, omega arith)
