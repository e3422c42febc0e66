-- Laws of a layout: what questions 1 to 4 say of its numbers, whoever asks them.
use Prim.Native.Nat.{ℕ, ◌+◌, ◌%◌, ◌<◌, ◌≤◌}
use mathlib.Core.Path.{◌≡◌, refl, sym, ap, ◌∙◌}
use mathlib.Core.Bool.{Bool, true, false}
use native.Mathlib.Omega.{arith}
use borrow.Author.Tests.{eqb-true, leb-true, ltb-true}
use Rattle.base.proofs.Laws.{asked, false_true}
use Rattle.std.specs.Prelude.{Result, Ok, Err}
use Rattle.base.specs.Question.{ask}
use Rattle.base.specs.Refusal.{refused}
use Rattle.kind.specs.Layout.{chip_length_allowed, update_place_allowed, update_length_allowed, image_length_allowed, ask_layout, ask_numbers, layout_answer, numbers_answer}
use Rattle.kind.specs.Types.{Reason, BadChipLength, BadUpdatePlace, BadUpdateLength, BadImageLength, Refusal, Layout}

-- what question 1 says of a length, and question 4 of an image's
pub chip_length_range : (n : ℕ) → chip_length_allowed n ≡ true → (16384 ≤ n) × (n ≤ 16777216) × (n % 4096 ≡ 0)
unfolding chip_length_allowed
chip_length_range n e =
    let a = asked _ _ _ _ e false_true in
    let b = asked _ _ _ _ a.1 false_true in
    (leb-true _ _ a.0, leb-true _ _ b.0, eqb-true _ _ b.1)

pub image_length_range : (longest n : ℕ) → image_length_allowed longest n ≡ true → (1 ≤ n) × (n ≤ longest)
unfolding image_length_allowed
image_length_range longest n e = let a = asked _ _ _ _ e false_true in (leb-true _ _ a.0, leb-true _ _ a.1)

pub update_place_range : (length update_place : ℕ) → update_place_allowed length update_place ≡ true → (update_place % 4096 ≡ 0) × (12288 ≤ update_place) × (update_place < length)
unfolding update_place_allowed
update_place_range length update_place e =
    let a = asked _ _ _ _ e false_true in
    let b = asked _ _ _ _ a.1 false_true in
    (eqb-true _ _ a.0, leb-true _ _ b.0, ltb-true _ _ b.1)

pub update_length_range : (length update_place update_length : ℕ) → update_length_allowed length update_place update_length ≡ true → (update_length % 4096 ≡ 0) × (4096 ≤ update_length) × (update_place + update_length ≤ length)
unfolding update_length_allowed
update_length_range length update_place update_length e =
    let a = asked _ _ _ _ e false_true in
    let b = asked _ _ _ _ a.1 false_true in
    (eqb-true _ _ a.0, leb-true _ _ b.0, leb-true _ _ b.1)

abbrev Checked : Type 0
Checked = Result (Unit {0}) Refusal

abbrev yes : Checked
yes = Ok tt

abbrev no : Reason → ℕ → Checked
no = refused

-- what a layout's answer comes to for one who asks more
unfoldable pub on_layout {ℓ} : {A : Type ℓ} → (Reason → ℕ → A) → A → Checked → A
on_layout refused rest (Ok allowed) = rest
on_layout refused rest (Err r) = refused r.reason r.place

-- Whatever is asked of a layout goes by its answer.
pub by_layout {ℓ} : {A : Type ℓ} (refused : Reason → ℕ → A) (rest : A) (layout : Layout) → on_layout refused rest (layout_answer layout) ≡ ask_layout refused layout rest
unfolding layout_answer ask_layout on_layout ask
by_layout refused rest layout = go (chip_length_allowed layout.chip_length) (update_place_allowed layout.chip_length layout.update_place) (update_length_allowed layout.chip_length layout.update_place layout.update_length)
  where
    go : (a b c : Bool) → on_layout refused rest (ask a (no BadChipLength 0) (ask b (no BadUpdatePlace 0) (ask c (no BadUpdateLength 0) yes))) ≡ ask a (refused BadChipLength 0) (ask b (refused BadUpdatePlace 0) (ask c (refused BadUpdateLength 0) rest))
    go true true true = refl
    go true true false = refl
    go true false c = refl
    go false b c = refl

-- An allowed layout had a yes to each question.
pub allowed_asks : (layout : Layout) → layout_answer layout ≡ yes →
    (chip_length_allowed layout.chip_length ≡ true) × (update_place_allowed layout.chip_length layout.update_place ≡ true) × (update_length_allowed layout.chip_length layout.update_place layout.update_length ≡ true)
unfolding layout_answer ask_layout
allowed_asks layout e =
    let a = asked _ _ _ _ e (refused_allowed BadChipLength) in
    let b = asked _ _ _ _ a.1 (refused_allowed BadUpdatePlace) in
    let c = asked _ _ _ _ b.1 (refused_allowed BadUpdateLength) in
    (a.0, b.0, c.0)
  where
    refused_allowed : (reason : Reason) → no reason 0 ≡ yes → ⊥
    refused_allowed reason q = let z : ◌≡◌ {A = ℕ} 0 1 = cc in omega arith

-- Questions 1 to 4 go by the answer to 1 to 3,
pub numbers_by_layout : (layout : Layout) (n : ℕ) (answer : Checked) → layout_answer layout ≡ answer → on_layout no (ask (image_length_allowed layout.update_length n) (no BadImageLength 0) yes) answer ≡ numbers_answer layout n
unfolding numbers_answer ask_numbers
numbers_by_layout layout n answer e = rw (sym e) (by_layout no _ layout)

-- and whatever is asked after them goes by theirs.
pub by_numbers {ℓ} : {A : Type ℓ} (refused : Reason → ℕ → A) (rest : A) (layout : Layout) (n : ℕ) (answer : Checked) → numbers_answer layout n ≡ answer → on_layout refused rest answer ≡ ask_numbers refused layout n rest
unfolding numbers_answer ask_numbers on_layout ask
by_numbers {A = A} refused rest layout n answer e =
    ap (on_layout refused rest) (sym e)
    ∙ ap (on_layout refused rest) (sym (by_layout no _ layout))
    ∙ go (layout_answer layout) (image_length_allowed layout.update_length n)
    ∙ by_layout refused _ layout
  where
    go : (l : Checked) (b : Bool) → on_layout refused rest (on_layout no (ask b (no BadImageLength 0) yes) l) ≡ on_layout refused (ask b (refused BadImageLength 0) rest) l
    go (Ok allowed) true = refl
    go (Ok allowed) false = refl
    go (Err r) b = refl

-- Numbers that are allowed had a yes to each question.
pub numbers_asked : (layout : Layout) (n : ℕ) → numbers_answer layout n ≡ yes → (layout_answer layout ≡ yes) × (image_length_allowed layout.update_length n ≡ true)
unfolding on_layout ask
numbers_asked layout n e = go (layout_answer layout) (image_length_allowed layout.update_length n) refl refl (numbers_by_layout layout n (layout_answer layout) refl ∙ e)
  where
    go : (l : Checked) (b : Bool) → layout_answer layout ≡ l → image_length_allowed layout.update_length n ≡ b → on_layout no (ask b (no BadImageLength 0) yes) l ≡ yes → (layout_answer layout ≡ yes) × (image_length_allowed layout.update_length n ≡ true)
    go (Ok allowed) true p q h = (p, q)
    go (Ok allowed) false p q h = let z : ◌≡◌ {A = ℕ} 0 1 = cc in absurd (omega arith)
    go (Err r) b p q h = let z : ◌≡◌ {A = ℕ} 0 1 = cc in absurd (omega arith)
