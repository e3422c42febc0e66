-- Laws of the record that a line's pairs make.
use Prim.Native.Nat.{ℕ, ◌+◌, ◌*◌, ◌≤◌}
use mathlib.Core.Path.{◌≡◌, refl, sym, ap, ap₂, ◌∙◌}
use mathlib.Core.List.{List}
use native.Mathlib.Omega.{arith}
use borrow.Author.Tests.{eqb-true, eqb-false, eq-eqb, ne_eqb, le-leb, lt-leb}
use mathlib.Core.Bool.{Bool, true, false}
use lib.Dec.{eqb, leb}
use lib.ListN.{length, take, drop}
use Rattle.base.specs.Question.{ask}
use Rattle.digits.specs.Pairs.{pair_at, two_pairs_at, pairs_at}
use Rattle.digits.proofs.Laws.{length_pairs, get_or_pairs, drop_pairs, take_pairs}
use Rattle.mcsline.specs.Record.{Data, ExtendedLinearAddress, End}
use Rattle.mcsline.specs.Line.{count_of, two_at, address_of, type_of, by_type, Parsed, typed}
use Rattle.mcsline.specs.Place.{as_line}
use Rattle.mcsline.specs.Types.{Reason, BadRecord, CodeLine, DataLine, ExtendedLinearAddressLine, EndLine}
use Rattle.std.specs.Prelude.{Result, Ok, Err}

-- What record pairs make, case by case.
module _ {A : Type 0} (d e u o : A) where
  by_data : by_type 0 d e u o ≡ d
  unfolding by_type
  by_data = refl

  by_end : by_type 1 d e u o ≡ e
  unfolding by_type
  by_end = refl

  by_upper : by_type 4 d e u o ≡ u
  unfolding by_type
  by_upper = refl

  by_other : (t : ℕ) → (t ≡ 0 → ⊥) → (t ≡ 1 → ⊥) → (t ≡ 4 → ⊥) → by_type t d e u o ≡ o
  unfolding by_type
  by_other t f g h = rw (ne_eqb t 0 f, ne_eqb t 1 g, ne_eqb t 4 h, by_type)

module _ (pairs : List ℕ) where
  typed_empty : type_of pairs ≡ 0 → count_of pairs ≡ 0 → typed pairs ≡ Err BadRecord
  unfolding typed ask
  typed_empty t n = rw t (by_data _ _ _ _ ∙ rw (lt-leb 1 (count_of pairs) (omega arith)) refl)

  pub typed_data : type_of pairs ≡ 0 → (count_of pairs ≡ 0 → ⊥) → typed pairs ≡ Ok (Data (address_of pairs) (take (count_of pairs) (drop 4 pairs)))
  unfolding typed ask
  typed_data t n = rw t (by_data _ _ _ _ ∙ rw (le-leb 1 (count_of pairs) (omega arith)) refl)

  typed_end_count : type_of pairs ≡ 1 → (count_of pairs ≡ 0 → ⊥) → typed pairs ≡ Err BadRecord
  unfolding typed ask
  typed_end_count t n = rw t (by_end _ _ _ _ ∙ rw (ne_eqb _ _ n) refl)

  typed_end_address : type_of pairs ≡ 1 → count_of pairs ≡ 0 → (address_of pairs ≡ 0 → ⊥) → typed pairs ≡ Err BadRecord
  unfolding typed ask
  typed_end_address t n a = rw t (by_end _ _ _ _ ∙ rw (eq-eqb _ _ n, ne_eqb _ _ a) refl)

  pub typed_end : type_of pairs ≡ 1 → count_of pairs ≡ 0 → address_of pairs ≡ 0 → typed pairs ≡ Ok End
  unfolding typed ask
  typed_end t n a = rw t (by_end _ _ _ _ ∙ rw (eq-eqb _ _ n, eq-eqb _ _ a) refl)

  typed_other : (type_of pairs ≡ 0 → ⊥) → (type_of pairs ≡ 1 → ⊥) → (type_of pairs ≡ 4 → ⊥) → typed pairs ≡ Err BadRecord
  unfolding typed
  typed_other f g h = by_other _ _ _ _ (type_of pairs) f g h

  typed_upper_count : type_of pairs ≡ 4 → (count_of pairs ≡ 2 → ⊥) → typed pairs ≡ Err BadRecord
  unfolding typed ask
  typed_upper_count t n = rw t (by_upper _ _ _ _ ∙ rw (ne_eqb _ _ n) refl)

  typed_upper_address : type_of pairs ≡ 4 → count_of pairs ≡ 2 → (address_of pairs ≡ 0 → ⊥) → typed pairs ≡ Err BadRecord
  unfolding typed ask
  typed_upper_address t n a = rw t (by_upper _ _ _ _ ∙ rw (eq-eqb _ _ n, ne_eqb _ _ a) refl)

  pub typed_upper : type_of pairs ≡ 4 → count_of pairs ≡ 2 → address_of pairs ≡ 0 → typed pairs ≡ Ok (ExtendedLinearAddress (two_at pairs 4))
  unfolding typed ask
  typed_upper t n a = rw t (by_upper _ _ _ _ ∙ rw (eq-eqb _ _ n, eq-eqb _ _ a) refl)

-- Whatever pairs make, it is by one of these.
pub data Typing (pairs : List ℕ) : Type 0 where
  as_data : type_of pairs ≡ 0 → (count_of pairs ≡ 0 → ⊥) → typed pairs ≡ Ok (Data (address_of pairs) (take (count_of pairs) (drop 4 pairs))) → Typing pairs
  as_end : type_of pairs ≡ 1 → count_of pairs ≡ 0 → address_of pairs ≡ 0 → typed pairs ≡ Ok End → Typing pairs
  as_upper : type_of pairs ≡ 4 → count_of pairs ≡ 2 → address_of pairs ≡ 0 → typed pairs ≡ Ok (ExtendedLinearAddress (two_at pairs 4)) → Typing pairs
  as_none : typed pairs ≡ Err BadRecord → Typing pairs

pub typing : (pairs : List ℕ) → Typing pairs
typing pairs = go (eqb (type_of pairs) 0) (eqb (type_of pairs) 1) (eqb (type_of pairs) 4) refl refl refl
  where
    data' : (b : Bool) → eqb (count_of pairs) 0 ≡ b → type_of pairs ≡ 0 → Typing pairs
    data' true n t = as_none (typed_empty pairs t (eqb-true _ _ n))
    data' false n t = as_data t (eqb-false _ _ n) (typed_data pairs t (eqb-false _ _ n))

    end : (p q : Bool) → eqb (count_of pairs) 0 ≡ p → eqb (address_of pairs) 0 ≡ q → type_of pairs ≡ 1 → Typing pairs
    end false q n a t = as_none (typed_end_count pairs t (eqb-false _ _ n))
    end true false n a t = as_none (typed_end_address pairs t (eqb-true _ _ n) (eqb-false _ _ a))
    end true true n a t = as_end t (eqb-true _ _ n) (eqb-true _ _ a) (typed_end pairs t (eqb-true _ _ n) (eqb-true _ _ a))

    upper : (p q : Bool) → eqb (count_of pairs) 2 ≡ p → eqb (address_of pairs) 0 ≡ q → type_of pairs ≡ 4 → Typing pairs
    upper false q n a t = as_none (typed_upper_count pairs t (eqb-false _ _ n))
    upper true false n a t = as_none (typed_upper_address pairs t (eqb-true _ _ n) (eqb-false _ _ a))
    upper true true n a t = as_upper t (eqb-true _ _ n) (eqb-true _ _ a) (typed_upper pairs t (eqb-true _ _ n) (eqb-true _ _ a))

    go : (p q r : Bool) → eqb (type_of pairs) 0 ≡ p → eqb (type_of pairs) 1 ≡ q → eqb (type_of pairs) 4 ≡ r → Typing pairs
    go true q r t u v = data' (eqb (count_of pairs) 0) refl (eqb-true _ _ t)
    go false true r t u v = end (eqb (count_of pairs) 0) (eqb (address_of pairs) 0) refl refl (eqb-true _ _ u)
    go false false true t u v = upper (eqb (count_of pairs) 2) (eqb (address_of pairs) 0) refl refl (eqb-true _ _ v)
    go false false false t u v = as_none (typed_other pairs (eqb-false _ _ t) (eqb-false _ _ u) (eqb-false _ _ v))

-- The pairs of a line of `count` data bytes at a place.
module _ (text : List ℕ) (at count : ℕ) where
  abbrev pub line_pairs : List ℕ
  line_pairs = pairs_at text (at + 1) (count + 5)

  pub count_is : count_of line_pairs ≡ pair_at text (at + 1)
  count_is = let e : at + 1 + 2 * 0 ≡ at + 1 = omega arith in get_or_pairs text 0 (count + 5) (at + 1) (omega arith) ∙ rw e refl

  type_is : type_of line_pairs ≡ pair_at text (at + 7)
  type_is = let e : at + 1 + 2 * 3 ≡ at + 7 = omega arith in get_or_pairs text 3 (count + 5) (at + 1) (omega arith) ∙ rw e refl

  address_is : address_of line_pairs ≡ two_pairs_at text (at + 3)
  address_is =
      let e : at + 1 + 2 * 1 ≡ at + 3 = omega arith in
      let f : at + 1 + 2 * 2 ≡ at + 3 + 2 = omega arith in
      ap₂ (λ (a b : ℕ). a * 256 + b) (get_or_pairs text 1 (count + 5) (at + 1) (omega arith) ∙ rw e refl) (get_or_pairs text 2 (count + 5) (at + 1) (omega arith) ∙ rw f refl)

  half_is : 2 ≤ count → two_at line_pairs 4 ≡ two_pairs_at text (at + 9)
  half_is h =
      let e : at + 1 + 2 * 4 ≡ at + 9 = omega arith in
      let f : at + 1 + 2 * 5 ≡ at + 9 + 2 = omega arith in
      ap₂ (λ (a b : ℕ). a * 256 + b) (get_or_pairs text 4 (count + 5) (at + 1) (omega arith) ∙ rw e refl) (get_or_pairs text 5 (count + 5) (at + 1) (omega arith) ∙ rw f refl)

  pub data_is : take count (drop 4 line_pairs) ≡ pairs_at text (at + 9) count
  data_is =
      let e : count + 5 ≡ 4 + (count + 1) = omega arith in
      let f : at + 1 + 2 * 4 ≡ at + 9 = omega arith in
      rw e (ap (λ (l : List ℕ). take count l) (drop_pairs text 4 (count + 1) (at + 1)) ∙ rw f (take_pairs text count 1 (at + 9)))

  long_is : count ≡ pair_at text (at + 1) → length (take (count_of line_pairs) (drop 4 line_pairs)) ≡ count
  long_is h = rw (count_is ∙ sym h) (ap (λ (l : List ℕ). length l) data_is ∙ length_pairs text count (at + 9))

-- The same in the code's form, by the line's type.

asked_line : (b : Bool) (p : Parsed) (end : ℕ) → as_line (ask b (Err BadRecord) p) end ≡ ask b (Err BadRecord) (as_line p end)
unfolding as_line ask
asked_line true p end = refl
asked_line false p end = refl

module _ (pairs : List ℕ) (end : ℕ) where
  as_data_line : type_of pairs ≡ 0 → as_line (typed pairs) end ≡ ask (leb 1 (count_of pairs)) (Err BadRecord) (Ok (DataLine (address_of pairs) (length (take (count_of pairs) (drop 4 pairs))) end))
  unfolding typed as_line
  as_data_line t = rw t (ap (λ (p : Parsed). as_line p end) (by_data _ _ _ _) ∙ asked_line (leb 1 (count_of pairs)) _ end)

  as_end_line : type_of pairs ≡ 1 → as_line (typed pairs) end ≡ ask (eqb (count_of pairs) 0) (Err BadRecord) (ask (eqb (address_of pairs) 0) (Err BadRecord) (Ok (EndLine end)))
  unfolding typed as_line
  as_end_line t =
      rw t
      (ap (λ (p : Parsed). as_line p end) (by_end _ _ _ _)
      ∙ asked_line (eqb (count_of pairs) 0) _ end
      ∙ ap (λ (l : Result CodeLine Reason). ask (eqb (count_of pairs) 0) (Err BadRecord) l) (asked_line (eqb (address_of pairs) 0) _ end))

  as_extended_address_line : type_of pairs ≡ 4 → as_line (typed pairs) end ≡ ask (eqb (count_of pairs) 2) (Err BadRecord) (ask (eqb (address_of pairs) 0) (Err BadRecord) (Ok (ExtendedLinearAddressLine (two_at pairs 4) end)))
  unfolding typed as_line
  as_extended_address_line t =
      rw t
      (ap (λ (p : Parsed). as_line p end) (by_upper _ _ _ _)
      ∙ asked_line (eqb (count_of pairs) 2) _ end
      ∙ ap (λ (l : Result CodeLine Reason). ask (eqb (count_of pairs) 2) (Err BadRecord) l) (asked_line (eqb (address_of pairs) 0) _ end))

module _ (text : List ℕ) (at count end : ℕ) (counted : count ≡ pair_at text (at + 1)) where
  pub data_typed : pair_at text (at + 7) ≡ 0 → as_line (typed (line_pairs text at count)) end ≡ ask (leb 1 count) (Err BadRecord) (Ok (DataLine (two_pairs_at text (at + 3)) count end))
  data_typed k =
      as_data_line (line_pairs text at count) end (type_is text at count ∙ k)
      ∙ rw (long_is text at count counted, address_is text at count, count_is text at count ∙ sym counted) refl

  pub end_typed : pair_at text (at + 7) ≡ 1 → as_line (typed (line_pairs text at count)) end ≡ ask (eqb count 0) (Err BadRecord) (ask (eqb (two_pairs_at text (at + 3)) 0) (Err BadRecord) (Ok (EndLine end)))
  end_typed k =
      as_end_line (line_pairs text at count) end (type_is text at count ∙ k)
      ∙ rw (address_is text at count, count_is text at count ∙ sym counted) refl

  pub extended_typed : pair_at text (at + 7) ≡ 4 → as_line (typed (line_pairs text at count)) end ≡ ask (eqb count 2) (Err BadRecord) (ask (eqb (two_pairs_at text (at + 3)) 0) (Err BadRecord) (Ok (ExtendedLinearAddressLine (two_pairs_at text (at + 9)) end)))
  unfolding ask
  extended_typed k =
      as_extended_address_line (line_pairs text at count) end (type_is text at count ∙ k)
      ∙ rw (address_is text at count, count_is text at count ∙ sym counted) (go (eqb count 2) refl)
    where
      go : (b : Bool) → eqb count 2 ≡ b → ask b (Err BadRecord) (ask (eqb (two_pairs_at text (at + 3)) 0) (Err BadRecord) (Ok (ExtendedLinearAddressLine (two_at (line_pairs text at count) 4) end))) ≡ ask b (Err BadRecord) (ask (eqb (two_pairs_at text (at + 3)) 0) (Err BadRecord) (Ok (ExtendedLinearAddressLine (two_pairs_at text (at + 9)) end)))
      go true h = rw (half_is text at count (let e : count ≡ 2 = eqb-true _ _ h in omega arith)) refl
      go false h = refl

  pub other_typed : (pair_at text (at + 7) ≡ 0 → ⊥) → (pair_at text (at + 7) ≡ 1 → ⊥) → (pair_at text (at + 7) ≡ 4 → ⊥) → as_line (typed (line_pairs text at count)) end ≡ Err BadRecord
  unfolding as_line
  other_typed f g h =
      let t : type_of (line_pairs text at count) ≡ pair_at text (at + 7) = type_is text at count in
      ap (λ (p : Parsed). as_line p end) (typed_other (line_pairs text at count) (λ z. f (sym t ∙ z)) (λ z. g (sym t ∙ z)) (λ z. h (sym t ∙ z)))

-- what `line::typed_line` goes by
pub ruleset typings = (data_typed, end_typed, extended_typed, other_typed)
