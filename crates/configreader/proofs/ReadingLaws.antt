-- Laws of a reading from sync to sync.
use Prim.Native.Nat.{ℕ, zero, suc, ◌+◌, ◌-◌, ◌<◌, ◌≤◌}
use mathlib.Core.Path.{◌≡◌, refl, sym, ap, ◌∙◌}
use mathlib.Core.Bool.{Bool, true, false}
use mathlib.Core.List.{List}
use native.Mathlib.Nat.{le_of_lt}
use native.Mathlib.Omega.{arith}
use borrow.Author.Tests.{lt-ltb, le-ltb, ltb-true}
use lib.Dec.{ltb}
use lib.ListN.{length, drop, length-drop}
use Rattle.std.proofs.Common.{Option, Some, None}
use Rattle.framing.specs.Search.{find}
use Rattle.packets.specs.Trace.{finish_from}
use Rattle.configreader.specs.Configreader.{read_at, search_from, jump, read_from}
use Rattle.configreader.specs.Types.{Finish, FinishEnded, FinishIprog, FinishFault, FinishShort, Outcome, Loaded, OutcomeIprog, Stuck}
use Rattle.framing.proofs.Laws.{find_within}
use Rattle.configreader.proofs.PlacementLaws.{looked_to, looked_within}

-- Each way that a reading goes, one law.

module _ (on_jump : ℕ → ℕ → Outcome) (jumped : Bool) (s : List ℕ) (sync : ℕ) where
  pub read_ended : (end writes : ℕ) → finish_from s (sync + 4) ≡ FinishEnded end writes → read_at on_jump jumped s sync ≡ Loaded sync end writes jumped
  unfolding read_at
  read_ended end writes e = rw (e, read_at)

  pub read_jump : (place to : ℕ) → finish_from s (sync + 4) ≡ FinishIprog place to → read_at on_jump jumped s sync ≡ on_jump place to
  unfolding read_at
  read_jump place to e = rw (e, read_at)

  pub read_fault : (place : ℕ) → finish_from s (sync + 4) ≡ FinishFault place → read_at on_jump jumped s sync ≡ Stuck place
  unfolding read_at
  read_fault place e = rw (e, read_at)

  pub read_short : finish_from s (sync + 4) ≡ FinishShort → read_at on_jump jumped s sync ≡ Stuck (length s)
  unfolding read_at
  read_short e = rw (e, read_at)

module _ (on_jump : ℕ → ℕ → Outcome) (jumped : Bool) (s : List ℕ) (from : ℕ) where
  pub search_found : (sync : ℕ) → find (drop from s) from ≡ Some sync → search_from on_jump jumped s from ≡ read_at on_jump jumped s sync
  unfolding search_from
  search_found sync e = rw (e, search_from)

  pub search_none : find (drop from s) from ≡ None → search_from on_jump jumped s from ≡ Stuck (length s)
  unfolding search_from
  search_none e = rw (e, search_from)

-- A sync word that is found stands whole in the bytes.
pub sync_inside : (s : List ℕ) (from sync : ℕ) → from ≤ length s → find (drop from s) from ≡ Some sync → sync + 4 ≤ length s
sync_inside s from sync l e = let w = find_within (drop from s) from sync e in omega (arith, length-drop from s)

far_by : (left : ℕ) (s : List ℕ) (place to : ℕ) → (left ≡ 0 → ⊥) → ltb to (length s) ≡ false → jump left s place to ≡ Stuck place
unfolding jump
far_by zero s place to h e = absurd (h refl)
far_by (suc left) s place to h e = rw (e, jump)

on_by : (left : ℕ) (s : List ℕ) (place to : ℕ) → (left ≡ 0 → ⊥) → ltb to (length s) ≡ true → jump left s place to ≡ read_from (left - 1) true s to
unfolding jump
on_by zero s place to h e = absurd (h refl)
on_by (suc left) s place to h e = let k : left ≡ suc left - 1 = omega arith in rw (e, jump) (ap (λ (n : ℕ). read_from n true s to) k)

module _ (left : ℕ) (s : List ℕ) (place to : ℕ) where
  pub jump_none : left ≡ 0 → jump left s place to ≡ OutcomeIprog place
  unfolding jump
  jump_none e = rw e refl

  pub jump_far : (left ≡ 0 → ⊥) → length s ≤ to → jump left s place to ≡ Stuck place
  jump_far h l = far_by left s place to h (le-ltb to (length s) l)

  pub jump_on : (left ≡ 0 → ⊥) → to < length s → jump left s place to ≡ read_from (left - 1) true s to
  jump_on h l = on_by left s place to h (lt-ltb to (length s) l)

-- What an outcome says of the bytes: of Loaded, its sync stands whole in them, and the packets after it end as it says; of a fault, it lies within them or at their end.
unfoldable pub Proper : List ℕ → Outcome → Type 0
Proper s (Loaded sync end writes jumped) = (sync + 4 ≤ length s) × (finish_from s (sync + 4) ≡ FinishEnded end writes)
Proper s (OutcomeIprog place) = place ≤ length s
Proper s (Stuck place) = place ≤ length s

proper_at : (on_jump : ℕ → ℕ → Outcome) (jumped : Bool) (s : List ℕ) (sync : ℕ) → ((place to : ℕ) → place ≤ length s → Proper s (on_jump place to)) → sync + 4 ≤ length s → Proper s (read_at on_jump jumped s sync)
unfolding Proper looked_to
proper_at on_jump jumped s sync h l = go (finish_from s (sync + 4)) refl
  where
    go : (f : Finish) → finish_from s (sync + 4) ≡ f → Proper s (read_at on_jump jumped s sync)
    go (FinishEnded end writes) e = rw (read_ended on_jump jumped s sync end writes e) (l, e)
    go (FinishIprog place to) e =
        let w : place + 4 ≤ length s = looked_within s (sync + 4) (FinishIprog place to) l e (λ q. cc) in
        rw (read_jump on_jump jumped s sync place to e) (h place to (omega arith))
    go (FinishFault place) e =
        let w : place + 4 ≤ length s = looked_within s (sync + 4) (FinishFault place) l e (λ q. cc) in
        rw (read_fault on_jump jumped s sync place e) (omega arith)
    go FinishShort e = rw (read_short on_jump jumped s sync e) (omega arith)

proper_search : (on_jump : ℕ → ℕ → Outcome) (jumped : Bool) (s : List ℕ) (from : ℕ) → ((place to : ℕ) → place ≤ length s → Proper s (on_jump place to)) → from ≤ length s → Proper s (search_from on_jump jumped s from)
unfolding Proper
proper_search on_jump jumped s from h l = go (find (drop from s) from) refl
  where
    go : (f : Option ℕ) → find (drop from s) from ≡ f → Proper s (search_from on_jump jumped s from)
    go (Some sync) e = rw (search_found on_jump jumped s from sync e) (proper_at on_jump jumped s sync h (sync_inside s from sync l e))
    go None e = rw (search_none on_jump jumped s from e) (omega arith)

proper_jump : (left : ℕ) (s : List ℕ) (place to : ℕ) → place ≤ length s → Proper s (jump left s place to)
unfolding Proper jump
proper_jump zero s place to within = within
proper_jump (suc left) s place to within = go (ltb to (length s)) refl (proper_jump left s)
  where
    go : (b : Bool) → ltb to (length s) ≡ b → ((p t : ℕ) → p ≤ length s → Proper s (jump left s p t)) → Proper s (jump (suc left) s place to)
    go true e ih = rw (e, jump) (proper_search (jump left s) true s to ih (le_of_lt (ltb-true to (length s) e)))
    go false e ih = rw (e, jump) within

pub proper : (left : ℕ) (jumped : Bool) (s : List ℕ) (from : ℕ) → from ≤ length s → Proper s (read_from left jumped s from)
proper left jumped s from l = proper_search (jump left s) jumped s from (proper_jump left s) l

-- What a reading alone that is Loaded comes from: a sync word found, packets that end, and no jump.
pub alone_parts : (jumped : Bool) (s : List ℕ) (from sync end writes : ℕ) (after : Bool) → read_from 0 jumped s from ≡ Loaded sync end writes after →
    (find (drop from s) from ≡ Some sync) × (finish_from s (sync + 4) ≡ FinishEnded end writes) × (after ≡ jumped)
unfolding jump
alone_parts jumped s from sync end writes after h = go (find (drop from s) from) refl
  where
    end_of : (at : ℕ) → find (drop from s) from ≡ Some at → (f : Finish) → finish_from s (at + 4) ≡ f →
        (find (drop from s) from ≡ Some sync) × (finish_from s (sync + 4) ≡ FinishEnded end writes) × (after ≡ jumped)
    end_of at e (FinishEnded a b) g =
        let q = sym h ∙ search_found (jump 0 s) jumped s from at e ∙ read_ended (jump 0 s) jumped s at a b g in
        let k : at ≡ sync = cc in
        (e ∙ cc, rw k at g ∙ cc, cc)
    end_of at e (FinishIprog a b) g = let q = sym h ∙ search_found (jump 0 s) jumped s from at e ∙ read_jump (jump 0 s) jumped s at a b g in cc
    end_of at e (FinishFault a) g = let q = sym h ∙ search_found (jump 0 s) jumped s from at e ∙ read_fault (jump 0 s) jumped s at a g in cc
    end_of at e FinishShort g = let q = sym h ∙ search_found (jump 0 s) jumped s from at e ∙ read_short (jump 0 s) jumped s at g in cc

    go : (f : Option ℕ) → find (drop from s) from ≡ f → (find (drop from s) from ≡ Some sync) × (finish_from s (sync + 4) ≡ FinishEnded end writes) × (after ≡ jumped)
    go (Some at) e = end_of at e (finish_from s (at + 4)) refl
    go None e = let q = sym h ∙ search_none (jump 0 s) jumped s from e in cc
