-- How many of so many words can be writes: each header is a word that is none.
use Prim.Native.Nat.{ℕ, zero, suc, ◌+◌, ◌/◌, ◌%◌, ◌^◌, ◌<◌, ◌≤◌, min}
use mathlib.Core.Path.{◌≡◌, refl}
use mathlib.Core.Bool.{Bool, true, false}
use mathlib.Core.Option.{Option, some, none}
use mathlib.Core.List.{List, [], ◌∷◌}
use native.Mathlib.Omega.{arith}
use lib.Dec.{eqb}
use lib.ListN.{length}
use Rattle.base.specs.Question.{ask}
use Rattle.base.proofs.Laws.{either_way}
use Rattle.packets.specs.Header.{field, type1_of, type2_of, head_of, effect_of}
use Rattle.packets.specs.Theorems.{HeadersCost}
use Rattle.packets.specs.Trace.{Before, opened, other, Mode, header, payload, mode_of, after_header, trace, list_of}
use Rattle.packets.specs.Types.{Header, Nop, Type1, Type2, BadHeader, Effect, GoesOn, Desync, EffectIprog}
use Rattle.packets.proofs.TraceLaws.{trace_none, trace_header, trace_fault, trace_data, trace_desync, trace_iprog}

abbrev writes_in : List ℕ → ℕ → Mode → ℕ
writes_in words place mode = length (list_of (trace words place mode))

-- What a mode costs: from a header on one word at least is no write; from a data word on, one that comes after its packet.
unfoldable Costs : Mode → ℕ → ℕ → Type 0
Costs (header before) words writes = writes + min 1 words ≤ words
Costs (payload register left) words writes = (writes ≤ words) × (left + 2 ≤ words → writes + 1 ≤ words)

-- So there are never more writes than words,
at_most : (mode : Mode) (words writes : ℕ) → Costs mode words writes → writes ≤ words
unfolding Costs
at_most (header before) words writes h = omega arith
at_most (payload register left) words writes h = h.0

-- and fewer where a word comes after the packet.
fewer : (count register : ℕ) (before : Before) (words writes : ℕ) → count < words → Costs (mode_of count register before) words writes → writes + 1 ≤ words
unfolding Costs mode_of
fewer zero register before words writes l h = omega arith
fewer (suc left) register before words writes l h = h.1 (omega arith)

costs : (words : List ℕ) (place : ℕ) (mode : Mode) → Costs mode (length words) (writes_in words place mode)
unfolding Costs list_of
costs [] place (header before) = rw (trace_none place (header before)) (omega arith)
costs [] place (payload register left) = rw (trace_none place (payload register left)) (omega arith, λ l. omega arith)
costs (word ∷ words) place (header before) = go (after_header (head_of word) before) refl (costs words (place + 4))
  where
    go : (after : Option Mode) → after_header (head_of word) before ≡ after → ((mode : Mode) → Costs mode (length words) (writes_in words (place + 4) mode)) → Costs (header before) (suc (length words)) (writes_in (word ∷ words) place (header before))
    go none e rest = rw (trace_fault word words place before e) (omega arith)
    go (some mode) e rest = let most = at_most mode (length words) (writes_in words (place + 4) mode) (rest mode) in rw (trace_header word words place before mode e) (omega arith)
costs (word ∷ words) place (payload register left) = go (effect_of register word) refl (costs words (place + 4) (mode_of left register other))
  where
    go : (effect : Effect) → effect_of register word ≡ effect → Costs (mode_of left register other) (length words) (writes_in words (place + 4) (mode_of left register other)) → Costs (payload register left) (suc (length words)) (writes_in (word ∷ words) place (payload register left))
    go GoesOn e rest =
        let most = at_most (mode_of left register other) (length words) (writes_in words (place + 4) (mode_of left register other)) rest in
        rw (trace_data word words place register left e)
        (omega arith, λ l. let less = fewer left register other (length words) (writes_in words (place + 4) (mode_of left register other)) (omega arith) rest in omega arith)
    go Desync e rest = rw (trace_desync word words place register left e) (omega arith, λ l. omega arith)
    go EffectIprog e rest = rw (trace_iprog word words place register left e) (omega arith, λ l. omega arith)

-- A type 1 header has at most 2,047 data words.
unfoldable CountFits : Header → Type 0
CountFits (Type1 register count) = count < 2 ^ 11
CountFits Nop = Unit {0}
CountFits (Type2 count) = Unit {0}
CountFits BadHeader = Unit {0}

unless_bad : (b : Bool) (rest : Header) → CountFits rest → CountFits (ask b BadHeader rest)
unfolding CountFits
unless_bad b rest h = either_way CountFits b BadHeader rest tt h

type1_count : (word : ℕ) → CountFits (type1_of word)
unfolding CountFits type1_of
type1_count word = unless_bad _ _ (unless_bad _ _ (go _ (eqb (field word 27 2) 2)))
  where
    go : (may b : Bool) → CountFits (elim b [ true ↦ ask may BadHeader (Type1 (field word 13 5) (word % 2 ^ 11)) | false ↦ ask (eqb (field word 27 2) 0) BadHeader (ask (eqb (field word 13 5) 0) BadHeader (ask (eqb (word % 2 ^ 11) 0) BadHeader Nop)) ])
    go may true = unless_bad _ _ (omega arith)
    go may false = unless_bad _ _ (unless_bad _ _ (unless_bad _ _ tt))

head_count : (word : ℕ) → CountFits (head_of word)
unfolding CountFits head_of type2_of
head_count word = go (eqb (word / 2 ^ 29) 1)
  where
    go : (b : Bool) → CountFits (elim b [ true ↦ type1_of word | false ↦ ask (eqb (word / 2 ^ 29) 2) BadHeader (type2_of word) ])
    go true = type1_count word
    go false = unless_bad _ _ (unless_bad _ _ tt)

first_costs : (words : List ℕ) (place : ℕ) → 1 ≤ length words → writes_in words place (header other) + 1 ≤ length words
unfolding Costs
first_costs words place l = let h : writes_in words place (header other) + min 1 (length words) ≤ length words = costs words place (header other) in omega arith

second_costs : (words : List ℕ) (place : ℕ) → 2049 ≤ length words → writes_in words place (header other) + 2 ≤ length words
unfolding list_of CountFits after_header mode_of
second_costs [] place l = absurd (omega arith)
second_costs (word ∷ words) place l = go (head_of word) refl (head_count word)
  where
    none_read : after_header (head_of word) other ≡ none → writes_in (word ∷ words) place (header other) + 2 ≤ suc (length words)
    none_read e = rw (trace_fault word words place other e) (omega arith)

    after : (count register : ℕ) (before : Before) → count < 2 ^ 11 → after_header (head_of word) other ≡ some (mode_of count register before) → writes_in (word ∷ words) place (header other) + 2 ≤ suc (length words)
    after count register before fits e =
        let less = fewer count register before (length words) (writes_in words (place + 4) (mode_of count register before)) (omega arith) (costs words (place + 4) (mode_of count register before)) in
        rw (trace_header word words place other (mode_of count register before) e) (omega arith)

    go : (head : Header) → head_of word ≡ head → CountFits head → writes_in (word ∷ words) place (header other) + 2 ≤ suc (length words)
    go Nop e fits = after 0 0 other (omega arith) (rw e refl)
    go (Type1 register count) e fits = after count register (opened register) fits (rw e refl)
    go (Type2 count) e fits = none_read (rw e refl)
    go BadHeader e fits = none_read (rw e refl)

pub headers_cost : HeadersCost
headers_cost = record { one = first_costs; two = second_costs }
