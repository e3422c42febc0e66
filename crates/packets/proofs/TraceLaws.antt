-- The cases of a trace, one law each.
use Prim.Native.Nat.{ℕ, ◌+◌}
use mathlib.Core.Path.{◌≡◌, refl}
use mathlib.Core.Option.{some, none}
use mathlib.Core.List.{List, [], ◌∷◌}
use native.Mathlib.Omega.{arith}
use lib.ListN.{length}
use Rattle.packets.specs.Header.{head_of, effect_of}
use Rattle.packets.specs.Trace.{Before, other, Mode, header, payload, mode_of, after_header, wrote, desync, iprog, faulty, short, trace, Trace, last_wbstar, finish, list_of}
use Rattle.packets.specs.Types.{FinishEnded, GoesOn, Desync, EffectIprog}

pub trace_none : (p : ℕ) (m : Mode) → trace [] p m ≡ short
unfolding trace
trace_none p m = refl

module _ (word : ℕ) (ws : List ℕ) (p : ℕ) (before : Before) where
  pub trace_header : (m : Mode) → after_header (head_of word) before ≡ some m → trace (word ∷ ws) p (header before) ≡ trace ws (p + 4) m
  unfolding trace
  trace_header m e = rw (e, trace)

  pub trace_fault : after_header (head_of word) before ≡ none → trace (word ∷ ws) p (header before) ≡ faulty p
  unfolding trace
  trace_fault e = rw (e, trace)

module _ (word : ℕ) (ws : List ℕ) (p register left : ℕ) where
  pub trace_data : effect_of register word ≡ GoesOn →
      trace (word ∷ ws) p (payload register left) ≡ wrote (record { register = register; word = word; place = p }) left (trace ws (p + 4) (mode_of left register other))
  unfolding trace
  trace_data e = rw (e, trace)

  pub trace_desync : effect_of register word ≡ Desync →
      trace (word ∷ ws) p (payload register left) ≡ wrote (record { register = register; word = word; place = p }) left (desync (p + 4))
  unfolding trace
  trace_desync e = rw (e, trace)

  pub trace_iprog : effect_of register word ≡ EffectIprog →
      trace (word ∷ ws) p (payload register left) ≡ wrote (record { register = register; word = word; place = p }) left (iprog p)
  unfolding trace
  trace_iprog e = rw (e, trace)

-- A reading that ends has counted its writes.
pub counted : (t : Trace) (writes wbstar end n : ℕ) → finish t writes wbstar ≡ FinishEnded end n → n ≡ writes + length (list_of t)
unfolding finish list_of
counted (wrote w left t) writes wbstar end n e =
    let h : n ≡ writes + 1 + length (list_of t) = counted t (writes + 1) (last_wbstar w wbstar) end n e in omega arith
counted (desync p) writes wbstar end n e = let h : writes ≡ n = cc in omega arith
counted (iprog p) writes wbstar end n e = let z : ◌≡◌ {A = ℕ} 0 1 = cc in absurd (omega arith)
counted (faulty p) writes wbstar end n e = let z : ◌≡◌ {A = ℕ} 0 1 = cc in absurd (omega arith)
counted short writes wbstar end n e = let z : ◌≡◌ {A = ℕ} 0 1 = cc in absurd (omega arith)
