-- Laws of whole packets skipped at once.
use Prim.Native.Nat.{ℕ, ◌+◌, ◌<◌, ◌≤◌}
use mathlib.Core.Path.{◌≡◌, refl, sym, ap, subst, ◌∙◌}
use mathlib.Core.Bool.{Bool, true, false, not, ◌&&◌}
use mathlib.Core.Option.{some}
use mathlib.Core.List.{List}
use native.Mathlib.Omega.{arith}
use borrow.Author.Tests.{not-true}
use lib.Dec.{eqb}
use lib.ListN.{length, get_or, drop}
use Rattle.base.specs.Question.{ask}
use Rattle.base.proofs.Laws.{both_true}
use Rattle.framing.specs.Words.{words, word_at}
use Rattle.framing.proofs.Laws.{room}
use Rattle.packets.specs.Header.{CMD, WBSTAR, register_ok, plain_register, head_of, effect_of, type1_of}
use Rattle.packets.specs.Trace.{opened, mode_of, after_header}
use Rattle.fastpath.specs.Types.{Type1, Type2, GoesOn, Scanner}
use Rattle.scanner.specs.Scan.{before_of, scanner_after_header, scanner_after_packet, AtHeader}
use Rattle.scanner.proofs.Laws.{header_on, data_past, some_mode}
use Rattle.fastpath.specs.Fastpath.{NOP, PacketBegins, CountedBegins, SkipKeeps}

pub past_none : (s : List ℕ) (w : Scanner) → AtHeader w → SkipKeeps s w w
past_none s w ready = record { same = refl; ready = ready; on = omega arith; within = λ h. h }

pub past_on : (s : List ℕ) (w v r : Scanner) → SkipKeeps s w v → SkipKeeps s v r → SkipKeeps s w r
past_on s w v r a b = record { same = b.same ∙ a.same; ready = b.ready; on = omega (arith, a.on, b.on); within = λ h. b.within (a.within h) }

-- a header with no data words
past_header : (s : List ℕ) (w : Scanner) (register : ℕ) (opens : Bool) → AtHeader w → w.at + 4 ≤ length s →
    after_header (head_of (word_at s w.at)) (before_of w.opened w.register) ≡ some (mode_of 0 register (before_of opens register)) → SkipKeeps s w (scanner_after_header w register 0 opens)
past_header s w register opens ready h e = record {
  same = (header_on s w ready.0 ready.1 ready.2 (omega (arith, room s w.at)) register 0 opens e).same;
  ready = (refl, refl, omega (arith, ready.2));
  on = omega arith;
  within = λ l. omega arith;
}

pub past_nop : (s : List ℕ) (w : Scanner) → AtHeader w → w.at + 4 ≤ length s → word_at s w.at ≡ NOP → SkipKeeps s w (scanner_after_header w 0 0 false)
unfolding head_of type1_of ask after_header mode_of before_of
past_nop s w ready h e = past_header s w 0 false ready h (rw e refl)

pub past_empty : (s : List ℕ) (w : Scanner) (register : ℕ) → AtHeader w → w.at + 4 ≤ length s → head_of (word_at s w.at) ≡ Type1 register 0 → SkipKeeps s w (scanner_after_header w register 0 true)
unfolding after_header before_of
past_empty s w register ready h e = past_header s w register true ready h (rw e refl)

pub begins_type1 : (s : List ℕ) (w : Scanner) (register count : ℕ) → head_of (word_at s w.at) ≡ Type1 register count → 1 ≤ count → PacketBegins s w register count
unfolding after_header
begins_type1 s w register count e some_data = rw e (ap some (some_mode count register (opened register) some_data))

pub begins_type2 : (s : List ℕ) (w : Scanner) (register count : ℕ) → head_of (word_at s w.at) ≡ Type2 count → w.opened ≡ true → w.register ≡ register → PacketBegins s w register count
unfolding after_header before_of
begins_type2 s w register count e open_to same_register = rw (e, open_to, same_register) refl

pub past_whole : (s : List ℕ) (w : Scanner) (register count : ℕ) → AtHeader w → w.at + 4 ≤ length s → PacketBegins s w register count →
    1 ≤ count → count ≤ w.skip → count ≤ length (words (drop (w.at + 4) s)) →
    ((i : ℕ) → i < count → effect_of register (get_or (words (drop (w.at + 4) s)) i 0) ≡ GoesOn) →
    SkipKeeps s w (scanner_after_packet s (scanner_after_header w register count true))
unfolding before_of
past_whole s w register count ready h e some_data skip enough quiet = record {
  same = (data_past s (scanner_after_header w register count true) refl some_data (omega (arith, ready.2)) enough skip quiet).same
      ∙ (header_on s w ready.0 ready.1 ready.2 (omega (arith, room s w.at)) register count true (e ∙ ap some (sym (some_mode count register (opened register) some_data)))).same;
  ready = (refl, refl, omega (arith, ready.2));
  on = omega arith;
  within = λ l. omega (arith, enough, room s (w.at + 4));
}

counted_only : (register word : ℕ) → eqb register CMD ≡ false → effect_of register word ≡ GoesOn
unfolding effect_of ask
counted_only register word no_command = rw no_command refl

after_same : (s : List ℕ) (w : Scanner) (register count : ℕ) → eqb register WBSTAR ≡ false → scanner_after_packet s (scanner_after_header w register count true) ≡ scanner_after_packet s (scanner_after_header w 0 count true)
after_same s w register count no_place = rw no_place refl

-- a packet whose words are only counted: after it the scanner is as after such a packet of register 0
pub past_counted : (s : List ℕ) (w : Scanner) (count : ℕ) → AtHeader w → w.at + 4 ≤ length s → CountedBegins s w count →
    1 ≤ count → count ≤ w.skip → count ≤ length (words (drop (w.at + 4) s)) → SkipKeeps s w (scanner_after_packet s (scanner_after_header w 0 count true))
past_counted s w count ready h p some_data skip enough =
    subst (SkipKeeps s w) (after_same s w p.register count p.no_place)
    (past_whole s w p.register count ready h p.begins some_data skip enough (λ i less. counted_only p.register _ p.no_command))

-- what a yes to "is it a plain register" says
pub plain_begins : (s : List ℕ) (w : Scanner) (register count : ℕ) → plain_register register ≡ true →
    (register_ok register ≡ true → PacketBegins s w register count) → CountedBegins s w count
unfolding plain_register
plain_begins s w register count plain begins =
    let (may, no_place) = both_true (register_ok register && not (eqb register CMD)) _ plain in
    let (ok, no_command) = both_true (register_ok register) _ may in
    record { register = register; begins = begins ok; no_command = not-true _ no_command; no_place = not-true _ no_place }
