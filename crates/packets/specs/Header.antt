-- One word as a packet header, and what a data word does. Document 01, "How the configuration reader reads".
use Rattle.std.specs.Prelude.{ℕ, ◌/◌, ◌%◌, ◌^◌, Bool, true, false, not, ◌&&◌, ◌||◌, eqb, ltb}
use Rattle.base.specs.Question.{ask}
use Rattle.packets.specs.Types.{Header, Nop, Type1, Type2, BadHeader, Effect, GoesOn, Desync, EffectIprog}

-- `width` bits of a word, from bit `low` up
abbrev pub field : ℕ → ℕ → ℕ → ℕ
field word low width = word / 2 ^ low % 2 ^ width

abbrev pub CMD : ℕ
CMD = 4

abbrev pub WBSTAR : ℕ
WBSTAR = 16

abbrev pub DESYNC : ℕ
DESYNC = 0x0000000D

abbrev pub IPROG : ℕ
IPROG = 0x0000000F

-- a set of numbers as bits: the one at a number says whether it is in the set
abbrev pub in_set : ℕ → ℕ → Bool
in_set bits i = eqb (bits / 2 ^ i % 2) 1

-- A write header names a register that the FPGA guide lists: 0 to 14, 16, 17, 22, 24 or 31.
unfoldable pub register_ok : ℕ → Bool
register_ok register =
    ltb register 15
    || eqb register 16
    || eqb register 17
    || eqb register 22
    || eqb register 24
    || eqb register 31

-- Type 1: bits 26 to 18 and 12 to 11 are 0. Bits 28 to 27 are the operation: 10 writes as many data words as bits 10 to 0 say to the register in bits 17 to 13; 00 is a no-operation, whose register and count are 0; 01 and 11 are faults.
unfoldable pub type1_of : ℕ → Header
type1_of word =
    ask (eqb (field word 18 9) 0) BadHeader
    (ask (eqb (field word 11 2) 0) BadHeader
    (elim (eqb (field word 27 2) 2) [
      | true ↦ ask (register_ok (field word 13 5)) BadHeader (Type1 (field word 13 5) (word % 2 ^ 11))
      | false ↦ ask (eqb (field word 27 2) 0) BadHeader
          (ask (eqb (field word 13 5) 0) BadHeader
          (ask (eqb (word % 2 ^ 11) 0) BadHeader Nop))
    ]))

-- Type 2: operation 10, and the count is in bits 26 to 0.
unfoldable pub type2_of : ℕ → Header
type2_of word = ask (eqb (field word 27 2) 2) BadHeader (Type2 (word % 2 ^ 27))

-- Bits 31 to 29 = 001 is type 1, 010 is type 2, every other header is a fault.
unfoldable pub head_of : ℕ → Header
head_of word = elim (eqb (word / 2 ^ 29) 1) [ true ↦ type1_of word | false ↦ ask (eqb (word / 2 ^ 29) 2) BadHeader (type2_of word) ]

-- CMD word 0000000D (DESYNC) ends the reading and 0000000F (IPROG) jumps; every other data word lets it go on.
unfoldable pub effect_of : ℕ → ℕ → Effect
effect_of register word =
    ask (eqb register CMD) GoesOn
    (elim (eqb word DESYNC) [ true ↦ Desync | false ↦ ask (eqb word IPROG) GoesOn EffectIprog ])

-- A register whose words are only counted: no commands, and no place to jump to. No rule cites it: the code passes packets of such a register at once.
unfoldable pub plain_register : ℕ → Bool
plain_register register = register_ok register && not (eqb register CMD) && not (eqb register WBSTAR)
