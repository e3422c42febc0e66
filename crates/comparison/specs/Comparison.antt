-- Bytes, then FF, and bytes compared with them. Document 01, question 9.
use Rattle.std.specs.Prelude.{ℕ, ◌+◌, ◌-◌, true, false, List, [], ◌∷◌, ◌++◌, Option, Some, None, eqb, length}
use Rattle.flash.specs.Flash.{erased}

-- bytes, then FF up to `count`
abbrev pub padded : ℕ → List ℕ → List ℕ
padded count bytes = bytes ++ erased (count - length bytes)

-- The first address, from a place on, at which bytes are not those expected there.
unfoldable pub differs : ℕ → List ℕ → List ℕ → Option ℕ
differs place [] expected = None
differs place (byte ∷ bytes) [] = None
differs place (byte ∷ bytes) (m ∷ expected) = elim (eqb byte m) [ true ↦ differs (place + 1) bytes expected | false ↦ Some place ]
