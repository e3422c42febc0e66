-- Where the sync word is. Document 01, "How the configuration reader reads".
use Rattle.std.specs.Prelude.{ℕ, ◌+◌, Bool, true, false, ◌&&◌, List, [], ◌∷◌, eqb, Option, Some, None}

-- AA 99 55 66
abbrev pub sync_bytes : List ℕ
sync_bytes = 0xAA ∷ 0x99 ∷ 0x55 ∷ 0x66 ∷ []

-- do the bytes begin with the pattern?
unfoldable pub begins_with : List ℕ → List ℕ → Bool
begins_with [] bytes = true
begins_with (p ∷ ps) [] = false
begins_with (p ∷ ps) (b ∷ bytes) = eqb b p && begins_with ps bytes

-- The search ends at the first place, at any byte, where four bytes read AA 99 55 66. The bytes are those from the place on.
unfoldable pub find : List ℕ → ℕ → Option ℕ
find [] place = None
find (b ∷ bytes) place = elim (begins_with sync_bytes (b ∷ bytes)) [ true ↦ Some place | false ↦ find bytes (place + 1) ]
