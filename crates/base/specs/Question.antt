-- How a question is asked. Document 01, "Questions at the door": they are asked in an order, and the first no decides.
use Rattle.std.specs.Prelude.{Bool, true, false}

-- One question: where the answer is no the refusal, else what is asked next.
unfoldable pub ask {ℓ} : {A : Type ℓ} → Bool → A → A → A
ask true refused rest = rest
ask false refused rest = refused
