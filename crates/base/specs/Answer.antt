-- An answer in document 01's numbers. Document 01, "Language forms in the code": "When an answer is an enum, a definition gives this paper's number and values for each enum case. The promises use this definition."
use Rattle.std.specs.Prelude.{ℕ, ◌≡◌, List, [], get_or, Result, Ok, Err}
use Rattle.base.specs.Types.{Refusal}
use Rattle.base.specs.Refusal.{number_of}

-- The number of a refusal or stop with its place, and the values of a result. Where there is none, number and place are 0. (Stuck has a place and no number; the refusals of a reply and of an order have values too: the state given, the bytes.)
pub record Numbered : Type 0 where
  pub number : ℕ
  pub place : ℕ
  pub values : List ℕ

abbrev pub result : List ℕ → Numbered
result values = record { number = 0; place = 0; values = values }

abbrev pub refusal : ℕ → ℕ → Numbered
refusal number place = record { number = number; place = place; values = [] }

-- what a call answers in numbers: the values of its result, or its refusal's number and place
unfoldable pub in_numbers : {A : Type 0} → (A → List ℕ) → Result A Refusal → Numbered
in_numbers values (Ok answer) = result (values answer)
in_numbers values (Err r) = refusal (number_of r.reason) r.place

-- the k-th value, counted from 0; one that an answer does not have is 0
abbrev pub value : Numbered → ℕ → ℕ
value numbered k = get_or numbered.values k 0

-- WHAT A CALL PROMISES of its answer: it is the one defined, and its number and values are the defined ones.
pub record Gives {A : Type 0} (numbers : A → Numbered) (answer defined : A) : Type 0 where
  pub same : answer ≡ defined
  pub numbered : numbers answer ≡ numbers defined
