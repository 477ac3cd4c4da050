-- What `AcceptedCircuit::new` answers.
use Rattle.std.specs.Prelude.{◌≡◌, ◌≢◌, List, ℕ, Result, Ok, Err}
use Rattle.lists.specs.Lists.{first_no}
use Rattle.backend.specs.Questions.{circuit_questions}
use Rattle.hyperplonk_prepare.specs.declared.circuit.AcceptedCircuit.{AcceptedCircuit}

-- the words, if questions 1 to 11 and 18 are yes, else the number of the first no
abbrev pub IsAnswer : List ℕ → Result AcceptedCircuit ℕ → Type 0
IsAnswer words (Ok circuit) = circuit.words.now ≡ words
IsAnswer words (Err number) = (number ≢ 0) × (first_no circuit_questions words ≡ number)
