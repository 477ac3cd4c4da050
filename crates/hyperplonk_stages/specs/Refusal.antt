-- The number of a stage called alone: 0 is success, "they meet 2, 12, 13, 14 and, for counts, 15"; "the h stage called alone meets it last":
-- 17.
use Rattle.std.specs.Prelude.{ℕ, Result, Ok, Err}
use Rattle.hyperplonk_stages.specs.declared.Refusal.{Refusal}

abbrev pub refusal_number : Refusal → ℕ
refusal_number Refusal.K = 2
refusal_number Refusal.Lengths = 12
refusal_number Refusal.Values = 13
refusal_number Refusal.Room = 14
refusal_number Refusal.Uncovered = 15
refusal_number Refusal.ZeroDenominator = 17

abbrev pub answer_number : Result (Unit {0}) Refusal → ℕ
answer_number (Ok done) = 0
answer_number (Err refusal) = refusal_number refusal
