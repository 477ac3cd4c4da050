use Rattle.decimal.proofs.Steps.{Come}
use Rattle.decimal.proofs.take_bytes.Given as goal

abbrev pub invariant-loop-byte : goal.invariant-loop-byte
invariant-loop-byte l = Come l.initial.come l.initial.words l.bytes l.byte-index l.come l.words
