-- What an Evaluation stands for.
use Rattle.field.specs.Field.{𝔾}
use Rattle.expression.specs.Value.{Environment}
use Rattle.expression.specs.Point.{environment_of}
use Rattle.expression_evaluate.specs.declared.evaluation.Evaluation.{Evaluation}

abbrev pub environment : Evaluation → Environment 𝔾
environment s = environment_of s.circuit.now s.witness.now s.columns.now s.challenges.now s.layout s.point
