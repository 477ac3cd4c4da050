use Rattle.expression.proofs.Written.{pushed}
use Rattle.expression_write.proofs.push.Goals as goal

pub returns : goal.returns
returns c =
    pushed _ _ _ _ _ _ _ _ _ _ _ c.put.ensures c.put-2.ensures c.put-3.ensures
    c.put-4.ensures
