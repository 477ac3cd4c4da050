-- `expression_degree` meets its contract.
use Rattle.oracle_entry.proofs.Answers.{degree_there, degree_none}
use Rattle.oracle_entry.proofs.expression_degree.Goals as goal

pub returns-then-n-nodes : goal.returns-then-n-nodes
returns-then-n-nodes c = degree_there _ _ _ c.if-n-nodes.true c.degree_of.ensures

pub returns : goal.returns
returns c = degree_none _ _ c.if-n-nodes.false
