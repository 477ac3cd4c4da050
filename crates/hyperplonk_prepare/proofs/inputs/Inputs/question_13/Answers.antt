use Rattle.hyperplonk_prepare.proofs.Computed.{thirteen}
use Rattle.hyperplonk_prepare.proofs.inputs.Inputs.question_13.Goals as goal

pub returns : goal.returns
returns c = thirteen c.args.self.now.instance.now c.args.self.now.witness.now c.args.self.now.challenges.now _ _ _ c.all_elements-first.ensures.below c.all_elements-second.ensures.below c.all_elements-third.ensures.below
