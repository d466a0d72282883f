use Rattle.slot_clock.specs.Blocks.{rank_done}
use Rattle.slot_clock.proofs.layout.rank_of.Goals as goal

pub returns-clause-is : goal.returns-clause-is
returns-clause-is g c = λ b tells.
    (rank_done b c.args.weights.now c.args.x c.args.round c.weight_of.result c.part_of-rest.result c.requires.whole c.requires.some (c.weight_of.ensures.is b tells) (c.part_of-rest.ensures.is b tells)).0
