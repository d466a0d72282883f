use Rattle.tick_machine.proofs.Histories.{story_tells}
use Rattle.tick_machine.proofs.theorems.story_stands.Goals as goal

pub returns : goal.returns
returns _ = story_tells
