use Rattle.link_tests.proofs.crossing.Open.send_one.Goals as goal

pub invariant_of-self : goal.invariant_of-self
invariant_of-self g c =
    let k = c.self.invariant in
    (k.0, (_, (c.move_to.ensures k.0 _ (c.arrive.ensures k.0 k.1.0 k.1.1).led).led))
