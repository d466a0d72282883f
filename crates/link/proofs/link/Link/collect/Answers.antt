use Rattle.std.proofs.Common.{refl, rules}
use Rattle.link.proofs.Slips.{none_collected, one_collected}
use Rattle.link.proofs.link.Link.collect.Goals as goal

pub returns-in_err-departed : goal.returns-in_err-departed
returns-in_err-departed g c f calls h =
    none_collected h _ (search rules) c.in_err-departed.ensures.first _ c.hand_out.ensures.rest c.in_err-departed.ensures.noted refl refl refl refl refl refl refl refl refl refl refl

pub returns : goal.returns
returns g c f calls h =
    one_collected h c.in_ok-departed.departed _ c.in_ok-departed.ensures.first.0 c.in_ok-departed.ensures.first.1 refl _ c.hand_out.ensures.rest c.in_ok-departed.ensures.noted refl refl refl refl refl refl refl refl refl refl refl
