use Rattle.std.proofs.Common.{◌∙◌, subst}
use Rattle.link.proofs.Slips.{Placed, found_at, found_or_not}
use Rattle.link.proofs.link.Link.find_out.Goals as goal

pub returns : goal.returns
returns g c =
    let placed = subst (λ xs. Placed c.args.packet xs c.place.result) c.deref.ensures.value c.place.ensures in
    record {
      found = rw c.ok_or.ensures.value (found_at c.args.packet _ _ placed);
      value = λ f m s. rw c.ok_or.ensures.value (found_or_not c.args.packet _ f c.args.link m (c.if-link-self.false ∙ s.number_is) s.out_is _ placed);
    }
