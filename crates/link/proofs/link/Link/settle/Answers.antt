use Rattle.std.proofs.Common.{refl}
use Rattle.tick_machine.specs.Life.{after}
use Rattle.link.proofs.Slips.{counted_filed, counted_returned, settle_goes, settle_refused}
use Rattle.link.proofs.link.Link.settle.Goals as goal

pub returns-in-File-clause-keeps : goal.returns-in-File-clause-keeps
returns-in-File-clause-keeps g c f calls h =
    settle_goes h c.args.slip.says.link c.args.slip.says.packet c.args.how (c.in-Ok.ensures.value f (after f calls) h.shown) c.in-Ok.i c.in-Ok.ensures.found _ c.remove.ensures.items
    refl refl refl refl refl refl refl refl refl refl (counted_filed _ _ c.args.how c.in-File.is c.saturating_add-self.ensures refl)

pub returns-in-Return-clause-keeps : goal.returns-in-Return-clause-keeps
returns-in-Return-clause-keeps g c f calls h =
    settle_goes h c.args.slip.says.link c.args.slip.says.packet c.args.how (c.in-Ok.ensures.value f (after f calls) h.shown) c.in-Ok.i c.in-Ok.ensures.found _ c.remove.ensures.items
    refl refl refl refl refl refl refl refl refl refl (counted_returned _ _ c.args.how c.in-Return.is refl c.saturating_add-self-in-Return.ensures)

pub returns-in-Err : goal.returns-in-Err
returns-in-Err g c = record {
  keeps = λ f calls h. settle_refused h c.args.slip.says.link c.args.slip.says.packet c.args.how c.in-Err.e c.args.slip (c.in-Err.ensures.value f (after f calls) h.shown);
  back = refl;
}
