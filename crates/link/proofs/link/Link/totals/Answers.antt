use Rattle.std.proofs.Common.{refl}
use Rattle.link.proofs.Readings.{totals_goes}
use Rattle.link.proofs.link.Link.totals.Goals as goal

pub returns : goal.returns
returns g c f calls h = totals_goes h _ c.size.ensures c.sending.ensures c.len.ensures c.len-2.ensures refl refl
