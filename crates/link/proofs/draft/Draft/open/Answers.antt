use Rattle.link.proofs.Openings.{opens}
use Rattle.link.proofs.draft.Draft.open.Goals as goal

pub returns : goal.returns
returns g c f h = opens c.args.self h _ c.deref.ensures.value c.in-Ok.slots c.in-Ok.ensures c.opened.result c.opened.ensures
