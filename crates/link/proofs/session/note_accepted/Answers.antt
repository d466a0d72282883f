use Rattle.std.proofs.Common.{refl}
use Rattle.link.proofs.Sessions.{map_raised, map_kept}
use Rattle.link.proofs.session.note_accepted.Goals as goal

pub returns-in-Some : goal.returns-in-Some
returns-in-Some c =
    let it = c.in-Some.ensures.item in
    let items = c.args.sessions.now.items in
    let there = it.3.0 in
    record {
      accepted = λ _ fits. map_raised (λ s. s.accepted) items c.args.session c.in-Some.record.now _ there it.1 c.args.bytes c.saturating_add-record.ensures fits;
      sent = map_kept (λ s. s.sent) items c.args.session c.in-Some.record.now _ there it.1 refl;
      many = refl;
    }
