use Rattle.std.proofs.Common.{◌+◌, min, refl, ap, ◌∙◌}
use Rattle.std.proofs.lemmas.Result.{err_from_is_err_and}
use Rattle.tick_machine.specs.Life.{after}
use Rattle.link.proofs.Arrivals.{refused_goes, never_refused, never_full, arrive_known, accepted_fits, accepted_goes}
use Rattle.link.proofs.link.Link.arrive.Goals as goal

pub returns-in_err-admit : goal.returns-in_err-admit
returns-in_err-admit g c f calls h =
    let p = err_from_is_err_and c.from_residual.result c.from_residual.ensures.1 in
    rw (p.1, p.2) (refused_goes h c.args.session c.args.size c.args.tag _ (c.in_err-admit.ensures.value f (after f calls) h.shown))

pub returns-in_err-stamp : goal.returns-in_err-stamp
returns-in_err-stamp g c f calls h =
    let v = c.in_ok-admit.ensures.value f (after f calls) h.shown in
    absurd (never_refused h c.args.session c.args.size c.args.tag v _ c.in_err-stamp.ensures.answer)

pub returns-in_err-put : goal.returns-in_err-put
returns-in_err-put g c f calls h =
    let v = c.in_ok-admit.ensures.value f (after f calls) h.shown in
    absurd (never_full h c.args.session c.args.size c.args.tag v c.in_ok-stamp.stamp c.in_ok-stamp.ensures.answer _ c.in_err-put.ensures.answer)

pub returns : goal.returns
returns g c f calls h =
    let v = c.in_ok-admit.ensures.value f (after f calls) h.shown in
    let i = c.args.session in
    let n = c.args.size in
    let tag = c.args.tag in
    let l = c.args.self.now in
    let s = c.in_ok-stamp.stamp in
    let is = c.in_ok-stamp.ensures.answer in
    let note = c.note_accepted.ensures in
    let late = c.saturating_add-latest.ensures ∙ ap (λ x. min (x + l.largest) 18446744073709551615) (c.saturating_add.ensures ∙ ap (λ x. min (l.clock + x) 18446744073709551615) c.saturating_sub.ensures) in
    rw c.told_of.ensures (accepted_goes h i n tag v s is c.cursor-cursor.result c.saturating_add-latest.result c.cursor-cursor.ensures late _
    c.in_ok-stamp.ensures.after c.put.ensures.after c.put.ensures.capacity c.push_reserved.ensures.items c.saturating_add-self.ensures
    (note.accepted (arrive_known h i n tag v) (accepted_fits h i n tag v s is)) note.sent note.many refl refl refl refl refl refl refl refl)
