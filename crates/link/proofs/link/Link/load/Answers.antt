use Rattle.std.proofs.Common.{refl, arith}
use Rattle.link.proofs.Loads.{load_there, load_some, load_shown}
use Rattle.link.proofs.link.Link.load.Goals as goal

pub returns-then-packet-gt0 : goal.returns-then-packet-gt0
returns-then-packet-gt0 g c = record {
  shows = λ f m s o. load_shown s o c.in-None-Some.pair c.in-None-Some.is-0 c.in-None-Some.ensures _ c.deref.ensures.value c.in-Some.i c.in-Some.ensures c.remove-packet.result c.remove-packet.ensures.value _
      c.take.ensures.after c.take.ensures.capacity c.remove-packet.ensures.items refl refl refl refl refl refl refl refl refl refl refl;
  clock = refl;
}

pub returns-else-packet-gt0 : goal.returns-else-packet-gt0
returns-else-packet-gt0 g c = record {
  shows = λ f m s o.
      let some = load_some s o c.in-None-Some.pair c.in-None-Some.is-0 c.in-None-Some.ensures _ c.deref.ensures.value c.in-Some.i c.in-Some.ensures c.remove-packet.result c.remove-packet.ensures.value in
      absurd (omega (arith, some, c.if-packet-gt0.false));
  clock = refl;
}

pub returns-in_default : goal.returns-in_default
returns-in_default g c = record {
  shows = λ f m s o. absurd (load_there s o c.in-None-Some.pair c.in-None-Some.is-0 c.in-None-Some.ensures _ c.deref.ensures.value c.in_default.ensures);
  clock = refl;
}
