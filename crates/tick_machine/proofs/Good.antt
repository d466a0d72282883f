-- What the law's induction keeps true of a story. Assumes nothing.
use Rattle.std.proofs.Common.{◌≡◌, ℕ, ◌+◌, ◌-◌, ◌<◌, ◌≤◌, eqb, ltb, ◌⊎◌, List, length, refl, inl, inr, arith}
use lib.ListN.{length-replicate}
use Rattle.tick_machine.specs.Lists.{total, only, All, none, Rising}
use Rattle.tick_machine.specs.Slots.{owner}
use Rattle.tick_machine.specs.Sender.{Packet, Departed}
use Rattle.tick_machine.specs.Desk.{Desk}
use Rattle.tick_machine.specs.Machine.{Config, with_desk}
use Rattle.tick_machine.specs.Story.{Served, Story, begun}
use Rattle.tick_machine.specs.Law.{On, idle, Unsent, Prompt, Timely}
use Rattle.tick_machine.specs.Books.{SameWork, OwedByNext, UnderWay}
use Rattle.tick_machine.proofs.Lists.{all_map}
use Rattle.tick_machine.proofs.Known.{times, Known}
use Rattle.tick_machine.proofs.OwedSlots.{Tidy, shown_tidy, shown_fresh}
use Rattle.tick_machine.proofs.Work.{pending_of, unsent_map}
use Rattle.tick_machine.proofs.Serving.{upto, own, own_above}

-- the bytes of the waiting packets of session i with stamps above s
abbrev pub later : ℕ → ℕ → List Packet → ℕ
later i s ws = total (λ p. only (eqb p.session i) (only (ltb s p.stamp) p.size)) ws

-- each waiting packet of p's session has a later stamp
abbrev pub First : List Packet → Packet → Type 0
First ws p = All (λ q. q.session ≡ p.session → p.stamp < q.stamp) ws

-- what the law turns on: for every x, the bytes still to be sent that are due by x are fewer than Lmax more than the slots owed up to x
abbrev pub Backlog : Story → Type 0
Backlog y = (x : ℕ) → pending_of x y.machine.sender ≤ upto x y.machine.round.owed + (y.longest - 1)

-- an unsent packet has bytes, at most Lmax, and its stamp is a slot of its session below the session's next
pub record Sane (c : Config) (next : List ℕ) (long : ℕ) (p : Packet) : Type 0 where
  pub some : 1 ≤ p.size
  pub short : p.size ≤ long
  pub mine : owner c.weights p.stamp ≡ p.session
  pub known : Known c.weights next p.stamp

-- an unsent packet whose last byte is not yet served
pub record Open (c : Config) (y : Story) (p : Packet) : Type 0 where
  pub ahead : y.machine.round.cursor ≤ p.stamp
  pub there : 1 ≤ times p.stamp y.machine.round.owed
  pub early : y.machine.clock + (p.stamp - y.machine.round.cursor) + c.largest ≤ p.latest
  pub behind : later p.session p.stamp y.machine.sender.waiting ≤ own_above c.weights p.session p.stamp y.machine.round.owed

-- an unsent packet whose last byte is served
pub record Closed (c : Config) (y : Story) (p : Packet) : Type 0 where
  pub past : p.stamp < y.machine.round.cursor
  pub soon : y.machine.clock + pending_of p.stamp y.machine.sender ≤ p.latest
  pub level : pending_of p.stamp y.machine.sender + later p.session p.stamp y.machine.sender.waiting
      ≤ own c.weights p.session y.machine.round.owed + (y.longest - 1)
  pub close : All (λ (b : Served). b.slot ≡ p.stamp → y.machine.clock + pending_of p.stamp y.machine.sender ≤ b.at + (y.longest - 1)) y.served

abbrev pub Stage : Config → Story → Packet → Type 0
Stage c y p = Open c y p ⊎ Closed c y p

pub record Good (c : Config) (y : Story) : Type 0 where
  pub shown : OwedByNext c y.machine
  pub many : length y.machine.round.next ≡ length c.weights
  pub work : SameWork c y.machine
  pub past : All (λ (b : Served). b.slot < y.machine.round.cursor) y.served
  pub under_way : UnderWay y.machine.sender.line
  pub order : Rising (λ p. p.stamp) y.machine.sender.waiting
  pub first : On (First y.machine.sender.waiting) y.machine.sender.line
  pub sane : Unsent (Sane c y.machine.round.next y.longest) y.machine.sender
  pub small : y.longest ≤ c.largest
  pub gone : All (λ (d : Departed). (d.left ≤ y.machine.clock) × (1 ≤ y.longest)) y.gone
  pub backlog : Backlog y
  pub stage : Unsent (Stage c y) y.machine.sender
  pub prompt : Prompt y
  pub timely : Timely y

pub tidy : {c : Config} {y : Story} → Good c y → Tidy c.weights y.machine.round
tidy {c} {y} g = shown_tidy c.weights y.machine.round g.shown

pub sizes : {c : Config} {y : Story} → Good c y → All (λ p. (1 ≤ p.size) × (p.size ≤ y.longest)) y.machine.sender.waiting
sizes g = all_map g.sane.waits (λ p s. (s.some, s.short))

pub sizes_some : {c : Config} {y : Story} → Good c y → All (λ p. 1 ≤ p.size) y.machine.sender.waiting
sizes_some g = all_map g.sane.waits (λ p s. s.some)

pub begun_good : (c : Config) → Good c (begun c)
begun_good c = record {
  shown = shown_fresh c.weights;
  many = length-replicate (length c.weights) 0;
  work = refl;
  past = none;
  under_way = tt;
  order = tt;
  first = idle;
  sane = record { on = idle; waits = none };
  small = omega arith;
  gone = none;
  backlog = λ x. omega arith;
  stage = record { on = idle; waits = none };
  prompt = record { gone = none; unsent = record { on = idle; waits = none } };
  timely = record { gone = none; unsent = record { on = idle; waits = none } };
}

-- a story with its desk changed
abbrev pub desked : (Desk → Desk) → Story → Story
desked f y = record { machine = with_desk f y.machine; served = y.served; gone = y.gone; arrivals = y.arrivals; longest = y.longest }

-- nothing of this speaks of the desk
desk_stage : (c : Config) (f : Desk → Desk) (y : Story) (p : Packet) → Stage c y p → Stage c (desked f y) p
desk_stage c f y p (inl o) = inl (record { ahead = o.ahead; there = o.there; early = o.early; behind = o.behind })
desk_stage c f y p (inr o) = inr (record { past = o.past; soon = o.soon; level = o.level; close = o.close })

pub desk_good : (c : Config) (f : Desk → Desk) (y : Story) → Good c y → Good c (desked f y)
desk_good c f y g = record {
  shown = g.shown;
  many = g.many;
  work = g.work;
  past = g.past;
  under_way = g.under_way;
  order = g.order;
  first = g.first;
  sane = g.sane;
  small = g.small;
  gone = g.gone;
  backlog = g.backlog;
  stage = unsent_map g.stage (desk_stage c f y);
  prompt = record { gone = g.prompt.gone; unsent = g.prompt.unsent };
  timely = record { gone = g.timely.gone; unsent = g.timely.unsent };
}
