-- What the line does in a tick: it sends one byte of what is unsent, if there is any. Assumes nothing.
use Rattle.std.proofs.Common.{◌≡◌, ℕ, zero, suc, ◌+◌, ◌-◌, ◌<◌, ◌≤◌, leb, ◌⊎◌, List, [], ◌∷◌, refl, inl, inr, ⊎_elim, arith, Some, None}
use Rattle.std.proofs.lemmas.Bool.Decides.{nat_tests}
use Rattle.std.proofs.lemmas.Bool.{cases_lt, le-leb}
use Rattle.tick_machine.specs.Lists.{total, only, All, none, more, Rising, insert}
use Rattle.tick_machine.specs.Sender.{Packet, Departed, Line, sending, Sender, onward, leaving, send, sent_off}
use Rattle.tick_machine.specs.Story.{going}
use Rattle.tick_machine.specs.Law.{On, idle, busy, Unsent}
use Rattle.tick_machine.specs.Books.{line_bytes, waiting_bytes, UnderWay}
use Rattle.tick_machine.proofs.Lists.{head, tail, all_map, all_zip, all_insert, total_each, only_yes}

pub line : {P : Packet → Type 0} {p : Packet} {started n : ℕ} → On P (sending p started n) → P p
line (busy h) = h

pub on_zip : {P Q R : Packet → Type 0} {l : Line} → On P l → On Q l → ((p : Packet) → P p → Q p → R p) → On R l
on_zip idle k f = idle
on_zip (busy h) k f = busy (f _ h (line k))

pub unsent_map : {P Q : Packet → Type 0} {s : Sender} → Unsent P s → ((p : Packet) → P p → Q p) → Unsent Q s
unsent_map {P} {Q} h f = record { on = on_zip h.on h.on (λ p x _. f p x); waits = all_map h.waits f }

pub unsent_zip : {P Q R : Packet → Type 0} {s : Sender} → Unsent P s → Unsent Q s → ((p : Packet) → P p → Q p → R p) → Unsent R s
unsent_zip h k f = record { on = on_zip h.on k.on f; waits = all_zip h.waits k.waits f }

pub unsent_insert : {P : Packet → Type 0} (p : Packet) (s : Sender) → P p → Unsent P s
    → Unsent P (record { waiting = insert (λ q. q.stamp) p s.waiting; line = s.line })
unsent_insert p s h k = record { on = k.on; waits = all_insert (λ q. q.stamp) p s.waiting h k.waits }

-- the bytes of the waiting packets whose stamps are at most x
abbrev pub due : ℕ → List Packet → ℕ
due x ws = total (λ p. only (leb p.stamp x) p.size) ws

-- the bytes to be sent before the last packet with a stamp of at most x has left, if one is unsent
abbrev pub pending : ℕ → Line → List Packet → ℕ
pending x l ws = line_bytes l + due x ws

abbrev pub pending_of : ℕ → Sender → ℕ
pending_of x s = pending x s.line s.waiting

pub onward_bytes : (p : Packet) (started n : ℕ) → line_bytes (onward p started n) ≡ n
onward_bytes p started zero = refl
onward_bytes p started (suc n) = refl

due_none : (x : ℕ) (ws : List Packet) → All (λ p. x < p.stamp) ws → due x ws ≡ 0
due_none x [] h = refl
due_none x (p ∷ ws) (more h t) = let ih = due_none x ws t in grind (arith, nat_tests)

-- what is pending falls by a byte, or nothing was pending and the line takes a packet with a later stamp
pub send_pending : (x long clock : ℕ) (l : Line) (ws : List Packet)
    → UnderWay l → Rising (λ p. p.stamp) ws → All (λ p. (1 ≤ p.size) × (p.size ≤ long)) ws
    → (pending_of x (send clock l ws) + 1 ≤ pending x l ws) ⊎ ((pending x l ws ≡ 0) × (pending_of x (send clock l ws) ≤ long - 1))
send_pending x long clock None [] b r s = inr (refl, omega arith)
send_pending x long clock None (p ∷ ws) b r (more h k) =
    let e = onward_bytes p clock (p.size - 1) in
    ⊎_elim
    (λ (above : x < p.stamp). let nothing = due_none x ws (all_map r.0 (λ q k. omega arith)) in inr (grind (arith, nat_tests), omega arith))
    (λ (within : p.stamp ≤ x). inl (grind (arith, nat_tests)))
    (cases_lt x p.stamp)
send_pending x long clock (Some on_it) ws b r s = inl (omega (arith, onward_bytes on_it.packet on_it.started (on_it.rest - 1)))

-- all that is unsent falls by a byte, if there is one
pub send_work : (clock : ℕ) (l : Line) (ws : List Packet) → UnderWay l → All (λ p. 1 ≤ p.size) ws
    → line_bytes (send clock l ws).line + waiting_bytes (send clock l ws).waiting ≡ (line_bytes l + waiting_bytes ws) - 1
send_work clock None [] b h = refl
send_work clock None (p ∷ ws) b h = omega (arith, onward_bytes p clock (p.size - 1), head h)
send_work clock (Some on_it) ws b h = omega (arith, onward_bytes on_it.packet on_it.started (on_it.rest - 1))

pub onward_on : {P : Packet → Type 0} (p : Packet) (started n : ℕ) → P p → On P (onward p started n)
onward_on p started zero h = idle
onward_on p started (suc n) h = busy h

-- the packets that are unsent after a tick were so before it
pub send_unsent : {P : Packet → Type 0} (clock : ℕ) (s : Sender) → Unsent P s → Unsent P (send clock s.line s.waiting)
send_unsent {P} clock s u = go s.line s.waiting u.on u.waits
  where
    go : (l : Line) (ws : List Packet) → On P l → All P ws → Unsent P (send clock l ws)
    go None [] h k = record { on = idle; waits = none }
    go None (p ∷ ws) h k = record { on = onward_on p clock (p.size - 1) (head k); waits = tail k }
    go (Some b) ws h k = record { on = onward_on b.packet b.started (b.rest - 1) (line h); waits = k }

-- what is gone: what was, and perhaps one that was unsent
pub send_gone : (Q : Packet → ℕ → Type 0) (clock : ℕ) (s : Sender) (gone : List Departed)
    → Unsent (λ p. Q p (clock + 1)) s → All (λ (d : Departed). Q d.packet d.left) gone
    → All (λ (d : Departed). Q d.packet d.left) (going (sent_off clock s.line s.waiting) gone)
send_gone Q clock s gone u g = go s.line s.waiting u.on u.waits
  where
    last : (n started : ℕ) (p : Packet) → Q p (clock + 1) → All (λ (d : Departed). Q d.packet d.left) (going (leaving (clock + 1) p started n) gone)
    last zero started p h = more h g
    last (suc n) started p h = g

    go : (l : Line) (ws : List Packet) → On (λ p. Q p (clock + 1)) l → All (λ p. Q p (clock + 1)) ws
        → All (λ (d : Departed). Q d.packet d.left) (going (sent_off clock l ws) gone)
    go None [] h k = g
    go None (p ∷ ws) h k = last (p.size - 1) clock p (head k)
    go (Some b) ws h k = last (b.rest - 1) b.started b.packet (line h)

-- what waits: a part of what did
pub send_waiting : (P : List Packet → Type 0) (clock : ℕ) (l : Line) (ws : List Packet)
    → P ws → ((p : Packet) (vs : List Packet) → P (p ∷ vs) → P vs) → P (send clock l ws).waiting
send_waiting P clock None [] h f = h
send_waiting P clock None (p ∷ ws) h f = f p ws h
send_waiting P clock (Some b) ws h f = h

onward_under_way : (n started : ℕ) (p : Packet) → n < p.size → UnderWay (onward p started n)
onward_under_way zero started p h = tt
onward_under_way (suc n) started p h = (omega arith, h)

pub send_under_way : (clock : ℕ) (l : Line) (ws : List Packet) → UnderWay l → All (λ p. 1 ≤ p.size) ws → UnderWay (send clock l ws).line
send_under_way clock None [] b h = tt
send_under_way clock None (p ∷ ws) b h = onward_under_way (p.size - 1) clock p (omega (arith, head h))
send_under_way clock (Some on_it) ws b h = onward_under_way (on_it.rest - 1) on_it.started on_it.packet (omega arith)

-- an unsent packet has something pending
pub live : (l : Line) (ws : List Packet) → UnderWay l → All (λ p. 1 ≤ p.size) ws
    → On (λ p. 1 ≤ pending p.stamp l ws) l × All (λ p. (1 ≤ pending p.stamp l ws) × (p.size ≤ due p.stamp ws)) ws
live l ws b h = (
  on l b,
  all_zip h (total_each (λ p q. only (leb q.stamp p.stamp) q.size) ws) (λ p s e.
      let whole : p.size ≤ due p.stamp ws
      = omega (arith, only_yes (leb p.stamp p.stamp) p.size (le-leb p.stamp p.stamp (omega arith))) in
      (omega arith, whole)),
)
  where
    on : (k : Line) → UnderWay k → On (λ p. 1 ≤ pending p.stamp k ws) k
    on None c = idle
    on (Some b) c = busy (omega arith)
