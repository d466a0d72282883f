-- What the round server does in a tick: it serves the lowest owed slot, if there is one. Assumes nothing.
use Rattle.std.proofs.Common.{◌≡◌, ℕ, ◌+◌, ◌-◌, ◌<◌, ◌≤◌, eqb, ltb, leb, ◌⊎◌, List, [], ◌∷◌, length, refl, ap, ◌∙◌, inl, inr, ⊎_elim, arith}
use Rattle.std.proofs.lemmas.Bool.Decides.{nat_tests}
use Rattle.std.proofs.lemmas.Bool.{cases_order}
use Rattle.tick_machine.specs.Lists.{total, only, All, more, Rising}
use Rattle.tick_machine.specs.Slots.{owner}
use Rattle.tick_machine.specs.Round.{Round, serve, served_slot}
use Rattle.tick_machine.specs.Story.{Served, serving}
use Rattle.tick_machine.proofs.Lists.{head, all_map}
use Rattle.tick_machine.proofs.Slots.{Fresh}
use Rattle.tick_machine.proofs.Known.{times}

-- how many of the slots are at most x
abbrev pub upto : ℕ → List ℕ → ℕ
upto x os = total (λ q. only (leb q x) 1) os

-- how many of them are session i's, and how many of these lie above s
abbrev pub own : List ℕ → ℕ → List ℕ → ℕ
own ws i os = total (λ q. only (eqb (owner ws q) i) 1) os

abbrev pub own_above : List ℕ → ℕ → ℕ → List ℕ → ℕ
own_above ws i s os = total (λ q. only (eqb (owner ws q) i) (only (ltb s q) 1)) os

-- serving lowers a count by at most one
pub serve_total : (f : ℕ → ℕ) → ((q : ℕ) → f q ≤ 1) → (os : List ℕ) (r : Round) → total f os ≤ total f (serve os r).owed + 1
serve_total f h [] r = omega arith
serve_total f h (q ∷ qs) r = omega (arith, h q)

pub serve_length : (os : List ℕ) (r : Round) → length (serve os r).owed ≡ length os - 1
serve_length [] r = refl
serve_length (q ∷ qs) r = omega arith

-- what is served is served now or was before
pub serve_served : {Q : Served → Type 0} {v : ℕ} {bs : List Served} (t : ℕ) (os : List ℕ)
    → All (λ q. v ≤ q) os → All Q bs → ((q : ℕ) → v ≤ q → Q (record { slot = q; at = t })) → All Q (serving t (served_slot os) bs)
serve_served t [] a h f = h
serve_served t (q ∷ qs) a h f = more (f q (head a)) h

pub serve_cursor : (os : List ℕ) (r : Round) → All (λ q. r.cursor ≤ q) os → r.cursor ≤ (serve os r).cursor
serve_cursor [] r a = omega arith
serve_cursor (q ∷ qs) r a = omega (arith, head a)

pub serve_past : (t : ℕ) (os : List ℕ) (r : Round) (bs : List Served) → All (λ q. r.cursor ≤ q) os → All (λ (b : Served). b.slot < r.cursor) bs
    → All (λ (b : Served). b.slot < (serve os r).cursor) (serving t (served_slot os) bs)
serve_past t [] r bs a h = h
serve_past t (q ∷ qs) r bs a h = more (omega arith) (all_map h (λ b l. omega (arith, head a)))

pub serve_next : (os : List ℕ) (r : Round) → r.next ≡ (serve os r).next
serve_next [] r = refl
serve_next (q ∷ qs) r = refl

-- an owed slot s stays owed, and the cursor comes nearer
pub record Still (ws : List ℕ) (i s v : ℕ) (os : List ℕ) (r : Round) : Type 0 where
  pub ahead : r.cursor ≤ s
  pub nearer : v + 1 ≤ r.cursor
  pub there : 1 ≤ times s r.owed
  pub kept : own_above ws i s os ≤ own_above ws i s r.owed

-- or it is served
pub record Done (ws : List ℕ) (i s : ℕ) (os : List ℕ) (r : Round) : Type 0 where
  pub past : s < r.cursor
  pub clear : upto s r.owed ≡ 0
  pub kept : own_above ws i s os ≤ own ws i r.owed

none_upto : (s : ℕ) (qs : List ℕ) → All (λ q. s < q) qs → upto s qs ≡ 0
none_upto s [] h = refl
none_upto s (q ∷ qs) (more h t) = let ih = none_upto s qs t in grind (arith, nat_tests)

not_there : (s : ℕ) (qs : List ℕ) → All (λ q. s < q) qs → times s qs ≡ 0
not_there s [] h = refl
not_there s (q ∷ qs) (more h t) = let ih = not_there s qs t in grind (arith, nat_tests)

above_own : (ws : List ℕ) (i s : ℕ) (qs : List ℕ) → own_above ws i s qs ≤ own ws i qs
above_own ws i s [] = omega arith
above_own ws i s (q ∷ qs) = let ih = above_own ws i s qs in grind (arith, nat_tests)

pub serve_open : (ws : List ℕ) (i s : ℕ) (os : List ℕ) (r : Round)
    → Rising (λ q. q) os → All (λ q. r.cursor ≤ q) os → 1 ≤ times s os
    → Still ws i s r.cursor os (serve os r) ⊎ Done ws i s os (serve os r)
serve_open ws i s [] r u a h = absurd (omega arith)
serve_open ws i s (q ∷ qs) r u a h =
    ⊎_elim
    (λ (e : q ≡ s). inr (record {
      past = omega arith;
      clear = none_upto s qs (all_map u.0 (λ o l. omega arith));
      kept = let most = above_own ws i s qs in grind (arith, nat_tests);
    }))
    (⊎_elim
    (λ (l : q < s). inl (record { ahead = omega arith; nearer = omega (arith, head a); there = grind (arith, nat_tests); kept = grind (arith, nat_tests) }))
    (λ (l : s < q). let none_there = not_there s qs (all_map u.0 (λ o k. omega arith)) in absurd (grind (arith, nat_tests))))
    (cases_order q s)

-- the slots that a packet gets, counted
pub upto_all : (t x : ℕ) (qs : List ℕ) → All (λ q. q ≤ t) qs → t ≤ x → upto x qs ≡ length qs
upto_all t x [] h l = refl
upto_all t x (q ∷ qs) (more h k) l = let ih = upto_all t x qs k l in grind (arith, nat_tests)

own_all : (ws : List ℕ) (i j low : ℕ) (qs : List ℕ) → All (λ q. (low ≤ q) × (owner ws q ≡ i)) qs → own ws j qs ≡ only (eqb i j) (length qs)
own_all ws i j low [] h = grind (arith, nat_tests)
own_all ws i j low (q ∷ qs) (more h k) = let ih = own_all ws i j low qs k in grind (arith, nat_tests)

above_all : (ws : List ℕ) (i j s low : ℕ) (qs : List ℕ) → (i ≡ j → s < low) → All (λ q. (low ≤ q) × (owner ws q ≡ i)) qs
    → own_above ws j s qs ≡ only (eqb i j) (length qs)
above_all ws i j s low [] l h = grind (arith, nat_tests)
above_all ws i j s low (q ∷ qs) l (more h k) = let ih = above_all ws i j s low qs l k in grind (arith, nat_tests)

pub got_own : (ws : List ℕ) (i n low : ℕ) (got : List ℕ) → Fresh ws i n low got → (j : ℕ) → own ws j got ≡ only (eqb i j) n
got_own ws i n low got f j = own_all ws i j low got f.mine ∙ ap (only (eqb i j)) f.count

pub got_above : (ws : List ℕ) (i n low : ℕ) (got : List ℕ) → Fresh ws i n low got → (j s : ℕ) → (i ≡ j → s < low)
    → own_above ws j s got ≡ only (eqb i j) n
got_above ws i n low got f j s l = above_all ws i j s low got l f.mine ∙ ap (only (eqb i j)) f.count
