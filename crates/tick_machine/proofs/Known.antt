-- Slots below their owner's next: the slots that a packet gets are none of them, and they stay so. Assumes nothing.
use Rattle.std.proofs.Common.{◌≡◌, ℕ, ◌+◌, ◌<◌, ◌≤◌, eqb, List, length, get_or, set, sym, ap, ◌∙◌, subst, ⊎_elim, arith, get_or-set_other, get_or-set_same}
use Rattle.std.proofs.lemmas.Bool.{cases_eq}
use Rattle.tick_machine.specs.Lists.{total, only, final}
use Rattle.tick_machine.specs.Slots.{owner}
use Rattle.tick_machine.proofs.Slots.{Fresh}

-- how often the slot stands in the list
abbrev pub times : ℕ → List ℕ → ℕ
times s os = total (λ q. only (eqb q s) 1) os

-- the slot is below its owner's next
abbrev pub Known : List ℕ → List ℕ → ℕ → Type 0
Known ws next q = q < get_or next (owner ws q) 0

module _ (ws : List ℕ) (i n low : ℕ) (got : List ℕ) (fresh : Fresh ws i n low got) where
  -- a known slot is none of the fresh ones
  pub known_apart : (next : List ℕ) → get_or next i 0 ≤ low → (s q : ℕ) → (low ≤ s) × (owner ws s ≡ i) → Known ws next q → q ≡ s → ⊥
  known_apart next l s q m k e =
      let j : owner ws q ≡ i = ap (owner ws) e ∙ m.1 in
      let k' : q < get_or next i 0 = subst (λ x. q < get_or next x 0) j k in
      omega (arith, m.0)

  -- and stays known
  pub known_more : (next : List ℕ) → get_or next i 0 ≤ low → i < length next → (q : ℕ) → Known ws next q → Known ws (set next i (final 0 got + 1)) q
  known_more next l h q k =
      ⊎_elim
      (λ (e : owner ws q ≡ i).
      let k' : q < get_or next i 0 = subst (λ x. q < get_or next x 0) e k in
      subst (λ x. q < get_or (set next i (final 0 got + 1)) x 0) (sym e)
      (omega (arith, get_or-set_same next i (final 0 got + 1) 0 h, fresh.stamp.0)))
      (λ (d : owner ws q ≡ i → ⊥). subst (λ x. q < x) (sym (get_or-set_other next i (owner ws q) (final 0 got + 1) 0 d)) k)
      (cases_eq (owner ws q) i)

  pub known_new : (next : List ℕ) → i < length next → (q : ℕ) → q ≤ final 0 got → owner ws q ≡ i → Known ws (set next i (final 0 got + 1)) q
  known_new next h q l e =
      subst (λ x. q < get_or (set next i (final 0 got + 1)) x 0) (sym e) (omega (arith, get_or-set_same next i (final 0 got + 1) 0 h))
