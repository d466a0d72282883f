-- The two facts of ownership, for sessions that own their positions in blocks. Nothing else looks into `holder`. Assumes nothing.
use Rattle.std.proofs.Common.{◌≡◌, ℕ, zero, suc, ◌+◌, ◌-◌, ◌<◌, ◌≤◌, Bool, eqb, ltb, List, [], ◌∷◌, ap, ◌∙◌, ⊎_elim, arith}
use lib.Dec.{eqb-zero-suc, eqb-suc-zero, eqb-suc-suc}
use Rattle.std.proofs.lemmas.Bool.{lt-ltb, le-ltb, cond-true, cond-false, cases_lt}
use Rattle.tick_machine.specs.Lists.{count}
use Rattle.tick_machine.specs.Slots.{round_length, holder, EachPositionHasOneOwner, EachSessionOwnsItsWeight}
use Rattle.tick_machine.proofs.Counts.{count_same, count_all, count_none, count_split}

pub holder_front : (w p : ℕ) (ws : List ℕ) → p < w → holder (w ∷ ws) p ≡ 0
unfolding holder
holder_front w p ws l = cond-true (ltb p w) 0 (suc (holder ws (p - w))) (lt-ltb p w l)

pub holder_back : (w p : ℕ) (ws : List ℕ) → w ≤ p → holder (w ∷ ws) p ≡ suc (holder ws (p - w))
unfolding holder
holder_back w p ws l = cond-false (ltb p w) 0 (suc (holder ws (p - w))) (le-ltb p w l)

pub position_has_one_owner : EachPositionHasOneOwner
position_has_one_owner [] p l = absurd (omega arith)
position_has_one_owner (w ∷ ws) p l =
    ⊎_elim
    (λ (front : p < w). omega (arith, holder_front w p ws front))
    (λ (back : w ≤ p). omega (arith, holder_back w p ws back, position_has_one_owner ws (p - w) (omega arith)))
    (cases_lt p w)

pub session_owns_its_weight : EachSessionOwnsItsWeight
session_owns_its_weight [] i l = absurd (omega arith)
session_owns_its_weight (w ∷ ws) zero l =
    let n = round_length ws in
    let f : ℕ → Bool = λ p. eqb (holder (w ∷ ws) p) 0 in
    let front : count f w ≡ w
    = count_all f w (λ p k. ap (λ x. eqb x 0) (holder_front w p ws k)) in
    let back : count (λ p. f (w + p)) n ≡ 0
    = count_none (λ p. f (w + p)) n
    (λ p k. ap (λ x. eqb x 0) (holder_back w (w + p) ws (omega arith)) ∙ eqb-suc-zero (holder ws ((w + p) - w))) in
    omega (arith, count_split f w n)
session_owns_its_weight (w ∷ ws) (suc i) l =
    let n = round_length ws in
    let f : ℕ → Bool = λ p. eqb (holder (w ∷ ws) p) (suc i) in
    let front : count f w ≡ 0
    = count_none f w (λ p k. ap (λ x. eqb x (suc i)) (holder_front w p ws k) ∙ eqb-zero-suc i) in
    let back : count (λ p. f (w + p)) n ≡ count (λ p. eqb (holder ws p) i) n
    = count_same (λ p. f (w + p)) (λ p. eqb (holder ws p) i) n
    (λ p k.
    let d : (w + p) - w ≡ p = omega arith in
    ap (λ x. eqb x (suc i)) (holder_back w (w + p) ws (omega arith))
    ∙ eqb-suc-suc (holder ws ((w + p) - w)) i ∙ ap (λ x. eqb (holder ws x) i) d) in
    omega (arith, count_split f w n, session_owns_its_weight ws i (omega arith))
