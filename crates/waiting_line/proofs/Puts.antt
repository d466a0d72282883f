-- What the answers of a waiting line tell its caller, and what a caller can foresee. Assumes nothing.
use Rattle.std.proofs.Common.{◌≡◌, ℕ, ◌<◌, ◌≤◌, Bool, true, false, cond, eqb, ltb, List, [], ◌∷◌, length, is_ok, Some, None, Ok, Err, Result, refl, arith}
use Rattle.std.proofs.lemmas.Bool.{ltb-true, ltb-false, lt-ltb, le-ltb, ne_eqb, eqb-false, or_from, or_parts}
use Rattle.tick_machine.specs.Lists.{All, none, more, insert}
use Rattle.tick_machine.specs.declared.refusal.LineRefusal.{LineRefusal}
use Rattle.tick_machine.specs.declared.refusal.LineRefusal.TheVariants.{Full, Twice}
use Rattle.waiting_line.specs.declared.pair.Pair.{Pair}
use Rattle.waiting_line.specs.Lines.{stamp_of, holds, room_answer, put_answer, put_after, first, rest}

-- the answer, and the list after it, by the two tests: there is room, the stamp is there
abbrev by_tests : Bool → Bool → Result (Unit {0}) LineRefusal
by_tests b h = cond b (cond h (Err Twice) (Ok tt)) (Err Full)

abbrev left_by : Bool → Bool → List Pair → List Pair → List Pair
left_by b h ys ps = cond (is_ok (by_tests b h)) ys ps

module _ (ps : List Pair) (most : ℕ) (p : Pair) where
  at_tests : (b h : Bool) → ltb (length ps) most ≡ b → holds p.stamp ps ≡ h → (put_answer ps most p ≡ by_tests b h) × (put_after ps most p ≡ left_by b h (insert stamp_of p ps) ps)
  at_tests b h e f = (λ i. by_tests (e i) (f i), λ i. left_by (e i) (f i) (insert stamp_of p ps) ps)

  -- room, and the stamp not there: accepted
  pub put_accepted : length ps < most → holds p.stamp ps ≡ false → (put_answer ps most p ≡ Ok tt) × (put_after ps most p ≡ insert stamp_of p ps)
  put_accepted l f = at_tests true false (lt-ltb _ _ l) f

  -- room, and the stamp there
  pub put_twice : length ps < most → holds p.stamp ps ≡ true → (put_answer ps most p ≡ Err Twice) × (put_after ps most p ≡ ps)
  put_twice l f = at_tests true true (lt-ltb _ _ l) f

  -- no room, whether the stamp is there or not
  full_by : (h : Bool) → most ≤ length ps → holds p.stamp ps ≡ h → (put_answer ps most p ≡ Err Full) × (put_after ps most p ≡ ps)
  full_by true l f = at_tests false true (le-ltb _ _ l) f
  full_by false l f = at_tests false false (le-ltb _ _ l) f

  pub put_full : most ≤ length ps → (put_answer ps most p ≡ Err Full) × (put_after ps most p ≡ ps)
  put_full l = full_by (holds p.stamp ps) l refl

  -- what each answer tells
  told_ok : (b h : Bool) → ltb (length ps) most ≡ b → holds p.stamp ps ≡ h → by_tests b h ≡ Ok tt → (length ps < most) × (holds p.stamp ps ≡ false) × (put_after ps most p ≡ insert stamp_of p ps)
  told_ok true true e f w = absurd (let z : ◌≡◌ {A = ℕ} 0 1 = cc in omega arith)
  told_ok true false e f w = (ltb-true _ _ e, f, (at_tests true false e f).1)
  told_ok false h e f w = absurd (let z : ◌≡◌ {A = ℕ} 0 1 = cc in omega arith)

  pub accepted_tells : put_answer ps most p ≡ Ok tt → (length ps < most) × (holds p.stamp ps ≡ false) × (put_after ps most p ≡ insert stamp_of p ps)
  accepted_tells w = told_ok (ltb (length ps) most) (holds p.stamp ps) refl refl w

  told_full : (b h : Bool) → ltb (length ps) most ≡ b → by_tests b h ≡ Err Full → most ≤ length ps
  told_full true true e w = absurd (let z : ◌≡◌ {A = ℕ} 0 1 = cc in omega arith)
  told_full true false e w = absurd (let z : ◌≡◌ {A = ℕ} 0 1 = cc in omega arith)
  told_full false h e w = ltb-false _ _ e

  pub full_tells : put_answer ps most p ≡ Err Full → most ≤ length ps
  full_tells w = told_full (ltb (length ps) most) (holds p.stamp ps) refl w

  told_twice : (b h : Bool) → ltb (length ps) most ≡ b → holds p.stamp ps ≡ h → by_tests b h ≡ Err Twice → (length ps < most) × (holds p.stamp ps ≡ true)
  told_twice true true e f w = (ltb-true _ _ e, f)
  told_twice true false e f w = absurd (let z : ◌≡◌ {A = ℕ} 0 1 = cc in omega arith)
  told_twice false h e f w = absurd (let z : ◌≡◌ {A = ℕ} 0 1 = cc in omega arith)

  pub twice_tells : put_answer ps most p ≡ Err Twice → (length ps < most) × (holds p.stamp ps ≡ true)
  twice_tells w = told_twice (ltb (length ps) most) (holds p.stamp ps) refl refl w

  told_refused : (b h : Bool) (e : LineRefusal) → by_tests b h ≡ Err e → (ys : List Pair) → left_by b h ys ps ≡ ps
  told_refused true true e w ys = refl
  told_refused true false e w ys = absurd (let z : ◌≡◌ {A = ℕ} 0 1 = cc in omega arith)
  told_refused false h e w ys = refl

  pub refused_keeps : (e : LineRefusal) → put_answer ps most p ≡ Err e → put_after ps most p ≡ ps
  refused_keeps e w = told_refused (ltb (length ps) most) (holds p.stamp ps) e w (insert stamp_of p ps)

-- what the answer of `room` tells
room_by : (ps : List Pair) (most : ℕ) (b : Bool) → ltb (length ps) most ≡ b → cond {A = Result (Unit {0}) LineRefusal} b (Ok tt) (Err Full) ≡ Ok tt → length ps < most
room_by ps most true e w = ltb-true _ _ e
room_by ps most false e w = absurd (let z : ◌≡◌ {A = ℕ} 0 1 = cc in omega arith)

pub room_tells : (ps : List Pair) (most : ℕ) → room_answer ps most ≡ Ok tt → length ps < most
room_tells ps most w = room_by ps most (ltb (length ps) most) refl w

-- a stamp is not there exactly if no pair has it
pub holds_none : (s : ℕ) (ps : List Pair) → All (λ p. s ≡ p.stamp → ⊥) ps → holds s ps ≡ false
holds_none s [] h = refl
holds_none s (p ∷ ps) (more n h) = or_from _ _ (ne_eqb _ _ n) (holds_none s ps h)

pub none_holds : (s : ℕ) (ps : List Pair) → holds s ps ≡ false → All (λ p. s ≡ p.stamp → ⊥) ps
none_holds s [] h = none
none_holds s (p ∷ ps) h = let a = or_parts (eqb s p.stamp) (holds s ps) h in more (eqb-false _ _ a.0) (none_holds s ps a.1)

-- what `least` and `take` tell
pub some_tells : (ps : List Pair) (p : Pair) → Some p ≡ first ps → ps ≡ p ∷ rest ps
some_tells [] p e = absurd (let z : ◌≡◌ {A = ℕ} 0 1 = cc in omega arith)
some_tells (q ∷ ps) p e = let same : q ≡ p = cc in λ i. same i ∷ ps

pub none_tells : (ps : List Pair) → None ≡ first ps → ps ≡ []
none_tells [] e = refl
none_tells (q ∷ ps) e = absurd (let z : ◌≡◌ {A = ℕ} 0 1 = cc in omega arith)
