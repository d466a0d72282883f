-- One record of a table changed, seen by one of its numbers. Assumes nothing.
use Rattle.std.proofs.Common.{◌≡◌, ℕ, ◌+◌, ◌^◌, ◌<◌, min, List, map, length, get_or, set, sym, ap, ◌∙◌, arith}
use Rattle.std.proofs.lemmas.List.{map-set, set-get_or, get_or-map}
use Rattle.tick_machine.specs.Machine.{raise}
use Rattle.link.specs.declared.session.Session.{Session}

module _ (f : Session → ℕ) (xs : List Session) (i : ℕ) (old new : Session) (there : i < length xs) (is : old ≡ get_or xs i old) where
  reads : get_or (map f xs) i 0 ≡ f old
  reads = get_or-map f xs i old 0 there ∙ ap f (sym is)

  -- a number that rises
  pub map_raised : (n : ℕ) → f new ≡ min (f old + n) 18446744073709551615 → get_or (map f xs) i 0 + n < 2 ^ 64 → map f (set xs i new) ≡ raise i n (map f xs)
  map_raised n e fits =
      let same : f new ≡ get_or (map f xs) i 0 + n = omega (arith, reads, e) in
      map-set f xs i new ∙ ap (λ x. set (map f xs) i x) same

  -- a number that stays
  pub map_kept : f new ≡ f old → map f (set xs i new) ≡ map f xs
  map_kept e = map-set f xs i new ∙ ap (λ x. set (map f xs) i x) (e ∙ sym reads) ∙ set-get_or (map f xs) i 0
