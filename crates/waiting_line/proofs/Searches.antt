-- What a binary search for a stamp tells of a list in order. Assumes nothing.
use Rattle.std.proofs.Common.{◌≡◌, ℕ, ◌<◌, ◌≤◌, true, List, length, get_or, Ok, Err, sym, arith}
use Rattle.std.specs.List.Sorted.{IsBinarySearchResult, IsNonDecreasingBy}
use Rattle.std.specs.Ordering.{nat_cmp, ordering_index}
use Rattle.std.proofs.lemmas.Bool.Decides.{nat_tests}
use Rattle.std.proofs.lemmas.Cmp.{ranked}
use Rattle.std.proofs.lemmas.List.Sorted.{IsNonDecreasingBy-from_default}
use Rattle.waiting_line.specs.declared.pair.Pair.{Pair}
use Rattle.waiting_line.specs.Lines.{holds}
use Rattle.waiting_line.specs.Kept.{blank, in_order}
use Rattle.waiting_line.specs.Orders.{order_at, found}

module _ (ps : List Pair) (o : in_order ps ≡ true) (s : ℕ) where
  -- the comparisons with s rise along the list
  comparisons_rise : IsNonDecreasingBy (λ p. ordering_index (nat_cmp p.stamp s)) ps
  comparisons_rise = IsNonDecreasingBy-from_default (λ p. ordering_index (nat_cmp p.stamp s)) ps blank (λ i j le l.
      let stamps_rise : (get_or ps i blank).stamp ≤ (get_or ps j blank).stamp = order_at ps i j o le l in
      grind (arith, nat_tests))

  -- the stamp that was found is there
  pub found_there : (i : ℕ) → i < length ps → IsBinarySearchResult (λ p. nat_cmp p.stamp s) ps (Ok i) → holds s ps ≡ true
  found_there i l h = found ps i s l (sym (ranked _ s _ (sym (h blank))))

  -- the stamps before the place are less, those from it on more
  pub less_before : (i : ℕ) → i ≤ length ps → IsBinarySearchResult (λ p. nat_cmp p.stamp s) ps (Err i) → (k : ℕ) → k < i → (get_or ps k blank).stamp < s
  less_before i le h k l = ranked _ s _ (sym ((h comparisons_rise).0 k blank (omega arith) l))

  pub more_behind : (i : ℕ) → IsBinarySearchResult (λ p. nat_cmp p.stamp s) ps (Err i) → i < length ps → s < (get_or ps i blank).stamp
  more_behind i h l = ranked _ s _ (sym ((h comparisons_rise).1 i blank (omega arith) l))
