-- What single calls of filter_functions::next return, on two lists and on both: x and y are what they returned, by its contract.
use Prim.Native.Nat.{ℕ, ◌≤◌}
use mathlib.Core.List.{List, ◌++◌}
use mathlib.Core.Path.{◌≡◌, sym, ◌∙◌}
use lib.ListN.{length}
use Rattle.std.specs.Prelude.{Ok}
use Rattle.text_bytes.specs.Bytes.{is_space}
use Rattle.utf8.specs.Characters.{utf8_of, characters}
use Rattle.text_bytes.specs.Scan.{scan}
use Rattle.filter_functions.specs.Filters.{next_filter}
use Rattle.filter_functions.specs.Filters.{FilterStep}
use Rattle.joins.specs.Joins.{Unchanged, Meets}
use Rattle.joins.proofs.Edge.{next_shift, next_more, next_passing, next_seam}

module _ (a b s : List ℕ) (i : ℕ) (j : s ≡ a ++ b) (u : utf8_of a ≡ Ok tt) (w : utf8_of b ≡ Ok tt) (l : length s ≤ 4096) where
  small : length (a ++ b) ≤ 4096
  small = rw (← j) l

  pub first_returned : {x y : FilterStep} → x ≡ next_filter a i → y ≡ next_filter s i → Unchanged (length a) (scan is_space b 0) x y
  first_returned f g v p e =
      let h = sym f ∙ e in
      rw (g, j, e, next_more a b u w small i v p h, next_passing a b u w small i v p h)

  pub seam_returned : {x y z : FilterStep} → z ≡ next_filter a i → x ≡ next_filter b 0 → y ≡ next_filter s i → Meets (length a) (characters a) z x y
  seam_returned f g h p e = rw (h, g, j, next_seam a b u w small i p (sym f ∙ e), next_shift a b u w small 0)

pub ruleset returned = (first_returned, seam_returned)
