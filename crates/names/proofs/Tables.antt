-- What is proved of the standard's table, once, by tests that are computed at each entry.
use Prim.Native.Nat.{ℕ, zero, suc, ◌+◌, ◌-◌, ◌<◌}
use mathlib.Core.Bool.{Bool, true, false, ◌&&◌}
use mathlib.Core.List.{List, [], ◌∷◌}
use mathlib.Core.Path.{◌≡◌, refl}
use native.Mathlib.Omega.{arith}
use lib.Dec.{T}
use lib.ListN.{length, get_or}
use Rattle.text_bytes.specs.Bytes.{is_lower, within}
use Rattle.text_bytes.proofs.Ranges.{across}
use Rattle.names.specs.Keywords.{keywords}
use Rattle.std.specs.Ordering.{is_lt}
use Rattle.std.specs.declared.cmp.Ordering.{Ordering}
use Rattle.std.specs.declared.cmp.Ordering.TheVariants.{Less, Equal, Greater}
use Rattle.names.specs.Order.{order}
use Rattle.names.specs.Search.{nth}
use Rattle.names.proofs.Orders.{order_trans}

pub holds_true : (b : Bool) → T b → true ≡ b
holds_true true t = refl
holds_true false t = absurd t

pub table_count : length keywords ≡ 147
unfolding keywords
table_count = refl

is_less : (o : Ordering) → T (is_lt o) → o ≡ Less
is_less Less t = refl
is_less Equal t = absurd t
is_less Greater t = absurd t

-- the names stand in strictly rising order
pub table_rises : (k : ℕ) → k + 1 < 147 → order (nth k).name (nth (k + 1)).name ≡ Less
unfolding keywords
table_rises k h = is_less _ (across (λ j. is_lt (order (nth j).name (nth (j + 1)).name)) 0 146 tt k (omega arith) (omega arith))

-- any two of them, and not only neighbours
apart : (d i : ℕ) → i + suc d < 147 → order (nth i).name (nth (i + suc d)).name ≡ Less
apart zero i h = table_rises i h
apart (suc d) i h =
    let e : i + suc (suc d) ≡ i + suc d + 1 = omega arith in
    rw e (order_trans (nth i).name (nth (i + suc d)).name (nth (i + suc d + 1)).name (apart d i (omega arith)) (table_rises (i + suc d) (omega arith)))

pub table_order : (i j : ℕ) → i < j → j < 147 → order (nth i).name (nth j).name ≡ Less
table_order i j p q =
    let e : j ≡ i + suc (j - (i + 1)) = omega arith in
    rw e (apart (j - (i + 1)) i (omega arith))

-- small letters alone
unfoldable pub all_lower : List ℕ → Bool
all_lower [] = true
all_lower (x ∷ xs) = is_lower x && all_lower xs

pub table_lower : (k : ℕ) → k < 147 → T (all_lower (nth k).name)
unfolding keywords within all_lower
table_lower k h = across (λ j. all_lower (nth j).name) 0 147 tt k (omega arith) (omega arith)

-- and at least one of them
pub table_letter : (k : ℕ) → k < 147 → true ≡ is_lower (get_or (nth k).name 0 0)
unfolding keywords within
table_letter k h = holds_true _ (across (λ j. is_lower (get_or (nth j).name 0 0)) 0 147 tt k (omega arith) (omega arith))
