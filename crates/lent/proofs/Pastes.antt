-- The laws of writing: stores, and parts one behind the other.
use Prim.Native.Nat.{ℕ, zero, suc, ◌+◌, ◌≤◌, ◌<◌}
use mathlib.Core.List.{List, [], ◌∷◌, ◌++◌, append_assoc}
use mathlib.Core.Path.{◌≡◌, sym, ◌∙◌}
use native.Mathlib.Nat.{add-zero}
use native.Mathlib.Numerals.{add-one}
use native.Mathlib.Omega.{arith}
use lib.ListN.{length, take, drop, get_or, set}
use lib.Seq.{paste, paste-zero, paste-suc, take-paste, drop-paste, take_all, take-append-add, drop-drop}

-- the stores of r's entries 0 .. k from `at` on, one after the other
unfoldable pub stored : List ℕ → ℕ → List ℕ → ℕ → List ℕ
stored o at r zero = set o at (get_or r 0 0)
stored o at r (suc k) = set (stored o at r k) (at + suc k) (get_or r (suc k) 0)

module _ (o : List ℕ) (at : ℕ) (r : List ℕ) where
  pub stored_paste : (k : ℕ) → at + suc k ≤ length o → suc k ≤ length r → stored o at r k ≡ paste o at r (suc k)
  unfolding stored
  stored_paste zero l m = rw (← paste-zero o at r, add-zero at) at (paste-suc o at r 0 0 (omega arith) (omega arith))
  stored_paste (suc k) l m = rw (stored_paste k (omega arith) (omega arith)) (paste-suc o at r (suc k) 0 (omega arith) (omega arith))

pub byte_stored : (o : List ℕ) (at b : ℕ) → at < length o → set o at b ≡ paste o at (b ∷ []) 1
byte_stored o at b h = rw (← paste-zero o at (b ∷ []), add-zero at) at (paste-suc o at (b ∷ []) 0 0 (omega arith) (omega arith))

-- the loop that copies: one entry more
pub paste_on : (o : List ℕ) (at : ℕ) (v : List ℕ) (k : ℕ) → at + length v ≤ length o → k < length v → set (paste o at v k) (at + k) (get_or v k 0) ≡ paste o at v (k + 1)
paste_on o at v k l h = rw (add-one) (paste-suc o at v k 0 (omega arith) h)

-- two parts stored, one behind the other
pub parts : {p q : List ℕ} (o : List ℕ) (at : ℕ) (a b : List ℕ) (i j : ℕ) → p ≡ paste o at a i → q ≡ paste p (at + i) b j → length a ≡ i → j ≤ length b → at + (i + j) ≤ length o
    → q ≡ paste o at (a ++ b) (i + j)
parts o at a b i j e f g h l =
    let t : take (at + i) (paste o at a i) ≡ take at o ++ take i a = take-paste o at a i (omega arith) (omega arith) in
    let d : drop (at + i + j) (paste o at a i) ≡ drop (at + i + j) o =
    sym (drop-drop j (at + i) (paste o at a i)) ∙ rw (drop-paste o at a i (omega arith) (omega arith)) (drop-drop j (at + i) o) in
    let s : at + (i + j) ≡ at + i + j = omega arith in
    let u : take (i + j) (a ++ b) ≡ a ++ take j b = rw g at (take-append-add a b j) in
    rw (f, e, t, d, s, u, take_all i a (omega arith), append_assoc (take at o) a (take j b))
