-- ASCII before a text and spaces behind it do not change whether it may be read.
use Prim.Native.Nat.{ℕ, zero, suc, ◌≤◌, ◌<◌}
use mathlib.Core.Bool.{true}
use mathlib.Core.List.{List, [], ◌∷◌, ◌++◌}
use mathlib.Core.Path.{◌≡◌, refl, sym}
use native.Mathlib.Omega.{arith}
use borrow.Author.Tests.{lt-ltb, le-leb}
use lib.ListN.{length, get_or, take, drop, take-append-drop}
use Rattle.std.specs.Prelude.{Ok}
use Rattle.utf8.specs.Characters.{is_ascii, utf8_of}
use Rattle.utf8.proofs.Walks.{ascii_utf8, utf8_join}
use Rattle.stream.specs.Refusals.{admit_utf8, admit_text}

pub admitted : (s : List ℕ) → length s ≤ 4096 → utf8_of s ≡ Ok tt → admit_text s ≡ Ok tt
unfolding admit_text admit_utf8
admitted s h u = simp (le-leb (length s) 4096 h, u)

pub join_utf8 : (a b : List ℕ) → utf8_of a ≡ Ok tt → utf8_of b ≡ Ok tt → utf8_of (a ++ b) ≡ Ok tt
join_utf8 a b u v = rw (utf8_join a b u, v) refl

module _ (n : ℕ) (s : List ℕ) (f : (j : ℕ) → j < n → get_or s j 0 < 128) where
  pub front_utf8 : utf8_of (take n s) ≡ Ok tt
  unfolding is_ascii
  front_utf8 = sym (ascii_utf8 (take n s) refl (go n s f))
    where
      go : (n : ℕ) (s : List ℕ) → ((j : ℕ) → j < n → get_or s j 0 < 128) → is_ascii (take n s) ≡ true
      go zero s f = refl
      go (suc n) [] f = refl
      go (suc n) (x ∷ xs) f = simp (lt-ltb x 128 (f 0 (omega arith)), go n xs (λ j h. f (suc j) (omega arith)))

  -- ASCII before a text
  pub ascii_before : utf8_of (drop n s) ≡ Ok tt → utf8_of s ≡ Ok tt
  ascii_before u = rw take-append-drop at (join_utf8 (take n s) (drop n s) front_utf8 u)
