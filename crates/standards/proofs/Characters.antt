-- The bytes of characters, and where one starts.
use Prim.Native.Nat.{ℕ, ◌≤◌, ◌<◌}
use mathlib.Core.Bool.{Bool, true, false}
use mathlib.Core.List.{List, [], ◌∷◌}
use mathlib.Core.Path.{◌≡◌, refl}
use native.Mathlib.Omega.{arith}
use borrow.Author.Tests.{ne_eqb}
use lib.ListN.{length, get_or, length-append}
use Rattle.std.specs.Prelude.{Ok}
use Rattle.text_bytes.specs.Bytes.{is_tail}
use Rattle.utf8.specs.Characters.{utf8_of, firsts, on_character}
use Rattle.utf8.proofs.Counting.{on_byte, on_end}
use Rattle.standards.specs.Rfc3629.{Char, utf8_1, utf8_2, utf8_3_e0, utf8_3_e1, utf8_3_ed, utf8_3_ee, utf8_4_f0, utf8_4_f1, utf8_4_f4, octets, text, scalar}
use Rattle.standards.specs.CssSyntax3.{Of, characters, written}
use Rattle.standards.proofs.Runs.{every, every_append}
use Rattle.standards.proofs.Utf8.{octets_some, Written, utf8_accepts}
use Rattle.standards.proofs.Cursors.{At, at_get, at_inside}

-- a class that has all bytes from 128 on has those of a character, if it has its number
module _ (p : ℕ → Bool) (high : (n : ℕ) → 128 ≤ n → p n ≡ true) where
  pub octets_every : (c : Char) → p (scalar c) ≡ true → every p (octets c) ≡ true
  unfolding octets scalar
  octets_every (utf8_1 a) h = simp h
  octets_every (utf8_2 a b) h = simp (high a.is (omega arith), high b.is (omega arith))
  octets_every (utf8_3_e0 b c) h = simp (high 0xe0 (omega arith), high b.is (omega arith), high c.is (omega arith))
  octets_every (utf8_3_e1 a b c) h = simp (high a.is (omega arith), high b.is (omega arith), high c.is (omega arith))
  octets_every (utf8_3_ed b c) h = simp (high 0xed (omega arith), high b.is (omega arith), high c.is (omega arith))
  octets_every (utf8_3_ee a b c) h = simp (high a.is (omega arith), high b.is (omega arith), high c.is (omega arith))
  octets_every (utf8_4_f0 b c d) h = simp (high 0xf0 (omega arith), high b.is (omega arith), high c.is (omega arith), high d.is (omega arith))
  octets_every (utf8_4_f1 a b c d) h = simp (high a.is (omega arith), high b.is (omega arith), high c.is (omega arith), high d.is (omega arith))
  octets_every (utf8_4_f4 b c d) h = simp (high 0xf4 (omega arith), high b.is (omega arith), high c.is (omega arith), high d.is (omega arith))

  pub written_every : {class : ℕ → Bool} → ((n : ℕ) → class n ≡ true → p n ≡ true) → (l : List (Of class)) → every p (written l) ≡ true
  unfolding characters text
  written_every f [] = refl
  written_every f (c ∷ l) = every_append p (octets c.is) (written l) (octets_every c.is (f (scalar c.is) c.belongs)) (written_every f l)

pub written_some : {class : ℕ → Bool} (c : Of class) (l : List (Of class)) → 0 < length (written (c ∷ l))
unfolding characters text
written_some c l = simp length-append (omega (arith, octets_some c.is))

-- where no byte stands that goes on with a character, one starts, or the text ends
pub at_on : {s : List ℕ} {n : ℕ} (b : List ℕ) → Written s → At s n b → is_tail (get_or b 0 0) ≡ false → on_character s n ≡ true
at_on {s} {n} [] w h e = let z : n ≡ length s = omega (arith, at_inside h) in rw z (on_end s)
at_on {s} {n} (x ∷ xs) w h e =
    let u : utf8_of s ≡ Ok tt = rw w.same at (utf8_accepts w.chars) in
    rw (on_byte s n u (omega (arith, at_inside h)), at_get h, e)

pub on_start : (s : List ℕ) → on_character s 0 ≡ true
unfolding on_character firsts
on_start [] = refl
on_start (x ∷ xs) = simp (ne_eqb 0 (length (x ∷ xs)) (λ e. omega arith))
