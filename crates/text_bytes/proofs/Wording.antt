-- The laws of a word that is looked for at a place.
use Prim.Native.Nat.{ℕ, suc, ◌+◌, ◌-◌, ◌^◌, ◌≤◌, ◌<◌}
use mathlib.Core.Bool.{Bool, true, false, ◌&&◌, ◌||◌}
use mathlib.Core.List.{List, [], ◌∷◌, ◌++◌}
use mathlib.Core.Path.{◌≡◌, refl, sym, ap, ◌∙◌}
use native.Mathlib.Omega.{arith}
use borrow.Author.Tests.{eqb-true, eqb-false, eq-eqb, ne_eqb, lt-ltb, le-ltb, ltb-true}
use lib.Dec.{eqb, ltb}
use lib.ListN.{length, get_or, take, drop, length-drop, length-map}
use lib.Pointwise.{pointwise}
use Rattle.std.specs.List.{list_all, zip}
use mir.Syntax.{w8, w64}
use mir.Val.{Fits}
use Rattle.text_bytes.specs.Words.{starts_with, is_curr_byte_eq, same, lower_of, lowered}
use Rattle.text_bytes.specs.Bytes.{is_digit, is_upper, is_lower, is_space, is_ascii_ident}
use Rattle.text_bytes.proofs.Ranges.{within_ge, within_le, and_false, and_first, and_second, either}

starts_le : (w s : List ℕ) → starts_with w s ≡ true → length w ≤ length s
unfolding starts_with
starts_le [] s e = omega arith
starts_le (w ∷ ws) [] e = let z : ◌≡◌ {A = ℕ} 0 1 = cc in absurd (omega arith)
starts_le (w ∷ ws) (x ∷ xs) e = go (eqb x w) (starts_le ws xs) e
  where
    go : (t : Bool) → (starts_with ws xs ≡ true → length ws ≤ length xs) → (t && starts_with ws xs) ≡ true → suc (length ws) ≤ suc (length xs)
    go true ih h = omega (arith, ih h)
    go false ih h = let z : ◌≡◌ {A = ℕ} 0 1 = cc in absurd (omega arith)

eqb_swap : (a b : ℕ) → eqb a b ≡ eqb b a
eqb_swap a b = either (eqb b a) (λ e. rw e (eq-eqb a b (sym (eqb-true b a e)))) (λ e. rw e (ne_eqb a b (λ q. eqb-false b a e (sym q))))

-- what std's `starts_with` says
pub starts_std : (w s : List ℕ) → pointwise eqb w (take (length w) s) ≡ starts_with w s
unfolding starts_with
starts_std [] s = refl
starts_std (w ∷ ws) [] = refl
starts_std (w ∷ ws) (x ∷ xs) = rw (starts_std ws xs, eqb_swap w x) refl

-- a word that is there ends inside: the sum with its length fits
pub word_inside : (w : ℕ) (ws s : List ℕ) (i : ℕ) (r : Bool) → r ≡ true → r ≡ starts_with (w ∷ ws) (drop i s) → i + suc (length ws) ≤ length s
word_inside w ws s i r e q =
    let f : starts_with (w ∷ ws) (drop i s) ≡ true = cc in
    omega (arith, starts_le (w ∷ ws) (drop i s) f, length-drop i s)

pub word_fits : (w : ℕ) (ws s : List ℕ) (i : ℕ) (r : Bool) (n : ℕ) → r ≡ true → r ≡ starts_with (w ∷ ws) (drop i s) → length s < 2 ^ 64 → n ≡ suc (length ws) → Fits w64 (i + n)
word_fits w ws s i r n e q h k = omega (arith, word_inside w ws s i r e q)

-- two texts of one length are the same if the one begins with the other
same_starts : (s w : List ℕ) → length s ≡ length w → starts_with w s ≡ same s w
unfolding starts_with same
same_starts [] [] e = refl
same_starts [] (y ∷ ys) e = absurd (omega arith)
same_starts (x ∷ xs) [] e = absurd (omega arith)
same_starts (x ∷ xs) (y ∷ ys) e = ap (λ (t : Bool). eqb x y && t) (same_starts xs ys (omega arith))

same_length : (s w : List ℕ) → (length s ≡ length w → ⊥) → same s w ≡ false
unfolding same
same_length [] [] n = absurd (n refl)
same_length [] (y ∷ ys) n = refl
same_length (x ∷ xs) [] n = refl
same_length (x ∷ xs) (y ∷ ys) n = rw (same_length xs ys (λ e. n (omega arith))) (and_false (eqb x y))

module _ (s w : List ℕ) where
  pub same_begins : {r : Bool} → length s ≡ length w → r ≡ starts_with w s → r ≡ same s w
  same_begins e q = q ∙ same_starts s w e

  pub same_other : (length s ≡ length w → ⊥) → false ≡ same s w
  same_other n = sym (same_length s w n)

  pub lower_begins : {r : Bool} → length s ≡ length w → r ≡ starts_with w (lowered s) → r ≡ same (lowered s) w
  lower_begins e q = q ∙ same_starts (lowered s) w (simp length-map e)

  pub lower_unlike : (length s ≡ length w → ⊥) → false ≡ same (lowered s) w
  lower_unlike n = sym (same_length (lowered s) w (λ e. n (simp length-map at e)))

pub ruleset same_words = (same_begins, same_other, lower_begins, lower_unlike)

pub same_refl : (w : List ℕ) → same w w ≡ true
unfolding same
same_refl [] = refl
same_refl (x ∷ xs) = rw (eq-eqb x x refl) (same_refl xs)

pub same_eq : (s w : List ℕ) → same s w ≡ true → s ≡ w
unfolding same
same_eq [] [] e = refl
same_eq [] (y ∷ ys) e = let z : ◌≡◌ {A = ℕ} 0 1 = cc in absurd (omega arith)
same_eq (x ∷ xs) [] e = let z : ◌≡◌ {A = ℕ} 0 1 = cc in absurd (omega arith)
same_eq (x ∷ xs) (y ∷ ys) e = go (eqb x y) refl e (same_eq xs ys)
  where
    go : (t : Bool) → eqb x y ≡ t → (t && same xs ys) ≡ true → (same xs ys ≡ true → xs ≡ ys) → x ∷ xs ≡ y ∷ ys
    go true q f ih = let g : x ≡ y = eqb-true x y q in let h : xs ≡ ys = ih f in cc
    go false q f ih = let z : ◌≡◌ {A = ℕ} 0 1 = cc in absurd (omega arith)

pub lower_up : (b : ℕ) {r : Bool} → r ≡ is_upper b → r ≡ true → b + 32 ≡ lower_of b
unfolding lower_of
lower_up b q e = rw (← q, e)

pub lower_kept : (b : ℕ) {r : Bool} → r ≡ is_upper b → r ≡ false → b ≡ lower_of b
unfolding lower_of
lower_kept b q e = rw (← q, e)

pub lower_fits : (b : ℕ) {r : Bool} → r ≡ is_upper b → r ≡ true → Fits w8 (b + 32)
lower_fits b q e = let f : true ≡ is_upper b = cc in record { fits = omega (arith, within_le 65 90 b f) }

pub ruleset lowers = (lower_up, lower_kept, lower_fits)

-- a byte of a text and one of a word, letter case ignored
abbrev pub alike : ℕ × ℕ → Bool
alike p = eqb (lower_of p.0) p.1

-- of a text that is as long as the word, byte by byte
pub zip_lowered : (s w : List ℕ) → length s ≡ length w → list_all alike (zip s w) ≡ same (lowered s) w
unfolding same
zip_lowered [] [] e = refl
zip_lowered [] (y ∷ ys) e = absurd (omega arith)
zip_lowered (x ∷ xs) [] e = absurd (omega arith)
zip_lowered (x ∷ xs) (y ∷ ys) e = rw (zip_lowered xs ys (omega arith)) refl

pub lower_other : (s w : List ℕ) → (length s ≡ length w → ⊥) → same (lowered s) w ≡ false
lower_other s w n = same_length (lowered s) w (λ e. n (simp length-map at e))

pub word_add : (w s : List ℕ) (i : ℕ) {r : Bool} → r ≡ starts_with w (drop i s) → r ≡ true → i < length s → length s < 2 ^ 64 → Fits w64 (i + length w)
word_add w s i q e h l =
    let f : starts_with w (drop i s) ≡ true = cc in
    omega (arith, starts_le w (drop i s) f, length-drop i s)

-- the same for `grind`, which takes the first call that it sees: a word that is there is no longer than what is left
pub word_ends : (w s : List ℕ) (i : ℕ) → starts_with w (drop i s) ≡ true → (starts_with w (drop i s) ≡ true) × (length w ≤ length s - i)
word_ends w s i e = (e, omega (arith, starts_le w (drop i s) e, length-drop i s))

module _ (s : List ℕ) (i c : ℕ) where
  pub curr_there : i < length s → eqb (get_or s i 0) c ≡ is_curr_byte_eq s i c
  unfolding is_curr_byte_eq
  curr_there h = simp (lt-ltb i (length s) h)

  pub curr_past : length s ≤ i → false ≡ is_curr_byte_eq s i c
  unfolding is_curr_byte_eq
  curr_past h = simp (le-ltb i (length s) h)

  -- a byte that is there lies inside
  pub curr_inside : {r : Bool} → r ≡ is_curr_byte_eq s i c → r ≡ true → i < length s
  unfolding is_curr_byte_eq
  curr_inside q e = go (ltb i (length s)) refl (cc)
    where
      go : (t : Bool) → ltb i (length s) ≡ t → (t && eqb (get_or s i 0) c) ≡ true → i < length s
      go true f g = ltb-true i (length s) f
      go false f g = let z : ◌≡◌ {A = ℕ} 0 1 = cc in absurd (omega arith)

  -- and is the one asked for
  pub curr_byte : {r : Bool} → r ≡ is_curr_byte_eq s i c → r ≡ true → get_or s i 0 ≡ c
  curr_byte q e = eqb-true (get_or s i 0) c (curr_there (curr_inside q e) ∙ sym q ∙ e)

  pub curr_next : {r : Bool} → r ≡ is_curr_byte_eq s i c → r ≡ true → length s < 2 ^ 64 → Fits w64 (i + 1)
  curr_next q e h = omega (arith, curr_inside q e)

-- the same for `grind`
pub curr_ends : (s : List ℕ) (i c : ℕ) → is_curr_byte_eq s i c ≡ true → (is_curr_byte_eq s i c ≡ true) × ((i < length s) × (get_or s i 0 ≡ c))
curr_ends s i c e = (e, (curr_inside s i c refl e, curr_byte s i c refl e))

pub ruleset current = (curr_there, curr_past)

-- a text that begins with a word is that word and the rest
pub begins_with : (w s : List ℕ) → starts_with w s ≡ true → s ≡ w ++ drop (length w) s
unfolding starts_with
begins_with [] s e = refl
begins_with (w ∷ ws) [] e = let z : ◌≡◌ {A = ℕ} 0 1 = cc in absurd (omega arith)
begins_with (w ∷ ws) (x ∷ xs) e =
    let h : x ≡ w = eqb-true x w (and_first (eqb x w) (starts_with ws xs) e) in
    let t : xs ≡ ws ++ drop (length ws) xs = begins_with ws xs (and_second (eqb x w) (starts_with ws xs) e) in
    cc

-- its first byte is the word's
pub starts_first : (w : ℕ) (ws s : List ℕ) → starts_with (w ∷ ws) s ≡ true → get_or s 0 0 ≡ w
unfolding starts_with
starts_first w ws [] e = let z : ◌≡◌ {A = ℕ} 0 1 = cc in absurd (omega arith)
starts_first w ws (x ∷ xs) e = eqb-true x w (and_first (eqb x w) (starts_with ws xs) e)

-- a byte of a word is no space, no `#`, and ASCII
pub record Wordly (b : ℕ) : Type 0 where
  pub low : 45 ≤ b
  pub high : b < 123

pub word_byte : (b : ℕ) → is_ascii_ident b ≡ true → Wordly b
word_byte b e = go (is_digit b) (is_upper b) (is_lower b) (eqb b 45) (eqb b 95) refl refl refl refl refl e
  where
    go : (t u v x y : Bool) → is_digit b ≡ t → is_upper b ≡ u → is_lower b ≡ v → eqb b 45 ≡ x → eqb b 95 ≡ y → (t || (u || (v || (x || y)))) ≡ true → Wordly b
    go true u v x y p q r m n e = record { low = omega (arith, within_ge 48 57 b (sym p)); high = omega (arith, within_le 48 57 b (sym p)) }
    go false true v x y p q r m n e = record { low = omega (arith, within_ge 65 90 b (sym q)); high = omega (arith, within_le 65 90 b (sym q)) }
    go false false true x y p q r m n e = record { low = omega (arith, within_ge 97 122 b (sym r)); high = omega (arith, within_le 97 122 b (sym r)) }
    go false false false true y p q r m n e = let f = eqb-true b 45 m in record { low = omega arith; high = omega arith }
    go false false false false true p q r m n e = let f = eqb-true b 95 n in record { low = omega arith; high = omega arith }
    go false false false false false p q r m n e = let z : ◌≡◌ {A = ℕ} 0 1 = cc in absurd (omega arith)

or_either : {C : Type 0} (t u : Bool) → (t ≡ true → C) → (u ≡ true → C) → (t || u) ≡ true → C
or_either true u f g e = f refl
or_either false u f g e = g e

-- what holds of the four bytes holds of a space
pub space_case : (P : ℕ → Type 0) (x : ℕ) → P 32 → P 9 → P 10 → P 13 → is_space x ≡ true → P x
space_case P x a b c d =
    or_either (eqb x 32) _ (is 32 a) (or_either (eqb x 9) _ (is 9 b) (or_either (eqb x 10) _ (is 10 c) (is 13 d)))
  where
    is : (n : ℕ) → P n → eqb x n ≡ true → P x
    is n h e = rw (eqb-true x n e) h

pub space_ascii : (x : ℕ) → is_space x ≡ true → x < 128
space_ascii x = space_case (λ n. n < 128) x (omega arith) (omega arith) (omega arith) (omega arith)
