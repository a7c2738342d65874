-- The laws of the loops that hand out many records. Whoever proves such a loop cites them and never opens the definitions.
use Prim.Native.Nat.{ℕ, suc, ◌+◌, ◌-◌, ◌*◌, ◌/◌, ◌≤◌, ◌<◌}
use mathlib.Core.Bool.{Bool, true, false, cond}
use mathlib.Core.List.{List, [], ◌∷◌, ◌++◌, append-nil, append_assoc}
use mathlib.Core.Path.{◌≡◌, refl, sym, ap, ◌∙◌}
use native.Mathlib.Nat.{div-add-mod'}
use native.Mathlib.Omega.{arith}
use borrow.Author.Tests.{eq-eqb, ne_eqb}
use lib.Dec.{eqb}
use lib.ListN.{length, take, drop, get_or, length-append, get_or-append}
use lib.Seq.{paste, take_at, drop-append-add, drop-drop, take_all, length-paste, length_paste_head, length-take-le, get_or-append-add, get_or-take}
use borrow.Rule.Slice.PartMut.{put_mid}
use Rattle.std.proofs.lemmas.Slice.{put_mid-paste}
use Rattle.records.specs.Many.{up_to, fitting, flat, filled, last_place, told_of}

-- o is xs with the record r at k
module _ {o : List ℕ} (xs : List ℕ) (k : ℕ) (r : List ℕ) (w : o ≡ paste xs k r 24) (l : k + 24 ≤ length xs) (m : 24 ≤ length r) where
  record_same : length o ≡ length xs
  record_same = rw w (length-paste xs k r 24 l m)

  -- one entry of it read
  record_get : (j : ℕ) → j < 24 → get_or o (k + j) 0 ≡ get_or r j 0
  record_get j h =
      let e : length (take k xs) ≡ k = length-take-le k xs (omega arith) in
      let f : k + j < length (take k xs ++ take 24 r) = omega (arith, length_paste_head xs k r 24 (omega arith) m) in
      let g : get_or (take k xs ++ take 24 r) (k + j) 0 ≡ get_or (take 24 r) j 0 = rw e at (get_or-append-add (take k xs) (take 24 r) j 0) in
      rw (w, get_or-append (take k xs ++ take 24 r) (drop (k + 24) xs) 0 (k + j) f, g) (get_or-take 24 r j 0 h)

-- one record more
abbrev behind : List (List ℕ) → List ℕ → List (List ℕ)
behind rs r = rs ++ (r ∷ [])

flat_behind : (rs : List (List ℕ)) (r : List ℕ) → flat (behind rs r) ≡ flat rs ++ r
unfolding flat
flat_behind [] r = append-nil r
flat_behind (x ∷ rs) r = rw (flat_behind rs r) (sym (append_assoc x (flat rs) r))

last_behind : (i : ℕ) (rs : List (List ℕ)) (r : List ℕ) → last_place i (behind rs r) ≡ get_or r 8 0
unfolding last_place
last_behind i [] r = refl
last_behind i (x ∷ rs) r = last_behind (get_or x 8 0) rs r

-- The invariant: n records are handed out of o₀'s entries, which are o now, and the list goes on at place i
pub record Going (step : ℕ → List ℕ) (i₀ : ℕ) (o₀ : List ℕ) (n i : ℕ) (o : List ℕ) : Type 0 where
  pub records : List (List ℕ)
  pub all : fitting step o₀ i₀ ≡ records ++ up_to step (length o₀ / 24 - n) i
  pub size : length (flat records) ≡ n * 24
  pub count : length records ≡ n
  pub on : last_place i₀ records ≡ i
  pub list : o ≡ filled records o₀
  pub same : length o ≡ length o₀
  pub some : n ≤ length o₀ / 24
  pub room : length o₀ / 24 * 24 ≤ length o₀

pub going_start : (step : ℕ → List ℕ) (i : ℕ) (o : List ℕ) → Going step i o 0 i o
unfolding flat last_place
going_start step i o =
    let z : length o / 24 - 0 ≡ length o / 24 = omega arith in
    record { records = []; all = rw z; size = refl; count = refl; on = refl; list = refl; same = refl; some = omega arith; room = omega (arith, div-add-mod' (length o) 24) }

module _ {step : ℕ → List ℕ} {i₀ : ℕ} {o₀ : List ℕ} {n i : ℕ} {o : List ℕ} (h : Going step i₀ o₀ n i o) where
  -- no room is left
  pub going_full : length o₀ / 24 ≤ n → (o ≡ filled (fitting step o₀ i₀) o₀) × (length o₀ / 24 ∷ i ∷ [] ≡ told_of i₀ (fitting step o₀ i₀))
  unfolding up_to
  going_full l =
      let z : length o₀ / 24 - n ≡ 0 = omega arith in
      let m : length o₀ / 24 ≡ n = omega (arith, h.some) in
      let e : fitting step o₀ i₀ ≡ h.records = h.all ∙ rw z (append-nil h.records) in
      (rw e h.list, rw (e, h.count, h.on, m) refl)

  -- p is the entries with the record of the next step behind the n records
  module _ {p : List ℕ} (w : p ≡ paste o (n * 24) (step i) 24) (l : n < length o₀ / 24) (k : length (step i) ≡ 24) where
    next_all : (b : Bool) → eqb (get_or (step i) 7 0) 0 ≡ b → fitting step o₀ i₀ ≡ behind h.records (step i) ++ cond b (up_to step (length o₀ / 24 - (n + 1)) (get_or (step i) 8 0)) []
    unfolding up_to
    next_all b e =
        let z : length o₀ / 24 - n ≡ suc (length o₀ / 24 - (n + 1)) = omega arith in
        h.all ∙ rw (z, e) (sym (append_assoc h.records (step i ∷ []) (cond b (up_to step (length o₀ / 24 - (n + 1)) (get_or (step i) 8 0)) [])))

    next_size : length (flat (behind h.records (step i))) ≡ (n + 1) * 24
    next_size = rw (flat_behind h.records (step i)) (omega (arith, length-append (flat h.records) (step i), h.size))

    next_count : length (behind h.records (step i)) ≡ n + 1
    next_count = omega (arith, length-append h.records (step i ∷ []), h.count)

    next_list : p ≡ filled (behind h.records (step i)) o₀
    next_list =
        let a = flat h.records in
        let t : take (n * 24) o ≡ a = rw h.list (take_at a (drop (length a) o₀) (n * 24) h.size) in
        let m : n * 24 + 24 ≡ length a + 24 = omega (arith, h.size) in
        let x : length a + 24 ≡ (n + 1) * 24 = omega (arith, h.size) in
        let d : drop (n * 24 + 24) o ≡ drop ((n + 1) * 24) o₀ = rw (h.list, m) (drop-append-add a (drop (length a) o₀) 24 ∙ drop-drop 24 (length a) o₀ ∙ rw x) in
        rw (next_size, flat_behind h.records (step i), w, t, d, take_all 24 (step i) (omega arith))

    next_room : n * 24 + 24 ≤ length o
    next_room = omega (arith, h.room, h.same)

    -- what is read back of it
    next_entry : (j : ℕ) → j < 24 → get_or p (n * 24 + j) 0 ≡ get_or (step i) j 0
    next_entry = record_get o (n * 24) (step i) w next_room (omega arith)

    pub going_same : length p ≡ length o₀
    going_same = record_same o (n * 24) (step i) w next_room (omega arith) ∙ h.same

    -- a value: on from its list place
    pub going_on : get_or p (n * 24 + 7) 0 ≡ 0 → Going step i₀ o₀ (n + 1) (get_or p (n * 24 + 8) 0) p
    going_on e =
        record {
          records = behind h.records (step i);
          all = rw (next_entry 8 (omega arith)) (next_all true (eq-eqb (get_or (step i) 7 0) 0 (sym (next_entry 7 (omega arith)) ∙ e)));
          size = next_size;
          count = next_count;
          on = last_behind i₀ h.records (step i) ∙ sym (next_entry 8 (omega arith));
          list = next_list;
          same = going_same;
          some = omega arith;
          room = h.room;
        }

    -- any other answer is the last
    pub going_stop : (get_or p (n * 24 + 7) 0 ≡ 0 → ⊥) → (p ≡ filled (fitting step o₀ i₀) o₀) × ((n + 1) ∷ get_or p (n * 24 + 8) 0 ∷ [] ≡ told_of i₀ (fitting step o₀ i₀))
    going_stop f =
        let e : fitting step o₀ i₀ ≡ behind h.records (step i) =
        next_all false (ne_eqb (get_or (step i) 7 0) 0 (λ z. f (next_entry 7 (omega arith) ∙ z))) ∙ append-nil (behind h.records (step i)) in
        (rw e next_list, rw (next_entry 8 (omega arith), e, next_count, last_behind i₀ h.records (step i)))

-- the part that a row takes, written: r is the row
pub row_put : (o : List ℕ) (n : ℕ) {p r : List ℕ} → p ≡ r → length p ≡ 24 → put_mid (n * 24) (n * 24 + 24 - n * 24) o p ≡ paste o (n * 24) r 24
row_put o n {p} {r} e l = put_mid-paste (n * 24) (n * 24 + 24 - n * 24) o p r 24 e (omega arith) (omega (arith, ap (λ (x : List ℕ). length x) e))
