-- The laws of the writing of a row, which is all of the entries that are lent.
use Prim.Native.Nat.{ℕ, ◌+◌, ◌-◌, ◌≤◌}
use mathlib.Core.List.{List, [], ◌∷◌, append-nil}
use mathlib.Core.Path.{◌≡◌, refl, ap, ◌∙◌}
use native.Mathlib.Omega.{arith}
use borrow.Rule.Slice.PartMut.{put_mid}
use lib.ListN.{length, drop, set}
use lib.Seq.{paste, drop-length, take_all}
use Rattle.std.proofs.lemmas.Slice.{put_mid-paste}
use Rattle.stream.specs.Paper.{PaperRefusal, no_refusal, paper_refusal}
use Rattle.stream.specs.Refusals.{reason_number}
use Rattle.stream.specs.declared.Refusal.{Refusal}
use Rattle.records.specs.Records.{row, found_row, end_row}
use Rattle.records.proofs.Stores.{thirds}

abbrev zeros : List ℕ
zeros = 0 ∷ 0 ∷ 0 ∷ 0 ∷ 0 ∷ 0 ∷ 0 ∷ 0 ∷ []

-- 24 entries stored over 24 are all of them
all_of : (xs r : List ℕ) → length xs ≡ 24 → length r ≡ 24 → paste xs 0 r 24 ≡ r
all_of xs r l m =
    let d : drop 24 xs ≡ [] = rw l at (drop-length xs) in
    rw (d, take_all 24 r (omega arith)) (append-nil r)

-- a row has 24 entries
pub all_row : (xs : List ℕ) (e : PaperRefusal) (state place : ℕ) (v : List ℕ) → length xs ≡ 24 → paste xs 0 (row e state place v) 24 ≡ row e state place v
unfolding row
all_row xs e state place v l = all_of xs (row e state place v) l refl

-- the numbers of a result, of which there are at most twelve
result_stored : (place : ℕ) (v : List ℕ) → length v ≤ 12 → paste (found_row place []) 9 v (length v) ≡ found_row place v
unfolding row
result_stored place [] h = refl
result_stored place (a ∷ []) h = refl
result_stored place (a ∷ b ∷ []) h = refl
result_stored place (a ∷ b ∷ c ∷ []) h = refl
result_stored place (a ∷ b ∷ c ∷ d ∷ []) h = refl
result_stored place (a ∷ b ∷ c ∷ d ∷ e ∷ []) h = refl
result_stored place (a ∷ b ∷ c ∷ d ∷ e ∷ f ∷ []) h = refl
result_stored place (a ∷ b ∷ c ∷ d ∷ e ∷ f ∷ g ∷ []) h = refl
result_stored place (a ∷ b ∷ c ∷ d ∷ e ∷ f ∷ g ∷ i ∷ []) h = refl
result_stored place (a ∷ b ∷ c ∷ d ∷ e ∷ f ∷ g ∷ i ∷ j ∷ []) h = refl
result_stored place (a ∷ b ∷ c ∷ d ∷ e ∷ f ∷ g ∷ i ∷ j ∷ k ∷ []) h = refl
result_stored place (a ∷ b ∷ c ∷ d ∷ e ∷ f ∷ g ∷ i ∷ j ∷ k ∷ l ∷ []) h = refl
result_stored place (a ∷ b ∷ c ∷ d ∷ e ∷ f ∷ g ∷ i ∷ j ∷ k ∷ l ∷ m ∷ []) h = refl
result_stored place (a ∷ b ∷ c ∷ d ∷ e ∷ f ∷ g ∷ i ∷ j ∷ k ∷ l ∷ m ∷ n ∷ v) h = absurd (omega (arith, h))

module _ (xs : List ℕ) (place : ℕ) (l : length xs ≡ 24) where
  empty_row : paste (paste (paste xs 0 zeros 8) 8 (place ∷ 0 ∷ 0 ∷ 0 ∷ 0 ∷ 0 ∷ 0 ∷ 0 ∷ []) 8) 16 zeros 8 ≡ found_row place []
  unfolding row
  empty_row =
      thirds xs 0 zeros (place ∷ 0 ∷ 0 ∷ 0 ∷ 0 ∷ 0 ∷ 0 ∷ 0 ∷ []) zeros refl refl refl refl refl refl (omega arith) ∙ all_row xs no_refusal 0 place [] l

  pub found_stored : (v : List ℕ) (n : ℕ) → length v ≡ n → n ≤ 12
      → put_mid 9 (9 + n - 9) (paste (paste (paste xs 0 zeros 8) 8 (place ∷ 0 ∷ 0 ∷ 0 ∷ 0 ∷ 0 ∷ 0 ∷ 0 ∷ []) 8) 16 zeros 8) v ≡ found_row place v
  found_stored v n m h =
      ap (λ o. put_mid 9 (9 + n - 9) o v) empty_row
      ∙ put_mid-paste 9 (9 + n - 9) (found_row place []) v v n refl (omega arith) (omega arith)
      ∙ rw (← m) (result_stored place v (omega arith))

  pub refused_row : (state : ℕ) (e : Refusal)
      → paste (paste (paste xs 0 (reason_number e.reason ∷ (paper_refusal e).position ∷ (paper_refusal e).place.0 ∷ (paper_refusal e).found ∷ (paper_refusal e).wanted ∷ (paper_refusal e).part.start.0 ∷ (paper_refusal e).part.len ∷ state ∷ []) 8)
      8 (place ∷ 0 ∷ 0 ∷ 0 ∷ 0 ∷ 0 ∷ 0 ∷ 0 ∷ []) 8) 16 (0 ∷ 0 ∷ 0 ∷ 0 ∷ 0 ∷ e.from.0 ∷ e.to.0 ∷ 0 ∷ []) 8
      ≡ row (paper_refusal e) state place []
  unfolding row paper_refusal
  refused_row state e =
      let r = paper_refusal e in
      thirds xs 0 (r.number ∷ r.position ∷ r.place.0 ∷ r.found ∷ r.wanted ∷ r.part.start.0 ∷ r.part.len ∷ state ∷ []) (place ∷ 0 ∷ 0 ∷ 0 ∷ 0 ∷ 0 ∷ 0 ∷ 0 ∷ []) (0 ∷ 0 ∷ 0 ∷ 0 ∷ 0 ∷ e.from.0 ∷ e.to.0 ∷ 0 ∷ []) refl refl refl refl refl refl (omega arith)
      ∙ all_row xs r state place [] l

pub ended_row : (place state : ℕ) → set (found_row place []) 7 state ≡ end_row state place
unfolding row
ended_row place state = refl
