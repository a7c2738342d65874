-- What the binary search finds in the code's table.
use Rattle.std.proofs.Common.{ℕ, ◌≡◌, ◌≤◌, ◌<◌, List, [], length, get_or, map, Ok, Err, Bool, true, false, Some, None, sym, ap, ◌∙◌, arith}
use Rattle.std.specs.Ordering.{ordering_index}
use Rattle.std.specs.List.Sorted.{IsSearchInRange, IsBinarySearchResult, IsNonDecreasingBy}
use Rattle.std.specs.declared.cmp.Ordering.{Ordering}
use Rattle.std.proofs.lemmas.List.{get_or-map}
use lib.ListN.{length-map}
use mathlib.Core.Logic.{⊎_elim}
use native.Mathlib.Nat.{eq-or-lt_of_le}
use Rattle.text_bytes.specs.Words.{lowered, same, ascii}
use Rattle.text_bytes.proofs.Ranges.{le_or_lt}
use Rattle.names.specs.Keywords.{keywords, entry}
use Rattle.names.specs.Look.{channels, look_up, named_of}
use Rattle.names.specs.Order.{order}
use Rattle.names.specs.Search.{nth, Entry, entry_of}
use Rattle.names.specs.declared.Named.TheVariants as N
use Rattle.names.proofs.Orders.{order_same, order_rises, before_other, after_other}
use Rattle.names.proofs.Tables.{table_count, table_order}
use Rattle.names.proofs.Naming.{named_keyword, named_unlisted}

-- how an entry stands to a word
abbrev pub standing : List ℕ → Entry → Ordering
standing w e = order e.0.now w

-- what a word is that is the name of no entry: b is whether it is `transparent`
module _ (w : List ℕ) {b : Bool} (p : b ≡ same w (ascii "transparent")) where
  pub is_transparent : b ≡ true → look_up [] w ≡ Some N.Transparent
  unfolding look_up
  is_transparent e = simp (sym p ∙ e)

  pub is_unknown : b ≡ false → look_up [] w ≡ None
  unfolding look_up
  is_unknown e = simp (sym p ∙ e)

module _ (t : List Entry) (q : map entry_of t ≡ keywords) where
  table_length : length t ≡ 147
  table_length = sym (length-map t entry_of) ∙ (ap length q ∙ table_count)

  entry_nth : (k : ℕ) (d : Entry) → k < 147 → entry_of (get_or t k d) ≡ nth k
  entry_nth k d h = sym (get_or-map entry_of t k d (entry "" 0 0 0) (omega (arith, table_length))) ∙ ap (λ es. get_or es k (entry "" 0 0 0)) q

  module _ (w : List ℕ) where
    standing_rises : IsNonDecreasingBy (λ e. ordering_index (standing w e)) t
    standing_rises i j d l h =
        let a = ap (λ e. ordering_index (order e.name w)) (entry_nth i d (omega (arith, table_length))) in
        let b = ap (λ e. ordering_index (order e.name w)) (entry_nth j d (omega (arith, table_length))) in
        ⊎_elim (λ (p : i ≡ j). rw p (omega arith))
        (λ (p : i < j). omega (arith, a, b, order_rises (nth i).name (nth j).name w (table_order i j p (omega (arith, table_length)))))
        (eq-or-lt_of_le l)

  module _ (w : List ℕ) where
    pub found_at : (k : ℕ) (d : Entry) → IsSearchInRange (Ok k) (length t) → IsBinarySearchResult (standing (lowered w)) t (Ok k)
        → Some (N.Keyword (channels (entry_of (get_or t k d)))) ≡ named_of w
    found_at k d h f =
        let e = entry_nth k d (omega (arith, table_length)) in
        ap (λ x. Some (N.Keyword (channels x))) e
        ∙ sym (named_keyword w k (omega (arith, table_length)) (order_same (nth k).name (lowered w) (ap (λ x. order x.name (lowered w)) (sym e) ∙ f d)))

    pub found_none : (k : ℕ) → IsBinarySearchResult (standing (lowered w)) t (Err k) → named_of w ≡ look_up [] (lowered w)
    found_none k f =
        let d : Entry = (record { ref_ptr = (0, 0); now = [] }, 0, 0, 0) in
        let s = f (standing_rises (lowered w)) in
        named_unlisted w (λ j h.
        let e = ap (λ x. order x.name (lowered w)) (sym (entry_nth j d h)) in
        ⊎_elim
        (λ (p : k ≤ j). after_other (nth j).name (lowered w) (e ∙ s.1 j d p (omega (arith, table_length))))
        (λ (p : j < k). before_other (nth j).name (lowered w) (e ∙ s.0 j d (omega arith) p))
        (le_or_lt k j))
