-- All of it, of the definition and of whatever a function returns that keeps the contract of filter_functions::next.
use Prim.Native.Nat.{ℕ, zero, suc}
use mathlib.Core.List.{List, ◌∷◌, ◌++◌}
use mathlib.Core.Path.{◌≡◌, refl, sym, ap, ◌∙◌}
use lib.ListN.{length}
use Rattle.std.specs.Prelude.{Result, Ok}
use Rattle.text_bytes.specs.declared.Place.{Place}
use Rattle.stream.specs.declared.Refusal.{Refusal}
use Rattle.filter_functions.specs.Filters.{next_filter, value_step}
use Rattle.filter_functions.specs.declared.Listed.{Listed}
use Rattle.filter_functions.specs.declared.Listed.TheVariants as I
use Rattle.joins.specs.Joins.{Next, follow, from, answers, Join, further, Demand3, Demand3Returned}
use Rattle.joins.proofs.Edge.{step}
use Rattle.joins.proofs.Values.{join_values, join_unspaced}
use Rattle.joins.proofs.Lists.{reaches, ends_for_good, join, bound, at_its_end}
use Rattle.joins.proofs.Records.{join_records}
use Rattle.joins.proofs.Last.{ends_at_length, places_below, no_two_nor_eight, join_last}

module _ (returned : Next) (same : (s : List ℕ) (i : ℕ) → returned s i ≡ next_filter s i) where
  same_from : (k : ℕ) (s : List ℕ) (i : ℕ) → from returned k s i ≡ from next_filter k s i
  unfolding from follow
  same_from zero s i = rw (same s i) refl
  same_from (suc k) s i = rw (same s i) (go (next_filter s i).item (next_filter s i).place (same_from k s))
    where
      go : (y : Result Listed Refusal) (p : Place) → ((n : ℕ) → from returned k s n ≡ from next_filter k s n)
          → follow (step y p) (λ n. from returned k s n) ≡ follow (step y p) (λ n. from next_filter k s n)
      go (Ok (I.Value v)) p ih = ap (λ l. value_step v p ∷ l) (ih p.0)
      go y p ih = refl

  same_answers : (s : List ℕ) (i : ℕ) → answers returned s i ≡ answers next_filter s i
  unfolding answers
  same_answers s i = same_from (length s) s i

  same_further : (k : ℕ) (s : List ℕ) (i : ℕ) → further returned k s i ≡ further next_filter k s i
  unfolding further
  same_further zero s i = same s i
  same_further (suc k) s i = rw (same s i) (same_further k s (next_filter s i).place.0)

  same_joins : Join next_filter → Join returned
  same_joins f a b l p u w m e = rw (same_answers (a ++ b) 0, same_answers b 0) (f a b l p u w m (sym (same_answers a 0) ∙ e))

  outside : Demand3 returned
  outside =
      record {
        joins = same_joins join;
        joins_records = join_records returned (same_joins join);
        joins_values = join_values returned (same_joins join);
        joins_unspaced = join_unspaced returned (same_joins join);
        joins_last = λ a b l x p u w m e. rw (same_answers (a ++ b) 0, same_answers b 0) (join_last a b l x p u w m (sym (same_answers a 0) ∙ e));
        ends_at_length = λ s i l p e. ends_at_length s i l p (sym (same_answers s i) ∙ e);
        places_below = λ s i l m v w p q e. places_below s i l m v w p q (sym (same_answers s i) ∙ e);
        no_two_nor_eight = λ s l m e p u n f. no_two_nor_eight s l m e p u n (sym (same_answers s 0) ∙ f);
        bounded = λ s i. rw (same_answers s i) (bound s i);
        reaches = λ s i. rw (same_answers s i) (reaches s i);
        ends = λ s i k r p e l. rw (same_further k s p.0) (at_its_end s i k r p (sym (same s i) ∙ e) l);
        ends_for_good = λ s i k p e. rw (same_further k s p.0) (ends_for_good s i k p (rw (same s i) at e));
      }

pub demand_3_returned : Demand3Returned
demand_3_returned = outside

pub demand_3 : Demand3 next_filter
demand_3 = outside next_filter (λ s i. refl)
