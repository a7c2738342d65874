-- Of joined lists: "A filter list A read to its end without a refusal and not ended by `none`, followed by B (both UTF-8, together within the limit), hands
-- out A's values unchanged, then all that B answers alone, moved. A list of n bytes hands out at most n/6 values." And: "A filter list
-- that refuses a value is at its end from then on."
-- The statements are of any step `next`; `demand_3` has them of `next_filter`, which is all that filter_functions::next answers.
-- Left out: which values a list has, which is for `next_filter` to say (a step that ends at once at the end of the text would meet `Join`); lists that end by `none` (`none`
-- followed by anything but spaces is 5) or with a refusal (what follows is not looked at).
use Rattle.std.specs.Prelude.{ℕ, zero, suc, ◌+◌, ◌≤◌, ◌<◌, ◌/◌, List, [], ◌∷◌, ◌++◌, map, ◌⊎◌, ◌≡◌, eqb, leb, length, Result, Ok, Err, if◌then◌else◌}
use Rattle.text_bytes.specs.Bytes.{is_space}
use Rattle.utf8.specs.Characters.{utf8_of, characters}
use Rattle.text_bytes.specs.Moves.{place, move_place}
use Rattle.stream.specs.Moves.{move_refusal}
use Rattle.stream.specs.Paper.{PaperRefusal}
use Rattle.stream.specs.Refusals.{reason_number}
use Rattle.text_bytes.specs.Scan.{scan}
use Rattle.text_bytes.specs.declared.Place.{Place}
use Rattle.stream.specs.declared.Refusal.{Refusal}
use Rattle.stream.specs.Steps.{refused_step}
use Rattle.filter_functions.specs.Filters.{value_step, end_step, none_step, next_filter}
use Rattle.filter_functions.specs.Moves.{move_filter_value, move_listed}
use Rattle.filter_functions.specs.Paper.{PaperValue, PaperStep, paper_step}
use Rattle.filter_functions.specs.Filters.{FilterStep}
use Rattle.filter_functions.specs.declared.FilterValue.{FilterValue}
use Rattle.filter_functions.specs.declared.Listed.{Listed}
use Rattle.filter_functions.specs.declared.Listed.TheVariants as I

-- a step: the text and the list place, to what a call answers
abbrev pub Next : Type 0
Next = List ℕ → ℕ → FilterStep

-- a value, and what g answers from its list place on; any other answer is the last
abbrev pub go_on : FilterStep → (ℕ → List FilterStep) → Result Listed Refusal → List FilterStep
go_on x g (Ok (I.Value v)) = x ∷ g x.place.0
go_on x g (Ok I.End) = x ∷ []
go_on x g (Ok I.NoneWord) = x ∷ []
go_on x g (Err e) = x ∷ []

unfoldable pub follow : FilterStep → (ℕ → List FilterStep) → List FilterStep
follow x g = go_on x g x.item

-- at most k values, and one answer more
unfoldable pub from : Next → ℕ → List ℕ → ℕ → List FilterStep
from next zero s i = next s i ∷ []
from next (suc k) s i = follow (next s i) (λ n. from next k s n)

-- all that a list answers from a place on, to its end or its refusal, each with its list place. A list has fewer values than bytes (`answers_step`)
unfoldable pub answers : Next → List ℕ → ℕ → List FilterStep
answers next s i = from next (length s) s i

-- the values that were handed out, in order
abbrev pub hand : Result Listed Refusal → List FilterValue → List FilterValue
hand (Ok (I.Value v)) l = v ∷ l
hand (Ok I.End) l = l
hand (Ok I.NoneWord) l = l
hand (Err e) l = l

unfoldable pub handed : List FilterStep → List FilterValue
handed [] = []
handed (x ∷ l) = hand x.item (handed l)

-- how many they are
unfoldable pub values : List FilterStep → ℕ
values l = length (handed l)

-- "moved": an answer whose text follows n bytes of k characters. Links' places, list places and stretches move by the bytes, listed positions
-- by the characters. `move_refusal` leaves the place of a 2, and moves the part of an 8: neither comes (`NoTwoNorEight`)
abbrev pub move_item : ℕ → ℕ → Result Listed Refusal → Result Listed Refusal
move_item n k (Ok x) = Ok (move_listed n x)
move_item n k (Err e) = Err (move_refusal n k e)

unfoldable pub move_step : ℕ → ℕ → FilterStep → FilterStep
move_step n k x = record { item = move_item n k x.item; place = move_place n x.place }

-- "unchanged": but a list place at the end of A, n bytes, also passes the k spaces that B begins with
abbrev pub passed : ℕ → ℕ → Result Listed Refusal → Place → Place
passed n k (Ok (I.Value v)) p = place (if eqb p.0 n then n + k else p.0)
passed n k (Ok I.End) p = p
passed n k (Ok I.NoneWord) p = p
passed n k (Err e) p = p

unfoldable pub passing : ℕ → ℕ → FilterStep → FilterStep
passing n k x = record { item = x.item; place = passed n k x.item x.place }

-- A list A that answers l and then ends, by no refusal and not by `none`, followed by B: l again, then all that B answers alone, moved
abbrev pub Join : Next → Type 0
Join next =
    (a b : List ℕ) (l : List FilterStep) (p : Place) → utf8_of a ≡ Ok tt → utf8_of b ≡ Ok tt → length (a ++ b) ≤ 4096 → answers next a 0 ≡ l ++ (end_step p ∷ [])
    → answers next (a ++ b) 0 ≡ map (passing (length a) (scan is_space b 0)) l ++ map (move_step (length a) (characters a)) (answers next b 0)

-- So of the values alone, with no exception: A's unchanged, then B's, whose links move
abbrev pub JoinValues : Next → Type 0
JoinValues next =
    (a b : List ℕ) (l : List FilterStep) (p : Place) → utf8_of a ≡ Ok tt → utf8_of b ≡ Ok tt → length (a ++ b) ≤ 4096 → answers next a 0 ≡ l ++ (end_step p ∷ [])
    → handed (answers next (a ++ b) 0) ≡ handed (answers next a 0) ++ map (move_filter_value (length a)) (handed (answers next b 0))

-- and where B begins with no space, A's answers are unchanged whole, list places too
abbrev pub JoinUnspaced : Next → Type 0
JoinUnspaced next =
    (a b : List ℕ) (l : List FilterStep) (p : Place) → utf8_of a ≡ Ok tt → utf8_of b ≡ Ok tt → length (a ++ b) ≤ 4096 → answers next a 0 ≡ l ++ (end_step p ∷ [])
    → scan is_space b 0 ≡ 0 → answers next (a ++ b) 0 ≡ l ++ map (move_step (length a) (characters a)) (answers next b 0)

-- The end of a list lies after its last byte: the p of `Join` is the length of A
abbrev pub EndsAtLength : Next → Type 0
EndsAtLength next = (s : List ℕ) (i : ℕ) (l : List FilterStep) (p : Place) → answers next s i ≡ l ++ (end_step p ∷ []) → p ≡ place (length s)

-- The list place of every value but the last lies before the end of its text
abbrev pub PlacesBelow : Next → Type 0
PlacesBelow next =
    (s : List ℕ) (i : ℕ) (l m : List FilterStep) (v w : FilterValue) (p q : Place) → answers next s i ≡ l ++ (value_step v p ∷ value_step w q ∷ m) → p.0 < length s

-- so that of A's answers the last alone, x, passes B's spaces: those before it, l, are unchanged whole
abbrev pub JoinLast : Next → Type 0
JoinLast next =
    (a b : List ℕ) (l : List FilterStep) (x : FilterStep) (p : Place) → utf8_of a ≡ Ok tt → utf8_of b ≡ Ok tt → length (a ++ b) ≤ 4096
    → answers next a 0 ≡ l ++ (x ∷ end_step p ∷ [])
    → answers next (a ++ b) 0 ≡ l ++ (passing (length a) (scan is_space b 0) x ∷ map (move_step (length a) (characters a)) (answers next b 0))

-- No answer of a list that is UTF-8 and within the limit, read from its start, is a refusal by 1 to 3, which judge a text and a place before
-- anything is read, nor by 8, which links as such are refused by. So under the premises of `Join` there is no place of a 2 and no part of an 8
abbrev pub NoTwoNorEight : Next → Type 0
NoTwoNorEight next =
    (s : List ℕ) (l m : List FilterStep) (e : Refusal) (p : Place) → utf8_of s ≡ Ok tt → length s ≤ 4096 → answers next s 0 ≡ l ++ (refused_step e p ∷ m)
    → (4 ≤ reason_number e.reason) × (reason_number e.reason ≡ 8 → ⊥)

-- The same of the records: `records` is all that a list answers as such
abbrev pub records : Next → List ℕ → ℕ → List PaperStep
records next s i = map paper_step (answers next s i)

-- a link (kind 11) moves with its text, and no other value has one
unfoldable pub move_result : ℕ → PaperValue → PaperValue
move_result n v =
    record {
      kind = v.kind;
      number = v.number;
      measure = v.measure;
      turn = v.turn;
      shadow = v.shadow;
      link = record { start = place (if eqb v.kind 11 then n + v.link.start.0 else v.link.start.0); len = v.link.len };
    }

-- a listed position moves by the characters, the part of 8 and the stretch by the bytes, and all else stays. 1 to 5 list no position, and 1 to 3 no stretch of what is read. A value's record (number 0) stays
unfoldable pub move_paper : ℕ → ℕ → PaperRefusal → PaperRefusal
move_paper n k r =
    record {
      number = r.number;
      position = if leb r.number 5 then r.position else k + r.position;
      place = r.place;
      found = r.found;
      wanted = r.wanted;
      part = record { start = place (if eqb r.number 8 then n + r.part.start.0 else r.part.start.0); len = r.part.len };
      from = place (if leb r.number 3 then r.from.0 else n + r.from.0);
      to = place (if leb r.number 3 then r.to.0 else n + r.to.0);
    }

unfoldable pub move_record : ℕ → ℕ → PaperStep → PaperStep
move_record n k r = record { refusal = move_paper n k r.refusal; ended = r.ended; value = move_result n r.value; place = move_place n r.place }

unfoldable pub pass_record : ℕ → ℕ → PaperStep → PaperStep
pass_record n k r = record { refusal = r.refusal; ended = r.ended; value = r.value; place = place (if eqb r.place.0 n then n + k else r.place.0) }

abbrev pub JoinRecords : Next → Type 0
JoinRecords next =
    (a b : List ℕ) (l : List FilterStep) (p : Place) → utf8_of a ≡ Ok tt → utf8_of b ≡ Ok tt → length (a ++ b) ≤ 4096 → answers next a 0 ≡ l ++ (end_step p ∷ [])
    → records next (a ++ b) 0 ≡ map (pass_record (length a) (scan is_space b 0)) (map paper_step l) ++ map (move_record (length a) (characters a)) (records next b 0)

-- A list of n bytes, whatever they are, hands out at most n / 6 values, from whatever place it is read
abbrev pub Bound : Next → Type 0
Bound next = (s : List ℕ) (i : ℕ) → values (answers next s i) ≤ length s / 6

-- so that n / 6 answers and one more always reach its end or its refusal: 683 at 4,096 bytes
abbrev pub Reaches : Next → Type 0
Reaches next = (s : List ℕ) (i : ℕ) → length (answers next s i) ≤ suc (length s / 6)

-- the answer of the step after k further steps, each from the list place that came with the one before
unfoldable pub further : Next → ℕ → List ℕ → ℕ → FilterStep
further next zero s i = next s i
further next (suc k) s i = further next k s (next s i).place.0

-- After a refusal of a value (4 to 15, 22 to 24) every further step answers the end. A step refused by 1 to 3 has read nothing: its place comes back as it was
abbrev pub AtItsEnd : Next → Type 0
AtItsEnd next = (s : List ℕ) (i k : ℕ) (e : Refusal) (p : Place) → next s i ≡ refused_step e p → 4 ≤ reason_number e.reason → further next k s p.0 ≡ end_step p

-- And so after an end, by `none` or not: a caller who asks on after any answer that is no value gets no more of them
abbrev pub EndsForGood : Next → Type 0
EndsForGood next = (s : List ℕ) (i k : ℕ) (p : Place) → (next s i ≡ end_step p) ⊎ (next s i ≡ none_step p) → further next k s p.0 ≡ end_step p

-- Of what single calls return, `alone` on the one list and `both` on the two: a value of A is returned again,
abbrev pub Unchanged : ℕ → ℕ → FilterStep → FilterStep → Type 0
Unchanged n k alone both = (v : FilterValue) (p : Place) → alone ≡ value_step v p → both ≡ passing n k alone

-- and from where A has ended B's first answer, moved
abbrev pub Meets : ℕ → ℕ → FilterStep → FilterStep → FilterStep → Type 0
Meets n k ended alone both = (p : Place) → ended ≡ end_step p → both ≡ move_step n k alone

-- all of it
pub record Demand3 (next : Next) : Type 0 where
  pub joins : Join next
  pub joins_records : JoinRecords next
  pub joins_values : JoinValues next
  pub joins_unspaced : JoinUnspaced next
  pub joins_last : JoinLast next
  pub ends_at_length : EndsAtLength next
  pub places_below : PlacesBelow next
  pub no_two_nor_eight : NoTwoNorEight next
  pub bounded : Bound next
  pub reaches : Reaches next
  pub ends : AtItsEnd next
  pub ends_for_good : EndsForGood next

-- and of whatever a function returns that keeps the contract of filter_functions::next
abbrev pub Demand3Returned : Type 0
Demand3Returned = (returned : Next) → ((s : List ℕ) (i : ℕ) → returned s i ≡ next_filter s i) → Demand3 returned
