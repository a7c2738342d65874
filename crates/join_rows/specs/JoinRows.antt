-- Demand 3 of rows, which `homeludaf_filter_all` hands out: "A filter list A read to its end without a refusal and not ended by `none`, followed by B (both
-- UTF-8, together within the limit), hands out A's values unchanged, then all that B answers alone, moved. A list of n bytes hands out at most n/6 values."
-- A row's entries are those of records, specs/Records; what the call writes is `fitting (filter_at s) lent i` (records, specs/Many; the call's contract, exports).
use Rattle.std.specs.Prelude.{ℕ, suc, ◌+◌, ◌*◌, ◌/◌, ◌≤◌, Bool, true, cond, ◌&&◌, List, [], ◌∷◌, ◌++◌, map, ◌≡◌, eqb, ltb, length, take, get_or, set, Ok}
use Rattle.text_bytes.specs.Bytes.{is_space}
use Rattle.text_bytes.specs.Scan.{scan}
use Rattle.utf8.specs.Characters.{utf8_of, characters}
use Rattle.filter_functions.specs.Filters.{next_filter}
use Rattle.filter_functions.specs.Filters.{FilterStep}
use Rattle.joins.specs.Joins.{answers, move_step, passing}
use Rattle.records.specs.Records.{filter_record}
use Rattle.records.specs.Many.{up_to, fitting, filter_at}

-- all that a list answers from a place on, as rows
abbrev pub rows : List ℕ → ℕ → List (List ℕ)
rows s i = map filter_record (answers next_filter s i)

-- a row's state: 0 a value, 1 the end, 2 the end by `none`, 3 refused
abbrev pub state : List ℕ → ℕ
state r = get_or r 7 0

-- entry j is d more, where t
abbrev pub raised : Bool → ℕ → ℕ → List ℕ → List ℕ
raised t j d r = set r j (cond t (d + get_or r j 0) (get_or r j 0))

-- "moved": a row whose text follows n bytes of k characters. The list place (8) moves by the bytes, whatever the state; a link's start (10) where the kind (9)
-- is 11, which it is of no row but a value's. Of a refusal, by its number (0): a position (1) is listed from 6 on, and moves by the characters; a part (5) is told
-- by 8 alone; a stretch (21, 22) lies in what is read from 4 on. A place (2) is told by 2 alone, which does not come (joins, `NoTwoNorEight`): it stays
unfoldable pub move_row : ℕ → ℕ → List ℕ → List ℕ
move_row n k r =
    raised true 8 n
    (raised (eqb (get_or r 9 0) 11) 10 n
    (raised (ltb 5 (get_or r 0 0)) 1 k
    (raised (eqb (get_or r 0 0) 8) 5 n
    (raised (ltb 3 (get_or r 0 0)) 21 n
    (raised (ltb 3 (get_or r 0 0)) 22 n r)))))

-- a row moves as its answer does
abbrev pub RowsMove : Type 0
RowsMove = (n k : ℕ) (x : FilterStep) → filter_record (move_step n k x) ≡ move_row n k (filter_record x)

-- "unchanged": but the list place of a value's row, where it is the end of A, n bytes, also passes the k spaces that B begins with
unfoldable pub pass_row : ℕ → ℕ → List ℕ → List ℕ
pass_row n k r = raised (eqb (state r) 0 && eqb (get_or r 8 0) n) 8 k r

-- a row passes them as its answer does
abbrev pub RowsPass : Type 0
RowsPass = (n k : ℕ) (x : FilterStep) → filter_record (passing n k x) ≡ pass_row n k (filter_record x)

-- The rows of at most m steps are the first m of all that a list answers
abbrev pub RowsAnswer : Type 0
RowsAnswer = (s : List ℕ) (m i : ℕ) → up_to (filter_at s) m i ≡ take m (rows s i)

-- With room for n/6 + 1 rows the call hands out all of them
abbrev pub Room : List ℕ → List ℕ → Type 0
Room s lent = suc (length s / 6) * 24 ≤ length lent

abbrev pub RowsReach : Type 0
RowsReach = (s lent : List ℕ) (i : ℕ) → Room s lent → fitting (filter_at s) lent i ≡ rows s i

-- 683 at 4,096 bytes; and a text of more is refused in one row
abbrev pub RowsEnough : Type 0
RowsEnough = (s lent : List ℕ) (i : ℕ) → 683 * 24 ≤ length lent → fitting (filter_at s) lent i ≡ rows s i

-- And it has handed out all of them where the last row that it wrote, r, is no value's, whatever room was lent
abbrev pub RowsWhole : Type 0
RowsWhole =
    (s lent : List ℕ) (i : ℕ) (l : List (List ℕ)) (r : List ℕ) → fitting (filter_at s) lent i ≡ l ++ (r ∷ []) → (state r ≡ 0 → ⊥) → fitting (filter_at s) lent i ≡ rows s i

-- The last of all rows, and no other, is no value's
unfoldable pub value_rows : List (List ℕ) → ℕ
value_rows [] = 0
value_rows (r ∷ rs) = cond (eqb (state r) 0) (suc (value_rows rs)) (value_rows rs)

pub record Ended (rs : List (List ℕ)) : Type 0 where
  pub values : List (List ℕ)
  pub last : List ℕ
  pub all : rs ≡ values ++ (last ∷ [])
  pub are_values : value_rows values ≡ length values
  pub no_value : state last ≡ 0 → ⊥

abbrev pub RowsEnd : Type 0
RowsEnd = (s : List ℕ) (i : ℕ) → Ended (rows s i)

-- "A list of n bytes hands out at most n/6 values", whatever room is lent
abbrev pub RowsBound : Type 0
RowsBound = (s lent : List ℕ) (i : ℕ) → value_rows (fitting (filter_at s) lent i) ≤ length s / 6

-- A list A whose rows are l and then that of its end, state 1, followed by B: l again, then all rows of B alone, moved
abbrev pub JoinRows : Type 0
JoinRows =
    (a b : List ℕ) (l : List (List ℕ)) (r : List ℕ) → utf8_of a ≡ Ok tt → utf8_of b ≡ Ok tt → length (a ++ b) ≤ 4096 → rows a 0 ≡ l ++ (r ∷ []) → state r ≡ 1
    → rows (a ++ b) 0 ≡ map (pass_row (length a) (scan is_space b 0)) l ++ map (move_row (length a) (characters a)) (rows b 0)

-- where B begins with no space, A's rows are unchanged whole
abbrev pub JoinRowsUnspaced : Type 0
JoinRowsUnspaced =
    (a b : List ℕ) (l : List (List ℕ)) (r : List ℕ) → utf8_of a ≡ Ok tt → utf8_of b ≡ Ok tt → length (a ++ b) ≤ 4096 → rows a 0 ≡ l ++ (r ∷ []) → state r ≡ 1
    → scan is_space b 0 ≡ 0 → rows (a ++ b) 0 ≡ l ++ map (move_row (length a) (characters a)) (rows b 0)

-- and where it begins with some, all but the last, v
abbrev pub JoinRowsLast : Type 0
JoinRowsLast =
    (a b : List ℕ) (l : List (List ℕ)) (v r : List ℕ) → utf8_of a ≡ Ok tt → utf8_of b ≡ Ok tt → length (a ++ b) ≤ 4096 → rows a 0 ≡ l ++ (v ∷ r ∷ []) → state r ≡ 1
    → rows (a ++ b) 0 ≡ l ++ (pass_row (length a) (scan is_space b 0) v ∷ map (move_row (length a) (characters a)) (rows b 0))

-- So of three calls, on A, which is told to its end, and with room on B and on A followed by B: what the third writes, by what the other two write
abbrev pub JoinCalls : Type 0
JoinCalls =
    (a b forA forB forBoth : List ℕ) (l : List (List ℕ)) (r : List ℕ) → utf8_of a ≡ Ok tt → utf8_of b ≡ Ok tt → length (a ++ b) ≤ 4096
    → Room b forB → Room (a ++ b) forBoth → fitting (filter_at a) forA 0 ≡ l ++ (r ∷ []) → state r ≡ 1
    → fitting (filter_at (a ++ b)) forBoth 0 ≡ map (pass_row (length a) (scan is_space b 0)) l ++ map (move_row (length a) (characters a)) (fitting (filter_at b) forB 0)

-- Demand 3 of rows, whole
pub record Demand3Rows : Type 0 where
  pub move : RowsMove
  pub pass : RowsPass
  pub answer : RowsAnswer
  pub reach : RowsReach
  pub enough : RowsEnough
  pub whole : RowsWhole
  pub end : RowsEnd
  pub bound : RowsBound
  pub join : JoinRows
  pub join_unspaced : JoinRowsUnspaced
  pub join_last : JoinRowsLast
  pub join_calls : JoinCalls
