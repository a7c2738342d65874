-- "Links follow `parse_iri` and `parse_func_iri`": the readers, step by step.
use Rattle.std.specs.Prelude.{ℕ, ◌+◌, ◌-◌, Bool, false, ◌||◌, not, cond, List, [], ◌∷◌, leb, eqb, length, get_or, take, drop, Result, Ok, Err, if◌then◌else◌}
use Rattle.utf8.specs.Blanks.{trim_end}
use Rattle.text_bytes.specs.Bytes.{is_space, is_link_byte, is_url_byte, is_other}
use Rattle.text_bytes.specs.Flow.{◌>>=◌}
use Rattle.text_bytes.specs.Moves.{place}
use Rattle.text_bytes.specs.Scan.{scan}
use Rattle.text_bytes.specs.Words.{ascii, part}
use Rattle.text_bytes.specs.declared.Part.{Part}
use Rattle.text_bytes.specs.declared.Place.{Place}
use Rattle.stream.specs.Faults.{invalid_value, consume_byte, consume_string}
use Rattle.stream.specs.declared.Fault.{Fault}
use Rattle.stream.specs.declared.Read.{Read}

-- `'` (39) and `"` (34)
abbrev pub is_quote : ℕ → Bool
is_quote b = eqb b 39 || eqb b 34

-- `link.contains('\'') || link.contains('"')`
unfoldable pub has_quote : List ℕ → Bool
has_quote [] = false
has_quote (x ∷ xs) = is_quote x || has_quote xs

-- neither empty nor with a quote in it; any other link is 5, `InvalidValue`
unfoldable pub is_link : List ℕ → Bool
is_link [] = false
is_link (x ∷ xs) = not (has_quote (x ∷ xs))

-- the n bytes from a place on
abbrev pub link_at : Place → ℕ → Part
link_at p n = record { start = p; len = n }

-- and where reading goes on
abbrev pub link_read : Part → ℕ → Read Part
link_read l i = record { value = l; next = place i }

-- `parse_iri`: spaces, `#` (35), the bytes up to a space (32); 5 where there are none
unfoldable pub parse_iri : List ℕ → ℕ → Result (Read Part) Fault
parse_iri s i = do
  start ← consume_byte s (scan is_space s i) 35
  let end = scan is_link_byte s start.0
  if leb end start.0 then Err (invalid_value start.0) else Ok (link_read (link_at start (end - start.0)) end)

-- the closing bracket (41), after spaces
unfoldable pub close_link : List ℕ → ℕ → Part → Result (Read Part) Fault
close_link s i link = do
  next ← consume_byte s (scan is_space s i) 41
  Ok (record { value = link; next = next })

-- the closing quote, after spaces, and the bracket
unfoldable pub close_quote : List ℕ → ℕ → ℕ → Part → Result (Read Part) Fault
close_quote s i quote link = do
  next ← consume_byte s (scan is_space s i) quote
  close_link s next.0 link

-- After the opening quote: spaces, `#` (35), the bytes up to the same quote, trimmed at their end. Reading goes on, or stops with 5, at the quote: trimming gives nothing back
unfoldable pub quoted_link : List ℕ → ℕ → ℕ → Result (Read Part) Fault
quoted_link s i quote = do
  start ← consume_byte s (scan is_space s i) 35
  let end = scan (is_other quote) s start.0
  let len = trim_end (part s start.0 end)
  if is_link (take len (part s start.0 end)) then close_quote s end quote (link_at start len) else Err (invalid_value end)

-- With no quote: `#` (35), the bytes up to a space (32) or `)` (41). 5 stops there
unfoldable pub plain_link : List ℕ → ℕ → Result (Read Part) Fault
plain_link s i = do
  start ← consume_byte s i 35
  let end = scan is_url_byte s start.0
  if is_link (part s start.0 end) then close_link s end (link_at start (end - start.0)) else Err (invalid_value end)

-- `parse_func_iri`: spaces, `url(`, spaces, an optional quote; the byte past the end is 0, which is none
unfoldable pub parse_func_iri : List ℕ → ℕ → Result (Read Part) Fault
parse_func_iri s i = do
  inner ← consume_string s (scan is_space s i) (ascii "url(")
  let first = scan is_space s inner.0
  let b = get_or s first 0
  if is_quote b then quoted_link s (first + 1) b else plain_link s first

-- "a place and a length, with a thin call that returns the part"; the empty part where it does not lie inside the text
unfoldable pub link_bytes : List ℕ → Part → List ℕ
link_bytes s p = cond (leb (p.start.0 + p.len) (length s)) (take p.len (drop p.start.0 s)) []
