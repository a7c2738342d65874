-- shift: reading at `length a + i` of `a ++ b` is reading at i of b, with every place moved by `length a`.
use Prim.Native.Nat.{ℕ, ◌+◌}
use mathlib.Core.List.{List, ◌++◌}
use mathlib.Core.Path.{◌≡◌, refl}
use lib.ListN.{length}
use Rattle.text_bytes.specs.Bytes.{is_space}
use Rattle.text_bytes.specs.Moves.{move_place, move_part}
use Rattle.text_bytes.specs.Scan.{scan}
use Rattle.text_bytes.specs.Words.{ascii}
use Rattle.text_bytes.specs.declared.Place.{Place}
use Rattle.text_bytes.proofs.Scans.{scan_shift}
use Rattle.text_bytes.proofs.Shifts.{shifts, cond_push, part_shift}
use Rattle.stream.specs.Faults.{consume_byte, consume_string}
use Rattle.stream.specs.Moves.{moved, move_read}
use Rattle.stream.proofs.Binds.{bind_moved}
use Rattle.stream.proofs.Shifts.{byte_shift, string_shift}
use Rattle.funciri.specs.Link.{link_at, close_link, close_quote, quoted_link, plain_link, parse_iri, parse_func_iri}

module _ (a b : List ℕ) where
  -- a byte wanted after spaces
  spaced_shift : (i c : ℕ) → consume_byte (a ++ b) (scan is_space (a ++ b) (length a + i)) c ≡ moved move_place (length a) (consume_byte b (scan is_space b i) c)
  spaced_shift i c = simp scan_shift (byte_shift a b (scan is_space b i) c)

  url_shift : (i : ℕ) → consume_string (a ++ b) (scan is_space (a ++ b) (length a + i)) (ascii "url(") ≡ moved move_place (length a) (consume_string b (scan is_space b i) (ascii "url("))
  url_shift i = simp scan_shift (string_shift a b (scan is_space b i) (ascii "url("))

  close_shift : (i : ℕ) (p : Place) (n : ℕ) → close_link (a ++ b) (length a + i) (link_at (move_place (length a) p) n) ≡ moved (move_read move_part) (length a) (close_link b i (link_at p n))
  unfolding close_link
  close_shift i p n =
      bind_moved move_place (move_read move_part) (length a) (consume_byte b (scan is_space b i) 41) _ _ _ (spaced_shift i 41) (λ q. refl)

  quote_shift : (i quote : ℕ) (p : Place) (n : ℕ)
      → close_quote (a ++ b) (length a + i) quote (link_at (move_place (length a) p) n) ≡ moved (move_read move_part) (length a) (close_quote b i quote (link_at p n))
  unfolding close_quote
  quote_shift i quote p n =
      bind_moved move_place (move_read move_part) (length a) (consume_byte b (scan is_space b i) quote) _ _ _ (spaced_shift i quote) (λ q. close_shift q.0 p n)

  quoted_shift : (i quote : ℕ) → quoted_link (a ++ b) (length a + i) quote ≡ moved (move_read move_part) (length a) (quoted_link b i quote)
  unfolding quoted_link
  quoted_shift i quote =
      bind_moved move_place (move_read move_part) (length a) (consume_byte b (scan is_space b i) 35) _ _ _ (spaced_shift i 35)
      (λ p. simp (shifts, part_shift, quote_shift, cond_push (moved (move_read move_part) (length a))))

  plain_shift : (i : ℕ) → plain_link (a ++ b) (length a + i) ≡ moved (move_read move_part) (length a) (plain_link b i)
  unfolding plain_link
  plain_shift i =
      bind_moved move_place (move_read move_part) (length a) (consume_byte b i 35) _ _ _ (byte_shift a b i 35)
      (λ p. simp (shifts, part_shift, close_shift, cond_push (moved (move_read move_part) (length a))))

  pub iri_shift : (i : ℕ) → parse_iri (a ++ b) (length a + i) ≡ moved (move_read move_part) (length a) (parse_iri b i)
  unfolding parse_iri
  iri_shift i =
      bind_moved move_place (move_read move_part) (length a) (consume_byte b (scan is_space b i) 35) _ _ _ (spaced_shift i 35)
      (λ p. simp (shifts, cond_push (moved (move_read move_part) (length a))))

  pub func_iri_shift : (i : ℕ) → parse_func_iri (a ++ b) (length a + i) ≡ moved (move_read move_part) (length a) (parse_func_iri b i)
  unfolding parse_func_iri
  func_iri_shift i =
      bind_moved move_place (move_read move_part) (length a) (consume_string b (scan is_space b i) (ascii "url(")) _ _ _
      (url_shift i)
      (λ p. simp (shifts, quoted_shift, plain_shift, cond_push (moved (move_read move_part) (length a))))
