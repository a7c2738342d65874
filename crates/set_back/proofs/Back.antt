-- The theorems of what is written: each statement is a sentence of the rule.
use Prim.Native.Nat.{ℕ, ◌<◌}
use mathlib.Core.Bool.{Bool}
use mathlib.Core.List.{List}
use mathlib.Core.Logic.{◌⊎◌}
use mathlib.Core.Path.{◌≡◌}
use lib.Dec.{T}
use lib.ListN.{length, drop}
use Rattle.lent.specs.Texts.{written}
use Rattle.stream.specs.Refusals.{bare_refusal}
use Rattle.stream.specs.declared.Refusal.{Refusal}
use Rattle.std.specs.Prelude.{Some, Ok, Err}
use Rattle.stream.specs.declared.Reason.TheVariants as R
use Rattle.names.specs.Back.{first_named, name_over}
use Rattle.names.specs.Keywords.{keywords}
use Rattle.names.specs.Look.{channels}
use Rattle.names.specs.Order.{before}
use Rattle.names.specs.Search.{nth}
use Rattle.names.specs.declared.Rgb.{Rgb}
use Rattle.color.specs.Answer as colors
use Rattle.color.specs.Color.{rgb_of}
use Rattle.color.specs.declared.Color.{Color}
use Rattle.names.proofs.Firsts.{first_before}
use Rattle.set_back.specs.Answers.{Bytes, NoKeyword, hex_answer, keyword_of, keyword_answer}
use Rattle.set_back.specs.Texts.{hex_text}
use Rattle.set_back.proofs.Readings.{hex_reads}
use Rattle.set_back.proofs.Settling.{behind_stays, all_stays}
use Rattle.set_back.proofs.Words.{word_reads, unnamed_refused, refused_unnamed}

-- THEOREM. "What is written reads back as the same colour": each form of hex
pub hex_back : (c : Color) (short : Bool) → Bytes c → colors.from_str (hex_text c short) ≡ Ok c
hex_back c short v = hex_reads c v short

-- THEOREM. And the keyword
pub keyword_back : (c : Color) (w : List ℕ) → first_named keywords (rgb_of c) ≡ Some w → c.alpha ≡ 255 → colors.from_str w ≡ Ok c
keyword_back c w e a = word_reads c w e a

-- THEOREM. "The first in alphabetical order with those channels": of all that have them none stands before it
pub keyword_first : (x : Rgb) (w : List ℕ) → first_named keywords x ≡ Some w → (k : ℕ) → k < 147 → channels (nth k) ≡ x → (w ≡ (nth k).name) ⊎ T (before w (nth k).name)
keyword_first x w e k h q = first_before x w e k h q

-- THEOREM. "The keyword is refused exactly if no keyword has that colour (16 apart)", however many bytes are lent
pub keyword_none : (c : Color) (n : ℕ) → (NoKeyword c → keyword_answer c n ≡ Err (bare_refusal R.NoKeyword)) × (keyword_answer c n ≡ Err (bare_refusal R.NoKeyword) → NoKeyword c)
keyword_none c n = (unnamed_refused c n, refused_unnamed c n)

-- THEOREM. "Bytes after it stay", and "both write nothing", by the buffers that the contracts give
pub bytes_stay : (c : Color) (o : List ℕ)
    → ((short : Bool) (n : ℕ) → hex_answer c short (length o) ≡ Ok n → drop n (written (hex_text c short) o) ≡ drop n o)
    × ((short : Bool) (e : Refusal) → hex_answer c short (length o) ≡ Err e → written (hex_text c short) o ≡ o)
    × ((n : ℕ) → keyword_answer c (length o) ≡ Ok n → drop n (name_over (keyword_of c) o) ≡ drop n o)
    × ((e : Refusal) → keyword_answer c (length o) ≡ Err e → name_over (keyword_of c) o ≡ o)
unfolding hex_answer keyword_answer name_over
bytes_stay c o =
    (λ short n. behind_stays (Some (hex_text c short)) o n, λ short e. all_stays (Some (hex_text c short)) o e, λ n. behind_stays (keyword_of c) o n, λ e. all_stays (keyword_of c) o e)
