-- Every keyword reads back as its colour, and where there is none.
use Prim.Native.Nat.{ℕ, ◌-◌, ◌<◌}
use mathlib.Core.Bool.{Bool, true, false, not}
use mathlib.Core.List.{List}
use mathlib.Core.Logic.{inl, inr, ⊎_elim}
use mathlib.Core.Path.{◌≡◌, refl, sym, ap}
use native.Mathlib.Omega.{arith}
use borrow.Author.Tests.{eqb-true, eqb-false, leb-true}
use lib.Dec.{T, eqb, leb}
use lib.ListN.{length, get_or}
use lib.Seq.{take-length}
use Rattle.text_bytes.specs.Bytes.{within, is_space, is_ascii_ident}
use Rattle.text_bytes.specs.Scan.{run, scan}
use Rattle.text_bytes.specs.Words.{same, part, lower_of, lowered}
use Rattle.text_bytes.proofs.Ranges.{all_from, across, either}
use Rattle.text_bytes.proofs.Wording.{same_eq}
use Rattle.utf8.specs.Characters.{is_ascii}
use Rattle.std.specs.Prelude.{Option, Some, None, Result, Ok, Err}
use Rattle.stream.specs.Refusals.{reason_number, bare_refusal}
use Rattle.stream.specs.declared.Reason.TheVariants as R
use Rattle.stream.specs.declared.Refusal.{Refusal}
use Rattle.names.specs.Back.{first_named, name_answer}
use Rattle.names.specs.Keywords.{keywords}
use Rattle.names.specs.Look.{channels}
use Rattle.names.specs.Search.{nth}
use Rattle.names.specs.declared.Rgb.{Rgb}
use Rattle.names.proofs.Firsts.{first_entry, first_none, none_first}
use Rattle.names.proofs.Naming.{named_keyword}
use Rattle.names.proofs.Tables.{holds_true, table_count}
use Rattle.color.specs.Answer.{from_str}
use Rattle.color.specs.Hex.{rgba, color_read}
use Rattle.color.specs.Color.{is_rgb, is_hsl, rgb_of, named_color, parse_word, parse_color}
use Rattle.color.specs.declared.Color.{Color}
use Rattle.set_back.specs.Answers.{NoKeyword, settled, keyword_of, keyword_answer}
use Rattle.set_back.proofs.Readings.{whole_read}
use Rattle.set_back.proofs.Settling.{Says}

-- a test of the names, computed at each
tested : (t : ℕ → Bool) → T (all_from t 0 147) → (k : ℕ) → k < 147 → t k ≡ true
tested t p k h = sym (holds_true _ (across t 0 147 p k (omega arith) (omega arith)))

no : (t : Bool) → not t ≡ true → t ≡ false
no true e = let z : ◌≡◌ {A = ℕ} 0 1 = cc in absurd (omega arith)
no false e = refl

all_of : (w : List ℕ) → part w 0 (length w) ≡ w
unfolding part
all_of w = let n : length w - 0 ≡ length w = omega arith in rw n (take-length w)

rgb_of_is : (x : Rgb) (c : Color) → x ≡ rgb_of c → c.alpha ≡ 255 → rgba x.red x.green x.blue 255 ≡ c
rgb_of_is x c e a = rw (e, ← a) refl

-- 17 is told of no text alone
no_text : (x : Option (List ℕ)) (n : ℕ) → settled x n ≡ Err (bare_refusal R.NoKeyword) → x ≡ None
unfolding settled name_answer reason_number
no_text None n e = refl
no_text (Some w) n e =
    either (leb (length w) n)
    (λ t. let r : ◌≡◌ {A = Result ℕ Refusal} (Ok (length w)) (Err (bare_refusal R.NoKeyword)) = simp t at e in let z : ◌≡◌ {A = ℕ} 0 1 = cc in absurd (omega arith))
    (λ t. let r : ◌≡◌ {A = Result ℕ Refusal} (Err (bare_refusal R.BufferTooShort)) (Err (bare_refusal R.NoKeyword)) = simp t at e in
    let q : bare_refusal R.BufferTooShort ≡ bare_refusal R.NoKeyword = cc in
    let z : ◌≡◌ {A = ℕ} 16 17 = ap (λ (x : Refusal). reason_number x.reason) q in
    absurd (omega arith))

module _ (k : ℕ) (h : k < 147) where
  name_ascii : is_ascii (nth k).name ≡ true
  unfolding keywords is_ascii
  name_ascii = tested (λ j. is_ascii (nth j).name) tt k h

  name_short : leb (length (nth k).name) 4096 ≡ true
  unfolding keywords
  name_short = tested (λ j. leb (length (nth j).name) 4096) tt k h

  name_some : leb (length (nth k).name) 0 ≡ false
  unfolding keywords
  name_some = no _ (tested (λ j. not (leb (length (nth j).name) 0)) tt k h)

  no_space : scan is_space (nth k).name 0 ≡ 0
  unfolding keywords scan run
  no_space = eqb-true _ _ (tested (λ j. eqb (scan is_space (nth j).name 0) 0) tt k h)

  no_hash : eqb (get_or (nth k).name 0 0) 35 ≡ false
  unfolding keywords
  no_hash = no _ (tested (λ j. not (eqb (get_or (nth j).name 0 0) 35)) tt k h)

  one_word : scan is_ascii_ident (nth k).name 0 ≡ length (nth k).name
  unfolding keywords scan run within
  one_word = eqb-true _ _ (tested (λ j. eqb (scan is_ascii_ident (nth j).name 0) (length (nth j).name)) tt k h)

  no_rgb : is_rgb (nth k).name ≡ false
  unfolding keywords is_rgb same lower_of within
  no_rgb = no _ (tested (λ j. not (is_rgb (nth j).name)) tt k h)

  no_hsl : is_hsl (nth k).name ≡ false
  unfolding keywords is_hsl same lower_of within
  no_hsl = no _ (tested (λ j. not (is_hsl (nth j).name)) tt k h)

  in_lower : (nth k).name ≡ lowered (nth k).name
  unfolding keywords same lower_of within
  in_lower = same_eq _ _ (tested (λ j. same (nth j).name (lowered (nth j).name)) tt k h)

  name_read : parse_color (nth k).name 0 ≡ color_read (rgba (nth k).red (nth k).green (nth k).blue 255) (length (nth k).name)
  unfolding parse_color parse_word named_color
  name_read =
      simp (no_space, name_some, no_hash, one_word, all_of (nth k).name, no_rgb, no_hsl, named_keyword (nth k).name k h in_lower)

  pub name_back : from_str (nth k).name ≡ Ok (rgba (nth k).red (nth k).green (nth k).blue 255)
  name_back = whole_read (nth k).name _ name_ascii (leb-true _ _ name_short) name_read

-- the first keyword with a colour reads back as the colour
pub word_reads : (c : Color) (w : List ℕ) → first_named keywords (rgb_of c) ≡ Some w → c.alpha ≡ 255 → from_str w ≡ Ok c
word_reads c w e a =
    let v = first_entry (rgb_of c) w e in
    let h : v.which < 147 = omega (arith, v.inside, table_count) in
    let q : rgba (nth v.which).red (nth v.which).green (nth v.which).blue 255 ≡ c = rgb_of_is (channels (nth v.which)) c v.coloured a in
    rw (v.named, q) at (name_back v.which h)

pub keyword_says : (c : Color) → Says (keyword_of c) c
unfolding keyword_of
keyword_says c =
    either (eqb c.alpha 255) (λ t. simp t (says (first_named keywords (rgb_of c)) (λ w e. word_reads c w e (eqb-true _ _ t)))) (λ t. simp t tt)
  where
    says : (x : Option (List ℕ)) → ((w : List ℕ) → x ≡ Some w → from_str w ≡ Ok c) → Says x c
    says (Some w) f = f w refl
    says None f = tt

-- where there is none
module _ (c : Color) (n : ℕ) where
  pub unnamed_refused : NoKeyword c → keyword_answer c n ≡ Err (bare_refusal R.NoKeyword)
  unfolding keyword_answer keyword_of settled name_answer
  unnamed_refused d =
      either (eqb c.alpha 255)
      (λ t. ⊎_elim (λ (f : c.alpha ≡ 255 → ⊥). absurd (f (eqb-true _ _ t))) (λ (f : (k : ℕ) → k < 147 → channels (nth k) ≡ rgb_of c → ⊥). simp (t, first_none (rgb_of c) f)) d)
      (λ t. simp t)

  pub refused_unnamed : keyword_answer c n ≡ Err (bare_refusal R.NoKeyword) → NoKeyword c
  unfolding keyword_answer keyword_of
  refused_unnamed e =
      either (eqb c.alpha 255)
      (λ t. inr (none_first (rgb_of c) (no_text (first_named keywords (rgb_of c)) n (simp t at e))))
      (λ t. inl (eqb-false _ _ t))
