-- CSS Color 3's keywords, in letters of either case, are the words that the reader of colours reads as their channels.
use Prim.Native.Nat.{ℕ, ◌+◌, ◌≤◌, ◌<◌}
use mathlib.Core.Bool.{Bool, true, false, ◌&&◌, ◌||◌, not}
use mathlib.Core.List.{List, ◌∷◌, ◌++◌}
use mathlib.Core.Path.{◌≡◌, refl, sym, ap, ◌∙◌}
use native.Mathlib.Omega.{arith}
use borrow.Author.Tests.{ltb-true}
use lib.Dec.{T, ltb}
use lib.ListN.{length, get_or, length-map}
use Rattle.text_bytes.specs.Bytes.{within, is_lower, is_ascii_ident}
use Rattle.text_bytes.specs.Moves.{place}
use Rattle.stream.specs.Faults.{invalid_value}
use Rattle.stream.specs.Refusals.{empty_refusal, admit_text}
use Rattle.text_bytes.specs.Words.{ascii, same, lower_of, lowered}
use Rattle.text_bytes.proofs.Ranges.{and_first, and_second, all_from, across}
use Rattle.text_bytes.proofs.Wording.{same_eq}
use Rattle.names.specs.Keywords as own
use Rattle.names.specs.Search.{nth}
use Rattle.names.proofs.Naming.{named_keyword, named_unknown, named_transparent}
use Rattle.names.proofs.Tables.{holds_true}
use Rattle.names.specs.Look.{named_of}
use Rattle.color.specs.Answer.{from_str}
use Rattle.color.specs.Color.{is_rgb, is_hsl, named_color, parse_color}
use Rattle.color.specs.Hex.{rgba}
use Rattle.stream.specs.declared.Trouble.TheVariants as T
use Rattle.stream.specs.declared.Reason.TheVariants as R
use Rattle.standards.specs.Answers.{read_on}
use Rattle.std.specs.Prelude.{Err, Ok, None}
use Rattle.stream.specs.Moves.{move_read, moved, stays}
use Rattle.standards.specs.CssValues3.{Blank, blanks}
use Rattle.standards.specs.CssColor3Names.{Keyword, is, keywords}
use Rattle.standards.proofs.Runs.{every, blanks_end}
use Rattle.standards.proofs.Cursors.{differs}
use Rattle.standards.proofs.Colours.{after_blanks, letters, word_ascii, word_first, color_text, refused_text}
use Rattle.standards.specs.Notations.{Other}

-- the standard's keyword k
abbrev pub keyword : ℕ → Keyword
keyword k = get_or keywords k (is "" 0 0 0)

pub how_many : length keywords ≡ 147
unfolding keywords
how_many = refl

-- a test of the standard's keywords, computed at each
tested : (t : ℕ → Bool) → T (all_from t 0 147) → (k : ℕ) → k < length keywords → t k ≡ true
tested t h k l = sym (holds_true (t k) (across t 0 147 h k (omega arith) (omega (arith, how_many))))

-- the table that the look-up goes by is the standard's, line by line: the channels and the name
abbrev pub ours : ℕ → List ℕ
ours k = (nth k).red ∷ (nth k).green ∷ (nth k).blue ∷ (nth k).name

abbrev pub theirs : ℕ → List ℕ
theirs k = (keyword k).red ∷ (keyword k).green ∷ (keyword k).blue ∷ ascii (keyword k).name

pub same_line : (k : ℕ) → k < length keywords → ours k ≡ theirs k
unfolding keywords own.keywords same
same_line k l = same_eq (ours k) (theirs k) (tested (λ j. same (ours j) (theirs j)) tt k l)

-- the words that begin a function
abbrev pub is_function : List ℕ → Bool
is_function n = (same n (ascii "rgb") || same n (ascii "rgba")) || (same n (ascii "hsl") || same n (ascii "hsla"))

-- a name: small letters, at least one, and no function's
abbrev pub is_name : List ℕ → Bool
is_name n = every is_lower n && (ltb 0 (length n) && not (is_function n))

pub keyword_is_name : (k : ℕ) → k < length keywords → is_name (ascii (keyword k).name) ≡ true
unfolding keywords same within
keyword_is_name k l = tested (λ j. is_name (ascii (keyword j).name)) tt k l

neither : (t u : Bool) → not (t || u) ≡ true → (t ≡ false) × (u ≡ false)
neither true u e = let z : ◌≡◌ {A = ℕ} 0 1 = cc in absurd (omega arith)
neither false true e = let z : ◌≡◌ {A = ℕ} 0 1 = cc in absurd (omega arith)
neither false false e = (refl, refl)

-- a word that is no function's is looked up
module _ (w rest : List ℕ) (f : is_ascii_ident (get_or rest 0 0) ≡ false) where
  looked_up : every is_ascii_ident w ≡ true → 0 < length w → not (is_function (lowered w)) ≡ true → parse_color (w ++ rest) 0 ≡ named_color w (length w)
  unfolding is_rgb is_hsl
  looked_up e h n =
      let q = neither (same (lowered w) (ascii "rgb") || same (lowered w) (ascii "rgba")) (same (lowered w) (ascii "hsl") || same (lowered w) (ascii "hsla")) n in
      word_first w rest e h f ∙ simp (q.0, q.1)

  name_up : is_name (lowered w) ≡ true → parse_color (w ++ rest) 0 ≡ named_color w (length w)
  name_up t =
      let r = and_second (every is_lower (lowered w)) (ltb 0 (length (lowered w)) && not (is_function (lowered w))) t in
      looked_up (letters w (and_first (every is_lower (lowered w)) (ltb 0 (length (lowered w)) && not (is_function (lowered w))) t))
      (omega (arith, ltb-true 0 (length (lowered w)) (and_first (ltb 0 (length (lowered w))) (not (is_function (lowered w))) r), length-map w lower_of))
      (and_second (ltb 0 (length (lowered w))) (not (is_function (lowered w))) r)

-- THEOREM. Each keyword, in letters of either case, is read with its channels, and reading goes on after it
pub names_read : (k : ℕ) → k < length keywords → (w rest : List ℕ) → lowered w ≡ ascii (keyword k).name → is_ascii_ident (get_or rest 0 0) ≡ false
    → parse_color (w ++ rest) 0 ≡ read_on (rgba (keyword k).red (keyword k).green (keyword k).blue 255) (place (length w))
unfolding named_color
names_read k l w rest e f =
    let q : ours k ≡ theirs k = same_line k l in
    let n : (nth k).name ≡ lowered w = cc in
    let r : (nth k).red ≡ (keyword k).red = cc in
    let g : (nth k).green ≡ (keyword k).green = cc in
    let b : (nth k).blue ≡ (keyword k).blue = cc in
    name_up w rest f (rw e (keyword_is_name k l)) ∙ simp (named_keyword w k (omega (arith, how_many)) n, r, g, b)

-- and so after white space
pub names_spaced : (l : List Blank) (k : ℕ) → k < length keywords → (w rest : List ℕ) → lowered w ≡ ascii (keyword k).name → is_ascii_ident (get_or rest 0 0) ≡ false
    → parse_color (blanks l ++ (w ++ rest)) 0 ≡ read_on (rgba (keyword k).red (keyword k).green (keyword k).blue 255) (place (length l + length w))
names_spaced l k h w rest e f = after_blanks l (w ++ rest) ∙ ap (moved (move_read stays) (length l)) (names_read k h w rest e f)

-- and as a whole text with white space about it
pub names_text : (l m : List Blank) (k : ℕ) → k < length keywords → (w : List ℕ) → lowered w ≡ ascii (keyword k).name → length l + (length w + length m) ≤ 4096
    → from_str (blanks l ++ (w ++ blanks m)) ≡ Ok (rgba (keyword k).red (keyword k).green (keyword k).blue 255)
unfolding within
names_text l m k h w e n =
    color_text l m w (rgba (keyword k).red (keyword k).green (keyword k).blue 255) n (word_ascii w (letters w (rw e (and_first _ _ (keyword_is_name k h)))))
    (names_read k h w (blanks m) e (blanks_end is_ascii_ident refl refl refl refl refl m))

-- `transparent`, which is in no table of keywords, has alpha 0
pub names_transparent : (w rest : List ℕ) → lowered w ≡ ascii "transparent" → is_ascii_ident (get_or rest 0 0) ≡ false
    → parse_color (w ++ rest) 0 ≡ read_on (rgba 0 0 0 0) (place (length w))
unfolding named_color same within
names_transparent w rest e f = name_up w rest f (rw e refl) ∙ simp (named_transparent w e)

no_function : (n : List ℕ) → Other n → not (is_function n) ≡ true
no_function n o =
    simp (differs n (ascii "rgb") o.no_rgb, differs n (ascii "rgba") o.no_rgba, differs n (ascii "hsl") o.no_hsl, differs n (ascii "hsla") o.no_hsla)

-- THEOREM. No other word is a colour: it is refused by 5 at its end
pub names_other : (w rest : List ℕ) → every is_ascii_ident w ≡ true → 0 < length w → is_ascii_ident (get_or rest 0 0) ≡ false → Other (lowered w)
    → parse_color (w ++ rest) 0 ≡ Err (invalid_value (length w))
unfolding named_color
names_other w rest e h f o =
    let u : named_of w ≡ None = named_unknown w unlisted (λ q. o.no_transparent (sym q)) in
    looked_up w rest f e h (no_function (lowered w) o) ∙ simp u
  where
    unlisted : (k : ℕ) → k < 147 → (nth k).name ≡ lowered w → ⊥
    unlisted k l q =
        let i : k < length keywords = omega (arith, how_many) in
        let s : ours k ≡ theirs k = same_line k i in
        o.no_keyword k i (cc)

-- and so as a whole text that may be read
pub names_other_text : (w rest : List ℕ) → every is_ascii_ident w ≡ true → 0 < length w → is_ascii_ident (get_or rest 0 0) ≡ false → Other (lowered w)
    → admit_text (w ++ rest) ≡ Ok tt → from_str (w ++ rest) ≡ Err (empty_refusal (R.Unread T.InvalidValue) (length w))
names_other_text w rest e h f o t = refused_text (w ++ rest) (length w) t (names_other w rest e h f o)
