-- What the old reading accepts and no shape begins is a keyword or `transparent`, in white space.
use Prim.Native.Nat.{ℕ, zero, suc, ◌+◌, ◌-◌, ◌≤◌, ◌<◌}
use mathlib.Core.Bool.{true, false, cond}
use mathlib.Core.List.{List, [], ◌∷◌, ◌++◌}
use mathlib.Core.Logic.{◌⊎◌, inl, inr, ⊎_elim}
use mathlib.Core.Path.{◌≡◌, refl, sym, ap, ◌∙◌}
use native.Mathlib.Omega.{arith}
use borrow.Author.Tests.{eqb-true, ltb-false, lt-leb}
use lib.Dec.{eqb, leb, ltb}
use lib.ListN.{length, get_or, take, drop, length-append, length-map, take-append-drop}
use lib.Seq.{length-take-le}
use Rattle.text_bytes.specs.Bytes.{within, is_upper, is_space, is_ascii_ident}
use Rattle.std.specs.Prelude.{Result, Ok, Err, Option, Some, None}
use Rattle.text_bytes.specs.Moves.{place}
use Rattle.text_bytes.specs.Scan.{run, scan}
use Rattle.text_bytes.specs.Words as words
use Rattle.text_bytes.specs.Words.{same, lower_of, lowered, part}
use Rattle.text_bytes.proofs.Ranges.{either}
use Rattle.text_bytes.proofs.Scans.{scan_le}
use Rattle.text_bytes.proofs.Wording.{same_eq}
use Rattle.stream.specs.Refusals.{admit_text}
use Rattle.stream.specs.Moves.{moved}
use Rattle.stream.specs.declared.Fault.{Fault}
use Rattle.stream.specs.declared.Read.{Read}
use Rattle.stream.specs.declared.Refusal.{Refusal}
use Rattle.names.specs.Keywords as own
use Rattle.names.specs.Look.{look_up, named_of}
use Rattle.names.specs.declared.Named as named
use Rattle.names.specs.declared.Named.TheVariants as N
use Rattle.names.proofs.Naming.{at}
use Rattle.names.proofs.Tables.{table_count}
use Rattle.color.specs.Answer.{from_str}
use Rattle.color.specs.Color.{is_rgb, is_hsl, parse_rgb, parse_hsl, named_read, named_color, parse_word, parse_color, parse_color_text}
use Rattle.color.proofs.Shifts.{move_color}
use Rattle.color.specs.declared.Color.{Color}
use Rattle.strict.specs.Answer.{marked, marked_at, is_shaped}
use Rattle.shapes.proofs.Fair.{never, never_ok}
use Rattle.standards.specs.Written.{ascii}
use Rattle.standards.specs.CssValues3.{Blank, blank, blanks}
use Rattle.standards.specs.CssColor3.{Spelling, done, small, capital, spelling}
use Rattle.standards.specs.CssColor3Names.{keywords}
use Rattle.standards.specs.Colors.{line, keyword, transparent, colour}
use Rattle.standards.proofs.Colours.{after_blanks}
use Rattle.standards.proofs.Cursors.{drop_past}
use Rattle.standards.proofs.Keywords.{how_many, same_line, ours, theirs}
use Rattle.strict_trees.specs.StrictColors.{Strict}
use Rattle.strict_trees.proofs.Openings.{split_blanks}
use Rattle.strict_trees.proofs.Takings.{space_blank}
use Rattle.strict_trees.proofs.Words.{shaped_after}

-- a word is a spelling of its own small letters
spelt : (w : List ℕ) → (x : Spelling (lowered w)) × (spelling x ≡ w)
unfolding spelling lower_of
spelt [] = (done, refl)
spelt (b ∷ w) =
    let r : (x : Spelling (lowered w)) × (spelling x ≡ w) = spelt w in
    either (is_upper b)
    (λ e. let q : lower_of b - 32 ≡ b = simp e (omega arith) in (capital (lower_of b) r.0, cc (q, r.1)))
    (λ e. let q : lower_of b ≡ b = simp e in (small (lower_of b) r.0, cc (q, r.1)))

spelt_as : (w n : List ℕ) → lowered w ≡ n → (x : Spelling n) × (spelling x ≡ w)
spelt_as w n e = rw e at (spelt w)

-- what a word that is looked up is found as: an entry of the table, or what stands at its end
found : (es : List own.Keyword) (w : List ℕ) → ((k : ℕ) × ((k < length es) × ((at es k).name ≡ w))) ⊎ (look_up es w ≡ look_up [] w)
unfolding look_up
found [] w = inr refl
found (e ∷ es) w =
    either (same w e.name) (λ t. inl (0, (omega arith, sym (same_eq w e.name t))))
    (λ t. ⊎_elim (λ (r : (k : ℕ) × ((k < length es) × ((at es k).name ≡ w))). inl (suc r.0, (omega (arith, r.1.0), r.1.1)))
    (λ (r : look_up es w ≡ look_up [] w). inr (simp t r)) (found es w))

-- a keyword's letters, or those of `transparent`
abbrev Named : List ℕ → Type 0
Named w = ((k : ℕ) × ((k < length own.keywords) × ((at own.keywords k).name ≡ lowered w))) ⊎ (lowered w ≡ words.ascii "transparent")

next_is : {q r : Read Color} → ◌≡◌ {A = Result (Read Color) Fault} (Ok q) (Ok r) → r.next ≡ q.next
next_is {q} {r} e = let f : r ≡ q = cc in ap (λ (x : Read Color). x.next) f

named_read_is : (w : List ℕ) (n : ℕ) (r : Read Color) → named_color w n ≡ Ok r → Named w × (r.next ≡ place n)
unfolding named_color
named_read_is w n r q = (name, after (named_of w) q)
  where
    after : (x : Option named.Named) → named_read x n ≡ Ok r → r.next ≡ place n
    after (Some (N.Keyword y)) h = next_is h
    after (Some N.Transparent) h = next_is h
    after None h = never_ok h

    name : Named w
    name =
        ⊎_elim (λ (r : (k : ℕ) × ((k < length own.keywords) × ((at own.keywords k).name ≡ lowered w))). inl r)
        (λ (r : look_up own.keywords (lowered w) ≡ look_up [] (lowered w)).
        either (same (lowered w) (words.ascii "transparent")) (λ t. inr (same_eq (lowered w) (words.ascii "transparent") t))
        (λ t. let z : named_of w ≡ None = unfold named_of look_up in r ∙ simp t in never_ok (rw z at q)))
        (found own.keywords (lowered w))

-- three letters at the front of a word are so at the front of the text
starts : (r : List ℕ) (n x y z : ℕ) (zs : List ℕ) → lowered (take n r) ≡ x ∷ y ∷ z ∷ zs
    → (lower_of (get_or r 0 0) ≡ x) × ((lower_of (get_or r 1 0) ≡ y) × (lower_of (get_or r 2 0) ≡ z))
starts [] zero x y z zs e = never (let w : false ≡ true = cc in w)
starts [] (suc n) x y z zs e = never (let w : false ≡ true = cc in w)
starts (a ∷ r) zero x y z zs e = never (let w : false ≡ true = cc in w)
starts (a ∷ []) (suc zero) x y z zs e = never (let w : false ≡ true = cc in w)
starts (a ∷ []) (suc (suc n)) x y z zs e = never (let w : false ≡ true = cc in w)
starts (a ∷ b ∷ r) (suc zero) x y z zs e = never (let w : false ≡ true = cc in w)
starts (a ∷ b ∷ []) (suc (suc zero)) x y z zs e = never (let w : false ≡ true = cc in w)
starts (a ∷ b ∷ []) (suc (suc (suc n))) x y z zs e = never (let w : false ≡ true = cc in w)
starts (a ∷ b ∷ c ∷ r) (suc (suc zero)) x y z zs e = never (let w : false ≡ true = cc in w)
starts (a ∷ b ∷ c ∷ r) (suc (suc (suc n))) x y z zs e = (cc, (cc, cc))

module _ (r : List ℕ) (u : marked_at r 0 ≡ false) (n : ℕ) where
  no_letters : {C : Type 0} (x y z : ℕ) (zs : List ℕ) → marked x y z ≡ true → lowered (take n r) ≡ x ∷ y ∷ z ∷ zs → C
  unfolding marked_at
  no_letters x y z zs m e =
      let s : (lower_of (get_or r 0 0) ≡ x) × ((lower_of (get_or r 1 0) ≡ y) × (lower_of (get_or r 2 0) ≡ z)) = starts r n x y z zs e in
      never (sym u ∙ rw (s.0, s.1.0, s.1.1) m)

  no_rgb : {C : Type 0} → is_rgb (take n r) ≡ true → C
  unfolding is_rgb marked
  no_rgb {C} e =
      either (same (lowered (take n r)) (words.ascii "rgb")) (λ t. no_letters 114 103 98 [] refl (same_eq (lowered (take n r)) (words.ascii "rgb") t))
      (λ t. no_letters 114 103 98 (97 ∷ []) refl (same_eq (lowered (take n r)) (words.ascii "rgba") (simp t at e)))

  no_hsl : {C : Type 0} → is_hsl (take n r) ≡ true → C
  unfolding is_hsl marked
  no_hsl {C} e =
      either (same (lowered (take n r)) (words.ascii "hsl")) (λ t. no_letters 104 115 108 [] refl (same_eq (lowered (take n r)) (words.ascii "hsl") t))
      (λ t. no_letters 104 115 108 (97 ∷ []) refl (same_eq (lowered (take n r)) (words.ascii "hsla") (simp t at e)))

-- a text that begins with no space and as no shape does is read as a word
goes_word : (r : List ℕ) → is_space (get_or r 0 0) ≡ false → marked_at r 0 ≡ false → 0 < length r → parse_color r 0 ≡ parse_word r 0
unfolding parse_color scan run marked_at marked lower_of within
goes_word [] f u h = absurd (omega arith)
goes_word (x ∷ xs) f u h =
    let a : leb (suc (length xs)) 0 ≡ false = lt-leb (suc (length xs)) 0 (omega arith) in
    let v : eqb x 35 ≡ false = either (eqb x 35) (λ e. let k : x ≡ 35 = eqb-true x 35 e in never (sym (rw k at u))) (λ e. e) in
    simp (f, a, v)

word_parsed : (r : List ℕ) → marked_at r 0 ≡ false → (x : Read Color) → parse_word r 0 ≡ Ok x
    → (n : ℕ) → n ≡ scan is_ascii_ident r 0 → Named (take n r) × (x.next ≡ place n)
unfolding parse_word part
word_parsed r u x q n k =
    let z : n - 0 ≡ n = omega arith in
    let h : cond (is_rgb (take n r)) (parse_rgb r n) (cond (is_hsl (take n r)) (parse_hsl r n) (named_color (take n r) n)) ≡ Ok x = rw (← k, z) at q in
    either (is_rgb (take n r)) (λ e. no_rgb r u n e)
    (λ e. either (is_hsl (take n r)) (λ g. no_hsl r u n g) (λ g. named_read_is (take n r) n x (simp (e, g) at h)))

word_read : (r : List ℕ) → is_space (get_or r 0 0) ≡ false → marked_at r 0 ≡ false → (y : Read Color) → parse_color r 0 ≡ Ok y
    → (n : ℕ) → n ≡ scan is_ascii_ident r 0 → Named (take n r) × (y.next ≡ place n)
unfolding parse_color scan run
word_read [] f u y q n k = never_ok q
word_read (x ∷ xs) f u y q n k = word_parsed (x ∷ xs) u y (sym (goes_word (x ∷ xs) f u (omega arith)) ∙ q) n k

-- nothing but spaces is white space
all_blanks : (t : List ℕ) → length t ≤ run is_space t → (m : List Blank) × (t ≡ blanks m)
unfolding run
all_blanks [] h = ([], refl)
all_blanks (b ∷ t) h =
    either (is_space b)
    (λ e. let x : (y : Blank) × (b ≡ blank y) = space_blank b e in
    let k : length t ≤ run is_space t = let g : suc (length t) ≤ suc (run is_space t) = simp e at h in omega arith in
    let r : (m : List Blank) × (t ≡ blanks m) = all_blanks t k in
    (x.0 ∷ r.0, cc (x.1, r.1)))
    (λ e. absurd (let g : suc (length t) ≤ 0 = simp e at h in omega arith))

-- the tree
named_strict : (l m : List Blank) (w : List ℕ) → Named w → Strict (blanks l ++ (w ++ blanks m))
unfolding colour
named_strict l m w (inl r) =
    let h : r.0 < length keywords = omega (arith, r.1.0, how_many, table_count) in
    let e : lowered w ≡ ascii (line r.0).name = sym r.1.1 ∙ (let q : ours r.0 ≡ theirs r.0 = same_line r.0 h in cc) in
    let x : (x : Spelling (ascii (line r.0).name)) × (spelling x ≡ w) = spelt_as w (ascii (line r.0).name) e in
    record { before = l; tree = keyword r.0 h x.0; after = m; house = tt; is = rw x.1 refl }
named_strict l m w (inr e) =
    let x : (x : Spelling (ascii "transparent")) × (spelling x ≡ w) = spelt_as w (ascii "transparent") e in
    record { before = l; tree = transparent x.0; after = m; house = tt; is = rw x.1 refl }

module _ (s : List ℕ) (l : List Blank) (r : List ℕ) (d : s ≡ blanks l ++ r) (f : is_space (get_or r 0 0) ≡ false) (u : marked_at r 0 ≡ false) where
  shifted : parse_color s 0 ≡ moved move_color (length l) (parse_color r 0)
  shifted = rw d (after_blanks l r)

  -- what is left after the word of n bytes is white space
  rest_strict : (n : ℕ) → n ≤ length r → Named (take n r) → length s ≤ scan is_space s (length l + n) → Strict s
  unfolding scan
  rest_strict n h v k =
      let a : length (take n r) ≡ n = length-take-le n r h in
      let e : s ≡ blanks l ++ (take n r ++ drop n r) = rw take-append-drop d in
      let x : drop (length l + n) (blanks l ++ (take n r ++ drop n r)) ≡ drop n r = rw a at (drop_past l (take n r) (drop n r)) in
      let t : drop (length l + n) s ≡ drop n r = ap (drop (length l + n)) e ∙ x in
      let b : length s ≡ length l + (n + length (drop n r)) = rw e (simp (length-append, length-map, a)) in
      let g : length s ≤ length l + n + run is_space (drop n r) = rw t at k in
      let m : (m : List Blank) × (drop n r ≡ blanks m) = all_blanks (drop n r) (omega arith) in
      rw (e, m.1) (named_strict l m.0 (take n r) v)

  text_strict : (y : Read Color) → parse_color_text s ≡ Ok y → Strict s
  unfolding parse_color_text
  text_strict y q = go (parse_color r 0) refl
    where
      go : (z : Result (Read Color) Fault) → parse_color r 0 ≡ z → Strict s
      go (Err x) h = never_ok (simp (shifted, h) at q)
      go (Ok x) h =
          let n = scan is_ascii_ident r 0 in
          let v : Named (take n r) × (x.next ≡ place n) = word_read r f u x h n refl in
          let w : x.next ≡ place n = v.1 in
          either (ltb (scan is_space s (length l + n)) (length s))
          (λ t. never_ok (simp (shifted, h, w, t) at q))
          (λ t. rest_strict n (scan_le is_ascii_ident r 0 (omega arith)) v.0 (ltb-false (scan is_space s (length l + n)) (length s) t))

-- THEOREM. What the old reading accepts and no shape begins is strict: a keyword, or `transparent`.
pub word_strict : (s : List ℕ) (c : Color) → is_shaped s ≡ false → from_str s ≡ Ok c → Strict s
unfolding from_str
word_strict s c e q =
    let p : (l : List Blank) × (r : List ℕ) × (s ≡ blanks l ++ r) × (is_space (get_or r 0 0) ≡ false) = split_blanks s in
    let u : marked_at p.1 0 ≡ false = sym (shaped_after p.0 p.1 p.3) ∙ (sym (ap is_shaped p.2) ∙ e) in
    go (admit_text s) refl (parse_color_text s) refl (λ y h. text_strict s p.0 p.1 p.2 p.3 u y h)
  where
    go : (a : Result (Unit {0}) Refusal) → admit_text s ≡ a → (y : Result (Read Color) Fault) → parse_color_text s ≡ y → ((y : Read Color) → parse_color_text s ≡ Ok y → Strict s) → Strict s
    go (Err x) a y h k = never_ok (simp a at q)
    go (Ok u) a (Err x) h k = never_ok (simp (a, h) at q)
    go (Ok u) a (Ok y) h k = k y h
