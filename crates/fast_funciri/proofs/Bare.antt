-- The quick way of a link: a run of bare bytes up to its closing byte is what the definitions come to.
use Prim.Native.Nat.{ℕ, suc, ◌+◌, ◌-◌, ◌^◌, ◌<◌}
use mathlib.Core.Bool.{Bool, true, false, ◌&&◌, ◌||◌, cond}
use mathlib.Core.List.{List, [], ◌∷◌}
use mathlib.Core.Path.{◌≡◌, refl, sym, subst, ◌∙◌}
use native.Mathlib.Omega.{arith}
use borrow.Author.Tests.{eq-eqb, ne_eqb, eqb-true, ltb-true}
use lib.Dec.{eqb, ltb, lit≤}
use lib.ListN.{length, get_or, take, drop}
use lib.Seq.{get_or-take, length-take-le, take-length}
use mir.Syntax.{w64}
use mir.Val.{Fits}
use Rattle.utf8.specs.Blanks.{trim_end}
use Rattle.text_bytes.specs.Bytes.{within, is_space, is_link_byte, is_url_byte, is_other}
use Rattle.stream.specs.Faults.{invalid_value}
use Rattle.text_bytes.specs.Scan.{run, scan}
use Rattle.text_bytes.specs.Words.{is_curr_byte_eq, part}
use Rattle.text_bytes.specs.declared.Place.{Place}
use Rattle.text_bytes.proofs.Ahead.{run_bytes}
use Rattle.text_bytes.proofs.Ranges.{and_first, and_second, within_yes, within_ge, within_le}
use Rattle.stream.proofs.Sames.{curr_consumed}
use Rattle.text_bytes.proofs.Scans.{run_le, scan_narrow, scan_here}
use Rattle.utf8.proofs.Trimming.{trim_whole}
use Rattle.text_bytes.proofs.Wording.{curr_inside, curr_byte, curr_next}
use Rattle.funciri.specs.Link.{is_quote, has_quote, is_link, link_at, link_read, close_link, close_quote}
use Rattle.std.specs.Prelude.{Result, Ok, Err, if◌then◌else◌}
use Rattle.text_bytes.specs.declared.Part.{Part}
use Rattle.stream.specs.declared.Fault.{Fault}
use Rattle.stream.specs.declared.Read.{Read}
use Rattle.fast_funciri.specs.Bare.{is_bare_byte}

-- a bare byte is a byte of every link, no quote, and plain
module _ (b : ℕ) (e : is_bare_byte b ≡ true) where
  other : (n : ℕ) → n < 42 → eqb b n ≡ false
  other n h = ne_eqb b n (λ f. omega (arith, within_ge 42 127 b (sym e)))

  bare_url : is_url_byte b ≡ true
  bare_url = simp (other 32 (lit≤ tt), other 41 (lit≤ tt))

  pub bare_space : is_link_byte b ≡ true
  bare_space = simp (other 32 (lit≤ tt))

  bare_unquoted : is_quote b ≡ false
  bare_unquoted = simp (other 39 (lit≤ tt), other 34 (lit≤ tt))

  bare_plain : within 33 127 b ≡ true
  bare_plain = sym (within_yes 33 127 b (omega (arith, within_ge 42 127 b (sym e))) (omega (arith, within_le 42 127 b (sym e))))

-- what holds of both quotes
quote_case : (P : ℕ → Type 0) (c : ℕ) → is_quote c ≡ true → P 39 → P 34 → P c
quote_case P c e p q = go (eqb c 39) refl (eqb c 34) refl e
  where
    go : (t : Bool) → eqb c 39 ≡ t → (u : Bool) → eqb c 34 ≡ u → (t || u) ≡ true → P c
    go true f u g h = subst P (sym (eqb-true c 39 f)) p
    go false f true g h = subst P (sym (eqb-true c 34 g)) q
    go false f false g h = let z : ◌≡◌ {A = ℕ} 0 1 = cc in absurd (omega arith)

bare_other : (c : ℕ) → is_quote c ≡ true → (b : ℕ) → is_bare_byte b ≡ true → is_other c b ≡ true
bare_other c h b e = quote_case (λ (n : ℕ). is_other n b ≡ true) c h (simp (other b e 39 (lit≤ tt))) (simp (other b e 34 (lit≤ tt)))

-- the bytes of the run: no quote among them, and nothing to trim
no_quote : (l : List ℕ) → has_quote (take (run is_bare_byte l) l) ≡ false
unfolding has_quote run
no_quote [] = refl
no_quote (x ∷ xs) = go (is_bare_byte x) refl (no_quote xs)
  where
    go : (t : Bool) → is_bare_byte x ≡ t → has_quote (take (run is_bare_byte xs) xs) ≡ false → has_quote (take (cond t (suc (run is_bare_byte xs)) 0) (x ∷ xs)) ≡ false
    go true e ih = simp (bare_unquoted x e) ih
    go false e ih = refl

link_whole : (l : List ℕ) → 0 < length l → has_quote l ≡ false → is_link l ≡ true
unfolding is_link
link_whole [] h e = absurd (omega arith)
link_whole (x ∷ xs) h e = rw e refl

module _ (l : List ℕ) (h : 0 < run is_bare_byte l) where
  run_length : length (take (run is_bare_byte l) l) ≡ run is_bare_byte l
  run_length = length-take-le (run is_bare_byte l) l (run_le is_bare_byte l)

  run_link : is_link (take (run is_bare_byte l) l) ≡ true
  run_link = link_whole (take (run is_bare_byte l) l) (omega (arith, run_length)) (no_quote l)

  run_trim : trim_end (take (run is_bare_byte l) l) ≡ run is_bare_byte l
  run_trim =
      let m = run is_bare_byte l - 1 in
      let k : m < run is_bare_byte l = omega arith in
      let f : within 33 127 (get_or l m 0) ≡ true = bare_plain (get_or l m 0) (run_bytes is_bare_byte l m k) in
      trim_whole (take (run is_bare_byte l) l) (omega (arith, run_length)) (rw (run_length, get_or-take (run is_bare_byte l) l m 0 k) f) ∙ run_length

module _ (s : List ℕ) (a e : ℕ) (f : e ≡ scan is_bare_byte s a) (h : a < e) where
  part_run : part s a e ≡ take (run is_bare_byte (drop a s)) (drop a s)
  unfolding part scan
  part_run =
      let n : e - a ≡ run is_bare_byte (drop a s) = omega arith in
      rw n refl

  some : 0 < run is_bare_byte (drop a s)
  unfolding scan
  some = omega arith

  bare_link : is_link (part s a e) ≡ true
  bare_link = rw part_run (run_link (drop a s) some)

  bare_trim : trim_end (part s a e) ≡ e - a
  unfolding scan
  bare_trim = rw part_run (omega (arith, run_trim (drop a s) some))

  bare_kept : take (e - a) (part s a e) ≡ part s a e
  unfolding scan
  bare_kept =
      let n : length (part s a e) ≡ e - a = rw part_run (omega (arith, run_length (drop a s) some)) in
      rw (← n) (take-length (part s a e))

-- the byte that closes the run is seen, so the place after it fits
pub bare_next : (s : List ℕ) (e c : ℕ) (t : Bool) {r : Bool} → r ≡ is_curr_byte_eq s e c → (t && r) ≡ true → length s < 2 ^ 64 → Fits w64 (e + 1)
bare_next s e c t {r} q h l = curr_next s e c q (and_second t r h) l

-- with no quotes the bracket closes it
pub plain_quick : (s : List ℕ) (p : Place) (e : ℕ) {r : Bool} → e ≡ scan is_bare_byte s p.0 → r ≡ is_curr_byte_eq s e 41 → (ltb p.0 e && r) ≡ true
    → Ok (link_read (link_at p (e - p.0)) (e + 1))
    ≡ (let end = scan is_url_byte s p.0 in
    if is_link (part s p.0 end) then close_link s end (link_at p (end - p.0)) else Err (invalid_value end))
unfolding close_link
plain_quick s p e {r} f q t =
    let h : p.0 < e = ltb-true p.0 e (and_first (ltb p.0 e) r t) in
    let u : r ≡ true = and_second (ltb p.0 e) r t in
    let b : get_or s e 0 ≡ 41 = curr_byte s e 41 q u in
    let w : scan is_url_byte s p.0 ≡ e = scan_narrow is_bare_byte is_url_byte s p.0 bare_url (rw (← f, b) refl) ∙ sym f in
    let g : scan is_space s e ≡ e = scan_here is_space s e (rw b refl) (curr_inside s e 41 q u) in
    simp (w, bare_link s p.0 e f h, g, curr_consumed s e 41 q u)

-- in quotes the quote does, and x is what follows it
pub quoted_quick : (s : List ℕ) (p : Place) (e c : ℕ) {r u : Bool} {x : Result (Read Part) Fault} → e ≡ scan is_bare_byte s p.0 → u ≡ is_quote c → r ≡ is_curr_byte_eq s e c
    → ((ltb p.0 e && u) && r) ≡ true → x ≡ close_link s (e + 1) (link_at p (e - p.0))
    → x
    ≡ (let end = scan (is_other c) s p.0 in
    let len = trim_end (part s p.0 end) in
    if is_link (take len (part s p.0 end)) then close_quote s end c (link_at p len) else Err (invalid_value end))
unfolding close_quote
quoted_quick s p e c {r} {u} {x} f m q t y =
    let v : (ltb p.0 e && u) ≡ true = and_first (ltb p.0 e && u) r t in
    let h : p.0 < e = ltb-true p.0 e (and_first (ltb p.0 e) u v) in
    let n : is_quote c ≡ true = sym m ∙ and_second (ltb p.0 e) u v in
    let k : r ≡ true = and_second (ltb p.0 e && u) r t in
    let b : get_or s e 0 ≡ c = curr_byte s e c q k in
    let o : is_other c (get_or s e 0) ≡ false = simp (eq-eqb (get_or s e 0) c b) in
    let w : scan (is_other c) s p.0 ≡ e = scan_narrow is_bare_byte (is_other c) s p.0 (bare_other c n) (rw (← f) o) ∙ sym f in
    let i : is_space (get_or s e 0) ≡ false = rw b (quote_case (λ (j : ℕ). is_space j ≡ false) c n refl refl) in
    let g : scan is_space s e ≡ e = scan_here is_space s e i (curr_inside s e c q k) in
    simp (w, bare_trim s p.0 e f h, bare_kept s p.0 e f h, bare_link s p.0 e f h, g, curr_consumed s e c q k) y
