-- Of every paint: where its link starts; and of every fault, from which place on its places count and where its stretch lies.
use Prim.Native.Nat.{ℕ, zero, suc, ◌≤◌, ◌<◌}
use mathlib.Core.Bool.{false}
use mathlib.Core.List.{List, [], ◌∷◌}
use mathlib.Core.Path.{◌≡◌, refl, sym, ap}
use native.Mathlib.Omega.{arith}
use borrow.Author.Tests.{leb-false}
use lib.Dec.{leb}
use lib.ListN.{length, get_or, drop}
use Rattle.std.specs.Prelude.{Result, Ok, Err, MatchResult, ⊤}
use Rattle.text_bytes.specs.Bytes.{is_space, is_tail, within}
use Rattle.text_bytes.specs.Moves.{place}
use Rattle.text_bytes.specs.Scan.{scan}
use Rattle.text_bytes.specs.Words.{ascii, same, starts_with}
use Rattle.text_bytes.specs.declared.Place.{Place}
use Rattle.text_bytes.proofs.Parts.{byte_inside}
use Rattle.text_bytes.proofs.Ranges.{either}
use Rattle.text_bytes.proofs.Wording.{space_ascii}
use Rattle.utf8.specs.Characters.{char_len, walk, utf8_of}
use Rattle.utf8.proofs.Cuts.{after_ascii, scan_on}
use Rattle.utf8.proofs.Octets.{char_first}
use Rattle.stream.specs.Faults.{invalid_value}
use Rattle.stream.specs.Refusals.{is_outside_domain}
use Rattle.stream.specs.declared.Fault.{Fault}
use Rattle.stream.proofs.Binds.{bind_holds, at_ok, at_err}
use Rattle.stream.proofs.Stretches.{LiesAt, LiesFrom, value_lies}
use Rattle.color.specs.Color.{parse_color_text}
use Rattle.color.proofs.Stretches.{text_lies}
use Rattle.funciri.specs.Link.{parse_func_iri}
use Rattle.funciri.proofs.Ends.{Closed, UrlTaken, func_iri_taken}
use Rattle.paint.specs.Moves.{link_start}
use Rattle.paint.specs.Reading.{based, at_start, on_fault, plain_fault, parse_fallback, parse_linked, parse_plain, parse_paint}
use Rattle.paint.specs.declared.Paint.{Paint}
use Rattle.paint.specs.declared.PaintFault.{PaintFault}

-- A paint that the trimmed text t reads as
pub record PaintHolds (t : List ℕ) (v : Paint) : Type 0 where
  pub link : link_start v ≤ length t

-- A fault of it: its base is a place of the text where a character starts, and its stretch lies behind the base
pub record FaultHolds (t : List ℕ) (e : PaintFault) : Type 0 where
  pub inside : e.base.0 ≤ length t
  pub character : utf8_of t ≡ Ok tt → is_tail (get_or t e.base.0 0) ≡ false
  pub lies : LiesAt (length (drop e.base.0 t)) e.fault

-- what is known of an answer, by its cases
known : {A E : Type 0} (P : A → Type 0) (Q : E → Type 0) (r : Result A E) → ((a : A) → r ≡ Ok a → P a) → ((e : E) → r ≡ Err e → Q e) → MatchResult r P Q
known P Q (Ok a) f g = f a refl
known P Q (Err e) f g = g e refl

fault_holds : {A : Type 0} (P : A → Type 0) (Q : Fault → Type 0) (R : PaintFault → Type 0) (f : Fault → PaintFault) (r : Result A Fault) → MatchResult r P Q → ((e : Fault) → Q e → R (f e)) → MatchResult (on_fault f r) P R
fault_holds P Q R f (Ok a) v h = v
fault_holds P Q R f (Err e) v h = h e v

color_holds : (s : List ℕ) → MatchResult (parse_color_text s) (λ _. ⊤) (LiesAt (length s))
color_holds s = known (λ _. ⊤) (LiesAt (length s)) (parse_color_text s) (λ a q. tt) (λ e q. text_lies s e q)

fallback_holds : (f : List ℕ) → MatchResult (parse_fallback f) (λ _. ⊤) (LiesAt (length f))
unfolding parse_fallback
fallback_holds f =
    either (same f (ascii "none")) (λ q. simp q tt)
    (λ q. simp q (either (same f (ascii "currentColor")) (λ w. simp w tt)
    (λ w. simp w (bind_holds (λ _. ⊤) (λ _. ⊤) (LiesAt (length f)) (parse_color_text f) _ (color_holds f) (λ c v. tt)))))

-- a fault that 5 stands for
stopped_lies : {n : ℕ} (e : Fault) → LiesAt n e → LiesAt n (invalid_value e.at.0)
stopped_lies e v = value_lies e.at.0 (omega (arith, ap (λ (p : Place). p.0) v.start, v.lies.ordered, v.lies.inside))

swallowed_lies : {n : ℕ} (e : Fault) → LiesAt n e → LiesAt n (plain_fault e)
unfolding plain_fault
swallowed_lies e v = either (is_outside_domain e) (λ q. simp q v) (λ q. simp q (stopped_lies e v))

-- a UTF-8 text starts with a character, or is empty
start_on : (t : List ℕ) → utf8_of t ≡ Ok tt → is_tail (get_or t 0 0) ≡ false
unfolding utf8_of walk within
start_on [] u = refl
start_on (x ∷ xs) u = go (char_len (x ∷ xs)) refl
  where
    go : (n : ℕ) → char_len (x ∷ xs) ≡ n → is_tail x ≡ false
    go zero e = let z : ◌≡◌ {A = ℕ} 0 1 = cc (rw e at u) in absurd (omega arith)
    go (suc n) e = char_first x xs n e

module _ (t : List ℕ) where
  start_holds : (e : Fault) → LiesAt (length t) e → FaultHolds t (at_start e)
  start_holds e v = record { inside = omega arith; character = start_on t; lies = v }

  -- behind a link and spaces
  behind_on : (p : ℕ) → Closed t p → utf8_of t ≡ Ok tt → is_tail (get_or t (scan is_space t p) 0) ≡ false
  behind_on p w u =
      let i : w.place < length t = byte_inside t w.place 41 (sym w.byte) (omega arith) in
      scan_on is_space space_ascii t p u (rw w.next (after_ascii t w.place u i (omega (arith, w.byte))))

  linked_holds : MatchResult (parse_linked t) (PaintHolds t) (FaultHolds t)
  unfolding parse_linked link_start
  linked_holds =
      bind_holds (UrlTaken t) (PaintHolds t) (FaultHolds t) (on_fault (λ e. at_start (invalid_value e.at.0)) (parse_func_iri t 0)) _
      (fault_holds (UrlTaken t) (LiesFrom t 0) (FaultHolds t) _ (parse_func_iri t 0) (func_iri_taken t 0) (λ e v. start_holds _ (stopped_lies e (v (omega arith)))))
      (λ l v.
      let i = scan is_space t l.next.0 in
      let n : l.value.start.0 ≤ length t = omega (arith, v.link.part.inside) in
      either (leb (length t) i)
      (λ q. simp q (record { link = n }))
      (λ q.
      let b : i < length t = leb-false (length t) i q in
      simp q
      (bind_holds (λ _. ⊤) (PaintHolds t) (FaultHolds t) (on_fault (based (place i)) (parse_fallback (drop i t))) _
      (fault_holds (λ _. ⊤) (LiesAt (length (drop i t))) (FaultHolds t) (based (place i)) (parse_fallback (drop i t)) (fallback_holds (drop i t))
      (λ e h. record { inside = omega (arith, b); character = behind_on l.next.0 v.closed; lies = h }))
      (λ f h. record { link = n }))))

  plain_holds : MatchResult (parse_plain t) (PaintHolds t) (FaultHolds t)
  unfolding parse_plain link_start
  plain_holds =
      bind_holds (λ _. ⊤) (PaintHolds t) (FaultHolds t) (on_fault (λ e. at_start (plain_fault e)) (parse_color_text t)) _
      (fault_holds (λ _. ⊤) (LiesAt (length t)) (FaultHolds t) _ (parse_color_text t) (color_holds t) (λ e v. start_holds _ (swallowed_lies e v)))
      (λ c v. record { link = omega arith })

  pub paint_holds : MatchResult (parse_paint t) (PaintHolds t) (FaultHolds t)
  unfolding parse_paint link_start
  paint_holds =
      either (same t (ascii "none")) (λ q. simp q (record { link = omega arith })) (λ q. simp q
      (either (same t (ascii "inherit")) (λ q. simp q (record { link = omega arith })) (λ q. simp q
      (either (same t (ascii "currentColor")) (λ q. simp q (record { link = omega arith })) (λ q. simp q
      (either (same t (ascii "context-fill")) (λ q. simp q (record { link = omega arith })) (λ q. simp q
      (either (same t (ascii "context-stroke")) (λ q. simp q (record { link = omega arith })) (λ q. simp q
      (either (starts_with (ascii "url(") t) (λ q. simp q linked_holds) (λ q. simp q plain_holds)))))))))))

  pub paint_known : (v : Paint) → parse_paint t ≡ Ok v → PaintHolds t v
  paint_known v q = at_ok (PaintHolds t) (FaultHolds t) (parse_paint t) v paint_holds q

  pub fault_known : (e : PaintFault) → parse_paint t ≡ Err e → FaultHolds t e
  fault_known e q = at_err (PaintHolds t) (FaultHolds t) (parse_paint t) e paint_holds q
