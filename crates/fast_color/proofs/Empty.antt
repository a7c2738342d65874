-- Refusals by their numbers: a 5 tells nothing else but an empty stretch, every number is small, and every stretch starts below the number of places.
use Prim.Native.Nat.{ℕ, ◌≤◌, ◌<◌}
use mathlib.Core.List.{List}
use mathlib.Core.Path.{◌≡◌, refl, ap, ◌∙◌}
use native.Mathlib.Omega.{arith}
use borrow.Author.Tests.{leb-true}
use lib.Dec.{leb}
use lib.ListN.{length}
use Rattle.std.specs.Prelude.{Result, Ok, Err}
use Rattle.text_bytes.specs.Flow.{◌>>=◌}
use Rattle.text_bytes.specs.declared.Place.{Place}
use Rattle.text_bytes.proofs.Ranges.{either}
use Rattle.utf8.specs.Characters.{utf8_of}
use Rattle.stream.specs.Refusals.{Inside, number_of, reason_number, empty_refusal, bare_refusal, refusal_of, at_edge, admit_utf8, admit_text}
use Rattle.stream.specs.declared.Fault.{Fault}
use Rattle.stream.specs.declared.Read.{Read}
use Rattle.stream.specs.declared.Reason.TheVariants as R
use Rattle.stream.specs.declared.Refusal.{Refusal}
use Rattle.stream.specs.declared.Trouble.{Trouble}
use Rattle.stream.specs.declared.Trouble.TheVariants as T
use Rattle.stream.proofs.Binds.{at_err}
use Rattle.stream.proofs.Edges.{Admitted, admit_holds, admitted_small, refusal_empty}
use Rattle.stream.proofs.Stretches.{LiesAt}
use Rattle.packed.specs.Numbers.{places}
use Rattle.color.proofs.Stretches.{text_lies}
use Rattle.color.specs.Answer.{from_str}
use Rattle.color.specs.Color.{parse_color_text}
use Rattle.color.specs.declared.Color.{Color}
use Rattle.fast_color.specs.Empty.{FiveEmpty}

-- where the numbers of faults lie
pub record Within (n : ℕ) : Type 0 where
  pub low : 3 < n
  pub high : n < 32

pub fault_within : (t : Trouble) → Within (number_of t)
unfolding number_of
fault_within T.UnexpectedEndOfStream = record { low = omega arith; high = omega arith }
fault_within t = record { low = omega arith; high = omega arith }

-- a text that may not be read has another number
pub admit_low : (s : List ℕ) (e : Refusal) → admit_text s ≡ Err e → reason_number e.reason < 3
unfolding admit_text admit_utf8 reason_number
admit_low s e =
    either (leb (length s) 4096) (λ t q. go (utf8_of s) (simp t at q))
    (λ t q. let z : bare_refusal R.TextTooLong ≡ e = inner (simp t at q) in rw (← z) (omega arith))
  where
    inner : {a : Refusal} → ◌≡◌ {A = Result (Unit {0}) Refusal} (Err a) (Err e) → a ≡ e
    inner q = cc

    go : (u : Result (Unit {0}) Place) → admit_utf8 u ≡ Err e → reason_number e.reason < 3
    go (Ok tt) q = let z : ◌≡◌ {A = ℕ} 0 1 = cc in absurd (omega arith)
    go (Err p) q = let z = inner q in rw (← z) (omega arith)

-- nor does its stretch start far on
pub admit_near : (s : List ℕ) (e : Refusal) → admit_text s ≡ Err e → e.from.0 < places
unfolding admit_text
admit_near s e q =
    either (leb (length s) 4096)
    (λ t.
    let i = at_err (λ _. Admitted s) (Inside (length s)) (admit_text s) e (admit_holds s) q in
    omega (arith, i.ordered, i.ends, leb-true (length s) 4096 t))
    (λ t. let z : bare_refusal R.TextTooLong ≡ e = inner (simp t at q) in rw (← z) (omega arith))
  where
    inner : {a : Refusal} → ◌≡◌ {A = Result (Unit {0}) Refusal} (Err a) (Err e) → a ≡ e
    inner q = cc

-- 5 is one trouble's number
pub five_is : (t : Trouble) → number_of t ≡ 5 → t ≡ T.InvalidValue
unfolding number_of
five_is T.InvalidValue q = refl
five_is t q = absurd (omega (arith, q))

pub fault_empty : (s : List ℕ) {n : ℕ} (f : Fault) → LiesAt n f → number_of f.trouble ≡ 5 → refusal_of s f ≡ empty_refusal (R.Unread T.InvalidValue) f.from.0
fault_empty s f l q =
    let k : number_of f.trouble ≤ 5 = omega arith in
    refusal_empty s l.lies k ∙ ap (λ t. empty_refusal (R.Unread t) f.from.0) (five_is f.trouble q)

-- a colour's refusal: a text that may not be read, or a fault that lies in it
module _ (s : List ℕ) (e : Refusal) (q : from_str s ≡ Err e) where
  refused_by : (P : Refusal → Type 0) → ((g : Refusal) → admit_text s ≡ Err g → P g) → ((f : Fault) → length s ≤ 4096 → LiesAt (length s) f → P (refusal_of s f)) → P e
  unfolding from_str
  refused_by P a b = go (admit_text s) refl (parse_color_text s) refl q
    where
      same : {x : Refusal} → ◌≡◌ {A = Result Color Refusal} (Err x) (Err e) → x ≡ e
      same h = cc

      go : (x : Result (Unit {0}) Refusal) → admit_text s ≡ x → (r : Result (Read Color) Fault) → parse_color_text s ≡ r
          → (x >>= (λ _. at_edge s r >>= (λ read. Ok read.value))) ≡ Err e → P e
      go (Ok tt) k (Ok r) l h = let z : ◌≡◌ {A = ℕ} 0 1 = cc in absurd (omega arith)
      go (Ok tt) k (Err f) l h = let z = same h in rw z at (b f (admitted_small s k) (text_lies s f l))
      go (Err g) k r l h = let z = same h in rw z at (a g k)

  pub color_small : reason_number e.reason < 32
  unfolding refusal_of reason_number
  color_small = refused_by (λ x. reason_number x.reason < 32) (λ g h. omega (arith, admit_low s g h)) (λ f m l. (fault_within f.trouble).high)

  pub color_empty : reason_number e.reason ≡ 5 → e ≡ empty_refusal (R.Unread T.InvalidValue) e.from.0
  unfolding refusal_of reason_number
  color_empty k =
      refused_by (λ x. reason_number x.reason ≡ 5 → x ≡ empty_refusal (R.Unread T.InvalidValue) x.from.0) (λ g z m. absurd (omega (arith, admit_low s g z)))
      (λ f n l m. fault_empty s f l m) k

-- THEOREM
pub five_empty : FiveEmpty
five_empty = record { five = λ s e q k. color_empty s e q k }
