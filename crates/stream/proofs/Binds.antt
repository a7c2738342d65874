-- The laws of `◌>>=◌`: each carries a whole block of steps, step by step.
use Prim.Native.Nat.{ℕ}
use mathlib.Core.Path.{◌≡◌, refl}
use native.Mathlib.Omega.{arith}
use Rattle.std.specs.Prelude.{Result, Ok, Err, Option, Some, MatchResult, MatchOption}
use Rattle.text_bytes.specs.Flow.{◌>>=◌}
use Rattle.stream.specs.Moves.{moved}
use Rattle.stream.specs.declared.Fault.{Fault}

-- shift: what is read behind n bytes more is what was read, moved
pub bind_moved : {A B : Type 0} (m : ℕ → A → A) (k : ℕ → B → B) (n : ℕ) (r s : Result A Fault) (f g : A → Result B Fault) →
    s ≡ moved m n r → ((x : A) → g (m n x) ≡ moved k n (f x)) → (s >>= g) ≡ moved k n (r >>= f)
bind_moved m k n (Ok a) s f g e h = rw e (h a)
bind_moved m k n (Err x) s f g e h = rw e refl

-- more: what is read alike is gone on with alike; P is what is known of what was read
pub bind_same : {A B E : Type 0} (P : A → Type 0) (Q : E → Type 0) (r s : Result A E) (f g : A → Result B E) →
    s ≡ r → MatchResult r P Q → ((x : A) → P x → g x ≡ f x) → (s >>= g) ≡ (r >>= f)
bind_same P Q (Ok a) s f g e v h = rw e (h a v)
bind_same P Q (Err x) s f g e v h = rw e refl

-- pass, least, and where a stretch lies: what holds of each answer of the steps holds of the block's
pub bind_holds : {A B E : Type 0} (P : A → Type 0) (R : B → Type 0) (Q : E → Type 0) (r : Result A E) (f : A → Result B E) →
    MatchResult r P Q → ((x : A) → P x → MatchResult (f x) R Q) → MatchResult (r >>= f) R Q
bind_holds P R Q (Ok a) f v h = h a v
bind_holds P R Q (Err x) f v h = v

-- what is known of every answer, of one that is known
pub at_ok : {A E : Type 0} (P : A → Type 0) (Q : E → Type 0) (r : Result A E) (a : A) → MatchResult r P Q → r ≡ Ok a → P a
at_ok P Q r a v e = rw e at v

pub at_err : {A E : Type 0} (P : A → Type 0) (Q : E → Type 0) (r : Result A E) (x : E) → MatchResult r P Q → r ≡ Err x → Q x
at_err P Q r x v e = rw e at v

-- the same of what may be missing
pub at_some : {A : Type 0} (N : Type 0) (P : A → Type 0) (r : Option A) (a : A) → MatchOption r N P → r ≡ Some a → P a
at_some N P r a v e = rw e at v

-- what is said of answers, weakened
pub weaker : {A E : Type 0} (P R : A → Type 0) (Q S : E → Type 0) (r : Result A E) → MatchResult r P Q → ((a : A) → P a → R a) → ((e : E) → Q e → S e) → MatchResult r R S
weaker P R Q S (Ok a) v f g = f a v
weaker P R Q S (Err e) v f g = g e v

-- a value that is known while the steps after it are judged
pub bind_known : {A B E : Type 0} (R : B → Type 0) (Q : E → Type 0) (r : Result A E) (f : A → Result B E) →
    ((x : E) → r ≡ Err x → Q x) → ((a : A) → r ≡ Ok a → MatchResult (f a) R Q) → MatchResult (r >>= f) R Q
bind_known R Q (Ok a) f g h = h a refl
bind_known R Q (Err x) f g h = g x refl

-- A block that was read through: its first step was read, and the rest of it from there. The other way round needs no law: `simp` by the equation of a step that is known carries it through the block
pub bind_ok : {A B E : Type 0} (r : Result A E) (f : A → Result B E) {b : B} → (r >>= f) ≡ Ok b → (a : A) × ((r ≡ Ok a) × (f a ≡ Ok b))
bind_ok (Ok a) f e = (a, (refl, e))
bind_ok (Err x) f e = let z : ◌≡◌ {A = ℕ} 0 1 = cc in absurd (omega arith)
