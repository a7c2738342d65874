-- Going on with what a call answered.
use Rattle.std.specs.Prelude.{Result, Ok, Err}

-- `?`: a definition is a `do` block over the definitions of what its function calls
infixl 10 ◌>>=◌
abbrev pub ◌>>=◌ : {A B E : Type 0} → Result A E → (A → Result B E) → Result B E
Ok a >>= f = f a
Err e >>= f = Err e

-- a step that has a name: what a call answered
unfoldable pub bind : {A B : Type 0} → A → (A → B) → B
bind a k = k a
