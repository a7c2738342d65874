-- The order's smallest examples: how many bytes a text goes. A position counts from 1.
use Prim.Native.Nat.{ℕ, ◌-◌}
use mathlib.Core.Path.{◌≡◌, refl}
use Prim.Native.String.{String}
use Rattle.std.specs.Prelude.{Ok, Err}
use Rattle.text_bytes.specs.Bytes.{within}
use Rattle.text_bytes.specs.Moves.{place}
use Rattle.text_bytes.specs.Scan.{run, scan}
use Rattle.text_bytes.specs.Words.{ascii, lower_of}
use Rattle.shapes.specs.Walk.{signed, digits, dot, fraction, act, ends, step, all_end, walk}
use Rattle.strict.specs.Answer.{furthest, marked, marked_at, is_shaped, strict_of}

abbrev Stop : String → ℕ → Type 0
Stop t p = strict_of (ascii t) ≡ Err (place (p - 1))

abbrev Read : String → Type 0
Read t = strict_of (ascii t) ≡ Ok tt

module _ where
  refused : Stop "rgb(1.0,2,3)" 8 × (Stop "rgb(1,2.0,3)" 8 × (Stop "rgb(1.0 ,2,3)" 8 × (Stop "#1234" 6 × (Stop "#1234 " 6 × (Stop "#12345678" 8 × (Stop "rgb(1,2,3,4)" 10
      × (Stop "rgb(1,2,3,)" 10 × (Stop "rgba(1,2,3)" 11 × (Stop "rgb(1e0,2,3)" 6 × (Stop "rgb(1 2 3)" 7 × (Stop "rgb(1-2-3)" 6 × (Stop "hsl(120,100,50)" 12 × Stop "hsl(0,1%,1)" 11))))))))))))
  unfolding signed digits dot fraction act ends step all_end walk furthest marked marked_at is_shaped strict_of within run scan lower_of
  refused = (refl, (refl, (refl, (refl, (refl, (refl, (refl, (refl, (refl, (refl, (refl, (refl, (refl, refl)))))))))))))

  domain : Stop "hsl(.00000000000000000000000e1,0%,0%)" 28
  unfolding signed digits dot fraction act ends step all_end walk furthest marked marked_at is_shaped strict_of within run scan lower_of
  domain = refl

  kept : Read " rGb( 1 , 2,+03 ) " × (Read "RGBA(1%,2%,3%,.5)" × (Read "hsl(-1.5,1%,2%)" × (Read "#aBc" × (Read "transparent" × Read "red "))))
  unfolding signed digits dot fraction act ends step all_end walk furthest marked marked_at is_shaped strict_of within run scan lower_of
  kept = (refl, (refl, (refl, (refl, (refl, refl)))))
